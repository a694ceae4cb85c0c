-- A run of numbers put at the head of a linked order, one by one. Assumes nothing.
use Rattle.std.specs.Prelude.{◌≡◌, refl, List, [], ◌∷◌, ℕ, zero, suc, ◌+◌, ◌-◌, ◌≤◌, ◌<◌}
use Rattle.std.proofs.Common.{ap, ◌∙◌, arith}
use Rattle.model.specs.Base.{occurs, range, push_all}
use Rattle.representation.specs.Represents.{Chain}
use Rattle.storage.specs.Order.{occurs_head, chain_leaves, chain_frame, apart}

-- the link before the first of an order at which n more numbers, from a on, are still put
abbrev pub before : ℕ → ℕ → ℕ
before zero a = 0
before (suc n) a = suc a

-- the link of the first, after n numbers from a on were put before the link h
abbrev pub top : ℕ → ℕ → ℕ → ℕ
top zero a h = h
top (suc n) a h = a + suc n

-- the links of the run: each number is followed by the one below it, and the lowest by the old order
pub record Run (next prev : ℕ → ℕ) (a n h : ℕ) : Type 0 where
  pub lowest : 0 < n → next a ≡ h
  pub nexts : (x : ℕ) → a < x → x < a + n → next x ≡ x
  pub prevs : (x : ℕ) → a ≤ x → x < a + n → prev x ≡ before (a + n - suc x) (suc x)

pub chain_run : (next prev : ℕ → ℕ) (n a h : ℕ) (l : List ℕ) → Run next prev a n h → Chain next prev h (before n a) l → Chain next prev (top n a h) 0 (push_all (range a n) l)
chain_run next prev zero a h l r c = c
chain_run next prev (suc n) a h l r c =
    let left : a + suc n - suc a ≡ n = omega arith in
    let p : prev a ≡ before n (suc a) = r.prevs a (omega arith) (omega arith) ∙ ap (λ (k : ℕ). before k (suc a)) left in
    let rest : Chain next prev (next a) (suc a) l = rw (r.lowest (omega arith)) c in
    let i = chain_run next prev n (suc a) (suc a) (a ∷ l) (record {
      lowest = λ k. r.nexts (suc a) (omega arith) (omega arith);
      nexts = λ x k m. r.nexts x (omega arith) (omega arith);
      prevs = λ x k m. let e : a + suc n - suc x ≡ suc a + n - suc x = omega arith in r.prevs x (omega arith) (omega arith) ∙ ap (λ (j : ℕ). before j (suc x)) e;
    }) (refl, p, rest) in
    rw (← top_step n a) i
  where
    top_step : (k a : ℕ) → top k (suc a) (suc a) ≡ a + suc k
    top_step zero a = omega arith
    top_step (suc k) a = omega arith

-- an order whose first has another link before it
pub chain_behind : (next prev next' prev' : ℕ → ℕ) (h q : ℕ) (l : List ℕ) → Chain next prev h 0 l → ((z : ℕ) → 0 < occurs z l → next' z ≡ next z)
    → ((z : ℕ) → 0 < occurs z l → h ≡ suc z → prev' z ≡ q) → ((z : ℕ) → 0 < occurs z l → (h ≡ suc z → ⊥) → prev' z ≡ prev z) → Chain next' prev' h q l
chain_behind next prev next' prev' h q [] c ns ph po = c
chain_behind next prev next' prev' h q (y ∷ l) c ns ph po = (
  c.0,
  ph y (occurs_head y l) c.0,
  rw (ns y (occurs_head y l))
      (chain_frame next prev next' prev' (next y) (suc y) l c.2
      (λ z i. (ns z (omega arith), po z (omega arith) (λ e. apart l z y (λ g. omega (arith, chain_leaves next prev y l c.2)) (omega arith))))),
)
