-- Linked orders: laws of Chain and Linked. A link is a number plus 1, and 0 is none. Assumes nothing.
use Rattle.std.specs.Prelude.{◌≡◌, refl, ◌⊎◌, Bool, true, false, List, [], ◌∷◌, ◌++◌, ℕ, zero, suc, ◌-◌, ◌≤◌, ◌<◌, length, eqb}
use Rattle.std.proofs.Common.{sym, ap, ◌∙◌, inl, inr, ⊎_elim, arith, eq-eqb, ne_eqb, eqb-true}
use Rattle.std.proofs.Math.Nat.{suc_inj}
use Rattle.std.proofs.lemmas.Bool.{eqb-false}
use Rattle.words.specs.Pick.{pick}
use Rattle.model.specs.Base.{bit, occurs, without, sum}
use Rattle.representation.specs.Represents.{Chain, Linked}
use Rattle.model.proofs.Sums.{without_none, sum_add}
use Rattle.model.proofs.Tests.{bit_small}
use Rattle.model.proofs.Counting.{occurs_append, bit_same, bit_other}

-- two numbers are equal or not
pub same? : (a b : ℕ) → (a ≡ b) ⊎ (a ≡ b → ⊥)
same? a b = go (eqb a b) refl
  where
    go : (t : Bool) → eqb a b ≡ t → (a ≡ b) ⊎ (a ≡ b → ⊥)
    go true e = inl (eqb-true a b e)
    go false e = inr (eqb-false a b e)

pub occurs_head : (x : ℕ) (l : List ℕ) → 0 < occurs x (x ∷ l)
occurs_head x l = omega (arith, bit_same x x refl)

-- no number stands in l twice
abbrev pub NoDup : List ℕ → Type 0
NoDup l = (x : ℕ) → occurs x l ≤ 1

-- ---- the head determines the list

pub chain_length : (next prev : ℕ → ℕ) (h p q : ℕ) (l m : List ℕ) → Chain next prev h p l → Chain next prev h q m → length l ≡ length m
chain_length next prev h p q [] [] c d = refl
chain_length next prev h p q [] (y ∷ m) c d = absurd (omega arith)
chain_length next prev h p q (x ∷ l) [] c d = absurd (omega arith)
chain_length next prev h p q (x ∷ l) (y ∷ m) c d =
    let e : y ≡ x = omega arith in
    ap suc (chain_length next prev (next x) (suc x) (suc x) l m c.2 (rw e at d.2))

-- the slots that k steps from the link h come by
abbrev pub list_from : (ℕ → ℕ) → ℕ → ℕ → List ℕ
list_from next zero h = []
list_from next (suc k) h = (h - 1) ∷ list_from next k (next (h - 1))

-- from each slot of a chain a shorter chain goes on
pub chain_from : (next prev : ℕ → ℕ) (h p : ℕ) (l : List ℕ) (x : ℕ) → Chain next prev h p l → 0 < occurs x l
    → (m : List ℕ) × Chain next prev (next x) (suc x) m × (length m < length l)
chain_from next prev h p [] x c i = absurd (omega arith)
chain_from next prev h p (y ∷ l) x c i =
    ⊎_elim
    (λ (e : x ≡ y). (l, rw e c.2, omega arith))
    (λ e. let r = chain_from next prev (next y) (suc y) l x c.2 (omega (arith, bit_other x y e)) in (r.0, r.1, omega arith))
    (same? x y)

-- a chain that goes on from x does not come back to x: from the second visit the rest would be as long as from the first
pub chain_leaves : (next prev : ℕ → ℕ) (x : ℕ) (l : List ℕ) → Chain next prev (next x) (suc x) l → occurs x l ≡ 0
chain_leaves next prev x l c =
    ⊎_elim
    (λ z. z)
    (λ z. let r = chain_from next prev (next x) (suc x) l x c (omega arith) in
    absurd (omega (arith, chain_length next prev (next x) (suc x) (suc x) l r.0 c r.1)))
    (same? (occurs x l) 0)

-- so a chain, which ends, has no slot twice
pub chain_once : (next prev : ℕ → ℕ) (h p : ℕ) (l : List ℕ) → Chain next prev h p l → NoDup l
chain_once next prev h p [] c x = omega arith
chain_once next prev h p (y ∷ l) c x =
    ⊎_elim
    (λ (e : x ≡ y). let z : occurs x l ≡ 0 = rw e (chain_leaves next prev y l c.2) in omega (arith, bit_small (eqb x y)))
    (λ e. omega (arith, bit_other x y e, chain_once next prev (next y) (suc y) l c.2 x))
    (same? x y)

-- ---- framing: what changes no slot of the list keeps the chain

pub chain_frame : (next prev next' prev' : ℕ → ℕ) (h p : ℕ) (l : List ℕ) → Chain next prev h p l
    → ((z : ℕ) → 0 < occurs z l → (next' z ≡ next z) × (prev' z ≡ prev z)) → Chain next' prev' h p l
chain_frame next prev next' prev' h p [] c s = c
chain_frame next prev next' prev' h p (x ∷ l) c s =
    let sx = s x (occurs_head x l) in
    (c.0, sx.1 ∙ c.1, rw sx.0 (chain_frame next prev next' prev' (next x) (suc x) l c.2 (λ z i. s z (omega arith))))

-- ---- what the links of a slot of the list are

pub next_in : (next prev : ℕ → ℕ) (h p : ℕ) (l : List ℕ) (x z : ℕ) → Chain next prev h p l → 0 < occurs x l → next x ≡ suc z → 0 < occurs z l
next_in next prev h p [] x z c i e = absurd (omega arith)
next_in next prev h p (y ∷ []) x z c i e =
    ⊎_elim
    (λ (q : x ≡ y). let f : next x ≡ next y = ap next q in absurd (omega arith))
    (λ q. absurd (omega (arith, bit_other x y q)))
    (same? x y)
next_in next prev h p (y ∷ (w ∷ l)) x z c i e =
    ⊎_elim
    (λ (q : x ≡ y). let f : next x ≡ next y = ap next q in omega (arith, bit_same z w (omega arith)))
    (λ q. let r = next_in next prev (next y) (suc y) (w ∷ l) x z c.2 (omega (arith, bit_other x y q)) e in omega arith)
    (same? x y)

pub prev_in : (next prev : ℕ → ℕ) (h p : ℕ) (l : List ℕ) (x : ℕ) → Chain next prev h p l → 0 < occurs x l
    → (prev x ≡ p) ⊎ ((z : ℕ) × (prev x ≡ suc z) × (0 < occurs z l))
prev_in next prev h p [] x c i = absurd (omega arith)
prev_in next prev h p (y ∷ l) x c i =
    ⊎_elim
    (λ (q : x ≡ y). inl (ap prev q ∙ c.1))
    (λ q. ⊎_elim
    (λ r. inr (y, r, occurs_head y l))
    (λ r. inr (r.0, r.1, omega arith))
    (prev_in next prev (next y) (suc y) l x c.2 (omega (arith, bit_other x y q))))
    (same? x y)

-- ---- push at the head

-- the links after the slot x was put before the link h
pub record Pushed (next prev next' prev' : ℕ → ℕ) (h x : ℕ) : Type 0 where
  pub next_at : next' x ≡ h
  pub next_off : (z : ℕ) → (z ≡ x → ⊥) → next' z ≡ next z
  pub prev_at : prev' x ≡ 0
  pub prev_head : (z : ℕ) → (z ≡ x → ⊥) → h ≡ suc z → prev' z ≡ suc x
  pub prev_off : (z : ℕ) → (z ≡ x → ⊥) → (h ≡ suc z → ⊥) → prev' z ≡ prev z

pub chain_push : (next prev next' prev' : ℕ → ℕ) (h x : ℕ) (l : List ℕ) → Pushed next prev next' prev' h x
    → Chain next prev h 0 l → occurs x l ≡ 0 → Chain next' prev' (suc x) 0 (x ∷ l)
chain_push next prev next' prev' h x [] u c o = (refl, u.prev_at, u.next_at ∙ c)
chain_push next prev next' prev' h x (y ∷ l) u c o =
    let n : y ≡ x → ⊥ = λ e. omega (arith, bit_same x y (sym e)) in (
      refl,
      u.prev_at,
      (
        u.next_at ∙ c.0,
        u.prev_head y n c.0,
        rw (u.next_off y n)
            (chain_frame next prev next' prev' (next y) (suc y) l c.2
            (λ z i.
            let m : z ≡ x → ⊥ = λ e. let f : occurs z l ≡ occurs x l = ap (λ (k : ℕ). occurs k l) e in omega arith in (
              u.next_off z m,
              u.prev_off z m (λ e. let f : occurs z l ≡ occurs y l = ap (λ (k : ℕ). occurs k l) (omega arith) in omega (arith, chain_leaves next prev y l c.2)),
            ))),
      ),
    )

-- ---- unlink

-- the links after the slot x was taken out: what it had before and after it is linked, and its own links are whatever they are
pub record Unlinked (next prev next' prev' : ℕ → ℕ) (x : ℕ) : Type 0 where
  pub next_at : (z : ℕ) → (z ≡ x → ⊥) → prev x ≡ suc z → next' z ≡ next x
  pub next_off : (z : ℕ) → (z ≡ x → ⊥) → (prev x ≡ suc z → ⊥) → next' z ≡ next z
  pub prev_at : (z : ℕ) → (z ≡ x → ⊥) → next x ≡ suc z → prev' z ≡ prev x
  pub prev_off : (z : ℕ) → (z ≡ x → ⊥) → (next x ≡ suc z → ⊥) → prev' z ≡ prev z

-- two numbers that stand in a list differently often are two
pub apart : (l : List ℕ) (a b : ℕ) → (occurs a l ≡ occurs b l → ⊥) → a ≡ b → ⊥
apart l a b n e = n (ap (λ (k : ℕ). occurs k l) e)

-- what is linked on from an x that is unlinked
chain_skip : (next prev next' prev' : ℕ → ℕ) (p x : ℕ) (b : List ℕ) → Unlinked next prev next' prev' x
    → prev x ≡ p → Chain next prev (next x) (suc x) b → ((z : ℕ) → p ≡ suc z → occurs z b ≡ 0) → Chain next' prev' (next x) p b
chain_skip next prev next' prev' p x [] u e c o = c
chain_skip next prev next' prev' p x (y ∷ b) u e c o =
    let out : occurs x (y ∷ b) ≡ 0 = chain_leaves next prev x (y ∷ b) c in
    let ny : y ≡ x → ⊥ = apart (y ∷ b) y x (λ f. omega (arith, occurs_head y b)) in
    let py : prev x ≡ suc y → ⊥ = λ f. omega (arith, occurs_head y b, o y (omega arith)) in (
      c.0,
      u.prev_at y ny c.0 ∙ e,
      rw (u.next_off y ny py)
          (chain_frame next prev next' prev' (next y) (suc y) b c.2
          (λ z i.
          let nz : z ≡ x → ⊥ = apart (y ∷ b) z x (λ f. omega arith) in (
            u.next_off z nz (λ f. omega (arith, o z (omega arith))),
            u.prev_off z nz (λ f. apart b z y (λ g. omega (arith, chain_leaves next prev y b c.2)) (omega arith)),
          ))),
    )

pub chain_unlink : (next prev next' prev' : ℕ → ℕ) (x h p h' : ℕ) (a b : List ℕ) → Unlinked next prev next' prev' x
    → Chain next prev h p (a ++ x ∷ b) → ((z : ℕ) → p ≡ suc z → occurs z (a ++ x ∷ b) ≡ 0)
    → (prev x ≡ p → h' ≡ next x) → ((prev x ≡ p → ⊥) → h' ≡ h) → Chain next' prev' h' p (a ++ b)
chain_unlink next prev next' prev' x h p h' [] b u c o first other =
    rw (first c.1) (chain_skip next prev next' prev' p x b u c.1 c.2 (λ z e. omega (arith, o z e)))
chain_unlink next prev next' prev' x h p h' (w ∷ a) b u c o first other =
    let t : List ℕ = a ++ x ∷ b in
    let xin : 0 < occurs x t = omega (arith, occurs_append x a (x ∷ b), occurs_head x b) in
    let wout : occurs w t ≡ 0 = chain_leaves next prev w t c.2 in
    let nw : w ≡ x → ⊥ = apart t w x (λ f. omega arith) in
    let later : prev x ≡ p → ⊥ = λ e. ⊎_elim
    (λ f. omega (arith, o w (omega arith), occurs_head w t))
    (λ r. omega (arith, o r.0 (omega arith)))
    (prev_in next prev (next w) (suc w) t x c.2 xin) in (
      other later ∙ c.0,
      u.prev_off w nw (λ f. omega (arith, next_in next prev (next w) (suc w) t x w c.2 xin f)) ∙ c.1,
      chain_unlink next prev next' prev' x (next w) (suc w) (next' w) a b u c.2
          (λ z e. rw (suc_inj e) at wout)
          (u.next_at w nw) (u.next_off w nw),
    )

-- ---- a list without a number

without_head : (x y : ℕ) (l : List ℕ) → x ≡ y → occurs x l ≡ 0 → without x (y ∷ l) ≡ l
without_head x y l e o = rw (eq-eqb x y e) (without_none x l o)

without_other : (x y : ℕ) (l : List ℕ) → (x ≡ y → ⊥) → without x (y ∷ l) ≡ y ∷ without x l
without_other x y l e = rw (ne_eqb x y e)

-- a list parts at each number that stands in it once
pub parts : (x : ℕ) (l : List ℕ) → occurs x l ≡ 1 → (a : List ℕ) × (b : List ℕ) × (l ≡ a ++ x ∷ b) × (without x l ≡ a ++ b)
parts x [] i = absurd (omega arith)
parts x (y ∷ l) i =
    ⊎_elim
    (λ (e : x ≡ y). let o : occurs x l ≡ 0 = omega (arith, bit_same x y e) in ([], l, ap (λ (k : ℕ). k ∷ l) (sym e), without_head x y l e o))
    (λ (e : x ≡ y → ⊥). let o : occurs x l ≡ 1 = omega (arith, bit_other x y e) in let r = parts x l o in
    (y ∷ r.0, r.1, ap (λ (m : List ℕ). y ∷ m) r.2, without_other x y l e ∙ ap (λ (m : List ℕ). y ∷ m) r.3))
    (same? x y)

-- the head is one of the list
pub head_in : (next prev : ℕ → ℕ) (h p : ℕ) (l : List ℕ) (z : ℕ) → Chain next prev h p l → h ≡ suc z → 0 < occurs z l
head_in next prev h p [] z c e = absurd (omega arith)
head_in next prev h p (y ∷ l) z c e = omega (arith, bit_same z y (omega arith))

-- a chain without x, wherever x stands in it
pub chain_without : (next prev next' prev' : ℕ → ℕ) (x h h' : ℕ) (l : List ℕ) → Unlinked next prev next' prev' x → Chain next prev h 0 l → 0 < occurs x l
    → (prev x ≡ 0 → h' ≡ next x) → ((prev x ≡ 0 → ⊥) → h' ≡ h) → Chain next' prev' h' 0 (without x l)
chain_without next prev next' prev' x h h' l u c i first other =
    let q = parts x l (omega (arith, chain_once next prev h 0 l c x)) in
    rw q.3 (chain_unlink next prev next' prev' x h 0 h' q.0 q.1 u (rw q.2 at c) (λ z e. absurd (omega arith)) first other)

-- when x leaves, the number before it goes on with the next one, and that after it goes back to the previous one
pub chain_out : (next prev : ℕ → ℕ) (x h : ℕ) (l : List ℕ) → Chain next prev h 0 l → 0 < occurs x l
    → Chain (λ z. pick (eqb (prev x) (suc z)) (next x) (next z)) (λ z. pick (eqb (next x) (suc z)) (prev x) (prev z)) (pick (eqb (prev x) 0) (next x) h) 0 (without x l)
chain_out next prev x h l c i = chain_without next prev _ _ x h _ l (record {
  next_at = λ z n e. rw (eq-eqb (prev x) (suc z) e);
  next_off = λ z n e. rw (ne_eqb (prev x) (suc z) e);
  prev_at = λ z n e. rw (eq-eqb (next x) (suc z) e);
  prev_off = λ z n e. rw (ne_eqb (next x) (suc z) e);
}) c i (λ e. rw (eq-eqb (prev x) 0 e)) (λ e. rw (ne_eqb (prev x) 0 e))

-- the number before x is one of the list
pub chain_before : (next prev : ℕ → ℕ) (h : ℕ) (l : List ℕ) (x z : ℕ) → Chain next prev h 0 l → 0 < occurs x l → prev x ≡ suc z → 0 < occurs z l
chain_before next prev h l x z c i e = ⊎_elim
    (λ (y : prev x ≡ 0). absurd (omega arith))
    (λ y. let d : z ≡ y.0 = omega (arith, y.1) in rw d y.2)
    (prev_in next prev h 0 l x c i)

-- ---- a list linked forward only

pub linked_frame : (next next' : ℕ → ℕ) (h : ℕ) (l : List ℕ) → Linked next h l → ((z : ℕ) → 0 < occurs z l → next' z ≡ next z) → Linked next' h l
linked_frame next next' h [] c s = c
linked_frame next next' h (x ∷ l) c s = (c.0, rw (s x (occurs_head x l)) (linked_frame next next' (next x) l c.1 (λ z i. s z (omega arith))))

-- ---- a list of numbers below n, each once, is no longer than n

sum_hit : (n x : ℕ) → x < n → 1 ≤ (sum n λ k. bit (eqb k x))
sum_hit zero x h = absurd (omega arith)
sum_hit (suc n) x h = ⊎_elim (λ (e : n ≡ x). omega (arith, bit_same n x e)) (λ (e : n ≡ x → ⊥). omega (arith, sum_hit n x (omega arith))) (same? n x)

sum_once : (n : ℕ) (f : ℕ → ℕ) → ((k : ℕ) → f k ≤ 1) → sum n f ≤ n
sum_once zero f h = omega arith
sum_once (suc n) f h = omega (arith, sum_once n f h, h n)

length_sum : (n : ℕ) (l : List ℕ) → ((k : ℕ) → 0 < occurs k l → k < n) → length l ≤ (sum n λ k. occurs k l)
length_sum n [] h = omega arith
length_sum n (x ∷ l) h = omega (arith, sum_add n (λ k. bit (eqb k x)) (λ k. occurs k l), sum_hit n x (h x (occurs_head x l)), length_sum n l (λ k i. h k (omega arith)))

pub length_below : (n : ℕ) (l : List ℕ) → NoDup l → ((k : ℕ) → 0 < occurs k l → k < n) → length l ≤ n
length_below n l d h = omega (arith, length_sum n l h, sum_once n (λ k. occurs k l) d)
