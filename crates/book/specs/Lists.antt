-- Rows and items by their numbers in a list. Assumes nothing.
use Rattle.std.specs.Prelude.{◌≡◌, refl, List, [], ◌∷◌, ◌++◌, ℕ, zero, suc, ◌+◌, ◌≤◌, ◌<◌, length, take, drop, eqb}
use Rattle.std.proofs.Common.{sym, ap, ◌∙◌, arith, eqb-true, eq-eqb, ne_eqb}
use Rattle.std.proofs.Math.Option.{none, some}
use Rattle.words.specs.Pick.{bool}
use Rattle.model.specs.Base.{nth, occurs}
use Rattle.model.specs.State.{Body, Row}
use Rattle.model.specs.Book.{find, drop_id, swap_id}
use Rattle.model.specs.WellFormed.{IdsRise}
use Rattle.model.proofs.Counting.{bit_same, nth_occurs}
use Rattle.model.proofs.Tests.{some_same}

module _ {A : Type 0} where
  pub nothing {ℓ} : {C : Type ℓ} (a : A) → none ≡ some a → C
  nothing a e = let z : ◌≡◌ {A = ℕ} 0 1 = cc in absurd (omega arith)

  pub nth_below : (l : List A) (k : ℕ) (a : A) → nth l k ≡ some a → k < length l
  nth_below [] k a e = nothing a e
  nth_below (x ∷ l) zero a e = omega arith
  nth_below (x ∷ l) (suc k) a e = omega (arith, nth_below l k a e)

  -- what stands there is one
  pub nth_one : (l : List A) (k : ℕ) (a b : A) → nth l k ≡ some a → nth l k ≡ some b → a ≡ b
  nth_one l k a b e d = some_same a b (sym e ∙ d)

  pub nth_front : (l k : List A) (j : ℕ) → j < length l → nth (l ++ k) j ≡ nth l j
  nth_front [] k j h = absurd (omega arith)
  nth_front (x ∷ l) k zero h = refl
  nth_front (x ∷ l) k (suc j) h = nth_front l k j (omega arith)

  pub nth_last : (l : List A) (x : A) → nth (l ++ (x ∷ [])) (length l) ≡ some x
  nth_last [] x = refl
  nth_last (y ∷ l) x = nth_last l x

  pub nth_take : (n : ℕ) (l : List A) (j : ℕ) → j < n → nth (take n l) j ≡ nth l j
  nth_take zero l j h = absurd (omega arith)
  nth_take (suc n) [] j h = refl
  nth_take (suc n) (x ∷ l) zero h = refl
  nth_take (suc n) (x ∷ l) (suc j) h = nth_take n l j (omega arith)

  pub take_more : (n : ℕ) (l : List A) (a : A) → nth l n ≡ some a → take (suc n) l ≡ take n l ++ (a ∷ [])
  take_more n [] a e = nothing a e
  take_more zero (x ∷ l) a e = rw (some_same x a e)
  take_more (suc n) (x ∷ l) a e = ap (λ (t : List A). x ∷ t) (take_more n l a e)

-- ---- numbers in a list

-- a number that stands once stands in one place
pub nth_once : (l : List ℕ) (i j k : ℕ) → occurs k l ≤ 1 → nth l i ≡ some k → nth l j ≡ some k → i ≡ j
nth_once [] i j k h d e = nothing k e
nth_once (x ∷ l) zero zero k h d e = refl
nth_once (x ∷ l) zero (suc j) k h d e = absurd (omega (arith, bit_same k x (sym (some_same x k d)), nth_occurs l j k e))
nth_once (x ∷ l) (suc i) zero k h d e = absurd (omega (arith, bit_same k x (sym (some_same x k e)), nth_occurs l i k d))
nth_once (x ∷ l) (suc i) (suc j) k h d e = ap suc (nth_once l i j k (omega arith) d e)

pub occurs_drop : (i : ℕ) (l : List ℕ) (k : ℕ) → occurs k (drop i l) ≤ occurs k l
occurs_drop zero l k = omega arith
occurs_drop (suc i) [] k = omega arith
occurs_drop (suc i) (x ∷ l) k = omega (arith, occurs_drop i l k)

-- and not among those before it
pub occurs_before : (n : ℕ) (l : List ℕ) (k : ℕ) → nth l n ≡ some k → occurs k l ≤ 1 → occurs k (take n l) ≡ 0
occurs_before n [] k e h = nothing k e
occurs_before zero (x ∷ l) k e h = refl
occurs_before (suc n) (x ∷ l) k e h = omega (arith, occurs_before n l k e (omega arith), nth_occurs l n k e)

-- ---- rows by rising id

pub ids_at : (lo hi : ℕ) (rs : List Row) (j : ℕ) (r : Row) → IdsRise lo rs hi → nth rs j ≡ some r → lo ≤ r.id
ids_at lo hi [] j r h e = nothing r e
ids_at lo hi (q ∷ rs) zero r h e = rw (← some_same q r e) h.0
ids_at lo hi (q ∷ rs) (suc j) r h e = omega (arith, h.0, ids_at (suc q.id) hi rs j r h.1 e)

pub ids_rise : (lo hi : ℕ) (rs : List Row) (j k : ℕ) (r q : Row) → IdsRise lo rs hi → nth rs j ≡ some r → nth rs k ≡ some q → j < k → r.id < q.id
ids_rise lo hi [] j k r q h d e l = nothing r d
ids_rise lo hi (x ∷ rs) j zero r q h d e l = absurd (omega arith)
ids_rise lo hi (x ∷ rs) zero (suc k) r q h d e l = omega (arith, ap (λ (y : Row). y.id) (some_same x r d), ids_at (suc x.id) hi rs k q h.1 e)
ids_rise lo hi (x ∷ rs) (suc j) (suc k) r q h d e l = ids_rise (suc x.id) hi rs j k r q h.1 d e (omega arith)

-- one id has one place
pub ids_apart : (lo hi : ℕ) (rs : List Row) (j k : ℕ) (r q : Row) → IdsRise lo rs hi → nth rs j ≡ some r → nth rs k ≡ some q → r.id ≡ q.id → j ≡ k
ids_apart lo hi [] j k r q h d e i = nothing r d
ids_apart lo hi (x ∷ rs) zero zero r q h d e i = refl
ids_apart lo hi (x ∷ rs) zero (suc k) r q h d e i = absurd (omega (arith, ap (λ (y : Row). y.id) (some_same x r d), ids_at (suc x.id) hi rs k q h.1 e))
ids_apart lo hi (x ∷ rs) (suc j) zero r q h d e i = absurd (omega (arith, ap (λ (y : Row). y.id) (some_same x q e), ids_at (suc x.id) hi rs j r h.1 d))
ids_apart lo hi (x ∷ rs) (suc j) (suc k) r q h d e i = ap suc (ids_apart (suc x.id) hi rs j k r q h.1 d e i)

pub find_nth : (lo hi : ℕ) (rs : List Row) (j i : ℕ) (b : Body) → IdsRise lo rs hi → nth rs j ≡ some (record { id = i; body = b }) → find i rs ≡ some b
find_nth lo hi [] j i b h e = nothing (record { id = i; body = b }) e
find_nth lo hi (r ∷ rs) zero i b h e =
    let q : r ≡ record { id = i; body = b } = some_same r (record { id = i; body = b }) e in rw (q, eq-eqb i i refl)
find_nth lo hi (r ∷ rs) (suc j) i b h e =
    rw (ne_eqb r.id i (λ z. omega (arith, ids_at (suc r.id) hi rs j (record { id = i; body = b }) h.1 e))) (find_nth (suc r.id) hi rs j i b h.1 e)

pub nth_find : (rs : List Row) (i : ℕ) (b : Body) → find i rs ≡ some b → (j : ℕ) × (nth rs j ≡ some (record { id = i; body = b }))
nth_find [] i b e = nothing b e
nth_find (r ∷ rs) i b e = bool (eqb r.id i)
    (λ q. let d : some r.body ≡ some b = rw q at e in
    let y : r.body ≡ b = some_same r.body b d in let z : r.id ≡ i = eqb-true r.id i q in (0, rw (← y, ← z)))
    (λ q. let p = nth_find rs i b (rw q at e) in (suc p.0, p.1))

-- ---- a row that leaves

drop_under : (lo hi i : ℕ) (rs : List Row) → IdsRise lo rs hi → i < lo → drop_id i rs ≡ rs
drop_under lo hi i [] h l = refl
drop_under lo hi i (r ∷ rs) h l = rw (ne_eqb r.id i (λ z. omega (arith, h.0))) (ap (λ (t : List Row). r ∷ t) (drop_under (suc r.id) hi i rs h.1 (omega (arith, h.0))))

module _ (i : ℕ) (b : Body) where
  abbrev pub it : Row
  it = record { id = i; body = b }

  -- the rows before it keep their ranks, those after it come one down
  pub drop_before : (lo hi : ℕ) (rs : List Row) (k j : ℕ) → IdsRise lo rs hi → nth rs k ≡ some it → j < k → nth (drop_id i rs) j ≡ nth rs j
  drop_before lo hi [] k j h e l = refl
  drop_before lo hi (r ∷ rs) zero j h e l = absurd (omega arith)
  drop_before lo hi (r ∷ rs) (suc k) zero h e l = rw (ne_eqb r.id i (λ z. omega (arith, ids_at (suc r.id) hi rs k it h.1 e)))
  drop_before lo hi (r ∷ rs) (suc k) (suc j) h e l =
      rw (ne_eqb r.id i (λ z. omega (arith, ids_at (suc r.id) hi rs k it h.1 e))) (drop_before (suc r.id) hi rs k j h.1 e (omega arith))

  pub drop_after : (lo hi : ℕ) (rs : List Row) (k j : ℕ) → IdsRise lo rs hi → nth rs k ≡ some it → k ≤ j → nth (drop_id i rs) j ≡ nth rs (suc j)
  drop_after lo hi [] k j h e l = refl
  drop_after lo hi (r ∷ rs) zero j h e l = let q : r.id ≡ i = ap (λ (y : Row). y.id) (some_same r it e) in
      rw (eq-eqb r.id i q) (ap (λ (t : List Row). nth t j) (drop_under (suc r.id) hi i rs h.1 (omega arith)))
  drop_after lo hi (r ∷ rs) (suc k) zero h e l = absurd (omega arith)
  drop_after lo hi (r ∷ rs) (suc k) (suc j) h e l =
      rw (ne_eqb r.id i (λ z. omega (arith, ids_at (suc r.id) hi rs k it h.1 e))) (drop_after (suc r.id) hi rs k j h.1 e (omega arith))

  pub drop_one : (lo hi : ℕ) (rs : List Row) (k : ℕ) → IdsRise lo rs hi → nth rs k ≡ some it → suc (length (drop_id i rs)) ≡ length rs
  drop_one lo hi [] k h e = nothing it e
  drop_one lo hi (r ∷ rs) zero h e = let q : r.id ≡ i = ap (λ (y : Row). y.id) (some_same r it e) in
      rw (eq-eqb r.id i q) (ap (λ (t : List Row). suc (length t)) (drop_under (suc r.id) hi i rs h.1 (omega arith)))
  drop_one lo hi (r ∷ rs) (suc k) h e =
      rw (ne_eqb r.id i (λ z. omega (arith, ids_at (suc r.id) hi rs k it h.1 e))) (ap suc (drop_one (suc r.id) hi rs k h.1 e))

-- ---- a row with another body

swap_under : (lo hi i : ℕ) (b : Body) (rs : List Row) → IdsRise lo rs hi → i < lo → swap_id i b rs ≡ rs
swap_under lo hi i b [] h l = refl
swap_under lo hi i b (r ∷ rs) h l = rw (ne_eqb r.id i (λ z. omega (arith, h.0))) (ap (λ (t : List Row). r ∷ t) (swap_under (suc r.id) hi i b rs h.1 (omega (arith, h.0))))

module _ (i : ℕ) (b c : Body) where
  pub swap_at : (lo hi : ℕ) (rs : List Row) (k : ℕ) → IdsRise lo rs hi → nth rs k ≡ some (it i b) → nth (swap_id i c rs) k ≡ some (it i c)
  swap_at lo hi [] k h e = nothing (it i b) e
  swap_at lo hi (r ∷ rs) zero h e = let q : r.id ≡ i = ap (λ (y : Row). y.id) (some_same r (it i b) e) in rw (eq-eqb r.id i q, q)
  swap_at lo hi (r ∷ rs) (suc k) h e =
      rw (ne_eqb r.id i (λ z. omega (arith, ids_at (suc r.id) hi rs k (it i b) h.1 e))) (swap_at (suc r.id) hi rs k h.1 e)

  pub swap_off : (lo hi : ℕ) (rs : List Row) (k j : ℕ) → IdsRise lo rs hi → nth rs k ≡ some (it i b) → (j ≡ k → ⊥) → nth (swap_id i c rs) j ≡ nth rs j
  swap_off lo hi [] k j h e n = refl
  swap_off lo hi (r ∷ rs) zero zero h e n = absurd (n refl)
  swap_off lo hi (r ∷ rs) zero (suc j) h e n = let q : r.id ≡ i = ap (λ (y : Row). y.id) (some_same r (it i b) e) in
      rw (eq-eqb r.id i q) (ap (λ (t : List Row). nth t j) (swap_under (suc r.id) hi i c rs h.1 (omega arith)))
  swap_off lo hi (r ∷ rs) (suc k) zero h e n = rw (ne_eqb r.id i (λ z. omega (arith, ids_at (suc r.id) hi rs k (it i b) h.1 e)))
  swap_off lo hi (r ∷ rs) (suc k) (suc j) h e n =
      rw (ne_eqb r.id i (λ z. omega (arith, ids_at (suc r.id) hi rs k (it i b) h.1 e))) (swap_off (suc r.id) hi rs k j h.1 e (λ z. n (ap suc z)))
