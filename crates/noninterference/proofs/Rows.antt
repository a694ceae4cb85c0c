-- The book: lookups and changes of rows in the state without the claim.
use Rattle.std.specs.Prelude.{◌≡◌, refl, true, false, List, [], ◌∷◌, ◌++◌, map, ℕ, suc, ◌≤◌, ◌<◌, length, ltb, eqb}
use Rattle.std.proofs.Common.{sym, ◌∙◌, arith, ltb-true, ltb-false, eqb-true, eq-eqb, ne_eqb}
use Rattle.std.proofs.Math.Option.{none, some}
use Rattle.std.proofs.lemmas.Bool.{eqb-false}
use Rattle.model.specs.Base.{member}
use Rattle.model.specs.State.{Entry, Body, Body.claim, Row}
use Rattle.model.specs.Book.{find, drop_id, swap_id, opens_in, any_open}
use Rattle.model.specs.Decision.{handles_of, distinct}
use Rattle.model.specs.WellFormed.{IdsRise}
use Rattle.noninterference.specs.Runs.{lowered, lower_row}
use Rattle.noninterference.specs.Erase.{erase_rows}
use Rattle.model.proofs.Tests.{bool, clash}
use Rattle.invariant.proofs.BookLemmas.{ids_order, ids_none}
use Rattle.noninterference.proofs.Basics.{lowered_eqb, lowered_below, lowered_member}

module _ (t i : ℕ) (p : i ≡ t → ⊥) where
  pub find_erase : (rs : List Row) → find (lowered t i) (erase_rows t rs) ≡ find i rs
  find_erase [] = refl
  find_erase (r ∷ rs) = bool (eqb r.id t)
      (λ e. let q : r.id ≡ t = eqb-true r.id t e in
      rw (e, ne_eqb r.id i (λ z. p (sym z ∙ q))) (find_erase rs))
      (λ e. rw (e, lowered_eqb t r.id i (eqb-false r.id t e) p, find_erase rs))

  pub drop_erase : (rs : List Row) → drop_id (lowered t i) (erase_rows t rs) ≡ erase_rows t (drop_id i rs)
  drop_erase [] = refl
  drop_erase (r ∷ rs) = bool (eqb r.id t)
      (λ e. let q : r.id ≡ t = eqb-true r.id t e in
      rw (e, ne_eqb r.id i (λ z. p (sym z ∙ q)), e) (drop_erase rs))
      (λ e. rw (e, lowered_eqb t r.id i (eqb-false r.id t e) p) (bool (eqb r.id i)
      (λ a. rw a (drop_erase rs))
      (λ a. rw (a, e, drop_erase rs))))

  pub swap_erase : (b : Body) (rs : List Row) → swap_id (lowered t i) b (erase_rows t rs) ≡ erase_rows t (swap_id i b rs)
  swap_erase b [] = refl
  swap_erase b (r ∷ rs) = bool (eqb r.id t)
      (λ e. let q : r.id ≡ t = eqb-true r.id t e in
      rw (e, ne_eqb r.id i (λ z. p (sym z ∙ q)), e) (swap_erase b rs))
      (λ e. rw (e, lowered_eqb t r.id i (eqb-false r.id t e) p) (bool (eqb r.id i)
      (λ a. rw (a, e, swap_erase b rs))
      (λ a. rw (a, e, swap_erase b rs))))

  -- and the claim's row stays
  pub find_drop : (rs : List Row) → find t (drop_id i rs) ≡ find t rs
  find_drop [] = refl
  find_drop (r ∷ rs) = bool (eqb r.id i)
      (λ e. rw (e, ne_eqb r.id t (λ z. p (sym (eqb-true r.id i e) ∙ z))) (find_drop rs))
      (λ e. rw (e, find_drop rs))

  pub find_swap : (b : Body) (rs : List Row) → find t (swap_id i b rs) ≡ find t rs
  find_swap b [] = refl
  find_swap b (r ∷ rs) = bool (eqb r.id i)
      (λ e. rw (e, ne_eqb r.id t (λ z. p (sym (eqb-true r.id i e) ∙ z))) (find_swap b rs))
      (λ e. rw (e, find_swap b rs))

  pub find_append : (b : Body) (rs : List Row) → find t (rs ++ (record { id = i; body = b } ∷ [])) ≡ find t rs
  find_append b [] = rw (ne_eqb i t p)
  find_append b (r ∷ rs) = rw (find_append b rs)

module _ (t : ℕ) where
  pub append_erase : (rs : List Row) (r : Row) → (r.id ≡ t → ⊥) → erase_rows t (rs ++ (r ∷ [])) ≡ erase_rows t rs ++ (lower_row t r ∷ [])
  append_erase [] r p = rw (ne_eqb r.id t p)
  append_erase (x ∷ xs) r p = bool (eqb x.id t)
      (λ e. rw e (append_erase xs r p))
      (λ e. rw (e, append_erase xs r p))

  pub length_erase : (rs : List Row) → length (erase_rows t rs) ≤ length rs
  length_erase [] = omega arith
  length_erase (r ∷ rs) = bool (eqb r.id t)
      (λ e. rw e (omega (arith, length_erase rs)))
      (λ e. rw e (omega (arith, length_erase rs)))

  -- parcels named by ids other than t
  pub handles_erase : (is : List ℕ) → member t is ≡ false → (rs : List Row) → handles_of (map (lowered t) is) (erase_rows t rs) ≡ handles_of is rs
  handles_erase [] m rs = refl
  handles_erase (i ∷ is) m rs = bool (eqb t i)
      (λ e. clash refl (rw e at m))
      (λ e. rw (find_erase t i (λ y. eqb-false t i e (sym y)) rs, handles_erase is (rw e at m) rs))

  pub distinct_erase : (is : List ℕ) → member t is ≡ false → distinct (map (lowered t) is) ≡ distinct is
  distinct_erase [] m = refl
  distinct_erase (i ∷ is) m = bool (eqb t i)
      (λ e. clash refl (rw e at m))
      (λ e. rw (lowered_member t i (λ y. eqb-false t i e (sym y)) is (rw e at m), distinct_erase is (rw e at m)))

  pub drop_twice : (rs : List Row) → drop_id t (drop_id t rs) ≡ drop_id t rs
  drop_twice [] = refl
  drop_twice (r ∷ rs) = bool (eqb r.id t) (λ e. rw e (drop_twice rs)) (λ e. rw (e, e, drop_twice rs))

  pub find_new : (b : Body) (rs : List Row) → find t rs ≡ none → find t (rs ++ (record { id = t; body = b } ∷ [])) ≡ some b
  find_new b [] p = rw (eq-eqb t t refl)
  find_new b (r ∷ rs) p = bool (eqb r.id t)
      (λ e. let z : some r.body ≡ none = rw e at p in cc)
      (λ e. rw e (find_new b rs (rw e at p)))

pub rise_below : (lo hi i : ℕ) (b : Body) (rs : List Row) → IdsRise lo rs hi → find i rs ≡ some b → i < hi
rise_below lo hi i b rs h e = bool (ltb i hi)
    (λ q. ltb-true i hi q)
    (λ q. let y : find i rs ≡ none = ids_none lo hi i rs h (ltb-false i hi q) in let z : ◌≡◌ {A = ℕ} 0 1 = cc in absurd (omega arith))

-- the rows of the state before a claim is made
pub erase_new : (lo n : ℕ) (b : Body) (rs : List Row) → IdsRise lo rs n → erase_rows n (rs ++ (record { id = n; body = b } ∷ [])) ≡ rs
erase_new lo n b [] h = rw (eq-eqb n n refl)
erase_new lo n b (r ∷ rs) h = let p : suc r.id ≤ n = ids_order (suc r.id) n rs h.1 in
    rw (ne_eqb r.id n (λ z. omega arith), lowered_below n r.id (omega arith), erase_new (suc r.id) n b rs h.1)

-- ids above the first row's are not t if t is at most that
open_above : (t c lo hi : ℕ) (rs : List Row) → IdsRise lo rs hi → t < lo → any_open c (erase_rows t rs) ≡ any_open c rs
open_above t c lo hi [] h p = refl
open_above t c lo hi (r ∷ rs) h p = rw (ne_eqb r.id t (λ z. omega arith), open_above t c (suc r.id) hi rs h.1 (omega arith))

-- a table other than the claim's has the same open rows
pub open_erase : (t b c lo hi : ℕ) (es : List Entry) → eqb c b ≡ false → (rs : List Row) → IdsRise lo rs hi → find t rs ≡ some (claim b es)
    → any_open c (erase_rows t rs) ≡ any_open c rs
open_erase t b c lo hi es n [] h e = cc
open_erase t b c lo hi es n (r ∷ rs) h e = bool (eqb r.id t)
    (λ q. let y : some r.body ≡ some (claim b es) = rw q at e in let x : r.body ≡ claim b es = cc in
    rw (q, x, n) (open_above t c (suc r.id) hi rs h.1 (omega (arith, eqb-true r.id t q))))
    (λ q. rw (q, open_erase t b c (suc r.id) hi es n rs h.1 (rw q at e)))

-- an open claim is open in its table
pub claim_open : (t b : ℕ) (es : List Entry) (rs : List Row) → find t rs ≡ some (claim b es) → any_open b rs ≡ true
claim_open t b es [] e = cc
claim_open t b es (r ∷ rs) e = bool (eqb r.id t)
    (λ q. let y : some r.body ≡ some (claim b es) = rw q at e in let x : r.body ≡ claim b es = cc in rw (x, eq-eqb b b refl))
    (λ q. rw (claim_open t b es rs (rw q at e)) (bool (opens_in b r.body) (λ w. rw w) (λ w. rw w)))
