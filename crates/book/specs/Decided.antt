-- Decisions by the number of a refusal, and what a represented state says of rows and ids. Assumes nothing.
use Rattle.std.specs.Prelude.{◌≡◌, refl, true, false, List, ℕ, zero, suc, ◌+◌, ◌^◌, ◌<◌, length, eqb}
use Rattle.std.proofs.Common.{ap, ◌∙◌, arith, ltb-true}
use Rattle.std.proofs.lemmas.Bool.{eqb-false}
use Rattle.model.specs.State.{State, last_id}
use Rattle.model.specs.Book.{free_row}
use Rattle.model.specs.Decision.{Decision, Decision.refusal}
use Rattle.layout.specs.declared.Shape.{Shape}
use Rattle.layout.specs.Layout.{index, rank, load}
use Rattle.representation.specs.Represents.{Rep}
use Rattle.storage.specs.Reps.{Held}
use Rattle.book.specs.Ops.{row_left, spare}

-- a decision by the number of its refusal, 0 for none
abbrev pub decided_by : ℕ → Decision → Decision
decided_by zero d = d
decided_by (suc n) d = refusal (suc n)

pub refused_when : (n : ℕ) (d a : Decision) → d ≡ decided_by n a → (n ≡ 0 → ⊥) → d ≡ refusal n
refused_when zero d a e ne = absurd (ne refl)
refused_when (suc n) d a e ne = e

pub accepted_when : (n : ℕ) (d a : Decision) → d ≡ decided_by n a → n ≡ 0 → d ≡ a
accepted_when zero d a e z = e
accepted_when (suc n) d a e z = absurd (omega arith)

pub id_after : (n : ℕ) → n < 2 ^ 64 → eqb n last_id ≡ false → n + 1 < 2 ^ 64
unfolding last_id
id_after n l e = omega (arith, eqb-false n 18446744073709551615 e)

module _ (ws : List ℕ) (sh : Shape) (s : State) (i : Rep ws sh s) where
  pub left_is : row_left (load ws sh) sh ≡ free_row s
  left_is = let r = i.reps.memory in rw (r.book.used, r.capacity)

  pub free_place : free_row s ≡ true → length s.book.rows < s.book.capacity
  free_place e = ltb-true (length s.book.rows) s.book.capacity e

  pub next_after : eqb s.book.next last_id ≡ false → s.book.next + 1 < 2 ^ 64
  next_after e = id_after s.book.next i.well_formed.ids.next e

module _ (ws : List ℕ) (sh : Shape) (s : State) (h : Held ws sh s) (free : length s.book.rows < s.book.capacity) where
  -- the place of the next row
  pub spare_low : spare (load ws sh) < sh.rows
  spare_low = let r = h.reps.memory in
      let e : spare (load ws sh) ≡ load ws sh (index (length s.book.rows)) = ap (λ (i : ℕ). load ws sh (index i)) r.book.used in
      omega (arith, (r.book.places (length s.book.rows) free).0, r.capacity)

  -- it is of no row in use
  pub spare_out : (i : ℕ) → i < length s.book.rows → load ws sh (index i) ≡ spare (load ws sh) → ⊥
  spare_out i l e = let r = h.reps.memory in
      let d : load ws sh (index i) ≡ load ws sh (index (length s.book.rows)) = e ∙ ap (λ (k : ℕ). load ws sh (index k)) r.book.used in
      let q : load ws sh (rank (load ws sh (index i))) ≡ load ws sh (rank (load ws sh (index (length s.book.rows)))) = ap (λ (k : ℕ). load ws sh (rank k)) d in
      omega (arith, (r.book.places i (omega arith)).1, (r.book.places (length s.book.rows) free).1)
