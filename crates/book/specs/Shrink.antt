-- A reservation keeps its first slots. Assumes nothing.
use Rattle.std.specs.Prelude.{◌≡◌, refl, true, List, [], ◌∷◌, ℕ, ◌-◌, ◌≤◌, ◌<◌, length, take}
use Rattle.std.proofs.Common.{sym, ap, ◌∙◌, arith, length-take-le, eq-eqb}
use Rattle.model.specs.State.{Body.reservation, State}
use Rattle.model.specs.Book.{swap_row}
use Rattle.layout.specs.declared.Shape.{Shape}
use Rattle.layout.specs.Layout.{Addr, row, item, load, in_row, load_save, upds, Write.at}
use Rattle.layout.specs.Fields.{slot_tag, slot_place, slot_position, row_id, row_kind, row_table, row_length, item_slot, item_operation}
use Rattle.representation.specs.Represents.{slot_word, BodyIs, is_marked}
use Rattle.storage.specs.Reps.{Held}
use Rattle.book.specs.Lists.{nth_below, nth_take}
use Rattle.book.specs.Places.{item_of, items_all}
use Rattle.book.specs.Ops.{shrink_w, Fills, fills_row}
use Rattle.book.specs.Find.{Fits, RowAt}
use Rattle.book.specs.Swap.{swap_held}

module _ (ws : List ℕ) (sh : Shape) (s : State) (h : Held ws sh s) (f : Fits s) (x i b : ℕ) (ks : List ℕ) (a : RowAt (load ws sh) s x i (reservation b ks)) (n : ℕ) (few : n ≤ length ks) where
  fills : Fills ws (shrink_w ws sh x n) sh x
  unfolding shrink_w
  fills = fills_row ws sh h.reps.shaped.room x row_length n

  sees : (g : Addr) → load (shrink_w ws sh x n) sh g ≡ upds (load ws sh) (at (row x row_length) n ∷ []) g
  unfolding shrink_w
  sees g = load_save ws sh h.reps.shaped.room (row x row_length) n (in_row sh x row_length (omega (arith, a.place, h.reps.memory.capacity)) (omega arith)) g

  count : load (shrink_w ws sh x n) sh (row x row_length) ≡ n
  count = sees (row x row_length) ∙ rw (eq-eqb x x refl)

  body : BodyIs (load (shrink_w ws sh x n) sh) x (reservation b (take n ks))
  body = let long : length (take n ks) ≡ n = length-take-le n ks few in (
    sees (row x row_kind) ∙ a.body.0,
    sees (row x row_table) ∙ a.body.1,
    count ∙ sym long,
    items_all (λ j k. load (shrink_w ws sh x n) sh (item x j item_slot) ≡ k) (take n ks) (λ j k e.
        let l : j < n = omega (arith, long, nth_below (take n ks) j k e) in
        sees (item x j item_slot) ∙ item_of (λ j k. load ws sh (item x j item_slot) ≡ k) ks a.body.3 j k (sym (nth_take n ks j l) ∙ e)),
  )

  -- A RESERVATION SHRINKS: no marked slot names a later position of it
  pub shrink_held : ((d k : ℕ) → d < s.table_count → is_marked ((s.tables d).slots k) ≡ true → slot_word (load ws sh) d k slot_place ≡ x → slot_word (load ws sh) d k slot_position < n)
      → Held (shrink_w ws sh x n) sh (swap_row i (reservation b (take n ks)) s)
  shrink_held under = swap_held ws (shrink_w ws sh x n) sh s h x fills f i (reservation b ks) (reservation b (take n ks)) a (sees (row x row_id) ∙ a.id) body
      (λ d k l mk e. let w = h.reps.memory.book.marks d k l mk in (
        let q = under d k l mk e in omega (arith, count),
        sees (row x row_table) ∙ (rw e at w.3),
        sees (item x (slot_word (load ws sh) d k slot_position) (slot_word (load ws sh) d k slot_tag - 1)) ∙ ap (λ (v : ℕ). load ws sh (item v (slot_word (load ws sh) d k slot_position) (slot_word (load ws sh) d k slot_tag - 1))) (sym e) ∙ w.4,
        λ y. sees (item x (slot_word (load ws sh) d k slot_position) item_operation) ∙ ap (λ (v : ℕ). load ws sh (item v (slot_word (load ws sh) d k slot_position) item_operation)) (sym e) ∙ w.5 y,
      ))
