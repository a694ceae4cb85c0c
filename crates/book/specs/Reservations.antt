-- Abort and trim in the state: what the code's words represent is what the model says. Assumes nothing.
use Rattle.std.specs.Prelude.{◌≡◌, Bool, true, false, List, ℕ, ◌+◌, ◌-◌, ◌≤◌, ◌<◌, length, take, drop, ltb}
use Rattle.std.proofs.Common.{sym, ap, ◌∙◌, subst, arith, length-drop, take_all, ltb-true, ltb-false}
use Rattle.std.proofs.Math.Option.{some}
use Rattle.std.proofs.Math.Seq.{take-length}
use Rattle.words.specs.Pick.{bool, clash}
use Rattle.codec.specs.Codec.{next_generation}
use Rattle.model.specs.Base.{nth, occurs, pick}
use Rattle.model.specs.State.{Sizes, till, Slot.vacant, Table, Body.reservation, State, generation, is_busy}
use Rattle.model.specs.Storage.{vacate_all}
use Rattle.model.specs.Change.{with_table}
use Rattle.model.specs.Book.{drop_row, swap_row}
use Rattle.model.specs.WellFormed.{WellFormed}
use Rattle.model.proofs.Sums.{member_in}
use Rattle.model.proofs.Counting.{nth_occurs}
use Rattle.model.proofs.Tests.{nth_drop}
use Rattle.model.proofs.Changed.{with_table_at}
use Rattle.invariant.proofs.BookLemmas.{found_range}
use Rattle.invariant.proofs.Marks.{mark_busy}
use Rattle.invariant.proofs.Pointwise.{vacate_all_slots}
use Rattle.layout.specs.declared.Shape.{Shape}
use Rattle.layout.specs.Layout.{load}
use Rattle.layout.specs.Fields.{slot_position}
use Rattle.representation.specs.Represents.{slot_word, is_marked}
use Rattle.storage.specs.Reps.{Held}
use Rattle.book.specs.Lists.{occurs_drop}
use Rattle.book.specs.Ops.{close_w, shrink_w, vacate_items_w}
use Rattle.book.specs.Find.{Fits, fits_of, RowAt, at_find}
use Rattle.book.specs.Close.{close_held}
use Rattle.book.specs.Shrink.{shrink_held}
use Rattle.book.specs.Marks.{NamedBy, named_reservation, reserved_once, reserved_at, unnamed}
use Rattle.book.specs.Fades.{named_fades, fits_table}
use Rattle.book.specs.Vacated.{Follows, part, items_vacated}

-- a slot that fell vacant has no mark
vacated_bare : (z : Sizes) (ks : List ℕ) (t : Table) (k : ℕ) → occurs k ks ≤ 1 → 0 < occurs k ks → is_marked ((vacate_all z ks t).slots k) ≡ false
vacated_bare z ks t k once h = ap is_marked (vacate_all_slots z ks t k once ∙ ap (λ (v : Bool). pick v (vacant (next_generation (generation (t.slots k)))) (t.slots k)) (member_in k ks h))

module _ (ws : List ℕ) (sh : Shape) (s : State) (h : Held ws sh s) (w : WellFormed till s) (x i b : ℕ) (ks : List ℕ) (a : RowAt (load ws sh) s x i (reservation b ks)) where
  fits : Fits s
  fits = fits_of s w

  table : b < s.table_count
  table = (found_range s w i (reservation b ks) (at_find sh (load ws sh) s h.reps.memory fits x i (reservation b ks) a)).0

  once : (k : ℕ) → occurs k ks ≤ 1
  once = reserved_once sh (load ws sh) s h.reps.memory fits w.marks x i b ks a

  busy : (j k : ℕ) → nth ks j ≡ some k → is_busy ((s.tables b).slots k) ≡ true
  busy j k e = mark_busy true i ((s.tables b).slots k) (reserved_at sh (load ws sh) s h.reps.memory fits w.marks x i b ks a table j k e).0

  vacated : (from n : ℕ) → from + n ≤ length ks
      → Follows (load ws sh) s (vacate_items_w ws sh b x from n) sh (with_table s b (vacate_all till (part from n ks) (s.tables b))) x i (reservation b ks)
  vacated = items_vacated ws sh s h x i b ks a table once busy

  -- the marks that name the row are those of its slots, still
  named : (ws' : List ℕ) (u : State) → Follows (load ws sh) s ws' sh u x i (reservation b ks) → NamedBy (load ws' sh) u x b (λ k j. nth ks j ≡ some k)
  named ws' u p = named_fades (load ws sh) s (load ws' sh) u x b (λ k j. nth ks j ≡ some k) p.fades (named_reservation sh (load ws sh) s h.reps.memory fits w.marks x i b ks a)

  -- ABORT
  pub abort_held : Held (close_w (vacate_items_w ws sh b x 0 (length ks)) sh x) sh (drop_row i (with_table s b (vacate_all till ks (s.tables b))))
  abort_held =
      let e : part 0 (length ks) ks ≡ ks = take-length ks in
      let p : Follows (load ws sh) s (vacate_items_w ws sh b x 0 (length ks)) sh (with_table s b (vacate_all till ks (s.tables b))) x i (reservation b ks)
      = subst (λ (l : List ℕ). Follows (load ws sh) s (vacate_items_w ws sh b x 0 (length ks)) sh (with_table s b (vacate_all till l (s.tables b))) x i (reservation b ks)) e (vacated 0 (length ks) (omega arith)) in
      close_held (vacate_items_w ws sh b x 0 (length ks)) sh (with_table s b (vacate_all till ks (s.tables b))) p.held (fits_table s b (vacate_all till ks (s.tables b)) fits) x i (reservation b ks) p.row
      (unnamed (load (vacate_items_w ws sh b x 0 (length ks)) sh) (with_table s b (vacate_all till ks (s.tables b))) x b (λ k j. nth ks j ≡ some k) (named (vacate_items_w ws sh b x 0 (length ks)) (with_table s b (vacate_all till ks (s.tables b))) p)
      (λ k j d. ap (λ (t : Table). is_marked (t.slots k)) (with_table_at s b (vacate_all till ks (s.tables b))) ∙ vacated_bare till ks (s.tables b) k (once k) (nth_occurs ks j k d)))

  -- TRIM to n slots
  pub trim_held : (n : ℕ) → n ≤ length ks
      → Held (shrink_w (vacate_items_w ws sh b x n (length ks - n)) sh x n) sh (swap_row i (reservation b (take n ks)) (with_table s b (vacate_all till (drop n ks) (s.tables b))))
  trim_held n few =
      let ws' : List ℕ = vacate_items_w ws sh b x n (length ks - n) in
      let e : part n (length ks - n) ks ≡ drop n ks = take_all (length ks - n) (drop n ks) (omega (arith, length-drop n ks)) in
      let p : Follows (load ws sh) s (vacate_items_w ws sh b x n (length ks - n)) sh (with_table s b (vacate_all till (drop n ks) (s.tables b))) x i (reservation b ks)
      = subst (λ (l : List ℕ). Follows (load ws sh) s (vacate_items_w ws sh b x n (length ks - n)) sh (with_table s b (vacate_all till l (s.tables b))) x i (reservation b ks)) e (vacated n (length ks - n) (omega arith)) in
      shrink_held (vacate_items_w ws sh b x n (length ks - n)) sh (with_table s b (vacate_all till (drop n ks) (s.tables b))) p.held (fits_table s b (vacate_all till (drop n ks) (s.tables b)) fits) x i b ks p.row n few
      (λ d k l mk y. let q = named (vacate_items_w ws sh b x n (length ks - n)) (with_table s b (vacate_all till (drop n ks) (s.tables b))) p d k l mk y in
      bool (ltb (slot_word (load ws' sh) d k slot_position) n)
      (λ c. ltb-true (slot_word (load ws' sh) d k slot_position) n c)
      (λ c. let z : n + (slot_word (load ws' sh) d k slot_position - n) ≡ slot_word (load ws' sh) d k slot_position = omega (arith, ltb-false (slot_word (load ws' sh) d k slot_position) n c) in
      let o : 0 < occurs k (drop n ks) = nth_occurs (drop n ks) (slot_word (load ws' sh) d k slot_position - n) k (nth_drop n ks (slot_word (load ws' sh) d k slot_position - n) ∙ ap (nth ks) z ∙ q.1) in
      let bare : is_marked ((vacate_all till (drop n ks) (s.tables b)).slots k) ≡ false = vacated_bare till (drop n ks) (s.tables b) k (omega (arith, occurs_drop n ks k, once k)) o in
      let mk' : is_marked (((with_table s b (vacate_all till (drop n ks) (s.tables b))).tables b).slots k) ≡ true = ap (λ (v : ℕ). is_marked (((with_table s b (vacate_all till (drop n ks) (s.tables b))).tables v).slots k)) (sym q.0) ∙ mk in
      clash mk' (ap (λ (t : Table). is_marked (t.slots k)) (with_table_at s b (vacate_all till (drop n ks) (s.tables b))) ∙ bare)))
