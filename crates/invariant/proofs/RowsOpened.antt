-- Rows that open: a reservation takes free slots, a claim takes slots with handles.
use Rattle.std.specs.Prelude.{◌≡◌, refl, Bool, true, false, ℕ, ◌+◌, ◌≤◌, ◌<◌, length, take}
use Rattle.std.proofs.Math.Path.{sym}
use Rattle.std.proofs.Common.{◌∙◌, arith}
use mathlib.Core.List.{List, [], ◌∷◌, ◌++◌}
use Rattle.std.proofs.Math.Option.{Option, none, some}
use Rattle.model.specs.Base.{bit, pick, put, occurs, member}
use Rattle.model.specs.State.{Sizes, Handle, Slot, Slot.reserved, Slot.transfer_reserved, Table, Object, Entry, Body, Body.reservation, Body.claim}
use Rattle.model.specs.State.{Row, State, generation, is_absent, is_vacant, is_active, max_slots, max_batch}
use Rattle.model.specs.Storage.{keep_all, take_free}
use Rattle.model.specs.Change.{with_table, with_objects}
use Rattle.model.specs.Objects.{raise, change_all}
use Rattle.model.specs.Book.{find, add_row, free_row, id_left, moved_of, copies_of}
use Rattle.model.specs.Transfer.{copies_fault}
use Rattle.model.specs.WellFormed.{SlotRange, EntryRange, All, Batch, in_slot, in_handles, handles_in}
use Rattle.model.proofs.Tests.{bool, zero_or, bit_true, bit_small, pick_same}
use Rattle.model.proofs.Sums.{member_occurs, member_in, occurs_in, occurs_split}
use Rattle.invariant.proofs.Pointwise.{given, given_out, moved_handles, keep_all_slots, keep_all_alike, take_free_slots, take_free_alike}
use Rattle.invariant.proofs.BookLemmas.{row, find_add_same, find_add_other, rows_add}
use Rattle.invariant.proofs.CountLemmas.{Fit, raise_all, total, total_same, total_given, in_given}
use Rattle.invariant.proofs.Marks.{Marked, bare, bare_mark, marked_others, alike, Keys, keys_reservation, keys_claim, keys_count, mark}
use Rattle.invariant.proofs.Marks.{mark_own, mark_apart}
use Rattle.invariant.proofs.Items.{Taken, taken, Stands}
use Rattle.invariant.proofs.Pages.{vacant_there, vacant_idle}
use Rattle.invariant.proofs.Rows.{Good, edit, settled, BookStep, book_add, not_its, table_step, touched, present_below}
use Rattle.invariant.proofs.Counts.{none_in, next_none, next_unmarked, idle_bare, idle_held}
use Rattle.invariant.proofs.Parcels.{held_parts, moved_length}

mark_range : (s : State) (m : Bool) (i g : ℕ) → SlotRange s (mark m i g)
mark_range s true i g = tt
mark_range s false i g = tt

module _ (z : Sizes) (s : State) (w : Good s) where
  -- a new row of table b under the kind m takes the slots `ks`, which bore no mark
  module _ (b : ℕ) (m : Bool) (ks : List ℕ) (x : Body) (y : Keys m b ks x) (t : Table) (l : b < s.table_count) (a : is_active t.life ≡ true)
      (once : (k : ℕ) → occurs k ks ≤ 1) (was : (k : ℕ) → 0 < occurs k ks
      → (bare ((s.tables b).slots k) ≡ true) × (is_absent ((s.tables b).slots k) ≡ false))
      (at : (k : ℕ) → t.slots k ≡ pick (member k ks) (mark m s.book.next (generation ((s.tables b).slots k))) ((s.tables b).slots k)) where
    i : ℕ
    i = s.book.next

    ns : List Row
    unfolding i
    ns = s.book.rows ++ (row i x ∷ [])

    opens_out : (k : ℕ) → occurs k ks ≡ 0 → t.slots k ≡ (s.tables b).slots k
    opens_out k c = at k ∙ rw (member_occurs k ks c)

    opens_into : (k : ℕ) → 0 < occurs k ks → t.slots k ≡ mark m s.book.next (generation ((s.tables b).slots k))
    opens_into k c = at k ∙ rw (member_in k ks c)

    opens_below : (k : ℕ) → 0 < occurs k ks → k < max_slots
    opens_below k c = present_below s w b k (was k c).1

    opens_marked : Marked (put s.tables b t) ns
    unfolding i ns
    opens_marked = let rs : List Row = s.book.rows in
        let now : find i ns ≡ some x = find_add_same i x rs (next_none s w) in
        marked_others s.tables b t rs ns i w.marked
        (λ n k. rw (now, keys_count m n b ks x y k) (zero_or (occurs k ks)
        (λ c. rw (opens_out k c, next_unmarked s w n b k, c) (pick_same (alike m n)))
        (λ c. let e : occurs k ks ≡ 1 = omega (arith, once k) in rw (opens_into k c, mark_own m n i (generation ((s.tables b).slots k)), e))))
        (λ n j c k q. rw (find_add_other i j q x rs))
        (λ n c k q. rw (now, next_none s w) (y.far n c k q ∙ sym (none_in n c k)))
        (λ n j k q. zero_or (occurs k ks)
        (λ c. rw (opens_out k c))
        (λ c. rw (opens_into k c) (mark_apart m n i j (generation ((s.tables b).slots k)) q
        ∙ sym (bare_mark n j ((s.tables b).slots k) (was k c).0))))

    opens_step : (os : ℕ → Object) → BookStep s (s.book.rows ++ (row s.book.next x ∷ [])) (s.book.next + 1)
        → ((o : ℕ) → o < s.object_count
        → Fit (os o) × ((os o).count + total o (s.tables b).slots ≡ (s.objects o).count + (total o t.slots + in_handles o (handles_in x))))
        → Good (edit s (put s.tables b t) os (s.book.rows ++ (row s.book.next x ∷ [])) (s.book.next + 1) s.frames)
    unfolding i ns
    opens_step os k g = settled s (put s.tables b t) os ns (i + 1) s.frames (table_step s b t os ns (i + 1) w k
        (touched s w b t ks os ns l a opens_out (λ j c. (rw (opens_into j c) (mark_range s m i (generation ((s.tables b).slots j))), opens_below j c))
        opens_marked
        (λ o p. ((g o p).0, omega (arith, (g o p).1, rows_add o s.book.rows (row i x))))))

  -- the first n of the free order
  pub reserve_good : (b n : ℕ) → b < s.table_count → is_active (s.tables b).life ≡ true → 0 < n → n ≤ max_batch → free_row s ≡ true → id_left s ≡ true
      → length (take n (s.tables b).free) ≡ n → ((k : ℕ) → occurs k (s.tables b).free ≡ bit (is_vacant ((s.tables b).slots k)))
      → Good (add_row (reservation b (take n (s.tables b).free)) (with_table s b (take_free z n (λ g. reserved g s.book.next) (s.tables b))))
  reserve_good b n l a p q fr id len order =
      let f : ℕ → Slot = λ g. reserved g s.book.next in
      let ks : List ℕ = take n (s.tables b).free in
      let x : Body = reservation b ks in
      let t : Table = take_free z n f (s.tables b) in
      let old : ℕ → Slot = (s.tables b).slots in
      let free : (k : ℕ) → 0 < occurs k ks → is_vacant (old k) ≡ true = λ k c. bit_true (is_vacant (old k))
      (omega (arith, order k, occurs_split k n (s.tables b).free)) in
      let once : (k : ℕ) → occurs k ks ≤ 1 = λ k. omega (arith, order k, occurs_split k n (s.tables b).free, bit_small (is_vacant (old k))) in
      let at : (k : ℕ) → t.slots k ≡ pick (member k ks) (f (generation (old k))) (old k) = take_free_slots z n f (λ g. refl) (s.tables b) in
      opens_step b true ks x (keys_reservation b ks) t l (rw (take_free_alike z n f (s.tables b)).life a) once
      (λ k c. (idle_bare (old k) (vacant_idle (old k) (free k c)), vacant_there (old k) (free k c))) at s.objects
      (book_add s w x fr id (l, (omega (arith, len), omega (arith, len))) (not_its s w b a))
      (λ o m. (
        w.fit o m,
        let e : total o t.slots ≡ total o old = total_same o t.slots old (λ k. rw (at k) (bool (member k ks)
            (λ c. rw c (sym (idle_held o (old k) (vacant_idle (old k) (free k (occurs_in k ks c)))))) (λ c. rw c))) in omega (arith, e),
      ))

  -- handles that stand in slots are taken, copies raise counts
  pub claim_good : (b : ℕ) (es : List Entry) → b < s.table_count → is_active (s.tables b).life ≡ true → free_row s ≡ true → id_left s ≡ true → Batch es
      → All (EntryRange s) es → All (Stands (s.tables b).slots) es → ((k : ℕ) → occurs k (moved_of es) ≤ 1)
      → copies_fault s.objects 0 es ≡ none
      → ((o : ℕ) → o < s.object_count → 0 < in_handles o (copies_of es) → 1 ≤ (s.objects o).count)
      → Good (add_row (claim b es) (with_objects (with_table s b (keep_all z (λ g. transfer_reserved g s.book.next) (moved_of es) (s.tables b)))
      (change_all raise (copies_of es) s.objects)))
  claim_good b es l a fr id size range stands once fault counts =
      let f : ℕ → Slot = λ g. transfer_reserved g s.book.next in
      let ks : List ℕ = moved_of es in
      let hs : List Handle = moved_handles es in
      let t : Table = keep_all z f ks (s.tables b) in
      let old : ℕ → Slot = (s.tables b).slots in
      let lives : is_active t.life ≡ true = rw (keep_all_alike z f ks (s.tables b)).life a in
      let at : (k : ℕ) → t.slots k ≡ pick (member k ks) (f (generation (old k))) (old k) = keep_all_slots z f (λ g. refl) ks (s.tables b) in
      let stood : (k : ℕ) → 0 < occurs k ks → Taken (old k) (given ks hs k) = λ k c. taken old es k stands c in
      let was : (k : ℕ) → 0 < occurs k ks → (bare (old k) ≡ true) × (is_absent (old k) ≡ false) = λ k c. rw (stood k c).stood (refl, refl) in
      let y : Keys false b ks (claim b es) = keys_claim b es in
      let r = raise_all s.object_count es 0 s.objects w.fit counts fault in
      opens_step b false ks (claim b es) y t l lives once was at (change_all raise (copies_of es) s.objects)
      (book_add s w (claim b es) fr id (l, size, range) (not_its s w b a))
      (λ o m. (
        (r o m).0,
        let e : total o old ≡ total o t.slots + in_handles o hs =
            total_given o t.slots old ks hs (moved_length es) once (opens_below b false ks (claim b es) y t l lives once was at)
            (λ k. rw (at k) (zero_or (occurs k ks)
            (λ c. rw (member_occurs k ks c, given_out ks hs k c) (omega arith))
            (λ c. rw (member_in k ks c) (held o (old k) (given ks hs k) (stood k c))))) in
            omega (arith, e, held_parts o es, (r o m).1),
      ))
    where
      held : (o : ℕ) (x : Slot) (g : Option Handle) → Taken x g → in_slot o x ≡ 0 + in_given o g
      held o x g c = rw (c.stood, c.named) (omega arith)
