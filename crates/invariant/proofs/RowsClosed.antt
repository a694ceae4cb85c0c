-- Rows that end: trim, abort, publish, rollback and commit.
use Rattle.std.specs.Prelude.{◌≡◌, refl, Bool, true, false, List, [], ◌∷◌, map, ℕ, ◌+◌, ◌≤◌, ◌<◌, length, take, drop, eqb}
use Rattle.std.proofs.Common.{sym, ap, ◌∙◌, subst, append-nil, arith, length-take}
use Rattle.std.proofs.Math.Option.{Option, some}
use Rattle.std.proofs.lemmas.List.{length-map}
use Rattle.codec.specs.Codec.{next_generation}
use Rattle.model.specs.Base.{pick, put, occurs}
use Rattle.model.specs.State.{Sizes, Handle, Slot, Slot.vacant, Slot.occupied, Table, Object, Entry, Body, Body.reservation, Body.claim}
use Rattle.model.specs.State.{Body.parcel, Row, State, generation, is_active, max_slots}
use Rattle.model.specs.Storage.{vacate_all}
use Rattle.model.specs.Change.{with_table}
use Rattle.model.specs.Objects.{lower, change_all, release}
use Rattle.model.specs.Book.{find, drop_id, swap_id, drop_row, drop_rows, swap_row, moved_of, copies_of, sent_of}
use Rattle.model.specs.Decision.{as_parcel, handles_of, distinct}
use Rattle.model.specs.Step.{fill_all, restore_all}
use Rattle.model.specs.WellFormed.{HandleRange, SlotRange, All, Batch, held_by, in_slot, in_handles, in_rows}
use Rattle.model.proofs.Tests.{bool, zero_or, same, pick_same, apart}
use Rattle.model.proofs.Sums.{member_occurs, member_in, occurs_split}
use Rattle.invariant.proofs.Pointwise.{given, given_out, moved_handles, vacate_all_slots, vacate_all_alike, fill_all_slots, fill_all_alike}
use Rattle.invariant.proofs.Pointwise.{restore_all_is}
use Rattle.invariant.proofs.BookLemmas.{find_drop_same, find_drop_other, find_swap_same, find_swap_other, rows_drop, rows_swap, ids_drop}
use Rattle.invariant.proofs.BookLemmas.{drop_swap, drop-drop, found_half, BodyHalf}
use Rattle.invariant.proofs.CountLemmas.{Fit, not_held, lower_all, total, total_same, total_given}
use Rattle.invariant.proofs.Marks.{in_row, is_by, Marked, bare, bare_mark, mark_other, mark_held, marked_others, alike, Keys, keys_reservation}
use Rattle.invariant.proofs.Marks.{keys_claim, keys_count, owns, mark_busy}
use Rattle.invariant.proofs.Pages.{busy_there}
use Rattle.invariant.proofs.Rows.{Balanced, Good, edit, settled, BookStep, book_same, book_drop, book_swap, open_active, not_its, table_step}
use Rattle.invariant.proofs.Rows.{touched, present_below}
use Rattle.invariant.proofs.Counts.{none_in, parcel_in}
use Rattle.invariant.proofs.Parcels.{drop_ids, drop_rows_is, book_drops, handles_drop, not_parcel, handles_range, drops_in, drops_rows}
use Rattle.invariant.proofs.Parcels.{sent_range, moved_range, moved_length, sent_held, held_parts}

-- the row i, open in table b under the kind m, gives up the slots `ds`
pub record Ends (s : State) (i b : ℕ) (m : Bool) (ds : List ℕ) (ns : List Row) : Type 0 where
  pub on : (k : ℕ) → 0 < occurs k ds → is_by m i ((s.tables b).slots k) ≡ true
  pub once : (k : ℕ) → occurs k ds ≤ 1
  pub kept : (n : Bool) (k : ℕ) → occurs k ds ≡ 0 → in_row n b k (find i ns) ≡ in_row n b k (find i s.book.rows)
  pub gone : (n : Bool) (k : ℕ) → 0 < occurs k ds → in_row n b k (find i ns) ≡ 0
  pub away : (n : Bool) (c k : ℕ) → (c ≡ b → ⊥) → in_row n c k (find i ns) ≡ in_row n c k (find i s.book.rows)
  pub others : (n : Bool) (j c k : ℕ) → (j ≡ i → ⊥) → in_row n c k (find j ns) ≡ in_row n c k (find j s.book.rows)

given_past : (P : Handle → Type 0) (t : Bool) (h : Handle) (g : Option Handle) → t ≡ false → (x : Handle) × (g ≡ some x) × P x
    → (x : Handle) × (pick t (some h) g ≡ some x) × P x
given_past P t h g y r = (r.0, (rw y r.1), r.2)

-- each of the slots gets one of the handles
pub given_in : (P : Handle → Type 0) (ks : List ℕ) (hs : List Handle) (j : ℕ) → length hs ≡ length ks → All P hs → 0 < occurs j ks
    → (h : Handle) × (given ks hs j ≡ some h) × P h
given_in P [] hs j e a q = absurd (omega arith)
given_in P (k ∷ ks) [] j e a q = absurd (omega arith)
given_in P (k ∷ ks) (h ∷ hs) j e a q = bool (eqb j k)
    (λ y. (h, (rw y), a.0))
    (λ y. given_past P (eqb j k) h (given ks hs j) y (given_in P ks hs j (omega arith) a.1 (let q' : 0 < 0 + occurs j ks = rw y at q in
    omega arith)))

module _ (z : Sizes) (s : State) (w : Good s) where
  -- a row ends whole
  ends_whole : (i b : ℕ) (m : Bool) (ks : List ℕ) (x : Body) → Keys m b ks x → find i s.book.rows ≡ some x → (ns : List Row)
      → ((n : Bool) (c k : ℕ) → in_row n c k (find i ns) ≡ 0)
      → ((n : Bool) (j c k : ℕ) → (j ≡ i → ⊥) → in_row n c k (find j ns) ≡ in_row n c k (find j s.book.rows)) → Ends s i b m ks ns
  ends_whole i b m ks x y e ns gone others = let o = owns s.tables s.book.rows w.marked m i b ks x y e in record {
    on = o.on;
    once = o.once;
    kept = λ n k c. gone n b k ∙ sym (rw (e, keys_count m n b ks x y k, c) (pick_same (alike m n)));
    gone = λ n k c. gone n b k;
    away = λ n c k q. gone n c k ∙ sym (rw e (y.far n c k q));
    others = others;
  }

  -- the first n slots of a reservation stay
  ends_trim : (i b n : ℕ) (ks : List ℕ) → find i s.book.rows ≡ some (reservation b ks)
      → Ends s i b true (drop n ks) (swap_id i (reservation b (take n ks)) s.book.rows)
  ends_trim i b n ks e =
      let rs : List Row = s.book.rows in
      let x : Body = reservation b (take n ks) in
      let now : find i (swap_id i x rs) ≡ some x = find_swap_same i x (reservation b ks) rs e in
      let o = owns s.tables rs w.marked true i b ks (reservation b ks) (keys_reservation b ks) e in
      let c : (m : Bool) (k : ℕ) → in_row m b k (some x) ≡ pick m (occurs k (take n ks)) 0 = λ m. keys_count true m b (take n ks) x
      (keys_reservation b (take n ks)) in
      let c' : (m : Bool) (k : ℕ) → in_row m b k (some (reservation b ks)) ≡ pick m (occurs k ks) 0 = λ m. keys_count true m b ks (reservation b ks)
      (keys_reservation b ks) in
      record {
        on = λ k q. o.on k (omega (arith, occurs_split k n ks));
        once = λ k. omega (arith, o.once k, occurs_split k n ks);
        kept = λ m k q. let y : occurs k (take n ks) ≡ occurs k ks = omega (arith, occurs_split k n ks) in rw (now, e, c m k, c' m k, y);
        gone = λ m k q. let y : occurs k (take n ks) ≡ 0 = omega (arith, o.once k, occurs_split k n ks) in
            rw (now, c m k, y) (pick_same m);
        away = λ m a k y. rw (now, e) ((keys_reservation b (take n ks)).far m a k y ∙ sym ((keys_reservation b ks).far m a k y));
        others = λ m j a k y. rw (find_swap_other i j y x rs);
      }

  -- the slots given up held no handle, and none of them stands past the last
  module _ (i b : ℕ) (m : Bool) (ds : List ℕ) (ns : List Row) (c : Ends s i b m ds ns) where
    ends_empty : (o k : ℕ) → 0 < occurs k ds → in_slot o ((s.tables b).slots k) ≡ 0
    ends_empty o k q = not_held o ((s.tables b).slots k) (mark_held m i ((s.tables b).slots k) (c.on k q))

    ends_below : (k : ℕ) → 0 < occurs k ds → k < max_slots
    ends_below k q = present_below s w b k (busy_there ((s.tables b).slots k) (mark_busy m i ((s.tables b).slots k) (c.on k q)))

  -- its slots get contents without a mark, and the others stay
  module _ (i b : ℕ) (m : Bool) (ds : List ℕ) (ns : List Row) (c : Ends s i b m ds ns) (t : Table) (l : b < s.table_count)
      (a : is_active t.life ≡ true)
      (out : (k : ℕ) → occurs k ds ≡ 0 → t.slots k ≡ (s.tables b).slots k) (into : (k : ℕ) → 0 < occurs k ds
      → (bare (t.slots k) ≡ true) × SlotRange s (t.slots k)) where
    ends_marked : Marked (put s.tables b t) ns
    ends_marked = marked_others s.tables b t s.book.rows ns i w.marked
        (λ n k. zero_or (occurs k ds)
        (λ q. rw (out k q) (c.kept n k q ∙ w.marked n i b k))
        (λ q. c.gone n k q ∙ sym (rw (bare_mark n i (t.slots k) (into k q).0))))
        c.others c.away
        (λ n j k y. zero_or (occurs k ds)
        (λ q. rw (out k q))
        (λ q. bare_mark n j (t.slots k) (into k q).0 ∙ sym (mark_other m n i j ((s.tables b).slots k) y (c.on k q))))

    ends_step : (os : ℕ → Object) → BookStep s ns s.book.next
        → Balanced s b t os ns → (fs : List ℕ) → Good (edit s (put s.tables b t) os ns s.book.next fs)
    ends_step os k g fs = settled s (put s.tables b t) os ns s.book.next fs (table_step s b t os ns s.book.next w k
        (touched s w b t ds os ns l a out (λ j q. ((into j q).1, ends_below i b m ds ns c j q)) ends_marked g))

  -- the slots of a row fall vacant
  vacated_step : (i b : ℕ) (m : Bool) (ds : List ℕ) (ns : List Row) → Ends s i b m ds ns → BookStep s ns s.book.next → b < s.table_count
      → is_active (s.tables b).life ≡ true → ((o : ℕ) → in_rows o s.book.rows ≡ in_rows o ns)
      → Good (edit s (put s.tables b (vacate_all z ds (s.tables b))) s.objects ns s.book.next s.frames)
  vacated_step i b m ds ns c k l a g =
      let t : Table = vacate_all z ds (s.tables b) in
      let old : ℕ → Slot = (s.tables b).slots in
      let out : (j : ℕ) → occurs j ds ≡ 0 → t.slots j ≡ old j = λ j q. rw (vacate_all_slots z ds (s.tables b) j (c.once j), member_occurs j ds q) in
      let into : (j : ℕ) → 0 < occurs j ds → t.slots j ≡ vacant (next_generation (generation (old j))) =
      λ j q. rw (vacate_all_slots z ds (s.tables b) j (c.once j), member_in j ds q) in
      ends_step i b m ds ns c t l (rw (vacate_all_alike z ds (s.tables b)).life a) out (λ j q. rw (into j q) (refl, tt)) s.objects k
      (λ o p. (
        w.fit o p,
        let e : total o t.slots ≡ total o old = total_same o t.slots old (λ j. zero_or (occurs j ds)
            (λ q. rw (out j q)) (λ q. rw (into j q) (sym (ends_empty i b m ds ns c o j q)))) in omega (arith, e, g o),
      )) s.frames

  -- the slots of a row get handles
  filled_step : (i b : ℕ) (m : Bool) (ks : List ℕ) (hs : List Handle) (os : ℕ → Object) (ns : List Row) → Ends s i b m ks ns
      → BookStep s ns s.book.next
      → b < s.table_count → is_active (s.tables b).life ≡ true → length hs ≡ length ks → All (HandleRange s) hs
      → ((o : ℕ) → o < s.object_count → Fit (os o) × ((os o).count + in_rows o s.book.rows ≡ (s.objects o).count + (in_handles o hs + in_rows o ns)))
      → Good (edit s (put s.tables b (fill_all z ks hs (s.tables b))) os ns s.book.next s.frames)
  filled_step i b m ks hs os ns c k l a len r g =
      let t : Table = fill_all z ks hs (s.tables b) in
      let old : ℕ → Slot = (s.tables b).slots in
      let out : (j : ℕ) → occurs j ks ≡ 0 → t.slots j ≡ old j = λ j q. rw (fill_all_slots z ks hs (s.tables b) j (c.once j), given_out ks hs j q) in
      let h : (j : ℕ) → 0 < occurs j ks → (h : Handle) × (given ks hs j ≡ some h) × HandleRange s h =
      λ j q. given_in (HandleRange s) ks hs j len r q in
      let into : (j : ℕ) (q : 0 < occurs j ks) → t.slots j ≡ occupied (generation (old j)) (h j q).0 =
      λ j q. rw (fill_all_slots z ks hs (s.tables b) j (c.once j), (h j q).1) in
      ends_step i b m ks ns c t l (rw (fill_all_alike z ks hs (s.tables b)).life a) out (λ j q. rw (into j q) (refl, (h j q).2)) os k
      (λ o p. (
        (g o p).0,
        let e : total o t.slots ≡ total o old + in_handles o hs = total_given o old t.slots ks hs len c.once (ends_below i b m ks ns c)
            (λ j. zero_or (occurs j ks)
            (λ q. rw (out j q, given_out ks hs j q) (omega arith))
            (λ q. rw (into j q, (h j q).1, ends_empty i b m ks ns c o j q) (omega arith))) in omega (arith, e, (g o p).1),
      )) s.frames

  -- the requests' states

  gone_drop : (i : ℕ) (rs : List Row) (n : Bool) (c k : ℕ) → in_row n c k (find i (drop_id i rs)) ≡ 0
  gone_drop i rs n c k = rw (find_drop_same i rs) (none_in n c k)

  others_drop : (i : ℕ) (rs : List Row) (n : Bool) (j c k : ℕ) → (j ≡ i → ⊥) → in_row n c k (find j (drop_id i rs)) ≡ in_row n c k (find j rs)
  others_drop i rs n j c k y = rw (find_drop_other i j y rs)

  pub abort_good : (i b : ℕ) (ks : List ℕ) → find i s.book.rows ≡ some (reservation b ks)
      → Good (drop_row i (with_table s b (vacate_all z ks (s.tables b))))
  abort_good i b ks e = let rs : List Row = s.book.rows in let x : Body = reservation b ks in
      vacated_step i b true ks (drop_id i rs) (ends_whole i b true ks x (keys_reservation b ks) e (drop_id i rs) (gone_drop i rs) (others_drop i rs))
      (book_drop s rs s.book.next (book_same s w) i) (found_half s w.rows i x e).0 (open_active s w i b x e (same b))
      (λ o. omega (arith, rows_drop o i x 1 s.book.next rs w.rise e))

  pub trim_good : (i b n : ℕ) (ks : List ℕ) → find i s.book.rows ≡ some (reservation b ks) → 0 < n → n ≤ length ks
      → Good (swap_row i (reservation b (take n ks)) (with_table s b (vacate_all z (drop n ks) (s.tables b))))
  trim_good i b n ks e p q = let rs : List Row = s.book.rows in let x : Body = reservation b (take n ks) in
      let r : BodyHalf s (reservation b ks) = found_half s w.rows i (reservation b ks) e in
      let a : is_active (s.tables b).life ≡ true = open_active s w i b (reservation b ks) e (same b) in
      vacated_step i b true (drop n ks) (swap_id i x rs) (ends_trim i b n ks e)
      (book_swap s rs s.book.next (book_same s w) i x (r.0, (omega (arith, length-take n ks), omega (arith, length-take n ks, r.1.1)))
      (not_its s w b a)) r.0 a
      (λ o. omega (arith, rows_swap o i (reservation b ks) x 1 s.book.next rs w.rise e))

  pub commit_good : (i b : ℕ) (es : List Entry) → find i s.book.rows ≡ some (claim b es)
      → Good (swap_row i (parcel (map sent_of es)) (with_table s b (vacate_all z (moved_of es) (s.tables b))))
  commit_good i b es e = let rs : List Row = s.book.rows in let x : Body = parcel (map sent_of es) in
      let r : BodyHalf s (claim b es) = found_half s w.rows i (claim b es) e in
      let now : find i (swap_id i x rs) ≡ some x = find_swap_same i x (claim b es) rs e in
      let size : Batch (map sent_of es) = (omega (arith, length-map es sent_of, r.1.0), omega (arith, length-map es sent_of, r.1.1)) in
      vacated_step i b false (moved_of es) (swap_id i x rs) (ends_whole i b false (moved_of es) (claim b es) (keys_claim b es) e (swap_id i x rs)
      (λ n c k. rw now (parcel_in n c k (map sent_of es))) (λ n j c k y. rw (find_swap_other i j y x rs)))
      (book_swap s rs s.book.next (book_same s w) i x (size, sent_range s es r.2) (λ c q. refl)) r.0
      (open_active s w i b (claim b es) e (same b))
      (λ o. omega (arith, rows_swap o i (claim b es) x 1 s.book.next rs w.rise e, sent_held o es))

  pub rollback_good : (i b : ℕ) (es : List Entry) → find i s.book.rows ≡ some (claim b es)
      → Good (drop_row i (release (with_table s b (restore_all z es (s.tables b))) (copies_of es)))
  rollback_good i b es e = rw (restore_all_is z es (s.tables b)) (
      let rs : List Row = s.book.rows in
      let r : BodyHalf s (claim b es) = found_half s w.rows i (claim b es) e in
      let d : (o : ℕ) → in_rows o (drop_id i rs) + in_handles o (map held_by es) ≡ in_rows o rs = λ o. rows_drop o i (claim b es) 1 s.book.next rs
      w.rise e in
      let a = lower_all s.object_count (copies_of es) s.objects w.fit (λ o l. omega (arith, w.counted o l, d o, held_parts o es)) in
      filled_step i b false (moved_of es) (moved_handles es) (change_all lower (copies_of es) s.objects) (drop_id i rs)
      (ends_whole i b false (moved_of es) (claim b es) (keys_claim b es) e (drop_id i rs) (gone_drop i rs) (others_drop i rs))
      (book_drop s rs s.book.next (book_same s w) i) r.0 (open_active s w i b (claim b es) e (same b)) (moved_length es)
      (moved_range s es r.2)
      (λ o l. ((a o l).0, omega (arith, (a o l).1, d o, held_parts o es))))

  pub publish_good : (i b : ℕ) (ks is : List ℕ) (hs : List Handle) → find i s.book.rows ≡ some (reservation b ks)
      → handles_of is s.book.rows ≡ some hs
      → distinct is ≡ true → length hs ≡ length ks → Good (drop_rows (i ∷ is) (with_table s b (fill_all z ks hs (s.tables b))))
  publish_good i b ks is hs e f d len = rw (drop_rows_is (i ∷ is) (with_table s b (fill_all z ks hs (s.tables b)))) (
      let rs : List Row = s.book.rows in
      let ns : List Row = drop_ids is (drop_id i rs) in
      let x : Body = reservation b ks in
      let f' : handles_of is (drop_id i rs) ≡ some hs = handles_drop i is rs (not_parcel i is rs hs f (ap as_parcel e)) ∙ f in
      let a : (o : ℕ) → in_rows o ns + in_handles o hs ≡ in_rows o (drop_id i rs) =
      λ o. drops_rows o is s.book.next (drop_id i rs) hs (ids_drop 1 s.book.next i rs w.rise) f' d in
      filled_step i b true ks hs s.objects ns (ends_whole i b true ks x (keys_reservation b ks) e ns
      (λ n c k. drops_in i n c k is (drop_id i rs) hs f' d ∙ gone_drop i rs n c k) (λ n j c k y. drops_in j n c k is (drop_id i rs) hs f' d
      ∙ others_drop i rs n j c k y))
      (book_drops s s.book.next (i ∷ is) rs (book_same s w)) (found_half s w.rows i x e).0 (open_active s w i b x e (same b)) len
      (handles_range s is rs hs w.rows f)
      (λ o l. (w.fit o l, omega (arith, a o, rows_drop o i x 1 s.book.next rs w.rise e))))

-- a claim's row and a reservation's are two
pub two_rows : (i j b c : ℕ) (es : List Entry) (ks : List ℕ) (rs : List Row) → find i rs ≡ some (claim b es) → find j rs ≡ some (reservation c ks) → j ≡ i
    → ⊥
two_rows i j b c es ks rs e f y = let e' : find j rs ≡ some (claim b es) = ap (λ t. find t rs) y ∙ e in apart (cc)

module _ (z : Sizes) (s : State) (w : Good s) where
  -- a claim committed, then its parcel published
  pub direct_commit_good : (i j b c : ℕ) (es : List Entry) (ks : List ℕ) → find i s.book.rows ≡ some (claim b es)
      → find j s.book.rows ≡ some (reservation c ks)
      → length es ≡ length ks → let u : State = with_table s b (vacate_all z (moved_of es) (s.tables b)) in
      Good (drop_row j (drop_row i (with_table u c (fill_all z ks (map sent_of es) (u.tables c)))))
  direct_commit_good i j b c es ks e f len =
      let rs : List Row = s.book.rows in
      let x : Body = parcel (map sent_of es) in
      let u : State = with_table s b (vacate_all z (moved_of es) (s.tables b)) in
      let now : find i (swap_id i x rs) ≡ some x = find_swap_same i x (claim b es) rs e in
      let hs : handles_of (i ∷ []) (swap_id i x rs) ≡ some (map sent_of es) = rw now (ap {B = Option (List Handle)} some (append-nil (map sent_of es))) in
      let g : Good (drop_rows (j ∷ i ∷ []) (with_table (swap_row i x u) c (fill_all z ks (map sent_of es) (u.tables c)))) =
      publish_good z (swap_row i x u) (commit_good z s w i b es e) j c ks (i ∷ []) (map sent_of es)
      (find_swap_other i j (two_rows i j b c es ks rs e f) x rs ∙ f) hs refl (length-map es sent_of ∙ len) in
      let same_rows : drop_id i (drop_id j (swap_id i x rs)) ≡ drop_id j (drop_id i rs) = drop-drop i j (swap_id i x rs)
      ∙ ap (drop_id j) (drop_swap i x rs) in
      subst (λ ns. Good (edit u (put u.tables c (fill_all z ks (map sent_of es) (u.tables c))) s.objects ns s.book.next s.frames))
      same_rows g

  -- a claim rolled back, then a reservation aborted
  pub direct_rollback_good : (i j b c : ℕ) (es : List Entry) (ks : List ℕ) → find i s.book.rows ≡ some (claim b es)
      → find j s.book.rows ≡ some (reservation c ks)
      → let u : State = release (with_table s b (restore_all z es (s.tables b))) (copies_of es) in
      Good (drop_row j (drop_row i (with_table u c (vacate_all z ks (u.tables c)))))
  direct_rollback_good i j b c es ks e f = let rs : List Row = s.book.rows in
      abort_good z (drop_row i (release (with_table s b (restore_all z es (s.tables b))) (copies_of es))) (rollback_good z s w i b es e) j c ks
      (find_drop_other i j (two_rows i j b c es ks rs e f) rs ∙ f)
