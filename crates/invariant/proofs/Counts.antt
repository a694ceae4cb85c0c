-- Changes that open or close no reservation or claim: new and released parcels, retired objects, one slot, slots not busy, lives.
use Rattle.std.specs.Prelude.{◌≡◌, refl, Bool, true, false, List, [], ◌∷◌, ◌++◌, ℕ, ◌+◌, ◌≤◌, ◌<◌, eqb}
use Rattle.std.proofs.Common.{sym, ◌∙◌, arith, eqb-true}
use Rattle.std.proofs.Math.Option.{none, some}
use Rattle.std.proofs.lemmas.Bool.{eqb-false}
use Rattle.model.specs.Base.{bit, put}
use Rattle.model.specs.State.{Handle, Slot, Slot.absent, Slot.vacant, Slot.reserved, Slot.transfer_reserved, Slot.occupied, Table, Object, Body}
use Rattle.model.specs.State.{Body.parcel, Body.plan, StorageSnapshot, Row, State, is_absent, is_occupied, is_busy, is_active, is_retired, max_slots, max_batch}
use Rattle.model.specs.Change.{with_table, with_objects, with_frames}
use Rattle.model.specs.Objects.{lower, retired_by_owner, change, change_all, release, with_rights}
use Rattle.model.specs.Book.{find, drop_id, add_row, drop_row, spend_id, free_row, id_left, any_open}
use Rattle.model.specs.WellFormed.{HandleRange, SlotRange, Batch, of_object, in_slot, in_handles, in_rows}
use Rattle.model.proofs.Tests.{bool, clash, bit_false}
use Rattle.model.proofs.Sums.{sum_part, sum_put}
use Rattle.invariant.proofs.BookLemmas.{row, ids_none, ids_spend, find_drop_same, find_drop_other, find_add_same, find_add_other, rows_add}
use Rattle.invariant.proofs.BookLemmas.{rows_drop}
use Rattle.invariant.proofs.CountLemmas.{Fit, retired_fit, change_at, of_same, of_other, lower_all, total, total_same}
use Rattle.invariant.proofs.Marks.{in_row, is_by, bare, bare_mark, marked_same}
use Rattle.invariant.proofs.Rows.{Good, edit, settled, book_same, book_add, book_drop, id_left_law, objects_step, table_step, present_below}

pub none_in : (m : Bool) (b k : ℕ) → in_row m b k none ≡ 0
none_in true b k = refl
none_in false b k = refl

pub parcel_in : (m : Bool) (b k : ℕ) (hs : List Handle) → in_row m b k (some (parcel hs)) ≡ 0
parcel_in true b k hs = refl
parcel_in false b k hs = refl

plan_in : (m : Bool) (b k c n : ℕ) (w : StorageSnapshot) (fs : List ℕ) → in_row m b k (some (plan c n w fs)) ≡ 0
plan_in true b k c n w fs = refl
plan_in false b k c n w fs = refl

pub one_batch {ℓ} : {A : Type ℓ} (a : A) → Batch (a ∷ [])
unfolding max_batch
one_batch a = (omega arith, omega arith)

module _ (s : State) (w : Good s) where
  -- the next id names no row
  pub next_none : find s.book.next s.book.rows ≡ none
  next_none = ids_none 1 s.book.next s.book.next s.book.rows w.rise (omega arith)

  pub next_unmarked : (m : Bool) (b k : ℕ) → is_by m s.book.next ((s.tables b).slots k) ≡ false
  next_unmarked m b k = bit_false (is_by m s.book.next ((s.tables b).slots k)) (sym (w.marked m s.book.next b k)
      ∙ rw next_none (none_in m b k))

  -- a parcel of one handle is made, and its object's count goes up by one
  pub new_parcel : (h : Handle) (f : Object → Object) → free_row s ≡ true → id_left s ≡ true → HandleRange s h
      → Fit (f (s.objects h.object)) → (f (s.objects h.object)).count ≡ (s.objects h.object).count + 1
      → Good (add_row (parcel (h ∷ [])) (with_objects s (change f s.objects h.object)))
  new_parcel h f e i r g c = let n : ℕ = s.book.next in let os : ℕ → Object = s.objects in let k : ℕ = h.object in
      let x : Body = parcel (h ∷ []) in
      settled s s.tables (change f os k) (s.book.rows ++ (row n x ∷ [])) (n + 1) s.frames
      (objects_step s (change f os k) (s.book.rows ++ (row n x ∷ [])) (n + 1) w (book_add s w x e i (one_batch h, (r, tt)) (λ b q. refl))
      (λ m j b p. bool (eqb j n)
      (λ q. rw (eqb-true j n q, find_add_same n x s.book.rows next_none, next_unmarked m b p) (parcel_in m b p (h ∷ [])))
      (λ q. rw (find_add_other n j (eqb-false j n q) x s.book.rows) (w.marked m j b p)))
      (λ o l. (
        change_at Fit f os k o (λ q. rw q g) (λ q. w.fit o l),
        change_at (λ y. y.count + in_rows o s.book.rows ≡ (os o).count + in_rows o (s.book.rows ++ (row n x ∷ []))) f os k o
            (λ q. omega (arith, rw (← q) at c, of_same o h q, rows_add o s.book.rows (row n x)))
            (λ q. omega (arith, of_other o h q, rows_add o s.book.rows (row n x))),
      )))

  -- a parcel is released
  pub release_parcel : (i : ℕ) (hs : List Handle) → find i s.book.rows ≡ some (parcel hs) → Good (drop_row i (release s hs))
  release_parcel i hs e = let os : ℕ → Object = change_all lower hs s.objects in let rs : List Row = s.book.rows in
      let d : (o : ℕ) → in_rows o (drop_id i rs) + in_handles o hs ≡ in_rows o rs = λ o. rows_drop o i (parcel hs) 1 s.book.next rs w.rise e in
      let a = lower_all s.object_count hs s.objects w.fit (λ o l. omega (arith, w.counted o l, d o)) in
      settled s s.tables os (drop_id i rs) s.book.next s.frames
      (objects_step s os (drop_id i rs) s.book.next w (book_drop s rs s.book.next (book_same s w) i)
      (λ m j b p. bool (eqb j i)
      (λ q. let was : in_row m b p (find i rs) ≡ bit (is_by m i ((s.tables b).slots p)) = w.marked m i b p in
      rw (eqb-true j i q, find_drop_same i rs) (none_in m b p ∙ sym (parcel_in m b p hs) ∙ (rw e at was)))
      (λ q. rw (find_drop_other i j (eqb-false j i q) rs) (w.marked m j b p)))
      (λ o l. ((a o l).0, omega (arith, (a o l).1, d o))))

  pub retire_object : (k : ℕ) → Good (with_objects s (change retired_by_owner s.objects k))
  retire_object k = let os : ℕ → Object = change retired_by_owner s.objects k in
      settled s s.tables os s.book.rows s.book.next s.frames
      (objects_step s os s.book.rows s.book.next w (book_same s w) w.marked
      (λ o l. (
        change_at Fit retired_by_owner s.objects k o (λ q. retired_fit (s.objects o) (w.fit o l)) (λ q. w.fit o l),
        change_at (λ y. y.count + in_rows o s.book.rows ≡ (s.objects o).count + in_rows o s.book.rows) retired_by_owner s.objects k o
            (λ q. refl) (λ q. refl),
      )))

  -- a plan is made, or goes: it has no slots and no handles
  pub new_plan : (b n : ℕ) (r : StorageSnapshot) (fs gs : List ℕ) → free_row s ≡ true → id_left s ≡ true → Good (add_row (plan b n r fs) (with_frames s gs))
  new_plan b n r fs gs e i = let m : ℕ = s.book.next in let x : Body = plan b n r fs in let rs : List Row = s.book.rows in
      settled s s.tables s.objects (rs ++ (row m x ∷ [])) (m + 1) gs
      (objects_step s s.objects (rs ++ (row m x ∷ [])) (m + 1) w (book_add s w x e i tt (λ c q. refl))
      (λ k j c p. bool (eqb j m)
      (λ q. rw (eqb-true j m q, find_add_same m x rs next_none, next_unmarked k c p) (plan_in k c p b n r fs))
      (λ q. rw (find_add_other m j (eqb-false j m q) x rs) (w.marked k j c p)))
      (λ o l. (w.fit o l, omega (arith, rows_add o rs (row m x)))))

  pub end_plan : (i b n : ℕ) (r : StorageSnapshot) (fs gs : List ℕ) → find i s.book.rows ≡ some (plan b n r fs) → Good (drop_row i (with_frames s gs))
  end_plan i b n r fs gs e = let rs : List Row = s.book.rows in
      settled s s.tables s.objects (drop_id i rs) s.book.next gs
      (objects_step s s.objects (drop_id i rs) s.book.next w (book_drop s rs s.book.next (book_same s w) i)
      (λ m j c p. bool (eqb j i)
      (λ q. let was : in_row m c p (find i rs) ≡ bit (is_by m i ((s.tables c).slots p)) = w.marked m i c p in
      rw (eqb-true j i q, find_drop_same i rs) (none_in m c p ∙ sym (plan_in m c p b n r fs) ∙ (rw e at was)))
      (λ q. rw (find_drop_other i j (eqb-false j i q) rs) (w.marked m j c p)))
      (λ o l. (w.fit o l, omega (arith, rows_drop o i (plan b n r fs) 1 s.book.next rs w.rise e))))

  pub spend_id_law : id_left s ≡ true → Good (spend_id s)
  spend_id_law e = let n : ℕ = s.book.next in settled s s.tables s.objects s.book.rows (n + 1) s.frames
      (objects_step s s.objects s.book.rows (n + 1) w
      (record { rise = ids_spend 1 n s.book.rows w.rise; next = id_left_law s e w.next; room = w.room; rows = w.rows; closing = w.closing })
      w.marked
      (λ o l. (w.fit o l, refl)))

  -- a handle that stands in a slot is counted
  module _ (b k g : ℕ) (h : Handle) (l : b < s.table_count) (e : (s.tables b).slots k ≡ occupied g h) where
    slot_below : k < max_slots
    slot_below = present_below s w b k (rw e)

    pub slot_counted : (o : ℕ) → o < s.object_count → of_object o h ≤ (s.objects o).count
    slot_counted o m = let a : in_slot o ((s.tables b).slots k) ≡ of_object o h = rw e in
        omega (
          arith,
          a,
          sum_part max_slots (λ j. in_slot o ((s.tables b).slots j)) k slot_below,
          sum_part s.table_count (λ c. total o (s.tables c).slots) b l,
          w.counted o m,
        )

  -- an occupied slot gets contents that bear no mark
  module _ (b k g : ℕ) (h : Handle) (l : b < s.table_count) (e : (s.tables b).slots k ≡ occupied g h) (t : Table) (x : Slot) (p : (j : ℕ)
      → t.slots j ≡ put (s.tables b).slots k x j)
      (y : bare x ≡ true) (yr : SlotRange s x) (here : is_absent x ≡ false) (live : is_retired t.life ≡ false)
      (closing : is_active t.life ≡ false → any_open b s.book.rows ≡ false) where
    one_slot : (os : ℕ → Object) → ((o : ℕ) → o < s.object_count → Fit (os o) × ((os o).count + of_object o h ≡ (s.objects o).count + in_slot o x))
        → (fs : List ℕ) → Good (edit s (put s.tables b t) os s.book.rows s.book.next fs)
    one_slot os c fs = settled s (put s.tables b t) os s.book.rows s.book.next fs
        (table_step s b t os s.book.rows s.book.next w (book_same s w) (record {
          known = l;
          closed = λ j q. clash q live;
          closing = closing;
          slots = λ j. rw (p j) (bool (eqb j k) (λ q. rw q yr) (λ q. rw q (w.slots b j)));
          placed = λ j m. rw (p j) (bool (eqb j k) (λ q. absurd (omega (arith, eqb-true j k q, slot_below b k g h l e)))
              (λ q. rw q (w.placed b j m)));
          marked = marked_same s.tables b t s.book.rows w.marked (λ m i j. rw (p j) (bool (eqb j k)
              (λ q. rw (q, eqb-true j k q, e, bare_mark m i x y) (sym (bare_mark m i (occupied g h) refl)))
              (λ q. rw q)));
          counted = λ o m. (
            (c o m).0,
            let a = sum_put (in_slot o) max_slots (s.tables b).slots k x (slot_below b k g h l e) in
                let a' = total_same o t.slots (put (s.tables b).slots k x) (λ j. rw (p j)) in
                let a'' : in_slot o ((s.tables b).slots k) ≡ of_object o h = rw e in omega (arith, a, a', a'', (c o m).1),
          );
        }))

  -- the slot falls vacant and its handle is released
  pub close_slot : (b k g : ℕ) (h : Handle) → b < s.table_count → (s.tables b).slots k ≡ occupied g h → (t : Table) (v : ℕ)
      → ((j : ℕ) → t.slots j ≡ put (s.tables b).slots k (vacant v) j) → is_retired t.life ≡ false
      → (is_active t.life ≡ false → any_open b s.book.rows ≡ false) → Good (release (with_table s b t) (h ∷ []))
  close_slot b k g h l e t v p live closing = one_slot b k g h l e t (vacant v) p refl tt refl live closing (change_all lower (h ∷ []) s.objects)
      (λ o m. let a = lower_all s.object_count (h ∷ []) s.objects w.fit
      (λ c q. omega (arith, slot_counted b k g h l e c q)) o m in (a.0, omega (arith, a.1))) s.frames

  -- another handle of the same object in its place
  pub replace_slot : (b k g : ℕ) (h : Handle) → b < s.table_count → (s.tables b).slots k ≡ occupied g h → (t : Table) (v r : ℕ)
      → ((j : ℕ) → t.slots j ≡ put (s.tables b).slots k (occupied v (with_rights h r)) j) → HandleRange s (with_rights h r)
      → is_retired t.life ≡ false
      → (is_active t.life ≡ false → any_open b s.book.rows ≡ false) → Good (with_table s b t)
  replace_slot b k g h l e t v r p hr live closing = one_slot b k g h l e t (occupied v (with_rights h r)) p refl hr refl live closing s.objects
      (λ o m. (w.fit o m, refl)) s.frames

-- a slot that is not busy has no mark and no handle

pub idle_bare : (x : Slot) → is_busy x ≡ false → bare x ≡ true
idle_bare absent e = refl
idle_bare (vacant g) e = refl
idle_bare (reserved g i) e = clash refl e
idle_bare (transfer_reserved g i) e = clash refl e
idle_bare (occupied g h) e = refl

pub idle_held : (o : ℕ) (x : Slot) → is_busy x ≡ false → in_slot o x ≡ 0
idle_held o absent e = refl
idle_held o (vacant g) e = refl
idle_held o (reserved g i) e = refl
idle_held o (transfer_reserved g i) e = refl
idle_held o (occupied g h) e = clash refl e

idle_range : (s : State) (x : Slot) → is_busy x ≡ false → SlotRange s x
idle_range s absent e = tt
idle_range s (vacant g) e = tt
idle_range s (reserved g i) e = tt
idle_range s (transfer_reserved g i) e = tt
idle_range s (occupied g h) e = clash refl e

-- a table that differs from another only in slots that are not busy
pub record Calm (t u : Table) : Type 0 where
  pub busy : (k : ℕ) → is_busy (u.slots k) ≡ is_busy (t.slots k)
  pub others : (k : ℕ) → is_busy (t.slots k) ≡ true → u.slots k ≡ t.slots k
  pub placed : (k : ℕ) → max_slots ≤ k → is_absent (u.slots k) ≡ true

pub calm_step : (s : State) → Good s → (b : ℕ) (t : Table) → b < s.table_count → Calm (s.tables b) t
    → ((k : ℕ) → is_retired t.life ≡ true → is_occupied (t.slots k) ≡ false)
    → (is_active t.life ≡ false → any_open b s.book.rows ≡ false) → (fs : List ℕ) → Good (with_frames (with_table s b t) fs)
calm_step s w b t l c closed closing fs = let old : ℕ → Slot = (s.tables b).slots in
    settled s (put s.tables b t) s.objects s.book.rows s.book.next fs
    (table_step s b t s.objects s.book.rows s.book.next w (book_same s w) (record {
      known = l;
      closed = closed;
      closing = closing;
      slots = λ k. bool (is_busy (old k)) (λ e. rw (c.others k e) (w.slots b k)) (λ e. idle_range s (t.slots k) (c.busy k ∙ e));
      placed = c.placed;
      marked = marked_same s.tables b t s.book.rows w.marked (λ m i k. bool (is_busy (old k))
          (λ e. rw (c.others k e))
          (λ e. bare_mark m i (t.slots k) (idle_bare (t.slots k) (c.busy k ∙ e)) ∙ sym (bare_mark m i (old k) (idle_bare (old k) e))));
      counted = λ o m. (
        w.fit o m,
        let a : total o t.slots ≡ total o old = total_same o t.slots old (λ k. bool (is_busy (old k))
            (λ e. rw (c.others k e))
            (λ e. idle_held o (t.slots k) (c.busy k ∙ e) ∙ sym (idle_held o (old k) e))) in omega (arith, a),
      );
    }))

-- a table whose slots stay
pub calm_same : (s : State) → Good s → (b : ℕ) (t : Table) → ((k : ℕ) → t.slots k ≡ (s.tables b).slots k) → Calm (s.tables b) t
calm_same s w b t e = record { busy = λ k. rw (e k); others = λ k q. e k; placed = λ k l. rw (e k) (w.placed b k l) }
