-- The check's answer `no` is right: the memory of a well-formed state has the facts of the ledger. Assumes nothing.
use Rattle.std.specs.Prelude.{◌≡◌, Bool, false, ◌&&◌, ◌||◌, eqb, ltb}
use Rattle.std.proofs.Math.Path.{refl, ap, subst}
use Rattle.std.proofs.Common.{sym, ◌∙◌, arith, eq-eqb, eqb-true}
use Rattle.std.proofs.Math.Bool.{true}
use mathlib.Core.List.{List}
use Rattle.std.proofs.Math.Option.{some}
use Prim.Native.Nat.{ℕ, zero, suc, ◌+◌, ◌-◌, ◌%◌, ◌≤◌, ◌<◌}
use Rattle.std.proofs.lemmas.Bool.{eqb-false}
use Rattle.words.specs.Pick.{bool, clash, both, both_is}
use Rattle.model.specs.Base.{bit, pick, occurs}
use Rattle.model.specs.State.{till, Lifecycle, Lifecycle.active, Lifecycle.tearing_down, Lifecycle.retired, Row, State, is_active, max_batch, known_flags}
use Rattle.model.specs.Create.{max_pages}
use Rattle.model.proofs.Bounds.{slots_max_law, pages_max_law, batch_max_law}
use Rattle.model.specs.Book.{find, opens_in, any_open}
use Rattle.model.specs.WellFormed.{HandleRange, EntryRange, All, JustEnough, Rising, PlanRange, BodyRange, RowRange, frames_in, plans_with, IdsRise, WellFormed}
use Rattle.model.proofs.Tests.{same, bit_true}
use Rattle.invariant.proofs.Marks.{in_row, is_by, both_marks}
use Rattle.invariant.proofs.BookLemmas.{ids_order}
use Rattle.layout.specs.declared.Shape.{Shape}
use Rattle.layout.specs.Layout.{Mem, root, head, index, rank, row, item}
use Rattle.layout.specs.Fields.{root_next_id, root_used_rows, head_lifecycle, head_cursor, slot_tag, slot_place, slot_position, row_id, row_kind, row_table, row_length, row_count, item_slot, item_operation, item_moved, item_page, item_frame}
use Rattle.layout.specs.Values.{tag_transfer_reserved, tag_occupied, kind_reservation, kind_claim, kind_parcel, kind_plan, life_active, operation_move}
use Rattle.layout.specs.Sizes.{page_size, batch_max}
use Rattle.representation.specs.Represents.{word_in, frame_of, slot_word, slot_in, LifeIs, is_marked, Items, EntryIs, HeldIs, PlanIs, BodyIs, RowsAre, Represents}
use Rattle.representation.specs.Told.{tag_of}
use Rattle.structure.specs.Complete.{planned_below}
use Rattle.ledger.specs.Items.{HandleOk, Names}
use Rattle.ledger.specs.Plans.{want_at, low_at, PlanOk, want_less}
use Rattle.ledger.specs.Ledger.{before, hit_b, RowOk, MarkOk, MarksOk, Ledger, ledger_b, ledger_yes}
use Rattle.ledger.specs.View.{from, handle_at, entry_by, item_at, snapshot_at, frames_at, body_by, body_at, row_at, rows_from, rows_view, length_from, rows_are_view}
use Rattle.ledger.specs.Found.{tally_has, tally_two, occurs_from, hits, in_body, find_split, is_by_law, marked_is}
use Rattle.ledger.specs.Shown.{id_at, ranked, one_id, one_place}

-- ---- elements of the view

module _ {A : Type 0} (f : ℕ → A) where
  items_at : (P : ℕ → A → Type 0) (j n : ℕ) → Items P j (from f j n) → (i : ℕ) → j ≤ i → i < j + n → P i (f i)
  items_at P j zero p i a b = absurd (omega arith)
  items_at P j (suc n) p i a b = bool (eqb i j)
      (λ e. rw (eqb-true i j e) p.0)
      (λ e. let y = eqb-false i j e in items_at P (suc j) n p.1 i (omega arith) (omega arith))

  elements_at : (P : A → Type 0) (j n : ℕ) → All P (from f j n) → (i : ℕ) → j ≤ i → i < j + n → P (f i)
  elements_at P j zero p i a b = absurd (omega arith)
  elements_at P j (suc n) p i a b = bool (eqb i j)
      (λ e. rw (eqb-true i j e) p.0)
      (λ e. let y = eqb-false i j e in elements_at P (suc j) n p.1 i (omega arith) (omega arith))

module _ (m : Mem) where
  bodies_at : (i n : ℕ) → RowsAre m i (rows_from m i n) → (r : ℕ) → i ≤ r → r < i + n → BodyIs m (m (index r)) (body_at m (m (index r)))
  bodies_at i zero p r a b = absurd (omega arith)
  bodies_at i (suc n) p r a b = bool (eqb r i)
      (λ e. rw (eqb-true r i e) p.1)
      (λ e. let y = eqb-false r i e in bodies_at (suc i) n p.2 r (omega arith) (omega arith))

  rows_at : (P : Row → Type 0) (i n : ℕ) → All P (rows_from m i n) → (r : ℕ) → i ≤ r → r < i + n → P (row_at m (m (index r)))
  rows_at P i zero p r a b = absurd (omega arith)
  rows_at P i (suc n) p r a b = bool (eqb r i)
      (λ e. rw (eqb-true r i e) p.0)
      (λ e. let y = eqb-false r i e in rows_at P (suc i) n p.1 r (omega arith) (omega arith))

  plans_at : (f i n r : ℕ) → i ≤ r → r < i + n → occurs f (frames_in (body_at m (m (index r)))) ≤ plans_with (rows_from m i n) f
  plans_at f i zero r a b = absurd (omega arith)
  plans_at f i (suc n) r a b = bool (eqb r i)
      (λ e. rw (eqb-true r i e) (omega arith))
      (λ e. omega (arith, plans_at f (suc i) n r (omega (arith, eqb-false r i e)) (omega arith)))

  ids_at : (lo i n next : ℕ) → IdsRise lo (rows_from m i n) next → before m i < lo → (r : ℕ) → i ≤ r → r < i + n → (before m r < id_at m r) × (id_at m r < next)
  ids_at lo i zero next p h r a b = absurd (omega arith)
  ids_at lo i (suc n) next p h r a b = bool (eqb r i)
      (λ e. rw (eqb-true r i e) (omega (arith, p.0), ids_order (suc (id_at m i)) next (rows_from m (suc i) n) p.1))
      (λ e. let y = eqb-false r i e in ids_at (suc (id_at m i)) (suc i) n next p.1 (omega arith) r (omega arith) (omega arith))

  some_open : (b i n r : ℕ) → i ≤ r → r < i + n → opens_in b (body_at m (m (index r))) ≡ true → any_open b (rows_from m i n) ≡ true
  some_open b i zero r lo hi e = absurd (omega arith)
  some_open b i (suc n) r lo hi e = bool (eqb r i)
      (λ d. let z : opens_in b (body_at m (m (index i))) ≡ true = rw (eqb-true r i d) at e in rw z)
      (λ d. let y = eqb-false r i d in let z = some_open b (suc i) n r (omega arith) (omega arith) e in or_right (opens_in b (body_at m (m (index i)))) (any_open b (rows_from m (suc i) n)) z)
    where
      or_right : (a c : Bool) → c ≡ true → (a || c) ≡ true
      or_right true c z = refl
      or_right false c z = z

active_life : (v c : ℕ) (x : Lifecycle) → LifeIs v c x → is_active x ≡ true → v ≡ 0
active_life v c active p e = p
active_life v c (tearing_down n) p e = clash e refl
active_life v c retired p e = clash e refl

-- a slot with a word has a frame
framed : (m : Mem) (l j f : ℕ) → 0 < word_in m l j f → 0 < l
framed m zero j f h = absurd (omega arith)
framed m (suc l) j f h = omega arith

-- a tag's kind of mark
kind_of : {C : Type 0} (v : ℕ) → 0 < v → v < tag_occupied → ((t : Bool) → v ≡ tag_of t → C) → C
kind_of zero a b f = absurd (omega arith)
kind_of (suc zero) a b f = f true refl
kind_of (suc (suc zero)) a b f = f false refl
kind_of (suc (suc (suc v))) a b f = absurd (omega arith)

tag_marks : (t : Bool) → (ltb 0 (tag_of t) && ltb (tag_of t) tag_occupied) ≡ true
tag_marks true = refl
tag_marks false = refl

tag_some : (t : Bool) → 0 < tag_of t
tag_some true = omega arith
tag_some false = omega arith

picked : (b : Bool) (n : ℕ) → pick b n 0 ≡ 1 → (b ≡ true) × (n ≡ 1)
picked true n e = (refl, e)
picked false n e = absurd (omega arith)

hit_yes : (m : Mem) (t : Bool) (x j k : ℕ) → m (item x j (tag_of t - 1)) ≡ k → (tag_of t ≡ tag_transfer_reserved → m (item x j item_operation) ≡ operation_move) → hit_b m (tag_of t) x j k ≡ true
unfolding hit_b
hit_yes m true x j k e f = eq-eqb k (m (item x j item_slot)) (sym e)
hit_yes m false x j k e f = both_is (eqb (m (item x j item_operation)) operation_move) (eqb k (m (item x j item_moved))) (eq-eqb (m (item x j item_operation)) operation_move (f refl)) (eq-eqb k (m (item x j item_moved)) (sym e))

-- the slot k of table b is the item j of the row in place x, of the kind t, and of no other item
record Single (m : Mem) (sh : Shape) (t : Bool) (b k x j : ℕ) : Type 0 where
  pub mark : MarkOk m sh b k (tag_of t) x j
  pub once : hits m t x k ≡ 1

-- ---- what the ranges of a body are in words

-- of a row that is no plan
record Lists (m : Mem) (sh : Shape) (x : ℕ) : Type 0 where
  pub some_item : 1 ≤ m (row x row_length)
  pub table : (m (row x row_kind) ≡ kind_parcel → ⊥) → m (row x row_table) < sh.tables
  pub handle : (m (row x row_kind) ≡ kind_reservation → ⊥) → (j : ℕ) → j < m (row x row_length) → HandleOk m sh x j
  pub operation : m (row x row_kind) ≡ kind_claim → (j : ℕ) → j < m (row x row_length) → m (item x j item_operation) ≤ 1

record Fits (m : Mem) (sh : Shape) (x : ℕ) : Type 0 where
  pub kind : 1 ≤ m (row x row_kind)
  pub known : m (row x row_kind) ≤ kind_plan
  pub few_items : m (row x row_length) ≤ batch_max
  pub lists : (m (row x row_kind) ≡ kind_plan → ⊥) → Lists m sh x
  pub plans : m (row x row_kind) ≡ kind_plan → PlanOk m sh x (m (row x row_length))

-- a plan's pages and frames, from item j on
module _ (m : Mem) (x : ℕ) where
  enough_at : (j n : ℕ) → JustEnough till (want_at m x j) (from (λ i. m (item x i item_page)) j n) → ((i : ℕ) → j ≤ i → i < j + n → 1 ≤ want_at m x i) × (want_at m x (j + n) ≡ 0)
  enough_at j zero h = let z : j + 0 ≡ j = omega arith in (λ i a b. absurd (omega arith), rw z h)
  enough_at j (suc n) h =
      let r = enough_at (suc j) n h.1 in let z : j + suc n ≡ suc j + n = omega arith in (
        λ i a b. bool (eqb i j) (λ e. rw (eqb-true i j e) h.0) (λ e. r.0 i (omega (arith, eqb-false i j e)) (omega arith)),
        rw z r.1,
      )

  rising_at : (j n : ℕ) → Rising (from (λ i. m (item x i item_frame)) j n) → (i : ℕ) → j ≤ i → suc i < j + n → m (item x i item_frame) < m (item x (suc i) item_frame)
  rising_at j zero h i a b = absurd (omega arith)
  rising_at j (suc zero) h i a b = absurd (omega arith)
  rising_at j (suc (suc n)) h i a b = bool (eqb i j)
      (λ e. rw (eqb-true i j e) h.0)
      (λ e. rising_at (suc j) (suc n) h.1 i (omega (arith, eqb-false i j e)) (omega arith))

  low_at_law : (n : ℕ) → Rising (from (λ i. m (item x i item_frame)) 0 n) → (j : ℕ) → j < n → low_at m x j ≤ m (item x j item_frame)
  low_at_law n h zero l = omega arith
  low_at_law n h (suc j) l = rising_at 0 n h j (omega arith) (omega arith)

module _ (m : Mem) (sh : Shape) (s : State) (tables : sh.tables ≡ s.table_count) (objects : sh.objects ≡ s.object_count) (x : ℕ)
    (below : (f : ℕ) → 0 < occurs f (frames_in (body_at m x)) → f < sh.frames) where
  handle_fits : (j : ℕ) → HandleRange s (handle_at m x j) → HandleOk m sh x j
  unfolding known_flags
  handle_fits j h = record { object = omega (arith, h.object); flags = h.flags }

  entry_fits : (j o : ℕ) → EntryRange s (entry_by m x j o) → HandleOk m sh x j
  entry_fits j zero h = handle_fits j h.0
  entry_fits j (suc o) h = handle_fits j h

  entry_known : (j o : ℕ) → m (item x j item_operation) ≡ o → EntryIs m x j (entry_by m x j o) → m (item x j item_operation) ≤ 1
  entry_known j zero e i = omega arith
  entry_known j (suc o) e i = omega (arith, i.0)

  plan_fits : m (row x row_kind) ≡ kind_plan → PlanIs m x (m (row x row_table)) (m (row x row_count)) (snapshot_at m x) (frames_at m x)
      → PlanRange till s (m (row x row_table)) (m (row x row_count)) (snapshot_at m x) (frames_at m x) → PlanOk m sh x (m (row x row_length))
  plan_fits e i g =
      let n : ℕ = m (row x row_length) in let w = enough_at m x 0 n g.kept.enough in
      let frame : (j : ℕ) → j < m (row x row_length) → 0 < occurs (m (item x j item_frame)) (frames_at m x) = λ j h.
      omega (
        arith,
        occurs_from (m (item x j item_frame)) (λ k. m (item x k item_frame)) 0 (m (row x row_length)),
        tally_has (λ k. eqb (m (item x j item_frame)) (m (item x k item_frame))) 0 (m (row x row_length)) j (omega arith) (omega arith) (same (m (item x j item_frame))),
      ) in
      let z : 0 + m (row x row_length) ≡ m (row x row_length) = omega arith in
      record {
        table = omega (arith, g.table);
        some_count = g.count.0;
        few_count = omega (arith, g.count.1, batch_max_law);
        free = omega (arith, g.kept.free_slots, slots_max_law);
        items = λ j h. record {
          wanted = w.0 j (omega arith) (omega arith);
          page = omega (arith, pages_max_law, elements_at (λ k. m (item x k item_page)) (λ p. p < max_pages till) 0 (m (row x row_length)) g.kept.pages j (omega arith) (omega arith));
          above = low_at_law m x (m (row x row_length)) g.rising j h;
          frame = below (m (item x j item_frame)) (rw e (frame j h));
          owner = (items_at (λ k. m (item x k item_frame)) (HeldIs m x) 0 (m (row x row_length)) i.held j (omega arith) (omega arith)).1;
        };
        enough = rw z at w.1;
      }

  fits : (v : ℕ) → m (row x row_kind) ≡ v → BodyIs m x (body_by m x v) → BodyRange till s (body_by m x v) → Fits m sh x
  unfolding max_batch
  fits zero e i g = absurd (omega (arith, i.0))
  fits (suc zero) e i g = let n = length_from (λ j. m (item x j item_slot)) 0 (m (row x row_length)) in record {
    kind = omega arith;
    known = omega arith;
    few_items = omega (arith, g.1.1);
    lists = λ y. record {
      some_item = omega (arith, g.1.0);
      table = λ z. omega (arith, g.0);
      handle = λ z. absurd (z e);
      operation = λ z. absurd (omega arith);
    };
    plans = λ z. absurd (omega arith);
  }
  fits (suc (suc zero)) e i g = let n = length_from (item_at m x) 0 (m (row x row_length)) in record {
    kind = omega arith;
    known = omega arith;
    few_items = omega (arith, g.1.1);
    lists = λ y. record {
      some_item = omega (arith, g.1.0);
      table = λ z. omega (arith, g.0);
      handle = λ z j h. entry_fits j (m (item x j item_operation)) (elements_at (item_at m x) (EntryRange s) 0 (m (row x row_length)) g.2 j (omega arith) (omega arith));
      operation = λ z j h. entry_known j (m (item x j item_operation)) refl (items_at (item_at m x) (EntryIs m x) 0 (m (row x row_length)) i.3 j (omega arith) (omega arith));
    };
    plans = λ z. absurd (omega arith);
  }
  fits (suc (suc (suc zero))) e i g = let n = length_from (handle_at m x) 0 (m (row x row_length)) in record {
    kind = omega arith;
    known = omega arith;
    few_items = omega (arith, g.0.1);
    lists = λ y. record {
      some_item = omega (arith, g.0.0);
      table = λ z. absurd (z e);
      handle = λ z j h. handle_fits j (elements_at (handle_at m x) (HandleRange s) 0 (m (row x row_length)) g.1 j (omega arith) (omega arith));
      operation = λ z. absurd (omega arith);
    };
    plans = λ z. absurd (omega arith);
  }
  fits (suc (suc (suc (suc zero)))) e i g =
      let p : PlanOk m sh x (m (row x row_length)) = plan_fits e i g in record {
        kind = omega arith;
        known = omega arith;
        few_items = omega (arith, want_less m x (m (row x row_length)) (λ j h. ((p.items j h).wanted, (p.items j h).page)), p.few_count);
        lists = λ z. absurd (z e);
        plans = λ z. p;
      }
  fits (suc (suc (suc (suc (suc v))))) e i g = absurd (omega (arith, i.0))

opens_there : (m : Mem) (x v : ℕ) → m (row x row_kind) ≡ v → kind_reservation ≤ v → v ≤ kind_claim → opens_in (m (row x row_table)) (body_by m x v) ≡ true
opens_there m x zero e a b = absurd (omega arith)
opens_there m x (suc zero) e a b = same (m (row x row_table))
opens_there m x (suc (suc zero)) e a b = same (m (row x row_table))
opens_there m x (suc (suc (suc v))) e a b = absurd (omega arith)

module _ (sh : Shape) (m : Mem) (s : State) (p : Represents sh m s) (w : WellFormed till s) where
  -- ---- the book is the view

  pub view : s.book.rows ≡ rows_view m
  unfolding rows_view
  view = rows_are_view m 0 s.book.rows p.book.rows ∙ ap (λ (n : ℕ). rows_from m 0 n) (sym p.book.used)

  slot_of : (b k : ℕ) → b < sh.tables → slot_in m b k ≡ (s.tables b).slots k
  slot_of b k h = (p.tables b (omega (arith, p.table_count))).slots k

  rows_here : RowsAre m 0 (rows_from m 0 (m (root root_used_rows)))
  unfolding rows_view
  rows_here = rw view at p.book.rows

  body_here : (r : ℕ) → r < m (root root_used_rows) → BodyIs m (m (index r)) (body_at m (m (index r)))
  body_here r h = bodies_at m 0 (m (root root_used_rows)) rows_here r (omega arith) (omega arith)

  ranges_here : All (RowRange till s) (rows_from m 0 (m (root root_used_rows)))
  unfolding rows_view
  ranges_here = subst (All (RowRange till s)) view w.ranges.rows

  range_here : (r : ℕ) → r < m (root root_used_rows) → BodyRange till s (body_at m (m (index r)))
  range_here r h = rows_at m (RowRange till s) 0 (m (root root_used_rows)) ranges_here r (omega arith) (omega arith)

  ids_here : (r : ℕ) → r < m (root root_used_rows) → (before m r < id_at m r) × (id_at m r < m (root root_next_id))
  unfolding rows_view
  ids_here r h = ids_at m 1 0 (m (root root_used_rows)) (m (root root_next_id)) (rw (view, ← p.book.next) at w.ids.rise) (omega arith) r (omega arith) (omega arith)

  few : m (root root_used_rows) ≤ sh.rows
  few = omega (arith, w.ranges.row_count, p.book.used, p.capacity)

  places_here : (i : ℕ) → i < sh.rows → (m (index i) < sh.rows) × (m (rank (m (index i))) ≡ i)
  places_here i h = let q = p.book.places i (omega (arith, p.capacity)) in (omega (arith, q.0, p.capacity), q.1)

  place_here : (x r : ℕ) → x < sh.rows → m (rank x) < m (root root_used_rows) → r < m (root root_used_rows) → m (row x row_id) ≡ id_at m r → x ≡ m (index r)
  place_here = one_place m sh.rows (m (root root_used_rows)) few places_here (λ i h. (ids_here i h).0)

  id_here : (r q : ℕ) → r < m (root root_used_rows) → q < m (root root_used_rows) → id_at m r ≡ id_at m q → r ≡ q
  id_here = one_id m sh.rows (m (root root_used_rows)) few places_here (λ i h. (ids_here i h).0)

  marks_here : (t : Bool) (i b k : ℕ) → b < sh.tables → in_row t b k (find i (rows_from m 0 (m (root root_used_rows)))) ≡ bit (eqb (slot_word m b k slot_tag) (tag_of t) && eqb i (m (row (slot_word m b k slot_place) row_id)))
  unfolding rows_view
  marks_here t i b k h = ap (λ (l : List Row). in_row t b k (find i l)) (sym view) ∙ both_marks s w.marks t i b k ∙ ap (λ z. bit (is_by t i z)) (sym (slot_of b k h)) ∙ ap bit (is_by_law m t i b k)

  -- an id finds the row of its rank
  found_here : (t : Bool) (r b k : ℕ) → r < m (root root_used_rows) → in_row t b k (find (id_at m r) (rows_from m 0 (m (root root_used_rows)))) ≡ in_row t b k (some (body_at m (m (index r))))
  found_here t r b k h = find_split m 0 (m (root root_used_rows)) (id_at m r)
      (λ q a. ap (in_row t b k) a.found ∙ ap (λ (i : ℕ). in_row t b k (some (body_at m (m (index i))))) (id_here q r (omega (arith, a.below)) h a.named))
      (λ d n. absurd (n r (omega arith) (omega arith) refl))

  single : (t : Bool) (b k x j : ℕ) → b < sh.tables → slot_word m b k slot_tag ≡ tag_of t → slot_word m b k slot_place ≡ x → slot_word m b k slot_position ≡ j → Single m sh t b k x j
  single t b k x j lb e ex ej =
      let shown : is_marked ((s.tables b).slots k) ≡ true = ap is_marked (sym (slot_of b k lb)) ∙ marked_is m b k ∙ ap (λ (v : ℕ). ltb 0 v && ltb v 3) e ∙ tag_marks t in
      let q = rw (e, ex, ej) at (p.book.marks b k (omega (arith, p.table_count)) shown) in
      let lx : x < sh.rows = omega (arith, q.0, p.capacity) in
      let lr : m (rank x) < m (root root_used_rows) = omega (arith, q.1, p.book.used) in
      let z : m (index (m (rank x))) ≡ x = ranked m sh.rows (m (root root_used_rows)) few places_here (λ i h. (ids_here i h).0) x lx in
      let c : in_row t b k (some (body_at m (m (index (m (rank x)))))) ≡ bit (eqb (slot_word m b k slot_tag) (tag_of t) && eqb (id_at m (m (rank x))) (m (row (slot_word m b k slot_place) row_id))) = sym (found_here t (m (rank x)) b k lr) ∙ marks_here t (id_at m (m (rank x))) b k lb in
      let d : in_row t b k (some (body_at m x)) ≡ bit (eqb (tag_of t) (tag_of t) && eqb (m (row x row_id)) (m (row x row_id))) = rw (z, e, ex) at c in
      let f = picked (eqb (m (row x row_kind)) (tag_of t) && eqb b (m (row x row_table))) (hits m t x k) (sym (in_body m t b k x) ∙ d ∙ rw (same (tag_of t), same (m (row x row_id)))) in
      let g = both (eqb (m (row x row_kind)) (tag_of t)) (eqb b (m (row x row_table))) f.0 in
      record {
        mark = record {
          place = lx;
          used = lr;
          position = q.2;
          kind = eqb-true (m (row x row_kind)) (tag_of t) g.0;
          table = q.3;
          hit = hit_yes m t x j k q.4 q.5;
        };
        once = f.1;
      }

  pub marks_complete : MarksOk m sh
  marks_complete b k lb lo hi = kind_of (slot_word m b k slot_tag) lo hi (λ t e. rw e (single t b k (slot_word m b k slot_place) (slot_word m b k slot_position) lb e refl refl).mark)

  -- an item's slot names the item
  named : (t : Bool) (r j k : ℕ) → r < m (root root_used_rows) → m (row (m (index r)) row_table) < sh.tables → m (row (m (index r)) row_kind) ≡ tag_of t → j < m (row (m (index r)) row_length) → hit_b m (tag_of t) (m (index r)) j k ≡ true
      → Names m (m (row (m (index r)) row_table)) k (tag_of t) (m (index r)) j
  named t r j k lr lb e lj h = at (m (index r)) refl lb e lj h
    where
      at : (x : ℕ) → m (index r) ≡ x → m (row x row_table) < sh.tables → m (row x row_kind) ≡ tag_of t → j < m (row x row_length) → hit_b m (tag_of t) x j k ≡ true → Names m (m (row x row_table)) k (tag_of t) x j
      at x ex lb e lj h =
          let c : in_row t (m (row x row_table)) k (some (body_at m x)) ≡ hits m t x k = in_body m t (m (row x row_table)) k x ∙ rw (eq-eqb (m (row x row_kind)) (tag_of t) e, same (m (row x row_table))) in
          let d : in_row t (m (row x row_table)) k (some (body_at m x)) ≡ bit (eqb (slot_word m (m (row x row_table)) k slot_tag) (tag_of t) && eqb (m (row x row_id)) (m (row (slot_word m (m (row x row_table)) k slot_place) row_id)))
          = rw ex at (sym (found_here t r (m (row x row_table)) k lr) ∙ marks_here t (id_at m r) (m (row x row_table)) k lb) in
          let n : 1 ≤ hits m t x k = tally_has (λ i. hit_b m (tag_of t) x i k) 0 (m (row x row_length)) j (omega arith) (omega arith) h in
          let f = both (eqb (slot_word m (m (row x row_table)) k slot_tag) (tag_of t)) (eqb (m (row x row_id)) (m (row (slot_word m (m (row x row_table)) k slot_place) row_id)))
          (bit_true (eqb (slot_word m (m (row x row_table)) k slot_tag) (tag_of t) && eqb (m (row x row_id)) (m (row (slot_word m (m (row x row_table)) k slot_place) row_id))) (omega (arith, c, d))) in
          let tag : slot_word m (m (row x row_table)) k slot_tag ≡ tag_of t = eqb-true (slot_word m (m (row x row_table)) k slot_tag) (tag_of t) f.0 in
          let g = single t (m (row x row_table)) k (slot_word m (m (row x row_table)) k slot_place) (slot_word m (m (row x row_table)) k slot_position) lb tag refl refl in
          let y : slot_word m (m (row x row_table)) k slot_place ≡ x
          = place_here (slot_word m (m (row x row_table)) k slot_place) r g.mark.place g.mark.used lr (sym (eqb-true (m (row x row_id)) (m (row (slot_word m (m (row x row_table)) k slot_place) row_id)) f.1) ∙ ap (λ (v : ℕ). m (row v row_id)) (sym ex)) ∙ ex in
          let u = rw y at g in
          record {
            frame = framed m (frame_of m (m (row x row_table)) k) (k % page_size) 0 (omega (arith, tag, tag_some t));
            tag = tag;
            place = y;
            position = tally_two (λ i. hit_b m (tag_of t) x i k) 0 (m (row x row_length)) (slot_word m (m (row x row_table)) k slot_position) j (omega (arith, u.once)) (omega arith) (omega (arith, u.mark.position)) (omega arith) (omega arith) u.mark.hit h;
          }

  active_here : (r : ℕ) → r < m (root root_used_rows) → 1 ≤ m (row (m (index r)) row_kind) → m (row (m (index r)) row_kind) ≤ kind_claim → m (row (m (index r)) row_table) < sh.tables → m (head (m (row (m (index r)) row_table)) head_lifecycle) ≡ life_active
  unfolding rows_view
  active_here r lr lo hi lb =
      let some_row : any_open (m (row (m (index r)) row_table)) s.book.rows ≡ true
      = ap (any_open (m (row (m (index r)) row_table))) view ∙ some_open m (m (row (m (index r)) row_table)) 0 (m (root root_used_rows)) r (omega arith) (omega arith) (opens_there m (m (index r)) (m (row (m (index r)) row_kind)) refl lo hi) in
      active_life (m (head (m (row (m (index r)) row_table)) head_lifecycle)) (m (head (m (row (m (index r)) row_table)) head_cursor)) (s.tables (m (row (m (index r)) row_table))).life
      (p.tables (m (row (m (index r)) row_table)) (omega (arith, p.table_count))).life
      (bool (is_active (s.tables (m (row (m (index r)) row_table))).life) (λ e. e) (λ e. clash some_row (w.lifecycles.closing (m (row (m (index r)) row_table)) e)))

  -- the frames of a row are frames of the state
  below_here : (r : ℕ) → r < m (root root_used_rows) → (f : ℕ) → 0 < occurs f (frames_in (body_at m (m (index r)))) → f < sh.frames
  unfolding rows_view
  below_here r lr f h = planned_below sh m s p w f (rw view (omega (arith, plans_at m f 0 (m (root root_used_rows)) r (omega arith) (omega arith))))

  rows_complete : (r : ℕ) → r < m (root root_used_rows) → RowOk m sh (m (index r)) (before m r)
  rows_complete r lr =
      let f = fits m sh s p.table_count p.object_count (m (index r)) (below_here r lr) (m (row (m (index r)) row_kind)) refl (body_here r lr) (range_here r lr) in
      let i = ids_here r lr in
      record {
        above = i.0;
        below = i.1;
        kind = f.kind;
        known = f.known;
        few_items = f.few_items;
        lists = λ y. let l = f.lists y in record {
          some_item = l.some_item;
          opens = λ n. record { table = l.table n; active = active_here r lr f.kind (omega (arith, n, y, f.known)) (l.table n) };
          items = λ j h. record {
            reserved = λ e. named true r j (m (item (m (index r)) j item_slot)) lr (l.table (λ z. omega arith)) e h (hit_yes m true (m (index r)) j (m (item (m (index r)) j item_slot)) refl (λ z. absurd (omega arith)));
            handle = λ n. l.handle n j h;
            operation = λ e. l.operation e j h;
            moved = λ e z. named false r j (m (item (m (index r)) j item_moved)) lr (l.table (λ q. omega arith)) e h (hit_yes m false (m (index r)) j (m (item (m (index r)) j item_moved)) refl (λ q. z));
          };
        };
        plans = f.plans;
      }

  -- THE CHECK ACCEPTS every well-formed state
  pub ledger_complete : Ledger sh m
  ledger_complete = record {
    used = few;
    next = omega (arith, ids_order 1 s.book.next s.book.rows w.ids.rise, p.book.next);
    places = λ i h. record { below = (places_here i h).0; ranked = (places_here i h).1 };
    rows = rows_complete;
    marks = marks_complete;
  }

  pub complete : ledger_b m sh ≡ true
  complete = ledger_yes m sh ledger_complete
