-- The check's answer `yes` is right: a state whose book is the view of the memory, and whose slots are those of the memory, has every clause on the book.
-- Assumes nothing.
use Rattle.std.specs.Prelude.{◌≡◌, Bool, ◌&&◌, ℕ, zero, suc, ◌+◌, ◌-◌, ◌^◌, ◌≤◌, ◌<◌, ltb}
use Rattle.std.proofs.Math.Path.{refl, ap, subst}
use Rattle.std.proofs.Common.{sym, ◌∙◌}
use Rattle.std.proofs.Math.Bool.{true, false}
use native.Mathlib.Omega.{arith}
use Rattle.std.proofs.Math.ListN.{length}
use Rattle.std.proofs.Math.Dec.{eqb}
use borrow.Author.Tests.{ne_eqb, eqb-true, ltb-true, ltb-false}
use Rattle.words.specs.Pick.{bool, clash, both}
use Rattle.model.specs.Base.{bit, pick}
use Rattle.model.specs.State.{till, Slot.absent, Row, State, is_active, max_batch, known_flags}
use Rattle.model.specs.Create.{max_pages}
use Rattle.model.proofs.Bounds.{slots_max_law, pages_max_law, batch_max_law}
use Rattle.model.specs.Book.{find, opens_in, any_open}
use Rattle.model.specs.WellFormed.{HandleRange, EntryRange, All, Batch, JustEnough, Rising, PlanRange, BodyRange, RowRange, Ids, Marks}
use Rattle.model.proofs.Tests.{or_false}
use Rattle.invariant.proofs.Marks.{in_row, is_by}
use Rattle.invariant.proofs.Counts.{none_in}
use Rattle.layout.specs.declared.Shape.{Shape}
use Rattle.layout.specs.Layout.{Mem, Addr, root, head, index, row, item}
use Rattle.layout.specs.Fields.{root_next_id, root_used_rows, head_lifecycle, slot_tag, slot_place, slot_position, row_kind, row_table, row_length, row_count, row_epoch, item_slot, item_operation, item_rights, item_granted, item_page, item_frame}
use Rattle.layout.specs.Values.{tag_transfer_reserved, tag_occupied, kind_reservation, kind_parcel, kind_plan, life_active, operation_move}
use Rattle.layout.specs.Sizes.{batch_max}
use Rattle.representation.specs.Represents.{slot_word, slot_in, is_marked, BookIs}
use Rattle.representation.specs.Told.{tag_of}
use Rattle.ledger.specs.Items.{HandleOk}
use Rattle.ledger.specs.Plans.{want_at, low_at, HeldOk, PlanOk}
use Rattle.ledger.specs.Ledger.{before, hit_b, RowOk, Ledger}
use Rattle.ledger.specs.View.{from, handle_at, entry_by, item_at, snapshot_at, frames_at, body_by, body_at, row_at, rows_from, rows_view, length_from, length_rows}
use Rattle.ledger.specs.Found.{in_body, find_split, marked_is}
use Rattle.ledger.specs.Shown.{hit_reserved, hit_moved, rows_shown, ids_shown, marks_shown}

-- a state with the counts of the shape, the book that the memory shows, and its slots
pub record Shows (sh : Shape) (m : Mem) (s : State) : Type 0 where
  pub table_count : s.table_count ≡ sh.tables
  pub object_count : s.object_count ≡ sh.objects
  pub capacity : s.book.capacity ≡ sh.rows
  pub next : s.book.next ≡ m (root root_next_id)
  pub rows : s.book.rows ≡ rows_view m
  pub slots : (b k : ℕ) → b < sh.tables → (s.tables b).slots k ≡ slot_in m b k
  pub beyond : (b k : ℕ) → sh.tables ≤ b → (s.tables b).slots k ≡ absent
  pub life : (b : ℕ) → b < sh.tables → m (head b head_lifecycle) ≡ life_active → is_active (s.tables b).life ≡ true

all_from : {A : Type 0} (P : A → Type 0) (f : ℕ → A) (j n : ℕ) → ((i : ℕ) → j ≤ i → i < j + n → P (f i)) → All P (from f j n)
all_from P f j zero h = tt
all_from P f j (suc n) h = (h j (omega arith) (omega arith), all_from P f (suc j) n (λ i a b. h i (omega arith) (omega arith)))

all_rows : (m : Mem) (P : Row → Type 0) (i n : ℕ) → ((r : ℕ) → i ≤ r → r < i + n → P (row_at m (m (index r)))) → All P (rows_from m i n)
all_rows m P i zero h = tt
all_rows m P i (suc n) h = (h i (omega arith) (omega arith), all_rows m P (suc i) n (λ r a b. h r (omega arith) (omega arith)))

batch_from : {A : Type 0} (f : ℕ → A) (n : ℕ) → 1 ≤ n → n ≤ batch_max → Batch (from f 0 n)
unfolding max_batch
batch_from f n a b = (omega (arith, length_from f 0 n), omega (arith, length_from f 0 n))

-- ---- a plan's pages and frames

module _ (m : Mem) (sh : Shape) (x : ℕ) where
  -- the items from j on, n of them
  abbrev Held : ℕ → ℕ → Type 0
  Held j n = (i : ℕ) → j ≤ i → i < j + n → HeldOk m sh x i (want_at m x i) (low_at m x i)

  enough_shown : (j n : ℕ) → Held j n → want_at m x (j + n) ≡ 0 → JustEnough till (want_at m x j) (from (λ i. m (item x i item_page)) j n)
  enough_shown j zero h e = let z : j + 0 ≡ j = omega arith in rw z at e
  enough_shown j (suc n) h e = let z : j + suc n ≡ suc j + n = omega arith in ((h j (omega arith) (omega arith)).wanted, enough_shown (suc j) n (λ i a b. h i (omega arith) (omega arith)) (rw z at e))

  rising_shown : (j n : ℕ) → Held j n → Rising (from (λ i. m (item x i item_frame)) j n)
  rising_shown j zero h = tt
  rising_shown j (suc zero) h = tt
  rising_shown j (suc (suc n)) h = ((h (suc j) (omega arith) (omega arith)).above, rising_shown (suc j) (suc n) (λ i a b. h i (omega arith) (omega arith)))

none_open : (m : Mem) (b i n : ℕ) → ((r : ℕ) → i ≤ r → r < i + n → opens_in b (body_at m (m (index r))) ≡ false) → any_open b (rows_from m i n) ≡ false
none_open m b i zero h = refl
none_open m b i (suc n) h =
    or_false (opens_in b (body_at m (m (index i)))) (any_open b (rows_from m (suc i) n)) (h i (omega arith) (omega arith)) (none_open m b (suc i) n (λ r p q. h r (omega arith) (omega arith)))

module _ (sh : Shape) (m : Mem) (l : Ledger sh m) where
  -- the position holds the slot, as BookIs.marks says it
  at_item : (t x j k : ℕ) → 0 < t → t < tag_occupied → hit_b m t x j k ≡ true → (m (item x j (t - 1)) ≡ k) × (t ≡ tag_transfer_reserved → m (item x j item_operation) ≡ operation_move)
  at_item zero x j k a b h = absurd (omega arith)
  at_item (suc zero) x j k a b h = (sym (hit_reserved m x j k h), λ e. absurd (omega arith))
  at_item (suc (suc zero)) x j k a b h = (sym (hit_moved m x j k h).1, λ e. (hit_moved m x j k h).0)
  at_item (suc (suc (suc t))) x j k a b h = absurd (omega arith)

  module _ (s : State) (v : Shows sh m s) where
    pub length_shown : length s.book.rows ≡ m (root root_used_rows)
    unfolding rows_view
    length_shown = ap length v.rows ∙ length_rows m 0 (m (root root_used_rows))

    pub row_count_law : length s.book.rows ≤ s.book.capacity
    row_count_law = omega (arith, length_shown, l.used, v.capacity)

    -- THE MEMORY SHOWS THE BOOK
    pub book_is : BookIs m s
    book_is = record {
      next = sym v.next;
      used = sym length_shown;
      rows = rw v.rows (rows_shown sh m l);
      places = λ i h. let p = l.places i (omega (arith, v.capacity)) in (omega (arith, p.below, v.capacity), p.ranked);
      marks = λ b k h e. let lb : b < sh.tables = omega (arith, v.table_count) in
          let d = both (ltb 0 (slot_word m b k slot_tag)) (ltb (slot_word m b k slot_tag) tag_occupied) (sym (marked_is m b k) ∙ ap is_marked (sym (v.slots b k lb)) ∙ e) in
          let lo = ltb-true 0 (slot_word m b k slot_tag) d.0 in let hi = ltb-true (slot_word m b k slot_tag) tag_occupied d.1 in
          let c = l.marks b k lb lo hi in
          let i = at_item (slot_word m b k slot_tag) (slot_word m b k slot_place) (slot_word m b k slot_position) k lo hi c.hit in
          (omega (arith, c.place, v.capacity), omega (arith, c.used, length_shown), c.position, c.table, i.0, i.1);
    }

    -- "row ids are 1 or more and rise below the next id, itself 1 or more"
    pub ids_hold : m (root root_next_id) < 2 ^ 64 → Ids s
    ids_hold h = record { rise = rw (v.rows, v.next) (ids_shown sh m l); next = omega (arith, v.next) }

    -- ranges: the words are below 2^64
    module _ (small : (a : Addr) → m a < 2 ^ 64) where
      handle_range : (x j : ℕ) → HandleOk m sh x j → HandleRange s (handle_at m x j)
      unfolding known_flags
      handle_range x j h = record { object = omega (arith, h.object, v.object_count); rights = small (item x j item_rights); flags = h.flags }

      entry_range : (x j : ℕ) → HandleOk m sh x j → EntryRange s (item_at m x j)
      entry_range x j h = go (m (item x j item_operation))
        where
          go : (o : ℕ) → EntryRange s (entry_by m x j o)
          go zero = (handle_range x j h, small (item x j item_granted))
          go (suc o) = handle_range x j h

      plan_range : (x n : ℕ) → m (row x row_length) ≡ n → PlanOk m sh x n → PlanRange till s (m (row x row_table)) (m (row x row_count)) (snapshot_at m x) (frames_at m x)
      plan_range x n e o =
          let held : Held m sh x 0 (m (row x row_length)) = λ i a b. o.items i (omega arith) in record {
            table = omega (arith, o.table, v.table_count);
            count = (o.some_count, omega (arith, o.few_count, batch_max_law));
            kept = record {
              epoch = small (row x row_epoch);
              free_slots = omega (arith, o.free, slots_max_law);
              pages = all_from (λ p. p < max_pages till) (λ j. m (item x j item_page)) 0 (m (row x row_length)) (λ j a b. omega (arith, (held j a b).page, pages_max_law));
              enough = enough_shown m sh x 0 (m (row x row_length)) held (let z : 0 + m (row x row_length) ≡ n = omega arith in rw z o.enough);
            };
            held = length_from (λ j. m (item x j item_frame)) 0 (m (row x row_length)) ∙ sym (length_from (λ j. m (item x j item_page)) 0 (m (row x row_length)));
            rising = rising_shown m sh x 0 (m (row x row_length)) held;
          }

      body_range : (x last : ℕ) → RowOk m sh x last → BodyRange till s (body_at m x)
      body_range x last o = go (m (row x row_kind)) refl
        where
          table : (m (row x row_kind) ≡ kind_plan → ⊥) → (m (row x row_kind) ≡ kind_parcel → ⊥) → m (row x row_table) < s.table_count
          table p n = omega (arith, ((o.lists p).opens n).table, v.table_count)

          handle : (m (row x row_kind) ≡ kind_plan → ⊥) → (j : ℕ) → j < m (row x row_length) → (m (row x row_kind) ≡ kind_reservation → ⊥) → HandleOk m sh x j
          handle p j h n = ((o.lists p).items j h).handle n

          go : (w : ℕ) → m (row x row_kind) ≡ w → BodyRange till s (body_by m x w)
          go zero e = absurd (omega (arith, o.kind))
          go (suc zero) e = (table (λ z. omega arith) (λ z. omega arith), batch_from (λ j. m (item x j item_slot)) (m (row x row_length)) (o.lists (λ z. omega arith)).some_item o.few_items)
          go (suc (suc zero)) e = (
            table (λ z. omega arith) (λ z. omega arith),
            batch_from (item_at m x) (m (row x row_length)) (o.lists (λ z. omega arith)).some_item o.few_items,
            all_from (EntryRange s) (item_at m x) 0 (m (row x row_length)) (λ j a b. entry_range x j (handle (λ z. omega arith) j (omega arith) (λ z. omega arith))),
          )
          go (suc (suc (suc zero))) e = (
            batch_from (handle_at m x) (m (row x row_length)) (o.lists (λ z. omega arith)).some_item o.few_items,
            all_from (HandleRange s) (handle_at m x) 0 (m (row x row_length)) (λ j a b. handle_range x j (handle (λ z. omega arith) j (omega arith) (λ z. omega arith))),
          )
          go (suc (suc (suc (suc zero)))) e = plan_range x (m (row x row_length)) refl (o.plans e)
          go (suc (suc (suc (suc (suc w))))) e = absurd (omega (arith, o.known))

      pub row_ranges : All (RowRange till s) s.book.rows
      unfolding rows_view
      row_ranges = subst (All (RowRange till s)) (sym v.rows) (all_rows m (RowRange till s) 0 (m (root root_used_rows)) (λ r a b. body_range (m (index r)) (before m r) (l.rows r (omega arith))))

    -- rows name tables that there are
    far : (t : Bool) (i b k : ℕ) → sh.tables ≤ b → in_row t b k (find i (rows_view m)) ≡ 0
    unfolding rows_view
    far t i b k h = find_split m 0 (m (root root_used_rows)) i
        (λ r a. let o = l.rows r (omega (arith, a.below)) in
        ap (in_row t b k) a.found ∙ in_body m t b k (m (index r)) ∙ away t (m (index r)) (before m r) _ o)
        (λ d n. ap (in_row t b k) d ∙ none_in t b k)
      where
        tags : (u : Bool) → tag_of u < 3
        tags true = omega arith
        tags false = omega arith

        away : (u : Bool) (x last z : ℕ) → RowOk m sh x last → pick (eqb (m (row x row_kind)) (tag_of u) && eqb b (m (row x row_table))) z 0 ≡ 0
        away u x last z o = bool (eqb (m (row x row_kind)) (tag_of u) && eqb b (m (row x row_table)))
            (λ e. let p = both (eqb (m (row x row_kind)) (tag_of u)) (eqb b (m (row x row_table))) e in
            absurd (omega (arith, ((o.lists (λ q. omega (arith, tags u, eqb-true (m (row x row_kind)) (tag_of u) p.0))).opens (λ q. omega (arith, tags u, eqb-true (m (row x row_kind)) (tag_of u) p.0))).table, eqb-true b (m (row x row_table)) p.1)))
            (λ e. rw e refl)

    marked_by : (t : Bool) (i b k : ℕ) → in_row t b k (find i s.book.rows) ≡ bit (is_by t i ((s.tables b).slots k))
    marked_by t i b k = rw v.rows (bool (ltb b sh.tables)
        (λ e. let lb = ltb-true b sh.tables e in rw (v.slots b k lb) (marks_shown sh m l t i b k lb))
        (λ e. let g = ltb-false b sh.tables e in rw (v.beyond b k g) (far t i b k g ∙ bare t)))
      where
        bare : (u : Bool) → 0 ≡ bit (is_by u i absent)
        bare true = refl
        bare false = refl

    -- "each Reserved slot stands once in one open reservation, each TransferReserved slot once in one open claim, and each row's slots are so marked"
    pub marks_hold : Marks s
    marks_hold = record { reserved = marked_by true; transfer_reserved = marked_by false }

    -- "a table not active has no open reservation or claim"
    pub closing_holds : (b : ℕ) → is_active (s.tables b).life ≡ false → any_open b s.book.rows ≡ false
    unfolding rows_view
    closing_holds b e = rw v.rows (none_open m b 0 (m (root root_used_rows)) (λ r p q. shut (m (index r)) (before m r) (l.rows r (omega arith))))
      where
        shut : (x last : ℕ) → RowOk m sh x last → opens_in b (body_at m x) ≡ false
        shut x last o = go (m (row x row_kind)) refl
          where
            other : (m (row x row_kind) ≡ kind_plan → ⊥) → (m (row x row_kind) ≡ kind_parcel → ⊥) → eqb b (m (row x row_table)) ≡ false
            other p n = ne_eqb b (m (row x row_table)) (λ q. let a = (o.lists p).opens n in clash (v.life (m (row x row_table)) a.table a.active) (rw q at e))

            go : (w : ℕ) → m (row x row_kind) ≡ w → opens_in b (body_by m x w) ≡ false
            go zero d = refl
            go (suc zero) d = other (λ z. omega arith) (λ z. omega arith)
            go (suc (suc zero)) d = other (λ z. omega arith) (λ z. omega arith)
            go (suc (suc (suc zero))) d = refl
            go (suc (suc (suc (suc zero)))) d = refl
            go (suc (suc (suc (suc (suc w))))) d = refl
