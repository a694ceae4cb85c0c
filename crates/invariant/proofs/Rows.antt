-- The clauses of the book and the counts, over a state's parts; and what a change of one table, the objects and the rows owes.
use Rattle.std.specs.Prelude.{◌≡◌, refl, true, false, not, List, [], ◌∷◌, ◌++◌, ℕ, ◌+◌, ◌^◌, ◌≤◌, ◌<◌, length, ltb, eqb}
use Rattle.std.proofs.Common.{ap, ◌∙◌, arith, ltb-true, ltb-false, ne_eqb, le-ltb}
use Rattle.std.proofs.Math.Option.{some}
use Rattle.std.proofs.lemmas.Bool.{eqb-false, not-true}
use Rattle.model.specs.Base.{put, occurs}
use Rattle.model.specs.State.{Sizes, Handle, Slot, Slot.absent, Slot.vacant, Slot.reserved, Slot.transfer_reserved, Slot.occupied, Lifecycle, Table}
use Rattle.model.specs.State.{Object, Entry, Entry.moved, Entry.copied, Body, Body.reservation, Body.claim, Body.parcel, Body.plan, Row, State}
use Rattle.model.specs.State.{Lifecycle.active, Lifecycle.tearing_down, Lifecycle.retired, is_absent, is_occupied, is_active, is_retired, max_slots}
use Rattle.model.specs.State.{last_id}
use Rattle.model.specs.Storage.{page_of}
use Rattle.model.specs.Book.{find, drop_id, swap_id, opens_in, any_open, free_row, id_left}
use Rattle.model.specs.WellFormed.{HandleRange, SlotRange, EntryRange, All, ObjectRange, Counts, Lifecycles, IdsRise, Ids}
use Rattle.model.specs.WellFormed.{Marks, WellFormed, in_rows, is_attached}
use Rattle.model.proofs.Tests.{bool, clash, zero_or, and-false, put_at}
use Rattle.model.proofs.Sums.{sum_put}
use Rattle.invariant.proofs.BookLemmas.{BodyHalf, RowHalf, row_halves, row, ids_add, ids_drop, ids_swap, length_add, length-drop, length_swap, all_drop, all_swap, open_add}
use Rattle.invariant.proofs.BookLemmas.{open_drop, open_swap, open_found, all_append, all_map}
use Rattle.invariant.proofs.CountLemmas.{Fit, total, totals}
use Rattle.invariant.proofs.Marks.{Marked, both_marks}

-- what this crate's theorem says of the state after a request
pub record BookClauses (s : State) : Type 0 where
  pub marks : Marks s
  pub ids : Ids s
  pub counts : Counts s
  pub lifecycles : Lifecycles s
  pub slots : (b k : ℕ) → SlotRange s ((s.tables b).slots k)
  pub objects : (o : ℕ) → o < s.object_count → ObjectRange (s.objects o)
  pub row_count : length s.book.rows ≤ s.book.capacity
  pub rows : All (RowHalf s) s.book.rows

-- the same over tables, objects, rows and a next id that take the places of the state's; and no slot stands past the last
pub record Clauses (s : State) (ts : ℕ → Table) (os : ℕ → Object) (rs : List Row) (n : ℕ) : Type 0 where
  pub marked : Marked ts rs
  pub rise : IdsRise 1 rs n
  pub next : n < 2 ^ 64
  pub counted : (o : ℕ) → o < s.object_count → (os o).count ≡ totals s.table_count ts o + in_rows o rs
  pub fit : (o : ℕ) → o < s.object_count → Fit (os o)
  pub closing : (b : ℕ) → is_active (ts b).life ≡ false → any_open b rs ≡ false
  pub closed : (b k : ℕ) → is_retired (ts b).life ≡ true → is_occupied ((ts b).slots k) ≡ false
  pub slots : (b k : ℕ) → SlotRange s ((ts b).slots k)
  pub room : length rs ≤ s.book.capacity
  pub rows : All (RowHalf s) rs
  pub placed : (b k : ℕ) → max_slots ≤ k → is_absent ((ts b).slots k) ≡ true

abbrev pub Good : State → Type 0
Good s = Clauses s s.tables s.objects s.book.rows s.book.next

-- a state with those parts
abbrev pub edit : State → (ℕ → Table) → (ℕ → Object) → List Row → ℕ → List ℕ → State
edit s ts os rs n fs = record {
  table_count = s.table_count;
  tables = ts;
  object_count = s.object_count;
  objects = os;
  frame_count = s.frame_count;
  frames = fs;
  book = record { rows = rs; capacity = s.book.capacity; next = n };
}

-- ranges ask only for the state's counts

module _ (s u : State) (eo : s.object_count ≡ u.object_count) (et : s.table_count ≡ u.table_count) where
  handle_range : (h : Handle) → HandleRange s h → HandleRange u h
  handle_range h r = record { object = rw eo at r.object; rights = r.rights; flags = r.flags }

  slot_range : (x : Slot) → SlotRange s x → SlotRange u x
  slot_range absent r = tt
  slot_range (vacant g) r = tt
  slot_range (reserved g i) r = tt
  slot_range (transfer_reserved g i) r = tt
  slot_range (occupied g h) r = handle_range h r

  entry_range : (x : Entry) → EntryRange s x → EntryRange u x
  entry_range (moved k h q) r = (handle_range h r.0, r.1)
  entry_range (copied h) r = handle_range h r

  body_range : (x : Body) → BodyHalf s x → BodyHalf u x
  body_range (reservation b ks) r = (rw et at r.0, r.1)
  body_range (claim b es) r = (rw et at r.0, r.1, all_map entry_range es r.2)
  body_range (parcel hs) r = (r.0, all_map handle_range hs r.1)
  body_range (plan b n w fs) r = tt

pub settled : (s : State) (ts : ℕ → Table) (os : ℕ → Object) (rs : List Row) (n : ℕ) (fs : List ℕ) → Clauses s ts os rs n
    → Good (edit s ts os rs n fs)
settled s ts os rs n fs w = let u : State = edit s ts os rs n fs in record {
  marked = w.marked;
  rise = w.rise;
  next = w.next;
  counted = w.counted;
  fit = w.fit;
  closing = w.closing;
  closed = w.closed;
  slots = λ b k. slot_range s u refl refl ((ts b).slots k) (w.slots b k);
  room = w.room;
  rows = all_map (λ x. body_range s u refl refl x.body) rs w.rows;
  placed = w.placed;
}

-- between a state's own clauses and these

pub good_clauses : (s : State) → Good s → BookClauses s
good_clauses s w = record {
  marks = record { reserved = w.marked true; transfer_reserved = w.marked false };
  ids = record { rise = w.rise; next = w.next };
  counts = record { counted = w.counted; staged = λ o l. (w.fit o l).staged; within = λ o l. (w.fit o l).within };
  lifecycles = record { closing = w.closing; closed = w.closed };
  slots = w.slots;
  objects = λ o l. (w.fit o l).range;
  row_count = w.room;
  rows = w.rows;
}

pub good : (z : Sizes) (s : State) → WellFormed z s → Good s
good z s w = record {
  marked = both_marks s w.marks;
  rise = w.ids.rise;
  next = w.ids.next;
  counted = w.counts.counted;
  fit = λ o l. record { staged = w.counts.staged o l; within = w.counts.within o l; range = w.ranges.objects o l };
  closing = w.lifecycles.closing;
  closed = w.lifecycles.closed;
  slots = λ b k. bool (ltb b s.table_count)
      (λ e. (w.ranges.tables b (ltb-true b s.table_count e)).slots k)
      (λ e. rw (w.at_rest.tables b (ltb-false b s.table_count e)) tt);
  room = w.ranges.row_count;
  rows = (row_halves z s s.book.rows w.ranges.rows).0;
  placed = λ b k l. (w.orders b).there k ∙ rw (le-ltb k max_slots l) (ap not (and-false (is_attached (s.tables b) (page_of z k))));
}

-- the book's own clauses after a change of its rows, with the tables' lives as they were
pub record BookStep (s : State) (rs : List Row) (n : ℕ) : Type 0 where
  pub rise : IdsRise 1 rs n
  pub next : n < 2 ^ 64
  pub room : length rs ≤ s.book.capacity
  pub rows : All (RowHalf s) rs
  pub closing : (b : ℕ) → is_active (s.tables b).life ≡ false → any_open b rs ≡ false

pub id_left_law : (s : State) → id_left s ≡ true → s.book.next < 2 ^ 64 → s.book.next + 1 < 2 ^ 64
unfolding last_id
id_left_law s e l = let y : s.book.next ≡ 18446744073709551615
    → ⊥ = eqb-false s.book.next 18446744073709551615 (not-true (eqb s.book.next 18446744073709551615) e) in omega arith

module _ (s : State) (w : Good s) where
  pub book_same : BookStep s s.book.rows s.book.next
  book_same = record { rise = w.rise; next = w.next; room = w.room; rows = w.rows; closing = w.closing }

  pub book_add : (x : Body) → free_row s ≡ true → id_left s ≡ true → BodyHalf s x
      → ((b : ℕ) → is_active (s.tables b).life ≡ false → opens_in b x ≡ false)
      → BookStep s (s.book.rows ++ (row s.book.next x ∷ [])) (s.book.next + 1)
  book_add x f i r o = let n : ℕ = s.book.next in record {
    rise = ids_add 1 n x s.book.rows w.rise;
    next = id_left_law s i w.next;
    room = omega (arith, length_add s.book.rows (row n x), ltb-true (length s.book.rows) s.book.capacity f);
    rows = all_append (RowHalf s) s.book.rows (row n x ∷ []) w.rows (r, tt);
    closing = λ b e. open_add b s.book.rows (row n x) (w.closing b e) (o b e);
  }

  -- a slot that stands is below the last
  pub present_below : (b k : ℕ) → is_absent ((s.tables b).slots k) ≡ false → k < max_slots
  present_below b k e = bool (ltb k max_slots) (λ q. ltb-true k max_slots q) (λ q. clash (w.placed b k (ltb-false k max_slots q)) e)

  -- an open row's table is active, and it is one of the state's
  pub open_active : (i b : ℕ) (x : Body) → find i s.book.rows ≡ some x → opens_in b x ≡ true → is_active (s.tables b).life ≡ true
  open_active i b x e o = bool (is_active (s.tables b).life) (λ q. q) (λ q. clash o (open_found b i x s.book.rows (w.closing b q) e))

  -- so no other table's life asks about it
  pub not_its : (b : ℕ) → is_active (s.tables b).life ≡ true → (c : ℕ) → is_active (s.tables c).life ≡ false → eqb c b ≡ false
  not_its b a c q = ne_eqb c b (λ y. clash a (rw y at q))

module _ (s : State) (rs : List Row) (n : ℕ) (w : BookStep s rs n) where
  pub book_drop : (i : ℕ) → BookStep s (drop_id i rs) n
  book_drop i = record {
    rise = ids_drop 1 n i rs w.rise;
    next = w.next;
    room = omega (arith, length-drop i rs, w.room);
    rows = all_drop (RowHalf s) i rs w.rows;
    closing = λ b e. open_drop b i rs (w.closing b e);
  }

  pub book_swap : (i : ℕ) (x : Body) → BodyHalf s x → ((b : ℕ) → is_active (s.tables b).life ≡ false → opens_in b x ≡ false)
      → BookStep s (swap_id i x rs) n
  book_swap i x r o = record {
    rise = ids_swap 1 n i x rs w.rise;
    next = w.next;
    room = omega (arith, length_swap i x rs, w.room);
    rows = all_swap (RowHalf s) i x rs w.rows (λ j. r);
    closing = λ b e. open_swap b i x rs (w.closing b e) (o b e);
  }

-- no table changed
pub objects_step : (s : State) (os : ℕ → Object) (rs : List Row) (n : ℕ) → Good s → BookStep s rs n → Marked s.tables rs
    → ((o : ℕ) → o < s.object_count → Fit (os o) × ((os o).count + in_rows o s.book.rows ≡ (s.objects o).count + in_rows o rs))
    → Clauses s s.tables os rs n
objects_step s os rs n w k m c = record {
  marked = m;
  rise = k.rise;
  next = k.next;
  counted = λ o l. omega (arith, (c o l).1, w.counted o l);
  fit = λ o l. (c o l).0;
  closing = k.closing;
  closed = w.closed;
  slots = w.slots;
  room = k.room;
  rows = k.rows;
  placed = w.placed;
}

-- the objects fit, and their counts differ as the handles of the table and of the rows do
abbrev pub Balanced : State → ℕ → Table → (ℕ → Object) → List Row → Type 0
Balanced s b t os rs = (o : ℕ) → o < s.object_count
    → Fit (os o) × ((os o).count + (total o (s.tables b).slots + in_rows o s.book.rows) ≡ (s.objects o).count + (total o t.slots + in_rows o rs))

-- one table changed
pub record TableStep (s : State) (b : ℕ) (t : Table) (os : ℕ → Object) (rs : List Row) : Type 0 where
  pub known : b < s.table_count
  pub closed : (k : ℕ) → is_retired t.life ≡ true → is_occupied (t.slots k) ≡ false
  pub closing : is_active t.life ≡ false → any_open b rs ≡ false
  pub slots : (k : ℕ) → SlotRange s (t.slots k)
  pub placed : (k : ℕ) → max_slots ≤ k → is_absent (t.slots k) ≡ true
  pub marked : Marked (put s.tables b t) rs
  pub counted : Balanced s b t os rs

pub table_step : (s : State) (b : ℕ) (t : Table) (os : ℕ → Object) (rs : List Row) (n : ℕ) → Good s → BookStep s rs n → TableStep s b t os rs
    → Clauses s (put s.tables b t) os rs n
table_step s b t os rs n w k c = let ts : ℕ → Table = s.tables in record {
  marked = c.marked;
  rise = k.rise;
  next = k.next;
  counted = λ o l. omega (arith, (c.counted o l).1, w.counted o l, sum_put (λ u. total o u.slots) s.table_count ts b t c.known);
  fit = λ o l. (c.counted o l).0;
  closing = λ d. put_at ts b t (λ y. is_active y.life ≡ false → any_open d rs ≡ false) d (λ q e. rw q (c.closing e)) (λ q. k.closing d);
  closed = λ d j. put_at ts b t (λ y. is_retired y.life ≡ true → is_occupied (y.slots j) ≡ false) d (λ q. c.closed j) (λ q. w.closed d j);
  slots = λ d j. put_at ts b t (λ y. SlotRange s (y.slots j)) d (λ q. c.slots j) (λ q. w.slots d j);
  room = k.room;
  rows = k.rows;
  placed = λ d j l. put_at ts b t (λ y. is_absent (y.slots j) ≡ true) d (λ q. c.placed j l) (λ q. w.placed d j l);
}

pub active_live : (l : Lifecycle) → is_active l ≡ true → is_retired l ≡ false
active_live active e = refl
active_live (tearing_down c) e = refl
active_live retired e = clash e refl

-- an active table, changed at the slots `ks` alone
pub touched : (s : State) → Good s → (b : ℕ) (t : Table) (ks : List ℕ) (os : ℕ → Object) (rs : List Row) → b < s.table_count
    → is_active t.life ≡ true
    → ((k : ℕ) → occurs k ks ≡ 0 → t.slots k ≡ (s.tables b).slots k) → ((k : ℕ) → 0 < occurs k ks → SlotRange s (t.slots k) × (k < max_slots))
    → Marked (put s.tables b t) rs
    → Balanced s b t os rs → TableStep s b t os rs
touched s w b t ks os rs l a out into m c = record {
  known = l;
  closed = λ k q. clash q (active_live t.life a);
  closing = λ q. clash a q;
  slots = λ k. zero_or (occurs k ks) (λ q. rw (out k q) (w.slots b k)) (λ q. (into k q).0);
  placed = λ k p. zero_or (occurs k ks) (λ q. rw (out k q) (w.placed b k p)) (λ q. absurd (omega (arith, (into k q).1)));
  marked = m;
  counted = c;
}
