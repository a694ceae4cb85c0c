-- A memory with the facts of every part of the check represents the state that it shows, and that is well formed. Assumes nothing.
use Rattle.std.specs.Prelude.{◌≡◌, true, ℕ, ◌^◌, ◌≤◌, ◌<◌, ltb}
use Rattle.std.proofs.Math.Path.{refl, ap, subst}
use Rattle.std.proofs.Common.{sym, arith, le-ltb, ltb-true, ltb-false}
use Rattle.model.specs.Base.{is_some}
use Rattle.model.specs.State.{till, Table, Object, State, is_active, no_table, no_page, max_tables, max_frames, max_objects, max_rows}
use Rattle.model.proofs.Sums.{sum_part}
use Rattle.model.proofs.Tests.{bool, clash}
use Rattle.model.specs.WellFormed.{ObjectRange, Ranges, Orders, Generations, StageCount, Counts, AtRest, WellFormed}
use Rattle.layout.specs.declared.Shape.{Shape}
use Rattle.layout.specs.Layout.{Addr, Mem, root, head, object}
use Rattle.layout.specs.ShapeOf.{Permitted}
use Rattle.layout.specs.Fields.{root_next_id, head_page_limit, head_lifecycle, head_cursor, object_koid, object_supported}
use Rattle.layout.specs.Values.{life_active}
use Rattle.representation.specs.Represents.{TableIs, ObjectIs, Represents}
use Rattle.structure.specs.Facts.{Structure}
use Rattle.structure.specs.Slots.{life_view}
use Rattle.structure.specs.View.{TableShows, Shows as StructureShows, frames_shown, frames_are, there_shown, generations_shown, range_shown, busy_shown, retired_shown, frame_shown, high_shown, rest_shown, life_shown, entries_shown, first_shown}
use Rattle.orders.specs.Check.{free_list, empty_list, detached_list}
use Rattle.orders.specs.Decide.{OrdersAre}
use Rattle.orders.specs.Model.{Viewed, orders_hold}
use Rattle.ledger.specs.Ledger.{Ledger}
use Rattle.ledger.specs.Sound.{Shows as LedgerShows, row_count_law, book_is, ids_hold, row_ranges, marks_hold, closing_holds}
use Rattle.counts.specs.Objects.{ObjectFits, from_is, from_range, from_staged}
use Rattle.counts.specs.Found.{counts_b}
use Rattle.counts.specs.Handles.{Bounds}
use Rattle.counts.specs.Decide.{counted_sound}
use Rattle.ledger.specs.Plans.{held_frames}
use Rattle.ledger.specs.Held.{held_count, planned}
use Rattle.wellformed.specs.View.{table_view, tables_view, view_of, table_in, table_out, object_in, object_out}

-- what is at rest is well formed
rest_orders : Orders till no_table
rest_orders = record {
  there = λ k. refl;
  free = λ k. refl;
  empty = λ p. refl;
  detached = λ p. rw (le-ltb p 0 (omega arith));
}

rest_generations : Generations till no_table
rest_generations k e = clash refl e

-- what the parts of the check say of a memory
pub record Passed (sh : Shape) (m : Mem) : Type 0 where
  pub structure : Structure sh m (held_frames m)
  pub orders : (b : ℕ) → b < sh.tables → OrdersAre m b (free_list m b) (empty_list m b) (detached_list m b)
  pub ledger : Ledger sh m
  pub objects : (o : ℕ) → o < sh.objects → ObjectFits m o
  pub counts : counts_b m sh ≡ true

module _ (sh : Shape) (m : Mem) (limits : Permitted sh) (small : (a : Addr) → m a < 2 ^ 64) (p : Passed sh m) where
  abbrev s : State
  s = view_of sh m

  abbrev st : Structure sh m (held_frames m)
  st = p.structure

  -- ---- what the parts ask of the view

  table_shows : (b : ℕ) → TableShows m b (table_view m b)
  unfolding table_view
  table_shows b = record { limit = refl; mask = refl; life = refl; epoch = refl; size = refl; pages = λ q. refl; slots = λ k. refl }

  shows : StructureShows sh m s
  shows = record {
    table_count = refl;
    frame_count = refl;
    object_count = refl;
    frames = refl;
    tables = λ b h. rw (table_in sh m b h) (table_shows b);
    rest = λ b h. table_out sh m b h;
  }

  life_active_law : (b : ℕ) → m (head b head_lifecycle) ≡ life_active → is_active (table_view m b).life ≡ true
  unfolding table_view
  life_active_law b e = ap (λ (w : ℕ). is_active (life_view w (m (head b head_cursor)))) e

  book_shows : LedgerShows sh m s
  book_shows = record {
    table_count = refl;
    object_count = refl;
    capacity = refl;
    next = refl;
    rows = refl;
    slots = λ b k h. (shows.tables b h).slots k;
    beyond = λ b k h. ap (λ (t : Table). t.slots k) (table_out sh m b h);
    life = λ b h e. rw (table_in sh m b h) (life_active_law b e);
  }

  -- ---- one table

  viewed : (b : ℕ) → b < sh.tables → Viewed m b (table_view m b)
  viewed b h = let v = table_shows b in record {
    size = sym v.size;
    frame = frame_shown sh m (held_frames m) st b h (table_view m b) v;
    rest = λ q i. ap (λ q. is_some q.frame) (rest_shown sh m (held_frames m) st b h (table_view m b) v q i);
    busy = busy_shown sh m (held_frames m) st b h (table_view m b) v;
    slots = λ k. sym (v.slots k);
  }

  table_is : (b : ℕ) → b < sh.tables → TableIs m b (table_view m b)
  unfolding table_view
  table_is b h = let v = table_shows b in let o = p.orders b h in record {
    limit = refl;
    mask = refl;
    life = life_shown sh m (held_frames m) st b h (table_view m b) v;
    epoch = refl;
    size = refl;
    frame = frame_shown sh m (held_frames m) st b h (table_view m b) v;
    high = high_shown sh m (held_frames m) st b h (table_view m b) v;
    busy = busy_shown sh m (held_frames m) st b h (table_view m b) v;
    slots = λ k. refl;
    free = o.free.chain;
    free_count = o.free.count;
    empty = o.empty.chain;
    detached = o.detached.linked;
  }

  table_orders : (b : ℕ) → b < sh.tables → Orders till (table_view m b)
  unfolding table_view
  table_orders b h = let o = orders_hold m b (table_view m b) (viewed b h) (free_list m b) (empty_list m b) (detached_list m b) (p.orders b h) in record {
    there = there_shown sh m (held_frames m) st b h (table_view m b) (table_shows b);
    free = o.0;
    empty = o.1;
    detached = o.2;
  }

  -- what every table of the state has
  each_table : (P : Table → Type 0) → ((b : ℕ) → b < sh.tables → P (table_view m b)) → P no_table → (b : ℕ) → P (tables_view sh m b)
  each_table P f z b = bool (ltb b sh.tables)
      (λ e. let h = ltb-true b sh.tables e in subst P (sym (table_in sh m b h)) (f b h))
      (λ e. subst P (sym (table_out sh m b (ltb-false b sh.tables e))) z)

  -- ---- THE MEMORY REPRESENTS THE STATE

  pub represents : Represents sh m s
  represents = record {
    table_count = refl;
    frame_count = refl;
    object_count = refl;
    capacity = refl;
    page_count = entries_shown sh m (held_frames m) st s shows;
    first = first_shown sh m (held_frames m) st s shows;
    tables = λ b h. subst (TableIs m b) (sym (table_in sh m b h)) (table_is b h);
    frames = frames_are sh m (held_frames m) st s shows;
    objects = λ o h. subst (ObjectIs m o) (sym (object_in sh m o h)) (from_is m o (p.objects o h));
    book = book_is sh m p.ledger s book_shows;
  }

  -- ---- AND IT IS WELL FORMED

  bounds : Bounds sh m
  bounds = record {
    pages = λ b h. omega (arith, (st.heads b h).size, st.entries, sum_part sh.tables (λ c. m (head c head_page_limit)) b h);
    rows = p.ledger.used;
    items = λ i h k. (p.ledger.rows i h).few_items;
  }

  ranges : Ranges till s
  unfolding max_tables max_frames max_objects max_rows
  ranges = record {
    table_count = (limits.some_table, limits.few_tables);
    frame_count = limits.few_frames;
    object_count = (limits.some_object, limits.few_objects);
    capacity = (limits.some_row, limits.few_rows);
    row_count = row_count_law sh m p.ledger s book_shows;
    tables = λ b h. range_shown sh m (held_frames m) st b h (tables_view sh m b) (shows.tables b h) small s refl;
    objects = λ o h. subst ObjectRange (sym (object_in sh m o h)) (from_range m o (p.objects o h) (small (object o object_koid)) (small (object o object_supported)));
    rows = row_ranges sh m p.ledger s book_shows small;
  }

  counts : Counts s
  counts = record {
    counted = counted_sound sh m s represents bounds p.counts;
    staged = λ o h. subst (λ (x : Object). StageCount x.stage x.count) (sym (object_in sh m o h)) (from_staged m o (p.objects o h));
    within = λ o h. subst (λ (x : Object). x.count ≤ x.limit) (sym (object_in sh m o h)) (p.objects o h).within;
  }

  at_rest_law : AtRest s
  at_rest_law = record {
    tables = λ b h. table_out sh m b h;
    pages = λ b. each_table (λ t. (q : ℕ) → t.size ≤ q → t.pages q ≡ no_page) (λ c h q i. rest_shown sh m (held_frames m) st c h (table_view m c) (table_shows c) q i) (λ q i. refl) b;
    objects = λ o h. object_out sh m o h;
  }

  pub well_formed_law : WellFormed till s
  well_formed_law = record {
    ranges = ranges;
    frames = frames_shown sh m (held_frames m) st s shows limits (planned sh m p.ledger) (held_count m);
    orders = each_table (Orders till) table_orders rest_orders;
    generations = each_table (Generations till) (λ b h. generations_shown sh m (held_frames m) st b h (table_view m b) (table_shows b)) rest_generations;
    counts = counts;
    lifecycles = record {
      closing = closing_holds sh m p.ledger s book_shows;
      closed = retired_shown sh m (held_frames m) st s shows;
    };
    ids = ids_hold sh m p.ledger s book_shows (small (root root_next_id));
    marks = marks_hold sh m p.ledger s book_shows;
    at_rest = at_rest_law;
  }
