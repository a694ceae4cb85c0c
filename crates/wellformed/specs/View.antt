-- The state that a memory shows, if it shows one. Assumes nothing.
use Rattle.std.specs.Prelude.{◌≡◌, ℕ, ◌≤◌, ◌<◌, ltb}
use Rattle.std.proofs.Common.{lt-ltb, le-ltb}
use Rattle.model.specs.Base.{pick}
use Rattle.model.specs.State.{Table, Object, State, no_table, no_object}
use Rattle.layout.specs.declared.Shape.{Shape}
use Rattle.layout.specs.Layout.{Mem, root, head}
use Rattle.layout.specs.Fields.{root_next_id, head_page_limit, head_mask, head_lifecycle, head_cursor, head_epoch, head_pages}
use Rattle.representation.specs.Represents.{slot_in}
use Rattle.structure.specs.Frames.{free_frames}
use Rattle.structure.specs.Slots.{page_view, life_view}
use Rattle.orders.specs.Check.{free_list, empty_list, detached_list}
use Rattle.ledger.specs.View.{rows_view}
use Rattle.counts.specs.Objects.{object_from}

-- table b, by its head, its page entries, its slots and its orders' links
unfoldable pub table_view : Mem → ℕ → Table
table_view m b = record {
  limit = m (head b head_page_limit);
  mask = m (head b head_mask);
  life = life_view (m (head b head_lifecycle)) (m (head b head_cursor));
  epoch = m (head b head_epoch);
  size = m (head b head_pages);
  pages = page_view m b;
  slots = slot_in m b;
  free = free_list m b;
  empty = empty_list m b;
  detached = detached_list m b;
}

-- a shape's tables and objects, and what is at rest beyond them
unfoldable pub tables_view : Shape → Mem → ℕ → Table
tables_view sh m b = pick (ltb b sh.tables) (table_view m b) no_table

unfoldable pub objects_view : Shape → Mem → ℕ → Object
objects_view sh m o = pick (ltb o sh.objects) (object_from m o) no_object

-- THE STATE
abbrev pub view_of : Shape → Mem → State
view_of sh m = record {
  table_count = sh.tables;
  tables = tables_view sh m;
  object_count = sh.objects;
  objects = objects_view sh m;
  frame_count = sh.frames;
  frames = free_frames m sh.frames;
  book = record { rows = rows_view m; capacity = sh.rows; next = m (root root_next_id) };
}

module _ (sh : Shape) (m : Mem) where
  pub table_in : (b : ℕ) → b < sh.tables → tables_view sh m b ≡ table_view m b
  unfolding tables_view
  table_in b h = rw (lt-ltb b sh.tables h)

  pub table_out : (b : ℕ) → sh.tables ≤ b → tables_view sh m b ≡ no_table
  unfolding tables_view
  table_out b h = rw (le-ltb b sh.tables h)

  pub object_in : (o : ℕ) → o < sh.objects → objects_view sh m o ≡ object_from m o
  unfolding objects_view
  object_in o h = rw (lt-ltb o sh.objects h)

  pub object_out : (o : ℕ) → sh.objects ≤ o → objects_view sh m o ≡ no_object
  unfolding objects_view
  object_out o h = rw (le-ltb o sh.objects h)
