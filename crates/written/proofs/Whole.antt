-- EVERY WELL-FORMED STATE HAS WORDS: `written` gives them, and they represent it. Assumes nothing.
use Rattle.std.specs.Prelude.{◌≡◌, refl, List, ℕ, zero, suc, ◌*◌, ◌≤◌, ◌<◌, length}
use Rattle.std.proofs.Common.{◌∙◌, arith}
use Rattle.model.specs.State.{till, State, max_tables, max_frames, max_objects, max_rows}
use Rattle.model.proofs.Bounds.{pages_max_law}
use Rattle.model.specs.WellFormed.{WellFormed}
use Rattle.layout.specs.Layout.{Mem, total, load}
use Rattle.layout.specs.ShapeOf.{Permitted, Roots}
use Rattle.layout.specs.Fields.{root_version, root_tables, root_frames, root_objects, root_rows, root_next_id, root_used_rows, root_free_frames, root_pages, head_first_entry, object_koid, object_kind, object_class, object_supported, object_exportable, object_stage, object_active, object_limit}
use Rattle.layout.specs.Sizes.{pages_max}
use Rattle.representation.specs.Represents.{FramesAre, ObjectIs, BookIs, Represents, Rep}
use Rattle.representation.specs.Unique.{shape_for}
use Rattle.written.specs.Words.{entries_before, word_at}
use Rattle.written.proofs.Spread.{spread, spread_length, spread_load}
use Rattle.written.proofs.Entries.{free_low, frame_low, word_held, word_free}
use Rattle.written.proofs.Shows.{Shows, at_root, at_head, at_owner, at_sixteen, at_hundred, at_thousand, at_object, at_index, at_rank}
use Rattle.written.proofs.Rows.{rows_are}
use Rattle.written.proofs.Tables.{table_is, marks_are}

-- THE WORDS of a state: each address of its shape has its word at its place, and none stands past them
unfoldable pub written : State → List ℕ
written s = spread (shape_for s) (word_at s)

module _ (s : State) (w : WellFormed till s) (m : Mem) (shows : Shows s m) where
  frames_are : FramesAre m s
  frames_are = record {
    held = λ b p f h i e. let l : p < (s.tables b).limit = omega (arith, (w.ranges.tables b h).size) in
        at_owner s m shows f (frame_low s w.frames b p f h l e) ∙ word_held s w.frames b p f h l e ∙ rw (at_head s m shows b head_first_entry h (omega arith));
    free = λ f h. at_owner s m shows f (free_low s w.frames f h) ∙ word_free s w.frames f h;
    sixteens = at_sixteen s m shows;
    hundreds = at_hundred s m shows;
    thousands = at_thousand s m shows;
    count = at_root s m shows root_free_frames (omega arith);
  }

  object_is : (o : ℕ) → o < s.object_count → ObjectIs m o (s.objects o)
  object_is o h = record {
    koid = at_object s m shows o object_koid h (omega arith);
    kind = at_object s m shows o object_kind h (omega arith);
    class = at_object s m shows o object_class h (omega arith);
    supported = at_object s m shows o object_supported h (omega arith);
    exportable = at_object s m shows o object_exportable h (omega arith);
    stage = at_object s m shows o object_stage h (omega arith);
    count = at_object s m shows o object_active h (omega arith);
    limit = at_object s m shows o object_limit h (omega arith);
  }

  book_is : BookIs m s
  book_is = record {
    next = at_root s m shows root_next_id (omega arith);
    used = at_root s m shows root_used_rows (omega arith);
    rows = rows_are s m shows w;
    places = λ i h. let e = at_index s m shows i h in (rw e h, rw e (at_rank s m shows i h));
    marks = λ b k h e. marks_are s w m shows b h k e;
  }

  represented : Represents (shape_for s) m s
  unfolding shape_for
  represented = record {
    table_count = refl;
    frame_count = refl;
    object_count = refl;
    capacity = refl;
    page_count = refl;
    first = λ b h. at_head s m shows b head_first_entry h (omega arith);
    tables = table_is s w m shows;
    frames = frames_are;
    objects = object_is;
    book = book_is;
  }

  roots_are : Roots (shape_for s) m
  unfolding shape_for
  roots_are = record {
    version = at_root s m shows root_version (omega arith);
    tables = at_root s m shows root_tables (omega arith);
    frames = at_root s m shows root_frames (omega arith);
    objects = at_root s m shows root_objects (omega arith);
    rows = at_root s m shows root_rows (omega arith);
    pages = at_root s m shows root_pages (omega arith);
  }

module _ (s : State) (w : WellFormed till s) where
  pub pages_between : (n : ℕ) → n ≤ s.table_count → (n ≤ entries_before s n) × (entries_before s n ≤ n * pages_max)
  pages_between zero h = (omega arith, omega arith)
  pages_between (suc n) h = let r = pages_between n (omega arith) in let t = (w.ranges.tables n h).limit in
      (omega (arith, r.0, t.0), omega (arith, r.1, t.1, pages_max_law))

  -- the limits of document 01 are those of a shape
  pub shape_permitted : Permitted (shape_for s)
  unfolding shape_for max_tables max_frames max_objects max_rows
  shape_permitted = let r = w.ranges in let p = pages_between s.table_count (omega arith) in record {
    some_table = r.table_count.0;
    few_tables = r.table_count.1;
    few_frames = r.frame_count;
    some_object = r.object_count.0;
    few_objects = r.object_count.1;
    some_row = r.capacity.0;
    few_rows = r.capacity.1;
    some_page = p.0;
    few_pages = p.1;
  }

  written_shows : Shows s (load (written s) (shape_for s))
  unfolding written
  written_shows a i = spread_load (shape_for s) (word_at s) a i

  pub written_length : length (written s) ≡ total (shape_for s)
  unfolding written
  written_length = spread_length (shape_for s) (word_at s)

  -- THE THEOREM: a well-formed state is represented by its words
  pub has_words : Rep (written s) (shape_for s) s
  has_words = record {
    reps = record {
      shaped = record { limits = shape_permitted; room = omega (arith, written_length); roots = roots_are s w (load (written s) (shape_for s)) written_shows };
      memory = represented s w (load (written s) (shape_for s)) written_shows;
    };
    well_formed = w;
  }
