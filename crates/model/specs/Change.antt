-- States and tables with one part changed.
use Rattle.std.specs.Prelude.{List, ℕ}
use Rattle.model.specs.Base.{put}
use Rattle.model.specs.State.{Lifecycle, Table, Object, Book, State}

abbrev pub with_table : State → ℕ → Table → State
with_table s b t = record { table_count = s.table_count; tables = put s.tables b t; object_count = s.object_count; objects = s.objects; frame_count = s.frame_count; frames = s.frames; book = s.book }

abbrev pub with_objects : State → (ℕ → Object) → State
with_objects s f = record { table_count = s.table_count; tables = s.tables; object_count = s.object_count; objects = f; frame_count = s.frame_count; frames = s.frames; book = s.book }

abbrev pub with_frames : State → List ℕ → State
with_frames s fs = record { table_count = s.table_count; tables = s.tables; object_count = s.object_count; objects = s.objects; frame_count = s.frame_count; frames = fs; book = s.book }

abbrev pub with_book : State → Book → State
with_book s k = record { table_count = s.table_count; tables = s.tables; object_count = s.object_count; objects = s.objects; frame_count = s.frame_count; frames = s.frames; book = k }

abbrev pub with_life : Table → Lifecycle → Table
with_life t l = record { limit = t.limit; mask = t.mask; life = l; epoch = t.epoch; size = t.size; pages = t.pages; slots = t.slots; free = t.free; empty = t.empty; detached = t.detached }
