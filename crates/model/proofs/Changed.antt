-- A table put in a state: where it stands, over another, and read again.
use Rattle.std.specs.Prelude.{◌≡◌, ℕ}
use Rattle.std.proofs.Common.{ap}
use Rattle.model.specs.State.{Table, State}
use Rattle.model.specs.Change.{with_table}
use Rattle.model.proofs.Tests.{same, put_own, put_put}

abbrev with_tables : State → (ℕ → Table) → State
with_tables s f = record { table_count = s.table_count; tables = f; object_count = s.object_count; objects = s.objects; frame_count = s.frame_count; frames = s.frames; book = s.book }

pub with_own : (s : State) (b : ℕ) → with_table s b (s.tables b) ≡ s
with_own s b = ap (with_tables s) (put_own s.tables b)

pub with_over : (s : State) (b : ℕ) (t u : Table) → with_table (with_table s b t) b u ≡ with_table s b u
with_over s b t u = ap (with_tables s) (put_put s.tables b u t)

pub with_table_at : (s : State) (b : ℕ) (t : Table) → (with_table s b t).tables b ≡ t
with_table_at s b t = rw (same b)
