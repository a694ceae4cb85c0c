-- A table that changes before or after a row opens. Assumes nothing.
use Rattle.std.specs.Prelude.{◌≡◌, ℕ}
use Rattle.std.proofs.Common.{ap}
use Rattle.model.specs.State.{Table, Body, State}
use Rattle.model.specs.Change.{with_table}
use Rattle.model.specs.Book.{add_row}
use Rattle.model.proofs.Changed.{with_over}

-- tables and rows are different fields
pub table_last : (s : State) (b : ℕ) (u v : Table) (y : Body) → with_table (add_row y (with_table s b u)) b v ≡ add_row y (with_table s b v)
table_last s b u v y = ap (add_row y) (with_over s b u v)
