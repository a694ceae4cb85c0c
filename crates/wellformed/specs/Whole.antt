-- THE STATE CHECK, WHOLE, as a test of the words. Assumes nothing.
use Rattle.std.specs.Prelude.{Bool, false, ◌&&◌, List, ℕ}
use Rattle.layout.specs.declared.Shape.{Shape}
use Rattle.layout.specs.Layout.{Mem, load}
use Rattle.layout.specs.ShapeOf.{shape_of, on_shape}
use Rattle.structure.specs.Checks.{structure_b}
use Rattle.orders.specs.Check.{orders_b}
use Rattle.ledger.specs.Ledger.{ledger_b}
use Rattle.ledger.specs.Plans.{held_frames}
use Rattle.counts.specs.Objects.{objects_b}
use Rattle.counts.specs.Code.{counts_in}

-- the parts that write nothing, in the order in which they are tried
unfoldable pub parts_b : Mem → Shape → Bool
parts_b m sh = structure_b m sh (held_frames m) && (orders_b m sh && (ledger_b m sh && objects_b m sh))

-- THE CHECK: these, then the objects' counts
unfoldable pub well_b : List ℕ → Shape → Bool
well_b ws sh = parts_b (load ws sh) sh && counts_in ws sh

-- ---- with the shape that the header gives

unfoldable pub check_b : List ℕ → Bool
check_b ws = on_shape (shape_of ws) false (well_b ws)
