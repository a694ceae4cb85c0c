-- What the parts of the check that write nothing test, in the order of the code. Assumes nothing.
use Rattle.std.specs.Prelude.{Bool, ◌&&◌}
use Rattle.layout.specs.declared.Shape.{Shape}
use Rattle.layout.specs.Layout.{Mem}
use Rattle.structure.specs.Checks.{outline_b}
use Rattle.orders.specs.Check.{orders_b}
use Rattle.ledger.specs.Plans.{held_frames}
use Rattle.ledger.specs.Ledger.{book_b}
use Rattle.counts.specs.Objects.{objects_b}

-- the parts that write nothing, in the order in which they are tried
unfoldable pub quiet_b : Mem → Shape → Bool
quiet_b m sh = book_b m sh && (outline_b m sh (held_frames m) && (orders_b m sh && objects_b m sh))
