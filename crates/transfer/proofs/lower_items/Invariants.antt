use Rattle.std.proofs.Common.{◌≡◌}
use Rattle.transfer.specs.Checks.{items_left}
use Rattle.transfer.specs.Preparing.{lowered_items}
use Rattle.transfer.proofs.lower_items.Given as goal

abbrev pub invariant-loop-q : goal.invariant-loop-q
invariant-loop-q l = lowered_items l.fn.s l.sh l.b (items_left l.items) ≡ lowered_items l.s l.sh l.b (items_left l.q-iterator)
