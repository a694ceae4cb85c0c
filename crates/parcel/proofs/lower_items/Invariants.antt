use Rattle.std.proofs.Common.{◌≡◌, ◌-◌}
use Rattle.parcel.specs.Ops.{lowered_w}
use Rattle.parcel.proofs.lower_items.Given as goal

abbrev pub invariant-loop-i : goal.invariant-loop-i
invariant-loop-i l = lowered_w l.fn.s l.sh l.x 0 l.n ≡ lowered_w l.s l.sh l.x l.i (l.n - l.i)
