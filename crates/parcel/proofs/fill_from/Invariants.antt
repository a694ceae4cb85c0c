use Rattle.std.proofs.Common.{◌≡◌, ◌-◌}
use Rattle.parcel.specs.Publishing.{filled_w}
use Rattle.parcel.proofs.fill_from.Given as goal

abbrev pub invariant-loop-i : goal.invariant-loop-i
invariant-loop-i l = filled_w l.fn.s l.sh l.b l.x l.p l.y 0 l.n ≡ filled_w l.s l.sh l.b l.x l.p l.y l.i (l.n - l.i)
