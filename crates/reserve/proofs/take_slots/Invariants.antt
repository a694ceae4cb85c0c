use Rattle.std.proofs.Common.{◌≡◌, ◌-◌}
use Rattle.reserve.specs.Ops.{taken_w}
use Rattle.reserve.proofs.take_slots.Given as goal

abbrev pub invariant-loop-j : goal.invariant-loop-j
invariant-loop-j l = taken_w l.fn.s l.sh l.b l.x 0 l.n ≡ taken_w l.s l.sh l.b l.x l.j (l.n - l.j)
