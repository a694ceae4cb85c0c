use Rattle.std.proofs.Common.{◌≡◌, ◌-◌}
use Rattle.reserve.specs.Ops.{listed_w}
use Rattle.reserve.proofs.list_slots.Given as goal

abbrev pub invariant-loop-j : goal.invariant-loop-j
invariant-loop-j l = listed_w l.fn.s l.sh l.b l.x 0 l.l l.n ≡ listed_w l.s l.sh l.b l.x l.j l.link (l.n - l.j)
