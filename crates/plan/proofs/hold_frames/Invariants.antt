use Rattle.std.proofs.Common.{◌≡◌}
use Rattle.plan.specs.Ops.{hold_all_w}
use Rattle.plan.proofs.hold_frames.Given as goal

abbrev pub invariant-loop-j : goal.invariant-loop-j
invariant-loop-j l = l.s ≡ hold_all_w l.sh l.x 0 l.j l.fn.s
