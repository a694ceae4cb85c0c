use Rattle.std.proofs.Common.{◌≡◌, ◌-◌}
use Rattle.transfer.specs.Ops.{marked_w}
use Rattle.transfer.proofs.mark_items.Given as goal

abbrev pub invariant-loop-j : goal.invariant-loop-j
invariant-loop-j l = marked_w l.fn.s l.sh l.b l.x 0 l.n ≡ marked_w l.s l.sh l.b l.x l.j (l.n - l.j)
