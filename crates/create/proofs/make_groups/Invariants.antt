use Rattle.std.proofs.Common.{◌≡◌}
use Rattle.create.specs.Creation.{groups_w}
use Rattle.create.proofs.make_groups.Given as goal

abbrev pub invariant-loop-k : goal.invariant-loop-k
invariant-loop-k l = l.s ≡ groups_w l.initial.s l.sh l.region l.size l.k
