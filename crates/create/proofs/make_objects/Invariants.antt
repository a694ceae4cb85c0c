use Rattle.std.proofs.Common.{◌≡◌}
use Rattle.create.specs.Creation.{objects_w}
use Rattle.create.proofs.make_objects.Given as goal

abbrev pub invariant-loop-k : goal.invariant-loop-k
invariant-loop-k l = l.s ≡ objects_w l.initial.s l.sh l.p l.k
