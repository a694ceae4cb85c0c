use Rattle.std.proofs.Common.{◌≡◌}
use Rattle.create.specs.Creation.{cleared_w}
use Rattle.create.proofs.clear.Given as goal

abbrev pub invariant-loop-k : goal.invariant-loop-k
invariant-loop-k l = l.s ≡ cleared_w l.initial.s l.k
