use Rattle.std.proofs.Common.{◌≡◌}
use Rattle.create.specs.Creation.{heads_w}
use Rattle.create.proofs.make_heads.Given as goal

abbrev pub invariant-loop-k : goal.invariant-loop-k
invariant-loop-k l = l.s ≡ heads_w l.initial.s l.sh l.p l.k
