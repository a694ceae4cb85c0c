use Rattle.std.proofs.Common.{◌≡◌}
use Rattle.create.specs.Parameters.{page_sum}
use Rattle.create.proofs.pages_of.Given as goal

abbrev pub invariant-loop-k : goal.invariant-loop-k
invariant-loop-k l = l.sum ≡ page_sum l.p l.k
