use Rattle.std.proofs.Common.{rules}
use borrow.Author.Tests.{tests}
use Rattle.create.specs.Parameters.{objects_in}
use Rattle.create.specs.Each.{range_every}
use Rattle.create.proofs.objects_ok.Goals as goal

-- The check does not find this alone, with `range_every` named at the function either: the lemma takes what each call of the closure gives.
pub returns : goal.returns
unfolding objects_in
returns c = range_every _ _ _ _ _ _ c.all.ensures.ran (λ x b q k. search (rules, tests))
