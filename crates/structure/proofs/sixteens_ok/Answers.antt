use Rattle.std.proofs.Common.{rules}
use borrow.Author.Tests.{tests}
use Rattle.structure.specs.Checks.{groups_b}
use Rattle.words.specs.Each.{range_all}
use Rattle.structure.proofs.sixteens_ok.Goals as goal

-- The check does not find this alone, with `range_all` named at the function either: the lemma takes what each call of the closure gives.
pub returns : goal.returns
unfolding groups_b
returns c = rw (← c.div_ceil.ensures) (range_all _ _ _ _ _ c.all.ensures.ran (λ x b q k. search (rules, tests)))
