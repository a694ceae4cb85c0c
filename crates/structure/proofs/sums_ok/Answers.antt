use Rattle.std.proofs.Common.{rules}
use borrow.Author.Tests.{tests}
use Rattle.structure.specs.Checks.{groups_b}
use Rattle.words.specs.Each.{range_all}
use Rattle.structure.proofs.sums_ok.Goals as goal

-- As `sixteens_ok`.
pub returns : goal.returns
unfolding groups_b
returns c = rw (← (rw c.size.ensures at c.div_ceil.ensures)) (range_all _ _ _ _ _ c.all.ensures.ran (λ x b q k. search (rules, tests)))
