use Rattle.std.proofs.Common.{rules}
use borrow.Author.Tests.{tests}
use Rattle.create.specs.Parameters.{tables_in}
use Rattle.create.specs.Each.{range_every}
use Rattle.create.proofs.tables_ok.Goals as goal

-- As `objects_ok`.
pub returns : goal.returns
unfolding tables_in
returns c = range_every _ _ _ _ _ _ c.all.ensures.ran (λ x b q k. search (rules, tests))
