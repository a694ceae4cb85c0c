use Rattle.std.proofs.Common.{rules}
use borrow.Author.Tests.{tests}
use Rattle.layout.specs.Layout.{load}
use Rattle.words.specs.Each.{range_all}
use Rattle.orders.specs.Check.{table_b, orders_b}
use Rattle.orders.proofs.check_orders.Goals as goal

-- The check does not find this alone: `range_all` takes the tables' test and what each call of the closure gives.
pub returns : goal.returns
unfolding orders_b
returns c = range_all (table_b (load c.args.s.now c.args.sh)) c.args.sh.tables _ _ _ c.all.ensures.ran (λ x b q k. search (rules, tests))
