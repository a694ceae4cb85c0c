use Rattle.std.proofs.Common.{arith, rules}
use Rattle.std.proofs.lemmas.Bool.Decides.{nat_tests}
use borrow.Author.Tests.{tests}
use Rattle.layout.specs.Layout.{load}
use Rattle.words.specs.Each.{range_all}
use Rattle.ledger.specs.Items.{item_b}
use Rattle.ledger.specs.Ledger.{list_b}
use Rattle.ledger.proofs.list_ok.Goals as goal

-- The check does not find this alone: `range_all` takes the items' test and what each call of the closure gives.
pub returns-then-open_ok : goal.returns-then-open_ok
unfolding list_b
returns-then-open_ok c =
    let e = range_all (item_b (load c.args.s.now c.args.sh) c.args.sh c.args.w c.row_word-b.result c.args.x) c.args.n _ _ _ c.all.ensures.ran (λ x b q k. search (rules, tests)) in
    grind (arith, nat_tests)
