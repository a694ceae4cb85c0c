use Rattle.std.proofs.Common.{rules}
use borrow.Author.Tests.{tests}
use Rattle.layout.specs.Layout.{load}
use Rattle.words.specs.Each.{range_all}
use Rattle.ledger.specs.Items.{place_b}
use Rattle.ledger.proofs.places_ok.Goals as goal

-- The check does not find this alone: `range_all` takes the places' test and what each call of the closure gives.
pub returns : goal.returns
returns c = range_all (place_b (load c.args.s.now c.args.sh) c.args.sh) c.args.sh.rows _ _ _ c.all.ensures.ran (λ x b q k. search (rules, tests))
