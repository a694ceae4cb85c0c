use Rattle.std.proofs.Common.{◌∙◌, rules}
use borrow.Author.Tests.{tests}
use Rattle.layout.specs.Layout.{Mem, load}
use Rattle.orders.specs.Check.{page_next, detached_at, detached_link, detached_by, tally}
use Rattle.orders.specs.Each.{range_count}
use Rattle.orders.proofs.check_detached.Goals as goal

-- The check does not find this alone: `range_count` takes the pages' test and what each call of the closure gives.
pub returns : goal.returns
unfolding detached_by tally
returns c =
    let m : Mem = load c.args.s.now c.args.sh in
    let e = range_count (detached_at m c.args.pages.count c.args.pages.first) c.args.pages.count _ _ c.count-count.ensures.ran c.filter.ensures.source c.filter.ensures.closure (λ x b q k. search (rules, tests)) in
    c.walk.ensures (page_next m c.args.pages.first) (λ h p. detached_link m c.args.pages.count c.args.pages.first h) (λ k r h p. search rules) (λ h p r l j q. search rules) ∙ rw (e, c.head_word.ensures)
