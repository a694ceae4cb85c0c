use Rattle.std.proofs.Common.{◌∙◌, rules}
use borrow.Author.Tests.{tests}
use Rattle.layout.specs.Layout.{Mem, load}
use Rattle.orders.specs.Check.{page_next, empty_at, empty_link, empty_by, tally}
use Rattle.orders.specs.Each.{range_count}
use Rattle.orders.proofs.check_empty.Goals as goal

-- As `check_detached`.
pub returns : goal.returns
unfolding empty_by tally
returns c =
    let m : Mem = load c.args.s.now c.args.sh in
    let e = range_count (empty_at m c.args.pages.count c.args.pages.first) c.args.pages.count _ _ c.count-count.ensures.ran c.filter.ensures.source c.filter.ensures.closure (λ x b q k. search (rules, tests)) in
    c.walk.ensures (page_next m c.args.pages.first) (empty_link m c.args.pages.count c.args.pages.first) (λ k r h p. search rules) (λ h p r l j q. search rules) ∙ rw (e, c.head_word.ensures)
