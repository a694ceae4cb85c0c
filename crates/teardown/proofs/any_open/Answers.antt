use Rattle.std.proofs.Math.Nat.{sub-zero}
use Rattle.std.proofs.Common.{refl, ap, ◌∙◌, rules}
use borrow.Author.Tests.{tests}
use Rattle.std.proofs.lemmas.Iterator.{YieldsList-from_range}
use Rattle.std.proofs.lemmas.Iterator.Search.{any_from_yields_List}
use Rattle.layout.specs.Layout.{load, index}
use Rattle.teardown.specs.Ops.{opens_at, open_from, open_in}
use Rattle.teardown.specs.Open.{any_by}
use Rattle.teardown.proofs.any_open.Goals as goal

-- The check does not find this alone: what `any` gives is said over its closure; with `any_by` named at the function the search came to a limit.
pub returns : goal.returns
unfolding open_in
returns c =
    let m = load c.args.s.now c.args.sh in
    any_from_yields_List (λ j. opens_at m c.args.b (m (index j))) _ _ _ c.any.ensures.ran (YieldsList-from_range 0 c.min-n.result c.min-n.result refl (sub-zero c.min-n.result)) (λ x b q k. search (rules, tests))
    ∙ any_by m c.args.b 0 c.min-n.result
    ∙ ap (open_from m c.args.b 0) (rw (c.min-n.ensures, c.root_word.ensures))
