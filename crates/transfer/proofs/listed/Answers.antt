use Rattle.std.proofs.Common.{rules, tests, refl, eqb, ◌∙◌}
use Rattle.std.proofs.lemmas.Iterator.Consumers.{YieldsList-from_first}
use Rattle.std.proofs.lemmas.Iterator.Search.{any_from_yields_List}
use Rattle.model.specs.Request.{Item}
use Rattle.transfer.specs.Checks.{item_by, items_left}
use Rattle.transfer.specs.Code.{any_earlier}
use Rattle.transfer.proofs.listed.Goals as goal

-- The check does not find this alone: what `any` gives is said over its closure, and the list of items that it went over has to be named.
pub returns : goal.returns
unfolding item_by
returns c =
    any_from_yields_List (λ (q : Item). eqb c.args.v.0 q.value) c.any.new.self _ _ c.any.ensures.ran (YieldsList-from_first item_by items_left {s = c.args.items} _ refl) (λ x b q k. search (rules, tests))
    ∙ any_earlier c.args.v.0 _ _ _
