use Rattle.std.proofs.Common.{ap, ◌∙◌, ◌<◌, rules, arith}
use Rattle.layout.specs.declared.Extent.{Extent}
use Rattle.layout.specs.Layout.{load}
use Rattle.counts.specs.Used.{used_few, read_is}
use Rattle.std.proofs.lemmas.Iterator.{serves_from_Range}
use borrow.Author.Tests.{tests}
use Rattle.words.specs.Each.{range_all}
use Rattle.counts.specs.Objects.{object_b}
use Rattle.counts.proofs.check_objects.Goals as goal

-- The check does not find these alone: `range_all` takes the objects' test and what each call of the closure gives.
pub all-requires-clause-callable : goal.all-requires-clause-callable
all-requires-clause-callable c = serves_from_Range (λ x q k. search rules) (λ x l h. let k : x < c.args.sh.objects = omega (arith, c.used-n.ensures, used_few (load c.args.s.now c.args.sh) c.args.sh.objects) in let e = ap (λ (e : Extent). e.low) c.region_of-first.ensures in search rules)

pub returns : goal.returns
returns c =
    let e = range_all (object_b (load c.args.s.now c.args.sh)) c.used-n.result _ _ _ c.all.ensures.ran (λ x b q k. search (rules, tests)) in
    c.then_some.ensures ∙ read_is (load c.args.s.now c.args.sh) c.args.sh _ _ c.used-n.ensures e
