use Rattle.std.proofs.Common.{◌≡◌}
use Rattle.words.specs.All.{all}
use Rattle.layout.specs.Layout.{load}
use Rattle.counts.specs.Found.{gather}
use Rattle.counts.specs.Shift.{unit, shifted}
use Rattle.survey.specs.Walk.{page_b, page_found}
use Rattle.survey.proofs.walk_table.Given as goal

abbrev pub invariant-loop-p : goal.invariant-loop-p
invariant-loop-p l = (l.s ≡ shifted l.initial.s l.sh unit (gather l.p (page_found (load l.initial.s l.sh) l.sh l.b l.bound l.e))) × (l.ok ≡ all l.p (page_b (load l.initial.s l.sh) l.sh l.b l.bound l.e))
