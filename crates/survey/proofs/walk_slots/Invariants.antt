use Rattle.std.proofs.Common.{◌≡◌}
use Rattle.words.specs.All.{all}
use Rattle.layout.specs.Layout.{load}
use Rattle.counts.specs.Found.{gather}
use Rattle.counts.specs.Shift.{unit, shifted}
use Rattle.survey.specs.Walk.{table_b, table_found}
use Rattle.survey.proofs.walk_slots.Given as goal

abbrev pub invariant-loop-b : goal.invariant-loop-b
invariant-loop-b l = (l.s ≡ shifted l.initial.s l.sh unit (gather l.b (table_found (load l.initial.s l.sh) l.sh l.used))) × (l.ok ≡ all l.b (table_b (load l.initial.s l.sh) l.sh l.used))
