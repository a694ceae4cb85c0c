use Rattle.std.proofs.Common.{◌≡◌, ◌≤◌, ◌*◌, true}
use Rattle.words.specs.All.{all}
use Rattle.layout.specs.Layout.{load}
use Rattle.layout.specs.Sizes.{pages_max}
use Rattle.structure.specs.Facts.{attached_to, limits_to}
use Rattle.structure.specs.Code.{table_test}
use Rattle.structure.proofs.tables_ok.Given as goal

abbrev pub invariant-loop-b : goal.invariant-loop-b
invariant-loop-b l = (all l.b (table_test (load l.s l.sh) l.sh) ≡ true) × (l.count ≡ attached_to (load l.s l.sh) l.b) × (l.first ≡ limits_to (load l.s l.sh) l.b) × (l.count ≤ l.b * pages_max) × (l.first ≤ l.b * pages_max)
