use Rattle.std.proofs.Common.{◌≡◌, ◌≤◌, true}
use Rattle.words.specs.All.{all}
use Rattle.layout.specs.Layout.{load}
use Rattle.structure.specs.Facts.{attached_in}
use Rattle.structure.specs.Code.{entry_test}
use Rattle.structure.proofs.entries_ok.Given as goal

abbrev pub invariant-loop-p : goal.invariant-loop-p
invariant-loop-p l = (all l.p (entry_test (load l.s l.sh) l.sh l.e l.n) ≡ true) × (l.count ≡ attached_in (load l.s l.sh) l.e l.p) × (l.count ≤ l.p)
