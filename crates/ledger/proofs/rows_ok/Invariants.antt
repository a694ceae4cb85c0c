use Rattle.std.proofs.Common.{◌≡◌, ◌≤◌, ◌*◌, true}
use Rattle.words.specs.All.{all}
use Rattle.layout.specs.Layout.{load}
use Rattle.layout.specs.Sizes.{batch_max}
use Rattle.ledger.specs.Plans.{held_to}
use Rattle.ledger.specs.Ledger.{rank_b, before}
use Rattle.ledger.proofs.rows_ok.Given as goal

abbrev pub invariant-loop-i : goal.invariant-loop-i
invariant-loop-i l = (all l.i (rank_b (load l.s l.sh) l.sh) ≡ true) × (l.held ≡ held_to (load l.s l.sh) l.i) × (l.held ≤ l.i * batch_max) × (l.last ≡ before (load l.s l.sh) l.i)
