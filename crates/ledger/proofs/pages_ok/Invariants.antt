use Rattle.std.proofs.Common.{◌≡◌, true}
use Rattle.words.specs.All.{all}
use Rattle.layout.specs.Layout.{load}
use Rattle.ledger.specs.Plans.{item_held_b, want_at, low_at}
use Rattle.ledger.proofs.pages_ok.Given as goal

abbrev pub invariant-loop-j : goal.invariant-loop-j
invariant-loop-j l = (all l.j (item_held_b (load l.s l.sh) l.sh l.x) ≡ true) × (l.want ≡ want_at (load l.s l.sh) l.x l.j) × (l.low ≡ low_at (load l.s l.sh) l.x l.j)
