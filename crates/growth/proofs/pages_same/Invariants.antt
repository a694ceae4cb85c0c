use Rattle.std.proofs.Common.{◌≡◌, ◌-◌}
use Rattle.layout.specs.Layout.{load}
use Rattle.growth.specs.Words.{pages_same, same_pages}
use Rattle.growth.proofs.pages_same.Given as goal

abbrev pub invariant-loop-j : goal.invariant-loop-j
invariant-loop-j l = pages_same (load l.s l.sh) l.b l.x l.k ≡ same_pages (load l.s l.sh) l.e l.x l.j l.next.detached l.next.count (l.k - l.j)
