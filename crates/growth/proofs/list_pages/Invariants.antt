use Rattle.std.proofs.Common.{◌≡◌, ◌-◌}
use Rattle.growth.specs.Words.{pages_w, list_pages_w}
use Rattle.growth.proofs.list_pages.Given as goal

abbrev pub invariant-loop-j : goal.invariant-loop-j
invariant-loop-j l = list_pages_w l.initial.s l.sh l.b l.x l.k ≡ pages_w l.s l.sh l.e l.x l.j l.next.detached l.next.count (l.k - l.j)
