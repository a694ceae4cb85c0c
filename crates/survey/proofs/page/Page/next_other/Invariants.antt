use Rattle.std.proofs.Common.{◌≤◌, ◌-◌}
use Rattle.survey.specs.Code.{Onward}
use Rattle.survey.proofs.page.Page.next_other.Given as goal

abbrev pub invariant-loop-j : goal.invariant-loop-j
invariant-loop-j l = (Onward l.initial.s l.s l.self l.from l.j) × (l.from ≤ l.j) × (l.j ≤ l.n)

abbrev pub decreases-loop-j : goal.decreases-loop-j
decreases-loop-j l = l.n - l.j
