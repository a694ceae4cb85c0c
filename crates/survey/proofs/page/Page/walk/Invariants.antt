use Rattle.std.proofs.Common.{◌≡◌, ◌≤◌, ◌-◌, length}
use Rattle.survey.specs.Code.{Passed}
use Rattle.survey.proofs.page.Page.walk.Given as goal

abbrev pub invariant-loop-self : goal.invariant-loop-self
invariant-loop-self l = (l.vacant ≤ l.from) × (l.from ≤ l.n) × (length l.s ≡ length l.initial.s) × Passed l.initial.s l.s l.self l.from l.vacant

abbrev pub decreases-loop-self : goal.decreases-loop-self
decreases-loop-self l = l.n - l.from
