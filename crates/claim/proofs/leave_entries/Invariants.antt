use Rattle.std.proofs.Common.{◌≡◌, List, ℕ}
use Rattle.claim.specs.Ops.{each, leave_w}
use Rattle.claim.proofs.leave_entries.Given as goal

abbrev pub invariant-loop-j : goal.invariant-loop-j
invariant-loop-j l = l.s ≡ each (λ (vs : List ℕ) (i : ℕ). leave_w vs l.sh l.b l.x i) l.fn.s 0 l.j
