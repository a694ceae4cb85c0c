use Rattle.std.proofs.Common.{◌≡◌, List, ℕ}
use Rattle.claim.specs.Ops.{each, send_w}
use Rattle.claim.proofs.send_entries.Given as goal

abbrev pub invariant-loop-j : goal.invariant-loop-j
invariant-loop-j l = l.s ≡ each (λ (vs : List ℕ) (i : ℕ). send_w vs l.sh l.x i) l.fn.s 0 l.j
