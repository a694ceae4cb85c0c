use Rattle.std.proofs.Common.{◌≡◌, List, ℕ}
use Rattle.claim.specs.Ops.{each, fill_w}
use Rattle.claim.proofs.fill_slots.Given as goal

abbrev pub invariant-loop-j : goal.invariant-loop-j
invariant-loop-j l = l.s ≡ each (λ (vs : List ℕ) (i : ℕ). fill_w vs l.sh l.c l.to l.from i) l.fn.s 0 l.j
