use mathlib.Core.Path.{◌≡◌}
use Prim.Native.Nat.{◌-◌, ◌≤◌}
use lib.ListN.{length}
use Rattle.book.specs.Ops.{shift_w}
use Rattle.book.proofs.shift_down.Given as goal

abbrev pub invariant-loop-i : goal.invariant-loop-i
invariant-loop-i l = (l.r ≤ l.i) × (l.i - l.r ≤ l.last - l.r) × (length l.s ≡ length l.initial.s) × (l.s ≡ shift_w l.initial.s l.sh l.r (l.i - l.r))

abbrev pub decreases-loop-i : goal.decreases-loop-i
decreases-loop-i l = l.last - l.i
