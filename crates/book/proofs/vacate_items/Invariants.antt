use mathlib.Core.Path.{◌≡◌}
use Prim.Native.Nat.{◌-◌, ◌≤◌}
use lib.ListN.{length}
use Rattle.book.specs.Ops.{vacate_items_w}
use Rattle.book.proofs.vacate_items.Given as goal

abbrev pub invariant-loop-j : goal.invariant-loop-j
invariant-loop-j l = (l.from ≤ l.j) × (l.j - l.from ≤ l.end - l.from) × (length l.s ≡ length l.initial.s) × (l.s ≡ vacate_items_w l.initial.s l.own l.b l.x l.from (l.j - l.from))

abbrev pub decreases-loop-j : goal.decreases-loop-j
decreases-loop-j l = l.end - l.j
