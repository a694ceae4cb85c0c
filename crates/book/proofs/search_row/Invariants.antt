use Rattle.book.specs.Ops.{link_from}
use Rattle.layout.specs.Layout.{load}
use Prim.Native.Nat.{◌+◌, ◌≤◌}
use mathlib.Core.Path.{◌≡◌}
use Rattle.book.proofs.search_row.Given as goal

abbrev pub invariant-loop-n : goal.invariant-loop-n
invariant-loop-n l = (l.i + l.n ≤ 0xffff_ffff_ffff_ffff) × (link_from (load l.s l.sh) l.id l.count 0 l.count ≡ link_from (load l.s l.sh) l.id l.n l.i l.n)

abbrev pub decreases-loop-n : goal.decreases-loop-n
decreases-loop-n l = l.n
