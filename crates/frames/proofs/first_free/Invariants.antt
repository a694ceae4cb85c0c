use Prim.Native.Nat.{◌-◌}
use mathlib.Core.Path.{◌≡◌}
use Rattle.layout.specs.Layout.{load}
use Rattle.frames.specs.Ops.{first_of, has_free}
use Rattle.frames.proofs.first_free.Given as goal

abbrev pub invariant-loop-x : goal.invariant-loop-x
invariant-loop-x l = first_of (has_free (load l.s l.sh) l.k) l.from 16 ≡ first_of (has_free (load l.s l.sh) l.k) l.x (l.end - l.x)
