use Rattle.std.proofs.Common.{◌≡◌, ◌+◌, ◌≤◌, ◌-◌}
use Rattle.layout.specs.Layout.{load}
use Rattle.structure.specs.Facts.{free_from}
use Rattle.structure.proofs.free_in.Given as goal

abbrev pub invariant-loop-f : goal.invariant-loop-f
invariant-loop-f l = (l.count ≡ free_from (load l.s l.sh) l.sh.frames l.a (l.f - l.a)) × (l.f ≤ l.a + l.n) × (l.count ≤ l.f - l.a)
