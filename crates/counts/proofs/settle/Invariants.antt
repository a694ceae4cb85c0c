use Rattle.std.proofs.Common.{◌≡◌}
use Rattle.layout.specs.Layout.{load}
use Rattle.counts.specs.Halves.{lowered, halves_to}
use Rattle.counts.proofs.settle.Given as goal

abbrev pub invariant-loop-o : goal.invariant-loop-o
invariant-loop-o l = (l.s ≡ lowered l.initial.s l.sh l.o) × (l.equal ≡ halves_to (load l.initial.s l.sh) l.o)
