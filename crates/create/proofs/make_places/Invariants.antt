use Rattle.std.proofs.Common.{◌≡◌}
use Rattle.create.specs.Creation.{places_w}
use Rattle.create.proofs.make_places.Given as goal

abbrev pub invariant-loop-k : goal.invariant-loop-k
invariant-loop-k l = l.s ≡ places_w l.initial.s l.sh l.k
