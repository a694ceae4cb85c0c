use Rattle.std.proofs.Common.{◌≡◌}
use Rattle.layout.specs.Turns.{turns}
use Rattle.growth.specs.Words.{slots_p}
use Rattle.growth.proofs.build_frame.Given as goal

abbrev pub invariant-loop-j : goal.invariant-loop-j
invariant-loop-j l = l.s ≡ turns l.initial.s l.sh (slots_p l.f l.p l.g l.h) l.j
