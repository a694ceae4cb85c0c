use Rattle.std.proofs.Common.{◌≡◌, ◌∷◌, take}
use Rattle.answer.specs.Does.{answered}
use Rattle.answer.proofs.say.Given as goal

abbrev pub invariant-loop-i : goal.invariant-loop-i
invariant-loop-i l = l.out ≡ answered l.fn.out l.base (0 ∷ take l.i l.words)
