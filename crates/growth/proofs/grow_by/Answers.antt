use Rattle.std.proofs.Common.{sym, ap, ◌∙◌, of_calls}
use Rattle.growth.specs.Code.{each_last}
use Rattle.growth.proofs.grow_by.Goals as goal

-- The check does not find this alone: what the loop keeps holds for every step, and that the closure's call gives the step's turn has to be said.
pub loop-j-preserved : goal.loop-j-preserved
loop-j-preserved g c = (search of_calls, λ f h. h _ _ _ c.attach.ensures ∙ ap (f c.loop-j.j) (c.loop-j.invariant.1 f h) ∙ sym (each_last f _ _))
