use Rattle.std.proofs.Common.{ℕ, [], ◌∷◌}
use Rattle.layout.specs.Layout.{Mem, item}
use Rattle.layout.specs.Fields.{item_object}
use Rattle.counts.specs.Found.{item_same}
use Rattle.counts.specs.Code.{noted_more}
use Rattle.counts.proofs.note_items.Goals as goal

-- The check does not find this alone: `noted_more` takes the list that one turn of the loop adds.
pub loop-j-preserved : goal.loop-j-preserved
loop-j-preserved c =
    noted_more c.args.sh (λ (m : Mem) (k : ℕ). m (item c.args.x k item_object) ∷ []) (λ m n h k. item_same m n h c.args.x k) c.args.s.now _ _ _ _ _ _ c.loop-j.invariant (c.note_item-t.ensures.noted, c.note_item-t.ensures.reached)
