use Rattle.std.proofs.Common.{ℕ}
use Rattle.layout.specs.Layout.{Mem, index}
use Rattle.counts.specs.Found.{in_row, rank_same}
use Rattle.counts.specs.Code.{noted_more}
use Rattle.counts.proofs.note_rows.Goals as goal

-- The check does not find this alone: `noted_more` takes the list that one turn of the loop adds.
pub loop-i-preserved : goal.loop-i-preserved
loop-i-preserved c =
    noted_more c.args.sh (λ (m : Mem) (k : ℕ). in_row m (m (index k))) (λ m n h k. rank_same m n h k) c.args.s.now _ _ _ _ _ _ c.loop-i.invariant (rw c.index_word-x.ensures at c.note_row-t.ensures.noted, rw c.index_word-x.ensures at c.note_row-t.ensures.reached)
