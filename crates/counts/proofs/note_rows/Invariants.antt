use Rattle.layout.specs.Layout.{index, load}
use Rattle.counts.specs.Found.{gather, in_row}
use Rattle.counts.specs.Code.{Noted}
use Rattle.counts.proofs.note_rows.Given as goal

abbrev pub invariant-loop-i : goal.invariant-loop-i
invariant-loop-i l = Noted l.initial.s l.s l.sh l.top l.t (gather l.i (λ k. in_row (load l.initial.s l.sh) (load l.initial.s l.sh (index k))))
