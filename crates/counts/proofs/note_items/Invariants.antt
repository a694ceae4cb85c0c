use Rattle.std.proofs.Common.{[], ◌∷◌}
use Rattle.layout.specs.Layout.{item, load}
use Rattle.layout.specs.Fields.{item_object}
use Rattle.counts.specs.Found.{gather}
use Rattle.counts.specs.Code.{Noted}
use Rattle.counts.proofs.note_items.Given as goal

abbrev pub invariant-loop-j : goal.invariant-loop-j
invariant-loop-j l = Noted l.initial.s l.s l.sh l.top l.t (gather l.j (λ i. load l.initial.s l.sh (item l.x i item_object) ∷ []))
