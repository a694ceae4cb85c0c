-- What the functions of the request judge transfer do to the words (document 02, 4). Assumes nothing.
use Rattle.std.specs.Prelude.{Option as CodeOption, Some, None}
use Rattle.std.specs.Prelude.{List, [], ◌∷◌, ℕ, length, eqb, ltb}
use Rattle.std.proofs.Math.Option.{Option}
use Rattle.words.specs.Pick.{pick}
use Rattle.model.specs.Request.{Item, Fault}
use Rattle.model.specs.Words.{may, must}
use Rattle.model.specs.Transfer.{no_item}
use Rattle.format.specs.Fields.{table_field, count_field, route_field, forbidden_object_field, forbidden_kind_field}
use Rattle.layout.specs.declared.Shape.{Shape}
use Rattle.layout.specs.Layout.{load}
use Rattle.request.specs.Place.{fields_at, end_at}
use Rattle.answer.specs.Does.{Both, both, answered, refuse_r}
use Rattle.transfer.specs.declared.TransferFault.{TransferFault}
use Rattle.transfer.specs.Checks.{items_at, Stop, stop_by, batch_stop, no_fault, in_position}
use Rattle.transfer.specs.Preparing.{Tried, tried, tried_items, lowered_items}

-- the words that tell a fault; 0 where there is none
abbrev pub fault_words : Fault → List ℕ
fault_words f = f.number ∷ f.position ∷ f.place ∷ []

-- the same of the code's own faults
abbrev pub judged_list : CodeOption TransferFault → List ℕ
judged_list None = fault_words no_fault
judged_list (Some f) = fault_words (in_position f.position (stop_by f.rule))

-- the items tried, as a preparation tries them; where they pass, the copies are lowered again
unfoldable pub judged_items : List ℕ → Shape → ℕ → ℕ → Option ℕ → Option ℕ → List Item → Tried
judged_items ws sh b route banned_object banned_kind qs =
    let x : Tried = tried_items ws sh b route banned_object banned_kind qs in
    pick (eqb x.fault.number 0) (tried x.fault (lowered_items x.words sh b qs)) x

-- all checks of a transfer from a table that is known
unfoldable pub judged_batch : List ℕ → Shape → ℕ → ℕ → Option ℕ → Option ℕ → List Item → Tried
judged_batch ws sh b route banned_object banned_kind qs =
    let x : Stop = batch_stop (load ws sh) sh b (length qs) in
    pick (eqb x.number 0) (judged_items ws sh b route banned_object banned_kind qs) (tried (in_position no_item x) ws)

-- "Preparation's Misuse refuses the judging itself"
unfoldable pub judging_r : List ℕ → List ℕ → Shape → ℕ → ℕ → ℕ → Option ℕ → Option ℕ → List Item → Both
judging_r ws os sh base b route banned_object banned_kind qs =
    let x : Tried = judged_batch ws sh b route banned_object banned_kind qs in
    pick (ltb b sh.tables) (both x.words (answered os base (0 ∷ fault_words x.fault))) (refuse_r ws os base 18)

-- the judging whose record stands at a place of the request list
unfoldable pub judging_at : List ℕ → List ℕ → Shape → ℕ → List ℕ → ℕ → Both
judging_at ws os sh base rq place =
    judging_r ws os sh base (must (fields_at rq place) table_field) (must (fields_at rq place) route_field) (may (fields_at rq place) forbidden_object_field) (may (fields_at rq place) forbidden_kind_field)
    (items_at rq (end_at rq place) (must (fields_at rq place) count_field))
