-- What the functions of the request prepare transfer do to the words. Assumes nothing.
use Rattle.std.specs.Prelude.{Option as CodeOption, Some, None}
use Rattle.std.specs.Prelude.{List, [], ◌∷◌, ◌++◌, ℕ, suc, ◌-◌, length, eqb, ltb}
use Rattle.std.proofs.Math.Option.{Option}
use Rattle.words.specs.Pick.{pick}
use Rattle.model.specs.Request.{Item, Fault}
use Rattle.model.specs.Words.{may, must}
use Rattle.model.specs.Transfer.{is_copy}
use Rattle.format.specs.Fields.{table_field, count_field, route_field, forbidden_object_field, forbidden_kind_field}
use Rattle.layout.specs.declared.Shape.{Shape}
use Rattle.layout.specs.Layout.{Mem, root, item, load, Write, Write.at, writes}
use Rattle.layout.specs.Fields.{root_next_id, item_operation, item_object, item_rights, item_flags}
use Rattle.layout.specs.Values.{operation_copy}
use Rattle.request.specs.Place.{fields_at, end_at}
use Rattle.storage.specs.Ops.{up}
use Rattle.object.specs.Words.{raise_w, lower_w}
use Rattle.book.specs.Ops.{spare, spend_w}
use Rattle.answer.specs.Does.{Both, both, answered, refuse_r}
use Rattle.lookup.specs.declared.PreparedHandle.{PreparedHandle}
use Rattle.lookup.specs.View.{View}
use Rattle.lookup.specs.View.{View.Invalid, View.Busy, View.Holds}
use Rattle.lookup.specs.View.{view_of}
use Rattle.transfer.specs.Ops.{moved_w, claim_w}
use Rattle.transfer.specs.Checks.{items_at, Stop, passed, batch_stop, copy_stop, items_stop, no_fault, in_position}

-- ---- copies

abbrev pub view_link : View → ℕ
view_link Invalid = 0
view_link Busy = 0
view_link (Holds h) = up h.object

-- the object of the handle that an item copies, plus 1; 0 for an item that moves
unfoldable pub copy_link : Mem → ℕ → Item → ℕ
copy_link m b q = pick (is_copy q.operation) (view_link (view_of m b q.value)) 0

-- the link of an object that was found
abbrev pub link_of : CodeOption ℕ → ℕ
link_of None = 0
link_of (Some o) = up o

-- where an item's copy stops, and the words that are left
pub record Raised : Type 0 where
  pub stop : Stop
  pub words : List ℕ

abbrev pub raised : Stop → List ℕ → Raised
raised x ws = record { stop = x; words = ws }

-- the object of an item that copies gets one handle more, or refuses
unfoldable pub raised_item : List ℕ → Shape → ℕ → Item → Raised
raised_item ws sh b q =
    let l : ℕ = copy_link (load ws sh) b q in
    let x : Stop = copy_stop (load ws sh) (l - 1) in
    pick (eqb l 0) (raised passed ws) (pick (eqb x.number 0) (raised passed (raise_w ws sh (l - 1))) (raised x ws))

-- it has one handle fewer
unfoldable pub lowered_item : List ℕ → Shape → ℕ → Item → List ℕ
lowered_item ws sh b q = let l : ℕ = copy_link (load ws sh) b q in pick (eqb l 0) ws (lower_w ws sh (l - 1))

unfoldable pub lowered_items : List ℕ → Shape → ℕ → List Item → List ℕ
lowered_items ws sh b [] = ws
lowered_items ws sh b (q ∷ qs) = lowered_items (lowered_item ws sh b q) sh b qs

-- a fault, and the words that are left
pub record Tried : Type 0 where
  pub fault : Fault
  pub words : List ℕ

abbrev pub tried : Fault → List ℕ → Tried
tried f ws = record { fault = f; words = ws }

-- item by item, the first of them in the position j; where one refuses, those before it, ps, are lowered again
unfoldable pub raised_items : List ℕ → Shape → ℕ → List Item → ℕ → List Item → Tried
raised_items ws sh b ps j [] = tried no_fault ws
raised_items ws sh b ps j (q ∷ qs) =
    let x : Raised = raised_item ws sh b q in
    pick (eqb x.stop.number 0) (raised_items x.words sh b (ps ++ (q ∷ [])) (suc j) qs) (tried (in_position j x.stop) (lowered_items x.words sh b ps))

-- ALL CHECKS of items and copies; where they pass, the copies' objects have their handles
unfoldable pub tried_items : List ℕ → Shape → ℕ → ℕ → Option ℕ → Option ℕ → List Item → Tried
tried_items ws sh b route banned_object banned_kind qs =
    let f : Fault = items_stop (load ws sh) b route banned_object banned_kind [] 0 qs in
    pick (eqb f.number 0) (raised_items ws sh b [] 0 qs) (tried f ws)

-- ---- entries

-- a copy of the handle h with the rights r, in item j of the row in place x
abbrev pub copied_p : ℕ → ℕ → PreparedHandle → ℕ → List Write
copied_p x j h r = at (item x j item_operation) operation_copy ∷ at (item x j item_object) h.object ∷ at (item x j item_rights) r ∷ at (item x j item_flags) h.flags ∷ []

unfoldable pub copied_w : List ℕ → Shape → ℕ → ℕ → PreparedHandle → ℕ → List ℕ
copied_w ws sh x j h r = writes ws sh (copied_p x j h r)

-- an item that names the handle h, as its claim keeps it
unfoldable pub handle_entry_w : List ℕ → Shape → ℕ → ℕ → Item → PreparedHandle → List ℕ
handle_entry_w ws sh x j q h = pick (is_copy q.operation) (copied_w ws sh x j h q.rights) (moved_w ws sh x j h q.rights)

abbrev pub view_entry_w : List ℕ → Shape → ℕ → ℕ → Item → View → List ℕ
view_entry_w ws sh x j q Invalid = ws
view_entry_w ws sh x j q Busy = ws
view_entry_w ws sh x j q (Holds h) = handle_entry_w ws sh x j q h

unfoldable pub entry_w : List ℕ → Shape → ℕ → ℕ → ℕ → Item → List ℕ
entry_w ws sh b x j q = view_entry_w ws sh x j q (view_of (load ws sh) b q.value)

-- the items of a list, from item j of the row on
unfoldable pub entries_w : List ℕ → Shape → ℕ → ℕ → ℕ → List Item → List ℕ
entries_w ws sh b x j [] = ws
entries_w ws sh b x j (q ∷ qs) = entries_w (entry_w ws sh b x j q) sh b x (suc j) qs

-- ---- the request

-- a refusal from the id step on: "`prepare_transfer_with_storage` spends its id before it looks at any value"
unfoldable pub refuse_spent_r : List ℕ → List ℕ → Shape → ℕ → ℕ → Both
refuse_spent_r ws os sh base n = both (spend_w ws sh) (answered os base (n ∷ []))

-- every copy is raised, the entries stand in the row to come, and it opens
unfoldable pub opened_r : List ℕ → List ℕ → Shape → ℕ → ℕ → List Item → Both
opened_r ws os sh base b qs =
    both (claim_w (entries_w ws sh b (spare (load ws sh)) 0 qs) sh b (length qs)) (answered os base (0 ∷ load ws sh (root root_next_id) ∷ []))

-- from the id step on
unfoldable pub items_r : List ℕ → List ℕ → Shape → ℕ → ℕ → ℕ → Option ℕ → Option ℕ → List Item → Both
items_r ws os sh base b route banned_object banned_kind qs =
    let x : Tried = tried_items ws sh b route banned_object banned_kind qs in
    pick (eqb x.fault.number 0) (opened_r x.words os sh base b qs) (refuse_spent_r x.words os sh base x.fault.number)

-- "Transfer: 16, 17, 13, 1, 12; then item by item ..; then copies 9, 11"
unfoldable pub transfer_r : List ℕ → List ℕ → Shape → ℕ → ℕ → ℕ → Option ℕ → Option ℕ → List Item → Both
transfer_r ws os sh base b route banned_object banned_kind qs =
    let x : Stop = batch_stop (load ws sh) sh b (length qs) in
    pick (ltb b sh.tables)
    (pick (eqb x.number 0) (items_r ws os sh base b route banned_object banned_kind qs) (refuse_r ws os base x.number))
    (refuse_r ws os base 18)

-- the transfer whose record stands at a place of the request list
unfoldable pub transfer_at : List ℕ → List ℕ → Shape → ℕ → List ℕ → ℕ → Both
transfer_at ws os sh base rq place =
    transfer_r ws os sh base (must (fields_at rq place) table_field) (must (fields_at rq place) route_field) (may (fields_at rq place) forbidden_object_field) (may (fields_at rq place) forbidden_kind_field)
    (items_at rq (end_at rq place) (must (fields_at rq place) count_field))
