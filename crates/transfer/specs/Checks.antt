-- What the functions that check a transfer answer, over the words. They stand line by line beside `batch_checks`, `item_checks` and `copy_checks` of the model, which
-- have the printed order. Assumes nothing.
use Rattle.std.specs.Prelude.{Option as CodeOption, Some, None, Result, Ok, Err}
use Rattle.std.specs.Prelude.{◌≡◌, Bool, true, false, not, ◌&&◌, List, [], ◌∷◌, map, ℕ, zero, suc, eqb, ltb}
use Rattle.std.proofs.Math.Option.{Option, none, some}
use Rattle.words.specs.Pick.{pick}
use Rattle.authority.specs.Rights.{contains, duplicate_right, transfer_right}
use Rattle.model.specs.Base.{or_else, agrees, bans, member}
use Rattle.model.specs.Request.{Operation, Item, Fault}
use Rattle.model.specs.Words.{may, must, operation_of}
use Rattle.model.specs.Transfer.{is_copy}
use Rattle.format.specs.Fields.{route_field, forbidden_object_field, forbidden_kind_field}
use Rattle.format.specs.declared.rule.Rule.{Rule}
use Rattle.format.specs.Rules.{number_by, place as rule_place}
use Rattle.layout.specs.declared.Shape.{Shape}
use Rattle.layout.specs.Layout.{Mem, head, object}
use Rattle.layout.specs.Fields.{head_lifecycle, object_koid, object_kind, object_class}
use Rattle.layout.specs.Values.{life_active, class_leaf, class_rendezvous_only, route_buffered, stage_retired}
use Rattle.layout.specs.Sizes.{batch_max}
use Rattle.request.specs.Place.{fields_at, places_from, place_of, item_at}
use Rattle.object.specs.declared.ObjectRecord.{ObjectRecord}
use Rattle.object.specs.Words.{record_at}
use Rattle.lookup.specs.declared.PreparedHandle.{PreparedHandle}
use Rattle.lookup.specs.View.{View}
use Rattle.lookup.specs.View.{View.Invalid, View.Busy, View.Holds}
use Rattle.lookup.specs.View.{view_of}
use Rattle.book.specs.Ops.{row_left, id_refusal}
use Rattle.transfer.specs.declared.HandleTransferRequest.{HandleTransferRequest}
use Rattle.transfer.specs.declared.TransferFault.{TransferFault}
use Rattle.transfer.specs.declared.TransferItems.{TransferItems}
use Rattle.transfer.specs.declared.TransferRules.{TransferRules}

-- ---- what is read

abbrev pub as_option : CodeOption ℕ → Option ℕ
as_option (Some w) = some w
as_option None = none

-- the model's item
unfoldable pub item_by : HandleTransferRequest → Item
item_by q = record {
  operation = operation_of q.operation;
  value = q.value.0;
  rights = q.rights.0;
  offered_rights = as_option q.offered_rights;
  offered_kind = as_option q.offered_kind;
  expected_kind = as_option q.expected_kind;
}

-- what the transfer whose record stands at a place bars
pub record RulesAt (rq : List ℕ) (at : ℕ) (t : TransferRules) : Type 0 where
  pub route : t.route ≡ must (fields_at rq at) route_field
  pub object : as_option t.forbidden_object ≡ may (fields_at rq at) forbidden_object_field
  pub kind : as_option t.forbidden_kind ≡ may (fields_at rq at) forbidden_kind_field

-- the items of a transfer: n records from a place of the request list on
unfoldable pub items_at : List ℕ → ℕ → ℕ → List Item
items_at rq at n = map (item_at rq) (places_from n rq at)

-- the values of the first n, the last first
unfoldable pub earlier_at : List ℕ → ℕ → ℕ → List ℕ
earlier_at rq at zero = []
earlier_at rq at (suc n) = (item_at rq (place_of n rq at)).value ∷ earlier_at rq at n

-- the same of the code's own record: the items that are left, and the values of all of them
abbrev pub items_left : TransferItems → List Item
items_left p = items_at p.item.words.now p.item.at p.count

abbrev pub earlier_left : TransferItems → List ℕ
earlier_left p = earlier_at p.item.words.now p.item.at p.count

-- ---- the checks

-- where a check stops a transfer: its number and its place; 0 and 0 where none does
pub record Stop : Type 0 where
  pub number : ℕ
  pub place : ℕ

abbrev pub stop : ℕ → ℕ → Stop
stop n p = record { number = n; place = p }

abbrev pub passed : Stop
passed = stop 0 0

-- the same of the code's own rules
abbrev pub stop_by : Rule → Stop
stop_by r = stop (number_by r) (rule_place r)

abbrev pub stop_of : Result (Unit {0}) Rule → Stop
stop_of (Ok u) = passed
stop_of (Err r) = stop_by r

-- "Transfer: 16, 17, 13, 1, 12", of a batch of n items from table b
unfoldable pub batch_stop : Mem → Shape → ℕ → ℕ → Stop
batch_stop m sh b n =
    pick (eqb (m (head b head_lifecycle)) life_active)
    (pick (eqb n 0) (stop 17 2)
    (pick (ltb batch_max n) (stop 13 3)
    (pick (row_left m sh)
    (pick (eqb (id_refusal m) 0) passed (stop 12 5))
    (stop 1 4))))
    (stop 16 1)

-- "a copy without DUPLICATE"
abbrev pub copy_denied : ℕ → Operation → Bool
copy_denied held op = is_copy op && not (contains held duplicate_right)

-- Buffered bars RendezvousOnly, every route bars Never
unfoldable pub route_bars : ℕ → ℕ → Bool
route_bars route class = pick (eqb class class_leaf) false (pick (eqb class class_rendezvous_only) (eqb route route_buffered) true)

-- "5 (rights)", four places
unfoldable pub rights_stop : ℕ → Item → Stop
rights_stop held q =
    pick (not (contains held transfer_right)) (stop 5 8)
    (pick (copy_denied held q.operation) (stop 5 9)
    (pick (not (contains held (or_else q.offered_rights held))) (stop 5 10)
    (pick (not (contains (or_else q.offered_rights held) q.rights)) (stop 5 11)
    passed)))

-- "8 (kind), 5 (object), 8 (route), 4", of an object by its record
unfoldable pub object_stop : ObjectRecord → ℕ → Option ℕ → Option ℕ → Item → Stop
object_stop x route banned_object banned_kind q =
    pick (bans banned_kind x.kind) (stop 8 12)
    (pick (bans banned_object x.koid.0) (stop 5 13)
    (pick (route_bars route x.class) (stop 8 14)
    (pick (not (agrees q.offered_kind x.kind)) (stop 4 15)
    (pick (not (agrees q.expected_kind x.kind)) (stop 4 15)
    passed))))

-- what these checks look at of an object, with 0 for the rest
unfoldable pub looked_at : Mem → ℕ → ObjectRecord
looked_at m o = record {
  koid = record { 0 = m (object o object_koid) };
  kind = m (object o object_kind);
  class = m (object o object_class);
  supported = 0;
  exportable = 0;
  stage = 0;
  count = 0;
  limit = 0;
}

unfoldable pub handle_stop : Mem → PreparedHandle → ℕ → Option ℕ → Option ℕ → Item → Stop
handle_stop m h route banned_object banned_kind q =
    let x : Stop = rights_stop h.rights q in
    pick (eqb x.number 0) (object_stop (record_at m h.object) route banned_object banned_kind q) x

-- "2 or 3 (lookup)"
abbrev pub view_stop : Mem → ℕ → Option ℕ → Option ℕ → Item → View → Stop
view_stop m route banned_object banned_kind q Invalid = stop 2 7
view_stop m route banned_object banned_kind q Busy = stop 3 7
view_stop m route banned_object banned_kind q (Holds h) = handle_stop m h route banned_object banned_kind q

-- "2 (twice)", then the rest
unfoldable pub item_stop : Mem → ℕ → ℕ → Option ℕ → Option ℕ → List ℕ → Item → Stop
item_stop m b route banned_object banned_kind earlier q =
    pick (member q.value earlier) (stop 2 6) (view_stop m route banned_object banned_kind q (view_of m b q.value))

-- "then copies 9, 11", of a copy of object o
unfoldable pub copy_stop : Mem → ℕ → Stop
copy_stop m o =
    pick (eqb (record_at m o).stage stage_retired) (stop 9 16)
    (pick (eqb (record_at m o).count (record_at m o).limit) (stop 11 17)
    passed)

-- ---- positions; a number of 0 is no fault

abbrev pub no_fault : Fault
no_fault = record { number = 0; position = 0; place = 0 }

-- a stop of the item in a position
abbrev pub in_position : ℕ → Stop → Fault
in_position j x = record { number = x.number; position = j; place = x.place }

-- the same of the code's own faults
abbrev pub fault_of : Result (Unit {0}) TransferFault → Fault
fault_of (Ok u) = no_fault
fault_of (Err f) = in_position f.position (stop_by f.rule)

-- item by item, the first of them in the position j
unfoldable pub items_stop : Mem → ℕ → ℕ → Option ℕ → Option ℕ → List ℕ → ℕ → List Item → Fault
items_stop m b route banned_object banned_kind earlier j [] = no_fault
items_stop m b route banned_object banned_kind earlier j (q ∷ qs) =
    let x : Stop = item_stop m b route banned_object banned_kind earlier q in
    pick (eqb x.number 0) (items_stop m b route banned_object banned_kind (q.value ∷ earlier) (suc j) qs) (in_position j x)
