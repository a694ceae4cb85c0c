-- A list of requests read in place: where the records, the fields and the items of a list of words stand. Document 01, "The request list".
-- Assumes nothing.
use Rattle.std.specs.Prelude.{Option as CodeOption, Some, None}
use Rattle.std.specs.Prelude.{Bool, true, false, ◌&&◌, ◌||◌, List, [], ◌∷◌, map, ℕ, zero, suc, ◌+◌, ◌-◌, ◌/◌, length, get_or, drop, eqb, ltb}
use Rattle.std.proofs.Math.Option.{Option, none, some}
use Rattle.authority.specs.Rights.{contains}
use Rattle.format.specs.Format.{musts, mays, transfer_item_must, transfer_item_may, parcel_item_must, parcel_item_may, field_kinds, field_fits, field_count}
use Rattle.model.specs.Base.{pick}
use Rattle.model.specs.Request.{Item, Request, Request.get_info, Request.publish, Request.prepare_transfer, Request.judge_transfer}
use Rattle.model.specs.Words.{Reading, and_then, Fields, odd, may, must, operation_of, route_of, plain_request}
use Rattle.format.specs.Fields.{op_field, table_field, count_field, value_field, rights_field, flags_field, id_field, kind_field, koid_field, route_field, offered_rights_field, offered_kind_field, expected_kind_field, forbidden_object_field, forbidden_kind_field, number32, a_koid, a_route, an_operation, zero_word}
use Rattle.format.specs.Ops.{op_publish, op_prepare_transfer, op_judge_transfer}
use Rattle.request.specs.declared.Record.{Record}

-- What the code answers

-- the place after what was read, or that it is malformed
abbrev pub next_of : Option ℕ → CodeOption ℕ
next_of none = None
next_of (some e) = Some e

-- the same of a reading of the model: where the words that are left begin
abbrev pub placed : {A : Type 0} → List ℕ → Option (A × List ℕ) → CodeOption ℕ
placed ws none = None
placed ws (some r) = Some (length ws - length r.1)

-- what was read up to a place of the list, with the words that are left
abbrev pub up_to : {A : Type 0} → List ℕ → Option ℕ → A → Reading A
up_to ws none a = none
up_to ws (some e) a = some (a, drop e ws)

-- how many requests were read after n others
abbrev pub counted : ℕ → Option (List Request) → CodeOption ℕ
counted n none = None
counted n (some rs) = Some (n + length rs)

-- the answer for a list: number 19, or how many requests
abbrev pub listed : Option (List Request) → CodeOption ℕ
listed none = None
listed (some rs) = Some (length rs)

-- a field that may stand
abbrev pub optional : Option ℕ → CodeOption ℕ
optional none = None
optional (some w) = Some w

-- One record

-- the place after a field, by whether its bit stands
abbrev pub past : Bool → ℕ → ℕ
past true p = suc p
past false p = p

-- the place after n fields that begin at p: "only the fields whose bit stands, lowest bit first"
unfoldable pub after : ℕ → ℕ → ℕ → ℕ
after zero map p = p
after (suc n) map p = after n (map / 2) (past (odd map) p)

-- the word at p, where the lowest bit stands
abbrev pub here : Bool → List ℕ → ℕ → Option ℕ
here b ws p = pick b (some (get_or ws p 0)) none

-- n fields that begin at p
unfoldable pub fields_from : ℕ → ℕ → List ℕ → ℕ → Fields
fields_from zero map ws p = []
fields_from (suc n) map ws p = here (odd map) ws p ∷ fields_from n (map / 2) ws (past (odd map) p)

-- the bit map of the record at a place
abbrev pub map_at : List ℕ → ℕ → ℕ
map_at ws at = get_or ws at 0

-- whether it is a given one
unfoldable pub has_map : List ℕ → ℕ → ℕ → Bool
has_map ws at map = ltb at (length ws) && eqb (map_at ws at) map

-- its fields
unfoldable pub fields_at : List ℕ → ℕ → Fields
fields_at ws at = fields_from field_count (map_at ws at) ws (suc at)

-- the same of the code's own record
abbrev pub fields_of : Record → Fields
fields_of r = fields_at r.words.now r.at

-- a field's word
abbrev pub field_of : List ℕ → ℕ → ℕ → ℕ
field_of ws at k = must (fields_at ws at) k

abbrev pub word_of : Record → ℕ → ℕ
word_of r k = must (fields_of r) k

-- a record's fields, by their bits
abbrev pub words_by : Fields → List ℕ → List ℕ
words_by fs bits = map (must fs) bits

-- the place after it; a place past the end stays
unfoldable pub end_at : List ℕ → ℕ → ℕ
end_at ws at = pick (ltb at (length ws)) (after field_count (map_at ws at) (suc at)) at

-- the kinds of a record's fields; `first` is that of bit 0
unfoldable pub kinds_of : ℕ → List ℕ
kinds_of first = first ∷ drop 1 field_kinds

-- whether a field, where it stands, fits a kind
unfoldable pub fit_one : ℕ → Option ℕ → Bool
fit_one kind none = true
fit_one kind (some w) = field_fits kind w

-- whether those fields fit that do not take every word, bit 0 apart
unfoldable pub narrow_fit : Fields → Bool
narrow_fit fs =
    fit_one number32 (may fs flags_field) && (fit_one number32 (may fs kind_field) && (fit_one a_koid (may fs koid_field) && (fit_one a_route (may fs route_field)
    && (fit_one number32 (may fs offered_kind_field) && (fit_one number32 (may fs expected_kind_field) && (fit_one a_koid (may fs forbidden_object_field) && (fit_one number32 (may fs forbidden_kind_field) && true)))))))

-- the place after one field, or none: "list ends inside a record"; "too wide or a koid of 0"
unfoldable pub field_end : List ℕ → ℕ → ℕ → ℕ → Option ℕ
field_end ws p map kind = pick (odd map) (pick (ltb p (length ws)) (pick (field_fits kind (get_or ws p 0)) (some (suc p)) none) none) (some p)

-- the place after a field of each kind
unfoldable pub walk : List ℕ → List ℕ → ℕ → ℕ → Option ℕ
walk [] ws map p = some p
walk (k ∷ ks) ws map p = and_then (field_end ws p map k) λ q. walk ks ws (map / 2) q

-- "Bit 0 .. always stands"; "field missing, extra"
unfoldable pub good_map : ℕ → ℕ → ℕ → Bool
good_map map must allowed = odd map && (contains map must && contains allowed map)

-- the place after the record at a place, or none where it is malformed
unfoldable pub record_end : ℕ → ℕ → ℕ → List ℕ → ℕ → Option ℕ
record_end first must allowed ws at =
    pick (ltb at (length ws)) (pick (good_map (map_at ws at) must allowed) (walk (kinds_of first) ws (map_at ws at) (suc at)) none) none

-- Items

-- the place after n records of one form
unfoldable pub many_end : ℕ → ℕ → ℕ → ℕ → List ℕ → ℕ → Option ℕ
many_end first must allowed zero ws at = some at
many_end first must allowed (suc n) ws at = and_then (record_end first must allowed ws at) λ e. many_end first must allowed n ws e

-- the places of n records, the first of which stands at a place
unfoldable pub places_from : ℕ → List ℕ → ℕ → List ℕ
places_from zero ws at = []
places_from (suc n) ws at = at ∷ places_from n ws (end_at ws at)

-- the place of record i of them
unfoldable pub place_of : ℕ → List ℕ → ℕ → ℕ
place_of zero ws at = at
place_of (suc i) ws at = end_at ws (place_of i ws at)

-- "there bit 0's word is the item's operation, or 0"
abbrev pub item_of : Fields → Item
item_of f = record { operation = operation_of (must f op_field); value = must f value_field; rights = must f rights_field; offered_rights = may f offered_rights_field; offered_kind = may f offered_kind_field; expected_kind = may f expected_kind_field }

unfoldable pub item_at : List ℕ → ℕ → Item
item_at ws at = item_of (fields_at ws at)

unfoldable pub parcel_at : List ℕ → ℕ → ℕ
parcel_at ws at = must (fields_at ws at) id_field

-- One request

abbrev pub op_at : List ℕ → ℕ → ℕ
op_at ws at = must (fields_at ws at) op_field

abbrev pub count_at : List ℕ → ℕ → ℕ
count_at ws at = must (fields_at ws at) count_field

-- the places of its items
abbrev pub item_places : List ℕ → ℕ → List ℕ
item_places ws at = places_from (count_at ws at) ws (end_at ws at)

-- the ops whose items are a transfer's
abbrev pub has_transfer : ℕ → Bool
has_transfer op = eqb op op_prepare_transfer || eqb op op_judge_transfer

-- the place after the items of an op, which begin at e: "as many as its count field says"
unfoldable pub items_end : ℕ → ℕ → List ℕ → ℕ → Option ℕ
items_end op n ws e =
    pick (eqb op op_publish) (many_end zero_word parcel_item_must (parcel_item_must + parcel_item_may) n ws e)
    (pick (has_transfer op) (many_end an_operation transfer_item_must (transfer_item_must + transfer_item_may) n ws e) (some e))

-- the place after the request at a place, or none where it is malformed
unfoldable pub request_end : List ℕ → ℕ → Option ℕ
request_end ws at =
    and_then (record_end 4 (get_or musts (op_at ws at) 0) (get_or musts (op_at ws at) 0 + get_or mays (op_at ws at) 0) ws at) λ e.
    items_end (op_at ws at) (count_at ws at) ws e

-- the place after a request that is known to be well formed
unfoldable pub next_at : List ℕ → ℕ → ℕ
next_at ws at =
    pick (eqb (op_at ws at) op_publish) (place_of (count_at ws at) ws (end_at ws at))
    (pick (has_transfer (op_at ws at)) (place_of (count_at ws at) ws (end_at ws at)) (end_at ws at))

-- what the table of ops makes of the fields; where there is no such op, which no list that was read has, a request that changes nothing
abbrev pub applied : Option (Fields → Request) → Fields → Request
applied none f = get_info 0 0
applied (some make) f = make f

-- the request of an op at a place
unfoldable pub request_of : ℕ → List ℕ → ℕ → Request
request_of op ws at =
    pick (eqb op op_publish) (publish (must (fields_at ws at) id_field) (map (parcel_at ws) (item_places ws at)))
    (pick (eqb op op_prepare_transfer) (prepare_transfer (must (fields_at ws at) table_field) (route_of (must (fields_at ws at) route_field)) (may (fields_at ws at) forbidden_object_field) (may (fields_at ws at) forbidden_kind_field) (map (item_at ws) (item_places ws at)))
    (pick (eqb op op_judge_transfer) (judge_transfer (must (fields_at ws at) table_field) (route_of (must (fields_at ws at) route_field)) (may (fields_at ws at) forbidden_object_field) (may (fields_at ws at) forbidden_kind_field) (map (item_at ws) (item_places ws at)))
    (applied (plain_request op) (fields_at ws at))))

unfoldable pub request_at : List ℕ → ℕ → Request
request_at ws at = request_of (op_at ws at) ws at
