-- Lists of requests as words, answers as words, and the whole call: document 01, "The request list", with the tables of docs/formats.md.
use Rattle.std.specs.Prelude.{Bool, true, false, ◌&&◌, List, [], ◌∷◌, ◌++◌, map, ℕ, zero, suc, ◌+◌, ◌*◌, ◌/◌, ◌%◌, length, get_or, drop, eqb, ltb}
use Rattle.std.proofs.Math.Option.{Option, none, some}
use Rattle.authority.specs.Rights.{contains}
use Rattle.format.specs.Format.{musts, mays, transfer_item_must, transfer_item_may, parcel_item_must, parcel_item_may, field_kinds, field_fits, field_count, answer_words}
use Rattle.format.specs.Fields.{op_field, table_field, object_field, count_field, value_field, rights_field, flags_field, id_field, destination_field, kind_field, koid_field, cursor_field, route_field, offered_rights_field, offered_kind_field, expected_kind_field, forbidden_object_field, forbidden_kind_field, an_op, an_operation, zero_word}
use Rattle.model.specs.Base.{pick, bit, is_some, or_else, nth}
use Rattle.model.specs.State.{Sizes, State}
use Rattle.model.specs.Request.{Route, Route.buffered, Route.rendezvous, Route.staged_startup, Operation, Operation.as_move, Operation.as_copy, Item, Fault, Info, Snapshot}
use Rattle.model.specs.Request.{Answer, Answer.refused, Answer.done, Answer.opened, Answer.batch, Answer.info_of, Answer.resolved, Answer.renewed, Answer.scanned, Answer.removed, Answer.closed, Answer.taken, Answer.planned, Answer.judged}
use Rattle.model.specs.Request.{Request, Request.new_object, Request.duplicate, Request.release_parcel, Request.retire_object, Request.reserve, Request.trim, Request.abort, Request.publish, Request.get_info, Request.resolve, Request.replace, Request.close, Request.scan_handles, Request.prepare_transfer, Request.prepare_consumption, Request.rollback, Request.commit, Request.direct_commit, Request.direct_rollback, Request.remove_stopping_owner, Request.teardown_start, Request.teardown_step, Request.teardown_finish, Request.take_empty_page, Request.make_plan, Request.use_plan, Request.drop_plan, Request.judge_transfer}
use Rattle.model.specs.Step.{run}

-- Reading: what was read with the words that are left, or none where the words are malformed (19)
abbrev pub Reading : Type 0 → Type 0
Reading A = Option (A × List ℕ)

abbrev pub and_then {ℓ κ} : {A : Type ℓ} {B : Type κ} → Option A → (A → Option B) → Option B
and_then none f = none
and_then (some a) f = f a

-- the fields of a record, by bit: absent, or the word that stands for it
abbrev pub Fields : Type 0
Fields = List (Option ℕ)

abbrev pub odd : ℕ → Bool
odd m = eqb (m % 2) 1

-- a field's word, where its bit stands. "list ends inside a record"
abbrev pub read_field : Bool → List ℕ → Reading (Option ℕ)
read_field false ws = some (none, ws)
read_field true [] = none
read_field true (w ∷ ws) = some (some w, ws)

-- "A record is a bit map, then only the fields whose bit stands, lowest bit first"
abbrev pub read_fields : ℕ → ℕ → List ℕ → Reading Fields
read_fields zero map ws = some ([], ws)
read_fields (suc n) map ws =
    and_then (read_field (odd map) ws) λ a.
    and_then (read_fields n (map / 2) a.1) λ r.
    some (a.0 ∷ r.0, r.1)

-- "too wide or a koid of 0; unknown op, route or operation": each word fits the kind of its field
abbrev pub fit_all : List ℕ → Fields → Bool
fit_all ks [] = true
fit_all [] (f ∷ fs) = false
fit_all (k ∷ ks) (none ∷ fs) = fit_all ks fs
fit_all (k ∷ ks) (some w ∷ fs) = field_fits k w && fit_all ks fs

-- a field that must stand, and one that may
abbrev pub may : Fields → ℕ → Option ℕ
may fs i = or_else (nth fs i) none

abbrev pub must : Fields → ℕ → ℕ
must fs i = or_else (may fs i) 0

-- "Bit 0, the op number, always stands"; "field missing, extra": the map has the op's must fields and none beyond its must and may fields
abbrev pub good_record : ℕ → ℕ → ℕ → ℕ → Fields → Bool
good_record first musts mays map fs = odd map && (contains map musts && (contains (musts + mays) map && fit_all (first ∷ drop 1 field_kinds) fs))

-- `first` is the kind of the word of bit 0: an op, a transfer item's operation, or a parcel item's 0
abbrev pub read_record : ℕ → (ℕ → ℕ) → (ℕ → ℕ) → List ℕ → Reading Fields
read_record first must_of may_of [] = none
read_record first must_of may_of (map ∷ ws) =
    and_then (read_fields field_count map ws) λ r.
    pick (good_record first (must_of (must r.0 op_field)) (may_of (must r.0 op_field)) map r.0) (some r) none

-- n records in a row
abbrev pub read_many {ℓ} : {A : Type ℓ} → (List ℕ → Option (A × List ℕ)) → ℕ → List ℕ → Option (List A × List ℕ)
read_many read zero ws = some ([], ws)
read_many read (suc n) ws =
    and_then (read ws) λ a.
    and_then (read_many read n a.1) λ r.
    some (a.0 ∷ r.0, r.1)

abbrev pub operation_of : ℕ → Operation
operation_of zero = as_move
operation_of (suc n) = as_copy

abbrev pub route_of : ℕ → Route
route_of zero = buffered
route_of (suc zero) = rendezvous
route_of (suc (suc n)) = staged_startup

-- "there bit 0's word is the item's operation, or 0"
abbrev pub read_transfer_item : List ℕ → Reading Item
read_transfer_item ws =
    and_then (read_record an_operation (λ o. transfer_item_must) (λ o. transfer_item_may) ws) λ r.
    some (record { operation = operation_of (must r.0 op_field); value = must r.0 value_field; rights = must r.0 rights_field; offered_rights = may r.0 offered_rights_field; offered_kind = may r.0 offered_kind_field; expected_kind = may r.0 expected_kind_field }, r.1)

abbrev pub read_parcel_item : List ℕ → Reading ℕ
read_parcel_item ws = and_then (read_record zero_word (λ o. parcel_item_must) (λ o. parcel_item_may) ws) λ r. some (must r.0 id_field, r.1)

-- the requests of the ops from 1 on, with their fields; a publish, a transfer and the judging of one take their items as well
abbrev pub plain_requests : List (Fields → Request)
plain_requests =
    (λ f. new_object (must f object_field) (must f rights_field) (must f flags_field))
    ∷ (λ f. duplicate (must f table_field) (must f value_field) (must f rights_field))
    ∷ (λ f. release_parcel (must f id_field))
    ∷ (λ f. retire_object (must f object_field))
    ∷ (λ f. reserve (must f table_field) (must f count_field))
    ∷ (λ f. trim (must f id_field) (must f count_field))
    ∷ (λ f. abort (must f id_field))
    ∷ (λ f. publish (must f id_field) [])
    ∷ (λ f. get_info (must f table_field) (must f value_field))
    ∷ (λ f. resolve (must f table_field) (must f value_field) (must f rights_field) (must f kind_field))
    ∷ (λ f. replace (must f table_field) (must f value_field) (must f rights_field))
    ∷ (λ f. close (must f table_field) (must f value_field))
    ∷ (λ f. scan_handles (must f table_field) (must f cursor_field))
    ∷ (λ f. prepare_transfer (must f table_field) (route_of (must f route_field)) (may f forbidden_object_field) (may f forbidden_kind_field) [])
    ∷ (λ f. prepare_consumption (must f table_field) (must f value_field) (must f rights_field) (must f kind_field) (must f koid_field))
    ∷ (λ f. rollback (must f id_field))
    ∷ (λ f. commit (must f id_field))
    ∷ (λ f. direct_commit (must f id_field) (must f destination_field))
    ∷ (λ f. direct_rollback (must f id_field) (must f destination_field))
    ∷ (λ f. remove_stopping_owner (must f table_field) (must f cursor_field))
    ∷ (λ f. teardown_start (must f table_field))
    ∷ (λ f. teardown_step (must f table_field))
    ∷ (λ f. teardown_finish (must f table_field))
    ∷ (λ f. take_empty_page (must f table_field))
    ∷ (λ f. make_plan (must f table_field) (must f count_field))
    ∷ (λ f. use_plan (must f id_field))
    ∷ (λ f. drop_plan (must f id_field))
    ∷ (λ f. judge_transfer (must f table_field) (route_of (must f route_field)) (may f forbidden_object_field) (may f forbidden_kind_field) [])
    ∷ []

abbrev pub plain_request : (op : ℕ) → Option (Fields → Request)
plain_request zero = none
plain_request (suc n) = nth plain_requests n

-- "A transfer's items, or a publish's parcels, follow as records of their own, as many as its count field says"; so those of a transfer that is judged
abbrev pub with_items : Fields → Request → List ℕ → Reading Request
with_items f (new_object o r g) ws = some (new_object o r g, ws)
with_items f (duplicate b v r) ws = some (duplicate b v r, ws)
with_items f (release_parcel i) ws = some (release_parcel i, ws)
with_items f (retire_object o) ws = some (retire_object o, ws)
with_items f (reserve b n) ws = some (reserve b n, ws)
with_items f (trim i n) ws = some (trim i n, ws)
with_items f (abort i) ws = some (abort i, ws)
with_items f (publish i is) ws = and_then (read_many read_parcel_item (must f count_field) ws) λ r. some (publish i r.0, r.1)
with_items f (get_info b v) ws = some (get_info b v, ws)
with_items f (resolve b v r k) ws = some (resolve b v r k, ws)
with_items f (replace b v r) ws = some (replace b v r, ws)
with_items f (close b v) ws = some (close b v, ws)
with_items f (scan_handles b c) ws = some (scan_handles b c, ws)
with_items f (prepare_transfer b route o k qs) ws = and_then (read_many read_transfer_item (must f count_field) ws) λ r. some (prepare_transfer b route o k r.0, r.1)
with_items f (prepare_consumption b v r k o) ws = some (prepare_consumption b v r k o, ws)
with_items f (rollback i) ws = some (rollback i, ws)
with_items f (commit i) ws = some (commit i, ws)
with_items f (direct_commit i j) ws = some (direct_commit i j, ws)
with_items f (direct_rollback i j) ws = some (direct_rollback i j, ws)
with_items f (remove_stopping_owner b c) ws = some (remove_stopping_owner b c, ws)
with_items f (teardown_start b) ws = some (teardown_start b, ws)
with_items f (teardown_step b) ws = some (teardown_step b, ws)
with_items f (teardown_finish b) ws = some (teardown_finish b, ws)
with_items f (take_empty_page b) ws = some (take_empty_page b, ws)
with_items f (make_plan b n) ws = some (make_plan b n, ws)
with_items f (use_plan i) ws = some (use_plan i, ws)
with_items f (drop_plan i) ws = some (drop_plan i, ws)
with_items f (judge_transfer b route o k qs) ws = and_then (read_many read_transfer_item (must f count_field) ws) λ r. some (judge_transfer b route o k r.0, r.1)

unfoldable pub read_request : List ℕ → Reading Request
read_request ws =
    and_then (read_record an_op (λ op. get_or musts op 0) (λ op. get_or mays op 0) ws) λ r.
    and_then (plain_request (must r.0 op_field)) λ make.
    with_items r.0 (make r.0) r.1

-- records until the list ends; each has a word at least, so that its length is fuel enough
abbrev pub read_up_to : ℕ → List ℕ → Option (List Request)
read_up_to zero [] = some []
read_up_to zero (w ∷ ws) = none
read_up_to (suc n) [] = some []
read_up_to (suc n) (w ∷ ws) =
    and_then (read_request (w ∷ ws)) λ r.
    and_then (read_up_to n r.1) λ rs.
    some (r.0 ∷ rs)

unfoldable pub read_list : List ℕ → Option (List Request)
read_list ws = read_up_to (length ws) ws

-- Answers: "The first of the 72 is the number; after a refusal the rest are 0"

abbrev pub info_words : Info → List ℕ
info_words i = i.koid ∷ i.kind ∷ i.rights ∷ i.flags ∷ []

abbrev pub entry_words : List Snapshot → List ℕ
entry_words [] = []
entry_words (e ∷ es) = e.value ∷ info_words e.info ++ entry_words es

-- document 02, 4: "the refusal, the position .., and the rule's place in the printed order"; 0 for "would be accepted"
abbrev pub judged_words : Option Fault → List ℕ
judged_words none = 0 ∷ 0 ∷ 0 ∷ []
judged_words (some f) = f.number ∷ f.position ∷ f.place ∷ []

-- this paper's number and values for each case
unfoldable pub used_words : Answer → List ℕ
used_words (refused n) = n ∷ []
used_words done = 0 ∷ []
used_words (opened i) = 0 ∷ i ∷ []
used_words (batch i vs) = 0 ∷ i ∷ length vs ∷ vs
used_words (info_of i) = 0 ∷ info_words i
used_words (resolved o koid r) = 0 ∷ o ∷ koid ∷ r ∷ []
used_words (renewed v) = 0 ∷ v ∷ []
used_words (scanned p) = 0 ∷ length p.entries ∷ bit (is_some p.next) ∷ or_else p.next 0 ∷ p.examined ∷ entry_words p.entries
used_words (removed none c) = 0 ∷ 0 ∷ c ∷ []
used_words (removed (some e) c) = 0 ∷ 1 ∷ c ∷ e.value ∷ info_words e.info
used_words (closed none) = 0 ∷ 0 ∷ []
used_words (closed (some i)) = 0 ∷ 1 ∷ info_words i
used_words (taken none) = 0 ∷ 0 ∷ []
used_words (taken (some p)) = 0 ∷ 1 ∷ p ∷ []
used_words (planned i n m) = 0 ∷ i ∷ n ∷ m ∷ []
used_words (judged x) = 0 ∷ judged_words x

-- n words of a list, with 0 after its end
abbrev pub padded : ℕ → List ℕ → List ℕ
padded zero ws = []
padded (suc n) [] = 0 ∷ padded n []
padded (suc n) (w ∷ ws) = w ∷ padded n ws

-- "Each request answers 72 words, unused ones 0"
unfoldable pub words_of : Answer → List ℕ
words_of a = padded answer_words (used_words a)

abbrev pub all_words : List Answer → List ℕ
all_words [] = []
all_words (a ∷ rest) = words_of a ++ all_words rest

-- The call: its result, the state that it leaves, and every answer word
pub record Outcome : Type 0 where
  pub result : ℕ
  pub state : Option State
  pub answers : List ℕ

-- a call whose three tests passed: "words after the last answer keep their contents"
abbrev pub ran : Sizes → State → List Request → List ℕ → Outcome
ran z s rs answers =
    let o : State × List Answer = run z s rs in
    record { result = 0; state = some o.0; answers = all_words o.1 ++ drop (answer_words * length rs) answers }

-- "AnswerShort: fewer than 72 words a request"
unfoldable pub answer_short : List ℕ → List Request → Bool
answer_short answers rs = ltb (length answers) (answer_words * length rs)

abbrev pub on_requests : Sizes → State → List ℕ → Option (List Request) → Outcome
on_requests z s answers none = record { result = 19; state = some s; answers = answers }
on_requests z s answers (some rs) = pick (answer_short answers rs) (record { result = 20; state = some s; answers = answers }) (ran z s rs answers)

-- "Order: state check 18, list 19, answer length 20; these are the whole call's result and no lent word changes, while a call that passes
-- them gives 0". The state's words stand for `none` if no well-formed state is represented by them
unfoldable pub call : Sizes → Option State → List ℕ → List ℕ → Outcome
call z none list answers = record { result = 18; state = none; answers = answers }
call z (some s) list answers = on_requests z s answers (read_list list)
