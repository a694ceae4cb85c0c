-- A small shop in words, from its creation on, which the checker computes: two tables of one page, two frames, two objects, three rows. Assumes nothing.
use Rattle.std.specs.Prelude.{◌≡◌, refl, List, [], ◌∷◌, ◌++◌, ℕ, ◌≤◌, length, replicate}
use Rattle.std.proofs.Common.{ap, subst, ◌∙◌, arith}
use Rattle.std.proofs.Math.Option.{Option, none, some}
use Rattle.authority.specs.Rights.{contains}
use Rattle.codec.specs.Codec.{encode, payload, mask_of, payload_in, number_in, slot_in, generation_in, decodes, next_generation}
use Rattle.format.specs.Format.{musts, mays, field_kinds, field_fits, known_op}
use Rattle.model.specs.State.{till, State, max_batch, max_slots, known_flags, last_id, max_tables, max_frames, max_objects, max_rows, max_limit}
use Rattle.model.specs.Storage.{place, vacate, take_free, pages_for, attach, detach}
use Rattle.model.specs.Create.{created, permitted}
use Rattle.model.specs.Request.{Route.buffered, Operation.as_move, Item, Answer}
use Rattle.model.specs.Request.{Request, Request.new_object, Request.duplicate, Request.reserve, Request.publish, Request.prepare_transfer}
use Rattle.model.specs.Step.{new_object_of, duplicate_of, release_parcel_of, retire_object_of, reserve_of, trim_of, abort_of, publish_of, get_info_of, close_of, replace_of, resolve_of, scan_handles_of, prepare_transfer_of}
use Rattle.model.specs.Step.{prepare_consumption_of, rollback_of, commit_of, direct_commit_of, direct_rollback_of, remove_stopping_owner_of, teardown_start_of, teardown_step_of, teardown_finish_of, take_empty_page_of, decide, step, run, make_plan_of, use_plan_of, drop_plan_of, judge_transfer_of}
use Rattle.model.specs.Words.{read_request, read_list, used_words, padded, words_of, all_words}
use Rattle.model.proofs.Tests.{same_list_equal}
use Rattle.noninterference.specs.Runs.{wants_row, wants_id, judges_full, lowered}
use Rattle.layout.specs.declared.Shape.{Shape}
use Rattle.representation.specs.Represents.{Rep}
use Rattle.representation.specs.Unique.{shape_for}
use Rattle.create.specs.Parameters.{tables_in, objects_in, parameters_of}
use Rattle.create.specs.Creation.{create_w}
use Rattle.create.specs.Meets.{Asked, Meets as Creates, create_meets}
use Rattle.promises.specs.Terms.{Call, Calls, left, list_of}
use Rattle.promises.proofs.Demand2.{demand_2_calls, demand_2_creation}

-- ---- computing

-- a list run, with all that the checker has to open to compute it
unfoldable pub ran : State → List Request → State × List Answer
unfolding contains encode payload mask_of payload_in number_in slot_in generation_in decodes next_generation max_batch max_slots known_flags last_id place vacate take_free
    pages_for attach detach created parameters_of tables_in objects_in new_object_of duplicate_of release_parcel_of retire_object_of reserve_of trim_of abort_of publish_of get_info_of close_of replace_of resolve_of
    scan_handles_of prepare_transfer_of prepare_consumption_of rollback_of commit_of direct_commit_of direct_rollback_of remove_stopping_owner_of teardown_start_of teardown_step_of
    teardown_finish_of take_empty_page_of make_plan_of use_plan_of drop_plan_of judge_transfer_of decide step used_words words_of Rattle.noninterference.specs.Runs.permitted wants_row wants_id judges_full lowered
ran s rs = run till s rs

-- a list read
unfoldable pub read_by : List ℕ → Option (List Request)
unfolding read_list read_request musts mays field_kinds field_fits known_op contains
read_by ws = read_list ws

-- ---- creation

-- tables, frames, objects, rows; each table's pages and seed; each object's koid, kind, class, supported rights, exportable, limit
abbrev pub parameters : List ℕ
parameters = 2 ∷ 2 ∷ 2 ∷ 3 ∷ 1 ∷ 0 ∷ 1 ∷ 5 ∷ 70 ∷ 3 ∷ 0 ∷ 15 ∷ 1 ∷ 100 ∷ 71 ∷ 4 ∷ 0 ∷ 15 ∷ 1 ∷ 2 ∷ []

abbrev pub sh : Shape
sh = record { tables = 2; pages = 2; frames = 2; objects = 2; rows = 3 }

abbrev pub new : State
new = created (parameters_of parameters)

pub shape_new : shape_for new ≡ sh
unfolding shape_for created parameters_of tables_in objects_in
shape_new = refl

pub asked : (memory : List ℕ) → 2023 ≤ length memory → Asked memory parameters
unfolding permitted created parameters_of tables_in objects_in max_tables max_frames max_objects max_rows max_limit max_slots
asked memory h = record { long = omega arith; within = refl; room = rw shape_new h }

-- there is such a creation
pub made : let memory : List ℕ = replicate 2023 0 in Creates memory parameters (create_w memory parameters).result (create_w memory parameters).words
made = create_meets (replicate 2023 0) parameters (create_w (replicate 2023 0) parameters).result (create_w (replicate 2023 0) parameters).words refl

-- ---- the opening

-- the values of table 0's slots 63, 62 and 61 at generation 1
abbrev pub v63 : ℕ
v63 = 0x4800000001000040

abbrev pub v62 : ℕ
v62 = 0x480000000100003f

abbrev pub v61 : ℕ
v61 = 0x480000000100003e

-- objects 0 and 1 get their first handles, which go into the slots 63 and 62 of table 0, and a second of object 0 goes into slot 61
abbrev pub opening_words : List ℕ
opening_words =
    101 ∷ 1 ∷ 0 ∷ 15 ∷ 0
    ∷ 101 ∷ 1 ∷ 1 ∷ 15 ∷ 0
    ∷ 11 ∷ 5 ∷ 0 ∷ 2
    ∷ 137 ∷ 8 ∷ 2 ∷ 3 ∷ 129 ∷ 0 ∷ 1 ∷ 129 ∷ 0 ∷ 2
    ∷ 51 ∷ 2 ∷ 0 ∷ v63 ∷ 15
    ∷ 11 ∷ 5 ∷ 0 ∷ 1
    ∷ 137 ∷ 8 ∷ 1 ∷ 5 ∷ 129 ∷ 0 ∷ 4
    ∷ []

abbrev pub opening : List Request
opening = new_object 0 15 0 ∷ new_object 1 15 0 ∷ reserve 0 2 ∷ publish 3 (1 ∷ 2 ∷ []) ∷ duplicate 0 v63 15 ∷ reserve 0 1 ∷ publish 5 (4 ∷ []) ∷ []

pub reads_opening : read_list opening_words ≡ some opening
unfolding read_by
reads_opening = refl

abbrev pub shop : State
shop = (run till new opening).0

-- words that creation and calls have left: the opening, cut into calls anywhere
pub record Begun (ws : List ℕ) : Type 0 where
  pub memory : List ℕ
  pub room : 2023 ≤ length memory
  pub result : ℕ
  pub start : List ℕ
  pub creates : Creates memory parameters result start
  pub calls : List Call
  pub chain : Calls start calls
  pub whole : list_of calls ≡ opening_words
  pub is : left start calls ≡ ws

pub rep_new : (memory : List ℕ) → 2023 ≤ length memory → (r : ℕ) (us : List ℕ) → Creates memory parameters r us → Rep us sh new
rep_new memory h r us c = subst (λ (x : Shape). Rep us x new) shape_new (demand_2_creation memory parameters r us c (asked memory h)).state

pub rep_shop : (ws : List ℕ) → Begun ws → Rep ws sh shop
rep_shop ws g =
    subst (λ (x : List ℕ). Rep x sh shop) g.is
    (demand_2_calls sh g.start new g.calls opening (rep_new g.memory g.room g.result g.start g.creates) g.chain (ap read_list g.whole ∙ reads_opening)).state

-- ---- the two runs

-- H moves the handles of the slots 61 and 63 out, under the id 6
abbrev pub prepare_words : List ℕ
prepare_words = 4107 ∷ 14 ∷ 0 ∷ 2 ∷ 0 ∷ 49 ∷ 0 ∷ v61 ∷ 15 ∷ 49 ∷ 0 ∷ v63 ∷ 3 ∷ []

abbrev pub item : ℕ → ℕ → Item
item v r = record { operation = as_move; value = v; rights = r; offered_rights = none; offered_kind = none; expected_kind = none }

abbrev pub items : List Item
items = item v61 15 ∷ item v63 3 ∷ []

abbrev pub transfer : Request
transfer = prepare_transfer 0 buffered none none items

pub reads_prepare : read_list prepare_words ≡ some (transfer ∷ [])
unfolding read_by
reads_prepare = refl

-- the list: a reservation, a duplicate, their publication, two refusals of which the second spends an id, and a reservation
abbrev pub list_words : List ℕ
list_words =
    11 ∷ 5 ∷ 1 ∷ 1
    ∷ 51 ∷ 2 ∷ 0 ∷ v62 ∷ 1
    ∷ 137 ∷ 8 ∷ 1 ∷ 7 ∷ 129 ∷ 0 ∷ 8
    ∷ 11 ∷ 5 ∷ 0 ∷ 0
    ∷ 4107 ∷ 14 ∷ 1 ∷ 1 ∷ 0 ∷ 49 ∷ 0 ∷ 9 ∷ 15
    ∷ 11 ∷ 5 ∷ 1 ∷ 1
    ∷ []

-- the same for P: the ids 7 and 8 are one lower, and neither the value 9 nor the rights 15 are an id
abbrev pub plain_words : List ℕ
plain_words =
    11 ∷ 5 ∷ 1 ∷ 1
    ∷ 51 ∷ 2 ∷ 0 ∷ v62 ∷ 1
    ∷ 137 ∷ 8 ∷ 1 ∷ 6 ∷ 129 ∷ 0 ∷ 7
    ∷ 11 ∷ 5 ∷ 0 ∷ 0
    ∷ 4107 ∷ 14 ∷ 1 ∷ 1 ∷ 0 ∷ 49 ∷ 0 ∷ 9 ∷ 15
    ∷ 11 ∷ 5 ∷ 1 ∷ 1
    ∷ []

-- no value of table 1
abbrev pub wrong : Request
wrong = prepare_transfer 1 buffered none none (item 9 15 ∷ [])

abbrev pub list : List Request
list = reserve 1 1 ∷ duplicate 0 v62 1 ∷ publish 7 (8 ∷ []) ∷ reserve 0 0 ∷ wrong ∷ reserve 1 1 ∷ []

pub reads_list : read_list list_words ≡ some list
unfolding read_by
reads_list = refl

-- H's answers to the list, by the steps, and P's as they should be: the ids 7, 8 and 10 are 6, 7 and 9
abbrev pub held_answers : List ℕ
held_answers = padded 72 (0 ∷ 7 ∷ 1 ∷ 0x4800000001000045 ∷ []) ++ (padded 72 (0 ∷ 8 ∷ []) ++ (padded 72 [] ++ (padded 72 (17 ∷ []) ++ (padded 72 (2 ∷ []) ++ padded 72 (0 ∷ 10 ∷ 1 ∷ 0x480000000100003a ∷ [])))))

abbrev pub plain_answers : List ℕ
plain_answers = padded 72 (0 ∷ 6 ∷ 1 ∷ 0x4800000001000045 ∷ []) ++ (padded 72 (0 ∷ 7 ∷ []) ++ (padded 72 [] ++ (padded 72 (17 ∷ []) ++ (padded 72 (2 ∷ []) ++ padded 72 (0 ∷ 9 ∷ 1 ∷ 0x480000000100003a ∷ [])))))

pub held_answers_law : all_words (run till shop (transfer ∷ list)).1 ≡ padded 72 (0 ∷ 6 ∷ []) ++ held_answers
unfolding ran
held_answers_law = same_list_equal (all_words (run till shop (transfer ∷ list)).1) (padded 72 (0 ∷ 6 ∷ []) ++ held_answers) refl

-- the two refusals alone
abbrev pub refused_words : List ℕ
refused_words = 11 ∷ 5 ∷ 0 ∷ 0 ∷ 4107 ∷ 14 ∷ 1 ∷ 1 ∷ 0 ∷ 49 ∷ 0 ∷ 9 ∷ 15 ∷ []

pub reads_refused : read_list refused_words ≡ some (reserve 0 0 ∷ wrong ∷ [])
unfolding read_by
reads_refused = refl
