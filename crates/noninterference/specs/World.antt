-- A small state to run lists from, and states and answers in numbers, which the checker compares by computing.
use Rattle.std.specs.Prelude.{List, [], ◌∷◌, ◌++◌, map, ℕ, ◌*◌, get_or, length}
use Rattle.authority.specs.Rights.{contains}
use Rattle.codec.specs.Codec.{encode, payload, mask_of, payload_in, number_in, slot_in, generation_in, decodes, next_generation}
use Rattle.model.specs.Base.{range, bit, is_some, or_else}
use Rattle.model.specs.State.{Handle, Slot.absent, Slot.vacant, Slot.reserved, Slot.transfer_reserved, Slot.occupied, Lifecycle.active, Lifecycle.tearing_down, Lifecycle.retired, Class, Class.leaf, Class.rendezvous_only, Class.never, Stage, Stage.still_new, Stage.now_active, Stage.now_retired}
use Rattle.model.specs.State.{Entry, Entry.moved, Entry.copied, Body, Body.reservation, Body.claim, Body.parcel, Body.plan, StorageSnapshot, Row}
use Rattle.model.specs.State.{Sizes, Slot, Page, Lifecycle, Table, Object, State, max_batch, max_slots, known_flags, last_id}
use Rattle.model.specs.Storage.{place, vacate, take_free, pages_for, attach, detach}
use Rattle.model.specs.Create.{Parameters, created}
use Rattle.model.specs.Request.{Request, Request.new_object, Request.duplicate, Request.reserve, Request.publish}
use Rattle.model.specs.Request.{Answer}
use Rattle.model.specs.Step.{new_object_of, duplicate_of, release_parcel_of, retire_object_of, reserve_of, trim_of, abort_of, publish_of, get_info_of, close_of, replace_of, resolve_of, scan_handles_of, prepare_transfer_of}
use Rattle.model.specs.Step.{prepare_consumption_of, rollback_of, commit_of, direct_commit_of, direct_rollback_of, remove_stopping_owner_of, teardown_start_of, teardown_step_of, teardown_finish_of, take_empty_page_of, make_plan_of, use_plan_of, drop_plan_of, judge_transfer_of, decide, step, run}
use Rattle.model.specs.Words.{used_words}
use Rattle.noninterference.specs.Runs.{permitted, wants_row, wants_id, judges_full, lowered}

-- pages of 4 slots, scans of at most 2 entries or 8 slots
abbrev pub little : Sizes
little = record { page_slots = 4; scan_entries = 2; scan_slots = 8 }

-- a list run, with all that the checker has to open to compute it
unfoldable pub ran : State → List Request → State × List Answer
unfolding contains encode payload mask_of payload_in number_in slot_in generation_in decodes next_generation max_batch
    max_slots known_flags last_id place vacate take_free pages_for attach detach created new_object_of duplicate_of release_parcel_of retire_object_of reserve_of
    trim_of abort_of publish_of get_info_of close_of replace_of resolve_of scan_handles_of prepare_transfer_of prepare_consumption_of rollback_of commit_of
    direct_commit_of direct_rollback_of remove_stopping_owner_of teardown_start_of teardown_step_of teardown_finish_of take_empty_page_of make_plan_of use_plan_of drop_plan_of judge_transfer_of
    decide step used_words permitted wants_row wants_id judges_full lowered
ran s rs = run little s rs

-- an answer's number, the first of its words
abbrev pub number_of : Answer → ℕ
number_of a = get_or (used_words a) 0 0

abbrev pub numbers : List Answer → List ℕ
numbers l = map number_of l

-- a state in numbers: every field in use, each list with its length before it
abbrev pub each : {A : Type 0} → (A → List ℕ) → List A → List ℕ
each f [] = []
each f (x ∷ xs) = f x ++ each f xs

abbrev pub counted : {A : Type 0} → (A → List ℕ) → List A → List ℕ
counted f xs = length xs ∷ each f xs

abbrev pub one : ℕ → List ℕ
one n = n ∷ []

abbrev pub handle_numbers : Handle → List ℕ
handle_numbers h = h.object ∷ h.rights ∷ h.flags ∷ []

abbrev pub slot_numbers : Slot → List ℕ
slot_numbers absent = 0 ∷ []
slot_numbers (vacant g) = 1 ∷ g ∷ []
slot_numbers (reserved g i) = 2 ∷ g ∷ i ∷ []
slot_numbers (transfer_reserved g i) = 3 ∷ g ∷ i ∷ []
slot_numbers (occupied g h) = 4 ∷ g ∷ handle_numbers h

abbrev pub page_numbers : Page → List ℕ
page_numbers p = bit (is_some p.frame) ∷ or_else p.frame 0 ∷ p.high ∷ []

abbrev pub life_numbers : Lifecycle → List ℕ
life_numbers active = 0 ∷ []
life_numbers (tearing_down c) = 1 ∷ c ∷ []
life_numbers retired = 2 ∷ []

abbrev pub table_numbers : Table → List ℕ
table_numbers x =
    x.limit ∷ x.mask ∷ x.epoch ∷ x.size ∷ life_numbers x.life
    ++ counted page_numbers (map x.pages (range 0 x.limit))
    ++ counted slot_numbers (map x.slots (range 0 (x.limit * little.page_slots)))
    ++ counted one x.free
    ++ counted one x.empty
    ++ counted one x.detached

abbrev pub tables_numbers : State → List ℕ
tables_numbers s = counted table_numbers (map s.tables (range 0 s.table_count))

abbrev pub stage_number : Stage → ℕ
stage_number still_new = 0
stage_number now_active = 1
stage_number now_retired = 2

abbrev pub class_number : Class → ℕ
class_number leaf = 0
class_number rendezvous_only = 1
class_number never = 2

abbrev pub object_numbers : Object → List ℕ
object_numbers x = x.koid ∷ x.kind ∷ class_number x.class ∷ x.supported ∷ bit x.exportable ∷ x.limit ∷ stage_number x.stage ∷ x.count ∷ []

abbrev pub entry_numbers : Entry → List ℕ
entry_numbers (moved k h r) = 0 ∷ k ∷ r ∷ handle_numbers h
entry_numbers (copied h) = 1 ∷ handle_numbers h

abbrev pub snapshot_numbers : StorageSnapshot → List ℕ
snapshot_numbers w = w.epoch ∷ w.free_slots ∷ counted one w.pages

abbrev pub body_numbers : Body → List ℕ
body_numbers (reservation b ks) = 0 ∷ b ∷ counted one ks
body_numbers (claim b es) = 1 ∷ b ∷ counted entry_numbers es
body_numbers (parcel hs) = 2 ∷ counted handle_numbers hs
body_numbers (plan b n w fs) = 3 ∷ b ∷ n ∷ snapshot_numbers w ++ counted one fs

abbrev pub row_numbers : Row → List ℕ
row_numbers r = r.id ∷ body_numbers r.body

abbrev pub state_numbers : State → List ℕ
state_numbers s =
    tables_numbers s
    ++ counted object_numbers (map s.objects (range 0 s.object_count))
    ++ s.frame_count ∷ counted one s.frames
    ++ s.book.capacity ∷ s.book.next ∷ counted row_numbers s.book.rows

-- answers in numbers: the words in use
abbrev pub answer_numbers : List Answer → List ℕ
answer_numbers l = counted (λ a. counted one (used_words a)) l

-- three tables, four objects, three frames, six rows
abbrev pub parameters : Parameters
parameters = record {
  tables = record { pages = 2; seed = 0 } ∷ record { pages = 3; seed = 0x1234567 } ∷ record { pages = 1; seed = 9 } ∷ [];
  frames = 3;
  rows = 6;
  objects =
      record { koid = 100; kind = 1; class = 0; supported = 7; exportable = 1; limit = 5 }
      ∷ record { koid = 101; kind = 2; class = 0; supported = 3; exportable = 1; limit = 9 }
      ∷ record { koid = 102; kind = 1; class = 1; supported = 3; exportable = 1; limit = 2 }
      ∷ record { koid = 103; kind = 3; class = 0; supported = 3; exportable = 1; limit = 0 }
      ∷ [];
}

-- the value of a slot of table 0 and of table 1, with its generation
abbrev pub v0 : ℕ → ℕ → ℕ
v0 k g = encode 0 k g

abbrev pub v1 : ℕ → ℕ → ℕ
v1 k g = encode 0x1234567 k g

-- table 0 gets the objects 0, 1 and 2 in the slots 3, 2 and 1, table 1 a second handle of object 0 in its slot 3
abbrev pub opening : List Request
opening =
    new_object 0 7 0
    ∷ new_object 1 3 1
    ∷ new_object 2 3 0
    ∷ reserve 0 3
    ∷ publish 4 (1 ∷ 2 ∷ 3 ∷ [])
    ∷ duplicate 0 (v0 3 1) 7
    ∷ reserve 1 1
    ∷ publish 6 (5 ∷ [])
    ∷ []

abbrev pub shop : State
shop = (ran (created parameters) opening).0
