-- The requests of document 01 and their answers; and those of document 02.
use Rattle.std.specs.Prelude.{List, ℕ}
use Rattle.std.proofs.Math.Option.{Option}

-- "Routes: 0 Buffered, 1 Rendezvous, 2 StagedStartup"
pub data Route : Type 0 where
  buffered : Route
  rendezvous : Route
  staged_startup : Route

-- "operations: 0 Move, 1 Copy"
pub data Operation : Type 0 where
  as_move : Operation
  as_copy : Operation

-- an item of a transfer. "absent rights mean the source's, any other absence means no test"
pub record Item : Type 0 where
  pub operation : Operation
  pub value : ℕ
  pub rights : ℕ
  pub offered_rights : Option ℕ
  pub offered_kind : Option ℕ
  pub expected_kind : Option ℕ

-- where a transfer's checks stop: the number, "the position from 0 of the item where preparation stops (64 where no item is at fault), and the rule's place in
-- the printed order" (document 02, 4)
pub record Fault : Type 0 where
  pub number : ℕ
  pub position : ℕ
  pub place : ℕ

-- a request with its fields by the names of docs/formats.md, not always in its order; items stand as a list, without their count
pub data Request : Type 0 where
  new_object : (object rights flags : ℕ) → Request
  duplicate : (table value rights : ℕ) → Request
  release_parcel : (id : ℕ) → Request
  retire_object : (object : ℕ) → Request
  reserve : (table count : ℕ) → Request
  trim : (id count : ℕ) → Request
  abort : (id : ℕ) → Request
  publish : (id : ℕ) → (parcels : List ℕ) → Request
  get_info : (table value : ℕ) → Request
  resolve : (table value rights kind : ℕ) → Request
  replace : (table value rights : ℕ) → Request
  close : (table value : ℕ) → Request
  scan_handles : (table cursor : ℕ) → Request
  prepare_transfer : (table : ℕ) → Route → (forbidden_object forbidden_kind : Option ℕ) → List Item → Request
  prepare_consumption : (table value rights kind koid : ℕ) → Request
  rollback : (id : ℕ) → Request
  commit : (id : ℕ) → Request
  direct_commit : (id destination : ℕ) → Request
  direct_rollback : (id destination : ℕ) → Request
  remove_stopping_owner : (table cursor : ℕ) → Request
  teardown_start : (table : ℕ) → Request
  teardown_step : (table : ℕ) → Request
  teardown_finish : (table : ℕ) → Request
  take_empty_page : (table : ℕ) → Request
  make_plan : (table count : ℕ) → Request
  use_plan : (id : ℕ) → Request
  drop_plan : (id : ℕ) → Request
  judge_transfer : (table : ℕ) → Route → (forbidden_object forbidden_kind : Option ℕ) → List Item → Request

-- mod.rs `HandleInfo`
pub record Info : Type 0 where
  pub koid : ℕ
  pub kind : ℕ
  pub rights : ℕ
  pub flags : ℕ

-- mod.rs `HandleSnapshot`
pub record Snapshot : Type 0 where
  pub value : ℕ
  pub info : Info

-- "A snapshot page holds 8 entries, a length and an optional next cursor. We add `examined`"
pub record SnapshotPage : Type 0 where
  pub entries : List Snapshot
  pub next : Option ℕ
  pub examined : ℕ

-- `closed` is a teardown step's, `info_of` that of `get_info` and of closing, `batch` that of a reservation and of a plan that is used. `judged` says where the
-- preparation of a transfer would stop, or that it "would be accepted" (document 02, 4)
pub data Answer : Type 0 where
  refused : (number : ℕ) → Answer
  done : Answer
  opened : (id : ℕ) → Answer
  batch : (id : ℕ) → (values : List ℕ) → Answer
  info_of : Info → Answer
  resolved : (object koid rights : ℕ) → Answer
  renewed : (value : ℕ) → Answer
  scanned : SnapshotPage → Answer
  removed : Option Snapshot → (cursor : ℕ) → Answer
  closed : Option Info → Answer
  taken : (page : Option ℕ) → Answer
  planned : (id count frames : ℕ) → Answer
  judged : Option Fault → Answer
