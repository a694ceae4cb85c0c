-- Orders and effects of the requests, line by line: what the tables of Cases do not have.
use Rattle.std.specs.Prelude.{◌≡◌, refl, List, [], ◌∷◌, ◌++◌, map, ℕ, zero, suc, ◌+◌, length, take}
use Rattle.std.proofs.Math.Option.{none, some}
use Rattle.authority.specs.Rights.{contains}
use Rattle.codec.specs.Codec.{encode, payload, decodes, payload_in, number_in, slot_in, generation_in, next_generation, mask_of}
use Rattle.model.specs.Base.{bit, put, nth, range}
use Rattle.model.specs.State.{till, Slot.absent, Table, Object, State, Lifecycle.active, Lifecycle.tearing_down, Lifecycle.retired, max_tables, max_frames, max_objects, max_rows, max_batch, max_slots, max_limit, known_flags, last_id}
use Rattle.model.specs.Storage.{place, vacate, take_free, pages_for, attach, detach}
use Rattle.model.specs.Request.{Route.buffered, Route.staged_startup, Operation.as_move, Operation.as_copy}
use Rattle.model.specs.Request.{Request, Request.new_object, Request.duplicate, Request.release_parcel, Request.retire_object, Request.reserve, Request.abort, Request.publish, Request.get_info, Request.resolve, Request.replace, Request.close, Request.scan_handles, Request.prepare_transfer, Request.prepare_consumption, Request.commit, Request.direct_rollback, Request.remove_stopping_owner, Request.teardown_start, Request.teardown_step, Request.teardown_finish, Request.take_empty_page}
use Rattle.model.specs.Change.{with_table, with_life, with_objects}
use Rattle.model.specs.Step.{decide, step, new_object_of, duplicate_of, release_parcel_of, retire_object_of, reserve_of, trim_of, abort_of, publish_of, get_info_of, resolve_of, replace_of, close_of, scan_handles_of, prepare_transfer_of, prepare_consumption_of, rollback_of, commit_of, direct_commit_of, direct_rollback_of, remove_stopping_owner_of, teardown_start_of, teardown_step_of, teardown_finish_of, take_empty_page_of}
use Rattle.model.specs.Create.{TableParameters, permitted, max_pages}
use Rattle.model.specs.Words.{used_words}
use Rattle.model.proofs.Cases.{Case, ◌is◌, line, fresh, holding, with0, end, last, numbers, places_of, places, scan, first, v63, item, transfer, at0, orders, last_ids, count_of, three, cursor_in, down, object_with}

-- a detached last page before another one
abbrev pub sparse : Table
sparse = record { limit = 262144; mask = 0; life = active; epoch = 0; size = 262144; pages = λ p. record { frame = none; high = 1 }; slots = λ k. absent; free = []; empty = []; detached = 262143 ∷ 7 ∷ [] }

abbrev room_for_one : State → State
room_for_one s = with_objects s (put s.objects 0 (let x : Object = s.objects 0 in record { koid = x.koid; kind = x.kind; class = x.class; supported = x.supported; exportable = x.exportable; limit = x.count + 1; stage = x.stage; count = x.count }))

abbrev eight : List Request
eight = map (λ k. reserve 0 1) (range 0 8)

-- whether creation permits so many tables of so many pages each, frames and rows; and one object of these parameters
abbrev tables_of : ℕ → ℕ → List TableParameters
tables_of zero pages = []
tables_of (suc n) pages = record { pages = pages; seed = 0 } ∷ tables_of n pages

abbrev permits1 : ℕ → ℕ → ℕ → ℕ → ℕ
permits1 tables pages frames rows = bit (permitted till (record { tables = tables_of tables pages; frames = frames; rows = rows; objects = object_with 1 0 0 0 0 0 ∷ [] }))

abbrev permits2 : ℕ → ℕ → ℕ → ℕ → ℕ → ℕ
permits2 koid kind class exportable limit = bit (permitted till (record { tables = tables_of 1 1; frames = 0; rows = 1; objects = object_with koid kind class 0 exportable limit ∷ [] }))

pub effects : List Case
unfolding fresh permitted encode payload decodes payload_in number_in slot_in generation_in mask_of next_generation contains max_tables max_frames max_objects max_rows max_limit max_batch max_slots known_flags last_id
    place vacate take_free pages_for attach detach decide step used_words
    new_object_of duplicate_of release_parcel_of retire_object_of reserve_of trim_of abort_of publish_of get_info_of resolve_of replace_of close_of scan_handles_of
    prepare_transfer_of prepare_consumption_of rollback_of commit_of direct_commit_of direct_rollback_of remove_stopping_owner_of teardown_start_of teardown_step_of
    teardown_finish_of take_empty_page_of
effects =
    -- 16 comes before every other check
    numbers (end fresh (first ++ (teardown_start 0 ∷ []))) (reserve 0 0 ∷ reserve 0 65 ∷ transfer [] ∷ transfer (item as_move v63 0 ∷ []) ∷ duplicate 0 v63 1 ∷ prepare_consumption 0 v63 15 3 70 ∷ replace 0 v63 1 ∷ close 0 v63 ∷ resolve 0 v63 15 3 ∷ []) is (16 ∷ 16 ∷ 16 ∷ 16 ∷ 16 ∷ 16 ∷ 16 ∷ 16 ∷ 16 ∷ [])
    -- 65 items give 13; 64 items of one value give 2 (twice)
    ∷ numbers (end fresh first) (transfer (map (λ k. item as_move v63 0) (range 0 65)) ∷ transfer (map (λ k. item as_move v63 0) (range 0 64)) ∷ []) is (13 ∷ 2 ∷ [])
    -- no free row: 1 after 16, 17 and 13, and before 6, 2 and 5
    ∷ numbers (end fresh (first ++ eight)) (new_object 6 4 4 ∷ new_object 9 0 0 ∷ duplicate 0 0 0 ∷ prepare_consumption 0 0 0 0 1 ∷ transfer (item as_move 0 0 ∷ []) ∷ transfer [] ∷ reserve 0 65 ∷ reserve 0 1 ∷ get_info 0 v63 ∷ []) is (1 ∷ 18 ∷ 1 ∷ 1 ∷ 1 ∷ 17 ∷ 13 ∷ 1 ∷ 0 ∷ [])
    -- 12 is the last check of a duplicate and a consumption
    ∷ numbers (last_ids (end fresh first)) (duplicate 0 v63 1 ∷ prepare_consumption 0 v63 15 3 70 ∷ prepare_consumption 0 v63 15 3 9 ∷ retire_object 0 ∷ duplicate 0 v63 1 ∷ []) is (12 ∷ 12 ∷ 2 ∷ 0 ∷ 9 ∷ [])
    -- 1 before 12
    ∷ numbers (last_ids (end fresh (first ++ eight))) (reserve 0 1 ∷ transfer (item as_move v63 0 ∷ []) ∷ []) is (1 ∷ 1 ∷ [])
    -- `replace`: 5 after the lookup
    ∷ numbers (end fresh first) (replace 0 v63 16 ∷ replace 0 0 16 ∷ get_info 0 v63 ∷ []) is (5 ∷ 2 ∷ 0 ∷ [])
    -- 15 before 1 for want of frames
    ∷ numbers fresh (reserve 0 64 ∷ reserve 0 64 ∷ reserve 0 64 ∷ reserve 0 64 ∷ reserve 0 1 ∷ reserve 1 1 ∷ []) is (0 ∷ 0 ∷ 0 ∷ 0 ∷ 15 ∷ 1 ∷ [])
    -- 1 for want of frames before 12
    ∷ numbers (last_ids (end fresh (reserve 0 64 ∷ reserve 0 64 ∷ reserve 0 64 ∷ reserve 0 64 ∷ []))) (reserve 1 1 ∷ []) is (1 ∷ [])
    -- flags and rights of a handle are kept
    ∷ last fresh (new_object 0 15 3 ∷ reserve 0 1 ∷ publish 2 (1 ∷ []) ∷ replace 0 v63 7 ∷ get_info 0 (at0 63 2) ∷ []) is (0 ∷ 70 ∷ 3 ∷ 7 ∷ 3 ∷ [])
    -- a copy has the rights asked for
    ∷ last (end fresh first) (transfer (item as_copy v63 1 ∷ []) ∷ commit 3 ∷ reserve 1 1 ∷ publish 4 (3 ∷ []) ∷ get_info 1 (encode 5 63 1) ∷ []) is (0 ∷ 70 ∷ 3 ∷ 1 ∷ 0 ∷ [])
    -- routes and classes: Never on every route, RendezvousOnly on all but Buffered; 5 (object) before 8 (route)
    ∷ numbers fresh (new_object 3 3 0 ∷ new_object 5 3 0 ∷ reserve 0 2 ∷ publish 3 (1 ∷ 2 ∷ []) ∷ prepare_transfer 0 staged_startup none none (item as_move (at0 62 1) 0 ∷ []) ∷ prepare_transfer 0 buffered none none (item as_move (at0 62 1) 0 ∷ []) ∷ prepare_transfer 0 buffered (some 73) none (item as_move v63 0 ∷ []) ∷ prepare_transfer 0 staged_startup none none (item as_move v63 0 ∷ []) ∷ []) is (0 ∷ 0 ∷ 0 ∷ 0 ∷ 8 ∷ 8 ∷ 5 ∷ 0 ∷ [])
    -- a released parcel releases its counts
    ∷ count_of (end fresh (first ++ (duplicate 0 v63 1 ∷ release_parcel 3 ∷ []))) 0 is (1 ∷ [])
    ∷ numbers fresh (new_object 0 3 0 ∷ release_parcel 1 ∷ new_object 0 3 0 ∷ []) is (0 ∷ 0 ∷ 9 ∷ [])
    -- a direct rollback releases its copies
    ∷ count_of (end fresh (three ++ (transfer (item as_copy (at0 62 1) 1 ∷ []) ∷ reserve 1 1 ∷ direct_rollback 6 7 ∷ []))) 0 is (3 ∷ [])
    -- a consumption keeps the rights of the handle
    ∷ last (end fresh first) (prepare_consumption 0 v63 4 3 70 ∷ commit 3 ∷ reserve 1 1 ∷ publish 4 (3 ∷ []) ∷ get_info 1 (encode 5 63 1) ∷ []) is (0 ∷ 70 ∷ 3 ∷ 15 ∷ 0 ∷ [])
    -- a stopping owner's and a teardown's removals release counts
    ∷ count_of (end fresh (three ++ (remove_stopping_owner 0 0 ∷ []))) 0 is (2 ∷ [])
    ∷ count_of (end fresh (three ++ (teardown_start 0 ∷ teardown_step 0 ∷ []))) 0 is (2 ∷ [])
    -- a page taken advances the epoch and keeps the mark
    ∷ take 2 (orders (end fresh (reserve 0 1 ∷ abort 1 ∷ take_empty_page 0 ∷ []))) is (2 ∷ 2 ∷ [])
    -- the detached page that came last is attached first
    ∷ places fresh (reserve 0 64 ∷ reserve 0 64 ∷ abort 1 ∷ abort 2 ∷ take_empty_page 0 ∷ take_empty_page 0 ∷ reserve 0 1 ∷ []) is (63 ∷ 3 ∷ [])
    -- growth by two pages, one of them page 262,143 with 63 slots: the epoch advances once, the second page's slots stand first, lowest frames first
    ∷ places (with0 sparse) (reserve 0 64 ∷ []) is places_of 0 (map (λ k. at0 k 2) (down 511 64))
    ∷ (let s : State = end (with0 sparse) (reserve 0 64 ∷ []) in let t : Table = s.tables 0 in t.epoch ∷ length t.free ∷ (take 2 t.free ++ (t.empty ++ s.frames))) is (1 ∷ 63 ∷ 16777214 ∷ 16777213 ∷ 262143 ∷ 2 ∷ 3 ∷ [])
    -- "a commit moves them as closing the moved slots in the transfer's order would"
    ∷ orders (end fresh (three ++ (transfer (item as_move (at0 61 1) 0 ∷ item as_move v63 0 ∷ item as_move (at0 62 1) 0 ∷ []) ∷ commit 6 ∷ []))) is orders (end fresh (three ++ (close 0 (at0 61 1) ∷ close 0 v63 ∷ close 0 (at0 62 1) ∷ [])))
    -- an owner's retirement keeps the count
    ∷ count_of (end fresh (first ++ (retire_object 0 ∷ []))) 0 is (1 ∷ [])
    -- `resolve` answers the handle's rights, not those asked for
    ∷ last (end fresh first) (resolve 0 v63 1 3 ∷ []) is (0 ∷ 0 ∷ 70 ∷ 15 ∷ [])
    -- a published parcel is gone
    ∷ numbers (end fresh first) (release_parcel 1 ∷ []) is (18 ∷ [])
    -- an inactive table gives no page
    ∷ last fresh (reserve 0 1 ∷ abort 1 ∷ teardown_start 0 ∷ take_empty_page 0 ∷ []) is (0 ∷ 0 ∷ [])
    -- 5 (rights) before 8 (kind); twice before all else
    ∷ numbers (end fresh first) (prepare_transfer 0 buffered none (some 3) (item as_move v63 16 ∷ []) ∷ transfer (item as_copy v63 3 ∷ item as_move v63 16 ∷ []) ∷ []) is (5 ∷ 2 ∷ [])
    -- retired before the limit, in a duplicate, a copy and an activation; not exportable before retired
    ∷ numbers fresh (new_object 1 3 0 ∷ reserve 0 1 ∷ publish 2 (1 ∷ []) ∷ duplicate 0 v63 1 ∷ retire_object 1 ∷ duplicate 0 v63 1 ∷ transfer (item as_copy v63 0 ∷ []) ∷ retire_object 2 ∷ new_object 2 3 0 ∷ retire_object 4 ∷ new_object 4 3 0 ∷ []) is (0 ∷ 0 ∷ 0 ∷ 0 ∷ 0 ∷ 9 ∷ 9 ∷ 0 ∷ 6 ∷ 0 ∷ 9 ∷ [])
    -- "Limits" of document 01
    ∷ (max_tables ∷ max_frames ∷ max_objects ∷ max_rows ∷ max_batch ∷ max_limit ∷ max_pages till ∷ []) is (16 ∷ 65535 ∷ 4096 ∷ 256 ∷ 64 ∷ 4294967295 ∷ 262144 ∷ [])
    -- finish looks at all slots, also at those below the cursor
    ∷ numbers (with_table (end fresh first) 0 (with_life ((end fresh first).tables 0) (tearing_down 64))) (teardown_step 0 ∷ teardown_finish 0 ∷ []) is (0 ∷ 18 ∷ [])
    -- frames given back out of order are given out lowest first
    ∷ (end fresh (reserve 0 1 ∷ reserve 1 1 ∷ abort 1 ∷ take_empty_page 0 ∷ abort 2 ∷ take_empty_page 1 ∷ [])).frames is (0 ∷ 1 ∷ 2 ∷ 3 ∷ [])
    -- a teardown's cursor stands past the slot that it removed
    ∷ (let s : State = end fresh (three ++ (teardown_start 0 ∷ teardown_step 0 ∷ [])) in cursor_in (s.tables 0).life) is (62 ∷ [])
    -- the length of a table of 262,144 pages is 16,777,215
    ∷ scan (with0 sparse) (scan_handles 0 16777200 ∷ []) is (0 ∷ 0 ∷ 0 ∷ 15 ∷ [])
    -- 15 before 1 for want of a row
    ∷ numbers fresh (new_object 0 3 0 ∷ new_object 1 3 0 ∷ new_object 3 3 0 ∷ new_object 6 3 0 ∷ reserve 0 64 ∷ reserve 0 64 ∷ reserve 0 64 ∷ reserve 0 64 ∷ reserve 0 1 ∷ reserve 1 1 ∷ []) is (0 ∷ 0 ∷ 0 ∷ 0 ∷ 0 ∷ 0 ∷ 0 ∷ 0 ∷ 15 ∷ 1 ∷ [])
    -- copies of one transfer count each other
    ∷ numbers (room_for_one (end fresh three)) (transfer (item as_copy v63 1 ∷ item as_copy (at0 62 1) 1 ∷ []) ∷ transfer (item as_copy v63 1 ∷ []) ∷ []) is (11 ∷ 0 ∷ [])
    -- rows stand by rising id
    ∷ map (λ r. r.id) (end fresh (reserve 0 1 ∷ reserve 0 1 ∷ abort 1 ∷ reserve 0 1 ∷ [])).book.rows is (2 ∷ 3 ∷ [])
    -- a teardown begins at slot 0
    ∷ cursor_in ((end (holding 1 64 9 []) (teardown_start 0 ∷ teardown_step 0 ∷ [])).tables 0).life is (1 ∷ [])
    -- "Limits", at each end and one past it
    ∷ (permits1 1 4 4 8 ∷ permits1 0 4 4 8 ∷ permits1 16 1 0 1 ∷ permits1 17 1 0 1 ∷ []) is (1 ∷ 0 ∷ 1 ∷ 0 ∷ [])
    ∷ (permits1 1 262144 65535 256 ∷ permits1 1 262145 4 8 ∷ permits1 1 0 4 8 ∷ permits1 1 4 65536 8 ∷ permits1 1 4 4 0 ∷ permits1 1 4 4 257 ∷ []) is (1 ∷ 0 ∷ 0 ∷ 0 ∷ 0 ∷ 0 ∷ [])
    ∷ (permits2 1 0 0 0 0 ∷ permits2 0 0 0 0 0 ∷ permits2 1 4294967295 2 1 4294967295 ∷ permits2 1 4294967296 0 0 0 ∷ permits2 1 0 3 0 0 ∷ permits2 1 0 0 2 0 ∷ permits2 1 0 0 0 4294967296 ∷ []) is (1 ∷ 0 ∷ 1 ∷ 0 ∷ 0 ∷ 0 ∷ 0 ∷ [])
    ∷ []

pub effects_hold : (k : ℕ) (c : Case) → nth effects k ≡ some c → c.given ≡ c.said
unfolding effects
effects_hold = line effects refl
