-- Document 02, 4, "Which check refused the transfer": lines for each place, for the order of the places, and for each of its sentences that a run can show. The state is mostly that
-- of three handles of object 0 (koid 70, kind 3) in table 0: rights 15 in slot 63, 7 in 62, 3 in 61.
use Rattle.std.specs.Prelude.{◌≡◌, refl, List, [], ◌∷◌, map, ℕ}
use Rattle.std.proofs.Math.Option.{none, some}
use Rattle.authority.specs.Rights.{contains}
use Rattle.codec.specs.Codec.{encode, payload, decodes, payload_in, number_in, slot_in, generation_in, next_generation, mask_of}
use Rattle.model.specs.Base.{nth, range}
use Rattle.model.specs.State.{State, max_batch, max_slots, known_flags, last_id}
use Rattle.model.specs.Storage.{place, vacate, take_free, pages_for, attach, detach}
use Rattle.model.specs.Request.{Route.buffered, Route.rendezvous, Operation.as_move, Operation.as_copy, Item}
use Rattle.model.specs.Request.{Request, Request.new_object, Request.duplicate, Request.retire_object, Request.reserve, Request.publish, Request.get_info, Request.replace, Request.rollback, Request.teardown_start, Request.judge_transfer}
use Rattle.model.specs.Create.{created}
use Rattle.model.specs.Step.{decide, step, new_object_of, duplicate_of, retire_object_of, reserve_of, publish_of, get_info_of, replace_of, prepare_transfer_of, rollback_of, teardown_start_of, judge_transfer_of}
use Rattle.model.specs.Words.{used_words}
use Rattle.model.proofs.Cases.{Case, ◌is◌, line, object_with, fresh, end, last, numbers, three, v63, at0, item, offered, of_kinds, transfer, orders, next_id, last_ids, count_of}

abbrev judge : List Item → Request
judge qs = judge_transfer 0 rendezvous none none qs

abbrev v62 : ℕ
v62 = at0 62 1

abbrev v61 : ℕ
v61 = at0 61 1

abbrev state : State
state = end fresh three

-- a number, a position and a place
abbrev stops : ℕ → ℕ → ℕ → List ℕ
stops n j p = 0 ∷ n ∷ j ∷ p ∷ []

abbrev passes : List ℕ
passes = stops 0 0 0

-- n items
abbrev many : ℕ → List Item
many n = map (λ k. item as_move k 0) (range 0 n)

-- all eight rows in use
abbrev full : State
full = end fresh (map (λ k. reserve 1 1) (range 0 8))

-- three handles of one object whose limit is 4, in the slots 63, 62 and 61
abbrev few : State
few = end (created (record { tables = record { pages = 4; seed = 0 } ∷ record { pages = 4; seed = 5 } ∷ []; frames = 4; rows = 8; objects = object_with 70 3 0 15 1 4 ∷ [] })) three

-- handles of object 3 (RendezvousOnly, koid 73, kind 6) and of object 5 (Never, koid 75, kind 8) in the slots 63 and 62
abbrev classes : State
classes = end fresh (new_object 3 15 0 ∷ new_object 5 15 0 ∷ reserve 0 2 ∷ publish 3 (1 ∷ 2 ∷ []) ∷ [])

-- handles of object 1 (limit 2, of which one lies in a parcel) and of object 0, in the slots 63 and 62
abbrev limited : State
limited = end fresh (new_object 1 15 0 ∷ new_object 0 15 0 ∷ reserve 0 2 ∷ publish 3 (1 ∷ 2 ∷ []) ∷ duplicate 0 v63 3 ∷ [])

pub judgings : List Case
unfolding fresh encode payload decodes payload_in number_in slot_in generation_in mask_of next_generation contains max_batch max_slots known_flags last_id
    place vacate take_free pages_for attach detach created decide step used_words
    new_object_of duplicate_of retire_object_of reserve_of publish_of get_info_of replace_of prepare_transfer_of rollback_of teardown_start_of judge_transfer_of
judgings =
    -- "would be accepted": moves, copies, and both
    last state (judge (item as_move v63 3 ∷ []) ∷ []) is passes
    ∷ last state (judge (item as_copy v62 1 ∷ item as_move v61 3 ∷ item as_copy v63 15 ∷ []) ∷ []) is passes
    -- 1 to 5, where "no item is at fault": TableRetired, EmptyReservation, ReservationTooLarge, no free row, no id left
    ∷ last fresh (teardown_start 0 ∷ judge [] ∷ []) is stops 16 64 1
    ∷ last fresh (judge [] ∷ []) is stops 17 64 2
    ∷ last fresh (judge (many 65) ∷ []) is stops 13 64 3
    ∷ last full (judge (item as_move 0 0 ∷ []) ∷ []) is stops 1 64 4
    ∷ last (last_ids fresh) (judge (item as_move 0 0 ∷ []) ∷ []) is stops 12 64 5
    -- .. in that order
    ∷ last (last_ids full) (teardown_start 0 ∷ judge (many 65) ∷ []) is stops 16 64 1
    ∷ last (last_ids full) (judge [] ∷ []) is stops 17 64 2
    ∷ last (last_ids full) (judge (many 65) ∷ []) is stops 13 64 3
    ∷ last (last_ids full) (judge (many 64) ∷ []) is stops 1 64 4
    -- 6, a value listed twice, "even if one is Copy"
    ∷ last state (judge (item as_move v63 3 ∷ item as_copy v63 3 ∷ []) ∷ []) is stops 2 1 6
    ∷ last state (judge (item as_move v63 3 ∷ item as_move v62 0 ∷ item as_move v61 0 ∷ item as_move v62 99 ∷ []) ∷ []) is stops 2 3 6
    -- 7, "with lookup as one place": no handle, or one that is being moved
    ∷ last state (judge (item as_move 0 0 ∷ []) ∷ []) is stops 2 0 7
    ∷ last state (judge (item as_move v63 0 ∷ item as_copy (at0 62 2) 0 ∷ item as_move v61 0 ∷ []) ∷ []) is stops 2 1 7
    ∷ last state (transfer (item as_move v63 3 ∷ []) ∷ judge (item as_move v62 0 ∷ item as_move v63 0 ∷ []) ∷ []) is stops 3 1 7
    -- 8 to 11, "The rights rule counts as four places": no TRANSFER, which comes before a copy without DUPLICATE
    ∷ last state (replace 0 v61 1 ∷ judge (item as_move v63 0 ∷ item as_move (at0 61 2) 0 ∷ []) ∷ []) is stops 5 1 8
    ∷ last state (replace 0 v61 0 ∷ judge (item as_copy (at0 61 2) 8 ∷ []) ∷ []) is stops 5 0 8
    ∷ last state (replace 0 v61 2 ∷ judge (item as_copy (at0 61 2) 8 ∷ []) ∷ []) is stops 5 0 9
    ∷ last state (replace 0 v61 2 ∷ judge (item as_move (at0 61 2) 8 ∷ []) ∷ []) is stops 5 0 11
    ∷ last state (judge (item as_move v63 0 ∷ offered 8 (item as_move v62 8) ∷ []) ∷ []) is stops 5 1 10
    ∷ last state (judge (offered 8 (item as_move v62 16) ∷ []) ∷ []) is stops 5 0 10
    ∷ last state (judge (offered 1 (item as_move v62 2) ∷ []) ∷ []) is stops 5 0 11
    ∷ last state (judge (item as_copy v63 15 ∷ item as_copy v62 8 ∷ []) ∷ []) is stops 5 1 11
    -- 12 to 14: a kind or an object that is barred, a class that the route bars; each before the next, and behind the rights
    ∷ last state (judge_transfer 0 buffered (some 70) (some 3) (item as_move v62 8 ∷ []) ∷ []) is stops 5 0 11
    ∷ last classes (judge_transfer 0 buffered (some 73) (some 6) (item as_move v63 0 ∷ []) ∷ []) is stops 8 0 12
    ∷ last classes (judge_transfer 0 buffered (some 73) none (item as_move v63 0 ∷ []) ∷ []) is stops 5 0 13
    ∷ last state (judge_transfer 0 buffered (some 70) none (item as_copy v61 0 ∷ item as_move v63 0 ∷ []) ∷ []) is stops 5 0 13
    ∷ last state (judge_transfer 0 buffered (some 70) (some 3) (of_kinds (some 9) none (item as_move v63 0) ∷ []) ∷ []) is stops 8 0 12
    ∷ last state (judge_transfer 0 buffered (some 70) (some 9) (of_kinds (some 9) none (item as_move v63 0) ∷ []) ∷ []) is stops 5 0 13
    ∷ last classes (judge_transfer 0 buffered none (some 3) (of_kinds (some 9) none (item as_move v63 0) ∷ []) ∷ []) is stops 8 0 14
    ∷ last classes (judge_transfer 0 rendezvous none none (item as_move v63 0 ∷ item as_move v62 0 ∷ []) ∷ []) is stops 8 1 14
    -- 15, offered or expected kind
    ∷ last state (judge (item as_move v63 0 ∷ of_kinds (some 9) none (item as_move v62 0) ∷ []) ∷ []) is stops 4 1 15
    ∷ last state (judge (of_kinds (some 3) (some 9) (item as_move v62 0) ∷ []) ∷ []) is stops 4 0 15
    -- 16 and 17, copies, which come after all items: of a retired object, and at the limit
    ∷ last state (retire_object 0 ∷ judge (item as_move v63 0 ∷ item as_copy v62 0 ∷ []) ∷ []) is stops 9 1 16
    ∷ last state (retire_object 0 ∷ judge (item as_copy v62 0 ∷ item as_move 0 0 ∷ []) ∷ []) is stops 2 1 7
    ∷ last state (retire_object 0 ∷ judge (item as_move v63 0 ∷ item as_move v61 0 ∷ []) ∷ []) is passes
    ∷ last limited (judge (item as_copy v62 0 ∷ item as_copy v63 0 ∷ []) ∷ []) is stops 11 1 17
    ∷ last limited (retire_object 1 ∷ judge (item as_copy v62 0 ∷ item as_copy v63 0 ∷ []) ∷ []) is stops 9 1 16
    ∷ last limited (judge (item as_copy v63 0 ∷ item as_move v62 0 ∷ []) ∷ []) is stops 11 0 17
    -- a value that is copied twice is listed twice, before any copy is looked at
    ∷ last few (judge (item as_copy v63 0 ∷ item as_move v62 0 ∷ item as_copy v63 0 ∷ []) ∷ []) is stops 2 2 6
    -- .. with the counts that earlier copies of the same transfer raised; "the position .. of the item", not among the copies
    ∷ last few (judge (item as_copy v63 0 ∷ item as_move v61 0 ∷ item as_copy v62 0 ∷ []) ∷ []) is stops 11 2 17
    ∷ last few (judge (item as_move v63 0 ∷ item as_move v61 0 ∷ item as_copy v62 0 ∷ []) ∷ []) is passes
    -- the first item at fault is told, and no later one
    ∷ last state (judge (item as_move v63 0 ∷ item as_move v62 8 ∷ item as_move v61 8 ∷ item as_move 0 0 ∷ []) ∷ []) is stops 5 1 11
    -- "Preparation's Misuse refuses the judging itself"
    ∷ last state (judge_transfer 2 rendezvous none none [] ∷ []) is (18 ∷ [])
    -- "Its refusal must be the one that preparation would give in the same state": judged, then prepared
    ∷ numbers state (judge (item as_move v63 0 ∷ item as_move v62 8 ∷ []) ∷ transfer (item as_move v63 0 ∷ item as_move v62 8 ∷ []) ∷ []) is (0 ∷ 5 ∷ [])
    ∷ numbers few (judge (item as_copy v63 0 ∷ item as_copy v62 0 ∷ []) ∷ transfer (item as_copy v63 0 ∷ item as_copy v62 0 ∷ []) ∷ []) is (0 ∷ 11 ∷ [])
    -- "no id is spent", where preparation spends one; nothing else changes: no count, no order
    ∷ next_id (end state (judge (item as_move v63 8 ∷ []) ∷ judge (item as_move v63 99 ∷ []) ∷ judge [] ∷ [])) is next_id state
    ∷ next_id (end state (transfer (item as_move v63 99 ∷ []) ∷ [])) is (7 ∷ [])
    ∷ count_of (end few (judge (item as_copy v63 0 ∷ item as_copy v62 0 ∷ []) ∷ judge (item as_copy v61 0 ∷ []) ∷ [])) 0 is (3 ∷ [])
    ∷ orders (end state (judge (item as_move v63 8 ∷ item as_copy v62 1 ∷ []) ∷ [])) is orders state
    ∷ numbers state (judge (item as_move v63 8 ∷ []) ∷ get_info 0 v63 ∷ transfer (item as_move v63 8 ∷ []) ∷ rollback 6 ∷ []) is (0 ∷ 0 ∷ 0 ∷ 0 ∷ [])
    -- the second of two judgings in a row
    ∷ last few (judge (item as_copy v61 0 ∷ item as_copy v62 0 ∷ []) ∷ judge (item as_copy v61 0 ∷ item as_copy v62 0 ∷ []) ∷ []) is stops 11 1 17
    ∷ []

pub judgings_hold : (k : ℕ) (c : Case) → nth judgings k ≡ some c → c.given ≡ c.said
unfolding judgings
judgings_hold = line judgings refl
