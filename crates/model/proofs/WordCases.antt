-- Lists and calls as words: every cause of 19, the order 18, 19, 20, and the words of an answer.
use Rattle.std.specs.Prelude.{◌≡◌, refl, List, [], ◌∷◌, ◌++◌, map, ℕ, zero, suc}
use Rattle.std.proofs.Math.Option.{Option, none, some}
use Rattle.authority.specs.Rights.{contains}
use Rattle.codec.specs.Codec.{encode, payload, mask_of, next_generation}
use Rattle.format.specs.Format.{musts, mays, field_kinds, field_fits, known_op}
use Rattle.model.specs.Base.{pick, nth, is_some, or_else, range}
use Rattle.model.specs.State.{till, State, max_batch, max_slots, last_id}
use Rattle.model.specs.Storage.{place, take_free, pages_for, attach}
use Rattle.model.specs.Request.{Route, Route.buffered, Route.rendezvous, Route.staged_startup, Operation, Operation.as_move, Operation.as_copy, Item}
use Rattle.model.specs.Request.{Request, Request.new_object, Request.duplicate, Request.release_parcel, Request.retire_object, Request.reserve, Request.trim, Request.abort, Request.publish, Request.get_info, Request.resolve, Request.replace, Request.close, Request.scan_handles, Request.prepare_transfer, Request.prepare_consumption, Request.rollback, Request.commit, Request.direct_commit, Request.direct_rollback, Request.remove_stopping_owner, Request.teardown_start, Request.teardown_step, Request.teardown_finish, Request.take_empty_page, Request.make_plan, Request.use_plan, Request.drop_plan, Request.judge_transfer}
use Rattle.model.specs.Step.{decide, step, new_object_of, reserve_of}
use Rattle.model.specs.Words.{Outcome, read_request, read_list, used_words, words_of, answer_short, call}
use Rattle.model.proofs.Cases.{Case, ◌is◌, line, fresh}

-- 0 if a list can be read, else 19
abbrev reads : List ℕ → List ℕ
reads ws = pick (is_some (read_list ws)) 0 19 ∷ []

abbrev zeros : ℕ → List ℕ
zeros zero = []
zeros (suc n) = 0 ∷ zeros n

-- a call with the answer words 0, 1, 2 and so on
abbrev of_call : Option State → List ℕ → ℕ → Outcome
of_call s ws n = call till s ws (range 0 n)

-- a request as its op number and its fields, in the order of docs/formats.md; what may be absent is 0, or one more than its word
abbrev maybe : Option ℕ → ℕ
maybe none = 0
maybe (some n) = suc n

abbrev route_word : Route → ℕ
route_word buffered = 0
route_word rendezvous = 1
route_word staged_startup = 2

abbrev operation_word : Operation → ℕ
operation_word as_move = 0
operation_word as_copy = 1

abbrev item_shown : Item → List ℕ
item_shown q = operation_word q.operation ∷ q.value ∷ q.rights ∷ maybe q.offered_rights ∷ maybe q.offered_kind ∷ maybe q.expected_kind ∷ []

abbrev join_all : List (List ℕ) → List ℕ
join_all [] = []
join_all (x ∷ xs) = x ++ join_all xs

abbrev shown : Request → List ℕ
shown (new_object o r f) = 1 ∷ o ∷ r ∷ f ∷ []
shown (duplicate b v r) = 2 ∷ b ∷ v ∷ r ∷ []
shown (release_parcel i) = 3 ∷ i ∷ []
shown (retire_object o) = 4 ∷ o ∷ []
shown (reserve b n) = 5 ∷ b ∷ n ∷ []
shown (trim i n) = 6 ∷ n ∷ i ∷ []
shown (abort i) = 7 ∷ i ∷ []
shown (publish i ids) = 8 ∷ i ∷ ids
shown (get_info b v) = 9 ∷ b ∷ v ∷ []
shown (resolve b v r k) = 10 ∷ b ∷ v ∷ r ∷ k ∷ []
shown (replace b v r) = 11 ∷ b ∷ v ∷ r ∷ []
shown (close b v) = 12 ∷ b ∷ v ∷ []
shown (scan_handles b c) = 13 ∷ b ∷ c ∷ []
shown (prepare_transfer b route o k qs) = 14 ∷ b ∷ route_word route ∷ maybe o ∷ maybe k ∷ join_all (map item_shown qs)
shown (prepare_consumption b v r k o) = 15 ∷ b ∷ v ∷ r ∷ k ∷ o ∷ []
shown (rollback i) = 16 ∷ i ∷ []
shown (commit i) = 17 ∷ i ∷ []
shown (direct_commit i j) = 18 ∷ i ∷ j ∷ []
shown (direct_rollback i j) = 19 ∷ i ∷ j ∷ []
shown (remove_stopping_owner b c) = 20 ∷ b ∷ c ∷ []
shown (teardown_start b) = 21 ∷ b ∷ []
shown (teardown_step b) = 22 ∷ b ∷ []
shown (teardown_finish b) = 23 ∷ b ∷ []
shown (take_empty_page b) = 24 ∷ b ∷ []
shown (make_plan b n) = 25 ∷ b ∷ n ∷ []
shown (use_plan i) = 26 ∷ i ∷ []
shown (drop_plan i) = 27 ∷ i ∷ []
shown (judge_transfer b route o k qs) = 28 ∷ b ∷ route_word route ∷ maybe o ∷ maybe k ∷ join_all (map item_shown qs)

-- the requests that a list is read as
abbrev reads_as : List ℕ → List ℕ
reads_as ws = join_all (map shown (or_else (read_list ws) []))

pub readings : List Case
unfolding fresh encode payload mask_of next_generation contains max_batch max_slots last_id place take_free pages_for attach decide step used_words words_of answer_short
    read_request read_list call new_object_of reserve_of musts mays field_kinds field_fits known_op
readings =
    -- "An empty list is accepted"
    reads [] is (0 ∷ [])
    -- reserve of table 0, three slots: map 11, op 5
    ∷ reads (11 ∷ 5 ∷ 0 ∷ 3 ∷ []) is (0 ∷ [])
    -- "list ends inside a record": after the map, and before the last field
    ∷ reads (11 ∷ []) is (19 ∷ [])
    ∷ reads (11 ∷ 5 ∷ 0 ∷ []) is (19 ∷ [])
    ∷ reads (11 ∷ 5 ∷ 0 ∷ 3 ∷ 11 ∷ 5 ∷ 0 ∷ []) is (19 ∷ [])
    -- "field missing": no count; no op. "extra": a value; a bit above the last field
    ∷ reads (3 ∷ 5 ∷ 0 ∷ []) is (19 ∷ [])
    ∷ reads (10 ∷ 0 ∷ 3 ∷ []) is (19 ∷ [])
    ∷ reads (0 ∷ []) is (19 ∷ [])
    ∷ reads (27 ∷ 5 ∷ 0 ∷ 3 ∷ 1 ∷ []) is (19 ∷ [])
    ∷ reads (262155 ∷ 5 ∷ 0 ∷ 3 ∷ 1 ∷ []) is (19 ∷ [])
    ∷ reads (0x800000000000000b ∷ 5 ∷ 0 ∷ 3 ∷ 1 ∷ []) is (19 ∷ [])
    -- "unknown op"
    ∷ reads (1 ∷ 0 ∷ []) is (19 ∷ [])
    ∷ reads (11 ∷ 29 ∷ 0 ∷ 3 ∷ []) is (19 ∷ [])
    ∷ reads (3 ∷ 0xffffffffffffffff ∷ 0 ∷ []) is (19 ∷ [])
    -- "too wide": flags and kinds of more than 32 bits
    ∷ reads (101 ∷ 1 ∷ 0 ∷ 3 ∷ 4294967295 ∷ []) is (0 ∷ [])
    ∷ reads (101 ∷ 1 ∷ 0 ∷ 3 ∷ 4294967296 ∷ []) is (19 ∷ [])
    ∷ reads (563 ∷ 10 ∷ 0 ∷ 0 ∷ 0 ∷ 4294967296 ∷ []) is (19 ∷ [])
    -- "a koid of 0"
    ∷ reads (1587 ∷ 15 ∷ 0 ∷ 0 ∷ 0 ∷ 3 ∷ 7 ∷ []) is (0 ∷ [])
    ∷ reads (1587 ∷ 15 ∷ 0 ∷ 0 ∷ 0 ∷ 3 ∷ 0 ∷ []) is (19 ∷ [])
    -- a transfer of one item, with the fields that may stand and without them; "unknown .. route or operation"; its forbidden object is a koid
    ∷ reads (4107 ∷ 14 ∷ 0 ∷ 1 ∷ 2 ∷ 49 ∷ 1 ∷ 0 ∷ 0 ∷ []) is (0 ∷ [])
    ∷ reads (200715 ∷ 14 ∷ 0 ∷ 1 ∷ 2 ∷ 9 ∷ 8 ∷ 57393 ∷ 0 ∷ 0 ∷ 0 ∷ 0 ∷ 3 ∷ 3 ∷ []) is (0 ∷ [])
    ∷ reads (4107 ∷ 14 ∷ 0 ∷ 1 ∷ 3 ∷ 49 ∷ 1 ∷ 0 ∷ 0 ∷ []) is (19 ∷ [])
    ∷ reads (4107 ∷ 14 ∷ 0 ∷ 1 ∷ 2 ∷ 49 ∷ 2 ∷ 0 ∷ 0 ∷ []) is (19 ∷ [])
    ∷ reads (69643 ∷ 14 ∷ 0 ∷ 1 ∷ 2 ∷ 0 ∷ 49 ∷ 1 ∷ 0 ∷ 0 ∷ []) is (19 ∷ [])
    -- an item's fields: one missing, one extra; fewer items than the count says, however large it is
    ∷ reads (4107 ∷ 14 ∷ 0 ∷ 1 ∷ 2 ∷ 17 ∷ 1 ∷ 0 ∷ []) is (19 ∷ [])
    ∷ reads (4107 ∷ 14 ∷ 0 ∷ 1 ∷ 2 ∷ 51 ∷ 1 ∷ 0 ∷ 0 ∷ 0 ∷ []) is (19 ∷ [])
    ∷ reads (4107 ∷ 14 ∷ 0 ∷ 2 ∷ 2 ∷ 49 ∷ 1 ∷ 0 ∷ 0 ∷ []) is (19 ∷ [])
    ∷ reads (4107 ∷ 14 ∷ 0 ∷ 0xffffffffffffffff ∷ 2 ∷ 49 ∷ 1 ∷ 0 ∷ 0 ∷ []) is (19 ∷ [])
    ∷ reads (4107 ∷ 14 ∷ 0 ∷ 0 ∷ 2 ∷ []) is (0 ∷ [])
    -- a judging (document 02, 4) is read as a preparation is: its items follow, as many as its count; a route must stand
    ∷ reads (4107 ∷ 28 ∷ 0 ∷ 1 ∷ 2 ∷ 49 ∷ 1 ∷ 0 ∷ 0 ∷ []) is (0 ∷ [])
    ∷ reads (4107 ∷ 28 ∷ 0 ∷ 2 ∷ 2 ∷ 49 ∷ 1 ∷ 0 ∷ 0 ∷ []) is (19 ∷ [])
    ∷ reads (11 ∷ 28 ∷ 0 ∷ 0 ∷ []) is (19 ∷ [])
    -- a publish with its parcels; the first word of a parcel's item is 0
    ∷ reads (137 ∷ 8 ∷ 2 ∷ 9 ∷ 129 ∷ 0 ∷ 5 ∷ 129 ∷ 0 ∷ 6 ∷ []) is (0 ∷ [])
    ∷ reads (137 ∷ 8 ∷ 2 ∷ 9 ∷ 129 ∷ 0 ∷ 5 ∷ 129 ∷ 1 ∷ 6 ∷ []) is (19 ∷ [])
    ∷ reads (137 ∷ 8 ∷ 2 ∷ 9 ∷ 129 ∷ 0 ∷ 5 ∷ []) is (19 ∷ [])
    -- the kinds of an item and of a transfer too wide; an item whose bit 0 does not stand; a parcel item with a field too many
    ∷ reads (4107 ∷ 14 ∷ 0 ∷ 1 ∷ 2 ∷ 16433 ∷ 1 ∷ 0 ∷ 0 ∷ 4294967296 ∷ []) is (19 ∷ [])
    ∷ reads (4107 ∷ 14 ∷ 0 ∷ 1 ∷ 2 ∷ 32817 ∷ 1 ∷ 0 ∷ 0 ∷ 4294967296 ∷ []) is (19 ∷ [])
    ∷ reads (135179 ∷ 14 ∷ 0 ∷ 1 ∷ 2 ∷ 4294967296 ∷ 49 ∷ 1 ∷ 0 ∷ 0 ∷ []) is (19 ∷ [])
    ∷ reads (4107 ∷ 14 ∷ 0 ∷ 1 ∷ 2 ∷ 48 ∷ 0 ∷ 0 ∷ []) is (19 ∷ [])
    ∷ reads (137 ∷ 8 ∷ 1 ∷ 9 ∷ 161 ∷ 0 ∷ 0 ∷ 5 ∷ []) is (19 ∷ [])
    -- what each op's fields mean
    ∷ reads_as (101 ∷ 1 ∷ 31 ∷ 32 ∷ 3 ∷ 51 ∷ 2 ∷ 31 ∷ 32 ∷ 33 ∷ 129 ∷ 3 ∷ 31 ∷ 5 ∷ 4 ∷ 31 ∷ 11 ∷ 5 ∷ 31 ∷ 32 ∷ 137 ∷ 6 ∷ 31 ∷ 32 ∷ 129 ∷ 7 ∷ 31 ∷ [])
    is (1 ∷ 31 ∷ 32 ∷ 3 ∷ 2 ∷ 31 ∷ 32 ∷ 33 ∷ 3 ∷ 31 ∷ 4 ∷ 31 ∷ 5 ∷ 31 ∷ 32 ∷ 6 ∷ 31 ∷ 32 ∷ 7 ∷ 31 ∷ [])
    ∷ reads_as (137 ∷ 8 ∷ 2 ∷ 31 ∷ 129 ∷ 0 ∷ 32 ∷ 129 ∷ 0 ∷ 33 ∷ 19 ∷ 9 ∷ 31 ∷ 32 ∷ 563 ∷ 10 ∷ 31 ∷ 32 ∷ 33 ∷ 34 ∷ 51 ∷ 11 ∷ 31 ∷ 32 ∷ 33 ∷ 19 ∷ 12 ∷ 31 ∷ 32 ∷ 2051 ∷ 13 ∷ 31 ∷ 32 ∷ [])
    is (8 ∷ 31 ∷ 32 ∷ 33 ∷ 9 ∷ 31 ∷ 32 ∷ 10 ∷ 31 ∷ 32 ∷ 33 ∷ 34 ∷ 11 ∷ 31 ∷ 32 ∷ 33 ∷ 12 ∷ 31 ∷ 32 ∷ 13 ∷ 31 ∷ 32 ∷ [])
    ∷ reads_as (200715 ∷ 14 ∷ 31 ∷ 2 ∷ 2 ∷ 32 ∷ 33 ∷ 57393 ∷ 1 ∷ 34 ∷ 35 ∷ 36 ∷ 37 ∷ 38 ∷ 49 ∷ 0 ∷ 39 ∷ 40 ∷ 4107 ∷ 14 ∷ 31 ∷ 0 ∷ 1 ∷ [])
    is (14 ∷ 31 ∷ 2 ∷ 33 ∷ 34 ∷ 1 ∷ 34 ∷ 35 ∷ 37 ∷ 38 ∷ 39 ∷ 0 ∷ 39 ∷ 40 ∷ 0 ∷ 0 ∷ 0 ∷ 14 ∷ 31 ∷ 1 ∷ 0 ∷ 0 ∷ [])
    ∷ reads_as (200715 ∷ 28 ∷ 31 ∷ 2 ∷ 2 ∷ 32 ∷ 33 ∷ 57393 ∷ 1 ∷ 34 ∷ 35 ∷ 36 ∷ 37 ∷ 38 ∷ 49 ∷ 0 ∷ 39 ∷ 40 ∷ [])
    is (28 ∷ 31 ∷ 2 ∷ 33 ∷ 34 ∷ 1 ∷ 34 ∷ 35 ∷ 37 ∷ 38 ∷ 39 ∷ 0 ∷ 39 ∷ 40 ∷ 0 ∷ 0 ∷ 0 ∷ [])
    ∷ reads_as (1587 ∷ 15 ∷ 31 ∷ 32 ∷ 33 ∷ 34 ∷ 35 ∷ 129 ∷ 16 ∷ 31 ∷ 129 ∷ 17 ∷ 31 ∷ 385 ∷ 18 ∷ 31 ∷ 32 ∷ 385 ∷ 19 ∷ 31 ∷ 32 ∷ 2051 ∷ 20 ∷ 31 ∷ 32 ∷ [])
    is (15 ∷ 31 ∷ 32 ∷ 33 ∷ 34 ∷ 35 ∷ 16 ∷ 31 ∷ 17 ∷ 31 ∷ 18 ∷ 31 ∷ 32 ∷ 19 ∷ 31 ∷ 32 ∷ 20 ∷ 31 ∷ 32 ∷ [])
    ∷ reads_as (3 ∷ 21 ∷ 31 ∷ 3 ∷ 22 ∷ 31 ∷ 3 ∷ 23 ∷ 31 ∷ 3 ∷ 24 ∷ 31 ∷ []) is (21 ∷ 31 ∷ 22 ∷ 31 ∷ 23 ∷ 31 ∷ 24 ∷ 31 ∷ [])
    ∷ reads_as (11 ∷ 25 ∷ 31 ∷ 32 ∷ 129 ∷ 26 ∷ 31 ∷ 129 ∷ 27 ∷ 31 ∷ []) is (25 ∷ 31 ∷ 32 ∷ 26 ∷ 31 ∷ 27 ∷ 31 ∷ [])
    -- a plan names no id; its use and its drop name no table and no count
    ∷ reads (139 ∷ 25 ∷ 0 ∷ 3 ∷ 1 ∷ []) is (19 ∷ [])
    ∷ reads (11 ∷ 26 ∷ 0 ∷ 3 ∷ []) is (19 ∷ [])
    ∷ reads (131 ∷ 27 ∷ 0 ∷ 3 ∷ []) is (19 ∷ [])
    -- "Order: state check 18, list 19, answer length 20 .. while a call that passes them gives 0"
    ∷ ((of_call none (11 ∷ []) 0).result ∷ []) is (18 ∷ [])
    ∷ ((of_call (some fresh) (11 ∷ []) 0).result ∷ []) is (19 ∷ [])
    ∷ ((of_call (some fresh) (11 ∷ 5 ∷ 0 ∷ 3 ∷ []) 71).result ∷ []) is (20 ∷ [])
    ∷ ((of_call (some fresh) (11 ∷ 5 ∷ 0 ∷ 3 ∷ []) 72).result ∷ []) is (0 ∷ [])
    ∷ ((of_call (some fresh) (11 ∷ 5 ∷ 0 ∷ 3 ∷ 11 ∷ 5 ∷ 0 ∷ 3 ∷ []) 143).result ∷ []) is (20 ∷ [])
    ∷ ((of_call (some fresh) [] 0).result ∷ []) is (0 ∷ [])
    -- "unused ones 0; words after the last answer keep their contents"
    ∷ (of_call (some fresh) (11 ∷ 5 ∷ 0 ∷ 2 ∷ 11 ∷ 5 ∷ 0 ∷ 0 ∷ []) 146).answers
    is ((0 ∷ 1 ∷ 2 ∷ 0x4800000001000040 ∷ 0x480000000100003f ∷ []) ++ (zeros 67 ++ ((17 ∷ []) ++ (zeros 71 ++ (144 ∷ 145 ∷ [])))))
    ∷ []

pub readings_hold : (k : ℕ) (c : Case) → nth readings k ≡ some c → c.given ≡ c.said
unfolding readings
readings_hold = line readings refl
