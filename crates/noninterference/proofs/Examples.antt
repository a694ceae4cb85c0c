-- Worked pairs of runs: the checker computes both runs of each, in both endings, and compares every answer and every field in use.
use Rattle.std.specs.Prelude.{◌≡◌, refl, true, false, List, [], ◌∷◌, ◌++◌, map, ℕ}
use Rattle.std.proofs.Math.Option.{none, some}
use Rattle.model.specs.Base.{every}
use Rattle.model.specs.State.{State}
use Rattle.model.specs.Request.{Route.buffered, Route.rendezvous, Operation.as_move, Operation.as_copy, Item, Answer.opened}
use Rattle.model.specs.Request.{Request, Request.new_object, Request.duplicate, Request.release_parcel, Request.retire_object, Request.reserve, Request.trim, Request.abort, Request.publish, Request.get_info, Request.resolve, Request.replace, Request.close, Request.scan_handles, Request.prepare_transfer, Request.prepare_consumption, Request.rollback, Request.commit, Request.direct_commit, Request.direct_rollback, Request.remove_stopping_owner, Request.teardown_start, Request.teardown_step, Request.teardown_finish, Request.take_empty_page, Request.make_plan, Request.use_plan, Request.drop_plan, Request.judge_transfer}
use Rattle.model.specs.Words.{used_words}
use Rattle.model.proofs.Cases.{item}
use Rattle.model.proofs.Tests.{same_list_equal}
use Rattle.noninterference.specs.Names.{value_of}
use Rattle.noninterference.specs.Runs.{permitted, wanting, lower_request, lower_answer, lower_state}
use Rattle.noninterference.specs.World.{little, ran, numbers, tables_numbers, state_numbers, answer_numbers, v0, v1, shop}

-- a list and a transfer t of table b that meet the theorem's conditions; what the held run answers, by number; and that the plain run is the same
record Pair (s : State) (transfer : Request) (t b : ℕ) (values : List ℕ) (list : List Request) (given : List ℕ) : Type 0 where
  opens : (ran s (transfer ∷ [])).1 ≡ opened t ∷ []
  permits : every (permitted t b values) list ≡ true
  wants : wanting little (ran s (transfer ∷ [])).0 list ≡ false
  gives : numbers (ran (ran s (transfer ∷ [])).0 list).1 ≡ given
  answers : answer_numbers (ran s (map (lower_request t) list)).1 ≡ answer_numbers (map (lower_answer t) (ran (ran s (transfer ∷ [])).0 list).1)
  after_rollback : state_numbers (ran s (map (lower_request t) list)).0 ≡ state_numbers (lower_state t (ran s ((transfer ∷ list) ++ (rollback t ∷ []))).0)
  after_commit : tables_numbers (ran s (map (lower_request t) list ++ map (close b) values)).0
      ≡ tables_numbers (lower_state t (ran s ((transfer ∷ list) ++ (commit t ∷ []))).0)

-- The first pair: objects 0 and 2 are moved out of the slots 3 and 1 of table 0, under the id 7

abbrev items₁ : List Item
items₁ = item as_move (v0 3 1) 3 ∷ item as_move (v0 1 1) 2 ∷ []

abbrev list₁ : List Request
list₁ =
    reserve 0 2
    ∷ reserve 0 9
    ∷ reserve 1 0
    ∷ reserve 1 65
    ∷ new_object 0 1 0
    ∷ new_object 9 1 0
    ∷ duplicate 0 (v0 2 1) 2
    ∷ get_info 0 (v0 2 1)
    ∷ get_info 0 (v0 2 2)
    ∷ resolve 0 (v0 2 1) 1 2
    ∷ resolve 0 (v0 2 1) 1 7
    ∷ trim 8 1
    ∷ publish 8 (9 ∷ [])
    ∷ replace 0 (v0 2 1) 2
    ∷ prepare_transfer 0 buffered none none (item as_copy (v0 7 1) 2 ∷ [])
    ∷ prepare_transfer 1 buffered none none (item as_copy (v1 3 1) 2 ∷ [])
    ∷ rollback 11
    ∷ retire_object 0
    ∷ duplicate 1 (v1 3 1) 1
    ∷ prepare_consumption 0 (v0 7 1) 2 2 101
    ∷ reserve 1 1
    ∷ direct_commit 12 13
    ∷ scan_handles 1 0
    ∷ close 1 (v1 3 1)
    ∷ teardown_step 0
    ∷ take_empty_page 0
    ∷ close 0 (v0 2 2)
    ∷ remove_stopping_owner 1 0
    ∷ abort 99
    ∷ make_plan 0 4
    ∷ make_plan 1 9
    ∷ make_plan 0 1
    ∷ use_plan 14
    ∷ use_plan 15
    ∷ drop_plan 15
    ∷ drop_plan 15
    ∷ []

abbrev given₁ : List ℕ
given₁ = 0 ∷ 15 ∷ 17 ∷ 13 ∷ 10 ∷ 18 ∷ 0 ∷ 0 ∷ 2 ∷ 0 ∷ 4 ∷ 0 ∷ 0 ∷ 0 ∷ 5 ∷ 0 ∷ 0 ∷ 0 ∷ 9 ∷ 0 ∷ 0 ∷ 0 ∷ 0 ∷ 0 ∷ 18 ∷ 0 ∷ 0 ∷ 0 ∷ 18 ∷ 0 ∷ 1 ∷ 0 ∷ 0 ∷ 21 ∷ 0 ∷ 18 ∷ []

first : Pair shop (prepare_transfer 0 rendezvous none none items₁) 7 0 (map value_of items₁) list₁ given₁
unfolding ran
first = record {
  opens = refl;
  permits = refl;
  wants = refl;
  gives = refl;
  answers = same_list_equal _ _ refl;
  after_rollback = same_list_equal _ _ refl;
  after_commit = same_list_equal _ _ refl;
}

-- The second pair: a reservation 7 stays open; objects 1 and 0 are moved out of the slots 2 and 3 of table 0, under the id 8

abbrev items₂ : List Item
items₂ = item as_move (v0 2 1) 1 ∷ item as_move (v0 3 1) 2 ∷ []

abbrev list₂ : List Request
list₂ =
    new_object 3 3 0
    ∷ new_object 0 9 0
    ∷ new_object 0 3 8
    ∷ duplicate 0 (v0 1 1) 3
    ∷ duplicate 0 (v0 1 1) 3
    ∷ publish 7 (9 ∷ [])
    ∷ commit 7
    ∷ prepare_transfer 0 buffered none none (item as_move (v0 1 1) 2 ∷ [])
    ∷ prepare_transfer 0 rendezvous none none (item as_move (v0 1 1) 2 ∷ item as_copy (v0 0 1) 2 ∷ [])
    ∷ prepare_transfer 0 rendezvous none none (item as_move (v0 1 1) 2 ∷ [])
    ∷ get_info 0 (v0 1 1)
    ∷ resolve 0 (v0 1 1) 1 1
    ∷ commit 12
    ∷ release_parcel 12
    ∷ reserve 2 1
    ∷ reserve 1 9
    ∷ abort 13
    ∷ take_empty_page 2
    ∷ take_empty_page 2
    ∷ reserve 1 1
    ∷ teardown_start 1
    ∷ prepare_consumption 1 (v1 3 1) 1 1 100
    ∷ direct_rollback 15 14
    ∷ teardown_start 1
    ∷ teardown_step 1
    ∷ teardown_step 1
    ∷ teardown_finish 1
    ∷ get_info 1 (v1 3 1)
    ∷ retire_object 1
    ∷ teardown_finish 0
    ∷ []

abbrev given₂ : List ℕ
given₂ = 11 ∷ 6 ∷ 7 ∷ 0 ∷ 11 ∷ 0 ∷ 18 ∷ 8 ∷ 11 ∷ 0 ∷ 0 ∷ 3 ∷ 0 ∷ 0 ∷ 0 ∷ 1 ∷ 0 ∷ 0 ∷ 0 ∷ 0 ∷ 14 ∷ 0 ∷ 0 ∷ 0 ∷ 0 ∷ 0 ∷ 0 ∷ 16 ∷ 0 ∷ 18 ∷ []

second : Pair (ran shop (reserve 0 1 ∷ [])).0 (prepare_transfer 0 buffered (some 102) (some 9) items₂) 8 0 (map value_of items₂) list₂ given₂
unfolding ran
second = record {
  opens = refl;
  permits = refl;
  wants = refl;
  gives = refl;
  answers = same_list_equal _ _ refl;
  after_rollback = same_list_equal _ _ refl;
  after_commit = same_list_equal _ _ refl;
}

-- The third pair: the plans 7 of table 0 and 8 of table 1 stand before the transfer, whose id is 9. Plan 7 is of the table that the goods are held in, and stays
-- fresh; plan 8 is stale when another reservation of its table is made, in both runs

abbrev list₃ : List Request
list₃ =
    use_plan 10
    ∷ make_plan 0 9
    ∷ reserve 1 1
    ∷ use_plan 8
    ∷ use_plan 7
    ∷ use_plan 7
    ∷ drop_plan 8
    ∷ make_plan 1 2
    ∷ abort 10
    ∷ use_plan 12
    ∷ drop_plan 12
    ∷ trim 11 1
    ∷ []

abbrev given₃ : List ℕ
given₃ = 18 ∷ 15 ∷ 0 ∷ 21 ∷ 0 ∷ 18 ∷ 0 ∷ 0 ∷ 0 ∷ 21 ∷ 0 ∷ 0 ∷ []

third : Pair (ran shop (make_plan 0 2 ∷ make_plan 1 2 ∷ [])).0 (prepare_transfer 0 rendezvous none none items₁) 9 0 (map value_of items₁) list₃ given₃
unfolding ran
third = record {
  opens = refl;
  permits = refl;
  wants = refl;
  gives = refl;
  answers = same_list_equal _ _ refl;
  after_rollback = same_list_equal _ _ refl;
  after_commit = same_list_equal _ _ refl;
}

-- The fourth pair, document 02, 2: a screen looks at the moved values between other requests, one of which opens a claim of its own; two of the looks are refused

abbrev list₄ : List Request
list₄ =
    get_info 0 (v0 3 1)
    ∷ get_info 0 (v0 1 1)
    ∷ prepare_consumption 0 (v0 2 1) 1 2 101
    ∷ get_info 0 (v0 2 1)
    ∷ get_info 0 (v0 3 1)
    ∷ reserve 0 1
    ∷ retire_object 0
    ∷ get_info 0 (v0 1 2)
    ∷ get_info 1 (v0 3 1)
    ∷ commit 8
    ∷ get_info 0 (v0 2 1)
    ∷ get_info 0 (v0 3 1)
    ∷ get_info 0 (v0 1 1)
    ∷ []

abbrev given₄ : List ℕ
given₄ = 0 ∷ 0 ∷ 0 ∷ 0 ∷ 0 ∷ 0 ∷ 0 ∷ 2 ∷ 2 ∷ 0 ∷ 2 ∷ 0 ∷ 0 ∷ []

fourth : Pair shop (prepare_transfer 0 rendezvous none none items₁) 7 0 (map value_of items₁) list₄ given₄
unfolding ran
fourth = record {
  opens = refl;
  permits = refl;
  wants = refl;
  gives = refl;
  answers = same_list_equal _ _ refl;
  after_rollback = same_list_equal _ _ refl;
  after_commit = same_list_equal _ _ refl;
}

-- The fifth pair, document 02, 4: transfers are judged between other requests. The first would be accepted, and is prepared; two list a value twice; one copies a handle of an object that the list
-- has retired; one has no items; one names a value that the list has closed; one is of a table that is not there, and one of a table that is torn down

abbrev list₅ : List Request
list₅ =
    judge_transfer 0 rendezvous none none (item as_copy (v0 2 1) 2 ∷ [])
    ∷ prepare_transfer 0 rendezvous none none (item as_copy (v0 2 1) 2 ∷ [])
    ∷ judge_transfer 0 buffered none none (item as_move (v0 2 1) 1 ∷ item as_move (v0 2 1) 1 ∷ [])
    ∷ rollback 8
    ∷ judge_transfer 1 buffered none (some 2) (item as_move (v1 3 1) 1 ∷ item as_copy (v1 3 1) 1 ∷ [])
    ∷ retire_object 0
    ∷ judge_transfer 1 buffered none none (item as_copy (v1 3 1) 1 ∷ [])
    ∷ judge_transfer 0 buffered none none []
    ∷ close 0 (v0 2 1)
    ∷ judge_transfer 0 buffered none none (item as_move (v0 2 1) 1 ∷ [])
    ∷ judge_transfer 3 buffered none none []
    ∷ teardown_start 2
    ∷ judge_transfer 2 buffered none none []
    ∷ []

abbrev given₅ : List ℕ
given₅ = 0 ∷ 0 ∷ 0 ∷ 0 ∷ 0 ∷ 0 ∷ 0 ∷ 0 ∷ 0 ∷ 0 ∷ 18 ∷ 0 ∷ 0 ∷ []

fifth : Pair shop (prepare_transfer 0 rendezvous none none items₁) 7 0 (map value_of items₁) list₅ given₅
unfolding ran
fifth = record {
  opens = refl;
  permits = refl;
  wants = refl;
  gives = refl;
  answers = same_list_equal _ _ refl;
  after_rollback = same_list_equal _ _ refl;
  after_commit = same_list_equal _ _ refl;
}

-- what the held run says of them
told₅ : map used_words (ran (ran shop (prepare_transfer 0 rendezvous none none items₁ ∷ [])).0 list₅).1
    ≡ (0 ∷ 0 ∷ 0 ∷ 0 ∷ []) ∷ (0 ∷ 8 ∷ []) ∷ (0 ∷ 2 ∷ 1 ∷ 6 ∷ []) ∷ (0 ∷ []) ∷ (0 ∷ 2 ∷ 1 ∷ 6 ∷ []) ∷ (0 ∷ []) ∷ (0 ∷ 9 ∷ 0 ∷ 16 ∷ []) ∷ (0 ∷ 17 ∷ 64 ∷ 2 ∷ [])
    ∷ (0 ∷ 101 ∷ 2 ∷ 3 ∷ 1 ∷ []) ∷ (0 ∷ 2 ∷ 0 ∷ 7 ∷ []) ∷ (18 ∷ []) ∷ (0 ∷ []) ∷ (0 ∷ 16 ∷ 64 ∷ 1 ∷ []) ∷ []
unfolding ran
told₅ = refl
