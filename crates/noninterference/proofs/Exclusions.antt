-- Each exclusion is needed: a list that meets all the others and not this one, and in which the two runs differ.
use Rattle.std.specs.Prelude.{◌≡◌, refl, Bool, true, false, not, List, [], ◌∷◌, map, ℕ, ◌-◌}
use Rattle.std.proofs.Math.Option.{none}
use Rattle.model.specs.Base.{every}
use Rattle.model.specs.State.{State, last_id}
use Rattle.model.specs.Change.{with_book}
use Rattle.model.specs.Create.{created}
use Rattle.model.specs.Words.{used_words}
use Rattle.model.specs.Request.{Route.rendezvous, Operation.as_move, Operation.as_copy, Item}
use Rattle.model.specs.Request.{Request, Request.new_object, Request.duplicate, Request.reserve, Request.publish, Request.get_info, Request.resolve, Request.replace, Request.close, Request.scan_handles, Request.prepare_transfer, Request.prepare_consumption, Request.rollback, Request.remove_stopping_owner, Request.teardown_start, Request.make_plan, Request.use_plan, Request.judge_transfer}
use Rattle.model.proofs.Cases.{item}
use Rattle.noninterference.specs.Names.{value_of}
use Rattle.noninterference.specs.Runs.{is_move, names_id, uses_value, walks, permitted, wanting, lower_request, lower_answer}
use Rattle.noninterference.specs.World.{little, ran, v0, v1, shop, parameters}

module _ (s : State) (t : ℕ) (items : List Item) (rs : List Request) where
  abbrev held_state : State
  held_state = (ran s (prepare_transfer 0 rendezvous none none items ∷ [])).0

  -- the words in use of the answers: in the held run, with ids lowered, and in the plain run
  abbrev held : List (List ℕ)
  held = map used_words (map (lower_answer t) (ran held_state rs).1)

  abbrev plain : List (List ℕ)
  plain = map used_words (ran s (map (lower_request t) rs)).1

  -- which conditions are met: moves only; the id not named; no moved value named but by `get_info`; no walk there; nothing wanted
  abbrev met : List Bool
  met =
      every is_move items
      ∷ every (λ r. not (names_id t r)) rs
      ∷ every (λ r. every (λ v. not (uses_value 0 v r)) (map value_of items)) rs
      ∷ every (λ r. not (walks 0 r)) rs
      ∷ not (wanting little held_state rs)
      ∷ []

  abbrev Gives : List Bool → List (List ℕ) → List (List ℕ) → Type 0
  Gives m h p = (met ≡ m) × (held ≡ h) × (plain ≡ p)

-- the objects 0 and 2 are moved out of the slots 3 and 1 of table 0, under the id 7
abbrev items : List Item
items = item as_move (v0 3 1) 3 ∷ item as_move (v0 1 1) 2 ∷ []

-- a moved value named by any request but `get_info`: Busy against done
abbrev Named : Request → List ℕ → Type 0
Named r p = Gives shop 7 items (r ∷ []) (true ∷ true ∷ false ∷ true ∷ true ∷ []) ((3 ∷ []) ∷ []) (p ∷ [])

value_resolved : Named (resolve 0 (v0 3 1) 1 1) (0 ∷ 0 ∷ 100 ∷ 7 ∷ [])
unfolding ran
value_resolved = (refl, refl, refl)

value_duplicated : Named (duplicate 0 (v0 3 1) 1) (0 ∷ 7 ∷ [])
unfolding ran
value_duplicated = (refl, refl, refl)

value_replaced : Named (replace 0 (v0 3 1) 1) (0 ∷ v0 3 2 ∷ [])
unfolding ran
value_replaced = (refl, refl, refl)

value_closed : Named (close 0 (v0 3 1)) (0 ∷ 100 ∷ 1 ∷ 7 ∷ 0 ∷ [])
unfolding ran
value_closed = (refl, refl, refl)

value_moved : Named (prepare_transfer 0 rendezvous none none (item as_move (v0 3 1) 1 ∷ [])) (0 ∷ 7 ∷ [])
unfolding ran
value_moved = (refl, refl, refl)

value_copied : Named (prepare_transfer 0 rendezvous none none (item as_copy (v0 3 1) 1 ∷ [])) (0 ∷ 7 ∷ [])
unfolding ran
value_copied = (refl, refl, refl)

value_consumed : Named (prepare_consumption 0 (v0 3 1) 1 1 100) (0 ∷ 7 ∷ [])
unfolding ran
value_consumed = (refl, refl, refl)

-- `get_info` on it is permitted, and gives the same in both: the handle's own rights, 7, where the receiver gets 3
looked_at : (every (permitted 7 0 (map value_of items)) (get_info 0 (v0 3 1) ∷ []) ≡ true) × Gives shop 7 items (get_info 0 (v0 3 1) ∷ []) (true ∷ true ∷ true ∷ true ∷ true ∷ []) ((0 ∷ 100 ∷ 1 ∷ 7 ∷ 0 ∷ []) ∷ []) ((0 ∷ 100 ∷ 1 ∷ 7 ∷ 0 ∷ []) ∷ [])
unfolding ran
looked_at = (refl, (refl, refl, refl))

-- the transfer's id: done against Misuse
id_named : Gives shop 7 items (rollback 7 ∷ []) (true ∷ false ∷ true ∷ true ∷ true ∷ []) ((0 ∷ []) ∷ []) ((18 ∷ []) ∷ [])
unfolding ran
id_named = (refl, refl, refl)

-- the same by a use: the plan made after the transfer is 7 in the plain run
id_used : Gives shop 7 items (make_plan 0 1 ∷ use_plan 7 ∷ []) (true ∷ false ∷ true ∷ true ∷ true ∷ [])
    ((0 ∷ 7 ∷ 1 ∷ 0 ∷ []) ∷ (18 ∷ []) ∷ [])
    ((0 ∷ 7 ∷ 1 ∷ 0 ∷ []) ∷ (0 ∷ 8 ∷ 1 ∷ v0 0 1 ∷ []) ∷ [])
unfolding ran
id_used = (refl, refl, refl)

-- a scan of that table: one entry and the end against two entries and a next cursor
scanned_there : Gives shop 7 items (scan_handles 0 0 ∷ []) (true ∷ true ∷ true ∷ false ∷ true ∷ [])
    ((0 ∷ 1 ∷ 0 ∷ 0 ∷ 4 ∷ v0 2 1 ∷ 101 ∷ 2 ∷ 3 ∷ 1 ∷ []) ∷ [])
    ((0 ∷ 2 ∷ 1 ∷ 3 ∷ 3 ∷ v0 1 1 ∷ 102 ∷ 1 ∷ 3 ∷ 0 ∷ v0 2 1 ∷ 101 ∷ 2 ∷ 3 ∷ 1 ∷ []) ∷ [])
unfolding ran
scanned_there = (refl, refl, refl)

-- a teardown's start there: OutstandingReservation against done
torn_down : Gives shop 7 items (teardown_start 0 ∷ []) (true ∷ true ∷ true ∷ false ∷ true ∷ []) ((14 ∷ []) ∷ []) ((0 ∷ []) ∷ [])
unfolding ran
torn_down = (refl, refl, refl)

-- a stopping owner's handle removed there: of slot 2 against slot 1
owner_removed : Gives shop 7 items (remove_stopping_owner 0 0 ∷ []) (true ∷ true ∷ true ∷ false ∷ true ∷ [])
    ((0 ∷ 1 ∷ 3 ∷ v0 2 1 ∷ 101 ∷ 2 ∷ 3 ∷ 1 ∷ []) ∷ [])
    ((0 ∷ 1 ∷ 2 ∷ v0 1 1 ∷ 102 ∷ 1 ∷ 3 ∷ 0 ∷ []) ∷ [])
unfolding ran
owner_removed = (refl, refl, refl)

-- want of a row: with two rows the held run has one left
abbrev two_rows : State
two_rows = (ran (created (record { tables = parameters.tables; frames = 3; rows = 2; objects = parameters.objects }))
    (new_object 0 7 0 ∷ reserve 0 1 ∷ publish 2 (1 ∷ []) ∷ [])).0

row_wanted : Gives two_rows 3 (item as_move (v0 3 1) 3 ∷ []) (new_object 1 3 0 ∷ new_object 2 3 0 ∷ []) (true ∷ true ∷ true ∷ true ∷ false ∷ [])
    ((0 ∷ 3 ∷ []) ∷ (1 ∷ []) ∷ [])
    ((0 ∷ 3 ∷ []) ∷ (0 ∷ 4 ∷ []) ∷ [])
unfolding ran
row_wanted = (refl, refl, refl)

row_wanted_by_plan : Gives two_rows 3 (item as_move (v0 3 1) 3 ∷ []) (make_plan 0 1 ∷ make_plan 0 1 ∷ []) (true ∷ true ∷ true ∷ true ∷ false ∷ [])
    ((0 ∷ 3 ∷ 1 ∷ 0 ∷ []) ∷ (1 ∷ []) ∷ [])
    ((0 ∷ 3 ∷ 1 ∷ 0 ∷ []) ∷ (0 ∷ 4 ∷ 1 ∷ 0 ∷ []) ∷ [])
unfolding ran
row_wanted_by_plan = (refl, refl, refl)

-- want of an id: the transfer takes the last one
abbrev last_id_law : State
last_id_law = with_book shop (record { rows = []; capacity = 6; next = last_id - 1 })

id_wanted : Gives last_id_law (last_id - 1) items (duplicate 0 (v0 2 1) 1 ∷ []) (true ∷ true ∷ true ∷ true ∷ false ∷ []) ((12 ∷ []) ∷ [])
    ((0 ∷ (last_id - 1) ∷ []) ∷ [])
unfolding ran
id_wanted = (refl, refl, refl)

-- the same of a plan that stands already
abbrev last_id_planned : State
last_id_planned = let s : State = (ran shop (make_plan 0 1 ∷ [])).0 in with_book s (record { rows = s.book.rows; capacity = 6; next = last_id - 1 })

id_wanted_by_use : Gives last_id_planned (last_id - 1) items (use_plan 7 ∷ []) (true ∷ true ∷ true ∷ true ∷ false ∷ []) ((12 ∷ []) ∷ [])
    ((0 ∷ (last_id - 1) ∷ 1 ∷ v0 0 1 ∷ []) ∷ [])
unfolding ran
id_wanted_by_use = (refl, refl, refl)

-- document 02, 4, judging "may stand in the held and plain runs' list where the held run has a free row and an id left". Where it has no row: place 4 against "would be accepted"
abbrev two_handles : State
two_handles = (ran two_rows (new_object 1 3 0 ∷ reserve 0 1 ∷ publish 4 (3 ∷ []) ∷ [])).0

judged_without_row : Gives two_handles 5 (item as_move (v0 3 1) 3 ∷ []) (new_object 2 3 0 ∷ judge_transfer 0 rendezvous none none (item as_move (v0 2 1) 1 ∷ []) ∷ []) (true ∷ true ∷ true ∷ true ∷ false ∷ [])
    ((0 ∷ 5 ∷ []) ∷ (0 ∷ 1 ∷ 64 ∷ 4 ∷ []) ∷ [])
    ((0 ∷ 5 ∷ []) ∷ (0 ∷ 0 ∷ 0 ∷ 0 ∷ []) ∷ [])
unfolding ran
judged_without_row = (refl, refl, refl)

-- where it has no id: place 5 against "would be accepted"
judged_without_id : Gives last_id_law (last_id - 1) items (judge_transfer 0 rendezvous none none (item as_move (v0 2 1) 1 ∷ []) ∷ []) (true ∷ true ∷ true ∷ true ∷ false ∷ [])
    ((0 ∷ 12 ∷ 64 ∷ 5 ∷ []) ∷ [])
    ((0 ∷ 0 ∷ 0 ∷ 0 ∷ []) ∷ [])
unfolding ran
judged_without_id = (refl, refl, refl)

-- of a moved value: Busy at its place against "would be accepted"
value_judged : Gives shop 7 items (judge_transfer 0 rendezvous none none (item as_move (v0 2 1) 1 ∷ item as_move (v0 3 1) 1 ∷ []) ∷ []) (true ∷ true ∷ false ∷ true ∷ true ∷ [])
    ((0 ∷ 3 ∷ 1 ∷ 7 ∷ []) ∷ [])
    ((0 ∷ 0 ∷ 0 ∷ 0 ∷ []) ∷ [])
unfolding ran
value_judged = (refl, refl, refl)

-- a copy among the moves: it counts as a handle of object 0, whose limit is 5
copy_among : Gives shop 7 (item as_move (v0 1 1) 2 ∷ item as_copy (v0 3 1) 2 ∷ [])
    (duplicate 1 (v1 3 1) 1 ∷ duplicate 1 (v1 3 1) 1 ∷ duplicate 1 (v1 3 1) 1 ∷ [])
    (false ∷ true ∷ true ∷ true ∷ true ∷ [])
    ((0 ∷ 7 ∷ []) ∷ (0 ∷ 8 ∷ []) ∷ (11 ∷ []) ∷ [])
    ((0 ∷ 7 ∷ []) ∷ (0 ∷ 8 ∷ []) ∷ (0 ∷ 9 ∷ []) ∷ [])
unfolding ran
copy_among = (refl, refl, refl)
