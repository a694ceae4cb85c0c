-- DEMAND 3 of document 00, over words: the held and the plain run. `TwoRuns` is what the demand sets up, `Same` what it claims, each beside its words.
-- What permitted, wanting and lowered states mean stands in crates/noninterference/specs/Runs.antt; lists and answers with ids lowered in Lower.antt; calls one after the
-- other in Terms.antt. The theorem is `demand_3` of proofs/Demand3.antt. Assumes nothing.
use Rattle.std.specs.Prelude.{◌≡◌, true, false, List, [], ◌∷◌, ◌++◌, map, ℕ, ◌+◌, ◌*◌, ◌<◌, length, get_or, take, drop}
use Rattle.std.proofs.Math.Option.{Option, some}
use Rattle.format.specs.Format.{answer_words}
use Rattle.model.specs.Base.{every}
use Rattle.model.specs.State.{till, State}
use Rattle.model.specs.Request.{Route, Item, Request, Request.prepare_transfer, Answer.done}
use Rattle.model.specs.Step.{step}
use Rattle.model.specs.WellFormed.{Equal}
use Rattle.model.specs.Words.{read_list, words_of}
use Rattle.layout.specs.declared.Shape.{Shape}
use Rattle.representation.specs.Represents.{Rep}
use Rattle.noninterference.specs.Names.{value_of}
use Rattle.noninterference.specs.Runs.{is_move, permitted, wanting, lowered, lower_table, lower_state}
use Rattle.noninterference.specs.Plans.{PlansStand}
use Rattle.promises.specs.Lower.{lower_words, lower_answers, Ending, Ending.rolled_back, Ending.committed, end_h, end_p}
use Rattle.promises.specs.Terms.{Call, Calls, left, list_of, answers_of, Passed}

pub record TwoRuns : Type 0 where
  -- "Two runs start from any two equal, well formed states": H's words ws represent s, P's words us represent u
  -- (two slices of words are equal states exactly if they represent one state: where a row stands, its rank, the index and a mark's word 2 are no fields of document 01)
  pub sh : Shape
  pub ws : List ℕ
  pub us : List ℕ
  pub s : State
  pub u : State
  pub start_h : Rep ws sh s
  pub start_p : Rep us sh u
  pub equal : Equal s u
  -- "a transfer of moves only", in words
  pub table : ℕ
  pub route : Route
  pub banned_object : Option ℕ
  pub banned_kind : Option ℕ
  pub items : List Item
  pub moves : every is_move items ≡ true
  pub transfer : List ℕ
  pub transfers : read_list transfer ≡ some (prepare_transfer table route banned_object banned_kind items ∷ [])
  -- "a list of requests", in words
  pub list : List ℕ
  pub requests : List Request
  pub reads : read_list list ≡ some requests
  -- "Run H prepares a transfer .., runs a list of requests, then" ends it: in calls hs, cut anywhere. "accepted": word 0 of the first answer is 0; the id t is its word 1
  pub ending : Ending
  pub t : ℕ
  pub hs : List Call
  pub calls_h : Calls ws hs
  pub list_h : list_of hs ≡ transfer ++ (list ++ end_h ending t)
  pub accepted : get_or (answers_of hs) 0 0 ≡ 0
  pub id : get_or (answers_of hs) 1 0 ≡ t
  -- "run P runs the same list without the transfer": in calls ps, cut anywhere. "Ids above the transfer's .. are one lower in P, in list .."
  pub ps : List Call
  pub calls_p : Calls us ps
  pub list_p : list_of ps ≡ lower_words t list ++ end_p ending table (map value_of items)
  -- "The list names neither those values in that table nor that transfer's id, and neither scans, starts tearing down nor removes for a stopping owner there"; document 02, 2: "the list may
  -- now hold `get_info` on moved values"
  pub permits : every (permitted t table (map value_of items)) requests ≡ true
  -- "H refuses nothing for want of a row or an id"; document 02, 4: judging "may stand in the held and plain runs' list where the held run has a free row and an id left"
  pub wants : wanting till (step till s (prepare_transfer table route banned_object banned_kind items)).0 requests ≡ false

pub record Same (x : TwoRuns) : Type 0 where
  -- every call gives 0; the transfer's end is accepted, all words of its answer are 0; and so is every closing, word 0 of each answer is 0
  pub passed : Passed x.hs × Passed x.ps
  pub ended : drop (answer_words + answer_words * length x.requests) (answers_of x.hs) ≡ words_of done
  pub closed : x.ending ≡ committed → (i : ℕ) → i < length x.items → get_or (drop (answer_words * length x.requests) (answers_of x.ps)) (answer_words * i) 18 ≡ 0
  -- "every answer to the list is the same in both", all 72 words, ids above t one lower. H's first 72 words are the transfer's answer
  pub answers : take (answer_words * length x.requests) (answers_of x.ps)
      ≡ lower_answers x.t x.requests (take (answer_words * length x.requests) (drop answer_words (answers_of x.hs)))
  -- the states that the runs leave
  pub state_h : State
  pub state_p : State
  pub held : Rep (left x.ws x.hs) x.sh state_h
  pub plain : Rep (left x.us x.ps) x.sh state_p
  -- "and so is the whole end state after a rollback", ids above t, "the next id included", one lower
  pub whole : x.ending ≡ rolled_back → state_p ≡ lower_state x.t state_h
  -- "or every table after a commit": "its head, lifecycle, counts, pages with frames, slots and orders, with every field in use"
  pub tables : (c : ℕ) → state_p.tables c ≡ lower_table x.t (state_h.tables c)
  -- "the next id included": one lower in P after either end
  pub next : state_p.book.next ≡ lowered x.t state_h.book.next
  -- document 02, 1: "A shopkeeper's held transfer must not make any plan stale": the plans are the same, ids above t one lower, and what is stale in H is stale in P,
  -- and nothing else
  pub plans : PlansStand till (lowered x.t) state_h state_p
