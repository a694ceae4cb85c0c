-- Document 02, 4: "Which check refused the transfer": what judging a transfer answers, of every state, well formed or not, and with the page size as a parameter. That judging may stand in the list of
-- the two runs "where the held run has a free row and an id left" is part of `wanting`, and so of Demand3.antt. The theorems are `judging` and `judging_call` of proofs/Judging.antt. Assumes nothing.
use Rattle.std.specs.Prelude.{◌≡◌, Bool, true, false, List, [], ◌∷◌, ◌++◌, map, ◌↔◌, ℕ, suc, ◌≤◌, ◌<◌, length, drop}
use Rattle.std.proofs.Math.Option.{Option, none, some}
use Rattle.format.specs.Format.{answer_words}
use Rattle.model.specs.Base.{every}
use Rattle.model.specs.State.{Sizes, Table, Object, Entry, Entry.moved, Entry.copied, State}
use Rattle.model.specs.Request.{Route, Item, Fault, Request.prepare_transfer, Request.judge_transfer, Answer.refused, Answer.judged}
use Rattle.model.specs.Objects.{change, raise}
use Rattle.model.specs.Lookup.{lookup}
use Rattle.model.specs.Transfer.{Check, no_item, batch_checks, item_checks, copy_checks, transfer_fault, entry_for}
use Rattle.model.specs.Step.{step, run}
use Rattle.model.specs.Words.{padded, judged_words}
use Rattle.noninterference.specs.Runs.{accepted}
use Rattle.contract.specs.Meets.{Called}

-- a check of preparation, with the position of the item that it is of
pub record Placed : Type 0 where
  pub check : Check
  pub position : ℕ

abbrev pub placed_in : ℕ → List Check → List Placed
placed_in j cs = map (λ c. record { check = c; position = j }) cs

-- "item by item .. then copies", each with the counts that earlier copies raised
abbrev pub all_of_items : State → Table → Route → Option ℕ → Option ℕ → (earlier : List ℕ) → ℕ → List Item → List Placed
all_of_items s t route o k earlier j [] = []
all_of_items s t route o k earlier j (q ∷ qs) = placed_in j (item_checks s route o k earlier q (lookup t q.value)) ++ all_of_items s t route o k (q.value ∷ earlier) (suc j) qs

abbrev pub all_of_copies : (ℕ → Object) → ℕ → List Entry → List Placed
all_of_copies os j [] = []
all_of_copies os j (moved k h r ∷ es) = all_of_copies os (suc j) es
all_of_copies os j (copied h ∷ es) = placed_in j (copy_checks (os h.object)) ++ all_of_copies (change raise os h.object) (suc j) es

-- ALL CHECKS of a transfer from table t, in the printed order; "64 where no item is at fault"
abbrev pub all_checks : State → Table → Route → Option ℕ → Option ℕ → List Item → List Placed
all_checks s t route o k qs =
    placed_in no_item (batch_checks s t (length qs)) ++ (all_of_items s t route o k [] 0 qs ++ all_of_copies s.objects 0 (map (entry_for t) qs))

abbrev pub passes : Placed → Bool
passes c = c.check.holds

-- "the item where preparation stops .. and the rule's place in the printed order": the first of the checks that does not hold; every check before it, of this item and of all items before it, passes
pub record FirstOf (cs : List Placed) (f : Fault) : Type 0 where
  pub before : List Placed
  pub one : Placed
  pub behind : List Placed
  pub whole : cs ≡ before ++ (one ∷ behind)
  pub pass : every passes before ≡ true
  pub fails : passes one ≡ false
  pub number : f.number ≡ one.check.number
  pub position : f.position ≡ one.position
  pub place : f.place ≡ one.check.place

-- judging in the state s, beside preparing in the same state
pub record Judges (z : Sizes) (s : State) (b : ℕ) (route : Route) (o k : Option ℕ) (qs : List Item) : Type 0 where
  -- "no id is spent", and nothing else changes
  pub changes_nothing : (step z s (judge_transfer b route o k qs)).0 ≡ s
  pub twice : (run z s (judge_transfer b route o k qs ∷ judge_transfer b route o k qs ∷ [])).1 ≡ (step z s (judge_transfer b route o k qs)).1 ∷ (step z s (judge_transfer b route o k qs)).1 ∷ []
  -- "Preparation's Misuse refuses the judging itself"; nothing else does
  pub misuse : (s.table_count ≤ b) ↔ ((step z s (judge_transfer b route o k qs)).1 ≡ refused 18)
  pub misuse_of_both : ((step z s (judge_transfer b route o k qs)).1 ≡ refused 18) ↔ ((step z s (prepare_transfer b route o k qs)).1 ≡ refused 18)
  pub told : b < s.table_count → (step z s (judge_transfer b route o k qs)).1 ≡ judged (transfer_fault s (s.tables b) route o k qs)
  -- "would be accepted" exactly where preparation is
  pub accepted_as : ((step z s (judge_transfer b route o k qs)).1 ≡ judged none) ↔ (accepted (step z s (prepare_transfer b route o k qs)).1 ≡ true)
  pub all_pass : (step z s (judge_transfer b route o k qs)).1 ≡ judged none → every passes (all_checks s (s.tables b) route o k qs) ≡ true
  -- "Its refusal must be the one that preparation would give in the same state"
  pub refused_as : (f : Fault) → (step z s (judge_transfer b route o k qs)).1 ≡ judged (some f) → (step z s (prepare_transfer b route o k qs)).1 ≡ refused f.number
  pub stops_at : (f : Fault) → (step z s (judge_transfer b route o k qs)).1 ≡ judged (some f) → FirstOf (all_checks s (s.tables b) route o k qs) f
  -- "Places run from 1, TableRetired, to 17, a copy at the limit"; a position is that of one of the items, or 64 for the five places before them; the number is not 0, which says "would be accepted"
  pub ranges : (f : Fault) → (step z s (judge_transfer b route o k qs)).1 ≡ judged (some f)
      → (1 ≤ f.number) × (f.number ≤ 17) × (1 ≤ f.place) × (f.place ≤ 17) × (f.place ≤ 5 → f.position ≡ 64) × (6 ≤ f.place → f.position < length qs)

-- a call on words that represent s, whose list is one judging of a table that s has: where the preparation would stop, f, and "no word of the state changes"
pub record JudgedCall (ws os : List ℕ) (f : Option Fault) (x : Called) : Type 0 where
  pub result : x.result ≡ 0
  pub answer : x.answers ≡ padded answer_words (0 ∷ judged_words f) ++ drop answer_words os
  pub state : x.state ≡ ws
