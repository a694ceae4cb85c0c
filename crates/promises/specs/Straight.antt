-- Document 02, 3: "Drop the temporary batch in publish. However publishing is done now, write the handles from their rows straight into the slots, with no buffer or array of handles between.
-- Prove that no answer or state changes, refusals included." Publish, and direct commit, stand a second time in crates/straight (specs/Straight.antt): `step_straight` is the step of a request with
-- these two straight from the rows, as the code goes. The theorems are `nothing_changes` and `straight_calls` of proofs/Straight.antt. Assumes nothing.
use Rattle.std.specs.Prelude.{◌≡◌, List, ◌++◌, ℕ, ◌*◌, length, drop}
use Rattle.format.specs.Format.{answer_words}
use Rattle.model.specs.State.{Sizes, till, State}
use Rattle.model.specs.WellFormed.{WellFormed}
use Rattle.model.specs.Request.{Request, Request.publish, Request.direct_commit}
use Rattle.model.specs.Step.{decide, step, run}
use Rattle.model.specs.Words.{all_words}
use Rattle.straight.specs.Straight.{step_straight, run_straight}
use Rattle.straight.specs.FromEnd.{publish_from_end, direct_commit_from_end}
use Rattle.layout.specs.declared.Shape.{Shape}
use Rattle.representation.specs.Represents.{Rep}
use Rattle.contract.specs.Meets.{Called}

-- "no answer or state changes, refusals included": of every state, well formed or not, and of every request and every list
pub record NothingChanges (z : Sizes) : Type 0 where
  pub answer : (s : State) (r : Request) → (step_straight z s r).1 ≡ (step z s r).1
  pub state : (s : State) (r : Request) → (step_straight z s r).0 ≡ (step z s r).0
  pub answers : (s : State) (rs : List Request) → (run_straight z s rs).1 ≡ (run z s rs).1
  pub states : (s : State) (rs : List Request) → (run_straight z s rs).0 ≡ (run z s rs).0
  -- nor where the batch is laid in the order of the Rust's `publish`, the last handle first: of every well-formed state, the only one that a call can have
  pub from_end : (s : State) → WellFormed z s → (i : ℕ) (is : List ℕ) → publish_from_end z s i is ≡ decide z s (publish i is)
  pub direct_from_end : (s : State) → WellFormed z s → (i j : ℕ) → direct_commit_from_end z s i j ≡ decide z s (direct_commit i j)

-- a call on words that represent s, whose list reads as rs and for which 72 words a request are lent, gave x: what the list does where publish and direct commit go straight from the rows
pub record GoesStraight (os : List ℕ) (sh : Shape) (s : State) (rs : List Request) (x : Called) : Type 0 where
  pub result : x.result ≡ 0
  pub answers : x.answers ≡ all_words (run_straight till s rs).1 ++ drop (answer_words * length rs) os
  pub state : Rep x.state sh (run_straight till s rs).0
