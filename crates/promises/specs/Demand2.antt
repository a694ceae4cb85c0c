-- DEMAND 2 of document 00: "each request is also proved equal to a step defined from document 01." Answer words and the state that is left are those of the steps
-- (crates/model/specs/Step.antt), wherever a list is cut into calls. The theorems, `demand_2` and those whose names begin so, are in
-- proofs/Demand2.antt. Assumes nothing.
use Rattle.std.specs.Prelude.{◌≡◌, List, ◌++◌, ℕ, ◌*◌, ◌≤◌, length, get_or, drop}
use Rattle.format.specs.Format.{answer_words}
use Rattle.model.specs.State.{till, State}
use Rattle.model.specs.Request.{Request}
use Rattle.model.specs.Create.{created}
use Rattle.model.specs.Step.{run}
use Rattle.model.specs.Words.{all_words}
use Rattle.layout.specs.declared.Shape.{Shape}
use Rattle.layout.specs.Layout.{total}
use Rattle.representation.specs.Represents.{Rep}
use Rattle.representation.specs.Unique.{shape_for}
use Rattle.create.specs.Parameters.{parameters_of}
use Rattle.contract.specs.Meets.{Called}
use Rattle.promises.specs.Terms.{Call, left, answers_of}

-- a call on words that represent s, whose list reads as rs and for which 72 words a request are lent, gave x
pub record Steps (ws os : List ℕ) (sh : Shape) (s : State) (rs : List Request) (x : Called) : Type 0 where
  pub result : x.result ≡ 0
  -- every answer's 72 words, in order; "words after the last answer keep their contents"
  pub answers : x.answers ≡ all_words (run till s rs).1 ++ drop (answer_words * length rs) os
  -- the words left represent the state that the steps leave, and words past the state's end keep their contents
  pub state : Rep x.state sh (run till s rs).0
  pub beyond : drop (total sh) x.state ≡ drop (total sh) ws

-- so a list may be cut into calls anywhere between its requests: the answers' words are the same, and the words left represent one state
pub record Cut (sh : Shape) (ws us : List ℕ) (cs ds : List Call) : Type 0 where
  pub answers : answers_of cs ≡ answers_of ds
  pub end : State
  pub first : Rep (left ws cs) sh end
  pub second : Rep (left us ds) sh end

-- creation: "makes active tables without pages, new objects, free frames, no rows and next id 1"; words past the state's end keep their contents
pub record Makes (ws ps : List ℕ) (r : ℕ) (us : List ℕ) : Type 0 where
  pub result : r ≡ 0
  pub state : Rep us (shape_for (created (parameters_of ps))) (created (parameters_of ps))
  pub beyond : (i : ℕ) → total (shape_for (created (parameters_of ps))) ≤ i → get_or us i 0 ≡ get_or ws i 0
