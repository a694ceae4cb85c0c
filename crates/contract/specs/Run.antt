-- A list over words, one request after the other. That a list does what the model's run does, if each request does what the model's step does, is `list_ran` of
-- proofs/Run.antt.
use Rattle.std.specs.Prelude.{◌≡◌}
use mathlib.Core.List.{List, ◌++◌}
use Prim.Native.Nat.{ℕ, zero, suc, ◌+◌, ◌*◌, ◌≤◌}
use Rattle.std.proofs.Math.ListN.{length, take, drop}
use Rattle.format.specs.Format.{answer_words}
use Rattle.format.specs.Ops.{op_judge_transfer}
use Rattle.model.specs.State.{till, State}
use Rattle.model.specs.Request.{Request, Answer}
use Rattle.model.specs.Step.{step, run}
use Rattle.model.specs.Words.{used_words, all_words}
use Rattle.layout.specs.declared.Shape.{Shape}
use Rattle.representation.specs.Represents.{Rep}
use Rattle.request.specs.Place.{request_at, next_at}
use Rattle.request.specs.Answers.{cleared}
use Rattle.request.specs.Laws.{Formed}
use Rattle.answer.specs.Does.{Both, both, Does}
use Rattle.contract.specs.Ops.{op_of}
use Rattle.contract.specs.Meets.{Passes}

-- a request at a place of a list, over the words of a state, whose 72 answer words begin at a base
abbrev pub One : Type 0
One = List ℕ → List ℕ → Shape → List ℕ → ℕ → ℕ → Both

-- n requests in a row
unfoldable pub list_r : One → ℕ → List ℕ → List ℕ → Shape → List ℕ → ℕ → ℕ → Both
list_r one zero ws os sh list at base = both ws os
list_r one (suc n) ws os sh list at base =
    let x : Both = one ws (cleared os base answer_words) sh list at base in
    list_r one n x.state x.answers sh list (next_at list at) (base + answer_words)

-- an answer has at most 72 words
abbrev pub Short : Answer → Type 0
Short a = length (used_words a) ≤ answer_words

-- EACH REQUEST does what the model's step does, and a judging changes no word
abbrev pub Steps : One → Type 0
Steps one = (ws os : List ℕ) (sh : Shape) (s : State) (list : List ℕ) (at base : ℕ) → Rep ws sh s → Formed list at (next_at list at)
    → Does ws os sh base s (request_at list at) (one ws os sh list at base) × Short (step till s (request_at list at)).1
    × (op_of (request_at list at) ≡ op_judge_transfer → (one ws os sh list at base).state ≡ ws)

-- what a list leaves
pub record Ran (ws os : List ℕ) (sh : Shape) (base : ℕ) (s : State) (rs : List Request) (x : Both) : Type 0 where
  pub state : Rep x.state sh (run till s rs).0
  pub each : Passes sh ws s rs x.state
  pub answers : x.answers ≡ take base os ++ (all_words (run till s rs).1 ++ drop (base + answer_words * length rs) os)
