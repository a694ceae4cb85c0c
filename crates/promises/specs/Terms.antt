-- What the pages speak of: calls one after the other, and what a request leaves. Assumes nothing.
use Rattle.std.specs.Prelude.{◌≡◌, true, false, List, [], ◌∷◌, ◌++◌, ℕ, ◌*◌, ◌≤◌, length, get_or, take, drop, replicate}
use Rattle.std.proofs.Math.Option.{some}
use Rattle.format.specs.Format.{answer_words}
use Rattle.format.specs.Ops.{op_judge_transfer}
use Rattle.model.specs.Base.{or_else}
use Rattle.model.specs.State.{till, State}
use Rattle.model.specs.Request.{Request}
use Rattle.model.specs.Step.{step, run}
use Rattle.model.proofs.Refusals.{spends}
use Rattle.model.specs.Words.{read_list, all_words}
use Rattle.layout.specs.declared.Shape.{Shape}
use Rattle.representation.specs.Represents.{Rep}
use Rattle.answer.specs.Does.{id_spent}
use Rattle.contract.specs.Ops.{op_of}
use Rattle.contract.specs.Meets.{Called, Meets}
use Rattle.promises.specs.Answers.{is_number}

-- ---- calls

-- a call: its list, the words that are lent for its answers, and what it gave
pub record Call : Type 0 where
  pub list : List ℕ
  pub lent : List ℕ
  pub gave : Called

abbrev pub requests_in : List ℕ → List Request
requests_in list = or_else (read_list list) []

-- the list reads, and 72 words a request are lent
pub record Fits (c : Call) : Type 0 where
  pub reads : read_list c.list ≡ some (requests_in c.list)
  pub enough : answer_words * length (requests_in c.list) ≤ length c.lent

-- "Each request gets what the last one left; nobody else writes it": calls on the words ws
abbrev pub Calls : List ℕ → List Call → Type 0
Calls ws [] = Unit {0}
Calls ws (c ∷ cs) = Meets ws c.list c.lent c.gave × Fits c × Calls c.gave.state cs

-- the state's words that they leave
abbrev pub left : List ℕ → List Call → List ℕ
left ws [] = ws
left ws (c ∷ cs) = left c.gave.state cs

-- all their requests, in words and read
abbrev pub list_of : List Call → List ℕ
list_of [] = []
list_of (c ∷ cs) = c.list ++ list_of cs

abbrev pub requests_of : List Call → List Request
requests_of [] = []
requests_of (c ∷ cs) = requests_in c.list ++ requests_of cs

-- all the answers' words, 72 for each request
abbrev pub answers_of : List Call → List ℕ
answers_of [] = []
answers_of (c ∷ cs) = take (answer_words * length (requests_in c.list)) c.gave.answers ++ answers_of cs

-- "a call that passes them gives 0"
abbrev pub Passed : List Call → Type 0
Passed [] = Unit {0}
Passed (c ∷ cs) = (c.gave.result ≡ 0) × Passed cs

-- what calls do whose lists together read as rs: what the steps of rs do
pub record Together (ws : List ℕ) (sh : Shape) (s : State) (cs : List Call) (rs : List Request) : Type 0 where
  pub passed : Passed cs
  pub answers : answers_of cs ≡ all_words (run till s rs).1
  pub state : Rep (left ws cs) sh (run till s rs).0

-- ---- a request in a list

-- a request whose 72 answer words are a: the state's words were ws and are us. "a refused request carries a number from document 01 and changes nothing, save the one
-- reservation id spent by a transfer preparation refused after its id step": `spends`. A judging (document 02, 4) changes no word, accepted or refused
pub record Keeps (r : Request) (a ws us : List ℕ) : Type 0 where
  pub number : is_number (get_or a 0 0) ≡ true
  pub zeros : (get_or a 0 0 ≡ 0 → ⊥) → drop 1 a ≡ replicate 71 0
  pub kept : (get_or a 0 0 ≡ 0 → ⊥) → spends r (get_or a 0 0) ≡ false → us ≡ ws
  pub spent : spends r (get_or a 0 0) ≡ true → us ≡ id_spent ws
  pub judging : op_of r ≡ op_judge_transfer → us ≡ ws

-- the requests of a list, one after the other, from the words ws that represent s to the words vs; os are the words of their answers. After each request the words us
-- represent the state that its step leaves
abbrev pub Each : Shape → List ℕ → State → List Request → List ℕ → List ℕ → Type 0
Each sh ws s [] os vs = vs ≡ ws
Each sh ws s (r ∷ rs) os vs = (us : List ℕ) × Rep us sh (step till s r).0 × Keeps r (take answer_words os) ws us × Each sh us (step till s r).0 rs (drop answer_words os) vs
