-- THE CALL in document 01's terms: what is promised of a call's result and of every lent word.
use Rattle.std.specs.Prelude.{◌≡◌, false, List, [], ◌∷◌, ℕ, drop}
use Rattle.std.proofs.Math.Option.{some}
use Rattle.format.specs.Ops.{op_judge_transfer}
use Rattle.model.specs.State.{till, State}
use Rattle.model.specs.Request.{Request}
use Rattle.model.specs.Decision.{Decision.refusal, Decision.refusal_after_id}
use Rattle.model.specs.Step.{decide, step}
use Rattle.model.specs.Words.{read_list, answer_short, call}
use Rattle.layout.specs.declared.Shape.{Shape}
use Rattle.layout.specs.Layout.{total}
use Rattle.representation.specs.Represents.{Rep}
use Rattle.answer.specs.Does.{id_spent}
use Rattle.contract.specs.Ops.{op_of}

-- a call's result, the state's words and the answer words that it leaves
pub record Called : Type 0 where
  pub result : ℕ
  pub state : List ℕ
  pub answers : List ℕ

abbrev pub called : ℕ → List ℕ → List ℕ → Called
called r ws os = record { result = r; state = ws; answers = os }

-- the state's words from one request to the next: ws before a list, us after its first request, vs after the last. "a refused request .. changes nothing, save the one
-- reservation id spent by a transfer preparation refused after its id step": no word of the state changes, or the next id's alone; and none by "a request that judges a transfer without
-- preparing it" (document 02, 4)
abbrev pub Passes : Shape → List ℕ → State → List Request → List ℕ → Type 0
Passes sh ws s [] vs = vs ≡ ws
Passes sh ws s (r ∷ rs) vs =
    (us : List ℕ) × Rep us sh (step till s r).0
    × ((n : ℕ) → decide till s r ≡ refusal n → us ≡ ws)
    × ((n : ℕ) → decide till s r ≡ refusal_after_id n → us ≡ id_spent ws)
    × (op_of r ≡ op_judge_transfer → us ≡ ws)
    × Passes sh us (step till s r).0 rs vs

-- `call till (some s)` is what the model says of a call on the state s
pub record Meets (ws list os : List ℕ) (x : Called) : Type 0 where
  -- the words represent the well-formed state s: the result and every answer word are the model's, and the words left represent the state that it leaves
  pub result : (sh : Shape) (s : State) → Rep ws sh s → x.result ≡ (call till (some s) list os).result
  pub answers : (sh : Shape) (s : State) → Rep ws sh s → x.answers ≡ (call till (some s) list os).answers
  pub state : (sh : Shape) (s u : State) → Rep ws sh s → (call till (some s) list os).state ≡ some u → Rep x.state sh u
  -- "Then every request runs": request by request
  pub each : (sh : Shape) (s : State) (rs : List Request) → Rep ws sh s → read_list list ≡ some rs → answer_short os rs ≡ false → Passes sh ws s rs x.state
  -- the words past the state's end keep what they had
  pub beyond : (sh : Shape) (s : State) → Rep ws sh s → drop (total sh) x.state ≡ drop (total sh) ws
  -- they represent none: 18
  pub misuse : ((sh : Shape) (s : State) → Rep ws sh s → ⊥) → x.result ≡ 18
  -- "these are the whole call's result and no lent word changes"
  pub kept : (x.result ≡ 0 → ⊥) → (x.state ≡ ws) × (x.answers ≡ os)
