-- DEMAND 1 of document 00: "A caller may send any words as state, requests or ids and receives an answer that ends; a refused request carries a number from document 01
-- and changes nothing, save the one reservation id spent by a transfer preparation refused after its id step."
--
-- The two calls end: their functions are proved to, whatever the words and lengths. Here is what they give. `Meets` is the runner's contract, `Creates` creation's, and
-- `Rep ws sh s` says that the words ws represent the well-formed state s, whose counts are sh.
-- The theorems are `demand_1` and `demand_1_creation` of proofs/Demand1.antt. Assumes nothing.
use Rattle.std.specs.Prelude.{◌≡◌, true, List, [], ◌∷◌, ◌↔◌, ℕ, ◌*◌, ◌≤◌, ◌<◌, length}
use Rattle.std.proofs.Math.Option.{none, some}
use Rattle.format.specs.Format.{answer_words}
use Rattle.model.specs.Base.{member}
use Rattle.model.specs.State.{State}
use Rattle.model.specs.Request.{Request}
use Rattle.model.specs.Words.{read_list}
use Rattle.layout.specs.declared.Shape.{Shape}
use Rattle.representation.specs.Represents.{Rep}
use Rattle.create.specs.Meets.{Asked}
use Rattle.contract.specs.Meets.{Called}
use Rattle.promises.specs.Terms.{Each}

-- a call on any words ws, list and os gave x
pub record Ends (ws list os : List ℕ) (x : Called) : Type 0 where
  pub result : member x.result (0 ∷ 18 ∷ 19 ∷ 20 ∷ []) ≡ true
  -- "Order: state check 18, list 19, answer length 20", each exactly then
  pub misuse : (x.result ≡ 18) ↔ ((sh : Shape) (s : State) → Rep ws sh s → ⊥)
  pub malformed : (sh : Shape) (s : State) → Rep ws sh s → (x.result ≡ 19) ↔ (read_list list ≡ none)
  pub short : (sh : Shape) (s : State) → Rep ws sh s → (x.result ≡ 20) ↔ ((rs : List Request) × (read_list list ≡ some rs) × (length os < answer_words * length rs))
  -- "these are the whole call's result and no lent word changes, while a call that passes them gives 0"
  pub kept : (x.result ≡ 0 → ⊥) → (x.state ≡ ws) × (x.answers ≡ os)
  -- "Then every request runs": of each, in turn, the number is 0 to 18, or 21; after a refusal the other 71 words are 0, and the state's words are as they were, or the one id is
  -- spent (`Keeps` in Terms.antt)
  pub refused : (sh : Shape) (s : State) → Rep ws sh s → (rs : List Request) → read_list list ≡ some rs → answer_words * length rs ≤ length os → Each sh ws s rs x.answers x.state

-- creation on any words ws and parameters ps gave r and left us
pub record CreationEnds (ws ps : List ℕ) (r : ℕ) (us : List ℕ) : Type 0 where
  pub result : member r (0 ∷ 18 ∷ []) ≡ true
  -- "Outside these limits, or with too few lent words, it gives 18 and changes no word"
  pub refused : (r ≡ 18) ↔ (Asked ws ps → ⊥)
  pub kept : (r ≡ 0 → ⊥) → us ≡ ws
