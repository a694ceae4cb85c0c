-- What a request's function over words does: the state's words come to represent the model's next state, and the answer's words are those of
-- the model's answer. Assumes nothing.
use Rattle.std.specs.Prelude.{◌≡◌, List, [], ◌∷◌, ◌++◌, length, get_or, set, eqb, Result, Ok, Err}
use Rattle.std.proofs.Math.Path.{refl}
use Rattle.std.proofs.Common.{sym, ap, ◌∙◌}
use Prim.Native.Nat.{ℕ, zero, suc, ◌+◌, ◌-◌}
use native.Mathlib.Omega.{arith}
use borrow.Author.Tests.{ne_eqb}
use Rattle.words.specs.Pick.{pick}
use Rattle.model.specs.State.{till, State}
use Rattle.model.specs.Request.{Request, Answer, Answer.done}
use Rattle.model.specs.Decision.{Decision, Decision.refusal, Decision.refusal_after_id, Decision.accept}
use Rattle.model.specs.Book.{spend_id}
use Rattle.model.specs.Step.{decide, carry, step}
use Rattle.model.specs.Words.{used_words}
use Rattle.layout.specs.declared.Shape.{Shape}
use Rattle.codec.specs.declared.ReservationId.{ReservationId}
use Rattle.layout.specs.Fields.{root_next_id}
use Rattle.representation.specs.Represents.{Reps, Rep}
use Rattle.format.specs.declared.refusal.Refusal.{Refusal}
use Rattle.format.specs.Refusals.{number}
use Rattle.request.specs.Answers.{puts}

-- the words of a state and the words for answers
pub record Both : Type 0 where
  pub state : List ℕ
  pub answers : List ℕ

abbrev pub both : List ℕ → List ℕ → Both
both ws os = record { state = ws; answers = os }

-- the answer whose words begin at `base` gets the words of a list, from its first on
abbrev pub answered : List ℕ → ℕ → List ℕ → List ℕ
answered os base vs = puts os base 0 vs

-- the words of an answer: 0 and those of what was done, or a refusal's number
abbrev pub reply : {A : Type 0} → (A → List ℕ) → Result A Refusal → List ℕ
reply words_of (Ok a) = 0 ∷ words_of a
reply words_of (Err e) = number e ∷ []

-- the words of what was done, where nothing is to be said of it
abbrev pub no_words : Unit {0} → List ℕ
no_words u = []

-- the word of an id
abbrev pub id_words : ReservationId → List ℕ
id_words i = i.0 ∷ []

-- what a request does whose answer has the words vs and after which the state has the words ws: the same wherever that answer is put
abbrev pub Gives : List ℕ → List ℕ → (List ℕ → ℕ → Both) → Type 0
Gives ws vs does = (os : List ℕ) (base : ℕ) → both ws (answered os base vs) ≡ does os base

-- a refusal: the number, and no word of the state changes
abbrev pub refuse_r : List ℕ → List ℕ → ℕ → ℕ → Both
refuse_r ws os base n = both ws (answered os base (n ∷ []))

-- what f makes of the row of a link, which is its place plus 1; "unknown .. open row of the kind named": 18
unfoldable pub on_row_r : (ℕ → List ℕ) → List ℕ → List ℕ → ℕ → ℕ → Both
on_row_r f ws os base l = pick (eqb l 0) (refuse_r ws os base 18) (both (f (l - 1)) (answered os base (0 ∷ [])))

-- the words with one id spent: the header's next id is one more
unfoldable pub id_spent : List ℕ → List ℕ
id_spent ws = set ws root_next_id (get_or ws root_next_id 0 + 1)

-- what a decision is, it is alone
refusal_is : (n k : ℕ) → refusal n ≡ refusal_after_id k → ⊥
refusal_is n k e = let z : ◌≡◌ {A = ℕ} 0 1 = cc in omega arith

accept_not : (u : State) (a : Answer) (n : ℕ) → accept u a ≡ refusal n → ⊥
accept_not u a n e = let z : ◌≡◌ {A = ℕ} 0 1 = cc in omega arith

accept_never : (u : State) (a : Answer) (n : ℕ) → accept u a ≡ refusal_after_id n → ⊥
accept_never u a n e = let z : ◌≡◌ {A = ℕ} 0 1 = cc in omega arith

-- THE STEP over words: what the words x are after request r in state s, whose words were ws
pub record Does (ws os : List ℕ) (sh : Shape) (base : ℕ) (s : State) (r : Request) (x : Both) : Type 0 where
  pub state : Reps x.state sh (step till s r).0
  pub answers : x.answers ≡ answered os base (used_words (step till s r).1)
  -- "a refused request .. changes nothing": every word of the state is as it was, save the next id's word after a transfer's id step
  pub kept : (n : ℕ) → decide till s r ≡ refusal n → x.state ≡ ws
  pub spent : (n : ℕ) → decide till s r ≡ refusal_after_id n → x.state ≡ id_spent ws

module _ (os : List ℕ) (sh : Shape) (base : ℕ) (s : State) (r : Request) where
  pub does_refused : (ws : List ℕ) (n : ℕ) → Reps ws sh s → decide till s r ≡ refusal n → Does ws os sh base s r (refuse_r ws os base n)
  unfolding step used_words
  does_refused ws n i e = record { state = rw e i; answers = rw e; kept = λ k q. refl; spent = λ k q. absurd (refusal_is n k (sym e ∙ q)) }

  -- a transfer preparation refused after its id step: the id is spent
  pub does_refused_after_id : (ws : List ℕ) (n : ℕ) → Reps (id_spent ws) sh (spend_id s) → decide till s r ≡ refusal_after_id n → Does ws os sh base s r (refuse_r (id_spent ws) os base n)
  unfolding step used_words
  does_refused_after_id ws n i e = record { state = rw e i; answers = rw e; kept = λ k q. absurd (refusal_is k n (sym q ∙ e)); spent = λ k q. refl }

  pub does_accepted : {ws : List ℕ} (vs : List ℕ) (u : State) (a : Answer) → Reps vs sh u → decide till s r ≡ accept u a → Does ws os sh base s r (both vs (answered os base (used_words a)))
  unfolding step
  does_accepted vs u a i e = record { state = rw e i; answers = rw e; kept = λ k q. absurd (accept_not u a k (sym e ∙ q)); spent = λ k q. absurd (accept_never u a k (sym e ∙ q)) }

  pub does_on_row : (ws : List ℕ) (f : ℕ → List ℕ) (l : ℕ) → Reps ws sh s → (l ≡ 0 → decide till s r ≡ refusal 18)
      → ((x : ℕ) → l ≡ suc x → (u : State) × Reps (f x) sh u × (decide till s r ≡ accept u done)) → Does ws os sh base s r (on_row_r f ws os base l)
  unfolding on_row_r used_words
  does_on_row ws f zero i none_there there = does_refused ws 18 i (none_there refl)
  does_on_row ws f (suc x) i none_there there = let p = there x refl in let z : suc x - 1 ≡ x = omega arith in
      rw (z, ne_eqb (suc x) 0 (λ q. omega arith)) (does_accepted (f x) p.0 done p.1 p.2)

-- ---- by a definition that decides

-- as `Does`, by the decision d in the place of a request: for a contract that names a definition. `Does` stays a record of its own, so that its proofs need not open `decide`
pub record Carries (ws os : List ℕ) (sh : Shape) (base : ℕ) (s : State) (d : Decision) (x : Both) : Type 0 where
  pub state : Reps x.state sh (carry till s d).0
  pub answers : x.answers ≡ answered os base (used_words (carry till s d).1)
  pub kept : (n : ℕ) → d ≡ refusal n → x.state ≡ ws
  pub spent : (n : ℕ) → d ≡ refusal_after_id n → x.state ≡ id_spent ws

-- so of every well-formed state that the words represent
pub record Takes (ws os : List ℕ) (sh : Shape) (base : ℕ) (decides : State → Decision) (x : Both) : Type 0 where
  pub each : (s : State) → Rep ws sh s → Carries ws os sh base s (decides s) x

-- a definition that decides a request as document 01 does
pub takes : (ws os : List ℕ) (sh : Shape) (base : ℕ) (r : Request) (decides : State → Decision) (x : Both) → ((s : State) → decides s ≡ decide till s r)
    → ((s : State) → Rep ws sh s → Does ws os sh base s r x) → Takes ws os sh base decides x
unfolding step
takes ws os sh base r decides x same does = record {
  each = λ s i. let d = does s i in
      record { state = rw (same s) d.state; answers = rw (same s) d.answers; kept = λ n e. d.kept n (sym (same s) ∙ e); spent = λ n e. d.spent n (sym (same s) ∙ e) };
}

-- ---- answers of many words

-- words after words
pub puts_append : (os : List ℕ) (base i : ℕ) (us vs : List ℕ) → puts os base i (us ++ vs) ≡ puts (puts os base i us) base (i + length us) vs
unfolding puts
puts_append os base i [] vs = ap (λ (k : ℕ). puts os base k vs) (omega arith)
puts_append os base i (x ∷ us) vs = puts_append (set os (base + i) x) base (suc i) us vs ∙ ap (λ (k : ℕ). puts (puts (set os (base + i) x) base (suc i) us) base k vs) (omega arith)
