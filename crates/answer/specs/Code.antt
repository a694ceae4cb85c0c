-- What the code says, in the terms of the definitions. Assumes nothing.
use Rattle.std.specs.Prelude.{◌≡◌, refl, [], ◌∷◌, Result, Ok, Err}
use Rattle.std.proofs.Common.{sym, ap, ◌∙◌, ◌++◌, List, ℕ, ◌+◌, ◌<◌, length, get_or, set, take, take-suc, length-take-le, add-one, arith}
use Rattle.format.specs.declared.refusal.Refusal.{Refusal}
use Rattle.format.specs.Refusals.{number_of}
use Rattle.request.specs.Answers.{puts}
use Rattle.answer.specs.Does.{reply, no_words, answered, puts_append}

-- an answer that says no more is its number
pub number_alone : (r : Result (Unit {0}) Refusal) → reply no_words r ≡ number_of r ∷ []
number_alone (Ok u) = refl
number_alone (Err e) = refl

-- one word more, after the first i of some
pub one_more : (os : List ℕ) (base : ℕ) (ws : List ℕ) (i : ℕ) → i < length ws → answered os base (0 ∷ take (i + 1) ws) ≡ set (answered os base (0 ∷ take i ws)) (base + (i + 1)) (get_or ws i 0)
unfolding puts
one_more os base ws i h =
    let n : length (take i ws) ≡ i = length-take-le i ws (omega arith) in
    let m : take i ws ++ (get_or ws i 0 ∷ []) ≡ take (i + 1) ws = rw add-one (sym (take-suc ws i 0 h)) in
    let k : base + (0 + length (0 ∷ take i ws)) ≡ base + (i + 1) = omega arith in
    ap (λ (l : List ℕ). answered os base (0 ∷ l)) (sym m)
    ∙ puts_append os base 0 (0 ∷ take i ws) (get_or ws i 0 ∷ [])
    ∙ ap (λ (j : ℕ). set (answered os base (0 ∷ take i ws)) j (get_or ws i 0)) k
