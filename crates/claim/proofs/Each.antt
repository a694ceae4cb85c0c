-- What is done at each of some numbers, one more. Assumes nothing.
use Rattle.std.specs.Prelude.{◌≡◌, List, ℕ, zero, suc, ◌+◌}
use Rattle.std.proofs.Common.{ap, ◌∙◌, arith}
use Rattle.claim.specs.Ops.{each}

each_suc : (f : List ℕ → ℕ → List ℕ) (ws : List ℕ) (j n : ℕ) → each f ws j (suc n) ≡ f (each f ws j n) (j + n)
unfolding each
each_suc f ws j zero = let z : j + 0 ≡ j = omega arith in rw z
each_suc f ws j (suc n) = let z : suc j + n ≡ j + suc n = omega arith in each_suc f (f ws j) (suc j) n ∙ ap (f (each f (f ws j) (suc j) n)) z

pub each_last : (f : List ℕ → ℕ → List ℕ) (ws : List ℕ) (n : ℕ) → each f ws 0 (n + 1) ≡ f (each f ws 0 n) n
each_last f ws n = let z : n + 1 ≡ suc n = omega arith in let y : 0 + n ≡ n = omega arith in ap (each f ws 0) z ∙ each_suc f ws 0 n ∙ ap (f (each f ws 0 n)) y
