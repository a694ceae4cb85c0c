-- What a turn of the code's loop adds. Assumes nothing.
use Rattle.std.specs.Prelude.{◌≡◌, List, [], ◌∷◌, ℕ, zero, suc, ◌+◌, ◌<◌, length, take}
use Rattle.std.proofs.Common.{arith, get_or, add-one}
use Rattle.basket.specs.Basket.{total}

-- one price more: what the first i + 1 prices come to
turn : (prices : List ℕ) (i : ℕ) → i < length prices → total (take (suc i) prices) ≡ total (take i prices) + get_or prices i 0
turn [] i h = absurd (omega arith)
turn (price ∷ rest) zero h = omega arith
turn (price ∷ rest) (suc i) h = omega (arith, turn rest i (omega arith))

pub one_more : (prices : List ℕ) (i : ℕ) → i < length prices → total (take (i + 1) prices) ≡ total (take i prices) + get_or prices i 0
one_more prices i h = rw add-one (turn prices i h)
