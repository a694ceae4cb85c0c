-- Basket order never alters the total. Assumes nothing.
use Rattle.std.specs.Prelude.{◌≡◌, refl, List, [], ◌∷◌, ◌++◌, ℕ, ◌+◌}
use Rattle.std.proofs.Common.{ap, ◌∙◌, arith}
use Rattle.basket.specs.Basket.{total, Reordered, Reordered.same, Reordered.swap}

-- a small basket, computed: a loaf, rolls, a cheese; and the same in another order
small : total (420 ∷ 180 ∷ 950 ∷ []) ≡ 1550
small = refl

turned : total (950 ∷ 420 ∷ 180 ∷ []) ≡ 1550
turned = refl

-- two neighbours swapped: the first two of a basket, whatever comes after them
pub neighbours : (a b : ℕ) (after : List ℕ) → total (a ∷ b ∷ after) ≡ total (b ∷ a ∷ after)
neighbours a b after = omega arith

-- two neighbours swapped anywhere, whatever comes before them
pub swapped : (before : List ℕ) (a b : ℕ) (after : List ℕ) → total (before ++ (a ∷ b ∷ after)) ≡ total (before ++ (b ∷ a ∷ after))
swapped [] a b after = neighbours a b after
swapped (price ∷ before) a b after = ap (price +◌) (swapped before a b after)

-- basket order never alters the total: the first swap does not, and those that follow do not
pub order_never_alters : {start end : List ℕ} → Reordered start end → total start ≡ total end
order_never_alters (same basket) = refl
order_never_alters (swap before a b after more) = swapped before a b after ∙ order_never_alters more
