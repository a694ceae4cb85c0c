-- "show that basket order never alters the total" (document 00). A basket is a list of prices in cents. Assumes nothing.
use Rattle.std.specs.Prelude.{List, [], ◌∷◌, ◌++◌, ℕ, ◌+◌}

-- an empty basket costs 0; any other costs its first price and the total of the rest
abbrev pub total : List ℕ → ℕ
total [] = 0
total (price ∷ rest) = price + total rest

-- any order: a basket is reordered by swapping neighbours, one pair after the other
pub data Reordered : List ℕ → List ℕ → Type 0 where
  same : (basket : List ℕ) → Reordered basket basket
  swap : (before : List ℕ) (a b : ℕ) (after : List ℕ) {end : List ℕ}
      → Reordered (before ++ (b ∷ a ∷ after)) end → Reordered (before ++ (a ∷ b ∷ after)) end
