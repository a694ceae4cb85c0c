-- A link is the number of a place plus 1, or 0 for none. Assumes nothing.
use Rattle.std.specs.Prelude.{◌≡◌, ℕ, zero, suc, ◌-◌, ◌≤◌, Option, Some, None, SomeIff}
use Rattle.std.proofs.Math.Path.{refl, ap}
use Rattle.std.proofs.Common.{◌∙◌, arith}

-- the place that a link names; none where it is 0
abbrev pub place_of : ℕ → Option ℕ
place_of zero = None
place_of (suc x) = Some x

-- a link and the place that it names
pub place_is : (l x : ℕ) → place_of l ≡ Some x → l ≡ suc x
place_is zero x e = absurd (let z : ◌≡◌ {A = ℕ} 0 1 = cc in omega arith)
place_is (suc y) x e = cc

pub no_place : (l : ℕ) → place_of l ≡ None → l ≡ 0
no_place zero e = refl
no_place (suc y) e = absurd (let z : ◌≡◌ {A = ℕ} 0 1 = cc in omega arith)

-- `checked_sub` of 1
pub place_by : (l : ℕ) (r : Option ℕ) → SomeIff r (1 ≤ l) (l - 1) → r ≡ place_of l
place_by zero None f = refl
place_by zero (Some x) f = absurd (omega (arith, f.0))
place_by (suc y) None f = absurd (f (omega arith))
place_by (suc y) (Some x) f = let z : suc y - 1 ≡ y = omega arith in ap Some (f.1 ∙ z)
