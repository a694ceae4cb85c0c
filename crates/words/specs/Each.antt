-- What `all` answers over the numbers below n. Assumes nothing.
use Rattle.std.specs.Prelude.{◌≡◌, refl, Bool, true, false, ◌&&◌, Option, List, ℕ, zero, suc, ◌+◌}
use Rattle.std.proofs.Common.{ap, ◌∙◌, sym, add-zero, zero-add, arith}
use Rattle.std.proofs.Math.Nat.{sub-zero}
use Rattle.std.specs.List.{list_all, range_with_len, FoldsTo}
use Rattle.std.specs.Option.{MatchOption}
use Rattle.std.specs.Iterator.{YieldsThen}
use Rattle.std.specs.Fn.{Called}
use Rattle.std.specs.declared.ops.Range.{Range}
use Rattle.std.proofs.iter.Yields.{nat_range_steps}
use Rattle.std.proofs.lemmas.Iterator.{YieldsList-from_range}
use Rattle.std.proofs.lemmas.Iterator.Search.{all_from_yields_List}
use denote.Param.Members.{Mut}
use Rattle.words.specs.All.{all, all_same}

and_assoc : (a b c : Bool) → ((a && b) && c) ≡ (a && (b && c))
and_assoc true b c = refl
and_assoc false b c = refl

-- the first apart
all_first : (n : ℕ) (p : ℕ → Bool) → all (suc n) p ≡ (p 0 && all n (λ i. p (suc i)))
unfolding all
all_first zero p = first (p 0)
  where
    first : (b : Bool) → (true && b) ≡ (b && true)
    first true = refl
    first false = refl
all_first (suc n) p = ap (λ (b : Bool). b && p (suc n)) (all_first n p) ∙ and_assoc (p 0) (all n (λ i. p (suc i))) (p (suc n))

from_is : (p : ℕ → Bool) (k n : ℕ) → list_all p (range_with_len k n) ≡ all n (λ i. p (k + i))
unfolding all
from_is p k zero = refl
from_is p k (suc n) =
    ap (λ (b : Bool). p k && b) (from_is p (k + 1) n ∙ all_same n (λ i. p (k + 1 + i)) (λ i. p (k + suc i)) (λ i h. ap p (omega arith)))
    ∙ ap (λ (x : ℕ). p x && all n (λ i. p (k + suc i))) (sym (add-zero k))
    ∙ sym (all_first n (λ i. p (k + i)))

pub range_all : {F : Type 0} {g : Mut F (ℕ × Unit {0}) Bool} (p : ℕ → Bool) (n : ℕ) (u : Range ℕ) (f : F) (r : Bool)
    → (xs : List ℕ) × (o : Option ℕ) × (j : F) × YieldsThen nat_range_steps (record { start = 0; end = n }) xs o u × FoldsTo (λ q x t. Called g q (x, tt) true t) f xs j × MatchOption o (r ≡ true) (λ x. (r ≡ false) × ((h : F) × Called g j (x, tt) false h))
    → ((x : ℕ) (b : Bool) (q : F) → Called g f (x, tt) b q → (q ≡ f) × (b ≡ p x)) → r ≡ all n p
range_all p n u f r ran h = all_from_yields_List p u f r ran (YieldsList-from_range 0 n n refl (sub-zero n)) h
    ∙ from_is p 0 n ∙ all_same n (λ i. p (0 + i)) p (λ i l. ap p (zero-add i))
