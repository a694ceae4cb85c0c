-- What `all` answers of a test of each of n things, by their numbers. Assumes nothing.
use Rattle.std.specs.Prelude.{◌≡◌, refl, Bool, ◌&&◌, Option, List, ℕ, zero, suc}
use Rattle.std.proofs.Common.{ap, ◌∙◌, add-one}
use Rattle.std.proofs.Math.Nat.{sub-zero}
use Rattle.std.proofs.Math.Bool.{true, false}
use Rattle.std.specs.List.{list_all, range_with_len, FoldsTo}
use Rattle.std.specs.Option.{MatchOption}
use Rattle.std.specs.Iterator.{YieldsThen}
use Rattle.std.specs.Fn.{Called}
use Rattle.std.specs.declared.ops.Range.{Range}
use Rattle.std.proofs.iter.Yields.{nat_range_steps}
use Rattle.std.proofs.lemmas.Iterator.{YieldsList-from_range}
use Rattle.std.proofs.lemmas.Iterator.Search.{all_from_yields_List}
use denote.Param.Members.{Mut}
use Rattle.model.specs.Base.{every}
use Rattle.create.specs.Parameters.{from}

list_all_from {ℓ} : {A : Type ℓ} (p : A → Bool) (f : ℕ → A) (k n : ℕ) → list_all (λ i. p (f i)) (range_with_len k n) ≡ every p (from f k n)
list_all_from p f k zero = refl
list_all_from p f k (suc n) = rw (add-one k) (ap (λ (t : Bool). p (f k) && t) (list_all_from p f (suc k) n))

pub range_every : {A : Type 0} {F : Type 0} {g : Mut F (ℕ × Unit {0}) Bool} (p : A → Bool) (x : ℕ → A) (n : ℕ) (u : Range ℕ) (f : F) (r : Bool)
    → (xs : List ℕ) × (o : Option ℕ) × (j : F) × YieldsThen nat_range_steps (record { start = 0; end = n }) xs o u × FoldsTo (λ q k t. Called g q (k, tt) true t) f xs j × MatchOption o (r ≡ true) (λ k. (r ≡ false) × ((h : F) × Called g j (k, tt) false h))
    → ((k : ℕ) (b : Bool) (q : F) → Called g f (k, tt) b q → (q ≡ f) × (b ≡ p (x k))) → r ≡ every p (from x 0 n)
range_every p x n u f r ran h = all_from_yields_List (λ k. p (x k)) u f r ran (YieldsList-from_range 0 n n refl (sub-zero n)) h ∙ list_all_from p x 0 n
