-- What `filter` with `count` answers over the numbers below n. Assumes nothing.
use Rattle.std.specs.Prelude.{◌∷◌, length, cond, ◌≡◌, refl, Bool, true, false, List, ℕ, zero, suc, ◌+◌}
use Rattle.std.proofs.Common.{ap, ◌∙◌, sym, add-zero, zero-add, arith}
use Rattle.std.proofs.Math.Nat.{sub-zero}
use Rattle.std.specs.List.{filter, range_with_len}
use Rattle.std.specs.Iterator.{Drains}
use Rattle.std.specs.Iterator.Adapters.{filter_source, filter_callee, filter_steps}
use Rattle.std.specs.Fn.{CalledAt}
use Rattle.std.specs.declared.ops.Range.{Range}
use Rattle.std.proofs.iter.Yields.{nat_range_steps}
use Rattle.std.proofs.lemmas.Iterator.{YieldsList-from_range}
use Rattle.std.proofs.lemmas.Iterator.Consumers.{YieldsList-from_filter, count_from_yields_List}
use Rattle.std.specs.declared.iter.Filter.{Filter}
use denote.Ref.{Bor}
use denote.Param.Members.{Mut}
use Rattle.model.specs.Base.{bit, sum}
use Rattle.model.proofs.Sums.{sum_equal}
use Rattle.model.proofs.Counting.{sum_front}

count_from : (t : ℕ → Bool) (k n : ℕ) → length (filter t (range_with_len k n)) ≡ sum n (λ p. bit (t (k + p)))
count_from t k zero = refl
count_from t k (suc n) =
    one (t k) (filter t (range_with_len (k + 1) n))
    ∙ ap (λ (l : ℕ). bit (t k) + l) (count_from t (k + 1) n ∙ sum_equal n _ _ (λ p h. ap (λ (x : ℕ). bit (t x)) (omega arith)))
    ∙ ap (λ (x : ℕ). bit (t x) + (sum n λ p. bit (t (k + suc p)))) (sym (add-zero k))
    ∙ sym (sum_front n (λ p. bit (t (k + p))))
  where
    one : (b : Bool) (l : List ℕ) → length (cond b (k ∷ l) l) ≡ bit b + length l
    one true l = omega arith
    one false l = omega arith

pub range_count : {F : Type 0} {g : Mut F (Bor ℕ × Unit {0}) Bool} {f : F} (t : ℕ → Bool) (n : ℕ) (s : Filter (Range ℕ) F) (r : ℕ)
    → (xs : List ℕ) × Drains (filter_steps nat_range_steps g) s xs × (r ≡ length xs)
    → filter_source s ≡ record { start = 0; end = n } → filter_callee s ≡ f
    → ((x : ℕ) (b : Bool) (q : F) → CalledAt g f x b q → (q ≡ f) × (b ≡ t x)) → r ≡ (sum n λ p. bit (t p))
range_count {g = g} t n s r ran source callee h =
    count_from_yields_List s r ran (YieldsList-from_filter g t (YieldsList-from_range 0 n n source (sub-zero n)) callee h)
    ∙ count_from t 0 n ∙ sum_equal n _ _ (λ p l. ap (λ (x : ℕ). bit (t x)) (zero-add p))
