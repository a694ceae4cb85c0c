-- A function of the numbers below n to themselves with a left inverse has it on both sides: the index names each place. Assumes nothing.
use Rattle.std.specs.Prelude.{◌≡◌, refl, ◌&&◌, ℕ, zero, suc, ◌≤◌, ◌<◌, eqb, ltb}
use Rattle.std.proofs.Common.{sym, ap, ◌∙◌, arith, eqb-true, lt-ltb, le-ltb, ltb-true, ltb-false}
use Rattle.std.proofs.lemmas.Bool.{eqb-false}
use Rattle.words.specs.Pick.{bool, both}
use Rattle.model.specs.Base.{bit, sum}
use Rattle.model.proofs.Sums.{sum_add}
use Rattle.model.proofs.Tests.{bit_true, bit_small}

-- a number stands once among those below n, if it is one
sum_one : (v n : ℕ) → (sum n λ y. bit (eqb v y)) ≡ bit (ltb v n)
sum_one v zero = rw (le-ltb v 0 (omega arith))
sum_one v (suc n) = bool (eqb v n)
    (λ e. let q = eqb-true v n e in let d = sum_one v n in
    rw (e, lt-ltb v (suc n) (omega arith)) (omega (arith, (rw (le-ltb v n (omega arith)) at d))))
    (λ e. let q = eqb-false v n e in let d = sum_one v n in rw e (bool (ltb v n)
    (λ l. rw (lt-ltb v (suc n) (omega (arith, ltb-true v n l))) (omega (arith, (rw l at d))))
    (λ l. rw (le-ltb v (suc n) (omega (arith, ltb-false v n l))) (omega (arith, (rw l at d))))))

sum_tight : (n : ℕ) (f : ℕ → ℕ) → ((y : ℕ) → y < n → f y ≤ 1) → sum n f ≤ n
sum_tight zero f h = omega arith
sum_tight (suc n) f h = omega (arith, sum_tight n f (λ y l. h y (omega arith)), h n (omega arith))

-- bits that sum to n over n numbers are all 1
sum_each : (n : ℕ) (f : ℕ → ℕ) → ((y : ℕ) → y < n → f y ≤ 1) → n ≤ sum n f → (y : ℕ) → y < n → f y ≡ 1
sum_each zero f h s y l = absurd (omega arith)
sum_each (suc n) f h s y l =
    let low = sum_tight n f (λ z q. h z (omega arith)) in
    let top = h n (omega arith) in
    bool (eqb y n)
    (λ e. rw (eqb-true y n e) (omega arith))
    (λ e. let q = eqb-false y n e in sum_each n f (λ z w. h z (omega arith)) (omega arith) y (omega arith))

module _ (n : ℕ) (f g : ℕ → ℕ) (maps : (i : ℕ) → i < n → f i < n) (back : (i : ℕ) → i < n → g (f i) ≡ i) where
  -- counted by value, the first k values are k
  total : (k : ℕ) → k ≤ n → (sum n λ y. sum k λ i. bit (eqb (f i) y)) ≡ k
  total zero h = zeros n
    where
      zeros : (j : ℕ) → (sum j λ y. 0) ≡ 0
      zeros zero = refl
      zeros (suc j) = omega (arith, zeros j)
  total (suc k) h =
      sum_add n (λ y. sum k λ i. bit (eqb (f i) y)) (λ y. bit (eqb (f k) y))
      ∙ omega (arith, total k (omega arith), sum_one (f k) n, ap bit (lt-ltb (f k) n (maps k (omega arith))))

  -- each value counts once at most, at its inverse
  once : (y k : ℕ) → k ≤ n → (sum k λ i. bit (eqb (f i) y)) ≤ bit (ltb (g y) k && eqb (f (g y)) y)
  once y zero h = omega arith
  once y (suc k) h = let d = once y k (omega arith) in bool (eqb (f k) y)
      (λ e. let q : g y ≡ k = ap g (sym (eqb-true (f k) y e)) ∙ back k (omega arith) in
      let z : bit (ltb k k && eqb (f k) y) ≡ 0 = rw (le-ltb k k (omega arith)) in
      let w = rw q at d in
      rw (q, e, lt-ltb k (suc k) (omega arith)) (omega arith))
      (λ e. rw e (bool (ltb (g y) k && eqb (f (g y)) y)
      (λ a. let p = both (ltb (g y) k) (eqb (f (g y)) y) a in
      rw (lt-ltb (g y) (suc k) (omega (arith, ltb-true (g y) k p.0)), p.1) (omega (arith, bit_small (ltb (g y) k && eqb (f (g y)) y))))
      (λ a. omega (arith, (rw a at d)))))

  pub both_ways : (y : ℕ) → y < n → (g y < n) × (f (g y) ≡ y)
  both_ways y l =
      let e = sum_each n (λ z. sum n λ i. bit (eqb (f i) z)) (λ z q. omega (arith, once z n (omega arith), bit_small (ltb (g z) n && eqb (f (g z)) z))) (omega (arith, total n (omega arith))) y l in
      let p = both (ltb (g y) n) (eqb (f (g y)) y) (bit_true (ltb (g y) n && eqb (f (g y)) y) (omega (arith, once y n (omega arith)))) in
      (ltb-true (g y) n p.0, eqb-true (f (g y)) y p.1)
