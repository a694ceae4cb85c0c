-- Sums: bounds, double counting, and what a sum tells of its parts. Assumes nothing.
use Rattle.std.specs.Prelude.{◌≡◌, refl, not, List, [], ◌∷◌, ◌++◌, ℕ, zero, suc, ◌+◌, ◌-◌, ◌≤◌, ◌<◌, length, eqb, ltb}
use Rattle.std.proofs.Common.{sym, ap, ◌∙◌, arith, eq-eqb, ne_eqb, eqb-true, lt-ltb, le-ltb, ltb-true, ltb-false}
use Rattle.std.proofs.Math.Option.{some}
use Rattle.std.proofs.lemmas.Bool.{eqb-false}
use Rattle.model.specs.Base.{bit, nth, occurs, sum}
use Rattle.model.proofs.Tests.{bool, apart, zero_or}
use Rattle.model.proofs.Sums.{sum_equal, sum_zero, sum_add}

pub bit_same : (x y : ℕ) → x ≡ y → bit (eqb x y) ≡ 1
bit_same x y e = rw (eq-eqb x y e)

pub bit_other : (x y : ℕ) → (x ≡ y → ⊥) → bit (eqb x y) ≡ 0
bit_other x y e = rw (ne_eqb x y e)

-- a number at a place of a list stands in it
pub nth_occurs : (l : List ℕ) (j k : ℕ) → nth l j ≡ some k → 0 < occurs k l
nth_occurs [] j k e = apart (cc)
nth_occurs (x ∷ l) zero k e = let q : x ≡ k = cc in omega (arith, bit_same k x (sym q))
nth_occurs (x ∷ l) (suc j) k e = omega (arith, nth_occurs l j k e)

pub sum_le : (n : ℕ) (f g : ℕ → ℕ) → ((j : ℕ) → j < n → f j ≤ g j) → sum n f ≤ sum n g
sum_le zero f g h = omega arith
sum_le (suc n) f g h = omega (arith, sum_le n f g (λ j l. h j (omega arith)), h n (omega arith))

-- a longer sum is no less
pub sum_up : (i k : ℕ) (f : ℕ → ℕ) → i ≤ k → sum i f ≤ sum k f
sum_up i zero f h = let e : i ≡ 0 = omega arith in rw e (omega arith)
sum_up i (suc k) f h = bool (eqb i (suc k))
    (λ e. rw (eqb-true i (suc k) e) (omega arith))
    (λ e. let y = eqb-false i (suc k) e in omega (arith, sum_up i k f (omega arith)))

-- one part more
pub sum_next : (n : ℕ) (f : ℕ → ℕ) (b : ℕ) → b < n → sum b f + f b ≤ sum n f
sum_next n f b h = omega (arith, sum_up (suc b) n f h)

-- runs that stand one after the other do not meet
pub runs_apart : (f : ℕ → ℕ) (b c p q : ℕ) → p < f b → q < f c → sum b f + p ≡ sum c f + q → b ≡ c
runs_apart f b c p q h i e = bool (eqb b c) (λ d. eqb-true b c d)
    (λ d. let z = eqb-false b c d in bool (ltb b c)
    (λ l. absurd (omega (arith, sum_next c f b (ltb-true b c l))))
    (λ l. let g = ltb-false b c l in absurd (omega (arith, sum_next b f c (omega arith)))))

-- what is nowhere more and in sum no less is the same everywhere
pub sum_tight : (n : ℕ) (f g : ℕ → ℕ) → ((j : ℕ) → j < n → f j ≤ g j) → sum n g ≤ sum n f → (j : ℕ) → j < n → f j ≡ g j
sum_tight zero f g e h j l = absurd (omega arith)
sum_tight (suc n) f g e h j l =
    let below : sum n f ≤ sum n g = sum_le n f g (λ i k. e i (omega arith)) in
    let last : f n ≤ g n = e n (omega arith) in
    bool (eqb j n)
    (λ q. let y : j ≡ n = eqb-true j n q in let m : f n ≡ g n = omega arith in cc)
    (λ q. let y = eqb-false j n q in sum_tight n f g (λ i k. e i (omega arith)) (omega arith) j (omega arith))

-- the order of two sums
pub sum_swap : (n k : ℕ) (f : ℕ → ℕ → ℕ) → (sum n λ i. sum k λ j. f i j) ≡ (sum k λ j. sum n λ i. f i j)
sum_swap zero k f = sym (sum_zero k (λ j. 0) (λ j l. refl))
sum_swap (suc n) k f = omega (arith, sum_swap n k f, sum_add k (λ j. sum n λ i. f i j) (λ j. f n j))

-- two sums one after the other
pub sum_append : (a n : ℕ) (g : ℕ → ℕ) → sum (a + n) g ≡ sum a g + (sum n λ p. g (a + p))
sum_append a zero g = let e : a + 0 ≡ a = omega arith in rw e (omega arith)
sum_append a (suc n) g = let e : a + suc n ≡ suc (a + n) = omega arith in rw e (omega (arith, sum_append a n g))

-- the first part apart
pub sum_front : (n : ℕ) (g : ℕ → ℕ) → sum (suc n) g ≡ g 0 + (sum n λ j. g (suc j))
sum_front zero g = omega arith
sum_front (suc n) g = omega (arith, sum_front n g)

-- only the first k count
pub sum_cut : (k n : ℕ) (f : ℕ → ℕ) → k ≤ n → ((j : ℕ) → k ≤ j → j < n → f j ≡ 0) → sum n f ≡ sum k f
sum_cut k n f h z = let e : n ≡ k + (n - k) = omega arith in
    ap (λ (i : ℕ). sum i f) e ∙ sum_append k (n - k) f
    ∙ omega (arith, sum_zero (n - k) (λ j. f (k + j)) (λ j l. z (k + j) (omega arith) (omega arith)))

-- a sum that is not 0 has a part that is not
pub sum_some : (n : ℕ) (f : ℕ → ℕ) → 0 < sum n f → (j : ℕ) × (j < n) × (0 < f j)
sum_some zero f h = absurd (omega arith)
sum_some (suc n) f h = zero_or (f n)
    (λ z. let r = sum_some n f (omega arith) in (r.0, omega arith, r.2))
    (λ z. (n, omega arith, z))

pub sum_ones : (n : ℕ) → (sum n λ j. 1) ≡ n
sum_ones zero = refl
sum_ones (suc n) = omega (arith, sum_ones n)

-- how often one number stands among the first n
pub sum_one : (x n : ℕ) → (sum n λ j. bit (eqb j x)) ≡ bit (ltb x n)
sum_one x zero = rw (le-ltb x 0 (omega arith))
sum_one x (suc n) = bool (eqb n x)
    (λ e. let y = eqb-true n x e in
    omega (arith, bit_same n x y, ap bit (lt-ltb x (suc n) (omega arith)), sum_zero n (λ j. bit (eqb j x)) (λ j l. bit_other j x (λ q. omega arith))))
    (λ e. let y = eqb-false n x e in bool (ltb x n)
    (λ q. let z = ltb-true x n q in omega (arith, bit_other n x y, sum_one x n, ap bit q, ap bit (lt-ltb x (suc n) (omega arith))))
    (λ q. let z = ltb-false x n q in omega (arith, bit_other n x y, sum_one x n, ap bit q, ap bit (le-ltb x (suc n) (omega arith)))))

-- a link below or at F names one of F frames, or none
pub sum_link : (l F : ℕ) → l ≤ F → (sum F λ f. bit (eqb l (suc f))) ≡ bit (not (eqb l 0))
sum_link zero F h = sum_zero F (λ f. bit (eqb 0 (suc f))) (λ f i. bit_other 0 (suc f) (λ e. omega arith))
sum_link (suc l) F h =
    sum_equal F (λ f. bit (eqb (suc l) (suc f))) (λ f. bit (eqb f l)) (λ f i. bool (eqb f l)
    (λ e. let y = eqb-true f l e in rw e (bit_same (suc l) (suc f) (omega arith)))
    (λ e. let y = eqb-false f l e in rw e (bit_other (suc l) (suc f) (λ q. y (omega arith)))))
    ∙ sum_one l F ∙ rw (lt-ltb l F h, ne_eqb (suc l) 0 (λ e. omega arith))

-- the length of a list of numbers below n, counted by number
pub sum_occurs : (n : ℕ) (l : List ℕ) → ((x : ℕ) → 0 < occurs x l → x < n) → (sum n λ i. occurs i l) ≡ length l
sum_occurs n [] e = sum_zero n (λ i. 0) (λ i b. refl)
sum_occurs n (y ∷ l) e =
    let i : y < n = e y (omega (arith, bit_same y y refl)) in
    omega (arith, sum_add n (λ i. bit (eqb i y)) (λ i. occurs i l), sum_one y n, ap bit (lt-ltb y n i), sum_occurs n l (λ x h. e x (omega arith)))

pub occurs_append : (k : ℕ) (xs ys : List ℕ) → occurs k (xs ++ ys) ≡ occurs k xs + occurs k ys
occurs_append k [] ys = omega arith
occurs_append k (x ∷ xs) ys = omega (arith, occurs_append k xs ys)
