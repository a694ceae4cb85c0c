-- Occurrences in lists of numbers, and sums.
use Rattle.std.specs.Prelude.{◌≡◌, refl, Bool, true, false, not, ◌&&◌, List, [], ◌∷◌, ℕ, zero, suc, ◌+◌, ◌≤◌, ◌<◌, length, take, drop, eqb, ltb}
use Rattle.std.proofs.Common.{sym, ap, ◌∙◌, arith, ltb-true, ltb-false, eqb-true, lt-ltb, le-ltb, ne_eqb}
use Rattle.std.proofs.lemmas.Bool.{eqb-false}
use Rattle.model.specs.Base.{bit, pick, put, range, push_all, occurs, member, without, drop_if, insert, sum}
use Rattle.model.proofs.Tests.{bool, clash, zero_or, same}

pub member_occurs : (k : ℕ) (ks : List ℕ) → occurs k ks ≡ 0 → member k ks ≡ false
member_occurs k [] h = refl
member_occurs k (x ∷ ks) h = bool (eqb k x)
    (λ e. let z : 1 + occurs k ks ≡ 0 = rw e at h in absurd (omega arith))
    (λ e. rw e (member_occurs k ks (let z : 0 + occurs k ks ≡ 0 = rw e at h in omega arith)))

pub member_in : (k : ℕ) (ks : List ℕ) → 0 < occurs k ks → member k ks ≡ true
member_in k [] h = absurd (omega arith)
member_in k (x ∷ ks) h = bool (eqb k x)
    (λ e. rw e)
    (λ e. rw e (member_in k ks (let z : 0 < 0 + occurs k ks = rw e at h in omega arith)))

pub occurs_in : (k : ℕ) (ks : List ℕ) → member k ks ≡ true → 0 < occurs k ks
occurs_in k ks h = zero_or (occurs k ks) (λ c. clash h (member_occurs k ks c)) (λ c. c)

pub occurs_split : (k n : ℕ) (xs : List ℕ) → occurs k (take n xs) + occurs k (drop n xs) ≡ occurs k xs
occurs_split k zero xs = omega arith
occurs_split k (suc n) [] = refl
occurs_split k (suc n) (x ∷ xs) = omega (arith, occurs_split k n xs)

pub occurs_push : (k : ℕ) (ks f : List ℕ) → occurs k (push_all ks f) ≡ occurs k ks + occurs k f
occurs_push k [] f = omega arith
occurs_push k (x ∷ ks) f = omega (arith, occurs_push k ks (x ∷ f))

pub occurs_without : (k p : ℕ) (xs : List ℕ) → occurs k (without p xs) ≡ pick (eqb k p) 0 (occurs k xs)
occurs_without k p [] = bool (eqb k p) (λ e. rw e) (λ e. rw e)
occurs_without k p (x ∷ xs) = let h = occurs_without k p xs in bool (eqb p x)
    (λ e. rw e (bool (eqb k p)
    (λ q. rw q (rw q at h))
    (λ q. rw (q, ne_eqb k x (λ y. eqb-false k p q (y ∙ sym (eqb-true p x e))))
    (let h' : occurs k (without p xs) ≡ occurs k xs = rw q at h in omega arith))))
    (λ e. rw e (bool (eqb k p)
    (λ q. rw (q, ne_eqb k x (λ y. eqb-false p x e (sym (eqb-true k p q) ∙ y))) (let h' : occurs k (without p xs) ≡ 0 = rw q at h in omega arith))
    (λ q. rw q (let h' : occurs k (without p xs) ≡ occurs k xs = rw q at h in omega arith))))

-- a list without what it does not hold
pub without_none : (p : ℕ) (xs : List ℕ) → occurs p xs ≡ 0 → without p xs ≡ xs
without_none p [] h = refl
without_none p (x ∷ xs) h = bool (eqb p x)
    (λ e. let z : 1 + occurs p xs ≡ 0 = rw e at h in absurd (omega arith))
    (λ e. rw e (ap (λ l. x ∷ l) (without_none p xs (let z : 0 + occurs p xs ≡ 0 = rw e at h in omega arith))))

pub occurs_drop_if : (t : ℕ → Bool) (k : ℕ) (xs : List ℕ) → occurs k (drop_if t xs) ≡ pick (t k) 0 (occurs k xs)
occurs_drop_if t k [] = bool (t k) (λ e. rw e) (λ e. rw e)
occurs_drop_if t k (x ∷ xs) = let h = occurs_drop_if t k xs in bool (eqb k x)
    (λ q. rw (q, ← eqb-true k x q)
    (bool (t k) (λ e. rw e (rw e at h)) (λ e. rw (e, same k) (let h' : occurs k (drop_if t xs) ≡ occurs k xs = rw e at h in omega arith))))
    (λ q. rw q (bool (t x) (λ e. rw e (h ∙ bool (t k) (λ y. rw y) (λ y. rw y (omega arith)))) (λ e. rw (e, q) (bool (t k)
    (λ y. rw y (let h' : occurs k (drop_if t xs) ≡ 0 = rw y at h in omega arith))
    (λ y. rw y (let h' : occurs k (drop_if t xs) ≡ occurs k xs = rw y at h in omega arith))))))

pub occurs_insert : (k x : ℕ) (xs : List ℕ) → occurs k (insert x xs) ≡ bit (eqb k x) + occurs k xs
occurs_insert k x [] = refl
occurs_insert k x (y ∷ xs) = let h = occurs_insert k x xs in bool (ltb x y) (λ e. rw e) (λ e. rw e (omega arith))

pub occurs_range : (k a n : ℕ) → occurs k (range a n) ≡ bit (not (ltb k a) && ltb k (a + n))
occurs_range k a zero = bool (ltb k a)
    (λ e. rw e)
    (λ e. rw (e, le-ltb k (a + 0) (omega (arith, ltb-false k a e))))
occurs_range k a (suc n) = let h = occurs_range k (suc a) n in bool (ltb k a)
    (λ e. rw (e, ne_eqb k a (λ y. omega (arith, ltb-true k a e))) (omega (arith, (rw (lt-ltb k (suc a) (omega (arith, ltb-true k a e))) at h))))
    (λ e. bool (eqb k a)
    (λ q. rw (e, q, lt-ltb k (a + suc n) (omega (arith, eqb-true k a q)))
    (omega (arith, (rw (lt-ltb k (suc a) (omega (arith, eqb-true k a q))) at h))))
    (λ q. let y : k ≡ a → ⊥ = eqb-false k a q in let l : a ≤ k = ltb-false k a e in
    rw (e, q) (bool (ltb k (a + suc n))
    (λ m. rw m (omega (arith, (rw (le-ltb k (suc a) (omega arith), lt-ltb k (suc a + n) (omega (arith, ltb-true k (a + suc n) m))) at h))))
    (λ m. rw m (omega (arith, (rw (le-ltb k (suc a) (omega arith), le-ltb k (suc a + n) (omega (arith, ltb-false k (a + suc n) m))) at h)))))))

pub range_all : (k n : ℕ) → occurs k (range 0 n) ≡ bit (ltb k n)
range_all k n = let q : 0 + n ≡ n = omega arith in occurs_range k 0 n ∙ rw (le-ltb k 0 (omega arith), q)

pub length_push : (ks f : List ℕ) → length (push_all ks f) ≡ length ks + length f
length_push [] f = omega arith
length_push (k ∷ ks) f = omega (arith, length_push ks (k ∷ f))

pub length_range : (a n : ℕ) → length (range a n) ≡ n
length_range a zero = refl
length_range a (suc n) = ap suc (length_range (suc a) n)

-- sums

pub sum_equal : (n : ℕ) (f g : ℕ → ℕ) → ((j : ℕ) → j < n → f j ≡ g j) → sum n f ≡ sum n g
sum_equal zero f g h = refl
sum_equal (suc n) f g h = omega (arith, sum_equal n f g (λ j l. h j (omega arith)), h n (omega arith))

pub sum_zero : (n : ℕ) (f : ℕ → ℕ) → ((j : ℕ) → j < n → f j ≡ 0) → sum n f ≡ 0
sum_zero zero f h = refl
sum_zero (suc n) f h = omega (arith, sum_zero n f (λ j l. h j (omega arith)), h n (omega arith))

-- two functions that differ at one number
sum_differ : (n : ℕ) (f g : ℕ → ℕ) (k : ℕ) → k < n → ((j : ℕ) → (j ≡ k → ⊥) → f j ≡ g j) → sum n f + g k ≡ sum n g + f k
sum_differ zero f g k l h = absurd (omega arith)
sum_differ (suc n) f g k l h = bool (eqb k n)
    (λ e. rw (eqb-true k n e) (omega (arith, sum_equal n f g (λ j m. h j (λ y. omega (arith, eqb-true k n e))))))
    (λ e. let y : k ≡ n → ⊥ = eqb-false k n e in omega (arith, sum_differ n f g k (omega arith) h, h n (λ q. y (sym q))))

pub sum_part : (n : ℕ) (f : ℕ → ℕ) (k : ℕ) → k < n → f k ≤ sum n f
sum_part zero f k l = absurd (omega arith)
sum_part (suc n) f k l = bool (eqb k n)
    (λ e. rw (eqb-true k n e) (omega arith))
    (λ e. let y : k ≡ n → ⊥ = eqb-false k n e in omega (arith, sum_part n f k (omega arith)))

-- one value changed
pub sum_put {ℓ} : {A : Type ℓ} (F : A → ℕ) (n : ℕ) (f : ℕ → A) (k : ℕ) (x : A) → k < n
    → (sum n λ j. F (put f k x j)) + F (f k) ≡ (sum n λ j. F (f j)) + F x
sum_put F n f k x l = sum_differ n (λ j. F (put f k x j)) (λ j. F (f j)) k l (λ j y. rw (ne_eqb j k y)) ∙ rw (same k)

pub sum_add : (n : ℕ) (f g : ℕ → ℕ) → (sum n λ k. f k + g k) ≡ sum n f + sum n g
sum_add zero f g = refl
sum_add (suc n) f g = omega (arith, sum_add n f g)
