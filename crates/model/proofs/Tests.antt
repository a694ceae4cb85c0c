-- Splits on tests, what tests say, and stores at one number.
use Rattle.std.specs.Prelude.{◌≡◌, refl, Bool, true, false, ◌||◌, List, [], ◌∷◌, ℕ, zero, suc, ◌+◌, ◌≤◌, ◌<◌, length, drop, eqb, ltb}
use Rattle.std.proofs.Math.Path.{fun_ext}
pub use Rattle.std.proofs.Math.Bool.{and-false}
use Rattle.std.proofs.Math.Option.{Option, none, some}
use Rattle.std.proofs.Common.{arith, ltb-false, eqb-true, eq-eqb, ne_eqb}
use Rattle.std.proofs.lemmas.Bool.{eqb-false, not-true}
pub use Rattle.words.specs.Pick.{bool, clash, and_left, and_right}
use Rattle.model.specs.Base.{bit, pick, put, also, nth, every, same_list, at_most, between}

infixr 4 ◌&◌
-- a pair, for lists of facts that are pairs of pairs
abbrev pub ◌&◌ {ℓ κ} : {A : Type ℓ} {B : Type κ} → A → B → A × B
◌&◌ a b = (a, b)

-- from constructors that differ: `apart (cc)`
pub apart {ℓ} : {C : Type ℓ} → ◌≡◌ {A = ℕ} 0 1 → C
apart e = absurd (omega arith)

-- zero or more
pub zero_or {ℓ} : {C : Type ℓ} (n : ℕ) → (n ≡ 0 → C) → (0 < n → C) → C
zero_or zero f g = f refl
zero_or (suc n) f g = g (omega arith)

pub or_false : (a b : Bool) → a ≡ false → b ≡ false → (a || b) ≡ false
or_false a b p q = rw (p, q)

pub or_left : (a b : Bool) → (a || b) ≡ false → a ≡ false
or_left true b e = e
or_left false b e = refl

pub or_right : (a b : Bool) → (a || b) ≡ false → b ≡ false
or_right true b e = clash refl e
or_right false b e = e

pub bit_true : (b : Bool) → 0 < bit b → b ≡ true
bit_true true h = refl
bit_true false h = absurd (omega arith)

pub bit_false : (b : Bool) → bit b ≡ 0 → b ≡ false
bit_false true h = absurd (omega arith)
bit_false false h = refl

pub bit_small : (b : Bool) → bit b ≤ 1
bit_small true = omega arith
bit_small false = omega arith

pub same : (k : ℕ) → eqb k k ≡ true
same k = eq-eqb k k refl

pub at_most_law : (a b : ℕ) → at_most a b ≡ true → a ≤ b
at_most_law a b e = ltb-false b a (not-true (ltb b a) e)

pub within : (a x b : ℕ) → between a x b ≡ true → (a ≤ x) × (x ≤ b)
within a x b e = (at_most_law a x (and_left (at_most a x) (at_most x b) e), at_most_law x b (and_right (at_most a x) (at_most x b) e))

pub pick_same {ℓ} : {A : Type ℓ} {a : A} (b : Bool) → pick b a a ≡ a
pick_same true = refl
pick_same false = refl

-- stores

module _ {ℓ} {A : Type ℓ} (f : ℕ → A) (k : ℕ) (x : A) where
  pub put_same : put f k x k ≡ x
  put_same = rw (same k)

  pub put_other : (j : ℕ) → (j ≡ k → ⊥) → put f k x j ≡ f j
  put_other j n = rw (ne_eqb j k n)

  pub put_put : (y : A) → put (put f k y) k x ≡ put f k x
  put_put y = fun_ext λ j. bool (eqb j k) (λ e. rw e) (λ e. rw e)

  pub put_at : (C : A → Type 0) (j : ℕ) → (j ≡ k → C x) → ((j ≡ k → ⊥) → C (f j)) → C (put f k x j)
  put_at C j y n = bool (eqb j k) (λ e. rw e (y (eqb-true j k e))) (λ e. rw e (n (eqb-false j k e)))

-- what stands there, put there
pub put_own {ℓ} : {A : Type ℓ} (f : ℕ → A) (k : ℕ) → put f k (f k) ≡ f
put_own f k = fun_ext λ j. bool (eqb j k) (λ e. rw (e, eqb-true j k e)) (λ e. rw e)

pub some_same {ℓ} : {A : Type ℓ} (a b : A) → some a ≡ some b → a ≡ b
some_same a b e = cc

-- what stands behind a list that got one more in front
pub also_some : (a : ℕ) (x : Option (List ℕ)) (ps : List ℕ) → also a x ≡ some ps → (qs : List ℕ) × (x ≡ some qs) × (ps ≡ a ∷ qs)
also_some a none ps e = apart (cc)
also_some a (some qs) ps e = (qs, refl, cc)

-- a list's elements by place

module _ {ℓ} {A : Type ℓ} where
  pub nth_some : (l : List A) (k : ℕ) → k < length l → (a : A) × (nth l k ≡ some a)
  nth_some [] k h = absurd (omega arith)
  nth_some (x ∷ xs) zero h = (x, refl)
  nth_some (x ∷ xs) (suc k) h = nth_some xs k (omega arith)

  pub nth_past : (l : List A) (k : ℕ) → length l ≤ k → nth l k ≡ none
  nth_past [] k h = refl
  nth_past (x ∷ xs) zero h = absurd (omega arith)
  nth_past (x ∷ xs) (suc k) h = nth_past xs k (omega arith)

  pub nth_drop : (i : ℕ) (l : List A) (j : ℕ) → nth (drop i l) j ≡ nth l (i + j)
  nth_drop zero l j = let z : 0 + j ≡ j = omega arith in rw z
  nth_drop (suc i) [] j = refl
  nth_drop (suc i) (x ∷ l) j = let z : suc i + j ≡ suc (i + j) = omega arith in rw z (nth_drop i l j)

  pub nth_passes : (p : A → Bool) (l : List A) → every p l ≡ true → (k : ℕ) (a : A) → nth l k ≡ some a → p a ≡ true
  nth_passes p [] e k a h = apart (cc)
  nth_passes p (x ∷ xs) e zero a h = let y : x ≡ a = cc in rw y at (and_left (p x) (every p xs) e)
  nth_passes p (x ∷ xs) e (suc k) a h = nth_passes p xs (and_right (p x) (every p xs) e) k a h

-- lists that pass the test are one, and one list passes it

pub same_list_equal : (a b : List ℕ) → same_list a b ≡ true → a ≡ b
same_list_equal [] [] e = refl
same_list_equal [] (y ∷ ys) e = cc
same_list_equal (x ∷ xs) [] e = cc
same_list_equal (x ∷ xs) (y ∷ ys) e =
    let h : x ≡ y = eqb-true x y (and_left (eqb x y) (same_list xs ys) e) in
    let t : xs ≡ ys = same_list_equal xs ys (and_right (eqb x y) (same_list xs ys) e) in
    cc

pub same_list_same : (a : List ℕ) → same_list a a ≡ true
same_list_same [] = refl
same_list_same (x ∷ xs) = rw (same x, same_list_same xs)
