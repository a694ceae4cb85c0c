-- Tests, stores in functions, and the lowering of ids.
use Rattle.std.specs.Prelude.{◌≡◌, refl, false, List, [], ◌∷◌, map, ℕ, ◌+◌, ◌-◌, ◌≤◌, ◌<◌, ltb, eqb}
use Rattle.std.proofs.Common.{sym, arith, ltb-true, ltb-false, eqb-true, lt-ltb, le-ltb, eq-eqb, ne_eqb}
use Rattle.std.proofs.Math.Path.{fun_ext}
use Rattle.std.proofs.lemmas.Bool.{eqb-false}
use Rattle.model.specs.Base.{put, member}
use Rattle.model.proofs.Tests.{bool, clash}
use Rattle.noninterference.specs.Runs.{lowered}

pub put_map {ℓ κ} : {A : Type ℓ} {B : Type κ} (f : ℕ → A → B) (l : ℕ → A) (k : ℕ) (x : A) → put (λ j. f j (l j)) k (f k x) ≡ (λ j. f j (put l k x j))
put_map f l k x = fun_ext (λ j. bool (eqb j k) (λ e. rw (e, eqb-true j k e)) (λ e. rw e))

pub map_same {ℓ κ} : {A : Type ℓ} {B : Type κ} (f g : A → B) → ((a : A) → f a ≡ g a) → (xs : List A) → map f xs ≡ map g xs
map_same f g h [] = refl
map_same f g h (x ∷ xs) = λ i. h x i ∷ map_same f g h xs i

-- ids above t are one lower
pub lowered_above : (t i : ℕ) → t < i → lowered t i ≡ i - 1
unfolding lowered
lowered_above t i h = rw (lt-ltb t i h)

pub lowered_below : (t i : ℕ) → i ≤ t → lowered t i ≡ i
unfolding lowered
lowered_below t i h = rw (le-ltb t i h)

pub lowered_next : (t n : ℕ) → t < n → lowered t (n + 1) ≡ lowered t n + 1
lowered_next t n h = rw (lowered_above t (n + 1) (omega arith), lowered_above t n h) (omega arith)

-- on ids other than t the lowering is one to one
pub lowered_eqb : (t i j : ℕ) → (i ≡ t → ⊥) → (j ≡ t → ⊥) → eqb (lowered t i) (lowered t j) ≡ eqb i j
unfolding lowered
lowered_eqb t i j p q = bool (eqb i j)
    (λ e. rw (e, eqb-true i j e) (eq-eqb (lowered t j) (lowered t j) refl))
    (λ e. let n : i ≡ j → ⊥ = eqb-false i j e in rw e
    (bool (ltb t i)
    (λ a. bool (ltb t j)
    (λ b. rw (a, b) (ne_eqb (i - 1) (j - 1) (λ z. omega (arith, ltb-true, n))))
    (λ b. rw (a, b) (ne_eqb (i - 1) j (λ z. omega (arith, ltb-true, ltb-false, q)))))
    (λ a. bool (ltb t j)
    (λ b. rw (a, b) (ne_eqb i (j - 1) (λ z. omega (arith, ltb-true, ltb-false, p))))
    (λ b. rw (a, b) (ne_eqb i j n)))))

pub lowered_member : (t i : ℕ) → (i ≡ t → ⊥) → (is : List ℕ) → member t is ≡ false → member (lowered t i) (map (lowered t) is) ≡ member i is
lowered_member t i p [] m = refl
lowered_member t i p (j ∷ is) m = bool (eqb t j)
    (λ e. clash refl (rw e at m))
    (λ e. rw (lowered_eqb t i j p (λ y. eqb-false t j e (sym y)), lowered_member t i p is (rw e at m)))
