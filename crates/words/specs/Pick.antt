-- Choices by a test, at any type, and splits that keep the equation. Assumes nothing.
use Rattle.std.specs.Prelude.{Bool, true, false, ◌&&◌, ◌≡◌, refl, ℕ, ◌+◌, eqb}
use Rattle.std.proofs.Common.{sym, subst, ◌∙◌, arith, eq-eqb, ne_eqb, eqb-true}
use Rattle.std.proofs.lemmas.Bool.{eqb-false}

module _ {ℓ} {A : Type ℓ} where
  abbrev pub pick : Bool → A → A → A
  pick true a b = a
  pick false a b = b

  -- a proof goes down one side
  pub yes_is : (b : Bool) (r x y : A) → b ≡ true → r ≡ x → r ≡ pick b x y
  yes_is b r x y e p = subst (λ (t : Bool). r ≡ pick t x y) (sym e) p

  pub no_is : (b : Bool) (r x y : A) → b ≡ false → r ≡ y → r ≡ pick b x y
  no_is b r x y e p = subst (λ (t : Bool). r ≡ pick t x y) (sym e) p

-- what both sides have, the choice has
pub pick_has {ℓ ℓ'} : {A : Type ℓ} (P : A → Type ℓ') (b : Bool) (x y : A) → (b ≡ true → P x) → (b ≡ false → P y) → P (pick b x y)
pick_has P true x y p q = p refl
pick_has P false x y p q = q refl

-- a split on a computed test that keeps the equation
pub bool {ℓ} : {C : Type ℓ} (b : Bool) → (b ≡ true → C) → (b ≡ false → C) → C
bool true t f = t refl
bool false t f = f refl

pub clash {ℓ} : {C : Type ℓ} {b : Bool} → b ≡ true → b ≡ false → C
clash p q = let z : ◌≡◌ {A = ℕ} 0 1 = cc in absurd (omega arith)

pub both : (a b : Bool) → (a && b) ≡ true → (a ≡ true) × (b ≡ true)
both true b e = (refl, e)
both false b e = clash refl (sym e)

pub both_is : (a b : Bool) → a ≡ true → b ≡ true → (a && b) ≡ true
both_is a b p q = rw (p, q)

pub and_left : (a b : Bool) → (a && b) ≡ true → a ≡ true
and_left a b e = (both a b e).0

pub and_right : (a b : Bool) → (a && b) ≡ true → b ≡ true
and_right a b e = (both a b e).1

pub all_six : (a b c d e f : Bool) → (a && (b && (c && (d && (e && f))))) ≡ true
    → (a ≡ true) × (b ≡ true) × (c ≡ true) × (d ≡ true) × (e ≡ true) × (f ≡ true)
all_six false b c d e f h = clash h refl
all_six true false c d e f h = clash h refl
all_six true true false d e f h = clash h refl
all_six true true true false e f h = clash h refl
all_six true true true true false f h = clash h refl
all_six true true true true true f h = (refl, refl, refl, refl, refl, h)

-- a test that a fact refutes is false
pub refuted : (b : Bool) → (b ≡ true → ⊥) → false ≡ b
refuted b h = bool b (λ e. absurd (h e)) (λ e. sym e)

pub eqb_sym : (a b : ℕ) → eqb a b ≡ eqb b a
eqb_sym a b = bool (eqb a b) (λ e. e ∙ sym (eq-eqb b a (sym (eqb-true a b e)))) (λ e. e ∙ sym (ne_eqb b a (λ q. eqb-false a b e (sym q))))

pub eqb_add : (e p q : ℕ) → eqb (e + p) (e + q) ≡ eqb p q
eqb_add e p q = bool (eqb p q)
    (λ d. rw d (eq-eqb (e + p) (e + q) (omega (arith, eqb-true p q d))))
    (λ d. let n : p ≡ q → ⊥ = eqb-false p q d in rw d (ne_eqb (e + p) (e + q) (λ y. n (omega arith))))
