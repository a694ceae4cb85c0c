-- Laws of rights.
-- Assumes nothing.
use Rattle.std.specs.Prelude.{◌≡◌, refl, Bool, true, false, ◌&&◌, ℕ, zero, suc, ◌+◌, ◌-◌, ◌*◌, ◌/◌, ◌%◌, ◌^◌, ◌<◌, min, eqb}
use Rattle.std.proofs.Common.{sym, ap, ap₂, ◌∙◌, arith, eqb-true, eq-eqb, ne_eqb}
use Rattle.std.proofs.Math.Nat.{div-div-eq-div-mul, pow-succ'}
use Rattle.std.proofs.Math.Arith.{bin_ind}
use Rattle.std.specs.Int.Bits.{bit_and, bit_or, and_step, and_self, and_zero_r}
use Rattle.std.proofs.lemmas.Nat.{and_le_r, and_block, and_shr, and_mask, or_shifted}
use Rattle.std.proofs.lemmas.Nat.Bits.{and_high}
use Rattle.std.proofs.lemmas.Bool.{eqb-false}
use Rattle.authority.specs.Rights.{contains, propagation, operations, rejoin, duplicate_right, transfer_right, propagation_mask}

-- split then rejoined gives the rights back
pub split_rejoined : (r : ℕ) → rejoin (operations r) (propagation r) ≡ r
unfolding rejoin operations propagation
split_rejoined r =
    let e : r - r % 4 ≡ (r / 4) * 2 ^ 2 = omega arith in
    ap (λ (x : ℕ). bit_or x (r % 4)) e ∙ or_shifted (r / 4) 2 (r % 4) (omega arith) ∙ omega arith

-- the propagation rights are those of the mask
pub propagation_is : (r : ℕ) → propagation r ≡ bit_and r propagation_mask
unfolding propagation
propagation_is r = sym (and_mask r 2)

-- the operation rights are the other ones of the 64
pub operations_is : (r : ℕ) → r < 2 ^ 64 → operations r ≡ bit_and r (2 ^ 64 - 1 - propagation_mask)
unfolding operations
operations_is r h = let e : bit_and r (2 ^ 64 - 4) ≡ (r / 2 ^ 2 % 2 ^ 62) * 2 ^ 2 = and_high r 62 2 in omega arith

-- whether a right, named by its bit, is among the rights
unfoldable pub has_bit : ℕ → ℕ → Bool
has_bit r i = eqb (r / 2 ^ i % 2) 1

-- containing means equal to the common part
pub contains_and : (h a : ℕ) → contains h a ≡ true → bit_and h a ≡ a
unfolding contains
contains_and h a e = eqb-true (bit_and h a) a e

pub and_contains : (h a : ℕ) → bit_and h a ≡ a → contains h a ≡ true
unfolding contains
and_contains h a e = eq-eqb (bit_and h a) a e

low_bit : (x y : ℕ) → x ≡ bit_and y x → x % 2 ≡ 1 → y % 2 ≡ 1
low_bit x y e p =
    let s : bit_and y x ≡ bit_and (y / 2) (x / 2) * 2 + min (y % 2) (x % 2) = and_step y x in
    omega arith

-- containing means subset, bit by bit: a right asked for is held
pub contains_bit : (h a : ℕ) → contains h a ≡ true → (i : ℕ) → has_bit a i ≡ true → has_bit h i ≡ true
unfolding has_bit
contains_bit h a c i b =
    let e : a / 2 ^ i ≡ bit_and (h / 2 ^ i) (a / 2 ^ i) = ap (λ (x : ℕ). x / 2 ^ i) (sym (contains_and h a c)) ∙ and_shr h a i in
    eq-eqb (h / 2 ^ i % 2) 1 (low_bit (a / 2 ^ i) (h / 2 ^ i) e (eqb-true (a / 2 ^ i % 2) 1 b))

-- the bits of a half, from the bits of the whole
half_bit : (r i : ℕ) → has_bit (r / 2) i ≡ has_bit r (suc i)
unfolding has_bit
half_bit r i = ap (λ (x : ℕ). eqb (x % 2) 1) (div-div-eq-div-mul r 2 (2 ^ i) ∙ ap (λ (x : ℕ). r / x) (sym (pow-succ' 2 i)))

low_min : (x y : ℕ) → x < 2 → (x ≡ 1 → y ≡ 1) → min y x ≡ x
low_min zero y h f = omega arith
low_min (suc zero) y h f = let e : y ≡ 1 = f refl in omega arith
low_min (suc (suc x)) y h f = absurd (omega arith)

low : (n h : ℕ) → ((i : ℕ) → has_bit n i ≡ true → has_bit h i ≡ true) → n % 2 ≡ 1 → h % 2 ≡ 1
unfolding has_bit
low n h f p =
    let e : n / 2 ^ 0 % 2 ≡ 1 = omega arith in
    let q : h / 2 ^ 0 % 2 ≡ 1 = eqb-true (h / 2 ^ 0 % 2) 1 (f 0 (eq-eqb (n / 2 ^ 0 % 2) 1 e)) in
    omega arith

subset_and : (a h : ℕ) → ((i : ℕ) → has_bit a i ≡ true → has_bit h i ≡ true) → bit_and h a ≡ a
subset_and a = bin_ind (λ (n : ℕ). (h : ℕ) → ((i : ℕ) → has_bit n i ≡ true → has_bit h i ≡ true) → bit_and h n ≡ n) (λ h f. and_zero_r h) step a
  where
    step : (n : ℕ) → ((h : ℕ) → ((i : ℕ) → has_bit (n / 2) i ≡ true → has_bit h i ≡ true) → bit_and h (n / 2) ≡ n / 2)
        → (h : ℕ) → ((i : ℕ) → has_bit n i ≡ true → has_bit h i ≡ true) → bit_and h n ≡ n
    step n ih h f =
        let up : bit_and (h / 2) (n / 2) ≡ n / 2 = ih (h / 2) (λ i b. half_bit h i ∙ f (suc i) (sym (half_bit n i) ∙ b)) in
        let lo : min (h % 2) (n % 2) ≡ n % 2 = low_min (n % 2) (h % 2) (omega arith) (low n h f) in
        let s : bit_and h n ≡ bit_and (h / 2) (n / 2) * 2 + min (h % 2) (n % 2) = and_step h n in
        omega arith

-- and conversely: where each right asked for is held, the rights held contain those asked for
pub bits_contain : (h a : ℕ) → ((i : ℕ) → has_bit a i ≡ true → has_bit h i ≡ true) → contains h a ≡ true
bits_contain h a f = and_contains h a (subset_and a h f)

pub contains_refl : (r : ℕ) → contains r r ≡ true
contains_refl r = and_contains r r (and_self r)

pub contains_trans : (a b c : ℕ) → contains a b ≡ true → contains b c ≡ true → contains a c ≡ true
contains_trans a b c p q = bits_contain a c (λ i h. contains_bit a b p i (contains_bit b c q i h))

-- a test of the whole is a test of both parts
parts : (x y a : ℕ) → y < 4 → eqb (x * 4 + y) a ≡ (eqb (x * 4) (a - a % 4) && eqb y (a % 4))
parts x y a h = go (eqb (x * 4) (a - a % 4)) (eqb y (a % 4)) refl refl
  where
    go : (p q : Bool) → eqb (x * 4) (a - a % 4) ≡ p → eqb y (a % 4) ≡ q → eqb (x * 4 + y) a ≡ (p && q)
    go true true e f =
        let e1 : x * 4 ≡ a - a % 4 = eqb-true (x * 4) (a - a % 4) e in
        let e2 : y ≡ a % 4 = eqb-true y (a % 4) f in
        eq-eqb (x * 4 + y) a (omega arith)
    go true false e f = ne_eqb (x * 4 + y) a (λ (z : x * 4 + y ≡ a). eqb-false y (a % 4) f (omega arith))
    go false q e f = ne_eqb (x * 4 + y) a (λ (z : x * 4 + y ≡ a). eqb-false (x * 4) (a - a % 4) e (omega arith))

-- containing, of the whole, is containing of both halves
pub contains_split : (h a : ℕ) → contains h a ≡ (contains (operations h) (operations a) && contains (propagation h) (propagation a))
unfolding contains operations propagation
contains_split h a =
    let x = bit_and (h / 4) (a / 4) in
    let y = bit_and (h % 4) (a % 4) in
    let hh : (h / 4) * 2 ^ 2 + h % 4 ≡ h = omega arith in
    let ha : (a / 4) * 2 ^ 2 + a % 4 ≡ a = omega arith in
    let oh : h - h % 4 ≡ (h / 4) * 2 ^ 2 + 0 = omega arith in
    let oa : a - a % 4 ≡ (a / 4) * 2 ^ 2 + 0 = omega arith in
    let whole : bit_and h a ≡ x * 4 + y = ap₂ bit_and (sym hh) (sym ha) ∙ and_block 2 (h / 4) (a / 4) (h % 4) (a % 4) (omega arith) (omega arith) in
    let high0 : bit_and (h - h % 4) (a - a % 4) ≡ x * 4 + 0 = ap₂ bit_and oh oa ∙ and_block 2 (h / 4) (a / 4) 0 0 (omega arith) (omega arith) in
    let high : bit_and (h - h % 4) (a - a % 4) ≡ x * 4 = high0 ∙ omega arith in
    let small : y < 4 = omega (arith, and_le_r (h % 4) (a % 4)) in
    ap (λ (z : ℕ). eqb z a) whole ∙ parts x y a small ∙ ap (λ (z : ℕ). eqb z (a - a % 4) && eqb y (a % 4)) (sym high)

-- so a test for propagation rights alone is one of the propagation half
pub propagation_only : (held asked : ℕ) → operations asked ≡ 0 → contains held asked ≡ contains (propagation held) (propagation asked)
propagation_only held asked e =
    contains_split held asked
    ∙ ap (λ (x : ℕ). contains (operations held) x && contains (propagation held) (propagation asked)) e
    ∙ ap (λ (b : Bool). b && contains (propagation held) (propagation asked)) (and_contains (operations held) 0 (and_zero_r (operations held)))

-- as the tests for duplicating and for moving are
pub duplicate_only : (held : ℕ) → contains held duplicate_right ≡ contains (propagation held) duplicate_right
unfolding operations propagation
duplicate_only held = propagation_only held duplicate_right refl

pub transfer_only : (held : ℕ) → contains held transfer_right ≡ contains (propagation held) transfer_right
unfolding operations propagation
transfer_only held = propagation_only held transfer_right refl

-- rights with equal halves are equal
pub halves_equal : (r s : ℕ) → operations r ≡ operations s → propagation r ≡ propagation s → r ≡ s
halves_equal r s p q = sym (split_rejoined r) ∙ ap₂ rejoin p q ∙ split_rejoined s
