-- A mask taken off again by XOR.
-- Assumes nothing.
use Rattle.std.specs.Prelude.{◌≡◌, refl, ℕ, zero, suc, ◌+◌, ◌*◌, ◌/◌, ◌%◌, ◌<◌}
use Rattle.std.proofs.Common.{ap, ap₂, ◌∙◌, div-add-mod', arith}
use Rattle.std.proofs.Math.Arith.{bin_ind}
use Rattle.std.specs.Int.Bits.{bit_xor, differ, xor_step, xor_self}

differ_small : (x y : ℕ) → x < 2 → y < 2 → differ x y < 2
differ_small zero y hx hy = hy
differ_small (suc zero) zero hx hy = hx
differ_small (suc zero) (suc zero) hx hy = omega arith
differ_small (suc zero) (suc (suc y)) hx hy = absurd (omega arith)
differ_small (suc (suc x)) y hx hy = absurd (omega arith)

differ_cancel : (x y : ℕ) → x < 2 → y < 2 → differ (differ x y) y ≡ x
differ_cancel zero zero hx hy = refl
differ_cancel zero (suc zero) hx hy = refl
differ_cancel zero (suc (suc y)) hx hy = absurd (omega arith)
differ_cancel (suc zero) zero hx hy = refl
differ_cancel (suc zero) (suc zero) hx hy = refl
differ_cancel (suc zero) (suc (suc y)) hx hy = absurd (omega arith)
differ_cancel (suc (suc x)) y hx hy = absurd (omega arith)

pub xor_cancel : (a b : ℕ) → bit_xor (bit_xor a b) b ≡ a
xor_cancel a = bin_ind (λ (n : ℕ). (b : ℕ) → bit_xor (bit_xor n b) b ≡ n) (λ b. xor_self b) step a
  where
    step : (n : ℕ) → ((b : ℕ) → bit_xor (bit_xor (n / 2) b) b ≡ n / 2) → (b : ℕ) → bit_xor (bit_xor n b) b ≡ n
    step n ih b =
        let hx : n % 2 < 2 = omega arith in
        let hy : b % 2 < 2 = omega arith in
        let d : differ (n % 2) (b % 2) < 2 = differ_small (n % 2) (b % 2) hx hy in
        let e1 : bit_xor n b ≡ bit_xor (n / 2) (b / 2) * 2 + differ (n % 2) (b % 2) = xor_step n b in
        let e2 : bit_xor n b / 2 ≡ bit_xor (n / 2) (b / 2) = omega arith in
        let e3 : bit_xor n b % 2 ≡ differ (n % 2) (b % 2) = omega arith in
        xor_step (bit_xor n b) b
        ∙ ap₂ (λ (p q : ℕ). p * 2 + q) (ap (λ (p : ℕ). bit_xor p (b / 2)) e2 ∙ ih (b / 2)) (ap (λ (q : ℕ). differ q (b % 2)) e3 ∙ differ_cancel (n % 2) (b % 2) hx hy)
        ∙ div-add-mod' n 2
