-- Counting up to n: what is left. Assumes nothing.
use Rattle.std.proofs.Common.{◌≡◌, ℕ, suc, ◌+◌, ◌-◌, ◌<◌, arith}

pub one_left : (n i : ℕ) → i < n → n - i ≡ suc (n - (i + 1))
one_left n i l = omega arith
