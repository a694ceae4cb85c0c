-- The kernel's sizes as numbers, and how many slots a page has by its number. Assumes nothing.
use Rattle.std.specs.Prelude.{◌≡◌, refl, ℕ, zero, suc, ◌*◌, ◌≤◌, ◌<◌}
use Rattle.std.proofs.Common.{arith}
use Rattle.words.specs.Pick.{bool}
use Rattle.model.specs.State.{Sizes, till, Slot, is_busy, max_slots, max_batch}
use Rattle.model.specs.Storage.{slots_of, busy_in, busy_of}
use Rattle.model.specs.Create.{max_pages}

pub slots_max_law : max_slots ≡ 16777215
unfolding max_slots
slots_max_law = refl

pub pages_max_law : max_pages till ≡ 262144
unfolding max_slots
pages_max_law = refl

pub batch_max_law : max_batch ≡ 64
unfolding max_batch
batch_max_law = refl

pub slots_full : (p : ℕ) → p < 262143 → 64 ≡ slots_of till p
slots_full p h = omega (arith, slots_max_law)

pub slots_last : (p : ℕ) → p ≡ 262143 → 63 ≡ slots_of till p
slots_last p h = omega (arith, slots_max_law)

pub slots_none : (p : ℕ) → 262143 < p → 0 ≡ slots_of till p
slots_none p h = omega (arith, slots_max_law)

busy_in_law : (f : ℕ → Slot) (k n : ℕ) → busy_in f k n ≤ n
busy_in_law f k zero = omega arith
busy_in_law f k (suc n) = let h = busy_in_law f (suc k) n in bool (is_busy (f k)) (λ e. rw e (omega arith)) (λ e. rw e (omega arith))

-- a page, of any size, has no more busy slots than slots
pub busy_small : (z : Sizes) (f : ℕ → Slot) (p : ℕ) → busy_of z f p ≤ z.page_slots
busy_small z f p = omega (arith, busy_in_law f (p * z.page_slots) (slots_of z p))
