-- What the code's loops say, in the terms of the definitions. Assumes nothing.
use Rattle.std.specs.Prelude.{◌≡◌, List, ℕ, suc, ◌+◌, ◌-◌, ◌≤◌, ◌<◌, set}
use Rattle.std.proofs.Common.{arith, add-one}
use Rattle.codec.specs.Codec.{encode}
use Rattle.layout.specs.declared.Shape.{Shape}
use Rattle.layout.specs.Layout.{Mem, head, item, load, save}
use Rattle.layout.specs.Fields.{head_mask, head_first_free, slot_generation, slot_next_free, item_slot}
use Rattle.representation.specs.Represents.{slot_word}
use Rattle.request.specs.Answers.{puts}
use Rattle.storage.specs.Sight.{Spot.hd}
use Rattle.storage.specs.Ops.{seen, take_w}
use Rattle.reserve.specs.Ops.{listed_w, taken_w, values_at}

-- the loop of `list_slots`: turn j of n, and after the last
pub listed_step : (ws : List ℕ) (sh : Shape) (b x j l n : ℕ) → j < n
    → listed_w ws sh b x j l (n - j) ≡ listed_w (save ws sh (item x j item_slot) (l - 1)) sh b x (j + 1) (slot_word (load ws sh) b (l - 1) slot_next_free) (n - (j + 1))
unfolding listed_w
listed_step ws sh b x j l n i = let z : n - j ≡ suc (n - (j + 1)) = omega arith in rw (z, add-one j)

pub listed_end : (ws : List ℕ) (sh : Shape) (b x j l n : ℕ) → n ≤ j → listed_w ws sh b x j l (n - j) ≡ ws
unfolding listed_w
listed_end ws sh b x j l n i = let z : n - j ≡ 0 = omega arith in rw z

-- of `take_slots`
pub taken_step : (ws : List ℕ) (sh : Shape) (b x j n : ℕ) → j < n
    → taken_w ws sh b x j (n - j) ≡ taken_w (take_w ws sh b (seen ws sh b (hd head_first_free) - 1) x j) sh b x (j + 1) (n - (j + 1))
unfolding taken_w
taken_step ws sh b x j n i = let z : n - j ≡ suc (n - (j + 1)) = omega arith in rw (z, add-one j)

pub taken_end : (ws : List ℕ) (sh : Shape) (b x j n : ℕ) → n ≤ j → taken_w ws sh b x j (n - j) ≡ ws
unfolding taken_w
taken_end ws sh b x j n i = let z : n - j ≡ 0 = omega arith in rw z

-- of `say_values`
pub said_step : (m : Mem) (b x base : ℕ) (os : List ℕ) (j n : ℕ) → j < n
    → puts os base (j + 3) (values_at m b x j (n - j))
    ≡ puts (set os (base + (j + 3)) (encode (m (head b head_mask)) (m (item x j item_slot)) (slot_word m b (m (item x j item_slot)) slot_generation))) base (j + 1 + 3) (values_at m b x (j + 1) (n - (j + 1)))
unfolding puts
said_step m b x base os j n i = let z : n - j ≡ suc (n - (j + 1)) = omega arith in let w : j + 1 + 3 ≡ suc (j + 3) = omega arith in rw (z, w, add-one j)

pub said_end : (m : Mem) (b x base : ℕ) (os : List ℕ) (j n : ℕ) → n ≤ j → puts os base (j + 3) (values_at m b x j (n - j)) ≡ os
unfolding puts
said_end m b x base os j n i = let z : n - j ≡ 0 = omega arith in rw z
