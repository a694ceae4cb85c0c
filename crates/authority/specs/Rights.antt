-- Rights, from document 01, "What the text lacks, and what we fix": "Rights are 64 bits: DUPLICATE 1, TRANSFER 2, the two being the
-- propagation mask; containing means subset."
-- Assumes nothing.
use Rattle.std.specs.Prelude.{ℕ, ◌-◌, ◌%◌, Bool, eqb}
use Rattle.std.specs.Int.Bits.{bit_and, bit_or}
use Rattle.authority.specs.declared.HandleRights.{HandleRights}

-- "DUPLICATE 1"
abbrev pub duplicate_right : ℕ
duplicate_right = 1

-- "TRANSFER 2"
abbrev pub transfer_right : ℕ
transfer_right = 2

-- "the two being the propagation mask": bits 0 and 1
abbrev pub propagation_mask : ℕ
propagation_mask = 3

-- "containing means subset": every right asked for is held
unfoldable pub contains : ℕ → ℕ → Bool
contains held asked = eqb (bit_and held asked) asked

-- "rights, split": the part inside the propagation mask 3, which is the remainder by 4
unfoldable pub propagation : ℕ → ℕ
propagation r = r % 4

-- the part outside the propagation mask 3
unfoldable pub operations : ℕ → ℕ
operations r = r - r % 4

-- "and rejoined": the rights of either part
unfoldable pub rejoin : ℕ → ℕ → ℕ
rejoin o p = bit_or o p

-- the rights split, as the struct that a handle holds
abbrev pub decomposed : ℕ → HandleRights
decomposed r = record { operations = record { 0 = operations r }; propagation = record { 0 = propagation r } }
