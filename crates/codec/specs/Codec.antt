-- The codec of handle values, from document 01, "What the text lacks, and what we fix" and "Modules, leaves first".
-- A value is the prefix and, below it, a payload of 56 bits under a mask; the payload is a generation of 32 bits and a slot number of 24.
-- Assumes nothing.
use Rattle.std.specs.Prelude.{ℕ, ◌+◌, ◌-◌, ◌*◌, ◌/◌, ◌%◌, ◌^◌, Bool, not, ◌&&◌, eqb, ltb, Option, Some, None}
use Rattle.std.specs.Int.Bits.{bit_xor}
use Rattle.words.specs.Pick.{pick}
use Rattle.codec.specs.declared.Decoded.{Decoded}

-- "Slot index is at most 16,777,214."
abbrev pub slot_limit : ℕ
slot_limit = 16_777_214

-- the last generation: "`next_generation` of 4,294,967,295 is 1"
abbrev pub generation_limit : ℕ
generation_limit = 4_294_967_295

-- "prefix 4800000000000000"
abbrev pub prefix : ℕ
prefix = 0x4800_0000_0000_0000

-- "codec mask = seed AND 00FFFFFFFFFFFFFF", the remainder by 2 ^ 56; a mask of 0 stays 0
unfoldable pub mask_of : ℕ → ℕ
mask_of seed = seed % 2 ^ 56

-- the generation above the slot number, which is the slot index plus 1. So that every number has a payload, a slot index is reduced by
-- the count of slots and a generation by the count of generations; in their ranges both stay as they are.
unfoldable pub payload : ℕ → ℕ → ℕ
payload slot generation = generation % (generation_limit + 1) * 2 ^ 24 + (slot % (slot_limit + 1) + 1)

-- the value of a slot and a generation under a mask: the prefix, and the payload XOR the mask's 56 bits
unfoldable pub encode : ℕ → ℕ → ℕ → ℕ
encode mask slot generation = prefix + bit_xor (payload slot generation) (mask_of mask)

-- the payload of a value: its low 56 bits XOR the mask's
unfoldable pub payload_in : ℕ → ℕ → ℕ
payload_in mask value = bit_xor (value % 2 ^ 56) (mask_of mask)

-- the slot number in a value: 0 names no slot
unfoldable pub number_in : ℕ → ℕ → ℕ
number_in mask value = payload_in mask value % 2 ^ 24

-- the slot index in a value
unfoldable pub slot_in : ℕ → ℕ → ℕ
slot_in mask value = number_in mask value - 1

-- the generation in a value: 0 is never given out
unfoldable pub generation_in : ℕ → ℕ → ℕ
generation_in mask value = payload_in mask value / 2 ^ 24

-- "bad prefix or decode": whether a value has the prefix, a slot and a generation
unfoldable pub decodes : ℕ → ℕ → Bool
decodes mask value = eqb (value - value % 2 ^ 56) prefix && (not (eqb (number_in mask value) 0) && not (eqb (generation_in mask value) 0))

-- a slot and a generation that a value names
abbrev pub found : ℕ → ℕ → Option Decoded
found slot generation = Some (record { slot = slot; generation = generation })

-- what a value decodes to
unfoldable pub decode_of : ℕ → ℕ → Option Decoded
decode_of mask value = pick (decodes mask value) (found (slot_in mask value) (generation_in mask value)) None

-- the number of document 01 for each answer: 0 done, 2 InvalidHandle
abbrev pub decoded_number : Option Decoded → ℕ
decoded_number (Some d) = 0
decoded_number None = 2

-- "`next_generation` of 4,294,967,295 is 1", and so of every number above it; below it, one more
unfoldable pub next_generation : ℕ → ℕ
next_generation generation = pick (ltb generation generation_limit) (generation + 1) 1
