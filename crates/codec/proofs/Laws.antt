-- Laws of the codec.
-- Assumes nothing.
use Rattle.std.specs.Prelude.{◌≡◌, refl, Bool, true, false, not, ◌&&◌, ℕ, ◌+◌, ◌-◌, ◌*◌, ◌/◌, ◌%◌, ◌^◌, ◌<◌, ◌≤◌, eqb, ltb, None}
use Rattle.std.proofs.Common.{sym, ap₂, ◌∙◌}
use Rattle.std.proofs.Math.Path.{ap}
use native.Mathlib.Omega.{arith}
use Rattle.std.specs.Int.Bits.{bit_and, bit_xor}
use Rattle.std.proofs.lemmas.Nat.{xor_lt, and_mask}
use Rattle.std.proofs.lemmas.Nat.Bits.{and_high}
use borrow.Author.Tests.{eqb-true, eqb-false, eq-eqb, ne_eqb, lt-ltb, le-ltb, ltb-true, ltb-false}
use Rattle.words.specs.Pick.{yes_is, no_is}
use Rattle.codec.proofs.Xor.{xor_cancel}
use Rattle.codec.specs.Codec.{
  slot_limit,
  generation_limit,
  prefix,
  mask_of,
  payload,
  encode,
  payload_in,
  number_in,
  slot_in,
  generation_in,
  decodes,
  decode_of,
  found,
  decoded_number,
  next_generation,
}

-- document 01, "Cases to prove": P1 slot 0, generation 1: 4800000001000001
pub p1 : encode 0 0 1 ≡ 0x4800_0000_0100_0001
unfolding encode payload mask_of
p1 = refl

-- P2 slot 16,777,214, generation 4,294,967,295: 48FFFFFFFFFFFFFF
pub p2 : encode 0 16_777_214 4_294_967_295 ≡ 0x48ff_ffff_ffff_ffff
unfolding encode payload mask_of
p2 = refl

-- P3 the same, mask 00FFFFFFFFFFFFFF: 4800000000000000
pub p3 : encode 0x00ff_ffff_ffff_ffff 16_777_214 4_294_967_295 ≡ 0x4800_0000_0000_0000
unfolding encode payload mask_of
p3 = refl

-- P4 4800000001000000, mask 0: 2
pub p4 : decoded_number (decode_of 0 0x4800_0000_0100_0000) ≡ 2
unfolding decode_of decodes number_in generation_in payload_in mask_of
p4 = refl

-- P5 4800000000000001, mask 0: 2
pub p5 : decoded_number (decode_of 0 0x4800_0000_0000_0001) ≡ 2
unfolding decode_of decodes number_in generation_in payload_in mask_of
p5 = refl

first_fails : (p q r : Bool) → p ≡ false → (p && (q && r)) ≡ false
first_fails true q r e = cc
first_fails false q r e = refl

second_fails : (p q r : Bool) → q ≡ true → (p && (not q && r)) ≡ false
second_fails true true r e = refl
second_fails true false r e = cc
second_fails false q r e = refl

third_fails : (p q r : Bool) → r ≡ true → (p && (q && not r)) ≡ false
third_fails true true true e = refl
third_fails true true false e = cc
third_fails true false r e = refl
third_fails false q r e = refl

-- another prefix is refused
pub other_prefix : (mask value : ℕ) → (value - value % 2 ^ 56 ≡ prefix → ⊥) → decodes mask value ≡ false
unfolding decodes
other_prefix mask value h =
    first_fails (eqb (value - value % 2 ^ 56) prefix) (not (eqb (number_in mask value) 0)) (not (eqb (generation_in mask value) 0))
    (ne_eqb (value - value % 2 ^ 56) prefix h)

-- slot number 0 in the payload is refused
pub no_slot : (mask value : ℕ) → payload_in mask value % 2 ^ 24 ≡ 0 → decodes mask value ≡ false
unfolding decodes number_in
no_slot mask value h =
    second_fails (eqb (value - value % 2 ^ 56) prefix) (eqb (number_in mask value) 0) (not (eqb (generation_in mask value) 0))
    (eq-eqb (number_in mask value) 0 h)

-- generation 0 in the payload is refused
pub no_generation : (mask value : ℕ) → payload_in mask value / 2 ^ 24 ≡ 0 → decodes mask value ≡ false
unfolding decodes generation_in
no_generation mask value h =
    third_fails (eqb (value - value % 2 ^ 56) prefix) (not (eqb (number_in mask value) 0)) (eqb (generation_in mask value) 0)
    (eq-eqb (generation_in mask value) 0 h)

-- the mask is the seed's low 56 bits, "seed AND 00FFFFFFFFFFFFFF"
pub mask_is : (seed : ℕ) → mask_of seed ≡ bit_and seed 0x00ff_ffff_ffff_ffff
unfolding mask_of
mask_is seed = sym (and_mask seed 56)

pub mask_below : (seed : ℕ) → mask_of seed < 2 ^ 56
unfolding mask_of
mask_below seed = omega arith

-- so a mask of 0 stays 0
pub mask_same : (seed : ℕ) → seed < 2 ^ 56 → mask_of seed ≡ seed
unfolding mask_of
mask_same seed h = omega arith

-- the test of the prefix is one of the bits FF00000000000000
pub prefix_bits : (value : ℕ) → value < 2 ^ 64 → bit_and value 0xff00_0000_0000_0000 ≡ value - value % 2 ^ 56
prefix_bits value h =
    let e : bit_and value 0xff00_0000_0000_0000 ≡ (value / 2 ^ 56 % 2 ^ 8) * 2 ^ 56 = and_high value 8 56 in
    omega arith

pub payload_below : (slot generation : ℕ) → payload slot generation < 2 ^ 56
unfolding payload
payload_below slot generation = omega arith

-- in the ranges the payload is generation * 2 ^ 24 + (slot + 1)
pub payload_is : (slot generation : ℕ) → slot ≤ slot_limit → generation ≤ generation_limit
    → payload slot generation ≡ generation * 2 ^ 24 + (slot + 1)
unfolding payload
payload_is slot generation hs hg = omega arith

-- and a value is document 01's: prefix and (payload XOR mask)
pub encode_is : (mask slot generation : ℕ) → slot ≤ slot_limit → generation ≤ generation_limit → mask < 2 ^ 56
    → encode mask slot generation ≡ prefix + bit_xor (generation * 2 ^ 24 + (slot + 1)) mask
unfolding encode
encode_is mask slot generation hs hg hm =
    ap₂ (λ (x y : ℕ). prefix + bit_xor x y) (payload_is slot generation hs hg) (mask_same mask hm)

-- the payload under the mask fits below the prefix
pub masked_below : (mask slot generation : ℕ) → bit_xor (payload slot generation) (mask_of mask) < 2 ^ 56
masked_below mask slot generation = xor_lt 56 (payload slot generation) (mask_of mask) (payload_below slot generation) (mask_below mask)

-- a value is never 0, and it is a word
pub encode_positive : (mask slot generation : ℕ) → 0 < encode mask slot generation
unfolding encode
encode_positive mask slot generation = omega arith

pub encode_below : (mask slot generation : ℕ) → encode mask slot generation < 2 ^ 64
unfolding encode
encode_below mask slot generation = omega (arith, masked_below mask slot generation)

pub encode_prefix : (mask slot generation : ℕ) → encode mask slot generation - encode mask slot generation % 2 ^ 56 ≡ prefix
unfolding encode
encode_prefix mask slot generation = omega (arith, masked_below mask slot generation)

pub payload_encoded : (mask slot generation : ℕ) → payload_in mask (encode mask slot generation) ≡ payload slot generation
unfolding encode payload_in
payload_encoded mask slot generation =
    let h : bit_xor (payload slot generation) (mask_of mask) < 2 ^ 56 = masked_below mask slot generation in
    let e : (prefix + bit_xor (payload slot generation) (mask_of mask)) % 2 ^ 56 ≡ bit_xor (payload slot generation) (mask_of mask) = omega arith in
    ap (λ (y : ℕ). bit_xor y (mask_of mask)) e ∙ xor_cancel (payload slot generation) (mask_of mask)

number_encoded : (mask slot generation : ℕ) → number_in mask (encode mask slot generation) ≡ slot % (slot_limit + 1) + 1
unfolding number_in payload
number_encoded mask slot generation = ap (λ (y : ℕ). y % 2 ^ 24) (payload_encoded mask slot generation) ∙ omega arith

-- decoding an encoded slot and generation gives them back, under every mask
pub slot_encoded : (mask slot generation : ℕ) → slot ≤ slot_limit → slot_in mask (encode mask slot generation) ≡ slot
unfolding slot_in
slot_encoded mask slot generation hs = omega (arith, number_encoded mask slot generation)

pub generation_encoded : (mask slot generation : ℕ) → generation ≤ generation_limit → generation_in mask (encode mask slot generation) ≡ generation
unfolding generation_in payload
generation_encoded mask slot generation hg = ap (λ (y : ℕ). y / 2 ^ 24) (payload_encoded mask slot generation) ∙ omega arith

pub all_three : (p q r : Bool) → p ≡ true → q ≡ false → r ≡ false → (p && (not q && not r)) ≡ true
all_three true false false a b c = refl
all_three true false true a b c = cc
all_three true true r a b c = cc
all_three false q r a b c = a

pub decodes_encoded : (mask slot generation : ℕ) → 1 ≤ generation → generation ≤ generation_limit → decodes mask (encode mask slot generation) ≡ true
unfolding decodes
decodes_encoded mask slot generation h1 hg =
    let v = encode mask slot generation in
    all_three (eqb (v - v % 2 ^ 56) prefix) (eqb (number_in mask v) 0) (eqb (generation_in mask v) 0)
    (eq-eqb (v - v % 2 ^ 56) prefix (encode_prefix mask slot generation))
    (ne_eqb (number_in mask v) 0 (λ (z : number_in mask v ≡ 0). omega (arith, number_encoded mask slot generation)))
    (ne_eqb (generation_in mask v) 0 (λ (z : generation_in mask v ≡ 0). omega (arith, generation_encoded mask slot generation hg)))

pub decode_encoded : (mask slot generation : ℕ) → slot ≤ slot_limit → 1 ≤ generation → generation ≤ generation_limit
    → decode_of mask (encode mask slot generation) ≡ found slot generation
unfolding decode_of
decode_encoded mask slot generation hs h1 hg =
    let v = encode mask slot generation in
    sym
    (yes_is (decodes mask v) (found slot generation) (found (slot_in mask v) (generation_in mask v)) None
    (decodes_encoded mask slot generation h1 hg)
    (ap₂ found (sym (slot_encoded mask slot generation hs)) (sym (generation_encoded mask slot generation hg))))

-- different pairs give different values
pub encode_injective : (mask slot generation slot' generation' : ℕ) → slot ≤ slot_limit → generation ≤ generation_limit → slot' ≤ slot_limit
    → generation' ≤ generation_limit → encode mask slot generation ≡ encode mask slot' generation' → (slot ≡ slot') × (generation ≡ generation')
encode_injective mask slot generation slot' generation' hs hg hs' hg' e = (
  sym (slot_encoded mask slot generation hs) ∙ ap (slot_in mask) e ∙ slot_encoded mask slot' generation' hs',
  sym (generation_encoded mask slot generation hg) ∙ ap (generation_in mask) e ∙ generation_encoded mask slot' generation' hg',
)

-- and refused means InvalidHandle
pub refused_is_invalid : (mask value : ℕ) → decodes mask value ≡ false → decoded_number (decode_of mask value) ≡ 2
unfolding decode_of
refused_is_invalid mask value h =
    ap decoded_number (sym (no_is (decodes mask value) None (found (slot_in mask value) (generation_in mask value)) None h refl))

pub accepted_is_at : (mask value : ℕ) → decodes mask value ≡ true → decode_of mask value ≡ found (slot_in mask value) (generation_in mask value)
unfolding decode_of
accepted_is_at mask value h =
    sym (yes_is (decodes mask value) (found (slot_in mask value) (generation_in mask value)) (found (slot_in mask value) (generation_in mask value)) None h refl)

-- what holds of a value that decodes
three_hold : (p q r : Bool) → (p && (not q && not r)) ≡ true → (p ≡ true) × (q ≡ false) × (r ≡ false)
three_hold true false false e = (refl, refl, refl)
three_hold true false true e = (refl, refl, sym e)
three_hold true true r e = absurd (let z : ◌≡◌ {A = ℕ} 0 1 = cc in omega arith)
three_hold false q r e = absurd (let z : ◌≡◌ {A = ℕ} 0 1 = cc in omega arith)

payload_in_below : (mask value : ℕ) → payload_in mask value < 2 ^ 56
unfolding payload_in
payload_in_below mask value = xor_lt 56 (value % 2 ^ 56) (mask_of mask) (omega arith) (mask_below mask)

unmasked : (mask value : ℕ) → bit_xor (payload_in mask value) (mask_of mask) ≡ value % 2 ^ 56
unfolding payload_in
unmasked mask value = xor_cancel (value % 2 ^ 56) (mask_of mask)

module _ (mask value : ℕ) (d : decodes mask value ≡ true) where
  parts : (eqb (value - value % 2 ^ 56) prefix ≡ true) × (eqb (number_in mask value) 0 ≡ false) × (eqb (generation_in mask value) 0 ≡ false)
  unfolding decodes
  parts = three_hold (eqb (value - value % 2 ^ 56) prefix) (eqb (number_in mask value) 0) (eqb (generation_in mask value) 0) d

  pub decoded_prefix : value - value % 2 ^ 56 ≡ prefix
  decoded_prefix = eqb-true (value - value % 2 ^ 56) prefix parts.0

  decoded_number_law : 1 ≤ number_in mask value
  decoded_number_law = let f : number_in mask value ≡ 0 → ⊥ = eqb-false (number_in mask value) 0 parts.1 in omega (arith, f)

  pub decoded_slot : slot_in mask value ≤ slot_limit
  unfolding slot_in number_in
  decoded_slot = omega arith

  pub decoded_generation : (1 ≤ generation_in mask value) × (generation_in mask value ≤ generation_limit)
  unfolding generation_in
  decoded_generation =
      let f : generation_in mask value ≡ 0 → ⊥ = eqb-false (generation_in mask value) 0 parts.2 in
      omega (arith, f, payload_in_below mask value)

  joined : generation_in mask value * 2 ^ 24 + (slot_in mask value + 1) ≡ payload_in mask value
  unfolding slot_in number_in generation_in
  joined = let n : 1 ≤ payload_in mask value % 2 ^ 24 = decoded_number_law in omega arith

  payload_decoded : payload (slot_in mask value) (generation_in mask value) ≡ payload_in mask value
  payload_decoded = payload_is (slot_in mask value) (generation_in mask value) decoded_slot decoded_generation.1 ∙ joined

  -- encoding what a value decodes to gives the value
  pub encode_decoded : encode mask (slot_in mask value) (generation_in mask value) ≡ value
  unfolding encode
  encode_decoded =
      ap (λ (y : ℕ). prefix + bit_xor y (mask_of mask)) payload_decoded
      ∙ ap (λ (y : ℕ). prefix + y) (unmasked mask value)
      ∙ omega (arith, decoded_prefix)

-- so equal slot and generation mean equal values
pub same_value : (mask v w : ℕ) → decodes mask v ≡ true → decodes mask w ≡ true → slot_in mask v ≡ slot_in mask w
    → generation_in mask v ≡ generation_in mask w → v ≡ w
same_value mask v w hv hw es eg = sym (encode_decoded mask v hv) ∙ ap₂ (encode mask) es eg ∙ encode_decoded mask w hw

-- the generation after the limit is 1
pub next_at_limit : next_generation generation_limit ≡ 1
unfolding next_generation
next_at_limit = refl

-- and after any below one more
pub next_below : (generation : ℕ) → generation < generation_limit → next_generation generation ≡ generation + 1
unfolding next_generation
next_below generation h = sym (yes_is (ltb generation generation_limit) (generation + 1) (generation + 1) 1 (lt-ltb generation generation_limit h) refl)

pub next_wraps : (generation : ℕ) → generation_limit ≤ generation → next_generation generation ≡ 1
unfolding next_generation
next_wraps generation h = sym (no_is (ltb generation generation_limit) 1 (generation + 1) 1 (le-ltb generation generation_limit h) refl)

-- it stays in 1 to the limit
pub next_range : (generation : ℕ) → (1 ≤ next_generation generation) × (next_generation generation ≤ generation_limit)
next_range generation = go (ltb generation generation_limit) refl
  where
    go : (t : Bool) → ltb generation generation_limit ≡ t → (1 ≤ next_generation generation) × (next_generation generation ≤ generation_limit)
    go true e =
        let h : generation < generation_limit = ltb-true generation generation_limit e in
        omega (arith, next_below generation h)
    go false e = omega (arith, next_wraps generation (ltb-false generation generation_limit e))
