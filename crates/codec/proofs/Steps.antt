-- What the code computes with bit masks, in the codec's terms.
-- Assumes nothing.
use Rattle.std.specs.Prelude.{◌≡◌, refl, false, ℕ, ◌+◌, ◌-◌, ◌*◌, ◌/◌, ◌%◌, ◌^◌, ◌<◌, eqb, None}
use Rattle.std.proofs.Common.{sym, ap, ap₂, ◌∙◌, arith, eq-eqb, ne_eqb}
use Rattle.std.specs.Int.Bits.{bit_and, bit_xor}
use Rattle.std.proofs.lemmas.Nat.{and_mask}
use Rattle.words.specs.Pick.{yes_is, no_is}
use Rattle.codec.specs.Codec.{prefix, mask_of, payload, encode, payload_in, number_in, slot_in, generation_in, decodes, decode_of, found}
use Rattle.codec.proofs.Laws.{mask_is, masked_below, prefix_bits, other_prefix, no_slot, no_generation, all_three}

-- the payload and the mask, as the code makes them
abbrev pub made : ℕ → ℕ → ℕ → ℕ
made mask slot generation = bit_xor (generation % 4294967296 * 16777216 + (slot % 16777215 + 1)) (bit_and mask 72057594037927935)

pub made_is : (mask slot generation : ℕ) → made mask slot generation ≡ bit_xor (payload slot generation) (mask_of mask)
unfolding payload
made_is mask slot generation = ap (bit_xor (payload slot generation)) (sym (mask_is mask))

pub made_below : (mask slot generation : ℕ) → prefix + made mask slot generation < 2 ^ 64
made_below mask slot generation = omega (arith, made_is mask slot generation, masked_below mask slot generation)

pub encoded : (mask slot generation : ℕ) → prefix + made mask slot generation ≡ encode mask slot generation
unfolding encode
encoded mask slot generation = ap (λ (y : ℕ). prefix + y) (made_is mask slot generation)

-- the payload read back, as the code reads it
abbrev pub seen : ℕ → ℕ → ℕ
seen mask value = bit_xor (bit_and value 72057594037927935) (bit_and mask 72057594037927935)

pub seen_is : (mask value : ℕ) → seen mask value ≡ payload_in mask value
unfolding payload_in
seen_is mask value = ap₂ bit_xor (and_mask value 56) (sym (mask_is mask))

invalid : (mask value : ℕ) → decodes mask value ≡ false → None ≡ decode_of mask value
unfolding decode_of
invalid mask value h = no_is (decodes mask value) None (found (slot_in mask value) (generation_in mask value)) None h refl

pub other_prefix_seen : (mask value : ℕ) → value < 2 ^ 64 → (bit_and value 0xff00_0000_0000_0000 ≡ prefix → ⊥) → None ≡ decode_of mask value
other_prefix_seen mask value h f = invalid mask value (other_prefix mask value (λ e. f (prefix_bits value h ∙ e)))

pub no_slot_seen : (mask value : ℕ) → seen mask value % 16777216 ≡ 0 → None ≡ decode_of mask value
no_slot_seen mask value e = invalid mask value (no_slot mask value (ap (λ (y : ℕ). y % 2 ^ 24) (sym (seen_is mask value)) ∙ e))

pub no_generation_seen : (mask value : ℕ) → seen mask value / 16777216 ≡ 0 → None ≡ decode_of mask value
no_generation_seen mask value e = invalid mask value (no_generation mask value (ap (λ (y : ℕ). y / 2 ^ 24) (sym (seen_is mask value)) ∙ e))

pub at_seen : (mask value : ℕ) → value < 2 ^ 64 → bit_and value 0xff00_0000_0000_0000 ≡ prefix → (seen mask value % 16777216 ≡ 0 → ⊥)
    → (seen mask value / 16777216 ≡ 0 → ⊥) → found (seen mask value % 16777216 - 1) (seen mask value / 16777216) ≡ decode_of mask value
unfolding decode_of decodes slot_in number_in generation_in
at_seen mask value h p f g =
    let en : number_in mask value ≡ seen mask value % 16777216 = ap (λ (y : ℕ). y % 2 ^ 24) (sym (seen_is mask value)) in
    let eg : generation_in mask value ≡ seen mask value / 16777216 = ap (λ (y : ℕ). y / 2 ^ 24) (sym (seen_is mask value)) in
    yes_is (decodes mask value) (found (seen mask value % 16777216 - 1) (seen mask value / 16777216)) (found (slot_in mask value) (generation_in mask value)) None
    (all_three (eqb (value - value % 2 ^ 56) prefix) (eqb (number_in mask value) 0) (eqb (generation_in mask value) 0)
    (eq-eqb (value - value % 2 ^ 56) prefix (sym (prefix_bits value h) ∙ p))
    (ne_eqb (number_in mask value) 0 (λ z. f (sym en ∙ z)))
    (ne_eqb (generation_in mask value) 0 (λ z. g (sym eg ∙ z))))
    (ap₂ found (ap (λ (y : ℕ). y - 1) (sym en)) (sym eg))
