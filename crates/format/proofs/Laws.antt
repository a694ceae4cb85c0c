-- Laws of the tables: each is one test that is computed over the whole table.
-- Assumes nothing.
use Rattle.std.specs.Prelude.{◌≡◌, refl, Bool, true, false, ◌&&◌, List, [], ◌∷◌, ℕ, zero, suc, ◌+◌, ◌%◌, ◌^◌, ◌<◌, ◌≤◌, eqb, leb, ltb, length, get_or}
use Rattle.std.proofs.Common.{sym, ap, ◌∙◌, add-zero, zero-add, add-suc, suc-add, le_of_suc-le-suc, not-suc-le-zero, eqb-true, ltb-true, ltb-false, ne_eqb}
use Rattle.std.proofs.Math.Bool.{and-false}
use Rattle.std.proofs.Math.ListN.{get_or-eq_default}
use Rattle.std.specs.Int.Bits.{bit_and}
use Rattle.std.proofs.lemmas.Bool.{lt-leb}
use Rattle.words.specs.Pick.{and_left, and_right}
use Rattle.format.specs.Format.{musts, mays, field_kinds, field_fits, known_op, field_count, transfer_item_must, transfer_item_may, parcel_item_must, parcel_item_may}
use Rattle.format.specs.Fields.{any_word, number32, a_koid, a_route, an_op, an_operation, zero_word}
use Rattle.format.specs.Ops.{op_new_object, op_last}

-- every entry of a table passes a test, counted from i
abbrev pub every : (ℕ → ℕ → Bool) → ℕ → List ℕ → Bool
every f i [] = true
every f i (x ∷ xs) = f i x && every f (suc i) xs

from : (f : ℕ → ℕ → Bool) (xs : List ℕ) (i : ℕ) → every f i xs ≡ true → (k : ℕ) → k < length xs → f (i + k) (get_or xs k 0) ≡ true
from f [] i t k h = absurd (not-suc-le-zero h)
from f (x ∷ xs) i t zero h = ap (λ (m : ℕ). f m x) (add-zero i) ∙ and_left (f i x) (every f (suc i) xs) t
from f (x ∷ xs) i t (suc k) h =
    ap (λ (m : ℕ). f m (get_or xs k 0)) (add-suc i k ∙ sym (suc-add i k))
    ∙ from f xs (suc i) (and_right (f i x) (every f (suc i) xs) t) k (le_of_suc-le-suc h)

-- so the test holds at each entry
pub at : (f : ℕ → ℕ → Bool) (xs : List ℕ) → every f 0 xs ≡ true → (k : ℕ) → k < length xs → f k (get_or xs k 0) ≡ true
at f xs t k h = ap (λ (m : ℕ). f m (get_or xs k 0)) (sym (zero-add k)) ∙ from f xs 0 t k h

-- two tests agree
abbrev pub same : Bool → Bool → Bool
same true b = b
same false true = false
same false false = true

pub same_eq : (a b : Bool) → same a b ≡ true → a ≡ b
same_eq true b e = sym e
same_eq false true e = e
same_eq false false e = refl

-- a row of the table of ops: must and may have no field in common, both are within the fields, and must has bit 0 exactly for a known op
unfoldable pub row_fits : ℕ → ℕ → ℕ → Bool
row_fits op must may =
    eqb (bit_and must may) 0 && (ltb must (2 ^ field_count) && (ltb may (2 ^ field_count) && same (eqb (must % 2) 1) (known_op op)))

table_fits : every (λ (op must : ℕ). row_fits op must (get_or mays op 0)) 0 musts ≡ true
unfolding row_fits musts mays known_op
table_fits = refl

short : (op : ℕ) → op < suc op_last → op < length musts
unfolding musts
short op h = h

past : (op : ℕ) → suc op_last ≤ op → row_fits op (get_or musts op 0) (get_or mays op 0) ≡ true
unfolding musts mays row_fits known_op
past op h = rw (get_or-eq_default musts 0 h, get_or-eq_default mays 0 h, lt-leb op op_last h, and-false (leb 1 op))

-- every op's row fits; of an unknown op both maps are 0
pub row_fits_law : (op : ℕ) → row_fits op (get_or musts op 0) (get_or mays op 0) ≡ true
row_fits_law op = go (ltb op (suc op_last)) refl
  where
    go : (t : Bool) → ltb op (suc op_last) ≡ t → row_fits op (get_or musts op 0) (get_or mays op 0) ≡ true
    go true e = at (λ (k must : ℕ). row_fits k must (get_or mays k 0)) musts table_fits op (short op (ltb-true op (suc op_last) e))
    go false e = past op (ltb-false op (suc op_last) e)

all_four : (p q r s : Bool) → (p && (q && (r && s))) ≡ true → (p ≡ true) × (q ≡ true) × (r ≡ true) × (s ≡ true)
all_four p q r s t =
    (and_left p (q && (r && s)) t, and_left q (r && s) t1, and_left r s (and_right q (r && s) t1), and_right r s (and_right q (r && s) t1))
  where
    t1 : (q && (r && s)) ≡ true
    t1 = and_right p (q && (r && s)) t

module _ (op : ℕ) where
  row : (eqb (bit_and (get_or musts op 0) (get_or mays op 0)) 0 ≡ true) × (ltb (get_or musts op 0) (2 ^ field_count) ≡ true)
      × (ltb (get_or mays op 0) (2 ^ field_count) ≡ true) × (same (eqb (get_or musts op 0 % 2) 1) (known_op op) ≡ true)
  unfolding row_fits
  row =
      all_four (eqb (bit_and (get_or musts op 0) (get_or mays op 0)) 0) (ltb (get_or musts op 0) (2 ^ field_count)) (ltb (get_or mays op 0) (2 ^ field_count))
      (same (eqb (get_or musts op 0 % 2) 1) (known_op op))
      (row_fits_law op)

  -- an op's must and may have no field in common
  pub disjoint : bit_and (get_or musts op 0) (get_or mays op 0) ≡ 0
  disjoint = eqb-true (bit_and (get_or musts op 0) (get_or mays op 0)) 0 row.0

  -- both are within the 18 fields
  pub must_below : get_or musts op 0 < 2 ^ field_count
  must_below = ltb-true (get_or musts op 0) (2 ^ field_count) row.1

  pub may_below : get_or mays op 0 < 2 ^ field_count
  may_below = ltb-true (get_or mays op 0) (2 ^ field_count) row.2

  -- must has bit 0 exactly for known ops
  pub must_op : eqb (get_or musts op 0 % 2) 1 ≡ known_op op
  must_op = same_eq (eqb (get_or musts op 0 % 2) 1) (known_op op) row.3

-- the same of the items' maps, which have bit 0
pub items_fit : (row_fits op_new_object transfer_item_must transfer_item_may && row_fits op_new_object parcel_item_must parcel_item_may) ≡ true
unfolding row_fits known_op
items_fit = refl

-- each field has a kind, and none of those that an item's bit 0 has
pub kinds_fit : (every (λ (bit kind : ℕ). leb kind an_op) 0 field_kinds && eqb (length field_kinds) field_count) ≡ true
unfolding field_kinds
kinds_fit = refl

-- a number that names no kind takes no word
pub no_kind : (kind word : ℕ) → (kind ≡ any_word → ⊥) → (kind ≡ number32 → ⊥) → (kind ≡ a_koid → ⊥) → (kind ≡ a_route → ⊥) → (kind ≡ an_op → ⊥) → (kind ≡ an_operation → ⊥)
    → (kind ≡ zero_word → ⊥) → false ≡ field_fits kind word
unfolding field_fits
no_kind kind word h0 h1 h2 h3 h4 h5 h6 =
    simp (ne_eqb kind any_word h0, ne_eqb kind number32 h1, ne_eqb kind a_koid h2, ne_eqb kind a_route h3, ne_eqb kind an_op h4, ne_eqb kind an_operation h5, ne_eqb kind zero_word h6)
