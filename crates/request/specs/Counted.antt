-- Where a field stands and where a record ends, by counting the bits of its map; which of its words are tested.
-- Assumes nothing.
use Rattle.std.specs.Prelude.{map, take, drop, set, ◌++◌}
use Rattle.std.proofs.Common.{length-append, length-take-le, length-drop}
use Rattle.std.proofs.lemmas.List.{get_or_default, length-map}
use Rattle.std.proofs.lemmas.List.Edits.{map_over_more}
use Rattle.std.specs.Prelude.{◌≡◌, refl, Bool, true, false, ◌&&◌, List, [], ◌∷◌, ℕ, zero, suc, ◌+◌, ◌-◌, ◌*◌, ◌/◌, ◌%◌, ◌^◌, ◌≤◌, ◌<◌, min, length, get_or, leb}
use Rattle.std.proofs.Common.{sym, ap₂, ◌∙◌, arith, add-zero, mod-lt, add-one, shr-shr, pow_pos}
use Rattle.std.proofs.Math.Path.{ap}
use Rattle.std.proofs.Math.Option.{Option, none, some}
use Rattle.std.proofs.Math.Nat.{mod-one, zero-div}
use Rattle.std.specs.Int.Bits.{bit_and, and_step}
use Rattle.std.proofs.lemmas.Nat.{and_shr, ones-le}
use Rattle.std.specs.Int.Count.{ones, ones_step}
use Rattle.std.proofs.Math.Pow.{field, mod-mod-pow}
use Rattle.std.specs.Bool.{then_some}
use borrow.Author.Tests.{leb-true, leb-false, le-ltb, le-leb, lt-leb, eqb-true}
use Rattle.format.specs.Format.{field_fits, field_kinds, field_count}
use Rattle.words.specs.Pick.{both_is}
use Rattle.model.specs.Base.{pick}
use Rattle.model.specs.Words.{Fields, odd, fit_all, may}
use Rattle.format.specs.Fields.{op_field, table_field, object_field, count_field, value_field, rights_field, flags_field, id_field, destination_field, kind_field, koid_field, cursor_field, route_field, offered_rights_field, offered_kind_field, expected_kind_field, forbidden_object_field, forbidden_kind_field, number32, a_koid, a_route}
use Rattle.request.specs.Place.{next_of, past, after, here, fields_from, end_at, kinds_of, fit_one, narrow_fit, walk}
use Rattle.request.specs.Fields.{past_is, walk_all}

-- the bits below one more bit
ones_more : (n m : ℕ) → ones (m % 2 ^ suc n) ≡ m % 2 + ones (m / 2 % 2 ^ n)
ones_more n m =
    ones_step (m % 2 ^ suc n)
    ∙ ap₂ (λ (a b : ℕ). a + ones b) (ap (λ (k : ℕ). m % 2 ^ k % 2) (sym (add-one n)) ∙ mod-mod-pow m n 1) (ap (λ (k : ℕ). m % 2 ^ k / 2) (sym (add-one n)) ∙ field m n 1)

ones_none : (m : ℕ) → ones (m % 2 ^ 0) ≡ 0
unfolding ones
ones_none m = ap ones (mod-one m)

-- after n fields as many words are past as bits stand in the map's n lowest
pub after_ones : (n m p : ℕ) → after n m p ≡ p + ones (m % 2 ^ n)
unfolding after
after_ones zero m p = sym (ap (λ (k : ℕ). p + k) (ones_none m) ∙ add-zero p)
after_ones (suc n) m p =
    let r : ones (m % 2 ^ suc n) ≡ m % 2 + ones (m / 2 % 2 ^ n) = ones_more n m in
    ap (after n (m / 2)) (past_is m p) ∙ after_ones n (m / 2) (p + m % 2) ∙ omega (arith, r)

-- a field stands where its bit does, past as many words as bits stand below
pub may_at : (n k m : ℕ) (ws : List ℕ) (p : ℕ) → k < n → may (fields_from n m ws p) k ≡ here (odd (m / 2 ^ k)) ws (p + ones (m % 2 ^ k))
unfolding fields_from
may_at zero k m ws p h = absurd (omega arith)
may_at (suc n) zero m ws p h =
    let d : m / 1 ≡ m = omega arith in
    sym (ap (λ (x : ℕ). here (odd x) ws (p + ones (m % 2 ^ 0))) d ∙ ap (here (odd m) ws) (ap (λ (k : ℕ). p + k) (ones_none m) ∙ add-zero p))
may_at (suc n) (suc k) m ws p h =
    let r : ones (m % 2 ^ suc k) ≡ m % 2 + ones (m / 2 % 2 ^ k) = ones_more k m in
    let q : past (odd m) p ≡ p + m % 2 = past_is m p in
    let s : 1 + k ≡ suc k = omega arith in
    may_at n k (m / 2) ws (past (odd m) p) (omega arith)
    ∙ ap₂ (λ (x y : ℕ). here (odd x) ws y) (shr-shr m 1 k ∙ ap (λ (e : ℕ). m / 2 ^ e) s) (omega (arith, q, r))

pub may_past : (n k m : ℕ) (ws : List ℕ) (p : ℕ) → n ≤ k → may (fields_from n m ws p) k ≡ none
unfolding fields_from
may_past zero k m ws p h = refl
may_past (suc n) zero m ws p h = absurd (omega arith)
may_past (suc n) (suc k) m ws p h = may_past n k (m / 2) ws (past (odd m) p) (omega arith)

-- no map has more than 18 fields
pub few : (m bit : ℕ) → bit ≤ field_count → ones (m % 2 ^ bit) ≤ field_count
few m bit h = omega (arith, ones-le bit (m % 2 ^ bit) (mod-lt m (pow_pos bit)))

-- fields read one after the other, each in the place of its bit
pub words_more : (f : ℕ → ℕ) (bits ws : List ℕ) (i w : ℕ) → i < length bits → ws ≡ map f (take i bits) ++ drop i bits → w ≡ f (get_or ws i 0)
    → set ws i w ≡ map f (take (i + 1) bits) ++ drop (i + 1) bits
words_more f bits ws i w h e p =
    let n : length ws ≡ length bits = omega (arith, ap length e, length-append (map f (take i bits)) (drop i bits), length-map (take i bits) f, length-take-le i bits (omega arith), length-drop i bits) in
    let x : get_or ws i 0 ≡ get_or ws i (get_or ws i 0) = get_or_default ws i 0 (get_or ws i 0) (omega arith) in
    ap (set ws i) p ∙ map_over_more f bits ws i (get_or ws i 0) h e x

-- The place after a record

pub end_out : (ws : List ℕ) (at : ℕ) → length ws ≤ at → at ≡ end_at ws at
unfolding end_at
end_out ws at h = sym (ap (λ (b : Bool). pick b (after field_count (get_or ws at 0) (suc at)) at) (le-ltb at (length ws) h))

-- The words that are tested

-- a bit that stands in one of two maps with no bit in common does not stand in the other
apart : (m n k : ℕ) → bit_and m n ≡ 0 → odd (n / 2 ^ k) ≡ true → odd (m / 2 ^ k) ≡ false
apart m n k e o = go (odd (m / 2 ^ k)) refl
  where
    a : ℕ
    a = m / 2 ^ k

    b : ℕ
    b = n / 2 ^ k

    none_left : bit_and a b ≡ 0
    none_left = sym (and_shr m n k) ∙ ap (λ (x : ℕ). x / 2 ^ k) e ∙ zero-div (2 ^ k)

    go : (t : Bool) → odd a ≡ t → t ≡ false
    go false q = refl
    go true q =
        let s : bit_and a b ≡ bit_and (a / 2) (b / 2) * 2 + min (a % 2) (b % 2) = and_step a b in
        let c : min (a % 2) (b % 2) ≡ 1 = ap₂ min (eqb-true (a % 2) 1 q) (eqb-true (b % 2) 1 o) in
        absurd (omega (arith, s, c, none_left))

-- the map of the fields that do not take every word
abbrev narrow : ℕ
narrow = 251456

absent : (m bit : ℕ) (ws : List ℕ) (p kind : ℕ) → bit < field_count → bit_and m narrow ≡ 0 → odd (narrow / 2 ^ bit) ≡ true → fit_one kind (may (fields_from field_count m ws p) bit) ≡ true
unfolding fit_one
absent m bit ws p kind h e o =
    ap (fit_one kind) (may_at field_count bit m ws p h ∙ ap (λ (b : Bool). here b ws (p + ones (m % 2 ^ bit))) (apart m narrow bit e o))

-- a map with none of the fields that do not take every word
pub none_narrow : (m : ℕ) (ws : List ℕ) (p : ℕ) → bit_and m narrow ≡ 0 → true ≡ narrow_fit (fields_from field_count m ws p)
unfolding narrow_fit
none_narrow m ws p e =
    sym (both_is _ _ (absent m flags_field ws p number32 (omega arith) e refl) (both_is _ _ (absent m kind_field ws p number32 (omega arith) e refl)
    (both_is _ _ (absent m koid_field ws p a_koid (omega arith) e refl) (both_is _ _ (absent m route_field ws p a_route (omega arith) e refl)
    (both_is _ _ (absent m offered_kind_field ws p number32 (omega arith) e refl) (both_is _ _ (absent m expected_kind_field ws p number32 (omega arith) e refl)
    (both_is _ _ (absent m forbidden_object_field ws p a_koid (omega arith) e refl) (both_is _ _ (absent m forbidden_kind_field ws p number32 (omega arith) e refl) refl))))))))

-- `fit_all`, not computed
unfoldable fits : List ℕ → Fields → Bool
fits ks fs = fit_all ks fs

fit_step : (k : ℕ) (x : Option ℕ) (ks : List ℕ) (fs : Fields) (r : Bool) → fits ks fs ≡ r → fits (k ∷ ks) (x ∷ fs) ≡ (fit_one k x && r)
unfolding fits fit_one
fit_step k none ks fs r e = e
fit_step k (some w) ks fs r e = ap (λ (b : Bool). field_fits k w && b) e

-- kind 0 takes every word
fit_any : (x : Option ℕ) (ks : List ℕ) (fs : Fields) (r : Bool) → fits ks fs ≡ r → fits (0 ∷ ks) (x ∷ fs) ≡ r
unfolding fits field_fits
fit_any none ks fs r e = e
fit_any (some w) ks fs r e = e

fit_end : fits [] [] ≡ true
unfolding fits
fit_end = refl

-- so of 18 fields nine are tested
fit_all_law : (first : ℕ) (x0 x1 x2 x3 x4 x5 x6 x7 x8 x9 x10 x11 x12 x13 x14 x15 x16 x17 : Option ℕ)
    → fits (first ∷ 0 ∷ 0 ∷ 0 ∷ 0 ∷ 0 ∷ 1 ∷ 0 ∷ 0 ∷ 1 ∷ 2 ∷ 0 ∷ 3 ∷ 0 ∷ 1 ∷ 1 ∷ 2 ∷ 1 ∷ []) (x0 ∷ x1 ∷ x2 ∷ x3 ∷ x4 ∷ x5 ∷ x6 ∷ x7 ∷ x8 ∷ x9 ∷ x10 ∷ x11 ∷ x12 ∷ x13 ∷ x14 ∷ x15 ∷ x16 ∷ x17 ∷ [])
    ≡ (fit_one first x0 && (fit_one number32 x6 && (fit_one number32 x9 && (fit_one a_koid x10 && (fit_one a_route x12 && (fit_one number32 x14 && (fit_one number32 x15 && (fit_one a_koid x16 && (fit_one number32 x17 && true)))))))))
fit_all_law first x0 x1 x2 x3 x4 x5 x6 x7 x8 x9 x10 x11 x12 x13 x14 x15 x16 x17 =
    fit_step first x0 _ _ _ (fit_any x1 _ _ _ (fit_any x2 _ _ _ (fit_any x3 _ _ _ (fit_any x4 _ _ _ (fit_any x5 _ _ _ (fit_step number32 x6 _ _ _
    (fit_any x7 _ _ _ (fit_any x8 _ _ _ (fit_step number32 x9 _ _ _ (fit_step a_koid x10 _ _ _ (fit_any x11 _ _ _ (fit_step a_route x12 _ _ _ (fit_any x13 _ _ _
    (fit_step number32 x14 _ _ _ (fit_step number32 x15 _ _ _ (fit_step a_koid x16 _ _ _ (fit_step number32 x17 _ _ _ fit_end)))))))))))))))))

pub fits_are : (first m : ℕ) (ws : List ℕ) (p : ℕ) → fit_all (kinds_of first) (fields_from field_count m ws p) ≡ (fit_one first (may (fields_from field_count m ws p) op_field) && narrow_fit (fields_from field_count m ws p))
unfolding fields_from narrow_fit fits kinds_of field_kinds
fits_are first m ws p =
    let fs : Fields = fields_from field_count m ws p in
    fit_all_law first (may fs op_field) (may fs table_field) (may fs object_field) (may fs count_field) (may fs value_field) (may fs rights_field) (may fs flags_field) (may fs id_field) (may fs destination_field) (may fs kind_field) (may fs koid_field) (may fs cursor_field) (may fs route_field) (may fs offered_rights_field) (may fs offered_kind_field) (may fs expected_kind_field) (may fs forbidden_object_field) (may fs forbidden_kind_field)

-- The place after a record's fields

-- what the walk tests at its end: whether the fields' words are there, and whether each that is tested fits its kind
pub walk_is : (first m : ℕ) (ws : List ℕ) (p : ℕ) → p ≤ length ws
    → next_of (walk (kinds_of first) ws m p)
    ≡ then_some (leb (ones (m % 2 ^ field_count)) (length ws - p) && (fit_one first (may (fields_from field_count m ws p) op_field) && narrow_fit (fields_from field_count m ws p))) (p + ones (m % 2 ^ field_count))
walk_is first m ws p h =
    ap next_of (walk_all first ws m p h)
    ∙ ap₂ (λ (k : ℕ) (b : Bool). next_of (pick (leb k (length ws) && b) (some k) none)) (after_ones field_count m p) (fits_are first m ws p)
    ∙ go (fit_one first (may (fields_from field_count m ws p) op_field) && narrow_fit (fields_from field_count m ws p)) (leb (p + n) (length ws)) refl
  where
    n : ℕ
    n = ones (m % 2 ^ field_count)

    picked : (b : Bool) → next_of (pick b (some (p + n)) none) ≡ then_some b (p + n)
    picked true = refl
    picked false = refl

    go : (f t : Bool) → leb (p + n) (length ws) ≡ t → next_of (pick (t && f) (some (p + n)) none) ≡ then_some (leb n (length ws - p) && f) (p + n)
    go f true e = let l : p + n ≤ length ws = leb-true (p + n) (length ws) e in picked f ∙ ap (λ (b : Bool). then_some (b && f) (p + n)) (sym (le-leb n (length ws - p) (omega arith)))
    go f false e = let l : length ws < p + n = leb-false (p + n) (length ws) e in ap (λ (b : Bool). then_some (b && f) (p + n)) (sym (lt-leb n (length ws - p) (omega arith)))
