-- Handles are counted in the upper halves of the objects' count words. Settling compares the halves and leaves the lower ones. Assumes nothing.
use Rattle.std.specs.Prelude.{◌≡◌, Bool, true, false, length, eqb, ltb}
use Rattle.std.proofs.Math.Path.{refl, sym, ap, fun_ext}
use Rattle.std.proofs.Common.{◌∙◌, get_or-set_same}
use mathlib.Core.List.{List, [], ◌∷◌}
use Prim.Native.Nat.{ℕ, zero, suc, ◌+◌, ◌*◌, ◌/◌, ◌%◌, ◌≤◌, ◌<◌, min}
use native.Mathlib.Omega.{arith}
use Rattle.std.proofs.Math.ListN.{get_or, length-set, length-append}
use Rattle.std.proofs.Math.Seq.{set_out}
use borrow.Author.Tests.{ne_eqb, eqb-true, eqb-false, ltb-true, ltb-false}
use Rattle.words.specs.Pick.{bool, clash, pick_has}
use Rattle.words.specs.Words.{get_past}
use Rattle.words.specs.All.{all, all_at, all_yes, all_same}
use Rattle.model.specs.Base.{bit, occurs}
use Rattle.model.specs.State.{till, max_slots}
use Rattle.model.specs.Storage.{slots_of}
use Rattle.model.proofs.Tests.{bit_small}
use Rattle.layout.specs.declared.Shape.{Shape}
use Rattle.layout.specs.Layout.{Addr, Addr.reg, Mem, total, root, head, entry, cell, row, item, index, object, is_in, in_no, same, same_all, place, place_low, in_object, load, save, load_out, length_save, save_past, loads_same}
use Rattle.layout.specs.Fields.{root_used_rows, head_pages, head_first_entry, entry_frame, slot_tag, slot_object, object_active, row_kind, row_length, item_object}
use Rattle.layout.specs.Sizes.{page_size, slots_max, batch_max}
use Rattle.layout.specs.RegionNames.{region_object}
use Rattle.counts.specs.Found.{gather, is_occupied, holds_handles, on_link, in_cell, in_page, in_table, in_row, in_book, found, handles, counts_b}
use Rattle.counts.specs.Shift.{plus, unit, shift_w, shifted, length_shift, length_shifted, load_other}
use Rattle.counts.specs.Objects.{objects_b, objects_sound}

-- the halves of a word are equal
abbrev pub half_b : ℕ → Bool
half_b c = eqb (c % 4294967296) (c / 4294967296)

-- of the first n objects' counts
abbrev pub halves_to : Mem → ℕ → Bool
halves_to m n = all n λ o. half_b (m (object o object_active))

-- the count of object o with its lower half alone
unfoldable pub lower_w : List ℕ → Shape → ℕ → List ℕ
lower_w ws sh o = save ws sh (object o object_active) (load ws sh (object o object_active) % 4294967296)

-- those of the first n objects
unfoldable pub lowered : List ℕ → Shape → ℕ → List ℕ
lowered ws sh zero = ws
lowered ws sh (suc n) = lower_w (lowered ws sh n) sh n

-- every object's count is below 2^32
abbrev pub Low : List ℕ → Shape → Type 0
Low ws sh = (o : ℕ) → o < sh.objects → load ws sh (object o object_active) < 4294967296

-- where the objects' fields are in range it is
pub objects_low : (ws : List ℕ) (sh : Shape) → objects_b (load ws sh) sh ≡ true → Low ws sh
objects_low ws sh e o l = let f = objects_sound (load ws sh) sh e o l in omega (arith, f.within, f.limit)

-- ---- a store at an address, seen there

module _ (ws : List ℕ) (sh : Shape) (a : Addr) (v : ℕ) where
  own_in : place (length ws) sh a < length ws → load (save ws sh a v) sh a ≡ v
  unfolding load save
  own_in h = rw length-set (get_or-set_same ws (place (length ws) sh a) v 0 h)

  own_past : length ws ≤ place (length ws) sh a → (load (save ws sh a v) sh a ≡ 0) × (load ws sh a ≡ 0)
  unfolding load save
  own_past h = let z : get_or ws (place (length ws) sh a) 0 ≡ 0 = get_past ws (place (length ws) sh a) h in
      (rw (set_out ws (place (length ws) sh a) v h) z, z)

-- ---- settling, word by word

module _ (ws : List ℕ) (sh : Shape) where
  pub length_lower : (o : ℕ) → length (lower_w ws sh o) ≡ length ws
  unfolding lower_w
  length_lower o = length_save ws sh (object o object_active) (load ws sh (object o object_active) % 4294967296)

  lower_own : (o : ℕ) → load (lower_w ws sh o) sh (object o object_active) ≡ load ws sh (object o object_active) % 4294967296
  unfolding lower_w
  lower_own o = let v : ℕ = load ws sh (object o object_active) % 4294967296 in bool (ltb (place (length ws) sh (object o object_active)) (length ws))
      (λ e. own_in ws sh (object o object_active) v (ltb-true (place (length ws) sh (object o object_active)) (length ws) e))
      (λ e. let z = own_past ws sh (object o object_active) v (ltb-false (place (length ws) sh (object o object_active)) (length ws) e) in omega (arith, z.0, z.1))

  lower_other : (o : ℕ) (a : Addr) → same (object o object_active) a ≡ false → load (lower_w ws sh o) sh a ≡ load ws sh a
  unfolding lower_w
  lower_other o a e = load_other ws sh (object o object_active) a (load ws sh (object o object_active) % 4294967296) e

  lower_past : (o i : ℕ) → total sh ≤ i → get_or (lower_w ws sh o) i 0 ≡ get_or ws i 0
  unfolding lower_w
  lower_past o i h = save_past ws sh (object o object_active) (load ws sh (object o object_active) % 4294967296) i h

count_apart : (o p : ℕ) → (p ≡ o → ⊥) → same (object o object_active) (object p object_active) ≡ false
count_apart o p h = same_all region_object o 0 object_active region_object p 0 object_active ∙ rw (ne_eqb p o h)

module _ (ws : List ℕ) (sh : Shape) where
  pub length_lowered : (n : ℕ) → length (lowered ws sh n) ≡ length ws
  unfolding lowered
  length_lowered zero = refl
  length_lowered (suc n) = length_lower (lowered ws sh n) sh n ∙ length_lowered n

  -- what is not one of their counts is as it was
  lowered_other : (n : ℕ) (a : Addr) → ((o : ℕ) → o < n → same (object o object_active) a ≡ false) → load (lowered ws sh n) sh a ≡ load ws sh a
  unfolding lowered
  lowered_other zero a h = refl
  lowered_other (suc n) a h = lower_other (lowered ws sh n) sh n a (h n (omega arith)) ∙ lowered_other n a (λ o l. h o (omega arith))

  pub lowered_later : (n o : ℕ) → n ≤ o → load (lowered ws sh n) sh (object o object_active) ≡ load ws sh (object o object_active)
  lowered_later n o h = lowered_other n (object o object_active) (λ p l. count_apart p o (λ e. omega arith))

  lowered_own : (n o : ℕ) → o < n → load (lowered ws sh n) sh (object o object_active) ≡ load ws sh (object o object_active) % 4294967296
  unfolding lowered
  lowered_own zero o h = absurd (omega arith)
  lowered_own (suc n) o h = bool (eqb o n)
      (λ e. rw (eqb-true o n e) (lower_own (lowered ws sh n) sh n ∙ ap (λ (c : ℕ). c % 4294967296) (lowered_later n n (omega arith))))
      (λ e. let y : o ≡ n → ⊥ = eqb-false o n e in lower_other (lowered ws sh n) sh n (object o object_active) (count_apart n o y) ∙ lowered_own n o (omega arith))

  lowered_past : (n i : ℕ) → total sh ≤ i → get_or (lowered ws sh n) i 0 ≡ get_or ws i 0
  unfolding lowered
  lowered_past zero i h = refl
  lowered_past (suc n) i h = lower_past (lowered ws sh n) sh n i h ∙ lowered_past n i h

-- ---- one more in an upper half leaves the lower halves

module _ (sh : Shape) where
  shift_own : (ws : List ℕ) (o : ℕ) → load (shift_w ws sh unit o) sh (object o object_active) % 4294967296 ≡ load ws sh (object o object_active) % 4294967296
  unfolding shift_w
  shift_own ws o = let c : ℕ = load ws sh (object o object_active) in let v : ℕ = plus c unit in bool (ltb (place (length ws) sh (object o object_active)) (length ws))
      (λ e. ap (λ (x : ℕ). x % 4294967296) (own_in ws sh (object o object_active) v (ltb-true (place (length ws) sh (object o object_active)) (length ws) e)) ∙ omega arith)
      (λ e. let z = own_past ws sh (object o object_active) v (ltb-false (place (length ws) sh (object o object_active)) (length ws) e) in omega (arith, z.0, z.1))

  shift_other : (ws : List ℕ) (x : ℕ) (a : Addr) → same (object x object_active) a ≡ false → load (shift_w ws sh unit x) sh a ≡ load ws sh a
  unfolding shift_w
  shift_other ws x a e = load_other ws sh (object x object_active) a (plus (load ws sh (object x object_active)) unit) e

  shift_past : (ws : List ℕ) (x i : ℕ) → total sh ≤ i → get_or (shift_w ws sh unit x) i 0 ≡ get_or ws i 0
  unfolding shift_w
  shift_past ws x i h = save_past ws sh (object x object_active) (plus (load ws sh (object x object_active)) unit) i h

  shifted_low : (ws : List ℕ) (os : List ℕ) (o : ℕ) → load (shifted ws sh unit os) sh (object o object_active) % 4294967296 ≡ load ws sh (object o object_active) % 4294967296
  shifted_low ws [] o = refl
  shifted_low ws (x ∷ os) o = shifted_low (shift_w ws sh unit x) os o ∙ bool (eqb o x)
      (λ e. rw (eqb-true o x e) (shift_own ws x))
      (λ e. ap (λ (c : ℕ). c % 4294967296) (shift_other ws x (object o object_active) (count_apart x o (eqb-false o x e))))

  shifted_other : (ws : List ℕ) (os : List ℕ) (a : Addr) → ((o : ℕ) → same (object o object_active) a ≡ false) → load (shifted ws sh unit os) sh a ≡ load ws sh a
  shifted_other ws [] a h = refl
  shifted_other ws (x ∷ os) a h = shifted_other (shift_w ws sh unit x) os a h ∙ shift_other ws x a (h x)

  shifted_past : (ws : List ℕ) (os : List ℕ) (i : ℕ) → total sh ≤ i → get_or (shifted ws sh unit os) i 0 ≡ get_or ws i 0
  shifted_past ws [] i h = refl
  shifted_past ws (x ∷ os) i h = shifted_past (shift_w ws sh unit x) os i h ∙ shift_past ws x i h

  -- an object that no handle of the list is of
  shifted_none : (ws : List ℕ) (os : List ℕ) (o : ℕ) → occurs o os ≡ 0 → load (shifted ws sh unit os) sh (object o object_active) ≡ load ws sh (object o object_active)
  shifted_none ws [] o h = refl
  shifted_none ws (x ∷ os) o h = bool (eqb o x)
      (λ e. let z : 1 + occurs o os ≡ 0 = rw e at h in absurd (omega arith))
      (λ e. let z : 0 + occurs o os ≡ 0 = rw e at h in shifted_none (shift_w ws sh unit x) os o (omega (arith, z)) ∙ shift_other ws x (object o object_active) (count_apart x o (eqb-false o x e)))

-- every object that a handle of the list is of is among the first n
abbrev pub Within : Shape → ℕ → List ℕ → Type 0
Within sh n os = (o : ℕ) → o < sh.objects → 1 ≤ occurs o os → o < n

within_none : (sh : Shape) (n : ℕ) (os : List ℕ) → Within sh n os → (o : ℕ) → o < sh.objects → n ≤ o → occurs o os ≡ 0
within_none sh n os h o l k = bool (eqb (occurs o os) 0) (λ e. eqb-true (occurs o os) 0 e) (λ e. absurd (omega (arith, k, h o l (omega (arith, eqb-false (occurs o os) 0 e)))))

-- EVERY WORD IS AS IT WAS, whichever handles were counted
pub settled_kept : (ws : List ℕ) (sh : Shape) (os : List ℕ) (n : ℕ) → Low ws sh → Within sh n os → lowered (shifted ws sh unit os) sh n ≡ ws
settled_kept ws sh os n low within = loads_same (lowered vs sh n) ws sh (length_lowered vs sh n ∙ length_shifted ws sh unit os) (fun_ext at)
    (λ i h. lowered_past vs sh n i h ∙ shifted_past sh ws os i h)
  where
    vs : List ℕ
    vs = shifted ws sh unit os

    among : (x : ℕ) → x < sh.objects → load (lowered vs sh n) sh (object x object_active) ≡ load ws sh (object x object_active)
    among x l = bool (ltb x n)
        (λ e. lowered_own vs sh n x (ltb-true x n e) ∙ shifted_low sh ws os x ∙ omega (arith, low x l))
        (λ e. let k : n ≤ x = ltb-false x n e in lowered_later vs sh n x k ∙ shifted_none sh ws os x (within_none sh n os within x l k))

    count : (x : ℕ) → load (lowered vs sh n) sh (object x object_active) ≡ load ws sh (object x object_active)
    count x = bool (ltb x sh.objects)
        (λ e. among x (ltb-true x sh.objects e))
        (λ e. let o : is_in sh (object x object_active) ≡ false = in_no sh (object x object_active) (λ i. omega (arith, i.xs, ltb-false x sh.objects e)) in
        load_out (lowered vs sh n) sh (object x object_active) o ∙ sym (load_out ws sh (object x object_active) o))

    rest : (a : Addr) → ((o : ℕ) → same (object o object_active) a ≡ false) → load (lowered vs sh n) sh a ≡ load ws sh a
    rest a h = lowered_other vs sh n a (λ o l. h o) ∙ shifted_other sh ws os a h

    at : (a : Addr) → load (lowered vs sh n) sh a ≡ load ws sh a
    at (reg k x y f) = bool (eqb k region_object)
        (λ ek. bool (eqb f object_active)
        (λ ef. bool (eqb y 0)
        (λ ey. rw (eqb-true k region_object ek, eqb-true f object_active ef, eqb-true y 0 ey) (count x))
        (λ ey. rest (reg k x y f) (λ o. same_all region_object o 0 object_active k x y f ∙ rw (ek, ef, ey))))
        (λ ef. rest (reg k x y f) (λ o. same_all region_object o 0 object_active k x y f ∙ rw (ek, ef))))
        (λ ek. rest (reg k x y f) (λ o. same_all region_object o 0 object_active k x y f ∙ rw ek))

-- ---- there are fewer than 2^32 handles

gather_length : (n c : ℕ) (f : ℕ → List ℕ) → ((k : ℕ) → length (f k) ≤ c) → length (gather n f) ≤ n * c
gather_length zero c f h = omega arith
gather_length (suc n) c f h = omega (arith, length-append (gather n f) (f n), gather_length n c f h, h n)

occurs_length : (o : ℕ) (xs : List ℕ) → occurs o xs ≤ length xs
occurs_length o [] = omega arith
occurs_length o (x ∷ xs) = omega (arith, occurs_length o xs, bit_small (eqb o x))

module _ (m : Mem) where
  page_length : (e p : ℕ) → length (in_page m e p) ≤ slots_of till p
  page_length e p = go (m (entry (e + p) entry_frame))
    where
      go : (l : ℕ) → length (on_link l (λ fr. gather (slots_of till p) (in_cell m fr))) ≤ slots_of till p
      go zero = omega arith
      go (suc fr) = let h = gather_length (slots_of till p) 1 (in_cell m fr)
          (λ j. pick_has (λ (l : List ℕ). length l ≤ 1) (is_occupied (m (cell fr j slot_tag))) (m (cell fr j slot_object) ∷ []) [] (λ e. omega arith) (λ e. omega arith)) in omega (arith, h)

  -- a table has no more slots than that, however many pages it is said to have
  pages_length : (e n : ℕ) → (length (gather n (in_page m e)) ≤ n * page_size) × (length (gather n (in_page m e)) ≤ slots_max)
  unfolding max_slots
  pages_length e zero = (omega arith, omega arith)
  pages_length e (suc n) = let h = pages_length e n in let a = length-append (gather n (in_page m e)) (in_page m e n) in let b = page_length e n in
      (omega (arith, h.0, a, b), omega (arith, h.0, h.1, a, b))

  row_length_law : (x : ℕ) → length (in_row m x) ≤ batch_max
  row_length_law x = pick_has (λ (l : List ℕ). length l ≤ batch_max) (holds_handles (m (row x row_kind))) (gather (min (m (row x row_length)) batch_max) (λ j. m (item x j item_object) ∷ [])) []
      (λ e. let h = gather_length (min (m (row x row_length)) batch_max) 1 (λ j. m (item x j item_object) ∷ []) (λ j. omega arith) in omega (arith, h))
      (λ e. omega arith)

  pub found_length : (sh : Shape) → sh.tables < 256 → sh.rows < 65536 → length (found m sh) < 4294967296
  found_length sh a b =
      let u = gather_length sh.tables slots_max (in_table m sh) (λ k. (pages_length (m (head k head_first_entry)) (min (m (head k head_pages)) sh.pages)).1) in
      let v = gather_length (min (m (root root_used_rows)) sh.rows) batch_max (λ i. in_row m (m (index i))) (λ i. row_length_law (m (index i))) in
      omega (arith, length-append (gather sh.tables (in_table m sh)) (in_book m sh), u, v)

-- ---- the answer

-- with n more in its upper half, a word below 2^32 has equal halves exactly if it is n
half_is : (c n : ℕ) → c < 4294967296 → n < 4294967296 → half_b (plus c (n * 4294967296)) ≡ eqb c n
half_is c n a b =
    let e : plus c (n * 4294967296) ≡ c + n * 4294967296 = omega arith in
    let x : (c + n * 4294967296) % 4294967296 ≡ c = omega arith in
    let y : (c + n * 4294967296) / 4294967296 ≡ n = omega arith in
    rw (e, x, y)

module _ (sh : Shape) (o : ℕ) (l : o < sh.objects) where
  shift_count : (ws : List ℕ) (x : ℕ) → total sh ≤ length ws → load ws sh (object o object_active) < 18446744073709551616
      → load (shift_w ws sh unit x) sh (object o object_active) ≡ plus (load ws sh (object o object_active)) (bit (eqb o x) * 4294967296)
  unfolding shift_w
  shift_count ws x room h = bool (eqb o x)
      (λ e. rw (e, ← eqb-true o x e) (own_in ws sh (object o object_active) (plus (load ws sh (object o object_active)) unit) (omega (arith, place_low (length ws) sh (object o object_active) (in_object sh o object_active l (omega arith)))) ∙ omega arith))
      (λ e. rw e (load_other ws sh (object x object_active) (object o object_active) (plus (load ws sh (object x object_active)) unit) (count_apart x o (eqb-false o x e)) ∙ omega (arith, h)))

  shifted_count : (ws : List ℕ) (os : List ℕ) → total sh ≤ length ws → load ws sh (object o object_active) < 18446744073709551616
      → load (shifted ws sh unit os) sh (object o object_active) ≡ plus (load ws sh (object o object_active)) (occurs o os * 4294967296)
  shifted_count ws [] room h = omega (arith, h)
  shifted_count ws (x ∷ os) room h = let a = shift_count ws x room h in
      shifted_count (shift_w ws sh unit x) os (omega (arith, length_shift ws sh unit x)) (omega (arith, a)) ∙ ap (λ (c : ℕ). plus c (occurs o os * 4294967296)) a ∙ omega arith

-- THE COUNTS ARE RIGHT exactly if the halves are equal with every handle counted
pub halves_counts : (ws : List ℕ) (sh : Shape) → total sh ≤ length ws → Low ws sh → sh.tables < 256 → sh.rows < 65536
    → halves_to (load (shifted ws sh unit (found (load ws sh) sh)) sh) sh.objects ≡ counts_b (load ws sh) sh
unfolding counts_b handles
halves_counts ws sh room low a b = let os : List ℕ = found (load ws sh) sh in
    all_same sh.objects _ _ (λ o l. let c : ℕ = load ws sh (object o object_active) in let h : c < 4294967296 = low o l in
    ap half_b (shifted_count sh o l ws os room (omega (arith, h))) ∙ half_is c (occurs o os) h (omega (arith, occurs_length o os, found_length (load ws sh) sh a b)))

-- a test that every number from n on passes
all_less : (n k : ℕ) (p : ℕ → Bool) → n ≤ k → ((i : ℕ) → n ≤ i → i < k → p i ≡ true) → all n p ≡ all k p
all_less n k p h f = bool (all n p)
    (λ e. e ∙ sym (all_yes k p (λ i l. bool (ltb i n) (λ d. all_at n p e i (ltb-true i n d)) (λ d. f i (ltb-false i n d) l))))
    (λ e. bool (all k p) (λ d. clash (all_yes n p (λ i l. all_at k p d i (omega arith))) e) (λ d. e ∙ sym d))

-- an object that has no count and no handle has equal halves
pub halves_few : (ws : List ℕ) (sh : Shape) (os : List ℕ) (n : ℕ) → n ≤ sh.objects → Within sh n os → ((o : ℕ) → n ≤ o → o < sh.objects → load ws sh (object o object_active) ≡ 0)
    → halves_to (load (shifted ws sh unit os) sh) n ≡ halves_to (load (shifted ws sh unit os) sh) sh.objects
halves_few ws sh os n h within none = all_less n sh.objects _ h
    (λ o k l. ap half_b (shifted_none sh ws os o (within_none sh n os within o l k) ∙ none o k l))
