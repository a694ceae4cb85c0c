-- What the code's tests and loops say. Assumes nothing.
use Rattle.std.specs.Prelude.{Option, Some, None, ◌≡◌, refl, Bool, not, List, ℕ, zero, suc, ◌+◌, ◌-◌, ◌*◌, ◌≤◌, ◌<◌, eqb, ltb, min}
use Rattle.std.specs.Int.{div_ceil}
use Rattle.std.proofs.Math.Path.{sym}
use Rattle.std.proofs.Common.{ap, ◌∙◌, arith, add-one, add-mul}
use Rattle.std.proofs.Math.Bool.{true, false}
use borrow.Author.Tests.{eqb-true, le-ltb, ltb-true, ltb-false}
use Rattle.words.specs.Pick.{bool, both}
use Rattle.words.specs.All.{all, all_at, all_stop}
use Rattle.model.specs.Base.{bit, sum}
use Rattle.model.proofs.Tests.{bit_small}
use Rattle.model.proofs.Sums.{sum_equal}
use Rattle.model.proofs.Counting.{sum_append}
use Rattle.layout.specs.declared.Shape.{Shape}
use Rattle.layout.specs.Layout.{Mem, head, entry, group, in_no, load, load_out}
use Rattle.layout.specs.Fields.{head_page_limit, head_pages, head_first_entry, entry_frame}
use Rattle.layout.specs.Sizes.{pages_max}
use Rattle.structure.specs.declared.Level.{Level}
use Rattle.structure.specs.declared.Level.TheVariants.{Sixteens, Hundreds}
use Rattle.structure.specs.Facts.{HeadIs, limits_to, is_free, free_from, attached_in}
use Rattle.structure.specs.Checks.{head_b, entry_b, entries_b, span_b, spans_b, groups_b, head_is}

-- a count plus 1, or 0 where the test failed
abbrev pub counted : Bool → ℕ → ℕ
counted true n = suc n
counted false n = 0

-- an answer that is a number, as a number: 0 is none
abbrev pub plus_one : Option ℕ → ℕ
plus_one None = 0
plus_one (Some n) = suc n

pub counted_no : (b : Bool) (n : ℕ) → b ≡ false → 0 ≡ counted b n
counted_no b n e = rw e

pub counted_is : (b : Bool) (n r : ℕ) → r ≡ counted b n → (r ≡ 0 → ⊥) → (b ≡ true) × (r - 1 ≡ n)
counted_is true n r e h = (refl, omega arith)
counted_is false n r e h = absurd (h e)

pub counted_none : (b : Bool) (n r : ℕ) → r ≡ counted b n → r ≡ 0 → b ≡ false
counted_none true n r e h = absurd (omega arith)
counted_none false n r e h = refl

-- ---- sums and tests by turns

pub sum_more : (f : ℕ → ℕ) (k x v y : ℕ) → x ≡ sum k f → v ≡ f k → y ≡ x + v → y ≡ sum (k + 1) f
sum_more f k x v y e q p = rw add-one (cc)

-- ---- pages

module _ (m : Mem) (sh : Shape) (e n : ℕ) where
  abbrev pub entry_test : ℕ → Bool
  entry_test p = entry_b m sh (e + p)

  pub entries_stop : (p x : ℕ) (t : Bool) → p < n → t ≡ entry_b m sh (e + p) → t ≡ false → 0 ≡ counted (entries_b m sh e n) x
  unfolding entries_b
  entries_stop p x t h d q = counted_no (all n entry_test) x (all_stop n entry_test p h (sym d ∙ q))

-- ---- tables

pub size_small : (m : Mem) (b e : ℕ) → head_b m b e ≡ true → m (head b head_pages) ≤ pages_max
size_small m b e q = let h = head_is m b e q in omega (arith, h.size, h.few_limit)

attached_small : (m : Mem) (e n : ℕ) → attached_in m e n ≤ n
attached_small m e zero = omega arith
attached_small m e (suc n) = omega (arith, attached_small m e n, bit_small (not (eqb (m (entry (e + n) entry_frame)) 0)))

-- what a table's answer says
module _ (m : Mem) (sh : Shape) (b e c : ℕ) (r : Option ℕ) (er : r ≡ Some c) (ec : plus_one r ≡ counted (span_b m sh b e) (attached_in m e (m (head b head_pages)))) where
  table_is : (span_b m sh b e ≡ true) × (attached_in m e (m (head b head_pages)) ≡ c)
  table_is = let t = counted_is (span_b m sh b e) (attached_in m e (m (head b head_pages))) (suc c) (rw er at ec) (λ z. omega (arith, z)) in (t.0, omega (arith, t.1))

  pub table_passes : span_b m sh b e ≡ true
  table_passes = table_is.0

  pub table_count : attached_in m e (m (head b head_pages)) ≡ c
  table_count = table_is.1

-- and the table itself
module _ (m : Mem) (sh : Shape) (b e : ℕ) (t : span_b m sh b e ≡ true) where
  span_head : HeadIs m b e
  unfolding span_b
  span_head = head_is m b e (both (head_b m b e) _ t).0

  pub span_first : m (head b head_first_entry) ≡ e
  span_first = span_head.first

  pub span_limit : m (head b head_page_limit) ≤ pages_max
  span_limit = span_head.few_limit

  pub span_few : attached_in m e (m (head b head_pages)) ≤ pages_max
  span_few = let h = span_head in omega (arith, attached_small m e (m (head b head_pages)), h.size, h.few_limit)

module _ (m : Mem) (sh : Shape) where
  abbrev pub table_test : ℕ → Bool
  table_test b = span_b m sh b (limits_to m b)

  pub tables_stop : (b e x : ℕ) (r : Option ℕ) → b < sh.tables → e ≡ limits_to m b → r ≡ None → plus_one r ≡ counted (span_b m sh b e) (attached_in m e (m (head b head_pages))) → 0 ≡ counted (spans_b m sh) x
  unfolding spans_b
  tables_stop b e x r h q er ec =
      let t : table_test b ≡ false = rw (← q) (counted_none (span_b m sh b e) (attached_in m e (m (head b head_pages))) 0 (rw er at ec) refl) in
      rw (all_stop sh.tables table_test b h t)

-- ---- frames

-- past the last frame there is none: the count may end there
pub free_end : (m : Mem) (F a n j x : ℕ) → j ≤ n → (j < n → F ≤ a + j) → x ≡ free_from m F a j → x ≡ free_from m F a n
free_end m F a zero j x h p e = let z : j ≡ 0 = omega arith in rw z at e
free_end m F a (suc n) j x h p e = bool (ltb j (suc n))
    (λ q. let l = ltb-true j (suc n) q in let g = p l in
    let i = free_end m F a n j x (omega arith) (λ k. g) e in
    rw (le-ltb (a + n) F (omega arith)) (omega arith))
    (λ q. let z : j ≡ suc n = omega (arith, ltb-false j (suc n) q) in rw z at e)

-- the same of a loop over places: it ends at the last frame or at the end
pub free_out : (m : Mem) (F a n f : ℕ) → a ≤ f → f ≤ a + n → min (a + n) F ≤ f → free_from m F a (f - a) ≡ free_from m F a n
free_out m F a n f l h g = free_end m F a n (f - a) (free_from m F a (f - a)) (omega arith) (λ k. omega arith) refl

pub free_small : (m : Mem) (F a n : ℕ) → free_from m F a n ≤ n
free_small m F a zero = omega arith
free_small m F a (suc n) = omega (arith, free_small m F a n, bit_small (is_free m F (a + n)))

module _ (m : Mem) (F level size n : ℕ) where
  abbrev pub group_test : ℕ → Bool
  group_test g = eqb (m (group level g)) (free_from m F (g * size) size)

-- ---- a level by the one below

-- a level's number, and how many frames its groups have
abbrev pub level_number : Level → ℕ
level_number Sixteens = 0
level_number Hundreds = 1

abbrev pub level_size : Level → ℕ
level_size Sixteens = 16
level_size Hundreds = 256

-- every count of a level is right; past the level's end both are 0
unfoldable pub LevelIs : Mem → ℕ → Level → Type 0
LevelIs m F level = (i : ℕ) → m (group (level_number level) i) ≡ free_from m F (i * level_size level) (level_size level)

-- where the first n are, and the others are 0 and past the last frame
level_is : (m : Mem) (F : ℕ) (level : Level) (n : ℕ) → groups_b m F (level_number level) (level_size level) n ≡ true → ((i : ℕ) → n ≤ i → (m (group (level_number level) i) ≡ 0) × (F ≤ i * level_size level)) → LevelIs m F level
unfolding groups_b LevelIs
level_is m F level n e past i =
    let a : ℕ = i * level_size level in
    bool (ltb i n)
    (λ q. eqb-true (m (group (level_number level) i)) (free_from m F a (level_size level)) (all_at n (group_test m F (level_number level) (level_size level) n) e i (ltb-true i n q)))
    (λ q. let k = past i (ltb-false i n q) in k.0 ∙ free_end m F a (level_size level) 0 0 (omega arith) (λ l. omega (arith, k.1)) refl)

module _ (ws : List ℕ) (sh : Shape) where
  pub sixteens_are : (r : Bool) → r ≡ groups_b (load ws sh) sh.frames 0 16 (div_ceil sh.frames 16) → r ≡ true → LevelIs (load ws sh) sh.frames Sixteens
  sixteens_are r q y = level_is (load ws sh) sh.frames Sixteens (div_ceil sh.frames 16) (sym q ∙ y) (λ i h. (load_out ws sh (group 0 i) (in_no sh (group 0 i) (λ k. omega (arith, k.xs))), omega arith))

  pub hundreds_are : (r : Bool) → r ≡ groups_b (load ws sh) sh.frames 1 256 (div_ceil sh.frames 256) → r ≡ true → LevelIs (load ws sh) sh.frames Hundreds
  hundreds_are r q y = level_is (load ws sh) sh.frames Hundreds (div_ceil sh.frames 256) (sym q ∙ y) (λ i h. (load_out ws sh (group 1 i) (in_no sh (group 1 i) (λ k. omega (arith, k.xs))), omega arith))

-- one more group
pub free_more : (m : Mem) (F size first i : ℕ) → free_from m F (first * size) ((i + 1) * size) ≡ free_from m F (first * size) (i * size) + free_from m F ((first + i) * size) size
free_more m F size first i =
    let a : ℕ = first * size in let b : ℕ = i * size in
    let e : (i + 1) * size ≡ i * size + size = add-mul i 1 size ∙ omega arith in
    let d : (first + i) * size ≡ first * size + i * size = add-mul first i size in
    let w : free_from m F ((first + i) * size) size ≡ (sum size λ j. bit (is_free m F (first * size + (i * size + j)))) =
    sum_equal size _ _ (λ j h. ap (λ (z : ℕ). bit (is_free m F z)) (omega (arith, d))) in
    rw e (sum_append (i * size) size (λ j. bit (is_free m F (first * size + j))) ∙ omega (arith, w))
