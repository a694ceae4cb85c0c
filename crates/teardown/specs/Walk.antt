-- The walk to the next occupied slot, page by page: each turn keeps what is to be found, and a page without frame is passed over as a whole.
-- It finds the model's slot. Assumes nothing.
use Rattle.std.specs.Prelude.{◌≡◌, refl, Bool, true, false, cond, Option, Some, None, is_some, ℕ, zero, suc, ◌+◌, ◌-◌, ◌*◌, ◌/◌, ◌%◌, min, max, ◌≤◌, ◌<◌, eqb, ltb}
use Rattle.std.specs.List.{find, range_with_len}
use Rattle.std.proofs.Common.{sym, ap, ◌∙◌, arith, lt-ltb}
use Rattle.std.proofs.Math.Path.{fun_ext}
use Rattle.std.proofs.lemmas.Option.{none-some, same_Some}
use Rattle.std.proofs.lemmas.Bool.{ltb-true, ltb-false}
use Rattle.words.specs.Pick.{bool, clash}
use Rattle.model.specs.State.{till, Slot, Table, is_occupied, max_slots}
use Rattle.model.specs.Storage.{first_occupied}
use Rattle.model.specs.Step.{next_occupied}
use Rattle.layout.specs.Layout.{Mem, head, entry, cell}
use Rattle.layout.specs.Fields.{head_pages, entry_frame, slot_tag}
use Rattle.layout.specs.Sizes.{page_size, slots_max}
use Rattle.layout.specs.Values.{tag_occupied}
use Rattle.representation.specs.Represents.{link_of, entry_at, word_in, frame_of, slot_from, slot_in, TableIs}
use Rattle.lookup.specs.Named.{slot_tells}
use Rattle.lookup.specs.Scan.{length_at}
use Rattle.book.specs.Ops.{place_of}
use Rattle.teardown.specs.Ops.{found_in, next_link}

-- ---- walks over any slots

module _ (f : ℕ → Slot) where
  abbrev found : ℕ → ℕ → Option ℕ
  found k n = place_of (link_of (first_occupied f k n))

  found_none : (k n : ℕ) → ((j : ℕ) → k ≤ j → j < k + n → is_occupied (f j) ≡ false) → None ≡ found k n
  found_none k zero h = refl
  found_none k (suc n) h = rw (h k (omega arith) (omega arith)) (found_none (suc k) n (λ j l u. h j (omega arith) (omega arith)))

  -- as a search by a test of the slots' numbers
  found_by : (test : ℕ → Bool) (k n : ℕ) → ((j : ℕ) → k ≤ j → j < k + n → is_occupied (f j) ≡ test j) → find test (range_with_len k n) ≡ found k n
  found_by test k zero h = refl
  found_by test k (suc n) h = let z : k + 1 ≡ suc k = omega arith in
      rw (h k (omega arith) (omega arith), z) (ap (λ (o : Option ℕ). cond (test k) (Some k) o) (found_by test (suc k) n (λ j l u. h j (omega arith) (omega arith)))
      ∙ bool (test k) (λ e. rw e) (λ e. rw e))

  -- d slots in which there is none, and in which there is one
  found_past : (d k n : ℕ) → d ≤ n → None ≡ found k d → found k n ≡ found (k + d) (n - d)
  found_past zero k n l e = let a : k + 0 ≡ k = omega arith in let c : n - 0 ≡ n = omega arith in rw (a, c)
  found_past (suc d) k zero l e = absurd (omega arith)
  found_past (suc d) k (suc n) l e =
      let a : k + suc d ≡ suc k + d = omega arith in let c : suc n - suc d ≡ n - d = omega arith in
      bool (is_occupied (f k)) (λ q. absurd (none-some k (rw q at e))) (λ q. rw (q, a, c) (found_past d (suc k) n (omega arith) (rw q at e)))

  found_within : (d k n x : ℕ) → d ≤ n → Some x ≡ found k d → Some x ≡ found k n
  found_within zero k n x l e = absurd (none-some x (sym e))
  found_within (suc d) k zero x l e = absurd (omega arith)
  found_within (suc d) k (suc n) x l e =
      bool (is_occupied (f k)) (λ q. rw q at e ∙ rw q) (λ q. rw q (found_within d (suc k) n x (omega arith) (rw q at e)))

  found_range : (k n x : ℕ) → Some x ≡ found k n → (k ≤ x) × (x < k + n)
  found_range k zero x e = absurd (none-some x (sym e))
  found_range k (suc n) x e =
      bool (is_occupied (f k)) (λ q. let z : x ≡ k = same_Some x k (rw q at e) in (omega (arith, z), omega (arith, z)))
      (λ q. let h = found_range (suc k) n x (rw q at e) in (omega (arith, h.0), omega (arith, h.1)))

-- ---- the table's slots

-- slots of one page, below `max_slots`, have one frame
frame_same : (m : Mem) (b k j : ℕ) → k < max_slots → j < max_slots → j / page_size ≡ k / page_size → frame_of m b j ≡ frame_of m b k
frame_same m b k j l h q = rw (lt-ltb k max_slots l, lt-ltb j max_slots h, q)

-- a slot without frame is not occupied
no_frame : (m : Mem) (b k : ℕ) → frame_of m b k ≡ 0 → is_occupied (slot_in m b k) ≡ false
no_frame m b k e = ap (λ (fr : ℕ). is_occupied (slot_from m fr (k % page_size))) e

-- slots from k on and below `end`, all on the page of slot k
module _ (m : Mem) (b k end : ℕ) (page : end ≤ (k / page_size + 1) * page_size) (few : end ≤ slots_max) where
  same : (j : ℕ) → k ≤ j → j < k + (end - k) → frame_of m b j ≡ frame_of m b k
  unfolding max_slots
  same j l h = frame_same m b k j (omega arith) (omega arith) (omega arith)

  -- the page has no frame
  pub page_none : frame_of m b k ≡ 0 → None ≡ found_in m b k (end - k)
  page_none e = found_none (slot_in m b) k (end - k) (λ j l h. no_frame m b j (same j l h ∙ e))

  -- it has one: the slots' tags tell
  pub page_by : (fr : ℕ) → frame_of m b k ≡ suc fr → find (λ j. eqb (m (cell fr (j % page_size) slot_tag)) tag_occupied) (range_with_len k (end - k)) ≡ found_in m b k (end - k)
  page_by fr e = found_by (slot_in m b) (λ j. eqb (m (cell fr (j % page_size) slot_tag)) tag_occupied) k (end - k)
      (λ j l h. sym (slot_tells m b j) ∙ ap (λ (x : ℕ). eqb (word_in m x (j % page_size) slot_tag) tag_occupied) (same j l h ∙ e))

-- slots from k on and below `end`, all of the table and on page p, whose entry tells their frame
module _ (m : Mem) (b p k end : ℕ) (low : p * page_size ≤ k) (page : end ≤ (p + 1) * page_size) (few : end ≤ length_at m b) where
  entry_same : (j : ℕ) → k ≤ j → j < k + (end - k) → frame_of m b j ≡ m (entry (entry_at m b p) entry_frame)
  unfolding max_slots
  entry_same j l h =
      let q : j / page_size ≡ p = omega (arith, low, page) in
      rw (lt-ltb j max_slots (omega (arith, few)), q, lt-ltb p (m (head b head_pages)) (omega (arith, few, low)))

  -- they are all on the page of slot k, and none is past the last slot
  on_page : end ≤ (k / page_size + 1) * page_size
  on_page = omega (arith, low, page)

  not_past : end ≤ slots_max
  unfolding max_slots
  not_past = omega (arith, few)

  -- the page has no frame
  pub entry_none : m (entry (entry_at m b p) entry_frame) ≡ 0 → None ≡ found_in m b k (end - k)
  entry_none e = bool (ltb k end)
      (λ y. page_none m b k end on_page not_past (entry_same k (omega arith) (omega (arith, ltb-true k end y)) ∙ e))
      (λ y. let z : end - k ≡ 0 = omega (arith, ltb-false k end y) in rw z)

  -- it has one: the slots' tags tell
  pub entry_by : (fr : ℕ) → m (entry (entry_at m b p) entry_frame) ≡ suc fr → find (λ j. eqb (m (cell fr (j % page_size) slot_tag)) tag_occupied) (range_with_len k (end - k)) ≡ found_in m b k (end - k)
  entry_by fr e = bool (ltb k end)
      (λ y. page_by m b k end on_page not_past fr (entry_same k (omega arith) (omega (arith, ltb-true k end y)) ∙ e))
      (λ y. let z : end - k ≡ 0 = omega (arith, ltb-false k end y) in rw z)

-- ---- the loop of `next_occupied`

-- no table has more slots than there are
pub length_few : (m : Mem) (b long : ℕ) → long ≡ length_at m b → long ≤ slots_max
unfolding max_slots
length_few m b long e = omega arith

-- what is left to look at from page p on
abbrev pub rest_in : Mem → ℕ → ℕ → ℕ → ℕ → Option ℕ
rest_in m b c long p = found_in m b (max c (p * page_size)) (long - max c (p * page_size))

pub next_start : (m : Mem) (b c long : ℕ) → long ≡ length_at m b → place_of (next_link m b c) ≡ rest_in m b c long (c / page_size)
unfolding next_link
next_start m b c long e = let z : max c (c / page_size * page_size) ≡ c = omega arith in rw (z, e)

pub next_end : (m : Mem) (b c long p : ℕ) → long ≤ p * page_size → None ≡ rest_in m b c long p
next_end m b c long p l = let z : long - max c (p * page_size) ≡ 0 = omega arith in rw z

-- page p's part of it, from slot k on and below slot `end`, where r is found
module _ (m : Mem) (b c long p k end : ℕ) (from : c / page_size ≤ p) (ek : k ≡ max c (p * page_size)) (ee : end ≡ min long ((p + 1) * page_size)) where
  here : rest_in m b c long p ≡ found_in m b k (long - k)
  here = ap (λ (i : ℕ). found_in m b i (long - i)) (sym ek)

  pub next_some : (r : Option ℕ) → r ≡ found_in m b k (end - k) → is_some r ≡ true → rest_in m b c long p ≡ r
  next_some None er h = clash h refl
  next_some (Some x) er h = here ∙ sym (found_within (slot_in m b) (end - k) k (long - k) x (omega (arith, ee)) er)

  pub next_none : (r : Option ℕ) → r ≡ found_in m b k (end - k) → is_some r ≡ false → rest_in m b c long p ≡ rest_in m b c long (p + 1)
  next_none (Some x) er h = clash refl h
  next_none None er h =
      let q : ℕ = max c ((p + 1) * page_size) in
      let z : long - k - (end - k) ≡ long - q = omega (arith, from, ek, ee) in
      here ∙ found_past (slot_in m b) (end - k) k (long - k) (omega (arith, ee)) er ∙ ap (found_in m b (k + (end - k))) z
      ∙ bool (ltb q long)
      (λ y. let w : k + (end - k) ≡ q = omega (arith, ltb-true q long y, from, ek, ee) in ap (λ (i : ℕ). found_in m b i (long - q)) w)
      (λ y. let w : long - q ≡ 0 = omega (arith, ltb-false q long y) in rw w)

-- the slot found is one of the table's: its number fits with 1 added
pub next_below : (m : Mem) (b c k : ℕ) (r : Option ℕ) → r ≡ place_of (next_link m b c) → r ≡ Some k → k < slots_max
unfolding next_link max_slots
next_below m b c k r e q = let h = found_range (slot_in m b) c (length_at m b - c) k (sym q ∙ e) in omega (arith, h.0, h.1)

-- ---- in the model

-- THE SLOT that the walk finds is the model's
pub next_is : (m : Mem) (b : ℕ) (t : Table) → TableIs m b t → (c : ℕ) → next_link m b c ≡ link_of (next_occupied till t c)
unfolding next_link
next_is m b t i c =
    let f : slot_in m b ≡ t.slots = fun_ext i.slots in
    ap (λ (g : ℕ → Slot). link_of (first_occupied g c (length_at m b - c))) f
    ∙ ap (λ (n : ℕ). link_of (first_occupied t.slots c (min (n * page_size) max_slots - c))) i.size
