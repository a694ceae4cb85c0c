-- Slots and pages as the memory shows them. Assumes nothing.
use Rattle.std.specs.Prelude.{◌≡◌, true, false, not, eqb, ltb}
use Rattle.std.proofs.Math.Path.{refl}
use Rattle.std.proofs.Common.{sym, ap, ◌∙◌, arith, eqb-true, lt-ltb, le-ltb, ltb-true}
use Rattle.std.proofs.Math.Option.{Option, none, some}
use Prim.Native.Nat.{ℕ, zero, suc, ◌+◌, ◌*◌, ◌/◌, ◌%◌, ◌^◌, ◌≤◌, ◌<◌}
use Rattle.std.proofs.lemmas.Bool.{eqb-false}
use Rattle.model.specs.Base.{bit, pick, sum}
use Rattle.model.specs.State.{till, Slot, Slot.absent, Page, Lifecycle, Lifecycle.active, Lifecycle.tearing_down, Lifecycle.retired, State}
use Rattle.model.specs.State.{generation, is_absent, is_busy, is_occupied, is_retired, no_page, max_slots, known_flags}
use Rattle.model.specs.Storage.{slots_of, busy_of, busy_in as model_busy}
use Rattle.model.specs.WellFormed.{HandleRange, SlotRange, LifeRange, is_frame}
use Rattle.model.proofs.Tests.{bool, clash}
use Rattle.model.proofs.Sums.{sum_equal}
use Rattle.model.proofs.Counting.{bit_same, bit_other, sum_front}
use Rattle.layout.specs.Layout.{Mem, head, entry, cell}
use Rattle.layout.specs.Fields.{head_pages, entry_frame, entry_high, slot_tag, slot_generation, slot_object, slot_rights, slot_flags}
use Rattle.layout.specs.Values.{tag_vacant, tag_occupied, life_active, life_tearing_down, life_retired}
use Rattle.layout.specs.Sizes.{page_size, slots_max}
use Rattle.representation.specs.Represents.{entry_at, link_of, frame_of, tagged, slot_from, slot_in, LifeIs}
use Rattle.representation.specs.Told.{frame_at}
use Rattle.structure.specs.Facts.{busy_cells}

-- ---- links

-- the number that a link names
abbrev pub unlink : ℕ → Option ℕ
unlink zero = none
unlink (suc f) = some f

pub link_back : (l : ℕ) → link_of (unlink l) ≡ l
link_back zero = refl
link_back (suc f) = refl

pub unlink_some : (l f : ℕ) → unlink l ≡ some f → l ≡ suc f
unlink_some l f e = sym (link_back l) ∙ ap link_of e

-- whether a page has a frame, by its link
pub frame_link : (x : Option ℕ) (f : ℕ) → bit (is_frame x f) ≡ bit (eqb (link_of x) (suc f))
frame_link none f = sym (bit_other 0 (suc f) (λ e. omega arith))
frame_link (some g) f = bool (eqb f g)
    (λ e. let y = eqb-true f g e in ap bit e ∙ sym (bit_same (suc g) (suc f) (omega arith)))
    (λ e. let y = eqb-false f g e in ap bit e ∙ sym (bit_other (suc g) (suc f) (λ q. y (omega arith))))

-- ---- pages and lifecycles

-- page p of table b
unfoldable pub page_view : Mem → ℕ → ℕ → Page
page_view m b p = pick (ltb p (m (head b head_pages))) (record { frame = unlink (m (entry (entry_at m b p) entry_frame)); high = m (entry (entry_at m b p) entry_high) }) no_page

pub page_in : (m : Mem) (b p : ℕ) → p < m (head b head_pages) → page_view m b p ≡ record { frame = unlink (m (entry (entry_at m b p) entry_frame)); high = m (entry (entry_at m b p) entry_high) }
unfolding page_view
page_in m b p h = rw (lt-ltb p (m (head b head_pages)) h)

pub page_out : (m : Mem) (b p : ℕ) → m (head b head_pages) ≤ p → page_view m b p ≡ no_page
unfolding page_view
page_out m b p h = rw (le-ltb p (m (head b head_pages)) h)

abbrev pub life_view : ℕ → ℕ → Lifecycle
life_view zero c = active
life_view (suc zero) c = tearing_down c
life_view (suc (suc n)) c = retired

-- the same by the lifecycles' names, checked
life_view_names : (c : ℕ) → (life_view life_active c ≡ active) × (life_view life_tearing_down c ≡ tearing_down c) × (life_view life_retired c ≡ retired)
life_view_names c = (refl, refl, refl)

pub life_view_law : (w c : ℕ) → w ≤ life_retired → LifeIs w c (life_view w c)
life_view_law zero c h = refl
life_view_law (suc zero) c h = (refl, refl)
life_view_law (suc (suc zero)) c h = refl
life_view_law (suc (suc (suc n))) c h = absurd (omega arith)

pub life_range : (w c : ℕ) → (w ≡ life_tearing_down → c ≤ slots_max) → LifeRange (life_view w c)
unfolding max_slots
life_range zero c h = tt
life_range (suc zero) c h = omega (arith, h refl)
life_range (suc (suc n)) c h = tt

pub life_retired_law : (w c : ℕ) → w ≤ life_retired → is_retired (life_view w c) ≡ true → w ≡ life_retired
life_retired_law zero c h e = clash e refl
life_retired_law (suc zero) c h e = clash e refl
life_retired_law (suc (suc n)) c h e = omega arith

-- ---- the frame of a slot

-- a slot with a frame stands on a page that the table has had, which has that frame
pub frame_of_law : (m : Mem) (b k f : ℕ) → frame_of m b k ≡ suc f → (k < max_slots) × (k / page_size < m (head b head_pages)) × (m (entry (entry_at m b (k / page_size)) entry_frame) ≡ suc f) × (k % page_size < slots_of till (k / page_size))
frame_of_law m b k f e = bool (ltb k max_slots)
    (λ q. bool (ltb (k / page_size) (m (head b head_pages)))
    (λ r. let h = ltb-true k max_slots q in let i = ltb-true (k / page_size) (m (head b head_pages)) r in (h, i, rw (q, r) at e, omega arith))
    (λ r. let z : ◌≡◌ {A = ℕ} 0 (suc f) = rw (q, r) at e in absurd (omega arith)))
    (λ q. let z : ◌≡◌ {A = ℕ} 0 (suc f) = rw q at e in absurd (omega arith))

-- slot j of an attached page
pub slot_at : (m : Mem) (b p j f : ℕ) → p < m (head b head_pages) → m (entry (entry_at m b p) entry_frame) ≡ suc f → j < slots_of till p
    → slot_in m b (p * page_size + j) ≡ tagged m (m (cell f j slot_tag)) (m (cell f j slot_generation)) (m (cell f j slot_object)) (m (cell f j slot_rights)) (m (cell f j slot_flags))
slot_at m b p j f h e i =
    let a : (p * page_size + j) % page_size ≡ j = omega arith in
    ap (λ (fr : ℕ). slot_from m fr ((p * page_size + j) % page_size)) (frame_at m b p j h i ∙ e) ∙ ap (slot_from m (suc f)) a

-- without a frame a slot is absent, and with one it goes by its tag
pub slot_none : (m : Mem) (b k : ℕ) → frame_of m b k ≡ 0 → slot_in m b k ≡ absent
slot_none m b k e = ap (λ (fr : ℕ). slot_from m fr (k % page_size)) e

pub slot_in_law : (m : Mem) (b k f : ℕ) → frame_of m b k ≡ suc f
    → slot_in m b k ≡ tagged m (m (cell f (k % page_size) slot_tag)) (m (cell f (k % page_size) slot_generation)) (m (cell f (k % page_size) slot_object)) (m (cell f (k % page_size) slot_rights)) (m (cell f (k % page_size) slot_flags))
slot_in_law m b k f e = ap (λ (fr : ℕ). slot_from m fr (k % page_size)) e

-- ---- tags

module _ (m : Mem) where
  pub tag_there : (t g x y w : ℕ) → is_absent (tagged m t g x y w) ≡ false → t ≤ tag_occupied
  tag_there zero g x y w e = omega arith
  tag_there (suc zero) g x y w e = omega arith
  tag_there (suc (suc zero)) g x y w e = omega arith
  tag_there (suc (suc (suc zero))) g x y w e = omega arith
  tag_there (suc (suc (suc (suc t)))) g x y w e = clash refl e

  pub tagged_there : (t g x y w : ℕ) → t ≤ tag_occupied → is_absent (tagged m t g x y w) ≡ false
  tagged_there zero g x y w h = refl
  tagged_there (suc zero) g x y w h = refl
  tagged_there (suc (suc zero)) g x y w h = refl
  tagged_there (suc (suc (suc zero))) g x y w h = refl
  tagged_there (suc (suc (suc (suc t)))) g x y w h = absurd (omega arith)

  pub tagged_generation : (t g x y w : ℕ) → t ≤ tag_occupied → generation (tagged m t g x y w) ≡ g
  tagged_generation zero g x y w h = refl
  tagged_generation (suc zero) g x y w h = refl
  tagged_generation (suc (suc zero)) g x y w h = refl
  tagged_generation (suc (suc (suc zero))) g x y w h = refl
  tagged_generation (suc (suc (suc (suc t)))) g x y w h = absurd (omega arith)

  pub tagged_busy : (t g x y w : ℕ) → t ≤ tag_occupied → is_busy (tagged m t g x y w) ≡ not (eqb t tag_vacant)
  tagged_busy zero g x y w h = refl
  tagged_busy (suc zero) g x y w h = refl
  tagged_busy (suc (suc zero)) g x y w h = refl
  tagged_busy (suc (suc (suc zero))) g x y w h = refl
  tagged_busy (suc (suc (suc (suc t)))) g x y w h = absurd (omega arith)

  pub tagged_occupied : (t g x y w : ℕ) → is_occupied (tagged m t g x y w) ≡ true → t ≡ tag_occupied
  tagged_occupied zero g x y w e = clash e refl
  tagged_occupied (suc zero) g x y w e = clash e refl
  tagged_occupied (suc (suc zero)) g x y w e = clash e refl
  tagged_occupied (suc (suc (suc zero))) g x y w e = refl
  tagged_occupied (suc (suc (suc (suc t)))) g x y w e = clash e refl

  pub tagged_range : (s : State) (t g x y w : ℕ) → (t ≡ tag_occupied → x < s.object_count) → (t ≡ tag_occupied → w ≤ 3) → y < 2 ^ 64 → SlotRange s (tagged m t g x y w)
  unfolding known_flags
  tagged_range s zero g x y w h i j = tt
  tagged_range s (suc zero) g x y w h i j = tt
  tagged_range s (suc (suc zero)) g x y w h i j = tt
  tagged_range s (suc (suc (suc zero))) g x y w h i j = record { object = h refl; rights = j; flags = i refl }
  tagged_range s (suc (suc (suc (suc t)))) g x y w h i j = tt

  -- and back
  pub tagged_held : (s : State) (t g x y w : ℕ) → t ≡ tag_occupied → SlotRange s (tagged m t g x y w) → (x < s.object_count) × (w ≤ 3)
  unfolding known_flags
  tagged_held s t g x y w e r = let r3 : HandleRange s (record { object = x; rights = y; flags = w }) = rw e at r in (r3.object, r3.flags)

-- ---- busy slots

-- the busy slots of a run, as a sum
pub busy_sum : (f : ℕ → Slot) (k n : ℕ) → model_busy f k n ≡ (sum n λ j. bit (is_busy (f (k + j))))
busy_sum f k zero = refl
busy_sum f k (suc n) =
    let h : model_busy f (suc k) n ≡ (sum n λ j. bit (is_busy (f (suc k + j)))) = busy_sum f (suc k) n in
    let a : (sum n λ j. bit (is_busy (f (k + suc j)))) ≡ (sum n λ j. bit (is_busy (f (suc k + j)))) =
    sum_equal n (λ j. bit (is_busy (f (k + suc j)))) (λ j. bit (is_busy (f (suc k + j)))) (λ j l. let z : k + suc j ≡ suc k + j = omega arith in rw z) in
    let z : k + 0 ≡ k = omega arith in let y : bit (is_busy (f (k + 0))) ≡ bit (is_busy (f k)) = rw z in
    let p : model_busy f k (suc n) ≡ bit (is_busy (f k)) + model_busy f (suc k) n = bool (is_busy (f k)) (λ q. rw q (omega arith)) (λ q. rw q (omega arith)) in
    p ∙ omega (arith, h, sum_front n (λ j. bit (is_busy (f (k + j)))), a, y)

-- the busy slots of an attached page
pub busy_page : (m : Mem) (b p f : ℕ) (slots : ℕ → Slot) → ((k : ℕ) → slots k ≡ slot_in m b k) → p < m (head b head_pages) → m (entry (entry_at m b p) entry_frame) ≡ suc f
    → ((j : ℕ) → j < slots_of till p → m (cell f j slot_tag) ≤ tag_occupied) → busy_of till slots p ≡ busy_cells m f (slots_of till p)
busy_page m b p f slots s h e t =
    busy_sum slots (p * page_size) (slots_of till p)
    ∙ sum_equal (slots_of till p) (λ j. bit (is_busy (slots (p * page_size + j)))) (λ j. bit (not (eqb (m (cell f j slot_tag)) tag_vacant))) (λ j i.
    ap (λ (x : Slot). bit (is_busy x)) (s (p * page_size + j) ∙ slot_at m b p j f h e i)
    ∙ ap bit (tagged_busy m (m (cell f j slot_tag)) (m (cell f j slot_generation)) (m (cell f j slot_object)) (m (cell f j slot_rights)) (m (cell f j slot_flags)) (t j i)))
