-- The vacant slots of a table, counted by its pages. Assumes nothing.
use Rattle.std.specs.Prelude.{◌≡◌, refl, Bool, true, false, not, ◌&&◌, ℕ, zero, suc, ◌+◌, ◌-◌, ◌*◌, ◌/◌, ◌%◌, ◌≤◌, ◌<◌, eqb, ltb}
use Rattle.std.proofs.Common.{sym, ap, ◌∙◌, arith, eq-eqb, ne_eqb, ltb-true, le-ltb}
use Rattle.words.specs.Pick.{pick, bool, clash}
use Rattle.model.specs.Base.{bit, sum}
use Rattle.model.proofs.Sums.{sum_equal, sum_zero}
use Rattle.model.specs.State.{till, max_slots}
use Rattle.model.specs.Storage.{slots_of}
use Rattle.model.proofs.Counting.{sum_append, sum_cut}
use Rattle.layout.specs.Layout.{Mem, head, entry, cell}
use Rattle.layout.specs.Fields.{head_pages, head_first_entry, entry_frame, entry_busy, slot_tag}
use Rattle.layout.specs.Values.{tag_vacant}
use Rattle.layout.specs.Sizes.{page_size}
use Rattle.representation.specs.Represents.{entry_at, word_in, frame_of}
use Rattle.representation.specs.Told.{frame_at}
use Rattle.orders.specs.Check.{vacant_at, vacants_on, vacants}

-- how many slots of page p have a tag other than 0, in the frame f
abbrev pub busy_tags : Mem → ℕ → ℕ → ℕ
busy_tags m f p = sum (slots_of till p) λ j. bit (not (eqb (m (cell f j slot_tag)) tag_vacant))

-- "stored counts equal what they count": each attached page of table b stores how many of its slots are busy
abbrev pub BusyStored : Mem → ℕ → Type 0
BusyStored m b = (p f : ℕ) → p < m (head b head_pages) → m (entry (entry_at m b p) entry_frame) ≡ suc f → m (entry (entry_at m b p) entry_busy) ≡ busy_tags m f p

-- ---- sums

-- by rows of w, of which the first c p numbers count
sum_rows : (w : ℕ) (f c : ℕ → ℕ) → ((p : ℕ) → c p ≤ w) → ((p j : ℕ) → c p ≤ j → j < w → f (p * w + j) ≡ 0) → (n : ℕ)
    → sum (n * w) f ≡ (sum n λ p. sum (c p) λ j. f (p * w + j))
sum_rows w f c h z zero = let q : 0 * w ≡ 0 = omega arith in rw q
sum_rows w f c h z (suc n) = let q : suc n * w ≡ n * w + w = omega arith in
    rw q (omega (arith, sum_append (n * w) w f, sum_rows w f c h z n, sum_cut (c n) w (λ j. f (n * w + j)) (h n) (z n)))

-- ---- one page

-- a slot that has no frame is not vacant
no_frame : (m : Mem) (b k : ℕ) → frame_of m b k ≡ 0 → vacant_at m b k ≡ false
unfolding vacant_at
no_frame m b k e = rw (eq-eqb (frame_of m b k) 0 e)

-- one that has a frame goes by its tag
in_frame : (m : Mem) (b k f : ℕ) → frame_of m b k ≡ suc f → vacant_at m b k ≡ eqb (m (cell f (k % page_size) slot_tag)) tag_vacant
unfolding vacant_at
in_frame m b k f e = ap (λ (x : ℕ). not (eqb x 0) && eqb (word_in m x (k % page_size) slot_tag) tag_vacant) e ∙ rw (ne_eqb (suc f) 0 (λ z. omega arith))

-- a vacant slot has a frame
framed : (m : Mem) (b k : ℕ) → vacant_at m b k ≡ true → frame_of m b k ≡ 0 → ⊥
framed m b k e z = clash e (no_frame m b k z)

-- so it stands on one of the table's pages
pub vacant_below : (m : Mem) (b k : ℕ) → vacant_at m b k ≡ true → k < m (head b head_pages) * page_size
vacant_below m b k e = bool (ltb (k / page_size) (m (head b head_pages)))
    (λ h. omega (arith, ltb-true (k / page_size) (m (head b head_pages)) h))
    (λ h. absurd (framed m b k e (bool (ltb k max_slots) (λ l. rw (l, h)) (λ l. rw l))))

pick_zero : (n : ℕ) (x y : ℕ) → n ≡ 0 → pick (eqb n 0) x y ≡ x
pick_zero n x y e = rw (eq-eqb n 0 e)

pick_more : (n : ℕ) (x y : ℕ) → (n ≡ 0 → ⊥) → pick (eqb n 0) x y ≡ y
pick_more n x y e = rw (ne_eqb n 0 e)

-- of a sum of tests and of their opposites
sum_opposite : (n : ℕ) (t : ℕ → Bool) → (sum n λ j. bit (t j)) + (sum n λ j. bit (not (t j))) ≡ n
sum_opposite zero t = refl
sum_opposite (suc n) t = omega (arith, sum_opposite n t, one (t n))
  where
    one : (b : Bool) → bit b + bit (not b) ≡ 1
    one true = refl
    one false = refl

-- the vacant slots of a page
page_vacants : (m : Mem) (b : ℕ) → BusyStored m b → (p : ℕ) → p < m (head b head_pages) → (link : ℕ) → m (entry (entry_at m b p) entry_frame) ≡ link
    → (sum (slots_of till p) λ j. bit (vacant_at m b (p * page_size + j))) ≡ vacants_on m (m (head b head_first_entry)) p
unfolding vacants_on
page_vacants m b s p l zero e =
    sum_zero (slots_of till p) (λ j. bit (vacant_at m b (p * page_size + j))) (λ j h. ap bit (no_frame m b (p * page_size + j) (frame_at m b p j l h ∙ e)))
    ∙ sym (pick_zero (m (entry (entry_at m b p) entry_frame)) 0 (slots_of till p - m (entry (entry_at m b p) entry_busy)) e)
page_vacants m b s p l (suc f) e =
    sum_equal (slots_of till p) (λ j. bit (vacant_at m b (p * page_size + j))) (λ j. bit (eqb (m (cell f j slot_tag)) tag_vacant))
    (λ j h. let q : (p * page_size + j) % page_size ≡ j = omega arith in
    ap bit (in_frame m b (p * page_size + j) f (frame_at m b p j l h ∙ e) ∙ ap (λ (x : ℕ). eqb (m (cell f x slot_tag)) tag_vacant) q))
    ∙ omega (
      arith,
      sum_opposite (slots_of till p) (λ j. eqb (m (cell f j slot_tag)) tag_vacant),
      s p f l e,
      pick_more (m (entry (entry_at m b p) entry_frame)) 0 (slots_of till p - m (entry (entry_at m b p) entry_busy)) (λ z. omega arith),
    )

-- THE COUNT by pages is the number of vacant slots
pub vacants_counted : (m : Mem) (b : ℕ) → BusyStored m b → (sum (m (head b head_pages) * page_size) λ k. bit (vacant_at m b k)) ≡ vacants m (m (head b head_pages)) (m (head b head_first_entry))
unfolding vacants
vacants_counted m b s =
    sum_rows page_size (λ k. bit (vacant_at m b k)) (slots_of till) (λ p. omega arith)
    (λ p j h l. ap bit (no_frame m b (p * page_size + j) (rw (le-ltb (p * page_size + j) max_slots (omega arith)))))
    (m (head b head_pages))
    ∙ sum_equal (m (head b head_pages)) (λ p. sum (slots_of till p) λ j. bit (vacant_at m b (p * page_size + j))) (λ p. vacants_on m (m (head b head_first_entry)) p)
    (λ p l. page_vacants m b s p l (m (entry (entry_at m b p) entry_frame)) refl)
