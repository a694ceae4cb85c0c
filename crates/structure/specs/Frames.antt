-- "each attached page has a frame of its own and all other frames are free", but for those that a plan holds: from the structure's facts, by double counting. Assumes nothing.
use Rattle.std.specs.Prelude.{◌≡◌, refl, Bool, not, ◌&&◌, List, [], ◌∷◌, ℕ, zero, suc, ◌+◌, ◌-◌, ◌≤◌, ◌<◌, length, eqb, ltb, leb}
use Rattle.std.proofs.Common.{sym, ap, ◌∙◌, arith, eqb-true, lt-ltb, le-ltb, ltb-true, ltb-false, leb-true}
use Rattle.std.proofs.lemmas.Bool.{lt-leb}
use Rattle.model.specs.Base.{bit, occurs, sum, range, drop_if}
use Rattle.model.specs.State.{Row}
use Rattle.model.specs.WellFormed.{Rising, over_rows, frames_in, plans_with}
use Rattle.model.proofs.Tests.{bool, bit_small, zero_or}
use Rattle.model.proofs.Sums.{sum_equal, sum_zero, sum_add, occurs_drop_if, range_all}
use Rattle.model.proofs.Counting.{bit_same, bit_other, sum_le, sum_up, sum_tight, sum_swap, sum_append, sum_ones, sum_one, sum_link, sum_occurs}
use Rattle.layout.specs.declared.Shape.{Shape}
use Rattle.layout.specs.Layout.{Mem, head, entry, owner}
use Rattle.layout.specs.ShapeOf.{Permitted}
use Rattle.layout.specs.Fields.{head_page_limit, head_pages, head_first_entry, entry_frame}
use Rattle.layout.specs.Sizes.{plan_owner}
use Rattle.representation.specs.Represents.{entry_at}
use Rattle.structure.specs.Facts.{limits_to, is_free, free_from, attached_in, attached_to, Structure}

-- how many pages of the first n tables have the frame f
abbrev pub pages_of : Mem → ℕ → ℕ → ℕ
pages_of m n f = sum n λ b. sum (m (head b head_pages)) λ p. bit (eqb (m (entry (entry_at m b p) entry_frame)) (suc f))

-- a frame has an owner
abbrev is_owned : Mem → ℕ → Bool
is_owned m f = not (eqb (m (owner f)) 0)

-- counted by frames or by pages: links that name one of F frames, or none
pub pages_counted : (m : Mem) (n F : ℕ) → ((b p : ℕ) → b < n → p < m (head b head_pages) → m (entry (entry_at m b p) entry_frame) ≤ F) → (sum F λ f. pages_of m n f) ≡ attached_to m n
pages_counted m n F h =
    sum_swap F n (λ f b. sum (m (head b head_pages)) λ p. bit (eqb (m (entry (entry_at m b p) entry_frame)) (suc f)))
    ∙ sum_equal n (λ b. sum F λ f. sum (m (head b head_pages)) λ p. bit (eqb (m (entry (entry_at m b p) entry_frame)) (suc f))) (λ b. attached_in m (m (head b head_first_entry)) (m (head b head_pages)))
    (λ b i. sum_swap F (m (head b head_pages)) (λ f p. bit (eqb (m (entry (entry_at m b p) entry_frame)) (suc f)))
    ∙ sum_equal (m (head b head_pages)) (λ p. sum F λ f. bit (eqb (m (entry (entry_at m b p) entry_frame)) (suc f))) (λ p. bit (not (eqb (m (entry (entry_at m b p) entry_frame)) 0)))
    (λ p j. sum_link (m (entry (entry_at m b p) entry_frame)) F (h b p i j)))

-- a frame is free or owned
free_or_owned : (m : Mem) (F f : ℕ) → f < F → bit (is_owned m f) + bit (is_free m F f) ≡ 1
free_or_owned m F f h = rw (lt-ltb f F h) (bool (eqb (m (owner f)) 0) (λ e. rw e) (λ e. rw e))

owned_count : (m : Mem) (F : ℕ) → (sum F λ f. bit (is_owned m f)) + free_from m F 0 F ≡ F
owned_count m F =
    sym (sum_add F (λ f. bit (is_owned m f)) (λ f. bit (is_free m F (0 + f))))
    ∙ sum_equal F (λ f. bit (is_owned m f) + bit (is_free m F (0 + f))) (λ f. 1) (λ f h. let e : 0 + f ≡ f = omega arith in rw e (free_or_owned m F f h))
    ∙ sum_ones F

-- ---- the frames that plans hold

-- how many they are
abbrev pub planned_in : List Row → ℕ
planned_in rs = over_rows (λ b. length (frames_in b)) rs

-- counted by frames or by rows: plans that hold frames of F
pub plans_counted : (F : ℕ) (rs : List Row) → ((f : ℕ) → 0 < plans_with rs f → f < F) → (sum F λ f. plans_with rs f) ≡ planned_in rs
plans_counted F [] h = sum_zero F (λ f. 0) (λ f i. refl)
plans_counted F (r ∷ rs) h =
    sum_add F (λ f. occurs f (frames_in r.body)) (λ f. plans_with rs f)
    ∙ omega (arith, sum_occurs F (frames_in r.body) (λ f i. h f (omega arith)), plans_counted F rs (λ f i. h f (omega arith)))

-- what is known of the frames that rows hold: each is held once, its owner word is that of a row's place, and it is one of the frames
pub record Planned (sh : Shape) (m : Mem) (rs : List Row) : Type 0 where
  pub once : (f : ℕ) → plans_with rs f ≤ bit (leb plan_owner (m (owner f)))
  pub frames : (f : ℕ) → 0 < plans_with rs f → f < sh.frames

module _ (sh : Shape) (m : Mem) (held : ℕ) (st : Structure sh m held) where
  -- the number of a page entry names one page at most
  entry_once : (n x : ℕ) → n ≤ sh.tables → (sum n λ b. sum (m (head b head_pages)) λ p. bit (eqb (entry_at m b p) x)) ≤ (sum (limits_to m n) λ e. bit (eqb e x))
  entry_once zero x h = omega arith
  entry_once (suc n) x h =
      let k = st.heads n (omega arith) in
      let q : (sum (m (head n head_pages)) λ p. bit (eqb (entry_at m n p) x)) ≤ (sum (m (head n head_page_limit)) λ p. bit (eqb (limits_to m n + p) x)) =
      rw k.first (sum_up (m (head n head_pages)) (m (head n head_page_limit)) (λ p. bit (eqb (limits_to m n + p) x)) k.size) in
      omega (arith, entry_once n x (omega arith), q, sum_append (limits_to m n) (m (head n head_page_limit)) (λ e. bit (eqb e x)))

  -- a frame's owner is one page at most, whose entry its owner word names
  pages_few : (f : ℕ) → pages_of m sh.tables f ≤ bit (is_owned m f && ltb (m (owner f) - 1) (limits_to m sh.tables))
  pages_few f = bool (eqb (m (owner f)) 0)
      (λ e. let z = eqb-true (m (owner f)) 0 e in
      let y : pages_of m sh.tables f ≡ 0 = sum_zero sh.tables (λ b. sum (m (head b head_pages)) λ p. bit (eqb (m (entry (entry_at m b p) entry_frame)) (suc f))) (λ b i.
      sum_zero (m (head b head_pages)) (λ p. bit (eqb (m (entry (entry_at m b p) entry_frame)) (suc f))) (λ p j.
      bit_other (m (entry (entry_at m b p) entry_frame)) (suc f) (λ q. omega (arith, (st.pages b p i j).named f q)))) in
      omega arith)
      (λ e. let y : pages_of m sh.tables f ≤ (sum sh.tables λ b. sum (m (head b head_pages)) λ p. bit (eqb (entry_at m b p) (m (owner f) - 1))) =
      sum_le sh.tables (λ b. sum (m (head b head_pages)) λ p. bit (eqb (m (entry (entry_at m b p) entry_frame)) (suc f))) (λ b. sum (m (head b head_pages)) λ p. bit (eqb (entry_at m b p) (m (owner f) - 1))) (λ b i.
      sum_le (m (head b head_pages)) (λ p. bit (eqb (m (entry (entry_at m b p) entry_frame)) (suc f))) (λ p. bit (eqb (entry_at m b p) (m (owner f) - 1))) (λ p j.
      bool (eqb (m (entry (entry_at m b p) entry_frame)) (suc f))
      (λ q. omega (
        arith,
        bit_small (eqb (m (entry (entry_at m b p) entry_frame)) (suc f)),
        bit_same (entry_at m b p) (m (owner f) - 1)
            (omega (arith, (st.pages b p i j).named f (eqb-true (m (entry (entry_at m b p) entry_frame)) (suc f) q))),
      ))
      (λ q. omega (arith, ap bit q)))) in
      rw e (omega (arith, y, entry_once sh.tables (m (owner f) - 1) (omega arith), sum_one (m (owner f) - 1) (limits_to m sh.tables))))

  pages_past : (f : ℕ) → sh.frames ≤ f → pages_of m sh.tables f ≡ 0
  pages_past f h = sum_zero sh.tables (λ b. sum (m (head b head_pages)) λ p. bit (eqb (m (entry (entry_at m b p) entry_frame)) (suc f))) (λ b i.
      sum_zero (m (head b head_pages)) (λ p. bit (eqb (m (entry (entry_at m b p) entry_frame)) (suc f))) (λ p j.
      bit_other (m (entry (entry_at m b p) entry_frame)) (suc f) (λ q. omega (arith, (st.pages b p i j).link))))

  -- with the rows of the book, whose plans hold so many frames
  module _ (limits : Permitted sh) (rs : List Row) (pl : Planned sh m rs) (all : planned_in rs ≡ held) where
    -- a frame has one page or is held by one plan at most, and a free one neither: the owner words of planned frames name no entry
    owned_few : (f : ℕ) → pages_of m sh.tables f + plans_with rs f ≤ bit (is_owned m f)
    owned_few f =
        let few : limits_to m sh.tables < plan_owner = omega (arith, st.entries, limits.few_pages, limits.few_tables) in
        let a = pages_few f in let b = pl.once f in bool (eqb (m (owner f)) 0)
        (λ e. let z : pages_of m sh.tables f ≤ 0 = rw e at a in
        let y : plans_with rs f ≤ 0 = rw (lt-leb plan_owner (m (owner f)) (omega (arith, eqb-true (m (owner f)) 0 e))) at b in omega arith)
        (λ e. rw e (bool (leb plan_owner (m (owner f)))
        (λ q. let z : pages_of m sh.tables f ≤ 0 = rw (e, le-ltb (m (owner f) - 1) (limits_to m sh.tables) (omega (arith, leb-true plan_owner (m (owner f)) q))) at a in
        omega (arith, bit_small (leb plan_owner (m (owner f)))))
        (λ q. let y : plans_with rs f ≤ 0 = rw q at b in omega (arith, bit_small (is_owned m f && ltb (m (owner f) - 1) (limits_to m sh.tables))))))

    -- so each owned frame has exactly one attached page or one plan
    owned_exact : (f : ℕ) → f < sh.frames → pages_of m sh.tables f + plans_with rs f ≡ bit (is_owned m f)
    owned_exact f h =
        sum_tight sh.frames (λ g. pages_of m sh.tables g + plans_with rs g) (λ g. bit (is_owned m g)) (λ g i. owned_few g)
        (omega (
          arith,
          st.frames,
          owned_count m sh.frames,
          sum_add sh.frames (λ g. pages_of m sh.tables g) (λ g. plans_with rs g),
          pages_counted m sh.tables sh.frames (λ b p i j. (st.pages b p i j).link),
          plans_counted sh.frames rs pl.frames,
        )) f h

    plans_past : (f : ℕ) → sh.frames ≤ f → plans_with rs f ≡ 0
    plans_past f h = zero_or (plans_with rs f) (λ z. z) (λ z. absurd (omega (arith, pl.frames f z)))

    -- THE FRAMES: each is free, has one page or is held by one plan
    pub frame_once : (f : ℕ) → pages_of m sh.tables f + plans_with rs f + bit (is_free m sh.frames f) ≡ bit (ltb f sh.frames)
    frame_once f = bool (ltb f sh.frames)
        (λ e. let h = ltb-true f sh.frames e in omega (arith, owned_exact f h, free_or_owned m sh.frames f h, ap bit e))
        (λ e. let h = ltb-false f sh.frames e in
        let z : bit (is_free m sh.frames f) ≡ 0 = rw e in omega (arith, pages_past f h, plans_past f h, z, ap bit e))

-- ---- the list of the free frames

-- the free ones of F frames, rising
unfoldable pub free_frames : Mem → ℕ → List ℕ
free_frames m F = drop_if (is_owned m) (range 0 F)

pub free_occurs : (m : Mem) (F f : ℕ) → occurs f (free_frames m F) ≡ bit (is_free m F f)
unfolding free_frames
free_occurs m F f = occurs_drop_if (is_owned m) f (range 0 F) ∙ bool (eqb (m (owner f)) 0)
    (λ e. rw e (range_all f F ∙ bool (ltb f F) (λ q. rw q) (λ q. rw q)))
    (λ e. rw e (bool (ltb f F) (λ q. rw q) (λ q. rw q)))

rising_from : (t : ℕ → Bool) (a k n : ℕ) → a < k → Rising (a ∷ drop_if t (range k n))
rising_from t a k zero h = tt
rising_from t a k (suc n) h = bool (t k)
    (λ e. rw e (rising_from t a (suc k) n (omega arith)))
    (λ e. rw e (h, rising_from t k (suc k) n (omega arith)))

rising_range : (t : ℕ → Bool) (k n : ℕ) → Rising (drop_if t (range k n))
rising_range t k zero = tt
rising_range t k (suc n) = bool (t k)
    (λ e. rw e (rising_range t (suc k) n))
    (λ e. rw e (rising_from t k (suc k) n (omega arith)))

pub free_rising : (m : Mem) (F : ℕ) → Rising (free_frames m F)
unfolding free_frames
free_rising m F = rising_range (is_owned m) 0 F

free_below : (m : Mem) (F f : ℕ) → 0 < occurs f (free_frames m F) → f < F
free_below m F f h = bool (ltb f F)
    (λ e. ltb-true f F e)
    (λ e. let z : bit (is_free m F f) ≡ 0 = rw e in absurd (omega (arith, free_occurs m F f)))

pub free_owner : (m : Mem) (F f : ℕ) → 0 < occurs f (free_frames m F) → m (owner f) ≡ 0
free_owner m F f h = bool (eqb (m (owner f)) 0)
    (λ e. eqb-true (m (owner f)) 0 e)
    (λ e. let z : bit (is_free m F f) ≡ 0 = rw e (bool (ltb f F) (λ q. rw q) (λ q. rw q)) in absurd (omega (arith, free_occurs m F f)))

-- a group's free frames, by the list
pub free_group : (m : Mem) (F a n : ℕ) → free_from m F a n ≡ (sum n λ j. occurs (a + j) (free_frames m F))
free_group m F a n = sum_equal n (λ j. bit (is_free m F (a + j))) (λ j. occurs (a + j) (free_frames m F)) (λ j h. sym (free_occurs m F (a + j)))

pub free_length : (m : Mem) (F : ℕ) → free_from m F 0 F ≡ length (free_frames m F)
free_length m F =
    free_group m F 0 F
    ∙ sum_equal F (λ j. occurs (0 + j) (free_frames m F)) (λ j. occurs j (free_frames m F)) (λ j h. let e : 0 + j ≡ j = omega arith in rw e)
    ∙ sum_occurs F (free_frames m F) (free_below m F)
