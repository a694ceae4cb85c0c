-- The lowest free frame is found: the first of the list of free frames. Assumes nothing.
use Rattle.std.specs.Prelude.{◌≡◌, refl, true, false, List, [], ◌∷◌, ℕ, suc, ◌+◌, ◌*◌, ◌/◌, ◌≤◌, ◌<◌, eqb, ltb}
use Rattle.std.proofs.Common.{sym, ap, ◌∙◌, arith, div-add-mod', mul-le-mul_right, eq-eqb, ne_eqb, eqb-true, lt-ltb, ltb-true, ltb-false}
use Rattle.std.proofs.Math.Option.{Option, none, some}
use Rattle.words.specs.Pick.{bool, clash}
use Rattle.model.specs.Base.{bit, occurs, sum, is_some}
use Rattle.model.specs.State.{Sizes, Body, Body.reservation, Body.claim, Body.parcel, Body.plan, Row, State}
use Rattle.model.specs.WellFormed.{Rising, is_frame, pages_with, frames_in, plans_with, Frames}
use Rattle.model.proofs.Sums.{sum_zero}
use Rattle.model.proofs.Tests.{bit_true}
use Rattle.model.proofs.Counting.{bit_same, sum_some}
use Rattle.invariant.proofs.Orders.{attached_below}
use Rattle.layout.specs.declared.Shape.{Shape}
use Rattle.layout.specs.Layout.{Mem, owner, group, index, load}
use Rattle.layout.specs.Sizes.{plan_owner}
use Rattle.layout.specs.RegionNames.{region_owner, region_group16}
use Rattle.representation.specs.Represents.{HeldIs, Items, BodyIs, RowsAre, Represents}
use Rattle.representation.specs.Unique.{rising_above}
use Rattle.storage.specs.Order.{occurs_head}
use Rattle.storage.specs.Whole.{Placed}
use Rattle.storage.specs.Reps.{Held}
use Rattle.frames.specs.Pool.{span, span_some, in_group, more_group, Counted, counted_of}
use Rattle.frames.specs.Frames.{free_below}
use Rattle.frames.specs.Ops.{first_of, has_free, lowest_at, first_is}

-- what the test says of a count and of an owner
count_has : (m : Mem) (i g : ℕ) → 0 < m (group i g) → has_free m (region_group16 + i) g ≡ true
count_has m i g h = rw (ne_eqb (region_group16 + i) region_owner (λ e. omega arith), ne_eqb (m (group i g)) 0 (λ e. omega arith))

count_none : (m : Mem) (i g : ℕ) → m (group i g) ≡ 0 → has_free m (region_group16 + i) g ≡ false
count_none m i g h = rw (ne_eqb (region_group16 + i) region_owner (λ e. omega arith), eq-eqb (m (group i g)) 0 h)

owner_has : (m : Mem) (g : ℕ) → m (owner g) ≡ 0 → has_free m region_owner g ≡ true
owner_has m g h = rw (eq-eqb (m (owner g)) 0 h)

owner_none : (m : Mem) (g : ℕ) → 0 < m (owner g) → has_free m region_owner g ≡ false
owner_none m g h = rw (ne_eqb (m (owner g)) 0 (λ e. omega arith))

-- a group below that of the lowest has none of the list
below_none : (f : ℕ) (l : List ℕ) → Rising (f ∷ l) → (z g : ℕ) → g < f / z → in_group (f ∷ l) z g ≡ 0
below_none f l r z g h = sum_zero z (λ j. occurs (g * z + j) (f ∷ l))
    (λ j i. rising_above (g * z + j) f l r (omega (arith, mul-le-mul_right {m = suc g} {n = f / z} z h, div-add-mod' f z)))

module _ (m : Mem) (n f : ℕ) (l : List ℕ) (r : Counted m n (f ∷ l)) (up : Rising (f ∷ l)) (below : f < n) where
  -- of 16 groups of level i the first that has a free frame is that of f
  level_first : (i : ℕ) → i < 3 → (a : ℕ) → a ≤ f / span i → f / span i < a + 16 → first_of (has_free m (region_group16 + i)) a 16 ≡ f / span i
  level_first i li a h k = first_is (has_free m (region_group16 + i)) a 16 (f / span i) h k
      (λ g y x. count_none m i g
      (r.groups i li g (omega (arith, mul-le-mul_right {m = suc g} {n = f / span i} (span i) x, div-add-mod' f (span i))) ∙ below_none f l up (span i) g x))
      (count_has m i (f / span i)
      (omega (arith, r.groups i li (f / span i) (omega (arith, div-add-mod' f (span i))), more_group f l (f ∷ l) (λ x. refl) (span i) (f / span i) (span_some i), bit_same (f / span i) (f / span i) refl)))

  -- THE LOWEST FREE FRAME
  pub lowest_is : n ≤ 65536 → ((g : ℕ) → g < n → occurs g (f ∷ l) ≡ 0 → 0 < m (owner g)) → lowest_at m ≡ f
  unfolding lowest_at
  lowest_is few owned = rw (
    level_first 2 (omega arith) 0 (omega arith) (omega arith),
    level_first 1 (omega arith) (f / 4096 * 16) (omega arith) (omega arith),
    level_first 0 (omega arith) (f / 256 * 16) (omega arith) (omega arith),
  )
      (first_is (has_free m region_owner) (f / 16 * 16) 16 f (omega arith) (omega arith)
      (λ g y x. owner_none m g (owned g (omega arith) (rising_above g f l up x)))
      (owner_has m f (r.free f (occurs_head f l))))

-- ---- in a state

frame_some : (x : Option ℕ) (f : ℕ) → is_frame x f ≡ true → x ≡ some f
frame_some none f e = clash e refl
frame_some (some g) f e = ap some (sym (eqb-true f g e))

-- the owner word of a frame that a plan holds names the plan's place
pub held_owner : (m : Mem) (x j : ℕ) (fs : List ℕ) → Items (HeldIs m x) j fs → (f : ℕ) → 0 < occurs f fs → m (owner f) ≡ plan_owner + x
held_owner m x j [] p f h = absurd (omega arith)
held_owner m x j (g ∷ fs) p f h = bool (eqb f g)
    (λ e. rw (eqb-true f g e) p.0.1)
    (λ e. let i : 0 < 0 + occurs f fs = rw e at h in held_owner m x (suc j) fs p.1 f (omega arith))

body_owner : (m : Mem) (x : ℕ) (b : Body) → BodyIs m x b → (f : ℕ) → 0 < occurs f (frames_in b) → m (owner f) ≡ plan_owner + x
body_owner m x (reservation b ks) p f h = absurd (omega arith)
body_owner m x (claim b es) p f h = absurd (omega arith)
body_owner m x (parcel hs) p f h = absurd (omega arith)
body_owner m x (plan b n w fs) p f h = held_owner m x 0 fs p.held f h

rows_owner : (m : Mem) (i : ℕ) (rs : List Row) → RowsAre m i rs → (f : ℕ) → 0 < plans_with rs f → 0 < m (owner f)
rows_owner m i [] p f h = absurd (omega arith)
rows_owner m i (r ∷ rs) p f h = bool (ltb 0 (occurs f (frames_in r.body)))
    (λ e. omega (arith, body_owner m (m (index i)) r.body p.1 f (ltb-true 0 (occurs f (frames_in r.body)) e)))
    (λ e. rows_owner m (suc i) rs p.2 f (omega (arith, ltb-false 0 (occurs f (frames_in r.body)) e)))

module _ {z : Sizes} (sh : Shape) (m : Mem) (s : State) (r : Represents sh m s) (pl : Placed z s) where
  -- a frame that a page has has an owner
  page_owner : (f b p : ℕ) → b < s.table_count → is_frame ((s.tables b).pages p).frame f ≡ true → 0 < m (owner f)
  page_owner f b p l h =
      let e : ((s.tables b).pages p).frame ≡ some f = frame_some ((s.tables b).pages p).frame f h in
      omega (arith, r.frames.held b p f l (attached_below z (s.tables b) (s.tables b).free (pl.sound b l) p (ap is_some {x = ((s.tables b).pages p).frame} e)) e)

  -- so has every frame that is not free: a page or a plan has it
  owned_of : Frames s → (f : ℕ) → f < s.frame_count → occurs f s.frames ≡ 0 → 0 < m (owner f)
  owned_of w f l out =
      let one : bit (ltb f s.frame_count) ≡ 1 = ap bit (lt-ltb f s.frame_count l) in
      bool (ltb 0 (pages_with s f))
      (λ y. let b = sum_some s.table_count (λ c. sum (s.tables c).limit λ p. bit (is_frame ((s.tables c).pages p).frame f)) (ltb-true 0 (pages_with s f) y) in
      let p = sum_some (s.tables b.0).limit (λ p. bit (is_frame ((s.tables b.0).pages p).frame f)) b.2 in
      page_owner f b.0 p.0 b.1 (bit_true (is_frame ((s.tables b.0).pages p.0).frame f) p.2))
      (λ y. rows_owner m 0 s.book.rows r.book.rows f (omega (arith, w.once f, ltb-false 0 (pages_with s f) y)))

-- the free frames are some of the frames and rise, and every other frame has an owner
pub record Owners (m : Mem) (s : State) : Type 0 where
  pub rising : Rising s.frames
  pub below : (f : ℕ) → 0 < occurs f s.frames → f < s.frame_count
  pub owned : (f : ℕ) → f < s.frame_count → occurs f s.frames ≡ 0 → 0 < m (owner f)

pub owners_of : (ws : List ℕ) (sh : Shape) (s : State) → Held ws sh s → Frames s → Owners (load ws sh) s
owners_of ws sh s h w = record { rising = w.rising; below = free_below s w; owned = owned_of sh (load ws sh) s h.reps.memory h.placed w }

-- THE LOWEST FREE FRAME of a state that words represent
pub lowest_free : (ws : List ℕ) (sh : Shape) (s : State) → Held ws sh s → Owners (load ws sh) s → (f : ℕ) (fs : List ℕ) → s.frames ≡ f ∷ fs → lowest_at (load ws sh) ≡ f
lowest_free ws sh s h w f fs e = let r = h.reps.memory in
    lowest_is (load ws sh) s.frame_count f fs (rw e at (counted_of (load ws sh) s r.frames)) (rw e at w.rising) (w.below f (rw e (occurs_head f fs)))
    (omega (arith, r.frame_count, h.reps.shaped.limits.few_frames))
    (λ g l o. w.owned g l (rw e o))
