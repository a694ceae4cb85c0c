-- Words that represent a well-formed state have the structure. Assumes nothing.
use Rattle.std.specs.Prelude.{◌≡◌, refl, false, List, [], ◌∷◌, ℕ, suc, ◌+◌, ◌*◌, ◌/◌, ◌≤◌, ◌<◌, length, eqb, ltb}
use Rattle.std.proofs.Math.Path.{sym}
use Rattle.std.proofs.Common.{ap, ◌∙◌}
use Rattle.std.proofs.Math.Bool.{true}
use Rattle.std.proofs.Math.Option.{some}
use native.Mathlib.Omega.{arith}
use borrow.Author.Tests.{eq-eqb, ne_eqb, eqb-true, lt-ltb, ltb-true}
use Rattle.model.specs.Base.{bit, occurs, sum, is_some}
use Rattle.model.specs.State.{till, Lifecycle, Lifecycle.active, Lifecycle.tearing_down, Lifecycle.retired, Body, Body.reservation, Body.claim, Body.parcel, Body.plan, Row, State, generation, is_absent, is_occupied, is_retired, max_slots}
use Rattle.model.specs.Storage.{slots_of}
use Rattle.model.specs.WellFormed.{LifeRange, TableRange, is_frame, pages_with, frames_in, plans_with, is_attached, WellFormed}
use Rattle.model.proofs.Tests.{bool, clash, bit_true, zero_or}
use Rattle.model.proofs.Sums.{sum_equal, sum_add, sum_part}
use Rattle.model.proofs.Counting.{bit_same, sum_some, sum_ones, sum_occurs}
use Rattle.layout.specs.declared.Shape.{Shape}
use Rattle.layout.specs.Layout.{Mem, head, entry, owner, cell, index}
use Rattle.layout.specs.Fields.{head_page_limit, head_lifecycle, head_cursor, head_pages, entry_frame, entry_high, slot_tag, slot_generation, slot_object, slot_rights, slot_flags}
use Rattle.layout.specs.Values.{tag_occupied, life_retired}
use Rattle.layout.specs.Sizes.{page_size, slots_max, plan_owner}
use Rattle.representation.specs.Represents.{entry_at, tagged, LifeIs, TableIs, Items, HeldIs, BodyIs, RowsAre, Represents}
use Rattle.representation.specs.Told.{link_some}
use Rattle.structure.specs.Facts.{limits_to, is_free, free_from, attached_to, HeadIs, SlotIs, PageIs, Structure}
use Rattle.structure.specs.Checks.{structure_b}
use Rattle.structure.specs.Whole.{link_small, structure_complete}
use Rattle.structure.specs.Frames.{pages_of, pages_counted, planned_in, plans_counted}
use Rattle.structure.specs.Slots.{slot_at, tag_there, tagged_generation, tagged_held, busy_page}
use Rattle.structure.specs.View.{pages_with_law}

-- ---- lifecycles

life_small : (w c : ℕ) (l : Lifecycle) → LifeIs w c l → w ≤ life_retired
life_small w c active i = omega arith
life_small w c (tearing_down n) i = omega arith
life_small w c retired i = omega arith

life_cursor : (w c : ℕ) (l : Lifecycle) → LifeIs w c l → LifeRange l → w ≡ 1 → c ≤ slots_max
unfolding max_slots
life_cursor w c active i r e = absurd (omega arith)
life_cursor w c (tearing_down n) i r e = omega arith
life_cursor w c retired i r e = absurd (omega arith)

life_gone : (w c : ℕ) (l : Lifecycle) → LifeIs w c l → w ≡ life_retired → is_retired l ≡ true
life_gone w c active i e = absurd (omega arith)
life_gone w c (tearing_down n) i e = absurd (omega arith)
life_gone w c retired i e = refl

-- ---- plans

-- the owner word of a frame that a row holds is that of the row's place
pub held_owner : (m : Mem) (x f : ℕ) (d : Body) → BodyIs m x d → 0 < occurs f (frames_in d) → m (owner f) ≡ plan_owner + x
held_owner m x f (reservation b ks) i h = absurd (omega arith)
held_owner m x f (claim b es) i h = absurd (omega arith)
held_owner m x f (parcel hs) i h = absurd (omega arith)
held_owner m x f (plan b n w fs) i h = go 0 fs i.held h
  where
    go : (j : ℕ) (gs : List ℕ) → Items (HeldIs m x) j gs → 0 < occurs f gs → m (owner f) ≡ plan_owner + x
    go j [] p l = absurd (omega arith)
    go j (g ∷ gs) p l = bool (eqb f g)
        (λ e. ap (λ (y : ℕ). m (owner y)) (eqb-true f g e) ∙ p.0.1)
        (λ e. let k : 0 < 0 + occurs f gs = rw e at l in go (suc j) gs p.1 (omega arith))

plans_owned : (m : Mem) (i f : ℕ) (rs : List Row) → RowsAre m i rs → 0 < plans_with rs f → 0 < m (owner f)
plans_owned m i f [] p h = absurd (omega arith)
plans_owned m i f (x ∷ rs) p h = zero_or (occurs f (frames_in x.body))
    (λ z. plans_owned m (suc i) f rs p.2 (omega arith))
    (λ z. omega (arith, held_owner m (m (index i)) f x.body p.1 z))

module _ (sh : Shape) (m : Mem) (s : State) (r : Represents sh m s) (w : WellFormed till s) where
  limits_same : (n : ℕ) → n ≤ s.table_count → (sum n λ c. (s.tables c).limit) ≡ limits_to m n
  limits_same n h = sum_equal n (λ c. (s.tables c).limit) (λ c. m (head c head_page_limit)) (λ c i. sym (r.tables c (omega arith)).limit)

  -- ---- heads

  head_of : (b : ℕ) → b < sh.tables → HeadIs m b (limits_to m b)
  unfolding max_slots
  head_of b h =
      let i : b < s.table_count = omega (arith, r.table_count) in
      let t = r.tables b i in let g = w.ranges.tables b i in
      record {
        some_limit = omega (arith, t.limit, g.limit.0);
        few_limit = omega (arith, t.limit, g.limit.1);
        mask = rw t.mask g.mask;
        life = life_small (m (head b head_lifecycle)) (m (head b head_cursor)) (s.tables b).life t.life;
        cursor = life_cursor (m (head b head_lifecycle)) (m (head b head_cursor)) (s.tables b).life t.life g.life;
        size = omega (arith, t.limit, t.size, g.size);
        first = r.first b i ∙ limits_same b (omega arith);
      }

  -- ---- pages

  module _ (b p : ℕ) (here : b < sh.tables) (below : p < m (head b head_pages)) where
    inside : b < s.table_count
    inside = omega (arith, r.table_count)

    t : TableIs m b (s.tables b)
    t = r.tables b inside

    g : TableRange till s (s.tables b)
    g = w.ranges.tables b inside

    under : p < (s.tables b).size
    under = omega (arith, t.size)

    page_frame : (f : ℕ) → m (entry (entry_at m b p) entry_frame) ≡ suc f → ((s.tables b).pages p).frame ≡ some f
    page_frame f e = link_some ((s.tables b).pages p).frame f (sym (t.frame p under) ∙ e)

    -- a frame of a page is one of the frames
    frame_in : (f : ℕ) → m (entry (entry_at m b p) entry_frame) ≡ suc f → f < sh.frames
    frame_in f e =
        let a : bit (is_frame ((s.tables b).pages p).frame f) ≡ 1 = rw (page_frame f e) (bit_same f f refl) in
        let c = sum_part (s.tables b).limit (λ q. bit (is_frame ((s.tables b).pages q).frame f)) p (omega (arith, under, g.size)) in
        let d = sum_part s.table_count (λ c. sum (s.tables c).limit λ q. bit (is_frame ((s.tables c).pages q).frame f)) b inside in
        let z = ltb-true f s.frame_count (bit_true (ltb f s.frame_count) (omega (arith, w.frames.once f))) in
        omega (arith, r.frame_count)

    module _ (f : ℕ) (e : m (entry (entry_at m b p) entry_frame) ≡ suc f) (j : ℕ) (i : j < slots_of till p) where
      k : ℕ
      k = p * page_size + j

      slot_is_at : (s.tables b).slots k ≡ tagged m (m (cell f j slot_tag)) (m (cell f j slot_generation)) (m (cell f j slot_object)) (m (cell f j slot_rights)) (m (cell f j slot_flags))
      unfolding k
      slot_is_at = sym (t.slots k) ∙ slot_at m b p j f below e i

      page_is : k / page_size ≡ p
      unfolding k
      page_is = omega arith

      present : is_absent ((s.tables b).slots k) ≡ false
      unfolding k
      present =
          let q : k / page_size ≡ p = page_is in
          let a : is_attached (s.tables b) (k / page_size) ≡ true = rw q (ap is_some (page_frame f e)) in
          (w.orders b).there k ∙ rw (a, lt-ltb k max_slots (omega arith))

      tag_small : m (cell f j slot_tag) ≤ tag_occupied
      tag_small = tag_there m (m (cell f j slot_tag)) (m (cell f j slot_generation)) (m (cell f j slot_object)) (m (cell f j slot_rights)) (m (cell f j slot_flags)) (sym (ap is_absent slot_is_at) ∙ present)

      occupied_at : m (cell f j slot_tag) ≡ tag_occupied → is_occupied ((s.tables b).slots k) ≡ true
      occupied_at z = ap is_occupied slot_is_at ∙ rw z

      held_at : m (cell f j slot_tag) ≡ tag_occupied → (m (cell f j slot_object) < s.object_count) × (m (cell f j slot_flags) ≤ 3)
      held_at z = tagged_held m s (m (cell f j slot_tag)) (m (cell f j slot_generation)) (m (cell f j slot_object)) (m (cell f j slot_rights)) (m (cell f j slot_flags)) z (rw slot_is_at at (g.slots k))

      slot_of : SlotIs m sh.objects (m (head b head_lifecycle)) (m (entry (entry_at m b p) entry_high)) f j
      slot_of =
          let n = w.generations b k present in
          let q : generation ((s.tables b).slots k) ≡ m (cell f j slot_generation) = ap generation slot_is_at
          ∙ tagged_generation m (m (cell f j slot_tag)) (m (cell f j slot_generation)) (m (cell f j slot_object)) (m (cell f j slot_rights)) (m (cell f j slot_flags)) tag_small in
          let y : ((s.tables b).pages (k / page_size)).high ≡ m (entry (entry_at m b p) entry_high) = ap (λ (x : ℕ). ((s.tables b).pages x).high) page_is ∙ sym (t.high p under) in
          record {
            tag = tag_small;
            some_generation = omega (arith, n.0);
            few_generation = omega (arith, n.2);
            object = λ z. rw r.object_count (held_at z).0;
            flags = λ z. (held_at z).1;
            retired = λ z l. clash (occupied_at z) (w.lifecycles.closed b k (life_gone (m (head b head_lifecycle)) (m (head b head_cursor)) (s.tables b).life t.life l));
          }

    page_of_law : PageIs m sh (m (head b head_lifecycle)) (entry_at m b p) (slots_of till p)
    page_of_law = record {
      some_high = omega (arith, t.high p under, (g.high p under).0);
      few_high = omega (arith, t.high p under, (g.high p under).1);
      link = link_small (m (entry (entry_at m b p) entry_frame)) sh.frames frame_in;
      named = λ f e. r.frames.held b p f inside under (page_frame f e);
      busy = λ f e. t.busy p under (ap is_some (page_frame f e)) ∙ busy_page m b p f (s.tables b).slots (λ k. sym (t.slots k)) below e (tag_small f e);
      slots = λ f e j i. slot_of f e j i;
    }

  -- ---- frames

  pages_same : (f : ℕ) → pages_with s f ≡ pages_of m sh.tables f
  pages_same f = pages_with_law m s sh.tables f (sym r.table_count)
      (λ b h. sym (r.tables b (omega (arith, r.table_count))).size)
      (λ b h. omega (arith, (r.tables b (omega (arith, r.table_count))).size, (w.ranges.tables b (omega (arith, r.table_count))).size))
      (λ b p h i. let j : b < s.table_count = omega (arith, r.table_count) in sym ((r.tables b j).frame p (omega (arith, (r.tables b j).size))))
      (λ b p h i. w.at_rest.pages b p i)

  -- the free frames are those without an owner
  free_same : (f : ℕ) → occurs f s.frames ≡ bit (is_free m sh.frames f)
  free_same f = bool (ltb f sh.frames)
      (λ e. let o : pages_of m sh.tables f + plans_with s.book.rows f + occurs f s.frames ≡ 1 = rw (← pages_same f) (w.frames.once f ∙ rw (← r.frame_count, e)) in
      zero_or (occurs f s.frames)
      (λ z. zero_or (plans_with s.book.rows f)
      (λ u. let x = sum_some sh.tables (λ b. sum (m (head b head_pages)) λ p. bit (eqb (m (entry (entry_at m b p) entry_frame)) (suc f))) (omega arith) in
      let y = sum_some (m (head x.0 head_pages)) (λ p. bit (eqb (m (entry (entry_at m x.0 p) entry_frame)) (suc f))) x.2 in
      let l : m (entry (entry_at m x.0 y.0) entry_frame) ≡ suc f = eqb-true (m (entry (entry_at m x.0 y.0) entry_frame)) (suc f) (bit_true (eqb (m (entry (entry_at m x.0 y.0) entry_frame)) (suc f)) y.2) in
      let n = (page_of_law x.0 y.0 x.1 y.1).named f l in
      z ∙ rw (e, ne_eqb (m (owner f)) 0 (λ q. omega arith)))
      (λ u. z ∙ rw (e, ne_eqb (m (owner f)) 0 (λ q. omega (arith, plans_owned m 0 f s.book.rows r.book.rows u)))))
      (λ z. let n = r.frames.free f z in
      let y : occurs f s.frames ≡ 1 = omega arith in y ∙ rw (e, eq-eqb (m (owner f)) 0 n)))
      (λ e. let z : bit (ltb f s.frame_count) ≡ 0 = rw (← r.frame_count, e) in
      let y : occurs f s.frames ≡ 0 = omega (arith, w.frames.once f) in y ∙ rw e)

  free_sum : (a n : ℕ) → (sum n λ j. occurs (a + j) s.frames) ≡ free_from m sh.frames a n
  free_sum a n = sum_equal n (λ j. occurs (a + j) s.frames) (λ j. bit (is_free m sh.frames (a + j))) (λ j h. free_same (a + j))

  frame_below : (f : ℕ) → 0 < occurs f s.frames → f < sh.frames
  frame_below f h = bool (ltb f sh.frames)
      (λ e. ltb-true f sh.frames e)
      (λ e. let z : bit (ltb f s.frame_count) ≡ 0 = rw (← r.frame_count, e) in absurd (omega (arith, w.frames.once f)))

  free_length : length s.frames ≡ free_from m sh.frames 0 sh.frames
  free_length =
      sym (sum_occurs sh.frames s.frames frame_below)
      ∙ sum_equal sh.frames (λ j. occurs j s.frames) (λ j. bit (is_free m sh.frames (0 + j))) (λ j h. let e : 0 + j ≡ j = omega arith in rw e (free_same j))

  -- a frame that a plan holds is one of the frames
  pub planned_below : (f : ℕ) → 0 < plans_with s.book.rows f → f < sh.frames
  planned_below f h = bool (ltb f sh.frames)
      (λ e. ltb-true f sh.frames e)
      (λ e. let z : bit (ltb f s.frame_count) ≡ 0 = rw (← r.frame_count, e) in absurd (omega (arith, w.frames.once f)))

  frames_all : attached_to m sh.tables + planned_in s.book.rows + free_from m sh.frames 0 sh.frames ≡ sh.frames
  frames_all =
      let a = pages_counted m sh.tables sh.frames (λ b p h i. (page_of_law b p h i).link) in
      let p = plans_counted sh.frames s.book.rows planned_below in
      let b = sum_add sh.frames (λ f. pages_of m sh.tables f) (λ f. plans_with s.book.rows f) in
      let c = sum_add sh.frames (λ f. pages_of m sh.tables f + plans_with s.book.rows f) (λ f. bit (is_free m sh.frames (0 + f))) in
      let d : (sum sh.frames λ f. pages_of m sh.tables f + plans_with s.book.rows f + bit (is_free m sh.frames (0 + f))) ≡ sh.frames =
      sum_equal sh.frames (λ f. pages_of m sh.tables f + plans_with s.book.rows f + bit (is_free m sh.frames (0 + f))) (λ f. 1)
      (λ f h. let e : 0 + f ≡ f = omega arith in rw (e, ← pages_same f, ← free_same f) (w.frames.once f ∙ rw (← r.frame_count, lt-ltb f sh.frames h)))
      ∙ sum_ones sh.frames in
      omega (arith, a, b, c, d, p)

  -- ---- THE WHOLE

  pub represented_structure : Structure sh m (planned_in s.book.rows)
  represented_structure = record {
    heads = head_of;
    pages = page_of_law;
    entries = r.page_count ∙ limits_same s.table_count (omega arith) ∙ ap (limits_to m) (sym r.table_count);
    frames = frames_all;
    free = r.frames.count ∙ free_length;
    sixteens = λ g h. r.frames.sixteens g (omega (arith, r.frame_count)) ∙ free_sum (g * 16) 16;
    hundreds = λ g h. r.frames.hundreds g (omega (arith, r.frame_count)) ∙ free_sum (g * 256) 256;
    thousands = λ g h. r.frames.thousands g (omega (arith, r.frame_count)) ∙ free_sum (g * 4096) 4096;
  }

  pub represented_passes : structure_b m sh (planned_in s.book.rows) ≡ true
  represented_passes = structure_complete sh m (planned_in s.book.rows) represented_structure
