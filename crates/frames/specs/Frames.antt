-- A page gets a free frame, or loses its own: the frames of the state then. Assumes nothing.
use Rattle.std.specs.Prelude.{◌≡◌, refl, true, List, [], ◌∷◌, ℕ, suc, ◌+◌, ◌≤◌, ◌<◌, length, eqb, ltb}
use Rattle.std.proofs.Common.{sym, ap, ◌∙◌, ⊎_elim, arith, eqb-true, ltb-true}
use Rattle.std.proofs.Math.Option.{Option, none, some}
use Rattle.std.proofs.lemmas.Bool.{eqb-false}
use Rattle.words.specs.Pick.{bool}
use Rattle.model.specs.Base.{bit, occurs, insert, put, sum}
use Rattle.model.specs.State.{till, Table, State}
use Rattle.model.specs.WellFormed.{Rising, pages_with, Frames}
use Rattle.model.proofs.Tests.{apart, bit_true, bit_small}
use Rattle.model.proofs.Sums.{sum_put}
use Rattle.model.proofs.Counting.{bit_same}
use Rattle.invariant.proofs.Frames.{owned}
use Rattle.layout.specs.declared.Shape.{Shape}
use Rattle.layout.specs.Layout.{Mem, head, owner}
use Rattle.layout.specs.Fields.{head_first_entry}
use Rattle.layout.specs.Sizes.{frames_max}
use Rattle.representation.specs.Represents.{entry_at, FramesAre, Represents}
use Rattle.representation.specs.Unique.{rising_above}
use Rattle.storage.specs.Order.{same?, length_below}
use Rattle.storage.specs.Ops.{up}
use Rattle.storage.specs.Whole.{Placed}
use Rattle.frames.specs.Paged.{entries_apart}
use Rattle.frames.specs.Whole.{paged}
use Rattle.frames.specs.Pool.{Counted, counted_of, Pooled, down, Taken, take_counted, give_counted}

-- ---- lists of free frames

-- and it stands there once
pub rising_head : (x : ℕ) (l : List ℕ) → Rising (x ∷ l) → occurs x l ≡ 0
rising_head x [] r = refl
rising_head x (y ∷ l) r = rising_above x y l r.1 r.0

-- what is taken stood there
pub taken_there : (f : ℕ) (l k : List ℕ) → Taken f l k → 0 < occurs f k
taken_there f l k t = omega (arith, t.more f, bit_same f f refl)

-- the lowest of a rising list
pub taken_first : (f : ℕ) (l k : List ℕ) → k ≡ f ∷ l → Rising k → Taken f l k
taken_first f l k e r = record { more = λ x. rw e; long = ap length e; gone = rising_head f l (rw e at r) }

-- a free frame is a frame
pub free_below : (s : State) → Frames s → (f : ℕ) → 0 < occurs f s.frames → f < s.frame_count
free_below s w f h = ltb-true f s.frame_count (bit_true (ltb f s.frame_count) (omega (arith, w.once f)))

-- no more frames are free than there are
pub frames_few : (s : State) → Frames s → length s.frames ≤ s.frame_count
frames_few s w = length_below s.frame_count s.frames (λ f. omega (arith, w.once f, bit_small (ltb f s.frame_count))) (free_below s w)

-- ---- the frames of a state, from the pool and the pages

pub frames_of : (m : Mem) (s : State) → Counted m s.frame_count s.frames
    → ((b p f : ℕ) → b < s.table_count → p < (s.tables b).size → ((s.tables b).pages p).frame ≡ some f → m (owner f) ≡ suc (entry_at m b p)) → FramesAre m s
frames_of m s r h = record {
  held = h;
  free = r.free;
  sixteens = r.groups 0 (omega arith);
  hundreds = r.groups 1 (omega arith);
  thousands = r.groups 2 (omega arith);
  count = r.count;
}

-- one frame is one
pub some_is : (f g : ℕ) → ◌≡◌ {A = Option ℕ} (some f) (some g) → g ≡ f
some_is f g e = cc

module _ (m n : Mem) (s : State) (b p f : ℕ) (u : Table) (firsts : (c : ℕ) → n (head c head_first_entry) ≡ m (head c head_first_entry))
    (frame : (q : ℕ) → (q ≡ p → ⊥) → (u.pages q).frame ≡ ((s.tables b).pages q).frame) where
  entry_same : (c q : ℕ) → entry_at n c q ≡ entry_at m c q
  entry_same c q = ap (λ (x : ℕ). x + q) (firsts c)

  -- PAGE p GETS THE FREE FRAME f
  pub frames_are_taken : FramesAre m s → (fs : List ℕ) → Taken f fs s.frames → Pooled down m n f (suc (entry_at m b p)) → (u.pages p).frame ≡ some f
      → ((q : ℕ) → (q ≡ p → ⊥) → q < u.size → q < (s.tables b).size) → FramesAre n (paged s b u fs)
  frames_are_taken r fs taken t now size = frames_of n (paged s b u fs)
      (take_counted m n s.frame_count f (suc (entry_at m b p)) fs s.frames (counted_of m s r) taken t)
      (λ c q g l h e. bool (eqb c b)
      (λ d. ⊎_elim
      (λ (y : q ≡ p). new c q g d y (some_is f g (sym now ∙ ap (λ (x : ℕ). (u.pages x).frame) (sym y) ∙ (rw d at e))))
      (λ (y : q ≡ p → ⊥). old c q g (r.held c q g l (rw (eqb-true c b d) (size q y (rw d at h))) (rw (eqb-true c b d) (sym (frame q y) ∙ (rw d at e)))))
      (same? q p))
      (λ d. old c q g (r.held c q g l (rw d at h) (rw d at e))))
    where
      free : m (owner f) ≡ 0
      free = r.free f (taken_there f fs s.frames taken)

      new : (c q g : ℕ) → eqb c b ≡ true → q ≡ p → g ≡ f → n (owner g) ≡ suc (entry_at n c q)
      new c q g d y z = rw (z, y, eqb-true c b d) (t.own ∙ ap suc (sym (entry_same b p)))

      old : (c q g : ℕ) → m (owner g) ≡ suc (entry_at m c q) → n (owner g) ≡ suc (entry_at n c q)
      old c q g i = t.owners g (λ (z : g ≡ f). let y : m (owner g) ≡ m (owner f) = ap (λ (x : ℕ). m (owner x)) z in omega (arith, free)) ∙ i ∙ ap suc (sym (entry_same c q))

  -- PAGE p LOSES ITS FRAME f
  pub frames_are_given : (sh : Shape) → Represents sh m s → Placed till s → b < s.table_count → p < (s.tables b).size → ((s.tables b).pages p).frame ≡ some f → length s.frames ≤ frames_max
      → Pooled up m n f 0 → (u.pages p).frame ≡ none → u.size ≡ (s.tables b).size → FramesAre n (paged s b u (insert f s.frames))
  frames_are_given sh r pl lb lp was small t now size = frames_of n (paged s b u (insert f s.frames))
      (give_counted m n s.frame_count f 0 s.frames (counted_of m s r.frames) small t)
      (λ c q g l h e. bool (eqb c b)
      (λ d. ⊎_elim
      (λ (y : q ≡ p). let z : none ≡ some g = sym now ∙ ap (λ (x : ℕ). (u.pages x).frame) (sym y) ∙ (rw d at e) in apart (cc))
      (λ (y : q ≡ p → ⊥). old c q g l (rw (eqb-true c b d) (rw size at (rw d at h))) (rw (eqb-true c b d) (sym (frame q y) ∙ (rw d at e))) (λ j k. y k))
      (same? q p))
      (λ d. old c q g l (rw d at h) (rw d at e) (λ j k. eqb-false c b d j)))
    where
      owned : m (owner f) ≡ suc (entry_at m b p)
      owned = r.frames.held b p f lb lp was

      old : (c q g : ℕ) → c < s.table_count → q < (s.tables c).size → ((s.tables c).pages q).frame ≡ some g → (c ≡ b → q ≡ p → ⊥) → n (owner g) ≡ suc (entry_at n c q)
      old c q g l h e other = let i : m (owner g) ≡ suc (entry_at m c q) = r.frames.held c q g l h e in
          t.owners g (λ (z : g ≡ f).
          let y : m (owner g) ≡ m (owner f) = ap (λ (x : ℕ). m (owner x)) z in
          let w : c ≡ b = entries_apart sh m s r pl c b q p l lb (omega (arith, (pl.sound c l).size)) (omega (arith, (pl.sound b lb).size)) (omega (arith, owned)) in
          let v : m (head c head_first_entry) ≡ m (head b head_first_entry) = ap (λ (x : ℕ). m (head x head_first_entry)) w in
          other w (omega (arith, owned)))
          ∙ i ∙ ap suc (sym (entry_same c q))

-- ---- each page has a frame of its own, and all others are free

module _ (s : State) (b : ℕ) (u : Table) (lb : b < s.table_count) (w : Frames s) where
  with_pages : (g : ℕ) → (sum s.table_count λ c. owned (put s.tables b u c) g) + owned (s.tables b) g ≡ pages_with s g + owned u g
  with_pages g = sum_put (λ t. owned t g) s.table_count s.tables b u lb

  pub frames_taken : (f : ℕ) (fs : List ℕ) → Taken f fs s.frames → Rising fs → ((g : ℕ) → owned u g ≡ owned (s.tables b) g + bit (eqb g f)) → Frames (paged s b u fs)
  frames_taken f fs t r h = record { once = λ g. omega (arith, w.once g, t.more g, with_pages g, h g); rising = r }
