-- Page entries by table and page, and the frames that they have. Assumes nothing.
use Rattle.std.specs.Prelude.{◌≡◌, refl, Bool, ◌&&◌, ℕ, zero, suc, ◌+◌, ◌-◌, ◌≤◌, ◌<◌, eqb}
use Rattle.std.proofs.Math.Path.{sym}
use Rattle.std.proofs.Common.{ap, ◌∙◌, arith}
use Rattle.std.proofs.Math.Bool.{true, not}
use Rattle.std.proofs.Math.Option.{none, some}
use Rattle.std.proofs.Math.Dec.{ltb}
use borrow.Author.Tests.{eq-eqb, eqb-true, eqb-false, lt-ltb, le-ltb, ltb-true, ltb-false, not-true}
use Rattle.words.specs.Pick.{bool, both}
use Rattle.model.specs.Base.{bit, occurs, sum, nth}
use Rattle.model.specs.State.{Row, State}
use Rattle.model.proofs.Tests.{bit_true, bit_small}
use Rattle.model.proofs.Sums.{sum_part}
use Rattle.model.proofs.Counting.{sum_next, runs_apart}
use Rattle.model.specs.WellFormed.{is_frame, pages_with, frames_in, plans_with, Frames}
use Rattle.layout.specs.Sizes.{plan_owner}
use Rattle.representation.specs.Represents.{link_of}
use Rattle.written.specs.Searches.{seek_is, seek_none, holder_is}
use Rattle.written.specs.Words.{entries_before, table_at, page_at, owner_of, owner_word}

-- ---- runs

-- each number below a sum stands in one of its parts
pub run_of : (n : ℕ) (f : ℕ → ℕ) (e : ℕ) → e < sum n f → (c : ℕ) × (q : ℕ) × (c < n) × (q < f c) × (e ≡ sum c f + q)
run_of zero f e h = absurd (omega arith)
run_of (suc n) f e h = bool (ltb e (sum n f))
    (λ l. let r = run_of n f e (ltb-true e (sum n f) l) in (r.0, r.1, omega (arith, r.2), r.3, r.4))
    (λ l. let g = ltb-false e (sum n f) l in (n, e - sum n f, omega arith, omega arith, omega arith))

-- two parts of a sum
sum_two : (n : ℕ) (f : ℕ → ℕ) (j k : ℕ) → j < n → k < n → (j ≡ k → ⊥) → f j + f k ≤ sum n f
sum_two zero f j k a b d = absurd (omega arith)
sum_two (suc n) f j k a b d = bool (eqb j n)
    (λ e. let y = eqb-true j n e in omega (arith, sum_part n f k (omega arith), ap f y))
    (λ e. let y = eqb-false j n e in bool (eqb k n)
    (λ q. let z = eqb-true k n q in omega (arith, sum_part n f j (omega arith), ap f z))
    (λ q. let z = eqb-false k n q in omega (arith, sum_two n f j k (omega arith) (omega arith) d)))

-- ---- the entry of a page

module _ (s : State) (b p : ℕ) (h : b < s.table_count) (i : p < (s.tables b).limit) where
  pub table_at_law : table_at s (entries_before s b + p) ≡ b
  unfolding table_at
  table_at_law =
      let e = entries_before s b + p in
      rw (seek_is s.table_count (λ c. not (ltb e (entries_before s c)) && ltb e (entries_before s (suc c))) b h
      (rw (le-ltb e (entries_before s b) (omega arith), lt-ltb e (entries_before s (suc b)) (omega arith)))
      (λ c l q. let d = both (not (ltb e (entries_before s c))) (ltb e (entries_before s (suc c))) q in
      let g = ltb-false e (entries_before s c) (not-true _ d.0) in
      let k = ltb-true e (entries_before s (suc c)) d.1 in
      runs_apart (λ (c : ℕ). (s.tables c).limit) c b (e - entries_before s c) p (omega arith) i (omega arith)))

  pub page_at_law : page_at s (entries_before s b + p) ≡ p
  unfolding page_at
  page_at_law = rw table_at_law (omega arith)

  pub entry_low : entries_before s b + p < entries_before s s.table_count
  entry_low = omega (arith, sum_next s.table_count (λ c. (s.tables c).limit) b h)

-- ---- the page of a frame

-- whether an entry's page has a frame
abbrev has_frame : State → ℕ → ℕ → Bool
has_frame s f e = is_frame ((s.tables (table_at s e)).pages (page_at s e)).frame f

has_frame_law : (s : State) (f b p : ℕ) → b < s.table_count → p < (s.tables b).limit → has_frame s f (entries_before s b + p) ≡ is_frame ((s.tables b).pages p).frame f
has_frame_law s f b p h i = rw (table_at_law s b p h i, page_at_law s b p h i)

abbrev pages_in : State → ℕ → ℕ → ℕ
pages_in s f b = sum (s.tables b).limit λ p. bit (is_frame ((s.tables b).pages p).frame f)

pages_in_law : (s : State) (f b p : ℕ) → p < (s.tables b).limit → is_frame ((s.tables b).pages p).frame f ≡ true → 1 ≤ pages_in s f b
pages_in_law s f b p i e = omega (arith, sum_part (s.tables b).limit (λ p. bit (is_frame ((s.tables b).pages p).frame f)) p i, ap bit e)

-- a frame that a page has
page_with : (s : State) (f b p : ℕ) → b < s.table_count → p < (s.tables b).limit → is_frame ((s.tables b).pages p).frame f ≡ true → 1 ≤ pages_with s f
page_with s f b p h i e = omega (arith, pages_in_law s f b p i e, sum_part s.table_count (pages_in s f) b h)

-- .. and that no other has
page_one : (s : State) (f b p c q : ℕ) → b < s.table_count → p < (s.tables b).limit → c < s.table_count → q < (s.tables c).limit
    → is_frame ((s.tables b).pages p).frame f ≡ true → is_frame ((s.tables c).pages q).frame f ≡ true → pages_with s f ≤ 1 → (b ≡ c) × (p ≡ q)
page_one s f b p c q h i k l e d u =
    let same : b ≡ c = bool (eqb b c) (λ z. eqb-true b c z)
    (λ z. absurd (omega (arith, pages_in_law s f b p i e, pages_in_law s f c q l d, sum_two s.table_count (pages_in s f) b c h k (eqb-false b c z)))) in
    let j : q < (s.tables b).limit = rw same l in
    let g : is_frame ((s.tables b).pages q).frame f ≡ true = rw same d in (
      same,
      bool (eqb p q) (λ z. eqb-true p q z)
          (λ z. absurd (omega (
            arith,
            ap bit e,
            ap bit g,
            sum_two (s.tables b).limit (λ p. bit (is_frame ((s.tables b).pages p).frame f)) p q i j (eqb-false p q z),
            sum_part s.table_count (pages_in s f) b h,
          ))),
    )

module _ (s : State) (w : Frames s) where
  pages_most : (f : ℕ) → pages_with s f ≤ 1
  pages_most f = omega (arith, w.once f, bit_small (ltb f s.frame_count))

  -- a frame is one of the pool
  pub frame_low : (b p f : ℕ) → b < s.table_count → p < (s.tables b).limit → ((s.tables b).pages p).frame ≡ some f → f < s.frame_count
  frame_low b p f h i e =
      let y : is_frame ((s.tables b).pages p).frame f ≡ true = rw e (eq-eqb f f refl) in
      ltb-true f s.frame_count (bit_true (ltb f s.frame_count) (omega (arith, w.once f, page_with s f b p h i y)))

  pub free_low : (f : ℕ) → 0 < occurs f s.frames → f < s.frame_count
  free_low f h = ltb-true f s.frame_count (bit_true (ltb f s.frame_count) (omega (arith, w.once f)))

  pub free_most : (f : ℕ) → occurs f s.frames ≤ 1
  free_most f = omega (arith, w.once f, bit_small (ltb f s.frame_count))

  -- a page's frame names the page's entry
  pub owner_held : (b p f : ℕ) → b < s.table_count → p < (s.tables b).limit → ((s.tables b).pages p).frame ≡ some f → owner_of s f ≡ some (entries_before s b + p)
  unfolding owner_of
  owner_held b p f h i e =
      let y : is_frame ((s.tables b).pages p).frame f ≡ true = rw e (eq-eqb f f refl) in
      seek_is (entries_before s s.table_count) (has_frame s f) (entries_before s b + p) (entry_low s b p h i) (has_frame_law s f b p h i ∙ y)
      (λ k l q. let r = run_of s.table_count (λ c. (s.tables c).limit) k l in
      let d : is_frame ((s.tables r.0).pages r.1).frame f ≡ true = sym (has_frame_law s f r.0 r.1 r.2 r.3) ∙ (rw r.4 at q) in
      let o = page_one s f b p r.0 r.1 h i r.2 r.3 y d (pages_most f) in
      r.4 ∙ rw (o.0, o.1))

  -- a free one names none
  pub owner_free : (f : ℕ) → 0 < occurs f s.frames → owner_of s f ≡ none
  unfolding owner_of
  owner_free f h =
      seek_none (entries_before s s.table_count) (has_frame s f)
      (λ k l. bool (has_frame s f k)
      (λ q. let r = run_of s.table_count (λ c. (s.tables c).limit) k l in
      let d : is_frame ((s.tables r.0).pages r.1).frame f ≡ true = sym (has_frame_law s f r.0 r.1 r.2 r.3) ∙ (rw r.4 at q) in
      absurd (omega (arith, w.once f, bit_small (ltb f s.frame_count), page_with s f r.0 r.1 r.2 r.3 d)))
      (λ q. q))

  -- ---- the owner words

  -- a frame that no plan holds
  unplanned : (f : ℕ) → plans_with s.book.rows f ≡ 0 → owner_word s f ≡ link_of (owner_of s f)
  unplanned f z = rw (le-ltb 0 (plans_with s.book.rows f) (omega arith))

  pub word_held : (b p f : ℕ) → b < s.table_count → p < (s.tables b).limit → ((s.tables b).pages p).frame ≡ some f → owner_word s f ≡ suc (entries_before s b + p)
  word_held b p f h i e =
      let y : is_frame ((s.tables b).pages p).frame f ≡ true = rw e (eq-eqb f f refl) in
      unplanned f (omega (arith, w.once f, bit_small (ltb f s.frame_count), page_with s f b p h i y)) ∙ ap link_of (owner_held b p f h i e)

  pub word_free : (f : ℕ) → 0 < occurs f s.frames → owner_word s f ≡ 0
  word_free f h = unplanned f (omega (arith, w.once f, bit_small (ltb f s.frame_count))) ∙ ap link_of (owner_free f h)

  -- of one that the row of rank k holds
  pub word_planned : (f k : ℕ) (r : Row) → nth s.book.rows k ≡ some r → 0 < occurs f (frames_in r.body) → (f < s.frame_count) × (owner_word s f ≡ plan_owner + k)
  word_planned f k r e h =
      let d = holder_is f s.book.rows k r e h (omega (arith, w.once f, bit_small (ltb f s.frame_count))) in (
        ltb-true f s.frame_count (bit_true (ltb f s.frame_count) (omega (arith, w.once f, d.1))),
        rw (lt-ltb 0 (plans_with s.book.rows f) (omega (arith, d.1)), d.0),
      )
