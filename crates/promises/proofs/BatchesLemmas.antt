-- How many pages make room for a batch: each brings a page's slots, save one that may lack some. Assumes nothing.
use Rattle.std.specs.Prelude.{◌≡◌, refl, false, ◌&&◌, List, [], ◌∷◌, eqb, ltb}
use Rattle.std.proofs.Math.Path.{sym, ap}
use Rattle.std.proofs.Common.{◌∙◌, le-div_iff_mul-le}
use Rattle.std.proofs.Math.Bool.{not}
use Rattle.std.proofs.Math.Option.{none, some}
use Prim.Native.Nat.{ℕ, zero, suc, ◌+◌, ◌-◌, ◌*◌, ◌≤◌, ◌<◌}
use native.Mathlib.Omega.{arith}
use Rattle.std.proofs.Math.Nat.{mul-le-mul_right}
use Rattle.std.proofs.Math.ListN.{length}
use borrow.Author.Tests.{ltb-true, ltb-false, eqb-true, eqb-false, lt-ltb, le-ltb, eq-eqb, ne_eqb}
use Rattle.model.specs.Base.{bit, pick, put, range, occurs}
use Rattle.model.specs.State.{Sizes, Slot.absent, Lifecycle.active, Table, Class.leaf, Stage.still_new, State, no_page, no_table, no_object, is_absent, is_occupied, max_slots, max_batch}
use Rattle.model.specs.State.{max_tables, max_frames, max_objects, max_rows, max_limit}
use Rattle.model.specs.Storage.{page_of, slots_of, pages_from, pages_for}
use Rattle.model.specs.Create.{max_pages}
use Rattle.model.specs.WellFormed.{WellFormed, Orders, is_attached, is_frame, in_slot, is_reserved_by, is_moving_by}
use Rattle.model.proofs.Tests.{apart, bool, clash, same, zero_or, and_left, bit_true, bit_small, also_some}
use Rattle.model.proofs.Sums.{range_all, sum_zero}
use Rattle.invariant.proofs.Pages.{Sane}

-- every page but the last of the largest table has all its slots
pub whole : (z : Sizes) → Sane z → (p : ℕ) → suc p < max_pages z → slots_of z p ≡ z.page_slots
whole z sane p l =
    let h : suc (suc p) * z.page_slots ≤ max_slots + z.page_slots - 1 = (le-div_iff_mul-le {k = z.page_slots} sane.page).0 l in
    omega (arith, sane.page)

-- one page more of q slots: L more make room for what is left
turn : (S L need q x y : ℕ) → 1 ≤ need → S ≤ q + x → (need - q ≡ 0 → L ≡ 0) → L * S < need - q + S + y → suc L * S < need + S + (x + y)
turn S L need q x y h a e i = zero_or (need - q)
    (λ c. rw (e c) (omega arith))
    (λ c. omega arith)

-- `last` is the one page below the limit that may lack slots, `lacks` of them
module _ (z : Sizes) (sane : Sane z) (limit last lacks : ℕ) (slots : (p : ℕ) → p < limit → z.page_slots ≤ slots_of z p + bit (eqb last p) * lacks) where
  -- how often it is still to come: among the detached pages, and among the new ones from n on
  abbrev pub coming : List ℕ → ℕ → ℕ
  coming ds n = occurs last ds + bit (not (ltb last n) && ltb last limit)

  coming_new : (n : ℕ) → n < limit → coming [] n ≡ bit (eqb last n) + coming [] (suc n)
  coming_new n l = bool (eqb last n)
      (λ e. let q : last ≡ n = eqb-true last n e in
      rw (e, le-ltb last n (omega arith), lt-ltb last (suc n) (omega arith), lt-ltb last limit (omega arith)))
      (λ e. let q : last ≡ n → ⊥ = eqb-false last n e in bool (ltb last n)
      (λ y. rw (e, y, lt-ltb last (suc n) (omega (arith, ltb-true last n y))))
      (λ y. rw (e, y, le-ltb last (suc n) (omega (arith, ltb-false last n y))) (omega arith)))

  none_needed : (fuel needed : ℕ) (ds : List ℕ) (n : ℕ) (ps : List ℕ) → pages_from z fuel needed ds n limit ≡ some ps → needed ≡ 0 → length ps ≡ 0
  none_needed zero zero ds n ps e q = let y : ps ≡ [] = cc in rw y
  none_needed zero (suc m) ds n ps e q = absurd (omega arith)
  none_needed (suc fuel) zero ds n ps e q = let y : ps ≡ [] = cc in rw y
  none_needed (suc fuel) (suc m) ds n ps e q = absurd (omega arith)

  -- page p comes first, then the pages qs
  first : (p fuel m : ℕ) (ds : List ℕ) (n : ℕ) → p < limit → (qs : List ℕ) → pages_from z fuel (suc m - slots_of z p) ds n limit ≡ some qs
      → length qs * z.page_slots < suc m - slots_of z p + z.page_slots + coming ds n * lacks
      → length (p ∷ qs) * z.page_slots < suc m + z.page_slots + (bit (eqb last p) + coming ds n) * lacks
  first p fuel m ds n l qs e i = omega (
    arith,
    turn z.page_slots (length qs) (suc m) (slots_of z p) (bit (eqb last p) * lacks) (coming ds n * lacks) (omega arith) (slots p l)
        (none_needed fuel (suc m - slots_of z p) ds n qs e) i,
  )

  pub pages_bound : (fuel needed : ℕ) (ds : List ℕ) (n : ℕ) → n ≤ limit → ((p : ℕ) → 0 < occurs p ds → p < limit)
      → (ps : List ℕ) → pages_from z fuel needed ds n limit ≡ some ps
      → length ps * z.page_slots < needed + z.page_slots + coming ds n * lacks
  pages_bound zero zero ds n l b ps e = let y : ps ≡ [] = cc in rw y (omega (arith, sane.page))
  pages_bound zero (suc m) ds n l b ps e = apart (cc)
  pages_bound (suc fuel) zero ds n l b ps e = let y : ps ≡ [] = cc in rw y (omega (arith, sane.page))
  pages_bound (suc fuel) (suc m) [] n l b ps e = bool (eqb n limit)
      (λ q. let x : none ≡ some ps = rw q at e in apart (cc))
      (λ q. let x : n ≡ limit → ⊥ = eqb-false n limit q in
      let a = also_some n (pages_from z fuel (suc m - slots_of z n) [] (suc n) limit) ps (rw q at e) in
      rw (a.2, coming_new n (omega arith)) (first n fuel m [] (suc n) (omega arith) a.0 a.1
      (pages_bound fuel (suc m - slots_of z n) [] (suc n) (omega arith) b a.0 a.1)))
  pages_bound (suc fuel) (suc m) (p ∷ ds) n l b ps e =
      let a = also_some p (pages_from z fuel (suc m - slots_of z p) ds n limit) ps e in
      let i = first p fuel m ds n (b p (rw (same p) (omega arith))) a.0 a.1
      (pages_bound fuel (suc m - slots_of z p) ds n l (λ q c. b q (omega arith)) a.0 a.1) in
      rw a.2 (omega (arith, i))

-- `lacks` slots at most are not on the last page of the largest table
module _ (z : Sizes) (sane : Sane z) (lacks : ℕ) (short : z.page_slots ≤ slots_of z (max_pages z - 1) + lacks) where
  abbrev last : ℕ
  last = max_pages z - 1

  slots_of_law : (p : ℕ) → p < max_pages z → z.page_slots ≤ slots_of z p + bit (eqb last p) * lacks
  slots_of_law p l = bool (eqb last p)
      (λ e. rw (e, ← eqb-true last p e) (omega (arith, short)))
      (λ e. let n : last ≡ p → ⊥ = eqb-false last p e in rw (e, whole z sane p (omega arith)) (omega arith))

  -- the pages that a table needs for n slots, from what its limits and its detached pages' order say
  pub table_bound : (t : Table) → t.limit ≤ max_pages z → t.size ≤ t.limit
      → ((p : ℕ) → occurs p t.detached ≡ bit (ltb p t.size && not (is_attached t p)))
      → (n : ℕ) (ps : List ℕ) → pages_for z t n ≡ some ps → length ps * z.page_slots < n + z.page_slots + lacks
  unfolding pages_for
  table_bound t l k d n ps e =
      let at : (p : ℕ) → p < t.limit → z.page_slots ≤ slots_of z p + bit (eqb last p) * lacks = λ p i. slots_of_law p (omega arith) in
      let c : ℕ = coming z sane t.limit last lacks at t.detached t.size in
      let once : c ≤ 1 = bool (ltb last t.size)
      (λ y. rw y (omega (arith, d last, bit_small (ltb last t.size && not (is_attached t last)))))
      (λ y. let none_there : occurs last t.detached ≡ 0 = d last ∙ rw y in rw y (omega (arith, bit_small (ltb last t.limit)))) in
      omega (
        arith,
        mul-le-mul_right lacks once,
        pages_bound z sane t.limit last lacks at max_batch (n - length t.free) t.detached t.size k
            (λ p q. let y : p < t.size = ltb-true p t.size (and_left (ltb p t.size) (not (is_attached t p)) (bit_true _ (omega (arith, d p)))) in omega arith)
            ps e,
      )

-- A STATE whose table 0 has all its pages, detached, the last of them first
module _ (z : Sizes) where
  abbrev pub wide : Table
  wide = record {
    limit = max_pages z;
    mask = 0;
    life = active;
    epoch = 0;
    size = max_pages z;
    pages = λ p. pick (ltb p (max_pages z)) (record { frame = none; high = 1 }) no_page;
    slots = λ k. absent;
    free = [];
    empty = [];
    detached = (max_pages z - 1) ∷ range 0 (max_pages z - 1);
  }

  abbrev pub scattered : State
  scattered = record {
    table_count = 1;
    tables = put (λ b. no_table) 0 wide;
    object_count = 1;
    objects = put (λ o. no_object) 0 (record { koid = 1; kind = 0; class = leaf; supported = 0; exportable = false; limit = 0; stage = still_new; count = 0 });
    frame_count = 0;
    frames = [];
    book = record { rows = []; capacity = 1; next = 1 };
  }

  -- the pages ps, whatever follows the first five
  abbrev pub Takes : List ℕ → Type 0
  Takes ps = (ds : List ℕ) (k limit : ℕ) → pages_from z max_batch max_batch ((max_pages z - 1) ∷ 0 ∷ 1 ∷ 2 ∷ 3 ∷ ds) k limit ≡ some ps

  pub wide_takes : 5 ≤ max_pages z → (ps : List ℕ) → Takes ps → pages_for z wide max_batch ≡ some ps
  unfolding pages_for max_batch
  wide_takes l ps q =
      let r : max_pages z - 1 ≡ suc (suc (suc (suc (max_pages z - 5)))) = omega arith in
      ap (λ (n : ℕ). pages_from z max_batch max_batch ((max_pages z - 1) ∷ range 0 n) (max_pages z) (max_pages z)) r
      ∙ q (range 4 (max_pages z - 5)) (max_pages z) (max_pages z)

  out : (p : ℕ) → is_attached wide p ≡ false
  out p = bool (ltb p (max_pages z)) (λ e. rw e) (λ e. rw e)

  module _ (sane : Sane z) where
    some_page : 1 ≤ max_pages z
    unfolding max_slots
    some_page = (le-div_iff_mul-le {k = z.page_slots} sane.page).1 (omega (arith, sane.page))

    wide_orders : Orders z wide
    wide_orders = record {
      there = λ k. rw (out (page_of z k));
      free = λ k. refl;
      empty = λ p. rw (out p);
      detached = λ p. rw (out p, range_all p (max_pages z - 1)) (bool (ltb p (max_pages z))
          (λ e. let l : p < max_pages z = ltb-true p (max_pages z) e in bool (eqb p (max_pages z - 1))
          (λ q. let i : p ≡ max_pages z - 1 = eqb-true p (max_pages z - 1) q in rw (e, q, le-ltb p (max_pages z - 1) (omega arith)))
          (λ q. let i : p ≡ max_pages z - 1 → ⊥ = eqb-false p (max_pages z - 1) q in rw (e, q, lt-ltb p (max_pages z - 1) (omega arith))))
          (λ e. let l : max_pages z ≤ p = ltb-false p (max_pages z) e in
          rw (e, ne_eqb p (max_pages z - 1) (λ q. omega (arith, some_page)), le-ltb p (max_pages z - 1) (omega arith))));
    }

    absent_all : (b k : ℕ) → (scattered.tables b).slots k ≡ absent
    absent_all b k = bool (eqb b 0) (λ q. rw q) (λ q. rw q)

    pub scattered_well_formed : WellFormed z scattered
    unfolding max_tables max_frames max_objects max_rows max_limit
    scattered_well_formed = record {
      ranges = record {
        table_count = (omega arith, omega arith);
        frame_count = omega arith;
        object_count = (omega arith, omega arith);
        capacity = (omega arith, omega arith);
        row_count = omega arith;
        tables = λ b l. rw (eq-eqb b 0 (omega arith)) (record {
          limit = (some_page, omega arith);
          size = omega arith;
          mask = omega arith;
          epoch = omega arith;
          life = tt;
          high = λ p i. rw (lt-ltb p (max_pages z) i) (omega arith, omega arith);
          slots = λ k. tt;
        });
        objects = λ o l. rw (eq-eqb o 0 (omega arith)) (record {
          koid = (omega arith, omega arith);
          kind = omega arith;
          supported = omega arith;
          limit = omega arith;
        });
        rows = tt;
      };
      frames = record {
        once = λ f. rw (le-ltb f 0 (omega arith)) (omega (
          arith,
          sum_zero (max_pages z) (λ p. bit (is_frame (wide.pages p).frame f))
              (λ p l. rw (lt-ltb p (max_pages z) l)),
        ));
        rising = tt;
      };
      orders = λ b. bool (eqb b 0) (λ q. rw q wide_orders)
          (λ q. rw q (record { there = λ k. refl; free = λ k. refl; empty = λ p. refl; detached = λ p. rw (le-ltb p 0 (omega arith)) }));
      generations = λ b k e. clash (ap is_absent (absent_all b k)) e;
      counts = record {
        counted = λ o l. rw (eq-eqb o 0 (omega arith)) (omega (arith, sum_zero max_slots (λ k. in_slot o absent) (λ k i. refl)));
        staged = λ o l. rw (eq-eqb o 0 (omega arith));
        within = λ o l. rw (eq-eqb o 0 (omega arith)) (omega arith);
      };
      lifecycles = record { closing = λ b e. refl; closed = λ b k e. ap is_occupied (absent_all b k) };
      ids = record { rise = omega arith; next = omega arith };
      marks = record {
        reserved = λ i b k. sym (ap (λ x. bit (is_reserved_by i x)) (absent_all b k));
        transfer_reserved = λ i b k. sym (ap (λ x. bit (is_moving_by i x)) (absent_all b k));
      };
      at_rest = record {
        tables = λ b l. rw (ne_eqb b 0 (λ q. omega arith));
        pages = λ b p l. bool (eqb b 0)
            (λ q. let m : max_pages z ≤ p = rw q at l in rw (q, le-ltb p (max_pages z) m))
            (λ q. rw q);
        objects = λ o l. rw (ne_eqb o 0 (λ q. omega arith));
      };
    }
