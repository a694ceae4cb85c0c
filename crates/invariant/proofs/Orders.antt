-- One table's storage is sound: its orders, generations, high marks and limits. Each operation on a table keeps it so.
use Rattle.std.specs.Prelude.{◌≡◌, Bool, not, ◌&&◌, List, [], ◌∷◌, ◌++◌, take, eqb}
use Rattle.std.proofs.Math.Path.{refl, sym, ap}
use Rattle.std.proofs.Common.{◌∙◌, take-append-drop}
use Rattle.std.proofs.Math.Bool.{true, false}
use Prim.Native.Nat.{ℕ, suc, ◌+◌, ◌^◌, ◌≤◌, ◌<◌}
use native.Mathlib.Omega.{arith}
use Rattle.std.proofs.Math.Nat.{mod-lt}
use Rattle.std.proofs.Math.ListN.{drop}
use Rattle.std.proofs.Math.Dec.{ltb}
use borrow.Author.Tests.{ltb-true, ltb-false, eqb-true, eqb-false, lt-ltb, le-ltb, ne_eqb, not-false}
use Rattle.codec.specs.Codec.{next_generation, generation_limit}
use Rattle.codec.proofs.Laws.{next_range}
use Rattle.model.specs.Base.{bit, pick, put, occurs, drop_if, push_all, is_some}
use Rattle.model.specs.State.{Sizes, Lifecycle, Handle, Slot, Slot.absent, Slot.vacant, Slot.occupied, Table, generation, is_vacant, is_absent}
use Rattle.model.specs.State.{is_busy, no_page, max_slots, Entry}
use Rattle.model.specs.Storage.{with_free, page_of, page_range, on_page, busy_of, empty_after, place, keep, keep_all, vacate, vacate_all, take_free, attach}
use Rattle.model.specs.Storage.{detach}
use Rattle.model.specs.Book.{moved_of}
use Rattle.model.specs.Step.{fill_all, restore_all}
use Rattle.model.specs.Create.{max_pages}
use Rattle.model.specs.WellFormed.{is_attached, Generations}
use Rattle.model.proofs.Tests.{bool, clash, and_left, and_right, and-false, bit_true, same}
use Rattle.model.proofs.Sums.{occurs_push, occurs_without, occurs_drop_if}
use Rattle.invariant.proofs.Pointwise.{place_alike, vacate_slots, take_free_free, moved_handles, vacate_free, restore_all_is}
use Rattle.invariant.proofs.Pointwise.{vacate_all_free, fill_all_free, place_free, keep_busy}
use Rattle.invariant.proofs.Pages.{Sane, busy_vacant, busy_there, vacant_there, absent_is, occurs_page, busy_other, busy_own, busy_none}

-- the free order stands apart, as `fr`: between two steps of an operation the table holds another
pub record Sound (z : Sizes) (t : Table) (fr : List ℕ) : Type 0 where
  pub limit : t.limit ≤ max_pages z
  pub size : t.size ≤ t.limit
  pub epoch : t.epoch < 2 ^ 64
  pub high : (p : ℕ) → p < t.size → (1 ≤ (t.pages p).high) × ((t.pages p).high ≤ generation_limit)
  pub rest : (p : ℕ) → t.size ≤ p → t.pages p ≡ no_page
  pub there : (k : ℕ) → is_absent (t.slots k) ≡ not (is_attached t (page_of z k) && ltb k max_slots)
  pub free : (k : ℕ) → occurs k fr ≡ bit (is_vacant (t.slots k))
  pub empty : (p : ℕ) → occurs p t.empty ≡ bit (is_attached t p && eqb (busy_of z t.slots p) 0)
  pub detached : (p : ℕ) → occurs p t.detached ≡ bit (ltb p t.size && not (is_attached t p))
  pub generations : Generations z t

pub order_is : (z : Sizes) (t : Table) (fr gr : List ℕ) → fr ≡ gr → Sound z t fr → Sound z t gr
order_is z t fr gr e o = rw e at o

-- a page may be attached
pub record Room (t : Table) (p : ℕ) : Type 0 where
  pub out : is_attached t p ≡ false
  pub next : p ≤ t.size
  pub within : p < t.limit

-- what a present slot tells
module _ (z : Sizes) (t : Table) (fr : List ℕ) (o : Sound z t fr) where
  pub attached_of : (k : ℕ) → is_absent (t.slots k) ≡ false → is_attached t (page_of z k) ≡ true
  attached_of k e = and_left (is_attached t (page_of z k)) (ltb k max_slots)
      (not-false (is_attached t (page_of z k) && ltb k max_slots) (sym (o.there k) ∙ e))

  pub below_of : (k : ℕ) → is_absent (t.slots k) ≡ false → k < max_slots
  below_of k e = ltb-true k max_slots
      (and_right (is_attached t (page_of z k)) (ltb k max_slots) (not-false (is_attached t (page_of z k) && ltb k max_slots) (sym (o.there k) ∙ e)))

  -- an attached page is below the size
  pub attached_below : (p : ℕ) → is_attached t p ≡ true → p < t.size
  attached_below p e = bool (ltb p t.size) (λ l. ltb-true p t.size l)
      (λ l. clash e (ap (λ q. is_some q.frame) (o.rest p (ltb-false p t.size l))))

  pub absent_out : (k : ℕ) → is_attached t (page_of z k) ≡ false → t.slots k ≡ absent
  absent_out k e = absent_is (t.slots k) (o.there k ∙ rw e)

  pub absent_past : (k : ℕ) → ltb k max_slots ≡ false → t.slots k ≡ absent
  absent_past k e = absent_is (t.slots k) (o.there k ∙ rw (e, and-false (is_attached t (page_of z k))))

  -- mask, life, epoch and the order that the table holds may be others
  pub recast : (m : ℕ) (l : Lifecycle) (e : ℕ) (f : List ℕ) → e < 2 ^ 64 → Sound z (record {
    limit = t.limit;
    mask = m;
    life = l;
    epoch = e;
    size = t.size;
    pages = t.pages;
    slots = t.slots;
    free = f;
    empty = t.empty;
    detached = t.detached;
  }) fr
  recast m l e f h = record {
    limit = o.limit;
    size = o.size;
    epoch = h;
    high = o.high;
    rest = o.rest;
    there = o.there;
    free = o.free;
    empty = o.empty;
    detached = o.detached;
    generations = o.generations;
  }

  pub with_order : (f : List ℕ) → Sound z (with_free t f) fr
  with_order f = recast t.mask t.life t.epoch f o.epoch

-- the empty pages' order at a page whose slots had `n` busy and have `m`
empty_after_law : (z : Sizes) (was now : Bool) (q : ℕ) (f : ℕ → Slot) (e : List ℕ) (n : ℕ)
    → busy_of z f q + bit was ≡ n + bit now → occurs q e ≡ bit (eqb n 0) → occurs q (empty_after z was now q f e) ≡ bit (eqb (busy_of z f q) 0)
empty_after_law z false false q f e n c h = let y : busy_of z f q ≡ n = omega arith in rw y h
empty_after_law z false true q f e n c h = rw (ne_eqb (busy_of z f q) 0 (λ y. omega arith)) (occurs_without q q e ∙ rw (same q))
empty_after_law z true false q f e n c h = let o : occurs q e ≡ 0 = h ∙ rw (ne_eqb n 0 (λ y. omega arith)) in bool (eqb (busy_of z f q) 0)
    (λ y. rw (y, same q) (omega arith))
    (λ y. rw y o)
empty_after_law z true true q f e n c h = let y : busy_of z f q ≡ n = omega arith in rw y h

empty_other : (z : Sizes) (was now : Bool) (q p : ℕ) (f : ℕ → Slot) (e : List ℕ) → (p ≡ q → ⊥) → occurs p (empty_after z was now q f e) ≡ occurs p e
empty_other z false false q p f e n = refl
empty_other z false true q p f e n = occurs_without p q e ∙ rw (ne_eqb p q n)
empty_other z true false q p f e n = bool (eqb (busy_of z f q) 0) (λ y. rw (y, ne_eqb p q n) (omega arith)) (λ y. rw y)
empty_other z true true q p f e n = refl

module _ (z : Sizes) (sane : Sane z) where
  -- new contents for a present slot
  pub place_sound : (t : Table) (fr gr : List ℕ) (k : ℕ) (x : Slot) → Sound z t fr → is_absent (t.slots k) ≡ false → is_absent x ≡ false
      → (1 ≤ generation x) × (generation x ≤ generation_limit) → ((j : ℕ) → occurs j gr ≡ bit (is_vacant (put t.slots k x j)))
      → Sound z (place z t k x) gr
  unfolding place
  place_sound t fr gr k x o here present g free =
      let q : ℕ = page_of z k in
      let att : is_attached t q ≡ true = attached_of z t fr o k here in
      let under : q < t.size = attached_below z t fr o q att in
      let a : (p : ℕ) → is_attached (place z t k x) p ≡ is_attached t p = λ p. ap is_some ((place_alike z t k x).frame p) in
      record {
        limit = o.limit;
        size = o.size;
        epoch = o.epoch;
        high = λ p l. bool (eqb p q)
            (λ e. let h : (1 ≤ (t.pages q).high) × ((t.pages q).high ≤ generation_limit) = o.high q under in rw e (omega arith, omega arith))
            (λ e. rw e (o.high p l));
        rest = λ p l. rw (ne_eqb p q (λ e. omega arith)) (o.rest p l);
        there = λ j. rw (a (page_of z j)) (bool (eqb j k)
            (λ e. rw (e, eqb-true j k e) (present ∙ sym here ∙ o.there k))
            (λ e. rw e (o.there j)));
        free = free;
        empty = λ p. rw (a p) (bool (eqb p q)
            (λ e. let i : p ≡ q = eqb-true p q e in
            rw (i, att) (empty_after_law z (is_busy (t.slots k)) (is_busy x) q (put t.slots k x) t.empty (busy_of z t.slots q)
            (busy_own z sane t.slots k x (below_of z t fr o k here)) (o.empty q ∙ rw att)))
            (λ e. let i : p ≡ q → ⊥ = eqb-false p q e in
            empty_other z (is_busy (t.slots k)) (is_busy x) q p (put t.slots k x) t.empty i ∙ o.empty p
            ∙ rw (busy_other z sane (put t.slots k x) t.slots p (λ j n l. rw (ne_eqb j k (λ y. i (sym n ∙ ap (page_of z) y)))))));
        detached = λ p. rw (a p) (o.detached p);
        generations = λ j h. bool (eqb j k)
            (λ e. rw (e, eqb-true j k e, same q) (g.0, g.1, omega arith))
            (λ e. let i = o.generations j (rw e at h) in rw e (bool (eqb (page_of z j) q)
            (λ y. let m : generation (t.slots j) ≤ (t.pages q).high = rw (eqb-true (page_of z j) q y) at i.2 in rw y (i.0, i.1, omega arith))
            (λ y. rw y i)));
      }

  -- the generation that a present slot has is good
  pub good_of : (t : Table) (fr : List ℕ) → Sound z t fr → (k : ℕ) → is_absent (t.slots k) ≡ false
      → (1 ≤ generation (t.slots k)) × (generation (t.slots k) ≤ generation_limit)
  good_of t fr o k e = let g = o.generations k e in (g.0, g.1)

  -- other busy contents of a busy slot
  pub place_busy : (t : Table) (fr : List ℕ) (k : ℕ) (x : Slot) → Sound z t fr → is_busy (t.slots k) ≡ true → is_busy x ≡ true
      → (1 ≤ generation x) × (generation x ≤ generation_limit) → Sound z (place z t k x) fr
  place_busy t fr k x o was now g = place_sound t fr fr k x o (busy_there (t.slots k) was) (busy_there x now) g
      (λ j. o.free j ∙ bool (eqb j k) (λ e. rw (e, eqb-true j k e, busy_vacant (t.slots k) was, busy_vacant x now)) (λ e. rw e))

  -- a slot of the free order gets busy contents and leaves the order
  pub place_taken : (t : Table) (fr : List ℕ) (k : ℕ) (x : Slot) → Sound z t (k ∷ fr) → is_busy x ≡ true
      → (1 ≤ generation x) × (generation x ≤ generation_limit) → Sound z (place z t k x) fr
  place_taken t fr k x o now g =
      let h : 1 + occurs k fr ≡ bit (is_vacant (t.slots k)) = rw (same k) at (o.free k) in
      let v : is_vacant (t.slots k) ≡ true = bit_true (is_vacant (t.slots k)) (omega arith) in
      place_sound t (k ∷ fr) fr k x o (vacant_there (t.slots k) v) (busy_there x now) g
      (λ j. bool (eqb j k)
      (λ e. rw (e, eqb-true j k e, busy_vacant x now) (omega (arith, rw v at h)))
      (λ e. let i : 0 + occurs j fr ≡ bit (is_vacant (t.slots j)) = rw e at (o.free j) in rw e (omega arith)))

  -- a busy slot falls vacant
  pub vacate_sound : (t : Table) (fr : List ℕ) (k : ℕ) → Sound z t fr → is_busy (t.slots k) ≡ true → Sound z (vacate z t k) (k ∷ fr)
  unfolding vacate
  vacate_sound t fr k o was =
      let x : Slot = vacant (next_generation (generation (t.slots k))) in
      let here : is_absent (t.slots k) ≡ false = busy_there (t.slots k) was in
      with_order z (place z t k x) (k ∷ fr) (place_sound t fr (k ∷ fr) k x o here refl (next_range (generation (t.slots k)))
      (λ j. bool (eqb j k)
      (λ e. let i : occurs j fr ≡ 0 = rw (eqb-true j k e) (o.free k ∙ rw (busy_vacant (t.slots k) was)) in rw e (omega arith))
      (λ e. rw e (omega (arith, o.free j))))) (k ∷ (place z t k x).free)

  pub vacate_all_sound : (ks : List ℕ) (t : Table) (fr : List ℕ) → Sound z t fr → ((j : ℕ) → occurs j ks ≤ 1)
      → ((j : ℕ) → 0 < occurs j ks → is_busy (t.slots j) ≡ true)
      → Sound z (vacate_all z ks t) (push_all ks fr)
  vacate_all_sound [] t fr o once busy = o
  vacate_all_sound (k ∷ ks) t fr o once busy = vacate_all_sound ks (vacate z t k) (k ∷ fr)
      (vacate_sound t fr k o (busy k (rw (same k) (omega arith)))) (λ j. omega (arith, once j))
      (λ j c. rw (vacate_slots z t k) (bool (eqb j k)
      (λ e. let i : 1 + occurs j ks ≤ 1 = rw e at (once j) in absurd (omega arith))
      (λ e. rw e (busy j (omega arith)))))

  module _ (f : ℕ → Slot) (busy_mark : (g : ℕ) → is_busy (f g) ≡ true) (same_mark : (g : ℕ) → generation (f g) ≡ g) where
    good_mark : (t : Table) (fr : List ℕ) → Sound z t fr → (k : ℕ) → is_absent (t.slots k) ≡ false
        → (1 ≤ generation (f (generation (t.slots k)))) × (generation (f (generation (t.slots k))) ≤ generation_limit)
    good_mark t fr o k e = rw (same_mark (generation (t.slots k))) (good_of t fr o k e)

    pub keep_sound : (t : Table) (fr : List ℕ) (k : ℕ) → Sound z t fr → is_busy (t.slots k) ≡ true → Sound z (keep z f t k) fr
    keep_sound t fr k o was = place_busy t fr k (f (generation (t.slots k))) o was (busy_mark (generation (t.slots k)))
        (good_mark t fr o k (busy_there (t.slots k) was))

    pub keep_all_sound : (ks : List ℕ) (t : Table) (fr : List ℕ) → Sound z t fr → ((j : ℕ) → 0 < occurs j ks → is_busy (t.slots j) ≡ true)
        → Sound z (keep_all z f ks t) fr
    keep_all_sound [] t fr o busy = o
    keep_all_sound (k ∷ ks) t fr o busy = keep_all_sound ks (keep z f t k) fr (keep_sound t fr k o (busy k (rw (same k) (omega arith))))
        (λ j c. keep_busy z f busy_mark t k j (busy j (omega arith)))

    keep_all_taken : (ks : List ℕ) (t : Table) (fr : List ℕ) → Sound z t (ks ++ fr) → Sound z (keep_all z f ks t) fr
    keep_all_taken [] t fr o = o
    keep_all_taken (k ∷ ks) t fr o =
        let h : 1 + occurs k (ks ++ fr) ≡ bit (is_vacant (t.slots k)) = rw (same k) at (o.free k) in
        let v : is_vacant (t.slots k) ≡ true = bit_true (is_vacant (t.slots k)) (omega arith) in
        keep_all_taken ks (keep z f t k) fr (place_taken t (ks ++ fr) k (f (generation (t.slots k))) o (busy_mark (generation (t.slots k)))
        (good_mark t (k ∷ (ks ++ fr)) o k (vacant_there (t.slots k) v)))

    pub take_free_sound : (n : ℕ) (t : Table) → Sound z t t.free → Sound z (take_free z n f t) (take_free z n f t).free
    take_free_sound n t o = order_is z (take_free z n f t) (drop n t.free) (take_free z n f t).free (sym (take_free_free z n f t)) (unfold take_free in
        keep_all_taken (take n t.free) (with_free t (drop n t.free)) (drop n t.free)
        (order_is z (with_free t (drop n t.free)) t.free (take n t.free ++ drop n t.free) (sym (take-append-drop n t.free))
        (with_order z t t.free o (drop n t.free))))

  pub fill_all_sound : (ks : List ℕ) (hs : List Handle) (t : Table) (fr : List ℕ) → Sound z t fr
      → ((j : ℕ) → 0 < occurs j ks → is_busy (t.slots j) ≡ true)
      → Sound z (fill_all z ks hs t) fr
  fill_all_sound [] hs t fr o busy = o
  fill_all_sound (k ∷ ks) [] t fr o busy = o
  fill_all_sound (k ∷ ks) (h ∷ hs) t fr o busy = fill_all_sound ks hs (keep z (λ g. occupied g h) t k) fr
      (keep_sound (λ g. occupied g h) (λ g. refl) (λ g. refl) t fr k o (busy k (rw (same k) (omega arith))))
      (λ j c. keep_busy z (λ g. occupied g h) (λ g. refl) t k j (busy j (omega arith)))

  -- with the table's own free order
  pub place_good : (t : Table) (k : ℕ) (x : Slot) → Sound z t t.free → is_busy (t.slots k) ≡ true → is_busy x ≡ true
      → (1 ≤ generation x) × (generation x ≤ generation_limit) → Sound z (place z t k x) (place z t k x).free
  place_good t k x o was now g = order_is z (place z t k x) t.free (place z t k x).free (sym (place_free z t k x)) (place_busy t t.free k x o was now g)

  pub keep_good : (f : ℕ → Slot) → ((g : ℕ) → is_busy (f g) ≡ true) → ((g : ℕ) → generation (f g) ≡ g) → (t : Table) (k : ℕ) → Sound z t t.free
      → is_busy (t.slots k) ≡ true → Sound z (keep z f t k) (keep z f t k).free
  keep_good f p q t k o was = order_is z (keep z f t k) t.free (keep z f t k).free (sym (place_free z t k (f (generation (t.slots k)))))
      (keep_sound f p q t t.free k o was)

  pub take_good : (t : Table) (k : ℕ) (ks : List ℕ) → t.free ≡ k ∷ ks → Sound z t t.free → (x : Slot) → is_busy x ≡ true
      → (1 ≤ generation x) × (generation x ≤ generation_limit) → Sound z (place z (with_free t ks) k x) (place z (with_free t ks) k x).free
  take_good t k ks first o x now g = order_is z (place z (with_free t ks) k x) ks (place z (with_free t ks) k x).free (sym (place_free z (with_free t ks) k x))
      (place_taken (with_free t ks) ks k x (with_order z t (k ∷ ks) (order_is z t t.free (k ∷ ks) first o) ks) now g)

  pub vacate_good : (t : Table) (k : ℕ) → Sound z t t.free → is_busy (t.slots k) ≡ true → Sound z (vacate z t k) (vacate z t k).free
  vacate_good t k o e = order_is z (vacate z t k) (k ∷ t.free) (vacate z t k).free (sym (vacate_free z t k)) (vacate_sound t t.free k o e)

  pub vacate_all_good : (t : Table) (ks : List ℕ) → Sound z t t.free → ((j : ℕ) → occurs j ks ≤ 1)
      → ((j : ℕ) → 0 < occurs j ks → is_busy (t.slots j) ≡ true) → Sound z (vacate_all z ks t) (vacate_all z ks t).free
  vacate_all_good t ks o once marked = order_is z (vacate_all z ks t) (push_all ks t.free) (vacate_all z ks t).free (sym (vacate_all_free z ks t))
      (vacate_all_sound ks t t.free o once marked)

  pub fill_all_good : (t : Table) (ks : List ℕ) (hs : List Handle) → Sound z t t.free → ((j : ℕ) → 0 < occurs j ks → is_busy (t.slots j) ≡ true)
      → Sound z (fill_all z ks hs t) (fill_all z ks hs t).free
  fill_all_good t ks hs o marked = order_is z (fill_all z ks hs t) t.free (fill_all z ks hs t).free (sym (fill_all_free z ks hs t))
      (fill_all_sound ks hs t t.free o marked)

  pub restore_all_good : (t : Table) (es : List Entry) → Sound z t t.free → ((j : ℕ) → 0 < occurs j (moved_of es) → is_busy (t.slots j) ≡ true)
      → Sound z (restore_all z es t) (restore_all z es t).free
  restore_all_good t es o marked = rw (restore_all_is z es t) (fill_all_good t (moved_of es) (moved_handles es) o marked)

  pub attach_sound : (t : Table) (fr : List ℕ) (p f : ℕ) → Sound z t fr → Room t p → Sound z (attach z t p f) (push_all (page_range z p) fr)
  unfolding attach
  attach_sound t fr p f o r =
      let g : ℕ = next_generation (t.pages p).high in
      let good : (1 ≤ g) × (g ≤ generation_limit) = next_range (t.pages p).high in
      let n : ℕ = pick (eqb p t.size) (suc t.size) t.size in
      let grows : (q : ℕ) → (q ≡ p → ⊥) → ltb q n ≡ ltb q t.size = λ q y. bool (eqb p t.size)
      (λ e. rw e (bool (ltb q t.size)
      (λ l. rw l (lt-ltb q (suc t.size) (omega (arith, ltb-true q t.size l))))
      (λ l. let m : t.size ≤ q = ltb-false q t.size l in
      rw l (le-ltb q (suc t.size) (let i : p ≡ t.size = eqb-true p t.size e in let y' : q ≡ p → ⊥ = y in omega arith)))))
      (λ e. rw e) in
      let larger : t.size ≤ n = bool (eqb p t.size) (λ e. rw e (omega arith)) (λ e. rw e (omega arith)) in
      let holds : p < n = bool (eqb p t.size) (λ e. rw e (omega (arith, r.next)))
      (λ e. let y : p ≡ t.size → ⊥ = eqb-false p t.size e in rw e (omega (arith, r.next))) in
      record {
        limit = o.limit;
        size = bool (eqb p t.size) (λ e. rw e (omega (arith, r.within, eqb-true p t.size e))) (λ e. rw e o.size);
        epoch = o.epoch;
        high = λ q l. bool (eqb q p)
            (λ e. rw e good)
            (λ e. rw e (o.high q (ltb-true q t.size (sym (grows q (eqb-false q p e)) ∙ lt-ltb q n l))));
        rest = λ q l. rw (ne_eqb q p (λ y. omega arith)) (o.rest q (omega arith));
        there = λ k. bool (on_page z p k)
            (λ e. rw (e, and_left (eqb (page_of z k) p) (ltb k max_slots) e, and_right (eqb (page_of z k) p) (ltb k max_slots) e))
            (λ e. rw e (bool (eqb (page_of z k) p)
            (λ q. let l : ltb k max_slots ≡ false = rw q at e in rw (q, l, absent_past z t fr o k l))
            (λ q. rw q (o.there k))));
        free = λ k. occurs_push k (page_range z p) fr ∙ rw (occurs_page z sane p k) (bool (on_page z p k)
            (λ e. let i : page_of z k ≡ p = eqb-true (page_of z k) p (and_left (eqb (page_of z k) p) (ltb k max_slots) e) in
            let v : occurs k fr ≡ 0 = o.free k ∙ rw (absent_out z t fr o k (rw i r.out)) in rw e (omega arith))
            (λ e. rw e (omega (arith, o.free k))));
        empty = λ q. bool (eqb q p)
            (λ e. let i : occurs q t.empty ≡ 0 = rw (eqb-true q p e) (o.empty p ∙ rw r.out) in
            rw (e, eqb-true q p e, busy_none z sane (λ k. pick (on_page z p k) (vacant g) (t.slots k)) p (λ j y. rw y)) (omega arith))
            (λ e. let y : q ≡ p → ⊥ = eqb-false q p e in
            rw (e, busy_other z sane (λ k. pick (on_page z p k) (vacant g) (t.slots k)) t.slots q (λ j i l. rw (i, e)))
            (omega (arith, o.empty q)));
        detached = λ q. occurs_without q p t.detached ∙ bool (eqb q p)
            (λ e. rw (e, and-false (ltb q n)))
            (λ e. rw (e, grows q (eqb-false q p e)) (o.detached q));
        generations = λ k h. bool (on_page z p k)
            (λ e. rw (e, and_left (eqb (page_of z k) p) (ltb k max_slots) e) (good.0, good.1, omega arith))
            (λ e. rw e (bool (eqb (page_of z k) p)
            (λ q. let l : ltb k max_slots ≡ false = rw q at e in clash (ap is_absent (absent_past z t fr o k l)) (rw e at h))
            (λ q. rw q (o.generations k (rw e at h)))));
      }

  -- an empty page is detached
  pub detach_sound : (t : Table) (fr : List ℕ) (p : ℕ) → Sound z t fr → is_attached t p ≡ true → Sound z (detach z t p) (drop_if (on_page z p) fr)
  unfolding detach
  detach_sound t fr p o att =
      let under : p < t.size = attached_below z t fr o p att in
      record {
        limit = o.limit;
        size = o.size;
        epoch = mod-lt (t.epoch + 1) (omega arith);
        high = λ q l. bool (eqb q p) (λ e. rw e (o.high p under)) (λ e. rw e (o.high q l));
        rest = λ q l. rw (ne_eqb q p (λ y. omega arith)) (o.rest q l);
        there = λ k. bool (on_page z p k)
            (λ e. rw (e, and_left (eqb (page_of z k) p) (ltb k max_slots) e))
            (λ e. rw e (bool (eqb (page_of z k) p)
            (λ q. let l : ltb k max_slots ≡ false = rw q at e in rw (q, absent_past z t fr o k l))
            (λ q. rw q (o.there k))));
        free = λ k. occurs_drop_if (on_page z p) k fr ∙ bool (on_page z p k) (λ e. rw e) (λ e. rw e (o.free k));
        empty = λ q. occurs_without q p t.empty ∙ bool (eqb q p)
            (λ e. rw e)
            (λ e. rw (e, busy_other z sane (λ k. pick (on_page z p k) absent (t.slots k)) t.slots q (λ j i l. rw (i, e))) (o.empty q));
        detached = λ q. bool (eqb q p)
            (λ e. let i : occurs q t.detached ≡ 0 = rw (eqb-true q p e) (o.detached p ∙ rw (att, and-false (ltb p t.size))) in
            rw (e, eqb-true q p e, lt-ltb p t.size under) (omega arith))
            (λ e. rw e (omega (arith, o.detached q)));
        generations = λ k h. bool (on_page z p k)
            (λ e. clash {b = true} refl (rw e at h))
            (λ e. rw e (bool (eqb (page_of z k) p)
            (λ q. let l : ltb k max_slots ≡ false = rw q at e in clash (ap is_absent (absent_past z t fr o k l)) (rw e at h))
            (λ q. rw q (o.generations k (rw e at h)))));
      }
