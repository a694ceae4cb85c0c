-- A table whose first free slot is taken, as it is seen, is the model's. Assumes nothing.
use Rattle.std.specs.Prelude.{◌≡◌, true, false, eqb, ltb}
use Rattle.std.proofs.Math.Path.{refl, sym, ap}
use Rattle.std.proofs.Common.{◌∙◌}
use mathlib.Core.List.{List, [], ◌∷◌}
use Prim.Native.Nat.{ℕ, suc, ◌+◌, ◌/◌, ◌≤◌, ◌<◌}
use native.Mathlib.Omega.{arith}
use Rattle.std.proofs.Math.ListN.{length}
use borrow.Author.Tests.{eqb-true, eqb-false, eq-eqb, ne_eqb}
use Rattle.words.specs.Pick.{bool, clash}
use Rattle.model.specs.Base.{put, bit, occurs, is_some}
use Rattle.model.specs.State.{till, Slot, Slot.reserved, Table, generation, is_busy, is_vacant, is_absent}
use Rattle.model.specs.Storage.{with_free, busy_of, place, keep}
use Rattle.model.proofs.Bounds.{busy_small}
use Rattle.model.specs.WellFormed.{is_attached}
use Rattle.model.proofs.Tests.{and-false}
use Rattle.model.proofs.Sums.{without_none}
use Rattle.invariant.proofs.Pointwise.{place_alike, place_slots}
use Rattle.invariant.proofs.Pages.{till_sane, vacant_there, busy_own, busy_other, vacant_idle}
use Rattle.invariant.proofs.Orders.{Sound, attached_below, attached_of, below_of}
use Rattle.layout.specs.Layout.{Mem, row}
use Rattle.layout.specs.Fields.{head_first_free, head_free_slots, head_first_empty, head_first_detached, entry_high, entry_busy, entry_next, entry_previous, slot_tag, slot_generation, slot_next_free, slot_previous_free, slot_place, slot_position, slot_flags, row_id}
use Rattle.layout.specs.Values.{tag_vacant, tag_reserved}
use Rattle.layout.specs.Sizes.{page_size}
use Rattle.representation.specs.Represents.{link_of, tagged, Chain}
use Rattle.storage.specs.Order.{occurs_head, chain_unlink, chain_out, chain_before, next_in, linked_frame}
use Rattle.storage.specs.Sight.{Spot, Spot.hd, Spot.pg, Spot.sl, puts}
use Rattle.storage.specs.Slots.{frame_v, framed, slot_v, Seen, framed_is, slot_there, slot_gen, vacant_tag, free_vacant, empty_attached}
use Rattle.storage.specs.Ops.{up, reserve_p, mark_p, leave_p}
use Rattle.storage.specs.Vacate.{mark_v}

abbrev pub reserve_v : (Spot → ℕ) → ℕ → ℕ → ℕ → Spot → ℕ
reserve_v v k r j = puts v (reserve_p v k r j)

abbrev pub leave_v : (Spot → ℕ) → ℕ → Spot → ℕ
leave_v v p = puts v (leave_p v p)

-- the links of the pages are not touched by the first two
pub page_links : (v : Spot → ℕ) (k r j p q g n f : ℕ) → entry_next ≤ f → mark_v (reserve_v v k r j) p g n (pg q f) ≡ v (pg q f)
unfolding reserve_p mark_p
page_links v k r j p q g n f h = rw (ne_eqb f entry_high (λ e. omega arith), ne_eqb f entry_busy (λ e. omega arith))

-- the words of slot k then
abbrev pub reserved_words : (Spot → ℕ) → ℕ → ℕ → ℕ → ℕ → ℕ
reserved_words v k r j f = reserve_v v k r j (sl k f)

pub take_own : (v : Spot → ℕ) (k r j f : ℕ)
    → (mark_v (reserve_v v k r j) (k / page_size) (v (sl k slot_generation)) (up (reserve_v v k r j (pg (k / page_size) entry_busy))) (sl k f) ≡ reserved_words v k r j f)
    × (leave_v (mark_v (reserve_v v k r j) (k / page_size) (v (sl k slot_generation)) (up (reserve_v v k r j (pg (k / page_size) entry_busy)))) (k / page_size) (sl k f) ≡ reserved_words v k r j f)
unfolding reserve_p mark_p leave_p
take_own v k r j f = (refl, refl)

-- its mark
pub reserved_mark : (v : Spot → ℕ) (k r j : ℕ) → (reserved_words v k r j slot_tag ≡ tag_reserved) × (reserved_words v k r j slot_place ≡ r) × (reserved_words v k r j slot_position ≡ j)
unfolding reserve_p
reserved_mark v k r j = (rw (eq-eqb (suc k) (suc k) refl), rw (eq-eqb (suc k) (suc k) refl), rw (eq-eqb (suc k) (suc k) refl))

-- the table after its first free slot k was Reserved by the row of an id
abbrev pub taken : Table → ℕ → List ℕ → ℕ → Table
taken t k l i = keep till (λ g. reserved g i) (with_free t l) k

module _ (m : Mem) (v : Spot → ℕ) (t : Table) (z : Seen m v t) (o : Sound till t t.free) (k : ℕ) (l : List ℕ) (first : t.free ≡ k ∷ l) (r j : ℕ) where
  free_at : Chain (λ i. v (sl i slot_next_free)) (λ i. v (sl i slot_previous_free)) (v (hd head_first_free)) 0 (k ∷ l)
  free_at = rw first at z.free

  free_in_law : 0 < occurs k t.free
  free_in_law = rw first (occurs_head k l)

  was : is_vacant (t.slots k) ≡ true
  was = free_vacant t o k free_in_law

  here : is_absent (t.slots k) ≡ false
  here = vacant_there (t.slots k) was

  idle : is_busy (t.slots k) ≡ false
  idle = vacant_idle (t.slots k) was

  gen : generation (t.slots k) ≡ v (sl k slot_generation)
  gen = slot_gen m v t z k here

  att : is_attached t (k / page_size) ≡ true
  att = attached_of till t t.free o k here

  under : k / page_size < t.size
  under = attached_below till t t.free o (k / page_size) att

  -- the slot after it in the order is vacant
  pub next_vacant : (i : ℕ) → v (sl k slot_next_free) ≡ suc i → is_vacant (t.slots i) ≡ true
  next_vacant i e = free_vacant t o i (rw first (next_in (λ x. v (sl x slot_next_free)) (λ x. v (sl x slot_previous_free)) (v (hd head_first_free)) 0 (k ∷ l) k i free_at (occurs_head k l) e))

  abbrev x : Slot
  x = reserved (generation (t.slots k)) (m (row r row_id))

  abbrev u : Table
  u = taken t k l (m (row r row_id))

  abbrev w₁ : Spot → ℕ
  w₁ = reserve_v v k r j

  abbrev w₂ : Spot → ℕ
  w₂ = mark_v w₁ (k / page_size) (v (sl k slot_generation)) (up (w₁ (pg (k / page_size) entry_busy)))

  count : up (v (pg (k / page_size) entry_busy)) ≡ busy_of till (put t.slots k x) (k / page_size)
  count = let h : busy_of till (put t.slots k x) (k / page_size) + bit (is_busy (t.slots k)) ≡ busy_of till t.slots (k / page_size) + 1
      = busy_own till till_sane t.slots k x (below_of till t t.free o k here) in
      omega (arith, h, ap bit idle, z.busy (k / page_size) under att, busy_small till t.slots (k / page_size))

  kept : (p : ℕ) → (p ≡ k / page_size → ⊥) → busy_of till (put t.slots k x) p ≡ busy_of till t.slots p
  kept p n = busy_other till till_sane (put t.slots k x) t.slots p (λ i e h. rw (ne_eqb i k (λ y. n (sym e ∙ ap (λ (a : ℕ). a / page_size) y))))

  attached_same : (p : ℕ) → is_attached u p ≡ is_attached t p
  attached_same p = ap is_some ((place_alike till (with_free t l) k x).frame p)

  taken_slots : (i : ℕ) → slot_v m w₁ i ≡ u.slots i
  unfolding reserve_p place
  taken_slots i = bool (eqb i k)
      (λ e. rw (e, eqb-true i k e, eq-eqb (suc k) (suc k) refl, gen) (framed_is (frame_v v k) (reserved (v (sl k slot_generation)) (m (row r row_id))) (slot_there m v t z k here)))
      (λ e. rw (e, ne_eqb (suc k) (suc i) (λ y. eqb-false i k e (omega arith))) (bool (eqb (v (sl k slot_next_free)) (suc i))
      (λ d. let q : v (sl i slot_tag) ≡ tag_vacant = vacant_tag m v t z i (next_vacant i (eqb-true (v (sl k slot_next_free)) (suc i) d)) in
      let y : framed (frame_v v i) (tagged m 0 (v (sl i slot_generation)) (v (sl i slot_next_free)) (v (sl i slot_previous_free)) (v (sl i slot_flags))) ≡ t.slots i = rw q at (z.slots i) in
      rw (d, q) y)
      (λ d. rw d (z.slots i))))

  taken_free : Chain (λ i. w₁ (sl i slot_next_free)) (λ i. w₁ (sl i slot_previous_free)) (w₁ (hd head_first_free)) 0 l
  unfolding reserve_p
  taken_free = chain_unlink (λ i. v (sl i slot_next_free)) (λ i. v (sl i slot_previous_free)) _ _ k (v (hd head_first_free)) 0 (v (sl k slot_next_free)) [] l (record {
    next_at = λ i n p. absurd (omega (arith, free_at.1));
    next_off = λ i n p. rw (ne_eqb (suc k) (suc i) (λ y. n (omega arith)));
    prev_at = λ i n p. rw (ne_eqb (suc k) (suc i) (λ y. n (omega arith)), eq-eqb (v (sl k slot_next_free)) (suc i) p) (sym free_at.1);
    prev_off = λ i n p. rw (ne_eqb (suc k) (suc i) (λ y. n (omega arith)), ne_eqb (v (sl k slot_next_free)) (suc i) p);
  }) free_at (λ i p. absurd (omega arith)) (λ p. refl) (λ p. absurd (p free_at.1))

  taken_count : w₁ (hd head_free_slots) ≡ length l
  unfolding reserve_p
  taken_count = omega (arith, z.free_count, ap length first)

  taken_high : (p : ℕ) → p < t.size → w₂ (pg p entry_high) ≡ (u.pages p).high
  unfolding place reserve_p mark_p
  taken_high p h = bool (eqb p (k / page_size))
      (λ e. rw (e, eqb-true p (k / page_size) e, eq-eqb (suc (k / page_size)) (suc (k / page_size)) refl, gen, z.high (k / page_size) under))
      (λ e. rw (e, ne_eqb (suc (k / page_size)) (suc p) (λ y. eqb-false p (k / page_size) e (omega arith))) (z.high p h))

  taken_busy : (p : ℕ) → p < t.size → is_attached u p ≡ true → w₂ (pg p entry_busy) ≡ busy_of till u.slots p
  unfolding reserve_p mark_p
  taken_busy p h a = bool (eqb p (k / page_size))
      (λ e. rw (eqb-true p (k / page_size) e, eq-eqb (suc (k / page_size)) (suc (k / page_size)) refl) count)
      (λ e. rw (ne_eqb (suc (k / page_size)) (suc p) (λ y. eqb-false p (k / page_size) e (omega arith)))
      (z.busy p h (sym (attached_same p) ∙ a) ∙ sym (kept p (eqb-false p (k / page_size) e))))
      ∙ sym (ap (λ (f : ℕ → Slot). busy_of till f p) (place_slots till (with_free t l) k x))

  pub take_others : (i f : ℕ) → (i ≡ k → ⊥) → is_vacant (t.slots i) ≡ false → (w₂ (sl i f) ≡ v (sl i f)) × (leave_v w₂ (k / page_size) (sl i f) ≡ v (sl i f))
  unfolding reserve_p mark_p leave_p
  take_others i f n full =
      let far : v (sl k slot_next_free) ≡ suc i → ⊥ = λ e. clash (next_vacant i e) full in
      let e : w₂ (sl i f) ≡ v (sl i f) = rw (ne_eqb (suc k) (suc i) (λ y. n (omega arith)), ne_eqb (v (sl k slot_next_free)) (suc i) far, and-false (eqb f slot_tag), and-false (eqb f slot_place), and-false (eqb f slot_previous_free)) in
      (e, e)

  -- other slots of the page were busy
  pub take_some : eqb (w₁ (pg (k / page_size) entry_busy)) 0 ≡ false → Seen m w₂ u
  unfolding place reserve_p mark_p
  take_some n = record {
    limit = z.limit;
    mask = z.mask;
    life = z.life;
    epoch = z.epoch;
    size = z.size;
    frame = λ p h. z.frame p h ∙ ap link_of (sym ((place_alike till (with_free t l) k x).frame p));
    high = taken_high;
    busy = taken_busy;
    slots = taken_slots;
    free = taken_free;
    free_count = taken_count;
    empty =
        let some : busy_of till t.slots (k / page_size) ≡ 0 → ⊥ = λ e. eqb-false (v (pg (k / page_size) entry_busy)) 0 n (z.busy (k / page_size) under att ∙ e) in
        let out : occurs (k / page_size) t.empty ≡ 0 = o.empty (k / page_size) ∙ rw (att, ne_eqb (busy_of till t.slots (k / page_size)) 0 some) in
        rw (idle, without_none (k / page_size) t.empty out) z.empty;
    detached = z.detached;
  }

  -- none was: the page is not empty any more
  module _ (n : eqb (w₁ (pg (k / page_size) entry_busy)) 0 ≡ true) where
    empty_in : 0 < occurs (k / page_size) t.empty
    unfolding reserve_p
    empty_in = let q : busy_of till t.slots (k / page_size) ≡ 0 = sym (z.busy (k / page_size) under att) ∙ eqb-true (v (pg (k / page_size) entry_busy)) 0 n in
        let i : occurs (k / page_size) t.empty ≡ 1 = o.empty (k / page_size) ∙ rw (att, q) in
        omega arith

    -- the pages before and after it in the order
    pub before_in : (q : ℕ) → v (pg (k / page_size) entry_previous) ≡ suc q → 0 < occurs q t.empty
    before_in q e = chain_before (λ p. v (pg p entry_next)) (λ p. v (pg p entry_previous)) (v (hd head_first_empty)) t.empty (k / page_size) q z.empty empty_in e

    pub after_in : (q : ℕ) → v (pg (k / page_size) entry_next) ≡ suc q → 0 < occurs q t.empty
    after_in q e = next_in (λ p. v (pg p entry_next)) (λ p. v (pg p entry_previous)) (v (hd head_first_empty)) 0 t.empty (k / page_size) q z.empty empty_in e

    not_detached : (q : ℕ) → 0 < occurs q t.detached → v (pg (k / page_size) entry_previous) ≡ suc q → ⊥
    not_detached q h e =
        let a : is_attached t q ≡ true = empty_attached t o q (before_in q e) in
        let i : occurs q t.detached ≡ 0 = o.detached q ∙ rw (a, and-false (ltb q t.size)) in
        omega arith

    pub take_none : Seen m (leave_v w₂ (k / page_size)) u
    unfolding place reserve_p mark_p leave_p
    take_none = record {
      limit = z.limit;
      mask = z.mask;
      life = z.life;
      epoch = z.epoch;
      size = z.size;
      frame = λ p h. z.frame p h ∙ ap link_of (sym ((place_alike till (with_free t l) k x).frame p));
      high = taken_high;
      busy = taken_busy;
      slots = taken_slots;
      free = taken_free;
      free_count = taken_count;
      empty = rw idle (chain_out (λ p. v (pg p entry_next)) (λ p. v (pg p entry_previous)) (k / page_size) (v (hd head_first_empty)) t.empty z.empty empty_in);
      detached = linked_frame (λ p. v (pg p entry_next)) _ (v (hd head_first_detached)) t.detached z.detached
          (λ q h. rw (ne_eqb (v (pg (k / page_size) entry_previous)) (suc q) (not_detached q h)));
    }
