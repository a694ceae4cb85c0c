-- A table whose busy slot falls vacant, as it is seen, is the model's. Assumes nothing.
use Rattle.std.specs.Prelude.{◌≡◌, true, false, ◌∷◌, length, eqb, ltb}
use Rattle.std.proofs.Math.Path.{refl, sym, ap}
use Rattle.std.proofs.Common.{subst, ◌∙◌, arith}
use Prim.Native.Nat.{ℕ, suc, ◌+◌, ◌-◌, ◌/◌, ◌≤◌, ◌<◌, min}
use borrow.Author.Tests.{eqb-true, eqb-false, eq-eqb, ne_eqb}
use Rattle.words.specs.Pick.{bool, clash}
use Rattle.codec.specs.Codec.{next_generation}
use Rattle.model.specs.Base.{put, bit, occurs, is_some}
use Rattle.model.specs.State.{Sizes, till, Slot, Slot.vacant, Table, generation, is_busy, is_vacant, is_absent, max_slots}
use Rattle.model.specs.Storage.{busy_of, place, vacate}
use Rattle.model.specs.WellFormed.{is_attached}
use Rattle.model.proofs.Tests.{and-false, bit_small}
use Rattle.model.proofs.Bounds.{slots_max_law}
use Rattle.invariant.proofs.Pointwise.{place_alike, vacate_slots}
use Rattle.invariant.proofs.Pages.{till_sane, busy_there, busy_vacant, vacant_there, busy_own, busy_other}
use Rattle.invariant.proofs.Orders.{Sound, attached_below, attached_of, below_of}
use Rattle.layout.specs.Layout.{Mem}
use Rattle.layout.specs.Fields.{head_first_free, head_free_slots, head_first_empty, head_first_detached, entry_high, entry_busy, entry_next, entry_previous, slot_tag, slot_generation, slot_next_free, slot_previous_free, slot_flags}
use Rattle.layout.specs.Values.{tag_vacant}
use Rattle.layout.specs.Sizes.{page_size}
use Rattle.representation.specs.Represents.{link_of, tagged, Chain}
use Rattle.storage.specs.Order.{chain_push, head_in, linked_frame, length_below}
use Rattle.storage.specs.Sight.{Spot, Spot.hd, Spot.pg, Spot.sl, puts}
use Rattle.storage.specs.Slots.{frame_v, framed, slot_v, Seen, framed_is, slot_there, slot_gen, vacant_tag, free_vacant}
use Rattle.storage.specs.Ops.{publish_p, mark_p, join_p}

-- what the table shows after each part
abbrev pub publish_v : (Spot → ℕ) → ℕ → ℕ → Spot → ℕ
publish_v v k g = puts v (publish_p v k g)

abbrev pub mark_v : (Spot → ℕ) → ℕ → ℕ → ℕ → Spot → ℕ
mark_v v p g n = puts v (mark_p v p g n)

abbrev pub join_v : (Spot → ℕ) → ℕ → Spot → ℕ
join_v v p = puts v (join_p v p)

-- the empty order is not touched by the first two
pub first_empty : (v : Spot → ℕ) (k g p h n : ℕ) → mark_v (publish_v v k g) p h n (hd head_first_empty) ≡ v (hd head_first_empty)
unfolding publish_p mark_p
first_empty v k g p h n = refl

-- the words of slot k then
abbrev pub vacated_words : (Spot → ℕ) → ℕ → ℕ → ℕ
vacated_words v k f = publish_v v k (next_generation (v (sl k slot_generation))) (sl k f)

pub vacate_own : (v : Spot → ℕ) (k f : ℕ)
    → (mark_v (publish_v v k (next_generation (v (sl k slot_generation)))) (k / page_size) (next_generation (v (sl k slot_generation))) (publish_v v k (next_generation (v (sl k slot_generation))) (pg (k / page_size) entry_busy) - 1) (sl k f) ≡ vacated_words v k f)
    × (join_v (mark_v (publish_v v k (next_generation (v (sl k slot_generation)))) (k / page_size) (next_generation (v (sl k slot_generation))) (publish_v v k (next_generation (v (sl k slot_generation))) (pg (k / page_size) entry_busy) - 1)) (k / page_size) (sl k f) ≡ vacated_words v k f)
unfolding publish_p mark_p join_p
vacate_own v k f = (refl, refl)

-- the free order is not longer than the table may be
pub free_short : {z : Sizes} (t : Table) → Sound z t t.free → length t.free ≤ max_slots
free_short {z} t o = length_below max_slots t.free
    (λ x. omega (arith, o.free x, bit_small (is_vacant (t.slots x))))
    (λ x h. below_of z t t.free o x (vacant_there (t.slots x) (free_vacant t o x h)))

module _ (m : Mem) (v : Spot → ℕ) (t : Table) (z : Seen m v t) (o : Sound till t t.free) (k g : ℕ) where
  -- publish a slot that is there and is not vacant
  module _ (here : is_absent (t.slots k) ≡ false) (full : is_vacant (t.slots k) ≡ false) where
    publish_slots : (j : ℕ) → slot_v m (publish_v v k g) j ≡ put t.slots k (vacant g) j
    unfolding publish_p
    publish_slots j = bool (eqb j k)
        (λ e. rw (e, eqb-true j k e, eq-eqb (suc k) (suc k) refl) (framed_is (frame_v v k) (vacant g) (slot_there m v t z k here)))
        (λ e. rw (e, ne_eqb (suc k) (suc j) (λ y. eqb-false j k e (omega arith))) (bool (eqb (v (hd head_first_free)) (suc j))
        (λ d. let i = free_vacant t o j (head_in (λ i. v (sl i slot_next_free)) (λ i. v (sl i slot_previous_free)) (v (hd head_first_free)) 0 t.free j z.free (eqb-true (v (hd head_first_free)) (suc j) d)) in
        let q : v (sl j slot_tag) ≡ tag_vacant = vacant_tag m v t z j i in
        let y : framed (frame_v v j) (tagged m 0 (v (sl j slot_generation)) (v (sl j slot_next_free)) (v (sl j slot_previous_free)) (v (sl j slot_flags))) ≡ t.slots j = rw q at (z.slots j) in
        rw (d, q) y)
        (λ d. rw d (z.slots j))))

    publish_free : Chain (λ j. publish_v v k g (sl j slot_next_free)) (λ j. publish_v v k g (sl j slot_previous_free)) (publish_v v k g (hd head_first_free)) 0 (k ∷ t.free)
    unfolding publish_p
    publish_free =
        let link : min (k + 1) 0xffff_ffff_ffff_ffff ≡ suc k = omega (arith, below_of till t t.free o k here, slots_max_law) in
        let out : occurs k t.free ≡ 0 = o.free k ∙ ap bit full in
        subst (λ (h : ℕ). Chain (λ j. publish_v v k g (sl j slot_next_free)) (λ j. publish_v v k g (sl j slot_previous_free)) h 0 (k ∷ t.free)) (sym link) (chain_push (λ j. v (sl j slot_next_free)) (λ j. v (sl j slot_previous_free)) (λ j. publish_v v k g (sl j slot_next_free)) (λ j. publish_v v k g (sl j slot_previous_free)) (v (hd head_first_free)) k t.free (record {
          next_at = rw (eq-eqb (suc k) (suc k) refl);
          next_off = λ j n. rw (ne_eqb (suc k) (suc j) (λ y. n (omega arith)));
          prev_at = rw (eq-eqb (suc k) (suc k) refl);
          prev_head = λ j n q. rw (ne_eqb (suc k) (suc j) (λ y. n (omega arith)), eq-eqb (v (hd head_first_free)) (suc j) q) link;
          prev_off = λ j n q. rw (ne_eqb (suc k) (suc j) (λ y. n (omega arith)), ne_eqb (v (hd head_first_free)) (suc j) q);
        }) z.free out)

    publish_count : publish_v v k g (hd head_free_slots) ≡ suc (length t.free)
    unfolding publish_p
    publish_count = omega (arith, z.free_count, free_short t o, slots_max_law)

  -- no other slot changes, save vacant ones
  publish_others : (j f : ℕ) → (j ≡ k → ⊥) → is_vacant (t.slots j) ≡ false → publish_v v k g (sl j f) ≡ v (sl j f)
  unfolding publish_p
  publish_others j f n full =
      let far : v (hd head_first_free) ≡ suc j → ⊥ = λ e. clash (free_vacant t o j (head_in (λ i. v (sl i slot_next_free)) (λ i. v (sl i slot_previous_free)) (v (hd head_first_free)) 0 t.free j z.free e)) full in
      rw (ne_eqb (suc k) (suc j) (λ y. n (omega arith)), ne_eqb (v (hd head_first_free)) (suc j) far, and-false (eqb f 0), and-false (eqb f 1), and-false (eqb f 2), and-false (eqb f 3))

-- VACATE: the high mark rises to the new generation, the busy count goes down
module _ (m : Mem) (v : Spot → ℕ) (t : Table) (z : Seen m v t) (o : Sound till t t.free) (k : ℕ) (was : is_busy (t.slots k) ≡ true) where
  here : is_absent (t.slots k) ≡ false
  here = busy_there (t.slots k) was

  gen : next_generation (generation (t.slots k)) ≡ next_generation (v (sl k slot_generation))
  gen = ap next_generation (slot_gen m v t z k here)

  att : is_attached t (k / page_size) ≡ true
  att = attached_of till t t.free o k here

  under : k / page_size < t.size
  under = attached_below till t t.free o (k / page_size) att

  -- the page's busy slots then
  left : v (pg (k / page_size) entry_busy) - 1 ≡ busy_of till (put t.slots k (vacant (next_generation (generation (t.slots k))))) (k / page_size)
  left = let h : busy_of till (put t.slots k (vacant (next_generation (generation (t.slots k))))) (k / page_size) + bit (is_busy (t.slots k)) ≡ busy_of till t.slots (k / page_size) + 0
      = busy_own till till_sane t.slots k (vacant (next_generation (generation (t.slots k)))) (below_of till t t.free o k here) in
      let i : bit (is_busy (t.slots k)) ≡ 1 = ap bit was in
      omega (arith, h, i, z.busy (k / page_size) under att)

  kept : (p : ℕ) → (p ≡ k / page_size → ⊥) → busy_of till (put t.slots k (vacant (next_generation (generation (t.slots k))))) p ≡ busy_of till t.slots p
  kept p n = busy_other till till_sane (put t.slots k (vacant (next_generation (generation (t.slots k))))) t.slots p
      (λ j e l. rw (ne_eqb j k (λ y. n (sym e ∙ ap (λ (x : ℕ). x / page_size) y))))

  abbrev w₁ : Spot → ℕ
  w₁ = publish_v v k (next_generation (v (sl k slot_generation)))

  abbrev w₂ : Spot → ℕ
  w₂ = mark_v w₁ (k / page_size) (next_generation (v (sl k slot_generation))) (w₁ (pg (k / page_size) entry_busy) - 1)

  attached_same : (p : ℕ) → is_attached (vacate till t k) p ≡ is_attached t p
  unfolding vacate
  attached_same p = ap is_some ((place_alike till t k (vacant (next_generation (generation (t.slots k))))).frame p)

  marked_high : (p : ℕ) → p < t.size → w₂ (pg p entry_high) ≡ ((vacate till t k).pages p).high
  unfolding vacate place publish_p mark_p
  marked_high p h = bool (eqb p (k / page_size))
      (λ e. rw (e, eqb-true p (k / page_size) e, eq-eqb (suc (k / page_size)) (suc (k / page_size)) refl, gen, z.high (k / page_size) under))
      (λ e. rw (e, ne_eqb (suc (k / page_size)) (suc p) (λ y. eqb-false p (k / page_size) e (omega arith))) (z.high p h))

  marked_busy : (p : ℕ) → p < t.size → is_attached (vacate till t k) p ≡ true → w₂ (pg p entry_busy) ≡ busy_of till (vacate till t k).slots p
  unfolding publish_p mark_p
  marked_busy p h a = bool (eqb p (k / page_size))
      (λ e. rw (eqb-true p (k / page_size) e, eq-eqb (suc (k / page_size)) (suc (k / page_size)) refl) left)
      (λ e. rw (ne_eqb (suc (k / page_size)) (suc p) (λ y. eqb-false p (k / page_size) e (omega arith)))
      (z.busy p h (sym (attached_same p) ∙ a) ∙ sym (kept p (eqb-false p (k / page_size) e))))
      ∙ sym (ap (λ (f : ℕ → Slot). busy_of till f p) (vacate_slots till t k))

  -- the slots, the free order and its count
  vacated_slots : (j : ℕ) → slot_v m w₁ j ≡ (vacate till t k).slots j
  vacated_slots j = publish_slots m v t z o k (next_generation (v (sl k slot_generation))) here (busy_vacant (t.slots k) was) j
      ∙ ap (λ (g : ℕ). put t.slots k (vacant g) j) (sym gen) ∙ sym (ap (λ (f : ℕ → Slot). f j) (vacate_slots till t k))

  old_busy : 1 ≤ busy_of till t.slots (k / page_size)
  old_busy = let h : busy_of till (put t.slots k (vacant 0)) (k / page_size) + bit (is_busy (t.slots k)) ≡ busy_of till t.slots (k / page_size) + 0
      = busy_own till till_sane t.slots k (vacant 0) (below_of till t t.free o k here) in
      omega (arith, ap bit was)

  not_empty : occurs (k / page_size) t.empty ≡ 0
  not_empty = o.empty (k / page_size) ∙ rw (att, ne_eqb (busy_of till t.slots (k / page_size)) 0 (λ y. omega (arith, old_busy)))

  not_detached : (q : ℕ) → 0 < occurs q t.detached → q ≡ k / page_size → ⊥
  not_detached q h e = let i : occurs (k / page_size) t.detached ≡ 0 = o.detached (k / page_size) ∙ rw (att, and-false (ltb (k / page_size) t.size)) in
      omega (arith, ap (λ (x : ℕ). occurs x t.detached) e)

  pub vacate_others : (j f : ℕ) → (j ≡ k → ⊥) → is_vacant (t.slots j) ≡ false → (w₂ (sl j f) ≡ v (sl j f)) × (join_v w₂ (k / page_size) (sl j f) ≡ v (sl j f))
  unfolding mark_p join_p
  vacate_others j f n full = let e = publish_others m v t z o k (next_generation (v (sl k slot_generation))) j f n full in (e, e)

  -- other slots of the page are busy
  pub vacate_some : eqb (w₁ (pg (k / page_size) entry_busy) - 1) 0 ≡ false → Seen m w₂ (vacate till t k)
  unfolding vacate place publish_p mark_p
  vacate_some n = record {
    limit = z.limit;
    mask = z.mask;
    life = z.life;
    epoch = z.epoch;
    size = z.size;
    frame = λ p h. z.frame p h ∙ ap link_of (sym ((place_alike till t k (vacant (next_generation (generation (t.slots k))))).frame p));
    high = marked_high;
    busy = marked_busy;
    slots = vacated_slots;
    free = publish_free m v t z o k (next_generation (v (sl k slot_generation))) here (busy_vacant (t.slots k) was);
    free_count = publish_count m v t z o k (next_generation (v (sl k slot_generation))) here (busy_vacant (t.slots k) was);
    empty = rw (was, ← left, n) z.empty;
    detached = z.detached;
  }

  -- none is: the page is empty
  pub vacate_none : eqb (w₁ (pg (k / page_size) entry_busy) - 1) 0 ≡ true → Seen m (join_v w₂ (k / page_size)) (vacate till t k)
  unfolding vacate place publish_p mark_p join_p
  vacate_none n = record {
    limit = z.limit;
    mask = z.mask;
    life = z.life;
    epoch = z.epoch;
    size = z.size;
    frame = λ p h. z.frame p h ∙ ap link_of (sym ((place_alike till t k (vacant (next_generation (generation (t.slots k))))).frame p));
    high = marked_high;
    busy = marked_busy;
    slots = vacated_slots;
    free = publish_free m v t z o k (next_generation (v (sl k slot_generation))) here (busy_vacant (t.slots k) was);
    free_count = publish_count m v t z o k (next_generation (v (sl k slot_generation))) here (busy_vacant (t.slots k) was);
    empty = let link : min (k / page_size + 1) 0xffff_ffff_ffff_ffff ≡ suc (k / page_size) = omega (arith, below_of till t t.free o k here, slots_max_law) in
        rw (was, ← left, n) (subst (λ (h : ℕ). Chain (λ p. join_v w₂ (k / page_size) (pg p entry_next)) (λ p. join_v w₂ (k / page_size) (pg p entry_previous)) h 0 (k / page_size ∷ t.empty)) (sym link)
        (chain_push (λ p. v (pg p entry_next)) (λ p. v (pg p entry_previous)) (λ p. join_v w₂ (k / page_size) (pg p entry_next)) (λ p. join_v w₂ (k / page_size) (pg p entry_previous)) (v (hd head_first_empty)) (k / page_size) t.empty (record {
          next_at = rw (eq-eqb (suc (k / page_size)) (suc (k / page_size)) refl);
          next_off = λ j h. rw (ne_eqb (suc (k / page_size)) (suc j) (λ y. h (omega arith)));
          prev_at = rw (eq-eqb (suc (k / page_size)) (suc (k / page_size)) refl);
          prev_head = λ j h q. rw (ne_eqb (suc (k / page_size)) (suc j) (λ y. h (omega arith)), eq-eqb (v (hd head_first_empty)) (suc j) q) link;
          prev_off = λ j h q. rw (ne_eqb (suc (k / page_size)) (suc j) (λ y. h (omega arith)), ne_eqb (v (hd head_first_empty)) (suc j) q);
        }) z.empty not_empty));
    detached = linked_frame (λ p. v (pg p entry_next)) _ (v (hd head_first_detached)) t.detached z.detached
        (λ q h. rw (ne_eqb (suc (k / page_size)) (suc q) (λ y. not_detached q h (omega arith))));
  }
