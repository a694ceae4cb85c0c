-- A table as it is seen: the representation of one table over its own words, and what its slots tell. Assumes nothing.
use Rattle.std.specs.Prelude.{◌≡◌, refl, true, false, not, ◌&&◌, ℕ, zero, suc, ◌/◌, ◌%◌, ◌<◌, length, eqb, ltb}
use Rattle.std.proofs.Common.{sym, ap, ◌∙◌, arith, ltb-true}
use Rattle.words.specs.Pick.{clash}
use Rattle.model.specs.Base.{pick, occurs}
use Rattle.model.specs.State.{Sizes, till, Slot, Slot.absent, Slot.reserved, Slot.transfer_reserved, Table, generation, is_vacant, is_absent, max_slots}
use Rattle.model.specs.Storage.{busy_of}
use Rattle.model.specs.WellFormed.{is_attached}
use Rattle.model.proofs.Tests.{and_left, bit_true}
use Rattle.invariant.proofs.Orders.{Sound, attached_below}
use Rattle.layout.specs.Layout.{Mem, row}
use Rattle.layout.specs.Fields.{head_page_limit, head_mask, head_lifecycle, head_cursor, head_epoch, head_pages, head_first_free, head_free_slots, head_first_empty, head_first_detached, entry_frame, entry_high, entry_busy, entry_next, entry_previous, slot_tag, slot_generation, slot_next_free, slot_previous_free, slot_object, slot_rights, slot_flags, row_id}
use Rattle.layout.specs.Values.{tag_vacant}
use Rattle.layout.specs.Sizes.{page_size}
use Rattle.representation.specs.Represents.{link_of, word_in, frame_of, slot_word, tagged, slot_from, Chain, Linked, LifeIs, TableIs}
use Rattle.storage.specs.Sight.{Spot, Spot.hd, Spot.pg, Spot.sl, look}

-- the frame of slot k, as a link
abbrev pub frame_v : (Spot → ℕ) → ℕ → ℕ
frame_v v k = pick (ltb k max_slots) (pick (ltb (k / page_size) (v (hd head_pages))) (v (pg (k / page_size) entry_frame)) 0) 0

-- nothing without a frame
abbrev pub framed : ℕ → Slot → Slot
framed zero x = absent
framed (suc fr) x = x

-- slot k; a mark's id stands in the memory m
abbrev pub slot_v : Mem → (Spot → ℕ) → ℕ → Slot
slot_v m v k = framed (frame_v v k) (tagged m (v (sl k slot_tag)) (v (sl k slot_generation)) (v (sl k slot_object)) (v (sl k slot_rights)) (v (sl k slot_flags)))

-- TableIs over the table's own words
pub record Seen (m : Mem) (v : Spot → ℕ) (t : Table) : Type 0 where
  pub limit : v (hd head_page_limit) ≡ t.limit
  pub mask : v (hd head_mask) ≡ t.mask
  pub life : LifeIs (v (hd head_lifecycle)) (v (hd head_cursor)) t.life
  pub epoch : v (hd head_epoch) ≡ t.epoch
  pub size : v (hd head_pages) ≡ t.size
  pub frame : (p : ℕ) → p < t.size → v (pg p entry_frame) ≡ link_of (t.pages p).frame
  pub high : (p : ℕ) → p < t.size → v (pg p entry_high) ≡ (t.pages p).high
  pub busy : (p : ℕ) → p < t.size → is_attached t p ≡ true → v (pg p entry_busy) ≡ busy_of till t.slots p
  pub slots : (k : ℕ) → slot_v m v k ≡ t.slots k
  pub free : Chain (λ k. v (sl k slot_next_free)) (λ k. v (sl k slot_previous_free)) (v (hd head_first_free)) 0 t.free
  pub free_count : v (hd head_free_slots) ≡ length t.free
  pub empty : Chain (λ p. v (pg p entry_next)) (λ p. v (pg p entry_previous)) (v (hd head_first_empty)) 0 t.empty
  pub detached : Linked (λ p. v (pg p entry_next)) (v (hd head_first_detached)) t.detached

-- the two say the same

framed_slot : (m : Mem) (fr j : ℕ) → framed fr (tagged m (word_in m fr j slot_tag) (word_in m fr j slot_generation) (word_in m fr j slot_object) (word_in m fr j slot_rights) (word_in m fr j slot_flags)) ≡ slot_from m fr j
framed_slot m zero j = refl
framed_slot m (suc fr) j = refl

pub tagged_rows : (m n : Mem) → ((r : ℕ) → n (row r row_id) ≡ m (row r row_id)) → (t g x y w : ℕ) → tagged n t g x y w ≡ tagged m t g x y w
tagged_rows m n e zero g x y w = refl
tagged_rows m n e (suc zero) g x y w = ap (reserved g) (e x)
tagged_rows m n e (suc (suc zero)) g x y w = ap (transfer_reserved g) (e x)
tagged_rows m n e (suc (suc (suc zero))) g x y w = refl
tagged_rows m n e (suc (suc (suc (suc t)))) g x y w = refl

pub see : (m : Mem) (b : ℕ) (t : Table) → TableIs m b t → Seen m (look m b) t
unfolding look
see m b t i = record {
  limit = i.limit;
  mask = i.mask;
  life = i.life;
  epoch = i.epoch;
  size = i.size;
  frame = i.frame;
  high = i.high;
  busy = i.busy;
  slots = λ k. framed_slot m (frame_of m b k) (k % page_size) ∙ i.slots k;
  free = i.free;
  free_count = i.free_count;
  empty = i.empty;
  detached = i.detached;
}

pub unsee : (m n : Mem) (b : ℕ) (t : Table) → ((r : ℕ) → n (row r row_id) ≡ m (row r row_id)) → Seen m (look n b) t → TableIs n b t
unfolding look
unsee m n b t e i = record {
  limit = i.limit;
  mask = i.mask;
  life = i.life;
  epoch = i.epoch;
  size = i.size;
  frame = i.frame;
  high = i.high;
  busy = i.busy;
  slots = λ k. sym (framed_slot n (frame_of n b k) (k % page_size)) ∙ ap (framed (frame_of n b k)) (tagged_rows m n e (slot_word n b k slot_tag) (slot_word n b k slot_generation) (slot_word n b k slot_object) (slot_word n b k slot_rights) (slot_word n b k slot_flags)) ∙ i.slots k;
  free = i.free;
  free_count = i.free_count;
  empty = i.empty;
  detached = i.detached;
}

-- ---- what slots tell

framed_there : (fr : ℕ) (x : Slot) → is_absent (framed fr x) ≡ false → 0 < fr
framed_there zero x e = clash refl e
framed_there (suc fr) x e = omega arith

pub framed_is : (fr : ℕ) (x : Slot) → 0 < fr → framed fr x ≡ x
framed_is zero x h = absurd (omega arith)
framed_is (suc fr) x h = refl

framed_gen : (m : Mem) (fr t g x y w : ℕ) → is_absent (framed fr (tagged m t g x y w)) ≡ false → generation (framed fr (tagged m t g x y w)) ≡ g
framed_gen m zero t g x y w e = clash refl e
framed_gen m (suc fr) zero g x y w e = refl
framed_gen m (suc fr) (suc zero) g x y w e = refl
framed_gen m (suc fr) (suc (suc zero)) g x y w e = refl
framed_gen m (suc fr) (suc (suc (suc zero))) g x y w e = refl
framed_gen m (suc fr) (suc (suc (suc (suc t)))) g x y w e = clash refl e

framed_vacant : (m : Mem) (fr t g x y w : ℕ) → is_vacant (framed fr (tagged m t g x y w)) ≡ true → t ≡ 0
framed_vacant m zero t g x y w e = clash e refl
framed_vacant m (suc fr) zero g x y w e = refl
framed_vacant m (suc fr) (suc zero) g x y w e = clash e refl
framed_vacant m (suc fr) (suc (suc zero)) g x y w e = clash e refl
framed_vacant m (suc fr) (suc (suc (suc zero))) g x y w e = clash e refl
framed_vacant m (suc fr) (suc (suc (suc (suc t)))) g x y w e = clash e refl

module _ (m : Mem) (v : Spot → ℕ) (t : Table) (z : Seen m v t) where
  -- a present slot has a frame
  pub slot_there : (k : ℕ) → is_absent (t.slots k) ≡ false → 0 < frame_v v k
  slot_there k e = framed_there (frame_v v k) (tagged m (v (sl k slot_tag)) (v (sl k slot_generation)) (v (sl k slot_object)) (v (sl k slot_rights)) (v (sl k slot_flags))) (ap is_absent (z.slots k) ∙ e)

  -- its generation is its word 1
  pub slot_gen : (k : ℕ) → is_absent (t.slots k) ≡ false → generation (t.slots k) ≡ v (sl k slot_generation)
  slot_gen k e = sym (ap generation (z.slots k)) ∙ framed_gen m (frame_v v k) (v (sl k slot_tag)) (v (sl k slot_generation)) (v (sl k slot_object)) (v (sl k slot_rights)) (v (sl k slot_flags)) (ap is_absent (z.slots k) ∙ e)

  -- a vacant slot has tag_vacant
  pub vacant_tag : (k : ℕ) → is_vacant (t.slots k) ≡ true → v (sl k slot_tag) ≡ tag_vacant
  vacant_tag k e = framed_vacant m (frame_v v k) (v (sl k slot_tag)) (v (sl k slot_generation)) (v (sl k slot_object)) (v (sl k slot_rights)) (v (sl k slot_flags)) (ap is_vacant (z.slots k) ∙ e)

module _ {z : Sizes} (t : Table) (o : Sound z t t.free) where
  pub free_vacant : (k : ℕ) → 0 < occurs k t.free → is_vacant (t.slots k) ≡ true
  free_vacant k h = bit_true (is_vacant (t.slots k)) (omega (arith, o.free k))

  pub empty_attached : (p : ℕ) → 0 < occurs p t.empty → is_attached t p ≡ true
  empty_attached p h = and_left (is_attached t p) (eqb (busy_of z t.slots p) 0) (bit_true (is_attached t p && eqb (busy_of z t.slots p) 0) (omega (arith, o.empty p)))

  pub empty_below : (p : ℕ) → 0 < occurs p t.empty → p < t.size
  empty_below p h = attached_below z t t.free o p (empty_attached p h)

  pub detached_below : (p : ℕ) → 0 < occurs p t.detached → p < t.size
  detached_below p h = ltb-true p t.size (and_left (ltb p t.size) (not (is_attached t p)) (bit_true (ltb p t.size && not (is_attached t p)) (omega (arith, o.detached p))))
