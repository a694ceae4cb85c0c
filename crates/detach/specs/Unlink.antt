-- Slots that leave the free order, wherever they stand in it: the table as it is seen then. Assumes nothing.
use Rattle.std.specs.Prelude.{◌≡◌, true, false, List, [], ◌∷◌, ℕ, suc, ◌+◌, ◌-◌, ◌/◌, ◌≤◌, ◌<◌, length, eqb}
use Rattle.std.proofs.Math.Path.{refl}
use Rattle.std.proofs.Math.Bool.{and-false}
use Rattle.std.proofs.Common.{arith}
use borrow.Author.Tests.{ne_eqb}
use Rattle.words.specs.Pick.{bool, clash}
use Rattle.model.specs.Base.{occurs, without}
use Rattle.model.specs.State.{Table, is_vacant}
use Rattle.model.specs.Storage.{with_free}
use Rattle.layout.specs.Layout.{Mem}
use Rattle.layout.specs.Fields.{head_pages, head_first_free, head_free_slots, entry_frame, slot_tag, slot_generation, slot_next_free, slot_previous_free, slot_object, slot_rights, slot_flags}
use Rattle.layout.specs.Values.{tag_vacant}
use Rattle.layout.specs.Sizes.{page_size}
use Rattle.representation.specs.Represents.{tagged}
use Rattle.storage.specs.Order.{chain_once, chain_out, chain_before, next_in}
use Rattle.storage.specs.Sight.{Spot, Spot.hd, Spot.pg, Spot.sl, Put, Put.to_head, Put.to_slot, puts}
use Rattle.storage.specs.Slots.{frame_v, framed, slot_v, Seen, vacant_tag}
use Rattle.detach.specs.Ops.{first_after}

-- what the table shows then
abbrev pub unlink_p : (Spot → ℕ) → ℕ → List Put
unlink_p v k =
    to_slot (v (sl k slot_previous_free)) slot_next_free (v (sl k slot_next_free))
    ∷ to_slot (v (sl k slot_next_free)) slot_previous_free (v (sl k slot_previous_free))
    ∷ to_head head_first_free (first_after (v (sl k slot_previous_free)) (v (sl k slot_next_free)) (v (hd head_first_free)))
    ∷ to_head head_free_slots (v (hd head_free_slots) - 1)
    ∷ []

unfoldable pub unlink_v : (Spot → ℕ) → ℕ → Spot → ℕ
unlink_v v k = puts v (unlink_p v k)

-- a list without a number that stands in it once is shorter by one
length_without : (k : ℕ) (l : List ℕ) → occurs k l ≤ 1 → length (without k l) + occurs k l ≡ length l
length_without k [] h = refl
length_without k (x ∷ l) h = bool (eqb k x)
    (λ e. let z : 1 + occurs k l ≤ 1 = rw e at h in rw e (omega (arith, length_without k l (omega arith), z)))
    (λ e. let z : 0 + occurs k l ≤ 1 = rw e at h in rw e (omega (arith, length_without k l (omega arith))))

module _ (m : Mem) (v : Spot → ℕ) (t : Table) (l : List ℕ) (z : Seen m v (with_free t l)) (vacants : (i : ℕ) → 0 < occurs i l → is_vacant (t.slots i) ≡ true)
    (k : ℕ) (inside : 0 < occurs k l) where
  -- the slots before and after it are vacant
  pub before_vacant : (i : ℕ) → v (sl k slot_previous_free) ≡ suc i → is_vacant (t.slots i) ≡ true
  before_vacant i e = vacants i (chain_before (λ x. v (sl x slot_next_free)) (λ x. v (sl x slot_previous_free)) (v (hd head_first_free)) l k i z.free inside e)

  pub after_vacant : (i : ℕ) → v (sl k slot_next_free) ≡ suc i → is_vacant (t.slots i) ≡ true
  after_vacant i e = vacants i (next_in (λ x. v (sl x slot_next_free)) (λ x. v (sl x slot_previous_free)) (v (hd head_first_free)) 0 l k i z.free inside e)

  -- no other slot changes
  pub unlink_others : (i f : ℕ) → is_vacant (t.slots i) ≡ false → unlink_v v k (sl i f) ≡ v (sl i f)
  unfolding unlink_v
  unlink_others i f full = rw (ne_eqb (v (sl k slot_previous_free)) (suc i) (λ e. clash (before_vacant i e) full), ne_eqb (v (sl k slot_next_free)) (suc i) (λ e. clash (after_vacant i e) full), and-false (eqb f 2), and-false (eqb f 3))

  unlink_size : unlink_v v k (hd head_pages) ≡ v (hd head_pages)
  unfolding unlink_v
  unlink_size = refl

  unlink_pages : (p f : ℕ) → unlink_v v k (pg p f) ≡ v (pg p f)
  unfolding unlink_v
  unlink_pages p f = refl

  -- a vacant slot is so by its tag
  unlink_vacant : (i : ℕ) → is_vacant (t.slots i) ≡ true → slot_v m (unlink_v v k) i ≡ t.slots i
  unfolding unlink_v
  unlink_vacant i e = let q : v (sl i slot_tag) ≡ tag_vacant = vacant_tag m v (with_free t l) z i e in
      let y : framed (frame_v v i) (tagged m 0 (v (sl i slot_generation)) (v (sl i slot_next_free)) (v (sl i slot_previous_free)) (v (sl i slot_flags))) ≡ t.slots i = rw q at (z.slots i) in
      rw q y

  unlink_slots : (i : ℕ) → slot_v m (unlink_v v k) i ≡ t.slots i
  unlink_slots i = bool (is_vacant (t.slots i))
      (λ e. unlink_vacant i e)
      (λ e. rw (unlink_size, unlink_pages (i / page_size) entry_frame, unlink_others i slot_tag e, unlink_others i slot_generation e, unlink_others i slot_object e, unlink_others i slot_rights e, unlink_others i slot_flags e) (z.slots i))

  pub unlink_seen : Seen m (unlink_v v k) (with_free t (without k l))
  unfolding unlink_v
  unlink_seen = record {
    limit = z.limit;
    mask = z.mask;
    life = z.life;
    epoch = z.epoch;
    size = z.size;
    frame = z.frame;
    high = z.high;
    busy = z.busy;
    slots = unlink_slots;
    free = chain_out (λ x. v (sl x slot_next_free)) (λ x. v (sl x slot_previous_free)) k (v (hd head_first_free)) l z.free inside;
    free_count = let o = chain_once (λ x. v (sl x slot_next_free)) (λ x. v (sl x slot_previous_free)) (v (hd head_first_free)) 0 l z.free k in
        omega (arith, z.free_count, length_without k l o, o, inside);
    empty = z.empty;
    detached = z.detached;
  }
