-- A table whose busy slot gets other busy contents of the same generation, as it is seen, is the model's. Assumes nothing.
use Rattle.std.specs.Prelude.{◌≡◌, true, ℕ, suc, ◌/◌, ◌<◌, eqb}
use Rattle.std.proofs.Math.Path.{refl, sym, ap}
use Rattle.std.proofs.Common.{◌∙◌, arith}
use Rattle.std.proofs.Math.Bool.{false}
use borrow.Author.Tests.{eqb-true, eqb-false, eq-eqb, ne_eqb}
use Rattle.words.specs.Pick.{bool, clash}
use Rattle.model.specs.Base.{occurs, is_some}
use Rattle.model.specs.State.{till, Handle, Slot, Slot.transfer_reserved, Slot.occupied, Table, generation, is_busy, is_vacant, is_absent}
use Rattle.model.specs.Storage.{place, keep}
use Rattle.model.proofs.Tests.{and-false}
use Rattle.invariant.proofs.Pointwise.{place_alike}
use Rattle.invariant.proofs.Pages.{till_sane, busy_there, busy_vacant, busy_same}
use Rattle.invariant.proofs.Orders.{Sound}
use Rattle.layout.specs.Layout.{Mem, row}
use Rattle.layout.specs.Fields.{head_page_limit, head_mask, head_lifecycle, head_cursor, head_epoch, head_pages, head_first_free, head_free_slots, head_first_empty, head_first_detached, entry_frame, entry_high, entry_busy, entry_next, entry_previous, slot_tag, slot_generation, slot_next_free, slot_previous_free, slot_place, slot_position, slot_object, slot_rights, slot_flags, row_id}
use Rattle.layout.specs.Values.{tag_transfer_reserved}
use Rattle.layout.specs.Sizes.{page_size}
use Rattle.representation.specs.Represents.{link_of}
use Rattle.storage.specs.Order.{chain_frame, linked_frame}
use Rattle.storage.specs.Sight.{Spot, Spot.hd, Spot.pg, Spot.sl, puts}
use Rattle.storage.specs.Slots.{frame_v, slot_v, Seen, framed_is, slot_there, slot_gen, free_vacant}
use Rattle.storage.specs.Ops.{move_p, occupy_p}

abbrev pub move_v : (Spot → ℕ) → ℕ → ℕ → ℕ → Spot → ℕ
move_v v k r j = puts v (move_p k r j)

abbrev pub occupy_v : (Spot → ℕ) → ℕ → ℕ → ℕ → ℕ → Spot → ℕ
occupy_v v k o r f = puts v (occupy_p k o r f)

-- the mark
pub moving_mark : (v : Spot → ℕ) (k r j : ℕ) → (move_v v k r j (sl k slot_tag) ≡ tag_transfer_reserved) × (move_v v k r j (sl k slot_place) ≡ r) × (move_v v k r j (sl k slot_position) ≡ j)
unfolding move_p
moving_mark v k r j = (rw (eq-eqb (suc k) (suc k) refl), rw (eq-eqb (suc k) (suc k) refl), rw (eq-eqb (suc k) (suc k) refl))

-- words that differ in slot k alone
pub record Within (v w : Spot → ℕ) (k : ℕ) : Type 0 where
  pub heads : (f : ℕ) → w (hd f) ≡ v (hd f)
  pub pages : (p f : ℕ) → w (pg p f) ≡ v (pg p f)
  pub slots : (i f : ℕ) → (i ≡ k → ⊥) → w (sl i f) ≡ v (sl i f)

module _ (m : Mem) (v w : Spot → ℕ) (t : Table) (z : Seen m v t) (o : Sound till t t.free) (k : ℕ) (x : Slot) (h : Within v w k)
    (was : is_busy (t.slots k) ≡ true) (now : is_busy x ≡ true) (gen : generation x ≡ generation (t.slots k)) (is : slot_v m w k ≡ x) where
  other_slots : (i : ℕ) → (i ≡ k → ⊥) → slot_v m w i ≡ slot_v m v i
  other_slots i n = rw (h.heads head_pages, h.pages (i / page_size) entry_frame, h.slots i slot_tag n, h.slots i slot_generation n, h.slots i slot_object n, h.slots i slot_rights n, h.slots i slot_flags n)

  -- a slot of the free order is another
  free_other : (i : ℕ) → 0 < occurs i t.free → i ≡ k → ⊥
  free_other i q e = let y : is_vacant (t.slots i) ≡ false = rw e (busy_vacant (t.slots k) was) in clash (free_vacant t o i q) y

  pub keep_seen : Seen m w (place till t k x)
  unfolding place
  keep_seen = record {
    limit = h.heads head_page_limit ∙ z.limit;
    mask = h.heads head_mask ∙ z.mask;
    life = rw (h.heads head_lifecycle, h.heads head_cursor) z.life;
    epoch = h.heads head_epoch ∙ z.epoch;
    size = h.heads head_pages ∙ z.size;
    frame = λ p l. h.pages p entry_frame ∙ z.frame p l ∙ ap link_of (sym ((place_alike till t k x).frame p));
    high = λ p l. h.pages p entry_high ∙ z.high p l ∙ bool (eqb p (k / page_size))
        (λ e. rw (e, eqb-true p (k / page_size) e) (omega (arith, gen, (o.generations k (busy_there (t.slots k) was)).2)))
        (λ e. rw e);
    busy = λ p l a. h.pages p entry_busy ∙ z.busy p l (sym (ap is_some ((place_alike till t k x).frame p)) ∙ a) ∙ sym (busy_same till till_sane t.slots k x was now p);
    slots = λ i. bool (eqb i k)
        (λ e. rw (e, eqb-true i k e) is)
        (λ e. rw e (other_slots i (eqb-false i k e) ∙ z.slots i));
    free = rw (h.heads head_first_free) (chain_frame (λ i. v (sl i slot_next_free)) (λ i. v (sl i slot_previous_free)) _ _ (v (hd head_first_free)) 0 t.free z.free
        (λ i q. (h.slots i slot_next_free (free_other i q), h.slots i slot_previous_free (free_other i q))));
    free_count = h.heads head_free_slots ∙ z.free_count;
    empty = rw (was, now, h.heads head_first_empty) (chain_frame (λ p. v (pg p entry_next)) (λ p. v (pg p entry_previous)) _ _ (v (hd head_first_empty)) 0 t.empty z.empty (λ p q. (h.pages p entry_next, h.pages p entry_previous)));
    detached = rw (h.heads head_first_detached) (linked_frame (λ p. v (pg p entry_next)) _ (v (hd head_first_detached)) t.detached z.detached (λ p q. h.pages p entry_next));
  }

module _ (m : Mem) (v : Spot → ℕ) (t : Table) (z : Seen m v t) (o : Sound till t t.free) (k : ℕ) (was : is_busy (t.slots k) ≡ true) where
  pub move_within : (r j : ℕ) → Within v (move_v v k r j) k
  unfolding move_p
  move_within r j = record {
    heads = λ f. refl;
    pages = λ p f. refl;
    slots = λ i f n. rw (ne_eqb (suc k) (suc i) (λ y. n (omega arith)), and-false (eqb f 0), and-false (eqb f 2), and-false (eqb f 3));
  }

  pub occupy_within : (a r f : ℕ) → Within v (occupy_v v k a r f) k
  unfolding occupy_p
  occupy_within a r f = record {
    heads = λ g. refl;
    pages = λ p g. refl;
    slots = λ i g n. rw (ne_eqb (suc k) (suc i) (λ y. n (omega arith)), and-false (eqb g 0), and-false (eqb g 2), and-false (eqb g 3), and-false (eqb g 4));
  }

  -- TransferReserved by position j of the row in place r
  pub move_seen : (r j : ℕ) → Seen m (move_v v k r j) (keep till (λ g. transfer_reserved g (m (row r row_id))) t k)
  unfolding move_p
  move_seen r j = let here : is_absent (t.slots k) ≡ false = busy_there (t.slots k) was in
      let e : slot_v m (move_v v k r j) k ≡ transfer_reserved (generation (t.slots k)) (m (row r row_id)) =
      rw (eq-eqb (suc k) (suc k) refl, slot_gen m v t z k here) (framed_is (frame_v v k) (transfer_reserved (v (sl k slot_generation)) (m (row r row_id))) (slot_there m v t z k here)) in
      keep_seen m v (move_v v k r j) t z o k (transfer_reserved (generation (t.slots k)) (m (row r row_id))) (move_within r j) was refl refl e

  -- occupied by a handle
  pub occupy_seen : (a r f : ℕ) → Seen m (occupy_v v k a r f) (keep till (λ g. occupied g (record { object = a; rights = r; flags = f })) t k)
  unfolding occupy_p
  occupy_seen a r f = let here : is_absent (t.slots k) ≡ false = busy_there (t.slots k) was in
      let x : Handle = record { object = a; rights = r; flags = f } in
      let e : slot_v m (occupy_v v k a r f) k ≡ occupied (generation (t.slots k)) x =
      rw (eq-eqb (suc k) (suc k) refl, slot_gen m v t z k here) (framed_is (frame_v v k) (occupied (v (sl k slot_generation)) x) (slot_there m v t z k here)) in
      keep_seen m v (occupy_v v k a r f) t z o k (occupied (generation (t.slots k)) x) (occupy_within a r f) was refl refl e
