-- A page leaves the empty pages' order and is detached: the table as it is seen then is the model's. Assumes nothing.
use Rattle.std.specs.Prelude.{◌≡◌, true, false, ◌&&◌, List, ℕ, zero, suc, ◌/◌, ◌%◌, ◌<◌, eqb, ltb}
use Rattle.std.proofs.Math.Path.{refl, ap, fun_ext}
use Rattle.std.proofs.Common.{sym, ◌∙◌, arith}
use Rattle.std.proofs.Math.Bool.{and-false, and-true}
use borrow.Author.Tests.{eqb-true, eq-eqb, ne_eqb, lt-ltb}
use Rattle.words.specs.Pick.{pick, bool, clash, eqb_add}
use Rattle.model.specs.Base.{occurs, without, drop_if}
use Rattle.model.specs.State.{till, Slot.absent, Table, is_absent, max_slots}
use Rattle.model.specs.Storage.{with_free, on_page, detach}
use Rattle.model.specs.WellFormed.{is_attached}
use Rattle.model.proofs.Tests.{pick_same}
use Rattle.model.proofs.Sums.{occurs_without, occurs_drop_if}
use Rattle.model.proofs.Bounds.{pages_max_law}
use Rattle.invariant.proofs.Pages.{till_sane, vacant_there, busy_other}
use Rattle.invariant.proofs.Orders.{Sound, attached_below, below_of, absent_past}
use Rattle.layout.specs.Layout.{Mem, head, entry, upds}
use Rattle.layout.specs.Fields.{head_epoch, head_pages, head_first_free, head_first_empty, head_first_detached, head_first_entry, entry_frame, entry_next, entry_previous, slot_next_free, slot_previous_free}
use Rattle.layout.specs.Sizes.{page_size}
use Rattle.representation.specs.Represents.{entry_at, word_in, frame_of}
use Rattle.storage.specs.Order.{chain_frame, chain_out, chain_before, next_in, linked_frame}
use Rattle.storage.specs.Sight.{Spot, Spot.hd, Spot.pg, Spot.sl, look}
use Rattle.storage.specs.Slots.{slot_v, Seen, free_vacant}
use Rattle.storage.specs.Ops.{up, leave_p}
use Rattle.storage.specs.Take.{leave_v}
use Rattle.head.specs.Head.{next_epoch}
use Rattle.detach.specs.Ops.{join_detached_p}

-- ---- the page leaves the empty pages' order

abbrev pub with_empty : Table → List ℕ → Table
with_empty t e = record { limit = t.limit; mask = t.mask; life = t.life; epoch = t.epoch; size = t.size; pages = t.pages; slots = t.slots; free = t.free; empty = e; detached = t.detached }

-- no slot changes
pub leave_slots : (v : Spot → ℕ) (p i f : ℕ) → leave_v v p (sl i f) ≡ v (sl i f)
unfolding leave_p
leave_slots v p i f = refl

module _ (m : Mem) (v : Spot → ℕ) (t : Table) (z : Seen m v t) (p : ℕ) (inside : 0 < occurs p t.empty) where
  -- the pages before and after it are of the order
  pub before_empty : (q : ℕ) → v (pg p entry_previous) ≡ suc q → 0 < occurs q t.empty
  before_empty q e = chain_before (λ x. v (pg x entry_next)) (λ x. v (pg x entry_previous)) (v (hd head_first_empty)) t.empty p q z.empty inside e

  pub after_empty : (q : ℕ) → v (pg p entry_next) ≡ suc q → 0 < occurs q t.empty
  after_empty q e = next_in (λ x. v (pg x entry_next)) (λ x. v (pg x entry_previous)) (v (hd head_first_empty)) 0 t.empty p q z.empty inside e

  pub leave_seen : ((q : ℕ) → 0 < occurs q t.empty → occurs q t.detached ≡ 0) → Seen m (leave_v v p) (with_empty t (without p t.empty))
  unfolding leave_p
  leave_seen apart = record {
    limit = z.limit;
    mask = z.mask;
    life = z.life;
    epoch = z.epoch;
    size = z.size;
    frame = z.frame;
    high = z.high;
    busy = z.busy;
    slots = z.slots;
    free = z.free;
    free_count = z.free_count;
    empty = chain_out (λ x. v (pg x entry_next)) (λ x. v (pg x entry_previous)) p (v (hd head_first_empty)) t.empty z.empty inside;
    detached = linked_frame (λ x. v (pg x entry_next)) _ (v (hd head_first_detached)) t.detached z.detached
        (λ q h. rw (ne_eqb (v (pg p entry_previous)) (suc q) (λ e. omega (arith, apart q (before_empty q e)))));
  }

-- ---- the page has no frame and is the first detached one

-- what the table shows then: no slot of the page
unfoldable pub join_detached_v : (Spot → ℕ) → ℕ → Spot → ℕ
join_detached_v v p (hd f) = pick (eqb f head_epoch) (next_epoch (v (hd head_epoch))) (pick (eqb f head_first_detached) (up p) (v (hd f)))
join_detached_v v p (pg q f) = pick (eqb f entry_next && eqb q p) (v (hd head_first_detached)) (pick (eqb f entry_frame && eqb q p) 0 (v (pg q f)))
join_detached_v v p (sl k f) = pick (eqb (k / page_size) p) 0 (v (sl k f))

module _ (n : Mem) (b p : ℕ) where
  abbrev joined : Mem
  joined = upds n (join_detached_p n b p)

  join_page : (q f : ℕ) → joined (entry (entry_at joined b q) f) ≡ pick (eqb f entry_next && eqb q p) (n (head b head_first_detached)) (pick (eqb f entry_frame && eqb q p) 0 (n (entry (entry_at n b q) f)))
  join_page q f = rw (eqb_add (n (head b head_first_entry)) q p)

  join_frame : (k : ℕ) → frame_of joined b k ≡ pick (eqb (k / page_size) p) 0 (frame_of n b k)
  join_frame k = bool (eqb (k / page_size) p)
      (λ e. rw (eqb_add (n (head b head_first_entry)) (k / page_size) p, e) (bool (ltb k max_slots) (λ d. rw d (pick_same (ltb (k / page_size) (n (head b head_pages))))) (λ d. rw d)))
      (λ e. rw (eqb_add (n (head b head_first_entry)) (k / page_size) p, e))

  join_word : (fr j f : ℕ) → word_in joined fr j f ≡ word_in n fr j f
  join_word zero j f = refl
  join_word (suc fr) j f = refl

  join_slot : (k f : ℕ) → word_in joined (frame_of joined b k) (k % page_size) f ≡ pick (eqb (k / page_size) p) 0 (word_in n (frame_of n b k) (k % page_size) f)
  join_slot k f = bool (eqb (k / page_size) p)
      (λ e. let z : frame_of joined b k ≡ 0 = join_frame k ∙ rw e in ap (λ (x : ℕ). word_in joined x (k % page_size) f) z ∙ rw e)
      (λ e. let z : frame_of joined b k ≡ frame_of n b k = join_frame k ∙ rw e in ap (λ (x : ℕ). word_in joined x (k % page_size) f) z ∙ join_word (frame_of n b k) (k % page_size) f ∙ rw e)

  join_look : (c : Spot) → look joined b c ≡ join_detached_v (look n b) p c
  unfolding look join_detached_v
  join_look (hd f) = rw (eq-eqb b b refl, and-true (eqb f head_epoch), and-true (eqb f head_first_detached))
  join_look (pg q f) = join_page q f
  join_look (sl k f) = join_slot k f

  pub join_shows : look joined b ≡ join_detached_v (look n b) p
  join_shows = fun_ext join_look

module _ (m : Mem) (v : Spot → ℕ) (t : Table) (p : ℕ) (z : Seen m v (with_empty (with_free t (drop_if (on_page till p) t.free)) (without p t.empty)))
    (o : Sound till t t.free) (att : is_attached t p ≡ true) where
  under : p < t.size
  under = attached_below till t t.free o p att

  -- other slots stay
  pub join_off : (k f : ℕ) → (k / page_size ≡ p → ⊥) → join_detached_v v p (sl k f) ≡ v (sl k f)
  unfolding join_detached_v
  join_off k f e = rw (ne_eqb (k / page_size) p e)

  join_slots : (k : ℕ) → slot_v m (join_detached_v v p) k ≡ pick (on_page till p k) absent (t.slots k)
  unfolding join_detached_v
  join_slots k = bool (eqb (k / page_size) p)
      (λ e. bool (ltb k max_slots)
      (λ d. rw (e, d, pick_same {A = ℕ} {a = 0} (ltb (k / page_size) (v (hd head_pages)))))
      (λ d. rw (e, d) (sym (absent_past till t t.free o k d))))
      (λ e. rw e (z.slots k))

  free_off : (k : ℕ) → 0 < occurs k (drop_if (on_page till p) t.free) → k / page_size ≡ p → ⊥
  free_off k h e = bool (on_page till p k)
      (λ d. let y : occurs k (drop_if (on_page till p) t.free) ≡ 0 = occurs_drop_if (on_page till p) k t.free ∙ rw d in omega arith)
      (λ d. let y : occurs k (drop_if (on_page till p) t.free) ≡ occurs k t.free = occurs_drop_if (on_page till p) k t.free ∙ rw d in
      let i : is_absent (t.slots k) ≡ false = vacant_there (t.slots k) (free_vacant t o k (omega arith)) in
      let c : on_page till p k ≡ true = rw (eq-eqb (k / page_size) p e, lt-ltb k max_slots (below_of till t t.free o k i)) in
      clash c d)

  empty_off : (q : ℕ) → 0 < occurs q (without p t.empty) → eqb q p ≡ false
  empty_off q h = bool (eqb q p)
      (λ d. let y : occurs q (without p t.empty) ≡ 0 = occurs_without q p t.empty ∙ rw d in absurd (omega arith))
      (λ d. d)

  detached_off : (q : ℕ) → 0 < occurs q t.detached → eqb q p ≡ false
  detached_off q h = ne_eqb q p (λ e.
      let i : occurs p t.detached ≡ 0 = o.detached p ∙ rw (att, and-false (ltb p t.size)) in
      omega (arith, ap (λ (x : ℕ). occurs x t.detached) e))

  pub join_seen : Seen m (join_detached_v v p) (detach till t p)
  unfolding join_detached_v detach
  join_seen = record {
    limit = z.limit;
    mask = z.mask;
    life = z.life;
    epoch = ap next_epoch z.epoch;
    size = z.size;
    frame = λ q h. bool (eqb q p) (λ e. rw e) (λ e. rw e (z.frame q h));
    high = λ q h. bool (eqb q p) (λ e. rw (e, eqb-true q p e) (z.high p under)) (λ e. rw e (z.high q h));
    busy = λ q h a. bool (eqb q p)
        (λ e. clash {b = false} (rw e at a) refl)
        (λ e. z.busy q h (rw e at a) ∙ busy_other till till_sane t.slots (λ k. pick (on_page till p k) absent (t.slots k)) q (λ j i l. rw (i, e)));
    slots = join_slots;
    free = chain_frame (λ k. v (sl k slot_next_free)) (λ k. v (sl k slot_previous_free)) _ _ (v (hd head_first_free)) 0 (drop_if (on_page till p) t.free) z.free (λ k h. (join_off k slot_next_free (free_off k h), join_off k slot_previous_free (free_off k h)));
    free_count = z.free_count;
    empty = chain_frame (λ q. v (pg q entry_next)) (λ q. v (pg q entry_previous)) _ _ (v (hd head_first_empty)) 0 (without p t.empty) z.empty (λ q h. (rw (empty_off q h), refl));
    detached = (
      omega (arith, under, o.size, o.limit, pages_max_law),
      rw (eq-eqb p p refl) (linked_frame (λ q. v (pg q entry_next)) _ (v (hd head_first_detached)) t.detached z.detached (λ q h. rw (detached_off q h))),
    );
  }
