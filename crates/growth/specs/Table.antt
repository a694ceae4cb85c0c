-- A table to which a page was joined, as it is seen, is the model's after `attach`. Assumes nothing.
use Rattle.std.specs.Prelude.{◌≡◌, refl, true, not, ◌&&◌, ◌⊎◌, List, [], ◌∷◌, length, eqb, ltb}
use Rattle.std.proofs.Math.Path.{sym}
use Rattle.std.proofs.Common.{ap, ◌∙◌, ⊎_elim, arith}
use Prim.Native.Nat.{ℕ, zero, suc, ◌+◌, ◌-◌, ◌*◌, ◌/◌, ◌≤◌, ◌<◌}
use borrow.Author.Tests.{ltb-true, ltb-false, lt-ltb, le-ltb, eqb-true, eqb-false, eq-eqb, ne_eqb}
use Rattle.words.specs.Pick.{bool, clash}
use Rattle.codec.specs.Codec.{next_generation}
use Rattle.model.specs.Base.{pick, bit, occurs, without, push_all}
use Rattle.model.specs.State.{till, Slot.vacant, Table, max_slots}
use Rattle.model.specs.Storage.{slots_of, page_range, on_page, busy_of, attach}
use Rattle.model.specs.WellFormed.{is_attached}
use Rattle.model.proofs.Tests.{same}
use Rattle.model.proofs.Sums.{without_none, length_push, length_range}
use Rattle.invariant.proofs.Pages.{till_sane, page_in, page_slots_law, vacant_there, busy_other, busy_none}
use Rattle.invariant.proofs.Orders.{Sound, Room, absent_past, attached_of}
use Rattle.layout.specs.Layout.{Mem}
use Rattle.layout.specs.Fields.{head_page_limit, head_mask, head_lifecycle, head_cursor, head_epoch, head_pages, head_first_free, head_free_slots, head_first_empty, head_first_detached, entry_frame, entry_high, entry_busy, entry_next, entry_previous, slot_tag, slot_generation, slot_next_free, slot_previous_free, slot_object, slot_rights, slot_flags}
use Rattle.layout.specs.Values.{tag_vacant}
use Rattle.layout.specs.Sizes.{page_size}
use Rattle.representation.specs.Represents.{link_of, tagged, Chain, Linked}
use Rattle.storage.specs.Order.{chain_push, head_in, linked_frame}
use Rattle.storage.specs.Sight.{Spot, Spot.hd, Spot.pg, Spot.sl}
use Rattle.storage.specs.Slots.{frame_v, framed, slot_v, Seen, vacant_tag, free_vacant}
use Rattle.growth.specs.Push.{before, top, Run, chain_run, chain_behind}

-- what a table that showed v shows when page p, of n slots of the generation g, was joined in frame f
pub record Joined (v w : Spot → ℕ) (p f g n : ℕ) : Type 0 where
  pub heads : (i : ℕ) → i ≤ head_epoch → w (hd i) ≡ v (hd i)
  pub size : w (hd head_pages) ≡ pick (eqb p (v (hd head_pages))) (suc (v (hd head_pages))) (v (hd head_pages))
  pub first : w (hd head_first_free) ≡ p * page_size + n
  pub count : w (hd head_free_slots) ≡ v (hd head_free_slots) + n
  pub empty : w (hd head_first_empty) ≡ suc p
  pub detached : w (hd head_first_detached) ≡ pick (eqb (v (hd head_first_detached)) (suc p)) (v (pg p entry_next)) (v (hd head_first_detached))
  pub frame : w (pg p entry_frame) ≡ suc f
  pub high : w (pg p entry_high) ≡ g
  pub busy : w (pg p entry_busy) ≡ 0
  pub next : w (pg p entry_next) ≡ v (hd head_first_empty)
  pub prev : w (pg p entry_previous) ≡ 0
  pub pages : (q i : ℕ) → (q ≡ p → ⊥) → w (pg q i) ≡ pick (eqb i entry_previous && eqb (v (hd head_first_empty)) (suc q)) (suc p) (v (pg q i))
  pub tags : (j : ℕ) → j < n → w (sl (p * page_size + j) slot_tag) ≡ tag_vacant
  pub generations : (j : ℕ) → j < n → w (sl (p * page_size + j) slot_generation) ≡ g
  pub nexts : (j : ℕ) → j < n → w (sl (p * page_size + j) slot_next_free) ≡ pick (eqb j 0) (v (hd head_first_free)) (p * page_size + j)
  pub prevs : (j : ℕ) → j < n → w (sl (p * page_size + j) slot_previous_free) ≡ pick (eqb (j + 1) n) 0 (p * page_size + j + 2)
  pub others : (k i : ℕ) → (k / page_size ≡ p → ⊥) → w (sl k i) ≡ pick (eqb i slot_previous_free && eqb (v (hd head_first_free)) (suc k)) (suc (p * page_size)) (v (sl k i))

before_is : (r x a n : ℕ) → a ≤ x → x < a + n → r ≡ a + n - suc x → pick (eqb (x - a + 1) n) 0 (a + (x - a) + 2) ≡ before r (suc x)
before_is zero x a n l h e = rw (eq-eqb (x - a + 1) n (omega arith))
before_is (suc r) x a n l h e = rw (ne_eqb (x - a + 1) n (λ y. omega arith)) (omega arith)

module _ (m : Mem) (v w : Spot → ℕ) (t : Table) (z : Seen m v t) (o : Sound till t t.free) (p f : ℕ) (r : Room t p)
    (ds : List ℕ) (turn : (p ≡ t.size) ⊎ (t.detached ≡ p ∷ ds)) (j : Joined v w p f (next_generation (t.pages p).high) (slots_of till p)) where
  abbrev g : ℕ
  g = next_generation (t.pages p).high

  some_slot : 1 ≤ slots_of till p
  some_slot = page_slots_law till till_sane p (omega (arith, r.within, o.limit))

  size_is : w (hd head_pages) ≡ (attach till t p f).size
  unfolding attach
  size_is = j.size ∙ rw z.size

  -- other pages below the size then were below it before
  pub below : (q : ℕ) → (q ≡ p → ⊥) → q < (attach till t p f).size → q < t.size
  unfolding attach
  below q n h = bool (eqb p t.size)
      (λ e. let y : p ≡ t.size = eqb-true p t.size e in let k : q < suc t.size = rw e at h in omega arith)
      (λ e. rw e at h)

  page_words : (q i : ℕ) → (q ≡ p → ⊥) → i < entry_previous → w (pg q i) ≡ v (pg q i)
  page_words q i n h = j.pages q i n ∙ rw (ne_eqb i entry_previous (λ y. omega arith))

  frames : (q : ℕ) → q < (attach till t p f).size → w (pg q entry_frame) ≡ link_of ((attach till t p f).pages q).frame
  unfolding attach
  frames q h = bool (eqb q p)
      (λ e. rw (e, eqb-true q p e) j.frame)
      (λ e. rw e (page_words q entry_frame (eqb-false q p e) (omega arith) ∙ z.frame q (below q (eqb-false q p e) h)))

  highs : (q : ℕ) → q < (attach till t p f).size → w (pg q entry_high) ≡ ((attach till t p f).pages q).high
  unfolding attach
  highs q h = bool (eqb q p)
      (λ e. rw (e, eqb-true q p e) j.high)
      (λ e. rw e (page_words q entry_high (eqb-false q p e) (omega arith) ∙ z.high q (below q (eqb-false q p e) h)))

  busies : (q : ℕ) → q < (attach till t p f).size → is_attached (attach till t p f) q ≡ true → w (pg q entry_busy) ≡ busy_of till (attach till t p f).slots q
  unfolding attach
  busies q h a = bool (eqb q p)
      (λ e. rw (eqb-true q p e) (j.busy ∙ sym (busy_none till till_sane (λ k. pick (on_page till p k) (vacant g) (t.slots k)) p (λ i y. rw y))))
      (λ e. page_words q entry_busy (eqb-false q p e) (omega arith) ∙ z.busy q (below q (eqb-false q p e) h) (rw e at a)
      ∙ sym (busy_other till till_sane (λ k. pick (on_page till p k) (vacant g) (t.slots k)) t.slots q (λ i d l. rw (d, e))))

  -- slots of the page
  on_slot : (k : ℕ) → k / page_size ≡ p → k < max_slots → slot_v m w k ≡ vacant g
  on_slot k e l =
      let i = page_in till till_sane p k e l in
      let d : p * page_size + (k - p * page_size) ≡ k = omega (arith, i.0) in
      let h : k - p * page_size < slots_of till p = omega (arith, i.0, i.1) in
      let e₀ : w (sl k slot_tag) ≡ tag_vacant = rw d at (j.tags (k - p * page_size) h) in
      let e₁ : w (sl k slot_generation) ≡ g = rw d at (j.generations (k - p * page_size) h) in
      let u : p < w (hd head_pages) = rw j.size (bool (eqb p (v (hd head_pages)))
      (λ y. rw y (omega (arith, eqb-true p (v (hd head_pages)) y)))
      (λ y. rw y (omega (arith, eqb-false p (v (hd head_pages)) y, r.next, z.size)))) in
      rw (lt-ltb k max_slots l, e, lt-ltb p (w (hd head_pages)) u, j.frame, e₀, e₁)

  -- and of others
  off_frame : (k : ℕ) → (k / page_size ≡ p → ⊥) → frame_v w k ≡ frame_v v k
  off_frame k n =
      let s : ltb (k / page_size) (w (hd head_pages)) ≡ ltb (k / page_size) (v (hd head_pages)) = rw j.size (bool (eqb p (v (hd head_pages)))
      (λ e. rw e (bool (ltb (k / page_size) (v (hd head_pages)))
      (λ l. rw l (lt-ltb (k / page_size) (suc (v (hd head_pages))) (omega (arith, ltb-true (k / page_size) (v (hd head_pages)) l))))
      (λ l. rw l (le-ltb (k / page_size) (suc (v (hd head_pages))) (let y = eqb-true p (v (hd head_pages)) e in let x = ltb-false (k / page_size) (v (hd head_pages)) l in
      let n' : k / page_size ≡ p → ⊥ = n in omega arith)))))
      (λ e. rw e)) in
      rw (s, page_words (k / page_size) entry_frame n (omega arith))

  off_slot : (k : ℕ) → (k / page_size ≡ p → ⊥) → slot_v m w k ≡ t.slots k
  off_slot k n = rw (off_frame k n, j.others k slot_tag n, j.others k slot_generation n, j.others k slot_object n, j.others k slot_rights n, j.others k slot_flags n) (bool (eqb (v (hd head_first_free)) (suc k))
      (λ d. let i = free_vacant t o k (head_in (λ i. v (sl i slot_next_free)) (λ i. v (sl i slot_previous_free)) (v (hd head_first_free)) 0 t.free k z.free (eqb-true (v (hd head_first_free)) (suc k) d)) in
      let q : v (sl k slot_tag) ≡ tag_vacant = vacant_tag m v t z k i in
      let y : framed (frame_v v k) (tagged m 0 (v (sl k slot_generation)) (v (sl k slot_next_free)) (v (sl k slot_previous_free)) (v (sl k slot_flags))) ≡ t.slots k = rw q at (z.slots k) in
      rw (d, q) y)
      (λ d. rw d (z.slots k)))

  slots_are : (k : ℕ) → slot_v m w k ≡ (attach till t p f).slots k
  unfolding attach
  slots_are k = bool (eqb (k / page_size) p)
      (λ e. bool (ltb k max_slots)
      (λ l. on_slot k (eqb-true (k / page_size) p e) (ltb-true k max_slots l) ∙ rw (e, l))
      (λ l. rw (e, l) (sym (absent_past till t t.free o k l))))
      (λ e. off_slot k (eqb-false (k / page_size) p e) ∙ rw e)

  -- the slots of the free order stand on other pages
  free_off : (k : ℕ) → 0 < occurs k t.free → k / page_size ≡ p → ⊥
  free_off k h e = let a : is_attached t (k / page_size) ≡ true = attached_of till t t.free o k (vacant_there (t.slots k) (free_vacant t o k h)) in
      clash (rw e at a) r.out

  links : Run (λ k. w (sl k slot_next_free)) (λ k. w (sl k slot_previous_free)) (p * page_size) (slots_of till p) (v (hd head_first_free))
  links = record {
    lowest = λ h. let d : p * page_size + 0 ≡ p * page_size = omega arith in let e : w (sl (p * page_size) slot_next_free) ≡ v (hd head_first_free) = rw d at (j.nexts 0 h) in e;
    nexts = λ x a b. let d : p * page_size + (x - p * page_size) ≡ x = omega arith in
        let e = j.nexts (x - p * page_size) (omega arith) in
        let u : w (sl x slot_next_free) ≡ pick (eqb (x - p * page_size) 0) (v (hd head_first_free)) x = rw d at e in
        u ∙ rw (ne_eqb (x - p * page_size) 0 (λ y. omega arith));
    prevs = λ x a b. let d : p * page_size + (x - p * page_size) ≡ x = omega arith in
        let e = j.prevs (x - p * page_size) (omega arith) in
        let u : w (sl x slot_previous_free) ≡ pick (eqb (x - p * page_size + 1) (slots_of till p)) 0 (p * page_size + (x - p * page_size) + 2) = ap (λ (k : ℕ). w (sl k slot_previous_free)) (sym d) ∙ e in
        u ∙ before_is (p * page_size + slots_of till p - suc x) x (p * page_size) (slots_of till p) a b refl;
  }

  before_some : (n a : ℕ) → 1 ≤ n → before n a ≡ suc a
  before_some zero a h = absurd (omega arith)
  before_some (suc n) a h = refl

  top_some : (n a h : ℕ) → 1 ≤ n → top n a h ≡ a + n
  top_some zero a h k = absurd (omega arith)
  top_some (suc n) a h k = refl

  free_is : Chain (λ k. w (sl k slot_next_free)) (λ k. w (sl k slot_previous_free)) (w (hd head_first_free)) 0 (push_all (page_range till p) t.free)
  free_is =
      let old : Chain (λ k. w (sl k slot_next_free)) (λ k. w (sl k slot_previous_free)) (v (hd head_first_free)) (suc (p * page_size)) t.free
      = chain_behind (λ k. v (sl k slot_next_free)) (λ k. v (sl k slot_previous_free)) (λ k. w (sl k slot_next_free)) (λ k. w (sl k slot_previous_free)) (v (hd head_first_free)) (suc (p * page_size)) t.free z.free
      (λ k h. j.others k slot_next_free (free_off k h))
      (λ k h e. j.others k slot_previous_free (free_off k h) ∙ rw (eq-eqb (v (hd head_first_free)) (suc k) e))
      (λ k h e. j.others k slot_previous_free (free_off k h) ∙ rw (ne_eqb (v (hd head_first_free)) (suc k) e)) in
      let c = chain_run (λ k. w (sl k slot_next_free)) (λ k. w (sl k slot_previous_free)) (slots_of till p) (p * page_size) (v (hd head_first_free)) t.free links (rw (before_some (slots_of till p) (p * page_size) some_slot) old) in
      rw (j.first, ← top_some (slots_of till p) (p * page_size) (v (hd head_first_free)) some_slot) c

  count_is : w (hd head_free_slots) ≡ length (push_all (page_range till p) t.free)
  count_is = omega (arith, j.count, z.free_count, length_push (page_range till p) t.free, length_range (p * page_size) (slots_of till p))

  empty_is : Chain (λ q. w (pg q entry_next)) (λ q. w (pg q entry_previous)) (w (hd head_first_empty)) 0 (p ∷ t.empty)
  empty_is = rw j.empty (chain_push (λ q. v (pg q entry_next)) (λ q. v (pg q entry_previous)) (λ q. w (pg q entry_next)) (λ q. w (pg q entry_previous)) (v (hd head_first_empty)) p t.empty (record {
    next_at = j.next;
    next_off = λ q n. page_words q entry_next n (omega arith);
    prev_at = j.prev;
    prev_head = λ q n e. j.pages q entry_previous n ∙ rw (eq-eqb (v (hd head_first_empty)) (suc q) e);
    prev_off = λ q n e. j.pages q entry_previous n ∙ rw (ne_eqb (v (hd head_first_empty)) (suc q) e);
  }) z.empty (o.empty p ∙ rw r.out))

  -- the detached order loses p, if p was its head
  detached_is : Linked (λ q. w (pg q entry_next)) (w (hd head_first_detached)) (without p t.detached)
  detached_is = ⊎_elim new old turn
    where
      new : p ≡ t.size → Linked (λ q. w (pg q entry_next)) (w (hd head_first_detached)) (without p t.detached)
      new e = let out : occurs p t.detached ≡ 0 = o.detached p ∙ rw (le-ltb p t.size (omega arith)) in
          let far : (q : ℕ) → 0 < occurs q t.detached → q ≡ p → ⊥ = λ q h d. omega (arith, ap (λ (x : ℕ). occurs x t.detached) d) in
          rw (without_none p t.detached out, j.detached) (go t.detached z.detached far)
        where
          go : (l : List ℕ) → Linked (λ q. v (pg q entry_next)) (v (hd head_first_detached)) l → ((q : ℕ) → 0 < occurs q l → q ≡ p → ⊥) → Linked (λ q. w (pg q entry_next)) (pick (eqb (v (hd head_first_detached)) (suc p)) (v (pg p entry_next)) (v (hd head_first_detached))) l
          go [] c far = rw (c, ne_eqb 0 (suc p) (λ y. omega arith))
          go (x ∷ l) c far = let y : v (hd head_first_detached) ≡ suc p → ⊥ = λ y. far x (rw (same x) (omega arith)) (omega (arith, c.0)) in
              rw (ne_eqb (v (hd head_first_detached)) (suc p) y) (linked_frame (λ q. v (pg q entry_next)) (λ q. w (pg q entry_next)) (v (hd head_first_detached)) (x ∷ l) c (λ q h. page_words q entry_next (far q h) (omega arith)))

      old : t.detached ≡ p ∷ ds → Linked (λ q. w (pg q entry_next)) (w (hd head_first_detached)) (without p t.detached)
      old e = let c : Linked (λ q. v (pg q entry_next)) (v (hd head_first_detached)) (p ∷ ds) = rw e at z.detached in
          let once : 1 + occurs p ds ≤ 1 = let h = o.detached p in let h' : 1 + occurs p ds ≡ bit (ltb p t.size && not (is_attached t p)) = rw (e, same p) at h in
          bool (ltb p t.size && not (is_attached t p)) (λ d. omega (arith, ap bit d)) (λ d. omega (arith, ap bit d)) in
          let out : occurs p ds ≡ 0 = omega arith in
          rw (e, same p, without_none p ds out, j.detached, eq-eqb (v (hd head_first_detached)) (suc p) c.0)
          (linked_frame (λ q. v (pg q entry_next)) (λ q. w (pg q entry_next)) (v (pg p entry_next)) ds c.1
          (λ q h. page_words q entry_next (λ d. omega (arith, ap (λ (x : ℕ). occurs x ds) d)) (omega arith)))

  -- THE TABLE WITH THE PAGE
  pub joined_seen : Seen m w (attach till t p f)
  unfolding attach
  joined_seen = record {
    limit = j.heads head_page_limit (omega arith) ∙ z.limit;
    mask = j.heads head_mask (omega arith) ∙ z.mask;
    life = rw (j.heads head_lifecycle (omega arith), j.heads head_cursor (omega arith)) z.life;
    epoch = j.heads head_epoch (omega arith) ∙ z.epoch;
    size = size_is;
    frame = frames;
    high = highs;
    busy = busies;
    slots = slots_are;
    free = free_is;
    free_count = count_is;
    empty = empty_is;
    detached = detached_is;
  }
