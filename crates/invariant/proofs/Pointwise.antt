-- What each operation on a table shows at a slot, and the fields that it leaves alone.
use Rattle.std.specs.Prelude.{◌≡◌, true, ℕ, suc, ◌+◌, ◌≤◌, ◌<◌, length, take, drop, eqb}
use Rattle.std.proofs.Math.Path.{refl}
use Rattle.std.proofs.Common.{ap, ◌∙◌, arith, eqb-true}
use mathlib.Core.List.{List, [], ◌∷◌, ◌++◌}
use Rattle.std.proofs.Math.Option.{Option, none, some}
use Rattle.codec.specs.Codec.{next_generation}
use Rattle.model.specs.Base.{pick, put, push_all, occurs, member, drop_if}
use Rattle.model.specs.State.{Sizes, Handle, Slot, Slot.absent, Slot.vacant, Slot.occupied, Page, Table, Entry, Entry.moved, Entry.copied}
use Rattle.model.specs.State.{generation, is_busy}
use Rattle.model.specs.Storage.{with_free, page_of, raised, place, keep, keep_all, vacate, vacate_all, take_free, attach, attach_all, grow, detach}
use Rattle.model.specs.Storage.{on_page, page_range}
use Rattle.model.specs.Book.{moved_of}
use Rattle.model.specs.Step.{fill_all, restore_all}
use Rattle.model.proofs.Tests.{bool}
use Rattle.model.proofs.Sums.{member_occurs}

-- the handle that `ks` with `hs` gives a slot
abbrev pub given : List ℕ → List Handle → ℕ → Option Handle
given [] hs j = none
given (k ∷ ks) [] j = none
given (k ∷ ks) (h ∷ hs) j = pick (eqb j k) (some h) (given ks hs j)

abbrev pub filled : Option Handle → Slot → Slot
filled none x = x
filled (some h) x = occupied (generation x) h

-- slots that are busy, each of a list
abbrev pub Busy : Table → List ℕ → Type 0
Busy t ks = (k : ℕ) → 0 < occurs k ks → is_busy (t.slots k) ≡ true

-- the handles of a claim's moved slots
abbrev pub moved_handles : List Entry → List Handle
moved_handles [] = []
moved_handles (moved k h r ∷ es) = h ∷ moved_handles es
moved_handles (copied h ∷ es) = moved_handles es

pub given_out : (ks : List ℕ) (hs : List Handle) (j : ℕ) → occurs j ks ≡ 0 → given ks hs j ≡ none
given_out [] hs j h = refl
given_out (k ∷ ks) [] j h = refl
given_out (k ∷ ks) (x ∷ hs) j h = bool (eqb j k)
    (λ e. let z : 1 + occurs j ks ≡ 0 = rw e at h in absurd (omega arith))
    (λ e. rw e (given_out ks hs j (let z : 0 + occurs j ks ≡ 0 = rw e at h in omega arith)))

module _ (z : Sizes) where
  pub place_slots : (t : Table) (k : ℕ) (x : Slot) → (place z t k x).slots ≡ put t.slots k x
  unfolding place
  place_slots t k x = refl

  pub vacate_slots : (t : Table) (k : ℕ) → (vacate z t k).slots ≡ put t.slots k (vacant (next_generation (generation (t.slots k))))
  unfolding vacate place
  vacate_slots t k = refl

  pub place_free : (t : Table) (k : ℕ) (x : Slot) → (place z t k x).free ≡ t.free
  unfolding place
  place_free t k x = refl

  pub vacate_free : (t : Table) (k : ℕ) → (vacate z t k).free ≡ k ∷ t.free
  unfolding vacate place
  vacate_free t k = refl

  -- busy contents for one slot leave every busy slot busy
  pub keep_busy : (f : ℕ → Slot) → ((g : ℕ) → is_busy (f g) ≡ true) → (t : Table) (k j : ℕ) → is_busy (t.slots j) ≡ true
      → is_busy ((keep z f t k).slots j) ≡ true
  keep_busy f h t k j e = rw (place_slots t k (f (generation (t.slots k)))) (bool (eqb j k) (λ q. rw (q, h (generation (t.slots k)))) (λ q. rw q e))

  -- those of a list are busy while another is filled
  pub busy_kept : (t : Table) (k : ℕ) (h : Handle) (ks : List ℕ) → Busy t (k ∷ ks) → Busy (keep z (λ g. occupied g h) t k) ks
  busy_kept t k h ks busy i o = keep_busy (λ g. occupied g h) (λ g. refl) t k i (busy i (omega arith))

  -- one slot more
  pub vacate_all_more : (ks : List ℕ) (k : ℕ) (t : Table) → vacate_all z (ks ++ (k ∷ [])) t ≡ vacate z (vacate_all z ks t) k
  vacate_all_more [] k t = refl
  vacate_all_more (j ∷ ks) k t = vacate_all_more ks k (vacate z t j)

  pub take_free_none : (f : ℕ → Slot) (t : Table) → take_free z 0 f t ≡ t
  unfolding take_free
  take_free_none f t = refl

  pub take_free_more : (n : ℕ) (f : ℕ → Slot) (t : Table) (k : ℕ) (l : List ℕ) → t.free ≡ k ∷ l
      → take_free z (suc n) f t ≡ take_free z n f (keep z f (with_free t l) k)
  unfolding take_free place
  take_free_more n f t k l e = rw e

  pub fill_all_none : (ks : List ℕ) (t : Table) → fill_all z ks [] t ≡ t
  fill_all_none [] t = refl
  fill_all_none (k ∷ ks) t = refl

  pub fill_all_append : (ks : List ℕ) (gs hs : List Handle) (t : Table)
      → fill_all z (drop (length gs) ks) hs (fill_all z ks gs t) ≡ fill_all z ks (gs ++ hs) t
  fill_all_append [] [] hs t = refl
  fill_all_append [] (g ∷ gs) hs t = refl
  fill_all_append (k ∷ ks) [] hs t = refl
  fill_all_append (k ∷ ks) (g ∷ gs) hs t = fill_all_append ks gs hs (keep z (λ n. occupied n g) t k)

  -- what an operation leaves alone: limit, mask, life, epoch, size, the detached order and the pages' frames
  pub record Alike (t u : Table) : Type 0 where
    pub limit : u.limit ≡ t.limit
    pub mask : u.mask ≡ t.mask
    pub life : u.life ≡ t.life
    pub epoch : u.epoch ≡ t.epoch
    pub size : u.size ≡ t.size
    pub detached : u.detached ≡ t.detached
    pub frame : (p : ℕ) → (u.pages p).frame ≡ (t.pages p).frame

  pub alike_self : (t : Table) → Alike t t
  alike_self t = record { limit = refl; mask = refl; life = refl; epoch = refl; size = refl; detached = refl; frame = λ p. refl }

  pub alike_then : {t u v : Table} → Alike t u → Alike u v → Alike t v
  alike_then a b = record {
    limit = b.limit ∙ a.limit;
    mask = b.mask ∙ a.mask;
    life = b.life ∙ a.life;
    epoch = b.epoch ∙ a.epoch;
    size = b.size ∙ a.size;
    detached = b.detached ∙ a.detached;
    frame = λ p. b.frame p ∙ a.frame p;
  }

  frame_put : (f : ℕ → Page) (q p g : ℕ) → (put f q (raised (f q) g) p).frame ≡ (f p).frame
  frame_put f q p g = bool (eqb p q) (λ e. rw (e, eqb-true p q e)) (λ e. rw e)

  pub place_alike : (t : Table) (k : ℕ) (x : Slot) → Alike t (place z t k x)
  unfolding place
  place_alike t k x = record {
    limit = refl;
    mask = refl;
    life = refl;
    epoch = refl;
    size = refl;
    detached = refl;
    frame = λ p. frame_put t.pages (page_of z k) p (generation x);
  }

  pub vacate_alike : (t : Table) (k : ℕ) → Alike t (vacate z t k)
  unfolding vacate place
  vacate_alike t k = let a : Alike t (place z t k (vacant (next_generation (generation (t.slots k))))) = place_alike t k
      (vacant (next_generation (generation (t.slots k)))) in
      record { limit = refl; mask = refl; life = refl; epoch = refl; size = refl; detached = refl; frame = a.frame }

  pub keep_all_alike : (f : ℕ → Slot) (ks : List ℕ) (t : Table) → Alike t (keep_all z f ks t)
  keep_all_alike f [] t = alike_self t
  keep_all_alike f (k ∷ ks) t = alike_then (place_alike t k (f (generation (t.slots k)))) (keep_all_alike f ks (keep z f t k))

  pub vacate_all_alike : (ks : List ℕ) (t : Table) → Alike t (vacate_all z ks t)
  vacate_all_alike [] t = alike_self t
  vacate_all_alike (k ∷ ks) t = alike_then (vacate_alike t k) (vacate_all_alike ks (vacate z t k))

  pub fill_all_alike : (ks : List ℕ) (hs : List Handle) (t : Table) → Alike t (fill_all z ks hs t)
  fill_all_alike [] hs t = alike_self t
  fill_all_alike (k ∷ ks) [] t = alike_self t
  fill_all_alike (k ∷ ks) (h ∷ hs) t = alike_then (place_alike t k (occupied (generation (t.slots k)) h))
      (fill_all_alike ks hs (keep z (λ g. occupied g h) t k))

  pub take_free_alike : (n : ℕ) (f : ℕ → Slot) (t : Table) → Alike t (take_free z n f t)
  unfolding take_free
  take_free_alike n f t = let a : Alike (with_free t (drop n t.free))
      (keep_all z f (take n t.free) (with_free t (drop n t.free))) = keep_all_alike f (take n t.free) (with_free t (drop n t.free)) in
      record { limit = a.limit; mask = a.mask; life = a.life; epoch = a.epoch; size = a.size; detached = a.detached; frame = a.frame }

  -- a claim's moved slots are filled again
  pub restore_all_is : (es : List Entry) (t : Table) → restore_all z es t ≡ fill_all z (moved_of es) (moved_handles es) t
  restore_all_is [] t = refl
  restore_all_is (moved k h r ∷ es) t = restore_all_is es (keep z (λ g. occupied g h) t k)
  restore_all_is (copied h ∷ es) t = restore_all_is es t

  pub restore_all_alike : (es : List Entry) (t : Table) → Alike t (restore_all z es t)
  restore_all_alike es t = rw (restore_all_is es t) (fill_all_alike (moved_of es) (moved_handles es) t)

  -- marks that keep the generation, at each number
  pub keep_all_slots : (f : ℕ → Slot) → ((g : ℕ) → generation (f g) ≡ g) → (ks : List ℕ) (t : Table) (j : ℕ)
      → (keep_all z f ks t).slots j ≡ pick (member j ks) (f (generation (t.slots j))) (t.slots j)
  keep_all_slots f g [] t j = refl
  keep_all_slots f g (k ∷ ks) t j = keep_all_slots f g ks (keep z f t k) j ∙ rw (place_slots t k (f (generation (t.slots k)))) (bool (eqb j k)
      (λ e. rw (e, eqb-true j k e, g (generation (t.slots k))) (bool (member k ks) (λ m. rw m) (λ m. rw m)))
      (λ e. rw e))

  pub keep_all_free : (f : ℕ → Slot) (ks : List ℕ) (t : Table) → (keep_all z f ks t).free ≡ t.free
  keep_all_free f [] t = refl
  keep_all_free f (k ∷ ks) t = keep_all_free f ks (keep z f t k) ∙ place_free t k (f (generation (t.slots k)))

  pub take_free_slots : (n : ℕ) (f : ℕ → Slot) → ((g : ℕ) → generation (f g) ≡ g) → (t : Table) (j : ℕ)
      → (take_free z n f t).slots j ≡ pick (member j (take n t.free)) (f (generation (t.slots j))) (t.slots j)
  unfolding take_free
  take_free_slots n f g t j = keep_all_slots f g (take n t.free) (with_free t (drop n t.free)) j

  pub take_free_free : (n : ℕ) (f : ℕ → Slot) (t : Table) → (take_free z n f t).free ≡ drop n t.free
  unfolding take_free
  take_free_free n f t = keep_all_free f (take n t.free) (with_free t (drop n t.free))

  pub vacate_all_slots : (ks : List ℕ) (t : Table) (j : ℕ) → occurs j ks ≤ 1
      → (vacate_all z ks t).slots j ≡ pick (member j ks) (vacant (next_generation (generation (t.slots j)))) (t.slots j)
  vacate_all_slots [] t j c = refl
  vacate_all_slots (k ∷ ks) t j c = vacate_all_slots ks (vacate z t k) j (omega arith) ∙ rw (vacate_slots t k) (bool (eqb j k)
      (λ e. let c' : 1 + occurs j ks ≤ 1 = rw e at c in rw (member_occurs j ks (omega arith), e, eqb-true j k e))
      (λ e. rw e))

  pub vacate_all_out : (ks : List ℕ) (t : Table) (j : ℕ) → occurs j ks ≡ 0 → (vacate_all z ks t).slots j ≡ t.slots j
  vacate_all_out ks t j o = vacate_all_slots ks t j (omega arith) ∙ rw (member_occurs j ks o)

  pub vacate_all_free : (ks : List ℕ) (t : Table) → (vacate_all z ks t).free ≡ push_all ks t.free
  vacate_all_free [] t = refl
  vacate_all_free (k ∷ ks) t = vacate_all_free ks (vacate z t k) ∙ ap (push_all ks) (vacate_free t k)

  pub fill_all_slots : (ks : List ℕ) (hs : List Handle) (t : Table) (j : ℕ) → occurs j ks ≤ 1
      → (fill_all z ks hs t).slots j ≡ filled (given ks hs j) (t.slots j)
  fill_all_slots [] hs t j c = refl
  fill_all_slots (k ∷ ks) [] t j c = refl
  fill_all_slots (k ∷ ks) (h ∷ hs) t j c = fill_all_slots ks hs (keep z (λ g. occupied g h) t k) j (omega arith) ∙
      rw (place_slots t k (occupied (generation (t.slots k)) h)) (bool (eqb j k)
      (λ e. let c' : 1 + occurs j ks ≤ 1 = rw e at c in rw (given_out ks hs j (omega arith), e, eqb-true j k e))
      (λ e. rw e))

  pub fill_all_free : (ks : List ℕ) (hs : List Handle) (t : Table) → (fill_all z ks hs t).free ≡ t.free
  fill_all_free [] hs t = refl
  fill_all_free (k ∷ ks) [] t = refl
  fill_all_free (k ∷ ks) (h ∷ hs) t = fill_all_free ks hs (keep z (λ g. occupied g h) t k) ∙ place_free t k (occupied (generation (t.slots k)) h)

  pub attach_slots : (t : Table) (p f j : ℕ) → (attach z t p f).slots j ≡ pick (on_page z p j) (vacant (next_generation (t.pages p).high)) (t.slots j)
  unfolding attach
  attach_slots t p f j = refl

  pub attach_free : (t : Table) (p f : ℕ) → (attach z t p f).free ≡ push_all (page_range z p) t.free
  unfolding attach
  attach_free t p f = refl

  pub detach_slots : (t : Table) (p j : ℕ) → (detach z t p).slots j ≡ pick (on_page z p j) absent (t.slots j)
  unfolding detach
  detach_slots t p j = refl

  pub detach_free : (t : Table) (p : ℕ) → (detach z t p).free ≡ drop_if (on_page z p) t.free
  unfolding detach
  detach_free t p = refl

  -- growth leaves limit, mask and life alone
  pub record Grown (t u : Table) : Type 0 where
    pub limit : u.limit ≡ t.limit
    pub mask : u.mask ≡ t.mask
    pub life : u.life ≡ t.life

  pub attach_all_grown : (ps fs : List ℕ) (t : Table) → Grown t (attach_all z ps fs t)
  unfolding attach
  attach_all_grown [] fs t = record { limit = refl; mask = refl; life = refl }
  attach_all_grown (p ∷ ps) [] t = record { limit = refl; mask = refl; life = refl }
  attach_all_grown (p ∷ ps) (f ∷ fs) t = let h = attach_all_grown ps fs (attach z t p f) in record { limit = h.limit; mask = h.mask; life = h.life }

  pub grow_grown : (ps fs : List ℕ) (t : Table) → Grown t (grow z ps fs t)
  grow_grown [] fs t = record { limit = refl; mask = refl; life = refl }
  grow_grown (p ∷ ps) fs t = let h = attach_all_grown (p ∷ ps) fs t in record { limit = h.limit; mask = h.mask; life = h.life }

  pub detach_grown : (t : Table) (p : ℕ) → Grown t (detach z t p)
  unfolding detach
  detach_grown t p = record { limit = refl; mask = refl; life = refl }

  -- growth changes the epoch alone beside the attached pages
  pub grow_slots : (ps fs : List ℕ) (t : Table) (j : ℕ) → (grow z ps fs t).slots j ≡ (attach_all z ps fs t).slots j
  grow_slots [] fs t j = refl
  grow_slots (p ∷ ps) fs t j = refl

  pub grow_free : (ps fs : List ℕ) (t : Table) → (grow z ps fs t).free ≡ (attach_all z ps fs t).free
  grow_free [] fs t = refl
  grow_free (p ∷ ps) fs t = refl
