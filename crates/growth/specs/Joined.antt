-- Words to which a page of a table was joined: what they show, and that they show all else as before. Assumes nothing.
use Rattle.std.specs.Prelude.{◌≡◌, ◌&&◌, ltb}
use Rattle.std.proofs.Math.Path.{refl, sym, ap}
use Rattle.std.proofs.Common.{◌∙◌, inl, inr}
use mathlib.Core.List.{List, [], ◌∷◌}
use Prim.Native.Nat.{ℕ, zero, suc, ◌+◌, ◌*◌, ◌/◌, ◌%◌, ◌≤◌, ◌<◌, min}
use native.Mathlib.Omega.{arith}
use Rattle.std.proofs.Math.ListN.{length}
use Rattle.std.proofs.Math.Dec.{eqb}
use borrow.Author.Tests.{eqb-true, eqb-false, lt-ltb, le-ltb, ltb-true, ltb-false}
use Rattle.words.specs.Pick.{pick, bool}
use Rattle.codec.specs.Codec.{next_generation}
use Rattle.model.specs.State.{till, Table, max_slots}
use Rattle.model.specs.Storage.{slots_of}
use Rattle.model.specs.Create.{max_pages}
use Rattle.model.proofs.Bounds.{slots_max_law, pages_max_law}
use Rattle.invariant.proofs.Pages.{till_sane, page_of_law, page_below, vacant_there}
use Rattle.invariant.proofs.Orders.{Room}
use Rattle.layout.specs.declared.Shape.{Shape}
use Rattle.layout.specs.Layout.{Addr, Mem, head, entry, cell, load, Write, Write.at, writes, upd, upds, In, InAll, in_head, in_entry, in_cell_law, length_writes, load_writes}
use Rattle.layout.specs.Turns.{turns, turns_m, length_turns, load_turns}
use Rattle.layout.specs.Fields.{head_epoch, head_pages, head_first_free, head_free_slots, head_first_empty, head_first_detached, head_first_entry, entry_frame, entry_high, entry_busy, entry_next, entry_previous, slot_tag, slot_generation, slot_next_free, slot_previous_free}
use Rattle.layout.specs.Sizes.{page_size, pages_max, slots_max, frames_max, entry_size}
use Rattle.representation.specs.Represents.{entry_at, word_in, frame_of, slot_word}
use Rattle.storage.specs.Order.{head_in}
use Rattle.storage.specs.Sight.{Spot.sl, look, Put.to_slot, OnlyTable, Can, frame_is, still_only, still_frame, put_only, put_in, put_shows, link_frame, cell_p, slot_p, page_p, writes_all, upds_all, length_all, load_all}
use Rattle.storage.specs.Slots.{Seen, see, slot_there, free_vacant, empty_below}
use Rattle.storage.specs.Ops.{up, join_p, join_w}
use Rattle.storage.specs.Vacate.{free_short}
use Rattle.storage.specs.Turns.{Ready}
use Rattle.frames.specs.Paged.{Has, Pages, OnlyPaged, paged_write}
use Rattle.growth.specs.Words.{slots_p, built_w, order_p, entry_p, fresh, size_with, detached_with, joined_w}
use Rattle.growth.specs.Memory.{m_built, built_cell, built_tag, built_generation, built_next, built_prev, slot_cell, m_old, m_entry, m_next, m_joined, joined_head, joined_size, joined_first, joined_count, joined_empty, joined_detached, joined_frame, joined_high, joined_busy, joined_next, joined_prev, joined_page, joined_cell, entry_head}
use Rattle.growth.specs.Table.{Joined}

-- ---- stores that keep to a set of addresses

abbrev pub Within : (Addr → Type 0) → List Write → Type 0
Within P [] = Unit {0}
Within P (at a v ∷ xs) = P a × Within P xs

pub paged_writes : (b fr : ℕ) (m n : Mem) → OnlyPaged b fr m n → (xs : List Write) → Within (Pages m b fr) xs → OnlyPaged b fr m (upds n xs)
paged_writes b fr m n o [] w = o
paged_writes b fr m n o (at a v ∷ xs) w = paged_writes b fr m (upd n (at a v)) (paged_write b fr m n o a v w.0) xs w.1

pub paged_turns : (b fr : ℕ) (m n : Mem) → OnlyPaged b fr m n → (f : ℕ → List Write) → ((i : ℕ) → Within (Pages m b fr) (f i)) → (k : ℕ) → OnlyPaged b fr m (turns_m n f k)
paged_turns b fr m n o f w zero = o
paged_turns b fr m n o f w (suc k) = paged_writes b fr m (turns_m n f k) (paged_turns b fr m n o f w k) (f k) (w k)

-- a plan shows the same where the memories do
upds_agree : (k l : Mem) (a : Addr) → k a ≡ l a → (xs : List Write) → upds k xs a ≡ upds l xs a
upds_agree k l a e [] = e
upds_agree k l a e (at c v ∷ xs) = upds_agree (upd k (at c v)) (upd l (at c v)) a (rw e) xs

pub up_small : (x : ℕ) → x < 0xffff_ffff_ffff_ffff → up x ≡ suc x
up_small x h = omega arith

-- the generation after none
next_none : next_generation 0 ≡ 1
unfolding next_generation
next_none = refl

-- what a page and its frame need: the page may be attached, no page of the table has the frame, and all is in range
pub record Ripe (ws : List ℕ) (sh : Shape) (b : ℕ) (t : Table) (p f : ℕ) : Type 0 where
  pub ready : Ready ws sh b t
  pub room : Room t p
  pub pages : load ws sh (head b head_first_entry) + t.limit ≤ sh.pages
  pub frame : f < sh.frames
  pub frames : sh.frames ≤ frames_max
  pub out : Has (load ws sh) b f → ⊥

module _ (ws : List ℕ) (sh : Shape) (b : ℕ) (t : Table) (p f : ℕ) (r : Ripe ws sh b t p f) where
  page_low : p < max_pages till
  page_low = omega (arith, r.room.within, r.ready.sound.limit)

  page_small : p < pages_max
  page_small = omega (arith, page_low, pages_max_law)

  seen₀ : Seen (load ws sh) (look (load ws sh) b) t
  seen₀ = see (load ws sh) b t r.ready.table

  -- the old head of the free order has a frame
  old_there : (k : ℕ) → load ws sh (head b head_first_free) ≡ suc k → 0 < frame_of (load ws sh) b k
  unfolding look
  old_there k e = slot_there (load ws sh) (look (load ws sh) b) t seen₀ k (vacant_there (t.slots k) (free_vacant t r.ready.sound k
      (head_in (λ i. slot_word (load ws sh) b i slot_next_free) (λ i. slot_word (load ws sh) b i slot_previous_free) (load ws sh (head b head_first_free)) 0 t.free k r.ready.table.free e)))

  -- the head of the empty order is below the size
  empty_low : (q : ℕ) → load ws sh (head b head_first_empty) ≡ suc q → q < t.size
  empty_low q e = empty_below t r.ready.sound q
      (head_in (λ i. load ws sh (entry (entry_at (load ws sh) b i) entry_next)) (λ i. load ws sh (entry (entry_at (load ws sh) b i) entry_previous)) (load ws sh (head b head_first_empty)) 0 t.empty q r.ready.table.empty e)

  can_old : Can (load ws sh) b (to_slot (load ws sh (head b head_first_free)) slot_previous_free (p * page_size + 1))
  can_old = (omega arith, old_there)

  own_page : (q : ℕ) → q < t.limit → In sh (entry (load ws sh (head b head_first_entry) + q) entry_frame) × (load ws sh (head b head_first_entry) + q < sh.pages)
  own_page q h = (in_entry sh (load ws sh (head b head_first_entry) + q) entry_frame (omega (arith, r.pages)) (omega arith), omega (arith, r.pages))

  in_page_p : (l i v : ℕ) → i < entry_size → ((q : ℕ) → l ≡ suc q → q < t.limit) → InAll sh (page_p (load ws sh (head b head_first_entry)) l i v)
  in_page_p zero i v h c = tt
  in_page_p (suc q) i v h c = (in_entry sh (load ws sh (head b head_first_entry) + q) i (own_page q (c q refl)).1 h, tt)

  under : t.size ≤ t.limit
  under = r.ready.sound.size

  -- THE LOAD
  pub load_joined : load (joined_w ws sh b p f) sh ≡ m_joined (load ws sh) b p f
  unfolding joined_w built_w join_w join_p look
  load_joined =
      let g : ℕ = fresh (load ws sh) b p in
      let h : ℕ = load ws sh (head b head_first_free) in
      let e : ℕ = load ws sh (head b head_first_entry) in
      let tb = r.ready.fit.table in
      let w1 : List ℕ = turns ws sh (slots_p f p g h) (slots_of till p) in
      let l1 : length w1 ≡ length ws = length_turns ws sh (slots_p f p g h) (slots_of till p) in
      let e1 : load w1 sh ≡ m_built (load ws sh) f p g h = load_turns ws sh (slots_p f p g h) r.ready.room (slots_of till p)
      (λ i k. (in_cell_law sh f i slot_tag r.frame (omega arith) (omega arith), (in_cell_law sh f i slot_generation r.frame (omega arith) (omega arith), (in_cell_law sh f i slot_next_free r.frame (omega arith) (omega arith), (in_cell_law sh f i slot_previous_free r.frame (omega arith) (omega arith), tt))))) in
      let o : List (List Write) = order_p b p h (link_frame (load ws sh) b h) (load ws sh (head b head_free_slots)) in
      let w2 : List ℕ = writes_all w1 sh o in
      let l2 : length w2 ≡ length w1 = length_all w1 sh o in
      let e2 : load w2 sh ≡ upds_all (load w1 sh) o = load_all w1 sh (omega (arith, r.ready.room)) o
      (put_in sh (load ws sh) b r.ready.fit (load ws sh) (λ a i. refl) (to_slot h slot_previous_free (p * page_size + 1)) can_old, ((in_head sh b head_first_free tb (omega arith), tt), ((in_head sh b head_free_slots tb (omega arith), tt), tt))) in
      let x : List Write = entry_p b e p f g (size_with (load ws sh) b p) (detached_with (load ws sh) b p) in
      let w3 : List ℕ = writes w2 sh x in
      let l3 : length w3 ≡ length w2 = length_writes w2 sh x in
      let pe : load ws sh (head b head_first_entry) + p < sh.pages = (own_page p r.room.within).1 in
      let e3 : load w3 sh ≡ upds (load w2 sh) x = load_writes w2 sh (omega (arith, r.ready.room)) x
      (in_head sh b head_pages tb (omega arith), (in_head sh b head_first_detached tb (omega arith), (in_entry sh (e + p) entry_frame pe (omega arith), (in_entry sh (e + p) entry_high pe (omega arith), (in_entry sh (e + p) entry_busy pe (omega arith), tt))))) in
      let d3 : load w3 sh ≡ m_entry (load ws sh) b p f = e3 ∙ ap (λ (k : Mem). upds k x) (e2 ∙ ap (λ (k : Mem). upds_all k o) e1) in
      let kept_empty : load w3 sh (head b head_first_empty) ≡ load ws sh (head b head_first_empty) = ap (λ (k : Mem). k (head b head_first_empty)) d3 ∙ entry_head (load ws sh) b p f b head_first_empty (λ a c. omega arith) (λ y. omega arith) in
      let kept_first : load w3 sh (head b head_first_entry) ≡ load ws sh (head b head_first_entry) = ap (λ (k : Mem). k (head b head_first_entry)) d3 ∙ entry_head (load ws sh) b p f b head_first_entry (λ a c. omega arith) (λ y. omega arith) in
      let y : List (List Write) = page_p e (load ws sh (head b head_first_empty)) entry_previous (up p) ∷ (at (entry (e + p) entry_next) (load ws sh (head b head_first_empty)) ∷ []) ∷ (at (entry (e + p) entry_previous) 0 ∷ []) ∷ (at (head b head_first_empty) (up p) ∷ []) ∷ [] in
      let e4 : load (writes_all w3 sh y) sh ≡ upds_all (load w3 sh) y = load_all w3 sh (omega (arith, r.ready.room)) y (
        in_page_p (load ws sh (head b head_first_empty)) entry_previous (up p) (omega arith) (λ q z. omega (arith, empty_low q z, under)),
        ((in_entry sh (e + p) entry_next pe (omega arith), tt), ((in_entry sh (e + p) entry_previous pe (omega arith), tt), ((in_head sh b head_first_empty tb (omega arith), tt), tt))),
      ) in
      rw (kept_empty, kept_first) (e4 ∙ ap (λ (k : Mem). upds_all k y) d3)

  -- ALL ELSE is as before
  low_entry : (q i : ℕ) → q < t.limit → Pages (load ws sh) b f (entry (load ws sh (head b head_first_entry) + q) i)
  low_entry q i h = inr (inr (inl (refl, omega arith, omega (arith, r.ready.table.limit))))

  head_entry : (i : ℕ) → head_epoch ≤ i → i ≤ head_first_detached → Pages (load ws sh) b f (head b i)
  head_entry i a c = inr (inl (refl, refl, a, c))

  in_frame : (j i : ℕ) → Pages (load ws sh) b f (cell f j i)
  in_frame j i = inr (inr (inr (inr (inr (refl, inl refl)))))

  old_within : Within (Pages (load ws sh) b f) (slot_p (link_frame (load ws sh) b (load ws sh (head b head_first_free))) (load ws sh (head b head_first_free)) slot_previous_free (p * page_size + 1))
  old_within = go (load ws sh (head b head_first_free))
    where
      slot : (k fr : ℕ) → frame_of (load ws sh) b k ≡ fr → Within (Pages (load ws sh) b f) (cell_p fr (k % page_size) slot_previous_free (p * page_size + 1))
      slot k zero e = tt
      slot k (suc fr) e = let i = frame_is (load ws sh) b k fr e in (inr (inr (inr (inr (inr (refl, inr (k / page_size, i.1, i.2)))))), tt)

      go : (h : ℕ) → Within (Pages (load ws sh) b f) (slot_p (link_frame (load ws sh) b h) h slot_previous_free (p * page_size + 1))
      go zero = tt
      go (suc k) = slot k (frame_of (load ws sh) b k) refl

  next_within : Within (Pages (load ws sh) b f) (page_p (load ws sh (head b head_first_entry)) (load ws sh (head b head_first_empty)) entry_previous (up p))
  next_within = go (load ws sh (head b head_first_empty)) empty_low
    where
      go : (l : ℕ) → ((q : ℕ) → l ≡ suc q → q < t.size) → Within (Pages (load ws sh) b f) (page_p (load ws sh (head b head_first_entry)) l entry_previous (up p))
      go zero c = tt
      go (suc q) c = (low_entry q entry_previous (omega (arith, c q refl, under)), tt)

  pub only_joined : OnlyPaged b f (load ws sh) (m_joined (load ws sh) b p f)
  only_joined =
      let g : ℕ = fresh (load ws sh) b p in
      let h : ℕ = load ws sh (head b head_first_free) in
      let l : (i : ℕ) → Pages (load ws sh) b f (entry (load ws sh (head b head_first_entry) + p) i) = λ i. low_entry p i r.room.within in
      let o1 = paged_turns b f (load ws sh) (load ws sh) (λ a i. refl) (slots_p f p g h) (λ j. (in_frame j slot_tag, (in_frame j slot_generation, (in_frame j slot_next_free, (in_frame j slot_previous_free, tt))))) (slots_of till p) in
      let o2 = paged_writes b f (load ws sh) (m_built (load ws sh) f p g h) o1 (slot_p (link_frame (load ws sh) b h) h slot_previous_free (p * page_size + 1)) old_within in
      let o3 = paged_writes b f (load ws sh) (m_old (load ws sh) b p f) o2 (at (head b head_first_free) (p * page_size + slots_of till p) ∷ at (head b head_free_slots) (min (load ws sh (head b head_free_slots)) slots_max + slots_of till p) ∷ [])
      (head_entry head_first_free (omega arith) (omega arith), (head_entry head_free_slots (omega arith) (omega arith), tt)) in
      let o4 = paged_writes b f (load ws sh) _ o3 (entry_p b (load ws sh (head b head_first_entry)) p f g (size_with (load ws sh) b p) (detached_with (load ws sh) b p))
      (head_entry head_pages (omega arith) (omega arith), (head_entry head_first_detached (omega arith) (omega arith), (l entry_frame, (l entry_high, (l entry_busy, tt))))) in
      let o5 = paged_writes b f (load ws sh) (m_entry (load ws sh) b p f) o4 (page_p (load ws sh (head b head_first_entry)) (load ws sh (head b head_first_empty)) entry_previous (up p)) next_within in
      paged_writes b f (load ws sh) (m_next (load ws sh) b p f) o5 (at (entry (load ws sh (head b head_first_entry) + p) entry_next) (load ws sh (head b head_first_empty)) ∷ at (entry (load ws sh (head b head_first_entry) + p) entry_previous) 0 ∷ at (head b head_first_empty) (up p) ∷ [])
      (l entry_next, (l entry_previous, (head_entry head_first_empty (omega arith) (omega arith), tt)))

  -- ---- what the table shows

  up_page : up p ≡ suc p
  up_page = up_small p (omega (arith, page_small))

  first_kept : m_joined (load ws sh) b p f (head b head_first_entry) ≡ load ws sh (head b head_first_entry)
  first_kept = joined_head (load ws sh) b p f b head_first_entry (λ a c. omega arith)

  size_then : m_joined (load ws sh) b p f (head b head_pages) ≡ pick (eqb p (load ws sh (head b head_pages))) (suc (load ws sh (head b head_pages))) (load ws sh (head b head_pages))
  size_then = joined_size (load ws sh) b p f ∙ rw up_page (bool (eqb p (load ws sh (head b head_pages))) (λ e. rw (e, eqb-true p (load ws sh (head b head_pages)) e)) (λ e. rw e))

  -- pages
  page_then : (q i : ℕ) → m_joined (load ws sh) b p f (entry (entry_at (m_joined (load ws sh) b p f) b q) i) ≡ m_joined (load ws sh) b p f (entry (load ws sh (head b head_first_entry) + q) i)
  page_then q i = ap (λ (x : ℕ). m_joined (load ws sh) b p f (entry (x + q) i)) first_kept

  page_other : (q i : ℕ) → (q ≡ p → ⊥) → m_joined (load ws sh) b p f (entry (entry_at (m_joined (load ws sh) b p f) b q) i)
      ≡ pick (eqb i entry_previous && eqb (load ws sh (head b head_first_empty)) (suc q)) (suc p) (load ws sh (entry (entry_at (load ws sh) b q) i))
  page_other q i n = page_then q i ∙ joined_page (load ws sh) b p f q i n ∙ ap (λ (x : ℕ). pick (eqb i entry_previous && eqb (load ws sh (head b head_first_empty)) (suc q)) x (load ws sh (entry (entry_at (load ws sh) b q) i))) up_page

  -- frames of slots
  frame_on : (k : ℕ) → k / page_size ≡ p → k < max_slots → frame_of (m_joined (load ws sh) b p f) b k ≡ suc f
  frame_on k e l =
      let u : p < m_joined (load ws sh) b p f (head b head_pages) = rw size_then (bool (eqb p (load ws sh (head b head_pages)))
      (λ y. rw y (omega (arith, eqb-true p (load ws sh (head b head_pages)) y)))
      (λ y. rw y (omega (arith, eqb-false p (load ws sh (head b head_pages)) y, r.room.next, r.ready.table.size)))) in
      rw (lt-ltb k max_slots l, e, lt-ltb p (m_joined (load ws sh) b p f (head b head_pages)) u) (page_then p entry_frame ∙ joined_frame (load ws sh) b p f ∙ up_small f (omega (arith, r.frame, r.frames)))

  frame_off : (k : ℕ) → (k / page_size ≡ p → ⊥) → frame_of (m_joined (load ws sh) b p f) b k ≡ frame_of (load ws sh) b k
  frame_off k n =
      let s : ltb (k / page_size) (m_joined (load ws sh) b p f (head b head_pages)) ≡ ltb (k / page_size) (load ws sh (head b head_pages)) = rw size_then (bool (eqb p (load ws sh (head b head_pages)))
      (λ e. rw e (bool (ltb (k / page_size) (load ws sh (head b head_pages)))
      (λ l. rw l (lt-ltb (k / page_size) (suc (load ws sh (head b head_pages))) (omega (arith, ltb-true (k / page_size) (load ws sh (head b head_pages)) l))))
      (λ l. rw l (le-ltb (k / page_size) (suc (load ws sh (head b head_pages))) (let y = eqb-true p (load ws sh (head b head_pages)) e in let x = ltb-false (k / page_size) (load ws sh (head b head_pages)) l in
      let n' : k / page_size ≡ p → ⊥ = n in omega arith)))))
      (λ e. rw e)) in
      rw (s, page_other (k / page_size) entry_frame n)

  -- slots of the page
  own_slot : (j i : ℕ) → j < slots_of till p → slot_word (m_joined (load ws sh) b p f) b (p * page_size + j) i ≡ m_built (load ws sh) f p (fresh (load ws sh) b p) (load ws sh (head b head_first_free)) (cell f j i)
  own_slot j i h =
      let d : (p * page_size + j) / page_size ≡ p = page_of_law till till_sane p (p * page_size + j) (omega arith) (omega arith) in
      let l : p * page_size + j < max_slots = page_below till till_sane p (p * page_size + j) (omega arith) (omega arith) in
      let c : (p * page_size + j) % page_size ≡ j = omega arith in
      let out : link_frame (load ws sh) b (load ws sh (head b head_first_free)) ≡ suc f → ⊥ = not_own (load ws sh (head b head_first_free)) in
      ap (λ (x : ℕ). word_in (m_joined (load ws sh) b p f) x ((p * page_size + j) % page_size) i) (frame_on (p * page_size + j) d l)
      ∙ ap (λ (x : ℕ). m_joined (load ws sh) b p f (cell f x i)) c ∙ joined_cell (load ws sh) b p f f j i
      ∙ slot_cell (m_built (load ws sh) f p (fresh (load ws sh) b p) (load ws sh (head b head_first_free))) (link_frame (load ws sh) b (load ws sh (head b head_first_free))) (load ws sh (head b head_first_free)) slot_previous_free (p * page_size + 1) f j i out
    where
      not_own : (h : ℕ) → link_frame (load ws sh) b h ≡ suc f → ⊥
      not_own zero e = omega arith
      not_own (suc k) e = let i = frame_is (load ws sh) b k f e in r.out (k / page_size, i.1, i.2)

  -- and of other pages
  abbrev m_slot : Mem
  m_slot = upds (load ws sh) (slot_p (link_frame (load ws sh) b (load ws sh (head b head_first_free))) (load ws sh (head b head_first_free)) slot_previous_free (p * page_size + 1))

  pub other_slot : (k i : ℕ) → (k / page_size ≡ p → ⊥)
      → slot_word (m_joined (load ws sh) b p f) b k i ≡ pick (eqb i slot_previous_free && eqb (load ws sh (head b head_first_free)) (suc k)) (suc (p * page_size)) (slot_word (load ws sh) b k i)
  unfolding look
  other_slot k i n =
      let fit = r.ready.fit in
      let only : OnlyTable b (load ws sh) m_slot = put_only sh (load ws sh) b fit (load ws sh) (λ a c. refl) (to_slot (load ws sh (head b head_first_free)) slot_previous_free (p * page_size + 1)) can_old in
      let fr : frame_of m_slot b k ≡ frame_of (load ws sh) b k = still_frame b (load ws sh) m_slot (still_only b (load ws sh) m_slot only) k in
      let link : p * page_size + 1 ≡ suc (p * page_size) = omega arith in
      ap (λ (x : ℕ). word_in (m_joined (load ws sh) b p f) x (k % page_size) i) (frame_off k n)
      ∙ words (frame_of (load ws sh) b k) refl
      ∙ sym (ap (λ (x : ℕ). word_in m_slot x (k % page_size) i) fr)
      ∙ put_shows sh (load ws sh) b fit (load ws sh) (λ a c. refl) (to_slot (load ws sh (head b head_first_free)) slot_previous_free (p * page_size + 1)) can_old (sl k i)
      ∙ ap (λ (x : ℕ). pick (eqb i slot_previous_free && eqb (load ws sh (head b head_first_free)) (suc k)) x (slot_word (load ws sh) b k i)) link
    where
      words : (x : ℕ) → frame_of (load ws sh) b k ≡ x → word_in (m_joined (load ws sh) b p f) x (k % page_size) i ≡ word_in m_slot x (k % page_size) i
      words zero e = refl
      words (suc x) e = let u = frame_is (load ws sh) b k x e in
          let far : x ≡ f → ⊥ = λ d. r.out (k / page_size, u.1, u.2 ∙ ap suc d) in
          joined_cell (load ws sh) b p f x (k % page_size) i
          ∙ upds_agree (m_built (load ws sh) f p (fresh (load ws sh) b p) (load ws sh (head b head_first_free))) (load ws sh) (cell x (k % page_size) i)
          (built_cell (load ws sh) f p (fresh (load ws sh) b p) (load ws sh (head b head_first_free)) x (k % page_size) i far)
          (slot_p (link_frame (load ws sh) b (load ws sh (head b head_first_free))) (load ws sh (head b head_first_free)) slot_previous_free (p * page_size + 1))

  -- the generation
  fresh_is : fresh (load ws sh) b p ≡ next_generation (t.pages p).high
  unfolding fresh
  fresh_is = bool (ltb p (load ws sh (head b head_pages)))
      (λ l. rw (l, r.ready.table.high p (omega (arith, ltb-true p (load ws sh (head b head_pages)) l, r.ready.table.size))))
      (λ l. rw (l, r.ready.sound.rest p (omega (arith, ltb-false p (load ws sh (head b head_pages)) l, r.ready.table.size))) (sym next_none))

  pub joined_is : Joined (look (load ws sh) b) (look (m_joined (load ws sh) b p f) b) p f (next_generation (t.pages p).high) (slots_of till p)
  unfolding look
  joined_is =
      let m' : Mem = m_joined (load ws sh) b p f in
      let g : ℕ = fresh (load ws sh) b p in
      let h : ℕ = load ws sh (head b head_first_free) in
      record {
        heads = λ i l. joined_head (load ws sh) b p f b i (λ a c. omega arith);
        size = size_then;
        first = joined_first (load ws sh) b p f;
        count = joined_count (load ws sh) b p f ∙ omega (arith, r.ready.table.free_count, free_short t r.ready.sound, slots_max_law);
        empty = joined_empty (load ws sh) b p f ∙ up_page;
        detached = joined_detached (load ws sh) b p f ∙ rw up_page;
        frame = page_then p entry_frame ∙ joined_frame (load ws sh) b p f ∙ up_small f (omega (arith, r.frame, r.frames));
        high = page_then p entry_high ∙ joined_high (load ws sh) b p f ∙ fresh_is;
        busy = page_then p entry_busy ∙ joined_busy (load ws sh) b p f;
        next = page_then p entry_next ∙ joined_next (load ws sh) b p f;
        prev = page_then p entry_previous ∙ joined_prev (load ws sh) b p f;
        pages = page_other;
        tags = λ j l. own_slot j slot_tag l ∙ built_tag (load ws sh) f p g h j l;
        generations = λ j l. own_slot j slot_generation l ∙ built_generation (load ws sh) f p g h j l ∙ fresh_is;
        nexts = λ j l. own_slot j slot_next_free l ∙ built_next (load ws sh) f p g h j l;
        prevs = λ j l. own_slot j slot_previous_free l ∙ built_prev (load ws sh) f p g h j l;
        others = other_slot;
      }
