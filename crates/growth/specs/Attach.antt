-- A page is attached in a free frame: the words come to represent the model's state after it. Assumes nothing.
use Rattle.std.specs.Prelude.{◌≡◌, refl, ◌&&◌, ◌⊎◌, List, ◌∷◌, length, ltb}
use Rattle.std.proofs.Math.Path.{sym, ap}
use Rattle.std.proofs.Common.{◌∙◌, arith, eq-eqb, ne_eqb, eqb-true}
use Rattle.std.proofs.Math.Bool.{true}
use Rattle.std.proofs.Math.Option.{some}
use Prim.Native.Nat.{ℕ, suc, ◌+◌, ◌*◌, ◌/◌, ◌<◌, min}
use Rattle.std.proofs.Math.Dec.{eqb}
use Rattle.std.proofs.lemmas.Bool.{eqb-false}
use Rattle.words.specs.Pick.{bool, clash}
use Rattle.codec.specs.Codec.{next_generation}
use Rattle.model.specs.Base.{pick, occurs}
use Rattle.model.specs.State.{till, Slot, Slot.absent, Slot.vacant, State, max_slots}
use Rattle.model.specs.Storage.{slots_of, on_page, attach}
use Rattle.model.specs.Change.{with_table, with_frames}
use Rattle.model.specs.WellFormed.{Frames}
use Rattle.model.proofs.Counting.{sum_next}
use Rattle.invariant.proofs.Pages.{till_sane}
use Rattle.invariant.proofs.Pointwise.{attach_slots, attach_free}
use Rattle.invariant.proofs.Orders.{Room, order_is, absent_past, attach_sound}
use Rattle.layout.specs.declared.Shape.{Shape}
use Rattle.layout.specs.Layout.{Mem, head, load, Write, writes, length_writes}
use Rattle.layout.specs.Turns.{turns, length_turns}
use Rattle.layout.specs.Fields.{root_free_frames, head_first_free, head_free_slots, head_first_entry, slot_tag, slot_next_free, slot_previous_free, slot_place, slot_position, row_id}
use Rattle.layout.specs.Sizes.{page_size, number32_max}
use Rattle.layout.specs.RegionNames.{region_root, region_owner, region_group16}
use Rattle.representation.specs.Represents.{entry_at, slot_word, TableIs, FramesAre, is_marked}
use Rattle.representation.specs.Told.{marked_full}
use Rattle.storage.specs.Order.{head_in}
use Rattle.storage.specs.Sight.{Spot, Spot.sl, look, link_frame, reals, writes_all, length_all}
use Rattle.storage.specs.Slots.{Seen, see, unsee, free_vacant}
use Rattle.storage.specs.Ops.{up, join_p, join_w}
use Rattle.frames.specs.Ops.{step_p, take_frame_w}
use Rattle.storage.specs.Kept.{PoolSame}
use Rattle.storage.specs.Whole.{Placed}
use Rattle.storage.specs.Reps.{Held, ready_of}
use Rattle.frames.specs.Paged.{OnlyPaged, has_owner, free_alone, paged_first, paged_rows, paged_plans}
use Rattle.frames.specs.Whole.{paged, placed_paged, held_paged_marks}
use Rattle.frames.specs.Pool.{Pooled, down, Taken}
use Rattle.frames.specs.Frames.{frames_are_taken, taken_there, free_below, some_is}
use Rattle.frames.specs.Done.{pool_look}
use Rattle.frames.specs.Words.{pooled_between, paged_pool, Steps, take_steps}
use Rattle.growth.specs.Words.{slots_p, built_w, order_p, entry_p, fresh, size_with, detached_with, joined_w, attach_w}
use Rattle.growth.specs.Memory.{m_joined, joined_off}
use Rattle.growth.specs.Table.{below, joined_seen}
use Rattle.growth.specs.Joined.{Ripe, load_joined, only_joined, other_slot, joined_is}

length_join : (ws : List ℕ) (sh : Shape) (b p : ℕ) → length (join_w ws sh b p) ≡ length ws
unfolding join_w
length_join ws sh b p = length_all ws sh (reals (load ws sh) b (join_p (look (load ws sh) b) p))

pub length_joined : (ws : List ℕ) (sh : Shape) (b p f : ℕ) → length (joined_w ws sh b p f) ≡ length ws
unfolding joined_w built_w
length_joined ws sh b p f =
    let g : ℕ = fresh (load ws sh) b p in
    let h : ℕ = load ws sh (head b head_first_free) in
    let w1 : List ℕ = turns ws sh (slots_p f p g h) (slots_of till p) in
    let o : List (List Write) = order_p b p h (link_frame (load ws sh) b h) (load ws sh (head b head_free_slots)) in
    let w2 : List ℕ = writes_all w1 sh o in
    let x : List Write = entry_p b (load ws sh (head b head_first_entry)) p f g (size_with (load ws sh) b p) (detached_with (load ws sh) b p) in
    length_join (writes w2 sh x) sh b p ∙ length_writes w2 sh x ∙ length_all w1 sh o ∙ length_turns ws sh (slots_p f p g h) (slots_of till p)

pub length_attach : (ws : List ℕ) (sh : Shape) (b p f : ℕ) → length (attach_w ws sh b p f) ≡ length ws
unfolding attach_w take_frame_w
length_attach ws sh b p f = length_writes (joined_w ws sh b p f) sh (step_p down (load (joined_w ws sh b p f) sh) f (up (min (load ws sh (head b head_first_entry)) number32_max + p))) ∙ length_joined ws sh b p f

marked_here : (x : Slot) (g : ℕ) → x ≡ vacant g → is_marked x ≡ true → ⊥
marked_here x g e d = clash (sym (ap is_marked e) ∙ d) refl

module _ (ws : List ℕ) (sh : Shape) (s : State) (h : Held ws sh s) (b : ℕ) (l : b < s.table_count) (w : Frames s) (p f : ℕ) (fs : List ℕ) (taken : Taken f fs s.frames)
    (room : Room (s.tables b) p) (ds : List ℕ) (turn : (p ≡ (s.tables b).size) ⊎ ((s.tables b).detached ≡ p ∷ ds)) where
  free_here : 0 < occurs f s.frames
  free_here = taken_there f fs s.frames taken

  frame_low : f < s.frame_count
  frame_low = free_below s w f free_here

  ripe : Ripe ws sh b (s.tables b) p f
  ripe = let r = h.reps.memory in record {
    ready = ready_of ws sh s h b l;
    room = room;
    pages = omega (arith, r.first b l, r.page_count, sum_next s.table_count (λ c. (s.tables c).limit) b l);
    frame = omega (arith, frame_low, r.frame_count);
    frames = h.reps.shaped.limits.few_frames;
    out = λ i. omega (arith, has_owner sh (load ws sh) s r h.placed b f l i, r.frames.free f free_here);
  }

  entry_is : min (load ws sh (head b head_first_entry)) number32_max + p ≡ entry_at (load ws sh) b p
  entry_is = omega (arith, ripe.pages, h.reps.shaped.limits.few_pages, h.reps.shaped.limits.few_tables)

  entry_low : entry_at (load ws sh) b p < 0xffff_ffff_ffff_ffff
  entry_low = omega (arith, ripe.pages, h.reps.shaped.limits.few_pages, h.reps.shaped.limits.few_tables, room.within)

  steps : Steps down (joined_w ws sh b p f) (attach_w ws sh b p f) sh f (suc (entry_at (load ws sh) b p))
  unfolding attach_w
  steps = let d : up (entry_at (load ws sh) b p) ≡ suc (entry_at (load ws sh) b p) = omega (arith, entry_low) in
      rw (entry_is, d) (take_steps (joined_w ws sh b p f) sh (omega (arith, length_joined ws sh b p f, h.reps.shaped.room)) f ripe.frame (suc (entry_at (load ws sh) b p)))

  only₁ : OnlyPaged b f (load ws sh) (load (joined_w ws sh b p f) sh)
  only₁ = rw (load_joined ws sh b (s.tables b) p f ripe) (only_joined ws sh b (s.tables b) p f ripe)

  -- all else is as before
  pub only : OnlyPaged b f (load ws sh) (load (attach_w ws sh b p f) sh)
  only = paged_pool b f (load ws sh) (load (joined_w ws sh b p f) sh) (load (attach_w ws sh b p f) sh) only₁ steps.only

  shows : look (load (attach_w ws sh b p f) sh) b ≡ look (m_joined (load ws sh) b p f) b
  shows = pool_look f (load (joined_w ws sh b p f) sh) (load (attach_w ws sh b p f) sh) steps.only b ∙ ap (λ (k : Mem). look k b) (load_joined ws sh b (s.tables b) p f ripe)

  seen : Seen (load ws sh) (look (load ws sh) b) (s.tables b)
  seen = see (load ws sh) b (s.tables b) (h.reps.memory.tables b l)

  table_is : TableIs (load (attach_w ws sh b p f) sh) b (attach till (s.tables b) p f)
  table_is = unsee (load ws sh) (load (attach_w ws sh b p f) sh) b (attach till (s.tables b) p f) (λ x. (paged_rows b f (load ws sh) (load (attach_w ws sh b p f) sh) only).rows x row_id)
      (rw shows (joined_seen (load ws sh) (look (load ws sh) b) (look (m_joined (load ws sh) b p f) b) (s.tables b) seen (h.placed.sound b l) p f room ds turn
      (joined_is ws sh b (s.tables b) p f ripe)))

  pool_same : PoolSame (load ws sh) (load (joined_w ws sh b p f) sh)
  pool_same = rw (load_joined ws sh b (s.tables b) p f ripe) (record {
    owners = λ g. joined_off (load ws sh) b p f region_owner g 0 0 (λ e. omega arith) (λ e. omega arith) (λ e. omega arith);
    groups = λ i c g. joined_off (load ws sh) b p f (region_group16 + i) g 0 0 (λ e. omega arith) (λ e. omega arith) (λ e. omega arith);
    count = joined_off (load ws sh) b p f region_root 0 0 root_free_frames (λ e. omega arith) (λ e. omega arith) (λ e. omega arith);
  })

  pooled : Pooled down (load ws sh) (load (attach_w ws sh b p f) sh) f (suc (entry_at (load ws sh) b p))
  pooled = pooled_between down (load ws sh) (load (joined_w ws sh b p f) sh) (load (attach_w ws sh b p f) sh) (load (attach_w ws sh b p f) sh) f (suc (entry_at (load ws sh) b p))
      pool_same (record { owners = λ g. refl; groups = λ i c g. refl; count = refl }) steps.pool

  frames_are : FramesAre (load (attach_w ws sh b p f) sh) (paged s b (attach till (s.tables b) p f) fs)
  unfolding attach
  frames_are = frames_are_taken (load ws sh) (load (attach_w ws sh b p f) sh) s b p f (attach till (s.tables b) p f) (paged_first b f (load ws sh) (load (attach_w ws sh b p f) sh) only)
      (λ q n. rw (ne_eqb q p n)) h.reps.memory.frames fs taken pooled (rw (eq-eqb p p refl))
      (λ q n k. below (load ws sh) (look (load ws sh) b) (look (m_joined (load ws sh) b p f) b) (s.tables b) seen (h.placed.sound b l) p f room ds turn
      (joined_is ws sh b (s.tables b) p f ripe) q n k)

  placed : Placed till (paged s b (attach till (s.tables b) p f) fs)
  placed = placed_paged s b (attach till (s.tables b) p f) fs h.placed
      (order_is till (attach till (s.tables b) p f) _ (attach till (s.tables b) p f).free (sym (attach_free till (s.tables b) p f)) (attach_sound till till_sane (s.tables b) (s.tables b).free p f (h.placed.sound b l) room))
      (λ q g k e. in_range q g k e)
    where
      in_range : (q g : ℕ) → q < (attach till (s.tables b) p f).size → ((attach till (s.tables b) p f).pages q).frame ≡ some g → g < s.frame_count
      in_range q g k e = bool (eqb q p)
          (λ d. let y : g ≡ f = some_is f g (at_page q (eqb-true q p d) ∙ e) in omega (arith, frame_low))
          (λ d. h.placed.frames b q g l (below (load ws sh) (look (load ws sh) b) (look (m_joined (load ws sh) b p f) b) (s.tables b) seen (h.placed.sound b l) p f room ds turn
          (joined_is ws sh b (s.tables b) p f ripe) q (eqb-false q p d) k) (off_page q (eqb-false q p d) ∙ e))
        where
          at_page : (q : ℕ) → q ≡ p → some f ≡ ((attach till (s.tables b) p f).pages q).frame
          at_page q d = unfold attach in rw (eq-eqb q p d)

          off_page : (q : ℕ) → (q ≡ p → ⊥) → ((s.tables b).pages q).frame ≡ ((attach till (s.tables b) p f).pages q).frame
          off_page q d = unfold attach in rw (ne_eqb q p d)

  -- the marks are on other pages, on slots whose words stay
  marks : (k : ℕ) → is_marked ((attach till (s.tables b) p f).slots k) ≡ true
      → (is_marked ((s.tables b).slots k) ≡ true) × (slot_word (load (attach_w ws sh b p f) sh) b k slot_tag ≡ slot_word (load ws sh) b k slot_tag) × (slot_word (load (attach_w ws sh b p f) sh) b k slot_place ≡ slot_word (load ws sh) b k slot_place)
      × (slot_word (load (attach_w ws sh b p f) sh) b k slot_position ≡ slot_word (load ws sh) b k slot_position)
  unfolding look
  marks k e =
      let d : (attach till (s.tables b) p f).slots k ≡ pick (on_page till p k) (vacant (next_generation ((s.tables b).pages p).high)) ((s.tables b).slots k) = attach_slots till (s.tables b) p f k in
      bool (eqb (k / page_size) p)
      (λ y. bool (ltb k max_slots)
      (λ x. absurd (marked_here ((attach till (s.tables b) p f).slots k) (next_generation ((s.tables b).pages p).high) (d ∙ rw (y, x)) e))
      (λ x. let a : (attach till (s.tables b) p f).slots k ≡ absent = d ∙ rw (y, x) (absent_past till (s.tables b) (s.tables b).free (h.placed.sound b l) k x) in
      clash (sym (ap is_marked a) ∙ e) refl))
      (λ y. let c : (attach till (s.tables b) p f).slots k ≡ (s.tables b).slots k = d ∙ rw y in
      let a : is_marked ((s.tables b).slots k) ≡ true = sym (ap is_marked c) ∙ e in
      let off : load ws sh (head b head_first_free) ≡ suc k → ⊥ = λ z. clash (free_vacant (s.tables b) (h.placed.sound b l) k
      (head_in (λ i. slot_word (load ws sh) b i slot_next_free) (λ i. slot_word (load ws sh) b i slot_previous_free) (load ws sh (head b head_first_free)) 0 (s.tables b).free k (h.reps.memory.tables b l).free z)) (marked_full ((s.tables b).slots k) a) in
      let v : (i : ℕ) → slot_word (load (attach_w ws sh b p f) sh) b k i ≡ pick (eqb i slot_previous_free && eqb (load ws sh (head b head_first_free)) (suc k)) (suc (p * page_size)) (slot_word (load ws sh) b k i)
      = λ i. ap (λ (c : Spot → ℕ). c (sl k i)) shows ∙ other_slot ws sh b (s.tables b) p f ripe k i (eqb-false (k / page_size) p y) in
      (a, v slot_tag, v slot_place, v slot_position ∙ rw (ne_eqb (load ws sh (head b head_first_free)) (suc k) off)))

  -- ATTACH
  pub attach_held : Held (attach_w ws sh b p f) sh (with_frames (with_table s b (attach till (s.tables b) p f)) fs)
  attach_held = held_paged_marks ws (attach_w ws sh b p f) sh s h b l f (free_alone sh (load ws sh) s h.reps.memory h.placed b f free_here)
      (length_attach ws sh b p f) only (attach till (s.tables b) p f) table_is (unfold attach in refl)
      (paged_plans b f (load ws sh) (load (attach_w ws sh b p f) sh) only (omega (arith, h.reps.memory.frames.free f free_here)) (length s.book.rows)) fs frames_are placed marks
