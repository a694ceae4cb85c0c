-- A page is detached in the state: the words come to represent the model's state then. Assumes nothing.
use Rattle.std.specs.Prelude.{◌≡◌, false, ◌&&◌, List, ℕ, zero, suc, ◌+◌, ◌-◌, ◌/◌, ◌≤◌, ◌<◌, length, eqb, ltb}
use Rattle.std.proofs.Math.Path.{refl, ap}
use Rattle.std.proofs.Common.{◌∙◌, inl, inr, arith}
use Rattle.std.proofs.Math.Bool.{true, and-false}
use Rattle.std.proofs.Math.Option.{some}
use borrow.Author.Tests.{eqb-true, eq-eqb, ne_eqb, lt-ltb}
use Rattle.words.specs.Pick.{bool, clash}
use Rattle.model.specs.Base.{occurs, without, drop_if, insert}
use Rattle.model.specs.State.{till, Slot, Slot.absent, Slot.vacant, Slot.reserved, Slot.transfer_reserved, Slot.occupied, Table, State, is_vacant, is_absent, max_slots}
use Rattle.model.specs.Storage.{with_free, busy_of, on_page, detach}
use Rattle.model.specs.WellFormed.{is_attached, Frames}
use Rattle.model.proofs.Tests.{and_right, bit_true}
use Rattle.invariant.proofs.Pages.{till_sane}
use Rattle.invariant.proofs.Orders.{Sound, below_of, detach_sound}
use Rattle.layout.specs.declared.Shape.{Shape}
use Rattle.layout.specs.Layout.{Mem, head, entry, group, load, in_head, in_entry, InAll, length_writes, load_writes, upds}
use Rattle.layout.specs.Fields.{head_page_limit, head_epoch, head_pages, head_first_detached, head_first_entry, entry_frame, entry_next, slot_tag, slot_place, slot_position, row_id}
use Rattle.layout.specs.Sizes.{page_size}
use Rattle.representation.specs.Represents.{entry_at, link_of, slot_word, TableIs, is_marked}
use Rattle.representation.specs.Told.{marked_full}
use Rattle.storage.specs.Sight.{Spot, Spot.sl, look, OnlyTable, Still, still_only, still_fit, Moves, only_then}
use Rattle.storage.specs.Slots.{Seen, unsee, empty_attached, empty_below}
use Rattle.storage.specs.Ops.{leave_w}
use Rattle.storage.specs.Take.{leave_v}
use Rattle.storage.specs.Turns.{Ready, leave_moves}
use Rattle.storage.specs.Reps.{Held, ready_of}
use Rattle.storage.specs.Kept.{PoolSame}
use Rattle.storage.specs.Whole.{table_pool}
use Rattle.frames.specs.Paged.{OnlyPaged, table_paged, paged_write, paged_rows, entry_below}
use Rattle.frames.specs.Whole.{paged, paged_mark}
use Rattle.frames.specs.Done.{held_given}
use Rattle.detach.specs.Ops.{unlink_page_w, join_detached_p, join_detached_w, detach_w}
use Rattle.detach.specs.Page.{Cleared, page_cleared}
use Rattle.detach.specs.Detached.{with_empty, leave_slots, leave_seen, before_empty, after_empty, join_detached_v, join_shows, join_off, join_seen}

marked_there : (x : Slot) → is_marked x ≡ true → is_absent x ≡ false
marked_there absent e = clash e refl
marked_there (vacant g) e = refl
marked_there (reserved g i) e = refl
marked_there (transfer_reserved g i) e = refl
marked_there (occupied g h) e = refl

-- ---- the page leaves both orders

pub record Left (ws ws' : List ℕ) (sh : Shape) (b : ℕ) (t : Table) (p : ℕ) : Type 0 where
  pub long : length ws' ≡ length ws
  pub only : OnlyTable b (load ws sh) (load ws' sh)
  pub table : Seen (load ws sh) (look (load ws' sh) b) (with_empty (with_free t (drop_if (on_page till p) t.free)) (without p t.empty))
  pub others : (i f : ℕ) → is_vacant (t.slots i) ≡ false → look (load ws' sh) b (sl i f) ≡ look (load ws sh) b (sl i f)

module _ (ws : List ℕ) (sh : Shape) (b : ℕ) (t : Table) (r : Ready ws sh b t) (p : ℕ) (inside : 0 < occurs p t.empty) where
  pub page_left : Left ws (leave_w (unlink_page_w ws sh b p) sh b p) sh b t p
  page_left =
      let o : Sound till t t.free = r.sound in
      let att : is_attached t p ≡ true = empty_attached t o p inside in
      let idle : busy_of till t.slots p ≡ 0 = eqb-true (busy_of till t.slots p) 0 (and_right (is_attached t p) (eqb (busy_of till t.slots p) 0)
      (bit_true (is_attached t p && eqb (busy_of till t.slots p) 0) (omega (arith, o.empty p)))) in
      let ws₁ : List ℕ = unlink_page_w ws sh b p in
      let u : Table = with_free t (drop_if (on_page till p) t.free) in
      let c : Cleared ws ws₁ sh b t (drop_if (on_page till p) t.free) = page_cleared ws sh b t r p att idle in
      let v₁ : Spot → ℕ = look (load ws₁ sh) b in
      let st : Still (load ws sh) (load ws₁ sh) b = still_only b (load ws sh) (load ws₁ sh) c.only in
      let below : (q : ℕ) → 0 < occurs q t.empty → q < load ws₁ sh (head b head_pages) = λ q h. omega (arith, st.size, r.table.size, empty_below t o q h) in
      let q : Moves ws₁ (leave_w ws₁ sh b p) sh b (leave_v v₁ p) = leave_moves ws₁ sh b v₁ p (omega (arith, c.long, r.room)) (still_fit sh b (load ws sh) (load ws₁ sh) st r.fit) refl
      (λ x e. below x (before_empty (load ws sh) v₁ u c.table p inside x e))
      (λ x e. below x (after_empty (load ws sh) v₁ u c.table p inside x e)) in
      record {
        long = q.long ∙ c.long;
        only = only_then b (load ws sh) (load ws₁ sh) (load (leave_w ws₁ sh b p) sh) c.only q.only;
        table = rw q.shows (leave_seen (load ws sh) v₁ u c.table p inside (λ x h. o.detached x ∙ rw (empty_attached t o x h, and-false (ltb x t.size))));
        others = λ i f e. ap (λ (w : Spot → ℕ). w (sl i f)) q.shows ∙ leave_slots v₁ p i f ∙ c.others i f e;
      }

-- ---- the whole

module _ (ws : List ℕ) (sh : Shape) (s : State) (h : Held ws sh s) (w : Frames s) (b : ℕ) (lb : b < s.table_count) (p f : ℕ)
    (inside : 0 < occurs p (s.tables b).empty) (was : ((s.tables b).pages p).frame ≡ some f) where
  abbrev t : Table
  t = s.tables b

  abbrev m₀ : Mem
  m₀ = load ws sh

  abbrev ws₂ : List ℕ
  ws₂ = leave_w (unlink_page_w ws sh b p) sh b p

  abbrev ws₃ : List ℕ
  ws₃ = join_detached_w ws₂ sh b p

  abbrev n : Mem
  n = load ws₂ sh

  r : Ready ws sh b t
  r = ready_of ws sh s h b lb

  sound : Sound till t t.free
  sound = r.sound

  left : Left ws ws₂ sh b t p
  left = page_left ws sh b t r p inside

  still : Still m₀ n b
  still = still_only b m₀ n left.only

  att : is_attached t p ≡ true
  att = empty_attached t sound p inside

  under : p < t.size
  under = empty_below t sound p inside

  low : p < t.limit
  low = omega (arith, under, sound.size)

  first : n (head b head_first_entry) ≡ m₀ (head b head_first_entry)
  first = still.first

  in_join : InAll sh (join_detached_p n b p)
  in_join = let e : n (head b head_first_entry) + p < sh.pages = omega (arith, first, entry_below sh m₀ s h.reps.memory h.placed b p lb low) in
      let k : b < sh.tables = r.fit.table in
      (in_entry sh (entry_at n b p) entry_frame e (omega arith), (in_entry sh (entry_at n b p) entry_next e (omega arith), (in_head sh b head_first_detached k (omega arith), (in_head sh b head_epoch k (omega arith), tt))))

  join_is : load ws₃ sh ≡ upds n (join_detached_p n b p)
  unfolding join_detached_w
  join_is = load_writes ws₂ sh (omega (arith, left.long, r.room)) (join_detached_p n b p) in_join

  join_long : length ws₃ ≡ length ws
  unfolding join_detached_w
  join_long = length_writes ws₂ sh (join_detached_p n b p) ∙ left.long

  join_only : OnlyPaged b f m₀ (load ws₃ sh)
  join_only = rw join_is (
      let a : OnlyPaged b f m₀ n = table_paged b f m₀ n (omega (arith, r.table.size, r.table.limit, sound.size)) left.only in
      let x : m₀ (head b head_first_entry) ≤ entry_at n b p = omega (arith, first) in
      let y : entry_at n b p < m₀ (head b head_first_entry) + m₀ (head b head_page_limit) = omega (arith, first, low, r.table.limit) in
      let a₁ = paged_write b f m₀ n a (entry (entry_at n b p) entry_frame) 0 (inr (inr (inl (refl, x, y)))) in
      let a₂ = paged_write b f m₀ _ a₁ (entry (entry_at n b p) entry_next) (n (head b head_first_detached)) (inr (inr (inl (refl, x, y)))) in
      let a₃ = paged_write b f m₀ _ a₂ (head b head_first_detached) _ (inr (inl (refl, refl, omega arith, omega arith))) in
      paged_write b f m₀ _ a₃ (head b head_epoch) _ (inr (inl (refl, refl, omega arith, omega arith))))

  join_groups : (i : ℕ) → i < 3 → (g : ℕ) → upds n (join_detached_p n b p) (group i g) ≡ n (group i g)
  join_groups zero l g = refl
  join_groups (suc zero) l g = refl
  join_groups (suc (suc zero)) l g = refl
  join_groups (suc (suc (suc i))) l g = absurd (omega arith)

  join_pool : PoolSame m₀ (load ws₃ sh)
  join_pool = rw join_is (let a = table_pool b m₀ n left.only in record { owners = a.owners; groups = λ i l g. join_groups i l g ∙ a.groups i l g; count = a.count })

  join_sees : look (load ws₃ sh) b ≡ join_detached_v (look n b) p
  join_sees = ap (λ (x : Mem). look x b) join_is ∙ join_shows n b p

  join_table : TableIs (load ws₃ sh) b (detach till t p)
  join_table = unsee m₀ (load ws₃ sh) b (detach till t p) (λ x. (paged_rows b f m₀ (load ws₃ sh) join_only).rows x row_id)
      (rw join_sees (join_seen m₀ (look n b) t p left.table sound att))

  join_sound : Sound till (detach till t p) (detach till t p).free
  unfolding detach
  join_sound = detach_sound till till_sane t t.free p sound att

  -- a marked slot stands on another page
  join_kept : (k : ℕ) → is_marked ((detach till t p).slots k) ≡ true → (is_marked (t.slots k) ≡ true) × (k / page_size ≡ p → ⊥)
  unfolding detach
  join_kept k e = bool (on_page till p k)
      (λ d. clash {b = false} (rw d at e) refl)
      (λ d. let i : is_marked (t.slots k) ≡ true = rw d at e in
      (i, λ q. let c : on_page till p k ≡ true = rw (eq-eqb (k / page_size) p q, lt-ltb k max_slots (below_of till t t.free sound k (marked_there (t.slots k) i))) in clash c d))

  join_word : (k g : ℕ) → is_marked ((detach till t p).slots k) ≡ true → slot_word (load ws₃ sh) b k g ≡ slot_word m₀ b k g
  unfolding look
  join_word k g e = let q = join_kept k e in
      ap (λ (x : Spot → ℕ). x (sl k g)) join_sees ∙ join_off m₀ (look n b) t p left.table sound att k g q.1 ∙ left.others k g (marked_full (t.slots k) q.0)

  -- DETACH
  pub detach_held : Held (detach_w ws sh b p) sh (paged s b (detach till (s.tables b) p) (insert f s.frames))
  unfolding detach_w look detach
  detach_held =
      let e : m₀ (entry (entry_at m₀ b p) entry_frame) - 1 ≡ f = omega (arith, r.table.frame p under, ap link_of was) in
      rw e (held_given ws ws₃ sh s h w b lb f p join_long join_only join_pool (detach till t p) join_table join_sound refl
      (λ q d. rw (ne_eqb q p d))
      (λ k i. let c = join_kept k i in paged_mark b f m₀ (load ws₃ sh) join_only s k (join_word k slot_tag i) (join_word k slot_place i) (join_word k slot_position i) (h.reps.memory.book.marks b k lb c.0))
      under was (rw (eq-eqb p p refl)) refl)
