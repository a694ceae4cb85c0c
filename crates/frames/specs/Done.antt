-- A page's change whose last step is the pool's: the words represent the state with the table and the free frames. Assumes nothing.
use Rattle.std.specs.Prelude.{◌≡◌, refl, true, List, ℕ, ◌+◌, ◌≤◌, ◌<◌, length}
use Rattle.std.proofs.Common.{sym, ◌∙◌, ⊎_elim, arith}
use Rattle.std.proofs.Math.Path.{ap, fun_ext}
use Rattle.std.proofs.Math.Option.{none, some}
use Rattle.model.specs.Base.{insert}
use Rattle.model.specs.State.{till, Table, State}
use Rattle.model.specs.WellFormed.{Frames}
use Rattle.model.proofs.Tests.{apart}
use Rattle.invariant.proofs.Orders.{Sound}
use Rattle.layout.specs.declared.Shape.{Shape}
use Rattle.layout.specs.Layout.{Addr.reg, Mem, total, head, entry, owner, load}
use Rattle.layout.specs.Fields.{head_first_entry, slot_tag, slot_place, slot_position, row_id}
use Rattle.layout.specs.Sizes.{plan_owner}
use Rattle.layout.specs.RegionNames.{region_root, region_head, region_entry, region_owner, region_group16, region_group4096, region_cell}
use Rattle.representation.specs.Represents.{slot_word, link_of, TableIs, is_marked}
use Rattle.storage.specs.Order.{same?}
use Rattle.storage.specs.Sight.{Spot, Spot.hd, Spot.pg, Spot.sl, look}
use Rattle.storage.specs.Slots.{see, unsee}
use Rattle.storage.specs.Kept.{all_stay, slot_kept, PoolSame, RowsStay, rows_stay, MarkIs, mark_kept}
use Rattle.storage.specs.Reps.{Held}
use Rattle.storage.specs.Ops.{up}
use Rattle.frames.specs.Paged.{Has, OnlyPaged, own_alone, paged_first, paged_plans, owner_low}
use Rattle.frames.specs.Whole.{paged, placed_paged, held_paged}
use Rattle.frames.specs.Pool.{Pooled}
use Rattle.frames.specs.Frames.{frames_are_given, frames_few}
use Rattle.frames.specs.Ops.{give_frame_w}
use Rattle.frames.specs.Words.{pooled_between, OnlyPool, paged_pool, Steps, give_steps}

-- ---- the pool's words are no table's

module _ (f : ℕ) (m n : Mem) (o : OnlyPool f m n) where
  pub pool_off : (k x y g : ℕ) → (k ≡ region_owner → ⊥) → (region_group16 ≤ k → k ≤ region_group4096 → ⊥) → (k ≡ region_root → ⊥) → n (reg k x y g) ≡ m (reg k x y g)
  pool_off k x y g a b c = o (reg k x y g) (⊎_elim (λ i. a i.0) (⊎_elim (λ i. b i.0 i.1) (λ i. c i.0)))

  pub pool_head : (b g : ℕ) → n (head b g) ≡ m (head b g)
  pool_head b g = pool_off region_head b 0 g (λ e. omega arith) (λ e d. omega arith) (λ e. omega arith)

  pool_entry : (x g : ℕ) → n (entry x g) ≡ m (entry x g)
  pool_entry x g = pool_off region_entry x 0 g (λ e. omega arith) (λ e d. omega arith) (λ e. omega arith)

  pool_slot : (b k g : ℕ) → slot_word n b k g ≡ slot_word m b k g
  pool_slot b = slot_kept m n b (all_stay m n pool_head pool_entry (λ x j g. pool_off region_cell x j g (λ e. omega arith) (λ e d. omega arith) (λ e. omega arith)) b)

  pub pool_rows : RowsStay m n
  pool_rows = rows_stay m n (λ k x y g l. pool_off k x y g (λ e. omega arith) (λ e d. omega arith) (λ e. omega arith))

  pub pool_look : (b : ℕ) → look n b ≡ look m b
  unfolding look
  pool_look b = fun_ext shows
    where
      shows : (c : Spot) → look n b c ≡ look m b c
      shows (hd g) = pool_head b g
      shows (pg p g) = ap (λ (x : ℕ). n (entry (x + p) g)) (pool_head b head_first_entry) ∙ pool_entry (m (head b head_first_entry) + p) g
      shows (sl k g) = pool_slot b k g

  pub pool_table : (b : ℕ) (u : Table) → TableIs m b u → TableIs n b u
  pool_table b u i = unsee m n b u (λ r. pool_rows.rows r row_id) (rw (pool_look b) (see m b u i))

  pub pool_mark : (s : State) (b k : ℕ) → MarkIs m s b k → MarkIs n s b k
  pool_mark s b k = mark_kept m n pool_rows s b k (pool_slot b k slot_tag) (pool_slot b k slot_place) (pool_slot b k slot_position)

-- ---- the whole change

pool_same : (m : Mem) → PoolSame m m
pool_same m = record { owners = λ g. refl; groups = λ i l g. refl; count = refl }

-- ws₁ are the words before the pool's step: table b has changed, and the pool has not
module _ (ws ws₁ : List ℕ) (sh : Shape) (s : State) (h : Held ws sh s) (w : Frames s) (b : ℕ) (lb : b < s.table_count) (f p : ℕ)
    (long : length ws₁ ≡ length ws) (o : OnlyPaged b f (load ws sh) (load ws₁ sh)) (same : PoolSame (load ws sh) (load ws₁ sh))
    (u : Table) (now : TableIs (load ws₁ sh) b u) (sound : Sound till u u.free) (lim : u.limit ≡ (s.tables b).limit)
    (others : (q : ℕ) → (q ≡ p → ⊥) → (u.pages q).frame ≡ ((s.tables b).pages q).frame)
    (marked : (k : ℕ) → is_marked (u.slots k) ≡ true → MarkIs (load ws₁ sh) s b k) where
  room : total sh ≤ length ws₁
  room = omega (arith, long, h.reps.shaped.room)

  -- PAGE p LOST ITS FRAME f
  pub held_given : p < (s.tables b).size → ((s.tables b).pages p).frame ≡ some f → (u.pages p).frame ≡ none → u.size ≡ (s.tables b).size
      → Held (give_frame_w ws₁ sh f) sh (paged s b u (insert f s.frames))
  held_given lp was gone size =
      let r = h.reps.memory in
      let t : TableIs (load ws sh) b (s.tables b) = r.tables b lb in
      let has : Has (load ws sh) b f = (p, omega (arith, t.size), t.frame p lp ∙ ap link_of was) in
      let below : f < s.frame_count = h.placed.frames b p f lb lp was in
      let low : load ws sh (owner f) < plan_owner
      = omega (arith, r.frames.held b p f lb lp was, owner_low sh (load ws sh) s r h.placed h.reps.shaped.limits b p lb (omega (arith, (h.placed.sound b lb).size))) in
      let ws₂ : List ℕ = give_frame_w ws₁ sh f in
      let st : Steps up ws₁ ws₂ sh f 0 = give_steps ws₁ sh room f (omega (arith, below, r.frame_count)) in
      let only : OnlyPaged b f (load ws sh) (load ws₂ sh) = paged_pool b f (load ws sh) (load ws₁ sh) (load ws₂ sh) o st.only in
      let pool : Pooled up (load ws sh) (load ws₂ sh) f 0 = pooled_between up (load ws sh) (load ws₁ sh) (load ws₂ sh) (load ws₂ sh) f 0 same (pool_same (load ws₂ sh)) st.pool in
      held_paged ws ws₂ sh s h b lb f (own_alone sh (load ws sh) s r h.placed b f lb has) (st.long ∙ long)
      only u (pool_table f (load ws₁ sh) (load ws₂ sh) st.only b u now) lim (paged_plans b f (load ws sh) (load ws₂ sh) only low (length s.book.rows)) (insert f s.frames)
      (frames_are_given (load ws sh) (load ws₂ sh) s b p f u (paged_first b f (load ws sh) (load ws₂ sh) only) others sh r h.placed lb lp was
      (omega (arith, frames_few s w, r.frame_count, h.reps.shaped.limits.few_frames)) pool gone size)
      (placed_paged s b u (insert f s.frames) h.placed sound (λ q g i d. ⊎_elim
      (λ (y : q ≡ p). let z : none ≡ some g = sym gone ∙ ap (λ (x : ℕ). (u.pages x).frame) (sym y) ∙ d in apart (cc))
      (λ (y : q ≡ p → ⊥). h.placed.frames b q g lb (omega (arith, size)) (sym (others q y) ∙ d))
      (same? q p)))
      (λ k i. pool_mark f (load ws₁ sh) (load ws₂ sh) st.only s b k (marked k i))
