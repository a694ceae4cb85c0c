-- A table grows by the pages of a plan: the words come to represent the model's state. Assumes nothing.
use Rattle.std.specs.Prelude.{◌≡◌, Bool, ◌&&◌, ◌⊎◌, drop}
use Rattle.std.proofs.Math.Path.{refl, sym, ap, fun_ext, subst}
use Rattle.std.proofs.Common.{◌∙◌, inl, inr, length-take}
use Rattle.std.proofs.Math.Bool.{false, not}
use mathlib.Core.List.{List, [], ◌∷◌}
use Rattle.std.proofs.Math.Option.{none, some}
use Prim.Native.Nat.{ℕ, zero, suc, ◌+◌, ◌-◌, ◌≤◌, ◌<◌, min}
use native.Mathlib.Omega.{arith}
use Rattle.std.proofs.Math.ListN.{length}
use Rattle.std.proofs.Math.Dec.{eqb, ltb}
use borrow.Author.Tests.{ne_eqb, eqb-true, le-ltb}
use Rattle.words.specs.Pick.{bool}
use Rattle.model.specs.Base.{put, bit, occurs, without, insert, insert_all}
use Rattle.model.specs.State.{Sizes, till, Table, State, max_batch}
use Rattle.model.specs.Storage.{slots_of, pages_from, pages_for, attach, attach_all, grow, advance}
use Rattle.model.specs.Change.{with_table, with_frames}
use Rattle.model.specs.WellFormed.{is_attached, Rising, Frames}
use Rattle.model.proofs.Tests.{apart, bit_small, same, also_some}
use Rattle.model.proofs.Sums.{without_none}
use Rattle.model.proofs.Counting.{bit_same}
use Rattle.model.proofs.Bounds.{pages_max_law, batch_max_law}
use Rattle.invariant.proofs.Pages.{Sane, till_sane}
use Rattle.invariant.proofs.Orders.{Sound, Room, attach_sound}
use Rattle.invariant.proofs.Frames.{Grows, pages_grow, reserve_length, attach_all_owned, rising_tail}
use Rattle.invariant.proofs.StorageViews.{occurs_inserted, rising_inserted}
use Rattle.layout.specs.declared.Shape.{Shape}
use Rattle.layout.specs.Layout.{Addr.reg, Mem, head, entry, item, load}
use Rattle.layout.specs.Fields.{head_pages, head_first_detached, entry_next, item_page, item_frame}
use Rattle.layout.specs.Sizes.{last_page, batch_max}
use Rattle.layout.specs.RegionNames.{region_object, region_row}
use Rattle.representation.specs.Represents.{entry_at, Linked, TableIs, Items}
use Rattle.storage.specs.Kept.{items_kept}
use Rattle.storage.specs.Reps.{Held}
use Rattle.frames.specs.Paged.{paged_high}
use Rattle.frames.specs.Whole.{paged}
use Rattle.frames.specs.Pool.{Taken, length_insert}
use Rattle.frames.specs.Frames.{frames_taken, taken_first}
use Rattle.frames.specs.Lowest.{owners_of, lowest_free}
use Rattle.growth.specs.Words.{page_at, attach_w, each_w, attach_next_w, attach_all_w, attach_item_w, attach_in_w, advance_w, aged_w, grow_w, grow_in_w}
use Rattle.growth.specs.Attach.{only, attach_held}
use Rattle.growth.specs.Epoch.{advance_held}

-- ---- the pages of a plan come in the order in which growth finds them

-- the page that growth finds: the first detached one, or a new one
abbrev pub next_page : List ℕ → ℕ → ℕ
next_page [] n = n
next_page (d ∷ ds) n = d

abbrev pub Follows : Sizes → Table → List ℕ → Type 0
Follows z t [] = Unit {0}
Follows z t (p ∷ ps) = (p ≡ next_page t.detached t.size) × Room t p × ((f : ℕ) → Follows z (attach z t p f) ps)

module _ (z : Sizes) (sane : Sane z) where
  planned : (fuel k : ℕ) (ds : List ℕ) (n l : ℕ) (t : Table) (fr : List ℕ) → Sound z t fr → t.detached ≡ ds → t.size ≡ n → t.limit ≡ l
      → (ps : List ℕ) → pages_from z fuel k ds n l ≡ some ps → Grows z t ps → Follows z t ps
  unfolding attach
  planned zero zero ds n l t fr o d c i ps e g = let y : ps ≡ [] = cc in rw y tt
  planned zero (suc k) ds n l t fr o d c i ps e g = apart (cc)
  planned (suc fuel) zero ds n l t fr o d c i ps e g = let y : ps ≡ [] = cc in rw y tt
  planned (suc fuel) (suc k) [] n l t fr o d c i ps e g = bool (eqb n l)
      (λ q. let x : none ≡ some ps = rw q at e in apart (cc))
      (λ q. let a = also_some n (pages_from z fuel (suc k - slots_of z n) [] (suc n) l) ps (rw q at e) in
      let g' : Grows z t (n ∷ a.0) = rw a.2 at g in
      rw a.2 (
        rw (d, c),
        g'.0,
        λ f. planned fuel (suc k - slots_of z n) [] (suc n) l (attach z t n f) _ (attach_sound z sane t fr n f o g'.0) (ap (without n) d) (rw (c, same n)) i a.0 a.1 (g'.1 f),
      ))
  planned (suc fuel) (suc k) (p ∷ ds) n l t fr o d c i ps e g =
      let a = also_some p (pages_from z fuel (suc k - slots_of z p) ds n l) ps e in
      let g' : Grows z t (p ∷ a.0) = rw a.2 at g in
      let h : 1 + occurs p ds ≡ bit (ltb p t.size && not (is_attached t p)) = rw (d, same p) at (o.detached p) in
      let w : without p t.detached ≡ ds = rw (d, same p) (without_none p ds (omega (arith, bit_small (ltb p t.size && not (is_attached t p))))) in
      let u : p ≡ t.size → ⊥ = λ y. past p t.size (is_attached t p) (occurs p ds) y h in
      rw a.2 (
        rw d,
        g'.0,
        λ f. planned fuel (suc k - slots_of z p) ds n l (attach z t p f) _ (attach_sound z sane t fr p f o g'.0) w (rw (ne_eqb p t.size u) c) i a.0 a.1 (g'.1 f),
      )
    where
      past : (p n : ℕ) (t : Bool) (m : ℕ) → p ≡ n → 1 + m ≡ bit (ltb p n && not t) → ⊥
      past p n t m y h = let e : ltb p n ≡ false = le-ltb p n (omega arith) in let z : 1 + m ≡ 0 = rw e at h in omega arith

  pub plan_follows : (t : Table) (fr : List ℕ) → Sound z t fr → (k : ℕ) (ps : List ℕ) → pages_for z t k ≡ some ps → Follows z t ps
  plan_follows t fr o k ps e = unfold pages_for in
      planned max_batch (k - length t.free) t.detached t.size t.limit t fr o refl refl refl ps e (pages_grow z sane t fr o k ps e)

  -- after growth the free order has as many slots as the batch
  pub grow_enough : (t : Table) → Sound z t t.free → (k : ℕ) → k ≤ batch_max → (ps fs : List ℕ) → pages_for z t k ≡ some ps → length ps ≤ length fs → k ≤ length (grow z ps fs t).free
  grow_enough t o k n ps fs e l = omega (arith, reserve_length z sane t t.free o k (omega (arith, batch_max_law)) ps fs e l, length-take k (grow z ps fs t).free)

-- ---- lists of frames

pub length_inserted : (fs gs : List ℕ) → length (insert_all fs gs) ≡ length fs + length gs
length_inserted [] gs = omega arith
length_inserted (f ∷ fs) gs = omega (arith, length_inserted fs (insert f gs), length_insert f gs)

-- ---- states

pub paged_twice : (s : State) (b : ℕ) (u v : Table) (fs gs : List ℕ) → paged (paged s b u fs) b v gs ≡ paged s b v gs
paged_twice s b u v fs gs = ap (λ (f : ℕ → Table). record { table_count = s.table_count; tables = f; object_count = s.object_count; objects = s.objects; frame_count = s.frame_count; frames = gs; book = s.book })
    (fun_ext λ c. bool (eqb c b) (λ e. rw e) (λ e. rw e))

pub paged_same : (s : State) (b : ℕ) → paged s b (s.tables b) s.frames ≡ s
paged_same s b = ap (λ (f : ℕ → Table). record { table_count = s.table_count; tables = f; object_count = s.object_count; objects = s.objects; frame_count = s.frame_count; frames = s.frames; book = s.book })
    {x = put s.tables b (s.tables b)} {y = s.tables} (fun_ext λ c. bool (eqb c b) (λ e. rw (e, eqb-true c b e)) (λ e. rw e))

pub paged_table : (s : State) (b : ℕ) (u : Table) (fs : List ℕ) → (paged s b u fs).tables b ≡ u
paged_table s b u fs = rw (same b)

-- ---- turns

-- the first turn first
all_first : (ws : List ℕ) (sh : Shape) (b n : ℕ) → attach_all_w (attach_next_w ws sh b) sh b n ≡ attach_all_w ws sh b (suc n)
unfolding attach_all_w
all_first ws sh b zero = refl
all_first ws sh b (suc n) = ap (λ (w : List ℕ). attach_next_w w sh b) (all_first ws sh b n)

page_found_law : (m : Mem) (b : ℕ) (t : Table) → TableIs m b t → page_at (m (head b head_first_detached)) (m (head b head_pages)) ≡ next_page t.detached t.size
page_found_law m b t i = rw i.size (go t.detached i.detached)
  where
    go : (ds : List ℕ) → Linked (λ q. m (entry (entry_at m b q) entry_next)) (m (head b head_first_detached)) ds → page_at (m (head b head_first_detached)) t.size ≡ next_page ds t.size
    go [] c = rw c
    go (d ∷ ds) c = rw (c.0, ne_eqb (suc d) 0 (λ y. omega arith)) (omega arith)

next_turn : (ds : List ℕ) (n p : ℕ) → p ≡ next_page ds n → (es : List ℕ) × ((p ≡ n) ⊎ (ds ≡ p ∷ es))
next_turn [] n p e = ([], inl e)
next_turn (d ∷ ds) n p e = (ds, inr (ap (λ (x : ℕ). x ∷ ds) (sym e)))

-- the objects, the row index and the rows keep their words
abbrev pub Kept : Shape → List ℕ → List ℕ → Type 0
Kept sh ws vs = (k x y i : ℕ) → region_object ≤ k → load vs sh (reg k x y i) ≡ load ws sh (reg k x y i)

module _ (sh : Shape) (b : ℕ) where
  -- one page
  next_is : (ws : List ℕ) (s : State) → Held ws sh s → b < s.table_count → Frames s → (p f : ℕ) (fs : List ℕ) → s.frames ≡ f ∷ fs → Room (s.tables b) p
      → p ≡ next_page (s.tables b).detached (s.tables b).size → attach_next_w ws sh b ≡ attach_w ws sh b p f
  unfolding attach_next_w
  next_is ws s h l w p f fs first room e =
      let found : page_at (load ws sh (head b head_first_detached)) (load ws sh (head b head_pages)) ≡ p = page_found_law (load ws sh) b (s.tables b) (h.reps.memory.tables b l) ∙ sym e in
      let low : min p last_page ≡ p = omega (arith, room.within, (h.placed.sound b l).limit, pages_max_law) in
      rw (found, low, lowest_free ws sh s h (owners_of ws sh s h w) f fs first)

  next_held : (ws : List ℕ) (s : State) → Held ws sh s → b < s.table_count → Frames s → (p f : ℕ) (fs : List ℕ) → s.frames ≡ f ∷ fs → Room (s.tables b) p
      → p ≡ next_page (s.tables b).detached (s.tables b).size → Held (attach_next_w ws sh b) sh (paged s b (attach till (s.tables b) p f) fs)
  next_held ws s h l w p f fs first room e =
      let n = next_turn (s.tables b).detached (s.tables b).size p e in
      rw (next_is ws s h l w p f fs first room e) (attach_held ws sh s h b l w p f fs (taken_first f fs s.frames first w.rising) room n.0 n.1)

  next_frames : (z : Sizes) (s : State) → b < s.table_count → Frames s → (p f : ℕ) (fs : List ℕ) → s.frames ≡ f ∷ fs → Room (s.tables b) p → Frames (paged s b (attach z (s.tables b) p f) fs)
  next_frames z s l w p f fs first room = frames_taken s b (attach z (s.tables b) p f) l w f fs (taken_first f fs s.frames first w.rising) (rising_tail f fs (rw first at w.rising))
      (λ g. attach_all_owned z (p ∷ []) (f ∷ []) (s.tables b) (omega arith) (room, λ x. tt) g ∙ omega arith)

  next_kept : (ws : List ℕ) (s : State) → Held ws sh s → b < s.table_count → Frames s → (p f : ℕ) (fs : List ℕ) → s.frames ≡ f ∷ fs → Room (s.tables b) p
      → p ≡ next_page (s.tables b).detached (s.tables b).size → Kept sh ws (attach_next_w ws sh b)
  next_kept ws s h l w p f fs first room e =
      let n = next_turn (s.tables b).detached (s.tables b).size p e in
      rw (next_is ws s h l w p f fs first room e) (paged_high b f (load ws sh) (load (attach_w ws sh b p f) sh) (only ws sh s h b l w p f fs (taken_first f fs s.frames first w.rising) room n.0 n.1))

  -- THE PAGES of a plan
  all_both : (ps : List ℕ) (ws : List ℕ) (s : State) → Held ws sh s → b < s.table_count → Frames s → Follows till (s.tables b) ps → length ps ≤ length s.frames
      → Held (attach_all_w ws sh b (length ps)) sh (paged s b (attach_all till ps s.frames (s.tables b)) (drop (length ps) s.frames)) × Kept sh ws (attach_all_w ws sh b (length ps))
  all_both [] ws s h l w g k = unfold attach_all_w in (rw (paged_same s b) h, λ r x y i m. refl)
  all_both (p ∷ ps) ws s h l w g k = go s.frames refl (λ v u i j x y z. all_both ps v u i j x y z)
    where
      go : (fs : List ℕ) → s.frames ≡ fs
          → ((v : List ℕ) (u : State) → Held v sh u → b < u.table_count → Frames u → Follows till (u.tables b) ps → length ps ≤ length u.frames
          → Held (attach_all_w v sh b (length ps)) sh (paged u b (attach_all till ps u.frames (u.tables b)) (drop (length ps) u.frames)) × Kept sh v (attach_all_w v sh b (length ps)))
          → Held (attach_all_w ws sh b (length (p ∷ ps))) sh (paged s b (attach_all till (p ∷ ps) fs (s.tables b)) (drop (length (p ∷ ps)) fs)) × Kept sh ws (attach_all_w ws sh b (length (p ∷ ps)))
      go [] e rest = absurd (omega (arith, ap length e))
      go (f ∷ fs) e rest =
          let u : Table = attach till (s.tables b) p f in
          let s₁ : State = paged s b u fs in
          let t₁ : s₁.tables b ≡ u = paged_table s b u fs in
          let v : List ℕ = attach_all_w (attach_next_w ws sh b) sh b (length ps) in
          let i : Held v sh (paged s₁ b (attach_all till ps fs (s₁.tables b)) (drop (length ps) fs)) × Kept sh (attach_next_w ws sh b) v
          = rest (attach_next_w ws sh b) s₁ (next_held ws s h l w p f fs e g.1 g.0) l (next_frames till s l w p f fs e g.1) (rw t₁ (g.2 f)) (omega (arith, ap length e)) in
          let j : Held v sh (paged s₁ b (attach_all till ps fs u) (drop (length ps) fs))
          = subst (λ (x : Table). Held v sh (paged s₁ b (attach_all till ps fs x) (drop (length ps) fs))) t₁ i.0 in
          subst (λ (x : List ℕ). Held x sh (paged s b (attach_all till ps fs u) (drop (length ps) fs)) × Kept sh ws x) (all_first ws sh b (length ps)) (
            subst (λ (x : State). Held v sh x) (paged_twice s b u (attach_all till ps fs u) fs (drop (length ps) fs)) j,
            λ r x y m o. i.1 r x y m o ∙ next_kept ws s h l w p f fs e g.1 g.0 r x y m o,
          )

  pub all_held : (ps : List ℕ) (ws : List ℕ) (s : State) → Held ws sh s → b < s.table_count → Frames s → Follows till (s.tables b) ps → length ps ≤ length s.frames
      → Held (attach_all_w ws sh b (length ps)) sh (paged s b (attach_all till ps s.frames (s.tables b)) (drop (length ps) s.frames))
  all_held ps ws s h l w g k = (all_both ps ws s h l w g k).0

  -- the epoch advances after the pages
  pub aged_held : (ps fs gs : List ℕ) (ws : List ℕ) (s : State) → b < s.table_count → Held ws sh (paged s b (attach_all till ps fs (s.tables b)) gs)
      → Held (aged_w ws sh b (length ps)) sh (paged s b (grow till ps fs (s.tables b)) gs)
  unfolding aged_w
  aged_held [] fs gs ws s l i = i
  aged_held (p ∷ ps) fs gs ws s l i =
      let u : Table = attach_all till (p ∷ ps) fs (s.tables b) in
      let j = advance_held ws sh (paged s b u gs) i b l in
      let d : eqb (length (p ∷ ps)) 0 ≡ false = ne_eqb (length (p ∷ ps)) 0 (λ y. omega arith) in
      let j' : Held (advance_w ws sh b) sh (paged (paged s b u gs) b (advance u) gs)
      = subst (λ (x : Table). Held (advance_w ws sh b) sh (paged (paged s b u gs) b (advance x) gs)) (paged_table s b u gs) j in
      rw d (subst (λ (x : State). Held (advance_w ws sh b) sh x) (paged_twice s b u (advance u) gs gs) j')

  -- GROW
  pub grow_held : (ws : List ℕ) (s : State) → Held ws sh s → b < s.table_count → Frames s → (k : ℕ) (ps : List ℕ) → pages_for till (s.tables b) k ≡ some ps → length ps ≤ length s.frames
      → Held (grow_w ws sh b (length ps)) sh (with_frames (with_table s b (grow till ps s.frames (s.tables b))) (drop (length ps) s.frames))
  unfolding grow_w
  grow_held ws s h l w k ps e n = aged_held ps s.frames (drop (length ps) s.frames) (attach_all_w ws sh b (length ps)) s l
      (all_held ps ws s h l w (plan_follows till till_sane (s.tables b) (s.tables b).free (h.placed.sound b l) k ps e) n)

  -- ---- pages in given frames

  -- items that name them
  abbrev pub PagesAt : List ℕ → ℕ → ℕ → List ℕ → Type 0
  PagesAt ws x = Items (λ j p. load ws sh (item x j item_page) ≡ p)

  abbrev pub FramesAt : List ℕ → ℕ → ℕ → List ℕ → Type 0
  FramesAt ws x = Items (λ j f. load ws sh (item x j item_frame) ≡ f)

  -- a free frame leaves the list
  inserted_taken : (f : ℕ) (fs gs : List ℕ) → ((g : ℕ) → occurs g (f ∷ fs) + occurs g gs ≤ 1) → Taken f (insert_all fs gs) (insert_all (f ∷ fs) gs)
  inserted_taken f fs gs once = record {
    more = λ x. omega (arith, occurs_inserted (f ∷ fs) gs x, occurs_inserted fs gs x);
    long = omega (arith, length_inserted (f ∷ fs) gs, length_inserted fs gs);
    gone = omega (arith, occurs_inserted fs gs f, once f, bit_same f f refl);
  }

  -- one page
  module _ (ws : List ℕ) (s : State) (h : Held ws sh s) (l : b < s.table_count) (w : Frames s) (p f : ℕ) (fs : List ℕ) (taken : Taken f fs s.frames) (room : Room (s.tables b) p)
      (e : p ≡ next_page (s.tables b).detached (s.tables b).size) (x j : ℕ) (at_page : load ws sh (item x j item_page) ≡ p) (at_frame : load ws sh (item x j item_frame) ≡ f) where
    item_is : attach_item_w sh b x j ws ≡ attach_w ws sh b p f
    unfolding attach_item_w
    item_is = let low : min p last_page ≡ p = omega (arith, room.within, (h.placed.sound b l).limit, pages_max_law) in rw (at_page, at_frame, low)

    item_held : Held (attach_item_w sh b x j ws) sh (paged s b (attach till (s.tables b) p f) fs)
    item_held = let n = next_turn (s.tables b).detached (s.tables b).size p e in rw item_is (attach_held ws sh s h b l w p f fs taken room n.0 n.1)

    item_kept : Kept sh ws (attach_item_w sh b x j ws)
    item_kept = let n = next_turn (s.tables b).detached (s.tables b).size p e in
        rw item_is (paged_high b f (load ws sh) (load (attach_w ws sh b p f) sh) (only ws sh s h b l w p f fs taken room n.0 n.1))

  -- THE PAGES of a plan, each in the next of the frames fs, which are free beside gs
  in_held : (ps fs gs ws : List ℕ) (s : State) (x j : ℕ) → Held ws sh s → b < s.table_count → Frames s → Follows till (s.tables b) ps → length fs ≡ length ps → PagesAt ws x j ps → FramesAt ws x j fs
      → s.frames ≡ insert_all fs gs → Rising gs → ((g : ℕ) → occurs g fs + occurs g gs ≤ 1) → Held (attach_in_w sh b x j (length ps) ws) sh (paged s b (attach_all till ps fs (s.tables b)) gs)
  unfolding each_w
  in_held [] [] gs ws s x j h l w g k at fr e r once = rw (← e, paged_same s b) h
  in_held [] (f ∷ fs) gs ws s x j h l w g k at fr e r once = absurd (omega arith)
  in_held (p ∷ ps) [] gs ws s x j h l w g k at fr e r once = absurd (omega arith)
  in_held (p ∷ ps) (f ∷ fs) gs ws s x j h l w g k at fr e r once =
      let few : (y : ℕ) → occurs y fs + occurs y gs ≤ 1 = λ y. omega (arith, once y) in
      let taken : Taken f (insert_all fs gs) s.frames = rw e (inserted_taken f fs gs once) in
      let u : Table = attach till (s.tables b) p f in
      let s₁ : State = paged s b u (insert_all fs gs) in
      let t₁ : s₁.tables b ≡ u = paged_table s b u (insert_all fs gs) in
      let ws₁ : List ℕ = attach_item_w sh b x j ws in
      let kept = item_kept ws s h l w p f (insert_all fs gs) taken g.1 g.0 x j at.0 fr.0 in
      let i = in_held ps fs gs ws₁ s₁ x (suc j) (item_held ws s h l w p f (insert_all fs gs) taken g.1 g.0 x j at.0 fr.0) l
      (frames_taken s b u l w f (insert_all fs gs) taken (rising_inserted fs gs few r)
      (λ y. attach_all_owned till (p ∷ []) (f ∷ []) (s.tables b) (omega arith) (g.1, λ v. tt) y ∙ omega arith))
      (rw t₁ (g.2 f)) (omega arith)
      (items_kept (λ i q. load ws sh (item x i item_page) ≡ q) (λ i q. load ws₁ sh (item x i item_page) ≡ q) (λ i q d. kept region_row x (suc i) item_page (omega arith) ∙ d) (suc j) ps at.1)
      (items_kept (λ i q. load ws sh (item x i item_frame) ≡ q) (λ i q. load ws₁ sh (item x i item_frame) ≡ q) (λ i q d. kept region_row x (suc i) item_frame (omega arith) ∙ d) (suc j) fs fr.1)
      refl r few in
      let c : Held (attach_in_w sh b x (suc j) (length ps) ws₁) sh (paged s₁ b (attach_all till ps fs u) gs)
      = subst (λ (v : Table). Held (attach_in_w sh b x (suc j) (length ps) ws₁) sh (paged s₁ b (attach_all till ps fs v) gs)) t₁ i in
      subst (λ (v : State). Held (attach_in_w sh b x (suc j) (length ps) ws₁) sh v) (paged_twice s b u (attach_all till ps fs u) (insert_all fs gs) gs) c

  -- GROW in given frames
  pub grow_in_held : (ws : List ℕ) (s : State) → Held ws sh s → b < s.table_count → Frames s → (k : ℕ) (ps fs gs : List ℕ) → pages_for till (s.tables b) k ≡ some ps → length fs ≡ length ps
      → (x : ℕ) → PagesAt ws x 0 ps → FramesAt ws x 0 fs → s.frames ≡ insert_all fs gs → Rising gs → ((g : ℕ) → occurs g fs + occurs g gs ≤ 1)
      → Held (grow_in_w ws sh b x (length ps)) sh (with_frames (with_table s b (grow till ps fs (s.tables b))) gs)
  unfolding grow_in_w
  grow_in_held ws s h l w k ps fs gs e n x at fr free r once = aged_held ps fs gs (attach_in_w sh b x 0 (length ps) ws) s l
      (in_held ps fs gs ws s x 0 h l w (plan_follows till till_sane (s.tables b) (s.tables b).free (h.placed.sound b l) k ps e) n at fr free r once)
