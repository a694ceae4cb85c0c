-- Drop plan: its function takes the model's step; and the dropped row's words stay. Assumes nothing.
use Rattle.std.specs.Prelude.{◌≡◌, refl, length, ltb}
use Rattle.std.proofs.Math.Path.{sym, ap, subst}
use Rattle.std.proofs.Common.{◌∙◌, arith, ltb-true}
use mathlib.Core.List.{List, [], ◌∷◌}
use Prim.Native.Nat.{ℕ, suc, ◌+◌, ◌≤◌, ◌<◌}
use Rattle.model.specs.Base.{occurs, insert, insert_all}
use Rattle.model.specs.State.{till, Body.plan, StorageSnapshot, State}
use Rattle.model.specs.Change.{with_frames}
use Rattle.model.specs.Book.{drop_row}
use Rattle.model.specs.Request.{Request.drop_plan, Answer.done}
use Rattle.model.specs.Decision.{Decision.accept}
use Rattle.model.specs.Step.{drop_plan_of, decide, step}
use Rattle.model.specs.WellFormed.{PlanRange, frames_in, plans_with, WellFormed}
use Rattle.model.proofs.Tests.{bit_true, bit_small}
use Rattle.model.proofs.Counting.{bit_same}
use Rattle.invariant.proofs.BookLemmas.{found_range, over_drop, length_dropped}
use Rattle.invariant.proofs.Pages.{till_sane}
use Rattle.invariant.proofs.Kept.{kept}
use Rattle.layout.specs.declared.Shape.{Shape}
use Rattle.layout.specs.Layout.{root, owner, index, item, load}
use Rattle.layout.specs.Fields.{root_used_rows, item_frame}
use Rattle.layout.specs.Sizes.{frames_max, plan_owner}
use Rattle.representation.specs.Represents.{Items, HeldIs, Rep}
use Rattle.storage.specs.Ops.{up}
use Rattle.storage.specs.Kept.{items_kept}
use Rattle.storage.specs.Reps.{Held, held_of}
use Rattle.frames.specs.Pool.{length_insert}
use Rattle.frames.specs.Frames.{frames_few}
use Rattle.frames.specs.Ops.{give_frame_w}
use Rattle.frames.specs.Words.{Steps, give_steps}
use Rattle.frames.specs.Done.{pool_rows}
use Rattle.frames.specs.Lowest.{held_owner}
use Rattle.frames.specs.Apart.{pool_root, give_held}
use Rattle.book.specs.Ops.{plan_link, spare, close_w}
use Rattle.book.specs.Find.{Fits, fits_of}
use Rattle.book.specs.Found.{OpenPlan, plan_none, plan_some}
use Rattle.book.specs.Marks.{named_plan}
use Rattle.book.specs.Close.{owner_same, close_items, close_spare, close_held}
use Rattle.book.specs.Decided.{spare_out}
use Rattle.growth.specs.Words.{each_w}
use Rattle.growth.specs.Grow.{length_inserted}
use Rattle.answer.specs.Does.{Does, does_on_row}
use Rattle.plan.specs.Ops.{give_w, give_all_w, drop_w, drop_plan_r}

-- ---- frames that items name are given back

module _ (sh : Shape) (x : ℕ) where
  -- the items of all rows stay
  abbrev pub ItemsStay : List ℕ → List ℕ → Type 0
  ItemsStay ws ws' = (z i f : ℕ) → load ws' sh (item z i f) ≡ load ws sh (item z i f)

  give_one : (ws : List ℕ) (j f : ℕ) → load ws sh (item x j item_frame) ≡ f → give_w sh x j ws ≡ give_frame_w ws sh f
  unfolding give_w
  give_one ws j f e = ap (give_frame_w ws sh) e

  -- THE FRAMES of the items from j on, whose owner words name x, which is of no row in use
  give_all : (fs ws : List ℕ) (s : State) (j : ℕ) → Held ws sh s → length s.book.rows < s.book.capacity → x ≡ spare (load ws sh) → Items (λ i f. load ws sh (item x i item_frame) ≡ f) j fs
      → ((f : ℕ) → 0 < occurs f fs → (load ws sh (owner f) ≡ plan_owner + x) × (f < s.frame_count)) → ((f : ℕ) → occurs f fs ≤ 1) → length fs + length s.frames ≤ frames_max
      → Held (give_all_w sh x j (length fs) ws) sh (with_frames s (insert_all fs s.frames)) × ItemsStay ws (give_all_w sh x j (length fs) ws)
  unfolding each_w
  give_all [] ws s j h free e at own once few = (h, λ z i f. refl)
  give_all (f ∷ fs) ws s j h free e at own once few =
      let here : 0 < occurs f (f ∷ fs) = omega (arith, bit_same f f refl) in
      let below : f < s.frame_count = (own f here).1 in
      let ws₁ : List ℕ = give_frame_w ws sh f in
      let st : Steps up ws ws₁ sh f 0 = give_steps ws sh h.reps.shaped.room f (omega (arith, below, h.reps.memory.frame_count)) in
      let rows = pool_rows f (load ws sh) (load ws₁ sh) st.only in
      let spare₁ : spare (load ws₁ sh) ≡ spare (load ws sh)
      = ap (λ (i : ℕ). load ws₁ sh (index i)) (pool_root f (load ws sh) (load ws₁ sh) st.only root_used_rows (λ d. omega arith)) ∙ rows.places (load ws sh (root root_used_rows)) in
      let h₁ : Held ws₁ sh (with_frames s (insert f s.frames))
      = give_held ws sh s h f below x (own f here).0 (λ i l d. spare_out ws sh s h free i l (d ∙ e)) (omega arith) in
      let i = give_all fs ws₁ (with_frames s (insert f s.frames)) (suc j) h₁ free (e ∙ sym spare₁)
      (items_kept (λ i g. load ws sh (item x i item_frame) ≡ g) (λ i g. load ws₁ sh (item x i item_frame) ≡ g) (λ i g d. rows.items x i item_frame ∙ d) (suc j) fs at.1)
      (λ g o. (st.pool.owners g (λ (d : g ≡ f). let c : occurs g fs ≡ occurs f fs = ap (λ (v : ℕ). occurs v fs) d in omega (arith, once f, bit_same f f refl)) ∙ (own g (omega arith)).0, (own g (omega arith)).1))
      (λ g. omega (arith, once g)) (omega (arith, length_insert f s.frames)) in
      subst (λ (v : List ℕ). Held (give_all_w sh x (suc j) (length fs) v) sh (with_frames s (insert_all (f ∷ fs) s.frames)) × ItemsStay ws (give_all_w sh x (suc j) (length fs) v)) (sym (give_one ws j f at.0))
      (i.0, λ z k g. i.1 z k g ∙ rows.items z k g)

-- ---- the plan in place x

module _ (ws : List ℕ) (sh : Shape) (s : State) (r : Rep ws sh s) (x i b n : ℕ) (w : StorageSnapshot) (fs : List ℕ) (o : OpenPlan (load ws sh) s x i b n w fs) where
  abbrev pub dropped : State
  dropped = drop_row i (with_frames s (insert_all fs s.frames))

  pub drop_decided : decide till s (drop_plan i) ≡ accept dropped done
  unfolding decide drop_plan_of
  drop_decided = rw o.found

  -- it is well formed
  pub drop_formed : WellFormed till dropped
  unfolding step
  drop_formed = rw drop_decided at (kept till till_sane s r.well_formed (drop_plan i))

  pub drop_range : PlanRange till s b n w fs
  drop_range = found_range s r.well_formed i (plan b n w fs) o.found

  f : Fits s
  f = fits_of s r.well_formed

  h : Held ws sh s
  h = held_of ws sh s r

  -- a frame that the plan holds is no other plan's, and it is not free
  holds : (g : ℕ) → occurs g fs ≤ plans_with s.book.rows g
  holds g = omega (arith, over_drop (λ y. occurs g (frames_in y)) i (plan b n w fs) 1 s.book.next s.book.rows f.rise o.found)

  pub frames_once : (g : ℕ) → occurs g fs + occurs g s.frames ≤ 1
  frames_once g = omega (arith, holds g, r.well_formed.frames.once g, bit_small (ltb g s.frame_count))

  below : (g : ℕ) → 0 < occurs g fs → g < s.frame_count
  below g l = ltb-true g s.frame_count (bit_true (ltb g s.frame_count) (omega (arith, holds g, r.well_formed.frames.once g, bit_small (ltb g s.frame_count))))

  closed : Held (close_w ws sh x) sh (drop_row i s)
  closed = close_held ws sh s h f x i (plan b n w fs) o.row (named_plan sh (load ws sh) s r.reps.memory f r.well_formed.marks x i b n w fs o.row)

  given : Held (give_all_w sh x 0 (length fs) (close_w ws sh x)) sh (with_frames (drop_row i s) (insert_all fs s.frames)) × ItemsStay sh x (close_w ws sh x) (give_all_w sh x 0 (length fs) (close_w ws sh x))
  given = let body = o.row.body in
      give_all sh x fs (close_w ws sh x) (drop_row i s) 0 closed (omega (arith, length_dropped i (plan b n w fs) s.book.rows o.found, f.room)) (sym (close_spare ws sh s h f x i (plan b n w fs) o.row))
      (items_kept (HeldIs (load ws sh) x) (λ j g. load (close_w ws sh x) sh (item x j item_frame) ≡ g) (λ j g q. close_items ws sh s h f x i (plan b n w fs) o.row x j item_frame ∙ q.0) 0 fs body.held)
      (λ g l. (owner_same ws sh s h f x i (plan b n w fs) o.row g ∙ held_owner (load ws sh) x 0 fs body.held g l, below g l))
      (λ g. omega (arith, frames_once g))
      (omega (arith, length_inserted fs s.frames, frames_few dropped drop_formed.frames, r.reps.memory.frame_count, r.reps.shaped.limits.few_frames))

  -- A PLAN is dropped
  pub drop_held : Held (drop_w ws sh x) sh dropped
  unfolding drop_w
  drop_held = rw o.row.body.frame_count given.0

  pub drop_items : (j g : ℕ) → load (drop_w ws sh x) sh (item x j g) ≡ load ws sh (item x j g)
  unfolding drop_w
  drop_items j g = rw o.row.body.frame_count (given.1 x j g ∙ close_items ws sh s h f x i (plan b n w fs) o.row x j g)

-- DROP PLAN is the model's step
pub drop_plan_does : (ws : List ℕ) (sh : Shape) (s : State) → Rep ws sh s → (os : List ℕ) (base i : ℕ) → Does ws os sh base s (drop_plan i) (drop_plan_r ws os sh base i)
unfolding decide drop_plan_of
drop_plan_does ws sh s r os base i = does_on_row os sh base s (drop_plan i) ws (drop_w ws sh) (plan_link (load ws sh) sh i) r.reps
    (λ e. plan_none ws sh s r i e _)
    (λ x e. let p = plan_some ws sh s r i x e in
    let o = p.4 in
    (dropped ws sh s r x i p.0 p.1 p.2 p.3 o, (drop_held ws sh s r x i p.0 p.1 p.2 p.3 o).reps, drop_decided ws sh s r x i p.0 p.1 p.2 p.3 o))
