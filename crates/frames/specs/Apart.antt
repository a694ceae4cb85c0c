-- A frame that is no page's, before and after: a free one is taken for a plan, and one that a plan held is given back. Assumes nothing.
use Rattle.std.specs.Prelude.{◌≡◌, refl, List, ◌∷◌, ℕ, suc, ◌+◌, ◌≤◌, ◌<◌, length}
use Rattle.std.proofs.Common.{sym, ap, ◌∙◌, ⊎_elim, arith}
use Rattle.std.proofs.Math.Option.{some}
use Rattle.model.specs.Base.{insert}
use Rattle.model.specs.State.{State}
use Rattle.model.specs.Change.{with_frames}
use Rattle.model.proofs.Counting.{bit_other}
use Rattle.invariant.proofs.Frames.{rising_tail}
use Rattle.layout.specs.declared.Shape.{Shape}
use Rattle.layout.specs.Layout.{Mem, root, owner, index, load}
use Rattle.layout.specs.ShapeOf.{roots_kept}
use Rattle.layout.specs.Fields.{root_next_id, root_used_rows, root_free_frames, head_first_entry}
use Rattle.layout.specs.Sizes.{frames_max, plan_owner}
use Rattle.layout.specs.RegionNames.{region_object}
use Rattle.representation.specs.Represents.{Represents}
use Rattle.storage.specs.Kept.{object_kept, PlansStay, book_kept}
use Rattle.storage.specs.Reps.{Held}
use Rattle.storage.specs.Ops.{up}
use Rattle.frames.specs.Paged.{owner_low}
use Rattle.frames.specs.Pool.{Counted, counted_of, pooled_owners, down, Taken, take_counted, give_counted}
use Rattle.frames.specs.Frames.{frames_of, taken_first, taken_there}
use Rattle.frames.specs.Ops.{take_frame_w, give_frame_w}
use Rattle.frames.specs.Words.{OnlyPool, Steps, take_steps, give_steps}
use Rattle.frames.specs.Done.{pool_off, pool_head, pool_rows, pool_table, pool_mark}
use Rattle.frames.specs.Lowest.{Owners}

-- the header's words, but for the count of free frames
pub pool_root : (f : ℕ) (m n : Mem) → OnlyPool f m n → (g : ℕ) → (g ≡ root_free_frames → ⊥) → n (root g) ≡ m (root g)
pool_root f m n o g h = o (root g) (⊎_elim (λ q. omega arith) (⊎_elim (λ q. omega arith) (λ q. h q.1)))

module _ (ws ws' : List ℕ) (sh : Shape) (s : State) (h : Held ws sh s) (step : ℕ → ℕ) (f o : ℕ) (st : Steps step ws ws' sh f o)
    (apart : (b p : ℕ) → b < s.table_count → p < (s.tables b).size → ((s.tables b).pages p).frame ≡ some f → ⊥)
    (plans : PlansStay (load ws sh) (load ws' sh) (length s.book.rows)) (fs : List ℕ) (counted : Counted (load ws' sh) s.frame_count fs) where
  memory : Represents sh (load ws' sh) (with_frames s fs)
  memory = let r = h.reps.memory in record {
    table_count = r.table_count;
    frame_count = r.frame_count;
    object_count = r.object_count;
    capacity = r.capacity;
    page_count = r.page_count;
    first = λ b l. pool_head f (load ws sh) (load ws' sh) st.only b head_first_entry ∙ r.first b l;
    tables = λ b l. pool_table f (load ws sh) (load ws' sh) st.only b (s.tables b) (r.tables b l);
    frames = frames_of (load ws' sh) (with_frames s fs) counted (λ b p g l i e.
        st.pool.owners g (λ (y : g ≡ f). apart b p l i (e ∙ ap some y)) ∙ r.frames.held b p g l i e
        ∙ ap (λ (x : ℕ). suc (x + p)) (sym (pool_head f (load ws sh) (load ws' sh) st.only b head_first_entry)));
    objects = λ x l. object_kept (load ws sh) (load ws' sh) x (s.objects x)
        (λ g. pool_off f (load ws sh) (load ws' sh) st.only region_object x 0 g (λ e. omega arith) (λ e d. omega arith) (λ e. omega arith)) (r.objects x l);
    book = book_kept (load ws sh) (load ws' sh) (pool_rows f (load ws sh) (load ws' sh) st.only) s (with_frames s fs) refl
        (pool_root f (load ws sh) (load ws' sh) st.only root_next_id (λ e. omega arith)) (pool_root f (load ws sh) (load ws' sh) st.only root_used_rows (λ e. omega arith)) plans
        (λ b k l e. pool_mark f (load ws sh) (load ws' sh) st.only s b k (r.book.marks b k l e)) r.book;
  }

  held_apart : Held ws' sh (with_frames s fs)
  held_apart = record {
    reps = record {
      shaped = let q = h.reps.shaped in record {
        limits = q.limits;
        room = omega (arith, st.long, q.room);
        roots = roots_kept sh (load ws sh) (load ws' sh) (λ g i. pool_root f (load ws sh) (load ws' sh) st.only g (λ e. i (omega arith) (omega arith))) q.roots;
      };
      memory = memory;
    };
    placed = record { sound = h.placed.sound; frames = h.placed.frames };
  }

module _ (ws : List ℕ) (sh : Shape) (s : State) (h : Held ws sh s) (f : ℕ) (low : f < s.frame_count) where
  r : Represents sh (load ws sh) s
  r = h.reps.memory

  there : f < sh.frames
  there = omega (arith, r.frame_count)

  -- A FREE FRAME is taken, and o is its owner word
  pub take_held : (fs : List ℕ) → Taken f fs s.frames → (o : ℕ) → Held (take_frame_w ws sh f o) sh (with_frames s fs)
  take_held fs taken o =
      let st = take_steps ws sh h.reps.shaped.room f there o in
      let free : load ws sh (owner f) ≡ 0 = r.frames.free f (taken_there f fs s.frames taken) in
      held_apart ws (take_frame_w ws sh f o) sh s h down f o st
      (λ b p l i e. omega (arith, r.frames.held b p f l i e))
      (λ i l g e. st.pool.owners g (λ (y : g ≡ f). let d : load ws sh (owner g) ≡ load ws sh (owner f) = ap (λ (x : ℕ). load ws sh (owner x)) y in omega arith))
      fs (take_counted (load ws sh) (load (take_frame_w ws sh f o) sh) s.frame_count f o fs s.frames (counted_of (load ws sh) s r.frames) taken st.pool)

  -- every other frame that is not free has an owner still
  pub owners_taken : (fs : List ℕ) → s.frames ≡ f ∷ fs → (o : ℕ) → 0 < o → Owners (load ws sh) s → Owners (load (take_frame_w ws sh f o) sh) (with_frames s fs)
  owners_taken fs first o pos w =
      let taken : Taken f fs s.frames = taken_first f fs s.frames first w.rising in
      let st = take_steps ws sh h.reps.shaped.room f there o in
      record {
        rising = rising_tail f fs (rw first at w.rising);
        below = λ g i. w.below g (omega (arith, taken.more g));
        owned = λ g l i. pooled_owners down (load ws sh) (load (take_frame_w ws sh f o) sh) f o st.pool g (0 < load (take_frame_w ws sh f o) sh (owner g))
            (λ e d. omega arith)
            (λ e d. omega (arith, w.owned g l (omega (arith, taken.more g, bit_other g f e))));
      }

  -- A FRAME whose owner word names a place out of use is given back
  pub give_held : (x : ℕ) → load ws sh (owner f) ≡ plan_owner + x → ((i : ℕ) → i < length s.book.rows → load ws sh (index i) ≡ x → ⊥) → length s.frames ≤ frames_max
      → Held (give_frame_w ws sh f) sh (with_frames s (insert f s.frames))
  give_held x own out few =
      let st = give_steps ws sh h.reps.shaped.room f there in
      held_apart ws (give_frame_w ws sh f) sh s h up f 0 st
      (λ b p l i e. omega (arith, own, r.frames.held b p f l i e, owner_low sh (load ws sh) s r h.placed h.reps.shaped.limits b p l (omega (arith, (h.placed.sound b l).size))))
      (λ i l g e. st.pool.owners g (λ (y : g ≡ f). let d : load ws sh (owner g) ≡ load ws sh (owner f) = ap (λ (x : ℕ). load ws sh (owner x)) y in out i l (omega (arith, own))))
      (insert f s.frames) (give_counted (load ws sh) (load (give_frame_w ws sh f) sh) s.frame_count f 0 s.frames (counted_of (load ws sh) s r.frames) few st.pool)
