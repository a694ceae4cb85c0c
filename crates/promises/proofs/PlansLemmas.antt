-- Tables with the numbers of frames left aside: growth in other frames, and the first free slots taken, give the same. Assumes nothing.
use Rattle.std.specs.Prelude.{◌≡◌, true, false, List, [], ◌∷◌, map, ℕ, ◌≤◌, take, drop, eqb}
use Rattle.std.proofs.Math.Path.{refl, ap, fun_ext}
use Rattle.std.proofs.Common.{sym, ◌∙◌, arith}
use Rattle.std.proofs.Math.Bool.{not}
use Rattle.std.proofs.Math.Option.{some}
use Rattle.std.proofs.Math.ListN.{length}
use borrow.Author.Tests.{lt-ltb, le-ltb}
use Rattle.words.specs.Pick.{bool, clash}
use Rattle.promises.specs.Plans.{frames_aside, SameButFrames}
use Rattle.model.specs.Base.{at_most}
use Rattle.model.specs.State.{Sizes, Slot, Slot.reserved, Page, Table, Body.plan, StorageSnapshot, State, generation, is_active, max_batch}
use Rattle.model.specs.Storage.{with_free, advance, page_of, place, keep, keep_all, take_free, attach, attach_all, grow, is_stale}
use Rattle.model.specs.Change.{with_frames}
use Rattle.model.specs.Decision.{unless◌refuse◌then◌}
use Rattle.model.proofs.Tests.{at_most_law}
use Rattle.model.specs.Request.{Request.reserve, Request.use_plan, Answer.batch, Answer.refused}
use Rattle.model.specs.Book.{find, free_row, id_left}
use Rattle.model.specs.Lookup.{value_at}
use Rattle.model.proofs.Refusals.{is_refused}
use Rattle.model.specs.Step.{reserve_in, reserve_of, use_plan_of, decide, carry, step}
use Rattle.model.specs.WellFormed.{PlanRange}
use Rattle.invariant.proofs.Snapshots.{fresh_is}

abbrev with_pages : Table → (ℕ → Page) → Table
with_pages t f = record { limit = t.limit; mask = t.mask; life = t.life; epoch = t.epoch; size = t.size; pages = f; slots = t.slots; free = t.free; empty = t.empty; detached = t.detached }

module _ (z : Sizes) where
  aside_attach : (t : Table) (p f : ℕ) → frames_aside (attach z t p f) ≡ attach z (frames_aside t) p 0
  unfolding attach
  aside_attach t p f = ap (with_pages (attach z (frames_aside t) p 0)) (fun_ext λ q. bool (eqb q p) (λ e. rw e) (λ e. rw e))

  aside_attach_all : (ps fs : List ℕ) (t : Table) → length ps ≤ length fs → frames_aside (attach_all z ps fs t) ≡ attach_all z ps (map (λ (p : ℕ). 0) ps) (frames_aside t)
  aside_attach_all [] fs t l = refl
  aside_attach_all (p ∷ ps) [] t l = absurd (omega arith)
  aside_attach_all (p ∷ ps) (f ∷ fs) t l = aside_attach_all ps fs (attach z t p f) (omega arith) ∙ ap (attach_all z ps (map (λ (q : ℕ). 0) ps)) (aside_attach t p f)

  aside_grow : (ps fs : List ℕ) (t : Table) → length ps ≤ length fs → frames_aside (grow z ps fs t) ≡ grow z ps (map (λ (p : ℕ). 0) ps) (frames_aside t)
  aside_grow [] fs t l = refl
  aside_grow (p ∷ ps) fs t l = ap advance (aside_attach_all (p ∷ ps) fs t l)

  aside_place : (t : Table) (k : ℕ) (x : Slot) → frames_aside (place z t k x) ≡ place z (frames_aside t) k x
  unfolding place
  aside_place t k x = ap (with_pages (place z (frames_aside t) k x)) (fun_ext λ q. bool (eqb q (page_of z k)) (λ e. rw e) (λ e. rw e))

  aside_keep_all : (f : ℕ → Slot) (ks : List ℕ) (t : Table) → frames_aside (keep_all z f ks t) ≡ keep_all z f ks (frames_aside t)
  aside_keep_all f [] t = refl
  aside_keep_all f (k ∷ ks) t = aside_keep_all f ks (keep z f t k) ∙ ap (keep_all z f ks) (aside_place t k (f (generation (t.slots k))))

  aside_take_free : (n : ℕ) (f : ℕ → Slot) (t : Table) → frames_aside (take_free z n f t) ≡ take_free z n f (frames_aside t)
  unfolding take_free
  aside_take_free n f t = aside_keep_all f (take n t.free) (with_free t (drop n t.free))

  -- GROWN IN OTHER FRAMES
  module _ (ps fs gs : List ℕ) (t : Table) (l : length ps ≤ length fs) (m : length ps ≤ length gs) where
    grown_same : SameButFrames (grow z ps gs t) (grow z ps fs t)
    grown_same = aside_grow ps gs t m ∙ sym (aside_grow ps fs t l)

    pub taken_same : (n : ℕ) (f : ℕ → Slot) → SameButFrames (take_free z n f (grow z ps gs t)) (take_free z n f (grow z ps fs t))
    taken_same n f = aside_take_free n f (grow z ps gs t) ∙ ap (take_free z n f) grown_same ∙ sym (aside_take_free n f (grow z ps fs t))

    -- the values are the same, since they look at slots, the mask and the free order
    pub values_same : (n : ℕ) → map (value_at (grow z ps gs t)) (take n (grow z ps gs t).free) ≡ map (value_at (grow z ps fs t)) (take n (grow z ps fs t).free)
    values_same n = ap (λ (u : Table). map (value_at u) (take n u.free)) grown_same

-- A RESERVATION MADE NOW AND THE USE OF A PLAN THAT IS NOT STALE
module _ (z : Sizes) (s : State) (i b n : ℕ) (r : StorageSnapshot) (fs : List ℕ) (row : find i s.book.rows ≡ some (plan b n r fs)) (live : is_active (s.tables b).life ≡ true)
    (fresh : is_stale z (s.tables b) n r ≡ false) (range : PlanRange z s b n r fs) where
  pub used_frames : (step z s (use_plan i)).0.frames ≡ s.frames
  unfolding step decide use_plan_of
  used_frames = rw (row, live, fresh) (bool (id_left s) (λ e. rw e) (λ e. rw e))

  abbrev now : ℕ → Slot
  now g = reserved g s.book.next

  -- what a reservation finds
  reserve_is : step z s (reserve b n) ≡ carry z s (unless at_most (length r.pages) (length s.frames) refuse 1 then unless free_row s refuse 1 then unless id_left s refuse 12 then
      reserve_in z (with_frames s (drop (length r.pages) s.frames)) b n (grow z r.pages s.frames (s.tables b)))
  unfolding step decide reserve_of
  reserve_is = rw (
    lt-ltb b s.table_count range.table,
    live,
    lt-ltb 0 n range.count.0,
    le-ltb max_batch n range.count.1,
    fresh_is z (s.tables b) n r (ap not fresh),
  )

  pub reserved_now : (j : ℕ) (values : List ℕ) → (step z s (reserve b n)).1 ≡ batch j values
      → ((step z s (use_plan i)).1 ≡ batch j values) × ((c : ℕ) → SameButFrames ((step z s (reserve b n)).0.tables c) ((step z s (use_plan i)).0.tables c))
  unfolding step decide use_plan_of
  reserved_now j values e = rw reserve_is (bool (at_most (length r.pages) (length s.frames))
      (λ fit. bool (free_row s)
      (λ f. bool (id_left s)
      (λ q. let m : length r.pages ≤ length s.frames = at_most_law (length r.pages) (length s.frames) fit in
      let l : length r.pages ≤ length fs = omega (arith, range.held) in
      let y : batch s.book.next (map (value_at (grow z r.pages s.frames (s.tables b))) (take n (grow z r.pages s.frames (s.tables b)).free)) ≡ batch j values = rw (fit, f, q) at (rw reserve_is at e) in
      rw (row, live, fresh, q, fit, f) (
        ap (batch s.book.next) (sym (values_same z r.pages fs s.frames (s.tables b) l m n)) ∙ y,
        λ c. bool (eqb c b) (λ d. rw d (taken_same z r.pages fs s.frames (s.tables b) l m n now)) (λ d. rw d),
      ))
      (λ q. let y : refused 12 ≡ batch j values = rw (fit, f, q) at (rw reserve_is at e) in clash refl (ap is_refused y)))
      (λ f. let y : refused 1 ≡ batch j values = rw (fit, f) at (rw reserve_is at e) in clash refl (ap is_refused y)))
      (λ fit. let y : refused 1 ≡ batch j values = rw fit at (rw reserve_is at e) in clash refl (ap is_refused y)))
