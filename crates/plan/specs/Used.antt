-- Use plan: its function takes the model's step. Using is dropping, then attaching in the frames that were held. Assumes nothing.
use Rattle.std.specs.Prelude.{◌≡◌, refl, Bool, true, false, List, ℕ, zero, suc, ◌-◌, ◌≤◌, ◌<◌, length, eqb}
use Rattle.std.proofs.Common.{sym, ◌∙◌, arith, ne_eqb, eqb-true, lt-ltb}
use Rattle.std.proofs.Math.Path.{ap}
use Rattle.std.proofs.Math.Bool.{not}
use Rattle.std.proofs.Math.Option.{some}
use Rattle.std.proofs.lemmas.Bool.{eqb-false}
use Rattle.words.specs.Pick.{pick, bool}
use Rattle.model.specs.State.{till, Table, StorageSnapshot, State, is_active, last_id}
use Rattle.model.specs.Storage.{pages_for, is_stale, grow}
use Rattle.model.specs.Change.{with_table}
use Rattle.model.specs.Book.{drop_row}
use Rattle.model.specs.Request.{Request.use_plan}
use Rattle.model.specs.Decision.{Decision, unless◌refuse◌then◌, when◌refuse◌then◌}
use Rattle.model.specs.Step.{reserve_in, use_plan_of, decide}
use Rattle.model.specs.WellFormed.{PlanRange}
use Rattle.model.proofs.Bounds.{batch_max_law}
use Rattle.invariant.proofs.BookLemmas.{length_dropped}
use Rattle.invariant.proofs.Pages.{till_sane}
use Rattle.invariant.proofs.Snapshots.{fresh_pages}
use Rattle.layout.specs.declared.Shape.{Shape}
use Rattle.layout.specs.Layout.{Mem, head, row, item, load}
use Rattle.layout.specs.Fields.{head_lifecycle, head_cursor, row_table, item_page, item_frame}
use Rattle.layout.specs.Sizes.{batch_max}
use Rattle.representation.specs.Represents.{HeldIs, Represents, Rep}
use Rattle.representation.specs.Told.{life_tells}
use Rattle.storage.specs.Kept.{items_kept}
use Rattle.storage.specs.Reps.{Held, held_of}
use Rattle.book.specs.Ops.{plan_link}
use Rattle.book.specs.Decided.{decided_by, refused_when, accepted_when}
use Rattle.book.specs.Find.{fits_of}
use Rattle.book.specs.Found.{OpenPlan, plan_none, plan_some}
use Rattle.growth.specs.Words.{grow_in_w}
use Rattle.growth.specs.Grow.{grow_in_held, grow_enough}
use Rattle.lookup.specs.View.{table_refusal}
use Rattle.answer.specs.Does.{Does, does_refused}
use Rattle.reserve.specs.Room.{id_next, slots_does}
use Rattle.plan.specs.Ops.{stale_in, stale_at, use_refusal, drop_w, use_r, used_r, use_plan_r}
use Rattle.plan.specs.Dropped.{dropped, drop_formed, drop_range, frames_once, drop_held, drop_items}
use Rattle.plan.specs.Stale.{enough_short, stale_is}

-- ---- "16, 21, 12"

-- the number of the refusal: the table is active, the plan is stale, the last id is spent
abbrev numbered : Bool → Bool → Bool → ℕ
numbered active stale last = pick active (pick stale 21 (pick last 12 0)) 16

number_is : (active stale : Bool) (i : ℕ) → pick (eqb (pick active 0 16) 0) (pick stale 21 i) (pick active 0 16) ≡ pick active (pick stale 21 i) 16
number_is true stale i = refl
number_is false stale i = refl

decision_is : (active stale last : Bool) (d : Decision) → (unless active refuse 16 then when stale refuse 21 then unless not last refuse 12 then d) ≡ decided_by (numbered active stale last) d
decision_is false stale last d = refl
decision_is true true last d = refl
decision_is true false true d = refl
decision_is true false false d = refl

passed : (active stale last : Bool) → numbered active stale last ≡ 0 → (stale ≡ false) × (last ≡ false)
passed false stale last e = absurd (omega arith)
passed true true last e = absurd (omega arith)
passed true false true e = absurd (omega arith)
passed true false false e = (refl, refl)

-- the table of a row is known
table_known : (sh : Shape) (m : Mem) (s : State) → Represents sh m s → (b : ℕ) → b < s.table_count → table_refusal m sh b ≡ pick (is_active (s.tables b).life) 0 16
unfolding table_refusal
table_known sh m s i b l =
    rw (lt-ltb b sh.tables (omega (arith, i.table_count)), life_tells (m (head b head_lifecycle)) (m (head b head_cursor)) (s.tables b).life (i.tables b l).life)

module _ (ws : List ℕ) (sh : Shape) (s : State) (r : Rep ws sh s) (x i b n : ℕ) (w : StorageSnapshot) (fs : List ℕ) (o : OpenPlan (load ws sh) s x i b n w fs) where
  abbrev t : Table
  t = s.tables b

  -- the table after growth
  abbrev u : Table
  u = grow till w.pages fs t

  h : Held ws sh s
  h = held_of ws sh s r

  range : PlanRange till s b n w fs
  range = drop_range ws sh s r x i b n w fs o

  few : n ≤ batch_max
  few = omega (arith, range.count.1, batch_max_law)

  stale : stale_at (load ws sh) x ≡ is_stale till t n w
  stale = ap (λ (c : ℕ). stale_in (load ws sh) c x) o.row.body.table
      ∙ stale_is (load ws sh) b t (r.reps.memory.tables b range.table) (h.placed.sound b range.table) x n few w fs o.row.body
      (omega (arith, few, enough_short till till_sane (n - w.free_slots) w.pages range.kept.enough range.kept.pages))

  -- the number, by the model's tests
  refusal_is : use_refusal (load ws sh) sh x ≡ numbered (is_active t.life) (is_stale till t n w) (eqb s.book.next last_id)
  unfolding use_refusal
  refusal_is =
      let e : table_refusal (load ws sh) sh (load ws sh (row x row_table)) ≡ pick (is_active t.life) 0 16
      = ap (table_refusal (load ws sh) sh) o.row.body.table ∙ table_known sh (load ws sh) s r.reps.memory b range.table in
      rw (e, stale, r.reps.memory.book.next) (number_is (is_active t.life) (is_stale till t n w) (pick (eqb s.book.next last_id) 12 0))

  decided : decide till s (use_plan i) ≡ decided_by (use_refusal (load ws sh) sh x) (reserve_in till (drop_row i s) b n u)
  unfolding decide use_plan_of
  decided = rw (o.found, refusal_is) (decision_is (is_active t.life) (is_stale till t n w) (eqb s.book.next last_id) (reserve_in till (drop_row i s) b n u))

  -- ---- a plan that is used

  module _ (done : use_refusal (load ws sh) sh x ≡ 0) where
    tests : (is_stale till t n w ≡ false) × (eqb s.book.next last_id ≡ false)
    tests = passed (is_active t.life) (is_stale till t n w) (eqb s.book.next last_id) (sym refusal_is ∙ done)

    pages : pages_for till t n ≡ some w.pages
    pages = fresh_pages till t n w (ap not tests.0)

    -- its pages are attached in the frames that it held
    grown : Held (grow_in_w (drop_w ws sh x) sh b x (length w.pages)) sh (with_table (drop_row i s) b u)
    grown = grow_in_held sh b (drop_w ws sh x) (dropped ws sh s r x i b n w fs o) (drop_held ws sh s r x i b n w fs o) range.table (drop_formed ws sh s r x i b n w fs o).frames n w.pages fs s.frames pages range.held x
        (items_kept (λ j p. load ws sh (item x j item_page) ≡ p) (λ j p. load (drop_w ws sh x) sh (item x j item_page) ≡ p) (λ j p e. drop_items ws sh s r x i b n w fs o j item_page ∙ e) 0 w.pages o.row.body.pages)
        (items_kept (HeldIs (load ws sh) x) (λ j f. load (drop_w ws sh x) sh (item x j item_frame) ≡ f) (λ j f e. drop_items ws sh s r x i b n w fs o j item_frame ∙ e.0) 0 fs o.row.body.held)
        refl r.well_formed.frames.rising (frames_once ws sh s r x i b n w fs o)

    use_does : (os : List ℕ) (base : ℕ) → Does ws os sh base s (use_plan i) (use_r ws os sh base x)
    unfolding use_r
    use_does os base = rw (o.row.body.table, o.row.body.count, o.row.body.page_count)
        (slots_does ws (grow_in_w (drop_w ws sh x) sh b x (length w.pages)) sh s (drop_row i s) b u grown range.table n few
        (grow_enough till till_sane t (h.placed.sound b range.table) n few w.pages fs pages (omega (arith, range.held)))
        (omega (arith, length_dropped i _ s.book.rows o.found, (fits_of s r.well_formed).room))
        (id_next s r.well_formed.ids.next (ap not tests.1)) os base (use_plan i)
        (accepted_when (use_refusal (load ws sh) sh x) (decide till s (use_plan i)) (reserve_in till (drop_row i s) b n u) decided done))

  row_does : (os : List ℕ) (base : ℕ) → Does ws os sh base s (use_plan i) (used_r ws os sh base x)
  unfolding used_r
  row_does os base = bool (eqb (use_refusal (load ws sh) sh x) 0)
      (λ e. rw e (use_does (eqb-true (use_refusal (load ws sh) sh x) 0 e) os base))
      (λ e. rw e (does_refused os sh base s (use_plan i) ws (use_refusal (load ws sh) sh x) r.reps
      (refused_when (use_refusal (load ws sh) sh x) (decide till s (use_plan i)) (reserve_in till (drop_row i s) b n u) decided (eqb-false (use_refusal (load ws sh) sh x) 0 e))))

-- USE PLAN is the model's step
pub use_plan_does : (ws : List ℕ) (sh : Shape) (s : State) → Rep ws sh s → (os : List ℕ) (base i : ℕ) → Does ws os sh base s (use_plan i) (use_plan_r ws os sh base i)
unfolding use_plan_r decide use_plan_of
use_plan_does ws sh s r os base i = go (plan_link (load ws sh) sh i) refl
  where
    go : (l : ℕ) → plan_link (load ws sh) sh i ≡ l → Does ws os sh base s (use_plan i) (use_plan_r ws os sh base i)
    go zero e = rw e (does_refused os sh base s (use_plan i) ws 18 r.reps (plan_none ws sh s r i e _))
    go (suc x) e = let p = plan_some ws sh s r i x e in let z : suc x - 1 ≡ x = omega arith in
        rw (e, ne_eqb (suc x) 0 (λ y. omega arith), z) (row_does ws sh s r x i p.0 p.1 p.2 p.3 p.4 os base)
