-- The requests remove_stopping_owner and teardown's start, step and finish over words are the model's steps. Assumes nothing.
use Rattle.std.specs.Prelude.{◌≡◌, true, false, List, [], ◌∷◌, ltb}
use Rattle.std.proofs.Math.Path.{refl, fun_ext}
use Rattle.std.proofs.Common.{sym, ap, ◌∙◌, arith}
use Rattle.std.proofs.Math.Bool.{not}
use Rattle.std.proofs.Math.Option.{Option, none, some}
use Prim.Native.Nat.{ℕ, suc, ◌+◌, ◌-◌, ◌<◌}
use Rattle.std.proofs.Math.Dec.{eqb}
use borrow.Author.Tests.{eq-eqb, ne_eqb, eqb-true, eqb-false, ltb-true, ltb-false, lt-ltb, le-ltb}
use Rattle.words.specs.Pick.{pick, bool, clash}
use Rattle.model.specs.Base.{put, is_some}
use Rattle.model.specs.State.{till, Handle, Slot.occupied, Lifecycle, Lifecycle.active, Lifecycle.tearing_down, Lifecycle.retired, Table, State, is_active, is_busy, is_occupied}
use Rattle.model.specs.Storage.{vacate}
use Rattle.model.specs.Change.{with_table, with_life}
use Rattle.model.specs.Objects.{info_for, release}
use Rattle.model.specs.Book.{any_open}
use Rattle.model.specs.Lookup.{handle_or, snapshot_at}
use Rattle.model.specs.Request.{Request.remove_stopping_owner, Request.teardown_start, Request.teardown_step, Request.teardown_finish, Answer.done, Answer.removed, Answer.closed}
use Rattle.model.specs.Decision.{Decision, Decision.refusal, Decision.accept, unless◌refuse◌then◌, table◌of◌refuse◌then◌, teardown_cursor◌refuse◌then◌}
use Rattle.model.specs.Step.{next_occupied, remove_at, remove_stopping_owner_of, teardown_start_of, tear_at, teardown_step_of, teardown_finish_of, decide}
use Rattle.model.specs.Words.{info_words, used_words}
use Rattle.invariant.proofs.StorageViews.{next_occupied_law}
use Rattle.layout.specs.declared.Shape.{Shape}
use Rattle.layout.specs.Layout.{Mem, head, load}
use Rattle.layout.specs.Fields.{head_lifecycle, head_cursor, slot_tag, slot_generation, slot_object}
use Rattle.layout.specs.Values.{tag_occupied, life_active, life_tearing_down, life_retired}
use Rattle.representation.specs.Represents.{link_of, slot_word, LifeIs, TableIs, Rep}
use Rattle.representation.specs.Told.{life_tells}
use Rattle.storage.specs.Ops.{vacate_w}
use Rattle.storage.specs.Reps.{Held, vacate_held, held_of}
use Rattle.object.specs.Reps.{lower_held}
use Rattle.book.specs.Find.{fits_of}
use Rattle.answer.specs.Does.{both, answered, refuse_r, Does, does_refused, does_accepted}
use Rattle.lookup.specs.View.{handle_at, handle_of, table_refusal}
use Rattle.lookup.specs.Named.{slot_occupied, slot_tells, Active, active_on, table_open, table_refused}
use Rattle.lookup.specs.Read.{info_at, info_list, object_known, info_is}
use Rattle.lookup.specs.Scanned.{entry_is}
use Rattle.teardown.specs.Ops.{next_link, remove_w, life_w, open_in, tearing, stopped_r, stopping_r, teardown_start_r, torn_r, teardown_step_r, teardown_finish_r}
use Rattle.teardown.specs.Walk.{next_is}
use Rattle.teardown.specs.Life.{life_held}
use Rattle.teardown.specs.Open.{open_is}

-- ---- what a head's lifecycle tells

-- tearing down, with the cursor in its word
life_tearing : (w c : ℕ) (x : Lifecycle) → LifeIs w c x → eqb w life_tearing_down ≡ true → x ≡ tearing_down c
life_tearing w c active e q = absurd (omega (arith, eqb-true w life_tearing_down q))
life_tearing w c (tearing_down n) e q = ap tearing_down (sym e.1)
life_tearing w c retired e q = absurd (omega (arith, eqb-true w life_tearing_down q))

life_out : (w c : ℕ) (x : Lifecycle) → LifeIs w c x → eqb w life_tearing_down ≡ false → (f : ℕ → Decision) → (teardown_cursor x refuse 18 then f) ≡ refusal 18
life_out w c active e q f = refl
life_out w c (tearing_down n) e q f = clash (eq-eqb w life_tearing_down e.0) q
life_out w c retired e q f = refl

-- a table changed, and then its lifecycle
life_after : (s : State) (b : ℕ) (u : Table) (x : Lifecycle) (hs : List Handle)
    → with_table (release (with_table s b u) hs) b (with_life (put s.tables b u b) x) ≡ release (with_table s b (with_life u x)) hs
life_after s b u x hs =
    let e : put s.tables b u b ≡ u = rw (eq-eqb b b refl) in
    let q : put (put s.tables b u) b (with_life u x) ≡ put s.tables b (with_life u x) = fun_ext (λ j. bool (eqb j b) (λ d. rw d) (λ d. rw d)) in
    ap (λ (y : Table). with_table (release (with_table s b u) hs) b (with_life y x)) e
    ∙ ap (λ (f : ℕ → Table). record { table_count = s.table_count; tables = f; object_count = s.object_count; objects = (release s hs).objects; frame_count = s.frame_count; frames = s.frames; book = s.book }) q

-- ---- a handle goes

module _ (ws : List ℕ) (sh : Shape) (s : State) (i : Rep ws sh s) where
  module _ (b : ℕ) (l : b < s.table_count) where
    its_table : TableIs (load ws sh) b (s.tables b)
    its_table = i.reps.memory.tables b l

    module _ (k : ℕ) (q : is_occupied ((s.tables b).slots k) ≡ true) where
      -- by the words
      slot_is : (s.tables b).slots k ≡ occupied (slot_word (load ws sh) b k slot_generation) (handle_of (handle_at (load ws sh) b k))
      slot_is = sym (its_table.slots k) ∙ slot_occupied (load ws sh) b k (eqb-true (slot_word (load ws sh) b k slot_tag) tag_occupied (slot_tells (load ws sh) b k ∙ ap is_occupied (its_table.slots k) ∙ q))

      known : slot_word (load ws sh) b k slot_object < s.object_count
      known = object_known s i.well_formed b l k (slot_word (load ws sh) b k slot_generation) (handle_of (handle_at (load ws sh) b k)) slot_is

      remove_held : Held (remove_w ws sh b k) sh (release (with_table s b (vacate till (s.tables b) k)) (handle_or ((s.tables b).slots k) ∷ []))
      unfolding remove_w
      remove_held = rw slot_is (lower_held (vacate_w ws sh b k) sh (with_table s b (vacate till (s.tables b) k))
          (vacate_held ws sh s (held_of ws sh s i) b l k (ap is_busy slot_is)) (slot_word (load ws sh) b k slot_object) known)

      info_tells : info_list (info_at (load ws sh) (handle_at (load ws sh) b k)) ≡ info_words (info_for s (handle_or ((s.tables b).slots k)))
      info_tells = rw slot_is (info_is sh (load ws sh) s i.reps.memory (handle_at (load ws sh) b k) known)

      -- with the cursor behind it
      torn_held : Held (life_w (remove_w ws sh b k) sh b life_tearing_down (k + 1)) sh
          (release (with_table s b (with_life (vacate till (s.tables b) k) (tearing_down (k + 1)))) (handle_or ((s.tables b).slots k) ∷ []))
      torn_held = rw (← life_after s b (vacate till (s.tables b) k) (tearing_down (k + 1)) (handle_or ((s.tables b).slots k) ∷ []))
          (life_held (remove_w ws sh b k) sh (release (with_table s b (vacate till (s.tables b) k)) (handle_or ((s.tables b).slots k) ∷ [])) remove_held b l life_tearing_down (k + 1) (tearing_down (k + 1)) (refl, refl))

    -- the walk's end, and the slot that it finds
    next_none : (c : ℕ) → next_occupied till (s.tables b) c ≡ none → next_link (load ws sh) b c ≡ 0
    next_none c e = next_is (load ws sh) b (s.tables b) its_table c ∙ ap link_of e

    next_some : (c k : ℕ) → next_occupied till (s.tables b) c ≡ some k → (next_link (load ws sh) b c ≡ k + 1) × (is_occupied ((s.tables b).slots k) ≡ true)
    next_some c k e = let z : suc k ≡ k + 1 = omega arith in
        (next_is (load ws sh) b (s.tables b) its_table c ∙ ap link_of e ∙ z, ap is_occupied (next_occupied_law till (s.tables b) c k e).1)

  -- a table that is tearing down, and any other
  tears : (b : ℕ) → tearing (load ws sh) sh b ≡ true → (b < s.table_count) × ((s.tables b).life ≡ tearing_down (load ws sh (head b head_cursor)))
  unfolding tearing
  tears b e = bool (ltb b sh.tables)
      (λ p. let l : b < s.table_count = omega (arith, ltb-true b sh.tables p, i.reps.memory.table_count) in
      (l, life_tearing (load ws sh (head b head_lifecycle)) (load ws sh (head b head_cursor)) (s.tables b).life (its_table b l).life (rw p at e)))
      (λ p. clash {b = false} (rw p at e) refl)

  tears_on : (b : ℕ) → tearing (load ws sh) sh b ≡ true → (f : Table → ℕ → Decision) → (table b of s refuse 18 then λ t. teardown_cursor t.life refuse 18 then f t) ≡ f (s.tables b) (load ws sh (head b head_cursor))
  tears_on b e f = let q = tears b e in rw (lt-ltb b s.table_count q.0, q.1)

  tears_not : (b : ℕ) → tearing (load ws sh) sh b ≡ false → (f : Table → ℕ → Decision) → (table b of s refuse 18 then λ t. teardown_cursor t.life refuse 18 then f t) ≡ refusal 18
  unfolding tearing
  tears_not b e f = bool (ltb b sh.tables)
      (λ p. let l : b < s.table_count = omega (arith, ltb-true b sh.tables p, i.reps.memory.table_count) in
      rw (lt-ltb b s.table_count l) (life_out (load ws sh (head b head_lifecycle)) (load ws sh (head b head_cursor)) (s.tables b).life (its_table b l).life (rw p at e) (f (s.tables b))))
      (λ p. rw (le-ltb b s.table_count (omega (arith, ltb-false b sh.tables p, i.reps.memory.table_count))))

-- ---- the requests

module _ (ws : List ℕ) (sh : Shape) (s : State) (i : Rep ws sh s) (os : List ℕ) (base b : ℕ) where
  abbrev t : Table
  t = s.tables b

  abbrev m : Mem
  m = load ws sh

  -- of an active table
  stopped_does : (c : ℕ) → Active s b → Does ws os sh base s (remove_stopping_owner b c) (stopped_r ws os sh base b c)
  unfolding stopped_r decide remove_stopping_owner_of used_words
  stopped_does c a = go (next_occupied till t c) refl
    where
      decided : (x : Option ℕ) → next_occupied till t c ≡ x → decide till s (remove_stopping_owner b c) ≡ remove_at till s b t x
      decided x e = rw (lt-ltb b s.table_count a.known, a.active) (ap (λ (y : Option ℕ). remove_at till s b t y) e)

      go : (x : Option ℕ) → next_occupied till t c ≡ x → Does ws os sh base s (remove_stopping_owner b c) (stopped_r ws os sh base b c)
      go none e = rw (next_none ws sh s i b a.known c e)
          (does_accepted os sh base s (remove_stopping_owner b c) ws s (removed none 0) i.reps (decided none e))
      go (some k) e =
          let q = next_some ws sh s i b a.known c k e in
          let z : k + 1 - 1 ≡ k = omega arith in
          rw (q.0, z, ne_eqb (k + 1) 0 (λ d. omega arith), entry_is ws sh s i b a.known k q.1)
          (does_accepted os sh base s (remove_stopping_owner b c) (remove_w ws sh b k) _ (removed (some (snapshot_at s t k)) (k + 1))
          (remove_held ws sh s i b a.known k q.1).reps (decided (some k) e))

  -- REMOVE_STOPPING_OWNER is the model's step
  pub remove_stopping_owner_does : (c : ℕ) → Does ws os sh base s (remove_stopping_owner b c) (stopping_r ws os sh base b c)
  unfolding stopping_r decide remove_stopping_owner_of used_words
  remove_stopping_owner_does c = bool (ltb b sh.tables)
      (λ e. let l : b < s.table_count = omega (arith, ltb-true b sh.tables e, i.reps.memory.table_count) in
      let d : eqb (m (head b head_lifecycle)) life_active ≡ is_active t.life = life_tells (m (head b head_lifecycle)) (m (head b head_cursor)) t.life (its_table ws sh s i b l).life in
      bool (is_active t.life)
      (λ a. rw (e, d, a) (stopped_does c (record { known = l; active = a })))
      (λ a. rw (e, d, a) (does_accepted os sh base s (remove_stopping_owner b c) ws s (removed none c) i.reps (rw (lt-ltb b s.table_count l, a)))))
      (λ e. rw e (does_refused os sh base s (remove_stopping_owner b c) ws 18 i.reps
      (rw (le-ltb b s.table_count (omega (arith, ltb-false b sh.tables e, i.reps.memory.table_count))))))

  -- TEARDOWN START is the model's step
  pub teardown_start_does : Does ws os sh base s (teardown_start b) (teardown_start_r ws os sh base b)
  unfolding teardown_start_r decide teardown_start_of used_words
  teardown_start_does =
      let f : Table → Decision = λ t. unless not (any_open b s.book.rows) refuse 14 then accept (with_table s b (with_life t (tearing_down 0))) done in
      let o : open_in m sh b ≡ any_open b s.book.rows = open_is sh m s i.reps.memory (fits_of s i.well_formed) b in
      bool (eqb (table_refusal m sh b) 0)
      (λ e. let a = table_open sh m s i.reps.memory b (eqb-true (table_refusal m sh b) 0 e) in
      bool (any_open b s.book.rows)
      (λ q. rw (e, o, q) (does_refused os sh base s (teardown_start b) ws 14 i.reps (active_on s b a f ∙ rw q)))
      (λ q. rw (e, o, q) (does_accepted os sh base s (teardown_start b) (life_w ws sh b life_tearing_down 0) (with_table s b (with_life t (tearing_down 0))) done
      (life_held ws sh s (held_of ws sh s i) b a.known life_tearing_down 0 (tearing_down 0) (refl, refl)).reps (active_on s b a f ∙ rw q))))
      (λ e. rw e (does_refused os sh base s (teardown_start b) ws (table_refusal m sh b) i.reps
      (table_refused sh m s i.reps.memory b (table_refusal m sh b) refl (eqb-false (table_refusal m sh b) 0 e) f)))

  -- of a table that is tearing down
  torn_does : tearing m sh b ≡ true → Does ws os sh base s (teardown_step b) (torn_r ws os sh base b)
  unfolding torn_r decide teardown_step_of used_words
  torn_does y = go (next_occupied till t (m (head b head_cursor))) refl
    where
      l : b < s.table_count
      l = (tears ws sh s i b y).0

      decided : (x : Option ℕ) → next_occupied till t (m (head b head_cursor)) ≡ x → decide till s (teardown_step b) ≡ tear_at till s b t x
      decided x e = tears_on ws sh s i b y (λ u c. tear_at till s b u (next_occupied till u c)) ∙ ap (λ (z : Option ℕ). tear_at till s b t z) e

      go : (x : Option ℕ) → next_occupied till t (m (head b head_cursor)) ≡ x → Does ws os sh base s (teardown_step b) (torn_r ws os sh base b)
      go none e = rw (next_none ws sh s i b l (m (head b head_cursor)) e)
          (does_accepted os sh base s (teardown_step b) ws s (closed none) i.reps (decided none e))
      go (some k) e =
          let q = next_some ws sh s i b l (m (head b head_cursor)) k e in
          let z : k + 1 - 1 ≡ k = omega arith in
          rw (q.0, z, ne_eqb (k + 1) 0 (λ d. omega arith), info_tells ws sh s i b l k q.1)
          (does_accepted os sh base s (teardown_step b) (life_w (remove_w ws sh b k) sh b life_tearing_down (k + 1)) _ (closed (some (info_for s (handle_or (t.slots k)))))
          (torn_held ws sh s i b l k q.1).reps (decided (some k) e))

  -- TEARDOWN STEP is the model's step
  pub teardown_step_does : Does ws os sh base s (teardown_step b) (teardown_step_r ws os sh base b)
  unfolding teardown_step_r decide teardown_step_of
  teardown_step_does = bool (tearing m sh b)
      (λ e. rw e (torn_does e))
      (λ e. rw e (does_refused os sh base s (teardown_step b) ws 18 i.reps (tears_not ws sh s i b e (λ u c. tear_at till s b u (next_occupied till u c)))))

  -- TEARDOWN FINISH is the model's step
  pub teardown_finish_does : Does ws os sh base s (teardown_finish b) (teardown_finish_r ws os sh base b)
  unfolding teardown_finish_r decide teardown_finish_of used_words
  teardown_finish_does = bool (tearing m sh b)
      (λ y. rw y (go y (next_occupied till t 0) refl))
      (λ y. rw y (does_refused os sh base s (teardown_finish b) ws 18 i.reps (tears_not ws sh s i b y rest)))
    where
      rest : Table → ℕ → Decision
      rest u c = unless not (is_some (next_occupied till u 0)) refuse 18 then accept (with_table s b (with_life u retired)) done

      go : tearing m sh b ≡ true → (x : Option ℕ) → next_occupied till t 0 ≡ x
          → Does ws os sh base s (teardown_finish b) (pick (eqb (next_link m b 0) 0) (both (life_w ws sh b life_retired 0) (answered os base (0 ∷ []))) (refuse_r ws os base 18))
      go y none e = let l = (tears ws sh s i b y).0 in
          rw (next_none ws sh s i b l 0 e)
          (does_accepted os sh base s (teardown_finish b) (life_w ws sh b life_retired 0) (with_table s b (with_life t retired)) done
          (life_held ws sh s (held_of ws sh s i) b l life_retired 0 retired refl).reps (tears_on ws sh s i b y rest ∙ rw e))
      go y (some k) e = let q = next_some ws sh s i b (tears ws sh s i b y).0 0 k e in
          rw (q.0, ne_eqb (k + 1) 0 (λ d. omega arith))
          (does_refused os sh base s (teardown_finish b) ws 18 i.reps (tears_on ws sh s i b y rest ∙ rw e))
