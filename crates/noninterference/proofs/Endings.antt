-- The claim rolled back, or committed, against the state without it.
use Rattle.std.specs.Prelude.{◌≡◌, true, false, ◌&&◌, List, [], ◌∷◌, map, ℕ, ◌+◌, ◌≤◌, ltb, eqb}
use Rattle.std.proofs.Math.Path.{refl}
use Rattle.std.proofs.Common.{sym, ap, ◌∙◌, arith, eqb-true, lt-ltb, eq-eqb}
use Rattle.codec.specs.Codec.{decodes, slot_in, generation_in}
use Rattle.model.specs.Base.{bit, put, every, occurs}
use Rattle.model.specs.State.{Sizes, Handle, Slot.occupied, Table, Entry, Entry.moved, Entry.copied, Body.claim, Body.parcel, State}
use Rattle.model.specs.State.{is_active}
use Rattle.model.specs.Storage.{place, vacate, vacate_all}
use Rattle.model.specs.Change.{with_table}
use Rattle.model.specs.Objects.{release, info_for}
use Rattle.model.specs.Request.{Request, Request.close, Request.rollback, Request.commit, Answer, Answer.done, Answer.info_of}
use Rattle.model.specs.Book.{find, drop_row, swap_row, moved_of, copies_of, sent_of}
use Rattle.model.specs.Lookup.{View.holds, lookup}
use Rattle.model.specs.Step.{restore_all, close_of, rollback_of, commit_of, decide, step, run}
use Rattle.model.specs.WellFormed.{WellFormed, BodyRange, is_moving_by, in_claim}
use Rattle.noninterference.specs.Runs.{accepted, lowered, with_slots, lower_table, lower_row, lower_state}
use Rattle.noninterference.specs.Erase.{handle_at, erase_table, erase}
use Rattle.model.proofs.Tests.{bool}
use Rattle.invariant.proofs.BookLemmas.{find_drop_same, find_swap_same, all_found}
use Rattle.noninterference.proofs.Basics.{put_map}
use Rattle.noninterference.proofs.Tables.{vacate_all_erase, restore_all_erase}
use Rattle.noninterference.proofs.Rows.{drop_twice}
use Rattle.noninterference.proofs.Alike.{Held, Open, Case, bare_slot, counted, is_active_law}
use Rattle.noninterference.proofs.Restore.{restore_idle, agrees_own, stand_erased}

-- a table without the claim's marks is only lowered
bare_table : (t : ℕ) (es : List Entry) (x : Table) → ((k : ℕ) → is_moving_by t (x.slots k) ≡ false) → erase_table t es x ≡ lower_table t x
bare_table t es x n = λ i. with_slots x (λ k. bare_slot t es k (x.slots k) (n k) i)

-- no slot is marked with an id that names no open claim
unmarked : (z : Sizes) (u : State) → WellFormed z u → (t : ℕ) → ((c k : ℕ) → in_claim c k (find t u.book.rows) ≡ 0) → (c k : ℕ)
    → is_moving_by t ((u.tables c).slots k) ≡ false
unmarked z u w t n c k = bool (is_moving_by t ((u.tables c).slots k))
    (λ e. absurd (omega (arith, sym (n c k) ∙ w.marks.transfer_reserved t c k ∙ ap bit e)))
    (λ e. e)

-- Closing the values one by one

module _ (z : Sizes) where
  pub vacate_life : (y : Table) (k : ℕ) → (vacate z y k).life ≡ y.life
  unfolding vacate place
  vacate_life y k = refl

  pub vacate_mask : (y : Table) (k : ℕ) → (vacate z y k).mask ≡ y.mask
  unfolding vacate place
  vacate_mask y k = refl

  pub vacate_other : (y : Table) (k j : ℕ) → eqb j k ≡ false → (vacate z y k).slots j ≡ y.slots j
  unfolding vacate place
  vacate_other y k j e = rw e

  -- the entries' values name handles in their slots
  abbrev Ready : Table → List Entry → List ℕ → Type 0
  Ready y [] [] = Unit {0}
  Ready y [] (v ∷ vs) = ⊥
  Ready y (moved k h r ∷ es) [] = ⊥
  Ready y (moved k h r ∷ es) (v ∷ vs) = (decodes y.mask v ≡ true) × (slot_in y.mask v ≡ k)
      × ((g : Handle) × (y.slots k ≡ occupied (generation_in y.mask v) g)) × Ready y es vs
  Ready y (copied h ∷ es) vs = ⊥

  ready_vacate : (y : Table) (k : ℕ) (es : List Entry) → ((j : ℕ) → 1 ≤ occurs j (moved_of es) → eqb j k ≡ false) → (vs : List ℕ) → Ready y es vs
      → Ready (vacate z y k) es vs
  ready_vacate y k [] n [] p = tt
  ready_vacate y k [] n (v ∷ vs) p = absurd p
  ready_vacate y k (moved j h r ∷ es) n [] p = absurd p
  ready_vacate y k (moved j h r ∷ es) n (v ∷ vs) p = (
    rw (vacate_mask y k) p.0,
    rw (vacate_mask y k) p.1,
    (p.2.0, rw (vacate_mask y k) (vacate_other y k j (n j (rw (eq-eqb j j refl) (omega arith))) ∙ p.2.1)),
    ready_vacate y k es (λ i c. n i (omega arith)) vs p.3,
  )
  ready_vacate y k (copied h ∷ es) n vs p = absurd p

  look_is : (y : Table) (v k : ℕ) (h : Handle) → decodes y.mask v ≡ true → slot_in y.mask v ≡ k
      → y.slots k ≡ occupied (generation_in y.mask v) h → lookup y v ≡ holds k h
  look_is y v k h d a e = rw (d, a, e, eq-eqb (generation_in y.mask v) (generation_in y.mask v) refl)

  module _ (b : ℕ) where
    pub close_is : (p : State) (v k : ℕ) (h : Handle) → ltb b p.table_count ≡ true → is_active (p.tables b).life ≡ true
        → lookup (p.tables b) v ≡ holds k h
        → step z p (close b v) ≡ (release (with_table p b (vacate z (p.tables b) k)) (h ∷ []), info_of (info_for p h))
    unfolding step decide close_of
    close_is p v k h c a l = rw (c, a, l)

    -- each closing is accepted, and together they vacate the slots in order
    closings : (p : State) (y : Table) → p.tables b ≡ y → ltb b p.table_count ≡ true → is_active y.life ≡ true
        → (es : List Entry) → ((k : ℕ) → occurs k (moved_of es) ≤ 1) → (vs : List ℕ) → Ready y es vs
        → (every accepted (run z p (map (close b) vs)).1 ≡ true)
        × ((c : ℕ) → (run z p (map (close b) vs)).0.tables c ≡ put p.tables b (vacate_all z (moved_of es) y) c)
    closings p y e c a [] o [] r = (refl, λ d. bool (eqb d b) (λ q. rw (q, eqb-true d b q) e) (λ q. rw q))
    closings p y e c a [] o (v ∷ vs) r = absurd r
    closings p y e c a (moved k h x ∷ es) o [] r = absurd r
    closings p y e c a (moved k h x ∷ es) o (v ∷ vs) r =
        let u : State = release (with_table p b (vacate z y k)) (r.2.0 ∷ []) in
        let d : step z p (close b v) ≡ (u, info_of (info_for p r.2.0)) =
        close_is p v k r.2.0 c (rw e a) (rw e (look_is y v k r.2.0 r.0 r.1 r.2.1)) ∙ rw e in
        let w = closings u (vacate z y k) (rw (eq-eqb b b refl)) c (rw (vacate_life y k) a) es (λ j. omega (arith, o j)) vs
        (ready_vacate y k es (λ j m. bool (eqb j k)
        (λ q. absurd (let f : 1 + occurs j (moved_of es) ≤ 1 = rw q at (o j) in omega arith)) (λ q. q)) vs r.3) in (
          ap (λ (f : State × Answer). accepted f.1 && every accepted (run z f.0 (map (close b) vs)).1) d ∙ w.0,
          λ j. ap (λ (f : State × Answer). (run z f.0 (map (close b) vs)).0.tables j) d ∙ w.1 j ∙ bool (eqb j b) (λ q. rw q) (λ q. rw q),
        )
    closings p y e c a (copied h ∷ es) o vs r = absurd r

module _ (z : Sizes) (kept : (s : State) → WellFormed z s → (r : Request) → WellFormed z (step z s r).0) (t b : ℕ) (es : List Entry) (vs : List ℕ)
    (s : State) (o : Open z t b es vs s) where
  abbrev x : Case
  x = record { z = z; t = t; b = b; es = es; vs = vs; s = s; o = o }

  abbrev y : Table
  y = s.tables b

  once : (k : ℕ) → occurs k (moved_of es) ≤ 1
  once k = bool (is_moving_by t (y.slots k)) (λ e. omega (arith, counted x k ∙ ap bit e)) (λ e. omega (arith, counted x k ∙ ap bit e))

  no_copies : (xs : List Entry) (ws : List ℕ) → Held t y xs ws → copies_of xs ≡ []
  no_copies [] ws h = refl
  no_copies (moved k g r ∷ xs) [] h = absurd h
  no_copies (moved k g r ∷ xs) (w ∷ ws) h = no_copies xs ws h.3
  no_copies (copied g ∷ xs) ws h = absurd h

  -- rolled back
  abbrev after_rollback : State
  after_rollback = drop_row t (with_table s b (restore_all z es y))

  pub rolled : step z s (rollback t) ≡ (after_rollback, done)
  unfolding step decide rollback_of
  rolled = rw (o.row, no_copies es vs o.held)

  restored : erase_table t es (restore_all z es y) ≡ erase_table t es y
  restored = sym (restore_all_erase t es z es y)
      ∙ restore_idle z (erase_table t es y) es (stand_erased z t es y (o.wf.generations b) es (agrees_own es once) vs o.held)

  pub erase_rolled : erase t es after_rollback ≡ erase t es s
  erase_rolled = λ i. record {
    table_count = s.table_count;
    tables = λ c. tables_same c i;
    object_count = s.object_count;
    objects = s.objects;
    frame_count = s.frame_count;
    frames = s.frames;
    book = record { rows = map (lower_row t) (drop_twice t s.book.rows i); capacity = s.book.capacity; next = lowered t s.book.next };
  }
    where
      tables_same : (c : ℕ) → erase_table t es (put s.tables b (restore_all z es y) c) ≡ erase_table t es (s.tables c)
      tables_same c = bool (eqb c b) (λ e. rw (e, eqb-true c b e) restored) (λ e. rw e)

  lower_rolled : erase t es after_rollback ≡ lower_state t after_rollback
  lower_rolled = λ i. record {
    table_count = s.table_count;
    tables = λ c. bare_table t es (after_rollback.tables c) (none_marked c) i;
    object_count = s.object_count;
    objects = s.objects;
    frame_count = s.frame_count;
    frames = s.frames;
    book = record { rows = map (lower_row t) (drop_twice t s.book.rows i); capacity = s.book.capacity; next = lowered t s.book.next };
  }
    where
      none_marked : (c k : ℕ) → is_moving_by t ((after_rollback.tables c).slots k) ≡ false
      none_marked = unmarked z after_rollback (rw rolled at (kept s o.wf (rollback t))) t (λ c k. rw (find_drop_same t s.book.rows))

  pub rollback_done : (step z s (rollback t)).1 ≡ done
  rollback_done = rw rolled

  pub rollback_is : erase t es s ≡ lower_state t (step z s (rollback t)).0
  rollback_is = sym erase_rolled ∙ lower_rolled ∙ rw rolled

  -- committed
  abbrev after_commit : State
  after_commit = swap_row t (parcel (map sent_of es)) (with_table s b (vacate_all z (moved_of es) y))

  pub made : step z s (commit t) ≡ (after_commit, done)
  unfolding step decide commit_of
  made = rw o.row

  pub commit_done : (step z s (commit t)).1 ≡ done
  commit_done = rw made

  ready : (xs : List Entry) (ws : List ℕ) → Held t y xs ws → Ready z (erase_table t es y) xs ws
  ready [] [] h = tt
  ready [] (v ∷ ws) h = absurd h
  ready (moved k g r ∷ xs) [] h = absurd h
  ready (moved k g r ∷ xs) (v ∷ ws) h = (h.0, h.1, (handle_at k es, rw (h.2, eq-eqb t t refl)), ready xs ws h.3)
  ready (copied g ∷ xs) ws h = absurd h

  closed : (every accepted (run z (erase t es s) (map (close b) vs)).1 ≡ true)
      × ((c : ℕ) → (run z (erase t es s) (map (close b) vs)).0.tables c ≡ put (erase t es s).tables b (vacate_all z (moved_of es) (erase_table t es y)) c)
  closed = closings z b (erase t es s) (erase_table t es y) refl
      (lt-ltb b s.table_count (all_found (BodyRange z s) t (claim b es) s.book.rows o.wf.ranges.rows o.row).0)
      (is_active_law x) es once vs (ready es vs o.held)

  pub closings_accepted : every accepted (run z (erase t es s) (map (close b) vs)).1 ≡ true
  closings_accepted = closed.0

  pub commit_is : (c : ℕ) → (run z (erase t es s) (map (close b) vs)).0.tables c ≡ lower_table t ((step z s (commit t)).0.tables c)
  commit_is c =
      closed.1 c
      ∙ ap (λ (w : Table). put (erase t es s).tables b w c) (vacate_all_erase t es z (moved_of es) y)
      ∙ ap (λ (f : ℕ → Table). f c) (put_map (λ d. erase_table t es) s.tables b (vacate_all z (moved_of es) y))
      ∙ bare_table t es (after_commit.tables c)
      (unmarked z after_commit (rw made at (kept s o.wf (commit t))) t
      (λ d k. rw (find_swap_same t (parcel (map sent_of es)) (claim b es) s.book.rows o.row)) c)
      ∙ rw made
