-- The checks of a reservation, over words and in the model; and what the opening of a batch does. Assumes nothing.
use Rattle.std.proofs.Math.Path.{◌≡◌, refl}
use Rattle.std.proofs.Common.{sym, ◌∙◌, arith}
use Rattle.std.specs.Prelude.{true, List, map, ℕ, ◌+◌, ◌^◌, ◌≤◌, ◌<◌, take, ltb}
use Rattle.std.proofs.Math.Bool.{false}
use Rattle.std.proofs.Math.Option.{Option, none, some}
use Rattle.std.proofs.Math.ListN.{length}
use Rattle.std.proofs.Math.Dec.{eqb}
use borrow.Author.Tests.{eqb-true, eqb-false, ltb-false, lt-ltb, le-ltb, ne_eqb}
use Rattle.words.specs.Pick.{pick, bool, clash}
use Rattle.model.specs.Base.{at_most}
use Rattle.model.specs.State.{till, Slot.reserved, Table, Body.reservation, StorageSnapshot, State, max_batch, last_id}
use Rattle.model.specs.Storage.{pages_for, snapshot_with, take_free}
use Rattle.model.specs.Change.{with_table}
use Rattle.model.specs.Book.{add_row, free_row, id_left}
use Rattle.model.specs.Lookup.{value_at}
use Rattle.model.specs.Request.{Request, Answer.batch}
use Rattle.model.specs.Decision.{Decision, Decision.refusal, unless◌refuse◌then◌, given◌refuse◌then◌}
use Rattle.model.proofs.Decided.{Room}
use Rattle.model.specs.Step.{with_room, reserve_in, decide}
use Rattle.model.specs.Words.{used_words}
use Rattle.model.proofs.Bounds.{batch_max_law}
use Rattle.model.proofs.Changed.{with_table_at as table_at_law}
use Rattle.layout.specs.declared.Shape.{Shape}
use Rattle.layout.specs.Layout.{root, load}
use Rattle.layout.specs.Fields.{root_next_id, root_used_rows, root_free_frames}
use Rattle.layout.specs.Sizes.{batch_max}
use Rattle.representation.specs.Represents.{Rep}
use Rattle.storage.specs.Reps.{Held, held_of}
use Rattle.growth.specs.Words.{pages_needed, no_plan}
use Rattle.growth.specs.Plan.{needed_some, needed_none, plan_short}
use Rattle.lookup.specs.View.{table_refusal}
use Rattle.lookup.specs.Named.{on_active, Active, active_on, table_open, table_refused}
use Rattle.answer.specs.Does.{Both, refuse_r, Does, does_refused, does_accepted}
use Rattle.reserve.specs.Ops.{batch_refusal, room_refusal, list_w, batch_w, batch_words, slots_r, room_r}
use Rattle.reserve.specs.Tables.{table_last}
use Rattle.reserve.specs.Batch.{batch_words_law, batch_held}

-- the checks of the model, after the table's: the batch's size, then the snapshot
abbrev planned : State → ℕ → (Table → StorageSnapshot → Decision) → Table → Option StorageSnapshot → Decision
planned s n f t x =
    given x refuse 15 then λ w.
    unless at_most (length w.pages) (length s.frames) refuse 1 then
    unless free_row s refuse 1 then
    unless id_left s refuse 12 then
    f t w

abbrev sized : State → ℕ → (Table → StorageSnapshot → Decision) → Table → Decision
sized s n f t = unless ltb 0 n refuse 17 then unless at_most n max_batch refuse 13 then planned s n f t (snapshot_with t (pages_for till t n))

last_max : last_id ≡ 18446744073709551615
unfolding last_id
last_max = refl

-- an id that is left
pub id_next : (s : State) → s.book.next < 2 ^ 64 → id_left s ≡ true → s.book.next + 1 < 2 ^ 64
id_next s l e = bool (eqb s.book.next last_id)
    (λ v. let y : false ≡ true = rw v at e in clash y refl)
    (λ v. omega (arith, eqb-false s.book.next last_id v, last_max))

module _ (ws : List ℕ) (sh : Shape) (s : State) (r : Rep ws sh s) (b n : ℕ) (f : Table → StorageSnapshot → Decision) where
  -- "16, 17, 13"
  batch_refused : (k : ℕ) → batch_refusal (load ws sh) sh b n ≡ k → (k ≡ 0 → ⊥) → on_active s b (sized s n f) ≡ refusal k
  unfolding batch_refusal
  batch_refused k e c = bool (eqb (table_refusal (load ws sh) sh b) 0)
      (λ p. let a = table_open sh (load ws sh) s r.reps.memory b (eqb-true (table_refusal (load ws sh) sh b) 0 p) in
      active_on s b a (sized s n f) ∙ bool (eqb n 0)
      (λ q. let z : 17 ≡ k = rw (p, q) at e in rw (le-ltb 0 n (omega (arith, eqb-true n 0 q)), ← z))
      (λ q. bool (ltb batch_max n)
      (λ t. let z : 13 ≡ k = rw (p, q, t) at e in rw (lt-ltb 0 n (omega (arith, eqb-false n 0 q)), batch_max_law, t, ← z))
      (λ t. absurd (c (sym (rw (p, q, t) at e))))))
      (λ p. let z : table_refusal (load ws sh) sh b ≡ k = rw p at e in table_refused sh (load ws sh) s r.reps.memory b k z c (sized s n f))

  batch_passed : batch_refusal (load ws sh) sh b n ≡ 0 → Active s b × (0 < n) × (n ≤ batch_max)
  unfolding batch_refusal
  batch_passed e = bool (eqb (table_refusal (load ws sh) sh b) 0)
      (λ p. let a = table_open sh (load ws sh) s r.reps.memory b (eqb-true (table_refusal (load ws sh) sh b) 0 p) in
      bool (eqb n 0)
      (λ q. let z : ◌≡◌ {A = ℕ} 17 0 = rw (p, q) at e in absurd (omega arith))
      (λ q. bool (ltb batch_max n)
      (λ t. let z : ◌≡◌ {A = ℕ} 13 0 = rw (p, q, t) at e in absurd (omega arith))
      (λ t. (a, omega (arith, eqb-false n 0 q), ltb-false batch_max n t))))
      (λ p. let z : table_refusal (load ws sh) sh b ≡ 0 = rw p at e in absurd (eqb-false (table_refusal (load ws sh) sh b) 0 p z))

  module _ (req : Request) (decided : decide till s req ≡ with_room till s b n f) (os : List ℕ) (base : ℕ) (x : ℕ → Both)
      (does : (w : StorageSnapshot) → Room till s b n w → decide till s req ≡ f (s.tables b) w → Does ws os sh base s req (x (length w.pages))) where
    -- "15, 1, 12", and the rest
    module _ (a : Active s b) (pos : 0 < n) (few : n ≤ batch_max) where
      passed : on_active s b (sized s n f) ≡ planned s n f (s.tables b) (snapshot_with (s.tables b) (pages_for till (s.tables b) n))
      passed = active_on s b a (sized s n f) ∙ rw (lt-ltb 0 n pos, batch_max_law, le-ltb batch_max n few)

      abbrev rest : ℕ → Both
      rest p = pick (eqb (room_refusal (load ws sh) sh p) 0) (x p) (refuse_r ws os base (room_refusal (load ws sh) sh p))

      -- a refusal with the number k
      no_room : (p k : ℕ) → room_refusal (load ws sh) sh p ≡ k → (k ≡ 0 → ⊥) → planned s n f (s.tables b) (snapshot_with (s.tables b) (pages_for till (s.tables b) n)) ≡ refusal k → Does ws os sh base s req (rest p)
      no_room p k e c d = rw (e, ne_eqb k 0 c) (does_refused os sh base s req ws k r.reps (decided ∙ passed ∙ d))

      planned_does : (o : Option (List ℕ)) → pages_for till (s.tables b) n ≡ o → Does ws os sh base s req (rest (pages_needed (load ws sh) b n))
      unfolding room_refusal
      planned_does none e =
          let t = r.reps.memory.tables b a.known in
          let z : pages_needed (load ws sh) b n ≡ no_plan = needed_none (load ws sh) b (s.tables b) t ((held_of ws sh s r).placed.sound b a.known) n few e in
          rw z (no_room no_plan 15 refl (λ y. omega arith) (rw e))
      planned_does (some ps) e =
          let t = r.reps.memory.tables b a.known in
          let w : StorageSnapshot = record { epoch = (s.tables b).epoch; free_slots = length (s.tables b).free; pages = ps } in
          let z : pages_needed (load ws sh) b n ≡ length ps = needed_some (load ws sh) b (s.tables b) t ((held_of ws sh s r).placed.sound b a.known) n few ps e in
          let k : eqb (length ps) no_plan ≡ false = ne_eqb (length ps) no_plan (λ y. omega (arith, plan_short till (s.tables b) n ps e)) in
          let frames : load ws sh (root root_free_frames) ≡ length s.frames = r.reps.memory.frames.count in
          let used : load ws sh (root root_used_rows) ≡ length s.book.rows = r.reps.memory.book.used in
          let next : load ws sh (root root_next_id) ≡ s.book.next = r.reps.memory.book.next in
          let rows : sh.rows ≡ s.book.capacity = r.reps.memory.capacity in
          rw z (bool (ltb (length s.frames) (length ps))
          (λ p. no_room (length ps) 1 (rw (k, frames, p)) (λ y. omega arith) (rw (e, p)))
          (λ p. bool (ltb (length s.book.rows) s.book.capacity)
          (λ q. bool (eqb s.book.next last_id)
          (λ v. no_room (length ps) 12 (rw (k, frames, p, next, used, rows, q, v)) (λ y. omega arith) (rw (e, p, q, v)))
          (λ v. let d : room_refusal (load ws sh) sh (length ps) ≡ 0 = rw (k, frames, p, next, used, rows, q, v) in
          rw d (does w
          (record {
            there = a.known;
            live = a.active;
            some = lt-ltb 0 n pos;
            few = rw (batch_max_law, le-ltb batch_max n few);
            snapshot = rw e;
            frames = rw p;
            row = q;
            id = rw v;
          })
          (decided ∙ passed ∙ rw (e, p, q, v)))))
          (λ q. no_room (length ps) 1 (rw (k, frames, p, used, rows, q)) (λ y. omega arith) (rw (e, p, q)))))

    -- THE CHECKS: what is left of a request that has them is its effect
    pub room_does : Does ws os sh base s req (room_r ws os sh base b n x)
    unfolding room_r
    room_does = bool (eqb (batch_refusal (load ws sh) sh b n) 0)
        (λ p. let a = batch_passed (eqb-true (batch_refusal (load ws sh) sh b n) 0 p) in
        rw p (planned_does a.0 a.1 a.2 (pages_for till (s.tables b) n) refl))
        (λ p. rw p (does_refused os sh base s req ws (batch_refusal (load ws sh) sh b n) r.reps
        (decided ∙ batch_refused (batch_refusal (load ws sh) sh b n) refl (eqb-false (batch_refusal (load ws sh) sh b n) 0 p))))

-- THE BATCH: table b of the state s has become u, and its first n free slots are Reserved under the next id
module _ (ws vs : List ℕ) (sh : Shape) (s₀ s : State) (b : ℕ) (u : Table) (h : Held vs sh (with_table s b u)) (l : b < s.table_count) (n : ℕ) (few : n ≤ batch_max) (enough : n ≤ length u.free)
    (room : length s.book.rows < s.book.capacity) (left : s.book.next + 1 < 2 ^ 64) where
  its : (with_table s b u).tables b ≡ u
  its = table_at_law s b u

  full : n ≤ length ((with_table s b u).tables b).free
  full = rw its enough

  open_words : batch_words (load (list_w vs sh b n) sh) b n ≡ used_words (batch s.book.next (map (value_at u) (take n u.free)))
  open_words = rw its at (batch_words_law vs sh (with_table s b u) h b l n few full room)

  open_held : Held (batch_w (list_w vs sh b n) sh b n) sh (add_row (reservation b (take n u.free)) (with_table s b (take_free till n (λ g. reserved g s.book.next) u)))
  open_held = rw (its, table_last s b u (take_free till n (λ g. reserved g s.book.next) u) (reservation b (take n u.free))) at (batch_held vs sh (with_table s b u) h b l n few full room left)

  pub slots_does : (os : List ℕ) (base : ℕ) (req : Request) → decide till s₀ req ≡ reserve_in till s b n u → Does ws os sh base s₀ req (slots_r vs os sh base b n)
  unfolding slots_r
  slots_does os base req d = rw open_words (does_accepted os sh base s₀ req _ _ _ open_held.reps d)
