-- Abort and trim: their functions take the model's steps. Assumes nothing.
use Rattle.std.specs.Prelude.{◌≡◌, length, take, drop, eqb}
use Rattle.std.proofs.Math.Path.{refl}
use Rattle.std.proofs.Math.Bool.{true}
use mathlib.Core.List.{List}
use Prim.Native.Nat.{ℕ, zero, suc, ◌-◌, ◌≤◌, min}
use native.Mathlib.Omega.{arith}
use Rattle.std.proofs.Math.Dec.{ltb}
use borrow.Author.Tests.{eqb-true, eqb-false, ltb-false, lt-ltb, le-ltb, ne_eqb}
use Rattle.words.specs.Pick.{bool}
use Rattle.model.specs.State.{max_batch, till, Body.reservation, State}
use Rattle.model.specs.Storage.{vacate_all}
use Rattle.model.specs.Change.{with_table}
use Rattle.model.specs.Book.{drop_row, swap_row}
use Rattle.model.specs.Request.{Request.abort, Request.trim, Answer.done}
use Rattle.model.specs.Step.{abort_of, trim_of, decide}
use Rattle.model.specs.Words.{used_words}
use Rattle.invariant.proofs.BookLemmas.{found_range}
use Rattle.layout.specs.declared.Shape.{Shape}
use Rattle.layout.specs.Layout.{row, load}
use Rattle.layout.specs.Fields.{row_length}
use Rattle.layout.specs.Sizes.{batch_max}
use Rattle.representation.specs.Represents.{Rep}
use Rattle.storage.specs.Reps.{Held, held_of}
use Rattle.book.specs.Reservations.{abort_held, trim_held}
use Rattle.answer.specs.Does.{Does, does_refused, does_accepted, does_on_row}
use Rattle.book.specs.Ops.{reservation_link}
use Rattle.claim.specs.EndsOps.{aborted_w, trimmed_w, abort_r, trim_r}
use Rattle.book.specs.Found.{Open, reservation_none, reservation_some}

module _ (ws : List ℕ) (sh : Shape) (s : State) (r : Rep ws sh s) (x i b : ℕ) (ks : List ℕ) (o : Open (load ws sh) s x i b ks) where
  -- a batch has at most 64 slots
  count : min (load ws sh (row x row_length)) batch_max ≡ length ks
  unfolding max_batch
  count = omega (arith, o.row.body.2, (found_range s r.well_formed i (reservation b ks) o.found).1.1)

  aborted_held : Held (aborted_w ws sh x) sh (drop_row i (with_table s b (vacate_all till ks (s.tables b))))
  unfolding aborted_w
  aborted_held = rw (count, o.row.body.1) (abort_held ws sh s (held_of ws sh s r) r.well_formed x i b ks o.row)

  trimmed_held : (n : ℕ) → n ≤ length ks → Held (trimmed_w ws sh x n) sh (swap_row i (reservation b (take n ks)) (with_table s b (vacate_all till (drop n ks) (s.tables b))))
  unfolding trimmed_w
  trimmed_held n h = rw (count, o.row.body.1) (trim_held ws sh s (held_of ws sh s r) r.well_formed x i b ks o.row n h)

module _ (ws : List ℕ) (sh : Shape) (s : State) (r : Rep ws sh s) (os : List ℕ) (base i : ℕ) where
  -- ABORT is the model's step
  pub abort_does : Does ws os sh base s (abort i) (abort_r ws os sh base i)
  unfolding decide abort_of
  abort_does = does_on_row os sh base s (abort i) ws (aborted_w ws sh) (reservation_link (load ws sh) sh i) r.reps (λ e. reservation_none ws sh s r i e _)
      (λ x e. let p = reservation_some ws sh s r i x e in
      (drop_row i (with_table s p.0 (vacate_all till p.1 (s.tables p.0))), (aborted_held ws sh s r x i p.0 p.1 p.2).reps, rw p.2.found))

  -- TRIM is the model's step
  pub trim_does : (n : ℕ) → Does ws os sh base s (trim i n) (trim_r ws os sh base i n)
  unfolding trim_r decide trim_of used_words
  trim_does n = go (reservation_link (load ws sh) sh i) refl
    where
      go : (l : ℕ) → reservation_link (load ws sh) sh i ≡ l → Does ws os sh base s (trim i n) (trim_r ws os sh base i n)
      go zero e = rw e (does_refused os sh base s (trim i n) ws 18 r.reps (reservation_none ws sh s r i e _))
      go (suc x) e =
          let p = reservation_some ws sh s r i x e in let b : ℕ = p.0 in let ks : List ℕ = p.1 in let o = p.2 in
          let z : suc x - 1 ≡ x = omega arith in
          rw (e, z, ne_eqb (suc x) 0 (λ q. omega arith), o.row.body.2)
          (bool (eqb n 0)
          (λ y. rw y (does_refused os sh base s (trim i n) ws 18 r.reps (rw (o.found, le-ltb 0 n (omega (arith, eqb-true n 0 y))))))
          (λ y. let pos : ltb 0 n ≡ true = lt-ltb 0 n (omega (arith, eqb-false n 0 y)) in
          bool (ltb (length ks) n)
          (λ q. rw (y, q) (does_refused os sh base s (trim i n) ws 18 r.reps (rw (o.found, pos, q))))
          (λ q. rw (y, q) (does_accepted os sh base s (trim i n) (trimmed_w ws sh x n)
          (swap_row i (reservation b (take n ks)) (with_table s b (vacate_all till (drop n ks) (s.tables b)))) done
          (trimmed_held ws sh s r x i b ks o n (ltb-false (length ks) n q)).reps (rw (o.found, pos, q))))))
