-- Closing a handle: what its function does to the words, and that it is the model's step. Assumes nothing.
use Rattle.std.specs.Prelude.{◌≡◌, true, List, [], ◌∷◌}
use Rattle.std.proofs.Math.Path.{refl}
use Rattle.std.proofs.Common.{ap}
use Prim.Native.Nat.{ℕ}
use Rattle.model.specs.State.{till, Handle, Table, State, is_busy}
use Rattle.model.specs.Storage.{vacate}
use Rattle.model.specs.Change.{with_table}
use Rattle.model.specs.Objects.{info_for, release}
use Rattle.model.specs.Request.{Request.close, Answer.info_of}
use Rattle.model.specs.Decision.{Decision, Decision.accept}
use Rattle.model.specs.Step.{close_of, decide}
use Rattle.model.specs.Words.{used_words}
use Rattle.layout.specs.declared.Shape.{Shape}
use Rattle.layout.specs.Layout.{load}
use Rattle.representation.specs.Represents.{Rep}
use Rattle.storage.specs.Ops.{vacate_w}
use Rattle.storage.specs.Reps.{Held, vacate_held, held_of}
use Rattle.object.specs.Words.{lower_w}
use Rattle.object.specs.Reps.{lower_held}
use Rattle.answer.specs.Does.{Both, both, answered, refuse_r, Does, does_refused, does_accepted}
use Rattle.lookup.specs.declared.PreparedHandle.{PreparedHandle}
use Rattle.lookup.specs.View.{Opened}
use Rattle.lookup.specs.View.{Opened.Refused, Opened.Handle as Found}
use Rattle.lookup.specs.View.{open_of, handle_of}
use Rattle.lookup.specs.Named.{Opens, open_refused_is, open_found_is}
use Rattle.lookup.specs.Read.{on_opened, info_at, info_list, info_is, opened_known}

-- "Closing answers the handle's info and releases its count"
unfoldable pub closed_r : List ℕ → List ℕ → Shape → ℕ → ℕ → PreparedHandle → Both
closed_r ws os sh base b h = both (lower_w (vacate_w ws sh b h.slot) sh h.object) (answered os base (0 ∷ info_list (info_at (load ws sh) h)))

unfoldable pub close_r : List ℕ → List ℕ → Shape → ℕ → ℕ → ℕ → Both
close_r ws os sh base b v = on_opened (open_of (load ws sh) sh b v) (λ n. refuse_r ws os base n) (λ h. closed_r ws os sh base b h)

module _ (ws : List ℕ) (sh : Shape) (s : State) (i : Rep ws sh s) (b v : ℕ) where
  closed_held : (h : PreparedHandle) → Opens s b v h
      → Held (lower_w (vacate_w ws sh b h.slot) sh h.object) sh (release (with_table s b (vacate till (s.tables b) h.slot)) (handle_of h ∷ []))
  closed_held h o =
      let was : is_busy ((s.tables b).slots h.slot) ≡ true = ap is_busy o.slot in
      lower_held (vacate_w ws sh b h.slot) sh (with_table s b (vacate till (s.tables b) h.slot))
      (vacate_held ws sh s (held_of ws sh s i) b o.table.known h.slot was) h.object (opened_known ws sh s i b v h o)

  -- CLOSE is the model's step
  pub close_does : (os : List ℕ) (base : ℕ) → Does ws os sh base s (close b v) (close_r ws os sh base b v)
  unfolding close_r closed_r decide close_of used_words
  close_does os base = go (open_of (load ws sh) sh b v) refl
    where
      rest : Table → ℕ → Handle → Decision
      rest t k h = accept (release (with_table s b (vacate till t k)) (h ∷ [])) (info_of (info_for s h))

      go : (x : Opened) → open_of (load ws sh) sh b v ≡ x → Does ws os sh base s (close b v) (on_opened x (λ n. refuse_r ws os base n) (λ h. closed_r ws os sh base b h))
      go (Refused n) e = does_refused os sh base s (close b v) ws n i.reps (open_refused_is sh (load ws sh) s i.reps.memory b v n e rest)
      go (Found h) e = let o = open_found_is sh (load ws sh) s i.reps.memory b v h e in
          rw (info_is sh (load ws sh) s i.reps.memory h (opened_known ws sh s i b v h o))
          (does_accepted os sh base s (close b v) (lower_w (vacate_w ws sh b h.slot) sh h.object) _ (info_of (info_for s (handle_of h))) (closed_held h o).reps (o.handle rest))
