-- Replacing a handle by one with fewer rights: what its function does to the words, and that it is the model's step. Assumes nothing.
use Rattle.std.specs.Prelude.{◌≡◌, List, [], ◌∷◌}
use Rattle.std.proofs.Math.Path.{refl}
use Rattle.std.proofs.Common.{ap, ◌∙◌}
use Prim.Native.Nat.{ℕ}
use Rattle.words.specs.Pick.{pick, bool}
use Rattle.authority.specs.Rights.{contains}
use Rattle.codec.specs.declared.HandleValue.{HandleValue}
use Rattle.codec.specs.Codec.{encode, next_generation}
use Rattle.codec.proofs.Laws.{next_range}
use Rattle.model.specs.State.{till, Handle, Slot.occupied, Table, State, generation}
use Rattle.model.specs.Storage.{place}
use Rattle.model.specs.Change.{with_table}
use Rattle.model.specs.Objects.{with_rights}
use Rattle.model.specs.Request.{Request.replace, Answer.renewed}
use Rattle.model.specs.Decision.{Decision, Decision.accept, unless◌refuse◌then◌}
use Rattle.model.specs.Step.{replace_of, decide}
use Rattle.model.specs.Words.{used_words}
use Rattle.layout.specs.declared.Shape.{Shape}
use Rattle.layout.specs.Layout.{head, load}
use Rattle.layout.specs.Fields.{head_mask}
use Rattle.representation.specs.Represents.{Rep}
use Rattle.storage.specs.Whole.{placed_of}
use Rattle.storage.specs.Reps.{Held}
use Rattle.answer.specs.Does.{Both, both, answered, refuse_r, Does, does_refused, does_accepted}
use Rattle.lookup.specs.declared.PreparedHandle.{PreparedHandle}
use Rattle.lookup.specs.View.{Opened}
use Rattle.lookup.specs.View.{Opened.Refused, Opened.Handle as Found}
use Rattle.lookup.specs.View.{open_of, handle_of}
use Rattle.lookup.specs.Named.{Opens, open_refused_is, open_found_is}
use Rattle.lookup.specs.Read.{on_opened}
use Rattle.close.specs.Renew.{renew_w, renew_held}

-- "1 the new value"
abbrev pub value_list : HandleValue → List ℕ
value_list v = v.0 ∷ []

-- "5 AccessDenied" unless the handle has the rights; else the slot gets them and the next generation, and the new value is answered
unfoldable pub replaced_r : List ℕ → List ℕ → Shape → ℕ → ℕ → ℕ → PreparedHandle → Both
replaced_r ws os sh base b r h =
    pick (contains h.rights r)
    (both (renew_w ws sh b h.slot (next_generation h.generation) r) (answered os base (0 ∷ encode (load ws sh (head b head_mask)) h.slot (next_generation h.generation) ∷ [])))
    (refuse_r ws os base 5)

unfoldable pub replace_r : List ℕ → List ℕ → Shape → ℕ → ℕ → ℕ → ℕ → Both
replace_r ws os sh base b v r = on_opened (open_of (load ws sh) sh b v) (λ n. refuse_r ws os base n) (λ h. replaced_r ws os sh base b r h)

module _ (ws : List ℕ) (sh : Shape) (s : State) (i : Rep ws sh s) (b v : ℕ) where
  replaced_held : (h : PreparedHandle) → Opens s b v h → (r : ℕ)
      → Held (renew_w ws sh b h.slot (next_generation h.generation) r) sh (with_table s b (place till (s.tables b) h.slot (occupied (next_generation h.generation) (with_rights (handle_of h) r))))
  replaced_held h o r = renew_held ws sh s (record { reps = i.reps; placed = placed_of s i.well_formed }) b o.table.known h.slot h.generation (handle_of h) o.slot
      (next_generation h.generation) r (next_range h.generation)

  -- REPLACE is the model's step
  pub replace_does : (os : List ℕ) (base r : ℕ) → Does ws os sh base s (replace b v r) (replace_r ws os sh base b v r)
  unfolding replace_r replaced_r decide replace_of used_words
  replace_does os base r = go (open_of (load ws sh) sh b v) refl
    where
      rest : Table → ℕ → Handle → Decision
      rest t k h =
          unless contains h.rights r refuse 5 then
          let g : ℕ = next_generation (generation (t.slots k)) in
          accept (with_table s b (place till t k (occupied g (with_rights h r)))) (renewed (encode t.mask k g))

      go : (x : Opened) → open_of (load ws sh) sh b v ≡ x → Does ws os sh base s (replace b v r) (on_opened x (λ n. refuse_r ws os base n) (λ h. replaced_r ws os sh base b r h))
      go (Refused n) e = does_refused os sh base s (replace b v r) ws n i.reps (open_refused_is sh (load ws sh) s i.reps.memory b v n e rest)
      go (Found h) e =
          let o = open_found_is sh (load ws sh) s i.reps.memory b v h e in
          let d = o.handle rest in
          rw (i.reps.memory.tables b o.table.known).mask
          (bool (contains h.rights r)
          (λ p. rw p (does_accepted os sh base s (replace b v r) (renew_w ws sh b h.slot (next_generation h.generation) r) _
          (renewed (encode (s.tables b).mask h.slot (next_generation h.generation))) (replaced_held h o r).reps (d ∙ rw (p, ap generation o.slot))))
          (λ p. rw p (does_refused os sh base s (replace b v r) ws 5 i.reps (d ∙ rw p))))
