-- Rollback: its function takes the model's step. Assumes nothing.
use Rattle.std.specs.Prelude.{◌≡◌, false, List, ℕ, ◌<◌, length}
use Rattle.std.proofs.Common.{ap, ◌∙◌}
use Rattle.model.specs.Base.{occurs}
use Rattle.model.specs.State.{till, Table, Entry, Body.claim, State}
use Rattle.model.specs.Book.{drop_row, moved_of}
use Rattle.model.specs.Step.{restore_all, rollback_of, decide}
use Rattle.model.specs.Request.{Request.rollback, Answer.done}
use Rattle.model.specs.Decision.{Decision.accept}
use Rattle.model.proofs.Changed.{with_table_at as table_at_law}
use Rattle.invariant.proofs.Parcels.{moved_length}
use Rattle.invariant.proofs.Pointwise.{moved_handles, restore_all_is, fill_all_slots}
use Rattle.invariant.proofs.StorageState.{copies_range}
use Rattle.layout.specs.declared.Shape.{Shape}
use Rattle.layout.specs.Layout.{load}
use Rattle.representation.specs.Represents.{is_marked, Rep}
use Rattle.storage.specs.Reps.{Held, held_of}
use Rattle.book.specs.Find.{fits_of}
use Rattle.book.specs.Close.{close_held}
use Rattle.answer.specs.Does.{Does, does_on_row}
use Rattle.book.specs.Keeps.{Keeps, bare_given}
use Rattle.claim.specs.Ops.{claim_link, undone_w, rolled_w, rollback_r}
use Rattle.claim.proofs.Found.{Claimed, claim_none, claim_some, own, range, freed}
use Rattle.claim.proofs.Entries.{undone, undone_keeps}

module _ (ws : List ℕ) (sh : Shape) (s : State) (r : Rep ws sh s) where
  module _ (x i b : ℕ) (es : List Entry) (o : Claimed (load ws sh) s x i b es) where
    kept : Keeps sh ws s (undone_w ws sh b x (length es)) (undone s b es)
    kept = let g = range ws sh s r x i b es o in
        undone_keeps sh b x es ws s 0 (held_of ws sh s r) g.0 (own ws sh s r x i b es o).busy (copies_range s es g.2) o.row.body.3

    -- the slots that the claim held are marked no longer
    bare : (k : ℕ) → 0 < occurs k (moved_of es) → is_marked (((undone s b es).tables b).slots k) ≡ false
    bare k p = ap (λ (t : Table). is_marked (t.slots k)) (table_at_law s b (restore_all till es (s.tables b)) ∙ restore_all_is till es (s.tables b))
        ∙ ap is_marked (fill_all_slots till (moved_of es) (moved_handles es) (s.tables b) k ((own ws sh s r x i b es o).once k))
        ∙ bare_given (moved_of es) (moved_handles es) k ((s.tables b).slots k) (moved_length es) p

    -- THE WORDS of a rollback
    pub rolled_held : Held (rolled_w ws sh x) sh (drop_row i (undone s b es))
    unfolding rolled_w
    rolled_held = rw (o.row.body.1, o.row.body.2)
        (close_held (undone_w ws sh b x (length es)) sh (undone s b es) kept.held (kept.fits (fits_of s r.well_formed)) x i (claim b es) (kept.rows x i (claim b es) o.row)
        (freed ws sh s r x i b es o (undone_w ws sh b x (length es)) (undone s b es) kept.fades bare))

    pub rolls : decide till s (rollback i) ≡ accept (drop_row i (undone s b es)) done
    unfolding decide rollback_of
    rolls = rw o.found

  -- ROLLBACK is the model's step
  pub rollback_does : (os : List ℕ) (base i : ℕ) → Does ws os sh base s (rollback i) (rollback_r ws os sh base i)
  unfolding decide rollback_of
  rollback_does os base i = does_on_row os sh base s (rollback i) ws (rolled_w ws sh) (claim_link (load ws sh) sh i) r.reps (λ e. claim_none ws sh s r i e _)
      (λ x e. let p = claim_some ws sh s r i x e in
      (drop_row i (undone s p.0 p.1), (rolled_held x i p.0 p.1 p.2).reps, rolls x i p.0 p.1 p.2))
