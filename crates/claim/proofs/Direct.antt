-- Direct commit and direct rollback: their functions take the model's steps. Assumes nothing.
use Rattle.std.specs.Prelude.{◌≡◌, true, false, List, map, length}
use Rattle.std.proofs.Common.{ap, ◌∙◌}
use Rattle.std.proofs.Math.Logic.{⊎_elim}
use Rattle.std.proofs.Math.Option.{some}
use Prim.Native.Nat.{ℕ, suc, ◌-◌, ◌<◌}
use native.Mathlib.Omega.{arith}
use Rattle.std.proofs.lemmas.List.{length-map}
use Rattle.model.specs.Base.{nth}
use Rattle.model.specs.State.{till, Table, Entry, Body.reservation, Body.claim, State}
use Rattle.model.specs.Storage.{vacate_all}
use Rattle.model.specs.Change.{with_table}
use Rattle.model.specs.Book.{drop_row, sent_of}
use Rattle.model.specs.Step.{fill_all, direct_commit_of, direct_rollback_of, abort_of, decide, step}
use Rattle.model.specs.Request.{Request, Request.abort, Request.rollback, Request.direct_commit, Request.direct_rollback, Answer, Answer.done}
use Rattle.model.specs.Decision.{Decision.accept}
use Rattle.model.specs.Words.{used_words}
use Rattle.model.specs.WellFormed.{WellFormed}
use Rattle.invariant.proofs.BookLemmas.{found_range, find_drop_other}
use Rattle.invariant.proofs.Kept.{kept}
use Rattle.invariant.proofs.Marks.{Owns}
use Rattle.invariant.proofs.Pages.{till_sane}
use Rattle.invariant.proofs.Pointwise.{Busy, fill_all_slots}
use Rattle.invariant.proofs.StorageDecisions.{reservation_owns, busy_still}
use Rattle.invariant.proofs.RowsClosed.{two_rows}
use Rattle.layout.specs.declared.Shape.{Shape}
use Rattle.layout.specs.Layout.{load}
use Rattle.representation.specs.Represents.{is_marked, Rep}
use Rattle.storage.specs.Reps.{Held}
use Rattle.model.proofs.Counting.{nth_occurs}
use Rattle.model.proofs.Changed.{with_table_at as table_at_law}
use Rattle.book.specs.Ops.{close_w}
use Rattle.book.specs.Find.{Fits, fits_of, RowAt}
use Rattle.book.specs.Marks.{Unnamed, unnamed, named_reservation}
use Rattle.book.specs.Fades.{named_fades, unnamed_fades, close_fades, fits_drop}
use Rattle.book.specs.Close.{close_held, close_other, ids_places}
use Rattle.answer.specs.Does.{Both, Does, does_refused, does_accepted}
use Rattle.book.specs.Found.{Open}
use Rattle.claim.proofs.Ends.{abort_does}
use Rattle.book.specs.Keeps.{Keeps, keeps_then, bare_given}
use Rattle.claim.specs.Ops.{rolled_w, left_w, filled_w, direct_w, direct_commit_r, direct_rollback_r}
use Rattle.claim.proofs.Found.{Claimed}
use Rattle.claim.proofs.Entries.{undone, filled_keeps}
use Rattle.claim.proofs.RolledBack.{rolled_held, rolls}
use Rattle.claim.proofs.Committed.{left, left_kept, left_free}
use Rattle.claim.proofs.Pairs.{Pair, on_pair_law, pairs}

module _ (ws : List ℕ) (sh : Shape) (s : State) (r : Rep ws sh s) where
  f : Fits s
  f = fits_of s r.well_formed

  module _ (i j x y b c : ℕ) (es : List Entry) (ks : List ℕ) (o : Claimed (load ws sh) s x i b es) (p : Open (load ws sh) s y j c ks) (long : length es ≡ length ks) where
    abbrev ws₁ : List ℕ
    ws₁ = left_w ws sh b x (length es)

    abbrev ws₂ : List ℕ
    ws₂ = filled_w ws₁ sh c y x (length es)

    abbrev u : State
    u = with_table (left s b es) c (fill_all till ks (map sent_of es) ((left s b es).tables c))

    res : Owns true j ks (s.tables c).slots
    res = reservation_owns till s r.well_formed j c ks p.found

    known : c < s.table_count
    known = (found_range s r.well_formed j (reservation c ks) p.found).0

    busy : Busy ((left s b es).tables c) ks
    busy = busy_still till s r.well_formed i j b c es ks o.found p.found

    first : Keeps sh ws s ws₁ (left s b es)
    first = left_kept ws sh s r x i b es o

    second : Keeps sh ws₁ (left s b es) ws₂ u
    second = filled_keeps sh c y x es ks ws₁ (left s b es) 0 first.held known busy long (first.rows y j (reservation c ks) p.row).body.3 (first.rows x i (claim b es) o.row).body.3

    both : Keeps sh ws s ws₂ u
    both = keeps_then sh ws s ws₁ (left s b es) ws₂ u first second

    at_claim : RowAt (load ws₂ sh) u x i (claim b es)
    at_claim = both.rows x i (claim b es) o.row

    at_reservation : RowAt (load ws₂ sh) u y j (reservation c ks)
    at_reservation = both.rows y j (reservation c ks) p.row

    -- no marked slot names either place
    free_claim : Unnamed (load ws₂ sh) u x
    free_claim = unnamed_fades (load ws₁ sh) (left s b es) (load ws₂ sh) u x second.fades (left_free ws sh s r x i b es o)

    bare : (k q : ℕ) → nth ks q ≡ some k → is_marked ((u.tables c).slots k) ≡ false
    bare k q e = ap (λ (t : Table). is_marked (t.slots k)) (table_at_law (left s b es) c (fill_all till ks (map sent_of es) ((left s b es).tables c)))
        ∙ ap is_marked (fill_all_slots till ks (map sent_of es) ((left s b es).tables c) k (res.once k))
        ∙ bare_given ks (map sent_of es) k (((left s b es).tables c).slots k) (length-map es sent_of ∙ long) (nth_occurs ks q k e)

    free_reservation : Unnamed (load ws₂ sh) u y
    free_reservation = unnamed (load ws₂ sh) u y c (λ k q. nth ks q ≡ some k)
        (named_fades (load ws sh) s (load ws₂ sh) u y c (λ k q. nth ks q ≡ some k) both.fades
        (named_reservation sh (load ws sh) s r.reps.memory f r.well_formed.marks y j c ks p.row)) bare

    -- THE WORDS of a direct commit
    direct_held : Held (direct_w ws sh x y) sh (drop_row j (drop_row i u))
    unfolding direct_w
    direct_held =
        let g = both.fits f in
        let ne = ids_places ws₂ sh u both.held g x i (claim b es) at_claim y j (reservation c ks) (two_rows i j b c es ks s.book.rows o.found p.found) at_reservation in
        rw (o.row.body.1, o.row.body.2, p.row.body.1)
        (close_held (close_w ws₂ sh x) sh (drop_row i u) (close_held ws₂ sh u both.held g x i (claim b es) at_claim free_claim) (fits_drop u i g) y j (reservation c ks)
        (close_other ws₂ sh u both.held g x i (claim b es) at_claim y j (reservation c ks) ne at_reservation)
        (unnamed_fades (load ws₂ sh) u (load (close_w ws₂ sh x) sh) (drop_row i u) y (close_fades ws₂ sh u both.held g x i (claim b es) at_claim) free_reservation))

  -- DIRECT COMMIT is the model's step
  pub direct_commit_does : (os : List ℕ) (base i j : ℕ) → Does ws os sh base s (direct_commit i j) (direct_commit_r ws os sh base i j)
  unfolding direct_commit_r decide direct_commit_of used_words
  direct_commit_does os base i j = ⊎_elim
      (λ n. rw n.0 (does_refused os sh base s (direct_commit i j) ws 18 r.reps (n.1 _)))
      (λ d. let p : Pair (load ws sh) sh s i j = d.1 in
      let z : suc p.x - 1 ≡ p.x = omega arith in let w : suc p.y - 1 ≡ p.y = omega arith in
      rw (d.0, p.from_link, p.to_link, z, w)
      (does_accepted os sh base s (direct_commit i j) (direct_w ws sh p.x p.y)
      (drop_row j (drop_row i (with_table (left s p.b p.es) p.c (fill_all till p.ks (map sent_of p.es) ((left s p.b p.es).tables p.c))))) done
      (direct_held i j p.x p.y p.b p.c p.es p.ks p.from p.to p.long).reps (on_pair_law (load ws sh) sh s i j p _)))
      (pairs ws sh s r i j)

-- a step that another state takes by another request
does_as : (os : List ℕ) (sh : Shape) (base : ℕ) (ws : List ℕ) (s : State) (q : Request) (ws' : List ℕ) (s' : State) (q' : Request) (x : Both) (u : State) (a : Answer) → decide till s q ≡ accept u a → decide till s' q' ≡ accept u a
    → Does ws' os sh base s' q' x → Does ws os sh base s q x
unfolding step
does_as os sh base ws s q ws' s' q' x u a e d p = record {
  state = rw e (rw d at p.state);
  answers = rw e (rw d at p.answers);
  kept = λ n z. let y : ◌≡◌ {A = ℕ} 0 1 = cc in absurd (omega arith);
  spent = λ n z. let y : ◌≡◌ {A = ℕ} 0 1 = cc in absurd (omega arith);
}

module _ (ws : List ℕ) (sh : Shape) (s : State) (r : Rep ws sh s) where
  -- a claim rolled back leaves a state that is represented and well formed
  rolled_rep : (x i b : ℕ) (es : List Entry) → Claimed (load ws sh) s x i b es → Rep (rolled_w ws sh x) sh (drop_row i (undone s b es))
  unfolding step
  rolled_rep x i b es o = record {
    reps = (rolled_held ws sh s r x i b es o).reps;
    well_formed = let w : WellFormed till (step till s (rollback i)).0 = kept till till_sane s r.well_formed (rollback i) in rw (rolls ws sh s r x i b es o) at w;
  }

  -- DIRECT ROLLBACK is the model's step
  pub direct_rollback_does : (os : List ℕ) (base i j : ℕ) → Does ws os sh base s (direct_rollback i j) (direct_rollback_r ws os sh base i j)
  unfolding direct_rollback_r decide direct_rollback_of abort_of
  direct_rollback_does os base i j = ⊎_elim
      (λ n. rw n.0 (does_refused os sh base s (direct_rollback i j) ws 18 r.reps (n.1 _)))
      (λ d. let p : Pair (load ws sh) sh s i j = d.1 in
      let z : suc p.x - 1 ≡ p.x = omega arith in
      let v : State = undone s p.b p.es in
      let found = find_drop_other i j (two_rows i j p.b p.c p.es p.ks s.book.rows p.from.found p.to.found) s.book.rows ∙ p.to.found in
      rw (d.0, p.from_link, z)
      (does_as os sh base ws s (direct_rollback i j) (rolled_w ws sh p.x) (drop_row i (undone s p.b p.es)) (abort j) _
      (drop_row j (drop_row i (with_table v p.c (vacate_all till p.ks (v.tables p.c))))) done
      (on_pair_law (load ws sh) sh s i j p _) (rw found)
      (abort_does (rolled_w ws sh p.x) sh (drop_row i (undone s p.b p.es)) (rolled_rep p.x i p.b p.es p.from) os base j)))
      (pairs ws sh s r i j)
