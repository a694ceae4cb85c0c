-- Commit: its function takes the model's step. Assumes nothing.
use Rattle.std.specs.Prelude.{◌≡◌, refl, Bool, false, List, map, ℕ, ◌≤◌, ◌<◌, length}
use Rattle.std.proofs.Common.{sym, ap, ◌∙◌, arith, eq-eqb}
use Rattle.std.proofs.lemmas.List.{length-map}
use Rattle.codec.specs.Codec.{next_generation}
use Rattle.model.specs.Base.{occurs, pick}
use Rattle.model.specs.State.{till, Slot.vacant, Table, Entry, Body.claim, Body.parcel, State, generation, max_batch}
use Rattle.model.specs.Storage.{vacate_all}
use Rattle.model.specs.Change.{with_table}
use Rattle.model.specs.Book.{swap_row, moved_of, sent_of}
use Rattle.model.proofs.Sums.{member_in}
use Rattle.model.specs.Step.{commit_of, decide}
use Rattle.model.specs.Request.{Request.commit}
use Rattle.model.proofs.Changed.{with_table_at as table_at_law}
use Rattle.invariant.proofs.Pointwise.{vacate_all_slots}
use Rattle.layout.specs.declared.Shape.{Shape}
use Rattle.layout.specs.Layout.{total, row, item, in_row, load, save, load_save}
use Rattle.layout.specs.Fields.{row_id, row_kind, row_length}
use Rattle.layout.specs.Values.{kind_parcel}
use Rattle.layout.specs.Sizes.{batch_max}
use Rattle.representation.specs.Represents.{BodyIs, is_marked, Rep}
use Rattle.storage.specs.Kept.{handles_kept}
use Rattle.storage.specs.Reps.{Held, held_of}
use Rattle.book.specs.Ops.{Fills, fills_then, fills_row}
use Rattle.book.specs.Find.{fits_of, RowAt}
use Rattle.book.specs.Marks.{Unnamed}
use Rattle.book.specs.Swap.{swap_held}
use Rattle.answer.specs.Does.{Does, does_on_row}
use Rattle.book.specs.Keeps.{Keeps}
use Rattle.claim.specs.Ops.{claim_link, left_w, sent_w, committed_w, commit_r}
use Rattle.claim.proofs.Found.{Claimed, claim_none, claim_some, own, range, freed}
use Rattle.claim.proofs.Entries.{left_keeps}
use Rattle.claim.proofs.Sent.{sent_fills, sent_row, sent_items}

-- the moved slots of a claim of table b fell vacant
abbrev pub left : State → ℕ → List Entry → State
left s b es = with_table s b (vacate_all till (moved_of es) (s.tables b))

module _ (ws : List ℕ) (sh : Shape) (s : State) (r : Rep ws sh s) where
  module _ (x i b : ℕ) (es : List Entry) (o : Claimed (load ws sh) s x i b es) where
    -- THE MOVED SLOTS fall vacant, and no marked slot names the claim's place
    pub left_kept : Keeps sh ws s (left_w ws sh b x (length es)) (left s b es)
    left_kept = let w = own ws sh s r x i b es o in
        left_keeps sh b x es ws s 0 (held_of ws sh s r) (range ws sh s r x i b es o).0 w.busy w.once o.row.body.3

    bare : (k : ℕ) → 0 < occurs k (moved_of es) → is_marked (((left s b es).tables b).slots k) ≡ false
    bare k p = ap (λ (t : Table). is_marked (t.slots k)) (table_at_law s b (vacate_all till (moved_of es) (s.tables b)))
        ∙ ap is_marked (vacate_all_slots till (moved_of es) (s.tables b) k ((own ws sh s r x i b es o).once k)
        ∙ ap (λ (v : Bool). pick v (vacant (next_generation (generation ((s.tables b).slots k)))) ((s.tables b).slots k)) (member_in k (moved_of es) p))

    pub left_free : Unnamed (load (left_w ws sh b x (length es)) sh) (left s b es) x
    left_free = freed ws sh s r x i b es o (left_w ws sh b x (length es)) (left s b es) left_kept.fades bare

    -- ---- the row

    abbrev ws₁ : List ℕ
    ws₁ = left_w ws sh b x (length es)

    abbrev ws₂ : List ℕ
    ws₂ = sent_w ws₁ sh x (length es)

    room : total sh ≤ length ws₁
    room = left_kept.held.reps.shaped.room

    stands : RowAt (load ws₁ sh) (left s b es) x i (claim b es)
    stands = left_kept.rows x i (claim b es) o.row

    low : x < sh.rows
    low = omega (arith, stands.place, left_kept.held.reps.memory.capacity)

    few : length es ≤ batch_max
    unfolding max_batch
    few = (range ws sh s r x i b es o).1.1

    mid : Fills ws₁ ws₂ sh x
    mid = sent_fills sh x (length es) ws₁ 0 room

    room₂ : total sh ≤ length ws₂
    room₂ = omega (arith, room, mid.long)

    fills : Fills ws₁ (save ws₂ sh (row x row_kind) kind_parcel) sh x
    fills = fills_then ws₁ ws₂ (save ws₂ sh (row x row_kind) kind_parcel) sh x mid (fills_row ws₂ sh room₂ x row_kind kind_parcel)

    body : BodyIs (load (save ws₂ sh (row x row_kind) kind_parcel) sh) x (parcel (map sent_of es))
    body = let a = load_save ws₂ sh room₂ (row x row_kind) kind_parcel (in_row sh x row_kind low (omega arith)) in (
      a (row x row_kind) ∙ rw (eq-eqb x x refl),
      a (row x row_length) ∙ sent_row sh x (length es) ws₁ 0 row_length room ∙ stands.body.2 ∙ sym (length-map es sent_of),
      handles_kept (load ws₂ sh) (load (save ws₂ sh (row x row_kind) kind_parcel) sh) x (λ j f. a (item x j f)) 0 (map sent_of es)
          (sent_items sh x low (load ws₁ sh) es ws₁ 0 room (omega (arith, few)) (λ i f l. refl) stands.body.3),
    )

    -- THE WORDS of a commit
    pub committed_held : Held (committed_w ws sh x) sh (swap_row i (parcel (map sent_of es)) (left s b es))
    unfolding committed_w
    committed_held = let a = load_save ws₂ sh room₂ (row x row_kind) kind_parcel (in_row sh x row_kind low (omega arith)) in
        rw (o.row.body.1, o.row.body.2)
        (swap_held ws₁ (save ws₂ sh (row x row_kind) kind_parcel) sh (left s b es) left_kept.held x fills (left_kept.fits (fits_of s r.well_formed)) i (claim b es) (parcel (map sent_of es)) stands
        (a (row x row_id) ∙ sent_row sh x (length es) ws₁ 0 row_id room ∙ stands.id) body (λ d k l mk e. absurd (left_free d k l mk e)))

  -- COMMIT is the model's step
  pub commit_does : (os : List ℕ) (base i : ℕ) → Does ws os sh base s (commit i) (commit_r ws os sh base i)
  unfolding decide commit_of
  commit_does os base i = does_on_row os sh base s (commit i) ws (committed_w ws sh) (claim_link (load ws sh) sh i) r.reps (λ e. claim_none ws sh s r i e _)
      (λ x e. let p = claim_some ws sh s r i x e in
      (swap_row i (parcel (map sent_of p.1)) (left s p.0 p.1), (committed_held x i p.0 p.1 p.2).reps, rw p.2.found))
