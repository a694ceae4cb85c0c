-- The open claim with an id, in the model. Assumes nothing.
use Rattle.std.specs.Prelude.{◌≡◌, refl, false, List, ℕ, suc, ◌<◌}
use Rattle.std.proofs.Common.{ap, ◌∙◌, arith}
use Rattle.std.proofs.Math.Option.{some}
use Rattle.model.specs.Base.{occurs}
use Rattle.model.specs.State.{till, Entry, Body, Body.reservation, Body.claim, Body.parcel, Body.plan, State}
use Rattle.model.specs.Book.{find, moved_of}
use Rattle.model.specs.WellFormed.{BodyRange}
use Rattle.model.specs.Decision.{Decision, Decision.refusal, as_claim, claim_row◌of◌refuse◌then◌}
use Rattle.invariant.proofs.BookLemmas.{found_range}
use Rattle.invariant.proofs.Marks.{Owns}
use Rattle.invariant.proofs.StorageDecisions.{claim_owns}
use Rattle.layout.specs.declared.Shape.{Shape}
use Rattle.layout.specs.Layout.{Mem, row, load}
use Rattle.layout.specs.Fields.{row_kind}
use Rattle.layout.specs.Values.{kind_claim}
use Rattle.representation.specs.Represents.{BodyIs, is_marked, Rep}
use Rattle.book.specs.Find.{fits_of, RowAt, kind_none, kind_some}
use Rattle.book.specs.Marks.{Moves, moved_occurs, Unnamed, unnamed, named_claim}
use Rattle.book.specs.Fades.{Fades, named_fades}
use Rattle.claim.specs.Ops.{claim_link}

-- a row's kind tells a claim
a_claim : (m : Mem) (x : ℕ) (y : Body) → BodyIs m x y → m (row x row_kind) ≡ kind_claim → (b : ℕ) × (es : List Entry) × (y ≡ claim b es)
a_claim m x (reservation b ks) p e = absurd (omega (arith, p.0))
a_claim m x (claim b es) p e = (b, es, refl)
a_claim m x (parcel hs) p e = absurd (omega (arith, p.0))
a_claim m x (plan b n w fs) p e = absurd (omega (arith, p.kind))

no_claim : (m : Mem) (x : ℕ) (y : Body) → BodyIs m x y → (m (row x row_kind) ≡ kind_claim → ⊥) → (f : ℕ → List Entry → Decision) → as_claim (some y) 18 f ≡ refusal 18
no_claim m x (reservation b ks) p e f = refl
no_claim m x (claim b es) p e f = absurd (e p.0)
no_claim m x (parcel hs) p e f = refl
no_claim m x (plan b n w fs) p e f = refl

-- a claim of the book, in its place
pub record Claimed (m : Mem) (s : State) (x i b : ℕ) (es : List Entry) : Type 0 where
  pub found : find i s.book.rows ≡ some (claim b es)
  pub row : RowAt m s x i (claim b es)

module _ (ws : List ℕ) (sh : Shape) (s : State) (r : Rep ws sh s) (i : ℕ) where
  -- "unknown .. open row of the kind named": 18
  pub claim_none : claim_link (load ws sh) sh i ≡ 0 → (f : ℕ → List Entry → Decision) → (claim_row i of s refuse 18 then f) ≡ refusal 18
  claim_none e f = kind_none sh (load ws sh) s r.reps.memory (fits_of s r.well_formed) r.reps.shaped.limits.few_rows kind_claim i (λ o. as_claim o 18 f ≡ refusal 18)
      refl (λ x y p n. no_claim (load ws sh) x y p n f) e

  claimed_of : (x : ℕ) (y : Body) (b : ℕ) (es : List Entry) → find i s.book.rows ≡ some y → RowAt (load ws sh) s x i y → y ≡ claim b es
      → (b : ℕ) × (es : List Entry) × Claimed (load ws sh) s x i b es
  claimed_of x y b es d a e = (b, es, record { found = d ∙ ap some e; row = rw e at a })

  pub claim_some : (x : ℕ) → claim_link (load ws sh) sh i ≡ suc x → (b : ℕ) × (es : List Entry) × Claimed (load ws sh) s x i b es
  claim_some x e =
      let p = kind_some sh (load ws sh) s r.reps.memory (fits_of s r.well_formed) r.reps.shaped.limits.few_rows kind_claim i x e in
      let g = a_claim (load ws sh) x p.0 p.2.body p.3 in
      claimed_of x p.0 g.0 g.1 p.1 p.2 g.2

-- ---- what a claim holds

module _ (ws : List ℕ) (sh : Shape) (s : State) (r : Rep ws sh s) (x i b : ℕ) (es : List Entry) (o : Claimed (load ws sh) s x i b es) where
  -- its moved slots, each marked by it and by no other
  pub own : Owns false i (moved_of es) (s.tables b).slots
  own = claim_owns till s r.well_formed i b es o.found

  pub range : BodyRange till s (claim b es)
  range = found_range s r.well_formed i (claim b es) o.found

  -- once these are marked no longer, no marked slot names its place
  pub freed : (ws' : List ℕ) (u : State) → Fades (load ws sh) s (load ws' sh) u → ((k : ℕ) → 0 < occurs k (moved_of es) → is_marked ((u.tables b).slots k) ≡ false) → Unnamed (load ws' sh) u x
  freed ws' u p bare = unnamed (load ws' sh) u x b (Moves es)
      (named_fades (load ws sh) s (load ws' sh) u x b (Moves es) p
      (named_claim sh (load ws sh) s r.reps.memory (fits_of s r.well_formed) r.well_formed.marks x i b es o.row))
      (λ k j q. bare k (moved_occurs es j k q.0 q.1 q.2))
