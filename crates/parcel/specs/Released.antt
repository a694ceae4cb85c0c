-- A parcel is released: its function takes the model's step. Assumes nothing.
use Rattle.std.specs.Prelude.{◌≡◌, List, [], ◌∷◌, ℕ, suc, ◌<◌, length}
use Rattle.std.proofs.Common.{ap, arith}
use Rattle.model.specs.State.{Handle, Body.parcel, State}
use Rattle.model.specs.Change.{with_objects}
use Rattle.model.specs.Objects.{lower, change, release}
use Rattle.model.specs.Book.{drop_row}
use Rattle.model.specs.WellFormed.{HandleRange, All}
use Rattle.model.specs.Request.{Request.release_parcel}
use Rattle.model.specs.Step.{release_parcel_of, decide}
use Rattle.invariant.proofs.BookLemmas.{found_range}
use Rattle.layout.specs.declared.Shape.{Shape}
use Rattle.layout.specs.Layout.{item, load}
use Rattle.layout.specs.Fields.{item_object}
use Rattle.layout.specs.RegionNames.{region_owner}
use Rattle.representation.specs.Represents.{HandleIs, Items, Rep}
use Rattle.storage.specs.Kept.{handles_kept}
use Rattle.storage.specs.Reps.{Held, held_of}
use Rattle.object.specs.Record.{lowered_by}
use Rattle.object.specs.Words.{lower_w}
use Rattle.object.specs.Reps.{step_only, step_stays, step_rows, lower_held}
use Rattle.book.specs.Find.{fits_of}
use Rattle.book.specs.Marks.{named_parcel}
use Rattle.book.specs.Fades.{unnamed_fades}
use Rattle.book.specs.Close.{close_held}
use Rattle.answer.specs.Does.{Does, does_on_row}
use Rattle.parcel.specs.Ops.{parcel_link, lowered_w, released_w, release_r}
use Rattle.parcel.specs.Found.{Loose, parcel_none, parcel_some}
use Rattle.book.specs.Keeps.{Keeps, keeps_none, keeps_then, objects_keep}

lowered_more : (ws : List ℕ) (sh : Shape) (x j n o : ℕ) → load ws sh (item x j item_object) ≡ o → lowered_w ws sh x j (suc n) ≡ lowered_w (lower_w ws sh o) sh x (suc j) n
unfolding lowered_w
lowered_more ws sh x j n o e = ap (λ (k : ℕ). lowered_w (lower_w ws sh k) sh x (suc j) n) e

-- the handles of a list, which stand in the items from j on
lowered_all : (sh : Shape) (x : ℕ) (hs : List Handle) (ws : List ℕ) (s : State) (j : ℕ) → Held ws sh s → All (λ h. h.object < s.object_count) hs → Items (HandleIs (load ws sh) x) j hs
    → Keeps sh ws s (lowered_w ws sh x j (length hs)) (release s hs)
unfolding lowered_w
lowered_all sh x [] ws s j h known its = keeps_none sh ws s h
lowered_all sh x (y ∷ hs) ws s j h known its =
    let ws₁ : List ℕ = lower_w ws sh y.object in
    let s₁ : State = with_objects s (change lower s.objects y.object) in
    let p = objects_keep sh ws s (lower_w ws sh y.object) (change lower s.objects y.object) (lower_held ws sh s h y.object known.0)
    (step_stays lowered_by ws sh y.object h.reps.shaped.room) (step_rows lowered_by ws sh y.object h.reps.shaped.room)
    (λ f. step_only lowered_by ws sh y.object h.reps.shaped.room region_owner f 0 0 (λ e. omega arith)) in
    let q = lowered_all sh x hs (lower_w ws sh y.object) (with_objects s (change lower s.objects y.object)) (suc j) p.held known.1
    (handles_kept (load ws sh) (load (lower_w ws sh y.object) sh) x (p.items x) (suc j) hs its.1) in
    rw (lowered_more ws sh x j (length hs) y.object its.0.0)
    (keeps_then sh ws s ws₁ s₁ (lowered_w (lower_w ws sh y.object) sh x (suc j) (length hs)) (release s (y ∷ hs)) p q)

objects_of : (s : State) (hs : List Handle) → All (HandleRange s) hs → All (λ h. h.object < s.object_count) hs
objects_of s [] p = tt
objects_of s (h ∷ hs) p = (p.0.object, objects_of s hs p.1)

module _ (ws : List ℕ) (sh : Shape) (s : State) (r : Rep ws sh s) where
  pub released_held : (x i : ℕ) (hs : List Handle) → Loose (load ws sh) s x i hs → Held (released_w ws sh x) sh (drop_row i (release s hs))
  unfolding released_w
  released_held x i hs o =
      let f = fits_of s r.well_formed in
      let p = lowered_all sh x hs ws s 0 (held_of ws sh s r) (objects_of s hs (found_range s r.well_formed i (parcel hs) o.found).1) o.row.body.2 in
      rw o.row.body.1 (close_held (lowered_w ws sh x 0 (length hs)) sh (release s hs) p.held (p.fits f) x i (parcel hs) (p.rows x i (parcel hs) o.row)
      (unnamed_fades (load ws sh) s (load (lowered_w ws sh x 0 (length hs)) sh) (release s hs) x p.fades
      (named_parcel sh (load ws sh) s r.reps.memory f r.well_formed.marks x i hs o.row)))

  -- RELEASE PARCEL is the model's step
  pub release_parcel_does : (os : List ℕ) (base i : ℕ) → Does ws os sh base s (release_parcel i) (release_r ws os sh base i)
  unfolding decide release_parcel_of
  release_parcel_does os base i = does_on_row os sh base s (release_parcel i) ws (released_w ws sh) (parcel_link (load ws sh) sh i) r.reps
      (λ e. rw (parcel_none ws sh s (held_of ws sh s r) (fits_of s r.well_formed) i e))
      (λ x e. let p = parcel_some ws sh s (held_of ws sh s r) (fits_of s r.well_formed) i x e in
      (drop_row i (release s p.0), (released_held x i p.0 p.1).reps, rw p.1.found))
