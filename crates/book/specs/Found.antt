-- The open reservation with an id, and the plan, in the model. Assumes nothing.
use Rattle.std.specs.Prelude.{◌≡◌, refl, List, ℕ, suc}
use Rattle.std.proofs.Common.{ap, ◌∙◌, arith}
use Rattle.std.proofs.Math.Option.{some}
use Rattle.model.specs.State.{Body, Body.reservation, Body.claim, Body.parcel, Body.plan, StorageSnapshot, State}
use Rattle.model.specs.Book.{find}
use Rattle.model.specs.Decision.{Decision, Decision.refusal, as_reservation, as_plan, reservation_row◌of◌refuse◌then◌, plan_row◌of◌refuse◌then◌}
use Rattle.layout.specs.declared.Shape.{Shape}
use Rattle.layout.specs.Layout.{Mem, row, load}
use Rattle.layout.specs.Fields.{row_kind}
use Rattle.layout.specs.Values.{kind_reservation, kind_plan}
use Rattle.representation.specs.Represents.{BodyIs, Rep}
use Rattle.book.specs.Find.{fits_of, RowAt, kind_none, kind_some}
use Rattle.book.specs.Ops.{reservation_link, plan_link}

-- a row's kind tells a reservation
a_reservation : (m : Mem) (x : ℕ) (y : Body) → BodyIs m x y → m (row x row_kind) ≡ kind_reservation → (b : ℕ) × (ks : List ℕ) × (y ≡ reservation b ks)
a_reservation m x (reservation b ks) p e = (b, ks, refl)
a_reservation m x (claim b es) p e = absurd (omega (arith, p.0))
a_reservation m x (parcel hs) p e = absurd (omega (arith, p.0))
a_reservation m x (plan b n w fs) p e = absurd (omega (arith, p.kind))

no_reservation : (m : Mem) (x : ℕ) (y : Body) → BodyIs m x y → (m (row x row_kind) ≡ kind_reservation → ⊥) → (f : ℕ → List ℕ → Decision) → as_reservation (some y) 18 f ≡ refusal 18
no_reservation m x (reservation b ks) p e f = absurd (e p.0)
no_reservation m x (claim b es) p e f = refl
no_reservation m x (parcel hs) p e f = refl
no_reservation m x (plan b n w fs) p e f = refl

-- and a plan
a_plan : (m : Mem) (x : ℕ) (y : Body) → BodyIs m x y → m (row x row_kind) ≡ kind_plan → (b : ℕ) × (n : ℕ) × (w : StorageSnapshot) × (fs : List ℕ) × (y ≡ plan b n w fs)
a_plan m x (reservation b ks) p e = absurd (omega (arith, p.0))
a_plan m x (claim b es) p e = absurd (omega (arith, p.0))
a_plan m x (parcel hs) p e = absurd (omega (arith, p.0))
a_plan m x (plan b n w fs) p e = (b, n, w, fs, refl)

no_plan : (m : Mem) (x : ℕ) (y : Body) → BodyIs m x y → (m (row x row_kind) ≡ kind_plan → ⊥) → (f : ℕ → ℕ → StorageSnapshot → List ℕ → Decision) → as_plan (some y) 18 f ≡ refusal 18
no_plan m x (reservation b ks) p e f = refl
no_plan m x (claim b es) p e f = refl
no_plan m x (parcel hs) p e f = refl
no_plan m x (plan b n w fs) p e f = absurd (e p.kind)

-- a reservation of the book, in its place
pub record Open (m : Mem) (s : State) (x i b : ℕ) (ks : List ℕ) : Type 0 where
  pub found : find i s.book.rows ≡ some (reservation b ks)
  pub row : RowAt m s x i (reservation b ks)

-- a plan of the book, in its place
pub record OpenPlan (m : Mem) (s : State) (x i b n : ℕ) (w : StorageSnapshot) (fs : List ℕ) : Type 0 where
  pub found : find i s.book.rows ≡ some (plan b n w fs)
  pub row : RowAt m s x i (plan b n w fs)

module _ (ws : List ℕ) (sh : Shape) (s : State) (r : Rep ws sh s) (i : ℕ) where
  -- "unknown .. open row of the kind named": 18
  pub reservation_none : reservation_link (load ws sh) sh i ≡ 0 → (f : ℕ → List ℕ → Decision) → (reservation_row i of s refuse 18 then f) ≡ refusal 18
  reservation_none e f = kind_none sh (load ws sh) s r.reps.memory (fits_of s r.well_formed) r.reps.shaped.limits.few_rows kind_reservation i (λ o. as_reservation o 18 f ≡ refusal 18)
      refl (λ x y p n. no_reservation (load ws sh) x y p n f) e

  open_of : (x : ℕ) (y : Body) (b : ℕ) (ks : List ℕ) → find i s.book.rows ≡ some y → RowAt (load ws sh) s x i y → y ≡ reservation b ks → (b : ℕ) × (ks : List ℕ) × Open (load ws sh) s x i b ks
  open_of x y b ks d a e = (b, ks, record { found = d ∙ ap some e; row = rw e at a })

  pub reservation_some : (x : ℕ) → reservation_link (load ws sh) sh i ≡ suc x → (b : ℕ) × (ks : List ℕ) × Open (load ws sh) s x i b ks
  reservation_some x e =
      let p = kind_some sh (load ws sh) s r.reps.memory (fits_of s r.well_formed) r.reps.shaped.limits.few_rows kind_reservation i x e in
      let g = a_reservation (load ws sh) x p.0 p.2.body p.3 in
      open_of x p.0 g.0 g.1 p.1 p.2 g.2

  -- so for a plan
  pub plan_none : plan_link (load ws sh) sh i ≡ 0 → (f : ℕ → ℕ → StorageSnapshot → List ℕ → Decision) → (plan_row i of s refuse 18 then f) ≡ refusal 18
  plan_none e f = kind_none sh (load ws sh) s r.reps.memory (fits_of s r.well_formed) r.reps.shaped.limits.few_rows kind_plan i (λ o. as_plan o 18 f ≡ refusal 18)
      refl (λ x y p n. no_plan (load ws sh) x y p n f) e

  plan_at : (x : ℕ) (y : Body) (b n : ℕ) (w : StorageSnapshot) (fs : List ℕ) → find i s.book.rows ≡ some y → RowAt (load ws sh) s x i y → y ≡ plan b n w fs
      → (b : ℕ) × (n : ℕ) × (w : StorageSnapshot) × (fs : List ℕ) × OpenPlan (load ws sh) s x i b n w fs
  plan_at x y b n w fs d a e = (b, n, w, fs, record { found = d ∙ ap some e; row = rw e at a })

  pub plan_some : (x : ℕ) → plan_link (load ws sh) sh i ≡ suc x → (b : ℕ) × (n : ℕ) × (w : StorageSnapshot) × (fs : List ℕ) × OpenPlan (load ws sh) s x i b n w fs
  plan_some x e =
      let p = kind_some sh (load ws sh) s r.reps.memory (fits_of s r.well_formed) r.reps.shaped.limits.few_rows kind_plan i x e in
      let g = a_plan (load ws sh) x p.0 p.2.body p.3 in
      plan_at x p.0 g.0 g.1 g.2 g.3 p.1 p.2 g.4
