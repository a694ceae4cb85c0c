-- The parcel with an id, in the model. Assumes nothing.
use Rattle.std.specs.Prelude.{◌≡◌, refl, List, ℕ, zero, suc}
use Rattle.std.proofs.Common.{sym, ap, ◌∙◌, arith}
use Rattle.std.proofs.Math.Option.{none, some}
use Rattle.model.specs.State.{Handle, Body, Body.reservation, Body.claim, Body.parcel, Body.plan, State}
use Rattle.model.specs.Book.{find}
use Rattle.model.specs.Decision.{as_parcel}
use Rattle.layout.specs.declared.Shape.{Shape}
use Rattle.layout.specs.Layout.{Mem, index, row, load}
use Rattle.layout.specs.Fields.{row_kind}
use Rattle.layout.specs.Values.{kind_parcel}
use Rattle.representation.specs.Represents.{BodyIs}
use Rattle.storage.specs.Reps.{Held}
use Rattle.book.specs.Lists.{ids_apart, nothing}
use Rattle.book.specs.Ops.{row_link}
use Rattle.book.specs.Find.{Fits, RowAt, row_found, row_none, at_find, kind_none, kind_some}
use Rattle.parcel.specs.Ops.{parcel_link}

-- a row's kind tells a parcel
a_parcel : (m : Mem) (x : ℕ) (y : Body) → BodyIs m x y → m (row x row_kind) ≡ kind_parcel → (hs : List Handle) × (y ≡ parcel hs)
a_parcel m x (reservation b ks) p e = absurd (omega (arith, p.0))
a_parcel m x (claim b es) p e = absurd (omega (arith, p.0))
a_parcel m x (parcel hs) p e = (hs, refl)
a_parcel m x (plan b n w fs) p e = absurd (omega (arith, p.kind))

no_parcel : (m : Mem) (x : ℕ) (y : Body) → BodyIs m x y → (m (row x row_kind) ≡ kind_parcel → ⊥) → as_parcel (some y) ≡ none
no_parcel m x (reservation b ks) p e = refl
no_parcel m x (claim b es) p e = refl
no_parcel m x (parcel hs) p e = absurd (e p.0)
no_parcel m x (plan b n w fs) p e = refl

-- a parcel of the book, in its place
pub record Loose (m : Mem) (s : State) (x i : ℕ) (hs : List Handle) : Type 0 where
  pub found : find i s.book.rows ≡ some (parcel hs)
  pub row : RowAt m s x i (parcel hs)

module _ (ws : List ℕ) (sh : Shape) (s : State) (h : Held ws sh s) (f : Fits s) (i : ℕ) where
  -- "unknown .. open row of the kind named"
  pub parcel_none : parcel_link (load ws sh) sh i ≡ 0 → as_parcel (find i s.book.rows) ≡ none
  parcel_none e = kind_none sh (load ws sh) s h.reps.memory f h.reps.shaped.limits.few_rows kind_parcel i (λ o. as_parcel o ≡ none) refl (no_parcel (load ws sh)) e

  loose_of : (x : ℕ) (y : Body) (hs : List Handle) → find i s.book.rows ≡ some y → RowAt (load ws sh) s x i y → y ≡ parcel hs → (hs : List Handle) × Loose (load ws sh) s x i hs
  loose_of x y hs d a e = (hs, record { found = d ∙ ap some e; row = rw e at a })

  pub parcel_some : (x : ℕ) → parcel_link (load ws sh) sh i ≡ suc x → (hs : List Handle) × Loose (load ws sh) s x i hs
  parcel_some x e =
      let p = kind_some sh (load ws sh) s h.reps.memory f h.reps.shaped.limits.few_rows kind_parcel i x e in
      let g = a_parcel (load ws sh) x p.0 p.2.body p.3 in
      loose_of x p.0 g.0 p.1 p.2 g.1

  -- a row stands in one place
  row_one : (x z : ℕ) (y c : Body) → RowAt (load ws sh) s x i y → RowAt (load ws sh) s z i c → x ≡ z
  row_one x z y c a d = sym a.named ∙ ap (λ (k : ℕ). load ws sh (index k))
      (ids_apart 1 s.book.next s.book.rows _ _ (record { id = i; body = y }) (record { id = i; body = c }) f.rise a.listed d.listed refl) ∙ d.named

  -- where the walk finds it
  pub row_link_law : (x : ℕ) (y : Body) → RowAt (load ws sh) s x i y → row_link (load ws sh) sh i ≡ suc x
  row_link_law x y a = go (row_link (load ws sh) sh i) refl
    where
      go : (l : ℕ) → row_link (load ws sh) sh i ≡ l → l ≡ suc x
      go zero q = nothing y (sym (row_none sh (load ws sh) s h.reps.memory f i q) ∙ at_find sh (load ws sh) s h.reps.memory f x i y a)
      go (suc z) q = let p = row_found sh (load ws sh) s h.reps.memory f h.reps.shaped.limits.few_rows i z q in ap suc (row_one z x p.0 y p.2 a)
