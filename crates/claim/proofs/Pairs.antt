-- A claim and a reservation of one length, named by two ids. Assumes nothing.
use Rattle.std.specs.Prelude.{◌≡◌, refl, Bool, true, false, ◌⊎◌, List, length, eqb}
use Rattle.std.proofs.Common.{◌∙◌, inl, inr}
use Prim.Native.Nat.{ℕ, zero, suc, ◌-◌}
use native.Mathlib.Omega.{arith}
use borrow.Author.Tests.{eqb-true, eq-eqb, ne_eqb}
use Rattle.words.specs.Pick.{bool}
use Rattle.model.specs.State.{Entry, State}
use Rattle.model.specs.Decision.{Decision, Decision.refusal, unless◌refuse◌then◌, claim_row◌of◌refuse◌then◌, reservation_row◌of◌refuse◌then◌}
use Rattle.layout.specs.declared.Shape.{Shape}
use Rattle.layout.specs.Layout.{Mem, row, load}
use Rattle.layout.specs.Fields.{row_length}
use Rattle.representation.specs.Represents.{Rep}
use Rattle.book.specs.Ops.{reservation_link}
use Rattle.book.specs.Found.{Open, reservation_none, reservation_some}
use Rattle.claim.specs.Ops.{claim_link, paired}
use Rattle.claim.proofs.Found.{Claimed, claim_none, claim_some}

-- "unknown .. open row of the kind named .. lengths differ": 18, else the decision goes on with the two rows
abbrev pub on_pair : State → ℕ → ℕ → (ℕ → List Entry → ℕ → List ℕ → Decision) → Decision
on_pair s i j f = claim_row i of s refuse 18 then λ b es. reservation_row j of s refuse 18 then λ c ks. unless eqb (length es) (length ks) refuse 18 then f b es c ks

-- the two, in their places
pub record Pair (m : Mem) (sh : Shape) (s : State) (i j : ℕ) : Type 0 where
  pub x : ℕ
  pub y : ℕ
  pub b : ℕ
  pub c : ℕ
  pub es : List Entry
  pub ks : List ℕ
  pub from : Claimed m s x i b es
  pub to : Open m s y j c ks
  pub long : length es ≡ length ks
  pub from_link : claim_link m sh i ≡ suc x
  pub to_link : reservation_link m sh j ≡ suc y

-- the pair decides
pub on_pair_law : (m : Mem) (sh : Shape) (s : State) (i j : ℕ) (p : Pair m sh s i j) (f : ℕ → List Entry → ℕ → List ℕ → Decision) → on_pair s i j f ≡ f p.b p.es p.c p.ks
on_pair_law m sh s i j p f = rw (p.from.found, p.to.found, p.long, eq-eqb (length p.ks) (length p.ks) refl)

module _ (m : Mem) (l k : ℕ) where
  none_first : l ≡ 0 → paired m l k ≡ false
  unfolding paired
  none_first e = rw e

  none_second : k ≡ 0 → paired m l k ≡ false
  unfolding paired
  none_second e = bool (eqb l 0) (λ q. rw q) (λ q. rw (q, e))

  both_there : (x y : ℕ) → l ≡ suc x → k ≡ suc y → paired m l k ≡ eqb (m (row x row_length)) (m (row y row_length))
  unfolding paired
  both_there x y e d = let z : suc x - 1 ≡ x = omega arith in let w : suc y - 1 ≡ y = omega arith in
      rw (e, d, ne_eqb (suc x) 0 (λ q. omega arith), ne_eqb (suc y) 0 (λ q. omega arith), z, w)

module _ (ws : List ℕ) (sh : Shape) (s : State) (r : Rep ws sh s) (i j : ℕ) where
  abbrev pub test : Bool
  test = paired (load ws sh) (claim_link (load ws sh) sh i) (reservation_link (load ws sh) sh j)

  abbrev pub Tested : Type 0
  Tested = ((test ≡ false) × ((f : ℕ → List Entry → ℕ → List ℕ → Decision) → on_pair s i j f ≡ refusal 18)) ⊎ ((test ≡ true) × Pair (load ws sh) sh s i j)

  -- THE TEST is the model's
  pub pairs : Tested
  pairs = go (claim_link (load ws sh) sh i) (reservation_link (load ws sh) sh j) refl refl
    where
      go : (l k : ℕ) → claim_link (load ws sh) sh i ≡ l → reservation_link (load ws sh) sh j ≡ k → Tested
      go zero k e d = inl (none_first (load ws sh) _ _ e, λ f. claim_none ws sh s r i e _)
      go (suc x) zero e d =
          let p = claim_some ws sh s r i x e in
          inl (none_second (load ws sh) _ _ d, λ f. rw p.2.found (reservation_none ws sh s r j d _))
      go (suc x) (suc y) e d =
          let p = claim_some ws sh s r i x e in let q = reservation_some ws sh s r j y d in
          let t : test ≡ eqb (length p.1) (length q.1)
          = both_there (load ws sh) _ _ x y e d ∙ rw (p.2.row.body.2, q.2.row.body.2) in
          bool (eqb (length p.1) (length q.1))
          (λ z. inr (
            t ∙ z,
            record {
              x = x;
              y = y;
              b = p.0;
              c = q.0;
              es = p.1;
              ks = q.1;
              from = p.2;
              to = q.2;
              long = eqb-true (length p.1) (length q.1) z;
              from_link = e;
              to_link = d;
            },
          ))
          (λ z. inl (t ∙ z, λ f. rw (p.2.found, q.2.found, z)))
