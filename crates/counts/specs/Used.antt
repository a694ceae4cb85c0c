-- How many objects, the first ones, may have a handle counted: those up to the last that has a count, and up to the last that a row has a handle of. Assumes nothing.
use Rattle.std.specs.Prelude.{Option, Some, None}
use Rattle.std.specs.Bool.{then_some}
use Rattle.std.specs.Prelude.{◌≡◌, refl, Bool, ◌&&◌, List, [], ◌∷◌, ◌++◌, eqb, ltb}
use Rattle.std.proofs.Common.{sym, ◌∙◌}
use Rattle.std.proofs.Math.Bool.{true}
use Prim.Native.Nat.{ℕ, zero, suc, ◌+◌, ◌≤◌, ◌<◌}
use native.Mathlib.Omega.{arith}
use borrow.Author.Tests.{eqb-true, eqb-false, lt-ltb, ltb-true, ltb-false}
use Rattle.words.specs.Pick.{pick, pick_has, bool, both, clash}
use Rattle.words.specs.All.{all, all_at, all_yes}
use Rattle.model.specs.Base.{occurs}
use Rattle.model.proofs.Counting.{occurs_append}
use Rattle.layout.specs.declared.Shape.{Shape}
use Rattle.layout.specs.Layout.{Mem, object}
use Rattle.layout.specs.Fields.{object_active}
use Rattle.counts.specs.Found.{gather}
use Rattle.counts.specs.Objects.{object_b, objects_b}

-- ---- those that have a count

-- an object that has none, with fields in range
unfoldable pub idle_b : Mem → ℕ → Bool
idle_b m o = eqb (m (object o object_active)) 0 && object_b m o

-- of the first n objects, up to the last that is not such a one
unfoldable pub used_to : Mem → ℕ → ℕ
used_to m zero = zero
used_to m (suc n) = pick (idle_b m n) (used_to m n) (suc n)

module _ (m : Mem) where
  pub used_few : (n : ℕ) → used_to m n ≤ n
  unfolding used_to
  used_few zero = omega arith
  used_few (suc n) = pick_has (λ (u : ℕ). u ≤ suc n) (idle_b m n) (used_to m n) (suc n) (λ e. omega (arith, used_few n)) (λ e. omega arith)

  -- the others are
  used_rest : (n o : ℕ) → used_to m n ≤ o → o < n → idle_b m o ≡ true
  unfolding used_to
  used_rest zero o h l = absurd (omega arith)
  used_rest (suc n) o h l = bool (idle_b m n)
      (λ e. let k : used_to m n ≤ o = rw e at h in bool (eqb o n) (λ q. rw (eqb-true o n q) e) (λ q. used_rest n o k (omega (arith, eqb-false o n q))))
      (λ e. let k : suc n ≤ o = rw e at h in absurd (omega arith))

  pub used_none : (n o : ℕ) → used_to m n ≤ o → o < n → m (object o object_active) ≡ 0
  unfolding idle_b
  used_none n o h l = eqb-true (m (object o object_active)) 0 (both (eqb (m (object o object_active)) 0) (object_b m o) (used_rest n o h l)).0

  used_fits : (n o : ℕ) → used_to m n ≤ o → o < n → object_b m o ≡ true
  unfolding idle_b
  used_fits n o h l = (both (eqb (m (object o object_active)) 0) (object_b m o) (used_rest n o h l)).1

-- a number of used objects, where a test has passed
abbrev pub read_if : Bool → ℕ → Option ℕ
read_if b n = pick b (Some n) None

-- the answer of `check_objects`
unfoldable pub objects_read : Mem → Shape → Option ℕ
objects_read m sh = read_if (objects_b m sh) (used_to m sh.objects)

-- the objects at the end need no second test
pub read_is : (m : Mem) (sh : Shape) (n : ℕ) (b : Bool) → n ≡ used_to m sh.objects → b ≡ all n (object_b m) → then_some b n ≡ objects_read m sh
unfolding objects_read objects_b
read_is m sh n b e q = bool b
    (λ t. rw (t, ← e, all_yes sh.objects (object_b m) (λ i k. bool (ltb i n) (λ l. all_at n (object_b m) (sym q ∙ t) i (ltb-true i n l)) (λ l. used_fits m sh.objects i (omega (arith, e, ltb-false i n l)) k))))
    (λ f. bool (all sh.objects (object_b m))
    (λ t. clash (all_yes n (object_b m) (λ i l. all_at sh.objects (object_b m) t i (omega (arith, e, used_few m sh.objects)))) (sym q ∙ f))
    (λ g. rw (f, g)))

-- ---- those that a list has a handle of

-- so many objects, or as many more as it takes for o to be among them, if it is one of n
abbrev pub raise : ℕ → ℕ → ℕ → ℕ
raise n t o = pick (ltb o t) t (pick (ltb o n) (suc o) t)

-- for each object of a list
abbrev pub top_of : ℕ → ℕ → List ℕ → ℕ
top_of n t [] = t
top_of n t (o ∷ os) = top_of n (raise n t o) os

module _ (n : ℕ) where
  pub top_append : (t : ℕ) (xs ys : List ℕ) → top_of n t (xs ++ ys) ≡ top_of n (top_of n t xs) ys
  top_append t [] ys = refl
  top_append t (x ∷ xs) ys = top_append (raise n t x) xs ys

  raise_least : (t o : ℕ) → t ≤ raise n t o
  raise_least t o = bool (ltb o t)
      (λ e. rw e (omega arith))
      (λ e. rw e (pick_has (λ (u : ℕ). t ≤ u) (ltb o n) (suc o) t (λ d. omega (arith, ltb-false o t e)) (λ d. omega arith)))

  raise_most : (t o : ℕ) → t ≤ n → raise n t o ≤ n
  raise_most t o h = pick_has (λ (u : ℕ). u ≤ n) (ltb o t) t (pick (ltb o n) (suc o) t) (λ e. h)
      (λ e. pick_has (λ (u : ℕ). u ≤ n) (ltb o n) (suc o) t (λ d. omega (arith, ltb-true o n d)) (λ d. h))

  raise_has : (t o : ℕ) → o < n → o < raise n t o
  raise_has t o l = bool (ltb o t) (λ e. rw e (ltb-true o t e)) (λ e. rw (e, lt-ltb o n l) (omega arith))

  pub top_least : (t : ℕ) (os : List ℕ) → t ≤ top_of n t os
  top_least t [] = omega arith
  top_least t (o ∷ os) = omega (arith, raise_least t o, top_least (raise n t o) os)

  pub top_most : (t : ℕ) (os : List ℕ) → t ≤ n → top_of n t os ≤ n
  top_most t [] h = h
  top_most t (o ∷ os) h = top_most (raise n t o) os (raise_most t o h)

  -- every object of the list is among them
  pub top_has : (t : ℕ) (os : List ℕ) (o : ℕ) → 1 ≤ occurs o os → o < n → o < top_of n t os
  top_has t [] o h l = absurd (omega arith)
  top_has t (x ∷ os) o h l = bool (eqb o x)
      (λ e. omega (arith, eqb-true o x e, raise_has t x (omega (arith, eqb-true o x e)), top_least (raise n t x) os))
      (λ e. let k : 1 ≤ 0 + occurs o os = rw e at h in top_has (raise n t x) os o (omega (arith, k)) l)

-- ---- lists of objects that are all among the first n

abbrev pub Among : ℕ → List ℕ → Type 0
Among n os = (o : ℕ) → 1 ≤ occurs o os → o < n

pub among_append : (n : ℕ) (xs ys : List ℕ) → Among n xs → Among n ys → Among n (xs ++ ys)
among_append n xs ys a b o h = bool (eqb (occurs o ys) 0)
    (λ e. a o (omega (arith, h, occurs_append o xs ys, eqb-true (occurs o ys) 0 e)))
    (λ e. b o (omega (arith, eqb-false (occurs o ys) 0 e)))

pub among_gather : (n k : ℕ) (f : ℕ → List ℕ) → ((i : ℕ) → i < k → Among n (f i)) → Among n (gather k f)
among_gather n zero f h = λ o l. absurd (omega (arith, l))
among_gather n (suc k) f h = among_append n (gather k f) (f k) (among_gather n k f (λ i l. h i (omega arith))) (h k (omega arith))
