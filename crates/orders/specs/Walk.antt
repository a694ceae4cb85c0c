-- A walk along links that must come to its end in so many steps, and the list that it decides. A link is a number plus 1, and 0 is none. Assumes nothing.
use Rattle.std.specs.Prelude.{◌≡◌, refl, Bool, true, ◌&&◌, length, eqb}
use Rattle.std.proofs.Common.{sym, ◌∙◌}
use Rattle.std.proofs.Math.Path.{ap, subst}
use Rattle.std.proofs.Math.Logic.{⊎_elim}
use Rattle.std.proofs.Math.Bool.{not}
use mathlib.Core.List.{List, [], ◌∷◌}
use Prim.Native.Nat.{ℕ, zero, suc, ◌-◌, ◌≤◌, ◌<◌}
use native.Mathlib.Omega.{arith}
use borrow.Author.Tests.{eq-eqb, ne_eqb, eqb-true, eqb-false, not-true}
use Rattle.words.specs.Pick.{both, both_is}
use Rattle.model.specs.Base.{bit, occurs, sum}
use Rattle.model.proofs.Sums.{sum_equal}
use Rattle.model.proofs.Tests.{bit_small, bit_true}
use Rattle.model.proofs.Counting.{bit_other, sum_tight, sum_occurs}
use Rattle.representation.specs.Represents.{Chain, Linked}
use Rattle.storage.specs.Order.{list_from, same?, occurs_head, NoDup}

-- the link h is one to an element that passes, and the link before it is p as far as `back` tells
abbrev pub links_by : (ℕ → Bool) → (ℕ → ℕ → Bool) → ℕ → ℕ → Bool
links_by test back h p = not (eqb h 0) && (test (h - 1) && back (h - 1) p)

-- k steps from the link h, before which is the link p, come to the end, and each link passes
unfoldable pub walk : (ℕ → ℕ) → (ℕ → ℕ → Bool) → ℕ → ℕ → ℕ → Bool
walk next links zero h p = eqb h 0
walk next links (suc k) h p = links h p && walk next links k (next (h - 1)) h

-- each of a list passes with the link before it, which is p for the first
abbrev pub Backed : (ℕ → ℕ → Bool) → ℕ → List ℕ → Type 0
Backed back p [] = Unit {0}
Backed back p (x ∷ l) = (back x p ≡ true) × Backed back (suc x) l

-- ---- links forward alone determine the list, and it has no number twice

pub length_from : (next : ℕ → ℕ) (k h : ℕ) → length (list_from next k h) ≡ k
length_from next zero h = refl
length_from next (suc k) h = ap suc (length_from next k (next (h - 1)))

linked_length : (next : ℕ → ℕ) (h : ℕ) (l m : List ℕ) → Linked next h l → Linked next h m → length l ≡ length m
linked_length next h [] [] c d = refl
linked_length next h [] (y ∷ m) c d = absurd (omega arith)
linked_length next h (x ∷ l) [] c d = absurd (omega arith)
linked_length next h (x ∷ l) (y ∷ m) c d = let e : y ≡ x = omega arith in ap suc (linked_length next (next x) l m c.1 (rw e at d.1))

pub linked_list : (next : ℕ → ℕ) (h : ℕ) (l : List ℕ) → Linked next h l → l ≡ list_from next (length l) h
linked_list next h [] c = refl
linked_list next h (x ∷ l) c = let e : x ≡ h - 1 = omega arith in rw (← e) (ap (λ (m : List ℕ). x ∷ m) (linked_list next (next x) l c.1))

-- from each number of the list a shorter list goes on
linked_from : (next : ℕ → ℕ) (h : ℕ) (l : List ℕ) (x : ℕ) → Linked next h l → 0 < occurs x l → (m : List ℕ) × Linked next (next x) m × (length m < length l)
linked_from next h [] x c i = absurd (omega arith)
linked_from next h (y ∷ l) x c i =
    ⊎_elim
    (λ (e : x ≡ y). (l, rw e c.1, omega arith))
    (λ e. let r = linked_from next (next y) l x c.1 (omega (arith, bit_other x y e)) in (r.0, r.1, omega arith))
    (same? x y)

linked_leaves : (next : ℕ → ℕ) (x : ℕ) (l : List ℕ) → Linked next (next x) l → occurs x l ≡ 0
linked_leaves next x l c =
    ⊎_elim
    (λ z. z)
    (λ z. let r = linked_from next (next x) l x c (omega arith) in absurd (omega (arith, linked_length next (next x) l r.0 c r.1)))
    (same? (occurs x l) 0)

pub linked_once : (next : ℕ → ℕ) (h : ℕ) (l : List ℕ) → Linked next h l → NoDup l
linked_once next h [] c x = omega arith
linked_once next h (y ∷ l) c x =
    ⊎_elim
    (λ (e : x ≡ y). let z : occurs x l ≡ 0 = rw e (linked_leaves next y l c.1) in omega (arith, bit_small (eqb x y)))
    (λ e. omega (arith, bit_other x y e, linked_once next (next y) l c.1 x))
    (same? x y)

-- a chain is a linked list in which each number knows the one before
pub chain_parts : (next prev : ℕ → ℕ) (h p : ℕ) (l : List ℕ) → Chain next prev h p l → Linked next h l × Backed (λ x q. eqb (prev x) q) p l
chain_parts next prev h p [] c = (c, tt)
chain_parts next prev h p (x ∷ l) c = let r = chain_parts next prev (next x) (suc x) l c.2 in ((c.0, r.0), (eq-eqb (prev x) p c.1, r.1))

pub parts_chain : (next prev : ℕ → ℕ) (h p : ℕ) (l : List ℕ) → Linked next h l → Backed (λ x q. eqb (prev x) q) p l → Chain next prev h p l
parts_chain next prev h p [] c d = c
parts_chain next prev h p (x ∷ l) c d = (c.0, eqb-true (prev x) p d.0, parts_chain next prev (next x) (suc x) l c.1 d.1)

-- where `back` does not look there is nothing to know
pub backed_all : (p : ℕ) (l : List ℕ) → Backed (λ x q. true) p l
backed_all p [] = tt
backed_all p (x ∷ l) = (refl, backed_all (suc x) l)

-- ---- the walk and the list

module _ (next : ℕ → ℕ) (test : ℕ → Bool) (back : ℕ → ℕ → Bool) where
  pub walk_sound : (k h p : ℕ) → walk next (links_by test back) k h p ≡ true
      → Linked next h (list_from next k h) × Backed back p (list_from next k h) × ((x : ℕ) → 0 < occurs x (list_from next k h) → test x ≡ true)
  unfolding walk
  walk_sound zero h p e = (eqb-true h 0 e, tt, λ x i. absurd (omega arith))
  walk_sound (suc k) h p e =
      let x : ℕ = h - 1 in
      let e₁ = both (links_by test back h p) (walk next (links_by test back) k (next x) h) e in
      let e₂ = both (not (eqb h 0)) (test x && back x p) e₁.0 in
      let e₃ = both (test x) (back x p) e₂.1 in
      let pos : h ≡ 0 → ⊥ = eqb-false h 0 (not-true (eqb h 0) e₂.0) in
      let s : h ≡ suc (h - 1) = omega arith in
      let r = walk_sound k (next x) h e₁.1 in (
        (s, r.0),
        (e₃.1, subst (λ (q : ℕ). Backed back q (list_from next k (next x))) s r.1),
        λ y i. ⊎_elim (λ (q : y ≡ x). ap test q ∙ e₃.0) (λ q. r.2 y (omega (arith, bit_other y x q))) (same? y x),
      )

  pub walk_complete : (h p : ℕ) (l : List ℕ) → Linked next h l → Backed back p l → ((x : ℕ) → 0 < occurs x l → test x ≡ true)
      → walk next (links_by test back) (length l) h p ≡ true
  unfolding walk
  walk_complete h p [] c d v = eq-eqb h 0 c
  walk_complete h p (x ∷ l) c d v =
      let s : x ≡ h - 1 = omega arith in
      both_is _ _
      (both_is _ _ (ap not (ne_eqb h 0 (λ e. omega arith))) (rw (← s) (both_is _ _ (v x (occurs_head x l)) d.0)))
      (rw (← s, c.0) (walk_complete (next x) (suc x) l c.1 d.1 (λ y i. v y (omega arith))))

-- THE WALK DECIDES, where only the first n numbers can pass and as many pass as it has steps: a list that is linked so and holds each number that
-- passes once and nothing else
pub record Ordered (next : ℕ → ℕ) (test : ℕ → Bool) (back : ℕ → ℕ → Bool) (h : ℕ) (l : List ℕ) : Type 0 where
  pub linked : Linked next h l
  pub backed : Backed back 0 l
  pub exact : (x : ℕ) → occurs x l ≡ bit (test x)

module _ (next : ℕ → ℕ) (test : ℕ → Bool) (back : ℕ → ℕ → Bool) (n h : ℕ) (within : (x : ℕ) → test x ≡ true → x < n) where
  pub order_sound : (k : ℕ) → (sum n λ x. bit (test x)) ≡ k → walk next (links_by test back) k h 0 ≡ true → Ordered next test back h (list_from next k h)
  order_sound k c e =
      let r = walk_sound next test back k h 0 e in
      let l : List ℕ = list_from next k h in
      let once : NoDup l = linked_once next h l r.0 in
      let under : (x : ℕ) → occurs x l ≤ bit (test x) = λ x. ⊎_elim
      (λ (z : occurs x l ≡ 0). omega arith)
      (λ z. let v : 0 < occurs x l → test x ≡ true = r.2 x in omega (arith, once x, ap bit (v (omega arith))))
      (same? (occurs x l) 0) in
      let tight : (x : ℕ) → x < n → occurs x l ≡ bit (test x) =
      sum_tight n (λ i. occurs i l) (λ i. bit (test i)) (λ i b. under i) (omega (arith, length_from next k h, sum_occurs n l (λ x i. within x (r.2 x i)))) in
      record {
        linked = r.0;
        backed = r.1;
        exact = λ x. ⊎_elim
            (λ (z : bit (test x) ≡ 0). omega (arith, under x))
            (λ z. tight x (within x (bit_true (test x) (omega arith))))
            (same? (bit (test x)) 0);
      }

  pub order_count : (l : List ℕ) → Ordered next test back h l → (sum n λ x. bit (test x)) ≡ length l
  order_count l o = sum_equal n (λ i. bit (test i)) (λ i. occurs i l) (λ i b. sym (o.exact i))
      ∙ sum_occurs n l (λ x i. within x (bit_true (test x) (omega (arith, o.exact x))))

  pub order_complete : (l : List ℕ) → Ordered next test back h l → walk next (links_by test back) (length l) h 0 ≡ true
  order_complete l o = walk_complete next test back h 0 l o.linked o.backed (λ x i. bit_true (test x) (omega (arith, o.exact x)))
