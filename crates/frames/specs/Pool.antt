-- The pool of frames as a memory shows it: free frames are counted in groups of three sizes. Taking a frame out and giving one back. Assumes nothing.
use Rattle.std.specs.Prelude.{◌≡◌, refl, List, [], ◌∷◌, ℕ, zero, suc, ◌+◌, ◌-◌, ◌*◌, ◌/◌, ◌%◌, ◌≤◌, ◌<◌, length, eqb, ltb}
use Rattle.std.proofs.Common.{sym, ap, ◌∙◌, ⊎_elim, arith, div-add-mod', mod-lt}
use Rattle.std.proofs.Math.Nat.{div-eq_of_lt-le}
use Rattle.words.specs.Pick.{bool}
use Rattle.model.specs.Base.{bit, occurs, insert, sum}
use Rattle.model.specs.State.{State}
use Rattle.model.proofs.Tests.{bit_small}
use Rattle.model.proofs.Sums.{sum_equal, sum_zero, sum_add, occurs_insert}
use Rattle.model.proofs.Counting.{bit_same, bit_other}
use Rattle.layout.specs.Layout.{Mem, root, owner, group}
use Rattle.layout.specs.Fields.{root_free_frames}
use Rattle.layout.specs.Sizes.{frames_max}
use Rattle.representation.specs.Represents.{FramesAre}
use Rattle.storage.specs.Order.{same?}
use Rattle.storage.specs.Ops.{up}

-- frames in a group of level i: 16, 256 and 4,096
abbrev pub span : ℕ → ℕ
span zero = 16
span (suc i) = 16 * span i

-- how many of a list are in group g of z numbers
abbrev pub in_group : List ℕ → ℕ → ℕ → ℕ
in_group l z g = sum z λ j. occurs (g * z + j) l

-- THE POOL: of n frames those of a list are free
pub record Counted (m : Mem) (n : ℕ) (l : List ℕ) : Type 0 where
  pub free : (f : ℕ) → 0 < occurs f l → m (owner f) ≡ 0
  pub groups : (i : ℕ) → i < 3 → (g : ℕ) → g * span i < n → m (group i g) ≡ in_group l (span i) g
  pub count : m (root root_free_frames) ≡ length l

pub counted_of : (m : Mem) (s : State) → FramesAre m s → Counted m s.frame_count s.frames
counted_of m s r = record { free = r.free; groups = at_level; count = r.count }
  where
    at_level : (i : ℕ) → i < 3 → (g : ℕ) → g * span i < s.frame_count → m (group i g) ≡ in_group s.frames (span i) g
    at_level zero l g h = r.sixteens g h
    at_level (suc zero) l g h = r.hundreds g h
    at_level (suc (suc zero)) l g h = r.thousands g h
    at_level (suc (suc (suc i))) l g h = absurd (omega arith)

-- ---- one frame more in a list is one more in its group

sum_one : (n : ℕ) (f : ℕ → ℕ) (k : ℕ) → k < n → f k ≡ 1 → ((j : ℕ) → (j ≡ k → ⊥) → f j ≡ 0) → sum n f ≡ 1
sum_one zero f k l e h = absurd (omega arith)
sum_one (suc n) f k l e h = ⊎_elim
    (λ (q : k ≡ n). let d : f n ≡ 1 = rw q at e in omega (arith, sum_zero n f (λ j i. h j (λ y. omega arith))))
    (λ (q : k ≡ n → ⊥). omega (arith, sum_one n f k (omega arith) e h, h n (λ y. q (sym y))))
    (same? k n)

pub group_bit : (z g f : ℕ) → 0 < z → (sum z λ j. bit (eqb (g * z + j) f)) ≡ bit (eqb g (f / z))
group_bit z g f h = ⊎_elim
    (λ (e : g ≡ f / z). let d : g * z + f % z ≡ f = ap (λ (x : ℕ). x * z + f % z) e ∙ div-add-mod' f z in
    sum_one z (λ j. bit (eqb (g * z + j) f)) (f % z) (mod-lt f h) (bit_same (g * z + f % z) f d)
    (λ j n. bit_other (g * z + j) f (λ q. n (omega arith))) ∙ sym (bit_same g (f / z) e))
    (λ (e : g ≡ f / z → ⊥). sum_zero z (λ j. bit (eqb (g * z + j) f))
    (λ j i. bit_other (g * z + j) f (λ q. e (sym (div-eq_of_lt-le z (omega arith) (omega arith))))) ∙ sym (bit_other g (f / z) e))
    (same? g (f / z))

-- a list that has f once more than another
abbrev pub More : ℕ → List ℕ → List ℕ → Type 0
More f l k = (x : ℕ) → occurs x k ≡ bit (eqb x f) + occurs x l

-- a list from which f, which stands in it once, is taken: any frame of a list of free ones
pub record Taken (f : ℕ) (l k : List ℕ) : Type 0 where
  pub more : More f l k
  pub long : length k ≡ suc (length l)
  pub gone : occurs f l ≡ 0

pub more_group : (f : ℕ) (l k : List ℕ) → More f l k → (z g : ℕ) → 0 < z → in_group k z g ≡ bit (eqb g (f / z)) + in_group l z g
more_group f l k e z g h =
    sum_equal z (λ j. occurs (g * z + j) k) (λ j. bit (eqb (g * z + j) f) + occurs (g * z + j) l) (λ j i. e (g * z + j))
    ∙ sum_add z (λ j. bit (eqb (g * z + j) f)) (λ j. occurs (g * z + j) l)
    ∙ ap (λ (x : ℕ). x + in_group l z g) (group_bit z g f h)

-- no group has more than there are
pub group_small : (l : List ℕ) (z g : ℕ) → 0 < z → in_group l z g ≤ length l
group_small [] z g h = omega (arith, sum_zero z (λ j. 0) (λ j i. refl))
group_small (x ∷ l) z g h = omega (arith, more_group x l (x ∷ l) (λ y. refl) z g h, bit_small (eqb g (x / z)), group_small l z g h)

pub length_insert : (x : ℕ) (l : List ℕ) → length (insert x l) ≡ suc (length l)
length_insert x [] = refl
length_insert x (y ∷ l) = bool (ltb x y) (λ e. rw e) (λ e. rw e (ap suc (length_insert x l)))

pub span_some : (i : ℕ) → 0 < span i
span_some zero = omega arith
span_some (suc i) = omega (arith, span_some i)

-- ---- one frame's words change

-- the owner of f is o, and each count of a group that has f, and of all, goes on by a step
pub record Pooled (step : ℕ → ℕ) (m n : Mem) (f o : ℕ) : Type 0 where
  pub own : n (owner f) ≡ o
  pub owners : (g : ℕ) → (g ≡ f → ⊥) → n (owner g) ≡ m (owner g)
  pub counts : (i : ℕ) → i < 3 → n (group i (f / span i)) ≡ step (m (group i (f / span i)))
  pub groups : (i : ℕ) → i < 3 → (g : ℕ) → (g ≡ f / span i → ⊥) → n (group i g) ≡ m (group i g)
  pub count : n (root root_free_frames) ≡ step (m (root root_free_frames))

-- one less
abbrev pub down : ℕ → ℕ
down x = x - 1

module _ (step : ℕ → ℕ) (m n : Mem) (f o : ℕ) (p : Pooled step m n f o) where
  -- the groups that have f, and those that have not
  pub pooled_groups : (C : ℕ → ℕ → Type 0) (i : ℕ) → i < 3 → (g : ℕ) → (bit (eqb g (f / span i)) ≡ 1 → n (group i g) ≡ step (m (group i g)) → C i g)
      → (bit (eqb g (f / span i)) ≡ 0 → n (group i g) ≡ m (group i g) → C i g) → C i g
  pooled_groups C i l g y x = ⊎_elim
      (λ (e : g ≡ f / span i). y (bit_same g (f / span i) e) (ap (λ (q : ℕ). n (group i q)) e ∙ p.counts i l ∙ ap (λ (q : ℕ). step (m (group i q))) (sym e)))
      (λ (e : g ≡ f / span i → ⊥). x (bit_other g (f / span i) e) (p.groups i l g e))
      (same? g (f / span i))

  pub pooled_owners : (g : ℕ) → (C : Type 0) → (g ≡ f → n (owner g) ≡ o → C) → ((g ≡ f → ⊥) → n (owner g) ≡ m (owner g) → C) → C
  pooled_owners g C y x = ⊎_elim (λ (e : g ≡ f). y e (ap (λ (q : ℕ). n (owner q)) e ∙ p.own)) (λ (e : g ≡ f → ⊥). x e (p.owners g e)) (same? g f)

module _ (m n : Mem) (c f o : ℕ) (l : List ℕ) where
  -- A FREE FRAME IS TAKEN
  pub take_counted : (k : List ℕ) → Counted m c k → Taken f l k → Pooled down m n f o → Counted n c l
  take_counted k r t p = record {
    free = λ g h. pooled_owners down m n f o p g (n (owner g) ≡ 0)
        (λ (e : g ≡ f) q. let d : occurs g l ≡ 0 = rw e t.gone in absurd (omega arith))
        (λ e q. q ∙ r.free g (omega (arith, t.more g)));
    groups = λ i j g h. let e : in_group k (span i) g ≡ bit (eqb g (f / span i)) + in_group l (span i) g = more_group f l k t.more (span i) g (span_some i) in
        pooled_groups down m n f o p (λ i g. n (group i g) ≡ in_group l (span i) g) i j g
        (λ b q. omega (arith, r.groups i j g h))
        (λ b q. omega (arith, r.groups i j g h));
    count = p.count ∙ omega (arith, r.count, t.long);
  }

  -- A FRAME IS GIVEN BACK
  pub give_counted : Counted m c l → length l ≤ frames_max → Pooled up m n f 0 → Counted n c (insert f l)
  give_counted r small p = record {
    free = λ g h. pooled_owners up m n f 0 p g (n (owner g) ≡ 0)
        (λ e q. q)
        (λ e q. q ∙ r.free g (omega (arith, occurs_insert g f l, bit_other g f e)));
    groups = λ i j g h. let k : in_group (insert f l) (span i) g ≡ bit (eqb g (f / span i)) + in_group l (span i) g =
        more_group f l (insert f l) (λ x. occurs_insert x f l) (span i) g (span_some i) in
        pooled_groups up m n f 0 p (λ i g. n (group i g) ≡ in_group (insert f l) (span i) g) i j g
        (λ b q. omega (arith, r.groups i j g h, group_small l (span i) g (span_some i)))
        (λ b q. omega (arith, r.groups i j g h));
    count = p.count ∙ omega (arith, r.count, length_insert f l);
  }
