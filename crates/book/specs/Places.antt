-- The places of the rows: the index names each place once, rows and items place by place. Assumes nothing.
use Rattle.std.specs.Prelude.{◌≡◌, refl, List, [], ◌∷◌, ℕ, zero, suc, ◌+◌, ◌≤◌, ◌<◌, length, ltb}
use Rattle.std.proofs.Common.{sym, ap, ◌∙◌, ⊎_elim, arith, ltb-true, ltb-false}
use Rattle.std.proofs.Math.Option.{some}
use Rattle.words.specs.Pick.{bool}
use Rattle.model.specs.Base.{nth, occurs}
use Rattle.model.specs.State.{Row}
use Rattle.model.proofs.Counting.{bit_same, bit_other}
use Rattle.model.proofs.Tests.{some_same}
use Rattle.layout.specs.Layout.{Mem, index, rank, row}
use Rattle.layout.specs.Fields.{row_id}
use Rattle.representation.specs.Represents.{Items, BodyIs, RowsAre}
use Rattle.storage.specs.Order.{same?, NoDup, length_below}
use Rattle.book.specs.Lists.{nothing}

-- ---- f gives each number below c one below c, and g takes it back: so every number below c is given

abbrev images : (ℕ → ℕ) → ℕ → List ℕ
images f zero = []
images f (suc n) = f n ∷ images f n

images_length : (f : ℕ → ℕ) (n : ℕ) → length (images f n) ≡ n
images_length f zero = refl
images_length f (suc n) = ap suc (images_length f n)

images_some : (f : ℕ → ℕ) (n x : ℕ) → 0 < occurs x (images f n) → (i : ℕ) × (i < n) × (f i ≡ x)
images_some f zero x h = absurd (omega arith)
images_some f (suc n) x h = ⊎_elim
    (λ (e : x ≡ f n). (n, omega arith, sym e))
    (λ (e : x ≡ f n → ⊥). let p = images_some f n x (omega (arith, bit_other x (f n) e)) in (p.0, omega (arith, p.1), p.2))
    (same? x (f n))

images_once : (f g : ℕ → ℕ) (c : ℕ) → ((i : ℕ) → i < c → g (f i) ≡ i) → (n : ℕ) → n ≤ c → NoDup (images f n)
images_once f g c back zero h x = omega arith
images_once f g c back (suc n) h x = ⊎_elim
    (λ (e : x ≡ f n). bool (ltb 0 (occurs x (images f n)))
    (λ d. let p = images_some f n x (ltb-true 0 (occurs x (images f n)) d) in
    absurd (omega (arith, back n (omega arith), back p.0 (omega (arith, p.1)), p.1, ap g (p.2 ∙ e))))
    (λ d. omega (arith, bit_same x (f n) e, ltb-false 0 (occurs x (images f n)) d)))
    (λ (e : x ≡ f n → ⊥). omega (arith, bit_other x (f n) e, images_once f g c back n (omega arith) x))
    (same? x (f n))

pub onto : (f g : ℕ → ℕ) (c : ℕ) → ((i : ℕ) → i < c → (f i < c) × (g (f i) ≡ i)) → (x : ℕ) → x < c → (g x < c) × (f (g x) ≡ x)
onto f g c back x h = bool (ltb 0 (occurs x (images f c)))
    (λ d. let p = images_some f c x (ltb-true 0 (occurs x (images f c)) d) in
    let q : g x ≡ p.0 = sym (ap g p.2) ∙ (back p.0 p.1).1 in
    (omega (arith, p.1), ap f q ∙ p.2))
    (λ d. let once : NoDup (x ∷ images f c) = λ z. ⊎_elim
    (λ (e : z ≡ x). let y : occurs z (images f c) ≡ occurs x (images f c) = ap (λ (v : ℕ). occurs v (images f c)) e in
    omega (arith, bit_same z x e, ltb-false 0 (occurs x (images f c)) d))
    (λ (e : z ≡ x → ⊥). omega (arith, bit_other z x e, images_once f g c (λ i l. (back i l).1) c (omega arith) z))
    (same? z x) in
    let low : (k : ℕ) → 0 < occurs k (x ∷ images f c) → k < c = λ k l. ⊎_elim
    (λ (e : k ≡ x). omega arith)
    (λ (e : k ≡ x → ⊥). let p = images_some f c k (omega (arith, bit_other k x e)) in let b = (back p.0 p.1).0 in omega (arith, p.2))
    (same? k x) in
    absurd (omega (arith, length_below c (x ∷ images f c) once low, images_length f c)))

-- so for the places: a place is named by its rank
pub record Indexed (m : Mem) (c : ℕ) : Type 0 where
  pub named : (i : ℕ) → i < c → (m (index i) < c) × (m (rank (m (index i))) ≡ i)

pub ranked : (m : Mem) (c : ℕ) → Indexed m c → (x : ℕ) → x < c → (m (rank x) < c) × (m (index (m (rank x))) ≡ x)
ranked m c p x h = onto (λ i. m (index i)) (λ x. m (rank x)) c p.named x h

-- two places of one rank are one
pub rank_one : (m : Mem) (c : ℕ) → Indexed m c → (x y : ℕ) → x < c → y < c → m (rank x) ≡ m (rank y) → x ≡ y
rank_one m c p x y h i e = sym (ranked m c p x h).1 ∙ ap (λ (r : ℕ). m (index r)) e ∙ (ranked m c p y i).1

-- ---- rows by rank

-- the row of rank i
abbrev pub RowIs : Mem → ℕ → Row → Type 0
RowIs m i r = (m (row (m (index i)) row_id) ≡ r.id) × BodyIs m (m (index i)) r.body

rows_at : (m : Mem) (i : ℕ) (rs : List Row) → RowsAre m i rs → (j : ℕ) (r : Row) → nth rs j ≡ some r → RowIs m (i + j) r
rows_at m i [] p j r e = nothing r e
rows_at m i (q ∷ rs) p zero r e = let z : i + 0 ≡ i = omega arith in rw (z, ← some_same q r e) (p.0, p.1)
rows_at m i (q ∷ rs) p (suc j) r e = let z : i + suc j ≡ suc i + j = omega arith in rw z (rows_at m (suc i) rs p.2 j r e)

rows_from : (m : Mem) (i : ℕ) (rs : List Row) → ((j : ℕ) (r : Row) → nth rs j ≡ some r → RowIs m (i + j) r) → RowsAre m i rs
rows_from m i [] f = tt
rows_from m i (q ∷ rs) f = let z : i + 0 ≡ i = omega arith in
    let p : RowIs m i q = rw z at (f 0 q refl) in
    (p.0, p.1, rows_from m (suc i) rs (λ j r e. let y : i + suc j ≡ suc i + j = omega arith in rw y at (f (suc j) r e)))

-- from rank 0 on
pub row_of : (m : Mem) (rs : List Row) → RowsAre m 0 rs → (j : ℕ) (r : Row) → nth rs j ≡ some r → RowIs m j r
row_of m rs p j r e = let z : 0 + j ≡ j = omega arith in rw z at (rows_at m 0 rs p j r e)

pub rows_all : (m : Mem) (rs : List Row) → ((j : ℕ) (r : Row) → nth rs j ≡ some r → RowIs m j r) → RowsAre m 0 rs
rows_all m rs f = rows_from m 0 rs (λ j r e. let z : 0 + j ≡ j = omega arith in rw z (f j r e))

-- ---- items by number

module _ {A : Type 0} (P : ℕ → A → Type 0) where
  items_at : (i : ℕ) (xs : List A) → Items P i xs → (j : ℕ) (x : A) → nth xs j ≡ some x → P (i + j) x
  items_at i [] p j x e = nothing x e
  items_at i (y ∷ xs) p zero x e = let z : i + 0 ≡ i = omega arith in rw (z, ← some_same y x e) p.0
  items_at i (y ∷ xs) p (suc j) x e = let z : i + suc j ≡ suc i + j = omega arith in rw z (items_at (suc i) xs p.1 j x e)

  items_from : (i : ℕ) (xs : List A) → ((j : ℕ) (x : A) → nth xs j ≡ some x → P (i + j) x) → Items P i xs
  items_from i [] f = tt
  items_from i (y ∷ xs) f = let z : i + 0 ≡ i = omega arith in
      (rw z at (f 0 y refl), items_from (suc i) xs (λ j x e. let w : i + suc j ≡ suc i + j = omega arith in rw w at (f (suc j) x e)))

  -- from item 0 on
  pub item_of : (xs : List A) → Items P 0 xs → (j : ℕ) (x : A) → nth xs j ≡ some x → P j x
  item_of xs p j x e = let z : 0 + j ≡ j = omega arith in rw z at (items_at 0 xs p j x e)

  pub items_all : (xs : List A) → ((j : ℕ) (x : A) → nth xs j ≡ some x → P j x) → Items P 0 xs
  items_all xs f = items_from 0 xs (λ j x e. let z : 0 + j ≡ j = omega arith in rw z (f j x e))
