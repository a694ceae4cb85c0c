-- Tables of regions, and places in them: the number of regions costs no proof. Assumes nothing.
use Rattle.std.specs.Prelude.{◌≡◌, Bool, true, false, ◌&&◌, List, [], ◌∷◌, ℕ, zero, suc, ◌+◌, ◌*◌, ◌-◌, ◌/◌, ◌%◌, ◌<◌, ◌≤◌, ltb}
use Rattle.std.proofs.Common.{sym, ap, ◌∙◌, mul-le-mul_right, mul-le-mul_left, div-add-mod', div-lt_iff_lt-mul, mod-lt, arith, lt-ltb, ltb-true, ltb-false}
use Rattle.words.specs.Pick.{pick, bool, both}
use Rattle.layout.specs.declared.Extent.{Extent}

-- a region: its low end, x times y things, w words each
abbrev pub ext : ℕ → ℕ → ℕ → ℕ → Extent
ext l x y w = record { low = l; x = x; y = y; w = w }

abbrev pub size : Extent → ℕ
size e = e.x * e.y * e.w

-- the region of a number; an empty one past the end
abbrev pub region : List Extent → ℕ → Extent
region [] k = ext 0 0 0 0
region (e ∷ es) zero = e
region (e ∷ es) (suc k) = region es k

-- each region starts where the one before ends
abbrev pub Stacked : ℕ → List Extent → ℕ → Type 0
Stacked lo [] hi = lo ≡ hi
Stacked lo (e ∷ es) hi = (lo ≡ e.low) × Stacked (e.low + size e) es hi

stacked_le : (lo hi : ℕ) (es : List Extent) → Stacked lo es hi → lo ≤ hi
stacked_le lo hi [] r = omega arith
stacked_le lo hi (e ∷ es) r = omega (arith, stacked_le (e.low + size e) hi es r.1, r.0)

stacked_from : (lo hi : ℕ) (es : List Extent) → Stacked lo es hi → (k : ℕ) → 0 < size (region es k) → lo ≤ (region es k).low
stacked_from lo hi [] r k p = absurd (omega arith)
stacked_from lo hi (e ∷ es) r zero p = omega (arith, r.0)
stacked_from lo hi (e ∷ es) r (suc k) p = omega (arith, r.0, stacked_from (e.low + size e) hi es r.1 k p)

pub stacked_to : (lo hi : ℕ) (es : List Extent) → Stacked lo es hi → (k : ℕ) → (region es k).low + size (region es k) ≤ hi
stacked_to lo hi [] r k = omega arith
stacked_to lo hi (e ∷ es) r zero = stacked_le (e.low + size e) hi es r.1
stacked_to lo hi (e ∷ es) r (suc k) = stacked_to (e.low + size e) hi es r.1 k

stacked_apart : (lo hi : ℕ) (es : List Extent) → Stacked lo es hi → (k k' : ℕ) → k < k' → 0 < size (region es k')
    → (region es k).low + size (region es k) ≤ (region es k').low
stacked_apart lo hi [] r k k' h p = absurd (omega arith)
stacked_apart lo hi (e ∷ es) r k zero h p = absurd (omega arith)
stacked_apart lo hi (e ∷ es) r zero (suc k') h p = stacked_from (e.low + size e) hi es r.1 k' p
stacked_apart lo hi (e ∷ es) r (suc k) (suc k') h p = stacked_apart (e.low + size e) hi es r.1 k k' (omega arith) p

-- ---- numbers of two digits

two_below : (t p T n : ℕ) → t < T → p < n → t * n + p < T * n
two_below t p T n a b = omega (arith, mul-le-mul_right {m = suc t} {n = T} n a)

two_order : (t p t' p' n : ℕ) → p < n → p' < n → t * n + p ≡ t' * n + p' → t < t' → ⊥
two_order t p t' p' n a b e h = omega (arith, mul-le-mul_right {m = suc t} {n = t'} n h)

two_one : (t p t' p' n : ℕ) → p < n → p' < n → t * n + p ≡ t' * n + p' → (t ≡ t') × (p ≡ p')
two_one t p t' p' n a b e =
    let q : t ≡ t' = bool (ltb t t')
    (λ h. absurd (two_order t p t' p' n a b e (ltb-true t t' h)))
    (λ h. bool (ltb t' t)
    (λ g. absurd (two_order t' p' t p n b a (sym e) (ltb-true t' t g)))
    (λ g. omega (arith, ltb-false t t' h, ltb-false t' t g))) in
    (q, omega (arith, ap (λ (k : ℕ). k * n) q))

-- ---- places

pub record Inside (e : Extent) (x y f : ℕ) : Type 0 where
  pub xs : x < e.x
  pub ys : y < e.y
  pub fs : f < e.w

abbrev pub inside : Extent → ℕ → ℕ → ℕ → Bool
inside e x y f = ltb f e.w && (ltb y e.y && ltb x e.x)

-- where field f of number (x, y) of a region stands in n words; n, which is no place, for what is out of range
unfoldable pub place_in : ℕ → Extent → ℕ → ℕ → ℕ → ℕ
place_in n e x y f = pick (inside e x y f) (e.low + ((x * e.y + y) * e.w + f)) n

module _ (e : Extent) (x y f : ℕ) where
  pub inside_yes : Inside e x y f → inside e x y f ≡ true
  inside_yes i = rw (lt-ltb f e.w i.fs, lt-ltb y e.y i.ys, lt-ltb x e.x i.xs)

  pub inside_is : inside e x y f ≡ true → Inside e x y f
  inside_is q =
      let b = both (ltb f e.w) (ltb y e.y && ltb x e.x) q in let d = both (ltb y e.y) (ltb x e.x) b.1 in
      record { xs = ltb-true x e.x d.1; ys = ltb-true y e.y d.0; fs = ltb-true f e.w b.0 }

  pub in_size : Inside e x y f → (x * e.y + y) * e.w + f < size e
  in_size i = two_below (x * e.y + y) f (e.x * e.y) e.w (two_below x y e.x e.y i.xs i.ys) i.fs

  pub in_place : (n : ℕ) → Inside e x y f → place_in n e x y f ≡ e.low + ((x * e.y + y) * e.w + f)
  unfolding place_in
  in_place n i = rw (inside_yes i)

  pub no_place : (n : ℕ) → inside e x y f ≡ false → place_in n e x y f ≡ n
  unfolding place_in
  no_place n q = rw q

  -- no partial result is past the region
  pub in_small : x < e.x → y < e.y → f < e.w → (x * e.y ≤ size e) × (x * e.y + y ≤ size e) × ((x * e.y + y) * e.w ≤ size e) × ((x * e.y + y) * e.w + f ≤ size e)
  in_small a b c =
      let z = in_size (record { xs = a; ys = b; fs = c }) in
      let u : (x * e.y + y) * 1 ≤ (x * e.y + y) * e.w = mul-le-mul_left {m = 1} {n = e.w} (x * e.y + y) (omega arith) in
      omega arith

in_one : (e : Extent) (x y f x' y' f' : ℕ) → Inside e x y f → Inside e x' y' f' → (x * e.y + y) * e.w + f ≡ (x' * e.y + y') * e.w + f'
    → (x ≡ x') × (y ≡ y') × (f ≡ f')
in_one e x y f x' y' f' i i' q =
    let a = two_one (x * e.y + y) f (x' * e.y + y') f' e.w i.fs i'.fs q in
    let b = two_one x y x' y' e.y i.ys i'.ys a.0 in
    (b.0, b.1, a.1)

-- ---- in a stack of regions one place is one number

module _ (n lo hi : ℕ) (es : List Extent) (r : Stacked lo es hi) where
  pub below : (k x y f : ℕ) → Inside (region es k) x y f → place_in n (region es k) x y f < hi
  below k x y f i = omega (arith, in_place (region es k) x y f n i, in_size (region es k) x y f i, stacked_to lo hi es r k)

  order : (k x y f k' x' y' f' : ℕ) → Inside (region es k) x y f → Inside (region es k') x' y' f'
      → place_in n (region es k) x y f ≡ place_in n (region es k') x' y' f' → k < k' → ⊥
  order k x y f k' x' y' f' i i' q h =
      let a = in_size (region es k) x y f i in let b = in_size (region es k') x' y' f' i' in
      omega (arith, in_place (region es k) x y f n i, in_place (region es k') x' y' f' n i', stacked_apart lo hi es r k k' h (omega arith))

  pub one_place : (k x y f k' x' y' f' : ℕ) → Inside (region es k) x y f → Inside (region es k') x' y' f'
      → place_in n (region es k) x y f ≡ place_in n (region es k') x' y' f' → (k ≡ k') × (x ≡ x') × (y ≡ y') × (f ≡ f')
  one_place k x y f k' x' y' f' i i' q = bool (ltb k k')
      (λ h. absurd (order k x y f k' x' y' f' i i' q (ltb-true k k' h)))
      (λ h. bool (ltb k' k)
      (λ g. absurd (order k' x' y' f' k x y f i' i (sym q) (ltb-true k' k g)))
      (λ g. let z : k' ≡ k = omega (arith, ltb-false k k' h, ltb-false k' k g) in
      let j : Inside (region es k) x' y' f' = rw z at i' in
      let u : place_in n (region es k) x y f ≡ place_in n (region es k) x' y' f' = rw z at q in
      let o = in_one (region es k) x y f x' y' f' i j (omega (arith, in_place (region es k) x y f n i, in_place (region es k) x' y' f' n j)) in
      (sym z, o.0, o.1, o.2)))

-- ---- and each word of the stack is some number's

two_of : (d T n : ℕ) → d < T * n → (t : ℕ) × (p : ℕ) × (t < T) × (p < n) × (d ≡ t * n + p)
two_of d T zero h = absurd (omega arith)
two_of d T (suc n) h = (d / suc n, d % suc n, (div-lt_iff_lt-mul {k = suc n} (omega arith)).1 h, mod-lt d (omega arith), sym (div-add-mod' d (suc n)))

pub place_of : (n lo hi : ℕ) (es : List Extent) → Stacked lo es hi → (i : ℕ) → lo ≤ i → i < hi
    → (k : ℕ) × (x : ℕ) × (y : ℕ) × (f : ℕ) × Inside (region es k) x y f × (place_in n (region es k) x y f ≡ i)
place_of n lo hi [] r i a b = absurd (omega arith)
place_of n lo hi (e ∷ es) r i a b = bool (ltb i (e.low + size e))
    (λ h. let s = ltb-true i (e.low + size e) h in
    let u = two_of (i - e.low) (e.x * e.y) e.w (omega (arith, r.0)) in
    let v = two_of u.0 e.x e.y u.2 in
    let j : Inside e v.0 v.1 u.1 = record { xs = v.2; ys = v.3; fs = u.3 } in
    let q = ap (λ (k : ℕ). k * e.w) v.4 in
    (0, v.0, v.1, u.1, j, in_place e v.0 v.1 u.1 n j ∙ omega (arith, r.0, u.4)))
    (λ h. let g = place_of n (e.low + size e) hi es r.1 i (ltb-false i (e.low + size e) h) b in
    (suc g.0, g.1, g.2, g.3, g.4, g.5))
