-- A memory as a list of words: each address of a shape has its word at its place. Assumes nothing.
use Rattle.std.specs.Prelude.{◌≡◌, refl, List, [], ◌∷◌, ℕ, zero, suc, ◌+◌, ◌-◌, ◌*◌, ◌/◌, ◌%◌, ◌≤◌, ◌<◌, length, get_or, ltb}
use Rattle.std.proofs.Common.{sym, ◌∙◌, div-add-mod', div-lt_iff_lt-mul, mod-lt, arith, ltb-true, ltb-false}
use Rattle.std.proofs.Math.Path.{ap}
use Rattle.words.specs.Pick.{pick, bool}
use Rattle.words.specs.Words.{get_past}
use Rattle.layout.specs.declared.Shape.{Shape}
use Rattle.layout.specs.declared.Extent.{Extent}
use Rattle.layout.specs.Regions.{size, region, Stacked, Inside, place_in, in_place, one_place}
use Rattle.layout.specs.Layout.{total, layout, layout_stacked, Addr, Addr.reg, In, Mem, place, place_low, load}

-- n words, from that of number k on
abbrev pub tabulate : (ℕ → ℕ) → ℕ → ℕ → List ℕ
tabulate f k zero = []
tabulate f k (suc n) = f k ∷ tabulate f (suc k) n

pub tabulate_length : (f : ℕ → ℕ) (k n : ℕ) → length (tabulate f k n) ≡ n
tabulate_length f k zero = refl
tabulate_length f k (suc n) = ap suc (tabulate_length f (suc k) n)

tabulate_get : (f : ℕ → ℕ) (k n i j : ℕ) → i < n → j ≡ k + i → get_or (tabulate f k n) i 0 ≡ f j
tabulate_get f k zero i j h e = absurd (omega arith)
tabulate_get f k (suc n) zero j h e = let q : k ≡ j = omega arith in ap f q
tabulate_get f k (suc n) (suc i) j h e = tabulate_get f (suc k) n i j (omega arith) (omega arith)

-- the address of a place, where the regions count from k
abbrev pub address_in : ℕ → List Extent → ℕ → Addr
address_in k [] i = reg k 0 0 0
address_in k (e ∷ es) i = pick (ltb i (e.low + size e)) (reg k ((i - e.low) / e.w / e.y) ((i - e.low) / e.w % e.y) ((i - e.low) % e.w)) (address_in (suc k) es i)

unfoldable pub address_at : Shape → ℕ → Addr
address_at sh i = address_in 0 (layout sh) i

-- THE WORDS of a memory
unfoldable pub spread : Shape → Mem → List ℕ
spread sh m = tabulate (λ i. m (address_at sh i)) 0 (total sh)

-- a number of two digits
digits : (d t n : ℕ) → d < t * n → (d / n < t) × (d % n < n) × (d ≡ d / n * n + d % n)
digits d t zero h = absurd (omega arith)
digits d t (suc n) h = ((div-lt_iff_lt-mul {k = suc n} (omega arith)).1 h, mod-lt d (omega arith), sym (div-add-mod' d (suc n)))

-- each place of the regions is its address's
found : (n k lo hi : ℕ) (es : List Extent) → Stacked lo es hi → (i : ℕ) → lo ≤ i → i < hi
    → (j : ℕ) × (x : ℕ) × (y : ℕ) × (f : ℕ) × (address_in k es i ≡ reg (k + j) x y f) × Inside (region es j) x y f × (place_in n (region es j) x y f ≡ i)
found n k lo hi [] r i a b = absurd (omega arith)
found n k lo hi (e ∷ es) r i a b = bool (ltb i (e.low + size e))
    (λ h. let s = ltb-true i (e.low + size e) h in
    let u = digits (i - e.low) (e.x * e.y) e.w (omega (arith, r.0)) in
    let v = digits ((i - e.low) / e.w) e.x e.y u.0 in
    let j : Inside e ((i - e.low) / e.w / e.y) ((i - e.low) / e.w % e.y) ((i - e.low) % e.w) = record { xs = v.0; ys = v.1; fs = u.1 } in
    let q = ap (λ (k : ℕ). k * e.w) v.2 in (
      0,
      (i - e.low) / e.w / e.y,
      (i - e.low) / e.w % e.y,
      (i - e.low) % e.w,
      rw h (ap (λ (z : ℕ). reg z ((i - e.low) / e.w / e.y) ((i - e.low) / e.w % e.y) ((i - e.low) % e.w)) (omega arith)),
      j,
      in_place e ((i - e.low) / e.w / e.y) ((i - e.low) / e.w % e.y) ((i - e.low) % e.w) n j ∙ omega (arith, r.0, u.2),
    ))
    (λ h. let g = found n (suc k) (e.low + size e) hi es r.1 i (ltb-false i (e.low + size e) h) b in
    (suc g.0, g.1, g.2, g.3, rw h (g.4 ∙ ap (λ (z : ℕ). reg z g.1 g.2 g.3) (omega arith)), g.5, g.6))

-- a place below the total is some address's in range
address_in_law : (sh : Shape) (i : ℕ) → i < total sh → In sh (address_at sh i)
unfolding address_at
address_in_law sh i h =
    let g = found 0 0 0 (total sh) (layout sh) (layout_stacked sh) i (omega arith) h in
    let e : address_in 0 (layout sh) i ≡ reg g.0 g.1 g.2 g.3 = g.4 ∙ ap (λ (z : ℕ). reg z g.1 g.2 g.3) (omega arith) in
    rw e g.5

-- that of the address which has the place
address_is : (n : ℕ) (sh : Shape) (a : Addr) → In sh a → address_at sh (place n sh a) ≡ a
unfolding address_at
address_is n sh (reg k x y f) c =
    let i = place_in n (region (layout sh) k) x y f in
    let g = found n 0 0 (total sh) (layout sh) (layout_stacked sh) i (omega arith) (place_low n sh (reg k x y f) c) in
    let o = one_place n 0 (total sh) (layout sh) (layout_stacked sh) g.0 g.1 g.2 g.3 k x y f g.5 c g.6 in
    let z : 0 + g.0 ≡ g.0 = omega arith in
    g.4 ∙ rw (z, o.0, o.1, o.2, o.3)

module _ (sh : Shape) (m : Mem) where
  pub spread_length : length (spread sh m) ≡ total sh
  unfolding spread
  spread_length = tabulate_length (λ i. m (address_at sh i)) 0 (total sh)

  spread_get : (i : ℕ) → i < total sh → get_or (spread sh m) i 0 ≡ m (address_at sh i)
  unfolding spread
  spread_get i h = tabulate_get (λ i. m (address_at sh i)) 0 (total sh) i i h (omega arith)

  -- THE LAW: in range the words show the memory
  pub spread_load : (a : Addr) → In sh a → load (spread sh m) sh a ≡ m a
  unfolding load
  spread_load a i =
      spread_get (place (length (spread sh m)) sh a) (place_low (length (spread sh m)) sh a i)
      ∙ ap m (address_is (length (spread sh m)) sh a i)

  -- the words are as small as the memory's
  pub spread_below : (n : ℕ) → 0 < n → ((a : Addr) → In sh a → m a < n) → (i : ℕ) → get_or (spread sh m) i 0 < n
  spread_below n p h i = bool (ltb i (total sh))
      (λ e. let l = ltb-true i (total sh) e in omega (arith, spread_get i l, h (address_at sh i) (address_in_law sh i l)))
      (λ e. omega (arith, get_past (spread sh m) i (omega (arith, spread_length, ltb-false i (total sh) e))))
