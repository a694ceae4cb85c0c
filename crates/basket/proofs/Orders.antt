-- Swapping neighbours reaches every order: if each price stands equally often in two baskets, the one is the other reordered. Assumes nothing.
use Rattle.std.specs.Prelude.{◌≡◌, refl, Bool, true, false, List, [], ◌∷◌, ◌++◌, ℕ, ◌+◌, ◌<◌, eqb}
use Rattle.std.proofs.Common.{sym, ap, subst, arith, eqb-true, eq-eqb}
use Rattle.basket.specs.Basket.{total, Reordered, Reordered.same, Reordered.swap}
use Rattle.basket.proofs.Laws.{order_never_alters}

-- how often a price stands in a basket
abbrev pub one : Bool → ℕ
one true = 1
one false = 0

abbrev pub often : ℕ → List ℕ → ℕ
often price [] = 0
often price (first ∷ rest) = one (eqb price first) + often price rest

-- a reordering below a price that stays first; two reorderings, one after the other; a first price moved to any later place
keep : (price : ℕ) {start end : List ℕ} → Reordered start end → Reordered (price ∷ start) (price ∷ end)
keep price (same basket) = same (price ∷ basket)
keep price (swap before a b after more) = swap (price ∷ before) a b after (keep price more)

both : {start middle end : List ℕ} → Reordered start middle → Reordered middle end → Reordered start end
both (same basket) q = q
both (swap before a b after more) q = swap before a b after (both more q)

moved : (before : List ℕ) (price : ℕ) (after : List ℕ) → Reordered (price ∷ (before ++ after)) (before ++ (price ∷ after))
moved [] price after = same (price ∷ after)
moved (b ∷ before) price after = swap [] price b (before ++ after) (keep b (moved before price after))

-- a price that stands in a basket has a place there; taken out, the other prices stand as often as before
abbrev Place : ℕ → List ℕ → Type 0
Place price basket = (before : List ℕ) × (after : List ℕ) × (basket ≡ before ++ (price ∷ after))

place : (price : ℕ) (basket : List ℕ) → 0 < often price basket → Place price basket
place price [] h = absurd (omega arith)
place price (first ∷ rest) h = go (eqb price first) refl (place price rest)
  where
    go : (b : Bool) → eqb price first ≡ b → (0 < often price rest → Place price rest) → Place price (first ∷ rest)
    go true e later = ([], rest, ap (λ (p : ℕ). p ∷ rest) (sym (eqb-true price first e)))
    go false e later = let l = later (omega (arith, rw e at h)) in (first ∷ l.0, l.1, ap (λ (basket : List ℕ). first ∷ basket) l.2)

taken : (p price : ℕ) (before after : List ℕ) → often p (before ++ (price ∷ after)) ≡ one (eqb p price) + often p (before ++ after)
taken p price [] after = refl
taken p price (b ∷ before) after = omega (arith, taken p price before after)

itself : (price : ℕ) → one (eqb price price) ≡ 1
itself price = ap one (eq-eqb price price refl)

pub reached : (start end : List ℕ) → ((price : ℕ) → often price start ≡ often price end) → Reordered start end
reached [] [] e = same []
reached [] (first ∷ rest) e = absurd (omega (arith, e first, itself first))
reached (first ∷ rest) end e =
    let at : Place first end = place first end (omega (arith, e first, itself first)) in
    let others : (p : ℕ) → often p rest ≡ often p (at.0 ++ at.1) = λ p. omega (arith, e p, ap (often p) at.2, taken p first at.0 at.1) in
    subst (Reordered (first ∷ rest)) (sym at.2) (both (keep first (reached rest (at.0 ++ at.1) others)) (moved at.0 first at.1))

-- so two baskets with equal prices, in whatever order, have one total
pub any_order : (start end : List ℕ) → ((price : ℕ) → often price start ≡ often price end) → total start ≡ total end
any_order start end e = order_never_alters (reached start end e)
