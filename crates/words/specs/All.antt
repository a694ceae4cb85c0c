-- A test of every number below another, and what a loop that stops at the first failure goes by. Assumes nothing.
use Rattle.std.specs.Prelude.{◌≡◌, refl, Bool, true, false, ◌&&◌, ℕ, zero, suc, ◌+◌, ◌≤◌, ◌<◌, eqb}
use Rattle.std.proofs.Common.{arith, add-one, eqb-true}
use Rattle.std.proofs.lemmas.Bool.{eqb-false}
use Rattle.words.specs.Pick.{bool, clash, both, both_is}

-- every number below n passes
unfoldable pub all : ℕ → (ℕ → Bool) → Bool
all zero p = true
all (suc n) p = all n p && p n

pub all_none : (p : ℕ → Bool) → all 0 p ≡ true
unfolding all
all_none p = refl

-- one more turn
pub all_more : (i : ℕ) (p : ℕ → Bool) → all i p ≡ true → p i ≡ true → all (i + 1) p ≡ true
unfolding all
all_more i p e d = rw add-one (both_is (all i p) (p i) e d)

pub all_at : (n : ℕ) (p : ℕ → Bool) → all n p ≡ true → (i : ℕ) → i < n → p i ≡ true
unfolding all
all_at zero p e i h = absurd (omega arith)
all_at (suc n) p e i h = let b = both (all n p) (p n) e in
    bool (eqb i n) (λ d. rw (eqb-true i n d) b.1) (λ d. let ne = eqb-false i n d in all_at n p b.0 i (omega (arith, ne)))

pub all_yes : (n : ℕ) (p : ℕ → Bool) → ((i : ℕ) → i < n → p i ≡ true) → all n p ≡ true
unfolding all
all_yes zero p f = refl
all_yes (suc n) p f = both_is (all n p) (p n) (all_yes n p (λ i h. f i (omega arith))) (f n (omega arith))

-- a loop that stops at i
pub all_stop : (n : ℕ) (p : ℕ → Bool) (i : ℕ) → i < n → p i ≡ false → all n p ≡ false
all_stop n p i h d = bool (all n p) (λ e. clash (all_at n p e i h) d) (λ e. e)

-- a loop that came to the end
pub all_end : (n i : ℕ) (p : ℕ → Bool) → all i p ≡ true → n ≤ i → all n p ≡ true
all_end n i p e h = all_yes n p (λ k l. all_at i p e k (omega arith))

-- tests that agree below n
pub all_same : (n : ℕ) (p q : ℕ → Bool) → ((i : ℕ) → i < n → p i ≡ q i) → all n p ≡ all n q
unfolding all
all_same zero p q f = refl
all_same (suc n) p q f = rw (all_same n p q (λ i h. f i (omega arith)), f n (omega arith))
