-- What the contracts of the program cite: a word of the input, the words behind which all are equal, runs of equal words, and words that are kept. Assumes nothing.
use Rattle.std.specs.Prelude.{List, ◌≡◌, ℕ, ◌+◌, ◌-◌, ◌*◌, ◌<◌, ◌≤◌, get_or, set}
use Rattle.std.proofs.Common.{◌∙◌, arith, get_or-set_other}

-- a word from its eight bytes, the lowest first
abbrev pub word_of : List ℕ → ℕ
word_of b = get_or b 0 0 + 256 * get_or b 1 0 + 65536 * get_or b 2 0 + 16777216 * get_or b 3 0
    + 4294967296 * (get_or b 4 0 + 256 * get_or b 5 0 + 65536 * get_or b 6 0 + 16777216 * get_or b 7 0)

-- of the first n words, those from r on hold v, and the one before does not
abbrev pub Cut : List ℕ → ℕ → ℕ → ℕ → Type 0
Cut ws n v r = (r ≤ n) × ((k : ℕ) → r ≤ k → k < n → get_or ws k 0 ≡ v) × (0 < r → get_or ws (r - 1) 0 ≡ v → ⊥)

-- the words from `at` to r are equal, and the next below n is another
abbrev pub Run : List ℕ → ℕ → ℕ → ℕ → Type 0
Run ws at n r = (at < r) × (r ≤ n) × ((k : ℕ) → at ≤ k → k < r → get_or ws k 0 ≡ get_or ws at 0) × (r < n → get_or ws r 0 ≡ get_or ws at 0 → ⊥)

-- the words from n on are kept
abbrev pub Past : ℕ → List ℕ → List ℕ → Type 0
Past n ws vs = (k : ℕ) → n ≤ k → get_or vs k 0 ≡ get_or ws k 0

-- a store below n keeps the words from n on
pub past_more : (n i w : ℕ) (ws us vs : List ℕ) → Past n ws us → i < n → vs ≡ set us i w → Past n ws vs
past_more n i w ws us vs f h e k a = rw e (get_or-set_other us i k w 0 (λ (q : k ≡ i). absurd (omega arith)) ∙ f k a)
