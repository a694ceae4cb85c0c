-- Reads after stores in a list of words, for every index. Assumes nothing.
use Rattle.std.specs.Prelude.{◌&&◌, List, ◌≡◌, ℕ, ◌^◌, ◌<◌, ◌≤◌, length, get_or, set, eqb, ltb}
use Rattle.std.proofs.Common.{arith, get_or-set_same, get_or-set_other, ext_get_or, eqb-true, ltb-true, ltb-false}
use Rattle.std.proofs.Math.ListN.{get_or-eq_default}
use Rattle.std.proofs.Math.Seq.{set_out}
use Rattle.std.proofs.lemmas.Bool.{eqb-false}
use Rattle.words.specs.Pick.{pick, bool}

-- past the end there is 0
pub get_past : (ws : List ℕ) (i : ℕ) → length ws ≤ i → get_or ws i 0 ≡ 0
get_past ws i h = get_or-eq_default ws 0 h

-- what a store shows at each index
pub get_put : (ws : List ℕ) (i v j : ℕ) → get_or (set ws i v) j 0 ≡ pick (eqb j i && ltb i (length ws)) v (get_or ws j 0)
get_put ws i v j = bool (eqb j i)
    (λ e. bool (ltb i (length ws))
    (λ h. rw (e, h, eqb-true j i e) (get_or-set_same ws i v 0 (ltb-true i (length ws) h)))
    (λ h. rw (e, h, set_out ws i v (ltb-false i (length ws) h))))
    (λ e. rw e (get_or-set_other ws i j v 0 (eqb-false j i e)))

-- a store at another index, or past the end, does not show
pub get_other : (ws : List ℕ) (i v j : ℕ) → (j ≡ i → length ws ≤ j) → get_or (set ws i v) j 0 ≡ get_or ws j 0
get_other ws i v j h = bool (eqb j i)
    (λ e. let q = eqb-true j i e in let g = h q in rw (set_out ws i v (omega arith)))
    (λ e. get_or-set_other ws i j v 0 (eqb-false j i e))

-- lists of one length are equal if all their words are
pub words_same : (ws vs : List ℕ) → length ws ≡ length vs → ((i : ℕ) → get_or ws i 0 ≡ get_or vs i 0) → ws ≡ vs
words_same ws vs l e = ext_get_or 0 ws vs l (λ i h. e i)

-- lent words are below 2^64
abbrev pub Small : List ℕ → Type 0
Small ws = (i : ℕ) → get_or ws i 0 < 2 ^ 64
