-- The words of an answer: 72 zeros, and then those that it uses.
-- Assumes nothing.
use Rattle.std.specs.Prelude.{Bool, true, false, ◌-◌, ◌<◌, min, ltb}
use Rattle.std.proofs.Common.{ap₂, ltb-true, ltb-false}
use Rattle.std.proofs.Math.Seq.{set_out}
use Rattle.std.proofs.lemmas.Slice.{put_mid-paste}
use borrow.Rule.Slice.PartMut.{put_mid}
use Rattle.std.proofs.lemmas.List.{length-set}
use Rattle.std.specs.Prelude.{◌≡◌, refl, List, [], ◌∷◌, ◌++◌, ℕ, zero, suc, ◌+◌, ◌≤◌, length, take, drop, set, replicate}
use Rattle.std.proofs.Common.{sym, ap, ◌∙◌, append_assoc, arith, add-zero, add-suc, length-append, length-take-le, take_all, take_at}
use Rattle.std.proofs.lemmas.List.{length-replicate, get_or-replicate, drop-append-le}
use Rattle.std.proofs.lemmas.List.Edits.{sets, sets-eq}
use Rattle.std.proofs.Math.Seq.{paste, paste-zero, paste-suc, drop-append-add}
use Rattle.format.specs.Format.{answer_words}
use Rattle.model.specs.Words.{padded}

-- k words of 0 from a place on
unfoldable pub cleared : List ℕ → ℕ → ℕ → List ℕ
cleared ws base zero = ws
cleared ws base (suc k) = set (cleared ws base k) (base + k) 0

-- words from word i of an answer on, one by one
unfoldable pub puts : List ℕ → ℕ → ℕ → List ℕ → List ℕ
puts ws base i [] = ws
puts ws base i (v ∷ vs) = puts (set ws (base + i) v) base (suc i) vs

cleared_is : (n : ℕ) (ws : List ℕ) (base k : ℕ) → base + n ≤ length ws → k ≤ n → cleared ws base k ≡ paste ws base (replicate n 0) k
unfolding cleared
cleared_is n ws base zero h l = paste-zero ws base (replicate n 0)
cleared_is n ws base (suc k) h l =
    ap (λ (x : List ℕ). set x (base + k) 0) (cleared_is n ws base k h (omega arith))
    ∙ ap (set (paste ws base (replicate n 0) k) (base + k)) (sym (get_or-replicate n k 0 0 l))
    ∙ paste-suc ws base (replicate n 0) k 0 (omega arith) (omega (arith, length-replicate n (zero)))

length-cleared : (ws : List ℕ) (base k : ℕ) → length (cleared ws base k) ≡ length ws
unfolding cleared
length-cleared ws base zero = refl
length-cleared ws base (suc k) = length-set (cleared ws base k) (base + k) 0 ∙ length-cleared ws base k

-- of the words from `base` on those are cleared that are there: k from s on
within : (ws : List ℕ) (base n s k : ℕ) → s ≡ min base (length ws) → k ≡ min n (length ws - s) → cleared ws base n ≡ cleared ws s k
unfolding cleared
within ws base zero s k p q = let z : 0 ≡ k = omega arith in ap (cleared ws s) z
within ws base (suc n) s k p q = go (ltb (base + n) (length ws)) refl (λ m e. within ws base n s m p e)
  where
    go : (t : Bool) → ltb (base + n) (length ws) ≡ t → ((m : ℕ) → m ≡ min n (length ws - s) → cleared ws base n ≡ cleared ws s m) → set (cleared ws base n) (base + n) 0 ≡ cleared ws s k
    go true e ih =
        let l : base + n < length ws = ltb-true (base + n) (length ws) e in
        let a : base ≡ s = omega arith in
        let b : suc n ≡ k = omega arith in
        ap₂ (λ (x y : ℕ). cleared ws x y) a b
    go false e ih =
        let l : length ws ≤ base + n = ltb-false (base + n) (length ws) e in
        set_out (cleared ws base n) (base + n) 0 (omega (arith, length-cleared ws base n)) ∙ ih k (omega arith)

-- so clearing them is a fill of the part of the list that has them
pub fill_is : (ws zs : List ℕ) (base n s k : ℕ) → s ≡ min base (length ws) → k ≡ min n (length ws - s) → zs ≡ replicate k 0 → put_mid s k ws zs ≡ cleared ws base n
fill_is ws zs base n s k p q z =
    put_mid-paste s k ws zs (replicate k 0) k z refl (sym (length-replicate k zero))
    ∙ sym (cleared_is k ws s k (omega arith) (omega arith)) ∙ sym (within ws base n s k p q)

-- past the end there are none
pub cleared_out : (ws : List ℕ) (base n : ℕ) → length ws ≤ base → ws ≡ cleared ws base n
unfolding cleared
cleared_out ws base n h = sym (within ws base n (length ws) 0 (omega arith) (omega arith))

puts_sets : (vs ws : List ℕ) (base i : ℕ) → puts ws base i vs ≡ sets ws (base + i) vs
unfolding puts
puts_sets [] ws base i = refl
puts_sets (v ∷ vs) ws base i = puts_sets vs (set ws (base + i) v) base (suc i) ∙ ap (λ (k : ℕ). sets (set ws (base + i) v) k vs) (add-suc base i)

padded_is : (n : ℕ) (vs : List ℕ) → length vs ≤ n → padded n vs ≡ vs ++ drop (length vs) (replicate n 0)
padded_is zero [] h = refl
padded_is zero (v ∷ vs) h = absurd (omega arith)
padded_is (suc n) [] h = ap (λ (l : List ℕ). 0 ∷ l) (padded_is n [] (omega arith))
padded_is (suc n) (v ∷ vs) h = ap (λ (l : List ℕ). v ∷ l) (padded_is n vs (omega arith))

filled : (n : ℕ) (ws : List ℕ) (base : ℕ) (vs : List ℕ) → base + n ≤ length ws → length vs ≤ n
    → puts (cleared ws base n) base 0 vs ≡ take base ws ++ (padded n vs ++ drop (base + n) ws)
filled n ws base vs h l =
    let zs : List ℕ = replicate n 0 in
    let front : List ℕ = take base ws in
    let rest : List ℕ = drop (base + n) ws in
    let lf : length front ≡ base = length-take-le base ws (omega arith) in
    let lz : length zs ≡ n = length-replicate n zero in
    let c : cleared ws base n ≡ front ++ (zs ++ rest) =
    cleared_is n ws base n h (omega arith) ∙ ap (λ (x : List ℕ). (front ++ x) ++ rest) (take_all n zs (omega arith)) ∙ append_assoc front zs rest in
    let lw : length (front ++ (zs ++ rest)) ≡ base + (n + length rest) = length-append front (zs ++ rest) ∙ omega (arith, length-append zs rest) in
    puts_sets vs (cleared ws base n) base 0
    ∙ ap (λ (k : ℕ). sets (cleared ws base n) k vs) (add-zero base)
    ∙ ap (λ (x : List ℕ). sets x base vs) c
    ∙ sets-eq vs (front ++ (zs ++ rest)) base (omega (arith, lw))
    ∙ ap (λ (x : List ℕ). (x ++ vs) ++ drop (base + length vs) (front ++ (zs ++ rest))) (take_at front (zs ++ rest) base lf)
    ∙ ap (λ (x : List ℕ). (front ++ vs) ++ x)
    (ap (λ (k : ℕ). drop (k + length vs) (front ++ (zs ++ rest))) (sym lf) ∙ drop-append-add front (zs ++ rest) (length vs) ∙ drop-append-le (length vs) zs rest (omega arith))
    ∙ append_assoc front vs (drop (length vs) zs ++ rest)
    ∙ ap (λ (x : List ℕ). front ++ x) (sym (append_assoc vs (drop (length vs) zs) rest) ∙ ap (λ (x : List ℕ). x ++ rest) (sym (padded_is n vs l)))

-- clearing an answer and putting its words gives the model's 72 words, and leaves all others
pub answer_is : (ws : List ℕ) (base : ℕ) (vs : List ℕ) → base + answer_words ≤ length ws → length vs ≤ answer_words
    → puts (cleared ws base answer_words) base 0 vs ≡ take base ws ++ (padded answer_words vs ++ drop (base + answer_words) ws)
answer_is ws base vs h l = filled answer_words ws base vs h l
