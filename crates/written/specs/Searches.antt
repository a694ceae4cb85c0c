-- Searches among numbers and in lists, and the links of an order, each with what it finds. Assumes nothing.
use Rattle.std.specs.Prelude.{◌≡◌, refl, Bool, true, false, List, [], ◌∷◌, ℕ, zero, suc, ◌+◌, ◌≤◌, ◌<◌, length, eqb}
use Rattle.std.proofs.Common.{sym, ap, ◌∙◌, arith, eq-eqb, ne_eqb, eqb-true}
use Rattle.std.proofs.Math.Option.{Option, none, some}
use Rattle.words.specs.Pick.{pick, bool, clash}
use Rattle.model.specs.Base.{nth, occurs}
use Rattle.model.specs.State.{Handle, Entry, Entry.moved, Entry.copied, Body, Row}
use Rattle.model.specs.Book.{find, moved_of}
use Rattle.model.specs.WellFormed.{frames_in, plans_with}
use Rattle.model.proofs.Counting.{bit_same}
use Rattle.representation.specs.Represents.{Chain, Linked}

-- ---- among the numbers below n

-- one that passes a test, if any does: the highest
abbrev pub seek : ℕ → (ℕ → Bool) → Option ℕ
seek zero p = none
seek (suc n) p = pick (p n) (some n) (seek n p)

-- the only one that passes is found
pub seek_is : (n : ℕ) (p : ℕ → Bool) (k : ℕ) → k < n → p k ≡ true → ((j : ℕ) → j < n → p j ≡ true → j ≡ k) → seek n p ≡ some k
seek_is zero p k h y u = absurd (omega arith)
seek_is (suc n) p k h y u = bool (p n)
    (λ e. rw e (ap some (u n (omega arith) e)))
    (λ e. let d : k ≡ n → ⊥ = λ q. clash (ap p (sym q) ∙ y) e in rw e (seek_is n p k (omega arith) y (λ j l. u j (omega arith))))

pub seek_none : (n : ℕ) (p : ℕ → Bool) → ((j : ℕ) → j < n → p j ≡ false) → seek n p ≡ none
seek_none zero p u = refl
seek_none (suc n) p u = rw (u n (omega arith)) (seek_none n p (λ j l. u j (omega arith)))

-- what is found is below n
pub seek_below : (n : ℕ) (p : ℕ → Bool) (k : ℕ) → seek n p ≡ some k → k < n
seek_below zero p k e = let z : ◌≡◌ {A = ℕ} 0 1 = cc in absurd (omega arith)
seek_below (suc n) p k e = bool (p n)
    (λ q. let d : some n ≡ some k = rw q at e in let i : n ≡ k = cc in omega arith)
    (λ q. let d : seek n p ≡ some k = rw q at e in omega (arith, seek_below n p k d))

-- ---- an order's links: 0 for none, else one more than the number

abbrev pub first_of : List ℕ → ℕ
first_of [] = 0
first_of (x ∷ l) = suc x

-- the link to the one after k
abbrev pub after : ℕ → List ℕ → ℕ
after k [] = 0
after k (x ∷ l) = pick (eqb k x) (first_of l) (after k l)

-- the link to the one before k, where p stands before the first
abbrev pub before : ℕ → ℕ → List ℕ → ℕ
before k p [] = 0
before k p (x ∷ l) = pick (eqb k x) p (before k (suc x) l)

-- a list without repetition is linked by them
pub chained : (next prev : ℕ → ℕ) (p : ℕ) (l : List ℕ) → ((x : ℕ) → 0 < occurs x l → next x ≡ after x l) → ((x : ℕ) → 0 < occurs x l → prev x ≡ before x p l)
    → ((x : ℕ) → occurs x l ≤ 1) → Chain next prev (first_of l) p l
chained next prev p [] n b u = refl
chained next prev p (x ∷ l) n b u =
    let here : 0 < occurs x (x ∷ l) = omega (arith, bit_same x x refl) in
    let s : eqb x x ≡ true = eq-eqb x x refl in
    let f : next x ≡ first_of l = rw s at (n x here) in
    let g : prev x ≡ p = rw s at (b x here) in
    let other : (y : ℕ) → 0 < occurs y l → eqb y x ≡ false = λ y h. ne_eqb y x (λ q. omega (arith, u x, bit_same x x refl, ap (λ (z : ℕ). occurs z l) q)) in (
      refl,
      g,
      rw f (chained next prev (suc x) l
          (λ y h. rw (other y h) at (n y (omega arith)))
          (λ y h. rw (other y h) at (b y (omega arith)))
          (λ y. omega (arith, u y))),
    )

-- forward only
pub linked : (next prev : ℕ → ℕ) (h p : ℕ) (l : List ℕ) → Chain next prev h p l → Linked next h l
linked next prev h p [] c = c
linked next prev h p (x ∷ l) c = (c.0, linked next prev (next x) (suc x) l c.2)

-- a link is 0 or leads to a member
pub first_member : (l : List ℕ) (n : ℕ) → ((x : ℕ) → 0 < occurs x l → x < n) → first_of l ≤ n
first_member [] n h = omega arith
first_member (x ∷ l) n h = h x (omega (arith, bit_same x x refl))

pub after_member : (k : ℕ) (l : List ℕ) (n : ℕ) → ((x : ℕ) → 0 < occurs x l → x < n) → after k l ≤ n
after_member k [] n h = omega arith
after_member k (x ∷ l) n h =
    let t : (y : ℕ) → 0 < occurs y l → y < n = λ y i. h y (omega arith) in bool (eqb k x)
    (λ e. rw e (first_member l n t))
    (λ e. rw e (after_member k l n t))

pub before_member : (k p : ℕ) (l : List ℕ) (n : ℕ) → p ≤ n → ((x : ℕ) → 0 < occurs x l → x < n) → before k p l ≤ n
before_member k p [] n q h = omega arith
before_member k p (x ∷ l) n q h =
    let t : (y : ℕ) → 0 < occurs y l → y < n = λ y i. h y (omega arith) in bool (eqb k x)
    (λ e. rw e q)
    (λ e. rw e (before_member k (suc x) l n (h x (omega (arith, bit_same x x refl))) t))

-- ---- places in lists

-- the place of a slot among slots
abbrev pub place_of : ℕ → List ℕ → ℕ
place_of k [] = 0
place_of k (x ∷ l) = pick (eqb k x) 0 (suc (place_of k l))

pub place_found : (k : ℕ) (l : List ℕ) → 0 < occurs k l → (place_of k l < length l) × (nth l (place_of k l) ≡ some k)
place_found k [] h = absurd (omega arith)
place_found k (x ∷ l) h = bool (eqb k x)
    (λ e. let q : x ≡ k = sym (eqb-true k x e) in rw e (omega arith, ap some q))
    (λ e. let r = place_found k l (let z : 0 < 0 + occurs k l = rw e at h in omega arith) in rw e (omega (arith, r.0), r.1))

-- the place of a moved slot among a claim's items
abbrev pub moved_at : ℕ → List Entry → ℕ
moved_at k [] = 0
moved_at k (moved x h r ∷ es) = pick (eqb k x) 0 (suc (moved_at k es))
moved_at k (copied h ∷ es) = suc (moved_at k es)

pub moved_found : (k : ℕ) (es : List Entry) → 0 < occurs k (moved_of es) → (moved_at k es < length es) × (h : Handle) × (r : ℕ) × (nth es (moved_at k es) ≡ some (moved k h r))
moved_found k [] h = absurd (omega arith)
moved_found k (moved x g r ∷ es) h = bool (eqb k x)
    (λ e. let q : x ≡ k = sym (eqb-true k x e) in rw e (omega arith, g, r, ap (λ (y : ℕ). some (moved y g r)) q))
    (λ e. let f = moved_found k es (let z : 0 < 0 + occurs k (moved_of es) = rw e at h in omega arith) in rw e (omega (arith, f.0), f.1, f.2, f.3))
moved_found k (copied g ∷ es) h = let f = moved_found k es h in (omega (arith, f.0), f.1, f.2, f.3)

-- the rank of the row of an id
abbrev pub rank_of : ℕ → List Row → ℕ
rank_of i [] = 0
rank_of i (r ∷ rs) = pick (eqb r.id i) 0 (suc (rank_of i rs))

pub rank_found : (i : ℕ) (rs : List Row) (d : Body) → find i rs ≡ some d → (rank_of i rs < length rs) × (nth rs (rank_of i rs) ≡ some (record { id = i; body = d }))
rank_found i [] d e = let z : ◌≡◌ {A = ℕ} 0 1 = cc in absurd (omega arith)
rank_found i (r ∷ rs) d e = bool (eqb r.id i)
    (λ q. let p : some r.body ≡ some d = rw q at e in let b : r.body ≡ d = cc in let j : r.id ≡ i = eqb-true r.id i q in
    rw q (omega arith, ap some (λ k. record { id = j k; body = b k })))
    (λ q. let f = rank_found i rs d (rw q at e) in rw q (omega (arith, f.0), f.1))

-- no rank is past the rows
pub rank_most : (i : ℕ) (rs : List Row) → rank_of i rs ≤ length rs
rank_most i [] = omega arith
rank_most i (r ∷ rs) = bool (eqb r.id i) (λ e. rw e (omega arith)) (λ e. rw e (omega (arith, rank_most i rs)))

-- the rank of the row that holds a frame
abbrev pub holder_of : ℕ → List Row → ℕ
holder_of f [] = 0
holder_of f (r ∷ rs) = pick (eqb (occurs f (frames_in r.body)) 0) (suc (holder_of f rs)) 0

-- the only one is found
pub holder_is : (f : ℕ) (rs : List Row) (k : ℕ) (r : Row) → nth rs k ≡ some r → 0 < occurs f (frames_in r.body) → plans_with rs f ≤ 1 → (holder_of f rs ≡ k) × (plans_with rs f ≡ 1)
holder_is f [] k r e h u = let z : ◌≡◌ {A = ℕ} 0 1 = cc in absurd (omega arith)
holder_is f (x ∷ rs) zero r e h u =
    let q : x ≡ r = cc in let i : 0 < occurs f (frames_in x.body) = rw q h in
    (rw (ne_eqb (occurs f (frames_in x.body)) 0 (λ z. omega arith)), omega arith)
holder_is f (x ∷ rs) (suc k) r e h u =
    let d = holder_is f rs k r e h (omega arith) in
    let z : occurs f (frames_in x.body) ≡ 0 = omega (arith, d.1) in
    (rw (eq-eqb (occurs f (frames_in x.body)) 0 z) (ap suc d.0), omega (arith, d.1))

pub holder_most : (f : ℕ) (rs : List Row) → holder_of f rs ≤ length rs
holder_most f [] = omega arith
holder_most f (r ∷ rs) = bool (eqb (occurs f (frames_in r.body)) 0) (λ e. rw e (omega (arith, holder_most f rs))) (λ e. rw e (omega arith))

pub place_most : (k : ℕ) (l : List ℕ) → place_of k l ≤ length l
place_most k [] = omega arith
place_most k (x ∷ l) = bool (eqb k x) (λ e. rw e (omega arith)) (λ e. rw e (omega (arith, place_most k l)))

pub moved_most : (k : ℕ) (es : List Entry) → moved_at k es ≤ length es
moved_most k [] = omega arith
moved_most k (moved x h r ∷ es) = bool (eqb k x) (λ e. rw e (omega arith)) (λ e. rw e (omega (arith, moved_most k es)))
moved_most k (copied h ∷ es) = omega (arith, moved_most k es)
