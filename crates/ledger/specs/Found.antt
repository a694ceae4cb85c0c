-- How often a slot stands in a row of the view, which row an id finds, and what a slot's words say of its mark. Assumes nothing.
use Rattle.std.specs.Prelude.{◌≡◌, refl, Bool, true, false, ◌&&◌, List, ◌∷◌, ℕ, zero, suc, ◌+◌, ◌%◌, ◌≤◌, ◌<◌, eqb, ltb}
use Rattle.std.proofs.Common.{sym, ap, ◌∙◌, arith, ne_eqb, eqb-true, lt-ltb, le-ltb}
use Rattle.std.proofs.Math.Option.{none, some}
use Rattle.std.proofs.lemmas.Bool.{eqb-false}
use Rattle.words.specs.Pick.{bool}
use Rattle.model.specs.Base.{bit, pick, occurs}
use Rattle.model.specs.State.{Entry}
use Rattle.model.specs.Book.{find, moved_of}
use Rattle.invariant.proofs.Marks.{in_row, is_by}
use Rattle.layout.specs.Layout.{Mem, index, row, item, cell}
use Rattle.layout.specs.Fields.{slot_tag, slot_generation, slot_place, slot_position, slot_object, slot_rights, slot_flags, row_id, row_kind, row_table, row_length, item_slot, item_operation, item_moved}
use Rattle.layout.specs.Values.{tag_occupied, operation_move}
use Rattle.layout.specs.Sizes.{page_size}
use Rattle.representation.specs.Represents.{word_in, frame_of, slot_word, tagged, slot_from, slot_in, is_marked}
use Rattle.representation.specs.Told.{tag_of}
use Rattle.ledger.specs.Ledger.{hit_b}
use Rattle.ledger.specs.View.{from, entry_by, item_at, body_by, body_at, rows_from}

-- ---- how many of n numbers from j on pass

abbrev pub tally : (ℕ → Bool) → ℕ → ℕ → ℕ
tally h j zero = 0
tally h j (suc n) = bit (h j) + tally h (suc j) n

pub tally_none : (h : ℕ → Bool) (j n : ℕ) → ((i : ℕ) → j ≤ i → i < j + n → h i ≡ false) → tally h j n ≡ 0
tally_none h j zero f = refl
tally_none h j (suc n) f = omega (arith, ap bit (f j (omega arith) (omega arith)), tally_none h (suc j) n (λ i a b. f i (omega arith) (omega arith)))

pub tally_one : (h : ℕ → Bool) (j n q : ℕ) → j ≤ q → q < j + n → h q ≡ true → ((i : ℕ) → j ≤ i → i < j + n → h i ≡ true → i ≡ q) → tally h j n ≡ 1
tally_one h j zero q lo hi e f = absurd (omega arith)
tally_one h j (suc n) q lo hi e f = bool (eqb j q)
    (λ d. let y = eqb-true j q d in
    omega (arith, ap bit (ap h y ∙ e), tally_none h (suc j) n (λ i a b. bool (h i) (λ g. absurd (omega (arith, f i (omega arith) (omega arith) g))) (λ g. g))))
    (λ d. let y = eqb-false j q d in
    let z : h j ≡ false = bool (h j) (λ g. absurd (y (f j (omega arith) (omega arith) g))) (λ g. g) in
    omega (arith, ap bit z, tally_one h (suc j) n q (omega arith) (omega arith) e (λ i a b. f i (omega arith) (omega arith))))

pub tally_has : (h : ℕ → Bool) (j n q : ℕ) → j ≤ q → q < j + n → h q ≡ true → 1 ≤ tally h j n
tally_has h j zero q lo hi e = absurd (omega arith)
tally_has h j (suc n) q lo hi e = bool (eqb j q)
    (λ d. omega (arith, ap bit (ap h (eqb-true j q d) ∙ e)))
    (λ d. let y = eqb-false j q d in omega (arith, tally_has h (suc j) n q (omega arith) (omega arith) e))

-- of a tally of 1 at most there are no two
pub tally_two : (h : ℕ → Bool) (j n a c : ℕ) → tally h j n ≤ 1 → j ≤ a → a < j + n → j ≤ c → c < j + n → h a ≡ true → h c ≡ true → a ≡ c
tally_two h j zero a c s la ha lc hc ea ec = absurd (omega arith)
tally_two h j (suc n) a c s la ha lc hc ea ec = bool (eqb j a)
    (λ d. bool (eqb j c)
    (λ g. sym (eqb-true j a d) ∙ eqb-true j c g)
    (λ g. let y = eqb-false j c g in absurd (omega (arith, ap bit (ap h (eqb-true j a d) ∙ ea), tally_has h (suc j) n c (omega arith) (omega arith) ec))))
    (λ d. let z = eqb-false j a d in bool (eqb j c)
    (λ g. absurd (omega (arith, ap bit (ap h (eqb-true j c g) ∙ ec), tally_has h (suc j) n a (omega arith) (omega arith) ea)))
    (λ g. let y = eqb-false j c g in tally_two h (suc j) n a c (omega arith) (omega arith) (omega arith) (omega arith) (omega arith) ea ec))

-- ---- slots of rows

pub occurs_from : (k : ℕ) (f : ℕ → ℕ) (j n : ℕ) → occurs k (from f j n) ≡ tally (λ i. eqb k (f i)) j n
occurs_from k f j zero = refl
occurs_from k f j (suc n) = ap (λ (z : ℕ). bit (eqb k (f j)) + z) (occurs_from k f (suc j) n)

moved_from : (m : Mem) (x k j n : ℕ) → occurs k (moved_of (from (item_at m x) j n)) ≡ tally (λ i. eqb (m (item x i item_operation)) operation_move && eqb k (m (item x i item_moved))) j n
moved_from m x k j zero = refl
moved_from m x k j (suc n) = go (m (item x j item_operation)) (from (item_at m x) (suc j) n) _ (moved_from m x k (suc j) n)
  where
    go : (o : ℕ) (es : List Entry) (t : ℕ) → occurs k (moved_of es) ≡ t → occurs k (moved_of (entry_by m x j o ∷ es)) ≡ bit (eqb o 0 && eqb k (m (item x j item_moved))) + t
    go zero es t e = ap (λ (z : ℕ). bit (eqb k (m (item x j item_moved))) + z) e
    go (suc o) es t e = rw (ne_eqb (suc o) 0 (λ z. omega arith)) (omega (arith, e))

-- how often slot k of table b stands in the row in place x, of the kind t
abbrev pub hits : Mem → Bool → ℕ → ℕ → ℕ
hits m t x k = tally (λ j. hit_b m (tag_of t) x j k) 0 (m (row x row_length))

pub in_body : (m : Mem) (t : Bool) (b k x : ℕ) → in_row t b k (some (body_at m x)) ≡ pick (eqb (m (row x row_kind)) (tag_of t) && eqb b (m (row x row_table))) (hits m t x k) 0
unfolding hit_b
in_body m t b k x = go t (m (row x row_kind))
  where
    go : (u : Bool) (w : ℕ) → in_row u b k (some (body_by m x w)) ≡ pick (eqb w (tag_of u) && eqb b (m (row x row_table))) (hits m u x k) 0
    go true zero = refl
    go true (suc zero) = ap (λ (z : ℕ). pick (eqb b (m (row x row_table))) z 0) (occurs_from k (λ j. m (item x j item_slot)) 0 (m (row x row_length)))
    go true (suc (suc zero)) = refl
    go true (suc (suc (suc zero))) = refl
    go true (suc (suc (suc (suc zero)))) = refl
    go true (suc (suc (suc (suc (suc w))))) = rw (ne_eqb (suc (suc (suc (suc (suc w))))) 1 (λ z. omega arith))
    go false zero = refl
    go false (suc zero) = refl
    go false (suc (suc zero)) = ap (λ (z : ℕ). pick (eqb b (m (row x row_table))) z 0) (moved_from m x k 0 (m (row x row_length)))
    go false (suc (suc (suc zero))) = refl
    go false (suc (suc (suc (suc zero)))) = refl
    go false (suc (suc (suc (suc (suc w))))) = rw (ne_eqb (suc (suc (suc (suc (suc w))))) 2 (λ z. omega arith))

-- ---- the row that an id finds

-- of n rows from rank i on: found at a rank, or at none
pub record At (m : Mem) (i n id : ℕ) (r : ℕ) : Type 0 where
  pub from : i ≤ r
  pub below : r < i + n
  pub named : m (row (m (index r)) row_id) ≡ id
  pub found : find id (rows_from m i n) ≡ some (body_at m (m (index r)))

pub find_split : {C : Type 0} (m : Mem) (i n id : ℕ) → ((r : ℕ) → At m i n id r → C)
    → (find id (rows_from m i n) ≡ none → ((r : ℕ) → i ≤ r → r < i + n → m (row (m (index r)) row_id) ≡ id → ⊥) → C) → C
find_split m i zero id f g = g refl (λ r a b e. omega arith)
find_split m i (suc n) id f g = bool (eqb (m (row (m (index i)) row_id)) id)
    (λ e. f i (record { from = omega arith; below = omega arith; named = eqb-true (m (row (m (index i)) row_id)) id e; found = rw e }))
    (λ e. find_split m (suc i) n id
    (λ r a. f r (record { from = omega (arith, a.from); below = omega (arith, a.below); named = a.named; found = rw e a.found }))
    (λ d h. g (rw e d) (λ r lo hi q. bool (eqb r i)
    (λ z. eqb-false (m (row (m (index i)) row_id)) id e (rw (← eqb-true r i z) q))
    (λ z. let y = eqb-false r i z in h r (omega arith) (omega arith) q))))

-- ---- a slot's mark, by its words

pub is_by_law : (m : Mem) (t : Bool) (i b k : ℕ) → is_by t i (slot_in m b k) ≡ (eqb (slot_word m b k slot_tag) (tag_of t) && eqb i (m (row (slot_word m b k slot_place) row_id)))
is_by_law m t i b k = go t (frame_of m b k)
  where
    words : (u : Bool) (w g x y z : ℕ) → is_by u i (tagged m w g x y z) ≡ (eqb w (tag_of u) && eqb i (m (row x row_id)))
    words true zero g x y z = refl
    words true (suc zero) g x y z = refl
    words true (suc (suc zero)) g x y z = refl
    words true (suc (suc (suc zero))) g x y z = refl
    words true (suc (suc (suc (suc w)))) g x y z = rw (ne_eqb (suc (suc (suc (suc w)))) 1 (λ q. omega arith))
    words false zero g x y z = refl
    words false (suc zero) g x y z = refl
    words false (suc (suc zero)) g x y z = refl
    words false (suc (suc (suc zero))) g x y z = refl
    words false (suc (suc (suc (suc w)))) g x y z = rw (ne_eqb (suc (suc (suc (suc w)))) 2 (λ q. omega arith))

    go : (u : Bool) (l : ℕ) → is_by u i (slot_from m l (k % page_size)) ≡ (eqb (word_in m l (k % page_size) slot_tag) (tag_of u) && eqb i (m (row (word_in m l (k % page_size) slot_place) row_id)))
    go true zero = refl
    go false zero = refl
    go u (suc fr) = words u (m (cell fr (k % page_size) slot_tag)) (m (cell fr (k % page_size) slot_generation)) (m (cell fr (k % page_size) slot_place)) (m (cell fr (k % page_size) slot_position)) (m (cell fr (k % page_size) slot_flags))

-- a marked slot is tagged Reserved or TransferReserved
pub marked_is : (m : Mem) (b k : ℕ) → is_marked (slot_in m b k) ≡ (ltb 0 (slot_word m b k slot_tag) && ltb (slot_word m b k slot_tag) tag_occupied)
marked_is m b k = go (frame_of m b k)
  where
    words : (w g x y z : ℕ) → is_marked (tagged m w g x y z) ≡ (ltb 0 w && ltb w tag_occupied)
    words zero g x y z = refl
    words (suc zero) g x y z = refl
    words (suc (suc zero)) g x y z = refl
    words (suc (suc (suc zero))) g x y z = refl
    words (suc (suc (suc (suc w)))) g x y z = rw (le-ltb (suc (suc (suc (suc w)))) 3 (omega arith), lt-ltb 0 (suc (suc (suc (suc w)))) (omega arith))

    go : (l : ℕ) → is_marked (slot_from m l (k % page_size)) ≡ (ltb 0 (word_in m l (k % page_size) slot_tag) && ltb (word_in m l (k % page_size) slot_tag) tag_occupied)
    go zero = refl
    go (suc fr) = words (m (cell fr (k % page_size) slot_tag)) (m (cell fr (k % page_size) slot_generation)) (m (cell fr (k % page_size) slot_object)) (m (cell fr (k % page_size) slot_rights)) (m (cell fr (k % page_size) slot_flags))
