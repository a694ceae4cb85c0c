-- The state check's tests of the row index and of the items of rows. Each stands with the facts that it is equal to. Assumes nothing.
use Rattle.std.specs.Prelude.{◌≡◌, refl, Bool, true, false, ◌&&◌, List, [], ◌∷◌, ℕ, ◌≤◌, ◌<◌, eqb, ltb, leb}
use Rattle.std.proofs.Common.{arith, eq-eqb, ne_eqb, eqb-true, lt-ltb, ltb-true, le-leb, leb-true}
use Rattle.std.proofs.lemmas.Bool.{eqb-false}
use Rattle.words.specs.Pick.{pick, bool, both, both_is}
use Rattle.layout.specs.declared.Shape.{Shape}
use Rattle.layout.specs.Layout.{Mem, index, rank, item}
use Rattle.layout.specs.Fields.{slot_tag, slot_place, slot_position, item_slot, item_operation, item_moved, item_object, item_flags}
use Rattle.layout.specs.Values.{tag_reserved, tag_transfer_reserved, kind_reservation, kind_claim, operation_move, operation_copy}
use Rattle.representation.specs.Represents.{frame_of, slot_word}

-- ---- several tests at once

abbrev pub tests : List Bool → Bool
tests [] = true
tests (b ∷ bs) = b && tests bs

abbrev pub Passed : List Bool → Type 0
Passed [] = Unit {0}
Passed (b ∷ bs) = (b ≡ true) × Passed bs

pub passed : (bs : List Bool) → tests bs ≡ true → Passed bs
passed [] e = tt
passed (b ∷ bs) e = let d = both b (tests bs) e in (d.0, passed bs d.1)

pub passes : (bs : List Bool) → Passed bs → tests bs ≡ true
passes [] p = refl
passes (b ∷ bs) p = both_is b (tests bs) p.0 (passes bs p.1)

-- ---- the index: "Each place has one rank"

unfoldable pub place_b : Mem → Shape → ℕ → Bool
place_b m sh i = tests (ltb (m (index i)) sh.rows ∷ eqb (m (rank (m (index i)))) i ∷ [])

pub record PlaceOk (m : Mem) (sh : Shape) (i : ℕ) : Type 0 where
  pub below : m (index i) < sh.rows
  pub ranked : m (rank (m (index i))) ≡ i

pub place_is : (m : Mem) (sh : Shape) (i : ℕ) → place_b m sh i ≡ true → PlaceOk m sh i
unfolding place_b
place_is m sh i e = let p = passed (ltb (m (index i)) sh.rows ∷ eqb (m (rank (m (index i)))) i ∷ []) e in
    record { below = ltb-true (m (index i)) sh.rows p.0; ranked = eqb-true (m (rank (m (index i)))) i p.1.0 }

pub place_yes : (m : Mem) (sh : Shape) (i : ℕ) → PlaceOk m sh i → place_b m sh i ≡ true
unfolding place_b
place_yes m sh i p = passes (ltb (m (index i)) sh.rows ∷ eqb (m (rank (m (index i)))) i ∷ [])
    (lt-ltb (m (index i)) sh.rows p.below, (eq-eqb (m (rank (m (index i)))) i p.ranked, tt))

-- ---- items of rows

-- slot k of table b has the tag t, and names item j of the row in place x
unfoldable pub names_b : Mem → ℕ → ℕ → ℕ → ℕ → ℕ → Bool
names_b m b k t x j = tests (ltb 0 (frame_of m b k) ∷ eqb (slot_word m b k slot_tag) t ∷ eqb (slot_word m b k slot_place) x ∷ eqb (slot_word m b k slot_position) j ∷ [])

pub record Names (m : Mem) (b k t x j : ℕ) : Type 0 where
  pub frame : 0 < frame_of m b k
  pub tag : slot_word m b k slot_tag ≡ t
  pub place : slot_word m b k slot_place ≡ x
  pub position : slot_word m b k slot_position ≡ j

pub names_is : (m : Mem) (b k t x j : ℕ) → names_b m b k t x j ≡ true → Names m b k t x j
unfolding names_b
names_is m b k t x j e =
    let p = passed (ltb 0 (frame_of m b k) ∷ eqb (slot_word m b k slot_tag) t ∷ eqb (slot_word m b k slot_place) x ∷ eqb (slot_word m b k slot_position) j ∷ []) e in
    record {
      frame = ltb-true 0 (frame_of m b k) p.0;
      tag = eqb-true (slot_word m b k slot_tag) t p.1.0;
      place = eqb-true (slot_word m b k slot_place) x p.1.1.0;
      position = eqb-true (slot_word m b k slot_position) j p.1.1.1.0;
    }

pub names_yes : (m : Mem) (b k t x j : ℕ) → Names m b k t x j → names_b m b k t x j ≡ true
unfolding names_b
names_yes m b k t x j n =
    passes (ltb 0 (frame_of m b k) ∷ eqb (slot_word m b k slot_tag) t ∷ eqb (slot_word m b k slot_place) x ∷ eqb (slot_word m b k slot_position) j ∷ [])
    (lt-ltb 0 (frame_of m b k) n.frame, (eq-eqb (slot_word m b k slot_tag) t n.tag, (eq-eqb (slot_word m b k slot_place) x n.place, (eq-eqb (slot_word m b k slot_position) j n.position, tt))))

-- the handle of item j: "object below O; flags 0 to 3"
unfoldable pub handle_b : Mem → Shape → ℕ → ℕ → Bool
handle_b m sh x j = tests (ltb (m (item x j item_object)) sh.objects ∷ leb (m (item x j item_flags)) 3 ∷ [])

pub record HandleOk (m : Mem) (sh : Shape) (x j : ℕ) : Type 0 where
  pub object : m (item x j item_object) < sh.objects
  pub flags : m (item x j item_flags) ≤ 3

pub handle_is : (m : Mem) (sh : Shape) (x j : ℕ) → handle_b m sh x j ≡ true → HandleOk m sh x j
unfolding handle_b
handle_is m sh x j e = let p = passed (ltb (m (item x j item_object)) sh.objects ∷ leb (m (item x j item_flags)) 3 ∷ []) e in
    record { object = ltb-true (m (item x j item_object)) sh.objects p.0; flags = leb-true (m (item x j item_flags)) 3 p.1.0 }

pub handle_yes : (m : Mem) (sh : Shape) (x j : ℕ) → HandleOk m sh x j → handle_b m sh x j ≡ true
unfolding handle_b
handle_yes m sh x j h = passes (ltb (m (item x j item_object)) sh.objects ∷ leb (m (item x j item_flags)) 3 ∷ [])
    (lt-ltb (m (item x j item_object)) sh.objects h.object, (le-leb (m (item x j item_flags)) 3 h.flags, tt))

-- item j of a claim of table b: "operation 0 or 1"
unfoldable pub claim_b : Mem → Shape → ℕ → ℕ → ℕ → Bool
claim_b m sh b x j = handle_b m sh x j && pick (eqb (m (item x j item_operation)) operation_move) (names_b m b (m (item x j item_moved)) tag_transfer_reserved x j) (eqb (m (item x j item_operation)) operation_copy)

-- item j of a row that is a w: 1 a reservation, 2 a claim, else a parcel
unfoldable pub item_b : Mem → Shape → ℕ → ℕ → ℕ → ℕ → Bool
item_b m sh w b x j = pick (eqb w kind_reservation) (names_b m b (m (item x j item_slot)) tag_reserved x j) (pick (eqb w kind_claim) (claim_b m sh b x j) (handle_b m sh x j))

pub record ItemOk (m : Mem) (sh : Shape) (w b x j : ℕ) : Type 0 where
  pub reserved : w ≡ kind_reservation → Names m b (m (item x j item_slot)) tag_reserved x j
  pub handle : (w ≡ kind_reservation → ⊥) → HandleOk m sh x j
  pub operation : w ≡ kind_claim → m (item x j item_operation) ≤ operation_copy
  pub moved : w ≡ kind_claim → m (item x j item_operation) ≡ operation_move → Names m b (m (item x j item_moved)) tag_transfer_reserved x j

pub pick_yes : (b x y : Bool) → pick b x y ≡ true → b ≡ true → x ≡ true
pick_yes b x y e d = rw d at e

pub pick_no : (b x y : Bool) → pick b x y ≡ true → b ≡ false → y ≡ true
pick_no b x y e d = rw d at e

pub item_is : (m : Mem) (sh : Shape) (w b x j : ℕ) → item_b m sh w b x j ≡ true → ItemOk m sh w b x j
unfolding item_b claim_b
item_is m sh w b x j e = record {
  reserved = λ d. names_is m b (m (item x j item_slot)) tag_reserved x j (pick_yes (eqb w kind_reservation) (names_b m b (m (item x j item_slot)) tag_reserved x j) _ e (eq-eqb w kind_reservation d));
  handle = λ n. handle_is m sh x j (bool (eqb w kind_claim) (λ q. (claim q).0) (λ q. pick_no (eqb w kind_claim) (claim_b m sh b x j) (handle_b m sh x j) (rest (ne_eqb w kind_reservation n)) q));
  operation = λ d. let q = (claim (eq-eqb w kind_claim d)).1 in bool (eqb (m (item x j item_operation)) operation_move)
      (λ z. omega (arith, eqb-true (m (item x j item_operation)) operation_move z))
      (λ z. omega (arith, eqb-true (m (item x j item_operation)) operation_copy (pick_no (eqb (m (item x j item_operation)) operation_move) (names_b m b (m (item x j item_moved)) tag_transfer_reserved x j) (eqb (m (item x j item_operation)) operation_copy) q z)));
  moved = λ d z. names_is m b (m (item x j item_moved)) tag_transfer_reserved x j
      (pick_yes (eqb (m (item x j item_operation)) operation_move) (names_b m b (m (item x j item_moved)) tag_transfer_reserved x j) (eqb (m (item x j item_operation)) operation_copy) (claim (eq-eqb w kind_claim d)).1 (eq-eqb (m (item x j item_operation)) operation_move z));
}
  where
    rest : eqb w kind_reservation ≡ false → pick (eqb w kind_claim) (claim_b m sh b x j) (handle_b m sh x j) ≡ true
    rest q = pick_no (eqb w kind_reservation) (names_b m b (m (item x j item_slot)) tag_reserved x j) (pick (eqb w kind_claim) (claim_b m sh b x j) (handle_b m sh x j)) e q

    claim : eqb w kind_claim ≡ true
        → (handle_b m sh x j ≡ true) × (pick (eqb (m (item x j item_operation)) operation_move) (names_b m b (m (item x j item_moved)) tag_transfer_reserved x j) (eqb (m (item x j item_operation)) operation_copy) ≡ true)
    claim q = both (handle_b m sh x j) (pick (eqb (m (item x j item_operation)) operation_move) (names_b m b (m (item x j item_moved)) tag_transfer_reserved x j) (eqb (m (item x j item_operation)) operation_copy))
        (pick_yes (eqb w kind_claim) (claim_b m sh b x j) (handle_b m sh x j) (rest (ne_eqb w kind_reservation (λ z. omega (arith, eqb-true w kind_claim q)))) q)

pub item_yes : (m : Mem) (sh : Shape) (w b x j : ℕ) → ItemOk m sh w b x j → item_b m sh w b x j ≡ true
unfolding item_b claim_b
item_yes m sh w b x j i = bool (eqb w kind_reservation)
    (λ e. rw e (names_yes m b (m (item x j item_slot)) tag_reserved x j (i.reserved (eqb-true w kind_reservation e))))
    (λ e. rw e (let h = handle_yes m sh x j (i.handle (eqb-false w kind_reservation e)) in bool (eqb w kind_claim)
    (λ d. rw d (both_is (handle_b m sh x j) _ h (bool (eqb (m (item x j item_operation)) operation_move)
    (λ z. rw z (names_yes m b (m (item x j item_moved)) tag_transfer_reserved x j (i.moved (eqb-true w kind_claim d) (eqb-true (m (item x j item_operation)) operation_move z))))
    (λ z. rw z (eq-eqb (m (item x j item_operation)) operation_copy (omega (arith, i.operation (eqb-true w kind_claim d), eqb-false (m (item x j item_operation)) operation_move z)))))))
    (λ d. rw d h)))
