-- The slots of a row and the marks that name its place. Assumes nothing.
use Rattle.std.specs.Prelude.{◌≡◌, refl, Bool, true, false, List, [], ◌∷◌, ℕ, zero, suc, ◌-◌, ◌%◌, ◌≤◌, ◌<◌}
use Rattle.std.proofs.Common.{sym, ap, ◌∙◌, arith, eqb-true, eq-eqb}
use Rattle.std.proofs.Math.Option.{some}
use Rattle.words.specs.Pick.{clash}
use Rattle.model.specs.Base.{bit, nth, occurs}
use Rattle.model.specs.State.{Handle, Slot, Slot.absent, Slot.vacant, Slot.reserved, Slot.transfer_reserved, Slot.occupied, Entry, Entry.moved, Entry.copied, Body, Body.reservation, Body.claim, Body.parcel, Body.plan, StorageSnapshot, State}
use Rattle.model.specs.Book.{moved_of}
use Rattle.model.specs.WellFormed.{Marks, is_reserved_by}
use Rattle.model.proofs.Tests.{nth_some, some_same}
use Rattle.model.proofs.Counting.{nth_occurs}
use Rattle.invariant.proofs.Marks.{is_by, in_row, Marked, keys_reservation, owns, both_marks}
use Rattle.layout.specs.declared.Shape.{Shape}
use Rattle.layout.specs.Layout.{Mem, cell, rank, row, item}
use Rattle.layout.specs.Fields.{slot_tag, slot_generation, slot_place, slot_position, slot_flags, row_id, row_table, row_length, item_slot, item_operation, item_moved}
use Rattle.layout.specs.Values.{tag_reserved, operation_move}
use Rattle.layout.specs.Sizes.{page_size}
use Rattle.representation.specs.Represents.{word_in, frame_of, slot_word, tagged, slot_from, is_marked, EntryIs, Represents}
use Rattle.representation.specs.Told.{tag_of}
use Rattle.storage.specs.Order.{occurs_head}
use Rattle.storage.specs.Reps.{Names}
use Rattle.book.specs.Lists.{nothing, nth_below, nth_once, ids_apart}
use Rattle.book.specs.Places.{ranked, rank_one, row_of, item_of}
use Rattle.book.specs.Find.{Fits, RowAt, indexed, at_find}

-- ---- a marked slot by its words: tag 1 is Reserved, 2 TransferReserved, and the id is that of the place it names

marked_from : (m : Mem) (fr j : ℕ) → is_marked (slot_from m fr j) ≡ true
    → (t : Bool) × (word_in m fr j slot_tag ≡ tag_of t) × (is_by t (m (row (word_in m fr j slot_place) row_id)) (slot_from m fr j) ≡ true)
marked_from m zero j e = clash e refl
marked_from m (suc fr) j e = go (m (cell fr j slot_tag)) (m (cell fr j slot_generation)) (m (cell fr j slot_place)) (m (cell fr j slot_position)) (m (cell fr j slot_flags)) e
  where
    go : (a g x y w : ℕ) → is_marked (tagged m a g x y w) ≡ true → (t : Bool) × (a ≡ tag_of t) × (is_by t (m (row x row_id)) (tagged m a g x y w) ≡ true)
    go zero g x y w e = clash e refl
    go (suc zero) g x y w e = (true, refl, eq-eqb (m (row x row_id)) (m (row x row_id)) refl)
    go (suc (suc zero)) g x y w e = (false, refl, eq-eqb (m (row x row_id)) (m (row x row_id)) refl)
    go (suc (suc (suc zero))) g x y w e = clash e refl
    go (suc (suc (suc (suc a)))) g x y w e = clash e refl

by_marked : (t : Bool) (i : ℕ) (x : Slot) → is_by t i x ≡ true → is_marked x ≡ true
by_marked true i absent e = e
by_marked true i (vacant g) e = e
by_marked true i (reserved g j) e = refl
by_marked true i (transfer_reserved g j) e = refl
by_marked true i (occupied g h) e = e
by_marked false i absent e = e
by_marked false i (vacant g) e = e
by_marked false i (reserved g j) e = refl
by_marked false i (transfer_reserved g j) e = refl
by_marked false i (occupied g h) e = e

-- one mark names one id, in one way
by_one : (t u : Bool) (i j : ℕ) (x : Slot) → is_by t i x ≡ true → is_by u j x ≡ true → (i ≡ j) × (t ≡ u)
by_one true true i j absent d e = clash e refl
by_one true true i j (vacant g) d e = clash e refl
by_one true true i j (reserved g k) d e = (eqb-true i k d ∙ sym (eqb-true j k e), refl)
by_one true true i j (transfer_reserved g k) d e = clash e refl
by_one true true i j (occupied g h) d e = clash e refl
by_one true false i j absent d e = clash e refl
by_one true false i j (vacant g) d e = clash e refl
by_one true false i j (reserved g k) d e = clash e refl
by_one true false i j (transfer_reserved g k) d e = clash d refl
by_one true false i j (occupied g h) d e = clash e refl
by_one false true i j absent d e = clash e refl
by_one false true i j (vacant g) d e = clash e refl
by_one false true i j (reserved g k) d e = clash d refl
by_one false true i j (transfer_reserved g k) d e = clash e refl
by_one false true i j (occupied g h) d e = clash e refl
by_one false false i j absent d e = clash e refl
by_one false false i j (vacant g) d e = clash e refl
by_one false false i j (reserved g k) d e = clash e refl
by_one false false i j (transfer_reserved g k) d e = (eqb-true i k d ∙ sym (eqb-true j k e), refl)
by_one false false i j (occupied g h) d e = clash e refl

-- a marked slot that names place x is of table b, and P says what slot it is and in what position
abbrev pub NamedBy : Mem → State → ℕ → ℕ → (ℕ → ℕ → Type 0) → Type 0
NamedBy m s x b P = (d k : ℕ) → d < s.table_count → is_marked ((s.tables d).slots k) ≡ true → slot_word m d k slot_place ≡ x → (d ≡ b) × P k (slot_word m d k slot_position)

-- no marked slot names place x
abbrev pub Unnamed : Mem → State → ℕ → Type 0
Unnamed m s x = (d k : ℕ) → d < s.table_count → is_marked ((s.tables d).slots k) ≡ true → slot_word m d k slot_place ≡ x → ⊥

-- none, once the slots of the row are marked no longer
pub unnamed : (m : Mem) (s : State) (x b : ℕ) (P : ℕ → ℕ → Type 0) → NamedBy m s x b P → ((k j : ℕ) → P k j → is_marked ((s.tables b).slots k) ≡ false) → Unnamed m s x
unnamed m s x b P n free d k l mk e = let p = n d k l mk e in clash mk (ap (λ (c : ℕ). is_marked ((s.tables c).slots k)) p.0 ∙ free k (slot_word m d k slot_position) p.1)

module _ (sh : Shape) (m : Mem) (s : State) (r : Represents sh m s) where
  slot_mark : (d k : ℕ) → d < s.table_count → is_marked ((s.tables d).slots k) ≡ true
      → (t : Bool) × (slot_word m d k slot_tag ≡ tag_of t) × (is_by t (m (row (slot_word m d k slot_place) row_id)) ((s.tables d).slots k) ≡ true)
  slot_mark d k l mk = let e = (r.tables d l).slots k in
      let p = marked_from m (frame_of m d k) (k % page_size) (ap is_marked e ∙ mk) in
      (p.0, p.1, sym (ap (is_by p.0 (m (row (slot_word m d k slot_place) row_id))) e) ∙ p.2)

  module _ (f : Fits s) (w : Marked s.tables s.book.rows) (x i : ℕ) (y : Body) (a : RowAt m s x i y) where
    -- a mark that names place x is the row's
    its : (d k : ℕ) → d < s.table_count → is_marked ((s.tables d).slots k) ≡ true → slot_word m d k slot_place ≡ x → (t : Bool) × (slot_word m d k slot_tag ≡ tag_of t) × (in_row t d k (some y) ≡ 1)
    its d k l mk e = let p = slot_mark d k l mk in
        let q : m (row (slot_word m d k slot_place) row_id) ≡ i = ap (λ (z : ℕ). m (row z row_id)) e ∙ a.id in
        let by : is_by p.0 i ((s.tables d).slots k) ≡ true = rw q at p.2 in
        (p.0, p.1, ap (in_row p.0 d k) (sym (at_find sh m s r f x i y a)) ∙ w p.0 i d k ∙ ap bit by)

    -- and a mark of the row names place x
    names : (t : Bool) (d k : ℕ) → d < s.table_count → is_by t i ((s.tables d).slots k) ≡ true → (slot_word m d k slot_tag ≡ tag_of t) × (slot_word m d k slot_place ≡ x)
    names t d k l by =
        let mk = by_marked t i ((s.tables d).slots k) by in
        let p = slot_mark d k l mk in
        let o = by_one t p.0 i (m (row (slot_word m d k slot_place) row_id)) ((s.tables d).slots k) by p.2 in
        let c = r.book.marks d k l mk in
        let g = ranked m s.book.capacity (indexed sh m s r) (slot_word m d k slot_place) c.0 in
        let q = nth_some s.book.rows (m (rank (slot_word m d k slot_place))) c.1 in
        let v = row_of m s.book.rows r.book.rows (m (rank (slot_word m d k slot_place))) q.0 q.1 in
        let id : q.0.id ≡ i = sym v.0 ∙ ap (λ (u : ℕ). m (row u row_id)) g.1 ∙ sym o.0 in
        let same : m (rank (slot_word m d k slot_place)) ≡ m (rank x) = ids_apart 1 s.book.next s.book.rows (m (rank (slot_word m d k slot_place))) (m (rank x)) q.0 (record { id = i; body = y }) f.rise q.1 a.listed id in
        (p.1 ∙ sym (ap tag_of o.1), rank_one m s.book.capacity (indexed sh m s r) (slot_word m d k slot_place) x c.0 a.place same)

pub moved_occurs : (es : List Entry) (j k : ℕ) (h : Handle) (g : ℕ) → nth es j ≡ some (moved k h g) → 0 < occurs k (moved_of es)
moved_occurs [] j k h g e = nothing (moved k h g) e
moved_occurs (x ∷ es) zero k h g e = rw (some_same x (moved k h g) e) (occurs_head k (moved_of es))
moved_occurs (moved k' h' g' ∷ es) (suc j) k h g e = omega (arith, moved_occurs es j k h g e)
moved_occurs (copied h' ∷ es) (suc j) k h g e = moved_occurs es j k h g e

-- item j of a claim moves slot k
abbrev pub Moves : List Entry → ℕ → ℕ → Type 0
Moves es k j = (h : Handle) × (g : ℕ) × (nth es j ≡ some (moved k h g))

moves_is : (m : Mem) (x j k : ℕ) (y : Entry) → EntryIs m x j y → m (item x j item_operation) ≡ operation_move → m (item x j item_moved) ≡ k → (h : Handle) × (g : ℕ) × (y ≡ moved k h g)
moves_is m x j k (moved k' h g) p d e = let q : k' ≡ k = sym p.1 ∙ e in (h, g, rw q)
moves_is m x j k (copied h) p d e = absurd (omega arith)

-- THE SLOTS OF A ROW: of a state that is represented, whose book fits and whose marks are the rows'
module _ (sh : Shape) (m : Mem) (s : State) (r : Represents sh m s) (f : Fits s) (w : Marks s) (x i : ℕ) where
  -- a reservation: slot ks[j] is Reserved by it, names its place and position j; and no other slot names it
  module _ (b : ℕ) (ks : List ℕ) (a : RowAt m s x i (reservation b ks)) where
    pub named_reservation : NamedBy m s x b (λ k j. nth ks j ≡ some k)
    named_reservation d k l mk e = go (its sh m s r f (both_marks s w) x i (reservation b ks) a d k l mk e)
      where
        go : ((t : Bool) × (slot_word m d k slot_tag ≡ tag_of t) × (in_row t d k (some (reservation b ks)) ≡ 1)) → (d ≡ b) × (nth ks (slot_word m d k slot_position) ≡ some k)
        go (false, z, q) = absurd (omega arith)
        go (true, z, q) =
            let c = r.book.marks d k l mk in
            let u : slot_word m d k slot_tag - 1 ≡ 0 = omega arith in
            let g : (slot_word m d k slot_position < m (row x row_length)) × (m (row x row_table) ≡ d) × (m (item x (slot_word m d k slot_position) item_slot) ≡ k)
            = (rw e at c.2, rw e at c.3, ap (λ (v : ℕ). m (item x (slot_word m d k slot_position) v)) (sym u) ∙ ap (λ (v : ℕ). m (item v (slot_word m d k slot_position) (slot_word m d k slot_tag - 1))) (sym e) ∙ c.4) in
            let y = nth_some ks (slot_word m d k slot_position) (omega (arith, g.0, a.body.2)) in
            let v : y.0 ≡ k = sym (item_of (λ j k. m (item x j item_slot) ≡ k) ks a.body.3 (slot_word m d k slot_position) y.0 y.1) ∙ g.2 in
            (sym g.1 ∙ a.body.1, y.1 ∙ ap some v)

    pub reserved_once : (k : ℕ) → occurs k ks ≤ 1
    reserved_once = (owns s.tables s.book.rows (both_marks s w) true i b ks (reservation b ks) (keys_reservation b ks) (at_find sh m s r f x i (reservation b ks) a)).once

    pub reserved_at : b < s.table_count → (j k : ℕ) → nth ks j ≡ some k
        → (is_reserved_by i ((s.tables b).slots k) ≡ true) × (slot_word m b k slot_tag ≡ tag_reserved) × (slot_word m b k slot_place ≡ x) × (slot_word m b k slot_position ≡ j)
    reserved_at l j k e =
        let by : is_by true i ((s.tables b).slots k) ≡ true
        = (owns s.tables s.book.rows (both_marks s w) true i b ks (reservation b ks) (keys_reservation b ks) (at_find sh m s r f x i (reservation b ks) a)).on k (nth_occurs ks j k e) in
        let p = names sh m s r f (both_marks s w) x i (reservation b ks) a true b k l by in
        let q = named_reservation b k l (by_marked true i ((s.tables b).slots k) by) p.1 in
        (by, p.0, p.1, nth_once ks (slot_word m b k slot_position) j k (reserved_once k) q.1 e)

  -- a claim: the slot that item j moves is TransferReserved by it, names its place and position j; and no other slot names it
  module _ (b : ℕ) (es : List Entry) (a : RowAt m s x i (claim b es)) where
    pub named_claim : NamedBy m s x b (Moves es)
    named_claim d k l mk e = go (its sh m s r f (both_marks s w) x i (claim b es) a d k l mk e)
      where
        go : ((t : Bool) × (slot_word m d k slot_tag ≡ tag_of t) × (in_row t d k (some (claim b es)) ≡ 1)) → (d ≡ b) × Moves es k (slot_word m d k slot_position)
        go (true, z, q) = absurd (omega arith)
        go (false, z, q) =
            let c = r.book.marks d k l mk in
            let u : slot_word m d k slot_tag - 1 ≡ 1 = omega arith in
            let g : (slot_word m d k slot_position < m (row x row_length)) × (m (row x row_table) ≡ d) × (m (item x (slot_word m d k slot_position) item_moved) ≡ k) × (m (item x (slot_word m d k slot_position) item_operation) ≡ operation_move)
            = (
              rw e at c.2,
              rw e at c.3,
              ap (λ (v : ℕ). m (item x (slot_word m d k slot_position) v)) (sym u) ∙ ap (λ (v : ℕ). m (item v (slot_word m d k slot_position) (slot_word m d k slot_tag - 1))) (sym e) ∙ c.4,
              ap (λ (v : ℕ). m (item v (slot_word m d k slot_position) item_operation)) (sym e) ∙ c.5 z,
            ) in
            let y = nth_some es (slot_word m d k slot_position) (omega (arith, g.0, a.body.2)) in
            let v = moves_is m x (slot_word m d k slot_position) k y.0 (item_of (EntryIs m x) es a.body.3 (slot_word m d k slot_position) y.0 y.1) g.3 g.2 in
            (sym g.1 ∙ a.body.1, (v.0, v.1, y.1 ∙ ap some v.2))

  -- no slot names a row that has none: a parcel, or a plan
  unmarked : (y : Body) → RowAt m s x i y → ((t : Bool) (d k : ℕ) → in_row t d k (some y) ≡ 0) → Unnamed m s x
  unmarked y a none_in d k l mk e = let p = its sh m s r f (both_marks s w) x i y a d k l mk e in omega (arith, p.2, none_in p.0 d k)

  pub named_parcel : (hs : List Handle) → RowAt m s x i (parcel hs) → Unnamed m s x
  named_parcel hs a = unmarked (parcel hs) a no_slot
    where
      no_slot : (t : Bool) (d k : ℕ) → in_row t d k (some (parcel hs)) ≡ 0
      no_slot true d k = refl
      no_slot false d k = refl

  pub named_plan : (b n : ℕ) (v : StorageSnapshot) (fs : List ℕ) → RowAt m s x i (plan b n v fs) → Unnamed m s x
  named_plan b n v fs a = unmarked (plan b n v fs) a no_slot
    where
      no_slot : (t : Bool) (d k : ℕ) → in_row t d k (some (plan b n v fs)) ≡ 0
      no_slot true d k = refl
      no_slot false d k = refl

-- what the storage's operations ask of the row: its position j names slot k
pub names_reservation : (m : Mem) (s : State) (x i b : ℕ) (ks : List ℕ) → RowAt m s x i (reservation b ks) → (j k : ℕ) → nth ks j ≡ some k → Names m s b k x j item_slot
names_reservation m s x i b ks a j k e = record {
  place = a.place;
  used = a.used;
  within = omega (arith, a.body.2, nth_below ks j k e);
  table = a.body.1;
  slot = item_of (λ j k. m (item x j item_slot) ≡ k) ks a.body.3 j k e;
  moved = λ z. absurd (omega arith);
}

pub names_claim : (m : Mem) (s : State) (x i b : ℕ) (es : List Entry) → RowAt m s x i (claim b es) → (j k : ℕ) (h : Handle) (g : ℕ) → nth es j ≡ some (moved k h g) → Names m s b k x j item_moved
names_claim m s x i b es a j k h g e = record {
  place = a.place;
  used = a.used;
  within = omega (arith, a.body.2, nth_below es j (moved k h g) e);
  table = a.body.1;
  slot = (item_of (EntryIs m x) es a.body.3 j (moved k h g) e).1;
  moved = λ z. (item_of (EntryIs m x) es a.body.3 j (moved k h g) e).0;
}
