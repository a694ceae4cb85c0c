-- The facts of the ledger make the book of the view: its rows, ids and marks. Assumes nothing.
use Rattle.std.specs.Prelude.{◌≡◌, refl, Bool, false, ◌&&◌, ℕ, zero, suc, ◌+◌, ◌≤◌, ◌<◌, ltb}
use Rattle.std.proofs.Math.Path.{sym, ap}
use Rattle.std.proofs.Common.{◌∙◌, arith}
use Rattle.std.proofs.Math.Bool.{true}
use Rattle.std.proofs.Math.Option.{some}
use Rattle.std.proofs.Math.Dec.{eqb}
use borrow.Author.Tests.{eq-eqb, ne_eqb, eqb-true, eqb-false, ltb-true, ltb-false}
use Rattle.words.specs.Pick.{bool, clash, both}
use Rattle.model.specs.Base.{bit}
use Rattle.model.specs.Book.{find}
use Rattle.model.specs.WellFormed.{IdsRise}
use Rattle.invariant.proofs.Marks.{in_row, is_by}
use Rattle.invariant.proofs.Counts.{none_in}
use Rattle.layout.specs.declared.Shape.{Shape}
use Rattle.layout.specs.Layout.{Mem, root, index, rank, row, item}
use Rattle.layout.specs.Fields.{root_next_id, root_used_rows, slot_tag, slot_place, slot_position, row_id, row_kind, row_table, row_length, item_slot, item_operation, item_moved}
use Rattle.layout.specs.Values.{tag_reserved, tag_transfer_reserved, tag_occupied, operation_move}
use Rattle.representation.specs.Represents.{slot_word, slot_in, RowsAre}
use Rattle.representation.specs.Told.{tag_of}
use Rattle.ledger.specs.Items.{Names, ItemOk}
use Rattle.ledger.specs.Ledger.{before, hit_b, RowOk, MarkOk, Ledger}
use Rattle.ledger.specs.View.{body_at, rows_from, rows_view, body_shows, rows_show}
use Rattle.ledger.specs.Places.{both_ways}
use Rattle.ledger.specs.Found.{tally_none, tally_one, in_body, find_split, is_by_law}

-- the id of the row of rank i
abbrev pub id_at : Mem → ℕ → ℕ
id_at m i = m (row (m (index i)) row_id)

-- ---- an id names one row, and a place has one rank

module _ (m : Mem) (rows n : ℕ) (few : n ≤ rows) (places : (i : ℕ) → i < rows → (m (index i) < rows) × (m (rank (m (index i))) ≡ i))
    (rise : (i : ℕ) → i < n → before m i < id_at m i) where
  pub ranked : (x : ℕ) → x < rows → m (index (m (rank x))) ≡ x
  ranked x h = (both_ways rows (λ i. m (index i)) (λ x. m (rank x)) (λ i l. (places i l).0) (λ i l. (places i l).1) x h).1

  rising : (r q : ℕ) → r < q → q < n → id_at m r < id_at m q
  rising r zero h l = absurd (omega arith)
  rising r (suc q) h l = let d = rise (suc q) l in bool (eqb r q)
      (λ e. rw (eqb-true r q e) d)
      (λ e. let y = eqb-false r q e in omega (arith, rising r q (omega arith) (omega arith)))

  pub one_id : (r q : ℕ) → r < n → q < n → id_at m r ≡ id_at m q → r ≡ q
  one_id r q lr lq e = bool (ltb r q)
      (λ h. absurd (omega (arith, rising r q (ltb-true r q h) lq)))
      (λ h. bool (ltb q r)
      (λ g. absurd (omega (arith, rising q r (ltb-true q r g) lr)))
      (λ g. omega (arith, ltb-false r q h, ltb-false q r g)))

  -- a place in use with the id of a rank is that rank's
  pub one_place : (x r : ℕ) → x < rows → m (rank x) < n → r < n → m (row x row_id) ≡ id_at m r → x ≡ m (index r)
  one_place x r lx u lr e = let z = ranked x lx in
      sym z ∙ ap (λ (i : ℕ). m (index i)) (one_id (m (rank x)) r u lr (ap (λ (y : ℕ). m (row y row_id)) z ∙ e))

-- ---- what a hit is

pub hit_reserved : (m : Mem) (x j k : ℕ) → hit_b m tag_reserved x j k ≡ true → k ≡ m (item x j item_slot)
unfolding hit_b
hit_reserved m x j k e = eqb-true k (m (item x j item_slot)) e

pub hit_moved : (m : Mem) (x j k : ℕ) → hit_b m tag_transfer_reserved x j k ≡ true → (m (item x j item_operation) ≡ operation_move) × (k ≡ m (item x j item_moved))
unfolding hit_b
hit_moved m x j k e = let p = both (eqb (m (item x j item_operation)) operation_move) (eqb k (m (item x j item_moved))) e in (eqb-true (m (item x j item_operation)) operation_move p.0, eqb-true k (m (item x j item_moved)) p.1)

-- an item that names a slot is named by it
pub hit_names : (m : Mem) (sh : Shape) (t : Bool) (x j k : ℕ) → ItemOk m sh (tag_of t) (m (row x row_table)) x j → hit_b m (tag_of t) x j k ≡ true → Names m (m (row x row_table)) k (tag_of t) x j
hit_names m sh true x j k i e = rw (hit_reserved m x j k e) (i.reserved refl)
hit_names m sh false x j k i e = let p = hit_moved m x j k e in rw p.1 (i.moved refl p.0)

tag_mark : (t : Bool) → (0 < tag_of t) × (tag_of t < tag_occupied)
tag_mark true = (omega arith, omega arith)
tag_mark false = (omega arith, omega arith)

-- ---- the view

module _ (sh : Shape) (m : Mem) (l : Ledger sh m) where
  pub in_place : (x : ℕ) → x < sh.rows → m (index (m (rank x))) ≡ x
  in_place = ranked m sh.rows (m (root root_used_rows)) l.used (λ i h. ((l.places i h).below, (l.places i h).ranked)) (λ i h. (l.rows i h).above)

  pub rows_shown : RowsAre m 0 (rows_view m)
  unfolding rows_view
  rows_shown = rows_show m 0 (m (root root_used_rows)) (λ r a b. let q = l.rows r (omega arith) in
      body_shows m (m (index r)) q.kind q.known (λ e j h. ((q.lists (λ z. omega arith)).items j h).operation e) (λ e j h. ((q.plans e).items j h).owner))

  rise_from : (i n : ℕ) → i + n ≤ m (root root_used_rows) → suc (before m i) ≤ m (root root_next_id) → IdsRise (suc (before m i)) (rows_from m i n) (m (root root_next_id))
  rise_from i zero h lo = lo
  rise_from i (suc n) h lo = let q = l.rows i (omega arith) in (omega (arith, q.above), rise_from (suc i) n (omega arith) (omega (arith, q.below)))

  pub ids_shown : IdsRise 1 (rows_view m) (m (root root_next_id))
  unfolding rows_view
  ids_shown = rise_from 0 (m (root root_used_rows)) (omega arith) l.next

  -- a slot stands in a row exactly if it is marked with the row's place
  counted : (t : Bool) (b k x last : ℕ) → b < sh.tables → RowOk m sh x last
      → in_row t b k (some (body_at m x)) ≡ bit (eqb (slot_word m b k slot_tag) (tag_of t) && eqb (slot_word m b k slot_place) x)
  counted t b k x last lb o = in_body m t b k x ∙ bool (eqb (slot_word m b k slot_tag) (tag_of t) && eqb (slot_word m b k slot_place) x)
      (λ e. let p = both (eqb (slot_word m b k slot_tag) (tag_of t)) (eqb (slot_word m b k slot_place) x) e in
      let y = eqb-true (slot_word m b k slot_tag) (tag_of t) p.0 in
      let c : MarkOk m sh b k (tag_of t) x (slot_word m b k slot_position) = rw (y, eqb-true (slot_word m b k slot_place) x p.1) at (l.marks b k lb (omega (arith, tag_mark t)) (omega (arith, tag_mark t))) in
      rw (e, eq-eqb (m (row x row_kind)) (tag_of t) c.kind, eq-eqb b (m (row x row_table)) (sym c.table))
      (tally_one (λ j. hit_b m (tag_of t) x j k) 0 (m (row x row_length)) (slot_word m b k slot_position) (omega arith) (omega (arith, c.position)) c.hit
      (λ j a d h. sym (rw c.table at (named c.kind j (omega arith) h)).position)))
      (λ e. rw e (bool (eqb (m (row x row_kind)) (tag_of t) && eqb b (m (row x row_table)))
      (λ d. let p = both (eqb (m (row x row_kind)) (tag_of t)) (eqb b (m (row x row_table))) d in
      rw d (tally_none (λ j. hit_b m (tag_of t) x j k) 0 (m (row x row_length)) (λ j a c. bool (hit_b m (tag_of t) x j k)
      (λ h. let z = rw (← eqb-true b (m (row x row_table)) p.1) at (named (eqb-true (m (row x row_kind)) (tag_of t) p.0) j (omega arith) h) in
      clash (rw (eq-eqb (slot_word m b k slot_tag) (tag_of t) z.tag, eq-eqb (slot_word m b k slot_place) x z.place) refl) e)
      (λ h. h))))
      (λ d. rw d refl)))
    where
      named : m (row x row_kind) ≡ tag_of t → (j : ℕ) → j < m (row x row_length) → hit_b m (tag_of t) x j k ≡ true → Names m (m (row x row_table)) k (tag_of t) x j
      named e j h d = hit_names m sh t x j k (rw e at ((o.lists (λ z. omega (arith, tag_mark t))).items j h)) d

  -- MARKS: "each Reserved slot stands once in one open reservation, each TransferReserved slot once in one open claim, and each row's slots are so marked"
  pub marks_shown : (t : Bool) (i b k : ℕ) → b < sh.tables → in_row t b k (find i (rows_view m)) ≡ bit (is_by t i (slot_in m b k))
  unfolding rows_view
  marks_shown t i b k lb = find_split m 0 (m (root root_used_rows)) i
      (λ r a. let lr : r < m (root root_used_rows) = omega (arith, a.below) in
      ap (in_row t b k) a.found ∙ counted t b k (m (index r)) (before m r) lb (l.rows r lr) ∙ ap bit (at_rank r lr a.named) ∙ sym (ap bit (is_by_law m t i b k)))
      (λ d none_has. ap (in_row t b k) d ∙ none_in t b k ∙ sym (ap bit (is_by_law m t i b k ∙ at_none none_has)))
    where
      marked : eqb (slot_word m b k slot_tag) (tag_of t) ≡ true → MarkOk m sh b k (slot_word m b k slot_tag) (slot_word m b k slot_place) (slot_word m b k slot_position)
      marked e = let y = eqb-true (slot_word m b k slot_tag) (tag_of t) e in l.marks b k lb (omega (arith, tag_mark t)) (omega (arith, tag_mark t))

      place_of : (x r : ℕ) → x < sh.rows → m (rank x) < m (root root_used_rows) → r < m (root root_used_rows) → m (row x row_id) ≡ id_at m r → x ≡ m (index r)
      place_of = one_place m sh.rows (m (root root_used_rows)) l.used (λ i h. ((l.places i h).below, (l.places i h).ranked)) (λ i h. (l.rows i h).above)

      at_rank : (r : ℕ) → r < m (root root_used_rows) → id_at m r ≡ i
          → (eqb (slot_word m b k slot_tag) (tag_of t) && eqb (slot_word m b k slot_place) (m (index r))) ≡ (eqb (slot_word m b k slot_tag) (tag_of t) && eqb i (m (row (slot_word m b k slot_place) row_id)))
      at_rank r lr a = bool (eqb (slot_word m b k slot_tag) (tag_of t))
          (λ e. rw e (bool (eqb (slot_word m b k slot_place) (m (index r)))
          (λ d. rw (d, eqb-true (slot_word m b k slot_place) (m (index r)) d) (sym (eq-eqb i (id_at m r) (sym a))))
          (λ d. rw d (sym (ne_eqb i (m (row (slot_word m b k slot_place) row_id)) (λ q. let c = marked e in
          eqb-false (slot_word m b k slot_place) (m (index r)) d (place_of (slot_word m b k slot_place) r c.place c.used lr (sym q ∙ sym a))))))))
          (λ e. rw e refl)

      at_none : ((r : ℕ) → 0 ≤ r → r < 0 + m (root root_used_rows) → id_at m r ≡ i → ⊥) → (eqb (slot_word m b k slot_tag) (tag_of t) && eqb i (m (row (slot_word m b k slot_place) row_id))) ≡ false
      at_none h = bool (eqb (slot_word m b k slot_tag) (tag_of t) && eqb i (m (row (slot_word m b k slot_place) row_id)))
          (λ e. let p = both (eqb (slot_word m b k slot_tag) (tag_of t)) (eqb i (m (row (slot_word m b k slot_place) row_id))) e in let c = marked p.0 in
          absurd (h (m (rank (slot_word m b k slot_place))) (omega arith) (omega (arith, c.used))
          (ap (λ (y : ℕ). m (row y row_id)) (in_place (slot_word m b k slot_place) c.place) ∙ sym (eqb-true i (m (row (slot_word m b k slot_place) row_id)) p.1))))
          (λ e. e)
