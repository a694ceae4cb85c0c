-- What the state check tests of the book: the row index, the rows in use and the marks of slots. Each test stands with the facts that it is equal to.
-- Assumes nothing.
use Rattle.std.specs.Prelude.{◌≡◌, Bool, false, ◌&&◌, List, [], ◌∷◌, eqb, ltb, leb}
use Rattle.std.proofs.Math.Path.{refl}
use Rattle.std.proofs.Math.Bool.{true}
use Prim.Native.Nat.{ℕ, zero, suc, ◌+◌, ◌-◌, ◌*◌, ◌/◌, ◌%◌, ◌≤◌, ◌<◌, min}
use native.Mathlib.Omega.{arith}
use Rattle.std.proofs.Common.{eq-eqb, ne_eqb, eqb-true, lt-ltb, ltb-true, le-leb, leb-true}
use Rattle.std.proofs.lemmas.Bool.{eqb-false}
use Rattle.words.specs.Pick.{pick, bool, both, both_is}
use Rattle.words.specs.All.{all, all_at, all_yes}
use Rattle.layout.specs.declared.Shape.{Shape}
use Rattle.layout.specs.Layout.{Mem, root, head, entry, cell, index, rank, row, item}
use Rattle.layout.specs.Fields.{root_next_id, root_used_rows, head_lifecycle, head_pages, entry_frame, slot_tag, slot_place, slot_position, row_id, row_kind, row_table, row_length, item_slot, item_operation, item_moved}
use Rattle.layout.specs.Values.{tag_reserved, tag_occupied, kind_parcel, kind_plan, life_active, operation_move}
use Rattle.layout.specs.Sizes.{page_size, pages_max, slots_max, batch_max}
use Rattle.representation.specs.Represents.{entry_at, word_in, frame_of, slot_word}
use Rattle.model.specs.State.{max_slots}
use Rattle.model.proofs.Bounds.{slots_max_law}
use Rattle.ledger.specs.Items.{tests, passed, passes, pick_yes, pick_no, place_b, PlaceOk, place_is, place_yes, item_b, ItemOk, item_is, item_yes}
use Rattle.ledger.specs.Plans.{plan_b, PlanOk, plan_is, plan_yes}

-- ---- rows

-- the table b of a row that is a w and no plan: "a table not active has no open reservation or claim"
unfoldable pub open_b : Mem → Shape → ℕ → ℕ → Bool
open_b m sh w b = pick (eqb w kind_parcel) true (tests (ltb b sh.tables ∷ eqb (m (head b head_lifecycle)) life_active ∷ []))

pub record OpenOk (m : Mem) (sh : Shape) (b : ℕ) : Type 0 where
  pub table : b < sh.tables
  pub active : m (head b head_lifecycle) ≡ life_active

pub open_is : (m : Mem) (sh : Shape) (w b : ℕ) → open_b m sh w b ≡ true → (w ≡ kind_parcel → ⊥) → OpenOk m sh b
unfolding open_b
open_is m sh w b e n = let p = passed (ltb b sh.tables ∷ eqb (m (head b head_lifecycle)) life_active ∷ []) (pick_no (eqb w kind_parcel) true _ e (ne_eqb w kind_parcel n)) in
    record { table = ltb-true b sh.tables p.0; active = eqb-true (m (head b head_lifecycle)) life_active p.1.0 }

pub open_yes : (m : Mem) (sh : Shape) (w b : ℕ) → ((w ≡ kind_parcel → ⊥) → OpenOk m sh b) → open_b m sh w b ≡ true
unfolding open_b
open_yes m sh w b f = bool (eqb w kind_parcel)
    (λ e. rw e)
    (λ e. let o = f (eqb-false w kind_parcel e) in
    rw e (passes (ltb b sh.tables ∷ eqb (m (head b head_lifecycle)) life_active ∷ []) (lt-ltb b sh.tables o.table, (eq-eqb (m (head b head_lifecycle)) life_active o.active, tt))))

-- the n entries of the row in place x, which is a w and no plan
abbrev list_tests : Mem → Shape → ℕ → ℕ → ℕ → List Bool
list_tests m sh x w n = leb 1 n ∷ open_b m sh w (m (row x row_table)) ∷ all n (item_b m sh w (m (row x row_table)) x) ∷ []

unfoldable pub list_b : Mem → Shape → ℕ → ℕ → ℕ → Bool
list_b m sh x w n = tests (list_tests m sh x w n)

pub record ListOk (m : Mem) (sh : Shape) (x w n : ℕ) : Type 0 where
  pub some_item : 1 ≤ n
  pub opens : (w ≡ kind_parcel → ⊥) → OpenOk m sh (m (row x row_table))
  pub items : (j : ℕ) → j < n → ItemOk m sh w (m (row x row_table)) x j

pub list_is : (m : Mem) (sh : Shape) (x w n : ℕ) → list_b m sh x w n ≡ true → ListOk m sh x w n
unfolding list_b
list_is m sh x w n e = let p = passed (list_tests m sh x w n) e in record {
  some_item = leb-true 1 n p.0;
  opens = open_is m sh w (m (row x row_table)) p.1.0;
  items = λ j h. item_is m sh w (m (row x row_table)) x j (all_at n (item_b m sh w (m (row x row_table)) x) p.1.1.0 j h);
}

pub list_yes : (m : Mem) (sh : Shape) (x w n : ℕ) → ListOk m sh x w n → list_b m sh x w n ≡ true
unfolding list_b
list_yes m sh x w n l = passes (list_tests m sh x w n) (
  le-leb 1 n l.some_item,
  (
    open_yes m sh w (m (row x row_table)) l.opens,
    (all_yes n (item_b m sh w (m (row x row_table)) x) (λ j h. item_yes m sh w (m (row x row_table)) x j (l.items j h)), tt),
  ),
)

-- the row in place x by what it is, with n entries
unfoldable pub body_b : Mem → Shape → ℕ → ℕ → ℕ → Bool
body_b m sh x w n = pick (eqb w kind_plan) (plan_b m sh x n) (list_b m sh x w n)

-- the row in place x, whose id must be above `last`: "count, 1 to 64", of a plan 0 to 64
abbrev row_tests : Mem → Shape → ℕ → ℕ → List Bool
row_tests m sh x last =
    ltb last (m (row x row_id)) ∷ ltb (m (row x row_id)) (m (root root_next_id)) ∷ leb 1 (m (row x row_kind)) ∷ leb (m (row x row_kind)) kind_plan ∷ leb (m (row x row_length)) batch_max
    ∷ body_b m sh x (m (row x row_kind)) (m (row x row_length)) ∷ []

unfoldable pub row_b : Mem → Shape → ℕ → ℕ → Bool
row_b m sh x last = tests (row_tests m sh x last)

pub record RowOk (m : Mem) (sh : Shape) (x last : ℕ) : Type 0 where
  pub above : last < m (row x row_id)
  pub below : m (row x row_id) < m (root root_next_id)
  pub kind : 1 ≤ m (row x row_kind)
  pub known : m (row x row_kind) ≤ kind_plan
  pub few_items : m (row x row_length) ≤ batch_max
  pub lists : (m (row x row_kind) ≡ kind_plan → ⊥) → ListOk m sh x (m (row x row_kind)) (m (row x row_length))
  pub plans : m (row x row_kind) ≡ kind_plan → PlanOk m sh x (m (row x row_length))

pub row_is : (m : Mem) (sh : Shape) (x last : ℕ) → row_b m sh x last ≡ true → RowOk m sh x last
unfolding row_b body_b
row_is m sh x last e =
    let p = passed (row_tests m sh x last) e in let w : ℕ = m (row x row_kind) in let n : ℕ = m (row x row_length) in
    record {
      above = ltb-true last (m (row x row_id)) p.0;
      below = ltb-true (m (row x row_id)) (m (root root_next_id)) p.1.0;
      kind = leb-true 1 w p.1.1.0;
      known = leb-true w kind_plan p.1.1.1.0;
      few_items = leb-true n batch_max p.1.1.1.1.0;
      lists = λ z. list_is m sh x w n (pick_no (eqb w kind_plan) (plan_b m sh x n) (list_b m sh x w n) p.1.1.1.1.1.0 (ne_eqb w kind_plan z));
      plans = λ z. plan_is m sh x n (pick_yes (eqb w kind_plan) (plan_b m sh x n) (list_b m sh x w n) p.1.1.1.1.1.0 (eq-eqb w kind_plan z));
    }

pub row_yes : (m : Mem) (sh : Shape) (x last : ℕ) → RowOk m sh x last → row_b m sh x last ≡ true
unfolding row_b body_b
row_yes m sh x last r = passes (row_tests m sh x last) (
  lt-ltb last (m (row x row_id)) r.above,
  (
    lt-ltb (m (row x row_id)) (m (root root_next_id)) r.below,
    (
      le-leb 1 (m (row x row_kind)) r.kind,
      (
        le-leb (m (row x row_kind)) kind_plan r.known,
        (
          le-leb (m (row x row_length)) batch_max r.few_items,
          (
            bool (eqb (m (row x row_kind)) kind_plan)
                (λ e. rw e (plan_yes m sh x (m (row x row_length)) (r.plans (eqb-true (m (row x row_kind)) kind_plan e))))
                (λ e. rw e (list_yes m sh x (m (row x row_kind)) (m (row x row_length)) (r.lists (eqb-false (m (row x row_kind)) kind_plan e)))),
            tt,
          ),
        ),
      ),
    ),
  ),
)

-- the id of the row before rank i, 0 for none
abbrev pub before : Mem → ℕ → ℕ
before m zero = 0
before m (suc i) = m (row (m (index i)) row_id)

-- the row of rank i
abbrev pub rank_b : Mem → Shape → ℕ → Bool
rank_b m sh i = row_b m sh (m (index i)) (before m i)

-- ---- marks

-- item j of the row in place x names slot k, by the slot's tag t: in a reservation or as a claim's move
unfoldable pub hit_b : Mem → ℕ → ℕ → ℕ → ℕ → Bool
hit_b m t x j k = pick (eqb t tag_reserved) (eqb k (m (item x j item_slot))) (eqb (m (item x j item_operation)) operation_move && eqb k (m (item x j item_moved)))

-- slot k of table b, which has the tag t and names item j of the row in place x, is that item's
abbrev mark_tests : Mem → Shape → ℕ → ℕ → ℕ → ℕ → ℕ → List Bool
mark_tests m sh b k t x j =
    ltb x sh.rows ∷ ltb (m (rank x)) (m (root root_used_rows)) ∷ ltb j (m (row x row_length)) ∷ eqb (m (row x row_kind)) t ∷ eqb (m (row x row_table)) b ∷ hit_b m t x j k ∷ []

unfoldable pub mark_b : Mem → Shape → ℕ → ℕ → ℕ → ℕ → ℕ → Bool
mark_b m sh b k t x j = tests (mark_tests m sh b k t x j)

pub record MarkOk (m : Mem) (sh : Shape) (b k t x j : ℕ) : Type 0 where
  pub place : x < sh.rows
  pub used : m (rank x) < m (root root_used_rows)
  pub position : j < m (row x row_length)
  pub kind : m (row x row_kind) ≡ t
  pub table : m (row x row_table) ≡ b
  pub hit : hit_b m t x j k ≡ true

pub mark_is : (m : Mem) (sh : Shape) (b k t x j : ℕ) → mark_b m sh b k t x j ≡ true → MarkOk m sh b k t x j
unfolding mark_b
mark_is m sh b k t x j e = let p = passed (mark_tests m sh b k t x j) e in record {
  place = ltb-true x sh.rows p.0;
  used = ltb-true (m (rank x)) (m (root root_used_rows)) p.1.0;
  position = ltb-true j (m (row x row_length)) p.1.1.0;
  kind = eqb-true (m (row x row_kind)) t p.1.1.1.0;
  table = eqb-true (m (row x row_table)) b p.1.1.1.1.0;
  hit = p.1.1.1.1.1.0;
}

pub mark_yes : (m : Mem) (sh : Shape) (b k t x j : ℕ) → MarkOk m sh b k t x j → mark_b m sh b k t x j ≡ true
unfolding mark_b
mark_yes m sh b k t x j r = passes (mark_tests m sh b k t x j) (
  lt-ltb x sh.rows r.place,
  (
    lt-ltb (m (rank x)) (m (root root_used_rows)) r.used,
    (
      lt-ltb j (m (row x row_length)) r.position,
      (
        eq-eqb (m (row x row_kind)) t r.kind,
        (eq-eqb (m (row x row_table)) b r.table, (r.hit, tt)),
      ),
    ),
  ),
)

-- a tag of a reserved or transfer reserved slot
abbrev pub is_mark : ℕ → Bool
is_mark t = ltb 0 t && ltb t tag_occupied

-- slot j of page p of table b, in the frame fr
unfoldable pub slot_b : Mem → Shape → ℕ → ℕ → ℕ → ℕ → Bool
slot_b m sh b p fr j = pick (is_mark (m (cell fr j slot_tag))) (mark_b m sh b (p * page_size + j) (m (cell fr j slot_tag)) (m (cell fr j slot_place)) (m (cell fr j slot_position))) true

-- "Page 262,143 has 63 slots"
unfoldable pub slot_count : ℕ → ℕ
slot_count p = min page_size (slots_max - p * page_size)

-- page p of table b, whose frame is given as a link
unfoldable pub page_b : Mem → Shape → ℕ → ℕ → Bool
page_b m sh b p = pick (eqb (m (entry (entry_at m b p) entry_frame)) 0) true (all (slot_count p) (slot_b m sh b p (m (entry (entry_at m b p) entry_frame) - 1)))

-- no table has more pages than pages_max
unfoldable pub table_b : Mem → Shape → ℕ → Bool
table_b m sh b = all (min (m (head b head_pages)) pages_max) (page_b m sh b)

-- the marks, by slot
abbrev pub MarksOk : Mem → Shape → Type 0
MarksOk m sh = (b k : ℕ) → b < sh.tables → 0 < slot_word m b k slot_tag → slot_word m b k slot_tag < tag_occupied → MarkOk m sh b k (slot_word m b k slot_tag) (slot_word m b k slot_place) (slot_word m b k slot_position)

-- a slot that has a frame stands on a page of its table
record Stands (m : Mem) (b k fr : ℕ) : Type 0 where
  pub slot : k < slots_max
  pub page : k / page_size < m (head b head_pages)
  pub link : m (entry (entry_at m b (k / page_size)) entry_frame) ≡ suc fr

stands : (m : Mem) (b k fr : ℕ) → frame_of m b k ≡ suc fr → Stands m b k fr
stands m b k fr e = bool (ltb k max_slots)
    (λ a. bool (ltb (k / page_size) (m (head b head_pages)))
    (λ d. record { slot = omega (arith, ltb-true k max_slots a, slots_max_law); page = ltb-true (k / page_size) (m (head b head_pages)) d; link = rw (a, d) at e })
    (λ d. let z : 0 ≡ suc fr = rw (a, d) at e in absurd (omega arith)))
    (λ a. let z : 0 ≡ suc fr = rw a at e in absurd (omega arith))

framed : (m : Mem) (b k fr : ℕ) → Stands m b k fr → frame_of m b k ≡ suc fr
framed m b k fr s = rw (lt-ltb k max_slots (omega (arith, s.slot, slots_max_law)), lt-ltb (k / page_size) (m (head b head_pages)) s.page) s.link

module _ (m : Mem) (sh : Shape) where
  pub slot_is : (b p fr j : ℕ) → slot_b m sh b p fr j ≡ true → 0 < m (cell fr j slot_tag) → m (cell fr j slot_tag) < tag_occupied → MarkOk m sh b (p * page_size + j) (m (cell fr j slot_tag)) (m (cell fr j slot_place)) (m (cell fr j slot_position))
  unfolding slot_b
  slot_is b p fr j e lo hi = mark_is m sh b (p * page_size + j) (m (cell fr j slot_tag)) (m (cell fr j slot_place)) (m (cell fr j slot_position))
      (pick_yes (is_mark (m (cell fr j slot_tag))) (mark_b m sh b (p * page_size + j) (m (cell fr j slot_tag)) (m (cell fr j slot_place)) (m (cell fr j slot_position))) true e
      (both_is (ltb 0 (m (cell fr j slot_tag))) (ltb (m (cell fr j slot_tag)) tag_occupied) (lt-ltb 0 (m (cell fr j slot_tag)) lo) (lt-ltb (m (cell fr j slot_tag)) tag_occupied hi)))

  pub slot_yes : (b p fr j : ℕ) → (0 < m (cell fr j slot_tag) → m (cell fr j slot_tag) < tag_occupied → MarkOk m sh b (p * page_size + j) (m (cell fr j slot_tag)) (m (cell fr j slot_place)) (m (cell fr j slot_position)))
      → slot_b m sh b p fr j ≡ true
  unfolding slot_b
  slot_yes b p fr j f = bool (is_mark (m (cell fr j slot_tag)))
      (λ e. let d = both (ltb 0 (m (cell fr j slot_tag))) (ltb (m (cell fr j slot_tag)) tag_occupied) e in
      rw e (mark_yes m sh b (p * page_size + j) (m (cell fr j slot_tag)) (m (cell fr j slot_place)) (m (cell fr j slot_position)) (f (ltb-true 0 (m (cell fr j slot_tag)) d.0) (ltb-true (m (cell fr j slot_tag)) tag_occupied d.1))))
      (λ e. rw e)

  pub page_is : (b p fr j : ℕ) → page_b m sh b p ≡ true → m (entry (entry_at m b p) entry_frame) ≡ suc fr → j < slot_count p → slot_b m sh b p fr j ≡ true
  unfolding page_b
  page_is b p fr j e l h = let q : suc fr - 1 ≡ fr = omega arith in
      all_at (slot_count p) (slot_b m sh b p fr) (rw q at (pick_no (eqb (suc fr) 0) true (all (slot_count p) (slot_b m sh b p (suc fr - 1))) (rw l at e) (ne_eqb (suc fr) 0 (λ z. omega arith)))) j h

  pub page_yes : (b p : ℕ) → ((fr j : ℕ) → m (entry (entry_at m b p) entry_frame) ≡ suc fr → j < slot_count p → slot_b m sh b p fr j ≡ true) → page_b m sh b p ≡ true
  unfolding page_b
  page_yes b p f = go (m (entry (entry_at m b p) entry_frame)) refl
    where
      go : (l : ℕ) → m (entry (entry_at m b p) entry_frame) ≡ l → pick (eqb l 0) true (all (slot_count p) (slot_b m sh b p (l - 1))) ≡ true
      go zero e = refl
      go (suc fr) e = let q : suc fr - 1 ≡ fr = omega arith in
          rw (ne_eqb (suc fr) 0 (λ z. omega arith), q) (all_yes (slot_count p) (slot_b m sh b p fr) (λ j h. f fr j e h))

-- the marks of all tables
unfoldable pub marks_b : Mem → Shape → Bool
marks_b m sh = all sh.tables (table_b m sh)

pub marks_is : (m : Mem) (sh : Shape) → marks_b m sh ≡ true → MarksOk m sh
unfolding marks_b table_b slot_count
marks_is m sh e b k lb lo hi = go (frame_of m b k) refl lo hi
  where
    go : (l : ℕ) → frame_of m b k ≡ l → 0 < word_in m l (k % page_size) slot_tag → word_in m l (k % page_size) slot_tag < tag_occupied
        → MarkOk m sh b k (word_in m l (k % page_size) slot_tag) (word_in m l (k % page_size) slot_place) (word_in m l (k % page_size) slot_position)
    go zero q z y = absurd (omega arith)
    go (suc fr) q z y =
        let s = stands m b k fr q in
        let p : page_b m sh b (k / page_size) ≡ true = all_at (min (m (head b head_pages)) pages_max) (page_b m sh b) (all_at sh.tables (table_b m sh) e b lb) (k / page_size) (omega (arith, s.slot, s.page)) in
        let w : k / page_size * page_size + k % page_size ≡ k = omega arith in
        rw w at (slot_is m sh b (k / page_size) fr (k % page_size) (page_is m sh b (k / page_size) fr (k % page_size) p s.link (omega (arith, s.slot))) z y)

pub marks_yes : (m : Mem) (sh : Shape) → MarksOk m sh → marks_b m sh ≡ true
unfolding marks_b table_b slot_count
marks_yes m sh f = all_yes sh.tables (table_b m sh) (λ b lb. all_yes (min (m (head b head_pages)) pages_max) (page_b m sh b) (λ p lp. page_yes m sh b p (λ fr j l lj. slot_yes m sh b p fr j (one b lb p lp fr j l lj))))
  where
    one : (b : ℕ) → b < sh.tables → (p : ℕ) → p < min (m (head b head_pages)) pages_max → (fr j : ℕ) → m (entry (entry_at m b p) entry_frame) ≡ suc fr → j < slot_count p
        → 0 < m (cell fr j slot_tag) → m (cell fr j slot_tag) < tag_occupied → MarkOk m sh b (p * page_size + j) (m (cell fr j slot_tag)) (m (cell fr j slot_place)) (m (cell fr j slot_position))
    one b lb p lp fr j l lj lo hi =
        let a : (p * page_size + j) / page_size ≡ p = omega arith in
        let d : (p * page_size + j) % page_size ≡ j = omega arith in
        let z : frame_of m b (p * page_size + j) ≡ suc fr = framed m b (p * page_size + j) fr (record { slot = omega arith; page = rw a (omega arith); link = rw a l }) in
        let w : (g : ℕ) → slot_word m b (p * page_size + j) g ≡ m (cell fr j g) = λ g. rw (z, d) in
        let y = f b (p * page_size + j) lb in
        rw (w slot_tag, w slot_place, w slot_position) at (y (omega (arith, w slot_tag)) (omega (arith, w slot_tag)))

-- ---- the whole

-- "next id 1 or more", and no more rows in use than there are places
abbrev ledger_tests : Mem → Shape → List Bool
ledger_tests m sh =
    leb (m (root root_used_rows)) sh.rows ∷ leb 1 (m (root root_next_id)) ∷ all sh.rows (place_b m sh) ∷ all (m (root root_used_rows)) (rank_b m sh) ∷ marks_b m sh ∷ []

unfoldable pub ledger_b : Mem → Shape → Bool
ledger_b m sh = tests (ledger_tests m sh)

-- the book, but for the marks
unfoldable pub book_b : Mem → Shape → Bool
book_b m sh = leb (m (root root_used_rows)) sh.rows && (leb 1 (m (root root_next_id)) && (all sh.rows (place_b m sh) && all (m (root root_used_rows)) (rank_b m sh)))

-- the whole is these and the marks
pub ledger_split : (m : Mem) (sh : Shape) → ledger_b m sh ≡ (book_b m sh && marks_b m sh)
unfolding ledger_b book_b
ledger_split m sh = go (leb (m (root root_used_rows)) sh.rows) (leb 1 (m (root root_next_id))) (all sh.rows (place_b m sh)) (all (m (root root_used_rows)) (rank_b m sh)) (marks_b m sh)
  where
    go : (a b c d e : Bool) → (a && (b && (c && (d && (e && true))))) ≡ ((a && (b && (c && d))) && e)
    go true true true true true = refl
    go true true true true false = refl
    go true true true false e = refl
    go true true false d e = refl
    go true false c d e = refl
    go false b c d e = refl

pub record Ledger (sh : Shape) (m : Mem) : Type 0 where
  pub used : m (root root_used_rows) ≤ sh.rows
  pub next : 1 ≤ m (root root_next_id)
  pub places : (i : ℕ) → i < sh.rows → PlaceOk m sh i
  pub rows : (i : ℕ) → i < m (root root_used_rows) → RowOk m sh (m (index i)) (before m i)
  pub marks : MarksOk m sh

-- the test is equal to the facts
pub ledger_is : (m : Mem) (sh : Shape) → ledger_b m sh ≡ true → Ledger sh m
unfolding ledger_b
ledger_is m sh e = let p = passed (ledger_tests m sh) e in record {
  used = leb-true (m (root root_used_rows)) sh.rows p.0;
  next = leb-true 1 (m (root root_next_id)) p.1.0;
  places = λ i h. place_is m sh i (all_at sh.rows (place_b m sh) p.1.1.0 i h);
  rows = λ i h. row_is m sh (m (index i)) (before m i) (all_at (m (root root_used_rows)) (rank_b m sh) p.1.1.1.0 i h);
  marks = marks_is m sh p.1.1.1.1.0;
}

pub ledger_yes : (m : Mem) (sh : Shape) → Ledger sh m → ledger_b m sh ≡ true
unfolding ledger_b
ledger_yes m sh l = passes (ledger_tests m sh) (
  le-leb (m (root root_used_rows)) sh.rows l.used,
  (
    le-leb 1 (m (root root_next_id)) l.next,
    (
      all_yes sh.rows (place_b m sh) (λ i h. place_yes m sh i (l.places i h)),
      (all_yes (m (root root_used_rows)) (rank_b m sh) (λ i h. row_yes m sh (m (index i)) (before m i) (l.rows i h)), (marks_yes m sh l.marks, tt)),
    ),
  ),
)
