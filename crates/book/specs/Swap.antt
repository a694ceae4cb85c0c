-- Stores into one row: a row out of use keeps the state, and a row in use gets another body. Assumes nothing.
use Rattle.std.specs.Prelude.{◌≡◌, refl, true, List, ℕ, suc, ◌-◌, ◌<◌, length}
use Rattle.std.proofs.Common.{sym, ap, ◌∙◌, ⊎_elim, arith}
use Rattle.std.proofs.Math.Option.{some}
use Rattle.model.specs.Base.{nth}
use Rattle.model.specs.State.{Body, Row, State}
use Rattle.model.specs.Book.{swap_id, swap_row}
use Rattle.invariant.proofs.BookLemmas.{length_swap}
use Rattle.layout.specs.declared.Shape.{Shape}
use Rattle.layout.specs.Layout.{Mem, root, owner, index, rank, row, item, load}
use Rattle.layout.specs.Fields.{root_next_id, root_used_rows, slot_tag, slot_place, slot_position, index_place, index_rank, row_id, row_table, row_length, item_operation}
use Rattle.layout.specs.Values.{tag_transfer_reserved, operation_move}
use Rattle.layout.specs.RegionNames.{region_root, region_owner, region_index, region_row}
use Rattle.representation.specs.Represents.{slot_word, BodyIs, is_marked, Represents}
use Rattle.storage.specs.Order.{same?}
use Rattle.storage.specs.Kept.{body_kept}
use Rattle.storage.specs.Reps.{Held}
use Rattle.book.specs.Lists.{nth_below, nth_one, swap_at, swap_off}
use Rattle.book.specs.Places.{RowIs, row_of, rows_all}
use Rattle.book.specs.Whole.{Books, slot_kept, book_held}
use Rattle.book.specs.Ops.{spare, Fills}
use Rattle.book.specs.Find.{Fits, RowAt}

-- what the book says of a mark: the slot's tag, place and position are t, x and j; MarkIs with the words as variables
abbrev pub MarkAt : Mem → ℕ → ℕ → ℕ → ℕ → ℕ → ℕ → ℕ → Type 0
MarkAt m c l b k t x j = (x < c) × (m (rank x) < l) × (j < m (row x row_length)) × (m (row x row_table) ≡ b) × (m (item x j (t - 1)) ≡ k) × (t ≡ tag_transfer_reserved → m (item x j item_operation) ≡ operation_move)

pub mark_words : (m : Mem) (c l b k t x j t' x' j' : ℕ) → t' ≡ t → x' ≡ x → j' ≡ j → MarkAt m c l b k t x j → MarkAt m c l b k t' x' j'
mark_words m c l b k t x j t' x' j' e₀ e₂ e₃ p = rw (e₀, e₂, e₃) p

-- it stays while the row keeps its words and is in use
pub mark_kept : (m n : Mem) (c l l' b k t x j : ℕ) → n (rank x) < l' → ((f : ℕ) → n (row x f) ≡ m (row x f)) → ((i f : ℕ) → n (item x i f) ≡ m (item x i f))
    → MarkAt m c l b k t x j → MarkAt n c l' b k t x j
mark_kept m n c l l' b k t x j u rws its w = (w.0, u, rw (rws row_length) w.2, rws row_table ∙ w.3, its j (t - 1) ∙ w.4, λ e. its j item_operation ∙ w.5 e)

pub fills_books : (ws ws' : List ℕ) (sh : Shape) (x : ℕ) → Fills ws ws' sh x → Books ws ws' sh
fills_books ws ws' sh x p = record {
  long = p.long;
  only = record { roots = λ f d e. p.rest region_root 0 0 f (λ q z. omega arith); other = λ k z y f d e g. p.rest k z y f (λ q i. g q) };
}

module _ (ws ws' : List ℕ) (sh : Shape) (s : State) (h : Held ws sh s) (x : ℕ) (p : Fills ws ws' sh x) where
  r : Represents sh (load ws sh) s
  r = h.reps.memory

  index_same : (i : ℕ) → load ws' sh (index i) ≡ load ws sh (index i)
  index_same i = p.rest region_index i 0 index_place (λ q z. omega arith)

  rank_same : (z : ℕ) → load ws' sh (rank z) ≡ load ws sh (rank z)
  rank_same z = p.rest region_index z 0 index_rank (λ q z. omega arith)

  root_same : (f : ℕ) → load ws' sh (root f) ≡ load ws sh (root f)
  root_same f = p.rest region_root 0 0 f (λ q z. omega arith)

  owner_same : (f : ℕ) → load ws' sh (owner f) ≡ load ws sh (owner f)
  owner_same f = p.rest region_owner f 0 0 (λ q z. omega arith)

  row_off : (z : ℕ) → (z ≡ x → ⊥) → (f : ℕ) → load ws' sh (row z f) ≡ load ws sh (row z f)
  row_off z ne f = p.rest region_row z 0 f (λ q e. ne e)

  item_off : (z : ℕ) → (z ≡ x → ⊥) → (j f : ℕ) → load ws' sh (item z j f) ≡ load ws sh (item z j f)
  item_off z ne j f = p.rest region_row z (suc j) f (λ q e. ne e)

  slot_same : (b k f : ℕ) → slot_word (load ws' sh) b k f ≡ slot_word (load ws sh) b k f
  slot_same = slot_kept (load ws sh) (load ws' sh) (fills_books ws ws' sh x p).only

  -- rows in other places
  rows_off : (i : ℕ) (q : Row) → (load ws sh (index i) ≡ x → ⊥) → RowIs (load ws sh) i q → RowIs (load ws' sh) i q
  rows_off i q ne w = rw (index_same i)
      (row_off (load ws sh (index i)) ne row_id ∙ w.0, body_kept (load ws sh) (load ws' sh) (load ws sh (index i)) (item_off (load ws sh (index i)) ne) (row_off (load ws sh (index i)) ne) (λ f d. owner_same f) q.body w.1)

  -- marks that name them
  mark_off : (b k t z j l : ℕ) → (z ≡ x → ⊥) → MarkAt (load ws sh) s.book.capacity l b k t z j → MarkAt (load ws' sh) s.book.capacity l b k t z j
  mark_off b k t z j l ne w = mark_kept (load ws sh) (load ws' sh) s.book.capacity l l b k t z j (rw (rank_same z) w.1) (row_off z ne) (item_off z ne) w

  -- A ROW OUT OF USE may hold any words
  pub spare_held : length s.book.rows < s.book.capacity → x ≡ spare (load ws sh) → Held ws' sh s
  spare_held free e =
      let at : x ≡ load ws sh (index (length s.book.rows)) = e ∙ ap (λ (i : ℕ). load ws sh (index i)) r.book.used in
      let top : load ws sh (rank x) ≡ length s.book.rows = ap (λ (z : ℕ). load ws sh (rank z)) at ∙ (r.book.places (length s.book.rows) free).1 in
      let apart : (z : ℕ) → load ws sh (rank z) < length s.book.rows → z ≡ x → ⊥ = λ z l q. let y : load ws sh (rank z) ≡ load ws sh (rank x) = ap (λ (v : ℕ). load ws sh (rank v)) q in omega arith in
      book_held ws ws' sh s s.book h (fills_books ws ws' sh x p) refl
      (λ b l k mk. row_off (slot_word (load ws sh) b k slot_place) (apart (slot_word (load ws sh) b k slot_place) (r.book.marks b k l mk).1) row_id)
      (record {
        next = root_same root_next_id ∙ r.book.next;
        used = root_same root_used_rows ∙ r.book.used;
        rows = rows_all (load ws' sh) s.book.rows (λ j q d. rows_off j q
            (λ z. let l : j < length s.book.rows = nth_below s.book.rows j q d in
            let i = (r.book.places j (omega (arith, free))).1 in apart (load ws sh (index j)) (omega arith) z)
            (row_of (load ws sh) s.book.rows r.book.rows j q d));
        places = λ i l. rw (index_same i) ((r.book.places i l).0, rank_same (load ws sh (index i)) ∙ (r.book.places i l).1);
        marks = λ b k l mk. let w = r.book.marks b k l mk in
            mark_words (load ws' sh) s.book.capacity (length s.book.rows) b k (slot_word (load ws sh) b k slot_tag) (slot_word (load ws sh) b k slot_place) (slot_word (load ws sh) b k slot_position)
            (slot_word (load ws' sh) b k slot_tag) (slot_word (load ws' sh) b k slot_place) (slot_word (load ws' sh) b k slot_position) (slot_same b k slot_tag) (slot_same b k slot_place) (slot_same b k slot_position)
            (mark_off b k (slot_word (load ws sh) b k slot_tag) (slot_word (load ws sh) b k slot_place) (slot_word (load ws sh) b k slot_position) (length s.book.rows) (apart (slot_word (load ws sh) b k slot_place) w.1) w);
      })

  -- the marks that name the row in place x, as its new words have them
  abbrev pub MarksIn : Type 0
  MarksIn = (d k : ℕ) → d < s.table_count → is_marked ((s.tables d).slots k) ≡ true → slot_word (load ws sh) d k slot_place ≡ x
      → (slot_word (load ws sh) d k slot_position < load ws' sh (row x row_length)) × (load ws' sh (row x row_table) ≡ d) × (load ws' sh (item x (slot_word (load ws sh) d k slot_position) (slot_word (load ws sh) d k slot_tag - 1)) ≡ k)
      × (slot_word (load ws sh) d k slot_tag ≡ tag_transfer_reserved → load ws' sh (item x (slot_word (load ws sh) d k slot_position) item_operation) ≡ operation_move)

  module _ (f : Fits s) (i : ℕ) (b c : Body) (a : RowAt (load ws sh) s x i b) (id : load ws' sh (row x row_id) ≡ i) (body : BodyIs (load ws' sh) x c) where
    swapped_row : (j : ℕ) (q : Row) → nth (swap_id i c s.book.rows) j ≡ some q → RowIs (load ws' sh) j q
    swapped_row j q e = ⊎_elim
        (λ (z : j ≡ load ws sh (rank x)).
        let y : record { id = i; body = c } ≡ q
        = nth_one (swap_id i c s.book.rows) j (record { id = i; body = c }) q
        (ap (nth (swap_id i c s.book.rows)) z ∙ swap_at i b c 1 s.book.next s.book.rows (load ws sh (rank x)) f.rise a.listed) e in
        let g : load ws' sh (index j) ≡ x = index_same j ∙ ap (λ (v : ℕ). load ws sh (index v)) z ∙ a.named in
        rw (← y, g) (id, body))
        (λ (z : j ≡ load ws sh (rank x) → ⊥).
        let e' : nth s.book.rows j ≡ some q = sym (swap_off i b c 1 s.book.next s.book.rows (load ws sh (rank x)) j f.rise a.listed z) ∙ e in
        let l : j < length s.book.rows = nth_below s.book.rows j q e' in
        let w = (r.book.places j (omega (arith, f.room))).1 in
        rows_off j q (λ y. z (sym w ∙ ap (λ (v : ℕ). load ws sh (rank v)) y)) (row_of (load ws sh) s.book.rows r.book.rows j q e'))
        (same? j (load ws sh (rank x)))

    -- A ROW WITH ANOTHER BODY
    pub swap_held : MarksIn → Held ws' sh (swap_row i c s)
    swap_held marked =
        book_held ws ws' sh s (record { rows = swap_id i c s.book.rows; capacity = s.book.capacity; next = s.book.next }) h (fills_books ws ws' sh x p) refl
        (λ d l k mk. ⊎_elim
        (λ (z : slot_word (load ws sh) d k slot_place ≡ x). rw z (id ∙ sym a.id))
        (λ (z : slot_word (load ws sh) d k slot_place ≡ x → ⊥). row_off (slot_word (load ws sh) d k slot_place) z row_id)
        (same? (slot_word (load ws sh) d k slot_place) x))
        (record {
          next = root_same root_next_id ∙ r.book.next;
          used = root_same root_used_rows ∙ r.book.used ∙ sym (length_swap i c s.book.rows);
          rows = rows_all (load ws' sh) (swap_id i c s.book.rows) swapped_row;
          places = λ j l. rw (index_same j) ((r.book.places j l).0, rank_same (load ws sh (index j)) ∙ (r.book.places j l).1);
          marks = λ d k l mk. let w = r.book.marks d k l mk in
              mark_words (load ws' sh) s.book.capacity (length (swap_id i c s.book.rows)) d k (slot_word (load ws sh) d k slot_tag) (slot_word (load ws sh) d k slot_place) (slot_word (load ws sh) d k slot_position)
              (slot_word (load ws' sh) d k slot_tag) (slot_word (load ws' sh) d k slot_place) (slot_word (load ws' sh) d k slot_position) (slot_same d k slot_tag) (slot_same d k slot_place) (slot_same d k slot_position)
              (rw (length_swap i c s.book.rows) (⊎_elim
              (λ (z : slot_word (load ws sh) d k slot_place ≡ x). let g = marked d k l mk z in
              mark_words (load ws' sh) s.book.capacity (length s.book.rows) d k (slot_word (load ws sh) d k slot_tag) x (slot_word (load ws sh) d k slot_position)
              (slot_word (load ws sh) d k slot_tag) (slot_word (load ws sh) d k slot_place) (slot_word (load ws sh) d k slot_position) refl z refl
              (a.place, rw (rank_same x) a.used, g.0, g.1, g.2, g.3))
              (λ (z : slot_word (load ws sh) d k slot_place ≡ x → ⊥).
              mark_off d k (slot_word (load ws sh) d k slot_tag) (slot_word (load ws sh) d k slot_place) (slot_word (load ws sh) d k slot_position) (length s.book.rows) z w)
              (same? (slot_word (load ws sh) d k slot_place) x)));
        })
