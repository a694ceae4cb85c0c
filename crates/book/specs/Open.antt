-- A row opens: its words, then the count and the next id. Assumes nothing.
use Rattle.std.specs.Prelude.{◌≡◌, refl, List, [], ◌∷◌, ℕ, suc, ◌+◌, ◌^◌, ◌<◌, length, eqb}
use Rattle.std.proofs.Common.{sym, ap, ◌∙◌, ⊎_elim, arith}
use Rattle.std.proofs.Math.Bool.{and-false}
use Rattle.std.proofs.Math.Logic.{inl, inr}
use Rattle.std.proofs.Math.Option.{some}
use borrow.Author.Tests.{eq-eqb, ne_eqb}
use Rattle.model.specs.Base.{nth}
use Rattle.model.specs.State.{Body, Body.reservation, Body.claim, Body.parcel, Body.plan, StorageSnapshot, Row, State}
use Rattle.model.specs.Book.{add_row, spend_id}
use Rattle.invariant.proofs.BookLemmas.{length_add}
use Rattle.layout.specs.declared.Shape.{Shape}
use Rattle.layout.specs.Layout.{Addr, Mem, root, owner, index, rank, row, item, load, load_save, in_root, in_row, upds, Write.at, load_writes}
use Rattle.layout.specs.Fields.{root_next_id, root_used_rows, slot_tag, slot_place, slot_position, row_id, row_kind, row_table, row_length, row_count, row_epoch, item_slot, item_page, item_free_slots}
use Rattle.layout.specs.Values.{kind_reservation, kind_claim, kind_parcel, kind_plan}
use Rattle.representation.specs.Represents.{slot_word, HandleIs, EntryIs, Items, HeldIs, BodyIs, Represents}
use Rattle.storage.specs.Order.{same?}
use Rattle.storage.specs.Ops.{up}
use Rattle.storage.specs.Kept.{slots_kept, entries_kept, handles_kept, pages_kept, held_kept, body_kept}
use Rattle.storage.specs.Reps.{Held}
use Rattle.book.specs.Lists.{nth_below, nth_one, nth_front, nth_last}
use Rattle.book.specs.Places.{RowIs, row_of, rows_all}
use Rattle.book.specs.Whole.{Books, books_writes, books_save, book_pool, slot_kept, book_held}
use Rattle.book.specs.Ops.{spare, open_p, open_w, spend_w}
use Rattle.book.specs.Find.{RowAt}
use Rattle.book.specs.Swap.{mark_words, mark_kept}

-- a plan of n slots to be: what the further words of its row, its items and the owner words of its frames say
pub record Planned (m : Mem) (x n : ℕ) (w : StorageSnapshot) (fs : List ℕ) : Type 0 where
  pub count : m (row x row_count) ≡ n
  pub epoch : m (row x row_epoch) ≡ w.epoch
  pub free_slots : m (item x 0 item_free_slots) ≡ w.free_slots
  pub pages : Items (λ j p. m (item x j item_page) ≡ p) 0 w.pages
  pub held : Items (HeldIs m x) 0 fs

-- the words of a row to be, and its items, which stand in place x already
abbrev pub Opens : Mem → ℕ → ℕ → ℕ → ℕ → Body → Type 0
Opens m x what b n (reservation c ks) = (what ≡ kind_reservation) × (b ≡ c) × (n ≡ length ks) × Items (λ j k. m (item x j item_slot) ≡ k) 0 ks
Opens m x what b n (claim c es) = (what ≡ kind_claim) × (b ≡ c) × (n ≡ length es) × Items (EntryIs m x) 0 es
Opens m x what b n (parcel hs) = (what ≡ kind_parcel) × (n ≡ length hs) × Items (HandleIs m x) 0 hs
Opens m x what b n (plan c k w fs) = (what ≡ kind_plan) × (b ≡ c) × (n ≡ length w.pages) × (n ≡ length fs) × Planned m x k w fs

module _ (m n : Mem) (x what b c : ℕ) (its : (j f : ℕ) → n (item x j f) ≡ m (item x j f)) (rws : (f : ℕ) → row_length < f → n (row x f) ≡ m (row x f)) (own : (f : ℕ) → n (owner f) ≡ m (owner f))
    (e₁ : n (row x row_kind) ≡ what) (e₂ : n (row x row_table) ≡ b) (e₃ : n (row x row_length) ≡ c) where
  opens_body : (y : Body) → Opens m x what b c y → BodyIs n x y
  opens_body (reservation t ks) p = (e₁ ∙ p.0, e₂ ∙ p.1, e₃ ∙ p.2, slots_kept m n x its 0 ks p.3)
  opens_body (claim t es) p = (e₁ ∙ p.0, e₂ ∙ p.1, e₃ ∙ p.2, entries_kept m n x its 0 es p.3)
  opens_body (parcel hs) p = (e₁ ∙ p.0, e₃ ∙ p.1, handles_kept m n x its 0 hs p.2)
  opens_body (plan t k w fs) p = let q = p.4 in record {
    kind = e₁ ∙ p.0;
    table = e₂ ∙ p.1;
    count = rws row_count (omega arith) ∙ q.count;
    epoch = rws row_epoch (omega arith) ∙ q.epoch;
    free_slots = its 0 item_free_slots ∙ q.free_slots;
    page_count = e₃ ∙ p.2;
    pages = pages_kept m n x its 0 w.pages q.pages;
    frame_count = e₃ ∙ p.3;
    held = held_kept m n x its (λ f e. own f) 0 fs q.held;
  }

module _ (ws : List ℕ) (sh : Shape) (s : State) (h : Held ws sh s) (free : length s.book.rows < s.book.capacity) (what b c : ℕ) where
  abbrev x : ℕ
  x = spare (load ws sh)

  r : Represents sh (load ws sh) s
  r = h.reps.memory

  named : spare (load ws sh) ≡ load ws sh (index (length s.book.rows))
  named = ap (λ (i : ℕ). load ws sh (index i)) r.book.used

  low : spare (load ws sh) < s.book.capacity
  low = rw named (r.book.places (length s.book.rows) free).0

  top : load ws sh (rank (spare (load ws sh))) ≡ length s.book.rows
  top = ap (λ (z : ℕ). load ws sh (rank z)) named ∙ (r.book.places (length s.book.rows) free).1

  shows : load (open_w ws sh what b c) sh ≡ upds (load ws sh) (open_p (load ws sh) what b c)
  unfolding open_w open_p
  shows = let l : spare (load ws sh) < sh.rows = omega (arith, low, r.capacity) in
      load_writes ws sh h.reps.shaped.room (open_p (load ws sh) what b c)
      (in_row sh x row_id l (omega arith), (in_row sh x row_kind l (omega arith), (in_row sh x row_table l (omega arith), (in_row sh x row_length l (omega arith), (in_root sh root_used_rows (omega arith), (in_root sh root_next_id (omega arith), tt))))))

  sees : (a : Addr) → load (open_w ws sh what b c) sh a ≡ upds (load ws sh) (open_p (load ws sh) what b c) a
  sees a = ap (λ (k : Mem). k a) shows

  books : Books ws (open_w ws sh what b c) sh
  unfolding open_w open_p
  books = books_writes ws sh h.reps.shaped.room (open_p (load ws sh) what b c)
      (inr (inr refl), (inr (inr refl), (inr (inr refl), (inr (inr refl), (inl (refl, inr refl), (inl (refl, inl refl), tt))))))

  -- what stands where
  index_same : (i : ℕ) → load (open_w ws sh what b c) sh (index i) ≡ load ws sh (index i)
  unfolding open_p
  index_same i = sees (index i)

  rank_same : (i : ℕ) → load (open_w ws sh what b c) sh (rank i) ≡ load ws sh (rank i)
  unfolding open_p
  rank_same i = sees (rank i)

  item_same : (z j f : ℕ) → load (open_w ws sh what b c) sh (item z j f) ≡ load ws sh (item z j f)
  unfolding open_p
  item_same z j f = sees (item z j f)

  row_off : (z : ℕ) → (z ≡ spare (load ws sh) → ⊥) → (f : ℕ) → load (open_w ws sh what b c) sh (row z f) ≡ load ws sh (row z f)
  unfolding open_p
  row_off z ne f = sees (row z f) ∙ rw (ne_eqb z (spare (load ws sh)) ne, and-false (eqb f 0), and-false (eqb f 1), and-false (eqb f 2), and-false (eqb f 3))

  row_rest : (f : ℕ) → row_length < f → load (open_w ws sh what b c) sh (row (spare (load ws sh)) f) ≡ load ws sh (row (spare (load ws sh)) f)
  unfolding open_p
  row_rest f l = sees (row x f) ∙ rw (ne_eqb f 0 (λ e. omega arith), ne_eqb f 1 (λ e. omega arith), ne_eqb f 2 (λ e. omega arith), ne_eqb f 3 (λ e. omega arith))

  owner_same : (f : ℕ) → load (open_w ws sh what b c) sh (owner f) ≡ load ws sh (owner f)
  owner_same = (book_pool (load ws sh) (load (open_w ws sh what b c) sh) books.only).owners

  row_0 : load (open_w ws sh what b c) sh (row (spare (load ws sh)) row_id) ≡ load ws sh (root root_next_id)
  unfolding open_p
  row_0 = sees (row x row_id) ∙ rw (eq-eqb (spare (load ws sh)) (spare (load ws sh)) refl)

  row_1 : load (open_w ws sh what b c) sh (row (spare (load ws sh)) row_kind) ≡ what
  unfolding open_p
  row_1 = sees (row x row_kind) ∙ rw (eq-eqb (spare (load ws sh)) (spare (load ws sh)) refl)

  row_2 : load (open_w ws sh what b c) sh (row (spare (load ws sh)) row_table) ≡ b
  unfolding open_p
  row_2 = sees (row x row_table) ∙ rw (eq-eqb (spare (load ws sh)) (spare (load ws sh)) refl)

  row_3 : load (open_w ws sh what b c) sh (row (spare (load ws sh)) row_length) ≡ c
  unfolding open_p
  row_3 = sees (row x row_length) ∙ rw (eq-eqb (spare (load ws sh)) (spare (load ws sh)) refl)

  root_used : load (open_w ws sh what b c) sh (root root_used_rows) ≡ up (load ws sh (root root_used_rows))
  unfolding open_p
  root_used = sees (root root_used_rows)

  root_next : load (open_w ws sh what b c) sh (root root_next_id) ≡ up (load ws sh (root root_next_id))
  unfolding open_p
  root_next = sees (root root_next_id)

  -- a place in use is another
  apart : (z : ℕ) → load ws sh (rank z) < length s.book.rows → z ≡ spare (load ws sh) → ⊥
  apart z l q = let y : load ws sh (rank z) ≡ load ws sh (rank (spare (load ws sh))) = ap (λ (v : ℕ). load ws sh (rank v)) q in omega (arith, top)

  -- the row's words then
  opened_body : (y : Body) → Opens (load ws sh) (spare (load ws sh)) what b c y → BodyIs (load (open_w ws sh what b c) sh) (spare (load ws sh)) y
  opened_body = opens_body (load ws sh) (load (open_w ws sh what b c) sh) (spare (load ws sh)) what b c (item_same (spare (load ws sh))) row_rest owner_same row_1 row_2 row_3

  opened_row : (y : Body) → Opens (load ws sh) (spare (load ws sh)) what b c y → (j : ℕ) (q : Row) → nth (add_row y s).book.rows j ≡ some q → RowIs (load (open_w ws sh what b c) sh) j q
  opened_row y p j q e = ⊎_elim
      (λ (z : j ≡ length s.book.rows).
      let d : record { id = s.book.next; body = y } ≡ q
      = nth_one (add_row y s).book.rows j (record { id = s.book.next; body = y }) q (ap (nth (add_row y s).book.rows) z ∙ nth_last s.book.rows (record { id = s.book.next; body = y })) e in
      let g : load (open_w ws sh what b c) sh (index j) ≡ spare (load ws sh) = index_same j ∙ ap (λ (i : ℕ). load ws sh (index i)) z ∙ sym named in
      rw (← d, g) (row_0 ∙ r.book.next, opened_body y p))
      (λ (z : j ≡ length s.book.rows → ⊥).
      let l : j < length s.book.rows = let i = nth_below (add_row y s).book.rows j q e in let k = length_add s.book.rows (record { id = s.book.next; body = y }) in omega arith in
      let e' : nth s.book.rows j ≡ some q = sym (nth_front s.book.rows (record { id = s.book.next; body = y } ∷ []) j l) ∙ e in
      let w = row_of (load ws sh) s.book.rows r.book.rows j q e' in
      let ne : load ws sh (index j) ≡ spare (load ws sh) → ⊥ = apart (load ws sh (index j)) (let i = (r.book.places j (omega (arith, free))).1 in omega arith) in
      rw (index_same j) (
        row_off (load ws sh (index j)) ne row_id ∙ w.0,
        body_kept (load ws sh) (load (open_w ws sh what b c) sh) (load ws sh (index j)) (item_same (load ws sh (index j))) (row_off (load ws sh (index j)) ne) (λ f d. owner_same f) q.body w.1,
      ))
      (same? j (length s.book.rows))

  -- A ROW OPENS
  module _ (y : Body) (p : Opens (load ws sh) (spare (load ws sh)) what b c y) (left : s.book.next + 1 < 2 ^ 64) where
    pub open_held : Held (open_w ws sh what b c) sh (add_row y s)
    open_held =
        let rs : List Row = (add_row y s).book.rows in
        let more : length rs ≡ suc (length s.book.rows) = length_add s.book.rows (record { id = s.book.next; body = y }) in
        let o = slot_kept (load ws sh) (load (open_w ws sh what b c) sh) books.only in
        let few = h.reps.shaped.limits.few_rows in
        book_held ws (open_w ws sh what b c) sh s (add_row y s).book h books refl
        (λ d l k mk. row_off (slot_word (load ws sh) d k slot_place) (apart (slot_word (load ws sh) d k slot_place) (r.book.marks d k l mk).1) row_id)
        (record {
          next = root_next ∙ ap up r.book.next ∙ omega arith;
          used = root_used ∙ ap up r.book.used ∙ omega (arith, more, r.capacity);
          rows = rows_all (load (open_w ws sh what b c) sh) rs (opened_row y p);
          places = λ j l. rw (index_same j) ((r.book.places j l).0, rank_same (load ws sh (index j)) ∙ (r.book.places j l).1);
          marks = λ d k l mk. let w = r.book.marks d k l mk in
              let z : ℕ = slot_word (load ws sh) d k slot_place in
              let ne = apart z w.1 in
              mark_words (load (open_w ws sh what b c) sh) s.book.capacity (length rs) d k (slot_word (load ws sh) d k slot_tag) (slot_word (load ws sh) d k slot_place) (slot_word (load ws sh) d k slot_position)
              (slot_word (load (open_w ws sh what b c) sh) d k slot_tag) (slot_word (load (open_w ws sh what b c) sh) d k slot_place) (slot_word (load (open_w ws sh what b c) sh) d k slot_position) (o d k slot_tag) (o d k slot_place) (o d k slot_position)
              (mark_kept (load ws sh) (load (open_w ws sh what b c) sh) s.book.capacity (length s.book.rows) (length rs) d k (slot_word (load ws sh) d k slot_tag) (slot_word (load ws sh) d k slot_place) (slot_word (load ws sh) d k slot_position)
              (let e = rank_same z in omega (arith, w.1, more)) (row_off z ne) (item_same z) w);
        })

    -- it stands in the place that was spare, under the id that was next
    pub open_row : RowAt (load (open_w ws sh what b c) sh) (add_row y s) (spare (load ws sh)) s.book.next y
    open_row =
        let rs : List Row = (add_row y s).book.rows in
        let more : length rs ≡ suc (length s.book.rows) = length_add s.book.rows (record { id = s.book.next; body = y }) in
        let e : load (open_w ws sh what b c) sh (rank (spare (load ws sh))) ≡ length s.book.rows = rank_same (spare (load ws sh)) ∙ top in
        record {
          place = low;
          used = omega (arith, more);
          named = rw e (index_same (length s.book.rows) ∙ sym named);
          listed = rw e (nth_last s.book.rows (record { id = s.book.next; body = y }));
          id = row_0 ∙ r.book.next;
          body = opened_body y p;
        }

-- AN ID IS SPENT
module _ (ws : List ℕ) (sh : Shape) (s : State) (h : Held ws sh s) where
  spend_books : Books ws (spend_w ws sh) sh
  unfolding spend_w
  spend_books = books_save ws sh h.reps.shaped.room (root root_next_id) (up (load ws sh (root root_next_id))) (inl (refl, inl refl))

  spend_sees : (a : Addr) → load (spend_w ws sh) sh a ≡ upds (load ws sh) (at (root root_next_id) (up (load ws sh (root root_next_id))) ∷ []) a
  unfolding spend_w
  spend_sees a = load_save ws sh h.reps.shaped.room (root root_next_id) (up (load ws sh (root root_next_id))) (in_root sh root_next_id (omega arith)) a

  pub spend_held : s.book.next + 1 < 2 ^ 64 → Held (spend_w ws sh) sh (spend_id s)
  spend_held left =
      let q = h.reps.memory.book in
      let o = slot_kept (load ws sh) (load (spend_w ws sh) sh) spend_books.only in
      book_held ws (spend_w ws sh) sh s (spend_id s).book h spend_books refl
      (λ d l k mk. spend_sees (row (slot_word (load ws sh) d k slot_place) row_id))
      (record {
        next = spend_sees (root root_next_id) ∙ ap up q.next ∙ omega arith;
        used = spend_sees (root root_used_rows) ∙ q.used;
        rows = rows_all (load (spend_w ws sh) sh) s.book.rows (λ j y e. let w = row_of (load ws sh) s.book.rows q.rows j y e in
            rw (spend_sees (index j)) (
              spend_sees (row (load ws sh (index j)) row_id) ∙ w.0,
              body_kept (load ws sh) (load (spend_w ws sh) sh) (load ws sh (index j)) (λ i f. spend_sees (item (load ws sh (index j)) i f)) (λ f. spend_sees (row (load ws sh (index j)) f)) (λ f d. spend_sees (owner f)) y.body w.1,
            ));
        places = λ j l. rw (spend_sees (index j)) ((q.places j l).0, spend_sees (rank (load ws sh (index j))) ∙ (q.places j l).1);
        marks = λ d k l mk. let w = q.marks d k l mk in let z : ℕ = slot_word (load ws sh) d k slot_place in
            mark_words (load (spend_w ws sh) sh) s.book.capacity (length s.book.rows) d k (slot_word (load ws sh) d k slot_tag) (slot_word (load ws sh) d k slot_place) (slot_word (load ws sh) d k slot_position)
            (slot_word (load (spend_w ws sh) sh) d k slot_tag) (slot_word (load (spend_w ws sh) sh) d k slot_place) (slot_word (load (spend_w ws sh) sh) d k slot_position) (o d k slot_tag) (o d k slot_place) (o d k slot_position)
            (mark_kept (load ws sh) (load (spend_w ws sh) sh) s.book.capacity (length s.book.rows) (length s.book.rows) d k (slot_word (load ws sh) d k slot_tag) (slot_word (load ws sh) d k slot_place) (slot_word (load ws sh) d k slot_position)
            (rw (spend_sees (rank z)) w.1) (λ f. spend_sees (row z f)) (λ j f. spend_sees (item z j f)) w);
      })
