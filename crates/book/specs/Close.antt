-- A row leaves: its place is the first out of use, the rows after it come one rank down, and no row moves. Assumes nothing.
use Rattle.std.specs.Prelude.{◌≡◌, refl, true, List, [], ◌∷◌, ℕ, suc, ◌+◌, ◌-◌, ◌≤◌, ◌<◌, length, ltb}
use Rattle.std.proofs.Common.{sym, ap, ◌∙◌, inl, inr, ⊎_elim, arith, eq-eqb, ne_eqb, ltb-true, ltb-false}
use Rattle.std.proofs.Math.Option.{some}
use Rattle.words.specs.Pick.{bool}
use Rattle.model.specs.Base.{nth}
use Rattle.model.specs.State.{Body, Row, State}
use Rattle.model.specs.Book.{drop_id, drop_row}
use Rattle.layout.specs.declared.Shape.{Shape}
use Rattle.layout.specs.Layout.{Mem, total, root, owner, index, rank, row, item, load, in_root, in_index, in_rank, Write.at, upds, load_writes}
use Rattle.layout.specs.Fields.{root_next_id, root_used_rows, slot_tag, slot_place, slot_position, row_id}
use Rattle.representation.specs.Represents.{slot_word, is_marked, Represents}
use Rattle.storage.specs.Order.{same?}
use Rattle.storage.specs.Kept.{body_kept}
use Rattle.storage.specs.Reps.{Held}
use Rattle.book.specs.Lists.{nth_below, drop_before, drop_after, drop_one}
use Rattle.book.specs.Places.{Indexed, rank_one, RowIs, row_of, rows_all}
use Rattle.book.specs.Whole.{Books, books_then, books_writes, book_pool, slot_kept, book_held}
use Rattle.book.specs.Ops.{spare, last_of, shift_w, close_w}
use Rattle.book.specs.Find.{Fits, RowAt, indexed}
use Rattle.book.specs.Swap.{mark_words, mark_kept}
use Rattle.book.specs.Shift.{Shifted, shift_books, shifted}

-- the index after the row in place x has left: of c places, `last` was the last rank in use
pub record Left (m n : Mem) (c x last : ℕ) : Type 0 where
  pub index_low : (j : ℕ) → j < m (rank x) → n (index j) ≡ m (index j)
  pub index_in : (j : ℕ) → m (rank x) ≤ j → j < last → n (index j) ≡ m (index (j + 1))
  pub index_last : n (index last) ≡ x
  pub index_high : (j : ℕ) → last < j → n (index j) ≡ m (index j)
  pub rank_low : (z : ℕ) → z < c → m (rank z) < m (rank x) → n (rank z) ≡ m (rank z)
  pub rank_in : (z : ℕ) → z < c → m (rank x) < m (rank z) → m (rank z) ≤ last → n (rank z) ≡ m (rank z) - 1
  pub rank_x : n (rank x) ≡ last
  pub rank_high : (z : ℕ) → z < c → last < m (rank z) → n (rank z) ≡ m (rank z)
  pub rows : (z f : ℕ) → n (row z f) ≡ m (row z f)
  pub items : (z j f : ℕ) → n (item z j f) ≡ m (item z j f)
  pub next : n (root root_next_id) ≡ m (root root_next_id)
  pub used : n (root root_used_rows) ≡ last

leave : (m n : Mem) (c x last : ℕ) → x < c → m (rank x) ≤ last → Shifted m n c (m (rank x)) (last - m (rank x))
    → Left m (upds n (at (index last) x ∷ at (rank x) last ∷ at (root root_used_rows) last ∷ [])) c x last
leave m n c x last low l p =
    let other : (z : ℕ) → (m (rank z) ≡ m (rank x) → ⊥) → z ≡ x → ⊥ = λ z d q. d (ap (λ (v : ℕ). m (rank v)) q) in
    record {
      index_low = λ j a. rw (ne_eqb j last (λ q. omega arith)) (p.index_low j a);
      index_in = λ j a b. rw (ne_eqb j last (λ q. omega arith)) (p.index_in j a (omega arith));
      index_last = rw (eq-eqb last last refl);
      index_high = λ j a. rw (ne_eqb j last (λ q. omega arith)) (p.index_high j (omega arith));
      rank_low = λ z b a. rw (ne_eqb z x (other z (λ q. omega arith))) (p.rank_low z b (omega arith));
      rank_in = λ z b a d. rw (ne_eqb z x (other z (λ q. omega arith))) (p.rank_in z b a (omega arith));
      rank_x = rw (eq-eqb x x refl);
      rank_high = λ z b a. rw (ne_eqb z x (other z (λ q. omega arith))) (p.rank_high z b (omega arith));
      rows = p.rows;
      items = p.items;
      next = p.roots root_next_id;
      used = refl;
    }

pub close_books : (ws : List ℕ) (sh : Shape) (x : ℕ) → total sh ≤ length ws → Books ws (close_w ws sh x) sh
unfolding close_w
close_books ws sh x h =
    let p = shift_books ws sh (load ws sh (rank x)) (last_of (load ws sh) sh - load ws sh (rank x)) h in
    books_then ws (shift_w ws sh (load ws sh (rank x)) (last_of (load ws sh) sh - load ws sh (rank x))) (close_w ws sh x) sh p
    (books_writes (shift_w ws sh (load ws sh (rank x)) (last_of (load ws sh) sh - load ws sh (rank x))) sh (omega (arith, p.long))
    (at (index (last_of (load ws sh) sh)) x ∷ at (rank x) (last_of (load ws sh) sh) ∷ at (root root_used_rows) (last_of (load ws sh) sh) ∷ [])
    (inr (inl refl), (inr (inl refl), (inl (refl, inr refl), tt))))

close_left : (ws : List ℕ) (sh : Shape) (x : ℕ) → total sh ≤ length ws → Indexed (load ws sh) sh.rows → x < sh.rows → load ws sh (rank x) ≤ last_of (load ws sh) sh → last_of (load ws sh) sh < sh.rows
    → Left (load ws sh) (load (close_w ws sh x) sh) sh.rows x (last_of (load ws sh) sh)
unfolding close_w
close_left ws sh x h ix low l u =
    let p = shifted ws sh (load ws sh (rank x)) (last_of (load ws sh) sh - load ws sh (rank x)) h ix (omega arith) in
    let b = shift_books ws sh (load ws sh (rank x)) (last_of (load ws sh) sh - load ws sh (rank x)) h in
    let q = load_writes (shift_w ws sh (load ws sh (rank x)) (last_of (load ws sh) sh - load ws sh (rank x))) sh (omega (arith, b.long))
    (at (index (last_of (load ws sh) sh)) x ∷ at (rank x) (last_of (load ws sh) sh) ∷ at (root root_used_rows) (last_of (load ws sh) sh) ∷ [])
    (in_index sh (last_of (load ws sh) sh) u, (in_rank sh x low, (in_root sh root_used_rows (omega arith), tt))) in
    rw q (leave (load ws sh) (load (shift_w ws sh (load ws sh (rank x)) (last_of (load ws sh) sh - load ws sh (rank x))) sh) sh.rows x (last_of (load ws sh) sh) low l p)

module _ (ws : List ℕ) (sh : Shape) (s : State) (h : Held ws sh s) (f : Fits s) (x i : ℕ) (b : Body) (a : RowAt (load ws sh) s x i b) where
  abbrev rs : List Row
  rs = s.book.rows

  r : Represents sh (load ws sh) s
  r = h.reps.memory

  ix : Indexed (load ws sh) s.book.capacity
  ix = indexed sh (load ws sh) s r

  -- the last rank in use
  last_is : last_of (load ws sh) sh + 1 ≡ length s.book.rows
  last_is = omega (arith, r.book.used, r.capacity, f.room, a.used)

  fewer : length (drop_id i s.book.rows) ≡ last_of (load ws sh) sh
  fewer = omega (arith, last_is, drop_one i b 1 s.book.next s.book.rows (load ws sh (rank x)) f.rise a.listed)

  left : Left (load ws sh) (load (close_w ws sh x) sh) s.book.capacity x (last_of (load ws sh) sh)
  left = let e : s.book.capacity ≡ sh.rows = sym r.capacity in
      rw e (close_left ws sh x h.reps.shaped.room (rw e at ix) (omega (arith, a.place, r.capacity)) (omega (arith, a.used, last_is)) (omega (arith, last_is, f.room, r.capacity)))

  -- owners, rows and items keep their words, and the place is the next to open
  pub owner_same : (g : ℕ) → load (close_w ws sh x) sh (owner g) ≡ load ws sh (owner g)
  owner_same = (book_pool (load ws sh) (load (close_w ws sh x) sh) (close_books ws sh x h.reps.shaped.room).only).owners

  pub close_rows : (z f : ℕ) → load (close_w ws sh x) sh (row z f) ≡ load ws sh (row z f)
  close_rows = left.rows

  pub close_items : (z j f : ℕ) → load (close_w ws sh x) sh (item z j f) ≡ load ws sh (item z j f)
  close_items = left.items

  pub close_spare : spare (load (close_w ws sh x) sh) ≡ x
  close_spare = ap (λ (u : ℕ). load (close_w ws sh x) sh (index u)) left.used ∙ left.index_last

  -- a row in another place
  other : (z : ℕ) → z < s.book.capacity → (z ≡ x → ⊥) → load ws sh (rank z) ≡ load ws sh (rank x) → ⊥
  other z low ne e = ne (rank_one (load ws sh) s.book.capacity ix z x low a.place e)

  moved_row : (j k : ℕ) (q : Row) → load (close_w ws sh x) sh (index j) ≡ load ws sh (index k) → RowIs (load ws sh) k q → RowIs (load (close_w ws sh x) sh) j q
  moved_row j k q e w = rw e (
    left.rows (load ws sh (index k)) row_id ∙ w.0,
    body_kept (load ws sh) (load (close_w ws sh x) sh) (load ws sh (index k)) (left.items (load ws sh (index k))) (left.rows (load ws sh (index k))) (λ g d. owner_same g) q.body w.1,
  )

  closed_row : (j : ℕ) (q : Row) → nth (drop_id i s.book.rows) j ≡ some q → RowIs (load (close_w ws sh x) sh) j q
  closed_row j q e = bool (ltb j (load ws sh (rank x)))
      (λ d. let l : j < load ws sh (rank x) = ltb-true j (load ws sh (rank x)) d in
      moved_row j j q (left.index_low j l)
      (row_of (load ws sh) rs r.book.rows j q (sym (drop_before i b 1 s.book.next rs (load ws sh (rank x)) j f.rise a.listed l) ∙ e)))
      (λ d. let l : load ws sh (rank x) ≤ j = ltb-false j (load ws sh (rank x)) d in
      let u : j < last_of (load ws sh) sh = omega (arith, fewer, nth_below (drop_id i rs) j q e) in
      let z : j + 1 ≡ suc j = omega arith in
      moved_row j (suc j) q (left.index_in j l u ∙ ap (λ (v : ℕ). load ws sh (index v)) z)
      (row_of (load ws sh) rs r.book.rows (suc j) q (sym (drop_after i b 1 s.book.next rs (load ws sh (rank x)) j f.rise a.listed l) ∙ e)))

  closed_places : (j : ℕ) → j < s.book.capacity → (load (close_w ws sh x) sh (index j) < s.book.capacity) × (load (close_w ws sh x) sh (rank (load (close_w ws sh x) sh (index j))) ≡ j)
  closed_places j l = bool (ltb j (load ws sh (rank x)))
      (λ d. let u : j < load ws sh (rank x) = ltb-true j (load ws sh (rank x)) d in
      let w = r.book.places j l in
      rw (left.index_low j u) (w.0, left.rank_low (load ws sh (index j)) w.0 (omega (arith, w.1)) ∙ w.1))
      (λ d. let u : load ws sh (rank x) ≤ j = ltb-false j (load ws sh (rank x)) d in
      bool (ltb j (last_of (load ws sh) sh))
      (λ g. let v : j < last_of (load ws sh) sh = ltb-true j (last_of (load ws sh) sh) g in
      let w = r.book.places (j + 1) (omega (arith, last_is, f.room)) in
      rw (left.index_in j u v) (w.0, left.rank_in (load ws sh (index (j + 1))) w.0 (omega (arith, w.1)) (omega (arith, w.1)) ∙ omega (arith, w.1)))
      (λ g. let v : last_of (load ws sh) sh ≤ j = ltb-false j (last_of (load ws sh) sh) g in
      ⊎_elim
      (λ (y : j ≡ last_of (load ws sh) sh). let q : load (close_w ws sh x) sh (index j) ≡ x = ap (λ (v : ℕ). load (close_w ws sh x) sh (index v)) y ∙ left.index_last in
      rw q (a.place, left.rank_x ∙ sym y))
      (λ (y : j ≡ last_of (load ws sh) sh → ⊥). let w = r.book.places j l in
      let t : last_of (load ws sh) sh < j = omega arith in
      rw (left.index_high j t) (w.0, left.rank_high (load ws sh (index j)) w.0 (omega (arith, w.1)) ∙ w.1))
      (same? j (last_of (load ws sh) sh))))

  -- rows that stay in use
  under : (z : ℕ) → z < s.book.capacity → (z ≡ x → ⊥) → load ws sh (rank z) < length s.book.rows → load (close_w ws sh x) sh (rank z) < last_of (load ws sh) sh
  under z low ne l = bool (ltb (load ws sh (rank z)) (load ws sh (rank x)))
      (λ d. let u : load ws sh (rank z) < load ws sh (rank x) = ltb-true (load ws sh (rank z)) (load ws sh (rank x)) d in
      omega (arith, left.rank_low z low u, a.used, last_is))
      (λ d. let u : load ws sh (rank x) ≤ load ws sh (rank z) = ltb-false (load ws sh (rank z)) (load ws sh (rank x)) d in
      let v : load ws sh (rank x) < load ws sh (rank z) = omega (arith, other z low ne) in
      omega (arith, left.rank_in z low v (omega (arith, last_is)), last_is))

  -- slots keep their words
  pub close_slots : (d k g : ℕ) → slot_word (load (close_w ws sh x) sh) d k g ≡ slot_word (load ws sh) d k g
  close_slots = slot_kept (load ws sh) (load (close_w ws sh x) sh) (close_books ws sh x h.reps.shaped.room).only

  -- A ROW LEAVES: no marked slot names its place
  pub close_held : ((d k : ℕ) → d < s.table_count → is_marked ((s.tables d).slots k) ≡ true → slot_word (load ws sh) d k slot_place ≡ x → ⊥) → Held (close_w ws sh x) sh (drop_row i s)
  close_held unnamed =
      book_held ws (close_w ws sh x) sh s (drop_row i s).book h (close_books ws sh x h.reps.shaped.room) refl
      (λ d l k mk. left.rows (slot_word (load ws sh) d k slot_place) row_id)
      (record {
        next = left.next ∙ r.book.next;
        used = left.used ∙ sym fewer;
        rows = rows_all (load (close_w ws sh x) sh) (drop_id i s.book.rows) closed_row;
        places = closed_places;
        marks = λ d k l mk. let w = r.book.marks d k l mk in let z : ℕ = slot_word (load ws sh) d k slot_place in
            let u = under z w.0 (unnamed d k l mk) w.1 in
            mark_words (load (close_w ws sh x) sh) s.book.capacity (length (drop_id i s.book.rows)) d k (slot_word (load ws sh) d k slot_tag) (slot_word (load ws sh) d k slot_place) (slot_word (load ws sh) d k slot_position)
            (slot_word (load (close_w ws sh x) sh) d k slot_tag) (slot_word (load (close_w ws sh x) sh) d k slot_place) (slot_word (load (close_w ws sh x) sh) d k slot_position) (close_slots d k slot_tag) (close_slots d k slot_place) (close_slots d k slot_position)
            (mark_kept (load ws sh) (load (close_w ws sh x) sh) s.book.capacity (length s.book.rows) (length (drop_id i s.book.rows)) d k (slot_word (load ws sh) d k slot_tag) (slot_word (load ws sh) d k slot_place) (slot_word (load ws sh) d k slot_position)
            (omega (arith, u, fewer)) (left.rows z) (left.items z) w);
      })

  -- rows in other places stay there
  pub close_other : (z j : ℕ) (c : Body) → (z ≡ x → ⊥) → RowAt (load ws sh) s z j c → RowAt (load (close_w ws sh x) sh) (drop_row i s) z j c
  close_other z j c ne q = bool (ltb (load ws sh (rank z)) (load ws sh (rank x)))
      (λ d. let u : load ws sh (rank z) < load ws sh (rank x) = ltb-true (load ws sh (rank z)) (load ws sh (rank x)) d in
      let e : load (close_w ws sh x) sh (rank z) ≡ load ws sh (rank z) = left.rank_low z q.place u in
      stays (load ws sh (rank z)) e (left.index_low (load ws sh (rank z)) u ∙ q.named)
      (drop_before i b 1 s.book.next rs (load ws sh (rank x)) (load ws sh (rank z)) f.rise a.listed u ∙ q.listed))
      (λ d. let u : load ws sh (rank x) ≤ load ws sh (rank z) = ltb-false (load ws sh (rank z)) (load ws sh (rank x)) d in
      let v : load ws sh (rank x) < load ws sh (rank z) = omega (arith, other z q.place ne) in
      let e : load (close_w ws sh x) sh (rank z) ≡ load ws sh (rank z) - 1 = left.rank_in z q.place v (omega (arith, last_is, q.used)) in
      let g : load ws sh (rank z) - 1 + 1 ≡ load ws sh (rank z) = omega arith in
      let g' : suc (load ws sh (rank z) - 1) ≡ load ws sh (rank z) = omega arith in
      stays (load ws sh (rank z) - 1) e
      (left.index_in (load ws sh (rank z) - 1) (omega arith) (omega (arith, last_is, q.used)) ∙ ap (λ (y : ℕ). load ws sh (index y)) g ∙ q.named)
      (drop_after i b 1 s.book.next rs (load ws sh (rank x)) (load ws sh (rank z) - 1) f.rise a.listed (omega arith) ∙ ap (nth rs) g' ∙ q.listed))
    where
      stays : (k : ℕ) → load (close_w ws sh x) sh (rank z) ≡ k → load (close_w ws sh x) sh (index k) ≡ z → nth (drop_id i rs) k ≡ some (record { id = j; body = c })
          → RowAt (load (close_w ws sh x) sh) (drop_row i s) z j c
      stays k e d l = record {
        place = q.place;
        used = omega (arith, under z q.place ne q.used, fewer);
        named = rw e d;
        listed = rw e l;
        id = left.rows z row_id ∙ q.id;
        body = body_kept (load ws sh) (load (close_w ws sh x) sh) z (left.items z) (left.rows z) (λ g d. owner_same g) c q.body;
      }

  -- a row with another id stands in another place
  pub ids_places : (z j : ℕ) (c : Body) → (j ≡ i → ⊥) → RowAt (load ws sh) s z j c → z ≡ x → ⊥
  ids_places z j c ne q e = ne (sym q.id ∙ ap (λ (y : ℕ). load ws sh (row y row_id)) e ∙ a.id)
