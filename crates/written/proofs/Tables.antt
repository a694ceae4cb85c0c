-- A table of a state's words: its head, pages, slots and orders, and the marks of its slots. Assumes nothing.
use Rattle.std.specs.Prelude.{◌≡◌, refl, Bool, true, false, not, ◌&&◌, ℕ, suc, ◌+◌, ◌-◌, ◌*◌, ◌/◌, ◌%◌, ◌<◌, length, get_or, eqb, ltb}
use Rattle.std.proofs.Common.{sym, ap, ◌∙◌, arith, ltb-true, ltb-false, lt-ltb}
use Rattle.std.proofs.Math.Option.{Option, none, some}
use Rattle.std.proofs.lemmas.Bool.{not-true}
use Rattle.words.specs.Pick.{pick, bool, clash, both}
use Rattle.model.specs.Base.{is_some, occurs}
use Rattle.model.specs.State.{till, Slot, Slot.absent, Slot.vacant, Slot.reserved, Slot.transfer_reserved, Slot.occupied, Page, Lifecycle, Lifecycle.active, Lifecycle.tearing_down, Lifecycle.retired, Table, Body, Body.reservation, Body.claim, Row, State, is_absent, is_vacant, max_slots}
use Rattle.model.specs.Storage.{busy_of}
use Rattle.model.specs.Book.{find}
use Rattle.model.proofs.Bounds.{batch_max_law}
use Rattle.model.proofs.Tests.{bit_true, bit_small}
use Rattle.model.specs.WellFormed.{is_attached, WellFormed}
use Rattle.layout.specs.Layout.{Mem, head, entry, cell, rank, row, item}
use Rattle.layout.specs.Fields.{head_page_limit, head_mask, head_lifecycle, head_cursor, head_epoch, head_pages, head_first_free, head_free_slots, head_first_empty, head_first_detached, head_first_entry, entry_frame, entry_high, entry_busy, entry_next, entry_previous, slot_tag, slot_generation, slot_next_free, slot_previous_free, slot_place, slot_position, slot_object, slot_rights, slot_flags, row_id, row_table, row_length, item_operation}
use Rattle.layout.specs.Values.{tag_reserved, tag_transfer_reserved, operation_move}
use Rattle.layout.specs.Sizes.{page_size, batch_max, entry_size, slot_size, block_size}
use Rattle.representation.specs.Represents.{entry_at, link_of, frame_of, word_in, slot_word, tagged, slot_from, slot_in, Chain, Linked, LifeIs, TableIs, is_marked}
use Rattle.written.specs.Searches.{after, before, chained, linked, place_of, place_found, moved_at, moved_found, rank_of, rank_found}
use Rattle.written.specs.Words.{entries_before, page_at, life_word, cursor_word, order_of, page_words, position_in, slot_words, slot_of, cell_words, body_words, item_words}
use Rattle.written.proofs.Entries.{table_at_law, page_at_law, frame_low, owner_held}
use Rattle.written.proofs.Shows.{Shows, at_head, at_entry, at_cell, at_rank}
use Rattle.written.proofs.Rows.{reserved_in, moving_in, row_is, item_is, range_of}

-- ---- slots and their pages

attached_is : (x : Option ℕ) → is_some x ≡ true → (f : ℕ) × (x ≡ some f)
attached_is none e = clash e refl
attached_is (some f) e = (f, refl)

vacant_there : (x : Slot) → is_vacant x ≡ true → (g : ℕ) × (x ≡ vacant g)
vacant_there absent e = clash e refl
vacant_there (vacant g) e = (g, refl)
vacant_there (reserved g i) e = clash e refl
vacant_there (transfer_reserved g i) e = clash e refl
vacant_there (occupied g h) e = clash e refl

-- a link of no frame
no_link : (x : Option ℕ) (b : Bool) → (is_some x && b) ≡ false → pick b (link_of x) 0 ≡ 0
no_link none true e = refl
no_link none false e = refl
no_link (some f) true e = clash refl e
no_link (some f) false e = refl

not-false : (b : Bool) → not b ≡ false → b ≡ true
not-false true e = refl
not-false false e = sym e

-- the order of a page
pub order_empty : (t : Table) (p : ℕ) → is_attached t p ≡ true → order_of t p ≡ t.empty
order_empty t p e = rw e

pub order_detached : (t : Table) (p : ℕ) → is_attached t p ≡ false → order_of t p ≡ t.detached
order_detached t p e = rw e

-- how a marked slot stands in its row
abbrev pub MarkIs : State → Mem → ℕ → ℕ → ℕ → ℕ → ℕ → Type 0
MarkIs s m b k tag x i =
    (x < s.book.capacity) × (m (rank x) < length s.book.rows) × (i < m (row x row_length)) × (m (row x row_table) ≡ b) × (m (item x i (tag - 1)) ≡ k) × (tag ≡ 2 → m (item x i item_operation) ≡ operation_move)

-- a slot that stands on a page
pub record There (t : Table) (k : ℕ) : Type 0 where
  pub frame : ℕ
  pub has : (t.pages (k / page_size)).frame ≡ some frame
  pub low : k < max_slots
  pub page : k / page_size < t.size

module _ (s : State) (w : WellFormed till s) where
  -- a page with a frame is one that the table has had
  pub attached_low : (b p : ℕ) → is_attached (s.tables b) p ≡ true → p < (s.tables b).size
  attached_low b p e = bool (ltb p (s.tables b).size)
      (λ q. ltb-true p (s.tables b).size q)
      (λ q. clash e (ap (λ (x : Page). is_some x.frame) (w.at_rest.pages b p (ltb-false p (s.tables b).size q))))

  pub slot_there : (b k : ℕ) → is_absent ((s.tables b).slots k) ≡ false → There (s.tables b) k
  slot_there b k e =
      let q = both (is_attached (s.tables b) (k / page_size)) (ltb k max_slots) (not-false _ (sym ((w.orders b).there k) ∙ e)) in
      let f = attached_is ((s.tables b).pages (k / page_size)).frame q.0 in
      record { frame = f.0; has = f.1; low = ltb-true k max_slots q.1; page = attached_low b (k / page_size) q.0 }

module _ (s : State) (w : WellFormed till s) (m : Mem) (shows : Shows s m) (b : ℕ) (h : b < s.table_count) where
  first_is : m (head b head_first_entry) ≡ entries_before s b
  first_is = at_head s m shows b head_first_entry h (omega arith)

  size_limit : (p : ℕ) → p < (s.tables b).size → p < (s.tables b).limit
  size_limit p l = omega (arith, (w.ranges.tables b h).size)

  entry_is : (p f : ℕ) → p < (s.tables b).size → f < entry_size → m (entry (entry_at m b p) f) ≡ get_or (page_words (s.tables b) p) f 0
  entry_is p f l i = rw first_is (at_entry s m shows b p f h (size_limit p l) i)

  frame_is : (k : ℕ) → frame_of m b k ≡ pick (ltb k max_slots) (link_of ((s.tables b).pages (k / page_size)).frame) 0
  frame_is k = ap (λ (z : ℕ). pick (ltb k max_slots) z 0) (rw (at_head s m shows b head_pages h (omega arith)) (bool (ltb (k / page_size) (s.tables b).size)
      (λ e. rw e (entry_is (k / page_size) entry_frame (ltb-true (k / page_size) (s.tables b).size e) (omega arith)))
      (λ e. rw (e, w.at_rest.pages b (k / page_size) (ltb-false (k / page_size) (s.tables b).size e)))))

  -- the words of a slot's cell
  cell_is : (k f : ℕ) → There (s.tables b) k → f < slot_size → (fr : ℕ) → ((s.tables b).pages (k / page_size)).frame ≡ some fr → m (cell fr (k % page_size) f) ≡ get_or (slot_of s b k) f 0
  cell_is k f t i fr e =
      let p : k / page_size < (s.tables b).limit = size_limit (k / page_size) t.page in
      let n : k / page_size * page_size + k % page_size ≡ k = omega arith in
      at_cell s m shows fr (k % page_size) f (frame_low s w.frames b (k / page_size) fr h p e) (omega arith) i
      ∙ ap (λ (o : Option ℕ). get_or (cell_words s o (k % page_size)) f 0) (owner_held s w.frames b (k / page_size) fr h p e)
      ∙ ap (λ (c : ℕ). get_or (slot_of s c (page_at s (entries_before s b + k / page_size) * page_size + k % page_size)) f 0) (table_at_law s b (k / page_size) h p)
      ∙ ap (λ (q : ℕ). get_or (slot_of s b (q * page_size + k % page_size)) f 0) (page_at_law s b (k / page_size) h p)
      ∙ ap (λ (j : ℕ). get_or (slot_of s b j) f 0) n

  -- the frame of a slot that stands on a page
  frame_there : (k : ℕ) (t : There (s.tables b) k) → frame_of m b k ≡ suc t.frame
  frame_there k t = frame_is k ∙ rw (lt-ltb k max_slots t.low, t.has)

  word_there : (k f : ℕ) → There (s.tables b) k → f < slot_size → slot_word m b k f ≡ get_or (slot_of s b k) f 0
  word_there k f t i = ap (λ (z : ℕ). word_in m z (k % page_size) f) (frame_there k t) ∙ cell_is k f t i t.frame t.has

  slot_word_law : (k f : ℕ) (x : Slot) → (s.tables b).slots k ≡ x → is_absent x ≡ false → f < slot_size → slot_word m b k f ≡ get_or (slot_words (s.tables b).free s.book.rows k x) f 0
  slot_word_law k f x e a i =
      word_there k f (slot_there s w b k (ap is_absent e ∙ a)) i
      ∙ ap (λ (y : Slot). get_or (slot_words (s.tables b).free s.book.rows k y) f 0) e

  slot_tagged : (k : ℕ) (x : Slot) → (s.tables b).slots k ≡ x → is_absent x ≡ false → slot_in m b k
      ≡ tagged m (get_or (slot_words (s.tables b).free s.book.rows k x) slot_tag 0) (get_or (slot_words (s.tables b).free s.book.rows k x) slot_generation 0)
      (get_or (slot_words (s.tables b).free s.book.rows k x) slot_object 0) (get_or (slot_words (s.tables b).free s.book.rows k x) slot_rights 0) (get_or (slot_words (s.tables b).free s.book.rows k x) slot_flags 0)
  slot_tagged k x e a =
      let t = slot_there s w b k (ap is_absent e ∙ a) in
      let c : (f : ℕ) → f < slot_size → m (cell t.frame (k % page_size) f) ≡ get_or (slot_words (s.tables b).free s.book.rows k x) f 0
      = λ f i. cell_is k f t i t.frame t.has ∙ ap (λ (y : Slot). get_or (slot_words (s.tables b).free s.book.rows k y) f 0) e in
      ap (λ (z : ℕ). slot_from m z (k % page_size)) (frame_there k t)
      ∙ rw (c slot_tag (omega arith), c slot_generation (omega arith), c slot_object (omega arith), c slot_rights (omega arith), c slot_flags (omega arith))

  -- the row of a mark has its id
  row_id_law : (i : ℕ) (d : Body) → find i s.book.rows ≡ some d → m (row (rank_of i s.book.rows) row_id) ≡ i
  row_id_law i d e =
      let r = rank_found i s.book.rows d e in
      row_is s m shows (rank_of i s.book.rows) (record { id = i; body = d }) (omega (arith, r.0, w.ranges.row_count)) r.1 row_id (omega arith)

  slots_are : (k : ℕ) → slot_in m b k ≡ (s.tables b).slots k
  slots_are k = go ((s.tables b).slots k) refl
    where
      go : (x : Slot) → (s.tables b).slots k ≡ x → slot_in m b k ≡ (s.tables b).slots k
      go absent e =
          let q : not (is_attached (s.tables b) (k / page_size) && ltb k max_slots) ≡ true = sym ((w.orders b).there k) ∙ ap is_absent e in
          ap (λ (z : ℕ). slot_from m z (k % page_size)) (frame_is k ∙ no_link ((s.tables b).pages (k / page_size)).frame (ltb k max_slots) (not-true _ q)) ∙ sym e
      go (vacant g) e = slot_tagged k (vacant g) e refl ∙ sym e
      go (reserved g i) e =
          let f = reserved_in s w.marks b k g i e in
          slot_tagged k (reserved g i) e refl ∙ ap (λ (j : ℕ). reserved g j) (row_id_law i (reservation b f.0) f.1) ∙ sym e
      go (transfer_reserved g i) e =
          let f = moving_in s w.marks b k g i e in
          slot_tagged k (transfer_reserved g i) e refl ∙ ap (λ (j : ℕ). transfer_reserved g j) (row_id_law i (claim b f.0) f.1) ∙ sym e
      go (occupied g x) e = slot_tagged k (occupied g x) e refl ∙ sym e

  -- ---- orders

  free_there : (k : ℕ) → 0 < occurs k (s.tables b).free → (g : ℕ) × ((s.tables b).slots k ≡ vacant g)
  free_there k o = vacant_there ((s.tables b).slots k) (bit_true (is_vacant ((s.tables b).slots k)) (omega (arith, (w.orders b).free k)))

  free_is : Chain (λ k. slot_word m b k slot_next_free) (λ k. slot_word m b k slot_previous_free) (m (head b head_first_free)) 0 (s.tables b).free
  free_is = rw (at_head s m shows b head_first_free h (omega arith)) (chained (λ k. slot_word m b k slot_next_free) (λ k. slot_word m b k slot_previous_free) 0 (s.tables b).free
      (λ k o. let v = free_there k o in slot_word_law k slot_next_free (vacant v.0) v.1 refl (omega arith))
      (λ k o. let v = free_there k o in slot_word_law k slot_previous_free (vacant v.0) v.1 refl (omega arith))
      (λ k. omega (arith, (w.orders b).free k, bit_small (is_vacant ((s.tables b).slots k)))))

  empty_there : (p : ℕ) → 0 < occurs p (s.tables b).empty → (is_attached (s.tables b) p ≡ true) × (p < (s.tables b).size)
  empty_there p o =
      let a = both (is_attached (s.tables b) p) (eqb (busy_of till (s.tables b).slots p) 0) (bit_true _ (omega (arith, (w.orders b).empty p))) in
      (a.0, attached_low s w b p a.0)

  empty_is : Chain (λ p. m (entry (entry_at m b p) entry_next)) (λ p. m (entry (entry_at m b p) entry_previous)) (m (head b head_first_empty)) 0 (s.tables b).empty
  empty_is = rw (at_head s m shows b head_first_empty h (omega arith)) (chained (λ p. m (entry (entry_at m b p) entry_next)) (λ p. m (entry (entry_at m b p) entry_previous)) 0 (s.tables b).empty
      (λ p o. let a = empty_there p o in entry_is p entry_next a.1 (omega arith) ∙ ap (after p) (order_empty (s.tables b) p a.0))
      (λ p o. let a = empty_there p o in entry_is p entry_previous a.1 (omega arith))
      (λ p. omega (arith, (w.orders b).empty p, bit_small (is_attached (s.tables b) p && eqb (busy_of till (s.tables b).slots p) 0))))

  detached_there : (p : ℕ) → 0 < occurs p (s.tables b).detached → (is_attached (s.tables b) p ≡ false) × (p < (s.tables b).size)
  detached_there p o =
      let a = both (ltb p (s.tables b).size) (not (is_attached (s.tables b) p)) (bit_true _ (omega (arith, (w.orders b).detached p))) in
      (not-true _ a.1, ltb-true p (s.tables b).size a.0)

  detached_is : Linked (λ p. m (entry (entry_at m b p) entry_next)) (m (head b head_first_detached)) (s.tables b).detached
  detached_is = rw (at_head s m shows b head_first_detached h (omega arith)) (linked (λ p. m (entry (entry_at m b p) entry_next)) (λ p. before p 0 (s.tables b).detached) _ 0 (s.tables b).detached
      (chained (λ p. m (entry (entry_at m b p) entry_next)) (λ p. before p 0 (s.tables b).detached) 0 (s.tables b).detached
      (λ p o. let a = detached_there p o in entry_is p entry_next a.1 (omega arith) ∙ ap (after p) (order_detached (s.tables b) p a.0))
      (λ p o. refl)
      (λ p. omega (arith, (w.orders b).detached p, bit_small (ltb p (s.tables b).size && not (is_attached (s.tables b) p))))))

  life_is : (l : Lifecycle) → LifeIs (life_word l) (cursor_word l) l
  life_is active = refl
  life_is (tearing_down c) = (refl, refl)
  life_is retired = refl

  pub table_is : TableIs m b (s.tables b)
  table_is = record {
    limit = at_head s m shows b head_page_limit h (omega arith);
    mask = at_head s m shows b head_mask h (omega arith);
    life = rw (at_head s m shows b head_lifecycle h (omega arith), at_head s m shows b head_cursor h (omega arith)) (life_is (s.tables b).life);
    epoch = at_head s m shows b head_epoch h (omega arith);
    size = at_head s m shows b head_pages h (omega arith);
    frame = λ p l. entry_is p entry_frame l (omega arith);
    high = λ p l. entry_is p entry_high l (omega arith);
    busy = λ p l a. entry_is p entry_busy l (omega arith);
    slots = slots_are;
    free = free_is;
    free_count = at_head s m shows b head_free_slots h (omega arith);
    empty = empty_is;
    detached = detached_is;
  }

  -- ---- marks

  mark_by : (k tag x i : ℕ) → slot_word m b k slot_tag ≡ tag → slot_word m b k slot_place ≡ x → slot_word m b k slot_position ≡ i → MarkIs s m b k tag x i
      → MarkIs s m b k (slot_word m b k slot_tag) (slot_word m b k slot_place) (slot_word m b k slot_position)
  mark_by k tag x i p q r c = rw (p, q, r) c

  -- a mark of an open row, by the row's words and its item's
  mark_at : (k tag i j : ℕ) (d : Body) → find i s.book.rows ≡ some d → j < batch_max → j < get_or (body_words d) (row_length - 1) 0 → get_or (body_words d) (row_table - 1) 0 ≡ b
      → get_or (item_words d j) (tag - 1) 0 ≡ k → tag - 1 < block_size → (tag ≡ tag_transfer_reserved → get_or (item_words d j) item_operation 0 ≡ operation_move) → MarkIs s m b k tag (rank_of i s.book.rows) j
  mark_at k tag i j d e l n p q u v =
      let r = rank_found i s.book.rows d e in
      let x : Row = record { id = i; body = d } in
      let c : rank_of i s.book.rows < s.book.capacity = omega (arith, r.0, w.ranges.row_count) in (
        c,
        rw (at_rank s m shows (rank_of i s.book.rows) c) r.0,
        omega (arith, n, row_is s m shows (rank_of i s.book.rows) x c r.1 row_length (omega arith)),
        row_is s m shows (rank_of i s.book.rows) x c r.1 row_table (omega arith) ∙ p,
        item_is s m shows (rank_of i s.book.rows) x c r.1 j (tag - 1) l u ∙ q,
        λ z. item_is s m shows (rank_of i s.book.rows) x c r.1 j item_operation l (omega arith) ∙ v z,
      )

  mark_reserved : (k g i : ℕ) → (s.tables b).slots k ≡ reserved g i → MarkIs s m b k (slot_word m b k slot_tag) (slot_word m b k slot_place) (slot_word m b k slot_position)
  mark_reserved k g i e =
      let f = reserved_in s w.marks b k g i e in
      let p = place_found k f.0 f.2 in
      mark_by k tag_reserved (rank_of i s.book.rows) (place_of k f.0) (slot_word_law k slot_tag (reserved g i) e refl (omega arith)) (slot_word_law k slot_place (reserved g i) e refl (omega arith))
      (slot_word_law k slot_position (reserved g i) e refl (omega arith) ∙ ap (position_in k) f.1)
      (mark_at k tag_reserved i (place_of k f.0) (reservation b f.0) f.1 (omega (arith, p.0, (range_of s w i (reservation b f.0) f.1).1.1, batch_max_law)) p.0 refl
      (rw p.1) (omega arith) (λ z. absurd (omega arith)))

  mark_moving : (k g i : ℕ) → (s.tables b).slots k ≡ transfer_reserved g i → MarkIs s m b k (slot_word m b k slot_tag) (slot_word m b k slot_place) (slot_word m b k slot_position)
  mark_moving k g i e =
      let f = moving_in s w.marks b k g i e in
      let p = moved_found k f.0 f.2 in
      mark_by k tag_transfer_reserved (rank_of i s.book.rows) (moved_at k f.0) (slot_word_law k slot_tag (transfer_reserved g i) e refl (omega arith)) (slot_word_law k slot_place (transfer_reserved g i) e refl (omega arith))
      (slot_word_law k slot_position (transfer_reserved g i) e refl (omega arith) ∙ ap (position_in k) f.1)
      (mark_at k tag_transfer_reserved i (moved_at k f.0) (claim b f.0) f.1 (omega (arith, p.0, (range_of s w i (claim b f.0) f.1).1.1, batch_max_law)) p.0 refl
      (rw p.3) (omega arith) (λ z. rw p.3))

  pub marks_are : (k : ℕ) → is_marked ((s.tables b).slots k) ≡ true → MarkIs s m b k (slot_word m b k slot_tag) (slot_word m b k slot_place) (slot_word m b k slot_position)
  marks_are k = go ((s.tables b).slots k) refl
    where
      go : (x : Slot) → (s.tables b).slots k ≡ x → is_marked x ≡ true → MarkIs s m b k (slot_word m b k slot_tag) (slot_word m b k slot_place) (slot_word m b k slot_position)
      go absent e q = clash q refl
      go (vacant g) e q = clash q refl
      go (reserved g i) e q = mark_reserved k g i e
      go (transfer_reserved g i) e q = mark_moving k g i e
      go (occupied g x) e q = clash q refl
