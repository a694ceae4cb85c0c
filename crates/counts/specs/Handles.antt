-- In a represented state the handles that the words hold are the model's. Assumes nothing.
use Rattle.std.specs.Prelude.{◌≡◌, refl, true, List, [], ◌∷◌, map, ℕ, zero, suc, ◌+◌, ◌*◌, ◌/◌, ◌%◌, ◌≤◌, ◌<◌, min, length, eqb, ltb}
use Rattle.std.proofs.Common.{sym, ap, ◌∙◌, arith, ne_eqb, lt-ltb, le-ltb, ltb-true, ltb-false}
use Rattle.words.specs.Pick.{bool}
use Rattle.words.specs.Pick.{pick, eqb_sym}
use Rattle.model.specs.Base.{bit, occurs, sum}
use Rattle.model.specs.State.{till, Handle, Entry, Entry.moved, Entry.copied, Body, Body.reservation, Body.claim, Body.parcel, Body.plan, Row, State, max_slots}
use Rattle.model.specs.Storage.{slots_of}
use Rattle.model.proofs.Sums.{sum_equal, sum_zero}
use Rattle.model.specs.WellFormed.{in_slot, held_by, handles_in, in_handles, in_rows, handle_count}
use Rattle.model.proofs.Counting.{occurs_append, sum_append, sum_front, sum_cut}
use Rattle.layout.specs.declared.Shape.{Shape}
use Rattle.layout.specs.Layout.{Mem, root, head, entry, cell, index, row, item}
use Rattle.layout.specs.Fields.{root_used_rows, head_pages, head_first_entry, entry_frame, slot_tag, slot_generation, slot_object, slot_rights, slot_flags, row_kind, row_length, item_object}
use Rattle.layout.specs.Sizes.{page_size, batch_max}
use Rattle.layout.specs.Values.{tag_occupied}
use Rattle.representation.specs.Represents.{entry_at, tagged, slot_from, slot_in, HandleIs, EntryIs, Items, BodyIs, RowsAre, Represents}
use Rattle.counts.specs.Found.{gather, on_link, in_cell, in_page, in_table, holds_handles, in_row, in_book, handles}

-- ---- sums

pub occurs_gather : (o n : ℕ) (f : ℕ → List ℕ) → occurs o (gather n f) ≡ (sum n λ k. occurs o (f k))
occurs_gather o zero f = refl
occurs_gather o (suc n) f = omega (arith, occurs_append o (gather n f) (f n), occurs_gather o n f)

-- by pages of w
sum_pages : (w n : ℕ) (f : ℕ → ℕ) → sum (n * w) f ≡ (sum n λ p. sum w λ j. f (p * w + j))
sum_pages w zero f = let e : 0 * w ≡ 0 = omega arith in rw e
sum_pages w (suc n) f = let e : suc n * w ≡ n * w + w = omega arith in
    ap (λ (i : ℕ). sum i f) e ∙ sum_append (n * w) w f ∙ ap (λ (x : ℕ). x + (sum w λ j. f (n * w + j))) (sum_pages w n f)

-- a claim or a parcel in place x has at most batch_max items
abbrev pub FewHandles : Mem → ℕ → Type 0
FewHandles m x = holds_handles (m (row x row_kind)) ≡ true → m (row x row_length) ≤ batch_max

-- ---- slots

module _ (m : Mem) (o : ℕ) where
  tag_hit : (t g x y w : ℕ) → in_slot o (tagged m t g x y w) ≡ occurs o (pick (eqb t tag_occupied) (x ∷ []) [])
  tag_hit zero g x y w = refl
  tag_hit (suc zero) g x y w = refl
  tag_hit (suc (suc zero)) g x y w = refl
  tag_hit (suc (suc (suc zero))) g x y w = rw (eqb_sym x o) (omega arith)
  tag_hit (suc (suc (suc (suc t)))) g x y w = rw (ne_eqb (suc (suc (suc (suc t)))) 3 (λ e. omega arith))

  slot_hit : (fr j : ℕ) → in_slot o (slot_from m (suc fr) j) ≡ occurs o (in_cell m fr j)
  slot_hit fr j = tag_hit (m (cell fr j slot_tag)) (m (cell fr j slot_generation)) (m (cell fr j slot_object)) (m (cell fr j slot_rights)) (m (cell fr j slot_flags))

  module _ (b : ℕ) where
    abbrev at : ℕ → ℕ
    at k = in_slot o (slot_in m b k)

    at_far : (k : ℕ) → max_slots ≤ k → at k ≡ 0
    at_far k h = rw (le-ltb k max_slots h)

    at_past : (k : ℕ) → m (head b head_pages) ≤ k / page_size → at k ≡ 0
    at_past k h = bool (ltb k max_slots) (λ e. rw (e, le-ltb (k / page_size) (m (head b head_pages)) h)) (λ e. rw e)

    at_here : (p j : ℕ) → j < page_size → p < m (head b head_pages) → p * page_size + j < max_slots → at (p * page_size + j) ≡ in_slot o (slot_from m (m (entry (entry_at m b p) entry_frame)) j)
    at_here p j h i l =
        let e : (p * page_size + j) / page_size ≡ p = omega arith in let d : (p * page_size + j) % page_size ≡ j = omega arith in
        rw (lt-ltb (p * page_size + j) max_slots l, e, d, lt-ltb p (m (head b head_pages)) i)

    -- the slots of a page, c of them
    page_hit : (p c : ℕ) → c ≡ page_size → p < m (head b head_pages) → (sum c λ j. at (p * page_size + j)) ≡ occurs o (in_page m (m (head b head_first_entry)) p)
    page_hit p c u l = go (m (entry (entry_at m b p) entry_frame)) refl
      where
        n : ℕ
        n = slots_of till p

        go : (k : ℕ) → m (entry (entry_at m b p) entry_frame) ≡ k → (sum c λ j. at (p * page_size + j)) ≡ occurs o (on_link k (λ fr. gather n (in_cell m fr)))
        go zero e = sum_zero c (λ j. at (p * page_size + j)) (λ j h. bool (ltb (p * page_size + j) max_slots)
            (λ y. at_here p j (omega arith) l (ltb-true (p * page_size + j) max_slots y) ∙ rw e)
            (λ y. at_far (p * page_size + j) (ltb-false (p * page_size + j) max_slots y)))
        go (suc fr) e =
            sum_cut n c (λ j. at (p * page_size + j)) (omega arith) (λ j h i. at_far (p * page_size + j) (omega arith))
            ∙ sum_equal n (λ j. at (p * page_size + j)) (λ j. occurs o (in_cell m fr j)) (λ j h. at_here p j (omega arith) l (omega arith) ∙ rw e (slot_hit fr j))
            ∙ sym (occurs_gather o n (in_cell m fr))

    -- of a table
    table_hit : (sh : Shape) → m (head b head_pages) ≤ sh.pages → sum max_slots at ≡ occurs o (in_table m sh b)
    table_hit sh h =
        let z : ℕ = m (head b head_pages) in let e : min z sh.pages ≡ z = omega arith in
        all_slots ∙ sum_pages page_size z at ∙ sum_equal z (λ p. sum page_size λ j. at (p * page_size + j)) (λ p. occurs o (in_page m (m (head b head_first_entry)) p)) (λ p l. page_hit p page_size refl l)
        ∙ sym (ap (λ (k : ℕ). occurs o (gather k (in_page m (m (head b head_first_entry))))) e ∙ occurs_gather o z (in_page m (m (head b head_first_entry))))
      where
        all_slots : sum max_slots at ≡ sum (m (head b head_pages) * page_size) at
        all_slots = bool (ltb max_slots (m (head b head_pages) * page_size))
            (λ y. sym (sum_cut max_slots (m (head b head_pages) * page_size) at (omega (arith, ltb-true max_slots (m (head b head_pages) * page_size) y)) (λ i k q. at_far i k)))
            (λ y. sum_cut (m (head b head_pages) * page_size) max_slots at (omega (arith, ltb-false max_slots (m (head b head_pages) * page_size) y)) (λ i k q. at_past i (omega arith)))

  -- ---- rows

  abbrev one_of : ℕ → ℕ → ℕ
  one_of x j = occurs o (m (item x j item_object) ∷ [])

  -- elements that hold the objects of a row's items, from j on
  items_hit : {A : Type 0} (P : ℕ → A → Type 0) (h : A → Handle) (x : ℕ) → ((j : ℕ) (a : A) → P j a → m (item x j item_object) ≡ (h a).object) → (j : ℕ) (us : List A) → Items P j us
      → (sum (length us) λ i. one_of x (j + i)) ≡ in_handles o (map h us)
  items_hit P h x f j [] p = refl
  items_hit P h x f j (a ∷ us) p =
      let e : j + 0 ≡ j = omega arith in
      sum_front (length us) (λ i. one_of x (j + i))
      ∙ omega (
        arith,
        ap (λ (k : ℕ). one_of x k) e,
        ap (λ (k : ℕ). bit (eqb o k)) (f j a p.0),
        ap bit (eqb_sym o (h a).object),
        sum_equal (length us) (λ i. one_of x (j + suc i)) (λ i. one_of x (suc j + i)) (λ i l. let d : j + suc i ≡ suc j + i = omega arith in ap (one_of x) d),
        items_hit P h x f (suc j) us p.1,
      )

  list_hit : {A : Type 0} (P : ℕ → A → Type 0) (h : A → Handle) (x : ℕ) → ((j : ℕ) (a : A) → P j a → m (item x j item_object) ≡ (h a).object) → (us : List A) → Items P 0 us
      → m (row x row_length) ≡ length us → m (row x row_length) ≤ batch_max → occurs o (gather (min (m (row x row_length)) batch_max) (λ j. m (item x j item_object) ∷ [])) ≡ in_handles o (map h us)
  list_hit P h x f us p c l = let e : min (m (row x row_length)) batch_max ≡ length us = omega arith in
      ap (λ (n : ℕ). occurs o (gather n (λ j. m (item x j item_object) ∷ []))) e ∙ occurs_gather o (length us) (λ j. m (item x j item_object) ∷ [])
      ∙ sum_equal (length us) (one_of x) (λ i. one_of x (0 + i)) (λ i k. let d : i ≡ 0 + i = omega arith in ap (one_of x) d) ∙ items_hit P h x f 0 us p

  map_id : (hs : List Handle) → map (λ (h : Handle). h) hs ≡ hs
  map_id [] = refl
  map_id (h ∷ hs) = ap (λ (l : List Handle). h ∷ l) (map_id hs)

  body_hit : (x : ℕ) (y : Body) → BodyIs m x y → FewHandles m x → occurs o (in_row m x) ≡ in_handles o (handles_in y)
  body_hit x (reservation b ks) p l = rw p.0
  body_hit x (claim b es) p l = rw p.0 (list_hit (EntryIs m x) held_by x (λ j a q. held j a q) es p.3 p.2 (l (rw p.0)))
    where
      held : (j : ℕ) (a : Entry) → EntryIs m x j a → m (item x j item_object) ≡ (held_by a).object
      held j (moved k h r) q = q.2.0
      held j (copied h) q = q.1.0
  body_hit x (parcel hs) p l = rw p.0 (list_hit (HandleIs m x) (λ h. h) x (λ j a q. q.0) hs p.2 p.1 (l (rw p.0)) ∙ ap (in_handles o) (map_id hs))
  body_hit x (plan b n w fs) p l = rw p.kind

  rows_hit : (i : ℕ) (rs : List Row) → RowsAre m i rs → ((k : ℕ) → k < length rs → FewHandles m (m (index (i + k))))
      → (sum (length rs) λ k. occurs o (in_row m (m (index (i + k))))) ≡ in_rows o rs
  rows_hit i [] p b = refl
  rows_hit i (r ∷ rs) p b =
      let e : i + 0 ≡ i = omega arith in
      let first : occurs o (in_row m (m (index (i + 0)))) ≡ in_handles o (handles_in r.body) = rw e (body_hit (m (index i)) r.body p.1 (rw e at (b 0 (omega arith)))) in
      let shift : (k : ℕ) → i + suc k ≡ suc i + k = λ k. omega arith in
      sum_front (length rs) (λ k. occurs o (in_row m (m (index (i + k)))))
      ∙ omega (
        arith,
        first,
        sum_equal (length rs) (λ k. occurs o (in_row m (m (index (i + suc k))))) (λ k. occurs o (in_row m (m (index (suc i + k))))) (λ k l. ap (λ (z : ℕ). occurs o (in_row m (m (index z)))) (shift k)),
        rows_hit (suc i) rs p.2 (λ k l. rw (shift k) at (b (suc k) (omega arith))),
      )

-- the counts in the words that the walk goes by are in range
pub record Bounds (sh : Shape) (m : Mem) : Type 0 where
  pub pages : (b : ℕ) → b < sh.tables → m (head b head_pages) ≤ sh.pages
  pub rows : m (root root_used_rows) ≤ sh.rows
  pub items : (i : ℕ) → i < m (root root_used_rows) → FewHandles m (m (index i))

-- THE HANDLES ARE THE MODEL'S
pub handles_are : (sh : Shape) (m : Mem) (s : State) → Represents sh m s → Bounds sh m → (o : ℕ) → handles m sh o ≡ handle_count s o
unfolding handles
handles_are sh m s r n o =
    let f : ℕ → ℕ = λ i. occurs o (in_row m (m (index i))) in
    let used : min (m (root root_used_rows)) sh.rows ≡ length s.book.rows = omega (arith, n.rows, r.book.used) in
    occurs_append o (gather sh.tables (in_table m sh)) (in_book m sh)
    ∙ omega (
      arith,
      occurs_gather o sh.tables (in_table m sh),
      sum_equal sh.tables (λ b. occurs o (in_table m sh b)) (λ b. sum max_slots λ k. in_slot o ((s.tables b).slots k))
          (λ b l. sym (table_hit m o b sh (n.pages b l)) ∙ sum_equal max_slots (λ k. in_slot o (slot_in m b k)) (λ k. in_slot o ((s.tables b).slots k))
          (λ k h. ap (in_slot o) ((r.tables b (omega (arith, r.table_count))).slots k))),
      ap (λ (t : ℕ). sum t λ b. sum max_slots λ k. in_slot o ((s.tables b).slots k)) r.table_count,
      ap (λ (t : ℕ). occurs o (gather t (λ i. in_row m (m (index i))))) used,
      occurs_gather o (length s.book.rows) (λ i. in_row m (m (index i))),
      sum_equal (length s.book.rows) f (λ i. f (0 + i)) (λ i l. let d : i ≡ 0 + i = omega arith in ap f d),
      rows_hit m o 0 s.book.rows r.book.rows (λ k l. let d : 0 + k ≡ k = omega arith in rw d (n.items k (omega (arith, r.book.used)))),
    )
