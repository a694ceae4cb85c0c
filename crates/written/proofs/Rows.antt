-- The book of a state's words: its rows and items, and the rows that marked slots stand in. Assumes nothing.
use Rattle.std.specs.Prelude.{◌≡◌, refl, List, [], ◌∷◌, ℕ, zero, suc, ◌+◌, ◌-◌, ◌≤◌, ◌<◌, length, get_or, eqb}
use Rattle.std.proofs.Common.{sym, ap, ◌∙◌, arith, eq-eqb, eqb-true}
use Rattle.std.proofs.Math.Option.{Option, none, some}
use Rattle.words.specs.Pick.{bool}
use Rattle.model.specs.Base.{bit, nth, occurs}
use Rattle.model.specs.State.{Sizes, till, Slot, Slot.reserved, Slot.transfer_reserved, Entry, Entry.moved, Entry.copied, Body, Body.reservation, Body.claim, Body.parcel, Body.plan, StorageSnapshot, Row, State}
use Rattle.model.specs.Book.{find, moved_of}
use Rattle.model.specs.Storage.{slots_of}
use Rattle.model.specs.Create.{max_pages}
use Rattle.model.proofs.Bounds.{slots_max_law, pages_max_law, batch_max_law}
use Rattle.model.proofs.Counting.{nth_occurs}
use Rattle.model.specs.WellFormed.{is_reserved_by, is_moving_by, in_reservation, in_claim, All, JustEnough, PlanRange, BodyRange, RowRange, frames_in, Marks, WellFormed}
use Rattle.layout.specs.Layout.{Mem, owner, row, item}
use Rattle.layout.specs.Fields.{row_id, row_kind, row_table, row_length, row_count, row_epoch, item_slot, item_operation, item_moved, item_object, item_rights, item_flags, item_granted, item_page, item_frame, item_free_slots}
use Rattle.layout.specs.Sizes.{batch_max, block_size, plan_owner}
use Rattle.representation.specs.Represents.{HandleIs, EntryIs, Items, HeldIs, BodyIs, RowsAre}
use Rattle.written.specs.Searches.{rank_of, rank_found}
use Rattle.written.specs.Words.{body_words, item_words, entry_item, handle_item, plan_item, block_words}
use Rattle.written.proofs.Entries.{word_planned}
use Rattle.written.proofs.Shows.{Shows, at_owner, at_index, at_row, at_item}

-- ---- the row of a mark

module _ (s : State) (w : Marks s) (b k g i : ℕ) where
  pub reserved_in : (s.tables b).slots k ≡ reserved g i → (ks : List ℕ) × (find i s.book.rows ≡ some (reservation b ks)) × (0 < occurs k ks)
  reserved_in e = go (find i s.book.rows) refl (w.reserved i b k ∙ ap (λ (x : Slot). bit (is_reserved_by i x)) e ∙ rw (eq-eqb i i refl))
    where
      go : (d : Option Body) → find i s.book.rows ≡ d → in_reservation b k d ≡ 1 → (ks : List ℕ) × (find i s.book.rows ≡ some (reservation b ks)) × (0 < occurs k ks)
      go none f q = absurd (omega arith)
      go (some (reservation c ks)) f q = bool (eqb b c)
          (λ z. let y : b ≡ c = eqb-true b c z in let o : occurs k ks ≡ 1 = rw z at q in (ks, f ∙ ap (λ (x : ℕ). some (reservation x ks)) (sym y), omega arith))
          (λ z. let o : 0 ≡ 1 = rw z at q in absurd (omega arith))
      go (some (claim c es)) f q = absurd (omega arith)
      go (some (parcel hs)) f q = absurd (omega arith)
      go (some (plan c n v fs)) f q = absurd (omega arith)

  pub moving_in : (s.tables b).slots k ≡ transfer_reserved g i → (es : List Entry) × (find i s.book.rows ≡ some (claim b es)) × (0 < occurs k (moved_of es))
  moving_in e = go (find i s.book.rows) refl (w.transfer_reserved i b k ∙ ap (λ (x : Slot). bit (is_moving_by i x)) e ∙ rw (eq-eqb i i refl))
    where
      go : (d : Option Body) → find i s.book.rows ≡ d → in_claim b k d ≡ 1 → (es : List Entry) × (find i s.book.rows ≡ some (claim b es)) × (0 < occurs k (moved_of es))
      go none f q = absurd (omega arith)
      go (some (reservation c ks)) f q = absurd (omega arith)
      go (some (claim c es)) f q = bool (eqb b c)
          (λ z. let y : b ≡ c = eqb-true b c z in let o : occurs k (moved_of es) ≡ 1 = rw z at q in (es, f ∙ ap (λ (x : ℕ). some (claim x es)) (sym y), omega arith))
          (λ z. let o : 0 ≡ 1 = rw z at q in absurd (omega arith))
      go (some (parcel hs)) f q = absurd (omega arith)
      go (some (plan c n v fs)) f q = absurd (omega arith)

-- ---- what a row's ranges say

pub all_at : {A : Type 0} (P : A → Type 0) (l : List A) (i : ℕ) (a : A) → All P l → nth l i ≡ some a → P a
all_at P [] i a h e = let z : ◌≡◌ {A = ℕ} 0 1 = cc in absurd (omega arith)
all_at P (x ∷ l) zero a h e = let q : x ≡ a = cc in rw q at h.0
all_at P (x ∷ l) (suc i) a h e = all_at P l i a h.1 e

pub range_of : {z : Sizes} (s : State) (w : WellFormed z s) (i : ℕ) (d : Body) → find i s.book.rows ≡ some d → BodyRange z s d
range_of {z = z} s w i d e = all_at (RowRange z s) s.book.rows (rank_of i s.book.rows) (record { id = i; body = d }) w.ranges.rows (rank_found i s.book.rows d e).1

-- a plan has no more pages than slots that are wanted
enough_few : (n : ℕ) (ps : List ℕ) → All (λ p. p < max_pages till) ps → JustEnough till n ps → length ps ≤ n
enough_few n [] a h = omega arith
enough_few n (p ∷ ps) a h = omega (arith, h.0, enough_few (n - slots_of till p) ps a.1 h.1, a.0, slots_max_law, pages_max_law)

pub plan_few : (s : State) (b n : ℕ) (w : StorageSnapshot) (fs : List ℕ) → PlanRange till s b n w fs → length w.pages ≤ batch_max
plan_few s b n w fs g = omega (arith, enough_few (n - w.free_slots) w.pages g.kept.pages g.kept.enough, g.count.1, batch_max_law)

-- ---- the words of a row

module _ (s : State) (m : Mem) (shows : Shows s m) (r : ℕ) (x : Row) (h : r < s.book.capacity) (e : nth s.book.rows r ≡ some x) where
  pub row_is : (f : ℕ) → f < block_size → m (row r f) ≡ get_or (block_words 0 x) f 0
  row_is f i = at_row s m shows r f h i ∙ rw e

  pub item_is : (j f : ℕ) → j < batch_max → f < block_size → m (item r j f) ≡ get_or (item_words x.body j) f 0
  item_is j f l i = at_item s m shows r j f h l i ∙ rw e

-- ---- the elements of a list, by number

nth_low : {A : Type 0} (l : List A) (i : ℕ) (a : A) → nth l i ≡ some a → i < length l
nth_low [] i a e = let z : ◌≡◌ {A = ℕ} 0 1 = cc in absurd (omega arith)
nth_low (x ∷ l) zero a e = omega arith
nth_low (x ∷ l) (suc i) a e = omega (arith, nth_low l i a e)

items_from : {A : Type 0} (P : ℕ → A → Type 0) (k : ℕ) (l : List A) → ((i j : ℕ) (a : A) → j ≡ k + i → nth l i ≡ some a → P j a) → Items P k l
items_from P k [] f = tt
items_from P k (x ∷ l) f = (f 0 k x (omega arith) refl, items_from P (suc k) l (λ i j a e q. f (suc i) j a (omega arith) q))

items_are : {A : Type 0} (P : ℕ → A → Type 0) (l : List A) → ((i : ℕ) (a : A) → nth l i ≡ some a → P i a) → Items P 0 l
items_are P l f = items_from P 0 l (λ i j a e q. let z : i ≡ j = omega arith in f j a (ap (λ (y : ℕ). nth l y) (sym z) ∙ q))

nth_get : (l : List ℕ) (i a : ℕ) → nth l i ≡ some a → get_or l i 0 ≡ a
nth_get [] i a e = let z : ◌≡◌ {A = ℕ} 0 1 = cc in absurd (omega arith)
nth_get (x ∷ l) zero a e = cc
nth_get (x ∷ l) (suc i) a e = nth_get l i a e

-- the words of a plan's item
plan_page : (w : StorageSnapshot) (fs : List ℕ) (j : ℕ) → (get_or (plan_item w fs j) item_page 0 ≡ get_or w.pages j 0) × (get_or (plan_item w fs j) item_frame 0 ≡ get_or fs j 0)
plan_page w fs zero = (refl, refl)
plan_page w fs (suc j) = (refl, refl)

-- ---- the rows in use

module _ (s : State) (m : Mem) (shows : Shows s m) where
  -- one row's body, by its words
  body_is : (r : ℕ) (d : Body) → BodyRange till s d → ((f : ℕ) → f < block_size - 1 → m (row r (suc f)) ≡ get_or (body_words d) f 0)
      → ((j f : ℕ) → j < batch_max → f < block_size → m (item r j f) ≡ get_or (item_words d j) f 0) → ((f : ℕ) → 0 < occurs f (frames_in d) → m (owner f) ≡ plan_owner + r) → BodyIs m r d
  body_is r (reservation b ks) g a c o = (
    a (row_kind - 1) (omega arith),
    a (row_table - 1) (omega arith),
    a (row_length - 1) (omega arith),
    items_are (λ j k. m (item r j item_slot) ≡ k) ks (λ j k e.
        c j item_slot (omega (arith, nth_low ks j k e, g.1.1, batch_max_law)) (omega arith) ∙ rw e),
  )
  body_is r (claim b es) g a c o =
      (a (row_kind - 1) (omega arith), a (row_table - 1) (omega arith), a (row_length - 1) (omega arith), items_are (EntryIs m r) es (λ j x e. each j x (omega (arith, nth_low es j x e, g.1.1, batch_max_law)) e))
    where
      each : (j : ℕ) (x : Entry) → j < batch_max → nth es j ≡ some x → EntryIs m r j x
      each j (moved k h y) l e =
          let at : (f : ℕ) → f < block_size → m (item r j f) ≡ get_or (entry_item (moved k h y)) f 0 = λ f i. c j f l i ∙ rw e in
          (at item_operation (omega arith), at item_moved (omega arith), (at item_object (omega arith), at item_rights (omega arith), at item_flags (omega arith)), at item_granted (omega arith))
      each j (copied h) l e =
          let at : (f : ℕ) → f < block_size → m (item r j f) ≡ get_or (entry_item (copied h)) f 0 = λ f i. c j f l i ∙ rw e in
          (at item_operation (omega arith), (at item_object (omega arith), at item_rights (omega arith), at item_flags (omega arith)))
  body_is r (parcel hs) g a c o = (
    a (row_kind - 1) (omega arith),
    a (row_length - 1) (omega arith),
    items_are (HandleIs m r) hs (λ j h e.
        let l : j < batch_max = omega (arith, nth_low hs j h e, g.0.1, batch_max_law) in
        let at : (f : ℕ) → f < block_size → m (item r j f) ≡ get_or (handle_item h) f 0 = λ f i. c j f l i ∙ rw e in
        (at item_object (omega arith), at item_rights (omega arith), at item_flags (omega arith))),
  )
  body_is r (plan b n w fs) g a c o =
      let few : length w.pages ≤ batch_max = plan_few s b n w fs g in record {
        kind = a (row_kind - 1) (omega arith);
        table = a (row_table - 1) (omega arith);
        count = a (row_count - 1) (omega arith);
        epoch = a (row_epoch - 1) (omega arith);
        free_slots = c 0 item_free_slots (omega arith) (omega arith);
        page_count = a (row_length - 1) (omega arith) ∙ g.held;
        pages = items_are (λ j p. m (item r j item_page) ≡ p) w.pages (λ j p e.
            c j item_page (omega (arith, nth_low w.pages j p e)) (omega arith) ∙ (plan_page w fs j).0 ∙ nth_get w.pages j p e);
        frame_count = a (row_length - 1) (omega arith);
        held = items_are (HeldIs m r) fs (λ j f e.
            (c j item_frame (omega (arith, nth_low fs j f e, g.held)) (omega arith) ∙ (plan_page w fs j).1 ∙ nth_get fs j f e, o f (nth_occurs fs j f e)));
      }

  rows_from : WellFormed till s → (i : ℕ) (rs : List Row) → ((j k : ℕ) → k ≡ i + j → nth rs j ≡ nth s.book.rows k) → i + length rs ≤ s.book.capacity → All (RowRange till s) rs → RowsAre m i rs
  rows_from w i [] n l a = tt
  rows_from w i (x ∷ rs) n l a =
      let h : i < s.book.capacity = omega arith in
      let e : nth s.book.rows i ≡ some x = sym (n 0 i (omega arith)) in
      rw (at_index s m shows i h) (
        row_is s m shows i x h e row_id (omega arith),
        body_is i x.body a.0 (λ f g. row_is s m shows i x h e (suc f) (omega arith)) (item_is s m shows i x h e)
            (λ f q. let d = word_planned s w.frames f i x e q in at_owner s m shows f d.0 ∙ d.1),
        rows_from w (suc i) rs (λ j k q. n (suc j) k (omega arith)) (omega arith) a.1,
      )

  pub rows_are : WellFormed till s → RowsAre m 0 s.book.rows
  rows_are w = rows_from w 0 s.book.rows (λ j k q. let z : k ≡ j = omega arith in rw z) (omega (arith, w.ranges.row_count)) w.ranges.rows
