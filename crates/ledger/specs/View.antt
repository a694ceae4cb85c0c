-- The book that a memory shows: its rows by rank, each read from its words. Assumes nothing.
use Rattle.std.specs.Prelude.{◌≡◌, refl, List, [], ◌∷◌, ℕ, zero, suc, ◌+◌, ◌≤◌, ◌<◌, length}
use Rattle.std.proofs.Common.{sym, ap, ◌∙◌, arith}
use Rattle.model.specs.State.{Handle, Entry, Entry.moved, Entry.copied, Body, Body.reservation, Body.claim, Body.parcel, Body.plan, StorageSnapshot, Row}
use Rattle.layout.specs.Layout.{Mem, root, owner, index, row, item}
use Rattle.layout.specs.Fields.{root_used_rows, row_id, row_kind, row_table, row_length, row_count, row_epoch, item_slot, item_operation, item_moved, item_object, item_rights, item_flags, item_granted, item_page, item_frame, item_free_slots}
use Rattle.layout.specs.Values.{kind_reservation, kind_claim, kind_parcel, kind_plan}
use Rattle.layout.specs.Sizes.{plan_owner}
use Rattle.representation.specs.Represents.{Items, HeldIs, BodyIs, HandleIs, EntryIs, RowsAre}

-- ---- the view

-- n values of a function from j on
abbrev pub from : {A : Type 0} → (ℕ → A) → ℕ → ℕ → List A
from f j zero = []
from f j (suc n) = f j ∷ from f (suc j) n

abbrev pub handle_at : Mem → ℕ → ℕ → Handle
handle_at m x j = record { object = m (item x j item_object); rights = m (item x j item_rights); flags = m (item x j item_flags) }

-- by its operation
abbrev pub entry_by : Mem → ℕ → ℕ → ℕ → Entry
entry_by m x j zero = moved (m (item x j item_moved)) (handle_at m x j) (m (item x j item_granted))
entry_by m x j (suc o) = copied (handle_at m x j)

abbrev pub item_at : Mem → ℕ → ℕ → Entry
item_at m x j = entry_by m x j (m (item x j item_operation))

-- a plan's kept snapshot and its frames
abbrev pub snapshot_at : Mem → ℕ → StorageSnapshot
snapshot_at m x = record { epoch = m (row x row_epoch); free_slots = m (item x 0 item_free_slots); pages = from (λ j. m (item x j item_page)) 0 (m (row x row_length)) }

abbrev pub frames_at : Mem → ℕ → List ℕ
frames_at m x = from (λ j. m (item x j item_frame)) 0 (m (row x row_length))

-- by what the row is
abbrev pub body_by : Mem → ℕ → ℕ → Body
body_by m x zero = parcel (from (handle_at m x) 0 (m (row x row_length)))
body_by m x (suc zero) = reservation (m (row x row_table)) (from (λ j. m (item x j item_slot)) 0 (m (row x row_length)))
body_by m x (suc (suc zero)) = claim (m (row x row_table)) (from (item_at m x) 0 (m (row x row_length)))
body_by m x (suc (suc (suc zero))) = parcel (from (handle_at m x) 0 (m (row x row_length)))
body_by m x (suc (suc (suc (suc zero)))) = plan (m (row x row_table)) (m (row x row_count)) (snapshot_at m x) (frames_at m x)
body_by m x (suc (suc (suc (suc (suc w))))) = parcel (from (handle_at m x) 0 (m (row x row_length)))

-- the same by the names of what a row is, checked
body_by_names : (m : Mem) (x : ℕ) → (body_by m x kind_reservation ≡ reservation (m (row x row_table)) (from (λ j. m (item x j item_slot)) 0 (m (row x row_length))))
    × (body_by m x kind_claim ≡ claim (m (row x row_table)) (from (item_at m x) 0 (m (row x row_length)))) × (body_by m x kind_parcel ≡ parcel (from (handle_at m x) 0 (m (row x row_length))))
    × (body_by m x kind_plan ≡ plan (m (row x row_table)) (m (row x row_count)) (snapshot_at m x) (frames_at m x))
body_by_names m x = (refl, refl, refl, refl)

abbrev pub body_at : Mem → ℕ → Body
body_at m x = body_by m x (m (row x row_kind))

abbrev pub row_at : Mem → ℕ → Row
row_at m x = record { id = m (row x row_id); body = body_at m x }

-- THE BOOK'S ROWS, by rank
abbrev pub rows_from : Mem → ℕ → ℕ → List Row
rows_from m i zero = []
rows_from m i (suc n) = row_at m (m (index i)) ∷ rows_from m (suc i) n

unfoldable pub rows_view : Mem → List Row
rows_view m = rows_from m 0 (m (root root_used_rows))

pub length_from : {A : Type 0} (f : ℕ → A) (j n : ℕ) → length (from f j n) ≡ n
length_from f j zero = refl
length_from f j (suc n) = ap suc (length_from f (suc j) n)

pub length_rows : (m : Mem) (i n : ℕ) → length (rows_from m i n) ≡ n
length_rows m i zero = refl
length_rows m i (suc n) = ap suc (length_rows m (suc i) n)

-- ---- the memory shows it

pub items_from : {A : Type 0} (P : ℕ → A → Type 0) (f : ℕ → A) (j n : ℕ) → ((i : ℕ) → j ≤ i → i < j + n → P i (f i)) → Items P j (from f j n)
items_from P f j zero h = tt
items_from P f j (suc n) h = (h j (omega arith) (omega arith), items_from P f (suc j) n (λ i a b. h i (omega arith) (omega arith)))

entry_shows : (m : Mem) (x j : ℕ) → m (item x j item_operation) ≤ 1 → EntryIs m x j (item_at m x j)
entry_shows m x j h = go (m (item x j item_operation)) refl h
  where
    go : (o : ℕ) → m (item x j item_operation) ≡ o → o ≤ 1 → EntryIs m x j (entry_by m x j o)
    go zero e l = (e, refl, (refl, refl, refl), refl)
    go (suc o) e l = (omega arith, (refl, refl, refl))

-- a claim's operations are known, and a plan's frames name its place
pub body_shows : (m : Mem) (x : ℕ) → 1 ≤ m (row x row_kind) → m (row x row_kind) ≤ kind_plan → (m (row x row_kind) ≡ kind_claim → (j : ℕ) → j < m (row x row_length) → m (item x j item_operation) ≤ 1)
    → (m (row x row_kind) ≡ kind_plan → (j : ℕ) → j < m (row x row_length) → m (owner (m (item x j item_frame))) ≡ plan_owner + x) → BodyIs m x (body_at m x)
body_shows m x lo hi ops own = go (m (row x row_kind)) refl lo hi ops own
  where
    go : (w : ℕ) → m (row x row_kind) ≡ w → 1 ≤ w → w ≤ kind_plan → (w ≡ kind_claim → (j : ℕ) → j < m (row x row_length) → m (item x j item_operation) ≤ 1)
        → (w ≡ kind_plan → (j : ℕ) → j < m (row x row_length) → m (owner (m (item x j item_frame))) ≡ plan_owner + x) → BodyIs m x (body_by m x w)
    go zero e a b f g = absurd (omega arith)
    go (suc zero) e a b f g = (e, refl, sym (length_from (λ j. m (item x j item_slot)) 0 (m (row x row_length))), items_from (λ j k. m (item x j item_slot) ≡ k) (λ j. m (item x j item_slot)) 0 (m (row x row_length)) (λ i p q. refl))
    go (suc (suc zero)) e a b f g = (e, refl, sym (length_from (item_at m x) 0 (m (row x row_length))), items_from (EntryIs m x) (item_at m x) 0 (m (row x row_length)) (λ i p q. entry_shows m x i (f refl i (omega arith))))
    go (suc (suc (suc zero))) e a b f g = (e, sym (length_from (handle_at m x) 0 (m (row x row_length))), items_from (HandleIs m x) (handle_at m x) 0 (m (row x row_length)) (λ i p q. (refl, refl, refl)))
    go (suc (suc (suc (suc zero)))) e a b f g = record {
      kind = e;
      table = refl;
      count = refl;
      epoch = refl;
      free_slots = refl;
      page_count = sym (length_from (λ j. m (item x j item_page)) 0 (m (row x row_length)));
      pages = items_from (λ j p. m (item x j item_page) ≡ p) (λ j. m (item x j item_page)) 0 (m (row x row_length)) (λ i p q. refl);
      frame_count = sym (length_from (λ j. m (item x j item_frame)) 0 (m (row x row_length)));
      held = items_from (HeldIs m x) (λ j. m (item x j item_frame)) 0 (m (row x row_length)) (λ i p q. (refl, g refl i (omega arith)));
    }
    go (suc (suc (suc (suc (suc w))))) e a b f g = absurd (omega arith)

pub rows_show : (m : Mem) (i n : ℕ) → ((r : ℕ) → i ≤ r → r < i + n → BodyIs m (m (index r)) (body_at m (m (index r)))) → RowsAre m i (rows_from m i n)
rows_show m i zero h = tt
rows_show m i (suc n) h = (refl, h i (omega arith) (omega arith), rows_show m (suc i) n (λ r a b. h r (omega arith) (omega arith)))

-- ---- what is shown is the view

handle_view : (m : Mem) (x j : ℕ) (h : Handle) → HandleIs m x j h → h ≡ handle_at m x j
handle_view m x j h p = rw (p.0, p.1, p.2)

entry_view : (m : Mem) (x j : ℕ) (y : Entry) → EntryIs m x j y → y ≡ item_at m x j
entry_view m x j (moved k h r) p = rw (p.0, p.1, p.3, handle_view m x j h p.2)
entry_view m x j (copied h) p = rw p.0 (ap copied (handle_view m x j h p.1))

items_view : {A : Type 0} (P : ℕ → A → Type 0) (f : ℕ → A) → ((j : ℕ) (y : A) → P j y → y ≡ f j) → (j : ℕ) (l : List A) → Items P j l → l ≡ from f j (length l)
items_view P f g j [] p = refl
items_view P f g j (y ∷ l) p = rw (g j y p.0) (ap (λ (t : List _). f j ∷ t) (items_view P f g (suc j) l p.1))

plan_view : (b c n k : ℕ) (w v : StorageSnapshot) (fs gs : List ℕ) → b ≡ c → n ≡ k → w.epoch ≡ v.epoch → w.free_slots ≡ v.free_slots → w.pages ≡ v.pages → fs ≡ gs
    → plan b n w fs ≡ plan c k v gs
plan_view b c n k w v fs gs p q r s t u = let e : w ≡ v = λ i. record { epoch = r i; free_slots = s i; pages = t i } in rw (p, q, e, u)

pub body_view : (m : Mem) (x : ℕ) (y : Body) → BodyIs m x y → y ≡ body_at m x
body_view m x (reservation b ks) p = rw (p.0, p.1, p.2) (ap (reservation b) (items_view (λ j k. m (item x j item_slot) ≡ k) (λ j. m (item x j item_slot)) (λ j y e. sym e) 0 ks p.3))
body_view m x (claim b es) p = rw (p.0, p.1, p.2) (ap (claim b) (items_view (EntryIs m x) (item_at m x) (entry_view m x) 0 es p.3))
body_view m x (parcel hs) p = rw (p.0, p.1) (ap parcel (items_view (HandleIs m x) (handle_at m x) (handle_view m x) 0 hs p.2))
body_view m x (plan b n w fs) p = rw p.kind (plan_view b (m (row x row_table)) n (m (row x row_count)) w (snapshot_at m x) fs (frames_at m x)
    (sym p.table) (sym p.count) (sym p.epoch) (sym p.free_slots)
    (items_view (λ j q. m (item x j item_page) ≡ q) (λ j. m (item x j item_page)) (λ j q e. sym e) 0 w.pages p.pages ∙ ap (from (λ j. m (item x j item_page)) 0) (sym p.page_count))
    (items_view (HeldIs m x) (λ j. m (item x j item_frame)) (λ j q e. sym e.0) 0 fs p.held ∙ ap (from (λ j. m (item x j item_frame)) 0) (sym p.frame_count)))

row_view : (m : Mem) (x : ℕ) (r : Row) → m (row x row_id) ≡ r.id → r.body ≡ body_at m x → r ≡ row_at m x
row_view m x r e d = rw (e, ← d)

pub rows_are_view : (m : Mem) (i : ℕ) (rs : List Row) → RowsAre m i rs → rs ≡ rows_from m i (length rs)
rows_are_view m i [] p = refl
rows_are_view m i (r ∷ rs) p =
    ap (λ (y : Row). y ∷ rs) (row_view m (m (index i)) r p.0 (body_view m (m (index i)) r.body p.1))
    ∙ ap (λ (t : List Row). row_at m (m (index i)) ∷ t) (rows_are_view m (suc i) rs p.2)
