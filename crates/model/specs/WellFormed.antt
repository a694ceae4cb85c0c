-- "A state is well formed exactly if": the clauses of document 01, in its order.
use Rattle.std.specs.Prelude.{◌≡◌, Bool, true, false, not, ◌&&◌, List, [], ◌∷◌, map, ℕ, zero, suc, ◌+◌, ◌-◌, ◌^◌, ◌≤◌, ◌<◌, length, eqb, ltb}
use Rattle.std.proofs.Math.Option.{Option, none, some}
use Rattle.codec.specs.Codec.{generation_limit}
use Rattle.model.specs.Base.{bit, pick, occurs, sum, is_some}
use Rattle.model.specs.State.{Sizes, Handle, Slot, Slot.absent, Slot.vacant, Slot.reserved, Slot.transfer_reserved, Slot.occupied, Page, Lifecycle, Lifecycle.active, Lifecycle.tearing_down, Lifecycle.retired, Table, Stage, Stage.still_new, Stage.now_active, Stage.now_retired, Object, Entry, Entry.moved, Entry.copied, Body, Body.reservation, Body.claim, Body.parcel, Body.plan, StorageSnapshot, Row, Book, State}
use Rattle.model.specs.State.{generation, is_vacant, is_occupied, is_absent, is_active, is_retired, no_page, no_table, no_object, max_tables, max_frames, max_objects, max_rows, max_batch, max_limit, max_slots, known_flags}
use Rattle.model.specs.Storage.{page_of, slots_of, busy_of}
use Rattle.model.specs.Create.{max_pages}
use Rattle.model.specs.Book.{find, any_open, moved_of}

-- Field ranges

pub record HandleRange (s : State) (h : Handle) : Type 0 where
  pub object : h.object < s.object_count
  pub rights : h.rights < 2 ^ 64
  pub flags : h.flags ≤ known_flags

abbrev pub SlotRange : State → Slot → Type 0
SlotRange s absent = Unit {0}
SlotRange s (vacant g) = Unit {0}
SlotRange s (reserved g i) = Unit {0}
SlotRange s (transfer_reserved g i) = Unit {0}
SlotRange s (occupied g h) = HandleRange s h

abbrev pub EntryRange : State → Entry → Type 0
EntryRange s (moved k h r) = HandleRange s h × (r < 2 ^ 64)
EntryRange s (copied h) = HandleRange s h

abbrev pub All {ℓ} : {A : Type ℓ} → (A → Type 0) → List A → Type 0
All P [] = Unit {0}
All P (x ∷ xs) = P x × All P xs

-- a batch has 1 to 64 slots, items or handles
abbrev pub Batch {ℓ} : {A : Type ℓ} → List A → Type 0
Batch l = (1 ≤ length l) × (length l ≤ max_batch)

abbrev pub Rising : List ℕ → Type 0
Rising [] = Unit {0}
Rising (x ∷ []) = Unit {0}
Rising (x ∷ y ∷ ys) = (x < y) × Rising (y ∷ ys)

-- pages that make room for n slots, and none that is not needed for it
abbrev pub JustEnough : Sizes → ℕ → List ℕ → Type 0
JustEnough z n [] = n ≡ 0
JustEnough z n (p ∷ ps) = (1 ≤ n) × JustEnough z (n - slots_of z p) ps

-- a kept snapshot of n slots: its pages are those that are wanted beside its free slots
pub record SnapshotRange (z : Sizes) (n : ℕ) (w : StorageSnapshot) : Type 0 where
  pub epoch : w.epoch < 2 ^ 64
  pub free_slots : w.free_slots ≤ max_slots
  pub pages : All (λ p. p < max_pages z) w.pages
  pub enough : JustEnough z (n - w.free_slots) w.pages

-- a plan of 1 to 64 slots. "The state check counts a plan's frames as held by it, as many as its kept snapshot needs"; they rise
pub record PlanRange (z : Sizes) (s : State) (b n : ℕ) (w : StorageSnapshot) (fs : List ℕ) : Type 0 where
  pub table : b < s.table_count
  pub count : (1 ≤ n) × (n ≤ max_batch)
  pub kept : SnapshotRange z n w
  pub held : length fs ≡ length w.pages
  pub rising : Rising fs

abbrev pub BodyRange : Sizes → State → Body → Type 0
BodyRange z s (reservation b ks) = (b < s.table_count) × Batch ks
BodyRange z s (claim b es) = (b < s.table_count) × Batch es × All (EntryRange s) es
BodyRange z s (parcel hs) = Batch hs × All (HandleRange s) hs
BodyRange z s (plan b n w fs) = PlanRange z s b n w fs

abbrev pub RowRange : Sizes → State → Row → Type 0
RowRange z s r = BodyRange z s r.body

-- a teardown cursor stands at a slot or past the last
abbrev pub LifeRange : Lifecycle → Type 0
LifeRange active = Unit {0}
LifeRange (tearing_down c) = c ≤ max_slots
LifeRange retired = Unit {0}

-- "limits and field ranges hold"
pub record TableRange (z : Sizes) (s : State) (t : Table) : Type 0 where
  pub limit : (1 ≤ t.limit) × (t.limit ≤ max_pages z)
  pub size : t.size ≤ t.limit
  pub mask : t.mask < 2 ^ 56
  pub epoch : t.epoch < 2 ^ 64
  pub life : LifeRange t.life
  pub high : (p : ℕ) → p < t.size → (1 ≤ (t.pages p).high) × ((t.pages p).high ≤ generation_limit)
  pub slots : (k : ℕ) → SlotRange s (t.slots k)

pub record ObjectRange (x : Object) : Type 0 where
  pub koid : (1 ≤ x.koid) × (x.koid < 2 ^ 64)
  pub kind : x.kind < 2 ^ 32
  pub supported : x.supported < 2 ^ 64
  pub limit : x.limit ≤ max_limit

pub record Ranges (z : Sizes) (s : State) : Type 0 where
  pub table_count : (1 ≤ s.table_count) × (s.table_count ≤ max_tables)
  pub frame_count : s.frame_count ≤ max_frames
  pub object_count : (1 ≤ s.object_count) × (s.object_count ≤ max_objects)
  pub capacity : (1 ≤ s.book.capacity) × (s.book.capacity ≤ max_rows)
  pub row_count : length s.book.rows ≤ s.book.capacity
  pub tables : (b : ℕ) → b < s.table_count → TableRange z s (s.tables b)
  pub objects : (o : ℕ) → o < s.object_count → ObjectRange (s.objects o)
  pub rows : All (RowRange z s) s.book.rows

-- "each attached page has a frame of its own and all other frames are free", but for those that a plan holds

abbrev pub is_frame : Option ℕ → ℕ → Bool
is_frame none f = false
is_frame (some g) f = eqb f g

-- how many pages have the frame
abbrev pub pages_with : State → ℕ → ℕ
pages_with s f = sum s.table_count λ b. sum (s.tables b).limit λ p. bit (is_frame ((s.tables b).pages p).frame f)

-- a number for each row's body, added up
abbrev pub over_rows : (Body → ℕ) → List Row → ℕ
over_rows g [] = 0
over_rows g (r ∷ rs) = g r.body + over_rows g rs

-- the frames that a row holds: a plan's
abbrev pub frames_in : Body → List ℕ
frames_in (reservation b ks) = []
frames_in (claim b es) = []
frames_in (parcel hs) = []
frames_in (plan b n w fs) = fs

-- how often the frame is held by a plan
abbrev pub plans_with : List Row → ℕ → ℕ
plans_with rs f = over_rows (λ b. occurs f (frames_in b)) rs

-- each frame has one page, is held by one plan, or is free
pub record Frames (s : State) : Type 0 where
  pub once : (f : ℕ) → pages_with s f + plans_with s.book.rows f + occurs f s.frames ≡ bit (ltb f s.frame_count)
  pub rising : Rising s.frames

-- "the free order holds every vacant slot once and nothing else, and the empty and detached pages' orders every such page once and
-- nothing else"; and a slot stands exactly on each place of an attached page

abbrev pub is_attached : Table → ℕ → Bool
is_attached t p = is_some (t.pages p).frame

pub record Orders (z : Sizes) (t : Table) : Type 0 where
  pub there : (k : ℕ) → is_absent (t.slots k) ≡ not (is_attached t (page_of z k) && ltb k max_slots)
  pub free : (k : ℕ) → occurs k t.free ≡ bit (is_vacant (t.slots k))
  pub empty : (p : ℕ) → occurs p t.empty ≡ bit (is_attached t p && eqb (busy_of z t.slots p) 0)
  pub detached : (p : ℕ) → occurs p t.detached ≡ bit (ltb p t.size && not (is_attached t p))

-- "each generation is 1 to the limit and not above its page's high mark"
abbrev pub Generations : Sizes → Table → Type 0
Generations z t = (k : ℕ) → is_absent (t.slots k) ≡ false → (1 ≤ generation (t.slots k)) × (generation (t.slots k) ≤ generation_limit) × (generation (t.slots k) ≤ (t.pages (page_of z k)).high)

-- "stored counts equal what they count, object counts included": of the counts the model stores only the objects'

abbrev pub of_object : ℕ → Handle → ℕ
of_object o h = bit (eqb h.object o)

abbrev pub in_slot : ℕ → Slot → ℕ
in_slot o absent = 0
in_slot o (vacant g) = 0
in_slot o (reserved g i) = 0
in_slot o (transfer_reserved g i) = 0
in_slot o (occupied g h) = of_object o h

abbrev pub held_by : Entry → Handle
held_by (moved k h r) = h
held_by (copied h) = h

abbrev pub handles_in : Body → List Handle
handles_in (reservation b ks) = []
handles_in (claim b es) = map held_by es
handles_in (parcel hs) = hs
handles_in (plan b n w fs) = []

abbrev pub in_handles : ℕ → List Handle → ℕ
in_handles o [] = 0
in_handles o (h ∷ hs) = of_object o h + in_handles o hs

abbrev pub in_rows : ℕ → List Row → ℕ
in_rows o rs = over_rows (λ b. in_handles o (handles_in b)) rs

-- the handles of an object: in occupied slots, open claims and parcels
abbrev pub handle_count : State → ℕ → ℕ
handle_count s o = (sum s.table_count λ b. sum max_slots λ k. in_slot o ((s.tables b).slots k)) + in_rows o s.book.rows

-- "a new object has count 0, an active one more, and none is above its limit"
abbrev pub StageCount : Stage → ℕ → Type 0
StageCount still_new n = n ≡ 0
StageCount now_active n = 1 ≤ n
StageCount now_retired n = Unit {0}

pub record Counts (s : State) : Type 0 where
  pub counted : (o : ℕ) → o < s.object_count → (s.objects o).count ≡ handle_count s o
  pub staged : (o : ℕ) → o < s.object_count → StageCount (s.objects o).stage (s.objects o).count
  pub within : (o : ℕ) → o < s.object_count → (s.objects o).count ≤ (s.objects o).limit

-- "a table not active has no open reservation or claim, and a retired one no occupied slot"
pub record Lifecycles (s : State) : Type 0 where
  pub closing : (b : ℕ) → is_active (s.tables b).life ≡ false → any_open b s.book.rows ≡ false
  pub closed : (b k : ℕ) → is_retired (s.tables b).life ≡ true → is_occupied ((s.tables b).slots k) ≡ false

-- "row ids are 1 or more and rise below the next id, itself 1 or more"
abbrev pub IdsRise : ℕ → List Row → ℕ → Type 0
IdsRise lo [] next = lo ≤ next
IdsRise lo (r ∷ rs) next = (lo ≤ r.id) × IdsRise (suc r.id) rs next

pub record Ids (s : State) : Type 0 where
  pub rise : IdsRise 1 s.book.rows s.book.next
  pub next : s.book.next < 2 ^ 64

-- "each Reserved slot stands once in one open reservation, each TransferReserved slot once in one open claim, and each row's slots are so marked"

abbrev pub is_reserved_by : ℕ → Slot → Bool
is_reserved_by i absent = false
is_reserved_by i (vacant g) = false
is_reserved_by i (reserved g j) = eqb i j
is_reserved_by i (transfer_reserved g j) = false
is_reserved_by i (occupied g h) = false

abbrev pub is_moving_by : ℕ → Slot → Bool
is_moving_by i absent = false
is_moving_by i (vacant g) = false
is_moving_by i (reserved g j) = false
is_moving_by i (transfer_reserved g j) = eqb i j
is_moving_by i (occupied g h) = false

-- how often a slot of a table stands in a row, if that is a reservation; and if it is a claim
abbrev pub in_reservation : ℕ → ℕ → Option Body → ℕ
in_reservation b k none = 0
in_reservation b k (some (reservation c ks)) = pick (eqb b c) (occurs k ks) 0
in_reservation b k (some (claim c es)) = 0
in_reservation b k (some (parcel hs)) = 0
in_reservation b k (some (plan c n w fs)) = 0

abbrev pub in_claim : ℕ → ℕ → Option Body → ℕ
in_claim b k none = 0
in_claim b k (some (reservation c ks)) = 0
in_claim b k (some (claim c es)) = pick (eqb b c) (occurs k (moved_of es)) 0
in_claim b k (some (parcel hs)) = 0
in_claim b k (some (plan c n w fs)) = 0

pub record Marks (s : State) : Type 0 where
  pub reserved : (i b k : ℕ) → in_reservation b k (find i s.book.rows) ≡ bit (is_reserved_by i ((s.tables b).slots k))
  pub transfer_reserved : (i b k : ℕ) → in_claim b k (find i s.book.rows) ≡ bit (is_moving_by i ((s.tables b).slots k))

-- "words of free rows and free frames, and fields out of use, don't count": here they have one value each
pub record AtRest (s : State) : Type 0 where
  pub tables : (b : ℕ) → s.table_count ≤ b → s.tables b ≡ no_table
  pub pages : (b p : ℕ) → (s.tables b).size ≤ p → (s.tables b).pages p ≡ no_page
  pub objects : (o : ℕ) → s.object_count ≤ o → s.objects o ≡ no_object

pub record WellFormed (z : Sizes) (s : State) : Type 0 where
  pub ranges : Ranges z s
  pub frames : Frames s
  pub orders : (b : ℕ) → Orders z (s.tables b)
  pub generations : (b : ℕ) → Generations z (s.tables b)
  pub counts : Counts s
  pub lifecycles : Lifecycles s
  pub ids : Ids s
  pub marks : Marks s
  pub at_rest : AtRest s

-- "Two states are equal when every field in use is equal": with fields out of use at rest, they are one state
abbrev pub Equal : State → State → Type 0
Equal s u = s ≡ u
