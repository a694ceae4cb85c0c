-- When words represent a state of the model: docs/formats.md, "The state's words". The words are seen as a memory, from addresses to numbers.
use Rattle.std.specs.Prelude.{◌≡◌, refl, Bool, true, false, List, [], ◌∷◌, ℕ, zero, suc, ◌+◌, ◌-◌, ◌*◌, ◌/◌, ◌%◌, ◌<◌, length, ltb}
use Rattle.std.proofs.Math.Option.{Option, none, some}
use Rattle.model.specs.Base.{pick, bit, occurs, sum}
use Rattle.model.specs.State.{till, Handle, Slot, Slot.absent, Slot.vacant, Slot.reserved, Slot.transfer_reserved, Slot.occupied, Lifecycle, Lifecycle.active, Lifecycle.tearing_down, Lifecycle.retired, Table, Class, Class.leaf, Class.rendezvous_only, Class.never, Stage, Stage.still_new, Stage.now_active, Stage.now_retired, Object, Entry, Entry.moved, Entry.copied, Body, Body.reservation, Body.claim, Body.parcel, Body.plan, StorageSnapshot, Row, State, max_slots}
use Rattle.model.specs.Storage.{busy_of}
use Rattle.model.specs.WellFormed.{is_attached, WellFormed}
use Rattle.layout.specs.declared.Shape.{Shape}
use Rattle.layout.specs.Layout.{Mem, root, head, entry, owner, group, cell, object, index, rank, row, item, load}
use Rattle.layout.specs.ShapeOf.{Shaped}
use Rattle.layout.specs.Fields.{root_next_id, root_used_rows, root_free_frames, head_page_limit, head_mask, head_lifecycle, head_cursor, head_epoch, head_pages, head_first_free, head_free_slots, head_first_empty, head_first_detached, head_first_entry, entry_frame, entry_high, entry_busy, entry_next, entry_previous, slot_tag, slot_generation, slot_next_free, slot_previous_free, slot_place, slot_position, slot_object, slot_rights, slot_flags, object_koid, object_kind, object_class, object_supported, object_exportable, object_stage, object_active, object_limit, row_id, row_kind, row_table, row_length, row_count, row_epoch, item_slot, item_operation, item_moved, item_object, item_rights, item_flags, item_granted, item_page, item_frame, item_free_slots}
use Rattle.layout.specs.Values.{tag_vacant, tag_reserved, tag_transfer_reserved, tag_occupied, kind_reservation, kind_claim, kind_parcel, kind_plan, life_active, life_tearing_down, life_retired, stage_new, stage_active, stage_retired, class_leaf, class_rendezvous_only, class_never, operation_move, operation_copy}
use Rattle.layout.specs.Sizes.{page_size, plan_owner}

-- Reading the memory

-- the number of table b's entry for page p
abbrev pub entry_at : Mem → ℕ → ℕ → ℕ
entry_at m b p = m (head b head_first_entry) + p

-- a link or a frame: 0 for none, else one more than the number
abbrev pub link_of : Option ℕ → ℕ
link_of none = 0
link_of (some n) = suc n

-- word f of a slot in a frame, given as a link; 0 where there is no frame
abbrev pub word_in : Mem → ℕ → ℕ → ℕ → ℕ
word_in m zero j f = 0
word_in m (suc fr) j f = m (cell fr j f)

-- the frame of the page that slot k of table b stands on, as a link: none beyond the pages that the table has had, and none past the last slot
abbrev pub frame_of : Mem → ℕ → ℕ → ℕ
frame_of m b k = pick (ltb k max_slots) (pick (ltb (k / page_size) (m (head b head_pages))) (m (entry (entry_at m b (k / page_size)) entry_frame)) 0) 0

-- word f of slot k of table b
abbrev pub slot_word : Mem → ℕ → ℕ → ℕ → ℕ
slot_word m b k f = word_in m (frame_of m b k) (k % page_size) f

-- a slot by its words: tag, generation and three more; a mark names a row's place, whose first word is its id
abbrev pub tagged : Mem → ℕ → ℕ → ℕ → ℕ → ℕ → Slot
tagged m zero g x y w = vacant g
tagged m (suc zero) g x y w = reserved g (m (row x row_id))
tagged m (suc (suc zero)) g x y w = transfer_reserved g (m (row x row_id))
tagged m (suc (suc (suc zero))) g x y w = occupied g (record { object = x; rights = y; flags = w })
tagged m (suc (suc (suc (suc n)))) g x y w = absent

-- the same by the tags' names, checked
pub tagged_names : (m : Mem) (g x y w : ℕ)
    → (tagged m tag_vacant g x y w ≡ vacant g) × (tagged m tag_reserved g x y w ≡ reserved g (m (row x row_id)))
    × (tagged m tag_transfer_reserved g x y w ≡ transfer_reserved g (m (row x row_id))) × (tagged m tag_occupied g x y w ≡ occupied g (record { object = x; rights = y; flags = w }))
tagged_names m g x y w = (refl, refl, refl, refl)

abbrev pub slot_from : Mem → ℕ → ℕ → Slot
slot_from m zero j = absent
slot_from m (suc fr) j = tagged m (m (cell fr j slot_tag)) (m (cell fr j slot_generation)) (m (cell fr j slot_object)) (m (cell fr j slot_rights)) (m (cell fr j slot_flags))

abbrev pub slot_in : Mem → ℕ → ℕ → Slot
slot_in m b k = slot_from m (frame_of m b k) (k % page_size)

-- Orders

-- a list linked forward by `next` and back by `prev` from the link h, where the link before the first is p
abbrev pub Chain : (ℕ → ℕ) → (ℕ → ℕ) → ℕ → ℕ → List ℕ → Type 0
Chain next prev h p [] = h ≡ 0
Chain next prev h p (x ∷ l) = (h ≡ suc x) × (prev x ≡ p) × Chain next prev (next x) (suc x) l

-- a list linked forward only
abbrev pub Linked : (ℕ → ℕ) → ℕ → List ℕ → Type 0
Linked next h [] = h ≡ 0
Linked next h (x ∷ l) = (h ≡ suc x) × Linked next (next x) l

-- Tables

abbrev pub LifeIs : ℕ → ℕ → Lifecycle → Type 0
LifeIs w c active = w ≡ life_active
LifeIs w c (tearing_down n) = (w ≡ life_tearing_down) × (c ≡ n)
LifeIs w c retired = w ≡ life_retired

pub record TableIs (m : Mem) (b : ℕ) (t : Table) : Type 0 where
  pub limit : m (head b head_page_limit) ≡ t.limit
  pub mask : m (head b head_mask) ≡ t.mask
  pub life : LifeIs (m (head b head_lifecycle)) (m (head b head_cursor)) t.life
  pub epoch : m (head b head_epoch) ≡ t.epoch
  pub size : m (head b head_pages) ≡ t.size
  pub frame : (p : ℕ) → p < t.size → m (entry (entry_at m b p) entry_frame) ≡ link_of (t.pages p).frame
  pub high : (p : ℕ) → p < t.size → m (entry (entry_at m b p) entry_high) ≡ (t.pages p).high
  pub busy : (p : ℕ) → p < t.size → is_attached t p ≡ true → m (entry (entry_at m b p) entry_busy) ≡ busy_of till t.slots p
  pub slots : (k : ℕ) → slot_in m b k ≡ t.slots k
  pub free : Chain (λ k. slot_word m b k slot_next_free) (λ k. slot_word m b k slot_previous_free) (m (head b head_first_free)) 0 t.free
  pub free_count : m (head b head_free_slots) ≡ length t.free
  pub empty : Chain (λ p. m (entry (entry_at m b p) entry_next)) (λ p. m (entry (entry_at m b p) entry_previous)) (m (head b head_first_empty)) 0 t.empty
  pub detached : Linked (λ p. m (entry (entry_at m b p) entry_next)) (m (head b head_first_detached)) t.detached

-- Frames: an owned frame names its page's entry, a free one nothing; free frames are counted in groups

abbrev pub free_in : State → ℕ → ℕ → ℕ
free_in s size g = sum size λ j. occurs (g * size + j) s.frames

pub record FramesAre (m : Mem) (s : State) : Type 0 where
  pub held : (b p f : ℕ) → b < s.table_count → p < (s.tables b).size → ((s.tables b).pages p).frame ≡ some f → m (owner f) ≡ suc (entry_at m b p)
  pub free : (f : ℕ) → 0 < occurs f s.frames → m (owner f) ≡ 0
  pub sixteens : (g : ℕ) → g * 16 < s.frame_count → m (group 0 g) ≡ free_in s 16 g
  pub hundreds : (g : ℕ) → g * 256 < s.frame_count → m (group 1 g) ≡ free_in s 256 g
  pub thousands : (g : ℕ) → g * 4096 < s.frame_count → m (group 2 g) ≡ free_in s 4096 g
  pub count : m (root root_free_frames) ≡ length s.frames

-- Objects

abbrev pub class_word : Class → ℕ
class_word leaf = class_leaf
class_word rendezvous_only = class_rendezvous_only
class_word never = class_never

abbrev pub stage_word : Stage → ℕ
stage_word still_new = stage_new
stage_word now_active = stage_active
stage_word now_retired = stage_retired

pub record ObjectIs (m : Mem) (o : ℕ) (x : Object) : Type 0 where
  pub koid : m (object o object_koid) ≡ x.koid
  pub kind : m (object o object_kind) ≡ x.kind
  pub class : m (object o object_class) ≡ class_word x.class
  pub supported : m (object o object_supported) ≡ x.supported
  pub exportable : m (object o object_exportable) ≡ bit x.exportable
  pub stage : m (object o object_stage) ≡ stage_word x.stage
  pub count : m (object o object_active) ≡ x.count
  pub limit : m (object o object_limit) ≡ x.limit

-- The book

abbrev pub HandleIs : Mem → ℕ → ℕ → Handle → Type 0
HandleIs m r j h = (m (item r j item_object) ≡ h.object) × (m (item r j item_rights) ≡ h.rights) × (m (item r j item_flags) ≡ h.flags)

abbrev pub EntryIs : Mem → ℕ → ℕ → Entry → Type 0
EntryIs m r j (moved k h x) = (m (item r j item_operation) ≡ operation_move) × (m (item r j item_moved) ≡ k) × HandleIs m r j h × (m (item r j item_granted) ≡ x)
EntryIs m r j (copied h) = (m (item r j item_operation) ≡ operation_copy) × HandleIs m r j h

-- the elements of a list in the items of a row, from j on
abbrev pub Items : {A : Type 0} → (ℕ → A → Type 0) → ℕ → List A → Type 0
Items P j [] = Unit {0}
Items P j (x ∷ xs) = P j x × Items P (suc j) xs

-- a frame that a plan holds: the frame's owner word names the row's place
abbrev pub HeldIs : Mem → ℕ → ℕ → ℕ → Type 0
HeldIs m r j f = (m (item r j item_frame) ≡ f) × (m (owner f) ≡ plan_owner + r)

-- a plan: an item for each page of its kept snapshot, with the frame that it holds for it
pub record PlanIs (m : Mem) (r b n : ℕ) (w : StorageSnapshot) (fs : List ℕ) : Type 0 where
  pub kind : m (row r row_kind) ≡ kind_plan
  pub table : m (row r row_table) ≡ b
  pub count : m (row r row_count) ≡ n
  pub epoch : m (row r row_epoch) ≡ w.epoch
  pub free_slots : m (item r 0 item_free_slots) ≡ w.free_slots
  pub page_count : m (row r row_length) ≡ length w.pages
  pub pages : Items (λ j p. m (item r j item_page) ≡ p) 0 w.pages
  pub frame_count : m (row r row_length) ≡ length fs
  pub held : Items (HeldIs m r) 0 fs

abbrev pub BodyIs : Mem → ℕ → Body → Type 0
BodyIs m r (reservation b ks) = (m (row r row_kind) ≡ kind_reservation) × (m (row r row_table) ≡ b) × (m (row r row_length) ≡ length ks) × Items (λ j k. m (item r j item_slot) ≡ k) 0 ks
BodyIs m r (claim b es) = (m (row r row_kind) ≡ kind_claim) × (m (row r row_table) ≡ b) × (m (row r row_length) ≡ length es) × Items (EntryIs m r) 0 es
BodyIs m r (parcel hs) = (m (row r row_kind) ≡ kind_parcel) × (m (row r row_length) ≡ length hs) × Items (HandleIs m r) 0 hs
BodyIs m r (plan b n w fs) = PlanIs m r b n w fs

-- the rows in use stand in the places that the index names first
abbrev pub RowsAre : Mem → ℕ → List Row → Type 0
RowsAre m i [] = Unit {0}
RowsAre m i (r ∷ rs) = (m (row (m (index i)) row_id) ≡ r.id) × BodyIs m (m (index i)) r.body × RowsAre m (suc i) rs

abbrev pub is_marked : Slot → Bool
is_marked absent = false
is_marked (vacant g) = false
is_marked (reserved g i) = true
is_marked (transfer_reserved g i) = true
is_marked (occupied g h) = false

pub record BookIs (m : Mem) (s : State) : Type 0 where
  pub next : m (root root_next_id) ≡ s.book.next
  pub used : m (root root_used_rows) ≡ length s.book.rows
  pub rows : RowsAre m 0 s.book.rows
  -- the index names each place once: a place knows where it stands in the index
  pub places : (i : ℕ) → i < s.book.capacity → (m (index i) < s.book.capacity) × (m (rank (m (index i))) ≡ i)
  -- a mark names a row in use and the position of the slot in it; in a claim a moved item stands there. Word `tag - 1` of the item names the slot:
  -- item_slot of a reservation's, item_moved of a claim's
  pub marks : (b k : ℕ) → b < s.table_count → is_marked ((s.tables b).slots k) ≡ true
      → (slot_word m b k slot_place < s.book.capacity) × (m (rank (slot_word m b k slot_place)) < length s.book.rows) × (slot_word m b k slot_position < m (row (slot_word m b k slot_place) row_length))
      × (m (row (slot_word m b k slot_place) row_table) ≡ b) × (m (item (slot_word m b k slot_place) (slot_word m b k slot_position) (slot_word m b k slot_tag - 1)) ≡ k)
      × (slot_word m b k slot_tag ≡ tag_transfer_reserved → m (item (slot_word m b k slot_place) (slot_word m b k slot_position) item_operation) ≡ operation_move)

-- The whole

pub record Represents (sh : Shape) (m : Mem) (s : State) : Type 0 where
  pub table_count : sh.tables ≡ s.table_count
  pub frame_count : sh.frames ≡ s.frame_count
  pub object_count : sh.objects ≡ s.object_count
  pub capacity : sh.rows ≡ s.book.capacity
  pub page_count : sh.pages ≡ (sum s.table_count λ b. (s.tables b).limit)
  pub first : (b : ℕ) → b < s.table_count → m (head b head_first_entry) ≡ (sum b λ c. (s.tables c).limit)
  pub tables : (b : ℕ) → b < s.table_count → TableIs m b (s.tables b)
  pub frames : FramesAre m s
  pub objects : (o : ℕ) → o < s.object_count → ObjectIs m o (s.objects o)
  pub book : BookIs m s

-- the words have the state's shape, are enough, and represent it
pub record Reps (ws : List ℕ) (sh : Shape) (s : State) : Type 0 where
  pub shaped : Shaped ws sh
  pub memory : Represents sh (load ws sh) s

-- and the state is well formed
pub record Rep (ws : List ℕ) (sh : Shape) (s : State) : Type 0 where
  pub reps : Reps ws sh s
  pub well_formed : WellFormed till s
