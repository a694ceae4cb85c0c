-- The state of document 01: tables, objects, frames and the book.
use Rattle.std.specs.Prelude.{Bool, true, false, List, [], ◌∷◌, ℕ, ◌+◌, ◌-◌, ◌*◌, ◌/◌, ◌^◌, min, eqb}
use Rattle.std.proofs.Math.Option.{Option, none, some}
use Rattle.codec.specs.Codec.{slot_limit}
use Rattle.model.specs.Base.{pick, put}

-- "slots in pages of 64 .. scans of at most 8 entries or 256 slots": the sizes, parameters of all that follows
pub record Sizes : Type 0 where
  pub page_slots : ℕ
  pub scan_entries : ℕ
  pub scan_slots : ℕ

-- the till's: 64, 8 and 256
abbrev pub till : Sizes
till = record { page_slots = 64; scan_entries = 8; scan_slots = 256 }

-- the limits of document 01, "Limits" and "Added by us"
unfoldable pub max_tables : ℕ
max_tables = 16

unfoldable pub max_frames : ℕ
max_frames = 65535

unfoldable pub max_objects : ℕ
max_objects = 4096

unfoldable pub max_rows : ℕ
max_rows = 256

-- the most slots of a batch
unfoldable pub max_batch : ℕ
max_batch = 64

-- an object's highest limit
unfoldable pub max_limit : ℕ
max_limit = 4294967295

-- "Known flags: bits 0 and 1 of 32"
unfoldable pub known_flags : ℕ
known_flags = 3

-- "ReservationIdExhausted: next id is 2^64 - 1"
unfoldable pub last_id : ℕ
last_id = 18446744073709551615

-- "Slot index is at most 16,777,214": so many slots a table has at most
unfoldable pub max_slots : ℕ
max_slots = slot_limit + 1

-- a handle: the object by number, its rights, its flags
pub record Handle : Type 0 where
  pub object : ℕ
  pub rights : ℕ
  pub flags : ℕ

-- a slot: Vacant, Reserved, TransferReserved or Occupied, with its generation; a mark carries the row's id.
-- `absent` is a slot of no attached page
pub data Slot : Type 0 where
  absent : Slot
  vacant : ℕ → Slot
  reserved : ℕ → ℕ → Slot
  transfer_reserved : ℕ → ℕ → Slot
  occupied : ℕ → Handle → Slot

abbrev pub generation : Slot → ℕ
generation absent = 0
generation (vacant g) = g
generation (reserved g i) = g
generation (transfer_reserved g i) = g
generation (occupied g h) = g

abbrev pub is_vacant : Slot → Bool
is_vacant absent = false
is_vacant (vacant g) = true
is_vacant (reserved g i) = false
is_vacant (transfer_reserved g i) = false
is_vacant (occupied g h) = false

abbrev pub is_occupied : Slot → Bool
is_occupied absent = false
is_occupied (vacant g) = false
is_occupied (reserved g i) = false
is_occupied (transfer_reserved g i) = false
is_occupied (occupied g h) = true

abbrev pub is_absent : Slot → Bool
is_absent absent = true
is_absent (vacant g) = false
is_absent (reserved g i) = false
is_absent (transfer_reserved g i) = false
is_absent (occupied g h) = false

-- storage.rs `busy`: Reserved, TransferReserved or Occupied
abbrev pub is_busy : Slot → Bool
is_busy absent = false
is_busy (vacant g) = false
is_busy (reserved g i) = true
is_busy (transfer_reserved g i) = true
is_busy (occupied g h) = true

-- a page: its frame while it is attached, and its high mark, which it keeps while detached
pub record Page : Type 0 where
  pub frame : Option ℕ
  pub high : ℕ

-- a table is active, tears down (with its cursor) or is retired
pub data Lifecycle : Type 0 where
  active : Lifecycle
  tearing_down : ℕ → Lifecycle
  retired : Lifecycle

-- a table. `size` pages are attached or detached; the orders have their head first
pub record Table : Type 0 where
  pub limit : ℕ
  pub mask : ℕ
  pub life : Lifecycle
  pub epoch : ℕ
  pub size : ℕ
  pub pages : ℕ → Page
  pub slots : ℕ → Slot
  pub free : List ℕ
  pub empty : List ℕ
  pub detached : List ℕ

-- "class (0 Leaf, 1 RendezvousOnly, 2 Never)"
pub data Class : Type 0 where
  leaf : Class
  rendezvous_only : Class
  never : Class

-- "state (new, active, retired)"
pub data Stage : Type 0 where
  still_new : Stage
  now_active : Stage
  now_retired : Stage

-- "Objects: koid, kind, class, supported rights, exportable or not, state, active count, limit"
pub record Object : Type 0 where
  pub koid : ℕ
  pub kind : ℕ
  pub class : Class
  pub supported : ℕ
  pub exportable : Bool
  pub limit : ℕ
  pub stage : Stage
  pub count : ℕ

-- an item of an open claim: a moved slot with the handle that it held and the rights that the receiver gets, or a copy
pub data Entry : Type 0 where
  moved : ℕ → Handle → ℕ → Entry
  copied : Handle → Entry

-- storage.rs `HandleTableStorageSnapshot`, less directory chunks: what a reservation finds in its table, and the pages that it would attach, in order
pub record StorageSnapshot : Type 0 where
  pub epoch : ℕ
  pub free_slots : ℕ
  pub pages : List ℕ

-- "rows, each an open reservation, an open claim, or a parcel of 1 to 64 loose handles"; and document 02, 1: a plan of a reservation of a count in a table, with
-- its kept snapshot and the frames that it holds
pub data Body : Type 0 where
  reservation : ℕ → List ℕ → Body
  claim : ℕ → List Entry → Body
  parcel : List Handle → Body
  plan : (table count : ℕ) → StorageSnapshot → (frames : List ℕ) → Body

pub record Row : Type 0 where
  pub id : ℕ
  pub body : Body

-- "The book: rows .. named by id": by rising id, with room for `capacity` of them
pub record Book : Type 0 where
  pub rows : List Row
  pub capacity : ℕ
  pub next : ℕ

-- `frames` is the list of the free ones, lowest first
pub record State : Type 0 where
  pub table_count : ℕ
  pub tables : ℕ → Table
  pub object_count : ℕ
  pub objects : ℕ → Object
  pub frame_count : ℕ
  pub frames : List ℕ
  pub book : Book

-- what stands beyond the counts: fields out of use have one value, so that equal states are one state
abbrev pub no_page : Page
no_page = record { frame = none; high = 0 }

abbrev pub no_table : Table
no_table = record { limit = 0; mask = 0; life = active; epoch = 0; size = 0; pages = λ p. no_page; slots = λ k. absent; free = []; empty = []; detached = [] }

abbrev pub no_object : Object
no_object = record { koid = 0; kind = 0; class = leaf; supported = 0; exportable = false; limit = 0; stage = still_new; count = 0 }

abbrev pub is_active : Lifecycle → Bool
is_active active = true
is_active (tearing_down c) = false
is_active retired = false

abbrev pub is_retired : Lifecycle → Bool
is_retired active = false
is_retired (tearing_down c) = false
is_retired retired = true
