-- The fields of a state's records, by their word: docs/formats.md, "The state's words".
use Rattle.std.specs.Prelude.{ℕ}

-- of the header
abbrev pub root_version : ℕ
root_version = 0

abbrev pub root_tables : ℕ
root_tables = 1

abbrev pub root_frames : ℕ
root_frames = 2

abbrev pub root_objects : ℕ
root_objects = 3

abbrev pub root_rows : ℕ
root_rows = 4

abbrev pub root_next_id : ℕ
root_next_id = 5

abbrev pub root_used_rows : ℕ
root_used_rows = 6

abbrev pub root_free_frames : ℕ
root_free_frames = 7

abbrev pub root_pages : ℕ
root_pages = 8

-- of a table's head
abbrev pub head_page_limit : ℕ
head_page_limit = 0

abbrev pub head_mask : ℕ
head_mask = 1

abbrev pub head_lifecycle : ℕ
head_lifecycle = 2

abbrev pub head_cursor : ℕ
head_cursor = 3

abbrev pub head_epoch : ℕ
head_epoch = 4

abbrev pub head_pages : ℕ
head_pages = 5

abbrev pub head_first_free : ℕ
head_first_free = 6

abbrev pub head_free_slots : ℕ
head_free_slots = 7

abbrev pub head_first_empty : ℕ
head_first_empty = 8

abbrev pub head_first_detached : ℕ
head_first_detached = 9

abbrev pub head_first_entry : ℕ
head_first_entry = 10

-- of a page entry
abbrev pub entry_frame : ℕ
entry_frame = 0

abbrev pub entry_high : ℕ
entry_high = 1

abbrev pub entry_busy : ℕ
entry_busy = 2

abbrev pub entry_next : ℕ
entry_next = 3

abbrev pub entry_previous : ℕ
entry_previous = 4

-- of a slot
abbrev pub slot_tag : ℕ
slot_tag = 0

abbrev pub slot_generation : ℕ
slot_generation = 1

-- of a vacant slot
abbrev pub slot_next_free : ℕ
slot_next_free = 2

abbrev pub slot_previous_free : ℕ
slot_previous_free = 3

-- of a reserved or transfer reserved slot
abbrev pub slot_place : ℕ
slot_place = 2

abbrev pub slot_position : ℕ
slot_position = 3

-- of an occupied slot
abbrev pub slot_object : ℕ
slot_object = 2

abbrev pub slot_rights : ℕ
slot_rights = 3

abbrev pub slot_flags : ℕ
slot_flags = 4

-- out of use
abbrev pub slot_unused : ℕ
slot_unused = 5

-- of an object
abbrev pub object_koid : ℕ
object_koid = 0

abbrev pub object_kind : ℕ
object_kind = 1

abbrev pub object_class : ℕ
object_class = 2

abbrev pub object_supported : ℕ
object_supported = 3

abbrev pub object_exportable : ℕ
object_exportable = 4

abbrev pub object_stage : ℕ
object_stage = 5

abbrev pub object_active : ℕ
object_active = 6

abbrev pub object_limit : ℕ
object_limit = 7

-- of a pair of the row index: the place of the row of a rank, and the rank of the row in a place
abbrev pub index_place : ℕ
index_place = 0

abbrev pub index_rank : ℕ
index_rank = 1

-- of a row's first block
abbrev pub row_id : ℕ
row_id = 0

abbrev pub row_kind : ℕ
row_kind = 1

abbrev pub row_table : ℕ
row_table = 2

abbrev pub row_length : ℕ
row_length = 3

-- of a plan
abbrev pub row_count : ℕ
row_count = 4

abbrev pub row_epoch : ℕ
row_epoch = 5

-- of an entry of a row; of a reservation
abbrev pub item_slot : ℕ
item_slot = 0

-- of a claim
abbrev pub item_operation : ℕ
item_operation = 0

abbrev pub item_moved : ℕ
item_moved = 1

-- of a claim or a parcel
abbrev pub item_object : ℕ
item_object = 2

abbrev pub item_rights : ℕ
item_rights = 3

abbrev pub item_flags : ℕ
item_flags = 4

-- of a claim's move
abbrev pub item_granted : ℕ
item_granted = 5

-- of a plan
abbrev pub item_page : ℕ
item_page = 0

abbrev pub item_frame : ℕ
item_frame = 1

-- of a plan's first entry alone, in use or not
abbrev pub item_free_slots : ℕ
item_free_slots = 2
