-- The sizes of a state and its limits: docs/formats.md, "The state's words".
use Rattle.std.specs.Prelude.{ℕ, ◌+◌, ◌*◌}

-- slots of a page
abbrev pub page_size : ℕ
page_size = 64

-- slots of page 262,143, the last of the largest table
abbrev pub last_page_size : ℕ
last_page_size = 63

-- the number of that page
abbrev pub last_page : ℕ
last_page = 262143

-- the most pages of a table
abbrev pub pages_max : ℕ
pages_max = 262144

-- the most slots of a table: the last is slot 62 of the last page
abbrev pub slots_max : ℕ
slots_max = 16777215

-- the most tables, frames, objects and rows of a state
abbrev pub tables_max : ℕ
tables_max = 16

abbrev pub frames_max : ℕ
frames_max = 65535

abbrev pub objects_max : ℕ
objects_max = 4096

abbrev pub rows_max : ℕ
rows_max = 256

-- the owner word of a frame that a plan holds is this and the place of the plan's row: above the number of any page entry plus 1
abbrev pub plan_owner : ℕ
plan_owner = tables_max * pages_max + 1

-- the most entries of a row
abbrev pub batch_max : ℕ
batch_max = 64

-- the largest number of 32 bits
abbrev pub number32_max : ℕ
number32_max = 4294967295

-- words of the header, a head, a page entry, a slot, an object, a pair of the row index and a block of a row
abbrev pub root_size : ℕ
root_size = 16

abbrev pub head_size : ℕ
head_size = 16

abbrev pub entry_size : ℕ
entry_size = 5

abbrev pub slot_size : ℕ
slot_size = 6

abbrev pub object_size : ℕ
object_size = 8

abbrev pub index_size : ℕ
index_size = 2

abbrev pub block_size : ℕ
block_size = 6

-- words of a frame
abbrev pub frame_size : ℕ
frame_size = page_size * slot_size

-- blocks of a row: its own and one for each entry
abbrev pub row_blocks : ℕ
row_blocks = batch_max + 1

-- words of a row
abbrev pub row_size : ℕ
row_size = row_blocks * block_size
