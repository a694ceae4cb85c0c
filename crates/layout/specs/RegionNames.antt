-- The regions of a state's words, by their number: docs/formats.md, "The state's words".
use Rattle.std.specs.Prelude.{ℕ}

-- the header
abbrev pub region_root : ℕ
region_root = 0

-- table heads
abbrev pub region_head : ℕ
region_head = 1

-- page entries
abbrev pub region_entry : ℕ
region_entry = 2

-- frame owners
abbrev pub region_owner : ℕ
region_owner = 3

-- free frames in each 16, 256 and 4,096
abbrev pub region_group16 : ℕ
region_group16 = 4

abbrev pub region_group256 : ℕ
region_group256 = 5

abbrev pub region_group4096 : ℕ
region_group4096 = 6

-- frames: their slots
abbrev pub region_cell : ℕ
region_cell = 7

-- objects
abbrev pub region_object : ℕ
region_object = 8

-- the row index
abbrev pub region_index : ℕ
region_index = 9

-- rows: the row, then its items
abbrev pub region_row : ℕ
region_row = 10
