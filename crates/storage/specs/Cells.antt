-- All words of a table's slot at once. Assumes nothing.
use Rattle.std.specs.Prelude.{ℕ, ◌%◌}
use Rattle.layout.specs.declared.CellWords.{CellWords}
use Rattle.layout.specs.Layout.{Mem}
use Rattle.layout.specs.Fields.{slot_tag, slot_generation, slot_object, slot_rights, slot_flags, slot_unused}
use Rattle.layout.specs.Sizes.{page_size}
use Rattle.representation.specs.Represents.{word_in, frame_of}

-- slot j of a frame, given as a link
abbrev pub cell_in : Mem → ℕ → ℕ → CellWords
cell_in m fr j = record { tag = word_in m fr j slot_tag; generation = word_in m fr j slot_generation; object = word_in m fr j slot_object; rights = word_in m fr j slot_rights; flags = word_in m fr j slot_flags; unused = word_in m fr j slot_unused }

-- slot k of table b
abbrev pub slot_at : Mem → ℕ → ℕ → CellWords
slot_at m b k = cell_in m (frame_of m b k) (k % page_size)
