-- A state without an open claim: its slots hold their handles again, its row goes, and ids above it are one lower.
use Rattle.std.specs.Prelude.{List, map, ℕ, eqb}
use Rattle.model.specs.Base.{pick, or_else}
use Rattle.model.specs.State.{Handle, Slot, Slot.absent, Slot.vacant, Slot.reserved, Slot.transfer_reserved, Slot.occupied, Table, Entry, Row, Book, State}
use Rattle.model.specs.Book.{drop_id}
use Rattle.model.specs.Lookup.{no_handle, kept_for}
use Rattle.noninterference.specs.Runs.{lowered, with_slots, lower_row}

-- the handle that a claim's entries keep for a slot
abbrev pub handle_at : ℕ → List Entry → Handle
handle_at k es = or_else (kept_for k es) no_handle

abbrev pub erase_slot : ℕ → List Entry → ℕ → Slot → Slot
erase_slot t es k absent = absent
erase_slot t es k (vacant g) = vacant g
erase_slot t es k (reserved g i) = reserved g (lowered t i)
erase_slot t es k (transfer_reserved g i) = pick (eqb i t) (occupied g (handle_at k es)) (transfer_reserved g (lowered t i))
erase_slot t es k (occupied g h) = occupied g h

abbrev pub erase_table : ℕ → List Entry → Table → Table
erase_table t es x = with_slots x λ k. erase_slot t es k (x.slots k)

abbrev pub erase_rows : ℕ → List Row → List Row
erase_rows t rs = map (lower_row t) (drop_id t rs)

abbrev pub erase_book : ℕ → Book → Book
erase_book t k = record { rows = erase_rows t k.rows; capacity = k.capacity; next = lowered t k.next }

-- the state without the claim t, whose entries are es
abbrev pub erase : ℕ → List Entry → State → State
erase t es s = record {
  table_count = s.table_count;
  tables = λ b. erase_table t es (s.tables b);
  object_count = s.object_count;
  objects = s.objects;
  frame_count = s.frame_count;
  frames = s.frames;
  book = erase_book t s.book;
}
