-- A scan over the memory: the snapshot page of table b from a cursor on. Assumes nothing.
use Rattle.std.specs.Prelude.{Option, Some, None}
use Rattle.std.specs.Prelude.{◌≡◌, List, [], ◌∷◌, ◌++◌, map, ℕ, zero, suc, ◌-◌, ◌*◌, ◌%◌, min, length, take, eqb, ltb}
use Rattle.words.specs.Pick.{pick}
use Rattle.codec.specs.Codec.{encode}
use Rattle.model.specs.State.{till, max_slots}
use Rattle.model.specs.Storage.{Walk, walk}
use Rattle.layout.specs.declared.Shape.{Shape}
use Rattle.layout.specs.declared.CellWords.{CellWords}
use Rattle.layout.specs.Layout.{Mem, head, load}
use Rattle.layout.specs.Fields.{head_mask, head_pages, slot_generation}
use Rattle.layout.specs.Sizes.{page_size}
use Rattle.representation.specs.Represents.{frame_of, slot_word, slot_in}
use Rattle.answer.specs.Does.{Both, both, answered, refuse_r}
use Rattle.lookup.specs.declared.SnapshotEntry.{SnapshotEntry}
use Rattle.lookup.specs.declared.SnapshotPage.{SnapshotPage}
use Rattle.lookup.specs.View.{handle_by, handle_at, table_refusal}
use Rattle.lookup.specs.Read.{info_at, info_list}

-- "Detached pages still count in the scan's length"
abbrev pub length_at : Mem → ℕ → ℕ
length_at m b = min (m (head b head_pages) * page_size) max_slots

-- the entry of an occupied slot: its value and its handle's info
abbrev pub entry_of : Mem → ℕ → ℕ → SnapshotEntry
entry_of m b k = record { value = record { 0 = encode (m (head b head_mask)) k (slot_word m b k slot_generation) }; info = info_at m (handle_at m b k) }

-- by the slot's words, under a mask
abbrev pub entry_by : Mem → ℕ → ℕ → CellWords → SnapshotEntry
entry_by m mask k w = record { value = record { 0 = encode mask k w.generation }; info = info_at m (handle_by k w) }

abbrev pub no_entry : SnapshotEntry
no_entry = record { value = record { 0 = 0 }; info = record { koid = record { 0 = 0 }; kind = 0; rights = 0; flags = 0 } }

-- entries in an array of n
unfoldable pub pad_to : ℕ → List SnapshotEntry → List SnapshotEntry
pad_to zero xs = []
pad_to (suc n) [] = no_entry ∷ pad_to n []
pad_to (suc n) (x ∷ xs) = x ∷ pad_to n xs

-- "where it started, the lesser of cursor and length"
abbrev pub start_at : Mem → ℕ → ℕ → ℕ
start_at m b c = min c (length_at m b)

-- at most 256 slots and at most 8 entries
abbrev pub walk_at : Mem → ℕ → ℕ → Walk
walk_at m b c = walk (slot_in m b) (start_at m b c) (min till.scan_slots (length_at m b - start_at m b c)) till.scan_entries

abbrev pub next_at : ℕ → ℕ → Option ℕ
next_at stop long = pick (ltb stop long) (Some stop) None

-- "8 entries, a length and an optional next cursor", and "the slot where the scan stopped minus where it started"
abbrev pub page_of : Mem → ℕ → ℕ → Walk → ℕ → SnapshotPage
page_of m b start w long = record {
  entries = pad_to 8 (map (entry_of m b) w.found);
  len = length w.found;
  next = next_at w.stop long;
  examined = w.stop - start;
}

-- THE PAGE of a scan
unfoldable pub scan_of : Mem → ℕ → ℕ → SnapshotPage
scan_of m b c = page_of m b (start_at m b c) (walk_at m b c) (length_at m b)

-- ---- steps of the code

-- a frame, as a link, is that of slot k's page, unless a page begins there
abbrev pub FrameFor : Mem → ℕ → ℕ → ℕ → Type 0
FrameFor m b k fr = (k % page_size ≡ 0 → ⊥) → fr ≡ frame_of m b k

abbrev pub ended_of : List SnapshotEntry → ℕ → ℕ → ℕ → ℕ → SnapshotPage
ended_of es len start stop long = record { entries = es; len = len; next = next_at stop long; examined = stop - start }

-- ---- the answer's words

abbrev pub has_next : Option ℕ → ℕ
has_next (Some k) = 1
has_next None = 0

abbrev pub next_word : Option ℕ → ℕ
next_word (Some k) = k
next_word None = 0

-- "for each entry: value, koid, kind, rights, flags"
abbrev pub entry_words : SnapshotEntry → List ℕ
entry_words x = x.value.0 ∷ info_list x.info

abbrev pub entry_list : List SnapshotEntry → List ℕ
entry_list [] = []
entry_list (x ∷ xs) = entry_words x ++ entry_list xs

-- "1 the length, 2 whether there is a next cursor, 3 the next cursor, 4 examined, then the entries"
abbrev pub page_list : SnapshotPage → List ℕ
page_list p = p.len ∷ has_next p.next ∷ next_word p.next ∷ p.examined ∷ entry_list (take p.len p.entries)

unfoldable pub scan_r : List ℕ → List ℕ → Shape → ℕ → ℕ → ℕ → Both
scan_r ws os sh base b c =
    pick (eqb (table_refusal (load ws sh) sh b) 0)
    (both ws (answered os base (0 ∷ page_list (scan_of (load ws sh) b c))))
    (refuse_r ws os base (table_refusal (load ws sh) sh b))
