-- The tables of docs/formats.md: document 01, "Which fields each op must and may carry is one fixed table, written in docs/."
-- Assumes nothing.
use Rattle.std.specs.Prelude.{ℕ, List, [], ◌∷◌, Bool, true, false, not, ◌&&◌, eqb, leb}
use Rattle.words.specs.Pick.{pick}
use Rattle.format.specs.Fields.{any_word, number32, a_koid, a_route, an_op, an_operation, zero_word, number32_max, route_last, operation_last}
use Rattle.format.specs.Ops.{op_last}

-- docs/formats.md, "Ops": the fields that each op must carry, as a bit map, at the op's number
unfoldable pub musts : List ℕ
musts = 0 ∷ 101 ∷ 51 ∷ 129 ∷ 5 ∷ 11 ∷ 137 ∷ 129 ∷ 137 ∷ 19 ∷ 563 ∷ 51 ∷ 19 ∷ 2051 ∷ 4107 ∷ 1587 ∷ 129 ∷ 129 ∷ 385 ∷ 385 ∷ 2051 ∷ 3 ∷ 3 ∷ 3 ∷ 3 ∷ 11 ∷ 129 ∷ 129 ∷ 4107 ∷ []

-- docs/formats.md, "Ops": the fields that each op may carry besides
unfoldable pub mays : List ℕ
mays = 0 ∷ 0 ∷ 0 ∷ 0 ∷ 0 ∷ 0 ∷ 0 ∷ 0 ∷ 0 ∷ 0 ∷ 0 ∷ 0 ∷ 0 ∷ 0 ∷ 196608 ∷ 0 ∷ 0 ∷ 0 ∷ 0 ∷ 0 ∷ 0 ∷ 0 ∷ 0 ∷ 0 ∷ 0 ∷ 0 ∷ 0 ∷ 0 ∷ 196608 ∷ []

-- docs/formats.md, the items' table: a transfer item must carry operation, value and rights
abbrev pub transfer_item_must : ℕ
transfer_item_must = 49

-- the items' table: a transfer item may carry offered rights, offered kind and expected kind
abbrev pub transfer_item_may : ℕ
transfer_item_may = 57344

-- the items' table: a parcel item must carry 0 and id
abbrev pub parcel_item_must : ℕ
parcel_item_must = 129

-- the items' table: a parcel item may carry nothing else
abbrev pub parcel_item_may : ℕ
parcel_item_may = 0

-- docs/formats.md, "Fields of a record": how many fields there are
abbrev pub field_count : ℕ
field_count = 18

-- docs/formats.md, "Fields of a record": each field's kind, at its bit
unfoldable pub field_kinds : List ℕ
field_kinds =
    an_op ∷ any_word ∷ any_word ∷ any_word ∷ any_word ∷ any_word ∷ number32 ∷ any_word ∷ any_word ∷ number32 ∷ a_koid ∷ any_word ∷ a_route ∷ any_word ∷ number32 ∷ number32 ∷ a_koid ∷ number32 ∷ []

-- docs/formats.md, "Ops": "Op 0 and every op above 28 is unknown."
unfoldable pub known_op : ℕ → Bool
known_op op = leb 1 op && leb op op_last

-- document 01, number 19: "too wide or a koid of 0; unknown op, route or operation". Which words a kind takes. Bit 0's word has a kind of
-- its own in an item. No other kind takes a word.
unfoldable pub field_fits : ℕ → ℕ → Bool
field_fits kind word =
    pick (eqb kind any_word) true
    (pick (eqb kind number32) (leb word number32_max)
    (pick (eqb kind a_koid) (not (eqb word 0))
    (pick (eqb kind a_route) (leb word route_last)
    (pick (eqb kind an_op) (known_op word)
    (pick (eqb kind an_operation) (leb word operation_last)
    (pick (eqb kind zero_word) (eqb word 0) false))))))

-- document 01: "Each request answers 72 words"
abbrev pub answer_words : ℕ
answer_words = 72
