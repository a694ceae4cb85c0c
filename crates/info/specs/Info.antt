-- What `get_info` does to the words. Assumes nothing.
use Rattle.std.specs.Prelude.{List, ◌∷◌, ℕ, eqb, Option, Some, None}
use Rattle.words.specs.Pick.{pick}
use Rattle.codec.specs.declared.Decoded.{Decoded}
use Rattle.codec.specs.Codec.{decode_of}
use Rattle.layout.specs.declared.Shape.{Shape}
use Rattle.layout.specs.Layout.{Mem, head, item, load}
use Rattle.layout.specs.Fields.{head_mask, slot_generation, slot_place, slot_position, item_object, item_rights, item_flags}
use Rattle.representation.specs.Represents.{slot_word}
use Rattle.answer.specs.Does.{Both, both, answered, refuse_r}
use Rattle.lookup.specs.declared.PreparedHandle.{PreparedHandle}
use Rattle.lookup.specs.View.{Opened, Opened.Refused, Opened.Handle as Found, open_of}
use Rattle.lookup.specs.Read.{on_opened, info_at, info_list}

-- the handle that item j of the row at place x keeps for slot k, whose generation is g
abbrev pub kept_in : Mem → (slot generation place position : ℕ) → PreparedHandle
kept_in m k g x j = record { slot = k; generation = g; object = m (item x j item_object); rights = m (item x j item_rights); flags = m (item x j item_flags) }

-- the handle that slot k of table b had before the claim that moves it: the slot's mark tells the row's place and the item's position
abbrev pub kept_words : Mem → ℕ → ℕ → PreparedHandle
kept_words m b k = kept_in m k (slot_word m b k slot_generation) (slot_word m b k slot_place) (slot_word m b k slot_position)

-- of a value that decodes, that of its slot
abbrev pub kept_decoded : Mem → ℕ → Option Decoded → Opened
kept_decoded m b (Some d) = Found (kept_words m b d.slot)
kept_decoded m b None = Refused 2

-- the handle that a value names which is Busy to every other request
unfoldable pub moving_of : Mem → ℕ → ℕ → Opened
moving_of m b v = kept_decoded m b (decode_of (m (head b head_mask)) v)

-- "3 Busy" is the number of a handle that is being moved
abbrev pub shown_by : Opened → Opened → Opened
shown_by moved (Refused n) = pick (eqb n 3) moved (Refused n)
shown_by moved (Found h) = Found h

-- the handle that `get_info` shows to a value, or the number of the refusal
unfoldable pub shown_of : Mem → Shape → ℕ → ℕ → Opened
shown_of m sh b v = shown_by (moving_of m b v) (open_of m sh b v)

-- "get_info, close: 1 koid, 2 kind, 3 rights, 4 flags"
unfoldable pub get_info_r : List ℕ → List ℕ → Shape → ℕ → ℕ → ℕ → Both
get_info_r ws os sh base b v =
    on_opened (shown_of (load ws sh) sh b v)
    (λ n. refuse_r ws os base n)
    (λ h. both ws (answered os base (0 ∷ info_list (info_at (load ws sh) h))))
