-- What a handle value names in a table, over the memory. Assumes nothing.
use Rattle.std.specs.Prelude.{ℕ, eqb, ltb, Option, Some, None, Result, Ok, Err}
use Rattle.words.specs.Pick.{pick}
use Rattle.codec.specs.declared.Decoded.{Decoded}
use Rattle.codec.specs.Codec.{decode_of}
use Rattle.model.specs.State.{Handle as ModelHandle}
use Rattle.model.specs.Lookup.{View as Named, View.invalid, View.busy, View.holds}
use Rattle.layout.specs.declared.Shape.{Shape}
use Rattle.layout.specs.declared.CellWords.{CellWords}
use Rattle.layout.specs.Layout.{Mem, head}
use Rattle.layout.specs.Fields.{head_mask, head_lifecycle, slot_tag, slot_generation, slot_object, slot_rights, slot_flags}
use Rattle.layout.specs.Values.{life_active}
use Rattle.representation.specs.Represents.{slot_word}
use Rattle.lookup.specs.declared.PreparedHandle.{PreparedHandle}
use Rattle.format.specs.declared.refusal.Refusal.{Refusal}
use Rattle.format.specs.declared.refusal.Refusal.TheVariants.{InvalidHandle, Busy as IsBusy}
use Rattle.format.specs.Refusals.{number}

-- what a value names: nothing (2), a TransferReserved slot of equal generation (3), or a handle
pub data View : Type 0 where
  Invalid : View
  Busy : View
  Holds : PreparedHandle → View

-- a handle of an active table, or the number of the refusal
pub data Opened : Type 0 where
  Refused : ℕ → Opened
  Handle : PreparedHandle → Opened

-- the record in slot k of table b
abbrev pub handle_at : Mem → ℕ → ℕ → PreparedHandle
handle_at m b k = record { slot = k; generation = slot_word m b k slot_generation; object = slot_word m b k slot_object; rights = slot_word m b k slot_rights; flags = slot_word m b k slot_flags }

-- by the slot's words
abbrev pub handle_by : ℕ → CellWords → PreparedHandle
handle_by k w = record { slot = k; generation = w.generation; object = w.object; rights = w.rights; flags = w.flags }

-- what a slot of tag t with the record h shows to a value of generation g: 3 is occupied, 2 TransferReserved
abbrev pub shown : ℕ → ℕ → PreparedHandle → View
shown g t h = pick (eqb g h.generation) (pick (eqb t 3) (Holds h) (pick (eqb t 2) Busy Invalid)) Invalid

unfoldable pub slot_view : Mem → ℕ → ℕ → ℕ → View
slot_view m b k g = shown g (slot_word m b k slot_tag) (handle_at m b k)

-- a value that does not decode names nothing
abbrev pub decoded_view : Mem → ℕ → Option Decoded → View
decoded_view m b (Some d) = slot_view m b d.slot d.generation
decoded_view m b None = Invalid

-- what a value names
unfoldable pub view_of : Mem → ℕ → ℕ → View
view_of m b v = decoded_view m b (decode_of (m (head b head_mask)) v)

-- a view as the answer of a function: "2 InvalidHandle", "3 Busy"
abbrev pub view_result : View → Result PreparedHandle Refusal
view_result Invalid = Err InvalidHandle
view_result Busy = Err IsBusy
view_result (Holds h) = Ok h

-- "18 Misuse: .. unknown table"; 0 for one that is known
abbrev pub unknown_refusal : Shape → ℕ → ℕ
unknown_refusal sh b = pick (ltb b sh.tables) 0 18

-- "18 Misuse: .. unknown table"; "16 TableRetired: not active"; 0 for an active table
unfoldable pub table_refusal : Mem → Shape → ℕ → ℕ
table_refusal m sh b = pick (ltb b sh.tables) (pick (eqb (m (head b head_lifecycle)) life_active) 0 16) 18

-- "2 InvalidHandle"; "3 Busy"
abbrev pub view_opened : View → Opened
view_opened Invalid = Refused 2
view_opened Busy = Refused 3
view_opened (Holds h) = Handle h

-- what a function's answer opens
abbrev pub opened : Result PreparedHandle Refusal → Opened
opened (Ok h) = Handle h
opened (Err e) = Refused (number e)

-- a handle of an active table by its value, or the number of the refusal: "`get_info`, close, `replace`: 16, 2 or 3", "Resolve: 16, 2 or 3" (what `get_info` answers where this says 3 is in crate info)
unfoldable pub open_of : Mem → Shape → ℕ → ℕ → Opened
open_of m sh b v = pick (eqb (table_refusal m sh b) 0) (view_opened (view_of m b v)) (Refused (table_refusal m sh b))

-- ---- in the model's terms

-- the handle of a record
abbrev pub handle_of : PreparedHandle → ModelHandle
handle_of h = record { object = h.object; rights = h.rights; flags = h.flags }

-- the model's view
abbrev pub named : View → Named
named Invalid = invalid
named Busy = busy
named (Holds h) = holds h.slot (handle_of h)
