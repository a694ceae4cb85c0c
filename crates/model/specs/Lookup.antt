-- What a handle value names in a table.
use Rattle.std.specs.Prelude.{List, [], ◌∷◌, ℕ, eqb}
use Rattle.std.proofs.Math.Option.{Option, none, some}
use Rattle.codec.specs.Codec.{encode, decodes, slot_in, generation_in}
use Rattle.model.specs.Base.{pick}
use Rattle.model.specs.State.{Handle, Slot, Slot.absent, Slot.vacant, Slot.reserved, Slot.transfer_reserved, Slot.occupied, Table, Entry, Entry.moved, Entry.copied, Body, Body.reservation, Body.claim, Body.parcel, Body.plan, Row, State}
use Rattle.model.specs.State.{generation, max_objects}
use Rattle.model.specs.Request.{Snapshot}
use Rattle.model.specs.Objects.{info_for}
use Rattle.model.specs.Book.{find}
use Rattle.model.specs.Decision.{Decision, Decision.refusal}

-- what a value names: nothing (2), a TransferReserved slot of equal generation (3), or a handle in its slot
pub data View : Type 0 where
  invalid : View
  busy : View
  holds : ℕ → Handle → View

-- "A value naming a TransferReserved slot of equal generation gives Busy. One naming a Reserved slot gives InvalidHandle"
abbrev pub view_slot : ℕ → ℕ → Slot → View
view_slot k g absent = invalid
view_slot k g (vacant n) = invalid
view_slot k g (reserved n i) = invalid
view_slot k g (transfer_reserved n i) = pick (eqb g n) busy invalid
view_slot k g (occupied n h) = pick (eqb g n) (holds k h) invalid

-- mod.rs `lookup`; "A value with another prefix gives 2"
abbrev pub lookup : Table → ℕ → View
lookup t v = pick (decodes t.mask v) (view_slot (slot_in t.mask v) (generation_in t.mask v) (t.slots (slot_in t.mask v))) invalid

abbrev pub on_view : View → ℕ → ℕ → (ℕ → Handle → Decision) → Decision
on_view invalid n m f = refusal n
on_view busy n m f = refusal m
on_view (holds k h) n m f = f k h

infixr 5 handle◌of◌refuse◌or_busy◌then◌
-- the handle that a value names in a table, and its slot
abbrev pub handle◌of◌refuse◌or_busy◌then◌ : ℕ → Table → ℕ → ℕ → (ℕ → Handle → Decision) → Decision
handle◌of◌refuse◌or_busy◌then◌ v t n m f = on_view (lookup t v) n m f

-- document 02, 2: "the handle of a TransferReserved slot .. it had before". A claim keeps it for the slot that it moves, with its own rights; those that the receiver gets stand
-- beside it
abbrev pub kept_for : ℕ → List Entry → Option Handle
kept_for k [] = none
kept_for k (moved j h r ∷ es) = pick (eqb k j) (some h) (kept_for k es)
kept_for k (copied h ∷ es) = kept_for k es

-- what the row of an id keeps for a slot: a handle only if it is a claim
abbrev pub kept_by : ℕ → Option Body → Option Handle
kept_by k none = none
kept_by k (some (reservation b ks)) = none
kept_by k (some (claim b es)) = kept_for k es
kept_by k (some (parcel hs)) = none
kept_by k (some (plan b n w fs)) = none

-- what is kept for a slot: the mark of a TransferReserved one carries the claim's id
abbrev pub kept_at : List Row → ℕ → Slot → Option Handle
kept_at rs k absent = none
kept_at rs k (vacant g) = none
kept_at rs k (reserved g i) = none
kept_at rs k (transfer_reserved g i) = kept_by k (find i rs)
kept_at rs k (occupied g h) = none

abbrev pub on_look : View → Option Handle → Option Handle
on_look invalid kept = none
on_look busy kept = kept
on_look (holds k h) kept = some h

-- the handle that `get_info` shows to a value: where it is Busy to every other call, the one that the claim keeps for its slot
abbrev pub look_at : State → Table → ℕ → Option Handle
look_at s t v = on_look (lookup t v) (kept_at s.book.rows (slot_in t.mask v) (t.slots (slot_in t.mask v)))

-- the value of a slot as it stands
abbrev pub value_at : Table → ℕ → ℕ
value_at t k = encode t.mask k (generation (t.slots k))

-- a handle of no object, since objects are numbered from 0 and there are at most 4,096: no accepted request uses it
abbrev pub no_handle : Handle
no_handle = record { object = max_objects; rights = 0; flags = 0 }

-- the handle of an occupied slot
abbrev pub handle_or : Slot → Handle
handle_or absent = no_handle
handle_or (vacant g) = no_handle
handle_or (reserved g i) = no_handle
handle_or (transfer_reserved g i) = no_handle
handle_or (occupied g h) = h

abbrev pub snapshot_at : State → Table → ℕ → Snapshot
snapshot_at s t k = record { value = value_at t k; info = info_for s (handle_or (t.slots k)) }
