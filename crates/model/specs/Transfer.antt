-- Preparing a transfer: its checks, in the printed order, each with its number and its place. Judging one goes by the same (document 02, 4).
use Rattle.std.specs.Prelude.{Bool, true, false, not, ◌&&◌, ◌||◌, List, [], ◌∷◌, map, ℕ, suc, length, ltb}
use Rattle.std.proofs.Math.Option.{Option, none, some}
use Rattle.authority.specs.Rights.{contains, duplicate_right, transfer_right}
use Rattle.codec.specs.Codec.{slot_in}
use Rattle.model.specs.Base.{pick, or_else, at_most, agrees, bans, member}
use Rattle.model.specs.State.{Handle, Table, Class, Class.leaf, Class.rendezvous_only, Class.never, Object, Entry, Entry.moved, Entry.copied, State, is_active, max_batch}
use Rattle.model.specs.Request.{Route, Route.buffered, Route.rendezvous, Route.staged_startup, Operation, Operation.as_move, Operation.as_copy, Item, Fault}
use Rattle.model.specs.Objects.{is_now_retired, limit_reached, raise, change, with_rights}
use Rattle.model.specs.Book.{free_row, id_left}
use Rattle.model.specs.Decision.{Decision, unless◌refuse◌then◌}
use Rattle.model.specs.Lookup.{View, lookup, no_handle, handle_or, View.invalid, View.busy, View.holds}

-- a check that holds or gives its number. "the rule's place in the printed order", from 1
pub record Check : Type 0 where
  pub holds : Bool
  pub number : ℕ
  pub place : ℕ

infix 68 ◌or◌at◌
abbrev pub ◌or◌at◌ : Bool → ℕ → ℕ → Check
◌or◌at◌ b n p = record { holds = b; number = n; place = p }

-- check by check, before anything is done
infixr 5 all◌then◌
abbrev pub all◌then◌ : List Check → Decision → Decision
all◌then◌ [] d = d
all◌then◌ (c ∷ cs) d = unless c.holds refuse c.number then all cs then d

-- the first check that does not hold, of the item in a position
abbrev pub first_fault : ℕ → List Check → Option Fault
first_fault j [] = none
first_fault j (c ∷ cs) = pick c.holds (first_fault j cs) (some (record { number = c.number; position = j; place = c.place }))

-- "64 where no item is at fault"
abbrev pub no_item : ℕ
no_item = 64

-- THE CHECKS OF A BATCH of n items, "Transfer: 16, 17, 13, 1, 12"
abbrev pub batch_checks : State → Table → ℕ → List Check
batch_checks s t n =
    is_active t.life or 16 at 1
    ∷ ltb 0 n or 17 at 2
    ∷ at_most n max_batch or 13 at 3
    ∷ free_row s or 1 at 4
    ∷ id_left s or 12 at 5
    ∷ []

-- mod.rs `permits`: Buffered bars RendezvousOnly, every route bars Never
abbrev pub permits : Route → Class → Bool
permits r leaf = true
permits buffered rendezvous_only = false
permits rendezvous rendezvous_only = true
permits staged_startup rendezvous_only = true
permits r never = false

abbrev pub is_copy : Operation → Bool
is_copy as_move = false
is_copy as_copy = true

-- whether a lookup finds something; whether what it finds is busy
abbrev pub is_known : View → Bool
is_known invalid = false
is_known busy = true
is_known (holds k h) = true

abbrev pub is_busy_now : View → Bool
is_busy_now invalid = false
is_busy_now busy = true
is_busy_now (holds k h) = false

-- the handle found; where none is, a check of the lookup has failed and no other is looked at
abbrev pub held_in : View → Handle
held_in invalid = no_handle
held_in busy = no_handle
held_in (holds k h) = h

-- THE CHECKS OF AN ITEM, "item by item 2 (twice), 2 or 3 (lookup), 5 (rights), 8 (kind), 5 (object), 8 (route), 4", where w is what its value names.
-- "A value listed twice in one transfer gives InvalidHandle, even if one is Copy". "The rights rule counts as four places: no TRANSFER, a copy without
-- DUPLICATE, offered beyond the source's, requested beyond the offered"; "with lookup as one place"
abbrev pub item_checks : State → Route → Option ℕ → Option ℕ → List ℕ → Item → View → List Check
item_checks s route banned_object banned_kind earlier q w =
    let h : Handle = held_in w in
    let x : Object = s.objects h.object in
    let offered : ℕ = or_else q.offered_rights h.rights in
    not (member q.value earlier) or 2 at 6
    ∷ is_known w or 2 at 7
    ∷ not (is_busy_now w) or 3 at 7
    ∷ contains h.rights transfer_right or 5 at 8
    ∷ (not (is_copy q.operation) || contains h.rights duplicate_right) or 5 at 9
    ∷ contains h.rights offered or 5 at 10
    ∷ contains offered q.rights or 5 at 11
    ∷ not (bans banned_kind x.kind) or 8 at 12
    ∷ not (bans banned_object x.koid) or 5 at 13
    ∷ permits route x.class or 8 at 14
    ∷ (agrees q.offered_kind x.kind && agrees q.expected_kind x.kind) or 4 at 15
    ∷ []

-- THE CHECKS OF A COPY, "then copies 9, 11"
abbrev pub copy_checks : Object → List Check
copy_checks x =
    not (is_now_retired x.stage) or 9 at 16
    ∷ not (limit_reached x) or 11 at 17
    ∷ []

abbrev pub first_of : Option Fault → Option Fault → Option Fault
first_of none b = b
first_of (some f) b = some f

-- item by item, the first of them in the position j
abbrev pub items_fault : State → Table → Route → Option ℕ → Option ℕ → List ℕ → ℕ → List Item → Option Fault
items_fault s t route banned_object banned_kind earlier j [] = none
items_fault s t route banned_object banned_kind earlier j (q ∷ qs) =
    first_of (first_fault j (item_checks s route banned_object banned_kind earlier q (lookup t q.value)))
    (items_fault s t route banned_object banned_kind (q.value ∷ earlier) (suc j) qs)

-- copy by copy, with the counts that earlier copies raised; a copy's position is that of its item among all
abbrev pub copies_fault : (ℕ → Object) → ℕ → List Entry → Option Fault
copies_fault os j [] = none
copies_fault os j (moved k h r ∷ es) = copies_fault os (suc j) es
copies_fault os j (copied h ∷ es) = first_of (first_fault j (copy_checks (os h.object))) (copies_fault (change raise os h.object) (suc j) es)

-- an item as its claim keeps it
abbrev pub entry_by : Operation → ℕ → Handle → ℕ → Entry
entry_by as_move k h r = moved k h r
entry_by as_copy k h r = copied (with_rights h r)

abbrev pub entry_for : Table → Item → Entry
entry_for t q = entry_by q.operation (slot_in t.mask q.value) (handle_or (t.slots (slot_in t.mask q.value))) q.rights

-- THE FIRST CHECK of a transfer that does not hold, in the printed order
abbrev pub transfer_fault : State → Table → Route → Option ℕ → Option ℕ → List Item → Option Fault
transfer_fault s t route banned_object banned_kind qs =
    first_of (first_fault no_item (batch_checks s t (length qs)))
    (first_of (items_fault s t route banned_object banned_kind [] 0 qs)
    (copies_fault s.objects 0 (map (entry_for t) qs)))
