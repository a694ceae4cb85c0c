-- The checks over the words are the model's, in the printed order, with its numbers. Assumes nothing.
use Rattle.std.specs.Prelude.{◌≡◌, Bool, true, false, not, ◌&&◌, ◌||◌, ℕ, zero, suc, ◌<◌, drop, eqb}
use Rattle.std.proofs.Math.Path.{refl}
use mathlib.Core.List.{List, [], ◌∷◌}
use Rattle.std.proofs.Math.Option.{Option, none, some}
use Rattle.std.proofs.Common.{arith, ne_eqb}
use Rattle.words.specs.Pick.{pick, bool}
use Rattle.authority.specs.Rights.{contains, duplicate_right, transfer_right}
use Rattle.codec.specs.Codec.{decodes, slot_in, generation_in}
use Rattle.model.specs.Base.{or_else, agrees, bans, member}
use Rattle.model.specs.State.{till, Handle, Slot, Slot.absent, Slot.vacant, Slot.reserved, Slot.transfer_reserved, Slot.occupied, Table, Class, Class.leaf, Class.rendezvous_only, Class.never, Object, State}
use Rattle.model.specs.Request.{Route, Item, Fault}
use Rattle.model.specs.Words.{route_of}
use Rattle.model.specs.Objects.{is_now_retired}
use Rattle.model.specs.Lookup.{View as Named, View.invalid, View.busy, View.holds, view_slot, lookup}
use Rattle.model.specs.Transfer.{Check, ◌or◌at◌, first_fault, permits, is_copy, is_known, is_busy_now, held_in, item_checks, copy_checks, first_of, items_fault, entry_by, entry_for}
use Rattle.model.specs.WellFormed.{WellFormed, All}
use Rattle.model.proofs.Tests.{apart}
use Rattle.invariant.proofs.Items.{stands_at, fault_head, held_view, both_none}
use Rattle.layout.specs.declared.Shape.{Shape}
use Rattle.layout.specs.Layout.{Mem}
use Rattle.representation.specs.Represents.{class_word, ObjectIs, Represents}
use Rattle.representation.specs.Told.{retired_tells}
use Rattle.object.specs.Words.{record_at}
use Rattle.lookup.specs.declared.PreparedHandle.{PreparedHandle}
use Rattle.lookup.specs.View.{View}
use Rattle.lookup.specs.View.{View.Invalid, View.Busy, View.Holds}
use Rattle.lookup.specs.View.{view_of, handle_of, named}
use Rattle.lookup.specs.Named.{view_is, view_found}
use Rattle.lookup.specs.Read.{object_known}
use Rattle.object.specs.Reps.{stage_is, count_is, limit_is}
use Rattle.transfer.specs.Checks.{Stop, stop, passed, route_bars, rights_stop, object_stop, handle_stop, view_stop, item_stop, copy_stop, no_fault, in_position, items_stop}

-- the words tell a fault, or none
abbrev pub Tells : Option Fault → Fault → Type 0
Tells none g = g ≡ no_fault
Tells (some f) g = (g ≡ f) × (0 < f.number)

-- a stop tells the fault of the item in a position, or none
abbrev pub StopTells : ℕ → Option Fault → Stop → Type 0
StopTells j none x = x ≡ passed
StopTells j (some f) x = (in_position j x ≡ f) × (0 < x.number)

-- one item's checks after another's
tells_then : (j : ℕ) (f g : Option Fault) (x : Stop) (r : Fault) → StopTells j f x → Tells g r → Tells (first_of f g) (pick (eqb x.number 0) r (in_position j x))
tells_then j none g x r p q = rw p q
tells_then j (some f) g x r p q = rw (← p.0, ne_eqb x.number 0 (λ z. omega (arith, p.1))) (refl, p.1)

-- ---- an item

-- the rights, then the object; d holds where no copy lacks DUPLICATE
abbrev rights_by : Bool → Bool → Bool → Bool → Stop
rights_by t d a c = pick (not t) (stop 5 8) (pick (not d) (stop 5 9) (pick (not a) (stop 5 10) (pick (not c) (stop 5 11) passed)))

abbrev object_by : Bool → Bool → Bool → Bool → Bool → Stop
object_by k o p f g = pick k (stop 8 12) (pick o (stop 5 13) (pick (not p) (stop 8 14) (pick (not f) (stop 4 15) (pick (not g) (stop 4 15) passed))))

abbrev checks_by : Bool → Bool → Bool → Bool → Bool → Bool → Bool → Bool → Bool → Bool → List Check
checks_by m t d a c k o p f g =
    not m or 2 at 6 ∷ true or 0 at 7 ∷ t or 5 at 8 ∷ d or 5 at 9 ∷ a or 5 at 10 ∷ c or 5 at 11 ∷ not k or 8 at 12 ∷ not o or 5 at 13 ∷ p or 8 at 14 ∷ (f && g) or 4 at 15 ∷ []

checks_tell : (j : ℕ) (m t d a c k o p f g : Bool)
    → StopTells j (first_fault j (checks_by m t d a c k o p f g)) (pick m (stop 2 6) (pick (eqb (rights_by t d a c).number 0) (object_by k o p f g) (rights_by t d a c)))
checks_tell j true t d a c k o p f g = (refl, omega arith)
checks_tell j false false d a c k o p f g = (refl, omega arith)
checks_tell j false true false a c k o p f g = (refl, omega arith)
checks_tell j false true true false c k o p f g = (refl, omega arith)
checks_tell j false true true true false k o p f g = (refl, omega arith)
checks_tell j false true true true true true o p f g = (refl, omega arith)
checks_tell j false true true true true false true p f g = (refl, omega arith)
checks_tell j false true true true true false false false f g = (refl, omega arith)
checks_tell j false true true true true false false true false g = (refl, omega arith)
checks_tell j false true true true true false false true true false = (refl, omega arith)
checks_tell j false true true true true false false true true true = refl

denied_is : (c d : Bool) → (c && not d) ≡ not (not c || d)
denied_is true true = refl
denied_is true false = refl
denied_is false d = refl

bars_is : (route : ℕ) (c : Class) → route_bars route (class_word c) ≡ not (permits (route_of route) c)
unfolding route_bars
bars_is route leaf = refl
bars_is zero rendezvous_only = refl
bars_is (suc zero) rendezvous_only = refl
bars_is (suc (suc n)) rendezvous_only = ne_eqb (suc (suc n)) 0 (λ e. omega arith)
bars_is route never = refl

module _ (m : Mem) (o : ℕ) (x : Object) (q : ObjectIs m o x) where
  kind_at : (record_at m o).kind ≡ x.kind
  unfolding record_at
  kind_at = q.kind

  koid_at : (record_at m o).koid.0 ≡ x.koid
  unfolding record_at
  koid_at = q.koid

  class_at : (record_at m o).class ≡ class_word x.class
  unfolding record_at
  class_at = q.class

-- THE CHECKS OF A COPY are the model's
copy_by : (j : ℕ) (r l : Bool) → StopTells j (first_fault j (not r or 9 at 16 ∷ not l or 11 at 17 ∷ [])) (pick r (stop 9 16) (pick l (stop 11 17) passed))
copy_by j true l = (refl, omega arith)
copy_by j false true = (refl, omega arith)
copy_by j false false = refl

pub copy_tells : (m : Mem) (o : ℕ) (x : Object) → ObjectIs m o x → (j : ℕ) → StopTells j (first_fault j (copy_checks x)) (copy_stop m o)
unfolding copy_stop
copy_tells m o x q j = rw (stage_is m o x q, retired_tells x.stage, count_is m o x q, limit_is m o x q) (copy_by j (is_now_retired x.stage) (eqb x.count x.limit))

module _ (sh : Shape) (m : Mem) (s : State) (r : Represents sh m s) (w : WellFormed till s) (b : ℕ) (l : b < s.table_count) (route : ℕ) (bo bk : Option ℕ) where
  abbrev t : Table
  t = s.tables b

  -- the checks of a handle, by tests
  handle_is : (h : PreparedHandle) (q : Item) (x : Object) → ObjectIs m h.object x → handle_stop m h route bo bk q
      ≡ (let n : Stop = rights_by (contains h.rights transfer_right) (not (is_copy q.operation) || contains h.rights duplicate_right)
      (contains h.rights (or_else q.offered_rights h.rights)) (contains (or_else q.offered_rights h.rights) q.rights) in
      pick (eqb n.number 0) (object_by (bans bk x.kind) (bans bo x.koid) (permits (route_of route) x.class) (agrees q.offered_kind x.kind) (agrees q.expected_kind x.kind)) n)
  unfolding handle_stop rights_stop object_stop
  handle_is h q x i = rw (
    denied_is (is_copy q.operation) (contains h.rights duplicate_right),
    kind_at m h.object x i,
    koid_at m h.object x i,
    class_at m h.object x i,
    bars_is route x.class,
  )

  -- by what the item's value names
  view_tells : (earlier : List ℕ) (j : ℕ) (q : Item) (x : View) → view_of m b q.value ≡ x
      → StopTells j (first_fault j (item_checks s (route_of route) bo bk earlier q (named x))) (pick (member q.value earlier) (stop 2 6) (view_stop m route bo bk q x))
  view_tells earlier j q Invalid e = bool (member q.value earlier) (λ d. rw d (refl, omega arith)) (λ d. rw d (refl, omega arith))
  view_tells earlier j q Busy e = bool (member q.value earlier) (λ d. rw d (refl, omega arith)) (λ d. rw d (refl, omega arith))
  view_tells earlier j q (Holds h) e =
      let o : ℕ = h.object in
      let x : Object = s.objects o in
      let i : ObjectIs m h.object (s.objects h.object) = r.objects h.object (object_known s w b l h.slot h.generation (handle_of h) (view_found m b t (r.tables b l) q.value h e)) in
      rw (handle_is h q x i) (checks_tell j (member q.value earlier) (contains h.rights transfer_right) (not (is_copy q.operation) || contains h.rights duplicate_right)
      (contains h.rights (or_else q.offered_rights h.rights)) (contains (or_else q.offered_rights h.rights) q.rights)
      (bans bk x.kind) (bans bo x.koid) (permits (route_of route) x.class) (agrees q.offered_kind x.kind) (agrees q.expected_kind x.kind))

  item_tells : (earlier : List ℕ) (j : ℕ) (q : Item)
      → StopTells j (first_fault j (item_checks s (route_of route) bo bk earlier q (lookup t q.value))) (item_stop m b route bo bk earlier q)
  unfolding item_stop
  item_tells earlier j q = rw (← view_is m b t (r.tables b l) q.value) (view_tells earlier j q (view_of m b q.value) refl)

  -- THE CHECKS OF THE ITEMS are the model's
  pub items_tell : (earlier : List ℕ) (j : ℕ) (qs : List Item) → Tells (items_fault s t (route_of route) bo bk earlier j qs) (items_stop m b route bo bk earlier j qs)
  unfolding items_stop
  items_tell earlier j [] = refl
  items_tell earlier j (q ∷ qs) =
      tells_then j (first_fault j (item_checks s (route_of route) bo bk earlier q (lookup t q.value))) (items_fault s t (route_of route) bo bk (q.value ∷ earlier) (suc j) qs)
      (item_stop m b route bo bk earlier q) (items_stop m b route bo bk (q.value ∷ earlier) (suc j) qs) (item_tells earlier j q) (items_tell (q.value ∷ earlier) (suc j) qs)

-- ---- items without fault

-- the handle that an item names, in its slot
pub record Found (t : Table) (q : Item) : Type 0 where
  pub slot : ℕ
  pub handle : Handle
  pub gen : ℕ
  pub view : lookup t q.value ≡ holds slot handle
  pub stands : t.slots slot ≡ occupied gen handle
  pub entry : entry_for t q ≡ entry_by q.operation slot handle q.rights

-- the slot that a lookup names is that of its value
slot_of : (t : Table) (v k : ℕ) (h : Handle) → lookup t v ≡ holds k h → k ≡ slot_in t.mask v
slot_of t v k h e = bool (decodes t.mask v)
    (λ d. go (t.slots (slot_in t.mask v)) (rw d at e))
    (λ d. let y : invalid ≡ holds k h = rw d at e in apart (cc))
  where
    go : (x : Slot) → view_slot (slot_in t.mask v) (generation_in t.mask v) x ≡ holds k h → k ≡ slot_in t.mask v
    go absent e = apart (cc)
    go (vacant n) e = apart (cc)
    go (reserved n i) e = apart (cc)
    go (transfer_reserved n i) e = bool (eqb (generation_in t.mask v) n)
        (λ q. let y : busy ≡ holds k h = rw q at e in apart (cc))
        (λ q. let y : invalid ≡ holds k h = rw q at e in apart (cc))
    go (occupied n x) e = bool (eqb (generation_in t.mask v) n)
        (λ q. let y : holds (slot_in t.mask v) x ≡ holds k h = rw q at e in cc)
        (λ q. let y : invalid ≡ holds k h = rw q at e in apart (cc))

entry_of : (t : Table) (q : Item) (k g : ℕ) (h : Handle) → k ≡ slot_in t.mask q.value → t.slots k ≡ occupied g h → entry_for t q ≡ entry_by q.operation k h q.rights
entry_of t q k g h e d = rw (← e, d)

module _ (s : State) (t : Table) (route : Route) (bo bk : Option ℕ) where
  found_one : (earlier : List ℕ) (j : ℕ) (q : Item) → first_fault j (item_checks s route bo bk earlier q (lookup t q.value)) ≡ none → Found t q
  found_one earlier j q e =
      let w : Named = lookup t q.value in
      let cs : List Check = item_checks s route bo bk earlier q w in
      let once = fault_head j (not (member q.value earlier) or 2 at 6) (drop 1 cs) e in
      let found = fault_head j (is_known w or 2 at 7) (drop 2 cs) once.1 in
      let idle = fault_head j (not (is_busy_now w) or 3 at 7) (drop 3 cs) found.1 in
      let v = held_view w found.0 idle.0 in
      let k : ℕ = v.0 in let h : Handle = held_in w in
      let st = stands_at t q.value v.0 (held_in w) v.1 in
      record {
        slot = v.0;
        handle = held_in w;
        gen = generation_in t.mask q.value;
        view = v.1;
        stands = st;
        entry = entry_of t q v.0 (generation_in t.mask q.value) (held_in w) (slot_of t q.value v.0 (held_in w) v.1) st;
      }

  pub found_all : (earlier : List ℕ) (j : ℕ) (qs : List Item) → items_fault s t route bo bk earlier j qs ≡ none → All (Found t) qs
  found_all earlier j [] e = tt
  found_all earlier j (q ∷ qs) e =
      let r = both_none (first_fault j (item_checks s route bo bk earlier q (lookup t q.value))) (items_fault s t route bo bk (q.value ∷ earlier) (suc j) qs) e in
      (found_one earlier j q r.0, found_all (q.value ∷ earlier) (suc j) qs r.1)
