-- What a lookup, a claim's moved entries and the checks of a transfer's items tell of slots.
use Rattle.std.specs.Prelude.{◌≡◌, refl, true, false, not, ◌||◌, Bool, List, [], ◌∷◌, map, ℕ, ◌+◌, ◌≤◌, ◌<◌, suc, drop, eqb}
use Rattle.std.proofs.Common.{ap, ◌∙◌, arith, eqb-true}
use Rattle.std.proofs.Math.Option.{Option, none, some}
use Rattle.std.specs.Int.Bits.{bit_and}
use Rattle.std.proofs.lemmas.Nat.{and_le_l}
use Rattle.std.proofs.lemmas.Bool.{eqb-false, not-true}
use Rattle.authority.specs.Rights.{contains, duplicate_right, transfer_right}
use Rattle.codec.specs.Codec.{decodes, slot_in, generation_in}
use Rattle.codec.proofs.Laws.{same_value}
use Rattle.model.specs.Base.{pick, bit, or_else, member, occurs}
use Rattle.model.specs.State.{Handle, Slot, Slot.absent, Slot.vacant, Slot.reserved, Slot.transfer_reserved, Slot.occupied, Table, Entry}
use Rattle.model.specs.State.{Entry.moved, Entry.copied, State, is_active}
use Rattle.model.specs.Request.{Answer, Route, Operation, Operation.as_move, Operation.as_copy, Item, Fault}
use Rattle.model.specs.Book.{moved_of, copies_of}
use Rattle.model.specs.Decision.{Decision}
use Rattle.model.specs.Lookup.{View, View.invalid, View.busy, View.holds, view_slot, lookup, handle_or}
use Rattle.model.specs.Transfer.{Check, ◌or◌at◌, first_fault, is_copy, is_known, is_busy_now, held_in, item_checks, first_of, items_fault, entry_by, entry_for}
use Rattle.model.specs.WellFormed.{HandleRange, SlotRange, EntryRange, All, of_object, in_handles}
use Rattle.model.proofs.Tests.{apart, bool, clash, same}
use Rattle.model.proofs.Decided.{Decided, Any, on_handle, with_handle}
use Rattle.invariant.proofs.Pointwise.{moved_handles, given}
use Rattle.invariant.proofs.CountLemmas.{of_other}

-- rights contained are no larger a number
pub contains_le : (h a : ℕ) → contains h a ≡ true → a ≤ h
unfolding contains
contains_le h a e = omega (arith, eqb-true (bit_and h a) a e, and_le_l h a)

-- a value that names a handle
record Named (t : Table) (v k : ℕ) (h : Handle) : Type 0 where
  decoded : decodes t.mask v ≡ true
  slot : k ≡ slot_in t.mask v
  stands : t.slots (slot_in t.mask v) ≡ occupied (generation_in t.mask v) h

pub view_slot_law : (j g : ℕ) (x : Slot) (k : ℕ) (h : Handle) → view_slot j g x ≡ holds k h → (k ≡ j) × (x ≡ occupied g h)
view_slot_law j g absent k h e = apart (cc)
view_slot_law j g (vacant n) k h e = apart (cc)
view_slot_law j g (reserved n i) k h e = apart (cc)
view_slot_law j g (transfer_reserved n i) k h e = bool (eqb g n)
    (λ q. let y : busy ≡ holds k h = rw q at e in apart (cc))
    (λ q. let y : invalid ≡ holds k h = rw q at e in apart (cc))
view_slot_law j g (occupied n x) k h e = bool (eqb g n)
    (λ q. let y : holds j x ≡ holds k h = rw q at e in let p : g ≡ n = eqb-true g n q in let a : k ≡ j = cc in let b : x ≡ h = cc in (a, (rw (b, p))))
    (λ q. let y : invalid ≡ holds k h = rw q at e in apart (cc))

named : (t : Table) (v k : ℕ) (h : Handle) → lookup t v ≡ holds k h → Named t v k h
named t v k h e = bool (decodes t.mask v)
    (λ d. let r = view_slot_law (slot_in t.mask v) (generation_in t.mask v) (t.slots (slot_in t.mask v)) k h (rw d at e) in
    record { decoded = d; slot = r.0; stands = r.1 })
    (λ d. let y : invalid ≡ holds k h = rw d at e in apart (cc))

pub stands_at : (t : Table) (v k : ℕ) (h : Handle) → lookup t v ≡ holds k h → t.slots k ≡ occupied (generation_in t.mask v) h
stands_at t v k h e = let n : Named t v k h = named t v k h e in ap t.slots n.slot ∙ n.stands

-- a handle in a slot of an active table
pub with_slot : {R : ℕ → Type 0} {A : State → Answer → Type 0} (s : State) (b v : ℕ) {f : ℕ → Handle → Decision}
    → (b < s.table_count → is_active (s.tables b).life ≡ true → (k g : ℕ) (h : Handle) → (s.tables b).slots k ≡ occupied g h
    → Decided Any R A (f k h)) → Decided Any R A (on_handle s b v (λ t. f))
with_slot s b v c = let t : Table = s.tables b in
    with_handle s b v tt tt tt tt λ l a k h e. c l a k (generation_in t.mask v) h (stands_at t v k h e)

-- moved entries stand in their slots
abbrev pub Stands : (ℕ → Slot) → Entry → Type 0
Stands f (moved k h r) = (g : ℕ) × (f k ≡ occupied g h)
Stands f (copied h) = Unit {0}

pub record Taken (x : Slot) (o : Option Handle) : Type 0 where
  pub gen : ℕ
  pub held : Handle
  pub stood : x ≡ occupied gen held
  pub named : o ≡ some held

taken_past : (t : Bool) (x : Slot) (h : Handle) (o : Option Handle) → t ≡ false → Taken x o → Taken x (pick t (some h) o)
taken_past t x h o y r = record { gen = r.gen; held = r.held; stood = r.stood; named = rw y r.named }

pub taken : (f : ℕ → Slot) (es : List Entry) (k : ℕ) → All (Stands f) es → 0 < occurs k (moved_of es)
    → Taken (f k) (given (moved_of es) (moved_handles es) k)
taken f [] k a q = absurd (omega arith)
taken f (moved j h r ∷ es) k a q = bool (eqb k j)
    (λ y. record { gen = a.0.0; held = h; stood = rw (eqb-true k j y) a.0.1; named = rw y })
    (λ y. taken_past (eqb k j) (f k) h (given (moved_of es) (moved_handles es) k) y
    (taken f es k a.1 (let q' : 0 < 0 + occurs k (moved_of es) = rw y at q in omega arith)))
taken f (copied h ∷ es) k a q = taken f es k a.1 q

-- no fault in two parts
pub both_none : (a b : Option Fault) → first_of a b ≡ none → (a ≡ none) × (b ≡ none)
both_none none b e = (refl, e)
both_none (some f) b e = apart (cc)

-- checks that all hold
pub fault_head : (j : ℕ) (c : Check) (cs : List Check) → first_fault j (c ∷ cs) ≡ none → (c.holds ≡ true) × (first_fault j cs ≡ none)
fault_head j c cs e = bool c.holds
    (λ q. (q, rw q at e))
    (λ q. let f : Fault = record { number = c.number; position = j; place = c.place } in let y : some f ≡ none = rw q at e in apart (cc))

pub held_view : (w : View) → is_known w ≡ true → not (is_busy_now w) ≡ true → (k : ℕ) × (w ≡ holds k (held_in w))
held_view invalid e d = apart (cc)
held_view busy e d = apart (cc)
held_view (holds k h) e d = (k, refl)

-- an item without fault
pub record Passed (t : Table) (earlier : List ℕ) (q : Item) : Type 0 where
  pub new : member q.value earlier ≡ false
  pub held : Handle
  pub decoded : decodes t.mask q.value ≡ true
  pub stands : t.slots (slot_in t.mask q.value) ≡ occupied (generation_in t.mask q.value) held
  pub rights : q.rights ≤ held.rights

module _ (s : State) (t : Table) (route : Route) (bo bk : Option ℕ) where
  passed : (earlier : List ℕ) (j : ℕ) (q : Item) → first_fault j (item_checks s route bo bk earlier q (lookup t q.value)) ≡ none → Passed t earlier q
  passed earlier j q e =
      let w : View = lookup t q.value in
      let h : Handle = held_in w in
      let offered : ℕ = or_else q.offered_rights h.rights in
      let cs : List Check = item_checks s route bo bk earlier q w in
      let once = fault_head j (not (member q.value earlier) or 2 at 6) (drop 1 cs) e in
      let found = fault_head j (is_known w or 2 at 7) (drop 2 cs) once.1 in
      let idle = fault_head j (not (is_busy_now w) or 3 at 7) (drop 3 cs) found.1 in
      let transfer = fault_head j (contains h.rights transfer_right or 5 at 8) (drop 4 cs) idle.1 in
      let copy = fault_head j ((not (is_copy q.operation) || contains h.rights duplicate_right) or 5 at 9) (drop 5 cs) transfer.1 in
      let source = fault_head j (contains h.rights offered or 5 at 10) (drop 6 cs) copy.1 in
      let asked = fault_head j (contains offered q.rights or 5 at 11) (drop 7 cs) source.1 in
      let v = held_view w found.0 idle.0 in
      let n : Named t q.value v.0 h = named t q.value v.0 h v.1 in
      record {
        new = not-true (member q.value earlier) once.0;
        held = h;
        decoded = n.decoded;
        stands = n.stands;
        rights = omega (arith, contains_le h.rights offered source.0, contains_le offered q.rights asked.0);
      }

  items_head : (earlier : List ℕ) (j : ℕ) (q : Item) (qs : List Item) → items_fault s t route bo bk earlier j (q ∷ qs) ≡ none
      → Passed t earlier q × (items_fault s t route bo bk (q.value ∷ earlier) (suc j) qs ≡ none)
  items_head earlier j q qs e = let r = both_none (first_fault j (item_checks s route bo bk earlier q (lookup t q.value))) (items_fault s t route bo bk (q.value ∷ earlier) (suc j) qs) e in
      (passed earlier j q r.0, r.1)

  -- the entry of an item, by its operation
  module _ (ranges : (k : ℕ) → SlotRange s (t.slots k)) where
    item_range : (op : Operation) (k g : ℕ) (h : Handle) (r : ℕ) (x : Slot) → x ≡ occupied g h → SlotRange s x → r ≤ h.rights
        → EntryRange s (entry_by op k (handle_or x) r)
    item_range as_move k g h r x e w l = let w' : HandleRange s h = rw e at w in rw e (w', omega (arith, w'.rights))
    item_range as_copy k g h r x e w l = let w' : HandleRange s h = rw e at w in
        rw e (record { object = w'.object; rights = omega (arith, w'.rights); flags = w'.flags })

    pub items_range : (earlier : List ℕ) (j : ℕ) (qs : List Item) → items_fault s t route bo bk earlier j qs ≡ none → All (EntryRange s) (map (entry_for t) qs)
    items_range earlier j [] e = tt
    items_range earlier j (q ∷ qs) e = let r = items_head earlier j q qs e in let p : Passed t earlier q = r.0 in
        let k : ℕ = slot_in t.mask q.value in (
          item_range q.operation k (generation_in t.mask q.value) p.held q.rights (t.slots k) p.stands (ranges k) p.rights,
          items_range (q.value ∷ earlier) (suc j) qs r.1,
        )

  item_stands : (op : Operation) (k g : ℕ) (h : Handle) (r : ℕ) → t.slots k ≡ occupied g h
      → Stands t.slots (entry_by op k (handle_or (t.slots k)) r)
  item_stands as_move k g h r e = rw e (g, refl)
  item_stands as_copy k g h r e = tt

  pub items_stand : (earlier : List ℕ) (j : ℕ) (qs : List Item) → items_fault s t route bo bk earlier j qs ≡ none → All (Stands t.slots) (map (entry_for t) qs)
  items_stand earlier j [] e = tt
  items_stand earlier j (q ∷ qs) e = let r = items_head earlier j q qs e in let p : Passed t earlier q = r.0 in
      let k : ℕ = slot_in t.mask q.value in
      (item_stands q.operation k (generation_in t.mask q.value) p.held q.rights p.stands, items_stand (q.value ∷ earlier) (suc j) qs r.1)

  -- a copy's object has a handle in a slot
  module _ (o : ℕ) (C : Type 0) (counts : (k g : ℕ) (h : Handle) → t.slots k ≡ occupied g h → o ≡ h.object → C) where
    item_counts : (op : Operation) (k g : ℕ) (h : Handle) (r : ℕ) → t.slots k ≡ occupied g h → (es : List Entry)
        → (0 < in_handles o (copies_of es) → C)
        → 0 < in_handles o (copies_of (entry_by op k (handle_or (t.slots k)) r ∷ es)) → C
    item_counts as_move k g h r e es c l = c l
    item_counts as_copy k g h r e es c l = let l' : 0 < of_object o h + in_handles o (copies_of es) = rw e at l in bool (eqb o h.object)
        (λ q. counts k g h e (eqb-true o h.object q))
        (λ q. c (omega (arith, of_other o h (eqb-false o h.object q))))

    pub items_count : (earlier : List ℕ) (j : ℕ) (qs : List Item) → items_fault s t route bo bk earlier j qs ≡ none
        → 0 < in_handles o (copies_of (map (entry_for t) qs)) → C
    items_count earlier j [] e l = absurd (omega arith)
    items_count earlier j (q ∷ qs) e l = let r = items_head earlier j q qs e in let p : Passed t earlier q = r.0 in
        let k : ℕ = slot_in t.mask q.value in
        item_counts q.operation k (generation_in t.mask q.value) p.held q.rights p.stands (map (entry_for t) qs)
        (items_count (q.value ∷ earlier) (suc j) qs r.1) l

entry_occurs : (op : Operation) (j : ℕ) (h : Handle) (r k : ℕ) (es : List Entry)
    → occurs k (moved_of (entry_by op j h r ∷ es)) ≤ bit (eqb k j) + occurs k (moved_of es)
entry_occurs as_move j h r k es = omega arith
entry_occurs as_copy j h r k es = omega arith

-- values that name one slot are one value
module _ (s : State) (t : Table) (route : Route) (bo bk : Option ℕ) where
  items_apart : (v : ℕ) (h : Handle) → decodes t.mask v ≡ true → t.slots (slot_in t.mask v) ≡ occupied (generation_in t.mask v) h
      → (earlier : List ℕ) → member v earlier ≡ true
      → (j : ℕ) (qs : List Item) → items_fault s t route bo bk earlier j qs ≡ none → occurs (slot_in t.mask v) (moved_of (map (entry_for t) qs)) ≡ 0
  items_apart v h d st earlier m j [] e = refl
  items_apart v h d st earlier m i (q ∷ qs) e =
      let r = items_head s t route bo bk earlier i q qs e in
      let p : Passed t earlier q = r.0 in
      let k : ℕ = slot_in t.mask v in
      let j : ℕ = slot_in t.mask q.value in
      let rest : occurs k (moved_of (map (entry_for t) qs)) ≡ 0 = items_apart v h d st (q.value ∷ earlier)
      (bool (eqb v q.value) (λ y. rw y) (λ y. rw y m)) (suc i) qs r.1 in
      bool (eqb k j)
      (λ y. let ey : k ≡ j = eqb-true k j y in
      let one : t.slots k ≡ t.slots j = ap t.slots ey in
      let st' : t.slots j ≡ occupied (generation_in t.mask q.value) p.held = p.stands in
      let g : generation_in t.mask v ≡ generation_in t.mask q.value = cc in
      let ev : v ≡ q.value = same_value t.mask v q.value d p.decoded ey g in
      clash (rw (← ev) m) p.new)
      (λ y. let c = entry_occurs q.operation j (handle_or (t.slots j)) q.rights k (map (entry_for t) qs) in
      let c' : occurs k (moved_of (map (entry_for t) (q ∷ qs))) ≤ bit (eqb k j) + occurs k (moved_of (map (entry_for t) qs)) = c in
      let z : bit (eqb k j) ≡ 0 = rw y in omega arith)

  pub items_once : (earlier : List ℕ) (j : ℕ) (qs : List Item) → items_fault s t route bo bk earlier j qs ≡ none → (k : ℕ)
      → occurs k (moved_of (map (entry_for t) qs)) ≤ 1
  items_once earlier i [] e k = omega arith
  items_once earlier i (q ∷ qs) e k =
      let r = items_head s t route bo bk earlier i q qs e in
      let p : Passed t earlier q = r.0 in
      let j : ℕ = slot_in t.mask q.value in
      let c : occurs k (moved_of (map (entry_for t) (q ∷ qs))) ≤ bit (eqb k j) + occurs k (moved_of (map (entry_for t) qs)) =
      entry_occurs q.operation j (handle_or (t.slots j)) q.rights k (map (entry_for t) qs) in
      bool (eqb k j)
      (λ y. let n : occurs j (moved_of (map (entry_for t) qs)) ≡ 0 = items_apart q.value p.held p.decoded p.stands (q.value ∷ earlier)
      (rw (same q.value)) (suc i) qs r.1 in
      let n' : occurs k (moved_of (map (entry_for t) qs)) ≡ 0 = rw (eqb-true k j y) n in let z : bit (eqb k j) ≡ 1 = rw y in omega arith)
      (λ y. let z : bit (eqb k j) ≡ 0 = rw y in omega (arith, items_once (q.value ∷ earlier) (suc i) qs r.1 k))
