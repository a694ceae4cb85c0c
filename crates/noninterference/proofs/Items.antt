-- What a value's lookup and a transfer's checks say of the slots.
use Rattle.std.specs.Prelude.{◌≡◌, refl, true, List, [], ◌∷◌, ℕ, suc, drop}
use Rattle.std.proofs.Math.Option.{Option, none, some}
use Rattle.std.proofs.Common.{arith}
use Rattle.codec.specs.Codec.{decodes, slot_in, generation_in}
use Rattle.model.specs.Base.{member}
use Rattle.model.specs.State.{Handle, Slot.occupied, Table, State}
use Rattle.model.specs.Request.{Route, Item, Fault}
use Rattle.model.specs.Lookup.{View, View.invalid, View.busy, View.holds, lookup, handle_or}
use Rattle.model.specs.Transfer.{first_fault, item_checks, items_fault}
use Rattle.model.proofs.Tests.{bool}
use Rattle.invariant.proofs.Items.{view_slot_law, both_none}

-- a value names a handle in its slot
pub record Names (x : Table) (v : ℕ) (h : Handle) : Type 0 where
  pub valid : decodes x.mask v ≡ true
  pub there : x.slots (slot_in x.mask v) ≡ occupied (generation_in x.mask v) h

pub look_holds : (x : Table) (v k : ℕ) (h : Handle) → lookup x v ≡ holds k h → (k ≡ slot_in x.mask v) × Names x v h
look_holds x v k h e = bool (decodes x.mask v)
    (λ q. let w : (k ≡ slot_in x.mask v)
    × (x.slots (slot_in x.mask v) ≡ occupied (generation_in x.mask v) h) = view_slot_law _ _ _ k h (rw q at e) in
    (w.0, record { valid = q; there = w.1 }))
    (λ q. let p : invalid ≡ holds k h = rw q at e in let y : ◌≡◌ {A = ℕ} 0 1 = cc in absurd (omega arith))

-- every item names a handle if no fault is found
module _ (s : State) (x : Table) (route : Route) (banned_object banned_kind : Option ℕ) where
  abbrev pub AllName : List Item → Type 0
  AllName [] = Unit {0}
  AllName (q ∷ qs) = Names x q.value (handle_or (x.slots (slot_in x.mask q.value))) × AllName qs

  item_names : (earlier : List ℕ) (j : ℕ) (q : Item) → first_fault j (item_checks s route banned_object banned_kind earlier q (lookup x q.value)) ≡ none
      → Names x q.value (handle_or (x.slots (slot_in x.mask q.value)))
  item_names earlier j q e = bool (member q.value earlier)
      (λ m. let y : ◌≡◌ {A = Option Fault} (some (record { number = 2; position = j; place = 6 })) none = rw m at e in absurd (never y))
      (λ m. go (lookup x q.value) refl (rw m at e))
    where
      never : {f : Fault} → some f ≡ none → ⊥
      never p = let y : ◌≡◌ {A = ℕ} 0 1 = cc in omega arith

      go : (w : View) → lookup x q.value ≡ w → first_fault j (drop 1 (item_checks s route banned_object banned_kind earlier q w)) ≡ none
          → Names x q.value (handle_or (x.slots (slot_in x.mask q.value)))
      go invalid p g = absurd (never g)
      go busy p g = absurd (never g)
      go (holds k h) p g = let w : Names x q.value h = (look_holds x q.value k h p).1 in record { valid = w.valid; there = rw w.there }

  pub all_name : (earlier : List ℕ) (j : ℕ) (qs : List Item) → items_fault s x route banned_object banned_kind earlier j qs ≡ none → AllName qs
  all_name earlier j [] e = tt
  all_name earlier j (q ∷ qs) e =
      let w = both_none (first_fault j (item_checks s route banned_object banned_kind earlier q (lookup x q.value)))
      (items_fault s x route banned_object banned_kind (q.value ∷ earlier) (suc j) qs) e in
      (item_names earlier j q w.0, all_name (q.value ∷ earlier) (suc j) qs w.1)
