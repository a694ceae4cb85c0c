-- The checks of a batch over the words are the model's; and what comes of trying its items. Preparing a transfer and judging one both go by them. Assumes nothing.
use Rattle.std.specs.Prelude.{◌≡◌, Bool, true, false, not, ℕ, zero, suc, ◌≤◌, ◌<◌, eqb, ltb}
use Rattle.std.proofs.Math.Path.{refl}
use Rattle.std.proofs.Common.{sym, ap, ◌∙◌, arith}
use mathlib.Core.List.{List, [], ◌∷◌, map}
use Rattle.std.proofs.Math.Option.{Option, none, some}
use borrow.Author.Tests.{lt-ltb, le-ltb, ltb-true, ltb-false, ne_eqb}
use Rattle.words.specs.Pick.{pick, bool}
use Rattle.model.specs.State.{till, Table, Entry, State, last_id, max_batch, is_active}
use Rattle.model.specs.Objects.{raise, change_all}
use Rattle.model.specs.Book.{free_row, copies_of}
use Rattle.model.specs.Request.{Item, Fault}
use Rattle.model.specs.Words.{route_of}
use Rattle.model.specs.Decision.{Decision, Decision.refusal, table◌of◌refuse◌then◌}
use Rattle.model.specs.Transfer.{Check, ◌or◌at◌, all◌then◌, first_fault, batch_checks, first_of, items_fault, copies_fault, entry_for}
use Rattle.invariant.proofs.Rows.{good}
use Rattle.invariant.proofs.Counts.{slot_counted}
use Rattle.invariant.proofs.CountLemmas.{of_same}
use Rattle.invariant.proofs.Items.{items_count}
use Rattle.layout.specs.declared.Shape.{Shape}
use Rattle.layout.specs.Layout.{head, load}
use Rattle.layout.specs.Fields.{head_lifecycle, head_cursor}
use Rattle.layout.specs.Sizes.{batch_max}
use Rattle.representation.specs.Represents.{Represents, Rep}
use Rattle.representation.specs.Told.{life_tells}
use Rattle.storage.specs.Reps.{held_of}
use Rattle.lookup.specs.Read.{object_known}
use Rattle.book.specs.Decided.{decided_by, left_is}
use Rattle.transfer.specs.Checks.{Stop, stop, passed, batch_stop, items_stop}
use Rattle.transfer.specs.Preparing.{tried_items}
use Rattle.transfer.proofs.Faults.{Tells, StopTells, items_tell, found_all}
use Rattle.transfer.proofs.Raised.{tally, Outcome, raised_outcome}

-- ---- checks, one after another

decided_some : (n : ℕ) (d : Decision) → 0 < n → decided_by n d ≡ refusal n
decided_some zero d l = absurd (omega arith)
decided_some (suc n) d l = refl

-- a list of checks decides as the stop that tells its first fault
pub checks_decide : (j : ℕ) (cs : List Check) (x : Stop) (d : Decision) → StopTells j (first_fault j cs) x → (all cs then d) ≡ decided_by x.number d
checks_decide j [] x d p = rw p
checks_decide j (c ∷ cs) x d p = bool c.holds
    (λ e. let q : StopTells j (first_fault j cs) x = rw e at p in rw e (checks_decide j cs x d q))
    (λ e. let f : Fault = record { number = c.number; position = j; place = c.place } in
    let q : StopTells j (some f) x = rw e at p in
    let n : x.number ≡ c.number = ap (λ (g : Fault). g.number) q.0 in
    rw e (ap refusal (sym n) ∙ sym (decided_some x.number d q.1)))

-- ---- the checks before the id step

abbrev batch_by : Bool → Bool → Bool → Bool → Bool → Stop
batch_by a e l w i = pick a (pick e (stop 17 2) (pick l (stop 13 3) (pick w (pick i (stop 12 5) passed) (stop 1 4)))) (stop 16 1)

abbrev checks_by : Bool → Bool → Bool → Bool → Bool → List Check
checks_by a e l w i = a or 16 at 1 ∷ not e or 17 at 2 ∷ not l or 13 at 3 ∷ w or 1 at 4 ∷ not i or 12 at 5 ∷ []

batch_by_tells : (j : ℕ) (a e l w i : Bool) → StopTells j (first_fault j (checks_by a e l w i)) (batch_by a e l w i)
batch_by_tells j false e l w i = (refl, omega arith)
batch_by_tells j true true l w i = (refl, omega arith)
batch_by_tells j true false true w i = (refl, omega arith)
batch_by_tells j true false false false i = (refl, omega arith)
batch_by_tells j true false false true true = (refl, omega arith)
batch_by_tells j true false false true false = refl

pub record Passed (s : State) (t : Table) (n : ℕ) : Type 0 where
  pub live : is_active t.life ≡ true
  pub few : n ≤ batch_max
  pub row : free_row s ≡ true
  pub id : eqb s.book.next last_id ≡ false

some_items : (n : ℕ) → ltb 0 n ≡ not (eqb n 0)
some_items zero = refl
some_items (suc n) = lt-ltb 0 (suc n) (omega arith) ∙ sym (ap not (ne_eqb (suc n) 0 (λ e. omega arith)))

by_id : (i : ℕ) → pick (eqb (pick (eqb i last_id) 12 0) 0) passed (stop 12 5) ≡ pick (eqb i last_id) (stop 12 5) passed
by_id i = bool (eqb i last_id) (λ e. rw e) (λ e. rw e)

module _ (ws : List ℕ) (sh : Shape) (s : State) (i : Rep ws sh s) (b : ℕ) where
  r : Represents sh (load ws sh) s
  r = i.reps.memory

  abbrev t : Table
  t = s.tables b

  pub known : ltb b sh.tables ≡ true → b < s.table_count
  known e = omega (arith, ltb-true b sh.tables e, r.table_count)

  pub unknown : ltb b sh.tables ≡ false → (f : Table → Decision) → (table b of s refuse 18 then f) ≡ refusal 18
  unknown e f = rw (le-ltb b s.table_count (omega (arith, ltb-false b sh.tables e, r.table_count)))

  pub table_is : b < s.table_count → (f : Table → Decision) → (table b of s refuse 18 then f) ≡ f (s.tables b)
  table_is l f = rw (lt-ltb b s.table_count l)

  module _ (l : b < s.table_count) (n : ℕ) where
    batch_is : batch_stop (load ws sh) sh b n ≡ batch_by (is_active (s.tables b).life) (eqb n 0) (ltb batch_max n) (free_row s) (eqb s.book.next last_id)
    unfolding batch_stop
    batch_is =
        let d = life_tells (load ws sh (head b head_lifecycle)) (load ws sh (head b head_cursor)) (s.tables b).life (r.tables b l).life in
        rw (d, left_is ws sh s i, r.book.next)
        (ap (λ (x : Stop). pick (is_active (s.tables b).life) (pick (eqb n 0) (stop 17 2) (pick (ltb batch_max n) (stop 13 3) (pick (free_row s) x (stop 1 4)))) (stop 16 1)) (by_id s.book.next))

    -- THE CHECKS OF A BATCH are the model's
    pub batch_tells : (j : ℕ) → StopTells j (first_fault j (batch_checks s (s.tables b) n)) (batch_stop (load ws sh) sh b n)
    unfolding max_batch
    batch_tells j = rw (batch_is, some_items n) (batch_by_tells j (is_active (s.tables b).life) (eqb n 0) (ltb batch_max n) (free_row s) (eqb s.book.next last_id))

    pub batch_passed : (batch_stop (load ws sh) sh b n).number ≡ 0 → Passed s (s.tables b) n
    batch_passed z = go (is_active (s.tables b).life) (eqb n 0) (ltb batch_max n) (free_row s) (eqb s.book.next last_id) refl refl refl refl (rw batch_is at z)
      where
        go : (a e c w k : Bool) → is_active (s.tables b).life ≡ a → ltb batch_max n ≡ c → free_row s ≡ w → eqb s.book.next last_id ≡ k → (batch_by a e c w k).number ≡ 0 → Passed s (s.tables b) n
        go false e c w k p₀ p₁ p₂ p₃ y = absurd (omega arith)
        go true true c w k p₀ p₁ p₂ p₃ y = absurd (omega arith)
        go true false true w k p₀ p₁ p₂ p₃ y = absurd (omega arith)
        go true false false false k p₀ p₁ p₂ p₃ y = absurd (omega arith)
        go true false false true true p₀ p₁ p₂ p₃ y = absurd (omega arith)
        go true false false true false p₀ p₁ p₂ p₃ y = record { live = p₀; few = ltb-false batch_max n p₁; row = p₂; id = p₃ }

  -- ---- the items

  module _ (l : b < s.table_count) (route : ℕ) (bo bk : Option ℕ) (qs : List Item) where
    abbrev es : List Entry
    es = map (entry_for (s.tables b)) qs

    -- a copy's object has a handle in a slot
    counts : items_fault s (s.tables b) (route_of route) bo bk [] 0 qs ≡ none → (o : ℕ) → 0 < tally (s.tables b) o qs → 1 ≤ (s.objects o).count
    counts sound o m = items_count s (s.tables b) (route_of route) bo bk o (1 ≤ (s.objects o).count)
        (λ k g y st e. let c : o < s.object_count = omega (arith, object_known s i.well_formed b l k g y st) in
        omega (arith, slot_counted s (good till s i.well_formed) b k g y l st o c, of_same o y e)) [] 0 qs sound m

    -- THE ITEMS TRIED: no fault, and the copies' objects have their handles; or the first fault, and every word as it was
    pub tried_outcome : Outcome sh s b ws qs (change_all raise (copies_of es) s.objects)
        (first_of (items_fault s (s.tables b) (route_of route) bo bk [] 0 qs) (copies_fault s.objects 0 es)) (tried_items ws sh b route bo bk qs)
    unfolding tried_items
    tried_outcome = go (items_fault s (s.tables b) (route_of route) bo bk [] 0 qs) refl (items_tell sh (load ws sh) s r i.well_formed b l route bo bk [] 0 qs)
      where
        go : (f : Option Fault) → items_fault s (s.tables b) (route_of route) bo bk [] 0 qs ≡ f → Tells f (items_stop (load ws sh) b route bo bk [] 0 qs)
            → Outcome sh s b ws qs (change_all raise (copies_of es) s.objects) (first_of f (copies_fault s.objects 0 es)) (tried_items ws sh b route bo bk qs)
        go none e k = rw k (raised_outcome sh s i.well_formed b l ws (held_of ws sh s i) qs (found_all s (s.tables b) (route_of route) bo bk [] 0 qs e) (counts e))
        go (some f) e k = rw (k.0, ne_eqb f.number 0 (λ z. omega (arith, k.1))) (refl, k.1, refl)
