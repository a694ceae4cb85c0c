-- Judge transfer: its function takes the model's step, and no word of the state changes. Assumes nothing.
use Rattle.std.specs.Prelude.{◌≡◌, false, ◌<◌, length, eqb, ltb}
use Rattle.std.proofs.Math.Path.{refl}
use Rattle.std.proofs.Common.{ap, arith}
use mathlib.Core.List.{List, [], map}
use Rattle.std.proofs.Math.Option.{Option, none, some}
use Prim.Native.Nat.{ℕ}
use borrow.Author.Tests.{ne_eqb}
use Rattle.words.specs.Pick.{pick, bool}
use Rattle.model.specs.State.{till, Table, State}
use Rattle.model.specs.Objects.{raise, change_all}
use Rattle.model.specs.Book.{copies_of}
use Rattle.model.specs.Request.{Request, Request.judge_transfer, Item, Fault, Answer.judged}
use Rattle.model.specs.Words.{route_of, used_words, judged_words}
use Rattle.model.specs.Decision.{Decision, Decision.refusal, Decision.accept}
use Rattle.model.specs.Transfer.{first_fault, no_item, batch_checks, first_of, items_fault, copies_fault, transfer_fault, entry_for}
use Rattle.model.specs.Step.{judge_transfer_of, decide}
use Rattle.layout.specs.declared.Shape.{Shape}
use Rattle.layout.specs.Layout.{load}
use Rattle.representation.specs.Represents.{Rep}
use Rattle.request.specs.Place.{request_of}
use Rattle.answer.specs.Does.{Does, does_refused, does_accepted}
use Rattle.transfer.specs.Checks.{Stop, items_at, batch_stop, in_position}
use Rattle.transfer.specs.Preparing.{Tried, tried, tried_items, lowered_items}
use Rattle.transfer.specs.Judging.{fault_words, judged_items, judged_batch, judging_r, judging_at}
use Rattle.transfer.proofs.Faults.{StopTells}
use Rattle.transfer.proofs.Raised.{Outcome}
use Rattle.transfer.proofs.Tried.{known, unknown, table_is, batch_tells, tried_outcome}
use Rattle.format.specs.Ops.{op_judge_transfer}

-- what a fault is told by: its words, and words that are as they were
record Told (ws : List ℕ) (f : Option Fault) (x : Tried) : Type 0 where
  words : fault_words x.fault ≡ judged_words f
  kept : x.words ≡ ws

module _ (ws : List ℕ) (sh : Shape) (s : State) (i : Rep ws sh s) (os : List ℕ) (base : ℕ) (b route : ℕ) (bo bk : Option ℕ) (qs : List Item) where
  abbrev request : Request
  request = judge_transfer b (route_of route) bo bk qs

  abbrev after_table : Table → Decision
  after_table t = accept s (judged (transfer_fault s t (route_of route) bo bk qs))

  decided_unknown : ltb b sh.tables ≡ false → decide till s request ≡ refusal 18
  unfolding decide judge_transfer_of
  decided_unknown e = unknown ws sh s i b e after_table

  decided_is : b < s.table_count → decide till s request ≡ after_table (s.tables b)
  unfolding decide judge_transfer_of
  decided_is l = table_is ws sh s i b l after_table

  module _ (l : b < s.table_count) where
    abbrev items : Option Fault
    items = first_of (items_fault s (s.tables b) (route_of route) bo bk [] 0 qs) (copies_fault s.objects 0 (map (entry_for (s.tables b)) qs))

    -- of the items: none, and the copies are lowered again; or the first
    items_told : Told ws (first_of (items_fault s (s.tables b) (route_of route) bo bk [] 0 qs) (copies_fault s.objects 0 (map (entry_for (s.tables b)) qs))) (judged_items ws sh b route bo bk qs)
    unfolding judged_items
    items_told = go items (tried_items ws sh b route bo bk qs) (tried_outcome ws sh s i b l route bo bk qs)
      where
        go : (f : Option Fault) (x : Tried) → Outcome sh s b ws qs (change_all raise (copies_of (map (entry_for (s.tables b)) qs)) s.objects) f x
            → Told ws f (pick (eqb x.fault.number 0) (tried x.fault (lowered_items x.words sh b qs)) x)
        go none x o = rw o.0 (record { words = refl; kept = o.2 })
        go (some f) x o = rw (o.0, ne_eqb f.number 0 (λ z. omega (arith, o.1))) (record { words = refl; kept = o.2 })

    -- of the whole
    batch_told : Told ws (transfer_fault s (s.tables b) (route_of route) bo bk qs) (judged_batch ws sh b route bo bk qs)
    unfolding judged_batch
    batch_told = go (first_fault no_item (batch_checks s (s.tables b) (length qs))) (batch_stop (load ws sh) sh b (length qs)) (batch_tells ws sh s i b l (length qs) no_item)
      where
        go : (f : Option Fault) (x : Stop) → StopTells no_item f x
            → Told ws (first_of f items) (pick (eqb x.number 0) (judged_items ws sh b route bo bk qs) (tried (in_position no_item x) ws))
        go none x p = rw p items_told
        go (some f) x p = rw (ne_eqb x.number 0 (λ z. omega (arith, p.1))) (record { words = ap fault_words p.0; kept = refl })

  -- JUDGE TRANSFER is the model's step
  pub judge_transfer_does : Does ws os sh base s (judge_transfer b (route_of route) bo bk qs) (judging_r ws os sh base b route bo bk qs)
  unfolding judging_r used_words
  judge_transfer_does = bool (ltb b sh.tables)
      (λ y. let l = known ws sh s i b y in
      let x = batch_told l in
      rw (y, x.kept, x.words) (does_accepted os sh base s request ws s (judged (transfer_fault s (s.tables b) (route_of route) bo bk qs)) i.reps (decided_is l)))
      (λ y. rw y (does_refused os sh base s request ws 18 i.reps (decided_unknown y)))

  -- "judges a transfer without preparing it": no word of the state changes
  keeps_words : (judging_r ws os sh base b route bo bk qs).state ≡ ws
  unfolding judging_r
  keeps_words = bool (ltb b sh.tables)
      (λ y. rw y (batch_told (known ws sh s i b y)).kept)
      (λ y. rw y)

-- as it stands in a request list: the request of op 28 whose record stands at a place
pub judging_at_does : (ws : List ℕ) (sh : Shape) (s : State) → Rep ws sh s → (os : List ℕ) (base : ℕ) (list : List ℕ) (place : ℕ)
    → Does ws os sh base s (request_of op_judge_transfer list place) (judging_at ws os sh base list place)
unfolding request_of judging_at items_at
judging_at_does ws sh s i os base list place = judge_transfer_does ws sh s i os base _ _ _ _ _

pub judging_keeps : (ws : List ℕ) (sh : Shape) (s : State) → Rep ws sh s → (os : List ℕ) (base : ℕ) (list : List ℕ) (place : ℕ) → (judging_at ws os sh base list place).state ≡ ws
unfolding judging_at
judging_keeps ws sh s i os base list place = keeps_words ws sh s i os base _ _ _ _ _
