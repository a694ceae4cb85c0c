-- Prepare transfer: its function takes the model's step. Assumes nothing.
use Rattle.std.specs.Prelude.{◌≡◌, true, false, ℕ, suc, ◌+◌, ◌^◌, ◌<◌, length, set, eqb, ltb}
use Rattle.std.proofs.Math.Path.{refl}
use Rattle.std.proofs.Common.{ap, ◌∙◌, arith}
use mathlib.Core.List.{List, [], ◌∷◌, map}
use Rattle.std.proofs.Math.Option.{Option, none, some}
use borrow.Author.Tests.{eqb-true, eqb-false, ne_eqb}
use Rattle.words.specs.Pick.{pick, bool}
use Rattle.model.specs.Base.{occurs}
use Rattle.model.specs.State.{till, Slot.transfer_reserved, Table, Entry, Body.claim, State, is_busy}
use Rattle.model.specs.Storage.{keep_all}
use Rattle.model.specs.Change.{with_table, with_objects}
use Rattle.model.specs.Objects.{raise, change_all}
use Rattle.model.specs.Book.{add_row, moved_of, copies_of}
use Rattle.model.specs.Request.{Request, Request.prepare_transfer, Item, Fault, Answer.opened}
use Rattle.model.specs.Words.{route_of, used_words}
use Rattle.model.specs.Decision.{Decision, Decision.refusal, Decision.refusal_after_id, Decision.accept, unless◌refuse◌then◌, refuse_after_id◌then◌}
use Rattle.model.specs.Transfer.{all◌then◌, no_item, batch_checks, first_of, items_fault, copies_fault, entry_for}
use Rattle.model.specs.Step.{prepare_transfer_of, decide}
use Rattle.model.specs.WellFormed.{All}
use Rattle.model.proofs.Tests.{apart}
use Rattle.invariant.proofs.Items.{items_stand, taken, both_none}
use Rattle.layout.specs.declared.Shape.{Shape}
use Rattle.layout.specs.Regions.{region, in_place}
use Rattle.layout.specs.Layout.{layout, root, load, save, in_root, load_root}
use Rattle.layout.specs.Fields.{root_next_id}
use Rattle.layout.specs.Sizes.{root_size}
use Rattle.layout.specs.RegionNames.{region_root}
use Rattle.representation.specs.Represents.{Represents, Rep}
use Rattle.request.specs.Place.{request_of}
use Rattle.storage.specs.Reps.{Held, held_of}
use Rattle.book.specs.Ops.{spare, spend_w}
use Rattle.book.specs.Open.{spend_held}
use Rattle.answer.specs.Does.{id_spent, Does, does_refused, does_refused_after_id, does_accepted}
use Rattle.book.specs.Decided.{decided_by, refused_when, accepted_when, free_place, next_after}
use Rattle.transfer.specs.Ops.{claim_w}
use Rattle.transfer.specs.Checks.{Stop, items_at, batch_stop}
use Rattle.transfer.specs.Preparing.{Tried, tried_items, entries_w, refuse_spent_r, opened_r, items_r, transfer_r, transfer_at}
use Rattle.transfer.proofs.Claim.{claim_held}
use Rattle.transfer.proofs.Faults.{Found, found_all}
use Rattle.transfer.proofs.Raised.{Outcome}
use Rattle.transfer.proofs.Tried.{checks_decide, Passed, known, unknown, table_is, batch_tells, batch_passed, tried_outcome}
use Rattle.transfer.proofs.Entries.{entries_listed}
use Rattle.format.specs.Ops.{op_prepare_transfer}

-- ---- the id

save_root : (ws : List ℕ) (sh : Shape) (f v : ℕ) → f < root_size → save ws sh (root f) v ≡ set ws f v
unfolding save
save_root ws sh f v h = ap (λ (i : ℕ). set ws i v) (in_place (region (layout sh) region_root) 0 0 f (length ws) (in_root sh f h) ∙ omega arith)

-- the id's word, one more, and no other
spent_is : (ws : List ℕ) (sh : Shape) → load ws sh (root root_next_id) + 1 < 2 ^ 64 → spend_w ws sh ≡ id_spent ws
unfolding spend_w id_spent
spent_is ws sh l = save_root ws sh root_next_id _ (omega arith) ∙ ap (set ws root_next_id) (let e = load_root ws sh root_next_id (omega arith) in omega (arith, e))

-- ---- the claim

map_length : (f : Item → Entry) (qs : List Item) → length (map f qs) ≡ length qs
map_length f [] = refl
map_length f (q ∷ qs) = ap suc (map_length f qs)

after_first : (a c : Option Fault) (f : Fault) (d : Decision) → first_of a c ≡ some f → (refuse_after_id a then refuse_after_id c then d) ≡ refusal_after_id f.number
after_first none none f d e = apart (cc)
after_first none (some g) f d e = let z : g ≡ f = cc in rw z
after_first (some g) c f d e = let z : g ≡ f = cc in rw z

module _ (ws : List ℕ) (sh : Shape) (s : State) (i : Rep ws sh s) (os : List ℕ) (base : ℕ) (b route : ℕ) (bo bk : Option ℕ) (qs : List Item) where
  r : Represents sh (load ws sh) s
  r = i.reps.memory

  h : Held ws sh s
  h = held_of ws sh s i

  abbrev request : Request
  request = prepare_transfer b (route_of route) bo bk qs

  abbrev es : List Entry
  es = map (entry_for (s.tables b)) qs

  -- what the request leaves when it is accepted
  abbrev after : State
  after = add_row (claim b es) (with_objects (with_table s b (keep_all till (λ g. transfer_reserved g s.book.next) (moved_of es) (s.tables b))) (change_all raise (copies_of es) s.objects))

  -- from the id step on
  abbrev rest : Decision
  rest =
      refuse_after_id items_fault s (s.tables b) (route_of route) bo bk [] 0 qs then
      refuse_after_id copies_fault s.objects 0 es then
      accept after (opened s.book.next)

  abbrev after_table : Table → Decision
  after_table t =
      all batch_checks s t (length qs) then
      refuse_after_id items_fault s t (route_of route) bo bk [] 0 qs then
      let n : ℕ = s.book.next in
      let ds : List Entry = map (entry_for t) qs in
      refuse_after_id copies_fault s.objects 0 ds then
      accept (add_row (claim b ds) (with_objects (with_table s b (keep_all till (λ g. transfer_reserved g n) (moved_of ds) t)) (change_all raise (copies_of ds) s.objects)))
      (opened n)

  abbrev batch : Stop
  batch = batch_stop (load ws sh) sh b (length qs)

  decided_unknown : ltb b sh.tables ≡ false → decide till s request ≡ refusal 18
  unfolding decide prepare_transfer_of
  decided_unknown e = unknown ws sh s i b e after_table

  decided_is : b < s.table_count → decide till s request ≡ decided_by (batch_stop (load ws sh) sh b (length qs)).number rest
  unfolding decide prepare_transfer_of
  decided_is l = table_is ws sh s i b l after_table
      ∙ checks_decide no_item (batch_checks s (s.tables b) (length qs)) (batch_stop (load ws sh) sh b (length qs)) rest (batch_tells ws sh s i b l (length qs) no_item)

  -- ---- from the id step on

  module _ (l : b < s.table_count) (p : Passed s (s.tables b) (length qs)) (d : decide till s request ≡ rest) where
    left : s.book.next + 1 < 2 ^ 64
    left = next_after ws sh s i p.id

    -- refused with the number n: the id is spent, and no other word is changed
    refused_does : (n : ℕ) → rest ≡ refusal_after_id n → Does ws os sh base s request (refuse_spent_r ws os sh base n)
    unfolding refuse_spent_r
    refused_does n e =
        let z : spend_w ws sh ≡ id_spent ws = spent_is ws sh (rw r.book.next left) in
        rw z (does_refused_after_id os sh base s request ws n (rw z at (spend_held ws sh s h left).reps) (d ∙ e))

    module _ (sound : items_fault s (s.tables b) (route_of route) bo bk [] 0 qs ≡ none) where
      found : All (Found (s.tables b)) qs
      found = found_all s (s.tables b) (route_of route) bo bk [] 0 qs sound

      busy : (k : ℕ) → 0 < occurs k (moved_of es) → is_busy ((s.tables b).slots k) ≡ true
      busy k m = rw (taken (s.tables b).slots es k (items_stand s (s.tables b) (route_of route) bo bk [] 0 qs sound) m).stood

      -- THE CLAIM of a transfer whose copies are raised
      opened_held : (vs : List ℕ) → Held vs sh (with_objects s (change_all raise (copies_of es) s.objects))
          → Held (claim_w (entries_w vs sh b (spare (load vs sh)) 0 qs) sh b (length qs)) sh after
      opened_held vs g =
          let free = free_place ws sh s i p.row in
          let x = entries_listed sh s i.well_formed b l vs (change_all raise (copies_of es) s.objects) g free qs p.few found in
          rw (map_length (entry_for (s.tables b)) qs) at
          (claim_held vs (entries_w vs sh b (spare (load vs sh)) 0 qs) sh (with_objects s (change_all raise (copies_of es) s.objects)) g free x.fills b es l left x.are busy)

    -- by where the items stop
    tried_does : (c : Option Fault) → first_of (items_fault s (s.tables b) (route_of route) bo bk [] 0 qs) (copies_fault s.objects 0 es) ≡ c → (x : Tried)
        → Outcome sh s b ws qs (change_all raise (copies_of es) s.objects) c x
        → Does ws os sh base s request (pick (eqb x.fault.number 0) (opened_r x.words os sh base b qs) (refuse_spent_r x.words os sh base x.fault.number))
    unfolding opened_r used_words
    tried_does none e x o =
        let f = both_none (items_fault s (s.tables b) (route_of route) bo bk [] 0 qs) (copies_fault s.objects 0 es) e in
        let n : load x.words sh (root root_next_id) ≡ s.book.next = o.1.reps.memory.book.next in
        rw (o.0, n) (does_accepted os sh base s request (claim_w (entries_w x.words sh b (spare (load x.words sh)) 0 qs) sh b (length qs)) after (opened s.book.next)
        (opened_held f.0 x.words o.1).reps (d ∙ rw (f.0, f.1)))
    tried_does (some f) e x o =
        rw (o.0, o.2, ne_eqb f.number 0 (λ z. omega (arith, o.1)))
        (refused_does f.number (after_first (items_fault s (s.tables b) (route_of route) bo bk [] 0 qs) (copies_fault s.objects 0 es) f (accept after (opened s.book.next)) e))

    items_does : Does ws os sh base s request (items_r ws os sh base b route bo bk qs)
    unfolding items_r
    items_does = tried_does (first_of (items_fault s (s.tables b) (route_of route) bo bk [] 0 qs) (copies_fault s.objects 0 es)) refl (tried_items ws sh b route bo bk qs)
        (tried_outcome ws sh s i b l route bo bk qs)

  -- PREPARE TRANSFER is the model's step
  pub prepare_transfer_does : Does ws os sh base s (prepare_transfer b (route_of route) bo bk qs) (transfer_r ws os sh base b route bo bk qs)
  unfolding transfer_r
  prepare_transfer_does = bool (ltb b sh.tables)
      (λ y. let l = known ws sh s i b y in
      bool (eqb batch.number 0)
      (λ p. let k : batch.number ≡ 0 = eqb-true batch.number 0 p in
      rw (y, p) (items_does l (batch_passed ws sh s i b l (length qs) k) (accepted_when batch.number (decide till s request) rest (decided_is l) k)))
      (λ p. rw (y, p) (does_refused os sh base s request ws batch.number i.reps (refused_when batch.number (decide till s request) rest (decided_is l) (eqb-false batch.number 0 p)))))
      (λ y. rw y (does_refused os sh base s request ws 18 i.reps (decided_unknown y)))

-- as it stands in a request list: the request of op 14 whose record stands at a place
pub transfer_at_does : (ws : List ℕ) (sh : Shape) (s : State) → Rep ws sh s → (os : List ℕ) (base : ℕ) (list : List ℕ) (place : ℕ)
    → Does ws os sh base s (request_of op_prepare_transfer list place) (transfer_at ws os sh base list place)
unfolding request_of transfer_at items_at
transfer_at_does ws sh s i os base list place =
    prepare_transfer_does ws sh s i os base _ _ _ _ _
