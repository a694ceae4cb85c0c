-- Document 02, 4: what judging a transfer answers. Assumes nothing.
use Rattle.std.specs.Prelude.{◌≡◌, Bool, true, ◌&&◌, length, drop, ltb}
use Rattle.std.proofs.Math.Path.{refl, ap}
use Rattle.std.proofs.Common.{sym, ◌∙◌, arith, append-nil}
use Rattle.format.specs.Format.{answer_words}
use Rattle.std.proofs.lemmas.List.{length-map}
use mathlib.Core.List.{List, [], ◌∷◌, ◌++◌, map}
use Prim.Native.Nat.{ℕ, suc, ◌+◌, ◌≤◌, ◌<◌}
use Rattle.std.proofs.Math.Option.{Option, none, some}
use borrow.Author.Tests.{lt-ltb, le-ltb, ltb-true, ltb-false}
use Rattle.model.specs.Base.{pick, every, between}
use Rattle.model.specs.State.{Sizes, till, Slot.transfer_reserved, Table, Object, Entry, Entry.moved, Entry.copied, Body.claim, State}
use Rattle.model.specs.Request.{Route, Item, Fault, Request, Request.prepare_transfer, Request.judge_transfer, Answer, Answer.refused, Answer.opened, Answer.judged}
use Rattle.model.specs.Storage.{keep_all}
use Rattle.model.specs.Change.{with_table, with_objects}
use Rattle.model.specs.Objects.{change, change_all, raise}
use Rattle.model.specs.Book.{add_row, moved_of, copies_of}
use Rattle.model.specs.Lookup.{lookup}
use Rattle.model.specs.Decision.{Decision, Decision.accept, refuse_after_id◌then◌, table◌of◌refuse◌then◌}
use Rattle.model.specs.Transfer.{Check, all◌then◌, first_fault, no_item, batch_checks, item_checks, copy_checks, first_of, items_fault, copies_fault, transfer_fault, entry_for}
use Rattle.model.specs.Step.{prepare_transfer_of, judge_transfer_of, decide, carry, step}
use Rattle.model.specs.Words.{read_list, used_words, judged_words, padded, words_of}
use Rattle.model.proofs.Tests.{apart, bool, and_left, and_right, within}
use Rattle.noninterference.specs.Runs.{accepted}
use Rattle.layout.specs.declared.Shape.{Shape}
use Rattle.representation.specs.Represents.{Rep}
use Rattle.contract.specs.Meets.{Called, Meets}
use Rattle.promises.proofs.Demand1.{demand_1}
use Rattle.promises.proofs.Demand2.{demand_2}
use Rattle.promises.specs.Judging.{Placed, placed_in, all_of_items, all_of_copies, all_checks, passes, FirstOf, Judges, JudgedCall}

-- ---- the first of a list of checks

fault_in : List Placed → Option Fault
fault_in [] = none
fault_in (c ∷ cs) = pick c.check.holds (fault_in cs) (some (record { number = c.check.number; position = c.position; place = c.check.place }))

fault_then : (cs ds : List Placed) → fault_in (cs ++ ds) ≡ first_of (fault_in cs) (fault_in ds)
unfolding fault_in
fault_then [] ds = refl
fault_then (c ∷ cs) ds = bool c.check.holds (λ e. rw e (fault_then cs ds)) (λ e. rw e)

fault_placed : (j : ℕ) (cs : List Check) → fault_in (placed_in j cs) ≡ first_fault j cs
unfolding fault_in
fault_placed j [] = refl
fault_placed j (c ∷ cs) = bool c.holds (λ e. rw e (fault_placed j cs)) (λ e. rw e)

first_is : (cs : List Placed) (f : Fault) → fault_in cs ≡ some f → FirstOf cs f
unfolding fault_in
first_is [] f e = apart (cc)
first_is (c ∷ cs) f e = bool c.check.holds
    (λ h. let r = first_is cs f (rw h at e) in record {
      before = c ∷ r.before;
      one = r.one;
      behind = r.behind;
      whole = ap (λ (l : List Placed). c ∷ l) r.whole;
      pass = rw h r.pass;
      fails = r.fails;
      number = r.number;
      position = r.position;
      place = r.place;
    })
    (λ h. let g : Fault = record { number = c.check.number; position = c.position; place = c.check.place } in
    let d : some g ≡ some f = rw h at e in
    let q : g ≡ f = cc in record {
      before = [];
      one = c;
      behind = cs;
      whole = refl;
      pass = refl;
      fails = h;
      number = ap (λ (x : Fault). x.number) (sym q);
      position = ap (λ (x : Fault). x.position) (sym q);
      place = ap (λ (x : Fault). x.place) (sym q);
    })

none_fails : (cs : List Placed) → fault_in cs ≡ none → every passes cs ≡ true
unfolding fault_in
none_fails [] e = refl
none_fails (c ∷ cs) e = bool c.check.holds
    (λ h. rw h (none_fails cs (rw h at e)))
    (λ h. let g : Fault = record { number = c.check.number; position = c.position; place = c.check.place } in
    let d : some g ≡ none = rw h at e in apart (cc))

-- what a fault may be among n items
record InRange (n number place position : ℕ) : Type 0 where
  some : 1 ≤ number
  known : number ≤ 17
  low : 1 ≤ place
  high : place ≤ 17
  before : place ≤ 5 → position ≡ 64
  item : 6 ≤ place → position < n

abbrev AllIn : ℕ → List Placed → Type 0
AllIn n [] = Unit {0}
AllIn n (c ∷ cs) = InRange n c.check.number c.check.place c.position × AllIn n cs

in_then : (n : ℕ) (cs ds : List Placed) → AllIn n cs → AllIn n ds → AllIn n (cs ++ ds)
in_then n [] ds p q = q
in_then n (c ∷ cs) ds p q = (p.0, in_then n cs ds p.1 q)

in_first : (n : ℕ) (cs : List Placed) (f : Fault) → AllIn n cs → fault_in cs ≡ some f → InRange n f.number f.place f.position
unfolding fault_in
in_first n [] f p e = apart (cc)
in_first n (c ∷ cs) f p e = bool c.check.holds
    (λ h. in_first n cs f p.1 (rw h at e))
    (λ h. let g : Fault = record { number = c.check.number; position = c.position; place = c.check.place } in
    let d : some g ≡ some f = rw h at e in
    let q : g ≡ f = cc in rw (← q) p.0)

-- the numbers and places of checks, looked at: of a batch, and of an item in position j
abbrev batch_fits : Check → Bool
batch_fits c = between 1 c.number 17 && between 1 c.place 5

abbrev item_fits : Check → Bool
item_fits c = between 1 c.number 17 && between 6 c.place 17

of_batch : (n : ℕ) (cs : List Check) → every batch_fits cs ≡ true → AllIn n (placed_in no_item cs)
of_batch n [] e = tt
of_batch n (c ∷ cs) e =
    let b = and_left (batch_fits c) (every batch_fits cs) e in
    let m = within 1 c.number 17 (and_left (between 1 c.number 17) (between 1 c.place 5) b) in
    let p = within 1 c.place 5 (and_right (between 1 c.number 17) (between 1 c.place 5) b) in
    (record { some = m.0; known = m.1; low = p.0; high = omega (arith, p.1); before = λ q. refl; item = λ q. absurd (omega (arith, p.1)) }, of_batch n cs (and_right (batch_fits c) (every batch_fits cs) e))

of_items : (n j : ℕ) (cs : List Check) → j < n → every item_fits cs ≡ true → AllIn n (placed_in j cs)
of_items n j [] l e = tt
of_items n j (c ∷ cs) l e =
    let b = and_left (item_fits c) (every item_fits cs) e in
    let m = within 1 c.number 17 (and_left (between 1 c.number 17) (between 6 c.place 17) b) in
    let p = within 6 c.place 17 (and_right (between 1 c.number 17) (between 6 c.place 17) b) in
    (record { some = m.0; known = m.1; low = omega (arith, p.0); high = p.1; before = λ q. absurd (omega (arith, p.0)); item = λ q. l }, of_items n j cs l (and_right (item_fits c) (every item_fits cs) e))

module _ (z : Sizes) (s : State) (t : Table) (route : Route) (o k : Option ℕ) where
  items_placed : (earlier : List ℕ) (j : ℕ) (qs : List Item) → fault_in (all_of_items s t route o k earlier j qs) ≡ items_fault s t route o k earlier j qs
  unfolding fault_in
  items_placed earlier j [] = refl
  items_placed earlier j (q ∷ qs) =
      let cs : List Check = item_checks s route o k earlier q (lookup t q.value) in
      fault_then (placed_in j cs) (all_of_items s t route o k (q.value ∷ earlier) (suc j) qs)
      ∙ rw (fault_placed j cs, items_placed (q.value ∷ earlier) (suc j) qs)

  items_in : (n : ℕ) (earlier : List ℕ) (j : ℕ) (qs : List Item) → j + length qs ≤ n → AllIn n (all_of_items s t route o k earlier j qs)
  items_in n earlier j [] l = tt
  items_in n earlier j (q ∷ qs) l =
      let cs : List Check = item_checks s route o k earlier q (lookup t q.value) in
      in_then n (placed_in j cs) (all_of_items s t route o k (q.value ∷ earlier) (suc j) qs) (of_items n j cs (omega arith) refl) (items_in n (q.value ∷ earlier) (suc j) qs (omega arith))

  copies_placed : (os : ℕ → Object) (j : ℕ) (es : List Entry) → fault_in (all_of_copies os j es) ≡ copies_fault os j es
  unfolding fault_in
  copies_placed os j [] = refl
  copies_placed os j (moved i h r ∷ es) = copies_placed os (suc j) es
  copies_placed os j (copied h ∷ es) =
      fault_then (placed_in j (copy_checks (os h.object))) (all_of_copies (change raise os h.object) (suc j) es)
      ∙ rw (fault_placed j (copy_checks (os h.object)), copies_placed (change raise os h.object) (suc j) es)

  copies_in : (n : ℕ) (os : ℕ → Object) (j : ℕ) (es : List Entry) → j + length es ≤ n → AllIn n (all_of_copies os j es)
  copies_in n os j [] l = tt
  copies_in n os j (moved i h r ∷ es) l = copies_in n os (suc j) es (omega arith)
  copies_in n os j (copied h ∷ es) l =
      let cs : List Check = copy_checks (os h.object) in
      in_then n (placed_in j cs) (all_of_copies (change raise os h.object) (suc j) es) (of_items n j cs (omega arith) refl) (copies_in n (change raise os h.object) (suc j) es (omega arith))

  -- THE FIRST OF ALL CHECKS is the fault
  whole_placed : (qs : List Item) → fault_in (all_checks s t route o k qs) ≡ transfer_fault s t route o k qs
  whole_placed qs =
      let front : List Placed = placed_in no_item (batch_checks s t (length qs)) in
      let items : List Placed = all_of_items s t route o k [] 0 qs in
      let copies : List Placed = all_of_copies s.objects 0 (map (entry_for t) qs) in
      fault_then front (items ++ copies) ∙ ap (first_of (fault_in front)) (fault_then items copies)
      ∙ rw (fault_placed no_item (batch_checks s t (length qs)), items_placed [] 0 qs, copies_placed s.objects 0 (map (entry_for t) qs))

  whole_in : (qs : List Item) → AllIn (length qs) (all_checks s t route o k qs)
  whole_in qs =
      let n : ℕ = length qs in
      in_then (length qs) (placed_in no_item (batch_checks s t (length qs))) (all_of_items s t route o k [] 0 qs ++ all_of_copies s.objects 0 (map (entry_for t) qs))
      (of_batch (length qs) (batch_checks s t (length qs)) refl)
      (in_then (length qs) (all_of_items s t route o k [] 0 qs) (all_of_copies s.objects 0 (map (entry_for t) qs)) (items_in (length qs) [] 0 qs (omega arith))
      (copies_in (length qs) s.objects 0 (map (entry_for t) qs) (omega (arith, length-map qs (entry_for t)))))

-- ---- beside preparing

-- a preparation by where its checks stop
abbrev Told : State → Answer → Option Fault → Decision → Type 0
Told u a none d = d ≡ accept u a
Told u a (some f) d = (z : Sizes) (s : State) → (carry z s d).1 ≡ refused f.number

told : (j : ℕ) (cs : List Check) (i c : Option Fault) (u : State) (a : Answer)
    → Told u a (first_of (first_fault j cs) (first_of i c)) (all cs then refuse_after_id i then refuse_after_id c then accept u a)
told j [] none none u a = refl
told j [] none (some f) u a = λ z s. refl
told j [] (some f) c u a = λ z s. refl
told j (x ∷ cs) i c u a = bool x.holds (λ e. rw e (told j cs i c u a)) (λ e. rw e (λ z s. refl))

module _ (z : Sizes) (s : State) (b : ℕ) (route : Route) (o k : Option ℕ) (qs : List Item) where
  abbrev judge : Request
  judge = judge_transfer b route o k qs

  abbrev prepare : Request
  prepare = prepare_transfer b route o k qs

  abbrev fault : Option Fault
  fault = transfer_fault s (s.tables b) route o k qs

  judge_there : b < s.table_count → step z s judge ≡ (s, judged fault)
  unfolding step decide judge_transfer_of
  judge_there l = rw (lt-ltb b s.table_count l)

  judge_gone : s.table_count ≤ b → step z s judge ≡ (s, refused 18)
  unfolding step decide judge_transfer_of
  judge_gone l = rw (le-ltb b s.table_count l)

  prepare_gone : s.table_count ≤ b → (step z s prepare).1 ≡ refused 18
  unfolding step decide prepare_transfer_of
  prepare_gone l = rw (le-ltb b s.table_count l)

  -- a table is there or not
  there_or {ℓ} : {C : Type ℓ} → (b < s.table_count → C) → (s.table_count ≤ b → C) → C
  there_or f g = bool (ltb b s.table_count) (λ e. f (ltb-true b s.table_count e)) (λ e. g (ltb-false b s.table_count e))

  abbrev es : List Entry
  es = map (entry_for (s.tables b)) qs

  -- what preparation leaves where its checks pass
  abbrev after : State
  after = add_row (claim b es) (with_objects (with_table s b (keep_all z (λ g. transfer_reserved g s.book.next) (moved_of es) (s.tables b))) (change_all raise (copies_of es) s.objects))

  abbrev rest : Decision
  rest =
      all batch_checks s (s.tables b) (length qs) then
      refuse_after_id items_fault s (s.tables b) route o k [] 0 qs then
      refuse_after_id copies_fault s.objects 0 es then
      accept after (opened s.book.next)

  prepare_is : b < s.table_count → step z s prepare ≡ carry z s rest
  unfolding step decide prepare_transfer_of
  prepare_is l = rw (lt-ltb b s.table_count l)

  prepare_told : Told after (opened s.book.next) fault rest
  prepare_told = told no_item (batch_checks s (s.tables b) (length qs)) (items_fault s (s.tables b) route o k [] 0 qs) (copies_fault s.objects 0 es) after (opened s.book.next)

  prepare_opens : b < s.table_count → fault ≡ none → (step z s prepare).1 ≡ opened s.book.next
  prepare_opens l e =
      let d : Told after (opened s.book.next) none rest = rw e at prepare_told in
      ap (λ (p : State × Answer). p.1) (prepare_is l ∙ ap (carry z s) d)

  prepare_refuses : b < s.table_count → (f : Fault) → fault ≡ some f → (step z s prepare).1 ≡ refused f.number
  prepare_refuses l f e =
      let d : Told after (opened s.book.next) (some f) rest = rw e at prepare_told in
      ap (λ (p : State × Answer). p.1) (prepare_is l) ∙ d z s

  -- by what is told
  there_of : (x : Option Fault) → (step z s judge).1 ≡ judged x → (b < s.table_count) × (fault ≡ x)
  there_of x e = there_or
      (λ l. let d : judged fault ≡ judged x = sym (ap (λ (p : State × Answer). p.1) (judge_there l)) ∙ e in (l, let q : fault ≡ x = cc in q))
      (λ l. let d : refused 18 ≡ judged x = sym (ap (λ (p : State × Answer). p.1) (judge_gone l)) ∙ e in apart (cc))

  gone_of : (step z s judge).1 ≡ refused 18 → s.table_count ≤ b
  gone_of e = there_or
      (λ l. let d : judged fault ≡ refused 18 = sym (ap (λ (p : State × Answer). p.1) (judge_there l)) ∙ e in apart (cc))
      (λ l. l)

  range_of : (f : Fault) → fault ≡ some f → InRange (length qs) f.number f.place f.position
  range_of f e = in_first (length qs) (all_checks s (s.tables b) route o k qs) f (whole_in z s (s.tables b) route o k qs) (whole_placed z s (s.tables b) route o k qs ∙ e)

  never_18 : b < s.table_count → (step z s prepare).1 ≡ refused 18 → ⊥
  never_18 l e = go fault refl
    where
      go : (x : Option Fault) → fault ≡ x → ⊥
      go none q = let d : opened s.book.next ≡ refused 18 = sym (prepare_opens l q) ∙ e in apart (cc)
      go (some f) q = let d : refused f.number ≡ refused 18 = sym (prepare_refuses l f q) ∙ e in
          let n : f.number ≡ 18 = cc in omega (arith, (range_of f q).known)

  accepted_there : accepted (step z s prepare).1 ≡ true → (step z s judge).1 ≡ judged none
  accepted_there e = there_or
      (λ l. go l fault refl)
      (λ l. let d : accepted (refused 18) ≡ true = rw (prepare_gone l) at e in apart (cc))
    where
      go : b < s.table_count → (x : Option Fault) → fault ≡ x → (step z s judge).1 ≡ judged none
      go l none q = ap (λ (p : State × Answer). p.1) (judge_there l) ∙ ap judged q
      go l (some f) q = let d : accepted (refused f.number) ≡ true = rw (prepare_refuses l f q) at e in apart (cc)

  same_state : (step z s judge).0 ≡ s
  same_state = there_or (λ l. ap (λ (p : State × Answer). p.0) (judge_there l)) (λ l. ap (λ (p : State × Answer). p.0) (judge_gone l))

  -- JUDGING says where preparation stops
  pub judging : Judges z s b route o k qs
  judging = record {
    changes_nothing = same_state;
    twice = ap (λ (u : State). (step z s judge).1 ∷ (step z u judge).1 ∷ []) same_state;
    misuse = ((λ l. ap (λ (p : State × Answer). p.1) (judge_gone l)), gone_of);
    misuse_of_both = ((λ e. prepare_gone (gone_of e)), λ e. there_or (λ l. absurd (never_18 l e)) (λ l. ap (λ (p : State × Answer). p.1) (judge_gone l)));
    told = λ l. ap (λ (p : State × Answer). p.1) (judge_there l);
    accepted_as = ((λ e. let x = there_of none e in ap accepted (prepare_opens x.0 x.1)), accepted_there);
    all_pass = λ e. none_fails (all_checks s (s.tables b) route o k qs) (whole_placed z s (s.tables b) route o k qs ∙ (there_of none e).1);
    refused_as = λ f e. let x = there_of (some f) e in prepare_refuses x.0 f x.1;
    stops_at = λ f e. first_is (all_checks s (s.tables b) route o k qs) f (whole_placed z s (s.tables b) route o k qs ∙ (there_of (some f) e).1);
    ranges = λ f e. let r = range_of f (there_of (some f) e).1 in (r.some, r.known, r.low, r.high, r.before, r.item);
  }

-- ---- a call

-- A CALL whose list is one judging says so in its words, and changes no word of the state
pub judging_call : (ws list os : List ℕ) (x : Called) → Meets ws list os x → (sh : Shape) (s : State) → Rep ws sh s
    → (b : ℕ) (route : Route) (o k : Option ℕ) (qs : List Item) → read_list list ≡ some (judge_transfer b route o k qs ∷ []) → answer_words ≤ length os → b < s.table_count
    → JudgedCall ws os (transfer_fault s (s.tables b) route o k qs) x
unfolding used_words words_of
judging_call ws list os x m sh s r b route o k qs e h l =
    let j : Request = judge_transfer b route o k qs in
    let d = demand_2 ws list os x m sh s r (j ∷ []) e (omega (arith, h)) in
    let each = (demand_1 ws list os x m).refused sh s r (j ∷ []) e (omega (arith, h)) in
    record {
      result = d.result;
      answer = d.answers ∙ rw (judge_there till s b route o k qs l) (ap (λ (w : List ℕ). w ++ drop answer_words os) (append-nil (padded answer_words (0 ∷ judged_words (transfer_fault s (s.tables b) route o k qs)))));
      state = each.3 ∙ each.2.judging refl;
    }
