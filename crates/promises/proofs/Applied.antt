-- That the promises say something: each is put to use on the shop's words, every field of its conclusion. Assumes nothing.
use Rattle.std.specs.Prelude.{◌≡◌, Bool, true, false, not, ◌||◌, length, get_or, replicate, eqb, ltb}
use Rattle.std.proofs.Math.Path.{refl, ap, subst}
use Rattle.std.proofs.Common.{sym, ◌∙◌, arith, zero-add, suc-add, ne_eqb, eqb-true}
use mathlib.Core.List.{List, [], ◌∷◌, ◌++◌, map}
use Rattle.std.proofs.Math.Option.{Option, none, some}
use Prim.Native.Nat.{ℕ, zero, suc, ◌+◌, ◌*◌, ◌≤◌, ◌<◌}
use Rattle.std.proofs.Math.ListN.{take, drop}
use Rattle.std.proofs.Math.Seq.{take-nil}
use Rattle.words.specs.Pick.{clash}
use Rattle.format.specs.Format.{answer_words}
use Rattle.model.specs.Base.{member, pick, every}
use Rattle.model.specs.State.{till, Table, State, Slot.reserved, max_tables}
use Rattle.model.specs.Create.{permitted}
use Rattle.model.specs.Request.{Route.buffered, Answer.opened, Request, Request.duplicate, Request.reserve, Request.publish, Request.close, Request.prepare_consumption, Request.rollback, Request.commit}
use Rattle.model.specs.Step.{step, run}
use Rattle.model.specs.WellFormed.{WellFormed, Equal}
use Rattle.invariant.proofs.Pages.{till_sane}
use Rattle.invariant.proofs.Kept.{kept}
use Rattle.model.proofs.Refusals.{spends}
use Rattle.model.specs.Words.{read_list, used_words, padded, words_of, all_words}
use Rattle.model.proofs.Tests.{same_list_equal}
use Rattle.layout.specs.declared.Shape.{Shape}
use Rattle.layout.specs.Layout.{head, load, load_root}
use Rattle.layout.specs.Fields.{root_next_id, head_first_free}
use Rattle.representation.specs.Represents.{slot_in, TableIs, Rep}
use Rattle.representation.specs.Unique.{shape_for, shape_unique, rep_unique}
use Rattle.answer.specs.Does.{id_spent}
use Rattle.create.specs.Parameters.{parameters_of, tables_in}
use Rattle.create.specs.Meets.{Meets as Creates}
use Rattle.noninterference.specs.Runs.{accepted, lowered, with_slots, lower_table, lower_state}
use Rattle.contract.specs.Meets.{Called, Meets}
use Rattle.promises.specs.Lower.{Ending, Ending.rolled_back, Ending.committed, end_h, end_p, lower_answers, rollback_words, commit_words, closing_words}
use Rattle.promises.proofs.Lower.{reads_rollback, reads_commit}
use Rattle.promises.specs.Terms.{Call, Calls, left, list_of, answers_of, Passed, Together, Each}
use Rattle.promises.proofs.Calls.{read_once}
use Rattle.promises.proofs.Held.{list_then}
use Rattle.promises.proofs.Demand1.{demand_1, demand_1_creation}
use Rattle.promises.proofs.Demand2.{demand_2, demand_2_cut, demand_2_creation}
use Rattle.promises.specs.Demand3.{TwoRuns, Same}
use Rattle.promises.proofs.Demand3.{demand_3}
use Rattle.promises.specs.Transfers.{SameOrders}
use Rattle.promises.proofs.Transfers.{transfer_keeps_orders, consumption_keeps_orders, rollback_keeps_orders, transfer_is_closing, consumption_is_closing}
use Rattle.promises.specs.Batches.{lacking, NewPages}
use Rattle.promises.proofs.Batches.{pages_of_64}
use Rattle.promises.proofs.ShopRuns.{held_leaves, runs_of}
use Rattle.promises.proofs.Shop.{ran, read_by, parameters, sh, new, shape_new, asked, opening_words, opening, reads_opening, shop, Begun, rep_new, v63, v62, v61, prepare_words, items, transfer, reads_prepare, list_words, plain_words, wrong, list, reads_list, refused_words, reads_refused, held_answers, plain_answers, held_answers_law}

-- word 5 of a state's words is the next id
next_word : (ws : List ℕ) (s : State) → Rep ws sh s → get_or ws 5 0 ≡ s.book.next
next_word ws s r = sym (load_root ws sh root_next_id (omega arith)) ∙ r.reps.memory.book.next

-- the last of a list of numbers
only : (n k : ℕ) → pick (eqb n k) true false ≡ true → n ≡ k
only n k e = go (eqb n k) refl e
  where
    go : (b : Bool) → eqb n k ≡ b → pick b true false ≡ true → n ≡ k
    go true q p = eqb-true n k q
    go false q p = clash p refl

-- ---- demand 1

-- a result that is none of 0, 18 and 19 is 20
four_results : (ws l os : List ℕ) (x : Called) → Meets ws l os x → (x.result ≡ 0 → ⊥) → (x.result ≡ 18 → ⊥) → (x.result ≡ 19 → ⊥) → x.result ≡ 20
four_results ws l os x m a b c =
    let r : member x.result (0 ∷ 18 ∷ 19 ∷ 20 ∷ []) ≡ true = (demand_1 ws l os x m).result in
    only x.result 20 (rw (ne_eqb x.result 0 a, ne_eqb x.result 18 b, ne_eqb x.result 19 c) at r)

-- a call that gives another result than 0
unchanged : (ws l os : List ℕ) (x : Called) → Meets ws l os x → (n : ℕ) → x.result ≡ suc n → (x.result ≡ suc n) × (x.state ≡ ws) × (x.answers ≡ os)
unchanged ws l os x m n e = let k = (demand_1 ws l os x m).kept (λ z. omega (arith, e, z)) in (e, k.0, k.1)

-- no words at all: 18, and nothing changes
no_state : (l os : List ℕ) (x : Called) → Meets [] l os x → (x.result ≡ 18) × (x.state ≡ []) × (x.answers ≡ os)
no_state l os x m = unchanged [] l os x m 17 ((demand_1 [] l os x m).misuse.1 (λ k u r. omega (arith, r.reps.shaped.room)))

-- whatever state and request: a number from 0 to 18, or 21
one_number : (ws l os : List ℕ) (x : Called) → Meets ws l os x → (k : Shape) (s : State) → Rep ws k s → (r : Request) → read_list l ≡ some (r ∷ []) → 72 ≤ length os
    → ((not (ltb 18 (get_or (take 72 x.answers) 0 0)) || eqb (get_or (take 72 x.answers) 0 0) 21) ≡ true) × ((get_or (take 72 x.answers) 0 0 ≡ 0 → ⊥) → drop 1 (take 72 x.answers) ≡ replicate 71 0)
one_number ws l os x m k s i r e h = let y = ((demand_1 ws l os x m).refused k s i (r ∷ []) e (omega arith)).2 in (y.number, y.zeros)

-- the shop's new words
module _ (memory : List ℕ) (room : 2023 ≤ length memory) (made : ℕ) (ws : List ℕ) (c : Creates memory parameters made ws) (os : List ℕ) (x : Called) where
  rep : Rep ws sh new
  rep = rep_new memory room made ws c

  -- a record that ends after its map
  cut_off : Meets ws (11 ∷ []) os x → (x.result ≡ 19) × (x.state ≡ ws) × (x.answers ≡ os)
  unfolding read_by
  cut_off m = unchanged ws (11 ∷ []) os x m 18 (((demand_1 ws (11 ∷ []) os x m).malformed sh new rep).1 refl)

  -- seven requests and 503 words
  too_few : Meets ws opening_words os x → length os ≡ 503 → (x.result ≡ 20) × (x.state ≡ ws) × (x.answers ≡ os)
  too_few m h = unchanged ws opening_words os x m 19 (((demand_1 ws opening_words os x m).short sh new rep).1 (opening, reads_opening, omega arith))

  -- and 504: not 20 for it, nor 19, nor 18
  enough : Meets ws opening_words os x → length os ≡ 504 → (x.result ≡ 18 → ⊥) × (x.result ≡ 19 → ⊥) × (x.result ≡ 20 → ⊥)
  enough m h =
      let d = demand_1 ws opening_words os x m in
      (λ e. d.misuse.0 e sh new rep, λ e. none_not (read_list opening_words) opening ((d.malformed sh new rep).0 e) reads_opening, λ e. not_fewer ((d.short sh new rep).0 e))
    where
      none_not : (y : Option (List Request)) (rs : List Request) → y ≡ none → y ≡ some rs → ⊥
      none_not y rs p q = let z : ◌≡◌ {A = ℕ} 0 1 = cc in omega arith

      not_fewer : (rs : List Request) × (read_list opening_words ≡ some rs) × (length os < answer_words * length rs) → ⊥
      not_fewer (rs, p, q) = let e : opening ≡ rs = read_once (read_list opening_words) opening rs reads_opening p in omega (arith, ap (λ (l : List Request). length l) e)

  -- two refusals, 17 and 2: of the state's words only the next id's has changed, from 1 to 2
  two_refusals : Meets ws refused_words os x → 144 ≤ length os → (get_or x.answers 0 0 ≡ 17) × (get_or x.answers 72 0 ≡ 2) × (x.state ≡ id_spent ws) × (get_or x.state 5 0 ≡ 2)
  unfolding ran
  two_refusals m h = go ((demand_1 ws refused_words os x m).refused sh new rep (reserve 0 0 ∷ wrong ∷ []) reads_refused (omega arith))
    where
      given : x.answers ≡ all_words (run till new (reserve 0 0 ∷ wrong ∷ [])).1 ++ drop 144 os
      given = (demand_2 ws refused_words os x m sh new rep (reserve 0 0 ∷ wrong ∷ []) reads_refused (omega arith)).answers

      first : get_or (take 72 x.answers) 0 0 ≡ 17
      first = ap (λ (l : List ℕ). get_or (take 72 l) 0 0) given

      second : get_or (take 72 (drop 72 x.answers)) 0 0 ≡ 2
      second = ap (λ (l : List ℕ). get_or (take 72 (drop 72 l)) 0 0) given

      go : Each sh ws new (reserve 0 0 ∷ wrong ∷ []) x.answers x.state
          → (get_or x.answers 0 0 ≡ 17) × (get_or x.answers 72 0 ≡ 2) × (x.state ≡ id_spent ws) × (get_or x.state 5 0 ≡ 2)
      go (us, i, k, (vs, j, l, e)) =
          let same : us ≡ ws = k.kept (λ z. omega (arith, first, z)) (ap (λ (n : ℕ). spends (reserve 0 0) n) first) in
          let spent : vs ≡ id_spent us = l.spent (ap (λ (n : ℕ). spends wrong n) second) in (
            ap (λ (l : List ℕ). get_or l 0 0) given,
            ap (λ (l : List ℕ). get_or l 72 0) given,
            e ∙ spent ∙ ap id_spent same,
            ap (λ (l : List ℕ). get_or l 5 0) e ∙ next_word vs (run till new (reserve 0 0 ∷ wrong ∷ [])).0 j,
          )

  -- ---- demand 2

  -- the opening's seven answers and the words behind them, the next id, and the words past the state's end
  opened_shop : Meets ws opening_words os x → 504 ≤ length os
      → (x.result ≡ 0)
      × (take 504 x.answers ≡ padded 72 (0 ∷ 1 ∷ []) ++ (padded 72 (0 ∷ 2 ∷ []) ++ (padded 72 (0 ∷ 3 ∷ 2 ∷ v63 ∷ v62 ∷ []) ++ (padded 72 [] ++ (padded 72 (0 ∷ 4 ∷ []) ++ (padded 72 (0 ∷ 5 ∷ 1 ∷ v61 ∷ []) ++ padded 72 []))))))
      × (drop 504 x.answers ≡ drop 504 os) × (get_or x.state 5 0 ≡ 6) × (drop 2023 x.state ≡ drop 2023 ws)
  unfolding ran
  opened_shop m h =
      let d = demand_2 ws opening_words os x m sh new rep opening reads_opening (omega arith) in
      (d.result, ap (take 504) d.answers ∙ same_list_equal _ _ refl, ap (drop 504) d.answers, next_word x.state shop d.state, d.beyond)

  -- two cuts of the opening into calls
  two_cuts : (cs ds : List Call) → Calls ws cs → Calls ws ds → list_of cs ≡ opening_words → list_of ds ≡ opening_words → (answers_of cs ≡ answers_of ds) × (get_or (left ws cs) 5 0 ≡ get_or (left ws ds) 5 0)
  two_cuts cs ds k l e q =
      let d = demand_2_cut sh ws ws new cs ds rep rep k l (e ∙ sym q) in
      (d.answers, next_word (left ws cs) d.end d.first ∙ sym (next_word (left ws ds) d.end d.second))

-- creation: next id 1, and a word past the state's end stays
new_shop : (memory : List ℕ) → 2023 ≤ length memory → (r : ℕ) (us : List ℕ) → Creates memory parameters r us → (r ≡ 0) × (get_or us 5 0 ≡ 1) × (get_or us 2023 0 ≡ get_or memory 2023 0) × (r ≡ 18 → ⊥)
unfolding ran
new_shop memory room r us c =
    let d = demand_2_creation memory parameters r us c (asked memory room) in
    (d.result, next_word us new (rep_new memory room r us c), d.beyond 2023 (rw shape_new (omega arith)), λ e. (demand_1_creation memory parameters r us c).refused.0 e (asked memory room))

-- no table: 18, and no word changes; and no other number but 0
no_table : (memory : List ℕ) (r : ℕ) (us : List ℕ) → Creates memory (0 ∷ []) r us → (r ≡ 18) × (us ≡ memory)
unfolding permitted parameters_of tables_in max_tables
no_table memory r us c =
    let d = demand_1_creation memory (0 ∷ []) r us c in
    let e : r ≡ 18 = d.refused.1 (λ a. clash a.within refl) in
    (e, d.kept (λ z. omega (arith, e, z)))

two_results : (memory ps : List ℕ) (r : ℕ) (us : List ℕ) → Creates memory ps r us → (r ≡ 0 → ⊥) → r ≡ 18
two_results memory ps r us c a =
    let q : member r (0 ∷ 18 ∷ []) ≡ true = (demand_1_creation memory ps r us c).result in
    only r 18 (rw (ne_eqb r 0 a) at q)

-- ---- demand 3

-- two shops begun, in other memories and by other cuts; H moves two handles out, runs the list and ends the transfer, P runs the list, in calls cut anywhere
module _ (ws us : List ℕ) (wb : Begun ws) (ub : Begun us) (hs ps : List Call) (kh : Calls ws hs) (kp : Calls us ps) where
  -- what run H leaves, by the steps
  module _ (e : Ending) (r : Request) (er : read_list (end_h e 6) ≡ some (r ∷ [])) (lh : list_of hs ≡ prepare_words ++ (list_words ++ end_h e 6)) (lp : list_of ps ≡ plain_words ++ end_p e 0 (v61 ∷ v63 ∷ [])) where
    left_by : Together ws sh shop hs (transfer ∷ list ++ (r ∷ []))
    left_by = held_leaves ws wb hs kh list_words list reads_list e r er lh

    given : take 504 (answers_of hs) ≡ padded 72 (0 ∷ 6 ∷ []) ++ held_answers
    given = (list_then till shop (transfer ∷ list) (r ∷ []) (answers_of hs) left_by.answers).0 ∙ held_answers_law

    runs : TwoRuns
    unfolding ran
    runs = runs_of ws us wb ub hs ps kh kp list_words list reads_list e r er lh lp refl refl

    same : Same runs
    same = demand_3 runs

    -- every call passes and the end is accepted; P's answers have the ids 6, 7 and 9, where H's have 7, 8 and 10
    answers_agree : Passed hs × Passed ps × (drop 504 (answers_of hs) ≡ padded 72 []) × (take 432 (drop 72 (answers_of hs)) ≡ held_answers) × (take 432 (answers_of ps) ≡ plain_answers)
    unfolding runs runs_of lowered words_of used_words
    answers_agree =
        let list_H : take 432 (drop 72 (answers_of hs)) ≡ held_answers = take_drop_swap 72 432 (answers_of hs) ∙ ap (drop 72) given in
        (same.passed.0, same.passed.1, same.ended, list_H, same.answers ∙ ap (lower_answers 6 list) list_H)
      where
        take_drop_swap : (n m : ℕ) (l : List ℕ) → take m (drop n l) ≡ drop n (take (n + m) l)
        take_drop_swap zero m l = ap (λ (k : ℕ). take k l) (sym (zero-add m))
        take_drop_swap (suc n) m [] = take-nil m ∙ ap (drop (suc n)) (sym (take-nil (suc n + m)))
        take_drop_swap (suc n) m (y ∷ l) = take_drop_swap n m l ∙ ap (λ (k : ℕ). drop (suc n) (take k (y ∷ l))) (sym (suc-add n m))

    -- the state that H's words represent is the steps'
    same_state : same.state_h ≡ (run till shop (transfer ∷ list ++ (r ∷ []))).0
    unfolding runs runs_of
    same_state = (rep_unique (left ws hs) sh sh same.state_h (run till shop (transfer ∷ list ++ (r ∷ []))).0 same.held left_by.state).1

  -- rolled back: the next id is 11 in H and 10 in P, and slot 62 of table 1 is reserved by 10 in H and by 9 in P
  roll_back : list_of hs ≡ prepare_words ++ (list_words ++ rollback_words 6) → list_of ps ≡ plain_words ++ []
      → (get_or (left ws hs) 5 0 ≡ 11) × (get_or (left us ps) 5 0 ≡ 10) × (slot_in (load (left ws hs) sh) 1 62 ≡ reserved 1 10) × (slot_in (load (left us ps) sh) 1 62 ≡ reserved 1 9)
  unfolding runs runs_of ran
  roll_back lh lp =
      let d : Same (runs rolled_back (rollback 6) (reads_rollback 6) lh lp) = same rolled_back (rollback 6) (reads_rollback 6) lh lp in
      let s : State = (run till shop (transfer ∷ list ++ (rollback 6 ∷ []))).0 in
      let e : d.state_h ≡ s = same_state rolled_back (rollback 6) (reads_rollback 6) lh lp in
      let h : Rep (left ws hs) sh s = subst (Rep (left ws hs) sh) e d.held in
      let p : Rep (left us ps) sh (lower_state 6 s) = subst (Rep (left us ps) sh) (d.whole refl ∙ ap (lower_state 6) e) d.plain in
      (next_word (left ws hs) s h, next_word (left us ps) (lower_state 6 s) p, (h.reps.memory.tables 1 (omega arith)).slots 62, (p.reps.memory.tables 1 (omega arith)).slots 62)

  -- committed, and closed in P: both closings are accepted; table 0's free order begins with slot 63 in both, the last one closed; slot 62 of table 1 is reserved by 10 in H
  -- and by 9 in P; the next id is 11 in H and 10 in P
  commit_and_close : list_of hs ≡ prepare_words ++ (list_words ++ commit_words 6) → list_of ps ≡ plain_words ++ closing_words 0 (v61 ∷ v63 ∷ [])
      → (get_or (drop 432 (answers_of ps)) 0 18 ≡ 0) × (get_or (drop 432 (answers_of ps)) 72 18 ≡ 0)
      × (load (left ws hs) sh (head 0 head_first_free) ≡ 64) × (load (left us ps) sh (head 0 head_first_free) ≡ 64)
      × (slot_in (load (left ws hs) sh) 1 62 ≡ reserved 1 10) × (slot_in (load (left us ps) sh) 1 62 ≡ reserved 1 9)
      × (get_or (left ws hs) 5 0 ≡ 11) × (get_or (left us ps) 5 0 ≡ 10)
  unfolding runs runs_of ran
  commit_and_close lh lp =
      let d : Same (runs committed (commit 6) (reads_commit 6) lh lp) = same committed (commit 6) (reads_commit 6) lh lp in
      let s : State = (run till shop (transfer ∷ list ++ (commit 6 ∷ []))).0 in
      let e : d.state_h ≡ s = same_state committed (commit 6) (reads_commit 6) lh lp in
      let h = (subst (Rep (left ws hs) sh) e d.held).reps.memory in
      let p = d.plain.reps.memory in
      let t : (c : ℕ) → c < 2 → TableIs (load (left us ps) sh) c (lower_table 6 (s.tables c)) =
      λ c lt. subst (TableIs (load (left us ps) sh) c) (d.tables c ∙ ap (λ (x : State). lower_table 6 (x.tables c)) e) (p.tables c (omega (arith, p.table_count))) in (
        d.closed refl 0 (omega arith),
        d.closed refl 1 (omega arith),
        (h.tables 0 (omega arith)).free.0,
        (t 0 (omega arith)).free.0,
        (h.tables 1 (omega arith)).slots 62,
        (t 1 (omega arith)).slots 62,
        next_word (left ws hs) s (subst (Rep (left ws hs) sh) e d.held),
        next_word (left us ps) d.state_p d.plain ∙ d.next ∙ ap (λ (x : State). lowered 6 x.book.next) e,
      )

-- ---- that there are such calls

abbrev sent : List ℕ → List ℕ → Called → Call
sent l os x = record { list = l; lent = os; gave = x }

-- calls are no more than the contract of each, a list that reads and words enough for its answers
a_call : (ws l os : List ℕ) (x : Called) (rs : List Request) (cs : List Call) → Meets ws l os x → read_list l ≡ some rs → answer_words * length rs ≤ length os → Calls x.state cs → Calls ws (sent l os x ∷ cs)
a_call ws l os x rs cs m e h more = (m, record { reads = rw e refl; enough = rw e h }, more)

-- a call that is refused whole (18, 19 or 20) may stand anywhere between: what follows it are calls on the words before it, and leaves what they leave
left_out : (ws l os : List ℕ) (x : Called) (cs : List Call) → Meets ws l os x → (x.result ≡ 0 → ⊥) → Calls x.state cs → Calls ws cs × (left x.state cs ≡ left ws cs)
left_out ws l os x cs m n k = let e : x.state ≡ ws = ((demand_1 ws l os x m).kept n).0 in (subst (λ (v : List ℕ). Calls v cs) e k, ap (λ (v : List ℕ). left v cs) e)

-- one `sh` serves both runs: words that represent equal states have one shape
one_shape : (ws us : List ℕ) (k j : Shape) (s u : State) → Rep ws k s → Rep us j u → Equal s u → k ≡ j
one_shape ws us k j s u r q e = shape_unique k (load ws k) s r.reps.memory ∙ ap shape_for e ∙ sym (shape_unique j (load us j) u q.reps.memory)

-- a shop is begun by creation and one call
begins : (memory : List ℕ) → 2023 ≤ length memory → (r : ℕ) (ws : List ℕ) → Creates memory parameters r ws → (os : List ℕ) (x : Called) → Meets ws opening_words os x → 504 ≤ length os → Begun x.state
begins memory room r ws c os x m h = record {
  memory = memory;
  room = room;
  result = r;
  start = ws;
  creates = c;
  calls = sent opening_words os x ∷ [];
  chain = a_call ws opening_words os x opening [] m reads_opening (omega arith) tt;
  whole = refl;
  is = refl;
}

-- the opening in one call, and in two of four and three requests
abbrev first_four : List ℕ
first_four = take 24 opening_words

abbrev last_three : List ℕ
last_three = drop 24 opening_words

reads_cut : (read_list first_four ≡ some (take 4 opening)) × (read_list last_three ≡ some (drop 4 opening))
unfolding read_by
reads_cut = (refl, refl)

one_or_two : (memory : List ℕ) → 2023 ≤ length memory → (r : ℕ) (ws : List ℕ) → Creates memory parameters r ws → (os : List ℕ) → length os ≡ 504
    → (x y q : Called) → Meets ws opening_words os x → Meets ws first_four os y → Meets y.state last_three os q
    → (answers_of (sent opening_words os x ∷ []) ≡ answers_of (sent first_four os y ∷ sent last_three os q ∷ [])) × (get_or x.state 5 0 ≡ get_or q.state 5 0)
one_or_two memory room r ws c os l x y q m n k = two_cuts memory room r ws c os x (sent opening_words os x ∷ []) (sent first_four os y ∷ sent last_three os q ∷ [])
    (a_call ws opening_words os x opening [] m reads_opening (omega (arith, l)) tt)
    (a_call ws first_four os y (take 4 opening) (sent last_three os q ∷ []) n reads_cut.0 (omega (arith, l)) (a_call y.state last_three os q (drop 4 opening) [] k reads_cut.1 (omega (arith, l)) tt))
    refl refl

abbrev plain : List Request
plain = reserve 1 1 ∷ duplicate 0 v62 1 ∷ publish 6 (7 ∷ []) ∷ reserve 0 0 ∷ wrong ∷ reserve 1 1 ∷ []

reads_plain : read_list plain_words ≡ some plain
unfolding read_by
reads_plain = refl

-- two shops from their creation on, by the contracts alone: a call opens each, run H is three calls, run P is one. The next id is 11 in H and 10 in P
six_calls : (mh mp : List ℕ) → 2023 ≤ length mh → 2023 ≤ length mp → (rh rp : ℕ) (wh wp : List ℕ) → Creates mh parameters rh wh → Creates mp parameters rp wp
    → (os : List ℕ) → length os ≡ 504 → (xh xp x y z q : Called) → Meets wh opening_words os xh → Meets wp opening_words os xp
    → Meets xh.state prepare_words os x → Meets x.state list_words os y → Meets y.state (rollback_words 6) os z → Meets xp.state plain_words os q
    → (get_or z.state 5 0 ≡ 11) × (get_or q.state 5 0 ≡ 10)
six_calls mh mp roomh roomp rh rp wh wp ch cp os l xh xp x y z q oh op m1 m2 m3 n =
    let last : List Call = sent (rollback_words 6) os z ∷ [] in
    let hs : List Call = sent prepare_words os x ∷ sent list_words os y ∷ last in
    let kh : Calls xh.state hs = a_call xh.state prepare_words os x (transfer ∷ []) (sent list_words os y ∷ last) m1 reads_prepare (omega (arith, l))
    (a_call x.state list_words os y list last m2 reads_list (omega (arith, l)) (a_call y.state (rollback_words 6) os z (rollback 6 ∷ []) [] m3 (reads_rollback 6) (omega (arith, l)) tt)) in
    let kp : Calls xp.state (sent plain_words os q ∷ []) = a_call xp.state plain_words os q plain [] n reads_plain (omega (arith, l)) tt in
    let d = roll_back xh.state xp.state (begins mh roomh rh wh ch os xh oh (omega (arith, l))) (begins mp roomp rp wp cp os xp op (omega (arith, l))) hs (sent plain_words os q ∷ []) kh kp refl refl in
    (d.0, d.1)

-- ---- the two sentences of document 01

-- of every field but the slots: the table is the one before with other slots
but_slots : (t u : Table) → SameOrders t u → u ≡ with_slots t u.slots
but_slots t u p = λ i. record {
  limit = p.limit i;
  mask = p.mask i;
  life = p.life i;
  epoch = p.epoch i;
  size = p.size i;
  pages = p.pages i;
  slots = u.slots;
  free = p.free i;
  empty = p.empty i;
  detached = p.detached i;
}

-- the shop's transfer, and a consumption of the handle in slot 62
module _ (w : WellFormed till shop) where
  abbrev after : Request → State
  after r = (step till shop r).0

  abbrev eats : Request
  eats = prepare_consumption 0 v62 1 4 71

  kept_orders : (c : ℕ) → ((after transfer).tables c ≡ with_slots (shop.tables c) ((after transfer).tables c).slots) × ((after eats).tables c ≡ with_slots (shop.tables c) ((after eats).tables c).slots)
  kept_orders c = (but_slots _ _ (transfer_keeps_orders till shop w 0 buffered none none items c), but_slots _ _ (consumption_keeps_orders till shop w 0 v62 1 4 71 c))

  back_orders : (c : ℕ) → let u : State = (step till (after transfer) (rollback 6)).0 in u.tables c ≡ with_slots ((after transfer).tables c) (u.tables c).slots
  back_orders c = but_slots _ _ (rollback_keeps_orders till (after transfer) (kept till till_sane shop w transfer) 6 c)

  abbrev ByClosing : (values : List ℕ) → State → State → Type 0
  ByClosing vs s u = (every accepted (run till s (map (close 0) vs)).1 ≡ true) × ((c : ℕ) → (run till s (map (close 0) vs)).0.tables c ≡ u.tables c)

  opens : ((step till shop transfer).1 ≡ opened 6) × ((step till shop eats).1 ≡ opened 6)
  unfolding ran
  opens = (refl, refl)

  committed_orders : ByClosing (v61 ∷ v63 ∷ []) shop (step till (after transfer) (commit 6)).0 × ByClosing (v62 ∷ []) shop (step till (after eats) (commit 6)).0
  committed_orders =
      let x = transfer_is_closing till shop w 0 buffered none none items 6 opens.0 in
      let y = consumption_is_closing till shop w 0 v62 1 4 71 6 opens.1 in
      ((x.closings, x.tables), (y.closings, y.tables))

-- a batch of 64 may need two new pages and never three
two_pages : (lacking till ≡ 1) × NewPages till 2 × (NewPages till 1 → ⊥)
two_pages = let p = pages_of_64 till refl in (p.short, p.enough, λ h. omega (arith, p.least 1 h))
