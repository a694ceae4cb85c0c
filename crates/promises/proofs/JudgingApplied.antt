-- That the promises on judging say something: put to use on the shop, every field of them, and over its words. Assumes nothing.
use Rattle.std.specs.Prelude.{◌≡◌, true, false, ℕ, ◌≤◌, ◌<◌, length, drop}
use Rattle.std.proofs.Math.Path.{refl, ap}
use Rattle.std.proofs.Common.{sym, ◌∙◌, arith}
use mathlib.Core.List.{List, [], ◌∷◌, ◌++◌}
use Rattle.std.proofs.Math.Option.{none, some}
use Rattle.std.proofs.Math.ListN.{get_or, take}
use Rattle.model.specs.Base.{every}
use Rattle.model.specs.State.{till}
use Rattle.model.specs.Request.{Route.buffered, Operation.as_copy, Item, Fault, Request, Request.reserve, Request.prepare_transfer, Request.judge_transfer, Answer.refused, Answer.judged}
use Rattle.model.specs.Transfer.{transfer_fault}
use Rattle.model.specs.Step.{step, run}
use Rattle.model.specs.Words.{read_list, padded, all_words}
use Rattle.model.proofs.Tests.{clash, and_left, and_right, same_list_equal}
use Rattle.noninterference.specs.Runs.{accepted, lowered}
use Rattle.contract.specs.Meets.{Called, Meets}
use Rattle.promises.specs.Lower.{Ending, end_h, end_p, lower_answers}
use Rattle.promises.specs.Terms.{Call, Calls, list_of, answers_of}
use Rattle.promises.proofs.Held.{held_words}
use Rattle.promises.specs.Demand3.{TwoRuns}
use Rattle.promises.proofs.Demand3.{demand_3}
use Rattle.promises.specs.Judging.{Placed, all_checks, passes, FirstOf, Judges}
use Rattle.promises.proofs.Judging.{judging, judging_call}
use Rattle.promises.proofs.ShopRuns.{held_leaves, runs_of}
use Rattle.promises.proofs.Shop.{ran, read_by, sh, shop, Begun, rep_shop, v63, v62, v61, prepare_words, item, items, transfer}

-- ---- of any list of checks: what stops it is one fault alone

first_one : (bs cs : List Placed) (b c : Placed) (ds es : List Placed) → bs ++ (b ∷ ds) ≡ cs ++ (c ∷ es) → every passes bs ≡ true → passes b ≡ false → every passes cs ≡ true → passes c ≡ false → b ≡ c
first_one [] [] b c ds es e p q r s = cc
first_one [] (x ∷ cs) b c ds es e p q r s = let z : b ≡ x = cc in clash (rw z (and_left (passes x) (every passes cs) r)) q
first_one (x ∷ bs) [] b c ds es e p q r s = let z : x ≡ c = cc in clash (rw (← z) (and_left (passes x) (every passes bs) p)) s
first_one (x ∷ bs) (y ∷ cs) b c ds es e p q r s =
    let z : bs ++ (b ∷ ds) ≡ cs ++ (c ∷ es) = cc in
    first_one bs cs b c ds es z (and_right (passes x) (every passes bs) p) q (and_right (passes y) (every passes cs) r) s

one_fault : (cs : List Placed) (f g : Fault) → FirstOf cs f → FirstOf cs g → (f.number ≡ g.number) × (f.position ≡ g.position) × (f.place ≡ g.place)
one_fault cs f g p q =
    let e : p.one ≡ q.one = first_one p.before q.before p.one q.one p.behind q.behind (sym p.whole ∙ q.whole) p.pass p.fails q.pass q.fails in (
      p.number ∙ ap (λ (x : Placed). x.check.number) e ∙ sym q.number,
      p.position ∙ ap (λ (x : Placed). x.position) e ∙ sym q.position,
      p.place ∙ ap (λ (x : Placed). x.check.place) e ∙ sym q.place,
    )

-- ---- the shop: three handles of rights 15. A batch in which the last item asks for more than is offered; the same with one right fewer; and of a table that is not there

abbrev copied : ℕ → ℕ → Item
copied v r = record { operation = as_copy; value = v; rights = r; offered_rights = none; offered_kind = none; expected_kind = none }

abbrev batch : ℕ → List Item
batch r = item v63 3 ∷ copied v62 1 ∷ item v61 r ∷ []

abbrev fault : Fault
fault = record { number = 5; position = 2; place = 11 }

abbrev asks : (table rights : ℕ) → Judges till shop table buffered none none (batch rights)
asks b r = judging till shop b buffered none none (batch r)

tables_shop : shop.table_count ≡ 2
unfolding ran
tables_shop = refl

judged_shop : (step till shop (judge_transfer 0 buffered none none (batch 31))).1 ≡ judged (some fault)
unfolding ran
judged_shop = refl

passed_shop : (step till shop (judge_transfer 0 buffered none none (batch 7))).1 ≡ judged none
unfolding ran
passed_shop = refl

-- it stops preparation, with that number; every check before it passes, and it is the only such fault; it is the last of the three items; nothing changes, and it is told again
refused_shop : (step till shop (prepare_transfer 0 buffered none none (batch 31))).1 ≡ refused 5
refused_shop = (asks 0 31).refused_as fault judged_shop

only_shop : (f : Fault) → FirstOf (all_checks shop (shop.tables 0) buffered none none (batch 31)) f → (f.number ≡ 5) × (f.position ≡ 2) × (f.place ≡ 11)
only_shop f p = one_fault (all_checks shop (shop.tables 0) buffered none none (batch 31)) f fault p ((asks 0 31).stops_at fault judged_shop)

ranges_shop : (1 ≤ 5) × (5 ≤ 17) × (1 ≤ 11) × (11 ≤ 17) × (2 < 3)
ranges_shop = let r = (asks 0 31).ranges fault judged_shop in (r.0, r.1, r.2, r.3, r.5 (omega arith))

-- where no item is at fault, the position is 64
empty_shop : (f : Fault) → (step till shop (judge_transfer 0 buffered none none [])).1 ≡ judged (some f) → f.place ≤ 5 → f.position ≡ 64
empty_shop f e = ((judging till shop 0 buffered none none []).ranges f e).4

same_shop : ((step till shop (judge_transfer 0 buffered none none (batch 31))).0 ≡ shop)
    × ((run till shop (judge_transfer 0 buffered none none (batch 31) ∷ judge_transfer 0 buffered none none (batch 31) ∷ [])).1 ≡ judged (some fault) ∷ judged (some fault) ∷ [])
same_shop = ((asks 0 31).changes_nothing, (asks 0 31).twice ∙ rw judged_shop)

-- with a right fewer it "would be accepted", and is; and the other way round. Every check passes
accepted_shop : accepted (step till shop (prepare_transfer 0 buffered none none (batch 7))).1 ≡ true
accepted_shop = (asks 0 7).accepted_as.0 passed_shop

judged_accepted : (step till shop (judge_transfer 0 buffered none none (batch 7))).1 ≡ judged none
unfolding ran
judged_accepted = (asks 0 7).accepted_as.1 refl

all_shop : every passes (all_checks shop (shop.tables 0) buffered none none (batch 7)) ≡ true
all_shop = (asks 0 7).all_pass passed_shop

-- of a table that is not there both are refused with 18, and of one that is there neither
gone_shop : ((step till shop (judge_transfer 2 buffered none none (batch 7))).1 ≡ refused 18) × ((step till shop (prepare_transfer 2 buffered none none (batch 7))).1 ≡ refused 18)
gone_shop = let e = (asks 2 7).misuse.0 (omega (arith, tables_shop)) in (e, (asks 2 7).misuse_of_both.0 e)

there_shop : (step till shop (prepare_transfer 0 buffered none none (batch 31))).1 ≡ refused 18 → ⊥
there_shop e = let l : shop.table_count ≤ 0 = (asks 0 31).misuse.1 ((asks 0 31).misuse_of_both.1 e) in omega (arith, tables_shop)

told_shop : (step till shop (judge_transfer 0 buffered none none (batch 31))).1 ≡ judged (transfer_fault shop (shop.tables 0) buffered none none (batch 31))
told_shop = (asks 0 31).told (omega (arith, tables_shop))

-- ---- over words: two calls, each a judging, on the words that the shop's opening has left

abbrev judge_words : ℕ → List ℕ
judge_words r = 4107 ∷ 28 ∷ 0 ∷ 3 ∷ 0 ∷ 49 ∷ 0 ∷ v63 ∷ 3 ∷ 49 ∷ 1 ∷ v62 ∷ 1 ∷ 49 ∷ 0 ∷ v61 ∷ r ∷ []

reads_31 : read_list (judge_words 31) ≡ some (judge_transfer 0 buffered none none (batch 31) ∷ [])
unfolding read_by
reads_31 = refl

reads_7 : read_list (judge_words 7) ≡ some (judge_transfer 0 buffered none none (batch 7) ∷ [])
unfolding read_by
reads_7 = refl

fault_31 : transfer_fault shop (shop.tables 0) buffered none none (batch 31) ≡ some fault
unfolding ran
fault_31 = refl

fault_7 : transfer_fault shop (shop.tables 0) buffered none none (batch 7) ≡ none
unfolding ran
fault_7 = refl

-- the first says 5, the item 2 and the place 11, the second that it would be accepted; no word of the state is other than before
two_calls : (ws : List ℕ) → Begun ws → (os ps : List ℕ) → length os ≡ 72 → length ps ≡ 72 → (x y : Called) → Meets ws (judge_words 31) os x → Meets x.state (judge_words 7) ps y
    → (x.result ≡ 0) × (take 72 x.answers ≡ padded 72 (0 ∷ 5 ∷ 2 ∷ 11 ∷ [])) × (take 72 y.answers ≡ padded 72 []) × (y.state ≡ ws)
two_calls ws b os ps lo lp x y m n =
    let d = judging_call ws (judge_words 31) os x m sh shop (rep_shop ws b) 0 buffered none none (batch 31) reads_31 (omega (arith, lo)) (omega (arith, tables_shop)) in
    let n' : Meets ws (judge_words 7) ps y = rw d.state at n in
    let e = judging_call ws (judge_words 7) ps y n' sh shop (rep_shop ws b) 0 buffered none none (batch 7) reads_7 (omega (arith, lp)) (omega (arith, tables_shop)) in (
      d.result,
      ap (take 72) (rw fault_31 at d.answer),
      ap (take 72) (rw fault_7 at e.answer),
      e.state,
    )

-- ---- the two runs: the list judges a copy of the handle that is not moved, and one that asks too much, and reserves between

abbrev run_words : List ℕ
run_words =
    4107 ∷ 28 ∷ 0 ∷ 1 ∷ 0 ∷ 49 ∷ 1 ∷ v62 ∷ 1
    ∷ 11 ∷ 5 ∷ 1 ∷ 1
    ∷ 4107 ∷ 28 ∷ 0 ∷ 1 ∷ 0 ∷ 49 ∷ 0 ∷ v62 ∷ 16
    ∷ []

abbrev run_list : List Request
run_list = judge_transfer 0 buffered none none (copied v62 1 ∷ []) ∷ reserve 1 1 ∷ judge_transfer 0 buffered none none (item v62 16 ∷ []) ∷ []

reads_run : read_list run_words ≡ some run_list
unfolding read_by
reads_run = refl

-- the answers of the run whose reservation has the id i
abbrev run_answers : ℕ → List ℕ
run_answers i = padded 72 [] ++ (padded 72 (0 ∷ i ∷ 1 ∷ 0x4800000001000045 ∷ []) ++ padded 72 (0 ∷ 5 ∷ 0 ∷ 11 ∷ []))

held_run : all_words (run till (step till shop transfer).0 run_list).1 ≡ run_answers 7
unfolding ran
held_run = same_list_equal (all_words (run till (step till shop transfer).0 run_list).1) (run_answers 7) refl

module _ (ws us : List ℕ) (wb : Begun ws) (ub : Begun us) (hs ps : List Call) (kh : Calls ws hs) (kp : Calls us ps) (e : Ending) (r : Request) (er : read_list (end_h e 6) ≡ some (r ∷ []))
    (lh : list_of hs ≡ prepare_words ++ (run_words ++ end_h e 6)) (lp : list_of ps ≡ run_words ++ end_p e 0 (v61 ∷ v63 ∷ [])) where
  runs : TwoRuns
  unfolding ran
  runs = runs_of ws us wb ub hs ps kh kp run_words run_list reads_run e r er lh lp refl refl

  -- whichever way it ends, both runs judge alike, in all 72 words
  both_judge : (take 216 (drop 72 (answers_of hs)) ≡ run_answers 7) × (take 216 (answers_of ps) ≡ run_answers 6)
  unfolding runs runs_of lowered
  both_judge =
      let h = held_leaves ws wb hs kh run_words run_list reads_run e r er lh in
      let list_H : take 216 (drop 72 (answers_of hs)) ≡ run_answers 7 = (held_words shop 0 buffered none none items run_list r (answers_of hs) 6 h.answers
      (ap (λ (l : List ℕ). get_or l 0 0) h.answers) (ap (λ (l : List ℕ). get_or l 1 0) h.answers)).list ∙ held_run in
      (list_H, (demand_3 runs).answers ∙ ap (lower_answers 6 run_list) list_H)
