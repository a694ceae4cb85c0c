-- That the promises on plans say something: each is put to use on the shop, and on its words. Assumes nothing.
use Rattle.std.specs.Prelude.{◌≡◌, true, false, ℕ, length, take, drop}
use Rattle.std.proofs.Math.Path.{refl}
use Rattle.std.proofs.Common.{sym, ap, ◌∙◌, arith}
use mathlib.Core.List.{List, [], ◌∷◌, ◌++◌}
use Rattle.std.proofs.Math.Option.{some}
use Rattle.model.specs.State.{till, Slot.reserved, Table, Body.plan, StorageSnapshot, State, is_active, last_id}
use Rattle.model.specs.Storage.{is_stale}
use Rattle.model.specs.Request.{Request, Request.reserve, Request.make_plan, Request.use_plan, Request.drop_plan, Request.rollback, Request.commit, Answer.refused, Answer.done, Answer.batch}
use Rattle.model.specs.Book.{find}
use Rattle.model.specs.Step.{step, run}
use Rattle.model.specs.WellFormed.{WellFormed}
use Rattle.model.specs.Words.{read_list, padded, all_words}
use Rattle.model.proofs.Tests.{same_list_equal}
use Rattle.representation.specs.Unique.{rep_unique}
use Rattle.invariant.proofs.Pages.{till_sane}
use Rattle.noninterference.specs.Runs.{lowered}
use Rattle.contract.specs.Meets.{Called, Meets}
use Rattle.promises.specs.Lower.{Ending, Ending.rolled_back, Ending.committed, end_h, end_p, rollback_words, commit_words, closing_words}
use Rattle.promises.proofs.Lower.{reads_rollback, reads_commit}
use Rattle.promises.specs.Terms.{Call, Calls, left, list_of}
use Rattle.promises.proofs.Demand2.{demand_2}
use Rattle.promises.specs.Demand3.{TwoRuns, Same}
use Rattle.promises.proofs.Demand3.{demand_3}
use Rattle.promises.proofs.Plans.{plan_serves, as_reserved, drop_accepted}
use Rattle.promises.proofs.ShopRuns.{held_leaves, runs_of}
use Rattle.promises.proofs.Shop.{ran, read_by, sh, shop, Begun, rep_shop, v61, v63, prepare_words, transfer}

-- ---- on the definitions

-- a plan of three slots of table 1, under the id 6, which holds the last free frame; then goods are held for a transfer, under 7
abbrev soon : List Request
soon = make_plan 1 3 ∷ transfer ∷ []

abbrev ready : State
ready = (run till shop soon).0

abbrev kept : StorageSnapshot
kept = record { epoch = 0; free_slots = 0; pages = 0 ∷ [] }

-- the values of table 1's slots 63, 62 and 61 at generation 1
abbrev three : List ℕ
three = 0x4800000001000045 ∷ 0x480000000100003a ∷ 0x480000000100003b ∷ []

stands : (find 6 ready.book.rows ≡ some (plan 1 3 kept (1 ∷ []))) × (is_stale till (ready.tables 1) 3 kept ≡ false) × (ready.frames ≡ [])
unfolding ran
stands = (refl, refl, refl)

-- no frame is free, and no reservation of a page can be made; yet the plan gives its three slots under the id 8, and takes no free frame
serves : WellFormed till shop → (values : List ℕ) × (length values ≡ 3) × ((step till ready (use_plan 6)).1 ≡ batch 8 values) × ((step till ready (use_plan 6)).0.frames ≡ [])
unfolding ran last_id
serves w = let p = plan_serves till till_sane shop w soon 6 1 3 kept (1 ∷ []) refl refl refl in (p.values, p.many, p.done (λ e. omega arith), p.frames)

refused_now : (step till ready (reserve 1 3)).1 ≡ refused 1
unfolding ran
refused_now = refl

-- with no id left it is 12
at_the_end : (s : State) → WellFormed till s → (i b n : ℕ) (r : StorageSnapshot) (fs : List ℕ) → find i s.book.rows ≡ some (plan b n r fs)
    → is_active (s.tables b).life ≡ true → is_stale till (s.tables b) n r ≡ false → s.book.next ≡ last_id → (step till s (use_plan i)).1 ≡ refused 12
at_the_end s w i b n r fs row live fresh e = (plan_serves till till_sane s w [] i b n r fs row live fresh).last e

-- a plan of two of table 0's free slots holds no frame, so that a reservation made now is accepted: the plan gives its answer, and a table with the same slots, epoch and
-- attached pages
abbrev twice : List Request
twice = make_plan 0 2 ∷ []

abbrev two : State
two = (run till shop twice).0

abbrev kept_0 : StorageSnapshot
kept_0 = record { epoch = 1; free_slots = 61; pages = [] }

as_now : WellFormed till shop → ((step till two (use_plan 6)).1 ≡ batch 7 (0x480000000100003d ∷ 0x480000000100003c ∷ []))
    × (((step till two (use_plan 6)).0.tables 0).slots 60 ≡ reserved 1 7) × (((step till two (use_plan 6)).0.tables 0).epoch ≡ 1)
unfolding ran
as_now w =
    let p = as_reserved till till_sane shop w twice 6 0 2 kept_0 [] refl refl refl 7 (0x480000000100003d ∷ 0x480000000100003c ∷ []) refl in
    (p.0, ap (λ (t : Table). t.slots 60) (sym (p.1 0)), ap (λ (t : Table). t.epoch) (sym (p.1 0)))

drops : (step till ready (drop_plan 6)).1 ≡ done
unfolding ran
drops = drop_accepted till ready 6 1 3 kept (1 ∷ []) refl

-- ---- over words

-- one call makes the plan and uses it: 0, the id 6, three slots, one frame; then 0, the id 7 and the three values
abbrev sale_words : List ℕ
sale_words = 11 ∷ 25 ∷ 1 ∷ 3 ∷ 129 ∷ 26 ∷ 6 ∷ []

reads_sale : read_list sale_words ≡ some (make_plan 1 3 ∷ use_plan 6 ∷ [])
unfolding read_by
reads_sale = refl

abbrev sale_answers : List ℕ
sale_answers = padded 72 (0 ∷ 6 ∷ 3 ∷ 1 ∷ []) ++ padded 72 (0 ∷ 7 ∷ 3 ∷ three)

sale_answers_law : all_words (run till shop (make_plan 1 3 ∷ use_plan 6 ∷ [])).1 ≡ sale_answers
unfolding ran
sale_answers_law = same_list_equal (all_words (run till shop (make_plan 1 3 ∷ use_plan 6 ∷ [])).1) sale_answers refl

sale : (ws : List ℕ) → Begun ws → (os : List ℕ) → length os ≡ 144 → (x : Called) → Meets ws sale_words os x
    → (x.result ≡ 0) × (take 144 x.answers ≡ sale_answers)
sale ws b os l x m =
    let d = demand_2 ws sale_words os x m sh shop (rep_shop ws b) (make_plan 1 3 ∷ use_plan 6 ∷ []) reads_sale (omega (arith, l)) in
    (d.result, ap (take 144) d.answers ∙ ap (λ (l : List ℕ). take 144 (l ++ drop 144 os)) sale_answers_law)

-- the two runs: in H, plans under the ids 7 and 8, of which the first is used; in P under 6 and 7
abbrev plan_words : List ℕ
plan_words = 11 ∷ 25 ∷ 1 ∷ 1 ∷ 11 ∷ 25 ∷ 0 ∷ 1 ∷ 129 ∷ 26 ∷ 7 ∷ []

abbrev plain_plan_words : List ℕ
plain_plan_words = 11 ∷ 25 ∷ 1 ∷ 1 ∷ 11 ∷ 25 ∷ 0 ∷ 1 ∷ 129 ∷ 26 ∷ 6 ∷ []

abbrev plan_list : List Request
plan_list = make_plan 1 1 ∷ make_plan 0 1 ∷ use_plan 7 ∷ []

reads_plans : read_list plan_words ≡ some plan_list
unfolding read_by
reads_plans = refl

abbrev kept_1 : StorageSnapshot
kept_1 = record { epoch = 1; free_slots = 61; pages = [] }

-- H's states, computed
abbrev end_of : Request → State
end_of r = (run till shop (transfer ∷ plan_list ++ (r ∷ []))).0

computed : (find 8 (end_of (rollback 6)).book.rows ≡ some (plan 0 1 kept_1 [])) × (find 8 (end_of (commit 6)).book.rows ≡ some (plan 0 1 kept_1 []))
    × (is_stale till ((end_of (rollback 6)).tables 0) 1 kept_1 ≡ false) × (is_stale till ((end_of (commit 6)).tables 0) 1 kept_1 ≡ true)
unfolding ran
computed = (refl, refl, refl, refl)

module _ (ws us : List ℕ) (wb : Begun ws) (ub : Begun us) (hs ps : List Call) (kh : Calls ws hs) (kp : Calls us ps) where
  module _ (e : Ending) (r : Request) (er : read_list (end_h e 6) ≡ some (r ∷ [])) (lh : list_of hs ≡ prepare_words ++ (plan_words ++ end_h e 6))
      (lp : list_of ps ≡ plain_plan_words ++ end_p e 0 (v61 ∷ v63 ∷ [])) where
    runs : TwoRuns
    unfolding ran
    runs = runs_of ws us wb ub hs ps kh kp plan_words plan_list reads_plans e r er lh lp refl refl

    same : Same runs
    same = demand_3 runs

    -- the state that H's words represent is the steps'
    same_state : same.state_h ≡ (run till shop (transfer ∷ plan_list ++ (r ∷ []))).0
    unfolding runs runs_of
    same_state = (rep_unique (left ws hs) sh sh same.state_h (run till shop (transfer ∷ plan_list ++ (r ∷ []))).0 same.held (held_leaves ws wb hs kh plan_words plan_list reads_plans e r er lh).state).1

  -- after either end H's plan 8 stands in P under 7, as stale in P as in H
  both_stand : (e : Ending) (r : Request) (er : read_list (end_h e 6) ≡ some (r ∷ [])) (lh : list_of hs ≡ prepare_words ++ (plan_words ++ end_h e 6))
      (lp : list_of ps ≡ plain_plan_words ++ end_p e 0 (v61 ∷ v63 ∷ []))
      → find 8 (run till shop (transfer ∷ plan_list ++ (r ∷ []))).0.book.rows ≡ some (plan 0 1 kept_1 [])
      → let d = same e r er lh lp in
      (find 7 d.state_p.book.rows ≡ some (plan 0 1 kept_1 [])) × ((n : ℕ) (w : StorageSnapshot) → is_stale till (d.state_p.tables 0) n w ≡ is_stale till (d.state_h.tables 0) n w)
  unfolding runs runs_of lowered
  both_stand e r er lh lp q = let d = same e r er lh lp in
      (d.plans.stands 8 0 1 kept_1 [] (ap (λ (s : State). find 8 s.book.rows) (same_state e r er lh lp) ∙ q), λ n w. d.plans.stale 0 n w)

  -- rolled back, the plan is fresh in P: it has a reservation's slots yet
  still_fresh : (lh : list_of hs ≡ prepare_words ++ (plan_words ++ rollback_words 6)) (lp : list_of ps ≡ plain_plan_words ++ [])
      → is_stale till ((same rolled_back (rollback 6) (reads_rollback 6) lh lp).state_p.tables 0) 1 kept_1 ≡ false
  still_fresh lh lp = (both_stand rolled_back (rollback 6) (reads_rollback 6) lh lp computed.0).1 1 kept_1
      ∙ ap (λ (s : State). is_stale till (s.tables 0) 1 kept_1) (same_state rolled_back (rollback 6) (reads_rollback 6) lh lp) ∙ computed.2

  -- committed, its table has more free slots: it is stale in both
  stale_by_commit : (lh : list_of hs ≡ prepare_words ++ (plan_words ++ commit_words 6)) (lp : list_of ps ≡ plain_plan_words ++ closing_words 0 (v61 ∷ v63 ∷ []))
      → is_stale till ((same committed (commit 6) (reads_commit 6) lh lp).state_p.tables 0) 1 kept_1 ≡ true
  stale_by_commit lh lp = (both_stand committed (commit 6) (reads_commit 6) lh lp computed.1).1 1 kept_1
      ∙ ap (λ (s : State). is_stale till (s.tables 0) 1 kept_1) (same_state committed (commit 6) (reads_commit 6) lh lp) ∙ computed.3
