-- That the promises on looks say something: each is put to use on the shop, every field of it; and the looks are shown on the shop's words. Assumes nothing.
use Rattle.std.specs.Prelude.{◌≡◌, true, ℕ, length, drop}
use Rattle.std.proofs.Math.Path.{refl, ap}
use Rattle.std.proofs.Common.{sym, ◌∙◌, arith}
use mathlib.Core.List.{List, [], ◌∷◌, ◌++◌}
use Rattle.std.proofs.Math.Option.{none, some}
use Rattle.std.proofs.Math.ListN.{get_or, take}
use Rattle.model.specs.Base.{every}
use Rattle.model.specs.State.{till, State}
use Rattle.model.specs.Request.{Info, Route.buffered, Operation.as_copy, Item, Request, Request.duplicate, Request.reserve, Request.get_info, Request.resolve, Request.replace, Request.close, Request.prepare_transfer, Request.prepare_consumption, Request.rollback, Request.direct_rollback, Answer.refused, Answer.done, Answer.info_of}
use Rattle.model.specs.Step.{step, run}
use Rattle.model.specs.WellFormed.{WellFormed}
use Rattle.model.specs.Words.{read_list, padded, all_words}
use Rattle.model.proofs.Tests.{clash, same_list_equal}
use Rattle.invariant.proofs.Pages.{till_sane}
use Rattle.noninterference.specs.Runs.{permitted, lowered}
use Rattle.contract.specs.Meets.{Called, Meets}
use Rattle.promises.specs.Lower.{Ending, end_h, end_p, lower_answers}
use Rattle.promises.specs.Terms.{Call, Calls, list_of, answers_of}
use Rattle.promises.proofs.Held.{held_words}
use Rattle.promises.proofs.Demand2.{demand_2}
use Rattle.promises.specs.Demand3.{TwoRuns}
use Rattle.promises.proofs.Demand3.{demand_3}
use Rattle.promises.specs.Looks.{BusyToOthers, Shown}
use Rattle.promises.proofs.Looks.{transfer_shows, consumption_shows, permitted_unnamed, look_refusals}
use Rattle.promises.proofs.ShopRuns.{held_leaves, runs_of}
use Rattle.promises.proofs.Shop.{ran, read_by, sh, shop, Begun, rep_shop, v63, v62, v61, prepare_words, item, items, transfer, list}

abbrev info : (koid kind rights : ℕ) → Info
info koid kind rights = record { koid = koid; kind = kind; rights = rights; flags = 0 }

-- ---- on the definitions

-- what is shown is what the handle was before, and again after a rollback, which is accepted; closing it is refused with 3 meanwhile
abbrev Stays : State → (t value : ℕ) → List Request → Info → Type 0
Stays u t v rs i = let end : State = (run till u rs).0 in
    ((step till end (get_info 0 v)).1 ≡ info_of i) × ((step till end (close 0 v)).1 ≡ refused 3) × ((step till end (rollback t)).1 ≡ done)
    × ((step till (step till end (rollback t)).0 (get_info 0 v)).1 ≡ info_of i)

stays : (u : State) (t v : ℕ) (rs : List Request) (i : Info) → Shown till shop u t 0 v rs → (step till shop (get_info 0 v)).1 ≡ info_of i → Stays u t v rs i
stays u t v rs i p e = let same : info_of p.info ≡ info_of i = sym p.before ∙ e in (p.meanwhile ∙ same, p.others.closes, p.rolled_back, p.again ∙ same)

-- the shop's transfer, through the list of its two runs: koid 70, kind 3 and its own rights 15, where the receiver gets 3
permits : every (permitted 6 0 (v61 ∷ v63 ∷ [])) list ≡ true
unfolding ran
permits = refl

moved_63 : WellFormed till shop → Stays (step till shop transfer).0 6 v63 list (info 70 3 15)
unfolding ran
moved_63 w = stays (step till shop transfer).0 6 v63 list (info 70 3 15)
    (transfer_shows till till_sane shop w 0 buffered none none items 6 refl 1 (item v63 3) refl refl list (permitted_unnamed 6 0 (v61 ∷ v63 ∷ []) list permits)) refl

-- a transfer of two moves, of koid 71 and of koid 70, and a copy between them
abbrev copied : ℕ → ℕ → Item
copied v r = record { operation = as_copy; value = v; rights = r; offered_rights = none; offered_kind = none; expected_kind = none }

abbrev mixed_items : List Item
mixed_items = item v62 15 ∷ copied v61 1 ∷ item v63 3 ∷ []

abbrev mixed : Request
mixed = prepare_transfer 0 buffered none none mixed_items

moved_before_a_copy : WellFormed till shop → Stays (step till shop mixed).0 6 v62 [] (info 71 4 15)
unfolding ran
moved_before_a_copy w = stays (step till shop mixed).0 6 v62 [] (info 71 4 15) (transfer_shows till till_sane shop w 0 buffered none none mixed_items 6 refl 0 (item v62 15) refl refl [] refl) refl

moved_behind_a_copy : WellFormed till shop → Stays (step till shop mixed).0 6 v63 [] (info 70 3 15)
unfolding ran
moved_behind_a_copy w = stays (step till shop mixed).0 6 v63 [] (info 70 3 15) (transfer_shows till till_sane shop w 0 buffered none none mixed_items 6 refl 2 (item v63 3) refl refl [] refl) refl

-- meanwhile every other request that names it gives 3
refused_there : WellFormed till shop → let u : State = (step till shop mixed).0 in
    ((step till u (resolve 0 v63 1 3)).1 ≡ refused 3) × ((step till u (replace 0 v63 1)).1 ≡ refused 3) × ((step till u (duplicate 0 v63 1)).1 ≡ refused 3)
    × ((step till u (prepare_consumption 0 v63 1 3 70)).1 ≡ refused 3) × ((step till u (prepare_transfer 0 buffered none none (copied v63 1 ∷ []))).1 ≡ refused 3)
unfolding ran
refused_there w =
    let o : BusyToOthers till (step till shop mixed).0 0 v63 = (transfer_shows till till_sane shop w 0 buffered none none mixed_items 6 refl 2 (item v63 3) refl refl [] refl).others in
    (o.resolves 1 3, o.replaces 1, o.duplicates 1 refl, o.consumes 1 3 70 refl, o.transfers buffered none none (copied v63 1) [] refl refl refl refl)

-- a consumption, and a reservation with which it is rolled back directly
abbrev consumption : Request
consumption = prepare_consumption 0 v62 1 4 71

abbrev consumed : WellFormed till shop → Shown till shop (step till shop consumption).0 6 0 v62 (reserve 1 1 ∷ [])
unfolding ran
consumed w = consumption_shows till till_sane shop w 0 v62 1 4 71 6 refl (reserve 1 1 ∷ []) refl

consumed_62 : WellFormed till shop → Stays (step till shop consumption).0 6 v62 (reserve 1 1 ∷ []) (info 71 4 15)
unfolding ran
consumed_62 w = stays (step till shop consumption).0 6 v62 (reserve 1 1 ∷ []) (info 71 4 15) (consumed w) refl

back_directly : WellFormed till shop
    → (step till (step till (run till (step till shop consumption).0 (reserve 1 1 ∷ [])).0 (direct_rollback 6 7)).0 (get_info 0 v62)).1 ≡ info_of (info 71 4 15)
unfolding ran
back_directly w = let p = consumed w in p.again_directly 7 refl ∙ (sym p.before ∙ refl)

-- whatever the state, the table and the value: not 3
not_busy : (s : State) (b v : ℕ) → (step till s (get_info b v)).1 ≡ refused 3 → ⊥
not_busy s b v e = clash (look_refusals till s b v 3 e) refl

-- ---- over words

-- one call: the screen looks, the mixed transfer is prepared, the screen looks at both moved values, `resolve` is Busy, the transfer is rolled back, the screen looks again
abbrev screen_words : List ℕ
screen_words =
    19 ∷ 9 ∷ 0 ∷ v63
    ∷ 4107 ∷ 14 ∷ 0 ∷ 3 ∷ 0 ∷ 49 ∷ 0 ∷ v62 ∷ 15 ∷ 49 ∷ 1 ∷ v61 ∷ 1 ∷ 49 ∷ 0 ∷ v63 ∷ 3
    ∷ 19 ∷ 9 ∷ 0 ∷ v62
    ∷ 19 ∷ 9 ∷ 0 ∷ v63
    ∷ 563 ∷ 10 ∷ 0 ∷ v63 ∷ 1 ∷ 3
    ∷ 129 ∷ 16 ∷ 6
    ∷ 19 ∷ 9 ∷ 0 ∷ v63
    ∷ []

abbrev screen : List Request
screen = get_info 0 v63 ∷ mixed ∷ get_info 0 v62 ∷ get_info 0 v63 ∷ resolve 0 v63 1 3 ∷ rollback 6 ∷ get_info 0 v63 ∷ []

reads_screen : read_list screen_words ≡ some screen
unfolding read_by
reads_screen = refl

-- of the handle of slot 63; of that of slot 62
abbrev seen : List ℕ
seen = padded 72 (0 ∷ 70 ∷ 3 ∷ 15 ∷ 0 ∷ [])

abbrev seen_62 : List ℕ
seen_62 = padded 72 (0 ∷ 71 ∷ 4 ∷ 15 ∷ 0 ∷ [])

abbrev shown_there : List ℕ
shown_there = seen ++ (padded 72 (0 ∷ 6 ∷ []) ++ (seen_62 ++ (seen ++ (padded 72 (3 ∷ []) ++ (padded 72 [] ++ seen)))))

screen_answers : all_words (run till shop screen).1 ≡ shown_there
unfolding ran
screen_answers = same_list_equal (all_words (run till shop screen).1) shown_there refl

on_the_screen : (ws : List ℕ) → Begun ws → (os : List ℕ) → length os ≡ 504 → (x : Called) → Meets ws screen_words os x → (x.result ≡ 0) × (take 504 x.answers ≡ shown_there)
on_the_screen ws b os l x m =
    let d = demand_2 ws screen_words os x m sh shop (rep_shop ws b) screen reads_screen (omega (arith, l)) in
    (d.result, ap (take 504) d.answers ∙ ap (λ (l : List ℕ). take 504 (l ++ drop 504 os)) screen_answers)

-- the two runs: the list looks at both moved values, and reserves between
abbrev look_words : List ℕ
look_words = 19 ∷ 9 ∷ 0 ∷ v63 ∷ 11 ∷ 5 ∷ 1 ∷ 1 ∷ 19 ∷ 9 ∷ 0 ∷ v61 ∷ []

abbrev look_list : List Request
look_list = get_info 0 v63 ∷ reserve 1 1 ∷ get_info 0 v61 ∷ []

reads_looks : read_list look_words ≡ some look_list
unfolding read_by
reads_looks = refl

-- the answers of the run whose reservation has the id i
abbrev look_answers : ℕ → List ℕ
look_answers i = seen ++ (padded 72 (0 ∷ i ∷ 1 ∷ 0x4800000001000045 ∷ []) ++ seen)

held_looks : all_words (run till (step till shop transfer).0 look_list).1 ≡ look_answers 7
unfolding ran
held_looks = same_list_equal (all_words (run till (step till shop transfer).0 look_list).1) (look_answers 7) refl

module _ (ws us : List ℕ) (wb : Begun ws) (ub : Begun us) (hs ps : List Call) (kh : Calls ws hs) (kp : Calls us ps) (e : Ending) (r : Request) (er : read_list (end_h e 6) ≡ some (r ∷ []))
    (lh : list_of hs ≡ prepare_words ++ (look_words ++ end_h e 6)) (lp : list_of ps ≡ look_words ++ end_p e 0 (v61 ∷ v63 ∷ [])) where
  runs : TwoRuns
  unfolding ran
  runs = runs_of ws us wb ub hs ps kh kp look_words look_list reads_looks e r er lh lp refl refl

  -- whichever way it ends, both runs show the handles alike, with their own rights; the reservation is 7 in H and 6 in P
  both_look : (take 216 (drop 72 (answers_of hs)) ≡ look_answers 7) × (take 216 (answers_of ps) ≡ look_answers 6)
  unfolding runs runs_of lowered
  both_look =
      let h = held_leaves ws wb hs kh look_words look_list reads_looks e r er lh in
      let list_H : take 216 (drop 72 (answers_of hs)) ≡ look_answers 7 = (held_words shop 0 buffered none none items look_list r (answers_of hs) 6 h.answers
      (ap (λ (l : List ℕ). get_or l 0 0) h.answers) (ap (λ (l : List ℕ). get_or l 1 0) h.answers)).list ∙ held_looks in
      (list_H, (demand_3 runs).answers ∙ ap (lower_answers 6 look_list) list_H)
