-- That the promises on publishing straight from the rows say something: put to use on the shop's words, where parcels of one and of two handles are published, and moved handles are committed
-- directly. Each call's answers, and what the words that it leaves show then, are computed straight from the rows. Assumes nothing.
use Rattle.std.specs.Prelude.{◌≡◌, ℕ, length, drop}
use Rattle.std.proofs.Math.Path.{refl, ap}
use Rattle.std.proofs.Common.{sym, ◌∙◌, arith}
use mathlib.Core.List.{List, [], ◌∷◌, ◌++◌}
use Rattle.std.proofs.Math.Option.{some}
use Rattle.std.proofs.Math.ListN.{take}
use Rattle.model.specs.State.{till, Handle, Slot.occupied, Body.reservation, Body.parcel, State}
use Rattle.model.specs.Change.{with_book}
use Rattle.model.specs.Request.{Request, Request.duplicate, Request.reserve, Request.publish, Request.get_info, Request.abort, Request.commit, Request.direct_commit, Answer, Answer.refused, Answer.done}
use Rattle.model.specs.Decision.{Decision}
use Rattle.model.specs.Step.{carry, step, run}
use Rattle.model.specs.WellFormed.{WellFormed}
use Rattle.model.specs.Words.{read_list, padded, all_words}
use Rattle.model.proofs.Tests.{same_list_equal}
use Rattle.invariant.proofs.Pages.{till_sane}
use Rattle.invariant.proofs.Kept.{run_kept}
use Rattle.straight.specs.Straight.{lay, publish_straight, direct_commit_straight, decide_straight, step_straight, run_straight}
use Rattle.straight.specs.FromEnd.{publish_from_end, direct_commit_from_end}
use Rattle.contract.specs.Meets.{Called, Meets}
use Rattle.promises.specs.Straight.{NothingChanges}
use Rattle.promises.proofs.Straight.{nothing_changes, straight_calls}
use Rattle.promises.proofs.Shop.{ran, read_by, sh, shop, Begun, rep_shop, v62, prepare_words, transfer}

-- a list run straight, with all that the checker has to open to compute it
unfoldable went : State → List Request → State × List Answer
unfolding ran lay publish_straight direct_commit_straight decide_straight step_straight
went s rs = run_straight till s rs

-- ---- publish: the parcel 6 has the handles of the slots 61 (rights 15) and 63 (rights 3), the parcel 7 a copy of that of slot 62 (rights 1); the reservations are of table 1

abbrev publish_words : List ℕ
publish_words =
    prepare_words
    ++ (129 ∷ 17 ∷ 6
    ∷ 51 ∷ 2 ∷ 0 ∷ v62 ∷ 1
    ∷ 11 ∷ 5 ∷ 1 ∷ 1
    ∷ 137 ∷ 8 ∷ 1 ∷ 8 ∷ 129 ∷ 0 ∷ 6
    ∷ 129 ∷ 7 ∷ 8
    ∷ 11 ∷ 5 ∷ 1 ∷ 3
    ∷ 137 ∷ 8 ∷ 1 ∷ 9 ∷ 129 ∷ 0 ∷ 7
    ∷ 137 ∷ 8 ∷ 2 ∷ 9 ∷ 129 ∷ 0 ∷ 7 ∷ 129 ∷ 0 ∷ 10
    ∷ 137 ∷ 8 ∷ 3 ∷ 9 ∷ 129 ∷ 0 ∷ 7 ∷ 129 ∷ 0 ∷ 7 ∷ 129 ∷ 0 ∷ 7
    ∷ 137 ∷ 8 ∷ 1 ∷ 7 ∷ 129 ∷ 0 ∷ 6
    ∷ 137 ∷ 8 ∷ 2 ∷ 9 ∷ 129 ∷ 0 ∷ 7 ∷ 129 ∷ 0 ∷ 6
    ∷ [])

-- refused: two handles for one slot; then, for three slots, one handle, an unknown parcel, a parcel named three times, and no reservation; the parcel 7 before the parcel 6 is done
abbrev publish_list : List Request
publish_list =
    transfer ∷ commit 6 ∷ duplicate 0 v62 1 ∷ reserve 1 1 ∷ publish 8 (6 ∷ []) ∷ abort 8 ∷ reserve 1 3
    ∷ publish 9 (7 ∷ []) ∷ publish 9 (7 ∷ 10 ∷ []) ∷ publish 9 (7 ∷ 7 ∷ 7 ∷ []) ∷ publish 7 (6 ∷ []) ∷ publish 9 (7 ∷ 6 ∷ []) ∷ []

reads_publish : read_list publish_words ≡ some publish_list
unfolding read_by
reads_publish = refl

-- the values of table 1's slots 63, 62 and 61, and of slot 63 at generation 2
abbrev w63 : ℕ
w63 = 0x4800000001000045

abbrev w62 : ℕ
w62 = 0x480000000100003a

abbrev w61 : ℕ
w61 = 0x480000000100003b

abbrev x63 : ℕ
x63 = 0x4800000002000045

abbrev misuse : List ℕ
misuse = padded 72 (18 ∷ [])

abbrev publish_answers : List ℕ
publish_answers =
    padded 72 (0 ∷ 6 ∷ []) ++ (padded 72 [] ++ (padded 72 (0 ∷ 7 ∷ []) ++ (padded 72 (0 ∷ 8 ∷ 1 ∷ w63 ∷ []) ++ (misuse ++ (padded 72 [] ++ (padded 72 (0 ∷ 9 ∷ 3 ∷ x63 ∷ w62 ∷ w61 ∷ [])
    ++ (misuse ++ (misuse ++ (misuse ++ (misuse ++ padded 72 []))))))))))

publishes : all_words (run_straight till shop publish_list).1 ≡ publish_answers
unfolding went
publishes = same_list_equal (all_words (run_straight till shop publish_list).1) publish_answers refl

-- ---- direct commit: of the slots 61 and 63. Refused: into one slot, and with the two rows exchanged; into two slots of table 1 it is done

abbrev direct_words : List ℕ
direct_words = prepare_words ++ (11 ∷ 5 ∷ 1 ∷ 1 ∷ 385 ∷ 18 ∷ 6 ∷ 7 ∷ 385 ∷ 18 ∷ 7 ∷ 6 ∷ 11 ∷ 5 ∷ 1 ∷ 2 ∷ 385 ∷ 18 ∷ 6 ∷ 8 ∷ [])

abbrev direct_list : List Request
direct_list = transfer ∷ reserve 1 1 ∷ direct_commit 6 7 ∷ direct_commit 7 6 ∷ reserve 1 2 ∷ direct_commit 6 8 ∷ []

reads_direct : read_list direct_words ≡ some direct_list
unfolding read_by
reads_direct = refl

abbrev direct_answers : List ℕ
direct_answers = padded 72 (0 ∷ 6 ∷ []) ++ (padded 72 (0 ∷ 7 ∷ 1 ∷ w63 ∷ []) ++ (misuse ++ (misuse ++ (padded 72 (0 ∷ 8 ∷ 2 ∷ w62 ∷ w61 ∷ []) ++ padded 72 []))))

directs : all_words (run_straight till shop direct_list).1 ≡ direct_answers
unfolding went
directs = same_list_equal (all_words (run_straight till shop direct_list).1) direct_answers refl

-- ---- what the words left show, in a call of their own: of the three slots, or of two

abbrev three_words : List ℕ
three_words = 19 ∷ 9 ∷ 1 ∷ x63 ∷ 19 ∷ 9 ∷ 1 ∷ w62 ∷ 19 ∷ 9 ∷ 1 ∷ w61 ∷ []

abbrev two_words : List ℕ
two_words = 19 ∷ 9 ∷ 1 ∷ w62 ∷ 19 ∷ 9 ∷ 1 ∷ w61 ∷ []

abbrev three : List Request
three = get_info 1 x63 ∷ get_info 1 w62 ∷ get_info 1 w61 ∷ []

abbrev two : List Request
two = get_info 1 w62 ∷ get_info 1 w61 ∷ []

reads_three : read_list three_words ≡ some three
unfolding read_by
reads_three = refl

reads_two : read_list two_words ≡ some two
unfolding read_by
reads_two = refl

abbrev info : (koid kind rights : ℕ) → List ℕ
info koid kind rights = padded 72 (0 ∷ koid ∷ kind ∷ rights ∷ 0 ∷ [])

-- the parcel that was named first stands first, and each parcel's handles in their order
abbrev three_infos : List ℕ
three_infos = info 71 4 1 ++ (info 70 3 15 ++ info 70 3 3)

abbrev two_infos : List ℕ
two_infos = info 70 3 15 ++ info 70 3 3

three_shown : all_words (run_straight till (run_straight till shop publish_list).0 three).1 ≡ three_infos
unfolding went
three_shown = same_list_equal (all_words (run_straight till (run_straight till shop publish_list).0 three).1) three_infos refl

two_shown : all_words (run_straight till (run_straight till shop direct_list).0 two).1 ≡ two_infos
unfolding went
two_shown = same_list_equal (all_words (run_straight till (run_straight till shop direct_list).0 two).1) two_infos refl

-- two calls, the second on the words that the first has left
module _ (ws : List ℕ) (b : Begun ws) (os ps : List ℕ) (x y : Called) where
  published : length os ≡ 864 → length ps ≡ 216 → Meets ws publish_words os x → Meets x.state three_words ps y → (x.result ≡ 0) × (take 864 x.answers ≡ publish_answers) × (take 216 y.answers ≡ three_infos)
  published lo lp m n =
      let d = straight_calls ws publish_words os x m sh shop (rep_shop ws b) publish_list reads_publish (omega (arith, lo)) in
      let e = straight_calls x.state three_words ps y n sh _ d.state three reads_three (omega (arith, lp)) in
      (d.result, ap (take 864) d.answers ∙ ap (λ (l : List ℕ). take 864 (l ++ drop 864 os)) publishes, ap (take 216) e.answers ∙ ap (λ (l : List ℕ). take 216 (l ++ drop 216 ps)) three_shown)

  committed : length os ≡ 432 → length ps ≡ 144 → Meets ws direct_words os x → Meets x.state two_words ps y → (x.result ≡ 0) × (take 432 x.answers ≡ direct_answers) × (take 144 y.answers ≡ two_infos)
  committed lo lp m n =
      let d = straight_calls ws direct_words os x m sh shop (rep_shop ws b) direct_list reads_direct (omega (arith, lo)) in
      let e = straight_calls x.state two_words ps y n sh _ d.state two reads_two (omega (arith, lp)) in
      (d.result, ap (take 432) d.answers ∙ ap (λ (l : List ℕ). take 432 (l ++ drop 432 os)) directs, ap (take 144) e.answers ∙ ap (λ (l : List ℕ). take 144 (l ++ drop 144 ps)) two_shown)

-- ---- of any state

-- a refusal is refused with its number, and the state stays
refused_alike : (s : State) (r : Request) (n : ℕ) → (step till s r).1 ≡ refused n → (step till s r).0 ≡ s → ((step_straight till s r).1 ≡ refused n) × ((step_straight till s r).0 ≡ s)
refused_alike s r n e d = let p : NothingChanges till = nothing_changes till in (p.answer s r ∙ e, p.state s r ∙ d)

-- also of one that is not well formed: the reservation 9 has the slot 5 twice, and the handle that is laid last stays there
abbrev handle : ℕ → Handle
handle r = record { object = 0; rights = r; flags = 0 }

abbrev twice : State
twice = with_book shop (record {
  rows = record { id = 7; body = parcel (handle 1 ∷ []) } ∷ record { id = 8; body = parcel (handle 2 ∷ []) } ∷ record { id = 9; body = reservation 1 (5 ∷ 5 ∷ []) } ∷ [];
  capacity = 3;
  next = 10;
})

abbrev both_parcels : List Request
both_parcels = publish 9 (7 ∷ []) ∷ publish 9 (7 ∷ 8 ∷ []) ∷ []

last_stays : ((run till twice both_parcels).0.tables 1).slots 5 ≡ occupied 0 (handle 2)
unfolding went
last_stays = let p : NothingChanges till = nothing_changes till in ap (λ (s : State). (s.tables 1).slots 5) (sym (p.states twice both_parcels)) ∙ refl

refused_then_done : (run till twice both_parcels).1 ≡ refused 18 ∷ done ∷ []
unfolding went
refused_then_done = let p : NothingChanges till = nothing_changes till in sym (p.answers twice both_parcels) ∙ refl

-- laid from its end, the first would stay there
first_stays : ((carry till twice (publish_from_end till twice 9 (7 ∷ 8 ∷ []))).0.tables 1).slots 5 ≡ occupied 0 (handle 1)
unfolding went publish_from_end
first_stays = refl

-- ---- from the batch's end, on the shop: the same

-- what comes before the publish, and before the direct commit
abbrev loose : List Request
loose = transfer ∷ commit 6 ∷ duplicate 0 v62 1 ∷ reserve 1 3 ∷ []

abbrev held : List Request
held = transfer ∷ reserve 1 2 ∷ []

module _ (w : WellFormed till shop) where
  from_the_end : let s : State = (run till shop loose).0 in ((carry till s (publish_from_end till s 8 (7 ∷ 6 ∷ []))).0.tables 1).slots 63 ≡ occupied 1 (record { object = 1; rights = 1; flags = 0 })
  unfolding went
  from_the_end =
      let p : NothingChanges till = nothing_changes till in let s : State = (run till shop loose).0 in
      ap (λ (d : Decision). ((carry till s d).0.tables 1).slots 63) (p.from_end s (run_kept till till_sane shop w loose) 8 (7 ∷ 6 ∷ [])) ∙ refl

  direct_from_the_end : let s : State = (run till shop held).0 in ((carry till s (direct_commit_from_end till s 6 7)).0.tables 1).slots 62 ≡ occupied 1 (handle 3)
  unfolding went
  direct_from_the_end =
      let p : NothingChanges till = nothing_changes till in let s : State = (run till shop held).0 in
      ap (λ (d : Decision). ((carry till s d).0.tables 1).slots 62) (p.direct_from_end s (run_kept till till_sane shop w held) 6 7) ∙ refl
