-- What the functions of the requests rollback, commit, direct commit and direct rollback do to the words. Assumes nothing.
use Rattle.std.specs.Prelude.{Bool, false, List, [], ◌∷◌, ℕ, zero, suc, ◌-◌, eqb, Result, Ok, Err}
use Rattle.words.specs.Pick.{pick}
use Rattle.format.specs.declared.refusal.Refusal.{Refusal}
use Rattle.format.specs.declared.refusal.Refusal.TheVariants.{Misuse}
use Rattle.layout.specs.declared.Shape.{Shape}
use Rattle.layout.specs.Layout.{Mem, row, item, load, save}
use Rattle.layout.specs.Fields.{row_kind, row_table, row_length, item_slot, item_operation, item_moved, item_object, item_rights, item_flags, item_granted}
use Rattle.layout.specs.Values.{kind_claim, kind_parcel, operation_move}
use Rattle.storage.specs.Ops.{vacate_w, occupy_w}
use Rattle.object.specs.Words.{lower_w}
use Rattle.book.specs.Ops.{kind_link, reservation_link, close_w}
use Rattle.answer.specs.Does.{Both, both, answered, refuse_r, on_row_r}
use Rattle.claim.specs.declared.Pair.{Pair}
use Rattle.claim.specs.EndsOps.{abort_r}

-- the open claim with an id: its place plus 1, 0 if there is none
abbrev pub claim_link : Mem → Shape → ℕ → ℕ
claim_link = kind_link kind_claim

-- what f does at one number, done at n of them from j on
unfoldable pub each : (List ℕ → ℕ → List ℕ) → List ℕ → ℕ → ℕ → List ℕ
each f ws j zero = ws
each f ws j (suc n) = each f (f ws j) (suc j) n

-- ---- rollback

-- entry j of the claim in place x, of table b: a slot holds again the handle of the entry that moved it, or a copy is released
unfoldable pub undo_w : List ℕ → Shape → ℕ → ℕ → ℕ → List ℕ
undo_w ws sh b x j =
    let m : Mem = load ws sh in
    pick (eqb (m (item x j item_operation)) operation_move) (occupy_w ws sh b (m (item x j item_moved)) (m (item x j item_object)) (m (item x j item_rights)) (m (item x j item_flags))) (lower_w ws sh (m (item x j item_object)))

-- its first n entries
abbrev pub undone_w : List ℕ → Shape → ℕ → ℕ → ℕ → List ℕ
undone_w ws sh b x n = each (λ (vs : List ℕ) (j : ℕ). undo_w vs sh b x j) ws 0 n

-- then its row leaves
unfoldable pub rolled_w : List ℕ → Shape → ℕ → List ℕ
rolled_w ws sh x = close_w (undone_w ws sh (load ws sh (row x row_table)) x (load ws sh (row x row_length))) sh x

abbrev pub rollback_r : List ℕ → List ℕ → Shape → ℕ → ℕ → Both
rollback_r ws os sh base i = on_row_r (rolled_w ws sh) ws os base (claim_link (load ws sh) sh i)

-- ---- commit

-- the rights that the receiver of entry j gets: those asked for of a handle that moves; a copy has them already
unfoldable pub sent_rights : Mem → ℕ → ℕ → ℕ
sent_rights m x j = pick (eqb (m (item x j item_operation)) operation_move) (m (item x j item_granted)) (m (item x j item_rights))

-- the slot that entry j moves falls vacant
unfoldable pub leave_w : List ℕ → Shape → ℕ → ℕ → ℕ → List ℕ
leave_w ws sh b x j = pick (eqb (load ws sh (item x j item_operation)) operation_move) (vacate_w ws sh b (load ws sh (item x j item_moved))) ws

-- those of the first n entries, "one by one in list order"
abbrev pub left_w : List ℕ → Shape → ℕ → ℕ → ℕ → List ℕ
left_w ws sh b x n = each (λ (vs : List ℕ) (j : ℕ). leave_w vs sh b x j) ws 0 n

-- entry j becomes the handle that the receiver gets
unfoldable pub send_w : List ℕ → Shape → ℕ → ℕ → List ℕ
send_w ws sh x j = save ws sh (item x j item_rights) (sent_rights (load ws sh) x j)

-- the first n do
abbrev pub sent_w : List ℕ → Shape → ℕ → ℕ → List ℕ
sent_w ws sh x n = each (λ (vs : List ℕ) (j : ℕ). send_w vs sh x j) ws 0 n

-- "Commit turns a claim's row into a parcel of the same id"
unfoldable pub committed_w : List ℕ → Shape → ℕ → List ℕ
committed_w ws sh x =
    let n : ℕ = load ws sh (row x row_length) in
    save (sent_w (left_w ws sh (load ws sh (row x row_table)) x n) sh x n) sh (row x row_kind) kind_parcel

abbrev pub commit_r : List ℕ → List ℕ → Shape → ℕ → ℕ → Both
commit_r ws os sh base i = on_row_r (committed_w ws sh) ws os base (claim_link (load ws sh) sh i)

-- ---- a claim and a reservation

-- whether a claim and a reservation, each given by its place plus 1, are there and have one length
unfoldable pub paired : Mem → ℕ → ℕ → Bool
paired m l k = pick (eqb l 0) false (pick (eqb k 0) false (eqb (m (row (l - 1) row_length)) (m (row (k - 1) row_length))))

-- their places. "unknown .. open row of the kind named .. lengths differ": 18
unfoldable pub pair_of : Mem → Shape → ℕ → ℕ → Result Pair Refusal
pair_of m sh i j =
    let l : ℕ = claim_link m sh i in let k : ℕ = reservation_link m sh j in
    pick (paired m l k) (Ok (record { from = l - 1; to = k - 1 })) (Err Misuse)

-- the handle that entry j of the claim in place x gives into slot j of the reservation in place y, of table c
unfoldable pub fill_w : List ℕ → Shape → ℕ → ℕ → ℕ → ℕ → List ℕ
fill_w ws sh c y x j =
    let m : Mem = load ws sh in
    occupy_w ws sh c (m (item y j item_slot)) (m (item x j item_object)) (sent_rights m x j) (m (item x j item_flags))

-- the first n
abbrev pub filled_w : List ℕ → Shape → ℕ → ℕ → ℕ → ℕ → List ℕ
filled_w ws sh c y x n = each (λ (vs : List ℕ) (j : ℕ). fill_w vs sh c y x j) ws 0 n

-- the moved slots fall vacant, the reservation's are filled, and both rows leave
unfoldable pub direct_w : List ℕ → Shape → ℕ → ℕ → List ℕ
direct_w ws sh x y =
    let n : ℕ = load ws sh (row x row_length) in
    close_w (close_w (filled_w (left_w ws sh (load ws sh (row x row_table)) x n) sh (load ws sh (row y row_table)) y x n) sh x) sh y

unfoldable pub direct_commit_r : List ℕ → List ℕ → Shape → ℕ → ℕ → ℕ → Both
direct_commit_r ws os sh base i j =
    let l : ℕ = claim_link (load ws sh) sh i in let k : ℕ = reservation_link (load ws sh) sh j in
    pick (paired (load ws sh) l k) (both (direct_w ws sh (l - 1) (k - 1)) (answered os base (0 ∷ []))) (refuse_r ws os base 18)

-- the claim is rolled back, then the reservation aborted
unfoldable pub direct_rollback_r : List ℕ → List ℕ → Shape → ℕ → ℕ → ℕ → Both
direct_rollback_r ws os sh base i j =
    let l : ℕ = claim_link (load ws sh) sh i in
    pick (paired (load ws sh) l (reservation_link (load ws sh) sh j)) (abort_r (rolled_w ws sh (l - 1)) os sh base j) (refuse_r ws os base 18)
