-- What the functions of the request publish do to the words. Assumes nothing.
use Rattle.std.specs.Prelude.{Bool, false, List, [], ◌∷◌, map, ℕ, zero, suc, ◌+◌, ◌-◌, min, eqb, ltb}
use Rattle.words.specs.Pick.{pick}
use Rattle.model.specs.Decision.{distinct}
use Rattle.layout.specs.declared.Shape.{Shape}
use Rattle.layout.specs.Layout.{Mem, row, item, load}
use Rattle.layout.specs.Fields.{row_table, row_length, item_slot, item_object, item_rights, item_flags}
use Rattle.request.specs.Place.{places_from, parcel_at}
use Rattle.storage.specs.Ops.{occupy_w}
use Rattle.book.specs.Ops.{row_link, reservation_link, close_w}
use Rattle.answer.specs.Does.{Both, both, answered, refuse_r}
use Rattle.parcel.specs.Ops.{parcel_link}
use Rattle.parcel.specs.declared.ParcelIds.{ParcelIds}

-- the parcels that a publish names: its items, n records from a place of the request list on
unfoldable pub ids_at : List ℕ → ℕ → ℕ → List ℕ
ids_at rq at n = map (parcel_at rq) (places_from n rq at)

-- the same of the code's own record
abbrev pub ids_left : ParcelIds → List ℕ
ids_left p = ids_at p.item.words.now p.item.at p.count

-- two numbers added; the largest word stays
abbrev pub plus : ℕ → ℕ → ℕ
plus a b = min (a + b) 0xffff_ffff_ffff_ffff

-- whether each id names a parcel and the parcels have n handles
unfoldable pub fits : Mem → Shape → List ℕ → ℕ → Bool
fits m sh [] n = eqb n 0
fits m sh (i ∷ is) n =
    pick (eqb (parcel_link m sh i) 0) false
    (pick (ltb n (m (row (parcel_link m sh i - 1) row_length))) false (fits m sh is (n - m (row (parcel_link m sh i - 1) row_length))))

-- n handles from item j on, of the parcel in place y, into the slots of the reservation in place x, of table b, whose positions are p more
unfoldable pub filled_w : List ℕ → Shape → ℕ → ℕ → ℕ → ℕ → ℕ → ℕ → List ℕ
filled_w ws sh b x p y j zero = ws
filled_w ws sh b x p y j (suc n) =
    filled_w (occupy_w ws sh b (load ws sh (item x (plus p j) item_slot)) (load ws sh (item y j item_object)) (load ws sh (item y j item_rights)) (load ws sh (item y j item_flags))) sh b x p y (suc j) n

-- "whose handles in order fill its slots": the handles of the parcels of a list, from position p on
unfoldable pub published_w : List ℕ → Shape → ℕ → ℕ → ℕ → List ℕ → List ℕ
published_w ws sh b x p [] = ws
published_w ws sh b x p (i ∷ is) =
    let y : ℕ = parcel_link (load ws sh) sh i - 1 in let n : ℕ = load ws sh (row y row_length) in
    published_w (filled_w ws sh b x p y 0 n) sh b x (plus p n) is

-- the rows of a list of ids leave
unfoldable pub dropped_w : List ℕ → Shape → List ℕ → List ℕ
dropped_w ws sh [] = ws
dropped_w ws sh (i ∷ is) = dropped_w (close_w ws sh (row_link (load ws sh) sh i - 1)) sh is

-- the slots are filled, then the reservation's row and the parcels' leave
unfoldable pub spent_w : List ℕ → Shape → ℕ → List ℕ → List ℕ
spent_w ws sh x is = dropped_w (close_w (published_w ws sh (load ws sh (row x row_table)) x 0 is) sh x) sh is

-- "row named twice; lengths differ": 18
unfoldable pub publish_r : List ℕ → List ℕ → Shape → ℕ → ℕ → List ℕ → Both
publish_r ws os sh base i is =
    let l : ℕ = reservation_link (load ws sh) sh i in
    pick (eqb l 0) (refuse_r ws os base 18)
    (pick (fits (load ws sh) sh is (load ws sh (row (l - 1) row_length)))
    (pick (distinct is) (both (spent_w ws sh (l - 1) is) (answered os base (0 ∷ []))) (refuse_r ws os base 18))
    (refuse_r ws os base 18))
