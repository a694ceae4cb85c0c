-- What the functions of the requests retire object, new object, duplicate and release parcel do to the words. Assumes nothing.
use Rattle.std.specs.Prelude.{List, [], ◌∷◌, ℕ, zero, suc, eqb, ltb}
use Rattle.words.specs.Pick.{pick}
use Rattle.authority.specs.Rights.{contains, duplicate_right}
use Rattle.model.specs.State.{known_flags}
use Rattle.layout.specs.declared.Shape.{Shape}
use Rattle.layout.specs.Layout.{Mem, root, row, item, load}
use Rattle.layout.specs.Fields.{root_next_id, row_length, item_object}
use Rattle.layout.specs.Values.{kind_parcel, stage_active, stage_retired}
use Rattle.object.specs.declared.ObjectRecord.{ObjectRecord}
use Rattle.object.specs.Words.{record_at, activate_w, raise_w, lower_w, retire_w, raise_refusal}
use Rattle.book.specs.Ops.{kind_link, row_left, id_refusal, spare, open_w, handle_w, close_w}
use Rattle.answer.specs.Does.{Both, both, answered, refuse_r, on_row_r}
use Rattle.lookup.specs.declared.PreparedHandle.{PreparedHandle}
use Rattle.lookup.specs.View.{table_refusal, open_of}
use Rattle.lookup.specs.Read.{on_opened}

-- "unknown .. object": 18
unfoldable pub retire_r : List ℕ → List ℕ → Shape → ℕ → ℕ → Both
retire_r ws os sh base o = pick (ltb o sh.objects) (both (retire_w ws sh o) (answered os base (0 ∷ []))) (refuse_r ws os base 18)

-- ---- a parcel of one handle

-- the handle into item 0 of the place that is free, then the row
unfoldable pub parcel_w : List ℕ → Shape → ℕ → ℕ → ℕ → List ℕ
parcel_w ws sh o r f = open_w (handle_w ws sh (spare (load ws sh)) 0 o r f) sh kind_parcel 0 1

-- "Activation refuses 6 not exportable, 9 retired, 10 active, 11 limit reached, in that order, else count 1"; 0 for none
unfoldable pub activation_refusal : ObjectRecord → ℕ
activation_refusal x =
    pick (eqb x.exportable 0) 6
    (pick (eqb x.stage stage_retired) 9
    (pick (eqb x.stage stage_active) 10
    (pick (eqb x.count x.limit) 11 0)))

-- the activation of x, then the id
unfoldable pub row_refusal : Mem → ObjectRecord → ℕ
row_refusal m x = pick (eqb (activation_refusal x) 0) (id_refusal m) (activation_refusal x)

-- "New object: 1, 6, 7, activation, 12"; "unknown .. object": 18
unfoldable pub new_refusal : Mem → Shape → ℕ → ℕ → ℕ → ℕ
new_refusal m sh o r f =
    pick (ltb o sh.objects)
    (pick (row_left m sh)
    (pick (contains (record_at m o).supported r)
    (pick (contains known_flags f) (row_refusal m (record_at m o)) 7)
    6) 1) 18

unfoldable pub new_object_r : List ℕ → List ℕ → Shape → ℕ → ℕ → ℕ → ℕ → Both
new_object_r ws os sh base o r f =
    let n : ℕ = new_refusal (load ws sh) sh o r f in
    pick (eqb n 0) (both (parcel_w (activate_w ws sh o) sh o r f) (answered os base (0 ∷ load ws sh (root root_next_id) ∷ []))) (refuse_r ws os base n)

-- "Duplicate: 16, 1, 2 or 3, 5, 9, 11, 12": from 5 on, of the handle found and its object
unfoldable pub copy_refusal : Mem → PreparedHandle → ℕ → ℕ
copy_refusal m h r =
    pick (contains h.rights duplicate_right)
    (pick (contains h.rights r)
    (pick (eqb (raise_refusal m h.object) 0) (id_refusal m) (raise_refusal m h.object))
    5) 5

unfoldable pub copied_r : List ℕ → List ℕ → Shape → ℕ → ℕ → PreparedHandle → Both
copied_r ws os sh base r h =
    let n : ℕ = copy_refusal (load ws sh) h r in
    pick (eqb n 0)
    (both (parcel_w (raise_w ws sh h.object) sh h.object r h.flags) (answered os base (0 ∷ load ws sh (root root_next_id) ∷ [])))
    (refuse_r ws os base n)

unfoldable pub duplicate_r : List ℕ → List ℕ → Shape → ℕ → ℕ → ℕ → ℕ → Both
duplicate_r ws os sh base b v r =
    let n : ℕ = table_refusal (load ws sh) sh b in
    pick (eqb n 0)
    (pick (row_left (load ws sh) sh)
    (on_opened (open_of (load ws sh) sh b v) (λ n. refuse_r ws os base n) (λ h. copied_r ws os sh base r h))
    (refuse_r ws os base 1))
    (refuse_r ws os base n)

-- ---- release

-- the parcel with an id: its place plus 1, 0 if there is none
abbrev pub parcel_link : Mem → Shape → ℕ → ℕ
parcel_link = kind_link kind_parcel

-- the objects of n handles from item j on, of the row in place x, have one handle fewer each
unfoldable pub lowered_w : List ℕ → Shape → ℕ → ℕ → ℕ → List ℕ
lowered_w ws sh x j zero = ws
lowered_w ws sh x j (suc n) = lowered_w (lower_w ws sh (load ws sh (item x j item_object))) sh x (suc j) n

-- "A parcel can be released, its counts with it"
unfoldable pub released_w : List ℕ → Shape → ℕ → List ℕ
released_w ws sh x = close_w (lowered_w ws sh x 0 (load ws sh (row x row_length))) sh x

abbrev pub release_r : List ℕ → List ℕ → Shape → ℕ → ℕ → Both
release_r ws os sh base i = on_row_r (released_w ws sh) ws os base (parcel_link (load ws sh) sh i)
