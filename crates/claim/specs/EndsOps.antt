-- What the functions of the requests trim and abort do to the words. Assumes nothing.
use Rattle.std.specs.Prelude.{List, [], ◌∷◌, ℕ, ◌-◌, min, eqb, ltb}
use Rattle.words.specs.Pick.{pick}
use Rattle.layout.specs.declared.Shape.{Shape}
use Rattle.layout.specs.Layout.{row, load}
use Rattle.layout.specs.Fields.{row_table, row_length}
use Rattle.layout.specs.Sizes.{batch_max}
use Rattle.book.specs.Ops.{reservation_link, close_w, shrink_w, vacate_items_w}
use Rattle.answer.specs.Does.{Both, both, answered, refuse_r, on_row_r}

-- the reservation in place x ends: its slots, at most 64, fall vacant in order, and its row leaves
unfoldable pub aborted_w : List ℕ → Shape → ℕ → List ℕ
aborted_w ws sh x = close_w (vacate_items_w ws sh (load ws sh (row x row_table)) x 0 (min (load ws sh (row x row_length)) batch_max)) sh x

-- it keeps its first n slots
unfoldable pub trimmed_w : List ℕ → Shape → ℕ → ℕ → List ℕ
trimmed_w ws sh x n = shrink_w (vacate_items_w ws sh (load ws sh (row x row_table)) x n (min (load ws sh (row x row_length)) batch_max - n)) sh x n

abbrev pub abort_r : List ℕ → List ℕ → Shape → ℕ → ℕ → Both
abort_r ws os sh base i = on_row_r (aborted_w ws sh) ws os base (reservation_link (load ws sh) sh i)

-- "trim to 0 or above the batch": 18
unfoldable pub trim_r : List ℕ → List ℕ → Shape → ℕ → ℕ → ℕ → Both
trim_r ws os sh base i n =
    let l : ℕ = reservation_link (load ws sh) sh i in
    pick (eqb l 0) (refuse_r ws os base 18)
    (pick (eqb n 0) (refuse_r ws os base 18)
    (pick (ltb (load ws sh (row (l - 1) row_length)) n) (refuse_r ws os base 18)
    (both (trimmed_w ws sh (l - 1) n) (answered os base (0 ∷ [])))))
