-- What the functions of the requests on plans do to the words. Assumes nothing.
use Rattle.std.specs.Prelude.{Bool, true, not, List, [], ◌∷◌, ℕ, ◌+◌, ◌-◌, min, eqb}
use Rattle.words.specs.Pick.{pick}
use Rattle.plan.specs.declared.MadePlan.{MadePlan}
use Rattle.layout.specs.declared.Shape.{Shape}
use Rattle.layout.specs.Layout.{Mem, root, head, row, item, load, save, Write.at, writes}
use Rattle.layout.specs.Fields.{root_next_id, head_epoch, head_free_slots, row_table, row_length, row_count, row_epoch, item_frame, item_free_slots}
use Rattle.layout.specs.Values.{kind_plan}
use Rattle.layout.specs.Sizes.{rows_max, plan_owner}
use Rattle.frames.specs.Ops.{take_frame_w, give_frame_w, lowest_at}
use Rattle.book.specs.Ops.{plan_link, id_refusal, spare, open_w, close_w}
use Rattle.growth.specs.Words.{pages_needed, list_pages_w, pages_same, each_w, grow_in_w}
use Rattle.lookup.specs.View.{table_refusal}
use Rattle.answer.specs.Does.{Both, both, answered, refuse_r, on_row_r}
use Rattle.reserve.specs.Ops.{slots_r, room_r}

-- ---- make plan

-- the owner word of a frame that the plan in place x holds
abbrev pub owner_word : ℕ → ℕ
owner_word x = plan_owner + min x rows_max

-- the lowest free frame is taken for the plan in place x, and item j names it
unfoldable pub hold_w : Shape → ℕ → ℕ → List ℕ → List ℕ
hold_w sh x j ws = save (take_frame_w ws sh (lowest_at (load ws sh)) (owner_word x)) sh (item x j item_frame) (lowest_at (load ws sh))

-- so n frames, for the items from j on
abbrev pub hold_all_w : Shape → ℕ → ℕ → ℕ → List ℕ → List ℕ
hold_all_w sh x = each_w (hold_w sh x)

-- what a plan of n slots of table b keeps beside its pages and frames
unfoldable pub kept_w : List ℕ → Shape → ℕ → ℕ → ℕ → List ℕ
kept_w ws sh b x n = writes ws sh (at (row x row_count) n ∷ at (row x row_epoch) (load ws sh (head b head_epoch)) ∷ at (item x 0 item_free_slots) (load ws sh (head b head_free_slots)) ∷ [])

-- the words of the row to come, a plan that needs p pages
unfoldable pub filled_w : List ℕ → Shape → ℕ → ℕ → ℕ → ℕ → List ℕ
filled_w ws sh b x n p = kept_w (hold_all_w sh x 0 p (list_pages_w ws sh b x p)) sh b x n

-- and it opens
unfoldable pub plan_w : List ℕ → Shape → ℕ → ℕ → ℕ → List ℕ
plan_w ws sh b n p = open_w (filled_w ws sh b (spare (load ws sh)) n p) sh kind_plan b p

-- "make plan: 1 id, 2 count, 3 number of frames"
-- the words that tell of a plan that was made
abbrev pub plan_list : MadePlan → List ℕ
plan_list p = p.id.0 ∷ p.count ∷ p.frames ∷ []

unfoldable pub plan_r : List ℕ → List ℕ → Shape → ℕ → ℕ → ℕ → ℕ → Both
plan_r ws os sh base b n p = both (plan_w ws sh b n p) (answered os base (0 ∷ load ws sh (root root_next_id) ∷ n ∷ p ∷ []))

unfoldable pub make_plan_r : List ℕ → List ℕ → Shape → ℕ → ℕ → ℕ → Both
make_plan_r ws os sh base b n = room_r ws os sh base b n (plan_r ws os sh base b n)

-- ---- drop plan

-- the frame that item j of the row in place x names is given back
unfoldable pub give_w : Shape → ℕ → ℕ → List ℕ → List ℕ
give_w sh x j ws = give_frame_w ws sh (load ws sh (item x j item_frame))

abbrev pub give_all_w : Shape → ℕ → ℕ → ℕ → List ℕ → List ℕ
give_all_w sh x = each_w (give_w sh x)

-- the row in place x leaves, and its frames are free
unfoldable pub drop_w : List ℕ → Shape → ℕ → List ℕ
drop_w ws sh x = give_all_w sh x 0 (load ws sh (row x row_length)) (close_w ws sh x)

abbrev pub drop_plan_r : List ℕ → List ℕ → Shape → ℕ → ℕ → Both
drop_plan_r ws os sh base i = on_row_r (drop_w ws sh) ws os base (plan_link (load ws sh) sh i)

-- ---- use plan

-- whether the plan in place x is stale: its epoch, its number of free slots and its pages beside those of its table b
unfoldable pub stale_in : Mem → ℕ → ℕ → Bool
stale_in m b x =
    pick (eqb (m (head b head_epoch)) (m (row x row_epoch)))
    (pick (eqb (m (head b head_free_slots)) (m (item x 0 item_free_slots)))
    (pick (eqb (pages_needed m b (m (row x row_count))) (m (row x row_length))) (not (pages_same m b x (m (row x row_length)))) true) true) true

abbrev pub stale_at : Mem → ℕ → Bool
stale_at m x = stale_in m (m (row x row_table)) x

-- "21 StalePlan, after TableRetired and before the id": the number of the refusal, 0 for none
unfoldable pub use_refusal : Mem → Shape → ℕ → ℕ
use_refusal m sh x = pick (eqb (table_refusal m sh (m (row x row_table))) 0) (pick (stale_at m x) 21 (id_refusal m)) (table_refusal m sh (m (row x row_table)))

-- the plan is dropped, its pages are attached in the frames that it held, and its count of slots is reserved
unfoldable pub use_r : List ℕ → List ℕ → Shape → ℕ → ℕ → Both
use_r ws os sh base x = let m : Mem = load ws sh in
    slots_r (grow_in_w (drop_w ws sh x) sh (m (row x row_table)) x (m (row x row_length))) os sh base (m (row x row_table)) (m (row x row_count))

-- of a row in place x
unfoldable pub used_r : List ℕ → List ℕ → Shape → ℕ → ℕ → Both
used_r ws os sh base x = pick (eqb (use_refusal (load ws sh) sh x) 0) (use_r ws os sh base x) (refuse_r ws os base (use_refusal (load ws sh) sh x))

unfoldable pub use_plan_r : List ℕ → List ℕ → Shape → ℕ → ℕ → Both
use_plan_r ws os sh base i = pick (eqb (plan_link (load ws sh) sh i) 0) (refuse_r ws os base 18) (used_r ws os sh base (plan_link (load ws sh) sh i - 1))
