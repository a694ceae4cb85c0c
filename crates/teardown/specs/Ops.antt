-- What the functions do to the words, and what they answer. Assumes nothing.
use Rattle.std.specs.Prelude.{Bool, true, false, Option, Some, None, List, [], ◌∷◌, ℕ, zero, suc, ◌-◌, eqb, ltb}
use Rattle.words.specs.Pick.{pick}
use Rattle.model.specs.Storage.{first_occupied}
use Rattle.layout.specs.declared.Shape.{Shape}
use Rattle.layout.specs.Layout.{Mem, head, index, row, load, Write.at, writes}
use Rattle.layout.specs.Fields.{head_lifecycle, head_cursor, slot_object, row_kind, row_table}
use Rattle.layout.specs.Values.{kind_reservation, kind_claim, life_active, life_tearing_down, life_retired}
use Rattle.representation.specs.Represents.{link_of, slot_word, slot_in}
use Rattle.storage.specs.Ops.{vacate_w}
use Rattle.object.specs.Words.{lower_w}
use Rattle.book.specs.Ops.{place_of, used_of}
use Rattle.answer.specs.Does.{Both, both, answered, refuse_r}
use Rattle.lookup.specs.declared.HandleInfo.{HandleInfo}
use Rattle.lookup.specs.declared.SnapshotEntry.{SnapshotEntry}
use Rattle.lookup.specs.View.{handle_at, table_refusal}
use Rattle.lookup.specs.Read.{info_at, info_list}
use Rattle.lookup.specs.Scan.{length_at, entry_of, entry_words}
use Rattle.teardown.specs.declared.Removed.{Removed}

-- the first occupied slot of table b from slot c on, as a link
unfoldable pub next_link : Mem → ℕ → ℕ → ℕ
next_link m b c = link_of (first_occupied (slot_in m b) c (length_at m b - c))

-- the first of n slots of table b from slot k on that is occupied
abbrev pub found_in : Mem → ℕ → ℕ → ℕ → Option ℕ
found_in m b k n = place_of (link_of (first_occupied (slot_in m b) k n))

-- a handle goes as closing does: its slot falls vacant, its count is released
unfoldable pub remove_w : List ℕ → Shape → ℕ → ℕ → List ℕ
remove_w ws sh b k = lower_w (vacate_w ws sh b k) sh (slot_word (load ws sh) b k slot_object)

-- the lifecycle of table b, with a cursor while it is being torn down
unfoldable pub life_w : List ℕ → Shape → ℕ → ℕ → ℕ → List ℕ
life_w ws sh b w c = writes ws sh (at (head b head_lifecycle) w ∷ at (head b head_cursor) c ∷ [])

-- the row in place x is an open reservation or claim of table b
unfoldable pub opens_at : Mem → ℕ → ℕ → Bool
opens_at m b x = pick (eqb (m (row x row_kind)) kind_reservation) (eqb b (m (row x row_table))) (pick (eqb (m (row x row_kind)) kind_claim) (eqb b (m (row x row_table))) false)

-- one of n ranks from i on is
abbrev pub open_from : Mem → ℕ → ℕ → ℕ → Bool
open_from m b i zero = false
open_from m b i (suc n) = pick (opens_at m b (m (index i))) true (open_from m b (suc i) n)

unfoldable pub open_in : Mem → Shape → ℕ → Bool
open_in m sh b = open_from m b 0 (used_of m sh)

-- table b is known and tearing down
unfoldable pub tearing : Mem → Shape → ℕ → Bool
tearing m sh b = pick (ltb b sh.tables) (eqb (m (head b head_lifecycle)) life_tearing_down) false

-- ---- the requests

-- what was removed, in the answer's words: whether a handle was, the cursor as left, the handle's value and its info
abbrev entry_told : ℕ → Option SnapshotEntry → List ℕ
entry_told c None = 0 ∷ c ∷ []
entry_told c (Some x) = 1 ∷ c ∷ entry_words x

abbrev pub removed_list : Removed → List ℕ
removed_list x = entry_told x.cursor x.entry

-- whether a handle was, and its info
abbrev pub closed_list : Option HandleInfo → List ℕ
closed_list None = 0 ∷ []
closed_list (Some x) = 1 ∷ info_list x

-- of an active table: 0 and the cursor 0 at the walk's end; else 1, the cursor as left, the handle's value and its info
unfoldable pub stopped_r : List ℕ → List ℕ → Shape → ℕ → ℕ → ℕ → Both
stopped_r ws os sh base b c =
    pick (eqb (next_link (load ws sh) b c) 0)
    (both ws (answered os base (0 ∷ 0 ∷ 0 ∷ [])))
    (both (remove_w ws sh b (next_link (load ws sh) b c - 1))
    (answered os base (0 ∷ 1 ∷ next_link (load ws sh) b c ∷ entry_words (entry_of (load ws sh) b (next_link (load ws sh) b c - 1)))))

-- "On an inactive table `remove_stopping_owner` and `take_empty_page` answer "none", not a refusal": the cursor is left as given
unfoldable pub stopping_r : List ℕ → List ℕ → Shape → ℕ → ℕ → ℕ → Both
stopping_r ws os sh base b c =
    pick (ltb b sh.tables)
    (pick (eqb (load ws sh (head b head_lifecycle)) life_active) (stopped_r ws os sh base b c) (both ws (answered os base (0 ∷ 0 ∷ c ∷ []))))
    (refuse_r ws os base 18)

-- "Teardown start: 16, 14"
unfoldable pub teardown_start_r : List ℕ → List ℕ → Shape → ℕ → ℕ → Both
teardown_start_r ws os sh base b =
    pick (eqb (table_refusal (load ws sh) sh b) 0)
    (pick (open_in (load ws sh) sh b) (refuse_r ws os base 14) (both (life_w ws sh b life_tearing_down 0) (answered os base (0 ∷ []))))
    (refuse_r ws os base (table_refusal (load ws sh) sh b))

-- of a table that is tearing down: 0 at the walk's end; else 1 and the handle's info, and the cursor goes on behind the slot
unfoldable pub torn_r : List ℕ → List ℕ → Shape → ℕ → ℕ → Both
torn_r ws os sh base b =
    let n : ℕ = next_link (load ws sh) b (load ws sh (head b head_cursor)) in
    pick (eqb n 0)
    (both ws (answered os base (0 ∷ 0 ∷ [])))
    (both (life_w (remove_w ws sh b (n - 1)) sh b life_tearing_down n) (answered os base (0 ∷ 1 ∷ info_list (info_at (load ws sh) (handle_at (load ws sh) b (n - 1))))))

unfoldable pub teardown_step_r : List ℕ → List ℕ → Shape → ℕ → ℕ → Both
teardown_step_r ws os sh base b = pick (tearing (load ws sh) sh b) (torn_r ws os sh base b) (refuse_r ws os base 18)

-- "finish with an occupied slot": 18
unfoldable pub teardown_finish_r : List ℕ → List ℕ → Shape → ℕ → ℕ → Both
teardown_finish_r ws os sh base b =
    pick (tearing (load ws sh) sh b)
    (pick (eqb (next_link (load ws sh) b 0) 0) (both (life_w ws sh b life_retired 0) (answered os base (0 ∷ []))) (refuse_r ws os base 18))
    (refuse_r ws os base 18)
