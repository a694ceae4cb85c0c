-- What the functions of the request reserve do to the words. Assumes nothing.
use Rattle.std.specs.Prelude.{List, [], ◌∷◌, ℕ, zero, suc, ◌-◌, min, eqb, ltb, Result, Ok, Err}
use Rattle.words.specs.Pick.{pick}
use Rattle.layout.specs.declared.Shape.{Shape}
use Rattle.codec.specs.Codec.{encode}
use Rattle.model.specs.State.{last_id}
use Rattle.layout.specs.Layout.{Mem, root, head, item, load, save}
use Rattle.layout.specs.Fields.{root_next_id, root_used_rows, root_free_frames, head_mask, head_first_free, slot_generation, slot_next_free, item_slot}
use Rattle.layout.specs.Values.{kind_reservation}
use Rattle.layout.specs.Sizes.{batch_max}
use Rattle.representation.specs.Represents.{slot_word}
use Rattle.storage.specs.Sight.{Spot.hd}
use Rattle.storage.specs.Ops.{seen, take_w}
use Rattle.book.specs.Ops.{spare, open_w}
use Rattle.growth.specs.Words.{pages_needed, grow_w, no_plan}
use Rattle.format.specs.declared.refusal.Refusal.{Refusal}
use Rattle.format.specs.Refusals.{number}
use Rattle.lookup.specs.View.{table_refusal}
use Rattle.answer.specs.Does.{Both, both, answered, refuse_r}

-- "Reserve: 16, 17, 13": the number of the refusal, 0 for none
unfoldable pub batch_refusal : Mem → Shape → ℕ → ℕ → ℕ
batch_refusal m sh b n = pick (eqb (table_refusal m sh b) 0) (pick (eqb n 0) 17 (pick (ltb batch_max n) 13 0)) (table_refusal m sh b)

-- "15, 1, 12" for a batch that needs p pages: no_plan is more than any plan has
unfoldable pub room_refusal : Mem → Shape → ℕ → ℕ
room_refusal m sh p =
    pick (eqb p no_plan) 15
    (pick (ltb (m (root root_free_frames)) p) 1
    (pick (ltb (m (root root_used_rows)) sh.rows) (pick (eqb (m (root root_next_id)) last_id) 12 0) 1))

-- n slots of the free order of table b, from the link l on, into the items from j on of the row in place x
unfoldable pub listed_w : List ℕ → Shape → ℕ → ℕ → ℕ → ℕ → ℕ → List ℕ
listed_w ws sh b x j l zero = ws
listed_w ws sh b x j l (suc n) = listed_w (save ws sh (item x j item_slot) (l - 1)) sh b x (suc j) (slot_word (load ws sh) b (l - 1) slot_next_free) n

-- the first n slots of the free order into the items of the row to come
unfoldable pub list_w : List ℕ → Shape → ℕ → ℕ → List ℕ
list_w ws sh b n = listed_w ws sh b (spare (load ws sh)) 0 (load ws sh (head b head_first_free)) n

-- n times the head of the free order is taken, for the positions from j on of the row in place x
unfoldable pub taken_w : List ℕ → Shape → ℕ → ℕ → ℕ → ℕ → List ℕ
taken_w ws sh b x j zero = ws
taken_w ws sh b x j (suc n) = taken_w (take_w ws sh b (seen ws sh b (hd head_first_free) - 1) x j) sh b x (suc j) n

-- the row opens, and the slots that its items name are taken
unfoldable pub batch_w : List ℕ → Shape → ℕ → ℕ → List ℕ
batch_w ws sh b n = taken_w (open_w ws sh kind_reservation b n) sh b (spare (load ws sh)) 0 n

-- the values of the slots that n items from j on name
abbrev pub values_at : Mem → ℕ → ℕ → ℕ → ℕ → List ℕ
values_at m b x j zero = []
values_at m b x j (suc n) = encode (m (head b head_mask)) (m (item x j item_slot)) (slot_word m b (m (item x j item_slot)) slot_generation) ∷ values_at m b x (suc j) n

-- "reserve: 1 id, 2 count, 3 on the values": the answer's words, at most 64 values
unfoldable pub batch_words : Mem → ℕ → ℕ → List ℕ
batch_words m b n = 0 ∷ m (root root_next_id) ∷ n ∷ values_at m b (spare m) 0 (min n batch_max)

-- a batch of the first n slots of the free order of table b
unfoldable pub slots_r : List ℕ → List ℕ → Shape → ℕ → ℕ → ℕ → Both
slots_r ws os sh base b n = both (batch_w (list_w ws sh b n) sh b n) (answered os base (batch_words (load (list_w ws sh b n) sh) b n))

-- so after p pages
unfoldable pub open_r : List ℕ → List ℕ → Shape → ℕ → ℕ → ℕ → ℕ → Both
open_r ws os sh base b n p = slots_r (grow_w ws sh b p) os sh base b n

-- "Reserve: 16, 17, 13, 15, 1, 12": the checks of n slots in table b; x is what is left of a batch that needs p pages
unfoldable pub room_r : List ℕ → List ℕ → Shape → ℕ → ℕ → ℕ → (ℕ → Both) → Both
room_r ws os sh base b n x =
    let m : Mem = load ws sh in
    pick (eqb (batch_refusal m sh b n) 0)
    (pick (eqb (room_refusal m sh (pages_needed m b n)) 0)
    (x (pages_needed m b n))
    (refuse_r ws os base (room_refusal m sh (pages_needed m b n))))
    (refuse_r ws os base (batch_refusal m sh b n))

-- the same by the answer of these checks: the pages, or a refusal
abbrev pub checked_r : List ℕ → List ℕ → ℕ → Result ℕ Refusal → (ℕ → Both) → Both
checked_r ws os base (Ok p) x = x p
checked_r ws os base (Err e) x = refuse_r ws os base (number e)

unfoldable pub reserve_r : List ℕ → List ℕ → Shape → ℕ → ℕ → ℕ → Both
reserve_r ws os sh base b n = room_r ws os sh base b n (open_r ws os sh base b n)
