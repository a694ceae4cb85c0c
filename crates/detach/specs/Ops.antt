-- A page leaves its table: what stores are made, and the words then. Assumes nothing.
use Rattle.std.specs.Prelude.{List, [], ◌∷◌, ℕ, zero, suc, ◌+◌, ◌-◌, ◌*◌, eqb, ltb, Option, Some, None}
use Rattle.words.specs.Pick.{pick}
use Rattle.model.specs.State.{till}
use Rattle.model.specs.Storage.{slots_of}
use Rattle.layout.specs.declared.Shape.{Shape}
use Rattle.layout.specs.Layout.{Mem, head, entry, load, Write, Write.at, writes}
use Rattle.layout.specs.Fields.{head_lifecycle, head_epoch, head_first_free, head_free_slots, head_first_empty, head_first_detached, entry_frame, entry_next, slot_next_free, slot_previous_free}
use Rattle.layout.specs.Values.{life_active}
use Rattle.layout.specs.Sizes.{page_size}
use Rattle.representation.specs.Represents.{entry_at}
use Rattle.answer.specs.Does.{Both, both, answered, refuse_r}
use Rattle.head.specs.Head.{next_epoch}
use Rattle.storage.specs.Sight.{Spot.hd, Spot.pg, Spot.sl, Put.to_head, Put.to_slot}
use Rattle.storage.specs.Ops.{up, done, seen, leave_w}
use Rattle.frames.specs.Ops.{give_frame_w}

-- the head of an order after a slot left it: its next, if it was the first
abbrev pub first_after : ℕ → ℕ → ℕ → ℕ
first_after before next first = pick (eqb before 0) next first

-- word f of the slot of a link; through 0 nothing
unfoldable pub link_w : List ℕ → Shape → ℕ → ℕ → ℕ → ℕ → List ℕ
link_w ws sh b l f x = done ws sh b (to_slot l f x ∷ [])

-- mod.rs `unlink_free_slot`: slot k leaves the free order, wherever it stands; its own words stay. The slot before it and the slot after it are linked
unfoldable pub unlink_w : List ℕ → Shape → ℕ → ℕ → List ℕ
unlink_w ws sh b k =
    done (link_w (link_w ws sh b (seen ws sh b (sl k slot_previous_free)) slot_next_free (seen ws sh b (sl k slot_next_free))) sh b (seen ws sh b (sl k slot_next_free)) slot_previous_free (seen ws sh b (sl k slot_previous_free))) sh b
    (to_head head_first_free (first_after (seen ws sh b (sl k slot_previous_free)) (seen ws sh b (sl k slot_next_free)) (seen ws sh b (hd head_first_free)))
    ∷ to_head head_free_slots (seen ws sh b (hd head_free_slots) - 1)
    ∷ [])

-- n slots from a on, one by one
unfoldable pub unlink_all : List ℕ → Shape → ℕ → ℕ → ℕ → List ℕ
unlink_all ws sh b a zero = ws
unlink_all ws sh b a (suc n) = unlink_w (unlink_all ws sh b a n) sh b (a + n)

-- the slots of page p
unfoldable pub unlink_page_w : List ℕ → Shape → ℕ → ℕ → List ℕ
unlink_page_w ws sh b p = unlink_all ws sh b (p * page_size) (slots_of till p)

-- page p has no frame and goes to the head of the detached pages' order; its high mark stays, and the epoch advances
abbrev pub join_detached_p : Mem → ℕ → ℕ → List Write
join_detached_p m b p =
    at (entry (entry_at m b p) entry_frame) 0
    ∷ at (entry (entry_at m b p) entry_next) (m (head b head_first_detached))
    ∷ at (head b head_first_detached) (up p)
    ∷ at (head b head_epoch) (next_epoch (m (head b head_epoch)))
    ∷ []

unfoldable pub join_detached_w : List ℕ → Shape → ℕ → ℕ → List ℕ
join_detached_w ws sh b p = writes ws sh (join_detached_p (load ws sh) b p)

-- storage.rs `detach_empty`: the slots of page p leave the free order, the page leaves the empty pages' order and is detached, and its frame is free
unfoldable pub detach_w : List ℕ → Shape → ℕ → ℕ → List ℕ
detach_w ws sh b p = give_frame_w (join_detached_w (leave_w (unlink_page_w ws sh b p) sh b p) sh b p) sh (seen ws sh b (pg p entry_frame) - 1)

-- "On an inactive table `remove_stopping_owner` and `take_empty_page` answer none, not a refusal; so do the end of a walk and a table with no empty page":
-- the page that is taken, plus 1; 0 for none
unfoldable pub first_empty : Mem → ℕ → ℕ
first_empty m b = pick (eqb (m (head b head_lifecycle)) life_active) (m (head b head_first_empty)) 0

-- "Unknown table, object or row first"; "take_empty_page: 1 whether a page was taken (0 or 1), 2 its page number"
-- "1 whether there is one, 2 its number"
abbrev pub page_list : Option ℕ → List ℕ
page_list None = 0 ∷ []
page_list (Some p) = 1 ∷ p ∷ []

unfoldable pub take_page_r : List ℕ → List ℕ → Shape → ℕ → ℕ → Both
take_page_r ws os sh base b =
    pick (ltb b sh.tables)
    (pick (eqb (first_empty (load ws sh) b) 0)
    (both ws (answered os base (0 ∷ 0 ∷ [])))
    (both (detach_w ws sh b (first_empty (load ws sh) b - 1)) (answered os base (0 ∷ 1 ∷ (first_empty (load ws sh) b - 1) ∷ []))))
    (refuse_r ws os base 18)
