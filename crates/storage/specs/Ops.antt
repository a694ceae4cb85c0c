-- The operations on one table: what stores each makes, by what the table shows, and the words that it leaves. Assumes nothing.
use Rattle.std.specs.Prelude.{List, [], ◌∷◌, ℕ, suc, ◌+◌, ◌-◌, ◌/◌, min, max, eqb}
use Rattle.words.specs.Pick.{pick}
use Rattle.codec.specs.Codec.{next_generation}
use Rattle.layout.specs.declared.Shape.{Shape}
use Rattle.layout.specs.Layout.{load}
use Rattle.layout.specs.Fields.{head_first_free, head_free_slots, head_first_empty, entry_high, entry_busy, entry_next, entry_previous, slot_tag, slot_generation, slot_next_free, slot_previous_free, slot_place, slot_position, slot_object, slot_rights, slot_flags}
use Rattle.layout.specs.Values.{tag_vacant, tag_reserved, tag_transfer_reserved, tag_occupied}
use Rattle.layout.specs.Sizes.{page_size}
use Rattle.storage.specs.Sight.{Spot, Spot.hd, Spot.pg, Spot.sl, look, Put, Put.to_head, Put.to_page, Put.to_slot, reals, writes_all}

-- one more; the largest word stays
abbrev pub up : ℕ → ℕ
up x = min (x + 1) 0xffff_ffff_ffff_ffff

-- ---- plans

-- mod.rs `publish_vacant_slot`: slot k is vacant, with the generation g, at the head of the free order
unfoldable pub publish_p : (Spot → ℕ) → ℕ → ℕ → List Put
publish_p v k g =
    to_slot (v (hd head_first_free)) slot_previous_free (up k)
    ∷ to_slot (suc k) slot_tag tag_vacant
    ∷ to_slot (suc k) slot_generation g
    ∷ to_slot (suc k) slot_next_free (v (hd head_first_free))
    ∷ to_slot (suc k) slot_previous_free 0
    ∷ to_head head_first_free (up k)
    ∷ to_head head_free_slots (up (v (hd head_free_slots)))
    ∷ []

-- page p has n busy slots and has had the generation g
unfoldable pub mark_p : (Spot → ℕ) → ℕ → ℕ → ℕ → List Put
mark_p v p g n = to_page (suc p) entry_high (max (v (pg p entry_high)) g) ∷ to_page (suc p) entry_busy n ∷ []

-- page p comes to the head of the empty pages' order
unfoldable pub join_p : (Spot → ℕ) → ℕ → List Put
join_p v p = to_page (v (hd head_first_empty)) entry_previous (up p) ∷ to_page (suc p) entry_next (v (hd head_first_empty)) ∷ to_page (suc p) entry_previous 0 ∷ to_head head_first_empty (up p) ∷ []

-- page p leaves it
unfoldable pub leave_p : (Spot → ℕ) → ℕ → List Put
leave_p v p = to_page (v (pg p entry_previous)) entry_next (v (pg p entry_next)) ∷ to_page (v (pg p entry_next)) entry_previous (v (pg p entry_previous)) ∷ to_head head_first_empty (pick (eqb (v (pg p entry_previous)) 0) (v (pg p entry_next)) (v (hd head_first_empty))) ∷ []

-- mod.rs `reserve_free_slot`: slot k, the head of the free order, leaves it and is Reserved by position j of the row in place r
unfoldable pub reserve_p : (Spot → ℕ) → ℕ → ℕ → ℕ → List Put
reserve_p v k r j =
    to_slot (v (sl k slot_next_free)) slot_previous_free 0
    ∷ to_head head_first_free (v (sl k slot_next_free))
    ∷ to_head head_free_slots (v (hd head_free_slots) - 1)
    ∷ to_slot (suc k) slot_tag tag_reserved
    ∷ to_slot (suc k) slot_place r
    ∷ to_slot (suc k) slot_position j
    ∷ []

-- a busy slot is TransferReserved by position j of the row in place r
unfoldable pub move_p : ℕ → ℕ → ℕ → List Put
move_p k r j = to_slot (suc k) slot_tag tag_transfer_reserved ∷ to_slot (suc k) slot_place r ∷ to_slot (suc k) slot_position j ∷ []

-- a busy slot is occupied by a handle
unfoldable pub occupy_p : ℕ → ℕ → ℕ → ℕ → List Put
occupy_p k o r f = to_slot (suc k) slot_tag tag_occupied ∷ to_slot (suc k) slot_object o ∷ to_slot (suc k) slot_rights r ∷ to_slot (suc k) slot_flags f ∷ []

-- ---- words

-- the stores of a plan into table b
abbrev pub done : List ℕ → Shape → ℕ → List Put → List ℕ
done ws sh b xs = writes_all ws sh (reals (load ws sh) b xs)

abbrev pub seen : List ℕ → Shape → ℕ → Spot → ℕ
seen ws sh b = look (load ws sh) b

unfoldable pub publish_w : List ℕ → Shape → ℕ → ℕ → ℕ → List ℕ
publish_w ws sh b k g = done ws sh b (publish_p (seen ws sh b) k g)

unfoldable pub mark_w : List ℕ → Shape → ℕ → ℕ → ℕ → ℕ → List ℕ
mark_w ws sh b p g n = done ws sh b (mark_p (seen ws sh b) p g n)

unfoldable pub join_w : List ℕ → Shape → ℕ → ℕ → List ℕ
join_w ws sh b p = done ws sh b (join_p (seen ws sh b) p)

unfoldable pub leave_w : List ℕ → Shape → ℕ → ℕ → List ℕ
leave_w ws sh b p = done ws sh b (leave_p (seen ws sh b) p)

unfoldable pub reserve_w : List ℕ → Shape → ℕ → ℕ → ℕ → ℕ → List ℕ
reserve_w ws sh b k r j = done ws sh b (reserve_p (seen ws sh b) k r j)

unfoldable pub move_w : List ℕ → Shape → ℕ → ℕ → ℕ → ℕ → List ℕ
move_w ws sh b k r j = done ws sh b (move_p k r j)

unfoldable pub occupy_w : List ℕ → Shape → ℕ → ℕ → ℕ → ℕ → ℕ → List ℕ
occupy_w ws sh b k o r f = done ws sh b (occupy_p k o r f)

-- a busy slot of page p fell vacant with the generation g: the count goes down, and a page with none is empty
unfoldable pub lower_w : List ℕ → Shape → ℕ → ℕ → ℕ → List ℕ
lower_w ws sh b p g =
    pick (eqb (seen ws sh b (pg p entry_busy) - 1) 0)
    (join_w (mark_w ws sh b p g (seen ws sh b (pg p entry_busy) - 1)) sh b p)
    (mark_w ws sh b p g (seen ws sh b (pg p entry_busy) - 1))

-- a slot of page p with the generation g got busy: the count goes up, and a page that had none is not empty any more
unfoldable pub raise_w : List ℕ → Shape → ℕ → ℕ → ℕ → List ℕ
raise_w ws sh b p g =
    pick (eqb (seen ws sh b (pg p entry_busy)) 0)
    (leave_w (mark_w ws sh b p g (up (seen ws sh b (pg p entry_busy)))) sh b p)
    (mark_w ws sh b p g (up (seen ws sh b (pg p entry_busy))))

-- slot k falls vacant
unfoldable pub vacate_w : List ℕ → Shape → ℕ → ℕ → List ℕ
vacate_w ws sh b k =
    lower_w (publish_w ws sh b k (next_generation (seen ws sh b (sl k slot_generation)))) sh b (k / page_size) (next_generation (seen ws sh b (sl k slot_generation)))

-- the head of the free order, slot k, is taken
unfoldable pub take_w : List ℕ → Shape → ℕ → ℕ → ℕ → ℕ → List ℕ
take_w ws sh b k r j = raise_w (reserve_w ws sh b k r j) sh b (k / page_size) (seen ws sh b (sl k slot_generation))
