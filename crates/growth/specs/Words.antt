-- Growth over words: what each operation stores. Assumes nothing.
use Rattle.std.specs.Prelude.{Bool, true, false, ◌&&◌, List, [], ◌∷◌, ℕ, zero, suc, ◌+◌, ◌-◌, ◌*◌, ◌%◌, ◌^◌, min, eqb, ltb}
use Rattle.words.specs.Pick.{pick}
use Rattle.codec.specs.Codec.{next_generation}
use Rattle.model.specs.State.{till}
use Rattle.model.specs.Storage.{slots_of}
use Rattle.layout.specs.declared.Shape.{Shape}
use Rattle.layout.specs.Layout.{Mem, head, entry, cell, item, load, save, Write, Write.at, writes}
use Rattle.layout.specs.Turns.{turns}
use Rattle.layout.specs.Fields.{head_page_limit, head_epoch, head_pages, head_first_free, head_free_slots, head_first_detached, head_first_entry, entry_frame, entry_high, entry_busy, entry_next, slot_tag, slot_generation, slot_next_free, slot_previous_free, item_page, item_frame}
use Rattle.layout.specs.Values.{tag_vacant}
use Rattle.layout.specs.Sizes.{page_size, last_page, slots_max, batch_max, number32_max}
use Rattle.representation.specs.Represents.{entry_at}
use Rattle.storage.specs.Sight.{link_frame, slot_p, writes_all}
use Rattle.storage.specs.Ops.{up, join_w}
use Rattle.frames.specs.Ops.{take_frame_w, lowest_at}

-- ---- a page in a frame

-- "A new page is published by rising slot": so the last slot of the page is the first of the free order, each is followed by the one below
-- it, and the first by the order that there was, whose head is the link h. The links of slot j of page p, which has n slots
abbrev pub next_word : ℕ → ℕ → ℕ → ℕ
next_word p h j = pick (eqb j 0) h (p * page_size + j)

abbrev pub prev_word : ℕ → ℕ → ℕ → ℕ
prev_word p n j = pick (eqb (j + 1) n) 0 (p * page_size + j + 2)

-- slot j of frame f is vacant, with the generation g and its links
abbrev pub cells_p : ℕ → ℕ → ℕ → ℕ → ℕ → List Write
cells_p f j g x y = at (cell f j slot_tag) tag_vacant ∷ at (cell f j slot_generation) g ∷ at (cell f j slot_next_free) x ∷ at (cell f j slot_previous_free) y ∷ []

-- so of slot j of page p
abbrev pub slots_p : ℕ → ℕ → ℕ → ℕ → ℕ → List Write
slots_p f p g h j = cells_p f j g (next_word p h j) (prev_word p (slots_of till p) j)

-- frame f has the slots of page p
unfoldable pub built_w : List ℕ → Shape → ℕ → ℕ → ℕ → ℕ → List ℕ
built_w ws sh f p g h = turns ws sh (slots_p f p g h) (slots_of till p)

-- the slots of page p come to the head of table b's free order, whose head was the link h, in the frame of the link fr, and which had c slots
abbrev pub order_p : ℕ → ℕ → ℕ → ℕ → ℕ → List (List Write)
order_p b p h fr c = slot_p fr h slot_previous_free (p * page_size + 1) ∷ (at (head b head_first_free) (p * page_size + slots_of till p) ∷ []) ∷ (at (head b head_free_slots) (min c slots_max + slots_of till p) ∷ []) ∷ []

-- page p of the table whose first entry is e is attached in frame f with the generation g; n pages are attached or detached, and d is the link of the first detached one
abbrev pub entry_p : ℕ → ℕ → ℕ → ℕ → ℕ → ℕ → ℕ → List Write
entry_p b e p f g n d =
    at (head b head_pages) n ∷ at (head b head_first_detached) d ∷ at (entry (e + p) entry_frame) (up f) ∷ at (entry (e + p) entry_high) g ∷ at (entry (e + p) entry_busy) 0 ∷ []

-- the generation of page p: "`fresh_generation` at the limit gives 1 and lowers the page's high mark to 1". A new page has had none
unfoldable pub fresh : Mem → ℕ → ℕ → ℕ
fresh m b p = pick (ltb p (m (head b head_pages))) (next_generation (m (entry (entry_at m b p) entry_high))) 1

-- how many pages there are then
abbrev pub size_with : Mem → ℕ → ℕ → ℕ
size_with m b p = pick (eqb p (m (head b head_pages))) (up p) (m (head b head_pages))

-- the link of the first detached page then
abbrev pub detached_with : Mem → ℕ → ℕ → ℕ
detached_with m b p = pick (eqb (m (head b head_first_detached)) (up p)) (m (entry (entry_at m b p) entry_next)) (m (head b head_first_detached))

-- page p of table b stands in frame f, but for the frame's owner: its slots, the free order, its entry, the empty order
unfoldable pub joined_w : List ℕ → Shape → ℕ → ℕ → ℕ → List ℕ
joined_w ws sh b p f =
    join_w
    (writes
    (writes_all (built_w ws sh f p (fresh (load ws sh) b p) (load ws sh (head b head_first_free))) sh
    (order_p b p (load ws sh (head b head_first_free)) (link_frame (load ws sh) b (load ws sh (head b head_first_free))) (load ws sh (head b head_free_slots))))
    sh (entry_p b (load ws sh (head b head_first_entry)) p f (fresh (load ws sh) b p) (size_with (load ws sh) b p) (detached_with (load ws sh) b p)))
    sh b p

-- ATTACH: and page p's entry has the frame
unfoldable pub attach_w : List ℕ → Shape → ℕ → ℕ → ℕ → List ℕ
attach_w ws sh b p f = take_frame_w (joined_w ws sh b p f) sh f (up (min (load ws sh (head b head_first_entry)) number32_max + p))

-- ---- the plan of pages

-- the page that a table gets next: the first detached one, whose link is d, or else a new one, the n-th
abbrev pub page_at : ℕ → ℕ → ℕ
page_at d n = pick (eqb d 0) n (d - 1)

-- the link of the first detached page after it
abbrev pub link_after : Mem → ℕ → ℕ → ℕ
link_after m e d = pick (eqb d 0) 0 (m (entry (e + (d - 1)) entry_next))

-- how many pages there are after it
abbrev pub size_after : ℕ → ℕ → ℕ
size_after d n = pick (eqb d 0) (up n) n

-- a new page would pass the limit
abbrev pub is_full : ℕ → ℕ → ℕ → Bool
is_full d n limit = eqb d 0 && eqb n limit

-- more pages than a batch can need: no plan
abbrev pub no_plan : ℕ
no_plan = batch_max + 1

-- storage.rs `snapshot`: how many pages make room for k more slots, c of them counted; no_plan if a new one would pass the limit
unfoldable pub count_from : Mem → ℕ → ℕ → ℕ → ℕ → ℕ → ℕ → ℕ → ℕ
count_from m e limit zero k d n c = c
count_from m e limit (suc fuel) k d n c =
    pick (eqb k 0) c (pick (is_full d n limit) no_plan (count_from m e limit fuel (k - slots_of till (page_at d n)) (link_after m e d) (size_after d n) (suc c)))

-- how many pages table b needs for a batch of k slots
unfoldable pub pages_needed : Mem → ℕ → ℕ → ℕ
pages_needed m b k = count_from m (m (head b head_first_entry)) (m (head b head_page_limit)) batch_max (k - m (head b head_free_slots)) (m (head b head_first_detached)) (m (head b head_pages)) 0

-- the next k pages, of the table whose first entry is e, from the link d of the first detached one and n pages on
abbrev pub next_pages : Mem → ℕ → ℕ → ℕ → ℕ → List ℕ
next_pages m e d n zero = []
next_pages m e d n (suc k) = page_at d n ∷ next_pages m e (link_after m e d) (size_after d n) k

-- into the items from j on of the row in place x
unfoldable pub pages_w : List ℕ → Shape → ℕ → ℕ → ℕ → ℕ → ℕ → ℕ → List ℕ
pages_w ws sh e x j d n zero = ws
pages_w ws sh e x j d n (suc k) = pages_w (save ws sh (item x j item_page) (page_at d n)) sh e x (suc j) (link_after (load ws sh) e d) (size_after d n) k

-- so of table b
unfoldable pub list_pages_w : List ℕ → Shape → ℕ → ℕ → ℕ → List ℕ
list_pages_w ws sh b x k = let m : Mem = load ws sh in pages_w ws sh (m (head b head_first_entry)) x 0 (m (head b head_first_detached)) (m (head b head_pages)) k

-- whether they are those that the items from j on name
unfoldable pub same_pages : Mem → ℕ → ℕ → ℕ → ℕ → ℕ → ℕ → Bool
same_pages m e x j d n zero = true
same_pages m e x j d n (suc k) = pick (eqb (m (item x j item_page)) (page_at d n)) (same_pages m e x (suc j) (link_after m e d) (size_after d n) k) false

unfoldable pub pages_same : Mem → ℕ → ℕ → ℕ → Bool
pages_same m b x k = same_pages m (m (head b head_first_entry)) x 0 (m (head b head_first_detached)) (m (head b head_pages)) k

-- ---- growth

-- n turns of a step, from number j on
unfoldable pub each_w : (ℕ → List ℕ → List ℕ) → ℕ → ℕ → List ℕ → List ℕ
each_w step j zero ws = ws
each_w step j (suc n) ws = each_w step (suc j) n (step j ws)

-- the next page, in the lowest free frame
unfoldable pub attach_next_w : List ℕ → Shape → ℕ → List ℕ
attach_next_w ws sh b = attach_w ws sh b (min (page_at (load ws sh (head b head_first_detached)) (load ws sh (head b head_pages))) last_page) (lowest_at (load ws sh))

-- so n pages
unfoldable pub attach_all_w : List ℕ → Shape → ℕ → ℕ → List ℕ
attach_all_w ws sh b zero = ws
attach_all_w ws sh b (suc n) = attach_next_w (attach_all_w ws sh b n) sh b

-- the page that item j of the row in place x names, in the frame that it names
unfoldable pub attach_item_w : Shape → ℕ → ℕ → ℕ → List ℕ → List ℕ
attach_item_w sh b x j ws = attach_w ws sh b (min (load ws sh (item x j item_page)) last_page) (load ws sh (item x j item_frame))

-- so of n items from j on
abbrev pub attach_in_w : Shape → ℕ → ℕ → ℕ → ℕ → List ℕ → List ℕ
attach_in_w sh b x = each_w (attach_item_w sh b x)

-- "The epoch wraps from 2^64 - 1 to 0"
unfoldable pub advance_w : List ℕ → Shape → ℕ → List ℕ
advance_w ws sh b = save ws sh (head b head_epoch) ((load ws sh (head b head_epoch) + 1) % 2 ^ 64)

-- once for n pages, and not for none
unfoldable pub aged_w : List ℕ → Shape → ℕ → ℕ → List ℕ
aged_w ws sh b n = pick (eqb n 0) ws (advance_w ws sh b)

-- GROW by n pages, in the lowest free frames
unfoldable pub grow_w : List ℕ → Shape → ℕ → ℕ → List ℕ
grow_w ws sh b n = aged_w (attach_all_w ws sh b n) sh b n

-- and by those of n items of the row in place x, in the frames of the items
unfoldable pub grow_in_w : List ℕ → Shape → ℕ → ℕ → ℕ → List ℕ
grow_in_w ws sh b x n = aged_w (attach_in_w sh b x 0 n ws) sh b n
