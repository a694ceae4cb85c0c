-- The check of a table's orders over a memory: which slots and pages each order is to hold, how many, and the walk along it. Assumes nothing.
use Rattle.std.specs.Prelude.{Bool, true, not, ◌&&◌, List, ℕ, ◌+◌, ◌-◌, eqb, ltb}
use Rattle.words.specs.All.{all}
use Rattle.words.specs.Pick.{pick}
use Rattle.model.specs.Base.{bit, sum}
use Rattle.model.specs.State.{till}
use Rattle.model.specs.Storage.{slots_of}
use Rattle.layout.specs.declared.Shape.{Shape}
use Rattle.layout.specs.Layout.{Mem, head, entry}
use Rattle.layout.specs.Fields.{head_pages, head_first_free, head_free_slots, head_first_empty, head_first_detached, head_first_entry, entry_frame, entry_busy, entry_next, entry_previous, slot_tag, slot_next_free, slot_previous_free}
use Rattle.layout.specs.Values.{tag_vacant}
use Rattle.layout.specs.Sizes.{pages_max}
use Rattle.representation.specs.Represents.{frame_of, slot_word}
use Rattle.storage.specs.Order.{list_from}
use Rattle.orders.specs.Walk.{walk, links_by}

-- ---- what each order is to hold. Pages by their table's count n of pages and number e of its first entry

-- slot k of table b is vacant: it has a frame and the tag of a vacant slot
unfoldable pub vacant_at : Mem → ℕ → ℕ → Bool
vacant_at m b k = not (eqb (frame_of m b k) 0) && eqb (slot_word m b k slot_tag) tag_vacant

-- page p is attached and has no busy slot
unfoldable pub empty_at : Mem → ℕ → ℕ → ℕ → Bool
empty_at m n e p = ltb p n && (not (eqb (m (entry (e + p) entry_frame)) 0) && eqb (m (entry (e + p) entry_busy)) 0)

-- page p is one of the table's and detached
unfoldable pub detached_at : Mem → ℕ → ℕ → ℕ → Bool
detached_at m n e p = ltb p n && eqb (m (entry (e + p) entry_frame)) 0

-- ---- how many

-- the vacant slots of page p: what the stored count of busy ones leaves of an attached page
unfoldable pub vacants_on : Mem → ℕ → ℕ → ℕ
vacants_on m e p = pick (eqb (m (entry (e + p) entry_frame)) 0) 0 (slots_of till p - m (entry (e + p) entry_busy))

-- of the first n pages
unfoldable pub vacants : Mem → ℕ → ℕ → ℕ
vacants m n e = sum n λ p. vacants_on m e p

-- how many of the first n numbers pass
unfoldable pub tally : (ℕ → Bool) → ℕ → ℕ
tally test n = sum n λ p. bit (test p)

-- ---- the walks

-- what stands after a slot or a page in its order, and before it
abbrev pub slot_next : Mem → ℕ → ℕ → ℕ
slot_next m b k = slot_word m b k slot_next_free

abbrev pub slot_prev : Mem → ℕ → ℕ → ℕ
slot_prev m b k = slot_word m b k slot_previous_free

abbrev pub page_next : Mem → ℕ → ℕ → ℕ
page_next m e p = m (entry (e + p) entry_next)

abbrev pub page_prev : Mem → ℕ → ℕ → ℕ
page_prev m e p = m (entry (e + p) entry_previous)

-- a link of the free order, of the empty pages' and of the detached pages'; this one has no links back
unfoldable pub free_link : Mem → ℕ → ℕ → ℕ → Bool
free_link m b h p = links_by (vacant_at m b) (λ k q. eqb (slot_prev m b k) q) h p

unfoldable pub empty_link : Mem → ℕ → ℕ → ℕ → ℕ → Bool
empty_link m n e h p = links_by (empty_at m n e) (λ x q. eqb (page_prev m e x) q) h p

unfoldable pub detached_link : Mem → ℕ → ℕ → ℕ → Bool
detached_link m n e h = links_by (detached_at m n e) (λ x q. true) h 0

-- ---- the check, for the pages that n and e name, and for those that the head names

-- "the free order holds every vacant slot once and nothing else", and their stored count is right
unfoldable pub free_by : Mem → ℕ → ℕ → ℕ → Bool
free_by m b n e = eqb (vacants m n e) (m (head b head_free_slots)) && walk (slot_next m b) (free_link m b) (m (head b head_free_slots)) (m (head b head_first_free)) 0

-- "and the empty and detached pages' orders every such page once and nothing else"
unfoldable pub empty_by : Mem → ℕ → ℕ → ℕ → Bool
empty_by m b n e = walk (page_next m e) (empty_link m n e) (tally (empty_at m n e) n) (m (head b head_first_empty)) 0

unfoldable pub detached_by : Mem → ℕ → ℕ → ℕ → Bool
detached_by m b n e = walk (page_next m e) (λ h p. detached_link m n e h) (tally (detached_at m n e) n) (m (head b head_first_detached)) 0

abbrev pub free_b : Mem → ℕ → Bool
free_b m b = free_by m b (m (head b head_pages)) (m (head b head_first_entry))

abbrev pub empty_b : Mem → ℕ → Bool
empty_b m b = empty_by m b (m (head b head_pages)) (m (head b head_first_entry))

abbrev pub detached_b : Mem → ℕ → Bool
detached_b m b = detached_by m b (m (head b head_pages)) (m (head b head_first_entry))

-- a table has at most 262,144 pages: so the counts stay small
abbrev pub size_b : Mem → ℕ → Bool
size_b m b = not (ltb pages_max (m (head b head_pages)))

unfoldable pub table_b : Mem → ℕ → Bool
table_b m b = size_b m b && (free_b m b && (empty_b m b && detached_b m b))

unfoldable pub orders_b : Mem → Shape → Bool
orders_b m sh = all sh.tables (table_b m)

-- ---- the orders that the links give

abbrev pub free_list : Mem → ℕ → List ℕ
free_list m b = list_from (slot_next m b) (m (head b head_free_slots)) (m (head b head_first_free))

abbrev pub empty_list : Mem → ℕ → List ℕ
empty_list m b = list_from (page_next m (m (head b head_first_entry))) (tally (empty_at m (m (head b head_pages)) (m (head b head_first_entry))) (m (head b head_pages))) (m (head b head_first_empty))

abbrev pub detached_list : Mem → ℕ → List ℕ
detached_list m b = list_from (page_next m (m (head b head_first_entry))) (tally (detached_at m (m (head b head_pages)) (m (head b head_first_entry))) (m (head b head_pages))) (m (head b head_first_detached))
