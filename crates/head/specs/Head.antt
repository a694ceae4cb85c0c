-- A table's head: its words, the steps on it by value, and the words that each step changes. Assumes nothing.
use Rattle.std.specs.Prelude.{List, [], ◌∷◌, ℕ, ◌+◌, ◌-◌, ◌*◌, ◌%◌, ◌^◌, min, eqb}
use Rattle.words.specs.Pick.{pick}
use Rattle.model.specs.State.{till}
use Rattle.model.specs.Storage.{slots_of}
use Rattle.layout.specs.Layout.{Mem, head, Write, Write.at}
use Rattle.layout.specs.Fields.{head_lifecycle, head_cursor, head_epoch, head_pages, head_first_free, head_free_slots, head_first_empty, head_first_detached, head_first_entry}
use Rattle.layout.specs.Values.{life_tearing_down, life_retired}
use Rattle.layout.specs.Sizes.{page_size, slots_max, number32_max}
use Rattle.head.specs.declared.TableHead.{TableHead}

-- the head of table b
unfoldable pub head_at : Mem → ℕ → TableHead
head_at m b = record {
  life = m (head b head_lifecycle);
  cursor = m (head b head_cursor);
  epoch = m (head b head_epoch);
  pages = m (head b head_pages);
  first_free = m (head b head_first_free);
  free = m (head b head_free_slots);
  first_empty = m (head b head_first_empty);
  first_detached = m (head b head_first_detached);
  entry = m (head b head_first_entry);
}

-- ---- the steps

-- another first free slot and count of free slots
abbrev pub with_free : TableHead → ℕ → ℕ → TableHead
with_free h x n = record h { first_free = x; free = n }

-- a slot came to the head of the free order; the largest word stays
abbrev pub freed_by : TableHead → ℕ → TableHead
freed_by h x = with_free h x (min (h.free + 1) 0xffff_ffff_ffff_ffff)

-- a slot left it
abbrev pub taken_by : TableHead → ℕ → TableHead
taken_by h x = with_free h x (h.free - 1)

-- the first of the empty pages' order
abbrev pub empty_by : TableHead → ℕ → TableHead
empty_by h x = record h { first_empty = x }

-- how many pages there are with page p, of n
abbrev pub pages_with : ℕ → ℕ → ℕ
pages_with n p = pick (eqb p n) (min (p + 1) 0xffff_ffff_ffff_ffff) n

-- page p was attached: its slots came to the head of the free order, the last of them first
abbrev pub attached_by : TableHead → ℕ → TableHead
attached_by h p = record h {
  pages = pages_with h.pages p;
  first_free = min p number32_max * page_size + slots_of till p;
  free = min h.free slots_max + slots_of till p;
}

-- the first of the detached pages' order
abbrev pub drawn_by : TableHead → ℕ → TableHead
drawn_by h x = record h { first_detached = x }

-- the epoch
abbrev pub aged_by : TableHead → ℕ → TableHead
aged_by h x = record h { epoch = x }

-- "The epoch wraps from 2^64 - 1 to 0"
abbrev pub next_epoch : ℕ → ℕ
next_epoch e = (e + 1) % 2 ^ 64

-- a page came to the head of the detached pages' order, and the epoch advances
abbrev pub detached_by : TableHead → ℕ → TableHead
detached_by h x = record h { first_detached = x; epoch = next_epoch h.epoch }

-- another lifecycle and teardown cursor
abbrev pub with_life : TableHead → ℕ → ℕ → TableHead
with_life h l x = record h { life = l; cursor = x }

-- teardown stands at a cursor
abbrev pub tearing_by : TableHead → ℕ → TableHead
tearing_by h x = with_life h life_tearing_down x

-- teardown is finished
abbrev pub retired_by : TableHead → ℕ → TableHead
retired_by h x = with_life h life_retired x

-- ---- the words that the steps change

abbrev pub free_p : ℕ → TableHead → List Write
free_p b h = at (head b head_first_free) h.first_free ∷ at (head b head_free_slots) h.free ∷ []

abbrev pub orders_p : ℕ → TableHead → List Write
orders_p b h = at (head b head_first_free) h.first_free ∷ at (head b head_free_slots) h.free ∷ at (head b head_first_empty) h.first_empty ∷ []

-- all orders and the count of pages
abbrev pub pages_p : ℕ → TableHead → List Write
pages_p b h = at (head b head_first_free) h.first_free ∷ at (head b head_free_slots) h.free ∷ at (head b head_pages) h.pages ∷ at (head b head_first_detached) h.first_detached ∷ at (head b head_first_empty) h.first_empty ∷ []

abbrev pub detached_p : ℕ → TableHead → List Write
detached_p b h = at (head b head_first_empty) h.first_empty ∷ at (head b head_first_detached) h.first_detached ∷ at (head b head_epoch) h.epoch ∷ []

abbrev pub epoch_p : ℕ → TableHead → List Write
epoch_p b h = at (head b head_epoch) h.epoch ∷ []

abbrev pub life_p : ℕ → TableHead → List Write
life_p b h = at (head b head_lifecycle) h.life ∷ at (head b head_cursor) h.cursor ∷ []
