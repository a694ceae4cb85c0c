-- One table's slots, pages and orders, after storage.rs and the free order of mod.rs.
use Rattle.std.specs.Prelude.{Bool, true, false, not, ◌&&◌, ◌||◌, List, [], ◌∷◌, ◌++◌, ℕ, zero, suc, ◌+◌, ◌-◌, ◌*◌, ◌/◌, ◌%◌, ◌^◌, min, max, length, take, drop, eqb, ltb}
use Rattle.std.proofs.Math.Option.{Option, none, some}
use Rattle.codec.specs.Codec.{next_generation}
use Rattle.model.specs.Base.{pick, put, range, push_all, without, drop_if, also, same_list}
use Rattle.model.specs.State.{Sizes, Slot, Slot.absent, Slot.vacant, Page, Table, StorageSnapshot, generation, is_busy, is_occupied, max_slots, max_batch}

-- tables with one part changed
abbrev pub with_free : Table → List ℕ → Table
with_free t f = record { limit = t.limit; mask = t.mask; life = t.life; epoch = t.epoch; size = t.size; pages = t.pages; slots = t.slots; free = f; empty = t.empty; detached = t.detached }

abbrev pub with_epoch : Table → ℕ → Table
with_epoch t e = record { limit = t.limit; mask = t.mask; life = t.life; epoch = e; size = t.size; pages = t.pages; slots = t.slots; free = t.free; empty = t.empty; detached = t.detached }

-- "The epoch wraps from 2^64 - 1 to 0"
abbrev pub next_epoch : ℕ → ℕ
next_epoch e = (e + 1) % 2 ^ 64

abbrev pub advance : Table → Table
advance t = with_epoch t (next_epoch t.epoch)

-- a page's mark is not lower than a generation that it has had
abbrev pub raised : Page → ℕ → Page
raised p g = record { frame = p.frame; high = max p.high g }

-- how many of n slots from k on are busy
abbrev pub busy_in : (ℕ → Slot) → ℕ → ℕ → ℕ
busy_in f k zero = 0
busy_in f k (suc n) = pick (is_busy (f k)) (suc (busy_in f (suc k) n)) (busy_in f (suc k) n)

-- a table's snapshot with the pages found; none if none were
abbrev pub snapshot_with : Table → Option (List ℕ) → Option StorageSnapshot
snapshot_with t none = none
snapshot_with t (some ps) = some (record { epoch = t.epoch; free_slots = length t.free; pages = ps })

-- whether a snapshot, if there is one, is the one kept
abbrev pub still_is : Option StorageSnapshot → StorageSnapshot → Bool
still_is none w = false
still_is (some v) w = eqb v.epoch w.epoch && (eqb v.free_slots w.free_slots && same_list v.pages w.pages)

module _ (z : Sizes) where
  abbrev pub page_of : ℕ → ℕ
  page_of k = k / z.page_slots

  -- "Page 262,143 has 63 slots": the last page of the largest table is one short
  abbrev pub slots_of : ℕ → ℕ
  slots_of p = min z.page_slots (max_slots - p * z.page_slots)

  -- the slots of a page, rising
  abbrev pub page_range : ℕ → List ℕ
  page_range p = range (p * z.page_slots) (slots_of p)

  -- whether a slot stands on a page
  abbrev pub on_page : ℕ → ℕ → Bool
  on_page p k = eqb (page_of k) p && ltb k max_slots

  -- the table's length: "Detached pages still count in the scan's length"
  abbrev pub length_of : Table → ℕ
  length_of t = min (t.size * z.page_slots) max_slots

  abbrev pub busy_of : (ℕ → Slot) → ℕ → ℕ
  busy_of f p = busy_in f (p * z.page_slots) (slots_of p)

  -- the empty pages' order after a slot of page p was busy or not (`was`) and is or is not now (`is`): a page whose last busy
  -- slot goes joins at the head, a page that gets a busy slot leaves
  abbrev pub empty_after : Bool → Bool → ℕ → (ℕ → Slot) → List ℕ → List ℕ
  empty_after false false p f e = e
  empty_after false true p f e = without p e
  empty_after true false p f e = pick (eqb (busy_of f p) 0) (p ∷ e) e
  empty_after true true p f e = e

  -- storage.rs `replace`: new contents for a slot
  unfoldable pub place : Table → ℕ → Slot → Table
  place t k x = let f : ℕ → Slot = put t.slots k x in record {
    limit = t.limit;
    mask = t.mask;
    life = t.life;
    epoch = t.epoch;
    size = t.size;
    pages = put t.pages (page_of k) (raised (t.pages (page_of k)) (generation x));
    slots = f;
    free = t.free;
    empty = empty_after (is_busy (t.slots k)) (is_busy x) (page_of k) f t.empty;
    detached = t.detached;
  }

  -- contents that keep the slot's generation
  abbrev pub keep : (ℕ → Slot) → Table → ℕ → Table
  keep f t k = place t k (f (generation (t.slots k)))

  abbrev pub keep_all : (ℕ → Slot) → List ℕ → Table → Table
  keep_all f [] t = t
  keep_all f (k ∷ ks) t = keep_all f ks (keep f t k)

  -- a slot falls vacant: its generation advances and it goes to the head of the free order
  unfoldable pub vacate : Table → ℕ → Table
  vacate t k = let u : Table = place t k (vacant (next_generation (generation (t.slots k)))) in with_free u (k ∷ u.free)

  -- "Closing, aborting, trimming and committing put slots at the head of the free order, one by one in list order"
  abbrev pub vacate_all : List ℕ → Table → Table
  vacate_all [] t = t
  vacate_all (k ∷ ks) t = vacate_all ks (vacate t k)

  -- the first n of the free order leave it, each marked
  unfoldable pub take_free : ℕ → (ℕ → Slot) → Table → Table
  take_free n f t = keep_all f (take n t.free) (with_free t (drop n t.free))

  -- storage.rs `snapshot`: the pages that make room for `needed` more slots, detached ones first, then new ones; none if a
  -- new one would pass the limit. `fuel` is a batch's most slots: each page brings at least one, so that it is enough
  abbrev pub pages_from : ℕ → ℕ → List ℕ → ℕ → ℕ → Option (List ℕ)
  pages_from zero zero ds n limit = some []
  pages_from zero (suc m) ds n limit = none
  pages_from (suc fuel) zero ds n limit = some []
  pages_from (suc fuel) (suc m) [] n limit = pick (eqb n limit) none (also n (pages_from fuel (suc m - slots_of n) [] (suc n) limit))
  pages_from (suc fuel) (suc m) (p ∷ ds) n limit = also p (pages_from fuel (suc m - slots_of p) ds n limit)

  unfoldable pub pages_for : Table → ℕ → Option (List ℕ)
  pages_for t n = pages_from max_batch (n - length t.free) t.detached t.size t.limit

  -- mod.rs `reservation_storage_snapshot_for`, of an active table: "a snapshot looks at the table alone, never at free frames, rows or ids"
  abbrev pub snapshot_for : Table → ℕ → Option StorageSnapshot
  snapshot_for t n = snapshot_with t (pages_for t n)

  -- a plan of n slots: "It is stale exactly when a snapshot for its count taken now would differ or be refused"
  abbrev pub is_stale : Table → ℕ → StorageSnapshot → Bool
  is_stale t n w = not (still_is (snapshot_for t n) w)

  -- a page is attached in a frame. "`fresh_generation` at the limit gives 1 and lowers the page's high mark to 1"; "A new page is
  -- published by rising slot"
  unfoldable pub attach : Table → ℕ → ℕ → Table
  attach t p f = let g : ℕ = next_generation (t.pages p).high in record {
    limit = t.limit;
    mask = t.mask;
    life = t.life;
    epoch = t.epoch;
    size = pick (eqb p t.size) (suc t.size) t.size;
    pages = put t.pages p (record { frame = some f; high = g });
    slots = λ k. pick (on_page p k) (vacant g) (t.slots k);
    free = push_all (page_range p) t.free;
    empty = p ∷ t.empty;
    detached = without p t.detached;
  }

  -- the pages of a snapshot, each in the next of the frames; the epoch advances once
  abbrev pub attach_all : List ℕ → List ℕ → Table → Table
  attach_all [] fs t = t
  attach_all (p ∷ ps) [] t = t
  attach_all (p ∷ ps) (f ∷ fs) t = attach_all ps fs (attach t p f)

  abbrev pub grow : List ℕ → List ℕ → Table → Table
  grow [] fs t = t
  grow (p ∷ ps) fs t = advance (attach_all (p ∷ ps) fs t)

  -- storage.rs `detach_empty`: the page's slots leave the free order, the page goes to the head of the detached ones and keeps its mark
  unfoldable pub detach : Table → ℕ → Table
  detach t p = record {
    limit = t.limit;
    mask = t.mask;
    life = t.life;
    epoch = next_epoch t.epoch;
    size = t.size;
    pages = put t.pages p (record { frame = none; high = (t.pages p).high });
    slots = λ k. pick (on_page p k) absent (t.slots k);
    free = drop_if (on_page p) t.free;
    empty = without p t.empty;
    detached = p ∷ t.detached;
  }

-- the first occupied one of n slots from k on
abbrev pub first_occupied : (ℕ → Slot) → ℕ → ℕ → Option ℕ
first_occupied f k zero = none
first_occupied f k (suc n) = pick (is_occupied (f k)) (some k) (first_occupied f (suc k) n)

-- a scan's walk: at most n slots from k on and at most e entries; where it stopped
pub record Walk : Type 0 where
  pub found : List ℕ
  pub stop : ℕ

abbrev pub walk : (ℕ → Slot) → ℕ → ℕ → ℕ → Walk
walk f k zero e = record { found = []; stop = k }
walk f k (suc n) zero = record { found = []; stop = k }
walk f k (suc n) (suc e) = let w : Walk = walk f (suc k) n (pick (is_occupied (f k)) e (suc e)) in record {
  found = pick (is_occupied (f k)) (k ∷ w.found) w.found;
  stop = w.stop;
}
