-- A batch of free slots is opened: the words come to represent the model's state, and the answer's words are the batch's. Assumes nothing.
use Rattle.std.specs.Prelude.{◌≡◌, refl, false, take}
use Rattle.std.proofs.Common.{sym, ap, ◌∙◌, length-take-le}
use mathlib.Core.List.{List, ◌∷◌, map}
use Prim.Native.Nat.{ℕ, ◌+◌, ◌^◌, ◌≤◌, ◌<◌, min}
use native.Mathlib.Omega.{arith}
use Rattle.std.proofs.Math.ListN.{length, length-map}
use Rattle.model.specs.Base.{occurs}
use Rattle.model.specs.State.{till, Slot.reserved, Body.reservation, State, is_absent}
use Rattle.model.specs.Storage.{take_free}
use Rattle.model.specs.Change.{with_table}
use Rattle.model.specs.Book.{add_row}
use Rattle.model.proofs.Sums.{occurs_split}
use Rattle.model.specs.Lookup.{value_at}
use Rattle.model.specs.Request.{Answer.batch}
use Rattle.model.specs.Words.{used_words}
use Rattle.invariant.proofs.Pages.{vacant_there}
use Rattle.layout.specs.declared.Shape.{Shape}
use Rattle.layout.specs.Layout.{root, head, index, item, load}
use Rattle.layout.specs.Fields.{root_used_rows, head_first_free, slot_next_free, slot_previous_free, index_place, item_slot}
use Rattle.layout.specs.Values.{kind_reservation}
use Rattle.layout.specs.Sizes.{batch_max}
use Rattle.layout.specs.RegionNames.{region_root, region_index}
use Rattle.representation.specs.Represents.{slot_word, Items}
use Rattle.storage.specs.Slots.{free_vacant}
use Rattle.storage.specs.Reps.{Held}
use Rattle.book.specs.Lists.{nth_take}
use Rattle.book.specs.Ops.{spare, open_w, Fills}
use Rattle.book.specs.Swap.{spare_held}
use Rattle.book.specs.Open.{Opens, open_held, open_row}
use Rattle.reserve.specs.Ops.{list_w, batch_w, batch_words}
use Rattle.reserve.specs.Listed.{listed_fills, listed_items}
use Rattle.reserve.specs.Taken.{taken_all, values_are}

module _ (ws : List ℕ) (sh : Shape) (s : State) (h : Held ws sh s) (b : ℕ) (l : b < s.table_count) (n : ℕ) (few : n ≤ batch_max) (enough : n ≤ length (s.tables b).free)
    (room : length s.book.rows < s.book.capacity) where
  abbrev x : ℕ
  x = spare (load ws sh)

  abbrev ks : List ℕ
  ks = take n (s.tables b).free

  abbrev ws' : List ℕ
  ws' = list_w ws sh b n

  fills : Fills ws ws' sh x
  unfolding list_w
  fills = listed_fills sh b x n ws 0 (load ws sh (head b head_first_free)) h.reps.shaped.room

  -- the state is as it was
  pub listed_held : Held ws' sh s
  listed_held = spare_held ws ws' sh s h x fills room refl

  long : length ks ≡ n
  long = length-take-le n (s.tables b).free enough

  low : x < sh.rows
  low = let r = h.reps.memory in
      let e : x ≡ load ws sh (index (length s.book.rows)) = ap (λ (i : ℕ). load ws sh (index i)) r.book.used in
      omega (arith, (r.book.places (length s.book.rows) room).0, r.capacity)

  same_place : spare (load ws' sh) ≡ x
  same_place = ap (λ (i : ℕ). load ws' sh (index i)) (fills.rest region_root 0 0 root_used_rows (λ q z. omega arith)) ∙ fills.rest region_index (load ws sh (root root_used_rows)) 0 index_place (λ q z. omega arith)

  items : Items (λ i k. load ws' sh (item x i item_slot) ≡ k) 0 ks
  unfolding list_w
  items = listed_items sh b x low n ws 0 (load ws sh (head b head_first_free)) 0 (λ k. slot_word (load ws sh) b k slot_next_free) (λ k. slot_word (load ws sh) b k slot_previous_free) (s.tables b).free
      h.reps.shaped.room (omega arith) enough (λ k. refl) (h.reps.memory.tables b l).free

  -- THE ANSWER
  there : (k : ℕ) → 0 < occurs k ks → is_absent ((s.tables b).slots k) ≡ false
  there k o = vacant_there ((s.tables b).slots k) (free_vacant (s.tables b) (h.placed.sound b l) k (omega (arith, occurs_split k n (s.tables b).free)))

  pub batch_words_law : batch_words (load ws' sh) b n ≡ used_words (batch s.book.next (map (value_at (s.tables b)) ks))
  unfolding batch_words used_words
  batch_words_law =
      let r = listed_held.reps.memory in
      let c : length (map (value_at (s.tables b)) ks) ≡ n = length-map ks (value_at (s.tables b)) ∙ long in
      let z : min n batch_max ≡ length ks = omega (arith, long) in
      rw (r.book.next, c, same_place, z)
      (ap (λ (vs : List ℕ). 0 ∷ s.book.next ∷ n ∷ vs)
      (values_are (load ws' sh) b (s.tables b) (r.tables b l) x 0 ks there items))

  -- THE STATE
  module _ (left : s.book.next + 1 < 2 ^ 64) where
    opens : Opens (load ws' sh) (spare (load ws' sh)) kind_reservation b n (reservation b ks)
    opens = rw same_place (refl, refl, sym long, items)

    pub batch_held : Held (batch_w ws' sh b n) sh (with_table (add_row (reservation b ks) s) b (take_free till n (λ g. reserved g s.book.next) (s.tables b)))
    unfolding batch_w
    batch_held = taken_all sh (spare (load ws' sh)) b s.book.next ks n (open_w ws' sh kind_reservation b n) (add_row (reservation b ks) s) 0
        (open_held ws' sh s listed_held room kind_reservation b n (reservation b ks) opens left) l
        (open_row ws' sh s listed_held room kind_reservation b n (reservation b ks) opens left) enough
        (λ q k c e. let z : 0 + q ≡ q = omega arith in rw z (nth_take n (s.tables b).free q c ∙ e))
