-- The operations on words turn the words of a table into those of the model's table after them, and change nothing else. Assumes nothing.
use Rattle.std.specs.Prelude.{◌≡◌}
use Rattle.std.proofs.Math.Path.{refl}
use Rattle.std.proofs.Common.{sym, ap, ◌∙◌, ⊎_elim}
use Rattle.std.proofs.Math.Bool.{true, false}
use mathlib.Core.List.{List, ◌∷◌}
use Prim.Native.Nat.{ℕ, suc, ◌-◌, ◌/◌, ◌≤◌, ◌<◌}
use native.Mathlib.Omega.{arith}
use Rattle.std.proofs.Math.ListN.{length}
use Rattle.std.proofs.Math.Dec.{eqb}
use Rattle.words.specs.Pick.{pick_has}
use Rattle.codec.specs.Codec.{next_generation}
use Rattle.model.specs.Base.{occurs}
use Rattle.model.specs.State.{till, Slot.transfer_reserved, Slot.occupied, Table, is_busy, is_vacant, is_absent}
use Rattle.model.specs.Storage.{vacate, keep}
use Rattle.invariant.proofs.Pages.{busy_there, vacant_there}
use Rattle.invariant.proofs.Orders.{Sound, attached_below, attached_of}
use Rattle.layout.specs.declared.Shape.{Shape}
use Rattle.layout.specs.Layout.{Mem, total, head, row, load}
use Rattle.layout.specs.Fields.{head_pages, head_first_free, head_first_empty, entry_busy, entry_next, entry_previous, slot_generation, slot_next_free, slot_previous_free, row_id}
use Rattle.layout.specs.Sizes.{page_size}
use Rattle.representation.specs.Represents.{frame_of, slot_word, TableIs}
use Rattle.storage.specs.Order.{occurs_head, head_in}
use Rattle.storage.specs.Sight.{Spot, Spot.hd, Spot.pg, Spot.sl, look, Fit, OnlyTable, Moves, moves, moves_then, moves_fit, moves_size}
use Rattle.storage.specs.Slots.{Seen, see, unsee, slot_there, free_vacant, empty_below}
use Rattle.storage.specs.Ops.{up, publish_p, mark_p, join_p, leave_p, reserve_p, publish_w, mark_w, join_w, leave_w, reserve_w, lower_w, raise_w, vacate_w, take_w, move_p, move_w, occupy_p, occupy_w}
use Rattle.storage.specs.Vacate.{publish_v, mark_v, join_v, first_empty, vacated_words, vacate_own, vacate_others, vacate_some, vacate_none}
use Rattle.storage.specs.Take.{reserve_v, leave_v, taken, reserved_words, take_own, page_links, next_vacant, before_in, after_in, take_others, take_some, take_none}
use Rattle.storage.specs.Keep.{move_v, occupy_v, move_within, occupy_within, move_seen, occupy_seen}

-- what an operation on slot k of table b gives: the table was t and is u, only its words have changed, and of its slots only k, which has the words c, and vacant ones
pub record Turns (ws ws' : List ℕ) (sh : Shape) (b : ℕ) (t : Table) (k : ℕ) (c : ℕ → ℕ) (u : Table) : Type 0 where
  pub long : length ws' ≡ length ws
  pub only : OnlyTable b (load ws sh) (load ws' sh)
  pub table : TableIs (load ws' sh) b u
  pub slot : (f : ℕ) → slot_word (load ws' sh) b k f ≡ c f
  pub others : (j f : ℕ) → (j ≡ k → ⊥) → is_vacant (t.slots j) ≡ false → slot_word (load ws' sh) b j f ≡ slot_word (load ws sh) b j f

pub rows_only : (b : ℕ) (m n : Mem) → OnlyTable b m n → (r f : ℕ) → n (row r f) ≡ m (row r f)
rows_only b m n o r f = o (row r f) (⊎_elim (λ i. omega arith) (⊎_elim (λ i. omega arith) (λ i. omega arith)))

-- words that show the table
turns : (ws ws' : List ℕ) (sh : Shape) (b : ℕ) (v : Spot → ℕ) (t : Table) (k : ℕ) (c : ℕ → ℕ) (u : Table) → Moves ws ws' sh b v → Seen (load ws sh) v u
    → ((f : ℕ) → v (sl k f) ≡ c f) → ((j f : ℕ) → (j ≡ k → ⊥) → is_vacant (t.slots j) ≡ false → v (sl j f) ≡ look (load ws sh) b (sl j f)) → Turns ws ws' sh b t k c u
unfolding look
turns ws ws' sh b v t k c u p z own others = record {
  long = p.long;
  only = p.only;
  table = unsee (load ws sh) (load ws' sh) b u (λ r. rows_only b (load ws sh) (load ws' sh) p.only r row_id) (rw p.shows z);
  slot = λ f. ap (λ (w : Spot → ℕ). w (sl k f)) p.shows ∙ own f;
  others = λ j f n h. ap (λ (w : Spot → ℕ). w (sl j f)) p.shows ∙ others j f n h;
}

-- what an operation needs: words enough, a table in its place, and its storage sound
pub record Ready (ws : List ℕ) (sh : Shape) (b : ℕ) (t : Table) : Type 0 where
  pub room : total sh ≤ length ws
  pub fit : Fit sh (load ws sh) b
  pub table : TableIs (load ws sh) b t
  pub sound : Sound till t t.free

module _ (ws : List ℕ) (sh : Shape) (b : ℕ) (t : Table) (r : Ready ws sh b t) where
  seen₀ : Seen (load ws sh) (look (load ws sh) b) t
  seen₀ = see (load ws sh) b t r.table

  size₀ : load ws sh (head b head_pages) ≡ t.size
  size₀ = r.table.size

  there₀ : (k : ℕ) → is_absent (t.slots k) ≡ false → 0 < frame_of (load ws sh) b k
  unfolding look
  there₀ k e = slot_there (load ws sh) (look (load ws sh) b) t seen₀ k e

  free₀ : (k : ℕ) → look (load ws sh) b (hd head_first_free) ≡ suc k → 0 < frame_of (load ws sh) b k
  free₀ k e = there₀ k (vacant_there (t.slots k) (free_vacant t r.sound k
      (head_in (λ i. look (load ws sh) b (sl i slot_next_free)) (λ i. look (load ws sh) b (sl i slot_previous_free)) (look (load ws sh) b (hd head_first_free)) 0 t.free k seen₀.free e)))

  empty₀ : (p : ℕ) → look (load ws sh) b (hd head_first_empty) ≡ suc p → p < t.size
  empty₀ p e = empty_below t r.sound p
      (head_in (λ i. look (load ws sh) b (pg i entry_next)) (λ i. look (load ws sh) b (pg i entry_previous)) (look (load ws sh) b (hd head_first_empty)) 0 t.empty p seen₀.empty e)

  -- PUBLISH
  pub publish_moves : (k g : ℕ) → is_absent (t.slots k) ≡ false → Moves ws (publish_w ws sh b k g) sh b (publish_v (look (load ws sh) b) k g)
  unfolding publish_w publish_p
  publish_moves k g here =
      let own : (j : ℕ) → suc k ≡ suc j → 0 < frame_of (load ws sh) b j = λ j e. let q : k ≡ j = omega arith in rw q at (there₀ k here) in
      moves ws sh b (look (load ws sh) b) (λ v. publish_p v k g) r.room r.fit refl
      ((omega arith, free₀), ((omega arith, own), ((omega arith, own), ((omega arith, own), ((omega arith, own), ((omega arith, omega arith), ((omega arith, omega arith), tt)))))))

-- a page below the size may be marked, and may join the empty order
mark_moves : (ws : List ℕ) (sh : Shape) (b : ℕ) (v : Spot → ℕ) (p g : ℕ) (count : (Spot → ℕ) → ℕ) → total sh ≤ length ws → Fit sh (load ws sh) b → look (load ws sh) b ≡ v
    → p < load ws sh (head b head_pages) → Moves ws (mark_w ws sh b p g (count (look (load ws sh) b))) sh b (mark_v v p g (count v))
unfolding mark_w mark_p
mark_moves ws sh b v p g count h fit e l =
    let own : (q : ℕ) → suc p ≡ suc q → q < load ws sh (head b head_pages) = λ q d. omega arith in
    moves ws sh b v (λ w. mark_p w p g (count w)) h fit e ((omega arith, omega arith, own), ((omega arith, omega arith, own), tt))

join_moves : (ws : List ℕ) (sh : Shape) (b : ℕ) (v : Spot → ℕ) (p : ℕ) → total sh ≤ length ws → Fit sh (load ws sh) b → look (load ws sh) b ≡ v
    → p < load ws sh (head b head_pages) → ((q : ℕ) → v (hd head_first_empty) ≡ suc q → q < load ws sh (head b head_pages)) → Moves ws (join_w ws sh b p) sh b (join_v v p)
unfolding join_w join_p
join_moves ws sh b v p h fit e l first =
    let own : (q : ℕ) → suc p ≡ suc q → q < load ws sh (head b head_pages) = λ q d. omega arith in
    moves ws sh b v (λ w. join_p w p) h fit e ((omega arith, omega arith, first), ((omega arith, omega arith, own), ((omega arith, omega arith, own), ((omega arith, omega arith), tt))))

module _ (ws : List ℕ) (sh : Shape) (b : ℕ) (t : Table) (r : Ready ws sh b t) where
  -- VACATE: a busy slot falls vacant
  pub vacate_turns : (k : ℕ) → is_busy (t.slots k) ≡ true → Turns ws (vacate_w ws sh b k) sh b t k (vacated_words (look (load ws sh) b) k) (vacate till t k)
  unfolding vacate_w lower_w
  vacate_turns k was =
      let v : Spot → ℕ = look (load ws sh) b in
      let g : ℕ = next_generation (v (sl k slot_generation)) in
      let p : ℕ = k / page_size in
      let here : is_absent (t.slots k) ≡ false = busy_there (t.slots k) was in
      let under : p < load ws sh (head b head_pages) = rw (size₀ ws sh b t r) (attached_below till t t.free r.sound p (attached_of till t t.free r.sound k here)) in
      let ws₁ : List ℕ = publish_w ws sh b k g in
      let v₁ : Spot → ℕ = publish_v v k g in
      let a : Moves ws ws₁ sh b v₁ = publish_moves ws sh b t r k g here in
      let room₁ : total sh ≤ length ws₁ = omega (arith, a.long, r.room) in
      let ws₂ : List ℕ = mark_w ws₁ sh b p g (look (load ws₁ sh) b (pg p entry_busy) - 1) in
      let v₂ : Spot → ℕ = mark_v v₁ p g (v₁ (pg p entry_busy) - 1) in
      let c : Moves ws₁ ws₂ sh b v₂ = mark_moves ws₁ sh b v₁ p g (λ w. w (pg p entry_busy) - 1) room₁ (moves_fit ws ws₁ sh b v₁ a r.fit) a.shows (rw (moves_size ws ws₁ sh b v₁ a) under) in
      let ac : Moves ws ws₂ sh b v₂ = moves_then ws ws₁ ws₂ sh b v₁ v₂ a c in
      let size₂ : load ws₂ sh (head b head_pages) ≡ load ws sh (head b head_pages) = moves_size ws ws₂ sh b v₂ ac in
      let room₂ : total sh ≤ length ws₂ = omega (arith, ac.long, r.room) in
      let d : Moves ws₂ (join_w ws₂ sh b p) sh b (join_v v₂ p) = join_moves ws₂ sh b v₂ p room₂ (moves_fit ws ws₂ sh b v₂ ac r.fit) ac.shows (rw size₂ under)
      (λ q e. rw (size₂, size₀ ws sh b t r) (empty₀ ws sh b t r q (sym (first_empty v k g p g (v₁ (pg p entry_busy) - 1)) ∙ e))) in
      pick_has (λ (w : List ℕ). Turns ws w sh b t k (vacated_words v k) (vacate till t k)) (eqb (look (load ws₁ sh) b (pg p entry_busy) - 1) 0) (join_w ws₂ sh b p) ws₂
      (λ e. turns ws (join_w ws₂ sh b p) sh b (join_v v₂ p) t k (vacated_words v k) (vacate till t k) (moves_then ws ws₂ (join_w ws₂ sh b p) sh b v₂ (join_v v₂ p) ac d)
      (vacate_none (load ws sh) v t (seen₀ ws sh b t r) r.sound k was (rw a.shows at e))
      (λ f. (vacate_own v k f).1)
      (λ j f n h. (vacate_others (load ws sh) v t (seen₀ ws sh b t r) r.sound k was j f n h).1))
      (λ e. turns ws ws₂ sh b v₂ t k (vacated_words v k) (vacate till t k) ac
      (vacate_some (load ws sh) v t (seen₀ ws sh b t r) r.sound k was (rw a.shows at e))
      (λ f. (vacate_own v k f).0)
      (λ j f n h. (vacate_others (load ws sh) v t (seen₀ ws sh b t r) r.sound k was j f n h).0))

-- ---- take

pub leave_moves : (ws : List ℕ) (sh : Shape) (b : ℕ) (v : Spot → ℕ) (p : ℕ) → total sh ≤ length ws → Fit sh (load ws sh) b → look (load ws sh) b ≡ v
    → ((q : ℕ) → v (pg p entry_previous) ≡ suc q → q < load ws sh (head b head_pages)) → ((q : ℕ) → v (pg p entry_next) ≡ suc q → q < load ws sh (head b head_pages)) → Moves ws (leave_w ws sh b p) sh b (leave_v v p)
unfolding leave_w leave_p
leave_moves ws sh b v p h fit e before after =
    moves ws sh b v (λ w. leave_p w p) h fit e ((omega arith, omega arith, before), ((omega arith, omega arith, after), ((omega arith, omega arith), tt)))

module _ (ws : List ℕ) (sh : Shape) (b : ℕ) (t : Table) (r : Ready ws sh b t) (k : ℕ) (l : List ℕ) (first : t.free ≡ k ∷ l) (x j : ℕ) where
  reserve_moves : Moves ws (reserve_w ws sh b k x j) sh b (reserve_v (look (load ws sh) b) k x j)
  unfolding reserve_w reserve_p
  reserve_moves =
      let v : Spot → ℕ = look (load ws sh) b in
      let z : Seen (load ws sh) v t = seen₀ ws sh b t r in
      let own : (i : ℕ) → suc k ≡ suc i → 0 < frame_of (load ws sh) b i = λ i e. let q : k ≡ i = omega arith in
      rw q at (there₀ ws sh b t r k (vacant_there (t.slots k) (free_vacant t r.sound k (rw first (occurs_head k l))))) in
      let next : (i : ℕ) → v (sl k slot_next_free) ≡ suc i → 0 < frame_of (load ws sh) b i = λ i e.
      there₀ ws sh b t r i (vacant_there (t.slots i) (next_vacant (load ws sh) v t z r.sound k l first x j i e)) in
      moves ws sh b v (λ w. reserve_p w k x j) r.room r.fit refl
      ((omega arith, next), ((omega arith, omega arith), ((omega arith, omega arith), ((omega arith, own), ((omega arith, own), ((omega arith, own), tt))))))

  -- TAKE: the head of the free order, slot k, is Reserved by position j of the row in place x
  pub take_turns : Turns ws (take_w ws sh b k x j) sh b t k (reserved_words (look (load ws sh) b) k x j) (taken t k l (load ws sh (row x row_id)))
  unfolding take_w raise_w
  take_turns =
      let v : Spot → ℕ = look (load ws sh) b in
      let z : Seen (load ws sh) v t = seen₀ ws sh b t r in
      let o = r.sound in
      let u : Table = taken t k l (load ws sh (row x row_id)) in
      let g : ℕ = v (sl k slot_generation) in
      let p : ℕ = k / page_size in
      let here : is_absent (t.slots k) ≡ false = vacant_there (t.slots k) (free_vacant t r.sound k (rw first (occurs_head k l))) in
      let under : p < load ws sh (head b head_pages) = rw (size₀ ws sh b t r) (attached_below till t t.free r.sound p (attached_of till t t.free r.sound k here)) in
      let ws₁ : List ℕ = reserve_w ws sh b k x j in
      let v₁ : Spot → ℕ = reserve_v v k x j in
      let a : Moves ws ws₁ sh b v₁ = reserve_moves in
      let room₁ : total sh ≤ length ws₁ = omega (arith, a.long, r.room) in
      let ws₂ : List ℕ = mark_w ws₁ sh b p g (up (look (load ws₁ sh) b (pg p entry_busy))) in
      let v₂ : Spot → ℕ = mark_v v₁ p g (up (v₁ (pg p entry_busy))) in
      let c : Moves ws₁ ws₂ sh b v₂ = mark_moves ws₁ sh b v₁ p g (λ w. up (w (pg p entry_busy))) room₁ (moves_fit ws ws₁ sh b v₁ a r.fit) a.shows (rw (moves_size ws ws₁ sh b v₁ a) under) in
      let ac : Moves ws ws₂ sh b v₂ = moves_then ws ws₁ ws₂ sh b v₁ v₂ a c in
      let size₂ : load ws₂ sh (head b head_pages) ≡ load ws sh (head b head_pages) = moves_size ws ws₂ sh b v₂ ac in
      let room₂ : total sh ≤ length ws₂ = omega (arith, ac.long, r.room) in
      pick_has (λ (w : List ℕ). Turns ws w sh b t k (reserved_words v k x j) u) (eqb (look (load ws₁ sh) b (pg p entry_busy)) 0) (leave_w ws₂ sh b p) ws₂
      (λ e. let n : eqb (v₁ (pg p entry_busy)) 0 ≡ true = rw a.shows at e in
      let inside : (q : ℕ) → 0 < occurs q t.empty → q < load ws₂ sh (head b head_pages) = λ q h. rw (size₂, size₀ ws sh b t r) (empty_below t o q h) in
      let d : Moves ws₂ (leave_w ws₂ sh b p) sh b (leave_v v₂ p) = leave_moves ws₂ sh b v₂ p room₂ (moves_fit ws ws₂ sh b v₂ ac r.fit) ac.shows
      (λ q i. inside q (before_in (load ws sh) v t z o k l first x j n q (sym (page_links v k x j p p g (up (v₁ (pg p entry_busy))) entry_previous (omega arith)) ∙ i)))
      (λ q i. inside q (after_in (load ws sh) v t z o k l first x j n q (sym (page_links v k x j p p g (up (v₁ (pg p entry_busy))) entry_next (omega arith)) ∙ i))) in
      turns ws (leave_w ws₂ sh b p) sh b (leave_v v₂ p) t k (reserved_words v k x j) u (moves_then ws ws₂ (leave_w ws₂ sh b p) sh b v₂ (leave_v v₂ p) ac d)
      (take_none (load ws sh) v t z o k l first x j n)
      (λ f. (take_own v k x j f).1)
      (λ i f m h. (take_others (load ws sh) v t z o k l first x j i f m h).1))
      (λ e. turns ws ws₂ sh b v₂ t k (reserved_words v k x j) u ac
      (take_some (load ws sh) v t z o k l first x j (rw a.shows at e))
      (λ f. (take_own v k x j f).0)
      (λ i f m h. (take_others (load ws sh) v t z o k l first x j i f m h).0))

-- ---- other busy contents

module _ (ws : List ℕ) (sh : Shape) (b : ℕ) (t : Table) (r : Ready ws sh b t) (k : ℕ) (was : is_busy (t.slots k) ≡ true) where
  own_slot : (i : ℕ) → suc k ≡ suc i → 0 < frame_of (load ws sh) b i
  own_slot i e = let q : k ≡ i = omega arith in rw q at (there₀ ws sh b t r k (busy_there (t.slots k) was))

  -- MOVE: TransferReserved by position j of the row in place x
  pub move_turns : (x j : ℕ) → Turns ws (move_w ws sh b k x j) sh b t k (λ f. move_v (look (load ws sh) b) k x j (sl k f)) (keep till (λ g. transfer_reserved g (load ws sh (row x row_id))) t k)
  unfolding move_w move_p
  move_turns x j = turns ws (move_w ws sh b k x j) sh b (move_v (look (load ws sh) b) k x j) t k _ _
      (moves ws sh b (look (load ws sh) b) (λ w. move_p k x j) r.room r.fit refl ((omega arith, own_slot), ((omega arith, own_slot), ((omega arith, own_slot), tt))))
      (move_seen (load ws sh) (look (load ws sh) b) t (seen₀ ws sh b t r) r.sound k was x j)
      (λ f. refl)
      (λ i f n h. (move_within (load ws sh) (look (load ws sh) b) t (seen₀ ws sh b t r) r.sound k was x j).slots i f n)

  -- OCCUPY: by a handle
  pub occupy_turns : (a x f : ℕ) → Turns ws (occupy_w ws sh b k a x f) sh b t k (λ g. occupy_v (look (load ws sh) b) k a x f (sl k g)) (keep till (λ g. occupied g (record { object = a; rights = x; flags = f })) t k)
  unfolding occupy_w occupy_p
  occupy_turns a x f = turns ws (occupy_w ws sh b k a x f) sh b (occupy_v (look (load ws sh) b) k a x f) t k _ _
      (moves ws sh b (look (load ws sh) b) (λ w. occupy_p k a x f) r.room r.fit refl ((omega arith, own_slot), ((omega arith, own_slot), ((omega arith, own_slot), ((omega arith, own_slot), tt)))))
      (occupy_seen (load ws sh) (look (load ws sh) b) t (seen₀ ws sh b t r) r.sound k was a x f)
      (λ g. refl)
      (λ i g n h. (occupy_within (load ws sh) (look (load ws sh) b) t (seen₀ ws sh b t r) r.sound k was a x f).slots i g n)
