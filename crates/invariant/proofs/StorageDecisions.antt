-- What a request leaves: the storage clauses and the counts, change by change.
use Rattle.std.specs.Prelude.{◌≡◌, refl, true, false, List, [], ◌∷◌, ◌++◌, ℕ, ◌+◌, ◌≤◌, ◌<◌, eqb}
use Rattle.std.proofs.Common.{eqb-true}
use Rattle.std.proofs.Math.Option.{some}
use Rattle.model.specs.Base.{occurs}
use Rattle.model.specs.State.{Sizes, Handle, Slot.occupied, Lifecycle, Table, Object, Entry, Body, Body.reservation, Body.claim, Row, State, is_busy, no_object}
use Rattle.model.specs.Storage.{vacate_all}
use Rattle.model.specs.Change.{with_table, with_objects, with_book, with_life}
use Rattle.model.specs.Objects.{lower, change_all}
use Rattle.model.specs.Book.{find, drop_id, swap_id, drop_row, drop_rows, moved_of, copies_of, spend_id}
use Rattle.model.specs.Decision.{Decision}
use Rattle.model.specs.WellFormed.{All, LifeRange, WellFormed, HandleRange, frames_in}
use Rattle.model.proofs.Decided.{Decided, Any}
use Rattle.model.proofs.Tests.{bool, zero_or}
use Rattle.invariant.proofs.Pointwise.{Alike, Busy, vacate_all_out}
use Rattle.invariant.proofs.BookLemmas.{PlanHalf, PlanRow, Frameless, frameless, all_map, all_drop, found_range}
use Rattle.invariant.proofs.Marks.{Owns, not_both, owns, both_marks, keys_reservation, keys_claim}
use Rattle.invariant.proofs.Orders.{Sound}
use Rattle.invariant.proofs.StorageState.{StorageClauses, SameCounts, Plans, plans_same, plans_add, plans_drop, plans_swap, plans_for, storage_of, sound_of, others, another, alike_turned, life_turned}
use Rattle.invariant.proofs.StorageState.{change_all_rest, copies_range}

-- what a request leaves
pub record Kept (z : Sizes) (s u : State) : Type 0 where
  pub storage : StorageClauses z u
  pub counts : SameCounts s u

-- and a decision
abbrev pub KeptD : Sizes → State → Decision → Type 0
KeptD z s d = Decided Any Any (λ u a. Kept z s u) d

module _ (z : Sizes) (s : State) (w : WellFormed z s) where
  -- rows that hold the frames that were held
  abbrev pub PlansOf : List Row → Type 0
  PlansOf rs = Plans z s (storage_of z s w) rs

  -- a row that is no plan opens, goes, or has another body
  pub opened : (r : Row) → frames_in r.body ≡ [] → PlanRow z s r → PlansOf (s.book.rows ++ (r ∷ []))
  opened = plans_add z s (storage_of z s w) s.book.rows (plans_same z s (storage_of z s w))

  pub bare_row : (i : ℕ) (x : Body) → find i s.book.rows ≡ some x → frames_in x ≡ [] → Frameless i s.book.rows
  bare_row i x e d = frameless i x d 1 s.book.next s.book.rows w.ids.rise e

  pub ended : (i : ℕ) (x : Body) → find i s.book.rows ≡ some x → frames_in x ≡ [] → PlansOf (drop_id i s.book.rows)
  ended i x e d = plans_drop z s (storage_of z s w) s.book.rows (plans_same z s (storage_of z s w)) i (bare_row i x e d)

  pub swapped : (i : ℕ) (x y : Body) → find i s.book.rows ≡ some x → frames_in x ≡ [] → frames_in y ≡ [] → PlanHalf z s y → PlansOf (swap_id i y s.book.rows)
  swapped i x y e = plans_swap z s (storage_of z s w) s.book.rows (plans_same z s (storage_of z s w)) i x y 1 s.book.next w.ids.rise e

  pub unchanged : PlansOf s.book.rows
  unchanged = plans_same z s (storage_of z s w)

  -- nothing changes, or an id is spent
  pub still : Kept z s s
  still = record { storage = storage_of z s w; counts = record { table_count = refl; object_count = refl; frame_count = refl; capacity = refl } }

  pub spent : Kept z s (spend_id s)
  spent = record { storage = another z s (storage_of z s w) s.book.rows (s.book.next + 1) (plans_same z s (storage_of z s w)); counts = still.counts }

  -- a handle in a slot, and a table's orders
  pub held_range : (b k n : ℕ) (h : Handle) → b < s.table_count → (s.tables b).slots k ≡ occupied n h → HandleRange s h
  held_range b k n h l e = rw e at ((w.ranges.tables b l).slots k)

  pub sound_at : (b : ℕ) → b < s.table_count → Sound z (s.tables b) (s.tables b).free
  sound_at b l = sound_of z s (storage_of z s w) b l

  -- only objects and the book change
  pub objects_kept : (os : ℕ → Object) → ((o : ℕ) → s.object_count ≤ o → os o ≡ no_object) → (rs : List Row) (n : ℕ) → PlansOf rs
      → Kept z s (with_book (with_objects s os) (record { rows = rs; capacity = s.book.capacity; next = n }))
  objects_kept os h rs n p = record { storage = others z s (storage_of z s w) os h rs n p; counts = still.counts }

  -- one table, the objects and the book change, its frames stay, and its life is new or stays
  pub life_kept : (b : ℕ) (t : Table) (f : Lifecycle) → b < s.table_count → Alike z (s.tables b) t → Sound z t t.free → LifeRange f
      → (os : ℕ → Object) → ((o : ℕ) → s.object_count ≤ o → os o ≡ no_object) → (rs : List Row) (n : ℕ) → PlansOf rs
      → Kept z s (with_book (with_objects (with_table s b (with_life t f)) os) (record { rows = rs; capacity = s.book.capacity; next = n }))
  life_kept b t f l a o r os h rs n p = record {
    storage = others z (with_table s b (with_life t f)) (life_turned z s (storage_of z s w) b t f l a o r) os h rs n
        (record { held = p.held; range = plans_for z s (with_table s b (with_life t f)) refl rs p.range });
    counts = still.counts;
  }

  pub table_kept : (b : ℕ) (t : Table) → b < s.table_count → Alike z (s.tables b) t → Sound z t t.free
      → (os : ℕ → Object) → ((o : ℕ) → s.object_count ≤ o → os o ≡ no_object) → (rs : List Row) (n : ℕ) → PlansOf rs
      → Kept z s (with_book (with_objects (with_table s b t) os) (record { rows = rs; capacity = s.book.capacity; next = n }))
  table_kept b t l a o = life_kept b t t.life l a o (rw a.life (w.ranges.tables b l).life)

  -- two tables, or one twice
  pub again_kept : (u : State) (v : StorageClauses z u) → SameCounts s u → (b : ℕ) (t : Table) → b < s.table_count → Alike z (u.tables b) t
      → Sound z t t.free
      → (rs : List Row) (n : ℕ) → Plans z u v rs → Kept z s (with_book (with_table u b t) (record { rows = rs; capacity = u.book.capacity; next = n }))
  again_kept u v q b t l a o rs n p = record {
    storage = another z (with_table u b t) (alike_turned z u v b t (rw q.table_count l) a o) rs n
        (record { held = p.held; range = plans_for z u (with_table u b t) refl rs p.range });
    counts = q;
  }

  -- rows go
  pub rows_kept : (is : List ℕ) (u : State) → All (λ i. Frameless i u.book.rows) is → Kept z s u → Kept z s (drop_rows is u)
  rows_kept [] u f k = k
  rows_kept (i ∷ is) u f k = rows_kept is (drop_row i u) (all_map (λ j. all_drop (λ r. eqb r.id j ≡ true → frames_in r.body ≡ []) i u.book.rows) is f.1)
      (record { storage = another z u k.storage _ _ (plans_drop z u k.storage u.book.rows (plans_same z u k.storage) i f.0); counts = k.counts })

  -- a reservation's slots, and a claim's; its copies
  pub reservation_owns : (i b : ℕ) (ks : List ℕ) → find i s.book.rows ≡ some (reservation b ks) → Owns true i ks (s.tables b).slots
  reservation_owns i b ks e = owns s.tables s.book.rows (both_marks s w.marks) true i b ks (reservation b ks) (keys_reservation b ks) e

  pub claim_owns : (i b : ℕ) (es : List Entry) → find i s.book.rows ≡ some (claim b es) → Owns false i (moved_of es) (s.tables b).slots
  claim_owns i b es e = owns s.tables s.book.rows (both_marks s w.marks) false i b (moved_of es) (claim b es) (keys_claim b es) e

  -- a reservation's slots are busy still when a claim's have fallen vacant: no slot is in both
  pub busy_still : (i j b c : ℕ) (es : List Entry) (ks : List ℕ) → find i s.book.rows ≡ some (claim b es) → find j s.book.rows ≡ some (reservation c ks)
      → Busy ((with_table s b (vacate_all z (moved_of es) (s.tables b))).tables c) ks
  busy_still i j b c es ks e d k o =
      let res : Owns true j ks (s.tables c).slots = reservation_owns j c ks d in
      bool (eqb c b)
      (λ q. let y : c ≡ b = eqb-true c b q in
      let on : is_busy ((s.tables b).slots k) ≡ true = rw y at (res.busy k o) in
      let out : occurs k (moved_of es) ≡ 0 = zero_or (occurs k (moved_of es)) (λ r. r)
      (λ r. absurd (not_both j i ((s.tables b).slots k) (rw y at (res.on k o)) ((claim_owns i b es e).on k r))) in
      rw (q, vacate_all_out z (moved_of es) (s.tables b) k out) on)
      (λ q. rw q (res.busy k o))

  pub copies_rest : (i b : ℕ) (es : List Entry) → find i s.book.rows ≡ some (claim b es) → (o : ℕ) → s.object_count ≤ o
      → change_all lower (copies_of es) s.objects o ≡ no_object
  copies_rest i b es e = change_all_rest lower s.object_count (copies_of es) s.objects
      (copies_range s es (found_range s w i (claim b es) e).2) w.at_rest.objects
