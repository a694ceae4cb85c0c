-- Words that represent a state come to represent the model's state after the head of the free order is taken. Assumes nothing.
use Rattle.std.specs.Prelude.{◌≡◌, refl, false, List, ◌∷◌, ℕ, ◌<◌}
use Rattle.std.proofs.Common.{ap, ◌∙◌, arith}
use Rattle.model.specs.State.{till, Slot, Slot.reserved, Table, State, generation, is_absent}
use Rattle.model.specs.Storage.{with_free}
use Rattle.model.specs.Change.{with_table}
use Rattle.model.proofs.Tests.{put_other}
use Rattle.invariant.proofs.Pointwise.{place_alike, place_slots}
use Rattle.invariant.proofs.Pages.{till_sane, vacant_there}
use Rattle.invariant.proofs.Orders.{Sound, good_of, take_good}
use Rattle.layout.specs.declared.Shape.{Shape}
use Rattle.layout.specs.Layout.{row, load}
use Rattle.layout.specs.Fields.{row_id, item_slot}
use Rattle.layout.specs.Values.{tag_reserved}
use Rattle.storage.specs.Order.{occurs_head}
use Rattle.storage.specs.Sight.{look}
use Rattle.storage.specs.Slots.{free_vacant}
use Rattle.storage.specs.Ops.{take_w}
use Rattle.storage.specs.Take.{taken, reserved_mark}
use Rattle.storage.specs.Turns.{take_turns}
use Rattle.storage.specs.Reps.{Held, ready_of, Names, mark_is, turned}

module _ (ws : List ℕ) (sh : Shape) (s : State) (h : Held ws sh s) (b : ℕ) (l : b < s.table_count) where
  -- TAKE: the row in place x names the slot
  pub take_held : (k : ℕ) (ks : List ℕ) (x j : ℕ) → (s.tables b).free ≡ k ∷ ks → Names (load ws sh) s b k x j item_slot
      → Held (take_w ws sh b k x j) sh (with_table s b (taken (s.tables b) k ks (load ws sh (row x row_id))))
  take_held k ks x j first p = let t : Table = s.tables b in
      let o : Sound till t t.free = h.placed.sound b l in
      let y : Slot = reserved (generation (t.slots k)) (load ws sh (row x row_id)) in
      let u : Table = taken t k ks (load ws sh (row x row_id)) in
      let here : is_absent (t.slots k) ≡ false = vacant_there (t.slots k) (free_vacant t o k (rw first (occurs_head k ks))) in
      let turn = take_turns ws sh b t (ready_of ws sh s h b l) k ks first x j in
      let mk = reserved_mark (look (load ws sh) b) k x j in
      let a = place_alike till (with_free t ks) k y in
      turned ws (take_w ws sh b k x j) sh s h b l k _ u turn
      (record { limit = a.limit; mask = a.mask; life = a.life; epoch = a.epoch; size = a.size; detached = a.detached; frame = a.frame })
      (take_good till till_sane t k ks first o y refl (good_of till till_sane t t.free o k here))
      (λ i n. ap (λ (f : ℕ → Slot). f i) (place_slots till (with_free t ks) k y) ∙ put_other t.slots k y i n)
      (λ e. mark_is ws (take_w ws sh b k x j) sh s h b l k _ u turn x j item_slot tag_reserved mk.0 mk.1 mk.2 (omega arith) p)
