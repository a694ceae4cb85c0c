-- The operations on a table in the state: words that represent a state come to represent the model's state after the operation. Assumes nothing.
use Rattle.std.specs.Prelude.{◌≡◌, refl, true, List, ℕ, ◌-◌, ◌<◌, length}
use Rattle.std.proofs.Common.{sym, ap, ◌∙◌, ⊎_elim, arith}
use Rattle.words.specs.Pick.{clash}
use Rattle.codec.specs.Codec.{next_generation}
use Rattle.model.specs.State.{till, Handle, Slot, Slot.vacant, Slot.transfer_reserved, Slot.occupied, Table, State, generation, is_busy}
use Rattle.model.specs.Storage.{place, keep, vacate}
use Rattle.model.specs.Change.{with_table}
use Rattle.model.proofs.Tests.{put_other, put_same}
use Rattle.invariant.proofs.Pointwise.{Alike, place_alike, place_slots, vacate_alike, vacate_slots}
use Rattle.invariant.proofs.Pages.{till_sane}
use Rattle.invariant.proofs.Orders.{Sound, keep_good, vacate_good}
use Rattle.layout.specs.declared.Shape.{Shape}
use Rattle.layout.specs.Layout.{Mem, rank, row, item, load}
use Rattle.layout.specs.ShapeOf.{roots_kept}
use Rattle.layout.specs.Fields.{slot_tag, slot_place, slot_position, row_id, row_table, row_length, item_operation, item_moved}
use Rattle.layout.specs.Values.{tag_transfer_reserved, operation_move}
use Rattle.layout.specs.RegionNames.{region_root}
use Rattle.representation.specs.Represents.{slot_word, is_marked, Reps, Rep}
use Rattle.representation.specs.Told.{marked_full}
use Rattle.storage.specs.Order.{same?}
use Rattle.storage.specs.Sight.{look}
use Rattle.storage.specs.Ops.{vacate_w, move_w, occupy_w}
use Rattle.storage.specs.Keep.{moving_mark}
use Rattle.storage.specs.Turns.{Turns, Ready, vacate_turns, move_turns, occupy_turns}
use Rattle.storage.specs.Kept.{RowsStay, MarkIs, mark_kept}
use Rattle.storage.specs.Whole.{Placed, placed_of, placed_with, fit_of, off_table, table_rows, with_table_law}

-- words that represent a state whose tables are in place: what each operation keeps
pub record Held (ws : List ℕ) (sh : Shape) (s : State) : Type 0 where
  pub reps : Reps ws sh s
  pub placed : Placed till s

pub held_of : (ws : List ℕ) (sh : Shape) (s : State) → Rep ws sh s → Held ws sh s
held_of ws sh s r = record { reps = r.reps; placed = placed_of s r.well_formed }

pub ready_of : (ws : List ℕ) (sh : Shape) (s : State) → Held ws sh s → (b : ℕ) → b < s.table_count → Ready ws sh b (s.tables b)
ready_of ws sh s h b l = record {
  room = h.reps.shaped.room;
  fit = fit_of sh (load ws sh) s h.reps.memory h.placed b l;
  table = h.reps.memory.tables b l;
  sound = h.placed.sound b l;
}

-- position j of the row in place x names slot k of table b; field f of the item does
pub record Names (m : Mem) (s : State) (b k x j f : ℕ) : Type 0 where
  pub place : x < s.book.capacity
  pub used : m (rank x) < length s.book.rows
  pub within : j < m (row x row_length)
  pub table : m (row x row_table) ≡ b
  pub slot : m (item x j f) ≡ k
  pub moved : f ≡ item_moved → m (item x j item_operation) ≡ operation_move

module _ (ws ws' : List ℕ) (sh : Shape) (s : State) (h : Held ws sh s) (b : ℕ) (l : b < s.table_count) (k : ℕ) (c : ℕ → ℕ) (u : Table)
    (turn : Turns ws ws' sh b (s.tables b) k c u) where
  stay : RowsStay (load ws sh) (load ws' sh)
  stay = table_rows b (load ws sh) (load ws' sh) turn.only

  -- a mark that the slot's words name
  pub mark_is : (x j f tag : ℕ) → c slot_tag ≡ tag → c slot_place ≡ x → c slot_position ≡ j → f ≡ tag - 1 → Names (load ws sh) s b k x j f → MarkIs (load ws' sh) s b k
  mark_is x j f tag e₀ e₂ e₃ d p =
      go (slot_word (load ws' sh) b k slot_tag) (slot_word (load ws' sh) b k slot_place) (slot_word (load ws' sh) b k slot_position) (turn.slot slot_tag ∙ e₀) (turn.slot slot_place ∙ e₂) (turn.slot slot_position ∙ e₃)
    where
      go : (a₀ a₂ a₃ : ℕ) → a₀ ≡ tag → a₂ ≡ x → a₃ ≡ j
          → (a₂ < s.book.capacity) × (load ws' sh (rank a₂) < length s.book.rows) × (a₃ < load ws' sh (row a₂ row_length)) × (load ws' sh (row a₂ row_table) ≡ b) × (load ws' sh (item a₂ a₃ (a₀ - 1)) ≡ k)
          × (a₀ ≡ tag_transfer_reserved → load ws' sh (item a₂ a₃ item_operation) ≡ operation_move)
      go a₀ a₂ a₃ q₀ q₂ q₃ = rw (q₀, q₂, q₃) (
        p.place,
        rw (stay.ranks x) p.used,
        rw (stay.rows x row_length) p.within,
        stay.rows x row_table ∙ p.table,
        rw (stay.items x j (tag - 1), ← d) p.slot,
        λ e. stay.items x j item_operation ∙ p.moved (omega arith),
      )

  -- a turn of one table, in the state
  pub turned : Alike till (s.tables b) u → Sound till u u.free → ((j : ℕ) → (j ≡ k → ⊥) → u.slots j ≡ (s.tables b).slots j)
      → (is_marked (u.slots k) ≡ true → MarkIs (load ws' sh) s b k) → Held ws' sh (with_table s b u)
  turned al sound others mark = record {
    reps = record {
      shaped = let q = h.reps.shaped in record {
        limits = q.limits;
        room = omega (arith, turn.long, q.room);
        roots = roots_kept sh (load ws sh) (load ws' sh) (λ f a. off_table b (load ws sh) (load ws' sh) turn.only region_root 0 0 f (λ e. omega arith) (λ e. omega arith) (λ e. omega arith)) q.roots;
      };
      memory = with_table_law sh (load ws sh) s h.reps.memory h.placed b l (load ws' sh) turn.only u turn.table al
          (λ j e. ⊎_elim
          (λ (d : j ≡ k). let e' : is_marked (u.slots k) ≡ true = rw d at e in rw d (mark e'))
          (λ (d : j ≡ k → ⊥). let i : is_marked ((s.tables b).slots j) ≡ true = rw (others j d) at e in
          let w : (f : ℕ) → slot_word (load ws' sh) b j f ≡ slot_word (load ws sh) b j f = λ f. turn.others j f d (marked_full ((s.tables b).slots j) i) in
          mark_kept (load ws sh) (load ws' sh) stay s b j (w slot_tag) (w slot_place) (w slot_position) (h.reps.memory.book.marks b j l i))
          (same? j k));
    };
    placed = placed_with s b u h.placed sound al;
  }

module _ (ws : List ℕ) (sh : Shape) (s : State) (h : Held ws sh s) (b : ℕ) (l : b < s.table_count) where
  -- VACATE
  pub vacate_held : (k : ℕ) → is_busy ((s.tables b).slots k) ≡ true → Held (vacate_w ws sh b k) sh (with_table s b (vacate till (s.tables b) k))
  vacate_held k was = let t : Table = s.tables b in
      turned ws (vacate_w ws sh b k) sh s h b l k _ (vacate till t k) (vacate_turns ws sh b t (ready_of ws sh s h b l) k was)
      (vacate_alike till t k) (vacate_good till till_sane t k (h.placed.sound b l) was)
      (λ j n. ap (λ (f : ℕ → Slot). f j) (vacate_slots till t k) ∙ put_other t.slots k (vacant (next_generation (generation (t.slots k)))) j n)
      (λ e. let q : (vacate till t k).slots k ≡ vacant (next_generation (generation (t.slots k)))
      = ap (λ (f : ℕ → Slot). f k) (vacate_slots till t k) ∙ put_same t.slots k (vacant (next_generation (generation (t.slots k)))) in
      clash (sym (ap is_marked q) ∙ e) refl)

  -- MOVE: the row in place x names the slot
  pub move_held : (k x j : ℕ) → is_busy ((s.tables b).slots k) ≡ true → Names (load ws sh) s b k x j item_moved
      → Held (move_w ws sh b k x j) sh (with_table s b (keep till (λ g. transfer_reserved g (load ws sh (row x row_id))) (s.tables b) k))
  move_held k x j was p = let t : Table = s.tables b in
      let y : Slot = transfer_reserved (generation (t.slots k)) (load ws sh (row x row_id)) in
      let turn = move_turns ws sh b t (ready_of ws sh s h b l) k was x j in
      let mk = moving_mark (look (load ws sh) b) k x j in
      turned ws (move_w ws sh b k x j) sh s h b l k _ (place till t k y) turn (place_alike till t k y)
      (keep_good till till_sane (λ g. transfer_reserved g (load ws sh (row x row_id))) (λ g. refl) (λ g. refl) t k (h.placed.sound b l) was)
      (λ i n. ap (λ (f : ℕ → Slot). f i) (place_slots till t k y) ∙ put_other t.slots k y i n)
      (λ e. mark_is ws (move_w ws sh b k x j) sh s h b l k _ (place till t k y) turn x j item_moved tag_transfer_reserved mk.0 mk.1 mk.2 (omega arith) p)

  -- OCCUPY
  pub occupy_held : (k : ℕ) (x : Handle) → is_busy ((s.tables b).slots k) ≡ true
      → Held (occupy_w ws sh b k x.object x.rights x.flags) sh (with_table s b (keep till (λ g. occupied g x) (s.tables b) k))
  occupy_held k x was = let t : Table = s.tables b in
      let y : Slot = occupied (generation (t.slots k)) x in
      turned ws (occupy_w ws sh b k x.object x.rights x.flags) sh s h b l k _ (place till t k y)
      (occupy_turns ws sh b t (ready_of ws sh s h b l) k was x.object x.rights x.flags) (place_alike till t k y)
      (keep_good till till_sane (λ g. occupied g x) (λ g. refl) (λ g. refl) t k (h.placed.sound b l) was)
      (λ i n. ap (λ (f : ℕ → Slot). f i) (place_slots till t k y) ∙ put_other t.slots k y i n)
      (λ e. clash (sym (ap is_marked (ap (λ (f : ℕ → Slot). f k) (place_slots till t k y) ∙ put_same t.slots k y)) ∙ e) refl)
