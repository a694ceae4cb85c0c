-- The entries of a claim, one by one: undone, their slots vacated, or put into a reservation's slots. What each leaves is the model's state,
-- and every row stays where it is. Assumes nothing.
use Rattle.std.specs.Prelude.{◌≡◌, refl, true, List, [], ◌∷◌, map, ℕ, suc, ◌≤◌, ◌<◌, length}
use Rattle.std.proofs.Common.{ap, ◌∙◌, arith, ne_eqb}
use Rattle.model.specs.Base.{occurs}
use Rattle.model.specs.State.{Sizes, till, Handle, Slot.occupied, Table, Entry, Entry.moved, Entry.copied, State, is_busy}
use Rattle.model.specs.Storage.{keep, vacate, vacate_all}
use Rattle.model.specs.Change.{with_table, with_objects}
use Rattle.model.specs.Objects.{lower, change, release}
use Rattle.model.specs.Book.{moved_of, copies_of, sent_of}
use Rattle.model.specs.Step.{fill_all, restore_all}
use Rattle.model.proofs.Counting.{bit_same}
use Rattle.model.proofs.Changed.{with_table_at as table_at_law, with_own as table_same, with_over as table_twice}
use Rattle.invariant.proofs.Pointwise.{Busy, busy_kept, vacate_all_out}
use Rattle.invariant.proofs.StorageState.{InRange}
use Rattle.layout.specs.declared.Shape.{Shape}
use Rattle.layout.specs.Layout.{Mem, item, load}
use Rattle.layout.specs.Fields.{item_slot, item_object, item_flags}
use Rattle.layout.specs.RegionNames.{region_owner, region_row}
use Rattle.representation.specs.Represents.{EntryIs, Items}
use Rattle.storage.specs.Order.{occurs_head}
use Rattle.storage.specs.Ops.{vacate_w, occupy_w}
use Rattle.storage.specs.Turns.{vacate_turns}
use Rattle.storage.specs.Whole.{off_table}
use Rattle.storage.specs.Kept.{entries_kept, slots_kept}
use Rattle.storage.specs.Reps.{Held, ready_of, vacate_held}
use Rattle.object.specs.Record.{lowered_by}
use Rattle.object.specs.Words.{lower_w}
use Rattle.object.specs.Reps.{step_only, step_stays, step_rows, lower_held}
use Rattle.book.specs.Fades.{vacate_fades, row_turned}
use Rattle.book.specs.Keeps.{Keeps, keeps_none, keeps_then, objects_keep, occupy_keeps}
use Rattle.claim.specs.Ops.{each, undo_w, sent_rights, leave_w, fill_w}

-- ---- loops, in their definition's terms

pub each_stop : (f : List ℕ → ℕ → List ℕ) (ws : List ℕ) (j : ℕ) → each f ws j 0 ≡ ws
unfolding each
each_stop f ws j = refl

pub each_more : (f : List ℕ → ℕ → List ℕ) (ws vs : List ℕ) (j n : ℕ) → f ws j ≡ vs → each f ws j (suc n) ≡ each f vs (suc j) n
unfolding each
each_more f ws vs j n e = ap (λ (us : List ℕ). each f us (suc j) n) e

-- ---- one entry

occupied_alike : (ws : List ℕ) (sh : Shape) (b k l o p r q f g : ℕ) → k ≡ l → o ≡ p → r ≡ q → f ≡ g → occupy_w ws sh b k o r f ≡ occupy_w ws sh b l p q g
occupied_alike ws sh b k l o p r q f g e₀ e₁ e₂ e₃ = rw (e₀, e₁, e₂, e₃)

undo_moved : (ws : List ℕ) (sh : Shape) (b x j k : ℕ) (h : Handle) (r : ℕ) → EntryIs (load ws sh) x j (moved k h r) → undo_w ws sh b x j ≡ occupy_w ws sh b k h.object h.rights h.flags
unfolding undo_w
undo_moved ws sh b x j k h r p = rw p.0 (occupied_alike ws sh b _ k _ h.object _ h.rights _ h.flags p.1 p.2.0 p.2.1 p.2.2)

undo_copied : (ws : List ℕ) (sh : Shape) (b x j : ℕ) (h : Handle) → EntryIs (load ws sh) x j (copied h) → undo_w ws sh b x j ≡ lower_w ws sh h.object
unfolding undo_w
undo_copied ws sh b x j h p = rw (p.0, p.1.0)

leave_moved : (ws : List ℕ) (sh : Shape) (b x j k : ℕ) (h : Handle) (r : ℕ) → EntryIs (load ws sh) x j (moved k h r) → leave_w ws sh b x j ≡ vacate_w ws sh b k
unfolding leave_w
leave_moved ws sh b x j k h r p = rw (p.0, p.1)

leave_copied : (ws : List ℕ) (sh : Shape) (b x j : ℕ) (h : Handle) → EntryIs (load ws sh) x j (copied h) → leave_w ws sh b x j ≡ ws
unfolding leave_w
leave_copied ws sh b x j h p = rw p.0

-- what the receiver gets of it: the object and the flags that the handle has, and the rights asked for
pub sent_is : (m : Mem) (x j : ℕ) (e : Entry) → EntryIs m x j e → (m (item x j item_object) ≡ (sent_of e).object) × (sent_rights m x j ≡ (sent_of e).rights) × (m (item x j item_flags) ≡ (sent_of e).flags)
unfolding sent_rights
sent_is m x j (moved k h r) p = (p.2.0, rw p.0 p.3, p.2.2)
sent_is m x j (copied h) p = (p.1.0, rw p.0 p.1.1, p.1.2)

fill_entry : (ws : List ℕ) (sh : Shape) (c y x j k : ℕ) (e : Entry) → load ws sh (item y j item_slot) ≡ k → EntryIs (load ws sh) x j e
    → fill_w ws sh c y x j ≡ occupy_w ws sh c k (sent_of e).object (sent_of e).rights (sent_of e).flags
unfolding fill_w
fill_entry ws sh c y x j k e d p = let q = sent_is (load ws sh) x j e p in rw (d, q.0, q.1, q.2)

-- ---- ONE SLOT VACATED

vacate_keeps : (sh : Shape) (ws : List ℕ) (s : State) → Held ws sh s → (b : ℕ) → b < s.table_count → (k : ℕ) → is_busy ((s.tables b).slots k) ≡ true
    → Keeps sh ws s (vacate_w ws sh b k) (with_table s b (vacate till (s.tables b) k))
vacate_keeps sh ws s h b l k was =
    let only = (vacate_turns ws sh b (s.tables b) (ready_of ws sh s h b l) k was).only in
    record {
      held = vacate_held ws sh s h b l k was;
      fades = vacate_fades ws sh s h b l k was;
      rows = row_turned (load ws sh) (load (vacate_w ws sh b k) sh) s b (vacate till (s.tables b) k) only;
      items = λ z j f. off_table b (load ws sh) (load (vacate_w ws sh b k) sh) only region_row z (suc j) f (λ e. omega arith) (λ e. omega arith) (λ e. omega arith);
      fits = λ f. record { room = f.room; rise = f.rise };
    }

-- slots that are busy are so while another falls vacant
busy_left : (z : Sizes) (t : Table) (k : ℕ) (ks : List ℕ) → occurs k (k ∷ ks) ≤ 1 → Busy t (k ∷ ks) → Busy (vacate z t k) ks
busy_left z t k ks once p i o =
    let other : i ≡ k → ⊥ = λ e. let q : occurs i ks ≡ occurs k ks = ap (λ (v : ℕ). occurs v ks) e in omega (arith, bit_same k k refl) in
    ap is_busy (vacate_all_out z (k ∷ []) t i (rw (ne_eqb i k other))) ∙ p i (omega arith)

-- ---- THE ENTRIES ARE UNDONE

-- a claim's slots hold their handles again, its copies are released
abbrev pub undone : State → ℕ → List Entry → State
undone s b es = release (with_table s b (restore_all till es (s.tables b))) (copies_of es)

module _ (sh : Shape) (b x : ℕ) where
  abbrev undo : List ℕ → ℕ → List ℕ
  undo = λ (vs : List ℕ) (j : ℕ). undo_w vs sh b x j

  pub undone_keeps : (es : List Entry) (ws : List ℕ) (s : State) (j : ℕ) → Held ws sh s → b < s.table_count → Busy (s.tables b) (moved_of es) → InRange s.object_count (copies_of es)
      → Items (EntryIs (load ws sh) x) j es → Keeps sh ws s (each (λ (vs : List ℕ) (j : ℕ). undo_w vs sh b x j) ws j (length es)) (undone s b es)
  undone_keeps [] ws s j h l busy known its = rw (each_stop undo ws j, table_same s b) (keeps_none sh ws s h)
  undone_keeps (moved k g r ∷ es) ws s j h l busy known its =
      let u : Table = keep till (λ n. occupied n g) (s.tables b) k in
      let v : List ℕ = occupy_w ws sh b k g.object g.rights g.flags in
      let one = occupy_keeps sh ws s h b l k g (busy k (occurs_head k (moved_of es))) in
      let rest = undone_keeps es v (with_table s b u) (suc j) one.held l (rw (table_at_law s b u) (busy_kept till (s.tables b) k g (moved_of es) busy)) known
      (entries_kept (load ws sh) (load v sh) x (one.items x) (suc j) es its.1) in
      rw (each_more undo ws v j (length es) (undo_moved ws sh b x j k g r its.0))
      (keeps_then sh ws s v (with_table s b u) (each undo v (suc j) (length es)) (release (with_table s b (restore_all till es u)) (copies_of es)) one
      (rw (table_at_law s b u, ap (λ (z : State). release z (copies_of es)) (table_twice s b u (restore_all till es u))) at rest))
  undone_keeps (copied g ∷ es) ws s j h l busy known its =
      let v : List ℕ = lower_w ws sh g.object in
      let u : State = with_objects s (change lower s.objects g.object) in
      let one = objects_keep sh ws s v (change lower s.objects g.object) (lower_held ws sh s h g.object known.0) (step_stays lowered_by ws sh g.object h.reps.shaped.room)
      (step_rows lowered_by ws sh g.object h.reps.shaped.room) (λ f. step_only lowered_by ws sh g.object h.reps.shaped.room region_owner f 0 0 (λ e. omega arith)) in
      let rest = undone_keeps es v u (suc j) one.held l busy known.1 (entries_kept (load ws sh) (load v sh) x (one.items x) (suc j) es its.1) in
      rw (each_more undo ws v j (length es) (undo_copied ws sh b x j g its.0))
      (keeps_then sh ws s v u (each undo v (suc j) (length es)) (undone s b (copied g ∷ es)) one rest)

  -- ---- THE MOVED SLOTS FALL VACANT

  abbrev leave : List ℕ → ℕ → List ℕ
  leave = λ (vs : List ℕ) (j : ℕ). leave_w vs sh b x j

  pub left_keeps : (es : List Entry) (ws : List ℕ) (s : State) (j : ℕ) → Held ws sh s → b < s.table_count → Busy (s.tables b) (moved_of es) → ((k : ℕ) → occurs k (moved_of es) ≤ 1)
      → Items (EntryIs (load ws sh) x) j es
      → Keeps sh ws s (each (λ (vs : List ℕ) (j : ℕ). leave_w vs sh b x j) ws j (length es)) (with_table s b (vacate_all till (moved_of es) (s.tables b)))
  left_keeps [] ws s j h l busy once its = rw (each_stop leave ws j, table_same s b) (keeps_none sh ws s h)
  left_keeps (moved k g r ∷ es) ws s j h l busy once its =
      let u : Table = vacate till (s.tables b) k in
      let v : List ℕ = vacate_w ws sh b k in
      let one = vacate_keeps sh ws s h b l k (busy k (occurs_head k (moved_of es))) in
      let rest = left_keeps es v (with_table s b u) (suc j) one.held l (rw (table_at_law s b u) (busy_left till (s.tables b) k (moved_of es) (once k) busy)) (λ i. omega (arith, once i))
      (entries_kept (load ws sh) (load v sh) x (one.items x) (suc j) es its.1) in
      rw (each_more leave ws v j (length es) (leave_moved ws sh b x j k g r its.0))
      (keeps_then sh ws s v (with_table s b u) (each leave v (suc j) (length es)) (with_table s b (vacate_all till (moved_of es) u)) one
      (rw (table_at_law s b u, table_twice s b u (vacate_all till (moved_of es) u)) at rest))
  left_keeps (copied g ∷ es) ws s j h l busy once its =
      rw (each_more leave ws ws j (length es) (leave_copied ws sh b x j g its.0)) (left_keeps es ws s (suc j) h l busy once its.1)

-- ---- THE RESERVATION'S SLOTS ARE FILLED

module _ (sh : Shape) (c y x : ℕ) where
  abbrev fill : List ℕ → ℕ → List ℕ
  fill = λ (vs : List ℕ) (j : ℕ). fill_w vs sh c y x j

  pub filled_keeps : (es : List Entry) (ks ws : List ℕ) (s : State) (j : ℕ) → Held ws sh s → c < s.table_count → Busy (s.tables c) ks → length es ≡ length ks
      → Items (λ i k. load ws sh (item y i item_slot) ≡ k) j ks → Items (EntryIs (load ws sh) x) j es
      → Keeps sh ws s (each (λ (vs : List ℕ) (j : ℕ). fill_w vs sh c y x j) ws j (length es)) (with_table s c (fill_all till ks (map sent_of es) (s.tables c)))
  filled_keeps [] [] ws s j h l busy long slots its = rw (each_stop fill ws j, table_same s c) (keeps_none sh ws s h)
  filled_keeps [] (k ∷ ks) ws s j h l busy long slots its = absurd (omega arith)
  filled_keeps (e ∷ es) [] ws s j h l busy long slots its = absurd (omega arith)
  filled_keeps (e ∷ es) (k ∷ ks) ws s j h l busy long slots its =
      let u : Table = keep till (λ n. occupied n (sent_of e)) (s.tables c) k in
      let v : List ℕ = occupy_w ws sh c k (sent_of e).object (sent_of e).rights (sent_of e).flags in
      let one = occupy_keeps sh ws s h c l k (sent_of e) (busy k (occurs_head k ks)) in
      let rest = filled_keeps es ks v (with_table s c u) (suc j) one.held l (rw (table_at_law s c u) (busy_kept till (s.tables c) k (sent_of e) ks busy)) (omega arith)
      (slots_kept (load ws sh) (load v sh) y (one.items y) (suc j) ks slots.1) (entries_kept (load ws sh) (load v sh) x (one.items x) (suc j) es its.1) in
      rw (each_more fill ws v j (length es) (fill_entry ws sh c y x j k e slots.0 its.0))
      (keeps_then sh ws s v (with_table s c u) (each fill v (suc j) (length es)) (with_table s c (fill_all till ks (map sent_of es) u)) one
      (rw (table_at_law s c u, table_twice s c u (fill_all till ks (map sent_of es) u)) at rest))

-- ---- slots that hold a handle, or are vacant, are marked no longer
