-- The items of a transfer as its claim keeps them, in the row that opens next. Assumes nothing.
use Rattle.std.specs.Prelude.{◌≡◌, List, [], ◌∷◌, map, ℕ, suc, ◌+◌, ◌≤◌, ◌<◌, length}
use Rattle.std.proofs.Math.Path.{refl}
use Rattle.std.proofs.Common.{◌∙◌, ap, sym, arith}
use borrow.Author.Tests.{eq-eqb}
use Rattle.model.specs.State.{till, Handle, Table, Object, Entry, Entry.moved, Entry.copied, State}
use Rattle.model.specs.Change.{with_objects}
use Rattle.model.specs.Request.{Operation, Operation.as_move, Operation.as_copy, Item}
use Rattle.model.specs.Objects.{with_rights}
use Rattle.model.specs.Transfer.{entry_for}
use Rattle.model.specs.WellFormed.{WellFormed, All}
use Rattle.layout.specs.declared.Shape.{Shape}
use Rattle.layout.specs.Layout.{Mem, total, item, load, in_item, load_writes}
use Rattle.layout.specs.Fields.{item_operation, item_moved, item_object, item_rights, item_flags, item_granted}
use Rattle.layout.specs.Sizes.{batch_max}
use Rattle.layout.specs.RegionNames.{region_row}
use Rattle.representation.specs.Represents.{EntryIs, Items}
use Rattle.storage.specs.Reps.{Held}
use Rattle.book.specs.Ops.{spare, Fills, fills_none, fills_then}
use Rattle.book.specs.Swap.{spare_held}
use Rattle.lookup.specs.declared.PreparedHandle.{PreparedHandle}
use Rattle.lookup.specs.View.{View.Holds}
use Rattle.lookup.specs.View.{view_of, handle_of}
use Rattle.book.specs.Decided.{spare_low}
use Rattle.transfer.specs.Ops.{moved_w}
use Rattle.transfer.specs.Preparing.{copied_p, copied_w, handle_entry_w, entry_w, entries_w}
use Rattle.transfer.proofs.Claim.{Entered, enter_all, enter_fills, moved_enters, moved_in}
use Rattle.transfer.proofs.Faults.{Found}
use Rattle.transfer.proofs.Raised.{view_found_at}

-- a copy
module _ (ws : List ℕ) (sh : Shape) (room : total sh ≤ length ws) (x j : ℕ) (h : PreparedHandle) (r : ℕ) where
  copied_enters : Entered ws (copied_w ws sh x j h r) sh x j
  unfolding copied_w
  copied_enters = enter_all sh x j (copied_p x j h r) ws room ((item_operation, refl), ((item_object, refl), ((item_rights, refl), ((item_flags, refl), tt))))

  copied_in : x < sh.rows → j < batch_max → EntryIs (load (copied_w ws sh x j h r) sh) x j (copied (with_rights (handle_of h) r))
  unfolding copied_w
  copied_in l m = let e = load_writes ws sh room (copied_p x j h r)
      (in_item sh x j item_operation l m (omega arith), (in_item sh x j item_object l m (omega arith), (in_item sh x j item_rights l m (omega arith), (in_item sh x j item_flags l m (omega arith), tt)))) in
      rw (e, eq-eqb j j refl, eq-eqb x x refl) (refl, (refl, refl, refl))

-- an item of a row keeps its entry while it keeps its words
entry_same : (m n : Mem) (x j : ℕ) (e : Entry) → ((f : ℕ) → n (item x j f) ≡ m (item x j f)) → EntryIs m x j e → EntryIs n x j e
entry_same m n x j (moved k h r) its p = (its item_operation ∙ p.0, its item_moved ∙ p.1, (its item_object ∙ p.2.0, its item_rights ∙ p.2.1, its item_flags ∙ p.2.2), its item_granted ∙ p.3)
entry_same m n x j (copied h) its p = (its item_operation ∙ p.0, (its item_object ∙ p.1.0, its item_rights ∙ p.1.1, its item_flags ∙ p.1.2))

module _ (sh : Shape) (s : State) (w : WellFormed till s) (b : ℕ) (l : b < s.table_count) (ws : List ℕ) (os : ℕ → Object) (h : Held ws sh (with_objects s os))
    (free : length s.book.rows < s.book.capacity) where
  abbrev t : Table
  t = s.tables b

  abbrev x : ℕ
  x = spare (load ws sh)

  -- ONE ENTRY
  record Put (vs : List ℕ) (j : ℕ) (q : Item) (us : List ℕ) : Type 0 where
    enters : Entered vs us sh (spare (load ws sh)) j
    is : EntryIs (load us sh) (spare (load ws sh)) j (entry_for t q)

  entry_by_law : (vs us : List ℕ) (j : ℕ) (q : Item) (y : PreparedHandle) → view_of (load vs sh) b q.value ≡ Holds y → handle_entry_w vs sh (spare (load ws sh)) j q y ≡ us
      → entry_w vs sh b (spare (load ws sh)) j q ≡ us
  unfolding entry_w
  entry_by_law vs us j q y e d = rw e d

  moves_by : (vs : List ℕ) (j : ℕ) (q : Item) (y : PreparedHandle) → q.operation ≡ as_move → handle_entry_w vs sh (spare (load ws sh)) j q y ≡ moved_w vs sh (spare (load ws sh)) j y q.rights
  unfolding handle_entry_w
  moves_by vs j q y e = rw e

  copies_by : (vs : List ℕ) (j : ℕ) (q : Item) (y : PreparedHandle) → q.operation ≡ as_copy → handle_entry_w vs sh (spare (load ws sh)) j q y ≡ copied_w vs sh (spare (load ws sh)) j y q.rights
  unfolding handle_entry_w
  copies_by vs j q y e = rw e

  entry_put : (vs : List ℕ) (j : ℕ) (q : Item) → Fills ws vs sh (spare (load ws sh)) → j < batch_max → Found t q → Put vs j q (entry_w vs sh b (spare (load ws sh)) j q)
  entry_put vs j q p m f = go q.operation refl (view_found_at sh s w b l vs os held q f)
    where
      held : Held vs sh (with_objects s os)
      held = spare_held ws vs sh (with_objects s os) h (spare (load ws sh)) p free refl

      go : (op : Operation) → q.operation ≡ op → ((y : PreparedHandle) × (view_of (load vs sh) b q.value ≡ Holds y) × (y.slot ≡ f.slot) × (handle_of y ≡ f.handle))
          → Put vs j q (entry_w vs sh b (spare (load ws sh)) j q)
      go as_move e (y, v, k, g) =
          let us : List ℕ = moved_w vs sh (spare (load ws sh)) j y q.rights in
          let d : entry_for t q ≡ moved y.slot (handle_of y) q.rights = f.entry ∙ rw (e, k, g) in
          rw (entry_by_law vs us j q y v (moves_by vs j q y e))
          (record {
            enters = moved_enters vs sh held.reps.shaped.room (spare (load ws sh)) j y q.rights;
            is = rw d (moved_in vs sh held.reps.shaped.room (spare (load ws sh)) j y q.rights (spare_low ws sh (with_objects s os) h free) m);
          })
      go as_copy e (y, v, k, g) =
          let us : List ℕ = copied_w vs sh (spare (load ws sh)) j y q.rights in
          let d : entry_for t q ≡ copied (with_rights (handle_of y) q.rights) = f.entry ∙ rw e (ap (λ (h : Handle). copied (with_rights h q.rights)) (sym g)) in
          rw (entry_by_law vs us j q y v (copies_by vs j q y e))
          (record {
            enters = copied_enters vs sh held.reps.shaped.room (spare (load ws sh)) j y q.rights;
            is = rw d (copied_in vs sh held.reps.shaped.room (spare (load ws sh)) j y q.rights (spare_low ws sh (with_objects s os) h free) m);
          })

  entries_stop : (vs : List ℕ) (j : ℕ) → entries_w vs sh b (spare (load ws sh)) j [] ≡ vs
  unfolding entries_w
  entries_stop vs j = refl

  entries_more : (vs : List ℕ) (j : ℕ) (q : Item) (qs : List Item) → entries_w vs sh b (spare (load ws sh)) j (q ∷ qs) ≡ entries_w (entry_w vs sh b (spare (load ws sh)) j q) sh b (spare (load ws sh)) (suc j) qs
  unfolding entries_w
  entries_more vs j q qs = refl

  -- ALL ENTRIES, from item j on
  pub record Listed (vs : List ℕ) (j : ℕ) (qs : List Item) (us : List ℕ) : Type 0 where
    pub fills : Fills ws us sh (spare (load ws sh))
    pub are : Items (EntryIs (load us sh) (spare (load ws sh))) j (map (entry_for t) qs)
    pub before : (i f : ℕ) → i < j → load us sh (item (spare (load ws sh)) i f) ≡ load vs sh (item (spare (load ws sh)) i f)

  entries_all : (qs : List Item) (vs : List ℕ) (j : ℕ) → Fills ws vs sh (spare (load ws sh)) → j + length qs ≤ batch_max → All (Found t) qs
      → Listed vs j qs (entries_w vs sh b (spare (load ws sh)) j qs)
  entries_all [] vs j p m fs = rw (entries_stop vs j) (record { fills = p; are = tt; before = λ i f n. refl })
  entries_all (q ∷ qs) vs j p m fs =
      let us : List ℕ = entry_w vs sh b (spare (load ws sh)) j q in
      let one = entry_put vs j q p (omega arith) fs.0 in
      let rest = entries_all qs us (suc j) (fills_then ws vs us sh (spare (load ws sh)) p (enter_fills vs us sh (spare (load ws sh)) j one.enters)) (omega arith) fs.1 in
      let zs : List ℕ = entries_w us sh b (spare (load ws sh)) (suc j) qs in
      rw (entries_more vs j q qs) (record {
        fills = rest.fills;
        are = (entry_same (load us sh) (load zs sh) (spare (load ws sh)) j (entry_for t q) (λ f. rest.before j f (omega arith)) one.is, rest.are);
        before = λ i f n. rest.before i f (omega arith) ∙ one.enters.rest region_row (spare (load ws sh)) (suc i) f (λ a c d. omega arith);
      })

  -- from the first on
  pub entries_listed : (qs : List Item) → length qs ≤ batch_max → All (Found t) qs → Listed ws 0 qs (entries_w ws sh b (spare (load ws sh)) 0 qs)
  entries_listed qs m fs = entries_all qs ws 0 (fills_none ws sh (spare (load ws sh))) (omega arith) fs
