-- A claim opens: its entries stand in the place that is free, its row opens, and the slots that it moves are marked. Assumes nothing.
use Rattle.std.specs.Prelude.{◌≡◌, true, List, [], ◌∷◌, ℕ, suc, ◌+◌, ◌^◌, ◌≤◌, ◌<◌, length}
use Rattle.std.proofs.Math.Path.{refl}
use Rattle.std.proofs.Common.{ap, ◌∙◌}
use Rattle.std.proofs.Math.Bool.{and-false}
use Rattle.std.proofs.Math.Option.{some}
use native.Mathlib.Omega.{arith}
use borrow.Author.Tests.{eq-eqb}
use Rattle.words.specs.Pick.{bool}
use Rattle.model.specs.Base.{nth, occurs}
use Rattle.model.specs.State.{till, Slot.transfer_reserved, Table, Entry, Entry.moved, Entry.copied, Body.claim, State, is_busy}
use Rattle.model.specs.Storage.{keep, keep_all}
use Rattle.model.specs.Change.{with_table}
use Rattle.model.specs.Book.{add_row, moved_of}
use Rattle.model.proofs.Changed.{with_table_at as table_at_law, with_own as table_same, with_over as table_twice}
use Rattle.invariant.proofs.Pointwise.{keep_busy}
use Rattle.layout.specs.declared.Shape.{Shape}
use Rattle.layout.specs.Layout.{Addr, Addr.reg, total, root, index, item, load, save, same, same_is, is_in, in_item, length_save, load_save_any, Write, Write.at, writes, load_writes}
use Rattle.layout.specs.Fields.{root_used_rows, index_place, item_operation, item_moved, item_object, item_rights, item_flags, item_granted}
use Rattle.layout.specs.Values.{kind_claim, operation_move, operation_copy}
use Rattle.layout.specs.Sizes.{batch_max}
use Rattle.layout.specs.RegionNames.{region_root, region_index, region_row}
use Rattle.representation.specs.Represents.{EntryIs, Items}
use Rattle.storage.specs.Order.{occurs_head}
use Rattle.storage.specs.Ops.{move_w}
use Rattle.storage.specs.Turns.{move_turns}
use Rattle.storage.specs.Reps.{Held, ready_of, move_held}
use Rattle.book.specs.Ops.{spare, open_w, Fills}
use Rattle.book.specs.Places.{item_of}
use Rattle.book.specs.Find.{RowAt}
use Rattle.book.specs.Marks.{names_claim}
use Rattle.book.specs.Fades.{row_turned}
use Rattle.book.specs.Swap.{spare_held}
use Rattle.book.specs.Open.{Opens, open_held, open_row}
use Rattle.lookup.specs.declared.PreparedHandle.{PreparedHandle}
use Rattle.lookup.specs.View.{handle_of}
use Rattle.transfer.specs.Ops.{moved_p, moved_w, mark_item_w, marked_w, claim_w}

-- ---- stores into one item

-- the words differ in item j of the row in place x alone
pub record Entered (ws ws' : List ℕ) (sh : Shape) (x j : ℕ) : Type 0 where
  pub long : length ws' ≡ length ws
  pub rest : (k z y f : ℕ) → (k ≡ region_row → z ≡ x → y ≡ suc j → ⊥) → load ws' sh (reg k z y f) ≡ load ws sh (reg k z y f)

enter_one : (ws : List ℕ) (sh : Shape) → total sh ≤ length ws → (x j : ℕ) (a : Addr) (f v : ℕ) → a ≡ item x j f → Entered ws (save ws sh a v) sh x j
enter_one ws sh h x j a f v e = record {
  long = length_save ws sh a v;
  rest = λ k z y g n. load_save_any ws sh h a v (reg k z y g) ∙ bool (same a (reg k z y g))
      (λ d. let q : reg k z y g ≡ item x j f = same_is a (reg k z y g) d ∙ e in
      let q₁ : k ≡ region_row = cc in let q₂ : z ≡ x = cc in let q₃ : y ≡ suc j = cc in absurd (n q₁ q₂ q₃))
      (λ d. rw (d, and-false (is_in sh a)));
}

-- a plan of such stores
abbrev pub OfItem : ℕ → ℕ → List Write → Type 0
OfItem x j [] = Unit {0}
OfItem x j (at a v ∷ xs) = ((f : ℕ) × (a ≡ item x j f)) × OfItem x j xs

pub enter_all : (sh : Shape) (x j : ℕ) (xs : List Write) (ws : List ℕ) → total sh ≤ length ws → OfItem x j xs → Entered ws (writes ws sh xs) sh x j
enter_all sh x j [] ws h p = record { long = refl; rest = λ k z y f n. refl }
enter_all sh x j (at a v ∷ xs) ws h p =
    let one = enter_one ws sh h x j a p.0.0 v p.0.1 in
    let more = enter_all sh x j xs (save ws sh a v) (omega (arith, length_save ws sh a v)) p.1 in
    record { long = more.long ∙ one.long; rest = λ k z y f n. more.rest k z y f n ∙ one.rest k z y f n }

pub enter_fills : (ws ws' : List ℕ) (sh : Shape) (x j : ℕ) → Entered ws ws' sh x j → Fills ws ws' sh x
enter_fills ws ws' sh x j p = record { long = p.long; rest = λ k z y f n. p.rest k z y f (λ a b c. n a b) }

-- a moved handle
module _ (ws : List ℕ) (sh : Shape) (room : total sh ≤ length ws) (x j : ℕ) (h : PreparedHandle) (r : ℕ) where
  pub moved_enters : Entered ws (moved_w ws sh x j h r) sh x j
  unfolding moved_w
  moved_enters = enter_all sh x j (moved_p x j h r) ws room ((item_operation, refl), ((item_moved, refl), ((item_object, refl), ((item_rights, refl), ((item_flags, refl), ((item_granted, refl), tt))))))

  pub moved_in : x < sh.rows → j < batch_max → EntryIs (load (moved_w ws sh x j h r) sh) x j (moved h.slot (handle_of h) r)
  unfolding moved_w
  moved_in l m = let e = load_writes ws sh room (moved_p x j h r) (
    in_item sh x j item_operation l m (omega arith),
    (
      in_item sh x j item_moved l m (omega arith),
      (
        in_item sh x j item_object l m (omega arith),
        (
          in_item sh x j item_rights l m (omega arith),
          (
            in_item sh x j item_flags l m (omega arith),
            (in_item sh x j item_granted l m (omega arith), tt),
          ),
        ),
      ),
    ),
  ) in
      rw (e, eq-eqb j j refl, eq-eqb x x refl) (refl, refl, (refl, refl, refl), refl)

-- ---- marks

mark_move : (ws : List ℕ) (sh : Shape) (b x j k : ℕ) → load ws sh (item x j item_operation) ≡ operation_move → load ws sh (item x j item_moved) ≡ k → mark_item_w ws sh b x j ≡ move_w ws sh b k x j
unfolding mark_item_w
mark_move ws sh b x j k d e = rw (d, e)

mark_copy : (ws : List ℕ) (sh : Shape) (b x j : ℕ) → load ws sh (item x j item_operation) ≡ operation_copy → mark_item_w ws sh b x j ≡ ws
unfolding mark_item_w
mark_copy ws sh b x j d = rw d

marked_stop : (ws : List ℕ) (sh : Shape) (b x j : ℕ) → marked_w ws sh b x j 0 ≡ ws
unfolding marked_w
marked_stop ws sh b x j = refl

marked_more : (ws vs : List ℕ) (sh : Shape) (b x j n : ℕ) → mark_item_w ws sh b x j ≡ vs → marked_w ws sh b x j (suc n) ≡ marked_w vs sh b x (suc j) n
unfolding marked_w
marked_more ws vs sh b x j n e = ap (λ (w : List ℕ). marked_w w sh b x (suc j) n) e

module _ (sh : Shape) (x b i : ℕ) (es : List Entry) where
  -- THE ENTRIES of a claim from position j on mark the slots that they move
  pub marked_all : (ds : List Entry) (ws : List ℕ) (s : State) (j : ℕ) → Held ws sh s → b < s.table_count → RowAt (load ws sh) s x i (claim b es)
      → ((q : ℕ) (e : Entry) → nth ds q ≡ some e → nth es (j + q) ≡ some e) → ((k : ℕ) → 0 < occurs k (moved_of ds) → is_busy ((s.tables b).slots k) ≡ true)
      → Held (marked_w ws sh b x j (length ds)) sh (with_table s b (keep_all till (λ g. transfer_reserved g i) (moved_of ds) (s.tables b)))
  marked_all [] ws s j h l a names busy = rw (marked_stop ws sh b x j, table_same s b) h
  marked_all (copied y ∷ ds) ws s j h l a names busy =
      let z : j + 0 ≡ j = omega arith in
      let here : nth es j ≡ some (copied y) = rw z at (names 0 (copied y) refl) in
      let p = item_of (EntryIs (load ws sh) x) es a.body.3 j (copied y) here in
      rw (marked_more ws ws sh b x j (length ds) (mark_copy ws sh b x j p.0))
      (marked_all ds ws s (suc j) h l a (λ q e d. let v : suc j + q ≡ j + suc q = omega arith in rw v (names (suc q) e d)) busy)
  marked_all (moved k y r ∷ ds) ws s j h l a names busy =
      let z : j + 0 ≡ j = omega arith in
      let here : nth es j ≡ some (moved k y r) = rw z at (names 0 (moved k y r) refl) in
      let p = item_of (EntryIs (load ws sh) x) es a.body.3 j (moved k y r) here in
      let was : is_busy ((s.tables b).slots k) ≡ true = busy k (occurs_head k (moved_of ds)) in
      let ws₁ : List ℕ = move_w ws sh b k x j in
      let u : Table = keep till (λ g. transfer_reserved g i) (s.tables b) k in
      let h₁ : Held ws₁ sh (with_table s b u) = rw a.id at (move_held ws sh s h b l k x j was (names_claim (load ws sh) s x i b es a j k y r here)) in
      let a₁ = row_turned (load ws sh) (load ws₁ sh) s b u (move_turns ws sh b (s.tables b) (ready_of ws sh s h b l) k was x j).only x i (claim b es) a in
      let still : (q : ℕ) → 0 < occurs q (moved_of ds) → is_busy (((with_table s b u).tables b).slots q) ≡ true
      = λ q o. rw (table_at_law s b u) (keep_busy till (λ g. transfer_reserved g i) (λ g. refl) (s.tables b) k q (busy q (omega arith))) in
      let rest = marked_all ds ws₁ (with_table s b u) (suc j) h₁ l a₁ (λ q e d. let v : suc j + q ≡ j + suc q = omega arith in rw v (names (suc q) e d)) still in
      rw (marked_more ws ws₁ sh b x j (length ds) (mark_move ws sh b x j k p.0 p.1))
      (rw (table_at_law s b u, table_twice s b u (keep_all till (λ g. transfer_reserved g i) (moved_of ds) u)) at rest)

-- ---- the claim

module _ (ws ws₁ : List ℕ) (sh : Shape) (s : State) (h : Held ws sh s) (free : length s.book.rows < s.book.capacity) (fills : Fills ws ws₁ sh (spare (load ws sh))) where
  same_place : spare (load ws₁ sh) ≡ spare (load ws sh)
  same_place = fills.rest region_index (load ws₁ sh (root root_used_rows)) 0 index_place (λ q z. omega arith) ∙ ap (λ (i : ℕ). load ws sh (index i)) (fills.rest region_root 0 0 root_used_rows (λ q z. omega arith))

  -- A CLAIM whose entries stand in the place that was free opens
  pub claim_held : (b : ℕ) (es : List Entry) → b < s.table_count → s.book.next + 1 < 2 ^ 64 → Items (EntryIs (load ws₁ sh) (spare (load ws sh))) 0 es
      → ((k : ℕ) → 0 < occurs k (moved_of es) → is_busy ((s.tables b).slots k) ≡ true)
      → Held (claim_w ws₁ sh b (length es)) sh (with_table (add_row (claim b es) s) b (keep_all till (λ g. transfer_reserved g s.book.next) (moved_of es) (s.tables b)))
  unfolding claim_w
  claim_held b es l left its busy =
      let h₁ : Held ws₁ sh s = spare_held ws ws₁ sh s h (spare (load ws sh)) fills free refl in
      let p : Opens (load ws₁ sh) (spare (load ws₁ sh)) kind_claim b (length es) (claim b es) = rw same_place (refl, refl, refl, its) in
      marked_all sh (spare (load ws₁ sh)) b s.book.next es es (open_w ws₁ sh kind_claim b (length es)) (add_row (claim b es) s) 0
      (open_held ws₁ sh s h₁ free kind_claim b (length es) (claim b es) p left) l (open_row ws₁ sh s h₁ free kind_claim b (length es) (claim b es) p left)
      (λ q e d. let z : 0 + q ≡ q = omega arith in rw z d) busy
