-- The first slots of the free order are taken one by one, by the positions of a row that names them; and the values of slots. Assumes nothing.
use Rattle.std.specs.Prelude.{◌≡◌, false}
use Rattle.std.proofs.Math.Path.{refl, ap}
use Rattle.std.proofs.Common.{sym, ◌∙◌}
use mathlib.Core.List.{List, [], ◌∷◌, map}
use Rattle.std.proofs.Math.Option.{some}
use Prim.Native.Nat.{ℕ, zero, suc, ◌+◌, ◌-◌, ◌≤◌, ◌<◌}
use native.Mathlib.Omega.{arith}
use Rattle.std.proofs.Math.ListN.{length}
use Rattle.codec.specs.Codec.{encode}
use Rattle.model.specs.Base.{nth, occurs}
use Rattle.model.specs.State.{till, Slot.reserved, Table, Body.reservation, State, generation, is_absent}
use Rattle.model.specs.Storage.{with_free, take_free}
use Rattle.model.specs.Change.{with_table}
use Rattle.model.specs.Lookup.{value_at}
use Rattle.model.proofs.Changed.{with_table_at as table_at_law, with_own as table_same, with_over as table_twice}
use Rattle.invariant.proofs.Pointwise.{place_free, take_free_none, take_free_more}
use Rattle.layout.specs.declared.Shape.{Shape}
use Rattle.layout.specs.Layout.{Mem, head, item, load}
use Rattle.layout.specs.Fields.{head_first_free, slot_generation, item_slot}
use Rattle.representation.specs.Represents.{slot_word, Items, TableIs}
use Rattle.storage.specs.Order.{occurs_head}
use Rattle.storage.specs.Sight.{Spot.hd, look}
use Rattle.storage.specs.Slots.{see, slot_gen}
use Rattle.storage.specs.Ops.{seen, take_w}
use Rattle.storage.specs.Take.{taken}
use Rattle.storage.specs.Turns.{take_turns}
use Rattle.storage.specs.Reps.{Held, ready_of}
use Rattle.storage.proofs.Taken.{take_held}
use Rattle.book.specs.Find.{RowAt}
use Rattle.book.specs.Marks.{names_reservation}
use Rattle.book.specs.Fades.{row_turned}
use Rattle.reserve.specs.Ops.{taken_w, values_at}

-- the head of the free order, by its words
head_is : (m : Mem) (b : ℕ) (t : Table) → TableIs m b t → (k : ℕ) (l : List ℕ) → t.free ≡ k ∷ l → look m b (hd head_first_free) - 1 ≡ k
unfolding look
head_is m b t i k l e = let c : m (head b head_first_free) ≡ suc k = (rw e at i.free).0 in omega arith

taken_free : (t : Table) (k : ℕ) (l : List ℕ) (i : ℕ) → (taken t k l i).free ≡ l
taken_free t k l i = place_free till (with_free t l) k (reserved (generation (t.slots k)) i)

taken_more : (ws : List ℕ) (sh : Shape) (b x j n k : ℕ) → seen ws sh b (hd head_first_free) - 1 ≡ k → taken_w ws sh b x j (suc n) ≡ taken_w (take_w ws sh b k x j) sh b x (suc j) n
unfolding taken_w
taken_more ws sh b x j n k e = ap (λ (v : ℕ). taken_w (take_w ws sh b v x j) sh b x (suc j) n) e

module _ (sh : Shape) (x b i : ℕ) (ks : List ℕ) where
  -- position j of the row names the first of n slots of the free order, and so on
  abbrev pub Lists : ℕ → ℕ → List ℕ → Type 0
  Lists j n l = (q k : ℕ) → q < n → nth l q ≡ some k → nth ks (j + q) ≡ some k

  -- THE FIRST n are taken
  pub taken_all : (n : ℕ) (ws : List ℕ) (s : State) (j : ℕ) → Held ws sh s → b < s.table_count → RowAt (load ws sh) s x i (reservation b ks)
      → n ≤ length (s.tables b).free → Lists j n (s.tables b).free → Held (taken_w ws sh b x j n) sh (with_table s b (take_free till n (λ g. reserved g i) (s.tables b)))
  unfolding taken_w
  taken_all zero ws s j h l a few at = rw (take_free_none till (λ g. reserved g i) (s.tables b), table_same s b) h
  taken_all (suc n) ws s j h l a few at = go (s.tables b).free refl (λ v u c d. taken_all n v u (suc j) c d)
    where
      go : (fr : List ℕ) → (s.tables b).free ≡ fr
          → ((v : List ℕ) (u : State) → Held v sh u → b < u.table_count → RowAt (load v sh) u x i (reservation b ks) → n ≤ length (u.tables b).free → Lists (suc j) n (u.tables b).free
          → Held (taken_w v sh b x (suc j) n) sh (with_table u b (take_free till n (λ g. reserved g i) (u.tables b))))
          → Held (taken_w ws sh b x j (suc n)) sh (with_table s b (take_free till (suc n) (λ g. reserved g i) (s.tables b)))
      go [] e rest = absurd (omega (arith, ap length e))
      go (k ∷ fr) e rest =
          let z : j + 0 ≡ j = omega arith in
          let here : nth ks j ≡ some k = rw z at (at 0 k (omega arith) (rw e)) in
          let p = names_reservation (load ws sh) s x i b ks a j k here in
          let ws₁ : List ℕ = take_w ws sh b k x j in
          let u : Table = taken (s.tables b) k fr i in
          let h₁ : Held ws₁ sh (with_table s b u) = rw a.id at (take_held ws sh s h b l k fr x j e p) in
          let only = (take_turns ws sh b (s.tables b) (ready_of ws sh s h b l) k fr e x j).only in
          let a₁ = row_turned (load ws sh) (load ws₁ sh) s b u only x i (reservation b ks) a in
          let left : ((with_table s b u).tables b).free ≡ fr = ap (λ (t : Table). t.free) (table_at_law s b u) ∙ taken_free (s.tables b) k fr i in
          let g = rest ws₁ (with_table s b u) h₁ l a₁ (rw left (omega (arith, ap length e)))
          (rw left (λ q v c d. let y : suc j + q ≡ j + suc q = omega arith in rw y (at (suc q) v (omega arith) (rw e d)))) in
          rw (taken_more ws sh b x j n k (head_is (load ws sh) b (s.tables b) (h.reps.memory.tables b l) k fr e), take_free_more till n (λ g. reserved g i) (s.tables b) k fr e)
          (rw (table_at_law s b u, table_twice s b u (take_free till n (λ g. reserved g i) u)) at g)

-- ---- values

-- the words of the items' values are those of the table's slots
pub values_are : (m : Mem) (b : ℕ) (t : Table) → TableIs m b t → (x j : ℕ) (ks : List ℕ) → ((k : ℕ) → 0 < occurs k ks → is_absent (t.slots k) ≡ false)
    → Items (λ i k. m (item x i item_slot) ≡ k) j ks → values_at m b x j (length ks) ≡ map (value_at t) ks
unfolding look
values_are m b t i x j [] there p = refl
values_are m b t i x j (k ∷ ks) there p =
    let g : slot_word m b k slot_generation ≡ generation (t.slots k) = sym (slot_gen m (look m b) t (see m b t i) k (there k (occurs_head k ks))) in
    rw (p.0, i.mask, g) (ap (λ (l : List ℕ). encode t.mask k (generation (t.slots k)) ∷ l)
    (values_are m b t i x (suc j) ks (λ v o. there v (omega arith)) p.1))
