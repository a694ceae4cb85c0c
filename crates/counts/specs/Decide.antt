-- The check decides whether the counts are right, in the words' terms and in the model's. Assumes nothing.
use Rattle.std.specs.Prelude.{◌≡◌, true, List, [], ◌∷◌, ℕ, zero, suc, ◌+◌, ◌≤◌, ◌<◌, length}
use Rattle.std.proofs.Common.{sym, ◌∙◌, arith}
use Rattle.std.proofs.Math.Dec.{eqb}
use borrow.Author.Tests.{eq-eqb, eqb-true, le-leb}
use Rattle.words.specs.Pick.{clash}
use Rattle.words.specs.All.{all_at, all_yes}
use Rattle.model.specs.State.{till, Body, Body.reservation, Body.claim, Body.parcel, Body.plan, Row, State, max_batch}
use Rattle.model.proofs.Sums.{sum_part}
use Rattle.model.specs.WellFormed.{All, BodyRange, RowRange, handle_count, WellFormed}
use Rattle.layout.specs.declared.Shape.{Shape}
use Rattle.layout.specs.Layout.{Mem, total, object, index, load}
use Rattle.layout.specs.Fields.{object_active}
use Rattle.representation.specs.Represents.{BodyIs, RowsAre, Represents}
use Rattle.counts.specs.Found.{handles, counts_b}
use Rattle.counts.specs.Code.{counts_in}
use Rattle.counts.specs.Handles.{FewHandles, Bounds, handles_are}

-- ---- in the words' terms

module _ (m : Mem) (sh : Shape) where
  pub counts_sound : counts_b m sh ≡ true → (o : ℕ) → o < sh.objects → m (object o object_active) ≡ handles m sh o
  unfolding counts_b
  counts_sound e o l = eqb-true (m (object o object_active)) (handles m sh o) (all_at sh.objects (λ i. eqb (m (object i object_active)) (handles m sh i)) e o l)

  pub counts_complete : ((o : ℕ) → o < sh.objects → m (object o object_active) ≡ handles m sh o) → counts_b m sh ≡ true
  unfolding counts_b
  counts_complete h = all_yes sh.objects (λ i. eqb (m (object i object_active)) (handles m sh i)) (λ o l. eq-eqb (m (object o object_active)) (handles m sh o) (h o l))

-- with words enough the answer is that of the memory
pub counts_in_law : (ws : List ℕ) (sh : Shape) → total sh ≤ length ws → counts_in ws sh ≡ counts_b (load ws sh) sh
unfolding counts_in
counts_in_law ws sh h = rw (le-leb (total sh) (length ws) h)

-- ---- in the model's

module _ (sh : Shape) (m : Mem) (s : State) (r : Represents sh m s) (n : Bounds sh m) where
  -- the clause `counted` of a well-formed state
  pub counted_sound : counts_b m sh ≡ true → (o : ℕ) → o < s.object_count → (s.objects o).count ≡ handle_count s o
  counted_sound e o l = sym (r.objects o l).count ∙ counts_sound m sh e o (omega (arith, r.object_count)) ∙ handles_are sh m s r n o

  pub counted_complete : ((o : ℕ) → o < s.object_count → (s.objects o).count ≡ handle_count s o) → counts_b m sh ≡ true
  counted_complete h = counts_complete m sh (λ o l. let i : o < s.object_count = omega (arith, r.object_count) in (r.objects o i).count ∙ h o i ∙ sym (handles_are sh m s r n o))

-- ---- the bounds hold in a well-formed state

module _ (m : Mem) (s : State) where
  body_bound : (x : ℕ) (y : Body) → BodyIs m x y → BodyRange till s y → FewHandles m x
  unfolding max_batch
  body_bound x (reservation b ks) p q h = omega (arith, p.2, q.1.1)
  body_bound x (claim b es) p q h = omega (arith, p.2, q.1.1)
  body_bound x (parcel hs) p q h = omega (arith, p.1, q.0.1)
  body_bound x (plan b n w fs) p q h = clash h (rw p.kind)

  rows_bound : (i : ℕ) (rs : List Row) → RowsAre m i rs → All (RowRange till s) rs → (k : ℕ) → k < length rs → FewHandles m (m (index (i + k)))
  rows_bound i [] p q k l = absurd (omega arith)
  rows_bound i (r ∷ rs) p q zero l = let e : i + 0 ≡ i = omega arith in rw e (body_bound (m (index i)) r.body p.1 q.0)
  rows_bound i (r ∷ rs) p q (suc k) l = let e : i + suc k ≡ suc i + k = omega arith in rw e (rows_bound (suc i) rs p.2 q.1 k (omega arith))

pub bounds_of : (sh : Shape) (m : Mem) (s : State) → Represents sh m s → WellFormed till s → Bounds sh m
bounds_of sh m s r w = record {
  pages = λ b l. let i : b < s.table_count = omega (arith, r.table_count) in
      omega (arith, (r.tables b i).size, (w.ranges.tables b i).size, r.page_count, sum_part s.table_count (λ c. (s.tables c).limit) b i);
  rows = omega (arith, r.book.used, w.ranges.row_count, r.capacity);
  items = λ i l. let e : 0 + i ≡ i = omega arith in rw e at (rows_bound m s 0 s.book.rows r.book.rows w.ranges.rows i (omega (arith, r.book.used)));
}
