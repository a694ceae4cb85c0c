-- A reservation's slots fall vacant one after the other, and then the row leaves or shrinks: abort and trim. Assumes nothing.
use Rattle.std.specs.Prelude.{◌≡◌, refl, true, length, take, drop, eqb}
use Rattle.std.proofs.Common.{sym, ap, ◌∙◌, arith}
use Rattle.std.proofs.Math.Path.{subst}
use mathlib.Core.List.{List}
use Rattle.std.proofs.Math.Option.{some}
use Prim.Native.Nat.{ℕ, zero, suc, ◌+◌, ◌≤◌, ◌<◌}
use Rattle.words.specs.Pick.{bool}
use Rattle.model.specs.Base.{put, nth, occurs}
use Rattle.model.specs.State.{Sizes, till, Table, Body, Body.reservation, State, is_busy}
use Rattle.model.specs.Storage.{vacate, vacate_all}
use Rattle.model.specs.Change.{with_table}
use Rattle.model.proofs.Tests.{nth_some, nth_drop}
use Rattle.model.proofs.Changed.{with_own, with_over, with_table_at}
use Rattle.invariant.proofs.Pointwise.{vacate_all_more, vacate_all_out}
use Rattle.layout.specs.declared.Shape.{Shape}
use Rattle.layout.specs.Layout.{Mem, item, load}
use Rattle.layout.specs.Fields.{item_slot}
use Rattle.storage.specs.Ops.{vacate_w}
use Rattle.storage.specs.Turns.{vacate_turns}
use Rattle.storage.specs.Reps.{Held, ready_of, vacate_held}
use Rattle.book.specs.Lists.{take_more, occurs_drop, occurs_before}
use Rattle.book.specs.Places.{item_of}
use Rattle.book.specs.Ops.{vacate_items_w}
use Rattle.book.specs.Find.{RowAt}
use Rattle.book.specs.Fades.{Fades, fades_none, fades_then, vacate_fades, row_turned}

-- words that represent s, where the row stands in place x and no mark is new since m and u
pub record Follows (m : Mem) (u : State) (ws : List ℕ) (sh : Shape) (s : State) (x i : ℕ) (y : Body) : Type 0 where
  pub held : Held ws sh s
  pub row : RowAt (load ws sh) s x i y
  pub fades : Fades m u (load ws sh) s

-- one slot more of table b falls vacant, or is occupied
module _ (m : Mem) (u : State) (ws : List ℕ) (sh : Shape) (s : State) (x i : ℕ) (y : Body) (b : ℕ) (k : ℕ) where
  vacate_one : Follows m u ws sh s x i y → b < s.table_count → is_busy ((s.tables b).slots k) ≡ true → Follows m u (vacate_w ws sh b k) sh (with_table s b (vacate till (s.tables b) k)) x i y
  vacate_one p l was = record {
    held = vacate_held ws sh s p.held b l k was;
    row = row_turned (load ws sh) (load (vacate_w ws sh b k) sh) s b (vacate till (s.tables b) k) (vacate_turns ws sh b (s.tables b) (ready_of ws sh s p.held b l) k was).only x i y p.row;
    fades = fades_then m u (load ws sh) s (load (vacate_w ws sh b k) sh) (with_table s b (vacate till (s.tables b) k)) p.fades (vacate_fades ws sh s p.held b l k was);
  }

-- the same, by the table as it is then
module _ (m : Mem) (u : State) (ws : List ℕ) (sh : Shape) (s : State) (x i : ℕ) (y : Body) (b : ℕ) (t : Table) (p : Follows m u ws sh (with_table s b t) x i y) (l : b < s.table_count) (k : ℕ)
    (was : is_busy (t.slots k) ≡ true) where
  then_busy : is_busy (((with_table s b t).tables b).slots k) ≡ true
  then_busy = ap (λ (v : Table). is_busy (v.slots k)) (with_table_at s b t) ∙ was

  pub vacate_step : Follows m u (vacate_w ws sh b k) sh (with_table s b (vacate till t k)) x i y
  vacate_step =
      subst (λ (v : State). Follows m u (vacate_w ws sh b k) sh v x i y) (with_over s b t (vacate till t k))
      (subst (λ (v : Table). Follows m u (vacate_w ws sh b k) sh (with_table (with_table s b t) b (vacate till v k)) x i y) (with_table_at s b t)
      (vacate_one m u ws sh (with_table s b t) x i y b k p l then_busy))

-- n of the slots from a position on
abbrev pub part : ℕ → ℕ → List ℕ → List ℕ
part from n ks = take n (drop from ks)

part_more : (z : Sizes) (from n : ℕ) (ks : List ℕ) (t : Table) (k : ℕ) → nth ks (from + n) ≡ some k → vacate z (vacate_all z (part from n ks) t) k ≡ vacate_all z (part from (suc n) ks) t
part_more z from n ks t k e = sym (ap (λ (l : List ℕ). vacate_all z l t) (take_more n (drop from ks) k (nth_drop from ks n ∙ e)) ∙ vacate_all_more z (part from n ks) k t)

part_busy : (z : Sizes) (from n : ℕ) (ks : List ℕ) (t : Table) (k : ℕ) → nth ks (from + n) ≡ some k → occurs k ks ≤ 1 → is_busy (t.slots k) ≡ true → is_busy ((vacate_all z (part from n ks) t).slots k) ≡ true
part_busy z from n ks t k e once was =
    let out : occurs k (part from n ks) ≡ 0 = occurs_before n (drop from ks) k (nth_drop from ks n ∙ e) (omega (arith, occurs_drop from ks k)) in
    ap is_busy (vacate_all_out z (part from n ks) t k out) ∙ was

module _ (ws : List ℕ) (sh : Shape) (s : State) (h : Held ws sh s) (x i b : ℕ) (ks : List ℕ) (a : RowAt (load ws sh) s x i (reservation b ks)) (l : b < s.table_count)
    (once : (k : ℕ) → occurs k ks ≤ 1) (busy : (j k : ℕ) → nth ks j ≡ some k → is_busy ((s.tables b).slots k) ≡ true) (from : ℕ) where
  -- what holds with the table t
  abbrev After : List ℕ → Table → Type 0
  After vs t = Follows (load ws sh) s vs sh (with_table s b t) x i (reservation b ks)

  -- THE SLOTS FALL VACANT
  pub items_vacated : (n : ℕ) → from + n ≤ length ks → Follows (load ws sh) s (vacate_items_w ws sh b x from n) sh (with_table s b (vacate_all till (part from n ks) (s.tables b))) x i (reservation b ks)
  unfolding vacate_items_w
  items_vacated zero few = subst (λ (v : State). Follows (load ws sh) s ws sh v x i (reservation b ks)) (sym (with_own s b)) (record { held = h; row = a; fades = fades_none (load ws sh) s })
  items_vacated (suc n) few = go (vacate_items_w ws sh b x from n) (nth_some ks (from + n) (omega arith)) (items_vacated n (omega arith))
    where
      go : (vs : List ℕ) → ((k : ℕ) × (nth ks (from + n) ≡ some k)) → After vs (vacate_all till (part from n ks) (s.tables b))
          → After (vacate_w vs sh b (load vs sh (item x (from + n) item_slot))) (vacate_all till (part from (suc n) ks) (s.tables b))
      go vs q p =
          let d : load vs sh (item x (from + n) item_slot) ≡ q.0 = item_of (λ j k. load vs sh (item x j item_slot) ≡ k) ks p.row.body.3 (from + n) q.0 q.1 in
          subst (λ (z : ℕ). After (vacate_w vs sh b z) (vacate_all till (part from (suc n) ks) (s.tables b))) (sym d)
          (subst (λ (v : Table). After (vacate_w vs sh b q.0) v) (part_more till from n ks (s.tables b) q.0 q.1)
          (vacate_step (load ws sh) s vs sh s x i (reservation b ks) b (vacate_all till (part from n ks) (s.tables b)) p l q.0
          (part_busy till from n ks (s.tables b) q.0 q.1 (once q.0) (busy (from + n) q.0 q.1))))
