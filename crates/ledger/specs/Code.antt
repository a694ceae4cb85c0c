-- What the code's branches say, in the terms of the tests. Assumes nothing.
use Rattle.std.specs.Prelude.{◌≡◌, Bool, ◌&&◌, ℕ, suc, ◌+◌, ◌-◌, ◌≤◌, ◌<◌, eqb, leb}
use Rattle.std.proofs.Math.Path.{sym}
use Rattle.std.proofs.Common.{ap, ◌∙◌, arith, add-one}
use Rattle.std.proofs.Math.Bool.{true, false}
use borrow.Author.Tests.{le-leb}
use Rattle.words.specs.Pick.{bool}
use Rattle.words.specs.All.{all, all_stop}
use Rattle.model.specs.State.{till}
use Rattle.model.specs.Storage.{slots_of}
use Rattle.layout.specs.declared.Shape.{Shape}
use Rattle.layout.specs.Layout.{Mem, index, row, item}
use Rattle.layout.specs.Fields.{row_id, row_kind, item_page, item_frame}
use Rattle.layout.specs.Values.{kind_plan}
use Rattle.layout.specs.Sizes.{batch_max}
use Rattle.structure.specs.Code.{counted, counted_no}
use Rattle.ledger.specs.Plans.{want_at, low_at, held_b, item_held_b, pages_b, held_in}
use Rattle.ledger.specs.Ledger.{row_b, row_is, before, rank_b}

-- the row before a rank
pub before_next : (m : Mem) (i x id : ℕ) → x ≡ m (index i) → id ≡ m (row x row_id) → id ≡ before m (i + 1)
before_next m i x id e d = rw add-one (d ∙ ap (λ (y : ℕ). m (row y row_id)) e)

-- the loop over a plan's items
module _ (m : Mem) (sh : Shape) (x n : ℕ) where
  pub pages_stop : (j want low : ℕ) (t : Bool) → j < n → want ≡ want_at m x j → low ≡ low_at m x j → t ≡ held_b m sh x j want low → t ≡ false → false ≡ pages_b m sh x n
  unfolding pages_b
  pages_stop j want low t h ew el q e =
      let y : item_held_b m sh x j ≡ false = rw (← ew, ← el) (sym q ∙ e) in rw (all_stop n (item_held_b m sh x) j h y)

  pub item_held : (j want low : ℕ) (t : Bool) → want ≡ want_at m x j → low ≡ low_at m x j → t ≡ held_b m sh x j want low → t ≡ true → item_held_b m sh x j ≡ true
  item_held j want low t ew el q e = rw (← ew, ← el) (sym q ∙ e)

  pub want_next : (j want p k v : ℕ) → want ≡ want_at m x j → p ≡ m (item x j item_page) → k ≡ slots_of till p → v ≡ want - k → v ≡ want_at m x (j + 1)
  want_next j want p k v ew ep ek ev = rw add-one (ev ∙ omega (arith, ew, ek, ap (λ (q : ℕ). slots_of till q) ep))

  pub low_next : (j f : ℕ) → f ≡ m (item x j item_frame) → f + 1 ≡ low_at m x (j + 1)
  low_next j f e = let z : j + 1 ≡ suc j = omega arith in rw z (omega arith)

  pub pages_end : all n (item_held_b m sh x) ≡ true → pages_b m sh x n ≡ eqb (want_at m x n) 0
  unfolding pages_b
  pages_end a = rw a

-- a row, by its rank
pub rank_is : (m : Mem) (sh : Shape) (i x last : ℕ) (r : Bool) → x ≡ m (index i) → last ≡ before m i → r ≡ row_b m sh x last → r ≡ rank_b m sh i
rank_is m sh i x last r ex el q = q ∙ ap (λ (y : ℕ). row_b m sh y last) ex ∙ ap (row_b m sh (m (index i))) el

-- the loop over the rows
module _ (m : Mem) (sh : Shape) where
  -- a row that passes holds no more frames than it has entries
  pub held_few : (x last : ℕ) → row_b m sh x last ≡ (row_b m sh x last && leb (held_in m x) batch_max)
  held_few x last = bool (row_b m sh x last)
      (λ e. let o = row_is m sh x last e in
      let few : held_in m x ≤ batch_max = bool (eqb (m (row x row_kind)) kind_plan) (λ d. rw d o.few_items) (λ d. rw d (omega arith)) in rw (e, le-leb (held_in m x) batch_max few))
      (λ e. rw e)

  pub rows_stop : (n i z : ℕ) → i < n → rank_b m sh i ≡ false → 0 ≡ counted (all n (rank_b m sh)) z
  rows_stop n i z h e = counted_no (all n (rank_b m sh)) z (all_stop n (rank_b m sh) i h e)
