-- The first slots of the free order in the items of the row to come. Assumes nothing.
use Rattle.std.specs.Prelude.{◌≡◌, take}
use Rattle.std.proofs.Math.Path.{refl, ap}
use Rattle.std.proofs.Common.{subst, sym, ◌∙◌, arith}
use Rattle.std.proofs.Math.Bool.{and-false}
use mathlib.Core.List.{List, [], ◌∷◌}
use Prim.Native.Nat.{ℕ, zero, suc, ◌+◌, ◌-◌, ◌≤◌, ◌<◌}
use Rattle.std.proofs.Math.ListN.{length}
use borrow.Author.Tests.{eq-eqb, ne_eqb}
use Rattle.layout.specs.declared.Shape.{Shape}
use Rattle.layout.specs.Layout.{total, item, in_item, load, save, length_save, load_save, load_save_any, is_in}
use Rattle.layout.specs.Fields.{slot_next_free, item_slot}
use Rattle.layout.specs.Sizes.{batch_max}
use Rattle.representation.specs.Represents.{slot_word, Chain, Items}
use Rattle.book.specs.Ops.{Fills, fills_none, fills_then, fills_item}
use Rattle.book.specs.Whole.{slot_kept}
use Rattle.book.specs.Swap.{fills_books}
use Rattle.reserve.specs.Ops.{listed_w}

module _ (sh : Shape) (b x : ℕ) where
  -- only the row's items change
  pub listed_fills : (n : ℕ) (ws : List ℕ) (j l : ℕ) → total sh ≤ length ws → Fills ws (listed_w ws sh b x j l n) sh x
  unfolding listed_w
  listed_fills zero ws j l h = fills_none ws sh x
  listed_fills (suc n) ws j l h =
      let ws₁ : List ℕ = save ws sh (item x j item_slot) (l - 1) in let l₁ : ℕ = slot_word (load ws sh) b (l - 1) slot_next_free in
      fills_then ws ws₁ (listed_w ws₁ sh b x (suc j) l₁ n) sh x (fills_item ws sh h x j item_slot (l - 1))
      (listed_fills n ws₁ (suc j) l₁ (omega (arith, length_save ws sh (item x j item_slot) (l - 1))))

  -- and of these not the earlier ones
  listed_before : (n : ℕ) (ws : List ℕ) (j l i : ℕ) → total sh ≤ length ws → i < j → load (listed_w ws sh b x j l n) sh (item x i item_slot) ≡ load ws sh (item x i item_slot)
  unfolding listed_w
  listed_before zero ws j l i h low = refl
  listed_before (suc n) ws j l i h low =
      listed_before n (save ws sh (item x j item_slot) (l - 1)) (suc j) (slot_word (load ws sh) b (l - 1) slot_next_free) i (omega (arith, length_save ws sh (item x j item_slot) (l - 1))) (omega arith)
      ∙ load_save_any ws sh h (item x j item_slot) (l - 1) (item x i item_slot)
      ∙ rw (ne_eqb i j (λ e. omega arith), and-false (is_in sh (item x j item_slot)))

  -- THE ITEMS name the first n slots of an order
  pub listed_items : x < sh.rows → (n : ℕ) (ws : List ℕ) (j l p : ℕ) (next prev : ℕ → ℕ) (ks : List ℕ) → total sh ≤ length ws → j + n ≤ batch_max → n ≤ length ks
      → ((k : ℕ) → slot_word (load ws sh) b k slot_next_free ≡ next k) → Chain next prev l p ks → Items (λ i k. load (listed_w ws sh b x j l n) sh (item x i item_slot) ≡ k) j (take n ks)
  unfolding listed_w
  listed_items low zero ws j l p next prev ks h few long e c = tt
  listed_items low (suc n) ws j l p next prev [] h few long e c = absurd (omega arith)
  listed_items low (suc n) ws j l p next prev (k ∷ ks) h few long e c =
      let ws₁ : List ℕ = save ws sh (item x j item_slot) (l - 1) in
      let h₁ : total sh ≤ length (save ws sh (item x j item_slot) (l - 1)) = omega (arith, length_save ws sh (item x j item_slot) (l - 1)) in
      let k₁ : l - 1 ≡ k = omega (arith, c.0) in
      let l₁ : slot_word (load ws sh) b (l - 1) slot_next_free ≡ next k = ap (λ (i : ℕ). slot_word (load ws sh) b i slot_next_free) k₁ ∙ e k in
      let kept = slot_kept (load ws sh) (load (save ws sh (item x j item_slot) (l - 1)) sh) (fills_books ws (save ws sh (item x j item_slot) (l - 1)) sh x (fills_item ws sh h x j item_slot (l - 1))).only in
      subst (λ (f : ℕ). Items (λ i q. load (listed_w ws₁ sh b x (suc j) f n) sh (item x i item_slot) ≡ q) j (k ∷ take n ks)) (sym l₁) (
        listed_before n (save ws sh (item x j item_slot) (l - 1)) (suc j) (next k) j h₁ (omega arith)
            ∙ load_save ws sh h (item x j item_slot) (l - 1) (in_item sh x j item_slot low (omega arith) (omega arith)) (item x j item_slot)
            ∙ rw (eq-eqb j j refl, eq-eqb x x refl) k₁,
        listed_items low n (save ws sh (item x j item_slot) (l - 1)) (suc j) (next k) (suc k) next prev ks h₁ (omega arith) (omega arith) (λ i. kept b i slot_next_free ∙ e i) c.2,
      )
