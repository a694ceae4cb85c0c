-- The words of an item, stored one behind the other from where it stands. Assumes nothing.
use Rattle.std.specs.Prelude.{◌≡◌, refl, false, List, ℕ, suc, ◌+◌, ◌*◌, ◌^◌, ◌<◌, length, set}
use Rattle.std.proofs.Common.{sym, ap, ◌∙◌, arith, length-set}
use Rattle.std.proofs.Math.Seq.{set_out}
use Rattle.words.specs.Pick.{bool, clash}
use Rattle.layout.specs.declared.Shape.{Shape}
use Rattle.layout.specs.declared.Extent.{Extent}
use Rattle.layout.specs.Regions.{region, in_place}
use Rattle.layout.specs.Layout.{layout, rows_at, item, place, In, is_in, in_is, in_yes, in_no, in_item, place_out, save, save_out}
use Rattle.layout.specs.Fields.{item_operation, item_moved, item_object, item_rights, item_flags, item_granted}
use Rattle.layout.specs.Sizes.{batch_max, block_size, row_blocks}
use Rattle.layout.specs.RegionNames.{region_row}
use Rattle.layout.specs.Values.{operation_move, operation_copy}
use Rattle.lookup.specs.declared.PreparedHandle.{PreparedHandle}
use Rattle.transfer.specs.Ops.{moved_w}
use Rattle.transfer.specs.Preparing.{copied_w}

-- `item_place`
module _ (n : ℕ) (sh : Shape) (x j : ℕ) where
  pub item_stands : j < batch_max → x < sh.rows → (e : Extent) → e ≡ region (layout sh) region_row → e.low + (x * row_blocks + j + 1) * block_size ≡ place n sh (item x j item_operation)
  item_stands a b e q = let z : e.low ≡ rows_at sh = ap (λ (r : Extent). r.low) q in
      sym (in_place (region (layout sh) region_row) x (suc j) 0 n (in_item sh x j item_operation b a (omega arith)) ∙ omega (arith, z))

  pub item_none : (In sh (item x j item_operation) → ⊥) → n ≡ place n sh (item x j item_operation)
  item_none h = sym (place_out n sh (item x j item_operation) (in_no sh (item x j item_operation) h))

-- a store f words behind
stored : (ws : List ℕ) (sh : Shape) (x j p f v : ℕ) → p ≡ place (length ws) sh (item x j item_operation) → f < block_size → set ws (p + f) v ≡ save ws sh (item x j f) v
unfolding save
stored ws sh x j p f v e l = bool (is_in sh (item x j item_operation))
    (λ y. let i = in_is sh (item x j item_operation) y in
    let a = in_place (region (layout sh) region_row) x (suc j) 0 (length ws) i in
    let b = in_place (region (layout sh) region_row) x (suc j) f (length ws) (record { xs = i.xs; ys = i.ys; fs = l }) in
    ap (λ (k : ℕ). set ws k v) (omega (arith, a, b, e)))
    (λ y. let o : place (length ws) sh (item x j item_operation) ≡ length ws = place_out (length ws) sh (item x j item_operation) y in
    let n : is_in sh (item x j f) ≡ false = in_no sh (item x j f) (λ i. clash (in_yes sh (item x j item_operation) (record { xs = i.xs; ys = i.ys; fs = omega arith })) y) in
    set_out ws (p + f) v (omega (arith, o, e)) ∙ sym (save_out ws sh (item x j f) v n))

module _ (ws : List ℕ) (sh : Shape) (x j p : ℕ) (e : p ≡ place (length ws) sh (item x j item_operation)) where
  -- after a store
  next : (vs us : List ℕ) (f v : ℕ) → length vs ≡ length ws → f < block_size → us ≡ set vs (p + f) v → (us ≡ save vs sh (item x j f) v) × (length us ≡ length ws)
  next vs us f v l a d =
      (d ∙ stored vs sh x j p f v (e ∙ ap (λ (n : ℕ). place n sh (item x j item_operation)) (sym l)) a, ap length d ∙ length-set vs (p + f) v ∙ l)

  first : (us : List ℕ) (v : ℕ) → us ≡ set ws p v → (us ≡ save ws sh (item x j item_operation) v) × (length us ≡ length ws)
  first us v d = let z : p ≡ p + 0 = omega arith in next ws us item_operation v refl (omega arith) (d ∙ ap (λ (k : ℕ). set ws k v) z)

  -- `put_moved`
  pub moved_by : (w₀ w₁ w₂ w₃ w₄ w₅ : List ℕ) (h : PreparedHandle) (r : ℕ) → w₀ ≡ set ws p operation_move → w₁ ≡ set w₀ (p + item_moved) h.slot → w₂ ≡ set w₁ (p + item_object) h.object
      → w₃ ≡ set w₂ (p + item_rights) h.rights → w₄ ≡ set w₃ (p + item_flags) h.flags → w₅ ≡ set w₄ (p + item_granted) r → w₅ ≡ moved_w ws sh x j h r
  unfolding moved_w
  moved_by w₀ w₁ w₂ w₃ w₄ w₅ h r d₀ d₁ d₂ d₃ d₄ d₅ =
      let a₀ = first w₀ 0 d₀ in
      let a₁ = next w₀ w₁ item_moved h.slot a₀.1 (omega arith) d₁ in
      let a₂ = next w₁ w₂ item_object h.object a₁.1 (omega arith) d₂ in
      let a₃ = next w₂ w₃ item_rights h.rights a₂.1 (omega arith) d₃ in
      let a₄ = next w₃ w₄ item_flags h.flags a₃.1 (omega arith) d₄ in
      let a₅ = next w₄ w₅ item_granted r a₄.1 (omega arith) d₅ in
      rw (a₅.0, a₄.0, a₃.0, a₂.0, a₁.0, a₀.0)

  -- `put_copied`
  pub copied_by : (w₀ w₂ w₃ w₄ : List ℕ) (h : PreparedHandle) (r : ℕ) → w₀ ≡ set ws p operation_copy → w₂ ≡ set w₀ (p + item_object) h.object → w₃ ≡ set w₂ (p + item_rights) r → w₄ ≡ set w₃ (p + item_flags) h.flags
      → w₄ ≡ copied_w ws sh x j h r
  unfolding copied_w
  copied_by w₀ w₂ w₃ w₄ h r d₀ d₂ d₃ d₄ =
      let a₀ = first w₀ 1 d₀ in
      let a₂ = next w₀ w₂ item_object h.object a₀.1 (omega arith) d₂ in
      let a₃ = next w₂ w₃ item_rights r a₂.1 (omega arith) d₃ in
      let a₄ = next w₃ w₄ item_flags h.flags a₃.1 (omega arith) d₄ in
      rw (a₄.0, a₃.0, a₂.0, a₀.0)

-- no place overflows
pub rows_low : (sh : Shape) (e : Extent) → sh.tables < 256 → sh.pages < 4294967296 → sh.frames < 65536 → sh.objects < 65536 → sh.rows < 65536 → e ≡ region (layout sh) region_row
    → e.low < 2 ^ 60
rows_low sh e a b c d r q = let z : e.low ≡ rows_at sh = ap (λ (x : Extent). x.low) q in omega (arith, z)
