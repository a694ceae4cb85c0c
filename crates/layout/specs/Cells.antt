-- All words of a slot at once. Assumes nothing.
use Rattle.std.specs.Prelude.{◌≡◌, List, ℕ, ◌+◌, ◌<◌, length, get_or}
use Rattle.std.proofs.Common.{sym, ap, ◌∙◌, add-zero, arith}
use Rattle.words.specs.Pick.{bool}
use Rattle.layout.specs.declared.Shape.{Shape}
use Rattle.layout.specs.declared.Extent.{Extent}
use Rattle.layout.specs.declared.CellWords.{CellWords}
use Rattle.layout.specs.Regions.{region, inside, place_in, inside_is, in_place, no_place}
use Rattle.layout.specs.Layout.{Mem, layout, cell, load, in_cell_law}
use Rattle.layout.specs.Fields.{slot_tag, slot_generation, slot_object, slot_rights, slot_flags, slot_unused}
use Rattle.layout.specs.RegionNames.{region_cell}
use Rattle.layout.specs.Sizes.{slot_size}

abbrev pub cell_at : Mem → ℕ → ℕ → CellWords
cell_at m fr j = record { tag = m (cell fr j slot_tag); generation = m (cell fr j slot_generation); object = m (cell fr j slot_object); rights = m (cell fr j slot_rights); flags = m (cell fr j slot_flags); unused = m (cell fr j slot_unused) }

-- a slot whose first word has a place among the words has its others behind that
pub cell_by : (ws : List ℕ) (sh : Shape) (fr j : ℕ) (e : Extent) (at k : ℕ) → e ≡ region (layout sh) region_cell → at ≡ place_in (length ws) e fr j slot_tag → at < length ws → k < slot_size
    → get_or ws (at + k) 0 ≡ load ws sh (cell fr j k)
unfolding load
cell_by ws sh fr j e at k a b l h = bool (inside (region (layout sh) region_cell) fr j 0)
    (λ q. let i = inside_is (region (layout sh) region_cell) fr j 0 q in
    let p : at ≡ place_in (length ws) (region (layout sh) region_cell) fr j 0 = b ∙ ap (λ (d : Extent). place_in (length ws) d fr j 0) a in
    ap (λ (x : ℕ). get_or ws x 0) (omega (arith, p, in_place (region (layout sh) region_cell) fr j 0 (length ws) i, in_place (region (layout sh) region_cell) fr j k (length ws) (in_cell_law sh fr j k i.xs i.ys h))))
    (λ q. absurd (omega (arith, b ∙ ap (λ (d : Extent). place_in (length ws) d fr j 0) a, no_place (region (layout sh) region_cell) fr j 0 (length ws) q)))

abbrev words6 : ℕ → ℕ → ℕ → ℕ → ℕ → ℕ → CellWords
words6 a b c d e f = record { tag = a; generation = b; object = c; rights = d; flags = e; unused = f }

-- word by word
pub cell_each : (m : Mem) (fr j a b c d e f : ℕ) → a ≡ m (cell fr j slot_tag) → b ≡ m (cell fr j slot_generation) → c ≡ m (cell fr j slot_object) → d ≡ m (cell fr j slot_rights) → e ≡ m (cell fr j slot_flags) → f ≡ m (cell fr j slot_unused)
    → words6 a b c d e f ≡ cell_at m fr j
cell_each m fr j a b c d e f p q r s t u = rw (p, q, r, s, t, u)

-- all six behind the place of the first
pub cell_read : (ws : List ℕ) (sh : Shape) (fr j : ℕ) (e : Extent) (at : ℕ) → e ≡ region (layout sh) region_cell → at ≡ place_in (length ws) e fr j slot_tag → at < length ws
    → words6 (get_or ws at 0) (get_or ws (at + slot_generation) 0) (get_or ws (at + slot_object) 0) (get_or ws (at + slot_rights) 0) (get_or ws (at + slot_flags) 0) (get_or ws (at + slot_unused) 0) ≡ cell_at (load ws sh) fr j
cell_read ws sh fr j e at a b l =
    let by : (k : ℕ) → k < slot_size → get_or ws (at + k) 0 ≡ load ws sh (cell fr j k) = λ k. cell_by ws sh fr j e at k a b l in
    cell_each (load ws sh) fr j _ _ _ _ _ _ (ap (λ (x : ℕ). get_or ws x 0) (sym (add-zero at)) ∙ by slot_tag (omega arith)) (by slot_generation (omega arith)) (by slot_object (omega arith)) (by slot_rights (omega arith)) (by slot_flags (omega arith)) (by slot_unused (omega arith))
