-- Objects' counts raised by d for each handle of a list, as words of 64 bits. Assumes nothing.
use Rattle.std.specs.Prelude.{◌≡◌, refl, true, false, List, [], ◌∷◌, ◌++◌, ℕ, ◌+◌, ◌*◌, ◌%◌, ◌<◌, length}
use Rattle.std.proofs.Common.{sym, ◌∙◌, arith, get_or-set_other, eq-eqb, ne_eqb}
use Rattle.std.proofs.Math.Path.{ap}
use Rattle.std.proofs.Math.ListN.{get_or, set, length-set}
use Rattle.layout.specs.Sizes.{object_size}
use Rattle.words.specs.Pick.{bool, clash}
use Rattle.layout.specs.declared.Shape.{Shape}
use Rattle.layout.specs.Regions.{region, one_place, inside_is, in_place}
use Rattle.layout.specs.Layout.{Addr, Addr.reg, total, layout, layout_stacked, objects_at, object, in_object, is_in, place, same, same_all, load, save, length_save, load_out, save_out}
use Rattle.layout.specs.Fields.{object_active}
use Rattle.layout.specs.RegionNames.{region_object}
use Rattle.counts.specs.Found.{OffObjects}

-- a word with d more: past the largest it starts again
abbrev pub plus : ℕ → ℕ → ℕ
plus c d = (c + d) % 18446744073709551616

-- one more in the upper half of a word
abbrev pub unit : ℕ
unit = 4294967296

-- the count of object o with d more
unfoldable pub shift_w : List ℕ → Shape → ℕ → ℕ → List ℕ
shift_w ws sh d o = save ws sh (object o object_active) (plus (load ws sh (object o object_active)) d)

-- of each object of a list in turn
abbrev pub shifted : List ℕ → Shape → ℕ → List ℕ → List ℕ
shifted ws sh d [] = ws
shifted ws sh d (o ∷ os) = shifted (shift_w ws sh d o) sh d os

pub shifted_append : (ws : List ℕ) (sh : Shape) (d : ℕ) (xs ys : List ℕ) → shifted ws sh d (xs ++ ys) ≡ shifted (shifted ws sh d xs) sh d ys
shifted_append ws sh d [] ys = refl
shifted_append ws sh d (x ∷ xs) ys = shifted_append (shift_w ws sh d x) sh d xs ys

pub length_shift : (ws : List ℕ) (sh : Shape) (d o : ℕ) → length (shift_w ws sh d o) ≡ length ws
unfolding shift_w
length_shift ws sh d o = length_save ws sh (object o object_active) (plus (load ws sh (object o object_active)) d)

pub length_shifted : (ws : List ℕ) (sh : Shape) (d : ℕ) (os : List ℕ) → length (shifted ws sh d os) ≡ length ws
length_shifted ws sh d [] = refl
length_shifted ws sh d (o ∷ os) = length_shifted (shift_w ws sh d o) sh d os ∙ length_shift ws sh d o

-- ---- other addresses

module _ (ws : List ℕ) (sh : Shape) where
  apart : (a b : Addr) → same a b ≡ false → is_in sh a ≡ true → is_in sh b ≡ true → place (length ws) sh b ≡ place (length ws) sh a → ⊥
  apart (reg k x y f) (reg k' x' y' f') s i j e =
      let o = one_place (length ws) 0 (total sh) (layout sh) (layout_stacked sh) k' x' y' f' k x y f (inside_is (region (layout sh) k') x' y' f' j) (inside_is (region (layout sh) k) x y f i) e in
      clash (same_all k x y f k' x' y' f' ∙ rw (eq-eqb k' k o.0, eq-eqb f' f o.3, eq-eqb y' y o.2, eq-eqb x' x o.1)) s

  in_both : (a b : Addr) (v : ℕ) → same a b ≡ false → is_in sh a ≡ true → is_in sh b ≡ true → load (save ws sh a v) sh b ≡ load ws sh b
  unfolding load save
  in_both a b v s i j = rw length-set (get_or-set_other ws (place (length ws) sh a) (place (length ws) sh b) v 0 (apart a b s i j))

  -- a store at another address does not show, though there be too few words
  pub load_other : (a b : Addr) (v : ℕ) → same a b ≡ false → load (save ws sh a v) sh b ≡ load ws sh b
  load_other a b v s = bool (is_in sh a)
      (λ i. bool (is_in sh b)
      (λ j. in_both a b v s i j)
      (λ j. load_out (save ws sh a v) sh b j ∙ sym (load_out ws sh b j)))
      (λ i. ap (λ (w : List ℕ). load w sh b) (save_out ws sh a v i))

pub shift_off : (ws : List ℕ) (sh : Shape) (d o : ℕ) → OffObjects (load ws sh) (load (shift_w ws sh d o) sh)
unfolding shift_w
shift_off ws sh d o k x y f h = load_other ws sh (object o object_active) (reg k x y f) (plus (load ws sh (object o object_active)) d) (same_all region_object o 0 object_active k x y f ∙ rw (ne_eqb k region_object h))

pub shifted_off : (ws : List ℕ) (sh : Shape) (d : ℕ) (os : List ℕ) → OffObjects (load ws sh) (load (shifted ws sh d os) sh)
shifted_off ws sh d [] k x y f h = refl
shifted_off ws sh d (o ∷ os) k x y f h = shifted_off (shift_w ws sh d o) sh d os k x y f h ∙ shift_off ws sh d o k x y f h

-- ---- where the fields of object o stand

module _ (ws : List ℕ) (sh : Shape) (first o : ℕ) (h : first ≡ objects_at sh) (l : o < sh.objects) (i f : ℕ) (k : f < object_size) (e : i ≡ first + o * object_size + f) where
  object_place : i ≡ place (length ws) sh (object o f)
  object_place = e ∙ sym (in_place (region (layout sh) region_object) o 0 f (length ws) (in_object sh o f l k) ∙ omega arith)

  pub object_load : get_or ws i 0 ≡ load ws sh (object o f)
  unfolding load
  object_load = ap (λ (j : ℕ). get_or ws j 0) object_place

  pub object_save : (v : ℕ) → set ws i v ≡ save ws sh (object o f) v
  unfolding save
  object_save v = ap (λ (j : ℕ). set ws j v) object_place

-- the count of object o
module _ (ws : List ℕ) (sh : Shape) (first o : ℕ) (h : first ≡ objects_at sh) (l : o < sh.objects) where
  pub active_load : get_or ws (first + o * object_size + object_active) 0 ≡ load ws sh (object o object_active)
  active_load = object_load ws sh first o h l _ object_active (omega arith) refl

  pub active_save : (v : ℕ) → set ws (first + o * object_size + object_active) v ≡ save ws sh (object o object_active) v
  active_save v = object_save ws sh first o h l _ object_active (omega arith) refl v
