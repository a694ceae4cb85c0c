-- Stores at other addresses: they commute, and a load keeps its word, whatever the lengths. Assumes nothing.
use Rattle.std.specs.Prelude.{◌≡◌, refl, false, List, [], ◌∷◌, ℕ, length}
use Rattle.std.proofs.Common.{sym, ap, ◌∙◌, get_or-set_other, eq-eqb}
use Rattle.std.proofs.Math.ListN.{length-set}
use Rattle.std.proofs.lemmas.List.{set_comm}
use Rattle.words.specs.Pick.{bool, clash}
use Rattle.layout.specs.Regions.{one_place}
use Rattle.layout.specs.declared.Shape.{Shape}
use Rattle.layout.specs.Layout.{Addr, Addr.reg, layout, layout_stacked, total, same, same_all, In, is_in, in_is, place, load, save, load_out, save_out, Write, Write.at, writes}

places_apart : (n : ℕ) (sh : Shape) (a b : Addr) → In sh a → In sh b → same a b ≡ false → place n sh a ≡ place n sh b → ⊥
places_apart n sh (reg k x y f) (reg k' x' y' f') i j s e =
    let o = one_place n 0 (total sh) (layout sh) (layout_stacked sh) k' x' y' f' k x y f j i (sym e) in
    clash (same_all k x y f k' x' y' f' ∙ rw (eq-eqb k' k o.0, eq-eqb f' f o.3, eq-eqb y' y o.2, eq-eqb x' x o.1)) s

module _ (ws : List ℕ) (sh : Shape) (a b : Addr) (s : same a b ≡ false) where
  in_comm : (v w : ℕ) → In sh a → In sh b → save (save ws sh a v) sh b w ≡ save (save ws sh b w) sh a v
  unfolding save
  in_comm v w i j = rw (length-set, length-set) (set_comm ws (place (length ws) sh a) (place (length ws) sh b) v w (places_apart (length ws) sh a b i j s))

  pub save_comm : (v w : ℕ) → save (save ws sh a v) sh b w ≡ save (save ws sh b w) sh a v
  save_comm v w = bool (is_in sh a)
      (λ p. bool (is_in sh b)
      (λ q. in_comm v w (in_is sh a p) (in_is sh b q))
      (λ q. save_out (save ws sh a v) sh b w q ∙ ap (λ (u : List ℕ). save u sh a v) (sym (save_out ws sh b w q))))
      (λ p. ap (λ (u : List ℕ). save u sh b w) (save_out ws sh a v p) ∙ sym (save_out (save ws sh b w) sh a v p))

  in_keeps : (v : ℕ) → In sh a → In sh b → load (save ws sh a v) sh b ≡ load ws sh b
  unfolding load save
  in_keeps v i j = rw length-set (get_or-set_other ws (place (length ws) sh a) (place (length ws) sh b) v 0 (λ e. places_apart (length ws) sh a b i j s (sym e)))

  pub load_other : (v : ℕ) → load (save ws sh a v) sh b ≡ load ws sh b
  load_other v = bool (is_in sh a)
      (λ p. bool (is_in sh b)
      (λ q. in_keeps v (in_is sh a p) (in_is sh b q))
      (λ q. load_out (save ws sh a v) sh b q ∙ sym (load_out ws sh b q)))
      (λ p. ap (λ (u : List ℕ). load u sh b) (save_out ws sh a v p))

-- no store of a plan goes to the address a
abbrev pub Off : Addr → List Write → Type 0
Off a [] = Unit {0}
Off a (at c v ∷ xs) = (same c a ≡ false) × Off a xs

-- so a store there may come before or after the plan
pub save_off : (ws : List ℕ) (sh : Shape) (a : Addr) (v : ℕ) (xs : List Write) → Off a xs → writes (save ws sh a v) sh xs ≡ save (writes ws sh xs) sh a v
save_off ws sh a v [] o = refl
save_off ws sh a v (at c w ∷ xs) o = ap (λ (u : List ℕ). writes u sh xs) (sym (save_comm ws sh c a o.0 w v)) ∙ save_off (save ws sh c w) sh a v xs o.1

-- and the word there stays
pub load_off : (ws : List ℕ) (sh : Shape) (a : Addr) (xs : List Write) → Off a xs → load (writes ws sh xs) sh a ≡ load ws sh a
load_off ws sh a [] o = refl
load_off ws sh a (at c w ∷ xs) o = load_off (save ws sh c w) sh a xs o.1 ∙ load_other ws sh c a o.0 w
