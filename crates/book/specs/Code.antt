-- What the code's loops and stores say, in the terms of the definitions. Assumes nothing.
use Rattle.std.specs.Prelude.{◌≡◌, Bool, true, false, List, ℕ, zero, suc, ◌+◌, ◌-◌, ◌/◌, ◌≤◌, ◌<◌, min, ltb, Option, Some, None}
use Rattle.std.proofs.Math.Path.{refl, sym, ap}
use Rattle.std.proofs.Common.{◌∙◌, arith}
use Rattle.std.specs.Bool.{then_some}
use Rattle.std.proofs.Math.Dec.{eqb}
use Rattle.words.specs.Pick.{pick, bool, yes_is, no_is, pick_has}
use Rattle.layout.specs.declared.Shape.{Shape}
use Rattle.layout.specs.Layout.{Mem, index, rank, row, item, load, save}
use Rattle.layout.specs.Fields.{row_id, row_kind, item_slot}
use Rattle.layout.specs.Sizes.{batch_max}
use Rattle.storage.specs.Ops.{up, vacate_w}
use Rattle.storage.specs.Links.{place_of}
pub use Rattle.storage.specs.Links.{place_is, no_place, place_by}
use Rattle.book.specs.Ops.{id_at, link_from, row_link, kind_link, shift_w, vacate_items_w}

-- the row of a kind with an id
module _ (what : ℕ) (m : Mem) (sh : Shape) (i : ℕ) (r : Option ℕ) (e : r ≡ place_of (row_link m sh i)) where
  pub kind_missing : r ≡ None → None ≡ place_of (kind_link what m sh i)
  unfolding kind_link
  kind_missing d =
      let z : row_link m sh i ≡ 0 = no_place (row_link m sh i) (sym e ∙ d) in
      rw z (pick_has (λ (l : ℕ). None ≡ place_of l) (eqb (m (row (0 - 1) row_kind)) what) 0 0 (λ y. refl) (λ y. refl))

  module _ (x : ℕ) (d : r ≡ Some x) (w : ℕ) (g : w ≡ m (row x row_kind)) where
    row_here : row_link m sh i ≡ suc x
    row_here = place_is (row_link m sh i) x (sym e ∙ d)

    kind_here : m (row (row_link m sh i - 1) row_kind) ≡ w
    kind_here = let z : row_link m sh i - 1 ≡ x = omega (arith, row_here) in rw z (sym g)

    pub kind_found : (t : Bool) → t ≡ eqb w what → then_some t x ≡ place_of (kind_link what m sh i)
    unfolding kind_link
    kind_found t q = rw q (bool (eqb w what) (λ y. rw (kind_here, y, row_here)) (λ y. rw (kind_here, y)))

-- ---- `search_row`

-- fuel enough is enough
link_fuel : (m : Mem) (id f g i n : ℕ) → n ≤ f → n ≤ g → link_from m id f i n ≡ link_from m id g i n
link_fuel m id zero zero i n a b = refl
link_fuel m id zero (suc g) i zero a b = refl
link_fuel m id zero (suc g) i (suc n) a b = absurd (omega arith)
link_fuel m id (suc f) zero i zero a b = refl
link_fuel m id (suc f) zero i (suc n) a b = absurd (omega arith)
link_fuel m id (suc f) (suc g) i zero a b = refl
link_fuel m id (suc f) (suc g) i (suc n) a b =
    rw (link_fuel m id f g (i + suc n / 2 + 1) (suc n - suc n / 2 - 1) (omega arith) (omega arith), link_fuel m id f g i (suc n / 2) (omega arith) (omega arith))

-- one look
link_look : (m : Mem) (id i n h : ℕ) → 0 < n → h ≡ n / 2
    → link_from m id n i n ≡ pick (eqb (id_at m (i + h)) id) (up (m (index (i + h)))) (pick (ltb (id_at m (i + h)) id) (link_from m id (n - h - 1) (i + h + 1) (n - h - 1)) (link_from m id h i h))
link_look m id i zero h l e = absurd (omega arith)
link_look m id i (suc n) h l e =
    rw (e, link_fuel m id n (suc n - suc n / 2 - 1) (i + suc n / 2 + 1) (suc n - suc n / 2 - 1) (omega arith) (omega arith), link_fuel m id n (suc n / 2) i (suc n / 2) (omega arith) (omega arith))

-- n ranks are left, from i on; l is the link that is searched
module _ (m : Mem) (l id i n : ℕ) (inv : l ≡ link_from m id n i n) where
  module _ (some : 0 < n) (h x w : ℕ) (t : Bool) (eh : h ≡ n / 2) (ex : x ≡ m (index (i + h))) (ew : w ≡ m (row x row_id)) (et : t ≡ eqb w id) where
    there : w ≡ id_at m (i + h)
    there = rw ex at ew

    test_is : eqb (id_at m (i + h)) id ≡ t
    test_is = sym (et ∙ ap (λ (v : ℕ). eqb v id) there)

    pub link_yes : (y : ℕ) → t ≡ true → y ≡ up x → y ≡ l
    link_yes y d e = e ∙ ap up ex ∙ yes_is _ _ _ _ (test_is ∙ d) refl ∙ sym (inv ∙ link_look m id i n h some eh)

    module _ (d : t ≡ false) (t₂ : Bool) (et₂ : t₂ ≡ ltb w id) where
      order_is : ltb (id_at m (i + h)) id ≡ t₂
      order_is = sym (et₂ ∙ ap (λ (v : ℕ). ltb v id) there)

      pub link_above : t₂ ≡ true → l ≡ link_from m id (n - h - 1) (i + h + 1) (n - h - 1)
      link_above z = inv ∙ link_look m id i n h some eh ∙ sym (no_is _ _ _ _ (test_is ∙ d) (yes_is _ _ _ _ (order_is ∙ z) refl))

      pub link_below : t₂ ≡ false → l ≡ link_from m id h i h
      link_below z = inv ∙ link_look m id i n h some eh ∙ sym (no_is _ _ _ _ (test_is ∙ d) (no_is _ _ _ _ (order_is ∙ z) refl))

  pub link_end : n ≤ 0 → 0 ≡ l
  link_end none = let z : n ≡ 0 = omega arith in sym (inv ∙ ap (λ (v : ℕ). link_from m id v i v) z)

-- ---- `shift_down`

pub shift_none : (ws : List ℕ) (sh : Shape) (r : ℕ) → ws ≡ shift_w ws sh r (r - r)
unfolding shift_w
shift_none ws sh r = let z : r - r ≡ 0 = omega arith in rw z

pub shift_more : (ws : List ℕ) (sh : Shape) (r i y : ℕ) (us w vs : List ℕ) → r ≤ i → us ≡ shift_w ws sh r (i - r) → y ≡ load us sh (index (i + 1)) → w ≡ save us sh (index i) y → vs ≡ save w sh (rank y) i
    → vs ≡ shift_w ws sh r (i + 1 - r)
unfolding shift_w
shift_more ws sh r i y us w vs l e d a₁ a₂ =
    let z : i + 1 - r ≡ suc (i - r) = omega arith in let k : r + (i - r) ≡ i = omega arith in
    rw (z, k, ← e) (rw (a₂, a₁, d))

pub shift_end : (ws : List ℕ) (sh : Shape) (r i last : ℕ) (us : List ℕ) → i - r ≤ last - r → last ≤ i → us ≡ shift_w ws sh r (i - r) → us ≡ shift_w ws sh r (last - r)
shift_end ws sh r i last us l h e = let z : i - r ≡ last - r = omega arith in rw z at e

-- ---- `vacate_items`

pub vacate_none : (ws : List ℕ) (sh : Shape) (b x i : ℕ) → ws ≡ vacate_items_w ws sh b x i (i - i)
unfolding vacate_items_w
vacate_none ws sh b x i = let z : i - i ≡ 0 = omega arith in rw z

pub vacate_more : (ws : List ℕ) (sh : Shape) (b x i j k : ℕ) (us vs : List ℕ) → i ≤ j → us ≡ vacate_items_w ws sh b x i (j - i) → k ≡ load us sh (item x j item_slot) → vs ≡ vacate_w us sh b k
    → vs ≡ vacate_items_w ws sh b x i (j + 1 - i)
unfolding vacate_items_w
vacate_more ws sh b x i j k us vs l e d a =
    let z : j + 1 - i ≡ suc (j - i) = omega arith in let y : i + (j - i) ≡ j = omega arith in
    rw (z, y, ← e) (rw (a, d))

pub vacate_end : (ws : List ℕ) (sh : Shape) (b x i j n end : ℕ) (us : List ℕ) → end ≡ min n batch_max → j - i ≤ end - i → end ≤ j → us ≡ vacate_items_w ws sh b x i (j - i) → us ≡ vacate_items_w ws sh b x i (min n batch_max - i)
vacate_end ws sh b x i j n end us d l h e = let z : j - i ≡ min n batch_max - i = omega arith in rw z at e
