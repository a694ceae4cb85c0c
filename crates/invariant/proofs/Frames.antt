-- Growth by the pages that a reservation needs, and the frames that pages own.
use Rattle.std.specs.Prelude.{◌≡◌, false, ◌&&◌, take, drop, eqb, ltb}
use Rattle.std.proofs.Math.Path.{refl, ap}
use Rattle.std.proofs.Common.{sym, ◌∙◌, mod-lt, length-take}
use Rattle.std.proofs.Math.Bool.{true, not}
use mathlib.Core.List.{List, [], ◌∷◌}
use Rattle.std.proofs.Math.Option.{Option, none, some}
use Prim.Native.Nat.{ℕ, zero, suc, ◌+◌, ◌-◌, ◌%◌, ◌^◌, ◌≤◌, ◌<◌}
use native.Mathlib.Omega.{arith}
use Rattle.std.proofs.Math.ListN.{length}
use borrow.Author.Tests.{ltb-true, ltb-false, eqb-true, eqb-false, eq-eqb, ne_eqb, not-true}
use Rattle.codec.specs.Codec.{next_generation}
use Rattle.model.specs.Base.{bit, occurs, without, insert, sum, is_some}
use Rattle.model.specs.State.{Sizes, Slot, Slot.absent, Slot.vacant, max_slots, Table, max_batch}
use Rattle.model.specs.Storage.{page_of, on_page, slots_of, page_range, pages_from, pages_for, attach, attach_all, grow, detach}
use Rattle.model.specs.WellFormed.{is_frame, is_attached, Rising}
use Rattle.model.proofs.Tests.{apart, bool, clash, and_left, and_right, bit_true, bit_small, same, also_some}
use Rattle.model.proofs.Sums.{without_none, length_push, length_range, sum_equal, sum_put}
use Rattle.invariant.proofs.Pointwise.{Alike, attach_free, attach_slots, grow_slots, grow_free}
use Rattle.invariant.proofs.Pages.{Sane, page_slots_law}
use Rattle.invariant.proofs.Orders.{Sound, recast, absent_out, order_is, Room, attach_sound}

module _ (z : Sizes) where
  -- pages that can be attached one after another
  abbrev pub Grows : Table → List ℕ → Type 0
  Grows t [] = Unit {0}
  Grows t (p ∷ ps) = Room t p × ((f : ℕ) → Grows (attach z t p f) ps)

  -- the slots that pages bring
  abbrev pub room : List ℕ → ℕ
  room [] = 0
  room (p ∷ ps) = slots_of z p + room ps

  pub attach_all_length : (ps fs : List ℕ) (t : Table) → length ps ≤ length fs → length (attach_all z ps fs t).free ≡ room ps + length t.free
  attach_all_length [] fs t l = omega arith
  attach_all_length (p ∷ ps) [] t l = absurd (omega arith)
  attach_all_length (p ∷ ps) (f ∷ fs) t l =
      let h : length (attach z t p f).free ≡ slots_of z p + length t.free = ap length (attach_free z t p f) ∙ length_push (page_range z p) t.free
      ∙ ap (λ n. n + length t.free) (length_range _ (slots_of z p)) in
      omega (arith, attach_all_length ps fs (attach z t p f) (omega arith))

module _ (z : Sizes) (sane : Sane z) where
  planned : (fuel needed : ℕ) (ds : List ℕ) (n l : ℕ) (t : Table) (fr : List ℕ) → Sound z t fr → t.detached ≡ ds → t.size ≡ n → t.limit ≡ l
      → (ps : List ℕ) → pages_from z fuel needed ds n l ≡ some ps → Grows z t ps × (needed ≤ fuel → needed ≤ room z ps)
  unfolding attach
  planned zero zero ds n l t fr o d c k ps e = let y : ps ≡ [] = cc in rw y (tt, λ h. h)
  planned zero (suc m) ds n l t fr o d c k ps e = apart (cc)
  planned (suc fuel) zero ds n l t fr o d c k ps e = let y : ps ≡ [] = cc in rw y (tt, λ h. omega arith)
  planned (suc fuel) (suc m) [] n l t fr o d c k ps e = bool (eqb n l)
      (λ q. let x : none ≡ some ps = rw q at e in apart (cc))
      (λ q. let a = also_some n (pages_from z fuel (suc m - slots_of z n) [] (suc n) l) ps (rw q at e) in
      let x : n ≡ l → ⊥ = eqb-false n l q in
      let r : Room t n = record {
        out = ap (λ p. is_some p.frame) (o.rest n (omega arith));
        next = omega arith;
        within = omega (arith, o.size);
      } in
      let i : (f : ℕ) → Grows z (attach z t n f) a.0 × (suc m - slots_of z n ≤ fuel → suc m - slots_of z n ≤ room z a.0) = λ f.
      planned fuel (suc m - slots_of z n) [] (suc n) l (attach z t n f) _ (attach_sound z sane t fr n f o r) (ap (without n) d) (rw (c, same n)) k
      a.0 a.1 in
      rw a.2 (
        (r, λ f. (i f).0),
        λ h. omega (
          arith,
          page_slots_law z sane n (omega (arith, o.limit, r.within)),
          (i 0).1
              (omega (arith, page_slots_law z sane n (omega (arith, o.limit, r.within)))),
        ),
      ))
  planned (suc fuel) (suc m) (p ∷ ds) n l t fr o d c k ps e =
      let a = also_some p (pages_from z fuel (suc m - slots_of z p) ds n l) ps e in
      let h : 1 + occurs p ds ≡ bit (ltb p t.size && not (is_attached t p)) = rw (d, same p) at (o.detached p) in
      let b : (ltb p t.size && not (is_attached t p)) ≡ true = bit_true (ltb p t.size && not (is_attached t p)) (omega arith) in
      let u : p < t.size = ltb-true p t.size (and_left (ltb p t.size) (not (is_attached t p)) b) in
      let r : Room t p = record {
        out = not-true (is_attached t p) (and_right (ltb p t.size) (not (is_attached t p)) b);
        next = omega arith;
        within = omega (arith, o.size);
      } in
      let w : without p t.detached ≡ ds = rw (d, same p)
      (without_none p ds (omega (arith, bit_small (ltb p t.size && not (is_attached t p))))) in
      let i : (f : ℕ) → Grows z (attach z t p f) a.0 × (suc m - slots_of z p ≤ fuel → suc m - slots_of z p ≤ room z a.0) = λ f.
      planned fuel (suc m - slots_of z p) ds n l (attach z t p f) _ (attach_sound z sane t fr p f o r) w
      (rw (ne_eqb p t.size (λ y. omega arith)) c) k a.0 a.1 in
      rw a.2 (
        (r, λ f. (i f).0),
        λ h. omega (
          arith,
          page_slots_law z sane p (omega (arith, o.limit, r.within)),
          (i 0).1
              (omega (arith, page_slots_law z sane p (omega (arith, o.limit, r.within)))),
        ),
      )

  pub pages_grow : (t : Table) (fr : List ℕ) → Sound z t fr → (n : ℕ) (ps : List ℕ) → pages_for z t n ≡ some ps → Grows z t ps
  unfolding pages_for
  pages_grow t fr o n ps e = (planned max_batch (n - length t.free) t.detached t.size t.limit t fr o refl refl refl ps e).0

  pages_enough : (t : Table) (fr : List ℕ) → Sound z t fr → (n : ℕ) → n ≤ max_batch → (ps : List ℕ) → pages_for z t n ≡ some ps
      → n ≤ room z ps + length t.free
  unfolding pages_for
  pages_enough t fr o n l ps e = omega
      (arith, (planned max_batch (n - length t.free) t.detached t.size t.limit t fr o refl refl refl ps e).1 (omega arith))

  -- the free order then has as many slots as the batch
  pub reserve_length : (t : Table) (fr : List ℕ) → Sound z t fr → (n : ℕ) → n ≤ max_batch → (ps fs : List ℕ) → pages_for z t n ≡ some ps
      → length ps ≤ length fs
      → length (take n (grow z ps fs t).free) ≡ n
  reserve_length t fr o n l ps fs e m = rw (grow_free z ps fs t, length-take n (attach_all z ps fs t).free, attach_all_length z ps fs t m)
      (omega (arith, pages_enough t fr o n l ps e))

  attach_all_sound : (ps fs : List ℕ) (t : Table) → Sound z t t.free → Grows z t ps → Sound z (attach_all z ps fs t) (attach_all z ps fs t).free
  attach_all_sound [] fs t o g = o
  attach_all_sound (p ∷ ps) [] t o g = o
  attach_all_sound (p ∷ ps) (f ∷ fs) t o g = attach_all_sound ps fs (attach z t p f)
      (order_is z (attach z t p f) _ (attach z t p f).free (sym (attach_free z t p f)) (attach_sound z sane t t.free p f o g.0)) (g.1 f)

  pub grow_sound : (ps fs : List ℕ) (t : Table) → Sound z t t.free → Grows z t ps → Sound z (grow z ps fs t) (grow z ps fs t).free
  grow_sound [] fs t o g = o
  grow_sound (p ∷ ps) fs t o g = let u : Table = attach_all z (p ∷ ps) fs t in
      recast z u u.free (attach_all_sound (p ∷ ps) fs t o g) u.mask u.life ((u.epoch + 1) % 2 ^ 64) u.free (mod-lt (u.epoch + 1) (omega arith))

-- the slots of pages that are attached were absent and are vacant: what shows no difference between these shows none at all
module _ {A : Type 0} (z : Sizes) (F : Slot → A) (blank : (g : ℕ) → F (vacant g) ≡ F absent) where
  attach_shows : (t : Table) (fr : List ℕ) → Sound z t fr → (p f : ℕ) → Room t p → (j : ℕ) → F ((attach z t p f).slots j) ≡ F (t.slots j)
  attach_shows t fr o p f r j = ap F (attach_slots z t p f j) ∙ bool (on_page z p j)
      (λ e. let i : page_of z j ≡ p = eqb-true (page_of z j) p (and_left (eqb (page_of z j) p) (ltb j max_slots) e) in
      rw (e, absent_out z t fr o j (rw i r.out)) (blank (next_generation (t.pages p).high)))
      (λ e. rw e)

  attach_all_shows : Sane z → (ps fs : List ℕ) (t : Table) (fr : List ℕ) → Sound z t fr → Grows z t ps → (j : ℕ)
      → F ((attach_all z ps fs t).slots j) ≡ F (t.slots j)
  attach_all_shows sane [] fs t fr o g j = refl
  attach_all_shows sane (p ∷ ps) [] t fr o g j = refl
  attach_all_shows sane (p ∷ ps) (f ∷ fs) t fr o g j =
      attach_all_shows sane ps fs (attach z t p f) _ (attach_sound z sane t fr p f o g.0) (g.1 f) j ∙ attach_shows t fr o p f g.0 j

  pub grow_shows : Sane z → (ps fs : List ℕ) (t : Table) (fr : List ℕ) → Sound z t fr → Grows z t ps → (j : ℕ)
      → F ((grow z ps fs t).slots j) ≡ F (t.slots j)
  grow_shows sane ps fs t fr o g j = ap F (grow_slots z ps fs t j) ∙ attach_all_shows sane ps fs t fr o g j

-- how many pages of a table have a frame
abbrev pub owned : Table → ℕ → ℕ
owned t f = sum t.limit λ p. bit (is_frame (t.pages p).frame f)

frame_none : (x : Option ℕ) → is_some x ≡ false → (f : ℕ) → is_frame x f ≡ false
frame_none none e f = refl
frame_none (some g) e f = clash {b = true} refl e

module _ (z : Sizes) where
  pub owned_alike : (t u : Table) → Alike z t u → (f : ℕ) → owned u f ≡ owned t f
  owned_alike t u a f = rw a.limit
      (sum_equal t.limit (λ p. bit (is_frame (u.pages p).frame f)) (λ p. bit (is_frame (t.pages p).frame f)) (λ p l. rw (a.frame p)))

  attach_owned : (t : Table) (p f₀ f : ℕ) → Room t p → owned (attach z t p f₀) f ≡ owned t f + bit (eqb f f₀)
  unfolding attach
  attach_owned t p f₀ f r =
      let n : bit (is_frame (t.pages p).frame f) ≡ 0 = rw (frame_none (t.pages p).frame r.out f) in
      omega (arith, sum_put (λ x. bit (is_frame x.frame f)) t.limit t.pages p (record { frame = some f₀; high = next_generation (t.pages p).high }) r.within)

  pub attach_all_owned : (ps fs : List ℕ) (t : Table) → length ps ≤ length fs → Grows z t ps → (f : ℕ)
      → owned (attach_all z ps fs t) f ≡ owned t f + occurs f (take (length ps) fs)
  attach_all_owned [] fs t l g f = omega arith
  attach_all_owned (p ∷ ps) [] t l g f = absurd (omega arith)
  attach_all_owned (p ∷ ps) (f₀ ∷ fs) t l g f = omega
      (arith, attach_all_owned ps fs (attach z t p f₀) (omega arith) (g.1 f₀) f, attach_owned t p f₀ f g.0)

  pub grow_owned : (ps fs : List ℕ) (t : Table) → length ps ≤ length fs → Grows z t ps → (f : ℕ)
      → owned (grow z ps fs t) f ≡ owned t f + occurs f (take (length ps) fs)
  grow_owned [] fs t l g f = omega arith
  grow_owned (p ∷ ps) fs t l g f = attach_all_owned (p ∷ ps) fs t l g f

  pub detach_owned : (t : Table) (p f : ℕ) → p < t.limit → owned (detach z t p) f + bit (is_frame (t.pages p).frame f) ≡ owned t f
  unfolding detach
  detach_owned t p f l = omega (arith, sum_put (λ x. bit (is_frame x.frame f)) t.limit t.pages p (record { frame = none; high = (t.pages p).high }) l)

-- the free frames stay in rising order

pub rising_tail : (x : ℕ) (xs : List ℕ) → Rising (x ∷ xs) → Rising xs
rising_tail x [] r = tt
rising_tail x (y ∷ xs) r = r.1

pub rising_drop : (n : ℕ) (xs : List ℕ) → Rising xs → Rising (drop n xs)
rising_drop zero xs r = r
rising_drop (suc n) [] r = tt
rising_drop (suc n) (x ∷ xs) r = rising_drop n xs (rising_tail x xs r)

absent_head : (a b : ℕ) (l : List ℕ) → occurs a (b ∷ l) ≡ 0 → a ≡ b → ⊥
absent_head a b l c q = let h : 1 + occurs a l ≡ 0 = rw (eq-eqb a b q) at c in omega arith

pub rising_insert : (x : ℕ) (xs : List ℕ) → occurs x xs ≡ 0 → Rising xs → Rising (insert x xs)
rising_insert x [] c r = tt
rising_insert x (y ∷ []) c r = bool (ltb x y)
    (λ e. rw e (ltb-true x y e, tt))
    (λ e. let n : x ≡ y → ⊥ = absent_head x y [] c in rw e (omega (arith, ltb-false x y e), tt))
rising_insert x (y ∷ w ∷ ws) c r = let i = rising_insert x (w ∷ ws) (omega arith) r.1 in bool (ltb x y)
    (λ e. rw e (ltb-true x y e, r))
    (λ e. let n : x ≡ y → ⊥ = absent_head x y (w ∷ ws) c in
    let m : y < x = omega (arith, ltb-false x y e) in
    rw e (bool (ltb x w) (λ d. rw d (m, rw d at i)) (λ d. rw d (r.0, rw d at i))))
