-- The row with an id: where `row_of` finds it. Assumes nothing.
use Rattle.std.specs.Prelude.{◌≡◌, length, eqb, ltb}
use Rattle.std.proofs.Math.Path.{refl, ap}
use Rattle.std.proofs.Common.{sym, ◌∙◌}
use Rattle.std.proofs.Math.Option.{Option, none, some}
use Prim.Native.Nat.{ℕ, zero, suc, ◌+◌, ◌-◌, ◌/◌, ◌≤◌, ◌<◌}
use native.Mathlib.Omega.{arith}
use borrow.Author.Tests.{eq-eqb, eqb-true, eqb-false, ltb-true, ltb-false}
use Rattle.words.specs.Pick.{bool}
use Rattle.model.specs.Base.{nth}
use Rattle.model.specs.State.{Sizes, Body, Row, State}
use Rattle.model.specs.Book.{find}
use Rattle.model.specs.WellFormed.{IdsRise, WellFormed}
use Rattle.model.proofs.Tests.{nth_some}
use Rattle.layout.specs.declared.Shape.{Shape}
use Rattle.layout.specs.Layout.{Mem, owner, index, rank, row}
use Rattle.layout.specs.Fields.{row_id, row_kind}
use Rattle.layout.specs.Sizes.{rows_max}
use Rattle.representation.specs.Represents.{BodyIs, Represents}
use Rattle.storage.specs.Kept.{body_kept, RowsStay}
use Rattle.storage.specs.Ops.{up}
use Rattle.book.specs.Lists.{ids_rise, find_nth, nth_find, nth_below}
use Rattle.book.specs.Places.{Indexed, row_of}
use Rattle.book.specs.Ops.{id_at, link_from, used_of, likely_rank, likely_link, row_link, kind_link}

-- the book of a well-formed state: its rows have places, and their ids rise
pub record Fits (s : State) : Type 0 where
  pub room : length s.book.rows ≤ s.book.capacity
  pub rise : IdsRise 1 s.book.rows s.book.next

pub fits_of : {z : Sizes} (s : State) → WellFormed z s → Fits s
fits_of s w = record { room = w.ranges.row_count; rise = w.ids.rise }

-- the row with the id i stands in place x
pub record RowAt (m : Mem) (s : State) (x i : ℕ) (b : Body) : Type 0 where
  pub place : x < s.book.capacity
  pub used : m (rank x) < length s.book.rows
  pub named : m (index (m (rank x))) ≡ x
  pub listed : nth s.book.rows (m (rank x)) ≡ some (record { id = i; body = b })
  pub id : m (row x row_id) ≡ i
  pub body : BodyIs m x b

-- it does so where the rows and the owners of frames stay
pub row_kept : (m n : Mem) (s u : State) → u.book ≡ s.book → RowsStay m n → ((f : ℕ) → n (owner f) ≡ m (owner f)) → (x i : ℕ) (b : Body) → RowAt m s x i b → RowAt n u x i b
row_kept m n s u e o own x i b a = record {
  place = rw e a.place;
  used = rw (o.ranks x, e) a.used;
  named = rw (o.ranks x) (o.places (m (rank x)) ∙ a.named);
  listed = rw (o.ranks x, e) a.listed;
  id = o.rows x row_id ∙ a.id;
  body = body_kept m n x (o.items x) (o.rows x) (λ f d. own f) b a.body;
}

pub indexed : (sh : Shape) (m : Mem) (s : State) → Represents sh m s → Indexed m s.book.capacity
indexed sh m s r = record { named = r.book.places }

module _ (sh : Shape) (m : Mem) (s : State) (r : Represents sh m s) (f : Fits s) where
  -- the row of a rank
  pub row_at : (j i : ℕ) (b : Body) → nth s.book.rows j ≡ some (record { id = i; body = b }) → RowAt m s (m (index j)) i b
  row_at j i b e =
      let l : j < length s.book.rows = nth_below s.book.rows j (record { id = i; body = b }) e in
      let p = r.book.places j (omega (arith, f.room)) in
      let q = row_of m s.book.rows r.book.rows j (record { id = i; body = b }) e in
      let z : m (rank (m (index j))) ≡ j = p.1 in
      record { place = p.0; used = rw z l; named = ap (λ (k : ℕ). m (index k)) z; listed = ap (nth s.book.rows) z ∙ e; id = q.0; body = q.1 }

  used_is : used_of m sh ≡ length s.book.rows
  used_is = omega (arith, r.book.used, r.capacity, f.room)

  pub at_find : (x i : ℕ) (b : Body) → RowAt m s x i b → find i s.book.rows ≡ some b
  at_find x i b a = find_nth 1 s.book.next s.book.rows (m (rank x)) i b f.rise a.listed

-- ---- the search

-- a row that it finds is one of the ranks
link_some : (m : Mem) (id c : ℕ) → c ≤ rows_max → (f i n x : ℕ) → n ≤ f → ((j : ℕ) → j < i + n → m (index j) < c) → link_from m id f i n ≡ suc x
    → (j : ℕ) × (j < i + n) × (m (index j) ≡ x) × (m (row x row_id) ≡ id)
link_some m id c few zero i n x l low e = absurd (omega arith)
link_some m id c few (suc f) i zero x l low e = absurd (omega arith)
link_some m id c few (suc f) i (suc n) x l low e = bool (eqb (id_at m (i + suc n / 2)) id)
    (λ q. let d : up (m (index (i + suc n / 2))) ≡ suc x = rw q at e in
    let z : m (index (i + suc n / 2)) ≡ x = omega (arith, low (i + suc n / 2) (omega arith)) in
    (i + suc n / 2, omega arith, z, ap (λ (y : ℕ). m (row y row_id)) (sym z) ∙ eqb-true (id_at m (i + suc n / 2)) id q))
    (λ q. bool (ltb (id_at m (i + suc n / 2)) id)
    (λ g. let p = link_some m id c few f (i + suc n / 2 + 1) (suc n - suc n / 2 - 1) x (omega arith) (λ j h. low j (omega arith)) (rw (q, g) at e) in
    (p.0, omega (arith, p.1), p.2, p.3))
    (λ g. let p = link_some m id c few f i (suc n / 2) x (omega arith) (λ j h. low j (omega arith)) (rw (q, g) at e) in
    (p.0, omega (arith, p.1), p.2, p.3)))

-- so is the row of the likely rank
likely_some : (m : Mem) (id c : ℕ) → c ≤ rows_max → (n x : ℕ) → ((j : ℕ) → j < n → m (index j) < c) → likely_link m id n ≡ suc x → (j : ℕ) × (j < n) × (m (index j) ≡ x) × (m (row x row_id) ≡ id)
unfolding likely_link
likely_some m id c few n x low e = bool (ltb (likely_rank m id n) n)
    (λ y. let under : likely_rank m id n < n = ltb-true (likely_rank m id n) n y in
    bool (eqb (id_at m (likely_rank m id n)) id)
    (λ q. let d : up (m (index (likely_rank m id n))) ≡ suc x = rw (y, q) at e in
    let z : m (index (likely_rank m id n)) ≡ x = omega (arith, low (likely_rank m id n) under) in
    (likely_rank m id n, under, z, ap (λ (v : ℕ). m (row v row_id)) (sym z) ∙ eqb-true (id_at m (likely_rank m id n)) id q))
    (λ q. let d : 0 ≡ suc x = rw (y, q) at e in absurd (omega arith)))
    (λ y. let d : 0 ≡ suc x = rw y at e in absurd (omega arith))

-- whichever of the two it is
row_some : (m : Mem) (sh : Shape) (id : ℕ) → sh.rows ≤ rows_max → (x : ℕ) → ((j : ℕ) → j < used_of m sh → m (index j) < sh.rows) → row_link m sh id ≡ suc x
    → (j : ℕ) × (j < used_of m sh) × (m (index j) ≡ x) × (m (row x row_id) ≡ id)
unfolding row_link
row_some m sh id few x low e = bool (eqb (likely_link m id (used_of m sh)) 0)
    (λ y. let p = link_some m id sh.rows few (used_of m sh) 0 (used_of m sh) x (omega arith) (λ j h. low j (omega arith)) (rw y at e) in
    (p.0, omega (arith, p.1), p.2, p.3))
    (λ y. likely_some m id sh.rows few (used_of m sh) x low (rw y at e))

-- where there is none, the search found none
row_left_none : (m : Mem) (sh : Shape) (id : ℕ) → row_link m sh id ≡ 0 → link_from m id (used_of m sh) 0 (used_of m sh) ≡ 0
unfolding row_link
row_left_none m sh id e = bool (eqb (likely_link m id (used_of m sh)) 0)
    (λ y. rw y at e)
    (λ y. absurd (eqb-false (likely_link m id (used_of m sh)) 0 y (rw y at e)))

-- the ids of the ranks under n rise
abbrev Rising : Mem → ℕ → Type 0
Rising m n = (j k : ℕ) → j < k → k < n → id_at m j < id_at m k

rank_order : (m : Mem) (n : ℕ) → Rising m n → (j k : ℕ) → j < n → id_at m j < id_at m k → j < k
rank_order m n rise j k a l = bool (ltb j k)
    (λ y. ltb-true j k y)
    (λ y. bool (eqb j k)
    (λ z. absurd (omega (arith, ap (id_at m) (eqb-true j k z))))
    (λ z. absurd (omega (arith, rise k j (omega (arith, ltb-false j k y, eqb-false j k z)) a))))

-- where they rise, a search that finds none leaves none
link_none : (m : Mem) (id f i n : ℕ) → n ≤ f → Rising m (i + n) → link_from m id f i n ≡ 0 → (j : ℕ) → i ≤ j → j < i + n → id_at m j ≡ id → ⊥
link_none m id zero i n l rise e j a b d = omega arith
link_none m id (suc f) i zero l rise e j a b d = omega arith
link_none m id (suc f) i (suc n) l rise e j a b d =
    let k : ℕ = i + suc n / 2 in
    bool (eqb (id_at m k) id)
    (λ q. let z : up (m (index k)) ≡ 0 = rw q at e in omega arith)
    (λ q. bool (ltb (id_at m k) id)
    (λ g. let o : k < j = rank_order m (i + suc n) rise k j (omega arith) (omega (arith, ltb-true (id_at m k) id g)) in
    link_none m id f (k + 1) (suc n - suc n / 2 - 1) (omega arith) (λ x y u v. rise x y u (omega arith)) (rw (q, g) at e) j (omega arith) (omega arith) d)
    (λ g. let o : j < k = rank_order m (i + suc n) rise j k b (omega (arith, ltb-false (id_at m k) id g, eqb-false (id_at m k) id q)) in
    link_none m id f i (suc n / 2) (omega arith) (λ x y u v. rise x y u (omega arith)) (rw (q, g) at e) j a (omega arith) d))

row_parts : (x : Row) (i : ℕ) → x.id ≡ i → x ≡ record { id = i; body = x.body }
row_parts x i e = rw (← e)

module _ (sh : Shape) (m : Mem) (s : State) (r : Represents sh m s) (f : Fits s) where
  -- ids rise with rank
  rising : Rising m (0 + used_of m sh)
  rising j k l h =
      let a = nth_some s.book.rows j (omega (arith, used_is sh m s r f)) in
      let b = nth_some s.book.rows k (omega (arith, used_is sh m s r f)) in
      let u = (row_of m s.book.rows r.book.rows j a.0 a.1).0 in
      let v = (row_of m s.book.rows r.book.rows k b.0 b.1).0 in
      omega (arith, u, v, ids_rise 1 s.book.next s.book.rows j k a.0 b.0 f.rise a.1 b.1 l)

  -- THE ROW that the search finds
  pub row_found : sh.rows ≤ rows_max → (i x : ℕ) → row_link m sh i ≡ suc x → (b : Body) × (find i s.book.rows ≡ some b) × RowAt m s x i b
  row_found few i x e =
      let low : (j : ℕ) → j < used_of m sh → m (index j) < sh.rows = λ j h. let p = (r.book.places j (omega (arith, r.capacity))).0 in omega (arith, r.capacity) in
      let p = row_some m sh i few x low e in
      let j : ℕ = p.0 in
      let under : j < length s.book.rows = omega (arith, p.1, used_is sh m s r f) in
      let q = nth_some s.book.rows j under in
      let w = row_of m s.book.rows r.book.rows j q.0 q.1 in
      let id : q.0.id ≡ i = sym w.0 ∙ ap (λ (z : ℕ). m (row z row_id)) p.2 ∙ p.3 in
      let a : RowAt m s x i q.0.body = rw p.2 at (row_at sh m s r f j i q.0.body (q.1 ∙ ap some (row_parts q.0 i id))) in
      (q.0.body, at_find sh m s r f x i q.0.body a, a)

  -- or there is none
  pub row_none : (i : ℕ) → row_link m sh i ≡ 0 → find i s.book.rows ≡ none
  row_none i e = go (find i s.book.rows) refl
    where
      go : (o : Option Body) → find i s.book.rows ≡ o → o ≡ none
      go none d = refl
      go (some b) d = let p = nth_find s.book.rows i b d in
          let a = row_at sh m s r f p.0 i b p.1 in
          absurd (link_none m i (used_of m sh) 0 (used_of m sh) (omega arith) rising (row_left_none m sh i e) p.0 (omega arith) (omega (arith, used_is sh m s r f, nth_below s.book.rows p.0 (record { id = i; body = b }) p.1)) a.id)

  -- no row of the kind: none with the id, or one that word 1 tells from it
  pub kind_none : sh.rows ≤ rows_max → (what i : ℕ) (P : Option Body → Type 0) → P none → ((x : ℕ) (b : Body) → BodyIs m x b → (m (row x row_kind) ≡ what → ⊥) → P (some b))
      → kind_link what m sh i ≡ 0 → P (find i s.book.rows)
  unfolding kind_link
  kind_none few what i P p q e = go (row_link m sh i) refl e
    where
      go : (l : ℕ) → row_link m sh i ≡ l → kind_link what m sh i ≡ 0 → P (find i s.book.rows)
      go zero z d = rw (row_none i z) p
      go (suc x) z d =
          let g = row_found few i x z in
          let y : row_link m sh i - 1 ≡ x = omega arith in
          rw g.1 (q x g.0 g.2.body (λ k. let n : row_link m sh i ≡ 0 = rw (y, eq-eqb (m (row x row_kind)) what k) at d in omega arith))

  -- the row of the kind
  pub kind_some : sh.rows ≤ rows_max → (what i x : ℕ) → kind_link what m sh i ≡ suc x → (b : Body) × (find i s.book.rows ≡ some b) × RowAt m s x i b × (m (row x row_kind) ≡ what)
  unfolding kind_link
  kind_some few what i x e = bool (eqb (m (row (row_link m sh i - 1) row_kind)) what)
      (λ q. let l : row_link m sh i ≡ suc x = rw q at e in
      let g = row_found few i x l in
      let y : row_link m sh i - 1 ≡ x = omega arith in
      (g.0, g.1, g.2, ap (λ (v : ℕ). m (row v row_kind)) (sym y) ∙ eqb-true (m (row (row_link m sh i - 1) row_kind)) what q))
      (λ q. let l : 0 ≡ suc x = rw q at e in absurd (omega arith))
