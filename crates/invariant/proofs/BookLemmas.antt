-- The book's rows: what is found, counted and open after a row is added, dropped or swapped.
use Rattle.std.specs.Prelude.{◌≡◌, refl, true, false, List, [], ◌∷◌, ◌++◌, ℕ, suc, ◌+◌, ◌≤◌, ◌<◌, length, eqb}
use Rattle.std.proofs.Common.{sym, ap, ◌∙◌, arith, eqb-true, ne_eqb}
use Rattle.std.proofs.Math.Option.{none, some}
use Rattle.model.specs.State.{Sizes, Handle, Body, Body.reservation, Body.claim, Body.parcel, Body.plan, Row, State}
use Rattle.model.specs.Base.{occurs}
use Rattle.model.specs.Book.{find, drop_id, swap_id, opens_in, any_open}
use Rattle.model.specs.WellFormed.{WellFormed, EntryRange, HandleRange, Batch, PlanRange, BodyRange, All, IdsRise, over_rows, frames_in, plans_with, handles_in, in_handles, in_rows}
use Rattle.model.proofs.Tests.{apart, clash, bool, same, or_false, or_left, or_right}

-- a row of an id
abbrev pub row : ℕ → Body → Row
row i b = record { id = i; body = b }

-- what is found

pub find_drop_same : (i : ℕ) (rs : List Row) → find i (drop_id i rs) ≡ none
find_drop_same i [] = refl
find_drop_same i (r ∷ rs) = bool (eqb r.id i) (λ e. rw e (find_drop_same i rs)) (λ e. rw (e, e) (find_drop_same i rs))

pub find_drop_other : (i j : ℕ) → (j ≡ i → ⊥) → (rs : List Row) → find j (drop_id i rs) ≡ find j rs
find_drop_other i j n [] = refl
find_drop_other i j n (r ∷ rs) = bool (eqb r.id i)
    (λ e. rw (e, ne_eqb r.id j (λ z. n (sym z ∙ eqb-true r.id i e))) (find_drop_other i j n rs))
    (λ e. rw (e, find_drop_other i j n rs))

pub find_swap_same : (i : ℕ) (b c : Body) (rs : List Row) → find i rs ≡ some c → find i (swap_id i b rs) ≡ some b
find_swap_same i b c [] p = cc
find_swap_same i b c (r ∷ rs) p = bool (eqb r.id i) (λ e. rw (e, e)) (λ e. rw (e, e) (find_swap_same i b c rs (rw e at p)))

pub find_swap_other : (i j : ℕ) → (j ≡ i → ⊥) → (b : Body) (rs : List Row) → find j (swap_id i b rs) ≡ find j rs
find_swap_other i j n b [] = refl
find_swap_other i j n b (r ∷ rs) = bool (eqb r.id i)
    (λ e. rw (e, ne_eqb r.id j (λ z. n (sym z ∙ eqb-true r.id i e))) (find_swap_other i j n b rs))
    (λ e. rw (e, find_swap_other i j n b rs))

pub find_add_same : (i : ℕ) (b : Body) (rs : List Row) → find i rs ≡ none → find i (rs ++ (row i b ∷ [])) ≡ some b
find_add_same i b [] p = rw (same i)
find_add_same i b (r ∷ rs) p = bool (eqb r.id i)
    (λ e. let z : some r.body ≡ none = rw e at p in cc)
    (λ e. rw e (find_add_same i b rs (rw e at p)))

pub find_add_other : (i j : ℕ) → (j ≡ i → ⊥) → (b : Body) (rs : List Row) → find j (rs ++ (row i b ∷ [])) ≡ find j rs
find_add_other i j n b [] = rw (ne_eqb i j (λ z. n (sym z)))
find_add_other i j n b (r ∷ rs) = rw (find_add_other i j n b rs)

-- rows under an id that is swapped, then dropped; and two drops
pub drop_swap : (i : ℕ) (b : Body) (rs : List Row) → drop_id i (swap_id i b rs) ≡ drop_id i rs
drop_swap i b [] = refl
drop_swap i b (r ∷ rs) = bool (eqb r.id i) (λ e. rw (e, e) (drop_swap i b rs)) (λ e. rw (e, e, drop_swap i b rs))

pub drop-drop : (i j : ℕ) (rs : List Row) → drop_id i (drop_id j rs) ≡ drop_id j (drop_id i rs)
drop-drop i j [] = refl
drop-drop i j (r ∷ rs) = bool (eqb r.id i)
    (λ e. bool (eqb r.id j) (λ q. rw (e, q) (drop-drop i j rs)) (λ q. rw (e, q, e) (drop-drop i j rs)))
    (λ e. bool (eqb r.id j) (λ q. rw (e, q) (drop-drop i j rs)) (λ q. rw (e, q, e, drop-drop i j rs)))

-- ids rise

pub ids_order : (lo hi : ℕ) (rs : List Row) → IdsRise lo rs hi → lo ≤ hi
ids_order lo hi [] h = h
ids_order lo hi (r ∷ rs) h = omega (arith, ids_order (suc r.id) hi rs h.1)

pub ids_none : (lo hi i : ℕ) (rs : List Row) → IdsRise lo rs hi → hi ≤ i → find i rs ≡ none
ids_none lo hi i [] h p = refl
ids_none lo hi i (r ∷ rs) h p =
    rw (ne_eqb r.id i (λ z. omega (arith, ids_order (suc r.id) hi rs h.1))) (ids_none (suc r.id) hi i rs h.1 p)

pub ids_under : (lo hi i : ℕ) (rs : List Row) → IdsRise lo rs hi → i < lo → find i rs ≡ none
ids_under lo hi i [] h p = refl
ids_under lo hi i (r ∷ rs) h p = rw (ne_eqb r.id i (λ z. omega arith)) (ids_under (suc r.id) hi i rs h.1 (omega arith))

pub ids_weaken : (a lo hi : ℕ) (rs : List Row) → a ≤ lo → IdsRise lo rs hi → IdsRise a rs hi
ids_weaken a lo hi [] p h = omega arith
ids_weaken a lo hi (r ∷ rs) p h = (omega arith, h.1)

pub ids_spend : (lo hi : ℕ) (rs : List Row) → IdsRise lo rs hi → IdsRise lo rs (hi + 1)
ids_spend lo hi [] h = omega arith
ids_spend lo hi (r ∷ rs) h = (h.0, ids_spend (suc r.id) hi rs h.1)

pub ids_add : (lo hi : ℕ) (b : Body) (rs : List Row) → IdsRise lo rs hi → IdsRise lo (rs ++ (row hi b ∷ [])) (hi + 1)
ids_add lo hi b [] h = (h, omega arith)
ids_add lo hi b (r ∷ rs) h = (h.0, ids_add (suc r.id) hi b rs h.1)

pub ids_drop : (lo hi i : ℕ) (rs : List Row) → IdsRise lo rs hi → IdsRise lo (drop_id i rs) hi
ids_drop lo hi i [] h = h
ids_drop lo hi i (r ∷ rs) h = let q = ids_drop (suc r.id) hi i rs h.1 in bool (eqb r.id i)
    (λ e. rw e (ids_weaken lo (suc r.id) hi (drop_id i rs) (omega arith) q))
    (λ e. rw e (h.0, q))

pub ids_swap : (lo hi i : ℕ) (b : Body) (rs : List Row) → IdsRise lo rs hi → IdsRise lo (swap_id i b rs) hi
ids_swap lo hi i b [] h = h
ids_swap lo hi i b (r ∷ rs) h = let q = ids_swap (suc r.id) hi i b rs h.1 in bool (eqb r.id i)
    (λ e. rw e (h.0, q))
    (λ e. rw e (h.0, q))

-- nothing to drop or swap
drop_none : (i : ℕ) (rs : List Row) → find i rs ≡ none → drop_id i rs ≡ rs
drop_none i [] h = refl
drop_none i (r ∷ rs) h = bool (eqb r.id i)
    (λ e. let z : some r.body ≡ none = rw e at h in cc)
    (λ e. rw (e, drop_none i rs (rw e at h)))

swap_none : (i : ℕ) (b : Body) (rs : List Row) → find i rs ≡ none → swap_id i b rs ≡ rs
swap_none i b [] h = refl
swap_none i b (r ∷ rs) h = bool (eqb r.id i)
    (λ e. let z : some r.body ≡ none = rw e at h in cc)
    (λ e. rw (e, swap_none i b rs (rw e at h)))

-- how many rows

pub length_add : (rs : List Row) (r : Row) → length (rs ++ (r ∷ [])) ≡ suc (length rs)
length_add [] r = refl
length_add (x ∷ rs) r = ap suc (length_add rs r)

pub length-drop : (i : ℕ) (rs : List Row) → length (drop_id i rs) ≤ length rs
length-drop i [] = omega arith
length-drop i (r ∷ rs) = bool (eqb r.id i) (λ e. rw e (omega (arith, length-drop i rs))) (λ e. rw e (omega (arith, length-drop i rs)))

-- a row that is found is one fewer
pub length_dropped : (i : ℕ) (x : Body) (rs : List Row) → find i rs ≡ some x → length (drop_id i rs) < length rs
length_dropped i x [] e = apart (cc)
length_dropped i x (r ∷ rs) e = bool (eqb r.id i)
    (λ q. rw q (omega (arith, length-drop i rs)))
    (λ q. rw q (omega (arith, length_dropped i x rs (rw q at e))))

pub length_swap : (i : ℕ) (b : Body) (rs : List Row) → length (swap_id i b rs) ≡ length rs
length_swap i b [] = refl
length_swap i b (r ∷ rs) = bool (eqb r.id i) (λ e. rw e (ap suc (length_swap i b rs))) (λ e. rw e (ap suc (length_swap i b rs)))

-- a property of every element, and of every row

module _ {ℓ} {A : Type ℓ} where
  pub all_map : {P Q : A → Type 0} → ((x : A) → P x → Q x) → (xs : List A) → All P xs → All Q xs
  all_map f [] r = tt
  all_map f (x ∷ xs) r = (f x r.0, all_map f xs r.1)

  pub all_append : (P : A → Type 0) (xs ys : List A) → All P xs → All P ys → All P (xs ++ ys)
  all_append P [] ys a b = b
  all_append P (x ∷ xs) ys a b = (a.0, all_append P xs ys a.1 b)

module _ (P : Row → Type 0) where
  pub all_drop : (i : ℕ) (rs : List Row) → All P rs → All P (drop_id i rs)
  all_drop i [] h = tt
  all_drop i (r ∷ rs) h = bool (eqb r.id i) (λ e. rw e (all_drop i rs h.1)) (λ e. rw e (h.0, all_drop i rs h.1))

  pub all_swap : (i : ℕ) (b : Body) (rs : List Row) → All P rs → ((j : ℕ) → P (row j b)) → All P (swap_id i b rs)
  all_swap i b [] h p = tt
  all_swap i b (r ∷ rs) h p = bool (eqb r.id i)
      (λ e. rw e (p r.id, all_swap i b rs h.1 p))
      (λ e. rw e (h.0, all_swap i b rs h.1 p))

pub all_found : (P : Body → Type 0) (i : ℕ) (b : Body) (rs : List Row) → All (λ r. P r.body) rs → find i rs ≡ some b → P b
all_found P i b [] h e = apart (cc)
all_found P i b (r ∷ rs) h e = bool (eqb r.id i)
    (λ q. let y : some r.body ≡ some b = rw q at e in let x : r.body ≡ b = cc in rw x at h.0)
    (λ q. all_found P i b rs h.1 (rw q at e))

-- a row of a state is in range
pub found_range : {z : Sizes} (s : State) → WellFormed z s → (i : ℕ) (x : Body) → find i s.book.rows ≡ some x → BodyRange z s x
found_range {z} s w i x e = all_found (BodyRange z s) i x s.book.rows w.ranges.rows e

-- the ranges of a row in two halves: of a reservation, a claim and a parcel, for which the sizes do not matter; and of a plan

abbrev pub BodyHalf : State → Body → Type 0
BodyHalf s (reservation b ks) = (b < s.table_count) × Batch ks
BodyHalf s (claim b es) = (b < s.table_count) × Batch es × All (EntryRange s) es
BodyHalf s (parcel hs) = Batch hs × All (HandleRange s) hs
BodyHalf s (plan b n w fs) = Unit {0}

abbrev pub PlanHalf : Sizes → State → Body → Type 0
PlanHalf z s (reservation b ks) = Unit {0}
PlanHalf z s (claim b es) = Unit {0}
PlanHalf z s (parcel hs) = Unit {0}
PlanHalf z s (plan b n w fs) = PlanRange z s b n w fs

abbrev pub RowHalf : State → Row → Type 0
RowHalf s r = BodyHalf s r.body

abbrev pub PlanRow : Sizes → State → Row → Type 0
PlanRow z s r = PlanHalf z s r.body

module _ (z : Sizes) (s : State) where
  body_half : (x : Body) → BodyRange z s x → BodyHalf s x
  body_half (reservation b ks) r = r
  body_half (claim b es) r = r
  body_half (parcel hs) r = r
  body_half (plan b n w fs) r = tt

  plan_half : (x : Body) → BodyRange z s x → PlanHalf z s x
  plan_half (reservation b ks) r = tt
  plan_half (claim b es) r = tt
  plan_half (parcel hs) r = tt
  plan_half (plan b n w fs) r = r

  both_halves : (x : Body) → BodyHalf s x → PlanHalf z s x → BodyRange z s x
  both_halves (reservation b ks) p q = p
  both_halves (claim b es) p q = p
  both_halves (parcel hs) p q = p
  both_halves (plan b n w fs) p q = q

  pub row_halves : (rs : List Row) → All (λ r. BodyRange z s r.body) rs → All (RowHalf s) rs × All (PlanRow z s) rs
  row_halves [] a = (tt, tt)
  row_halves (r ∷ rs) a = let h = row_halves rs a.1 in ((body_half r.body a.0, h.0), (plan_half r.body a.0, h.1))

  pub row_whole : (rs : List Row) → All (RowHalf s) rs → All (PlanRow z s) rs → All (λ r. BodyRange z s r.body) rs
  row_whole [] a b = tt
  row_whole (r ∷ rs) a b = (both_halves r.body a.0 b.0, row_whole rs a.1 b.1)

pub found_half : (s : State) → All (RowHalf s) s.book.rows → (i : ℕ) (x : Body) → find i s.book.rows ≡ some x → BodyHalf s x
found_half s w i x e = all_found (BodyHalf s) i x s.book.rows w e

-- the handles of rows, by object

pub in_append : (o : ℕ) (hs gs : List Handle) → in_handles o (hs ++ gs) ≡ in_handles o hs + in_handles o gs
in_append o [] gs = omega arith
in_append o (h ∷ hs) gs = omega (arith, in_append o hs gs)

-- a number of each row's body, added up: when a row is added, dropped or swapped

pub over_add : (g : Body → ℕ) (rs : List Row) (r : Row) → over_rows g (rs ++ (r ∷ [])) ≡ over_rows g rs + g r.body
over_add g [] r = omega arith
over_add g (x ∷ rs) r = omega (arith, over_add g rs r)

module _ (g : Body → ℕ) (i : ℕ) (c : Body) where
  pub over_drop : (lo hi : ℕ) (rs : List Row) → IdsRise lo rs hi → find i rs ≡ some c → over_rows g (drop_id i rs) + g c ≡ over_rows g rs
  over_drop lo hi [] h e = apart (cc)
  over_drop lo hi (r ∷ rs) h e = bool (eqb r.id i)
      (λ q. let y : some r.body ≡ some c = rw q at e in let x : r.body ≡ c = cc in
      let n : find i rs ≡ none = ids_under (suc r.id) hi i rs h.1 (omega (arith, eqb-true r.id i q)) in
      rw (q, drop_none i rs n, x) (omega arith))
      (λ q. rw q (omega (arith, over_drop (suc r.id) hi rs h.1 (rw q at e))))

  pub over_swap : (b : Body) (lo hi : ℕ) (rs : List Row) → IdsRise lo rs hi → find i rs ≡ some c → over_rows g (swap_id i b rs) + g c ≡ over_rows g rs + g b
  over_swap b lo hi [] h e = apart (cc)
  over_swap b lo hi (r ∷ rs) h e = bool (eqb r.id i)
      (λ q. let y : some r.body ≡ some c = rw q at e in let x : r.body ≡ c = cc in
      let n : find i rs ≡ none = ids_under (suc r.id) hi i rs h.1 (omega (arith, eqb-true r.id i q)) in
      rw (q, swap_none i b rs n, x) (omega arith))
      (λ q. rw q (omega (arith, over_swap b (suc r.id) hi rs h.1 (rw q at e))))

-- so the handles of rows, by object

pub rows_add : (o : ℕ) (rs : List Row) (r : Row) → in_rows o (rs ++ (r ∷ [])) ≡ in_rows o rs + in_handles o (handles_in r.body)
rows_add o rs r = over_add (λ b. in_handles o (handles_in b)) rs r

module _ (o i : ℕ) (c : Body) where
  pub rows_drop : (lo hi : ℕ) (rs : List Row) → IdsRise lo rs hi → find i rs ≡ some c → in_rows o (drop_id i rs) + in_handles o (handles_in c) ≡ in_rows o rs
  rows_drop = over_drop (λ b. in_handles o (handles_in b)) i c

  pub rows_swap : (b : Body) (lo hi : ℕ) (rs : List Row) → IdsRise lo rs hi → find i rs ≡ some c
      → in_rows o (swap_id i b rs) + in_handles o (handles_in c) ≡ in_rows o rs + in_handles o (handles_in b)
  rows_swap = over_swap (λ b. in_handles o (handles_in b)) i c

-- rows under an id that hold no frames: to drop them leaves the frames that plans hold

abbrev pub Frameless : ℕ → List Row → Type 0
Frameless i rs = All (λ r. eqb r.id i ≡ true → frames_in r.body ≡ []) rs

frameless_none : (i : ℕ) (rs : List Row) → find i rs ≡ none → Frameless i rs
frameless_none i [] e = tt
frameless_none i (r ∷ rs) e = bool (eqb r.id i)
    (λ q. let z : some r.body ≡ none = rw q at e in apart (cc))
    (λ q. (λ p. clash p q, frameless_none i rs (rw q at e)))

pub frameless : (i : ℕ) (x : Body) → frames_in x ≡ [] → (lo hi : ℕ) (rs : List Row) → IdsRise lo rs hi → find i rs ≡ some x → Frameless i rs
frameless i x b lo hi [] h e = tt
frameless i x b lo hi (r ∷ rs) h e = bool (eqb r.id i)
    (λ q. let y : some r.body ≡ some x = rw q at e in let d : r.body ≡ x = cc in
    (λ p. ap frames_in d ∙ b, frameless_none i rs (ids_under (suc r.id) hi i rs h.1 (omega (arith, eqb-true r.id i q)))))
    (λ q. (λ p. clash p q, frameless i x b (suc r.id) hi rs h.1 (rw q at e)))

pub drop_frameless : (i : ℕ) (f : ℕ) (rs : List Row) → Frameless i rs → plans_with (drop_id i rs) f ≡ plans_with rs f
drop_frameless i f [] h = refl
drop_frameless i f (r ∷ rs) h = bool (eqb r.id i)
    (λ q. let y : occurs f (frames_in r.body) ≡ 0 = ap (occurs f) (h.0 q) in rw q (omega (arith, drop_frameless i f rs h.1)))
    (λ q. rw q (omega (arith, drop_frameless i f rs h.1)))

-- open rows of a table

module _ (b : ℕ) where
  pub open_add : (rs : List Row) (r : Row) → any_open b rs ≡ false → opens_in b r.body ≡ false → any_open b (rs ++ (r ∷ [])) ≡ false
  open_add [] r h p = rw p
  open_add (x ∷ rs) r h p = or_false (opens_in b x.body) (any_open b (rs ++ (r ∷ []))) (or_left (opens_in b x.body) (any_open b rs) h)
      (open_add rs r (or_right (opens_in b x.body) (any_open b rs) h) p)

  pub open_drop : (i : ℕ) (rs : List Row) → any_open b rs ≡ false → any_open b (drop_id i rs) ≡ false
  open_drop i [] h = refl
  open_drop i (r ∷ rs) h = let q = open_drop i rs (or_right (opens_in b r.body) (any_open b rs) h) in bool (eqb r.id i)
      (λ e. rw e q)
      (λ e. rw e (or_false (opens_in b r.body) (any_open b (drop_id i rs)) (or_left (opens_in b r.body) (any_open b rs) h) q))

  pub open_found : (i : ℕ) (c : Body) (rs : List Row) → any_open b rs ≡ false → find i rs ≡ some c → opens_in b c ≡ false
  open_found i c [] h e = apart (cc)
  open_found i c (r ∷ rs) h e = bool (eqb r.id i)
      (λ q. let y : some r.body ≡ some c = rw q at e in let x : r.body ≡ c = cc in rw x at (or_left (opens_in b r.body) (any_open b rs) h))
      (λ q. open_found i c rs (or_right (opens_in b r.body) (any_open b rs) h) (rw q at e))

  pub open_swap : (i : ℕ) (c : Body) (rs : List Row) → any_open b rs ≡ false → opens_in b c ≡ false → any_open b (swap_id i c rs) ≡ false
  open_swap i c [] h p = refl
  open_swap i c (r ∷ rs) h p = let q = open_swap i c rs (or_right (opens_in b r.body) (any_open b rs) h) p in bool (eqb r.id i)
      (λ e. rw e (or_false (opens_in b c) (any_open b (swap_id i c rs)) p q))
      (λ e. rw e (or_false (opens_in b r.body) (any_open b (swap_id i c rs)) (or_left (opens_in b r.body) (any_open b rs) h) q))
