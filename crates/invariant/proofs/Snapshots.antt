-- A plan's snapshot: what it says of its table, that it is in range, and what a plan that is not stale has kept.
use Rattle.std.specs.Prelude.{◌≡◌, refl, true, false, not, List, [], ◌∷◌, ℕ, zero, suc, ◌-◌, ◌≤◌, ◌<◌, length, take, eqb}
use Rattle.std.proofs.Common.{ap, ◌∙◌, arith, length-take, ltb-true, eqb-true}
use Rattle.std.proofs.Math.Option.{Option, none, some}
use Rattle.model.specs.Base.{occurs}
use Rattle.model.specs.State.{Sizes, Table, StorageSnapshot, State, is_vacant, max_slots, max_batch}
use Rattle.model.proofs.Counting.{sum_occurs, sum_ones, sum_le}
use Rattle.model.specs.Storage.{attach, slots_of, pages_from, pages_for, snapshot_with, snapshot_for, still_is, is_stale}
use Rattle.model.specs.Create.{max_pages}
use Rattle.model.specs.WellFormed.{All, Rising, JustEnough, PlanRange, WellFormed}
use Rattle.model.proofs.Tests.{apart, bool, and_left, and_right, at_most_law, also_some, bit_small, bit_true, same_list_equal}
use Rattle.model.proofs.Decided.{Room}
use Rattle.invariant.proofs.Pages.{Sane, vacant_there}
use Rattle.invariant.proofs.Orders.{Sound, below_of}
use Rattle.invariant.proofs.StorageDecisions.{sound_at}
use Rattle.invariant.proofs.Frames.{Grows, pages_grow}

-- a whole list
pub take_all : (xs : List ℕ) → take (length xs) xs ≡ xs
take_all [] = refl
take_all (x ∷ xs) = ap (λ (l : List ℕ). x ∷ l) (take_all xs)

pub rising_take : (n : ℕ) (xs : List ℕ) → Rising xs → Rising (take n xs)
rising_take zero xs r = tt
rising_take (suc n) [] r = tt
rising_take (suc zero) (x ∷ xs) r = tt
rising_take (suc (suc n)) (x ∷ []) r = tt
rising_take (suc (suc n)) (x ∷ y ∷ ys) r = (r.0, rising_take (suc n) (y ∷ ys) r.1)

-- a snapshot is of its table
snapshot_of : (t : Table) (x : Option (List ℕ)) (w : StorageSnapshot) → snapshot_with t x ≡ some w
    → (x ≡ some w.pages) × (w.epoch ≡ t.epoch) × (w.free_slots ≡ length t.free)
snapshot_of t none w e = apart (cc)
snapshot_of t (some ps) w e = let y : w ≡ record { epoch = t.epoch; free_slots = length t.free; pages = ps } = cc in rw y (refl, refl, refl)

module _ (z : Sizes) (t : Table) (n : ℕ) (w : StorageSnapshot) where
  pub snapshot_pages : snapshot_for z t n ≡ some w → (pages_for z t n ≡ some w.pages) × (w.epoch ≡ t.epoch) × (w.free_slots ≡ length t.free)
  snapshot_pages e = snapshot_of t (pages_for z t n) w e

  still_is_law : (x : Option (List ℕ)) → still_is (snapshot_with t x) w ≡ true → snapshot_with t x ≡ some w
  still_is_law none e = apart (cc)
  still_is_law (some ps) e =
      let d = and_right (eqb t.epoch w.epoch) _ e in
      let a : t.epoch ≡ w.epoch = eqb-true t.epoch w.epoch (and_left (eqb t.epoch w.epoch) _ e) in
      let b : length t.free ≡ w.free_slots = eqb-true (length t.free) w.free_slots (and_left (eqb (length t.free) w.free_slots) _ d) in
      let c : ps ≡ w.pages = same_list_equal ps w.pages (and_right (eqb (length t.free) w.free_slots) _ d) in
      rw (a, b, c)

  -- a plan that is not stale: a snapshot taken now is the one kept
  pub fresh_is : not (is_stale z t n w) ≡ true → snapshot_for z t n ≡ some w
  fresh_is e = still_is_law (pages_for z t n) (bool (still_is (snapshot_for z t n) w) (λ q. q) (λ q. let y : false ≡ true = rw q at e in cc))

  pub fresh_pages : not (is_stale z t n w) ≡ true → pages_for z t n ≡ some w.pages
  fresh_pages e = (snapshot_pages (fresh_is e)).0

-- the pages of a snapshot are just enough
enough_from : (z : Sizes) (fuel m : ℕ) (ds : List ℕ) (n limit : ℕ) (ps : List ℕ) → pages_from z fuel m ds n limit ≡ some ps → JustEnough z m ps
enough_from z zero zero ds n limit ps e = let y : ps ≡ [] = cc in rw y
enough_from z zero (suc m) ds n limit ps e = apart (cc)
enough_from z (suc fuel) zero ds n limit ps e = let y : ps ≡ [] = cc in rw y
enough_from z (suc fuel) (suc m) [] n limit ps e = bool (eqb n limit)
    (λ q. let y : none ≡ some ps = rw q at e in apart (cc))
    (λ q. let p = also_some n (pages_from z fuel (suc m - slots_of z n) [] (suc n) limit) ps (rw q at e) in
    rw p.2 (omega arith, enough_from z fuel (suc m - slots_of z n) [] (suc n) limit p.0 p.1))
enough_from z (suc fuel) (suc m) (d ∷ ds) n limit ps e =
    let p = also_some d (pages_from z fuel (suc m - slots_of z d) ds n limit) ps e in
    rw p.2 (omega arith, enough_from z fuel (suc m - slots_of z d) ds n limit p.0 p.1)

-- and below the table's limit
below_limit : (z : Sizes) (lim : ℕ) (ps : List ℕ) (t : Table) → t.limit ≤ lim → Grows z t ps → All (λ p. p < lim) ps
unfolding attach
below_limit z lim [] t l g = tt
below_limit z lim (p ∷ ps) t l g = (omega (arith, g.0.within), below_limit z lim ps (attach z t p 0) l (g.1 0))

-- a free order has no more slots than a table
free_few : (z : Sizes) (t : Table) → Sound z t t.free → length t.free ≤ max_slots
free_few z t o =
    let low : (k : ℕ) → 0 < occurs k t.free → k < max_slots = λ k h.
    below_of z t t.free o k (vacant_there (t.slots k) (bit_true (is_vacant (t.slots k)) (omega (arith, o.free k)))) in
    omega (
      arith,
      sum_occurs max_slots t.free low,
      sum_ones max_slots,
      sum_le max_slots (λ k. occurs k t.free) (λ k. 1) (λ k h. omega (arith, o.free k, bit_small (is_vacant (t.slots k)))),
    )

-- A PLAN THAT IS MADE IS IN RANGE
pub planned_range : (z : Sizes) → Sane z → (s : State) → WellFormed z s → (b n : ℕ) (w : StorageSnapshot) → Room z s b n w → PlanRange z s b n w (take (length w.pages) s.frames)
unfolding pages_for
planned_range z sane s v b n w r =
    let t : Table = s.tables b in
    let o : Sound z t t.free = sound_at z s v b r.there in
    let q = snapshot_pages z t n w r.snapshot in
    let fit : length w.pages ≤ length s.frames = at_most_law (length w.pages) (length s.frames) r.frames in
    record {
      table = r.there;
      count = (ltb-true 0 n r.some, at_most_law n max_batch r.few);
      kept = record {
        epoch = rw q.1 o.epoch;
        free_slots = rw q.2 (free_few z t o);
        pages = below_limit z (max_pages z) w.pages t o.limit (pages_grow z sane t t.free o n w.pages q.0);
        enough = rw q.2 (enough_from z max_batch (n - length t.free) t.detached t.size t.limit w.pages q.0);
      };
      held = length-take (length w.pages) s.frames ∙ omega arith;
      rising = rising_take (length w.pages) s.frames v.frames.rising;
    }
