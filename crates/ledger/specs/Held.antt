-- The frames that the plans of the view hold: how many they are, and that each is held once, by a row whose place its owner word names. Assumes nothing.
use Rattle.std.specs.Prelude.{◌≡◌, refl, ◌&&◌, ℕ, zero, suc, ◌+◌, ◌-◌, ◌≤◌, ◌<◌, length, eqb}
use Rattle.std.proofs.Math.Path.{ap}
use Rattle.std.proofs.Common.{◌∙◌, ne_eqb, eqb-true, le-leb, leb-true}
use native.Mathlib.Omega.{arith}
use Rattle.std.proofs.Math.Dec.{leb}
use Rattle.std.proofs.lemmas.Bool.{lt-leb}
use Rattle.words.specs.Pick.{bool, both}
use Rattle.model.specs.Base.{bit, pick, occurs, sum}
use Rattle.model.proofs.Sums.{sum_equal}
use Rattle.model.proofs.Counting.{sum_front}
use Rattle.model.proofs.Tests.{bit_small, zero_or}
use Rattle.model.specs.WellFormed.{frames_in, plans_with}
use Rattle.layout.specs.declared.Shape.{Shape}
use Rattle.layout.specs.Layout.{Mem, root, owner, index, rank, row, item}
use Rattle.layout.specs.Fields.{root_used_rows, row_kind, row_length, item_frame}
use Rattle.layout.specs.Values.{kind_plan}
use Rattle.layout.specs.Sizes.{plan_owner}
use Rattle.structure.specs.Frames.{planned_in, Planned}
use Rattle.ledger.specs.Plans.{want_at, low_at, HeldOk, held_in, held_frames}
use Rattle.ledger.specs.Ledger.{before, RowOk, Ledger}
use Rattle.ledger.specs.View.{from, body_by, body_at, rows_from, rows_view, length_from}

-- ---- how many they are: of any memory

module _ (m : Mem) where
  held_body : (x : ℕ) → length (frames_in (body_at m x)) ≡ held_in m x
  held_body x = go (m (row x row_kind))
    where
      go : (w : ℕ) → length (frames_in (body_by m x w)) ≡ pick (eqb w kind_plan) (m (row x row_length)) 0
      go zero = refl
      go (suc zero) = refl
      go (suc (suc zero)) = refl
      go (suc (suc (suc zero))) = refl
      go (suc (suc (suc (suc zero)))) = length_from (λ j. m (item x j item_frame)) 0 (m (row x row_length))
      go (suc (suc (suc (suc (suc w))))) = rw (ne_eqb (suc (suc (suc (suc (suc w))))) kind_plan (λ z. omega arith))

  held_rows : (i n : ℕ) → planned_in (rows_from m i n) ≡ (sum n λ k. held_in m (m (index (i + k))))
  held_rows i zero = refl
  held_rows i (suc n) =
      let e : i + 0 ≡ i = omega arith in
      omega (
        arith,
        held_body (m (index i)),
        held_rows (suc i) n,
        sum_front n (λ k. held_in m (m (index (i + k)))),
        ap (λ (y : ℕ). held_in m (m (index y))) e,
        sum_equal n (λ k. held_in m (m (index (i + suc k)))) (λ k. held_in m (m (index (suc i + k)))) (λ k l. let z : i + suc k ≡ suc i + k = omega arith in ap (λ (y : ℕ). held_in m (m (index y))) z),
      )

  pub held_count : planned_in (rows_view m) ≡ held_frames m
  unfolding rows_view
  held_count = held_rows 0 (m (root root_used_rows)) ∙ sum_equal (m (root root_used_rows)) (λ k. held_in m (m (index (0 + k)))) (λ k. held_in m (m (index k))) (λ k l. let z : 0 + k ≡ k = omega arith in ap (λ (y : ℕ). held_in m (m (index y))) z)

-- ---- each is held once

module _ (sh : Shape) (m : Mem) (l : Ledger sh m) where
  -- a plan's frames rise: each stands once, is one of the frames and names the plan's place
  frames_once : (x j n f : ℕ) → ((i : ℕ) → j ≤ i → i < j + n → HeldOk m sh x i (want_at m x i) (low_at m x i))
      → (occurs f (from (λ i. m (item x i item_frame)) j n) ≤ bit (leb (low_at m x j) f)) × (0 < occurs f (from (λ i. m (item x i item_frame)) j n) → (f < sh.frames) × (m (owner f) ≡ plan_owner + x))
  frames_once x j zero f h = (omega arith, λ z. absurd (omega arith))
  frames_once x j (suc n) f h =
      let r = frames_once x (suc j) n f (λ i a b. h i (omega arith) (omega arith)) in let o = h j (omega arith) (omega arith) in
      bool (eqb f (m (item x j item_frame)))
      (λ e. let q = eqb-true f (m (item x j item_frame)) e in
      let z : occurs f (from (λ i. m (item x i item_frame)) (suc j) n) ≤ 0 = rw (lt-leb (suc (m (item x j item_frame))) f (omega arith)) at r.0 in
      (rw (e, le-leb (low_at m x j) f (omega (arith, o.above))) (omega arith), λ z. (omega (arith, o.frame), ap (λ (y : ℕ). m (owner y)) q ∙ o.owner)))
      (λ e. (
        rw e (bool (leb (suc (m (item x j item_frame))) f)
            (λ d. let k = leb-true (suc (m (item x j item_frame))) f d in
            rw (le-leb (low_at m x j) f (omega (arith, o.above))) (omega (arith, r.0, bit_small (leb (suc (m (item x j item_frame))) f))))
            (λ d. let z : occurs f (from (λ i. m (item x i item_frame)) (suc j) n) ≤ 0 = rw d at r.0 in omega arith)),
        λ z. r.1 (let y : 0 < 0 + occurs f (from (λ i. m (item x i item_frame)) (suc j) n) = rw e at z in omega arith),
      ))

  row_once : (x last f : ℕ) → RowOk m sh x last → (occurs f (frames_in (body_at m x)) ≤ 1) × (0 < occurs f (frames_in (body_at m x)) → (f < sh.frames) × (m (owner f) ≡ plan_owner + x))
  row_once x last f o = go (m (row x row_kind)) refl
    where
      go : (w : ℕ) → m (row x row_kind) ≡ w → (occurs f (frames_in (body_by m x w)) ≤ 1) × (0 < occurs f (frames_in (body_by m x w)) → (f < sh.frames) × (m (owner f) ≡ plan_owner + x))
      go zero e = (omega arith, λ z. absurd (omega arith))
      go (suc zero) e = (omega arith, λ z. absurd (omega arith))
      go (suc (suc zero)) e = (omega arith, λ z. absurd (omega arith))
      go (suc (suc (suc zero))) e = (omega arith, λ z. absurd (omega arith))
      go (suc (suc (suc (suc zero)))) e = let r = frames_once x 0 (m (row x row_length)) f (λ i a b. (o.plans e).items i (omega arith)) in (omega (arith, r.0, bit_small (leb 0 f)), r.1)
      go (suc (suc (suc (suc (suc w))))) e = (omega arith, λ z. absurd (omega arith))

  -- of the rows from rank i on one holds the frame at most, that of the rank which the owner word leads to
  rows_once : (f i n : ℕ) → i + n ≤ m (root root_used_rows)
      → (plans_with (rows_from m i n) f ≤ bit (leb plan_owner (m (owner f)) && leb i (m (rank (m (owner f) - plan_owner))))) × (0 < plans_with (rows_from m i n) f → f < sh.frames)
  rows_once f i zero h = (omega arith, λ z. absurd (omega arith))
  rows_once f i (suc n) h =
      let r = rows_once f (suc i) n (omega arith) in let o = row_once (m (index i)) (before m i) f (l.rows i (omega arith)) in
      let held : ℕ = occurs f (frames_in (body_at m (m (index i)))) in let rest : ℕ = plans_with (rows_from m (suc i) n) f in
      let k : ℕ = m (rank (m (owner f) - plan_owner)) in
      zero_or held
      (λ z. (
        bool (leb plan_owner (m (owner f)) && leb (suc i) k)
            (λ e. let q = both (leb plan_owner (m (owner f))) (leb (suc i) k) e in
            rw (q.0, le-leb i k (omega (arith, leb-true (suc i) k q.1))) (omega (arith, r.0, bit_small (leb plan_owner (m (owner f)) && leb (suc i) k))))
            (λ e. let y : rest ≤ 0 = rw e at r.0 in omega arith),
        λ y. r.1 (omega arith),
      ))
      (λ z. let q = o.1 z in
      let y : m (owner f) - plan_owner ≡ m (index i) = omega (arith, q.1) in
      let d : k ≡ i = ap (λ (t : ℕ). m (rank t)) y ∙ (l.places i (omega (arith, l.used))).ranked in
      let u : rest ≤ bit (leb plan_owner (m (owner f)) && leb (suc i) i) = rw d at r.0 in
      let v : rest ≤ 0 = rw (le-leb plan_owner (m (owner f)) (omega (arith, q.1)), lt-leb (suc i) i (omega arith)) at u in (
        rw (d, le-leb plan_owner (m (owner f)) (omega (arith, q.1)), le-leb i i (omega arith)) (omega (arith, o.0)),
        λ t. q.0,
      ))

  -- THE PLANS' FRAMES
  pub planned : Planned sh m (rows_view m)
  unfolding rows_view
  planned = record {
    once = λ f. let r = (rows_once f 0 (m (root root_used_rows)) (omega arith)).0 in
        bool (leb plan_owner (m (owner f)))
        (λ e. rw e (omega (arith, r, bit_small (leb plan_owner (m (owner f)) && leb 0 (m (rank (m (owner f) - plan_owner)))))))
        (λ e. let z : plans_with (rows_from m 0 (m (root root_used_rows))) f ≤ 0 = rw e at r in rw e z);
    frames = λ f. (rows_once f 0 (m (root root_used_rows)) (omega arith)).1;
  }
