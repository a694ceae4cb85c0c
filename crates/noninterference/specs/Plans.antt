-- Document 02, 1: "A shopkeeper's held transfer must not make any plan stale". When the plans of two states are the same, and as stale or fresh. That preparing a
-- transfer and rolling it back leave every plan as it is, and that the two runs do, is `preparing`, `rolling_back` and `held_and_plain_plans` of proofs/Plans.antt.
use Rattle.std.specs.Prelude.{◌≡◌, List, map, ℕ}
use Rattle.std.proofs.Math.Option.{some}
use Rattle.model.specs.State.{Sizes, Body.plan, StorageSnapshot, State}
use Rattle.model.specs.Storage.{is_stale}
use Rattle.model.specs.Request.{Request.close, Request.rollback, Request.commit}
use Rattle.model.specs.Book.{find}
use Rattle.model.specs.Step.{step, run}
use Rattle.noninterference.specs.Runs.{lowered}

-- a plan that stands under an id
abbrev pub PlanAt : State → (id table count : ℕ) → StorageSnapshot → (frames : List ℕ) → Type 0
PlanAt s i b n w fs = find i s.book.rows ≡ some (plan b n w fs)

-- each plan of s stands in u, its id changed by f, and u has no other; what is stale in s, and nothing else, is stale in u
pub record PlansStand (z : Sizes) (f : ℕ → ℕ) (s u : State) : Type 0 where
  pub stands : (i b n : ℕ) (w : StorageSnapshot) (fs : List ℕ) → PlanAt s i b n w fs → PlanAt u (f i) b n w fs
  pub others : (j b n : ℕ) (w : StorageSnapshot) (fs : List ℕ) → PlanAt u j b n w fs → (i : ℕ) × (j ≡ f i) × PlanAt s i b n w fs
  pub stale : (b n : ℕ) (w : StorageSnapshot) → is_stale z (u.tables b) n w ≡ is_stale z (s.tables b) n w

-- run H left `h` with the transfer t of table b still open, run P left `p`: the plans are the same, and as stale or fresh
pub record PlansAgree (z : Sizes) (t b : ℕ) (values : List ℕ) (h p : State) : Type 0 where
  pub held : PlansStand z (lowered t) h p
  pub rolled_back : PlansStand z (lowered t) (step z h (rollback t)).0 p
  pub committed : PlansStand z (lowered t) (step z h (commit t)).0 (run z p (map (close b) values)).0
