-- A record whose map is a known number: how its fields are read, and where it ends. Assumes nothing.
use Rattle.std.specs.Prelude.{◌≡◌, Bool, List, ℕ, suc, ◌<◌, length, get_or}
use Rattle.std.proofs.Math.Path.{ap}
use Rattle.std.proofs.Common.{◌∙◌, lt-ltb}
use Rattle.std.proofs.Math.Option.{Option}
use Rattle.model.specs.Base.{pick}
use Rattle.request.specs.Place.{after, fields_from, fields_at, end_at}
use Rattle.format.specs.Format.{field_count}

module _ (rq : List ℕ) (at m : ℕ) (e : get_or rq at 0 ≡ m) where
  -- any reading of its fields
  pub fields_by : {A : Type 0} (f : List (Option ℕ) → A) → f (fields_at rq at) ≡ f (fields_from field_count m rq (suc at))
  unfolding fields_at
  fields_by f = ap (λ (k : ℕ). f (fields_from 18 k rq (suc at))) e

  pub ends_by : at < length rq → end_at rq at ≡ after field_count m (suc at)
  unfolding end_at
  ends_by l = ap (λ (b : Bool). pick b (after 18 (get_or rq at 0) (suc at)) at) (lt-ltb at (length rq) l) ∙ ap (λ (k : ℕ). after 18 k (suc at)) e
