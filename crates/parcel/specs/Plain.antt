-- A parcel's item, whose map is a known number: where its words stand, and where it ends. Assumes nothing.
use Rattle.std.specs.Prelude.{◌≡◌, List, length}
use Rattle.std.proofs.Math.Path.{sym, ap}
use Rattle.std.proofs.Common.{◌∙◌}
use Prim.Native.Nat.{ℕ, suc, ◌+◌, ◌<◌}
use native.Mathlib.Omega.{arith}
use Rattle.std.proofs.Math.ListN.{get_or}
use Rattle.format.specs.Format.{parcel_item_must}
use Rattle.model.specs.Words.{must}
use Rattle.format.specs.Fields.{id_field}
use Rattle.request.specs.Place.{after, fields_from, fields_at, end_at}
use Rattle.request.specs.Plain.{fields_by, ends_by}

-- bits 0 and 7
module _ (rq : List ℕ) (at : ℕ) (e : get_or rq at 0 ≡ parcel_item_must) where
  pub plain_id : must (fields_at rq at) id_field ≡ get_or rq (at + 2) 0
  unfolding fields_from
  plain_id = let z : suc (suc at) ≡ at + 2 = omega arith in fields_by rq at parcel_item_must e (λ f. must f id_field) ∙ ap (λ (p : ℕ). get_or rq p 0) z

  pub plain_end : at < length rq → at + 3 ≡ end_at rq at
  unfolding after
  plain_end l = let z : suc (suc (suc at)) ≡ at + 3 = omega arith in sym (ends_by rq at parcel_item_must e l ∙ z)
