-- A plain item: its map has the fields that it must have and no other, so that operation, value and rights stand in the three words behind it.
-- Assumes nothing.
use Rattle.std.specs.Prelude.{◌≡◌, true, List, ℕ, suc, ◌+◌, ◌<◌, length, get_or}
use Rattle.std.proofs.Common.{arith, ltb-true, eqb-true}
use Rattle.std.proofs.Math.Option.{none}
use Rattle.words.specs.Pick.{and_left, and_right}
use Rattle.model.specs.Words.{operation_of}
use Rattle.format.specs.Format.{transfer_item_must}
use Rattle.request.specs.Place.{after, fields_from, has_map, end_at, item_of, item_at}
use Rattle.request.specs.Plain.{fields_by, ends_by}

module _ (rq : List ℕ) (at : ℕ) (p : has_map rq at transfer_item_must ≡ true) where
  pub plain_there : at < length rq
  unfolding has_map
  plain_there = ltb-true at (length rq) (and_left _ _ p)

  plain_map : get_or rq at 0 ≡ transfer_item_must
  unfolding has_map
  plain_map = eqb-true _ _ (and_right _ _ p)

  -- `plain_item`
  pub plain_item : item_at rq at
      ≡ record {
        operation = operation_of (get_or rq (at + 1) 0);
        value = get_or rq (at + 2) 0;
        rights = get_or rq (at + 3) 0;
        offered_rights = none;
        offered_kind = none;
        expected_kind = none;
      }
  unfolding item_at fields_from
  plain_item =
      let z : at + 1 ≡ suc at = omega arith in let y : at + 2 ≡ suc (suc at) = omega arith in let x : at + 3 ≡ suc (suc (suc at)) = omega arith in
      rw (z, y, x) (fields_by rq at transfer_item_must plain_map item_of)

  -- the end of its record
  pub plain_end : end_at rq at ≡ at + 4
  unfolding after
  plain_end = let z : at + 4 ≡ suc (suc (suc (suc at))) = omega arith in rw z (ends_by rq at transfer_item_must plain_map plain_there)
