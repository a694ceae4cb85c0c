use Rattle.std.proofs.Common.{◌≡◌}
use Rattle.model.specs.Decision.{distinct}
use Rattle.parcel.specs.Publishing.{ids_left}
use Rattle.parcel.proofs.distinct_ids.Given as goal

abbrev pub invariant-loop-id : goal.invariant-loop-id
invariant-loop-id l = distinct (ids_left l.fn.parcels) ≡ distinct (ids_left l.parcels)
