use Rattle.std.proofs.Common.{◌≡◌}
use Rattle.parcel.specs.Publishing.{ids_left, dropped_w}
use Rattle.parcel.proofs.close_parcels.Given as goal

abbrev pub invariant-loop-id : goal.invariant-loop-id
invariant-loop-id l = dropped_w l.fn.s l.sh (ids_left l.parcels) ≡ dropped_w l.s l.sh (ids_left l.id-iterator)
