use Rattle.std.proofs.Common.{◌≡◌}
use Rattle.parcel.specs.Publishing.{ids_left, published_w}
use Rattle.parcel.proofs.fill_slots.Given as goal

abbrev pub invariant-loop-id : goal.invariant-loop-id
invariant-loop-id l = published_w l.fn.s l.sh l.b l.x 0 (ids_left l.parcels) ≡ published_w l.s l.sh l.b l.x l.p (ids_left l.id-iterator)
