use Rattle.std.proofs.Common.{◌≡◌}
use Rattle.layout.specs.Layout.{load}
use Rattle.parcel.specs.Publishing.{ids_left, fits}
use Rattle.parcel.proofs.parcels_fit.Given as goal

abbrev pub invariant-loop-id : goal.invariant-loop-id
invariant-loop-id l = fits (load l.s l.sh) l.sh (ids_left l.parcels) l.n ≡ fits (load l.s l.sh) l.sh (ids_left l.id-iterator) l.left
