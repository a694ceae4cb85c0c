-- The rules at which a transfer's preparation stops: the number of each, and its place in the printed order (document 02, 4). Assumes nothing.
use Rattle.std.specs.Prelude.{ℕ}
use Rattle.format.specs.declared.rule.Rule.{Rule}
use Rattle.format.specs.declared.rule.Rule.TheVariants.{TableRetired, EmptyReservation, ReservationTooLarge, NoRow, NoId, ListedTwice, NoHandle, HandleBusy, LacksTransfer, CopyLacksDuplicate, OfferedBeyondSource, RequestedBeyondOffered, ForbiddenKind, ForbiddenObject, RouteBarsClass, OtherKind, CopyOfRetired, CopyAtLimit}

-- "Transfer: 16, 17, 13, 1, 12; then item by item 2 (twice), 2 or 3 (lookup), 5 (rights), 8 (kind), 5 (object), 8 (route), 4; then copies 9, 11"
abbrev pub number_by : Rule → ℕ
number_by TableRetired = 16
number_by EmptyReservation = 17
number_by ReservationTooLarge = 13
number_by NoRow = 1
number_by NoId = 12
number_by ListedTwice = 2
number_by NoHandle = 2
number_by HandleBusy = 3
number_by LacksTransfer = 5
number_by CopyLacksDuplicate = 5
number_by OfferedBeyondSource = 5
number_by RequestedBeyondOffered = 5
number_by ForbiddenKind = 8
number_by ForbiddenObject = 5
number_by RouteBarsClass = 8
number_by OtherKind = 4
number_by CopyOfRetired = 9
number_by CopyAtLimit = 11

-- "Places run from 1, TableRetired, to 17, a copy at the limit, with lookup as one place"
abbrev pub place : Rule → ℕ
place TableRetired = 1
place EmptyReservation = 2
place ReservationTooLarge = 3
place NoRow = 4
place NoId = 5
place ListedTwice = 6
place NoHandle = 7
place HandleBusy = 7
place LacksTransfer = 8
place CopyLacksDuplicate = 9
place OfferedBeyondSource = 10
place RequestedBeyondOffered = 11
place ForbiddenKind = 12
place ForbiddenObject = 13
place RouteBarsClass = 14
place OtherKind = 15
place CopyOfRetired = 16
place CopyAtLimit = 17
