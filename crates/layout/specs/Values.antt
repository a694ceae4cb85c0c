-- The words that stand for a case: docs/formats.md, "The state's words".
use Rattle.std.specs.Prelude.{ℕ}

-- the format's version
abbrev pub format_version : ℕ
format_version = 1

-- tag of a slot
abbrev pub tag_vacant : ℕ
tag_vacant = 0

abbrev pub tag_reserved : ℕ
tag_reserved = 1

abbrev pub tag_transfer_reserved : ℕ
tag_transfer_reserved = 2

abbrev pub tag_occupied : ℕ
tag_occupied = 3

-- what a row is
abbrev pub kind_reservation : ℕ
kind_reservation = 1

abbrev pub kind_claim : ℕ
kind_claim = 2

abbrev pub kind_parcel : ℕ
kind_parcel = 3

abbrev pub kind_plan : ℕ
kind_plan = 4

-- lifecycle of a table
abbrev pub life_active : ℕ
life_active = 0

abbrev pub life_tearing_down : ℕ
life_tearing_down = 1

abbrev pub life_retired : ℕ
life_retired = 2

-- state of an object
abbrev pub stage_new : ℕ
stage_new = 0

abbrev pub stage_active : ℕ
stage_active = 1

abbrev pub stage_retired : ℕ
stage_retired = 2

-- class of an object
abbrev pub class_leaf : ℕ
class_leaf = 0

abbrev pub class_rendezvous_only : ℕ
class_rendezvous_only = 1

abbrev pub class_never : ℕ
class_never = 2

-- operation of a claim's entry
abbrev pub operation_move : ℕ
operation_move = 0

abbrev pub operation_copy : ℕ
operation_copy = 1

-- route of a transfer
abbrev pub route_buffered : ℕ
route_buffered = 0

abbrev pub route_rendezvous : ℕ
route_rendezvous = 1

abbrev pub route_staged_startup : ℕ
route_staged_startup = 2
