-- Fields of a record by their bit: docs/formats.md, "Fields of a record".
use Rattle.std.specs.Prelude.{ℕ}

abbrev pub op_field : ℕ
op_field = 0

abbrev pub table_field : ℕ
table_field = 1

abbrev pub object_field : ℕ
object_field = 2

abbrev pub count_field : ℕ
count_field = 3

abbrev pub value_field : ℕ
value_field = 4

abbrev pub rights_field : ℕ
rights_field = 5

abbrev pub flags_field : ℕ
flags_field = 6

abbrev pub id_field : ℕ
id_field = 7

abbrev pub destination_field : ℕ
destination_field = 8

abbrev pub kind_field : ℕ
kind_field = 9

abbrev pub koid_field : ℕ
koid_field = 10

abbrev pub cursor_field : ℕ
cursor_field = 11

abbrev pub route_field : ℕ
route_field = 12

abbrev pub offered_rights_field : ℕ
offered_rights_field = 13

abbrev pub offered_kind_field : ℕ
offered_kind_field = 14

abbrev pub expected_kind_field : ℕ
expected_kind_field = 15

abbrev pub forbidden_object_field : ℕ
forbidden_object_field = 16

abbrev pub forbidden_kind_field : ℕ
forbidden_kind_field = 17

-- kinds of fields: which words one takes is `field_fits` in Format.antt
abbrev pub any_word : ℕ
any_word = 0

abbrev pub number32 : ℕ
number32 = 1

abbrev pub a_koid : ℕ
a_koid = 2

abbrev pub a_route : ℕ
a_route = 3

abbrev pub an_op : ℕ
an_op = 4

-- of bit 0's word in an item: a transfer item's operation, a parcel item's 0
abbrev pub an_operation : ℕ
an_operation = 5

abbrev pub zero_word : ℕ
zero_word = 6

-- the largest words of three of these kinds: a number of 32 bits, a route, an operation
abbrev pub number32_max : ℕ
number32_max = 4294967295

abbrev pub route_last : ℕ
route_last = 2

abbrev pub operation_last : ℕ
operation_last = 1
