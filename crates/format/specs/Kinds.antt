-- The number of each kind of field, as `field_kinds` and `field_fits` have it. Assumes nothing.
use Rattle.std.specs.Prelude.{ℕ}
use Rattle.format.specs.declared.field.FieldKind.{FieldKind}
use Rattle.format.specs.declared.field.FieldKind.TheVariants.{Word, Number32, Koid, Route, Op, Operation, Zero}
use Rattle.format.specs.Fields.{any_word, number32, a_koid, a_route, an_op, an_operation, zero_word}

abbrev pub kind_number : FieldKind → ℕ
kind_number Word = any_word
kind_number Number32 = number32
kind_number Koid = a_koid
kind_number Route = a_route
kind_number Op = an_op
kind_number Operation = an_operation
kind_number Zero = zero_word
