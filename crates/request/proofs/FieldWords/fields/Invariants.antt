use Rattle.std.proofs.Common.{◌≡◌, drop, take, ◌++◌}
use Rattle.format.specs.Format.{field_count}
use Rattle.request.specs.Place.{words_by, fields_from}
use Rattle.request.proofs.FieldWords.fields.Given as goal

abbrev pub invariant-loop-word : goal.invariant-loop-word
invariant-loop-word g l =
    (l.word-items ≡ words_by (fields_from field_count l.self.map l.self.words.now l.self.at) (take l.word-index l.fn.bits) ++ drop l.word-index l.fn.bits)
