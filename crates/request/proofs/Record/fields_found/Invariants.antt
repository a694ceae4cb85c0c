use Rattle.std.proofs.Common.{◌≡◌, drop, take, ◌++◌}
use Rattle.request.specs.Place.{words_by, fields_at}
use Rattle.request.proofs.Record.fields_found.Given as goal

abbrev pub invariant-loop-word : goal.invariant-loop-word
invariant-loop-word g l =
    l.word-items ≡ words_by (fields_at l.self.words.now l.self.at) (take l.word-index l.fn.bits) ++ drop l.word-index l.fn.bits
