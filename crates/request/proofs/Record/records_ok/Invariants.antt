use Rattle.std.proofs.Common.{◌≡◌, Some}
use Rattle.request.specs.Place.{next_of, many_end}
use Rattle.request.proofs.Record.records_ok.Given as goal

abbrev pub invariant-loop-i : goal.invariant-loop-i
invariant-loop-i l = (l.record.words.now ≡ l.self.words.now) × (next_of (many_end l.first l.must l.allowed l._i l.self.words.now l.self.at) ≡ Some l.record.at)
