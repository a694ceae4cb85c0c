use Rattle.std.proofs.Common.{◌≡◌}
use Rattle.request.specs.Place.{place_of}
use Rattle.request.proofs.Record.records_end.Given as goal

abbrev pub invariant-loop-i : goal.invariant-loop-i
invariant-loop-i l = (l.record.words.now ≡ l.self.words.now) × (l.record.at ≡ place_of l._i l.self.words.now l.self.at)
