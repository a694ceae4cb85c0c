use Rattle.std.proofs.Common.{◌≡◌, ◌≤◌, ◌-◌, length, drop}
use Rattle.model.specs.Words.{read_list}
use Rattle.request.specs.Place.{listed, counted}
use Rattle.request.proofs.list_ok.Given as goal

abbrev pub invariant-loop-record : goal.invariant-loop-record
invariant-loop-record l = (l.record.words.now ≡ l.rq) × (l.record.at ≤ length l.rq) × (l.count ≤ l.record.at) × (listed (read_list l.rq) ≡ counted l.count (read_list (drop l.record.at l.rq)))

abbrev pub decreases-loop-record : goal.decreases-loop-record
decreases-loop-record l = length l.rq - l.record.at
