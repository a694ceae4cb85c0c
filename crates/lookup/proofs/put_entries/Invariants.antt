use Rattle.std.proofs.Common.{◌≡◌, take}
use Rattle.request.specs.Answers.{puts}
use Rattle.lookup.specs.Scan.{entry_list}
use Rattle.lookup.proofs.put_entries.Given as goal

abbrev pub invariant-loop-k : goal.invariant-loop-k
invariant-loop-k l = l.out ≡ puts l.fn.out l.base 5 (entry_list (take l.k l.entries))
