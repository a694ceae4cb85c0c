use Rattle.std.proofs.Common.{◌≡◌}
use Rattle.std.specs.Iterator.Adapters.{enumerate_source, enumerate_count}
use Rattle.transfer.specs.Checks.{items_left}
use Rattle.transfer.specs.Preparing.{entries_w}
use Rattle.transfer.proofs.put_entries.Given as goal

abbrev pub invariant-loop-j : goal.invariant-loop-j
invariant-loop-j l = entries_w l.fn.s l.sh l.b l.x 0 (items_left l.items) ≡ entries_w l.s l.sh l.b l.x (enumerate_count l.j-iterator) (items_left (enumerate_source l.j-iterator))
