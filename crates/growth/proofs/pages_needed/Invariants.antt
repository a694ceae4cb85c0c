use Rattle.std.proofs.Common.{◌≡◌, ◌-◌}
use Rattle.layout.specs.Layout.{load}
use Rattle.layout.specs.Sizes.{batch_max}
use Rattle.growth.specs.Words.{count_from, pages_needed}
use Rattle.growth.proofs.pages_needed.Given as goal

abbrev pub invariant-loop-c : goal.invariant-loop-c
invariant-loop-c l = pages_needed (load l.s l.sh) l.b l.k ≡ count_from (load l.s l.sh) l.e l.limit (batch_max - l.c) l.need l.next.detached l.next.count l.c
