use Rattle.std.proofs.Common.{◌≡◌, ◌≤◌, ◌*◌}
use Rattle.layout.specs.Layout.{load}
use Rattle.layout.specs.Sizes.{page_size}
use Rattle.orders.specs.Check.{vacants}
use Rattle.orders.proofs.Pages.vacants.Given as goal

abbrev pub invariant-loop-p : goal.invariant-loop-p
invariant-loop-p l = (l.c ≡ vacants (load l.s l.sh) l.p l.self.first) × (l.c ≤ l.p * page_size)
