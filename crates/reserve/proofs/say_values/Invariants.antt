use Rattle.std.proofs.Common.{◌≡◌, ◌+◌, ◌-◌}
use Rattle.layout.specs.Layout.{load}
use Rattle.request.specs.Answers.{puts}
use Rattle.reserve.specs.Ops.{values_at}
use Rattle.reserve.proofs.say_values.Given as goal

abbrev pub invariant-loop-j : goal.invariant-loop-j
invariant-loop-j l = puts l.fn.out l.base 3 (values_at (load l.s l.sh) l.b l.x 0 l.most) ≡ puts l.out l.base (l.j + 3) (values_at (load l.s l.sh) l.b l.x l.j (l.most - l.j))
