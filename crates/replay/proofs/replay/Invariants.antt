use Rattle.std.proofs.Common.{◌≤◌, length}
use Rattle.replay.proofs.replay.Given as goal

abbrev pub invariant-loop : goal.invariant-loop
invariant-loop l = l.len ≤ length l.state
