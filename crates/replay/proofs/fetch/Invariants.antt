use Rattle.replay.specs.Runs.{Past}
use Rattle.replay.proofs.fetch.Given as goal

abbrev pub invariant-loop-i : goal.invariant-loop-i
invariant-loop-i l = Past l.n l.initial.room l.room
