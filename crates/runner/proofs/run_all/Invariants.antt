use Rattle.std.proofs.Common.{◌≡◌, ◌+◌, ◌-◌, ◌*◌, ◌≤◌, length}
use Rattle.format.specs.Format.{answer_words}
use Rattle.contract.specs.Run.{list_r}
use Rattle.serve.specs.Serve.{one_r}
use Rattle.runner.proofs.run_all.Given as goal

abbrev pub invariant-loop-i : goal.invariant-loop-i
invariant-loop-i l = (l.rq.words.now ≡ l.list) × (l.base + answer_words * (l.n - l.i) ≤ length l.initial.out) × (list_r one_r (l.n - l.i) l.s l.out l.sh l.list l.rq.at l.base ≡ list_r one_r l.n l.initial.s l.initial.out l.sh l.list 0 0)
