use Rattle.detach.specs.Late.{Leaving}
use Rattle.detach.proofs.unlink_page.Given as goal

abbrev pub invariant-loop-j : goal.invariant-loop-j
invariant-loop-j l = Leaving l.fn.s l.s l.sh l.b l.p l.h l.fr l.j
