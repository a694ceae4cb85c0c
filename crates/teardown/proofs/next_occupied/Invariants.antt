use Rattle.std.specs.Prelude.{◌≡◌, ◌≤◌}
use Rattle.layout.specs.Layout.{load}
use Rattle.layout.specs.Sizes.{slots_max}
use Rattle.book.specs.Ops.{place_of}
use Rattle.teardown.specs.Ops.{next_link}
use Rattle.teardown.specs.Walk.{rest_in}
use Rattle.teardown.proofs.next_occupied.Given as goal

abbrev pub invariant-loop-p : goal.invariant-loop-p
invariant-loop-p l = record { few : l.length ≤ slots_max; rest : place_of (next_link (load l.s l.sh) l.b l.start) ≡ rest_in (load l.s l.sh) l.b l.start l.length l.p }
