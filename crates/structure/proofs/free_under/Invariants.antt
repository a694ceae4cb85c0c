use Rattle.std.proofs.Common.{◌≡◌, ◌≤◌, ◌*◌}
use Rattle.layout.specs.Layout.{load}
use Rattle.layout.specs.Sizes.{frames_max}
use Rattle.structure.specs.Facts.{free_from}
use Rattle.structure.specs.Code.{level_size}
use Rattle.structure.proofs.free_under.Given as goal

abbrev pub invariant-loop-i : goal.invariant-loop-i
invariant-loop-i l = (l.count ≡ free_from (load l.s l.sh) l.sh.frames (l.first * level_size l.fn.level) (l.i * level_size l.fn.level)) × (l.count ≤ l.i * frames_max)
