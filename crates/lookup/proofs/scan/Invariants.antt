use Rattle.std.proofs.Common.{◌≤◌, ◌<◌, ◌-◌}
use Rattle.layout.specs.Layout.{load}
use Rattle.lookup.specs.Scan.{FrameFor}
use Rattle.lookup.specs.Walks.{Scanning}
use Rattle.lookup.proofs.scan.Given as goal

abbrev pub invariant-loop-at : goal.invariant-loop-at
invariant-loop-at l = (l.len ≤ 8) × (l.at < l.stop → FrameFor (load l.s l.sh) l.b l.at l.fr) × Scanning (load l.s l.sh) l.b l.start (l.stop - l.start) l.entries l.len l.at (l.stop - l.at)
