-- What the code's branches say, in the terms of the definitions. Assumes nothing.
use Rattle.std.specs.Prelude.{◌≡◌, ℕ, ◌+◌, ◌/◌, ◌<◌}
use Rattle.std.proofs.Common.{◌∙◌, arith}
use borrow.Author.Tests.{lt-ltb}
use Rattle.model.specs.State.{max_slots}
use Rattle.layout.specs.Layout.{Mem}
use Rattle.layout.specs.Sizes.{page_size, slots_max}
use Rattle.representation.specs.Represents.{frame_of}
use Rattle.lookup.specs.Scan.{FrameFor}

-- `frame_on`
pub frame_next : (m : Mem) (b k fr : ℕ) → k + 1 < slots_max → fr ≡ frame_of m b k → FrameFor m b (k + 1) fr
unfolding max_slots
frame_next m b k fr l e off =
    let z : (k + 1) / page_size ≡ k / page_size = omega arith in
    e ∙ rw (lt-ltb k slots_max (omega arith), lt-ltb (k + 1) slots_max l, z)
