-- Which sizes of pages the invariant holds for: every one but 0.
use Rattle.std.specs.Prelude.{◌≤◌}
use Rattle.model.specs.State.{Sizes}

-- a page has a slot
pub record Sane (z : Sizes) : Type 0 where
  pub page : 1 ≤ z.page_slots
