-- "SLOTS_PER_PAGE 64, MAX_NEW_PAGES 2": the most new pages that a batch of 64 needs, with the page size as a parameter.
-- The theorems are `new_pages`, `reserve_takes`, `pages_of_64`, `pages_of_32` and `pages_of_16` of proofs/Batches.antt. Assumes nothing.
use Rattle.std.specs.Prelude.{◌≡◌, List, ℕ, ◌+◌, ◌-◌, ◌/◌, ◌≤◌}
use Rattle.std.proofs.Math.Option.{some}
use Rattle.std.proofs.Math.ListN.{length}
use Rattle.model.specs.State.{Sizes, State, max_batch}
use Rattle.model.specs.Storage.{slots_of, pages_for}
use Rattle.model.specs.Create.{max_pages}
use Rattle.model.specs.WellFormed.{WellFormed}

-- "Page 262,143 has 63 slots": the slots that the last page of the largest table lacks
abbrev pub last_page : Sizes → ℕ
last_page z = max_pages z - 1

abbrev pub lacking : Sizes → ℕ
lacking z = z.page_slots - slots_of z (last_page z)

-- as many pages as make up a batch and what the last page lacks
abbrev pub most_pages : Sizes → ℕ
most_pages z = (max_batch + lacking z + z.page_slots - 1) / z.page_slots

-- in no well-formed state does a batch need more than m new pages
abbrev pub NewPages : Sizes → ℕ → Type 0
NewPages z m = (s : State) → WellFormed z s → (b n : ℕ) → n ≤ max_batch → (ps : List ℕ) → pages_for z (s.tables b) n ≡ some ps → length ps ≤ m

-- m is the most, and no lower number is
pub record MostPages (z : Sizes) (m : ℕ) : Type 0 where
  pub short : lacking z ≡ 1
  pub enough : NewPages z m
  pub least : (k : ℕ) → NewPages z k → m ≤ k
