-- "Preparing and rolling back a transfer leave the epoch, the pages' high marks and the table's orders unchanged, and a commit moves them
-- as closing the moved slots in the transfer's order would."
-- Of every claim: copies may stand among its moves, and it may be a consumption. The theorems are in proofs/Transfers.antt. Assumes nothing.
use Rattle.std.specs.Prelude.{◌≡◌, true, ℕ}
use mathlib.Core.List.{List, [], ◌∷◌, map}
use Rattle.model.specs.Base.{pick, every}
use Rattle.model.specs.State.{Sizes, Table, State}
use Rattle.model.specs.Request.{Item, Request.close}
use Rattle.model.specs.Transfer.{is_copy}
use Rattle.model.specs.Step.{run}
use Rattle.noninterference.specs.Runs.{accepted}

-- u is t but for its slots: the same epoch, the same pages with their frames and high marks, the same orders
pub record SameOrders (t u : Table) : Type 0 where
  pub limit : u.limit ≡ t.limit
  pub mask : u.mask ≡ t.mask
  pub life : u.life ≡ t.life
  pub epoch : u.epoch ≡ t.epoch
  pub size : u.size ≡ t.size
  pub pages : u.pages ≡ t.pages
  pub free : u.free ≡ t.free
  pub empty : u.empty ≡ t.empty
  pub detached : u.detached ≡ t.detached

-- in every table
abbrev pub KeepsOrders : State → State → Type 0
KeepsOrders s u = (c : ℕ) → SameOrders (s.tables c) (u.tables c)

-- the values that a transfer moves, in its order
abbrev pub moves_of : List Item → List ℕ
moves_of [] = []
moves_of (q ∷ qs) = pick (is_copy q.operation) (moves_of qs) (q.value ∷ moves_of qs)

-- COMMITTING
-- closing the values of table b one after the other from u is accepted each time, and leaves every table as w has it
pub record ClosingsLeave (z : Sizes) (b : ℕ) (values : List ℕ) (u w : State) : Type 0 where
  pub closings : every accepted (run z u (map (close b) values)).1 ≡ true
  pub tables : (c : ℕ) → (run z u (map (close b) values)).0.tables c ≡ w.tables c
