-- What a snapshot looks at in a table: erasing, lowering, marking and putting back leave it, and so whether a plan is stale.
use Rattle.std.specs.Prelude.{◌≡◌, List, [], ◌∷◌, ℕ, ◌-◌}
use Rattle.std.proofs.Math.Path.{refl}
use Rattle.std.proofs.Common.{◌∙◌}
use Rattle.std.proofs.Math.Option.{Option, none, some}
use Rattle.std.proofs.Math.ListN.{length}
use Rattle.model.specs.State.{Sizes, Slot, Slot.occupied, Table, Entry, Entry.moved, Entry.copied, StorageSnapshot, max_batch}
use Rattle.model.specs.Storage.{place, keep, keep_all, pages_from, pages_for, snapshot_with, snapshot_for, is_stale}
use Rattle.model.specs.Step.{restore_all}
use Rattle.noninterference.specs.Runs.{lower_table}
use Rattle.noninterference.specs.Erase.{erase_table}

-- y is as x is in all that a snapshot looks at: never a slot, a frame or the order of empty pages
pub record SameStorage (x y : Table) : Type 0 where
  pub epoch : y.epoch ≡ x.epoch
  pub limit : y.limit ≡ x.limit
  pub size : y.size ≡ x.size
  pub free : y.free ≡ x.free
  pub detached : y.detached ≡ x.detached

pub storage_same : (x : Table) → SameStorage x x
storage_same x = record { epoch = refl; limit = refl; size = refl; free = refl; detached = refl }

pub storage_then : {x y w : Table} → SameStorage x y → SameStorage y w → SameStorage x w
storage_then p q = record {
  epoch = q.epoch ∙ p.epoch;
  limit = q.limit ∙ p.limit;
  size = q.size ∙ p.size;
  free = q.free ∙ p.free;
  detached = q.detached ∙ p.detached;
}

-- erasing and lowering change slots alone
pub storage_erase : (t : ℕ) (es : List Entry) (x : Table) → SameStorage x (erase_table t es x)
storage_erase t es x = record { epoch = refl; limit = refl; size = refl; free = refl; detached = refl }

pub storage_lower : (t : ℕ) (x : Table) → SameStorage x (lower_table t x)
storage_lower t x = record { epoch = refl; limit = refl; size = refl; free = refl; detached = refl }

module _ (z : Sizes) where
  -- a transfer's preparation and its rollback
  storage_place : (x : Table) (k : ℕ) (y : Slot) → SameStorage x (place z x k y)
  unfolding place
  storage_place x k y = record { epoch = refl; limit = refl; size = refl; free = refl; detached = refl }

  pub storage_keep_all : (f : ℕ → Slot) (ks : List ℕ) (x : Table) → SameStorage x (keep_all z f ks x)
  storage_keep_all f [] x = storage_same x
  storage_keep_all f (k ∷ ks) x = storage_then (storage_place x k _) (storage_keep_all f ks (keep z f x k))

  pub storage_restore_all : (es : List Entry) (x : Table) → SameStorage x (restore_all z es x)
  storage_restore_all [] x = storage_same x
  storage_restore_all (moved k h r ∷ es) x = storage_then (storage_place x k _) (storage_restore_all es (keep z (λ g. occupied g h) x k))
  storage_restore_all (copied h ∷ es) x = storage_restore_all es x

  module _ {x y : Table} (p : SameStorage x y) (n : ℕ) where
    pages_same : pages_for z y n ≡ pages_for z x n
    unfolding pages_for
    pages_same = λ i. pages_from z max_batch (n - length (p.free i)) (p.detached i) (p.size i) (p.limit i)

    with_same : (m : Option (List ℕ)) → snapshot_with y m ≡ snapshot_with x m
    with_same none = refl
    with_same (some ps) = λ i. some (record { epoch = p.epoch i; free_slots = length (p.free i); pages = ps })

    pub snapshot_same : snapshot_for z y n ≡ snapshot_for z x n
    snapshot_same = rw pages_same (with_same (pages_for z x n))

    pub stale_same : (w : StorageSnapshot) → is_stale z y n w ≡ is_stale z x n w
    stale_same w = rw snapshot_same

  -- a table without the claim has the same snapshots, and the same plans are stale
  module _ (t : ℕ) (es : List Entry) (x : Table) (n : ℕ) where
    pub snapshot_erase : snapshot_for z (erase_table t es x) n ≡ snapshot_for z x n
    snapshot_erase = snapshot_same (storage_erase t es x) n

    pub stale_erase : (w : StorageSnapshot) → is_stale z (erase_table t es x) n w ≡ is_stale z x n w
    stale_erase = stale_same (storage_erase t es x) n
