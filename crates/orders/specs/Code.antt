-- What the code's branches say, in the terms of the definitions. Assumes nothing.
use Rattle.std.specs.Prelude.{◌≡◌, Bool, true, false, eqb}
use Rattle.std.proofs.Common.{arith}
use Prim.Native.Nat.{ℕ, zero, suc, ◌+◌, ◌-◌, ◌≤◌, ◌<◌}
use Rattle.words.specs.Pick.{bool}
use Rattle.layout.specs.Layout.{Mem, entry}
use Rattle.layout.specs.Fields.{entry_frame}
use Rattle.layout.specs.Sizes.{page_size}
use Rattle.orders.specs.Walk.{walk}
use Rattle.orders.specs.Check.{vacants_on}

-- ---- counts

-- a page has at most 64
pub vacants_few : (m : Mem) (e p : ℕ) → vacants_on m e p ≤ page_size
unfolding vacants_on
vacants_few m e p = bool (eqb (m (entry (e + p) entry_frame)) 0) (λ y. rw y (omega arith)) (λ y. rw y (omega arith))

-- ---- walks

module _ (next : ℕ → ℕ) (links : ℕ → ℕ → Bool) where
  pub walk_stop : (k h p : ℕ) → 0 < k → links h p ≡ false → walk next links k h p ≡ false
  unfolding walk
  walk_stop zero h p e f = absurd (omega arith)
  walk_stop (suc k) h p e f = rw f

  pub walk_on : (k j h p r : ℕ) → k ≡ suc j → links h p ≡ true → r ≡ next (h - 1) → walk next links k h p ≡ walk next links j r h
  unfolding walk
  walk_on k j h p r e f q = rw (e, f, q)
