use Rattle.std.proofs.Common.{ℕ, Bool, ◌≡◌, ◌-◌, ◌<◌, ◌^◌}
use Rattle.orders.specs.Walk.{walk}
use Rattle.orders.proofs.walk.Given as goal

abbrev pub invariant-loop : goal.invariant-loop
invariant-loop g l =
    (l.at < 2 ^ 64) × (l.before < 2 ^ 64)
    × ((n : ℕ → ℕ) (t : ℕ → ℕ → Bool) → ((k r : ℕ) → k < 2 ^ 64 → goal.N-post g l.next k r → r ≡ n k) → ((h p : ℕ) (r : Bool) → h < 2 ^ 64 → p < 2 ^ 64 → goal.L-post g l.links h p r → r ≡ t h p)
    → walk n t (l.count - l.counter) l.at l.before ≡ walk n t l.count l.first 0)
