use Rattle.std.proofs.Common.{◌≡◌, ℕ, List}
use Rattle.growth.specs.Words.{each_w}
use Rattle.growth.proofs.grow_by.Given as goal

abbrev pub invariant-loop-j : goal.invariant-loop-j
invariant-loop-j g l =
    goal.F-IsAlwaysCallable g l.attach
    × ((f : ℕ → List ℕ → List ℕ) → ((p : _) (j : ℕ) (q : _) → goal.F-post g l.attach p j tt q → q.now ≡ f j p.now) → l.s ≡ each_w f 0 l.j l.initial.s)
