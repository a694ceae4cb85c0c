use Rattle.std.proofs.Common.{◌≡◌, ℕ, ◌+◌, ◌<◌, ◌≤◌, get_or}
use Rattle.replay.proofs.say_words.Given as goal

-- the words from `at` to this one are equal
abbrev pub invariant-loop-i : goal.invariant-loop-i
invariant-loop-i l = (l.at ≤ l.i) × ((k : ℕ) → l.at ≤ k → k < l.i + 1 → get_or l.words k 0 ≡ get_or l.words l.at 0)
