-- HOW FAR THE PROMISES REACH: to every well-formed state of document 01, since each has words (`has_words`). The theorems are in proofs/Every.antt.
-- Assumes nothing.
use Rattle.std.specs.Prelude.{List, ℕ}
use Rattle.words.specs.Words.{Small}
use Rattle.model.specs.State.{State}
use Rattle.layout.specs.declared.Shape.{Shape}
use Rattle.representation.specs.Represents.{Rep}

-- words that a caller can lend, and that represent the state
pub record Words (sh : Shape) (s : State) : Type 0 where
  pub words : List ℕ
  pub small : Small words
  pub rep : Rep words sh s

-- "Two runs start from any two equal, well formed states": any two have words from which the runs of demand 3 start
pub record Starts (s u : State) : Type 0 where
  pub sh : Shape
  pub held : Words sh s
  pub plain : Words sh u
