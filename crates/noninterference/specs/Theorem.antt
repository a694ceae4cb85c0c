-- Demand 3 of document 00: when the held and the plain run agree. The theorem that they do is `held_and_plain` of proofs/Theorem.antt.
use Rattle.std.specs.Prelude.{◌≡◌, true, List, map, ℕ}
use Rattle.model.specs.Base.{every}
use Rattle.model.specs.State.{Sizes, State}
use Rattle.model.specs.Request.{Request.close, Request.rollback, Request.commit, Answer, Answer.done}
use Rattle.model.specs.Step.{step, run}
use Rattle.model.specs.Words.{all_words}
use Rattle.noninterference.specs.Runs.{accepted, lower_answer, lower_table, lower_state}

-- run H left `h` with the transfer t of table b still open, run P left `p`: they agree
pub record Agree (z : Sizes) (t b : ℕ) (values : List ℕ) (h p : State × List Answer) : Type 0 where
  -- "every answer to the list is the same in both", and all its words
  pub answers : p.1 ≡ map (lower_answer t) h.1
  pub words : all_words p.1 ≡ all_words (map (lower_answer t) h.1)
  -- "and so is the whole end state after a rollback"
  pub rolled_back : (step z h.0 (rollback t)).1 ≡ done
  pub after_rollback : p.0 ≡ lower_state t (step z h.0 (rollback t)).0
  -- "or every table after a commit": P "closes the moved values in the transfer's order"
  pub committed : (step z h.0 (commit t)).1 ≡ done
  pub closings : every accepted (run z p.0 (map (close b) values)).1 ≡ true
  pub after_commit : (c : ℕ) → (run z p.0 (map (close b) values)).0.tables c ≡ lower_table t ((step z h.0 (commit t)).0.tables c)
