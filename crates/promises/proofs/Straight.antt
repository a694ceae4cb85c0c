-- Document 02, 3: the theorems of the page specs/Straight.antt. Assumes nothing.
use Rattle.std.specs.Prelude.{◌≡◌, List, ℕ, ◌*◌, ◌≤◌, length}
use Rattle.std.proofs.Common.{ap}
use Rattle.std.proofs.Math.Option.{some}
use Rattle.format.specs.Format.{answer_words}
use Rattle.model.specs.State.{Sizes, till, State}
use Rattle.model.specs.Request.{Request}
use Rattle.model.specs.Step.{decide}
use Rattle.model.specs.Words.{read_list}
use Rattle.straight.proofs.Same.{step_same, run_same}
use Rattle.straight.proofs.FromEnd.{publish_from_end_same, direct_commit_from_end_same}
use Rattle.layout.specs.declared.Shape.{Shape}
use Rattle.representation.specs.Represents.{Rep}
use Rattle.contract.specs.Meets.{Called, Meets}
use Rattle.promises.proofs.Demand2.{demand_2}
use Rattle.promises.specs.Straight.{NothingChanges, GoesStraight}

abbrev state_of : {A : Type 0} → State × A → State
state_of p = p.0

abbrev answer_of : {A : Type 0} → State × A → A
answer_of p = p.1

pub nothing_changes : (z : Sizes) → NothingChanges z
unfolding decide
nothing_changes z = record {
  answer = λ s r. ap answer_of (step_same z s r);
  state = λ s r. ap state_of (step_same z s r);
  answers = λ s rs. ap answer_of (run_same z s rs);
  states = λ s rs. ap state_of (run_same z s rs);
  from_end = λ s w i is. publish_from_end_same z s w i is;
  direct_from_end = λ s w i j. direct_commit_from_end_same z s w i j;
}

pub straight_calls : (ws list os : List ℕ) (x : Called) → Meets ws list os x → (sh : Shape) (s : State) → Rep ws sh s → (rs : List Request) → read_list list ≡ some rs
    → answer_words * length rs ≤ length os → GoesStraight os sh s rs x
straight_calls ws list os x m sh s r rs e h =
    let d = demand_2 ws list os x m sh s r rs e h in
    record { result = d.result; answers = rw (run_same till s rs) d.answers; state = rw (run_same till s rs) d.state }
