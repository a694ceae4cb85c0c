-- DEMAND 2 of document 00: the theorems of the page specs/Demand2.antt. Assumes nothing.
use Rattle.std.specs.Prelude.{◌≡◌, List, ◌++◌, ℕ, ◌*◌, ◌≤◌, length}
use Rattle.std.proofs.Common.{sym, ap, ◌∙◌}
use Rattle.std.proofs.Math.Option.{some}
use Rattle.format.specs.Format.{answer_words}
use Rattle.model.specs.State.{till, State}
use Rattle.model.specs.Request.{Request}
use Rattle.model.specs.Step.{run}
use Rattle.model.specs.Words.{read_list}
use Rattle.layout.specs.declared.Shape.{Shape}
use Rattle.representation.specs.Represents.{Rep}
use Rattle.create.specs.Meets.{Asked, Meets as Creates}
use Rattle.contract.specs.Meets.{Called, Meets}
use Rattle.promises.specs.Terms.{Call, Calls, list_of, requests_of, Together}
use Rattle.promises.proofs.Lower.{reads_both}
use Rattle.promises.proofs.Calls.{went, reads_of, together}
use Rattle.promises.specs.Demand2.{Steps, Cut, Makes}

pub demand_2 : (ws list os : List ℕ) (x : Called) → Meets ws list os x → (sh : Shape) (s : State) → Rep ws sh s → (rs : List Request) → read_list list ≡ some rs
    → answer_words * length rs ≤ length os → Steps ws os sh s rs x
demand_2 ws list os x m sh s r rs e h =
    let w = went ws list os sh s rs x m r e h in
    record { result = w.result; answers = w.answers; state = w.state; beyond = m.beyond sh s r }

-- lists that read, one behind the other, read as their requests one behind the other
pub demand_2_lists : (xs ys : List ℕ) (rs qs : List Request) → read_list xs ≡ some rs → read_list ys ≡ some qs → read_list (xs ++ ys) ≡ some (rs ++ qs)
demand_2_lists = reads_both

-- calls one after the other, whose lists together read as rs, do what the steps of rs do: all pass, their answers' words are the steps' in order, and so is the state left
pub demand_2_calls : (sh : Shape) (ws : List ℕ) (s : State) (cs : List Call) (rs : List Request) → Rep ws sh s → Calls ws cs → read_list (list_of cs) ≡ some rs → Together ws sh s cs rs
demand_2_calls = together

pub demand_2_cut : (sh : Shape) (ws us : List ℕ) (s : State) (cs ds : List Call) → Rep ws sh s → Rep us sh s → Calls ws cs → Calls us ds → list_of cs ≡ list_of ds → Cut sh ws us cs ds
demand_2_cut sh ws us s cs ds r q k l e =
    let a = together sh ws s cs (requests_of cs) r k (reads_of ws cs k) in
    let b = together sh us s ds (requests_of cs) q l (ap read_list (sym e) ∙ reads_of ws cs k) in
    record { answers = a.answers ∙ sym b.answers; end = (run till s (requests_of cs)).0; first = a.state; second = b.state }

pub demand_2_creation : (ws ps : List ℕ) (r : ℕ) (us : List ℕ) → Creates ws ps r us → Asked ws ps → Makes ws ps r us
demand_2_creation ws ps r us m a = let d = m.done a in record { result = d.0; state = d.1; beyond = d.2 }
