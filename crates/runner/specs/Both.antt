-- The call does what its contract says: each request does, the state check is right, and the list is read as the definitions read it. Assumes nothing.
use Rattle.std.specs.Prelude.{◌≡◌, List, ℕ, length}
use Rattle.words.specs.Words.{Small}
use Rattle.layout.specs.Layout.{load}
use Rattle.wellformed.specs.View.{view_of}
use Rattle.wellformed.specs.Whole.{well_b}
use Rattle.wellformed.proofs.Whole.{sound, complete}
use Rattle.contract.specs.Meets.{Called, Meets}
use Rattle.contract.specs.Call.{run_w}
use Rattle.contract.proofs.Call.{run_meets}
use Rattle.serve.specs.Serve.{one_r}
use Rattle.serve.specs.Steps.{steps}

-- both clauses of the call's contract
pub run_both : (ws list os : List ℕ) (x : Called) → Small ws → length x.state ≡ length ws → x ≡ run_w one_r well_b ws list os → (x ≡ run_w one_r well_b ws list os) × Meets ws list os x
run_both ws list os x small long e =
    (e, rw e (run_meets one_r steps well_b (λ vs sh h m w. (view_of sh (load vs sh), sound vs sh h m w)) (λ vs sh s r. complete vs sh s r) ws list os small (rw e at long)))
