-- DEMAND 1 of document 00: the theorems of the page specs/Demand1.antt. Assumes nothing.
use Rattle.std.specs.Prelude.{List, ℕ}
use Rattle.create.specs.Meets.{Meets as Creates}
use Rattle.contract.specs.Meets.{Called, Meets}
use Rattle.promises.proofs.Refused.{results, misuse, malformed, short, refusals, create_results, create_refused, create_kept}
use Rattle.promises.specs.Demand1.{Ends, CreationEnds}

pub demand_1 : (ws list os : List ℕ) (x : Called) → Meets ws list os x → Ends ws list os x
demand_1 ws list os x m = record {
  result = results ws list os x m;
  misuse = misuse ws list os x m;
  malformed = malformed ws list os x m;
  short = short ws list os x m;
  kept = m.kept;
  refused = refusals ws list os x m;
}

pub demand_1_creation : (ws ps : List ℕ) (r : ℕ) (us : List ℕ) → Creates ws ps r us → CreationEnds ws ps r us
demand_1_creation ws ps r us m = record {
  result = create_results ws ps r us m;
  refused = create_refused ws ps r us m;
  kept = create_kept ws ps r us m;
}
