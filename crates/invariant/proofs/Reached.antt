-- Every state that requests reach from creation is well formed.
use Rattle.std.specs.Prelude.{◌≡◌, List}
use Rattle.std.proofs.Math.Option.{some}
use Rattle.model.specs.State.{Sizes, State}
use Rattle.model.specs.Request.{Request}
use Rattle.model.specs.Step.{run}
use Rattle.model.specs.Create.{Parameters, create}
use Rattle.model.proofs.Created.{create_well_formed}
use Rattle.model.specs.WellFormed.{WellFormed}
use Rattle.invariant.specs.Pages.{Sane}
use Rattle.invariant.proofs.Kept.{run_kept}

-- every state reached from creation is well formed
pub reached : (z : Sizes) → Sane z → (p : Parameters) (s : State) → create z p ≡ some s → (rs : List Request) → WellFormed z (run z s rs).0
reached z sane p s e rs = run_kept z sane s (create_well_formed z p s e) rs
