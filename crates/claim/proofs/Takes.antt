-- Direct commit does what both of its definitions decide: document 01's step, and the one straight from the rows. Assumes nothing.
use Rattle.std.specs.Prelude.{List, ℕ}
use Rattle.std.proofs.Math.Path.{◌≡◌, refl}
use Rattle.std.proofs.Common.{◌∙◌}
use Rattle.model.specs.State.{till, State}
use Rattle.model.specs.Request.{Request.direct_commit}
use Rattle.model.specs.Step.{direct_commit_of, decide}
use Rattle.straight.specs.Straight.{direct_commit_straight}
use Rattle.straight.proofs.Same.{direct_commit_same}
use Rattle.layout.specs.declared.Shape.{Shape}
use Rattle.representation.specs.Represents.{Rep}
use Rattle.answer.specs.Does.{both, answered, Gives, Does, Takes, takes}
use Rattle.claim.specs.Ops.{direct_commit_r}
use Rattle.claim.proofs.Direct.{direct_commit_does}

module _ (ws os : List ℕ) (sh : Shape) (base i j : ℕ) (us vs o : List ℕ) (g : Gives us vs (λ os base. direct_commit_r ws os sh base i j)) (a : o ≡ answered os base vs) where
  does : (s : State) → Rep ws sh s → Does ws os sh base s (direct_commit i j) (both us o)
  does s r = rw (a, g os base) (direct_commit_does ws sh s r os base i j)

  batch_is : (s : State) → direct_commit_of till s i j ≡ decide till s (direct_commit i j)
  unfolding decide
  batch_is s = refl

  pub takes_batch : Takes ws os sh base (λ s. direct_commit_of till s i j) (both us o)
  takes_batch = takes ws os sh base (direct_commit i j) _ (both us o) batch_is does

  pub takes_straight : Takes ws os sh base (λ s. direct_commit_straight till s i j) (both us o)
  takes_straight = takes ws os sh base (direct_commit i j) _ (both us o) (λ s. direct_commit_same till s i j ∙ batch_is s) does
