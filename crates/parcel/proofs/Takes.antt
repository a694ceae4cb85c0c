-- Publish does what both of its definitions decide: document 01's step, and the one straight from the rows. Assumes nothing.
use Rattle.std.specs.Prelude.{List, ℕ}
use Rattle.std.proofs.Math.Path.{◌≡◌, refl}
use Rattle.std.proofs.Common.{◌∙◌}
use Rattle.model.specs.State.{till, State}
use Rattle.model.specs.Request.{Request.publish}
use Rattle.model.specs.Step.{publish_of, decide}
use Rattle.straight.specs.Straight.{publish_straight}
use Rattle.straight.proofs.Same.{publish_same}
use Rattle.layout.specs.declared.Shape.{Shape}
use Rattle.representation.specs.Represents.{Rep}
use Rattle.answer.specs.Does.{both, answered, Gives, Does, Takes, takes}
use Rattle.parcel.specs.Publishing.{publish_r}
use Rattle.parcel.specs.Published.{publish_does}

module _ (ws os : List ℕ) (sh : Shape) (base i : ℕ) (is us vs o : List ℕ) (g : Gives us vs (λ os base. publish_r ws os sh base i is)) (a : o ≡ answered os base vs) where
  does : (s : State) → Rep ws sh s → Does ws os sh base s (publish i is) (both us o)
  does s r = rw (a, g os base) (publish_does ws sh s r os base i is)

  batch_is : (s : State) → publish_of till s i is ≡ decide till s (publish i is)
  unfolding decide
  batch_is s = refl

  pub takes_batch : Takes ws os sh base (λ s. publish_of till s i is) (both us o)
  takes_batch = takes ws os sh base (publish i is) _ (both us o) batch_is does

  pub takes_straight : Takes ws os sh base (λ s. publish_straight till s i is) (both us o)
  takes_straight = takes ws os sh base (publish i is) _ (both us o) (λ s. publish_same till s i is ∙ batch_is s) does
