use Rattle.claim.proofs.Takes.{takes_batch, takes_straight}
use Rattle.claim.proofs.answer_direct_commit.Goals as goal

-- As parcel's `answer_publish`.
pub returns-clause-batch : goal.returns-clause-batch
returns-clause-batch c = takes_batch _ _ _ _ _ _ _ _ _ c.direct_commit.ensures c.outcome.ensures

pub returns-clause-straight : goal.returns-clause-straight
returns-clause-straight c = takes_straight _ _ _ _ _ _ _ _ _ c.direct_commit.ensures c.outcome.ensures
