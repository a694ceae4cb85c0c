use Rattle.parcel.proofs.Takes.{takes_batch, takes_straight}
use Rattle.parcel.proofs.answer_publish.Goals as goal

-- The search takes no law of definitions that are passed on; both follow from what the two calls ensure.
pub returns-clause-batch : goal.returns-clause-batch
returns-clause-batch c = takes_batch _ _ _ _ _ _ _ _ _ c.publish.ensures c.outcome.ensures

pub returns-clause-straight : goal.returns-clause-straight
returns-clause-straight c = takes_straight _ _ _ _ _ _ _ _ _ c.publish.ensures c.outcome.ensures
