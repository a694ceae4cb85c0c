use Rattle.std.proofs.Common.{arith}
use Rattle.detach.specs.Late.{leaving_none, leaving_more, leaving_all}
use Rattle.detach.proofs.unlink_page.Goals as goal

-- The check does not find these alone: what the loop keeps, `Leaving`, is a record, and it cites no lemma whose conclusion is one.
pub loop-j-init : goal.loop-j-init
loop-j-init c = leaving_none c.args.s.now c.args.sh c.args.b c.args.p _ _ _ c.load-h.ensures c.min-first.ensures c.frame_link-fr.ensures

pub loop-j-preserved : goal.loop-j-preserved
loop-j-preserved c = leaving_more c.args.s.now _ _ c.args.sh c.args.b c.args.p _ _ _ _ _ c.slots_of-n.ensures c.loop-j-test.true c.loop-j.invariant c.unlink_slot.ensures.words c.unlink_slot.ensures.head

pub returns : goal.returns
returns c = record { words = leaving_all c.args.s.now _ _ c.args.sh c.args.b c.args.p _ _ _ _ c.loop-j.invariant (omega arith) c.slots_of-n.ensures c.store_free.ensures }
