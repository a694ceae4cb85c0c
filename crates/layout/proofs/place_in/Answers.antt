use native.Mathlib.Omega.{arith}
use Rattle.layout.specs.Layout.{place_small}
use Rattle.layout.proofs.place_in.Goals as goal

-- With `place_small` named at the function instead none of these closed: no goal shows all that the lemma speaks of.
pub overflow_mul-result : goal.overflow_mul-result
overflow_mul-result c = omega (arith, place_small c.args.sh c.args.k c.args.x c.args.y c.args.f _ (omega arith) (omega arith) (omega arith) (omega arith) (omega arith) c.region_of-e.ensures c.if-x-e.true c.if-y-e.true c.if-f-e.true)

pub overflow_add-result : goal.overflow_add-result
overflow_add-result c = omega (arith, place_small c.args.sh c.args.k c.args.x c.args.y c.args.f _ (omega arith) (omega arith) (omega arith) (omega arith) (omega arith) c.region_of-e.ensures c.if-x-e.true c.if-y-e.true c.if-f-e.true)

pub overflow_mul-result-then-x-e : goal.overflow_mul-result-then-x-e
overflow_mul-result-then-x-e c = omega (arith, place_small c.args.sh c.args.k c.args.x c.args.y c.args.f _ (omega arith) (omega arith) (omega arith) (omega arith) (omega arith) c.region_of-e.ensures c.if-x-e.true c.if-y-e.true c.if-f-e.true)

pub overflow_add-result-then-x-e : goal.overflow_add-result-then-x-e
overflow_add-result-then-x-e c = omega (arith, place_small c.args.sh c.args.k c.args.x c.args.y c.args.f _ (omega arith) (omega arith) (omega arith) (omega arith) (omega arith) c.region_of-e.ensures c.if-x-e.true c.if-y-e.true c.if-f-e.true)

pub overflow_add-result-then-x-e-2 : goal.overflow_add-result-then-x-e-2
overflow_add-result-then-x-e-2 c = omega (arith, place_small c.args.sh c.args.k c.args.x c.args.y c.args.f _ (omega arith) (omega arith) (omega arith) (omega arith) (omega arith) c.region_of-e.ensures c.if-x-e.true c.if-y-e.true c.if-f-e.true)
