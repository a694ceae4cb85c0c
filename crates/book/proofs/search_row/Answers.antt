use Rattle.std.proofs.Common.{ne_eqb, le-ltb}
use Rattle.book.specs.Code.{link_below}
use Rattle.layout.specs.Layout.{load}
use native.Mathlib.Omega.{arith}
use mathlib.Core.Path.{refl}
use Rattle.book.proofs.search_row.Goals as goal

-- With `link_below` named at the function, as the others are, the check came to a limit of its search here.
pub loop-n-preserved : goal.loop-n-preserved
loop-n-preserved c = (omega (arith, c.loop-n.invariant.0), link_below (load c.args.s.now c.args.sh) _ c.args.id _ _ c.loop-n.invariant.1 c.loop-n-test.true _ _ _ _ refl c.index_word-x.ensures c.row_word-w.ensures refl (ne_eqb _ _ c.if-w-id.false) _ refl (le-ltb _ _ c.if-w-id-2.false))
