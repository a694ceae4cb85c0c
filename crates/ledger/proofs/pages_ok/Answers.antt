use Rattle.std.proofs.Common.{◌≡◌, ℕ, sym, ap, ◌∙◌, eqb, arith}
use Rattle.layout.specs.Layout.{load}
use Rattle.ledger.specs.Code.{pages_end}
use Rattle.ledger.proofs.pages_ok.Goals as goal

-- The check does not find this alone: the loop's end has to be put in two places of what it keeps.
pub returns : goal.returns
returns c =
    let e : c.loop-j.j ≡ c.args.n = omega arith in
    ap (λ (w : ℕ). eqb w 0) (rw e at c.loop-j.invariant.1) ∙ sym (pages_end (load c.args.s.now c.args.sh) c.args.sh c.args.x c.args.n (rw e at c.loop-j.invariant.0))
