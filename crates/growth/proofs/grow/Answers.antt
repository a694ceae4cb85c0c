use Rattle.std.proofs.Common.{rules, ap, ◌∙◌, ℕ, List}
use Rattle.growth.specs.Words.{attach_next_w, aged_w, grow_w}
use Rattle.growth.specs.Code.{each_all}
use Rattle.growth.proofs.grow.Goals as goal

-- The check does not find this alone: the step that is handed on can be seen only when `each_all` is applied.
pub returns : goal.returns
unfolding grow_w
returns c = record { words = c.grow_by.ensures (λ j us. attach_next_w us c.args.sh c.args.b) (λ p j q k. search rules) ∙ ap (λ (u : List ℕ). aged_w u c.args.sh c.args.b c.args.n) (each_all c.args.s.now c.args.sh c.args.b 0 c.args.n) }
