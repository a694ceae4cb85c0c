-- HOW FAR THE PROMISES REACH: the theorems of the page specs/Every.antt. Assumes nothing.
use Rattle.std.specs.Prelude.{◌≡◌, true, List, ℕ}
use Rattle.std.proofs.Common.{sym, subst}
use Rattle.std.proofs.Math.Option.{some}
use Rattle.model.specs.State.{till, State}
use Rattle.model.specs.Words.{call}
use Rattle.model.specs.WellFormed.{WellFormed, Equal}
use Rattle.layout.specs.Layout.{load}
use Rattle.representation.specs.Unique.{shape_for}
use Rattle.written.proofs.Whole.{written, has_words}
use Rattle.written.proofs.Limits.{written_small}
use Rattle.wellformed.specs.View.{view_of}
use Rattle.wellformed.specs.Whole.{check_b}
use Rattle.wellformed.proofs.Whole.{check_complete, shown}
use Rattle.contract.specs.Meets.{Called, Meets}
use Rattle.promises.proofs.Demand1.{demand_1}
use Rattle.reach.specs.Every.{Words, Starts}

pub every_state : (s : State) → WellFormed till s → Words (shape_for s) s
every_state s w = record { words = written s; small = written_small s w; rep = has_words s w }

module _ (s : State) (w : WellFormed till s) where
  -- the state check says yes to them, and they show the state again
  pub accepted : check_b (written s) ≡ true
  accepted = check_complete (written s) (shape_for s) s (has_words s w)

  pub shown_again : view_of (shape_for s) (load (written s) (shape_for s)) ≡ s
  shown_again = sym (shown (written s) (shape_for s) (written_small s w) s (has_words s w))

  -- "18 .. state not well formed", and for no other state: the result of a call on them is what the definitions give for the state, and never 18
  pub not_misuse : (list os : List ℕ) (x : Called) → Meets (written s) list os x → (x.result ≡ (call till (some s) list os).result) × (x.result ≡ 18 → ⊥)
  not_misuse list os x m = (m.result (shape_for s) s (has_words s w), λ e. (demand_1 (written s) list os x m).misuse.0 e (shape_for s) s (has_words s w))

pub any_two : (s u : State) → WellFormed till s → Equal s u → Starts s u
any_two s u w e = record { sh = shape_for s; held = every_state s w; plain = subst (Words (shape_for s)) e (every_state s w) }
