-- Demand 3 of document 00, whole: the held and the plain run.
use Rattle.std.specs.Prelude.{◌≡◌, refl, true, false, List, map, ℕ}
use Rattle.std.proofs.Common.{subst}
use Rattle.std.proofs.Math.Option.{Option}
use Rattle.model.specs.Base.{every}
use Rattle.model.specs.State.{Sizes, State}
use Rattle.model.specs.Request.{Route, Item, Request, Request.prepare_transfer, Answer, Answer.opened}
use Rattle.model.specs.Step.{step, run}
use Rattle.model.specs.WellFormed.{WellFormed, Equal}
use Rattle.noninterference.specs.Names.{value_of}
use Rattle.noninterference.specs.Runs.{is_move, permitted, wanting, lower_request}
use Rattle.invariant.specs.Pages.{Sane}
use Rattle.invariant.proofs.Kept.{kept as always_kept}
use Rattle.noninterference.proofs.Endings.{rollback_done, rollback_is, commit_done, closings_accepted, commit_is}
use Rattle.noninterference.proofs.Beside.{Beside, runs_beside}
use Rattle.noninterference.specs.Theorem.{Agree}

module _ (z : Sizes) (sane : Sane z) where
  -- "Two runs start from any two equal, well formed states. Run H prepares a transfer of moves only, accepted, runs a list of requests ..;
  -- run P runs the same list without the transfer"
  pub held_and_plain : (s u : State) → WellFormed z s → Equal s u
      → (b : ℕ) (route : Route) (banned_object banned_kind : Option ℕ) (items : List Item) → every is_move items ≡ true
      → let transfer : Request = prepare_transfer b route banned_object banned_kind items in
      let values : List ℕ = map value_of items in
      (t : ℕ) → (step z s transfer).1 ≡ opened t
      → (rs : List Request) → every (permitted t b values) rs ≡ true → wanting z (step z s transfer).0 rs ≡ false
      → Agree z t b values (run z (step z s transfer).0 rs) (run z u (map (lower_request t) rs))
  held_and_plain s u w e b route banned_object banned_kind items moves t opened_t rs p n =
      let kept : (s : State) → WellFormed z s → (r : Request) → WellFormed z (step z s r).0 = always_kept z sane in
      let transfer : Request = prepare_transfer b route banned_object banned_kind items in
      let values : List ℕ = map value_of items in
      let h : State × List Answer = run z (step z s transfer).0 rs in
      let y : Beside z t b values h (run z u (map (lower_request t) rs)) =
      runs_beside z kept s u w e b route banned_object banned_kind items moves t opened_t rs p n in
      subst (Agree z t b values h) y.same (record {
        answers = refl;
        words = refl;
        rolled_back = rollback_done z kept t b y.es values h.0 y.claimed;
        after_rollback = rollback_is z kept t b y.es values h.0 y.claimed;
        committed = commit_done z kept t b y.es values h.0 y.claimed;
        closings = closings_accepted z kept t b y.es values h.0 y.claimed;
        after_commit = commit_is z kept t b y.es values h.0 y.claimed;
      })
