-- The held run beside the plain one, after any permitted list: the transfer's claim is still open in H, and H's state without it is P's.
use Rattle.std.specs.Prelude.{◌≡◌, true, false, List, map, ℕ}
use Rattle.std.proofs.Common.{sym, ap, ◌∙◌}
use Rattle.std.proofs.Math.Option.{Option}
use Rattle.model.specs.Base.{every}
use Rattle.model.specs.State.{Sizes, Entry, State}
use Rattle.model.specs.Request.{Route, Item, Request, Request.prepare_transfer, Answer, Answer.opened}
use Rattle.model.specs.Step.{step, run}
use Rattle.model.specs.WellFormed.{WellFormed, Equal}
use Rattle.noninterference.specs.Names.{value_of}
use Rattle.noninterference.specs.Runs.{is_move, permitted, wanting, lower_request, lower_answer}
use Rattle.noninterference.specs.Erase.{erase}
use Rattle.noninterference.proofs.Alike.{Open}
use Rattle.noninterference.proofs.Lists.{list_alike}
use Rattle.noninterference.proofs.Start.{Begun, opens}

-- run H left `h`, run P left `p`
pub record Beside (z : Sizes) (t b : ℕ) (values : List ℕ) (h p : State × List Answer) : Type 0 where
  pub es : List Entry
  pub claimed : Open z t b es values h.0
  pub same : (erase t es h.0, map (lower_answer t) h.1) ≡ p

module _ (z : Sizes) (kept : (s : State) → WellFormed z s → (r : Request) → WellFormed z (step z s r).0) where
  pub runs_beside : (s u : State) → WellFormed z s → Equal s u
      → (b : ℕ) (route : Route) (banned_object banned_kind : Option ℕ) (items : List Item) → every is_move items ≡ true
      → let transfer : Request = prepare_transfer b route banned_object banned_kind items in
      let values : List ℕ = map value_of items in
      (t : ℕ) → (step z s transfer).1 ≡ opened t
      → (rs : List Request) → every (permitted t b values) rs ≡ true → wanting z (step z s transfer).0 rs ≡ false
      → Beside z t b values (run z (step z s transfer).0 rs) (run z u (map (lower_request t) rs))
  runs_beside s u w e b route banned_object banned_kind items moves t opened_t rs p n =
      let transfer : Request = prepare_transfer b route banned_object banned_kind items in
      let values : List ℕ = map value_of items in
      let g : Begun z s t b values (step z s transfer).0 = opens z s w b route banned_object banned_kind items moves t opened_t (kept s w transfer) in
      let l = list_alike z kept t b g.es values (step z s transfer).0 g.claimed rs p n in
      record {
        es = g.es;
        claimed = l.1;
        same = sym l.0 ∙ ap (λ (x : State). run z x (map (lower_request t) rs)) (g.same ∙ e);
      }
