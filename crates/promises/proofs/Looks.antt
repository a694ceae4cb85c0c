-- Document 02, 2: "Look at a handle while it is being moved." The theorems of the page specs/Looks.antt. Assumes nothing.
use Rattle.std.specs.Prelude.{◌≡◌, refl, true, false, List, [], ◌∷◌, ℕ, length, ltb}
use Rattle.std.proofs.Common.{ap, ◌∙◌, arith, lt-ltb}
use Rattle.std.proofs.Math.Option.{Option, some}
use Rattle.model.specs.Base.{every, member, nth}
use Rattle.model.specs.State.{Sizes, Handle, State, is_active}
use Rattle.model.specs.Objects.{info_for}
use Rattle.model.specs.Request.{Route, Item, Request, Request.get_info, Request.prepare_transfer, Request.prepare_consumption, Request.rollback, Answer.refused, Answer.done, Answer.opened, Answer.info_of}
use Rattle.model.specs.Lookup.{View.busy, lookup}
use Rattle.model.proofs.Decided.{Decided, accepts, with_look}
use Rattle.model.specs.Decision.{Decision, Decision.refusal, Decision.refusal_after_id, Decision.accept}
use Rattle.model.specs.Step.{get_info_of, resolve_of, replace_of, close_of, duplicate_of, prepare_consumption_of, prepare_transfer_of, rollback_of, decide, carry, step, run}
use Rattle.model.specs.WellFormed.{WellFormed}
use Rattle.model.proofs.Refusals.{is_refused}
use Rattle.model.proofs.Tests.{clash, and_left, and_right}
use Rattle.invariant.proofs.Pages.{Sane}
use Rattle.invariant.proofs.Kept.{kept}
use Rattle.noninterference.specs.Runs.{is_move, permitted}
use Rattle.noninterference.proofs.Lists.{permits_id}
use Rattle.noninterference.proofs.Moving.{Moving, live, is_busy_there, Meanwhile, held_through, held_shows, info_same, back_shows, direct_back_shows, Prepared, transfer_begins, consumption_begins}
use Rattle.promises.specs.Looks.{Unnamed, BusyToOthers, Shown}

rollback_done : (z : Sizes) (t b v : ℕ) (h : Handle) (s : State) → Moving t b v h s → (step z s (rollback t)).1 ≡ done
unfolding step decide rollback_of
rollback_done z t b v h s m = rw m.row

busy_to_others : (z : Sizes) (t b v : ℕ) (h : Handle) (s : State) → WellFormed z s → Moving t b v h s → BusyToOthers z s b v
unfolding step decide resolve_of replace_of close_of duplicate_of prepare_consumption_of prepare_transfer_of
busy_to_others z t b v h s w m =
    let l : ltb b s.table_count ≡ true = lt-ltb b s.table_count m.table in
    let a : is_active (s.tables b).life ≡ true = live z t b v h s w m in
    let e : lookup (s.tables b) v ≡ busy = is_busy_there z t b v h s m in
    record {
      resolves = λ r kind. rw (l, a, e);
      replaces = λ r. rw (l, a, e);
      closes = rw (l, a, e);
      duplicates = λ r f. rw (l, a, f, e);
      consumes = λ r kind koid f. rw (l, a, f, e);
      transfers = λ route o k q qs p n f i. rw (l, a, lt-ltb 0 (length (q ∷ qs)) (omega arith), n, f, i, p, e);
    }

module _ (z : Sizes) (sane : Sane z) (s : State) (w : WellFormed z s) (b : ℕ) where
  shown : (u : State) (t v : ℕ) → Prepared z s t b v u → (rs : List Request) → Unnamed t rs → Shown z s u t b v rs
  shown u t v g rs n =
      let h : Handle = g.handle in
      let end : State = (run z u rs).0 in
      let p : Meanwhile z t b v h s end = held_through z t b v h (kept z sane) s u g.held rs n in
      let same : info_of (info_for end h) ≡ info_of (info_for s h) = ap info_of (info_same s end h (p.objects h.object)) in
      record {
        info = info_for s h;
        before = g.before;
        meanwhile = held_shows z t b v h (kept z sane) s end p;
        others = busy_to_others z t b v h end p.wf p.moving;
        rolled_back = rollback_done z t b v h end p.moving;
        again = back_shows z t b v h end p.wf p.moving ∙ same;
        again_directly = λ j d. direct_back_shows z t b v h end p.wf p.moving j d ∙ same;
      }

  -- A TRANSFER, of moves and copies: each value that it moves
  pub transfer_shows : (route : Route) (banned_object banned_kind : Option ℕ) (items : List Item) (t : ℕ)
      → let transfer : Request = prepare_transfer b route banned_object banned_kind items in
      (step z s transfer).1 ≡ opened t → (j : ℕ) (q : Item) → nth items j ≡ some q → is_move q ≡ true → (rs : List Request) → Unnamed t rs → Shown z s (step z s transfer).0 t b q.value rs
  transfer_shows route banned_object banned_kind items t e j q i m =
      let transfer : Request = prepare_transfer b route banned_object banned_kind items in
      shown (step z s transfer).0 t q.value (transfer_begins z s w b route banned_object banned_kind items t e (kept z sane s w transfer) j q i m)

  -- A CONSUMPTION
  pub consumption_shows : (v rights kind koid t : ℕ) → let consumption : Request = prepare_consumption b v rights kind koid in
      (step z s consumption).1 ≡ opened t → (rs : List Request) → Unnamed t rs → Shown z s (step z s consumption).0 t b v rs
  consumption_shows v rights kind koid t e =
      let consumption : Request = prepare_consumption b v rights kind koid in
      shown (step z s consumption).0 t v (consumption_begins z s w b v rights kind koid t e (kept z sane s w consumption))

-- "after any permitted list": a list that the two runs permit does not name the id
pub permitted_unnamed : (t b : ℕ) (values : List ℕ) (rs : List Request) → every (permitted t b values) rs ≡ true → Unnamed t rs
permitted_unnamed t b values [] p = refl
permitted_unnamed t b values (r ∷ rs) p = rw (permits_id t b values r (and_left _ _ p)) (permitted_unnamed t b values rs (and_right (permitted t b values r) _ p))

-- in any state and of any value: `get_info` refuses with 18, 16 or 2 alone, so never with 3
pub look_refusals : (z : Sizes) (s : State) (b v n : ℕ) → (step z s (get_info b v)).1 ≡ refused n → member n (18 ∷ 16 ∷ 2 ∷ []) ≡ true
unfolding step decide get_info_of
look_refusals z s b v n = go (get_info_of z s b v) (with_look s b v refl refl refl (λ l a h e. accepts refl))
  where
    go : (d : Decision) → Decided (λ n. member n (18 ∷ 16 ∷ 2 ∷ []) ≡ true) (λ n. ⊥) (λ u a. is_refused a ≡ false) d → (carry z s d).1 ≡ refused n → member n (18 ∷ 16 ∷ 2 ∷ []) ≡ true
    go (refusal m) d e = let i : n ≡ m = cc in rw i d.leaves
    go (refusal_after_id m) d e = absurd d.leaves
    go (accept u a) d e = clash (ap is_refused e) d.leaves
