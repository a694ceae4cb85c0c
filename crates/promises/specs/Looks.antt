-- Document 02, 2: "Look at a handle while it is being moved." What `get_info` shows then, of any claim and with the page size as a parameter. That such looks may stand in the list of the two
-- runs is part of `permitted`, and so of Demand3.antt. The theorems are `transfer_shows`, `consumption_shows` and `look_refusals` of proofs/Looks.antt. Assumes nothing.
use Rattle.std.specs.Prelude.{◌≡◌, true, not, List, ◌∷◌, ℕ, length}
use Rattle.std.proofs.Math.Option.{Option}
use Rattle.model.specs.Base.{every, at_most}
use Rattle.model.specs.State.{Sizes, State, max_batch}
use Rattle.model.specs.Book.{free_row, id_left}
use Rattle.model.specs.Request.{Info, Route, Item, Request, Request.duplicate, Request.get_info, Request.resolve, Request.replace, Request.close, Request.prepare_transfer, Request.prepare_consumption, Request.rollback, Request.direct_rollback, Answer.refused, Answer.done, Answer.info_of}
use Rattle.model.specs.Step.{step, run}
use Rattle.noninterference.specs.Runs.{names_id}

-- the list does not name the claim's id: no list that the two runs permit does, and it may do all else
abbrev pub Unnamed : (id : ℕ) → List Request → Type 0
Unnamed t rs = every (λ r. not (names_id t r)) rs ≡ true

-- "Every other call answers on it as before": 3 on the value v of table b, where nothing that the printed orders have before the lookup refuses
pub record BusyToOthers (z : Sizes) (s : State) (b v : ℕ) : Type 0 where
  pub resolves : (rights kind : ℕ) → (step z s (resolve b v rights kind)).1 ≡ refused 3
  pub replaces : (rights : ℕ) → (step z s (replace b v rights)).1 ≡ refused 3
  pub closes : (step z s (close b v)).1 ≡ refused 3
  pub duplicates : (rights : ℕ) → free_row s ≡ true → (step z s (duplicate b v rights)).1 ≡ refused 3
  pub consumes : (rights kind koid : ℕ) → free_row s ≡ true → (step z s (prepare_consumption b v rights kind koid)).1 ≡ refused 3
  -- the first item of a transfer, a move or a copy
  pub transfers : (route : Route) (banned_object banned_kind : Option ℕ) (q : Item) (qs : List Item) → q.value ≡ v → at_most (length (q ∷ qs)) max_batch ≡ true → free_row s ≡ true → id_left s ≡ true
      → (step z s (prepare_transfer b route banned_object banned_kind (q ∷ qs))).1 ≡ refused 3

-- what `get_info` shows of the value v of table b: in the state s before a preparation; after it, which left u, and after the list rs; and once the claim t is rolled back
pub record Shown (z : Sizes) (s u : State) (t b v : ℕ) (rs : List Request) : Type 0 where
  pub info : Info
  pub before : (step z s (get_info b v)).1 ≡ info_of info
  pub meanwhile : (step z (run z u rs).0 (get_info b v)).1 ≡ info_of info
  pub others : BusyToOthers z (run z u rs).0 b v
  pub rolled_back : (step z (run z u rs).0 (rollback t)).1 ≡ done
  pub again : (step z (step z (run z u rs).0 (rollback t)).0 (get_info b v)).1 ≡ info_of info
  -- or rolled back with a reservation j, directly
  pub again_directly : (j : ℕ) → (step z (run z u rs).0 (direct_rollback t j)).1 ≡ done → (step z (step z (run z u rs).0 (direct_rollback t j)).0 (get_info b v)).1 ≡ info_of info
