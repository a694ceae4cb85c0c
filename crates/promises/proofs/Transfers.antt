-- "Preparing and rolling back a transfer leave the epoch, the pages' high marks and the table's orders unchanged, and a commit moves them
-- as closing the moved slots in the transfer's order would": the theorems of the page specs/Transfers.antt. Assumes nothing.
use Rattle.std.specs.Prelude.{◌≡◌, refl, ℕ, length, eqb}
use Rattle.std.proofs.Common.{sym, ap, ◌∙◌}
use mathlib.Core.List.{List, [], ◌∷◌, map, append-nil}
use Rattle.std.proofs.Math.Option.{Option, some}
use Rattle.std.proofs.lemmas.List.{length-map}
use borrow.Author.Tests.{eqb-true, eq-eqb, lt-ltb}
use Rattle.model.specs.Base.{put}
use Rattle.model.specs.State.{Sizes, Slot.transfer_reserved, Table, Entry, Body, Body.reservation, Body.claim, Body.parcel, State, generation, is_active}
use Rattle.model.specs.Storage.{keep_all, vacate_all}
use Rattle.model.specs.Request.{Route, Item, Request, Request.prepare_transfer, Request.prepare_consumption, Request.rollback, Request.commit}
use Rattle.model.specs.Request.{Request.abort, Request.publish, Request.direct_commit, Request.direct_rollback}
use Rattle.model.specs.Request.{Answer, Answer.done, Answer.opened}
use Rattle.model.specs.Book.{find, moved_of, sent_of}
use Rattle.model.specs.Decision.{Decision}
use Rattle.model.specs.Lookup.{value_at}
use Rattle.model.specs.Step.{restore_all, abort_of, publish_of, rollback_of, commit_of, direct_commit_of, direct_rollback_of, decide, carry, step, run}
use Rattle.model.specs.WellFormed.{WellFormed}
use Rattle.model.proofs.Tests.{bool, same}
use Rattle.model.proofs.Decided.{Decided, Any, accepts, with_claim, carried}
use Rattle.invariant.proofs.BookLemmas.{find_swap_same}
use Rattle.noninterference.specs.Runs.{accepted}
use Rattle.noninterference.proofs.Rows.{find_drop, find_swap}
use Rattle.promises.proofs.TransfersLemmas.{Steady, steady_self, vacates_same, closings, claimed, claim_in, claim_active, rolled_steady, rolled_held}
use Rattle.promises.proofs.TransfersLemmas.{rolled_others, Prepared, prepares, consumes, prepared_steady, prepared_vacates, prepared_held}
use Rattle.promises.proofs.TransfersLemmas.{accepted_leaves, both_dropped, other_row}
use Rattle.promises.specs.Transfers.{SameOrders, KeepsOrders, moves_of, ClosingsLeave}

same_orders : {t u : Table} → Steady t u → SameOrders t u
same_orders p = record {
  limit = ap (λ (x : Table). x.limit) p.only;
  mask = ap (λ (x : Table). x.mask) p.only;
  life = ap (λ (x : Table). x.life) p.only;
  epoch = ap (λ (x : Table). x.epoch) p.only;
  size = ap (λ (x : Table). x.size) p.only;
  pages = ap (λ (x : Table). x.pages) p.only;
  free = ap (λ (x : Table). x.free) p.only;
  empty = ap (λ (x : Table). x.empty) p.only;
  detached = ap (λ (x : Table). x.detached) p.only;
}

module _ (s : State) where
  all_same : KeepsOrders s s
  all_same c = same_orders (steady_self (s.tables c))

  one_same : (b : ℕ) (t : Table) → Steady (s.tables b) t → (c : ℕ) → SameOrders (s.tables c) (put s.tables b t c)
  one_same b t p c = bool (eqb c b) (λ e. rw (e, eqb-true c b e) (same_orders p)) (λ e. rw e (all_same c))

-- PREPARING AND ROLLING BACK, accepted or refused
module _ (z : Sizes) (s : State) (w : WellFormed z s) where
  prepared_keeps : {b : ℕ} {values : List ℕ} (d : Decision) → Decided Any Any (Prepared z s b values) d → KeepsOrders s (carry z s d).0
  prepared_keeps {b} {values} d = carried {N = Any} {R = Any} {A = Prepared z s b values} (KeepsOrders s) z s d (all_same s) (λ n r. all_same s)
      (λ u a p c. rw (p.marked c) (one_same s b _ (prepared_steady z s w p) c))

  pub transfer_keeps_orders : (b : ℕ) (route : Route) (banned_object banned_kind : Option ℕ) (items : List Item)
      → KeepsOrders s (step z s (prepare_transfer b route banned_object banned_kind items)).0
  unfolding step decide
  transfer_keeps_orders b route banned_object banned_kind items = prepared_keeps _ (prepares z s w b route banned_object banned_kind items)

  pub consumption_keeps_orders : (b v rights kind koid : ℕ) → KeepsOrders s (step z s (prepare_consumption b v rights kind koid)).0
  unfolding step decide
  consumption_keeps_orders b v rights kind koid = prepared_keeps _ (consumes z s w b v rights kind koid)

  pub rollback_keeps_orders : (i : ℕ) → KeepsOrders s (step z s (rollback i)).0
  unfolding step decide rollback_of
  rollback_keeps_orders i =
      carried {N = Any} {R = Any} {A = λ u a. KeepsOrders s u} (KeepsOrders s) z s _ (all_same s) (λ n r. all_same s) (λ u a r. r) (
      with_claim (find i s.book.rows) tt λ b es e. accepts (one_same s b (restore_all z es (s.tables b)) (rolled_steady z s w i b es e)))

-- a claim i of table b with the entries es is open
module _ (z : Sizes) (s : State) (i b : ℕ) (es : List Entry) (row : find i s.book.rows ≡ some (claim b es)) where
  pub commit_done : (step z s (commit i)).1 ≡ done
  unfolding step decide commit_of
  commit_done = rw row

  -- its commit vacates the moved slots in the transfer's order; every other table stays
  pub commit_vacates : (c : ℕ) → (step z s (commit i)).0.tables c ≡ put s.tables b (vacate_all z (moved_of es) (s.tables b)) c
  unfolding step decide commit_of
  commit_vacates c = rw row

  rolled_tables : (c : ℕ) → (step z s (rollback i)).0.tables c ≡ put s.tables b (restore_all z es (s.tables b)) c
  unfolding step decide rollback_of
  rolled_tables c = rw row

  rolled_count : (step z s (rollback i)).0.table_count ≡ s.table_count
  unfolding step decide rollback_of
  rolled_count = rw row

  module _ (w : WellFormed z s) where
    abbrev u : State
    u = (step z s (rollback i)).0

    back : u.tables b ≡ restore_all z es (s.tables b)
    back = rolled_tables b ∙ rw (same b)

    -- it leaves the tables that closing the moved slots in the transfer's order leaves, from the state where the claim is rolled back
    pub commit_is_closing : ClosingsLeave z b (map (value_at (u.tables b)) (moved_of es)) u (step z s (commit i)).0
    commit_is_closing =
        let y : Table = u.tables b in
        let p : Steady (s.tables b) (restore_all z es (s.tables b)) = rolled_steady z s w i b es row in
        let r = closings z b y.mask (λ k. generation (y.slots k)) u y refl refl (rw rolled_count (lt-ltb b s.table_count (claim_in z s w i b es row)))
        (ap (λ (x : Table). is_active x.life) (back ∙ p.only) ∙ claim_active z s w i b es row)
        (moved_of es) (claimed z s w i b es row).once (λ k c. rw back (rolled_held z s w i b es row k c)) in record {
          closings = r.0;
          tables = λ c. r.1 c ∙ rw (back, vacates_same z (moved_of es) (s.tables b) _ p (rolled_others z s w i b es row))
              (bool (eqb c b) (λ q. rw q) (λ q. rw (q, rolled_tables c) (rw q))) ∙ sym (commit_vacates c);
        }

-- and from the state before the transfer, where it is committed at once
module _ (z : Sizes) (s : State) (w : WellFormed z s) where
  prepared_closing : {b : ℕ} {values : List ℕ} {u : State} {a : Answer} → Prepared z s b values u a → (i : ℕ) → a ≡ opened i
      → ClosingsLeave z b values s (step z u (commit i)).0
  prepared_closing {b} {values} {u} {a} p i e =
      let n : s.book.next ≡ i = (let q : opened s.book.next ≡ opened i = sym p.answer ∙ e in cc) in
      let y : Table = s.tables b in
      let at : u.tables b ≡ keep_all z (λ g. transfer_reserved g s.book.next) (moved_of p.es) y = p.marked b ∙ rw (same b) in
      let r = closings z b y.mask (λ k. generation (y.slots k)) s y refl refl (lt-ltb b s.table_count p.within) p.live
      (moved_of p.es) p.once (prepared_held z s w p) in
      rw (← p.values_are) (record {
        closings = r.0;
        tables = λ c. r.1 c ∙ sym (commit_vacates z u i b p.es (rw n at p.row) c
            ∙ rw (at, prepared_vacates z s w p) (bool (eqb c b) (λ q. rw q) (λ q. rw q (p.marked c ∙ rw q))));
      })

  pub transfer_is_closing : (b : ℕ) (route : Route) (banned_object banned_kind : Option ℕ) (items : List Item) (i : ℕ)
      → let transfer : Request = prepare_transfer b route banned_object banned_kind items in
      (step z s transfer).1 ≡ opened i → ClosingsLeave z b (moves_of items) s (step z (step z s transfer).0 (commit i)).0
  unfolding step decide
  transfer_is_closing b route banned_object banned_kind items i e =
      prepared_closing (accepted_leaves z s _ (prepares z s w b route banned_object banned_kind items) (ap accepted e)) i e

  pub consumption_is_closing : (b v rights kind koid i : ℕ)
      → let consumption : Request = prepare_consumption b v rights kind koid in
      (step z s consumption).1 ≡ opened i → ClosingsLeave z b (v ∷ []) s (step z (step z s consumption).0 (commit i)).0
  unfolding step decide
  consumption_is_closing b v rights kind koid i e =
      prepared_closing (accepted_leaves z s _ (consumes z s w b v rights kind koid) (ap accepted e)) i e

-- DIRECT COMMIT AND ROLLBACK
-- "direct commit and rollback (one table or two)" do what a commit and the publication of its parcel do, and a rollback and an abort
module _ (z : Sizes) (s : State) (i b : ℕ) (es : List Entry) (row : find i s.book.rows ≡ some (claim b es))
    (j c : ℕ) (ks : List ℕ) (place : find j s.book.rows ≡ some (reservation c ks)) (fits : length es ≡ length ks) where
  apart_rows : i ≡ j → ⊥
  apart_rows = other_row i j b c es ks s.book.rows row place

  pub direct_rollback_is : ((step z s (direct_rollback i j)).1 ≡ done)
      × (run z s (rollback i ∷ abort j ∷ []) ≡ ((step z s (direct_rollback i j)).0, done ∷ done ∷ []))
  unfolding step decide direct_rollback_of rollback_of abort_of
  direct_rollback_is = (
    rw (row, place, eq-eqb (length es) (length ks) fits),
    rw (row, place, eq-eqb (length es) (length ks) fits, find_drop j i apart_rows s.book.rows, place),
  )

  pub direct_commit_is : ((step z s (direct_commit i j)).1 ≡ done)
      × (run z s (commit i ∷ publish j (i ∷ []) ∷ []) ≡ ((step z s (direct_commit i j)).0, done ∷ done ∷ []))
  unfolding step decide direct_commit_of commit_of publish_of
  direct_commit_is = let x : Body = parcel (map sent_of es) in (
    rw (row, place, eq-eqb (length es) (length ks) fits),
    rw (
      row,
      place,
      eq-eqb (length es) (length ks) fits,
      find_swap j i apart_rows x s.book.rows,
      place,
      find_swap_same i x (claim b es) s.book.rows row,
      append-nil (map sent_of es),
      eq-eqb (length (map sent_of es)) (length ks) (length-map es sent_of ∙ fits),
      both_dropped i j x s.book.rows,
    ),
  )
