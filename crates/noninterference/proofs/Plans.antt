-- Document 02, 1: "A shopkeeper's held transfer must not make any plan stale". Preparing a transfer and rolling it back leave every plan as it is, and so do the
-- two runs: after any permitted list each plan of run H stands in run P, and is stale in both or in neither.
use Rattle.std.specs.Prelude.{◌≡◌, Bool, true, false, ℕ, ◌+◌, length, ltb, eqb}
use Rattle.std.proofs.Math.Path.{refl, sym}
use Rattle.std.proofs.Common.{ap, subst, ◌∙◌, arith, ltb-true, ltb-false, eqb-true}
use mathlib.Core.List.{List, [], ◌∷◌, ◌++◌, map}
use Rattle.std.proofs.Math.Option.{Option, none, some}
use Rattle.model.specs.Base.{every, at_most}
use Rattle.model.specs.State.{Sizes, Slot.transfer_reserved, Table, Object, Entry, Body, Body.reservation, Body.claim, Body.parcel, Body.plan, StorageSnapshot, Row, Book, State}
use Rattle.model.specs.State.{is_active, max_batch}
use Rattle.model.specs.Storage.{is_stale}
use Rattle.model.specs.Change.{with_table, with_objects}
use Rattle.model.specs.Request.{Route, Item, Request, Request.close, Request.prepare_transfer, Request.prepare_consumption, Request.rollback, Request.commit, Answer, Answer.opened}
use Rattle.model.specs.Book.{find, drop_id, swap_id, add_row, spend_id, free_row, id_left, moved_of, sent_of}
use Rattle.model.specs.Decision.{Decision}
use Rattle.model.proofs.Decided.{Decided, Any, accepts, checked, with_handle, with_view, with_claim, after_id, carried}
use Rattle.model.specs.Lookup.{lookup}
use Rattle.model.specs.Transfer.{items_fault, copies_fault, entry_for}
use Rattle.authority.specs.Rights.{contains}
use Rattle.model.specs.Step.{prepare_transfer_of, prepare_consumption_of, rollback_of, close_of, decide, step, run}
use Rattle.model.specs.WellFormed.{WellFormed, Equal}
use Rattle.model.proofs.Tests.{apart, bool, clash}
use Rattle.invariant.proofs.BookLemmas.{find_drop_same, find_drop_other, find_swap_same, drop_swap}
use Rattle.invariant.specs.Pages.{Sane}
use Rattle.invariant.proofs.Kept.{kept as always_kept}
use Rattle.noninterference.specs.Names.{value_of}
use Rattle.noninterference.specs.Runs.{is_move, permitted, wanting, lowered, lower_request, lower_row}
use Rattle.noninterference.specs.Erase.{erase_rows, erase}
use Rattle.noninterference.specs.Plans.{PlansStand, PlansAgree}
use Rattle.noninterference.proofs.Snapshots.{SameStorage, storage_lower, storage_keep_all, storage_restore_all, stale_same, stale_erase}
use Rattle.noninterference.proofs.Basics.{lowered_above, lowered_below}
use Rattle.noninterference.proofs.Rows.{find_erase}
use Rattle.noninterference.proofs.Alike.{Open}
use Rattle.noninterference.proofs.Endings.{rolled, erase_rolled, made, commit_is}
use Rattle.noninterference.proofs.Beside.{Beside, runs_beside}

abbrev is_plan : Option Body → Bool
is_plan none = false
is_plan (some (reservation b ks)) = false
is_plan (some (claim b es)) = false
is_plan (some (parcel hs)) = false
is_plan (some (plan b n w fs)) = true

-- a plan's id is not the id of another kind of row, or of none
other_id : (t i b n : ℕ) (w : StorageSnapshot) (fs : List ℕ) (rs : List Row) → is_plan (find t rs) ≡ false → find i rs ≡ some (plan b n w fs) → i ≡ t → ⊥
other_id t i b n w fs rs p q e = clash (ap is_plan q) (ap (λ (k : ℕ). is_plan (find k rs)) e ∙ p)

-- a new row that is no plan, after the others
module _ (i b n : ℕ) (w : StorageSnapshot) (fs : List ℕ) (r : Row) (c : is_plan (some r.body) ≡ false) where
  found_before : (rs : List Row) → find i rs ≡ some (plan b n w fs) → find i (rs ++ (r ∷ [])) ≡ some (plan b n w fs)
  found_before [] e = apart (cc)
  found_before (q ∷ rs) e = bool (eqb q.id i) (λ a. rw a (rw a at e)) (λ a. rw a (found_before rs (rw a at e)))

  found_after : (rs : List Row) → find i (rs ++ (r ∷ [])) ≡ some (plan b n w fs) → find i rs ≡ some (plan b n w fs)
  found_after [] e = bool (eqb r.id i)
      (λ a. let y : some r.body ≡ some (plan b n w fs) = rw a at e in clash (ap is_plan y) c)
      (λ a. let y : none ≡ some (plan b n w fs) = rw a at e in apart (cc))
  found_after (q ∷ rs) e = bool (eqb q.id i) (λ a. rw a (rw a at e)) (λ a. rw a (found_after rs (rw a at e)))

-- ---- preparing and rolling back

module _ (z : Sizes) (s : State) where
  abbrev Leaves : State → Type 0
  Leaves u = PlansStand z (λ i. i) s u

  unchanged : Leaves s
  unchanged = record { stands = λ i b n w fs e. e; others = λ j b n w fs e. (j, refl, e); stale = λ b n w. refl }

  spent : Leaves (spend_id s)
  spent = record { stands = λ i b n w fs e. e; others = λ j b n w fs e. (j, refl, e); stale = λ b n w. refl }

  -- a table whose storage stays
  one_table : (c : ℕ) (y : Table) → SameStorage (s.tables c) y → (b n : ℕ) (w : StorageSnapshot)
      → is_stale z ((with_table s c y).tables b) n w ≡ is_stale z (s.tables b) n w
  one_table c y p b n w = bool (eqb b c) (λ q. rw (q, eqb-true b c q) (stale_same z p n w)) (λ q. rw q)

  claims : (c : ℕ) (y : Table) (o : ℕ → Object) (es : List Entry) → SameStorage (s.tables c) y
      → Leaves (add_row (claim c es) (with_objects (with_table s c y) o))
  claims c y o es p = record {
    stands = λ i b n w fs e. found_before i b n w fs _ refl s.book.rows e;
    others = λ j b n w fs e. (j, refl, found_after j b n w fs _ refl s.book.rows e);
    stale = one_table c y p;
  }

  abbrev Left : Decision → Type 0
  Left d = Decided Any Any (λ u a. Leaves u) d

  prepares : (b : ℕ) (route : Route) (bo bk : Option ℕ) (qs : List Item) → Left (prepare_transfer_of z s b route bo bk qs)
  unfolding prepare_transfer_of
  prepares b route bo bk qs = let y : Table = s.tables b in let es : List Entry = map (entry_for y) qs in
      checked (ltb b s.table_count) 18 tt λ p.
      checked (is_active y.life) 16 tt λ p.
      checked (ltb 0 (length qs)) 17 tt λ p.
      checked (at_most (length qs) max_batch) 13 tt λ p.
      checked (free_row s) 1 tt λ p.
      checked (id_left s) 12 tt λ p.
      after_id (items_fault s y route bo bk [] 0 qs) (λ n e. tt) λ p.
      after_id (copies_fault s.objects 0 es) (λ n e. tt) λ p.
      accepts (claims b _ _ _ (storage_keep_all z (λ g. transfer_reserved g s.book.next) (moved_of es) y))

  consumes : (b v r kind koid : ℕ) → Left (prepare_consumption_of z s b v r kind koid)
  unfolding prepare_consumption_of
  consumes b v r kind koid = let y : Table = s.tables b in
      checked (ltb b s.table_count) 18 tt λ p.
      checked (is_active y.life) 16 tt λ p.
      checked (free_row s) 1 tt λ p.
      with_view (lookup y v) tt tt λ k h p.
      checked (contains h.rights r) 5 tt λ p.
      checked (eqb (s.objects h.object).kind kind) 4 tt λ p.
      checked (eqb (s.objects h.object).koid koid) 2 tt λ p.
      checked (id_left s) 12 tt λ p.
      accepts (claims b _ _ _ (storage_keep_all z (λ g. transfer_reserved g s.book.next) (k ∷ []) y))

  rolls : (t : ℕ) → Left (rollback_of z s t)
  unfolding rollback_of
  rolls t = with_claim (find t s.book.rows) tt λ c es e. accepts (record {
    stands = λ i b n w fs p. find_drop_other t i (other_id t i b n w fs s.book.rows (rw e) p) s.book.rows ∙ p;
    others = λ j b n w fs p.
        (j, refl, sym (find_drop_other t j (other_id t j b n w fs (drop_id t s.book.rows) (rw (find_drop_same t s.book.rows)) p) s.book.rows) ∙ p);
    stale = one_table c _ (storage_restore_all z es (s.tables c));
  })

  -- a preparation of any transfer, of moves or copies, accepted or refused
  pub preparing : (b : ℕ) (route : Route) (banned_object banned_kind : Option ℕ) (items : List Item)
      → PlansStand z (λ i. i) s (step z s (prepare_transfer b route banned_object banned_kind items)).0
  unfolding step decide
  preparing b route bo bk qs = carried Leaves z s _ unchanged (λ n r. spent) (λ u a h. h) (prepares b route bo bk qs)

  -- a preparation of any consumption
  pub consuming : (b value rights kind koid : ℕ) → PlansStand z (λ i. i) s (step z s (prepare_consumption b value rights kind koid)).0
  unfolding step decide
  consuming b v r kind koid = carried Leaves z s _ unchanged (λ n r. spent) (λ u a h. h) (consumes b v r kind koid)

  -- any rollback, of a transfer or a consumption, accepted or refused
  pub rolling_back : (t : ℕ) → PlansStand z (λ i. i) s (step z s (rollback t)).0
  unfolding step decide
  rolling_back t = carried Leaves z s _ unchanged (λ n r. spent) (λ u a h. h) (rolls t)

-- ---- the two runs

-- rows without t's, which is no plan's: plans under lowered ids, and no others
module _ (t : ℕ) (rs : List Row) (c : is_plan (find t rs) ≡ false) (b n : ℕ) (w : StorageSnapshot) (fs : List ℕ) where
  lowered_stands : (i : ℕ) → find i rs ≡ some (plan b n w fs) → find (lowered t i) (erase_rows t rs) ≡ some (plan b n w fs)
  lowered_stands i p = find_erase t i (other_id t i b n w fs rs c p) rs ∙ p

  raised_back : (i j : ℕ) → lowered t i ≡ j → (i ≡ t → ⊥) → find j (erase_rows t rs) ≡ some (plan b n w fs)
      → (i : ℕ) × (j ≡ lowered t i) × (find i rs ≡ some (plan b n w fs))
  raised_back i j e d p = (i, sym e, sym (find_erase t i d rs) ∙ rw e p)

  lowered_others : (j : ℕ) → find j (erase_rows t rs) ≡ some (plan b n w fs) → (i : ℕ) × (j ≡ lowered t i) × (find i rs ≡ some (plan b n w fs))
  lowered_others j = bool (ltb j t)
      (λ q. raised_back j j (lowered_below t j (omega (arith, ltb-true j t q))) (λ y. omega (arith, ltb-true j t q)))
      (λ q. raised_back (j + 1) j (lowered_above t (j + 1) (omega (arith, ltb-false j t q)) ∙ omega arith) (λ y. omega (arith, ltb-false j t q)))

-- the state without a claim
erased : (z : Sizes) (t : ℕ) (es : List Entry) (s : State) → is_plan (find t s.book.rows) ≡ false → PlansStand z (lowered t) s (erase t es s)
erased z t es s c = record {
  stands = λ i b n w fs. lowered_stands t s.book.rows c b n w fs i;
  others = λ j b n w fs. lowered_others t s.book.rows c b n w fs j;
  stale = λ b n w. stale_erase z t es (s.tables b) n w;
}

-- closings leave the book as it is
module _ (z : Sizes) (b : ℕ) where
  close_book : (s : State) (v : ℕ) → (step z s (close b v)).0.book ≡ s.book
  unfolding step decide close_of
  close_book s v = carried {N = Any} {R = λ n. ⊥} {A = λ u a. u.book ≡ s.book} (λ u. u.book ≡ s.book) z s _ refl (λ n r. absurd r) (λ u a h. h)
      (with_handle s b v tt tt tt tt λ p q k h e. accepts refl)

  closings_book : (vs : List ℕ) (s : State) → (run z s (map (close b) vs)).0.book ≡ s.book
  closings_book [] s = refl
  closings_book (v ∷ vs) s = closings_book vs (step z s (close b v)).0 ∙ close_book s v

module _ (z : Sizes) (kept : (s : State) → WellFormed z s → (r : Request) → WellFormed z (step z s r).0) (t b : ℕ) (es : List Entry) (vs : List ℕ)
    (s : State) (o : Open z t b es vs s) where
  rolled_back_law : PlansStand z (lowered t) (step z s (rollback t)).0 (erase t es s)
  rolled_back_law = rw (rolled z kept t b es vs s o) (
      subst (PlansStand z (lowered t) _) (erase_rolled z kept t b es vs s o)
      (erased z t es _ (rw (find_drop_same t s.book.rows))))

  abbrev committed_rows : List Row
  committed_rows = swap_id t (parcel (map sent_of es)) s.book.rows

  no_plan : is_plan (find t committed_rows) ≡ false
  no_plan = rw (find_swap_same t (parcel (map sent_of es)) (claim b es) s.book.rows o.row)

  -- P's rows, which closings leave, are H's without the parcel
  plain_rows : (run z (erase t es s) (map (close b) vs)).0.book.rows ≡ erase_rows t committed_rows
  plain_rows = ap (λ (k : Book). k.rows) (closings_book z b vs (erase t es s))
      ∙ ap (map (lower_row t)) (sym (drop_swap t (parcel (map sent_of es)) s.book.rows))

  committed_plans : PlansStand z (lowered t) (step z s (commit t)).0 (run z (erase t es s) (map (close b) vs)).0
  committed_plans = record {
    stands = λ i c n w fs. rw (made z kept t b es vs s o, plain_rows) (lowered_stands t committed_rows no_plan c n w fs i);
    others = λ j c n w fs. rw (made z kept t b es vs s o, plain_rows) (lowered_others t committed_rows no_plan c n w fs j);
    stale = λ c n w. ap (λ (y : Table). is_stale z y n w) (commit_is z kept t b es vs s o c) ∙ stale_same z (storage_lower t _) n w;
  }

  agree : PlansAgree z t b vs s (erase t es s)
  agree = record {
    held = erased z t es s (rw o.row);
    rolled_back = rolled_back_law;
    committed = committed_plans;
  }

module _ (z : Sizes) (sane : Sane z) where
  -- in the two runs of demand 3, with any list of it
  pub held_and_plain_plans : (s u : State) → WellFormed z s → Equal s u
      → (b : ℕ) (route : Route) (banned_object banned_kind : Option ℕ) (items : List Item) → every is_move items ≡ true
      → let transfer : Request = prepare_transfer b route banned_object banned_kind items in
      let values : List ℕ = map value_of items in
      (t : ℕ) → (step z s transfer).1 ≡ opened t
      → (rs : List Request) → every (permitted t b values) rs ≡ true → wanting z (step z s transfer).0 rs ≡ false
      → PlansAgree z t b values (run z (step z s transfer).0 rs).0 (run z u (map (lower_request t) rs)).0
  held_and_plain_plans s u w e b route banned_object banned_kind items moves t opened_t rs p n =
      let kept : (s : State) → WellFormed z s → (r : Request) → WellFormed z (step z s r).0 = always_kept z sane in
      let transfer : Request = prepare_transfer b route banned_object banned_kind items in
      let values : List ℕ = map value_of items in
      let h : State × List Answer = run z (step z s transfer).0 rs in
      let y : Beside z t b values h (run z u (map (lower_request t) rs)) =
      runs_beside z kept s u w e b route banned_object banned_kind items moves t opened_t rs p n in
      subst (λ (q : State × List Answer). PlansAgree z t b values h.0 q.0) y.same (agree z kept t b y.es values h.0 y.claimed)
