-- Requests on claims are decided alike.
use Rattle.std.specs.Prelude.{◌≡◌, true, false, ◌&&◌, ℕ, suc, length, ltb, eqb}
use Rattle.std.proofs.Math.Path.{refl, ap}
use mathlib.Core.List.{List, [], ◌∷◌, map}
use Rattle.std.proofs.Math.Option.{Option, none, some}
use Rattle.authority.specs.Rights.{contains}
use Rattle.codec.specs.Codec.{slot_in}
use Rattle.model.specs.Base.{put, member, at_most}
use Rattle.model.specs.State.{Slot.transfer_reserved, Table, Entry, Body.claim, State}
use Rattle.model.specs.State.{is_active, max_batch}
use Rattle.model.specs.Storage.{keep_all, vacate_all}
use Rattle.model.specs.Change.{with_table, with_objects}
use Rattle.model.specs.Objects.{raise, change_all}
use Rattle.model.specs.Request.{Route, Item, Fault, Answer.opened, Answer.judged}
use Rattle.model.specs.Book.{add_row, free_row, id_left, moved_of, copies_of, sent_of}
use Rattle.model.specs.Decision.{Decision.accept, refuse_after_id◌then◌}
use Rattle.model.specs.Lookup.{handle_or}
use Rattle.model.specs.Transfer.{◌or◌at◌, first_fault, no_item, first_of, items_fault, copies_fault, transfer_fault, entry_for}
use Rattle.model.specs.Step.{fill_all, prepare_transfer_of, judge_transfer_of, prepare_consumption_of, rollback_of, commit_of, direct_commit_of, direct_rollback_of}
use Rattle.noninterference.specs.Runs.{lowered}
use Rattle.noninterference.specs.Erase.{erase_slot, erase_table, erase}
use Rattle.noninterference.proofs.Items.{AllName, all_name}
use Rattle.noninterference.proofs.Alike.{Case, Alike, lookup_same, check, row_there, id_there, row_left_law, id_left_law, views, faults, reservations, claims}
use Rattle.noninterference.proofs.Effects.{TableTwin, untouched, and_then, all_vacated, all_filled, all_restored, all_marked, marked, same_book, added, dropped, swapped, put_twin, accepts, reads, changes}

-- no item names one of the values in the table b
abbrev pub Clear : ℕ → List ℕ → ℕ → List Item → Type 0
Clear b vs c [] = Unit {0}
Clear b vs c (q ∷ qs) = ((eqb c b && member q.value vs) ≡ false) × Clear b vs c qs

module _ (x : Case) where
  abbrev s : State
  s = x.s

  abbrev s₀ : State
  s₀ = erase x.t x.es x.s

  module _ (c : ℕ) (route : Route) (bo bk : Option ℕ) where
    abbrev y : Table
    y = s.tables c

    abbrev y₀ : Table
    y₀ = s₀.tables c

    items_same : (earlier : List ℕ) (j : ℕ) (qs : List Item) → Clear x.b x.vs c qs
        → items_fault s₀ y₀ route bo bk earlier j qs ≡ items_fault s y route bo bk earlier j qs
    items_same earlier j [] n = refl
    items_same earlier j (q ∷ qs) n = rw (lookup_same x c q.value n.0, items_same (q.value ∷ earlier) (suc j) qs n.1)

    entries_same : (qs : List Item) → AllName s y route bo bk qs → map (entry_for y₀) qs ≡ map (entry_for y) qs
    entries_same [] n = refl
    entries_same (q ∷ qs) n = let k : ℕ = slot_in y.mask q.value in
        let e : handle_or (erase_slot x.t x.es k (y.slots k)) ≡ handle_or (y.slots k) = rw n.0.there in
        rw (e, entries_same qs n.1)

    claimed : (xs xs₀ : List Entry) → xs₀ ≡ xs → Alike x true
        (refuse_after_id copies_fault s.objects 0 xs then accept (add_row (claim c xs) (with_objects (with_table s c
        (keep_all x.z (λ g. transfer_reserved g s.book.next) (moved_of xs) y)) (change_all raise (copies_of xs) s.objects)))
        (opened s.book.next))
        (refuse_after_id copies_fault s₀.objects 0 xs₀ then accept (add_row (claim c xs₀) (with_objects (with_table s₀ c
        (keep_all x.z (λ g. transfer_reserved g s₀.book.next) (moved_of xs₀) y₀)) (change_all raise (copies_of xs₀) s₀.objects)))
        (opened s₀.book.next))
    claimed xs xs₀ e = rw e (
        faults x {a = copies_fault s.objects 0 xs} _ _ refl λ q.
        changes x c (all_marked x (moved_of xs) y) (added x _ (same_book x)) refl refl)

    pub alike_prepare_transfer : (qs : List Item) → Clear x.b x.vs c qs
        → Alike x true (prepare_transfer_of x.z s c route bo bk qs) (prepare_transfer_of x.z s₀ c route bo bk qs)
    unfolding prepare_transfer_of
    alike_prepare_transfer qs n =
        check x (ltb c s.table_count) 18 λ q.
        check x (is_active y.life) 16 λ q.
        check x (ltb 0 (length qs)) 17 λ q.
        check x (at_most (length qs) max_batch) 13 λ q.
        row_left_law x (
        id_left_law x (
        faults x _ _ (items_same [] 0 qs n) λ q.
        claimed (map (entry_for y) qs) (map (entry_for y₀) qs) (entries_same qs (all_name s y route bo bk [] 0 qs q))))

    -- where a row and an id are left here, a transfer's checks stop in both at the same place
    fault_same : (qs : List Item) → Clear x.b x.vs c qs → free_row s ≡ true → id_left s ≡ true → transfer_fault s₀ y₀ route bo bk qs ≡ transfer_fault s y route bo bk qs
    fault_same qs n p i = rw (items_same [] 0 qs n, row_there x p, id_there x, p, i)
        (ap (first_of (first_fault no_item (is_active y.life or 16 at 1 ∷ ltb 0 (length qs) or 17 at 2 ∷ at_most (length qs) max_batch or 13 at 3 ∷ true or 1 at 4 ∷ true or 12 at 5 ∷ [])))
        (go (items_fault s y route bo bk [] 0 qs) refl))
      where
        go : (f : Option Fault) → items_fault s y route bo bk [] 0 qs ≡ f
            → first_of f (copies_fault s₀.objects 0 (map (entry_for y₀) qs)) ≡ first_of f (copies_fault s.objects 0 (map (entry_for y) qs))
        go none e = ap (copies_fault s.objects 0) (entries_same qs (all_name s y route bo bk [] 0 qs e))
        go (some f) e = refl

    pub alike_judge_transfer : (qs : List Item) → Clear x.b x.vs c qs → free_row s ≡ true → id_left s ≡ true
        → Alike x true (judge_transfer_of x.z s c route bo bk qs) (judge_transfer_of x.z s₀ c route bo bk qs)
    unfolding judge_transfer_of
    alike_judge_transfer qs n p i =
        check x (ltb c s.table_count) 18 λ q.
        reads x (ap judged (fault_same qs n p i))

  pub alike_prepare_consumption : (c v r kind koid : ℕ) → (eqb c x.b && member v x.vs) ≡ false
      → Alike x true (prepare_consumption_of x.z s c v r kind koid) (prepare_consumption_of x.z s₀ c v r kind koid)
  unfolding prepare_consumption_of
  alike_prepare_consumption c v r kind koid n =
      check x (ltb c s.table_count) 18 λ q.
      check x (is_active (s.tables c).life) 16 λ q.
      row_left_law x (
      views x _ _ (lookup_same x c v n) λ k h l.
      check x (contains h.rights r) 5 λ q.
      check x (eqb (s.objects h.object).kind kind) 4 λ q.
      check x (eqb (s.objects h.object).koid koid) 2 λ q.
      id_left_law x (
      changes x c (marked x k (s.tables c)) (added x _ (same_book x)) refl refl))

  pub alike_rollback : (i : ℕ) → (i ≡ x.t → ⊥) → Alike x true (rollback_of x.z s i) (rollback_of x.z s₀ (lowered x.t i))
  unfolding rollback_of
  alike_rollback i p =
      claims x i _ _ p λ c xs.
      changes x c (all_restored x xs (s.tables c)) (dropped x i p (same_book x)) refl refl

  pub alike_commit : (i : ℕ) → (i ≡ x.t → ⊥) → Alike x true (commit_of x.z s i) (commit_of x.z s₀ (lowered x.t i))
  unfolding commit_of
  alike_commit i p =
      claims x i _ _ p λ c xs.
      changes x c (all_vacated x (moved_of xs) (s.tables c)) (swapped x i _ p) refl refl

  -- one table changed, then one, the same or another
  module _ (i j : ℕ) (p : i ≡ x.t → ⊥) (q : j ≡ x.t → ⊥) where
    two_tables : (c d : ℕ) {y y₀ : Table} (f : Table → Table) → TableTwin x y y₀
        → ((w : Table) → TableTwin x (f w) (f (erase_table x.t x.es w)))
        → (e : ℕ) → TableTwin x (put (put s.tables c y) d (f (put s.tables c y d)) e)
        (put (put s₀.tables c y₀) d (f (put s₀.tables c y₀ d)) e)
    two_tables c d {y} {y₀} f a g =
        let w : (e : ℕ) → TableTwin x (put s.tables c y e) (put s₀.tables c y₀ e) = put_twin x c
        (λ e. untouched x (s.tables e)) a in
        put_twin x d w (and_then x f (w d) g)

    pub alike_direct_commit : Alike x true (direct_commit_of x.z s i j) (direct_commit_of x.z s₀ (lowered x.t i) (lowered x.t j))
    unfolding direct_commit_of
    alike_direct_commit =
        claims x i _ _ p λ c xs.
        reservations x j _ _ q λ d ks.
        check x (eqb (length xs) (length ks)) 18 λ e.
        accepts x (two_tables c d (fill_all x.z ks (map sent_of xs)) (all_vacated x (moved_of xs) (s.tables c)) (all_filled x ks (map sent_of xs)))
        (dropped x j q (dropped x i p (same_book x))) refl refl

    pub alike_direct_rollback : Alike x true (direct_rollback_of x.z s i j) (direct_rollback_of x.z s₀ (lowered x.t i) (lowered x.t j))
    unfolding direct_rollback_of
    alike_direct_rollback =
        claims x i _ _ p λ c xs.
        reservations x j _ _ q λ d ks.
        check x (eqb (length xs) (length ks)) 18 λ e.
        accepts x (two_tables c d (vacate_all x.z ks) (all_restored x xs (s.tables c)) (all_vacated x ks))
        (dropped x j q (dropped x i p (same_book x))) refl refl
