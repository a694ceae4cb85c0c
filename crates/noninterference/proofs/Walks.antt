-- Requests that walk a table, tear it down or take a page of it are decided alike.
use Rattle.std.specs.Prelude.{◌≡◌, ltb}
use Rattle.std.proofs.Math.Path.{refl}
use Rattle.std.proofs.Common.{ap, ◌∙◌, eqb-true}
use Rattle.std.proofs.Math.Bool.{true, false, not}
use mathlib.Core.List.{List, [], ◌∷◌, map}
use Rattle.std.proofs.Math.Option.{Option, none, some}
use Prim.Native.Nat.{ℕ, zero, suc, ◌+◌, ◌-◌, min}
use Rattle.std.proofs.Math.Dec.{eqb}
use Rattle.codec.specs.Codec.{encode}
use Rattle.model.specs.Base.{pick, is_some}
use Rattle.model.specs.State.{Handle, Slot, Lifecycle, Lifecycle.active, Lifecycle.tearing_down, Lifecycle.retired, Table, State}
use Rattle.model.specs.State.{is_active, is_occupied}
use Rattle.model.specs.Storage.{length_of, first_occupied, Walk, walk}
use Rattle.model.specs.Change.{with_table, with_life}
use Rattle.model.specs.Objects.{lower, change_all, info_for}
use Rattle.model.specs.Request.{Snapshot, SnapshotPage, Answer.done, Answer.scanned, Answer.removed, Answer.closed}
use Rattle.model.specs.Book.{any_open}
use Rattle.model.specs.Decision.{Decision, Decision.accept, unless◌refuse◌then◌, teardown_cursor◌refuse◌then◌}
use Rattle.model.specs.Lookup.{handle_or, snapshot_at}
use Rattle.model.specs.Step.{scan_handles_of, next_occupied, remove_at, remove_stopping_owner_of, teardown_start_of, tear_at, teardown_step_of, teardown_finish_of, take_at, take_empty_page_of}
use Rattle.noninterference.specs.Erase.{erase}
use Rattle.model.proofs.Tests.{bool, clash}
use Rattle.noninterference.proofs.Basics.{map_same}
use Rattle.noninterference.proofs.Tables.{gen_erase}
use Rattle.noninterference.proofs.Rows.{open_erase}
use Rattle.noninterference.proofs.Alike.{Case, Alike, bare, bare_slot, is_active_law, lower_occupied, lower_handle, refuses, check}
use Rattle.noninterference.proofs.Effects.{untouched, vacated, detached, aged, same_book, reads, changes}

-- walks see only which slots are occupied
module _ (f f₀ : ℕ → Slot) (same : (k : ℕ) → is_occupied (f₀ k) ≡ is_occupied (f k)) where
  walk_same : (n k e : ℕ) → walk f₀ k n e ≡ walk f k n e
  walk_same zero k e = refl
  walk_same (suc n) k zero = refl
  walk_same (suc n) k (suc e) = rw (same k, walk_same n (suc k) (pick (is_occupied (f k)) e (suc e)))

  first_same : (n k : ℕ) → first_occupied f₀ k n ≡ first_occupied f k n
  first_same zero k = refl
  first_same (suc n) k = rw (same k, first_same n (suc k))

module _ (x : Case) where
  abbrev s : State
  s = x.s

  abbrev s₀ : State
  s₀ = erase x.t x.es x.s

  -- a table other than the claim's
  module _ (c : ℕ) (n : eqb c x.b ≡ false) where
    abbrev y : Table
    y = s.tables c

    abbrev y₀ : Table
    y₀ = s₀.tables c

    same_occupied : (k : ℕ) → is_occupied (y₀.slots k) ≡ is_occupied (y.slots k)
    same_occupied k = ap is_occupied (bare_slot x.t x.es k (y.slots k) (bare x c k n)) ∙ lower_occupied x.t (y.slots k)

    same_handle : (k : ℕ) → handle_or (y₀.slots k) ≡ handle_or (y.slots k)
    same_handle k = ap handle_or (bare_slot x.t x.es k (y.slots k) (bare x c k n)) ∙ lower_handle x.t (y.slots k)

    same_snapshot : (k : ℕ) → snapshot_at s₀ y₀ k ≡ snapshot_at s y k
    same_snapshot k = λ i. record { value = encode y.mask k (gen_erase x.t x.es k (y.slots k) i); info = info_for s (same_handle k i) }

    page_same : (start cursor : ℕ) (w w₀ : Walk) → w₀ ≡ w → ◌≡◌ {A = SnapshotPage}
        (record {
          entries = map (snapshot_at s₀ y₀) w₀.found;
          next = pick (ltb w₀.stop cursor) (some w₀.stop) none;
          examined = w₀.stop - start;
        })
        (record { entries = map (snapshot_at s y) w.found; next = pick (ltb w.stop cursor) (some w.stop) none; examined = w.stop - start })
    page_same start cursor w w₀ e = rw (e, map_same _ _ same_snapshot w.found)

    pub alike_scan_handles : (k : ℕ) → Alike x true (scan_handles_of x.z s c k) (scan_handles_of x.z s₀ c k)
    unfolding scan_handles_of
    alike_scan_handles k =
        check x (ltb c s.table_count) 18 λ q.
        check x (is_active y.life) 16 λ q.
        let start : ℕ = min k (length_of x.z y) in
        reads x (ap scanned (page_same start (length_of x.z y) _ _ (walk_same y.slots y₀.slots same_occupied
        (min x.z.scan_slots (length_of x.z y - start)) start x.z.scan_entries)))

    next_same : (k : ℕ) → next_occupied x.z y₀ k ≡ next_occupied x.z y k
    next_same k = first_same y.slots y₀.slots same_occupied (length_of x.z y - k) k

    -- one handle of it is removed
    removes : (a : Option ℕ) → Alike x true (remove_at x.z s c y a) (remove_at x.z s₀ c y₀ a)
    removes none = reads x refl
    removes (some k) = changes x c (vacated x k y) (same_book x)
        (ap (λ (h : Handle). change_all lower (h ∷ []) s.objects) (same_handle k)) (ap (λ (w : Snapshot). removed (some w) (k + 1)) (same_snapshot k))

    tears : (a : Option ℕ) → Alike x true (tear_at x.z s c y a) (tear_at x.z s₀ c y₀ a)
    tears none = reads x refl
    tears (some k) = changes x c (aged x (tearing_down (k + 1)) (vacated x k y)) (same_book x)
        (ap (λ (h : Handle). change_all lower (h ∷ []) s.objects) (same_handle k)) (ap (λ (h : Handle). closed (some (info_for s h))) (same_handle k))

    pub alike_remove_stopping_owner : (k : ℕ) → Alike x true (remove_stopping_owner_of x.z s c k) (remove_stopping_owner_of x.z s₀ c k)
    unfolding remove_stopping_owner_of
    alike_remove_stopping_owner k =
        check x (ltb c s.table_count) 18 λ q.
        bool (is_active y.life)
        (λ a. rw (a, next_same k) (removes (next_occupied x.z y k)))
        (λ a. rw a (reads x refl))

    pub alike_teardown_start : Alike x true (teardown_start_of x.z s c) (teardown_start_of x.z s₀ c)
    unfolding teardown_start_of
    alike_teardown_start =
        check x (ltb c s.table_count) 18 λ q.
        check x (is_active y.life) 16 λ q.
        rw (open_erase x.t x.b c 1 s.book.next x.es n s.book.rows x.o.wf.ids.rise x.o.row) (
        check x (not (any_open c s.book.rows)) 14 λ q.
        changes x c (aged x (tearing_down 0) (untouched x y)) (same_book x) refl refl)

    finishes : Alike x true
        (unless not (is_some (next_occupied x.z y 0)) refuse 18 then accept (with_table s c (with_life y retired)) done)
        (unless not (is_some (next_occupied x.z y₀ 0)) refuse 18 then accept (with_table s₀ c (with_life y₀ retired)) done)
    finishes = rw (next_same 0) (
        check x (not (is_some (next_occupied x.z y 0))) 18 λ q.
        changes x c (aged x retired (untouched x y)) (same_book x) refl refl)

  -- a table that tears down is not the claim's, which is active
  tearing_other : (c k : ℕ) → (s.tables c).life ≡ tearing_down k → eqb c x.b ≡ false
  tearing_other c k e = bool (eqb c x.b)
      (λ q. let p : c ≡ x.b = eqb-true c x.b q in let w : (s.tables x.b).life ≡ tearing_down k = rw p at e in clash (is_active_law x) (ap is_active w))
      (λ q. q)

  pub alike_teardown_step : (c : ℕ) → Alike x true (teardown_step_of x.z s c) (teardown_step_of x.z s₀ c)
  unfolding teardown_step_of
  alike_teardown_step c = check x (ltb c s.table_count) 18 λ q. go (s.tables c).life refl
    where
      go : (l : Lifecycle) → (s.tables c).life ≡ l → Alike x true
          (teardown_cursor l refuse 18 then λ k. tear_at x.z s c (s.tables c) (next_occupied x.z (s.tables c) k))
          (teardown_cursor l refuse 18 then λ k. tear_at x.z s₀ c (s₀.tables c) (next_occupied x.z (s₀.tables c) k))
      go active e = refuses x true 18
      go (tearing_down k) e = let n : eqb c x.b ≡ false = tearing_other c k e in
          rw (next_same c n k) (tears c n (next_occupied x.z (s.tables c) k))
      go retired e = refuses x true 18

  pub alike_teardown_finish : (c : ℕ) → Alike x true (teardown_finish_of x.z s c) (teardown_finish_of x.z s₀ c)
  unfolding teardown_finish_of
  alike_teardown_finish c = check x (ltb c s.table_count) 18 λ q. go (s.tables c).life refl
    where
      d : State → Decision
      d u = unless not (is_some (next_occupied x.z (u.tables c) 0)) refuse 18 then accept (with_table u c (with_life (u.tables c) retired)) done

      go : (l : Lifecycle) → (s.tables c).life ≡ l → Alike x true (teardown_cursor l refuse 18 then λ k. d s) (teardown_cursor l refuse 18 then λ k. d s₀)
      go active e = refuses x true 18
      go (tearing_down k) e = finishes c (tearing_other c k e)
      go retired e = refuses x true 18

  pub alike_take_empty_page : (c : ℕ) → Alike x true (take_empty_page_of x.z s c) (take_empty_page_of x.z s₀ c)
  unfolding take_empty_page_of
  alike_take_empty_page c =
      check x (ltb c s.table_count) 18 λ q.
      bool (is_active (s.tables c).life)
      (λ a. rw a (go (s.tables c).empty))
      (λ a. rw a (reads x refl))
    where
      go : (ps : List ℕ) → Alike x true (take_at x.z s c (s.tables c) ps) (take_at x.z s₀ c (s₀.tables c) ps)
      go [] = reads x refl
      go (p ∷ ps) = changes x c (detached x p (s.tables c)) (same_book x) refl refl
