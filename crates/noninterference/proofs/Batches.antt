-- Requests on reservations and plans are decided alike.
use Rattle.std.specs.Prelude.{◌≡◌, Bool, true, false, not, List, [], ◌∷◌, map, ℕ, length, take, drop, ltb, eqb}
use Rattle.std.proofs.Math.Path.{refl}
use Rattle.std.proofs.Common.{sym, ap, ◌∙◌}
use Rattle.std.proofs.Math.Option.{Option}
use Rattle.std.proofs.lemmas.Bool.{eqb-false}
use Rattle.codec.specs.Codec.{encode}
use Rattle.model.specs.Base.{member, or_else, at_most}
use Rattle.model.specs.State.{Table, StorageSnapshot, Row, State}
use Rattle.model.specs.State.{is_active, max_batch}
use Rattle.model.specs.Storage.{pages_for, is_stale}
use Rattle.model.specs.Book.{drop_id}
use Rattle.model.specs.Change.{with_frames, with_book}
use Rattle.model.specs.Request.{Answer.batch}
use Rattle.model.specs.Decision.{Decision, distinct}
use Rattle.model.specs.Step.{with_room, reserve_in, reserve_of, make_plan_of, use_plan_of, drop_plan_of, trim_of, abort_of, publish_of}
use Rattle.noninterference.specs.Runs.{lowered}
use Rattle.noninterference.specs.Erase.{erase}
use Rattle.model.proofs.Tests.{bool, clash}
use Rattle.invariant.proofs.Parcels.{drop_ids, drop_rows_is}
use Rattle.invariant.proofs.Snapshots.{snapshot_pages}
use Rattle.noninterference.proofs.Basics.{map_same}
use Rattle.noninterference.proofs.Tables.{gen_erase}
use Rattle.noninterference.proofs.Snapshots.{snapshot_erase, stale_erase}
use Rattle.noninterference.proofs.Rows.{handles_erase, distinct_erase}
use Rattle.noninterference.proofs.Alike.{Case, Alike, check, row_left_law, id_left_law, somes, reservations, plans}
use Rattle.noninterference.proofs.Effects.{TableTwin, untouched, all_vacated, all_filled, grown, reserved_first, BookTwin, with_rows, with-rows₀, same_book, added, dropped, swapped, accepts, changes}

module _ (x : Case) where
  abbrev s : State
  s = x.s

  abbrev s₀ : State
  s₀ = erase x.t x.es x.s

  -- a table that has grown gives its first free slots, whatever frames are free and whichever row goes
  reserves : {e : Bool} {rs rs₀ : List Row} (c n : ℕ) (fs : List ℕ) (u u₀ : Table) → TableTwin x u u₀
      → BookTwin x (with_rows x rs) (with-rows₀ x rs₀)
      → Alike x e (reserve_in x.z (with_frames (with_book s (with_rows x rs)) fs) c n u) (reserve_in x.z (with_frames (with_book s₀ (with-rows₀ x rs₀)) fs) c n u₀)
  reserves c n fs u u₀ p b = rw p.same (
      changes x c (reserved_first x n u) (added x _ b) refl
      (ap (batch s₀.book.next) (map_same _ _ (λ k. ap (encode u.mask k) (gen_erase x.t x.es k (u.slots k))) (take n u.free))))

  -- the pages that a request needs are those of its snapshot
  abbrev enough : (table_number count : ℕ) → Bool
  enough c n = at_most (length (or_else (pages_for x.z (s.tables c) n) [])) (length s.frames)

  -- the checks that a reservation and a plan share
  has_room : (c n : ℕ) {f f₀ : StorageSnapshot → Decision} → ((w : StorageSnapshot) → Alike x true (f w) (f₀ w))
      → Alike x (enough c n) (with_room x.z s c n (λ y. f)) (with_room x.z s₀ c n (λ y. f₀))
  has_room c n k =
      check x (ltb c s.table_count) 18 λ q.
      check x (is_active (s.tables c).life) 16 λ q.
      check x (ltb 0 n) 17 λ q.
      check x (at_most n max_batch) 13 λ q.
      somes x 15 _ _ (snapshot_erase x.z x.t x.es (s.tables c) n) λ w q.
      check x (at_most (length w.pages) (length s.frames)) 1 λ r.
      rw (ap (λ (m : Option (List ℕ)). at_most (length (or_else m [])) (length s.frames)) (snapshot_pages x.z (s.tables c) n w q).0 ∙ r) (
      row_left_law x (
      id_left_law x (
      k w)))

  pub alike_reserve : (c n : ℕ) → Alike x (enough c n) (reserve_of x.z s c n) (reserve_of x.z s₀ c n)
  unfolding reserve_of
  alike_reserve c n = has_room c n λ w.
      reserves c n (drop (length w.pages) s.frames) _ _ (grown x w.pages s.frames (s.tables c)) (same_book x)

  pub alike_make_plan : (c n : ℕ) → Alike x (enough c n) (make_plan_of x.z s c n) (make_plan_of x.z s₀ c n)
  unfolding make_plan_of
  alike_make_plan c n = has_room c n λ w.
      accepts x (λ d. untouched x (s.tables d)) (added x _ (same_book x)) refl refl

  -- a plan is stale in both runs or in neither
  pub alike_use_plan : (i : ℕ) → (i ≡ x.t → ⊥) → Alike x true (use_plan_of x.z s i) (use_plan_of x.z s₀ (lowered x.t i))
  unfolding use_plan_of
  alike_use_plan i p =
      plans x i _ _ p λ c n w fs.
      check x (is_active (s.tables c).life) 16 λ q.
      rw (stale_erase x.z x.t x.es (s.tables c) n w) (
      check x (not (is_stale x.z (s.tables c) n w)) 21 λ q.
      id_left_law x (
      reserves c n s.frames _ _ (grown x w.pages fs (s.tables c)) (dropped x i p (same_book x))))

  pub alike_drop_plan : (i : ℕ) → (i ≡ x.t → ⊥) → Alike x true (drop_plan_of x.z s i) (drop_plan_of x.z s₀ (lowered x.t i))
  unfolding drop_plan_of
  alike_drop_plan i p =
      plans x i _ _ p λ c n w fs.
      accepts x (λ d. untouched x (s.tables d)) (dropped x i p (same_book x)) refl refl

  pub alike_trim : (i n : ℕ) → (i ≡ x.t → ⊥) → Alike x true (trim_of x.z s i n) (trim_of x.z s₀ (lowered x.t i) n)
  unfolding trim_of
  alike_trim i n p =
      reservations x i _ _ p λ c ks.
      check x (ltb 0 n) 18 λ q.
      check x (at_most n (length ks)) 18 λ q.
      changes x c (all_vacated x (drop n ks) (s.tables c)) (swapped x i _ p) refl refl

  pub alike_abort : (i : ℕ) → (i ≡ x.t → ⊥) → Alike x true (abort_of x.z s i) (abort_of x.z s₀ (lowered x.t i))
  unfolding abort_of
  alike_abort i p =
      reservations x i _ _ p λ c ks.
      changes x c (all_vacated x ks (s.tables c)) (dropped x i p (same_book x)) refl refl

  all_dropped : {rs rs₀ : List Row} (is : List ℕ) → member x.t is ≡ false → BookTwin x (with_rows x rs) (with-rows₀ x rs₀)
      → BookTwin x (with_rows x (drop_ids is rs)) (with-rows₀ x (drop_ids (map (lowered x.t) is) rs₀))
  all_dropped {rs = rs} {rs₀ = rs₀} [] m p = p
  all_dropped {rs = rs} {rs₀ = rs₀} (i ∷ is) m p = bool (eqb x.t i)
      (λ e. clash refl (rw e at m))
      (λ e. all_dropped {rs = drop_id i rs} {rs₀ = drop_id (lowered x.t i) rs₀} is (rw e at m) (dropped x i (λ y. eqb-false x.t i e (sym y)) p))

  pub alike_publish : (i : ℕ) (is : List ℕ) → (i ≡ x.t → ⊥) → member x.t is ≡ false
      → Alike x true (publish_of x.z s i is) (publish_of x.z s₀ (lowered x.t i) (map (lowered x.t) is))
  unfolding publish_of
  alike_publish i is p m =
      reservations x i _ _ p λ c ks.
      somes x 18 _ _ (handles_erase x.t is m s.book.rows) λ hs q.
      rw (distinct_erase x.t is m) (
      check x (distinct is) 18 λ q.
      check x (eqb (length hs) (length ks)) 18 λ q.
      rw (drop_rows_is is, drop_rows_is (map (lowered x.t) is)) (
      changes x c (all_filled x ks hs (s.tables c)) (all_dropped is m (dropped x i p (same_book x))) refl refl))
