-- Requests on objects and on single values are decided alike.
use Rattle.std.specs.Prelude.{◌≡◌, true, false, not, ◌&&◌, ℕ, ltb, eqb}
use Rattle.std.proofs.Math.Path.{refl}
use Rattle.std.proofs.Common.{ap}
use Rattle.codec.specs.Codec.{encode, next_generation}
use Rattle.model.specs.Base.{member}
use Rattle.model.specs.State.{Handle, State}
use Rattle.model.specs.State.{Object, is_active, known_flags}
use Rattle.authority.specs.Rights.{contains, duplicate_right}
use Rattle.model.specs.Objects.{is_now_active, is_now_retired, with_rights}
use Rattle.model.specs.Decision.{Decision, as_parcel}
use Rattle.model.specs.Request.{Answer.renewed}
use Rattle.model.proofs.Decided.{on_handle}
use Rattle.model.specs.Step.{new_object_of, duplicate_of, release_parcel_of, retire_object_of, get_info_of, close_of, replace_of, resolve_of}
use Rattle.noninterference.specs.Runs.{lowered}
use Rattle.noninterference.specs.Erase.{erase}
use Rattle.noninterference.proofs.Tables.{gen_erase}
use Rattle.noninterference.proofs.Rows.{find_erase}
use Rattle.noninterference.proofs.Alike.{Case, Alike, lookup_same, look_same, check, row_left_law, id_left_law, views, somes}
use Rattle.noninterference.proofs.Effects.{untouched, vacated, renews, same_book, added, dropped, accepts, reads, changes}

module _ (x : Case) where
  abbrev s : State
  s = x.s

  abbrev s₀ : State
  s₀ = erase x.t x.es x.s

  pub alike_new_object : (o r f : ℕ) → Alike x true (new_object_of x.z s o r f) (new_object_of x.z s₀ o r f)
  unfolding new_object_of
  alike_new_object o r f = let y : Object = s.objects o in
      check x (ltb o s.object_count) 18 λ q.
      row_left_law x (
      check x (contains y.supported r) 6 λ q.
      check x (contains known_flags f) 7 λ q.
      check x y.exportable 6 λ q.
      check x (not (is_now_retired y.stage)) 9 λ q.
      check x (not (is_now_active y.stage)) 10 λ q.
      check x (not (eqb y.count y.limit)) 11 λ q.
      id_left_law x (
      accepts x (λ c. untouched x (s.tables c)) (added x _ (same_book x)) refl refl))

  pub alike_duplicate : (c v r : ℕ) → (eqb c x.b && member v x.vs) ≡ false
      → Alike x true (duplicate_of x.z s c v r) (duplicate_of x.z s₀ c v r)
  unfolding duplicate_of
  alike_duplicate c v r n =
      check x (ltb c s.table_count) 18 λ q.
      check x (is_active (s.tables c).life) 16 λ q.
      row_left_law x (
      views x _ _ (lookup_same x c v n) λ k h l.
      check x (contains h.rights duplicate_right) 5 λ q.
      check x (contains h.rights r) 5 λ q.
      check x (not (is_now_retired (s.objects h.object).stage)) 9 λ q.
      check x (not (eqb (s.objects h.object).count (s.objects h.object).limit)) 11 λ q.
      id_left_law x (
      accepts x (λ c. untouched x (s.tables c)) (added x _ (same_book x)) refl refl))

  pub alike_retire_object : (o : ℕ) → Alike x true (retire_object_of x.z s o) (retire_object_of x.z s₀ o)
  unfolding retire_object_of
  alike_retire_object o = check x (ltb o s.object_count) 18 λ q. accepts x (λ c. untouched x (s.tables c)) (same_book x) refl refl

  pub alike_release_parcel : (i : ℕ) → (i ≡ x.t → ⊥) → Alike x true (release_parcel_of x.z s i) (release_parcel_of x.z s₀ (lowered x.t i))
  unfolding release_parcel_of
  alike_release_parcel i n =
      somes x 18 _ _ (ap as_parcel (find_erase x.t i n s.book.rows)) λ hs q.
      accepts x (λ c. untouched x (s.tables c)) (dropped x i n (same_book x)) refl refl

  -- a handle of an active table
  handles : (c v : ℕ) (f f₀ : ℕ → Handle → Decision) → (eqb c x.b && member v x.vs) ≡ false
      → ((k : ℕ) (h : Handle) → Alike x true (f k h) (f₀ k h))
      → Alike x true (on_handle s c v λ y. f) (on_handle s₀ c v λ y. f₀)
  handles c v f f₀ n y =
      check x (ltb c s.table_count) 18 λ q.
      check x (is_active (s.tables c).life) 16 λ q.
      views x f f₀ (lookup_same x c v n) λ k h l. y k h

  -- of any value, a moved one too
  pub alike_get_info : (c v : ℕ) → Alike x true (get_info_of x.z s c v) (get_info_of x.z s₀ c v)
  unfolding get_info_of
  alike_get_info c v =
      check x (ltb c s.table_count) 18 λ q.
      check x (is_active (s.tables c).life) 16 λ q.
      somes x 2 _ _ (look_same x c v) λ h q. reads x refl

  pub alike_resolve : (c v r kind : ℕ) → (eqb c x.b && member v x.vs) ≡ false
      → Alike x true (resolve_of x.z s c v r kind) (resolve_of x.z s₀ c v r kind)
  unfolding resolve_of
  alike_resolve c v r kind n = handles c v _ _ n λ k h.
      check x (contains h.rights r) 5 λ q.
      check x (eqb (s.objects h.object).kind kind) 4 λ q.
      reads x refl

  pub alike_close : (c v : ℕ) → (eqb c x.b && member v x.vs) ≡ false → Alike x true (close_of x.z s c v) (close_of x.z s₀ c v)
  unfolding close_of
  alike_close c v n = handles c v _ _ n λ k h. changes x c (vacated x k (s.tables c)) (same_book x) refl refl

  pub alike_replace : (c v r : ℕ) → (eqb c x.b && member v x.vs) ≡ false → Alike x true (replace_of x.z s c v r) (replace_of x.z s₀ c v r)
  unfolding replace_of
  alike_replace c v r n = handles c v _ _ n λ k h.
      check x (contains h.rights r) 5 λ q.
      changes x c (renews x k (with_rights h r) (s.tables c)) (same_book x) refl
      (ap (λ (g : ℕ). renewed (encode (s.tables c).mask k (next_generation g))) (gen_erase x.t x.es k ((s.tables c).slots k)))
