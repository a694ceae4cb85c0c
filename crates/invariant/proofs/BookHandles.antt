-- The requests that open and close no reservation or claim keep the clauses of the book and the counts.
use Rattle.std.specs.Prelude.{◌≡◌, false, not, [], ◌∷◌, ltb, eqb}
use Rattle.std.proofs.Math.Path.{refl, ap}
use Rattle.std.proofs.Math.Bool.{true}
use Prim.Native.Nat.{ℕ, ◌+◌, ◌≤◌, ◌<◌}
use native.Mathlib.Omega.{arith}
use borrow.Author.Tests.{ltb-true, eqb-false, not-true}
use Rattle.authority.specs.Rights.{contains, duplicate_right}
use Rattle.codec.specs.Codec.{next_generation, generation_in}
use Rattle.model.specs.Base.{is_some}
use Rattle.model.specs.State.{Sizes, Handle, Slot, Slot.occupied, Lifecycle, Lifecycle.tearing_down, Lifecycle.retired, Table, Stage, Stage.still_new}
use Rattle.model.specs.State.{Stage.now_active, Stage.now_retired, Object, State, generation, is_active, is_retired, known_flags}
use Rattle.model.specs.Storage.{place, vacate, detach}
use Rattle.model.specs.Change.{with_table, with_life}
use Rattle.model.specs.Objects.{is_now_active, is_now_retired, activated, raise, release, with_rights}
use Rattle.model.specs.Book.{find, free_row, id_left, any_open}
use Rattle.model.specs.Decision.{Decision, as_parcel}
use Rattle.model.specs.Lookup.{lookup, handle_or}
use Rattle.model.specs.Step.{new_object_of, duplicate_of, release_parcel_of, retire_object_of, get_info_of, close_of, replace_of, resolve_of, scan_handles_of}
use Rattle.model.specs.Step.{next_occupied, remove_at, remove_stopping_owner_of, teardown_start_of, tear_at, teardown_step_of, teardown_finish_of, take_at}
use Rattle.model.specs.Step.{take_empty_page_of}
use Rattle.model.specs.WellFormed.{HandleRange, StageCount, WellFormed}
use Rattle.model.proofs.Tests.{clash, same}
use Rattle.model.proofs.Decided.{Decided, accepts, checked, with_some, with_view, with_look, either_way, while_tearing, Any, found_or, first_or}
use Rattle.invariant.proofs.Pointwise.{place_slots, vacate_slots, place_alike, vacate_alike, detach_grown}
use Rattle.invariant.proofs.CountLemmas.{Fit, activated_fit, raise_fit, of_same}
use Rattle.invariant.proofs.Items.{contains_le, with_slot, stands_at}
use Rattle.invariant.proofs.Pages.{Sane}
use Rattle.invariant.proofs.StorageViews.{next_occupied_law, parcel_found}
use Rattle.invariant.proofs.StorageDecisions.{held_range, sound_at}
use Rattle.invariant.proofs.Rows.{Good, good, active_live}
use Rattle.invariant.proofs.Counts.{new_parcel, release_parcel, retire_object, slot_counted, close_slot, replace_slot, calm_step, calm_same}
use Rattle.invariant.proofs.Growth.{detach_calm, walk_none}

-- a request of a state leaves its clauses
abbrev pub Keeps : State → Decision → Type 0
Keeps s d = Decided Any (λ n. id_left s ≡ true) (λ u a. Good u) d

stage_new : (g : Stage) (n : ℕ) → StageCount g n → is_now_retired g ≡ false → is_now_active g ≡ false → n ≡ 0
stage_new still_new n h p q = h
stage_new now_active n h p q = clash refl q
stage_new now_retired n h p q = clash refl p

with_rights_law : (s : State) (h : Handle) (r : ℕ) → HandleRange s h → r ≤ h.rights → HandleRange s (with_rights h r)
with_rights_law s h r w l = record { object = w.object; rights = omega (arith, w.rights); flags = w.flags }

module _ (z : Sizes) (sane : Sane z) (s : State) (w : WellFormed z s) where
  its : Good s
  its = good z s w

  pub new_object_law : (o r f : ℕ) → Keeps s (new_object_of z s o r f)
  unfolding new_object_of
  new_object_law o r f = let x : Object = s.objects o in
      checked (ltb o s.object_count) _ tt λ l.
      checked (free_row s) _ tt λ fr.
      checked (contains x.supported r) _ tt λ e₁.
      checked (contains known_flags f) _ tt λ e₂.
      checked x.exportable _ tt λ e₃.
      checked (not (is_now_retired x.stage)) _ tt λ e₄.
      checked (not (is_now_active x.stage)) _ tt λ e₅.
      checked (not (eqb x.count x.limit)) _ tt λ e₆.
      checked (id_left s) _ tt λ id.
      let m : o < s.object_count = ltb-true o s.object_count l in
      let fit : Fit x = its.fit o m in
      let c : x.count ≡ 0 = stage_new x.stage x.count fit.staged (not-true (is_now_retired x.stage) e₄)
      (not-true (is_now_active x.stage) e₅) in
      accepts (new_parcel s its (record { object = o; rights = r; flags = f }) activated fr id
      (record { object = m; rights = omega (arith, contains_le x.supported r e₁, fit.range.supported); flags = contains_le known_flags f e₂ })
      (activated_fit x fit (omega (arith, fit.within, eqb-false x.count x.limit (not-true (eqb x.count x.limit) e₆)))) (omega arith))

  pub duplicate_kept : (b v r : ℕ) → Keeps s (duplicate_of z s b v r)
  unfolding duplicate_of
  duplicate_kept b v r = let t : Table = s.tables b in
      checked (ltb b s.table_count) _ tt λ l.
      checked (is_active t.life) _ tt λ a.
      checked (free_row s) _ tt λ fr.
      with_view (lookup t v) tt tt λ k h e.
      let x : Object = s.objects h.object in
      checked (contains h.rights duplicate_right) _ tt λ e₁.
      checked (contains h.rights r) _ tt λ e₂.
      checked (not (is_now_retired x.stage)) _ tt λ e₃.
      checked (not (eqb x.count x.limit)) _ tt λ e₄.
      checked (id_left s) _ tt λ id.
      let m : b < s.table_count = ltb-true b s.table_count l in
      let st : t.slots k ≡ occupied (generation_in t.mask v) h = stands_at t v k h e in
      let hr : HandleRange s h = held_range z s w b k (generation_in t.mask v) h m st in
      accepts (new_parcel s its (with_rights h r) raise fr id (with_rights_law s h r hr (contains_le h.rights r e₂))
      (raise_fit x (its.fit h.object hr.object)
      (omega (
        arith,
        slot_counted s its b k (generation_in t.mask v) h m st h.object hr.object,
        of_same h.object h refl,
      ))
      (eqb-false x.count x.limit (not-true (eqb x.count x.limit) e₄))) refl)

  pub release_kept : (i : ℕ) → Keeps s (release_parcel_of z s i)
  unfolding release_parcel_of
  release_kept i = with_some (as_parcel (find i s.book.rows)) _ tt λ hs e. accepts
      (release_parcel s its i hs (parcel_found (find i s.book.rows) hs e))

  pub retire_kept : (o : ℕ) → Keeps s (retire_object_of z s o)
  unfolding retire_object_of
  retire_kept o = checked (ltb o s.object_count) _ tt λ l. accepts (retire_object s its o)

  pub info_kept : (b v : ℕ) → Keeps s (get_info_of z s b v)
  unfolding get_info_of
  info_kept b v = with_look s b v tt tt tt λ l a h e. accepts its

  pub resolve_kept : (b v r kind : ℕ) → Keeps s (resolve_of z s b v r kind)
  unfolding resolve_of
  resolve_kept b v r kind = with_slot s b v λ l a k g h e.
      checked (contains h.rights r) _ tt λ e₁.
      checked (eqb (s.objects h.object).kind kind) _ tt λ e₂.
      accepts its

  pub scan_kept : (b c : ℕ) → Keeps s (scan_handles_of z s b c)
  unfolding scan_handles_of
  scan_kept b c = checked (ltb b s.table_count) _ tt λ l.
      checked (is_active (s.tables b).life) _ tt λ a.
      accepts its

  -- a slot is vacated and its handle released; the table's life stays, or goes on tearing down
  vacated_kept : (b k g : ℕ) (h : Handle) (f : Lifecycle) → b < s.table_count → (s.tables b).slots k ≡ occupied g h → is_retired f ≡ false
      → (is_active f ≡ false → any_open b s.book.rows ≡ false) → Good (release (with_table s b (with_life (vacate z (s.tables b) k) f)) (h ∷ []))
  vacated_kept b k g h f l e live closing = let t : Table = s.tables b in
      close_slot s its b k g h l e (with_life (vacate z t k) f) (next_generation (generation (t.slots k)))
      (λ j. ap (λ x. x j) (vacate_slots z t k)) live closing

  -- as its table's life is
  stays_kept : (b k g : ℕ) (h : Handle) → b < s.table_count → is_active (s.tables b).life ≡ true → (s.tables b).slots k ≡ occupied g h
      → Good (release (with_table s b (vacate z (s.tables b) k)) (h ∷ []))
  stays_kept b k g h l a e = let t : Table = s.tables b in let f : is_active (vacate z t k).life ≡ true = rw (vacate_alike z t k).life a in
      vacated_kept b k g h (vacate z t k).life l e (active_live (vacate z t k).life f) (λ q. clash f q)

  pub close_kept : (b v : ℕ) → Keeps s (close_of z s b v)
  unfolding close_of
  close_kept b v = with_slot s b v λ l a k g h e. accepts (stays_kept b k g h l a e)

  pub replace_kept : (b v r : ℕ) → Keeps s (replace_of z s b v r)
  unfolding replace_of
  replace_kept b v r = with_slot s b v λ l a k g h e. checked (contains h.rights r) _ tt λ e₁.
      let t : Table = s.tables b in
      let n : ℕ = next_generation (generation (t.slots k)) in
      let x : Slot = occupied n (with_rights h r) in
      let f : is_active (place z t k x).life ≡ true = rw (place_alike z t k x).life a in
      accepts (replace_slot s its b k g h l e (place z t k x) n r (λ j. ap (λ y. y j) (place_slots z t k x))
      (with_rights_law s h r (held_range z s w b k g h l e) (contains_le h.rights r e₁)) (active_live (place z t k x).life f) (λ q. clash f q))

  pub remove_kept : (b c : ℕ) → Keeps s (remove_stopping_owner_of z s b c)
  unfolding remove_stopping_owner_of
  remove_kept b c = let t : Table = s.tables b in
      checked (ltb b s.table_count) _ tt λ l.
      either_way (is_active t.life) (λ a. found_or (remove_at z s b t) (next_occupied z t c) (accepts its) λ k e.
      let q = next_occupied_law z t c k e in accepts (stays_kept b k q.0 (handle_or (t.slots k)) (ltb-true b s.table_count l) a q.1))
      (accepts its)

  pub start_kept : (b : ℕ) → Keeps s (teardown_start_of z s b)
  unfolding teardown_start_of
  start_kept b = let t : Table = s.tables b in
      checked (ltb b s.table_count) _ tt λ l.
      checked (is_active t.life) _ tt λ a.
      checked (not (any_open b s.book.rows)) _ tt λ e.
      accepts (calm_step s its b (with_life t (tearing_down 0)) (ltb-true b s.table_count l)
      (calm_same s its b (with_life t (tearing_down 0)) (λ k. refl))
      (λ k q. clash q refl) (λ q. not-true (any_open b s.book.rows) e) s.frames)

  pub step_kept : (b : ℕ) → Keeps s (teardown_step_of z s b)
  unfolding teardown_step_of
  step_kept b = let t : Table = s.tables b in
      checked (ltb b s.table_count) _ tt λ l.
      while_tearing t.life tt λ c d.
      found_or (tear_at z s b t) (next_occupied z t c) (accepts its) λ k e.
      let q = next_occupied_law z t c k e in
      accepts (vacated_kept b k q.0 (handle_or (t.slots k)) (tearing_down (k + 1)) (ltb-true b s.table_count l) q.1 refl
      (λ y. its.closing b (ap is_active d)))

  pub finish_kept : (b : ℕ) → Keeps s (teardown_finish_of z s b)
  unfolding teardown_finish_of
  finish_kept b = let t : Table = s.tables b in
      checked (ltb b s.table_count) _ tt λ l.
      while_tearing t.life tt λ c e.
      checked (not (is_some (next_occupied z t 0))) _ tt λ q.
      let m : b < s.table_count = ltb-true b s.table_count l in
      accepts (calm_step s its b (with_life t retired) m (calm_same s its b (with_life t retired) (λ k. refl))
      (λ k y. walk_none z sane t (sound_at z s w b m) (not-true (is_some (next_occupied z t 0)) q) k) (λ y. its.closing b (ap is_active e)) s.frames)

  pub take_kept : (b : ℕ) → Keeps s (take_empty_page_of z s b)
  unfolding take_empty_page_of
  take_kept b = let t : Table = s.tables b in
      checked (ltb b s.table_count) _ tt λ l.
      either_way (is_active t.life) (λ a. first_or (take_at z s b t) t.empty (accepts its) λ p ps e.
      let m : b < s.table_count = ltb-true b s.table_count l in
      let f : is_active (detach z t p).life ≡ true = rw (detach_grown z t p).life a in
      accepts (calm_step s its b (detach z t p) m (detach_calm z sane t (sound_at z s w b m) p (rw (e, same p) (omega arith)))
      (λ k q. clash q (active_live (detach z t p).life f)) (λ q. clash f q) _)) (accepts its)
