-- Requests on objects, single handles and a table's end keep the storage clauses.
use Rattle.std.specs.Prelude.{◌≡◌, true, not, ◌&&◌, List, [], ◌∷◌, eqb, ltb}
use Rattle.std.proofs.Math.Path.{refl}
use Rattle.std.proofs.Common.{sym, arith}
use Rattle.std.proofs.Math.Option.{some}
use Prim.Native.Nat.{ℕ, ◌+◌, ◌≤◌, ◌<◌}
use borrow.Author.Tests.{ltb-true}
use Rattle.codec.specs.Codec.{next_generation, generation_in}
use Rattle.codec.proofs.Laws.{next_range}
use Rattle.authority.specs.Rights.{contains, duplicate_right}
use Rattle.model.specs.Base.{bit, occurs, is_some}
use Rattle.model.specs.State.{Sizes, Lifecycle, Handle, Slot, Slot.occupied, Lifecycle.tearing_down, Lifecycle.retired, Table, Object, Body.parcel}
use Rattle.model.specs.State.{State, generation, is_active, known_flags}
use Rattle.model.specs.Storage.{place, vacate, detach, busy_of}
use Rattle.model.specs.Change.{with_life, with_table, with_frames}
use Rattle.model.specs.Objects.{is_now_active, is_now_retired, activated, raise, lower, retired_by_owner, change, change_all, release, with_rights}
use Rattle.model.specs.Book.{find, free_row, id_left, any_open}
use Rattle.model.specs.Decision.{as_parcel}
use Rattle.model.specs.Lookup.{lookup, handle_or}
use Rattle.model.specs.Step.{new_object_of, duplicate_of, release_parcel_of, retire_object_of, get_info_of, close_of, replace_of, resolve_of, scan_handles_of}
use Rattle.model.specs.Step.{remove_stopping_owner_of, remove_at, next_occupied, teardown_start_of, tear_at, teardown_step_of, teardown_finish_of, returned}
use Rattle.model.specs.Step.{take_at, take_empty_page_of}
use Rattle.model.specs.WellFormed.{LifeRange, BodyRange, is_frame, is_attached, WellFormed}
use Rattle.model.proofs.Tests.{and_left, bit_true, bit_small, same}
use Rattle.model.proofs.Sums.{sum_part}
use Rattle.model.proofs.Decided.{accepts, checked, with_some, with_view, with_look, while_tearing, either_way, found_or, first_or}
use Rattle.invariant.proofs.Pointwise.{alike_self, detach_free, place_alike, vacate_alike, place_free, detach_grown}
use Rattle.invariant.proofs.BookLemmas.{all_map, found_range}
use Rattle.invariant.proofs.Items.{with_slot, stands_at}
use Rattle.invariant.proofs.Pages.{Sane}
use Rattle.invariant.proofs.Orders.{Sound, order_is, attached_below, below_of, place_busy, detach_sound, vacate_good}
use Rattle.invariant.proofs.Frames.{owned, detach_owned}
use Rattle.invariant.proofs.StorageState.{storage_of, turned, change_rest, change_all_rest}
use Rattle.invariant.proofs.StorageViews.{next_occupied_law, parcel_found, occurs_returned, rising_returned}
use Rattle.invariant.proofs.StorageDecisions.{Kept, KeptD, opened, ended, unchanged, still, held_range, sound_at, objects_kept, table_kept, life_kept}

module _ (z : Sizes) (sane : Sane z) (s : State) (w : WellFormed z s) where
  pub new_object_law : (o r f : ℕ) → KeptD z s (new_object_of z s o r f)
  unfolding new_object_of
  new_object_law o r f = let x : Object = s.objects o in
      checked (ltb o s.object_count) _ tt λ l.
      checked (free_row s) _ tt λ e1.
      checked (contains x.supported r) _ tt λ e2.
      checked (contains known_flags f) _ tt λ e3.
      checked x.exportable _ tt λ e4.
      checked (not (is_now_retired x.stage)) _ tt λ e5.
      checked (not (is_now_active x.stage)) _ tt λ e6.
      checked (not (eqb x.count x.limit)) _ tt λ e7.
      checked (id_left s) _ tt λ e8.
      accepts (objects_kept z s w (change activated s.objects o)
      (change_rest activated s.object_count o s.objects (ltb-true o s.object_count l) w.at_rest.objects) _ _ (opened z s w _ refl tt))

  pub duplicate_kept : (b v r : ℕ) → KeptD z s (duplicate_of z s b v r)
  unfolding duplicate_of
  duplicate_kept b v r = let t : Table = s.tables b in
      checked (ltb b s.table_count) _ tt λ l.
      checked (is_active t.life) _ tt λ e1.
      checked (free_row s) _ tt λ e2.
      with_view (lookup t v) tt tt λ k h e.
      checked (contains h.rights duplicate_right) _ tt λ e3.
      checked (contains h.rights r) _ tt λ e4.
      checked (not (is_now_retired (s.objects h.object).stage)) _ tt λ e5.
      checked (not (eqb (s.objects h.object).count (s.objects h.object).limit)) _ tt λ e6.
      checked (id_left s) _ tt λ e7.
      accepts (objects_kept z s w (change raise s.objects h.object)
      (change_rest raise s.object_count h.object s.objects (held_range z s w b k (generation_in t.mask v) h (ltb-true b s.table_count l) (stands_at t v k h e)).object
      w.at_rest.objects) _ _ (opened z s w _ refl tt))

  pub release_kept : (i : ℕ) → KeptD z s (release_parcel_of z s i)
  unfolding release_parcel_of
  release_kept i = with_some (as_parcel (find i s.book.rows)) _ tt λ hs e.
      let q : find i s.book.rows ≡ some (parcel hs) = parcel_found (find i s.book.rows) hs e in
      let r : BodyRange z s (parcel hs) = found_range s w i (parcel hs) q in
      accepts (objects_kept z s w (change_all lower hs s.objects)
      (change_all_rest lower s.object_count hs s.objects (all_map (λ h q. q.object) hs r.1) w.at_rest.objects) _ _ (ended z s w i (parcel hs) q refl))

  pub retire_kept : (o : ℕ) → KeptD z s (retire_object_of z s o)
  unfolding retire_object_of
  retire_kept o = checked (ltb o s.object_count) _ tt λ l.
      accepts (objects_kept z s w (change retired_by_owner s.objects o)
      (change_rest retired_by_owner s.object_count o s.objects (ltb-true o s.object_count l) w.at_rest.objects) _ _ (unchanged z s w))

  pub read_kept : (b v : ℕ) → KeptD z s (get_info_of z s b v)
  unfolding get_info_of
  read_kept b v = with_look s b v tt tt tt λ l a h e. accepts (still z s w)

  pub resolve_kept : (b v r kind : ℕ) → KeptD z s (resolve_of z s b v r kind)
  unfolding resolve_of
  resolve_kept b v r kind = with_slot s b v λ l a k n h e.
      checked (contains h.rights r) _ tt λ e1.
      checked (eqb (s.objects h.object).kind kind) _ tt λ e2.
      accepts (still z s w)

  pub scan_kept : (b k : ℕ) → KeptD z s (scan_handles_of z s b k)
  unfolding scan_handles_of
  scan_kept b k = checked (ltb b s.table_count) _ tt λ l.
      checked (is_active (s.tables b).life) _ tt λ e1.
      accepts (still z s w)

  pub replace_kept : (b v r : ℕ) → KeptD z s (replace_of z s b v r)
  unfolding replace_of
  replace_kept b v r = with_slot s b v λ l a k n h e.
      checked (contains h.rights r) _ tt λ e1.
      let t : Table = s.tables b in
      let g : ℕ = next_generation (generation (t.slots k)) in
      let x : Slot = occupied g (with_rights h r) in
      accepts (table_kept z s w b (place z t k x) l (place_alike z t k x)
      (order_is z (place z t k x) t.free (place z t k x).free (sym (place_free z t k x))
      (place_busy z sane t t.free k x (sound_at z s w b l) (rw e) refl
      (next_range (generation (t.slots k)))))
      s.objects w.at_rest.objects _ _ (unchanged z s w))

  -- a slot is vacated and its handle released; the table's life is new
  vacated_kept : (b k g : ℕ) (h : Handle) (f : Lifecycle) → b < s.table_count → (s.tables b).slots k ≡ occupied g h → LifeRange f
      → Kept z s (release (with_table s b (with_life (vacate z (s.tables b) k) f)) (h ∷ []))
  vacated_kept b k g h f l e r = let t : Table = s.tables b in
      life_kept z s w b (vacate z t k) f l (vacate_alike z t k) (vacate_good z sane t k (sound_at z s w b l) (rw e)) r
      (change_all lower (h ∷ []) s.objects)
      (change_all_rest lower s.object_count (h ∷ []) s.objects ((held_range z s w b k g h l e).object, tt) w.at_rest.objects) _ _ (unchanged z s w)

  -- or stays
  stays_kept : (b k g : ℕ) (h : Handle) → b < s.table_count → (s.tables b).slots k ≡ occupied g h
      → Kept z s (release (with_table s b (vacate z (s.tables b) k)) (h ∷ []))
  stays_kept b k g h l e = let t : Table = s.tables b in
      vacated_kept b k g h (vacate z t k).life l e (rw (vacate_alike z t k).life (w.ranges.tables b l).life)

  pub close_kept : (b v : ℕ) → KeptD z s (close_of z s b v)
  unfolding close_of
  close_kept b v = with_slot s b v λ l a k n h e. accepts (stays_kept b k n h l e)

  pub remove_kept : (b c : ℕ) → KeptD z s (remove_stopping_owner_of z s b c)
  unfolding remove_stopping_owner_of
  remove_kept b c = let t : Table = s.tables b in
      checked (ltb b s.table_count) _ tt λ l.
      either_way (is_active t.life) (λ a. found_or (remove_at z s b t) (next_occupied z t c) (accepts (still z s w)) λ k e.
      let q = next_occupied_law z t c k e in accepts (stays_kept b k q.0 (handle_or (t.slots k)) (ltb-true b s.table_count l) q.1))
      (accepts (still z s w))

  pub start_kept : (b : ℕ) → KeptD z s (teardown_start_of z s b)
  unfolding teardown_start_of
  start_kept b = let t : Table = s.tables b in
      checked (ltb b s.table_count) _ tt λ l.
      checked (is_active t.life) _ tt λ e1.
      checked (not (any_open b s.book.rows)) _ tt λ e2.
      let m : b < s.table_count = ltb-true b s.table_count l in
      accepts (life_kept z s w b t (tearing_down 0) m (alike_self z t) (sound_at z s w b m) (omega arith) s.objects w.at_rest.objects _ _ (unchanged z s w))

  pub step_kept : (b : ℕ) → KeptD z s (teardown_step_of z s b)
  unfolding teardown_step_of
  step_kept b = let t : Table = s.tables b in
      checked (ltb b s.table_count) _ tt λ l.
      while_tearing t.life tt λ c d.
      found_or (tear_at z s b t) (next_occupied z t c) (accepts (still z s w)) λ k e.
      let m : b < s.table_count = ltb-true b s.table_count l in
      let q = next_occupied_law z t c k e in
      accepts (vacated_kept b k q.0 (handle_or (t.slots k)) (tearing_down (k + 1)) m q.1
      (omega (arith, below_of z t t.free (sound_at z s w b m) k (rw q.1))))

  pub finish_kept : (b : ℕ) → KeptD z s (teardown_finish_of z s b)
  unfolding teardown_finish_of
  finish_kept b = let t : Table = s.tables b in
      checked (ltb b s.table_count) _ tt λ l.
      while_tearing t.life tt λ k e.
      checked (not (is_some (next_occupied z t 0))) _ tt λ e.
      let m : b < s.table_count = ltb-true b s.table_count l in
      accepts (life_kept z s w b t retired m (alike_self z t) (sound_at z s w b m) tt s.objects w.at_rest.objects _ _ (unchanged z s w))

  -- a page's frame is in use and not free
  frame_once : (b p f : ℕ) → b < s.table_count → p < (s.tables b).limit → bit (is_frame ((s.tables b).pages p).frame f) + occurs f s.frames ≤ 1
  frame_once b p f l m = omega (
    arith,
    w.frames.once f,
    bit_small (ltb f s.frame_count),
    sum_part s.table_count
        (λ x. owned (s.tables x) f) b l,
    sum_part (s.tables b).limit (λ q. bit (is_frame ((s.tables b).pages q).frame f)) p m,
  )

  detached_kept : (b p : ℕ) (ps : List ℕ) → b < s.table_count → (s.tables b).empty ≡ p ∷ ps
      → Kept z s (with_frames (with_table s b (detach z (s.tables b) p)) (returned z ((s.tables b).pages p).frame s.frames))
  detached_kept b p ps l e =
      let t : Table = s.tables b in
      let o : Sound z t t.free = sound_at z s w b l in
      let h : 1 + occurs p ps ≡ bit (is_attached t p && eqb (busy_of z t.slots p) 0) = rw (e, same p) at (o.empty p) in
      let a : is_attached t p ≡ true = and_left (is_attached t p) (eqb (busy_of z t.slots p) 0)
      (bit_true (is_attached t p && eqb (busy_of z t.slots p) 0) (omega arith)) in
      let m : p < t.limit = omega (arith, attached_below z t t.free o p a, o.size) in
      let g = detach_grown z t p in
      record {
        storage = turned z s (storage_of z s w) b (detach z t p) (returned z (t.pages p).frame s.frames) s.book.rows s.book.next l (record {
          sound = order_is z (detach z t p) _ (detach z t p).free (sym (detach_free z t p)) (detach_sound z sane t t.free p o a);
          limit = g.limit;
          mask = g.mask;
          life = rw g.life (w.ranges.tables b l).life;
          frames = λ f. omega (arith, occurs_returned z (t.pages p).frame s.frames f, detach_owned z t p f m);
          rising = rising_returned z (t.pages p).frame s.frames (λ f. frame_once b p f l m) w.frames.rising;
          plans = (unchanged z s w).range;
        });
        counts = (still z s w).counts;
      }

  pub take_kept : (b : ℕ) → KeptD z s (take_empty_page_of z s b)
  unfolding take_empty_page_of
  take_kept b = let t : Table = s.tables b in
      checked (ltb b s.table_count) _ tt λ l.
      either_way (is_active t.life) (λ a. first_or (take_at z s b t) t.empty (accepts (still z s w)) λ p ps e.
      accepts (detached_kept b p ps (ltb-true b s.table_count l) e)) (accepts (still z s w))
