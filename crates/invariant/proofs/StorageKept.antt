-- Every request keeps the storage clauses.
use Rattle.std.specs.Prelude.{◌≡◌, not, drop, eqb, ltb}
use Rattle.std.proofs.Math.Path.{refl, ap}
use Rattle.std.proofs.Common.{sym, ◌∙◌}
use Rattle.std.proofs.Math.Bool.{true}
use mathlib.Core.List.{List, [], ◌∷◌, ◌++◌, map}
use Rattle.std.proofs.Math.Option.{Option, some}
use Prim.Native.Nat.{ℕ, ◌+◌, ◌≤◌, ◌<◌}
use native.Mathlib.Omega.{arith}
use Rattle.std.proofs.Math.ListN.{length, take}
use borrow.Author.Tests.{ltb-true, eqb-true}
use Rattle.authority.specs.Rights.{contains}
use Rattle.model.specs.Base.{at_most, occurs, insert_all}
use Rattle.model.specs.State.{Sizes, Slot, Slot.reserved, Slot.transfer_reserved, Table, Entry, State, generation, is_busy, is_active, max_batch}
use Rattle.model.specs.State.{Body, Body.reservation, Body.claim, Body.parcel, Body.plan, Row}
use Rattle.model.specs.Storage.{place, keep, keep_all, vacate_all, take_free, pages_for, is_stale, grow}
use Rattle.model.specs.Request.{Route, Item, Request, Request.new_object, Request.duplicate, Request.release_parcel, Request.retire_object}
use Rattle.model.specs.Request.{Request.reserve, Request.trim, Request.abort, Request.publish, Request.get_info, Request.resolve, Request.replace}
use Rattle.model.specs.Request.{Request.close, Request.scan_handles, Request.prepare_transfer, Request.prepare_consumption, Request.rollback}
use Rattle.model.specs.Request.{Request.commit, Request.direct_commit, Request.direct_rollback, Request.remove_stopping_owner, Request.teardown_start}
use Rattle.model.specs.Request.{Request.teardown_step, Request.teardown_finish, Request.take_empty_page, Request.make_plan, Request.use_plan, Request.drop_plan, Request.judge_transfer}
use Rattle.model.specs.Change.{with_table, with_frames, with_book}
use Rattle.model.specs.Objects.{raise, lower, change_all, release}
use Rattle.model.specs.Book.{free_row, id_left, moved_of, copies_of, sent_of, find, drop_id}
use Rattle.model.specs.Decision.{handles_of, distinct}
use Rattle.model.specs.Lookup.{lookup}
use Rattle.model.specs.Transfer.{items_fault, copies_fault, entry_for}
use Rattle.model.specs.Step.{fill_all, restore_all, reserve_of, trim_of, abort_of, publish_of, prepare_transfer_of, prepare_consumption_of, rollback_of}
use Rattle.model.specs.Step.{commit_of, direct_commit_of, direct_rollback_of, make_plan_of, use_plan_of, drop_plan_of, judge_transfer_of, decide, step}
use Rattle.model.specs.WellFormed.{All, Rising, PlanRange, frames_in, plans_with, WellFormed}
use Rattle.model.proofs.Tests.{bool, at_most_law, bit_small}
use Rattle.model.proofs.Sums.{occurs_split}
use Rattle.model.proofs.Decided.{accepts, checked, with_some, with_view, after_id, with_reservation, with_claim, with_plan, with_room_law, carried}
use Rattle.invariant.proofs.Pointwise.{moved_handles, restore_all_is, place_alike, keep_all_alike, vacate_all_alike, fill_all_alike, take_free_alike}
use Rattle.invariant.proofs.Pointwise.{place_free, keep_all_free, grow_grown, restore_all_alike}
use Rattle.invariant.proofs.BookLemmas.{row, PlanRow, Frameless, found_range, over_add, over_drop, all_append, all_drop}
use Rattle.invariant.proofs.Items.{stands_at, taken, items_stand, items_range}
use Rattle.invariant.proofs.Pages.{Sane}
use Rattle.invariant.proofs.Orders.{order_is, keep_sound, keep_all_sound, take_free_sound, vacate_all_good, fill_all_good, restore_all_good}
use Rattle.invariant.proofs.Frames.{owned_alike, Grows, pages_grow, grow_sound, grow_owned, rising_drop}
use Rattle.invariant.proofs.StorageState.{StorageClauses, Plans, plans_same, plans_drop, storage_of, sound_of, turned, held_others, change_all_rest, copies_range}
use Rattle.invariant.proofs.StorageViews.{fill_all_busy, occurs_inserted, rising_inserted}
use Rattle.invariant.proofs.Parcels.{parcels_frameless}
use Rattle.invariant.proofs.Snapshots.{take_all, snapshot_pages, fresh_pages, planned_range}
use Rattle.invariant.proofs.StorageDecisions.{Kept, KeptD, opened, bare_row, ended, swapped, unchanged, still, sound_at, table_kept, again_kept, rows_kept, copies_rest, reservation_owns}
use Rattle.invariant.proofs.StorageDecisions.{claim_owns, busy_still, spent}
use Rattle.invariant.proofs.StorageHandles.{new_object_law, duplicate_kept, release_kept, retire_kept, read_kept, resolve_kept, scan_kept}
use Rattle.invariant.proofs.StorageHandles.{close_kept, replace_kept, remove_kept, start_kept, step_kept, finish_kept, take_kept}

module _ (z : Sizes) (sane : Sane z) (s : State) (w : WellFormed z s) where
  trim_kept : (i n : ℕ) → KeptD z s (trim_of z s i n)
  unfolding trim_of
  trim_kept i n = with_reservation (find i s.book.rows) tt λ b ks e.
      checked (ltb 0 n) _ tt λ e1.
      checked (at_most n (length ks)) _ tt λ e2.
      let t : Table = s.tables b in
      let l : b < s.table_count = (found_range s w i (reservation b ks) e).0 in
      accepts (table_kept z s w b (vacate_all z (drop n ks) t) l (vacate_all_alike z (drop n ks) t)
      (vacate_all_good z sane t (drop n ks) (sound_at z s w b l) (λ j. omega (arith, (reservation_owns z s w i b ks e).once j, occurs_split j n ks))
      (λ j m. (reservation_owns z s w i b ks e).busy j (omega (arith, occurs_split j n ks))))
      s.objects w.at_rest.objects _ _ (swapped z s w i (reservation b ks) (reservation b (take n ks)) e refl refl tt))

  abort_kept : (i : ℕ) → KeptD z s (abort_of z s i)
  unfolding abort_of
  abort_kept i = with_reservation (find i s.book.rows) tt λ b ks e.
      let t : Table = s.tables b in
      let l : b < s.table_count = (found_range s w i (reservation b ks) e).0 in
      accepts (table_kept z s w b (vacate_all z ks t) l (vacate_all_alike z ks t)
      (vacate_all_good z sane t ks (sound_at z s w b l) (reservation_owns z s w i b ks e).once (reservation_owns z s w i b ks e).busy) s.objects
      w.at_rest.objects _ _ (ended z s w i (reservation b ks) e refl))

  publish_kept : (i : ℕ) (is : List ℕ) → KeptD z s (publish_of z s i is)
  unfolding publish_of
  publish_kept i is = with_reservation (find i s.book.rows) tt λ b ks e.
      with_some (handles_of is s.book.rows) _ tt λ hs q.
      checked (distinct is) _ tt λ e1.
      checked (eqb (length hs) (length ks)) _ tt λ e2.
      let t : Table = s.tables b in
      let l : b < s.table_count = (found_range s w i (reservation b ks) e).0 in
      accepts (rows_kept z s w (i ∷ is) (with_table s b (fill_all z ks hs t))
      (bare_row z s w i (reservation b ks) e refl, parcels_frameless is s.book.next s.book.rows hs w.ids.rise q)
      (table_kept z s w b (fill_all z ks hs t) l (fill_all_alike z ks hs t)
      (fill_all_good z sane t ks hs (sound_at z s w b l) (reservation_owns z s w i b ks e).busy) s.objects w.at_rest.objects _ _ (unchanged z s w)))

  commit_kept : (i : ℕ) → KeptD z s (commit_of z s i)
  unfolding commit_of
  commit_kept i = with_claim (find i s.book.rows) tt λ b es e.
      let t : Table = s.tables b in
      let l : b < s.table_count = (found_range s w i (claim b es) e).0 in
      accepts (table_kept z s w b (vacate_all z (moved_of es) t) l (vacate_all_alike z (moved_of es) t)
      (vacate_all_good z sane t (moved_of es) (sound_at z s w b l) (claim_owns z s w i b es e).once (claim_owns z s w i b es e).busy) s.objects
      w.at_rest.objects _ _ (swapped z s w i (claim b es) (parcel (map sent_of es)) e refl refl tt))

  rollback_kept : (i : ℕ) → KeptD z s (rollback_of z s i)
  unfolding rollback_of
  rollback_kept i = with_claim (find i s.book.rows) tt λ b es e.
      let t : Table = s.tables b in
      let l : b < s.table_count = (found_range s w i (claim b es) e).0 in
      accepts (table_kept z s w b (restore_all z es t) l (restore_all_alike z es t)
      (restore_all_good z sane t es (sound_at z s w b l) (claim_owns z s w i b es e).busy) (change_all lower (copies_of es) s.objects)
      (copies_rest z s w i b es e) _ _ (ended z s w i (claim b es) e refl))

  judge_kept : (b : ℕ) (route : Route) (bo bk : Option ℕ) (qs : List Item) → KeptD z s (judge_transfer_of z s b route bo bk qs)
  unfolding judge_transfer_of
  judge_kept b route bo bk qs = checked (ltb b s.table_count) _ tt λ l. accepts (still z s w)

  consume_kept : (b v r kind koid : ℕ) → KeptD z s (prepare_consumption_of z s b v r kind koid)
  unfolding prepare_consumption_of
  consume_kept b v r kind koid = let t : Table = s.tables b in
      checked (ltb b s.table_count) _ tt λ l.
      checked (is_active t.life) _ tt λ e1.
      checked (free_row s) _ tt λ e2.
      with_view (lookup t v) tt tt λ k h e.
      checked (contains h.rights r) _ tt λ e3.
      checked (eqb (s.objects h.object).kind kind) _ tt λ e4.
      checked (eqb (s.objects h.object).koid koid) _ tt λ e5.
      checked (id_left s) _ tt λ e6.
      let i : ℕ = s.book.next in
      let m : b < s.table_count = ltb-true b s.table_count l in
      let x : Slot = transfer_reserved (generation (t.slots k)) i in
      accepts (table_kept z s w b (keep z (λ g. transfer_reserved g i) t k) m (place_alike z t k x)
      (order_is z (keep z (λ g. transfer_reserved g i) t k) t.free (place z t k x).free (sym (place_free z t k x))
      (keep_sound z sane (λ g. transfer_reserved g i) (λ g. refl) (λ g. refl) t t.free k (sound_at z s w b m) (rw (stands_at t v k h e))))
      s.objects w.at_rest.objects _ _ (opened z s w _ refl tt))

  transfer_kept : (b : ℕ) (route : Route) (bo bk : Option ℕ) (qs : List Item) → KeptD z s (prepare_transfer_of z s b route bo bk qs)
  unfolding prepare_transfer_of
  transfer_kept b route bo bk qs = let t : Table = s.tables b in let es : List Entry = map (entry_for t) qs in
      checked (ltb b s.table_count) _ tt λ l.
      checked (is_active t.life) _ tt λ e1.
      checked (ltb 0 (length qs)) _ tt λ e2.
      checked (at_most (length qs) max_batch) _ tt λ e3.
      checked (free_row s) _ tt λ e4.
      checked (id_left s) _ tt λ e5.
      after_id (items_fault s t route bo bk [] 0 qs) (λ n e. tt) λ e6.
      after_id (copies_fault s.objects 0 es) (λ n e. tt) λ e7.
      let m : b < s.table_count = ltb-true b s.table_count l in
      let f : ℕ → Slot = λ g. transfer_reserved g s.book.next in
      accepts (table_kept z s w b (keep_all z f (moved_of es) t) m (keep_all_alike z f (moved_of es) t)
      (order_is z (keep_all z f (moved_of es) t) t.free (keep_all z f (moved_of es) t).free (sym (keep_all_free z f (moved_of es) t))
      (keep_all_sound z sane f (λ g. refl) (λ g. refl) (moved_of es) t t.free (sound_at z s w b m)
      (λ j k. rw (taken t.slots es j (items_stand s t route bo bk [] 0 qs e6) k).stood)))
      (change_all raise (copies_of es) s.objects) (change_all_rest raise s.object_count (copies_of es) s.objects
      (copies_range s es (items_range s t route bo bk (w.ranges.tables b m).slots [] 0 qs e6)) w.at_rest.objects) _ _ (opened z s w _ refl tt))

  -- a claim's and a reservation's rows go
  both_ended : (u : State) (v : Kept z s u) (i j : ℕ) (x y : Body) → u.book ≡ s.book → find i s.book.rows ≡ some x → find j s.book.rows ≡ some y
      → frames_in x ≡ [] → frames_in y ≡ [] → Plans z u v.storage (drop_id j (drop_id i u.book.rows))
  both_ended u v i j x y same e q c d =
      let back : (k : ℕ) (a : Body) → find k s.book.rows ≡ some a → frames_in a ≡ [] → Frameless k u.book.rows = λ k a f g. rw same (bare_row z s w k a f g) in
      plans_drop z u v.storage (drop_id i u.book.rows) (plans_drop z u v.storage u.book.rows (plans_same z u v.storage) i (back i x e c)) j
      (all_drop (λ r. eqb r.id j ≡ true → frames_in r.body ≡ []) i u.book.rows (back j y q d))

  direct_commit_kept : (i j : ℕ) → KeptD z s (direct_commit_of z s i j)
  unfolding direct_commit_of
  direct_commit_kept i j = with_claim (find i s.book.rows) tt λ b es e.
      with_reservation (find j s.book.rows) tt λ d ks q.
      checked (eqb (length es) (length ks)) _ tt λ n.
      let t : Table = s.tables b in
      let l : b < s.table_count = (found_range s w i (claim b es) e).0 in
      let m : d < s.table_count = (found_range s w j (reservation d ks) q).0 in
      let u : State = with_table s b (vacate_all z (moved_of es) t) in
      let v : Kept z s u = table_kept z s w b (vacate_all z (moved_of es) t) l (vacate_all_alike z (moved_of es) t)
      (vacate_all_good z sane t (moved_of es) (sound_at z s w b l) (claim_owns z s w i b es e).once (claim_owns z s w i b es e).busy) s.objects
      w.at_rest.objects _ _ (unchanged z s w) in
      accepts (again_kept z s w u v.storage v.counts d (fill_all z ks (map sent_of es) (u.tables d)) m
      (fill_all_alike z ks (map sent_of es) (u.tables d))
      (fill_all_good z sane (u.tables d) ks (map sent_of es) (sound_of z u v.storage d m) (busy_still z s w i j b d es ks e q)) _ _ (both_ended u v i j (claim b es) (reservation d ks) refl e q refl refl))

  direct_rollback_kept : (i j : ℕ) → KeptD z s (direct_rollback_of z s i j)
  unfolding direct_rollback_of
  direct_rollback_kept i j = with_claim (find i s.book.rows) tt λ b es e.
      with_reservation (find j s.book.rows) tt λ d ks q.
      checked (eqb (length es) (length ks)) _ tt λ n.
      let t : Table = s.tables b in
      let l : b < s.table_count = (found_range s w i (claim b es) e).0 in
      let m : d < s.table_count = (found_range s w j (reservation d ks) q).0 in
      let u : State = release (with_table s b (restore_all z es t)) (copies_of es) in
      let v : Kept z s u = table_kept z s w b (restore_all z es t) l (restore_all_alike z es t)
      (restore_all_good z sane t es (sound_at z s w b l) (claim_owns z s w i b es e).busy) (change_all lower (copies_of es) s.objects)
      (copies_rest z s w i b es e) _ _ (unchanged z s w) in
      let marked : (k : ℕ) → 0 < occurs k ks → is_busy ((u.tables d).slots k) ≡ true = λ k c. bool (eqb d b)
      (λ y. let x : d ≡ b = eqb-true d b y in
      rw (y, restore_all_is z es t) (fill_all_busy z (moved_of es) (moved_handles es) t k (rw x at ((reservation_owns z s w j d ks q).busy k c))))
      (λ y. rw y ((reservation_owns z s w j d ks q).busy k c)) in
      accepts (again_kept z s w u v.storage v.counts d (vacate_all z ks (u.tables d)) m (vacate_all_alike z ks (u.tables d))
      (vacate_all_good z sane (u.tables d) ks (sound_of z u v.storage d m) (reservation_owns z s w j d ks q).once marked) _ _ (both_ended u v i j (claim b es) (reservation d ks) refl e q refl refl))

  -- a table grows by the pages of its snapshot in frames of its own, its first free slots are marked; the rows and the free frames are others
  grown_kept : (b n i : ℕ) (ps gs fs : List ℕ) (rs : List Row) (m : ℕ) → b < s.table_count → pages_for z (s.tables b) n ≡ some ps → length ps ≤ length gs
      → ((f : ℕ) → occurs f (take (length ps) gs) + plans_with rs f + occurs f fs ≡ plans_with s.book.rows f + occurs f s.frames) → Rising fs → All (PlanRow z s) rs
      → StorageClauses z (with_book (with_frames (with_table s b (take_free z n (λ g. reserved g i) (grow z ps gs (s.tables b)))) fs) (record { rows = rs; capacity = s.book.capacity; next = m }))
  grown_kept b n i ps gs fs rs m l e fit same rise plans =
      let t : Table = s.tables b in
      let f : ℕ → Slot = λ g. reserved g i in
      let u : Table = grow z ps gs t in
      let v : Table = take_free z n f u in
      let g : Grows z t ps = pages_grow z sane t t.free (sound_at z s w b l) n ps e in
      let q = grow_grown z ps gs t in
      let a = take_free_alike z n f u in
      turned z s (storage_of z s w) b v fs rs m l (record {
        sound = take_free_sound z sane f (λ x. refl) (λ x. refl) n u (grow_sound z sane ps gs t (sound_at z s w b l) g);
        limit = a.limit ∙ q.limit;
        mask = a.mask ∙ q.mask;
        life = rw (a.life ∙ q.life) (w.ranges.tables b l).life;
        frames = λ x. omega (arith, owned_alike z u v a x, grow_owned z ps gs t fit g x, same x);
        rising = rise;
        plans = plans;
      })

  reserve_kept : (b n : ℕ) → KeptD z s (reserve_of z s b n)
  unfolding reserve_of
  reserve_kept b n = with_room_law z s b n tt tt tt tt tt tt tt λ r o.
      let ps : List ℕ = r.pages in
      let k = opened z s w (row s.book.next (reservation b (take n (grow z ps s.frames (s.tables b)).free))) refl tt in
      accepts (record {
        storage = grown_kept b n s.book.next ps s.frames (drop (length ps) s.frames) _ _ o.there (snapshot_pages z (s.tables b) n r o.snapshot).0
            (at_most_law (length ps) (length s.frames) o.frames) (λ f. omega (arith, occurs_split f (length ps) s.frames, k.held f))
            (rising_drop (length ps) s.frames w.frames.rising) k.range;
        counts = (still z s w).counts;
      })

  -- a plan takes the lowest free frames
  plan_kept : (b n : ℕ) → KeptD z s (make_plan_of z s b n)
  unfolding make_plan_of
  plan_kept b n = with_room_law z s b n tt tt tt tt tt tt tt λ r o.
      let m : ℕ = length r.pages in
      let x : Body = plan b n r (take m s.frames) in
      accepts (record {
        storage = held_others z s (storage_of z s w) s.objects w.at_rest.objects (drop m s.frames) (rising_drop m s.frames w.frames.rising)
            (s.book.rows ++ (row s.book.next x ∷ [])) (s.book.next + 1)
            (λ f. omega (arith, over_add (λ y. occurs f (frames_in y)) s.book.rows (row s.book.next x), occurs_split f m s.frames))
            (all_append (PlanRow z s) s.book.rows (row s.book.next x ∷ []) (unchanged z s w).range (planned_range z sane s w b n r o, tt));
        counts = (still z s w).counts;
      })

  -- it gives them to the pages of a reservation, or back
  use_kept : (i : ℕ) → KeptD z s (use_plan_of z s i)
  unfolding use_plan_of
  use_kept i = with_plan (find i s.book.rows) tt λ b n r fs e.
      checked (is_active (s.tables b).life) _ tt λ e1.
      checked (not (is_stale z (s.tables b) n r)) _ tt λ e2.
      checked (id_left s) _ tt λ e3.
      let p : PlanRange z s b n r fs = found_range s w i (plan b n r fs) e in
      let m : List ℕ = take n (grow z r.pages fs (s.tables b)).free in
      let rs : List Row = drop_id i s.book.rows ++ (row s.book.next (reservation b m) ∷ []) in
      let all : take (length r.pages) fs ≡ fs = ap (λ k. take k fs) (sym p.held) ∙ take_all fs in
      accepts (record {
        storage = grown_kept b n s.book.next r.pages fs s.frames rs _ p.table (fresh_pages z (s.tables b) n r e2) (omega (arith, p.held))
            (λ f. rw all (omega (
              arith,
              over_add (λ y. occurs f (frames_in y)) (drop_id i s.book.rows) (row s.book.next (reservation b m)),
              over_drop (λ y. occurs f (frames_in y)) i (plan b n r fs) 1 s.book.next s.book.rows w.ids.rise e,
            )))
            w.frames.rising (all_append (PlanRow z s) (drop_id i s.book.rows) (row s.book.next (reservation b m) ∷ [])
            (all_drop (PlanRow z s) i s.book.rows (unchanged z s w).range) (tt, tt));
        counts = (still z s w).counts;
      })

  drop_kept : (i : ℕ) → KeptD z s (drop_plan_of z s i)
  unfolding drop_plan_of
  drop_kept i = with_plan (find i s.book.rows) tt λ b n r fs e.
      let d : (f : ℕ) → plans_with (drop_id i s.book.rows) f + occurs f fs ≡ plans_with s.book.rows f = λ f.
      over_drop (λ y. occurs f (frames_in y)) i (plan b n r fs) 1 s.book.next s.book.rows w.ids.rise e in
      accepts (record {
        storage = held_others z s (storage_of z s w) s.objects w.at_rest.objects (insert_all fs s.frames)
            (rising_inserted fs s.frames (λ f. omega (arith, w.frames.once f, d f, bit_small (ltb f s.frame_count))) w.frames.rising)
            (drop_id i s.book.rows) s.book.next
            (λ f. omega (arith, d f, occurs_inserted fs s.frames f)) (all_drop (PlanRow z s) i s.book.rows (unchanged z s w).range);
        counts = (still z s w).counts;
      })

  decided : (r : Request) → KeptD z s (decide z s r)
  unfolding decide
  decided (new_object o r f) = new_object_law z sane s w o r f
  decided (duplicate b v r) = duplicate_kept z sane s w b v r
  decided (release_parcel i) = release_kept z sane s w i
  decided (retire_object o) = retire_kept z sane s w o
  decided (reserve b n) = reserve_kept b n
  decided (trim i n) = trim_kept i n
  decided (abort i) = abort_kept i
  decided (publish i is) = publish_kept i is
  decided (get_info b v) = read_kept z sane s w b v
  decided (resolve b v r kind) = resolve_kept z sane s w b v r kind
  decided (replace b v r) = replace_kept z sane s w b v r
  decided (close b v) = close_kept z sane s w b v
  decided (scan_handles b k) = scan_kept z sane s w b k
  decided (prepare_transfer b route bo bk qs) = transfer_kept b route bo bk qs
  decided (prepare_consumption b v r kind koid) = consume_kept b v r kind koid
  decided (rollback i) = rollback_kept i
  decided (commit i) = commit_kept i
  decided (direct_commit i j) = direct_commit_kept i j
  decided (direct_rollback i j) = direct_rollback_kept i j
  decided (remove_stopping_owner b k) = remove_kept z sane s w b k
  decided (teardown_start b) = start_kept z sane s w b
  decided (teardown_step b) = step_kept z sane s w b
  decided (teardown_finish b) = finish_kept z sane s w b
  decided (take_empty_page b) = take_kept z sane s w b
  decided (make_plan b n) = plan_kept b n
  decided (use_plan i) = use_kept i
  decided (drop_plan i) = drop_kept i
  decided (judge_transfer b route o k qs) = judge_kept b route o k qs

  request_kept : (r : Request) → Kept z s (step z s r).0
  unfolding step
  request_kept r = carried (Kept z s) z s (decide z s r) (still z s w) (λ n q. spent z s w) (λ u a k. k) (decided r)

-- the storage clauses hold after every request
pub storage_kept : (z : Sizes) → Sane z → (s : State) → WellFormed z s → (r : Request) → StorageClauses z (step z s r).0
storage_kept z sane s w r = (request_kept z sane s w r).storage
