-- Every request keeps the clauses of the book and the counts.
use Rattle.std.specs.Prelude.{◌≡◌, true, not, length, take, drop, ltb, eqb}
use Rattle.std.proofs.Math.Path.{refl}
use Rattle.std.proofs.Common.{subst, arith}
use mathlib.Core.List.{List, [], ◌∷◌, ◌++◌, map}
use Rattle.std.proofs.Math.Option.{Option, some}
use Prim.Native.Nat.{ℕ, ◌+◌, ◌≤◌, ◌<◌}
use Rattle.std.proofs.Math.ListN.{length-map}
use borrow.Author.Tests.{ltb-true, lt-ltb, eqb-true}
use Rattle.authority.specs.Rights.{contains}
use Rattle.codec.specs.Codec.{generation_in}
use Rattle.model.specs.Base.{bit, occurs, at_most, insert_all}
use Rattle.model.specs.State.{Sizes, Slot.reserved, Slot.occupied, Table, Entry, Entry.moved, Body.reservation, Body.plan, State, is_vacant, is_active, max_batch}
use Rattle.model.specs.Storage.{take_free, pages_for, is_stale, grow}
use Rattle.model.specs.Request.{Route, Item, Request, Request.new_object, Request.duplicate, Request.release_parcel, Request.retire_object}
use Rattle.model.specs.Request.{Request.reserve, Request.trim, Request.abort, Request.publish, Request.get_info, Request.resolve, Request.replace}
use Rattle.model.specs.Request.{Request.close, Request.scan_handles, Request.prepare_transfer, Request.prepare_consumption, Request.rollback}
use Rattle.model.specs.Request.{Request.commit, Request.direct_commit, Request.direct_rollback, Request.remove_stopping_owner, Request.teardown_start}
use Rattle.model.specs.Request.{Request.teardown_step, Request.teardown_finish, Request.take_empty_page, Request.make_plan, Request.use_plan, Request.drop_plan, Request.judge_transfer}
use Rattle.model.specs.Change.{with_table, with_frames}
use Rattle.model.specs.Book.{add_row, drop_row, drop_id, free_row, id_left, find}
use Rattle.model.specs.Decision.{handles_of, distinct}
use Rattle.model.specs.Lookup.{lookup}
use Rattle.model.specs.Transfer.{items_fault, copies_fault, entry_for}
use Rattle.model.specs.Step.{reserve_of, trim_of, abort_of, publish_of, prepare_transfer_of, prepare_consumption_of, rollback_of, commit_of, direct_commit_of}
use Rattle.model.specs.Step.{direct_rollback_of, make_plan_of, use_plan_of, drop_plan_of, judge_transfer_of, decide, step}
use Rattle.model.specs.WellFormed.{HandleRange, PlanRange, WellFormed}
use Rattle.model.proofs.Tests.{clash, same, bit_small, put_same, at_most_law, put_put}
use Rattle.model.proofs.Decided.{accepts, checked, with_some, with_view, after_id, with_reservation, with_claim, with_plan, with_room_law, carried}
use Rattle.invariant.proofs.Pointwise.{grow_grown}
use Rattle.invariant.proofs.BookLemmas.{row, found_range, length_dropped}
use Rattle.invariant.proofs.CountLemmas.{of_same}
use Rattle.invariant.proofs.Items.{items_range, items_stand, items_count, items_once, stands_at}
use Rattle.invariant.proofs.Pages.{Sane}
use Rattle.invariant.proofs.Orders.{Sound}
use Rattle.invariant.proofs.Frames.{Grows, pages_grow, reserve_length, grow_sound}
use Rattle.invariant.proofs.StorageDecisions.{sound_at, held_range}
use Rattle.invariant.proofs.Rows.{BookClauses, Good, edit, good_clauses, active_live, good}
use Rattle.invariant.proofs.Counts.{one_batch, new_plan, end_plan, spend_id_law, slot_counted, calm_step}
use Rattle.invariant.proofs.RowsClosed.{abort_good, trim_good, commit_good, rollback_good, publish_good, direct_commit_good}
use Rattle.invariant.proofs.RowsClosed.{direct_rollback_good}
use Rattle.invariant.proofs.RowsOpened.{reserve_good, claim_good}
use Rattle.invariant.proofs.Growth.{grow_calm}
use Rattle.invariant.proofs.Snapshots.{snapshot_pages, fresh_pages}
use Rattle.invariant.proofs.BookHandles.{Keeps, new_object_law, duplicate_kept, release_kept, retire_kept, info_kept, resolve_kept, scan_kept}
use Rattle.invariant.proofs.BookHandles.{close_kept, replace_kept, remove_kept, start_kept, step_kept, finish_kept, take_kept}

-- slots of a changed table are taken
taken_after : (z : Sizes) (s : State) (b n : ℕ) (u : Table) (fs : List ℕ) → Good (with_frames (with_table s b u) fs) → b < s.table_count
    → is_active u.life ≡ true → 0 < n
    → n ≤ max_batch → free_row s ≡ true → id_left s ≡ true → length (take n u.free) ≡ n → ((k : ℕ) → occurs k u.free ≡ bit (is_vacant (u.slots k)))
    → Good (add_row (reservation b (take n u.free)) (with_frames (with_table s b (take_free z n (λ x. reserved x s.book.next) u)) fs))
taken_after z s b n u fs g l a p q fr id len order =
    let i : ℕ = s.book.next in
    let v : State = with_frames (with_table s b u) fs in
    let f : Table → Table = take_free z n (λ x. reserved x i) in
    let r : Good (add_row (reservation b (take n (v.tables b).free)) (with_table v b (f (v.tables b)))) =
    reserve_good z v g b n l (rw (same b) a) p q fr id (rw (same b) len) (λ k. rw (same b) (order k)) in
    let r' : Good (add_row (reservation b (take n u.free)) (with_table v b (f u))) =
    subst (λ y. Good (add_row (reservation b (take n y.free)) (with_table v b (f y)))) (put_same s.tables b u) r in
    subst (λ ts. Good (edit s ts s.objects (s.book.rows ++ (row i (reservation b (take n u.free)) ∷ [])) (i + 1) fs))
    (put_put s.tables b (f u) u) r'

-- a table grows in frames of its own, then its first free slots are taken
reserved_in : (z : Sizes) → Sane z → (v : State) → Good v → (b n : ℕ) (ps gs fs : List ℕ) → b < v.table_count → Sound z (v.tables b) (v.tables b).free
    → is_active (v.tables b).life ≡ true → 0 < n → n ≤ max_batch → free_row v ≡ true → id_left v ≡ true → pages_for z (v.tables b) n ≡ some ps → length ps ≤ length gs
    → let u : Table = grow z ps gs (v.tables b) in Good (add_row (reservation b (take n u.free)) (with_frames (with_table v b (take_free z n (λ x. reserved x v.book.next) u)) fs))
reserved_in z sane v g b n ps gs fs l o a p q fr id e m =
    let t : Table = v.tables b in
    let u : Table = grow z ps gs t in
    let gr : Grows z t ps = pages_grow z sane t t.free o n ps e in
    let f : is_active u.life ≡ true = rw (grow_grown z ps gs t).life a in
    taken_after z v b n u fs (calm_step v g b u l (grow_calm z sane t o ps gs gr) (λ k y. clash y (active_live u.life f)) (λ y. clash f y) fs)
    l f p q fr id (reserve_length z sane t t.free o n q ps gs e m) (grow_sound z sane ps gs t o gr).free

module _ (z : Sizes) (sane : Sane z) (s : State) (w : WellFormed z s) where
  g : Good s
  g = good z s w

  trim_kept : (i n : ℕ) → Keeps s (trim_of z s i n)
  unfolding trim_of
  trim_kept i n = with_reservation (find i s.book.rows) tt λ b ks e.
      checked (ltb 0 n) _ tt λ e₁.
      checked (at_most n (length ks)) _ tt λ e₂.
      accepts (trim_good z s g i b n ks e (ltb-true 0 n e₁) (at_most_law n (length ks) e₂))

  abort_kept : (i : ℕ) → Keeps s (abort_of z s i)
  unfolding abort_of
  abort_kept i = with_reservation (find i s.book.rows) tt λ b ks e.
      accepts (abort_good z s g i b ks e)

  publish_kept : (i : ℕ) (is : List ℕ) → Keeps s (publish_of z s i is)
  unfolding publish_of
  publish_kept i is = with_reservation (find i s.book.rows) tt λ b ks e.
      with_some (handles_of is s.book.rows) _ tt λ hs f.
      checked (distinct is) _ tt λ d.
      checked (eqb (length hs) (length ks)) _ tt λ l.
      accepts (publish_good z s g i b ks is hs e f d (eqb-true (length hs) (length ks) l))

  rollback_kept : (i : ℕ) → Keeps s (rollback_of z s i)
  unfolding rollback_of
  rollback_kept i = with_claim (find i s.book.rows) tt λ b es e.
      accepts (rollback_good z s g i b es e)

  commit_kept : (i : ℕ) → Keeps s (commit_of z s i)
  unfolding commit_of
  commit_kept i = with_claim (find i s.book.rows) tt λ b es e.
      accepts (commit_good z s g i b es e)

  direct_commit_kept : (i j : ℕ) → Keeps s (direct_commit_of z s i j)
  unfolding direct_commit_of
  direct_commit_kept i j = with_claim (find i s.book.rows) tt λ b es e.
      with_reservation (find j s.book.rows) tt λ c ks f.
      checked (eqb (length es) (length ks)) _ tt λ l.
      accepts (direct_commit_good z s g i j b c es ks e f (eqb-true (length es) (length ks) l))

  direct_rollback_kept : (i j : ℕ) → Keeps s (direct_rollback_of z s i j)
  unfolding direct_rollback_of
  direct_rollback_kept i j = with_claim (find i s.book.rows) tt λ b es e.
      with_reservation (find j s.book.rows) tt λ c ks f.
      checked (eqb (length es) (length ks)) _ tt λ l.
      accepts (direct_rollback_good z s g i j b c es ks e f)

  reserve_kept : (b n : ℕ) → Keeps s (reserve_of z s b n)
  unfolding reserve_of
  reserve_kept b n = with_room_law z s b n tt tt tt tt tt tt tt λ r o.
      accepts (reserved_in z sane s g b n r.pages s.frames (drop (length r.pages) s.frames) o.there (sound_at z s w b o.there) o.live
      (ltb-true 0 n o.some) (at_most_law n max_batch o.few) o.row o.id (snapshot_pages z (s.tables b) n r o.snapshot).0
      (at_most_law (length r.pages) (length s.frames) o.frames))

  plan_kept : (b n : ℕ) → Keeps s (make_plan_of z s b n)
  unfolding make_plan_of
  plan_kept b n = with_room_law z s b n tt tt tt tt tt tt tt λ r o.
      accepts (new_plan s g b n r (take (length r.pages) s.frames) (drop (length r.pages) s.frames) o.row o.id)

  use_kept : (i : ℕ) → Keeps s (use_plan_of z s i)
  unfolding use_plan_of
  use_kept i = with_plan (find i s.book.rows) tt λ b n r fs e.
      checked (is_active (s.tables b).life) _ tt λ a.
      checked (not (is_stale z (s.tables b) n r)) _ tt λ f.
      checked (id_left s) _ tt λ id.
      let p : PlanRange z s b n r fs = found_range s w i (plan b n r fs) e in
      accepts (reserved_in z sane (drop_row i s) (end_plan s g i b n r fs s.frames e) b n r.pages fs s.frames p.table (sound_at z s w b p.table) a
      p.count.0 p.count.1 (lt-ltb (length (drop_id i s.book.rows)) s.book.capacity (omega (arith, length_dropped i (plan b n r fs) s.book.rows e, w.ranges.row_count)))
      id (fresh_pages z (s.tables b) n r f) (omega (arith, p.held)))

  drop_kept : (i : ℕ) → Keeps s (drop_plan_of z s i)
  unfolding drop_plan_of
  drop_kept i = with_plan (find i s.book.rows) tt λ b n r fs e.
      accepts (end_plan s g i b n r fs (insert_all fs s.frames) e)

  transfer_kept : (b : ℕ) (route : Route) (bo bk : Option ℕ) (qs : List Item) → Keeps s (prepare_transfer_of z s b route bo bk qs)
  unfolding prepare_transfer_of
  transfer_kept b route bo bk qs = let t : Table = s.tables b in let es : List Entry = map (entry_for t) qs in
      checked (ltb b s.table_count) _ tt λ l.
      checked (is_active t.life) _ tt λ a.
      checked (ltb 0 (length qs)) _ tt λ e₁.
      checked (at_most (length qs) max_batch) _ tt λ e₂.
      checked (free_row s) _ tt λ fr.
      checked (id_left s) _ tt λ id.
      after_id (items_fault s t route bo bk [] 0 qs) (λ n q. id) λ e.
      after_id (copies_fault s.objects 0 es) (λ n q. id) λ c.
      let m : b < s.table_count = ltb-true b s.table_count l in
      accepts (claim_good z s g b es m a fr id (
        omega (arith, length-map qs (entry_for t), ltb-true 0 (length qs) e₁),
        omega (arith, length-map qs (entry_for t), at_most_law (length qs) max_batch e₂),
      )
      (items_range s t route bo bk (g.slots b) [] 0 qs e) (items_stand s t route bo bk [] 0 qs e) (items_once s t route bo bk [] 0 qs e) c
      (λ o p. items_count s t route bo bk o (1 ≤ (s.objects o).count) (λ k n h st y. omega (arith, slot_counted s g b k n h m st o p, of_same o h y))
      [] 0 qs e))

  judge_kept : (b : ℕ) (route : Route) (bo bk : Option ℕ) (qs : List Item) → Keeps s (judge_transfer_of z s b route bo bk qs)
  unfolding judge_transfer_of
  judge_kept b route bo bk qs = checked (ltb b s.table_count) _ tt λ l. accepts g

  consume_kept : (b v r kind koid : ℕ) → Keeps s (prepare_consumption_of z s b v r kind koid)
  unfolding prepare_consumption_of
  consume_kept b v r kind koid = let t : Table = s.tables b in
      checked (ltb b s.table_count) _ tt λ l.
      checked (is_active t.life) _ tt λ a.
      checked (free_row s) _ tt λ fr.
      with_view (lookup t v) tt tt λ k h e.
      checked (contains h.rights r) _ tt λ e₁.
      checked (eqb (s.objects h.object).kind kind) _ tt λ e₂.
      checked (eqb (s.objects h.object).koid koid) _ tt λ e₃.
      checked (id_left s) _ tt λ id.
      let m : b < s.table_count = ltb-true b s.table_count l in
      let x : ℕ = generation_in t.mask v in
      let st : t.slots k ≡ occupied x h = stands_at t v k h e in
      let hr : HandleRange s h = held_range z s w b k x h m st in
      accepts (claim_good z s g b (moved k h h.rights ∷ []) m a fr id (one_batch (moved k h h.rights))
      ((hr, hr.rights), tt)
      ((x, st), tt) (λ j. omega (arith, bit_small (eqb j k))) refl (λ o p y. absurd (omega arith)))

  decided : (r : Request) → Keeps s (decide z s r)
  unfolding decide
  decided (new_object o r f) = new_object_law z sane s w o r f
  decided (duplicate b v r) = duplicate_kept z sane s w b v r
  decided (release_parcel i) = release_kept z sane s w i
  decided (retire_object o) = retire_kept z sane s w o
  decided (reserve b n) = reserve_kept b n
  decided (trim i n) = trim_kept i n
  decided (abort i) = abort_kept i
  decided (publish i is) = publish_kept i is
  decided (get_info b v) = info_kept z sane s w b v
  decided (resolve b v r kind) = resolve_kept z sane s w b v r kind
  decided (replace b v r) = replace_kept z sane s w b v r
  decided (close b v) = close_kept z sane s w b v
  decided (scan_handles b c) = scan_kept z sane s w b c
  decided (prepare_transfer b route bo bk qs) = transfer_kept b route bo bk qs
  decided (prepare_consumption b v r kind koid) = consume_kept b v r kind koid
  decided (rollback i) = rollback_kept i
  decided (commit i) = commit_kept i
  decided (direct_commit i j) = direct_commit_kept i j
  decided (direct_rollback i j) = direct_rollback_kept i j
  decided (remove_stopping_owner b c) = remove_kept z sane s w b c
  decided (teardown_start b) = start_kept z sane s w b
  decided (teardown_step b) = step_kept z sane s w b
  decided (teardown_finish b) = finish_kept z sane s w b
  decided (take_empty_page b) = take_kept z sane s w b
  decided (make_plan b n) = plan_kept b n
  decided (use_plan i) = use_kept i
  decided (drop_plan i) = drop_kept i
  decided (judge_transfer b route o k qs) = judge_kept b route o k qs

  requested : (r : Request) → Good (step z s r).0
  unfolding step
  requested r = carried Good z s (decide z s r) g (λ n q. spend_id_law s g q) (λ u a k. k) (decided r)

pub book_kept : (z : Sizes) → Sane z → (s : State) → WellFormed z s → (r : Request) → BookClauses (step z s r).0
book_kept z sane s w r = good_clauses (step z s r).0 (requested z sane s w r)
