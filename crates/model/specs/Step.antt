-- What each request does: its checks in the order that document 01 prints under "Orders", with their numbers; its effect; its answer.
--
-- Letters: s a state, b a table's number and t the table, o an object's number and x the object, v a handle value, k the number of its slot, h its handle, g a
-- generation, r rights, f flags, n a count, i and j ids (i of the row that a request names first), c a cursor or the number of a second table, ks slots, es a
-- claim's entries, hs handles, is ids, ps pages, fs frames, w a kept snapshot, qs a transfer's items. The words between (`table .. of`, `unless .. refuse`, `leave .. answer`) are defined in
-- Decision.antt, Lookup.antt and Effect.antt.
use Rattle.std.specs.Prelude.{List, [], ◌∷◌, map, ℕ, ◌+◌, ◌-◌, min, length, take, drop, eqb, ltb}
use Rattle.std.proofs.Math.Option.{Option, none, some}
use Rattle.authority.specs.Rights.{contains, duplicate_right}
use Rattle.codec.specs.Codec.{encode, next_generation}
use Rattle.model.specs.Base.{pick, is_some, at_most, insert, insert_all}
use Rattle.model.specs.State.{Sizes, Handle, Slot.reserved, Slot.transfer_reserved, Slot.occupied, Lifecycle.tearing_down, Lifecycle.retired, Table, Entry, Entry.moved, Entry.copied, Body.reservation, Body.claim, Body.parcel, Body.plan, StorageSnapshot, State}
use Rattle.model.specs.State.{generation, is_active, max_batch, known_flags}
use Rattle.model.specs.Storage.{place, keep, keep_all, vacate, vacate_all, take_free, snapshot_for, is_stale, grow, detach, length_of, first_occupied, Walk, walk}
use Rattle.model.specs.Request.{Route, Item, SnapshotPage}
use Rattle.model.specs.Request.{Answer, Answer.refused, Answer.done, Answer.opened, Answer.batch, Answer.info_of, Answer.resolved, Answer.renewed, Answer.scanned, Answer.removed, Answer.closed, Answer.taken, Answer.planned, Answer.judged}
use Rattle.model.specs.Request.{Request, Request.new_object, Request.duplicate, Request.release_parcel, Request.retire_object, Request.reserve, Request.trim, Request.abort, Request.publish, Request.get_info, Request.resolve, Request.replace, Request.close, Request.scan_handles, Request.prepare_transfer, Request.prepare_consumption, Request.rollback, Request.commit, Request.direct_commit, Request.direct_rollback, Request.remove_stopping_owner, Request.teardown_start, Request.teardown_step, Request.teardown_finish, Request.take_empty_page, Request.make_plan, Request.use_plan, Request.drop_plan, Request.judge_transfer}
use Rattle.model.specs.Change.{with_life}
use Rattle.model.specs.Objects.{is_now_active, is_now_retired, limit_reached, activated, raise, retired_by_owner, info_for, with_rights}
use Rattle.model.specs.Book.{spend_id, free_row, id_left, any_open, moved_of, copies_of, sent_of}
use Rattle.model.specs.Effect.{◌setting_table◌to◌, ◌setting_frames◌, ◌changing◌by◌, ◌raising◌, ◌releasing◌, ◌opening◌, ◌ending◌, ◌ending_all◌, ◌turning◌into◌}
use Rattle.model.specs.Decision.{Decision, Decision.refusal, Decision.refusal_after_id, Decision.accept, leave◌answer◌, unless◌leaving◌answering◌then◌, unless◌refuse◌then◌, when◌refuse◌then◌, given◌refuse◌then◌, table◌of◌refuse◌then◌, object◌of◌refuse◌then◌}
use Rattle.model.specs.Decision.{reservation_row◌of◌refuse◌then◌, claim_row◌of◌refuse◌then◌, parcel_row◌of◌refuse◌then◌, plan_row◌of◌refuse◌then◌, refuse_after_id◌then◌, teardown_cursor◌refuse◌then◌, handles_of, distinct}
use Rattle.model.specs.Lookup.{handle◌of◌refuse◌or_busy◌then◌, look_at, value_at, handle_or, snapshot_at}
use Rattle.model.specs.Transfer.{all◌then◌, batch_checks, items_fault, copies_fault, transfer_fault, entry_for}

module _ (z : Sizes) where
  -- handles into slots, in order
  abbrev pub fill_all : List ℕ → List Handle → Table → Table
  fill_all [] hs t = t
  fill_all (k ∷ ks) [] t = t
  fill_all (k ∷ ks) (h ∷ hs) t = fill_all ks hs (keep z (λ g. occupied g h) t k)

  -- moved handles back in their slots, as they were
  abbrev pub restore_all : List Entry → Table → Table
  restore_all [] t = t
  restore_all (moved k h r ∷ es) t = restore_all es (keep z (λ g. occupied g h) t k)
  restore_all (copied h ∷ es) t = restore_all es t

  -- "New object: 1, 6, 7, activation, 12". "Activation refuses 6 not exportable, 9 retired, 10 active, 11 limit reached, in that order"
  unfoldable pub new_object_of : State → (object_number rights flags : ℕ) → Decision
  new_object_of s o r f =
      object o of s refuse 18 then λ x.
      unless free_row s refuse 1 then
      unless contains x.supported r refuse 6 then
      unless contains known_flags f refuse 7 then
      unless x.exportable refuse 6 then
      when is_now_retired x.stage refuse 9 then
      when is_now_active x.stage refuse 10 then
      when limit_reached x refuse 11 then
      unless id_left s refuse 12 then
      leave s
      changing o by activated
      opening parcel (record { object = o; rights = r; flags = f } ∷ [])
      answer opened s.book.next

  -- "Duplicate: 16, 1, 2 or 3, 5, 9, 11, 12"
  unfoldable pub duplicate_of : State → (table_number value rights : ℕ) → Decision
  duplicate_of s b v r =
      table b of s refuse 18 then λ t.
      unless is_active t.life refuse 16 then
      unless free_row s refuse 1 then
      handle v of t refuse 2 or_busy 3 then λ k h.
      unless contains h.rights duplicate_right refuse 5 then
      unless contains h.rights r refuse 5 then
      when is_now_retired (s.objects h.object).stage refuse 9 then
      when limit_reached (s.objects h.object) refuse 11 then
      unless id_left s refuse 12 then
      leave s
      changing h.object by raise
      opening parcel (with_rights h r ∷ [])
      answer opened s.book.next

  -- "A parcel can be released, its counts with it"
  unfoldable pub release_parcel_of : State → (id : ℕ) → Decision
  release_parcel_of s i =
      parcel_row i of s refuse 18 then λ hs.
      leave s
      releasing hs
      ending i
      answer done

  -- "Its owner may retire it by a request accepted in any state"
  unfoldable pub retire_object_of : State → (object_number : ℕ) → Decision
  retire_object_of s o =
      object o of s refuse 18 then λ x.
      leave s
      changing o by retired_by_owner
      answer done

  -- "Reserve: 16, 17, 13, 15, 1, 12": the checks of a reservation of n slots, which a plan has too ("with the refusals of a reservation in its order")
  abbrev pub with_room : State → (table_number count : ℕ) → (Table → StorageSnapshot → Decision) → Decision
  with_room s b n f =
      table b of s refuse 18 then λ t.
      unless is_active t.life refuse 16 then
      unless ltb 0 n refuse 17 then
      unless at_most n max_batch refuse 13 then
      given snapshot_for z t n refuse 15 then λ w.
      unless at_most (length w.pages) (length s.frames) refuse 1 then
      unless free_row s refuse 1 then
      unless id_left s refuse 12 then
      f t w

  -- the first n slots of the free order of table b, which has grown, are Reserved under the next id
  abbrev pub reserve_in : State → (table_number count : ℕ) → Table → Decision
  reserve_in s b n grown =
      let i : ℕ = s.book.next in
      let ks : List ℕ = take n grown.free in
      leave s
      setting_table b to take_free z n (λ g. reserved g i) grown
      opening reservation b ks
      answer batch i (map (value_at grown) ks)

  -- a reservation: its pages in the lowest free frames
  unfoldable pub reserve_of : State → (table_number count : ℕ) → Decision
  reserve_of s b n = with_room s b n λ t w.
      reserve_in (s setting_frames drop (length w.pages) s.frames) b n (grow z w.pages s.frames t)

  -- document 02, 1: a plan of a reservation. "The plan takes one row and one id"; it holds the lowest free frames, as many as its snapshot has pages
  unfoldable pub make_plan_of : State → (table_number count : ℕ) → Decision
  make_plan_of s b n = with_room s b n λ t w.
      leave s
      setting_frames drop (length w.pages) s.frames
      opening plan b n w (take (length w.pages) s.frames)
      answer planned s.book.next n (length w.pages)

  -- "21 StalePlan, after TableRetired and before the id". "Using it spends a further id: the plan's row goes, and the reservation, its pages in the plan's frames
  -- lowest first, stands last in the book under the new id"
  unfoldable pub use_plan_of : State → (id : ℕ) → Decision
  use_plan_of s i =
      plan_row i of s refuse 18 then λ b n w fs.
      unless is_active (s.tables b).life refuse 16 then
      when is_stale z (s.tables b) n w refuse 21 then
      unless id_left s refuse 12 then
      reserve_in (s ending i) b n (grow z w.pages fs (s.tables b))

  -- "Dropping refuses only an unknown plan": its frames are free again
  unfoldable pub drop_plan_of : State → (id : ℕ) → Decision
  drop_plan_of s i =
      plan_row i of s refuse 18 then λ b n w fs.
      leave s
      setting_frames insert_all fs s.frames
      ending i
      answer done

  -- "trim to 0 or above the batch": 18
  unfoldable pub trim_of : State → (id count : ℕ) → Decision
  trim_of s i n =
      reservation_row i of s refuse 18 then λ b ks.
      unless ltb 0 n refuse 18 then
      unless at_most n (length ks) refuse 18 then
      leave s
      setting_table b to vacate_all z (drop n ks) (s.tables b)
      turning i into reservation b (take n ks)
      answer done

  -- a reservation ends: its slots fall vacant
  unfoldable pub abort_of : State → (id : ℕ) → Decision
  abort_of s i =
      reservation_row i of s refuse 18 then λ b ks.
      leave s
      setting_table b to vacate_all z ks (s.tables b)
      ending i
      answer done

  -- "Publish names a reservation and one or more parcels, whose handles in order fill its slots"; "row named twice; lengths differ": 18
  unfoldable pub publish_of : State → (id : ℕ) → (parcels : List ℕ) → Decision
  publish_of s i is =
      reservation_row i of s refuse 18 then λ b ks.
      given handles_of is s.book.rows refuse 18 then λ hs.
      unless distinct is refuse 18 then
      unless eqb (length hs) (length ks) refuse 18 then
      leave s
      setting_table b to fill_all ks hs (s.tables b)
      ending_all (i ∷ is)
      answer done

  -- "`get_info`, close, `replace`: 16, 2 or 3, then 5 (`replace`)". Document 02, 2: "Let `get_info` answer for the handle of a TransferReserved slot": so never 3
  unfoldable pub get_info_of : State → (table_number value : ℕ) → Decision
  get_info_of s b v =
      table b of s refuse 18 then λ t.
      unless is_active t.life refuse 16 then
      given look_at s t v refuse 2 then λ h.
      leave s answer info_of (info_for s h)

  -- "`get_info`, close, `replace`: 16, 2 or 3, then 5 (`replace`)". "Closing answers the handle's info and releases its count"
  unfoldable pub close_of : State → (table_number value : ℕ) → Decision
  close_of s b v =
      table b of s refuse 18 then λ t.
      unless is_active t.life refuse 16 then
      handle v of t refuse 2 or_busy 3 then λ k h.
      leave s
      setting_table b to vacate z t k
      releasing (h ∷ [])
      answer info_of (info_for s h)

  -- "`get_info`, close, `replace`: 16, 2 or 3, then 5 (`replace`)": the same slot, the next generation, the handle with other rights
  unfoldable pub replace_of : State → (table_number value rights : ℕ) → Decision
  replace_of s b v r =
      table b of s refuse 18 then λ t.
      unless is_active t.life refuse 16 then
      handle v of t refuse 2 or_busy 3 then λ k h.
      unless contains h.rights r refuse 5 then
      let g : ℕ = next_generation (generation (t.slots k)) in
      leave s
      setting_table b to place z t k (occupied g (with_rights h r))
      answer renewed (encode t.mask k g)

  -- "Resolve: 16, 2 or 3, 5, 4"
  unfoldable pub resolve_of : State → (table_number value rights kind : ℕ) → Decision
  resolve_of s b v r kind =
      table b of s refuse 18 then λ t.
      unless is_active t.life refuse 16 then
      handle v of t refuse 2 or_busy 3 then λ k h.
      unless contains h.rights r refuse 5 then
      unless eqb (s.objects h.object).kind kind refuse 4 then
      leave s answer resolved h.object (s.objects h.object).koid h.rights

  -- "`examined`, the number of slots looked at: the slot where the scan stopped minus where it started, the lesser of cursor and length"
  abbrev pub snapshot_page : State → Table → ℕ → SnapshotPage
  snapshot_page s t c =
      let start : ℕ = min c (length_of z t) in
      let w : Walk = walk t.slots start (min z.scan_slots (length_of z t - start)) z.scan_entries in
      record {
        entries = map (snapshot_at s t) w.found;
        next = pick (ltb w.stop (length_of z t)) (some w.stop) none;
        examined = w.stop - start;
      }

  -- 16 as in the Rust: document 01's orders leave it out
  unfoldable pub scan_handles_of : State → (table_number cursor : ℕ) → Decision
  scan_handles_of s b c =
      table b of s refuse 18 then λ t.
      unless is_active t.life refuse 16 then
      leave s answer scanned (snapshot_page s t c)

  -- "Transfer: 16, 17, 13, 1, 12; then item by item 2 (twice), 2 or 3 (lookup), 5 (rights), 8 (kind), 5 (object), 8 (route), 4; then
  -- copies 9, 11": the checks, each with its number, stand in `batch_checks`, `item_checks` and `copy_checks`
  unfoldable pub prepare_transfer_of : State → (table_number : ℕ) → Route → (forbidden_object forbidden_kind : Option ℕ) → List Item → Decision
  prepare_transfer_of s b route banned_object banned_kind qs =
      table b of s refuse 18 then λ t.
      all batch_checks s t (length qs) then
      refuse_after_id items_fault s t route banned_object banned_kind [] 0 qs then
      let i : ℕ = s.book.next in
      let es : List Entry = map (entry_for t) qs in
      refuse_after_id copies_fault s.objects 0 es then
      leave s
      setting_table b to keep_all z (λ g. transfer_reserved g i) (moved_of es) t
      raising copies_of es
      opening claim b es
      answer opened i

  -- document 02, 4: "a request that judges a transfer without preparing it": preparation's checks, of which the first that does not hold is told. "Preparation's
  -- Misuse refuses the judging itself". "The id step is judged, and no id is spent"
  unfoldable pub judge_transfer_of : State → (table_number : ℕ) → Route → (forbidden_object forbidden_kind : Option ℕ) → List Item → Decision
  judge_transfer_of s b route banned_object banned_kind qs =
      table b of s refuse 18 then λ t.
      leave s answer judged (transfer_fault s t route banned_object banned_kind qs)

  -- "Consumption: 16, 1, 2 or 3, 5, 4, 2, 12"
  unfoldable pub prepare_consumption_of : State → (table_number value rights kind koid : ℕ) → Decision
  prepare_consumption_of s b v r kind koid =
      table b of s refuse 18 then λ t.
      unless is_active t.life refuse 16 then
      unless free_row s refuse 1 then
      handle v of t refuse 2 or_busy 3 then λ k h.
      unless contains h.rights r refuse 5 then
      unless eqb (s.objects h.object).kind kind refuse 4 then
      unless eqb (s.objects h.object).koid koid refuse 2 then
      unless id_left s refuse 12 then
      let i : ℕ = s.book.next in
      leave s
      setting_table b to keep z (λ g. transfer_reserved g i) t k
      opening claim b (moved k h h.rights ∷ [])
      answer opened i

  -- a claim ends: its slots hold their handles again, its copies are released
  unfoldable pub rollback_of : State → (id : ℕ) → Decision
  rollback_of s i =
      claim_row i of s refuse 18 then λ b es.
      leave s
      setting_table b to restore_all es (s.tables b)
      releasing copies_of es
      ending i
      answer done

  -- "Commit turns a claim's row into a parcel of the same id"
  unfoldable pub commit_of : State → (id : ℕ) → Decision
  commit_of s i =
      claim_row i of s refuse 18 then λ b es.
      leave s
      setting_table b to vacate_all z (moved_of es) (s.tables b)
      turning i into parcel (map sent_of es)
      answer done

  -- a claim's handles straight into a reservation, of one table or two
  unfoldable pub direct_commit_of : State → (id destination : ℕ) → Decision
  direct_commit_of s i j =
      claim_row i of s refuse 18 then λ b es.
      reservation_row j of s refuse 18 then λ c ks.
      unless eqb (length es) (length ks) refuse 18 then
      let vacated : State = s setting_table b to vacate_all z (moved_of es) (s.tables b) in
      leave vacated
      setting_table c to fill_all ks (map sent_of es) (vacated.tables c)
      ending i
      ending j
      answer done

  -- a claim rolled back, then a reservation aborted, of one table or two
  unfoldable pub direct_rollback_of : State → (id destination : ℕ) → Decision
  direct_rollback_of s i j =
      claim_row i of s refuse 18 then λ b es.
      reservation_row j of s refuse 18 then λ c ks.
      unless eqb (length es) (length ks) refuse 18 then
      let restored : State = s setting_table b to restore_all es (s.tables b) releasing copies_of es in
      leave restored
      setting_table c to vacate_all z ks (restored.tables c)
      ending i
      ending j
      answer done

  -- the next occupied slot from a cursor on
  abbrev pub next_occupied : Table → ℕ → Option ℕ
  next_occupied t c = first_occupied t.slots c (length_of z t - c)

  -- what was found is removed: its slot falls vacant as in closing, its count is released. The cursor is left behind it, or at 0 at the end of the walk
  abbrev pub remove_at : State → ℕ → Table → Option ℕ → Decision
  remove_at s b t none = leave s answer removed none 0
  remove_at s b t (some j) =
      leave s
      setting_table b to vacate z t j
      releasing (handle_or (t.slots j) ∷ [])
      answer removed (some (snapshot_at s t j)) (j + 1)

  -- "On an inactive table `remove_stopping_owner` and `take_empty_page` answer "none", not a refusal; so do the end of a walk and a table
  -- with no empty page". "The cursor of `remove_stopping_owner` is a request field, and the answer gives it as left"
  unfoldable pub remove_stopping_owner_of : State → (table_number cursor : ℕ) → Decision
  remove_stopping_owner_of s b c =
      table b of s refuse 18 then λ t.
      unless is_active t.life leaving s answering removed none c then
      remove_at s b t (next_occupied t c)

  -- "Teardown start: 16, 14"
  unfoldable pub teardown_start_of : State → (table_number : ℕ) → Decision
  teardown_start_of s b =
      table b of s refuse 18 then λ t.
      unless is_active t.life refuse 16 then
      when any_open b s.book.rows refuse 14 then
      leave s
      setting_table b to with_life t (tearing_down 0)
      answer done

  -- the same in a teardown, whose cursor stands in the table; the end of the walk leaves it
  abbrev pub tear_at : State → ℕ → Table → Option ℕ → Decision
  tear_at s b t none = leave s answer closed none
  tear_at s b t (some k) =
      leave s
      setting_table b to with_life (vacate z t k) (tearing_down (k + 1))
      releasing (handle_or (t.slots k) ∷ [])
      answer closed (some (info_for s (handle_or (t.slots k))))

  -- "teardown step out of turn": 18
  unfoldable pub teardown_step_of : State → (table_number : ℕ) → Decision
  teardown_step_of s b =
      table b of s refuse 18 then λ t.
      teardown_cursor t.life refuse 18 then λ c.
      tear_at s b t (next_occupied t c)

  -- "finish with an occupied slot": 18, and out of turn as a step
  unfoldable pub teardown_finish_of : State → (table_number : ℕ) → Decision
  teardown_finish_of s b =
      table b of s refuse 18 then λ t.
      teardown_cursor t.life refuse 18 then λ c.
      when is_some (next_occupied t 0) refuse 18 then
      leave s
      setting_table b to with_life t retired
      answer done

  -- "A page taken by `take_empty_page` returns its frame"
  abbrev pub returned : Option ℕ → List ℕ → List ℕ
  returned none fs = fs
  returned (some f) fs = insert f fs

  -- the first page of the empty pages' order is detached
  abbrev pub take_at : State → ℕ → Table → List ℕ → Decision
  take_at s b t [] = leave s answer taken none
  take_at s b t (p ∷ ps) =
      leave s
      setting_table b to detach z t p
      setting_frames returned (t.pages p).frame s.frames
      answer taken (some p)

  -- "take_empty_page": "none" on an inactive table and on one with no empty page (quoted above)
  unfoldable pub take_empty_page_of : State → (table_number : ℕ) → Decision
  take_empty_page_of s b =
      table b of s refuse 18 then λ t.
      unless is_active t.life leaving s answering taken none then
      take_at s b t t.empty

  -- each request by its definition
  unfoldable pub decide : State → Request → Decision
  decide s (new_object o r f) = new_object_of s o r f
  decide s (duplicate b v r) = duplicate_of s b v r
  decide s (release_parcel i) = release_parcel_of s i
  decide s (retire_object o) = retire_object_of s o
  decide s (reserve b n) = reserve_of s b n
  decide s (trim i n) = trim_of s i n
  decide s (abort i) = abort_of s i
  decide s (publish i is) = publish_of s i is
  decide s (get_info b v) = get_info_of s b v
  decide s (resolve b v r kind) = resolve_of s b v r kind
  decide s (replace b v r) = replace_of s b v r
  decide s (close b v) = close_of s b v
  decide s (scan_handles b c) = scan_handles_of s b c
  decide s (prepare_transfer b route banned_object banned_kind qs) = prepare_transfer_of s b route banned_object banned_kind qs
  decide s (prepare_consumption b v r kind koid) = prepare_consumption_of s b v r kind koid
  decide s (rollback i) = rollback_of s i
  decide s (commit i) = commit_of s i
  decide s (direct_commit i j) = direct_commit_of s i j
  decide s (direct_rollback i j) = direct_rollback_of s i j
  decide s (remove_stopping_owner b c) = remove_stopping_owner_of s b c
  decide s (teardown_start b) = teardown_start_of s b
  decide s (teardown_step b) = teardown_step_of s b
  decide s (teardown_finish b) = teardown_finish_of s b
  decide s (take_empty_page b) = take_empty_page_of s b
  decide s (make_plan b n) = make_plan_of s b n
  decide s (use_plan i) = use_plan_of s i
  decide s (drop_plan i) = drop_plan_of s i
  decide s (judge_transfer b route banned_object banned_kind qs) = judge_transfer_of s b route banned_object banned_kind qs

  -- "a refused request carries a number and changes nothing, save the one reservation id spent by a transfer preparation refused after
  -- its id step"
  abbrev pub carry : State → Decision → State × Answer
  carry s (refusal n) = (s, refused n)
  carry s (refusal_after_id n) = (spend_id s, refused n)
  carry s (accept u a) = (u, a)

  -- one request
  unfoldable pub step : State → Request → State × Answer
  step s r = carry s (decide s r)

  -- "Then every request runs; a refused one does not stop the next"
  abbrev pub run : State → List Request → State × List Answer
  run s [] = (s, [])
  run s (r ∷ rs) =
      let o : State × Answer = step s r in
      let p : State × List Answer = run o.0 rs in
      (p.0, o.1 ∷ p.1)
