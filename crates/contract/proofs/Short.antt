-- An answer has at most 72 words, for any page size and any scan of at most 8 entries. Assumes nothing.
use Rattle.std.specs.Prelude.{◌≡◌, refl, not, ℕ, zero, suc, ◌-◌, ◌≤◌, min, length, take, eqb, ltb}
use Rattle.std.proofs.Common.{ap}
use mathlib.Core.List.{List, [], ◌∷◌, map}
use native.Mathlib.Omega.{arith}
use Rattle.words.specs.Pick.{bool}
use Rattle.authority.specs.Rights.{contains, duplicate_right}
use Rattle.std.proofs.Math.Option.{Option, none, some}
use Rattle.model.specs.Base.{at_most, is_some}
use Rattle.model.specs.State.{Sizes, till, Slot, Table, Body.plan, State, is_active, is_occupied, known_flags, max_batch}
use Rattle.model.specs.Storage.{is_stale, Walk, walk, length_of, grow}
use Rattle.model.specs.Objects.{is_now_active, is_now_retired}
use Rattle.model.specs.Book.{find, free_row, id_left, any_open}
use Rattle.model.specs.Transfer.{items_fault, copies_fault, transfer_fault, entry_for}
use Rattle.model.specs.Decision.{Decision, Decision.refusal, Decision.refusal_after_id, Decision.accept, as_parcel, handles_of, distinct}
use Rattle.model.specs.Lookup.{lookup, snapshot_at, value_at}
use Rattle.model.specs.Request.{Fault, Request, Answer.batch, Answer.scanned, Answer.judged, Request.new_object, Request.duplicate, Request.release_parcel, Request.retire_object, Request.reserve, Request.trim, Request.abort, Request.publish, Request.get_info, Request.resolve, Request.replace, Request.close, Request.scan_handles, Request.prepare_transfer, Request.prepare_consumption, Request.rollback, Request.commit, Request.direct_commit, Request.direct_rollback, Request.remove_stopping_owner, Request.teardown_start, Request.teardown_step, Request.teardown_finish, Request.take_empty_page, Request.make_plan, Request.use_plan, Request.drop_plan, Request.judge_transfer}
use Rattle.model.specs.Words.{used_words}
use Rattle.model.specs.Step.{decide, step, carry, new_object_of, duplicate_of, release_parcel_of, retire_object_of, reserve_of, trim_of, abort_of, publish_of, get_info_of, resolve_of, replace_of, close_of, scan_handles_of, prepare_transfer_of, prepare_consumption_of, rollback_of, commit_of, direct_commit_of, direct_rollback_of, remove_stopping_owner_of, remove_at, next_occupied, teardown_start_of, teardown_step_of, tear_at, teardown_finish_of, take_empty_page_of, take_at, make_plan_of, use_plan_of, drop_plan_of, judge_transfer_of, snapshot_page}
use Rattle.model.proofs.Decided.{Decided, Any, accepts, checked, with_some, with_view, with_handle, with_look, with_reservation, with_claim, with_plan, with_room_law, while_tearing, after_id, found_or, either_way, first_or}
use Rattle.model.proofs.Lists.{entry_words_law}
use Rattle.model.specs.WellFormed.{WellFormed}
use Rattle.model.proofs.Tests.{at_most_law}
use Rattle.invariant.proofs.BookLemmas.{found_range}
use Rattle.contract.specs.Run.{Short}

take_most {ℓ} : {A : Type ℓ} (n : ℕ) (xs : List A) → length (take n xs) ≤ n
take_most zero xs = omega arith
take_most (suc n) [] = omega arith
take_most (suc n) (x ∷ xs) = let h = take_most n xs in omega arith

map_length {ℓ κ} : {A : Type ℓ} {B : Type κ} (f : A → B) (xs : List A) → length (map f xs) ≡ length xs
map_length f [] = refl
map_length f (x ∷ xs) = ap suc (map_length f xs)

-- a walk finds at most so many
walk_most : (f : ℕ → Slot) (k n e : ℕ) → length (walk f k n e).found ≤ e
walk_most f k zero e = omega arith
walk_most f k (suc n) zero = omega arith
walk_most f k (suc n) (suc e) = bool (is_occupied (f k))
    (λ b. rw b (let h = walk_most f (suc k) n e in omega (arith, h)))
    (λ b. rw b (walk_most f (suc k) n (suc e)))

batch_short : (i n : ℕ) (u : Table) → n ≤ max_batch → Short (batch i (map (value_at u) (take n u.free)))
unfolding used_words max_batch
batch_short i n u l = omega (arith, map_length (value_at u) (take n u.free), take_most n u.free, l)

judged_short : (f : Option Fault) → Short (judged f)
unfolding used_words
judged_short none = omega arith
judged_short (some f) = omega arith

scan_short : (z : Sizes) → z.scan_entries ≤ till.scan_entries → (s : State) (b c : ℕ) → Short (scanned (snapshot_page z s (s.tables b) c))
unfolding used_words
scan_short z fits s b c =
    let t : Table = s.tables b in
    let start : ℕ = min c (length_of z t) in
    let w : Walk = walk t.slots start (min z.scan_slots (length_of z t - start)) z.scan_entries in
    omega (arith, entry_words_law (map (snapshot_at s t) w.found), map_length (snapshot_at s t) w.found, walk_most t.slots start (min z.scan_slots (length_of z t - start)) z.scan_entries)

-- of a well-formed state, whose plans are of at most 64 slots
module _ (z : Sizes) (fits : z.scan_entries ≤ till.scan_entries) (s : State) (w : WellFormed z s) where
  pub decide_short : (r : Request) → Decided Any Any (λ u a. Short a) (decide z s r)
  unfolding decide new_object_of duplicate_of release_parcel_of retire_object_of reserve_of trim_of abort_of publish_of get_info_of resolve_of replace_of close_of scan_handles_of prepare_transfer_of prepare_consumption_of rollback_of commit_of direct_commit_of direct_rollback_of remove_stopping_owner_of teardown_start_of teardown_step_of teardown_finish_of take_empty_page_of make_plan_of use_plan_of drop_plan_of judge_transfer_of used_words
  decide_short (new_object o r f) =
      checked (ltb o s.object_count) 18 tt λ e.
      checked (free_row s) 1 tt λ e.
      checked (contains (s.objects o).supported r) 6 tt λ e.
      checked (contains known_flags f) 7 tt λ e.
      checked (s.objects o).exportable 6 tt λ e.
      checked (not (is_now_retired (s.objects o).stage)) 9 tt λ e.
      checked (not (is_now_active (s.objects o).stage)) 10 tt λ e.
      checked (not (eqb (s.objects o).count (s.objects o).limit)) 11 tt λ e.
      checked (id_left s) 12 tt λ e.
      accepts (omega arith)
  decide_short (duplicate b v r) =
      checked (ltb b s.table_count) 18 tt λ e.
      checked (is_active (s.tables b).life) 16 tt λ e.
      checked (free_row s) 1 tt λ e.
      with_view (lookup (s.tables b) v) tt tt λ k h e.
      checked (contains h.rights duplicate_right) 5 tt λ e.
      checked (contains h.rights r) 5 tt λ e.
      checked (not (is_now_retired (s.objects h.object).stage)) 9 tt λ e.
      checked (not (eqb (s.objects h.object).count (s.objects h.object).limit)) 11 tt λ e.
      checked (id_left s) 12 tt λ e.
      accepts (omega arith)
  decide_short (release_parcel i) =
      with_some (as_parcel (find i s.book.rows)) 18 tt λ hs e.
      accepts (omega arith)
  decide_short (retire_object o) =
      checked (ltb o s.object_count) 18 tt λ e.
      accepts (omega arith)
  decide_short (reserve b n) =
      with_room_law z s b n tt tt tt tt tt tt tt λ r o.
      accepts (batch_short s.book.next n (grow z r.pages s.frames (s.tables b)) (at_most_law n max_batch o.few))
  decide_short (trim i n) =
      with_reservation (find i s.book.rows) tt λ b ks e.
      checked (ltb 0 n) 18 tt λ e.
      checked (at_most n (length ks)) 18 tt λ e.
      accepts (omega arith)
  decide_short (abort i) =
      with_reservation (find i s.book.rows) tt λ b ks e.
      accepts (omega arith)
  decide_short (publish i is) =
      with_reservation (find i s.book.rows) tt λ b ks e.
      with_some (handles_of is s.book.rows) 18 tt λ hs e.
      checked (distinct is) 18 tt λ e.
      checked (eqb (length hs) (length ks)) 18 tt λ e.
      accepts (omega arith)
  decide_short (get_info b v) =
      with_look s b v tt tt tt λ l a h e.
      accepts (omega arith)
  decide_short (resolve b v r kind) =
      with_handle s b v tt tt tt tt λ l a k h e.
      checked (contains h.rights r) 5 tt λ e.
      checked (eqb (s.objects h.object).kind kind) 4 tt λ e.
      accepts (omega arith)
  decide_short (replace b v r) =
      with_handle s b v tt tt tt tt λ l a k h e.
      checked (contains h.rights r) 5 tt λ e.
      accepts (omega arith)
  decide_short (close b v) =
      with_handle s b v tt tt tt tt λ l a k h e.
      accepts (omega arith)
  decide_short (scan_handles b c) =
      checked (ltb b s.table_count) 18 tt λ e.
      checked (is_active (s.tables b).life) 16 tt λ e.
      accepts (scan_short z fits s b c)
  decide_short (prepare_transfer b route o k qs) =
      let t : Table = s.tables b in
      checked (ltb b s.table_count) 18 tt λ e.
      checked (is_active t.life) 16 tt λ e.
      checked (ltb 0 (length qs)) 17 tt λ e.
      checked (at_most (length qs) max_batch) 13 tt λ e.
      checked (free_row s) 1 tt λ e.
      checked (id_left s) 12 tt λ e.
      after_id (items_fault s t route o k [] 0 qs) (λ n e. tt) λ e.
      after_id (copies_fault s.objects 0 (map (entry_for t) qs)) (λ n e. tt) λ e.
      accepts (omega arith)
  decide_short (prepare_consumption b v r kind koid) =
      checked (ltb b s.table_count) 18 tt λ e.
      checked (is_active (s.tables b).life) 16 tt λ e.
      checked (free_row s) 1 tt λ e.
      with_view (lookup (s.tables b) v) tt tt λ k h e.
      checked (contains h.rights r) 5 tt λ e.
      checked (eqb (s.objects h.object).kind kind) 4 tt λ e.
      checked (eqb (s.objects h.object).koid koid) 2 tt λ e.
      checked (id_left s) 12 tt λ e.
      accepts (omega arith)
  decide_short (rollback i) =
      with_claim (find i s.book.rows) tt λ b es e.
      accepts (omega arith)
  decide_short (commit i) =
      with_claim (find i s.book.rows) tt λ b es e.
      accepts (omega arith)
  decide_short (direct_commit i j) =
      with_claim (find i s.book.rows) tt λ b es e.
      with_reservation (find j s.book.rows) tt λ c ks e.
      checked (eqb (length es) (length ks)) 18 tt λ e.
      accepts (omega arith)
  decide_short (direct_rollback i j) =
      with_claim (find i s.book.rows) tt λ b es e.
      with_reservation (find j s.book.rows) tt λ c ks e.
      checked (eqb (length es) (length ks)) 18 tt λ e.
      accepts (omega arith)
  decide_short (remove_stopping_owner b c) =
      let t : Table = s.tables b in
      checked (ltb b s.table_count) 18 tt λ e.
      either_way (is_active t.life) (λ a. found_or (remove_at z s b t) (next_occupied z t c) (accepts (omega arith)) λ k e. accepts (omega arith)) (accepts (omega arith))
  decide_short (teardown_start b) =
      checked (ltb b s.table_count) 18 tt λ e.
      checked (is_active (s.tables b).life) 16 tt λ e.
      checked (not (any_open b s.book.rows)) 14 tt λ e.
      accepts (omega arith)
  decide_short (teardown_step b) =
      let t : Table = s.tables b in
      checked (ltb b s.table_count) 18 tt λ e.
      while_tearing t.life tt λ c e.
      found_or (tear_at z s b t) (next_occupied z t c) (accepts (omega arith)) λ k e. accepts (omega arith)
  decide_short (teardown_finish b) =
      let t : Table = s.tables b in
      checked (ltb b s.table_count) 18 tt λ e.
      while_tearing t.life tt λ c e.
      checked (not (is_some (next_occupied z t 0))) 18 tt λ e.
      accepts (omega arith)
  decide_short (take_empty_page b) =
      let t : Table = s.tables b in
      checked (ltb b s.table_count) 18 tt λ e.
      either_way (is_active t.life) (λ a. first_or (take_at z s b t) t.empty (accepts (omega arith)) λ p ps e. accepts (omega arith)) (accepts (omega arith))
  decide_short (make_plan b n) =
      with_room_law z s b n tt tt tt tt tt tt tt λ r o.
      accepts (omega arith)
  decide_short (use_plan i) =
      with_plan (find i s.book.rows) tt λ b n r fs e.
      checked (is_active (s.tables b).life) 16 tt λ e1.
      checked (not (is_stale z (s.tables b) n r)) 21 tt λ e2.
      checked (id_left s) 12 tt λ e3.
      accepts (batch_short s.book.next n (grow z r.pages fs (s.tables b)) (found_range s w i (plan b n r fs) e).count.1)
  decide_short (drop_plan i) =
      with_plan (find i s.book.rows) tt λ b n r fs e.
      accepts (omega arith)
  decide_short (judge_transfer b route o k qs) =
      checked (ltb b s.table_count) 18 tt λ e.
      accepts (judged_short (transfer_fault s (s.tables b) route o k qs))

  pub step_short : (r : Request) → Short (step z s r).1
  unfolding step used_words
  step_short r = go (decide z s r) (decide_short r)
    where
      go : (d : Decision) → Decided Any Any (λ u a. Short a) d → Short (carry z s d).1
      go (refusal n) p = omega arith
      go (refusal_after_id n) p = omega arith
      go (accept u a) p = p.leaves
