-- The words of an answer: its number, its zeros after a refusal, and where it has an id. Assumes nothing.
use Rattle.std.specs.Prelude.{◌≡◌, true, not, ℕ, ◌≤◌, length, get_or, replicate, eqb, ltb}
use Rattle.std.proofs.Math.Path.{refl}
use Rattle.std.proofs.Common.{ap, arith, ltb-false, eqb-true}
use Rattle.std.proofs.Math.Bool.{false}
use mathlib.Core.List.{List, [], ◌∷◌, map}
use Rattle.std.proofs.Math.Option.{Option, none, some}
use Rattle.std.proofs.lemmas.Bool.{not-true}
use Rattle.words.specs.Pick.{bool, clash, both}
use Rattle.authority.specs.Rights.{contains, duplicate_right}
use Rattle.model.specs.Base.{is_some, at_most, between}
use Rattle.model.specs.State.{Sizes, Table, State, is_active, max_batch, known_flags}
use Rattle.model.specs.Storage.{is_stale}
use Rattle.model.specs.Request.{Route, Item, Answer, Answer.refused, Answer.done, Answer.opened, Answer.batch, Answer.info_of, Answer.resolved, Answer.renewed, Answer.scanned, Answer.removed, Answer.closed, Answer.taken, Answer.planned, Answer.judged}
use Rattle.model.specs.Request.{Request, Request.new_object, Request.duplicate, Request.release_parcel, Request.retire_object, Request.reserve, Request.trim, Request.abort, Request.publish, Request.get_info, Request.resolve, Request.replace, Request.close, Request.scan_handles, Request.prepare_transfer, Request.prepare_consumption, Request.rollback, Request.commit, Request.direct_commit, Request.direct_rollback, Request.remove_stopping_owner, Request.teardown_start, Request.teardown_step, Request.teardown_finish, Request.take_empty_page, Request.make_plan, Request.use_plan, Request.drop_plan, Request.judge_transfer}
use Rattle.model.specs.Objects.{is_now_active, is_now_retired}
use Rattle.model.specs.Book.{find, free_row, id_left, any_open}
use Rattle.model.specs.Decision.{Decision, Decision.refusal, Decision.refusal_after_id, Decision.accept, as_parcel, handles_of, distinct}
use Rattle.model.specs.Lookup.{lookup}
use Rattle.model.specs.Transfer.{items_fault, copies_fault, entry_for}
use Rattle.model.specs.Step.{decide, step, carry, new_object_of, duplicate_of, release_parcel_of, retire_object_of, reserve_of, trim_of, abort_of, publish_of, get_info_of, resolve_of, replace_of, close_of, scan_handles_of, prepare_transfer_of, prepare_consumption_of, rollback_of, commit_of, direct_commit_of, direct_rollback_of, remove_stopping_owner_of, remove_at, next_occupied, teardown_start_of, tear_at, teardown_step_of, teardown_finish_of, take_at, take_empty_page_of, make_plan_of, use_plan_of, drop_plan_of, judge_transfer_of}
use Rattle.model.proofs.Decided.{Decided, Any, accepts, checked, with_some, with_view, with_handle, with_look, with_reservation, with_claim, with_plan, with_room_law, while_tearing, after_id, either_way, found_or, first_or}
use Rattle.model.proofs.Refusals.{is_refused, numbered, refused_keeps}
use Rattle.model.specs.Words.{used_words, words_of}
use Rattle.promises.specs.Answers.{gives_id, has_id, is_number}

module _ (z : Sizes) (s : State) where
  -- what is accepted has an id exactly if its op gives one
  decide_gives : (r : Request) → Decided Any Any (λ u a. has_id a ≡ gives_id r) (decide z s r)
  unfolding decide new_object_of duplicate_of release_parcel_of retire_object_of reserve_of trim_of abort_of publish_of get_info_of resolve_of replace_of close_of scan_handles_of prepare_transfer_of prepare_consumption_of rollback_of commit_of direct_commit_of direct_rollback_of remove_stopping_owner_of teardown_start_of teardown_step_of teardown_finish_of take_empty_page_of make_plan_of use_plan_of drop_plan_of judge_transfer_of
  decide_gives (new_object o r f) =
      checked (ltb o s.object_count) 18 tt λ e.
      checked (free_row s) 1 tt λ e.
      checked (contains (s.objects o).supported r) 6 tt λ e.
      checked (contains known_flags f) 7 tt λ e.
      checked (s.objects o).exportable 6 tt λ e.
      checked (not (is_now_retired (s.objects o).stage)) 9 tt λ e.
      checked (not (is_now_active (s.objects o).stage)) 10 tt λ e.
      checked (not (eqb (s.objects o).count (s.objects o).limit)) 11 tt λ e.
      checked (id_left s) 12 tt λ e.
      accepts refl
  decide_gives (duplicate b v r) =
      checked (ltb b s.table_count) 18 tt λ e.
      checked (is_active (s.tables b).life) 16 tt λ e.
      checked (free_row s) 1 tt λ e.
      with_view (lookup (s.tables b) v) tt tt λ k h e.
      checked (contains h.rights duplicate_right) 5 tt λ e.
      checked (contains h.rights r) 5 tt λ e.
      checked (not (is_now_retired (s.objects h.object).stage)) 9 tt λ e.
      checked (not (eqb (s.objects h.object).count (s.objects h.object).limit)) 11 tt λ e.
      checked (id_left s) 12 tt λ e.
      accepts refl
  decide_gives (release_parcel i) =
      with_some (as_parcel (find i s.book.rows)) 18 tt λ hs e.
      accepts refl
  decide_gives (retire_object o) =
      checked (ltb o s.object_count) 18 tt λ e.
      accepts refl
  decide_gives (reserve b n) =
      with_room_law z s b n tt tt tt tt tt tt tt λ w e.
      accepts refl
  decide_gives (trim i n) =
      with_reservation (find i s.book.rows) tt λ b ks e.
      checked (ltb 0 n) 18 tt λ e.
      checked (at_most n (length ks)) 18 tt λ e.
      accepts refl
  decide_gives (abort i) =
      with_reservation (find i s.book.rows) tt λ b ks e.
      accepts refl
  decide_gives (publish i is) =
      with_reservation (find i s.book.rows) tt λ b ks e.
      with_some (handles_of is s.book.rows) 18 tt λ hs e.
      checked (distinct is) 18 tt λ e.
      checked (eqb (length hs) (length ks)) 18 tt λ e.
      accepts refl
  decide_gives (get_info b v) =
      with_look s b v tt tt tt λ l a h e.
      accepts refl
  decide_gives (resolve b v r kind) =
      with_handle s b v tt tt tt tt λ l a k h e.
      checked (contains h.rights r) 5 tt λ e.
      checked (eqb (s.objects h.object).kind kind) 4 tt λ e.
      accepts refl
  decide_gives (replace b v r) =
      with_handle s b v tt tt tt tt λ l a k h e.
      checked (contains h.rights r) 5 tt λ e.
      accepts refl
  decide_gives (close b v) =
      with_handle s b v tt tt tt tt λ l a k h e.
      accepts refl
  decide_gives (scan_handles b c) =
      checked (ltb b s.table_count) 18 tt λ e.
      checked (is_active (s.tables b).life) 16 tt λ e.
      accepts refl
  decide_gives (prepare_consumption b v r kind koid) =
      checked (ltb b s.table_count) 18 tt λ e.
      checked (is_active (s.tables b).life) 16 tt λ e.
      checked (free_row s) 1 tt λ e.
      with_view (lookup (s.tables b) v) tt tt λ k h e.
      checked (contains h.rights r) 5 tt λ e.
      checked (eqb (s.objects h.object).kind kind) 4 tt λ e.
      checked (eqb (s.objects h.object).koid koid) 2 tt λ e.
      checked (id_left s) 12 tt λ e.
      accepts refl
  decide_gives (rollback i) =
      with_claim (find i s.book.rows) tt λ b es e.
      accepts refl
  decide_gives (commit i) =
      with_claim (find i s.book.rows) tt λ b es e.
      accepts refl
  decide_gives (direct_commit i j) =
      with_claim (find i s.book.rows) tt λ b es e.
      with_reservation (find j s.book.rows) tt λ c ks e.
      checked (eqb (length es) (length ks)) 18 tt λ e.
      accepts refl
  decide_gives (direct_rollback i j) =
      with_claim (find i s.book.rows) tt λ b es e.
      with_reservation (find j s.book.rows) tt λ c ks e.
      checked (eqb (length es) (length ks)) 18 tt λ e.
      accepts refl
  decide_gives (teardown_start b) =
      checked (ltb b s.table_count) 18 tt λ e.
      checked (is_active (s.tables b).life) 16 tt λ e.
      checked (not (any_open b s.book.rows)) 14 tt λ e.
      accepts refl
  decide_gives (prepare_transfer b route o k qs) =
      let t : Table = s.tables b in
      checked (ltb b s.table_count) 18 tt λ e.
      checked (is_active t.life) 16 tt λ e.
      checked (ltb 0 (length qs)) 17 tt λ e.
      checked (at_most (length qs) max_batch) 13 tt λ e.
      checked (free_row s) 1 tt λ e.
      checked (id_left s) 12 tt λ e.
      after_id (items_fault s t route o k [] 0 qs) (λ n e. tt) λ e.
      after_id (copies_fault s.objects 0 (map (entry_for t) qs)) (λ n e. tt) λ e.
      accepts refl
  decide_gives (remove_stopping_owner b c) =
      let t : Table = s.tables b in
      checked (ltb b s.table_count) 18 tt λ e.
      either_way (is_active t.life) (λ a. found_or (remove_at z s b t) (next_occupied z t c) (accepts refl) λ k e. accepts refl) (accepts refl)
  decide_gives (teardown_step b) =
      let t : Table = s.tables b in
      checked (ltb b s.table_count) 18 tt λ e.
      while_tearing t.life tt λ c e.
      found_or (tear_at z s b t) (next_occupied z t c) (accepts refl) λ k e. accepts refl
  decide_gives (teardown_finish b) =
      let t : Table = s.tables b in
      checked (ltb b s.table_count) 18 tt λ e.
      while_tearing t.life tt λ c e.
      checked (not (is_some (next_occupied z t 0))) 18 tt λ e.
      accepts refl
  decide_gives (take_empty_page b) =
      let t : Table = s.tables b in
      checked (ltb b s.table_count) 18 tt λ e.
      either_way (is_active t.life) (λ a. first_or (take_at z s b t) t.empty (accepts refl) λ p ps e. accepts refl) (accepts refl)
  decide_gives (make_plan b n) =
      with_room_law z s b n tt tt tt tt tt tt tt λ w e.
      accepts refl
  decide_gives (use_plan i) =
      with_plan (find i s.book.rows) tt λ b n w fs e.
      checked (is_active (s.tables b).life) 16 tt λ e.
      checked (not (is_stale z (s.tables b) n w)) 21 tt λ e.
      checked (id_left s) 12 tt λ e.
      accepts refl
  decide_gives (drop_plan i) =
      with_plan (find i s.book.rows) tt λ b n w fs e.
      accepts refl
  decide_gives (judge_transfer b route o k qs) =
      checked (ltb b s.table_count) 18 tt λ e.
      accepts refl

  pub step_gives : (r : Request) → is_refused (step z s r).1 ≡ false → has_id (step z s r).1 ≡ gives_id r
  unfolding step
  step_gives r e = go (decide z s r) (decide_gives r) e
    where
      go : (d : Decision) → Decided Any Any (λ u a. has_id a ≡ gives_id r) d → is_refused (carry z s d).1 ≡ false → has_id (carry z s d).1 ≡ gives_id r
      go (refusal n) h e = clash refl e
      go (refusal_after_id n) h e = clash refl e
      go (accept u a) h e = h.leaves

  -- a transfer that is accepted answers the next id
  prepare_opens : (b : ℕ) (route : Route) (o k : Option ℕ) (qs : List Item) → Decided Any Any (λ u a. a ≡ opened s.book.next) (decide z s (prepare_transfer b route o k qs))
  unfolding decide prepare_transfer_of
  prepare_opens b route o k qs =
      let t : Table = s.tables b in
      checked (ltb b s.table_count) 18 tt λ e.
      checked (is_active t.life) 16 tt λ e.
      checked (ltb 0 (length qs)) 17 tt λ e.
      checked (at_most (length qs) max_batch) 13 tt λ e.
      checked (free_row s) 1 tt λ e.
      checked (id_left s) 12 tt λ e.
      after_id (items_fault s t route o k [] 0 qs) (λ n e. tt) λ e.
      after_id (copies_fault s.objects 0 (map (entry_for t) qs)) (λ n e. tt) λ e.
      accepts refl

  pub prepare_answers : (b : ℕ) (route : Route) (o k : Option ℕ) (qs : List Item) → is_refused (step z s (prepare_transfer b route o k qs)).1 ≡ false
      → (step z s (prepare_transfer b route o k qs)).1 ≡ opened s.book.next
  unfolding step
  prepare_answers b route o k qs e = go (decide z s (prepare_transfer b route o k qs)) (prepare_opens b route o k qs) e
    where
      go : (d : Decision) → Decided Any Any (λ u a. a ≡ opened s.book.next) d → is_refused (carry z s d).1 ≡ false → (carry z s d).1 ≡ opened s.book.next
      go (refusal n) h e = clash refl e
      go (refusal_after_id n) h e = clash refl e
      go (accept u a) h e = h.leaves

-- ---- word 0

-- a refusal's 72 words: its number, then zeros
pub refused_words : (n : ℕ) → words_of (refused n) ≡ n ∷ replicate 71 0
unfolding words_of used_words
refused_words n = refl

-- word 0 is 0 exactly if the answer is no refusal
pub number_0 : (a : Answer) (d : ℕ) → is_refused a ≡ false → get_or (words_of a) 0 d ≡ 0
unfolding words_of used_words
number_0 (refused n) d e = clash refl e
number_0 done d e = refl
number_0 (opened i) d e = refl
number_0 (batch i vs) d e = refl
number_0 (info_of x) d e = refl
number_0 (resolved o koid r) d e = refl
number_0 (renewed v) d e = refl
number_0 (scanned p) d e = refl
number_0 (removed none c) d e = refl
number_0 (removed (some x) c) d e = refl
number_0 (closed none) d e = refl
number_0 (closed (some x)) d e = refl
number_0 (taken none) d e = refl
number_0 (taken (some p)) d e = refl
number_0 (planned i n m) d e = refl
number_0 (judged x) d e = refl

-- an answer is a refusal, or it is none
pub refused_or {ℓ} : {C : Type ℓ} (a : Answer) → ((n : ℕ) → a ≡ refused n → C) → (is_refused a ≡ false → C) → C
refused_or (refused n) y f = y n refl
refused_or done y f = f refl
refused_or (opened i) y f = f refl
refused_or (batch i vs) y f = f refl
refused_or (info_of x) y f = f refl
refused_or (resolved o koid r) y f = f refl
refused_or (renewed v) y f = f refl
refused_or (scanned p) y f = f refl
refused_or (removed x c) y f = f refl
refused_or (closed x) y f = f refl
refused_or (taken p) y f = f refl
refused_or (planned i n m) y f = f refl
refused_or (judged x) y f = f refl

pub in_range : (n : ℕ) → numbered n ≡ true → (1 ≤ n) × (is_number n ≡ true)
in_range n e = bool (between 1 n 18)
    (λ q. let b = both (at_most 1 n) (at_most n 18) q in (ltb-false n 1 (not-true (ltb n 1) b.0), rw b.1))
    (λ q. let d : eqb n 21 ≡ true = rw q at e in let y : n ≡ 21 = eqb-true n 21 d in rw y (omega arith, refl))

-- a step's refusal has a number from 1 to 18, or 21
pub step_numbered : (z : Sizes) (s : State) (r : Request) (n : ℕ) → (step z s r).1 ≡ refused n → (1 ≤ n) × (is_number n ≡ true)
step_numbered z s r n e = in_range n (refused_keeps z s r n e).number

-- so a step whose word 0 is 0 is accepted
pub zero_accepts : (z : Sizes) (s : State) (r : Request) → get_or (words_of (step z s r).1) 0 0 ≡ 0 → is_refused (step z s r).1 ≡ false
unfolding words_of used_words
zero_accepts z s r e = refused_or (step z s r).1
    (λ n q. absurd (omega (arith, (step_numbered z s r n q).0, e, ap (λ (a : Answer). get_or (words_of a) 0 0) q)))
    (λ q. q)
