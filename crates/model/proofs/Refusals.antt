-- Demand 1 on the definitions: "a refused request carries a number from document 01 and changes nothing, save the one reservation id spent by
-- a transfer preparation refused after its id step".
use Rattle.std.specs.Prelude.{◌≡◌, Bool, true, false, not, ◌&&◌, ◌||◌, ℕ, suc, length, eqb, ltb}
use Rattle.std.proofs.Math.Path.{refl}
use Rattle.std.proofs.Common.{ap}
use mathlib.Core.List.{List, [], ◌∷◌, map}
use Rattle.std.proofs.Math.Option.{Option, none, some}
use Rattle.std.proofs.lemmas.Bool.{not-true}
use Rattle.authority.specs.Rights.{contains, duplicate_right}
use Rattle.model.specs.Base.{pick, between, at_most, is_some, member}
use Rattle.model.specs.State.{Sizes, Table, Object, Entry, Entry.moved, Entry.copied, State, is_active, max_batch, known_flags}
use Rattle.model.specs.Storage.{is_stale}
use Rattle.model.specs.Request.{Route, Item, Fault, Answer, Answer.refused, Answer.done, Answer.opened, Answer.batch, Answer.info_of, Answer.resolved}
use Rattle.model.specs.Request.{Answer.renewed, Answer.scanned, Answer.removed, Answer.closed, Answer.taken, Answer.planned, Answer.judged, Request, Request.new_object}
use Rattle.model.specs.Request.{Request.duplicate, Request.release_parcel, Request.retire_object, Request.reserve, Request.trim, Request.abort}
use Rattle.model.specs.Request.{Request.publish, Request.get_info, Request.resolve, Request.replace, Request.close, Request.scan_handles}
use Rattle.model.specs.Request.{Request.prepare_transfer, Request.prepare_consumption, Request.rollback, Request.commit, Request.direct_commit}
use Rattle.model.specs.Request.{Request.direct_rollback, Request.remove_stopping_owner, Request.teardown_start, Request.teardown_step}
use Rattle.model.specs.Request.{Request.teardown_finish, Request.take_empty_page, Request.make_plan, Request.use_plan, Request.drop_plan, Request.judge_transfer}
use Rattle.model.specs.Objects.{is_now_active, is_now_retired, change, raise}
use Rattle.model.specs.Book.{find, free_row, id_left, any_open, spend_id}
use Rattle.model.specs.Decision.{Decision, Decision.refusal, Decision.refusal_after_id, Decision.accept, as_parcel}
use Rattle.model.specs.Decision.{handles_of, distinct}
use Rattle.model.specs.Lookup.{lookup}
use Rattle.model.specs.Transfer.{Check, first_fault, item_checks, copy_checks, first_of, items_fault, copies_fault, entry_for}
use Rattle.model.specs.Step.{decide, step, carry, new_object_of, duplicate_of, release_parcel_of, retire_object_of, reserve_of, trim_of, abort_of}
use Rattle.model.specs.Step.{publish_of, get_info_of, resolve_of, replace_of, close_of, scan_handles_of, prepare_transfer_of, prepare_consumption_of}
use Rattle.model.specs.Step.{rollback_of, commit_of, direct_commit_of, direct_rollback_of, remove_stopping_owner_of, remove_at, next_occupied}
use Rattle.model.specs.Step.{teardown_start_of, tear_at, teardown_step_of, teardown_finish_of, take_at, take_empty_page_of, make_plan_of, use_plan_of, drop_plan_of, judge_transfer_of}
use Rattle.model.proofs.Tests.{clash, and_left, and_right}
use Rattle.model.proofs.Decided.{Decided, accepts, checked, with_some, with_view, with_handle, with_look, with_reservation, with_claim, with_plan, with_room_law, while_tearing}
use Rattle.model.proofs.Decided.{after_id, either_way, found_or, first_or}

abbrev pub is_refused : Answer → Bool
is_refused (refused n) = true
is_refused done = false
is_refused (opened i) = false
is_refused (batch i vs) = false
is_refused (info_of x) = false
is_refused (resolved o koid r) = false
is_refused (renewed v) = false
is_refused (scanned p) = false
is_refused (removed x c) = false
is_refused (closed x) = false
is_refused (taken p) = false
is_refused (planned i n m) = false
is_refused (judged x) = false

abbrev pub is_transfer : Request → Bool
is_transfer (new_object o r f) = false
is_transfer (duplicate b v r) = false
is_transfer (release_parcel i) = false
is_transfer (retire_object o) = false
is_transfer (reserve b n) = false
is_transfer (trim i n) = false
is_transfer (abort i) = false
is_transfer (publish i is) = false
is_transfer (get_info b v) = false
is_transfer (resolve b v r kind) = false
is_transfer (replace b v r) = false
is_transfer (close b v) = false
is_transfer (scan_handles b c) = false
is_transfer (prepare_transfer b route o k qs) = true
is_transfer (prepare_consumption b v r kind koid) = false
is_transfer (rollback i) = false
is_transfer (commit i) = false
is_transfer (direct_commit i j) = false
is_transfer (direct_rollback i j) = false
is_transfer (remove_stopping_owner b c) = false
is_transfer (teardown_start b) = false
is_transfer (teardown_step b) = false
is_transfer (teardown_finish b) = false
is_transfer (take_empty_page b) = false
is_transfer (make_plan b n) = false
is_transfer (use_plan i) = false
is_transfer (drop_plan i) = false
is_transfer (judge_transfer b route o k qs) = false

-- a request's refusals have the numbers 1 to 18, and 21 (document 02, 1)
abbrev pub numbered : ℕ → Bool
numbered n = between 1 n 18 || eqb n 21

-- the numbers of a transfer's items and copies, which are looked at after the id step
abbrev pub of_item : ℕ → Bool
of_item n = member n (2 ∷ 3 ∷ 4 ∷ 5 ∷ 8 ∷ 9 ∷ 11 ∷ [])

-- the refusals that spend an id: of a transfer's preparation, for an item or a copy
abbrev pub spends : Request → ℕ → Bool
spends r n = is_transfer r && of_item n

-- a decision, of a transfer or not: refusals are numbered, those after the id step are a transfer's for an item or a copy and no others are, and what is
-- accepted answers no refusal
abbrev pub Fits : Bool → Decision → Type 0
Fits transfer d =
    Decided (λ n. numbered n && not (transfer && of_item n) ≡ true) (λ n. transfer && (numbered n && of_item n) ≡ true) (λ u a. is_refused a ≡ false) d

-- the faults of a transfer's items and copies are numbered so
abbrev Faults : Option Fault → Type 0
Faults none = Unit {0}
Faults (some f) = numbered f.number && of_item f.number ≡ true

faults_pick : (b : Bool) (x y : Option Fault) → Faults x → Faults y → Faults (pick b x y)
faults_pick true x y p q = p
faults_pick false x y p q = q

abbrev AllNumbered : List Check → Type 0
AllNumbered [] = Unit {0}
AllNumbered (c ∷ cs) = (numbered c.number && of_item c.number ≡ true) × AllNumbered cs

faults_first : (j : ℕ) (cs : List Check) → AllNumbered cs → Faults (first_fault j cs)
faults_first j [] h = tt
faults_first j (c ∷ cs) h = faults_pick c.holds (first_fault j cs) (some (record { number = c.number; position = j; place = c.place })) (faults_first j cs h.1) h.0

faults_of : (a b : Option Fault) → Faults a → Faults b → Faults (first_of a b)
faults_of none b p q = q
faults_of (some f) b p q = p

faults_items : (s : State) (t : Table) (route : Route) (o k : Option ℕ) (earlier : List ℕ) (j : ℕ) (qs : List Item) → Faults (items_fault s t route o k earlier j qs)
faults_items s t route o k earlier j [] = tt
faults_items s t route o k earlier j (q ∷ qs) =
    let cs : List Check = item_checks s route o k earlier q (lookup t q.value) in
    faults_of (first_fault j cs) (items_fault s t route o k (q.value ∷ earlier) (suc j) qs)
    (faults_first j cs (refl, (refl, (refl, (refl, (refl, (refl, (refl, (refl, (refl, (refl, (refl, tt))))))))))))
    (faults_items s t route o k (q.value ∷ earlier) (suc j) qs)

faults_copies : (os : ℕ → Object) (j : ℕ) (es : List Entry) → Faults (copies_fault os j es)
faults_copies os j [] = tt
faults_copies os j (moved k h r ∷ es) = faults_copies os (suc j) es
faults_copies os j (copied h ∷ es) =
    faults_of (first_fault j (copy_checks (os h.object))) (copies_fault (change raise os h.object) (suc j) es)
    (faults_first j (copy_checks (os h.object)) (refl, (refl, tt)))
    (faults_copies (change raise os h.object) (suc j) es)

module _ (z : Sizes) (s : State) where
  pub decide_fits : (r : Request) → Fits (is_transfer r) (decide z s r)
  unfolding decide new_object_of duplicate_of release_parcel_of retire_object_of reserve_of trim_of abort_of publish_of get_info_of resolve_of replace_of close_of scan_handles_of prepare_transfer_of prepare_consumption_of rollback_of commit_of direct_commit_of direct_rollback_of remove_stopping_owner_of teardown_start_of teardown_step_of teardown_finish_of take_empty_page_of make_plan_of use_plan_of drop_plan_of judge_transfer_of
  decide_fits (new_object o r f) =
      checked (ltb o s.object_count) 18 refl λ e.
      checked (free_row s) 1 refl λ e.
      checked (contains (s.objects o).supported r) 6 refl λ e.
      checked (contains known_flags f) 7 refl λ e.
      checked (s.objects o).exportable 6 refl λ e.
      checked (not (is_now_retired (s.objects o).stage)) 9 refl λ e.
      checked (not (is_now_active (s.objects o).stage)) 10 refl λ e.
      checked (not (eqb (s.objects o).count (s.objects o).limit)) 11 refl λ e.
      checked (id_left s) 12 refl λ e.
      accepts refl
  decide_fits (duplicate b v r) =
      checked (ltb b s.table_count) 18 refl λ e.
      checked (is_active (s.tables b).life) 16 refl λ e.
      checked (free_row s) 1 refl λ e.
      with_view (lookup (s.tables b) v) refl refl λ k h e.
      checked (contains h.rights duplicate_right) 5 refl λ e.
      checked (contains h.rights r) 5 refl λ e.
      checked (not (is_now_retired (s.objects h.object).stage)) 9 refl λ e.
      checked (not (eqb (s.objects h.object).count (s.objects h.object).limit)) 11 refl λ e.
      checked (id_left s) 12 refl λ e.
      accepts refl
  decide_fits (release_parcel i) =
      with_some (as_parcel (find i s.book.rows)) 18 refl λ hs e.
      accepts refl
  decide_fits (retire_object o) =
      checked (ltb o s.object_count) 18 refl λ e.
      accepts refl
  decide_fits (reserve b n) =
      with_room_law z s b n refl refl refl refl refl refl refl λ w e.
      accepts refl
  decide_fits (trim i n) =
      with_reservation (find i s.book.rows) refl λ b ks e.
      checked (ltb 0 n) 18 refl λ e.
      checked (at_most n (length ks)) 18 refl λ e.
      accepts refl
  decide_fits (abort i) =
      with_reservation (find i s.book.rows) refl λ b ks e.
      accepts refl
  decide_fits (publish i is) =
      with_reservation (find i s.book.rows) refl λ b ks e.
      with_some (handles_of is s.book.rows) 18 refl λ hs e.
      checked (distinct is) 18 refl λ e.
      checked (eqb (length hs) (length ks)) 18 refl λ e.
      accepts refl
  decide_fits (get_info b v) =
      with_look s b v refl refl refl λ l a h e.
      accepts refl
  decide_fits (resolve b v r kind) =
      with_handle s b v refl refl refl refl λ l a k h e.
      checked (contains h.rights r) 5 refl λ e.
      checked (eqb (s.objects h.object).kind kind) 4 refl λ e.
      accepts refl
  decide_fits (replace b v r) =
      with_handle s b v refl refl refl refl λ l a k h e.
      checked (contains h.rights r) 5 refl λ e.
      accepts refl
  decide_fits (close b v) =
      with_handle s b v refl refl refl refl λ l a k h e.
      accepts refl
  decide_fits (scan_handles b c) =
      checked (ltb b s.table_count) 18 refl λ e.
      checked (is_active (s.tables b).life) 16 refl λ e.
      accepts refl
  decide_fits (prepare_consumption b v r kind koid) =
      checked (ltb b s.table_count) 18 refl λ e.
      checked (is_active (s.tables b).life) 16 refl λ e.
      checked (free_row s) 1 refl λ e.
      with_view (lookup (s.tables b) v) refl refl λ k h e.
      checked (contains h.rights r) 5 refl λ e.
      checked (eqb (s.objects h.object).kind kind) 4 refl λ e.
      checked (eqb (s.objects h.object).koid koid) 2 refl λ e.
      checked (id_left s) 12 refl λ e.
      accepts refl
  decide_fits (rollback i) =
      with_claim (find i s.book.rows) refl λ b es e.
      accepts refl
  decide_fits (commit i) =
      with_claim (find i s.book.rows) refl λ b es e.
      accepts refl
  decide_fits (direct_commit i j) =
      with_claim (find i s.book.rows) refl λ b es e.
      with_reservation (find j s.book.rows) refl λ c ks e.
      checked (eqb (length es) (length ks)) 18 refl λ e.
      accepts refl
  decide_fits (direct_rollback i j) =
      with_claim (find i s.book.rows) refl λ b es e.
      with_reservation (find j s.book.rows) refl λ c ks e.
      checked (eqb (length es) (length ks)) 18 refl λ e.
      accepts refl
  decide_fits (teardown_start b) =
      checked (ltb b s.table_count) 18 refl λ e.
      checked (is_active (s.tables b).life) 16 refl λ e.
      checked (not (any_open b s.book.rows)) 14 refl λ e.
      accepts refl
  decide_fits (prepare_transfer b route o k qs) =
      let t : Table = s.tables b in
      checked (ltb b s.table_count) 18 refl λ e.
      checked (is_active t.life) 16 refl λ e.
      checked (ltb 0 (length qs)) 17 refl λ e.
      checked (at_most (length qs) max_batch) 13 refl λ e.
      checked (free_row s) 1 refl λ e.
      checked (id_left s) 12 refl λ e.
      after_id (items_fault s t route o k [] 0 qs) (λ f e. rw e at (faults_items s t route o k [] 0 qs)) λ e.
      after_id (copies_fault s.objects 0 (map (entry_for t) qs)) (λ f e. rw e at (faults_copies s.objects 0 (map (entry_for t) qs))) λ e.
      accepts refl
  decide_fits (remove_stopping_owner b c) =
      let t : Table = s.tables b in
      checked (ltb b s.table_count) 18 refl λ e.
      either_way (is_active t.life) (λ a. found_or (remove_at z s b t) (next_occupied z t c) (accepts refl) λ k e. accepts refl) (accepts refl)
  decide_fits (teardown_step b) =
      let t : Table = s.tables b in
      checked (ltb b s.table_count) 18 refl λ e.
      while_tearing t.life refl λ c e.
      found_or (tear_at z s b t) (next_occupied z t c) (accepts refl) λ k e. accepts refl
  decide_fits (teardown_finish b) =
      let t : Table = s.tables b in
      checked (ltb b s.table_count) 18 refl λ e.
      while_tearing t.life refl λ c e.
      checked (not (is_some (next_occupied z t 0))) 18 refl λ e.
      accepts refl
  decide_fits (take_empty_page b) =
      let t : Table = s.tables b in
      checked (ltb b s.table_count) 18 refl λ e.
      either_way (is_active t.life) (λ a. first_or (take_at z s b t) t.empty (accepts refl) λ p ps e. accepts refl) (accepts refl)
  decide_fits (make_plan b n) =
      with_room_law z s b n refl refl refl refl refl refl refl λ w e.
      accepts refl
  decide_fits (use_plan i) =
      with_plan (find i s.book.rows) refl λ b n w fs e.
      checked (is_active (s.tables b).life) 16 refl λ e.
      checked (not (is_stale z (s.tables b) n w)) 21 refl λ e.
      checked (id_left s) 12 refl λ e.
      accepts refl
  decide_fits (drop_plan i) =
      with_plan (find i s.book.rows) refl λ b n w fs e.
      accepts refl
  decide_fits (judge_transfer b route o k qs) =
      checked (ltb b s.table_count) 18 refl λ e.
      accepts refl

-- what a refused request leaves: its number is one of 1 to 18, or 21; nothing changes, save the one id of a transfer's preparation that is refused for an item or a copy
pub record Refused (z : Sizes) (s : State) (r : Request) (n : ℕ) : Type 0 where
  pub number : numbered n ≡ true
  pub kept : spends r n ≡ false → (step z s r).0 ≡ s
  pub spent : spends r n ≡ true → (step z s r).0 ≡ spend_id s

pub refused_keeps : (z : Sizes) (s : State) (r : Request) (n : ℕ) → (step z s r).1 ≡ refused n → Refused z s r n
unfolding step
refused_keeps z s r n e = go (decide z s r) refl (decide_fits z s r) e
  where
    go : (d : Decision) → decide z s r ≡ d → Fits (is_transfer r) d → (carry z s d).1 ≡ refused n → Refused z s r n
    go (refusal m) q f e =
        let h : m ≡ n = cc in
        let same : (carry z s (decide z s r)).0 ≡ s = ap (λ d. (carry z s d).0) q in
        let l : numbered n && not (spends r n) ≡ true = rw h at f.leaves in
        let y : spends r n ≡ false = not-true (spends r n) (and_right (numbered n) (not (spends r n)) l) in
        record { number = and_left (numbered n) (not (spends r n)) l; kept = λ p. same; spent = λ p. clash p y }
    go (refusal_after_id m) q f e =
        let h : m ≡ n = cc in
        let same : (carry z s (decide z s r)).0 ≡ spend_id s = ap (λ d. (carry z s d).0) q in
        let l : is_transfer r && (numbered n && of_item n) ≡ true = rw h at f.leaves in
        let x : is_transfer r ≡ true = and_left (is_transfer r) (numbered n && of_item n) l in
        let c : numbered n && of_item n ≡ true = and_right (is_transfer r) (numbered n && of_item n) l in
        let y : spends r n ≡ true = rw x (and_right (numbered n) (of_item n) c) in
        record { number = and_left (numbered n) (of_item n) c; kept = λ p. clash y p; spent = λ p. same }
    go (accept u a) q f e = clash (ap is_refused e) f.leaves
