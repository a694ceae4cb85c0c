-- A request that does not name an id leaves what stands under it: the row stays, marks of that id keep their slots and generations, and no object changes its koid or its kind.
-- Of any row and any state whose next id is another, with copies or without.
use Rattle.std.specs.Prelude.{◌≡◌, refl, false, not, ℕ, ◌+◌, length, drop, eqb, ltb}
use Rattle.std.proofs.Common.{sym, ◌∙◌, eqb-true, ne_eqb}
use mathlib.Core.List.{List, [], ◌∷◌, map}
use Rattle.std.proofs.lemmas.Bool.{eqb-false}
use Rattle.authority.specs.Rights.{contains, duplicate_right}
use Rattle.codec.specs.Codec.{next_generation}
use Rattle.model.specs.Base.{member, at_most, is_some}
use Rattle.model.specs.State.{Sizes, Handle, Slot.reserved, Slot.transfer_reserved, Slot.occupied, Lifecycle.tearing_down, Lifecycle.retired, Table, Object, Entry, Body, State}
use Rattle.model.specs.State.{generation, is_active, max_batch, known_flags}
use Rattle.model.specs.Storage.{is_stale, grow, vacate_all}
use Rattle.model.specs.Change.{with_table, with_objects, with_frames}
use Rattle.model.specs.Objects.{is_now_active, is_now_retired, activated, raise, lower, retired_by_owner, change, change_all, with_rights}
use Rattle.model.specs.Request.{Request, Request.new_object, Request.duplicate, Request.release_parcel, Request.retire_object, Request.reserve, Request.trim, Request.abort, Request.publish, Request.get_info, Request.resolve, Request.replace, Request.close, Request.scan_handles, Request.prepare_transfer, Request.prepare_consumption, Request.rollback, Request.commit, Request.direct_commit, Request.direct_rollback, Request.remove_stopping_owner, Request.teardown_start, Request.teardown_step, Request.teardown_finish, Request.take_empty_page, Request.make_plan, Request.use_plan, Request.drop_plan, Request.judge_transfer}
use Rattle.model.specs.Book.{find, add_row, drop_row, drop_rows, swap_row, free_row, id_left, any_open, moved_of, copies_of, sent_of}
use Rattle.model.specs.Decision.{Decision, as_parcel, handles_of, distinct}
use Rattle.model.specs.Lookup.{lookup, handle_or}
use Rattle.model.specs.Transfer.{items_fault, copies_fault, entry_for}
use Rattle.model.specs.Step.{restore_all, reserve_in, remove_at, next_occupied, tear_at, take_at, decide, step, new_object_of, duplicate_of, release_parcel_of, retire_object_of, reserve_of, trim_of, abort_of, publish_of, get_info_of, resolve_of, replace_of, close_of, scan_handles_of, prepare_transfer_of, prepare_consumption_of, rollback_of, commit_of, direct_commit_of, direct_rollback_of, remove_stopping_owner_of, teardown_start_of, teardown_step_of, teardown_finish_of, take_empty_page_of, make_plan_of, use_plan_of, drop_plan_of, judge_transfer_of}
use Rattle.model.specs.WellFormed.{is_moving_by}
use Rattle.model.proofs.Tests.{bool, clash}
use Rattle.model.proofs.Decided.{Decided, Any, accepts, checked, with_some, with_view, with_handle, with_look, with_reservation, with_claim, with_plan, with_room_law, while_tearing, after_id, either_way, found_or, first_or, carried}
use Rattle.noninterference.specs.Runs.{names_id}
use Rattle.noninterference.proofs.Marks.{Stems, stems_same, stems_then, stems_place, stems_keep_all, stems_vacate, stems_vacate_all, stems_reserve, stems_detach, stems_fill_all, stems_restore_all, stems_life}
use Rattle.noninterference.proofs.Rows.{find_drop, find_swap, find_append}

-- what a request names: one id, two, or more

pub other : (t i : ℕ) → eqb t i ≡ false → i ≡ t → ⊥
other t i e p = eqb-false t i e (sym p)

pub head_apart : (t i : ℕ) (is : List ℕ) → member t (i ∷ is) ≡ false → eqb t i ≡ false
head_apart t i is m = bool (eqb t i) (λ e. clash refl (rw e at m)) (λ e. e)

pub only : (t i : ℕ) (is : List ℕ) → member t (i ∷ is) ≡ false → i ≡ t → ⊥
only t i is m = other t i (head_apart t i is m)

pub tail_apart : (t i : ℕ) (is : List ℕ) → member t (i ∷ is) ≡ false → member t is ≡ false
tail_apart t i is m = rw (head_apart t i is m) at m

-- an object by the fields that no request changes
pub record SameObject (x y : Object) : Type 0 where
  pub koid : y.koid ≡ x.koid
  pub kind : y.kind ≡ x.kind

same_then : {x y w : Object} → SameObject x y → SameObject y w → SameObject x w
same_then p q = record { koid = q.koid ∙ p.koid; kind = q.kind ∙ p.kind }

-- what becomes of a record's stage and count
by_count : (f : Object → Object) → ((x : Object) → ((f x).koid ≡ x.koid) × ((f x).kind ≡ x.kind)) → (x : Object) → SameObject x (f x)
by_count f e x = record { koid = (e x).0; kind = (e x).1 }

activates : (x : Object) → SameObject x (activated x)
activates = by_count activated λ x. (refl, refl)

pub raises : (x : Object) → SameObject x (raise x)
raises = by_count raise λ x. (refl, refl)

pub lowers : (x : Object) → SameObject x (lower x)
lowers = by_count lower λ x. (refl, refl)

retires : (x : Object) → SameObject x (retired_by_owner x)
retires = by_count retired_by_owner λ x. (refl, refl)

-- one record changed, and those of a list of handles
change_same : (f : Object → Object) → ((x : Object) → SameObject x (f x)) → (o : ℕ) (os : ℕ → Object) (i : ℕ) → SameObject (os i) (change f os o i)
change_same f e o os i = bool (eqb i o) (λ q. rw (q, eqb-true i o q) (e (os o))) (λ q. rw q (record { koid = refl; kind = refl }))

pub change_all_same : (f : Object → Object) → ((x : Object) → SameObject x (f x)) → (hs : List Handle) (os : ℕ → Object) (i : ℕ) → SameObject (os i) (change_all f hs os i)
change_all_same f e [] os i = record { koid = refl; kind = refl }
change_all_same f e (h ∷ hs) os i = same_then (change_same f e h.object os i) (change_all_same f e hs (change f os h.object) i)

-- from state s to state u, of what stands under t
pub record Stays (t : ℕ) (s u : State) : Type 0 where
  pub table_count : u.table_count ≡ s.table_count
  pub tables : (c : ℕ) → Stems t (s.tables c) (u.tables c)
  pub row : find t u.book.rows ≡ find t s.book.rows
  pub objects : (o : ℕ) → SameObject (s.objects o) (u.objects o)

module _ (t : ℕ) where
  pub stays_same : (s : State) → Stays t s s
  stays_same s = record { table_count = refl; tables = λ c. stems_same t (s.tables c); row = refl; objects = λ o. record { koid = refl; kind = refl } }

  pub stays_then : {s u w : State} → Stays t s u → Stays t u w → Stays t s w
  stays_then p q = record {
    table_count = q.table_count ∙ p.table_count;
    tables = λ c. stems_then t (p.tables c) (q.tables c);
    row = q.row ∙ p.row;
    objects = λ o. same_then (p.objects o) (q.objects o);
  }

  -- the effects, one at a time
  module _ {s u : State} (p : Stays t s u) where
    sets : (c : ℕ) (y : Table) → Stems t (u.tables c) y → Stays t s (with_table u c y)
    sets c y q = stays_then p (record {
      table_count = refl;
      tables = λ d. bool (eqb d c) (λ e. rw (e, eqb-true d c e) q) (λ e. rw e (stems_same t (u.tables d)));
      row = refl;
      objects = λ o. record { koid = refl; kind = refl };
    })

    frames : (fs : List ℕ) → Stays t s (with_frames u fs)
    frames fs = record { table_count = p.table_count; tables = p.tables; row = p.row; objects = p.objects }

    -- an object's record changes in its stage and its count
    changes : (f : Object → Object) → ((x : Object) → SameObject x (f x)) → (o : ℕ) → Stays t s (with_objects u (change f u.objects o))
    changes f e o = record {
      table_count = p.table_count;
      tables = p.tables;
      row = p.row;
      objects = λ i. same_then (p.objects i) (change_same f e o u.objects i);
    }

    changes_all : (f : Object → Object) → ((x : Object) → SameObject x (f x)) → (hs : List Handle) → Stays t s (with_objects u (change_all f hs u.objects))
    changes_all f e hs = record {
      table_count = p.table_count;
      tables = p.tables;
      row = p.row;
      objects = λ i. same_then (p.objects i) (change_all_same f e hs u.objects i);
    }

    adds : (a : Body) → (u.book.next ≡ t → ⊥) → Stays t s (add_row a u)
    adds a n = record { table_count = p.table_count; tables = p.tables; row = find_append t u.book.next n a u.book.rows ∙ p.row; objects = p.objects }

    drops : (i : ℕ) → (i ≡ t → ⊥) → Stays t s (drop_row i u)
    drops i n = record { table_count = p.table_count; tables = p.tables; row = find_drop t i n u.book.rows ∙ p.row; objects = p.objects }

    swaps : (i : ℕ) (a : Body) → (i ≡ t → ⊥) → Stays t s (swap_row i a u)
    swaps i a n = record { table_count = p.table_count; tables = p.tables; row = find_swap t i n a u.book.rows ∙ p.row; objects = p.objects }

  drops_all : {s : State} (is : List ℕ) (u : State) → member t is ≡ false → Stays t s u → Stays t s (drop_rows is u)
  drops_all [] u m p = p
  drops_all (i ∷ is) u m p = drops_all is (drop_row i u) (tail_apart t i is m) (drops p i (only t i is m))

  -- each request
  module _ (z : Sizes) (s : State) (fresh : s.book.next ≡ t → ⊥) where
    abbrev Leaves : Decision → Type 0
    Leaves d = Decided Any Any (λ u a. Stays t s u) d

    abbrev still : Stays t s s
    still = stays_same s

    abbrev bare : (g : ℕ) → is_moving_by t (transfer_reserved g s.book.next) ≡ false
    bare g = ne_eqb t s.book.next (λ e. fresh (sym e))

    reserves : {u : State} → Stays t s u → (u.book.next ≡ t → ⊥) → (c n : ℕ) (ps fs : List ℕ) → Leaves (reserve_in z u c n (grow z ps fs (u.tables c)))
    reserves {u} p n c k ps fs = accepts (adds (sets p c _ (stems_reserve t z k (λ g. reserved g u.book.next) (λ g. refl) ps fs (u.tables c))) _ n)

    decide_stays : (r : Request) → names_id t r ≡ false → Leaves (decide z s r)
    unfolding decide new_object_of duplicate_of release_parcel_of retire_object_of reserve_of trim_of abort_of publish_of get_info_of resolve_of replace_of close_of scan_handles_of prepare_transfer_of prepare_consumption_of rollback_of commit_of direct_commit_of direct_rollback_of remove_stopping_owner_of teardown_start_of teardown_step_of teardown_finish_of take_empty_page_of make_plan_of use_plan_of drop_plan_of judge_transfer_of
    decide_stays (new_object o r f) n =
        checked (ltb o s.object_count) 18 tt λ e.
        checked (free_row s) 1 tt λ e.
        checked (contains (s.objects o).supported r) 6 tt λ e.
        checked (contains known_flags f) 7 tt λ e.
        checked (s.objects o).exportable 6 tt λ e.
        checked (not (is_now_retired (s.objects o).stage)) 9 tt λ e.
        checked (not (is_now_active (s.objects o).stage)) 10 tt λ e.
        checked (not (eqb (s.objects o).count (s.objects o).limit)) 11 tt λ e.
        checked (id_left s) 12 tt λ e.
        accepts (adds (changes still activated activates o) _ fresh)
    decide_stays (duplicate b v r) n =
        checked (ltb b s.table_count) 18 tt λ e.
        checked (is_active (s.tables b).life) 16 tt λ e.
        checked (free_row s) 1 tt λ e.
        with_view (lookup (s.tables b) v) tt tt λ k h e.
        checked (contains h.rights duplicate_right) 5 tt λ e.
        checked (contains h.rights r) 5 tt λ e.
        checked (not (is_now_retired (s.objects h.object).stage)) 9 tt λ e.
        checked (not (eqb (s.objects h.object).count (s.objects h.object).limit)) 11 tt λ e.
        checked (id_left s) 12 tt λ e.
        accepts (adds (changes still raise raises h.object) _ fresh)
    decide_stays (release_parcel i) n =
        with_some (as_parcel (find i s.book.rows)) 18 tt λ hs e.
        accepts (drops (changes_all still lower lowers hs) i (only t i [] n))
    decide_stays (retire_object o) n =
        checked (ltb o s.object_count) 18 tt λ e.
        accepts (changes still retired_by_owner retires o)
    decide_stays (reserve b m) n =
        with_room_law z s b m tt tt tt tt tt tt tt λ w e.
        reserves (frames still (drop (length w.pages) s.frames)) fresh b m w.pages s.frames
    decide_stays (trim i m) n =
        with_reservation (find i s.book.rows) tt λ b ks e.
        checked (ltb 0 m) 18 tt λ e.
        checked (at_most m (length ks)) 18 tt λ e.
        accepts (swaps (sets still b _ (stems_vacate_all t z (drop m ks) (s.tables b))) i _ (only t i [] n))
    decide_stays (abort i) n =
        with_reservation (find i s.book.rows) tt λ b ks e.
        accepts (drops (sets still b _ (stems_vacate_all t z ks (s.tables b))) i (only t i [] n))
    decide_stays (publish i is) n =
        with_reservation (find i s.book.rows) tt λ b ks e.
        with_some (handles_of is s.book.rows) 18 tt λ hs e.
        checked (distinct is) 18 tt λ e.
        checked (eqb (length hs) (length ks)) 18 tt λ e.
        accepts (drops_all (i ∷ is) _ n (sets still b _ (stems_fill_all t z ks hs (s.tables b))))
    decide_stays (get_info b v) n =
        with_look s b v tt tt tt λ l a h e.
        accepts still
    decide_stays (resolve b v r kind) n =
        with_handle s b v tt tt tt tt λ l a k h e.
        checked (contains h.rights r) 5 tt λ e.
        checked (eqb (s.objects h.object).kind kind) 4 tt λ e.
        accepts still
    decide_stays (replace b v r) n =
        with_handle s b v tt tt tt tt λ l a k h e.
        checked (contains h.rights r) 5 tt λ e.
        accepts (sets still b _ (stems_place t z (s.tables b) k (occupied (next_generation (generation ((s.tables b).slots k))) (with_rights h r)) refl))
    decide_stays (close b v) n =
        with_handle s b v tt tt tt tt λ l a k h e.
        accepts (changes_all (sets still b _ (stems_vacate t z (s.tables b) k)) lower lowers (h ∷ []))
    decide_stays (scan_handles b c) n =
        checked (ltb b s.table_count) 18 tt λ e.
        checked (is_active (s.tables b).life) 16 tt λ e.
        accepts still
    decide_stays (prepare_transfer b route o k qs) n =
        let y : Table = s.tables b in
        let es : List Entry = map (entry_for y) qs in
        checked (ltb b s.table_count) 18 tt λ e.
        checked (is_active y.life) 16 tt λ e.
        checked (ltb 0 (length qs)) 17 tt λ e.
        checked (at_most (length qs) max_batch) 13 tt λ e.
        checked (free_row s) 1 tt λ e.
        checked (id_left s) 12 tt λ e.
        after_id (items_fault s y route o k [] 0 qs) (λ m e. tt) λ e.
        after_id (copies_fault s.objects 0 es) (λ m e. tt) λ e.
        accepts (adds (changes_all (sets still b _ (stems_keep_all t z (λ g. transfer_reserved g s.book.next) bare (moved_of es) y)) raise raises (copies_of es)) _ fresh)
    decide_stays (prepare_consumption b v r kind koid) n =
        checked (ltb b s.table_count) 18 tt λ e.
        checked (is_active (s.tables b).life) 16 tt λ e.
        checked (free_row s) 1 tt λ e.
        with_view (lookup (s.tables b) v) tt tt λ k h e.
        checked (contains h.rights r) 5 tt λ e.
        checked (eqb (s.objects h.object).kind kind) 4 tt λ e.
        checked (eqb (s.objects h.object).koid koid) 2 tt λ e.
        checked (id_left s) 12 tt λ e.
        accepts (adds (sets still b _ (stems_keep_all t z (λ g. transfer_reserved g s.book.next) bare (k ∷ []) (s.tables b))) _ fresh)
    decide_stays (rollback i) n =
        with_claim (find i s.book.rows) tt λ b es e.
        accepts (drops (changes_all (sets still b _ (stems_restore_all t z es (s.tables b))) lower lowers (copies_of es)) i (only t i [] n))
    decide_stays (commit i) n =
        with_claim (find i s.book.rows) tt λ b es e.
        accepts (swaps (sets still b _ (stems_vacate_all t z (moved_of es) (s.tables b))) i _ (only t i [] n))
    decide_stays (direct_commit i j) n =
        with_claim (find i s.book.rows) tt λ b es e.
        with_reservation (find j s.book.rows) tt λ c ks e.
        checked (eqb (length es) (length ks)) 18 tt λ e.
        let u : State = with_table s b (vacate_all z (moved_of es) (s.tables b)) in
        accepts (drops (drops (sets (sets still b _ (stems_vacate_all t z (moved_of es) (s.tables b))) c _ (stems_fill_all t z ks (map sent_of es) (u.tables c)))
        i (only t i (j ∷ []) n)) j (only t j [] (tail_apart t i (j ∷ []) n)))
    decide_stays (direct_rollback i j) n =
        with_claim (find i s.book.rows) tt λ b es e.
        with_reservation (find j s.book.rows) tt λ c ks e.
        checked (eqb (length es) (length ks)) 18 tt λ e.
        let u : State = with_table s b (restore_all z es (s.tables b)) in
        accepts (drops (drops (sets (changes_all (sets still b _ (stems_restore_all t z es (s.tables b))) lower lowers (copies_of es)) c _ (stems_vacate_all t z ks (u.tables c)))
        i (only t i (j ∷ []) n)) j (only t j [] (tail_apart t i (j ∷ []) n)))
    decide_stays (remove_stopping_owner b c) n =
        let y : Table = s.tables b in
        checked (ltb b s.table_count) 18 tt λ e.
        either_way (is_active y.life)
        (λ a. found_or (remove_at z s b y) (next_occupied z y c) (accepts still) λ k e. accepts (changes_all (sets still b _ (stems_vacate t z y k)) lower lowers (handle_or (y.slots k) ∷ [])))
        (accepts still)
    decide_stays (teardown_start b) n =
        checked (ltb b s.table_count) 18 tt λ e.
        checked (is_active (s.tables b).life) 16 tt λ e.
        checked (not (any_open b s.book.rows)) 14 tt λ e.
        accepts (sets still b _ (stems_life t (s.tables b) (s.tables b) (tearing_down 0) (stems_same t (s.tables b))))
    decide_stays (teardown_step b) n =
        let y : Table = s.tables b in
        checked (ltb b s.table_count) 18 tt λ e.
        while_tearing y.life tt λ c e.
        found_or (tear_at z s b y) (next_occupied z y c) (accepts still) λ k e.
        accepts (changes_all (sets still b _ (stems_life t y _ (tearing_down (k + 1)) (stems_vacate t z y k))) lower lowers (handle_or (y.slots k) ∷ []))
    decide_stays (teardown_finish b) n =
        let y : Table = s.tables b in
        checked (ltb b s.table_count) 18 tt λ e.
        while_tearing y.life tt λ c e.
        checked (not (is_some (next_occupied z y 0))) 18 tt λ e.
        accepts (sets still b _ (stems_life t y y retired (stems_same t y)))
    decide_stays (take_empty_page b) n =
        let y : Table = s.tables b in
        checked (ltb b s.table_count) 18 tt λ e.
        either_way (is_active y.life)
        (λ a. first_or (take_at z s b y) y.empty (accepts still) λ p ps e. accepts (frames (sets still b _ (stems_detach t z y p)) _))
        (accepts still)
    decide_stays (make_plan b m) n =
        with_room_law z s b m tt tt tt tt tt tt tt λ w e.
        accepts (adds (frames still (drop (length w.pages) s.frames)) _ fresh)
    decide_stays (use_plan i) n =
        with_plan (find i s.book.rows) tt λ b m w fs e.
        checked (is_active (s.tables b).life) 16 tt λ e.
        checked (not (is_stale z (s.tables b) m w)) 21 tt λ e.
        checked (id_left s) 12 tt λ e.
        reserves (drops still i (only t i [] n)) fresh b m w.pages fs
    decide_stays (drop_plan i) n =
        with_plan (find i s.book.rows) tt λ b m w fs e.
        accepts (drops (frames still _) i (only t i [] n))
    decide_stays (judge_transfer b route o k qs) n =
        checked (ltb b s.table_count) 18 tt λ e.
        accepts still

    -- A REQUEST THAT DOES NOT NAME t LEAVES WHAT STANDS UNDER IT
    pub step_stays : (r : Request) → names_id t r ≡ false → Stays t s (step z s r).0
    unfolding step
    step_stays r n = carried (Stays t s) z s (decide z s r) still (λ m e. record { table_count = refl; tables = still.tables; row = refl; objects = still.objects }) (λ u a p. p) (decide_stays r n)
