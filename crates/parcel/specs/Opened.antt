-- A parcel of one handle opens: new object and duplicate take the model's steps. Assumes nothing.
use Rattle.std.specs.Prelude.{◌≡◌, Bool, false, not, length, eqb, ltb}
use Rattle.std.proofs.Math.Path.{refl}
use Rattle.std.proofs.Common.{sym, ap, ◌∙◌, arith}
use Rattle.std.proofs.Math.Bool.{true}
use mathlib.Core.List.{List, [], ◌∷◌}
use Prim.Native.Nat.{ℕ, zero, suc, ◌+◌, ◌^◌, ◌<◌}
use borrow.Author.Tests.{eq-eqb, ne_eqb, eqb-true, eqb-false, lt-ltb, ltb-true}
use Rattle.words.specs.Pick.{pick, bool}
use Rattle.authority.specs.Rights.{contains, duplicate_right}
use Rattle.model.specs.Base.{bit}
use Rattle.model.specs.State.{till, Handle, Stage, Stage.still_new, Stage.now_active, Stage.now_retired, Table, Object, Body.parcel, State, known_flags, last_id}
use Rattle.model.specs.Change.{with_objects}
use Rattle.model.specs.Objects.{is_now_active, is_now_retired, activated, raise, retired_by_owner, change, with_rights}
use Rattle.model.specs.Book.{add_row, free_row, id_left}
use Rattle.model.specs.Request.{Request.new_object, Request.duplicate, Request.retire_object, Answer.done, Answer.opened}
use Rattle.model.specs.Decision.{Decision, Decision.refusal, Decision.accept, unless◌refuse◌then◌}
use Rattle.model.specs.Lookup.{lookup, on_view}
use Rattle.model.proofs.Decided.{on_handle}
use Rattle.model.specs.Step.{new_object_of, duplicate_of, retire_object_of, decide}
use Rattle.model.specs.Words.{used_words}
use Rattle.layout.specs.declared.Shape.{Shape}
use Rattle.layout.specs.Layout.{Mem, root, index, item, load, Write.at, load_writes, in_item}
use Rattle.layout.specs.Fields.{root_used_rows, index_place, item_object, item_rights, item_flags}
use Rattle.layout.specs.Values.{kind_parcel, stage_active}
use Rattle.layout.specs.RegionNames.{region_root, region_index}
use Rattle.representation.specs.Represents.{stage_word, HandleIs, ObjectIs, Represents, Rep}
use Rattle.representation.specs.Told.{retired_tells}
use Rattle.storage.specs.Reps.{Held, held_of}
use Rattle.object.specs.Words.{record_at, activate_w, raise_w, retire_w, raise_refusal}
use Rattle.object.specs.Reps.{supported_is, stage_is, count_is, limit_is, activate_held, raise_held, retire_held, limit_room}
use Rattle.book.specs.Ops.{spare, handle_w, Fills, fills_handle}
use Rattle.book.specs.Decided.{decided_by, refused_when, accepted_when, left_is, free_place, next_after, spare_low}
use Rattle.book.specs.Swap.{spare_held}
use Rattle.book.specs.Open.{open_held}
use Rattle.answer.specs.Does.{refuse_r, Does, does_refused, does_accepted}
use Rattle.lookup.specs.declared.PreparedHandle.{PreparedHandle}
use Rattle.lookup.specs.View.{Opened}
use Rattle.lookup.specs.View.{Opened.Refused, Opened.Handle as Found}
use Rattle.lookup.specs.View.{table_refusal, open_of}
use Rattle.lookup.specs.Named.{Opens, Active, active_on, table_open, table_refused, open_refused_is, open_found_is}
use Rattle.lookup.specs.Read.{on_opened, opened_known}
use Rattle.parcel.specs.Ops.{retire_r, parcel_w, activation_refusal, row_refusal, new_refusal, new_object_r, copy_refusal, copied_r, duplicate_r}

-- ---- the words of a parcel of one handle

module _ (ws : List ℕ) (sh : Shape) (s : State) (h : Held ws sh s) (free : length s.book.rows < s.book.capacity) where
  abbrev x : ℕ
  x = spare (load ws sh)

  module _ (o r f : ℕ) where
    fills : Fills ws (handle_w ws sh (spare (load ws sh)) 0 o r f) sh (spare (load ws sh))
    fills = fills_handle ws sh h.reps.shaped.room (spare (load ws sh)) 0 o r f

    handle_in : HandleIs (load (handle_w ws sh (spare (load ws sh)) 0 o r f) sh) (spare (load ws sh)) 0 (record { object = o; rights = r; flags = f })
    unfolding handle_w
    handle_in = let low = spare_low ws sh s h free in
        let e = load_writes ws sh h.reps.shaped.room (at (item x 0 item_object) o ∷ at (item x 0 item_rights) r ∷ at (item x 0 item_flags) f ∷ [])
        (in_item sh x 0 item_object low (omega arith) (omega arith), (in_item sh x 0 item_rights low (omega arith) (omega arith), (in_item sh x 0 item_flags low (omega arith) (omega arith), tt))) in
        rw (e, eq-eqb (spare (load ws sh)) (spare (load ws sh)) refl) (refl, refl, refl)

    same_place : spare (load (handle_w ws sh (spare (load ws sh)) 0 o r f) sh) ≡ spare (load ws sh)
    same_place = let p = fills in
        p.rest region_index (load (handle_w ws sh (spare (load ws sh)) 0 o r f) sh (root root_used_rows)) 0 index_place (λ q z. omega arith)
        ∙ ap (λ (i : ℕ). load ws sh (index i)) (p.rest region_root 0 0 root_used_rows (λ q z. omega arith))

    -- A PARCEL OF ONE HANDLE opens
    pub parcel_held : s.book.next + 1 < 2 ^ 64 → Held (parcel_w ws sh o r f) sh (add_row (parcel (record { object = o; rights = r; flags = f } ∷ [])) s)
    unfolding parcel_w
    parcel_held left =
        let ws' : List ℕ = handle_w ws sh (spare (load ws sh)) 0 o r f in
        open_held (handle_w ws sh (spare (load ws sh)) 0 o r f) sh s (spare_held ws (handle_w ws sh (spare (load ws sh)) 0 o r f) sh s h (spare (load ws sh)) fills free refl) free kind_parcel 0 1
        (parcel (record { object = o; rights = r; flags = f } ∷ []))
        (rw same_place (refl, refl, (handle_in, tt))) left

-- ---- refusals

abbrev activation_by : Bool → Bool → Bool → Bool → ℕ
activation_by e r a l = pick e (pick r 9 (pick a 10 (pick l 11 0))) 6

abbrev new_by : Bool → Bool → Bool → ℕ → Bool → ℕ
new_by w c k n i = pick w (pick c (pick k (pick (eqb n 0) (pick i 12 0) n) 7) 6) 1

new_checks : (w c k e r a l i : Bool) (d : Decision)
    → (unless w refuse 1 then unless c refuse 6 then unless k refuse 7 then unless e refuse 6 then unless not r refuse 9 then unless not a refuse 10 then unless not l refuse 11 then
    unless not i refuse 12 then d)
    ≡ decided_by (new_by w c k (activation_by e r a l) i) d
new_checks false c k e r a l i d = refl
new_checks true false k e r a l i d = refl
new_checks true true false e r a l i d = refl
new_checks true true true false r a l i d = refl
new_checks true true true true true a l i d = refl
new_checks true true true true false true l i d = refl
new_checks true true true true false false true i d = refl
new_checks true true true true false false false true d = refl
new_checks true true true true false false false false d = refl

-- the checks of a copy, then what follows them
raise_or : (r l : Bool) (n : ℕ) → pick (eqb (pick r 9 (pick l 11 0)) 0) n (pick r 9 (pick l 11 0)) ≡ pick r 9 (pick l 11 n)
raise_or true l n = refl
raise_or false true n = refl
raise_or false false n = refl

abbrev copy_by : Bool → Bool → Bool → Bool → Bool → ℕ
copy_by a c r l i = pick a (pick c (pick r 9 (pick l 11 (pick i 12 0))) 5) 5

copy_checks : (a c r l i : Bool) (d : Decision)
    → (unless a refuse 5 then unless c refuse 5 then unless not r refuse 9 then unless not l refuse 11 then unless not i refuse 12 then d) ≡ decided_by (copy_by a c r l i) d
copy_checks false c r l i d = refl
copy_checks true false r l i d = refl
copy_checks true true true l i d = refl
copy_checks true true false true i d = refl
copy_checks true true false false true d = refl
copy_checks true true false false false d = refl

active_tells : (g : Stage) → eqb (stage_word g) stage_active ≡ is_now_active g
active_tells still_new = refl
active_tells now_active = refl
active_tells now_retired = refl

exportable_tells : (b : Bool) (x y : ℕ) → pick (eqb (bit b) 0) x y ≡ pick b y x
exportable_tells true x y = refl
exportable_tells false x y = refl

activation_is : (m : Mem) (o : ℕ) (x : Object) → ObjectIs m o x → activation_refusal (record_at m o) ≡ activation_by x.exportable (is_now_retired x.stage) (is_now_active x.stage) (eqb x.count x.limit)
unfolding activation_refusal record_at
activation_is m o x q = rw (q.exportable, q.stage, q.count, q.limit, retired_tells x.stage, active_tells x.stage) (exportable_tells x.exportable 6 _)

-- a refusal of 0 leaves a row and an id
new_free : (w c k : Bool) (n : ℕ) (i : Bool) → new_by w c k n i ≡ 0 → (w ≡ true) × (i ≡ false)
new_free false c k n i e = absurd (omega arith)
new_free true false k n i e = absurd (omega arith)
new_free true true false n i e = absurd (omega arith)
new_free true true true zero true e = absurd (omega arith)
new_free true true true zero false e = (refl, refl)
new_free true true true (suc n) i e = let z : pick (eqb (suc n) 0) (pick i 12 0) (suc n) ≡ suc n = rw (ne_eqb (suc n) 0 (λ q. omega arith)) in absurd (omega (arith, e, z))

copy_free : (a c r l i : Bool) → copy_by a c r l i ≡ 0 → (l ≡ false) × (i ≡ false)
copy_free false c r l i e = absurd (omega arith)
copy_free true false r l i e = absurd (omega arith)
copy_free true true true l i e = absurd (omega arith)
copy_free true true false true i e = absurd (omega arith)
copy_free true true false false true e = absurd (omega arith)
copy_free true true false false false e = (refl, refl)

-- ---- the requests

module _ (ws : List ℕ) (sh : Shape) (s : State) (i : Rep ws sh s) (os : List ℕ) (base : ℕ) where
  held : Held ws sh s
  held = held_of ws sh s i

  r : Represents sh (load ws sh) s
  r = i.reps.memory

  known_is : (o : ℕ) → ltb o sh.objects ≡ ltb o s.object_count
  known_is o = ap (ltb o) r.object_count

  -- RETIRE OBJECT is the model's step
  pub retire_object_does : (o : ℕ) → Does ws os sh base s (retire_object o) (retire_r ws os sh base o)
  unfolding retire_r decide retire_object_of used_words
  retire_object_does o = rw (known_is o)
      (bool (ltb o s.object_count)
      (λ p. rw p (does_accepted os sh base s (retire_object o) (retire_w ws sh o) (with_objects s (change retired_by_owner s.objects o)) done
      (retire_held ws sh s held o (ltb-true o s.object_count p)).reps (rw p)))
      (λ p. rw p (does_refused os sh base s (retire_object o) ws 18 i.reps (rw p))))

  module _ (o rights flags : ℕ) where
    abbrev object' : Object
    object' = s.objects o

    abbrev new_by' : ℕ
    new_by' = new_by (free_row s) (contains object'.supported rights) (contains known_flags flags)
        (activation_by object'.exportable (is_now_retired object'.stage) (is_now_active object'.stage) (eqb object'.count object'.limit)) (eqb s.book.next last_id)

    abbrev made : Decision
    made = accept (add_row (parcel (record { object = o; rights = rights; flags = flags } ∷ [])) (with_objects s (change activated s.objects o))) (opened s.book.next)

    new_is : o < s.object_count → new_refusal (load ws sh) sh o rights flags ≡ new_by'
    unfolding new_refusal row_refusal
    new_is l = let q = r.objects o l in
        rw (known_is o, lt-ltb o s.object_count l, activation_is (load ws sh) o (s.objects o) q, left_is ws sh s i, r.book.next, supported_is (load ws sh) o (s.objects o) q)

    new_decided : o < s.object_count → new_object_of till s o rights flags ≡ decided_by new_by' made
    unfolding new_object_of
    new_decided l = rw (lt-ltb o s.object_count l)
        (new_checks (free_row s) (contains object'.supported rights) (contains known_flags flags) object'.exportable (is_now_retired object'.stage) (is_now_active object'.stage)
        (eqb object'.count object'.limit) (eqb s.book.next last_id) made)

    new_unknown_is : ltb o s.object_count ≡ false → new_refusal (load ws sh) sh o rights flags ≡ 18
    unfolding new_refusal
    new_unknown_is p = rw (known_is o, p)

    new_unknown_decided : ltb o s.object_count ≡ false → new_object_of till s o rights flags ≡ refusal 18
    unfolding new_object_of
    new_unknown_decided p = rw p

    new_held : o < s.object_count → new_by' ≡ 0 → Held (parcel_w (activate_w ws sh o) sh o rights flags) sh
        (add_row (parcel (record { object = o; rights = rights; flags = flags } ∷ [])) (with_objects s (change activated s.objects o)))
    new_held l z =
        let p = new_free (free_row s) (contains object'.supported rights) (contains known_flags flags)
        (activation_by object'.exportable (is_now_retired object'.stage) (is_now_active object'.stage) (eqb object'.count object'.limit)) (eqb s.book.next last_id) z in
        parcel_held (activate_w ws sh o) sh (with_objects s (change activated s.objects o)) (activate_held ws sh s held o l) (free_place ws sh s i p.0) o rights flags (next_after ws sh s i p.1)

    -- NEW OBJECT is the model's step
    pub new_object_does : Does ws os sh base s (new_object o rights flags) (new_object_r ws os sh base o rights flags)
    unfolding new_object_r decide used_words
    new_object_does = bool (ltb o s.object_count)
        (λ y. let l : o < s.object_count = ltb-true o s.object_count y in
        rw (new_is l, r.book.next) (bool (eqb new_by' 0)
        (λ p. let z : new_by' ≡ 0 = eqb-true new_by' 0 p in
        rw p (does_accepted os sh base s (new_object o rights flags) (parcel_w (activate_w ws sh o) sh o rights flags) _ (opened s.book.next) (new_held l z).reps
        (accepted_when new_by' (new_object_of till s o rights flags) made (new_decided l) z)))
        (λ p. rw p (does_refused os sh base s (new_object o rights flags) ws new_by' i.reps
        (refused_when new_by' (new_object_of till s o rights flags) made (new_decided l) (eqb-false new_by' 0 p))))))
        (λ y. rw (new_unknown_is y) (does_refused os sh base s (new_object o rights flags) ws 18 i.reps (new_unknown_decided y)))

  module _ (b v rights : ℕ) where
    -- what follows the lookup
    abbrev copies : Table → ℕ → Handle → Decision
    copies t k h =
        unless contains h.rights duplicate_right refuse 5 then
        unless contains h.rights rights refuse 5 then
        unless not (is_now_retired (s.objects h.object).stage) refuse 9 then
        unless not (eqb (s.objects h.object).count (s.objects h.object).limit) refuse 11 then
        unless id_left s refuse 12 then
        accept (add_row (parcel (with_rights h rights ∷ [])) (with_objects s (change raise s.objects h.object))) (opened s.book.next)

    abbrev after_table : Table → Decision
    after_table t = unless free_row s refuse 1 then on_view (lookup t v) 2 3 (copies t)

    table_is : Active s b → duplicate_of till s b v rights ≡ after_table (s.tables b)
    unfolding duplicate_of
    table_is a = active_on s b a after_table

    inactive_is : (n : ℕ) → table_refusal (load ws sh) sh b ≡ n → (n ≡ 0 → ⊥) → duplicate_of till s b v rights ≡ refusal n
    unfolding duplicate_of
    inactive_is n e ne = table_refused sh (load ws sh) s r b n e ne after_table

    full_is : Active s b → free_row s ≡ false → duplicate_of till s b v rights ≡ refusal 1
    full_is a e = table_is a ∙ rw e

    lookup_is : Active s b → free_row s ≡ true → (d : Decision) → on_handle s b v copies ≡ d → duplicate_of till s b v rights ≡ d
    lookup_is a e d k = table_is a ∙ rw e (sym (active_on s b a (λ t. on_view (lookup t v) 2 3 (copies t))) ∙ k)

    module _ (h : PreparedHandle) (k : Opens s b v h) where
      abbrev object'' : Object
      object'' = s.objects h.object

      abbrev copy_by' : ℕ
      copy_by' = copy_by (contains h.rights duplicate_right) (contains h.rights rights) (is_now_retired object''.stage) (eqb object''.count object''.limit) (eqb s.book.next last_id)

      abbrev copy : Handle
      copy = record { object = h.object; rights = rights; flags = h.flags }

      abbrev copied : Decision
      copied = accept (add_row (parcel (copy ∷ [])) (with_objects s (change raise s.objects h.object))) (opened s.book.next)

      known : h.object < s.object_count
      known = opened_known ws sh s i b v h k

      copy_is : copy_refusal (load ws sh) h rights ≡ copy_by'
      unfolding copy_refusal raise_refusal
      copy_is = let q = r.objects h.object known in
          rw (
            stage_is (load ws sh) h.object object'' q,
            retired_tells object''.stage,
            count_is (load ws sh) h.object object'' q,
            limit_is (load ws sh) h.object object'' q,
            r.book.next,
            raise_or (is_now_retired object''.stage) (eqb object''.count object''.limit) (pick (eqb s.book.next last_id) 12 0),
          )

      copy_decided : Active s b → free_row s ≡ true → duplicate_of till s b v rights ≡ decided_by copy_by' copied
      copy_decided a e = lookup_is a e (decided_by copy_by' copied) (k.handle copies
          ∙ copy_checks (contains h.rights duplicate_right) (contains h.rights rights) (is_now_retired object''.stage) (eqb object''.count object''.limit) (eqb s.book.next last_id) copied)

      copy_held : free_row s ≡ true → copy_by' ≡ 0 → Held (parcel_w (raise_w ws sh h.object) sh h.object rights h.flags) sh
          (add_row (parcel (copy ∷ [])) (with_objects s (change raise s.objects h.object)))
      copy_held e z =
          let p = copy_free (contains h.rights duplicate_right) (contains h.rights rights) (is_now_retired object''.stage) (eqb object''.count object''.limit) (eqb s.book.next last_id) z in
          let c : object''.count < object''.limit = omega (arith, i.well_formed.counts.within h.object known, eqb-false object''.count object''.limit p.0) in
          let w = limit_room object''.count object''.limit (i.well_formed.ranges.objects h.object known).limit c in
          parcel_held (raise_w ws sh h.object) sh (with_objects s (change raise s.objects h.object)) (raise_held ws sh s held h.object known w) (free_place ws sh s i e)
          h.object rights h.flags (next_after ws sh s i p.1)

      copied_does : Active s b → free_row s ≡ true → Does ws os sh base s (duplicate b v rights) (copied_r ws os sh base rights h)
      unfolding copied_r decide used_words
      copied_does a e = rw (copy_is, r.book.next) (bool (eqb copy_by' 0)
          (λ p. let z : copy_by' ≡ 0 = eqb-true copy_by' 0 p in
          rw p (does_accepted os sh base s (duplicate b v rights) (parcel_w (raise_w ws sh h.object) sh h.object rights h.flags) _ (opened s.book.next) (copy_held e z).reps
          (accepted_when copy_by' (duplicate_of till s b v rights) copied (copy_decided a e) z)))
          (λ p. rw p (does_refused os sh base s (duplicate b v rights) ws copy_by' i.reps
          (refused_when copy_by' (duplicate_of till s b v rights) copied (copy_decided a e) (eqb-false copy_by' 0 p)))))

    -- DUPLICATE is the model's step
    pub duplicate_does : Does ws os sh base s (duplicate b v rights) (duplicate_r ws os sh base b v rights)
    unfolding duplicate_r decide
    duplicate_does = rw (left_is ws sh s i) (bool (eqb (table_refusal (load ws sh) sh b) 0)
        (λ p. let a = table_open sh (load ws sh) s r b (eqb-true (table_refusal (load ws sh) sh b) 0 p) in
        rw p (bool (free_row s)
        (λ e. rw e (go a e (open_of (load ws sh) sh b v) refl))
        (λ e. rw e (does_refused os sh base s (duplicate b v rights) ws 1 i.reps (full_is a e)))))
        (λ p. rw p (does_refused os sh base s (duplicate b v rights) ws (table_refusal (load ws sh) sh b) i.reps
        (inactive_is (table_refusal (load ws sh) sh b) refl (eqb-false (table_refusal (load ws sh) sh b) 0 p)))))
      where
        go : Active s b → free_row s ≡ true → (x : Opened) → open_of (load ws sh) sh b v ≡ x
            → Does ws os sh base s (duplicate b v rights) (on_opened x (λ n. refuse_r ws os base n) (λ h. copied_r ws os sh base rights h))
        go a e (Refused n) d = does_refused os sh base s (duplicate b v rights) ws n i.reps (lookup_is a e (refusal n) (open_refused_is sh (load ws sh) s r b v n d copies))
        go a e (Found h) d = copied_does h (open_found_is sh (load ws sh) s r b v h d) a e
