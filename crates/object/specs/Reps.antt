-- The steps on an object in the state: words that represent a state come to represent the model's state after the step. Assumes nothing.
use Rattle.std.specs.Prelude.{◌≡◌, false, ℕ, ◌+◌, ◌≤◌, ◌<◌, ltb}
use Rattle.std.proofs.Math.Path.{refl}
use Rattle.std.proofs.Common.{◌∙◌, arith, eq-eqb}
use Rattle.std.proofs.Math.Bool.{and-false}
use mathlib.Core.List.{List}
use Rattle.std.proofs.Math.ListN.{length}
use Rattle.words.specs.Pick.{bool}
use Rattle.model.specs.Base.{put}
use Rattle.model.specs.State.{Stage, Stage.now_active, Stage.now_retired, Object, State, max_limit}
use Rattle.model.specs.Change.{with_objects}
use Rattle.model.specs.Objects.{with_count, activated, raise, lower, retired_by_owner, change}
use Rattle.layout.specs.declared.Shape.{Shape}
use Rattle.layout.specs.Layout.{Addr, Addr.reg, Mem, total, object, load, save, same, same_is, is_in, length_save, load_save_any, Write, writes, upds, in_object, length_writes, load_writes}
use Rattle.layout.specs.Fields.{object_stage, object_active}
use Rattle.layout.specs.RegionNames.{region_object}
use Rattle.representation.specs.Represents.{stage_word, ObjectIs}
use Rattle.storage.specs.Kept.{Stays, RowsStay}
use Rattle.storage.specs.Reps.{Held}
use Rattle.object.specs.declared.ObjectRecord.{ObjectRecord}
use Rattle.object.specs.Record.{activated_by, raised_by, lowered_by, retired_by}
use Rattle.object.specs.Words.{record_at, record_p, step_w, activate_w, raise_w, lower_w, retire_w}
use Rattle.object.specs.Whole.{OnlyObject, object_stays, object_rows, held_object}

-- ---- what a step shows, whatever the words

apart_object : (o g k x y f : ℕ) → (k ≡ region_object → x ≡ o → ⊥) → same (object o g) (reg k x y f) ≡ false
apart_object o g k x y f h = bool (same (object o g) (reg k x y f))
    (λ e. let q : reg k x y f ≡ object o g = same_is (object o g) (reg k x y f) e in absurd (h (cc) (cc)))
    (λ e. e)

module _ (f : ObjectRecord → ObjectRecord) (ws : List ℕ) (sh : Shape) (o : ℕ) where
  pub step_length : length (step_w f ws sh o) ≡ length ws
  unfolding step_w
  step_length = length_writes ws sh (record_p o (f (record_at (load ws sh) o)))

  -- the other addresses keep their words
  pub step_only : total sh ≤ length ws → OnlyObject o (load ws sh) (load (step_w f ws sh o) sh)
  unfolding step_w
  step_only h k x y g n = let r : ObjectRecord = f (record_at (load ws sh) o) in let a : Addr = reg k x y g in
      load_save_any (save ws sh (object o object_stage) r.stage) sh (omega (arith, length_save ws sh (object o object_stage) r.stage)) (object o object_active) r.count a
      ∙ rw (apart_object o object_active k x y g n, and-false (is_in sh (object o object_active)))
      (load_save_any ws sh h (object o object_stage) r.stage a ∙ rw (apart_object o object_stage k x y g n, and-false (is_in sh (object o object_stage))))

  -- so that tables and rows keep theirs
  module _ (h : total sh ≤ length ws) where
    pub step_stays : (b : ℕ) → Stays (load ws sh) (load (step_w f ws sh o) sh) b
    step_stays = object_stays o (load ws sh) (load (step_w f ws sh o) sh) (step_only h)

    pub step_rows : RowsStay (load ws sh) (load (step_w f ws sh o) sh)
    step_rows = object_rows o (load ws sh) (load (step_w f ws sh o) sh) (step_only h)

-- ---- in a represented state

-- the record that the words show
module _ (m : Mem) (o : ℕ) (x : Object) (q : ObjectIs m o x) where
  pub supported_is : (record_at m o).supported ≡ x.supported
  unfolding record_at
  supported_is = q.supported

  pub stage_is : (record_at m o).stage ≡ stage_word x.stage
  unfolding record_at
  stage_is = q.stage

  pub count_is : (record_at m o).count ≡ x.count
  unfolding record_at
  count_is = q.count

  pub limit_is : (record_at m o).limit ≡ x.limit
  unfolding record_at
  limit_is = q.limit

module _ (ws : List ℕ) (sh : Shape) (s : State) (h : Held ws sh s) (o : ℕ) (l : o < s.object_count) where
  -- a step that gives the stage g and the count n
  pub step_held : (f : ObjectRecord → ObjectRecord) (g : Stage) (n : ℕ) → (f (record_at (load ws sh) o)).stage ≡ stage_word g → (f (record_at (load ws sh) o)).count ≡ n
      → Held (step_w f ws sh o) sh (with_objects s (put s.objects o (with_count (s.objects o) g n)))
  unfolding step_w
  step_held f g n a b =
      let room : total sh ≤ length ws = h.reps.shaped.room in
      let xs : List Write = record_p o (f (record_at (load ws sh) o)) in
      let d : o < sh.objects = omega (arith, h.reps.memory.object_count) in
      let e : load (writes ws sh xs) sh ≡ upds (load ws sh) xs = load_writes ws sh room xs (in_object sh o object_stage d (omega arith), (in_object sh o object_active d (omega arith), tt)) in
      let q = h.reps.memory.objects o l in
      held_object ws (step_w f ws sh o) sh s o (with_count (s.objects o) g n) h (step_length f ws sh o) (step_only f ws sh o room)
      (rw e record {
        koid = q.koid;
        kind = q.kind;
        class = q.class;
        supported = q.supported;
        exportable = q.exportable;
        stage = rw (eq-eqb o o refl) a;
        count = rw (eq-eqb o o refl) b;
        limit = q.limit;
      })

  -- ACTIVATE
  pub activate_held : Held (activate_w ws sh o) sh (with_objects s (change activated s.objects o))
  activate_held = step_held activated_by now_active 1 refl refl

  -- RAISE: a count with room for one more
  pub raise_held : (s.objects o).count < 0xffff_ffff_ffff_ffff → Held (raise_w ws sh o) sh (with_objects s (change raise s.objects o))
  unfolding record_at
  raise_held i = let q = h.reps.memory.objects o l in
      step_held raised_by (s.objects o).stage ((s.objects o).count + 1) q.stage (omega (arith, q.count))

  -- LOWER
  pub lower_held : Held (lower_w ws sh o) sh (with_objects s (change lower s.objects o))
  unfolding record_at
  lower_held = let q = h.reps.memory.objects o l in
      bool (ltb 1 (s.objects o).count)
      (λ e. step_held lowered_by _ _ (rw (q.count, e) q.stage) (omega (arith, q.count)))
      (λ e. step_held lowered_by _ _ (rw (q.count, e)) (omega (arith, q.count)))

  -- RETIRE
  pub retire_held : Held (retire_w ws sh o) sh (with_objects s (change retired_by_owner s.objects o))
  unfolding record_at
  retire_held = step_held retired_by now_retired (s.objects o).count refl (h.reps.memory.objects o l).count

-- a count below its limit has room
pub limit_room : (c n : ℕ) → n ≤ max_limit → c < n → c < 0xffff_ffff_ffff_ffff
unfolding max_limit
limit_room c n h i = omega arith
