-- The fields of an object's record: their ranges, and the object that they show. Assumes nothing.
use Rattle.std.specs.Prelude.{◌≡◌, refl, Bool, true, false, ◌&&◌, ◌||◌, List, ℕ, zero, suc, ◌+◌, ◌*◌, ◌^◌, ◌≤◌, ◌<◌, get_or, eqb, leb}
use Rattle.std.proofs.Math.Path.{sym}
use Rattle.std.proofs.Common.{arith}
use Rattle.std.proofs.lemmas.Bool.Decides.{nat_tests}
use borrow.Author.Tests.{eq-eqb, eqb-true, eqb-false, le-leb, leb-true}
use Rattle.words.specs.Pick.{bool, clash, both}
use Rattle.words.specs.All.{all, all_at, all_yes}
use Rattle.model.specs.Base.{bit}
use Rattle.model.specs.State.{till, Stage, Stage.still_new, Stage.now_active, Stage.now_retired, Object, State, max_limit}
use Rattle.model.specs.Create.{class_of}
use Rattle.model.specs.WellFormed.{ObjectRange, StageCount, WellFormed}
use Rattle.model.proofs.Tests.{bit_small}
use Rattle.layout.specs.declared.Shape.{Shape}
use Rattle.layout.specs.Layout.{Mem, objects_at, object, load}
use Rattle.layout.specs.Fields.{object_koid, object_kind, object_class, object_supported, object_exportable, object_stage, object_active, object_limit}
use Rattle.layout.specs.Values.{stage_new, stage_active, stage_retired, class_never}
use Rattle.layout.specs.Sizes.{number32_max, object_size}
use Rattle.representation.specs.Represents.{class_word, stage_word, ObjectIs, Represents}
use Rattle.representation.specs.Told.{class_small}
use Rattle.counts.specs.Shift.{object_load}

-- "a new object has count 0, an active one more": of a stage's word and a count
abbrev pub stage_b : ℕ → ℕ → Bool
stage_b zero n = eqb n 0
stage_b (suc zero) n = leb 1 n
stage_b (suc (suc zero)) n = true
stage_b (suc (suc (suc g))) n = false

-- the same by the states' names, checked
stage_b_names : (n : ℕ) → (stage_b stage_new n ≡ eqb n 0) × (stage_b stage_active n ≡ leb 1 n) × (stage_b stage_retired n ≡ true)
stage_b_names n = (refl, refl, refl)

-- "limits and field ranges hold", and "none is above its limit"
unfoldable pub object_b : Mem → ℕ → Bool
object_b m o =
    leb 1 (m (object o object_koid))
    && (leb (m (object o object_kind)) number32_max
    && (leb (m (object o object_class)) class_never
    && (leb (m (object o object_exportable)) 1
    && (leb (m (object o object_limit)) number32_max
    && (leb (m (object o object_active)) (m (object o object_limit))
    && stage_b (m (object o object_stage)) (m (object o object_active)))))))

unfoldable pub objects_b : Mem → Shape → Bool
objects_b m sh = all sh.objects (object_b m)

-- what the tests say of object o
pub record ObjectFits (m : Mem) (o : ℕ) : Type 0 where
  pub koid : 1 ≤ m (object o object_koid)
  pub kind : m (object o object_kind) ≤ number32_max
  pub class : m (object o object_class) ≤ class_never
  pub exportable : m (object o object_exportable) ≤ 1
  pub limit : m (object o object_limit) ≤ number32_max
  pub within : m (object o object_active) ≤ m (object o object_limit)
  pub staged : stage_b (m (object o object_stage)) (m (object o object_active)) ≡ true

module _ (m : Mem) (o : ℕ) where
  pub object_sound : object_b m o ≡ true → ObjectFits m o
  unfolding object_b
  object_sound e =
      let b₀ = both _ _ e in
      let b₁ = both _ _ b₀.1 in
      let b₂ = both _ _ b₁.1 in
      let b₃ = both _ _ b₂.1 in
      let b₄ = both _ _ b₃.1 in
      let b₅ = both _ _ b₄.1 in
      record {
        koid = leb-true _ _ b₀.0;
        kind = leb-true _ _ b₁.0;
        class = leb-true _ _ b₂.0;
        exportable = leb-true _ _ b₃.0;
        limit = leb-true _ _ b₄.0;
        within = leb-true _ _ b₅.0;
        staged = b₅.1;
      }

  pub object_complete : ObjectFits m o → object_b m o ≡ true
  unfolding object_b
  object_complete f =
      rw (
        le-leb 1 (m (object o object_koid)) f.koid,
        le-leb (m (object o object_kind)) number32_max f.kind,
        le-leb (m (object o object_class)) class_never f.class,
        le-leb (m (object o object_exportable)) 1 f.exportable,
        le-leb (m (object o object_limit)) number32_max f.limit,
        le-leb (m (object o object_active)) (m (object o object_limit)) f.within,
      ) f.staged

pub objects_sound : (m : Mem) (sh : Shape) → objects_b m sh ≡ true → (o : ℕ) → o < sh.objects → ObjectFits m o
unfolding objects_b
objects_sound m sh e o l = object_sound m o (all_at sh.objects (object_b m) e o l)

pub objects_complete : (m : Mem) (sh : Shape) → ((o : ℕ) → o < sh.objects → ObjectFits m o) → objects_b m sh ≡ true
unfolding objects_b
objects_complete m sh h = all_yes sh.objects (object_b m) (λ o l. object_complete m o (h o l))

-- ---- the object that the words show

abbrev pub stage_of : ℕ → Stage
stage_of zero = still_new
stage_of (suc zero) = now_active
stage_of (suc (suc n)) = now_retired

-- the same by the states' names, checked
stage_of_names : (stage_of stage_new ≡ still_new) × (stage_of stage_active ≡ now_active) × (stage_of stage_retired ≡ now_retired)
stage_of_names = (refl, refl, refl)

abbrev pub object_from : Mem → ℕ → Object
object_from m o = record {
  koid = m (object o object_koid);
  kind = m (object o object_kind);
  class = class_of (m (object o object_class));
  supported = m (object o object_supported);
  exportable = eqb (m (object o object_exportable)) 1;
  limit = m (object o object_limit);
  stage = stage_of (m (object o object_stage));
  count = m (object o object_active);
}

class_word_law : (n : ℕ) → n ≤ class_never → n ≡ class_word (class_of n)
class_word_law zero h = refl
class_word_law (suc zero) h = refl
class_word_law (suc (suc n)) h = omega arith

stage_word_law : (g n : ℕ) → stage_b g n ≡ true → g ≡ stage_word (stage_of g)
stage_word_law zero n e = refl
stage_word_law (suc zero) n e = refl
stage_word_law (suc (suc zero)) n e = refl
stage_word_law (suc (suc (suc g))) n e = clash e refl

bit_word : (n : ℕ) → n ≤ 1 → n ≡ bit (eqb n 1)
bit_word n h = bool (eqb n 1) (λ e. rw e (eqb-true n 1 e)) (λ e. rw e (omega (arith, eqb-false n 1 e)))

stage_count : (g n : ℕ) → stage_b g n ≡ true → StageCount (stage_of g) n
stage_count zero n e = eqb-true n 0 e
stage_count (suc zero) n e = leb-true 1 n e
stage_count (suc (suc zero)) n e = tt
stage_count (suc (suc (suc g))) n e = tt

module _ (m : Mem) (o : ℕ) (f : ObjectFits m o) where
  pub from_is : ObjectIs m o (object_from m o)
  from_is = record {
    koid = refl;
    kind = refl;
    class = class_word_law (m (object o object_class)) f.class;
    supported = refl;
    exportable = bit_word (m (object o object_exportable)) f.exportable;
    stage = stage_word_law (m (object o object_stage)) (m (object o object_active)) f.staged;
    count = refl;
    limit = refl;
  }

  pub from_range : m (object o object_koid) < 2 ^ 64 → m (object o object_supported) < 2 ^ 64 → ObjectRange (object_from m o)
  unfolding max_limit
  from_range a b = record { koid = (f.koid, a); kind = omega (arith, f.kind); supported = b; limit = f.limit }

  pub from_staged : StageCount (object_from m o).stage (object_from m o).count
  from_staged = stage_count (m (object o object_stage)) (m (object o object_active)) f.staged

-- ---- and back: the words of a well-formed state's object fit

stage_fits : (g : Stage) (n : ℕ) → StageCount g n → stage_b (stage_word g) n ≡ true
stage_fits still_new n h = eq-eqb n 0 h
stage_fits now_active n h = le-leb 1 n h
stage_fits now_retired n h = refl

pub fits_of : (m : Mem) (o : ℕ) (x : Object) → ObjectIs m o x → ObjectRange x → StageCount x.stage x.count → x.count ≤ x.limit → ObjectFits m o
unfolding max_limit
fits_of m o x i r g w = record {
  koid = omega (arith, i.koid, r.koid.0);
  kind = omega (arith, i.kind, r.kind);
  class = omega (arith, i.class, class_small x.class);
  exportable = omega (arith, i.exportable, bit_small x.exportable);
  limit = omega (arith, i.limit, r.limit);
  within = omega (arith, i.count, i.limit);
  staged = rw (i.stage, i.count) (stage_fits x.stage x.count g);
}

-- every object of a well-formed state does
pub objects_fit : (sh : Shape) (m : Mem) (s : State) → Represents sh m s → WellFormed till s → objects_b m sh ≡ true
objects_fit sh m s r w = objects_complete m sh (λ o l. let i : o < s.object_count = omega (arith, r.object_count) in
    fits_of m o (s.objects o) (r.objects o i) (w.ranges.objects o i) (w.counts.staged o i) (w.counts.within o i))

-- ---- what the code's tests say

-- a new or retired object may have no count, an active or retired one may have some
stage_is : (g n : ℕ) → stage_b g n ≡ ((eqb n 0 && (eqb g stage_new || eqb g stage_retired)) || (leb 1 n && (eqb g stage_active || eqb g stage_retired)))
stage_is zero n = grind (arith, nat_tests)
stage_is (suc zero) n = grind (arith, nat_tests)
stage_is (suc (suc zero)) n = grind (arith, nat_tests)
stage_is (suc (suc (suc g))) n = grind (arith, nat_tests)

-- the tests read one record
pub object_is : (ws : List ℕ) (sh : Shape) (first o : ℕ) → first ≡ objects_at sh → o < sh.objects → object_b (load ws sh) o
    ≡ (leb 1 (get_or ws (first + o * object_size) 0)
    && (leb (get_or ws (first + o * object_size + object_kind) 0) number32_max
    && (leb (get_or ws (first + o * object_size + object_class) 0) class_never
    && (leb (get_or ws (first + o * object_size + object_exportable) 0) 1
    && (leb (get_or ws (first + o * object_size + object_limit) 0) number32_max
    && (leb (get_or ws (first + o * object_size + object_active) 0) (get_or ws (first + o * object_size + object_limit) 0)
    && ((eqb (get_or ws (first + o * object_size + object_active) 0) 0 && (eqb (get_or ws (first + o * object_size + object_stage) 0) stage_new || eqb (get_or ws (first + o * object_size + object_stage) 0) stage_retired))
    || (leb 1 (get_or ws (first + o * object_size + object_active) 0) && (eqb (get_or ws (first + o * object_size + object_stage) 0) stage_active || eqb (get_or ws (first + o * object_size + object_stage) 0) stage_retired)))))))))
unfolding object_b
object_is ws sh first o h l =
    let at : (i f : ℕ) → f < object_size → i ≡ first + o * object_size + f → load ws sh (object o f) ≡ get_or ws i 0 = λ i f k e. sym (object_load ws sh first o h l i f k e) in
    rw (
      at (first + o * object_size) object_koid (omega arith) (omega arith),
      at _ object_kind (omega arith) refl,
      at _ object_class (omega arith) refl,
      at _ object_exportable (omega arith) refl,
      at _ object_stage (omega arith) refl,
      at _ object_active (omega arith) refl,
      at _ object_limit (omega arith) refl,
      stage_is,
    )
