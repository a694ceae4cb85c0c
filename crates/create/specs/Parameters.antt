-- Creation's parameters in words: docs/formats.md, "Creation's parameters". Assumes nothing.
use Rattle.std.specs.Prelude.{Option, Some, None}
use Rattle.std.specs.Prelude.{◌≡◌, refl, Bool, true, false, ◌&&◌, List, [], ◌∷◌, ℕ, zero, suc, ◌+◌, ◌-◌, ◌*◌, ◌^◌, ◌≤◌, ◌<◌, min, length, get_or, ltb, leb}
use Rattle.std.proofs.Common.{sym, ap, arith, le-ltb, ltb-true, le-leb, leb-true}
use Rattle.words.specs.Pick.{pick, bool, both, both_is, clash, all_six}
use Rattle.layout.specs.declared.Shape.{Shape}
use Rattle.layout.specs.Sizes.{pages_max, tables_max, frames_max, objects_max, rows_max}
use Rattle.model.specs.Base.{at_most, between, every, sum}
use Rattle.model.specs.State.{till, max_tables, max_frames, max_objects, max_rows, max_limit, max_slots}
use Rattle.model.specs.Create.{TableParameters, ObjectParameters, Parameters, max_pages, table_permitted, object_permitted, permitted}
use Rattle.std.proofs.lemmas.Bool.Decides.{nat_tests}
use Rattle.model.proofs.Tests.{within}

-- n things, from that of number k on
abbrev pub from {ℓ} : {A : Type ℓ} → (ℕ → A) → ℕ → ℕ → List A
from f k zero = []
from f k (suc n) = f k ∷ from f (suc k) n

-- the words of table b: pages and seed
abbrev pub table_from : List ℕ → ℕ → TableParameters
table_from ps b = record { pages = get_or ps (4 + b * 2) 0; seed = get_or ps (4 + b * 2 + 1) 0 }

-- the words of an object, from a place on
abbrev pub object_from : List ℕ → ℕ → ObjectParameters
object_from ps i = record {
  koid = get_or ps i 0;
  kind = get_or ps (i + 1) 0;
  class = get_or ps (i + 2) 0;
  supported = get_or ps (i + 3) 0;
  exportable = get_or ps (i + 4) 0;
  limit = get_or ps (i + 5) 0;
}

-- where the words of object o stand, after those of t tables
abbrev pub object_place : ℕ → ℕ → ℕ
object_place t o = 4 + t * 2 + o * 6

abbrev pub object_of : List ℕ → ℕ → ℕ → ObjectParameters
object_of ps t o = object_from ps (object_place t o)

unfoldable pub tables_in : List ℕ → ℕ → List TableParameters
tables_in ps n = from (table_from ps) 0 n

unfoldable pub objects_in : List ℕ → ℕ → ℕ → List ObjectParameters
objects_in ps t n = from (object_of ps t) 0 n

-- THE READING: tables, frames, objects, rows; then each table's words, then each object's
unfoldable pub parameters_of : List ℕ → Parameters
parameters_of ps = record {
  tables = tables_in ps (get_or ps 0 0);
  frames = get_or ps 1 0;
  rows = get_or ps 3 0;
  objects = objects_in ps (get_or ps 0 0) (get_or ps 2 0);
}

-- how many words the parameters have
abbrev pub need : List ℕ → ℕ
need ps = 4 + get_or ps 0 0 * 2 + get_or ps 2 0 * 6

-- the pages of the first n tables, each at most the limit
abbrev pub page_sum : List ℕ → ℕ → ℕ
page_sum ps n = sum n λ b. min (table_from ps b).pages pages_max

unfoldable pub shape_in : List ℕ → Shape
shape_in ps = record { tables = get_or ps 0 0; pages = page_sum ps (get_or ps 0 0); frames = get_or ps 1 0; objects = get_or ps 2 0; rows = get_or ps 3 0 }

-- what creation asks of its parameters
pub record Good (ps : List ℕ) : Type 0 where
  pub long : need ps ≤ length ps
  pub within : permitted till (parameters_of ps) ≡ true

-- the state's counts, if the parameters are good
unfoldable pub plan_of : List ℕ → Option Shape
plan_of ps = pick (leb (need ps) (length ps) && permitted till (parameters_of ps)) (Some (shape_in ps)) None

-- ---- lists of things by number

pub from_length {ℓ} : {A : Type ℓ} (f : ℕ → A) (k n : ℕ) → length (from f k n) ≡ n
from_length f k zero = refl
from_length f k (suc n) = ap suc (from_length f (suc k) n)

-- ---- tests

at_most_yes : (a b : ℕ) → a ≤ b → at_most a b ≡ true
at_most_yes a b h = rw (le-ltb b a h)

within_yes : (a x b : ℕ) → a ≤ x → x ≤ b → between a x b ≡ true
within_yes a x b h g = both_is (at_most a x) (at_most x b) (at_most_yes a x h) (at_most_yes x b g)

-- one table
pub record TableGood (p : TableParameters) : Type 0 where
  pub some_page : 1 ≤ p.pages
  pub few_pages : p.pages ≤ pages_max
  pub seed : p.seed < 2 ^ 64

pub table_is : (p : TableParameters) → table_permitted till p ≡ true → TableGood p
unfolding max_slots
table_is p e =
    let q = both (between 1 p.pages (max_pages till)) (ltb p.seed (2 ^ 64)) e in
    let w = within 1 p.pages (max_pages till) q.0 in
    record { some_page = w.0; few_pages = omega arith; seed = ltb-true p.seed (2 ^ 64) q.1 }

-- one object
pub record ObjectGood (p : ObjectParameters) : Type 0 where
  pub some_koid : 1 ≤ p.koid
  pub koid : p.koid < 2 ^ 64
  pub kind : p.kind < 2 ^ 32
  pub class : p.class < 3
  pub supported : p.supported < 2 ^ 64
  pub exportable : p.exportable < 2
  pub limit : p.limit < 2 ^ 32

six_all : (a b c d e f : Bool) → a ≡ true → b ≡ true → c ≡ true → d ≡ true → e ≡ true → f ≡ true → (a && (b && (c && (d && (e && f))))) ≡ true
six_all a b c d e f p q r s t u = rw (p, q, r, s, t, u)

pub object_is : (p : ObjectParameters) → object_permitted p ≡ true → ObjectGood p
unfolding max_limit
object_is p h =
    let t = all_six (between 1 p.koid (2 ^ 64 - 1)) (ltb p.kind (2 ^ 32)) (ltb p.class 3)
    (ltb p.supported (2 ^ 64)) (ltb p.exportable 2) (between 0 p.limit max_limit) h in
    let k = within 1 p.koid (2 ^ 64 - 1) t.0 in let l = within 0 p.limit max_limit t.5 in
    record {
      some_koid = k.0;
      koid = omega arith;
      kind = ltb-true p.kind (2 ^ 32) t.1;
      class = ltb-true p.class 3 t.2;
      supported = ltb-true p.supported (2 ^ 64) t.3;
      exportable = ltb-true p.exportable 2 t.4;
      limit = omega arith;
    }

-- the counts
pub record CountsGood (ps : List ℕ) : Type 0 where
  pub some_table : 1 ≤ get_or ps 0 0
  pub few_tables : get_or ps 0 0 ≤ tables_max
  pub few_frames : get_or ps 1 0 ≤ frames_max
  pub some_object : 1 ≤ get_or ps 2 0
  pub few_objects : get_or ps 2 0 ≤ objects_max
  pub some_row : 1 ≤ get_or ps 3 0
  pub few_rows : get_or ps 3 0 ≤ rows_max
  pub long : need ps ≤ length ps

-- all that the code tests
pub record Checked (ps : List ℕ) : Type 0 where
  pub counts : CountsGood ps
  pub tables : every (table_permitted till) (tables_in ps (get_or ps 0 0)) ≡ true
  pub objects : every object_permitted (objects_in ps (get_or ps 0 0) (get_or ps 2 0)) ≡ true

pub good_checked : (ps : List ℕ) → Good ps → Checked ps
unfolding permitted parameters_of tables_in objects_in max_tables max_frames max_objects max_rows
good_checked ps g =
    let lt = from_length (table_from ps) 0 (get_or ps 0 0) in let lo = from_length (object_of ps (get_or ps 0 0)) 0 (get_or ps 2 0) in
    let t = all_six (between 1 (length (tables_in ps (get_or ps 0 0))) max_tables) (every (table_permitted till) (tables_in ps (get_or ps 0 0))) (between 0 (get_or ps 1 0) max_frames)
    (between 1 (length (objects_in ps (get_or ps 0 0) (get_or ps 2 0))) max_objects) (every object_permitted (objects_in ps (get_or ps 0 0) (get_or ps 2 0))) (between 1 (get_or ps 3 0) max_rows) g.within in
    let a = within 1 (length (tables_in ps (get_or ps 0 0))) max_tables t.0 in let b = within 0 (get_or ps 1 0) max_frames t.2 in
    let c = within 1 (length (objects_in ps (get_or ps 0 0) (get_or ps 2 0))) max_objects t.3 in let d = within 1 (get_or ps 3 0) max_rows t.5 in
    record {
      counts = record {
        some_table = omega arith;
        few_tables = omega arith;
        few_frames = omega arith;
        some_object = omega arith;
        few_objects = omega arith;
        some_row = omega arith;
        few_rows = omega arith;
        long = g.long;
      };
      tables = t.1;
      objects = t.4;
    }

pub checked_good : (ps : List ℕ) → Checked ps → Good ps
unfolding permitted parameters_of tables_in objects_in max_tables max_frames max_objects max_rows
checked_good ps k =
    let lt = from_length (table_from ps) 0 (get_or ps 0 0) in let lo = from_length (object_of ps (get_or ps 0 0)) 0 (get_or ps 2 0) in
    let c = k.counts in
    record {
      long = c.long;
      within = six_all (between 1 (length (tables_in ps (get_or ps 0 0))) max_tables) (every (table_permitted till) (tables_in ps (get_or ps 0 0))) (between 0 (get_or ps 1 0) max_frames)
          (between 1 (length (objects_in ps (get_or ps 0 0) (get_or ps 2 0))) max_objects) (every object_permitted (objects_in ps (get_or ps 0 0) (get_or ps 2 0))) (between 1 (get_or ps 3 0) max_rows)
          (within_yes 1 (length (tables_in ps (get_or ps 0 0))) max_tables (omega arith) (omega arith)) k.tables (within_yes 0 (get_or ps 1 0) max_frames (omega arith) (omega arith))
          (within_yes 1 (length (objects_in ps (get_or ps 0 0) (get_or ps 2 0))) max_objects (omega arith) (omega arith)) k.objects (within_yes 1 (get_or ps 3 0) max_rows (omega arith) (omega arith));
    }

-- ---- the plan

pub plan_good : (ps : List ℕ) → Good ps → Some (shape_in ps) ≡ plan_of ps
unfolding plan_of
plan_good ps g = rw (le-leb (need ps) (length ps) g.long, g.within)

pub plan_bad : (ps : List ℕ) → (Good ps → ⊥) → None ≡ plan_of ps
unfolding plan_of
plan_bad ps h = bool (leb (need ps) (length ps) && permitted till (parameters_of ps))
    (λ e. let b = both (leb (need ps) (length ps)) (permitted till (parameters_of ps)) e in
    absurd (h (record { long = leb-true (need ps) (length ps) b.0; within = b.1 })))
    (λ e. rw e)

-- the code's tests, in their order
abbrev pub counts_fit : ℕ → ℕ → ℕ → ℕ → Bool
counts_fit t f o r = between 1 t tables_max && (between 0 f frames_max && (between 1 o objects_max && between 1 r rows_max))

decide : (ps : List ℕ) (b : Bool) → (b ≡ true → Good ps) → (Good ps → b ≡ true) → plan_of ps ≡ pick b (Some (shape_in ps)) None
decide ps true y n = sym (plan_good ps (y refl))
decide ps false y n = sym (plan_bad ps (λ g. clash (n g) refl))

pub plan_is : (ps : List ℕ) → plan_of ps
    ≡ pick (counts_fit (get_or ps 0 0) (get_or ps 1 0) (get_or ps 2 0) (get_or ps 3 0)
    && (leb (need ps) (length ps)
    && (every (table_permitted till) (tables_in ps (get_or ps 0 0))
    && every object_permitted (objects_in ps (get_or ps 0 0) (get_or ps 2 0)))))
    (Some (shape_in ps)) None
plan_is ps = decide ps _
    (λ e. checked_good ps (grind (arith, nat_tests)))
    (λ g. let k = good_checked ps g in let c = k.counts in grind (arith, nat_tests))

-- no sum of pages is large
pub pages_small : (ps : List ℕ) (n : ℕ) → page_sum ps n ≤ n * pages_max
pages_small ps zero = omega arith
pages_small ps (suc n) = omega (arith, pages_small ps n)
