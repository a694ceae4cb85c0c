-- Creation in the model's terms: its words represent the state that `created` gives. Assumes nothing.
use Rattle.std.specs.Prelude.{◌≡◌, refl, Bool, true, false, List, ℕ, zero, suc, ◌+◌, ◌-◌, ◌*◌, ◌/◌, ◌≤◌, ◌<◌, min, length, eqb, ltb, leb}
use Rattle.std.proofs.Math.Path.{sym}
use Rattle.std.proofs.Common.{ap, ◌∙◌, arith, lt-ltb, le-ltb, ltb-true, ltb-false, leb-true, leb-false, le-leb}
use Rattle.std.proofs.Math.Option.{some}
use Rattle.std.proofs.Math.ListN.{get_or}
use Rattle.words.specs.Pick.{bool, both, clash}
use Rattle.codec.specs.Codec.{mask_of}
use Rattle.layout.specs.Layout.{Mem, total, head, object}
use Rattle.layout.specs.ShapeOf.{Permitted, Roots}
use Rattle.layout.specs.Fields.{root_version, root_tables, root_frames, root_objects, root_rows, root_next_id, root_used_rows, root_free_frames, root_pages, head_page_limit, head_mask, head_lifecycle, head_epoch, head_pages, head_first_free, head_free_slots, head_first_empty, head_first_detached, object_koid, object_kind, object_class, object_supported, object_exportable, object_stage, object_active, object_limit}
use Rattle.layout.specs.Values.{life_active, stage_new}
use Rattle.layout.specs.Sizes.{page_size, pages_max}
use Rattle.model.specs.Base.{bit, nth, every, range, occurs, sum}
use Rattle.model.specs.State.{till, Slot.absent, max_slots}
use Rattle.model.specs.Create.{TableParameters, ObjectParameters, table_permitted, object_permitted, permitted, class_of, new_table, new_object_record, created}
use Rattle.model.proofs.Created.{created_well_formed}
use Rattle.model.proofs.Sums.{sum_equal, range_all, length_range}
use Rattle.representation.specs.Represents.{class_word, slot_in, TableIs, ObjectIs, Represents, Rep}
use Rattle.representation.specs.Unique.{shape_for}
use Rattle.create.specs.Parameters.{from, from_length, table_from, object_of, tables_in, objects_in, parameters_of, need, page_sum, pages_small, shape_in, Good, TableGood, table_is, ObjectGood, object_is, good_checked, plan_good, plan_bad}
use Rattle.create.specs.Creation.{built_w, placed_w, create_w, After, after}
use Rattle.create.specs.Memory.{m_new, load_built, length_built, built_past, new_root, new_limit, new_mask, new_first, new_life, new_epoch, new_size, new_free, new_count, new_empty, new_detached, new_owner}
use Rattle.create.specs.Memory.{new_sixteen, new_hundred, new_thousand, new_koid, new_kind, new_class, new_supported, new_exportable, new_stage, new_handles, new_most, new_index, new_rank}

-- what creation asks: parameter words for all counts, permitted parameters, and words enough for the state
pub record Asked (ws ps : List ℕ) : Type 0 where
  pub long : need ps ≤ length ps
  pub within : permitted till (parameters_of ps) ≡ true
  pub room : total (shape_for (created (parameters_of ps))) ≤ length ws

-- "gives 18 and changes no word", or 0, the words represent the new state, and those past it keep their values
pub record Meets (ws ps : List ℕ) (r : ℕ) (us : List ℕ) : Type 0 where
  pub done : Asked ws ps → (r ≡ 0) × Rep us (shape_for (created (parameters_of ps))) (created (parameters_of ps))
      × ((i : ℕ) → total (shape_for (created (parameters_of ps))) ≤ i → get_or us i 0 ≡ get_or ws i 0)
  pub refused : (Asked ws ps → ⊥) → (r ≡ 18) × (us ≡ ws)

-- ---- lists by number

nth_from {ℓ} : {A : Type ℓ} (f : ℕ → A) (k n i j : ℕ) → i < n → j ≡ k + i → nth (from f k n) i ≡ some (f j)
nth_from f k zero i j h e = absurd (omega arith)
nth_from f k (suc n) zero j h e = let q : k ≡ j = omega arith in ap (λ (x : ℕ). some (f x)) q
nth_from f k (suc n) (suc i) j h e = nth_from f (suc k) n i j (omega arith) (omega arith)

every_from {ℓ} : {A : Type ℓ} (p : A → Bool) (f : ℕ → A) (k n i j : ℕ) → every p (from f k n) ≡ true → i < n → j ≡ k + i → p (f j) ≡ true
every_from p f k zero i j e h q = absurd (omega arith)
every_from p f k (suc n) zero j e h q = let z : j ≡ k = omega arith in rw z (both (p (f k)) (every p (from f (suc k) n)) e).0
every_from p f k (suc n) (suc i) j e h q = every_from p f (suc k) n i j (both (p (f k)) (every p (from f (suc k) n)) e).1 (omega arith) (omega arith)

-- ---- frames that are all free

bit_below : (x n : ℕ) → x < n → bit (ltb x n) ≡ 1
bit_below x n h = rw (lt-ltb x n h)

bit_past : (x n : ℕ) → n ≤ x → bit (ltb x n) ≡ 0
bit_past x n h = rw (le-ltb x n h)

-- the free frames of a group that starts at frame a
group_count : (F a n : ℕ) → (sum n λ j. occurs (a + j) (range 0 F)) ≡ min n (F - a)
group_count F a zero = omega arith
group_count F a (suc n) = bool (ltb (a + n) F)
    (λ e. omega (arith, group_count F a n, range_all (a + n) F, bit_below (a + n) F (ltb-true (a + n) F e), ltb-true (a + n) F e))
    (λ e. omega (arith, group_count F a n, range_all (a + n) F, bit_past (a + n) F (ltb-false (a + n) F e), ltb-false (a + n) F e))

-- ---- the parts of a new state

-- no page, no slot
slot_none : (m : Mem) (b k : ℕ) → m (head b head_pages) ≡ 0 → slot_in m b k ≡ absent
slot_none m b k e = bool (ltb k max_slots)
    (λ q. rw (q, e, le-ltb (k / page_size) 0 (omega arith)))
    (λ q. rw q)

class_word_law : (n : ℕ) → n < 3 → n ≡ class_word (class_of n)
class_word_law zero h = refl
class_word_law (suc zero) h = refl
class_word_law (suc (suc zero)) h = refl
class_word_law (suc (suc (suc n))) h = absurd (omega arith)

bit_word : (n : ℕ) → n < 2 → n ≡ bit (eqb n 1)
bit_word zero h = refl
bit_word (suc zero) h = refl
bit_word (suc (suc n)) h = absurd (omega arith)

table_made : (m : Mem) (b : ℕ) (q : TableParameters) → m (head b head_page_limit) ≡ q.pages → m (head b head_mask) ≡ mask_of q.seed → m (head b head_lifecycle) ≡ life_active → m (head b head_epoch) ≡ 0 → m (head b head_pages) ≡ 0
    → m (head b head_first_free) ≡ 0 → m (head b head_free_slots) ≡ 0 → m (head b head_first_empty) ≡ 0 → m (head b head_first_detached) ≡ 0 → TableIs m b (new_table (some q))
table_made m b q e0 e1 e2 e4 e5 e6 e7 e8 e9 = record {
  limit = e0;
  mask = e1;
  life = e2;
  epoch = e4;
  size = e5;
  frame = λ p h. absurd (omega arith);
  high = λ p h. absurd (omega arith);
  busy = λ p h a. absurd (omega arith);
  slots = λ k. slot_none m b k e5;
  free = e6;
  free_count = e7;
  empty = e8;
  detached = e9;
}

object_made : (m : Mem) (o : ℕ) (q : ObjectParameters) → ObjectGood q → m (object o object_koid) ≡ q.koid → m (object o object_kind) ≡ q.kind → m (object o object_class) ≡ q.class → m (object o object_supported) ≡ q.supported
    → m (object o object_exportable) ≡ q.exportable → m (object o object_stage) ≡ stage_new → m (object o object_active) ≡ 0 → m (object o object_limit) ≡ q.limit → ObjectIs m o (new_object_record (some q))
object_made m o q g e0 e1 e2 e3 e4 e5 e6 e7 = record {
  koid = e0;
  kind = e1;
  class = e2 ∙ class_word_law q.class g.class;
  supported = e3;
  exportable = e4 ∙ bit_word q.exportable g.exportable;
  stage = e5;
  count = e6;
  limit = e7;
}

module _ (ps : List ℕ) (g : Good ps) where
  table_at_law : (b : ℕ) → b < get_or ps 0 0 → nth (tables_in ps (get_or ps 0 0)) b ≡ some (table_from ps b)
  unfolding tables_in
  table_at_law b h = nth_from (table_from ps) 0 (get_or ps 0 0) b b h (omega arith)

  object_at : (o : ℕ) → o < get_or ps 2 0 → nth (objects_in ps (get_or ps 0 0) (get_or ps 2 0)) o ≡ some (object_of ps (get_or ps 0 0) o)
  unfolding objects_in
  object_at o h = nth_from (object_of ps (get_or ps 0 0)) 0 (get_or ps 2 0) o o h (omega arith)

  table_good : (b : ℕ) → b < get_or ps 0 0 → TableGood (table_from ps b)
  unfolding tables_in
  table_good b h = table_is (table_from ps b) (every_from (table_permitted till) (table_from ps) 0 (get_or ps 0 0) b b (good_checked ps g).tables h (omega arith))

  object_good : (o : ℕ) → o < get_or ps 2 0 → ObjectGood (object_of ps (get_or ps 0 0) o)
  unfolding objects_in
  object_good o h = object_is (object_of ps (get_or ps 0 0) o) (every_from object_permitted (object_of ps (get_or ps 0 0)) 0 (get_or ps 2 0) o o (good_checked ps g).objects h (omega arith))

  -- a table has as many pages as its word says
  limit_at : (b : ℕ) → b < get_or ps 0 0 → min (table_from ps b).pages pages_max ≡ (new_table (nth (tables_in ps (get_or ps 0 0)) b)).limit
  limit_at b h = rw (table_at_law b h) (omega (arith, (table_good b h).few_pages))

  limits_sum : (n : ℕ) → n ≤ get_or ps 0 0 → page_sum ps n ≡ (sum n λ b. (new_table (nth (tables_in ps (get_or ps 0 0)) b)).limit)
  limits_sum n h = sum_equal n (λ b. min (table_from ps b).pages pages_max) (λ b. (new_table (nth (tables_in ps (get_or ps 0 0)) b)).limit) (λ b i. limit_at b (omega arith))

  some_pages : (n : ℕ) → n ≤ get_or ps 0 0 → n ≤ page_sum ps n
  some_pages zero h = omega arith
  some_pages (suc n) h = omega (arith, some_pages n (omega arith), (table_good n (omega arith)).some_page)

  tables_length : length (tables_in ps (get_or ps 0 0)) ≡ get_or ps 0 0
  unfolding tables_in
  tables_length = from_length (table_from ps) 0 (get_or ps 0 0)

  objects_length : length (objects_in ps (get_or ps 0 0) (get_or ps 2 0)) ≡ get_or ps 2 0
  unfolding objects_in
  objects_length = from_length (object_of ps (get_or ps 0 0)) 0 (get_or ps 2 0)

  -- the code's counts are the new state's
  pub shape_made : shape_in ps ≡ shape_for (created (parameters_of ps))
  unfolding shape_in shape_for created parameters_of
  shape_made = rw (tables_length, objects_length, limits_sum (get_or ps 0 0) (omega arith))

  made_limits : Permitted (shape_in ps)
  unfolding shape_in
  made_limits =
      let c = (good_checked ps g).counts in
      record {
        some_table = c.some_table;
        few_tables = c.few_tables;
        few_frames = c.few_frames;
        some_object = c.some_object;
        few_objects = c.few_objects;
        some_row = c.some_row;
        few_rows = c.few_rows;
        some_page = some_pages (get_or ps 0 0) (omega arith);
        few_pages = pages_small ps (get_or ps 0 0);
      }

  made_represents : Represents (shape_in ps) (m_new ps (shape_in ps)) (created (parameters_of ps))
  unfolding shape_in created parameters_of
  made_represents =
      let sh = shape_in ps in let m = m_new ps sh in
      record {
        table_count = sym tables_length;
        frame_count = refl;
        object_count = sym objects_length;
        capacity = refl;
        page_count = rw tables_length (limits_sum (get_or ps 0 0) (omega arith));
        first = λ b h. let i : b < get_or ps 0 0 = omega (arith, tables_length) in new_first ps sh b i ∙ limits_sum b (omega arith);
        tables = λ b h. let i : b < get_or ps 0 0 = omega (arith, tables_length) in
            rw (table_at_law b i) (table_made m b (table_from ps b) (new_limit ps sh b i) (new_mask ps sh b i) (new_life ps sh b) (new_epoch ps sh b) (new_size ps sh b)
            (new_free ps sh b) (new_count ps sh b) (new_empty ps sh b) (new_detached ps sh b));
        frames = record {
          held = λ b p f h i e. let j : b < get_or ps 0 0 = omega (arith, tables_length) in
              let z : (new_table (nth (tables_in ps (get_or ps 0 0)) b)).size ≡ 0 = rw (table_at_law b j) in absurd (omega arith);
          free = λ f h. new_owner ps sh f;
          sixteens = λ k h. new_sixteen ps sh k (omega arith) ∙ sym (group_count (get_or ps 1 0) (k * 16) 16);
          hundreds = λ k h. new_hundred ps sh k (omega arith) ∙ sym (group_count (get_or ps 1 0) (k * 256) 256);
          thousands = λ k h. new_thousand ps sh k (omega arith) ∙ sym (group_count (get_or ps 1 0) (k * 4096) 4096);
          count = new_root ps sh root_free_frames ∙ sym (length_range 0 (get_or ps 1 0));
        };
        objects = λ o h. let i : o < get_or ps 2 0 = omega (arith, objects_length) in
            rw (object_at o i) (object_made m o (object_of ps (get_or ps 0 0) o) (object_good o i) (new_koid ps sh o i) (new_kind ps sh o i) (new_class ps sh o i) (new_supported ps sh o i)
            (new_exportable ps sh o i) (new_stage ps sh o i) (new_handles ps sh o i) (new_most ps sh o i));
        book = record {
          next = new_root ps sh root_next_id;
          used = new_root ps sh root_used_rows;
          rows = tt;
          places = λ i h. let e = new_index ps sh i h in (rw e h, rw e (new_rank ps sh i h));
          marks = λ b k h q. let j : b < get_or ps 0 0 = omega (arith, tables_length) in
              clash {b = false} (rw (table_at_law b j) at q) refl;
        };
      }

  made_roots : Roots (shape_in ps) (m_new ps (shape_in ps))
  made_roots =
      let sh = shape_in ps in
      record { version = new_root ps sh root_version; tables = new_root ps sh root_tables; frames = new_root ps sh root_frames; objects = new_root ps sh root_objects; rows = new_root ps sh root_rows; pages = new_root ps sh root_pages }

  made_rep : (ws : List ℕ) → total (shape_in ps) ≤ length ws → Rep (built_w ws ps (shape_in ps)) (shape_in ps) (created (parameters_of ps))
  made_rep ws h = record {
    reps = record {
      shaped = record { limits = made_limits; room = omega (arith, length_built ps (shape_in ps) ws); roots = rw (load_built ps (shape_in ps) ws h) made_roots };
      memory = rw (load_built ps (shape_in ps) ws h) made_represents;
    };
    well_formed = created_well_formed till (parameters_of ps) g.within;
  }

-- ---- the call

good_or : {C : Type 0} (ps : List ℕ) → (Good ps → C) → ((Good ps → ⊥) → C) → C
good_or ps y n = bool (leb (need ps) (length ps))
    (λ e. bool (permitted till (parameters_of ps))
    (λ f. y (record { long = leb-true (need ps) (length ps) e; within = f }))
    (λ f. n (λ q. clash q.within f)))
    (λ e. n (λ q. omega (arith, q.long, leb-false (need ps) (length ps) e)))

call_bad : (ws ps : List ℕ) → (Good ps → ⊥) → create_w ws ps ≡ after 18 ws
unfolding create_w
call_bad ws ps n = rw (← plan_bad ps n)

call_short : (ws ps : List ℕ) → Good ps → length ws < total (shape_in ps) → create_w ws ps ≡ after 18 ws
unfolding create_w placed_w
call_short ws ps g h = rw (← plan_good ps g) (bool (leb (total (shape_in ps)) (length ws))
    (λ e. absurd (omega (arith, leb-true (total (shape_in ps)) (length ws) e)))
    (λ e. rw e))

call_done : (ws ps : List ℕ) → Good ps → total (shape_in ps) ≤ length ws → create_w ws ps ≡ after 0 (built_w ws ps (shape_in ps))
unfolding create_w placed_w
call_done ws ps g h = rw (← plan_good ps g, le-leb (total (shape_in ps)) (length ws) h)

both_are : (r q : ℕ) (us vs : List ℕ) → after r us ≡ after q vs → (r ≡ q) × (us ≡ vs)
both_are r q us vs e = (ap (λ (x : After). x.result) e, ap (λ (x : After). x.words) e)

-- THE CALL MEETS THE MODEL
pub create_meets : (ws ps : List ℕ) (r : ℕ) (us : List ℕ) → after r us ≡ create_w ws ps → Meets ws ps r us
create_meets ws ps r us e = record {
  done = λ a.
      let g : Good ps = record { long = a.long; within = a.within } in
      let s = shape_made ps g in
      let h : total (shape_in ps) ≤ length ws = rw s a.room in
      let w = both_are r 0 us (built_w ws ps (shape_in ps)) (e ∙ call_done ws ps g h) in
      (w.0, rw (w.1, ← s) (made_rep ps g ws h), rw (w.1, ← s) (built_past ps (shape_in ps) ws));
  refused = λ n. good_or ps
      (λ g. bool (leb (total (shape_in ps)) (length ws))
      (λ q. absurd (n (record { long = g.long; within = g.within; room = rw (← shape_made ps g) (leb-true (total (shape_in ps)) (length ws) q) })))
      (λ q. both_are r 18 us ws (e ∙ call_short ws ps g (leb-false (total (shape_in ps)) (length ws) q))))
      (λ g. both_are r 18 us ws (e ∙ call_bad ws ps g));
}
