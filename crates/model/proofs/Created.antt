-- Creation gives a well-formed state.
use Rattle.std.specs.Prelude.{◌≡◌, refl, true, ℕ, zero, suc, ◌-◌, ◌^◌, ◌≤◌, length, ltb}
use Rattle.std.proofs.Math.Option.{Option, none, some}
use Rattle.std.proofs.Common.{arith, ltb-true, le-ltb}
use Rattle.words.specs.Pick.{all_six}
use Rattle.codec.proofs.Laws.{mask_below}
use Rattle.model.specs.Base.{nth, every, between, range, sum}
use Rattle.model.specs.State.{Sizes, Slot.absent, State, Stage.still_new, no_page, max_tables, max_frames, max_objects, max_rows, max_limit}
use Rattle.model.specs.State.{max_slots}
use Rattle.model.specs.Create.{TableParameters, ObjectParameters, Parameters, max_pages, table_permitted, object_permitted, permitted, new_table}
use Rattle.model.specs.Create.{new_object_record, created, create}
use Rattle.model.specs.WellFormed.{TableRange, ObjectRange, Rising, Orders, WellFormed, pages_with, in_slot}
use Rattle.model.proofs.Tests.{bool, apart, clash, and_left, within, nth_some, nth_past, nth_passes}
use Rattle.model.proofs.Sums.{range_all, sum_zero}

range_rises : (k n : ℕ) → Rising (range k n)
range_rises k zero = tt
range_rises k (suc zero) = tt
range_rises k (suc (suc n)) = (omega arith, range_rises (suc k) (suc n))

-- a new table, whatever its parameters
slot_new : (o : Option TableParameters) (k : ℕ) → (new_table o).slots k ≡ absent
slot_new none k = refl
slot_new (some p) k = refl

page_new : (o : Option TableParameters) (p : ℕ) → (new_table o).pages p ≡ no_page
page_new none p = refl
page_new (some q) p = refl

orders_new : (z : Sizes) (o : Option TableParameters) → Orders z (new_table o)
orders_new z none = record { there = λ k. refl; free = λ k. refl; empty = λ p. refl; detached = λ p. rw (le-ltb p 0 (omega arith)) }
orders_new z (some q) = record { there = λ k. refl; free = λ k. refl; empty = λ p. refl; detached = λ p. rw (le-ltb p 0 (omega arith)) }

table_new : (z : Sizes) (s : State) (q : TableParameters) → table_permitted z q ≡ true → TableRange z s (new_table (some q))
table_new z s q e = record {
  limit = within 1 q.pages (max_pages z) (and_left (between 1 q.pages (max_pages z)) (ltb q.seed (2 ^ 64)) e);
  size = omega arith;
  mask = mask_below q.seed;
  epoch = omega arith;
  life = tt;
  high = λ p h. absurd (omega arith);
  slots = λ k. tt;
}

object_new : (q : ObjectParameters) → object_permitted q ≡ true → ObjectRange (new_object_record (some q))
object_new q e =
    let t = all_six (between 1 q.koid (2 ^ 64 - 1)) (ltb q.kind (2 ^ 32)) (ltb q.class 3)
    (ltb q.supported (2 ^ 64)) (ltb q.exportable 2) (between 0 q.limit max_limit) e in
    let k : (1 ≤ q.koid) × (q.koid ≤ 2 ^ 64 - 1) = within 1 q.koid (2 ^ 64 - 1) t.0 in record {
      koid = (k.0, omega arith);
      kind = ltb-true q.kind (2 ^ 32) t.1;
      supported = ltb-true q.supported (2 ^ 64) t.3;
      limit = (within 0 q.limit max_limit t.5).1;
    }

count_new : (o : Option ObjectParameters) → (new_object_record o).count ≡ 0
count_new none = refl
count_new (some q) = refl

stage_new : (o : Option ObjectParameters) → (new_object_record o).stage ≡ still_new
stage_new none = refl
stage_new (some q) = refl

pub created_well_formed : (z : Sizes) (p : Parameters) → permitted z p ≡ true → WellFormed z (created p)
unfolding permitted created
created_well_formed z p e =
    let t = all_six (between 1 (length p.tables) max_tables) (every (table_permitted z) p.tables) (between 0 p.frames max_frames)
    (between 1 (length p.objects) max_objects) (every object_permitted p.objects) (between 1 p.rows max_rows) e in record {
      ranges = record {
        table_count = within 1 (length p.tables) max_tables t.0;
        frame_count = (within 0 p.frames max_frames t.2).1;
        object_count = within 1 (length p.objects) max_objects t.3;
        capacity = within 1 p.rows max_rows t.5;
        row_count = omega arith;
        tables = λ b h. let q = nth_some p.tables b h in
            rw q.1 (table_new z (created p) q.0 (nth_passes (table_permitted z) p.tables t.1 b q.0 q.1));
        objects = λ o h. let q = nth_some p.objects o h in
            rw q.1 (object_new q.0 (nth_passes object_permitted p.objects t.4 o q.0 q.1));
        rows = tt;
      };
      frames = record {
        once = λ f. let n : pages_with (created p) f ≡ 0 = sum_zero (length p.tables) _
            (λ b m. sum_zero (new_table (nth p.tables b)).limit _ (λ k l. rw (page_new (nth p.tables b) k))) in
            omega (arith, n, range_all f p.frames);
        rising = range_rises 0 p.frames;
      };
      orders = λ b. orders_new z (nth p.tables b);
      generations = λ b k n. clash (rw (slot_new (nth p.tables b) k)) n;
      counts = record {
        counted = λ o h. let n : (sum (length p.tables) λ b. sum max_slots λ k. in_slot o ((new_table (nth p.tables b)).slots k)) ≡ 0 =
            sum_zero (length p.tables) _ (λ b m. sum_zero max_slots _ (λ k l. rw (slot_new (nth p.tables b) k))) in
            omega (arith, n, count_new (nth p.objects o));
        staged = λ o h. rw (stage_new (nth p.objects o)) (count_new (nth p.objects o));
        within = λ o h. rw (count_new (nth p.objects o)) (omega arith);
      };
      lifecycles = record {
        closing = λ b n. refl;
        closed = λ b k r. rw (slot_new (nth p.tables b) k);
      };
      ids = record { rise = omega arith; next = omega arith };
      marks = record {
        reserved = λ i b k. rw (slot_new (nth p.tables b) k);
        transfer_reserved = λ i b k. rw (slot_new (nth p.tables b) k);
      };
      at_rest = record {
        tables = λ b h. rw (nth_past p.tables b h);
        pages = λ b k h. page_new (nth p.tables b) k;
        objects = λ o h. rw (nth_past p.objects o h);
      };
    }

pub create_well_formed : (z : Sizes) (p : Parameters) (s : State) → create z p ≡ some s → WellFormed z s
create_well_formed z p s e = bool (permitted z p)
    (λ q. let y : some (created p) ≡ some s = rw q at e in let x : created p ≡ s = cc in rw x at (created_well_formed z p q))
    (λ q. let y : none ≡ some s = rw q at e in apart (cc))
