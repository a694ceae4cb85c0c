-- The storage clauses of a state, and what keeps them: a change of one table, of objects at rest, of the book.
use Rattle.std.specs.Prelude.{◌≡◌, refl, List, [], ◌∷◌, ◌++◌, ℕ, ◌+◌, ◌^◌, ◌≤◌, ◌<◌, eqb}
use Rattle.std.proofs.Common.{ap, ◌∙◌, arith, ne_eqb}
use Rattle.std.proofs.Math.Option.{some}
use Rattle.codec.specs.Codec.{generation_limit}
use Rattle.model.specs.Base.{occurs}
use Rattle.model.specs.State.{Sizes, Handle, Table, Object, Entry, Entry.moved, Entry.copied, Body, Body.reservation, Body.claim, Body.parcel, Body.plan, Row, State, Lifecycle, no_object, max_tables, max_frames}
use Rattle.model.specs.State.{max_objects, max_rows}
use Rattle.model.specs.Change.{with_table, with_objects, with_frames, with_book, with_life}
use Rattle.model.specs.Objects.{change_all, change}
use Rattle.model.specs.Book.{find, drop_id, swap_id, copies_of}
use Rattle.model.specs.Create.{max_pages}
use Rattle.model.specs.WellFormed.{EntryRange, All, LifeRange, Rising, IdsRise, frames_in, plans_with, Frames, Orders, Generations, AtRest, WellFormed}
use Rattle.model.proofs.Tests.{bool}
use Rattle.model.proofs.Sums.{sum_put}
use Rattle.invariant.proofs.Pointwise.{Alike}
use Rattle.invariant.proofs.BookLemmas.{PlanHalf, PlanRow, row_halves, Frameless, drop_frameless, over_add, over_swap, all_map, all_append, all_drop, all_swap}
use Rattle.invariant.proofs.Orders.{Sound, recast}
use Rattle.invariant.proofs.Frames.{owned, owned_alike}

-- a table's ranges, save its slots'
pub record TableStorage (z : Sizes) (t : Table) : Type 0 where
  pub limit : (1 ≤ t.limit) × (t.limit ≤ max_pages z)
  pub size : t.size ≤ t.limit
  pub mask : t.mask < 2 ^ 56
  pub epoch : t.epoch < 2 ^ 64
  pub life : LifeRange t.life
  pub high : (p : ℕ) → p < t.size → (1 ≤ (t.pages p).high) × ((t.pages p).high ≤ generation_limit)

pub record StorageClauses (z : Sizes) (s : State) : Type 0 where
  pub table_count : (1 ≤ s.table_count) × (s.table_count ≤ max_tables)
  pub frame_count : s.frame_count ≤ max_frames
  pub object_count : (1 ≤ s.object_count) × (s.object_count ≤ max_objects)
  pub capacity : (1 ≤ s.book.capacity) × (s.book.capacity ≤ max_rows)
  pub tables : (b : ℕ) → b < s.table_count → TableStorage z (s.tables b)
  pub frames : Frames s
  pub plans : All (PlanRow z s) s.book.rows
  pub orders : (b : ℕ) → Orders z (s.tables b)
  pub generations : (b : ℕ) → Generations z (s.tables b)
  pub at_rest : AtRest s

pub storage_of : (z : Sizes) (s : State) → WellFormed z s → StorageClauses z s
storage_of z s w = record {
  table_count = w.ranges.table_count;
  frame_count = w.ranges.frame_count;
  object_count = w.ranges.object_count;
  capacity = w.ranges.capacity;
  tables = λ b l. let r = w.ranges.tables b l in
      record { limit = r.limit; size = r.size; mask = r.mask; epoch = r.epoch; life = r.life; high = r.high };
  frames = w.frames;
  plans = (row_halves z s s.book.rows w.ranges.rows).1;
  orders = w.orders;
  generations = w.generations;
  at_rest = w.at_rest;
}

-- the counts stay as they are
abbrev pub SameCounts : State → State → Type 0
SameCounts s u = record {
  table_count : u.table_count ≡ s.table_count;
  object_count : u.object_count ≡ s.object_count;
  frame_count : u.frame_count ≡ s.frame_count;
  capacity : u.book.capacity ≡ s.book.capacity;
}

-- a plan's ranges ask only for the number of tables
module _ (z : Sizes) (s u : State) (e : u.table_count ≡ s.table_count) where
  plan_for : (x : Body) → PlanHalf z s x → PlanHalf z u x
  plan_for (reservation b ks) r = tt
  plan_for (claim b es) r = tt
  plan_for (parcel hs) r = tt
  plan_for (plan b n w fs) r = record { table = omega (arith, r.table, e); count = r.count; kept = r.kept; held = r.held; rising = r.rising }

  pub plans_for : (rs : List Row) → All (PlanRow z s) rs → All (PlanRow z u) rs
  plans_for rs a = all_map (λ r. plan_for r.body) rs a

module _ (z : Sizes) (s : State) (w : StorageClauses z s) where
  pub sound_of : (b : ℕ) → b < s.table_count → Sound z (s.tables b) (s.tables b).free
  sound_of b l = let r = w.tables b l in let o = w.orders b in record {
    limit = r.limit.1;
    size = r.size;
    epoch = r.epoch;
    high = r.high;
    rest = w.at_rest.pages b;
    there = o.there;
    free = o.free;
    empty = o.empty;
    detached = o.detached;
    generations = w.generations b;
  }

  -- rows that hold the frames that the state's hold, and plans in range
  pub record Plans (rs : List Row) : Type 0 where
    pub held : (f : ℕ) → plans_with rs f ≡ plans_with s.book.rows f
    pub range : All (PlanRow z s) rs

  pub plans_same : Plans s.book.rows
  plans_same = record { held = λ f. refl; range = w.plans }

  -- a row that is no plan is added, dropped or swapped
  module _ (rs : List Row) (p : Plans rs) where
    pub plans_add : (r : Row) → frames_in r.body ≡ [] → PlanRow z s r → Plans (rs ++ (r ∷ []))
    plans_add r e x = record {
      held = λ f. let y : occurs f (frames_in r.body) ≡ 0 = ap (occurs f) e in omega (arith, over_add (λ b. occurs f (frames_in b)) rs r, p.held f);
      range = all_append (PlanRow z s) rs (r ∷ []) p.range (x, tt);
    }

    pub plans_drop : (i : ℕ) → Frameless i rs → Plans (drop_id i rs)
    plans_drop i h = record { held = λ f. drop_frameless i f rs h ∙ p.held f; range = all_drop (PlanRow z s) i rs p.range }

    pub plans_swap : (i : ℕ) (x y : Body) (lo hi : ℕ) → IdsRise lo rs hi → find i rs ≡ some x → frames_in x ≡ [] → frames_in y ≡ [] → PlanHalf z s y → Plans (swap_id i y rs)
    plans_swap i x y lo hi h e d c k = record {
      held = λ f. let a : occurs f (frames_in x) ≡ 0 = ap (occurs f) d in let b : occurs f (frames_in y) ≡ 0 = ap (occurs f) c in
          omega (arith, over_swap (λ v. occurs f (frames_in v)) i x y lo hi rs h e, p.held f);
      range = all_swap (PlanRow z s) i y rs p.range (λ j. k);
    }

  -- what a request makes of a table, of the free frames and of the rows
  pub record Turn (b : ℕ) (t : Table) (fs : List ℕ) (rs : List Row) : Type 0 where
    pub sound : Sound z t t.free
    pub limit : t.limit ≡ (s.tables b).limit
    pub mask : t.mask ≡ (s.tables b).mask
    pub life : LifeRange t.life
    pub frames : (f : ℕ) → owned t f + plans_with rs f + occurs f fs ≡ owned (s.tables b) f + plans_with s.book.rows f + occurs f s.frames
    pub rising : Rising fs
    pub plans : All (PlanRow z s) rs

  pub turned : (b : ℕ) (t : Table) (fs : List ℕ) (rs : List Row) (m : ℕ) → b < s.table_count → Turn b t fs rs
      → StorageClauses z (with_book (with_frames (with_table s b t) fs) (record { rows = rs; capacity = s.book.capacity; next = m }))
  turned b t fs rs m l n = record {
    table_count = w.table_count;
    frame_count = w.frame_count;
    object_count = w.object_count;
    capacity = w.capacity;
    tables = λ c m. bool (eqb c b)
        (λ e. rw e (record {
          limit = rw n.limit (w.tables b l).limit;
          size = n.sound.size;
          mask = rw n.mask (w.tables b l).mask;
          epoch = n.sound.epoch;
          life = n.life;
          high = n.sound.high;
        }))
        (λ e. rw e (w.tables c m));
    frames = record {
      once = λ f. omega (arith, sum_put (λ u. owned u f) s.table_count s.tables b t l, n.frames f, w.frames.once f);
      rising = n.rising;
    };
    plans = plans_for z s _ refl rs n.plans;
    orders = λ c. bool (eqb c b)
        (λ e. rw e (record { there = n.sound.there; free = n.sound.free; empty = n.sound.empty; detached = n.sound.detached }))
        (λ e. rw e (w.orders c));
    generations = λ c. bool (eqb c b) (λ e. rw e n.sound.generations) (λ e. rw e (w.generations c));
    at_rest = record {
      tables = λ c m. rw (ne_eqb c b (λ y. omega arith)) (w.at_rest.tables c m);
      pages = λ c p. bool (eqb c b) (λ e. rw e (n.sound.rest p)) (λ e. rw e (w.at_rest.pages c p));
      objects = w.at_rest.objects;
    };
  }

  -- other objects, at rest beyond their count, other free frames and another book of equal room
  pub held_others : (os : ℕ → Object) → ((o : ℕ) → s.object_count ≤ o → os o ≡ no_object) → (fs : List ℕ) → Rising fs → (rs : List Row) (n : ℕ)
      → ((f : ℕ) → plans_with rs f + occurs f fs ≡ plans_with s.book.rows f + occurs f s.frames) → All (PlanRow z s) rs
      → StorageClauses z (with_book (with_frames (with_objects s os) fs) (record { rows = rs; capacity = s.book.capacity; next = n }))
  held_others os h fs r rs n e p = record {
    table_count = w.table_count;
    frame_count = w.frame_count;
    object_count = w.object_count;
    capacity = w.capacity;
    tables = w.tables;
    frames = record { once = λ f. omega (arith, w.frames.once f, e f); rising = r };
    plans = plans_for z s _ refl rs p;
    orders = w.orders;
    generations = w.generations;
    at_rest = record { tables = w.at_rest.tables; pages = w.at_rest.pages; objects = h };
  }

  -- the same with the frames that were free
  pub others : (os : ℕ → Object) → ((o : ℕ) → s.object_count ≤ o → os o ≡ no_object) → (rs : List Row) (n : ℕ) → Plans rs
      → StorageClauses z (with_book (with_objects s os) (record { rows = rs; capacity = s.book.capacity; next = n }))
  others os h rs n p = held_others os h s.frames w.frames.rising rs n (λ f. ap (λ x. x + occurs f s.frames) (p.held f)) p.range

  pub another : (rs : List Row) (n : ℕ) → Plans rs → StorageClauses z (with_book s (record { rows = rs; capacity = s.book.capacity; next = n }))
  another rs n p = others s.objects w.at_rest.objects rs n p

  -- an operation that leaves frames alone, with another life; and one that leaves life alone too
  pub life_turned : (b : ℕ) (t : Table) (f : Lifecycle) → b < s.table_count → Alike z (s.tables b) t → Sound z t t.free → LifeRange f
      → StorageClauses z (with_table s b (with_life t f))
  life_turned b t f l a o r = turned b (with_life t f) s.frames s.book.rows s.book.next l (record {
    sound = recast z t t.free o t.mask f t.epoch t.free o.epoch;
    limit = a.limit;
    mask = a.mask;
    life = r;
    frames = λ x. ap (λ n. n + plans_with s.book.rows x + occurs x s.frames) (owned_alike z (s.tables b) t a x);
    rising = w.frames.rising;
    plans = w.plans;
  })

  pub alike_turned : (b : ℕ) (t : Table) → b < s.table_count → Alike z (s.tables b) t → Sound z t t.free → StorageClauses z (with_table s b t)
  alike_turned b t l a o = life_turned b t t.life l a o (rw a.life (w.tables b l).life)

-- objects in range, and the rest at rest

abbrev pub InRange : ℕ → List Handle → Type 0
InRange n hs = All (λ h. h.object < n) hs

pub change_rest : (f : Object → Object) (n o : ℕ) (os : ℕ → Object) → o < n → ((j : ℕ) → n ≤ j → os j ≡ no_object) → (j : ℕ) → n ≤ j
    → change f os o j ≡ no_object
change_rest f n o os l h j m = rw (ne_eqb j o (λ y. omega arith)) (h j m)

pub change_all_rest : (f : Object → Object) (n : ℕ) (hs : List Handle) (os : ℕ → Object) → InRange n hs → ((j : ℕ) → n ≤ j → os j ≡ no_object)
    → (j : ℕ) → n ≤ j → change_all f hs os j ≡ no_object
change_all_rest f n [] os r h = h
change_all_rest f n (x ∷ hs) os r h = change_all_rest f n hs (change f os x.object) r.1 (change_rest f n x.object os r.0 h)

pub copies_range : (s : State) (es : List Entry) → All (EntryRange s) es → InRange s.object_count (copies_of es)
copies_range s [] r = tt
copies_range s (moved k h x ∷ es) r = copies_range s es r.1
copies_range s (copied h ∷ es) r = (r.0.object, copies_range s es r.1)
