-- The lifecycle of one table, in the state: only words 2 and 3 of its head change. Assumes nothing.
use Rattle.std.specs.Prelude.{◌≡◌, refl, ℕ, zero, suc, ◌+◌, ◌%◌, ◌<◌, length, eqb}
use Rattle.std.proofs.Common.{sym, ◌∙◌, arith, eqb-true, eq-eqb, ne_eqb}
use mathlib.Core.List.{List, [], ◌∷◌}
use Rattle.words.specs.Pick.{bool}
use Rattle.model.specs.Base.{put}
use Rattle.model.specs.State.{till, Lifecycle, Table, State}
use Rattle.model.specs.Change.{with_table, with_life}
use Rattle.model.proofs.Sums.{sum_equal}
use Rattle.invariant.proofs.Orders.{recast}
use Rattle.layout.specs.declared.Shape.{Shape}
use Rattle.layout.specs.Layout.{Mem, cell, head, load, Write, Write.at, upds, in_head, length_writes, load_writes}
use Rattle.layout.specs.ShapeOf.{roots_kept}
use Rattle.layout.specs.Fields.{head_lifecycle, head_cursor, head_first_free, slot_tag, slot_generation, slot_next_free, slot_previous_free, slot_place, slot_position, slot_object, slot_rights, slot_flags}
use Rattle.layout.specs.Sizes.{page_size}
use Rattle.layout.specs.RegionNames.{region_head, region_group16}
use Rattle.representation.specs.Represents.{word_in, frame_of, slot_word, slot_from, slot_in, LifeIs, TableIs, Represents}
use Rattle.storage.specs.Order.{chain_frame}
use Rattle.storage.specs.Slots.{tagged_rows}
use Rattle.storage.specs.Kept.{frames_kept, object_kept, RowsStay, owners_plans, mark_kept, book_kept}
use Rattle.storage.specs.Whole.{Placed, put_like}
use Rattle.storage.specs.Reps.{Held}
use Rattle.teardown.specs.Ops.{life_w}

module _ (m : Mem) (b w c : ℕ) where
  -- the memory then: every other address computes to its word in m
  abbrev lived : Mem
  lived = upds m (at (head b head_lifecycle) w ∷ at (head b head_cursor) c ∷ [])

  stay : RowsStay m lived
  stay = record { places = λ i. refl; ranks = λ i. refl; rows = λ i f. refl; items = λ i j f. refl }

  word_kept : (a k f : ℕ) → slot_word lived a k f ≡ slot_word m a k f
  word_kept a k f = go (frame_of m a k)
    where
      go : (fr : ℕ) → word_in lived fr (k % page_size) f ≡ word_in m fr (k % page_size) f
      go zero = refl
      go (suc fr) = refl

  slot_kept : (a k : ℕ) → slot_in lived a k ≡ slot_in m a k
  slot_kept a k = go (frame_of m a k)
    where
      go : (fr : ℕ) → slot_from lived fr (k % page_size) ≡ slot_from m fr (k % page_size)
      go zero = refl
      go (suc fr) = let j : ℕ = k % page_size in tagged_rows m lived (λ r. refl) (m (cell fr j slot_tag)) (m (cell fr j slot_generation)) (m (cell fr j slot_object)) (m (cell fr j slot_rights)) (m (cell fr j slot_flags))

  -- a table, with the lifecycle that its head shows
  table_lived : (a : ℕ) (t : Table) (x : Lifecycle) → TableIs m a t → LifeIs (lived (head a head_lifecycle)) (lived (head a head_cursor)) x → TableIs lived a (with_life t x)
  table_lived a t x i l = record {
    limit = i.limit;
    mask = i.mask;
    life = l;
    epoch = i.epoch;
    size = i.size;
    frame = i.frame;
    high = i.high;
    busy = i.busy;
    slots = λ k. slot_kept a k ∙ i.slots k;
    free = chain_frame (λ k. slot_word m a k slot_next_free) (λ k. slot_word m a k slot_previous_free) _ _ (m (head a head_first_free)) 0 t.free i.free (λ k h. (word_kept a k slot_next_free, word_kept a k slot_previous_free));
    free_count = i.free_count;
    empty = i.empty;
    detached = i.detached;
  }

module _ (sh : Shape) (m : Mem) (s : State) (r : Represents sh m s) (b w c : ℕ) (x : Lifecycle) (is : LifeIs w c x) where
  abbrev u : Table
  u = with_life (s.tables b) x

  -- THE STATE WITH THE LIFECYCLE
  with_life_law : Represents sh (lived m b w c) (with_table s b u)
  with_life_law = record {
    table_count = r.table_count;
    frame_count = r.frame_count;
    object_count = r.object_count;
    capacity = r.capacity;
    page_count = r.page_count ∙ sum_equal s.table_count (λ a. (s.tables a).limit) (λ a. (put s.tables b u a).limit) (λ a l. sym (put_like (λ t. t.limit) s.tables b u refl a));
    first = λ a l. r.first a l ∙ sum_equal a (λ i. (s.tables i).limit) (λ i. (put s.tables b u i).limit) (λ i h. sym (put_like (λ t. t.limit) s.tables b u refl i));
    tables = λ a l. bool (eqb a b)
        (λ e. let q : a ≡ b = eqb-true a b e in rw (e, q) (table_lived m b w c b (s.tables b) x (rw q at (r.tables a l)) (rw (eq-eqb b b refl) is)))
        (λ e. rw e (table_lived m b w c a (s.tables a) (s.tables a).life (r.tables a l) (rw e (r.tables a l).life)));
    frames = frames_kept m (lived m b w c) s (with_table s b u) (record { owners = λ g. refl; groups = λ i l g. rw (ne_eqb (region_group16 + i) region_head (λ e. omega arith)); count = refl }) (λ a. refl) refl refl
        (λ a p f l h e. (l, rw (put_like (λ t. t.size) s.tables b u refl a) at h, sym (put_like (λ t. (t.pages p).frame) s.tables b u refl a) ∙ e)) r.frames;
    objects = λ o l. object_kept m (lived m b w c) o (s.objects o) (λ f. refl) (r.objects o l);
    book = book_kept m (lived m b w c) (stay m b w c) s (with_table s b u) refl refl refl (owners_plans m (lived m b w c) (λ f. refl) (length s.book.rows))
        (λ a k l h. mark_kept m (lived m b w c) (stay m b w c) s a k (word_kept m b w c a k slot_tag) (word_kept m b w c a k slot_place) (word_kept m b w c a k slot_position)
        (r.book.marks a k l (rw (put_like (λ t. t.slots k) s.tables b u refl a) at h))) r.book;
  }

module _ (ws : List ℕ) (sh : Shape) (s : State) (h : Held ws sh s) (b : ℕ) (lb : b < s.table_count) (w c : ℕ) (x : Lifecycle) (is : LifeIs w c x) where
  placed : Placed till (with_table s b (with_life (s.tables b) x))
  placed = let u : Table = with_life (s.tables b) x in let p = h.placed in record {
    sound = λ a l. bool (eqb a b)
        (λ e. let o = p.sound b lb in rw e (recast till (s.tables b) (s.tables b).free o (s.tables b).mask x (s.tables b).epoch (s.tables b).free o.epoch))
        (λ e. rw e (p.sound a l));
    frames = λ a q f l i e. p.frames a q f l (rw (put_like (λ t. t.size) s.tables b u refl a) at i) (sym (put_like (λ t. (t.pages q).frame) s.tables b u refl a) ∙ e);
  }

  -- LIFE: words that represent a state come to represent the state with the table's lifecycle
  pub life_held : Held (life_w ws sh b w c) sh (with_table s b (with_life (s.tables b) x))
  unfolding life_w
  life_held =
      let xs : List Write = at (head b head_lifecycle) w ∷ at (head b head_cursor) c ∷ [] in
      let k : b < sh.tables = omega (arith, h.reps.memory.table_count) in
      let q = h.reps.shaped in
      let e = load_writes ws sh q.room xs (in_head sh b head_lifecycle k (omega arith), (in_head sh b head_cursor k (omega arith), tt)) in
      record {
        reps = record {
          shaped = record {
            limits = q.limits;
            room = omega (arith, length_writes ws sh xs, q.room);
            roots = rw e (roots_kept sh (load ws sh) (lived (load ws sh) b w c) (λ f i. refl) q.roots);
          };
          memory = rw e (with_life_law sh (load ws sh) s h.reps.memory b w c x is);
        };
        placed = placed;
      }
