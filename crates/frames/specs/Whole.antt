-- The state with a table whose pages changed, and other free frames. Assumes nothing.
use Rattle.std.specs.Prelude.{◌≡◌, refl, true, List, ℕ, ◌<◌, length, eqb}
use Rattle.std.proofs.Common.{sym, ◌∙◌, arith, eqb-true}
use Rattle.std.proofs.Math.Option.{some}
use Rattle.std.proofs.lemmas.Bool.{eqb-false}
use Rattle.words.specs.Pick.{bool}
use Rattle.model.specs.Base.{put}
use Rattle.model.specs.State.{Sizes, till, Table, State}
use Rattle.model.specs.Change.{with_table, with_frames}
use Rattle.model.proofs.Sums.{sum_equal}
use Rattle.invariant.proofs.Orders.{Sound}
use Rattle.layout.specs.declared.Shape.{Shape}
use Rattle.layout.specs.Layout.{Mem, load}
use Rattle.layout.specs.ShapeOf.{roots_kept}
use Rattle.layout.specs.Fields.{root_next_id, root_used_rows, slot_tag, slot_place, slot_position}
use Rattle.layout.specs.RegionNames.{region_object}
use Rattle.representation.specs.Represents.{slot_word, TableIs, FramesAre, is_marked, Represents}
use Rattle.storage.specs.Kept.{object_kept, PlansStay, MarkIs, mark_kept, book_kept}
use Rattle.storage.specs.Whole.{Placed, put_like}
use Rattle.storage.specs.Reps.{Held}
use Rattle.frames.specs.Paged.{OnlyPaged, Alone, paged_root, paged_first, paged_high, paged_rows, other_slot, other_table}

-- a mark on a slot whose words stay
pub paged_mark : (b fr : ℕ) (m n : Mem) → OnlyPaged b fr m n → (s : State) (k : ℕ) → slot_word n b k slot_tag ≡ slot_word m b k slot_tag → slot_word n b k slot_place ≡ slot_word m b k slot_place → slot_word n b k slot_position ≡ slot_word m b k slot_position
    → MarkIs m s b k → MarkIs n s b k
paged_mark b fr m n o s k = mark_kept m n (paged_rows b fr m n o) s b k

-- the state then
abbrev pub paged : State → ℕ → Table → List ℕ → State
paged s b u fs = with_frames (with_table s b u) fs

module _ (sh : Shape) (m : Mem) (s : State) (r : Represents sh m s) (pl : Placed till s) (b : ℕ) (lb : b < s.table_count) (fr : ℕ) (alone : Alone m s b fr)
    (n : Mem) (o : OnlyPaged b fr m n) (u : Table) (now : TableIs n b u) (lim : u.limit ≡ (s.tables b).limit)
    (plans : PlansStay m n (length s.book.rows)) where
  -- THE STATE WITH THE TABLE AND THE FREE FRAMES: the marks of table b are the operation's to show
  pub with_paged : (fs : List ℕ) → FramesAre n (paged s b u fs) → ((k : ℕ) → is_marked (u.slots k) ≡ true → MarkIs n s b k) → Represents sh n (paged s b u fs)
  with_paged fs frames marked = record {
    table_count = r.table_count;
    frame_count = r.frame_count;
    object_count = r.object_count;
    capacity = r.capacity;
    page_count = r.page_count ∙ sum_equal s.table_count (λ c. (s.tables c).limit) (λ c. (put s.tables b u c).limit)
        (λ c l. sym (put_like (λ t. t.limit) s.tables b u lim c));
    first = λ c l. paged_first b fr m n o c ∙ r.first c l ∙ sum_equal c (λ x. (s.tables x).limit) (λ x. (put s.tables b u x).limit)
        (λ x h. sym (put_like (λ t. t.limit) s.tables b u lim x));
    tables = λ c l. bool (eqb c b)
        (λ e. rw (e, eqb-true c b e) now)
        (λ e. rw e (other_table sh m s r pl b lb fr alone n o c l (eqb-false c b e)));
    frames = frames;
    objects = λ x l. object_kept m n x (s.objects x) (λ f. paged_high b fr m n o region_object x 0 f (omega arith)) (r.objects x l);
    book = book_kept m n (paged_rows b fr m n o) s (paged s b u fs) refl (paged_root b fr m n o root_next_id (λ e. omega arith)) (paged_root b fr m n o root_used_rows (λ e. omega arith)) plans
        (λ c k l h. bool (eqb c b)
        (λ e. rw (eqb-true c b e) (marked k (rw e at h)))
        (λ e. let w : (f : ℕ) → slot_word n c k f ≡ slot_word m c k f = other_slot sh m s r pl b lb fr alone n o c l (eqb-false c b e) k in
        mark_kept m n (paged_rows b fr m n o) s c k (w slot_tag) (w slot_place) (w slot_position) (r.book.marks c k l (rw e at h)))) r.book;
  }

  -- marks that were there, on slots whose words stay
  pub with_paged_marks : (fs : List ℕ) → FramesAre n (paged s b u fs)
      → ((k : ℕ) → is_marked (u.slots k) ≡ true
      → (is_marked ((s.tables b).slots k) ≡ true) × (slot_word n b k slot_tag ≡ slot_word m b k slot_tag) × (slot_word n b k slot_place ≡ slot_word m b k slot_place) × (slot_word n b k slot_position ≡ slot_word m b k slot_position))
      → Represents sh n (paged s b u fs)
  with_paged_marks fs frames h = with_paged fs frames (λ k e. let q = h k e in
      paged_mark b fr m n o s k q.1 q.2 q.3 (r.book.marks b k lb q.0))

-- a change of one table whose pages are in frames that there are
pub placed_paged : {z : Sizes} (s : State) (b : ℕ) (u : Table) (fs : List ℕ) → Placed z s → Sound z u u.free
    → ((p f : ℕ) → p < u.size → (u.pages p).frame ≡ some f → f < s.frame_count) → Placed z (paged s b u fs)
placed_paged s b u fs p o h = record {
  sound = λ c l. bool (eqb c b) (λ e. rw e o) (λ e. rw e (p.sound c l));
  frames = λ c q f l i e. bool (eqb c b)
      (λ d. h q f (rw d at i) (rw d at e))
      (λ d. p.frames c q f l (rw d at i) (rw d at e));
}

-- WORDS that represent a state come to represent the state with the table and the free frames
module _ (ws ws' : List ℕ) (sh : Shape) (s : State) (h : Held ws sh s) (b : ℕ) (lb : b < s.table_count) (fr : ℕ) (alone : Alone (load ws sh) s b fr)
    (long : length ws' ≡ length ws) (o : OnlyPaged b fr (load ws sh) (load ws' sh)) (u : Table) (now : TableIs (load ws' sh) b u) (lim : u.limit ≡ (s.tables b).limit)
    (plans : PlansStay (load ws sh) (load ws' sh) (length s.book.rows)) (fs : List ℕ) (frames : FramesAre (load ws' sh) (paged s b u fs)) (pl : Placed till (paged s b u fs)) where
  held_by : Represents sh (load ws' sh) (paged s b u fs) → Held ws' sh (paged s b u fs)
  held_by i = record {
    reps = record {
      shaped = let q = h.reps.shaped in record {
        limits = q.limits;
        room = omega (arith, long, q.room);
        roots = roots_kept sh (load ws sh) (load ws' sh) (λ f i. paged_root b fr (load ws sh) (load ws' sh) o f (λ e. i (omega arith) (omega arith))) q.roots;
      };
      memory = i;
    };
    placed = pl;
  }

  pub held_paged : ((k : ℕ) → is_marked (u.slots k) ≡ true → MarkIs (load ws' sh) s b k) → Held ws' sh (paged s b u fs)
  held_paged marked = held_by (with_paged sh (load ws sh) s h.reps.memory h.placed b lb fr alone (load ws' sh) o u now lim plans fs frames marked)

  -- marks that were there, on slots whose words stay
  pub held_paged_marks : ((k : ℕ) → is_marked (u.slots k) ≡ true
      → (is_marked ((s.tables b).slots k) ≡ true) × (slot_word (load ws' sh) b k slot_tag ≡ slot_word (load ws sh) b k slot_tag) × (slot_word (load ws' sh) b k slot_place ≡ slot_word (load ws sh) b k slot_place)
      × (slot_word (load ws' sh) b k slot_position ≡ slot_word (load ws sh) b k slot_position)) → Held ws' sh (paged s b u fs)
  held_paged_marks marked = held_by (with_paged_marks sh (load ws sh) s h.reps.memory h.placed b lb fr alone (load ws' sh) o u now lim plans fs frames marked)
