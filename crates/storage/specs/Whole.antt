-- An operation on one table, in the state: every other table, the frames, the objects and the rows are as they were. Assumes nothing.
use Rattle.std.specs.Prelude.{◌≡◌, refl, true, ℕ, suc, ◌+◌, ◌-◌, ◌<◌, length, eqb, ltb}
use Rattle.std.proofs.Common.{sym, ap, ◌∙◌, ⊎_elim, arith, eqb-true, ltb-true}
use Rattle.std.proofs.Math.Option.{Option, some}
use Rattle.std.proofs.lemmas.Bool.{eqb-false}
use Rattle.words.specs.Pick.{bool}
use Rattle.model.specs.Base.{put, bit, sum}
use Rattle.model.specs.State.{Sizes, till, Table, State}
use Rattle.model.specs.Change.{with_table}
use Rattle.model.specs.WellFormed.{is_frame, WellFormed}
use Rattle.model.proofs.Tests.{bit_true, same}
use Rattle.model.proofs.Sums.{sum_part, sum_equal}
use Rattle.model.proofs.Counting.{runs_apart, sum_next}
use Rattle.invariant.proofs.Pointwise.{Alike}
use Rattle.invariant.proofs.Orders.{Sound}
use Rattle.invariant.proofs.StorageState.{storage_of, sound_of}
use Rattle.layout.specs.declared.Shape.{Shape}
use Rattle.layout.specs.Layout.{Addr.reg, Mem, root, head, entry, owner, cell}
use Rattle.layout.specs.Fields.{root_next_id, root_used_rows, root_free_frames, head_pages, head_first_entry, entry_frame, slot_tag, slot_place, slot_position, row_id}
use Rattle.layout.specs.RegionNames.{region_root, region_head, region_entry, region_owner, region_group16, region_cell, region_object}
use Rattle.representation.specs.Represents.{entry_at, slot_word, TableIs, is_marked, Represents}
use Rattle.representation.specs.Told.{link_some}
use Rattle.storage.specs.Sight.{Fit, OnlyTable}
use Rattle.storage.specs.Kept.{Stays, slot_kept, sound_kept, PoolSame, frames_kept, object_kept, RowsStay, owners_plans, rows_stay, MarkIs, mark_kept, book_kept}

-- every table's storage is sound and in frames that there are
pub record Placed (z : Sizes) (s : State) : Type 0 where
  pub sound : (b : ℕ) → b < s.table_count → Sound z (s.tables b) (s.tables b).free
  pub frames : (b p f : ℕ) → b < s.table_count → p < (s.tables b).size → ((s.tables b).pages p).frame ≡ some f → f < s.frame_count

-- that of a well-formed state is
pub placed_of : {z : Sizes} (s : State) → WellFormed z s → Placed z s
placed_of {z} s w = record {
  sound = sound_of z s (storage_of z s w);
  frames = λ b p f l h e.
      let o : Sound z (s.tables b) (s.tables b).free = sound_of z s (storage_of z s w) b l in
      let one : bit (is_frame ((s.tables b).pages p).frame f) ≡ 1 = ap (λ (x : Option ℕ). bit (is_frame x f)) e ∙ ap bit (same f) in
      let i = sum_part (s.tables b).limit (λ q. bit (is_frame ((s.tables b).pages q).frame f)) p (omega (arith, o.size)) in
      let j = sum_part s.table_count (λ c. sum (s.tables c).limit λ q. bit (is_frame ((s.tables c).pages q).frame f)) b l in
      ltb-true f s.frame_count (bit_true (ltb f s.frame_count) (omega (arith, w.frames.once f)));
}

-- a change of one table that leaves its place
pub placed_with : {z : Sizes} (s : State) (b : ℕ) (u : Table) → Placed z s → Sound z u u.free → Alike z (s.tables b) u → Placed z (with_table s b u)
placed_with s b u p o a = record {
  sound = λ c l. bool (eqb c b) (λ e. rw e o) (λ e. rw e (p.sound c l));
  frames = λ c q f l h i. bool (eqb c b)
      (λ e. let d : c ≡ b = eqb-true c b e in p.frames b q f (omega arith) (rw a.size at (rw e at h)) (rw (a.frame q) at (rw e at i)))
      (λ e. p.frames c q f l (rw e at h) (rw e at i));
}

module _ (sh : Shape) (m : Mem) (s : State) (r : Represents sh m s) (pl : Placed till s) where
  -- pages below a table's size are its own
  frame_at : (b p f : ℕ) → b < s.table_count → p < m (head b head_pages) → m (entry (entry_at m b p) entry_frame) ≡ suc f → ((s.tables b).pages p).frame ≡ some f
  frame_at b p f l h e = let t = r.tables b l in let i : p < (s.tables b).size = omega (arith, t.size) in
      link_some ((s.tables b).pages p).frame f (sym (t.frame p i) ∙ e)

  owned_by : (b p f : ℕ) → b < s.table_count → p < m (head b head_pages) → m (entry (entry_at m b p) entry_frame) ≡ suc f → m (owner f) ≡ suc (entry_at m b p)
  owned_by b p f l h e = r.frames.held b p f l (omega (arith, (r.tables b l).size)) (frame_at b p f l h e)

  entries_apart : (b c p q : ℕ) → b < s.table_count → c < s.table_count → p < m (head b head_pages) → q < m (head c head_pages) → entry_at m b p ≡ entry_at m c q → b ≡ c
  entries_apart b c p q l k h i e = runs_apart (λ x. (s.tables x).limit) b c p q
      (omega (arith, (r.tables b l).size, (pl.sound b l).size)) (omega (arith, (r.tables c k).size, (pl.sound c k).size))
      (omega (arith, r.first b l, r.first c k))

  -- a table in its place
  pub fit_of : (b : ℕ) → b < s.table_count → Fit sh m b
  fit_of b l = record {
    table = omega (arith, r.table_count);
    pages = omega (arith, r.first b l, (r.tables b l).size, (pl.sound b l).size, r.page_count, sum_next s.table_count (λ x. (s.tables x).limit) b l);
    frames = λ p f h e. omega (arith, r.frame_count, pl.frames b p f l (omega (arith, (r.tables b l).size)) (frame_at b p f l h e));
    own = λ p q f h i e d. omega (arith, owned_by b p f l h e, owned_by b q f l i d);
  }

-- ---- addresses of no table

-- regions other than the heads, the page entries and the frames keep their words
pub off_table : (b : ℕ) (m n : Mem) → OnlyTable b m n → (k x y f : ℕ) → (k ≡ region_head → ⊥) → (k ≡ region_entry → ⊥) → (k ≡ region_cell → ⊥) → n (reg k x y f) ≡ m (reg k x y f)
off_table b m n o k x y f h i j = o (reg k x y f) (⊎_elim (λ q. h q.0) (⊎_elim (λ q. i q.0) (λ q. j q.0)))

-- and those above the objects
pub table_rows : (b : ℕ) (m n : Mem) → OnlyTable b m n → RowsStay m n
table_rows b m n o = rows_stay m n (λ k x y f h. off_table b m n o k x y f (λ e. omega arith) (λ e. omega arith) (λ e. omega arith))

-- the pool's
pub table_pool : (b : ℕ) (m n : Mem) → OnlyTable b m n → PoolSame m n
table_pool b m n o = record {
  owners = λ g. off_table b m n o region_owner g 0 0 (λ e. omega arith) (λ e. omega arith) (λ e. omega arith);
  groups = λ i l g. off_table b m n o (region_group16 + i) g 0 0 (λ e. omega arith) (λ e. omega arith) (λ e. omega arith);
  count = off_table b m n o region_root 0 0 root_free_frames (λ e. omega arith) (λ e. omega arith) (λ e. omega arith);
}

-- ---- the other tables

module _ (sh : Shape) (m : Mem) (s : State) (r : Represents sh m s) (pl : Placed till s) (b : ℕ) (lb : b < s.table_count) (n : Mem) (o : OnlyTable b m n) where
  module _ (c : ℕ) (lc : c < s.table_count) (ne : c ≡ b → ⊥) where
    -- its words stay
    pub other_stays : Stays m n c
    other_stays = record {
      heads = λ f. o (head c f) (⊎_elim (λ q. ne q.1) (⊎_elim (λ q. omega arith) (λ q. omega arith)));
      pages = λ p f h. o (entry (entry_at m c p) f) (⊎_elim (λ q. omega arith) (⊎_elim
          (λ q. ne (entries_apart sh m s r pl c b p (m (head c head_first_entry) + p - m (head b head_first_entry)) lc lb h (omega (arith, q.1, q.2)) (omega (arith, q.1, q.2))))
          (λ q. omega arith)));
      cells = λ p fr j f h e. o (cell fr j f) (⊎_elim (λ q. omega arith) (⊎_elim (λ q. omega arith)
          (λ q. ne (entries_apart sh m s r pl c b p q.1.0 lc lb h q.1.1 (omega (arith, owned_by sh m s r pl c p fr lc h e, owned_by sh m s r pl b q.1.0 fr lb q.1.1 q.1.2))))));
    }

    pub other_slot : (k f : ℕ) → slot_word n c k f ≡ slot_word m c k f
    other_slot = slot_kept m n c other_stays

    -- THE OTHER TABLES are as they were
    pub other_table : TableIs n c (s.tables c)
    other_table = sound_kept m n c other_stays (s.tables c) (r.tables c lc) (pl.sound c lc) (λ k e. (table_rows b m n o).rows (slot_word m c k slot_place) row_id)

-- ---- the state

-- a table that is like another in what F shows is so in the state
pub put_like : {A : Type 0} (F : Table → A) (f : ℕ → Table) (b : ℕ) (u : Table) → F u ≡ F (f b) → (c : ℕ) → F (put f b u c) ≡ F (f c)
put_like F f b u e c = bool (eqb c b) (λ q. rw (q, eqb-true c b q) e) (λ q. rw q)

module _ (sh : Shape) (m : Mem) (s : State) (r : Represents sh m s) (pl : Placed till s) (b : ℕ) (lb : b < s.table_count) (n : Mem) (o : OnlyTable b m n)
    (u : Table) (is : TableIs n b u) (al : Alike till (s.tables b) u) where
  off_root : (f : ℕ) → n (root f) ≡ m (root f)
  off_root f = off_table b m n o region_root 0 0 f (λ e. omega arith) (λ e. omega arith) (λ e. omega arith)

  off_first : (c : ℕ) → n (head c head_first_entry) ≡ m (head c head_first_entry)
  off_first c = o (head c head_first_entry) (⊎_elim (λ q. omega arith) (⊎_elim (λ q. omega arith) (λ q. omega arith)))

  -- THE STATE WITH THE TABLE: the marks of table b are the operation's to show
  pub with_table_law : ((k : ℕ) → is_marked (u.slots k) ≡ true → MarkIs n s b k) → Represents sh n (with_table s b u)
  with_table_law marked = record {
    table_count = r.table_count;
    frame_count = r.frame_count;
    object_count = r.object_count;
    capacity = r.capacity;
    page_count = r.page_count ∙ sum_equal s.table_count (λ c. (s.tables c).limit) (λ c. (put s.tables b u c).limit)
        (λ c l. sym (put_like (λ t. t.limit) s.tables b u al.limit c));
    first = λ c l. off_first c ∙ r.first c l ∙ sum_equal c (λ x. (s.tables x).limit) (λ x. (put s.tables b u x).limit)
        (λ x h. sym (put_like (λ t. t.limit) s.tables b u al.limit x));
    tables = λ c l. bool (eqb c b)
        (λ e. rw (e, eqb-true c b e) is)
        (λ e. rw e (other_table sh m s r pl b lb n o c l (eqb-false c b e)));
    frames = frames_kept m n s (with_table s b u) (table_pool b m n o) off_first refl refl
        (λ c p f l h e. (l, rw (put_like (λ t. t.size) s.tables b u al.size c) at h, sym (put_like (λ t. (t.pages p).frame) s.tables b u (al.frame p) c) ∙ e)) r.frames;
    objects = λ x l. object_kept m n x (s.objects x) (λ f. off_table b m n o region_object x 0 f (λ e. omega arith) (λ e. omega arith) (λ e. omega arith)) (r.objects x l);
    book = book_kept m n (table_rows b m n o) s (with_table s b u) refl (off_root root_next_id) (off_root root_used_rows) (owners_plans m n (table_pool b m n o).owners (length s.book.rows))
        (λ c k l h. bool (eqb c b)
        (λ e. rw (eqb-true c b e) (marked k (rw e at h)))
        (λ e. let w : (f : ℕ) → slot_word n c k f ≡ slot_word m c k f = other_slot sh m s r pl b lb n o c l (eqb-false c b e) k in
        mark_kept m n (table_rows b m n o) s c k (w slot_tag) (w slot_place) (w slot_position) (r.book.marks c k l (rw e at h)))) r.book;
  }
