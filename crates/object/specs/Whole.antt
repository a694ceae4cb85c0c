-- One object changed, in the state: every table, the frames, the other objects and the book are as they were. Assumes nothing.
use Rattle.std.specs.Prelude.{◌≡◌, refl, List, ℕ, ◌+◌, length, eqb}
use Rattle.std.proofs.Common.{◌∙◌, arith, eqb-true}
use Rattle.std.proofs.lemmas.Bool.{eqb-false}
use Rattle.words.specs.Pick.{bool}
use Rattle.model.specs.Base.{put}
use Rattle.model.specs.State.{Object, State}
use Rattle.model.specs.Change.{with_objects}
use Rattle.layout.specs.declared.Shape.{Shape}
use Rattle.layout.specs.Layout.{Addr.reg, Mem, head, load}
use Rattle.layout.specs.ShapeOf.{roots_kept}
use Rattle.layout.specs.Fields.{root_next_id, root_used_rows, root_free_frames, head_first_entry, slot_tag, slot_place, slot_position, row_id}
use Rattle.layout.specs.RegionNames.{region_root, region_head, region_entry, region_owner, region_group16, region_cell, region_object}
use Rattle.representation.specs.Represents.{entry_at, slot_word, ObjectIs, Represents}
use Rattle.storage.specs.Kept.{Stays, all_stay, slot_kept, table_kept, PoolSame, frames_kept, object_kept, RowsStay, rows_stay, mark_kept, book_kept, owners_plans}
use Rattle.storage.specs.Reps.{Held}

-- n differs from m in the record of object o alone
abbrev pub OnlyObject : ℕ → Mem → Mem → Type 0
OnlyObject o m n = (k x y f : ℕ) → (k ≡ region_object → x ≡ o → ⊥) → n (reg k x y f) ≡ m (reg k x y f)

module _ (o : ℕ) (m n : Mem) (only : OnlyObject o m n) where
  off_head : (b f : ℕ) → n (head b f) ≡ m (head b f)
  off_head b f = only region_head b 0 f (λ e. omega arith)

  -- every table's words stay
  pub object_stays : (b : ℕ) → Stays m n b
  object_stays = all_stay m n off_head (λ e f. only region_entry e 0 f (λ q. omega arith)) (λ fr j f. only region_cell fr j f (λ e. omega arith))

  -- and the rows
  pub object_rows : RowsStay m n
  object_rows = rows_stay m n (λ k x y f l. only k x y f (λ e. omega arith))

  object_pool : PoolSame m n
  object_pool = record { owners = λ g. only region_owner g 0 0 (λ e. omega arith); groups = λ i l g. only (region_group16 + i) g 0 0 (λ e. omega arith); count = only region_root 0 0 root_free_frames (λ e. omega arith) }

  -- THE STATE WITH THE OBJECT
  pub with_object : (sh : Shape) (s : State) → Represents sh m s → (x : Object) → ObjectIs n o x → Represents sh n (with_objects s (put s.objects o x))
  with_object sh s r x is = record {
    table_count = r.table_count;
    frame_count = r.frame_count;
    object_count = r.object_count;
    capacity = r.capacity;
    page_count = r.page_count;
    first = λ b l. off_head b head_first_entry ∙ r.first b l;
    tables = λ b l. table_kept m n b (object_stays b) (s.tables b) (r.tables b l) (λ k e. object_rows.rows (slot_word m b k slot_place) row_id)
        (λ p f h. only region_entry (entry_at m b p) 0 f (λ q. omega arith)) (λ p f h. only region_entry (entry_at m b p) 0 f (λ q. omega arith));
    frames = frames_kept m n s (with_objects s (put s.objects o x)) object_pool (λ c. off_head c head_first_entry) refl refl (λ c p f l h e. (l, h, e)) r.frames;
    objects = λ i l. bool (eqb i o)
        (λ e. rw (e, eqb-true i o e) is)
        (λ e. rw e (object_kept m n i (s.objects i) (λ f. only region_object i 0 f (λ z. eqb-false i o e)) (r.objects i l)));
    book = book_kept m n object_rows s (with_objects s (put s.objects o x)) refl (only region_root 0 0 root_next_id (λ e. omega arith)) (only region_root 0 0 root_used_rows (λ e. omega arith)) (owners_plans m n object_pool.owners (length s.book.rows))
        (λ b k l h. let w : (f : ℕ) → slot_word n b k f ≡ slot_word m b k f = slot_kept m n b (object_stays b) k in
        mark_kept m n object_rows s b k (w slot_tag) (w slot_place) (w slot_position) (r.book.marks b k l h)) r.book;
  }

-- words that show so
pub held_object : (ws ws' : List ℕ) (sh : Shape) (s : State) (o : ℕ) (x : Object) → Held ws sh s → length ws' ≡ length ws → OnlyObject o (load ws sh) (load ws' sh)
    → ObjectIs (load ws' sh) o x → Held ws' sh (with_objects s (put s.objects o x))
held_object ws ws' sh s o x h long only is = record {
  reps = record {
    shaped = let q = h.reps.shaped in record {
      limits = q.limits;
      room = omega (arith, long, q.room);
      roots = roots_kept sh (load ws sh) (load ws' sh) (λ f i. only region_root 0 0 f (λ e. omega arith)) q.roots;
    };
    memory = with_object o (load ws sh) (load ws' sh) only sh s h.reps.memory x is;
  };
  placed = record { sound = h.placed.sound; frames = h.placed.frames };
}
