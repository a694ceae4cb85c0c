-- An operation on the book, in the state: tables, frames and objects are as they were. Assumes nothing.
use Rattle.std.specs.Prelude.{◌≡◌, refl, ◌⊎◌, List, [], ◌∷◌, ℕ, ◌+◌, ◌≤◌, ◌<◌, length}
use Rattle.std.proofs.Common.{sym, ◌∙◌, ⊎_elim, arith}
use Rattle.std.proofs.Math.Bool.{and-false}
use Rattle.words.specs.Pick.{bool}
use Rattle.model.specs.State.{Book, State}
use Rattle.model.specs.Change.{with_book}
use Rattle.layout.specs.declared.Shape.{Shape}
use Rattle.layout.specs.ShapeOf.{roots_kept}
use Rattle.layout.specs.Layout.{Addr, Addr.reg, Mem, total, root, head, entry, load, save, same, same_is, is_in, length_save, load_save_any, Write, Write.at, writes}
use Rattle.layout.specs.Fields.{root_next_id, root_used_rows, root_free_frames, head_first_entry}
use Rattle.layout.specs.RegionNames.{region_root, region_head, region_entry, region_owner, region_group16, region_cell, region_object, region_index, region_row}
use Rattle.representation.specs.Represents.{entry_at, slot_word, BookIs, Represents}
use Rattle.storage.specs.Kept.{Stays, all_stay, SameIds, slot_kept as words_kept, table_kept, PoolSame, frames_kept, object_kept}
use Rattle.storage.specs.Reps.{Held}

-- only the book: the next id, the count of rows, the index and the rows may differ
pub record OnlyBook (m n : Mem) : Type 0 where
  pub roots : (f : ℕ) → (f ≡ root_next_id → ⊥) → (f ≡ root_used_rows → ⊥) → n (root f) ≡ m (root f)
  pub other : (k x y f : ℕ) → (k ≡ region_root → ⊥) → (k ≡ region_index → ⊥) → (k ≡ region_row → ⊥) → n (reg k x y f) ≡ m (reg k x y f)

module _ (m n : Mem) (o : OnlyBook m n) where
  off_head : (b f : ℕ) → n (head b f) ≡ m (head b f)
  off_head b f = o.other region_head b 0 f (λ e. omega arith) (λ e. omega arith) (λ e. omega arith)

  off_entry : (e f : ℕ) → n (entry e f) ≡ m (entry e f)
  off_entry e f = o.other region_entry e 0 f (λ e. omega arith) (λ e. omega arith) (λ e. omega arith)

  book_stays : (b : ℕ) → Stays m n b
  book_stays = all_stay m n off_head off_entry (λ fr j f. o.other region_cell fr j f (λ e. omega arith) (λ e. omega arith) (λ e. omega arith))

  pub book_pool : PoolSame m n
  book_pool = record {
    owners = λ g. o.other region_owner g 0 0 (λ e. omega arith) (λ e. omega arith) (λ e. omega arith);
    groups = λ i l g. o.other (region_group16 + i) g 0 0 (λ e. omega arith) (λ e. omega arith) (λ e. omega arith);
    count = o.roots root_free_frames (λ e. omega arith) (λ e. omega arith);
  }

  -- slots keep their words
  pub slot_kept : (b k f : ℕ) → slot_word n b k f ≡ slot_word m b k f
  slot_kept b = words_kept m n b (book_stays b)

  -- THE STATE WITH THE BOOK
  pub with_book_law : (sh : Shape) (s : State) (k : Book) → Represents sh m s → k.capacity ≡ s.book.capacity → ((b : ℕ) → b < s.table_count → SameIds m n b (s.tables b))
      → BookIs n (with_book s k) → Represents sh n (with_book s k)
  with_book_law sh s k r c ids book = record {
    table_count = r.table_count;
    frame_count = r.frame_count;
    object_count = r.object_count;
    capacity = r.capacity ∙ sym c;
    page_count = r.page_count;
    first = λ b l. off_head b head_first_entry ∙ r.first b l;
    tables = λ b l. table_kept m n b (book_stays b) (s.tables b) (r.tables b l) (ids b l) (λ p f h. off_entry (entry_at m b p) f) (λ p f h. off_entry (entry_at m b p) f);
    frames = frames_kept m n s (with_book s k) book_pool (λ c. off_head c head_first_entry) refl refl (λ c p f l h e. (l, h, e)) r.frames;
    objects = λ x l. object_kept m n x (s.objects x) (λ f. o.other region_object x 0 f (λ e. omega arith) (λ e. omega arith) (λ e. omega arith)) (r.objects x l);
    book = book;
  }

-- ---- words that differ in the book only

pub record Books (ws ws' : List ℕ) (sh : Shape) : Type 0 where
  pub long : length ws' ≡ length ws
  pub only : OnlyBook (load ws sh) (load ws' sh)

pub books_then : (ws ws₁ ws₂ : List ℕ) (sh : Shape) → Books ws ws₁ sh → Books ws₁ ws₂ sh → Books ws ws₂ sh
books_then ws ws₁ ws₂ sh p q = record {
  long = q.long ∙ p.long;
  only = record {
    roots = λ f d e. q.only.roots f d e ∙ p.only.roots f d e;
    other = λ k x y f d e g. q.only.other k x y f d e g ∙ p.only.other k x y f d e g;
  };
}

pub books_none : (ws : List ℕ) (sh : Shape) → Books ws ws sh
books_none ws sh = record { long = refl; only = record { roots = λ f d e. refl; other = λ k x y f d e g. refl } }

-- an address of the book
abbrev pub OfBook : Addr → Type 0
OfBook (reg k x y f) = ((k ≡ region_root) × ((f ≡ root_next_id) ⊎ (f ≡ root_used_rows))) ⊎ (k ≡ region_index) ⊎ (k ≡ region_row)

off_save : (ws : List ℕ) (sh : Shape) → total sh ≤ length ws → (a : Addr) (v : ℕ) (b : Addr) → (b ≡ a → ⊥) → load (save ws sh a v) sh b ≡ load ws sh b
off_save ws sh h a v b n = load_save_any ws sh h a v b ∙ bool (same a b)
    (λ e. absurd (n (same_is a b e)))
    (λ e. rw (e, and-false (is_in sh a)))

pub books_save : (ws : List ℕ) (sh : Shape) → total sh ≤ length ws → (a : Addr) (v : ℕ) → OfBook a → Books ws (save ws sh a v) sh
books_save ws sh h (reg k x y f) v b = record {
  long = length_save ws sh (reg k x y f) v;
  only = record {
    roots = λ g d e. off_save ws sh h (reg k x y f) v (root g) (λ q. let q₀ : region_root ≡ k = cc in let q₁ : g ≡ f = cc in
        ⊎_elim (λ i. ⊎_elim (λ (j : f ≡ root_next_id). d (q₁ ∙ j)) (λ (j : f ≡ root_used_rows). e (q₁ ∙ j)) i.1) (⊎_elim (λ (i : k ≡ region_index). omega arith) (λ (i : k ≡ region_row). omega arith)) b);
    other = λ k' x' y' f' d e g. off_save ws sh h (reg k x y f) v (reg k' x' y' f') (λ q. let q₀ : k' ≡ k = cc in
        ⊎_elim (λ i. d (q₀ ∙ i.0)) (⊎_elim (λ (i : k ≡ region_index). e (q₀ ∙ i)) (λ (i : k ≡ region_row). g (q₀ ∙ i))) b);
  };
}

-- a plan of such stores
abbrev pub OfBooks : List Write → Type 0
OfBooks [] = Unit {0}
OfBooks (at a v ∷ xs) = OfBook a × OfBooks xs

pub books_writes : (ws : List ℕ) (sh : Shape) → total sh ≤ length ws → (xs : List Write) → OfBooks xs → Books ws (writes ws sh xs) sh
books_writes ws sh h [] b = books_none ws sh
books_writes ws sh h (at a v ∷ xs) b =
    books_then ws (save ws sh a v) (writes (save ws sh a v) sh xs) sh (books_save ws sh h a v b.0)
    (books_writes (save ws sh a v) sh (omega (arith, length_save ws sh a v)) xs b.1)

-- in words
pub book_held : (ws ws' : List ℕ) (sh : Shape) (s : State) (k : Book) → Held ws sh s → Books ws ws' sh → k.capacity ≡ s.book.capacity
    → ((b : ℕ) → b < s.table_count → SameIds (load ws sh) (load ws' sh) b (s.tables b)) → BookIs (load ws' sh) (with_book s k) → Held ws' sh (with_book s k)
book_held ws ws' sh s k h w c ids book = record {
  reps = record {
    shaped = let q = h.reps.shaped in record {
      limits = q.limits;
      room = omega (arith, w.long, q.room);
      roots = roots_kept sh (load ws sh) (load ws' sh) (λ f i. w.only.roots f (λ e. i (omega arith) (omega arith)) (λ e. i (omega arith) (omega arith))) q.roots;
    };
    memory = with_book_law (load ws sh) (load ws' sh) w.only sh s k h.reps.memory c ids book;
  };
  placed = record { sound = h.placed.sound; frames = h.placed.frames };
}
