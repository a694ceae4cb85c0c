-- What is as it was where the words stay: a table, the frames, an object, a row, the book. Assumes nothing.
use Rattle.std.specs.Prelude.{◌≡◌, refl, true, List, [], ◌∷◌, ℕ, zero, suc, ◌+◌, ◌-◌, ◌/◌, ◌%◌, ◌≤◌, ◌<◌, length, ltb}
use Rattle.std.proofs.Common.{sym, ap, ◌∙◌, arith, ltb-true}
use Rattle.std.proofs.Math.Option.{some}
use Rattle.words.specs.Pick.{bool}
use Rattle.model.specs.Base.{occurs}
use Rattle.model.specs.State.{till, Handle, Slot.reserved, Slot.transfer_reserved, Table, Object, Entry, Entry.moved, Entry.copied, Body, Body.reservation, Body.claim, Body.parcel, Body.plan, Row, State}
use Rattle.invariant.proofs.Orders.{Sound}
use Rattle.layout.specs.Layout.{Addr.reg, Mem, root, head, entry, owner, group, cell, object, index, rank, row, item}
use Rattle.layout.specs.Fields.{root_next_id, root_used_rows, root_free_frames, head_page_limit, head_mask, head_lifecycle, head_cursor, head_epoch, head_pages, head_first_free, head_free_slots, head_first_empty, head_first_detached, head_first_entry, entry_frame, entry_high, entry_busy, entry_next, entry_previous, slot_tag, slot_generation, slot_next_free, slot_previous_free, slot_place, slot_position, slot_object, slot_rights, slot_flags, object_koid, object_kind, object_class, object_supported, object_exportable, object_stage, object_active, object_limit, index_place, index_rank, row_id, row_kind, row_table, row_length, row_count, row_epoch, item_slot, item_operation, item_moved, item_object, item_rights, item_flags, item_granted, item_page, item_frame, item_free_slots}
use Rattle.layout.specs.Values.{tag_transfer_reserved, operation_move}
use Rattle.layout.specs.Sizes.{page_size, plan_owner}
use Rattle.layout.specs.RegionNames.{region_index, region_row}
use Rattle.representation.specs.Represents.{entry_at, word_in, frame_of, slot_word, tagged, slot_from, slot_in, TableIs, FramesAre, ObjectIs, HandleIs, EntryIs, Items, HeldIs, BodyIs, RowsAre, is_marked, BookIs}
use Rattle.storage.specs.Order.{chain_frame, linked_frame}
use Rattle.storage.specs.Sight.{frame_is}
use Rattle.storage.specs.Slots.{empty_below, detached_below}

-- ---- a table

-- the words of table c stay: its head, the entries of its pages and the slots in their frames
pub record Stays (m n : Mem) (c : ℕ) : Type 0 where
  pub heads : (f : ℕ) → n (head c f) ≡ m (head c f)
  pub pages : (p f : ℕ) → p < m (head c head_pages) → n (entry (entry_at m c p) f) ≡ m (entry (entry_at m c p) f)
  pub cells : (p fr j f : ℕ) → p < m (head c head_pages) → m (entry (entry_at m c p) entry_frame) ≡ suc fr → n (cell fr j f) ≡ m (cell fr j f)

-- every table's, where all heads, entries and slots do
pub all_stay : (m n : Mem) → ((b f : ℕ) → n (head b f) ≡ m (head b f)) → ((e f : ℕ) → n (entry e f) ≡ m (entry e f)) → ((fr j f : ℕ) → n (cell fr j f) ≡ m (cell fr j f)) → (c : ℕ) → Stays m n c
all_stay m n hs es cs c = record { heads = hs c; pages = λ p f h. es (entry_at m c p) f; cells = λ p fr j f h e. cs fr j f }

-- the rows that the marks of table c name have the ids that they had
abbrev pub SameIds : Mem → Mem → ℕ → Table → Type 0
SameIds m n c t = (k : ℕ) → is_marked (t.slots k) ≡ true → n (row (slot_word m c k slot_place) row_id) ≡ m (row (slot_word m c k slot_place) row_id)

tagged_kept : (m n : Mem) (t g x y w : ℕ) → (is_marked (tagged m t g x y w) ≡ true → n (row x row_id) ≡ m (row x row_id)) → tagged n t g x y w ≡ tagged m t g x y w
tagged_kept m n zero g x y w e = refl
tagged_kept m n (suc zero) g x y w e = ap (reserved g) (e refl)
tagged_kept m n (suc (suc zero)) g x y w e = ap (transfer_reserved g) (e refl)
tagged_kept m n (suc (suc (suc zero))) g x y w e = refl
tagged_kept m n (suc (suc (suc (suc t)))) g x y w e = refl

module _ (m n : Mem) (c : ℕ) (o : Stays m n c) where
  entry_kept : (p f : ℕ) → n (entry (entry_at m c p) f) ≡ m (entry (entry_at m c p) f) → n (entry (entry_at n c p) f) ≡ m (entry (entry_at m c p) f)
  entry_kept p f e = ap (λ (x : ℕ). n (entry (x + p) f)) (o.heads head_first_entry) ∙ e

  page_kept : (p f : ℕ) → p < m (head c head_pages) → n (entry (entry_at n c p) f) ≡ m (entry (entry_at m c p) f)
  page_kept p f h = entry_kept p f (o.pages p f h)

  frame_kept : (k : ℕ) → frame_of n c k ≡ frame_of m c k
  frame_kept k = bool (ltb (k / page_size) (m (head c head_pages)))
      (λ l. rw (o.heads head_pages, l, page_kept (k / page_size) entry_frame (ltb-true (k / page_size) (m (head c head_pages)) l)))
      (λ l. rw (o.heads head_pages, l))

  -- the words of its slots
  pub slot_kept : (k f : ℕ) → slot_word n c k f ≡ slot_word m c k f
  slot_kept k f = ap (λ (fr : ℕ). word_in n fr (k % page_size) f) (frame_kept k) ∙ go (frame_of m c k) refl
    where
      go : (fr : ℕ) → frame_of m c k ≡ fr → word_in n fr (k % page_size) f ≡ word_in m fr (k % page_size) f
      go zero e = refl
      go (suc fr) e = let i = frame_is m c k fr e in o.cells (k / page_size) fr (k % page_size) f i.1 i.2

  -- a slot, if the row that its mark names has the id that it had
  slot_in_kept : (k : ℕ) → (is_marked (slot_in m c k) ≡ true → n (row (slot_word m c k slot_place) row_id) ≡ m (row (slot_word m c k slot_place) row_id)) → slot_in n c k ≡ slot_in m c k
  slot_in_kept k e = ap (λ (fr : ℕ). slot_from n fr (k % page_size)) (frame_kept k) ∙ go (frame_of m c k) refl e
    where
      go : (fr : ℕ) → frame_of m c k ≡ fr → (is_marked (slot_from m fr (k % page_size)) ≡ true → n (row (word_in m fr (k % page_size) slot_place) row_id) ≡ m (row (word_in m fr (k % page_size) slot_place) row_id))
          → slot_from n fr (k % page_size) ≡ slot_from m fr (k % page_size)
      go zero d e = refl
      go (suc fr) d e = let i = frame_is m c k fr d in let j : ℕ = k % page_size in
          let w : (f : ℕ) → n (cell fr (k % page_size) f) ≡ m (cell fr (k % page_size) f) = λ f. o.cells (k / page_size) fr (k % page_size) f i.1 i.2 in
          rw (w slot_tag, w slot_generation, w slot_object, w slot_rights, w slot_flags) (tagged_kept m n (m (cell fr j slot_tag)) (m (cell fr j slot_generation)) (m (cell fr j slot_object)) (m (cell fr j slot_rights)) (m (cell fr j slot_flags)) e)

  -- THE TABLE, if the entries of the pages in its orders stay too
  pub table_kept : (t : Table) → TableIs m c t → SameIds m n c t → ((p f : ℕ) → 0 < occurs p t.empty → n (entry (entry_at m c p) f) ≡ m (entry (entry_at m c p) f))
      → ((p f : ℕ) → 0 < occurs p t.detached → n (entry (entry_at m c p) f) ≡ m (entry (entry_at m c p) f)) → TableIs n c t
  table_kept t i ids es ds =
      let inside : (p : ℕ) → p < t.size → p < m (head c head_pages) = λ p h. omega (arith, i.size) in
      record {
        limit = o.heads head_page_limit ∙ i.limit;
        mask = o.heads head_mask ∙ i.mask;
        life = rw (o.heads head_lifecycle, o.heads head_cursor) i.life;
        epoch = o.heads head_epoch ∙ i.epoch;
        size = o.heads head_pages ∙ i.size;
        frame = λ p h. page_kept p entry_frame (inside p h) ∙ i.frame p h;
        high = λ p h. page_kept p entry_high (inside p h) ∙ i.high p h;
        busy = λ p h a. page_kept p entry_busy (inside p h) ∙ i.busy p h a;
        slots = λ k. slot_in_kept k (λ e. ids k (sym (ap is_marked (i.slots k)) ∙ e)) ∙ i.slots k;
        free = rw (o.heads head_first_free) (chain_frame (λ k. slot_word m c k slot_next_free) (λ k. slot_word m c k slot_previous_free) _ _ (m (head c head_first_free)) 0 t.free i.free (λ k h. (slot_kept k slot_next_free, slot_kept k slot_previous_free)));
        free_count = o.heads head_free_slots ∙ i.free_count;
        empty = rw (o.heads head_first_empty) (chain_frame (λ p. m (entry (entry_at m c p) entry_next)) (λ p. m (entry (entry_at m c p) entry_previous)) _ _ (m (head c head_first_empty)) 0 t.empty i.empty
            (λ p h. (entry_kept p entry_next (es p entry_next h), entry_kept p entry_previous (es p entry_previous h))));
        detached = rw (o.heads head_first_detached) (linked_frame (λ p. m (entry (entry_at m c p) entry_next)) _ (m (head c head_first_detached)) t.detached i.detached (λ p h. entry_kept p entry_next (ds p entry_next h)));
      }

  -- one whose storage is sound: its orders are of pages that it has had
  pub sound_kept : (t : Table) → TableIs m c t → Sound till t t.free → SameIds m n c t → TableIs n c t
  sound_kept t i s ids = table_kept t i ids
      (λ p f h. o.pages p f (omega (arith, i.size, empty_below t s p h)))
      (λ p f h. o.pages p f (omega (arith, i.size, detached_below t s p h)))

-- ---- the frames

-- the pool's words stay
pub record PoolSame (m n : Mem) : Type 0 where
  pub owners : (g : ℕ) → n (owner g) ≡ m (owner g)
  pub groups : (i : ℕ) → i < 3 → (g : ℕ) → n (group i g) ≡ m (group i g)
  pub count : n (root root_free_frames) ≡ m (root root_free_frames)

-- THE FRAMES of a state with the same free ones, where each page with a frame had it
pub frames_kept : (m n : Mem) (s u : State) → PoolSame m n → ((c : ℕ) → n (head c head_first_entry) ≡ m (head c head_first_entry)) → u.frames ≡ s.frames → u.frame_count ≡ s.frame_count
    → ((c p f : ℕ) → c < u.table_count → p < (u.tables c).size → ((u.tables c).pages p).frame ≡ some f → (c < s.table_count) × (p < (s.tables c).size) × (((s.tables c).pages p).frame ≡ some f))
    → FramesAre m s → FramesAre n u
frames_kept m n s u o firsts fs count had q = record {
  held = λ c p f l h e. let w = had c p f l h e in o.owners f ∙ q.held c p f w.0 w.1 w.2 ∙ ap (λ (x : ℕ). suc (x + p)) (sym (firsts c));
  free = λ f h. o.owners f ∙ q.free f (rw fs at h);
  sixteens = λ g h. rw fs (o.groups 0 (omega arith) g ∙ q.sixteens g (rw count at h));
  hundreds = λ g h. rw fs (o.groups 1 (omega arith) g ∙ q.hundreds g (rw count at h));
  thousands = λ g h. rw fs (o.groups 2 (omega arith) g ∙ q.thousands g (rw count at h));
  count = o.count ∙ q.count ∙ ap length (sym fs);
}

-- ---- an object

pub object_kept : (m n : Mem) (o : ℕ) (x : Object) → ((f : ℕ) → n (object o f) ≡ m (object o f)) → ObjectIs m o x → ObjectIs n o x
object_kept m n o x e q = record {
  koid = e object_koid ∙ q.koid;
  kind = e object_kind ∙ q.kind;
  class = e object_class ∙ q.class;
  supported = e object_supported ∙ q.supported;
  exportable = e object_exportable ∙ q.exportable;
  stage = e object_stage ∙ q.stage;
  count = e object_active ∙ q.count;
  limit = e object_limit ∙ q.limit;
}

-- ---- one place keeps its row

-- the owner words that name place x stay: those of the frames that a plan there holds
abbrev pub HoldsStay : Mem → Mem → ℕ → Type 0
HoldsStay m n x = (f : ℕ) → m (owner f) ≡ plan_owner + x → n (owner f) ≡ m (owner f)

pub items_kept : {A : Type 0} (P Q : ℕ → A → Type 0) → ((j : ℕ) (y : A) → P j y → Q j y) → (j : ℕ) (ys : List A) → Items P j ys → Items Q j ys
items_kept P Q f j [] p = tt
items_kept P Q f j (y ∷ ys) p = (f j y p.0, items_kept P Q f (suc j) ys p.1)

module _ (m n : Mem) (x : ℕ) (its : (j f : ℕ) → n (item x j f) ≡ m (item x j f)) where
  handle_kept : (j : ℕ) (h : Handle) → HandleIs m x j h → HandleIs n x j h
  handle_kept j h p = (its j item_object ∙ p.0, its j item_rights ∙ p.1, its j item_flags ∙ p.2)

  entry_stays : (j : ℕ) (e : Entry) → EntryIs m x j e → EntryIs n x j e
  entry_stays j (moved k h r) p = (its j item_operation ∙ p.0, its j item_moved ∙ p.1, handle_kept j h p.2, its j item_granted ∙ p.3)
  entry_stays j (copied h) p = (its j item_operation ∙ p.0, handle_kept j h p.1)

  -- the slots of a reservation, the entries of a claim, the handles of a parcel
  pub slots_kept : (j : ℕ) (ks : List ℕ) → Items (λ j k. m (item x j item_slot) ≡ k) j ks → Items (λ j k. n (item x j item_slot) ≡ k) j ks
  slots_kept = items_kept (λ j k. m (item x j item_slot) ≡ k) (λ j k. n (item x j item_slot) ≡ k) (λ j k q. its j item_slot ∙ q)

  pub entries_kept : (j : ℕ) (es : List Entry) → Items (EntryIs m x) j es → Items (EntryIs n x) j es
  entries_kept = items_kept (EntryIs m x) (EntryIs n x) entry_stays

  pub handles_kept : (j : ℕ) (hs : List Handle) → Items (HandleIs m x) j hs → Items (HandleIs n x) j hs
  handles_kept = items_kept (HandleIs m x) (HandleIs n x) handle_kept

  -- the pages of a plan, and its frames
  pub pages_kept : (j : ℕ) (ps : List ℕ) → Items (λ j p. m (item x j item_page) ≡ p) j ps → Items (λ j p. n (item x j item_page) ≡ p) j ps
  pages_kept = items_kept (λ j p. m (item x j item_page) ≡ p) (λ j p. n (item x j item_page) ≡ p) (λ j p q. its j item_page ∙ q)

  pub held_kept : HoldsStay m n x → (j : ℕ) (fs : List ℕ) → Items (HeldIs m x) j fs → Items (HeldIs n x) j fs
  held_kept own = items_kept (HeldIs m x) (HeldIs n x) (λ j f q. (its j item_frame ∙ q.0, own f q.1 ∙ q.1))

  pub body_kept : ((f : ℕ) → n (row x f) ≡ m (row x f)) → HoldsStay m n x → (b : Body) → BodyIs m x b → BodyIs n x b
  body_kept rws own (reservation b ks) p = (rws row_kind ∙ p.0, rws row_table ∙ p.1, rws row_length ∙ p.2, slots_kept 0 ks p.3)
  body_kept rws own (claim b es) p = (rws row_kind ∙ p.0, rws row_table ∙ p.1, rws row_length ∙ p.2, entries_kept 0 es p.3)
  body_kept rws own (parcel hs) p = (rws row_kind ∙ p.0, rws row_length ∙ p.1, handles_kept 0 hs p.2)
  body_kept rws own (plan b c w fs) p = record {
    kind = rws row_kind ∙ p.kind;
    table = rws row_table ∙ p.table;
    count = rws row_count ∙ p.count;
    epoch = rws row_epoch ∙ p.epoch;
    free_slots = its 0 item_free_slots ∙ p.free_slots;
    page_count = rws row_length ∙ p.page_count;
    pages = pages_kept 0 w.pages p.pages;
    frame_count = rws row_length ∙ p.frame_count;
    held = held_kept own 0 fs p.held;
  }

-- ---- the book

-- the row index and the rows stay
pub record RowsStay (m n : Mem) : Type 0 where
  pub places : (i : ℕ) → n (index i) ≡ m (index i)
  pub ranks : (r : ℕ) → n (rank r) ≡ m (rank r)
  pub rows : (r f : ℕ) → n (row r f) ≡ m (row r f)
  pub items : (r j f : ℕ) → n (item r j f) ≡ m (item r j f)

-- the owner words that name the places of the first c rows stay
abbrev pub PlansStay : Mem → Mem → ℕ → Type 0
PlansStay m n c = (i : ℕ) → i < c → HoldsStay m n (m (index i))

-- they do where all owner words do
pub owners_plans : (m n : Mem) → ((f : ℕ) → n (owner f) ≡ m (owner f)) → (c : ℕ) → PlansStay m n c
owners_plans m n o c i l f e = o f

-- rows and index are the regions above the objects
pub rows_stay : (m n : Mem) → ((k x y f : ℕ) → region_index ≤ k → n (reg k x y f) ≡ m (reg k x y f)) → RowsStay m n
rows_stay m n o = record {
  places = λ i. o region_index i 0 index_place (omega arith);
  ranks = λ r. o region_index r 0 index_rank (omega arith);
  rows = λ r f. o region_row r 0 f (omega arith);
  items = λ r j f. o region_row r (suc j) f (omega arith);
}

-- what the book says of a marked slot: BookIs.marks, of one slot
abbrev pub MarkIs : Mem → State → ℕ → ℕ → Type 0
MarkIs m s b k =
    (slot_word m b k slot_place < s.book.capacity) × (m (rank (slot_word m b k slot_place)) < length s.book.rows) × (slot_word m b k slot_position < m (row (slot_word m b k slot_place) row_length))
    × (m (row (slot_word m b k slot_place) row_table) ≡ b) × (m (item (slot_word m b k slot_place) (slot_word m b k slot_position) (slot_word m b k slot_tag - 1)) ≡ k)
    × (slot_word m b k slot_tag ≡ tag_transfer_reserved → m (item (slot_word m b k slot_place) (slot_word m b k slot_position) item_operation) ≡ operation_move)

module _ (m n : Mem) (o : RowsStay m n) where
  -- it stays, if the slot's tag, place and position do
  pub mark_kept : (s : State) (b k : ℕ) → slot_word n b k slot_tag ≡ slot_word m b k slot_tag → slot_word n b k slot_place ≡ slot_word m b k slot_place → slot_word n b k slot_position ≡ slot_word m b k slot_position → MarkIs m s b k → MarkIs n s b k
  mark_kept s b k e₀ e₂ e₃ p =
      go (slot_word m b k slot_tag) (slot_word m b k slot_place) (slot_word m b k slot_position) (slot_word n b k slot_tag) (slot_word n b k slot_place) (slot_word n b k slot_position) e₀ e₂ e₃ p
    where
      go : (a₀ a₂ a₃ c₀ c₂ c₃ : ℕ) → c₀ ≡ a₀ → c₂ ≡ a₂ → c₃ ≡ a₃
          → (a₂ < s.book.capacity) × (m (rank a₂) < length s.book.rows) × (a₃ < m (row a₂ row_length)) × (m (row a₂ row_table) ≡ b) × (m (item a₂ a₃ (a₀ - 1)) ≡ k)
          × (a₀ ≡ tag_transfer_reserved → m (item a₂ a₃ item_operation) ≡ operation_move)
          → (c₂ < s.book.capacity) × (n (rank c₂) < length s.book.rows) × (c₃ < n (row c₂ row_length)) × (n (row c₂ row_table) ≡ b) × (n (item c₂ c₃ (c₀ - 1)) ≡ k)
          × (c₀ ≡ tag_transfer_reserved → n (item c₂ c₃ item_operation) ≡ operation_move)
      go a₀ a₂ a₃ c₀ c₂ c₃ q₀ q₂ q₃ p =
          rw (q₀, q₂, q₃) (p.0, rw (o.ranks a₂) p.1, rw (o.rows a₂ row_length) p.2, o.rows a₂ row_table ∙ p.3, o.items a₂ a₃ (a₀ - 1) ∙ p.4, λ e. o.items a₂ a₃ item_operation ∙ p.5 e)

  rows_kept : (c : ℕ) → PlansStay m n c → (i : ℕ) (rs : List Row) → i + length rs ≤ c → RowsAre m i rs → RowsAre n i rs
  rows_kept c own i [] l p = tt
  rows_kept c own i (r ∷ rs) l p = let x : ℕ = m (index i) in
      rw (o.places i)
      (o.rows (m (index i)) row_id ∙ p.0, body_kept m n (m (index i)) (o.items x) (o.rows x) (own i (omega arith)) r.body p.1, rows_kept c own (suc i) rs (omega arith) p.2)

  -- THE BOOK of a state with the same rows: the marks are the operation's to show
  pub book_kept : (s u : State) → u.book ≡ s.book → n (root root_next_id) ≡ m (root root_next_id) → n (root root_used_rows) ≡ m (root root_used_rows)
      → PlansStay m n (length s.book.rows) → ((b k : ℕ) → b < u.table_count → is_marked ((u.tables b).slots k) ≡ true → MarkIs n s b k) → BookIs m s → BookIs n u
  book_kept s u e next used own marks q = record {
    next = rw e (next ∙ q.next);
    used = rw e (used ∙ q.used);
    rows = rw e (rows_kept (length s.book.rows) own 0 s.book.rows (omega arith) q.rows);
    places = λ i h. rw (e, o.places i) ((q.places i (rw e at h)).0, o.ranks (m (index i)) ∙ (q.places i (rw e at h)).1);
    marks = λ b k l h. rw e (marks b k l h);
  }
