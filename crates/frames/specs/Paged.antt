-- A change of one table's pages, in the state: every other table, the objects and the rows are as they were. Assumes nothing.
use Rattle.std.specs.Prelude.{◌≡◌, refl, ◌⊎◌, ℕ, suc, ◌+◌, ◌-◌, ◌≤◌, ◌<◌}
use Rattle.std.proofs.Common.{sym, ap, ◌∙◌, inl, inr, ⊎_elim, arith}
use Rattle.words.specs.Pick.{bool}
use Rattle.model.specs.Base.{occurs}
use Rattle.model.specs.State.{till, State}
use Rattle.model.proofs.Counting.{sum_next, runs_apart}
use Rattle.layout.specs.declared.Shape.{Shape}
use Rattle.layout.specs.Layout.{Addr, Addr.reg, Mem, root, head, entry, owner, cell, same, same_is, Write.at, upd}
use Rattle.layout.specs.ShapeOf.{Permitted}
use Rattle.layout.specs.Fields.{root_free_frames, head_page_limit, head_cursor, head_pages, head_first_detached, head_first_entry, entry_frame, slot_place, row_id}
use Rattle.layout.specs.Sizes.{plan_owner}
use Rattle.layout.specs.RegionNames.{region_root, region_head, region_entry, region_owner, region_group16, region_group4096, region_cell, region_object}
use Rattle.representation.specs.Represents.{entry_at, slot_word, TableIs, Represents}
use Rattle.representation.specs.Told.{link_some}
use Rattle.storage.specs.Sight.{OnlyTable}
use Rattle.storage.specs.Kept.{Stays, slot_kept, sound_kept, RowsStay, rows_stay, PlansStay}
use Rattle.storage.specs.Whole.{Placed}

-- a page of table b has the frame x
abbrev pub Has : Mem → ℕ → ℕ → Type 0
Has m b x = (p : ℕ) × (p < m (head b head_pages)) × (m (entry (entry_at m b p) entry_frame) ≡ suc x)

-- the addresses that a change of table b's pages in the frame fr may change: the head but for the limit, the mask, the lifecycle, the cursor and the first entry; all of the table's
-- page entries; the owner of fr; the counts of free frames; and slots in fr and in the table's frames
abbrev pub Pages : Mem → ℕ → ℕ → Addr → Type 0
Pages m b fr (reg k x y f) =
    ((k ≡ region_root) × (f ≡ root_free_frames))
    ⊎ ((k ≡ region_head) × (x ≡ b) × (head_cursor < f) × (f ≤ head_first_detached))
    ⊎ ((k ≡ region_entry) × (m (head b head_first_entry) ≤ x) × (x < m (head b head_first_entry) + m (head b head_page_limit)))
    ⊎ ((k ≡ region_owner) × (x ≡ fr))
    ⊎ ((region_group16 ≤ k) × (k ≤ region_group4096))
    ⊎ ((k ≡ region_cell) × ((x ≡ fr) ⊎ Has m b x))

-- ONLY THE PAGES of table b and the frame fr: every other address keeps its word
abbrev pub OnlyPaged : ℕ → ℕ → Mem → Mem → Type 0
OnlyPaged b fr m n = (a : Addr) → (Pages m b fr a → ⊥) → n a ≡ m a

-- an address that is none of these
pub outside : (m : Mem) (b fr k x y f : ℕ) → (k ≡ region_root → f ≡ root_free_frames → ⊥) → (k ≡ region_head → x ≡ b → head_cursor < f → f ≤ head_first_detached → ⊥)
    → (k ≡ region_entry → m (head b head_first_entry) ≤ x → x < m (head b head_first_entry) + m (head b head_page_limit) → ⊥) → (k ≡ region_owner → x ≡ fr → ⊥) → (region_group16 ≤ k → k ≤ region_group4096 → ⊥)
    → (k ≡ region_cell → (x ≡ fr) ⊎ Has m b x → ⊥) → Pages m b fr (reg k x y f) → ⊥
outside m b fr k x y f r h e o g c =
    ⊎_elim (λ i. r i.0 i.1) (⊎_elim (λ i. h i.0 i.1 i.2 i.3) (⊎_elim (λ i. e i.0 i.1 i.2) (⊎_elim (λ i. o i.0 i.1)
    (⊎_elim (λ i. g i.0 i.1) (λ i. c i.0 i.1)))))

-- ---- what keeps to the pages

-- a store at an address that may change
pub only_write : (P : Addr → Type 0) (m n : Mem) → ((c : Addr) → (P c → ⊥) → n c ≡ m c) → (a : Addr) (v : ℕ) → P a → (c : Addr) → (P c → ⊥) → upd n (at a v) c ≡ m c
only_write P m n o a v i c h = bool (same a c) (λ e. absurd (h (rw (same_is a c e) i))) (λ e. rw e (o c h))

-- a store into the pages
pub paged_write : (b fr : ℕ) (m n : Mem) → OnlyPaged b fr m n → (a : Addr) (v : ℕ) → Pages m b fr a → OnlyPaged b fr m (upd n (at a v))
paged_write b fr m n = only_write (Pages m b fr) m n

module _ (b fr : ℕ) (m n : Mem) (o : OnlyPaged b fr m n) where
  pub paged_root : (f : ℕ) → (f ≡ root_free_frames → ⊥) → n (root f) ≡ m (root f)
  paged_root f h = o (root f) (outside m b fr region_root 0 0 f (λ e q. h q) (λ e q s t. omega arith) (λ e q s. omega arith) (λ e q. omega arith) (λ e q. omega arith) (λ e q. omega arith))

  -- the first entry, the limit, the mask and the lifecycle of every table
  pub paged_head : (c f : ℕ) → (head_cursor < f → f ≤ head_first_detached → ⊥) → n (head c f) ≡ m (head c f)
  paged_head c f h = o (head c f) (outside m b fr region_head c 0 f (λ e q. omega arith) (λ e q s t. h s t) (λ e q s. omega arith) (λ e q. omega arith) (λ e q. omega arith) (λ e q. omega arith))

  pub paged_first : (c : ℕ) → n (head c head_first_entry) ≡ m (head c head_first_entry)
  paged_first c = paged_head c head_first_entry (λ s t. omega arith)

  -- regions above the frames
  pub paged_high : (k x y f : ℕ) → region_object ≤ k → n (reg k x y f) ≡ m (reg k x y f)
  paged_high k x y f l = o (reg k x y f) (outside m b fr k x y f (λ e q. omega arith) (λ e q s t. omega arith) (λ e q s. omega arith) (λ e q. omega arith) (λ e q. omega arith) (λ e q. omega arith))

  -- the row index and the rows
  pub paged_rows : RowsStay m n
  paged_rows = rows_stay m n (λ k x y f l. paged_high k x y f (omega arith))

  -- the owner words that name rows, where the frame's is below them: its frame is free or a page's
  pub paged_plans : m (owner fr) < plan_owner → (c : ℕ) → PlansStay m n c
  paged_plans low c i l f e = o (owner f) (outside m b fr region_owner f 0 0 (λ d q. omega arith) (λ d q s t. omega arith) (λ d q s. omega arith)
      (λ d (q : f ≡ fr). let y : m (owner f) ≡ m (owner fr) = ap (λ (x : ℕ). m (owner x)) q in omega arith) (λ d q. omega arith) (λ d q. omega arith))

  -- a change of the table as it stands in n, whose frames are fr and those that it had
  pub paged_table : (l : Mem) → OnlyTable b n l → n (head b head_pages) ≤ m (head b head_page_limit) → ((x : ℕ) → Has n b x → (x ≡ fr) ⊎ Has m b x) → OnlyPaged b fr m l
  paged_table l t s h (reg k x y f) i = t (reg k x y f) (⊎_elim
      (λ q. i (inr (inl (q.0, q.1, omega arith, omega arith))))
      (⊎_elim
      (λ q. i (inr (inr (inl (q.0, omega (arith, q.1, paged_first b), omega (arith, q.2, paged_first b))))))
      (λ q. i (inr (inr (inr (inr (inr (q.0, h x q.1)))))))))
      ∙ o (reg k x y f) i

-- a change of one table that leaves its place
pub table_paged : (b fr : ℕ) (m n : Mem) → m (head b head_pages) ≤ m (head b head_page_limit) → OnlyTable b m n → OnlyPaged b fr m n
table_paged b fr m n s t = paged_table b fr m m (λ a i. refl) n t s (λ x h. inr h)

-- ---- runs of entries do not meet

module _ (sh : Shape) (m : Mem) (s : State) (r : Represents sh m s) (pl : Placed till s) where
  -- entries below the limits
  pub entries_apart : (b c p q : ℕ) → b < s.table_count → c < s.table_count → p < (s.tables b).limit → q < (s.tables c).limit → entry_at m b p ≡ entry_at m c q → b ≡ c
  entries_apart b c p q l k h i e = runs_apart (λ x. (s.tables x).limit) b c p q h i (omega (arith, r.first b l, r.first c k))

  -- and they are entries
  pub entry_below : (b p : ℕ) → b < s.table_count → p < (s.tables b).limit → entry_at m b p < sh.pages
  entry_below b p l h = omega (arith, r.first b l, r.page_count, sum_next s.table_count (λ x. (s.tables x).limit) b l)

  -- so that their owner words are below those that name rows
  pub owner_low : Permitted sh → (b p : ℕ) → b < s.table_count → p < (s.tables b).limit → suc (entry_at m b p) < plan_owner
  owner_low lim b p l h = omega (arith, entry_below b p l h, lim.few_pages, lim.few_tables)

  -- a frame of table b, by the words
  pub has_owner : (b x : ℕ) → b < s.table_count → (h : Has m b x) → m (owner x) ≡ suc (entry_at m b h.0)
  has_owner b x l h = let t = r.tables b l in let i : h.0 < (s.tables b).size = omega (arith, t.size, h.1) in
      r.frames.held b h.0 x l i (link_some ((s.tables b).pages h.0).frame x (sym (t.frame h.0 i) ∙ h.2))

  -- no two tables have one frame
  pub has_apart : (b c x : ℕ) → b < s.table_count → c < s.table_count → Has m b x → Has m c x → b ≡ c
  has_apart b c x l k h i = entries_apart b c h.0 i.0 l k
      (omega (arith, h.1, (r.tables b l).size, (pl.sound b l).size)) (omega (arith, i.1, (r.tables c k).size, (pl.sound c k).size))
      (omega (arith, has_owner b x l h, has_owner c x k i))

-- ---- the other tables

-- no other table has the frame
abbrev pub Alone : Mem → State → ℕ → ℕ → Type 0
Alone m s b fr = (c : ℕ) → c < s.table_count → Has m c fr → c ≡ b

-- a free frame
pub free_alone : (sh : Shape) (m : Mem) (s : State) (r : Represents sh m s) → Placed till s → (b fr : ℕ) → 0 < occurs fr s.frames → Alone m s b fr
free_alone sh m s r pl b fr h c l i = absurd (omega (arith, r.frames.free fr h, has_owner sh m s r pl c fr l i))

-- a frame of table b
pub own_alone : (sh : Shape) (m : Mem) (s : State) (r : Represents sh m s) → Placed till s → (b fr : ℕ) → b < s.table_count → Has m b fr → Alone m s b fr
own_alone sh m s r pl b fr l h c k i = has_apart sh m s r pl c b fr k l i h

module _ (sh : Shape) (m : Mem) (s : State) (r : Represents sh m s) (pl : Placed till s) (b : ℕ) (lb : b < s.table_count) (fr : ℕ) (alone : Alone m s b fr)
    (n : Mem) (o : OnlyPaged b fr m n) where
  module _ (c : ℕ) (lc : c < s.table_count) (ne : c ≡ b → ⊥) where
    -- its words stay
    other_stays : Stays m n c
    other_stays = record {
      heads = λ f. o (head c f) (outside m b fr region_head c 0 f (λ e q. omega arith) (λ e q i j. ne q) (λ e q i. omega arith) (λ e q. omega arith) (λ e q. omega arith) (λ e q. omega arith));
      pages = λ p f h. o (entry (entry_at m c p) f) (outside m b fr region_entry (m (head c head_first_entry) + p) 0 f (λ e q. omega arith) (λ e q i j. omega arith)
          (λ e q i. ne (entries_apart sh m s r pl c b p (m (head c head_first_entry) + p - m (head b head_first_entry)) lc lb
          (omega (arith, (r.tables c lc).size, (pl.sound c lc).size)) (omega (arith, (r.tables b lb).limit)) (omega arith)))
          (λ e q. omega arith) (λ e q. omega arith) (λ e q. omega arith));
      cells = λ p x j f h e. let w : Has m c x = (p, h, e) in
          o (cell x j f) (outside m b fr region_cell x j f (λ e q. omega arith) (λ e q i j. omega arith) (λ e q i. omega arith) (λ e q. omega arith) (λ e q. omega arith)
          (λ e. ⊎_elim (λ (d : x ≡ fr). ne (alone c lc (rw d at w))) (λ d. ne (has_apart sh m s r pl c b x lc lb w d))));
    }

    pub other_slot : (k f : ℕ) → slot_word n c k f ≡ slot_word m c k f
    other_slot = slot_kept m n c other_stays

    -- THE OTHER TABLES are as they were
    pub other_table : TableIs n c (s.tables c)
    other_table = sound_kept m n c other_stays (s.tables c) (r.tables c lc) (pl.sound c lc) (λ k e. (paged_rows b fr m n o).rows (slot_word m c k slot_place) row_id)
