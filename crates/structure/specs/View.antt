-- What the structure's facts say of the state that the memory shows: the clauses of "well formed" and of the representation on heads, pages, slots and
-- frames. Assumes nothing.
use Rattle.std.specs.Prelude.{◌≡◌, refl, true, false, not, ◌&&◌, eqb, ltb}
use Rattle.std.proofs.Common.{sym, ap, ◌∙◌, arith, lt-ltb, ltb-true, ltb-false}
use Prim.Native.Nat.{ℕ, zero, suc, ◌*◌, ◌/◌, ◌%◌, ◌^◌, ◌≤◌, ◌<◌}
use Rattle.codec.specs.Codec.{generation_limit}
use Rattle.model.specs.Base.{bit, sum, is_some}
use Rattle.model.specs.State.{till, Page, Table, State, generation, is_absent, is_occupied, is_retired, no_page, no_table, max_slots}
use Rattle.model.specs.Storage.{busy_of, page_of}
use Rattle.model.specs.WellFormed.{SlotRange, TableRange, is_frame, pages_with, Frames, is_attached, Generations}
use Rattle.model.proofs.Tests.{bool, clash}
use Rattle.model.proofs.Sums.{sum_equal}
use Rattle.model.proofs.Counting.{sum_cut}
use Rattle.layout.specs.declared.Shape.{Shape}
use Rattle.layout.specs.ShapeOf.{Permitted}
use Rattle.layout.specs.Layout.{Addr, Mem, head, entry, cell}
use Rattle.layout.specs.Fields.{head_page_limit, head_mask, head_lifecycle, head_cursor, head_epoch, head_pages, head_first_entry, entry_frame, entry_high, entry_busy, slot_tag, slot_generation, slot_object, slot_rights, slot_flags}
use Rattle.layout.specs.Values.{life_retired}
use Rattle.layout.specs.Sizes.{page_size}
use Rattle.representation.specs.Represents.{entry_at, link_of, frame_of, slot_in, LifeIs, FramesAre}
use Rattle.structure.specs.Facts.{SlotIs, Structure}
use Rattle.structure.specs.Frames.{pages_of, planned_in, Planned, frame_once, free_frames, free_occurs, free_rising, free_owner, free_group, free_length}
use Rattle.structure.specs.Slots.{unlink, link_back, unlink_some, frame_link, page_view, page_in, page_out, life_view, life_view_law, life_range, life_retired_law, frame_of_law, slot_none, slot_in_law, tagged_there, tagged_generation, tagged_occupied, tagged_range, busy_page}

-- a table as the memory shows it, its orders aside
pub record TableShows (m : Mem) (b : ℕ) (t : Table) : Type 0 where
  pub limit : t.limit ≡ m (head b head_page_limit)
  pub mask : t.mask ≡ m (head b head_mask)
  pub life : t.life ≡ life_view (m (head b head_lifecycle)) (m (head b head_cursor))
  pub epoch : t.epoch ≡ m (head b head_epoch)
  pub size : t.size ≡ m (head b head_pages)
  pub pages : (p : ℕ) → t.pages p ≡ page_view m b p
  pub slots : (k : ℕ) → t.slots k ≡ slot_in m b k

-- a state, its orders, objects and book aside
pub record Shows (sh : Shape) (m : Mem) (s : State) : Type 0 where
  pub table_count : s.table_count ≡ sh.tables
  pub frame_count : s.frame_count ≡ sh.frames
  pub object_count : s.object_count ≡ sh.objects
  pub frames : s.frames ≡ free_frames m sh.frames
  pub tables : (b : ℕ) → b < sh.tables → TableShows m b (s.tables b)
  pub rest : (b : ℕ) → sh.tables ≤ b → s.tables b ≡ no_table

-- ---- pages with a frame, in the model's count and in the memory's

pub pages_with_law : (m : Mem) (s : State) (n f : ℕ) → s.table_count ≡ n → ((b : ℕ) → b < n → (s.tables b).size ≡ m (head b head_pages)) → ((b : ℕ) → b < n → m (head b head_pages) ≤ (s.tables b).limit)
    → ((b p : ℕ) → b < n → p < m (head b head_pages) → link_of ((s.tables b).pages p).frame ≡ m (entry (entry_at m b p) entry_frame)) → ((b p : ℕ) → b < n → (s.tables b).size ≤ p → (s.tables b).pages p ≡ no_page)
    → pages_with s f ≡ pages_of m n f
pages_with_law m s n f c z l e r =
    ap (λ (k : ℕ). sum k λ b. sum (s.tables b).limit λ p. bit (is_frame ((s.tables b).pages p).frame f)) c
    ∙ sum_equal n (λ b. sum (s.tables b).limit λ p. bit (is_frame ((s.tables b).pages p).frame f)) (λ b. sum (m (head b head_pages)) λ p. bit (eqb (m (entry (entry_at m b p) entry_frame)) (suc f))) (λ b h.
    sum_cut (m (head b head_pages)) (s.tables b).limit (λ p. bit (is_frame ((s.tables b).pages p).frame f)) (l b h) (λ p i k. ap (λ (x : Page). bit (is_frame x.frame f)) (r b p h (omega (arith, z b h))))
    ∙ sum_equal (m (head b head_pages)) (λ p. bit (is_frame ((s.tables b).pages p).frame f)) (λ p. bit (eqb (m (entry (entry_at m b p) entry_frame)) (suc f))) (λ p i.
    frame_link ((s.tables b).pages p).frame f ∙ ap (λ (x : ℕ). bit (eqb x (suc f))) (e b p h i)))

module _ (sh : Shape) (m : Mem) (held : ℕ) (st : Structure sh m held) where
  -- ---- one table

  module _ (b : ℕ) (here : b < sh.tables) (t : Table) (v : TableShows m b t) where
    -- what is known of a slot with a frame
    slot_facts : (k f : ℕ) → frame_of m b k ≡ suc f → SlotIs m sh.objects (m (head b head_lifecycle)) (m (entry (entry_at m b (k / page_size)) entry_high)) f (k % page_size)
    slot_facts k f e = let q = frame_of_law m b k f e in (st.pages b (k / page_size) here q.1).slots f q.2 (k % page_size) q.3

    page_here : (p : ℕ) → p < m (head b head_pages) → t.pages p ≡ record { frame = unlink (m (entry (entry_at m b p) entry_frame)); high = m (entry (entry_at m b p) entry_high) }
    page_here p h = v.pages p ∙ page_in m b p h

    page_gone : (p : ℕ) → m (head b head_pages) ≤ p → t.pages p ≡ no_page
    page_gone p h = v.pages p ∙ page_out m b p h

    -- the page of a slot with a frame is attached, and that of a slot without one is not
    attached_slot : (k f : ℕ) → frame_of m b k ≡ suc f → (is_attached t (k / page_size) && ltb k max_slots) ≡ true
    attached_slot k f e =
        let q = frame_of_law m b k f e in
        rw (lt-ltb k max_slots q.0, ap (λ (x : Page). is_some x.frame) (page_here (k / page_size) q.1) ∙ ap (λ (l : ℕ). is_some (unlink l)) q.2)

    bare_slot : (k : ℕ) → frame_of m b k ≡ 0 → (is_attached t (k / page_size) && ltb k max_slots) ≡ false
    bare_slot k e = bool (ltb k max_slots)
        (λ q. bool (ltb (k / page_size) (m (head b head_pages)))
        (λ r. let z : m (entry (entry_at m b (k / page_size)) entry_frame) ≡ 0 = rw (q, r) at e in
        rw (q, ap (λ (x : Page). is_some x.frame) (page_here (k / page_size) (ltb-true (k / page_size) (m (head b head_pages)) r)) ∙ ap (λ (l : ℕ). is_some (unlink l)) z))
        (λ r. rw (q, ap (λ (x : Page). is_some x.frame) (page_gone (k / page_size) (ltb-false (k / page_size) (m (head b head_pages)) r)))))
        (λ q. rw q (bool (is_attached t (k / page_size)) (λ r. rw r) (λ r. rw r)))

    -- "a slot stands exactly on each place of an attached page"
    pub there_shown : (k : ℕ) → is_absent (t.slots k) ≡ not (is_attached t (page_of till k) && ltb k max_slots)
    there_shown k = go (frame_of m b k) refl
      where
        go : (fr : ℕ) → frame_of m b k ≡ fr → is_absent (t.slots k) ≡ not (is_attached t (k / page_size) && ltb k max_slots)
        go zero e = ap is_absent (v.slots k ∙ slot_none m b k e) ∙ sym (ap not (bare_slot k e))
        go (suc f) e =
            ap is_absent (v.slots k ∙ slot_in_law m b k f e)
            ∙ tagged_there m (m (cell f (k % page_size) slot_tag)) (m (cell f (k % page_size) slot_generation)) (m (cell f (k % page_size) slot_object)) (m (cell f (k % page_size) slot_rights)) (m (cell f (k % page_size) slot_flags)) (slot_facts k f e).tag
            ∙ sym (ap not (attached_slot k f e))

    -- "each generation is 1 to the limit and not above its page's high mark"
    pub generations_shown : Generations till t
    generations_shown k p = go (frame_of m b k) refl
      where
        go : (fr : ℕ) → frame_of m b k ≡ fr → (1 ≤ generation (t.slots k)) × (generation (t.slots k) ≤ generation_limit) × (generation (t.slots k) ≤ (t.pages (k / page_size)).high)
        go zero e = clash (ap is_absent (v.slots k ∙ slot_none m b k e)) p
        go (suc f) e =
            let h = slot_facts k f e in let q = frame_of_law m b k f e in
            let g : generation (t.slots k) ≡ m (cell f (k % page_size) slot_generation) = ap generation (v.slots k ∙ slot_in_law m b k f e)
            ∙ tagged_generation m (m (cell f (k % page_size) slot_tag)) (m (cell f (k % page_size) slot_generation)) (m (cell f (k % page_size) slot_object)) (m (cell f (k % page_size) slot_rights)) (m (cell f (k % page_size) slot_flags)) h.tag in
            let w : (t.pages (k / page_size)).high ≡ m (entry (entry_at m b (k / page_size)) entry_high) = ap (λ (x : Page). x.high) (page_here (k / page_size) q.1) in
            (omega (arith, h.some_generation), omega (arith, h.few_generation, (st.pages b (k / page_size) here q.1).few_high), omega (arith, h.few_generation))

    -- "limits and field ranges hold"
    pub range_shown : ((a : Addr) → m a < 2 ^ 64) → (s : State) → s.object_count ≡ sh.objects → TableRange till s t
    unfolding max_slots
    range_shown small s c =
        let h = st.heads b here in
        record {
          limit = (omega (arith, v.limit, h.some_limit), omega (arith, v.limit, h.few_limit));
          size = omega (arith, v.limit, v.size, h.size);
          mask = rw v.mask h.mask;
          epoch = rw v.epoch (small (head b head_epoch));
          life = rw v.life (life_range (m (head b head_lifecycle)) (m (head b head_cursor)) h.cursor);
          high = λ p i.
              let j : p < m (head b head_pages) = omega (arith, v.size) in let g = st.pages b p here j in
              rw (page_here p j) (g.some_high, g.few_high);
          slots = λ k. go k (frame_of m b k) refl;
        }
      where
        go : (k fr : ℕ) → frame_of m b k ≡ fr → SlotRange s (t.slots k)
        go k zero e = rw (v.slots k ∙ slot_none m b k e) tt
        go k (suc f) e =
            let h = slot_facts k f e in
            rw (v.slots k ∙ slot_in_law m b k f e)
            (tagged_range m s (m (cell f (k % page_size) slot_tag)) (m (cell f (k % page_size) slot_generation)) (m (cell f (k % page_size) slot_object)) (m (cell f (k % page_size) slot_rights)) (m (cell f (k % page_size) slot_flags))
            (λ z. rw c (h.object z)) h.flags (small (cell f (k % page_size) slot_rights)))

    -- "a retired one [has] no occupied slot"
    pub closed_shown : is_retired t.life ≡ true → (k : ℕ) → is_occupied (t.slots k) ≡ false
    closed_shown r k = go (frame_of m b k) refl
      where
        w : m (head b head_lifecycle) ≡ life_retired
        w = life_retired_law (m (head b head_lifecycle)) (m (head b head_cursor)) (st.heads b here).life (sym (ap is_retired v.life) ∙ r)

        go : (fr : ℕ) → frame_of m b k ≡ fr → is_occupied (t.slots k) ≡ false
        go zero e = ap is_occupied (v.slots k ∙ slot_none m b k e)
        go (suc f) e = bool (is_occupied (t.slots k))
            (λ q. absurd ((slot_facts k f e).retired
            (tagged_occupied m (m (cell f (k % page_size) slot_tag)) (m (cell f (k % page_size) slot_generation)) (m (cell f (k % page_size) slot_object)) (m (cell f (k % page_size) slot_rights)) (m (cell f (k % page_size) slot_flags)) (sym (ap is_occupied (v.slots k ∙ slot_in_law m b k f e)) ∙ q)) w))
            (λ q. q)

    -- the representation's clauses
    pub frame_shown : (p : ℕ) → p < t.size → m (entry (entry_at m b p) entry_frame) ≡ link_of (t.pages p).frame
    frame_shown p h = sym (ap (λ (x : Page). link_of x.frame) (page_here p (omega (arith, v.size))) ∙ link_back (m (entry (entry_at m b p) entry_frame)))

    pub rest_shown : (p : ℕ) → t.size ≤ p → t.pages p ≡ no_page
    rest_shown p h = page_gone p (omega (arith, v.size))

    pub high_shown : (p : ℕ) → p < t.size → m (entry (entry_at m b p) entry_high) ≡ (t.pages p).high
    high_shown p h = sym (ap (λ (x : Page). x.high) (page_here p (omega (arith, v.size))))

    pub life_shown : LifeIs (m (head b head_lifecycle)) (m (head b head_cursor)) t.life
    life_shown = rw v.life (life_view_law (m (head b head_lifecycle)) (m (head b head_cursor)) (st.heads b here).life)

    -- "stored counts equal what they count": a page's busy slots
    pub busy_shown : (p : ℕ) → p < t.size → is_attached t p ≡ true → m (entry (entry_at m b p) entry_busy) ≡ busy_of till t.slots p
    busy_shown p h a = go (m (entry (entry_at m b p) entry_frame)) refl
      where
        i : p < m (head b head_pages)
        i = omega (arith, v.size)

        go : (l : ℕ) → m (entry (entry_at m b p) entry_frame) ≡ l → m (entry (entry_at m b p) entry_busy) ≡ busy_of till t.slots p
        go zero e = clash a (ap (λ (x : Page). is_some x.frame) (page_here p i) ∙ ap (λ (l : ℕ). is_some (unlink l)) e)
        go (suc f) e =
            let g = st.pages b p here i in
            g.busy f e ∙ sym (busy_page m b p f t.slots v.slots i e (λ j q. (g.slots f e j q).tag))

  -- ---- the frames

  module _ (s : State) (v : Shows sh m s) where
    -- the plans' frames are known from the book
    pub frames_shown : Permitted sh → Planned sh m s.book.rows → planned_in s.book.rows ≡ held → Frames s
    frames_shown limits pl all = record {
      once = λ f.
          let e : pages_with s f ≡ pages_of m sh.tables f = pages_with_law m s sh.tables f v.table_count
          (λ b h. (v.tables b h).size)
          (λ b h. rw (v.tables b h).limit (st.heads b h).size)
          (λ b p h i. sym (frame_shown b h (s.tables b) (v.tables b h) p (omega (arith, (v.tables b h).size))))
          (λ b p h i. page_gone b h (s.tables b) (v.tables b h) p (omega (arith, (v.tables b h).size))) in
          rw (e, v.frames, free_occurs m sh.frames f, v.frame_count) (frame_once sh m held st limits s.book.rows pl all f);
      rising = rw v.frames (free_rising m sh.frames);
    }

    pub frames_are : FramesAre m s
    frames_are = record {
      held = λ b p f h i e.
          let j : b < sh.tables = omega (arith, v.table_count) in let k : p < m (head b head_pages) = omega (arith, (v.tables b j).size) in
          (st.pages b p j k).named f (unlink_some (m (entry (entry_at m b p) entry_frame)) f (sym (ap (λ (x : Page). x.frame) (page_here b j (s.tables b) (v.tables b j) p k)) ∙ e));
      free = λ f h. free_owner m sh.frames f (rw v.frames at h);
      sixteens = λ g h. rw v.frames (st.sixteens g (omega (arith, v.frame_count)) ∙ free_group m sh.frames (g * 16) 16);
      hundreds = λ g h. rw v.frames (st.hundreds g (omega (arith, v.frame_count)) ∙ free_group m sh.frames (g * 256) 256);
      thousands = λ g h. rw v.frames (st.thousands g (omega (arith, v.frame_count)) ∙ free_group m sh.frames (g * 4096) 4096);
      count = rw v.frames (st.free ∙ free_length m sh.frames);
    }

    -- and the sums of the page limits
    pub entries_shown : sh.pages ≡ (sum s.table_count λ b. (s.tables b).limit)
    entries_shown = rw v.table_count (st.entries ∙ sum_equal sh.tables (λ b. m (head b head_page_limit)) (λ b. (s.tables b).limit) (λ b h. sym (v.tables b h).limit))

    pub first_shown : (b : ℕ) → b < s.table_count → m (head b head_first_entry) ≡ (sum b λ c. (s.tables c).limit)
    first_shown b h =
        let i : b < sh.tables = omega (arith, v.table_count) in
        (st.heads b i).first ∙ sum_equal b (λ c. m (head c head_page_limit)) (λ c. (s.tables c).limit) (λ c j. sym (v.tables c (omega arith)).limit)

    pub retired_shown : (b k : ℕ) → is_retired (s.tables b).life ≡ true → is_occupied ((s.tables b).slots k) ≡ false
    retired_shown b k r = bool (ltb b sh.tables)
        (λ e. let h = ltb-true b sh.tables e in closed_shown b h (s.tables b) (v.tables b h) r k)
        (λ e. ap (λ (t : Table). is_occupied (t.slots k)) (v.rest b (ltb-false b sh.tables e)))
