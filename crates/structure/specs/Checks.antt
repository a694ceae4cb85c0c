-- The tests of the check's first part, and that they pass exactly where the facts hold. Assumes nothing.
use Rattle.std.specs.Prelude.{◌≡◌, Bool, not, ◌&&◌, ℕ, zero, suc, ◌+◌, ◌*◌, ◌/◌, ◌^◌, ◌≤◌, ◌<◌, eqb, ltb, leb}
use Rattle.std.proofs.Math.Bool.{true}
use Rattle.std.proofs.Common.{arith}
use borrow.Author.Tests.{eq-eqb, ne_eqb, eqb-true, eqb-false, lt-ltb, ltb-true, le-leb, leb-true, not-true}
use Rattle.words.specs.Pick.{pick, bool, both}
use Rattle.words.specs.All.{all}
use Rattle.model.specs.State.{till}
use Rattle.model.specs.Storage.{slots_of}
use Rattle.codec.specs.Codec.{generation_limit}
use Rattle.layout.specs.declared.Shape.{Shape}
use Rattle.layout.specs.declared.CellWords.{CellWords}
use Rattle.layout.specs.Layout.{Mem, root, head, entry, owner, group, cell}
use Rattle.layout.specs.Fields.{root_free_frames, head_page_limit, head_mask, head_lifecycle, head_cursor, head_pages, head_first_entry, entry_frame, entry_high, entry_busy, slot_tag, slot_generation, slot_object, slot_flags}
use Rattle.layout.specs.Values.{tag_occupied, life_tearing_down, life_retired}
use Rattle.layout.specs.Sizes.{pages_max, slots_max}
use Rattle.structure.specs.Facts.{limits_to, free_from, busy_cells, attached_to, HeadIs, SlotIs}

-- a lifecycle and its cursor
unfoldable pub life_b : ℕ → ℕ → Bool
life_b w c = pick (eqb w life_tearing_down) (leb c slots_max) (leb w life_retired)

unfoldable pub head_b : Mem → ℕ → ℕ → Bool
head_b m b e =
    leb 1 (m (head b head_page_limit)) && (leb (m (head b head_page_limit)) pages_max && (ltb (m (head b head_mask)) (2 ^ 56) && (life_b (m (head b head_lifecycle)) (m (head b head_cursor))
    && (leb (m (head b head_pages)) (m (head b head_page_limit)) && eqb (m (head b head_first_entry)) e))))

-- an occupied slot's handle
unfoldable pub handle_b : Mem → ℕ → ℕ → ℕ → ℕ → Bool
handle_b m O life f j = not (eqb life life_retired) && (ltb (m (cell f j slot_object)) O && leb (m (cell f j slot_flags)) 3)

unfoldable pub slot_b : Mem → ℕ → ℕ → ℕ → ℕ → ℕ → Bool
slot_b m O life high f j =
    leb (m (cell f j slot_tag)) tag_occupied && (leb 1 (m (cell f j slot_generation)) && (leb (m (cell f j slot_generation)) high && pick (eqb (m (cell f j slot_tag)) tag_occupied) (handle_b m O life f j) true))

-- the first n slots of a frame, of which w are busy
unfoldable pub slots_b : Mem → ℕ → ℕ → ℕ → ℕ → ℕ → ℕ → Bool
slots_b m O life high f n w = all n (slot_b m O life high f) && eqb (busy_cells m f n) w

-- the frame of entry e, as a link
unfoldable pub frame_b : Mem → Shape → ℕ → ℕ → ℕ → ℕ → Bool
frame_b m sh life e n zero = true
frame_b m sh life e n (suc f) = ltb f sh.frames && (eqb (m (owner f)) (suc e) && slots_b m sh.objects life (m (entry e entry_high)) f n (m (entry e entry_busy)))

-- the page of entry e, with n slots
unfoldable pub page_b : Mem → Shape → ℕ → ℕ → ℕ → Bool
page_b m sh life e n = leb 1 (m (entry e entry_high)) && (leb (m (entry e entry_high)) generation_limit && frame_b m sh life e n (m (entry e entry_frame)))

-- the first n pages from entry e on
unfoldable pub pages_b : Mem → Shape → ℕ → ℕ → ℕ → Bool
pages_b m sh life e n = all n λ p. page_b m sh life (e + p) (slots_of till p)

-- table b, whose first page entry is e
unfoldable pub table_b : Mem → Shape → ℕ → ℕ → Bool
table_b m sh b e = head_b m b e && pages_b m sh (m (head b head_lifecycle)) e (m (head b head_pages))

unfoldable pub tables_b : Mem → Shape → Bool
tables_b m sh = all sh.tables (λ b. table_b m sh b (limits_to m b)) && eqb (limits_to m sh.tables) sh.pages

-- n groups of one level
unfoldable pub groups_b : Mem → ℕ → ℕ → ℕ → ℕ → Bool
groups_b m F level size n = all n λ g. eqb (m (group level g)) (free_from m F (g * size) size)

unfoldable pub levels_b : Mem → ℕ → Bool
levels_b m F = groups_b m F 0 16 ((F + 15) / 16) && (groups_b m F 1 256 ((F + 255) / 256) && groups_b m F 2 4096 ((F + 4095) / 4096))

-- as many attached pages as frames that are not free and that no plan holds
unfoldable pub frames_b : Mem → Shape → ℕ → Bool
frames_b m sh held =
    eqb (attached_to m sh.tables + held + free_from m sh.frames 0 sh.frames) sh.frames
    && (eqb (m (root root_free_frames)) (free_from m sh.frames 0 sh.frames) && levels_b m sh.frames)

-- THE CHECK'S FIRST PART, where plans hold so many frames
unfoldable pub structure_b : Mem → Shape → ℕ → Bool
structure_b m sh held = tables_b m sh && frames_b m sh held

-- ---- the same in two parts: the outline, and the slots

-- what the objects of a table's handles are below: a retired table has none
abbrev pub bound_of : ℕ → ℕ → ℕ
bound_of O life = pick (eqb life life_retired) 0 O

-- a slot by its words
unfoldable pub handle_c : ℕ → CellWords → Bool
handle_c bound c = ltb c.object bound && leb c.flags 3

unfoldable pub slot_c : ℕ → ℕ → CellWords → Bool
slot_c bound high c = leb c.tag tag_occupied && (leb 1 c.generation && (leb c.generation high && pick (eqb c.tag tag_occupied) (handle_c bound c) true))

-- the frame of entry e, as a link, but for its slots
unfoldable pub link_b : Mem → Shape → ℕ → ℕ → Bool
link_b m sh e zero = true
link_b m sh e (suc f) = ltb f sh.frames && eqb (m (owner f)) (suc e)

unfoldable pub entry_b : Mem → Shape → ℕ → Bool
entry_b m sh e = leb 1 (m (entry e entry_high)) && (leb (m (entry e entry_high)) generation_limit && link_b m sh e (m (entry e entry_frame)))

unfoldable pub entries_b : Mem → Shape → ℕ → ℕ → Bool
entries_b m sh e n = all n λ p. entry_b m sh (e + p)

-- table b: its head and its page entries
unfoldable pub span_b : Mem → Shape → ℕ → ℕ → Bool
span_b m sh b e = head_b m b e && entries_b m sh e (m (head b head_pages))

unfoldable pub spans_b : Mem → Shape → Bool
spans_b m sh = all sh.tables (λ b. span_b m sh b (limits_to m b)) && eqb (limits_to m sh.tables) sh.pages

-- heads, page entries and frames
unfoldable pub outline_b : Mem → Shape → ℕ → Bool
outline_b m sh held = spans_b m sh && frames_b m sh held

-- ---- heads

pub life_is : (w c : ℕ) → life_b w c ≡ true → (w ≤ life_retired) × (w ≡ life_tearing_down → c ≤ slots_max)
unfolding life_b
life_is w c q = bool (eqb w life_tearing_down)
    (λ e. let y = eqb-true w life_tearing_down e in (omega arith, λ h. leb-true c slots_max (rw e at q)))
    (λ e. (leb-true w life_retired (rw e at q), λ h. absurd (eqb-false w life_tearing_down e h)))

pub life_yes : (w c : ℕ) → w ≤ life_retired → (w ≡ life_tearing_down → c ≤ slots_max) → life_b w c ≡ true
unfolding life_b
life_yes w c h g = bool (eqb w life_tearing_down) (λ e. rw e (le-leb c slots_max (g (eqb-true w life_tearing_down e)))) (λ e. rw e (le-leb w life_retired h))

pub head_is : (m : Mem) (b e : ℕ) → head_b m b e ≡ true → HeadIs m b e
unfolding head_b
head_is m b e q =
    let t1 = both (leb 1 (m (head b head_page_limit))) _ q in let t2 = both (leb (m (head b head_page_limit)) pages_max) _ t1.1 in let t3 = both (ltb (m (head b head_mask)) (2 ^ 56)) _ t2.1 in
    let t4 = both (life_b (m (head b head_lifecycle)) (m (head b head_cursor))) _ t3.1 in let t5 = both (leb (m (head b head_pages)) (m (head b head_page_limit))) _ t4.1 in
    let l = life_is (m (head b head_lifecycle)) (m (head b head_cursor)) t4.0 in
    record {
      some_limit = leb-true 1 (m (head b head_page_limit)) t1.0;
      few_limit = leb-true (m (head b head_page_limit)) pages_max t2.0;
      mask = ltb-true (m (head b head_mask)) (2 ^ 56) t3.0;
      life = l.0;
      cursor = l.1;
      size = omega (arith, leb-true (m (head b head_pages)) (m (head b head_page_limit)) t5.0);
      first = eqb-true (m (head b head_first_entry)) e t5.1;
    }

pub head_yes : (m : Mem) (b e : ℕ) → HeadIs m b e → head_b m b e ≡ true
unfolding head_b
head_yes m b e h = rw (
  le-leb 1 (m (head b head_page_limit)) h.some_limit,
  le-leb (m (head b head_page_limit)) pages_max h.few_limit,
  lt-ltb (m (head b head_mask)) (2 ^ 56) h.mask,
  life_yes (m (head b head_lifecycle)) (m (head b head_cursor)) h.life h.cursor,
  le-leb (m (head b head_pages)) (m (head b head_page_limit)) h.size,
  eq-eqb (m (head b head_first_entry)) e h.first,
)

-- ---- slots

module _ (m : Mem) (O life f j : ℕ) where
  pub handle_is : handle_b m O life f j ≡ true → (life ≡ life_retired → ⊥) × (m (cell f j slot_object) < O) × (m (cell f j slot_flags) ≤ 3)
  unfolding handle_b
  handle_is q =
      let t1 = both (not (eqb life life_retired)) _ q in let t2 = both (ltb (m (cell f j slot_object)) O) _ t1.1 in
      (eqb-false life life_retired (not-true _ t1.0), ltb-true (m (cell f j slot_object)) O t2.0, leb-true (m (cell f j slot_flags)) 3 t2.1)

  pub handle_yes : (life ≡ life_retired → ⊥) → m (cell f j slot_object) < O → m (cell f j slot_flags) ≤ 3 → handle_b m O life f j ≡ true
  unfolding handle_b
  handle_yes h g k = rw (ne_eqb life life_retired h, lt-ltb (m (cell f j slot_object)) O g, le-leb (m (cell f j slot_flags)) 3 k)

  pub slot_is : (high : ℕ) → slot_b m O life high f j ≡ true → SlotIs m O life high f j
  unfolding slot_b
  slot_is high q =
      let t1 = both (leb (m (cell f j slot_tag)) tag_occupied) _ q in let t2 = both (leb 1 (m (cell f j slot_generation))) _ t1.1 in let t3 = both (leb (m (cell f j slot_generation)) high) _ t2.1 in
      let u : m (cell f j slot_tag) ≡ tag_occupied → (life ≡ life_retired → ⊥) × (m (cell f j slot_object) < O) × (m (cell f j slot_flags) ≤ 3) = λ e. handle_is (rw (eq-eqb (m (cell f j slot_tag)) tag_occupied e) at t3.1) in
      record {
        tag = leb-true (m (cell f j slot_tag)) tag_occupied t1.0;
        some_generation = leb-true 1 (m (cell f j slot_generation)) t2.0;
        few_generation = leb-true (m (cell f j slot_generation)) high t3.0;
        object = λ e. (u e).1;
        flags = λ e. (u e).2;
        retired = λ e. (u e).0;
      }

  pub slot_yes : (high : ℕ) → SlotIs m O life high f j → slot_b m O life high f j ≡ true
  unfolding slot_b
  slot_yes high h =
      let u : pick (eqb (m (cell f j slot_tag)) tag_occupied) (handle_b m O life f j) true ≡ true = bool (eqb (m (cell f j slot_tag)) tag_occupied)
      (λ e. let y = eqb-true (m (cell f j slot_tag)) tag_occupied e in rw e (handle_yes (h.retired y) (h.object y) (h.flags y)))
      (λ e. rw e) in
      rw (le-leb (m (cell f j slot_tag)) tag_occupied h.tag, le-leb 1 (m (cell f j slot_generation)) h.some_generation, le-leb (m (cell f j slot_generation)) high h.few_generation, u)
