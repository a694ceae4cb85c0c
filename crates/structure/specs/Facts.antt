-- What a well-formed state asks of its heads, page entries, slots and frames, as facts about a memory. Assumes nothing.
use Rattle.std.specs.Prelude.{◌≡◌, Bool, not, ◌&&◌, ℕ, suc, ◌+◌, ◌*◌, ◌^◌, ◌≤◌, ◌<◌, eqb, ltb}
use Rattle.model.specs.Base.{bit, sum}
use Rattle.model.specs.State.{till}
use Rattle.model.specs.Storage.{slots_of}
use Rattle.codec.specs.Codec.{generation_limit}
use Rattle.layout.specs.declared.Shape.{Shape}
use Rattle.layout.specs.Layout.{Mem, root, head, entry, owner, group, cell}
use Rattle.layout.specs.Fields.{root_free_frames, head_page_limit, head_mask, head_lifecycle, head_cursor, head_pages, head_first_entry, entry_frame, entry_high, entry_busy, slot_tag, slot_generation, slot_object, slot_flags}
use Rattle.layout.specs.Values.{tag_vacant, tag_occupied, life_tearing_down, life_retired}
use Rattle.layout.specs.Sizes.{pages_max, slots_max}
use Rattle.representation.specs.Represents.{entry_at}

-- the page limits of the first b tables: the number of table b's first page entry
abbrev pub limits_to : Mem → ℕ → ℕ
limits_to m b = sum b λ c. m (head c head_page_limit)

-- a frame is free: it is one of the F frames, and it has no owner
abbrev pub is_free : Mem → ℕ → ℕ → Bool
is_free m F f = ltb f F && eqb (m (owner f)) 0

-- how many of n frames from a on are free
abbrev pub free_from : Mem → ℕ → ℕ → ℕ → ℕ
free_from m F a n = sum n λ j. bit (is_free m F (a + j))

-- how many of the first n slots of frame f are busy
abbrev pub busy_cells : Mem → ℕ → ℕ → ℕ
busy_cells m f n = sum n λ j. bit (not (eqb (m (cell f j slot_tag)) tag_vacant))

-- how many of n page entries from e on are of attached pages
abbrev pub attached_in : Mem → ℕ → ℕ → ℕ
attached_in m e n = sum n λ p. bit (not (eqb (m (entry (e + p) entry_frame)) 0))

-- how many pages of the first b tables are attached
abbrev pub attached_to : Mem → ℕ → ℕ
attached_to m b = sum b λ c. attached_in m (m (head c head_first_entry)) (m (head c head_pages))

-- the head of table b, whose first page entry is e
pub record HeadIs (m : Mem) (b e : ℕ) : Type 0 where
  pub some_limit : 1 ≤ m (head b head_page_limit)
  pub few_limit : m (head b head_page_limit) ≤ pages_max
  pub mask : m (head b head_mask) < 2 ^ 56
  pub life : m (head b head_lifecycle) ≤ life_retired
  pub cursor : m (head b head_lifecycle) ≡ life_tearing_down → m (head b head_cursor) ≤ slots_max
  pub size : m (head b head_pages) ≤ m (head b head_page_limit)
  pub first : m (head b head_first_entry) ≡ e

-- slot j of frame f, on a page with that high mark, in a table with that lifecycle, beside O objects
pub record SlotIs (m : Mem) (O life high f j : ℕ) : Type 0 where
  pub tag : m (cell f j slot_tag) ≤ tag_occupied
  pub some_generation : 1 ≤ m (cell f j slot_generation)
  pub few_generation : m (cell f j slot_generation) ≤ high
  pub object : m (cell f j slot_tag) ≡ tag_occupied → m (cell f j slot_object) < O
  pub flags : m (cell f j slot_tag) ≡ tag_occupied → m (cell f j slot_flags) ≤ 3
  -- "a retired one [has] no occupied slot"
  pub retired : m (cell f j slot_tag) ≡ tag_occupied → life ≡ life_retired → ⊥

-- the page of entry e, with n slots, in a table with that lifecycle
pub record PageIs (m : Mem) (sh : Shape) (life e n : ℕ) : Type 0 where
  pub some_high : 1 ≤ m (entry e entry_high)
  pub few_high : m (entry e entry_high) ≤ generation_limit
  pub link : m (entry e entry_frame) ≤ sh.frames
  -- an attached page's frame names it
  pub named : (f : ℕ) → m (entry e entry_frame) ≡ suc f → m (owner f) ≡ suc e
  pub busy : (f : ℕ) → m (entry e entry_frame) ≡ suc f → m (entry e entry_busy) ≡ busy_cells m f n
  pub slots : (f : ℕ) → m (entry e entry_frame) ≡ suc f → (j : ℕ) → j < n → SlotIs m sh.objects life (m (entry e entry_high)) f j

-- the whole, where plans hold so many frames
pub record Structure (sh : Shape) (m : Mem) (held : ℕ) : Type 0 where
  pub heads : (b : ℕ) → b < sh.tables → HeadIs m b (limits_to m b)
  pub pages : (b p : ℕ) → b < sh.tables → p < m (head b head_pages) → PageIs m sh (m (head b head_lifecycle)) (entry_at m b p) (slots_of till p)
  pub entries : sh.pages ≡ limits_to m sh.tables
  -- "each attached page has a frame of its own and all other frames are free", but for those that a plan holds
  pub frames : attached_to m sh.tables + held + free_from m sh.frames 0 sh.frames ≡ sh.frames
  pub free : m (root root_free_frames) ≡ free_from m sh.frames 0 sh.frames
  pub sixteens : (g : ℕ) → g * 16 < sh.frames → m (group 0 g) ≡ free_from m sh.frames (g * 16) 16
  pub hundreds : (g : ℕ) → g * 256 < sh.frames → m (group 1 g) ≡ free_from m sh.frames (g * 256) 256
  pub thousands : (g : ℕ) → g * 4096 < sh.frames → m (group 2 g) ≡ free_from m sh.frames (g * 4096) 4096
