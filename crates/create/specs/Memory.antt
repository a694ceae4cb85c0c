-- What the addresses show after creation. Assumes nothing.
use Rattle.std.specs.Prelude.{◌≡◌, refl, List, ℕ, zero, suc, ◌+◌, ◌-◌, ◌*◌, ◌/◌, ◌≤◌, ◌<◌, min, length, get_or, eqb, ltb}
use Rattle.std.proofs.Math.Path.{ap, fun_ext}
use Rattle.std.proofs.Common.{set, ◌∙◌, length-set, eq-eqb, ne_eqb, eqb-true, ltb-false}
use native.Mathlib.Omega.{arith}
use Rattle.std.proofs.lemmas.Bool.{eqb-false}
use Rattle.words.specs.Pick.{pick, bool}
use Rattle.words.specs.Words.{get_past, get_put, get_other}
use Rattle.codec.specs.Codec.{mask_of}
use Rattle.layout.specs.declared.Shape.{Shape}
use Rattle.layout.specs.Layout.{Addr, Mem, total, root, head, owner, group, object, index, rank, load, place, place_low, is_in, in_is, load_out, Write, writes, upds, length_writes, load_writes, writes_past}
use Rattle.layout.specs.Layout.{in_root, in_head, in_object, in_index, in_rank}
use Rattle.layout.specs.Turns.{hit, length_turns, load_turns, miss, turns, turns_past, turns_m}
use Rattle.layout.specs.Fields.{root_version, root_tables, root_frames, root_objects, root_rows, root_next_id, root_free_frames, root_pages, head_page_limit, head_mask, head_lifecycle, head_epoch, head_pages, head_first_free, head_free_slots, head_first_empty, head_first_detached, head_first_entry, object_koid, object_kind, object_class, object_supported, object_exportable, object_stage, object_active, object_limit}
use Rattle.layout.specs.Values.{life_active, stage_new}
use Rattle.layout.specs.RegionNames.{region_group16, region_group256, region_group4096}
use Rattle.create.specs.Parameters.{table_from, object_of, page_sum}
use Rattle.create.specs.Creation.{cleared_w, header_p, header_w, head_p, object_p, group_p, levels_w, place_p, built_w}

-- ---- cleared words

pub length_cleared : (ws : List ℕ) (n : ℕ) → length (cleared_w ws n) ≡ length ws
unfolding cleared_w
length_cleared ws zero = refl
length_cleared ws (suc n) = length-set (cleared_w ws n) n 0 ∙ length_cleared ws n

pub get_cleared : (ws : List ℕ) (n i : ℕ) → i < n → get_or (cleared_w ws n) i 0 ≡ 0
unfolding cleared_w
get_cleared ws zero i h = absurd (omega arith)
get_cleared ws (suc n) i h = get_put (cleared_w ws n) n 0 i ∙ bool (eqb i n)
    (λ e. rw e (bool (ltb n (length (cleared_w ws n)))
    (λ g. rw g)
    (λ g. rw g (get_past (cleared_w ws n) i (omega (arith, eqb-true i n e, ltb-false n (length (cleared_w ws n)) g))))))
    (λ e. rw e (get_cleared ws n i (omega (arith, eqb-false i n e))))

pub cleared_past : (ws : List ℕ) (n i : ℕ) → n ≤ i → get_or (cleared_w ws n) i 0 ≡ get_or ws i 0
unfolding cleared_w
cleared_past ws zero i h = refl
cleared_past ws (suc n) i h = get_other (cleared_w ws n) n 0 i (λ e. omega arith) ∙ cleared_past ws n i (omega arith)

abbrev pub zeros : Mem
zeros a = 0

pub load_cleared : (ws : List ℕ) (sh : Shape) → load (cleared_w ws (total sh)) sh ≡ zeros
unfolding load
load_cleared ws sh = fun_ext λ a. bool (is_in sh a)
    (λ e. get_cleared ws (total sh) (place (length (cleared_w ws (total sh))) sh a) (place_low (length (cleared_w ws (total sh))) sh a (in_is sh a e)))
    (λ e. load_out (cleared_w ws (total sh)) sh a e)

-- the tests that are left of such a store
pub here : (i v w : ℕ) → pick (eqb i i) v w ≡ v
here i v w = rw (eq-eqb i i refl)

pub there : (i j v w : ℕ) → (i ≡ j → ⊥) → pick (eqb i j) v w ≡ w
there i j v w h = rw (ne_eqb i j h)

-- of turns of which each stores its own at an address of its number
own : (m : Mem) (plan : ℕ → List Write) (a : Addr) (v : ℕ → ℕ) (i : ℕ) → ((j : ℕ) (k : Mem) → upds k (plan j) a ≡ pick (eqb i j) (v j) (k a)) → (n : ℕ) → i < n → turns_m m plan n a ≡ v i
own m plan a v i e n h = hit m plan a i (v i) (λ k. e i k ∙ here i (v i) (k a)) (λ j k d. e j k ∙ there i j (v j) (k a) d) n h

-- ---- the memory of a new state

module _ (ps : List ℕ) (sh : Shape) where
  abbrev pub m_root : Mem
  m_root = upds zeros (header_p sh)

  abbrev pub m_heads : Mem
  m_heads = turns_m m_root (head_p ps) sh.tables

  abbrev pub m_objects : Mem
  m_objects = turns_m m_heads (object_p ps sh.tables) sh.objects

  abbrev pub m_sixteens : Mem
  m_sixteens = turns_m m_objects (group_p sh region_group16 16) ((sh.frames + 15) / 16)

  abbrev pub m_hundreds : Mem
  m_hundreds = turns_m m_sixteens (group_p sh region_group256 256) ((sh.frames + 255) / 256)

  abbrev pub m_thousands : Mem
  m_thousands = turns_m m_hundreds (group_p sh region_group4096 4096) ((sh.frames + 4095) / 4096)

  abbrev pub m_new : Mem
  m_new = turns_m m_thousands place_p sh.rows

  pub load_built : (ws : List ℕ) → total sh ≤ length ws → load (built_w ws ps sh) sh ≡ m_new
  unfolding built_w header_w levels_w
  load_built ws h =
      let w0 = cleared_w ws (total sh) in let l0 = length_cleared ws (total sh) in
      let w1 = writes w0 sh (header_p sh) in let l1 = length_writes w0 sh (header_p sh) in
      let w2 = turns w1 sh (head_p ps) sh.tables in let l2 = length_turns w1 sh (head_p ps) sh.tables in
      let w3 = turns w2 sh (object_p ps sh.tables) sh.objects in let l3 = length_turns w2 sh (object_p ps sh.tables) sh.objects in
      let w4 = turns w3 sh (group_p sh region_group16 16) ((sh.frames + 15) / 16) in let l4 = length_turns w3 sh (group_p sh region_group16 16) ((sh.frames + 15) / 16) in
      let w5 = turns w4 sh (group_p sh region_group256 256) ((sh.frames + 255) / 256) in let l5 = length_turns w4 sh (group_p sh region_group256 256) ((sh.frames + 255) / 256) in
      let w6 = turns w5 sh (group_p sh region_group4096 4096) ((sh.frames + 4095) / 4096) in let l6 = length_turns w5 sh (group_p sh region_group4096 4096) ((sh.frames + 4095) / 4096) in
      load_turns w6 sh place_p (omega arith) sh.rows (λ i g. (in_index sh i g, (in_rank sh i g, tt)))
      ∙ ap (λ (m : Mem). turns_m m place_p sh.rows)
      (load_turns w5 sh (group_p sh region_group4096 4096) (omega arith) ((sh.frames + 4095) / 4096) (λ i g. (record { xs = g; ys = omega arith; fs = omega arith }, tt))
      ∙ ap (λ (m : Mem). turns_m m (group_p sh region_group4096 4096) ((sh.frames + 4095) / 4096))
      (load_turns w4 sh (group_p sh region_group256 256) (omega arith) ((sh.frames + 255) / 256) (λ i g. (record { xs = g; ys = omega arith; fs = omega arith }, tt))
      ∙ ap (λ (m : Mem). turns_m m (group_p sh region_group256 256) ((sh.frames + 255) / 256))
      (load_turns w3 sh (group_p sh region_group16 16) (omega arith) ((sh.frames + 15) / 16) (λ i g. (record { xs = g; ys = omega arith; fs = omega arith }, tt))
      ∙ ap (λ (m : Mem). turns_m m (group_p sh region_group16 16) ((sh.frames + 15) / 16))
      (load_turns w2 sh (object_p ps sh.tables) (omega arith) sh.objects
      (λ i g. (in_object sh i object_koid g (omega arith), (in_object sh i object_kind g (omega arith), (in_object sh i object_class g (omega arith), (in_object sh i object_supported g (omega arith), (in_object sh i object_exportable g (omega arith), (in_object sh i object_limit g (omega arith), tt)))))))
      ∙ ap (λ (m : Mem). turns_m m (object_p ps sh.tables) sh.objects)
      (load_turns w1 sh (head_p ps) (omega arith) sh.tables (λ i g. (in_head sh i head_page_limit g (omega arith), (in_head sh i head_mask g (omega arith), (in_head sh i head_first_entry g (omega arith), tt))))
      ∙ ap (λ (m : Mem). turns_m m (head_p ps) sh.tables)
      (load_writes w0 sh (omega arith) (header_p sh)
      (in_root sh root_version (omega arith), (in_root sh root_tables (omega arith), (in_root sh root_frames (omega arith), (in_root sh root_objects (omega arith), (in_root sh root_rows (omega arith), (in_root sh root_next_id (omega arith), (in_root sh root_free_frames (omega arith), (in_root sh root_pages (omega arith), tt))))))))
      ∙ ap (λ (m : Mem). upds m (header_p sh)) (load_cleared ws sh)))))))

  pub length_built : (ws : List ℕ) → length (built_w ws ps sh) ≡ length ws
  unfolding built_w header_w levels_w
  length_built ws =
      let w0 = cleared_w ws (total sh) in let w1 = writes w0 sh (header_p sh) in
      let w2 = turns w1 sh (head_p ps) sh.tables in
      let w3 = turns w2 sh (object_p ps sh.tables) sh.objects in
      let w4 = turns w3 sh (group_p sh region_group16 16) ((sh.frames + 15) / 16) in
      let w5 = turns w4 sh (group_p sh region_group256 256) ((sh.frames + 255) / 256) in
      let w6 = turns w5 sh (group_p sh region_group4096 4096) ((sh.frames + 4095) / 4096) in
      length_turns w6 sh place_p sh.rows ∙ length_turns w5 sh (group_p sh region_group4096 4096) ((sh.frames + 4095) / 4096) ∙ length_turns w4 sh (group_p sh region_group256 256) ((sh.frames + 255) / 256)
      ∙ length_turns w3 sh (group_p sh region_group16 16) ((sh.frames + 15) / 16) ∙ length_turns w2 sh (object_p ps sh.tables) sh.objects ∙ length_turns w1 sh (head_p ps) sh.tables
      ∙ length_writes w0 sh (header_p sh) ∙ length_cleared ws (total sh)

  -- words past the state keep their values
  pub built_past : (ws : List ℕ) (i : ℕ) → total sh ≤ i → get_or (built_w ws ps sh) i 0 ≡ get_or ws i 0
  unfolding built_w header_w levels_w
  built_past ws i h =
      let w0 = cleared_w ws (total sh) in let w1 = writes w0 sh (header_p sh) in
      let w2 = turns w1 sh (head_p ps) sh.tables in
      let w3 = turns w2 sh (object_p ps sh.tables) sh.objects in
      let w4 = turns w3 sh (group_p sh region_group16 16) ((sh.frames + 15) / 16) in
      let w5 = turns w4 sh (group_p sh region_group256 256) ((sh.frames + 255) / 256) in
      let w6 = turns w5 sh (group_p sh region_group4096 4096) ((sh.frames + 4095) / 4096) in
      turns_past w6 sh place_p sh.rows i h ∙ turns_past w5 sh (group_p sh region_group4096 4096) ((sh.frames + 4095) / 4096) i h ∙ turns_past w4 sh (group_p sh region_group256 256) ((sh.frames + 255) / 256) i h
      ∙ turns_past w3 sh (group_p sh region_group16 16) ((sh.frames + 15) / 16) i h ∙ turns_past w2 sh (object_p ps sh.tables) sh.objects i h ∙ turns_past w1 sh (head_p ps) sh.tables i h
      ∙ writes_past w0 sh (header_p sh) i h ∙ cleared_past ws (total sh) i h

  -- ---- what it shows

  off_places : (a : Addr) → ((i : ℕ) (k : Mem) → upds k (place_p i) a ≡ k a) → m_new a ≡ m_thousands a
  off_places a c = miss m_thousands place_p a c sh.rows

  off_groups : (a : Addr) → ((i : ℕ) (k : Mem) → upds k (group_p sh region_group16 16 i) a ≡ k a) → ((i : ℕ) (k : Mem) → upds k (group_p sh region_group256 256 i) a ≡ k a)
      → ((i : ℕ) (k : Mem) → upds k (group_p sh region_group4096 4096 i) a ≡ k a) → m_thousands a ≡ m_objects a
  off_groups a c d e =
      miss m_hundreds (group_p sh region_group4096 4096) a e ((sh.frames + 4095) / 4096) ∙ miss m_sixteens (group_p sh region_group256 256) a d ((sh.frames + 255) / 256)
      ∙ miss m_objects (group_p sh region_group16 16) a c ((sh.frames + 15) / 16)

  pub new_root : (f : ℕ) → m_new (root f) ≡ m_root (root f)
  new_root f =
      off_places (root f) (λ i k. refl) ∙ off_groups (root f) (λ i k. refl) (λ i k. refl) (λ i k. refl)
      ∙ miss m_heads (object_p ps sh.tables) (root f) (λ i k. refl) sh.objects ∙ miss m_root (head_p ps) (root f) (λ i k. refl) sh.tables

  new_head : (b f : ℕ) → m_new (head b f) ≡ m_heads (head b f)
  new_head b f =
      off_places (head b f) (λ i k. refl) ∙ off_groups (head b f) (λ i k. refl) (λ i k. refl) (λ i k. refl)
      ∙ miss m_heads (object_p ps sh.tables) (head b f) (λ i k. refl) sh.objects

  pub new_limit : (b : ℕ) → b < sh.tables → m_new (head b head_page_limit) ≡ (table_from ps b).pages
  new_limit b h = new_head b head_page_limit ∙ own m_root (head_p ps) (head b head_page_limit) (λ j. (table_from ps j).pages) b (λ j k. refl) sh.tables h

  pub new_mask : (b : ℕ) → b < sh.tables → m_new (head b head_mask) ≡ mask_of (table_from ps b).seed
  new_mask b h = new_head b head_mask ∙ own m_root (head_p ps) (head b head_mask) (λ j. mask_of (table_from ps j).seed) b (λ j k. refl) sh.tables h

  pub new_first : (b : ℕ) → b < sh.tables → m_new (head b head_first_entry) ≡ page_sum ps b
  new_first b h = new_head b head_first_entry ∙ own m_root (head_p ps) (head b head_first_entry) (λ j. page_sum ps j) b (λ j k. refl) sh.tables h

  -- the other fields of a head
  pub new_life : (b : ℕ) → m_new (head b head_lifecycle) ≡ life_active
  new_life b = new_head b head_lifecycle ∙ miss m_root (head_p ps) (head b head_lifecycle) (λ i k. refl) sh.tables

  pub new_epoch : (b : ℕ) → m_new (head b head_epoch) ≡ 0
  new_epoch b = new_head b head_epoch ∙ miss m_root (head_p ps) (head b head_epoch) (λ i k. refl) sh.tables

  pub new_size : (b : ℕ) → m_new (head b head_pages) ≡ 0
  new_size b = new_head b head_pages ∙ miss m_root (head_p ps) (head b head_pages) (λ i k. refl) sh.tables

  pub new_free : (b : ℕ) → m_new (head b head_first_free) ≡ 0
  new_free b = new_head b head_first_free ∙ miss m_root (head_p ps) (head b head_first_free) (λ i k. refl) sh.tables

  pub new_count : (b : ℕ) → m_new (head b head_free_slots) ≡ 0
  new_count b = new_head b head_free_slots ∙ miss m_root (head_p ps) (head b head_free_slots) (λ i k. refl) sh.tables

  pub new_empty : (b : ℕ) → m_new (head b head_first_empty) ≡ 0
  new_empty b = new_head b head_first_empty ∙ miss m_root (head_p ps) (head b head_first_empty) (λ i k. refl) sh.tables

  pub new_detached : (b : ℕ) → m_new (head b head_first_detached) ≡ 0
  new_detached b = new_head b head_first_detached ∙ miss m_root (head_p ps) (head b head_first_detached) (λ i k. refl) sh.tables

  pub new_owner : (f : ℕ) → m_new (owner f) ≡ 0
  new_owner f =
      off_places (owner f) (λ i k. refl) ∙ off_groups (owner f) (λ i k. refl) (λ i k. refl) (λ i k. refl)
      ∙ miss m_heads (object_p ps sh.tables) (owner f) (λ i k. refl) sh.objects ∙ miss m_root (head_p ps) (owner f) (λ i k. refl) sh.tables

  -- groups
  pub new_sixteen : (g : ℕ) → g < (sh.frames + 15) / 16 → m_new (group 0 g) ≡ min 16 (sh.frames - g * 16)
  new_sixteen g h =
      off_places (group 0 g) (λ i k. refl) ∙ miss m_hundreds (group_p sh region_group4096 4096) (group 0 g) (λ i k. refl) ((sh.frames + 4095) / 4096)
      ∙ miss m_sixteens (group_p sh region_group256 256) (group 0 g) (λ i k. refl) ((sh.frames + 255) / 256)
      ∙ own m_objects (group_p sh region_group16 16) (group 0 g) (λ j. min 16 (sh.frames - j * 16)) g (λ j k. refl) ((sh.frames + 15) / 16) h

  pub new_hundred : (g : ℕ) → g < (sh.frames + 255) / 256 → m_new (group 1 g) ≡ min 256 (sh.frames - g * 256)
  new_hundred g h =
      off_places (group 1 g) (λ i k. refl) ∙ miss m_hundreds (group_p sh region_group4096 4096) (group 1 g) (λ i k. refl) ((sh.frames + 4095) / 4096)
      ∙ own m_sixteens (group_p sh region_group256 256) (group 1 g) (λ j. min 256 (sh.frames - j * 256)) g (λ j k. refl) ((sh.frames + 255) / 256) h

  pub new_thousand : (g : ℕ) → g < (sh.frames + 4095) / 4096 → m_new (group 2 g) ≡ min 4096 (sh.frames - g * 4096)
  new_thousand g h = off_places (group 2 g) (λ i k. refl) ∙ own m_hundreds (group_p sh region_group4096 4096) (group 2 g) (λ j. min 4096 (sh.frames - j * 4096)) g (λ j k. refl) ((sh.frames + 4095) / 4096) h

  -- objects
  new_object_law : (o f : ℕ) → m_new (object o f) ≡ m_objects (object o f)
  new_object_law o f = off_places (object o f) (λ i k. refl) ∙ off_groups (object o f) (λ i k. refl) (λ i k. refl) (λ i k. refl)

  module _ (o : ℕ) (h : o < sh.objects) where
    pub new_koid : m_new (object o object_koid) ≡ (object_of ps sh.tables o).koid
    new_koid = new_object_law o object_koid ∙ own m_heads (object_p ps sh.tables) (object o object_koid) (λ j. (object_of ps sh.tables j).koid) o (λ j k. refl) sh.objects h

    pub new_kind : m_new (object o object_kind) ≡ (object_of ps sh.tables o).kind
    new_kind = new_object_law o object_kind ∙ own m_heads (object_p ps sh.tables) (object o object_kind) (λ j. (object_of ps sh.tables j).kind) o (λ j k. refl) sh.objects h

    pub new_class : m_new (object o object_class) ≡ (object_of ps sh.tables o).class
    new_class = new_object_law o object_class ∙ own m_heads (object_p ps sh.tables) (object o object_class) (λ j. (object_of ps sh.tables j).class) o (λ j k. refl) sh.objects h

    pub new_supported : m_new (object o object_supported) ≡ (object_of ps sh.tables o).supported
    new_supported = new_object_law o object_supported ∙ own m_heads (object_p ps sh.tables) (object o object_supported) (λ j. (object_of ps sh.tables j).supported) o (λ j k. refl) sh.objects h

    pub new_exportable : m_new (object o object_exportable) ≡ (object_of ps sh.tables o).exportable
    new_exportable = new_object_law o object_exportable ∙ own m_heads (object_p ps sh.tables) (object o object_exportable) (λ j. (object_of ps sh.tables j).exportable) o (λ j k. refl) sh.objects h

    pub new_most : m_new (object o object_limit) ≡ (object_of ps sh.tables o).limit
    new_most = new_object_law o object_limit ∙ own m_heads (object_p ps sh.tables) (object o object_limit) (λ j. (object_of ps sh.tables j).limit) o (λ j k. refl) sh.objects h

    pub new_stage : m_new (object o object_stage) ≡ stage_new
    new_stage = new_object_law o object_stage ∙ miss m_heads (object_p ps sh.tables) (object o object_stage) (λ i k. refl) sh.objects ∙ miss m_root (head_p ps) (object o object_stage) (λ i k. refl) sh.tables

    pub new_handles : m_new (object o object_active) ≡ 0
    new_handles = new_object_law o object_active ∙ miss m_heads (object_p ps sh.tables) (object o object_active) (λ i k. refl) sh.objects ∙ miss m_root (head_p ps) (object o object_active) (λ i k. refl) sh.tables

  -- the row index
  pub new_index : (i : ℕ) → i < sh.rows → m_new (index i) ≡ i
  new_index i h = own m_thousands place_p (index i) (λ j. j) i (λ j k. refl) sh.rows h

  pub new_rank : (i : ℕ) → i < sh.rows → m_new (rank i) ≡ i
  new_rank i h = own m_thousands place_p (rank i) (λ j. j) i (λ j k. refl) sh.rows h
