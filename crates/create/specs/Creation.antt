-- What creation makes of the words that it is lent. Assumes nothing.
use Rattle.std.specs.Prelude.{List, [], ◌∷◌, ℕ, zero, suc, ◌+◌, ◌-◌, ◌*◌, ◌/◌, min, length, set, leb}
use Rattle.words.specs.Pick.{pick}
use Rattle.layout.specs.declared.Shape.{Shape}
use Rattle.layout.specs.Layout.{Addr.reg, total, root, head, object, index, rank, Write, Write.at, writes}
use Rattle.layout.specs.ShapeOf.{on_shape}
use Rattle.codec.specs.Codec.{mask_of}
use Rattle.layout.specs.Turns.{turns}
use Rattle.layout.specs.Fields.{root_version, root_tables, root_frames, root_objects, root_rows, root_next_id, root_free_frames, root_pages, head_page_limit, head_mask, head_first_entry, object_koid, object_kind, object_class, object_supported, object_exportable, object_limit}
use Rattle.layout.specs.RegionNames.{region_group16, region_group256, region_group4096}
use Rattle.create.specs.declared.Level.{Level}
use Rattle.create.specs.declared.Level.TheVariants.{Sixteens, Hundreds, Thousands}
use Rattle.create.specs.Parameters.{table_from, object_of, page_sum, plan_of}

-- words 0 to n - 1 are 0
unfoldable pub cleared_w : List ℕ → ℕ → List ℕ
cleared_w ws zero = ws
cleared_w ws (suc n) = set (cleared_w ws n) n 0

-- the header: version 1, the counts, next id 1; all frames are free
abbrev pub header_p : Shape → List Write
header_p sh =
    at (root root_version) 1 ∷ at (root root_tables) sh.tables ∷ at (root root_frames) sh.frames ∷ at (root root_objects) sh.objects ∷ at (root root_rows) sh.rows
    ∷ at (root root_next_id) 1 ∷ at (root root_free_frames) sh.frames ∷ at (root root_pages) sh.pages ∷ []

unfoldable pub header_w : List ℕ → Shape → List ℕ
header_w ws sh = writes ws sh (header_p sh)

-- a table's head: limit, mask, and its first page entry after those of the tables before it
abbrev pub head_p : List ℕ → ℕ → List Write
head_p ps b = at (head b head_page_limit) (table_from ps b).pages ∷ at (head b head_mask) (mask_of (table_from ps b).seed) ∷ at (head b head_first_entry) (page_sum ps b) ∷ []

abbrev pub heads_w : List ℕ → Shape → List ℕ → ℕ → List ℕ
heads_w ws sh ps n = turns ws sh (head_p ps) n

-- an object, new and without handles
abbrev pub object_p : List ℕ → ℕ → ℕ → List Write
object_p ps t o =
    at (object o object_koid) (object_of ps t o).koid ∷ at (object o object_kind) (object_of ps t o).kind ∷ at (object o object_class) (object_of ps t o).class
    ∷ at (object o object_supported) (object_of ps t o).supported ∷ at (object o object_exportable) (object_of ps t o).exportable ∷ at (object o object_limit) (object_of ps t o).limit ∷ []

abbrev pub objects_w : List ℕ → Shape → List ℕ → ℕ → List ℕ
objects_w ws sh ps n = turns ws sh (object_p ps sh.tables) n

-- a level's groups: how many frames each has, and the region of their counts
abbrev pub level_size : Level → ℕ
level_size Sixteens = 16
level_size Hundreds = 256
level_size Thousands = 4096

abbrev pub level_region : Level → ℕ
level_region Sixteens = region_group16
level_region Hundreds = region_group256
level_region Thousands = region_group4096

-- the frames of a group: its size, or what is left
abbrev pub group_p : Shape → ℕ → ℕ → ℕ → List Write
group_p sh k size g = at (reg k g 0 0) (min size (sh.frames - g * size)) ∷ []

abbrev pub groups_w : List ℕ → Shape → ℕ → ℕ → ℕ → List ℕ
groups_w ws sh k size n = turns ws sh (group_p sh k size) n

-- each place has the rank of its number
abbrev pub place_p : ℕ → List Write
place_p i = at (index i) i ∷ at (rank i) i ∷ []

abbrev pub places_w : List ℕ → Shape → ℕ → List ℕ
places_w ws sh n = turns ws sh place_p n

-- the three levels of groups
unfoldable pub levels_w : List ℕ → Shape → List ℕ
levels_w ws sh =
    groups_w (groups_w (groups_w ws sh region_group16 16 ((sh.frames + 15) / 16)) sh region_group256 256 ((sh.frames + 255) / 256)) sh region_group4096 4096 ((sh.frames + 4095) / 4096)

-- the whole: out of use is 0, words past the state keep their values
unfoldable pub built_w : List ℕ → List ℕ → Shape → List ℕ
built_w ws ps sh =
    places_w (levels_w (objects_w (heads_w (header_w (cleared_w ws (total sh)) sh) sh ps sh.tables) sh ps sh.objects) sh) sh sh.rows

-- the number and the words at the end
pub record After : Type 0 where
  pub result : ℕ
  pub words : List ℕ

abbrev pub after : ℕ → List ℕ → After
after r ws = record { result = r; words = ws }

-- with room for the state
unfoldable pub placed_w : List ℕ → List ℕ → Shape → After
placed_w ws ps sh = pick (leb (total sh) (length ws)) (after 0 (built_w ws ps sh)) (after 18 ws)

-- THE CALL
unfoldable pub create_w : List ℕ → List ℕ → After
create_w ws ps = on_shape (plan_of ps) (after 18 ws) (λ sh. placed_w ws ps sh)
