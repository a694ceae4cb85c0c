-- Creation: "a call beside the list, makes active tables without pages, new objects, free frames, no rows and next id 1".
use Rattle.std.specs.Prelude.{Bool, ◌&&◌, List, [], ℕ, zero, suc, ◌+◌, ◌-◌, ◌/◌, ◌^◌, length, eqb, ltb}
use Rattle.std.proofs.Math.Option.{Option, none, some}
use Rattle.codec.specs.Codec.{mask_of}
use Rattle.model.specs.Base.{pick, nth, every, between, range}
use Rattle.model.specs.State.{Sizes, Slot.absent, Lifecycle.active, Table, Class, Class.leaf, Class.rendezvous_only, Class.never, Stage.still_new, Object, State, no_page, no_table, no_object, max_tables, max_frames, max_objects, max_rows, max_limit, max_slots}

-- creation's parameters, as docs/formats.md has them
pub record TableParameters : Type 0 where
  pub pages : ℕ
  pub seed : ℕ

pub record ObjectParameters : Type 0 where
  pub koid : ℕ
  pub kind : ℕ
  pub class : ℕ
  pub supported : ℕ
  pub exportable : ℕ
  pub limit : ℕ

pub record Parameters : Type 0 where
  pub tables : List TableParameters
  pub frames : ℕ
  pub rows : ℕ
  pub objects : List ObjectParameters

-- "pages for each table 1 to 262,144": as many as make up the slots
abbrev pub max_pages : Sizes → ℕ
max_pages z = (max_slots + z.page_slots - 1) / z.page_slots

abbrev pub class_of : ℕ → Class
class_of zero = leaf
class_of (suc zero) = rendezvous_only
class_of (suc (suc n)) = never

-- the ranges of docs/formats.md
abbrev pub table_permitted : Sizes → TableParameters → Bool
table_permitted z p = between 1 p.pages (max_pages z) && ltb p.seed (2 ^ 64)

abbrev pub object_permitted : ObjectParameters → Bool
object_permitted p =
    between 1 p.koid (2 ^ 64 - 1)
    && (ltb p.kind (2 ^ 32)
    && (ltb p.class 3
    && (ltb p.supported (2 ^ 64)
    && (ltb p.exportable 2
    && between 0 p.limit max_limit))))

-- "Limits: tables 1 to 16; pages for each table 1 to 262,144; frames 0 to 65,535; objects 1 to 4,096; rows 1 to 256"
unfoldable pub permitted : Sizes → Parameters → Bool
permitted z p =
    between 1 (length p.tables) max_tables
    && (every (table_permitted z) p.tables
    && (between 0 p.frames max_frames
    && (between 1 (length p.objects) max_objects
    && (every object_permitted p.objects
    && between 1 p.rows max_rows))))

abbrev pub new_table : Option TableParameters → Table
new_table none = no_table
new_table (some p) = record { limit = p.pages; mask = mask_of p.seed; life = active; epoch = 0; size = 0; pages = λ q. no_page; slots = λ k. absent; free = []; empty = []; detached = [] }

abbrev pub new_object_record : Option ObjectParameters → Object
new_object_record none = no_object
new_object_record (some p) = record { koid = p.koid; kind = p.kind; class = class_of p.class; supported = p.supported; exportable = eqb p.exportable 1; limit = p.limit; stage = still_new; count = 0 }

unfoldable pub created : Parameters → State
created p = record {
  table_count = length p.tables;
  tables = λ b. new_table (nth p.tables b);
  object_count = length p.objects;
  objects = λ o. new_object_record (nth p.objects o);
  frame_count = p.frames;
  frames = range 0 p.frames;
  book = record { rows = []; capacity = p.rows; next = 1 };
}

-- "Outside these limits .. it gives 18": no state
abbrev pub create : Sizes → Parameters → Option State
create z p = pick (permitted z p) (some (created p)) none
