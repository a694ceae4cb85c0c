-- Where each field of a state stands, loads and stores by address, and plans of stores. Assumes nothing.
use Rattle.std.specs.Prelude.{◌≡◌, refl, Bool, true, false, ◌&&◌, List, [], ◌∷◌, ℕ, zero, suc, ◌+◌, ◌*◌, ◌/◌, ◌^◌, ◌<◌, ◌≤◌, length, get_or, set, eqb, ltb}
use Rattle.std.proofs.Common.{sym, ap, ◌∙◌, mul-le-mul_left, arith, get_or-set_same, eq-eqb, eqb-true, ltb-true, ltb-false}
use Rattle.std.proofs.Math.Path.{fun_ext}
use Rattle.std.proofs.Math.Bool.{and-false}
use Rattle.std.proofs.Math.ListN.{length-set}
use Rattle.std.proofs.Math.Seq.{get_or-set_other, set_out, set-get_or}
use Rattle.std.proofs.Math.Dec.{eqb-zero-suc, eqb-suc-zero, eqb-suc-suc}
use Rattle.words.specs.Pick.{pick, bool, clash, both}
use Rattle.words.specs.Words.{get_past, words_same}
use Rattle.layout.specs.Regions.{ext, size, region, Stacked, stacked_to, Inside, inside, place_in, inside_yes, inside_is, in_size, in_place, no_place, below, one_place, place_of}
use Rattle.layout.specs.declared.Shape.{Shape}
use Rattle.layout.specs.declared.Extent.{Extent}
use Rattle.layout.specs.RegionNames.{region_root, region_head, region_entry, region_owner, region_group16, region_cell, region_object, region_index, region_row}
use Rattle.layout.specs.Fields.{head_cursor, head_pages, head_first_free, entry_next, slot_tag, slot_generation, slot_rights, index_place, index_rank, row_length, item_operation, item_moved, item_rights}
use Rattle.layout.specs.Sizes.{page_size, batch_max, root_size, head_size, entry_size, slot_size, object_size, index_size, block_size, frame_size, row_blocks, row_size}

-- ---- the low ends

abbrev pub entries_at : Shape → ℕ
entries_at sh = root_size + head_size * sh.tables

abbrev pub owners_at : Shape → ℕ
owners_at sh = entries_at sh + entry_size * sh.pages

abbrev pub sixteens_at : Shape → ℕ
sixteens_at sh = owners_at sh + sh.frames

abbrev pub hundreds_at : Shape → ℕ
hundreds_at sh = sixteens_at sh + (sh.frames + 15) / 16

abbrev pub thousands_at : Shape → ℕ
thousands_at sh = hundreds_at sh + (sh.frames + 255) / 256

abbrev pub frames_at : Shape → ℕ
frames_at sh = thousands_at sh + (sh.frames + 4095) / 4096

abbrev pub objects_at : Shape → ℕ
objects_at sh = frames_at sh + frame_size * sh.frames

abbrev pub index_at : Shape → ℕ
index_at sh = objects_at sh + object_size * sh.objects

abbrev pub rows_at : Shape → ℕ
rows_at sh = index_at sh + index_size * sh.rows

-- how many words a state has
abbrev pub total : Shape → ℕ
total sh = rows_at sh + row_size * sh.rows

-- THE LAYOUT: low end, how many of how many, words of each
abbrev pub layout : Shape → List Extent
layout sh =
    -- region_root: header
    ext 0 1 1 root_size
    -- region_head: table heads
    ∷ ext root_size sh.tables 1 head_size
    -- region_entry: page entries
    ∷ ext (entries_at sh) sh.pages 1 entry_size
    -- region_owner: frame owners
    ∷ ext (owners_at sh) sh.frames 1 1
    -- region_group16, region_group256, region_group4096: free frames in each 16, 256 and 4,096
    ∷ ext (sixteens_at sh) ((sh.frames + 15) / 16) 1 1
    ∷ ext (hundreds_at sh) ((sh.frames + 255) / 256) 1 1
    ∷ ext (thousands_at sh) ((sh.frames + 4095) / 4096) 1 1
    -- region_cell: frames: slots
    ∷ ext (frames_at sh) sh.frames page_size slot_size
    -- region_object: objects
    ∷ ext (objects_at sh) sh.objects 1 object_size
    -- region_index: row index: places by rank, and ranks by place
    ∷ ext (index_at sh) sh.rows 1 index_size
    -- region_row: rows: the row, then its items
    ∷ ext (rows_at sh) sh.rows row_blocks block_size
    ∷ []

-- no gap, no overlap, and the end is the total
pub layout_stacked : (sh : Shape) → Stacked 0 (layout sh) (total sh)
layout_stacked sh = omega arith

-- the largest permitted state
pub total_largest : total (record { tables = 16; pages = 4194304; frames = 65535; objects = 4096; rows = 256 }) ≡ 46340255
total_largest = refl

-- ---- addresses

-- field f of number (x, y) of region k
pub data Addr : Type 0 where
  reg : ℕ → ℕ → ℕ → ℕ → Addr

abbrev pub root : ℕ → Addr
root f = reg region_root 0 0 f

abbrev pub head : ℕ → ℕ → Addr
head t f = reg region_head t 0 f

abbrev pub entry : ℕ → ℕ → Addr
entry e f = reg region_entry e 0 f

abbrev pub owner : ℕ → Addr
owner fr = reg region_owner fr 0 0

-- the free frames in group g: level 0 groups are of 16, level 1 of 256, level 2 of 4,096
abbrev pub group : ℕ → ℕ → Addr
group n g = reg (region_group16 + n) g 0 0

-- a field of slot j of a frame, which counts from 0
abbrev pub cell : ℕ → ℕ → ℕ → Addr
cell fr j f = reg region_cell fr j f

abbrev pub object : ℕ → ℕ → Addr
object o f = reg region_object o 0 f

-- the place of the row of rank i, and the rank of the row in place r
abbrev pub index : ℕ → Addr
index i = reg region_index i 0 index_place

abbrev pub rank : ℕ → Addr
rank r = reg region_index r 0 index_rank

abbrev pub row : ℕ → ℕ → Addr
row r f = reg region_row r 0 f

-- item j of a row stands in block j + 1
abbrev pub item : ℕ → ℕ → ℕ → Addr
item r j f = reg region_row r (suc j) f

-- of one number's blocks: the first is told from the items at once
abbrev blocks : ℕ → ℕ → Bool → Bool → Bool
blocks zero zero f x = f && x
blocks zero (suc j) f x = false
blocks (suc i) zero f x = false
blocks (suc i) (suc j) f x = f && (eqb i j && x)

-- region and field first, so that the test computes where they are numerals
abbrev pub same : Addr → Addr → Bool
same (reg k x y f) (reg k' x' y' f') = eqb k' k && pick (eqb k region_row) (blocks y' y (eqb f' f) (eqb x' x)) (eqb f' f && (eqb y' y && eqb x' x))

blocks_is : (i j : ℕ) (f x : Bool) → blocks i j f x ≡ (f && (eqb i j && x))
blocks_is zero zero f x = refl
blocks_is zero (suc j) f x = rw (eqb-zero-suc j, and-false f)
blocks_is (suc i) zero f x = rw (eqb-suc-zero i, and-false f)
blocks_is (suc i) (suc j) f x = rw (eqb-suc-suc i j)

pick_same : {A : Type 0} (b : Bool) (x y : A) → x ≡ y → pick b x y ≡ y
pick_same true x y e = e
pick_same false x y e = refl

-- that is: all four numbers are equal
pub same_all : (k x y f k' x' y' f' : ℕ) → same (reg k x y f) (reg k' x' y' f') ≡ (eqb k' k && (eqb f' f && (eqb y' y && eqb x' x)))
same_all k x y f k' x' y' f' =
    ap (λ (b : Bool). eqb k' k && b)
    (pick_same (eqb k region_row) (blocks y' y (eqb f' f) (eqb x' x)) (eqb f' f && (eqb y' y && eqb x' x)) (blocks_is y' y (eqb f' f) (eqb x' x)))

pub same_is : (a b : Addr) → same a b ≡ true → b ≡ a
same_is (reg k x y f) (reg k' x' y' f') e =
    let b = both (eqb k' k) (eqb f' f && (eqb y' y && eqb x' x)) (sym (same_all k x y f k' x' y' f') ∙ e) in
    let d = both (eqb f' f) (eqb y' y && eqb x' x) b.1 in let g = both (eqb y' y) (eqb x' x) d.1 in
    rw (eqb-true k' k b.0, eqb-true f' f d.0, eqb-true y' y g.0, eqb-true x' x g.1)

-- addresses of other regions, fields or blocks are told apart by computing
tells : (t e fr j f f' o i r r' : ℕ) → (same (head t head_pages) (entry e entry_next) ≡ false) × (same (head t head_pages) (head t head_first_free) ≡ false) × (same (owner fr) (group 0 i) ≡ false)
    × (same (group 0 i) (group 1 i) ≡ false) × (same (cell fr j slot_tag) (cell fr j slot_generation) ≡ false) × (same (cell fr j f) (object o f) ≡ false)
    × (same (index i) (row r f) ≡ false) × (same (row r f) (item r' j f') ≡ false) × (same (item r j f) (row r' f') ≡ false) × (same (item r j item_operation) (item r j item_moved) ≡ false)
tells t e fr j f f' o i r r' = (refl, refl, refl, refl, refl, refl, refl, refl, refl, refl)

-- and the rest is left to the numbers
leaves : (j f r j' r' : ℕ) → (same (cell r j slot_rights) (cell r' j' slot_rights) ≡ (eqb j' j && eqb r' r)) × (same (item r j item_rights) (item r' j' item_rights) ≡ (eqb j' j && eqb r' r)) × (same (row r row_length) (row r' row_length) ≡ eqb r' r)
    × (same (head r head_cursor) (head r' head_cursor) ≡ eqb r' r)
leaves j f r j' r' = (refl, refl, refl, refl)

-- an address is in range
abbrev pub In : Shape → Addr → Type 0
In sh (reg k x y f) = Inside (region (layout sh) k) x y f

abbrev pub is_in : Shape → Addr → Bool
is_in sh (reg k x y f) = inside (region (layout sh) k) x y f

pub in_is : (sh : Shape) (a : Addr) → is_in sh a ≡ true → In sh a
in_is sh (reg k x y f) e = inside_is (region (layout sh) k) x y f e

pub in_yes : (sh : Shape) (a : Addr) → In sh a → is_in sh a ≡ true
in_yes sh (reg k x y f) i = inside_yes (region (layout sh) k) x y f i

pub in_no : (sh : Shape) (a : Addr) → (In sh a → ⊥) → is_in sh a ≡ false
in_no sh a h = bool (is_in sh a) (λ e. absurd (h (in_is sh a e))) (λ e. e)

module _ (sh : Shape) where
  pub in_root : (f : ℕ) → f < root_size → In sh (root f)
  in_root f a = record { xs = omega arith; ys = omega arith; fs = a }

  pub in_head : (t f : ℕ) → t < sh.tables → f < head_size → In sh (head t f)
  in_head t f a b = record { xs = a; ys = omega arith; fs = b }

  pub in_entry : (e f : ℕ) → e < sh.pages → f < entry_size → In sh (entry e f)
  in_entry e f a b = record { xs = a; ys = omega arith; fs = b }

  pub in_owner : (fr : ℕ) → fr < sh.frames → In sh (owner fr)
  in_owner fr a = record { xs = a; ys = omega arith; fs = omega arith }

  -- the group of a frame
  pub in_sixteen : (fr : ℕ) → fr < sh.frames → In sh (group 0 (fr / 16))
  in_sixteen fr a = record { xs = omega arith; ys = omega arith; fs = omega arith }

  pub in_hundred : (fr : ℕ) → fr < sh.frames → In sh (group 1 (fr / 256))
  in_hundred fr a = record { xs = omega arith; ys = omega arith; fs = omega arith }

  pub in_thousand : (fr : ℕ) → fr < sh.frames → In sh (group 2 (fr / 4096))
  in_thousand fr a = record { xs = omega arith; ys = omega arith; fs = omega arith }

  pub in_cell_law : (fr j f : ℕ) → fr < sh.frames → j < page_size → f < slot_size → In sh (cell fr j f)
  in_cell_law fr j f a b c = record { xs = a; ys = b; fs = c }

  pub in_object : (o f : ℕ) → o < sh.objects → f < object_size → In sh (object o f)
  in_object o f a b = record { xs = a; ys = omega arith; fs = b }

  pub in_index : (i : ℕ) → i < sh.rows → In sh (index i)
  in_index i a = record { xs = a; ys = omega arith; fs = omega arith }

  pub in_rank : (r : ℕ) → r < sh.rows → In sh (rank r)
  in_rank r a = record { xs = a; ys = omega arith; fs = omega arith }

  pub in_row : (r f : ℕ) → r < sh.rows → f < block_size → In sh (row r f)
  in_row r f a b = record { xs = a; ys = omega arith; fs = b }

  pub in_item : (r j f : ℕ) → r < sh.rows → j < batch_max → f < block_size → In sh (item r j f)
  in_item r j f a b c = record { xs = a; ys = omega arith; fs = c }

-- ---- loads and stores

-- a memory is any function of the addresses
abbrev pub Mem : Type 0
Mem = Addr → ℕ

-- where an address stands in n words; n, which is no place, for what is out of range
abbrev pub place : ℕ → Shape → Addr → ℕ
place n sh (reg k x y f) = place_in n (region (layout sh) k) x y f

unfoldable pub load : List ℕ → Shape → Addr → ℕ
load ws sh a = get_or ws (place (length ws) sh a) 0

unfoldable pub save : List ℕ → Shape → Addr → ℕ → List ℕ
save ws sh a v = set ws (place (length ws) sh a) v

pub place_low : (n : ℕ) (sh : Shape) (a : Addr) → In sh a → place n sh a < total sh
place_low n sh (reg k x y f) i = below n 0 (total sh) (layout sh) (layout_stacked sh) k x y f i

pub place_out : (n : ℕ) (sh : Shape) (a : Addr) → is_in sh a ≡ false → place n sh a ≡ n
place_out n sh (reg k x y f) e = no_place (region (layout sh) k) x y f n e

-- what is not the same has another place
pub place_apart : (n : ℕ) (sh : Shape) → total sh ≤ n → (a b : Addr) → In sh a → same a b ≡ false → place n sh b ≡ place n sh a → ⊥
place_apart n sh h (reg k x y f) (reg k' x' y' f') i s e =
    bool (inside (region (layout sh) k') x' y' f')
    (λ q. let o = one_place n 0 (total sh) (layout sh) (layout_stacked sh) k' x' y' f' k x y f (inside_is (region (layout sh) k') x' y' f' q) i e in
    clash (same_all k x y f k' x' y' f' ∙ rw (eq-eqb k' k o.0, eq-eqb f' f o.3, eq-eqb y' y o.2, eq-eqb x' x o.1)) s)
    (λ q. omega (arith, no_place (region (layout sh) k') x' y' f' n q, place_low n sh (reg k x y f) i))

pub length_save : (ws : List ℕ) (sh : Shape) (a : Addr) (v : ℕ) → length (save ws sh a v) ≡ length ws
unfolding save
length_save ws sh a v = length-set ws _ v

module _ (ws : List ℕ) (sh : Shape) where
  -- THE LAW of loads after stores
  pub load_save : total sh ≤ length ws → (a : Addr) (v : ℕ) → In sh a → (b : Addr) → load (save ws sh a v) sh b ≡ pick (same a b) v (load ws sh b)
  unfolding load save
  load_save h a v i b = rw length-set (bool (same a b)
      (λ e. rw (e, same_is a b e) (get_or-set_same ws (place (length ws) sh a) v 0 (omega (arith, place_low (length ws) sh a i))))
      (λ e. rw e (get_or-set_other ws (place (length ws) sh a) (place (length ws) sh b) v 0 (place_apart (length ws) sh h a b i e))))

  -- out of range loads give 0 and stores change nothing
  pub load_out : (a : Addr) → is_in sh a ≡ false → load ws sh a ≡ 0
  unfolding load
  load_out a e = get_past ws (place (length ws) sh a) (omega (arith, place_out (length ws) sh a e))

  pub save_out : (a : Addr) (v : ℕ) → is_in sh a ≡ false → save ws sh a v ≡ ws
  unfolding save
  save_out a v e = set_out ws (place (length ws) sh a) v (omega (arith, place_out (length ws) sh a e))

  -- so of any store
  pub load_save_any : total sh ≤ length ws → (a : Addr) (v : ℕ) (b : Addr) → load (save ws sh a v) sh b ≡ pick (is_in sh a && same a b) v (load ws sh b)
  load_save_any h a v b = bool (is_in sh a)
      (λ e. rw e (load_save h a v (in_is sh a e) b))
      (λ e. rw (e, save_out a v e))

  -- a store of what stands there changes nothing
  pub save_load : (a : Addr) → save ws sh a (load ws sh a) ≡ ws
  unfolding load save
  save_load a = set-get_or ws (place (length ws) sh a) 0

  -- the word at any other place keeps its value
  pub save_keep : (a : Addr) (v i : ℕ) → (place (length ws) sh a ≡ i → ⊥) → get_or (save ws sh a v) i 0 ≡ get_or ws i 0
  unfolding save
  save_keep a v i h = get_or-set_other ws (place (length ws) sh a) i v 0 (λ e. h (sym e))

  -- the words past the state keep their values
  pub save_past : (a : Addr) (v i : ℕ) → total sh ≤ i → get_or (save ws sh a v) i 0 ≡ get_or ws i 0
  save_past a v i h = bool (is_in sh a)
      (λ e. save_keep a v i (λ q. omega (arith, place_low (length ws) sh a (in_is sh a e))))
      (λ e. rw (save_out a v e))

-- the words of a header stand at their numbers
pub load_root : (ws : List ℕ) (sh : Shape) (f : ℕ) → f < root_size → load ws sh (root f) ≡ get_or ws f 0
unfolding load
load_root ws sh f h = ap (λ (i : ℕ). get_or ws i 0) (in_place (region (layout sh) region_root) 0 0 f (length ws) (in_root sh f h) ∙ omega arith)

-- what the addresses show, and the words past the state, determine the words
pub loads_same : (ws vs : List ℕ) (sh : Shape) → length ws ≡ length vs → load ws sh ≡ load vs sh → ((i : ℕ) → total sh ≤ i → get_or ws i 0 ≡ get_or vs i 0) → ws ≡ vs
unfolding load
loads_same ws vs sh l m p = words_same ws vs l (λ i. bool (ltb i (total sh))
    (λ h. let g = place_of (length ws) 0 (total sh) (layout sh) (layout_stacked sh) i (omega arith) (ltb-true i (total sh) h) in
    let q : get_or ws (place (length ws) sh (reg g.0 g.1 g.2 g.3)) 0 ≡ get_or vs (place (length vs) sh (reg g.0 g.1 g.2 g.3)) 0
    = ap (λ (k : Mem). k (reg g.0 g.1 g.2 g.3)) m in
    rw (← l, g.5) at q)
    (λ h. p i (ltb-false i (total sh) h)))

-- ---- plans

pub data Write : Type 0 where
  at : Addr → ℕ → Write

abbrev pub write : List ℕ → Shape → Write → List ℕ
write ws sh (at a v) = save ws sh a v

abbrev pub writes : List ℕ → Shape → List Write → List ℕ
writes ws sh [] = ws
writes ws sh (x ∷ xs) = writes (write ws sh x) sh xs

abbrev pub upd : Mem → Write → Mem
upd m (at a v) b = pick (same a b) v (m b)

abbrev pub upds : Mem → List Write → Mem
upds m [] = m
upds m (x ∷ xs) = upds (upd m x) xs

-- all stores of a plan are in range
abbrev pub InW : Shape → Write → Type 0
InW sh (at a v) = In sh a

abbrev pub InAll : Shape → List Write → Type 0
InAll sh [] = Unit {0}
InAll sh (x ∷ xs) = InW sh x × InAll sh xs

pub length_writes : (ws : List ℕ) (sh : Shape) (xs : List Write) → length (writes ws sh xs) ≡ length ws
length_writes ws sh [] = refl
length_writes ws sh (at a v ∷ xs) = length_writes (save ws sh a v) sh xs ∙ length_save ws sh a v

-- THE LAW of plans: what the words show after the stores is what the memory shows
pub load_writes : (ws : List ℕ) (sh : Shape) → total sh ≤ length ws → (xs : List Write) → InAll sh xs → load (writes ws sh xs) sh ≡ upds (load ws sh) xs
load_writes ws sh h [] c = refl
load_writes ws sh h (at a v ∷ xs) c =
    load_writes (save ws sh a v) sh (omega (arith, length_save ws sh a v)) xs c.1
    ∙ ap (λ (m : Mem). upds m xs) (fun_ext (load_save ws sh h a v c.0))

-- words past the state keep their values
pub writes_past : (ws : List ℕ) (sh : Shape) (xs : List Write) (i : ℕ) → total sh ≤ i → get_or (writes ws sh xs) i 0 ≡ get_or ws i 0
writes_past ws sh [] i h = refl
writes_past ws sh (at a v ∷ xs) i h = writes_past (save ws sh a v) sh xs i h ∙ save_past ws sh a v i h

-- ---- what the code's sums say

total_small : (sh : Shape) → sh.tables < 256 → sh.pages < 4294967296 → sh.frames < 65536 → sh.objects < 65536 → sh.rows < 65536 → total sh < 281474976710656
total_small sh a b c d e = omega arith

-- no place overflows
pub region_small : (sh : Shape) (k : ℕ) (r : Extent) → sh.tables < 256 → sh.pages < 4294967296 → sh.frames < 65536 → sh.objects < 65536 → sh.rows < 65536
    → r ≡ region (layout sh) k → r.low + size r < 2 ^ 64
region_small sh k r a b c d e q = rw q (omega (arith, total_small sh a b c d e, stacked_to 0 (total sh) (layout sh) (layout_stacked sh) k))

-- no part of a place overflows
pub place_small : (sh : Shape) (k x y f : ℕ) (e : Extent) → sh.tables < 256 → sh.pages < 4294967296 → sh.frames < 65536 → sh.objects < 65536 → sh.rows < 65536
    → e ≡ region (layout sh) k → x < e.x → y < e.y → f < e.w → (x * e.y + y ≤ (x * e.y + y) * e.w) × (e.low + ((x * e.y + y) * e.w + f) < 2 ^ 64)
place_small sh k x y f e a b c d r q i j l =
    let m : e.low + size e ≤ total sh = rw q (stacked_to 0 (total sh) (layout sh) (layout_stacked sh) k) in
    let w : (x * e.y + y) * 1 ≤ (x * e.y + y) * e.w = mul-le-mul_left {m = 1} {n = e.w} (x * e.y + y) (omega arith) in
    (omega arith, omega (arith, total_small sh a b c d r, in_size e x y f (record { xs = i; ys = j; fs = l })))

-- an item past the row's last stands nowhere
pub item_out : (sh : Shape) (r j f : ℕ) → batch_max ≤ j → is_in sh (item r j f) ≡ false
item_out sh r j f h = in_no sh (item r j f) (λ i. omega (arith, i.ys))

pub item_load : (ws : List ℕ) (sh : Shape) (r j f : ℕ) → batch_max ≤ j → 0 ≡ load ws sh (item r j f)
item_load ws sh r j f h = sym (load_out ws sh (item r j f) (item_out sh r j f h))

pub item_save : (ws : List ℕ) (sh : Shape) (r j f v : ℕ) → batch_max ≤ j → ws ≡ save ws sh (item r j f) v
item_save ws sh r j f v h = sym (save_out ws sh (item r j f) v (item_out sh r j f h))
