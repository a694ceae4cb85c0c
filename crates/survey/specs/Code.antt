-- What the functions' bodies and loops go by. Assumes nothing.
use Rattle.std.specs.Prelude.{◌≡◌, refl, Bool, not, ◌&&◌, List, ℕ, ◌+◌, ◌-◌, ◌*◌, ◌≤◌, ◌<◌, eqb, ltb, leb, length, get_or}
use Rattle.std.proofs.Common.{sym, ap, subst, ◌∙◌, arith}
use Rattle.std.proofs.Math.Bool.{true, false}
use borrow.Author.Tests.{eq-eqb, ne_eqb, lt-ltb, le-ltb, ltb-true}
use Rattle.words.specs.Pick.{pick, clash, both}
use Rattle.words.specs.All.{all, all_none, all_more, all_stop}
use Rattle.model.specs.Base.{bit}
use Rattle.layout.specs.declared.Shape.{Shape}
use Rattle.layout.specs.declared.CellWords.{CellWords}
use Rattle.layout.specs.declared.Extent.{Extent}
use Rattle.layout.specs.Regions.{region, place_in, in_place}
use Rattle.layout.specs.Layout.{Mem, layout, total, cell, load, in_cell_law}
use Rattle.layout.specs.Cells.{cell_at, cell_read}
use Rattle.layout.specs.Fields.{slot_tag, slot_generation, slot_object, slot_rights, slot_flags, slot_unused}
use Rattle.layout.specs.Values.{tag_vacant, tag_occupied}
use Rattle.layout.specs.Sizes.{page_size, slot_size}
use Rattle.layout.specs.RegionNames.{region_cell}
use Rattle.structure.specs.Facts.{busy_cells}
use Rattle.structure.specs.Checks.{handle_c, slot_c}
use Rattle.structure.specs.Code.{sum_more}
use Rattle.counts.specs.Found.{gather, in_cell, OffObjects, cell_same as in_cell_same}
use Rattle.counts.specs.Shift.{unit, shift_w, shifted, shifted_off}
use Rattle.counts.specs.Code.{turn_more}
use Rattle.survey.specs.declared.page.Page.{Page}
use Rattle.survey.specs.Walk.{marked_b, cell_b, slot_at, frame_b, held_in, passed_all, passed_stop, frame_found, cell_same, test_same, page_b, page_same, page_found, page_found_same, table_b, table_same, table_found, table_found_same}

-- ---- a slot

-- where a slot of a frame stands
pub cell_place : (n : ℕ) (sh : Shape) (f j : ℕ) (e : Extent) (at : ℕ) → e ≡ region (layout sh) region_cell → f < sh.frames → j < page_size → at ≡ e.low + (f * page_size + j) * slot_size → at ≡ place_in n e f j 0
cell_place n sh f j e at q h k z = let p = in_place (region (layout sh) region_cell) f j 0 n (in_cell_law sh f j slot_tag h k (omega arith)) in
    z ∙ rw q (omega (arith, p))

-- all its words are lent
pub cell_lent : (sh : Shape) (f j : ℕ) (e : Extent) → e ≡ region (layout sh) region_cell → f < sh.frames → j < page_size → e.low + (f * page_size + j) * slot_size + slot_size ≤ total sh
cell_lent sh f j e q h k = rw q (omega arith)

-- so they are read there
pub cell_is : (ws : List ℕ) (sh : Shape) (f j : ℕ) (e : Extent) → e ≡ region (layout sh) region_cell → f < sh.frames → j < page_size → total sh ≤ length ws
    → (let at : ℕ = e.low + (f * page_size + j) * slot_size in record { tag = get_or ws at 0; generation = get_or ws (at + slot_generation) 0; object = get_or ws (at + slot_object) 0; rights = get_or ws (at + slot_rights) 0; flags = get_or ws (at + slot_flags) 0; unused = get_or ws (at + slot_unused) 0 })
    ≡ cell_at (load ws sh) f j
cell_is ws sh f j e q h k l = cell_read ws sh f j e _ q (cell_place (length ws) sh f j e _ q h k refl) (omega (arith, cell_lent sh f j e q h k))

-- an occupied slot that passes holds a handle of an object below the bound
pub slot_holds : (m : Mem) (sh : Shape) (b k bound high : ℕ) (c : CellWords) (t : Bool) → t ≡ cell_b m sh b k bound high c → t ≡ true → c.tag ≡ tag_occupied → c.object < bound
unfolding cell_b slot_c handle_c
slot_holds m sh b k bound high c t e y h =
    let a = (both (slot_c bound high c) (marked_b m sh b k c) (sym e ∙ y)).0 in
    let g = (both (leb 1 c.generation) (leb c.generation high && pick (eqb c.tag tag_occupied) (handle_c bound c) true) (both (leb c.tag tag_occupied) _ a).1).1 in
    let d : handle_c bound c ≡ true = rw (eq-eqb c.tag tag_occupied h) at (both (leb c.generation high) (pick (eqb c.tag tag_occupied) (handle_c bound c) true) g).1 in
    ltb-true c.object bound (both (ltb c.object bound) (leb c.flags 3) d).0

-- an occupied slot has no mark to be tested
held_passes : (m : Mem) (sh : Shape) (b k bound high : ℕ) (c : CellWords) → slot_c bound high c ≡ true → c.tag ≡ tag_occupied → cell_b m sh b k bound high c ≡ true
unfolding cell_b
held_passes m sh b k bound high c z h = rw (z, lt-ltb 0 c.tag (omega arith), le-ltb c.tag tag_occupied (omega arith))

-- ---- the walk over a page's slots

-- slot j of a page
abbrev pub slot_in : Mem → Page → ℕ → Bool
slot_in m q j = slot_at m q.sh q.table q.number q.bound q.high q.frame j

-- a slot that is not both occupied and right
abbrev pub Other : Page → CellWords → Type 0
Other q c = c.tag ≡ tag_occupied → slot_c q.bound q.high c ≡ false

-- what it has done up to slot j: the handles counted, the slots tested, the vacant ones counted
pub record Walked (ws vs : List ℕ) (q : Page) (j v : ℕ) : Type 0 where
  pub noted : vs ≡ shifted ws q.sh unit (gather j (in_cell (load ws q.sh) q.frame))
  pub tested : all j (slot_in (load ws q.sh) q) ≡ true
  pub vacant : v + busy_cells (load ws q.sh) q.frame j ≡ j

-- from vs to us it goes on from slot j to slot k, none of which is vacant
unfoldable pub Onward : List ℕ → List ℕ → Page → ℕ → ℕ → Type 0
Onward vs us q j k = (ws : List ℕ) (v : ℕ) → Walked ws vs q j v → Walked ws us q k v

pub walked_none : (ws : List ℕ) (q : Page) → Walked ws ws q 0 0
walked_none ws q = record { noted = refl; tested = all_none _; vacant = refl }

bit_not : (b : Bool) → bit b + bit (not b) ≡ 1
bit_not true = refl
bit_not false = refl

-- the next slot, by the words that it has left
module _ (ws vs : List ℕ) (q : Page) (j v : ℕ) (w : Walked ws vs q j v) (c : CellWords) (ec : c ≡ cell_at (load vs q.sh) q.frame j) where
  off : OffObjects (load ws q.sh) (load vs q.sh)
  off = rw w.noted (shifted_off ws q.sh unit (gather j (in_cell (load ws q.sh) q.frame)))

  cell_left : c ≡ cell_at (load ws q.sh) q.frame j
  cell_left = ec ∙ cell_same (load ws q.sh) (load vs q.sh) off q.frame j

  test_left : cell_b (load vs q.sh) q.sh q.table (q.number * page_size + j) q.bound q.high c ≡ slot_in (load ws q.sh) q j
  test_left = test_same (load ws q.sh) (load vs q.sh) off q.sh q.table (q.number * page_size + j) q.bound q.high c ∙ ap (λ (d : CellWords). cell_b (load ws q.sh) q.sh q.table (q.number * page_size + j) q.bound q.high d) cell_left

  busy_more : bit (not (eqb c.tag tag_vacant)) + busy_cells (load ws q.sh) q.frame j ≡ busy_cells (load ws q.sh) q.frame (j + 1)
  busy_more = sum_more (λ i. bit (not (eqb (load ws q.sh (cell q.frame i slot_tag)) tag_vacant))) j (busy_cells (load ws q.sh) q.frame j) _ _ refl
      (ap (λ (d : CellWords). bit (not (eqb d.tag tag_vacant))) cell_left) (omega arith)

  pub walked_more : (us : List ℕ) (x : ℕ) → cell_b (load vs q.sh) q.sh q.table (q.number * page_size + j) q.bound q.high c ≡ true → us ≡ shifted vs q.sh unit (held_in c) → x ≡ bit (eqb c.tag tag_vacant) → Walked ws us q (j + 1) (v + x)
  walked_more us x y e ex = record {
    noted = turn_more q.sh unit (λ (m : Mem) (k : ℕ). in_cell m q.frame k) (λ m n h k. in_cell_same m n h q.frame k) ws vs us j w.noted (e ∙ ap (λ (d : CellWords). shifted vs q.sh unit (held_in d)) ec);
    tested = all_more j (slot_in (load ws q.sh) q) w.tested (sym test_left ∙ y);
    vacant = omega (arith, w.vacant, busy_more, bit_not (eqb c.tag tag_vacant));
  }

  -- where such a slot passes, it holds no handle
  pub walked_other : (x : ℕ) → Other q (cell_at (load vs q.sh) q.frame j) → cell_b (load vs q.sh) q.sh q.table (q.number * page_size + j) q.bound q.high c ≡ true → x ≡ bit (eqb c.tag tag_vacant) → Walked ws vs q (j + 1) (v + x)
  unfolding cell_b
  walked_other x h y = walked_more vs x y (rw (ne_eqb c.tag tag_occupied (λ t. clash (both (slot_c q.bound q.high c) _ y).0 (subst (Other q) (sym ec) h t))))

  -- a slot that fails ends the walk
  pub walked_stop : (n busy : ℕ) → j < n → cell_b (load vs q.sh) q.sh q.table (q.number * page_size + j) q.bound q.high c ≡ false
      → (vs ≡ shifted ws q.sh unit (frame_found (load ws q.sh) q.sh q.table q.number q.bound q.high q.frame n)) × (false ≡ frame_b (load ws q.sh) q.sh q.table q.number q.bound q.high q.frame n busy)
  unfolding frame_found frame_b
  walked_stop n busy h y = let d : slot_in (load ws q.sh) q j ≡ false = sym test_left ∙ y in (
    w.noted ∙ rw (passed_stop n (slot_in (load ws q.sh) q) j h w.tested d),
    rw (all_stop n (slot_in (load ws q.sh) q) j h d),
  )

-- all slots passed
pub walked_end : (ws vs : List ℕ) (q : Page) (n v busy : ℕ) → Walked ws vs q n v
    → (vs ≡ shifted ws q.sh unit (frame_found (load ws q.sh) q.sh q.table q.number q.bound q.high q.frame n)) × (eqb (n - v) busy ≡ frame_b (load ws q.sh) q.sh q.table q.number q.bound q.high q.frame n busy)
unfolding frame_found frame_b
walked_end ws vs q n v busy w = let e : n - v ≡ busy_cells (load ws q.sh) q.frame n = omega (arith, w.vacant) in (
  w.noted ∙ rw (passed_all n (slot_in (load ws q.sh) q) w.tested),
  rw (w.tested, e),
)

pub onward_none : (vs : List ℕ) (q : Page) (j : ℕ) → Onward vs vs q j j
unfolding Onward
onward_none vs q j ws v w = w

pub onward_more : (vs us zs : List ℕ) (q : Page) (j k : ℕ) (c : CellWords) → Onward vs us q j k → c ≡ cell_at (load us q.sh) q.frame k → slot_c q.bound q.high c ≡ true → c.tag ≡ tag_occupied
    → zs ≡ shift_w us q.sh unit c.object → Onward vs zs q j (k + 1)
unfolding Onward
onward_more vs us zs q j k c g ec z h e ws v w =
    let o : zs ≡ shifted us q.sh unit (held_in c) = e ∙ rw (eq-eqb c.tag tag_occupied h) in
    let x : 0 ≡ bit (eqb c.tag tag_vacant) = rw h in
    let y : v + 0 ≡ v = omega arith in
    rw y at (walked_more ws us q k v (g ws v w) c ec zs 0 (held_passes (load us q.sh) q.sh q.table (q.number * page_size + k) q.bound q.high c z h) o x)

pub onward_by : (ws vs us : List ℕ) (q : Page) (j k v : ℕ) → Onward vs us q j k → Walked ws vs q j v → Walked ws us q k v
unfolding Onward
onward_by ws vs us q j k v g w = g ws v w

-- the same, shut: the tactics take it as one fact
unfoldable pub Passed : List ℕ → List ℕ → Page → ℕ → ℕ → Type 0
Passed ws vs q j v = Walked ws vs q j v

pub passed_none : (ws : List ℕ) (q : Page) → Passed ws ws q 0 0
unfolding Passed
passed_none ws q = walked_none ws q

-- the walk goes on from slot j to slot k, and there
module _ (ws vs us : List ℕ) (q : Page) (j k v : ℕ) (g : Onward vs us q j k) (w : Passed ws vs q j v) where
  on : Walked ws us q k v
  unfolding Passed
  on = onward_by ws vs us q j k v g w

  -- all slots are passed
  pub end_noted : us ≡ shifted ws q.sh unit (frame_found (load ws q.sh) q.sh q.table q.number q.bound q.high q.frame k)
  end_noted = (walked_end ws us q k v 0 on).0

  pub end_answer : (busy : ℕ) → eqb (k - v) busy ≡ frame_b (load ws q.sh) q.sh q.table q.number q.bound q.high q.frame k busy
  end_answer busy = (walked_end ws us q k v busy on).1

  module _ (c : CellWords) (t : Bool) (n : ℕ) (ec : c ≡ cell_at (load us q.sh) q.frame k) (et : t ≡ cell_b (load us q.sh) q.sh q.table (q.number * page_size + k) q.bound q.high c) where
    -- it ends
    pub stop_noted : k < n → t ≡ false → us ≡ shifted ws q.sh unit (frame_found (load ws q.sh) q.sh q.table q.number q.bound q.high q.frame n)
    stop_noted h y = (walked_stop ws us q k v on c ec n 0 h (sym et ∙ y)).0

    pub stop_answer : (busy : ℕ) → k < n → t ≡ false → false ≡ frame_b (load ws q.sh) q.sh q.table q.number q.bound q.high q.frame n busy
    stop_answer busy h y = (walked_stop ws us q k v on c ec n busy h (sym et ∙ y)).1

    -- or the slot is passed
    pub other_more : (x : ℕ) → k < n → (k < n → Other q (cell_at (load us q.sh) q.frame k)) → t ≡ true → x ≡ bit (eqb c.tag tag_vacant) → Passed ws us q (k + 1) (v + x)
    unfolding Passed
    other_more x h o y ex = walked_other ws us q k v on c ec x (o h) (sym et ∙ y) ex

-- ---- tables and pages

-- one thing more, of which neither what is counted nor the test depends on the objects
module _ (ws vs us : List ℕ) (sh : Shape) (b bound e p : ℕ) (q : vs ≡ shifted ws sh unit (gather p (page_found (load ws sh) sh b bound e))) where
  page_off : OffObjects (load ws sh) (load vs sh)
  page_off = rw q (shifted_off ws sh unit (gather p (page_found (load ws sh) sh b bound e)))

  pub page_noted : us ≡ shifted vs sh unit (page_found (load vs sh) sh b bound e p) → us ≡ shifted ws sh unit (gather (p + 1) (page_found (load ws sh) sh b bound e))
  page_noted d = turn_more sh unit (λ (m : Mem) (k : ℕ). page_found m sh b bound e k) (λ m n h k. page_found_same m n h sh b bound e k) ws vs us p q d

  pub page_right : (t : Bool) → t ≡ page_b (load vs sh) sh b bound e p → t ≡ page_b (load ws sh) sh b bound e p
  page_right t d = d ∙ page_same (load ws sh) (load vs sh) page_off sh b bound e p

module _ (ws vs us : List ℕ) (sh : Shape) (used b : ℕ) (q : vs ≡ shifted ws sh unit (gather b (table_found (load ws sh) sh used))) where
  table_off : OffObjects (load ws sh) (load vs sh)
  table_off = rw q (shifted_off ws sh unit (gather b (table_found (load ws sh) sh used)))

  pub table_noted : us ≡ shifted vs sh unit (table_found (load vs sh) sh used b) → us ≡ shifted ws sh unit (gather (b + 1) (table_found (load ws sh) sh used))
  table_noted d = turn_more sh unit (λ (m : Mem) (k : ℕ). table_found m sh used k) (λ m n h k. table_found_same m n h sh k used) ws vs us b q d

  pub table_right : (t : Bool) → t ≡ table_b (load vs sh) sh used b → t ≡ table_b (load ws sh) sh used b
  table_right t d = d ∙ table_same (load ws sh) (load vs sh) table_off sh b used
