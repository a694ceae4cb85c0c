-- The representation is a function: a memory represents at most one well-formed state. Assumes nothing.
use Rattle.std.specs.Prelude.{Some}
use Rattle.std.specs.Prelude.{◌≡◌, refl, Bool, true, false, List, [], ◌∷◌, ℕ, suc, ◌≤◌, ◌<◌, length, ltb}
use Rattle.std.proofs.Common.{sym, ap, ◌∙◌, arith, ltb-true, ltb-false}
use Rattle.std.proofs.Math.Path.{fun_ext}
use Rattle.std.proofs.Math.Option.{Option, none, some}
use Rattle.words.specs.Pick.{bool}
use Rattle.model.specs.Base.{bit, occurs, sum}
use Rattle.model.specs.State.{till, Handle, Slot, Page, Lifecycle, Lifecycle.active, Lifecycle.tearing_down, Lifecycle.retired, Table, Class, Class.leaf, Class.rendezvous_only, Class.never, Stage, Stage.still_new, Stage.now_active, Stage.now_retired, Object, Entry, Entry.moved, Entry.copied, Body, Body.reservation, Body.claim, Body.parcel, Body.plan, StorageSnapshot, Row, State}
use Rattle.model.proofs.Counting.{bit_same, bit_other}
use Rattle.model.specs.WellFormed.{Rising, pages_with, plans_with, WellFormed}
use Rattle.layout.specs.declared.Shape.{Shape}
use Rattle.layout.specs.Layout.{Mem, head, item, index, load}
use Rattle.layout.specs.ShapeOf.{shape_is}
use Rattle.layout.specs.Fields.{head_lifecycle, head_cursor, head_first_free, head_first_empty, head_first_detached, item_slot, item_page}
use Rattle.representation.specs.Represents.{link_of, Chain, Linked, LifeIs, TableIs, class_word, stage_word, ObjectIs, HandleIs, EntryIs, Items, HeldIs, BodyIs, RowsAre, Represents, Rep}

-- the counts of a state
unfoldable pub shape_for : State → Shape
shape_for s = record {
  tables = s.table_count;
  pages = sum s.table_count λ b. (s.tables b).limit;
  frames = s.frame_count;
  objects = s.object_count;
  rows = s.book.capacity;
}

shape_parts : (sh : Shape) (t p f o r : ℕ) → sh.tables ≡ t → sh.pages ≡ p → sh.frames ≡ f → sh.objects ≡ o → sh.rows ≡ r
    → sh ≡ record { tables = t; pages = p; frames = f; objects = o; rows = r }
shape_parts sh t p f o r a b c d e = rw (← a, ← b, ← c, ← d, ← e)

pub shape_unique : (sh : Shape) (m : Mem) (s : State) → Represents sh m s → sh ≡ shape_for s
unfolding shape_for
shape_unique sh m s i =
    shape_parts sh s.table_count (sum s.table_count λ b. (s.tables b).limit) s.frame_count s.object_count s.book.capacity
    i.table_count i.page_count i.frame_count i.object_count i.capacity

-- ---- orders

pub chain_unique : (next prev : ℕ → ℕ) (h p q : ℕ) (l k : List ℕ) → Chain next prev h p l → Chain next prev h q k → l ≡ k
chain_unique next prev h p q [] [] c d = refl
chain_unique next prev h p q [] (y ∷ k) c d = absurd (omega arith)
chain_unique next prev h p q (x ∷ l) [] c d = absurd (omega arith)
chain_unique next prev h p q (x ∷ l) (y ∷ k) c d =
    let e : y ≡ x = omega arith in
    rw e (ap (λ (t : List ℕ). x ∷ t) (chain_unique next prev (next x) (suc x) (suc x) l k c.2 (rw e at d.2)))

pub linked_unique : (next : ℕ → ℕ) (h : ℕ) (l k : List ℕ) → Linked next h l → Linked next h k → l ≡ k
linked_unique next h [] [] c d = refl
linked_unique next h [] (y ∷ k) c d = absurd (omega arith)
linked_unique next h (x ∷ l) [] c d = absurd (omega arith)
linked_unique next h (x ∷ l) (y ∷ k) c d =
    let e : y ≡ x = omega arith in
    rw e (ap (λ (t : List ℕ). x ∷ t) (linked_unique next (next x) l k c.1 (rw e at d.1)))

-- ---- a rising list is known by what stands in it

rising_tail : (x : ℕ) (l : List ℕ) → Rising (x ∷ l) → Rising l
rising_tail x [] r = tt
rising_tail x (y ∷ l) r = r.1

-- none is below the lowest
pub rising_above : (z x : ℕ) (l : List ℕ) → Rising (x ∷ l) → z < x → occurs z (x ∷ l) ≡ 0
rising_above z x [] r h = omega (arith, bit_other z x (λ e. omega arith))
rising_above z x (y ∷ l) r h = omega (arith, bit_other z x (λ e. omega arith), rising_above z y l r.1 (omega (arith, r.0)))

pub rising_unique : (l k : List ℕ) → Rising l → Rising k → ((z : ℕ) → occurs z l ≡ occurs z k) → l ≡ k
rising_unique [] [] r q e = refl
rising_unique [] (y ∷ k) r q e = absurd (omega (arith, e y, bit_same y y refl))
rising_unique (x ∷ l) [] r q e = absurd (omega (arith, e x, bit_same x x refl))
rising_unique (x ∷ l) (y ∷ k) r q e =
    let same : y ≡ x = bool (ltb x y)
    (λ h. absurd (omega (arith, e x, bit_same x x refl, rising_above x y k q (ltb-true x y h))))
    (λ h. bool (ltb y x)
    (λ g. absurd (omega (arith, e y, bit_same y y refl, rising_above y x l r (ltb-true y x g))))
    (λ g. omega (arith, ltb-false x y h, ltb-false y x g))) in
    let f : (z : ℕ) → occurs z (x ∷ l) ≡ occurs z (x ∷ k) = rw same at e in
    rw same (ap (λ (t : List ℕ). x ∷ t) (rising_unique l k (rising_tail x l r) (rising_tail y k q) (λ z. omega (arith, f z))))

-- ---- parts

link_unique : (a b : Option ℕ) → link_of a ≡ link_of b → a ≡ b
link_unique none none e = refl
link_unique none (some n) e = absurd (omega arith)
link_unique (some n) none e = absurd (omega arith)
link_unique (some n) (some k) e = let q : n ≡ k = omega arith in ap some q

life_unique : (w c : ℕ) (a b : Lifecycle) → LifeIs w c a → LifeIs w c b → a ≡ b
life_unique w c active active p q = refl
life_unique w c active (tearing_down n) p q = absurd (omega arith)
life_unique w c active retired p q = absurd (omega arith)
life_unique w c (tearing_down n) active p q = absurd (omega arith)
life_unique w c (tearing_down n) (tearing_down k) p q = let e : n ≡ k = omega arith in ap tearing_down e
life_unique w c (tearing_down n) retired p q = absurd (omega arith)
life_unique w c retired active p q = absurd (omega arith)
life_unique w c retired (tearing_down n) p q = absurd (omega arith)
life_unique w c retired retired p q = refl

class_unique : (a b : Class) → class_word a ≡ class_word b → a ≡ b
class_unique leaf leaf e = refl
class_unique leaf rendezvous_only e = absurd (omega arith)
class_unique leaf never e = absurd (omega arith)
class_unique rendezvous_only leaf e = absurd (omega arith)
class_unique rendezvous_only rendezvous_only e = refl
class_unique rendezvous_only never e = absurd (omega arith)
class_unique never leaf e = absurd (omega arith)
class_unique never rendezvous_only e = absurd (omega arith)
class_unique never never e = refl

stage_unique : (a b : Stage) → stage_word a ≡ stage_word b → a ≡ b
stage_unique still_new still_new e = refl
stage_unique still_new now_active e = absurd (omega arith)
stage_unique still_new now_retired e = absurd (omega arith)
stage_unique now_active still_new e = absurd (omega arith)
stage_unique now_active now_active e = refl
stage_unique now_active now_retired e = absurd (omega arith)
stage_unique now_retired still_new e = absurd (omega arith)
stage_unique now_retired now_active e = absurd (omega arith)
stage_unique now_retired now_retired e = refl

bit_unique : (a b : Bool) → bit a ≡ bit b → a ≡ b
bit_unique true true e = refl
bit_unique true false e = absurd (omega arith)
bit_unique false true e = absurd (omega arith)
bit_unique false false e = refl

-- records by their fields
page_parts : (p : Page) (f : Option ℕ) (h : ℕ) → f ≡ p.frame → h ≡ p.high → ◌≡◌ {A = Page} (record { frame = f; high = h }) p
page_parts p f h a b = rw (a, b)

table_parts : (t : Table) (limit mask : ℕ) (life : Lifecycle) (epoch size : ℕ) (pages : ℕ → Page) (slots : ℕ → Slot) (free empty detached : List ℕ)
    → limit ≡ t.limit → mask ≡ t.mask → life ≡ t.life → epoch ≡ t.epoch → size ≡ t.size → pages ≡ t.pages → slots ≡ t.slots → free ≡ t.free → empty ≡ t.empty → detached ≡ t.detached
    → ◌≡◌ {A = Table} (record { limit = limit; mask = mask; life = life; epoch = epoch; size = size; pages = pages; slots = slots; free = free; empty = empty; detached = detached }) t
table_parts t limit mask life epoch size pages slots free empty detached a b c d e f g h i j = rw (a, b, c, d, e, f, g, h, i, j)

object_parts : (x : Object) (koid kind : ℕ) (class : Class) (supported : ℕ) (exportable : Bool) (limit : ℕ) (stage : Stage) (count : ℕ)
    → koid ≡ x.koid → kind ≡ x.kind → class ≡ x.class → supported ≡ x.supported → exportable ≡ x.exportable → limit ≡ x.limit → stage ≡ x.stage → count ≡ x.count
    → ◌≡◌ {A = Object} (record { koid = koid; kind = kind; class = class; supported = supported; exportable = exportable; limit = limit; stage = stage; count = count }) x
object_parts x koid kind class supported exportable limit stage count a b c d e f g h = rw (a, b, c, d, e, f, g, h)

handle_parts : (x : Handle) (object rights flags : ℕ) → object ≡ x.object → rights ≡ x.rights → flags ≡ x.flags → ◌≡◌ {A = Handle} (record { object = object; rights = rights; flags = flags }) x
handle_parts x object rights flags a b c = rw (a, b, c)

snapshot_parts : (x : StorageSnapshot) (epoch free_slots : ℕ) (pages : List ℕ) → epoch ≡ x.epoch → free_slots ≡ x.free_slots → pages ≡ x.pages
    → ◌≡◌ {A = StorageSnapshot} (record { epoch = epoch; free_slots = free_slots; pages = pages }) x
snapshot_parts x epoch free_slots pages a b c = rw (a, b, c)

row_parts : (x : Row) (id : ℕ) (body : Body) → id ≡ x.id → body ≡ x.body → ◌≡◌ {A = Row} (record { id = id; body = body }) x
row_parts x id body a b = rw (a, b)

state_parts : (s : State) (table_count : ℕ) (tables : ℕ → Table) (object_count : ℕ) (objects : ℕ → Object) (frame_count : ℕ) (frames : List ℕ) (rows : List Row) (capacity next : ℕ)
    → table_count ≡ s.table_count → tables ≡ s.tables → object_count ≡ s.object_count → objects ≡ s.objects → frame_count ≡ s.frame_count → frames ≡ s.frames → rows ≡ s.book.rows
    → capacity ≡ s.book.capacity → next ≡ s.book.next
    → ◌≡◌ {A = State} (record { table_count = table_count; tables = tables; object_count = object_count; objects = objects; frame_count = frame_count; frames = frames; book = record { rows = rows; capacity = capacity; next = next } }) s
state_parts s table_count tables object_count objects frame_count frames rows capacity next a b c d e f g h i = rw (a, b, c, d, e, f, g, h, i)

-- ---- tables and objects

page_unique : (m : Mem) (b : ℕ) (t v : Table) → TableIs m b t → TableIs m b v → ((p : ℕ) → t.size ≤ p → t.pages p ≡ v.pages p) → (p : ℕ) → t.pages p ≡ v.pages p
page_unique m b t v i j rest p = bool (ltb p t.size)
    (λ h. let a : p < t.size = ltb-true p t.size h in let d : p < v.size = omega (arith, i.size, j.size) in
    page_parts (v.pages p) (t.pages p).frame (t.pages p).high (link_unique (t.pages p).frame (v.pages p).frame (sym (i.frame p a) ∙ j.frame p d)) (sym (i.high p a) ∙ j.high p d))
    (λ h. rest p (ltb-false p t.size h))

pub table_unique : (m : Mem) (b : ℕ) (t v : Table) → TableIs m b t → TableIs m b v → ((p : ℕ) → t.size ≤ p → t.pages p ≡ v.pages p) → t ≡ v
table_unique m b t v i j rest =
    table_parts v t.limit t.mask t.life t.epoch t.size t.pages t.slots t.free t.empty t.detached
    (sym i.limit ∙ j.limit) (sym i.mask ∙ j.mask) (life_unique (m (head b head_lifecycle)) (m (head b head_cursor)) t.life v.life i.life j.life) (sym i.epoch ∙ j.epoch) (sym i.size ∙ j.size)
    (fun_ext (page_unique m b t v i j rest)) (fun_ext λ k. sym (i.slots k) ∙ j.slots k)
    (chain_unique _ _ (m (head b head_first_free)) 0 0 t.free v.free i.free j.free) (chain_unique _ _ (m (head b head_first_empty)) 0 0 t.empty v.empty i.empty j.empty)
    (linked_unique _ (m (head b head_first_detached)) t.detached v.detached i.detached j.detached)

pub object_unique : (m : Mem) (o : ℕ) (x y : Object) → ObjectIs m o x → ObjectIs m o y → x ≡ y
object_unique m o x y i j =
    object_parts y x.koid x.kind x.class x.supported x.exportable x.limit x.stage x.count
    (sym i.koid ∙ j.koid) (sym i.kind ∙ j.kind) (class_unique x.class y.class (sym i.class ∙ j.class)) (sym i.supported ∙ j.supported)
    (bit_unique x.exportable y.exportable (sym i.exportable ∙ j.exportable)) (sym i.limit ∙ j.limit) (stage_unique x.stage y.stage (sym i.stage ∙ j.stage)) (sym i.count ∙ j.count)

-- ---- rows

items_unique : {A : Type 0} (P : ℕ → A → Type 0) → ((j : ℕ) (x y : A) → P j x → P j y → x ≡ y) → (j : ℕ) (l k : List A) → length l ≡ length k → Items P j l → Items P j k → l ≡ k
items_unique P one j [] [] e p q = refl
items_unique P one j [] (y ∷ k) e p q = absurd (omega arith)
items_unique P one j (x ∷ l) [] e p q = absurd (omega arith)
items_unique {A} P one j (x ∷ l) (y ∷ k) e p q =
    ap (λ (z : A). z ∷ l) (one j x y p.0 q.0) ∙ ap (λ (t : List A). y ∷ t) (items_unique P one (suc j) l k (omega arith) p.1 q.1)

handle_unique : (m : Mem) (r j : ℕ) (x y : Handle) → HandleIs m r j x → HandleIs m r j y → x ≡ y
handle_unique m r j x y p q = handle_parts y x.object x.rights x.flags (sym p.0 ∙ q.0) (sym p.1 ∙ q.1) (sym p.2 ∙ q.2)

entry_unique : (m : Mem) (r j : ℕ) (x y : Entry) → EntryIs m r j x → EntryIs m r j y → x ≡ y
entry_unique m r j (moved k h x) (moved k' h' x') p q =
    let a : k ≡ k' = sym p.1 ∙ q.1 in let b : h ≡ h' = handle_unique m r j h h' p.2 q.2 in let c : x ≡ x' = sym p.3 ∙ q.3 in rw (a, b, c)
entry_unique m r j (moved k h x) (copied h') p q = absurd (omega arith)
entry_unique m r j (copied h) (moved k' h' x') p q = absurd (omega arith)
entry_unique m r j (copied h) (copied h') p q = ap copied (handle_unique m r j h h' p.1 q.1)

pub body_unique : (m : Mem) (r : ℕ) (x y : Body) → BodyIs m r x → BodyIs m r y → x ≡ y
body_unique m r (reservation b ks) (reservation b' ks') p q =
    let a : b ≡ b' = sym p.1 ∙ q.1 in
    let c : ks ≡ ks' = items_unique (λ j k. m (item r j item_slot) ≡ k) (λ j x y i e. sym i ∙ e) 0 ks ks' (sym p.2 ∙ q.2) p.3 q.3 in rw (a, c)
body_unique m r (reservation b ks) (claim b' es') p q = absurd (omega arith)
body_unique m r (reservation b ks) (parcel hs') p q = absurd (omega arith)
body_unique m r (reservation b ks) (plan b' n' w' fs') p q = absurd (omega (arith, p.0, q.kind))
body_unique m r (claim b es) (reservation b' ks') p q = absurd (omega arith)
body_unique m r (claim b es) (claim b' es') p q =
    let a : b ≡ b' = sym p.1 ∙ q.1 in
    let c : es ≡ es' = items_unique (EntryIs m r) (entry_unique m r) 0 es es' (sym p.2 ∙ q.2) p.3 q.3 in rw (a, c)
body_unique m r (claim b es) (parcel hs') p q = absurd (omega arith)
body_unique m r (claim b es) (plan b' n' w' fs') p q = absurd (omega (arith, p.0, q.kind))
body_unique m r (parcel hs) (reservation b' ks') p q = absurd (omega arith)
body_unique m r (parcel hs) (claim b' es') p q = absurd (omega arith)
body_unique m r (parcel hs) (parcel hs') p q = ap parcel (items_unique (HandleIs m r) (handle_unique m r) 0 hs hs' (sym p.1 ∙ q.1) p.2 q.2)
body_unique m r (parcel hs) (plan b' n' w' fs') p q = absurd (omega (arith, p.0, q.kind))
body_unique m r (plan b n w fs) (reservation b' ks') p q = absurd (omega (arith, p.kind, q.0))
body_unique m r (plan b n w fs) (claim b' es') p q = absurd (omega (arith, p.kind, q.0))
body_unique m r (plan b n w fs) (parcel hs') p q = absurd (omega (arith, p.kind, q.0))
body_unique m r (plan b n w fs) (plan b' n' w' fs') p q =
    let a : b ≡ b' = sym p.table ∙ q.table in
    let c : n ≡ n' = sym p.count ∙ q.count in
    let d : w ≡ w' = snapshot_parts w' w.epoch w.free_slots w.pages (sym p.epoch ∙ q.epoch) (sym p.free_slots ∙ q.free_slots)
    (items_unique (λ j k. m (item r j item_page) ≡ k) (λ j x y i e. sym i ∙ e) 0 w.pages w'.pages (sym p.page_count ∙ q.page_count) p.pages q.pages) in
    let e : fs ≡ fs' = items_unique (HeldIs m r) (λ j x y i e. sym i.0 ∙ e.0) 0 fs fs' (sym p.frame_count ∙ q.frame_count) p.held q.held in
    rw (a, c, d, e)

pub rows_unique : (m : Mem) (i : ℕ) (l k : List Row) → length l ≡ length k → RowsAre m i l → RowsAre m i k → l ≡ k
rows_unique m i [] [] e p q = refl
rows_unique m i [] (y ∷ k) e p q = absurd (omega arith)
rows_unique m i (x ∷ l) [] e p q = absurd (omega arith)
rows_unique m i (x ∷ l) (y ∷ k) e p q =
    let a : x ≡ y = row_parts y x.id x.body (sym p.0 ∙ q.0) (body_unique m (m (index i)) x.body y.body p.1 q.1) in
    ap (λ (z : Row). z ∷ l) a ∙ ap (λ (t : List Row). y ∷ t) (rows_unique m (suc i) l k (omega arith) p.2 q.2)

-- ---- the whole

module _ (sh : Shape) (m : Mem) (s u : State) (i : Represents sh m s) (j : Represents sh m u) (w : WellFormed till s) (v : WellFormed till u) where
  table_counts : s.table_count ≡ u.table_count
  table_counts = sym i.table_count ∙ j.table_count

  object_counts : s.object_count ≡ u.object_count
  object_counts = sym i.object_count ∙ j.object_count

  frame_counts : s.frame_count ≡ u.frame_count
  frame_counts = sym i.frame_count ∙ j.frame_count

  tables_same : s.tables ≡ u.tables
  tables_same = fun_ext λ b. bool (ltb b s.table_count)
      (λ h. let a : b < s.table_count = ltb-true b s.table_count h in let d : b < u.table_count = omega (arith, table_counts) in
      let x = i.tables b a in let y = j.tables b d in
      table_unique m b (s.tables b) (u.tables b) x y (λ p g. w.at_rest.pages b p g ∙ sym (v.at_rest.pages b p (omega (arith, x.size, y.size)))))
      (λ h. let a : s.table_count ≤ b = ltb-false b s.table_count h in w.at_rest.tables b a ∙ sym (v.at_rest.tables b (omega (arith, table_counts))))

  objects_same : s.objects ≡ u.objects
  objects_same = fun_ext λ o. bool (ltb o s.object_count)
      (λ h. let a : o < s.object_count = ltb-true o s.object_count h in object_unique m o (s.objects o) (u.objects o) (i.objects o a) (j.objects o (omega (arith, object_counts))))
      (λ h. let a : s.object_count ≤ o = ltb-false o s.object_count h in w.at_rest.objects o a ∙ sym (v.at_rest.objects o (omega (arith, object_counts))))

  -- a frame that no page has and no plan holds is free
  pages_same : (f : ℕ) → pages_with s f ≡ pages_with u f
  pages_same f = rw (table_counts, tables_same)

  rows_same : s.book.rows ≡ u.book.rows
  rows_same = rows_unique m 0 s.book.rows u.book.rows (sym i.book.used ∙ j.book.used) i.book.rows j.book.rows

  frames_same : s.frames ≡ u.frames
  frames_same = rising_unique s.frames u.frames w.frames.rising v.frames.rising
      (λ f. omega (arith, w.frames.once f, v.frames.once f, pages_same f, ap (λ (l : List Row). plans_with l f) rows_same, ap (λ (n : ℕ). bit (ltb f n)) frame_counts))

  -- THE REPRESENTATION IS A FUNCTION
  pub represents_unique : s ≡ u
  represents_unique = state_parts u s.table_count s.tables s.object_count s.objects s.frame_count s.frames s.book.rows s.book.capacity s.book.next
      table_counts tables_same object_counts objects_same frame_counts frames_same rows_same (sym i.capacity ∙ j.capacity) (sym i.book.next ∙ j.book.next)

-- so words determine their state, and its counts
pub rep_unique : (ws : List ℕ) (sh sh' : Shape) (s u : State) → Rep ws sh s → Rep ws sh' u → (sh ≡ sh') × (s ≡ u)
rep_unique ws sh sh' s u r q =
    let z : Some sh ≡ Some sh' = sym (shape_is ws sh r.reps.shaped) ∙ shape_is ws sh' q.reps.shaped in
    let e : sh' ≡ sh = cc in
    (sym e, represents_unique sh (load ws sh) s u r.reps.memory (rw e at q.reps.memory) r.well_formed q.well_formed)
