-- The shape that a state's header gives, or none. Assumes nothing.
use Rattle.std.specs.Prelude.{Option, Some, None}
use Rattle.std.specs.Prelude.{◌≡◌, refl, Bool, true, ◌&&◌, List, [], ◌∷◌, ℕ, ◌*◌, ◌≤◌, ◌<◌, length, get_or, eqb, leb}
use Rattle.std.proofs.Common.{sym, ◌∙◌, arith, eq-eqb, eqb-true, le-leb, leb-true}
use Rattle.words.specs.Pick.{pick, bool, both, both_is}
use Rattle.layout.specs.Layout.{total, root, Mem, load, load_root}
use Rattle.layout.specs.declared.Shape.{Shape}
use Rattle.layout.specs.Fields.{root_version, root_tables, root_frames, root_objects, root_rows, root_next_id, root_free_frames, root_pages}
use Rattle.layout.specs.Values.{format_version}
use Rattle.layout.specs.Sizes.{pages_max, tables_max, frames_max, objects_max, rows_max}

-- the counts that the header holds
unfoldable pub shape_at : List ℕ → Shape
shape_at ws = record { tables = get_or ws root_tables 0; pages = get_or ws root_pages 0; frames = get_or ws root_frames 0; objects = get_or ws root_objects 0; rows = get_or ws root_rows 0 }

-- the limits of a state
pub record Permitted (sh : Shape) : Type 0 where
  pub some_table : 1 ≤ sh.tables
  pub few_tables : sh.tables ≤ tables_max
  pub few_frames : sh.frames ≤ frames_max
  pub some_object : 1 ≤ sh.objects
  pub few_objects : sh.objects ≤ objects_max
  pub some_row : 1 ≤ sh.rows
  pub few_rows : sh.rows ≤ rows_max
  pub some_page : sh.tables ≤ sh.pages
  pub few_pages : sh.pages ≤ sh.tables * pages_max

-- each pair is in order
abbrev ordered : List (ℕ × ℕ) → Bool
ordered [] = true
ordered (p ∷ ps) = leb p.0 p.1 && ordered ps

abbrev Ordered : List (ℕ × ℕ) → Type 0
Ordered [] = Unit {0}
Ordered (p ∷ ps) = (p.0 ≤ p.1) × Ordered ps

ordered_is : (ps : List (ℕ × ℕ)) → ordered ps ≡ true → Ordered ps
ordered_is [] e = tt
ordered_is (p ∷ ps) e = let b = both (leb p.0 p.1) (ordered ps) e in (leb-true p.0 p.1 b.0, ordered_is ps b.1)

ordered_yes : (ps : List (ℕ × ℕ)) → Ordered ps → ordered ps ≡ true
ordered_yes [] o = refl
ordered_yes (p ∷ ps) o = both_is (leb p.0 p.1) (ordered ps) (le-leb p.0 p.1 o.0) (ordered_yes ps o.1)

abbrev limits : Shape → List (ℕ × ℕ)
limits sh =
    (1, sh.tables) ∷ (sh.tables, tables_max) ∷ (sh.frames, frames_max) ∷ (1, sh.objects) ∷ (sh.objects, objects_max) ∷ (1, sh.rows) ∷ (sh.rows, rows_max)
    ∷ (sh.tables, sh.pages) ∷ (sh.pages, sh.tables * pages_max) ∷ []

-- the test of a shape's limits
unfoldable pub permitted : Shape → Bool
permitted sh = ordered (limits sh)

pub permitted_is : (sh : Shape) → permitted sh ≡ true → Permitted sh
unfolding permitted
permitted_is sh e =
    let o = ordered_is (limits sh) e in
    record {
      some_table = omega arith;
      few_tables = omega arith;
      few_frames = omega arith;
      some_object = omega arith;
      few_objects = omega arith;
      some_row = omega arith;
      few_rows = omega arith;
      some_page = omega arith;
      few_pages = omega arith;
    }

pub permitted_yes : (sh : Shape) → Permitted sh → permitted sh ≡ true
unfolding permitted
permitted_yes sh p =
    ordered_yes (limits sh)
    (p.some_table, (p.few_tables, (p.few_frames, (p.some_object, (p.few_objects, (p.some_row, (p.few_rows, (p.some_page, (p.few_pages, tt)))))))))

-- no permitted state has more words than the largest
pub permitted_small : (sh : Shape) → Permitted sh → total sh ≤ 46340255
permitted_small sh p = omega arith

-- THE READING: version 1, counts within the limits, and words enough for them
unfoldable pub shape_of : List ℕ → Option Shape
shape_of ws = pick (eqb (get_or ws root_version 0) format_version && (permitted (shape_at ws) && leb (total (shape_at ws)) (length ws))) (Some (shape_at ws)) None

-- what the tests say
pub record Given (ws : List ℕ) (sh : Shape) : Type 0 where
  pub version : get_or ws root_version 0 ≡ format_version
  pub is : sh ≡ shape_at ws
  pub limits : Permitted sh
  pub room : total sh ≤ length ws

given_found : (ws : List ℕ) (sh : Shape) → shape_of ws ≡ Some sh → Given ws sh
unfolding shape_of
given_found ws sh q = bool (eqb (get_or ws root_version 0) format_version && (permitted (shape_at ws) && leb (total (shape_at ws)) (length ws)))
    (λ e. let b = both (eqb (get_or ws root_version 0) format_version) (permitted (shape_at ws) && leb (total (shape_at ws)) (length ws)) e in
    let d = both (permitted (shape_at ws)) (leb (total (shape_at ws)) (length ws)) b.1 in
    let z : Some (shape_at ws) ≡ Some sh = rw e at q in
    let i : sh ≡ shape_at ws = cc in
    record { version = eqb-true (get_or ws root_version 0) format_version b.0; is = i; limits = rw i (permitted_is (shape_at ws) d.0); room = rw i (leb-true (total (shape_at ws)) (length ws) d.1) })
    (λ e. let z : None ≡ Some sh = rw e at q in let y : ◌≡◌ {A = ℕ} 0 1 = cc in absurd (omega arith))

given_is : (ws : List ℕ) (sh : Shape) → Given ws sh → Some sh ≡ shape_of ws
unfolding shape_of
given_is ws sh h =
    let i : sh ≡ shape_at ws = h.is in
    let p : Permitted (shape_at ws) = rw i at h.limits in
    let m : total (shape_at ws) ≤ length ws = rw i at h.room in
    rw (eq-eqb (get_or ws root_version 0) format_version h.version, permitted_yes (shape_at ws) p, le-leb (total (shape_at ws)) (length ws) m, i)

pub shape_bad : (ws : List ℕ) → (Given ws (shape_at ws) → ⊥) → None ≡ shape_of ws
unfolding shape_of
shape_bad ws h = bool (eqb (get_or ws root_version 0) format_version && (permitted (shape_at ws) && leb (total (shape_at ws)) (length ws)))
    (λ e. let b = both (eqb (get_or ws root_version 0) format_version) (permitted (shape_at ws) && leb (total (shape_at ws)) (length ws)) e in
    let d = both (permitted (shape_at ws)) (leb (total (shape_at ws)) (length ws)) b.1 in
    absurd (h (record { version = eqb-true (get_or ws root_version 0) format_version b.0; is = refl; limits = permitted_is (shape_at ws) d.0; room = leb-true (total (shape_at ws)) (length ws) d.1 })))
    (λ e. rw e)

-- ---- what goes by the reading

module _ {ℓ} {A : Type ℓ} where
  abbrev pub on_shape : Option Shape → A → (Shape → A) → A
  on_shape (Some sh) bad good = good sh
  on_shape None bad good = bad

-- ---- what the code's tests say

-- the last test of `shape_of`: n words, and m needed
pub shape_short : (ws : List ℕ) (sh : Shape) (n m : ℕ) → sh ≡ shape_at ws → n ≡ length ws → m ≡ total sh → n < m → None ≡ shape_of ws
shape_short ws sh n m i l e h = shape_bad ws (λ q. let z : m ≡ total (shape_at ws) = rw i at e in omega (arith, q.room))

pub shape_long : (ws : List ℕ) (sh : Shape) (n m : ℕ) → get_or ws root_version 0 ≡ format_version → sh ≡ shape_at ws → Permitted sh → n ≡ length ws → m ≡ total sh → m ≤ n → Some sh ≡ shape_of ws
shape_long ws sh n m v i p l e h = given_is ws sh (record { version = v; is = i; limits = p; room = omega arith })

-- ---- the reading, over the header's fields

-- a memory's header has the counts
pub record Roots (sh : Shape) (m : Mem) : Type 0 where
  pub version : m (root root_version) ≡ format_version
  pub tables : m (root root_tables) ≡ sh.tables
  pub frames : m (root root_frames) ≡ sh.frames
  pub objects : m (root root_objects) ≡ sh.objects
  pub rows : m (root root_rows) ≡ sh.rows
  pub pages : m (root root_pages) ≡ sh.pages

-- so has one that shows the same header, but for the next id and the counts of rows and of free frames
pub roots_kept : (sh : Shape) (m m' : Mem) → ((f : ℕ) → (root_next_id ≤ f → f ≤ root_free_frames → ⊥) → m' (root f) ≡ m (root f)) → Roots sh m → Roots sh m'
roots_kept sh m m' e r = record {
  version = e root_version (λ a b. omega arith) ∙ r.version;
  tables = e root_tables (λ a b. omega arith) ∙ r.tables;
  frames = e root_frames (λ a b. omega arith) ∙ r.frames;
  objects = e root_objects (λ a b. omega arith) ∙ r.objects;
  rows = e root_rows (λ a b. omega arith) ∙ r.rows;
  pages = e root_pages (λ a b. omega arith) ∙ r.pages;
}

pub record Shaped (ws : List ℕ) (sh : Shape) : Type 0 where
  pub limits : Permitted sh
  pub room : total sh ≤ length ws
  pub roots : Roots sh (load ws sh)

pub shape_found : (ws : List ℕ) (sh : Shape) → shape_of ws ≡ Some sh → Shaped ws sh
unfolding shape_at
shape_found ws sh q =
    let g = given_found ws sh q in let i : sh ≡ shape_at ws = g.is in
    record {
      limits = g.limits;
      room = g.room;
      roots = record {
        version = load_root ws sh root_version (omega arith) ∙ g.version;
        tables = load_root ws sh root_tables (omega arith) ∙ rw i;
        frames = load_root ws sh root_frames (omega arith) ∙ rw i;
        objects = load_root ws sh root_objects (omega arith) ∙ rw i;
        rows = load_root ws sh root_rows (omega arith) ∙ rw i;
        pages = load_root ws sh root_pages (omega arith) ∙ rw i;
      };
    }

shape_parts : (sh : Shape) (t p f o r : ℕ) → t ≡ sh.tables → p ≡ sh.pages → f ≡ sh.frames → o ≡ sh.objects → r ≡ sh.rows
    → sh ≡ record { tables = t; pages = p; frames = f; objects = o; rows = r }
shape_parts sh t p f o r a b c d e = rw (a, b, c, d, e)

pub shape_is : (ws : List ℕ) (sh : Shape) → Shaped ws sh → shape_of ws ≡ Some sh
unfolding shape_at
shape_is ws sh h =
    let r = h.roots in
    sym (given_is ws sh (record {
      version = sym (load_root ws sh root_version (omega arith)) ∙ r.version;
      is = shape_parts sh (get_or ws root_tables 0) (get_or ws root_pages 0) (get_or ws root_frames 0) (get_or ws root_objects 0) (get_or ws root_rows 0)
          (sym (load_root ws sh root_tables (omega arith)) ∙ r.tables) (sym (load_root ws sh root_pages (omega arith)) ∙ r.pages) (sym (load_root ws sh root_frames (omega arith)) ∙ r.frames)
          (sym (load_root ws sh root_objects (omega arith)) ∙ r.objects) (sym (load_root ws sh root_rows (omega arith)) ∙ r.rows);
      limits = h.limits;
      room = h.room;
    }))
