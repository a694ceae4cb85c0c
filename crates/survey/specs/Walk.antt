-- What the walk over the slots tests and which handles it counts, and that neither depends on the objects' records. Assumes nothing.
use Rattle.std.specs.Prelude.{◌≡◌, refl, Bool, true, false, ◌&&◌, List, [], ◌∷◌, ℕ, zero, suc, ◌+◌, ◌*◌, ◌<◌, min, eqb, ltb}
use Rattle.std.proofs.Math.Path.{ap}
use Rattle.std.proofs.Common.{arith, eqb-true}
use Rattle.std.proofs.lemmas.Bool.{eqb-false}
use Rattle.words.specs.Pick.{pick, bool}
use Rattle.words.specs.All.{all, all_stop}
use Rattle.model.specs.State.{till}
use Rattle.model.specs.Storage.{slots_of}
use Rattle.layout.specs.declared.Shape.{Shape}
use Rattle.layout.specs.declared.CellWords.{CellWords}
use Rattle.layout.specs.Layout.{Mem, head, entry}
use Rattle.layout.specs.Cells.{cell_at}
use Rattle.layout.specs.Fields.{head_lifecycle, head_pages, head_first_entry, entry_frame, entry_high, entry_busy}
use Rattle.layout.specs.Sizes.{page_size}
use Rattle.structure.specs.Facts.{busy_cells}
use Rattle.structure.specs.Checks.{bound_of, slot_c}
use Rattle.ledger.specs.Ledger.{is_mark, hit_b, mark_b}
use Rattle.counts.specs.Found.{gather, is_occupied, on_link, in_cell, OffObjects, hide_same}

-- the mark of slot k of table b
abbrev pub marked_b : Mem → Shape → ℕ → ℕ → CellWords → Bool
marked_b m sh b k c = pick (is_mark c.tag) (mark_b m sh b k c.tag c.object c.rights) true

-- slot k of table b by its words: its handle is of an object below a bound
unfoldable pub cell_b : Mem → Shape → ℕ → ℕ → ℕ → ℕ → CellWords → Bool
cell_b m sh b k bound high c = slot_c bound high c && marked_b m sh b k c

-- slot j of page p of table b, in frame f
abbrev pub slot_at : Mem → Shape → ℕ → ℕ → ℕ → ℕ → ℕ → ℕ → Bool
slot_at m sh b p bound high f j = cell_b m sh b (p * page_size + j) bound high (cell_at m f j)

-- the first n of them, of which w are busy
unfoldable pub frame_b : Mem → Shape → ℕ → ℕ → ℕ → ℕ → ℕ → ℕ → ℕ → Bool
frame_b m sh b p bound high f n w = all n (slot_at m sh b p bound high f) && eqb (busy_cells m f n) w

-- a frame that is given as a link: none, or one of the state's
abbrev pub on_frame : ℕ → (ℕ → Bool) → Bool
on_frame zero t = true
on_frame (suc f) t = t f

-- page p of table b, whose first entry is e
unfoldable pub page_b : Mem → Shape → ℕ → ℕ → ℕ → ℕ → Bool
page_b m sh b bound e p = on_frame (m (entry (e + p) entry_frame)) (λ f. ltb f sh.frames && frame_b m sh b p bound (m (entry (e + p) entry_high)) f (slots_of till p) (m (entry (e + p) entry_busy)))

-- the pages that table b has had, whose handles are of the first u objects; there are no more than the state has entries
unfoldable pub table_b : Mem → Shape → ℕ → ℕ → Bool
table_b m sh u b = all (min (m (head b head_pages)) sh.pages) (page_b m sh b (bound_of u (m (head b head_lifecycle))) (m (head b head_first_entry)))

-- ALL SLOTS
unfoldable pub survey_b : Mem → Shape → ℕ → Bool
survey_b m sh u = all sh.tables (table_b m sh u)

-- ---- the handles that are counted: of each page those before the first slot that fails

-- of a slot by its words
abbrev pub held_in : CellWords → List ℕ
held_in c = pick (is_occupied c.tag) (c.object ∷ []) []

-- how many of the first n pass before one fails
unfoldable pub passed : ℕ → (ℕ → Bool) → ℕ
passed zero P = zero
passed (suc n) P = pick (all (suc n) P) (suc n) (passed n P)

pub passed_all : (n : ℕ) (P : ℕ → Bool) → all n P ≡ true → passed n P ≡ n
unfolding passed
passed_all zero P e = refl
passed_all (suc n) P e = rw e

pub passed_stop : (n : ℕ) (P : ℕ → Bool) (j : ℕ) → j < n → all j P ≡ true → P j ≡ false → passed n P ≡ j
unfolding passed
passed_stop zero P j h e d = absurd (omega arith)
passed_stop (suc n) P j h e d = rw (all_stop (suc n) P j h d) (bool (eqb j n)
    (λ q. let y : j ≡ n = eqb-true j n q in rw (← y) (passed_all j P e))
    (λ q. passed_stop n P j (omega (arith, eqb-false j n q)) e d))

unfoldable pub frame_found : Mem → Shape → ℕ → ℕ → ℕ → ℕ → ℕ → ℕ → List ℕ
frame_found m sh b p bound high f n = gather (passed n (slot_at m sh b p bound high f)) (in_cell m f)

unfoldable pub page_found : Mem → Shape → ℕ → ℕ → ℕ → ℕ → List ℕ
page_found m sh b bound e p = on_link (m (entry (e + p) entry_frame)) (λ f. pick (ltb f sh.frames) (frame_found m sh b p bound (m (entry (e + p) entry_high)) f (slots_of till p)) [])

unfoldable pub table_found : Mem → Shape → ℕ → ℕ → List ℕ
table_found m sh u b = gather (min (m (head b head_pages)) sh.pages) (page_found m sh b (bound_of u (m (head b head_lifecycle))) (m (head b head_first_entry)))

-- ---- the walk does not look at objects

module _ (m n : Mem) (h : OffObjects m n) where
  pub cell_same : (f j : ℕ) → cell_at n f j ≡ cell_at m f j
  cell_same f j = ap (λ (u : Mem). cell_at u f j) (hide_same m n h)

  module _ (sh : Shape) (b : ℕ) where
    pub test_same : (k bound high : ℕ) (c : CellWords) → cell_b n sh b k bound high c ≡ cell_b m sh b k bound high c
    unfolding cell_b mark_b hit_b
    test_same k bound high c = ap (λ (u : Mem). cell_b u sh b k bound high c) (hide_same m n h)

    pub page_same : (bound e p : ℕ) → page_b n sh b bound e p ≡ page_b m sh b bound e p
    unfolding page_b frame_b cell_b mark_b hit_b
    page_same bound e p = ap (λ (u : Mem). page_b u sh b bound e p) (hide_same m n h)

    pub table_same : (u : ℕ) → table_b n sh u b ≡ table_b m sh u b
    unfolding table_b page_b frame_b cell_b mark_b hit_b
    table_same u = ap (λ (w : Mem). table_b w sh u b) (hide_same m n h)

    pub page_found_same : (bound e p : ℕ) → page_found n sh b bound e p ≡ page_found m sh b bound e p
    unfolding page_found frame_found cell_b mark_b hit_b
    page_found_same bound e p = ap (λ (u : Mem). page_found u sh b bound e p) (hide_same m n h)

    pub table_found_same : (u : ℕ) → table_found n sh u b ≡ table_found m sh u b
    unfolding table_found page_found frame_found cell_b mark_b hit_b
    table_found_same u = ap (λ (w : Mem). table_found w sh u b) (hide_same m n h)
