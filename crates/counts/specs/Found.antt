-- The handles that a state's words hold, as the list of their objects. Assumes nothing.
use Rattle.std.specs.Prelude.{◌≡◌, Bool, ◌||◌, List, [], ◌∷◌, ◌++◌, ℕ, zero, suc, ◌+◌, min, eqb}
use Rattle.std.proofs.Common.{ap}
use Rattle.std.proofs.Math.Path.{fun_ext}
use Rattle.std.proofs.lemmas.Bool.{eqb-false}
use Rattle.words.specs.Pick.{pick, bool}
use Rattle.words.specs.All.{all}
use Rattle.model.specs.Base.{occurs}
use Rattle.model.specs.State.{till}
use Rattle.model.specs.Storage.{slots_of}
use Rattle.layout.specs.declared.Shape.{Shape}
use Rattle.layout.specs.Layout.{Addr, Addr.reg, Mem, root, head, entry, cell, object, index, row, item}
use Rattle.layout.specs.Fields.{root_used_rows, head_pages, head_first_entry, entry_frame, slot_tag, slot_object, object_active, row_kind, row_length, item_object}
use Rattle.layout.specs.Values.{tag_occupied, kind_claim, kind_parcel}
use Rattle.layout.specs.Sizes.{batch_max}
use Rattle.layout.specs.RegionNames.{region_object}

-- the lists of the first n numbers, one after the other
abbrev pub gather : ℕ → (ℕ → List ℕ) → List ℕ
gather zero f = []
gather (suc n) f = gather n f ++ f n

-- the tag of an occupied slot
abbrev pub is_occupied : ℕ → Bool
is_occupied t = eqb t tag_occupied

-- what a row that holds handles is: a claim or a parcel
abbrev pub holds_handles : ℕ → Bool
holds_handles g = eqb g kind_claim || eqb g kind_parcel

-- slot j of a frame, if it is occupied
abbrev pub in_cell : Mem → ℕ → ℕ → List ℕ
in_cell m fr j = pick (is_occupied (m (cell fr j slot_tag))) (m (cell fr j slot_object) ∷ []) []

-- what a frame has, given as a link
abbrev pub on_link : ℕ → (ℕ → List ℕ) → List ℕ
on_link zero f = []
on_link (suc fr) f = f fr

-- page p of the table whose first entry is e
abbrev pub in_page : Mem → ℕ → ℕ → List ℕ
in_page m e p = on_link (m (entry (e + p) entry_frame)) (λ fr. gather (slots_of till p) (in_cell m fr))

-- the pages that table b has had; there are no more than the state has entries
abbrev pub in_table : Mem → Shape → ℕ → List ℕ
in_table m sh b = gather (min (m (head b head_pages)) sh.pages) (in_page m (m (head b head_first_entry)))

-- a claim's or a parcel's items, which are at most batch_max
abbrev pub in_row : Mem → ℕ → List ℕ
in_row m x = pick (holds_handles (m (row x row_kind))) (gather (min (m (row x row_length)) batch_max) (λ j. m (item x j item_object) ∷ [])) []

-- the rows in use, by rank; there are no more than the state has places
abbrev pub in_book : Mem → Shape → List ℕ
in_book m sh = gather (min (m (root root_used_rows)) sh.rows) (λ i. in_row m (m (index i)))

-- the objects of all handles: in occupied slots, open claims and parcels
abbrev pub found : Mem → Shape → List ℕ
found m sh = gather sh.tables (in_table m sh) ++ in_book m sh

-- how many handles of object o there are
unfoldable pub handles : Mem → Shape → ℕ → ℕ
handles m sh o = occurs o (found m sh)

-- "stored counts equal what they count, object counts included"
unfoldable pub counts_b : Mem → Shape → Bool
counts_b m sh = all sh.objects (λ o. eqb (m (object o object_active)) (handles m sh o))

-- ---- the walk does not look at objects

-- n differs from m in the objects' records alone
abbrev pub OffObjects : Mem → Mem → Type 0
OffObjects m n = (k x y f : ℕ) → (k ≡ region_object → ⊥) → n (reg k x y f) ≡ m (reg k x y f)

-- the memory without the objects
abbrev pub hide : Mem → Mem
hide m (reg k x y f) = pick (eqb k region_object) 0 (m (reg k x y f))

pub hide_same : (m n : Mem) → OffObjects m n → hide n ≡ hide m
hide_same m n h = fun_ext go
  where
    go : (a : Addr) → hide n a ≡ hide m a
    go (reg k x y f) = bool (eqb k region_object) (λ e. rw e) (λ e. rw e (h k x y f (eqb-false k region_object e)))

module _ (m n : Mem) (h : OffObjects m n) where
  pub cell_same : (fr j : ℕ) → in_cell n fr j ≡ in_cell m fr j
  cell_same fr j = ap (λ (u : Mem). in_cell u fr j) (hide_same m n h)

  pub book_same : (sh : Shape) → in_book n sh ≡ in_book m sh
  book_same sh = ap (λ (u : Mem). in_book u sh) (hide_same m n h)

  pub item_same : (x j : ℕ) → ◌≡◌ {A = List ℕ} (n (item x j item_object) ∷ []) (m (item x j item_object) ∷ [])
  item_same x j = ap (λ (u : Mem). u (item x j item_object) ∷ []) (hide_same m n h)

  pub rank_same : (i : ℕ) → in_row n (n (index i)) ≡ in_row m (m (index i))
  rank_same i = ap (λ (u : Mem). in_row u (u (index i))) (hide_same m n h)
