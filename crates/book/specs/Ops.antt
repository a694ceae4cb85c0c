-- The operations on rows: the stores that each makes, and the words that it leaves. Assumes nothing.
use Rattle.std.specs.Prelude.{◌≡◌, refl, Bool, List, [], ◌∷◌, ℕ, zero, suc, ◌+◌, ◌-◌, ◌/◌, ◌≤◌, min, length, eqb, ltb}
use Rattle.std.proofs.Common.{◌∙◌, arith}
use Rattle.std.proofs.Math.Bool.{and-false}
use Rattle.words.specs.Pick.{pick, bool}
use Rattle.model.specs.State.{last_id}
use Rattle.layout.specs.declared.Shape.{Shape}
use Rattle.layout.specs.Layout.{Addr.reg, Mem, total, root, index, rank, row, item, load, save, same, same_is, is_in, length_save, load_save_any, Write, Write.at, writes}
use Rattle.layout.specs.Fields.{root_next_id, root_used_rows, row_id, row_kind, row_table, row_length, item_slot, item_object, item_rights, item_flags}
use Rattle.layout.specs.Values.{kind_reservation, kind_plan}
use Rattle.layout.specs.RegionNames.{region_row}
pub use Rattle.storage.specs.Links.{place_of}
use Rattle.storage.specs.Ops.{up, vacate_w}

-- the id of the row of rank i
abbrev pub id_at : Mem → ℕ → ℕ
id_at m i = m (row (m (index i)) row_id)

-- the row in use with an id, among n ranks from i on: its place plus 1, 0 if there is none; each look leaves at most half of the ranks. The fuel is at least n
abbrev pub link_from : Mem → ℕ → ℕ → ℕ → ℕ → ℕ
link_from m id zero i n = 0
link_from m id (suc fuel) i zero = 0
link_from m id (suc fuel) i (suc n) =
    pick (eqb (id_at m (i + suc n / 2)) id) (up (m (index (i + suc n / 2))))
    (pick (ltb (id_at m (i + suc n / 2)) id) (link_from m id fuel (i + suc n / 2 + 1) (suc n - suc n / 2 - 1)) (link_from m id fuel i (suc n / 2)))

-- the likely rank of a row among n: as far from their end as its id is from the next one
abbrev pub likely_rank : Mem → ℕ → ℕ → ℕ
likely_rank m id n = n - (m (root root_next_id) - id)

-- the row of that rank, if it has the id: its place plus 1, else 0
unfoldable pub likely_link : Mem → ℕ → ℕ → ℕ
likely_link m id n = pick (ltb (likely_rank m id n) n) (pick (eqb (id_at m (likely_rank m id n)) id) (up (m (index (likely_rank m id n)))) 0) 0

-- how many rows are in use, at most those that there are
abbrev pub used_of : Mem → Shape → ℕ
used_of m sh = min (m (root root_used_rows)) sh.rows

-- the row in use with an id: that of the likely rank, or else by the search
unfoldable pub row_link : Mem → Shape → ℕ → ℕ
row_link m sh id = pick (eqb (likely_link m id (used_of m sh)) 0) (link_from m id (used_of m sh) 0 (used_of m sh)) (likely_link m id (used_of m sh))

-- if that row is of a kind
unfoldable pub kind_link : ℕ → Mem → Shape → ℕ → ℕ
kind_link what m sh id = pick (eqb (m (row (row_link m sh id - 1) row_kind)) what) (row_link m sh id) 0

-- the open reservation with an id: its place plus 1, 0 if there is none
abbrev pub reservation_link : Mem → Shape → ℕ → ℕ
reservation_link = kind_link kind_reservation

-- the plan with an id
abbrev pub plan_link : Mem → Shape → ℕ → ℕ
plan_link = kind_link kind_plan

-- "Allocation": a row is left
abbrev pub row_left : Mem → Shape → Bool
row_left m sh = ltb (m (root root_used_rows)) sh.rows

-- "ReservationIdExhausted: next id is 2^64 - 1": 12, else 0
abbrev pub id_refusal : Mem → ℕ
id_refusal m = pick (eqb (m (root root_next_id)) last_id) 12 0

-- the place of the next row: that of the first rank out of use
abbrev pub spare : Mem → ℕ
spare m = m (index (m (root root_used_rows)))

-- a row opens there, under the next id: what it is, its table and its count
unfoldable pub open_p : Mem → ℕ → ℕ → ℕ → List Write
open_p m what b n =
    at (row (spare m) row_id) (m (root root_next_id))
    ∷ at (row (spare m) row_kind) what
    ∷ at (row (spare m) row_table) b
    ∷ at (row (spare m) row_length) n
    ∷ at (root root_used_rows) (up (m (root root_used_rows)))
    ∷ at (root root_next_id) (up (m (root root_next_id)))
    ∷ []

unfoldable pub open_w : List ℕ → Shape → ℕ → ℕ → ℕ → List ℕ
open_w ws sh what b n = writes ws sh (open_p (load ws sh) what b n)

-- a handle into item j of the row in place x
unfoldable pub handle_w : List ℕ → Shape → ℕ → ℕ → ℕ → ℕ → ℕ → List ℕ
handle_w ws sh x j object rights flags = writes ws sh (at (item x j item_object) object ∷ at (item x j item_rights) rights ∷ at (item x j item_flags) flags ∷ [])

-- the row of rank i + 1 comes to rank i
abbrev pub shift_p : Mem → ℕ → List Write
shift_p m i = at (index i) (m (index (i + 1))) ∷ at (rank (m (index (i + 1)))) i ∷ []

-- n ranks from r on
unfoldable pub shift_w : List ℕ → Shape → ℕ → ℕ → List ℕ
shift_w ws sh r zero = ws
shift_w ws sh r (suc n) = writes (shift_w ws sh r n) sh (shift_p (load (shift_w ws sh r n) sh) (r + n))

-- the last rank in use
abbrev pub last_of : Mem → Shape → ℕ
last_of m sh = used_of m sh - 1

-- the row in place x leaves: the rows after it come one rank down, and its place is the first out of use
unfoldable pub close_w : List ℕ → Shape → ℕ → List ℕ
close_w ws sh x =
    let m : Mem = load ws sh in
    writes (shift_w ws sh (m (rank x)) (last_of m sh - m (rank x))) sh (at (index (last_of m sh)) x ∷ at (rank x) (last_of m sh) ∷ at (root root_used_rows) (last_of m sh) ∷ [])

-- the row in place x has n items
unfoldable pub shrink_w : List ℕ → Shape → ℕ → ℕ → List ℕ
shrink_w ws sh x n = save ws sh (row x row_length) n

-- the slots that n items of the row in place x name, from item i on, fall vacant in table b
unfoldable pub vacate_items_w : List ℕ → Shape → ℕ → ℕ → ℕ → ℕ → List ℕ
vacate_items_w ws sh b x i zero = ws
vacate_items_w ws sh b x i (suc n) = vacate_w (vacate_items_w ws sh b x i n) sh b (load (vacate_items_w ws sh b x i n) sh (item x (i + n) item_slot))

-- an id is spent
unfoldable pub spend_w : List ℕ → Shape → List ℕ
spend_w ws sh = save ws sh (root root_next_id) (up (load ws sh (root root_next_id)))

-- ---- stores into the row in place x and its items, and nowhere else

pub record Fills (ws ws' : List ℕ) (sh : Shape) (x : ℕ) : Type 0 where
  pub long : length ws' ≡ length ws
  pub rest : (k z y f : ℕ) → (k ≡ region_row → z ≡ x → ⊥) → load ws' sh (reg k z y f) ≡ load ws sh (reg k z y f)

pub fills_none : (ws : List ℕ) (sh : Shape) (x : ℕ) → Fills ws ws sh x
fills_none ws sh x = record { long = refl; rest = λ k z y f h. refl }

pub fills_then : (ws ws₁ ws₂ : List ℕ) (sh : Shape) (x : ℕ) → Fills ws ws₁ sh x → Fills ws₁ ws₂ sh x → Fills ws ws₂ sh x
fills_then ws ws₁ ws₂ sh x p q = record { long = q.long ∙ p.long; rest = λ k z y f h. q.rest k z y f h ∙ p.rest k z y f h }

fill_one : (ws : List ℕ) (sh : Shape) → total sh ≤ length ws → (x y f v : ℕ) → Fills ws (save ws sh (reg region_row x y f) v) sh x
fill_one ws sh h x y f v = record {
  long = length_save ws sh (reg region_row x y f) v;
  rest = λ k z y' f' n. load_save_any ws sh h (reg region_row x y f) v (reg k z y' f') ∙ bool (same (reg region_row x y f) (reg k z y' f'))
      (λ e. let q : reg k z y' f' ≡ reg region_row x y f = same_is (reg region_row x y f) (reg k z y' f') e in
      let a : k ≡ region_row = cc in let b : z ≡ x = cc in absurd (n a b))
      (λ e. rw (e, and-false (is_in sh (reg region_row x y f))));
}

pub fills_row : (ws : List ℕ) (sh : Shape) → total sh ≤ length ws → (x f v : ℕ) → Fills ws (save ws sh (row x f) v) sh x
fills_row ws sh h x f v = fill_one ws sh h x 0 f v

pub fills_item : (ws : List ℕ) (sh : Shape) → total sh ≤ length ws → (x j f v : ℕ) → Fills ws (save ws sh (item x j f) v) sh x
fills_item ws sh h x j f v = fill_one ws sh h x (suc j) f v

pub fills_handle : (ws : List ℕ) (sh : Shape) → total sh ≤ length ws → (x j o r f : ℕ) → Fills ws (handle_w ws sh x j o r f) sh x
unfolding handle_w
fills_handle ws sh h x j o r f =
    let ws₁ : List ℕ = save ws sh (item x j item_object) o in let ws₂ : List ℕ = save ws₁ sh (item x j item_rights) r in
    let l₁ = length_save ws sh (item x j item_object) o in let l₂ = length_save ws₁ sh (item x j item_rights) r in
    fills_then ws ws₁ (save ws₂ sh (item x j item_flags) f) sh x (fills_item ws sh h x j item_object o)
    (fills_then ws₁ ws₂ (save ws₂ sh (item x j item_flags) f) sh x (fills_item ws₁ sh (omega (arith, l₁)) x j item_rights r) (fills_item ws₂ sh (omega (arith, l₁, l₂)) x j item_flags f))
