-- The state check's tests of a plan: its fields, its pages and the frames that it holds. Each stands with the facts that it is equal to. Assumes nothing.
use Rattle.std.specs.Prelude.{◌≡◌, Bool, true, ◌&&◌, List, [], ◌∷◌, ℕ, zero, suc, ◌+◌, ◌-◌, ◌≤◌, ◌<◌, eqb, ltb, leb}
use Rattle.std.proofs.Common.{arith, eq-eqb, eqb-true, lt-ltb, ltb-true, le-leb, leb-true}
use Rattle.words.specs.Pick.{pick, both, both_is}
use Rattle.words.specs.All.{all, all_at, all_yes}
use Rattle.model.specs.Base.{sum}
use Rattle.model.specs.State.{till}
use Rattle.model.specs.Storage.{slots_of}
use Rattle.model.proofs.Bounds.{slots_max_law}
use Rattle.layout.specs.declared.Shape.{Shape}
use Rattle.layout.specs.Layout.{Mem, root, owner, index, row, item}
use Rattle.layout.specs.Fields.{root_used_rows, row_kind, row_table, row_length, row_count, item_page, item_frame, item_free_slots}
use Rattle.layout.specs.Values.{kind_plan}
use Rattle.layout.specs.Sizes.{pages_max, slots_max, batch_max, plan_owner}
use Rattle.ledger.specs.Items.{tests, passed, passes}

-- ---- a plan's pages and frames

-- how many slots are wanted before item j of the plan in place x: those of its count that are not free, less those of the pages before
abbrev pub want_at : Mem → ℕ → ℕ → ℕ
want_at m x zero = m (row x row_count) - m (item x 0 item_free_slots)
want_at m x (suc j) = want_at m x j - slots_of till (m (item x j item_page))

-- the lowest frame that item j may hold: one above the frame of the item before
abbrev pub low_at : Mem → ℕ → ℕ → ℕ
low_at m x zero = 0
low_at m x (suc j) = suc (m (item x j item_frame))

-- item j, before which so many slots are wanted, with a frame that is not below `low`
abbrev held_tests : Mem → Shape → ℕ → ℕ → ℕ → ℕ → List Bool
held_tests m sh x j want low =
    leb 1 want ∷ ltb (m (item x j item_page)) pages_max ∷ leb low (m (item x j item_frame)) ∷ ltb (m (item x j item_frame)) sh.frames
    ∷ eqb (m (owner (m (item x j item_frame)))) (plan_owner + x) ∷ []

unfoldable pub held_b : Mem → Shape → ℕ → ℕ → ℕ → ℕ → Bool
held_b m sh x j want low = tests (held_tests m sh x j want low)

pub record HeldOk (m : Mem) (sh : Shape) (x j want low : ℕ) : Type 0 where
  pub wanted : 1 ≤ want
  pub page : m (item x j item_page) < pages_max
  pub above : low ≤ m (item x j item_frame)
  pub frame : m (item x j item_frame) < sh.frames
  pub owner : m (owner (m (item x j item_frame))) ≡ plan_owner + x

pub held_is : (m : Mem) (sh : Shape) (x j want low : ℕ) → held_b m sh x j want low ≡ true → HeldOk m sh x j want low
unfolding held_b
held_is m sh x j want low e = let p = passed (held_tests m sh x j want low) e in record {
  wanted = leb-true 1 want p.0;
  page = ltb-true (m (item x j item_page)) pages_max p.1.0;
  above = leb-true low (m (item x j item_frame)) p.1.1.0;
  frame = ltb-true (m (item x j item_frame)) sh.frames p.1.1.1.0;
  owner = eqb-true (m (owner (m (item x j item_frame)))) (plan_owner + x) p.1.1.1.1.0;
}

pub held_yes : (m : Mem) (sh : Shape) (x j want low : ℕ) → HeldOk m sh x j want low → held_b m sh x j want low ≡ true
unfolding held_b
held_yes m sh x j want low h = passes (held_tests m sh x j want low) (
  le-leb 1 want h.wanted,
  (
    lt-ltb (m (item x j item_page)) pages_max h.page,
    (
      le-leb low (m (item x j item_frame)) h.above,
      (lt-ltb (m (item x j item_frame)) sh.frames h.frame, (eq-eqb (m (owner (m (item x j item_frame)))) (plan_owner + x) h.owner, tt)),
    ),
  ),
)

-- item j, after those before it
abbrev pub item_held_b : Mem → Shape → ℕ → ℕ → Bool
item_held_b m sh x j = held_b m sh x j (want_at m x j) (low_at m x j)

-- n items, after which no slot is wanted
unfoldable pub pages_b : Mem → Shape → ℕ → ℕ → Bool
pages_b m sh x n = all n (item_held_b m sh x) && eqb (want_at m x n) 0

-- ---- a plan

-- with n pages
abbrev plan_tests : Mem → Shape → ℕ → ℕ → List Bool
plan_tests m sh x n =
    ltb (m (row x row_table)) sh.tables ∷ leb 1 (m (row x row_count)) ∷ leb (m (row x row_count)) batch_max ∷ leb (m (item x 0 item_free_slots)) slots_max ∷ pages_b m sh x n ∷ []

unfoldable pub plan_b : Mem → Shape → ℕ → ℕ → Bool
plan_b m sh x n = tests (plan_tests m sh x n)

pub record PlanOk (m : Mem) (sh : Shape) (x n : ℕ) : Type 0 where
  pub table : m (row x row_table) < sh.tables
  pub some_count : 1 ≤ m (row x row_count)
  pub few_count : m (row x row_count) ≤ batch_max
  pub free : m (item x 0 item_free_slots) ≤ slots_max
  pub items : (j : ℕ) → j < n → HeldOk m sh x j (want_at m x j) (low_at m x j)
  pub enough : want_at m x n ≡ 0

pub plan_is : (m : Mem) (sh : Shape) (x n : ℕ) → plan_b m sh x n ≡ true → PlanOk m sh x n
unfolding plan_b pages_b
plan_is m sh x n e =
    let p = passed (plan_tests m sh x n) e in let q = both (all n (item_held_b m sh x)) (eqb (want_at m x n) 0) p.1.1.1.1.0 in
    record {
      table = ltb-true (m (row x row_table)) sh.tables p.0;
      some_count = leb-true 1 (m (row x row_count)) p.1.0;
      few_count = leb-true (m (row x row_count)) batch_max p.1.1.0;
      free = leb-true (m (item x 0 item_free_slots)) slots_max p.1.1.1.0;
      items = λ j h. held_is m sh x j (want_at m x j) (low_at m x j) (all_at n (item_held_b m sh x) q.0 j h);
      enough = eqb-true (want_at m x n) 0 q.1;
    }

pub plan_yes : (m : Mem) (sh : Shape) (x n : ℕ) → PlanOk m sh x n → plan_b m sh x n ≡ true
unfolding plan_b pages_b
plan_yes m sh x n p = passes (plan_tests m sh x n) (
  lt-ltb (m (row x row_table)) sh.tables p.table,
  (
    le-leb 1 (m (row x row_count)) p.some_count,
    (
      le-leb (m (row x row_count)) batch_max p.few_count,
      (
        le-leb (m (item x 0 item_free_slots)) slots_max p.free,
        (
          both_is (all n (item_held_b m sh x)) (eqb (want_at m x n) 0)
              (all_yes n (item_held_b m sh x) (λ j h. held_yes m sh x j (want_at m x j) (low_at m x j) (p.items j h)))
              (eq-eqb (want_at m x n) 0 p.enough),
          tt,
        ),
      ),
    ),
  ),
)

-- each page makes room: a plan has no more pages than slots that are wanted
pub want_less : (m : Mem) (x n : ℕ) → ((j : ℕ) → j < n → (1 ≤ want_at m x j) × (m (item x j item_page) < pages_max)) → want_at m x n + n ≤ want_at m x 0
want_less m x zero h = omega arith
want_less m x (suc n) h = let k = h n (omega arith) in omega (arith, want_less m x n (λ j l. h j (omega arith)), k.0, k.1, slots_max_law)

-- ---- how many frames are held

-- by the row in place x
abbrev pub held_in : Mem → ℕ → ℕ
held_in m x = pick (eqb (m (row x row_kind)) kind_plan) (m (row x row_length)) 0

-- by the first n rows, by rank
abbrev pub held_to : Mem → ℕ → ℕ
held_to m n = sum n λ i. held_in m (m (index i))

-- by all rows in use
abbrev pub held_frames : Mem → ℕ
held_frames m = held_to m (m (root root_used_rows))
