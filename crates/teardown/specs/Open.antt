-- The walk over the rows finds an open reservation or claim of a table where the book has one. Assumes nothing.
use Rattle.std.specs.Prelude.{◌≡◌, refl, Bool, true, false, ◌||◌, List, [], ◌∷◌, ℕ, zero, suc, ◌+◌, length}
use Rattle.std.specs.List.{list_any, range_with_len}
use Rattle.std.proofs.Common.{sym, ap, ◌∙◌, arith}
use Rattle.words.specs.Pick.{pick}
use Rattle.model.specs.State.{Body, Body.reservation, Body.claim, Body.parcel, Body.plan, Row, State}
use Rattle.model.specs.Book.{opens_in, any_open}
use Rattle.layout.specs.declared.Shape.{Shape}
use Rattle.layout.specs.Layout.{Mem, index}
use Rattle.representation.specs.Represents.{BodyIs, RowsAre, Represents}
use Rattle.book.specs.Ops.{used_of}
use Rattle.book.specs.Find.{Fits}
use Rattle.teardown.specs.Ops.{opens_at, open_from, open_in}

-- what a row's words 1 and 2 tell
body_tells : (m : Mem) (b x : ℕ) (y : Body) → BodyIs m x y → opens_at m b x ≡ opens_in b y
unfolding opens_at
body_tells m b x (reservation c ks) i = rw (i.0, i.1)
body_tells m b x (claim c es) i = rw (i.0, i.1)
body_tells m b x (parcel hs) i = rw i.0
body_tells m b x (plan c n w fs) i = rw i.kind

or_is : (p q : Bool) → pick p true q ≡ (p || q)
or_is true q = refl
or_is false q = refl

-- the walk, as a test of each of n ranks
pub any_by : (m : Mem) (b i n : ℕ) → list_any (λ j. opens_at m b (m (index j))) (range_with_len i n) ≡ open_from m b i n
any_by m b i zero = refl
any_by m b i (suc n) = let z : i + 1 ≡ suc i = omega arith in
    rw z (ap (λ (p : Bool). opens_at m b (m (index i)) || p) (any_by m b (suc i) n) ∙ sym (or_is (opens_at m b (m (index i))) (open_from m b (suc i) n)))

rows_tell : (m : Mem) (b i : ℕ) (rs : List Row) → RowsAre m i rs → open_from m b i (length rs) ≡ any_open b rs
rows_tell m b i [] q = refl
rows_tell m b i (r ∷ rs) q =
    or_is (opens_at m b (m (index i))) (open_from m b (suc i) (length rs))
    ∙ rw (body_tells m b (m (index i)) r.body q.1, rows_tell m b (suc i) rs q.2)

-- THE BOOK'S open rows
pub open_is : (sh : Shape) (m : Mem) (s : State) → Represents sh m s → Fits s → (b : ℕ) → open_in m sh b ≡ any_open b s.book.rows
unfolding open_in
open_is sh m s r f b =
    let used : used_of m sh ≡ length s.book.rows = omega (arith, r.book.used, r.capacity, f.room) in
    ap (open_from m b 0) used ∙ rows_tell m b 0 s.book.rows r.book.rows
