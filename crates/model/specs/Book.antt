-- The book: "rows, each an open reservation, an open claim, or a parcel of 1 to 64 loose handles, named by id"; and plans (document 02, 1).
use Rattle.std.specs.Prelude.{Bool, false, not, ◌||◌, List, [], ◌∷◌, ◌++◌, ℕ, ◌+◌, length, eqb, ltb}
use Rattle.std.proofs.Math.Option.{Option, none, some}
use Rattle.model.specs.Base.{pick}
use Rattle.model.specs.State.{Handle, Entry, Entry.moved, Entry.copied, Body, Body.reservation, Body.claim, Body.parcel, Body.plan, Row, State}
use Rattle.model.specs.State.{last_id}
use Rattle.model.specs.Change.{with_book}
use Rattle.model.specs.Objects.{with_rights}

abbrev pub find : ℕ → List Row → Option Body
find i [] = none
find i (r ∷ rs) = pick (eqb r.id i) (some r.body) (find i rs)

abbrev pub drop_id : ℕ → List Row → List Row
drop_id i [] = []
drop_id i (r ∷ rs) = pick (eqb r.id i) (drop_id i rs) (r ∷ drop_id i rs)

abbrev pub swap_id : ℕ → Body → List Row → List Row
swap_id i b [] = []
swap_id i b (r ∷ rs) = pick (eqb r.id i) (record { id = r.id; body = b } ∷ swap_id i b rs) (r ∷ swap_id i b rs)

-- a new row stands last, under the next id
abbrev pub add_row : Body → State → State
add_row b s = with_book s (record { rows = s.book.rows ++ (record { id = s.book.next; body = b } ∷ []); capacity = s.book.capacity; next = s.book.next + 1 })

abbrev pub drop_row : ℕ → State → State
drop_row i s = with_book s (record { rows = drop_id i s.book.rows; capacity = s.book.capacity; next = s.book.next })

abbrev pub drop_rows : List ℕ → State → State
drop_rows [] s = s
drop_rows (i ∷ is) s = drop_rows is (drop_row i s)

-- another body under the same id
abbrev pub swap_row : ℕ → Body → State → State
swap_row i b s = with_book s (record { rows = swap_id i b s.book.rows; capacity = s.book.capacity; next = s.book.next })

abbrev pub spend_id : State → State
spend_id s = with_book s (record { rows = s.book.rows; capacity = s.book.capacity; next = s.book.next + 1 })

abbrev pub free_row : State → Bool
free_row s = ltb (length s.book.rows) s.book.capacity

-- "ReservationIdExhausted: next id is 2^64 - 1"
abbrev pub id_left : State → Bool
id_left s = not (eqb s.book.next last_id)

-- whether a row is an open reservation or claim of a table: a plan is neither
abbrev pub opens_in : ℕ → Body → Bool
opens_in b (reservation c ks) = eqb b c
opens_in b (claim c es) = eqb b c
opens_in b (parcel hs) = false
opens_in b (plan c n w fs) = false

abbrev pub any_open : ℕ → List Row → Bool
any_open b [] = false
any_open b (r ∷ rs) = opens_in b r.body || any_open b rs

abbrev pub moved_of : List Entry → List ℕ
moved_of [] = []
moved_of (moved k h r ∷ es) = k ∷ moved_of es
moved_of (copied h ∷ es) = moved_of es

abbrev pub copies_of : List Entry → List Handle
copies_of [] = []
copies_of (moved k h r ∷ es) = copies_of es
copies_of (copied h ∷ es) = h ∷ copies_of es

-- what the receiver gets: the handle with the rights asked for
abbrev pub sent_of : Entry → Handle
sent_of (moved k h r) = with_rights h r
sent_of (copied h) = h
