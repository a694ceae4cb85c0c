-- Runs H and P of document 01: which lists are meant, and ids one lower.
use Rattle.std.specs.Prelude.{Bool, true, false, not, ◌&&◌, ◌||◌, List, [], ◌∷◌, map, ℕ, ◌-◌, length, eqb, ltb}
use Rattle.std.proofs.Math.Option.{Option, none, some}
use Rattle.model.specs.Base.{pick, or_else, at_most, bans, every, member}
use Rattle.model.specs.State.{Sizes, Slot, Slot.absent, Slot.vacant, Slot.reserved, Slot.transfer_reserved, Slot.occupied, Table, Row, Book, State}
use Rattle.model.specs.Storage.{pages_for}
use Rattle.model.specs.Transfer.{is_copy}
use Rattle.model.specs.Book.{free_row, id_left}
use Rattle.model.specs.Step.{step}
use Rattle.model.specs.Request.{Item}
use Rattle.model.specs.Request.{Answer, Answer.refused, Answer.done, Answer.opened, Answer.batch, Answer.info_of, Answer.resolved, Answer.renewed, Answer.scanned, Answer.removed, Answer.closed, Answer.taken, Answer.planned, Answer.judged}
use Rattle.model.specs.Request.{Request}
use Rattle.noninterference.specs.Names.{names_of, request_by}

-- "a transfer of moves only"
abbrev pub is_move : Item → Bool
is_move q = not (is_copy q.operation)

-- what a request names, by the table `names_of`

-- a reservation id
abbrev pub names_id : ℕ → Request → Bool
names_id t r = member t (names_of r).ids

-- a handle value, in a table
abbrev pub names_value : (table value : ℕ) → Request → Bool
names_value b v r = eqb (names_of r).table b && member v (names_of r).values

-- document 02, 2: "the list may now hold `get_info` on moved values"; every other naming of one is barred
abbrev pub uses_value : (table value : ℕ) → Request → Bool
uses_value b v r = not (names_of r).looks && names_value b v r

-- "neither scans, starts tearing down nor removes for a stopping owner there"
abbrev pub walks : (table : ℕ) → Request → Bool
walks b r = bans (names_of r).walked b

-- "The list names neither those values in that table nor that transfer's id, and neither scans .. there", but for `get_info` on the values
unfoldable pub permitted : (id table : ℕ) → (values : List ℕ) → Request → Bool
permitted t b vs r = not (names_id t r) && (every (λ v. not (uses_value b v r)) vs && not (walks b r))

-- "It wants a row if it gives 1 with frames enough for the pages it needs, an id if it gives 12"
abbrev pub gives : ℕ → Answer → Bool
gives n (refused m) = eqb n m
gives n done = false
gives n (opened i) = false
gives n (batch i vs) = false
gives n (info_of i) = false
gives n (resolved o k r) = false
gives n (renewed v) = false
gives n (scanned p) = false
gives n (removed o c) = false
gives n (closed o) = false
gives n (taken p) = false
gives n (planned i k m) = false
gives n (judged x) = false

-- "the pages it needs"
abbrev pub pages_of : Sizes → State → Option (ℕ × ℕ) → ℕ
pages_of z s none = 0
pages_of z s (some q) = length (or_else (pages_for z (s.tables q.0) q.1) [])

abbrev pub pages_needed : Sizes → State → Request → ℕ
pages_needed z s r = pages_of z s (names_of r).batch

unfoldable pub wants_row : Sizes → State → Request → Bool
wants_row z s r = gives 1 (step z s r).1 && at_most (pages_needed z s r) (length s.frames)

unfoldable pub wants_id : Sizes → State → Request → Bool
wants_id z s r = gives 12 (step z s r).1

-- document 02, 4: judging "may stand in the held and plain runs' list where the held run has a free row and an id left"; whether a request judges where it has not
unfoldable pub judges_full : State → Request → Bool
judges_full s r = (names_of r).judges && not (free_row s && id_left s)

-- whether a run refuses something for want of a row or an id, or judges where none is left
abbrev pub wanting : Sizes → State → List Request → Bool
wanting z s [] = false
wanting z s (r ∷ rs) = let u : State = (step z s r).0 in (wants_row z s r || wants_id z s r) || (judges_full s r || wanting z u rs)

-- "Accepted means 0": a refusal's number is never 0
abbrev pub accepted : Answer → Bool
accepted (refused n) = false
accepted done = true
accepted (opened i) = true
accepted (batch i vs) = true
accepted (info_of i) = true
accepted (resolved o k r) = true
accepted (renewed v) = true
accepted (scanned p) = true
accepted (removed o c) = true
accepted (closed o) = true
accepted (taken p) = true
accepted (planned i k m) = true
accepted (judged x) = true

-- "Ids above the transfer's, the next id included, are one lower in P, in list, answers and state"
unfoldable pub lowered : ℕ → ℕ → ℕ
lowered t i = pick (ltb t i) (i - 1) i

abbrev pub lower_request : ℕ → Request → Request
lower_request t r = request_by (lowered t) r

abbrev pub lower_answer : ℕ → Answer → Answer
lower_answer t (refused n) = refused n
lower_answer t done = done
lower_answer t (opened i) = opened (lowered t i)
lower_answer t (batch i vs) = batch (lowered t i) vs
lower_answer t (info_of i) = info_of i
lower_answer t (resolved o k r) = resolved o k r
lower_answer t (renewed v) = renewed v
lower_answer t (scanned p) = scanned p
lower_answer t (removed o c) = removed o c
lower_answer t (closed o) = closed o
lower_answer t (taken p) = taken p
lower_answer t (planned i n m) = planned (lowered t i) n m
lower_answer t (judged x) = judged x

abbrev pub lower_slot : ℕ → Slot → Slot
lower_slot t absent = absent
lower_slot t (vacant g) = vacant g
lower_slot t (reserved g i) = reserved g (lowered t i)
lower_slot t (transfer_reserved g i) = transfer_reserved g (lowered t i)
lower_slot t (occupied g h) = occupied g h

-- a table with other slots
abbrev pub with_slots : Table → (ℕ → Slot) → Table
with_slots x f = record {
  limit = x.limit;
  mask = x.mask;
  life = x.life;
  epoch = x.epoch;
  size = x.size;
  pages = x.pages;
  slots = f;
  free = x.free;
  empty = x.empty;
  detached = x.detached;
}

abbrev pub lower_table : ℕ → Table → Table
lower_table t x = with_slots x λ k. lower_slot t (x.slots k)

abbrev pub lower_row : ℕ → Row → Row
lower_row t r = record { id = lowered t r.id; body = r.body }

abbrev pub lower_book : ℕ → Book → Book
lower_book t k = record { rows = map (lower_row t) k.rows; capacity = k.capacity; next = lowered t k.next }

abbrev pub lower_state : ℕ → State → State
lower_state t s = record {
  table_count = s.table_count;
  tables = λ b. lower_table t (s.tables b);
  object_count = s.object_count;
  objects = s.objects;
  frame_count = s.frame_count;
  frames = s.frames;
  book = lower_book t s.book;
}
