-- Document 02, 3: "write the handles from their rows straight into the slots, with no buffer or array of handles between." Publish and direct commit as the code does them: row by row and
-- handle by handle. Each handle is read from its row in the state that the handles before it have left, and its slot from the reservation's row in that state; no list of handles is made.
-- The steps of document 01 (crates/model/specs/Step.antt: `publish_of`, `direct_commit_of`) gather a batch of handles (`handles_of`, `map sent_of`) and then lay it into the slots (`fill_all`).
-- That both are equal, on every state and request, refusals included, is proofs/Same.antt. Letters as in Step.antt; p the place of a slot in its row, q that of a handle in its row, n how many.
use Rattle.std.specs.Prelude.{Bool, false, ◌&&◌, List, [], ◌∷◌, ℕ, zero, suc, ◌+◌, ◌-◌, length, eqb}
use Rattle.std.proofs.Math.Option.{Option, none, some}
use Rattle.model.specs.Base.{at_most, nth}
use Rattle.model.specs.State.{Sizes, Handle, Slot.occupied, Entry, Body, Body.reservation, Body.claim, Body.parcel, Body.plan, Row, State}
use Rattle.model.specs.Storage.{keep, vacate_all}
use Rattle.model.specs.Request.{Answer, Answer.done, Request, Request.publish, Request.direct_commit}
use Rattle.model.specs.Book.{find, moved_of, sent_of}
use Rattle.model.specs.Effect.{◌setting_table◌to◌, ◌ending◌, ◌ending_all◌}
use Rattle.model.specs.Decision.{Decision, leave◌answer◌, unless◌refuse◌then◌, reservation_row◌of◌refuse◌then◌, claim_row◌of◌refuse◌then◌, as_parcel, distinct}
use Rattle.model.specs.Step.{decide, carry}

-- ---- what the code reads of a row, one at a time

-- the number of slot p of a reservation
abbrev pub slot_in : Option Body → ℕ → Option ℕ
slot_in none p = none
slot_in (some (reservation b ks)) p = nth ks p
slot_in (some (claim b es)) p = none
slot_in (some (parcel hs)) p = none
slot_in (some (plan b n w fs)) p = none

-- what the receiver gets of an entry, if there is one
abbrev pub sent_in : Option Entry → Option Handle
sent_in none = none
sent_in (some e) = some (sent_of e)

-- handle q: of a parcel, or what the receiver gets of a claim
abbrev pub handle_in : Option Body → ℕ → Option Handle
handle_in none q = none
handle_in (some (reservation b ks)) q = none
handle_in (some (claim b es)) q = sent_in (nth es q)
handle_in (some (parcel hs)) q = nth hs q
handle_in (some (plan b n w fs)) q = none

-- how many handles a parcel has
abbrev pub count_in : Option Body → ℕ
count_in none = 0
count_in (some (reservation b ks)) = 0
count_in (some (claim b es)) = 0
count_in (some (parcel hs)) = length hs
count_in (some (plan b n w fs)) = 0

-- ---- handle by handle

module _ (z : Sizes) where
  -- one handle into one slot of table b
  unfoldable pub lay : State → (table_number : ℕ) → Option ℕ → Option Handle → State
  lay s b none h = s
  lay s b (some k) none = s
  lay s b (some k) (some h) = s setting_table b to keep z (λ g. occupied g h) (s.tables b) k

  -- into the slots of reservation i of table b, from its slot p on, n handles of row j, from its handle q on
  abbrev pub lay_row : State → (table_number reservation p row q n : ℕ) → State
  lay_row s b i p j q zero = s
  lay_row s b i p j q (suc n) = lay_row (lay s b (slot_in (find i s.book.rows) p) (handle_in (find j s.book.rows) q)) b i (suc p) j (suc q) n

  -- the parcels of a list, one behind the other
  abbrev pub lay_rows : State → (table_number reservation p : ℕ) → List ℕ → State
  lay_rows s b i p [] = s
  lay_rows s b i p (j ∷ js) = let n : ℕ = count_in (find j s.book.rows) in lay_rows (lay_row s b i p j 0 n) b i (p + n) js

-- whether each of a list is a parcel and they have n handles: counted row by row
abbrev pub fits_then : Option (List Handle) → ℕ → (ℕ → Bool) → Bool
fits_then none n rest = false
fits_then (some hs) n rest = at_most (length hs) n && rest (n - length hs)

abbrev pub parcels_fit : List Row → List ℕ → ℕ → Bool
parcels_fit rs [] n = eqb n 0
parcels_fit rs (j ∷ js) n = fits_then (as_parcel (find j rs)) n (parcels_fit rs js)

-- ---- the requests

module _ (z : Sizes) where
  -- "Publish names a reservation and one or more parcels, whose handles in order fill its slots"; "row named twice; lengths differ": 18. The lengths are tested first, as in the code
  unfoldable pub publish_straight : State → (id : ℕ) → (parcels : List ℕ) → Decision
  publish_straight s i is =
      reservation_row i of s refuse 18 then λ b ks.
      unless parcels_fit s.book.rows is (length ks) refuse 18 then
      unless distinct is refuse 18 then
      leave lay_rows z s b i 0 is
      ending i
      ending_all is
      answer done

  -- a claim's handles straight into a reservation, of one table or two
  unfoldable pub direct_commit_straight : State → (id destination : ℕ) → Decision
  direct_commit_straight s i j =
      claim_row i of s refuse 18 then λ b es.
      reservation_row j of s refuse 18 then λ c ks.
      unless eqb (length es) (length ks) refuse 18 then
      leave lay_row z (s setting_table b to vacate_all z (moved_of es) (s.tables b)) c j 0 i 0 (length es)
      ending i
      ending j
      answer done

  -- each request; the others as in document 01
  unfoldable pub decide_straight : State → Request → Decision
  decide_straight s (publish i is) = publish_straight s i is
  decide_straight s (direct_commit i j) = direct_commit_straight s i j
  decide_straight s r = decide z s r

  unfoldable pub step_straight : State → Request → State × Answer
  step_straight s r = carry z s (decide_straight s r)

  -- "Then every request runs"
  abbrev pub run_straight : State → List Request → State × List Answer
  run_straight s [] = (s, [])
  run_straight s (r ∷ rs) =
      let o : State × Answer = step_straight s r in
      let p : State × List Answer = run_straight o.0 rs in
      (p.0, o.1 ∷ p.1)
