-- How a request is decided: checks in a printed order, each with its number.
use Rattle.std.specs.Prelude.{Bool, true, false, not, ◌&&◌, List, [], ◌∷◌, ◌++◌, ℕ, ltb}
use Rattle.std.proofs.Math.Option.{Option, none, some}
use Rattle.model.specs.Base.{pick, member}
use Rattle.model.specs.State.{Handle, Lifecycle, Lifecycle.active, Lifecycle.tearing_down, Lifecycle.retired, Table, Object, Entry, Body, Body.reservation, Body.claim, Body.parcel, Body.plan, StorageSnapshot, Row, State}
use Rattle.model.specs.Request.{Fault, Answer}
use Rattle.model.specs.Book.{find}

-- A request is decided: refused with a number; refused after the id step of a transfer preparation; or accepted, with the state that it
-- leaves and its answer
pub data Decision : Type 0 where
  refusal : (number : ℕ) → Decision
  refusal_after_id : (number : ℕ) → Decision
  accept : State → Answer → Decision

infixr 5 leave◌answer◌
-- accepted: the state that is left, effect by effect, and the answer
abbrev pub leave◌answer◌ : State → Answer → Decision
leave◌answer◌ s a = accept s a

infixr 5 unless◌refuse◌then◌
-- a check: go on if it holds, else refuse with the number
abbrev pub unless◌refuse◌then◌ : Bool → ℕ → Decision → Decision
unless◌refuse◌then◌ true n d = d
unless◌refuse◌then◌ false n d = refusal n

infixr 5 when◌refuse◌then◌
-- the other way round: refuse with the number if the test holds, else go on
abbrev pub when◌refuse◌then◌ : Bool → ℕ → Decision → Decision
when◌refuse◌then◌ b n d = unless not b refuse n then d

infixr 5 unless◌leaving◌answering◌then◌
-- not a refusal: go on if the test holds, else leave the state and answer
abbrev pub unless◌leaving◌answering◌then◌ : Bool → State → Answer → Decision → Decision
unless◌leaving◌answering◌then◌ b s a d = pick b d (accept s a)

-- what a check finds is passed on to those behind it

infixr 5 given◌refuse◌then◌
-- what may be absent: go on with it, else refuse
abbrev pub given◌refuse◌then◌ {ℓ} : {A : Type ℓ} → Option A → ℕ → (A → Decision) → Decision
given◌refuse◌then◌ none n f = refusal n
given◌refuse◌then◌ (some a) n f = f a

infixr 5 table◌of◌refuse◌then◌
-- table b of a state, where the state has it
abbrev pub table◌of◌refuse◌then◌ : ℕ → State → ℕ → (Table → Decision) → Decision
table◌of◌refuse◌then◌ b s n f = unless ltb b s.table_count refuse n then f (s.tables b)

infixr 5 object◌of◌refuse◌then◌
-- object o of a state, where the state has it
abbrev pub object◌of◌refuse◌then◌ : ℕ → State → ℕ → (Object → Decision) → Decision
object◌of◌refuse◌then◌ o s n f = unless ltb o s.object_count refuse n then f (s.objects o)

-- an open row, if it is of the kind named

abbrev pub as_reservation : Option Body → ℕ → (ℕ → List ℕ → Decision) → Decision
as_reservation none n f = refusal n
as_reservation (some (reservation b ks)) n f = f b ks
as_reservation (some (claim b es)) n f = refusal n
as_reservation (some (parcel hs)) n f = refusal n
as_reservation (some (plan b c w fs)) n f = refusal n

abbrev pub as_claim : Option Body → ℕ → (ℕ → List Entry → Decision) → Decision
as_claim none n f = refusal n
as_claim (some (reservation b ks)) n f = refusal n
as_claim (some (claim b es)) n f = f b es
as_claim (some (parcel hs)) n f = refusal n
as_claim (some (plan b c w fs)) n f = refusal n

abbrev pub as_parcel : Option Body → Option (List Handle)
as_parcel none = none
as_parcel (some (reservation b ks)) = none
as_parcel (some (claim b es)) = none
as_parcel (some (parcel hs)) = some hs
as_parcel (some (plan b c w fs)) = none

abbrev pub as_plan : Option Body → ℕ → (ℕ → ℕ → StorageSnapshot → List ℕ → Decision) → Decision
as_plan none n f = refusal n
as_plan (some (reservation b ks)) n f = refusal n
as_plan (some (claim b es)) n f = refusal n
as_plan (some (parcel hs)) n f = refusal n
as_plan (some (plan b c w fs)) n f = f b c w fs

infixr 5 reservation_row◌of◌refuse◌then◌
-- the open reservation of an id: its table and its slots
abbrev pub reservation_row◌of◌refuse◌then◌ : ℕ → State → ℕ → (ℕ → List ℕ → Decision) → Decision
reservation_row◌of◌refuse◌then◌ i s n f = as_reservation (find i s.book.rows) n f

infixr 5 claim_row◌of◌refuse◌then◌
-- the open claim of an id: its table and its entries
abbrev pub claim_row◌of◌refuse◌then◌ : ℕ → State → ℕ → (ℕ → List Entry → Decision) → Decision
claim_row◌of◌refuse◌then◌ i s n f = as_claim (find i s.book.rows) n f

infixr 5 parcel_row◌of◌refuse◌then◌
-- the parcel of an id: its handles
abbrev pub parcel_row◌of◌refuse◌then◌ : ℕ → State → ℕ → (List Handle → Decision) → Decision
parcel_row◌of◌refuse◌then◌ i s n f = given as_parcel (find i s.book.rows) refuse n then f

infixr 5 plan_row◌of◌refuse◌then◌
-- the plan of an id: its table, its count, its kept snapshot and its frames
abbrev pub plan_row◌of◌refuse◌then◌ : ℕ → State → ℕ → (ℕ → ℕ → StorageSnapshot → List ℕ → Decision) → Decision
plan_row◌of◌refuse◌then◌ i s n f = as_plan (find i s.book.rows) n f

infixr 5 refuse_after_id◌then◌
-- "`prepare_transfer_with_storage` spends its id before it looks at any value": refuse with the number of a fault, if there is one, after the id step
abbrev pub refuse_after_id◌then◌ : Option Fault → Decision → Decision
refuse_after_id◌then◌ none d = d
refuse_after_id◌then◌ (some f) d = refusal_after_id f.number

infixr 5 teardown_cursor◌refuse◌then◌
-- the cursor of a table that is being torn down
abbrev pub teardown_cursor◌refuse◌then◌ : Lifecycle → ℕ → (ℕ → Decision) → Decision
teardown_cursor◌refuse◌then◌ active n f = refusal n
teardown_cursor◌refuse◌then◌ (tearing_down c) n f = f c
teardown_cursor◌refuse◌then◌ retired n f = refusal n

-- the handles of parcels, in order; none if one is unknown
abbrev pub joined : Option (List Handle) → Option (List Handle) → Option (List Handle)
joined none r = none
joined (some hs) none = none
joined (some hs) (some gs) = some (hs ++ gs)

abbrev pub handles_of : List ℕ → List Row → Option (List Handle)
handles_of [] rs = some []
handles_of (i ∷ is) rs = joined (as_parcel (find i rs)) (handles_of is rs)

-- no row named twice
abbrev pub distinct : List ℕ → Bool
distinct [] = true
distinct (i ∷ is) = not (member i is) && distinct is
