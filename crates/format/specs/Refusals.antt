-- The number of each refusal: document 01, "The request list", and 21 of document 02, 1. Assumes nothing.
use Rattle.std.specs.Prelude.{ℕ, Result, Ok, Err}
use Rattle.format.specs.declared.refusal.Refusal.{Refusal}
use Rattle.format.specs.declared.refusal.Refusal.TheVariants.{Allocation, InvalidHandle, Busy, WrongObjectType, AccessDenied, UnsupportedRights, UnsupportedFlags, UnsupportedTransfer, ObjectRetired, ObjectAlreadyActive, ActiveHandleLimit, ReservationIdExhausted, ReservationTooLarge, OutstandingReservation, TableFull, TableRetired, EmptyReservation, Misuse, Malformed, AnswerShort, StalePlan}

-- "Where an answer is an enum, a definition gives this paper's number and values for each of its cases."
abbrev pub number : Refusal → ℕ
number Allocation = 1
number InvalidHandle = 2
number Busy = 3
number WrongObjectType = 4
number AccessDenied = 5
number UnsupportedRights = 6
number UnsupportedFlags = 7
number UnsupportedTransfer = 8
number ObjectRetired = 9
number ObjectAlreadyActive = 10
number ActiveHandleLimit = 11
number ReservationIdExhausted = 12
number ReservationTooLarge = 13
number OutstandingReservation = 14
number TableFull = 15
number TableRetired = 16
number EmptyReservation = 17
number Misuse = 18
number Malformed = 19
number AnswerShort = 20
number StalePlan = 21

-- 0 where there is no refusal
abbrev pub number_of : {A : Type 0} → Result A Refusal → ℕ
number_of (Ok a) = 0
number_of (Err e) = number e
