-- The words of an answer: which have an id, and which numbers there are. Assumes nothing.
use Rattle.std.specs.Prelude.{Bool, true, ◌||◌, ℕ, eqb}
use Rattle.std.proofs.Math.Bool.{false}
use mathlib.Core.List.{[], ◌∷◌}
use Rattle.model.specs.Base.{member, at_most}
use Rattle.model.specs.Request.{Answer, Answer.refused, Answer.done, Answer.opened, Answer.batch, Answer.info_of, Answer.resolved, Answer.renewed, Answer.scanned, Answer.removed, Answer.closed, Answer.taken, Answer.planned, Answer.judged}
use Rattle.model.specs.Request.{Request}
use Rattle.format.specs.Ops.{op_new_object, op_duplicate, op_reserve, op_prepare_transfer, op_prepare_consumption, op_make_plan, op_use_plan}
use Rattle.contract.specs.Ops.{op_of}

-- docs/formats.md, "Answers": word 1 of an answer is an id for ops 1, 2, 5, 14, 15, 25 and 26
abbrev pub gives_id : Request → Bool
gives_id r = member (op_of r) (op_new_object ∷ op_duplicate ∷ op_reserve ∷ op_prepare_transfer ∷ op_prepare_consumption ∷ op_make_plan ∷ op_use_plan ∷ [])

-- ---- which answers have an id

abbrev pub has_id : Answer → Bool
has_id (refused n) = false
has_id done = false
has_id (opened i) = true
has_id (batch i vs) = true
has_id (info_of x) = false
has_id (resolved o koid r) = false
has_id (renewed v) = false
has_id (scanned p) = false
has_id (removed x c) = false
has_id (closed x) = false
has_id (taken p) = false
has_id (planned i n m) = true
has_id (judged x) = false

-- the numbers that a request answers: 0 to 18, and 21 (document 02, 1)
abbrev pub is_number : ℕ → Bool
is_number n = at_most n 18 || eqb n 21
