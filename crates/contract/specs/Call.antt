-- The whole call over words, by a definition. That it meets document 01, if each request does and the state check is sound and complete, is `run_meets` of
-- proofs/Call.antt.
use Rattle.std.specs.Prelude.{Bool, ℕ, ◌*◌, ltb}
use mathlib.Core.List.{List, ◌++◌}
use Rattle.std.proofs.Math.Option.{Option, none, some}
use Rattle.std.proofs.Math.ListN.{length, take, drop}
use Rattle.words.specs.Pick.{pick}
use Rattle.format.specs.Format.{answer_words}
use Rattle.model.specs.Request.{Request}
use Rattle.model.specs.Words.{read_list}
use Rattle.layout.specs.declared.Shape.{Shape}
use Rattle.layout.specs.Layout.{total}
use Rattle.layout.specs.ShapeOf.{shape_of, on_shape}
use Rattle.answer.specs.Does.{Both}
use Rattle.contract.specs.Meets.{Called, called}
use Rattle.contract.specs.Run.{One, list_r}

abbrev pub done : Both → Called
done x = called 0 x.state x.answers

-- what a call on the state's words leaves, with the words past the end
abbrev pub past : Called → List ℕ → Called
past x rest = called x.result (x.state ++ rest) x.answers

module _ (one : One) (well : List ℕ → Shape → Bool) where
  -- "answer length 20"; "Then every request runs"
  abbrev pub requests_w : List ℕ → List ℕ → Shape → List ℕ → Option (List Request) → Called
  requests_w ws os sh list none = called 19 ws os
  requests_w ws os sh list (some rs) = pick (ltb (length os) (answer_words * length rs)) (called 20 ws os) (done (list_r one (length rs) ws os sh list 0 0))

  abbrev pub checked_w : List ℕ → List ℕ → List ℕ → Shape → Called
  checked_w ws list os sh = pick (well ws sh) (requests_w ws os sh list (read_list list)) (called 18 ws os)

  -- the call is on the state's words: those past the end are not lent on
  abbrev pub within_w : List ℕ → List ℕ → List ℕ → Shape → Called
  within_w ws list os sh = past (checked_w (take (total sh) ws) list os sh) (drop (total sh) ws)

  -- "Order: state check 18, list 19, answer length 20"
  unfoldable pub run_w : List ℕ → List ℕ → List ℕ → Called
  run_w ws list os = on_shape (shape_of ws) (called 18 ws os) (within_w ws list os)
