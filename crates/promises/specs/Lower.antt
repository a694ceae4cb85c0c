-- "Ids above the transfer's .. are one lower in P, in list, answers and state": of the words of a list and of the words of its answers.
-- What they read as is in proofs/Lower.antt. Assumes nothing.
use Rattle.std.specs.Prelude.{◌&&◌, List, [], ◌∷◌, ◌++◌, map, ℕ, get_or, take, drop, set, eqb}
use Rattle.format.specs.Format.{answer_words}
use Rattle.model.specs.Base.{pick}
use Rattle.model.specs.Request.{Request, Request.close, Request.rollback, Request.commit}
use Rattle.noninterference.specs.Runs.{lowered}
use Rattle.promises.specs.Ids.{ids_by}
use Rattle.promises.specs.Answers.{gives_id}

-- ---- lists

-- THE LIST with ids above t one lower: the words of its id and destination fields, items included; every other word stands as it is
abbrev pub lower_words : ℕ → List ℕ → List ℕ
lower_words t ws = ids_by (lowered t) ws

-- ---- the lists that end the runs

-- rollback and commit of the id t
abbrev pub rollback_words : ℕ → List ℕ
rollback_words t = 129 ∷ 16 ∷ t ∷ []

abbrev pub commit_words : ℕ → List ℕ
commit_words t = 129 ∷ 17 ∷ t ∷ []

-- closings of values in table b, one after the other
abbrev pub closing_words : ℕ → List ℕ → List ℕ
closing_words b [] = []
closing_words b (v ∷ vs) = (19 ∷ 12 ∷ b ∷ v ∷ []) ++ closing_words b vs

-- "then rolls that transfer back or commits it into a parcel"
pub data Ending : Type 0 where
  rolled_back : Ending
  committed : Ending

-- the words that end run H, and run P: "where H commits, then closes the moved values in the transfer's order"
abbrev pub end_h : Ending → (t : ℕ) → List ℕ
end_h rolled_back t = rollback_words t
end_h committed t = commit_words t

abbrev pub end_p : Ending → (table : ℕ) → (values : List ℕ) → List ℕ
end_p rolled_back b vs = []
end_p committed b vs = closing_words b vs

-- what they read as
abbrev pub last_h : Ending → ℕ → Request
last_h rolled_back t = rollback t
last_h committed t = commit t

abbrev pub last_p : Ending → ℕ → List ℕ → List Request
last_p rolled_back b vs = []
last_p committed b vs = map (close b) vs

-- ---- answers

-- THE 72 WORDS of a request's answer with ids above t one lower: word 1 of ops 1, 2, 5, 14, 15, 25 and 26, if word 0 is 0
abbrev pub lower_answer_of : ℕ → Request → List ℕ → List ℕ
lower_answer_of t r a = pick (eqb (get_or a 0 0) 0 && gives_id r) (set a 1 (lowered t (get_or a 1 0))) a

-- the words of the answers to a list
abbrev pub lower_answers : ℕ → List Request → List ℕ → List ℕ
lower_answers t [] os = os
lower_answers t (r ∷ rs) os = lower_answer_of t r (take answer_words os) ++ lower_answers t rs (drop answer_words os)
