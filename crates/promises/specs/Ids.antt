-- The words of a list of requests with its ids changed by a function. That they read as the requests so changed is `reads_by` of proofs/Ids.antt. Assumes nothing.
use Rattle.std.specs.Prelude.{Bool, true, false, ◌||◌, eqb}
use mathlib.Core.List.{List, [], ◌∷◌}
use Prim.Native.Nat.{ℕ, zero, suc, ◌/◌}
use Rattle.format.specs.Fields.{id_field, destination_field}
use Rattle.format.specs.Format.{field_count}
use Rattle.model.specs.Base.{pick}
use Rattle.model.specs.Words.{odd}

-- ---- the words

-- docs/formats.md, "Fields of a record": the fields that are reservation ids
abbrev pub is_id : ℕ → Bool
is_id k = eqb k id_field || eqb k destination_field

-- k in front of a list, or not
abbrev pub put_if : Bool → ℕ → List ℕ → List ℕ
put_if true k ks = k ∷ ks
put_if false k ks = ks

-- which of the n bits from k on stand in a map, the lowest first; the rest is named once, so that a computation of it goes n steps
abbrev pub standing : ℕ → ℕ → ℕ → List ℕ
standing zero k m = []
standing (suc n) k m = put_if (odd m) k (standing n (suc k) (m / 2))

-- a list's words, of whose first record the fields `ks` are still to come: "A record is a bit map, then only the fields whose bit stands,
-- lowest bit first". The words of ids are changed, and no others
abbrev pub changed : (ℕ → ℕ) → List ℕ → List ℕ → List ℕ
changed f [] [] = []
changed f [] (m ∷ ws) = m ∷ changed f (standing field_count 0 m) ws
changed f (k ∷ ks) [] = []
changed f (k ∷ ks) (w ∷ ws) = pick (is_id k) (f w) w ∷ changed f ks ws

-- THE WORDS of a list with its ids changed: a record or nothing begins it
abbrev pub ids_by : (ℕ → ℕ) → List ℕ → List ℕ
ids_by f ws = changed f [] ws
