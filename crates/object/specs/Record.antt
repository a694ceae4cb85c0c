-- An object's record, and the steps on it by value. Assumes nothing.
use Rattle.std.specs.Prelude.{◌≡◌, List, ℕ, ◌-◌, ltb, length, get_or, set}
use Rattle.words.specs.Pick.{pick}
use Rattle.storage.specs.Ops.{up}
use Rattle.object.specs.declared.ObjectRecord.{ObjectRecord}
use Rattle.layout.specs.Values.{stage_active, stage_retired}

-- another stage and count
abbrev pub with_count : ObjectRecord → ℕ → ℕ → ObjectRecord
with_count x g n = record x { stage = g; count = n }

-- activation: "else count 1"
abbrev pub activated_by : ObjectRecord → ObjectRecord
activated_by x = with_count x stage_active 1

-- one handle more; the largest word stays
abbrev pub raised_by : ObjectRecord → ObjectRecord
raised_by x = with_count x x.stage (up x.count)

-- one handle fewer: "Falling to count 0 retires the object"
abbrev pub lowered_by : ObjectRecord → ObjectRecord
lowered_by x = with_count x (pick (ltb 1 x.count) x.stage stage_retired) (x.count - 1)

-- "Its owner may retire it by a request accepted in any state"
abbrev pub retired_by : ObjectRecord → ObjectRecord
retired_by x = with_count x stage_retired x.count

-- "Object records are a lent list, read and updated by number"

abbrev pub no_record : ObjectRecord
no_record = record { koid = record { 0 = 0 }; kind = 0; class = 0; supported = 0; exportable = 0; stage = 0; count = 0; limit = 0 }

-- what a step makes of record i of a list; nothing past its end
unfoldable pub list_by : (ObjectRecord → ObjectRecord) → List ObjectRecord → ℕ → List ObjectRecord
list_by f xs i = pick (ltb i (length xs)) (set xs i (f (get_or xs i no_record))) xs

-- so for a step of which only its contract is known, a relation of the record before and after
abbrev pub Stepped : (ObjectRecord → ObjectRecord → Type 0) → List ObjectRecord → List ObjectRecord → ℕ → Type 0
Stepped P xs ys i = (f : ObjectRecord → ObjectRecord) → ((x y : ObjectRecord) → P x y → y ≡ f x) → ys ≡ list_by f xs i

-- what it answers; 0 past the end
abbrev pub answer_by : (ObjectRecord → ℕ) → List ObjectRecord → ℕ → ℕ
answer_by code xs i = pick (ltb i (length xs)) (code (get_or xs i no_record)) 0

abbrev pub count_in : ObjectRecord → ℕ
count_in x = x.count
