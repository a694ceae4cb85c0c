-- What a request names, in one table. Which lists the two runs may have, the ids one lower and the pages that a request needs follow from it; a new request adds its line to `names_of`.
use Rattle.std.specs.Prelude.{◌≡◌, refl, Bool, true, false, List, [], ◌∷◌, map, ℕ}
use Rattle.std.proofs.Math.Option.{Option, none, some}
use Rattle.model.specs.Request.{Item, Request, Request.new_object, Request.duplicate, Request.release_parcel, Request.retire_object, Request.reserve, Request.trim, Request.abort, Request.publish, Request.get_info, Request.resolve, Request.replace, Request.close, Request.scan_handles, Request.prepare_transfer, Request.prepare_consumption, Request.rollback, Request.commit, Request.direct_commit, Request.direct_rollback, Request.remove_stopping_owner, Request.teardown_start, Request.teardown_step, Request.teardown_finish, Request.take_empty_page, Request.make_plan, Request.use_plan, Request.drop_plan, Request.judge_transfer}

-- "A request names a number if a field of that kind in it or its items holds it"
pub record Names (r : Request) : Type 0 where
  -- reservation ids, and the same request with other ids: with its own it is itself
  pub ids : List ℕ
  pub renamed : List ℕ → Request
  pub itself : renamed ids ≡ r
  -- handle values, in a table (0 where it names none: then `values` is empty, so that nothing is named in table 0)
  pub table : ℕ
  pub values : List ℕ
  -- document 02, 2: whether it may name a value that is being moved, since it answers on one as it did before: `get_info` alone
  pub looks : Bool
  -- document 02, 4: whether it may stand only "where the held run has a free row and an id left": judging a transfer alone
  pub judges : Bool
  -- a table that it scans, starts to tear down or removes from for a stopping owner
  pub walked : Option ℕ
  -- a table and a number of slots that it needs pages for
  pub batch : Option (ℕ × ℕ)

-- ---- the parts of a line

abbrev first : List ℕ → ℕ
first [] = 0
first (i ∷ is) = i

abbrev rest : List ℕ → List ℕ
rest [] = []
rest (i ∷ is) = is

abbrev nothing : (r : Request) → Names r
nothing r = record { ids = []; renamed = λ js. r; itself = refl; table = 0; values = []; looks = false; judges = false; walked = none; batch = none }

abbrev an_id : (i : ℕ) (make : ℕ → Request) → Names (make i)
an_id i make = record { ids = i ∷ []; renamed = λ js. make (first js); itself = refl; table = 0; values = []; looks = false; judges = false; walked = none; batch = none }

abbrev two_ids : (i j : ℕ) (make : ℕ → ℕ → Request) → Names (make i j)
two_ids i j make = record { ids = i ∷ j ∷ []; renamed = λ js. make (first js) (first (rest js)); itself = refl; table = 0; values = []; looks = false; judges = false; walked = none; batch = none }

abbrev many_ids : (i : ℕ) (is : List ℕ) (make : ℕ → List ℕ → Request) → Names (make i is)
many_ids i is make = record { ids = i ∷ is; renamed = λ js. make (first js) (rest js); itself = refl; table = 0; values = []; looks = false; judges = false; walked = none; batch = none }

abbrev values_in : (b : ℕ) (vs : List ℕ) (r : Request) → Names r
values_in b vs r = record { ids = []; renamed = λ js. r; itself = refl; table = b; values = vs; looks = false; judges = false; walked = none; batch = none }

abbrev look_at_in : (b v : ℕ) (r : Request) → Names r
look_at_in b v r = record { ids = []; renamed = λ js. r; itself = refl; table = b; values = v ∷ []; looks = true; judges = false; walked = none; batch = none }

abbrev judges_in : (b : ℕ) (vs : List ℕ) (r : Request) → Names r
judges_in b vs r = record { ids = []; renamed = λ js. r; itself = refl; table = b; values = vs; looks = false; judges = true; walked = none; batch = none }

abbrev walk_of : (b : ℕ) (r : Request) → Names r
walk_of b r = record { ids = []; renamed = λ js. r; itself = refl; table = 0; values = []; looks = false; judges = false; walked = some b; batch = none }

abbrev slots_in : (b n : ℕ) (r : Request) → Names r
slots_in b n r = record { ids = []; renamed = λ js. r; itself = refl; table = 0; values = []; looks = false; judges = false; walked = none; batch = some (b, n) }

abbrev pub value_of : Item → ℕ
value_of q = q.value

-- ---- THE TABLE

abbrev pub names_of : (r : Request) → Names r
names_of (new_object o r f) = nothing (new_object o r f)
names_of (duplicate b v r) = values_in b (v ∷ []) (duplicate b v r)
names_of (release_parcel i) = an_id i λ j. release_parcel j
names_of (retire_object o) = nothing (retire_object o)
names_of (reserve b n) = slots_in b n (reserve b n)
names_of (trim i n) = an_id i λ j. trim j n
names_of (abort i) = an_id i λ j. abort j
names_of (publish i is) = many_ids i is λ j js. publish j js
names_of (get_info b v) = look_at_in b v (get_info b v)
names_of (resolve b v r kind) = values_in b (v ∷ []) (resolve b v r kind)
names_of (replace b v r) = values_in b (v ∷ []) (replace b v r)
names_of (close b v) = values_in b (v ∷ []) (close b v)
names_of (scan_handles b c) = walk_of b (scan_handles b c)
names_of (prepare_transfer b route o k qs) = values_in b (map value_of qs) (prepare_transfer b route o k qs)
names_of (prepare_consumption b v r kind koid) = values_in b (v ∷ []) (prepare_consumption b v r kind koid)
names_of (rollback i) = an_id i λ j. rollback j
names_of (commit i) = an_id i λ j. commit j
names_of (direct_commit i j) = two_ids i j λ k l. direct_commit k l
names_of (direct_rollback i j) = two_ids i j λ k l. direct_rollback k l
names_of (remove_stopping_owner b c) = walk_of b (remove_stopping_owner b c)
names_of (teardown_start b) = walk_of b (teardown_start b)
names_of (teardown_step b) = nothing (teardown_step b)
names_of (teardown_finish b) = nothing (teardown_finish b)
names_of (take_empty_page b) = nothing (take_empty_page b)
names_of (make_plan b n) = slots_in b n (make_plan b n)
names_of (use_plan i) = an_id i λ j. use_plan j
names_of (drop_plan i) = an_id i λ j. drop_plan j
names_of (judge_transfer b route o k qs) = judges_in b (map value_of qs) (judge_transfer b route o k qs)

-- a request with each of its ids changed
abbrev pub request_by : (ℕ → ℕ) → Request → Request
request_by f r = (names_of r).renamed (map f (names_of r).ids)
