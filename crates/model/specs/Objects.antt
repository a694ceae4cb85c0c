-- Objects, "read and updated by number": document 01, "Added by us".
use Rattle.std.specs.Prelude.{Bool, true, false, List, [], ◌∷◌, ℕ, ◌+◌, ◌-◌, eqb, ltb}
use Rattle.model.specs.Base.{pick, put}
use Rattle.model.specs.State.{Handle, Stage, Stage.still_new, Stage.now_active, Stage.now_retired, Object, State}
use Rattle.model.specs.Change.{with_objects}
use Rattle.model.specs.Request.{Info}

abbrev pub with_count : Object → Stage → ℕ → Object
with_count x g n = record { koid = x.koid; kind = x.kind; class = x.class; supported = x.supported; exportable = x.exportable; limit = x.limit; stage = g; count = n }

abbrev pub is_now_active : Stage → Bool
is_now_active still_new = false
is_now_active now_active = true
is_now_active now_retired = false

abbrev pub is_now_retired : Stage → Bool
is_now_retired still_new = false
is_now_retired now_active = false
is_now_retired now_retired = true

-- "limit reached"; "when count equals limit"
abbrev pub limit_reached : Object → Bool
limit_reached x = eqb x.count x.limit

-- activation: "else count 1"
abbrev pub activated : Object → Object
activated x = with_count x now_active 1

-- one handle more
abbrev pub raise : Object → Object
raise x = with_count x x.stage (x.count + 1)

-- one handle fewer: "Falling to count 0 retires the object"
abbrev pub lower : Object → Object
lower x = with_count x (pick (ltb 1 x.count) x.stage now_retired) (x.count - 1)

-- "Its owner may retire it by a request accepted in any state"
abbrev pub retired_by_owner : Object → Object
retired_by_owner x = with_count x now_retired x.count

-- one record changed, "read and updated by number"
abbrev pub change : (Object → Object) → (ℕ → Object) → ℕ → ℕ → Object
change f os o = put os o (f (os o))

-- the counts of a list of handles raised or released
abbrev pub change_all : (Object → Object) → List Handle → (ℕ → Object) → ℕ → Object
change_all f [] os = os
change_all f (h ∷ hs) os = change_all f hs (change f os h.object)

abbrev pub release : State → List Handle → State
release s hs = with_objects s (change_all lower hs s.objects)

abbrev pub info_for : State → Handle → Info
info_for s h = record { koid = (s.objects h.object).koid; kind = (s.objects h.object).kind; rights = h.rights; flags = h.flags }

abbrev pub with_rights : Handle → ℕ → Handle
with_rights h r = record { object = h.object; rights = r; flags = h.flags }
