-- Effects read from the top down: each stands behind the state that it changes.
use Rattle.std.specs.Prelude.{List, ℕ}
use Rattle.model.specs.State.{Handle, Table, Object, Body, State}
use Rattle.model.specs.Change.{with_table, with_objects, with_frames}
use Rattle.model.specs.Objects.{raise, change, change_all, release}
use Rattle.model.specs.Book.{add_row, drop_row, drop_rows, swap_row}

infixl 4 ◌setting_table◌to◌ ◌setting_frames◌ ◌changing◌by◌ ◌raising◌ ◌releasing◌ ◌opening◌ ◌ending◌ ◌ending_all◌ ◌turning◌into◌
-- table b is now t
abbrev pub ◌setting_table◌to◌ : State → ℕ → Table → State
◌setting_table◌to◌ s b t = with_table s b t

-- these frames are free now
abbrev pub ◌setting_frames◌ : State → List ℕ → State
◌setting_frames◌ s fs = with_frames s fs

-- one object's record is changed
abbrev pub ◌changing◌by◌ : State → ℕ → (Object → Object) → State
◌changing◌by◌ s o f = with_objects s (change f s.objects o)

-- the objects of these handles count one more for each
abbrev pub ◌raising◌ : State → List Handle → State
◌raising◌ s hs = with_objects s (change_all raise hs s.objects)

-- the objects of these handles count one fewer for each: "Falling to count 0 retires the object"
abbrev pub ◌releasing◌ : State → List Handle → State
◌releasing◌ s hs = release s hs

-- a new row stands last, under the next id
abbrev pub ◌opening◌ : State → Body → State
◌opening◌ s b = add_row b s

-- the row of an id goes
abbrev pub ◌ending◌ : State → ℕ → State
◌ending◌ s i = drop_row i s

-- the rows of these ids go
abbrev pub ◌ending_all◌ : State → List ℕ → State
◌ending_all◌ s is = drop_rows is s

-- the row of an id has another body
abbrev pub ◌turning◌into◌ : State → ℕ → Body → State
◌turning◌into◌ s i b = swap_row i b s
