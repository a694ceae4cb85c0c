-- Reserve: its function takes the model's step. Assumes nothing.
use Rattle.std.specs.Prelude.{◌≡◌, refl, List, ℕ, ◌≤◌, length, drop}
use Rattle.model.specs.State.{till, Table, StorageSnapshot, State, max_batch}
use Rattle.model.specs.Storage.{grow}
use Rattle.model.specs.Change.{with_frames}
use Rattle.model.specs.Request.{Request.reserve}
use Rattle.model.specs.Decision.{Decision}
use Rattle.model.proofs.Decided.{Room}
use Rattle.model.specs.Step.{with_room, reserve_in, reserve_of, decide}
use Rattle.model.proofs.Tests.{at_most_law}
use Rattle.model.proofs.Bounds.{batch_max_law}
use Rattle.invariant.proofs.Pages.{till_sane}
use Rattle.invariant.proofs.Snapshots.{snapshot_pages}
use Rattle.layout.specs.declared.Shape.{Shape}
use Rattle.layout.specs.Sizes.{batch_max}
use Rattle.representation.specs.Represents.{Rep}
use Rattle.storage.specs.Reps.{Held, held_of}
use Rattle.book.specs.Decided.{free_place}
use Rattle.growth.specs.Words.{grow_w}
use Rattle.growth.specs.Grow.{grow_held, grow_enough}
use Rattle.answer.specs.Does.{Does}
use Rattle.reserve.specs.Ops.{open_r, reserve_r}
use Rattle.reserve.specs.Room.{id_next, room_does, slots_does}

-- what is left after the checks: growth in the lowest free frames, and the batch
abbrev effect : State → ℕ → ℕ → Table → StorageSnapshot → Decision
effect s b n t w = reserve_in till (with_frames s (drop (length w.pages) s.frames)) b n (grow till w.pages s.frames t)

decided : (s : State) (b n : ℕ) → decide till s (reserve b n) ≡ with_room till s b n (effect s b n)
unfolding decide reserve_of
decided s b n = refl

-- RESERVE is the model's step
pub reserve_does : (ws : List ℕ) (sh : Shape) (s : State) → Rep ws sh s → (os : List ℕ) (base b n : ℕ) → Does ws os sh base s (reserve b n) (reserve_r ws os sh base b n)
unfolding reserve_r open_r
reserve_does ws sh s r os base b n = room_does ws sh s r b n (effect s b n) (reserve b n) (decided s b n) os base (open_r ws os sh base b n) opened
  where
    opened : (w : StorageSnapshot) → Room till s b n w → decide till s (reserve b n) ≡ effect s b n (s.tables b) w → Does ws os sh base s (reserve b n) (open_r ws os sh base b n (length w.pages))
    opened w m d =
        let t : Table = s.tables b in
        let h : Held ws sh s = held_of ws sh s r in
        let q = (snapshot_pages till t n w m.snapshot).0 in
        let fit : length w.pages ≤ length s.frames = at_most_law (length w.pages) (length s.frames) m.frames in
        let few : n ≤ batch_max = rw batch_max_law at (at_most_law n max_batch m.few) in
        slots_does ws (grow_w ws sh b (length w.pages)) sh s (with_frames s (drop (length w.pages) s.frames)) b (grow till w.pages s.frames t)
        (grow_held sh b ws s h m.there r.well_formed.frames n w.pages q fit) m.there n few
        (grow_enough till till_sane t (h.placed.sound b m.there) n few w.pages s.frames q fit)
        (free_place ws sh s r m.row) (id_next s r.well_formed.ids.next m.id) os base (reserve b n) d
