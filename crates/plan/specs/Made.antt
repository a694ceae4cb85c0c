-- Make plan: its function takes the model's step. Assumes nothing.
use Rattle.std.specs.Prelude.{◌≡◌, refl, List, ℕ, ◌+◌, ◌^◌, ◌≤◌, ◌<◌, length, take, drop}
use Rattle.std.proofs.Common.{sym, ◌∙◌, subst, arith, length-take-le}
use Rattle.std.proofs.Math.Option.{some}
use Rattle.model.specs.State.{till, Table, Body.plan, StorageSnapshot, State}
use Rattle.model.specs.Storage.{pages_for}
use Rattle.model.specs.Change.{with_frames}
use Rattle.model.specs.Book.{add_row}
use Rattle.model.specs.Request.{Request.make_plan, Answer.planned}
use Rattle.model.specs.Decision.{Decision, leave◌answer◌}
use Rattle.model.proofs.Decided.{Room}
use Rattle.model.specs.Step.{with_room, make_plan_of, decide}
use Rattle.model.specs.Words.{used_words}
use Rattle.model.proofs.Tests.{at_most_law}
use Rattle.invariant.proofs.Snapshots.{snapshot_pages}
use Rattle.layout.specs.declared.Shape.{Shape}
use Rattle.layout.specs.Layout.{total, item, load}
use Rattle.layout.specs.Fields.{item_page}
use Rattle.layout.specs.Values.{kind_plan}
use Rattle.layout.specs.Sizes.{batch_max}
use Rattle.representation.specs.Represents.{Items, Rep}
use Rattle.storage.specs.Kept.{items_kept}
use Rattle.storage.specs.Reps.{Held, held_of}
use Rattle.frames.specs.Lowest.{owners_of}
use Rattle.book.specs.Ops.{spare, Fills}
use Rattle.book.specs.Decided.{free_place, spare_low}
use Rattle.book.specs.Swap.{spare_held}
use Rattle.book.specs.Open.{Planned, Opens, open_held}
use Rattle.growth.specs.Words.{list_pages_w}
use Rattle.growth.specs.Plan.{plan_short}
use Rattle.growth.specs.Next.{next_is}
use Rattle.answer.specs.Does.{Does, does_accepted}
use Rattle.reserve.specs.Room.{id_next, room_does}
use Rattle.plan.specs.Ops.{hold_all_w, filled_w, kept_w, plan_w, plan_r, make_plan_r}
use Rattle.plan.specs.Holds.{spare_fills, pages_fills, pages_listed, Holding, hold_all, kept_fills, kept_count, kept_epoch, kept_slots, kept_pages, kept_frames}

-- what is left after the checks: the lowest free frames are held, and the row opens
abbrev effect : State → ℕ → ℕ → Table → StorageSnapshot → Decision
effect s b n t w =
    leave add_row (plan b n w (take (length w.pages) s.frames)) (with_frames s (drop (length w.pages) s.frames))
    answer planned s.book.next n (length w.pages)

decided : (s : State) (b n : ℕ) → decide till s (make_plan b n) ≡ with_room till s b n (effect s b n)
unfolding decide make_plan_of
decided s b n = refl

module _ (ws : List ℕ) (sh : Shape) (s : State) (r : Rep ws sh s) (b n : ℕ) (w : StorageSnapshot) (m : Room till s b n w) where
  abbrev x : ℕ
  x = spare (load ws sh)

  abbrev p : ℕ
  p = length w.pages

  abbrev fs : List ℕ
  fs = take (length w.pages) s.frames

  abbrev s₂ : State
  s₂ = with_frames s (drop (length w.pages) s.frames)

  h : Held ws sh s
  h = held_of ws sh s r

  free : length s.book.rows < s.book.capacity
  free = free_place ws sh s r m.row

  fit : p ≤ length s.frames
  fit = at_most_law (length w.pages) (length s.frames) m.frames

  of_table : (pages_for till (s.tables b) n ≡ some w.pages) × (w.epoch ≡ (s.tables b).epoch) × (w.free_slots ≡ length (s.tables b).free)
  of_table = snapshot_pages till (s.tables b) n w m.snapshot

  few : p ≤ batch_max
  few = plan_short till (s.tables b) n w.pages of_table.0

  low : x < sh.rows
  low = spare_low ws sh s h free

  -- the pages
  abbrev ws₁ : List ℕ
  ws₁ = list_pages_w ws sh b x p

  listed : Fills ws ws₁ sh x
  listed = pages_fills ws sh h.reps.shaped.room b x p

  h₁ : Held ws₁ sh s
  h₁ = spare_held ws ws₁ sh s h x listed free refl

  pages₁ : Items (λ i q. load ws₁ sh (item x i item_page) ≡ q) 0 w.pages
  pages₁ = subst (λ (l : List ℕ). Items (λ i q. load ws₁ sh (item x i item_page) ≡ q) 0 l)
      (next_is (load ws sh) b (s.tables b) (h.reps.memory.tables b m.there) (h.placed.sound b m.there) n w.pages of_table.0)
      (pages_listed ws sh h.reps.shaped.room b x p low few)

  -- the frames
  abbrev ws₂ : List ℕ
  ws₂ = hold_all_w sh x 0 p ws₁

  holding : Holding sh x ws₁ s ws₂ s₂ 0 fs
  holding = hold_all sh x p ws₁ s 0 h₁ (owners_of ws₁ sh s h₁ r.well_formed.frames) (sym (spare_fills ws ws₁ sh x listed)) free fit (omega (arith, few))

  at_spare : x ≡ spare (load ws₂ sh)
  at_spare = sym (holding.place ∙ spare_fills ws ws₁ sh x listed)

  -- and the rest
  abbrev ws₃ : List ℕ
  ws₃ = kept_w ws₂ sh b x n

  room₂ : total sh ≤ length ws₂
  room₂ = holding.held.reps.shaped.room

  filled : Fills ws₂ ws₃ sh x
  filled = kept_fills ws₂ sh room₂ b x n

  h₃ : Held ws₃ sh s₂
  h₃ = spare_held ws₂ ws₃ sh s₂ holding.held x filled free at_spare

  standing : Planned (load ws₃ sh) x n w fs
  standing = let t = holding.held.reps.memory.tables b m.there in record {
    count = kept_count ws₂ sh room₂ b x n low;
    epoch = kept_epoch ws₂ sh room₂ b x n low ∙ t.epoch ∙ sym of_table.1;
    free_slots = kept_slots ws₂ sh room₂ b x n low ∙ t.free_count ∙ sym of_table.2;
    pages = kept_pages ws₂ sh room₂ b x n low 0 w.pages
        (items_kept (λ i q. load ws₁ sh (item x i item_page) ≡ q) (λ i q. load ws₂ sh (item x i item_page) ≡ q) (λ i q e. holding.pages i ∙ e) 0 w.pages pages₁);
    held = kept_frames ws₂ sh room₂ b x n low 0 fs holding.frames;
  }

  opens : Opens (load ws₃ sh) (spare (load ws₃ sh)) kind_plan b p (plan b n w fs)
  opens = let e : spare (load ws₃ sh) ≡ x = spare_fills ws₂ ws₃ sh x filled ∙ sym at_spare in
      rw e (refl, refl, refl, sym (length-take-le (length w.pages) s.frames fit), standing)

  -- A PLAN opens
  pub plan_held : s.book.next + 1 < 2 ^ 64 → Held (plan_w ws sh b n p) sh (add_row (plan b n w fs) s₂)
  unfolding plan_w filled_w
  plan_held left = open_held ws₃ sh s₂ h₃ free kind_plan b p (plan b n w fs) opens left

-- MAKE PLAN is the model's step
pub make_plan_does : (ws : List ℕ) (sh : Shape) (s : State) → Rep ws sh s → (os : List ℕ) (base b n : ℕ) → Does ws os sh base s (make_plan b n) (make_plan_r ws os sh base b n)
unfolding make_plan_r plan_r used_words
make_plan_does ws sh s r os base b n = room_does ws sh s r b n (effect s b n) (make_plan b n) (decided s b n) os base (plan_r ws os sh base b n) made
  where
    made : (w : StorageSnapshot) → Room till s b n w → decide till s (make_plan b n) ≡ effect s b n (s.tables b) w → Does ws os sh base s (make_plan b n) (plan_r ws os sh base b n (length w.pages))
    made w m d = rw r.reps.memory.book.next
        (does_accepted os sh base s (make_plan b n) _ _ (planned s.book.next n (length w.pages)) (plan_held ws sh s r b n w m (id_next s r.well_formed.ids.next m.id)).reps d)
