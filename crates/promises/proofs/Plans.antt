-- Document 02, 1: "The new board must not meet a frame shortage in the middle of a sale." What a plan is worth: the theorems of the page specs/Plans.antt.
-- Assumes nothing.
use Rattle.std.specs.Prelude.{◌≡◌, true, false, not, ℕ, length, take}
use Rattle.std.proofs.Common.{ap, ◌∙◌, arith}
use mathlib.Core.List.{List, map}
use Rattle.std.proofs.Math.Option.{some}
use Rattle.std.proofs.lemmas.List.{length-map}
use borrow.Author.Tests.{eq-eqb, ne_eqb}
use Rattle.model.specs.State.{Sizes, Table, Body.plan, StorageSnapshot, State, is_active, last_id}
use Rattle.model.specs.Storage.{is_stale, grow}
use Rattle.model.specs.Request.{Request, Request.reserve, Request.use_plan, Request.drop_plan, Answer.done, Answer.batch}
use Rattle.model.specs.Book.{find}
use Rattle.model.specs.Lookup.{value_at}
use Rattle.model.specs.Step.{use_plan_of, drop_plan_of, decide, step, run}
use Rattle.model.specs.WellFormed.{PlanRange, WellFormed}
use Rattle.invariant.proofs.Pages.{Sane}
use Rattle.invariant.proofs.BookLemmas.{found_range}
use Rattle.invariant.proofs.StorageDecisions.{sound_at}
use Rattle.invariant.proofs.Frames.{reserve_length}
use Rattle.invariant.proofs.Snapshots.{fresh_pages}
use Rattle.invariant.proofs.Kept.{run_kept}
use Rattle.promises.proofs.PlansLemmas.{used_frames, reserved_now}
use Rattle.promises.specs.Plans.{SameButFrames, Served}

-- from any well-formed state, after any requests: a plan of n slots of table b stands under the id i, its table is active, and the plan is not stale
module _ (z : Sizes) (sane : Sane z) (first : State) (w : WellFormed z first) (rs : List Request) (i b n : ℕ) (r : StorageSnapshot) (fs : List ℕ)
    (row : find i (run z first rs).0.book.rows ≡ some (plan b n r fs)) (live : is_active ((run z first rs).0.tables b).life ≡ true)
    (fresh : is_stale z ((run z first rs).0.tables b) n r ≡ false) where
  abbrev s : State
  s = (run z first rs).0

  kept : WellFormed z s
  kept = run_kept z sane first w rs

  range : PlanRange z s b n r fs
  range = found_range s kept i (plan b n r fs) row

  abbrev grown : Table
  grown = grow z r.pages fs (s.tables b)

  -- its frames are as many as its pages, so that the table has slots enough
  as_many : length (map (value_at grown) (take n grown.free)) ≡ n
  as_many = length-map (take n grown.free) (value_at grown) ∙ reserve_length z sane (s.tables b) (s.tables b).free (sound_at z s kept b range.table) n range.count.1 r.pages fs
      (fresh_pages z (s.tables b) n r (ap not fresh)) (omega (arith, range.held))

  -- A PLAN THAT IS NOT STALE CAN'T FAIL FOR FRAMES
  pub plan_serves : Served z s i n
  unfolding step decide use_plan_of
  plan_serves = record {
    last = λ e. rw (row, live, fresh, eq-eqb s.book.next last_id e);
    values = map (value_at grown) (take n grown.free);
    many = as_many;
    done = λ e. rw (row, live, fresh, ne_eqb s.book.next last_id e);
    frames = used_frames z s i b n r fs row live fresh range;
  }

  -- AND IT GIVES WHAT A RESERVATION OF THAT COUNT MADE NOW GIVES, where that is accepted: the same answer, and the same tables but for the numbers of frames
  pub as_reserved : (j : ℕ) (values : List ℕ) → (step z s (reserve b n)).1 ≡ batch j values
      → ((step z s (use_plan i)).1 ≡ batch j values) × ((c : ℕ) → SameButFrames ((step z s (reserve b n)).0.tables c) ((step z s (use_plan i)).0.tables c))
  as_reserved j values e = reserved_now z s i b n r fs row live fresh range j values e

-- "Dropping refuses only an unknown plan", in any state
pub drop_accepted : (z : Sizes) (s : State) (i b n : ℕ) (r : StorageSnapshot) (fs : List ℕ) → find i s.book.rows ≡ some (plan b n r fs) → (step z s (drop_plan i)).1 ≡ done
unfolding step decide drop_plan_of
drop_accepted z s i b n r fs row = rw row
