-- Document 02, 1: "The new board must not meet a frame shortage in the middle of a sale." What a plan is worth: a page to believe, with the page size as a parameter.
-- The theorems are `plan_serves`, `as_reserved` and `drop_accepted` of proofs/Plans.antt. Assumes nothing.
use Rattle.std.specs.Prelude.{◌≡◌, ℕ, length}
use mathlib.Core.List.{List}
use Rattle.std.proofs.Math.Option.{Option, none, some}
use Rattle.model.specs.State.{Sizes, Page, Table, State, last_id}
use Rattle.model.specs.Request.{Request.use_plan, Answer.refused, Answer.batch}
use Rattle.model.specs.Step.{step}

-- a page is attached or not, whatever its frame's number
abbrev pub hidden : Option ℕ → Option ℕ
hidden none = none
hidden (some f) = some 0

abbrev pub page_aside : Page → Page
page_aside p = record { frame = hidden p.frame; high = p.high }

-- a table with the numbers of its frames left aside
abbrev pub frames_aside : Table → Table
frames_aside t = record {
  limit = t.limit;
  mask = t.mask;
  life = t.life;
  epoch = t.epoch;
  size = t.size;
  pages = λ p. page_aside (t.pages p);
  slots = t.slots;
  free = t.free;
  empty = t.empty;
  detached = t.detached;
}

-- two tables are the same but for the numbers of frames
abbrev pub SameButFrames : Table → Table → Type 0
SameButFrames t u = frames_aside t ≡ frames_aside u

-- what using the plan i of n slots gives in the state s
pub record Served (z : Sizes) (s : State) (i n : ℕ) : Type 0 where
  -- 12 where no id is left ..
  pub last : s.book.next ≡ last_id → (step z s (use_plan i)).1 ≡ refused 12
  -- .. and else 0: n slots under the next id, and no free frame is taken for them
  pub values : List ℕ
  pub many : length values ≡ n
  pub done : (s.book.next ≡ last_id → ⊥) → (step z s (use_plan i)).1 ≡ batch s.book.next values
  pub frames : (step z s (use_plan i)).0.frames ≡ s.frames
