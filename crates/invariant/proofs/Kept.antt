-- Every request leaves a well-formed state.
use Rattle.std.specs.Prelude.{List, [], ◌∷◌}
use Rattle.model.specs.State.{Sizes, State}
use Rattle.model.specs.Request.{Request}
use Rattle.model.specs.Step.{step, run}
use Rattle.model.specs.WellFormed.{WellFormed}
use Rattle.invariant.specs.Pages.{Sane}
use Rattle.invariant.proofs.BookLemmas.{row_whole}
use Rattle.invariant.proofs.StorageState.{StorageClauses}
use Rattle.invariant.proofs.StorageKept.{storage_kept}
use Rattle.invariant.proofs.Rows.{BookClauses}
use Rattle.invariant.proofs.BookKept.{book_kept}

both_halves : (z : Sizes) (s : State) → StorageClauses z s → BookClauses s → WellFormed z s
both_halves z s a b = record {
  ranges = record {
    table_count = a.table_count;
    frame_count = a.frame_count;
    object_count = a.object_count;
    capacity = a.capacity;
    row_count = b.row_count;
    tables = λ c l. record {
      limit = (a.tables c l).limit;
      size = (a.tables c l).size;
      mask = (a.tables c l).mask;
      epoch = (a.tables c l).epoch;
      life = (a.tables c l).life;
      high = (a.tables c l).high;
      slots = b.slots c;
    };
    objects = b.objects;
    rows = row_whole z s s.book.rows b.rows a.plans;
  };
  frames = a.frames;
  orders = a.orders;
  generations = a.generations;
  counts = b.counts;
  lifecycles = b.lifecycles;
  ids = b.ids;
  marks = b.marks;
  at_rest = a.at_rest;
}

pub kept : (z : Sizes) → Sane z → (s : State) → WellFormed z s → (r : Request) → WellFormed z (step z s r).0
kept z sane s w r = both_halves z (step z s r).0 (storage_kept z sane s w r) (book_kept z sane s w r)

-- and so does every list of requests
pub run_kept : (z : Sizes) → Sane z → (s : State) → WellFormed z s → (rs : List Request) → WellFormed z (run z s rs).0
run_kept z sane s w [] = w
run_kept z sane s w (r ∷ rs) = run_kept z sane (step z s r).0 (kept z sane s w r) rs
