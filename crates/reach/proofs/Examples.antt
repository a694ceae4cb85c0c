-- A state with an open claim, an open reservation, a table that tears down and a retired one with a detached page: some of its words, which the checker computes,
-- and demand 3 from it. Assumes nothing.
use Rattle.std.specs.Prelude.{◌≡◌, ℕ}
use Rattle.std.proofs.Math.Path.{refl, ap, subst}
use Rattle.std.proofs.Common.{◌∙◌, arith}
use mathlib.Core.List.{List, [], ◌∷◌, ◌++◌, map}
use Rattle.std.proofs.Math.Option.{none, some}
use Rattle.std.proofs.Math.ListN.{get_or}
use Rattle.model.specs.Base.{range}
use Rattle.model.specs.State.{till, Slot, Slot.reserved, Slot.occupied, State, max_tables, max_frames, max_objects, max_rows, max_limit, max_slots}
use Rattle.model.specs.Create.{Parameters, permitted, created}
use Rattle.model.proofs.Created.{created_well_formed}
use Rattle.model.specs.Request.{Route.buffered, Operation.as_move, Operation.as_copy, Request, Request.new_object, Request.duplicate, Request.reserve, Request.publish, Request.prepare_transfer, Request.abort, Request.get_info, Request.rollback, Request.take_empty_page, Request.teardown_start, Request.teardown_step, Request.teardown_finish}
use Rattle.model.specs.Step.{run}
use Rattle.model.specs.Words.{read_list}
use Rattle.model.proofs.Cases.{item}
use Rattle.model.specs.WellFormed.{WellFormed}
use Rattle.invariant.proofs.Pages.{till_sane}
use Rattle.invariant.proofs.Kept.{run_kept}
use Rattle.layout.specs.Layout.{Addr, Mem, load, root, head, entry, owner, group, cell, object, index, rank, row, item as item_at}
use Rattle.layout.specs.Fields.{head_lifecycle}
use Rattle.layout.specs.Values.{life_retired}
use Rattle.representation.specs.Represents.{slot_in, Rep}
use Rattle.representation.specs.Unique.{shape_for, rep_unique}
use Rattle.written.specs.Words.{table_at, page_at, owner_of, word_at}
use Rattle.written.proofs.Whole.{written, has_words}
use Rattle.noninterference.specs.Runs.{lower_state}
use Rattle.promises.specs.Lower.{Ending.rolled_back, rollback_words}
use Rattle.promises.proofs.Lower.{reads_rollback}
use Rattle.promises.specs.Terms.{Call, Calls, left, list_of, Together}
use Rattle.promises.proofs.Demand2.{demand_2_lists, demand_2_calls}
use Rattle.promises.specs.Demand3.{TwoRuns, Same}
use Rattle.promises.proofs.Demand3.{demand_3}
use Rattle.promises.proofs.Shop.{ran, read_by}
use Rattle.reach.specs.Every.{Starts}
use Rattle.reach.proofs.Every.{any_two}

-- three tables of two, one and two pages, three objects, three frames, five rows
abbrev parameters : Parameters
parameters = record {
  tables = record { pages = 2; seed = 0 } ∷ record { pages = 1; seed = 5 } ∷ record { pages = 2; seed = 9 } ∷ [];
  frames = 3;
  rows = 5;
  objects =
      record { koid = 70; kind = 3; class = 0; supported = 15; exportable = 1; limit = 100 }
      ∷ record { koid = 71; kind = 4; class = 0; supported = 15; exportable = 1; limit = 2 }
      ∷ record { koid = 72; kind = 5; class = 0; supported = 7; exportable = 1; limit = 9 }
      ∷ [];
}

-- the values of table 0's slots 63, 62 and 61 at generation 1
abbrev v63 : ℕ
v63 = 0x4800000001000040

abbrev v62 : ℕ
v62 = 0x480000000100003f

abbrev v61 : ℕ
v61 = 0x480000000100003e

-- the objects' first handles go into table 0, a second of the first into table 1, which then tears down; table 2 gets a page, loses it and retires; one slot of table 0 is
-- reserved, and the handles of its slots 63 and 61 are claimed, with a copy of the third between them
abbrev requests : List Request
requests =
    new_object 0 15 0
    ∷ new_object 1 15 1
    ∷ new_object 2 7 2
    ∷ reserve 0 3
    ∷ publish 4 (1 ∷ 2 ∷ 3 ∷ [])
    ∷ duplicate 0 v63 15
    ∷ reserve 1 1
    ∷ publish 6 (5 ∷ [])
    ∷ teardown_start 1
    ∷ teardown_step 1
    ∷ reserve 2 1
    ∷ abort 7
    ∷ take_empty_page 2
    ∷ teardown_start 2
    ∷ teardown_finish 2
    ∷ reserve 0 2
    ∷ prepare_transfer 0 buffered none none (item as_move v63 3 ∷ item as_copy v62 2 ∷ item as_move v61 6 ∷ [])
    ∷ []

abbrev pub held : State
held = (run till (created parameters) requests).0

pub well_formed_law : WellFormed till held
unfolding permitted max_tables max_frames max_objects max_rows max_limit max_slots
well_formed_law = run_kept till till_sane (created parameters) (created_well_formed till parameters refl) requests

-- it has words
pub represented : Rep (written held) (shape_for held) held
represented = has_words held well_formed_law

-- ---- some of its words

-- the first n words of a record
abbrev fields : ℕ → (ℕ → Addr) → List ℕ
fields n a = map (λ f. word_at held (a f)) (range 0 n)

-- version, tables, frames, objects, rows, next id, rows in use, free frames, page entries
header : fields 16 root ≡ 1 ∷ 3 ∷ 3 ∷ 3 ∷ 5 ∷ 10 ∷ 2 ∷ 1 ∷ 5 ∷ 0 ∷ 0 ∷ 0 ∷ 0 ∷ 0 ∷ 0 ∷ 0 ∷ []
unfolding ran word_at table_at page_at owner_of
header = refl

-- limit, mask, lifecycle, cursor, epoch, pages had, free order's first and length, empty pages' first, detached pages' first, first entry
heads : (fields 11 (head 0) ≡ 2 ∷ 0 ∷ 0 ∷ 0 ∷ 1 ∷ 1 ∷ 59 ∷ 59 ∷ 0 ∷ 0 ∷ 0 ∷ [])
    × (fields 11 (head 1) ≡ 1 ∷ 5 ∷ 1 ∷ 64 ∷ 1 ∷ 1 ∷ 64 ∷ 64 ∷ 1 ∷ 0 ∷ 2 ∷ [])
    × (fields 11 (head 2) ≡ 2 ∷ 9 ∷ 2 ∷ 0 ∷ 2 ∷ 1 ∷ 0 ∷ 0 ∷ 0 ∷ 1 ∷ 3 ∷ [])
unfolding ran word_at table_at page_at owner_of
heads = (refl, refl, refl)

-- frame plus 1, high mark, busy slots, both links
entries : (fields 5 (entry 0) ≡ 1 ∷ 1 ∷ 5 ∷ 0 ∷ 0 ∷ []) × (fields 5 (entry 1) ≡ 0 ∷ 0 ∷ 0 ∷ 0 ∷ 0 ∷ []) × (fields 5 (entry 2) ≡ 2 ∷ 2 ∷ 0 ∷ 0 ∷ 0 ∷ [])
    × (fields 5 (entry 3) ≡ 0 ∷ 2 ∷ 0 ∷ 0 ∷ 0 ∷ []) × (fields 5 (entry 4) ≡ 0 ∷ 0 ∷ 0 ∷ 0 ∷ 0 ∷ [])
unfolding ran word_at table_at page_at owner_of
entries = (refl, refl, refl, refl, refl)

-- the owners' entries plus 1, and the free frames in the first group of each size
frames : (fields 3 owner ≡ 1 ∷ 3 ∷ 0 ∷ []) × (fields 3 (λ n. group n 0) ≡ 1 ∷ 1 ∷ 1 ∷ [])
unfolding ran word_at table_at page_at owner_of
frames = (refl, refl)

-- table 0: marked by the claim, of rank 1, at its positions 0 and 2; occupied; marked by the reservation, of rank 0, at its positions 0 and 1; vacant, the first, the second and the last
slots : (fields 6 (cell 0 63) ≡ 2 ∷ 1 ∷ 1 ∷ 0 ∷ 0 ∷ 0 ∷ []) × (fields 6 (cell 0 61) ≡ 2 ∷ 1 ∷ 1 ∷ 2 ∷ 0 ∷ 0 ∷ []) × (fields 6 (cell 0 62) ≡ 3 ∷ 1 ∷ 1 ∷ 15 ∷ 1 ∷ 0 ∷ [])
    × (fields 6 (cell 0 60) ≡ 1 ∷ 1 ∷ 0 ∷ 0 ∷ 0 ∷ 0 ∷ []) × (fields 6 (cell 0 59) ≡ 1 ∷ 1 ∷ 0 ∷ 1 ∷ 0 ∷ 0 ∷ [])
    × (fields 6 (cell 0 58) ≡ 0 ∷ 1 ∷ 58 ∷ 0 ∷ 0 ∷ 0 ∷ []) × (fields 6 (cell 0 57) ≡ 0 ∷ 1 ∷ 57 ∷ 59 ∷ 0 ∷ 0 ∷ []) × (fields 6 (cell 0 0) ≡ 0 ∷ 1 ∷ 0 ∷ 2 ∷ 0 ∷ 0 ∷ [])
unfolding ran word_at table_at page_at owner_of
slots = (refl, refl, refl, refl, refl, refl, refl, refl)

-- table 1: what the teardown removed is vacant again, at the next generation and first of the free order; and a slot of the free frame
emptied : (fields 6 (cell 1 63) ≡ 0 ∷ 2 ∷ 63 ∷ 0 ∷ 0 ∷ 0 ∷ []) × (fields 6 (cell 1 62) ≡ 0 ∷ 1 ∷ 62 ∷ 64 ∷ 0 ∷ 0 ∷ []) × (fields 6 (cell 2 63) ≡ 0 ∷ 0 ∷ 0 ∷ 0 ∷ 0 ∷ 0 ∷ [])
unfolding ran word_at table_at page_at owner_of
emptied = (refl, refl, refl)

-- koid, kind, class, supported rights, exportable, state, count, limit
objects : (fields 8 (object 0) ≡ 70 ∷ 3 ∷ 0 ∷ 15 ∷ 1 ∷ 1 ∷ 1 ∷ 100 ∷ []) × (fields 8 (object 1) ≡ 71 ∷ 4 ∷ 0 ∷ 15 ∷ 1 ∷ 1 ∷ 2 ∷ 2 ∷ []) × (fields 8 (object 2) ≡ 72 ∷ 5 ∷ 0 ∷ 7 ∷ 1 ∷ 1 ∷ 1 ∷ 9 ∷ [])
unfolding ran word_at table_at page_at owner_of
objects = (refl, refl, refl)

-- the index; the reservation with its slots; the claim with a moved slot, a copy and a moved slot; and a free row
rows : (fields 5 index ≡ 0 ∷ 1 ∷ 2 ∷ 3 ∷ 4 ∷ []) × (fields 5 rank ≡ 0 ∷ 1 ∷ 2 ∷ 3 ∷ 4 ∷ [])
    × (fields 6 (row 0) ≡ 8 ∷ 1 ∷ 0 ∷ 2 ∷ 0 ∷ 0 ∷ []) × (fields 6 (item_at 0 0) ≡ 60 ∷ 0 ∷ 0 ∷ 0 ∷ 0 ∷ 0 ∷ []) × (fields 6 (item_at 0 1) ≡ 59 ∷ 0 ∷ 0 ∷ 0 ∷ 0 ∷ 0 ∷ [])
    × (fields 6 (row 1) ≡ 9 ∷ 2 ∷ 0 ∷ 3 ∷ 0 ∷ 0 ∷ []) × (fields 6 (item_at 1 0) ≡ 0 ∷ 63 ∷ 0 ∷ 15 ∷ 0 ∷ 3 ∷ []) × (fields 6 (item_at 1 1) ≡ 1 ∷ 0 ∷ 1 ∷ 2 ∷ 1 ∷ 0 ∷ [])
    × (fields 6 (item_at 1 2) ≡ 0 ∷ 61 ∷ 2 ∷ 7 ∷ 2 ∷ 6 ∷ []) × (fields 6 (row 2) ≡ 0 ∷ 0 ∷ 0 ∷ 0 ∷ 0 ∷ 0 ∷ [])
unfolding ran word_at table_at page_at owner_of
rows = (refl, refl, refl, refl, refl, refl, refl, refl, refl, refl)

-- ---- demand 3 from it

-- H moves the handle of slot 62 out, under the id 10
abbrev prepare_words : List ℕ
prepare_words = 4107 ∷ 14 ∷ 0 ∷ 1 ∷ 0 ∷ 49 ∷ 0 ∷ v62 ∷ 15 ∷ []

abbrev transfer : Request
transfer = prepare_transfer 0 buffered none none (item as_move v62 15 ∷ [])

reads_prepare : read_list prepare_words ≡ some (transfer ∷ [])
unfolding read_by
reads_prepare = refl

-- a look at what the first claim holds, two reservations, the first aborted, the first claim rolled back, and the end of table 1
abbrev list_words : List ℕ
list_words = 19 ∷ 9 ∷ 0 ∷ v63 ∷ 11 ∷ 5 ∷ 0 ∷ 1 ∷ 11 ∷ 5 ∷ 0 ∷ 1 ∷ 129 ∷ 7 ∷ 11 ∷ 129 ∷ 16 ∷ 9 ∷ 3 ∷ 23 ∷ 1 ∷ []

-- the same for P: the id 11 is one lower, and 9 is not above 10
abbrev plain_words : List ℕ
plain_words = 19 ∷ 9 ∷ 0 ∷ v63 ∷ 11 ∷ 5 ∷ 0 ∷ 1 ∷ 11 ∷ 5 ∷ 0 ∷ 1 ∷ 129 ∷ 7 ∷ 10 ∷ 129 ∷ 16 ∷ 9 ∷ 3 ∷ 23 ∷ 1 ∷ []

abbrev list : List Request
list = get_info 0 v63 ∷ reserve 0 1 ∷ reserve 0 1 ∷ abort 11 ∷ rollback 9 ∷ teardown_finish 1 ∷ []

reads_list : read_list list_words ≡ some list
unfolding read_by
reads_list = refl

-- the handle that the first claim holds
abbrev first : Slot
first = occupied 1 (record { object = 0; rights = 15; flags = 0 })

-- words to start from
abbrev starts : Starts held held
starts = any_two held held well_formed_law refl

-- any calls on them, cut anywhere
module _ (hs ps : List Call) (kh : Calls starts.held.words hs) (kp : Calls starts.plain.words ps)
    (lh : list_of hs ≡ prepare_words ++ (list_words ++ rollback_words 10)) (lp : list_of ps ≡ plain_words ++ []) where
  left_by : Together starts.held.words starts.sh held hs (transfer ∷ list ++ (rollback 10 ∷ []))
  left_by = demand_2_calls starts.sh starts.held.words held hs (transfer ∷ list ++ (rollback 10 ∷ [])) starts.held.rep kh
      (ap read_list lh ∙ demand_2_lists prepare_words (list_words ++ rollback_words 10) (transfer ∷ []) (list ++ (rollback 10 ∷ [])) reads_prepare
      (demand_2_lists list_words (rollback_words 10) list (rollback 10 ∷ []) reads_list (reads_rollback 10)))

  runs : TwoRuns
  unfolding ran
  runs = record {
    sh = starts.sh;
    ws = starts.held.words;
    us = starts.plain.words;
    s = held;
    u = held;
    start_h = starts.held.rep;
    start_p = starts.plain.rep;
    equal = refl;
    table = 0;
    route = buffered;
    banned_object = none;
    banned_kind = none;
    items = item as_move v62 15 ∷ [];
    moves = refl;
    transfer = prepare_words;
    transfers = reads_prepare;
    list = list_words;
    requests = list;
    reads = reads_list;
    ending = rolled_back;
    t = 10;
    hs = hs;
    calls_h = kh;
    list_h = lh;
    accepted = ap (λ (l : List ℕ). get_or l 0 0) left_by.answers;
    id = ap (λ (l : List ℕ). get_or l 1 0) left_by.answers;
    ps = ps;
    calls_p = kp;
    list_p = lp;
    permits = refl;
    wants = refl;
  }

  -- what the words left show
  abbrev seen_h : Mem
  seen_h = load (left starts.held.words hs) starts.sh

  abbrev seen_p : Mem
  seen_p = load (left starts.plain.words ps) starts.sh

  -- slot 57 is reserved by 12 in H and by 11 in P; what the first claim held stands in slot 63 again, and table 1 is retired, in both
  same_end : (slot_in seen_h 0 57 ≡ reserved 1 12) × (slot_in seen_p 0 57 ≡ reserved 1 11) × (slot_in seen_h 0 63 ≡ first) × (slot_in seen_p 0 63 ≡ first) × (seen_h (head 1 head_lifecycle) ≡ life_retired) × (seen_p (head 1 head_lifecycle) ≡ life_retired)
  unfolding runs ran
  same_end =
      let d : Same runs = demand_3 runs in
      let s : State = (run till held (transfer ∷ list ++ (rollback 10 ∷ []))).0 in
      let h : Rep (left starts.held.words hs) starts.sh s = left_by.state in
      let e : d.state_h ≡ s = (rep_unique (left starts.held.words hs) starts.sh starts.sh d.state_h s d.held h).1 in
      let p : Rep (left starts.plain.words ps) starts.sh (lower_state 10 s) = subst (Rep (left starts.plain.words ps) starts.sh) (d.whole refl ∙ ap (lower_state 10) e) d.plain in
      let hm = h.reps.memory in let pm = p.reps.memory in (
        (hm.tables 0 (omega arith)).slots 57,
        (pm.tables 0 (omega arith)).slots 57,
        (hm.tables 0 (omega arith)).slots 63,
        (pm.tables 0 (omega arith)).slots 63,
        (hm.tables 1 (omega arith)).life,
        (pm.tables 1 (omega arith)).life,
      )
