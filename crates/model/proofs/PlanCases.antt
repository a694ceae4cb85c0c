-- Document 02, 1, "Frames set aside before the sale": a line for each of its sentences that a run can show. The fresh state has two tables of four pages, four
-- frames and eight rows.
use Rattle.std.specs.Prelude.{◌≡◌, refl, List, [], ◌∷◌, ◌++◌, map, ℕ, ◌-◌, ◌^◌, length, take, drop}
use Rattle.std.proofs.Math.Option.{Option, none, some}
use Rattle.authority.specs.Rights.{contains}
use Rattle.codec.specs.Codec.{encode, payload, decodes, payload_in, number_in, slot_in, generation_in, next_generation, mask_of}
use Rattle.model.specs.Base.{bit, nth}
use Rattle.model.specs.State.{till, Slot.absent, Lifecycle.active, Table, State, no_page, Body, Body.reservation, Body.claim, Body.parcel, Body.plan, Row, max_batch, max_slots, known_flags, last_id}
use Rattle.model.specs.Storage.{place, vacate, take_free, pages_for, attach, detach, is_stale}
use Rattle.model.specs.Request.{Operation.as_move}
use Rattle.model.specs.Request.{Request, Request.new_object, Request.reserve, Request.abort, Request.publish, Request.close, Request.prepare_transfer, Request.rollback, Request.teardown_start, Request.teardown_finish, Request.take_empty_page, Request.make_plan, Request.use_plan, Request.drop_plan}
use Rattle.model.specs.Book.{find}
use Rattle.model.specs.Step.{decide, step, new_object_of, reserve_of, abort_of, publish_of, close_of, prepare_transfer_of, rollback_of, teardown_start_of, teardown_finish_of, take_empty_page_of, make_plan_of, use_plan_of, drop_plan_of}
use Rattle.model.specs.Words.{used_words}
use Rattle.model.proofs.Effects.{sparse}
use Rattle.model.proofs.Cases.{Case, ◌is◌, line, fresh, worn, with0, end, last, numbers, places, first, v63, item, transfer, last_ids}

-- the row of an id: nothing, or what it is (1 reservation, 2 claim, 3 parcel, 4 plan); of a plan its table, count, epoch, free slots, pages and frames
abbrev shown_row : Option Body → List ℕ
shown_row none = []
shown_row (some (reservation b ks)) = 1 ∷ []
shown_row (some (claim b es)) = 2 ∷ []
shown_row (some (parcel hs)) = 3 ∷ []
shown_row (some (plan b n w fs)) = 4 ∷ b ∷ n ∷ w.epoch ∷ w.free_slots ∷ (w.pages ++ fs)

abbrev row_of : State → ℕ → List ℕ
row_of s i = shown_row (find i s.book.rows)

abbrev id_of : Row → ℕ
id_of r = r.id

-- the ids of the rows, in their order, and the next id
abbrev ids : State → List ℕ
ids s = map id_of s.book.rows ++ (s.book.next ∷ [])

-- whether the plan of an id is stale
abbrev stale_of : State → Option Body → List ℕ
stale_of s none = []
stale_of s (some (reservation b ks)) = []
stale_of s (some (claim b es)) = []
stale_of s (some (parcel hs)) = []
stale_of s (some (plan b n w fs)) = bit (is_stale till (s.tables b) n w) ∷ []

abbrev stale : State → ℕ → List ℕ
stale s i = stale_of s (find i s.book.rows)

-- the frames of table b's first pages
abbrev frame_of : Option ℕ → List ℕ
frame_of none = []
frame_of (some f) = f ∷ []

abbrev frames_of : State → ℕ → List ℕ
frames_of s b = frame_of ((s.tables b).pages 0).frame ++ (frame_of ((s.tables b).pages 1).frame ++ frame_of ((s.tables b).pages 2).frame)

-- slots of four pages of table 0 are taken one after another; its last reservation has no page left
abbrev full : List Request
full = reserve 0 64 ∷ reserve 0 64 ∷ reserve 0 64 ∷ reserve 0 64 ∷ []

-- a table of one page
abbrev narrow : Table
narrow = record { limit = 1; mask = 0; life = active; epoch = 0; size = 0; pages = λ p. no_page; slots = λ k. absent; free = []; empty = []; detached = [] }

abbrev four : List Request
four = make_plan 0 1 ∷ make_plan 0 1 ∷ make_plan 0 1 ∷ make_plan 0 1 ∷ []

pub plans : List Case
unfolding fresh encode payload decodes payload_in number_in slot_in generation_in mask_of next_generation contains max_batch max_slots known_flags last_id
    place vacate take_free pages_for attach detach decide step used_words
    new_object_of reserve_of abort_of publish_of close_of prepare_transfer_of rollback_of teardown_start_of teardown_finish_of take_empty_page_of make_plan_of use_plan_of drop_plan_of
plans =
    -- "with the refusals of a reservation in its order": 18, 17, 13; then 15 before 1 for frames, 1 for a row, 12
    numbers fresh (make_plan 2 1 ∷ make_plan 0 0 ∷ make_plan 0 65 ∷ []) is (18 ∷ 17 ∷ 13 ∷ [])
    ∷ numbers fresh (full ++ (make_plan 0 1 ∷ make_plan 1 1 ∷ [])) is (0 ∷ 0 ∷ 0 ∷ 0 ∷ 15 ∷ 1 ∷ [])
    ∷ numbers (end fresh four) (make_plan 0 1 ∷ drop_plan 2 ∷ make_plan 0 1 ∷ []) is (1 ∷ 0 ∷ 0 ∷ [])
    ∷ numbers (end fresh (reserve 0 1 ∷ (four ++ drop 1 four))) (make_plan 0 1 ∷ []) is (1 ∷ [])
    ∷ numbers (last_ids fresh) (make_plan 0 1 ∷ []) is (12 ∷ [])
    ∷ numbers (end fresh (teardown_start 0 ∷ [])) (make_plan 0 0 ∷ []) is (16 ∷ [])
    -- "The plan takes one row and one id": it answers its id, the count and how many frames it holds, and takes no slot of the table
    ∷ last fresh (make_plan 0 3 ∷ []) is (0 ∷ 1 ∷ 3 ∷ 1 ∷ [])
    ∷ row_of (end fresh (make_plan 0 3 ∷ [])) 1 is (4 ∷ 0 ∷ 3 ∷ 0 ∷ 0 ∷ 0 ∷ 0 ∷ [])
    ∷ (end fresh (make_plan 0 3 ∷ [])).frames is (1 ∷ 2 ∷ 3 ∷ [])
    ∷ ids (end fresh (make_plan 0 3 ∷ make_plan 1 3 ∷ [])) is (1 ∷ 2 ∷ 3 ∷ [])
    -- no frame is held for slots that are free
    ∷ row_of (end fresh (reserve 0 4 ∷ make_plan 0 60 ∷ [])) 2 is (4 ∷ 0 ∷ 60 ∷ 1 ∷ 60 ∷ [])
    ∷ row_of (end fresh (reserve 0 4 ∷ make_plan 0 61 ∷ [])) 2 is (4 ∷ 0 ∷ 61 ∷ 1 ∷ 60 ∷ 1 ∷ 1 ∷ [])
    -- "the plan's row goes, and the reservation .. stands last in the book under the new id"
    ∷ ids (end fresh (make_plan 0 3 ∷ new_object 0 3 0 ∷ use_plan 1 ∷ [])) is (2 ∷ 3 ∷ 4 ∷ [])
    ∷ row_of (end fresh (make_plan 0 3 ∷ use_plan 1 ∷ [])) 2 is (1 ∷ [])
    -- it answers as a reservation: slots 63, 62 and 61 of a fresh table
    ∷ places fresh (make_plan 0 3 ∷ use_plan 1 ∷ []) is (63 ∷ 1 ∷ 62 ∷ 1 ∷ 61 ∷ 1 ∷ [])
    -- "its pages in the plan's frames": frame 0 was held while another took frame 1
    ∷ frames_of (end fresh (make_plan 0 1 ∷ reserve 1 1 ∷ use_plan 1 ∷ [])) 0 is (0 ∷ [])
    ∷ (end fresh (make_plan 0 1 ∷ reserve 1 1 ∷ use_plan 1 ∷ [])).frames is (2 ∷ 3 ∷ [])
    -- "lowest first": of a plan of two pages, the last page of 63 slots and page 7, the first page gets the lower frame
    ∷ row_of (end (with0 sparse) (make_plan 0 64 ∷ [])) 1 is (4 ∷ 0 ∷ 64 ∷ 0 ∷ 0 ∷ 262143 ∷ 7 ∷ 0 ∷ 1 ∷ [])
    ∷ (let t : Table = (end (with0 sparse) (make_plan 0 64 ∷ reserve 1 1 ∷ use_plan 1 ∷ [])).tables 0 in frame_of (t.pages 262143).frame ++ (frame_of (t.pages 7).frame ++ (t.epoch ∷ []))) is (0 ∷ 1 ∷ 1 ∷ [])
    -- two plans over one pool, and none left for a third: the plans go through
    ∷ numbers fresh (make_plan 0 1 ∷ make_plan 1 1 ∷ reserve 0 64 ∷ abort 3 ∷ make_plan 1 1 ∷ make_plan 1 1 ∷ make_plan 1 1 ∷ use_plan 2 ∷ []) is (0 ∷ 0 ∷ 0 ∷ 0 ∷ 0 ∷ 1 ∷ 1 ∷ 0 ∷ [])
    -- 18 for an id of no plan: none, a reservation's, a plan's that is used or dropped
    ∷ numbers fresh (use_plan 1 ∷ drop_plan 1 ∷ reserve 0 1 ∷ use_plan 1 ∷ drop_plan 1 ∷ make_plan 0 1 ∷ use_plan 2 ∷ use_plan 2 ∷ drop_plan 2 ∷ make_plan 0 1 ∷ drop_plan 4 ∷ drop_plan 4 ∷ []) is (18 ∷ 18 ∷ 0 ∷ 18 ∷ 18 ∷ 0 ∷ 0 ∷ 18 ∷ 18 ∷ 0 ∷ 0 ∷ 18 ∷ [])
    -- a plan is no reservation, claim or parcel
    ∷ numbers fresh (make_plan 0 1 ∷ abort 1 ∷ rollback 1 ∷ publish 1 [] ∷ use_plan 1 ∷ []) is (0 ∷ 18 ∷ 18 ∷ 18 ∷ 0 ∷ [])
    -- "It is stale exactly when a snapshot for its count taken now would differ": by a reservation that grows the table, by one that takes free slots, by a close, by a
    -- page taken, by another plan's use
    ∷ numbers fresh (make_plan 0 1 ∷ reserve 0 1 ∷ use_plan 1 ∷ []) is (0 ∷ 0 ∷ 21 ∷ [])
    ∷ numbers fresh (reserve 0 1 ∷ make_plan 0 1 ∷ reserve 0 1 ∷ use_plan 2 ∷ []) is (0 ∷ 0 ∷ 0 ∷ 21 ∷ [])
    ∷ numbers (end fresh first) (make_plan 0 1 ∷ close 0 v63 ∷ use_plan 3 ∷ []) is (0 ∷ 0 ∷ 21 ∷ [])
    ∷ numbers fresh (reserve 0 1 ∷ abort 1 ∷ make_plan 0 1 ∷ take_empty_page 0 ∷ use_plan 2 ∷ []) is (0 ∷ 0 ∷ 0 ∷ 0 ∷ 21 ∷ [])
    ∷ numbers fresh (make_plan 0 1 ∷ make_plan 0 1 ∷ use_plan 2 ∷ use_plan 1 ∷ []) is (0 ∷ 0 ∷ 0 ∷ 21 ∷ [])
    -- fresh again when the table comes back to the same snapshot
    ∷ numbers fresh (reserve 0 1 ∷ make_plan 0 1 ∷ reserve 0 1 ∷ use_plan 2 ∷ abort 3 ∷ use_plan 2 ∷ []) is (0 ∷ 0 ∷ 0 ∷ 21 ∷ 0 ∷ 0 ∷ [])
    -- "or be refused": the table, of one page, is full now
    ∷ numbers (with0 narrow) (make_plan 0 1 ∷ reserve 0 64 ∷ use_plan 1 ∷ make_plan 0 1 ∷ []) is (0 ∷ 0 ∷ 21 ∷ 15 ∷ [])
    -- "a snapshot looks at the table alone, never at free frames, rows or ids"
    ∷ stale (end fresh (make_plan 0 1 ∷ reserve 1 64 ∷ new_object 0 3 0 ∷ make_plan 1 1 ∷ [])) 1 is (0 ∷ [])
    -- the epoch goes from its end to 0: the plan kept the end, and is used there
    ∷ row_of (end (with0 worn) (make_plan 0 1 ∷ [])) 1 is (4 ∷ 0 ∷ 1 ∷ (2 ^ 64 - 1) ∷ 0 ∷ 0 ∷ 0 ∷ [])
    ∷ (((end (with0 worn) (make_plan 0 1 ∷ use_plan 1 ∷ [])).tables 0).epoch ∷ []) is (0 ∷ [])
    -- "A stale plan keeps its frames until dropped"; they are free again, in their order
    ∷ row_of (end fresh (make_plan 0 1 ∷ reserve 0 1 ∷ use_plan 1 ∷ [])) 1 is (4 ∷ 0 ∷ 1 ∷ 0 ∷ 0 ∷ 0 ∷ 0 ∷ [])
    ∷ (end fresh (make_plan 0 1 ∷ reserve 0 1 ∷ use_plan 1 ∷ [])).frames is (2 ∷ 3 ∷ [])
    ∷ (end fresh (make_plan 0 1 ∷ reserve 0 1 ∷ drop_plan 1 ∷ [])).frames is (0 ∷ 2 ∷ 3 ∷ [])
    -- "21 StalePlan, after TableRetired and before the id"
    ∷ numbers (end fresh (make_plan 0 1 ∷ [])) (teardown_start 0 ∷ use_plan 1 ∷ teardown_finish 0 ∷ use_plan 1 ∷ drop_plan 1 ∷ []) is (0 ∷ 16 ∷ 0 ∷ 16 ∷ 0 ∷ [])
    ∷ numbers (end fresh (make_plan 0 1 ∷ reserve 0 1 ∷ abort 2 ∷ [])) (use_plan 1 ∷ teardown_start 0 ∷ use_plan 1 ∷ []) is (21 ∷ 0 ∷ 16 ∷ [])
    ∷ numbers (last_ids (end fresh (make_plan 0 1 ∷ []))) (use_plan 1 ∷ drop_plan 1 ∷ []) is (12 ∷ 0 ∷ [])
    ∷ numbers (last_ids (end fresh (make_plan 0 1 ∷ reserve 0 1 ∷ []))) (use_plan 1 ∷ []) is (21 ∷ [])
    -- never 1: with every row in use and no frame free
    ∷ numbers (end fresh (make_plan 0 1 ∷ make_plan 1 1 ∷ make_plan 1 1 ∷ make_plan 1 1 ∷ new_object 0 3 0 ∷ new_object 1 3 0 ∷ new_object 3 3 0 ∷ new_object 5 3 0 ∷ [])) (make_plan 0 1 ∷ reserve 0 1 ∷ use_plan 1 ∷ []) is (1 ∷ 1 ∷ 0 ∷ [])
    -- "A shopkeeper's held transfer must not make any plan stale"
    ∷ stale (end fresh (first ++ (make_plan 0 64 ∷ transfer (item as_move v63 0 ∷ []) ∷ []))) 3 is (0 ∷ [])
    ∷ numbers (end fresh (first ++ (make_plan 0 64 ∷ transfer (item as_move v63 0 ∷ []) ∷ []))) (rollback 4 ∷ use_plan 3 ∷ []) is (0 ∷ 0 ∷ [])
    ∷ numbers (end fresh (first ++ (make_plan 0 64 ∷ transfer (item as_move v63 0 ∷ []) ∷ []))) (use_plan 3 ∷ []) is (0 ∷ [])
    ∷ []

pub plans_hold : (k : ℕ) (c : Case) → nth plans k ≡ some c → c.given ≡ c.said
unfolding plans
plans_hold = line plans refl
