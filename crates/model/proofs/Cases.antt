-- P1 to P12 of document 01, "Cases to prove, one table": one table, one computed test, one law. And its corner cases, in the same way.
use Rattle.std.specs.Prelude.{◌≡◌, refl, Bool, true, List, [], ◌∷◌, ◌++◌, map, ℕ, zero, suc, ◌+◌, ◌-◌, ◌*◌, ◌^◌, take, drop, eqb, ltb}
use Rattle.std.proofs.Math.Option.{Option, none, some}
use Rattle.authority.specs.Rights.{contains}
use Rattle.codec.specs.Codec.{encode, payload, decodes, payload_in, number_in, slot_in, generation_in, next_generation, mask_of}
use Rattle.model.specs.Base.{pick, put, every, nth, range, push_all, same_list}
use Rattle.model.specs.State.{till, Slot.absent, Slot.vacant, Slot.occupied, Table, State, Lifecycle, Lifecycle.active, Lifecycle.tearing_down, Lifecycle.retired, Stage.still_new, Stage.now_active, Object, max_batch, max_slots, known_flags}
use Rattle.model.specs.State.{last_id}
use Rattle.model.specs.Storage.{place, vacate, take_free, pages_for, attach, detach, slots_of}
use Rattle.model.specs.Request.{Answer, Answer.refused, Route.buffered, Route.rendezvous, Item, Operation, Operation.as_move, Operation.as_copy}
use Rattle.model.specs.Request.{Request, Request.new_object, Request.duplicate, Request.release_parcel, Request.retire_object, Request.reserve}
use Rattle.model.specs.Request.{Request.trim, Request.abort, Request.publish, Request.get_info, Request.resolve, Request.replace}
use Rattle.model.specs.Request.{Request.close, Request.scan_handles, Request.prepare_transfer, Request.prepare_consumption, Request.rollback}
use Rattle.model.specs.Request.{Request.commit, Request.direct_commit, Request.direct_rollback, Request.remove_stopping_owner}
use Rattle.model.specs.Request.{Request.teardown_start, Request.teardown_step, Request.teardown_finish, Request.take_empty_page}
use Rattle.model.specs.Change.{with_table, with_book}
use Rattle.model.specs.Step.{decide, step, run, new_object_of, duplicate_of, release_parcel_of, retire_object_of, reserve_of, trim_of, abort_of}
use Rattle.model.specs.Step.{publish_of, get_info_of, resolve_of, replace_of, close_of, scan_handles_of, prepare_transfer_of, prepare_consumption_of}
use Rattle.model.specs.Step.{rollback_of, commit_of, direct_commit_of, direct_rollback_of, remove_stopping_owner_of, teardown_start_of, teardown_step_of}
use Rattle.model.specs.Step.{teardown_finish_of, take_empty_page_of}
use Rattle.model.specs.Create.{ObjectParameters, created}
use Rattle.model.specs.Words.{used_words}
use Rattle.model.proofs.Tests.{nth_passes, same_list_equal}

-- what the definitions give, beside what the paper says
pub record Case : Type 0 where
  pub given : List ℕ
  pub said : List ℕ

infix 68 ◌is◌
abbrev pub ◌is◌ : List ℕ → List ℕ → Case
◌is◌ a b = record { given = a; said = b }

abbrev pub agree : Case → Bool
agree c = same_list c.given c.said

-- what a computed test over a table says of each of its lines
pub line : (cs : List Case) → every agree cs ≡ true → (k : ℕ) (c : Case) → nth cs k ≡ some c → c.given ≡ c.said
line cs e k c h = same_list_equal c.given c.said (nth_passes agree cs e k c h)

-- The states that the cases start from

abbrev pub object_with : ℕ → ℕ → ℕ → ℕ → ℕ → ℕ → ObjectParameters
object_with koid kind class supported exportable limit = record { koid = koid; kind = kind; class = class; supported = supported; exportable = exportable; limit = limit }

-- "fresh": two tables of four pages with masks 0 and 5, four frames, eight rows; objects: 0 and 1 plain (1 with limit 2), 2 not exportable,
-- 3 RendezvousOnly, 4 with limit 0, 5 Never, 6 with the rights 1 and 2 alone
unfoldable pub fresh : State
unfolding created
fresh = created (record {
  tables = record { pages = 4; seed = 0 } ∷ record { pages = 4; seed = 5 } ∷ [];
  frames = 4;
  rows = 8;
  objects =
      object_with 70 3 0 15 1 100
      ∷ object_with 71 4 0 15 1 2
      ∷ object_with 72 5 0 15 0 100
      ∷ object_with 73 6 1 15 1 100
      ∷ object_with 74 7 0 15 1 0
      ∷ object_with 75 8 2 15 1 100
      ∷ object_with 76 9 0 3 1 100
      ∷ [];
})

-- a table whose first `pages` pages are attached in the frames of their numbers, with n slots, those below m occupied by object 0
abbrev pub filled : ℕ → ℕ → ℕ → List ℕ → Table
filled pages n m empty = record {
  limit = 8;
  mask = 0;
  life = active;
  epoch = 0;
  size = pages;
  pages = λ p. pick (ltb p pages) (record { frame = some p; high = 1 }) (record { frame = none; high = 0 });
  slots = λ k. pick (ltb k m) (occupied 1 (record { object = 0; rights = 3; flags = 0 })) (pick (ltb k n) (vacant 1) absent);
  free = push_all (range m (n - m)) [];
  empty = empty;
  detached = [];
}

-- the fresh state with such a table 0, eight frames and object 0 counted
abbrev pub holding : ℕ → ℕ → ℕ → List ℕ → State
holding pages n m empty = record {
  table_count = fresh.table_count;
  tables = put fresh.tables 0 (filled pages n m empty);
  object_count = fresh.object_count;
  objects = put fresh.objects 0 (let x : Object = fresh.objects 0 in record { koid = x.koid; kind = x.kind; class = x.class; supported = x.supported; exportable = x.exportable; limit = 1000; stage = pick (eqb m 0) still_new now_active; count = m });
  frame_count = 8;
  frames = range pages (8 - pages);
  book = fresh.book;
}

-- a detached page whose high mark is the limit, and an epoch at its end
abbrev pub worn : Table
worn = record {
  limit = 4;
  mask = 0;
  life = active;
  epoch = 2 ^ 64 - 1;
  size = 1;
  pages = λ p. record { frame = none; high = pick (eqb p 0) 4294967295 0 };
  slots = λ k. absent;
  free = [];
  empty = [];
  detached = 0 ∷ [];
}

abbrev pub with0 : Table → State
with0 t = with_table fresh 0 t

-- What is looked at

abbrev pub end : State → List Request → State
end s rs = (run till s rs).0

abbrev pub last_of : List Answer → Answer
last_of [] = refused 0
last_of (a ∷ []) = a
last_of (a ∷ b ∷ rest) = last_of (b ∷ rest)

-- the words in use of the last answer
abbrev pub last : State → List Request → List ℕ
last s rs = used_words (last_of (run till s rs).1)

-- the first word of each answer
abbrev pub first_word : List ℕ → ℕ
first_word [] = 0
first_word (w ∷ ws) = w

abbrev pub numbers : State → List Request → List ℕ
numbers s rs = map (λ a. first_word (used_words a)) (run till s rs).1

-- slot and generation of each value that the last answer gives
abbrev pub places_of : ℕ → List ℕ → List ℕ
places_of m [] = []
places_of m (v ∷ vs) = slot_in m v ∷ generation_in m v ∷ places_of m vs

abbrev pub places : State → List Request → List ℕ
places s rs = places_of 0 (drop 3 (last s rs))

-- length, whether there is a next cursor, the cursor, examined
abbrev pub scan : State → List Request → List ℕ
scan s rs = take 4 (drop 1 (last s rs))

abbrev pub decoded : ℕ → ℕ → List ℕ
decoded m v = pick (decodes m v) (0 ∷ slot_in m v ∷ generation_in m v ∷ []) (2 ∷ [])

-- a handle of object o published in table 0 (a fresh one: slot 63, generation 1, row ids 1 and 2)
abbrev pub first : List Request
first = new_object 0 15 0 ∷ reserve 0 1 ∷ publish 2 (1 ∷ []) ∷ []

abbrev pub v63 : ℕ
v63 = 0x4800000001000040

-- P1 to P12
pub papers : List Case
unfolding fresh encode payload decodes payload_in number_in slot_in generation_in mask_of next_generation contains max_batch max_slots known_flags last_id
    place vacate take_free pages_for attach detach decide step used_words
    new_object_of reserve_of abort_of publish_of close_of scan_handles_of take_empty_page_of
papers =
    (encode 0 0 1 ∷ []) is (0x4800000001000001 ∷ [])
    ∷ (encode 0 16777214 4294967295 ∷ []) is (0x48FFFFFFFFFFFFFF ∷ [])
    ∷ (encode 0x00FFFFFFFFFFFFFF 16777214 4294967295 ∷ []) is (0x4800000000000000 ∷ [])
    ∷ decoded 0 0x4800000001000000 is (2 ∷ [])
    ∷ decoded 0 0x4800000000000001 is (2 ∷ [])
    ∷ places fresh (reserve 0 3 ∷ []) is (63 ∷ 1 ∷ 62 ∷ 1 ∷ 61 ∷ 1 ∷ [])
    ∷ places fresh (reserve 0 3 ∷ abort 1 ∷ reserve 0 1 ∷ []) is (61 ∷ 2 ∷ [])
    ∷ numbers fresh (reserve 0 0 ∷ reserve 0 65 ∷ []) is (17 ∷ 13 ∷ [])
    ∷ scan (holding 1 64 9 []) (scan_handles 0 0 ∷ []) is (8 ∷ 1 ∷ 8 ∷ 8 ∷ [])
    ∷ scan (holding 1 64 9 []) (scan_handles 0 8 ∷ []) is (1 ∷ 0 ∷ 0 ∷ 56 ∷ [])
    ∷ scan (holding 5 320 0 (4 ∷ 3 ∷ 2 ∷ 1 ∷ 0 ∷ [])) (scan_handles 0 0 ∷ []) is (0 ∷ 1 ∷ 256 ∷ 256 ∷ [])
    ∷ places fresh (first ++ (close 0 v63 ∷ take_empty_page 0 ∷ reserve 0 1 ∷ [])) is (63 ∷ 3 ∷ [])
    ∷ []

pub papers_hold : (k : ℕ) (c : Case) → nth papers k ≡ some c → c.given ≡ c.said
unfolding papers
papers_hold = line papers refl

-- The corner cases of document 01, and the numbers of every request in their printed order

abbrev pub item : Operation → ℕ → ℕ → Item
item o v r = record { operation = o; value = v; rights = r; offered_rights = none; offered_kind = none; expected_kind = none }

abbrev pub transfer : List Item → Request
transfer qs = prepare_transfer 0 rendezvous none none qs

-- the value of a slot of table 0
abbrev pub at0 : ℕ → ℕ → ℕ
at0 k g = 0x4800000000000000 + (g * 2 ^ 24 + (k + 1))

-- the epoch, the first page's high mark, the free, empty and detached orders of table 0
abbrev pub orders : State → List ℕ
orders s = let t : Table = s.tables 0 in t.epoch ∷ (t.pages 0).high ∷ (t.free ++ (99 ∷ t.empty) ++ (99 ∷ t.detached))

abbrev pub next_id : State → List ℕ
next_id s = s.book.next ∷ []

-- the same state with the next id at its end
abbrev pub last_ids : State → State
last_ids s = with_book s (record { rows = s.book.rows; capacity = s.book.capacity; next = 2 ^ 64 - 1 })

-- an item with rights offered, and with kinds offered and expected
abbrev pub offered : ℕ → Item → Item
offered r q = record { operation = q.operation; value = q.value; rights = q.rights; offered_rights = some r; offered_kind = q.offered_kind; expected_kind = q.expected_kind }

abbrev pub of_kinds : Option ℕ → Option ℕ → Item → Item
of_kinds a b q = record { operation = q.operation; value = q.value; rights = q.rights; offered_rights = q.offered_rights; offered_kind = a; expected_kind = b }

-- an object's count
abbrev pub count_of : State → ℕ → List ℕ
count_of s o = (s.objects o).count ∷ []

-- three handles of object 0: rights 15 in slot 63, 7 in 62, 3 in 61
abbrev pub three : List Request
three = first ++ (duplicate 0 v63 7 ∷ duplicate 0 v63 3 ∷ reserve 0 2 ∷ publish 5 (3 ∷ 4 ∷ []) ∷ [])

-- where the teardown of table 0 stands, if it goes on
abbrev pub cursor_in : Lifecycle → List ℕ
cursor_in active = []
cursor_in (tearing_down c) = c ∷ []
cursor_in retired = []

abbrev pub cursor : State → List ℕ
cursor s = cursor_in (s.tables 0).life

-- n numbers from k on, falling
abbrev pub down : ℕ → ℕ → List ℕ
down k zero = []
down k (suc n) = k ∷ down (k - 1) n

pub corners : List Case
unfolding fresh encode payload decodes payload_in number_in slot_in generation_in mask_of next_generation contains max_batch max_slots known_flags last_id
    place vacate take_free pages_for attach detach decide step used_words
    new_object_of duplicate_of release_parcel_of retire_object_of reserve_of trim_of abort_of publish_of get_info_of resolve_of replace_of close_of scan_handles_of
    prepare_transfer_of prepare_consumption_of rollback_of commit_of direct_commit_of direct_rollback_of remove_stopping_owner_of teardown_start_of teardown_step_of
    teardown_finish_of take_empty_page_of
corners =
    -- "A value naming a TransferReserved slot of equal generation gives Busy. One naming a Reserved slot gives InvalidHandle"; `get_info` is the one exception (document 02, 2:
    -- LookCases.antt)
    numbers (end fresh first) (transfer (item as_move v63 3 ∷ []) ∷ resolve 0 v63 0 3 ∷ close 0 v63 ∷ transfer (item as_copy v63 3 ∷ []) ∷ resolve 0 (at0 63 2) 0 3 ∷ []) is (0 ∷ 3 ∷ 3 ∷ 3 ∷ 2 ∷ [])
    ∷ numbers fresh (reserve 0 1 ∷ resolve 0 v63 0 3 ∷ []) is (0 ∷ 2 ∷ [])
    -- "`next_generation` of 4,294,967,295 is 1"
    ∷ (next_generation 4294967295 ∷ next_generation 4294967294 ∷ []) is (1 ∷ 4294967295 ∷ [])
    -- "`prepare_transfer_with_storage` spends its id before it looks at any value; `prepare_consumption_with_storage` spends it after all checks"
    ∷ next_id (end fresh (transfer (item as_move v63 3 ∷ []) ∷ [])) is (2 ∷ [])
    ∷ next_id (end fresh (transfer [] ∷ prepare_consumption 0 v63 0 3 70 ∷ [])) is (1 ∷ [])
    -- "A value listed twice in one transfer gives InvalidHandle, even if one is Copy"
    ∷ numbers (end fresh first) (transfer (item as_move v63 3 ∷ item as_copy v63 3 ∷ []) ∷ get_info 0 v63 ∷ []) is (2 ∷ 0 ∷ [])
    -- "Moving a handle of a retired object is accepted; copying it gives ObjectRetired"
    ∷ numbers (end fresh (first ++ (retire_object 0 ∷ []))) (transfer (item as_copy v63 3 ∷ []) ∷ transfer (item as_move v63 3 ∷ []) ∷ []) is (9 ∷ 0 ∷ [])
    -- "If the fifth Copy is refused .. The port releases them": object 1 has limit 2, and the second copy is one too many
    ∷ count_of (end fresh (new_object 1 3 0 ∷ new_object 0 3 0 ∷ reserve 0 2 ∷ publish 3 (1 ∷ 2 ∷ []) ∷ duplicate 0 v63 3 ∷ transfer (item as_copy (at0 62 1) 3 ∷ item as_copy v63 3 ∷ []) ∷ [])) 0 is (1 ∷ [])
    ∷ numbers (end fresh (new_object 1 3 0 ∷ new_object 0 3 0 ∷ reserve 0 2 ∷ publish 3 (1 ∷ 2 ∷ []) ∷ duplicate 0 v63 3 ∷ [])) (transfer (item as_copy (at0 62 1) 3 ∷ item as_copy v63 3 ∷ []) ∷ []) is (11 ∷ [])
    -- "A Copy-only claim marks no slot .. the port [stops a second use] by the book"
    ∷ numbers (end fresh first) (transfer (item as_copy v63 1 ∷ []) ∷ get_info 0 v63 ∷ commit 3 ∷ commit 3 ∷ rollback 3 ∷ release_parcel 3 ∷ release_parcel 3 ∷ []) is (0 ∷ 0 ∷ 0 ∷ 18 ∷ 18 ∷ 0 ∷ 18 ∷ [])
    -- "Closing, aborting, trimming and committing put slots at the head of the free order, one by one in list order"
    ∷ places fresh (reserve 0 4 ∷ trim 1 1 ∷ reserve 0 3 ∷ []) is (60 ∷ 2 ∷ 61 ∷ 2 ∷ 62 ∷ 2 ∷ [])
    ∷ places (end fresh three) (transfer (item as_move v63 3 ∷ item as_move (at0 62 1) 3 ∷ []) ∷ commit 6 ∷ reserve 0 2 ∷ []) is (62 ∷ 2 ∷ 63 ∷ 2 ∷ [])
    ∷ places (end fresh three) (close 0 v63 ∷ close 0 (at0 62 1) ∷ reserve 0 2 ∷ []) is (62 ∷ 2 ∷ 63 ∷ 2 ∷ [])
    -- "`fresh_generation` at the limit gives 1 and lowers the page's high mark to 1"; "The epoch wraps from 2^64 - 1 to 0"
    ∷ places (with0 worn) (reserve 0 1 ∷ []) is (63 ∷ 1 ∷ [])
    ∷ take 2 (orders (end (with0 worn) (reserve 0 1 ∷ []))) is (0 ∷ 1 ∷ [])
    -- "Detached pages still count in the scan's length; their slots show nothing"
    ∷ scan fresh (reserve 0 1 ∷ abort 1 ∷ take_empty_page 0 ∷ scan_handles 0 0 ∷ []) is (0 ∷ 0 ∷ 0 ∷ 64 ∷ [])
    -- "Page 262,143 has 63 slots"
    ∷ (slots_of till 262142 ∷ slots_of till 262143 ∷ []) is (64 ∷ 63 ∷ [])
    -- "A value with another prefix gives 2"
    ∷ numbers (end fresh first) (get_info 0 v63 ∷ get_info 0 0x4900000001000040 ∷ get_info 0 0x0000000001000040 ∷ []) is (0 ∷ 2 ∷ 2 ∷ [])
    -- `replace` raises the page's high mark and keeps the slot
    ∷ take 2 (orders (end fresh (first ++ (replace 0 v63 1 ∷ [])))) is (1 ∷ 2 ∷ [])
    ∷ last (end fresh first) (replace 0 v63 1 ∷ []) is (0 ∷ at0 63 2 ∷ [])
    -- "Preparing and rolling back a transfer leave the epoch, the pages' high marks and the table's orders unchanged, and a commit moves them as
    -- closing the moved slots in the transfer's order would"
    ∷ orders (end fresh (first ++ (transfer (item as_move v63 3 ∷ []) ∷ []))) is orders (end fresh first)
    ∷ orders (end fresh (first ++ (transfer (item as_move v63 3 ∷ []) ∷ rollback 3 ∷ []))) is orders (end fresh first)
    ∷ orders (end fresh (three ++ (transfer (item as_move (at0 61 1) 0 ∷ item as_move v63 0 ∷ item as_move (at0 62 1) 0 ∷ []) ∷ [])))
    is orders (end fresh three)
    -- a page is empty once its last busy slot goes, and not before
    ∷ orders (end fresh (first ++ (close 0 v63 ∷ []))) is (1 ∷ 2 ∷ 63 ∷ (down 62 63 ++ (99 ∷ 0 ∷ 99 ∷ [])))
    -- rollback gives each handle back to its own slot when copies stand between the moves, and the copies' counts go
    ∷ last (end fresh three) (transfer (item as_move v63 3 ∷ item as_copy (at0 62 1) 1 ∷ item as_move (at0 61 1) 0 ∷ []) ∷ rollback 6 ∷ get_info 0 (at0 61 1) ∷ []) is (0 ∷ 70 ∷ 3 ∷ 3 ∷ 0 ∷ [])
    ∷ count_of (end fresh (three ++ (transfer (item as_move v63 3 ∷ item as_copy (at0 62 1) 1 ∷ item as_move (at0 61 1) 0 ∷ []) ∷ []))) 0 is (4 ∷ [])
    ∷ count_of (end fresh (three ++ (transfer (item as_move v63 3 ∷ item as_copy (at0 62 1) 1 ∷ item as_move (at0 61 1) 0 ∷ []) ∷ rollback 6 ∷ []))) 0 is (3 ∷ [])
    -- "Commit turns a claim's row into a parcel of the same id", with the rights asked for
    ∷ last (end fresh three) (transfer (item as_move v63 5 ∷ []) ∷ commit 6 ∷ reserve 1 1 ∷ publish 7 (6 ∷ []) ∷ get_info 1 (encode 5 63 1) ∷ []) is (0 ∷ 70 ∷ 3 ∷ 5 ∷ 0 ∷ [])
    -- "Falling to count 0 retires the object. Its owner may retire it by a request accepted in any state"
    ∷ numbers (end fresh first) (close 0 v63 ∷ new_object 0 3 0 ∷ retire_object 0 ∷ retire_object 7 ∷ retire_object 1 ∷ new_object 1 3 0 ∷ []) is (0 ∷ 9 ∷ 0 ∷ 18 ∷ 0 ∷ 9 ∷ [])
    -- "A new page takes the lowest free frame. A page taken by `take_empty_page` returns its frame": the frames that are free
    ∷ (end fresh (reserve 1 1 ∷ reserve 0 1 ∷ [])).frames is (2 ∷ 3 ∷ [])
    ∷ (end fresh (reserve 1 1 ∷ reserve 0 1 ∷ abort 1 ∷ take_empty_page 1 ∷ [])).frames is (0 ∷ 2 ∷ 3 ∷ [])
    -- a reservation that grows the table takes the new page's slots before older free ones, and detached pages come first
    ∷ places fresh (reserve 0 60 ∷ reserve 0 5 ∷ []) is (127 ∷ 1 ∷ 126 ∷ 1 ∷ 125 ∷ 1 ∷ 124 ∷ 1 ∷ 123 ∷ 1 ∷ [])
    ∷ places fresh (reserve 0 64 ∷ reserve 0 1 ∷ abort 1 ∷ take_empty_page 0 ∷ reserve 0 64 ∷ []) is places_of 0 (map (λ k. at0 k 3) (down 63 64))
    -- "fewer free frames than pages needed, or no free row"; "pages needed beyond the limit"
    ∷ numbers fresh (reserve 0 64 ∷ reserve 1 64 ∷ reserve 0 64 ∷ reserve 0 64 ∷ reserve 1 1 ∷ []) is (0 ∷ 0 ∷ 0 ∷ 0 ∷ 1 ∷ [])
    ∷ numbers (holding 8 512 512 []) (reserve 0 1 ∷ []) is (15 ∷ [])
    ∷ numbers fresh (reserve 0 1 ∷ reserve 0 1 ∷ reserve 0 1 ∷ reserve 0 1 ∷ reserve 0 1 ∷ reserve 0 1 ∷ reserve 0 1 ∷ reserve 0 1 ∷ reserve 0 1 ∷ abort 5 ∷ reserve 0 1 ∷ []) is (0 ∷ 0 ∷ 0 ∷ 0 ∷ 0 ∷ 0 ∷ 0 ∷ 0 ∷ 1 ∷ 0 ∷ 0 ∷ [])
    -- "ReservationIdExhausted: next id is 2^64 - 1", the last check
    ∷ numbers (last_ids fresh) (new_object 0 3 0 ∷ reserve 0 1 ∷ transfer (item as_move v63 0 ∷ []) ∷ transfer [] ∷ reserve 0 65 ∷ new_object 9 0 0 ∷ new_object 4 3 0 ∷ []) is (12 ∷ 12 ∷ 12 ∷ 17 ∷ 13 ∷ 18 ∷ 11 ∷ [])
    -- "New object: 1, 6, 7, activation, 12"
    ∷ numbers fresh (new_object 6 4 4 ∷ new_object 2 3 4 ∷ new_object 2 3 3 ∷ new_object 4 3 0 ∷ new_object 1 3 0 ∷ new_object 1 3 0 ∷ []) is (6 ∷ 7 ∷ 6 ∷ 11 ∷ 0 ∷ 10 ∷ [])
    -- .. "9 retired, 10 active, 11 limit reached, in that order": an active object at its limit, and the same one retired
    ∷ numbers fresh (new_object 1 3 0 ∷ reserve 0 1 ∷ publish 2 (1 ∷ []) ∷ duplicate 0 v63 1 ∷ new_object 1 3 0 ∷ retire_object 1 ∷ new_object 1 3 0 ∷ []) is (0 ∷ 0 ∷ 0 ∷ 0 ∷ 10 ∷ 0 ∷ 9 ∷ [])
    -- "Duplicate: 16, 1, 2 or 3, 5, 9, 11, 12"
    ∷ numbers (end fresh three) (duplicate 2 0 0 ∷ duplicate 0 0 0 ∷ duplicate 0 v63 16 ∷ replace 0 v63 2 ∷ duplicate 0 (at0 63 2) 0 ∷ retire_object 0 ∷ duplicate 0 (at0 62 1) 9 ∷ duplicate 0 (at0 62 1) 1 ∷ []) is (18 ∷ 2 ∷ 5 ∷ 0 ∷ 5 ∷ 0 ∷ 5 ∷ 9 ∷ [])
    ∷ numbers fresh (new_object 1 3 0 ∷ reserve 0 1 ∷ publish 2 (1 ∷ []) ∷ duplicate 0 v63 1 ∷ duplicate 0 v63 1 ∷ []) is (0 ∷ 0 ∷ 0 ∷ 0 ∷ 11 ∷ [])
    -- "Resolve: 16, 2 or 3, 5, 4"
    ∷ numbers (end fresh first) (resolve 3 v63 0 3 ∷ resolve 0 0 16 9 ∷ resolve 0 v63 16 9 ∷ resolve 0 v63 15 9 ∷ resolve 0 v63 15 3 ∷ resolve 1 v63 0 3 ∷ []) is (18 ∷ 2 ∷ 5 ∷ 4 ∷ 0 ∷ 2 ∷ [])
    ∷ last (end fresh first) (resolve 0 v63 15 3 ∷ []) is (0 ∷ 0 ∷ 70 ∷ 15 ∷ [])
    -- "Consumption: 16, 1, 2 or 3, 5, 4, 2, 12"; it does not ask for TRANSFER
    ∷ numbers (end fresh (first ++ (replace 0 v63 4 ∷ []))) (prepare_consumption 0 v63 16 9 9 ∷ prepare_consumption 0 (at0 63 2) 16 9 9 ∷ prepare_consumption 0 (at0 63 2) 4 9 9 ∷ prepare_consumption 0 (at0 63 2) 4 3 9 ∷ prepare_consumption 0 (at0 63 2) 4 3 70 ∷ prepare_consumption 0 (at0 63 2) 4 3 70 ∷ transfer (item as_move (at0 63 2) 0 ∷ []) ∷ []) is (2 ∷ 5 ∷ 4 ∷ 2 ∷ 0 ∷ 3 ∷ 3 ∷ [])
    -- "then item by item 2 (twice), 2 or 3 (lookup), 5 (rights), 8 (kind), 5 (object), 8 (route), 4"
    ∷ numbers (end fresh three) (transfer (item as_move 0 0 ∷ []) ∷ transfer (item as_move (at0 62 1) 8 ∷ []) ∷ transfer (offered 8 (item as_move (at0 62 1) 8) ∷ []) ∷ transfer (offered 1 (item as_move (at0 62 1) 2) ∷ []) ∷ transfer (offered 4 (item as_move (at0 62 1) 4) ∷ []) ∷ []) is (2 ∷ 5 ∷ 5 ∷ 5 ∷ 0 ∷ [])
    ∷ numbers (end fresh three) (replace 0 (at0 61 1) 1 ∷ replace 0 (at0 62 1) 2 ∷ transfer (item as_move (at0 61 2) 0 ∷ []) ∷ transfer (item as_copy (at0 62 2) 0 ∷ []) ∷ transfer (item as_move (at0 62 2) 0 ∷ []) ∷ []) is (0 ∷ 0 ∷ 5 ∷ 5 ∷ 0 ∷ [])
    ∷ numbers (end fresh three) (prepare_transfer 0 buffered (some 70) (some 3) (item as_move v63 0 ∷ []) ∷ prepare_transfer 0 buffered (some 70) (some 9) (item as_move v63 0 ∷ []) ∷ prepare_transfer 0 buffered (some 9) (some 9) (of_kinds (some 9) none (item as_move v63 0) ∷ []) ∷ prepare_transfer 0 buffered none none (of_kinds none (some 9) (item as_move v63 0) ∷ []) ∷ prepare_transfer 0 buffered none none (of_kinds (some 3) (some 3) (item as_move v63 0) ∷ []) ∷ []) is (8 ∷ 5 ∷ 4 ∷ 4 ∷ 0 ∷ [])
    ∷ numbers fresh (new_object 3 3 0 ∷ new_object 5 3 0 ∷ reserve 0 2 ∷ publish 3 (1 ∷ 2 ∷ []) ∷ prepare_transfer 0 buffered none none (of_kinds (some 9) none (item as_move v63 0) ∷ []) ∷ prepare_transfer 0 rendezvous none none (item as_move (at0 62 1) 0 ∷ []) ∷ prepare_transfer 0 rendezvous none none (item as_move v63 0 ∷ []) ∷ []) is (0 ∷ 0 ∷ 0 ∷ 0 ∷ 8 ∷ 8 ∷ 0 ∷ [])
    -- "then copies 9, 11", copy by copy
    ∷ numbers fresh (new_object 1 3 0 ∷ new_object 0 3 0 ∷ reserve 0 2 ∷ publish 3 (1 ∷ 2 ∷ []) ∷ duplicate 0 v63 0 ∷ retire_object 0 ∷ transfer (item as_copy v63 0 ∷ item as_copy (at0 62 1) 0 ∷ []) ∷ transfer (item as_copy (at0 62 1) 0 ∷ item as_copy v63 0 ∷ []) ∷ []) is (0 ∷ 0 ∷ 0 ∷ 0 ∷ 0 ∷ 0 ∷ 11 ∷ 9 ∷ [])
    -- trim, publish and direct requests: "row named twice; lengths differ; trim to 0 or above the batch", a row of another kind
    ∷ numbers fresh (new_object 0 3 0 ∷ reserve 0 2 ∷ trim 2 0 ∷ trim 2 3 ∷ trim 1 1 ∷ publish 2 [] ∷ publish 2 (1 ∷ []) ∷ publish 2 (1 ∷ 1 ∷ []) ∷ publish 2 (1 ∷ 9 ∷ []) ∷ publish 1 (1 ∷ []) ∷ trim 2 2 ∷ trim 2 1 ∷ publish 2 (1 ∷ []) ∷ abort 2 ∷ []) is (0 ∷ 0 ∷ 18 ∷ 18 ∷ 18 ∷ 18 ∷ 18 ∷ 18 ∷ 18 ∷ 18 ∷ 0 ∷ 0 ∷ 0 ∷ 18 ∷ [])
    ∷ numbers (end fresh three) (transfer (item as_move v63 3 ∷ item as_copy (at0 62 1) 1 ∷ []) ∷ reserve 0 1 ∷ reserve 1 2 ∷ direct_commit 6 7 ∷ direct_rollback 6 7 ∷ direct_commit 7 6 ∷ direct_commit 6 8 ∷ get_info 1 (encode 5 63 1) ∷ get_info 1 (encode 5 62 1) ∷ get_info 0 v63 ∷ rollback 6 ∷ abort 8 ∷ []) is (0 ∷ 0 ∷ 0 ∷ 18 ∷ 18 ∷ 18 ∷ 0 ∷ 0 ∷ 0 ∷ 2 ∷ 18 ∷ 18 ∷ [])
    ∷ places (end fresh first) (transfer (item as_move v63 3 ∷ []) ∷ reserve 0 1 ∷ direct_commit 3 4 ∷ reserve 0 2 ∷ []) is (63 ∷ 2 ∷ 61 ∷ 1 ∷ [])
    ∷ places (end fresh first) (transfer (item as_move v63 3 ∷ []) ∷ reserve 0 1 ∷ direct_rollback 3 4 ∷ reserve 0 2 ∷ []) is (62 ∷ 2 ∷ 61 ∷ 1 ∷ [])
    -- "Teardown start: 16, 14"; steps out of turn; "finish with an occupied slot"; afterwards 16, and "none" where document 01 says so
    ∷ numbers (end fresh first) (teardown_step 0 ∷ teardown_finish 0 ∷ reserve 0 1 ∷ teardown_start 0 ∷ abort 3 ∷ transfer (item as_copy v63 0 ∷ []) ∷ teardown_start 0 ∷ rollback 4 ∷ teardown_start 0 ∷ teardown_start 0 ∷ get_info 0 v63 ∷ scan_handles 0 0 ∷ remove_stopping_owner 0 5 ∷ take_empty_page 0 ∷ teardown_finish 0 ∷ teardown_step 0 ∷ teardown_step 0 ∷ teardown_finish 0 ∷ teardown_finish 0 ∷ reserve 0 1 ∷ teardown_start 0 ∷ []) is (18 ∷ 18 ∷ 0 ∷ 14 ∷ 0 ∷ 0 ∷ 14 ∷ 0 ∷ 0 ∷ 16 ∷ 16 ∷ 16 ∷ 0 ∷ 0 ∷ 18 ∷ 0 ∷ 0 ∷ 0 ∷ 18 ∷ 16 ∷ 16 ∷ [])
    ∷ last (end fresh three) (teardown_start 0 ∷ teardown_step 0 ∷ []) is (0 ∷ 1 ∷ 70 ∷ 3 ∷ 3 ∷ 0 ∷ [])
    ∷ last (end fresh three) (teardown_start 0 ∷ teardown_step 0 ∷ teardown_step 0 ∷ teardown_step 0 ∷ teardown_step 0 ∷ []) is (0 ∷ 0 ∷ [])
    -- a teardown's walk puts slots at the head of the free order; its cursor is the slot after the one found, and a step that finds none leaves it
    ∷ orders (end fresh (three ++ (teardown_start 0 ∷ teardown_step 0 ∷ teardown_step 0 ∷ []))) is (1 ∷ 2 ∷ 62 ∷ 61 ∷ (down 60 61 ++ (99 ∷ 99 ∷ [])))
    ∷ cursor (end fresh (three ++ (teardown_start 0 ∷ []))) is (0 ∷ [])
    ∷ cursor (end fresh (three ++ (teardown_start 0 ∷ teardown_step 0 ∷ []))) is (62 ∷ [])
    ∷ cursor (end fresh (three ++ (teardown_start 0 ∷ teardown_step 0 ∷ teardown_step 0 ∷ teardown_step 0 ∷ teardown_step 0 ∷ []))) is (64 ∷ [])
    -- a stopping owner's walk puts slots at the head of the free order
    ∷ places (end fresh three) (remove_stopping_owner 0 0 ∷ remove_stopping_owner 0 62 ∷ reserve 0 2 ∷ []) is (62 ∷ 2 ∷ 61 ∷ 2 ∷ [])
    -- "The cursor of `remove_stopping_owner` is a request field, and the answer gives it as left"
    ∷ last (end fresh three) (remove_stopping_owner 0 0 ∷ []) is (0 ∷ 1 ∷ 62 ∷ at0 61 1 ∷ 70 ∷ 3 ∷ 3 ∷ 0 ∷ [])
    ∷ last (end fresh three) (remove_stopping_owner 0 62 ∷ []) is (0 ∷ 1 ∷ 63 ∷ at0 62 1 ∷ 70 ∷ 3 ∷ 7 ∷ 0 ∷ [])
    ∷ last (end fresh three) (remove_stopping_owner 0 64 ∷ []) is (0 ∷ 0 ∷ 0 ∷ [])
    ∷ last (end fresh three) (teardown_start 0 ∷ remove_stopping_owner 0 7 ∷ []) is (0 ∷ 0 ∷ 7 ∷ [])
    -- `take_empty_page`: the page that fell empty last, then none
    ∷ last fresh (reserve 0 1 ∷ abort 1 ∷ take_empty_page 0 ∷ []) is (0 ∷ 1 ∷ 0 ∷ [])
    ∷ last fresh (take_empty_page 0 ∷ []) is (0 ∷ 0 ∷ [])
    ∷ last fresh (reserve 0 64 ∷ reserve 0 1 ∷ abort 1 ∷ abort 2 ∷ take_empty_page 0 ∷ []) is (0 ∷ 1 ∷ 1 ∷ [])
    -- `get_info` and a scan's entry
    ∷ last (end fresh first) (get_info 0 v63 ∷ []) is (0 ∷ 70 ∷ 3 ∷ 15 ∷ 0 ∷ [])
    ∷ last (end fresh first) (scan_handles 0 63 ∷ []) is (0 ∷ 1 ∷ 0 ∷ 0 ∷ 1 ∷ v63 ∷ 70 ∷ 3 ∷ 15 ∷ 0 ∷ [])
    ∷ scan (end fresh first) (scan_handles 0 1000 ∷ []) is (0 ∷ 0 ∷ 0 ∷ 0 ∷ [])
    ∷ []

pub corners_hold : (k : ℕ) (c : Case) → nth corners k ≡ some c → c.given ≡ c.said
unfolding corners
corners_hold = line corners refl
