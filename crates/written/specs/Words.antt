-- THE WORDS OF A STATE, by address: docs/formats.md, "The state's words". Words out of use are 0.
use Rattle.std.specs.Prelude.{not, ◌&&◌, List, [], ◌∷◌, ℕ, zero, suc, ◌+◌, ◌-◌, ◌*◌, length, get_or, ltb}
use Rattle.std.proofs.Math.Option.{Option, none, some}
use Rattle.model.specs.Base.{pick, bit, nth, or_else, sum}
use Rattle.model.specs.State.{till, Handle, Slot, Slot.absent, Slot.vacant, Slot.reserved, Slot.transfer_reserved, Slot.occupied, Lifecycle, Lifecycle.active, Lifecycle.tearing_down, Lifecycle.retired, Table, Object, Entry, Entry.moved, Entry.copied, Body, Body.reservation, Body.claim, Body.parcel, Body.plan, StorageSnapshot, Row, State}
use Rattle.model.specs.Storage.{busy_of}
use Rattle.model.specs.WellFormed.{is_frame, is_attached, plans_with}
use Rattle.model.specs.Book.{find}
use Rattle.layout.specs.Layout.{Addr, Addr.reg}
use Rattle.layout.specs.Values.{format_version, tag_vacant, tag_reserved, tag_transfer_reserved, tag_occupied, kind_reservation, kind_claim, kind_parcel, kind_plan, life_active, life_tearing_down, life_retired, operation_move, operation_copy}
use Rattle.layout.specs.Sizes.{page_size, plan_owner}
use Rattle.representation.specs.Represents.{link_of, free_in, class_word, stage_word}
use Rattle.written.specs.Searches.{seek, first_of, after, before, place_of, moved_at, rank_of, holder_of}

-- ---- header

-- the number of table b's first page entry
abbrev pub entries_before : State → ℕ → ℕ
entries_before s b = sum b λ c. (s.tables c).limit

abbrev pub root_words : State → List ℕ
root_words s =
    format_version ∷ s.table_count ∷ s.frame_count ∷ s.object_count ∷ s.book.capacity ∷ s.book.next ∷ length s.book.rows ∷ length s.frames
    ∷ entries_before s s.table_count ∷ []

-- ---- table heads

abbrev pub life_word : Lifecycle → ℕ
life_word active = life_active
life_word (tearing_down c) = life_tearing_down
life_word retired = life_retired

abbrev pub cursor_word : Lifecycle → ℕ
cursor_word active = 0
cursor_word (tearing_down c) = c
cursor_word retired = 0

-- of a table whose first page entry is e
abbrev pub head_words : Table → ℕ → List ℕ
head_words t e =
    t.limit ∷ t.mask ∷ life_word t.life ∷ cursor_word t.life ∷ t.epoch ∷ t.size
    ∷ first_of t.free ∷ length t.free ∷ first_of t.empty ∷ first_of t.detached ∷ e ∷ []

-- ---- page entries

-- the order that a page stands in, if it stands in one
abbrev pub order_of : Table → ℕ → List ℕ
order_of t p = pick (is_attached t p) t.empty t.detached

abbrev pub page_words : Table → ℕ → List ℕ
page_words t p = link_of (t.pages p).frame ∷ (t.pages p).high ∷ busy_of till t.slots p ∷ after p (order_of t p) ∷ before p 0 t.empty ∷ []

-- the table of a page entry, and the page in it
unfoldable pub table_at : State → ℕ → ℕ
table_at s e = or_else (seek s.table_count λ b. not (ltb e (entries_before s b)) && ltb e (entries_before s (suc b))) 0

unfoldable pub page_at : State → ℕ → ℕ
page_at s e = e - entries_before s (table_at s e)

-- ---- frames

-- the page entry that has a frame, if one has
unfoldable pub owner_of : State → ℕ → Option ℕ
owner_of s f = seek (entries_before s s.table_count) λ e. is_frame ((s.tables (table_at s e)).pages (page_at s e)).frame f

-- the owner word of a frame: a plan holds it, or a page has it, or it is free; a row's place is its rank
abbrev pub owner_word : State → ℕ → ℕ
owner_word s f = pick (ltb 0 (plans_with s.book.rows f)) (plan_owner + holder_of f s.book.rows) (link_of (owner_of s f))

-- ---- slots

-- the position of a slot in its row
abbrev pub position_in : ℕ → Option Body → ℕ
position_in k none = 0
position_in k (some (reservation b ks)) = place_of k ks
position_in k (some (claim b es)) = moved_at k es
position_in k (some (parcel hs)) = 0
position_in k (some (plan b n w fs)) = 0

-- slot k, by the free order and the rows; a row's place is its rank
abbrev pub slot_words : List ℕ → List Row → ℕ → Slot → List ℕ
slot_words free rows k absent = []
slot_words free rows k (vacant g) = tag_vacant ∷ g ∷ after k free ∷ before k 0 free ∷ []
slot_words free rows k (reserved g i) = tag_reserved ∷ g ∷ rank_of i rows ∷ position_in k (find i rows) ∷ []
slot_words free rows k (transfer_reserved g i) = tag_transfer_reserved ∷ g ∷ rank_of i rows ∷ position_in k (find i rows) ∷ []
slot_words free rows k (occupied g h) = tag_occupied ∷ g ∷ h.object ∷ h.rights ∷ h.flags ∷ []

-- slot k of table b
abbrev pub slot_of : State → ℕ → ℕ → List ℕ
slot_of s b k = slot_words (s.tables b).free s.book.rows k ((s.tables b).slots k)

-- slot j of the page of an entry
abbrev pub cell_words : State → Option ℕ → ℕ → List ℕ
cell_words s none j = []
cell_words s (some e) j = slot_of s (table_at s e) (page_at s e * page_size + j)

-- ---- objects

abbrev pub object_words : Object → List ℕ
object_words x = x.koid ∷ x.kind ∷ class_word x.class ∷ x.supported ∷ bit x.exportable ∷ stage_word x.stage ∷ x.count ∷ x.limit ∷ []

-- ---- rows

abbrev pub body_words : Body → List ℕ
body_words (reservation b ks) = kind_reservation ∷ b ∷ length ks ∷ []
body_words (claim b es) = kind_claim ∷ b ∷ length es ∷ []
body_words (parcel hs) = kind_parcel ∷ 0 ∷ length hs ∷ []
body_words (plan b n w fs) = kind_plan ∷ b ∷ length fs ∷ n ∷ w.epoch ∷ []

abbrev pub slot_item : ℕ → List ℕ
slot_item k = k ∷ []

abbrev pub entry_item : Entry → List ℕ
entry_item (moved k h r) = operation_move ∷ k ∷ h.object ∷ h.rights ∷ h.flags ∷ r ∷ []
entry_item (copied h) = operation_copy ∷ 0 ∷ h.object ∷ h.rights ∷ h.flags ∷ []

abbrev pub handle_item : Handle → List ℕ
handle_item h = 0 ∷ 0 ∷ h.object ∷ h.rights ∷ h.flags ∷ []

-- item j of a plan: a page and the frame for it, and in the first the free slots
abbrev pub plan_item : StorageSnapshot → List ℕ → ℕ → List ℕ
plan_item w fs zero = get_or w.pages 0 0 ∷ get_or fs 0 0 ∷ w.free_slots ∷ []
plan_item w fs (suc j) = get_or w.pages (suc j) 0 ∷ get_or fs (suc j) 0 ∷ []

-- the words of what may be missing
abbrev pub words_of : {A : Type 0} → (A → List ℕ) → Option A → List ℕ
words_of f none = []
words_of f (some a) = f a

abbrev pub item_words : Body → ℕ → List ℕ
item_words (reservation b ks) j = words_of slot_item (nth ks j)
item_words (claim b es) j = words_of entry_item (nth es j)
item_words (parcel hs) j = words_of handle_item (nth hs j)
item_words (plan b n w fs) j = plan_item w fs j

-- a row's blocks: the row, then its items
abbrev pub block_words : ℕ → Row → List ℕ
block_words zero r = r.id ∷ body_words r.body
block_words (suc j) r = item_words r.body j

-- ---- all of them

-- number (x, y) of each region, in the layout's order
abbrev pub parts : State → List (ℕ → ℕ → List ℕ)
parts s =
    -- 0 header
    (λ x y. root_words s)
    -- 1 table heads
    ∷ (λ x y. head_words (s.tables x) (entries_before s x))
    -- 2 page entries
    ∷ (λ x y. page_words (s.tables (table_at s x)) (page_at s x))
    -- 3 frame owners
    ∷ (λ x y. owner_word s x ∷ [])
    -- 4 to 6 free frames in each 16, 256 and 4,096
    ∷ (λ x y. free_in s 16 x ∷ [])
    ∷ (λ x y. free_in s 256 x ∷ [])
    ∷ (λ x y. free_in s 4096 x ∷ [])
    -- 7 frames: slots
    ∷ (λ x y. cell_words s (owner_of s x) y)
    -- 8 objects
    ∷ (λ x y. object_words (s.objects x))
    -- 9 row index: each row stands in the place of its rank
    ∷ (λ x y. x ∷ x ∷ [])
    -- 10 rows: the row, then its items
    ∷ (λ x y. words_of (block_words y) (nth s.book.rows x))
    ∷ []

abbrev pub part_of : List (ℕ → ℕ → List ℕ) → ℕ → ℕ → ℕ → List ℕ
part_of [] k x y = []
part_of (w ∷ ws) zero x y = w x y
part_of (w ∷ ws) (suc k) x y = part_of ws k x y

-- THE WORD at an address
unfoldable pub word_at : State → Addr → ℕ
word_at s (reg k x y f) = get_or (part_of (parts s) k x y) f 0
