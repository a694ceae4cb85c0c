-- The words of a well-formed state are words: each is below 2^64. Assumes nothing.
use Rattle.std.specs.Prelude.{◌≡◌, refl, Bool, true, false, not, List, [], ◌∷◌, ℕ, zero, suc, ◌+◌, ◌*◌, ◌^◌, ◌≤◌, ◌<◌, length, get_or, eqb, ltb}
use Rattle.std.proofs.Common.{sym, ap, ◌∙◌, arith, eq-eqb, ne_eqb, ltb-true, ltb-false}
use Rattle.std.proofs.Math.Option.{Option, none, some}
use Rattle.words.specs.Pick.{pick, pick_has, bool, clash, both}
use Rattle.words.specs.Words.{Small}
use Rattle.codec.specs.Codec.{generation_limit}
use Rattle.model.specs.Base.{bit, nth, occurs}
use Rattle.model.specs.State.{till, Handle, Slot, Slot.absent, Slot.vacant, Slot.reserved, Slot.transfer_reserved, Slot.occupied, Page, Lifecycle, Lifecycle.active, Lifecycle.tearing_down, Lifecycle.retired, Stage, Stage.still_new, Stage.now_active, Stage.now_retired, Entry, Entry.moved, Entry.copied, Body, Body.reservation, Body.claim, Body.parcel, Body.plan, Row, State, is_absent, is_vacant, generation, max_tables, max_frames, max_objects, max_rows, max_limit, max_slots, known_flags}
use Rattle.model.specs.Storage.{busy_of}
use Rattle.model.specs.Create.{max_pages}
use Rattle.model.specs.Book.{find, moved_of}
use Rattle.model.proofs.Bounds.{slots_max_law, pages_max_law, batch_max_law, busy_small}
use Rattle.model.proofs.Tests.{bit_true, bit_small}
use Rattle.model.proofs.Counting.{bit_same, nth_occurs, sum_le, sum_ones, sum_occurs}
use Rattle.model.specs.WellFormed.{All, HandleRange, SlotRange, EntryRange, LifeRange, BodyRange, RowRange, IdsRise, is_attached, is_reserved_by, is_moving_by, frames_in, plans_with, WellFormed}
use Rattle.layout.specs.declared.Extent.{Extent}
use Rattle.layout.specs.Regions.{region, Inside}
use Rattle.layout.specs.Layout.{Addr, Addr.reg, In, layout}
use Rattle.layout.specs.Sizes.{page_size, pages_max, slots_max, tables_max, frames_max, batch_max, plan_owner}
use Rattle.representation.specs.Represents.{link_of, free_in, stage_word}
use Rattle.representation.specs.Told.{class_small}
use Rattle.representation.specs.Unique.{shape_for}
use Rattle.written.specs.Searches.{seek_below, after, first_member, after_member, before_member, rank_of, rank_most, holder_of, holder_most, place_most, moved_most}
use Rattle.written.specs.Words.{entries_before, root_words, life_word, cursor_word, head_words, order_of, page_words, table_at, page_at, owner_of, owner_word, position_in, slot_words, slot_of, cell_words, object_words, body_words, slot_item, entry_item, handle_item, plan_item, words_of, item_words, block_words, parts, part_of, word_at}
use Rattle.written.proofs.Spread.{spread_below}
use Rattle.written.proofs.Entries.{run_of, table_at_law, page_at_law, frame_low, free_low, free_most, word_planned}
use Rattle.written.proofs.Rows.{all_at, range_of, plan_few}
use Rattle.written.proofs.Tables.{order_empty, order_detached, attached_low, slot_there}
use Rattle.written.proofs.Whole.{written, pages_between}

-- ---- words that fit

abbrev Fit : List ℕ → Type 0
Fit ws = All (λ (n : ℕ). n < 2 ^ 64) ws

fit_get : (ws : List ℕ) (f : ℕ) → Fit ws → get_or ws f 0 < 2 ^ 64
fit_get [] f h = omega arith
fit_get (x ∷ ws) zero h = h.0
fit_get (x ∷ ws) (suc f) h = fit_get ws f h.1

-- numbers that fit by what they all are, or by each
all_wide : (P : ℕ → Type 0) (ws : List ℕ) → ((n : ℕ) → P n → n < 2 ^ 64) → All P ws → Fit ws
all_wide P [] f h = tt
all_wide P (x ∷ ws) f h = (f x h.0, all_wide P ws f h.1)

all_in : (ws : List ℕ) → ((n : ℕ) → 0 < occurs n ws → n < 2 ^ 64) → Fit ws
all_in [] f = tt
all_in (x ∷ ws) f = (f x (omega (arith, bit_same x x refl)), all_in ws (λ n h. f n (omega arith)))

-- each part's words fit in the part's region
abbrev FitAll : List Extent → List (ℕ → ℕ → List ℕ) → Type 0
FitAll [] ps = Unit {0}
FitAll (e ∷ es) [] = Unit {0}
FitAll (e ∷ es) (p ∷ ps) = ((x y : ℕ) → x < e.x → Fit (p x y)) × FitAll es ps

fit_at : (es : List Extent) (ps : List (ℕ → ℕ → List ℕ)) → FitAll es ps → (k x y f : ℕ) → Inside (region es k) x y f → get_or (part_of ps k x y) f 0 < 2 ^ 64
fit_at [] ps h k x y f i = absurd (omega (arith, i.xs))
fit_at (e ∷ es) [] h k x y f i = omega arith
fit_at (e ∷ es) (p ∷ ps) h zero x y f i = fit_get (p x y) f (h.0 x y i.xs)
fit_at (e ∷ es) (p ∷ ps) h (suc k) x y f i = fit_at es ps h.1 k x y f i

-- ---- numbers that are small

-- a list without repetition is no longer than the numbers that it is of
distinct_length : (n : ℕ) (l : List ℕ) → ((x : ℕ) → 0 < occurs x l → x < n) → ((x : ℕ) → occurs x l ≤ 1) → length l ≤ n
distinct_length n l h u = omega (arith, sum_occurs n l h, sum_le n (λ i. occurs i l) (λ i. 1) (λ i p. u i), sum_ones n)

life_small : (l : Lifecycle) → LifeRange l → (life_word l ≤ 2) × (cursor_word l ≤ max_slots)
life_small active h = (omega arith, omega arith)
life_small (tearing_down c) h = (omega arith, h)
life_small retired h = (omega arith, omega arith)

stage_small : (g : Stage) → stage_word g ≤ 2
stage_small still_new = omega arith
stage_small now_active = omega arith
stage_small now_retired = omega arith

-- a slot that passes a test which an absent one does not
there_by : (p : Slot → Bool) (x : Slot) → p absent ≡ false → p x ≡ true → is_absent x ≡ false
there_by p absent n y = clash y n
there_by p (vacant g) n y = refl
there_by p (reserved g i) n y = refl
there_by p (transfer_reserved g i) n y = refl
there_by p (occupied g h) n y = refl

-- ---- elements by number

nth_moved : (es : List Entry) (j k : ℕ) (h : Handle) (r : ℕ) → nth es j ≡ some (moved k h r) → 0 < occurs k (moved_of es)
nth_moved [] j k h r e = let z : ◌≡◌ {A = ℕ} 0 1 = cc in absurd (omega arith)
nth_moved (moved x g y ∷ es) zero k h r e = let q : x ≡ k = cc in omega (arith, bit_same k x (sym q))
nth_moved (moved x g y ∷ es) (suc j) k h r e = omega (arith, nth_moved es j k h r e)
nth_moved (copied g ∷ es) zero k h r e = let z : ◌≡◌ {A = ℕ} 0 1 = cc in absurd (omega arith)
nth_moved (copied g ∷ es) (suc j) k h r e = nth_moved es j k h r e

-- a row is found by its id, which is below the next
row_found : (lo n : ℕ) (rs : List Row) (j : ℕ) (r : Row) → IdsRise lo rs n → nth rs j ≡ some r → (find r.id rs ≡ some r.body) × (lo ≤ r.id) × (r.id < n)
row_found lo n [] j r h e = let z : ◌≡◌ {A = ℕ} 0 1 = cc in absurd (omega arith)
row_found lo n (x ∷ rs) zero r h e =
    let q : x ≡ r = cc in rw (← q) (rw (eq-eqb x.id x.id refl), h.0, rising (suc x.id) rs h.1)
  where
    rising : (l : ℕ) (ys : List Row) → IdsRise l ys n → l ≤ n
    rising l [] g = g
    rising l (y ∷ ys) g = omega (arith, g.0, rising (suc y.id) ys g.1)
row_found lo n (x ∷ rs) (suc j) r h e =
    let f = row_found (suc x.id) n rs j r h.1 e in
    (rw (ne_eqb x.id r.id (λ q. omega (arith, f.1))) f.0, omega (arith, f.1, h.0), f.2)

-- ---- the parts

module _ (s : State) (w : WellFormed till s) where
  -- what stands in an order is a slot, or a page that the table has had
  free_in_law : (b k : ℕ) → 0 < occurs k (s.tables b).free → k < slots_max
  free_in_law b k o = let v = bit_true (is_vacant ((s.tables b).slots k)) (omega (arith, (w.orders b).free k)) in
      omega (arith, (slot_there s w b k (there_by is_vacant ((s.tables b).slots k) refl v)).low, slots_max_law)

  empty_in : (b p : ℕ) → 0 < occurs p (s.tables b).empty → p < (s.tables b).size
  empty_in b p o = attached_low s w b p (both (is_attached (s.tables b) p) (eqb (busy_of till (s.tables b).slots p) 0) (bit_true _ (omega (arith, (w.orders b).empty p)))).0

  detached_in : (b p : ℕ) → 0 < occurs p (s.tables b).detached → p < (s.tables b).size
  detached_in b p o = ltb-true p (s.tables b).size (both (ltb p (s.tables b).size) (not (is_attached (s.tables b) p)) (bit_true _ (omega (arith, (w.orders b).detached p)))).0

  sizes : (b : ℕ) → b < s.table_count → ((s.tables b).size ≤ (s.tables b).limit) × ((s.tables b).limit ≤ pages_max)
  sizes b h = let r = w.ranges.tables b h in (r.size, omega (arith, r.limit.1, pages_max_law))

  table_few : s.table_count ≤ tables_max
  unfolding max_tables
  table_few = w.ranges.table_count.1

  frame_few : s.frame_count ≤ frames_max
  unfolding max_frames
  frame_few = w.ranges.frame_count

  object_few : s.object_count ≤ 4096
  unfolding max_objects
  object_few = w.ranges.object_count.1

  row_few : s.book.capacity ≤ 256
  unfolding max_rows
  row_few = w.ranges.capacity.1

  entries_few : (b : ℕ) → b ≤ s.table_count → entries_before s b ≤ 4194304
  entries_few b h = omega (arith, (pages_between s w b h).1, table_few)

  root_fits : Fit (root_words s)
  root_fits =
      omega (
        arith,
        table_few,
        frame_few,
        object_few,
        row_few,
        w.ids.next,
        w.ranges.row_count,
        distinct_length s.frame_count s.frames (free_low s w.frames) (free_most s w.frames),
        entries_few s.table_count (omega arith),
      )

  head_fits : (b : ℕ) → b < s.table_count → Fit (head_words (s.tables b) (entries_before s b))
  head_fits b h =
      let r = w.ranges.tables b h in let z = sizes b h in let l = life_small (s.tables b).life r.life in
      omega (
        arith,
        z.0,
        z.1,
        r.mask,
        l.0,
        l.1,
        slots_max_law,
        r.epoch,
        first_member (s.tables b).free slots_max (free_in_law b),
        distinct_length slots_max (s.tables b).free (free_in_law b) (λ k. omega (arith, (w.orders b).free k, bit_small (is_vacant ((s.tables b).slots k)))),
        first_member (s.tables b).empty (s.tables b).size (empty_in b),
        first_member (s.tables b).detached (s.tables b).size (detached_in b),
        entries_few b (omega arith),
      )

  link_small : (b p : ℕ) → b < s.table_count → p < (s.tables b).limit → link_of ((s.tables b).pages p).frame ≤ frames_max
  link_small b p h i = go ((s.tables b).pages p).frame refl
    where
      go : (x : Option ℕ) → ((s.tables b).pages p).frame ≡ x → link_of x ≤ frames_max
      go none e = omega arith
      go (some f) e = omega (arith, frame_low s w.frames b p f h i e, frame_few)

  high_small : (b p : ℕ) → b < s.table_count → ((s.tables b).pages p).high ≤ generation_limit
  high_small b p h = bool (ltb p (s.tables b).size)
      (λ e. ((w.ranges.tables b h).high p (ltb-true p (s.tables b).size e)).1)
      (λ e. omega (arith, ap (λ (x : Page). x.high) (w.at_rest.pages b p (ltb-false p (s.tables b).size e))))

  order_in : (b p : ℕ) → after p (order_of (s.tables b) p) ≤ (s.tables b).size
  order_in b p = bool (is_attached (s.tables b) p)
      (λ e. rw (order_empty (s.tables b) p e) (after_member p (s.tables b).empty (s.tables b).size (empty_in b)))
      (λ e. rw (order_detached (s.tables b) p e) (after_member p (s.tables b).detached (s.tables b).size (detached_in b)))

  page_fits : (b p : ℕ) → b < s.table_count → p < (s.tables b).limit → Fit (page_words (s.tables b) p)
  page_fits b p h i =
      let z = sizes b h in
      omega (
        arith,
        link_small b p h i,
        high_small b p h,
        busy_small till (s.tables b).slots p,
        order_in b p,
        before_member p 0 (s.tables b).empty (s.tables b).size (omega arith) (empty_in b),
      )

  -- an entry is some page's
  of_entry : (P : ℕ → ℕ → Type 0) → ((b p : ℕ) → b < s.table_count → p < (s.tables b).limit → P b p) → (e : ℕ) → e < entries_before s s.table_count → P (table_at s e) (page_at s e)
  of_entry P h e l =
      let r = run_of s.table_count (λ c. (s.tables c).limit) e l in
      rw (r.4, table_at_law s r.0 r.1 r.2 r.3, page_at_law s r.0 r.1 r.2 r.3) (h r.0 r.1 r.2 r.3)

  owner_low : (f e : ℕ) → owner_of s f ≡ some e → e < entries_before s s.table_count
  unfolding owner_of
  owner_low f e q = seek_below (entries_before s s.table_count) _ e q

  owner_fits : (f : ℕ) → Fit (owner_word s f ∷ [])
  owner_fits f = (
    pick_has (λ (x : ℕ). x < 2 ^ 64) (ltb 0 (plans_with s.book.rows f)) (plan_owner + holder_of f s.book.rows) (link_of (owner_of s f))
        (λ e. omega (arith, holder_most f s.book.rows, w.ranges.row_count, row_few))
        (λ e. go (owner_of s f) refl),
    tt,
  )
    where
      go : (x : Option ℕ) → owner_of s f ≡ x → link_of x < 2 ^ 64
      go none e = omega arith
      go (some k) e = omega (arith, owner_low f k e, entries_few s.table_count (omega arith))

  group_fits : (n g : ℕ) → n ≤ 4096 → Fit (free_in s n g ∷ [])
  group_fits n g h = (omega (arith, sum_le n (λ j. occurs (g * n + j) s.frames) (λ j. 1) (λ j p. free_most s w.frames (g * n + j)), sum_ones n), tt)

  handle_fits : (h : Handle) → HandleRange s h → (h.object < 2 ^ 64) × (h.rights < 2 ^ 64) × (h.flags < 2 ^ 64)
  unfolding known_flags
  handle_fits h r = (omega (arith, r.object, object_few), r.rights, omega (arith, r.flags))

  position_small : (k i : ℕ) → position_in k (find i s.book.rows) ≤ batch_max
  position_small k i = go (find i s.book.rows) refl
    where
      go : (d : Option Body) → find i s.book.rows ≡ d → position_in k d ≤ batch_max
      go none e = omega arith
      go (some (reservation b ks)) e = omega (arith, place_most k ks, (range_of s w i (reservation b ks) e).1.1, batch_max_law)
      go (some (claim b es)) e = omega (arith, moved_most k es, (range_of s w i (claim b es) e).1.1, batch_max_law)
      go (some (parcel hs)) e = omega arith
      go (some (plan b n v fs)) e = omega arith

  slot_fits : (b k : ℕ) → b < s.table_count → Fit (slot_of s b k)
  slot_fits b k h = go ((s.tables b).slots k) refl ((w.ranges.tables b h).slots k)
    where
      born : (x : Slot) → (s.tables b).slots k ≡ x → is_absent x ≡ false → generation x ≤ generation_limit
      born x e a = rw e at (w.generations b k (ap is_absent e ∙ a)).1

      rank_low : (i : ℕ) → rank_of i s.book.rows < 2 ^ 64
      rank_low i = omega (arith, rank_most i s.book.rows, w.ranges.row_count, row_few)

      go : (x : Slot) → (s.tables b).slots k ≡ x → SlotRange s x → Fit (slot_words (s.tables b).free s.book.rows k x)
      go absent e r = tt
      go (vacant g) e r =
          omega (arith, born (vacant g) e refl, after_member k (s.tables b).free slots_max (free_in_law b), before_member k 0 (s.tables b).free slots_max (omega arith) (free_in_law b))
      go (reserved g i) e r = omega (arith, born (reserved g i) e refl, rank_low i, position_small k i)
      go (transfer_reserved g i) e r = omega (arith, born (transfer_reserved g i) e refl, rank_low i, position_small k i)
      go (occupied g x) e r = omega (arith, born (occupied g x) e refl, handle_fits x r)

  cell_fits : (f j : ℕ) → Fit (cell_words s (owner_of s f) j)
  cell_fits f j = go (owner_of s f) refl
    where
      go : (x : Option ℕ) → owner_of s f ≡ x → Fit (cell_words s x j)
      go none e = tt
      go (some k) e = of_entry (λ b p. Fit (slot_of s b (p * page_size + j))) (λ b p h i. slot_fits b (p * page_size + j) h) k (owner_low f k e)

  object_fits : (o : ℕ) → o < s.object_count → Fit (object_words (s.objects o))
  unfolding max_limit
  object_fits o h =
      let r = w.ranges.objects o h in let x = s.objects o in
      omega (arith, r.koid.1, r.kind, class_small x.class, r.supported, bit_small x.exportable, stage_small x.stage, w.counts.within o h, r.limit)

  -- a slot of an open row
  reserved_low : (i b k : ℕ) (ks : List ℕ) → find i s.book.rows ≡ some (reservation b ks) → 0 < occurs k ks → k < slots_max
  reserved_low i b k ks e o =
      let q : pick (eqb b b) (occurs k ks) 0 ≡ bit (is_reserved_by i ((s.tables b).slots k)) = rw e at (w.marks.reserved i b k) in
      let p : occurs k ks ≡ bit (is_reserved_by i ((s.tables b).slots k)) = rw (eq-eqb b b refl) at q in
      omega (arith, (slot_there s w b k (there_by (is_reserved_by i) ((s.tables b).slots k) refl (bit_true _ (omega arith)))).low, slots_max_law)

  moving_low : (i b k : ℕ) (es : List Entry) → find i s.book.rows ≡ some (claim b es) → 0 < occurs k (moved_of es) → k < slots_max
  moving_low i b k es e o =
      let q : pick (eqb b b) (occurs k (moved_of es)) 0 ≡ bit (is_moving_by i ((s.tables b).slots k)) = rw e at (w.marks.transfer_reserved i b k) in
      let p : occurs k (moved_of es) ≡ bit (is_moving_by i ((s.tables b).slots k)) = rw (eq-eqb b b refl) at q in
      omega (arith, (slot_there s w b k (there_by (is_moving_by i) ((s.tables b).slots k) refl (bit_true _ (omega arith)))).low, slots_max_law)

  body_fits : (d : Body) → BodyRange till s d → Fit (body_words d)
  body_fits (reservation b ks) r = omega (arith, r.0, table_few, r.1.1, batch_max_law)
  body_fits (claim b es) r = omega (arith, r.0, table_few, r.1.1, batch_max_law)
  body_fits (parcel hs) r = omega (arith, r.0.1, batch_max_law)
  body_fits (plan b n v fs) r = omega (arith, r.table, table_few, r.held, plan_few s b n v fs r, r.count.1, batch_max_law, r.kept.epoch)

  item_fits : (i : ℕ) (d : Body) → find i s.book.rows ≡ some d → BodyRange till s d → ((f : ℕ) → 0 < occurs f (frames_in d) → f < s.frame_count) → (j : ℕ) → Fit (item_words d j)
  item_fits i (reservation b ks) e r o j = go (nth ks j) refl
    where
      go : (x : Option ℕ) → nth ks j ≡ x → Fit (words_of slot_item x)
      go none q = tt
      go (some k) q = (omega (arith, reserved_low i b k ks e (nth_occurs ks j k q)), tt)
  item_fits i (claim b es) e r o j = go (nth es j) refl
    where
      go : (x : Option Entry) → nth es j ≡ x → Fit (words_of entry_item x)
      go none q = tt
      go (some (moved k h y)) q =
          let g = all_at (EntryRange s) es j (moved k h y) r.2 q in
          omega (arith, moving_low i b k es e (nth_moved es j k h y q), handle_fits h g.0, g.1)
      go (some (copied h)) q = omega (arith, handle_fits h (all_at (EntryRange s) es j (copied h) r.2 q))
  item_fits i (parcel hs) e r o j = go (nth hs j) refl
    where
      go : (x : Option Handle) → nth hs j ≡ x → Fit (words_of handle_item x)
      go none q = tt
      go (some h) q = omega (arith, handle_fits h (all_at (HandleRange s) hs j h r.1 q))
  item_fits i (plan b n v fs) e r o j = go j
    where
      page : (k : ℕ) → get_or v.pages k 0 < 2 ^ 64
      page k = fit_get v.pages k (all_wide (λ p. p < max_pages till) v.pages (λ p h. omega (arith, pages_max_law)) r.kept.pages)

      frame : (k : ℕ) → get_or fs k 0 < 2 ^ 64
      frame k = fit_get fs k (all_in fs (λ f h. omega (arith, o f h, frame_few)))

      go : (k : ℕ) → Fit (plan_item v fs k)
      go zero = (page 0, (frame 0, (omega (arith, r.kept.free_slots, slots_max_law), tt)))
      go (suc k) = (page (suc k), (frame (suc k), tt))

  row_fits_law : (n y : ℕ) → Fit (words_of (block_words y) (nth s.book.rows n))
  row_fits_law n y = go (nth s.book.rows n) refl y
    where
      go : (x : Option Row) → nth s.book.rows n ≡ x → (y : ℕ) → Fit (words_of (block_words y) x)
      go none e y = tt
      go (some r) e zero =
          let f = row_found 1 s.book.next s.book.rows n r w.ids.rise e in
          (omega (arith, f.2, w.ids.next), body_fits r.body (all_at (RowRange till s) s.book.rows n r w.ranges.rows e))
      go (some r) e (suc j) =
          let f = row_found 1 s.book.next s.book.rows n r w.ids.rise e in
          item_fits r.id r.body f.0 (all_at (RowRange till s) s.book.rows n r w.ranges.rows e) (λ f h. (word_planned s w.frames f n r e h).0) j

  -- ---- all of them

  all_fit : FitAll (layout (shape_for s)) (parts s)
  unfolding shape_for
  all_fit = (
    (λ x y h. root_fits),
    (
      (λ x y h. head_fits x h),
      (
        (λ x y h. of_entry (λ b p. Fit (page_words (s.tables b) p)) page_fits x h),
        (
          (λ x y h. owner_fits x),
          (
            (λ x y h. group_fits 16 x (omega arith)),
            (
              (λ x y h. group_fits 256 x (omega arith)),
              (
                (λ x y h. group_fits 4096 x (omega arith)),
                (
                  (λ x y h. cell_fits x y),
                  ((λ x y h. object_fits x h), ((λ x y h. omega (arith, row_few)), ((λ x y h. row_fits_law x y), tt))),
                ),
              ),
            ),
          ),
        ),
      ),
    ),
  )

  word_small : (a : Addr) → In (shape_for s) a → word_at s a < 2 ^ 64
  unfolding word_at
  word_small (reg k x y f) i = fit_at (layout (shape_for s)) (parts s) all_fit k x y f i

  -- so lent words can hold them
  pub written_small : Small (written s)
  unfolding written
  written_small = spread_below (shape_for s) (word_at s) (2 ^ 64) (omega arith) word_small
