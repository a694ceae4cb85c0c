-- Contents that keep a slot busy and its generation change nothing of a table but slots; closing values vacates their slots in order.
-- Assumes nothing.
use Rattle.std.specs.Prelude.{◌≡◌, Bool, true, ◌&&◌, length, ltb, eqb}
use Rattle.std.proofs.Math.Path.{refl, ap}
use Rattle.std.proofs.Common.{sym, ◌∙◌}
use Rattle.std.proofs.Math.Bool.{false}
use mathlib.Core.List.{List, [], ◌∷◌, ◌++◌, map}
use Rattle.std.proofs.Math.Option.{Option, some}
use Prim.Native.Nat.{ℕ, ◌+◌, ◌*◌, ◌≤◌, ◌<◌}
use native.Mathlib.Omega.{arith}
use borrow.Author.Tests.{eqb-true, ltb-true}
use Rattle.authority.specs.Rights.{contains}
use Rattle.codec.specs.Codec.{encode, slot_in, generation_in, slot_limit, generation_limit, next_generation}
use Rattle.codec.proofs.Laws.{decodes_encoded, slot_encoded, generation_encoded, encode_decoded}
use Rattle.promises.specs.Transfers.{moves_of}
use Rattle.model.specs.Base.{pick, put, every, occurs, at_most}
use Rattle.model.specs.State.{Sizes, Handle, Slot, Slot.vacant, Slot.transfer_reserved, Slot.occupied, Table, Entry, Entry.moved, Entry.copied}
use Rattle.model.specs.State.{Body, Body.reservation, Body.claim, Row, State, generation, is_busy, is_absent, is_active, max_slots, max_batch}
use Rattle.model.specs.Storage.{raised, page_of, slots_of, busy_of, empty_after, place, keep, keep_all, vacate, vacate_all}
use Rattle.model.specs.Change.{with_table}
use Rattle.model.specs.Objects.{release, info_for}
use Rattle.model.specs.Request.{Route, Operation, Operation.as_move, Operation.as_copy, Item, Request, Request.close, Answer, Answer.opened, Answer.info_of}
use Rattle.model.specs.Book.{find, drop_id, swap_id, free_row, id_left, moved_of}
use Rattle.model.specs.Decision.{Decision, Decision.refusal, Decision.refusal_after_id, Decision.accept}
use Rattle.model.specs.Lookup.{View.holds, lookup, value_at, handle_or}
use Rattle.model.specs.Transfer.{is_copy, items_fault, copies_fault, entry_by, entry_for}
use Rattle.model.specs.Step.{restore_all, prepare_transfer_of, prepare_consumption_of, carry, step, run}
use Rattle.model.specs.WellFormed.{WellFormed}
use Rattle.model.proofs.Tests.{apart, bool, clash, same, bit_small}
use Rattle.model.proofs.Sums.{member_occurs}
use Rattle.model.proofs.Decided.{Decided, Any, accepts, checked, with_view, after_id}
use Rattle.invariant.proofs.Pointwise.{given, given_out, filled, moved_handles, restore_all_is, fill_all_slots, keep_all_slots}
use Rattle.invariant.proofs.BookLemmas.{found_range, ids_none}
use Rattle.invariant.proofs.Marks.{Owns, owns, both_marks, keys_claim}
use Rattle.invariant.proofs.Items.{stands_at, taken, items_stand, items_once}
use Rattle.invariant.proofs.Pages.{busy_in_equal, busy_there}
use Rattle.invariant.proofs.Orders.{below_of}
use Rattle.invariant.proofs.StorageDecisions.{sound_at}
use Rattle.noninterference.specs.Runs.{accepted, with_slots}
use Rattle.noninterference.proofs.Rows.{claim_open, find_new}
use Rattle.noninterference.proofs.Items.{Names, look_holds, AllName, all_name}
use Rattle.noninterference.proofs.Endings.{vacate_life, vacate_mask, close_is}
use Rattle.noninterference.proofs.Restore.{page_idle}

-- u is t with other slots, each as busy as before and of the same generation
pub record Steady (t u : Table) : Type 0 where
  pub only : u ≡ with_slots t u.slots
  pub busy : (j : ℕ) → is_busy (u.slots j) ≡ is_busy (t.slots j)
  pub gen : (j : ℕ) → generation (u.slots j) ≡ generation (t.slots j)

pub steady_self : (t : Table) → Steady t t
steady_self t = record { only = refl; busy = λ j. refl; gen = λ j. refl }

steady_then : {t u v : Table} → Steady t u → Steady u v → Steady t v
steady_then {t} {u} {v} p q = record {
  only = q.only ∙ ap (λ (x : Table). with_slots x v.slots) p.only;
  busy = λ j. q.busy j ∙ p.busy j;
  gen = λ j. q.gen j ∙ p.gen j;
}

module _ (z : Sizes) where
  -- "each generation is .. not above its page's high mark", of busy slots
  abbrev pub Under : Table → Type 0
  Under t = (k : ℕ) → is_busy (t.slots k) ≡ true → generation (t.slots k) ≤ (t.pages (page_of z k)).high

  under_steady : {t u : Table} → Steady t u → Under t → Under u
  under_steady {t} {u} p a k e = let h = a k (sym (p.busy k) ∙ e) in
      let i : (u.pages (page_of z k)).high ≡ (t.pages (page_of z k)).high = ap (λ (x : Table). (x.pages (page_of z k)).high) p.only in
      omega (arith, p.gen k)

  order_idle : (was is : Bool) (p : ℕ) (f : ℕ → Slot) (e : List ℕ) → was ≡ true → is ≡ true → empty_after z was is p f e ≡ e
  order_idle was is p f e a b = rw (a, b)

  -- contents that keep a busy slot busy and its generation
  pub keep_steady : (f : ℕ → Slot) → ((g : ℕ) → is_busy (f g) ≡ true) → ((g : ℕ) → generation (f g) ≡ g)
      → (t : Table) (k : ℕ) → Under t → is_busy (t.slots k) ≡ true → Steady t (keep z f t k)
  unfolding place
  keep_steady f b g t k a e = let n : ℕ = generation (t.slots k) in record {
    only = λ i. record {
      limit = t.limit;
      mask = t.mask;
      life = t.life;
      epoch = t.epoch;
      size = t.size;
      pages = λ q. page_idle t.pages (page_of z k) (generation (f n)) (omega (arith, a k e, g n)) q i;
      slots = put t.slots k (f n);
      free = t.free;
      empty = order_idle (is_busy (t.slots k)) (is_busy (f n)) (page_of z k) (put t.slots k (f n)) t.empty e (b n) i;
      detached = t.detached;
    };
    busy = λ j. bool (eqb j k) (λ q. rw (q, eqb-true j k q, e) (b n)) (λ q. rw q);
    gen = λ j. bool (eqb j k) (λ q. rw (q, eqb-true j k q) (g n)) (λ q. rw q);
  }

  -- each slot of a list is busy
  abbrev pub AllBusy : Table → List ℕ → Type 0
  AllBusy t ks = (k : ℕ) → 0 < occurs k ks → is_busy (t.slots k) ≡ true

  busy_head : (t : Table) (k : ℕ) (ks : List ℕ) → AllBusy t (k ∷ ks) → is_busy (t.slots k) ≡ true
  busy_head t k ks a = a k (rw (same k) (omega arith))

  busy_tail : {t u : Table} (k : ℕ) (ks : List ℕ) → Steady t u → AllBusy t (k ∷ ks) → AllBusy u ks
  busy_tail k ks p a j c = p.busy j ∙ a j (omega arith)

  -- a transfer marks its slots
  pub marks_steady : (i : ℕ) (ks : List ℕ) (t : Table) → Under t → AllBusy t ks → Steady t (keep_all z (λ g. transfer_reserved g i) ks t)
  marks_steady i [] t a b = steady_self t
  marks_steady i (k ∷ ks) t a b =
      let p : Steady t (keep z (λ g. transfer_reserved g i) t k) = keep_steady (λ g. transfer_reserved g i) (λ g. refl) (λ g. refl) t k a (busy_head t k ks b) in
      steady_then p (marks_steady i ks (keep z (λ g. transfer_reserved g i) t k) (under_steady p a) (busy_tail k ks p b))

  -- and a rollback puts the handles back
  pub restores_steady : (es : List Entry) (t : Table) → Under t → AllBusy t (moved_of es) → Steady t (restore_all z es t)
  restores_steady [] t a b = steady_self t
  restores_steady (moved k h r ∷ es) t a b =
      let p : Steady t (keep z (λ g. occupied g h) t k) = keep_steady (λ g. occupied g h) (λ g. refl) (λ g. refl) t k a (busy_head t k (moved_of es) b) in
      steady_then p (restores_steady es (keep z (λ g. occupied g h) t k) (under_steady p a) (busy_tail k (moved_of es) p b))
  restores_steady (copied h ∷ es) t a b = restores_steady es t a b

  -- VACATING
  empty_same : (was now : Bool) (p : ℕ) (f g : ℕ → Slot) (e : List ℕ) → was ≡ now → busy_of z f p ≡ busy_of z g p
      → empty_after z was false p f e ≡ empty_after z now false p g e
  empty_same true true p f g e q r = rw r
  empty_same true false p f g e q r = cc
  empty_same false true p f g e q r = cc
  empty_same false false p f g e q r = refl

  vacate_steady : (t : Table) (f : ℕ → Slot) (k : ℕ) → ((j : ℕ) → is_busy (f j) ≡ is_busy (t.slots j))
      → ((j : ℕ) → generation (f j) ≡ generation (t.slots j)) → Steady (vacate z t k) (vacate z (with_slots t f) k)
  unfolding vacate place
  vacate_steady t f k b g =
      let x : Slot = vacant (next_generation (generation (f k))) in
      let y : Slot = vacant (next_generation (generation (t.slots k))) in
      let busy_at : (j : ℕ) → is_busy (put f k x j) ≡ is_busy (put t.slots k y j) = λ j. bool (eqb j k) (λ q. rw q) (λ q. rw q (b j)) in
      let empty_is = empty_same (is_busy (f k)) (is_busy (t.slots k)) (page_of z k) (put f k x) (put t.slots k y) t.empty (b k)
      (busy_in_equal (put f k x) (put t.slots k y) (page_of z k * z.page_slots) (slots_of z (page_of z k)) (λ j l m. busy_at j)) in record {
        only = λ i. record {
          limit = t.limit;
          mask = t.mask;
          life = t.life;
          epoch = t.epoch;
          size = t.size;
          pages = put t.pages (page_of z k) (raised (t.pages (page_of z k)) (next_generation (g k i)));
          slots = put f k x;
          free = k ∷ t.free;
          empty = empty_is i;
          detached = t.detached;
        };
        busy = busy_at;
        gen = λ j. bool (eqb j k) (λ q. rw (q, g k)) (λ q. rw q (g j));
      }

  vacate_at : (t : Table) (k j : ℕ) → (vacate z t k).slots j ≡ put t.slots k (vacant (next_generation (generation (t.slots k)))) j
  unfolding vacate place
  vacate_at t k j = refl

  -- two tables that differ in the slots to be vacated are then the same
  pub vacates_same : (ks : List ℕ) (t u : Table) → Steady t u → ((j : ℕ) → occurs j ks ≡ 0 → u.slots j ≡ t.slots j)
      → vacate_all z ks u ≡ vacate_all z ks t
  vacates_same [] t u p o = p.only ∙ λ i. with_slots t (λ j. o j refl i)
  vacates_same (k ∷ ks) t u p o =
      ap (λ (x : Table). vacate_all z (k ∷ ks) x) p.only
      ∙ vacates_same ks (vacate z t k) (vacate z (with_slots t u.slots) k) (vacate_steady t u.slots k p.busy p.gen)
      (λ j c. rw (vacate_at t k j, vacate_at (with_slots t u.slots) k j) (bool (eqb j k)
      (λ q. rw (q, p.gen k))
      (λ q. rw q (o j (rw q (omega (arith, c)))))))

  -- CLOSING
  -- a handle that a value of its slot and generation names
  pub record Held (x : Slot) (k g : ℕ) : Type 0 where
    pub held : Handle
    pub stands : x ≡ occupied g held
    pub slot : k ≤ slot_limit
    pub gen : (1 ≤ g) × (g ≤ generation_limit)

  held_at : {x y : Slot} {k g : ℕ} → y ≡ x → Held x k g → Held y k g
  held_at e h = record { held = h.held; stands = e ∙ h.stands; slot = h.slot; gen = h.gen }

  looked : (y : Table) (k g : ℕ) (h : Held (y.slots k) k g) → lookup y (encode y.mask k g) ≡ holds k h.held
  looked y k g h = rw (
    decodes_encoded y.mask k g h.gen.0 h.gen.1,
    slot_encoded y.mask k g h.slot,
    generation_encoded y.mask k g h.gen.1,
    h.stands,
    same g,
  )

  module _ (b : ℕ) where
    -- the values of slots that hold handles are closed one by one: each closing is accepted, and together they vacate the slots in order
    pub closings : (m : ℕ) (g : ℕ → ℕ) (p : State) (y : Table) → p.tables b ≡ y → y.mask ≡ m → ltb b p.table_count ≡ true
        → is_active y.life ≡ true
        → (ks : List ℕ) → ((k : ℕ) → occurs k ks ≤ 1) → ((k : ℕ) → 0 < occurs k ks → Held (y.slots k) k (g k))
        → let rs : List Request = map (close b) (map (λ k. encode m k (g k)) ks) in
        (every accepted (run z p rs).1 ≡ true) × ((c : ℕ) → (run z p rs).0.tables c ≡ put p.tables b (vacate_all z ks y) c)
    closings m g p y e n c a [] o h = (refl, λ d. bool (eqb d b) (λ q. rw (q, eqb-true d b q) e) (λ q. rw q))
    closings m g p y e n c a (k ∷ ks) o h =
        let i : Held (y.slots k) k (g k) = h k (rw (same k) (omega arith)) in
        let rs : List Request = map (close b) (map (λ j. encode m j (g j)) ks) in
        let v : ℕ = encode m k (g k) in
        let u : State = release (with_table p b (vacate z y k)) (i.held ∷ []) in
        let d : step z p (close b v) ≡ (u, info_of (info_for p i.held)) =
        close_is z b p v k i.held c (rw e a) (rw (e, ← n) (looked y k (g k) i)) ∙ rw e in
        let w = closings m g u (vacate z y k) (rw (same b)) (vacate_mask z y k ∙ n) c (rw (vacate_life z y k) a) ks (λ j. omega (arith, o j))
        (λ j l. let x : eqb j k ≡ false = bool (eqb j k)
        (λ q. absurd (let f : 1 + occurs j ks ≤ 1 = rw q at (o j) in omega arith)) (λ q. q) in
        held_at (vacate_at y k j ∙ rw x) (h j (omega arith))) in (
          ap (λ (f : State × Answer). accepted f.1 && every accepted (run z f.0 rs).1) d ∙ w.0,
          λ j. ap (λ (f : State × Answer). (run z f.0 rs).0.tables j) d ∙ w.1 j ∙ bool (eqb j b) (λ q. rw q) (λ q. rw q),
        )

-- the handle that a moved slot gets back
past : (t : Bool) (h x : Handle) (o : Option Handle) → t ≡ false → o ≡ some x → pick t (some h) o ≡ some x
past t h x o e q = rw e q

given_in : (es : List Entry) (k : ℕ) → 0 < occurs k (moved_of es) → (h : Handle) × (given (moved_of es) (moved_handles es) k ≡ some h)
given_in [] k c = absurd (omega arith)
given_in (moved j h r ∷ es) k c = bool (eqb k j)
    (λ q. (h, rw q))
    (λ q. let i = given_in es k (omega (arith, rw q at c)) in (i.0, past (eqb k j) h i.0 (given (moved_of es) (moved_handles es) k) q i.1))
given_in (copied h ∷ es) k c = given_in es k c

-- STATES
module _ (z : Sizes) (s : State) (w : WellFormed z s) where
  pub under : (b : ℕ) → Under z (s.tables b)
  under b k e = (w.generations b k (busy_there ((s.tables b).slots k) e)).2

  -- a handle that stands in a slot of a table in use
  pub held_there : (b k : ℕ) (x : Slot) (h : Handle) → b < s.table_count → is_busy ((s.tables b).slots k) ≡ true
      → x ≡ occupied (generation ((s.tables b).slots k)) h → Held z x k (generation x)
  unfolding max_slots
  held_there b k x h l e q =
      let there : is_absent ((s.tables b).slots k) ≡ false = busy_there ((s.tables b).slots k) e in
      let g : generation x ≡ generation ((s.tables b).slots k) = ap generation q in
      let r = w.generations b k there in record {
        held = h;
        stands = q ∙ ap (λ n. occupied n h) (sym g);
        slot = omega (arith, below_of z (s.tables b) (s.tables b).free (sound_at z s w b l) k there);
        gen = (omega arith, omega arith);
      }

  -- an open claim
  module _ (i b : ℕ) (es : List Entry) (row : find i s.book.rows ≡ some (claim b es)) where
    pub claimed : Owns false i (moved_of es) (s.tables b).slots
    claimed = owns s.tables s.book.rows (both_marks s w.marks) false i b (moved_of es) (claim b es) (keys_claim b es) row

    pub claim_in : b < s.table_count
    claim_in = (found_range s w i (claim b es) row).0

    pub claim_active : is_active (s.tables b).life ≡ true
    claim_active = bool (is_active (s.tables b).life) (λ e. e) (λ e. clash (claim_open i b es s.book.rows row) (w.lifecycles.closing b e))

    pub rolled_steady : Steady (s.tables b) (restore_all z es (s.tables b))
    rolled_steady = restores_steady z es (s.tables b) (under b) claimed.busy

    rolled_slots : (j : ℕ) → (restore_all z es (s.tables b)).slots j ≡ filled (given (moved_of es) (moved_handles es) j) ((s.tables b).slots j)
    rolled_slots j = ap (λ (x : Table). x.slots j) (restore_all_is z es (s.tables b)) ∙ fill_all_slots z (moved_of es) (moved_handles es) (s.tables b) j (claimed.once j)

    -- its slots hold their handles again, the others are as they were
    pub rolled_held : (k : ℕ) → 0 < occurs k (moved_of es) → Held z ((restore_all z es (s.tables b)).slots k) k (generation ((restore_all z es (s.tables b)).slots k))
    rolled_held k c = let h = given_in es k c in
        held_there b k ((restore_all z es (s.tables b)).slots k) h.0 claim_in (claimed.busy k c) (rolled_slots k ∙ rw h.1)

    pub rolled_others : (j : ℕ) → occurs j (moved_of es) ≡ 0 → (restore_all z es (s.tables b)).slots j ≡ (s.tables b).slots j
    rolled_others j c = rolled_slots j ∙ rw (given_out (moved_of es) (moved_handles es) j c)

-- PREPARING
-- values that name handles are those of their slots
module _ (s : State) (t : Table) where
  value_is : (v : ℕ) (h : Handle) → Names t v h → value_at t (slot_in t.mask v) ≡ v
  value_is v h n = rw n.there (encode_decoded t.mask v n.valid)

  moves_are : (route : Route) (bo bk : Option ℕ) (qs : List Item) → AllName s t route bo bk qs
      → map (value_at t) (moved_of (map (entry_for t) qs)) ≡ moves_of qs
  moves_are route bo bk [] a = refl
  moves_are route bo bk (q ∷ qs) a = go q.operation (moves_are route bo bk qs a.1)
    where
      k : ℕ
      k = slot_in t.mask q.value

      go : (o : Operation) → map (value_at t) (moved_of (map (entry_for t) qs)) ≡ moves_of qs
          → map (value_at t) (moved_of (entry_by o k (handle_or (t.slots k)) q.rights ∷ map (entry_for t) qs))
          ≡ pick (is_copy o) (moves_of qs) (q.value ∷ moves_of qs)
      go as_move r = rw (value_is q.value (handle_or (t.slots k)) a.0, r)
      go as_copy r = r

own_generation : (x : Slot) (g : ℕ) (h : Handle) → x ≡ occupied g h → x ≡ occupied (generation x) h
own_generation x g h e = rw e

only_one : (j k : ℕ) → 0 < occurs j (k ∷ []) → j ≡ k
only_one j k c = bool (eqb j k) (λ q. eqb-true j k q) (λ q. absurd (omega (arith, rw q at c)))

-- what an accepted preparation leaves: a claim of slots that held handles, marked, and the values of these slots
pub record Prepared (z : Sizes) (s : State) (b : ℕ) (values : List ℕ) (u : State) (a : Answer) : Type 0 where
  pub es : List Entry
  pub answer : a ≡ opened s.book.next
  pub row : find s.book.next u.book.rows ≡ some (claim b es)
  pub marked : (c : ℕ) → u.tables c ≡ put s.tables b (keep_all z (λ g. transfer_reserved g s.book.next) (moved_of es) (s.tables b)) c
  pub within : b < s.table_count
  pub live : is_active (s.tables b).life ≡ true
  pub once : (k : ℕ) → occurs k (moved_of es) ≤ 1
  pub stood : (k : ℕ) → 0 < occurs k (moved_of es) → (h : Handle) × ((s.tables b).slots k ≡ occupied (generation ((s.tables b).slots k)) h)
  pub values_are : map (value_at (s.tables b)) (moved_of es) ≡ values

module _ (z : Sizes) (s : State) (w : WellFormed z s) where
  new_row : (b : ℕ) (es : List Entry) → find s.book.next (s.book.rows ++ (record { id = s.book.next; body = claim b es } ∷ [])) ≡ some (claim b es)
  new_row b es = find_new s.book.next (claim b es) s.book.rows
      (ids_none 1 s.book.next s.book.next s.book.rows w.ids.rise (omega arith))

  pub prepares : (b : ℕ) (route : Route) (bo bk : Option ℕ) (qs : List Item)
      → Decided Any Any (Prepared z s b (moves_of qs)) (prepare_transfer_of z s b route bo bk qs)
  unfolding prepare_transfer_of
  prepares b route bo bk qs = let t : Table = s.tables b in
      checked (ltb b s.table_count) _ tt λ l.
      checked (is_active t.life) _ tt λ a.
      checked (ltb 0 (length qs)) _ tt λ e.
      checked (at_most (length qs) max_batch) _ tt λ e.
      checked (free_row s) _ tt λ e.
      checked (id_left s) _ tt λ e.
      after_id (items_fault s t route bo bk [] 0 qs) (λ n e. tt) λ f.
      after_id (copies_fault s.objects 0 (map (entry_for t) qs)) (λ n e. tt) λ e.
      accepts (record {
        es = map (entry_for t) qs;
        answer = refl;
        row = new_row b (map (entry_for t) qs);
        marked = λ c. refl;
        within = ltb-true b s.table_count l;
        live = a;
        once = items_once s t route bo bk [] 0 qs f;
        stood = λ k c. let x = taken t.slots (map (entry_for t) qs) k (items_stand s t route bo bk [] 0 qs f) c in
            (x.held, own_generation (t.slots k) x.gen x.held x.stood);
        values_are = moves_are s t route bo bk qs (all_name s t route bo bk [] 0 qs f);
      })

  pub consumes : (b v r kind koid : ℕ) → Decided Any Any (Prepared z s b (v ∷ [])) (prepare_consumption_of z s b v r kind koid)
  unfolding prepare_consumption_of
  consumes b v r kind koid = let t : Table = s.tables b in
      checked (ltb b s.table_count) _ tt λ l.
      checked (is_active t.life) _ tt λ a.
      checked (free_row s) _ tt λ e.
      with_view (lookup t v) tt tt λ k h q.
      checked (contains h.rights r) _ tt λ e.
      checked (eqb (s.objects h.object).kind kind) _ tt λ e.
      checked (eqb (s.objects h.object).koid koid) _ tt λ e.
      checked (id_left s) _ tt λ e.
      let n = look_holds t v k h q in
      accepts (record {
        es = moved k h h.rights ∷ [];
        answer = refl;
        row = new_row b (moved k h h.rights ∷ []);
        marked = λ c. refl;
        within = ltb-true b s.table_count l;
        live = a;
        once = λ j. omega (arith, bit_small (eqb j k));
        stood = λ j c. (h, rw (only_one j k c) (own_generation (t.slots k) (generation_in t.mask v) h (stands_at t v k h q)));
        values_are = rw (n.0, value_is s t v h n.1);
      })

  -- the marks change slots alone
  module _ {b : ℕ} {values : List ℕ} {u : State} {a : Answer} (p : Prepared z s b values u a) where
    abbrev marks : Table
    marks = keep_all z (λ g. transfer_reserved g s.book.next) (moved_of p.es) (s.tables b)

    pub prepared_steady : Steady (s.tables b) marks
    prepared_steady = marks_steady z s.book.next (moved_of p.es) (s.tables b) (under z s w b) (λ k c. rw (p.stood k c).1)

    prepared_others : (j : ℕ) → occurs j (moved_of p.es) ≡ 0 → marks.slots j ≡ (s.tables b).slots j
    prepared_others j c = keep_all_slots z (λ g. transfer_reserved g s.book.next) (λ g. refl) (moved_of p.es) (s.tables b) j
        ∙ rw (member_occurs j (moved_of p.es) c)

    -- and are gone once their slots are vacated
    pub prepared_vacates : vacate_all z (moved_of p.es) marks ≡ vacate_all z (moved_of p.es) (s.tables b)
    prepared_vacates = vacates_same z (moved_of p.es) (s.tables b) marks prepared_steady prepared_others

    pub prepared_held : (k : ℕ) → 0 < occurs k (moved_of p.es) → Held z ((s.tables b).slots k) k (generation ((s.tables b).slots k))
    prepared_held k c = let h = p.stood k c in held_there z s w b k ((s.tables b).slots k) h.0 p.within (rw h.1) h.1

-- an accepted decision has passed its checks
pub accepted_leaves : {A : State → Answer → Type 0} (z : Sizes) (s : State) (d : Decision) → Decided Any Any A d → accepted (carry z s d).1 ≡ true
    → A (carry z s d).0 (carry z s d).1
accepted_leaves z s (refusal n) h e = clash e refl
accepted_leaves z s (refusal_after_id n) h e = clash e refl
accepted_leaves z s (accept u a) h e = h.leaves

-- a claim's row and a reservation's are dropped, in either order, also if the first has another body by then
pub both_dropped : (i j : ℕ) (x : Body) (rs : List Row) → drop_id i (drop_id j (swap_id i x rs)) ≡ drop_id j (drop_id i rs)
both_dropped i j x [] = refl
both_dropped i j x (r ∷ rs) = bool (eqb r.id i)
    (λ e. rw e (bool (eqb r.id j) (λ q. rw q (both_dropped i j x rs)) (λ q. rw (q, e) (both_dropped i j x rs))))
    (λ e. rw e (bool (eqb r.id j) (λ q. rw q (both_dropped i j x rs)) (λ q. rw (q, e, both_dropped i j x rs))))

pub other_row : (i j b c : ℕ) (es : List Entry) (ks : List ℕ) (rs : List Row) → find i rs ≡ some (claim b es) → find j rs ≡ some (reservation c ks)
    → i ≡ j → ⊥
other_row i j b c es ks rs p q e = apart (let r : some (claim b es) ≡ some (reservation c ks) = sym p ∙ rw e q in cc)
