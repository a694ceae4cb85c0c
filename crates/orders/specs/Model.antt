-- The check and the model: the orders that it decides are those of the state that the words represent. Assumes nothing.
use Rattle.std.specs.Prelude.{◌≡◌, refl, Bool, true, false, not, ◌&&◌, List, ℕ, zero, suc, ◌+◌, ◌*◌, ◌/◌, ◌%◌, ◌≤◌, ◌<◌, eqb, ltb}
use Rattle.std.proofs.Common.{sym, ap, ◌∙◌, arith, ne_eqb, lt-ltb, ltb-true, ltb-false}
use Rattle.std.proofs.Math.Option.{Option, none, some}
use Rattle.words.specs.Pick.{bool, clash}
use Rattle.model.specs.Base.{bit, pick, occurs, sum, is_some}
use Rattle.model.proofs.Sums.{sum_equal}
use Rattle.model.specs.State.{till, Slot, Table, State, is_vacant, is_busy, is_absent, max_slots}
use Rattle.model.specs.Storage.{page_of, slots_of, busy_in, busy_of}
use Rattle.model.specs.WellFormed.{is_attached, Orders, WellFormed}
use Rattle.model.proofs.Counting.{sum_front}
use Rattle.model.proofs.Bounds.{pages_max_law}
use Rattle.layout.specs.declared.Shape.{Shape}
use Rattle.layout.specs.Layout.{Mem, head, entry, cell}
use Rattle.layout.specs.Fields.{head_pages, head_first_entry, entry_frame, entry_busy, slot_tag, slot_generation, slot_object, slot_rights, slot_flags}
use Rattle.layout.specs.Values.{tag_vacant}
use Rattle.layout.specs.Sizes.{page_size, pages_max}
use Rattle.representation.specs.Represents.{entry_at, link_of, word_in, frame_of, tagged, slot_from, slot_in, TableIs, Represents}
use Rattle.representation.specs.Told.{frame_at}
use Rattle.orders.specs.Check.{vacant_at, empty_at, detached_at, orders_b}
use Rattle.orders.specs.Vacants.{BusyStored}
use Rattle.orders.specs.Decide.{OrdersAre, orders_complete}

-- the pages and slots of a table as its words have them; no page is attached past its count of pages
pub record Viewed (m : Mem) (b : ℕ) (t : Table) : Type 0 where
  pub size : m (head b head_pages) ≡ t.size
  pub frame : (p : ℕ) → p < t.size → m (entry (entry_at m b p) entry_frame) ≡ link_of (t.pages p).frame
  pub rest : (p : ℕ) → t.size ≤ p → is_attached t p ≡ false
  pub busy : (p : ℕ) → p < t.size → is_attached t p ≡ true → m (entry (entry_at m b p) entry_busy) ≡ busy_of till t.slots p
  pub slots : (k : ℕ) → slot_in m b k ≡ t.slots k

-- ---- slots and frames by their words

link_none : (o : Option ℕ) → eqb (link_of o) 0 ≡ not (is_some o)
link_none none = refl
link_none (some f) = ne_eqb (suc f) 0 (λ e. omega arith)

link_some : (o : Option ℕ) → not (eqb (link_of o) 0) ≡ is_some o
link_some none = refl
link_some (some f) = ap not (ne_eqb (suc f) 0 (λ e. omega arith))

link_is : (o : Option ℕ) (f : ℕ) → link_of o ≡ suc f → is_some o ≡ true
link_is none f e = absurd (omega arith)
link_is (some g) f e = refl

tag_vacant_law : (m : Mem) (t g x y w : ℕ) → is_vacant (tagged m t g x y w) ≡ eqb t 0
tag_vacant_law m zero g x y w = refl
tag_vacant_law m (suc zero) g x y w = refl
tag_vacant_law m (suc (suc zero)) g x y w = refl
tag_vacant_law m (suc (suc (suc zero))) g x y w = refl
tag_vacant_law m (suc (suc (suc (suc t)))) g x y w = sym (ne_eqb (suc (suc (suc (suc t)))) 0 (λ e. omega arith))

tag_busy : (m : Mem) (t g x y w : ℕ) → is_absent (tagged m t g x y w) ≡ false → is_busy (tagged m t g x y w) ≡ not (eqb t 0)
tag_busy m zero g x y w e = refl
tag_busy m (suc zero) g x y w e = refl
tag_busy m (suc (suc zero)) g x y w e = refl
tag_busy m (suc (suc (suc zero))) g x y w e = refl
tag_busy m (suc (suc (suc (suc t)))) g x y w e = clash refl e

frame_vacant : (m : Mem) (fr j : ℕ) → (not (eqb fr 0) && eqb (word_in m fr j slot_tag) tag_vacant) ≡ is_vacant (slot_from m fr j)
frame_vacant m zero j = refl
frame_vacant m (suc fr) j = rw (ne_eqb (suc fr) 0 (λ e. omega arith)) (sym (tag_vacant_law m (m (cell fr j slot_tag)) (m (cell fr j slot_generation)) (m (cell fr j slot_object)) (m (cell fr j slot_rights)) (m (cell fr j slot_flags))))

-- a slot is vacant by its words exactly if it is
pub vacant_is : (m : Mem) (b k : ℕ) → vacant_at m b k ≡ is_vacant (slot_in m b k)
unfolding vacant_at
vacant_is m b k = frame_vacant m (frame_of m b k) (k % page_size)

pick_bit : (b : Bool) (x : ℕ) → pick b (suc x) x ≡ bit b + x
pick_bit true x = omega arith
pick_bit false x = omega arith

-- the busy slots of a run, as a sum
busy_sum : (f : ℕ → Slot) (a n : ℕ) → busy_in f a n ≡ (sum n λ j. bit (is_busy (f (a + j))))
busy_sum f a zero = refl
busy_sum f a (suc n) =
    let q : a + 0 ≡ a = omega arith in
    pick_bit (is_busy (f a)) (busy_in f (suc a) n)
    ∙ omega (
      arith,
      busy_sum f (suc a) n,
      sum_front n (λ j. bit (is_busy (f (a + j)))),
      ap (λ (x : ℕ). bit (is_busy (f x))) q,
      sum_equal n (λ j. bit (is_busy (f (suc a + j)))) (λ j. bit (is_busy (f (a + suc j)))) (λ j l. let d : suc a + j ≡ a + suc j = omega arith in ap (λ (x : ℕ). bit (is_busy (f x))) d),
    )

-- ---- the tests and the table

module _ (m : Mem) (b : ℕ) (t : Table) (v : Viewed m b t) where
  pub empty_is : (p : ℕ) → empty_at m (m (head b head_pages)) (m (head b head_first_entry)) p ≡ (is_attached t p && eqb (busy_of till t.slots p) 0)
  unfolding empty_at
  empty_is p = rw v.size (bool (ltb p t.size)
      (λ l. rw (l, v.frame p (ltb-true p t.size l), link_some (t.pages p).frame) (bool (is_attached t p)
      (λ a. rw (a, v.busy p (ltb-true p t.size l) a))
      (λ a. rw a)))
      (λ l. rw (l, v.rest p (ltb-false p t.size l))))

  pub detached_is : (p : ℕ) → detached_at m (m (head b head_pages)) (m (head b head_first_entry)) p ≡ (ltb p t.size && not (is_attached t p))
  unfolding detached_at
  detached_is p = rw v.size (bool (ltb p t.size)
      (λ l. rw (l, v.frame p (ltb-true p t.size l), link_none (t.pages p).frame))
      (λ l. rw l))

  -- a slot that is there is busy exactly if its tag is not 0
  slot_busy : (p f j : ℕ) → p < m (head b head_pages) → m (entry (entry_at m b p) entry_frame) ≡ suc f → j < slots_of till p → is_absent (t.slots (p * page_size + j)) ≡ false
      → is_busy (t.slots (p * page_size + j)) ≡ not (eqb (m (cell f j slot_tag)) tag_vacant)
  slot_busy p f j l e h a =
      let q : (p * page_size + j) % page_size ≡ j = omega arith in
      let s : t.slots (p * page_size + j) ≡ slot_from m (suc f) j =
      sym (v.slots (p * page_size + j)) ∙ ap (λ (x : ℕ). slot_from m x ((p * page_size + j) % page_size)) (frame_at m b p j l h ∙ e) ∙ ap (slot_from m (suc f)) q in
      ap is_busy s ∙ tag_busy m (m (cell f j slot_tag)) (m (cell f j slot_generation)) (m (cell f j slot_object)) (m (cell f j slot_rights)) (m (cell f j slot_flags)) (sym (ap is_absent s) ∙ a)

  -- the stored counts are those of the busy tags
  pub busy_stored : ((k : ℕ) → is_absent (t.slots k) ≡ not (is_attached t (page_of till k) && ltb k max_slots)) → BusyStored m b
  busy_stored there p f l e =
      let l' : p < t.size = omega (arith, v.size) in
      let a : is_attached t p ≡ true = link_is (t.pages p).frame f (sym (v.frame p l') ∙ e) in
      v.busy p l' a ∙ busy_sum t.slots (p * page_size) (slots_of till p)
      ∙ sum_equal (slots_of till p) (λ j. bit (is_busy (t.slots (p * page_size + j)))) (λ j. bit (not (eqb (m (cell f j slot_tag)) tag_vacant)))
      (λ j h. let q : (p * page_size + j) / page_size ≡ p = omega arith in
      ap bit (slot_busy p f j l e h (there (p * page_size + j) ∙ rw (q, a, lt-ltb (p * page_size + j) max_slots (omega arith)))))

  -- THE ORDERS that the check gives are a well-formed table's ..
  pub orders_hold : (x y z : List ℕ) → OrdersAre m b x y z
      → ((k : ℕ) → occurs k x ≡ bit (is_vacant (t.slots k)))
      × ((p : ℕ) → occurs p y ≡ bit (is_attached t p && eqb (busy_of till t.slots p) 0))
      × ((p : ℕ) → occurs p z ≡ bit (ltb p t.size && not (is_attached t p)))
  orders_hold x y z o = (
    λ k. o.free.exact k ∙ ap bit (vacant_is m b k ∙ ap is_vacant (v.slots k)),
    λ p. o.empty.exact p ∙ ap bit (empty_is p),
    λ p. o.detached.exact p ∙ ap bit (detached_is p),
  )

-- .. and a well-formed table's orders are what the check asks for
pub orders_given : (m : Mem) (b : ℕ) (t : Table) → TableIs m b t → Viewed m b t → Orders till t → t.size ≤ pages_max → OrdersAre m b t.free t.empty t.detached
orders_given m b t i v o h = record {
  size = omega (arith, i.size);
  free = record {
    chain = i.free;
    count = i.free_count;
    exact = λ k. o.free k ∙ ap bit (sym (vacant_is m b k ∙ ap is_vacant (i.slots k)));
  };
  empty = record { chain = i.empty; exact = λ p. o.empty p ∙ ap bit (sym (empty_is m b t v p)) };
  detached = record { linked = i.detached; exact = λ p. o.detached p ∙ ap bit (sym (detached_is m b t v p)) };
}

module _ (sh : Shape) (m : Mem) (s : State) (r : Represents sh m s) (w : WellFormed till s) where
  pub viewed : (b : ℕ) → b < s.table_count → Viewed m b (s.tables b)
  viewed b l = let i = r.tables b l in record {
    size = i.size;
    frame = i.frame;
    rest = λ p h. ap (λ q. is_some q.frame) (w.at_rest.pages b p h);
    busy = i.busy;
    slots = i.slots;
  }

  -- of a represented, well-formed state the check is true
  pub orders_represented : orders_b m sh ≡ true
  orders_represented =
      orders_complete m sh
      (λ b l. busy_stored m b (s.tables b) (viewed b (omega (arith, r.table_count))) (w.orders b).there)
      (λ b l. let l' : b < s.table_count = omega (arith, r.table_count) in let q = w.ranges.tables b l' in (
        (s.tables b).free,
        (s.tables b).empty,
        (s.tables b).detached,
        orders_given m b (s.tables b) (r.tables b l') (viewed b l') (w.orders b) (omega (arith, pages_max_law, q.size, q.limit.1)),
      ))
