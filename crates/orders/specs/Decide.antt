-- The check is true exactly if the orders exist, and then the links give them. Assumes nothing.
use Rattle.std.specs.Prelude.{◌≡◌, true, not, ◌&&◌, List, ℕ, ◌*◌, ◌≤◌, ◌<◌, length, ltb}
use Rattle.std.proofs.Math.Path.{refl, sym, ap}
use Rattle.std.proofs.Common.{◌∙◌}
use Rattle.std.proofs.Math.Dec.{eqb}
use borrow.Author.Tests.{eq-eqb, eqb-true, ltb-true, ltb-false, le-ltb, not-true}
use Rattle.words.specs.All.{all_at, all_yes}
use Rattle.words.specs.Pick.{both, both_is}
use Rattle.model.specs.Base.{bit, occurs}
use Rattle.layout.specs.declared.Shape.{Shape}
use Rattle.layout.specs.Layout.{Mem, head, entry}
use Rattle.layout.specs.Fields.{head_pages, head_first_free, head_free_slots, head_first_empty, head_first_detached, head_first_entry, entry_next, entry_previous, slot_next_free, slot_previous_free}
use Rattle.layout.specs.Sizes.{page_size, pages_max}
use Rattle.representation.specs.Represents.{Chain, Linked, entry_at, slot_word}
use Rattle.orders.specs.Walk.{walk, Ordered, length_from, chain_parts, parts_chain, backed_all, order_sound, order_count, order_complete}
use Rattle.orders.specs.Check.{vacant_at, empty_at, detached_at, vacants, tally, slot_next, slot_prev, page_next, page_prev, free_link, empty_link, detached_link}
use Rattle.orders.specs.Check.{free_by, empty_by, detached_by, free_b, empty_b, detached_b, table_b, orders_b, free_list, empty_list, detached_list}
use Rattle.orders.specs.Vacants.{BusyStored, vacant_below, vacants_counted}

-- ---- what a list is that is an order of table b

-- "the free order holds every vacant slot once and nothing else", and the stored count is its length
pub record FreeOrder (m : Mem) (b : ℕ) (l : List ℕ) : Type 0 where
  pub chain : Chain (λ k. slot_word m b k slot_next_free) (λ k. slot_word m b k slot_previous_free) (m (head b head_first_free)) 0 l
  pub count : m (head b head_free_slots) ≡ length l
  pub exact : (k : ℕ) → occurs k l ≡ bit (vacant_at m b k)

-- "and the empty and detached pages' orders every such page once and nothing else"
pub record EmptyOrder (m : Mem) (b : ℕ) (l : List ℕ) : Type 0 where
  pub chain : Chain (λ p. m (entry (entry_at m b p) entry_next)) (λ p. m (entry (entry_at m b p) entry_previous)) (m (head b head_first_empty)) 0 l
  pub exact : (p : ℕ) → occurs p l ≡ bit (empty_at m (m (head b head_pages)) (m (head b head_first_entry)) p)

pub record DetachedOrder (m : Mem) (b : ℕ) (l : List ℕ) : Type 0 where
  pub linked : Linked (λ p. m (entry (entry_at m b p) entry_next)) (m (head b head_first_detached)) l
  pub exact : (p : ℕ) → occurs p l ≡ bit (detached_at m (m (head b head_pages)) (m (head b head_first_entry)) p)

-- ---- pages that can pass are the table's

empty_below : (m : Mem) (n e p : ℕ) → empty_at m n e p ≡ true → p < n
unfolding empty_at
empty_below m n e p h = ltb-true p n (both (ltb p n) _ h).0

detached_below : (m : Mem) (n e p : ℕ) → detached_at m n e p ≡ true → p < n
unfolding detached_at
detached_below m n e p h = ltb-true p n (both (ltb p n) _ h).0

-- ---- one order

module _ (m : Mem) (b : ℕ) where
  pub free_sound : BusyStored m b → free_b m b ≡ true → FreeOrder m b (free_list m b)
  unfolding free_by free_link
  free_sound s h =
      let e = both (eqb (vacants m (m (head b head_pages)) (m (head b head_first_entry))) (m (head b head_free_slots))) _ h in
      let o = order_sound (slot_next m b) (vacant_at m b) (λ k q. eqb (slot_prev m b k) q) (m (head b head_pages) * page_size) (m (head b head_first_free)) (vacant_below m b) (m (head b head_free_slots))
      (vacants_counted m b s ∙ eqb-true (vacants m (m (head b head_pages)) (m (head b head_first_entry))) (m (head b head_free_slots)) e.0) e.1 in
      record {
        chain = parts_chain (slot_next m b) (slot_prev m b) (m (head b head_first_free)) 0 (free_list m b) o.linked o.backed;
        count = sym (length_from (slot_next m b) (m (head b head_free_slots)) (m (head b head_first_free)));
        exact = o.exact;
      }

  pub free_complete : BusyStored m b → (l : List ℕ) → FreeOrder m b l → free_b m b ≡ true
  unfolding free_by free_link
  free_complete s l f =
      let c = chain_parts (slot_next m b) (slot_prev m b) (m (head b head_first_free)) 0 l f.chain in
      let o : Ordered (slot_next m b) (vacant_at m b) (λ k q. eqb (slot_prev m b k) q) (m (head b head_first_free)) l = record { linked = c.0; backed = c.1; exact = f.exact } in
      both_is _ _
      (eq-eqb (vacants m (m (head b head_pages)) (m (head b head_first_entry))) (m (head b head_free_slots))
      (sym (vacants_counted m b s) ∙ order_count (slot_next m b) (vacant_at m b) (λ k q. eqb (slot_prev m b k) q) (m (head b head_pages) * page_size) (m (head b head_first_free)) (vacant_below m b) l o ∙ sym f.count))
      (ap (λ (k : ℕ). walk (slot_next m b) (free_link m b) k (m (head b head_first_free)) 0) f.count
      ∙ order_complete (slot_next m b) (vacant_at m b) (λ k q. eqb (slot_prev m b k) q) (m (head b head_pages) * page_size) (m (head b head_first_free)) (vacant_below m b) l o)

  abbrev size : ℕ
  size = m (head b head_pages)

  abbrev first : ℕ
  first = m (head b head_first_entry)

  pub empty_sound : empty_b m b ≡ true → EmptyOrder m b (empty_list m b)
  unfolding empty_by empty_link tally
  empty_sound h =
      let o = order_sound (page_next m first) (empty_at m size first) (λ p q. eqb (page_prev m first p) q) size (m (head b head_first_empty)) (empty_below m size first) (tally (empty_at m size first) size) refl h in
      record {
        chain = parts_chain (page_next m first) (page_prev m first) (m (head b head_first_empty)) 0 (empty_list m b) o.linked o.backed;
        exact = o.exact;
      }

  pub empty_complete : (l : List ℕ) → EmptyOrder m b l → empty_b m b ≡ true
  unfolding empty_by empty_link tally
  empty_complete l f =
      let c = chain_parts (page_next m first) (page_prev m first) (m (head b head_first_empty)) 0 l f.chain in
      let o : Ordered (page_next m first) (empty_at m size first) (λ p q. eqb (page_prev m first p) q) (m (head b head_first_empty)) l = record { linked = c.0; backed = c.1; exact = f.exact } in
      ap (λ (k : ℕ). walk (page_next m first) (empty_link m size first) k (m (head b head_first_empty)) 0)
      (order_count (page_next m first) (empty_at m size first) (λ p q. eqb (page_prev m first p) q) size (m (head b head_first_empty)) (empty_below m size first) l o)
      ∙ order_complete (page_next m first) (empty_at m size first) (λ p q. eqb (page_prev m first p) q) size (m (head b head_first_empty)) (empty_below m size first) l o

  pub detached_sound : detached_b m b ≡ true → DetachedOrder m b (detached_list m b)
  unfolding detached_by detached_link tally
  detached_sound h =
      let o = order_sound (page_next m first) (detached_at m size first) (λ p q. true) size (m (head b head_first_detached)) (detached_below m size first) (tally (detached_at m size first) size) refl h in
      record { linked = o.linked; exact = o.exact }

  pub detached_complete : (l : List ℕ) → DetachedOrder m b l → detached_b m b ≡ true
  unfolding detached_by detached_link tally
  detached_complete l f =
      let o : Ordered (page_next m first) (detached_at m size first) (λ p q. true) (m (head b head_first_detached)) l = record { linked = f.linked; backed = backed_all 0 l; exact = f.exact } in
      ap (λ (k : ℕ). walk (page_next m first) (λ h p. detached_link m size first h) k (m (head b head_first_detached)) 0)
      (order_count (page_next m first) (detached_at m size first) (λ p q. true) size (m (head b head_first_detached)) (detached_below m size first) l o)
      ∙ order_complete (page_next m first) (detached_at m size first) (λ p q. true) size (m (head b head_first_detached)) (detached_below m size first) l o

-- ---- the whole

-- three lists are the orders of table b
pub record OrdersAre (m : Mem) (b : ℕ) (x y z : List ℕ) : Type 0 where
  pub size : m (head b head_pages) ≤ pages_max
  pub free : FreeOrder m b x
  pub empty : EmptyOrder m b y
  pub detached : DetachedOrder m b z

pub table_sound : (m : Mem) (b : ℕ) → BusyStored m b → table_b m b ≡ true → OrdersAre m b (free_list m b) (empty_list m b) (detached_list m b)
unfolding table_b
table_sound m b s h =
    let a = both (not (ltb pages_max (m (head b head_pages)))) (free_b m b && (empty_b m b && detached_b m b)) h in
    let c = both (free_b m b) (empty_b m b && detached_b m b) a.1 in
    let d = both (empty_b m b) (detached_b m b) c.1 in
    record {
      size = ltb-false pages_max (m (head b head_pages)) (not-true (ltb pages_max (m (head b head_pages))) a.0);
      free = free_sound m b s c.0;
      empty = empty_sound m b d.0;
      detached = detached_sound m b d.1;
    }

pub table_complete : (m : Mem) (b : ℕ) → BusyStored m b → (x y z : List ℕ) → OrdersAre m b x y z → table_b m b ≡ true
unfolding table_b
table_complete m b s x y z o =
    both_is _ _ (ap not (le-ltb pages_max (m (head b head_pages)) o.size))
    (both_is _ _ (free_complete m b s x o.free) (both_is _ _ (empty_complete m b y o.empty) (detached_complete m b z o.detached)))

-- THE CHECK IS SOUND: where it is true the links give the orders ..
pub orders_sound : (m : Mem) (sh : Shape) → ((b : ℕ) → b < sh.tables → BusyStored m b) → orders_b m sh ≡ true
    → (b : ℕ) → b < sh.tables → OrdersAre m b (free_list m b) (empty_list m b) (detached_list m b)
unfolding orders_b
orders_sound m sh s h b l = table_sound m b (s b l) (all_at sh.tables (table_b m) h b l)

-- .. AND COMPLETE: where there are orders it is true
pub orders_complete : (m : Mem) (sh : Shape) → ((b : ℕ) → b < sh.tables → BusyStored m b)
    → ((b : ℕ) → b < sh.tables → (x : List ℕ) × (y : List ℕ) × (z : List ℕ) × OrdersAre m b x y z) → orders_b m sh ≡ true
unfolding orders_b
orders_complete m sh s f = all_yes sh.tables (table_b m) (λ b l. let o = f b l in table_complete m b (s b l) o.0 o.1 o.2 o.3)
