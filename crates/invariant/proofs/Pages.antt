-- Kinds of slots, and the slots of a page by number, with the page size a parameter.
use Rattle.std.specs.Prelude.{◌≡◌, refl, true, false, ℕ, zero, suc, ◌+◌, ◌*◌, ◌≤◌, ◌<◌, eqb, ltb}
use Rattle.std.proofs.Common.{◌∙◌, arith, div-add-mod', mod-lt, le-div_iff_mul-le, ltb-true, ltb-false, eqb-true, lt-ltb, le-ltb, eq-eqb, ne_eqb}
use Rattle.std.proofs.Math.Nat.{div-eq_of_lt-le}
use Rattle.std.proofs.lemmas.Bool.{eqb-false}
use Rattle.model.specs.Base.{bit, put, occurs}
use Rattle.model.specs.State.{Sizes, till, Slot, Slot.absent, Slot.vacant, Slot.reserved, Slot.transfer_reserved, Slot.occupied, is_vacant, is_absent}
use Rattle.model.specs.State.{is_busy, max_slots}
use Rattle.model.specs.Storage.{page_of, slots_of, page_range, on_page, busy_in, busy_of}
use Rattle.model.specs.Create.{max_pages}
pub use Rattle.invariant.specs.Pages.{Sane}
use Rattle.model.proofs.Tests.{bool, clash, and_left, and_right}
use Rattle.model.proofs.Sums.{occurs_range}

pub till_sane : Sane till
till_sane = record { page = omega arith }

-- kinds of slots

pub busy_vacant : (x : Slot) → is_busy x ≡ true → is_vacant x ≡ false
busy_vacant absent e = refl
busy_vacant (vacant g) e = clash e refl
busy_vacant (reserved g i) e = refl
busy_vacant (transfer_reserved g i) e = refl
busy_vacant (occupied g h) e = refl

pub vacant_idle : (x : Slot) → is_vacant x ≡ true → is_busy x ≡ false
vacant_idle x e = bool (is_busy x) (λ q. clash e (busy_vacant x q)) (λ q. q)

pub busy_there : (x : Slot) → is_busy x ≡ true → is_absent x ≡ false
busy_there absent e = clash e refl
busy_there (vacant g) e = refl
busy_there (reserved g i) e = refl
busy_there (transfer_reserved g i) e = refl
busy_there (occupied g h) e = refl

pub vacant_there : (x : Slot) → is_vacant x ≡ true → is_absent x ≡ false
vacant_there absent e = clash e refl
vacant_there (vacant g) e = refl
vacant_there (reserved g i) e = refl
vacant_there (transfer_reserved g i) e = refl
vacant_there (occupied g h) e = refl

pub absent_is : (x : Slot) → is_absent x ≡ true → x ≡ absent
absent_is absent e = refl
absent_is (vacant g) e = clash e refl
absent_is (reserved g i) e = clash e refl
absent_is (transfer_reserved g i) e = clash e refl
absent_is (occupied g h) e = clash e refl

-- busy slots of a run

pub busy_in_equal : (f g : ℕ → Slot) (a n : ℕ) → ((j : ℕ) → a ≤ j → j < a + n → is_busy (f j) ≡ is_busy (g j)) → busy_in f a n ≡ busy_in g a n
busy_in_equal f g a zero h = refl
busy_in_equal f g a (suc n) h = let r = busy_in_equal f g (suc a) n (λ j l m. h j (omega arith) (omega arith)) in
    rw (h a (omega arith) (omega arith), r)

pub busy_in_zero : (f : ℕ → Slot) (a n : ℕ) → ((j : ℕ) → a ≤ j → j < a + n → is_busy (f j) ≡ false) → busy_in f a n ≡ 0
busy_in_zero f a zero h = refl
busy_in_zero f a (suc n) h = rw (h a (omega arith) (omega arith)) (busy_in_zero f (suc a) n (λ j l m. h j (omega arith) (omega arith)))

busy_in_step : (f : ℕ → Slot) (a n : ℕ) → busy_in f a (suc n) ≡ bit (is_busy (f a)) + busy_in f (suc a) n
busy_in_step f a n = bool (is_busy (f a)) (λ e. rw e (omega arith)) (λ e. rw e (omega arith))

-- one slot of the run changed
pub busy_in_put : (f : ℕ → Slot) (k : ℕ) (x : Slot) (a n : ℕ) → a ≤ k → k < a + n
    → busy_in (put f k x) a n + bit (is_busy (f k)) ≡ busy_in f a n + bit (is_busy x)
busy_in_put f k x a zero l m = absurd (omega arith)
busy_in_put f k x a (suc n) l m = rw (busy_in_step (put f k x) a n, busy_in_step f a n) (bool (eqb a k)
    (λ e. let q : a ≡ k = eqb-true a k e in
    rw (e, q) (omega (arith, busy_in_equal (put f k x) f (suc k) n (λ j i o. rw (ne_eqb j k (λ y. omega arith))))))
    (λ e. let q : a ≡ k → ⊥ = eqb-false a k e in rw e (omega (arith, busy_in_put f k x (suc a) n (omega arith) (omega arith)))))

module _ (z : Sizes) (sane : Sane z) where
  -- the slots of page p are those on it below the last
  pub page_in : (p k : ℕ) → page_of z k ≡ p → k < max_slots → (p * z.page_slots ≤ k) × (k < p * z.page_slots + slots_of z p)
  page_in p k e l = rw (← e) (
    omega (arith, sane.page, div-add-mod' k z.page_slots, mod-lt k {m = z.page_slots} sane.page),
    omega
        (arith, sane.page, div-add-mod' k z.page_slots, mod-lt k {m = z.page_slots} sane.page),
  )

  pub page_of_law : (p k : ℕ) → p * z.page_slots ≤ k → k < p * z.page_slots + slots_of z p → page_of z k ≡ p
  page_of_law p k l m = div-eq_of_lt-le z.page_slots l (omega arith)

  pub page_below : (p k : ℕ) → p * z.page_slots ≤ k → k < p * z.page_slots + slots_of z p → k < max_slots
  page_below p k l m = omega arith

  pub on_page_law : (p k : ℕ) → p * z.page_slots ≤ k → k < p * z.page_slots + slots_of z p → on_page z p k ≡ true
  on_page_law p k l m = rw (eq-eqb (page_of z k) p (page_of_law p k l m), lt-ltb k max_slots (page_below p k l m))

  pub occurs_page : (p k : ℕ) → occurs k (page_range z p) ≡ bit (on_page z p k)
  occurs_page p k = occurs_range k (p * z.page_slots) (slots_of z p) ∙ bool (on_page z p k)
      (λ e. let l : (p * z.page_slots ≤ k) × (k < p * z.page_slots + slots_of z p) = page_in p k
      (eqb-true (page_of z k) p (and_left (eqb (page_of z k) p) (ltb k max_slots) e))
      (ltb-true k max_slots (and_right (eqb (page_of z k) p) (ltb k max_slots) e)) in
      rw (e, le-ltb k (p * z.page_slots) l.0, lt-ltb k (p * z.page_slots + slots_of z p) l.1))
      (λ e. rw e (bool (ltb k (p * z.page_slots)) (λ a. rw a) (λ a. rw a (bool (ltb k (p * z.page_slots + slots_of z p))
      (λ b. clash (on_page_law p k (ltb-false k (p * z.page_slots) a) (ltb-true k (p * z.page_slots + slots_of z p) b)) e)
      (λ b. rw b)))))

  -- a page within the limit has a slot
  pub page_slots_law : (p : ℕ) → p < max_pages z → 1 ≤ slots_of z p
  page_slots_law p l = omega (arith, sane.page, (le-div_iff_mul-le {k = z.page_slots} sane.page).0 l)

  -- busy slots of a page after a change of another's slot, and of one of its own
  pub busy_other : (f g : ℕ → Slot) (p : ℕ) → ((j : ℕ) → page_of z j ≡ p → j < max_slots → is_busy (f j) ≡ is_busy (g j)) → busy_of z f p ≡ busy_of z g p
  busy_other f g p h = busy_in_equal f g (p * z.page_slots) (slots_of z p) (λ j l m. h j (page_of_law p j l m) (page_below p j l m))

  pub busy_own : (f : ℕ → Slot) (k : ℕ) (x : Slot) → k < max_slots
      → busy_of z (put f k x) (page_of z k) + bit (is_busy (f k)) ≡ busy_of z f (page_of z k) + bit (is_busy x)
  busy_own f k x l = let i : (page_of z k * z.page_slots ≤ k) × (k < page_of z k * z.page_slots + slots_of z (page_of z k)) = page_in
      (page_of z k) k refl l in
      busy_in_put f k x (page_of z k * z.page_slots) (slots_of z (page_of z k)) i.0 i.1

  -- other busy contents of a busy slot
  pub busy_same : (f : ℕ → Slot) (k : ℕ) (x : Slot) → is_busy (f k) ≡ true → is_busy x ≡ true → (p : ℕ) → busy_of z (put f k x) p ≡ busy_of z f p
  busy_same f k x was now p = busy_other (put f k x) f p (λ j e l. bool (eqb j k) (λ d. rw (d, eqb-true j k d, was) now) (λ d. rw d))

  pub busy_none : (f : ℕ → Slot) (p : ℕ) → ((j : ℕ) → on_page z p j ≡ true → is_busy (f j) ≡ false) → busy_of z f p ≡ 0
  busy_none f p h = busy_in_zero f (p * z.page_slots) (slots_of z p) (λ j l m. h j (on_page_law p j l m))
