-- Pages come and go with slots that are not busy; a table's walk finds every occupied slot.
use Rattle.std.specs.Prelude.{◌≡◌, refl, true, false, ◌&&◌, List, ℕ, zero, suc, ◌+◌, ◌-◌, ◌*◌, ◌≤◌, ◌<◌, ltb, eqb}
use Rattle.std.proofs.Common.{sym, ap, ◌∙◌, arith, le-div_iff_mul-le, ltb-true, ltb-false, eqb-true, le-ltb}
use Rattle.std.proofs.Math.Option.{Option, none, some}
use Rattle.std.proofs.lemmas.Bool.{eqb-false}
use Rattle.model.specs.Base.{occurs, is_some}
use Rattle.model.specs.State.{Sizes, Slot, Slot.absent, Slot.vacant, Slot.reserved, Slot.transfer_reserved, Slot.occupied, Table, is_occupied, is_busy}
use Rattle.model.specs.State.{max_slots}
use Rattle.model.specs.Storage.{page_of, slots_of, on_page, length_of, busy_in, busy_of, grow, detach, first_occupied}
use Rattle.model.specs.Step.{next_occupied}
use Rattle.model.specs.WellFormed.{is_attached}
use Rattle.model.proofs.Tests.{apart, bool, clash, and_left, and_right, bit_true}
use Rattle.invariant.proofs.Pointwise.{detach_slots}
use Rattle.invariant.proofs.Pages.{Sane, page_in}
use Rattle.invariant.proofs.Orders.{Sound, absent_out, absent_past}
use Rattle.invariant.proofs.Frames.{Grows, grow_sound, grow_shows}
use Rattle.invariant.proofs.Counts.{Calm}

-- a slot as it shows where slots that are not busy are alike
shown : Slot → Slot
shown absent = absent
shown (vacant g) = absent
shown (reserved g i) = reserved g i
shown (transfer_reserved g i) = transfer_reserved g i
shown (occupied g h) = occupied g h

shown_is : (x : Slot) → is_busy x ≡ true → shown x ≡ x
unfolding shown
shown_is absent e = clash e refl
shown_is (vacant g) e = clash e refl
shown_is (reserved g i) e = refl
shown_is (transfer_reserved g i) e = refl
shown_is (occupied g h) e = refl

blank : (g : ℕ) → shown (vacant g) ≡ shown absent
unfolding shown
blank g = refl

pub busy_nowhere : (f : ℕ → Slot) (a n : ℕ) → busy_in f a n ≡ 0 → (j : ℕ) → a ≤ j → j < a + n → is_busy (f j) ≡ false
busy_nowhere f a zero e j l m = absurd (omega arith)
busy_nowhere f a (suc n) e j l m = bool (is_busy (f a))
    (λ q. let y : suc (busy_in f (suc a) n) ≡ 0 = rw q at e in absurd (omega arith))
    (λ q. bool (eqb j a)
    (λ y. rw (eqb-true j a y) q)
    (λ y. let n' : j ≡ a → ⊥ = eqb-false j a y in busy_nowhere f (suc a) n (rw q at e) j (omega arith) (omega arith)))

none_occupied : (f : ℕ → Slot) (a n : ℕ) → first_occupied f a n ≡ none → (j : ℕ) → a ≤ j → j < a + n → is_occupied (f j) ≡ false
none_occupied f a zero e j l m = absurd (omega arith)
none_occupied f a (suc n) e j l m = bool (is_occupied (f a))
    (λ q. let y : some a ≡ none = rw q at e in apart (cc))
    (λ q. bool (eqb j a)
    (λ y. rw (eqb-true j a y) q)
    (λ y. let n' : j ≡ a → ⊥ = eqb-false j a y in none_occupied f (suc a) n (rw q at e) j (omega arith) (omega arith)))

module _ (z : Sizes) (sane : Sane z) (t : Table) (o : Sound z t t.free) where
  pub grow_calm : (ps fs : List ℕ) → Grows z t ps → Calm t (grow z ps fs t)
  grow_calm ps fs g = let u : Table = grow z ps fs t in
      let same_busy : (k : ℕ) → is_busy (u.slots k) ≡ is_busy (t.slots k) = grow_shows z is_busy (λ x. refl) sane ps fs t t.free o g in record {
        busy = same_busy;
        others = λ k e. sym (shown_is (u.slots k) (same_busy k ∙ e)) ∙ grow_shows z shown blank sane ps fs t t.free o g k ∙ shown_is (t.slots k) e;
        placed = λ k l. rw (absent_past z u u.free (grow_sound z sane ps fs t o g) k (le-ltb k max_slots l));
      }

  -- an empty page is detached
  pub detach_calm : (p : ℕ) → 0 < occurs p t.empty → Calm t (detach z t p)
  detach_calm p c =
      let e : (is_attached t p && eqb (busy_of z t.slots p) 0) ≡ true = bit_true (is_attached t p && eqb (busy_of z t.slots p) 0)
      (omega (arith, o.empty p)) in
      let n : busy_of z t.slots p ≡ 0 = eqb-true (busy_of z t.slots p) 0 (and_right (is_attached t p) (eqb (busy_of z t.slots p) 0) e) in
      let i : (k : ℕ) → on_page z p k ≡ true → is_busy (t.slots k) ≡ false = λ k y.
      let r = page_in z sane p k (eqb-true (page_of z k) p (and_left (eqb (page_of z k) p) (ltb k max_slots) y))
      (ltb-true k max_slots (and_right (eqb (page_of z k) p) (ltb k max_slots) y)) in
      busy_nowhere t.slots (p * z.page_slots) (slots_of z p) n k r.0 r.1 in record {
        busy = λ k. rw (detach_slots z t p k) (bool (on_page z p k) (λ y. rw (y, i k y)) (λ y. rw y));
        others = λ k q. detach_slots z t p k ∙ bool (on_page z p k) (λ y. clash q (i k y)) (λ y. rw y);
        placed = λ k l. rw (detach_slots z t p k)
            (bool (on_page z p k) (λ y. rw y) (λ y. rw (y, absent_past z t t.free o k (le-ltb k max_slots l))));
      }

  -- a walk that finds none has seen every occupied slot
  pub walk_none : is_some (next_occupied z t 0) ≡ false → (k : ℕ) → is_occupied (t.slots k) ≡ false
  walk_none e k = bool (ltb k (length_of z t))
      (λ l. none_occupied t.slots 0 (length_of z t - 0) (not_some (next_occupied z t 0) e) k (omega arith)
      (omega (arith, ltb-true k (length_of z t) l)))
      (λ l. let m : length_of z t ≤ k = ltb-false k (length_of z t) l in bool (ltb k max_slots)
      (λ y. let n : t.size * z.page_slots ≤ k = omega (arith, ltb-true k max_slots y) in
      let p : t.size ≤ page_of z k = (le-div_iff_mul-le {k = z.page_slots} sane.page).1 n in
      rw (absent_out z t t.free o k (ap (λ x. is_some x.frame) (o.rest (page_of z k) p))))
      (λ y. rw (absent_past z t t.free o k y)))
    where
      not_some : (x : Option ℕ) → is_some x ≡ false → x ≡ none
      not_some none q = refl
      not_some (some a) q = clash refl q
