-- The slots of an empty page leave the free order one by one. Assumes nothing.
use Rattle.std.specs.Prelude.{◌≡◌, refl, Bool, false, not, ◌&&◌, length, eqb, ltb}
use Rattle.std.proofs.Common.{sym, ◌∙◌, eqb-true, lt-ltb, le-ltb, ltb-true, ltb-false}
use Rattle.std.proofs.Math.Path.{ap}
use Rattle.std.proofs.Math.Bool.{true}
use mathlib.Core.List.{List, [], ◌∷◌}
use Prim.Native.Nat.{ℕ, zero, suc, ◌+◌, ◌-◌, ◌*◌, ◌≤◌, ◌<◌}
use native.Mathlib.Omega.{arith}
use Rattle.std.proofs.lemmas.Bool.{eqb-false, not-true}
use Rattle.words.specs.Pick.{bool, clash, both}
use Rattle.model.specs.Base.{pick, occurs, without, drop_if, bit}
use Rattle.model.specs.State.{Sizes, till, Slot, Slot.absent, Slot.vacant, Slot.reserved, Slot.transfer_reserved, Slot.occupied, Table, is_vacant, is_absent, is_busy, max_slots}
use Rattle.model.specs.Storage.{with_free, page_of, busy_of, slots_of, on_page}
use Rattle.model.specs.WellFormed.{is_attached}
use Rattle.model.proofs.Sums.{occurs_drop_if}
use Rattle.invariant.proofs.Pages.{Sane, till_sane, vacant_there, page_in, page_of_law, page_below, on_page_law}
use Rattle.invariant.proofs.Orders.{Sound}
use Rattle.invariant.proofs.Growth.{busy_nowhere}
use Rattle.layout.specs.declared.Shape.{Shape}
use Rattle.layout.specs.Layout.{total, load}
use Rattle.layout.specs.Fields.{head_first_free, head_free_slots, slot_next_free, slot_previous_free}
use Rattle.layout.specs.Sizes.{page_size}
use Rattle.representation.specs.Represents.{frame_of}
use Rattle.storage.specs.Sight.{Spot, Spot.hd, Spot.sl, Put.to_head, Put.to_slot, look, puts, Fit, OnlyTable, still_only, still_frame, still_fit, Moves, moves, moves_then, moves_fit, only_then}
use Rattle.storage.specs.Slots.{Seen, see, slot_there, free_vacant}
use Rattle.storage.specs.Turns.{Ready}
use Rattle.detach.specs.Ops.{first_after, link_w, unlink_w, unlink_all, unlink_page_w}
use Rattle.detach.specs.Unlink.{unlink_v, before_vacant, after_vacant, unlink_others, unlink_seen}

-- ---- a list without a run of numbers

abbrev pub in_run : ℕ → ℕ → ℕ → Bool
in_run a n x = not (ltb x a) && ltb x (a + n)

run_yes : (a n x : ℕ) → a ≤ x → x < a + n → in_run a n x ≡ true
run_yes a n x h i = rw (le-ltb x a h, lt-ltb x (a + n) i)

run_is : (a n x : ℕ) → in_run a n x ≡ true → (a ≤ x) × (x < a + n)
run_is a n x e = let q = both (not (ltb x a)) (ltb x (a + n)) e in (ltb-false x a (not-true (ltb x a) q.0), ltb-true x (a + n) q.1)

run_no : (a n x : ℕ) → (a ≤ x → x < a + n → ⊥) → in_run a n x ≡ false
run_no a n x h = bool (in_run a n x) (λ e. let q = run_is a n x e in absurd (h q.0 q.1)) (λ e. e)

drop_none : (a : ℕ) (l : List ℕ) → drop_if (in_run a 0) l ≡ l
drop_none a [] = refl
drop_none a (x ∷ l) = rw (run_no a 0 x (λ h i. omega arith)) (ap (λ (k : List ℕ). x ∷ k) (drop_none a l))

drop_more : (a n : ℕ) (l : List ℕ) → without (a + n) (drop_if (in_run a n) l) ≡ drop_if (in_run a (suc n)) l
drop_more a n [] = refl
drop_more a n (x ∷ l) = let h = drop_more a n l in bool (in_run a n x)
    (λ e. let q = run_is a n x e in rw (e, run_yes a (suc n) x q.0 (omega (arith, q.1))) h)
    (λ e. bool (eqb (a + n) x)
    (λ d. let y = eqb-true (a + n) x d in rw (e, run_yes a (suc n) x (omega arith) (omega arith), d) h)
    (λ d. let y : a + n ≡ x → ⊥ = eqb-false (a + n) x d in
    let out : in_run a (suc n) x ≡ false = run_no a (suc n) x (λ i j. clash (run_yes a n x i (omega arith)) e) in
    rw (e, out, d) (ap (λ (k : List ℕ). x ∷ k) h)))

drop_same : (f g : ℕ → Bool) → ((x : ℕ) → f x ≡ g x) → (l : List ℕ) → drop_if f l ≡ drop_if g l
drop_same f g e [] = refl
drop_same f g e (x ∷ l) = rw (e x, drop_same f g e l)

-- the slots of a page are a run
run_page : (z : Sizes) → Sane z → (p x : ℕ) → in_run (p * z.page_slots) (slots_of z p) x ≡ on_page z p x
run_page z sane p x = bool (in_run (p * z.page_slots) (slots_of z p) x)
    (λ e. let q = run_is (p * z.page_slots) (slots_of z p) x e in e ∙ sym (on_page_law z sane p x q.0 q.1))
    (λ e. e ∙ sym (bool (on_page z p x)
    (λ d. let q = both (eqb (page_of z x) p) (ltb x max_slots) d in
    let i = page_in z sane p x (eqb-true (page_of z x) p q.0) (ltb-true x max_slots q.1) in
    clash (run_yes (p * z.page_slots) (slots_of z p) x i.0 i.1) e)
    (λ d. d)))

-- ---- the slots of an empty page are vacant

idle_vacant : (x : Slot) → is_absent x ≡ false → is_busy x ≡ false → is_vacant x ≡ true
idle_vacant absent e d = clash refl e
idle_vacant (vacant g) e d = refl
idle_vacant (reserved g i) e d = clash refl d
idle_vacant (transfer_reserved g i) e d = clash refl d
idle_vacant (occupied g h) e d = clash refl d

page_vacant : (z : Sizes) → Sane z → (t : Table) (fr : List ℕ) → Sound z t fr → (p : ℕ) → is_attached t p ≡ true → busy_of z t.slots p ≡ 0
    → (i : ℕ) → p * z.page_slots ≤ i → i < p * z.page_slots + slots_of z p → is_vacant (t.slots i) ≡ true
page_vacant z sane t fr o p att none i h l = idle_vacant (t.slots i)
    (o.there i ∙ rw (page_of_law z sane p i h l, att, lt-ltb i max_slots (page_below z sane p i h l)))
    (busy_nowhere t.slots (p * z.page_slots) (slots_of z p) none i h l)

-- ---- one slot, in the words

pub unlink_moves : (ws : List ℕ) (sh : Shape) (b k : ℕ) → total sh ≤ length ws → Fit sh (load ws sh) b
    → ((i : ℕ) → look (load ws sh) b (sl k slot_previous_free) ≡ suc i → 0 < frame_of (load ws sh) b i)
    → ((i : ℕ) → look (load ws sh) b (sl k slot_next_free) ≡ suc i → 0 < frame_of (load ws sh) b i)
    → Moves ws (unlink_w ws sh b k) sh b (unlink_v (look (load ws sh) b) k)
unfolding unlink_w link_w unlink_v
unlink_moves ws sh b k room fit before after =
    let v : Spot → ℕ = look (load ws sh) b in
    let ws₁ : List ℕ = link_w ws sh b (v (sl k slot_previous_free)) slot_next_free (v (sl k slot_next_free)) in
    let v₁ : Spot → ℕ = puts v (to_slot (v (sl k slot_previous_free)) slot_next_free (v (sl k slot_next_free)) ∷ []) in
    let a : Moves ws ws₁ sh b v₁ = moves ws sh b v (λ w. to_slot (v (sl k slot_previous_free)) slot_next_free (v (sl k slot_next_free)) ∷ []) room fit refl ((omega arith, before), tt) in
    let ws₂ : List ℕ = link_w ws₁ sh b (v (sl k slot_next_free)) slot_previous_free (v (sl k slot_previous_free)) in
    let v₂ : Spot → ℕ = puts v₁ (to_slot (v (sl k slot_next_free)) slot_previous_free (v (sl k slot_previous_free)) ∷ []) in
    let c : Moves ws₁ ws₂ sh b v₂ = moves ws₁ sh b v₁ (λ w. to_slot (v (sl k slot_next_free)) slot_previous_free (v (sl k slot_previous_free)) ∷ []) (omega (arith, a.long)) (moves_fit ws ws₁ sh b v₁ a fit) a.shows
    ((omega arith, λ i e. rw (still_frame b (load ws sh) (load ws₁ sh) (still_only b (load ws sh) (load ws₁ sh) a.only) i) (after i e)), tt) in
    let ac : Moves ws ws₂ sh b v₂ = moves_then ws ws₁ ws₂ sh b v₁ v₂ a c in
    let ws₃ : List ℕ = unlink_w ws sh b k in
    let v₃ : Spot → ℕ = unlink_v v k in
    let d : Moves ws₂ ws₃ sh b v₃ = moves ws₂ sh b v₂ (λ w. to_head head_first_free (first_after (v (sl k slot_previous_free)) (v (sl k slot_next_free)) (v (hd head_first_free))) ∷ to_head head_free_slots (v (hd head_free_slots) - 1) ∷ [])
    (omega (arith, ac.long)) (moves_fit ws ws₂ sh b v₂ ac fit) ac.shows ((omega arith, omega arith), ((omega arith, omega arith), tt)) in
    moves_then ws ws₂ ws₃ sh b v₂ v₃ ac d

-- ---- a run of slots

-- the table shows the free order l, and of its slots only vacant ones have changed
pub record Cleared (ws ws' : List ℕ) (sh : Shape) (b : ℕ) (t : Table) (l : List ℕ) : Type 0 where
  pub long : length ws' ≡ length ws
  pub only : OnlyTable b (load ws sh) (load ws' sh)
  pub table : Seen (load ws sh) (look (load ws' sh) b) (with_free t l)
  pub others : (i f : ℕ) → is_vacant (t.slots i) ≡ false → look (load ws' sh) b (sl i f) ≡ look (load ws sh) b (sl i f)

module _ (ws : List ℕ) (sh : Shape) (b : ℕ) (t : Table) (r : Ready ws sh b t) where
  cleared_none : Cleared ws ws sh b t t.free
  cleared_none = record { long = refl; only = λ a i. refl; table = see (load ws sh) b t r.table; others = λ i f e. refl }

  cleared_more : (ws₁ : List ℕ) (l : List ℕ) → Cleared ws ws₁ sh b t l → ((i : ℕ) → 0 < occurs i l → is_vacant (t.slots i) ≡ true) → (k : ℕ) → 0 < occurs k l
      → Cleared ws (unlink_w ws₁ sh b k) sh b t (without k l)
  unfolding look
  cleared_more ws₁ l c vacants k inside =
      let v : Spot → ℕ = look (load ws₁ sh) b in
      let there : (i : ℕ) → is_vacant (t.slots i) ≡ true → 0 < frame_of (load ws₁ sh) b i = λ i e.
      slot_there (load ws sh) (look (load ws₁ sh) b) (with_free t l) c.table i (vacant_there (t.slots i) e) in
      let fit : Fit sh (load ws₁ sh) b = still_fit sh b (load ws sh) (load ws₁ sh) (still_only b (load ws sh) (load ws₁ sh) c.only) r.fit in
      let q : Moves ws₁ (unlink_w ws₁ sh b k) sh b (unlink_v v k) = unlink_moves ws₁ sh b k (omega (arith, c.long, r.room)) fit
      (λ i e. there i (before_vacant (load ws sh) v t l c.table vacants k inside i e))
      (λ i e. there i (after_vacant (load ws sh) v t l c.table vacants k inside i e)) in
      record {
        long = q.long ∙ c.long;
        only = only_then b (load ws sh) (load ws₁ sh) (load (unlink_w ws₁ sh b k) sh) c.only q.only;
        table = rw q.shows (unlink_seen (load ws sh) v t l c.table vacants k inside);
        others = λ i f e. ap (λ (w : Spot → ℕ). w (sl i f)) q.shows ∙ unlink_others (load ws sh) v t l c.table vacants k inside i f e ∙ c.others i f e;
      }

  cleared_run : (a n : ℕ) → ((i : ℕ) → a ≤ i → i < a + n → is_vacant (t.slots i) ≡ true) → Cleared ws (unlink_all ws sh b a n) sh b t (drop_if (in_run a n) t.free)
  unfolding unlink_all
  cleared_run a zero h = rw (drop_none a t.free) cleared_none
  cleared_run a (suc n) h =
      let l : List ℕ = drop_if (in_run a n) t.free in
      let in_free : (i : ℕ) → occurs i l ≡ pick (in_run a n i) 0 (occurs i t.free) = λ i. occurs_drop_if (in_run a n) i t.free in
      let vacants : (i : ℕ) → 0 < occurs i l → is_vacant (t.slots i) ≡ true = λ i c. free_vacant t r.sound i (bool (in_run a n i)
      (λ e. let z : occurs i l ≡ 0 = in_free i ∙ rw e in absurd (omega arith))
      (λ e. let z : occurs i l ≡ occurs i t.free = in_free i ∙ rw e in omega arith)) in
      let one : occurs (a + n) t.free ≡ 1 = r.sound.free (a + n) ∙ ap bit (h (a + n) (omega arith) (omega arith)) in
      let inside : 0 < occurs (a + n) l = let z : occurs (a + n) l ≡ occurs (a + n) t.free = in_free (a + n) ∙ rw (run_no a n (a + n) (λ i j. omega arith)) in omega arith in
      rw (← drop_more a n t.free) (cleared_more (unlink_all ws sh b a n) l (cleared_run a n (λ i c d. h i c (omega arith))) vacants (a + n) inside)

  -- THE SLOTS OF AN EMPTY PAGE
  pub page_cleared : (p : ℕ) → is_attached t p ≡ true → busy_of till t.slots p ≡ 0 → Cleared ws (unlink_page_w ws sh b p) sh b t (drop_if (on_page till p) t.free)
  unfolding unlink_page_w
  page_cleared p att none = rw (← drop_same (in_run (p * page_size) (slots_of till p)) (on_page till p) (run_page till till_sane p) t.free)
      (cleared_run (p * page_size) (slots_of till p) (page_vacant till till_sane t t.free r.sound p att none))
