-- Handles put where they stand already change nothing, and what a claim's entries say of the slots.
use Rattle.std.specs.Prelude.{◌≡◌, refl, true, List, [], ◌∷◌, ℕ, ◌+◌, max, ◌≤◌, eqb}
use Rattle.std.proofs.Common.{sym, ap, ◌∙◌, arith, eqb-true, eq-eqb}
use Rattle.model.specs.Base.{put, occurs}
use Rattle.model.specs.State.{Sizes, Handle, Slot, Slot.transfer_reserved, Slot.occupied, Page, Table, Entry, Entry.moved, Entry.copied}
use Rattle.model.specs.State.{generation, is_busy}
use Rattle.model.specs.Storage.{raised, page_of, empty_after, place, keep, keep_all}
use Rattle.model.specs.Book.{moved_of}
use Rattle.model.specs.Step.{restore_all}
use Rattle.model.specs.WellFormed.{Generations}
use Rattle.noninterference.specs.Erase.{handle_at, erase_table}
use Rattle.model.proofs.Tests.{bool}
use Rattle.noninterference.proofs.Tables.{keep_erase}
use Rattle.noninterference.proofs.Alike.{Held}

pub page_idle : (ps : ℕ → Page) (p g : ℕ) → g ≤ (ps p).high → (q : ℕ) → put ps p (raised (ps p) g) q ≡ ps q
page_idle ps p g h q = bool (eqb q p)
    (λ e. let w : max (ps p).high g ≡ (ps p).high = omega arith in rw (e, eqb-true q p e) (λ i. record { frame = (ps p).frame; high = w i }))
    (λ e. rw e)

module _ (z : Sizes) where
  slot_idle : (f : ℕ → Slot) (k : ℕ) (y : Slot) → f k ≡ y → (j : ℕ) → put f k y j ≡ f j
  slot_idle f k y e j = bool (eqb j k) (λ q. rw (q, eqb-true j k q) (sym e)) (λ q. rw q)

  order_idle : (p : ℕ) (f : ℕ → Slot) (e : List ℕ) (x : Slot) (g : ℕ) (h : Handle) → x ≡ occupied g h → empty_after z (is_busy x) true p f e ≡ e
  order_idle p f e x g h q = rw q

  place_idle : (y : Table) (k g : ℕ) (h : Handle) → y.slots k ≡ occupied g h → g ≤ (y.pages (page_of z k)).high → place z y k (occupied g h) ≡ y
  unfolding place
  place_idle y k g h e m = λ i. record {
    limit = y.limit;
    mask = y.mask;
    life = y.life;
    epoch = y.epoch;
    size = y.size;
    pages = λ q. page_idle y.pages (page_of z k) g m q i;
    slots = λ j. slot_idle y.slots k (occupied g h) e j i;
    free = y.free;
    empty = order_idle (page_of z k) (put y.slots k (occupied g h)) y.empty (y.slots k) g h e i;
    detached = y.detached;
  }

  -- the entries' handles stand in their slots
  abbrev pub Stand : Table → List Entry → Type 0
  Stand y [] = Unit {0}
  Stand y (moved k h r ∷ xs) = (y.slots k ≡ occupied (generation (y.slots k)) h) × (generation (y.slots k) ≤ (y.pages (page_of z k)).high)
      × Stand y xs
  Stand y (copied h ∷ xs) = Stand y xs

  pub restore_idle : (y : Table) (xs : List Entry) → Stand y xs → restore_all z xs y ≡ y
  restore_idle y [] p = refl
  restore_idle y (moved k h r ∷ xs) p = ap (restore_all z xs) (place_idle y k (generation (y.slots k)) h p.0 p.1) ∙ restore_idle y xs p.2
  restore_idle y (copied h ∷ xs) p = restore_idle y xs p

-- a handle for each slot, as the entries have it
abbrev pub Agree : (ℕ → Handle) → List Entry → Type 0
Agree f [] = Unit {0}
Agree f (moved k h r ∷ es) = (f k ≡ h) × Agree f es
Agree f (copied h ∷ es) = Agree f es

agree_other : (f g : ℕ → Handle) (es : List Entry) → ((k : ℕ) → 1 ≤ occurs k (moved_of es) → g k ≡ f k) → Agree f es → Agree g es
agree_other f g [] e a = tt
agree_other f g (moved k h r ∷ es) e a = (e k (rw (eq-eqb k k refl) (omega arith)) ∙ a.0, agree_other f g es (λ j c. e j (omega arith)) a.1)
agree_other f g (copied h ∷ es) e a = agree_other f g es e a

-- no slot stands twice, so that each entry's handle is the one found for its slot
pub agrees_own : (es : List Entry) → ((k : ℕ) → occurs k (moved_of es) ≤ 1) → Agree (λ k. handle_at k es) es
agrees_own [] o = tt
agrees_own (moved k h r ∷ es) o = (
  rw (eq-eqb k k refl),
  agree_other (λ j. handle_at j es) (λ j. handle_at j (moved k h r ∷ es)) es
      (λ j c. bool (eqb j k) (λ q. absurd (let w : 1 + occurs j (moved_of es) ≤ 1 = rw q at (o j) in omega arith)) (λ q. rw q))
      (agrees_own es (λ j. omega (arith, o j))),
)
agrees_own (copied h ∷ es) o = agrees_own es o

module _ (z : Sizes) (t : ℕ) (es : List Entry) where
  -- without the claim its handles stand in their slots
  pub stand_erased : (x : Table) → Generations z x → (xs : List Entry) → Agree (λ k. handle_at k es) xs → (vs : List ℕ) → Held t x xs vs
      → Stand z (erase_table t es x) xs
  stand_erased x g [] a vs h = tt
  stand_erased x g (moved k y r ∷ xs) a [] h = absurd h
  stand_erased x g (moved k y r ∷ xs) a (v ∷ vs) h = let e = g k (rw h.2) in
      (rw (h.2, eq-eqb t t refl, a.0), rw (h.2, eq-eqb t t refl) (rw h.2 at e.2), stand_erased x g xs a.1 vs h.3)
  stand_erased x g (copied y ∷ xs) a vs h = absurd h

  -- marks with t are, without the claim, handles put back
  pub mark_restored : (xs : List Entry) → Agree (λ k. handle_at k es) xs → (x : Table)
      → erase_table t es (keep_all z (λ g. transfer_reserved g t) (moved_of xs) x) ≡ restore_all z xs (erase_table t es x)
  mark_restored [] a x = refl
  mark_restored (moved k h r ∷ xs) a x =
      mark_restored xs a.1 (keep z (λ g. transfer_reserved g t) x k)
      ∙ ap (restore_all z xs) (sym (keep_erase t es z (λ g. transfer_reserved g t) (λ g. occupied g h) k (λ g. rw (eq-eqb t t refl, a.0)) x))
  mark_restored (copied h ∷ xs) a x = mark_restored xs a x
