-- Marks: a slot's mark names the row that holds the slot. The two kinds of mark are told apart by a Boolean: true for Reserved.
use Rattle.std.specs.Prelude.{◌≡◌, refl, Bool, true, false, not, List, ℕ, ◌≤◌, ◌<◌, eqb}
use Rattle.std.proofs.Common.{sym, ap, ◌∙◌, arith, eqb-true, ne_eqb}
use Rattle.std.proofs.Math.Option.{Option, some}
use Rattle.std.proofs.lemmas.Bool.{eqb-false}
use Rattle.model.specs.Base.{bit, pick, put, occurs}
use Rattle.model.specs.State.{Slot, Slot.absent, Slot.vacant, Slot.reserved, Slot.transfer_reserved, Slot.occupied, Table, Entry, Body}
use Rattle.model.specs.State.{Body.reservation, Body.claim, Row, State, is_occupied, is_busy}
use Rattle.model.specs.Book.{find, moved_of}
use Rattle.model.specs.WellFormed.{in_reservation, in_claim, is_reserved_by, is_moving_by, Marks}
use Rattle.model.proofs.Tests.{bool, clash, same, bit_true, bit_small}

-- how often a slot stands in a row of the kind, and whether it is so marked
abbrev pub in_row : Bool → ℕ → ℕ → Option Body → ℕ
in_row true b k x = in_reservation b k x
in_row false b k x = in_claim b k x

abbrev pub is_by : Bool → ℕ → Slot → Bool
is_by true i x = is_reserved_by i x
is_by false i x = is_moving_by i x

abbrev pub Marked : (ℕ → Table) → List Row → Type 0
Marked ts rs = (m : Bool) (i b k : ℕ) → in_row m b k (find i rs) ≡ bit (is_by m i ((ts b).slots k))

-- one kind, or two
abbrev pub alike : Bool → Bool → Bool
alike true n = n
alike false n = not n

-- no mark at all
abbrev pub bare : Slot → Bool
bare absent = true
bare (vacant g) = true
bare (reserved g i) = false
bare (transfer_reserved g i) = false
bare (occupied g h) = true

pub bare_mark : (m : Bool) (i : ℕ) (x : Slot) → bare x ≡ true → is_by m i x ≡ false
bare_mark true i absent e = refl
bare_mark true i (vacant g) e = refl
bare_mark true i (reserved g j) e = clash e refl
bare_mark true i (transfer_reserved g j) e = refl
bare_mark true i (occupied g h) e = refl
bare_mark false i absent e = refl
bare_mark false i (vacant g) e = refl
bare_mark false i (reserved g j) e = refl
bare_mark false i (transfer_reserved g j) e = clash e refl
bare_mark false i (occupied g h) e = refl

-- a slot marked by one row is marked by no other, and holds no handle
pub mark_other : (m n : Bool) (i j : ℕ) (x : Slot) → (j ≡ i → ⊥) → is_by m i x ≡ true → is_by n j x ≡ false
mark_other true true i j absent y e = refl
mark_other true true i j (vacant g) y e = refl
mark_other true true i j (reserved g k) y e = ne_eqb j k (λ z. y (z ∙ sym (eqb-true i k e)))
mark_other true true i j (transfer_reserved g k) y e = refl
mark_other true true i j (occupied g h) y e = refl
mark_other true false i j absent y e = refl
mark_other true false i j (vacant g) y e = refl
mark_other true false i j (reserved g k) y e = refl
mark_other true false i j (transfer_reserved g k) y e = clash e refl
mark_other true false i j (occupied g h) y e = refl
mark_other false true i j absent y e = refl
mark_other false true i j (vacant g) y e = refl
mark_other false true i j (reserved g k) y e = clash e refl
mark_other false true i j (transfer_reserved g k) y e = refl
mark_other false true i j (occupied g h) y e = refl
mark_other false false i j absent y e = refl
mark_other false false i j (vacant g) y e = refl
mark_other false false i j (reserved g k) y e = refl
mark_other false false i j (transfer_reserved g k) y e = ne_eqb j k (λ z. y (z ∙ sym (eqb-true i k e)))
mark_other false false i j (occupied g h) y e = refl

pub mark_held : (m : Bool) (i : ℕ) (x : Slot) → is_by m i x ≡ true → is_occupied x ≡ false
mark_held m i absent e = refl
mark_held m i (vacant g) e = refl
mark_held m i (reserved g j) e = refl
mark_held m i (transfer_reserved g j) e = refl
mark_held true i (occupied g h) e = clash e refl
mark_held false i (occupied g h) e = clash e refl

pub mark_busy : (m : Bool) (i : ℕ) (x : Slot) → is_by m i x ≡ true → is_busy x ≡ true
mark_busy true i absent e = e
mark_busy true i (vacant g) e = e
mark_busy false i absent e = e
mark_busy false i (vacant g) e = e
mark_busy m i (reserved g n) e = refl
mark_busy m i (transfer_reserved g n) e = refl
mark_busy m i (occupied g h) e = refl

-- one slot is not marked both ways
pub not_both : (i j : ℕ) (x : Slot) → is_by true i x ≡ true → is_by false j x ≡ true → ⊥
not_both i j absent e q = clash e refl
not_both i j (vacant g) e q = clash e refl
not_both i j (reserved g n) e q = clash q refl
not_both i j (transfer_reserved g n) e q = clash e refl
not_both i j (occupied g h) e q = clash e refl

-- a table changed: its rows' clauses there, and the same elsewhere
pub marked_put : (ts : ℕ → Table) (b : ℕ) (t : Table) (rs ns : List Row) → Marked ts rs
    → ((m : Bool) (i k : ℕ) → in_row m b k (find i ns) ≡ bit (is_by m i (t.slots k)))
    → ((m : Bool) (i c k : ℕ) → (c ≡ b → ⊥) → in_row m c k (find i ns) ≡ in_row m c k (find i rs)) → Marked (put ts b t) ns
marked_put ts b t rs ns w h g m i c k = bool (eqb c b)
    (λ e. rw (e, eqb-true c b e) (h m i k))
    (λ e. rw e (g m i c k (eqb-false c b e) ∙ w m i c k))

-- the slots of a table under a change of the row i alone, which holds the slots `ks` there before or after: the other rows' marks stay
pub marked_others : (ts : ℕ → Table) (b : ℕ) (t : Table) (rs ns : List Row) (i₀ : ℕ) → Marked ts rs
    → ((m : Bool) (k : ℕ) → in_row m b k (find i₀ ns) ≡ bit (is_by m i₀ (t.slots k)))
    → ((m : Bool) (i c k : ℕ) → (i ≡ i₀ → ⊥) → in_row m c k (find i ns) ≡ in_row m c k (find i rs))
    → ((m : Bool) (c k : ℕ) → (c ≡ b → ⊥) → in_row m c k (find i₀ ns) ≡ in_row m c k (find i₀ rs))
    → ((m : Bool) (i k : ℕ) → (i ≡ i₀ → ⊥) → is_by m i (t.slots k) ≡ is_by m i ((ts b).slots k)) → Marked (put ts b t) ns
marked_others ts b t rs ns i₀ w own others away tame = marked_put ts b t rs ns w
    (λ m i k. bool (eqb i i₀)
    (λ e. rw (eqb-true i i₀ e) (own m k))
    (λ e. let y : i ≡ i₀ → ⊥ = eqb-false i i₀ e in others m i b k y ∙ w m i b k ∙ sym (ap bit (tame m i k y))))
    (λ m i c k n. bool (eqb i i₀)
    (λ e. rw (eqb-true i i₀ e) (away m c k n))
    (λ e. others m i c k (eqb-false i i₀ e)))

-- rows unchanged, and no mark changed
pub marked_same : (ts : ℕ → Table) (b : ℕ) (t : Table) (rs : List Row) → Marked ts rs
    → ((m : Bool) (i k : ℕ) → is_by m i (t.slots k) ≡ is_by m i ((ts b).slots k)) → Marked (put ts b t) rs
marked_same ts b t rs w tame = marked_put ts b t rs rs w (λ m i k. w m i b k ∙ sym (ap bit (tame m i k))) (λ m i c k n. refl)

-- a row open in table b under the kind m holds the slots `ks` there, and no others
pub record Keys (m : Bool) (b : ℕ) (ks : List ℕ) (x : Body) : Type 0 where
  pub own : (k : ℕ) → in_row m b k (some x) ≡ occurs k ks
  pub other : (k : ℕ) → in_row (not m) b k (some x) ≡ 0
  pub far : (n : Bool) (c k : ℕ) → (c ≡ b → ⊥) → in_row n c k (some x) ≡ 0

pub keys_reservation : (b : ℕ) (ks : List ℕ) → Keys true b ks (reservation b ks)
keys_reservation b ks = record { own = λ k. rw (same b); other = λ k. refl; far = far }
  where
    far : (n : Bool) (c k : ℕ) → (c ≡ b → ⊥) → in_row n c k (some (reservation b ks)) ≡ 0
    far true c k y = rw (ne_eqb c b y)
    far false c k y = refl

pub keys_claim : (b : ℕ) (es : List Entry) → Keys false b (moved_of es) (claim b es)
keys_claim b es = record { own = λ k. rw (same b); other = λ k. refl; far = far }
  where
    far : (n : Bool) (c k : ℕ) → (c ≡ b → ⊥) → in_row n c k (some (claim b es)) ≡ 0
    far true c k y = refl
    far false c k y = rw (ne_eqb c b y)

-- the slots that a row holds are those that it marks, each once
pub record Owns (m : Bool) (i : ℕ) (ks : List ℕ) (f : ℕ → Slot) : Type 0 where
  pub marked : (k : ℕ) → occurs k ks ≡ bit (is_by m i (f k))
  pub once : (k : ℕ) → occurs k ks ≤ 1
  pub on : (k : ℕ) → 0 < occurs k ks → is_by m i (f k) ≡ true
  pub busy : (k : ℕ) → 0 < occurs k ks → is_busy (f k) ≡ true

pub owns : (ts : ℕ → Table) (rs : List Row) → Marked ts rs → (m : Bool) (i b : ℕ) (ks : List ℕ) (x : Body) → Keys m b ks x → find i rs ≡ some x
    → Owns m i ks (ts b).slots
owns ts rs w m i b ks x y e =
    let d : (k : ℕ) → occurs k ks ≡ bit (is_by m i ((ts b).slots k)) = λ k. sym (y.own k) ∙ (rw e at (w m i b k)) in
    let on : (k : ℕ) → 0 < occurs k ks → is_by m i ((ts b).slots k) ≡ true = λ k c. bit_true (is_by m i ((ts b).slots k)) (omega (arith, d k)) in
    record {
      marked = d;
      once = λ k. omega (arith, d k, bit_small (is_by m i ((ts b).slots k)));
      on = on;
      busy = λ k c. mark_busy m i ((ts b).slots k) (on k c);
    }

pub both_marks : (s : State) → Marks s → Marked s.tables s.book.rows
both_marks s w true i b k = w.reserved i b k
both_marks s w false i b k = w.transfer_reserved i b k

-- a row's count at a slot, by the count of its list
pub keys_count : (m n : Bool) (b : ℕ) (ks : List ℕ) (x : Body) → Keys m b ks x → (k : ℕ) → in_row n b k (some x) ≡ pick (alike m n) (occurs k ks) 0
keys_count true true b ks x w k = w.own k
keys_count true false b ks x w k = w.other k
keys_count false true b ks x w k = w.other k
keys_count false false b ks x w k = w.own k

-- the mark of a kind
abbrev pub mark : Bool → ℕ → ℕ → Slot
mark true i g = reserved g i
mark false i g = transfer_reserved g i

pub mark_own : (m n : Bool) (i g : ℕ) → bit (is_by n i (mark m i g)) ≡ pick (alike m n) 1 0
mark_own true true i g = rw (same i)
mark_own true false i g = refl
mark_own false true i g = refl
mark_own false false i g = rw (same i)

pub mark_apart : (m n : Bool) (i j g : ℕ) → (j ≡ i → ⊥) → is_by n j (mark m i g) ≡ false
mark_apart true true i j g y = ne_eqb j i y
mark_apart true false i j g y = refl
mark_apart false true i j g y = refl
mark_apart false false i j g y = ne_eqb j i y
