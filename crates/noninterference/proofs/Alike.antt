-- Two decisions alike: the one in the state without the claim is the other one erased. That the claim stays as it is stands in Stays.antt.
use Rattle.std.specs.Prelude.{◌≡◌, Bool, true, false, ◌&&◌, ◌||◌, List, [], ◌∷◌, ℕ, ◌≤◌, ◌<◌, length, eqb}
use Rattle.std.proofs.Math.Path.{refl}
use Rattle.std.proofs.Common.{sym, ap, ◌∙◌, arith}
use Rattle.std.proofs.Math.Option.{Option, none, some}
use borrow.Author.Tests.{ltb-true, eqb-true, eqb-false, lt-ltb, ne_eqb}
use Rattle.codec.specs.Codec.{decodes, slot_in, generation_in}
use Rattle.codec.proofs.Laws.{same_value}
use Rattle.model.specs.Base.{bit, member, occurs}
use Rattle.model.specs.State.{Sizes, Handle, Slot, Slot.absent, Slot.vacant, Slot.reserved, Slot.transfer_reserved, Slot.occupied, Table, Entry, Entry.moved, Entry.copied, Body, Body.reservation, Body.claim, Body.parcel, Body.plan, StorageSnapshot, State, last_id}
use Rattle.model.specs.State.{is_active, is_occupied}
use Rattle.model.specs.Book.{find, free_row, id_left, moved_of, spend_id}
use Rattle.model.specs.Request.{Fault}
use Rattle.model.specs.Decision.{Decision, Decision.refusal, Decision.refusal_after_id, Decision.accept, unless◌refuse◌then◌, given◌refuse◌then◌, as_reservation, as_claim, as_plan, reservation_row◌of◌refuse◌then◌, claim_row◌of◌refuse◌then◌, plan_row◌of◌refuse◌then◌, refuse_after_id◌then◌}
use Rattle.model.specs.Lookup.{View, View.invalid, View.busy, View.holds, view_slot, lookup, on_view, handle_or, kept_for, kept_at, on_look, look_at}
use Rattle.model.specs.WellFormed.{WellFormed, is_moving_by, in_claim}
use Rattle.noninterference.specs.Runs.{lowered, lower_answer, lower_slot}
use Rattle.noninterference.specs.Erase.{handle_at, erase_slot, erase_table, erase_rows, erase}
use Rattle.model.proofs.Tests.{bool, clash}
use Rattle.noninterference.proofs.Basics.{lowered_above, lowered_next}
use Rattle.noninterference.proofs.Marks.{marked, entry_marks}
use Rattle.noninterference.proofs.Rows.{find_erase, length_erase, rise_below, claim_open}

-- the entries are moves of these values, whose slots are marked with t
abbrev pub Held : ℕ → Table → List Entry → List ℕ → Type 0
Held t x [] [] = Unit {0}
Held t x [] (v ∷ vs) = ⊥
Held t x (moved k h r ∷ es) [] = ⊥
Held t x (moved k h r ∷ es) (v ∷ vs) = (decodes x.mask v ≡ true) × (slot_in x.mask v ≡ k)
    × (x.slots k ≡ transfer_reserved (generation_in x.mask v) t) × Held t x es vs
Held t x (copied h ∷ es) vs = ⊥

-- t is an open claim of the table b, of the values vs, in a well-formed state
pub record Open (z : Sizes) (t b : ℕ) (es : List Entry) (vs : List ℕ) (s : State) : Type 0 where
  pub wf : WellFormed z s
  pub row : find t s.book.rows ≡ some (claim b es)
  pub held : Held t (s.tables b) es vs

abbrev pub erase_decision : ℕ → List Entry → Decision → Decision
erase_decision t es (refusal n) = refusal n
erase_decision t es (refusal_after_id n) = refusal_after_id n
erase_decision t es (accept u a) = accept (erase t es u) (lower_answer t a)

-- a value that names a slot of the claim is one of its values
named : (t : ℕ) (x : Table) (k v g : ℕ) → decodes x.mask v ≡ true → slot_in x.mask v ≡ k → generation_in x.mask v ≡ g
    → x.slots k ≡ transfer_reserved g t
    → (es : List Entry) (vs : List ℕ) → Held t x es vs → 1 ≤ occurs k (moved_of es) → member v vs ≡ true
named t x k v g d a c m [] [] h o = absurd (omega arith)
named t x k v g d a c m [] (w ∷ vs) h o = absurd h
named t x k v g d a c m (moved j y r ∷ es) [] h o = absurd h
named t x k v g d a c m (moved j y r ∷ es) (w ∷ vs) h o = bool (eqb v w)
    (λ e. rw e)
    (λ e. rw e (bool (eqb k j)
    (λ q. let p : k ≡ j = eqb-true k j q in
    let f : transfer_reserved g t ≡ transfer_reserved (generation_in x.mask w) t = sym m ∙ rw p h.2 in
    let i : g ≡ generation_in x.mask w = cc in
    absurd (eqb-false v w e (same_value x.mask v w d h.0 (a ∙ p ∙ sym h.1) (c ∙ i))))
    (λ q. named t x k v g d a c m es vs h.3 (omega (arith, rw q at o)))))
named t x k v g d a c m (copied y ∷ es) vs h o = absurd h

-- the handle of a moved slot is kept
pub kept_has : (k : ℕ) (es : List Entry) → 1 ≤ occurs k (moved_of es) → kept_for k es ≡ some (handle_at k es)
kept_has k [] h = absurd (omega arith)
kept_has k (moved j y r ∷ es) h = bool (eqb k j) (λ q. rw q) (λ q. rw q (kept_has k es (omega (arith, rw q at h))))
kept_has k (copied y ∷ es) h = kept_has k es h

-- a slot without the claim's mark is only lowered
pub bare_slot : (t : ℕ) (es : List Entry) (k : ℕ) (x : Slot) → is_moving_by t x ≡ false → erase_slot t es k x ≡ lower_slot t x
bare_slot t es k absent e = refl
bare_slot t es k (vacant g) e = refl
bare_slot t es k (reserved g i) e = refl
bare_slot t es k (transfer_reserved g i) e = rw (ne_eqb i t (λ y. eqb-false t i e (sym y)))
bare_slot t es k (occupied g h) e = refl

pub lower_occupied : (t : ℕ) (x : Slot) → is_occupied (lower_slot t x) ≡ is_occupied x
lower_occupied t absent = refl
lower_occupied t (vacant g) = refl
lower_occupied t (reserved g i) = refl
lower_occupied t (transfer_reserved g i) = refl
lower_occupied t (occupied g h) = refl

pub lower_handle : (t : ℕ) (x : Slot) → handle_or (lower_slot t x) ≡ handle_or x
lower_handle t absent = refl
lower_handle t (vacant g) = refl
lower_handle t (reserved g i) = refl
lower_handle t (transfer_reserved g i) = refl
lower_handle t (occupied g h) = refl

-- the view of a slot, if a value of equal generation does not meet the mark
view_slot_law : (t : ℕ) (es : List Entry) (k g : ℕ) (x : Slot) → (x ≡ transfer_reserved g t → ⊥) → view_slot k g (erase_slot t es k x) ≡ view_slot k g x
view_slot_law t es k g absent n = refl
view_slot_law t es k g (vacant m) n = refl
view_slot_law t es k g (reserved m i) n = refl
view_slot_law t es k g (transfer_reserved m i) n = bool (eqb i t)
    (λ e. rw e (bool (eqb g m)
    (λ q. absurd (n (rw (eqb-true g m q, eqb-true i t e))))
    (λ q. rw q)))
    (λ e. rw e)
view_slot_law t es k g (occupied m h) n = refl

-- a state s with an open claim t of the table b, its entries es and their values vs: for all that follows
pub record Case : Type 0 where
  pub z : Sizes
  pub t : ℕ
  pub b : ℕ
  pub es : List Entry
  pub vs : List ℕ
  pub s : State
  pub o : Open z t b es vs s

module _ (x : Case) where
  abbrev t : ℕ
  t = x.t

  abbrev b : ℕ
  b = x.b

  abbrev es : List Entry
  es = x.es

  abbrev vs : List ℕ
  vs = x.vs

  abbrev s : State
  s = x.s

  abbrev o : Open x.z x.t x.b x.es x.vs x.s
  o = x.o

  pub below : t < s.book.next
  below = rise_below 1 s.book.next t (claim b es) s.book.rows o.wf.ids.rise o.row

  -- the claim's slots are in its table
  pub bare : (c k : ℕ) → eqb c b ≡ false → is_moving_by t ((s.tables c).slots k) ≡ false
  bare c k n = let m : in_claim c k (some (claim b es))
      ≡ bit (is_moving_by t ((s.tables c).slots k)) = rw o.row at (o.wf.marks.transfer_reserved t c k) in
      bool (is_moving_by t ((s.tables c).slots k)) (λ e. absurd (let y : ◌≡◌ {A = ℕ} 0 1 = rw (n, e) at m in omega arith)) (λ e. e)

  -- how often a slot of it stands among the entries
  pub counted : (k : ℕ) → occurs k (moved_of es) ≡ bit (is_moving_by t ((s.tables b).slots k))
  counted k = entry_marks s o.wf t b es o.row k

  -- "a table not active has no open reservation or claim"
  pub is_active_law : is_active (s.tables b).life ≡ true
  is_active_law = bool (is_active (s.tables b).life) (λ e. e) (λ e. clash (claim_open t b es s.book.rows o.row) (o.wf.lifecycles.closing b e))

  -- a slot with its mark is one of them
  own_slot : (c k n : ℕ) → (s.tables c).slots k ≡ transfer_reserved n t → 1 ≤ occurs k (moved_of es)
  own_slot c k n e = bool (eqb c b)
      (λ q. let p : c ≡ b = eqb-true c b q in omega (arith, counted k ∙ ap bit (marked t n ((s.tables b).slots k) (rw p at e))))
      (λ q. clash (marked t n ((s.tables c).slots k) e) (bare c k q))

  own : (v : ℕ) → decodes (s.tables b).mask v ≡ true
      → (s.tables b).slots (slot_in (s.tables b).mask v) ≡ transfer_reserved (generation_in (s.tables b).mask v) t
      → member v vs ≡ true
  own v d m = let k : ℕ = slot_in (s.tables b).mask v in let g : ℕ = generation_in (s.tables b).mask v in
      named t (s.tables b) k v g d refl refl m es vs o.held (own_slot b k g m)

  pub lookup_same : (c v : ℕ) → (eqb c b && member v vs) ≡ false → lookup (erase_table t es (s.tables c)) v ≡ lookup (s.tables c) v
  lookup_same c v n = let y : Table = s.tables c in let k : ℕ = slot_in y.mask v in let g : ℕ = generation_in y.mask v in
      bool (decodes y.mask v)
      (λ d. rw d (view_slot_law t es k g (y.slots k) (λ m. bool (eqb c b)
      (λ q. let p : c ≡ b = eqb-true c b q in clash (own v (rw p at d) (rw p at m)) (rw q at n))
      (λ q. clash (marked t g (y.slots k) m) (bare c k q)))))
      (λ d. rw d)

  -- `get_info` shows the same: of a slot of the claim the handle that the claim keeps, which stands in the slot without it
  look_slot : (c k g : ℕ) (y : Slot) → (s.tables c).slots k ≡ y
      → on_look (view_slot k g (erase_slot t es k y)) (kept_at (erase_rows t s.book.rows) k (erase_slot t es k y)) ≡ on_look (view_slot k g y) (kept_at s.book.rows k y)
  look_slot c k g absent e = refl
  look_slot c k g (vacant n) e = refl
  look_slot c k g (reserved n i) e = refl
  look_slot c k g (transfer_reserved n i) e = bool (eqb i t)
      (λ q. let p : i ≡ t = eqb-true i t q in rw (q, p, o.row) (bool (eqb g n) (λ r. rw r (sym (kept_has k es (own_slot c k n (rw p at e))))) (λ r. rw r)))
      (λ q. rw (q, find_erase t i (eqb-false i t q) s.book.rows))
  look_slot c k g (occupied n h) e = refl

  pub look_same : (c v : ℕ) → look_at (erase t es s) (erase_table t es (s.tables c)) v ≡ look_at s (s.tables c) v
  look_same c v = let y : Table = s.tables c in let k : ℕ = slot_in y.mask v in
      bool (decodes y.mask v) (λ d. rw d (look_slot c k (generation_in y.mask v) (y.slots k) refl)) (λ d. rw d)

  abbrev E : State → State
  E = erase t es

  -- a refusal for want of a row (with frames enough) or an id
  abbrev pub wants : Bool → Decision → Bool
  wants e (refusal n) = (eqb 1 n && e) || eqb 12 n
  wants e (refusal_after_id n) = false
  wants e (accept u a) = false

  -- d is decided here, d₀ in the state without the claim: that is d with the claim erased, where d is no refusal for want of a row or an id
  pub record Alike (e : Bool) (d d₀ : Decision) : Type 0 where
    pub twin : wants e d ≡ false → d₀ ≡ erase_decision t es d

  pub refuses : (e : Bool) (n : ℕ) → Alike e (refusal n) (refusal n)
  refuses e n = record { twin = λ w. refl }

  -- a check that comes out alike
  pub check : {e : Bool} (c : Bool) (n : ℕ) {d d₀ : Decision} → (c ≡ true → Alike e d d₀)
      → Alike e (unless c refuse n then d) (unless c refuse n then d₀)
  check {e} c n k = bool c (λ q. rw q (k q)) (λ q. rw q (refuses e n))

  -- a row is left there if one is left here, and an id
  pub row_there : free_row s ≡ true → free_row (E s) ≡ true
  row_there q = lt-ltb _ _ (omega (arith, length_erase t s.book.rows, ltb-true (length s.book.rows) s.book.capacity q))

  pub id_there : id_left (E s) ≡ true
  unfolding last_id
  id_there =
      let y : lowered t s.book.next ≡ last_id → ⊥ = rw (lowered_above t s.book.next below) (λ a. omega (arith, o.wf.ids.next, below)) in
      rw (ne_eqb _ _ y)

  pub row_left_law : {d d₀ : Decision} → Alike true d d₀ → Alike true (unless free_row s refuse 1 then d) (unless free_row (E s) refuse 1 then d₀)
  row_left_law k = bool (free_row s)
      (λ q. rw (q, row_there q) k)
      (λ q. record { twin = λ w. clash refl (rw q at w) })

  pub id_left_law : {e : Bool} {d d₀ : Decision} → Alike e d d₀ → Alike e (unless id_left s refuse 12 then d) (unless id_left (E s) refuse 12 then d₀)
  id_left_law k = bool (id_left s)
      (λ q. rw (q, id_there) k)
      (λ q. record { twin = λ w. clash refl (rw q at w) })

  -- what a value names
  pub views : {e : Bool} {v v₀ : View} (f f₀ : ℕ → Handle → Decision) → v₀ ≡ v → ((k : ℕ) (h : Handle) → v ≡ holds k h → Alike e (f k h) (f₀ k h))
      → Alike e (on_view v 2 3 f) (on_view v₀ 2 3 f₀)
  views {e} {v} f f₀ p k = rw p (go v refl)
    where
      go : (w : View) → v ≡ w → Alike e (on_view w 2 3 f) (on_view w 2 3 f₀)
      go invalid q = refuses e 2
      go busy q = refuses e 3
      go (holds j h) q = k j h q

  pub somes {ℓ} : {A : Type ℓ} {e : Bool} {a a₀ : Option A} (n : ℕ) (f f₀ : A → Decision) → a₀ ≡ a → ((x : A) → a ≡ some x → Alike e (f x) (f₀ x))
      → Alike e (given a refuse n then f) (given a₀ refuse n then f₀)
  somes {A = A} {e} {a} n f f₀ p k = rw p (go a refl)
    where
      go : (w : Option A) → a ≡ w → Alike e (given w refuse n then f) (given w refuse n then f₀)
      go none q = refuses e n
      go (some x) q = k x q

  -- rows other than the claim's
  pub reservations : {e : Bool} (i : ℕ) (f f₀ : ℕ → List ℕ → Decision) → (i ≡ t → ⊥) → ((c : ℕ) (ks : List ℕ) → Alike e (f c ks) (f₀ c ks))
      → Alike e (reservation_row i of s refuse 18 then f) (reservation_row lowered t i of E s refuse 18 then f₀)
  reservations {e} i f f₀ n k = rw (find_erase t i n s.book.rows) (go (find i s.book.rows))
    where
      go : (w : Option Body) → Alike e (as_reservation w 18 f) (as_reservation w 18 f₀)
      go none = refuses e 18
      go (some (reservation c ks)) = k c ks
      go (some (claim c xs)) = refuses e 18
      go (some (parcel hs)) = refuses e 18
      go (some (plan c n w fs)) = refuses e 18

  pub claims : {e : Bool} (i : ℕ) (f f₀ : ℕ → List Entry → Decision) → (i ≡ t → ⊥) → ((c : ℕ) (xs : List Entry) → Alike e (f c xs) (f₀ c xs))
      → Alike e (claim_row i of s refuse 18 then f) (claim_row lowered t i of E s refuse 18 then f₀)
  claims {e} i f f₀ n k = rw (find_erase t i n s.book.rows) (go (find i s.book.rows))
    where
      go : (w : Option Body) → Alike e (as_claim w 18 f) (as_claim w 18 f₀)
      go none = refuses e 18
      go (some (reservation c ks)) = refuses e 18
      go (some (claim c xs)) = k c xs
      go (some (parcel hs)) = refuses e 18
      go (some (plan c n w fs)) = refuses e 18

  pub plans : {e : Bool} (i : ℕ) (f f₀ : ℕ → ℕ → StorageSnapshot → List ℕ → Decision) → (i ≡ t → ⊥)
      → ((c n : ℕ) (w : StorageSnapshot) (fs : List ℕ) → Alike e (f c n w fs) (f₀ c n w fs))
      → Alike e (plan_row i of s refuse 18 then f) (plan_row lowered t i of E s refuse 18 then f₀)
  plans {e} i f f₀ n k = rw (find_erase t i n s.book.rows) (go (find i s.book.rows))
    where
      go : (w : Option Body) → Alike e (as_plan w 18 f) (as_plan w 18 f₀)
      go none = refuses e 18
      go (some (reservation c ks)) = refuses e 18
      go (some (claim c xs)) = refuses e 18
      go (some (parcel hs)) = refuses e 18
      go (some (plan c n w fs)) = k c n w fs

  pub spend_erase : erase t es (spend_id s) ≡ spend_id (E s)
  spend_erase = rw (lowered_next t s.book.next below)

  -- a fault found after the id step
  pub faults : {e : Bool} {a a₀ : Option Fault} (d d₀ : Decision) → a₀ ≡ a → (a ≡ none → Alike e d d₀) → Alike e (refuse_after_id a then d) (refuse_after_id a₀ then d₀)
  faults {e} {a} d d₀ p k = rw p (go a refl)
    where
      go : (w : Option Fault) → a ≡ w → Alike e (refuse_after_id w then d) (refuse_after_id w then d₀)
      go none q = k q
      go (some f) q = record { twin = λ w. refl }
