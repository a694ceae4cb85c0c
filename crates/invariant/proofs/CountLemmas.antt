-- Objects whose counts rise and fall, and the handles of slots, by object.
use Rattle.std.specs.Prelude.{◌≡◌, refl, false, List, [], ◌∷◌, ℕ, suc, ◌+◌, ◌-◌, ◌≤◌, ◌<◌, length, ltb, eqb}
use Rattle.std.proofs.Common.{sym, ◌∙◌, arith, ltb-true, eq-eqb, ne_eqb}
use Rattle.std.proofs.Math.Option.{Option, none, some}
use Rattle.std.proofs.lemmas.Bool.{eqb-false}
use Rattle.model.specs.Base.{bit, pick, occurs, sum}
use Rattle.model.specs.State.{Handle, Slot, Slot.absent, Slot.vacant, Slot.reserved, Slot.transfer_reserved, Slot.occupied, Table, Stage, Entry, Entry.moved, Entry.copied}
use Rattle.model.specs.State.{Stage.still_new, Stage.now_active, Stage.now_retired, Object, is_occupied, max_slots}
use Rattle.model.specs.Objects.{is_now_retired, activated, raise, lower, retired_by_owner, change, change_all}
use Rattle.model.specs.Book.{copies_of}
use Rattle.model.specs.Request.{Fault}
use Rattle.model.specs.Transfer.{copies_fault}
use Rattle.model.specs.WellFormed.{ObjectRange, StageCount, of_object, in_slot, in_handles}
use Rattle.model.proofs.Tests.{apart, bool, same, put_at}
use Rattle.model.proofs.Sums.{sum_equal, sum_zero, sum_add, sum_put}
use Rattle.invariant.proofs.Pointwise.{given, given_out}

-- an object's own clauses
pub record Fit (x : Object) : Type 0 where
  pub staged : StageCount x.stage x.count
  pub within : x.count ≤ x.limit
  pub range : ObjectRange x

lower_stage : (g : Stage) (n : ℕ) → StageCount g n → 1 ≤ n → StageCount (pick (ltb 1 n) g now_retired) (n - 1)
lower_stage still_new n h l = absurd (omega arith)
lower_stage now_active n h l = bool (ltb 1 n) (λ e. rw e (omega (arith, ltb-true 1 n e))) (λ e. rw e tt)
lower_stage now_retired n h l = bool (ltb 1 n) (λ e. rw e tt) (λ e. rw e tt)

raise_stage : (g : Stage) (n : ℕ) → StageCount g n → 1 ≤ n → StageCount g (n + 1)
raise_stage still_new n h l = absurd (omega arith)
raise_stage now_active n h l = omega arith
raise_stage now_retired n h l = tt

module _ (x : Object) (f : Fit x) where
  same_range : (y : Object) → y.koid ≡ x.koid → y.kind ≡ x.kind → y.supported ≡ x.supported → y.limit ≡ x.limit → ObjectRange y
  same_range y a b c d = record {
    koid = rw a f.range.koid;
    kind = rw b f.range.kind;
    supported = rw c f.range.supported;
    limit = rw d f.range.limit;
  }

  pub lower_fit : 1 ≤ x.count → Fit (lower x)
  lower_fit l = record {
    staged = lower_stage x.stage x.count f.staged l;
    within = omega (arith, f.within);
    range = same_range (lower x) refl refl refl refl;
  }

  pub raise_fit : 1 ≤ x.count → (x.count ≡ x.limit → ⊥) → Fit (raise x)
  raise_fit l n = record {
    staged = raise_stage x.stage x.count f.staged l;
    within = omega (arith, f.within, n);
    range = same_range (raise x) refl refl refl refl;
  }

  pub activated_fit : x.count < x.limit → Fit (activated x)
  activated_fit l = record { staged = omega arith; within = omega arith; range = same_range (activated x) refl refl refl refl }

  pub retired_fit : Fit (retired_by_owner x)
  retired_fit = record { staged = tt; within = f.within; range = same_range (retired_by_owner x) refl refl refl refl }

-- one record changed
pub change_at : (C : Object → Type 0) (f : Object → Object) (os : ℕ → Object) (k o : ℕ) → (o ≡ k → C (f (os o))) → ((o ≡ k → ⊥) → C (os o))
    → C (change f os k o)
change_at C f os k o y n = put_at os k (f (os k)) C o (λ q. rw q at (y q)) n

pub of_same : (o : ℕ) (h : Handle) → o ≡ h.object → of_object o h ≡ 1
of_same o h q = rw (eq-eqb h.object o (sym q))

pub of_other : (o : ℕ) (h : Handle) → (o ≡ h.object → ⊥) → of_object o h ≡ 0
of_other o h n = rw (ne_eqb h.object o (λ q. n (sym q)))

module _ (n : ℕ) where
  -- the counts of a list of handles released
  pub lower_all : (hs : List Handle) (os : ℕ → Object) → ((o : ℕ) → o < n → Fit (os o)) → ((o : ℕ) → o < n → in_handles o hs ≤ (os o).count)
      → (o : ℕ) → o < n → Fit (change_all lower hs os o) × ((change_all lower hs os o).count + in_handles o hs ≡ (os o).count)
  lower_all [] os f h o l = (f o l, omega arith)
  lower_all (g ∷ hs) os f h o l =
      let k : ℕ = g.object in
      let ns : ℕ → Object = change lower os k in
      let c : (p : ℕ) → p < n → (ns p).count + of_object p g ≡ (os p).count = λ p m. change_at (λ x. x.count + of_object p g ≡ (os p).count) lower os k p
      (λ q. omega (arith, of_same p g q, h p m)) (λ q. omega (arith, of_other p g q)) in
      let r = lower_all hs ns
      (λ p m. change_at Fit lower os k p (λ q. lower_fit (os p) (f p m) (omega (arith, of_same p g q, h p m))) (λ q. f p m))
      (λ p m. omega (arith, c p m, h p m)) o l in
      (r.0, omega (arith, r.1, c o l))

  -- the counts of copies raised
  pub raise_all : (es : List Entry) (j : ℕ) (os : ℕ → Object) → ((o : ℕ) → o < n → Fit (os o)) → ((o : ℕ) → o < n → 0 < in_handles o (copies_of es) → 1 ≤ (os o).count)
      → copies_fault os j es ≡ none
      → (o : ℕ) → o < n → Fit (change_all raise (copies_of es) os o) × ((change_all raise (copies_of es) os o).count ≡ (os o).count + in_handles o (copies_of es))
  raise_all [] j os f h e o l = (f o l, omega arith)
  raise_all (moved k x r ∷ es) j os f h e o l = raise_all es (suc j) os f h e o l
  raise_all (copied g ∷ es) j os f h e o l =
      let k : ℕ = g.object in
      let ns : ℕ → Object = change raise os k in
      let c : (p : ℕ) → p < n → (ns p).count ≡ (os p).count + of_object p g = λ p m. change_at (λ x. x.count ≡ (os p).count + of_object p g) raise os k p
      (λ q. omega (arith, of_same p g q)) (λ q. omega (arith, of_other p g q)) in
      bool (is_now_retired (os k).stage) (λ q. let x : Fault = record { number = 9; position = j; place = 16 } in let y : some x ≡ none = rw q at e in apart (cc)) (λ q.
      bool (eqb (os k).count (os k).limit) (λ d. let x : Fault = record { number = 11; position = j; place = 17 } in let y : some x ≡ none = rw (q, d) at e in apart (cc)) (λ d.
      let r = raise_all es (suc j) ns
      (λ p m. change_at Fit raise os k p (λ y. raise_fit (os p) (f p m) (h p m (omega (arith, of_same p g y)))
      (rw (← y) at (eqb-false (os k).count (os k).limit d))) (λ y. f p m))
      (λ p m i. omega (arith, c p m, h p m (omega arith))) (rw (q, d) at e) o l in
      (r.0, omega (arith, r.1, c o l))))

-- handles in slots

pub not_held : (o : ℕ) (x : Slot) → is_occupied x ≡ false → in_slot o x ≡ 0
not_held o absent e = refl
not_held o (vacant g) e = refl
not_held o (reserved g i) e = refl
not_held o (transfer_reserved g i) e = refl
not_held o (occupied g h) e = apart (cc)

-- the handles of one table's slots, and of all tables'
abbrev pub total : ℕ → (ℕ → Slot) → ℕ
total o f = sum max_slots λ k. in_slot o (f k)

abbrev pub totals : ℕ → (ℕ → Table) → ℕ → ℕ
totals n ts o = sum n λ b. total o (ts b).slots

pub total_same : (o : ℕ) (f g : ℕ → Slot) → ((k : ℕ) → in_slot o (f k) ≡ in_slot o (g k)) → total o f ≡ total o g
total_same o f g h = sum_equal max_slots (λ k. in_slot o (f k)) (λ k. in_slot o (g k)) (λ k l. h k)

-- handles given to slots

abbrev pub in_given : ℕ → Option Handle → ℕ
in_given o none = 0
in_given o (some h) = of_object o h

pub given_total : (o : ℕ) (ks : List ℕ) (hs : List Handle) → length hs ≡ length ks → ((k : ℕ) → occurs k ks ≤ 1)
    → ((k : ℕ) → 0 < occurs k ks → k < max_slots)
    → (sum max_slots λ k. in_given o (given ks hs k)) ≡ in_handles o hs
given_total o [] [] e once p = sum_zero max_slots (λ k. 0) (λ j l. refl)
given_total o [] (h ∷ hs) e once p = absurd (omega arith)
given_total o (k ∷ ks) [] e once p = absurd (omega arith)
given_total o (k ∷ ks) (h ∷ hs) e once p =
    let r = given_total o ks hs (omega arith) (λ j. omega (arith, once j)) (λ j l. p j (omega arith)) in
    let c : bit (eqb k k) + occurs k ks ≤ 1 = once k in
    let c' : 1 + occurs k ks ≤ 1 = rw (same k) at c in
    let b : in_given o (given ks hs k) ≡ 0 = rw (given_out ks hs k (omega arith)) in
    omega (arith, sum_put (in_given o) max_slots (given ks hs) k (some h) (p k (rw (same k) (omega arith))), b, r)

-- slots that show what others show and the handles given
pub total_given : (o : ℕ) (f g : ℕ → Slot) (ks : List ℕ) (hs : List Handle) → length hs ≡ length ks → ((k : ℕ) → occurs k ks ≤ 1)
    → ((k : ℕ) → 0 < occurs k ks → k < max_slots) → ((k : ℕ) → in_slot o (g k) ≡ in_slot o (f k) + in_given o (given ks hs k))
    → total o g ≡ total o f + in_handles o hs
total_given o f g ks hs e once p h =
    sum_equal max_slots (λ k. in_slot o (g k)) (λ k. in_slot o (f k) + in_given o (given ks hs k)) (λ k l. h k)
    ∙ sum_add max_slots (λ k. in_slot o (f k)) (λ k. in_given o (given ks hs k)) ∙ rw (given_total o ks hs e once p)
