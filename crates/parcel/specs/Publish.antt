-- Publish: its functions go as publishing straight from the rows does. Assumes nothing.
use Rattle.std.specs.Prelude.{◌≡◌, ltb}
use Rattle.std.proofs.Math.Path.{refl, ap}
use Rattle.std.proofs.Common.{sym, ◌∙◌, length-append}
use mathlib.Core.List.{List, [], ◌∷◌}
use Rattle.std.proofs.Math.Option.{some}
use Prim.Native.Nat.{ℕ, zero, suc, ◌+◌, ◌-◌, ◌≤◌, ◌<◌}
use native.Mathlib.Omega.{arith}
use Rattle.std.proofs.Math.ListN.{length}
use borrow.Author.Tests.{ne_eqb}
use Rattle.words.specs.Pick.{bool}
use Rattle.model.specs.Base.{nth}
use Rattle.model.specs.State.{till, Handle, Slot.occupied, Body.reservation, Body.parcel, Row, State}
use Rattle.model.specs.Storage.{keep}
use Rattle.model.specs.Change.{with_table}
use Rattle.model.specs.Book.{find}
use Rattle.model.specs.Decision.{as_parcel, handles_of}
use Rattle.model.proofs.Tests.{apart, some_same, nth_some}
use Rattle.model.proofs.Counting.{nth_occurs}
use Rattle.model.proofs.Changed.{with_table_at as table_at_law}
use Rattle.invariant.proofs.Parcels.{parts}
use Rattle.invariant.proofs.Pointwise.{Busy, keep_busy}
use Rattle.straight.specs.Straight.{lay_row, lay_rows, parcels_fit}
use Rattle.straight.proofs.Same.{row_next}
use Rattle.layout.specs.declared.Shape.{Shape}
use Rattle.layout.specs.Layout.{Mem, row, item, load}
use Rattle.layout.specs.Fields.{row_length, item_slot}
use Rattle.layout.specs.Sizes.{batch_max}
use Rattle.representation.specs.Represents.{HandleIs}
use Rattle.storage.specs.Ops.{occupy_w}
use Rattle.storage.specs.Reps.{Held}
use Rattle.book.specs.Places.{item_of}
use Rattle.book.specs.Find.{Fits, RowAt}
use Rattle.book.specs.Keeps.{Keeps, keeps_none, keeps_then, occupy_keeps}
use Rattle.parcel.specs.Ops.{parcel_link}
use Rattle.parcel.specs.Found.{parcel_none, parcel_some}
use Rattle.parcel.specs.Publishing.{plus, fits, filled_w, published_w}

-- ---- the lengths

module _ (ws : List ℕ) (sh : Shape) (s : State) (h : Held ws sh s) (f : Fits s) where
  -- THE TEST, row by row, is that of publishing straight from the rows
  pub fits_is : (is : List ℕ) (n : ℕ) → fits (load ws sh) sh is n ≡ parcels_fit s.book.rows is n
  unfolding fits
  fits_is [] n = refl
  fits_is (i ∷ is) n = go (parcel_link (load ws sh) sh i) refl (λ k. fits_is is k)
    where
      go : (l : ℕ) → parcel_link (load ws sh) sh i ≡ l → ((k : ℕ) → fits (load ws sh) sh is k ≡ parcels_fit s.book.rows is k) → fits (load ws sh) sh (i ∷ is) n ≡ parcels_fit s.book.rows (i ∷ is) n
      go zero e rest = rw (e, parcel_none ws sh s h f i e)
      go (suc y) e rest =
          let p = parcel_some ws sh s h f i y e in
          let z : suc y - 1 ≡ y = omega arith in
          let g : as_parcel (find i s.book.rows) ≡ some p.0 = ap as_parcel p.1.found in
          rw (e, z, ne_eqb (suc y) 0 (λ q. omega arith), p.1.row.body.1, g) (bool (ltb n (length p.0)) (λ q. rw q) (λ q. rw q (rest (n - length p.0))))

-- ---- the slots are filled

abbrev SlotIs : Mem → ℕ → ℕ → ℕ → Type 0
SlotIs m x p k = m (item x p item_slot) ≡ k

fill_more : (ws : List ℕ) (sh : Shape) (b x p y q n k : ℕ) (h : Handle) → p + q ≤ batch_max → SlotIs (load ws sh) x (p + q) k → HandleIs (load ws sh) y q h
    → filled_w ws sh b x p y q (suc n) ≡ filled_w (occupy_w ws sh b k h.object h.rights h.flags) sh b x p y (suc q) n
unfolding filled_w
fill_more ws sh b x p y q n k h l e d =
    let z : plus p q ≡ p + q = omega arith in
    simp (z, e, d.0, d.1, d.2)

fill_stop : (ws : List ℕ) (sh : Shape) (b x p y q : ℕ) → filled_w ws sh b x p y q 0 ≡ ws
unfolding filled_w
fill_stop ws sh b x p y q = refl

published_stop : (ws : List ℕ) (sh : Shape) (b x p : ℕ) → published_w ws sh b x p [] ≡ ws
unfolding published_w
published_stop ws sh b x p = refl

published_more : (ws : List ℕ) (sh : Shape) (b x p i : ℕ) (is : List ℕ) (y n : ℕ) → parcel_link (load ws sh) sh i ≡ suc y → load ws sh (row y row_length) ≡ n → p + n ≤ batch_max
    → published_w ws sh b x p (i ∷ is) ≡ published_w (filled_w ws sh b x p y 0 n) sh b x (p + n) is
unfolding published_w
published_more ws sh b x p i is y n e q l =
    let z : suc y - 1 ≡ y = omega arith in let w : plus p n ≡ p + n = omega arith in
    rw (e, z, q, w)

-- into the slots ks of the reservation i in place x, of table b
module _ (sh : Shape) (b x i : ℕ) (ks : List ℕ) (few : length ks ≤ batch_max) where
  -- what each turn needs of the state s, whose words are ws; its rows are rs throughout
  pub record Ready (ws : List ℕ) (s : State) (rs : List Row) : Type 0 where
    pub held : Held ws sh s
    pub fits : Fits s
    pub rows : s.book.rows ≡ rs
    pub row : RowAt (load ws sh) s x i (reservation b ks)
    pub found : find i s.book.rows ≡ some (reservation b ks)
    pub there : b < s.table_count
    pub busy : Busy (s.tables b) ks

  -- words and state one turn or more on
  pub record Filled (ws : List ℕ) (s : State) (rs : List Row) (vs : List ℕ) (u : State) : Type 0 where
    pub keeps : Keeps sh ws s vs u
    pub ready : Ready vs u rs

  module _ (rs : List Row) (ws : List ℕ) (s : State) (r : Ready ws s rs) where
    fills_none : Filled ws s rs ws s
    fills_none = record { keeps = keeps_none sh ws s r.held; ready = r }

    fills_then : (vs : List ℕ) (u : State) (us : List ℕ) (v : State) → Filled ws s rs vs u → Filled vs u rs us v → Filled ws s rs us v
    fills_then vs u us v f g = record { keeps = keeps_then sh ws s vs u us v f.keeps g.keeps; ready = g.ready }

    -- ONE HANDLE
    one_filled : (p k : ℕ) (h : Handle) → nth ks p ≡ some k → let u : State = with_table s b (keep till (λ g. occupied g h) (s.tables b) k) in
        Filled ws s rs (occupy_w ws sh b k h.object h.rights h.flags) u
    one_filled p k h e =
        let one = occupy_keeps sh ws s r.held b r.there k h (r.busy k (nth_occurs ks p k e)) in
        record {
          keeps = one;
          ready = record {
            held = one.held;
            fits = one.fits r.fits;
            rows = r.rows;
            row = one.rows x i (reservation b ks) r.row;
            found = r.found;
            there = r.there;
            busy = rw (table_at_law s b (keep till (λ g. occupied g h) (s.tables b) k)) (λ j o. keep_busy till (λ g. occupied g h) (λ g. refl) (s.tables b) k j (r.busy j o));
          };
        }

  -- one handle, and those behind it
  one_more : (rs : List Row) (j y : ℕ) (hs : List Handle) (n p q : ℕ) (ws : List ℕ) (s : State) → Ready ws s rs → find j s.book.rows ≡ some (parcel hs) → RowAt (load ws sh) s y j (parcel hs)
      → (k : ℕ) (h : Handle) → nth ks (p + q) ≡ some k → nth hs q ≡ some h → p + q ≤ batch_max
      → ((vs : List ℕ) (u : State) → Ready vs u rs → find j u.book.rows ≡ some (parcel hs) → RowAt (load vs sh) u y j (parcel hs)
      → Filled vs u rs (filled_w vs sh b x p y (suc q) n) (lay_row till u b i (p + suc q) j (suc q) n))
      → Filled ws s rs (filled_w ws sh b x p y q (suc n)) (lay_row till s b i (p + q) j q (suc n))
  one_more rs j y hs n p q ws s r here a k h e d low rest =
      let v : List ℕ = occupy_w ws sh b k h.object h.rights h.flags in
      let u : State = with_table s b (keep till (λ g. occupied g h) (s.tables b) k) in
      let one = one_filled rs ws s r (p + q) k h e in
      let z : p + suc q ≡ suc (p + q) = omega arith in
      rw (
        fill_more ws sh b x p y q n k h low (item_of (SlotIs (load ws sh) x) ks r.row.body.3 (p + q) k e) (item_of (HandleIs (load ws sh) y) hs a.body.2 q h d),
        row_next till s b i (p + q) j q n b k ks hs h r.found here e d,
      ) (fills_then rs ws s r v u (filled_w v sh b x p y (suc q) n) (lay_row till u b i (suc (p + q)) j (suc q) n) one
      (rw z at (rest v u one.ready here (one.keeps.rows y j (parcel hs) a))))

  -- THE HANDLES OF ONE PARCEL, j in place y, straight from its row
  filled : (rs : List Row) (j y : ℕ) (hs : List Handle) (n p q : ℕ) (ws : List ℕ) (s : State) → Ready ws s rs → find j s.book.rows ≡ some (parcel hs) → RowAt (load ws sh) s y j (parcel hs)
      → q + n ≤ length hs → p + q + n ≤ length ks → Filled ws s rs (filled_w ws sh b x p y q n) (lay_row till s b i (p + q) j q n)
  filled rs j y hs zero p q ws s r here a fit room = rw (fill_stop ws sh b x p y q) (fills_none rs ws s r)
  filled rs j y hs (suc n) p q ws s r here a fit room =
      let k = nth_some ks (p + q) (omega arith) in let h = nth_some hs q (omega arith) in
      one_more rs j y hs n p q ws s r here a k.0 h.0 k.1 h.1 (omega (arith, few))
      (λ (vs : List ℕ) (u : State) (f : Ready vs u rs) (e : find j u.book.rows ≡ some (parcel hs)) (c : RowAt (load vs sh) u y j (parcel hs)). filled rs j y hs n p (suc q) vs u f e c (omega arith) (omega arith))

  -- THE HANDLES OF ALL PARCELS
  pub published : (rs : List Row) (is : List ℕ) (hs : List Handle) (p : ℕ) (ws : List ℕ) (s : State) → Ready ws s rs → handles_of is rs ≡ some hs → p + length hs ≤ length ks
      → Filled ws s rs (published_w ws sh b x p is) (lay_rows till s b i p is)
  published rs [] hs p ws s r e room = rw (published_stop ws sh b x p) (fills_none rs ws s r)
  published rs (j ∷ is) hs p ws s r e room =
      let d = parts (find j rs) (handles_of is rs) hs e in
      let long : length hs ≡ length d.first + length d.rest = ap length d.whole ∙ length-append d.first d.rest in
      go d.first d.found (omega arith) (parcel_link (load ws sh) sh j) refl (λ (vs : List ℕ) (u : State) (f : Ready vs u rs). published rs is d.rest (p + length d.first) vs u f d.after (omega arith))
    where
      go : (gs : List Handle) → find j rs ≡ some (parcel gs) → p + length gs ≤ length ks → (l : ℕ) → parcel_link (load ws sh) sh j ≡ l
          → ((vs : List ℕ) (u : State) → Ready vs u rs → Filled vs u rs (published_w vs sh b x (p + length gs) is) (lay_rows till u b i (p + length gs) is))
          → Filled ws s rs (published_w ws sh b x p (j ∷ is)) (lay_rows till s b i p (j ∷ is))
      go gs found fit zero link rec =
          let y : as_parcel (find j s.book.rows) ≡ some gs = rw r.rows (ap as_parcel found) in
          let w = parcel_none ws sh s r.held r.fits j link in apart (cc)
      go gs found fit (suc y) link rec =
          let t = parcel_some ws sh s r.held r.fits j y link in
          let here : find j s.book.rows ≡ some (parcel gs) = rw r.rows found in
          let same : parcel t.0 ≡ parcel gs = some_same (parcel t.0) (parcel gs) (sym t.1.found ∙ here) in
          let a : RowAt (load ws sh) s y j (parcel gs) = rw same at t.1.row in
          let v : List ℕ = filled_w ws sh b x p y 0 (length gs) in
          let z : p + 0 ≡ p = omega arith in
          let one : Filled ws s rs v (lay_row till s b i p j 0 (length gs)) = rw z at (filled rs j y gs (length gs) p 0 ws s r here a (omega arith) (omega arith)) in
          rw (published_more ws sh b x p j is y (length gs) link a.body.1 (omega (arith, few)), here)
          (fills_then rs ws s r v (lay_row till s b i p j 0 (length gs)) (published_w v sh b x (p + length gs) is) (lay_rows till (lay_row till s b i p j 0 (length gs)) b i (p + length gs) is) one
          (rec v (lay_row till s b i p j 0 (length gs)) one.ready))
