-- Publishing and direct commit straight from the rows are the steps of document 01: the same decision, so the same number, the same answer and the same state, of every state, well formed or not,
-- and of every request.
use Rattle.std.specs.Prelude.{◌≡◌, refl, Bool, ◌&&◌, false, List, [], ◌∷◌, ◌++◌, map, ℕ, zero, suc, ◌+◌, ◌-◌, length, drop, eqb, ltb}
use Rattle.std.proofs.Common.{sym, ap, ◌∙◌, arith, length-append, eqb-true, eq-eqb, ne_eqb, ltb-true, ltb-false}
use Rattle.std.proofs.Math.Option.{Option, none, some}
use Rattle.std.proofs.lemmas.Bool.{eqb-false}
use Rattle.std.proofs.lemmas.List.{length-map}
use Rattle.words.specs.Pick.{eqb_sym}
use Rattle.model.specs.Base.{at_most, nth}
use Rattle.model.specs.State.{Sizes, Handle, Slot.occupied, Table, Entry, Body, Body.reservation, Body.claim, Body.parcel, Body.plan, Row, State}
use Rattle.model.specs.Storage.{keep, vacate_all}
use Rattle.model.specs.Change.{with_table}
use Rattle.model.specs.Request.{Answer.done, Request, Request.publish, Request.direct_commit}
use Rattle.model.specs.Effect.{◌setting_table◌to◌, ◌ending◌, ◌ending_all◌}
use Rattle.model.specs.Book.{find, drop_row, drop_rows, moved_of, sent_of}
use Rattle.model.specs.Decision.{Decision, Decision.accept, leave◌answer◌, unless◌refuse◌then◌, given◌refuse◌then◌, as_parcel, as_reservation, as_claim, joined, handles_of, distinct}
use Rattle.model.specs.Step.{fill_all, publish_of, direct_commit_of, decide, step, run}
use Rattle.model.proofs.Tests.{and-false, bool, nth_drop}
use Rattle.model.proofs.Changed.{with_own, with_over, with_table_at}
use Rattle.invariant.proofs.Pointwise.{fill_all_none, fill_all_append}
use Rattle.invariant.proofs.Parcels.{parts}
use Rattle.straight.specs.Straight.{slot_in, sent_in, handle_in, lay, lay_row, lay_rows, fits_then, parcels_fit, publish_straight, direct_commit_straight, decide_straight, step_straight, run_straight}

-- ---- the lengths

-- handles that are there, n of them
abbrev pub agreed : Option (List Handle) → ℕ → Bool
agreed none n = false
agreed (some hs) n = eqb n (length hs)

agreed_more : (gs : List Handle) (r : Option (List Handle)) (n : ℕ) (rest : ℕ → Bool) → ((m : ℕ) → rest m ≡ agreed r m) → fits_then (some gs) n rest ≡ agreed (joined (some gs) r) n
agreed_more gs none n rest e = ap (λ (b : Bool). at_most (length gs) n && b) (e (n - length gs)) ∙ and-false (at_most (length gs) n)
agreed_more gs (some hs) n rest e = rw (e (n - length gs)) (bool (ltb n (length gs))
    (λ q. rw q (sym (ne_eqb n (length (gs ++ hs)) (λ z. omega (arith, length-append gs hs, ltb-true n (length gs) q)))))
    (λ q. rw q (bool (eqb (n - length gs) (length hs))
    (λ y. y ∙ sym (eq-eqb n (length (gs ++ hs)) (omega (arith, length-append gs hs, ltb-false n (length gs) q, eqb-true (n - length gs) (length hs) y))))
    (λ y. y ∙ sym (ne_eqb n (length (gs ++ hs)) (λ z. eqb-false (n - length gs) (length hs) y (omega (arith, length-append gs hs))))))))

-- counted row by row, or of all handles together
pub parcels_fit_law : (rs : List Row) (is : List ℕ) (n : ℕ) → parcels_fit rs is n ≡ agreed (handles_of is rs) n
parcels_fit_law rs [] n = refl
parcels_fit_law rs (i ∷ is) n = go (as_parcel (find i rs)) (parcels_fit_law rs is)
  where
    go : (x : Option (List Handle)) → ((m : ℕ) → parcels_fit rs is m ≡ agreed (handles_of is rs) m) → fits_then x n (parcels_fit rs is) ≡ agreed (joined x (handles_of is rs)) n
    go none rest = refl
    go (some hs) rest = agreed_more hs (handles_of is rs) n (parcels_fit rs is) rest

-- ---- the slots

module _ (z : Sizes) where
  lay_past : (s : State) (b : ℕ) (h : Option Handle) → lay z s b none h ≡ s
  unfolding lay
  lay_past s b h = refl

  lay_one : (s : State) (b k : ℕ) (h : Handle) → lay z s b (some k) (some h) ≡ with_table s b (keep z (λ g. occupied g h) (s.tables b) k)
  unfolding lay
  lay_one s b k h = refl

  row_more : (s : State) (b i p j q n : ℕ)
      → lay_row z s b i p j q (suc n) ≡ lay_row z (lay z s b (slot_in (find i s.book.rows) p) (handle_in (find j s.book.rows) q)) b i (suc p) j (suc q) n
  row_more s b i p j q n = refl

  -- one handle of a parcel
  pub row_next : (s : State) (b i p j q n c k : ℕ) (ks : List ℕ) (hs : List Handle) (h : Handle) → find i s.book.rows ≡ some (reservation c ks) → find j s.book.rows ≡ some (parcel hs)
      → nth ks p ≡ some k → nth hs q ≡ some h → lay_row z s b i p j q (suc n) ≡ lay_row z (with_table s b (keep z (λ g. occupied g h) (s.tables b) k)) b i (suc p) j (suc q) n
  row_next s b i p j q n c k ks hs h e d f g = rw (row_more s b i p j q n, e, d, f, g, lay_one s b k h)

  -- the handles hs, which stand in row j from handle q on, in the slots ks, which stand in reservation i from slot p on
  row_laid : (b i j : ℕ) (hs : List Handle) (ks : List ℕ) (s : State) (p q : ℕ) → ((d r : ℕ) → r ≡ p + d → slot_in (find i s.book.rows) r ≡ nth ks d)
      → ((d r : ℕ) → r ≡ q + d → handle_in (find j s.book.rows) r ≡ nth hs d) → lay_row z s b i p j q (length hs) ≡ with_table s b (fill_all z ks hs (s.tables b))
  row_laid b i j [] ks s p q slots handles = rw (fill_all_none z ks (s.tables b)) (sym (with_own s b))
  row_laid b i j (h ∷ hs) [] s p q slots handles =
      rw (row_more s b i p j q (length hs), slots 0 p (omega arith), lay_past s b (handle_in (find j s.book.rows) q))
      (row_laid b i j hs [] s (suc p) (suc q) (λ d r e. slots (suc d) r (omega arith)) (λ d r e. handles (suc d) r (omega arith)))
  row_laid b i j (h ∷ hs) (k ∷ ks) s p q slots handles =
      let t : Table = keep z (λ g. occupied g h) (s.tables b) k in
      rw (row_more s b i p j q (length hs), slots 0 p (omega arith), handles 0 q (omega arith), lay_one s b k h)
      (row_laid b i j hs ks (with_table s b t) (suc p) (suc q) (λ d r e. slots (suc d) r (omega arith)) (λ d r e. handles (suc d) r (omega arith))
      ∙ rw (with_table_at s b t) (with_over s b t (fill_all z ks hs t)))

  -- those of one parcel, and then of those behind it
  rows_more : (b i j : ℕ) (is ks : List ℕ) (gs rest : List Handle) (s : State) (p : ℕ) → find j s.book.rows ≡ some (parcel gs) → ((d r : ℕ) → r ≡ p + d → slot_in (find i s.book.rows) r ≡ nth ks d)
      → (let t : Table = fill_all z ks gs (s.tables b) in
      lay_rows z (with_table s b t) b i (p + length gs) is ≡ with_table (with_table s b t) b (fill_all z (drop (length gs) ks) rest ((with_table s b t).tables b)))
      → lay_rows z s b i p (j ∷ is) ≡ with_table s b (fill_all z ks (gs ++ rest) (s.tables b))
  rows_more b i j is ks gs rest s p e slots behind =
      let t : Table = fill_all z ks gs (s.tables b) in
      let one : lay_row z s b i p j 0 (length gs) ≡ with_table s b t = row_laid b i j gs ks s p 0 slots (λ d r q. let y : r ≡ d = omega arith in rw (e, y)) in
      rw (e, one) (behind ∙ rw (with_table_at s b t, with_over s b t (fill_all z (drop (length gs) ks) rest t), fill_all_append z ks gs rest (s.tables b)))

  -- the handles of all parcels
  pub rows_laid : (b i : ℕ) (is : List ℕ) (hs : List Handle) (ks : List ℕ) (s : State) (p : ℕ) → ((d r : ℕ) → r ≡ p + d → slot_in (find i s.book.rows) r ≡ nth ks d)
      → handles_of is s.book.rows ≡ some hs → lay_rows z s b i p is ≡ with_table s b (fill_all z ks hs (s.tables b))
  rows_laid b i [] hs ks s p slots e = let y : hs ≡ [] = cc in rw (y, fill_all_none z ks (s.tables b)) (sym (with_own s b))
  rows_laid b i (j ∷ is) hs ks s p slots e =
      let a = parts (find j s.book.rows) (handles_of is s.book.rows) hs e in
      rw a.whole (rows_more b i j is ks a.first a.rest s p a.found slots
      (rows_laid b i is a.rest (drop (length a.first) ks) (with_table s b (fill_all z ks a.first (s.tables b))) (p + length a.first)
      (λ q r d. slots (length a.first + q) r (omega arith) ∙ sym (nth_drop (length a.first) ks q)) a.after))

-- ---- THE REQUESTS

sent_nth : (es : List Entry) (c : ℕ) → sent_in (nth es c) ≡ nth (map sent_of es) c
sent_nth [] c = refl
sent_nth (e ∷ es) zero = refl
sent_nth (e ∷ es) (suc c) = sent_nth es c

-- the decision of a publish whose reservation is found, both ways
module _ (z : Sizes) (s : State) (i : ℕ) (is : List ℕ) (b : ℕ) (ks : List ℕ) where
  abbrev publish_rows : Decision
  publish_rows =
      unless parcels_fit s.book.rows is (length ks) refuse 18 then
      unless distinct is refuse 18 then
      leave lay_rows z s b i 0 is
      ending i
      ending_all is
      answer done

  abbrev publish_batch : Decision
  publish_batch =
      given handles_of is s.book.rows refuse 18 then λ hs.
      unless distinct is refuse 18 then
      unless eqb (length hs) (length ks) refuse 18 then
      leave s
      setting_table b to fill_all z ks hs (s.tables b)
      ending_all (i ∷ is)
      answer done

  published : find i s.book.rows ≡ some (reservation b ks) → (g : Option (List Handle)) → handles_of is s.book.rows ≡ g → publish_rows ≡ publish_batch
  published e none d = rw (parcels_fit_law s.book.rows is (length ks), d)
  published e (some hs) d = rw (parcels_fit_law s.book.rows is (length ks), d) (bool (distinct is)
      (λ q. bool (eqb (length ks) (length hs))
      (λ y. rw (q, y, eqb_sym (length hs) (length ks), y) (ap (λ (u : State). accept (drop_rows is (drop_row i u)) done)
      (rows_laid z b i is hs ks s 0 (λ p r f. let w : r ≡ p = omega arith in rw (e, w)) d)))
      (λ y. rw (q, y, eqb_sym (length hs) (length ks), y)))
      (λ q. bool (eqb (length ks) (length hs)) (λ y. rw (q, y)) (λ y. rw (q, y))))

-- the decision of a direct commit whose rows are found, both ways
module _ (z : Sizes) (s : State) (i j b : ℕ) (es : List Entry) (c : ℕ) (ks : List ℕ) where
  abbrev vacated : State
  vacated = with_table s b (vacate_all z (moved_of es) (s.tables b))

  abbrev direct_rows : Decision
  direct_rows = unless eqb (length es) (length ks) refuse 18 then leave lay_row z vacated c j 0 i 0 (length es) ending i ending j answer done

  abbrev direct_batch : Decision
  direct_batch = unless eqb (length es) (length ks) refuse 18 then leave vacated setting_table c to fill_all z ks (map sent_of es) (vacated.tables c) ending i ending j answer done

  committed : find i s.book.rows ≡ some (claim b es) → find j s.book.rows ≡ some (reservation c ks) → direct_rows ≡ direct_batch
  committed e d =
      ap (λ (u : State). unless eqb (length es) (length ks) refuse 18 then leave u ending i ending j answer done)
      (ap (lay_row z vacated c j 0 i 0) (sym (length-map es sent_of))
      ∙ row_laid z c j i (map sent_of es) ks vacated 0 0 (λ p r f. let w : r ≡ p = omega arith in rw (d, w)) (λ q r f. let w : r ≡ q = omega arith in rw (e, w) (sent_nth es q)))

module _ (z : Sizes) where
  -- PUBLISH
  pub publish_same : (s : State) (i : ℕ) (is : List ℕ) → publish_straight z s i is ≡ publish_of z s i is
  unfolding publish_straight publish_of
  publish_same s i is = go (find i s.book.rows) refl
    where
      go : (x : Option Body) → find i s.book.rows ≡ x → as_reservation x 18 (publish_rows z s i is) ≡ as_reservation x 18 (publish_batch z s i is)
      go none e = refl
      go (some (reservation b ks)) e = published z s i is b ks e (handles_of is s.book.rows) refl
      go (some (claim b es)) e = refl
      go (some (parcel hs)) e = refl
      go (some (plan b n w fs)) e = refl

  -- DIRECT COMMIT
  pub direct_commit_same : (s : State) (i j : ℕ) → direct_commit_straight z s i j ≡ direct_commit_of z s i j
  unfolding direct_commit_straight direct_commit_of
  direct_commit_same s i j = go (find i s.book.rows) (find j s.book.rows) refl refl
    where
      go : (x y : Option Body) → find i s.book.rows ≡ x → find j s.book.rows ≡ y
          → as_claim x 18 (λ b es. as_reservation y 18 (direct_rows z s i j b es)) ≡ as_claim x 18 (λ b es. as_reservation y 18 (direct_batch z s i j b es))
      go none y e d = refl
      go (some (reservation b ks)) y e d = refl
      go (some (claim b es)) none e d = refl
      go (some (claim b es)) (some (reservation c ks)) e d = committed z s i j b es c ks e d
      go (some (claim b es)) (some (claim c fs)) e d = refl
      go (some (claim b es)) (some (parcel hs)) e d = refl
      go (some (claim b es)) (some (plan c n w fs)) e d = refl
      go (some (parcel hs)) y e d = refl
      go (some (plan b n w fs)) y e d = refl

  -- EVERY REQUEST
  pub decide_same : (s : State) (r : Request) → decide_straight z s r ≡ decide z s r
  unfolding decide_straight decide
  decide_same s (publish i is) = publish_same s i is
  decide_same s (direct_commit i j) = direct_commit_same s i j
  decide_same s r = refl

  pub step_same : (s : State) (r : Request) → step_straight z s r ≡ step z s r
  unfolding step_straight step
  step_same s r = rw (decide_same s r)

  -- EVERY LIST
  pub run_same : (s : State) (rs : List Request) → run_straight z s rs ≡ run z s rs
  run_same s [] = refl
  run_same s (r ∷ rs) = rw (step_same s r, run_same (step z s r).0 rs)
