-- Laying a batch from its end, as the Rust's `publish` does, is laying it from its beginning, where no slot stands twice and each is busy: so of every well-formed state.
use Rattle.std.specs.Prelude.{◌≡◌, refl, true, List, [], ◌∷◌, map, ℕ, ◌+◌, ◌≤◌, max, length, eqb}
use Rattle.std.proofs.Math.Path.{fun_ext}
use Rattle.std.proofs.Common.{sym, ap, ◌∙◌, arith, eqb-true, ne_eqb}
use Rattle.std.proofs.Math.Option.{Option, none, some}
use Rattle.std.proofs.lemmas.Bool.{eqb-false}
use Rattle.model.specs.Base.{put, occurs}
use Rattle.model.specs.State.{Sizes, Handle, Slot, Slot.occupied, Page, Table, Entry, Body, Body.reservation, Body.claim, Body.parcel, Body.plan, State, generation, is_busy}
use Rattle.model.specs.Storage.{page_of, raised, place, keep, vacate_all}
use Rattle.model.specs.Change.{with_table}
use Rattle.model.specs.WellFormed.{WellFormed}
use Rattle.model.specs.Request.{Answer.done}
use Rattle.model.specs.Book.{find, moved_of, sent_of}
use Rattle.model.specs.Effect.{◌setting_table◌to◌, ◌ending◌, ◌ending_all◌}
use Rattle.model.specs.Decision.{Decision, leave◌answer◌, unless◌refuse◌then◌, given◌refuse◌then◌, as_reservation, as_claim, handles_of, distinct}
use Rattle.model.specs.Step.{fill_all, publish_of, direct_commit_of}
use Rattle.model.proofs.Tests.{bool, same}
use Rattle.invariant.proofs.Marks.{Owns}
use Rattle.invariant.proofs.Pointwise.{Busy, keep_busy, busy_kept}
use Rattle.invariant.proofs.StorageDecisions.{reservation_owns, busy_still}
use Rattle.straight.specs.FromEnd.{fill_from_end, publish_from_end, direct_commit_from_end}

-- ---- two slots, in either order

put_either : {A : Type 0} (f : ℕ → A) (j k : ℕ) (x y : A) → (k ≡ j → ⊥) → put (put f j x) k y ≡ put (put f k y) j x
put_either f j k x y ne = fun_ext λ i. bool (eqb i k)
    (λ e. bool (eqb i j) (λ d. absurd (ne (sym (eqb-true i k e) ∙ eqb-true i j d))) (λ d. rw (e, d)))
    (λ e. bool (eqb i j) (λ d. rw (e, d)) (λ d. rw (e, d)))

raised_either : (p : Page) (g h : ℕ) → raised (raised p g) h ≡ raised (raised p h) g
raised_either p g h = let y : max (max p.high g) h ≡ max (max p.high h) g = omega arith in rw y

pages_either : (f : ℕ → Page) (p q g h : ℕ) → put (put f p (raised (f p) g)) q (raised (put f p (raised (f p) g) q) h) ≡ put (put f q (raised (f q) h)) p (raised (put f q (raised (f q) h) p) g)
pages_either f p q g h = bool (eqb q p)
    (λ e. rw (eqb-true q p e) (fun_ext λ i. rw (same p) (bool (eqb i p) (λ d. rw d (raised_either (f p) g h)) (λ d. rw d))))
    (λ e. rw (e, ne_eqb p q (λ d. eqb-false q p e (sym d))) (put_either f p q (raised (f p) g) (raised (f q) h) (eqb-false q p e)))

-- a table with other pages and slots
abbrev turned : Table → (ℕ → Page) → (ℕ → Slot) → Table
turned t ps f = record { limit = t.limit; mask = t.mask; life = t.life; epoch = t.epoch; size = t.size; pages = ps; slots = f; free = t.free; empty = t.empty; detached = t.detached }

module _ (z : Sizes) where
  -- a busy slot is filled: no order changes
  abbrev laid : Table → ℕ → Handle → Table
  laid t k h = turned t (put t.pages (page_of z k) (raised (t.pages (page_of z k)) (generation (t.slots k)))) (put t.slots k (occupied (generation (t.slots k)) h))

  keep_is : (t : Table) (k : ℕ) (h : Handle) → is_busy (t.slots k) ≡ true → keep z (λ g. occupied g h) t k ≡ laid t k h
  unfolding place
  keep_is t k h e = rw e

  laid_either : (t : Table) (j k : ℕ) (g h : Handle) → (k ≡ j → ⊥) → laid (laid t j g) k h ≡ laid (laid t k h) j g
  laid_either t j k g h ne =
      rw (ne_eqb k j ne, ne_eqb j k (λ e. ne (sym e)))
      (ap (λ (ps : ℕ → Page). turned t ps (put (put t.slots j (occupied (generation (t.slots j)) g)) k (occupied (generation (t.slots k)) h)))
      (pages_either t.pages (page_of z j) (page_of z k) (generation (t.slots j)) (generation (t.slots k)))
      ∙ ap (turned t _) (put_either t.slots j k (occupied (generation (t.slots j)) g) (occupied (generation (t.slots k)) h) ne))

  keep_either : (t : Table) (j k : ℕ) (g h : Handle) → (k ≡ j → ⊥) → is_busy (t.slots j) ≡ true → is_busy (t.slots k) ≡ true
      → keep z (λ n. occupied n h) (keep z (λ n. occupied n g) t j) k ≡ keep z (λ n. occupied n g) (keep z (λ n. occupied n h) t k) j
  keep_either t j k g h ne bj bk =
      ap (λ (u : Table). keep z (λ n. occupied n h) u k) (keep_is t j g bj) ∙ keep_is (laid t j g) k h (rw (ne_eqb k j ne) bk) ∙ laid_either t j k g h ne
      ∙ sym (ap (λ (u : Table). keep z (λ n. occupied n g) u j) (keep_is t k h bk) ∙ keep_is (laid t k h) j g (rw (ne_eqb j k (λ e. ne (sym e))) bj))

  -- ---- many

  -- one slot filled after the others, or before them
  fill_past : (k : ℕ) (h : Handle) (ks : List ℕ) (hs : List Handle) (t : Table) → occurs k ks ≡ 0 → is_busy (t.slots k) ≡ true → Busy t ks
      → keep z (λ n. occupied n h) (fill_all z ks hs t) k ≡ fill_all z ks hs (keep z (λ n. occupied n h) t k)
  fill_past k h [] hs t out bk busy = refl
  fill_past k h (j ∷ ks) [] t out bk busy = refl
  fill_past k h (j ∷ ks) (g ∷ hs) t out bk busy = bool (eqb k j)
      (λ e. let y : 1 + occurs k ks ≡ 0 = rw e at out in absurd (omega arith))
      (λ e. fill_past k h ks hs (keep z (λ n. occupied n g) t j) (omega arith) (keep_busy z (λ n. occupied n g) (λ n. refl) t j k bk) (busy_kept z t j g ks busy)
      ∙ ap (fill_all z ks hs) (keep_either t j k g h (eqb-false k j e) (busy j (rw (same j) (omega arith))) bk))

  -- THE BATCH, from its end or from its beginning
  pub from_end_same : (ks : List ℕ) (hs : List Handle) (t : Table) → ((k : ℕ) → occurs k ks ≤ 1) → Busy t ks → fill_from_end z ks hs t ≡ fill_all z ks hs t
  from_end_same [] hs t once busy = refl
  from_end_same (k ∷ ks) [] t once busy = refl
  from_end_same (k ∷ ks) (h ∷ hs) t once busy =
      let first : 1 + occurs k ks ≤ 1 = rw (same k) at (once k) in
      ap (λ (u : Table). keep z (λ n. occupied n h) u k) (from_end_same ks hs t (λ i. omega (arith, once i)) (λ i o. busy i (omega arith)))
      ∙ fill_past k h ks hs t (omega arith) (busy k (rw (same k) (omega arith))) (λ i o. busy i (omega arith))

-- ---- THE REQUESTS

module _ (z : Sizes) (s : State) (w : WellFormed z s) where
  -- PUBLISH
  pub publish_from_end_same : (i : ℕ) (is : List ℕ) → publish_from_end z s i is ≡ publish_of z s i is
  unfolding publish_from_end publish_of
  publish_from_end_same i is = go (find i s.book.rows) refl
    where
      laid_by : (ℕ → List ℕ → List Handle → Table) → Option (List Handle) → ℕ → List ℕ → Decision
      laid_by f g b ks = given g refuse 18 then λ hs. unless distinct is refuse 18 then unless eqb (length hs) (length ks) refuse 18 then leave s setting_table b to f b ks hs ending_all (i ∷ is) answer done

      alike : (b : ℕ) (ks : List ℕ) → Owns true i ks (s.tables b).slots → (g : Option (List Handle))
          → laid_by (λ c ls hs. fill_from_end z ls hs (s.tables c)) g b ks ≡ laid_by (λ c ls hs. fill_all z ls hs (s.tables c)) g b ks
      alike b ks own none = refl
      alike b ks own (some hs) = rw (from_end_same z ks hs (s.tables b) own.once own.busy)

      go : (x : Option Body) → find i s.book.rows ≡ x
          → as_reservation x 18 (laid_by (λ c ls hs. fill_from_end z ls hs (s.tables c)) (handles_of is s.book.rows)) ≡ as_reservation x 18 (laid_by (λ c ls hs. fill_all z ls hs (s.tables c)) (handles_of is s.book.rows))
      go none e = refl
      go (some (reservation b ks)) e = alike b ks (reservation_owns z s w i b ks e) (handles_of is s.book.rows)
      go (some (claim b es)) e = refl
      go (some (parcel hs)) e = refl
      go (some (plan b n v fs)) e = refl

  -- DIRECT COMMIT
  pub direct_commit_from_end_same : (i j : ℕ) → direct_commit_from_end z s i j ≡ direct_commit_of z s i j
  unfolding direct_commit_from_end direct_commit_of
  direct_commit_from_end_same i j = go (find i s.book.rows) (find j s.book.rows) refl refl
    where
      vacated : ℕ → List Entry → State
      vacated b es = with_table s b (vacate_all z (moved_of es) (s.tables b))

      laid_by : (ℕ → List ℕ → List Handle → Table → Table) → Option Body → ℕ → List Entry → Decision
      laid_by f y b es = as_reservation y 18 λ c ks. unless eqb (length es) (length ks) refuse 18 then leave vacated b es setting_table c to f c ks (map sent_of es) ((vacated b es).tables c) ending i ending j answer done

      alike : (y : Option Body) → find j s.book.rows ≡ y → (b : ℕ) (es : List Entry) → find i s.book.rows ≡ some (claim b es)
          → laid_by (λ c ls hs t. fill_from_end z ls hs t) y b es ≡ laid_by (λ c ls hs t. fill_all z ls hs t) y b es
      alike none d b es e = refl
      alike (some (reservation c ks)) d b es e = rw (from_end_same z ks (map sent_of es) ((vacated b es).tables c) (reservation_owns z s w j c ks d).once (busy_still z s w i j b c es ks e d))
      alike (some (claim c fs)) d b es e = refl
      alike (some (parcel hs)) d b es e = refl
      alike (some (plan c n v fs)) d b es e = refl

      go : (x y : Option Body) → find i s.book.rows ≡ x → find j s.book.rows ≡ y
          → as_claim x 18 (laid_by (λ c ls hs t. fill_from_end z ls hs t) y) ≡ as_claim x 18 (laid_by (λ c ls hs t. fill_all z ls hs t) y)
      go none y e d = refl
      go (some (reservation b ks)) y e d = refl
      go (some (claim b es)) y e d = alike y d b es e
      go (some (parcel hs)) y e d = refl
      go (some (plan b n v fs)) y e d = refl
