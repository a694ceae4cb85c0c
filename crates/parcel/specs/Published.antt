-- Publish: the rows leave, and the request as a whole. Assumes nothing.
use Rattle.std.specs.Prelude.{◌≡◌, not, length}
use Rattle.std.proofs.Math.Path.{refl}
use Rattle.std.proofs.Common.{sym, ap, ◌∙◌}
use Rattle.std.proofs.Math.Bool.{true, false}
use mathlib.Core.List.{List, [], ◌∷◌}
use Rattle.std.proofs.Math.Option.{Option, none, some}
use Prim.Native.Nat.{ℕ, zero, suc, ◌-◌, ◌≤◌, ◌<◌}
use native.Mathlib.Omega.{arith}
use Rattle.std.proofs.Math.Dec.{eqb}
use borrow.Author.Tests.{eqb-true, eqb-false, ne_eqb, not-true}
use Rattle.words.specs.Pick.{pick, bool, clash, eqb_sym}
use Rattle.model.specs.Base.{nth, member}
use Rattle.model.specs.State.{till, Handle, Table, Body, Body.reservation, Body.parcel, State, max_batch}
use Rattle.model.specs.Change.{with_table}
use Rattle.model.specs.Book.{find, drop_row, drop_rows}
use Rattle.model.specs.WellFormed.{Batch}
use Rattle.model.specs.Request.{Request.publish, Answer.done}
use Rattle.model.specs.Decision.{Decision.refusal, as_parcel, handles_of, distinct}
use Rattle.model.specs.Step.{fill_all, publish_of, decide}
use Rattle.model.specs.Words.{used_words}
use Rattle.model.proofs.Tests.{apart, and_left, and_right}
use Rattle.invariant.proofs.Pointwise.{fill_all_slots}
use Rattle.invariant.proofs.Parcels.{not_parcel, parts}
use Rattle.invariant.proofs.Marks.{Owns}
use Rattle.invariant.proofs.BookLemmas.{found_range}
use Rattle.invariant.proofs.StorageDecisions.{reservation_owns}
use Rattle.straight.proofs.Same.{agreed, parcels_fit_law, rows_laid}
use Rattle.layout.specs.declared.Shape.{Shape}
use Rattle.layout.specs.Layout.{Mem, load}
use Rattle.layout.specs.Sizes.{batch_max}
use Rattle.representation.specs.Represents.{is_marked, Rep}
use Rattle.storage.specs.Reps.{Held, held_of}
use Rattle.book.specs.Ops.{row_link, reservation_link, close_w}
use Rattle.model.proofs.Counting.{nth_occurs}
use Rattle.model.proofs.Changed.{with_table_at as table_at_law}
use Rattle.book.specs.Find.{Fits, fits_of, RowAt}
use Rattle.book.specs.Marks.{Unnamed, unnamed, named_reservation, named_parcel}
use Rattle.book.specs.Fades.{Fades, fades_rows, named_fades, unnamed_fades, fits_drop}
use Rattle.book.specs.Close.{close_held, close_other, close_slots, ids_places}
use Rattle.answer.specs.Does.{Both, both, answered, refuse_r, Does, does_refused, does_accepted}
use Rattle.book.specs.Found.{Open, reservation_none, reservation_some}
use Rattle.parcel.specs.Ops.{parcel_link}
use Rattle.parcel.specs.Found.{parcel_none, parcel_some, row_link_law}
use Rattle.book.specs.Keeps.{Keeps, bare_given}
use Rattle.parcel.specs.Publishing.{published_w, dropped_w, spent_w, publish_r}
use Rattle.parcel.specs.Publish.{Ready, fits_is, published}

-- each id names a parcel whose place no marked slot names
abbrev Parcels : Mem → State → List ℕ → Type 0
Parcels m s [] = Unit {0}
Parcels m s (i ∷ is) = ((y : ℕ) × (hs : List Handle) × RowAt m s y i (parcel hs) × Unnamed m s y) × Parcels m s is

parcels_keep : (sh : Shape) (ws : List ℕ) (s : State) (ws' : List ℕ) (u : State) → Keeps sh ws s ws' u → (is : List ℕ) → Parcels (load ws sh) s is → Parcels (load ws' sh) u is
parcels_keep sh ws s ws' u k [] p = tt
parcels_keep sh ws s ws' u k (i ∷ is) p = let y : ℕ = p.0.0 in let hs : List Handle = p.0.1 in
    ((y, hs, k.rows y i (parcel hs) p.0.2, unnamed_fades (load ws sh) s (load ws' sh) u y k.fades p.0.3), parcels_keep sh ws s ws' u k is p.1)

-- ---- rows leave

module _ (ws : List ℕ) (sh : Shape) (s : State) (h : Held ws sh s) (f : Fits s) (x i : ℕ) (c : Body) (a : RowAt (load ws sh) s x i c) where
  close_fades : Fades (load ws sh) s (load (close_w ws sh x) sh) (drop_row i s)
  close_fades = fades_rows (load ws sh) s (load (close_w ws sh x) sh) (drop_row i s) refl refl (close_slots ws sh s h f x i c a)

  parcels_close : (is : List ℕ) → member i is ≡ false → Parcels (load ws sh) s is → Parcels (load (close_w ws sh x) sh) (drop_row i s) is
  parcels_close [] e p = tt
  parcels_close (j ∷ is) e p = bool (eqb i j)
      (λ q. let z : true ≡ false = rw q at e in clash refl z)
      (λ q. let y : ℕ = p.0.0 in let hs : List Handle = p.0.1 in
      let ne : y ≡ x → ⊥ = ids_places ws sh s h f x i c a y j (parcel hs) (λ z. eqb-false i j q (sym z)) p.0.2 in (
        (y, hs, close_other ws sh s h f x i c a y j (parcel hs) ne p.0.2, unnamed_fades (load ws sh) s (load (close_w ws sh x) sh) (drop_row i s) y close_fades p.0.3),
        parcels_close is (rw q at e) p.1,
      ))

dropped_stop : (ws : List ℕ) (sh : Shape) → dropped_w ws sh [] ≡ ws
unfolding dropped_w
dropped_stop ws sh = refl

dropped_more : (ws : List ℕ) (sh : Shape) (i : ℕ) (is : List ℕ) (y : ℕ) → row_link (load ws sh) sh i ≡ suc y → dropped_w ws sh (i ∷ is) ≡ dropped_w (close_w ws sh y) sh is
unfolding dropped_w
dropped_more ws sh i is y e = let z : suc y - 1 ≡ y = omega arith in rw (e, z)

-- THE PARCELS' ROWS leave, each once
dropped_held : (sh : Shape) (is ws : List ℕ) (s : State) → Held ws sh s → Fits s → distinct is ≡ true → Parcels (load ws sh) s is → Held (dropped_w ws sh is) sh (drop_rows is s)
dropped_held sh [] ws s h f d p = rw (dropped_stop ws sh) h
dropped_held sh (i ∷ is) ws s h f d p =
    let y : ℕ = p.0.0 in let hs : List Handle = p.0.1 in let a = p.0.2 in
    let once : member i is ≡ false = not-true (member i is) (and_left (not (member i is)) (distinct is) d) in
    rw (dropped_more ws sh i is y (row_link_law ws sh s h f i y (parcel hs) a))
    (dropped_held sh is (close_w ws sh y) (drop_row i s) (close_held ws sh s h f y i (parcel hs) a p.0.3) (fits_drop s i f)
    (and_right (not (member i is)) (distinct is) d) (parcels_close ws sh s h f y i (parcel hs) a is once p.1))

module _ (ws : List ℕ) (sh : Shape) (s : State) (r : Rep ws sh s) where
  h : Held ws sh s
  h = held_of ws sh s r

  f : Fits s
  f = fits_of s r.well_formed

  -- the parcels of a publish
  parcels_of : (is : List ℕ) (hs : List Handle) → handles_of is s.book.rows ≡ some hs → Parcels (load ws sh) s is
  parcels_of [] hs e = tt
  parcels_of (i ∷ is) hs e =
      let q = parts (find i s.book.rows) (handles_of is s.book.rows) hs e in
      (go q.first q.found (parcel_link (load ws sh) sh i) refl, parcels_of is q.rest q.after)
    where
      go : (gs : List Handle) → find i s.book.rows ≡ some (parcel gs) → (n : ℕ) → parcel_link (load ws sh) sh i ≡ n
          → (y : ℕ) × (hs : List Handle) × RowAt (load ws sh) s y i (parcel hs) × Unnamed (load ws sh) s y
      go gs found zero e = let y : as_parcel (find i s.book.rows) ≡ some gs = ap as_parcel found in let w = parcel_none ws sh s h f i e in apart (cc)
      go gs found (suc y) e = let t = parcel_some ws sh s h f i y e in
          (y, t.0, t.1.row, named_parcel sh (load ws sh) s r.reps.memory f r.well_formed.marks y i t.0 t.1.row)

  module _ (x i b : ℕ) (ks : List ℕ) (o : Open (load ws sh) s x i b ks) where
    own : Owns true i ks (s.tables b).slots
    own = reservation_owns till s r.well_formed i b ks o.found

    range : (b < s.table_count) × Batch ks
    range = found_range s r.well_formed i (reservation b ks) o.found

    few : length ks ≤ batch_max
    unfolding max_batch
    few = range.1.1

    module _ (is : List ℕ) (hs : List Handle) (e : handles_of is s.book.rows ≡ some hs) (long : length hs ≡ length ks) (d : distinct is ≡ true) where
      abbrev u : State
      u = with_table s b (fill_all till ks hs (s.tables b))

      abbrev ws' : List ℕ
      ws' = published_w ws sh b x 0 is

      kept : Keeps sh ws s (published_w ws sh b x 0 is) (with_table s b (fill_all till ks hs (s.tables b)))
      kept =
          let r : Ready sh b x i ks few ws s s.book.rows = record { held = h; fits = f; rows = refl; row = o.row; found = o.found; there = range.0; busy = own.busy } in
          let p = (published sh b x i ks few s.book.rows is hs 0 ws s r e (omega arith)).keeps in
          rw (rows_laid till b i is hs ks s 0 (λ d p q. let z : p ≡ d = omega arith in rw (o.found, z)) e) at p

      bare : (k j : ℕ) → nth ks j ≡ some k → is_marked ((u.tables b).slots k) ≡ false
      bare k j z = ap (λ (t : Table). is_marked (t.slots k)) (table_at_law s b (fill_all till ks hs (s.tables b)))
          ∙ ap is_marked (fill_all_slots till ks hs (s.tables b) k (own.once k)) ∙ bare_given ks hs k ((s.tables b).slots k) long (nth_occurs ks j k z)

      free : Unnamed (load ws' sh) u x
      free = unnamed (load ws' sh) u x b (λ k j. nth ks j ≡ some k)
          (named_fades (load ws sh) s (load ws' sh) u x b (λ k j. nth ks j ≡ some k) kept.fades
          (named_reservation sh (load ws sh) s r.reps.memory f r.well_formed.marks x i b ks o.row)) bare

      -- THE WORDS of a publish
      pub spent_held : Held (spent_w ws sh x is) sh (drop_rows (i ∷ is) (with_table s b (fill_all till ks hs (s.tables b))))
      unfolding spent_w
      spent_held =
          let a = kept.rows x i (reservation b ks) o.row in
          rw o.row.body.1 (dropped_held sh is (close_w ws' sh x) (drop_row i u) (close_held ws' sh u kept.held (kept.fits f) x i (reservation b ks) a free)
          (fits_drop u i (kept.fits f)) d
          (parcels_close ws' sh u kept.held (kept.fits f) x i (reservation b ks) a is (not_parcel i is s.book.rows hs e (ap as_parcel o.found))
          (parcels_keep sh ws s ws' u kept is (parcels_of is hs e))))

  module _ (os : List ℕ) (base i : ℕ) (is : List ℕ) where
    -- the tests, once the reservation is found
    abbrev tested : ℕ → ℕ → Option (List Handle) → Both
    tested x n g = pick (agreed g n) (pick (distinct is) (both (spent_w ws sh x is) (answered os base (0 ∷ []))) (refuse_r ws os base 18)) (refuse_r ws os base 18)

    tests : (x b : ℕ) (ks : List ℕ) → Open (load ws sh) s x i b ks → (g : Option (List Handle)) → handles_of is s.book.rows ≡ g → Does ws os sh base s (publish i is) (tested x (length ks) g)
    unfolding decide publish_of used_words
    tests x b ks o none q = does_refused os sh base s (publish i is) ws 18 r.reps (rw (o.found, q))
    tests x b ks o (some hs) q = bool (eqb (length ks) (length hs))
        (λ y. let y' : eqb (length hs) (length ks) ≡ true = eqb_sym (length hs) (length ks) ∙ y in
        bool (distinct is)
        (λ d. rw (y, d) (does_accepted os sh base s (publish i is) (spent_w ws sh x is) (drop_rows (i ∷ is) (with_table s b (fill_all till ks hs (s.tables b)))) done
        (spent_held x i b ks o is hs q (sym (eqb-true (length ks) (length hs) y)) d).reps (rw (o.found, q, d, y'))))
        (λ d. rw (y, d) (does_refused os sh base s (publish i is) ws 18 r.reps (rw (o.found, q, d)))))
        (λ y. let y' : eqb (length hs) (length ks) ≡ false = eqb_sym (length hs) (length ks) ∙ y in
        rw y (does_refused os sh base s (publish i is) ws 18 r.reps (bool (distinct is) (λ d. rw (o.found, q, d, y')) (λ d. rw (o.found, q, d)))))

    unknown : reservation_link (load ws sh) sh i ≡ 0 → decide till s (publish i is) ≡ refusal 18
    unfolding decide publish_of
    unknown e = reservation_none ws sh s r i e _

    -- PUBLISH is the model's step
    pub publish_does : Does ws os sh base s (publish i is) (publish_r ws os sh base i is)
    unfolding publish_r
    publish_does = go (reservation_link (load ws sh) sh i) refl
      where
        go : (l : ℕ) → reservation_link (load ws sh) sh i ≡ l → Does ws os sh base s (publish i is) (publish_r ws os sh base i is)
        go zero e = rw e (does_refused os sh base s (publish i is) ws 18 r.reps (unknown e))
        go (suc x) e =
            let p = reservation_some ws sh s r i x e in let b : ℕ = p.0 in let ks : List ℕ = p.1 in let o = p.2 in
            let z : suc x - 1 ≡ x = omega arith in
            rw (e, z, ne_eqb (suc x) 0 (λ q. omega arith), o.row.body.2, fits_is ws sh s h f is (length ks) ∙ parcels_fit_law s.book.rows is (length ks))
            (tests x b ks o (handles_of is s.book.rows) refl)
