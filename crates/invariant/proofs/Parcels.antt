-- Parcels named by a publish, and the handles of a claim's entries.
use Rattle.std.specs.Prelude.{◌≡◌, refl, Bool, true, false, not, List, [], ◌∷◌, ◌++◌, map, ℕ, suc, ◌+◌, length, eqb}
use Rattle.std.proofs.Common.{sym, ap, ◌∙◌, arith, eqb-true}
use Rattle.std.proofs.Math.Option.{Option, none, some}
use Rattle.std.proofs.lemmas.Bool.{eqb-false, not-true}
use Rattle.model.specs.Base.{member}
use Rattle.model.specs.State.{Handle, Entry, Entry.moved, Entry.copied, Body, Body.reservation, Body.claim, Body.parcel, Body.plan, Row, State}
use Rattle.model.specs.Change.{with_book}
use Rattle.model.specs.Book.{find, drop_id, drop_row, drop_rows, moved_of, copies_of, sent_of}
use Rattle.model.specs.Decision.{as_parcel, joined, handles_of, distinct}
use Rattle.model.specs.WellFormed.{HandleRange, EntryRange, All, IdsRise, held_by, in_handles, in_rows}
use Rattle.model.proofs.Tests.{apart, bool, clash, and_left, and_right}
use Rattle.invariant.proofs.Pointwise.{moved_handles}
use Rattle.invariant.proofs.BookLemmas.{BodyHalf, RowHalf, Frameless, frameless, find_drop_same, find_drop_other, all_found, in_append, rows_drop, ids_drop, all_append}
use Rattle.invariant.proofs.Marks.{in_row}
use Rattle.invariant.proofs.Rows.{BookStep, book_drop}
use Rattle.invariant.proofs.Counts.{none_in, parcel_in}

abbrev pub drop_ids : List ℕ → List Row → List Row
drop_ids [] rs = rs
drop_ids (i ∷ is) rs = drop_ids is (drop_id i rs)

pub drop_rows_is : (is : List ℕ) (s : State)
    → drop_rows is s ≡ with_book s (record { rows = drop_ids is s.book.rows; capacity = s.book.capacity; next = s.book.next })
drop_rows_is [] s = refl
drop_rows_is (i ∷ is) s = drop_rows_is is (drop_row i s)

pub book_drops : (s : State) (n : ℕ) (is : List ℕ) (rs : List Row) → BookStep s rs n → BookStep s (drop_ids is rs) n
book_drops s n [] rs w = w
book_drops s n (i ∷ is) rs w = book_drops s n is (drop_id i rs) (book_drop s rs n w i)

-- what handles joined come from
pub record Parts (x : Option Body) (r : Option (List Handle)) (hs : List Handle) : Type 0 where
  pub first : List Handle
  pub rest : List Handle
  pub found : x ≡ some (parcel first)
  pub after : r ≡ some rest
  pub whole : hs ≡ first ++ rest

pub parts : (x : Option Body) (r : Option (List Handle)) (hs : List Handle) → joined (as_parcel x) r ≡ some hs → Parts x r hs
parts none r hs e = apart (cc)
parts (some (reservation b ks)) r hs e = apart (cc)
parts (some (claim b es)) r hs e = apart (cc)
parts (some (plan b n w fs)) r hs e = apart (cc)
parts (some (parcel gs)) none hs e = apart (cc)
parts (some (parcel gs)) (some fs) hs e = record { first = gs; rest = fs; found = refl; after = refl; whole = cc }

-- rows that a list does not name

pub handles_drop : (i : ℕ) (is : List ℕ) (rs : List Row) → member i is ≡ false → handles_of is (drop_id i rs) ≡ handles_of is rs
handles_drop i [] rs e = refl
handles_drop i (j ∷ is) rs e = bool (eqb i j)
    (λ q. let z : true ≡ false = rw q at e in clash refl z)
    (λ q. rw (find_drop_other i j (λ y. eqb-false i j q (sym y)) rs, handles_drop i is rs (rw q at e)))

pub not_parcel : (i : ℕ) (is : List ℕ) (rs : List Row) (hs : List Handle) → handles_of is rs ≡ some hs → as_parcel (find i rs) ≡ none
    → member i is ≡ false
not_parcel i [] rs hs e n = refl
not_parcel i (j ∷ is) rs hs e n = let p : Parts (find j rs) (handles_of is rs) hs = parts (find j rs) (handles_of is rs) hs e in bool (eqb i j)
    (λ q. let y : as_parcel (find i rs) ≡ some p.first = ap (λ t. as_parcel (find t rs)) (eqb-true i j q) ∙ ap as_parcel p.found in apart (cc))
    (λ q. rw q (not_parcel i is rs p.rest p.after n))

pub handles_range : (s : State) (is : List ℕ) (rs : List Row) (hs : List Handle) → All (RowHalf s) rs → handles_of is rs ≡ some hs
    → All (HandleRange s) hs
handles_range s [] rs hs r e = let y : hs ≡ [] = cc in rw y tt
handles_range s (i ∷ is) rs hs r e = let p : Parts (find i rs) (handles_of is rs) hs = parts (find i rs) (handles_of is rs) hs e in
    let q : BodyHalf s (parcel p.first) = all_found (BodyHalf s) i (parcel p.first) rs r p.found in
    rw p.whole (all_append (HandleRange s) p.first p.rest q.1 (handles_range s is rs p.rest r p.after))

-- parcels hold no frames
pub parcels_frameless : (is : List ℕ) (hi : ℕ) (rs : List Row) (hs : List Handle) → IdsRise 1 rs hi → handles_of is rs ≡ some hs → All (λ i. Frameless i rs) is
parcels_frameless [] hi rs hs r e = tt
parcels_frameless (i ∷ is) hi rs hs r e = let p : Parts (find i rs) (handles_of is rs) hs = parts (find i rs) (handles_of is rs) hs e in
    (frameless i (parcel p.first) refl 1 hi rs r p.found, parcels_frameless is hi rs p.rest r p.after)

-- the parcels dropped, each once

module _ (j : ℕ) (n : Bool) (c k : ℕ) where
  pub drops_in : (is : List ℕ) (rs : List Row) (hs : List Handle) → handles_of is rs ≡ some hs → distinct is ≡ true
      → in_row n c k (find j (drop_ids is rs)) ≡ in_row n c k (find j rs)
  drops_in [] rs hs e d = refl
  drops_in (i ∷ is) rs hs e d = let p : Parts (find i rs) (handles_of is rs) hs = parts (find i rs) (handles_of is rs) hs e in
      let m : member i is ≡ false = not-true (member i is) (and_left (not (member i is)) (distinct is) d) in
      drops_in is (drop_id i rs) p.rest (handles_drop i is rs m ∙ p.after) (and_right (not (member i is)) (distinct is) d) ∙ bool (eqb j i)
      (λ q. rw (eqb-true j i q, find_drop_same i rs, p.found) (none_in n c k ∙ sym (parcel_in n c k p.first)))
      (λ q. rw (find_drop_other i j (eqb-false j i q) rs))

pub drops_rows : (o : ℕ) (is : List ℕ) (hi : ℕ) (rs : List Row) (hs : List Handle) → IdsRise 1 rs hi → handles_of is rs ≡ some hs → distinct is ≡ true
    → in_rows o (drop_ids is rs) + in_handles o hs ≡ in_rows o rs
drops_rows o [] hi rs hs r e d = let y : hs ≡ [] = cc in rw y (omega arith)
drops_rows o (i ∷ is) hi rs hs r e d = let p : Parts (find i rs) (handles_of is rs) hs = parts (find i rs) (handles_of is rs) hs e in
    let m : member i is ≡ false = not-true (member i is) (and_left (not (member i is)) (distinct is) d) in
    let f = drops_rows o is hi (drop_id i rs) p.rest (ids_drop 1 hi i rs r) (handles_drop i is rs m ∙ p.after)
    (and_right (not (member i is)) (distinct is) d) in
    let g = rows_drop o i (parcel p.first) 1 hi rs r p.found in
    rw p.whole (omega (arith, f, g, in_append o p.first p.rest))

-- a claim's entries

module _ (s : State) where
  pub sent_range : (es : List Entry) → All (EntryRange s) es → All (HandleRange s) (map sent_of es)
  sent_range [] r = tt
  sent_range (moved k h q ∷ es) r = (record { object = r.0.0.object; rights = r.0.1; flags = r.0.0.flags }, sent_range es r.1)
  sent_range (copied h ∷ es) r = (r.0, sent_range es r.1)

  pub moved_range : (es : List Entry) → All (EntryRange s) es → All (HandleRange s) (moved_handles es)
  moved_range [] r = tt
  moved_range (moved k h q ∷ es) r = (r.0.0, moved_range es r.1)
  moved_range (copied h ∷ es) r = moved_range es r.1

pub moved_length : (es : List Entry) → length (moved_handles es) ≡ length (moved_of es)
moved_length [] = refl
moved_length (moved k h q ∷ es) = ap suc (moved_length es)
moved_length (copied h ∷ es) = moved_length es

pub sent_held : (o : ℕ) (es : List Entry) → in_handles o (map sent_of es) ≡ in_handles o (map held_by es)
sent_held o [] = refl
sent_held o (moved k h q ∷ es) = omega (arith, sent_held o es)
sent_held o (copied h ∷ es) = omega (arith, sent_held o es)

pub held_parts : (o : ℕ) (es : List Entry) → in_handles o (map held_by es) ≡ in_handles o (moved_handles es) + in_handles o (copies_of es)
held_parts o [] = refl
held_parts o (moved k h q ∷ es) = omega (arith, held_parts o es)
held_parts o (copied h ∷ es) = omega (arith, held_parts o es)
