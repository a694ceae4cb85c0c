-- The words of a slot that is being moved: its mark names the item that keeps its handle. Assumes nothing.
use Rattle.std.proofs.Math.Path.{◌≡◌, refl, ap}
use Rattle.std.proofs.Common.{sym, ◌∙◌, eq-eqb}
use Rattle.std.specs.Prelude.{true, List, [], ◌∷◌, ℕ, zero, suc, ◌+◌, ◌%◌, ◌≤◌, ◌<◌, eqb}
use Rattle.std.proofs.Math.Option.{some}
use native.Mathlib.Omega.{arith}
use Rattle.words.specs.Pick.{bool}
use Rattle.model.specs.Base.{bit, nth, occurs}
use Rattle.model.specs.State.{till, Handle, Slot, Slot.transfer_reserved, Entry, Entry.moved, Entry.copied, Body, Body.reservation, Body.claim, Body.parcel, Body.plan, State}
use Rattle.model.specs.Book.{find, moved_of}
use Rattle.model.specs.Lookup.{kept_for, kept_by}
use Rattle.model.specs.WellFormed.{EntryRange, BodyRange, All, WellFormed, is_moving_by, in_claim}
use Rattle.model.proofs.Tests.{apart, nth_some, some_same}
use Rattle.invariant.proofs.BookLemmas.{found_range}
use Rattle.layout.specs.declared.Shape.{Shape}
use Rattle.layout.specs.Layout.{Mem, cell, index, rank, row, item}
use Rattle.layout.specs.Fields.{slot_tag, slot_generation, slot_place, slot_position, slot_flags, row_id, item_object, item_rights, item_flags}
use Rattle.layout.specs.Values.{tag_transfer_reserved}
use Rattle.layout.specs.Sizes.{page_size}
use Rattle.representation.specs.Represents.{word_in, frame_of, slot_word, tagged, slot_from, slot_in, is_marked, EntryIs, Represents}
use Rattle.book.specs.Places.{ranked, item_of}
use Rattle.book.specs.Find.{fits_of, RowAt, indexed, row_at, at_find}
use Rattle.book.specs.Marks.{moved_occurs, named_claim}
use Rattle.lookup.specs.View.{handle_of}
use Rattle.info.specs.Info.{kept_words}

-- a slot with the tag of one that is being moved carries the id of the row whose place it names
tagged_moving : (m : Mem) (t g x y w : ℕ) → t ≡ tag_transfer_reserved → tagged m t g x y w ≡ transfer_reserved g (m (row x row_id))
tagged_moving m t g x y w e = rw e

from_moving : (m : Mem) (fr j : ℕ) → word_in m fr j slot_tag ≡ tag_transfer_reserved → slot_from m fr j ≡ transfer_reserved (word_in m fr j slot_generation) (m (row (word_in m fr j slot_place) row_id))
from_moving m zero j e = absurd (omega arith)
from_moving m (suc fr) j e = tagged_moving m (m (cell fr j slot_tag)) (m (cell fr j slot_generation)) (m (cell fr j slot_place)) (m (cell fr j slot_position)) (m (cell fr j slot_flags)) e

pub slot_moving : (m : Mem) (b k : ℕ) → slot_word m b k slot_tag ≡ tag_transfer_reserved → slot_in m b k ≡ transfer_reserved (slot_word m b k slot_generation) (m (row (slot_word m b k slot_place) row_id))
slot_moving m b k e = from_moving m (frame_of m b k) (k % page_size) e

-- no slot stands twice among the entries, so that item j keeps what is kept for its slot
kept_nth : (es : List Entry) (j k : ℕ) (h : Handle) (g : ℕ) → nth es j ≡ some (moved k h g) → occurs k (moved_of es) ≤ 1 → kept_for k es ≡ some h
kept_nth [] j k h g e o = apart (cc)
kept_nth (moved i y r ∷ es) zero k h g e o = let p : moved i y r ≡ moved k h g = some_same (moved i y r) (moved k h g) e in
    let a : k ≡ i = cc in let c : y ≡ h = cc in rw (eq-eqb k i a, c)
kept_nth (moved i y r ∷ es) (suc j) k h g e o = bool (eqb k i)
    (λ q. absurd (let c : 1 + occurs k (moved_of es) ≤ 1 = rw q at o in omega (arith, moved_occurs es j k h g e)))
    (λ q. rw q (kept_nth es j k h g e (omega (arith, rw q at o))))
kept_nth (copied y ∷ es) zero k h g e o = let p : copied y ≡ moved k h g = some_same (copied y) (moved k h g) e in apart (cc)
kept_nth (copied y ∷ es) (suc j) k h g e o = kept_nth es j k h g e o

entry_range : (s : State) (es : List Entry) (j k : ℕ) (h : Handle) (g : ℕ) → nth es j ≡ some (moved k h g) → All (EntryRange s) es → h.object < s.object_count
entry_range s [] j k h g e a = apart (cc)
entry_range s (x ∷ es) zero k h g e a = let p : EntryRange s (moved k h g) = rw (some_same x (moved k h g) e) at a.0 in p.0.object
entry_range s (x ∷ es) (suc j) k h g e a = entry_range s es j k h g e a.1

-- what the words of slot k say of the handle that the row of its mark keeps
pub record Keeps (m : Mem) (s : State) (b k : ℕ) : Type 0 where
  pub kept : kept_by k (find (m (row (slot_word m b k slot_place) row_id)) s.book.rows) ≡ some (handle_of (kept_words m b k))
  pub known : (kept_words m b k).object < s.object_count

module _ (sh : Shape) (m : Mem) (s : State) (r : Represents sh m s) (w : WellFormed till s) (b k g : ℕ) (l : b < s.table_count)
    (there : (s.tables b).slots k ≡ transfer_reserved g (m (row (slot_word m b k slot_place) row_id))) where
  abbrev x : ℕ
  x = slot_word m b k slot_place

  abbrev j : ℕ
  j = slot_word m b k slot_position

  -- the id of its mark
  abbrev i : ℕ
  i = m (row x row_id)

  marked : is_marked ((s.tables b).slots k) ≡ true
  marked = rw there

  -- the row at the mark's place is a claim: the item at the mark's position is the slot's, and no other is
  by_claim : (c : ℕ) (es : List Entry) → RowAt m s x i (claim c es) → in_claim b k (some (claim c es)) ≡ 1 → Keeps m s b k
  by_claim c es a o =
      let p = named_claim sh m s r (fits_of s w) w.marks x i c es a b k l marked refl in
      let f : find i s.book.rows ≡ some (claim c es) = at_find sh m s r (fits_of s w) x i (claim c es) a in
      let h : Handle = p.1.0 in
      let e : nth es j ≡ some (moved k h p.1.1) = p.1.2 in
      let once : occurs k (moved_of es) ≤ 1 = let y : occurs k (moved_of es) ≡ 1 = rw (eq-eqb b c p.0) at o in omega arith in
      let v = (item_of (EntryIs m x) es a.body.3 j (moved k h p.1.1) e).2 in
      let range : BodyRange till s (claim c es) = found_range s w i (claim c es) f in
      record {
        kept = rw f (kept_nth es j k h p.1.1 e once ∙ ap some (sym (same_handle h v)));
        known = rw v.0 (entry_range s es j k h p.1.1 e range.2);
      }
    where
      same_handle : (h : Handle) → (m (item x j item_object) ≡ h.object) × (m (item x j item_rights) ≡ h.rights) × (m (item x j item_flags) ≡ h.flags)
          → ◌≡◌ {A = Handle} (record { object = m (item x j item_object); rights = m (item x j item_rights); flags = m (item x j item_flags) }) h
      same_handle h v = rw (v.0, v.1, v.2)

  -- THE HANDLE THAT IS KEPT is the model's
  pub keeps : Keeps m s b k
  keeps =
      let c = r.book.marks b k l marked in
      let g = ranked m s.book.capacity (indexed sh m s r) x c.0 in
      let q = nth_some s.book.rows (m (rank x)) c.1 in
      let at_rank : RowAt m s (m (index (m (rank x)))) q.0.id q.0.body = row_at sh m s r (fits_of s w) (m (rank x)) q.0.id q.0.body q.1 in
      let at_place : RowAt m s x q.0.id q.0.body = rw g.1 at at_rank in
      let a : RowAt m s x i q.0.body = rw (sym at_place.id) at at_place in
      let f : find i s.book.rows ≡ some q.0.body = at_find sh m s r (fits_of s w) x i q.0.body a in
      go q.0.body a (ap (in_claim b k) (sym f) ∙ w.marks.transfer_reserved i b k ∙ ap (λ (y : Slot). bit (is_moving_by i y)) there ∙ ap bit (eq-eqb i i refl))
    where
      go : (y : Body) → RowAt m s x i y → in_claim b k (some y) ≡ 1 → Keeps m s b k
      go (reservation c ks) a o = absurd (omega arith)
      go (claim c es) a o = by_claim c es a o
      go (parcel hs) a o = absurd (omega arith)
      go (plan c n v fs) a o = absurd (omega arith)
