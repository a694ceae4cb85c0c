-- What stays of rows and marks through other operations: slots fall vacant or are occupied one by one, rows leave one by one. Assumes nothing.
use Rattle.std.specs.Prelude.{◌≡◌, refl, true, false, List, ℕ, ◌<◌, eqb}
use Rattle.std.proofs.Common.{sym, ap, ◌∙◌, arith, eqb-true}
use Rattle.std.proofs.lemmas.Bool.{eqb-false}
use Rattle.words.specs.Pick.{bool, clash}
use Rattle.codec.specs.Codec.{next_generation}
use Rattle.model.specs.State.{till, Handle, Slot, Slot.vacant, Slot.occupied, Table, Body, State, generation, is_busy}
use Rattle.model.specs.Storage.{place, keep, vacate}
use Rattle.model.specs.Change.{with_table}
use Rattle.model.specs.Book.{drop_row}
use Rattle.model.proofs.Tests.{put_other, put_same}
use Rattle.invariant.proofs.BookLemmas.{length-drop, ids_drop}
use Rattle.invariant.proofs.Pointwise.{place_slots, vacate_slots}
use Rattle.layout.specs.declared.Shape.{Shape}
use Rattle.layout.specs.Layout.{Mem, load}
use Rattle.layout.specs.Fields.{slot_place, slot_position}
use Rattle.representation.specs.Represents.{slot_word, is_marked}
use Rattle.representation.specs.Told.{marked_full}
use Rattle.storage.specs.Sight.{OnlyTable}
use Rattle.storage.specs.Ops.{vacate_w, occupy_w}
use Rattle.storage.specs.Turns.{Turns, vacate_turns, occupy_turns}
use Rattle.storage.specs.Whole.{table_rows, table_pool, other_slot}
use Rattle.storage.specs.Reps.{Held, ready_of}
use Rattle.book.specs.Find.{Fits, RowAt, row_kept}
use Rattle.book.specs.Ops.{close_w}
use Rattle.book.specs.Close.{close_slots}
use Rattle.book.specs.Marks.{NamedBy, Unnamed}

-- no mark is new, and marked slots have the words that they had
pub record Fades (m : Mem) (s : State) (n : Mem) (u : State) : Type 0 where
  pub count : u.table_count ≡ s.table_count
  pub marked : (d k : ℕ) → is_marked ((u.tables d).slots k) ≡ true → is_marked ((s.tables d).slots k) ≡ true
  pub words : (d k f : ℕ) → d < s.table_count → is_marked ((u.tables d).slots k) ≡ true → slot_word n d k f ≡ slot_word m d k f

pub fades_none : (m : Mem) (s : State) → Fades m s m s
fades_none m s = record { count = refl; marked = λ d k e. e; words = λ d k f l e. refl }

pub fades_then : (m : Mem) (s : State) (n : Mem) (u : State) (o : Mem) (v : State) → Fades m s n u → Fades n u o v → Fades m s o v
fades_then m s n u o v p q = record {
  count = q.count ∙ p.count;
  marked = λ d k e. p.marked d k (q.marked d k e);
  words = λ d k f l e. q.words d k f (rw p.count l) e ∙ p.words d k f l (q.marked d k e);
}

-- an operation on rows leaves slots and their words
pub fades_rows : (m : Mem) (s : State) (n : Mem) (u : State) → u.table_count ≡ s.table_count → u.tables ≡ s.tables → ((d k f : ℕ) → slot_word n d k f ≡ slot_word m d k f) → Fades m s n u
fades_rows m s n u c t w = record {
  count = c;
  marked = λ d k e. ap (λ (g : ℕ → Table). is_marked ((g d).slots k)) (sym t) ∙ e;
  words = λ d k f l e. w d k f;
}

-- what is said of the marks that name a place stays true
pub named_fades : (m : Mem) (s : State) (n : Mem) (u : State) (x b : ℕ) (P : ℕ → ℕ → Type 0) → Fades m s n u → NamedBy m s x b P → NamedBy n u x b P
named_fades m s n u x b P p q d k l mk e =
    let l' : d < s.table_count = omega (arith, p.count) in
    let y = q d k l' (p.marked d k mk) (sym (p.words d k slot_place l' mk) ∙ e) in
    let z : slot_word m d k slot_position ≡ slot_word n d k slot_position = sym (p.words d k slot_position l' mk) in
    (y.0, rw z at y.1)

pub unnamed_fades : (m : Mem) (s : State) (n : Mem) (u : State) (x : ℕ) → Fades m s n u → Unnamed m s x → Unnamed n u x
unnamed_fades m s n u x p q d k l mk e = let l' : d < s.table_count = omega (arith, p.count) in q d k l' (p.marked d k mk) (sym (p.words d k slot_place l' mk) ∙ e)

-- a row that leaves
pub close_fades : (ws : List ℕ) (sh : Shape) (s : State) → Held ws sh s → Fits s → (x i : ℕ) (y : Body) → RowAt (load ws sh) s x i y → Fades (load ws sh) s (load (close_w ws sh x) sh) (drop_row i s)
close_fades ws sh s h f x i y a = fades_rows (load ws sh) s (load (close_w ws sh x) sh) (drop_row i s) refl refl (close_slots ws sh s h f x i y a)

-- ---- slots that fall vacant or are occupied

turn_fades : (ws ws' : List ℕ) (sh : Shape) (s : State) → Held ws sh s → (b : ℕ) → b < s.table_count → (k : ℕ) (c : ℕ → ℕ) (u : Table) → Turns ws ws' sh b (s.tables b) k c u
    → ((j : ℕ) → (j ≡ k → ⊥) → u.slots j ≡ (s.tables b).slots j) → is_marked (u.slots k) ≡ false → Fades (load ws sh) s (load ws' sh) (with_table s b u)
turn_fades ws ws' sh s h b l k c u t others bare = record {
  count = refl;
  marked = λ d j e. bool (eqb d b)
      (λ q. let e' : is_marked (u.slots j) ≡ true = rw q at e in
      rw (eqb-true d b q) (sym (ap is_marked (others j (off j e'))) ∙ e'))
      (λ q. rw q at e);
  words = λ d j f y e. bool (eqb d b)
      (λ q. let e' : is_marked (u.slots j) ≡ true = rw q at e in
      let o = others j (off j e') in
      rw (eqb-true d b q) (t.others j f (off j e') (marked_full ((s.tables b).slots j) (sym (ap is_marked o) ∙ e'))))
      (λ q. other_slot sh (load ws sh) s h.reps.memory h.placed b l (load ws' sh) t.only d y (eqb-false d b q) j f);
}
  where
    off : (j : ℕ) → is_marked (u.slots j) ≡ true → j ≡ k → ⊥
    off j e q = clash e (ap (λ (z : ℕ). is_marked (u.slots z)) q ∙ bare)

module _ (ws : List ℕ) (sh : Shape) (s : State) (h : Held ws sh s) (b : ℕ) (l : b < s.table_count) (k : ℕ) (was : is_busy ((s.tables b).slots k) ≡ true) where
  pub vacate_fades : Fades (load ws sh) s (load (vacate_w ws sh b k) sh) (with_table s b (vacate till (s.tables b) k))
  vacate_fades = let t : Table = s.tables b in let y : Slot = vacant (next_generation (generation (t.slots k))) in
      turn_fades ws (vacate_w ws sh b k) sh s h b l k _ (vacate till t k) (vacate_turns ws sh b t (ready_of ws sh s h b l) k was)
      (λ j n. ap (λ (f : ℕ → Slot). f j) (vacate_slots till t k) ∙ put_other t.slots k y j n)
      (ap is_marked (ap (λ (f : ℕ → Slot). f k) (vacate_slots till t k) ∙ put_same t.slots k y))

  pub occupy_fades : (x : Handle) → Fades (load ws sh) s (load (occupy_w ws sh b k x.object x.rights x.flags) sh) (with_table s b (keep till (λ g. occupied g x) (s.tables b) k))
  occupy_fades x = let t : Table = s.tables b in let y : Slot = occupied (generation (t.slots k)) x in
      turn_fades ws (occupy_w ws sh b k x.object x.rights x.flags) sh s h b l k _ (place till t k y) (occupy_turns ws sh b t (ready_of ws sh s h b l) k was x.object x.rights x.flags)
      (λ j n. ap (λ (f : ℕ → Slot). f j) (place_slots till t k y) ∙ put_other t.slots k y j n)
      (ap is_marked (ap (λ (f : ℕ → Slot). f k) (place_slots till t k y) ∙ put_same t.slots k y))

-- ---- rows through an operation on a table

pub row_turned : (m n : Mem) (s : State) (b : ℕ) (u : Table) → OnlyTable b m n → (x i : ℕ) (y : Body) → RowAt m s x i y → RowAt n (with_table s b u) x i y
row_turned m n s b u o = row_kept m n s (with_table s b u) refl (table_rows b m n o) (table_pool b m n o).owners

-- ---- the book fits after each operation

pub fits_table : (s : State) (b : ℕ) (u : Table) → Fits s → Fits (with_table s b u)
fits_table s b u f = record { room = f.room; rise = f.rise }

pub fits_drop : (s : State) (i : ℕ) → Fits s → Fits (drop_row i s)
fits_drop s i f = record { room = let e = length-drop i s.book.rows in omega (arith, f.room); rise = ids_drop 1 s.book.next i s.book.rows f.rise }
