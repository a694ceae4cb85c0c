-- What the steps of a request keep: marks and rows, while objects change and slots are occupied. Assumes nothing.
use Rattle.std.specs.Prelude.{◌≡◌, refl, true, false, List, [], ◌∷◌, ℕ, ◌+◌, ◌<◌, length, eqb}
use Rattle.std.proofs.Common.{◌∙◌, arith}
use Rattle.words.specs.Pick.{bool}
use Rattle.model.specs.Base.{occurs}
use Rattle.model.specs.State.{till, Handle, Slot, Slot.occupied, Body, Object, State, is_busy}
use Rattle.model.specs.Storage.{keep}
use Rattle.model.specs.Change.{with_table, with_objects}
use Rattle.invariant.proofs.Pointwise.{given, filled}
use Rattle.layout.specs.declared.Shape.{Shape}
use Rattle.layout.specs.Layout.{owner, item, load}
use Rattle.representation.specs.Represents.{is_marked}
use Rattle.storage.specs.Ops.{occupy_w}
use Rattle.storage.specs.Turns.{occupy_turns}
use Rattle.storage.specs.Kept.{Stays, slot_kept, RowsStay}
use Rattle.storage.specs.Whole.{table_rows}
use Rattle.storage.specs.Reps.{Held, ready_of, occupy_held}
use Rattle.book.specs.Find.{Fits, RowAt, row_kept}
use Rattle.book.specs.Fades.{Fades, fades_none, fades_then, fades_rows, occupy_fades, row_turned}

-- the words represent the state u, the book is the one that was, no mark is new, and every row stands where it stood with its items
pub record Keeps (sh : Shape) (ws : List ℕ) (s : State) (ws' : List ℕ) (u : State) : Type 0 where
  pub held : Held ws' sh u
  pub fades : Fades (load ws sh) s (load ws' sh) u
  pub rows : (x i : ℕ) (y : Body) → RowAt (load ws sh) s x i y → RowAt (load ws' sh) u x i y
  pub items : (x j f : ℕ) → load ws' sh (item x j f) ≡ load ws sh (item x j f)
  pub fits : Fits s → Fits u

pub keeps_none : (sh : Shape) (ws : List ℕ) (s : State) → Held ws sh s → Keeps sh ws s ws s
keeps_none sh ws s h = record { held = h; fades = fades_none (load ws sh) s; rows = λ x i y a. a; items = λ x j f. refl; fits = λ f. f }

pub keeps_then : (sh : Shape) (ws : List ℕ) (s : State) (ws₁ : List ℕ) (s₁ : State) (ws₂ : List ℕ) (s₂ : State) → Keeps sh ws s ws₁ s₁ → Keeps sh ws₁ s₁ ws₂ s₂ → Keeps sh ws s ws₂ s₂
keeps_then sh ws s ws₁ s₁ ws₂ s₂ p q = record {
  held = q.held;
  fades = fades_then (load ws sh) s (load ws₁ sh) s₁ (load ws₂ sh) s₂ p.fades q.fades;
  rows = λ x i y a. q.rows x i y (p.rows x i y a);
  items = λ x j f. q.items x j f ∙ p.items x j f;
  fits = λ f. q.fits (p.fits f);
}

-- OBJECTS CHANGED, while tables, rows and the owners of frames keep their words
pub objects_keep : (sh : Shape) (ws : List ℕ) (s : State) (ws' : List ℕ) (os : ℕ → Object) → Held ws' sh (with_objects s os) → ((b : ℕ) → Stays (load ws sh) (load ws' sh) b)
    → RowsStay (load ws sh) (load ws' sh) → ((f : ℕ) → load ws' sh (owner f) ≡ load ws sh (owner f)) → Keeps sh ws s ws' (with_objects s os)
objects_keep sh ws s ws' os h stays rows own = record {
  held = h;
  fades = fades_rows (load ws sh) s (load ws' sh) (with_objects s os) refl refl (λ b. slot_kept (load ws sh) (load ws' sh) b (stays b));
  rows = row_kept (load ws sh) (load ws' sh) s (with_objects s os) refl rows own;
  items = rows.items;
  fits = λ f. record { room = f.room; rise = f.rise };
}

-- ONE SLOT OCCUPIED
pub occupy_keeps : (sh : Shape) (ws : List ℕ) (s : State) → Held ws sh s → (b : ℕ) → b < s.table_count → (k : ℕ) (x : Handle) → is_busy ((s.tables b).slots k) ≡ true
    → Keeps sh ws s (occupy_w ws sh b k x.object x.rights x.flags) (with_table s b (keep till (λ g. occupied g x) (s.tables b) k))
occupy_keeps sh ws s h b l k x was =
    let only = (occupy_turns ws sh b (s.tables b) (ready_of ws sh s h b l) k was x.object x.rights x.flags).only in
    record {
      held = occupy_held ws sh s h b l k x was;
      fades = occupy_fades ws sh s h b l k was x;
      rows = row_turned (load ws sh) (load (occupy_w ws sh b k x.object x.rights x.flags) sh) s b (keep till (λ g. occupied g x) (s.tables b) k) only;
      items = (table_rows b (load ws sh) (load (occupy_w ws sh b k x.object x.rights x.flags) sh) only).items;
      fits = λ f. record { room = f.room; rise = f.rise };
    }

-- slots that are filled are marked no longer
pub bare_given : (ks : List ℕ) (hs : List Handle) (k : ℕ) (x : Slot) → length hs ≡ length ks → 0 < occurs k ks → is_marked (filled (given ks hs k) x) ≡ false
bare_given [] hs k x l o = absurd (omega arith)
bare_given (j ∷ ks) [] k x l o = absurd (omega arith)
bare_given (j ∷ ks) (h ∷ hs) k x l o = bool (eqb k j)
    (λ e. rw e)
    (λ e. let o' : 0 < 0 + occurs k ks = rw e at o in rw e (bare_given ks hs k x (omega arith) (omega arith)))
