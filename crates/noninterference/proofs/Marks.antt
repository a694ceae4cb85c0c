-- What requests do to a table leaves its mask, and a slot that is marked with the claim afterwards was so marked before, with its generation. An open claim's entries and its marks.
use Rattle.std.specs.Prelude.{◌≡◌, true, false, List, [], ◌∷◌, ℕ, ◌≤◌, take, drop, eqb}
use Rattle.std.proofs.Math.Path.{refl}
use Rattle.std.proofs.Common.{◌∙◌, arith, ap, eq-eqb}
use Rattle.std.proofs.Math.Option.{some}
use Rattle.codec.specs.Codec.{next_generation}
use Rattle.model.specs.Base.{pick, bit, occurs}
use Rattle.model.specs.State.{Sizes, Handle, Slot, Slot.absent, Slot.vacant, Slot.transfer_reserved, Slot.occupied, Lifecycle, Table, Entry, Entry.moved, Entry.copied, Body.claim, State}
use Rattle.model.specs.State.{generation}
use Rattle.model.specs.Change.{with_life}
use Rattle.model.specs.Storage.{with_free, on_page, place, keep, keep_all, vacate, vacate_all, take_free, attach, attach_all, grow, detach}
use Rattle.model.specs.Step.{fill_all, restore_all}
use Rattle.model.specs.Book.{find, moved_of}
use Rattle.model.specs.WellFormed.{WellFormed, is_moving_by}
use Rattle.model.proofs.Tests.{bool, clash}

-- from table x to table y
pub record Stems (t : ℕ) (x y : Table) : Type 0 where
  pub mask : y.mask ≡ x.mask
  pub marks : (k g : ℕ) → y.slots k ≡ transfer_reserved g t → x.slots k ≡ transfer_reserved g t

module _ (t : ℕ) where
  pub marked : (g : ℕ) (x : Slot) → x ≡ transfer_reserved g t → is_moving_by t x ≡ true
  marked g x e = rw e (eq-eqb t t refl)

  pub stems_same : (x : Table) → Stems t x x
  stems_same x = record { mask = refl; marks = λ k g e. e }

  pub stems_then : {x y w : Table} → Stems t x y → Stems t y w → Stems t x w
  stems_then p q = record { mask = q.mask ∙ p.mask; marks = λ k g e. p.marks k g (q.marks k g e) }

  module _ (z : Sizes) where
    pub stems_place : (x : Table) (k : ℕ) (y : Slot) → is_moving_by t y ≡ false → Stems t x (place z x k y)
    unfolding place
    stems_place x k y b = record {
      mask = refl;
      marks = λ j g. bool (eqb j k) (λ q. rw q (λ e. clash (marked g y e) b)) (λ q. rw q (λ e. e));
    }

    pub stems_keep_all : (f : ℕ → Slot) → ((g : ℕ) → is_moving_by t (f g) ≡ false) → (ks : List ℕ) (x : Table) → Stems t x (keep_all z f ks x)
    stems_keep_all f b [] x = stems_same x
    stems_keep_all f b (k ∷ ks) x = stems_then (stems_place x k (f (generation (x.slots k))) (b (generation (x.slots k))))
        (stems_keep_all f b ks (keep z f x k))

    pub stems_vacate : (x : Table) (k : ℕ) → Stems t x (vacate z x k)
    unfolding vacate
    stems_vacate x k = let p : Stems t x (place z x k (vacant (next_generation (generation (x.slots k))))) = stems_place x k _ refl in
        record { mask = p.mask; marks = p.marks }

    pub stems_vacate_all : (ks : List ℕ) (x : Table) → Stems t x (vacate_all z ks x)
    stems_vacate_all [] x = stems_same x
    stems_vacate_all (k ∷ ks) x = stems_then (stems_vacate x k) (stems_vacate_all ks (vacate z x k))

    pub stems_take_free : (n : ℕ) (f : ℕ → Slot) → ((g : ℕ) → is_moving_by t (f g) ≡ false) → (x : Table) → Stems t x (take_free z n f x)
    unfolding take_free
    stems_take_free n f b x = let p : Stems t (with_free x (drop n x.free)) (take_free z n f x) = stems_keep_all f b (take n x.free)
        (with_free x (drop n x.free)) in
        record { mask = p.mask; marks = p.marks }

    page_marks : (p k g : ℕ) (y : Slot) → is_moving_by t y ≡ false → (x : Slot) → pick (on_page z p k) y x ≡ transfer_reserved g t
        → x ≡ transfer_reserved g t
    page_marks p k g y b x = bool (on_page z p k) (λ q. rw q (λ e. clash (marked g y e) b)) (λ q. rw q (λ e. e))

    stems_attach : (x : Table) (p f : ℕ) → Stems t x (attach z x p f)
    unfolding attach
    stems_attach x p f = record { mask = refl; marks = λ k g e. page_marks p k g (vacant (next_generation (x.pages p).high)) refl (x.slots k) e }

    stems_attach_all : (ps fs : List ℕ) (x : Table) → Stems t x (attach_all z ps fs x)
    stems_attach_all [] fs x = stems_same x
    stems_attach_all (p ∷ ps) [] x = stems_same x
    stems_attach_all (p ∷ ps) (f ∷ fs) x = stems_then (stems_attach x p f) (stems_attach_all ps fs (attach z x p f))

    pub stems_grow : (ps fs : List ℕ) (x : Table) → Stems t x (grow z ps fs x)
    stems_grow [] fs x = stems_same x
    stems_grow (p ∷ ps) fs x = let q : Stems t x (attach_all z (p ∷ ps) fs x) = stems_attach_all (p ∷ ps) fs x in
        record { mask = q.mask; marks = q.marks }

    pub stems_reserve : (n : ℕ) (f : ℕ → Slot) → ((g : ℕ) → is_moving_by t (f g) ≡ false) → (ps fs : List ℕ) (x : Table)
        → Stems t x (take_free z n f (grow z ps fs x))
    stems_reserve n f b ps fs x = stems_then (stems_grow ps fs x) (stems_take_free n f b (grow z ps fs x))

    pub stems_detach : (x : Table) (p : ℕ) → Stems t x (detach z x p)
    unfolding detach
    stems_detach x p = record { mask = refl; marks = λ k g e. page_marks p k g absent refl (x.slots k) e }

    pub stems_fill_all : (ks : List ℕ) (hs : List Handle) (x : Table) → Stems t x (fill_all z ks hs x)
    stems_fill_all [] hs x = stems_same x
    stems_fill_all (k ∷ ks) [] x = stems_same x
    stems_fill_all (k ∷ ks) (h ∷ hs) x = stems_then (stems_place x k (occupied (generation (x.slots k)) h) refl)
        (stems_fill_all ks hs (keep z (λ g. occupied g h) x k))

    pub stems_restore_all : (es : List Entry) (x : Table) → Stems t x (restore_all z es x)
    stems_restore_all [] x = stems_same x
    stems_restore_all (moved k h r ∷ es) x = stems_then (stems_place x k (occupied (generation (x.slots k)) h) refl)
        (stems_restore_all es (keep z (λ g. occupied g h) x k))
    stems_restore_all (copied h ∷ es) x = stems_restore_all es x

  pub stems_life : (x y : Table) (l : Lifecycle) → Stems t x y → Stems t x (with_life y l)
  stems_life x y l p = record { mask = p.mask; marks = p.marks }

-- an open claim t of table b with the entries es
module _ {z : Sizes} (s : State) (w : WellFormed z s) (t b : ℕ) (es : List Entry) (row : find t s.book.rows ≡ some (claim b es)) where
  -- how often a slot stands among them
  pub entry_marks : (k : ℕ) → occurs k (moved_of es) ≡ bit (is_moving_by t ((s.tables b).slots k))
  entry_marks k = rw (row, eq-eqb b b refl) at (w.marks.transfer_reserved t b k)

  -- none stands there twice
  pub entry_once : (k : ℕ) → occurs k (moved_of es) ≤ 1
  entry_once k = bool (is_moving_by t ((s.tables b).slots k)) (λ e. omega (arith, entry_marks k ∙ ap bit e)) (λ e. omega (arith, entry_marks k ∙ ap bit e))

  -- each has the claim's mark
  pub entry_marked : (k : ℕ) → 1 ≤ occurs k (moved_of es) → is_moving_by t ((s.tables b).slots k) ≡ true
  entry_marked k o = bool (is_moving_by t ((s.tables b).slots k)) (λ e. e) (λ e. absurd (omega (arith, entry_marks k ∙ ap bit e)))
