-- What a value names, in the model: the view and the opening of a represented table. Assumes nothing.
use Rattle.std.proofs.Math.Path.{◌≡◌, sym, ap}
use Rattle.std.specs.Prelude.{Option, Some, None, refl, true, ℕ, zero, suc, ◌%◌, ◌<◌, eqb, ltb}
use Rattle.std.proofs.Common.{◌∙◌, arith}
use Rattle.std.proofs.Math.Bool.{false}
use borrow.Author.Tests.{ne_eqb, eqb-true, eqb-false, lt-ltb, ltb-true, ltb-false, le-ltb}
use Rattle.words.specs.Pick.{bool}
use Rattle.codec.specs.declared.Decoded.{Decoded}
use Rattle.codec.specs.Codec.{decodes, slot_in as slot_named, generation_in, decode_of}
use Rattle.model.specs.State.{Handle, Slot.occupied, Table, State, is_active, is_occupied}
use Rattle.model.specs.Lookup.{View as Named, view_slot, lookup, on_view}
pub use Rattle.model.proofs.Decided.{on_active, on_handle}
use Rattle.model.specs.Decision.{Decision, Decision.refusal}
use Rattle.layout.specs.declared.Shape.{Shape}
use Rattle.layout.specs.Layout.{Mem, head, cell}
use Rattle.layout.specs.Fields.{head_mask, head_lifecycle, head_cursor, slot_tag, slot_generation, slot_object, slot_rights, slot_flags}
use Rattle.layout.specs.Values.{tag_transfer_reserved, tag_occupied, life_active}
use Rattle.layout.specs.Sizes.{page_size}
use Rattle.representation.specs.Represents.{word_in, frame_of, slot_word, tagged, slot_from, slot_in, TableIs, Represents}
use Rattle.representation.specs.Told.{life_tells}
use Rattle.lookup.specs.declared.PreparedHandle.{PreparedHandle}
use Rattle.lookup.specs.View.{View, View.Invalid, View.Busy, View.Holds, Opened.Refused, Opened.Handle as Found}
use Rattle.lookup.specs.View.{handle_at, shown, slot_view, decoded_view, view_of, table_refusal, view_opened, open_of, handle_of, named}

-- ---- slots

-- a slot with the tag of an occupied one is occupied, by the handle that stands in it
tagged_occupied : (m : Mem) (t g x y w : ℕ) → t ≡ 3 → tagged m t g x y w ≡ occupied g (record { object = x; rights = y; flags = w })
tagged_occupied m t g x y w e = rw e

from_occupied : (m : Mem) (fr j : ℕ) → word_in m fr j slot_tag ≡ tag_occupied
    → slot_from m fr j ≡ occupied (word_in m fr j slot_generation) (record { object = word_in m fr j slot_object; rights = word_in m fr j slot_rights; flags = word_in m fr j slot_flags })
from_occupied m zero j e = absurd (omega arith)
from_occupied m (suc fr) j e = tagged_occupied m (m (cell fr j slot_tag)) (m (cell fr j slot_generation)) (m (cell fr j slot_object)) (m (cell fr j slot_rights)) (m (cell fr j slot_flags)) e

pub slot_occupied : (m : Mem) (b k : ℕ) → slot_word m b k slot_tag ≡ tag_occupied → slot_in m b k ≡ occupied (handle_at m b k).generation (handle_of (handle_at m b k))
slot_occupied m b k e = from_occupied m (frame_of m b k) (k % page_size) e

-- and no other is
tag_tells : (m : Mem) (t g x y w : ℕ) → eqb t 3 ≡ is_occupied (tagged m t g x y w)
tag_tells m zero g x y w = refl
tag_tells m (suc zero) g x y w = refl
tag_tells m (suc (suc zero)) g x y w = refl
tag_tells m (suc (suc (suc zero))) g x y w = refl
tag_tells m (suc (suc (suc (suc t)))) g x y w = ne_eqb (suc (suc (suc (suc t)))) 3 (λ e. omega arith)

from_tells : (m : Mem) (fr j : ℕ) → eqb (word_in m fr j slot_tag) tag_occupied ≡ is_occupied (slot_from m fr j)
from_tells m zero j = refl
from_tells m (suc fr) j = tag_tells m (m (cell fr j slot_tag)) (m (cell fr j slot_generation)) (m (cell fr j slot_object)) (m (cell fr j slot_rights)) (m (cell fr j slot_flags))

pub slot_tells : (m : Mem) (b k : ℕ) → eqb (slot_word m b k slot_tag) tag_occupied ≡ is_occupied (slot_in m b k)
slot_tells m b k = from_tells m (frame_of m b k) (k % page_size)

-- ---- views

abbrev record_of : ℕ → ℕ → ℕ → ℕ → ℕ → PreparedHandle
record_of k n x y w = record { slot = k; generation = n; object = x; rights = y; flags = w }

tagged_named : (m : Mem) (k g t n x y w : ℕ) → named (shown g t (record_of k n x y w)) ≡ view_slot k g (tagged m t n x y w)
tagged_named m k g zero n x y w = bool (eqb g n) (λ e. rw e) (λ e. rw e)
tagged_named m k g (suc zero) n x y w = bool (eqb g n) (λ e. rw e) (λ e. rw e)
tagged_named m k g (suc (suc zero)) n x y w = bool (eqb g n) (λ e. rw e) (λ e. rw e)
tagged_named m k g (suc (suc (suc zero))) n x y w = bool (eqb g n) (λ e. rw e) (λ e. rw e)
tagged_named m k g (suc (suc (suc (suc t)))) n x y w =
    let p : eqb (suc (suc (suc (suc t)))) tag_occupied ≡ false = ne_eqb (suc (suc (suc (suc t)))) tag_occupied (λ e. omega arith) in
    let q : eqb (suc (suc (suc (suc t)))) tag_transfer_reserved ≡ false = ne_eqb (suc (suc (suc (suc t)))) tag_transfer_reserved (λ e. omega arith) in
    bool (eqb g n) (λ e. rw (e, p, q)) (λ e. rw e)

from_named : (m : Mem) (fr j k g : ℕ) → named (shown g (word_in m fr j slot_tag) (record_of k (word_in m fr j slot_generation) (word_in m fr j slot_object) (word_in m fr j slot_rights) (word_in m fr j slot_flags))) ≡ view_slot k g (slot_from m fr j)
from_named m zero j k g = bool (eqb g 0) (λ e. rw e) (λ e. rw e)
from_named m (suc fr) j k g = tagged_named m k g (m (cell fr j slot_tag)) (m (cell fr j slot_generation)) (m (cell fr j slot_object)) (m (cell fr j slot_rights)) (m (cell fr j slot_flags))

slot_named_law : (m : Mem) (b k g : ℕ) → named (slot_view m b k g) ≡ view_slot k g (slot_in m b k)
unfolding slot_view
slot_named_law m b k g = from_named m (frame_of m b k) (k % page_size) k g

module _ (m : Mem) (b : ℕ) (t : Table) (i : TableIs m b t) where
  -- THE VIEW of a represented table is the model's
  pub view_is : (v : ℕ) → named (view_of m b v) ≡ lookup t v
  unfolding view_of decode_of
  view_is v = rw i.mask (bool (decodes t.mask v)
      (λ e. rw e (slot_named_law m b (slot_named t.mask v) (generation_in t.mask v)
      ∙ ap (view_slot (slot_named t.mask v) (generation_in t.mask v)) (i.slots (slot_named t.mask v))))
      (λ e. rw e))

  -- a handle that a value names stands in its slot
  pub view_found : (v : ℕ) (h : PreparedHandle) → view_of m b v ≡ Holds h → t.slots h.slot ≡ occupied h.generation (handle_of h)
  unfolding view_of slot_view
  view_found v h e = sym (i.slots h.slot) ∙ decoded_found (decode_of (m (head b head_mask)) v) e
    where
      nothing : {A : Type 0} → Invalid ≡ Holds h → A
      nothing z = let y : ◌≡◌ {A = ℕ} 0 1 = cc in absurd (omega arith)

      moving : {A : Type 0} → Busy ≡ Holds h → A
      moving z = let y : ◌≡◌ {A = ℕ} 0 1 = cc in absurd (omega arith)

      here : (k : ℕ) → slot_word m b k slot_tag ≡ tag_occupied → Holds (handle_at m b k) ≡ Holds h → slot_in m b h.slot ≡ occupied h.generation (handle_of h)
      here k d z = let y : h ≡ handle_at m b k = cc in rw y (slot_occupied m b k d)

      slot_found : (k g : ℕ) → slot_view m b k g ≡ Holds h → slot_in m b h.slot ≡ occupied h.generation (handle_of h)
      slot_found k g z = bool (eqb g (slot_word m b k slot_generation))
          (λ p. bool (eqb (slot_word m b k slot_tag) tag_occupied)
          (λ q. here k (eqb-true (slot_word m b k slot_tag) tag_occupied q) (rw (p, q) at z))
          (λ q. bool (eqb (slot_word m b k slot_tag) tag_transfer_reserved) (λ r. moving (rw (p, q, r) at z)) (λ r. nothing (rw (p, q, r) at z))))
          (λ p. nothing (rw p at z))

      decoded_found : (d : Option Decoded) → decoded_view m b d ≡ Holds h → slot_in m b h.slot ≡ occupied h.generation (handle_of h)
      decoded_found (Some d) z = slot_found d.slot d.generation z
      decoded_found None z = nothing z

-- ---- openings

pub record Active (s : State) (b : ℕ) : Type 0 where
  pub known : b < s.table_count
  pub active : is_active (s.tables b).life ≡ true

pub active_on : (s : State) (b : ℕ) → Active s b → (f : Table → Decision) → on_active s b f ≡ f (s.tables b)
active_on s b a f = rw (lt-ltb b s.table_count a.known, a.active)

-- a handle of an active table, as the model sees it
pub record Opens (s : State) (b v : ℕ) (h : PreparedHandle) : Type 1 where
  pub table : Active s b
  pub slot : (s.tables b).slots h.slot ≡ occupied h.generation (handle_of h)
  pub handle : (f : Table → ℕ → Handle → Decision) → on_handle s b v f ≡ f (s.tables b) h.slot (handle_of h)

module _ (sh : Shape) (m : Mem) (s : State) (i : Represents sh m s) (b : ℕ) where
  pub table_open : table_refusal m sh b ≡ 0 → Active s b
  unfolding table_refusal
  table_open e = bool (ltb b sh.tables)
      (λ p. let l : b < s.table_count = omega (arith, ltb-true b sh.tables p, i.table_count) in
      let d = life_tells (m (head b head_lifecycle)) (m (head b head_cursor)) (s.tables b).life (i.tables b l).life in
      bool (eqb (m (head b head_lifecycle)) life_active)
      (λ q. record { known = l; active = sym d ∙ q })
      (λ q. let z : ◌≡◌ {A = ℕ} 16 0 = rw (p, q) at e in absurd (omega arith)))
      (λ p. let z : ◌≡◌ {A = ℕ} 18 0 = rw p at e in absurd (omega arith))

  pub table_refused : (n : ℕ) → table_refusal m sh b ≡ n → (n ≡ 0 → ⊥) → (f : Table → Decision) → on_active s b f ≡ refusal n
  unfolding table_refusal
  table_refused n e c f = bool (ltb b sh.tables)
      (λ p. let l : b < s.table_count = omega (arith, ltb-true b sh.tables p, i.table_count) in
      let d = life_tells (m (head b head_lifecycle)) (m (head b head_cursor)) (s.tables b).life (i.tables b l).life in
      bool (eqb (m (head b head_lifecycle)) life_active)
      (λ q. absurd (c (sym (rw (p, q) at e))))
      (λ q. let z : 16 ≡ n = rw (p, q) at e in let x : is_active (s.tables b).life ≡ false = sym d ∙ q in rw (lt-ltb b s.table_count l, x, ← z)))
      (λ p. let z : 18 ≡ n = rw p at e in rw (le-ltb b s.table_count (omega (arith, ltb-false b sh.tables p, i.table_count)), ← z))

  module _ (v : ℕ) where
    view_at : Active s b → named (view_of m b v) ≡ lookup (s.tables b) v
    view_at a = view_is m b (s.tables b) (i.tables b a.known) v

    -- THE OPENING is the model's
    pub open_refused_is : (n : ℕ) → open_of m sh b v ≡ Refused n → (f : Table → ℕ → Handle → Decision) → on_handle s b v f ≡ refusal n
    unfolding open_of
    open_refused_is n e f = bool (eqb (table_refusal m sh b) 0)
        (λ p. let a = table_open (eqb-true (table_refusal m sh b) 0 p) in
        active_on s b a (λ t. on_view (lookup t v) 2 3 (f t)) ∙ ap (λ (x : Named). on_view x 2 3 (f (s.tables b))) (sym (view_at a)) ∙ viewed (view_of m b v) (rw p at e))
        (λ p. let z : Refused (table_refusal m sh b) ≡ Refused n = rw p at e in
        let y : table_refusal m sh b ≡ n = cc in
        table_refused n y (λ q. eqb-false (table_refusal m sh b) 0 p (y ∙ q)) (λ t. on_view (lookup t v) 2 3 (f t)))
      where
        viewed : (x : View) → view_opened x ≡ Refused n → on_view (named x) 2 3 (f (s.tables b)) ≡ refusal n
        viewed Invalid z = let y : 2 ≡ n = cc in ap refusal y
        viewed Busy z = let y : 3 ≡ n = cc in ap refusal y
        viewed (Holds h) z = let y : ◌≡◌ {A = ℕ} 0 1 = cc in absurd (omega arith)

    pub open_found_is : (h : PreparedHandle) → open_of m sh b v ≡ Found h → Opens s b v h
    unfolding open_of
    open_found_is h e = bool (eqb (table_refusal m sh b) 0)
        (λ p. let a = table_open (eqb-true (table_refusal m sh b) 0 p) in
        let y : view_of m b v ≡ Holds h = viewed (view_of m b v) (rw p at e) in
        record {
          table = a;
          slot = view_found m b (s.tables b) (i.tables b a.known) v h y;
          handle = λ f. active_on s b a (λ t. on_view (lookup t v) 2 3 (f t)) ∙ ap (λ (x : Named). on_view x 2 3 (f (s.tables b))) (sym (view_at a) ∙ ap named y);
        })
        (λ p. let z : Refused (table_refusal m sh b) ≡ Found h = rw p at e in let y : ◌≡◌ {A = ℕ} 0 1 = cc in absurd (omega arith))
      where
        viewed : (x : View) → view_opened x ≡ Found h → x ≡ Holds h
        viewed Invalid z = let y : ◌≡◌ {A = ℕ} 0 1 = cc in absurd (omega arith)
        viewed Busy z = let y : ◌≡◌ {A = ℕ} 0 1 = cc in absurd (omega arith)
        viewed (Holds x) z = let y : x ≡ h = cc in ap Holds y
