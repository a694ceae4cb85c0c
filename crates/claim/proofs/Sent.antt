-- The entries of a claim become the handles of a parcel, in their row. Assumes nothing.
use Rattle.std.specs.Prelude.{◌≡◌, length, eqb}
use Rattle.std.proofs.Math.Path.{refl}
use Rattle.std.proofs.Common.{◌∙◌, arith}
use Rattle.std.proofs.Math.Bool.{and-false}
use mathlib.Core.List.{List, [], ◌∷◌, map}
use Prim.Native.Nat.{ℕ, zero, suc, ◌+◌, ◌≤◌, ◌<◌}
use borrow.Author.Tests.{eq-eqb, ne_eqb}
use Rattle.model.specs.State.{Entry}
use Rattle.model.specs.Book.{sent_of}
use Rattle.layout.specs.declared.Shape.{Shape}
use Rattle.layout.specs.Layout.{Mem, total, row, item, in_item, is_in, load, length_save, load_save, load_save_any}
use Rattle.layout.specs.Fields.{item_operation, item_object, item_rights, item_flags, item_granted}
use Rattle.layout.specs.Sizes.{batch_max}
use Rattle.representation.specs.Represents.{HandleIs, EntryIs, Items}
use Rattle.book.specs.Ops.{Fills, fills_none, fills_then, fills_item}
use Rattle.claim.specs.Ops.{each, sent_rights, send_w}
use Rattle.claim.proofs.Entries.{sent_is}

-- the rights sent are told by the words of the entry
rights_same : (m n : Mem) (x j : ℕ) → ((f : ℕ) → n (item x j f) ≡ m (item x j f)) → sent_rights n x j ≡ sent_rights m x j
unfolding sent_rights
rights_same m n x j e = rw (e item_operation, e item_rights, e item_granted)

module _ (sh : Shape) (x : ℕ) where
  abbrev send : List ℕ → ℕ → List ℕ
  send = λ (vs : List ℕ) (j : ℕ). send_w vs sh x j

  send_long : (ws : List ℕ) (j : ℕ) → total sh ≤ length ws → total sh ≤ length (send_w ws sh x j)
  unfolding send_w
  send_long ws j h = omega (arith, length_save ws sh (item x j item_rights) (sent_rights (load ws sh) x j))

  -- only the row's items change
  pub sent_fills : (n : ℕ) (ws : List ℕ) (j : ℕ) → total sh ≤ length ws → Fills ws (each (λ (vs : List ℕ) (j : ℕ). send_w vs sh x j) ws j n) sh x
  unfolding each send_w
  sent_fills zero ws j h = fills_none ws sh x
  sent_fills (suc n) ws j h =
      fills_then ws (send_w ws sh x j) (each send (send_w ws sh x j) (suc j) n) sh x (fills_item ws sh h x j item_rights (sent_rights (load ws sh) x j))
      (sent_fills n (send_w ws sh x j) (suc j) (send_long ws j h))

  -- not its first block
  pub sent_row : (n : ℕ) (ws : List ℕ) (j f : ℕ) → total sh ≤ length ws → load (each (λ (vs : List ℕ) (j : ℕ). send_w vs sh x j) ws j n) sh (row x f) ≡ load ws sh (row x f)
  unfolding each send_w
  sent_row zero ws j f h = refl
  sent_row (suc n) ws j f h =
      sent_row n (send_w ws sh x j) (suc j) f (send_long ws j h)
      ∙ load_save_any ws sh h (item x j item_rights) (sent_rights (load ws sh) x j) (row x f)
      ∙ rw (and-false (is_in sh (item x j item_rights)))

  -- and not the other items
  send_off : (ws : List ℕ) (j i f : ℕ) → total sh ≤ length ws → (i ≡ j → ⊥) → load (send_w ws sh x j) sh (item x i f) ≡ load ws sh (item x i f)
  unfolding send_w
  send_off ws j i f h ne = load_save_any ws sh h (item x j item_rights) (sent_rights (load ws sh) x j) (item x i f) ∙ rw (ne_eqb i j ne, and-false (eqb f 3), and-false (is_in sh (item x j item_rights)))

  sent_before : (n : ℕ) (ws : List ℕ) (j i f : ℕ) → total sh ≤ length ws → i < j → load (each send ws j n) sh (item x i f) ≡ load ws sh (item x i f)
  unfolding each
  sent_before zero ws j i f h low = refl
  sent_before (suc n) ws j i f h low = sent_before n (send_w ws sh x j) (suc j) i f (send_long ws j h) (omega arith) ∙ send_off ws j i f h (λ e. omega arith)

  -- one entry: its rights are those sent
  send_at : (ws : List ℕ) (j : ℕ) → total sh ≤ length ws → x < sh.rows → j < batch_max → (load (send_w ws sh x j) sh (item x j item_object) ≡ load ws sh (item x j item_object))
      × (load (send_w ws sh x j) sh (item x j item_rights) ≡ sent_rights (load ws sh) x j) × (load (send_w ws sh x j) sh (item x j item_flags) ≡ load ws sh (item x j item_flags))
  unfolding send_w
  send_at ws j h low few =
      let a = load_save ws sh h (item x j item_rights) (sent_rights (load ws sh) x j) (in_item sh x j item_rights low few (omega arith)) in
      (a (item x j item_object), a (item x j item_rights) ∙ rw (eq-eqb j j refl, eq-eqb x x refl), a (item x j item_flags))

  -- THE HANDLES, of entries that stood in the items from j on
  pub sent_items : x < sh.rows → (m : Mem) (es : List Entry) (ws : List ℕ) (j : ℕ) → total sh ≤ length ws → j + length es ≤ batch_max → ((i f : ℕ) → j ≤ i → load ws sh (item x i f) ≡ m (item x i f))
      → Items (EntryIs m x) j es → Items (HandleIs (load (each (λ (vs : List ℕ) (j : ℕ). send_w vs sh x j) ws j (length es)) sh) x) j (map sent_of es)
  unfolding each
  sent_items low m [] ws j h few e its = tt
  sent_items low m (y ∷ es) ws j h few e its =
      let q = sent_is m x j y its.0 in
      let a = send_at ws j h low (omega arith) in
      let back : (f : ℕ) → load (each send (send_w ws sh x j) (suc j) (length es)) sh (item x j f) ≡ load (send_w ws sh x j) sh (item x j f)
      = λ f. sent_before (length es) (send_w ws sh x j) (suc j) j f (send_long ws j h) (omega arith) in (
        (
          back item_object ∙ a.0 ∙ e j item_object (omega arith) ∙ q.0,
          back item_rights ∙ a.1 ∙ rights_same m (load ws sh) x j (λ f. e j f (omega arith)) ∙ q.1,
          back item_flags ∙ a.2 ∙ e j item_flags (omega arith) ∙ q.2,
        ),
        sent_items low m es (send_w ws sh x j) (suc j) (send_long ws j h) (omega arith) (λ i f l. send_off ws j i f h (λ z. omega arith) ∙ e i f (omega arith)) its.1,
      )
