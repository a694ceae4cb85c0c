-- The pages that a table gets next: they are those of the model's plan, in the items of a row or compared with them. Assumes nothing.
use Rattle.std.specs.Prelude.{◌≡◌, Bool, true, false, eqb}
use Rattle.std.proofs.Math.Path.{refl, ap}
use Rattle.std.proofs.Common.{subst, sym, ◌∙◌, arith}
use Rattle.std.proofs.Math.Bool.{and-false}
use mathlib.Core.List.{List, [], ◌∷◌}
use Rattle.std.proofs.Math.Option.{none, some}
use Prim.Native.Nat.{ℕ, zero, suc, ◌+◌, ◌-◌, ◌≤◌, ◌<◌}
use Rattle.std.proofs.Math.ListN.{length}
use borrow.Author.Tests.{eq-eqb, ne_eqb, eqb-true, eqb-false}
use Rattle.words.specs.Pick.{pick, bool}
use Rattle.model.specs.Base.{same_list}
use Rattle.model.specs.State.{till, Table, max_batch}
use Rattle.model.specs.Storage.{slots_of, pages_from, pages_for}
use Rattle.model.specs.Create.{max_pages}
use Rattle.model.proofs.Bounds.{pages_max_law}
use Rattle.model.proofs.Tests.{apart, also_some}
use Rattle.invariant.proofs.Orders.{Sound}
use Rattle.layout.specs.declared.Shape.{Shape}
use Rattle.layout.specs.Layout.{Addr, Mem, total, head, entry, item, in_item, load, save, same, length_save, load_save, load_save_any, is_in}
use Rattle.layout.specs.Fields.{head_pages, head_first_detached, head_first_entry, entry_next, item_page}
use Rattle.layout.specs.Sizes.{batch_max}
use Rattle.representation.specs.Represents.{Linked, TableIs, Items}
use Rattle.storage.specs.Ops.{up}
use Rattle.growth.specs.Words.{page_at, link_after, size_after, next_pages, pages_w, same_pages, pages_same}
use Rattle.growth.specs.Joined.{up_small}

-- ---- the pages of the model's plan

pages_from_law : (m : Mem) (e l fuel k d n : ℕ) (ds ps : List ℕ) → Linked (λ q. m (entry (e + q) entry_next)) d ds → n ≤ l → l ≤ max_pages till → pages_from till fuel k ds n l ≡ some ps
    → next_pages m e d n (length ps) ≡ ps
pages_from_law m e l zero zero d n ds ps i a b h = let y : ps ≡ [] = cc in rw y
pages_from_law m e l zero (suc k) d n ds ps i a b h = apart (cc)
pages_from_law m e l (suc fuel) zero d n ds ps i a b h = let y : ps ≡ [] = cc in rw y
pages_from_law m e l (suc fuel) (suc k) d n [] ps i a b h = bool (eqb n l)
    (λ t. let y : none ≡ some ps = rw t at h in apart (cc))
    (λ t. let p = also_some n (pages_from till fuel (suc k - slots_of till n) [] (suc n) l) ps (rw t at h) in
    let u : up n ≡ suc n = up_small n (omega (arith, eqb-false n l t, pages_max_law)) in
    rw (p.2, i, u) (ap (λ (qs : List ℕ). n ∷ qs) (pages_from_law m e l fuel (suc k - slots_of till n) 0 (suc n) [] p.0 refl (omega (arith, eqb-false n l t)) b p.1)))
pages_from_law m e l (suc fuel) (suc k) d n (q ∷ ds) ps i a b h =
    let p = also_some q (pages_from till fuel (suc k - slots_of till q) ds n l) ps h in
    let z : suc q - 1 ≡ q = omega arith in
    rw (p.2, i.0, ne_eqb (suc q) 0 (λ y. omega arith), z)
    (ap (λ (qs : List ℕ). q ∷ qs) (pages_from_law m e l fuel (suc k - slots_of till q) (m (entry (e + q) entry_next)) n ds p.0 i.1 a b p.1))

-- THE PAGES that table b needs for k slots
abbrev pub next_of : Mem → ℕ → ℕ → List ℕ
next_of m b k = next_pages m (m (head b head_first_entry)) (m (head b head_first_detached)) (m (head b head_pages)) k

pub next_is : (m : Mem) (b : ℕ) (t : Table) → TableIs m b t → Sound till t t.free → (k : ℕ) (ps : List ℕ) → pages_for till t k ≡ some ps → next_of m b (length ps) ≡ ps
unfolding pages_for
next_is m b t i o k ps e = rw i.size
    (pages_from_law m (m (head b head_first_entry)) t.limit max_batch (k - length t.free) (m (head b head_first_detached)) t.size t.detached ps i.detached o.size o.limit e)

-- ---- compared with those of a row

same_are : (m : Mem) (e x j d n k : ℕ) (ps : List ℕ) → length ps ≡ k → Items (λ i p. m (item x i item_page) ≡ p) j ps → same_pages m e x j d n k ≡ same_list (next_pages m e d n k) ps
unfolding same_pages
same_are m e x j d n zero [] l i = refl
same_are m e x j d n zero (p ∷ ps) l i = absurd (omega arith)
same_are m e x j d n (suc k) [] l i = absurd (omega arith)
same_are m e x j d n (suc k) (p ∷ ps) l i = rw i.0 (bool (eqb p (page_at d n))
    (λ q. rw (q, eqb_swap p (page_at d n) q) (same_are m e x (suc j) (link_after m e d) (size_after d n) k ps (omega arith) i.1))
    (λ q. rw (q, ne_eqb (page_at d n) p (λ y. eqb-false p (page_at d n) q (sym y)))))
  where
    eqb_swap : (p q : ℕ) → eqb p q ≡ true → eqb q p ≡ true
    eqb_swap p q e = eq-eqb q p (sym (eqb-true p q e))

pub pages_are : (m : Mem) (b x : ℕ) (ps : List ℕ) → Items (λ i p. m (item x i item_page) ≡ p) 0 ps → pages_same m b x (length ps) ≡ same_list (next_of m b (length ps)) ps
unfolding pages_same
pages_are m b x ps i = same_are m (m (head b head_first_entry)) x 0 (m (head b head_first_detached)) (m (head b head_pages)) (length ps) ps refl i

-- ---- in the items of a row

module _ (sh : Shape) (e x : ℕ) where
  pub length_pages : (k : ℕ) (ws : List ℕ) (j d n : ℕ) → length (pages_w ws sh e x j d n k) ≡ length ws
  unfolding pages_w
  length_pages zero ws j d n = refl
  length_pages (suc k) ws j d n =
      length_pages k (save ws sh (item x j item_page) (page_at d n)) (suc j) (link_after (load ws sh) e d) (size_after d n) ∙ length_save ws sh (item x j item_page) (page_at d n)

  -- no other word changes
  pub pages_off : (k : ℕ) (ws : List ℕ) (j d n : ℕ) → total sh ≤ length ws → (a : Addr) → ((i : ℕ) → same (item x i item_page) a ≡ false) → load (pages_w ws sh e x j d n k) sh a ≡ load ws sh a
  unfolding pages_w
  pages_off zero ws j d n h a off = refl
  pages_off (suc k) ws j d n h a off =
      pages_off k (save ws sh (item x j item_page) (page_at d n)) (suc j) (link_after (load ws sh) e d) (size_after d n) (omega (arith, length_save ws sh (item x j item_page) (page_at d n))) a off
      ∙ load_save_any ws sh h (item x j item_page) (page_at d n) a
      ∙ rw (off j, and-false (is_in sh (item x j item_page)))

  -- and of these not the earlier ones
  pages_before : (k : ℕ) (ws : List ℕ) (j d n i : ℕ) → total sh ≤ length ws → i < j → load (pages_w ws sh e x j d n k) sh (item x i item_page) ≡ load ws sh (item x i item_page)
  unfolding pages_w
  pages_before zero ws j d n i h low = refl
  pages_before (suc k) ws j d n i h low =
      pages_before k (save ws sh (item x j item_page) (page_at d n)) (suc j) (link_after (load ws sh) e d) (size_after d n) i (omega (arith, length_save ws sh (item x j item_page) (page_at d n))) (omega arith)
      ∙ load_save_any ws sh h (item x j item_page) (page_at d n) (item x i item_page)
      ∙ rw (ne_eqb i j (λ y. omega arith), and-false (is_in sh (item x j item_page)))

  -- THE ITEMS name the pages; m is the memory before
  pub pages_items : x < sh.rows → (m : Mem) (k : ℕ) (ws : List ℕ) (j d n : ℕ) → total sh ≤ length ws → j + k ≤ batch_max → ((q f : ℕ) → load ws sh (entry q f) ≡ m (entry q f))
      → Items (λ i p. load (pages_w ws sh e x j d n k) sh (item x i item_page) ≡ p) j (next_pages m e d n k)
  unfolding pages_w
  pages_items low m zero ws j d n h few same_entries = tt
  pages_items low m (suc k) ws j d n h few same_entries =
      let ws₁ : List ℕ = save ws sh (item x j item_page) (page_at d n) in
      let h₁ : total sh ≤ length ws₁ = omega (arith, length_save ws sh (item x j item_page) (page_at d n)) in
      let link : link_after (load ws sh) e d ≡ link_after m e d = ap (pick (eqb d 0) 0) (same_entries (e + (d - 1)) entry_next) in
      subst (λ (l : ℕ). Items (λ i p. load (pages_w ws₁ sh e x (suc j) l (size_after d n) k) sh (item x i item_page) ≡ p) j (page_at d n ∷ next_pages m e (link_after m e d) (size_after d n) k)) (sym link) (
        pages_before k ws₁ (suc j) (link_after m e d) (size_after d n) j h₁ (omega arith)
            ∙ load_save ws sh h (item x j item_page) (page_at d n) (in_item sh x j item_page low (omega arith) (omega arith)) (item x j item_page)
            ∙ rw (eq-eqb j j refl, eq-eqb x x refl),
        pages_items low m k ws₁ (suc j) (link_after m e d) (size_after d n) h₁ (omega arith)
            (λ q f. load_save_any ws sh h (item x j item_page) (page_at d n) (entry q f)
            ∙ ap (λ (t : Bool). pick t (page_at d n) (load ws sh (entry q f))) (and-false (is_in sh (item x j item_page))) ∙ same_entries q f),
      )
