-- What the addresses show after a page was joined. Assumes nothing.
use Rattle.std.specs.Prelude.{◌≡◌, refl, false, ◌&&◌, [], ◌∷◌, ℕ, zero, suc, ◌+◌, ◌*◌, ◌%◌, ◌≤◌, ◌<◌, min, eqb}
use Rattle.std.proofs.Common.{sym, ap, ◌∙◌, arith, eq-eqb, ne_eqb, eqb-true}
use Rattle.std.proofs.Math.Bool.{and-false}
use Rattle.std.proofs.lemmas.Bool.{eqb-false}
use Rattle.words.specs.Pick.{pick, bool, eqb_add}
use Rattle.model.specs.State.{till}
use Rattle.model.specs.Storage.{slots_of}
use Rattle.layout.specs.Layout.{Addr.reg, Mem, head, entry, cell, Write.at, upds}
use Rattle.layout.specs.Turns.{turns_m, miss, hit}
use Rattle.layout.specs.Fields.{head_pages, head_first_free, head_free_slots, head_first_empty, head_first_detached, head_first_entry, entry_frame, entry_high, entry_busy, entry_next, entry_previous, slot_tag, slot_generation, slot_next_free, slot_previous_free}
use Rattle.layout.specs.Values.{tag_vacant}
use Rattle.layout.specs.Sizes.{page_size, slots_max}
use Rattle.layout.specs.RegionNames.{region_head, region_entry, region_cell}
use Rattle.storage.specs.Sight.{link_frame, slot_p, page_p}
use Rattle.storage.specs.Ops.{up}
use Rattle.growth.specs.Words.{next_word, prev_word, slots_p, entry_p, fresh, size_with, detached_with}

-- ---- the frame

module _ (m : Mem) (f p g h : ℕ) where
  abbrev pub m_built : Mem
  m_built = turns_m m (slots_p f p g h) (slots_of till p)

  -- slots of other frames, and addresses of other regions
  pub built_cell : (fr j i : ℕ) → (fr ≡ f → ⊥) → m_built (cell fr j i) ≡ m (cell fr j i)
  built_cell fr j i n = miss m (slots_p f p g h) (cell fr j i)
      (λ x k. rw (ne_eqb fr f n, and-false (eqb j x), and-false (eqb i 0), and-false (eqb i 1), and-false (eqb i 2), and-false (eqb i 3))) (slots_of till p)

  pub built_off : (k x y i : ℕ) → (k ≡ region_cell → ⊥) → m_built (reg k x y i) ≡ m (reg k x y i)
  built_off k x y i n = miss m (slots_p f p g h) (reg k x y i) (λ z w. rw (ne_eqb k region_cell n)) (slots_of till p)

  -- slot j of the frame
  module _ (j : ℕ) (l : j < slots_of till p) where
    here : (v w : ℕ) → pick (eqb j j && eqb f f) v w ≡ v
    here v w = rw (eq-eqb j j refl, eq-eqb f f refl)

    there : (i v w : ℕ) → (j ≡ i → ⊥) → pick (eqb j i && eqb f f) v w ≡ w
    there i v w n = rw (ne_eqb j i n)

    pub built_tag : m_built (cell f j slot_tag) ≡ tag_vacant
    built_tag = hit m (slots_p f p g h) (cell f j slot_tag) j 0 (λ k. here 0 (k (cell f j slot_tag))) (λ i k n. there i 0 (k (cell f j slot_tag)) n) (slots_of till p) l

    pub built_generation : m_built (cell f j slot_generation) ≡ g
    built_generation = hit m (slots_p f p g h) (cell f j slot_generation) j g (λ k. here g (k (cell f j slot_generation))) (λ i k n. there i g (k (cell f j slot_generation)) n) (slots_of till p) l

    pub built_next : m_built (cell f j slot_next_free) ≡ next_word p h j
    built_next = hit m (slots_p f p g h) (cell f j slot_next_free) j (next_word p h j) (λ k. here (next_word p h j) (k (cell f j slot_next_free))) (λ i k n. there i (next_word p h i) (k (cell f j slot_next_free)) n) (slots_of till p) l

    pub built_prev : m_built (cell f j slot_previous_free) ≡ prev_word p (slots_of till p) j
    built_prev = hit m (slots_p f p g h) (cell f j slot_previous_free) j (prev_word p (slots_of till p) j) (λ k. here (prev_word p (slots_of till p) j) (k (cell f j slot_previous_free)))
        (λ i k n. there i (prev_word p (slots_of till p) i) (k (cell f j slot_previous_free)) n) (slots_of till p) l

-- ---- stores through links

module _ (k : Mem) (fr h i v : ℕ) where
  -- a store into a slot shows in slots alone
  pub slot_off : (r x y j : ℕ) → (r ≡ region_cell → ⊥) → upds k (slot_p fr h i v) (reg r x y j) ≡ k (reg r x y j)
  slot_off r x y j n = go fr h
    where
      go : (fr h : ℕ) → upds k (slot_p fr h i v) (reg r x y j) ≡ k (reg r x y j)
      go fr zero = refl
      go zero (suc h) = refl
      go (suc fr) (suc h) = rw (ne_eqb r region_cell n)

  -- in that of the link alone
  pub slot_cell : (x y j : ℕ) → (fr ≡ suc x → ⊥) → upds k (slot_p fr h i v) (cell x y j) ≡ k (cell x y j)
  slot_cell x y j n = go fr h n
    where
      go : (fr h : ℕ) → (fr ≡ suc x → ⊥) → upds k (slot_p fr h i v) (cell x y j) ≡ k (cell x y j)
      go fr zero n = refl
      go zero (suc h) n = refl
      go (suc fr) (suc h) n = rw (ne_eqb x fr (λ e. n (ap suc (sym e))), and-false (eqb y (h % page_size)), and-false (eqb j i))

-- a store into a page entry shows in it alone
pub page_off : (k : Mem) (e l i v r x y j : ℕ) → (r ≡ region_entry → ⊥) → upds k (page_p e l i v) (reg r x y j) ≡ k (reg r x y j)
page_off k e zero i v r x y j n = refl
page_off k e (suc l) i v r x y j n = rw (ne_eqb r region_entry n)

eqb_suc : (p q : ℕ) → eqb p q ≡ eqb (suc q) (suc p)
eqb_suc p q = bool (eqb p q) (λ t. rw t (sym (eq-eqb (suc q) (suc p) (omega (arith, eqb-true p q t))))) (λ t. rw t (sym (ne_eqb (suc q) (suc p) (λ y. eqb-false p q t (omega arith)))))

pub page_entry : (k : Mem) (e l i v q j : ℕ) → upds k (page_p e l i v) (entry (e + q) j) ≡ pick (eqb j i && eqb l (suc q)) v (k (entry (e + q) j))
page_entry k e zero i v q j = rw (ne_eqb 0 (suc q) (λ y. omega arith), and-false (eqb j i))
page_entry k e (suc l) i v q j = rw (eqb_add e q l, eqb_suc q l)

-- ---- the whole

module _ (m : Mem) (b p f : ℕ) where
  abbrev pub m_old : Mem
  m_old = upds (m_built m f p (fresh m b p) (m (head b head_first_free))) (slot_p (link_frame m b (m (head b head_first_free))) (m (head b head_first_free)) slot_previous_free (p * page_size + 1))

  abbrev pub m_entry : Mem
  m_entry =
      upds (upds (upds m_old (at (head b head_first_free) (p * page_size + slots_of till p) ∷ [])) (at (head b head_free_slots) (min (m (head b head_free_slots)) slots_max + slots_of till p) ∷ []))
      (entry_p b (m (head b head_first_entry)) p f (fresh m b p) (size_with m b p) (detached_with m b p))

  abbrev pub m_next : Mem
  m_next = upds m_entry (page_p (m (head b head_first_entry)) (m (head b head_first_empty)) entry_previous (up p))

  abbrev pub m_joined : Mem
  m_joined = upds m_next (at (entry (m (head b head_first_entry) + p) entry_next) (m (head b head_first_empty)) ∷ at (entry (m (head b head_first_entry) + p) entry_previous) 0 ∷ at (head b head_first_empty) (up p) ∷ [])

  old_off : (r x y i : ℕ) → (r ≡ region_cell → ⊥) → m_old (reg r x y i) ≡ m (reg r x y i)
  old_off r x y i n =
      slot_off (m_built m f p (fresh m b p) (m (head b head_first_free))) (link_frame m b (m (head b head_first_free))) (m (head b head_first_free)) slot_previous_free (p * page_size + 1) r x y i n
      ∙ built_off m f p (fresh m b p) (m (head b head_first_free)) r x y i n

  -- regions other than the heads, the entries and the frames
  pub joined_off : (r x y i : ℕ) → (r ≡ region_head → ⊥) → (r ≡ region_entry → ⊥) → (r ≡ region_cell → ⊥) → m_joined (reg r x y i) ≡ m (reg r x y i)
  joined_off r x y i n₁ n₂ n₇ =
      rw (ne_eqb r region_head n₁, ne_eqb r region_entry n₂) (page_off m_entry (m (head b head_first_entry)) (m (head b head_first_empty)) entry_previous (up p) r x y i n₂ ∙ rw (ne_eqb r region_head n₁, ne_eqb r region_entry n₂) (old_off r x y i n₇))

  next_head : (c i : ℕ) → m_next (head c i) ≡ m_entry (head c i)
  next_head c i = page_off m_entry (m (head b head_first_entry)) (m (head b head_first_empty)) entry_previous (up p) region_head c 0 i (λ y. omega arith)

  old_head : (c i : ℕ) → m_old (head c i) ≡ m (head c i)
  old_head c i = old_off region_head c 0 i (λ y. omega arith)

  -- heads before the page joins the empty order
  pub entry_head : (c i : ℕ) → (head_pages ≤ i → i ≤ head_free_slots → ⊥) → (i ≡ head_first_detached → ⊥) → m_entry (head c i) ≡ m (head c i)
  entry_head c i n n₉ = rw (ne_eqb i head_pages (λ y. n (omega arith) (omega arith)), ne_eqb i head_first_free (λ y. n (omega arith) (omega arith)), ne_eqb i head_free_slots (λ y. n (omega arith) (omega arith)), ne_eqb i head_first_detached n₉) (old_head c i)

  -- heads
  pub joined_head : (c i : ℕ) → (head_pages ≤ i → i ≤ head_first_detached → ⊥) → m_joined (head c i) ≡ m (head c i)
  joined_head c i n =
      rw (ne_eqb i head_first_empty (λ y. n (omega arith) (omega arith))) (next_head c i
      ∙ rw (ne_eqb i head_pages (λ y. n (omega arith) (omega arith)), ne_eqb i head_first_free (λ y. n (omega arith) (omega arith)), ne_eqb i head_free_slots (λ y. n (omega arith) (omega arith)), ne_eqb i head_first_detached (λ y. n (omega arith) (omega arith))) (old_head c i))

  pub joined_size : m_joined (head b head_pages) ≡ size_with m b p
  joined_size = next_head b head_pages ∙ rw (eq-eqb b b refl)

  pub joined_first : m_joined (head b head_first_free) ≡ p * page_size + slots_of till p
  joined_first = next_head b head_first_free ∙ rw (eq-eqb b b refl)

  pub joined_count : m_joined (head b head_free_slots) ≡ min (m (head b head_free_slots)) slots_max + slots_of till p
  joined_count = next_head b head_free_slots ∙ rw (eq-eqb b b refl)

  pub joined_empty : m_joined (head b head_first_empty) ≡ up p
  joined_empty = rw (eq-eqb b b refl)

  pub joined_detached : m_joined (head b head_first_detached) ≡ detached_with m b p
  joined_detached = next_head b head_first_detached ∙ rw (eq-eqb b b refl)

  -- the page
  pub joined_frame : m_joined (entry (m (head b head_first_entry) + p) entry_frame) ≡ up f
  joined_frame = page_entry m_entry (m (head b head_first_entry)) (m (head b head_first_empty)) entry_previous (up p) p entry_frame ∙ rw (eq-eqb (m (head b head_first_entry) + p) (m (head b head_first_entry) + p) refl)

  pub joined_high : m_joined (entry (m (head b head_first_entry) + p) entry_high) ≡ fresh m b p
  joined_high = page_entry m_entry (m (head b head_first_entry)) (m (head b head_first_empty)) entry_previous (up p) p entry_high ∙ rw (eq-eqb (m (head b head_first_entry) + p) (m (head b head_first_entry) + p) refl)

  pub joined_busy : m_joined (entry (m (head b head_first_entry) + p) entry_busy) ≡ 0
  joined_busy = page_entry m_entry (m (head b head_first_entry)) (m (head b head_first_empty)) entry_previous (up p) p entry_busy ∙ rw (eq-eqb (m (head b head_first_entry) + p) (m (head b head_first_entry) + p) refl)

  pub joined_next : m_joined (entry (m (head b head_first_entry) + p) entry_next) ≡ m (head b head_first_empty)
  joined_next = rw (eq-eqb (m (head b head_first_entry) + p) (m (head b head_first_entry) + p) refl)

  pub joined_prev : m_joined (entry (m (head b head_first_entry) + p) entry_previous) ≡ 0
  joined_prev = rw (eq-eqb (m (head b head_first_entry) + p) (m (head b head_first_entry) + p) refl)

  -- other pages
  pub joined_page : (q i : ℕ) → (q ≡ p → ⊥) → m_joined (entry (m (head b head_first_entry) + q) i) ≡ pick (eqb i entry_previous && eqb (m (head b head_first_empty)) (suc q)) (up p) (m (entry (m (head b head_first_entry) + q) i))
  joined_page q i n =
      let d : eqb (m (head b head_first_entry) + q) (m (head b head_first_entry) + p) ≡ false = ne_eqb (m (head b head_first_entry) + q) (m (head b head_first_entry) + p) (λ y. n (omega arith)) in
      rw (d, and-false (eqb i 3), and-false (eqb i 4)) (page_entry m_entry (m (head b head_first_entry)) (m (head b head_first_empty)) entry_previous (up p) q i
      ∙ ap (λ (x : ℕ). pick (eqb i entry_previous && eqb (m (head b head_first_empty)) (suc q)) (up p) x)
      (rw (d, and-false (eqb i 0), and-false (eqb i 1), and-false (eqb i 2)) (old_off region_entry (m (head b head_first_entry) + q) 0 i (λ y. omega arith))))

  -- slots
  pub joined_cell : (x y i : ℕ) → m_joined (cell x y i) ≡ m_old (cell x y i)
  joined_cell x y i = page_off m_entry (m (head b head_first_entry)) (m (head b head_first_empty)) entry_previous (up p) region_cell x y i (λ d. omega arith)
