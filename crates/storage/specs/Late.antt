-- The operations with the head's words stored last: the words of the slots and pages alone, and the head by its steps (proofs/Last.antt: both make what the operations say). Assumes nothing.
use Rattle.std.specs.Prelude.{◌≡◌, refl, ℕ, zero, suc, ◌+◌, ◌-◌, ◌/◌, ◌%◌, max, eqb, ltb}
use Rattle.std.proofs.Math.Path.{sym, ap}
use Rattle.std.proofs.Common.{◌∙◌}
use mathlib.Core.List.{List, [], ◌∷◌}
use Rattle.words.specs.Pick.{pick}
use Rattle.model.specs.State.{max_slots}
use Rattle.layout.specs.declared.Shape.{Shape}
use Rattle.layout.specs.Layout.{Mem, Addr, head, entry, cell, load, save, Write, Write.at, writes}
use Rattle.layout.specs.Fields.{head_first_empty, head_first_entry, entry_frame, entry_high, entry_busy, entry_next, entry_previous, slot_tag, slot_generation, slot_next_free, slot_previous_free, slot_place, slot_position}
use Rattle.layout.specs.Values.{tag_vacant, tag_reserved}
use Rattle.layout.specs.Sizes.{page_size}
use Rattle.representation.specs.Represents.{frame_of}
use Rattle.head.specs.declared.TableHead.{TableHead}
use Rattle.head.specs.Head.{head_at, empty_by}
use Rattle.head.specs.Apart.{Off, save_off, load_off}
use Rattle.storage.specs.Sight.{look, cell_p, slot_p, page_p, link_frame, writes_all}
use Rattle.storage.specs.Ops.{up, mark_p, join_p, leave_p, mark_w, join_w, leave_w}

-- ---- frames by the head

-- the frame of the page that slot k stands on, and of the slot of a link, as a link
unfoldable pub frame_from : Mem → TableHead → ℕ → ℕ
frame_from m h k = pick (ltb k max_slots) (pick (ltb (k / page_size) h.pages) (m (entry (h.entry + k / page_size) entry_frame)) 0) 0

unfoldable pub link_from : Mem → TableHead → ℕ → ℕ
link_from m h zero = 0
link_from m h (suc k) = frame_from m h k

pub frame_of_law : (m : Mem) (b k : ℕ) → frame_from m (head_at m b) k ≡ frame_of m b k
unfolding frame_from head_at
frame_of_law m b k = refl

pub link_of : (m : Mem) (b l : ℕ) → link_from m (head_at m b) l ≡ link_frame m b l
unfolding link_from
link_of m b zero = refl
link_of m b (suc k) = frame_of_law m b k

-- ---- the words of slots and pages

-- slot k, in the frame of the link fr, is vacant with the generation g, before the slot of the link x, in the frame of the link xf
unfoldable pub vacant_w : List ℕ → Shape → ℕ → ℕ → ℕ → ℕ → ℕ → List ℕ
vacant_w ws sh fr k g xf x =
    writes_all ws sh
    (slot_p xf x slot_previous_free (up k) ∷ cell_p fr (k % page_size) slot_tag tag_vacant ∷ cell_p fr (k % page_size) slot_generation g ∷ cell_p fr (k % page_size) slot_next_free x ∷ cell_p fr (k % page_size) slot_previous_free 0 ∷ [])

-- slot k is Reserved by position j of the row in place r; the slot of the link n, in the frame of the link nf, is the first of the free order
unfoldable pub held_w : List ℕ → Shape → ℕ → ℕ → ℕ → ℕ → ℕ → ℕ → List ℕ
held_w ws sh fr k nf n r j = writes_all ws sh (slot_p nf n slot_previous_free 0 ∷ cell_p fr (k % page_size) slot_tag tag_reserved ∷ cell_p fr (k % page_size) slot_place r ∷ cell_p fr (k % page_size) slot_position j ∷ [])

-- page p, of the table whose first entry is e, has n busy slots and has had the generation g
unfoldable pub marked_w : List ℕ → Shape → ℕ → ℕ → ℕ → ℕ → List ℕ
marked_w ws sh e p g n = save (save ws sh (entry (e + p) entry_high) (max (load ws sh (entry (e + p) entry_high)) g)) sh (entry (e + p) entry_busy) n

-- it stands before the page of the link x
unfoldable pub linked_w : List ℕ → Shape → ℕ → ℕ → ℕ → List ℕ
linked_w ws sh e p x = save (save (writes ws sh (page_p e x entry_previous (up p))) sh (entry (e + p) entry_next) x) sh (entry (e + p) entry_previous) 0

-- the page before it and the page after it are linked
unfoldable pub unlinked_w : List ℕ → Shape → ℕ → ℕ → List ℕ
unlinked_w ws sh e p =
    writes (writes ws sh (page_p e (load ws sh (entry (e + p) entry_previous)) entry_next (load ws sh (entry (e + p) entry_next)))) sh
    (page_p e (load ws sh (entry (e + p) entry_next)) entry_previous (load ws sh (entry (e + p) entry_previous)))

-- the first of the order without it, which was x
unfoldable pub first_without : Mem → ℕ → ℕ → ℕ → ℕ
first_without m e p x = pick (eqb (m (entry (e + p) entry_previous)) 0) (m (entry (e + p) entry_next)) x

-- a busy slot of page p fell vacant: the pages' words, and the head
unfoldable pub fewer_w : List ℕ → Shape → TableHead → ℕ → ℕ → List ℕ
fewer_w ws sh h p g =
    pick (eqb (load ws sh (entry (h.entry + p) entry_busy) - 1) 0)
    (linked_w (marked_w ws sh h.entry p g (load ws sh (entry (h.entry + p) entry_busy) - 1)) sh h.entry p h.first_empty)
    (marked_w ws sh h.entry p g (load ws sh (entry (h.entry + p) entry_busy) - 1))

unfoldable pub fewer_by : Mem → TableHead → ℕ → TableHead
fewer_by m h p = pick (eqb (m (entry (h.entry + p) entry_busy) - 1) 0) (empty_by h (up p)) h

-- a slot of page p got busy
unfoldable pub more_w : List ℕ → Shape → TableHead → ℕ → ℕ → List ℕ
more_w ws sh h p g =
    pick (eqb (load ws sh (entry (h.entry + p) entry_busy)) 0)
    (unlinked_w (marked_w ws sh h.entry p g (up (load ws sh (entry (h.entry + p) entry_busy)))) sh h.entry p)
    (marked_w ws sh h.entry p g (up (load ws sh (entry (h.entry + p) entry_busy))))

unfoldable pub more_by : List ℕ → Shape → TableHead → ℕ → ℕ → TableHead
more_by ws sh h p g =
    pick (eqb (load ws sh (entry (h.entry + p) entry_busy)) 0)
    (empty_by h (first_without (load (marked_w ws sh h.entry p g (up (load ws sh (entry (h.entry + p) entry_busy)))) sh) h.entry p h.first_empty))
    h

-- ---- stores that keep a word

module _ (sh : Shape) (a : Addr) where
  -- into the page or the slot of a link
  page_keeps : (ws : List ℕ) (e l f v : ℕ) → ((x y : ℕ) → Off a (at (entry x y) v ∷ [])) → load (writes ws sh (page_p e l f v)) sh a ≡ load ws sh a
  page_keeps ws e zero f v o = refl
  page_keeps ws e (suc l) f v o = load_off ws sh a (page_p e (suc l) f v) (o (e + l) f)

  cell_keeps : (ws : List ℕ) (fr j f v : ℕ) → ((x y z : ℕ) → Off a (at (cell x y z) v ∷ [])) → load (writes ws sh (cell_p fr j f v)) sh a ≡ load ws sh a
  cell_keeps ws zero j f v o = refl
  cell_keeps ws (suc fr) j f v o = load_off ws sh a (cell_p (suc fr) j f v) (o fr j f)

  pub slot_keeps : (ws : List ℕ) (fr l f v : ℕ) → ((x y z : ℕ) → Off a (at (cell x y z) v ∷ [])) → load (writes ws sh (slot_p fr l f v)) sh a ≡ load ws sh a
  slot_keeps ws fr zero f v o = refl
  slot_keeps ws fr (suc k) f v o = cell_keeps ws fr (k % page_size) f v o

-- a head's word keeps through the words of slots and of pages
module _ (ws : List ℕ) (sh : Shape) (b i : ℕ) where
  pub vacant_keeps : (fr k g xf x : ℕ) → load (vacant_w ws sh fr k g xf x) sh (head b i) ≡ load ws sh (head b i)
  unfolding vacant_w
  vacant_keeps fr k g xf x =
      cell_keeps sh (head b i) _ fr (k % page_size) slot_previous_free 0 (λ y z w. (refl, tt))
      ∙ cell_keeps sh (head b i) _ fr (k % page_size) slot_next_free x (λ y z w. (refl, tt))
      ∙ cell_keeps sh (head b i) _ fr (k % page_size) slot_generation g (λ y z w. (refl, tt))
      ∙ cell_keeps sh (head b i) _ fr (k % page_size) slot_tag tag_vacant (λ y z w. (refl, tt))
      ∙ slot_keeps sh (head b i) ws xf x slot_previous_free (up k) (λ y z w. (refl, tt))

  pub held_keeps : (fr k nf n r j : ℕ) → load (held_w ws sh fr k nf n r j) sh (head b i) ≡ load ws sh (head b i)
  unfolding held_w
  held_keeps fr k nf n r j =
      cell_keeps sh (head b i) _ fr (k % page_size) slot_position j (λ y z w. (refl, tt))
      ∙ cell_keeps sh (head b i) _ fr (k % page_size) slot_place r (λ y z w. (refl, tt))
      ∙ cell_keeps sh (head b i) _ fr (k % page_size) slot_tag tag_reserved (λ y z w. (refl, tt))
      ∙ slot_keeps sh (head b i) ws nf n slot_previous_free 0 (λ y z w. (refl, tt))

  pub unlinked_keeps : (e p : ℕ) → load (unlinked_w ws sh e p) sh (head b i) ≡ load ws sh (head b i)
  unfolding unlinked_w
  unlinked_keeps e p =
      page_keeps sh (head b i) _ e (load ws sh (entry (e + p) entry_next)) entry_previous (load ws sh (entry (e + p) entry_previous)) (λ x y. (refl, tt))
      ∙ page_keeps sh (head b i) ws e (load ws sh (entry (e + p) entry_previous)) entry_next (load ws sh (entry (e + p) entry_next)) (λ x y. (refl, tt))

  pub marked_keeps : (e p g n : ℕ) → load (marked_w ws sh e p g n) sh (head b i) ≡ load ws sh (head b i)
  unfolding marked_w
  marked_keeps e p g n = load_off ws sh (head b i) (at (entry (e + p) entry_high) (max (load ws sh (entry (e + p) entry_high)) g) ∷ at (entry (e + p) entry_busy) n ∷ []) (refl, (refl, tt))

-- ---- the operations by these words

module _ (ws : List ℕ) (sh : Shape) (b e p : ℕ) (q : e ≡ load ws sh (head b head_first_entry)) where
  pub mark_by : (g n : ℕ) → mark_w ws sh b p g n ≡ marked_w ws sh e p g n
  unfolding mark_w mark_p look marked_w
  mark_by g n = rw q

  pub join_by : (x : ℕ) → x ≡ load ws sh (head b head_first_empty) → join_w ws sh b p ≡ save (linked_w ws sh e p x) sh (head b head_first_empty) (up p)
  unfolding join_w join_p look linked_w
  join_by x i = rw (i, q)

  pub leave_by : (x : ℕ) → x ≡ load ws sh (head b head_first_empty) → leave_w ws sh b p ≡ save (unlinked_w ws sh e p) sh (head b head_first_empty) (first_without (load ws sh) e p x)
  unfolding leave_w leave_p look unlinked_w first_without
  leave_by x i = rw (i, q)

-- ---- stores into the head, which may come last: none goes to a page's entry

module _ (sh : Shape) (hs : List Write) (o : (e f : ℕ) → Off (entry e f) hs) where
  page_last : (ws : List ℕ) (e l f v : ℕ) → writes (writes ws sh hs) sh (page_p e l f v) ≡ writes (writes ws sh (page_p e l f v)) sh hs
  page_last ws e zero f v = refl
  page_last ws e (suc l) f v = sym (save_off ws sh (entry (e + l) f) v hs (o (e + l) f))

  pub entry_last : (ws : List ℕ) (e f v : ℕ) → save (writes ws sh hs) sh (entry e f) v ≡ writes (save ws sh (entry e f) v) sh hs
  entry_last ws e f v = sym (save_off ws sh (entry e f) v hs (o e f))

  entry_seen : (ws : List ℕ) (e f : ℕ) → load (writes ws sh hs) sh (entry e f) ≡ load ws sh (entry e f)
  entry_seen ws e f = load_off ws sh (entry e f) hs (o e f)

  pub marked_last : (ws : List ℕ) (e p g n : ℕ) → marked_w (writes ws sh hs) sh e p g n ≡ writes (marked_w ws sh e p g n) sh hs
  unfolding marked_w
  marked_last ws e p g n = rw (entry_seen ws (e + p) entry_high)
      (ap (λ (u : List ℕ). save u sh (entry (e + p) entry_busy) n) (entry_last ws (e + p) entry_high (max (load ws sh (entry (e + p) entry_high)) g))
      ∙ entry_last (save ws sh (entry (e + p) entry_high) (max (load ws sh (entry (e + p) entry_high)) g)) (e + p) entry_busy n)

  pub linked_last : (ws : List ℕ) (e p x : ℕ) → linked_w (writes ws sh hs) sh e p x ≡ writes (linked_w ws sh e p x) sh hs
  unfolding linked_w
  linked_last ws e p x =
      ap (λ (u : List ℕ). save (save u sh (entry (e + p) entry_next) x) sh (entry (e + p) entry_previous) 0) (page_last ws e x entry_previous (up p))
      ∙ ap (λ (u : List ℕ). save u sh (entry (e + p) entry_previous) 0) (entry_last (writes ws sh (page_p e x entry_previous (up p))) (e + p) entry_next x)
      ∙ entry_last (save (writes ws sh (page_p e x entry_previous (up p))) sh (entry (e + p) entry_next) x) (e + p) entry_previous 0

  pub unlinked_last : (ws : List ℕ) (e p : ℕ) → unlinked_w (writes ws sh hs) sh e p ≡ writes (unlinked_w ws sh e p) sh hs
  unfolding unlinked_w
  unlinked_last ws e p = rw (entry_seen ws (e + p) entry_next, entry_seen ws (e + p) entry_previous)
      (ap (λ (u : List ℕ). writes u sh (page_p e (load ws sh (entry (e + p) entry_next)) entry_previous (load ws sh (entry (e + p) entry_previous)))) (page_last ws e (load ws sh (entry (e + p) entry_previous)) entry_next (load ws sh (entry (e + p) entry_next)))
      ∙ page_last (writes ws sh (page_p e (load ws sh (entry (e + p) entry_previous)) entry_next (load ws sh (entry (e + p) entry_next)))) e (load ws sh (entry (e + p) entry_next)) entry_previous (load ws sh (entry (e + p) entry_previous)))

  pub without_last : (ws : List ℕ) (e p x : ℕ) → first_without (load (writes ws sh hs) sh) e p x ≡ first_without (load ws sh) e p x
  unfolding first_without
  without_last ws e p x = rw (entry_seen ws (e + p) entry_next, entry_seen ws (e + p) entry_previous)
