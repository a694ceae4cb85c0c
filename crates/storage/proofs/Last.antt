-- The operations with the head's words stored last make what the operations say. Assumes nothing.
use Rattle.std.specs.Prelude.{◌≡◌, refl, Bool, true, false, ℕ, zero, suc, ◌+◌, ◌-◌, ◌/◌, ◌%◌, eqb}
use Rattle.std.proofs.Math.Path.{sym, ap}
use Rattle.std.proofs.Common.{◌∙◌}
use mathlib.Core.List.{List}
use Rattle.words.specs.Pick.{pick}
use Rattle.codec.specs.Codec.{next_generation}
use Rattle.layout.specs.declared.Shape.{Shape}
use Rattle.layout.specs.Layout.{Mem, head, entry, cell, load, save, save_load, writes}
use Rattle.layout.specs.Fields.{head_first_free, head_first_empty, head_first_entry, entry_busy, slot_tag, slot_generation, slot_next_free, slot_previous_free, slot_place, slot_position}
use Rattle.layout.specs.Values.{tag_reserved}
use Rattle.layout.specs.Sizes.{page_size}
use Rattle.representation.specs.Represents.{word_in, frame_of, slot_word}
use Rattle.head.specs.declared.TableHead.{TableHead}
use Rattle.head.specs.Head.{head_at, freed_by, taken_by, empty_by, free_p, orders_p}
use Rattle.head.specs.Apart.{save_off, load_off}
use Rattle.storage.specs.Sight.{look, Spot.pg, cell_p, slot_p, link_frame}
use Rattle.storage.specs.Ops.{up, publish_p, reserve_p, publish_w, mark_w, join_w, leave_w, reserve_w, lower_w, raise_w, vacate_w, take_w}
use Rattle.storage.specs.Late.{frame_from, link_from, frame_of_law, link_of, vacant_w, held_w, marked_w, linked_w, unlinked_w, first_without, fewer_w, fewer_by, more_w, more_by, vacant_keeps, held_keeps, marked_keeps, mark_by, join_by, leave_by, marked_last, linked_last, unlinked_last, without_last}

-- two arms that each store the orders last
arms : (sh : Shape) (b : ℕ) (y : Bool) (v₁ v₂ w₁ w₂ : List ℕ) (h₁ h₂ : TableHead) → v₁ ≡ writes w₁ sh (orders_p b h₁) → v₂ ≡ writes w₂ sh (orders_p b h₂)
    → pick y v₁ v₂ ≡ writes (pick y w₁ w₂) sh (orders_p b (pick y h₁ h₂))
arms sh b true v₁ v₂ w₁ w₂ h₁ h₂ p q = p
arms sh b false v₁ v₂ w₁ w₂ h₁ h₂ p q = q

-- after the free order's words
module _ (ws : List ℕ) (sh : Shape) (b p g : ℕ) (h : TableHead) (q : h.entry ≡ load ws sh (head b head_first_entry)) (i : h.first_empty ≡ load ws sh (head b head_first_empty)) where
  count_seen : look (load (writes ws sh (free_p b h)) sh) b (pg p entry_busy) ≡ load ws sh (entry (h.entry + p) entry_busy)
  unfolding look
  count_seen = rw (load_off ws sh (head b head_first_entry) (free_p b h) (refl, (refl, tt)) ∙ sym q, load_off ws sh (entry (h.entry + p) entry_busy) (free_p b h) (refl, (refl, tt)))

  module _ (n : ℕ) where
    abbrev marked : List ℕ
    marked = marked_w ws sh h.entry p g n

    mark_done : mark_w (writes ws sh (free_p b h)) sh b p g n ≡ writes marked sh (free_p b h)
    mark_done = mark_by (writes ws sh (free_p b h)) sh b h.entry p (q ∙ sym (load_off ws sh (head b head_first_entry) (free_p b h) (refl, (refl, tt)))) g n
        ∙ marked_last sh (free_p b h) (λ e f. (refl, (refl, tt))) ws h.entry p g n

    entry_here : h.entry ≡ load (writes marked sh (free_p b h)) sh (head b head_first_entry)
    entry_here = sym (load_off marked sh (head b head_first_entry) (free_p b h) (refl, (refl, tt)) ∙ marked_keeps ws sh b head_first_entry h.entry p g n ∙ sym q)

    empty_here : h.first_empty ≡ load (writes marked sh (free_p b h)) sh (head b head_first_empty)
    empty_here = sym (load_off marked sh (head b head_first_empty) (free_p b h) (refl, (refl, tt)) ∙ marked_keeps ws sh b head_first_empty h.entry p g n ∙ sym i)

    -- the page stays in or out of the order
    arm_still : mark_w (writes ws sh (free_p b h)) sh b p g n ≡ writes marked sh (orders_p b h)
    arm_still = mark_done ∙ sym (ap (save (writes marked sh (free_p b h)) sh (head b head_first_empty)) empty_here ∙ save_load (writes marked sh (free_p b h)) sh (head b head_first_empty))

    arm_joins : join_w (mark_w (writes ws sh (free_p b h)) sh b p g n) sh b p ≡ writes (linked_w marked sh h.entry p h.first_empty) sh (orders_p b (empty_by h (up p)))
    arm_joins = ap (λ (u : List ℕ). join_w u sh b p) mark_done
        ∙ join_by (writes marked sh (free_p b h)) sh b h.entry p entry_here h.first_empty empty_here
        ∙ ap (λ (u : List ℕ). save u sh (head b head_first_empty) (up p)) (linked_last sh (free_p b h) (λ e f. (refl, (refl, tt))) marked h.entry p h.first_empty)

    arm_leaves : leave_w (mark_w (writes ws sh (free_p b h)) sh b p g n) sh b p
        ≡ writes (unlinked_w marked sh h.entry p) sh (orders_p b (empty_by h (first_without (load marked sh) h.entry p h.first_empty)))
    arm_leaves = ap (λ (u : List ℕ). leave_w u sh b p) mark_done
        ∙ leave_by (writes marked sh (free_p b h)) sh b h.entry p entry_here h.first_empty empty_here
        ∙ ap (λ (x : ℕ). save (unlinked_w (writes marked sh (free_p b h)) sh h.entry p) sh (head b head_first_empty) x) (without_last sh (free_p b h) (λ e f. (refl, (refl, tt))) marked h.entry p h.first_empty)
        ∙ ap (λ (u : List ℕ). save u sh (head b head_first_empty) (first_without (load marked sh) h.entry p h.first_empty)) (unlinked_last sh (free_p b h) (λ e f. (refl, (refl, tt))) marked h.entry p)

  lower_last : lower_w (writes ws sh (free_p b h)) sh b p g ≡ writes (fewer_w ws sh h p g) sh (orders_p b (fewer_by (load ws sh) h p))
  unfolding lower_w fewer_w fewer_by
  lower_last = rw count_seen
      (arms sh b (eqb (load ws sh (entry (h.entry + p) entry_busy) - 1) 0) _ _ _ _ _ _ (arm_joins (load ws sh (entry (h.entry + p) entry_busy) - 1)) (arm_still (load ws sh (entry (h.entry + p) entry_busy) - 1)))

  raise_last : raise_w (writes ws sh (free_p b h)) sh b p g ≡ writes (more_w ws sh h p g) sh (orders_p b (more_by ws sh h p g))
  unfolding raise_w more_w more_by
  raise_last = rw count_seen
      (arms sh b (eqb (load ws sh (entry (h.entry + p) entry_busy)) 0) _ _ _ _ _ _ (arm_leaves (up (load ws sh (entry (h.entry + p) entry_busy)))) (arm_still (up (load ws sh (entry (h.entry + p) entry_busy)))))

-- ---- `vacate`

publish_last : (ws : List ℕ) (sh : Shape) (b k g : ℕ)
    → publish_w ws sh b k g
    ≡ writes (vacant_w ws sh (frame_of (load ws sh) b k) k g (link_frame (load ws sh) b (load ws sh (head b head_first_free))) (load ws sh (head b head_first_free))) sh (free_p b (freed_by (head_at (load ws sh) b) (up k)))
unfolding publish_w publish_p look vacant_w head_at
publish_last ws sh b k g = refl

pub vacate_is : (ws : List ℕ) (sh : Shape) (b k : ℕ) (h t u : TableHead) (fr xf o g y : ℕ) (w₁ w₂ w₃ : List ℕ)
    → h ≡ head_at (load ws sh) b → fr ≡ frame_from (load ws sh) h k → xf ≡ link_from (load ws sh) h h.first_free → o ≡ word_in (load ws sh) fr (k % page_size) slot_generation → g ≡ next_generation o
    → w₁ ≡ vacant_w ws sh fr k g xf h.first_free → y ≡ up k → t ≡ freed_by h y → w₂ ≡ fewer_w w₁ sh t (k / page_size) g → u ≡ fewer_by (load w₁ sh) t (k / page_size) → w₃ ≡ writes w₂ sh (orders_p b u)
    → w₃ ≡ vacate_w ws sh b k
unfolding vacate_w look head_at
vacate_is ws sh b k h t u fr xf o g y w₁ w₂ w₃ e₁ e₂ e₃ e₄ e₅ a₁ e₆ e₇ a₂ e₈ a₃ =
    let m : Mem = load ws sh in
    let x : ℕ = m (head b head_first_free) in
    let g' : ℕ = next_generation (slot_word m b k slot_generation) in
    let v : List ℕ = vacant_w ws sh (frame_of m b k) k g' (link_frame m b x) x in
    let f : fr ≡ frame_of m b k = e₂ ∙ ap (λ (z : TableHead). frame_from m z k) e₁ ∙ frame_of_law m b k in
    let l : xf ≡ link_frame m b x = e₃ ∙ ap (λ (z : TableHead). link_from m z z.first_free) e₁ ∙ link_of m b x in
    let z : vacate_w ws sh b k ≡ writes (fewer_w w₁ sh t (k / page_size) g) sh (orders_p b (fewer_by (load w₁ sh) t (k / page_size))) =
    rw (a₁, e₇, e₆, e₅, e₄, f, l, e₁)
    (ap (λ (z : List ℕ). lower_w z sh b (k / page_size) g') (publish_last ws sh b k g')
    ∙ lower_last v sh b (k / page_size) g' (freed_by (head_at m b) (up k))
    (sym (vacant_keeps ws sh b head_first_entry (frame_of m b k) k g' (link_frame m b x) x)) (sym (vacant_keeps ws sh b head_first_empty (frame_of m b k) k g' (link_frame m b x) x))) in
    a₃ ∙ rw (a₂, e₈) (sym z)

-- ---- `take_free`

-- into the slots
slot_last : (sh : Shape) (b : ℕ) (h : TableHead) (ws : List ℕ) (fr j f v : ℕ) → writes (writes ws sh (free_p b h)) sh (cell_p fr j f v) ≡ writes (writes ws sh (cell_p fr j f v)) sh (free_p b h)
slot_last sh b h ws zero j f v = refl
slot_last sh b h ws (suc fr) j f v = sym (save_off ws sh (cell fr j f) v (free_p b h) (refl, (refl, tt)))

reserve_last : (ws : List ℕ) (sh : Shape) (b k r j : ℕ)
    → reserve_w ws sh b k r j
    ≡ writes (held_w ws sh (frame_of (load ws sh) b k) k (link_frame (load ws sh) b (slot_word (load ws sh) b k slot_next_free)) (slot_word (load ws sh) b k slot_next_free) r j) sh
    (free_p b (taken_by (head_at (load ws sh) b) (slot_word (load ws sh) b k slot_next_free)))
unfolding reserve_w reserve_p look held_w head_at
reserve_last ws sh b k r j =
    let t : TableHead = taken_by (head_at (load ws sh) b) (slot_word (load ws sh) b k slot_next_free) in
    let fr : ℕ = frame_of (load ws sh) b k in
    let w : List ℕ = writes ws sh (slot_p (link_frame (load ws sh) b (slot_word (load ws sh) b k slot_next_free)) (slot_word (load ws sh) b k slot_next_free) slot_previous_free 0) in
    ap (λ (u : List ℕ). writes (writes u sh (cell_p fr (k % page_size) slot_place r)) sh (cell_p fr (k % page_size) slot_position j)) (slot_last sh b t w fr (k % page_size) slot_tag tag_reserved)
    ∙ ap (λ (u : List ℕ). writes u sh (cell_p fr (k % page_size) slot_position j)) (slot_last sh b t (writes w sh (cell_p fr (k % page_size) slot_tag tag_reserved)) fr (k % page_size) slot_place r)
    ∙ slot_last sh b t (writes (writes w sh (cell_p fr (k % page_size) slot_tag tag_reserved)) sh (cell_p fr (k % page_size) slot_place r)) fr (k % page_size) slot_position j

pub take_is : (ws : List ℕ) (sh : Shape) (b k r j : ℕ) (h t u : TableHead) (fr g n nf : ℕ) (w₁ w₂ w₃ : List ℕ)
    → h ≡ head_at (load ws sh) b → fr ≡ frame_from (load ws sh) h k → g ≡ word_in (load ws sh) fr (k % page_size) slot_generation → n ≡ word_in (load ws sh) fr (k % page_size) slot_next_free → nf ≡ link_from (load ws sh) h n
    → w₁ ≡ held_w ws sh fr k nf n r j → t ≡ taken_by h n → w₂ ≡ more_w w₁ sh t (k / page_size) g → u ≡ more_by w₁ sh t (k / page_size) g → w₃ ≡ writes w₂ sh (orders_p b u)
    → w₃ ≡ take_w ws sh b k r j
unfolding take_w look head_at
take_is ws sh b k r j h t u fr g n nf w₁ w₂ w₃ e₁ e₂ e₃ e₄ e₅ a₁ e₆ a₂ e₇ a₃ =
    let m : Mem = load ws sh in
    let x : ℕ = slot_word m b k slot_next_free in
    let f : fr ≡ frame_of m b k = e₂ ∙ ap (λ (z : TableHead). frame_from m z k) e₁ ∙ frame_of_law m b k in
    let i : n ≡ x = e₄ ∙ ap (λ (z : ℕ). word_in m z (k % page_size) slot_next_free) f in
    let l : nf ≡ link_frame m b x = e₅ ∙ ap (λ (z : TableHead). link_from m z n) e₁ ∙ link_of m b n ∙ ap (link_frame m b) i in
    let v : List ℕ = held_w ws sh (frame_of m b k) k (link_frame m b x) x r j in
    let z : take_w ws sh b k r j ≡ writes (more_w w₁ sh t (k / page_size) g) sh (orders_p b (more_by w₁ sh t (k / page_size) g)) =
    rw (a₁, e₆, e₃, l, i, f, e₁)
    (ap (λ (z : List ℕ). raise_w z sh b (k / page_size) (slot_word m b k slot_generation)) (reserve_last ws sh b k r j)
    ∙ raise_last v sh b (k / page_size) (slot_word m b k slot_generation) (taken_by (head_at m b) x)
    (sym (held_keeps ws sh b head_first_entry (frame_of m b k) k (link_frame m b x) x r j)) (sym (held_keeps ws sh b head_first_empty (frame_of m b k) k (link_frame m b x) x r j))) in
    a₃ ∙ rw (a₂, e₇) (sym z)

-- ---- both, by the words before alone

module _ (ws : List ℕ) (sh : Shape) (b k : ℕ) where
  abbrev own : TableHead
  own = head_at (load ws sh) b

  abbrev here : ℕ
  here = frame_from (load ws sh) own k

  abbrev told : ℕ → ℕ
  told f = word_in (load ws sh) here (k % page_size) f

  abbrev fell : List ℕ
  fell = vacant_w ws sh here k (next_generation (told slot_generation)) (link_from (load ws sh) own own.first_free) own.first_free

  pub vacate_last : vacate_w ws sh b k
      ≡ writes (fewer_w fell sh (freed_by own (up k)) (k / page_size) (next_generation (told slot_generation))) sh (orders_p b (fewer_by (load fell sh) (freed_by own (up k)) (k / page_size)))
  vacate_last = sym (vacate_is ws sh b k _ _ _ _ _ _ _ _ _ _ _ refl refl refl refl refl refl refl refl refl refl refl)

  module _ (r j : ℕ) where
    abbrev held : List ℕ
    held = held_w ws sh here k (link_from (load ws sh) own (told slot_next_free)) (told slot_next_free) r j

    pub take_last : take_w ws sh b k r j
        ≡ writes (more_w held sh (taken_by own (told slot_next_free)) (k / page_size) (told slot_generation)) sh (orders_p b (more_by held sh (taken_by own (told slot_next_free)) (k / page_size) (told slot_generation)))
    take_last = sym (take_is ws sh b k r j _ _ _ _ _ _ _ _ _ _ refl refl refl refl refl refl refl refl refl refl)
