-- The slots of a page leave the free order with the head's words stored last: the slots' words alone, the head by its steps, and that both make what the operation says. Assumes nothing.
use Rattle.std.specs.Prelude.{◌≡◌, true, length, ltb}
use Rattle.std.proofs.Math.Path.{refl, ap}
use Rattle.std.proofs.Common.{sym, ◌∙◌, arith, add-one, length-set, get_or-set_same, set-set, ltb-true, ltb-false, lt-ltb}
use mathlib.Core.List.{List}
use Prim.Native.Nat.{ℕ, zero, suc, ◌+◌, ◌-◌, ◌*◌, ◌/◌, ◌%◌, ◌≤◌, ◌<◌, min}
use Rattle.std.proofs.Math.Seq.{set_out}
use Rattle.words.specs.Pick.{bool}
use Rattle.model.specs.State.{till, max_slots}
use Rattle.model.specs.Storage.{slots_of}
use Rattle.model.proofs.Bounds.{slots_max_law}
use Rattle.layout.specs.declared.Shape.{Shape}
use Rattle.layout.specs.Layout.{Addr, Mem, head, entry, cell, place, load, save, save_load, length_save, Write, writes, length_writes}
use Rattle.layout.specs.Fields.{head_pages, head_first_free, head_free_slots, head_first_entry, entry_frame, slot_next_free, slot_previous_free}
use Rattle.layout.specs.Sizes.{page_size, last_page}
use Rattle.representation.specs.Represents.{word_in, frame_of, slot_word}
use Rattle.head.specs.declared.TableHead.{TableHead}
use Rattle.head.specs.Head.{head_at, taken_by, free_p}
use Rattle.head.specs.Apart.{save_comm, load_other, save_off, load_off}
use Rattle.storage.specs.Sight.{look, slot_p, link_frame}
use Rattle.storage.specs.Late.{frame_from, link_from, slot_keeps}
use Rattle.detach.specs.Ops.{first_after, link_w, unlink_w, unlink_all, unlink_page_w}

-- ---- the words of the slots, and the head

-- slot j of the frame of the link fr leaves the free order of a table with the head h: the slot before it and the slot after it are linked
unfoldable pub without_w : List ℕ → Shape → TableHead → ℕ → ℕ → List ℕ
without_w ws sh h fr j =
    writes (writes ws sh (slot_p (link_from (load ws sh) h (word_in (load ws sh) fr j slot_previous_free)) (word_in (load ws sh) fr j slot_previous_free) slot_next_free (word_in (load ws sh) fr j slot_next_free))) sh
    (slot_p (link_from (load ws sh) h (word_in (load ws sh) fr j slot_next_free)) (word_in (load ws sh) fr j slot_next_free) slot_previous_free (word_in (load ws sh) fr j slot_previous_free))

-- the head then
unfoldable pub without_by : Mem → TableHead → ℕ → ℕ → TableHead
without_by m h fr j = taken_by h (first_after (word_in m fr j slot_previous_free) (word_in m fr j slot_next_free) h.first_free)

-- ---- stores at one address

-- the last one stays
save_twice : (ws : List ℕ) (sh : Shape) (a : Addr) (v w : ℕ) → save (save ws sh a v) sh a w ≡ save ws sh a w
unfolding save
save_twice ws sh a v w = rw length-set (set-set ws (place (length ws) sh a) v w)

-- what is stored by what was: where it can't be read again, no store is made
save_seen : (ws vs : List ℕ) (sh : Shape) (a : Addr) (v : ℕ) (f : ℕ → ℕ) → length vs ≡ length ws → save vs sh a (f (load (save ws sh a v) sh a)) ≡ save vs sh a (f v)
unfolding save load
save_seen ws vs sh a v f e = rw (e, length-set) (bool (ltb (place (length ws) sh a) (length ws))
    (λ y. rw (get_or-set_same ws (place (length ws) sh a) v 0 (ltb-true (place (length ws) sh a) (length ws) y)))
    (λ n. let l : length vs ≤ place (length ws) sh a = omega (arith, e, ltb-false (place (length ws) sh a) (length ws) n) in
    set_out vs (place (length ws) sh a) _ l ∙ sym (set_out vs (place (length ws) sh a) _ l)))

-- the free order's words over those of another head
over : (ws us : List ℕ) (sh : Shape) (b x n : ℕ) (f g : ℕ → ℕ) → length us ≡ length ws
    → save (save (save (save us sh (head b head_first_free) x) sh (head b head_free_slots) n) sh (head b head_first_free) (f (load (save (save ws sh (head b head_first_free) x) sh (head b head_free_slots) n) sh (head b head_first_free)))) sh (head b head_free_slots) (g (load (save (save ws sh (head b head_first_free) x) sh (head b head_free_slots) n) sh (head b head_free_slots)))
    ≡ save (save us sh (head b head_first_free) (f x)) sh (head b head_free_slots) (g n)
over ws us sh b x n f g e =
    let X : Addr = head b head_first_free in
    let Y : Addr = head b head_free_slots in
    let ws₁ : List ℕ = save ws sh X x in
    let v : ℕ = f (load (save ws₁ sh Y n) sh X) in
    let w : ℕ = g (load (save ws₁ sh Y n) sh Y) in
    let l : length (save us sh X (f x)) ≡ length ws₁ = length_save us sh X (f x) ∙ e ∙ sym (length_save ws sh X x) in
    ap (λ (z : List ℕ). save z sh Y w) (save_comm (save us sh X x) sh Y X refl n v ∙ ap (λ (z : List ℕ). save z sh Y n) (save_twice us sh X x v))
    ∙ save_twice (save us sh X v) sh Y n w
    ∙ ap (λ (z : List ℕ). save z sh Y w) (ap (λ (z : ℕ). save us sh X (f z)) (load_other ws₁ sh Y X refl n) ∙ save_seen ws us sh X x f e)
    ∙ save_seen ws₁ (save us sh X (f x)) sh Y n g l

-- ---- under the free order's words

module _ (us : List ℕ) (sh : Shape) (b : ℕ) (h : TableHead) where
  abbrev under : List ℕ
  under = writes us sh (free_p b h)

  -- a slot stands in the same frame
  frame_under : (k : ℕ) → frame_of (load under sh) b k ≡ frame_of (load us sh) b k
  frame_under k = rw (load_off us sh (head b head_pages) (free_p b h) (refl, (refl, tt)), load_off us sh (head b head_first_entry) (free_p b h) (refl, (refl, tt)), load_off us sh (entry (load us sh (head b head_first_entry) + k / page_size) entry_frame) (free_p b h) (refl, (refl, tt)))

  link_under : (l : ℕ) → link_frame (load under sh) b l ≡ link_frame (load us sh) b l
  link_under zero = refl
  link_under (suc k) = frame_under k

  -- and shows the same words
  word_under : (fr j f : ℕ) → word_in (load under sh) fr j f ≡ word_in (load us sh) fr j f
  word_under zero j f = refl
  word_under (suc fr) j f = load_off us sh (cell fr j f) (free_p b h) (refl, (refl, tt))

  -- a store into a slot may come first
  slot_under : (fr l f v : ℕ) → writes under sh (slot_p fr l f v) ≡ writes (writes us sh (slot_p fr l f v)) sh (free_p b h)
  slot_under fr zero f v = refl
  slot_under zero (suc k) f v = refl
  slot_under (suc fr) (suc k) f v = sym (save_off us sh (cell fr (k % page_size) f) v (free_p b h) (refl, (refl, tt)))

  linked_under : (l f v : ℕ) → link_w under sh b l f v ≡ writes (writes us sh (slot_p (link_frame (load us sh) b l) l f v)) sh (free_p b h)
  unfolding link_w
  linked_under l f v = ap (λ (z : ℕ). writes under sh (slot_p z l f v)) (link_under l) ∙ slot_under (link_frame (load us sh) b l) l f v

-- a store into a slot moves no slot
module _ (us : List ℕ) (sh : Shape) (b fr l f v : ℕ) where
  head_stays : (i : ℕ) → load (writes us sh (slot_p fr l f v)) sh (head b i) ≡ load us sh (head b i)
  head_stays i = slot_keeps sh (head b i) us fr l f v (λ x y z. (refl, tt))

  frame_stays : (k : ℕ) → frame_of (load (writes us sh (slot_p fr l f v)) sh) b k ≡ frame_of (load us sh) b k
  frame_stays k = rw (head_stays head_pages, head_stays head_first_entry, slot_keeps sh (entry (load us sh (head b head_first_entry) + k / page_size) entry_frame) us fr l f v (λ x y z. (refl, tt)))

  link_stays : (k : ℕ) → link_frame (load (writes us sh (slot_p fr l f v)) sh) b k ≡ link_frame (load us sh) b k
  link_stays zero = refl
  link_stays (suc k) = frame_stays k

-- ---- one slot

-- the stores of `unlink_w`, by what they need
unlink_by : (ws : List ℕ) (sh : Shape) (b k n q : ℕ) → slot_word (load ws sh) b k slot_next_free ≡ n → slot_word (load ws sh) b k slot_previous_free ≡ q
    → unlink_w ws sh b k
    ≡ save (save (link_w (link_w ws sh b q slot_next_free n) sh b n slot_previous_free q) sh (head b head_first_free) (first_after q n (load ws sh (head b head_first_free)))) sh (head b head_free_slots) (load ws sh (head b head_free_slots) - 1)
unfolding unlink_w look
unlink_by ws sh b k n q e d = rw (e, d)

module _ (us : List ℕ) (sh : Shape) (b : ℕ) (h : TableHead) (e : h.entry ≡ load us sh (head b head_first_entry)) (d : h.pages ≡ load us sh (head b head_pages)) where
  frame_from_law : (k : ℕ) → frame_from (load us sh) h k ≡ frame_of (load us sh) b k
  unfolding frame_from
  frame_from_law k = rw (e, d)

  link_from_law : (l : ℕ) → link_from (load us sh) h l ≡ link_frame (load us sh) b l
  unfolding link_from
  link_from_law zero = refl
  link_from_law (suc k) = frame_from_law k

  module _ (fr j : ℕ) where
    abbrev next_of : ℕ
    next_of = word_in (load us sh) fr j slot_next_free

    abbrev prev_of : ℕ
    prev_of = word_in (load us sh) fr j slot_previous_free

    without_by_law : without_w us sh h fr j
        ≡ writes (writes us sh (slot_p (link_frame (load us sh) b prev_of) prev_of slot_next_free next_of)) sh (slot_p (link_frame (load us sh) b next_of) next_of slot_previous_free prev_of)
    unfolding without_w
    without_by_law = rw (link_from_law prev_of, link_from_law next_of)

    without_long : length (without_w us sh h fr j) ≡ length us
    unfolding without_w
    without_long =
        let xs : List Write = slot_p (link_from (load us sh) h prev_of) prev_of slot_next_free next_of in
        length_writes (writes us sh xs) sh (slot_p (link_from (load us sh) h next_of) next_of slot_previous_free prev_of) ∙ length_writes us sh xs

    without_head : (i : ℕ) → load (without_w us sh h fr j) sh (head b i) ≡ load us sh (head b i)
    unfolding without_w
    without_head i = head_stays _ sh b _ next_of slot_previous_free prev_of i ∙ head_stays us sh b _ prev_of slot_next_free next_of i

    without_frame : (k : ℕ) → frame_of (load (without_w us sh h fr j) sh) b k ≡ frame_of (load us sh) b k
    unfolding without_w
    without_frame k = frame_stays _ sh b _ next_of slot_previous_free prev_of k ∙ frame_stays us sh b _ prev_of slot_next_free next_of k

    links_last : link_w (link_w (under us sh b h) sh b prev_of slot_next_free next_of) sh b next_of slot_previous_free prev_of ≡ writes (without_w us sh h fr j) sh (free_p b h)
    links_last =
        let us₁ : List ℕ = writes us sh (slot_p (link_frame (load us sh) b prev_of) prev_of slot_next_free next_of) in
        ap (λ (z : List ℕ). link_w z sh b next_of slot_previous_free prev_of) (linked_under us sh b h prev_of slot_next_free next_of)
        ∙ linked_under us₁ sh b h next_of slot_previous_free prev_of
        ∙ ap (λ (z : ℕ). writes (writes us₁ sh (slot_p z next_of slot_previous_free prev_of)) sh (free_p b h)) (link_stays us sh b (link_frame (load us sh) b prev_of) prev_of slot_next_free next_of next_of)
        ∙ ap (λ (z : List ℕ). writes z sh (free_p b h)) (sym without_by_law)

    -- the operation with the head's words last
    unlink_last : (k : ℕ) → fr ≡ frame_of (load us sh) b k → j ≡ k % page_size → unlink_w (under us sh b h) sh b k ≡ writes (without_w us sh h fr j) sh (free_p b (without_by (load us sh) h fr j))
    unfolding without_by
    unlink_last k p q =
        let word : (f : ℕ) → slot_word (load (under us sh b h) sh) b k f ≡ word_in (load us sh) fr j f = λ f. rw (p, q) (ap (λ (z : ℕ). word_in (load (under us sh b h) sh) z (k % page_size) f) (frame_under us sh b h k) ∙ word_under us sh b h (frame_of (load us sh) b k) (k % page_size) f) in
        unlink_by (under us sh b h) sh b k next_of prev_of (word slot_next_free) (word slot_previous_free)
        ∙ ap (λ (z : List ℕ). save (save z sh (head b head_first_free) (first_after prev_of next_of (load (under us sh b h) sh (head b head_first_free)))) sh (head b head_free_slots) (load (under us sh b h) sh (head b head_free_slots) - 1)) links_last
        ∙ over us (without_w us sh h fr j) sh b h.first_free h.free (λ (z : ℕ). first_after prev_of next_of z) (λ (z : ℕ). z - 1) without_long

-- ---- the slots of page p, of which j have left: the words, and the head, whose words are stored last

pub record Leaving (ws us : List ℕ) (sh : Shape) (b p : ℕ) (h : TableHead) (fr j : ℕ) : Type 0 where
  pub words : writes us sh (free_p b h) ≡ unlink_all ws sh b (p * page_size) j
  pub first : h.entry ≡ load us sh (head b head_first_entry)
  pub size : h.pages ≡ load us sh (head b head_pages)
  pub frame : fr ≡ frame_of (load us sh) b (min p last_page * page_size)

pub leaving_none : (ws : List ℕ) (sh : Shape) (b p : ℕ) (h : TableHead) (x fr : ℕ) → h ≡ head_at (load ws sh) b → x ≡ min p last_page → fr ≡ frame_of (load ws sh) b (x * page_size) → Leaving ws ws sh b p h fr 0
unfolding head_at unlink_all
leaving_none ws sh b p h x fr e q d = record {
  words = rw e (ap (λ (z : List ℕ). save z sh (head b head_free_slots) (load ws sh (head b head_free_slots))) (save_load ws sh (head b head_first_free)) ∙ save_load ws sh (head b head_free_slots));
  first = rw e;
  size = rw e;
  frame = rw q at d;
}

-- all slots of a page stand in one frame
one_frame : (m : Mem) (b p j n : ℕ) → n ≡ slots_of till p → j < n → frame_of m b (min p last_page * page_size) ≡ frame_of m b (p * page_size + j)
one_frame m b p j n e l =
    let y : ltb (min p last_page * page_size) max_slots ≡ true = lt-ltb (min p last_page * page_size) max_slots (omega (arith, slots_max_law)) in
    let z : ltb (p * page_size + j) max_slots ≡ true = lt-ltb (p * page_size + j) max_slots (omega (arith, slots_max_law)) in
    let u : min p last_page * page_size / page_size ≡ p = omega (arith, slots_max_law) in
    let v : (p * page_size + j) / page_size ≡ p = omega (arith, slots_max_law) in
    rw (y, z, u, v)

pub leaving_more : (ws us vs : List ℕ) (sh : Shape) (b p : ℕ) (h t : TableHead) (fr j n : ℕ) → n ≡ slots_of till p → j < n → Leaving ws us sh b p h fr j → vs ≡ without_w us sh h fr j → t ≡ without_by (load us sh) h fr j
    → Leaving ws vs sh b p t fr (j + 1)
unfolding unlink_all without_by
leaving_more ws us vs sh b p h t fr j n e l o a d =
    let q : fr ≡ frame_of (load us sh) b (p * page_size + j) = o.frame ∙ one_frame (load us sh) b p j n e l in
    let z : j ≡ (p * page_size + j) % page_size = omega (arith, slots_max_law) in
    record {
      words = rw (a, d, add-one) (sym (ap (λ (w : List ℕ). unlink_w w sh b (p * page_size + j)) (sym o.words) ∙ unlink_last us sh b h o.first o.size fr j (p * page_size + j) q z));
      first = rw (a, d) (o.first ∙ sym (without_head us sh b h o.first o.size fr j head_first_entry));
      size = rw (a, d) (o.size ∙ sym (without_head us sh b h o.first o.size fr j head_pages));
      frame = rw a (o.frame ∙ sym (without_frame us sh b h o.first o.size fr j (min p last_page * page_size)));
    }

pub leaving_all : (ws us vs : List ℕ) (sh : Shape) (b p : ℕ) (h : TableHead) (fr j n : ℕ) → Leaving ws us sh b p h fr j → j ≡ n → n ≡ slots_of till p → vs ≡ writes us sh (free_p b h) → vs ≡ unlink_page_w ws sh b p
unfolding unlink_page_w
leaving_all ws us vs sh b p h fr j n o q d a = a ∙ o.words ∙ rw (q, d)
