-- A page that joins its table with the head's words stored last. Assumes nothing.
use Rattle.std.specs.Prelude.{◌≡◌, refl, List, [], ◌∷◌, ℕ, zero, suc, ◌+◌, ◌*◌, ◌<◌, min, eqb, ltb}
use Rattle.std.proofs.Common.{sym, ap, ◌∙◌, arith}
use Rattle.words.specs.Pick.{pick}
use Rattle.codec.specs.Codec.{next_generation}
use Rattle.model.specs.State.{till}
use Rattle.model.specs.Storage.{slots_of}
use Rattle.layout.specs.declared.Shape.{Shape}
use Rattle.layout.specs.Layout.{Addr, Mem, head, entry, load, save, Write, Write.at, writes}
use Rattle.head.specs.declared.TableHead.{TableHead}
use Rattle.head.specs.Head.{head_at, attached_by, drawn_by, empty_by, pages_p}
use Rattle.head.specs.Apart.{Off, load_off}
use Rattle.storage.specs.Sight.{link_frame, slot_p}
use Rattle.storage.specs.Ops.{up, join_w}
use Rattle.storage.specs.Late.{link_from, link_of, linked_w, join_by, linked_last, entry_last, slot_keeps}
use Rattle.layout.specs.Turns.{turns}
use Rattle.layout.specs.Fields.{head_pages, head_first_free, head_free_slots, head_first_empty, head_first_detached, head_first_entry, entry_frame, entry_high, entry_busy, entry_next, slot_previous_free}
use Rattle.layout.specs.Sizes.{page_size, slots_max, number32_max}
use Rattle.growth.specs.Words.{slots_p, built_w, entry_p, fresh, size_with, detached_with, joined_w}

-- the generation of page p and the link of the first detached page then, by the head
unfoldable pub fresh_from : Mem → TableHead → ℕ → ℕ
fresh_from m h p = pick (ltb p h.pages) (next_generation (m (entry (h.entry + p) entry_high))) 1

unfoldable pub detached_from : Mem → TableHead → ℕ → ℕ
detached_from m h p = pick (eqb h.first_detached (up p)) (m (entry (h.entry + p) entry_next)) h.first_detached

-- the words of page p's entry, but for its links
abbrev pub own_p : ℕ → ℕ → ℕ → ℕ → List Write
own_p e p f g = at (entry (e + p) entry_frame) (up f) ∷ at (entry (e + p) entry_high) g ∷ at (entry (e + p) entry_busy) 0 ∷ []

-- by a table's head they are the table's
fresh_of : (m : Mem) (b p : ℕ) → fresh_from m (head_at m b) p ≡ fresh m b p
unfolding fresh_from fresh head_at
fresh_of m b p = refl

detached_of : (m : Mem) (b p : ℕ) → detached_from m (head_at m b) p ≡ detached_with m b p
unfolding detached_from head_at
detached_of m b p = refl

-- turns that store elsewhere keep a word
turns_keep : (ws : List ℕ) (sh : Shape) (a : Addr) (f : ℕ → List Write) → ((j : ℕ) → Off a (f j)) → (n : ℕ) → load (turns ws sh f n) sh a ≡ load ws sh a
unfolding turns
turns_keep ws sh a f o zero = refl
turns_keep ws sh a f o (suc n) = load_off (turns ws sh f n) sh a (f n) (o n) ∙ turns_keep ws sh a f o n

-- a head's word keeps while the frame is built
built_keeps : (ws : List ℕ) (sh : Shape) (b i f p g x : ℕ) → load (built_w ws sh f p g x) sh (head b i) ≡ load ws sh (head b i)
unfolding built_w
built_keeps ws sh b i f p g x = turns_keep ws sh (head b i) (slots_p f p g x) (λ j. (refl, (refl, (refl, (refl, tt))))) (slots_of till p)

-- the head's words last
joined_last : (ws : List ℕ) (sh : Shape) (b p f g e x z c n d : ℕ) → e ≡ load ws sh (head b head_first_entry) → x ≡ load ws sh (head b head_first_empty)
    → join_w (writes (save (save ws sh (head b head_first_free) z) sh (head b head_free_slots) c) sh (entry_p b e p f g n d)) sh b p
    ≡ writes (linked_w (writes ws sh (own_p e p f g)) sh e p x) sh (at (head b head_first_free) z ∷ at (head b head_free_slots) c ∷ at (head b head_pages) n ∷ at (head b head_first_detached) d ∷ at (head b head_first_empty) (up p) ∷ [])
joined_last ws sh b p f g e x z c n d q i =
    let hs : List Write = at (head b head_first_free) z ∷ at (head b head_free_slots) c ∷ at (head b head_pages) n ∷ at (head b head_first_detached) d ∷ [] in
    let o : (u v : ℕ) → Off (entry u v) hs = λ (u v : ℕ). (refl, (refl, (refl, (refl, tt)))) in
    let own : List ℕ = writes ws sh (own_p e p f g) in
    let w : writes (writes ws sh hs) sh (own_p e p f g) ≡ writes own sh hs
    = ap (λ (u : List ℕ). save (save u sh (entry (e + p) entry_high) g) sh (entry (e + p) entry_busy) 0) (entry_last sh hs o ws (e + p) entry_frame (up f))
    ∙ ap (λ (u : List ℕ). save u sh (entry (e + p) entry_busy) 0) (entry_last sh hs o (save ws sh (entry (e + p) entry_frame) (up f)) (e + p) entry_high g)
    ∙ entry_last sh hs o (save (save ws sh (entry (e + p) entry_frame) (up f)) sh (entry (e + p) entry_high) g) (e + p) entry_busy 0 in
    ap (λ (u : List ℕ). join_w u sh b p) w
    ∙ join_by (writes own sh hs) sh b e p
    (q ∙ sym (load_off own sh (head b head_first_entry) hs (refl, (refl, (refl, (refl, tt)))) ∙ load_off ws sh (head b head_first_entry) (own_p e p f g) (refl, (refl, (refl, tt)))))
    x (i ∙ sym (load_off own sh (head b head_first_empty) hs (refl, (refl, (refl, (refl, tt)))) ∙ load_off ws sh (head b head_first_empty) (own_p e p f g) (refl, (refl, (refl, tt)))))
    ∙ ap (λ (u : List ℕ). save u sh (head b head_first_empty) (up p)) (linked_last sh hs o own e p x)

-- `join_page`, by the head
pub joined_by : (ws : List ℕ) (sh : Shape) (b p f : ℕ) (h : TableHead) → p < 4294967296 → h ≡ head_at (load ws sh) b
    → joined_w ws sh b p f
    ≡ writes (linked_w (writes (writes (built_w ws sh f p (fresh_from (load ws sh) h p) h.first_free) sh
    (slot_p (link_from (load ws sh) h h.first_free) h.first_free slot_previous_free (p * page_size + 1))) sh
    (own_p h.entry p f (fresh_from (load ws sh) h p))) sh h.entry p h.first_empty) sh
    (pages_p b (empty_by (drawn_by (attached_by h p) (detached_from (load ws sh) h p)) (up p)))
unfolding joined_w head_at
joined_by ws sh b p f h l e =
    let k : min p number32_max ≡ p = omega arith in
    let m : Mem = load ws sh in
    let u : List ℕ = built_w ws sh f p (fresh m b p) (m (head b head_first_free)) in
    let v : List ℕ = writes u sh (slot_p (link_frame m b (m (head b head_first_free))) (m (head b head_first_free)) slot_previous_free (p * page_size + 1)) in
    let keeps : (i : ℕ) → m (head b i) ≡ load v sh (head b i)
    = λ (i : ℕ). sym (slot_keeps sh (head b i) u (link_frame m b (m (head b head_first_free))) (m (head b head_first_free)) slot_previous_free (p * page_size + 1) (λ y z w. (refl, tt)) ∙ built_keeps ws sh b i f p (fresh m b p) (m (head b head_first_free))) in
    rw (e, k, fresh_of, detached_of, link_of)
    (joined_last v sh b p f (fresh m b p) (m (head b head_first_entry)) (m (head b head_first_empty)) (p * page_size + slots_of till p) (min (m (head b head_free_slots)) slots_max + slots_of till p) (size_with m b p) (detached_with m b p) (keeps head_first_entry) (keeps head_first_empty))
