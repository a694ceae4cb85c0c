-- One table as a memory shows it: words of its head, of its pages and of its slots, whatever frames these stand in; and what a store through it changes. Assumes nothing.
use Rattle.std.specs.Prelude.{◌≡◌, Bool, true, false, ◌&&◌, ◌⊎◌, List, [], ◌∷◌, length, ltb}
use Rattle.std.proofs.Math.Path.{refl, sym, ap, fun_ext}
use Rattle.std.proofs.Common.{◌∙◌, inl, inr, ⊎_elim, mod-lt, eq-eqb, ne_eqb, eqb-true, ltb-true}
use Rattle.std.proofs.Math.Bool.{and-false, and-true}
use Prim.Native.Nat.{ℕ, zero, suc, ◌+◌, ◌/◌, ◌%◌, ◌≤◌, ◌<◌}
use native.Mathlib.Omega.{arith}
use Rattle.std.proofs.Math.Dec.{eqb}
use Rattle.words.specs.Pick.{pick, bool, clash, both}
use Rattle.model.specs.State.{max_slots}
use Rattle.layout.specs.declared.Shape.{Shape}
use Rattle.layout.specs.Layout.{Addr, Addr.reg, Mem, total, head, entry, cell, load, same, same_is, in_head, in_entry, in_cell_law, Write, Write.at, writes, upd, upds, InAll, load_writes, length_writes}
use Rattle.layout.specs.Fields.{head_pages, head_first_free, head_first_empty, head_first_entry, entry_frame, entry_high}
use Rattle.layout.specs.Sizes.{page_size, entry_size, slot_size}
use Rattle.layout.specs.RegionNames.{region_head, region_entry, region_cell}
use Rattle.representation.specs.Represents.{entry_at, word_in, frame_of, slot_word}

-- a word of a table: field f of its head, of its page p, of its slot k
pub data Spot : Type 0 where
  hd : ℕ → Spot
  pg : ℕ → ℕ → Spot
  sl : ℕ → ℕ → Spot

-- what table b shows
unfoldable pub look : Mem → ℕ → Spot → ℕ
look m b (hd f) = m (head b f)
look m b (pg p f) = m (entry (entry_at m b p) f)
look m b (sl k f) = slot_word m b k f

-- a store into a table: into the head, or through a link into a page or a slot; through the link 0 none
pub data Put : Type 0 where
  to_head : ℕ → ℕ → Put
  to_page : ℕ → ℕ → ℕ → Put
  to_slot : ℕ → ℕ → ℕ → Put

-- what it shows then
abbrev pub put₁ : (Spot → ℕ) → Put → Spot → ℕ
put₁ v (to_head f x) (hd g) = pick (eqb g f) x (v (hd g))
put₁ v (to_head f x) (pg p g) = v (pg p g)
put₁ v (to_head f x) (sl k g) = v (sl k g)
put₁ v (to_page l f x) (hd g) = v (hd g)
put₁ v (to_page l f x) (pg p g) = pick (eqb g f && eqb l (suc p)) x (v (pg p g))
put₁ v (to_page l f x) (sl k g) = v (sl k g)
put₁ v (to_slot l f x) (hd g) = v (hd g)
put₁ v (to_slot l f x) (pg p g) = v (pg p g)
put₁ v (to_slot l f x) (sl k g) = pick (eqb g f && eqb l (suc k)) x (v (sl k g))

abbrev pub puts : (Spot → ℕ) → List Put → Spot → ℕ
puts v [] = v
puts v (x ∷ xs) = puts (put₁ v x) xs

-- ---- the stores in the memory

-- into slot j of a frame, given as a link
abbrev pub cell_p : ℕ → ℕ → ℕ → ℕ → List Write
cell_p zero j f x = []
cell_p (suc fr) j f x = at (cell fr j f) x ∷ []

-- into the slot of a link, which stands in the frame of the link fr
abbrev pub slot_p : ℕ → ℕ → ℕ → ℕ → List Write
slot_p fr zero f x = []
slot_p fr (suc k) f x = cell_p fr (k % page_size) f x

-- into the page of a link, by the number of the table's first entry
abbrev pub page_p : ℕ → ℕ → ℕ → ℕ → List Write
page_p e zero f x = []
page_p e (suc p) f x = at (entry (e + p) f) x ∷ []

-- the frame of a link's slot, as a link
abbrev pub link_frame : Mem → ℕ → ℕ → ℕ
link_frame m b zero = 0
link_frame m b (suc k) = frame_of m b k

abbrev pub real : Mem → ℕ → Put → List Write
real m b (to_head f x) = at (head b f) x ∷ []
real m b (to_page l f x) = page_p (m (head b head_first_entry)) l f x
real m b (to_slot l f x) = slot_p (link_frame m b l) l f x

abbrev pub reals : Mem → ℕ → List Put → List (List Write)
reals m b [] = []
reals m b (x ∷ xs) = real m b x ∷ reals m b xs

-- plans one after the other
abbrev pub writes_all : List ℕ → Shape → List (List Write) → List ℕ
writes_all ws sh [] = ws
writes_all ws sh (p ∷ ps) = writes_all (writes ws sh p) sh ps

abbrev pub upds_all : Mem → List (List Write) → Mem
upds_all m [] = m
upds_all m (p ∷ ps) = upds_all (upds m p) ps

abbrev pub InEach : Shape → List (List Write) → Type 0
InEach sh [] = Unit {0}
InEach sh (p ∷ ps) = InAll sh p × InEach sh ps

pub length_all : (ws : List ℕ) (sh : Shape) (ps : List (List Write)) → length (writes_all ws sh ps) ≡ length ws
length_all ws sh [] = refl
length_all ws sh (p ∷ ps) = length_all (writes ws sh p) sh ps ∙ length_writes ws sh p

pub load_all : (ws : List ℕ) (sh : Shape) → total sh ≤ length ws → (ps : List (List Write)) → InEach sh ps → load (writes_all ws sh ps) sh ≡ upds_all (load ws sh) ps
load_all ws sh h [] c = refl
load_all ws sh h (p ∷ ps) c =
    load_all (writes ws sh p) sh (omega (arith, length_writes ws sh p)) ps c.1
    ∙ ap (λ (m : Mem). upds_all m ps) (load_writes ws sh h p c.0)

-- ---- a table in its place

-- what says where the slots and pages of table b stand: each page has a frame of its own, and all is in range
pub record Fit (sh : Shape) (m : Mem) (b : ℕ) : Type 0 where
  pub table : b < sh.tables
  pub pages : m (head b head_first_entry) + m (head b head_pages) ≤ sh.pages
  pub frames : (p fr : ℕ) → p < m (head b head_pages) → m (entry (entry_at m b p) entry_frame) ≡ suc fr → fr < sh.frames
  pub own : (p q fr : ℕ) → p < m (head b head_pages) → q < m (head b head_pages) → m (entry (entry_at m b p) entry_frame) ≡ suc fr → m (entry (entry_at m b q) entry_frame) ≡ suc fr → p ≡ q

-- memories that put the table in the same place
pub record Still (m n : Mem) (b : ℕ) : Type 0 where
  pub size : n (head b head_pages) ≡ m (head b head_pages)
  pub first : n (head b head_first_entry) ≡ m (head b head_first_entry)
  pub frame : (e : ℕ) → n (entry e entry_frame) ≡ m (entry e entry_frame)

-- the addresses of table b that these stores may change: the orders' heads and the free count, marks, counts and links of its pages, and slots in its frames
abbrev pub Foot : Mem → ℕ → Addr → Type 0
Foot m b (reg k x y f) =
    ((k ≡ region_head) × (x ≡ b) × (head_first_free ≤ f) × (f ≤ head_first_empty))
    ⊎ ((k ≡ region_entry) × (m (head b head_first_entry) ≤ x) × (x < m (head b head_first_entry) + m (head b head_pages)) × (entry_high ≤ f))
    ⊎ ((k ≡ region_cell) × ((p : ℕ) × (p < m (head b head_pages)) × (m (entry (entry_at m b p) entry_frame) ≡ suc x)))

-- ONLY TABLE b: every other address keeps its word
abbrev pub OnlyTable : ℕ → Mem → Mem → Type 0
OnlyTable b m n = (a : Addr) → (Foot m b a → ⊥) → n a ≡ m a

-- a store that may be made
abbrev pub Can : Mem → ℕ → Put → Type 0
Can m b (to_head f x) = (head_first_free ≤ f) × (f ≤ head_first_empty)
Can m b (to_page l f x) = (entry_high ≤ f) × (f < entry_size) × ((p : ℕ) → l ≡ suc p → p < m (head b head_pages))
Can m b (to_slot l f x) = (f < slot_size) × ((k : ℕ) → l ≡ suc k → 0 < frame_of m b k)

abbrev pub CanAll : Mem → ℕ → List Put → Type 0
CanAll m b [] = Unit {0}
CanAll m b (x ∷ xs) = Can m b x × CanAll m b xs

-- ---- laws

iff : (a b : Bool) → (a ≡ true → b ≡ true) → (b ≡ true → a ≡ true) → a ≡ b
iff true b p q = sym (p refl)
iff false b p q = bool b (λ e. clash (q e) refl) (λ e. sym e)

pick_suc : (c : Bool) (x n : ℕ) → pick c x 0 ≡ suc n → (c ≡ true) × (x ≡ suc n)
pick_suc true x n e = (refl, e)
pick_suc false x n e = absurd (omega arith)

-- a slot with a frame
pub frame_is : (m : Mem) (b k fr : ℕ) → frame_of m b k ≡ suc fr → (k < max_slots) × (k / page_size < m (head b head_pages)) × (m (entry (entry_at m b (k / page_size)) entry_frame) ≡ suc fr)
frame_is m b k fr e =
    let u = pick_suc (ltb k max_slots) (pick (ltb (k / page_size) (m (head b head_pages))) (m (entry (entry_at m b (k / page_size)) entry_frame)) 0) fr e in
    let w = pick_suc (ltb (k / page_size) (m (head b head_pages))) (m (entry (entry_at m b (k / page_size)) entry_frame)) fr u.1 in
    (ltb-true k max_slots u.0, ltb-true (k / page_size) (m (head b head_pages)) w.0, w.1)

-- the outside of a table's foot has its place
pub still_only : (b : ℕ) (m n : Mem) → OnlyTable b m n → Still m n b
still_only b m n o = record {
  size = o (head b head_pages) (⊎_elim (λ i. omega arith) (⊎_elim (λ i. omega arith) (λ i. omega arith)));
  first = o (head b head_first_entry) (⊎_elim (λ i. omega arith) (⊎_elim (λ i. omega arith) (λ i. omega arith)));
  frame = λ e. o (entry e entry_frame) (⊎_elim (λ i. omega arith) (⊎_elim (λ i. omega arith) (λ i. omega arith)));
}

pub still_frame : (b : ℕ) (m n : Mem) → Still m n b → (k : ℕ) → frame_of n b k ≡ frame_of m b k
still_frame b m n s k = rw (s.size, s.first, s.frame (m (head b head_first_entry) + k / page_size))

pub still_fit : (sh : Shape) (b : ℕ) (m n : Mem) → Still m n b → Fit sh m b → Fit sh n b
still_fit sh b m n s f = record {
  table = f.table;
  pages = rw (s.size, s.first) f.pages;
  frames = λ p fr h e. f.frames p fr (rw s.size at h) (rw (s.first, s.frame (m (head b head_first_entry) + p)) at e);
  own = λ p q fr h i d e. f.own p q fr (rw s.size at h) (rw s.size at i) (rw (s.first, s.frame (m (head b head_first_entry) + p)) at d) (rw (s.first, s.frame (m (head b head_first_entry) + q)) at e);
}

-- a store at one address does not show at another
upd_off : (P : Addr → Type 0) (n : Mem) (a c : Addr) (v : ℕ) → P a → (P c → ⊥) → upd n (at a v) c ≡ n c
upd_off P n a c v p h = bool (same a c) (λ e. absurd (h (rw (same_is a c e) p))) (λ e. rw e)

eqb_add : (e p q : ℕ) → eqb (e + p) (e + q) ≡ eqb (suc q) (suc p)
eqb_add e p q = iff (eqb (e + p) (e + q)) (eqb (suc q) (suc p))
    (λ t. eq-eqb (suc q) (suc p) (omega (arith, eqb-true (e + p) (e + q) t)))
    (λ t. eq-eqb (e + p) (e + q) (omega (arith, eqb-true (suc q) (suc p) t)))

zero_not : (g f p : ℕ) → (eqb g f && eqb 0 (suc p)) ≡ false
zero_not g f p = rw (ne_eqb 0 (suc p) (λ e. omega arith), and-false (eqb g f))

word_head : (n : Mem) (b f v fr j g : ℕ) → word_in (upd n (at (head b f) v)) fr j g ≡ word_in n fr j g
word_head n b f v zero j g = refl
word_head n b f v (suc fr) j g = refl

word_entry : (n : Mem) (e f v fr j g : ℕ) → word_in (upd n (at (entry e f) v)) fr j g ≡ word_in n fr j g
word_entry n e f v zero j g = refl
word_entry n e f v (suc fr) j g = refl

page_shows : (n : Mem) (b e p g : ℕ) → n (head b head_first_entry) ≡ e → look n b (pg p g) ≡ n (entry (e + p) g)
unfolding look
page_shows n b e p g q = ap (λ (i : ℕ). n (entry (i + p) g)) q

slot_shows : (n : Mem) (b k g fr : ℕ) → frame_of n b k ≡ fr → look n b (sl k g) ≡ word_in n fr (k % page_size) g
unfolding look
slot_shows n b k g fr q = ap (λ (i : ℕ). word_in n i (k % page_size) g) q

module _ (sh : Shape) (m : Mem) (b : ℕ) (fit : Fit sh m b) where
  -- two slots of the table in one place of one frame are one
  same_cell : (q k fr fr' : ℕ) → frame_of m b q ≡ suc fr → frame_of m b k ≡ suc fr' → (eqb (k % page_size) (q % page_size) && eqb fr' fr) ≡ eqb (suc q) (suc k)
  same_cell q k fr fr' e d = iff (eqb (k % page_size) (q % page_size) && eqb fr' fr) (eqb (suc q) (suc k))
      (λ t. let u = both (eqb (k % page_size) (q % page_size)) (eqb fr' fr) t in
      let i = frame_is m b q fr e in let j = frame_is m b k fr' d in
      let o : k / page_size ≡ q / page_size = fit.own (k / page_size) (q / page_size) fr j.1 i.1 (j.2 ∙ ap suc (eqb-true fr' fr u.1)) i.2 in
      eq-eqb (suc q) (suc k) (omega (arith, eqb-true (k % page_size) (q % page_size) u.0)))
      (λ t. let z : q ≡ k = omega (arith, eqb-true (suc q) (suc k) t) in
      let y : fr' ≡ fr = omega (arith, e, d, ap (frame_of m b) z) in
      rw (eq-eqb (k % page_size) (q % page_size) (ap (λ (x : ℕ). x % page_size) (sym z)), eq-eqb fr' fr y))

  module _ (n : Mem) (only : OnlyTable b m n) where
    -- a store that may be made keeps to the table
    pub put_only : (x : Put) → Can m b x → OnlyTable b m (upds n (real m b x))
    put_only (to_head f v) c a h = upd_off (Foot m b) n (head b f) a v (inl (refl, refl, c.0, c.1)) h ∙ only a h
    put_only (to_page zero f v) c a h = only a h
    put_only (to_page (suc p) f v) c a h =
        let i = c.2 p refl in
        upd_off (Foot m b) n (entry (m (head b head_first_entry) + p) f) a v (inr (inl (refl, omega arith, omega arith, c.0))) h ∙ only a h
    put_only (to_slot zero f v) c a h = only a h
    put_only (to_slot (suc k) f v) c a h = go (frame_of m b k) refl
      where
        go : (fr : ℕ) → frame_of m b k ≡ fr → upds n (cell_p fr (k % page_size) f v) a ≡ m a
        go zero e = only a h
        go (suc fr) e = let i = frame_is m b k fr e in
            upd_off (Foot m b) n (cell fr (k % page_size) f) a v (inr (inr (refl, (k / page_size, i.1, i.2)))) h ∙ only a h

    pub put_in : (x : Put) → Can m b x → InAll sh (real m b x)
    put_in (to_head f v) c = (in_head sh b f fit.table (omega arith), tt)
    put_in (to_page zero f v) c = tt
    put_in (to_page (suc p) f v) c = let i = c.2 p refl in (in_entry sh (m (head b head_first_entry) + p) f (omega (arith, fit.pages)) c.1, tt)
    put_in (to_slot zero f v) c = tt
    put_in (to_slot (suc k) f v) c = go (frame_of m b k) refl
      where
        go : (fr : ℕ) → frame_of m b k ≡ fr → InAll sh (cell_p fr (k % page_size) f v)
        go zero e = tt
        go (suc fr) e = let i = frame_is m b k fr e in (in_cell_law sh fr (k % page_size) f (fit.frames (k / page_size) fr i.1 i.2) (mod-lt k {m = page_size} (omega arith)) c.0, tt)

    -- and shows in it as it should
    pub put_shows : (x : Put) → Can m b x → (c : Spot) → look (upds n (real m b x)) b c ≡ put₁ (look n b) x c
    unfolding look
    put_shows (to_head f v) can (hd g) = rw (eq-eqb b b refl, and-true (eqb g f))
    put_shows (to_head f v) can (pg p g) =
        let n' : Mem = upd n (at (head b f) v) in
        let s' : Still m n' b = still_only b m n' (put_only (to_head f v) can) in
        page_shows n' b (m (head b head_first_entry)) p g s'.first ∙ sym (page_shows n b (m (head b head_first_entry)) p g (still_only b m n only).first)
    put_shows (to_head f v) can (sl k g) =
        let n' : Mem = upd n (at (head b f) v) in
        let s' : Still m n' b = still_only b m n' (put_only (to_head f v) can) in
        slot_shows n' b k g (frame_of m b k) (still_frame b m n' s' k) ∙ word_head n b f v (frame_of m b k) (k % page_size) g
        ∙ sym (slot_shows n b k g (frame_of m b k) (still_frame b m n (still_only b m n only) k))
    put_shows (to_page zero f v) can (hd g) = refl
    put_shows (to_page zero f v) can (pg p g) = rw (zero_not g f p)
    put_shows (to_page zero f v) can (sl k g) = refl
    put_shows (to_page (suc q) f v) can (hd g) = refl
    put_shows (to_page (suc q) f v) can (pg p g) =
        let e : ℕ = m (head b head_first_entry) in
        let n' : Mem = upd n (at (entry (e + q) f) v) in
        let s' : Still m n' b = still_only b m n' (put_only (to_page (suc q) f v) can) in
        let r : look n b (pg p g) ≡ n (entry (e + p) g) = page_shows n b e p g (still_only b m n only).first in
        page_shows n' b e p g s'.first ∙ ap (λ (t : Bool). pick (eqb g f && t) v (n (entry (e + p) g))) (eqb_add e p q)
        ∙ ap (λ (w : ℕ). pick (eqb g f && eqb (suc q) (suc p)) v w) (sym r)
    put_shows (to_page (suc q) f v) can (sl k g) =
        let n' : Mem = upd n (at (entry (m (head b head_first_entry) + q) f) v) in
        let s' : Still m n' b = still_only b m n' (put_only (to_page (suc q) f v) can) in
        slot_shows n' b k g (frame_of m b k) (still_frame b m n' s' k) ∙ word_entry n (m (head b head_first_entry) + q) f v (frame_of m b k) (k % page_size) g
        ∙ sym (slot_shows n b k g (frame_of m b k) (still_frame b m n (still_only b m n only) k))
    put_shows (to_slot zero f v) can (hd g) = refl
    put_shows (to_slot zero f v) can (pg p g) = refl
    put_shows (to_slot zero f v) can (sl k g) = rw (zero_not g f k)
    put_shows (to_slot (suc q) f v) can (hd g) = go (frame_of m b q)
      where
        go : (fr : ℕ) → upds n (cell_p fr (q % page_size) f v) (head b g) ≡ n (head b g)
        go zero = refl
        go (suc fr) = refl
    put_shows (to_slot (suc q) f v) can (pg p g) = go (frame_of m b q)
      where
        go : (fr : ℕ) → upds n (cell_p fr (q % page_size) f v) (entry (entry_at (upds n (cell_p fr (q % page_size) f v)) b p) g) ≡ n (entry (entry_at n b p) g)
        go zero = refl
        go (suc fr) = refl
    put_shows (to_slot (suc q) f v) can (sl k g) =
        let n' : Mem = upds n (cell_p (frame_of m b q) (q % page_size) f v) in
        let s' : Still m n' b = still_only b m n' (put_only (to_slot (suc q) f v) can) in
        let r : look n b (sl k g) ≡ word_in n (frame_of m b k) (k % page_size) g = slot_shows n b k g (frame_of m b k) (still_frame b m n (still_only b m n only) k) in
        slot_shows n' b k g (frame_of m b k) (still_frame b m n' s' k) ∙ go (frame_of m b q) (frame_of m b k) refl refl (can.1 q refl)
        ∙ ap (λ (w : ℕ). pick (eqb g f && eqb (suc q) (suc k)) v w) (sym r)
      where
        go : (fr fr' : ℕ) → frame_of m b q ≡ fr → frame_of m b k ≡ fr' → 0 < fr
            → word_in (upds n (cell_p fr (q % page_size) f v)) fr' (k % page_size) g ≡ pick (eqb g f && eqb (suc q) (suc k)) v (word_in n fr' (k % page_size) g)
        go zero fr' e d h = absurd (omega arith)
        go (suc fr) zero e d h =
            let ne : suc q ≡ suc k → ⊥ = λ z. let y : q ≡ k = omega arith in omega (arith, e, d, ap (frame_of m b) y) in
            rw (ne_eqb (suc q) (suc k) ne, and-false (eqb g f))
        go (suc fr) (suc fr') e d h = ap (λ (t : Bool). pick (eqb g f && t) v (n (cell fr' (k % page_size) g))) (same_cell q k fr fr' e d)

  -- a plan
  pub puts_only : (xs : List Put) (n : Mem) → OnlyTable b m n → CanAll m b xs → OnlyTable b m (upds_all n (reals m b xs))
  puts_only [] n o c = o
  puts_only (x ∷ xs) n o c = puts_only xs (upds n (real m b x)) (put_only n o x c.0) c.1

  pub puts_in : (xs : List Put) → CanAll m b xs → InEach sh (reals m b xs)
  puts_in [] c = tt
  puts_in (x ∷ xs) c = (put_in m (λ a h. refl) x c.0, puts_in xs c.1)

  pub puts_show : (xs : List Put) (n : Mem) → OnlyTable b m n → CanAll m b xs → look (upds_all n (reals m b xs)) b ≡ puts (look n b) xs
  puts_show [] n o c = refl
  puts_show (x ∷ xs) n o c = puts_show xs (upds n (real m b x)) (put_only n o x c.0) c.1
      ∙ ap (λ (v : Spot → ℕ). puts v xs) (fun_ext (put_shows n o x c.0))

-- ---- one after the other

pub foot_still : (b : ℕ) (m n : Mem) → Still m n b → (a : Addr) → Foot n b a → Foot m b a
foot_still b m n s (reg k x y f) =
    ⊎_elim
    (λ i. inl i)
    (⊎_elim
    (λ i. inr (inl (i.0, omega (arith, i.1, s.first), omega (arith, i.2, s.first, s.size), i.3)))
    (λ i. inr (inr (i.0, (i.1.0, rw s.size at i.1.1, rw (s.first, s.frame (m (head b head_first_entry) + i.1.0)) at i.1.2)))))

pub only_then : (b : ℕ) (m n l : Mem) → OnlyTable b m n → OnlyTable b n l → OnlyTable b m l
only_then b m n l o p a h = p a (λ i. h (foot_still b m n (still_only b m n o) a i)) ∙ o a h

-- words that differ from others in table b only, and show it so
pub record Moves (ws ws' : List ℕ) (sh : Shape) (b : ℕ) (v : Spot → ℕ) : Type 0 where
  pub long : length ws' ≡ length ws
  pub only : OnlyTable b (load ws sh) (load ws' sh)
  pub shows : look (load ws' sh) b ≡ v

-- a plan, by what the table shows
pub moves : (ws : List ℕ) (sh : Shape) (b : ℕ) (v : Spot → ℕ) (plan : (Spot → ℕ) → List Put) → total sh ≤ length ws → Fit sh (load ws sh) b → look (load ws sh) b ≡ v
    → CanAll (load ws sh) b (plan v) → Moves ws (writes_all ws sh (reals (load ws sh) b (plan (look (load ws sh) b)))) sh b (puts v (plan v))
moves ws sh b v plan h fit e c =
    let c' : CanAll (load ws sh) b (plan (look (load ws sh) b)) = rw e c in
    let l = load_all ws sh h (reals (load ws sh) b (plan (look (load ws sh) b))) (puts_in sh (load ws sh) b fit (plan (look (load ws sh) b)) c') in
    record {
      long = length_all ws sh (reals (load ws sh) b (plan (look (load ws sh) b)));
      only = rw l (puts_only sh (load ws sh) b fit (plan (look (load ws sh) b)) (load ws sh) (λ a i. refl) c');
      shows = ap (λ (n : Mem). look n b) l ∙ puts_show sh (load ws sh) b fit (plan (look (load ws sh) b)) (load ws sh) (λ a i. refl) c'
          ∙ ap (λ (w : Spot → ℕ). puts w (plan w)) e;
    }

pub moves_then : (ws ws₁ ws₂ : List ℕ) (sh : Shape) (b : ℕ) (v₁ v₂ : Spot → ℕ) → Moves ws ws₁ sh b v₁ → Moves ws₁ ws₂ sh b v₂ → Moves ws ws₂ sh b v₂
moves_then ws ws₁ ws₂ sh b v₁ v₂ p q = record {
  long = q.long ∙ p.long;
  only = only_then b (load ws sh) (load ws₁ sh) (load ws₂ sh) p.only q.only;
  shows = q.shows;
}

pub moves_fit : (ws ws₁ : List ℕ) (sh : Shape) (b : ℕ) (v : Spot → ℕ) → Moves ws ws₁ sh b v → Fit sh (load ws sh) b → Fit sh (load ws₁ sh) b
moves_fit ws ws₁ sh b v p f = still_fit sh b (load ws sh) (load ws₁ sh) (still_only b (load ws sh) (load ws₁ sh) p.only) f

pub moves_size : (ws ws₁ : List ℕ) (sh : Shape) (b : ℕ) (v : Spot → ℕ) → Moves ws ws₁ sh b v → load ws₁ sh (head b head_pages) ≡ load ws sh (head b head_pages)
moves_size ws ws₁ sh b v p = (still_only b (load ws sh) (load ws₁ sh) p.only).size
