-- The check's first part in two: the outline, and the slots of each attached page. Assumes nothing.
use Rattle.std.specs.Prelude.{◌≡◌, false, ◌&&◌, ltb}
use Rattle.std.proofs.Math.Path.{refl, sym, ap}
use Rattle.std.proofs.Common.{◌∙◌, arith}
use Rattle.std.proofs.Math.Bool.{Bool, true}
use Prim.Native.Nat.{ℕ, zero, suc, ◌+◌, ◌<◌}
use Rattle.std.proofs.Math.Dec.{eqb, leb}
use borrow.Author.Tests.{eqb-true, ltb-true, le-ltb}
use Rattle.words.specs.Pick.{bool, both}
use Rattle.words.specs.All.{all, all_at, all_same}
use Rattle.model.specs.State.{till}
use Rattle.model.specs.Storage.{slots_of}
use Rattle.codec.specs.Codec.{generation_limit}
use Rattle.layout.specs.declared.Shape.{Shape}
use Rattle.layout.specs.Layout.{Mem, head, entry, owner, cell}
use Rattle.layout.specs.Cells.{cell_at}
use Rattle.layout.specs.Fields.{head_lifecycle, head_pages, entry_frame, entry_high, entry_busy, slot_object}
use Rattle.layout.specs.Values.{life_retired}
use Rattle.structure.specs.Facts.{limits_to, HeadIs}
use Rattle.structure.specs.Checks.{head_b, handle_b, slot_b, slots_b, frame_b, page_b, pages_b, table_b, tables_b, frames_b, structure_b, bound_of, handle_c, slot_c, link_b, entry_b, entries_b, span_b, spans_b, outline_b, head_is}

-- ---- tests in another order

pub and_assoc : (a b c : Bool) → ((a && b) && c) ≡ (a && (b && c))
and_assoc true b c = refl
and_assoc false b c = refl

pub and_swap : (a b c : Bool) → ((a && b) && c) ≡ ((a && c) && b)
and_swap true true true = refl
and_swap true true false = refl
and_swap true false true = refl
and_swap true false false = refl
and_swap false b c = refl

and_four : (a b c d : Bool) → ((a && b) && (c && d)) ≡ ((a && c) && (b && d))
and_four true true c d = refl
and_four true false true d = refl
and_four true false false d = refl
and_four false b c d = refl

-- both tests of every number
pub all_both : (n : ℕ) (p q : ℕ → Bool) → all n (λ k. p k && q k) ≡ (all n p && all n q)
unfolding all
all_both zero p q = refl
all_both (suc n) p q = ap (λ (b : Bool). b && (p n && q n)) (all_both n p q) ∙ and_four (all n p) (all n q) (p n) (q n)

-- ---- the slots

-- a slot's words tell
pub slot_by : (m : Mem) (O life high f j : ℕ) → slot_c (bound_of O life) high (cell_at m f j) ≡ slot_b m O life high f j
unfolding slot_c handle_c slot_b handle_b
slot_by m O life high f j = bool (eqb life life_retired) (λ e. rw (e, le-ltb (m (cell f j slot_object)) 0 (omega arith))) (λ e. rw e)

-- the slots of the page of entry e, whose frame is given as a link
unfoldable pub slots_on : Mem → Shape → ℕ → ℕ → ℕ → ℕ → Bool
slots_on m sh life e n zero = true
slots_on m sh life e n (suc f) = slots_b m sh.objects life (m (entry e entry_high)) f n (m (entry e entry_busy))

module _ (m : Mem) (sh : Shape) where
  -- of page p of table b
  abbrev pub slots_at : ℕ → ℕ → Bool
  slots_at b p = slots_on m sh (m (head b head_lifecycle)) (limits_to m b + p) (slots_of till p) (m (entry (limits_to m b + p) entry_frame))

  abbrev pub slots_in : ℕ → Bool
  slots_in b = all (m (head b head_pages)) (slots_at b)

  link_split : (life e n l : ℕ) → frame_b m sh life e n l ≡ (link_b m sh e l && slots_on m sh life e n l)
  unfolding frame_b link_b slots_on
  link_split life e n zero = refl
  link_split life e n (suc f) = sym (and_assoc (ltb f sh.frames) (eqb (m (owner f)) (suc e)) (slots_b m sh.objects life (m (entry e entry_high)) f n (m (entry e entry_busy))))

  page_split : (life e n : ℕ) → page_b m sh life e n ≡ (entry_b m sh e && slots_on m sh life e n (m (entry e entry_frame)))
  unfolding page_b entry_b
  page_split life e n =
      let a : Bool = leb 1 (m (entry e entry_high)) in let b : Bool = leb (m (entry e entry_high)) generation_limit in
      let l : Bool = link_b m sh e (m (entry e entry_frame)) in let s : Bool = slots_on m sh life e n (m (entry e entry_frame)) in
      ap (λ (x : Bool). a && (b && x)) (link_split life e n (m (entry e entry_frame))) ∙ ap (λ (x : Bool). a && x) (sym (and_assoc b l s)) ∙ sym (and_assoc a (b && l) s)

  table_split : (b : ℕ) → table_b m sh b (limits_to m b) ≡ (span_b m sh b (limits_to m b) && slots_in b)
  unfolding table_b span_b pages_b entries_b
  table_split b = let e : ℕ = limits_to m b in let n : ℕ = m (head b head_pages) in
      ap (λ (x : Bool). head_b m b e && x) (all_same n _ _ (λ p h. page_split (m (head b head_lifecycle)) (e + p) (slots_of till p)) ∙ all_both n (λ p. entry_b m sh (e + p)) (slots_at b))
      ∙ sym (and_assoc (head_b m b e) (all n (λ p. entry_b m sh (e + p))) (slots_in b))

  -- THE FIRST PART IN TWO
  pub structure_split : (held : ℕ) → structure_b m sh held ≡ (outline_b m sh held && all sh.tables slots_in)
  unfolding structure_b outline_b tables_b spans_b
  structure_split held =
      let s : Bool = all sh.tables (λ b. span_b m sh b (limits_to m b)) in let t : Bool = all sh.tables slots_in in let e : Bool = eqb (limits_to m sh.tables) sh.pages in
      ap (λ (x : Bool). (x && e) && frames_b m sh held) (all_same sh.tables _ _ (λ b h. table_split b) ∙ all_both sh.tables (λ b. span_b m sh b (limits_to m b)) slots_in)
      ∙ ap (λ (x : Bool). x && frames_b m sh held) (and_swap s t e) ∙ and_swap (s && e) t (frames_b m sh held)

  -- ---- what an outline that passes says

  module _ (held : ℕ) (y : outline_b m sh held ≡ true) where
    spans : (all sh.tables (λ c. span_b m sh c (limits_to m c)) ≡ true) × (eqb (limits_to m sh.tables) sh.pages ≡ true)
    unfolding outline_b spans_b
    spans = both (all sh.tables (λ c. span_b m sh c (limits_to m c))) (eqb (limits_to m sh.tables) sh.pages) (both (spans_b m sh) (frames_b m sh held) y).0

    parts : (b : ℕ) → b < sh.tables → (head_b m b (limits_to m b) ≡ true) × (entries_b m sh (limits_to m b) (m (head b head_pages)) ≡ true)
    unfolding span_b
    parts b h = both (head_b m b (limits_to m b)) (entries_b m sh (limits_to m b) (m (head b head_pages))) (all_at sh.tables (λ c. span_b m sh c (limits_to m c)) spans.0 b h)

    pub outline_entries : limits_to m sh.tables ≡ sh.pages
    outline_entries = eqb-true (limits_to m sh.tables) sh.pages spans.1

    pub outline_head : (b : ℕ) → b < sh.tables → HeadIs m b (limits_to m b)
    outline_head b h = head_is m b (limits_to m b) (parts b h).0

    pub outline_link : (b p f : ℕ) → b < sh.tables → p < m (head b head_pages) → m (entry (limits_to m b + p) entry_frame) ≡ suc f → f < sh.frames
    unfolding entries_b entry_b link_b
    outline_link b p f h l q =
        let a = all_at (m (head b head_pages)) (λ k. entry_b m sh (limits_to m b + k)) (parts b h).1 p l in
        let e : ℕ = limits_to m b + p in
        let g = both (leb (m (entry e entry_high)) generation_limit) (link_b m sh e (m (entry e entry_frame))) (both (leb 1 (m (entry e entry_high))) (leb (m (entry e entry_high)) generation_limit && link_b m sh e (m (entry e entry_frame))) a).1 in
        let t : link_b m sh e (suc f) ≡ true = rw q at g.1 in
        ltb-true f sh.frames (both (ltb f sh.frames) (eqb (m (owner f)) (suc e)) t).0
