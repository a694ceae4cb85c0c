-- `get_info` over words is the model's step. Assumes nothing.
use Rattle.std.proofs.Math.Path.{◌≡◌, refl, sym, ap}
use Rattle.std.proofs.Common.{◌∙◌, arith}
use Rattle.std.specs.Prelude.{false, List, ◌∷◌, eqb, ltb, Option, Some, None}
use Rattle.std.proofs.Math.Option.{none, some}
use Prim.Native.Nat.{ℕ, ◌<◌}
use borrow.Author.Tests.{eqb-true, eq-eqb}
use Rattle.words.specs.Pick.{bool, clash}
use Rattle.codec.specs.declared.Decoded.{Decoded}
use Rattle.codec.specs.Codec.{decodes, slot_in as slot_named, decode_of}
use Rattle.model.specs.State.{till, Handle, Slot.transfer_reserved, Table, State}
use Rattle.model.specs.Objects.{info_for}
use Rattle.model.specs.Request.{Request.get_info, Answer.info_of}
use Rattle.model.specs.Decision.{Decision, Decision.refusal, Decision.accept, given◌refuse◌then◌}
use Rattle.model.specs.Lookup.{look_at}
use Rattle.model.proofs.Decided.{on_looked}
use Rattle.model.specs.Step.{get_info_of, decide}
use Rattle.model.specs.Words.{used_words}
use Rattle.layout.specs.declared.Shape.{Shape}
use Rattle.layout.specs.Layout.{Mem, head, row, load}
use Rattle.layout.specs.Fields.{head_mask, head_lifecycle, slot_tag, slot_generation, slot_place, row_id}
use Rattle.layout.specs.Values.{tag_occupied, tag_transfer_reserved, life_active}
use Rattle.representation.specs.Represents.{slot_word, TableIs, Rep}
use Rattle.answer.specs.Does.{both, answered, refuse_r, Does, does_refused, does_accepted}
use Rattle.lookup.specs.declared.PreparedHandle.{PreparedHandle}
use Rattle.lookup.specs.View.{View, View.Invalid, View.Busy, View.Holds, Opened, Opened.Handle as Found}
use Rattle.lookup.specs.View.{handle_at, slot_view, decoded_view, view_of, table_refusal, view_opened, open_of, handle_of, named}
use Rattle.lookup.specs.Named.{Active, active_on, table_open, table_refused, view_is, view_found}
use Rattle.lookup.specs.Read.{on_opened, info_at, info_list, object_known, info_is}
use Rattle.info.specs.Info.{kept_words, kept_decoded, moving_of, shown_by, shown_of, get_info_r}
use Rattle.info.proofs.Kept.{slot_moving, Keeps, keeps}

-- an unknown table gives 18, one that is not active 16: never 3
table_never_busy : (m : Mem) (sh : Shape) (b : ℕ) → eqb (table_refusal m sh b) 3 ≡ false
unfolding table_refusal
table_never_busy m sh b = bool (ltb b sh.tables) (λ p. bool (eqb (m (head b head_lifecycle)) life_active) (λ q. rw (p, q)) (λ q. rw (p, q))) (λ p. rw p)

module _ (m : Mem) (b : ℕ) where
  -- a slot of equal generation that is being moved
  record BusyAt (k g : ℕ) : Type 0 where
    pub generation : g ≡ slot_word m b k slot_generation
    pub tag : slot_word m b k slot_tag ≡ tag_transfer_reserved

  busy_slot : (k g : ℕ) → slot_view m b k g ≡ Busy → BusyAt k g
  unfolding slot_view
  busy_slot k g e = bool (eqb g (slot_word m b k slot_generation))
      (λ p. bool (eqb (slot_word m b k slot_tag) tag_occupied)
      (λ q. other (handle_at m b k) (rw (p, q) at e))
      (λ q. bool (eqb (slot_word m b k slot_tag) tag_transfer_reserved)
      (λ r. record { generation = eqb-true g (slot_word m b k slot_generation) p; tag = eqb-true (slot_word m b k slot_tag) tag_transfer_reserved r })
      (λ r. nothing (rw (p, q, r) at e))))
      (λ p. nothing (rw p at e))
    where
      nothing : {A : Type 0} → Invalid ≡ Busy → A
      nothing z = let y : ◌≡◌ {A = ℕ} 0 1 = cc in absurd (omega arith)

      other : {A : Type 0} (h : PreparedHandle) → Holds h ≡ Busy → A
      other h z = let y : ◌≡◌ {A = ℕ} 0 1 = cc in absurd (omega arith)

  -- a value that is Busy decodes to such a slot
  record BusyBy (d : Option Decoded) : Type 0 where
    pub slot : ℕ
    pub generation : ℕ
    pub decoded : d ≡ Some (record { slot = slot; generation = generation })
    pub there : BusyAt slot generation

  busy_decoded : (d : Option Decoded) → decoded_view m b d ≡ Busy → BusyBy d
  busy_decoded (Some d) e = record { slot = d.slot; generation = d.generation; decoded = refl; there = busy_slot d.slot d.generation e }
  busy_decoded None e = let y : ◌≡◌ {A = ℕ} 0 1 = cc in absurd (omega arith)

module _ (ws : List ℕ) (sh : Shape) (s : State) (i : Rep ws sh s) (b v : ℕ) where
  abbrev m : Mem
  m = load ws sh

  abbrev t : Table
  t = s.tables b

  -- the slot that a value names, in the words and in the model
  same_slot : (k g : ℕ) → decode_of t.mask v ≡ Some (record { slot = k; generation = g }) → slot_named t.mask v ≡ k
  unfolding decode_of
  same_slot k g e = bool (decodes t.mask v)
      (λ p. ap slot_or (rw p at e))
      (λ p. let d : ◌≡◌ {A = Option Decoded} None (Some (record { slot = k; generation = g })) = rw p at e in let y : ◌≡◌ {A = ℕ} 0 1 = cc in absurd (omega arith))
    where
      slot_or : Option Decoded → ℕ
      slot_or (Some d) = d.slot
      slot_or None = 0

  module _ (a : Active s b) where
    table_is : TableIs m b t
    table_is = i.reps.memory.tables b a.known

    -- what `get_info` shows, by what the words say of the value
    looked_none : view_of m b v ≡ Invalid → look_at s t v ≡ none
    looked_none e = rw (sym (view_is m b t table_is v) ∙ ap named e)

    looked_found : (h : PreparedHandle) → view_of m b v ≡ Holds h → look_at s t v ≡ some (handle_of h)
    looked_found h e = rw (sym (view_is m b t table_is v) ∙ ap named e)

    -- a slot that is being moved shows the handle that its claim keeps
    record Moved : Type 0 where
      pub handle : PreparedHandle
      pub opens : moving_of m b v ≡ Found handle
      pub looked : look_at s t v ≡ some (handle_of handle)
      pub known : handle.object < s.object_count

    looked_moved : view_of m b v ≡ Busy → Moved
    unfolding view_of moving_of
    looked_moved e =
        let p = busy_decoded m b (decode_of (m (head b head_mask)) v) e in
        let k : ℕ = p.slot in
        let there : t.slots k ≡ transfer_reserved (slot_word m b k slot_generation) (m (row (slot_word m b k slot_place) row_id)) = sym (table_is.slots k) ∙ slot_moving m b k p.there.tag in
        let c : Keeps m s b k = keeps sh m s i.reps.memory i.well_formed b k _ a.known there in
        let q : slot_named t.mask v ≡ k = same_slot k p.generation (ap (λ (x : ℕ). decode_of x v) (sym table_is.mask) ∙ p.decoded) in
        record {
          handle = kept_words m b k;
          opens = ap (kept_decoded m b) p.decoded;
          looked = rw (sym (view_is m b t table_is v) ∙ ap named e, q, there) c.kept;
          known = c.known;
        }

    abbrev rest : Handle → Decision
    rest h = accept s (info_of (info_for s h))

    decided : (h : Handle) → look_at s t v ≡ some h → on_looked s b v rest ≡ accept s (info_of (info_for s h))
    decided h e = active_on s b a (λ x. given look_at s x v refuse 2 then rest) ∙ rw e

    refused : look_at s t v ≡ none → on_looked s b v rest ≡ refusal 2
    refused e = active_on s b a (λ x. given look_at s x v refuse 2 then rest) ∙ rw e

  module _ (os : List ℕ) (base : ℕ) where
    abbrev Does_it : Opened → Type 0
    Does_it x = Does ws os sh base s (get_info b v) (on_opened x (λ n. refuse_r ws os base n) (λ h. both ws (answered os base (0 ∷ info_list (info_at m h)))))

    -- the info of a handle that is shown
    says : (h : PreparedHandle) → h.object < s.object_count → decide till s (get_info b v) ≡ accept s (info_of (info_for s (handle_of h))) → Does_it (Found h)
    unfolding used_words
    says h l d = rw (info_is sh m s i.reps.memory h l) (does_accepted os sh base s (get_info b v) ws s (info_of (info_for s (handle_of h))) i.reps d)

    -- GET_INFO is the model's step
    pub get_info_does : Does ws os sh base s (get_info b v) (get_info_r ws os sh base b v)
    unfolding get_info_r shown_of open_of decide get_info_of
    get_info_does = bool (eqb (table_refusal m sh b) 0)
        (λ p. rw p (go (table_open sh m s i.reps.memory b (eqb-true (table_refusal m sh b) 0 p)) (view_of m b v) refl))
        (λ p. rw (p, table_never_busy m sh b) (does_refused os sh base s (get_info b v) ws (table_refusal m sh b) i.reps
        (table_refused sh m s i.reps.memory b (table_refusal m sh b) refl (λ q. clash (eq-eqb (table_refusal m sh b) 0 q) p) (λ x. given look_at s x v refuse 2 then λ h. accept s (info_of (info_for s h))))))
      where
        go : (a : Active s b) (x : View) → view_of m b v ≡ x → Does_it (shown_by (moving_of m b v) (view_opened x))
        go a Invalid e = does_refused os sh base s (get_info b v) ws 2 i.reps (refused a (looked_none a e))
        go a Busy e = let p = looked_moved a e in rw p.opens (says p.handle p.known (decided a (handle_of p.handle) p.looked))
        go a (Holds h) e = says h
            (object_known s i.well_formed b a.known h.slot h.generation (handle_of h) (view_found m b t (table_is a) v h e))
            (decided a (handle_of h) (looked_found a h e))
