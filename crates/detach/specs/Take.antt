-- The request take_empty_page over words is the model's step. Assumes nothing.
use Rattle.std.specs.Prelude.{◌≡◌, true, false, ℕ, suc, ◌-◌, ◌<◌, eqb, ltb}
use Rattle.std.proofs.Math.Path.{refl}
use Rattle.std.proofs.Common.{ap, ◌∙◌, arith}
use mathlib.Core.List.{List, [], ◌∷◌}
use Rattle.std.proofs.Math.Option.{Option, none, some}
use borrow.Author.Tests.{ne_eqb, ltb-true, ltb-false, lt-ltb, le-ltb}
use Rattle.words.specs.Pick.{pick, bool, clash}
use Rattle.model.specs.Base.{occurs, insert, is_some}
use Rattle.model.specs.State.{till, Table, State, is_active}
use Rattle.model.specs.Storage.{detach}
use Rattle.model.specs.Change.{with_table, with_frames}
use Rattle.model.specs.Request.{Request.take_empty_page, Answer.taken}
use Rattle.model.specs.Decision.{Decision.refusal, Decision.accept}
use Rattle.model.specs.Step.{take_at, take_empty_page_of, decide}
use Rattle.model.specs.Words.{used_words}
use Rattle.layout.specs.declared.Shape.{Shape}
use Rattle.layout.specs.Layout.{Mem, head, entry, load}
use Rattle.layout.specs.Fields.{head_lifecycle, head_cursor, head_first_empty, entry_next, entry_previous}
use Rattle.layout.specs.Values.{life_active}
use Rattle.representation.specs.Represents.{entry_at, Chain, TableIs, Rep}
use Rattle.representation.specs.Told.{life_tells}
use Rattle.answer.specs.Does.{both, answered, Does, does_refused, does_accepted}
use Rattle.storage.specs.Order.{occurs_head}
use Rattle.storage.specs.Slots.{empty_attached}
use Rattle.storage.specs.Reps.{Held, held_of}
use Rattle.detach.specs.Ops.{detach_w, first_empty, take_page_r}
use Rattle.detach.specs.Reps.{detach_held}

module _ (ws os : List ℕ) (sh : Shape) (base : ℕ) (s : State) (i : Rep ws sh s) (b : ℕ) where
  abbrev t : Table
  t = s.tables b

  abbrev m : Mem
  m = load ws sh

  unknown : ltb b s.table_count ≡ false → decide till s (take_empty_page b) ≡ refusal 18
  unfolding decide take_empty_page_of
  unknown e = rw e

  module _ (lb : b < s.table_count) where
    table : TableIs m b t
    table = i.reps.memory.tables b lb

    held : Held ws sh s
    held = held_of ws sh s i

    life_is : eqb (m (head b head_lifecycle)) life_active ≡ is_active t.life
    life_is = life_tells (m (head b head_lifecycle)) (m (head b head_cursor)) t.life table.life

    inactive : is_active t.life ≡ false → decide till s (take_empty_page b) ≡ accept s (taken none)
    unfolding decide take_empty_page_of
    inactive e = rw (lt-ltb b s.table_count lb, e)

    on_active : is_active t.life ≡ true → (l : List ℕ) → t.empty ≡ l → decide till s (take_empty_page b) ≡ take_at till s b t l
    unfolding decide take_empty_page_of
    on_active e l d = rw (lt-ltb b s.table_count lb, e) (ap (λ (x : List ℕ). take_at till s b t x) d)

    none_does : decide till s (take_empty_page b) ≡ accept s (taken none) → Does ws os sh base s (take_empty_page b) (both ws (answered os base (0 ∷ 0 ∷ [])))
    unfolding used_words
    none_does e = does_accepted os sh base s (take_empty_page b) ws s (taken none) i.reps e

    page_does : (p : ℕ) → 0 < occurs p t.empty → decide till s (take_empty_page b) ≡ take_at till s b t (p ∷ [])
        → Does ws os sh base s (take_empty_page b) (both (detach_w ws sh b p) (answered os base (0 ∷ 1 ∷ p ∷ [])))
    unfolding used_words
    page_does p h e = go (t.pages p).frame refl
      where
        go : (x : Option ℕ) → (t.pages p).frame ≡ x → Does ws os sh base s (take_empty_page b) (both (detach_w ws sh b p) (answered os base (0 ∷ 1 ∷ p ∷ [])))
        go none d = clash (empty_attached t (held.placed.sound b lb) p h) (ap is_some d)
        go (some f) d = does_accepted os sh base s (take_empty_page b) (detach_w ws sh b p) (with_frames (with_table s b (detach till t p)) (insert f s.frames)) (taken (some p))
            (detach_held ws sh s held i.well_formed.frames b lb p f h d).reps (e ∙ rw d)

    first_idle : is_active t.life ≡ false → first_empty m b ≡ 0
    unfolding first_empty
    first_idle e = rw (life_is, e)

    first_active : is_active t.life ≡ true → first_empty m b ≡ m (head b head_first_empty)
    unfolding first_empty
    first_active e = rw (life_is, e)

    known_does : Does ws os sh base s (take_empty_page b)
        (pick (eqb (first_empty m b) 0) (both ws (answered os base (0 ∷ 0 ∷ []))) (both (detach_w ws sh b (first_empty m b - 1)) (answered os base (0 ∷ 1 ∷ (first_empty m b - 1) ∷ []))))
    known_does = bool (is_active t.life) (λ e. go e t.empty refl)
        (λ e. rw (first_idle e) (none_does (inactive e)))
      where
        go : is_active t.life ≡ true → (l : List ℕ) → t.empty ≡ l → Does ws os sh base s (take_empty_page b)
            (pick (eqb (first_empty m b) 0) (both ws (answered os base (0 ∷ 0 ∷ []))) (both (detach_w ws sh b (first_empty m b - 1)) (answered os base (0 ∷ 1 ∷ (first_empty m b - 1) ∷ []))))
        go e [] d = let z : m (head b head_first_empty) ≡ 0 = rw d at table.empty in rw (first_active e, z) (none_does (on_active e [] d))
        go e (p ∷ l) d = let c : Chain (λ q. m (entry (entry_at m b q) entry_next)) (λ q. m (entry (entry_at m b q) entry_previous)) (m (head b head_first_empty)) 0 (p ∷ l) = rw d at table.empty in
            let y : suc p - 1 ≡ p = omega arith in
            rw (first_active e, c.0, ne_eqb (suc p) 0 (λ q. omega arith), y) (page_does p (rw d (occurs_head p l)) (on_active e (p ∷ l) d))

  -- TAKE_EMPTY_PAGE is the model's step
  pub take_page_does : Does ws os sh base s (take_empty_page b) (take_page_r ws os sh base b)
  unfolding take_page_r
  take_page_does = let c : sh.tables ≡ s.table_count = i.reps.memory.table_count in
      bool (ltb b sh.tables)
      (λ e. rw e (known_does (omega (arith, ltb-true b sh.tables e))))
      (λ e. rw e (does_refused os sh base s (take_empty_page b) ws 18 i.reps (unknown (le-ltb b s.table_count (omega (arith, ltb-false b sh.tables e))))))
