-- THE STATE CHECK, WHOLE: it answers exactly whether the words represent a well-formed state. Assumes nothing.
use Rattle.std.specs.Prelude.{Option, Some, None}
use Rattle.std.specs.Prelude.{◌≡◌, refl, true, false, ◌&&◌, List, ℕ}
use Rattle.std.proofs.Math.Path.{sym}
use Rattle.std.proofs.Common.{ap, subst, ◌∙◌, arith}
use Rattle.words.specs.Pick.{clash, both, both_is}
use Rattle.words.specs.Words.{Small}
use Rattle.model.specs.State.{till, State}
use Rattle.model.specs.WellFormed.{WellFormed}
use Rattle.layout.specs.declared.Shape.{Shape}
use Rattle.layout.specs.Layout.{load}
use Rattle.layout.specs.ShapeOf.{Shaped, shape_of, shape_found, shape_is, on_shape}
use Rattle.representation.specs.Represents.{Represents, Rep}
use Rattle.representation.specs.Unique.{rep_unique}
use Rattle.representation.specs.Told.{load_small}
use Rattle.structure.specs.Checks.{structure_b}
use Rattle.structure.specs.Whole.{structure_sound}
use Rattle.structure.specs.Frames.{planned_in}
use Rattle.structure.specs.Complete.{represented_passes}
use Rattle.orders.specs.Check.{orders_b}
use Rattle.orders.specs.Decide.{orders_sound}
use Rattle.orders.specs.Model.{orders_represented}
use Rattle.ledger.specs.Ledger.{ledger_b, ledger_is}
use Rattle.ledger.specs.Plans.{held_frames}
use Rattle.ledger.specs.Held.{held_count}
use Rattle.ledger.specs.Complete.{view, complete as ledger_complete}
use Rattle.counts.specs.Objects.{objects_b, objects_sound, objects_fit}
use Rattle.counts.specs.Code.{counts_in}
use Rattle.counts.specs.Decide.{counts_in_law, counted_complete, bounds_of}
use Rattle.wellformed.specs.Whole.{parts_b, well_b, check_b}
use Rattle.wellformed.specs.View.{view_of}
use Rattle.wellformed.specs.Shown.{Passed, represents, well_formed_law}

module _ (ws : List ℕ) (sh : Shape) where
  passed : Shaped ws sh → well_b ws sh ≡ true → Passed sh (load ws sh)
  unfolding well_b parts_b
  passed h e =
      let a = both (parts_b (load ws sh) sh) (counts_in ws sh) e in
      let b = both (structure_b (load ws sh) sh (held_frames (load ws sh))) (orders_b (load ws sh) sh && (ledger_b (load ws sh) sh && objects_b (load ws sh) sh)) a.0 in
      let c = both (orders_b (load ws sh) sh) (ledger_b (load ws sh) sh && objects_b (load ws sh) sh) b.1 in
      let d = both (ledger_b (load ws sh) sh) (objects_b (load ws sh) sh) c.1 in
      let st = structure_sound sh (load ws sh) (held_frames (load ws sh)) b.0 in
      record {
        structure = st;
        orders = orders_sound (load ws sh) sh (λ t h q f l g. (st.pages t q h l).busy f g) c.0;
        ledger = ledger_is (load ws sh) sh d.0;
        objects = objects_sound (load ws sh) sh d.1;
        counts = sym (counts_in_law ws sh h.room) ∙ a.1;
      }

  -- YES IS RIGHT: the words represent the state that they show
  pub sound : Shaped ws sh → Small ws → well_b ws sh ≡ true → Rep ws sh (view_of sh (load ws sh))
  sound h small e = let p = passed h e in let n = load_small ws sh small in record {
    reps = record { shaped = h; memory = represents sh (load ws sh) h.limits n p };
    well_formed = well_formed_law sh (load ws sh) h.limits n p;
  }

  -- the plans of the state that is represented hold the frames that were counted
  held_here : (s : State) → Represents sh (load ws sh) s → WellFormed till s → planned_in s.book.rows ≡ held_frames (load ws sh)
  held_here s m w = ap planned_in (view sh (load ws sh) s m w) ∙ held_count (load ws sh)

  -- NO IS RIGHT: of words that represent a well-formed state the answer is yes
  pub complete : (s : State) → Rep ws sh s → well_b ws sh ≡ true
  unfolding well_b parts_b
  complete s r =
      let m = r.reps.memory in let w = r.well_formed in
      both_is (parts_b (load ws sh) sh) (counts_in ws sh)
      (both_is (structure_b (load ws sh) sh (held_frames (load ws sh))) _ (subst (λ (n : ℕ). structure_b (load ws sh) sh n ≡ true) (held_here s m w) (represented_passes sh (load ws sh) s m w))
      (both_is (orders_b (load ws sh) sh) _ (orders_represented sh (load ws sh) s m w)
      (both_is (ledger_b (load ws sh) sh) _ (ledger_complete sh (load ws sh) s m w) (objects_fit sh (load ws sh) s m w))))
      (counts_in_law ws sh r.reps.shaped.room ∙ counted_complete sh (load ws sh) s m (bounds_of sh (load ws sh) s m w) w.counts.counted)

  -- so words that it refuses represent none ..
  pub refused : well_b ws sh ≡ false → (s : State) → Rep ws sh s → ⊥
  refused e s r = clash (complete s r) e

  -- .. and the state that words represent is the one that they show
  pub shown : Small ws → (s : State) → Rep ws sh s → s ≡ view_of sh (load ws sh)
  shown small s r = (rep_unique ws sh sh s (view_of sh (load ws sh)) r (sound r.reps.shaped small (complete s r))).1

  -- the shape of words that represent a state is the one that their header gives ..
  pub shape_given : (s : State) → Rep ws sh s → shape_of ws ≡ Some sh
  shape_given s r = shape_is ws sh r.reps.shaped

-- .. so that words without one represent none
pub shapeless : (ws : List ℕ) → shape_of ws ≡ None → (sh : Shape) (s : State) → Rep ws sh s → ⊥
shapeless ws e sh s r = let z : None ≡ Some sh = sym e ∙ shape_given ws sh s r in let y : ◌≡◌ {A = ℕ} 0 1 = cc in absurd (omega arith)

-- ---- with the shape that the header gives

-- THE CHECK IS EXACT: yes is right ..
pub check_sound : (ws : List ℕ) → Small ws → check_b ws ≡ true → (sh : Shape) × (shape_of ws ≡ Some sh) × Rep ws sh (view_of sh (load ws sh))
unfolding check_b
check_sound ws small e = go (shape_of ws) refl e
  where
    go : (x : Option Shape) → shape_of ws ≡ x → on_shape x false (well_b ws) ≡ true → (sh : Shape) × (shape_of ws ≡ Some sh) × Rep ws sh (view_of sh (load ws sh))
    go (Some sh) q d = (sh, q, sound ws sh (shape_found ws sh q) small d)
    go None q d = clash d refl

-- .. and so is no
pub check_complete : (ws : List ℕ) (sh : Shape) (s : State) → Rep ws sh s → check_b ws ≡ true
unfolding check_b
check_complete ws sh s r = rw (shape_given ws sh s r) (complete ws sh s r)
