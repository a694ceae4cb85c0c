-- A state's words, and the words past its end: what stands past the end does not count. Assumes nothing.
use Rattle.std.specs.Prelude.{◌≡◌, List, [], ◌∷◌, ◌++◌, ℕ, ◌+◌, ◌≤◌, ◌<◌, length, get_or, set, take}
use Rattle.std.proofs.Common.{sym, ap, ◌∙◌, arith, length-append, length-take-le, get_or-take}
use Rattle.std.proofs.Math.Path.{fun_ext}
use Rattle.std.proofs.Math.ListN.{get_or-append}
use Rattle.std.proofs.lemmas.List.{set-append_left}
use Rattle.words.specs.Pick.{bool}
use Rattle.model.specs.State.{till, State}
use Rattle.model.specs.Request.{Request}
use Rattle.model.specs.Step.{step}
use Rattle.layout.specs.declared.Shape.{Shape}
use Rattle.layout.specs.Layout.{Addr, Addr.reg, layout, total, is_in, in_is, place, place_low, load, load_out}
use Rattle.layout.specs.Regions.{region, in_place}
use Rattle.layout.specs.ShapeOf.{Shaped}
use Rattle.representation.specs.Represents.{Rep}
use Rattle.answer.specs.Does.{id_spent}
use Rattle.contract.specs.Meets.{Passes}

-- words that agree up to the state's end show the same memory
front_load : (sh : Shape) (ws vs : List ℕ) → ((i : ℕ) → i < total sh → get_or vs i 0 ≡ get_or ws i 0) → load vs sh ≡ load ws sh
unfolding load
front_load sh ws vs e = fun_ext go
  where
    go : (a : Addr) → get_or vs (place (length vs) sh a) 0 ≡ get_or ws (place (length ws) sh a) 0
    go (reg k x y f) = bool (is_in sh (reg k x y f))
        (λ i. let j = in_is sh (reg k x y f) i in
        let p = in_place (region (layout sh) k) x y f (length vs) j in let q = in_place (region (layout sh) k) x y f (length ws) j in
        rw (p ∙ sym q) (e _ (place_low (length ws) sh (reg k x y f) j)))
        (λ i. load_out vs sh (reg k x y f) i ∙ sym (load_out ws sh (reg k x y f) i))

-- so they represent the same state
pub front_rep : (sh : Shape) (ws vs : List ℕ) (s : State) → Rep ws sh s → total sh ≤ length vs → ((i : ℕ) → i < total sh → get_or vs i 0 ≡ get_or ws i 0) → Rep vs sh s
front_rep sh ws vs s r h e = let l : load vs sh ≡ load ws sh = front_load sh ws vs e in record {
  reps = record {
    shaped = record { limits = r.reps.shaped.limits; room = h; roots = rw l r.reps.shaped.roots };
    memory = rw l r.reps.memory;
  };
  well_formed = r.well_formed;
}

-- the state's words alone
pub rep_take : (sh : Shape) (ws : List ℕ) (s : State) → Rep ws sh s → Rep (take (total sh) ws) sh s
rep_take sh ws s r = front_rep sh ws (take (total sh) ws) s r (omega (arith, length-take-le (total sh) ws r.reps.shaped.room)) (λ i h. get_or-take (total sh) ws i 0 h)

-- with words past the end
pub rep_past : (sh : Shape) (ws rest : List ℕ) (s : State) → Rep ws sh s → Rep (ws ++ rest) sh s
rep_past sh ws rest s r = let room = r.reps.shaped.room in
    front_rep sh ws (ws ++ rest) s r (omega (arith, length-append ws rest)) (λ i h. get_or-append ws rest 0 i (omega arith))

-- words of a shape that the state's words alone have, as the header is among them
pub shaped_take : (sh : Shape) (ws : List ℕ) → Shaped ws sh → Shaped (take (total sh) ws) sh
shaped_take sh ws h =
    let l : load (take (total sh) ws) sh ≡ load ws sh = front_load sh ws (take (total sh) ws) (λ i b. get_or-take (total sh) ws i 0 b) in
    record { limits = h.limits; room = omega (arith, length-take-le (total sh) ws h.room); roots = rw l h.roots }

spent_past : (ws rest : List ℕ) → 5 < length ws → id_spent ws ++ rest ≡ id_spent (ws ++ rest)
unfolding id_spent
spent_past ws rest h = sym (ap (λ (v : ℕ). set (ws ++ rest) 5 (v + 1)) (get_or-append ws rest 0 5 h) ∙ set-append_left ws rest 5 (get_or ws 5 0 + 1) h)

-- a list's words from request to request, with the words past the end beside them
pub passes_past : (sh : Shape) (rest : List ℕ) (rs : List Request) (ws vs : List ℕ) (s : State) → 5 < length ws → Passes sh ws s rs vs → Passes sh (ws ++ rest) s rs (vs ++ rest)
passes_past sh rest [] ws vs s h p = ap (λ (x : List ℕ). x ++ rest) p
passes_past sh rest (r ∷ rs) ws vs s h (us, rep, kept, spent, judges, more) =
    let room = rep.reps.shaped.room in (
      us ++ rest,
      rep_past sh us rest (step till s r).0 rep,
      (λ n q. ap (λ (x : List ℕ). x ++ rest) (kept n q)),
      (λ n q. ap (λ (x : List ℕ). x ++ rest) (spent n q) ∙ spent_past ws rest h),
      (λ q. ap (λ (x : List ℕ). x ++ rest) (judges q)),
      passes_past sh rest rs us vs (step till s r).0 (omega arith) more,
    )
