-- What is told of a handle; `resolve`: what its function does to the words, and that it is the model's step. Assumes nothing.
use Rattle.std.specs.Prelude.{◌≡◌, List, [], ◌∷◌}
use Rattle.std.proofs.Math.Path.{refl}
use Rattle.std.proofs.Common.{◌∙◌}
use Prim.Native.Nat.{ℕ, ◌<◌}
use Rattle.std.proofs.Math.Dec.{eqb}
use Rattle.words.specs.Pick.{pick, bool}
use Rattle.authority.specs.Rights.{contains}
use Rattle.model.specs.State.{Sizes, Handle, Slot.occupied, Table, State}
use Rattle.model.specs.Objects.{info_for}
use Rattle.model.specs.Request.{Request.resolve, Answer.resolved}
use Rattle.model.specs.Decision.{Decision, Decision.accept, unless◌refuse◌then◌}
use Rattle.model.specs.Step.{resolve_of, decide}
use Rattle.model.specs.Words.{info_words, used_words}
use Rattle.model.specs.WellFormed.{SlotRange, WellFormed}
use Rattle.layout.specs.declared.Shape.{Shape}
use Rattle.layout.specs.Layout.{Mem, object, load}
use Rattle.layout.specs.Fields.{object_koid, object_kind}
use Rattle.representation.specs.Represents.{Represents, Rep}
use Rattle.answer.specs.Does.{Both, both, answered, refuse_r, Does, does_refused, does_accepted}
use Rattle.lookup.specs.declared.PreparedHandle.{PreparedHandle}
use Rattle.lookup.specs.declared.HandleInfo.{HandleInfo}
use Rattle.lookup.specs.declared.Resolved.{Resolved}
use Rattle.lookup.specs.View.{Opened, Opened.Refused, Opened.Handle as Found}
use Rattle.lookup.specs.View.{open_of, handle_of}
use Rattle.lookup.specs.Named.{Opens, open_refused_is, open_found_is}

-- by cases of an opening
abbrev pub on_opened : {A : Type 0} → Opened → (ℕ → A) → (PreparedHandle → A) → A
on_opened (Refused n) refused found = refused n
on_opened (Found h) refused found = found h

-- mod.rs `HandleInfo`, of a handle
abbrev pub info_at : Mem → PreparedHandle → HandleInfo
info_at m h = record { koid = record { 0 = m (object h.object object_koid) }; kind = m (object h.object object_kind); rights = h.rights; flags = h.flags }

-- "get_info, close: 1 koid, 2 kind, 3 rights, 4 flags"
abbrev pub info_list : HandleInfo → List ℕ
info_list i = i.koid.0 ∷ i.kind ∷ i.rights ∷ i.flags ∷ []

-- "1 the object's number, 2 koid, 3 rights"
abbrev pub resolved_list : Resolved → List ℕ
resolved_list r = r.object ∷ r.koid.0 ∷ r.rights ∷ []

-- "Resolve: 16, 2 or 3, 5, 4"; "1 the object's number, 2 koid, 3 rights"
unfoldable pub resolved_r : List ℕ → List ℕ → Shape → ℕ → ℕ → ℕ → PreparedHandle → Both
resolved_r ws os sh base r kind h =
    pick (contains h.rights r)
    (pick (eqb (load ws sh (object h.object object_kind)) kind)
    (both ws (answered os base (0 ∷ h.object ∷ load ws sh (object h.object object_koid) ∷ h.rights ∷ [])))
    (refuse_r ws os base 4))
    (refuse_r ws os base 5)

unfoldable pub resolve_r : List ℕ → List ℕ → Shape → ℕ → ℕ → ℕ → ℕ → ℕ → Both
resolve_r ws os sh base b v r kind =
    on_opened (open_of (load ws sh) sh b v)
    (λ n. refuse_r ws os base n)
    (λ h. resolved_r ws os sh base r kind h)

-- ---- in the model

-- the object of a handle in a slot is known
pub object_known : {z : Sizes} (s : State) → WellFormed z s → (b : ℕ) → b < s.table_count → (k g : ℕ) (x : Handle) → (s.tables b).slots k ≡ occupied g x → x.object < s.object_count
object_known s w b l k g x e = let r : SlotRange s (occupied g x) = rw e at ((w.ranges.tables b l).slots k) in r.object

-- a handle's info is the model's
pub info_is : (sh : Shape) (m : Mem) (s : State) → Represents sh m s → (h : PreparedHandle) → h.object < s.object_count → info_list (info_at m h) ≡ info_words (info_for s (handle_of h))
info_is sh m s i h l = let o = i.objects h.object l in rw (o.koid, o.kind)

module _ (ws : List ℕ) (sh : Shape) (s : State) (i : Rep ws sh s) (b v : ℕ) where
  pub opened_known : (h : PreparedHandle) → Opens s b v h → h.object < s.object_count
  opened_known h o = object_known s i.well_formed b o.table.known h.slot h.generation (handle_of h) o.slot

  module _ (os : List ℕ) (base : ℕ) where
    -- RESOLVE is the model's step
    pub resolve_does : (r kind : ℕ) → Does ws os sh base s (resolve b v r kind) (resolve_r ws os sh base b v r kind)
    unfolding resolve_r resolved_r decide resolve_of used_words
    resolve_does r kind = go (open_of (load ws sh) sh b v) refl
      where
        rest : Table → ℕ → Handle → Decision
        rest t k h =
            unless contains h.rights r refuse 5 then
            unless eqb (s.objects h.object).kind kind refuse 4 then
            accept s (resolved h.object (s.objects h.object).koid h.rights)

        go : (x : Opened) → open_of (load ws sh) sh b v ≡ x → Does ws os sh base s (resolve b v r kind) (on_opened x (λ n. refuse_r ws os base n) (λ h. resolved_r ws os sh base r kind h))
        go (Refused n) e = does_refused os sh base s (resolve b v r kind) ws n i.reps (open_refused_is sh (load ws sh) s i.reps.memory b v n e rest)
        go (Found h) e =
            let o = open_found_is sh (load ws sh) s i.reps.memory b v h e in
            let x = i.reps.memory.objects h.object (opened_known h o) in
            let d = o.handle rest in
            rw (x.kind, x.koid)
            (bool (contains h.rights r)
            (λ p. bool (eqb (s.objects h.object).kind kind)
            (λ q. rw (p, q) (does_accepted os sh base s (resolve b v r kind) ws s (resolved h.object (s.objects h.object).koid h.rights) i.reps (d ∙ rw (p, q))))
            (λ q. rw (p, q) (does_refused os sh base s (resolve b v r kind) ws 4 i.reps (d ∙ rw (p, q)))))
            (λ p. rw p (does_refused os sh base s (resolve b v r kind) ws 5 i.reps (d ∙ rw p))))
