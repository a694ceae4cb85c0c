-- Copies: their objects' counts are raised one by one; where one refuses, those before it are lowered again and every word is as it was.
-- Assumes nothing.
use Rattle.std.specs.Prelude.{◌≡◌, length, get_or, eqb, ltb}
use Rattle.std.proofs.Math.Path.{refl, ap, fun_ext}
use Rattle.std.proofs.Common.{sym, ◌∙◌, ⊎_elim, append_assoc, append-nil}
use mathlib.Core.List.{List, [], ◌∷◌, ◌++◌, map}
use Rattle.std.proofs.Math.Option.{Option, none, some}
use Prim.Native.Nat.{ℕ, zero, suc, ◌+◌, ◌-◌, ◌≤◌, ◌<◌}
use native.Mathlib.Omega.{arith}
use borrow.Author.Tests.{eqb-true, eqb-false, eq-eqb, ne_eqb, lt-ltb, ltb-true, ltb-false}
use Rattle.words.specs.Pick.{bool}
use Rattle.model.specs.Base.{bit}
use Rattle.model.specs.State.{till, Handle, Table, Object, Entry, Entry.moved, Entry.copied, State, max_objects}
use Rattle.model.specs.Change.{with_objects}
use Rattle.model.specs.Request.{Operation, Operation.as_move, Operation.as_copy, Item, Fault}
use Rattle.model.specs.Objects.{with_count, raise, lower, change, change_all, is_now_retired, with_rights}
use Rattle.model.specs.Book.{copies_of}
use Rattle.model.specs.Lookup.{View.holds}
use Rattle.model.specs.Transfer.{first_fault, copy_checks, first_of, copies_fault, entry_for}
use Rattle.model.specs.WellFormed.{WellFormed, All, in_handles}
use Rattle.model.proofs.Tests.{apart}
use Rattle.layout.specs.declared.Shape.{Shape}
use Rattle.layout.specs.Layout.{Addr, Addr.reg, total, object, load, In, is_in, in_is, load_out, writes_past, loads_same}
use Rattle.layout.specs.RegionNames.{region_object}
use Rattle.layout.specs.Sizes.{object_size}
use Rattle.representation.specs.Represents.{ObjectIs}
use Rattle.storage.specs.Order.{same?}
use Rattle.storage.specs.Ops.{up}
use Rattle.storage.specs.Reps.{Held}
use Rattle.object.specs.declared.ObjectRecord.{ObjectRecord}
use Rattle.object.specs.Words.{record_at, record_p, step_w, raise_w, lower_w}
use Rattle.object.specs.Record.{raised_by, lowered_by}
use Rattle.object.specs.Reps.{step_length, step_only, raise_held, lower_held, limit_room}
use Rattle.lookup.specs.declared.PreparedHandle.{PreparedHandle}
use Rattle.lookup.specs.View.{View}
use Rattle.lookup.specs.View.{View.Invalid, View.Busy, View.Holds}
use Rattle.lookup.specs.View.{view_of, handle_of, named}
use Rattle.lookup.specs.Named.{view_is}
use Rattle.lookup.specs.Read.{object_known}
use Rattle.transfer.specs.Checks.{Stop, passed, copy_stop, no_fault, in_position}
use Rattle.transfer.specs.Preparing.{copy_link, raised, raised_item, Tried, tried, raised_items, lowered_item, lowered_items}
use Rattle.transfer.proofs.Faults.{StopTells, Found, copy_tells}

-- ---- words that differ in objects alone

record Objects (ws ws' : List ℕ) (sh : Shape) : Type 0 where
  long : length ws' ≡ length ws
  other : (k x y f : ℕ) → (k ≡ region_object → ⊥) → load ws' sh (reg k x y f) ≡ load ws sh (reg k x y f)
  past : (i : ℕ) → total sh ≤ i → get_or ws' i 0 ≡ get_or ws i 0

objects_none : (ws : List ℕ) (sh : Shape) → Objects ws ws sh
objects_none ws sh = record { long = refl; other = λ k x y f n. refl; past = λ i h. refl }

objects_then : (ws ws₁ ws₂ : List ℕ) (sh : Shape) → Objects ws ws₁ sh → Objects ws₁ ws₂ sh → Objects ws ws₂ sh
objects_then ws ws₁ ws₂ sh p q = record {
  long = q.long ∙ p.long;
  other = λ k x y f n. q.other k x y f n ∙ p.other k x y f n;
  past = λ i h. q.past i h ∙ p.past i h;
}

objects_step : (f : ObjectRecord → ObjectRecord) (ws : List ℕ) (sh : Shape) (o : ℕ) → total sh ≤ length ws → Objects ws (step_w f ws sh o) sh
unfolding step_w
objects_step f ws sh o h = record {
  long = step_length f ws sh o;
  other = λ k x y g n. step_only f ws sh o h k x y g (λ e z. n e);
  past = λ i l. writes_past ws sh (record_p o (f (record_at (load ws sh) o))) i l;
}

-- words that represent states with the same objects, and differ in objects alone, are the same
module _ (ws ws' : List ℕ) (sh : Shape) (s : State) (os : ℕ → Object) (h : Held ws sh s) (h' : Held ws' sh (with_objects s os)) (d : Objects ws ws' sh)
    (e : (o : ℕ) → os o ≡ s.objects o) where
  object_same : (o : ℕ) → o < s.object_count → (f : ℕ) → f < object_size → load ws' sh (object o f) ≡ load ws sh (object o f)
  object_same o l f m = go f m
    where
      p : ObjectIs (load ws sh) o (s.objects o)
      p = h.reps.memory.objects o l

      q : ObjectIs (load ws' sh) o (s.objects o)
      q = rw (e o) at (h'.reps.memory.objects o l)

      go : (f : ℕ) → f < object_size → load ws' sh (object o f) ≡ load ws sh (object o f)
      go zero m = q.koid ∙ sym p.koid
      go (suc zero) m = q.kind ∙ sym p.kind
      go (suc (suc zero)) m = q.class ∙ sym p.class
      go (suc (suc (suc zero))) m = q.supported ∙ sym p.supported
      go (suc (suc (suc (suc zero)))) m = q.exportable ∙ sym p.exportable
      go (suc (suc (suc (suc (suc zero))))) m = q.stage ∙ sym p.stage
      go (suc (suc (suc (suc (suc (suc zero)))))) m = q.count ∙ sym p.count
      go (suc (suc (suc (suc (suc (suc (suc zero))))))) m = q.limit ∙ sym p.limit
      go (suc (suc (suc (suc (suc (suc (suc (suc n)))))))) m = absurd (omega arith)

  loads_alike : (a : Addr) → load ws' sh a ≡ load ws sh a
  loads_alike (reg k x y f) = ⊎_elim
      (λ (z : k ≡ region_object). rw z (bool (is_in sh (reg region_object x y f))
      (λ i. let w : In sh (reg region_object x y f) = in_is sh (reg region_object x y f) i in
      let y0 : y ≡ 0 = omega (arith, w.ys) in
      rw y0 (object_same x (omega (arith, w.xs, h.reps.memory.object_count)) f w.fs))
      (λ i. load_out ws' sh (reg region_object x y f) i ∙ sym (load_out ws sh (reg region_object x y f) i))))
      (λ (z : k ≡ region_object → ⊥). d.other k x y f z)
      (same? k region_object)

  words_back : ws' ≡ ws
  words_back = loads_same ws' ws sh d.long (fun_ext loads_alike) d.past

-- ---- one count up or down, at every object

module _ (os : ℕ → Object) (o p : ℕ) where
  raise_at : change raise os o p ≡ with_count (os p) (os p).stage ((os p).count + bit (eqb o p))
  raise_at = bool (eqb p o)
      (λ e. let z : p ≡ o = eqb-true p o e in rw (e, eq-eqb o p (sym z), z))
      (λ e. let w : (os p).count + 0 ≡ (os p).count = omega arith in rw (e, ne_eqb o p (λ z. eqb-false p o e (sym z)), w))

  lower_at : 1 < (os o).count → change lower os o p ≡ with_count (os p) (os p).stage ((os p).count - bit (eqb o p))
  lower_at l = bool (eqb p o)
      (λ e. let z : p ≡ o = eqb-true p o e in rw (e, eq-eqb o p (sym z), z, lt-ltb 1 (os o).count l))
      (λ e. let w : (os p).count - 0 ≡ (os p).count = omega arith in rw (e, ne_eqb o p (λ z. eqb-false p o e (sym z)), w))

-- ---- what an item copies

view_holds : (x : View) (k : ℕ) (h : Handle) → named x ≡ holds k h → (y : PreparedHandle) × (x ≡ Holds y) × (y.slot ≡ k) × (handle_of y ≡ h)
view_holds Invalid k h e = apart (cc)
view_holds Busy k h e = apart (cc)
view_holds (Holds y) k h e = let a : y.slot ≡ k = cc in let b : handle_of y ≡ h = cc in (y, refl, a, b)

-- how many handles of object o the items of a list copy
abbrev pub tally : Table → ℕ → List Item → ℕ
tally t o qs = in_handles o (copies_of (map (entry_for t) qs))

-- what comes of the copies among the items qs: all are raised, to the objects os, and lowered again every word is as it was; or one refuses and so it is at once
abbrev pub Outcome : Shape → State → ℕ → List ℕ → List Item → (ℕ → Object) → Option Fault → Tried → Type 0
Outcome sh s b ws qs os none x = (x.fault ≡ no_fault) × Held x.words sh (with_objects s os) × (lowered_items x.words sh b qs ≡ ws)
Outcome sh s b ws qs os (some f) x = (x.fault ≡ f) × (0 < f.number) × (x.words ≡ ws)

module _ (sh : Shape) (s : State) (w : WellFormed till s) (b : ℕ) (l : b < s.table_count) where
  abbrev t : Table
  t = s.tables b

  -- the handle that a represented table shows for an item, whatever the objects
  pub view_found_at : (ws : List ℕ) (os : ℕ → Object) → Held ws sh (with_objects s os) → (q : Item) (f : Found t q)
      → (y : PreparedHandle) × (view_of (load ws sh) b q.value ≡ Holds y) × (y.slot ≡ f.slot) × (handle_of y ≡ f.handle)
  view_found_at ws os h q f = view_holds (view_of (load ws sh) b q.value) f.slot f.handle (view_is (load ws sh) b t (h.reps.memory.tables b l) q.value ∙ f.view)

  -- an item that moves copies nothing, one that copies has the object of its handle
  record Links (ws : List ℕ) (q : Item) (f : Found t q) : Type 0 where
    moves : q.operation ≡ as_move → copy_link (load ws sh) b q ≡ 0
    copies : q.operation ≡ as_copy → copy_link (load ws sh) b q ≡ suc f.handle.object
    known : f.handle.object < s.object_count

  links : (ws : List ℕ) (os : ℕ → Object) → Held ws sh (with_objects s os) → (q : Item) (f : Found t q) → Links ws q f
  unfolding copy_link max_objects
  links ws os h q f =
      let v = view_found_at ws os h q f in
      let o : v.0.object ≡ f.handle.object = ap (λ (g : Handle). g.object) v.3 in
      let k : f.handle.object < s.object_count = object_known s w b l f.slot f.gen f.handle f.stands in
      let z : up v.0.object ≡ suc f.handle.object = omega (arith, w.ranges.object_count.1) in
      record { moves = λ e. rw e; copies = λ e. rw (e, v.1) z; known = k }

  -- an item's entry, by its operation
  copies_of_law : (q : Item) (f : Found t q) (es : List Entry) → q.operation ≡ as_copy → copies_of (entry_for t q ∷ es) ≡ with_rights f.handle q.rights ∷ copies_of es
  copies_of_law q f es e = rw (f.entry, e)

  moves_of : (q : Item) (f : Found t q) (es : List Entry) → q.operation ≡ as_move → copies_of (entry_for t q ∷ es) ≡ copies_of es
  moves_of q f es e = rw (f.entry, e)

  -- and its checks
  copy_fault : (os : ℕ → Object) (j : ℕ) (q : Item) (f : Found t q) (es : List Entry) → q.operation ≡ as_copy
      → copies_fault os j (entry_for t q ∷ es) ≡ first_of (first_fault j (copy_checks (os f.handle.object))) (copies_fault (change raise os f.handle.object) (suc j) es)
  copy_fault os j q f es e = rw (f.entry, e)

  move_fault : (os : ℕ → Object) (j : ℕ) (q : Item) (f : Found t q) (es : List Entry) → q.operation ≡ as_move → copies_fault os j (entry_for t q ∷ es) ≡ copies_fault os (suc j) es
  move_fault os j q f es e = rw (f.entry, e)

  tally_more : (o : ℕ) (ps : List Item) (q : Item) → tally t o (ps ++ (q ∷ [])) ≡ tally t o ps + tally t o (q ∷ [])
  tally_more o [] q = omega arith
  tally_more o (p ∷ ps) q = go (entry_for t p) (tally_more o ps q)
    where
      go : (e : Entry) → tally t o (ps ++ (q ∷ [])) ≡ tally t o ps + tally t o (q ∷ [])
          → in_handles o (copies_of (e ∷ map (entry_for t) (ps ++ (q ∷ [])))) ≡ in_handles o (copies_of (e ∷ map (entry_for t) ps)) + tally t o (q ∷ [])
      go (moved k h r) i = i
      go (copied h) i = omega (arith, i)

  -- ---- lowered

  lower_none : (ws : List ℕ) (q : Item) → copy_link (load ws sh) b q ≡ 0 → lowered_item ws sh b q ≡ ws
  unfolding lowered_item
  lower_none ws q e = rw e

  lower_one : (ws : List ℕ) (q : Item) (o : ℕ) → copy_link (load ws sh) b q ≡ suc o → lowered_item ws sh b q ≡ lower_w ws sh o
  unfolding lowered_item
  lower_one ws q o e = let z : suc o - 1 ≡ o = omega arith in rw (e, z, ne_eqb (suc o) 0 (λ d. omega arith))

  -- the counts of the copies among the items fall by one each, and no object is retired
  record Lowered (ws : List ℕ) (os : ℕ → Object) (ps : List Item) (ws' : List ℕ) : Type 0 where
    objects : ℕ → Object
    held : Held ws' sh (with_objects s objects)
    only : Objects ws ws' sh
    fallen : (o : ℕ) → objects o ≡ with_count (os o) (os o).stage ((os o).count - tally t o ps)

  lowered_all : (ps : List Item) (ws : List ℕ) (os : ℕ → Object) → All (Found t) ps → Held ws sh (with_objects s os) → ((o : ℕ) → 0 < tally t o ps → tally t o ps < (os o).count)
      → Lowered ws os ps (lowered_items ws sh b ps)
  unfolding lowered_items
  lowered_all [] ws os fs h c = record { objects = os; held = h; only = objects_none ws sh; fallen = λ o. let z : (os o).count - 0 ≡ (os o).count = omega arith in rw z }
  lowered_all (q ∷ ps) ws os fs h c = go q.operation refl (λ v u g i k. lowered_all ps v u g i k)
    where
      f : Found t q
      f = fs.0

      go : (op : Operation) → q.operation ≡ op
          → ((v : List ℕ) (u : ℕ → Object) → All (Found t) ps → Held v sh (with_objects s u) → ((o : ℕ) → 0 < tally t o ps → tally t o ps < (u o).count) → Lowered v u ps (lowered_items v sh b ps))
          → Lowered ws os (q ∷ ps) (lowered_items (lowered_item ws sh b q) sh b ps)
      go as_move e rest =
          let k = moves_of q f (map (entry_for t) ps) e in
          let r = rest ws os fs.1 h (λ o p. let z : tally t o (q ∷ ps) ≡ tally t o ps = ap (in_handles o) k in omega (arith, c o (omega arith))) in
          rw (lower_none ws q ((links ws os h q f).moves e))
          (record { objects = r.objects; held = r.held; only = r.only; fallen = λ o. r.fallen o ∙ ap (λ (hs : List Handle). with_count (os o) (os o).stage ((os o).count - in_handles o hs)) (sym k) })
      go as_copy e rest =
          let k = copies_of_law q f (map (entry_for t) ps) e in
          let x : ℕ = f.handle.object in
          let i = links ws os h q f in
          let v : List ℕ = lower_w ws sh f.handle.object in
          let u : ℕ → Object = change lower os f.handle.object in
          let sum : (o : ℕ) → tally t o (q ∷ ps) ≡ bit (eqb f.handle.object o) + tally t o ps = λ o. ap (in_handles o) k in
          let own : bit (eqb f.handle.object f.handle.object) ≡ 1 = rw (eq-eqb f.handle.object f.handle.object refl) in
          let many : 1 < (os f.handle.object).count = omega (arith, own, sum f.handle.object, c f.handle.object (omega (arith, own, sum f.handle.object))) in
          let at : (o : ℕ) → u o ≡ with_count (os o) (os o).stage ((os o).count - bit (eqb f.handle.object o)) = λ o. lower_at os f.handle.object o many in
          let cnt : (o : ℕ) → (u o).count ≡ (os o).count - bit (eqb f.handle.object o) = λ o. ap (λ (y : Object). y.count) (at o) in
          let r = rest v u fs.1 (lower_held ws sh (with_objects s os) h f.handle.object i.known)
          (λ o p. omega (arith, cnt o, sum o, c o (omega (arith, sum o)))) in
          rw (lower_one ws q f.handle.object (i.copies e))
          (record {
            objects = r.objects;
            held = r.held;
            only = objects_then ws v (lowered_items v sh b ps) sh (objects_step lowered_by ws sh f.handle.object h.reps.shaped.room) r.only;
            fallen = λ o. r.fallen o ∙ rw (at o) (ap (with_count (os o) (os o).stage) (omega (arith, sum o)));
          })

  -- ---- raised

  -- the counts of the copies among the items ps have risen by one each, since the words ws that represent s
  record Risen (ws : List ℕ) (ps : List Item) (ws' : List ℕ) (os : ℕ → Object) : Type 0 where
    held : Held ws' sh (with_objects s os)
    only : Objects ws ws' sh
    risen : (o : ℕ) → os o ≡ with_count (s.objects o) (s.objects o).stage ((s.objects o).count + tally t o ps)
    within : (o : ℕ) → o < s.object_count → (os o).count ≤ (os o).limit

  risen_none : (ws : List ℕ) → Held ws sh s → Risen ws [] ws s.objects
  risen_none ws h = record {
    held = h;
    only = objects_none ws sh;
    risen = λ o. let z : (s.objects o).count + 0 ≡ (s.objects o).count = omega arith in rw z;
    within = w.counts.within;
  }

  -- LOWERED AGAIN, every word is as it was
  back : (ws : List ℕ) (ps : List Item) (ws' : List ℕ) (os : ℕ → Object) → Held ws sh s → All (Found t) ps → ((o : ℕ) → 0 < tally t o ps → 1 ≤ (s.objects o).count)
      → Risen ws ps ws' os → lowered_items ws' sh b ps ≡ ws
  back ws ps ws' os h fs c p =
      let cnt : (o : ℕ) → (os o).count ≡ (s.objects o).count + tally t o ps = λ o. ap (λ (x : Object). x.count) (p.risen o) in
      let r = lowered_all ps ws' os fs p.held (λ o q. omega (arith, cnt o, c o q)) in
      words_back ws (lowered_items ws' sh b ps) sh s r.objects h r.held (objects_then ws ws' (lowered_items ws' sh b ps) sh p.only r.only)
      (λ o. r.fallen o ∙ rw (p.risen o) (let z : (s.objects o).count + tally t o ps - tally t o ps ≡ (s.objects o).count = omega arith in rw z))

  raise_none : (ws : List ℕ) (q : Item) → copy_link (load ws sh) b q ≡ 0 → raised_item ws sh b q ≡ raised passed ws
  unfolding raised_item
  raise_none ws q e = rw e

  raise_one : (ws : List ℕ) (q : Item) (o : ℕ) → copy_link (load ws sh) b q ≡ suc o → copy_stop (load ws sh) o ≡ passed → raised_item ws sh b q ≡ raised passed (raise_w ws sh o)
  unfolding raised_item
  raise_one ws q o e d = let z : suc o - 1 ≡ o = omega arith in rw (e, z, ne_eqb (suc o) 0 (λ d. omega arith), d)

  raise_not : (ws : List ℕ) (q : Item) (o : ℕ) → copy_link (load ws sh) b q ≡ suc o → 0 < (copy_stop (load ws sh) o).number
      → raised_item ws sh b q ≡ raised (copy_stop (load ws sh) o) ws
  unfolding raised_item
  raise_not ws q o e m = let z : suc o - 1 ≡ o = omega arith in rw (e, z, ne_eqb (suc o) 0 (λ d. omega arith), ne_eqb (copy_stop (load ws sh) o).number 0 (λ d. omega arith))

  raised_none : (ws : List ℕ) (ps : List Item) (j : ℕ) → raised_items ws sh b ps j [] ≡ tried no_fault ws
  unfolding raised_items
  raised_none ws ps j = refl

  raised_on : (ws vs : List ℕ) (ps : List Item) (j : ℕ) (q : Item) (qs : List Item) → raised_item ws sh b q ≡ raised passed vs
      → raised_items ws sh b ps j (q ∷ qs) ≡ raised_items vs sh b (ps ++ (q ∷ [])) (suc j) qs
  unfolding raised_items
  raised_on ws vs ps j q qs e = rw e

  raised_off : (ws : List ℕ) (ps : List Item) (j : ℕ) (q : Item) (qs : List Item) (x : Stop) → raised_item ws sh b q ≡ raised x ws → 0 < x.number
      → raised_items ws sh b ps j (q ∷ qs) ≡ tried (in_position j x) (lowered_items ws sh b ps)
  unfolding raised_items
  raised_off ws ps j q qs x e m = rw (e, ne_eqb x.number 0 (λ d. omega arith))

  module _ (ws : List ℕ) (h : Held ws sh s) (all : List Item) where
    -- THE COPIES of all items, one by one: of the items qs from position j on, behind the items ps
    raised_all : (qs ps : List Item) (j : ℕ) (ws' : List ℕ) (os : ℕ → Object) → ps ++ qs ≡ all → All (Found t) ps → All (Found t) qs
        → ((o : ℕ) → 0 < tally t o ps → 1 ≤ (s.objects o).count) → ((o : ℕ) → 0 < tally t o qs → 1 ≤ (s.objects o).count) → Risen ws ps ws' os
        → Outcome sh s b ws all (change_all raise (copies_of (map (entry_for t) qs)) os) (copies_fault os j (map (entry_for t) qs)) (raised_items ws' sh b ps j qs)
    raised_all [] ps j ws' os whole gs fs d c p = rw (raised_none ws' ps j, ← whole, append-nil ps) (refl, p.held, back ws ps ws' os h gs d p)
    raised_all (q ∷ qs) ps j ws' os whole gs fs d c p =
        go q.operation refl (λ v u k m. raised_all qs (ps ++ (q ∷ [])) (suc j) v u (append_assoc ps (q ∷ []) qs ∙ whole) (all_more ps gs) fs.1 m k)
      where
        f : Found t q
        f = fs.0

        all_more : (ps : List Item) → All (Found t) ps → All (Found t) (ps ++ (q ∷ []))
        all_more [] a = (fs.0, tt)
        all_more (x ∷ xs) a = (a.0, all_more xs a.1)

        Rest : Type 0
        Rest = (v : List ℕ) (u : ℕ → Object) → ((o : ℕ) → 0 < tally t o qs → 1 ≤ (s.objects o).count) → ((o : ℕ) → 0 < tally t o (ps ++ (q ∷ [])) → 1 ≤ (s.objects o).count) → Risen ws (ps ++ (q ∷ [])) v u
            → Outcome sh s b ws all (change_all raise (copies_of (map (entry_for t) qs)) u) (copies_fault u (suc j) (map (entry_for t) qs)) (raised_items v sh b (ps ++ (q ∷ [])) (suc j) qs)

        -- the copy's checks
        copy : q.operation ≡ as_copy → (g : Option Fault) → first_fault j (copy_checks (os f.handle.object)) ≡ g → StopTells j g (copy_stop (load ws' sh) f.handle.object) → Rest
            → Outcome sh s b ws all (change_all raise (with_rights f.handle q.rights ∷ copies_of (map (entry_for t) qs)) os)
            (first_of g (copies_fault (change raise os f.handle.object) (suc j) (map (entry_for t) qs))) (raised_items ws' sh b ps j (q ∷ qs))
        copy e (some n) fault tells rest =
            let i = links ws' os p.held q f in
            let x : Stop = copy_stop (load ws' sh) f.handle.object in
            let low : 0 < n.number = rw (← tells.0) tells.1 in
            rw (raised_off ws' ps j q qs x (raise_not ws' q f.handle.object (i.copies e) tells.1) tells.1)
            (tells.0, low, back ws ps ws' os h gs d p)
        copy e none fault tells rest =
            let i = links ws' os p.held q f in
            let x : ℕ = f.handle.object in
            let v : List ℕ = raise_w ws' sh f.handle.object in
            let u : ℕ → Object = change raise os f.handle.object in
            let one : (o : ℕ) → tally t o (q ∷ []) ≡ bit (eqb f.handle.object o) + 0 = λ o. ap (in_handles o) (copies_of_law q f [] e) in
            let sum : (o : ℕ) → tally t o (q ∷ qs) ≡ bit (eqb f.handle.object o) + tally t o qs = λ o. ap (in_handles o) (copies_of_law q f (map (entry_for t) qs) e) in
            let at : (o : ℕ) → u o ≡ with_count (os o) (os o).stage ((os o).count + bit (eqb f.handle.object o)) = λ o. raise_at os f.handle.object o in
            let low : (os f.handle.object).count < (os f.handle.object).limit = not_full (os f.handle.object) fault (p.within f.handle.object i.known) in
            let lim : (os f.handle.object).limit ≡ (s.objects f.handle.object).limit = ap (λ (y : Object). y.limit) (p.risen f.handle.object) in
            let room = limit_room (os f.handle.object).count (os f.handle.object).limit (omega (arith, lim, (w.ranges.objects f.handle.object i.known).limit)) low in
            rw (raised_on ws' v ps j q qs (raise_one ws' q f.handle.object (i.copies e) tells))
            (rest v u (λ o m. c o (omega (arith, sum o)))
            (λ o m. split o m (one o) (sum o))
            (record {
              held = raise_held ws' sh (with_objects s os) p.held f.handle.object i.known room;
              only = objects_then ws ws' v sh p.only (objects_step raised_by ws' sh f.handle.object p.held.reps.shaped.room);
              risen = λ o. at o ∙ rw (p.risen o) (ap (with_count (s.objects o) (s.objects o).stage) (omega (arith, one o, tally_more o ps q)));
              within = λ o m. grown o m at low;
            }))
          where
            not_full : (x : Object) → first_fault j (copy_checks x) ≡ none → x.count ≤ x.limit → x.count < x.limit
            not_full x z k = bool (is_now_retired x.stage)
                (λ a. let g : Fault = record { number = 9; position = j; place = 16 } in let y : some g ≡ none = rw a at z in apart (cc))
                (λ a. bool (eqb x.count x.limit)
                (λ b. let g : Fault = record { number = 11; position = j; place = 17 } in let y : some g ≡ none = rw (a, b) at z in apart (cc))
                (λ b. omega (arith, eqb-false x.count x.limit b)))

            split : (o : ℕ) → 0 < tally t o (ps ++ (q ∷ [])) → tally t o (q ∷ []) ≡ bit (eqb f.handle.object o) + 0 → tally t o (q ∷ qs) ≡ bit (eqb f.handle.object o) + tally t o qs
                → 1 ≤ (s.objects o).count
            split o m a b = bool (ltb 0 (tally t o ps))
                (λ y. d o (ltb-true 0 (tally t o ps) y))
                (λ y. c o (omega (arith, tally_more o ps q, ltb-false 0 (tally t o ps) y)))

            grown : (o : ℕ) → o < s.object_count → ((o : ℕ) → change raise os f.handle.object o ≡ with_count (os o) (os o).stage ((os o).count + bit (eqb f.handle.object o)))
                → (os f.handle.object).count < (os f.handle.object).limit → (change raise os f.handle.object o).count ≤ (change raise os f.handle.object o).limit
            grown o m at low = rw (at o) (bool (eqb f.handle.object o)
                (λ y. let z : f.handle.object ≡ o = eqb-true f.handle.object o y in let low' : (os o).count < (os o).limit = rw z at low in rw y (omega arith))
                (λ y. rw y (omega (arith, p.within o m))))

        go : (op : Operation) → q.operation ≡ op → Rest
            → Outcome sh s b ws all (change_all raise (copies_of (map (entry_for t) (q ∷ qs))) os) (copies_fault os j (map (entry_for t) (q ∷ qs))) (raised_items ws' sh b ps j (q ∷ qs))
        go as_move e rest =
            let one : (o : ℕ) → tally t o (q ∷ []) ≡ 0 = λ o. ap (in_handles o) (moves_of q f [] e) in
            let sum : (o : ℕ) → tally t o (q ∷ qs) ≡ tally t o qs = λ o. ap (in_handles o) (moves_of q f (map (entry_for t) qs) e) in
            rw (moves_of q f (map (entry_for t) qs) e, move_fault os j q f (map (entry_for t) qs) e, raised_on ws' ws' ps j q qs (raise_none ws' q ((links ws' os p.held q f).moves e)))
            (rest ws' os (λ o m. c o (omega (arith, sum o))) (λ o m. d o (omega (arith, one o, tally_more o ps q)))
            (record {
              held = p.held;
              only = p.only;
              risen = λ o. let z : tally t o (ps ++ (q ∷ [])) ≡ tally t o ps = omega (arith, one o, tally_more o ps q) in rw z (p.risen o);
              within = p.within;
            }))
        go as_copy e rest = let i = links ws' os p.held q f in
            rw (copies_of_law q f (map (entry_for t) qs) e, copy_fault os j q f (map (entry_for t) qs) e)
            (copy e (first_fault j (copy_checks (os f.handle.object))) refl
            (copy_tells (load ws' sh) f.handle.object (os f.handle.object) (p.held.reps.memory.objects f.handle.object i.known) j) rest)

    -- from the first on
    pub raised_outcome : All (Found t) all → ((o : ℕ) → 0 < tally t o all → 1 ≤ (s.objects o).count)
        → Outcome sh s b ws all (change_all raise (copies_of (map (entry_for t) all)) s.objects) (copies_fault s.objects 0 (map (entry_for t) all)) (raised_items ws sh b [] 0 all)
    raised_outcome fs c = raised_all all [] 0 ws s.objects refl tt fs (λ o m. absurd (omega arith)) c (risen_none ws h)
