-- Document 02, 2: `get_info` shows a handle that is being moved, from the preparation to the end of its claim. Of any claim, a transfer's with copies or without and a consumption's.
use Rattle.std.specs.Prelude.{◌≡◌, true, not, length, eqb, ltb}
use Rattle.std.proofs.Math.Path.{refl, ap, subst}
use Rattle.std.proofs.Common.{sym, ◌∙◌, arith}
use mathlib.Core.List.{List, [], ◌∷◌, map}
use Rattle.std.proofs.Math.Option.{Option, some}
use Prim.Native.Nat.{ℕ, zero, suc, ◌+◌, ◌≤◌, ◌<◌}
use borrow.Author.Tests.{ltb-true, eqb-true, lt-ltb, eq-eqb, not-true}
use Rattle.authority.specs.Rights.{contains}
use Rattle.codec.specs.Codec.{decodes, slot_in, generation_in}
use Rattle.model.specs.Base.{bit, every, nth, occurs}
use Rattle.model.specs.State.{Sizes, Handle, Slot, Slot.transfer_reserved, Slot.occupied, Table, Entry, Entry.moved, Entry.copied, Body.reservation, Body.claim, State}
use Rattle.model.specs.State.{generation, is_active}
use Rattle.model.specs.Storage.{place, keep, vacate, vacate_all}
use Rattle.model.specs.Objects.{raise, lower, info_for}
use Rattle.model.specs.Request.{Route, Operation, Operation.as_move, Operation.as_copy, Item, Request, Request.get_info, Request.prepare_transfer, Request.prepare_consumption, Request.rollback, Request.direct_rollback, Answer.done, Answer.info_of, Answer.opened}
use Rattle.model.specs.Book.{find, moved_of, copies_of, free_row, id_left}
use Rattle.model.specs.Lookup.{View.busy, lookup, handle_or, kept_for, look_at}
use Rattle.model.specs.Transfer.{is_copy, entry_by, entry_for}
use Rattle.model.specs.Step.{restore_all, get_info_of, prepare_consumption_of, rollback_of, direct_rollback_of, decide, step, run}
use Rattle.model.specs.WellFormed.{WellFormed, is_moving_by}
use Rattle.model.proofs.Tests.{apart, bool, clash, and_left, and_right, some_same}
use Rattle.model.proofs.Decided.{Decided, Any, accepts, checked, with_view, with_reservation}
use Rattle.noninterference.specs.Runs.{is_move, names_id}
use Rattle.noninterference.proofs.Marks.{stems_restore_all, entry_marked, entry_once}
use Rattle.noninterference.proofs.Rows.{rise_below, claim_open}
use Rattle.noninterference.proofs.Endings.{vacate_life, vacate_mask, vacate_other}
use Rattle.noninterference.proofs.Stays.{SameObject, raises, lowers, change_all_same, Stays, step_stays}
use Rattle.noninterference.proofs.Items.{Names, look_holds, AllName}
use Rattle.noninterference.proofs.Lists.{mark_is}
use Rattle.noninterference.proofs.Start.{marks_gen, marks_mask, marked, claimed, row, accepted_leaves, opens_to}

-- the same info, by the fields that no request changes
pub info_same : (s u : State) (h : Handle) → SameObject (s.objects h.object) (u.objects h.object) → info_for u h ≡ info_for s h
info_same s u h p = λ i. record { koid = p.koid i; kind = p.kind i; rights = h.rights; flags = h.flags }

-- a value of an active table that shows the handle h
shows : (z : Sizes) (s : State) (b v : ℕ) (h : Handle) → b < s.table_count → is_active (s.tables b).life ≡ true → look_at s (s.tables b) v ≡ some h
    → (step z s (get_info b v)).1 ≡ info_of (info_for s h)
unfolding step decide get_info_of
shows z s b v h l a e = rw (lt-ltb b s.table_count l, a, e)

-- v names the slot that the open claim t of table b moves, and the claim keeps h for it
pub record Moving (t b v : ℕ) (h : Handle) (s : State) : Type 0 where
  pub es : List Entry
  pub table : b < s.table_count
  pub valid : decodes (s.tables b).mask v ≡ true
  pub there : (s.tables b).slots (slot_in (s.tables b).mask v) ≡ transfer_reserved (generation_in (s.tables b).mask v) t
  pub row : find t s.book.rows ≡ some (claim b es)
  pub kept : kept_for (slot_in (s.tables b).mask v) es ≡ some h

-- what is kept for a slot is kept for a moved one
kept_moved : (k : ℕ) (h : Handle) (es : List Entry) → kept_for k es ≡ some h → 1 ≤ occurs k (moved_of es)
kept_moved k h [] e = apart (cc)
kept_moved k h (moved j y r ∷ es) e = bool (eqb k j) (λ q. rw q (omega arith)) (λ q. rw q (omega (arith, kept_moved k h es (rw q at e))))
kept_moved k h (copied y ∷ es) e = kept_moved k h es e

module _ (z : Sizes) (t b v : ℕ) (h : Handle) where
  -- "a table not active has no open reservation or claim"
  pub live : (s : State) → WellFormed z s → Moving t b v h s → is_active (s.tables b).life ≡ true
  live s w m = bool (is_active (s.tables b).life) (λ e. e) (λ e. clash (claim_open t b m.es s.book.rows m.row) (w.lifecycles.closing b e))

  -- it is Busy to every request but `get_info`
  pub is_busy_there : (s : State) → Moving t b v h s → lookup (s.tables b) v ≡ busy
  is_busy_there s m = rw (m.valid, m.there, eq-eqb (generation_in (s.tables b).mask v) (generation_in (s.tables b).mask v) refl)

  -- `get_info` shows the handle that the claim keeps
  pub moving_shows : (s : State) → WellFormed z s → Moving t b v h s → (step z s (get_info b v)).1 ≡ info_of (info_for s h)
  moving_shows s w m = shows z s b v h m.table (live s w m)
      (rw (m.valid, m.there, eq-eqb (generation_in (s.tables b).mask v) (generation_in (s.tables b).mask v) refl, m.row) m.kept)

  -- whatever leaves the claim leaves it moving
  moving_stays : (s u : State) → WellFormed z u → Stays t s u → Moving t b v h s → Moving t b v h u
  moving_stays s u w p m =
      let k : ℕ = slot_in (s.tables b).mask v in
      let row : find t u.book.rows ≡ some (claim b m.es) = p.row ∙ m.row in
      let marked : is_moving_by t ((u.tables b).slots k) ≡ true = entry_marked u w t b m.es row k (kept_moved k h m.es m.kept) in
      let g : (n : ℕ) × ((u.tables b).slots k ≡ transfer_reserved n t) = mark_is t ((u.tables b).slots k) marked in
      let e : transfer_reserved g.0 t ≡ transfer_reserved (generation_in (s.tables b).mask v) t = sym ((p.tables b).marks k g.0 g.1) ∙ m.there in
      record {
        es = m.es;
        table = rw p.table_count m.table;
        valid = rw (p.tables b).mask m.valid;
        there = rw (p.tables b).mask (g.1 ∙ e);
        row = row;
        kept = rw (p.tables b).mask m.kept;
      }

  -- after a list that does not name the claim's id
  pub record Meanwhile (s u : State) : Type 0 where
    pub wf : WellFormed z u
    pub moving : Moving t b v h u
    pub objects : (o : ℕ) → SameObject (s.objects o) (u.objects o)

  module _ (kept : (s : State) → WellFormed z s → (r : Request) → WellFormed z (step z s r).0) where
    pub held_through : (s u : State) → Meanwhile s u → (rs : List Request) → every (λ r. not (names_id t r)) rs ≡ true → Meanwhile s (run z u rs).0
    held_through s u p [] n = p
    held_through s u p (r ∷ rs) n =
        let fresh : u.book.next ≡ t → ⊥ = λ e. omega (arith, e, rise_below 1 u.book.next t (claim b p.moving.es) u.book.rows p.wf.ids.rise p.moving.row) in
        let q : Stays t u (step z u r).0 = step_stays t z u fresh r (not-true _ (and_left _ _ n)) in
        let w : WellFormed z (step z u r).0 = kept u p.wf r in
        held_through s (step z u r).0 (record {
          wf = w;
          moving = moving_stays u (step z u r).0 w q p.moving;
          objects = λ o. record { koid = (q.objects o).koid ∙ (p.objects o).koid; kind = (q.objects o).kind ∙ (p.objects o).kind };
        }) rs (and_right (not (names_id t r)) _ n)

    -- what `get_info` shows meanwhile
    pub held_shows : (s u : State) → Meanwhile s u → (step z u (get_info b v)).1 ≡ info_of (info_for s h)
    held_shows s u p = moving_shows u p.wf p.moving ∙ ap info_of (info_same s u h (p.objects h.object))

-- ---- the rollback

module _ (z : Sizes) where
  restore_other : (es : List Entry) (y : Table) (k : ℕ) → occurs k (moved_of es) ≡ 0 → (restore_all z es y).slots k ≡ y.slots k
  unfolding place
  restore_other [] y k o = refl
  restore_other (moved j h r ∷ es) y k o = bool (eqb k j)
      (λ q. absurd (let c : 1 + occurs k (moved_of es) ≡ 0 = rw q at o in omega arith))
      (λ q. restore_other es (keep z (λ g. occupied g h) y j) k (omega (arith, rw q at o)) ∙ rw q)
  restore_other (copied h ∷ es) y k o = restore_other es y k o

  restore_own : (es : List Entry) (y : Table) (k : ℕ) (h : Handle) → kept_for k es ≡ some h → occurs k (moved_of es) ≤ 1 → (restore_all z es y).slots k ≡ occupied (generation (y.slots k)) h
  unfolding place
  restore_own [] y k h e o = cc
  restore_own (moved j x r ∷ es) y k h e o = bool (eqb k j)
      (λ q. let c : 1 + occurs k (moved_of es) ≤ 1 = rw q at o in
      let d : some x ≡ some h = rw q at e in
      restore_other es (keep z (λ g. occupied g x) y j) k (omega arith) ∙ rw (q, ← eqb-true k j q, some_same x h d))
      (λ q. restore_own es (keep z (λ g. occupied g x) y j) k h (rw q at e) (omega (arith, rw q at o)) ∙ rw q)
  restore_own (copied x ∷ es) y k h e o = restore_own es y k h e o

  restore_life : (es : List Entry) (y : Table) → (restore_all z es y).life ≡ y.life
  unfolding place
  restore_life [] y = refl
  restore_life (moved j x r ∷ es) y = restore_life es (keep z (λ g. occupied g x) y j)
  restore_life (copied x ∷ es) y = restore_life es y

module _ (z : Sizes) (t b v : ℕ) (h : Handle) where
  -- x is the claim's table with the handle in its slot again
  record Returned (s : State) (x : Table) : Type 0 where
    pub life : x.life ≡ (s.tables b).life
    pub mask : x.mask ≡ (s.tables b).mask
    pub there : x.slots (slot_in (s.tables b).mask v) ≡ occupied (generation_in (s.tables b).mask v) h

  restored : (s : State) → WellFormed z s → (m : Moving t b v h s) → Returned s (restore_all z m.es (s.tables b))
  restored s w m = let y : Table = s.tables b in let k : ℕ = slot_in y.mask v in record {
    life = restore_life z m.es y;
    mask = (stems_restore_all t z m.es y).mask;
    there = restore_own z m.es y k h m.kept (entry_once s w t b m.es m.row k) ∙ ap (λ (x : Slot). occupied (generation x) h) m.there;
  }

  -- slots that fall vacant, of which it is none
  vacated : (s : State) (x : Table) → Returned s x → (ks : List ℕ) → occurs (slot_in (s.tables b).mask v) ks ≡ 0 → Returned s (vacate_all z ks x)
  vacated s x p [] o = p
  vacated s x p (k ∷ ks) o = vacated s (vacate z x k) (record {
    life = vacate_life z x k ∙ p.life;
    mask = vacate_mask z x k ∙ p.mask;
    there = vacate_other z x k (slot_in (s.tables b).mask v) (bool (eqb (slot_in (s.tables b).mask v) k) (λ q. absurd (omega (arith, rw q at o))) (λ q. q)) ∙ p.there;
  }) ks (omega (arith, o))

  -- `get_info` shows it there
  returned_shows : (s u : State) → WellFormed z s → Moving t b v h s → u.table_count ≡ s.table_count → Returned s (u.tables b) → SameObject (s.objects h.object) (u.objects h.object)
      → (step z u (get_info b v)).1 ≡ info_of (info_for s h)
  returned_shows s u w m c p o = let g : ℕ = generation_in (s.tables b).mask v in
      shows z u b v h (rw c m.table) (rw p.life (live z t b v h s w m)) (rw (p.mask, m.valid, p.there, eq-eqb g g refl)) ∙ ap info_of (info_same s u h o)

  -- after a rollback
  pub back_shows : (s : State) → WellFormed z s → Moving t b v h s → (step z (step z s (rollback t)).0 (get_info b v)).1 ≡ info_of (info_for s h)
  unfolding step decide rollback_of
  back_shows s w m = returned_shows s (step z s (rollback t)).0 w m (rw m.row) (rw (m.row, eq-eqb b b refl) (restored s w m)) (rw m.row (change_all_same lower lowers (copies_of m.es) s.objects h.object))

  -- after a direct rollback, which aborts a reservation too: the reservation's slots are others
  slots_apart : (s : State) → WellFormed z s → Moving t b v h s → (j : ℕ) (ks : List ℕ) → find j s.book.rows ≡ some (reservation b ks) → occurs (slot_in (s.tables b).mask v) ks ≡ 0
  slots_apart s w m j ks e = rw (e, m.there, eq-eqb b b refl) at (w.marks.reserved j b (slot_in (s.tables b).mask v))

  -- what `get_info` shows in u is what the handle was in s
  abbrev ShownAs : State → State → Type 0
  ShownAs s u = (step z u (get_info b v)).1 ≡ info_of (info_for s h)

  direct_leaves : (s : State) → WellFormed z s → Moving t b v h s → (j : ℕ) → Decided Any Any (λ u a. a ≡ done → ShownAs s u) (direct_rollback_of z s t j)
  unfolding direct_rollback_of
  direct_leaves s w m j = rw m.row (
      with_reservation (find j s.book.rows) tt λ c ks e.
      checked (eqb (length m.es) (length ks)) 18 tt λ q.
      accepts λ d. returned_shows s _ w m refl
      (bool (eqb b c)
      (λ p. let i : c ≡ b = sym (eqb-true b c p) in rw (p, i, eq-eqb b b refl) (vacated s _ (restored s w m) ks (slots_apart s w m j ks (rw i at e))))
      (λ p. rw (p, eq-eqb b b refl) (restored s w m)))
      (change_all_same lower lowers (copies_of m.es) s.objects h.object))

  pub direct_back_shows : (s : State) → WellFormed z s → Moving t b v h s → (j : ℕ) → (step z s (direct_rollback t j)).1 ≡ done → ShownAs s (step z s (direct_rollback t j)).0
  unfolding step decide
  direct_back_shows s w m j = accepted_leaves z s done (ShownAs s) refl (direct_leaves s w m j)

-- ---- the preparation

-- what a preparation leaves of a value that it moves
pub record Prepared (z : Sizes) (s : State) (t b v : ℕ) (u : State) : Type 0 where
  pub handle : Handle
  pub before : (step z s (get_info b v)).1 ≡ info_of (info_for s handle)
  pub held : Meanwhile z t b v handle s u

module _ (z : Sizes) (s : State) (w : WellFormed z s) (b : ℕ) where
  abbrev y : Table
  y = s.tables b

  -- a new claim with an entry for the slot of v
  claim_begins : (es : List Entry) (v : ℕ) (h : Handle) → b < s.table_count → is_active y.life ≡ true → Names y v h → kept_for (slot_in y.mask v) es ≡ some h
      → WellFormed z (claimed z s b es) → Prepared z s s.book.next b v (claimed z s b es)
  claim_begins es v h l a n e f =
      let k : ℕ = slot_in y.mask v in
      let g : ℕ = generation_in y.mask v in
      let i : ℕ = s.book.next in
      let new : Table = marked z s b es in
      let yes : is_moving_by i (new.slots k) ≡ true = let o = entry_marked (claimed z s b es) f i b es (row z s w b es) k (kept_moved k h es e) in rw (eq-eqb b b refl) at o in
      let m : (j : ℕ) × (new.slots k ≡ transfer_reserved j i) = mark_is i (new.slots k) yes in
      let q : m.0 ≡ g = sym (ap generation m.1) ∙ marks_gen z i (moved_of es) y k ∙ ap generation n.there in
      let mask : new.mask ≡ y.mask = marks_mask z i (moved_of es) y in
      record {
        handle = h;
        before = shows z s b v h l a (rw (n.valid, n.there, eq-eqb g g refl));
        held = record {
          wf = f;
          moving = record {
            es = es;
            table = l;
            valid = rw (eq-eqb b b refl, mask) n.valid;
            there = rw (eq-eqb b b refl, mask) (m.1 ∙ ap (λ (j : ℕ). transfer_reserved j i) q);
            row = row z s w b es;
            kept = rw (eq-eqb b b refl, mask) e;
          };
          objects = change_all_same raise raises (copies_of es) s.objects;
        };
      }

  module _ (route : Route) (bo bk : Option ℕ) where
    item_names : (qs : List Item) → AllName s y route bo bk qs → (j : ℕ) (q : Item) → nth qs j ≡ some q → Names y q.value (handle_or (y.slots (slot_in y.mask q.value)))
    item_names [] a j q e = apart (cc)
    item_names (p ∷ qs) a zero q e = rw (← some_same p q e) a.0
    item_names (p ∷ qs) a (suc j) q e = item_names qs a.1 j q e

    -- the entry of a moved item keeps the handle of its slot, whatever stands before it
    kept_entry : (qs : List Item) (j : ℕ) (q : Item) → nth qs j ≡ some q → is_move q ≡ true
        → kept_for (slot_in y.mask q.value) (map (entry_for y) qs) ≡ some (handle_or (y.slots (slot_in y.mask q.value)))
    kept_entry [] j q e m = apart (cc)
    kept_entry (p ∷ qs) j q e m = go (λ i d. kept_entry qs i q d m) p.operation refl j e
      where
        k : ℕ
        k = slot_in y.mask q.value

        i : ℕ
        i = slot_in y.mask p.value

        go : ((j : ℕ) → nth qs j ≡ some q → kept_for k (map (entry_for y) qs) ≡ some (handle_or (y.slots k)))
            → (o : Operation) → p.operation ≡ o → (j : ℕ) → nth (p ∷ qs) j ≡ some q → kept_for k (entry_by o i (handle_or (y.slots i)) p.rights ∷ map (entry_for y) qs) ≡ some (handle_or (y.slots k))
        go later as_move d zero e = let x : p ≡ q = some_same p q e in rw (← x, eq-eqb i i refl)
        go later as_move d (suc j) e = bool (eqb k i) (λ c. rw (c, eqb-true k i c)) (λ c. rw c (later j e))
        go later as_copy d zero e = let x : p ≡ q = some_same p q e in clash m (ap (λ (a : Item). is_move a) (sym x) ∙ ap (λ (o : Operation). not (is_copy o)) d)
        go later as_copy d (suc j) e = later j e

    -- A TRANSFER, of moves and copies: each item that moves
    pub transfer_begins : (qs : List Item) (t : ℕ) → (step z s (prepare_transfer b route bo bk qs)).1 ≡ opened t → WellFormed z (step z s (prepare_transfer b route bo bk qs)).0
        → (j : ℕ) (q : Item) → nth qs j ≡ some q → is_move q ≡ true → Prepared z s t b q.value (step z s (prepare_transfer b route bo bk qs)).0
    transfer_begins qs t e f j q at_j m = opens_to z s w b route bo bk qs t (λ u. WellFormed z u → Prepared z s t b q.value u)
        (λ l a n i f. subst (λ (c : ℕ). Prepared z s c b q.value (claimed z s b (map (entry_for y) qs))) i
        (claim_begins (map (entry_for y) qs) q.value _ l a (item_names qs n j q at_j) (kept_entry qs j q at_j m) f)) e f

  -- A CONSUMPTION
  pub consumption_begins : (v r kind koid t : ℕ) → (step z s (prepare_consumption b v r kind koid)).1 ≡ opened t → WellFormed z (step z s (prepare_consumption b v r kind koid)).0
      → Prepared z s t b v (step z s (prepare_consumption b v r kind koid)).0
  unfolding step decide prepare_consumption_of
  consumption_begins v r kind koid t = accepted_leaves z s (opened t) (λ u. WellFormed z u → Prepared z s t b v u) refl (
      checked (ltb b s.table_count) 18 tt λ l.
      checked (is_active y.life) 16 tt λ a.
      checked (free_row s) 1 tt λ q.
      with_view (lookup y v) tt tt λ k h e.
      checked (contains h.rights r) 5 tt λ q.
      checked (eqb (s.objects h.object).kind kind) 4 tt λ q.
      checked (eqb (s.objects h.object).koid koid) 2 tt λ q.
      checked (id_left s) 12 tt λ q.
      accepts λ o f.
      let i : s.book.next ≡ t = cc in
      let n = look_holds y v k h e in
      subst (λ (c : ℕ). Prepared z s c b v (claimed z s b (moved k h h.rights ∷ []))) i
      (claim_begins (moved k h h.rights ∷ []) v h (ltb-true b s.table_count l) a n.1 (rw (eq-eqb (slot_in y.mask v) k (sym n.0))) f))
