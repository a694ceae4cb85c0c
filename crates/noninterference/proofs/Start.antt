-- A transfer of moves only, accepted: its claim is open, and without it the state is the one before.
use Rattle.std.specs.Prelude.{◌≡◌, true, false, ℕ, ◌+◌, ◌≤◌, ◌<◌, length, ltb, eqb}
use Rattle.std.proofs.Math.Path.{refl}
use Rattle.std.proofs.Common.{sym, ap, subst, ◌∙◌, arith}
use mathlib.Core.List.{List, [], ◌∷◌, map}
use Rattle.std.proofs.Math.Option.{Option, none, some}
use borrow.Author.Tests.{ltb-true, ltb-false, eqb-true, eq-eqb, ne_eqb, not-true}
use Rattle.codec.specs.Codec.{slot_in, generation_in}
use Rattle.model.specs.Base.{put, every, occurs, at_most}
use Rattle.model.specs.State.{Sizes, Slot, Slot.absent, Slot.vacant, Slot.reserved, Slot.transfer_reserved, Slot.occupied, Table, Entry, Body.claim, State}
use Rattle.model.specs.State.{generation, is_active, max_batch}
use Rattle.model.specs.Storage.{place, keep, keep_all}
use Rattle.model.specs.Change.{with_table, with_objects}
use Rattle.model.specs.Objects.{raise, change_all}
use Rattle.model.specs.Request.{Route, Operation, Operation.as_move, Operation.as_copy, Item, Request.prepare_transfer, Answer, Answer.opened}
use Rattle.model.specs.Book.{find, add_row, free_row, id_left, moved_of, copies_of}
use Rattle.model.specs.Decision.{Decision, Decision.refusal, Decision.refusal_after_id, Decision.accept}
use Rattle.model.specs.Lookup.{handle_or}
use Rattle.model.specs.Transfer.{is_copy, items_fault, copies_fault, entry_by, entry_for}
use Rattle.model.specs.Step.{restore_all, prepare_transfer_of, decide, carry, step}
use Rattle.model.specs.WellFormed.{WellFormed, is_moving_by}
use Rattle.noninterference.specs.Names.{value_of}
use Rattle.noninterference.specs.Runs.{is_move, accepted, lowered, with_slots}
use Rattle.noninterference.specs.Erase.{erase_slot, erase_table, erase}
use Rattle.model.proofs.Tests.{bool, clash, and_left, and_right}
use Rattle.model.proofs.Decided.{Decided, Any, accepts, checked, after_id}
use Rattle.invariant.proofs.BookLemmas.{ids_none}
use Rattle.noninterference.proofs.Basics.{lowered_above, lowered_below}
use Rattle.noninterference.proofs.Marks.{entry_marked, entry_once}
use Rattle.noninterference.proofs.Rows.{erase_new, find_new}
use Rattle.noninterference.proofs.Items.{AllName, all_name}
use Rattle.noninterference.proofs.Alike.{Held, Open}
use Rattle.noninterference.proofs.Lists.{mark_is}
use Rattle.noninterference.proofs.Restore.{Stand, restore_idle, agrees_own, mark_restored}

-- what a transfer leaves
pub record Begun (z : Sizes) (s : State) (t b : ℕ) (vs : List ℕ) (u : State) : Type 0 where
  pub es : List Entry
  pub claimed : Open z t b es vs u
  pub same : erase t es u ≡ s

-- contents that keep the generation keep it
module _ (z : Sizes) where
  place_gen : (x : Table) (k : ℕ) (y : Slot) → generation y ≡ generation (x.slots k) → (j : ℕ)
      → generation ((place z x k y).slots j) ≡ generation (x.slots j)
  unfolding place
  place_gen x k y e j = bool (eqb j k) (λ q. rw (q, eqb-true j k q) e) (λ q. rw q)

  place_mask : (x : Table) (k : ℕ) (y : Slot) → (place z x k y).mask ≡ x.mask
  unfolding place
  place_mask x k y = refl

  pub marks_gen : (t : ℕ) (ks : List ℕ) (x : Table) (j : ℕ) → generation ((keep_all z (λ g. transfer_reserved g t) ks x).slots j) ≡ generation (x.slots j)
  marks_gen t [] x j = refl
  marks_gen t (k ∷ ks) x j = marks_gen t ks (keep z (λ g. transfer_reserved g t) x k) j
      ∙ place_gen x k (transfer_reserved (generation (x.slots k)) t) refl j

  pub marks_mask : (t : ℕ) (ks : List ℕ) (x : Table) → (keep_all z (λ g. transfer_reserved g t) ks x).mask ≡ x.mask
  marks_mask t [] x = refl
  marks_mask t (k ∷ ks) x = marks_mask t ks (keep z (λ g. transfer_reserved g t) x k) ∙ place_mask x k (transfer_reserved (generation (x.slots k)) t)

-- what a decision leaves whose answer is that of an accepted request
pub accepted_leaves : (z : Sizes) (s : State) (answer : Answer) (P : State → Type 0) → accepted answer ≡ true → {d : Decision} → Decided Any Any (λ v a. a ≡ answer → P v) d
    → (carry z s d).1 ≡ answer → P (carry z s d).0
accepted_leaves z s answer P p {d} r = go d r
  where
    go : (d : Decision) → Decided Any Any (λ v a. a ≡ answer → P v) d → (carry z s d).1 ≡ answer → P (carry z s d).0
    go (refusal m) r e = clash p (sym (ap accepted e))
    go (refusal_after_id m) r e = clash p (sym (ap accepted e))
    go (accept v a) r e = r.leaves e

-- what a new claim of table b with these entries leaves
module _ (z : Sizes) (s : State) (b : ℕ) (es : List Entry) where
  abbrev pub marked : Table
  marked = keep_all z (λ g. transfer_reserved g s.book.next) (moved_of es) (s.tables b)

  abbrev pub claimed : State
  claimed = add_row (claim b es) (with_objects (with_table s b marked) (change_all raise (copies_of es) s.objects))

module _ (z : Sizes) (s : State) (w : WellFormed z s) where
  abbrev n : ℕ
  n = s.book.next

  none_from : (i : ℕ) → n ≤ i → find i s.book.rows ≡ none
  none_from i h = ids_none 1 n i s.book.rows w.ids.rise h

  -- marks are below the next id
  low_slot : (c k : ℕ) (x : Slot) → (s.tables c).slots k ≡ x → (es : List Entry) → erase_slot n es k x ≡ x
  low_slot c k absent e es = refl
  low_slot c k (vacant g) e es = refl
  low_slot c k (reserved g i) e es = bool (ltb i n)
      (λ q. rw (lowered_below n i (omega (arith, ltb-true i n q))))
      (λ q. let m : ◌≡◌ {A = ℕ} 0 1 = (rw (none_from i (ltb-false i n q), e, eq-eqb i i refl) at (w.marks.reserved i c k)) in absurd (omega arith))
  low_slot c k (transfer_reserved g i) e es = bool (ltb i n)
      (λ q. rw (ne_eqb i n (λ p. omega (arith, ltb-true i n q)), lowered_below n i (omega (arith, ltb-true i n q))))
      (λ q. let m : ◌≡◌ {A = ℕ} 0 1 = (rw (none_from i (ltb-false i n q), e, eq-eqb i i refl) at (w.marks.transfer_reserved i c k)) in
      absurd (omega arith))
  low_slot c k (occupied g h) e es = refl

  low_table : (es : List Entry) (c : ℕ) → erase_table n es (s.tables c) ≡ s.tables c
  low_table es c = λ i. with_slots (s.tables c) (λ k. low_slot c k ((s.tables c).slots k) refl es i)

  -- a new claim's row
  pub row : (b : ℕ) (es : List Entry) → find n (claimed z s b es).book.rows ≡ some (claim b es)
  row b es = find_new n (claim b es) s.book.rows (none_from n (omega arith))

  module _ (b : ℕ) (route : Route) (bo bk : Option ℕ) where
    abbrev y : Table
    y = s.tables b

    no_copies : (qs : List Item) → every is_move qs ≡ true → copies_of (map (entry_for y) qs) ≡ []
    no_copies [] m = refl
    no_copies (q ∷ qs) m = go q.operation (not-true _ (and_left _ _ m)) (no_copies qs (and_right (is_move q) _ m))
      where
        go : (a : Operation) → is_copy a ≡ false → copies_of (map (entry_for y) qs) ≡ []
            → copies_of (entry_by a (slot_in y.mask q.value) (handle_or (y.slots (slot_in y.mask q.value))) q.rights
            ∷ map (entry_for y) qs) ≡ []
        go as_move e r = r
        go as_copy e r = clash refl e

    stand : (qs : List Item) → AllName s y route bo bk qs → Stand z y (map (entry_for y) qs)
    stand [] a = tt
    stand (q ∷ qs) a = go q.operation (stand qs a.1)
      where
        k : ℕ
        k = slot_in y.mask q.value

        go : (o : Operation) → Stand z y (map (entry_for y) qs) → Stand z y (entry_by o k (handle_or (y.slots k)) q.rights ∷ map (entry_for y) qs)
        go as_move r = (rw a.0.there, (w.generations b k (rw a.0.there)).2, r)
        go as_copy r = r

    -- the slots are marked with the generations that the values name
    held : (x : Table) → x.mask ≡ y.mask → ((k : ℕ) → generation (x.slots k) ≡ generation (y.slots k)) → (qs : List Item) → every is_move qs ≡ true
        → AllName s y route bo bk qs → ((k : ℕ) → 1 ≤ occurs k (moved_of (map (entry_for y) qs)) → is_moving_by n (x.slots k) ≡ true)
        → Held n x (map (entry_for y) qs) (map value_of qs)
    held x p g [] m a o = tt
    held x p g (q ∷ qs) m a o = go q.operation (not-true _ (and_left _ _ m)) o (held x p g qs (and_right (is_move q) _ m) a.1)
      where
        v : ℕ
        v = q.value

        k : ℕ
        k = slot_in y.mask v

        there : is_moving_by n (x.slots k) ≡ true → x.slots k ≡ transfer_reserved (generation_in x.mask v) n
        there e = let f : (i : ℕ) × (x.slots k ≡ transfer_reserved i n) = mark_is n (x.slots k) e in
            let h : f.0 ≡ generation_in y.mask v = sym (ap generation f.1) ∙ g k ∙ ap generation a.0.there in
            rw p (f.1 ∙ ap (λ (i : ℕ). transfer_reserved i n) h)

        go : (d : Operation) → is_copy d ≡ false
            → ((j : ℕ) → 1 ≤ occurs j (moved_of (entry_by d k (handle_or (y.slots k)) q.rights ∷ map (entry_for y) qs))
            → is_moving_by n (x.slots j) ≡ true)
            → (((j : ℕ) → 1 ≤ occurs j (moved_of (map (entry_for y) qs)) → is_moving_by n (x.slots j) ≡ true)
            → Held n x (map (entry_for y) qs) (map value_of qs))
            → Held n x (entry_by d k (handle_or (y.slots k)) q.rights ∷ map (entry_for y) qs) (v ∷ map value_of qs)
        go as_move e o r = (rw p a.0.valid, rw p, there (o k (rw (eq-eqb k k refl) (omega arith))), r (λ j c. o j (omega arith)))
        go as_copy e o r = clash refl e

    abbrev entries : List Item → List Entry
    entries qs = map (entry_for y) qs

    -- the accepted transfer, of moves only
    module _ (qs : List Item) (m : every is_move qs ≡ true) (a : AllName s y route bo bk qs) where
      open_now : WellFormed z (claimed z s b (entries qs)) → Open z n b (entries qs) (map value_of qs) (claimed z s b (entries qs))
      open_now f = record {
        wf = f;
        row = row b (entries qs);
        held = rw (eq-eqb b b refl) (held (marked z s b (entries qs)) (marks_mask z n (moved_of (entries qs)) y) (marks_gen z n (moved_of (entries qs)) y) qs m a
            (λ k c. let e = entry_marked (claimed z s b (entries qs)) f n b (entries qs) (row b (entries qs)) k c in rw (eq-eqb b b refl) at e));
      }

      erased : WellFormed z (claimed z s b (entries qs)) → erase_table n (entries qs) (marked z s b (entries qs)) ≡ y
      erased f =
          mark_restored z n (entries qs) (entries qs)
          (agrees_own (entries qs) (entry_once (claimed z s b (entries qs)) f n b (entries qs) (row b (entries qs)))) y
          ∙ ap (restore_all z (entries qs)) (low_table (entries qs) b)
          ∙ restore_idle z y (entries qs) (stand qs a)

      same_tables : WellFormed z (claimed z s b (entries qs)) → (c : ℕ) → erase_table n (entries qs) (put s.tables b (marked z s b (entries qs)) c) ≡ s.tables c
      same_tables f c = bool (eqb c b) (λ e. rw (e, eqb-true c b e) (erased f)) (λ e. rw e (low_table (entries qs) c))

      same_next : lowered n (n + 1) ≡ n
      same_next = rw (lowered_above n (n + 1) (omega arith)) (omega arith)

      same_objects : change_all raise (copies_of (entries qs)) s.objects ≡ s.objects
      same_objects = rw (no_copies qs m)

      begun : WellFormed z (claimed z s b (entries qs)) → Begun z s n b (map value_of qs) (claimed z s b (entries qs))
      begun f = record {
        es = entries qs;
        claimed = open_now f;
        same = λ i. record {
          table_count = s.table_count;
          tables = λ c. same_tables f c i;
          object_count = s.object_count;
          objects = same_objects i;
          frame_count = s.frame_count;
          frames = s.frames;
          book = record { rows = erase_new 1 n (claim b (entries qs)) s.book.rows w.ids.rise i; capacity = s.book.capacity; next = same_next i };
        };
      }

      begun_as : (t : ℕ) → n ≡ t → WellFormed z (claimed z s b (entries qs)) → Begun z s t b (map value_of qs) (claimed z s b (entries qs))
      begun_as t i f = subst (λ (j : ℕ). Begun z s j b (map value_of qs) (claimed z s b (entries qs))) i (begun f)

    -- an accepted transfer has passed its checks: what holds of what it leaves, holds after the step
    pub opens_to : (qs : List Item) (t : ℕ) (P : State → Type 0) → (b < s.table_count → is_active y.life ≡ true → AllName s y route bo bk qs → n ≡ t → P (claimed z s b (entries qs)))
        → (step z s (prepare_transfer b route bo bk qs)).1 ≡ opened t → P (step z s (prepare_transfer b route bo bk qs)).0
    unfolding step decide prepare_transfer_of
    opens_to qs t P f = accepted_leaves z s (opened t) P refl (
        checked (ltb b s.table_count) 18 tt λ l.
        checked (is_active y.life) 16 tt λ a.
        checked (ltb 0 (length qs)) 17 tt λ q.
        checked (at_most (length qs) max_batch) 13 tt λ q.
        checked (free_row s) 1 tt λ q.
        checked (id_left s) 12 tt λ q.
        after_id (items_fault s y route bo bk [] 0 qs) (λ m e. tt) λ q.
        after_id (copies_fault s.objects 0 (entries qs)) (λ m e. tt) λ r.
        accepts λ e. f (ltb-true b s.table_count l) a (all_name s y route bo bk [] 0 qs q) (let i : n ≡ t = cc in i))

    pub opens : (qs : List Item) → every is_move qs ≡ true → (t : ℕ) → (step z s (prepare_transfer b route bo bk qs)).1 ≡ opened t
        → WellFormed z (step z s (prepare_transfer b route bo bk qs)).0
        → Begun z s t b (map value_of qs) (step z s (prepare_transfer b route bo bk qs)).0
    opens qs m t = opens_to qs t (λ v. WellFormed z v → Begun z s t b (map value_of qs) v) (λ l v a i. begun_as qs m a t i)
