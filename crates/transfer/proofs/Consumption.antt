-- Prepare consumption: its function takes the model's step. Assumes nothing.
use Rattle.std.specs.Prelude.{◌≡◌, Bool, false, not, List, [], ◌∷◌, ℕ, ◌<◌, length, eqb}
use Rattle.std.proofs.Math.Path.{refl}
use Rattle.std.proofs.Common.{sym, ap, ◌∙◌, arith}
use Rattle.std.proofs.Math.Bool.{true}
use borrow.Author.Tests.{eqb-true, eqb-false}
use Rattle.words.specs.Pick.{pick, bool}
use Rattle.authority.specs.Rights.{contains}
use Rattle.model.specs.Base.{occurs}
use Rattle.model.specs.State.{till, Handle, Slot.transfer_reserved, Table, Object, Entry.moved, Body.claim, State, last_id, is_busy}
use Rattle.model.specs.Storage.{keep}
use Rattle.model.specs.Change.{with_table}
use Rattle.model.specs.Book.{add_row, free_row, id_left}
use Rattle.model.specs.Request.{Request.prepare_consumption, Answer.opened}
use Rattle.model.specs.Decision.{Decision, Decision.refusal, Decision.accept, unless◌refuse◌then◌}
use Rattle.model.specs.Lookup.{lookup, on_view}
use Rattle.model.proofs.Decided.{on_handle}
use Rattle.model.specs.Step.{prepare_consumption_of, decide}
use Rattle.model.specs.Words.{used_words}
use Rattle.model.proofs.Counting.{bit_other}
use Rattle.layout.specs.declared.Shape.{Shape}
use Rattle.layout.specs.Layout.{index, load}
use Rattle.representation.specs.Represents.{Represents, Rep}
use Rattle.storage.specs.Reps.{Held, held_of}
use Rattle.book.specs.Ops.{spare}
use Rattle.answer.specs.Does.{refuse_r, Does, does_refused, does_accepted}
use Rattle.lookup.specs.declared.PreparedHandle.{PreparedHandle}
use Rattle.lookup.specs.View.{Opened}
use Rattle.lookup.specs.View.{Opened.Refused, Opened.Handle as Found}
use Rattle.lookup.specs.View.{table_refusal, open_of, handle_of}
use Rattle.lookup.specs.Named.{Opens, Active, active_on, table_open, table_refused, open_refused_is, open_found_is}
use Rattle.lookup.specs.Read.{on_opened, opened_known}
use Rattle.book.specs.Decided.{decided_by, refused_when, accepted_when, left_is, free_place, next_after}
use Rattle.transfer.specs.Ops.{moved_w, claim_w, consume_refusal, consumed_r, consumption_r}
use Rattle.transfer.proofs.Claim.{moved_enters, moved_in, enter_fills, claim_held}

abbrev consume_by : Bool → Bool → Bool → Bool → ℕ
consume_by c k o i = pick c (pick k (pick o (pick i 12 0) 2) 4) 5

consume_checks : (c k o i : Bool) (d : Decision) → (unless c refuse 5 then unless k refuse 4 then unless o refuse 2 then unless not i refuse 12 then d) ≡ decided_by (consume_by c k o i) d
consume_checks false k o i d = refl
consume_checks true false o i d = refl
consume_checks true true false i d = refl
consume_checks true true true true d = refl
consume_checks true true true false d = refl

consume_free : (c k o i : Bool) → consume_by c k o i ≡ 0 → i ≡ false
consume_free false k o i e = absurd (omega arith)
consume_free true false o i e = absurd (omega arith)
consume_free true true false i e = absurd (omega arith)
consume_free true true true true e = absurd (omega arith)
consume_free true true true false e = refl

-- the one slot that is moved
only_one : (k j : ℕ) → 0 < occurs j (k ∷ []) → j ≡ k
only_one k j o = bool (eqb j k)
    (λ e. eqb-true j k e)
    (λ e. absurd (omega (arith, bit_other j k (eqb-false j k e))))

module _ (ws : List ℕ) (sh : Shape) (s : State) (i : Rep ws sh s) (os : List ℕ) (base : ℕ) where
  r : Represents sh (load ws sh) s
  r = i.reps.memory

  module _ (b v rights kind koid : ℕ) where
    -- what follows the lookup
    abbrev consumes : Table → ℕ → Handle → Decision
    consumes t k h =
        unless contains h.rights rights refuse 5 then
        unless eqb (s.objects h.object).kind kind refuse 4 then
        unless eqb (s.objects h.object).koid koid refuse 2 then
        unless id_left s refuse 12 then
        accept (add_row (claim b (moved k h h.rights ∷ [])) (with_table s b (keep till (λ g. transfer_reserved g s.book.next) t k))) (opened s.book.next)

    abbrev after_table : Table → Decision
    after_table t = unless free_row s refuse 1 then on_view (lookup t v) 2 3 (consumes t)

    table_is : Active s b → prepare_consumption_of till s b v rights kind koid ≡ after_table (s.tables b)
    unfolding prepare_consumption_of
    table_is a = active_on s b a after_table

    inactive_is : (n : ℕ) → table_refusal (load ws sh) sh b ≡ n → (n ≡ 0 → ⊥) → prepare_consumption_of till s b v rights kind koid ≡ refusal n
    unfolding prepare_consumption_of
    inactive_is n e ne = table_refused sh (load ws sh) s r b n e ne after_table

    full_is : Active s b → free_row s ≡ false → prepare_consumption_of till s b v rights kind koid ≡ refusal 1
    full_is a e = table_is a ∙ rw e

    lookup_is : Active s b → free_row s ≡ true → (d : Decision) → on_handle s b v consumes ≡ d → prepare_consumption_of till s b v rights kind koid ≡ d
    lookup_is a e d k = table_is a ∙ rw e (sym (active_on s b a (λ t. on_view (lookup t v) 2 3 (consumes t))) ∙ k)

    module _ (h : PreparedHandle) (k : Opens s b v h) where
      abbrev object' : Object
      object' = s.objects h.object

      abbrev consume_by' : ℕ
      consume_by' = consume_by (contains h.rights rights) (eqb object'.kind kind) (eqb object'.koid koid) (eqb s.book.next last_id)

      abbrev after : State
      after = add_row (claim b (moved h.slot (handle_of h) h.rights ∷ [])) (with_table s b (keep till (λ g. transfer_reserved g s.book.next) (s.tables b) h.slot))

      abbrev consumed : Decision
      consumed = accept after (opened s.book.next)

      consume_is : consume_refusal (load ws sh) h rights kind koid ≡ consume_by'
      unfolding consume_refusal
      consume_is = let q = r.objects h.object (opened_known ws sh s i b v h k) in rw (q.kind, q.koid, r.book.next)

      consume_decided : Active s b → free_row s ≡ true → prepare_consumption_of till s b v rights kind koid ≡ decided_by consume_by' consumed
      consume_decided a e = lookup_is a e (decided_by consume_by' consumed) (k.handle consumes
          ∙ consume_checks (contains h.rights rights) (eqb object'.kind kind) (eqb object'.koid koid) (eqb s.book.next last_id) consumed)

      -- the claim of one moved handle
      consume_held : free_row s ≡ true → consume_by' ≡ 0 → Held (claim_w (moved_w ws sh (spare (load ws sh)) 0 h h.rights) sh b 1) sh after
      consume_held e z =
          let x : ℕ = spare (load ws sh) in
          let free = free_place ws sh s i e in
          let p = consume_free (contains h.rights rights) (eqb object'.kind kind) (eqb object'.koid koid) (eqb s.book.next last_id) z in
          let room = i.reps.shaped.room in
          let low : spare (load ws sh) < sh.rows = let q : spare (load ws sh) ≡ load ws sh (index (length s.book.rows)) = ap (λ (n : ℕ). load ws sh (index n)) r.book.used in
          omega (arith, (r.book.places (length s.book.rows) free).0, r.capacity) in
          claim_held ws (moved_w ws sh (spare (load ws sh)) 0 h h.rights) sh s (held_of ws sh s i) free
          (enter_fills ws (moved_w ws sh (spare (load ws sh)) 0 h h.rights) sh (spare (load ws sh)) 0 (moved_enters ws sh room (spare (load ws sh)) 0 h h.rights))
          b (moved h.slot (handle_of h) h.rights ∷ []) k.table.known (next_after ws sh s i p)
          (moved_in ws sh room (spare (load ws sh)) 0 h h.rights low (omega arith), tt)
          (λ j o. rw (only_one h.slot j o) (ap is_busy k.slot))

      consumed_does : Active s b → free_row s ≡ true → Does ws os sh base s (prepare_consumption b v rights kind koid) (consumed_r ws os sh base b rights kind koid h)
      unfolding consumed_r decide used_words
      consumed_does a e = rw (consume_is, r.book.next) (bool (eqb consume_by' 0)
          (λ p. let z : consume_by' ≡ 0 = eqb-true consume_by' 0 p in
          rw p (does_accepted os sh base s (prepare_consumption b v rights kind koid) (claim_w (moved_w ws sh (spare (load ws sh)) 0 h h.rights) sh b 1) after (opened s.book.next)
          (consume_held e z).reps (accepted_when consume_by' (prepare_consumption_of till s b v rights kind koid) consumed (consume_decided a e) z)))
          (λ p. rw p (does_refused os sh base s (prepare_consumption b v rights kind koid) ws consume_by' i.reps
          (refused_when consume_by' (prepare_consumption_of till s b v rights kind koid) consumed (consume_decided a e) (eqb-false consume_by' 0 p)))))

    -- PREPARE CONSUMPTION is the model's step
    pub prepare_consumption_does : Does ws os sh base s (prepare_consumption b v rights kind koid) (consumption_r ws os sh base b v rights kind koid)
    unfolding consumption_r decide
    prepare_consumption_does = rw (left_is ws sh s i) (bool (eqb (table_refusal (load ws sh) sh b) 0)
        (λ p. let a = table_open sh (load ws sh) s r b (eqb-true (table_refusal (load ws sh) sh b) 0 p) in
        rw p (bool (free_row s)
        (λ e. rw e (go a e (open_of (load ws sh) sh b v) refl))
        (λ e. rw e (does_refused os sh base s (prepare_consumption b v rights kind koid) ws 1 i.reps (full_is a e)))))
        (λ p. rw p (does_refused os sh base s (prepare_consumption b v rights kind koid) ws (table_refusal (load ws sh) sh b) i.reps
        (inactive_is (table_refusal (load ws sh) sh b) refl (eqb-false (table_refusal (load ws sh) sh b) 0 p)))))
      where
        go : Active s b → free_row s ≡ true → (x : Opened) → open_of (load ws sh) sh b v ≡ x
            → Does ws os sh base s (prepare_consumption b v rights kind koid) (on_opened x (λ n. refuse_r ws os base n) (λ h. consumed_r ws os sh base b rights kind koid h))
        go a e (Refused n) d = does_refused os sh base s (prepare_consumption b v rights kind koid) ws n i.reps (lookup_is a e (refusal n) (open_refused_is sh (load ws sh) s r b v n d consumes))
        go a e (Found h) d = consumed_does h (open_found_is sh (load ws sh) s r b v h d) a e
