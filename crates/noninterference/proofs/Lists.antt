-- Every permitted request, and so every list of them, runs alike with an open claim and without it.
use Rattle.std.specs.Prelude.{◌≡◌, refl, Bool, true, false, ◌&&◌, ◌||◌, ℕ, ◌≤◌, length, eqb}
use Rattle.std.proofs.Common.{sym, ap, ◌∙◌, arith, eqb-true, le-ltb, eq-eqb, ne_eqb}
use Rattle.std.proofs.Math.Bool.{not}
use mathlib.Core.List.{List, [], ◌∷◌, map}
use Rattle.std.proofs.Math.Option.{some}
use Rattle.std.proofs.lemmas.Bool.{not-true, not-false}
use Rattle.codec.specs.Codec.{generation_in}
use Rattle.model.specs.Base.{at_most, every, member, occurs}
use Rattle.model.specs.State.{Sizes, Slot, Slot.absent, Slot.vacant, Slot.reserved, Slot.transfer_reserved, Slot.occupied, Table, Entry, Entry.moved, Entry.copied, Body.claim, State}
use Rattle.model.specs.Request.{Item, Answer, Answer.refused}
use Rattle.model.specs.Request.{Request, Request.new_object, Request.duplicate, Request.release_parcel, Request.retire_object, Request.reserve, Request.trim, Request.abort, Request.publish, Request.get_info, Request.resolve, Request.replace, Request.close, Request.scan_handles, Request.prepare_transfer, Request.prepare_consumption, Request.rollback, Request.commit, Request.direct_commit, Request.direct_rollback, Request.remove_stopping_owner, Request.teardown_start, Request.teardown_step, Request.teardown_finish, Request.take_empty_page, Request.make_plan, Request.use_plan, Request.drop_plan, Request.judge_transfer}
use Rattle.noninterference.specs.Names.{value_of}
use Rattle.model.specs.Book.{find, free_row, id_left, moved_of}
use Rattle.model.specs.Decision.{Decision, Decision.refusal, Decision.refusal_after_id, Decision.accept}
use Rattle.model.specs.Step.{decide, carry, step, run}
use Rattle.model.specs.WellFormed.{WellFormed, is_moving_by}
use Rattle.noninterference.specs.Runs.{names_id, uses_value, walks, permitted, gives, pages_needed, wants_row, wants_id, judges_full, wanting, lower_request, lower_answer}
use Rattle.noninterference.specs.Erase.{erase}
use Rattle.model.proofs.Tests.{bool, clash, and_left, and_right, or_left, or_right}
use Rattle.noninterference.proofs.Marks.{Stems, entry_marked}
use Rattle.noninterference.proofs.Stays.{other, head_apart, only, tail_apart, Stays, step_stays}
use Rattle.noninterference.proofs.Alike.{Held, Open, Case, wants, Alike, erase_decision, spend_erase}
use Rattle.noninterference.proofs.Effects.{fresh}
use Rattle.noninterference.proofs.Values.{alike_new_object, alike_duplicate, alike_release_parcel, alike_retire_object, alike_get_info, alike_resolve, alike_replace, alike_close}
use Rattle.noninterference.proofs.Batches.{alike_reserve, alike_make_plan, alike_use_plan, alike_drop_plan, alike_trim, alike_abort, alike_publish}
use Rattle.noninterference.proofs.Walks.{alike_scan_handles, alike_remove_stopping_owner, alike_teardown_start, alike_teardown_step, alike_teardown_finish, alike_take_empty_page}
use Rattle.noninterference.proofs.Claims.{Clear, alike_prepare_transfer, alike_judge_transfer, alike_prepare_consumption, alike_rollback, alike_commit, alike_direct_commit, alike_direct_rollback}

-- what a permitted request does not name
pub permits_id : (t b : ℕ) (vs : List ℕ) (r : Request) → permitted t b vs r ≡ true → names_id t r ≡ false
unfolding permitted
permits_id t b vs r p = not-true _ (and_left _ _ p)

values_apart : (w : ℕ) (vs : List ℕ) → every (λ v. not (eqb v w)) vs ≡ true → member w vs ≡ false
values_apart w [] e = refl
values_apart w (v ∷ vs) e = rw (ne_eqb w v (other v w (not-true (eqb v w) (and_left _ _ e)))) (values_apart w vs (and_right (not (eqb v w)) _ e))

none_either : (w : ℕ) (ws vs : List ℕ) → every (λ v. not (member v (w ∷ ws))) vs ≡ true
    → (every (λ v. not (eqb v w)) vs ≡ true) × (every (λ v. not (member v ws)) vs ≡ true)
none_either w ws [] e = (refl, refl)
none_either w ws (v ∷ vs) e = let m : member v (w ∷ ws) ≡ false = not-true (member v (w ∷ ws)) (and_left _ _ e) in
    let r = none_either w ws vs (and_right (not (member v (w ∷ ws))) _ e) in
    (rw (head_apart v w ws m, r.0), rw (tail_apart v w ws m, r.1))

value_apart : (b c w : ℕ) (vs : List ℕ) → every (λ v. not (eqb c b && member v (w ∷ []))) vs ≡ true → (eqb c b && member w vs) ≡ false
value_apart b c w vs e = bool (eqb c b) (λ q. rw q (values_apart w vs (none_either w [] vs (rw q at e)).0)) (λ q. rw q)

items_here : (b c : ℕ) (vs : List ℕ) (qs : List Item) → every (λ v. not (member v (map value_of qs))) vs ≡ true → Clear b vs c qs
items_here b c vs [] e = tt
items_here b c vs (q ∷ qs) e = let r = none_either q.value (map value_of qs) vs e in
    (rw (values_apart q.value vs r.0) (bool (eqb c b) (λ y. rw y) (λ y. rw y)), items_here b c vs qs r.1)

items_there : (b c : ℕ) (vs : List ℕ) (qs : List Item) → eqb c b ≡ false → Clear b vs c qs
items_there b c vs [] e = tt
items_there b c vs (q ∷ qs) e = (rw e, items_there b c vs qs e)

items_apart : (b c : ℕ) (vs : List ℕ) (qs : List Item) → every (λ v. not (eqb c b && member v (map value_of qs))) vs ≡ true → Clear b vs c qs
items_apart b c vs qs e = bool (eqb c b) (λ q. items_here b c vs qs (rw q at e)) (λ q. items_there b c vs qs q)

module _ (x : Case) where
  abbrev s : State
  s = x.s

  abbrev s₀ : State
  s₀ = erase x.t x.es x.s

  -- no page is needed
  none_needed : {d d₀ : Decision} → Alike x true d d₀ → Alike x (at_most 0 (length s.frames)) d d₀
  none_needed a = rw (le-ltb (length s.frames) 0 (omega arith)) a

  abbrev Enough : Request → Bool
  Enough r = at_most (pages_needed x.z s r) (length s.frames)

  decided : (r : Request) → names_id x.t r ≡ false → every (λ v. not (uses_value x.b v r)) x.vs ≡ true → walks x.b r ≡ false → judges_full s r ≡ false
      → Alike x (Enough r) (decide x.z s r) (decide x.z s₀ (lower_request x.t r))
  unfolding decide judges_full
  decided (new_object o r f) i v w l = none_needed (alike_new_object x o r f)
  decided (duplicate c a r) i v w l = none_needed (alike_duplicate x c a r (value_apart x.b c a x.vs v))
  decided (release_parcel j) i v w l = none_needed (alike_release_parcel x j (only x.t j [] i))
  decided (retire_object o) i v w l = none_needed (alike_retire_object x o)
  decided (reserve c n) i v w l = alike_reserve x c n
  decided (trim j n) i v w l = none_needed (alike_trim x j n (only x.t j [] i))
  decided (abort j) i v w l = none_needed (alike_abort x j (only x.t j [] i))
  decided (publish j js) i v w l = none_needed (alike_publish x j js (only x.t j js i) (tail_apart x.t j js i))
  decided (get_info c a) i v w l = none_needed (alike_get_info x c a)
  decided (resolve c a r k) i v w l = none_needed (alike_resolve x c a r k (value_apart x.b c a x.vs v))
  decided (replace c a r) i v w l = none_needed (alike_replace x c a r (value_apart x.b c a x.vs v))
  decided (close c a) i v w l = none_needed (alike_close x c a (value_apart x.b c a x.vs v))
  decided (scan_handles c k) i v w l = none_needed (alike_scan_handles x c w k)
  decided (prepare_transfer c route o k qs) i v w l = none_needed (alike_prepare_transfer x c route o k qs (items_apart x.b c x.vs qs v))
  decided (prepare_consumption c a r k o) i v w l = none_needed (alike_prepare_consumption x c a r k o (value_apart x.b c a x.vs v))
  decided (rollback j) i v w l = none_needed (alike_rollback x j (only x.t j [] i))
  decided (commit j) i v w l = none_needed (alike_commit x j (only x.t j [] i))
  decided (direct_commit j k) i v w l =
      none_needed (alike_direct_commit x j k (only x.t j (k ∷ []) i) (only x.t k [] (tail_apart x.t j (k ∷ []) i)))
  decided (direct_rollback j k) i v w l =
      none_needed (alike_direct_rollback x j k (only x.t j (k ∷ []) i) (only x.t k [] (tail_apart x.t j (k ∷ []) i)))
  decided (remove_stopping_owner c k) i v w l = none_needed (alike_remove_stopping_owner x c w k)
  decided (teardown_start c) i v w l = none_needed (alike_teardown_start x c w)
  decided (teardown_step c) i v w l = none_needed (alike_teardown_step x c)
  decided (teardown_finish c) i v w l = none_needed (alike_teardown_finish x c)
  decided (take_empty_page c) i v w l = none_needed (alike_take_empty_page x c)
  decided (make_plan c n) i v w l = alike_make_plan x c n
  decided (use_plan j) i v w l = none_needed (alike_use_plan x j (only x.t j [] i))
  decided (drop_plan j) i v w l = none_needed (alike_drop_plan x j (only x.t j [] i))
  decided (judge_transfer c route o k qs) i v w l =
      let room : free_row s && id_left s ≡ true = not-false (free_row s && id_left s) l in
      none_needed (alike_judge_transfer x c route o k qs (items_apart x.b c x.vs qs v) (and_left (free_row s) (id_left s) room) (and_right (free_row s) (id_left s) room))

  -- a decision carried out
  abbrev Same : State × Answer → State × Answer → Type 0
  Same o o₀ = o₀ ≡ (erase x.t x.es o.0, lower_answer x.t o.1)

  carried : (d d₀ : Decision) → d₀ ≡ erase_decision x.t x.es d → Same (carry x.z s d) (carry x.z s₀ d₀)
  carried (refusal n) d₀ w = rw w
  carried (refusal_after_id n) d₀ w = rw w (ap (λ (u : State). (u, refused n)) (sym (spend_erase x)))
  carried (accept u a) d₀ w = rw w

  no_want : (e : Bool) (d : Decision) → (gives 1 (carry x.z s d).1 && e) ≡ false → gives 12 (carry x.z s d).1 ≡ false → wants x e d ≡ false
  no_want e (refusal n) p q = rw (p, q)
  no_want e (refusal_after_id n) p q = refl
  no_want e (accept u a) p q = refl

  pub step_alike : (r : Request) → permitted x.t x.b x.vs r ≡ true → wants_row x.z s r ≡ false → wants_id x.z s r ≡ false → judges_full s r ≡ false
      → Same (step x.z s r) (step x.z s₀ (lower_request x.t r))
  unfolding permitted wants_row wants_id step
  step_alike r p a c j = carried _ _ (
      (decided r (not-true _ (and_left _ _ p)) (and_left _ _ (and_right (not (names_id x.t r)) _ p))
      (not-true _ (and_right (every (λ v. not (uses_value x.b v r)) x.vs) _ (and_right (not (names_id x.t r)) _ p))) j
      ).twin (no_want (Enough r) (decide x.z s r) a c))

-- a slot that is marked with t
pub mark_is : (t : ℕ) (x : Slot) → is_moving_by t x ≡ true → (g : ℕ) × (x ≡ transfer_reserved g t)
mark_is t absent e = clash e refl
mark_is t (vacant g) e = clash e refl
mark_is t (reserved g i) e = clash e refl
mark_is t (transfer_reserved g i) e = (g, rw (eqb-true t i e))
mark_is t (occupied g h) e = clash e refl

-- the claim's slots keep their generations, and so its values their slots
held_stays : (t : ℕ) (x y : Table) → Stems t x y → (es : List Entry) → ((k : ℕ) → 1 ≤ occurs k (moved_of es) → is_moving_by t (y.slots k) ≡ true)
    → (vs : List ℕ) → Held t x es vs → Held t y es vs
held_stays t x y p [] m [] h = tt
held_stays t x y p [] m (v ∷ vs) h = absurd h
held_stays t x y p (moved k y' r ∷ es) m [] h = absurd h
held_stays t x y p (moved k y' r ∷ es) m (v ∷ vs) h =
    let w : (g : ℕ) × (y.slots k ≡ transfer_reserved g t) = mark_is t (y.slots k) (m k (rw (eq-eqb k k refl) (omega arith))) in
    let e : transfer_reserved w.0 t ≡ transfer_reserved (generation_in x.mask v) t = sym (p.marks k w.0 w.1) ∙ h.2 in
    (rw p.mask h.0, rw p.mask h.1, rw p.mask (w.1 ∙ e), held_stays t x y p es (λ j c. m j (omega arith)) vs h.3)
held_stays t x y p (copied h' ∷ es) m vs h = absurd h

module _ (z : Sizes) (kept : (s : State) → WellFormed z s → (r : Request) → WellFormed z (step z s r).0) (t b : ℕ) (es : List Entry) (vs : List ℕ)
  where
    -- the claim is still open in a well-formed state where it stayed
    still : (s u : State) → Open z t b es vs s → WellFormed z u → Stays t s u → Open z t b es vs u
    still s u o w p = let r : find t u.book.rows ≡ some (claim b es) = p.row ∙ o.row in record {
      wf = w;
      row = r;
      held = held_stays t (s.tables b) (u.tables b) (p.tables b) es (entry_marked u w t b es r) vs o.held;
    }

    -- a list of permitted requests that wants nothing: the same answers, the same state without the claim, which is still open
    pub list_alike : (s : State) → Open z t b es vs s → (rs : List Request) → every (permitted t b vs) rs ≡ true → wanting z s rs ≡ false
        → (run z (erase t es s) (map (lower_request t) rs) ≡ (erase t es (run z s rs).0, map (lower_answer t) (run z s rs).1))
        × Open z t b es vs (run z s rs).0
    list_alike s o [] p w = (refl, o)
    list_alike s o (r ∷ rs) p w =
        let u : State = (step z s r).0 in
        let x : Case = record { z = z; t = t; b = b; es = es; vs = vs; s = s; o = o } in
        let n : (wants_row z s r || wants_id z s r) ≡ false = or_left (wants_row z s r || wants_id z s r) (judges_full s r || wanting z u rs) w in
        let m : (judges_full s r || wanting z u rs) ≡ false = or_right (wants_row z s r || wants_id z s r) (judges_full s r || wanting z u rs) w in
        let y = step_alike x r (and_left (permitted t b vs r) (every (permitted t b vs) rs) p) (or_left (wants_row z s r) (wants_id z s r) n)
        (or_right (wants_row z s r) (wants_id z s r) n) (or_left (judges_full s r) (wanting z u rs) m) in
        let k = list_alike u (still s u o (kept s o.wf r) (step_stays t z s (fresh x) r (permits_id t b vs r (and_left (permitted t b vs r) (every (permitted t b vs) rs) p)))) rs (and_right (permitted t b vs r) (every (permitted t b vs) rs) p)
        (or_right (judges_full s r) (wanting z u rs) m) in (
          ap (λ (a : State × Answer). let q : State × List Answer = run z a.0 (map (lower_request t) rs) in (q.0, a.1 ∷ q.1)) y
              ∙ ap (λ (q : State × List Answer). (q.0, lower_answer t (step z s r).1 ∷ q.1)) k.0,
          k.1,
        )
