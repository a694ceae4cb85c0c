-- The words of the two runs' answers: the transfer's, the list's, and those that end the runs. Assumes nothing.
use Rattle.std.specs.Prelude.{◌≡◌, true, false, List, [], ◌∷◌, ◌++◌, map, ℕ, zero, suc, ◌+◌, ◌*◌, ◌<◌, length, get_or, take, drop}
use Rattle.std.proofs.Math.Path.{refl}
use Rattle.std.proofs.Common.{sym, ap, ◌∙◌, append-nil, arith, take_at, drop_at, drop-drop, get_or-append-add}
use Rattle.std.proofs.Math.Option.{Option}
use Rattle.std.proofs.Math.ListN.{get_or-append}
use Rattle.std.proofs.lemmas.List.{length-map}
use Rattle.words.specs.Pick.{clash, both}
use Rattle.format.specs.Format.{answer_words}
use Rattle.model.specs.Base.{every}
use Rattle.model.specs.State.{Sizes, till, State}
use Rattle.model.specs.Request.{Route, Item, Request, Request.close, Request.prepare_transfer, Request.rollback, Request.commit}
use Rattle.model.specs.Request.{Answer, Answer.refused, Answer.done, Answer.opened, Answer.batch, Answer.info_of, Answer.resolved, Answer.renewed, Answer.scanned, Answer.removed, Answer.closed, Answer.taken, Answer.planned, Answer.judged}
use Rattle.model.proofs.Refusals.{is_refused}
use Rattle.model.specs.Book.{find, spend_id}
use Rattle.model.specs.Step.{close_of, rollback_of, commit_of, decide, step, run}
use Rattle.model.proofs.Decided.{Any, accepts, with_handle, with_claim, carried}
use Rattle.model.specs.Words.{used_words, words_of, all_words}
use Rattle.model.proofs.Lists.{words_length, run_length}
use Rattle.noninterference.specs.Names.{value_of}
use Rattle.noninterference.specs.Runs.{accepted, lowered, lower_request, lower_answer, lower_table, lower_state}
use Rattle.noninterference.specs.Theorem.{Agree}
use Rattle.noninterference.specs.Plans.{PlansStand, PlansAgree}
use Rattle.promises.proofs.Answers.{number_0, zero_accepts, prepare_answers}
use Rattle.promises.specs.Lower.{Ending, Ending.rolled_back, Ending.committed, last_h, last_p, lower_answers}
use Rattle.promises.proofs.Lower.{answers_lowered}
use Rattle.promises.proofs.Calls.{run_both, all_words_both, run_words}

opened_id : (i : ℕ) → get_or (words_of (opened i)) 1 0 ≡ i
unfolding words_of used_words
opened_id i = refl

-- the answers' words of two lists, one behind the other
pub list_then : (z : Sizes) (s : State) (rs qs : List Request) (os : List ℕ) → os ≡ all_words (run z s (rs ++ qs)).1
    → (take (answer_words * length rs) os ≡ all_words (run z s rs).1) × (drop (answer_words * length rs) os ≡ all_words (run z (run z s rs).0 qs).1)
list_then z s rs qs os e =
    let a : List ℕ = all_words (run z s rs).1 in
    let c : List ℕ = all_words (run z (run z s rs).0 qs).1 in
    let q : os ≡ a ++ c = e ∙ ap all_words (run_both z s rs qs).1 ∙ all_words_both (run z s rs).1 (run z (run z s rs).0 qs).1 in
    (ap (take (answer_words * length rs)) q ∙ take_at a c (answer_words * length rs) (run_words z s rs), ap (drop (answer_words * length rs)) q ∙ drop_at a c (answer_words * length rs) (run_words z s rs))

-- ---- run H

-- the transfer is accepted with the id t; after its 72 words stand the list's answers, and after these the last request's
pub record HeldWords (s : State) (transfer : Request) (t : ℕ) (rs : List Request) (q : Request) (os : List ℕ) : Type 0 where
  pub opened : (step till s transfer).1 ≡ opened t
  pub list : take (answer_words * length rs) (drop answer_words os) ≡ all_words (run till (step till s transfer).0 rs).1
  pub last : drop (answer_words + answer_words * length rs) os ≡ words_of (step till (run till (step till s transfer).0 rs).0 q).1

pub held_words : (s : State) (b : ℕ) (route : Route) (o k : Option ℕ) (items : List Item) (rs : List Request) (last : Request) (os : List ℕ) (t : ℕ)
    → let transfer : Request = prepare_transfer b route o k items in
    os ≡ all_words (run till s (transfer ∷ rs ++ (last ∷ []))).1 → get_or os 0 0 ≡ 0 → get_or os 1 0 ≡ t → HeldWords s transfer t rs last os
held_words s b route o k items rs last os t e z ti =
    let transfer : Request = prepare_transfer b route o k items in
    let h : State = (step till s transfer).0 in
    let a : List ℕ = words_of (step till s transfer).1 in
    let l : length a ≡ answer_words = words_length (step till s transfer).1 in
    let more : List ℕ = all_words (run till h (rs ++ (last ∷ []))).1 in
    let first : (i : ℕ) → i < answer_words → get_or os i 0 ≡ get_or a i 0 = λ i lt. ap (λ (x : List ℕ). get_or x i 0) e ∙ get_or-append a more 0 i (omega (arith, l)) in
    let next : (step till s transfer).1 ≡ opened s.book.next = prepare_answers till s b route o k items (zero_accepts till s transfer (sym (first 0 (omega arith)) ∙ z)) in
    let id : t ≡ s.book.next = sym ti ∙ first 1 (omega arith) ∙ ap (λ (x : Answer). get_or (words_of x) 1 0) next ∙ opened_id s.book.next in
    let rest : drop answer_words os ≡ more = ap (drop answer_words) e ∙ drop_at a more answer_words l in
    let parts = list_then till h rs (last ∷ []) more refl in
    record {
      opened = next ∙ ap opened (sym id);
      list = ap (take (answer_words * length rs)) rest ∙ parts.0;
      last = sym (drop-drop (answer_words * length rs) answer_words os) ∙ ap (drop (answer_words * length rs)) rest ∙ parts.1 ∙ append-nil (words_of (step till (run till h rs).0 last).1);
    }

-- ---- run P

pub record PlainWords (u : State) (plain closings : List Request) (n : ℕ) (os : List ℕ) : Type 0 where
  pub list : take (answer_words * n) os ≡ all_words (run till u plain).1
  pub last : drop (answer_words * n) os ≡ all_words (run till (run till u plain).0 closings).1

pub plain_words : (t : ℕ) (u : State) (rs closings : List Request) (os : List ℕ) → os ≡ all_words (run till u (map (lower_request t) rs ++ closings)).1
    → PlainWords u (map (lower_request t) rs) closings (length rs) os
plain_words t u rs closings os e =
    let parts = list_then till u (map (lower_request t) rs) closings os e in
    let n : length (map (lower_request t) rs) ≡ length rs = length-map rs (lower_request t) in
    record { list = ap (λ (k : ℕ). take (answer_words * k) os) (sym n) ∙ parts.0; last = ap (λ (k : ℕ). drop (answer_words * k) os) (sym n) ∙ parts.1 }

pub lowered_answers : (t : ℕ) (h : State) (rs : List Request) (l : List Answer) → l ≡ map (lower_answer t) (run till h rs).1 → all_words l ≡ lower_answers t rs (all_words (run till h rs).1)
lowered_answers t h rs l e = ap all_words e ∙ sym (answers_lowered t till h rs)

-- ---- the closings

not_refused : (a : Answer) → accepted a ≡ true → is_refused a ≡ false
not_refused (refused n) e = clash e refl
not_refused done e = refl
not_refused (opened i) e = refl
not_refused (batch i vs) e = refl
not_refused (info_of x) e = refl
not_refused (resolved o koid r) e = refl
not_refused (renewed v) e = refl
not_refused (scanned p) e = refl
not_refused (removed x c) e = refl
not_refused (closed x) e = refl
not_refused (taken p) e = refl
not_refused (planned i n m) e = refl
not_refused (judged x) e = refl

-- word 0 of every answer is 0, and there is one for each
pub closed_words : (l : List Answer) → every accepted l ≡ true → (i d : ℕ) → i < length l → get_or (all_words l) (answer_words * i) d ≡ 0
closed_words [] e i d h = absurd (omega arith)
closed_words (a ∷ l) e zero d h =
    get_or-append (words_of a) (all_words l) d 0 (omega (arith, words_length a)) ∙ number_0 a d (not_refused a (both (accepted a) (every accepted l) e).0)
closed_words (a ∷ l) e (suc i) d h =
    let q : answer_words * suc i ≡ length (words_of a) + answer_words * i = omega (arith, words_length a) in
    ap (λ (n : ℕ). get_or (words_of a ++ all_words l) n d) q ∙ get_or-append-add (words_of a) (all_words l) (answer_words * i) d
    ∙ closed_words l (both (accepted a) (every accepted l) e).1 i d (omega arith)

-- ---- the ends

-- neither a closing nor the end of a claim spends an id

module _ (z : Sizes) (s : State) where
  abbrev SameNext : State → Type 0
  SameNext u = u.book.next ≡ s.book.next

  never : (n : ℕ) → ⊥ → SameNext (spend_id s)
  never n e = absurd e

  close_next : (b v : ℕ) → SameNext (step z s (close b v)).0
  unfolding step decide close_of
  close_next b v = carried {N = Any} {R = λ n. ⊥} {A = λ u a. SameNext u} SameNext z s _ refl never (λ u a r. r) (with_handle s b v tt tt tt tt λ l a k h e. accepts refl)

  rollback_next : (i : ℕ) → SameNext (step z s (rollback i)).0
  unfolding step decide rollback_of
  rollback_next i = carried {N = Any} {R = λ n. ⊥} {A = λ u a. SameNext u} SameNext z s _ refl never (λ u a r. r) (with_claim (find i s.book.rows) tt λ b es e. accepts refl)

  commit_next : (i : ℕ) → SameNext (step z s (commit i)).0
  unfolding step decide commit_of
  commit_next i = carried {N = Any} {R = λ n. ⊥} {A = λ u a. SameNext u} SameNext z s _ refl never (λ u a r. r) (with_claim (find i s.book.rows) tt λ b es e. accepts refl)

closings_next : (z : Sizes) (s : State) (b : ℕ) (vs : List ℕ) → (run z s (map (close b) vs)).0.book.next ≡ s.book.next
closings_next z s b [] = refl
closings_next z s b (v ∷ vs) = closings_next z (step z s (close b v)).0 b vs ∙ close_next z s b v

-- what the theorem on steps says of either end
pub record Ended (e : Ending) (t b : ℕ) (vs : List ℕ) (h p : State) : Type 0 where
  pub done_H : (step till h (last_h e t)).1 ≡ done
  pub done_P : every accepted (run till p (last_p e b vs)).1 ≡ true
  pub whole : e ≡ rolled_back → (run till p (last_p e b vs)).0 ≡ lower_state t (step till h (last_h e t)).0
  pub tables : (c : ℕ) → (run till p (last_p e b vs)).0.tables c ≡ lower_table t ((step till h (last_h e t)).0.tables c)
  pub next : (run till p (last_p e b vs)).0.book.next ≡ lowered t (step till h (last_h e t)).0.book.next

pub ends : (e : Ending) (t b : ℕ) (vs : List ℕ) (h p : State × List Answer) → Agree till t b vs h p → Ended e t b vs h.0 p.0
ends rolled_back t b vs h p g = record { done_H = g.rolled_back; done_P = refl; whole = λ q. g.after_rollback; tables = λ c. ap (λ (x : State). x.tables c) g.after_rollback; next = ap (λ (x : State). x.book.next) g.after_rollback }
ends committed t b vs h p g = record {
  done_H = g.committed;
  done_P = g.closings;
  whole = λ q. let z : ◌≡◌ {A = ℕ} 0 1 = cc in absurd (omega arith);
  tables = g.after_commit;
  next = closings_next till p.0 b vs ∙ ap (λ (x : State). x.book.next) g.after_rollback ∙ ap (lowered t) (rollback_next till h.0 t ∙ sym (commit_next till h.0 t));
}

-- as many closings as items
pub as_many : (e : Ending) (b : ℕ) (items : List Item) (s : State) → e ≡ committed → length (run till s (last_p e b (map value_of items))).1 ≡ length items
as_many e b items s q =
    run_length till s (last_p e b (map value_of items)) ∙ ap (λ (x : Ending). length (last_p x b (map value_of items))) q
    ∙ length-map (map value_of items) (close b) ∙ length-map items value_of

-- ---- plans

-- of the two runs, after either end
pub plans_end : (e : Ending) (t b : ℕ) (values : List ℕ) (h p : State) → PlansAgree till t b values h p
    → PlansStand till (lowered t) (step till h (last_h e t)).0 (run till p (last_p e b values)).0
plans_end rolled_back t b values h p a = a.rolled_back
plans_end committed t b values h p a = a.committed
