-- Calls one after the other, each on the words that the last one left. Assumes nothing.
use Rattle.std.specs.Prelude.{◌≡◌, refl, false, List, [], ◌∷◌, ◌++◌, ℕ, ◌*◌, ◌≤◌, length, take, drop}
use Rattle.std.proofs.Common.{sym, ap, subst, ◌∙◌, append_assoc, take_at, le-ltb}
use Rattle.std.proofs.Math.Option.{Option, some}
use Rattle.format.specs.Format.{answer_words}
use Rattle.model.specs.State.{Sizes, till, State}
use Rattle.model.specs.Request.{Request, Answer}
use Rattle.model.specs.Step.{step, run}
use Rattle.model.specs.Words.{read_list, Outcome, call, ran, answer_short, words_of, all_words}
use Rattle.model.proofs.Lists.{run_length, all_length}
use Rattle.layout.specs.declared.Shape.{Shape}
use Rattle.representation.specs.Represents.{Rep}
use Rattle.contract.specs.Meets.{Called, Meets}
use Rattle.promises.specs.Terms.{Call, requests_in, Calls, list_of, requests_of, answers_of, Together}
use Rattle.promises.proofs.Lower.{no_words, reads_both}

-- ---- one call

-- a call that passes its tests
pub record Went (os : List ℕ) (sh : Shape) (s : State) (rs : List Request) (x : Called) : Type 0 where
  pub result : x.result ≡ 0
  pub answers : x.answers ≡ all_words (run till s rs).1 ++ drop (answer_words * length rs) os
  pub state : Rep x.state sh (run till s rs).0

pub not_short : (os : List ℕ) (rs : List Request) → answer_words * length rs ≤ length os → answer_short os rs ≡ false
unfolding answer_short
not_short os rs h = le-ltb (length os) (answer_words * length rs) h

pub went : (ws list os : List ℕ) (sh : Shape) (s : State) (rs : List Request) (x : Called) → Meets ws list os x → Rep ws sh s → read_list list ≡ some rs
    → answer_words * length rs ≤ length os → Went os sh s rs x
unfolding call
went ws list os sh s rs x m r e h =
    let b : answer_short os rs ≡ false = not_short os rs h in
    let q : call till (some s) list os ≡ ran till s rs os = rw (e, b) in
    record {
      result = m.result sh s r ∙ ap (λ (o : Outcome). o.result) q;
      answers = m.answers sh s r ∙ ap (λ (o : Outcome). o.answers) q;
      state = m.state sh s (run till s rs).0 r (ap (λ (o : Outcome). o.state) q);
    }

-- ---- runs one after the other

pub run_both : (z : Sizes) (s : State) (rs qs : List Request) → ((run z s (rs ++ qs)).0 ≡ (run z (run z s rs).0 qs).0) × ((run z s (rs ++ qs)).1 ≡ (run z s rs).1 ++ (run z (run z s rs).0 qs).1)
run_both z s [] qs = (refl, refl)
run_both z s (r ∷ rs) qs = let h = run_both z (step z s r).0 rs qs in (h.0, ap (λ (l : List Answer). (step z s r).1 ∷ l) h.1)

pub all_words_both : (l k : List Answer) → all_words (l ++ k) ≡ all_words l ++ all_words k
all_words_both [] k = refl
all_words_both (a ∷ l) k = ap (λ (x : List ℕ). words_of a ++ x) (all_words_both l k) ∙ sym (append_assoc (words_of a) (all_words l) (all_words k))

-- the answers' words of a run
pub run_words : (z : Sizes) (s : State) (rs : List Request) → length (all_words (run z s rs).1) ≡ answer_words * length rs
run_words z s rs = all_length (run z s rs).1 ∙ ap (λ (n : ℕ). answer_words * n) (run_length z s rs)

-- ---- calls together

pub read_once : (x : Option (List Request)) (rs qs : List Request) → x ≡ some rs → x ≡ some qs → rs ≡ qs
read_once x rs qs e d = cc

-- their lists read, call by call
pub reads_of : (ws : List ℕ) (cs : List Call) → Calls ws cs → read_list (list_of cs) ≡ some (requests_of cs)
reads_of ws [] k = no_words
reads_of ws (c ∷ cs) (m, f, k) = reads_both c.list (list_of cs) (requests_in c.list) (requests_of cs) f.reads (reads_of c.gave.state cs k)

module _ (sh : Shape) where
  one_more : (ws : List ℕ) (s : State) (c : Call) (cs : List Call) (rs qs : List Request) → Went c.lent sh s rs c.gave → requests_in c.list ≡ rs
      → Together c.gave.state sh (run till s rs).0 cs qs → Together ws sh s (c ∷ cs) (rs ++ qs)
  one_more ws s c cs rs qs w e t =
      let b = run_both till s rs qs in
      let first : take (answer_words * length rs) c.gave.answers ≡ all_words (run till s rs).1 =
      ap (take (answer_words * length rs)) w.answers ∙ take_at (all_words (run till s rs).1) (drop (answer_words * length rs) c.lent) (answer_words * length rs) (run_words till s rs) in
      record {
        passed = (w.result, t.passed);
        answers =
            ap (λ (l : List Request). take (answer_words * length l) c.gave.answers ++ answers_of cs) e
            ∙ ap (λ (x : List ℕ). x ++ answers_of cs) first
            ∙ ap (λ (x : List ℕ). all_words (run till s rs).1 ++ x) t.answers
            ∙ sym (all_words_both (run till s rs).1 (run till (run till s rs).0 qs).1)
            ∙ ap all_words (sym b.1);
        state = rw b.0 t.state;
      }

  each_call : (ws : List ℕ) (s : State) (cs : List Call) → Rep ws sh s → Calls ws cs → Together ws sh s cs (requests_of cs)
  each_call ws s [] r k = record { passed = tt; answers = refl; state = r }
  each_call ws s (c ∷ cs) r (m, f, k) =
      let w = went ws c.list c.lent sh s (requests_in c.list) c.gave m r f.reads f.enough in
      one_more ws s c cs (requests_in c.list) (requests_of cs) w refl (each_call c.gave.state (run till s (requests_in c.list)).0 cs w.state k)

  pub together : (ws : List ℕ) (s : State) (cs : List Call) (rs : List Request) → Rep ws sh s → Calls ws cs → read_list (list_of cs) ≡ some rs → Together ws sh s cs rs
  together ws s cs rs r k e = subst (Together ws sh s cs) (read_once (read_list (list_of cs)) (requests_of cs) rs (reads_of ws cs k) e) (each_call ws s cs r k)
