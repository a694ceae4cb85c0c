-- What refusals leave: a call's, a request's in a list, and creation's. Assumes nothing.
use Rattle.std.specs.Prelude.{◌≡◌, refl, true, not, ◌&&◌, List, [], ◌∷◌, ◌++◌, ◌↔◌, ℕ, ◌*◌, ◌≤◌, ◌<◌, length, get_or, take, drop, ltb}
use Rattle.std.proofs.Common.{sym, ap, subst, ◌∙◌, append_assoc, arith, take_at, drop_at, lt-ltb, ltb-true, ltb-false}
use Rattle.std.proofs.Math.Option.{Option, none, some}
use Rattle.std.proofs.lemmas.Bool.{not-true}
use Rattle.words.specs.Pick.{bool, clash, both}
use Rattle.format.specs.Format.{answer_words}
use Rattle.model.specs.Base.{member}
use Rattle.model.specs.State.{till, State}
use Rattle.model.specs.Request.{Request}
use Rattle.model.specs.Decision.{Decision, Decision.refusal, Decision.refusal_after_id, Decision.accept}
use Rattle.model.specs.Step.{decide, step, carry, run}
use Rattle.model.proofs.Refusals.{is_transfer, numbered, of_item, spends, Fits, decide_fits}
use Rattle.model.specs.Words.{read_list, call, answer_short, words_of, all_words}
use Rattle.model.proofs.Lists.{words_length}
use Rattle.layout.specs.declared.Shape.{Shape}
use Rattle.representation.specs.Represents.{Rep}
use Rattle.answer.specs.Does.{id_spent}
use Rattle.create.specs.Meets.{Asked, Meets as Creates}
use Rattle.format.specs.Ops.{op_judge_transfer}
use Rattle.contract.specs.Ops.{op_of}
use Rattle.contract.specs.Meets.{Called, Passes, Meets}
use Rattle.promises.specs.Terms.{Keeps, Each}
use Rattle.promises.specs.Answers.{is_number}
use Rattle.promises.proofs.Answers.{refused_words, number_0, in_range}
use Rattle.promises.proofs.Calls.{went, not_short}

-- ---- a request in a list

keeps : (s : State) (r : Request) (ws us : List ℕ) → ((n : ℕ) → decide till s r ≡ refusal n → us ≡ ws) → ((n : ℕ) → decide till s r ≡ refusal_after_id n → us ≡ id_spent ws)
    → (op_of r ≡ op_judge_transfer → us ≡ ws) → Keeps r (words_of (step till s r).1) ws us
unfolding step
keeps s r ws us k p j = go (decide till s r) refl (decide_fits till s r)
  where
    go : (d : Decision) → decide till s r ≡ d → Fits (is_transfer r) d → Keeps r (words_of (carry till s d).1) ws us
    go (refusal n) q f =
        let b = both (numbered n) (not (spends r n)) f.leaves in
        rw (refused_words n) (record {
          number = (in_range n b.0).1;
          zeros = λ h. refl;
          kept = λ h e. k n q;
          spent = λ e. clash e (not-true (spends r n) b.1);
          judging = j;
        })
    go (refusal_after_id n) q f =
        let b = both (is_transfer r) (numbered n && of_item n) f.leaves in
        let c = both (numbered n) (of_item n) b.1 in
        let y : spends r n ≡ true = rw b.0 c.1 in
        rw (refused_words n) (record {
          number = (in_range n c.0).1;
          zeros = λ h. refl;
          kept = λ h e. clash y e;
          spent = λ e. p n q;
          judging = j;
        })
    go (accept u a) q f =
        let z : get_or (words_of a) 0 0 ≡ 0 = number_0 a 0 f.leaves in
        record {
          number = ap is_number z;
          zeros = λ h. absurd (h z);
          kept = λ h e. absurd (h z);
          spent = λ e. clash (both (is_transfer r) (of_item 0) (ap (λ (n : ℕ). spends r n) (sym z) ∙ e)).1 refl;
          judging = j;
        }

pub each_keeps : (sh : Shape) (ws : List ℕ) (s : State) (rs : List Request) (vs tail : List ℕ) → Passes sh ws s rs vs → Each sh ws s rs (all_words (run till s rs).1 ++ tail) vs
each_keeps sh ws s [] vs tail p = p
each_keeps sh ws s (r ∷ rs) vs tail (us, i, k, p, j, rest) =
    let a : List ℕ = words_of (step till s r).1 in
    let more : List ℕ = all_words (run till (step till s r).0 rs).1 in
    let l : length a ≡ answer_words = words_length (step till s r).1 in
    let e : (a ++ more) ++ tail ≡ a ++ (more ++ tail) = append_assoc a more tail in (
      us,
      i,
      subst (λ (x : List ℕ). Keeps r x ws us) (sym (ap (take answer_words) e ∙ take_at a (more ++ tail) answer_words l)) (keeps s r ws us k p j),
      subst (λ (x : List ℕ). Each sh us (step till s r).0 rs x vs) (sym (ap (drop answer_words) e ∙ drop_at a (more ++ tail) answer_words l)) (each_keeps sh us (step till s r).0 rs vs tail rest),
    )

-- ---- a call

is_short : (os : List ℕ) (rs : List Request) → length os < answer_words * length rs → answer_short os rs ≡ true
unfolding answer_short
is_short os rs h = lt-ltb (length os) (answer_words * length rs) h

module _ (ws list os : List ℕ) (x : Called) (m : Meets ws list os x) where
  module _ (sh : Shape) (s : State) (r : Rep ws sh s) where
    gives_19 : read_list list ≡ none → x.result ≡ 19
    unfolding call
    gives_19 e = m.result sh s r ∙ rw e

    gives_20 : (rs : List Request) → read_list list ≡ some rs → length os < answer_words * length rs → x.result ≡ 20
    unfolding call
    gives_20 rs e h = m.result sh s r ∙ rw (e, is_short os rs h)

    gives_0 : (rs : List Request) → read_list list ≡ some rs → answer_words * length rs ≤ length os → x.result ≡ 0
    gives_0 rs e h = (went ws list os sh s rs x m r e h).result

    -- the list is malformed, or the answers' words are too few, or the call passes
    which {ℓ} : {C : Type ℓ} → (read_list list ≡ none → C) → ((rs : List Request) → read_list list ≡ some rs → length os < answer_words * length rs → C)
        → ((rs : List Request) → read_list list ≡ some rs → answer_words * length rs ≤ length os → C) → C
    which {C} f g h = go (read_list list) refl
      where
        go : (y : Option (List Request)) → read_list list ≡ y → C
        go none e = f e
        go (some rs) e = bool (ltb (length os) (answer_words * length rs)) (λ b. g rs e (ltb-true (length os) (answer_words * length rs) b)) (λ b. h rs e (ltb-false (length os) (answer_words * length rs) b))

    pub malformed : (x.result ≡ 19) ↔ (read_list list ≡ none)
    malformed = (λ e. which (λ n. n) (λ rs q h. absurd (omega (arith, e, gives_20 rs q h))) (λ rs q h. absurd (omega (arith, e, gives_0 rs q h))), gives_19)

    pub short : (x.result ≡ 20) ↔ ((rs : List Request) × (read_list list ≡ some rs) × (length os < answer_words * length rs))
    short = (λ e. which (λ n. absurd (omega (arith, e, gives_19 n))) (λ rs q h. (rs, q, h)) (λ rs q h. absurd (omega (arith, e, gives_0 rs q h))), λ y. gives_20 y.0 y.1 y.2)

    pub refusals : (rs : List Request) → read_list list ≡ some rs → answer_words * length rs ≤ length os → Each sh ws s rs x.answers x.state
    refusals rs e h =
        subst (λ (y : List ℕ). Each sh ws s rs y x.state) (sym (went ws list os sh s rs x m r e h).answers)
        (each_keeps sh ws s rs x.state (drop (answer_words * length rs) os) (m.each sh s rs r e (not_short os rs h)))

    not_18 : x.result ≡ 18 → ⊥
    not_18 e = which (λ n. omega (arith, e, gives_19 n)) (λ rs q h. omega (arith, e, gives_20 rs q h)) (λ rs q h. omega (arith, e, gives_0 rs q h))

  pub misuse : (x.result ≡ 18) ↔ ((sh : Shape) (s : State) → Rep ws sh s → ⊥)
  misuse = (λ e sh s r. not_18 sh s r e, m.misuse)

  -- no other result: else no well-formed state were represented, and then it is 18
  pub results : member x.result (0 ∷ 18 ∷ 19 ∷ 20 ∷ []) ≡ true
  results = bool (member x.result (0 ∷ 18 ∷ 19 ∷ 20 ∷ [])) (λ b. b) (λ b.
      let q : x.result ≡ 18 = m.misuse (λ sh s r. which sh s r (λ n. clash (known (gives_19 sh s r n)) b) (λ rs e h. clash (known (gives_20 sh s r rs e h)) b) (λ rs e h. clash (known (gives_0 sh s r rs e h)) b)) in
      clash (known q) b)
    where
      known : {n : ℕ} → x.result ≡ n → member x.result (0 ∷ 18 ∷ 19 ∷ 20 ∷ []) ≡ member n (0 ∷ 18 ∷ 19 ∷ 20 ∷ [])
      known e = ap (λ (k : ℕ). member k (0 ∷ 18 ∷ 19 ∷ 20 ∷ [])) e

-- ---- creation

module _ (ws ps : List ℕ) (r : ℕ) (us : List ℕ) (m : Creates ws ps r us) where
  pub create_results : member r (0 ∷ 18 ∷ []) ≡ true
  create_results = bool (member r (0 ∷ 18 ∷ [])) (λ b. b) (λ b.
      let q : r ≡ 18 = (m.refused (λ a. clash (ap (λ (k : ℕ). member k (0 ∷ 18 ∷ [])) (m.done a).0) b)).0 in
      clash (ap (λ (k : ℕ). member k (0 ∷ 18 ∷ [])) q) b)

  pub create_refused : (r ≡ 18) ↔ (Asked ws ps → ⊥)
  create_refused = (λ e a. omega (arith, e, (m.done a).0), λ n. (m.refused n).0)

  pub create_kept : (r ≡ 0 → ⊥) → us ≡ ws
  create_kept h = (m.refused (λ a. h (m.done a).0)).1
