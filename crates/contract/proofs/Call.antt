-- The whole call over words meets document 01 if each request does and the state check is sound and complete. Assumes nothing.
use Rattle.std.specs.Prelude.{Option as CodeOption, Some, None}
use Rattle.std.proofs.Math.Path.{◌≡◌, refl, subst}
use Rattle.std.proofs.Common.{sym, ap, ◌∙◌, get_or-take}
use Rattle.std.specs.Prelude.{Bool, false, ℕ, ◌+◌, ◌*◌, ◌≤◌, get_or, ltb}
use Rattle.std.proofs.Math.Bool.{true}
use mathlib.Core.List.{List, ◌++◌}
use Rattle.std.proofs.Math.Option.{Option, none, some}
use native.Mathlib.Omega.{arith}
use Rattle.std.proofs.Math.ListN.{length, take, drop, length-append, length-drop, take-append-drop}
use Rattle.std.proofs.Math.Seq.{length-take-le, drop_at}
use borrow.Author.Tests.{ltb-true, ltb-false}
use Rattle.words.specs.Pick.{bool, clash}
use Rattle.words.specs.Words.{get_past, Small}
use Rattle.format.specs.Format.{answer_words}
use Rattle.model.specs.State.{till, State}
use Rattle.model.specs.Request.{Request}
use Rattle.model.specs.Step.{run}
use Rattle.model.specs.Words.{read_list, Outcome, on_requests, answer_short, all_words, call}
use Rattle.layout.specs.declared.Shape.{Shape}
use Rattle.layout.specs.Layout.{total}
use Rattle.layout.specs.ShapeOf.{shape_of, Shaped, shape_found, shape_is}
use Rattle.representation.specs.Represents.{Rep}
use Rattle.contract.specs.Meets.{Called, called, Passes, Meets}
use Rattle.contract.specs.Run.{One, Steps, Ran, list_r}
use Rattle.contract.proofs.Run.{list_ran}
use Rattle.contract.proofs.Front.{rep_take, rep_past, shaped_take, passes_past}
use Rattle.contract.specs.Call.{past, requests_w, run_w}

small_take : (n : ℕ) (ws : List ℕ) → n ≤ length ws → Small ws → Small (take n ws)
small_take n ws l h i = bool (ltb i n)
    (λ b. rw (get_or-take n ws i 0 (ltb-true i n b)) (h i))
    (λ b. let z : get_or (take n ws) i 0 ≡ 0 = get_past (take n ws) i (omega (arith, length-take-le n ws l, ltb-false i n b)) in rw z (omega arith))

module _ (one : One) (steps : Steps one) (well : List ℕ → Shape → Bool)
    (sound : (ws : List ℕ) (sh : Shape) → Shaped ws sh → Small ws → well ws sh ≡ true → (s : State) × Rep ws sh s)
    (complete : (ws : List ℕ) (sh : Shape) (s : State) → Rep ws sh s → well ws sh ≡ true) where
  -- on the words of a well-formed state
  module _ (ws list os : List ℕ) (sh : Shape) (s : State) (r : Rep ws sh s) where
    -- what a call gives is what the model says
    record Right (x : Called) (o : Outcome) : Type 0 where
      result : x.result ≡ o.result
      answers : x.answers ≡ o.answers
      state : (u : State) → o.state ≡ some u → Rep x.state sh u
      each : (rs : List Request) → read_list list ≡ some rs → answer_short os rs ≡ false → Passes sh ws s rs x.state
      kept : (x.result ≡ 0 → ⊥) → (x.state ≡ ws) × (x.answers ≡ os)

    stays : (u : State) → some s ≡ some u → Rep ws sh u
    stays u e = let q : s ≡ u = cc in rw q at r

    refused : (n : ℕ) → ((rs : List Request) → read_list list ≡ some rs → answer_short os rs ≡ false → ⊥) → Right (called n ws os) (record { result = n; state = some s; answers = os })
    refused n out = record { result = refl; answers = refl; state = stays; each = λ rs e b. absurd (out rs e b); kept = λ z. (refl, refl) }

    all_run : (rs : List Request) → read_list list ≡ some rs → Right (requests_w one well ws os sh list (some rs)) (on_requests till s os (some rs))
    unfolding answer_short
    all_run rs e = bool (ltb (length os) (answer_words * length rs))
        (λ b. rw b (refused 20 (λ qs d f. let z : rs ≡ qs = cc in clash (rw z at b) f)))
        (λ b. let l : answer_words * length rs ≤ length os = ltb-false (length os) (answer_words * length rs) b in
        let ran : Ran ws os sh 0 s rs (list_r one (length rs) ws os sh list 0 0) = list_ran one steps (length rs) ws os sh s list 0 0 rs r e refl (omega arith) in
        rw b (record {
          result = refl;
          answers = ran.answers ∙ whole (answer_words * length rs);
          state = λ u q. let z : (run till s rs).0 ≡ u = cc in rw z at ran.state;
          each = λ qs d f. let z : rs ≡ qs = cc in subst (λ (x : List Request). Passes sh ws s x (list_r one (length rs) ws os sh list 0 0).state) z ran.each;
          kept = λ z. absurd (z refl);
        }))
      where
        whole : (n : ℕ) → all_words (run till s rs).1 ++ drop (0 + n) os ≡ all_words (run till s rs).1 ++ drop n os
        whole n = let q : 0 + n ≡ n = omega arith in rw q

    right : Right (requests_w one well ws os sh list (read_list list)) (call till (some s) list os)
    unfolding call
    right = go (read_list list) refl
      where
        never : (rs : List Request) → none ≡ some rs → ⊥
        never rs e = let z : ◌≡◌ {A = ℕ} 0 1 = cc in omega arith

        go : (x : Option (List Request)) → read_list list ≡ x → Right (requests_w one well ws os sh list (read_list list)) (on_requests till s os (read_list list))
        go none e = rw e (refused 19 (λ rs d b. never rs (sym e ∙ d)))
        go (some rs) e = rw e (all_run rs e)

  -- on a slice that may be longer
  module _ (ws list os : List ℕ) (sh : Shape) (s : State) (r : Rep ws sh s) where
    fs : List ℕ
    fs = take (total sh) ws

    rest : List ℕ
    rest = drop (total sh) ws

    rf : Rep fs sh s
    unfolding fs
    rf = rep_take sh ws s r

    inner : Called
    inner = requests_w one well fs os sh list (read_list list)

    opened : run_w one well ws list os ≡ past inner rest
    unfolding run_w inner fs rest
    opened = rw (shape_is ws sh r.reps.shaped, complete (take (total sh) ws) sh s rf)

    whole : fs ++ rest ≡ ws
    unfolding fs rest
    whole = take-append-drop (total sh) ws

    inside : Right fs list os sh s rf inner (call till (some s) list os)
    unfolding inner
    inside = right fs list os sh s rf

    front : length fs ≡ total sh
    unfolding fs
    front = length-take-le (total sh) ws r.reps.shaped.room

    each : (rs : List Request) → read_list list ≡ some rs → answer_short os rs ≡ false → Passes sh ws s rs (past inner rest).state
    each rs e b = let p = passes_past sh rest rs fs inner.state s (omega (arith, front)) (inside.each rs e b) in rw whole at p

    beyond : length (past inner rest).state ≡ length ws → drop (total sh) (past inner rest).state ≡ rest
    unfolding rest
    beyond l = drop_at inner.state rest (total sh) (omega (arith, l, length-append inner.state rest, length-drop (total sh) ws, r.reps.shaped.room))

    kept : (inner.result ≡ 0 → ⊥) → ((past inner rest).state ≡ ws) × ((past inner rest).answers ≡ os)
    kept z = let k = inside.kept z in (ap (λ (x : List ℕ). x ++ rest) k.0 ∙ whole, k.1)

  -- THE WORDS MEET document 01: a call leaves as many words as it was lent
  pub run_meets : (ws list os : List ℕ) → Small ws → length (run_w one well ws list os).state ≡ length ws → Meets ws list os (run_w one well ws list os)
  unfolding run_w rest
  run_meets ws list os small long = record {
    result = λ sh s r. let x = opened ws list os sh s r in rw x (inside ws list os sh s r).result;
    answers = λ sh s r. let x = opened ws list os sh s r in rw x (inside ws list os sh s r).answers;
    state = λ sh s u r e. let x = opened ws list os sh s r in rw x (rep_past sh (inner ws list os sh s r).state (rest ws list os sh s r) u ((inside ws list os sh s r).state u e));
    each = λ sh s rs r e b. let x = opened ws list os sh s r in rw x (each ws list os sh s r rs e b);
    beyond = λ sh s r. let x = opened ws list os sh s r in rw x (beyond ws list os sh s r (rw x at long));
    misuse = λ h. outside (shape_of ws) refl h;
    kept = by (shape_of ws) refl;
  }
    where
      found_rep : (sh : Shape) → shape_of ws ≡ Some sh → well (take (total sh) ws) sh ≡ true → (s : State) × Rep ws sh s
      found_rep sh e b =
          let g = shape_found ws sh e in
          let i = sound (take (total sh) ws) sh (shaped_take sh ws g) (small_take (total sh) ws g.room small) b in
          let w : take (total sh) ws ++ drop (total sh) ws ≡ ws = take-append-drop (total sh) ws in
          (i.0, rw w at (rep_past sh (take (total sh) ws) (drop (total sh) ws) i.0 i.1))

      unchecked : (sh : Shape) → shape_of ws ≡ Some sh → well (take (total sh) ws) sh ≡ false → run_w one well ws list os ≡ called 18 ws os
      unchecked sh e b = let w : take (total sh) ws ++ drop (total sh) ws ≡ ws = take-append-drop (total sh) ws in rw (e, b, w)

      -- no well-formed state: 18
      outside : (x : CodeOption Shape) → shape_of ws ≡ x → ((sh : Shape) (s : State) → Rep ws sh s → ⊥) → (run_w one well ws list os).result ≡ 18
      outside (Some sh) e h = bool (well (take (total sh) ws) sh)
          (λ b. let i = found_rep sh e b in absurd (h sh i.0 i.1))
          (λ b. let u = unchecked sh e b in rw u)
      outside None e h = rw e

      by : (x : CodeOption Shape) → shape_of ws ≡ x → ((run_w one well ws list os).result ≡ 0 → ⊥) → ((run_w one well ws list os).state ≡ ws) × ((run_w one well ws list os).answers ≡ os)
      by (Some sh) e z = bool (well (take (total sh) ws) sh)
          (λ b. let i = found_rep sh e b in let x = opened ws list os sh i.0 i.1 in rw x (kept ws list os sh i.0 i.1 (rw x at z)))
          (λ b. let u = unchecked sh e b in rw u (refl, refl))
      by None e z = rw e (refl, refl)
