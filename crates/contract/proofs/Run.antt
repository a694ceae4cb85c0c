-- A list over words, one request after the other: if each request does what the model's step does, the list does what the model's run does.
-- Assumes nothing.
use Rattle.std.specs.Prelude.{◌≡◌, refl, ltb}
use Rattle.std.proofs.Common.{sym, ◌∙◌, length-append, length-take-le, take_at, ltb-true, ltb-false}
use Rattle.std.proofs.Math.Path.{ap}
use mathlib.Core.List.{List, [], ◌∷◌, ◌++◌, append_assoc}
use Rattle.std.proofs.Math.Option.{some}
use Prim.Native.Nat.{ℕ, zero, suc, ◌+◌, ◌*◌, ◌≤◌}
use native.Mathlib.Omega.{arith}
use Rattle.std.proofs.Math.ListN.{length, take, drop, take-append-drop}
use Rattle.std.proofs.Math.Seq.{drop-append-add, drop-drop}
use Rattle.words.specs.Pick.{bool}
use Rattle.format.specs.Format.{answer_words}
use Rattle.model.specs.State.{till, State}
use Rattle.model.specs.Request.{Request}
use Rattle.model.specs.Step.{step, run}
use Rattle.model.specs.Words.{read_list, used_words, words_of, all_words}
use Rattle.model.proofs.Lists.{words_length}
use Rattle.invariant.proofs.Pages.{till_sane}
use Rattle.invariant.proofs.Kept.{kept}
use Rattle.layout.specs.declared.Shape.{Shape}
use Rattle.representation.specs.Represents.{Rep}
use Rattle.request.specs.Place.{request_at, next_at}
use Rattle.request.specs.Answers.{cleared, answer_is}
use Rattle.request.specs.Laws.{Turn, list_at, list_done}
use Rattle.answer.specs.Does.{Both}
use Rattle.contract.specs.Run.{One, list_r, Steps, Ran}

-- the answers after one request, in front of those of the rest
joined : (base k : ℕ) (os us w rest ys : List ℕ) → base + k ≤ length os → length w ≡ k → us ≡ take base os ++ (w ++ drop (base + k) os)
    → (m : ℕ) → ys ≡ take (base + k) us ++ (rest ++ drop (base + k + m) us) → ys ≡ take base os ++ ((w ++ rest) ++ drop (base + (k + m)) os)
joined base k os us w rest ys h l e m p =
    let front : List ℕ = take base os in
    let lf : length front ≡ base = length-take-le base os (omega arith) in
    let lfw : length (front ++ w) ≡ base + k = length-append front w ∙ omega (arith, lf, l) in
    let e' : us ≡ (front ++ w) ++ drop (base + k) os = e ∙ sym (append_assoc front w (drop (base + k) os)) in
    let a : take (base + k) us ≡ front ++ w = ap (take (base + k)) e' ∙ take_at (front ++ w) (drop (base + k) os) (base + k) lfw in
    let b : drop (base + k + m) us ≡ drop m (drop (base + k) os) =
    ap (drop (base + k + m)) e' ∙ ap (λ (i : ℕ). drop (i + m) ((front ++ w) ++ drop (base + k) os)) (sym lfw) ∙ drop-append-add (front ++ w) (drop (base + k) os) m in
    let c : drop m (drop (base + k) os) ≡ drop (base + (k + m)) os = drop-drop m (base + k) os ∙ ap (λ (i : ℕ). drop i os) (omega arith) in
    p ∙ ap (λ (x : List ℕ). x ++ (rest ++ drop (base + k + m) us)) a ∙ ap (λ (x : List ℕ). (front ++ w) ++ (rest ++ x)) (b ∙ c)
    ∙ append_assoc front w (rest ++ drop (base + (k + m)) os) ∙ ap (λ (x : List ℕ). front ++ x) (sym (append_assoc w rest (drop (base + (k + m)) os)))

joined_length : (base k : ℕ) (os us w : List ℕ) → base + k ≤ length os → length w ≡ k → us ≡ take base os ++ (w ++ drop (base + k) os) → length us ≡ length os
joined_length base k os us w h l e =
    let lf : length (take base os) ≡ base = length-take-le base os (omega arith) in
    let d : length os ≡ length (take (base + k) os) + length (drop (base + k) os) = ap length (sym (take-append-drop (base + k) os)) ∙ length-append (take (base + k) os) (drop (base + k) os) in
    ap length e ∙ omega (arith, length-append (take base os) (w ++ drop (base + k) os), length-append w (drop (base + k) os), lf, l, d, length-take-le (base + k) os h)

module _ (one : One) (steps : Steps one) where
  -- THE LIST does what the model's run does
  pub list_ran : (n : ℕ) (ws os : List ℕ) (sh : Shape) (s : State) (list : List ℕ) (at base : ℕ) (rs : List Request) → Rep ws sh s → read_list (drop at list) ≡ some rs → length rs ≡ n
      → base + answer_words * n ≤ length os → Ran ws os sh base s rs (list_r one n ws os sh list at base)
  unfolding list_r words_of
  list_ran zero ws os sh s list at base [] r e l h = record {
    state = r;
    each = refl;
    answers = let q : base + answer_words * 0 ≡ base = omega arith in rw q (sym (take-append-drop base os));
  }
  list_ran zero ws os sh s list at base (x ∷ rs) r e l h = absurd (omega arith)
  list_ran (suc n) ws os sh s list at base rs r e l h = bool (ltb at (length list))
      (λ b. let t : Turn list at rs = list_at list at rs e (ltb-true at (length list) b) in
      go t (λ ws' os' s' rest. list_ran n ws' os' sh s' list (next_at list at) (base + answer_words) rest))
      (λ b. let z : rs ≡ [] = list_done list at rs e (ltb-false at (length list) b) in absurd (omega (arith, ap length z)))
    where
      go : (t : Turn list at rs)
          → ((ws' os' : List ℕ) (s' : State) (rest : List Request) → Rep ws' sh s' → read_list (drop (next_at list at) list) ≡ some rest → length rest ≡ n
          → base + answer_words + answer_words * n ≤ length os' → Ran ws' os' sh (base + answer_words) s' rest (list_r one n ws' os' sh list (next_at list at) (base + answer_words)))
          → Ran ws os sh base s rs (list_r one (suc n) ws os sh list at base)
      go t rec =
          let req : Request = request_at list at in
          let x : Both = one ws (cleared os base answer_words) sh list at base in
          let d = steps ws (cleared os base answer_words) sh s list at base r t.formed in
          let us : x.answers ≡ take base os ++ (words_of (step till s req).1 ++ drop (base + answer_words) os) =
          d.0.answers ∙ answer_is os base (used_words (step till s req).1) (omega arith) d.1 in
          let wl : length (words_of (step till s req).1) ≡ answer_words = words_length (step till s req).1 in
          let long : length x.answers ≡ length os = joined_length base answer_words os x.answers (words_of (step till s req).1) (omega arith) wl us in
          let lr : length t.rest ≡ n = omega (arith, l, ap length t.first) in
          let after : Rep x.state sh (step till s req).0 = record { reps = d.0.state; well_formed = kept till till_sane s r.well_formed req } in
          let ran : Ran x.state x.answers sh (base + answer_words) (step till s req).0 t.rest (list_r one n x.state x.answers sh list (next_at list at) (base + answer_words)) =
          rec x.state x.answers (step till s req).0 t.rest after t.left lr (omega (arith, long)) in
          rw t.first (record {
            state = ran.state;
            each = (x.state, after, d.0.kept, d.0.spent, d.2, ran.each);
            answers =
                let q : answer_words + answer_words * length t.rest ≡ answer_words * suc (length t.rest) = omega arith in
                let j = joined base answer_words os x.answers (words_of (step till s req).1) (all_words (run till (step till s req).0 t.rest).1)
                (list_r one n x.state x.answers sh list (next_at list at) (base + answer_words)).answers (omega arith) wl us (answer_words * length t.rest) ran.answers in
                rw q at j;
          })
