-- "Ids above the transfer's .. are one lower in P, in list, answers and state": of the words of a list and of the words of its answers.
-- Assumes nothing.
use Rattle.std.specs.Prelude.{◌≡◌, refl, Bool, true, false, List, [], ◌∷◌, ◌++◌, map, ℕ, ◌≤◌, length, get_or, drop, set}
use Rattle.std.proofs.Common.{sym, ap, ◌∙◌, append-nil, arith, take_at, drop_at, ne_eqb, le-ltb}
use Rattle.std.proofs.Math.Option.{some}
use Rattle.words.specs.Pick.{both, clash}
use Rattle.authority.specs.Rights.{contains}
use Rattle.format.specs.Format.{musts, mays, field_kinds, field_fits, known_op, field_count, answer_words}
use Rattle.model.specs.Base.{pick, or_else}
use Rattle.model.specs.State.{Sizes, State}
use Rattle.model.specs.Request.{Answer, Answer.refused, Answer.done, Answer.opened, Answer.batch, Answer.info_of, Answer.resolved, Answer.renewed, Answer.scanned, Answer.removed, Answer.closed, Answer.taken, Answer.planned, Answer.judged}
use Rattle.model.specs.Request.{Request, Request.close, Request.rollback, Request.commit}
use Rattle.noninterference.specs.Names.{names_of, request_by}
use Rattle.model.proofs.Refusals.{is_refused}
use Rattle.model.specs.Step.{step, run}
use Rattle.model.specs.Words.{odd, read_request, read_list, used_words, words_of, all_words}
use Rattle.model.proofs.Lists.{words_length}
use Rattle.noninterference.specs.Runs.{lowered, lower_request, lower_answer}
use Rattle.request.specs.Place.{here, fields_from, fields_at, good_map, op_at, request_at}
use Rattle.request.specs.Laws.{Turn, list_at, request_is}
use Rattle.promises.specs.Ids.{is_id, standing, changed}
use Rattle.promises.proofs.Ids.{map_same, reads_by}
use Rattle.contract.specs.Ops.{op_of}
use Rattle.contract.proofs.Ops.{op_made}
use Rattle.promises.specs.Answers.{gives_id, has_id}
use Rattle.promises.proofs.Answers.{step_gives, refused_words, number_0, refused_or, step_numbered}
use Rattle.promises.specs.Lower.{lower_words, rollback_words, commit_words, closing_words, Ending, Ending.rolled_back, Ending.committed, end_h, end_p, last_h, last_p, lower_answer_of, lower_answers}

lowered_0 : (t : ℕ) → lowered t 0 ≡ 0
unfolding lowered
lowered_0 t = rw (le-ltb t 0 (omega arith))

map_is {ℓ} : {A B : Type ℓ} (f g : A → B) → ((a : A) → f a ≡ g a) → (xs : List A) → map f xs ≡ map g xs
map_is f g h [] = refl
map_is f g h (x ∷ xs) = ap (λ y. y ∷ map f xs) (h x) ∙ ap (λ l. g x ∷ l) (map_is f g h xs)

pub no_words : read_list [] ≡ some []
unfolding read_list
no_words = refl

-- they read as the requests with ids above t one lower
pub reads_lowered : (t : ℕ) (ws : List ℕ) (rs : List Request) → read_list ws ≡ some rs → read_list (lower_words t ws) ≡ some (map (lower_request t) rs)
reads_lowered t ws rs e =
    ap read_list (sym (append-nil (lower_words t ws)))
    ∙ reads_by (lowered t) (lowered_0 t) [] ws rs [] e no_words
    ∙ ap some (append-nil (map (lower_request t) rs))

-- ---- a list behind a list

id_is : (r : Request) → request_by (λ i. i) r ≡ r
id_is r = ap (names_of r).renamed (map_same (names_of r).ids) ∙ (names_of r).itself

ids_same : (ws ks : List ℕ) → changed (λ i. i) ks ws ≡ ws
ids_same [] [] = refl
ids_same [] (k ∷ ks) = refl
ids_same (m ∷ ws) [] = ap (λ l. m ∷ l) (ids_same ws (standing field_count 0 m))
ids_same (w ∷ ws) (k ∷ ks) = ap (λ v. v ∷ changed (λ i. i) ks ws) (either (is_id k) w) ∙ ap (λ l. w ∷ l) (ids_same ws ks)
  where
    either : (b : Bool) (v : ℕ) → pick b v v ≡ v
    either true v = refl
    either false v = refl

-- two lists that read, one behind the other, read as their requests one behind the other
pub reads_both : (xs ys : List ℕ) (rs qs : List Request) → read_list xs ≡ some rs → read_list ys ≡ some qs → read_list (xs ++ ys) ≡ some (rs ++ qs)
reads_both xs ys rs qs e d =
    ap (λ l. read_list (l ++ ys)) (sym (ids_same xs []))
    ∙ reads_by (λ i. i) refl ys xs rs qs e d
    ∙ ap (λ l. some (l ++ qs)) (map_is (request_by (λ i. i)) (λ r. r) id_is rs ∙ map_same rs)

pub reads_rollback : (t : ℕ) → read_list (rollback_words t) ≡ some (rollback t ∷ [])
unfolding read_list read_request musts mays field_kinds field_fits known_op contains
reads_rollback t = refl

pub reads_commit : (t : ℕ) → read_list (commit_words t) ≡ some (commit t ∷ [])
unfolding read_list read_request musts mays field_kinds field_fits known_op contains
reads_commit t = refl

reads_closing : (b v : ℕ) → read_list (19 ∷ 12 ∷ b ∷ v ∷ []) ≡ some (close b v ∷ [])
unfolding read_list read_request musts mays field_kinds field_fits known_op contains
reads_closing b v = refl

pub reads_closings : (b : ℕ) (vs : List ℕ) → read_list (closing_words b vs) ≡ some (map (close b) vs)
reads_closings b [] = no_words
reads_closings b (v ∷ vs) = reads_both (19 ∷ 12 ∷ b ∷ v ∷ []) (closing_words b vs) (close b v ∷ []) (map (close b) vs) (reads_closing b v) (reads_closings b vs)

pub reads_last_h : (e : Ending) (t : ℕ) → read_list (end_h e t) ≡ some (last_h e t ∷ [])
reads_last_h rolled_back t = reads_rollback t
reads_last_h committed t = reads_commit t

pub reads_last_p : (e : Ending) (b : ℕ) (vs : List ℕ) → read_list (end_p e b vs) ≡ some (last_p e b vs)
reads_last_p rolled_back b vs = no_words
reads_last_p committed b vs = reads_closings b vs

-- a request's op is the word after its record's map
pub op_word : (m op : ℕ) (ws : List ℕ) (r : Request) (rs : List Request) → read_list (m ∷ op ∷ ws) ≡ some (r ∷ rs) → op_of r ≡ op
unfolding good_map fields_at fields_from
op_word m op ws r rs e =
    let list : List ℕ = m ∷ op ∷ ws in
    let t : Turn list 0 (r ∷ rs) = list_at list 0 (r ∷ rs) e (omega arith) in
    let first : r ≡ request_at list 0 = cc t.first in
    let stands : odd m ≡ true = (both (odd m) _ t.formed.head.known).0 in
    let word : op_at list 0 ≡ op = ap (λ (b : Bool). or_else (here b list 1) 0) stands in
    ap op_of (first ∙ request_is list 0 (op_at list 0) refl) ∙ op_made list 0 (op_at list 0) t.formed.known.0 t.formed.known.1 ∙ word

-- an accepted answer: word 1 is an id, or nothing is lowered
id_lowered : (t : ℕ) (a : Answer) (b : Bool) → is_refused a ≡ false → has_id a ≡ b → pick b (set (words_of a) 1 (lowered t (get_or (words_of a) 1 0))) (words_of a) ≡ words_of (lower_answer t a)
unfolding words_of used_words
id_lowered t (refused n) b r e = clash refl r
id_lowered t (opened i) b r e = rw (← e)
id_lowered t (batch i vs) b r e = rw (← e)
id_lowered t done b r e = rw (← e)
id_lowered t (info_of x) b r e = rw (← e)
id_lowered t (resolved o koid x) b r e = rw (← e)
id_lowered t (renewed v) b r e = rw (← e)
id_lowered t (scanned p) b r e = rw (← e)
id_lowered t (removed x c) b r e = rw (← e)
id_lowered t (closed x) b r e = rw (← e)
id_lowered t (taken p) b r e = rw (← e)
id_lowered t (planned i n m) b r e = rw (← e)
id_lowered t (judged x) b r e = rw (← e)

-- they are the words of the answer with its id lowered
pub answer_lowered : (t : ℕ) (z : Sizes) (s : State) (r : Request) → lower_answer_of t r (words_of (step z s r).1) ≡ words_of (lower_answer t (step z s r).1)
answer_lowered t z s r = refused_or (step z s r).1
    (λ n e. refusal_stays n (step_numbered z s r n e).0 e)
    (λ e. rw (number_0 (step z s r).1 0 e) (id_lowered t (step z s r).1 (gives_id r) e (step_gives z s r e)))
  where
    refusal_stays : (n : ℕ) → 1 ≤ n → (step z s r).1 ≡ refused n → lower_answer_of t r (words_of (step z s r).1) ≡ words_of (lower_answer t (step z s r).1)
    refusal_stays n h e = rw (e, refused_words n, ne_eqb n 0 (λ q. omega arith))

pub answers_lowered : (t : ℕ) (z : Sizes) (s : State) (rs : List Request) → lower_answers t rs (all_words (run z s rs).1) ≡ all_words (map (lower_answer t) (run z s rs).1)
answers_lowered t z s [] = refl
answers_lowered t z s (r ∷ rs) =
    let a : List ℕ = words_of (step z s r).1 in
    let l : length a ≡ answer_words = words_length (step z s r).1 in
    let rest : List ℕ = all_words (run z (step z s r).0 rs).1 in
    ap (λ (x : List ℕ). lower_answer_of t r x ++ lower_answers t rs (drop answer_words (a ++ rest))) (take_at a rest answer_words l)
    ∙ ap (λ (x : List ℕ). lower_answer_of t r a ++ lower_answers t rs x) (drop_at a rest answer_words l)
    ∙ ap (λ (x : List ℕ). x ++ lower_answers t rs rest) (answer_lowered t z s r)
    ∙ ap (λ (x : List ℕ). words_of (lower_answer t (step z s r).1) ++ x) (answers_lowered t z (step z s r).0 rs)
