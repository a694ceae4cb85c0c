-- Reading ends, takes its words from the front and never goes past the list; answers have 72 words; a call that is refused as a whole keeps all.
use Rattle.std.specs.Prelude.{◌≡◌, refl, Bool, true, false, List, [], ◌∷◌, ◌++◌, map, ℕ, zero, suc, ◌+◌, ◌-◌, ◌*◌, ◌/◌, ◌≤◌, min, length, take, drop, get_or}
use Rattle.std.proofs.Common.{sym, ap, ◌∙◌, append_assoc, arith, length-append, length-drop, length-take, ltb-false, le-ltb}
use Rattle.std.proofs.Math.Option.{Option, none, some}
use Rattle.std.proofs.lemmas.List.{length-map}
use Rattle.format.specs.Format.{musts, mays, transfer_item_must, transfer_item_may, parcel_item_must, parcel_item_may, field_count, answer_words}
use Rattle.model.specs.Base.{pick}
use Rattle.model.specs.State.{Sizes, Slot, Table, State, is_occupied, max_batch}
use Rattle.model.specs.Storage.{walk, length_of}
use Rattle.model.specs.Request.{Snapshot, Answer, Answer.batch, Answer.scanned, Request, Request.new_object, Request.duplicate}
use Rattle.model.specs.Request.{Request.release_parcel, Request.retire_object, Request.reserve, Request.trim, Request.abort, Request.publish}
use Rattle.model.specs.Request.{Request.get_info, Request.resolve, Request.replace, Request.close, Request.scan_handles}
use Rattle.model.specs.Request.{Request.prepare_transfer, Request.prepare_consumption, Request.rollback, Request.commit, Request.direct_commit}
use Rattle.model.specs.Request.{Request.direct_rollback, Request.remove_stopping_owner, Request.teardown_start, Request.teardown_step}
use Rattle.model.specs.Request.{Request.teardown_finish, Request.take_empty_page, Request.make_plan, Request.use_plan, Request.drop_plan, Request.judge_transfer}
use Rattle.model.specs.Lookup.{snapshot_at}
use Rattle.model.specs.Step.{run, step, snapshot_page}
use Rattle.model.specs.Words.{Reading, and_then, Fields, odd, read_field, read_fields, must, good_record, read_record, read_many, read_transfer_item}
use Rattle.model.specs.Words.{read_parcel_item, plain_request, with_items, read_request, read_up_to, read_list, used_words, entry_words, padded}
use Rattle.model.specs.Words.{words_of, all_words, ran, answer_short, on_requests, call}
use Rattle.format.specs.Fields.{op_field, count_field, an_op, an_operation, zero_word}

-- what was read stood in front of what is left, and has n words at least
abbrev pub Front {ℓ} : {A : Type ℓ} → ℕ → List ℕ → Option (A × List ℕ) → Type 0
Front n ws none = Unit {0}
Front n ws (some a) = (used : List ℕ) × (ws ≡ used ++ a.1) × (n ≤ length used)

module _ {A B : Type 0} where
  front_then : (n m : ℕ) (ws : List ℕ) (x : Option (A × List ℕ)) (f : A × List ℕ → Option (B × List ℕ))
      → Front n ws x → ((a : A × List ℕ) → Front m a.1 (f a)) → Front (n + m) ws (and_then x f)
  front_then n m ws none f p q = tt
  front_then n m ws (some a) f p q = join (f a) (q a)
    where
      join : (y : Option (B × List ℕ)) → Front m a.1 y → Front (n + m) ws y
      join none r = tt
      join (some b) r = (p.0 ++ r.0, p.1 ∙ ap (λ (l : List ℕ). p.0 ++ l) r.1 ∙ sym (append_assoc p.0 r.0 b.1), omega (arith, length-append p.0 r.0, p.2, r.2))

  front_maybe : (n : ℕ) (ws : List ℕ) (x : Option A) (f : A → Option (B × List ℕ)) → ((a : A) → Front n ws (f a)) → Front n ws (and_then x f)
  front_maybe n ws none f q = tt
  front_maybe n ws (some a) f q = q a

front_pick : {A : Type 0} (b : Bool) (ws : List ℕ) (a : A × List ℕ) → ws ≡ a.1 → Front 0 ws (pick b (some a) none)
front_pick true ws a e = ([], e, omega arith)
front_pick false ws a e = tt

front_field : (b : Bool) (ws : List ℕ) → Front 0 ws (read_field b ws)
front_field false ws = ([], refl, omega arith)
front_field true [] = tt
front_field true (w ∷ ws) = (w ∷ [], refl, omega arith)

front_fields : (n m : ℕ) (ws : List ℕ) → Front 0 ws (read_fields n m ws)
front_fields zero m ws = ([], refl, omega arith)
front_fields (suc n) m ws =
    front_then 0 0 ws (read_field (odd m) ws) _ (front_field (odd m) ws) λ a.
    front_then 0 0 a.1 (read_fields n (m / 2) a.1) _ (front_fields n (m / 2) a.1) λ r.
    ([], refl, omega arith)

front_record : (first : ℕ) (must_of may_of : ℕ → ℕ) (ws : List ℕ) → Front 1 ws (read_record first must_of may_of ws)
front_record first must_of may_of [] = tt
front_record first must_of may_of (m ∷ ws) = shift (and_then (read_fields field_count m ws) _)
    (front_then 0 0 ws (read_fields field_count m ws) _ (front_fields field_count m ws) λ r.
    front_pick (good_record first (must_of (must r.0 op_field)) (may_of (must r.0 op_field)) m r.0) r.1 r refl)
  where
    shift : (x : Reading Fields) → Front 0 ws x → Front 1 (m ∷ ws) x
    shift none p = tt
    shift (some a) p = (m ∷ p.0, ap (λ (l : List ℕ). m ∷ l) p.1, omega (arith, p.2))

weaken : {A : Type 0} (ws : List ℕ) (x : Option (A × List ℕ)) → Front 1 ws x → Front 0 ws x
weaken ws none p = tt
weaken ws (some a) p = (p.0, p.1, omega arith)

front_many : {A : Type 0} (read : List ℕ → Option (A × List ℕ)) → ((ws : List ℕ) → Front 0 ws (read ws)) → (n : ℕ) (ws : List ℕ) → Front 0 ws (read_many read n ws)
front_many read h zero ws = ([], refl, omega arith)
front_many read h (suc n) ws =
    front_then 0 0 ws (read ws) _ (h ws) λ a.
    front_then 0 0 a.1 (read_many read n a.1) _ (front_many read h n a.1) λ r.
    ([], refl, omega arith)

front_transfer_item : (ws : List ℕ) → Front 0 ws (read_transfer_item ws)
front_transfer_item ws = front_then 0 0 ws (read_record an_operation (λ o. transfer_item_must) (λ o. transfer_item_may) ws) _
    (weaken {A = Fields} ws (read_record an_operation (λ o. transfer_item_must) (λ o. transfer_item_may) ws) (front_record an_operation (λ o. transfer_item_must) (λ o. transfer_item_may) ws)) λ r. ([], refl, omega arith)

front_parcel_item : (ws : List ℕ) → Front 0 ws (read_parcel_item ws)
front_parcel_item ws = front_then 0 0 ws (read_record zero_word (λ o. parcel_item_must) (λ o. parcel_item_may) ws) _
    (weaken {A = Fields} ws (read_record zero_word (λ o. parcel_item_must) (λ o. parcel_item_may) ws) (front_record zero_word (λ o. parcel_item_must) (λ o. parcel_item_may) ws)) λ r. ([], refl, omega arith)

front_items : (f : Fields) (r : Request) (ws : List ℕ) → Front 0 ws (with_items f r ws)
front_items f (new_object o r g) ws = ([], refl, omega arith)
front_items f (duplicate b v r) ws = ([], refl, omega arith)
front_items f (release_parcel i) ws = ([], refl, omega arith)
front_items f (retire_object o) ws = ([], refl, omega arith)
front_items f (reserve b n) ws = ([], refl, omega arith)
front_items f (trim i n) ws = ([], refl, omega arith)
front_items f (abort i) ws = ([], refl, omega arith)
front_items f (publish i is) ws = front_then 0 0 ws (read_many read_parcel_item (must f count_field) ws) _ (front_many read_parcel_item front_parcel_item (must f count_field) ws) λ r. ([], refl, omega arith)
front_items f (get_info b v) ws = ([], refl, omega arith)
front_items f (resolve b v r k) ws = ([], refl, omega arith)
front_items f (replace b v r) ws = ([], refl, omega arith)
front_items f (close b v) ws = ([], refl, omega arith)
front_items f (scan_handles b c) ws = ([], refl, omega arith)
front_items f (prepare_transfer b route o k qs) ws = front_then 0 0 ws (read_many read_transfer_item (must f count_field) ws) _ (front_many read_transfer_item front_transfer_item (must f count_field) ws) λ r. ([], refl, omega arith)
front_items f (prepare_consumption b v r k o) ws = ([], refl, omega arith)
front_items f (rollback i) ws = ([], refl, omega arith)
front_items f (commit i) ws = ([], refl, omega arith)
front_items f (direct_commit i j) ws = ([], refl, omega arith)
front_items f (direct_rollback i j) ws = ([], refl, omega arith)
front_items f (remove_stopping_owner b c) ws = ([], refl, omega arith)
front_items f (teardown_start b) ws = ([], refl, omega arith)
front_items f (teardown_step b) ws = ([], refl, omega arith)
front_items f (teardown_finish b) ws = ([], refl, omega arith)
front_items f (take_empty_page b) ws = ([], refl, omega arith)
front_items f (make_plan b n) ws = ([], refl, omega arith)
front_items f (use_plan i) ws = ([], refl, omega arith)
front_items f (drop_plan i) ws = ([], refl, omega arith)
front_items f (judge_transfer b route o k qs) ws = front_then 0 0 ws (read_many read_transfer_item (must f count_field) ws) _ (front_many read_transfer_item front_transfer_item (must f count_field) ws) λ r. ([], refl, omega arith)

-- a request is read off the front of the list: a word at least, and never a word past it
pub request_in_front : (ws : List ℕ) → Front 1 ws (read_request ws)
unfolding read_request
request_in_front ws =
    front_then 1 0 ws (read_record an_op (λ op. get_or musts op 0) (λ op. get_or mays op 0) ws) _ (front_record an_op (λ op. get_or musts op 0) (λ op. get_or mays op 0) ws) λ r.
    front_maybe 0 r.1 (plain_request (must r.0 op_field)) _ λ make. front_items r.0 (make r.0) r.1

-- reading a list ends by itself: more fuel than words changes nothing
pub reading_ends : (n m : ℕ) (ws : List ℕ) → length ws ≤ n → length ws ≤ m → read_up_to n ws ≡ read_up_to m ws
reading_ends zero zero ws p q = refl
reading_ends zero (suc m) [] p q = refl
reading_ends zero (suc m) (w ∷ ws) p q = absurd (omega arith)
reading_ends (suc n) zero [] p q = refl
reading_ends (suc n) zero (w ∷ ws) p q = absurd (omega arith)
reading_ends (suc n) (suc m) [] p q = refl
reading_ends (suc n) (suc m) (w ∷ ws) p q = go (read_request (w ∷ ws)) (request_in_front (w ∷ ws)) (λ v h k. reading_ends n m v h k)
  where
    go : (x : Reading Request) → Front 1 (w ∷ ws) x → ((v : List ℕ) → length v ≤ n → length v ≤ m → read_up_to n v ≡ read_up_to m v)
        → and_then x (λ r. and_then (read_up_to n r.1) λ rs. some (r.0 ∷ rs)) ≡ and_then x (λ r. and_then (read_up_to m r.1) λ rs. some (r.0 ∷ rs))
    go none f h = refl
    go (some r) f h =
        let e : length (w ∷ ws) ≡ length f.0 + length r.1 = ap length f.1 ∙ length-append f.0 r.1 in
        ap (λ (x : Option (List Request)). and_then x (λ rs. some (r.0 ∷ rs))) (h r.1 (omega (arith, e, f.2)) (omega (arith, e, f.2)))

-- "Each request answers 72 words"
padded_length : (n : ℕ) (ws : List ℕ) → length (padded n ws) ≡ n
padded_length zero ws = refl
padded_length (suc n) [] = ap suc (padded_length n [])
padded_length (suc n) (w ∷ ws) = ap suc (padded_length n ws)

pub words_length : (a : Answer) → length (words_of a) ≡ answer_words
unfolding words_of
words_length a = padded_length answer_words (used_words a)

-- none of the words that an answer uses is cut off
padded_keeps : (n : ℕ) (ws : List ℕ) → length ws ≤ n → take (length ws) (padded n ws) ≡ ws
padded_keeps n [] h = refl
padded_keeps zero (w ∷ ws) h = absurd (omega arith)
padded_keeps (suc n) (w ∷ ws) h = ap (λ (l : List ℕ). w ∷ l) (padded_keeps n ws (omega arith))

-- a scan looks at no more slots than its budget and gives no more entries than a page holds
pub walk_bounds : (f : ℕ → Slot) (k n e : ℕ) → (k ≤ (walk f k n e).stop) × ((walk f k n e).stop ≤ k + n) × (length (walk f k n e).found ≤ e)
walk_bounds f k zero e = (omega arith, omega arith, omega arith)
walk_bounds f k (suc n) zero = (omega arith, omega arith, omega arith)
walk_bounds f k (suc n) (suc e) = go (is_occupied (f k)) (λ j. walk_bounds f (suc k) n j)
  where
    go : (b : Bool) → ((j : ℕ) → (suc k ≤ (walk f (suc k) n j).stop) × ((walk f (suc k) n j).stop ≤ suc k + n) × (length (walk f (suc k) n j).found ≤ j))
        → (k ≤ (walk f (suc k) n (pick b e (suc e))).stop) × ((walk f (suc k) n (pick b e (suc e))).stop ≤ k + suc n)
        × (length (pick b (k ∷ (walk f (suc k) n (pick b e (suc e))).found) (walk f (suc k) n (pick b e (suc e))).found) ≤ suc e)
    go true h = (omega (arith, (h e).0), omega (arith, (h e).1), omega (arith, (h e).2))
    go false h = (omega (arith, (h (suc e)).0), omega (arith, (h (suc e)).1), omega (arith, (h (suc e)).2))

-- "examined .. equal to the definition's stop minus start, at most 256"
pub scan_bounds : (z : Sizes) (s : State) (t : Table) (c : ℕ) → ((snapshot_page z s t c).examined ≤ z.scan_slots) × (length (snapshot_page z s t c).entries ≤ z.scan_entries)
scan_bounds z s t c =
    let start : ℕ = min c (length_of z t) in
    let n : ℕ = min z.scan_slots (length_of z t - start) in
    let h = walk_bounds t.slots start n z.scan_entries in
    (omega (arith, h.0, h.1), omega (arith, h.2, length-map (walk t.slots start n z.scan_entries).found (snapshot_at s t)))

-- the answers with most words are a reservation's and a scan's: both fit
pub entry_words_law : (l : List Snapshot) → length (entry_words l) ≡ 5 * length l
entry_words_law [] = refl
entry_words_law (x ∷ l) = omega (arith, entry_words_law l)

pub batch_fits : (i n : ℕ) (f : ℕ → ℕ) (l : List ℕ) → n ≤ max_batch → length (used_words (batch i (map f (take n l)))) ≤ answer_words
unfolding used_words max_batch
batch_fits i n f l h = omega (arith, length-map (take n l) f, length-take n l)

pub scan_fits : (z : Sizes) → z.scan_entries ≤ 8 → (s : State) (t : Table) (c : ℕ) → length (used_words (scanned (snapshot_page z s t c))) ≤ answer_words
unfolding used_words
scan_fits z h s t c = omega (arith, (scan_bounds z s t c).1, entry_words_law (snapshot_page z s t c).entries)

-- every request has its answer
pub run_length : (z : Sizes) (s : State) (rs : List Request) → length (run z s rs).1 ≡ length rs
run_length z s [] = refl
run_length z s (r ∷ rs) = ap suc (run_length z (step z s r).0 rs)

pub all_length : (l : List Answer) → length (all_words l) ≡ answer_words * length l
all_length [] = refl
all_length (a ∷ l) = omega (arith, length-append (words_of a) (all_words l), words_length a, all_length l)

-- The call

long_enough : (answers : List ℕ) (rs : List Request) → answer_short answers rs ≡ false → answer_words * length rs ≤ length answers
unfolding answer_short
long_enough answers rs e = ltb-false (length answers) (answer_words * length rs) e

never_short : (answers : List ℕ) → answer_short answers [] ≡ false
unfolding answer_short
never_short answers = le-ltb (length answers) 0 (omega arith)

-- "An empty list is accepted", and changes nothing
pub empty_list : (z : Sizes) (s : State) (answers : List ℕ) → call z (some s) [] answers ≡ record { result = 0; state = some s; answers = answers }
unfolding call read_list
empty_list z s answers = rw (never_short answers)

-- "no lent word changes" unless a call gives 0, and as many answer words leave as came
pub record Called (z : Sizes) (s : Option State) (list answers : List ℕ) : Type 0 where
  pub kept : ((call z s list answers).result ≡ 0 → ⊥) → ((call z s list answers).state ≡ s) × ((call z s list answers).answers ≡ answers)
  pub long : length (call z s list answers).answers ≡ length answers

pub called : (z : Sizes) (s : Option State) (list answers : List ℕ) → Called z s list answers
unfolding call
called z none list answers = record { kept = λ n. (refl, refl); long = refl }
called z (some s) list answers = let h = go (read_list list) in record { kept = h.0; long = h.1 }
  where
    ends : (rs : List Request) (b : Bool) → answer_short answers rs ≡ b
        → (((pick b (record { result = 20; state = some s; answers = answers }) (ran z s rs answers)).result ≡ 0 → ⊥)
        → ((pick b (record { result = 20; state = some s; answers = answers }) (ran z s rs answers)).state ≡ some s) × ((pick b (record { result = 20; state = some s; answers = answers }) (ran z s rs answers)).answers ≡ answers))
        × (length (pick b (record { result = 20; state = some s; answers = answers }) (ran z s rs answers)).answers ≡ length answers)
    ends rs true e = (λ n. (refl, refl), refl)
    ends rs false e = (λ n. absurd (n refl), omega (arith, length-append (all_words (run z s rs).1) (drop (answer_words * length rs) answers), all_length (run z s rs).1, run_length z s rs, length-drop (answer_words * length rs) answers, long_enough answers rs e))

    go : (x : Option (List Request)) → (((on_requests z s answers x).result ≡ 0 → ⊥) → ((on_requests z s answers x).state ≡ some s) × ((on_requests z s answers x).answers ≡ answers))
        × (length (on_requests z s answers x).answers ≡ length answers)
    go none = (λ n. (refl, refl), refl)
    go (some rs) = ends rs (answer_short answers rs) refl
