-- SCAN_HANDLES is the model's step. Assumes nothing.
use Rattle.std.specs.Prelude.{◌≡◌, refl, Bool, true, false, List, ◌∷◌, ◌++◌, map, ℕ, zero, suc, ◌-◌, ◌*◌, min, ◌<◌, length, take, eqb, ltb}
use Rattle.std.proofs.Common.{sym, ap, ◌∙◌, arith, eqb-true}
use Rattle.std.proofs.Math.Path.{fun_ext}
use Rattle.std.proofs.Math.Option.{none, some}
use Rattle.std.proofs.lemmas.List.{length-map}
use Rattle.std.proofs.lemmas.Bool.{eqb-false}
use Rattle.words.specs.Pick.{bool}
use Rattle.codec.specs.Codec.{encode}
use Rattle.model.specs.Base.{bit, or_else, is_some, pick}
use Rattle.model.specs.State.{till, Slot, Slot.occupied, Table, State, is_occupied, max_slots}
use Rattle.model.specs.Storage.{Walk, walk, length_of}
use Rattle.model.specs.Request.{Request.scan_handles, Answer.scanned, Snapshot}
use Rattle.model.specs.Lookup.{snapshot_at}
use Rattle.model.specs.Decision.{Decision, Decision.accept}
use Rattle.model.specs.Step.{snapshot_page, scan_handles_of, decide}
use Rattle.model.specs.Words.{info_words, entry_words as snapshot_words, used_words}
use Rattle.layout.specs.declared.Shape.{Shape}
use Rattle.layout.specs.Layout.{Mem, head, load}
use Rattle.layout.specs.Fields.{head_pages, slot_tag, slot_generation}
use Rattle.layout.specs.Values.{tag_occupied}
use Rattle.layout.specs.Sizes.{page_size}
use Rattle.representation.specs.Represents.{slot_word, slot_in, Rep}
use Rattle.answer.specs.Does.{Does, does_refused, does_accepted}
use Rattle.lookup.specs.declared.SnapshotEntry.{SnapshotEntry}
use Rattle.lookup.specs.declared.SnapshotPage.{SnapshotPage}
use Rattle.lookup.specs.View.{handle_at, handle_of, table_refusal}
use Rattle.lookup.specs.Named.{slot_occupied, slot_tells, active_on, table_open, table_refused}
use Rattle.lookup.specs.Read.{object_known, info_is}
use Rattle.lookup.specs.Scan.{entry_of, pad_to, next_at, page_of, scan_of, has_next, next_word, entry_words, entry_list, page_list, scan_r}
use Rattle.lookup.specs.Walks.{went, walk_bounds, pad_take}

-- the words of a snapshot
abbrev pub shot_words : Snapshot → List ℕ
shot_words e = e.value ∷ info_words e.info

-- every slot that a walk finds is occupied
walk_words : (f : ℕ → Slot) (g : ℕ → SnapshotEntry) (h : ℕ → Snapshot) → ((k : ℕ) → is_occupied (f k) ≡ true → entry_words (g k) ≡ shot_words (h k))
    → (k n e : ℕ) → entry_list (map g (walk f k n e).found) ≡ snapshot_words (map h (walk f k n e).found)
walk_words f g h same k zero e = refl
walk_words f g h same k (suc n) zero = refl
walk_words f g h same k (suc n) (suc e) = go (is_occupied (f k)) refl (walk_words f g h same (suc k) n e) (walk_words f g h same (suc k) n (suc e))
  where
    go : (c : Bool) → is_occupied (f k) ≡ c
        → entry_list (map g (walk f (suc k) n e).found) ≡ snapshot_words (map h (walk f (suc k) n e).found)
        → entry_list (map g (walk f (suc k) n (suc e)).found) ≡ snapshot_words (map h (walk f (suc k) n (suc e)).found)
        → entry_list (map g (went f k n e c).found) ≡ snapshot_words (map h (went f k n e c).found)
    go true q i j = ap (λ (l : List ℕ). l ++ entry_list (map g (walk f (suc k) n e).found)) (same k q) ∙ ap (λ (l : List ℕ). shot_words (h k) ++ l) i
    go false q i j = j

next_has : (stop long : ℕ) → has_next (next_at stop long) ≡ bit (is_some (pick (ltb stop long) (some stop) none))
next_has stop long = bool (ltb stop long) (λ e. rw e) (λ e. rw e)

next_is : (stop long : ℕ) → next_word (next_at stop long) ≡ or_else (pick (ltb stop long) (some stop) none) 0
next_is stop long = bool (ltb stop long) (λ e. rw e) (λ e. rw e)

-- a page of a walk, and the model's
abbrev page_with : Mem → ℕ → ℕ → (ℕ → Slot) → ℕ → SnapshotPage
page_with m b c f n =
    let long : ℕ = min (n * page_size) max_slots in
    page_of m b (min c long) (walk f (min c long) (min 256 (long - min c long)) 8) long

abbrev answer_with : State → Table → ℕ → Walk → ℕ → List ℕ
answer_with s t start w long =
    length (map (snapshot_at s t) w.found) ∷ bit (is_some (pick (ltb w.stop long) (some w.stop) none)) ∷ or_else (pick (ltb w.stop long) (some w.stop) none) 0
    ∷ (w.stop - start) ∷ snapshot_words (map (snapshot_at s t) w.found)

-- an occupied slot's entry is the model's snapshot
pub entry_is : (ws : List ℕ) (sh : Shape) (s : State) → Rep ws sh s → (b : ℕ) → b < s.table_count → (k : ℕ) → is_occupied ((s.tables b).slots k) ≡ true
    → entry_words (entry_of (load ws sh) b k) ≡ shot_words (snapshot_at s (s.tables b) k)
entry_is ws sh s i b l k q =
    let m : Mem = load ws sh in
    let x = i.reps.memory.tables b l in
    let tag : slot_word m b k slot_tag ≡ tag_occupied = eqb-true (slot_word m b k slot_tag) tag_occupied (slot_tells m b k ∙ ap is_occupied (x.slots k) ∙ q) in
    let e : (s.tables b).slots k ≡ occupied (slot_word m b k slot_generation) (handle_of (handle_at m b k)) = sym (x.slots k) ∙ slot_occupied m b k tag in
    let o = object_known s i.well_formed b l k (slot_word m b k slot_generation) (handle_of (handle_at m b k)) e in
    rw (e, x.mask) (ap (λ (r : List ℕ). encode (s.tables b).mask k (slot_word m b k slot_generation) ∷ r) (info_is sh m s i.reps.memory (handle_at m b k) o))

-- a page's words are the model's
page_is : (ws : List ℕ) (sh : Shape) (s : State) → Rep ws sh s → (b : ℕ) → b < s.table_count → (start n long : ℕ)
    → page_list (page_of (load ws sh) b start (walk (s.tables b).slots start n 8) long) ≡ answer_with s (s.tables b) start (walk (s.tables b).slots start n 8) long
page_is ws sh s i b l start n long =
    let m : Mem = load ws sh in
    let w : Walk = walk (s.tables b).slots start n 8 in
    let xs : List SnapshotEntry = map (entry_of m b) w.found in
    let lx : length xs ≡ length w.found = length-map w.found (entry_of m b) in
    let ly : length (map (snapshot_at s (s.tables b)) w.found) ≡ length w.found = length-map w.found (snapshot_at s (s.tables b)) in
    let es : entry_list (take (length w.found) (pad_to 8 xs)) ≡ snapshot_words (map (snapshot_at s (s.tables b)) w.found)
    = ap (λ (j : ℕ). entry_list (take j (pad_to 8 xs))) (sym lx)
    ∙ ap entry_list (pad_take 8 xs (omega (arith, lx, (walk_bounds (s.tables b).slots start n 8).2)))
    ∙ walk_words (s.tables b).slots (entry_of m b) (snapshot_at s (s.tables b)) (entry_is ws sh s i b l) start n 8 in
    parts (length w.found) _ _ _ _ _ (w.stop - start) _ _ (sym ly) (next_has w.stop long) (next_is w.stop long) es
  where
    parts : (a a' h h' k k' x : ℕ) (es es' : List ℕ) → a ≡ a' → h ≡ h' → k ≡ k' → es ≡ es' → ◌≡◌ {A = List ℕ} (a ∷ h ∷ k ∷ x ∷ es) (a' ∷ h' ∷ k' ∷ x ∷ es')
    parts a a' h h' k k' x es es' p q r z = rw (p, q, r, z)

scan_is : (ws : List ℕ) (sh : Shape) (s : State) → Rep ws sh s → (b : ℕ) → b < s.table_count → (c : ℕ)
    → ◌≡◌ {A = List ℕ} (0 ∷ page_list (scan_of (load ws sh) b c)) (used_words (scanned (snapshot_page till s (s.tables b) c)))
unfolding scan_of used_words
scan_is ws sh s i b l c =
    let m : Mem = load ws sh in
    let x = i.reps.memory.tables b l in
    let f : slot_in m b ≡ (s.tables b).slots = fun_ext x.slots in
    let long : ℕ = length_of till (s.tables b) in
    let z : scan_of m b c ≡ page_with m b c (s.tables b).slots (s.tables b).size
    = ap (λ (g : ℕ → Slot). page_with m b c g (m (head b head_pages))) f ∙ ap (page_with m b c (s.tables b).slots) x.size in
    ap (λ (p : SnapshotPage). 0 ∷ page_list p) z
    ∙ ap (λ (r : List ℕ). 0 ∷ r) (page_is ws sh s i b l (min c long) (min 256 (long - min c long)) long)

-- SCAN_HANDLES is the model's step
pub scan_does : (ws : List ℕ) (sh : Shape) (s : State) → Rep ws sh s → (b c : ℕ) (os : List ℕ) (base : ℕ) → Does ws os sh base s (scan_handles b c) (scan_r ws os sh base b c)
unfolding scan_r decide scan_handles_of
scan_does ws sh s i b c os base =
    let m : Mem = load ws sh in
    let f : Table → Decision = λ t. accept s (scanned (snapshot_page till s t c)) in
    bool (eqb (table_refusal m sh b) 0)
    (λ e. let a = table_open sh m s i.reps.memory b (eqb-true (table_refusal m sh b) 0 e) in
    rw (e, scan_is ws sh s i b a.known c)
    (does_accepted os sh base s (scan_handles b c) ws s (scanned (snapshot_page till s (s.tables b) c)) i.reps (active_on s b a f)))
    (λ e. rw e (does_refused os sh base s (scan_handles b c) ws (table_refusal m sh b) i.reps
    (table_refused sh m s i.reps.memory b (table_refusal m sh b) refl (eqb-false (table_refusal m sh b) 0 e) f)))
