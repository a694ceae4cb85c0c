-- The loop of a scan: each turn keeps what the walk is to find. Assumes nothing.
use Rattle.std.proofs.Math.Path.{◌≡◌, sym, ap}
use Rattle.std.specs.Prelude.{refl, Bool, true, false, ℕ, zero, suc, ◌+◌, ◌-◌, ◌%◌, min, ◌≤◌, ◌<◌, set, replicate, take, eqb}
use Rattle.std.proofs.Common.{◌∙◌, arith, length-append}
use mathlib.Core.List.{List, [], ◌∷◌, ◌++◌, map, append-nil, append_assoc}
use Rattle.std.proofs.Math.ListN.{length}
use Rattle.std.proofs.lemmas.List.{length-map}
use Rattle.model.specs.Base.{pick}
use Rattle.model.specs.State.{Slot, is_occupied}
use Rattle.model.specs.Storage.{Walk, walk}
use Rattle.layout.specs.declared.CellWords.{CellWords}
use Rattle.layout.specs.Layout.{Mem, head}
use Rattle.layout.specs.Fields.{head_mask, slot_tag}
use Rattle.layout.specs.Sizes.{page_size}
use Rattle.layout.specs.Values.{tag_occupied}
use Rattle.representation.specs.Represents.{word_in, frame_of, slot_in}
use Rattle.storage.specs.Cells.{cell_in}
use Rattle.lookup.specs.declared.SnapshotEntry.{SnapshotEntry}
use Rattle.lookup.specs.declared.SnapshotPage.{SnapshotPage}
use Rattle.lookup.specs.Named.{slot_tells}
use Rattle.lookup.specs.Scan.{length_at, entry_by, entry_of, no_entry, pad_to, start_at, next_at, page_of, scan_of, ended_of}

-- ---- walks

-- a walk ends where no slot or no entry is left
pub walk_end : (f : ℕ → Slot) (k n e : ℕ) → (0 < n → e ≡ 0) → ((walk f k n e).found ≡ []) × ((walk f k n e).stop ≡ k)
walk_end f k zero e h = (refl, refl)
walk_end f k (suc n) zero h = (refl, refl)
walk_end f k (suc n) (suc e) h = absurd (omega (arith, h (omega arith)))

-- else it looks at one slot, occupied or not, and goes on
abbrev pub went : (ℕ → Slot) → ℕ → ℕ → ℕ → Bool → Walk
went f k n e c = record {
  found = pick c (k ∷ (walk f (suc k) n (pick c e (suc e))).found) (walk f (suc k) n (pick c e (suc e))).found;
  stop = (walk f (suc k) n (pick c e (suc e))).stop;
}

pub walk_hit : (f : ℕ → Slot) (k n e : ℕ) → 0 < n → 0 < e → is_occupied (f k) ≡ true
    → ((walk f k n e).found ≡ k ∷ (walk f (k + 1) (n - 1) (e - 1)).found) × ((walk f k n e).stop ≡ (walk f (k + 1) (n - 1) (e - 1)).stop)
walk_hit f k zero e h l q = absurd (omega arith)
walk_hit f k (suc n) zero h l q = absurd (omega arith)
walk_hit f k (suc n) (suc e) h l q =
    let w : walk f k (suc n) (suc e) ≡ went f k n e true = ap (went f k n e) q in
    let a : k + 1 ≡ suc k = omega arith in let c : suc n - 1 ≡ n = omega arith in let d : suc e - 1 ≡ e = omega arith in
    rw (a, c, d) (ap (λ (x : Walk). x.found) w, ap (λ (x : Walk). x.stop) w)

pub walk_miss : (f : ℕ → Slot) (k n e : ℕ) → 0 < n → 0 < e → is_occupied (f k) ≡ false
    → ((walk f k n e).found ≡ (walk f (k + 1) (n - 1) e).found) × ((walk f k n e).stop ≡ (walk f (k + 1) (n - 1) e).stop)
walk_miss f k zero e h l q = absurd (omega arith)
walk_miss f k (suc n) zero h l q = absurd (omega arith)
walk_miss f k (suc n) (suc e) h l q =
    let w : walk f k (suc n) (suc e) ≡ went f k n e false = ap (went f k n e) q in
    let a : k + 1 ≡ suc k = omega arith in let c : suc n - 1 ≡ n = omega arith in
    rw (a, c) (ap (λ (x : Walk). x.found) w, ap (λ (x : Walk). x.stop) w)

-- it stops past no more slots, and finds no more entries, than it may
abbrev Bounded : ℕ → ℕ → ℕ → Walk → Type 0
Bounded k n e w = (w.stop ≤ k + n) × (k ≤ w.stop) × (length w.found ≤ e)

pub walk_bounds : (f : ℕ → Slot) (k n e : ℕ) → Bounded k n e (walk f k n e)
walk_bounds f k zero e = (omega arith, omega arith, omega arith)
walk_bounds f k (suc n) zero = (omega arith, omega arith, omega arith)
walk_bounds f k (suc n) (suc e) = go (is_occupied (f k)) (walk_bounds f (suc k) n e) (walk_bounds f (suc k) n (suc e))
  where
    go : (c : Bool) → Bounded (suc k) n e (walk f (suc k) n e) → Bounded (suc k) n (suc e) (walk f (suc k) n (suc e)) → Bounded k (suc n) (suc e) (went f k n e c)
    go true i j = (omega (arith, i.0), omega (arith, i.1), omega (arith, i.2))
    go false i j = (omega (arith, j.0), omega (arith, j.1), j.2)

-- ---- arrays

pub pad_add : (n : ℕ) (xs : List SnapshotEntry) (x : SnapshotEntry) → length xs < n → set (pad_to n xs) (length xs) x ≡ pad_to n (xs ++ (x ∷ []))
unfolding pad_to
pad_add zero xs x h = absurd (omega arith)
pad_add (suc n) [] x h = refl
pad_add (suc n) (y ∷ xs) x h = ap (λ (l : List SnapshotEntry). y ∷ l) (pad_add n xs x (omega arith))

pub pad_take : (n : ℕ) (xs : List SnapshotEntry) → length xs ≤ n → take (length xs) (pad_to n xs) ≡ xs
unfolding pad_to
pad_take zero [] h = refl
pad_take zero (x ∷ xs) h = absurd (omega arith)
pad_take (suc n) [] h = refl
pad_take (suc n) (x ∷ xs) h = ap (λ (l : List SnapshotEntry). x ∷ l) (pad_take n xs (omega arith))

map_add : (f : ℕ → SnapshotEntry) (ks : List ℕ) (k : ℕ) → map f (ks ++ (k ∷ [])) ≡ map f ks ++ (f k ∷ [])
map_add f [] k = refl
map_add f (j ∷ ks) k = ap (λ (l : List SnapshotEntry). f j ∷ l) (map_add f ks k)

-- ---- the loop

-- the walk over n slots from `start` is what stands in the array, and then the walk over `left` slots from `at`
pub record Scanning (m : Mem) (b start n : ℕ) (es : List SnapshotEntry) (len at left : ℕ) : Type 0 where
  pub slots : List ℕ
  pub entries : es ≡ pad_to 8 (map (entry_of m b) slots)
  pub count : len ≡ length slots
  pub room : length slots ≤ 8
  pub place : at + left ≡ start + n
  pub found : (walk (slot_in m b) start n 8).found ≡ slots ++ (walk (slot_in m b) at left (8 - length slots)).found
  pub stop : (walk (slot_in m b) start n 8).stop ≡ (walk (slot_in m b) at left (8 - length slots)).stop

pub scan_first : (m : Mem) (b start n : ℕ) (x : SnapshotEntry) → x ≡ no_entry → Scanning m b start n (replicate 8 x) 0 start n
unfolding pad_to
scan_first m b start n x e = rw e (record { slots = []; entries = refl; count = refl; room = omega arith; place = refl; found = refl; stop = refl })

module _ (m : Mem) (b start n : ℕ) (es : List SnapshotEntry) (len at left : ℕ) (i : Scanning m b start n es len at left) where
  -- a slot that is not occupied
  scan_miss : 0 < left → len < 8 → is_occupied (slot_in m b at) ≡ false → Scanning m b start n es len (at + 1) (left - 1)
  scan_miss h l q =
      let w = walk_miss (slot_in m b) at left (8 - length i.slots) h (omega (arith, i.count)) q in
      record {
        slots = i.slots;
        entries = i.entries;
        count = i.count;
        room = i.room;
        place = omega (arith, i.place);
        found = i.found ∙ ap (λ (x : List ℕ). i.slots ++ x) w.0;
        stop = i.stop ∙ w.1;
      }

  -- an occupied one
  scan_hit : 0 < left → len < 8 → is_occupied (slot_in m b at) ≡ true → Scanning m b start n (set es len (entry_of m b at)) (len + 1) (at + 1) (left - 1)
  scan_hit h l q =
      let ks : List ℕ = i.slots ++ (at ∷ []) in
      let w = walk_hit (slot_in m b) at left (8 - length i.slots) h (omega (arith, i.count)) q in
      let long : length ks ≡ length i.slots + 1 = length-append i.slots (at ∷ []) in
      let e : 8 - length i.slots - 1 ≡ 8 - length ks = omega (arith, long) in
      let f : List ℕ → List ℕ = λ x. i.slots ++ (at ∷ x) in
      let lm : length (map (entry_of m b) i.slots) ≡ length i.slots = length-map i.slots (entry_of m b) in
      record {
        slots = ks;
        entries = ap (λ (x : List SnapshotEntry). set x len (entry_of m b at)) i.entries
            ∙ ap (λ (x : ℕ). set (pad_to 8 (map (entry_of m b) i.slots)) x (entry_of m b at)) (i.count ∙ sym lm)
            ∙ pad_add 8 (map (entry_of m b) i.slots) (entry_of m b at) (omega (arith, i.count, lm))
            ∙ ap (pad_to 8) (sym (map_add (entry_of m b) i.slots at));
        count = omega (arith, i.count, long);
        room = omega (arith, i.count, long);
        place = omega (arith, i.place);
        found = i.found ∙ ap (λ (x : List ℕ). i.slots ++ x) w.0 ∙ ap (λ (x : ℕ). f (walk (slot_in m b) (at + 1) (left - 1) x).found) e
            ∙ sym (append_assoc i.slots (at ∷ []) (walk (slot_in m b) (at + 1) (left - 1) (8 - length ks)).found);
        stop = i.stop ∙ w.1 ∙ ap (λ (x : ℕ). (walk (slot_in m b) (at + 1) (left - 1) x).stop) e;
      }

  -- a turn of the loop: t tells whether the slot is occupied
  module _ (h : 0 < left) (l : len < 8) (fr tag : ℕ) (t : Bool) (ef : fr ≡ frame_of m b at) (eg : tag ≡ word_in m fr (at % page_size) slot_tag) (et : t ≡ eqb tag 3) where
    tells : is_occupied (slot_in m b at) ≡ t
    tells = sym (slot_tells m b at) ∙ sym (et ∙ ap (λ (x : ℕ). eqb x tag_occupied) (eg ∙ ap (λ (x : ℕ). word_in m x (at % page_size) slot_tag) ef))

    pub scan_past : t ≡ false → Scanning m b start n es len (at + 1) (left - 1)
    scan_past q = scan_miss h l (tells ∙ q)

    pub scan_took : (mask : ℕ) (w : CellWords) (x : SnapshotEntry) → t ≡ true → mask ≡ m (head b head_mask) → w ≡ cell_in m fr (at % page_size) → x ≡ entry_by m mask at w
        → Scanning m b start n (set es len x) (len + 1) (at + 1) (left - 1)
    scan_took mask w x q p ew d =
        let z : x ≡ entry_of m b at = d ∙ ap (λ (y : ℕ). entry_by m y at w) p ∙ ap (entry_by m (m (head b head_mask)) at) (ew ∙ ap (λ (y : ℕ). cell_in m y (at % page_size)) ef) in
        rw z (scan_hit h l (tells ∙ q))

  -- the loop's end: no slot left, or the array full
  pub scan_end : (c long : ℕ) (r : SnapshotPage) → long ≡ length_at m b → start ≡ min c long → n ≡ min 256 (long - start) → r ≡ ended_of es len start at long → (0 < left → 8 ≤ len)
      → r ≡ scan_of m b c
  unfolding scan_of
  scan_end c long r e₂ e e₃ q full =
      let e₁ : start ≡ start_at m b c = e ∙ ap (min c) e₂ in
      let w = walk_end (slot_in m b) at left (8 - length i.slots) (λ h. omega (arith, full h, i.count, i.room)) in
      let found : (walk (slot_in m b) start n 8).found ≡ i.slots = i.found ∙ ap (λ (x : List ℕ). i.slots ++ x) w.0 ∙ append-nil i.slots in
      let z : ended_of es len start at long ≡ page_of m b start (walk (slot_in m b) start n 8) long = parts start long es _ len _ at _
      (i.entries ∙ ap (λ (x : List ℕ). pad_to 8 (map (entry_of m b) x)) (sym found)) (i.count ∙ ap length (sym found)) (sym w.1 ∙ sym i.stop) in
      q ∙ z ∙ rw (e₃, e₁, e₂)
    where
      parts : (start long : ℕ) (es es' : List SnapshotEntry) (n n' k k' : ℕ) → es ≡ es' → n ≡ n' → k ≡ k'
          → ◌≡◌ {A = SnapshotPage} (record { entries = es; len = n; next = next_at k long; examined = k - start }) (record { entries = es'; len = n'; next = next_at k' long; examined = k' - start })
      parts start long es es' n n' k k' a d e = rw (a, d, e)

-- "at most 256", in any memory; the clause `bounded` of `scan` says it of a state's words
pub examined_few : (m : Mem) (b c : ℕ) → (scan_of m b c).examined ≤ 256
unfolding scan_of
examined_few m b c =
    let w = walk_bounds (slot_in m b) (start_at m b c) (min 256 (length_at m b - start_at m b c)) 8 in
    omega (arith, w.0)
