-- The fields of a record in place are those that the model reads.
-- Assumes nothing.
use Rattle.std.specs.Prelude.{◌≡◌, Bool, true, false, ◌&&◌, List, [], ◌∷◌, map, length, get_or, drop, ltb, leb}
use Rattle.std.proofs.Math.Path.{refl}
use Rattle.std.proofs.Common.{sym, ap, ◌∙◌, arith, drop_of_length-le, drop-cons, ltb-true, ltb-false, le-leb, leb-true, eqb-true}
use Rattle.std.proofs.Math.Option.{Option, none, some}
use Prim.Native.Nat.{ℕ, zero, suc, ◌+◌, ◌/◌, ◌%◌, ◌≤◌, ◌<◌}
use Rattle.std.proofs.Math.ListN.{get_or-eq_default}
use Rattle.std.proofs.lemmas.Bool.{lt-leb, eqb-false}
use Rattle.words.specs.Pick.{both}
use Rattle.authority.specs.Rights.{contains}
use Rattle.format.specs.Format.{field_fits, field_kinds, field_count}
use Rattle.model.specs.Base.{pick, or_else}
use Rattle.model.specs.Words.{Reading, and_then, Fields, odd, read_field, read_fields, fit_all, may, must, good_record, read_record}
use Rattle.format.specs.Fields.{op_field}
use Rattle.request.specs.Place.{up_to, past, after, here, fields_from, map_at, fields_at, end_at, kinds_of, field_end, walk, good_map, record_end}

pub after_ge : (n map p : ℕ) → p ≤ after n map p
unfolding after
after_ge zero map p = omega arith
after_ge (suc n) map p = go (odd map) (λ q. after_ge n (map / 2) q)
  where
    go : (b : Bool) → ((q : ℕ) → q ≤ after n (map / 2) q) → p ≤ after n (map / 2) (past b p)
    go true h = omega (arith, h (suc p))
    go false h = h p

-- a field more in front of what was read
abbrev joined : Option ℕ → Reading Fields → Reading Fields
joined f x = and_then x λ r. some (f ∷ r.0, r.1)

more : (b : Bool) (f : Option ℕ) (fs : Fields) (ws : List ℕ) → joined f (pick b (some (fs, ws)) none) ≡ pick b (some (f ∷ fs, ws)) none
more true f fs ws = refl
more false f fs ws = refl

-- a field, and the others after it
abbrev one_then : (Reading (Option ℕ)) → (List ℕ → Reading Fields) → Reading Fields
one_then x rest = and_then x λ a. joined a.0 (rest a.1)

-- the model's reading of n fields that begin at a place
abbrev reading : ℕ → ℕ → List ℕ → ℕ → Reading Fields
reading n m ws p = pick (leb (after n m p) (length ws)) (some (fields_from n m ws p, drop (after n m p) ws)) none

pub fields_read : (n m : ℕ) (ws : List ℕ) (p : ℕ) → p ≤ length ws → read_fields n m (drop p ws) ≡ reading n m ws p
unfolding after fields_from
fields_read zero m ws p h = rw (le-leb p (length ws) h)
fields_read (suc n) m ws p h = go (odd m) (λ q k. fields_read n (m / 2) ws q k)
  where
    stands : (t : Bool) → ltb p (length ws) ≡ t → ((q : ℕ) → q ≤ length ws → read_fields n (m / 2) (drop q ws) ≡ reading n (m / 2) ws q)
        → one_then (read_field true (drop p ws)) (read_fields n (m / 2))
        ≡ pick (leb (after n (m / 2) (suc p)) (length ws)) (some (some (get_or ws p 0) ∷ fields_from n (m / 2) ws (suc p), drop (after n (m / 2) (suc p)) ws)) none
    stands true e ih =
        ap (λ (x : List ℕ). one_then (read_field true x) (read_fields n (m / 2))) (drop-cons ws p 0 (ltb-true p (length ws) e))
        ∙ ap (joined (some (get_or ws p 0))) (ih (suc p) (ltb-true p (length ws) e))
        ∙ more (leb (after n (m / 2) (suc p)) (length ws)) (some (get_or ws p 0)) (fields_from n (m / 2) ws (suc p)) (drop (after n (m / 2) (suc p)) ws)
    stands false e ih =
        let l : length ws ≤ p = ltb-false p (length ws) e in
        ap (λ (x : List ℕ). one_then (read_field true x) (read_fields n (m / 2))) (drop_of_length-le ws l)
        ∙ sym (ap (λ (b : Bool). pick b (some (some (get_or ws p 0) ∷ fields_from n (m / 2) ws (suc p), drop (after n (m / 2) (suc p)) ws)) none)
        (lt-leb (after n (m / 2) (suc p)) (length ws) (omega (arith, after_ge n (m / 2) (suc p)))))

    go : (b : Bool) → ((q : ℕ) → q ≤ length ws → read_fields n (m / 2) (drop q ws) ≡ reading n (m / 2) ws q)
        → one_then (read_field b (drop p ws)) (read_fields n (m / 2))
        ≡ pick (leb (after n (m / 2) (past b p)) (length ws)) (some (here b ws p ∷ fields_from n (m / 2) ws (past b p), drop (after n (m / 2) (past b p)) ws)) none
    go false ih =
        ap (joined none) (ih p h) ∙ more (leb (after n (m / 2) p) (length ws)) none (fields_from n (m / 2) ws p) (drop (after n (m / 2) p) ws)
    go true ih = stands (ltb p (length ws)) refl ih

-- a walk over the kinds gives the place after the fields exactly if the list does not end inside them and each word fits its kind
walked : List ℕ → List ℕ → ℕ → ℕ → Option ℕ
walked ks ws m p = pick (leb (after (length ks) m p) (length ws) && fit_all ks (fields_from (length ks) m ws p)) (some (after (length ks) m p)) none

never : (b : Bool) (e : ℕ) → ◌≡◌ {A = Option ℕ} none (pick (b && false) (some e) none)
never true e = refl
never false e = refl

walk_is : (ks ws : List ℕ) (m p : ℕ) → p ≤ length ws → walk ks ws m p ≡ walked ks ws m p
unfolding walk walked after fields_from field_end
walk_is [] ws m p h = rw (le-leb p (length ws) h)
walk_is (k ∷ ks) ws m p h = go (odd m) (λ q l. walk_is ks ws (m / 2) q l)
  where
    later : ℕ → ℕ
    later q = after (length ks) (m / 2) q

    rest : ℕ → Fields
    rest q = fields_from (length ks) (m / 2) ws q

    Rest : Type 0
    Rest = (q : ℕ) → q ≤ length ws → walk ks ws (m / 2) q ≡ pick (leb (later q) (length ws) && fit_all ks (rest q)) (some (later q)) none

    fits : (f : Bool) → Rest → p < length ws
        → and_then (pick f (some (suc p)) none) (λ q. walk ks ws (m / 2) q) ≡ pick (leb (later (suc p)) (length ws) && (f && fit_all ks (rest (suc p)))) (some (later (suc p))) none
    fits true ih l = ih (suc p) l
    fits false ih l = never (leb (later (suc p)) (length ws)) (later (suc p))

    stands : (t : Bool) → ltb p (length ws) ≡ t → Rest
        → and_then (pick t (pick (field_fits k (get_or ws p 0)) (some (suc p)) none) none) (λ q. walk ks ws (m / 2) q)
        ≡ pick (leb (later (suc p)) (length ws) && (field_fits k (get_or ws p 0) && fit_all ks (rest (suc p)))) (some (later (suc p))) none
    stands true e ih = fits (field_fits k (get_or ws p 0)) ih (ltb-true p (length ws) e)
    stands false e ih =
        let l : length ws ≤ p = ltb-false p (length ws) e in
        sym (ap (λ (b : Bool). pick (b && (field_fits k (get_or ws p 0) && fit_all ks (rest (suc p)))) (some (later (suc p))) none)
        (lt-leb (later (suc p)) (length ws) (omega (arith, after_ge (length ks) (m / 2) (suc p)))))

    go : (b : Bool) → Rest
        → and_then (pick b (pick (ltb p (length ws)) (pick (field_fits k (get_or ws p 0)) (some (suc p)) none) none) (some p)) (λ q. walk ks ws (m / 2) q)
        ≡ pick (leb (later (past b p)) (length ws) && fit_all (k ∷ ks) (here b ws p ∷ rest (past b p))) (some (later (past b p))) none
    go true ih = stands (ltb p (length ws)) refl ih
    go false ih = ih p h

-- Records

then_pick : {A B : Type 0} (l : Bool) (a : A) (f : A → Option B) → and_then (pick l (some a) none) f ≡ pick l (f a) none
then_pick true a f = refl
then_pick false a f = refl

-- what the model and the walk in place test, in their two orders
tests : (odd' c d l f : Bool) (e : ℕ) (ws : List ℕ) (x : Fields)
    → pick l (pick (odd' && (c && (d && f))) (some (x, drop e ws)) none) none ≡ up_to ws (pick (odd' && (c && d)) (pick (l && f) (some e) none) none) x
tests true true true true true e ws x = refl
tests true true true true false e ws x = refl
tests true true true false f e ws x = refl
tests true true false true f e ws x = refl
tests true true false false f e ws x = refl
tests true false d true f e ws x = refl
tests true false d false f e ws x = refl
tests false c d true f e ws x = refl
tests false c d false f e ws x = refl

kinds_count : (first : ℕ) → length (kinds_of first) ≡ field_count
unfolding kinds_of field_kinds
kinds_count first = refl

pub walk_all : (first : ℕ) (ws : List ℕ) (m p : ℕ) → p ≤ length ws
    → walk (kinds_of first) ws m p ≡ pick (leb (after field_count m p) (length ws) && fit_all (kinds_of first) (fields_from field_count m ws p)) (some (after field_count m p)) none
unfolding walked
walk_all first ws m p h =
    walk_is (kinds_of first) ws m p h
    ∙ ap (λ (n : ℕ). pick (leb (after n m p) (length ws) && fit_all (kinds_of first) (fields_from n m ws p)) (some (after n m p)) none) (kinds_count first)

walk_18 : (first : ℕ) (ws : List ℕ) (at : ℕ) → suc at ≤ length ws
    → walk (kinds_of first) ws (map_at ws at) (suc at)
    ≡ pick (leb (after field_count (map_at ws at) (suc at)) (length ws) && fit_all (kinds_of first) (fields_at ws at)) (some (after field_count (map_at ws at) (suc at))) none
unfolding fields_at
walk_18 first ws at h = walk_all first ws (map_at ws at) (suc at) h

-- a record is read as the model reads it
pub record_read : (first : ℕ) (must_of may_of : ℕ → ℕ) (ws : List ℕ) (at : ℕ)
    → read_record first must_of may_of (drop at ws)
    ≡ up_to ws (record_end first (must_of (must (fields_at ws at) op_field)) (must_of (must (fields_at ws at) op_field) + may_of (must (fields_at ws at) op_field)) ws at) (fields_at ws at)
unfolding record_end fields_at good_map kinds_of
record_read first must_of may_of ws at = go (ltb at (length ws)) refl
  where
    op : ℕ
    op = must (fields_at ws at) op_field

    judge : Fields × List ℕ → Reading Fields
    judge r = pick (good_record first (must_of (must r.0 op_field)) (may_of (must r.0 op_field)) (map_at ws at) r.0) (some r) none

    go : (t : Bool) → ltb at (length ws) ≡ t
        → read_record first must_of may_of (drop at ws)
        ≡ up_to ws (pick t (pick (good_map (map_at ws at) (must_of op) (must_of op + may_of op)) (walk (kinds_of first) ws (map_at ws at) (suc at)) none) none) (fields_at ws at)
    go true e =
        let h : suc at ≤ length ws = ltb-true at (length ws) e in
        ap (read_record first must_of may_of) (drop-cons ws at 0 h)
        ∙ ap (λ (x : Reading Fields). and_then x judge) (fields_read field_count (map_at ws at) ws (suc at) h)
        ∙ then_pick (leb (after field_count (map_at ws at) (suc at)) (length ws)) (fields_at ws at, drop (after field_count (map_at ws at) (suc at)) ws) judge
        ∙ tests (odd (map_at ws at)) (contains (map_at ws at) (must_of op)) (contains (must_of op + may_of op) (map_at ws at))
        (leb (after field_count (map_at ws at) (suc at)) (length ws)) (fit_all (kinds_of first) (fields_at ws at)) (after field_count (map_at ws at) (suc at)) ws (fields_at ws at)
        ∙ ap (λ (x : Option ℕ). up_to ws (pick (good_map (map_at ws at) (must_of op) (must_of op + may_of op)) x none) (fields_at ws at)) (sym (walk_18 first ws at h))
    go false e = ap (read_record first must_of may_of) (drop_of_length-le ws (ltb-false at (length ws) e))

-- What a record that is well formed has

some_is : {A : Type 0} (b : Bool) (x y : Option A) (a : A) → pick b x y ≡ some a → y ≡ none → (b ≡ true) × (x ≡ some a)
some_is true x y a e n = (refl, e)
some_is false x y a e n = let z : ◌≡◌ {A = ℕ} 0 1 = cc in absurd (omega arith)

-- the place after it, and what was tested
pub record Whole (first must allowed : ℕ) (ws : List ℕ) (at e : ℕ) : Type 0 where
  pub inside : at < length ws
  pub ends : e ≡ end_at ws at
  pub rises : at < e
  pub short : e ≤ length ws
  pub known : good_map (map_at ws at) must allowed ≡ true
  pub fit : fit_all (kinds_of first) (fields_at ws at) ≡ true

pub record_whole : (first must allowed : ℕ) (ws : List ℕ) (at e : ℕ) → record_end first must allowed ws at ≡ some e → Whole first must allowed ws at e
unfolding record_end end_at
record_whole first must allowed ws at e p =
    let n : ℕ = after field_count (map_at ws at) (suc at) in
    let q = some_is (ltb at (length ws)) _ none e p refl in
    let r = some_is (good_map (map_at ws at) must allowed) _ none e q.1 refl in
    let i : at < length ws = ltb-true at (length ws) q.0 in
    let s = some_is (leb n (length ws) && fit_all (kinds_of first) (fields_at ws at)) (some n) none e (sym (walk_18 first ws at i) ∙ r.1) refl in
    let t = both (leb n (length ws)) (fit_all (kinds_of first) (fields_at ws at)) s.0 in
    let se : some n ≡ some e = s.1 in
    let ne : n ≡ e = cc in
    let el : pick (ltb at (length ws)) n at ≡ n = ap (λ (b : Bool). pick b n at) q.0 in
    record {
      inside = i;
      ends = sym (el ∙ ne);
      rises = omega (arith, after_ge field_count (map_at ws at) (suc at), ne);
      short = omega (arith, leb-true n (length ws) t.0, ne);
      known = r.0;
      fit = t.1;
    }

-- One field, found by its bit

-- the place after a field, as the code counts it
pub past_is : (m p : ℕ) → past (odd m) p ≡ p + m % 2
past_is m p = go (odd m) refl
  where
    go : (b : Bool) → odd m ≡ b → past b p ≡ p + m % 2
    go true e = omega (arith, eqb-true (m % 2) 1 e)
    go false e = let z : m % 2 ≡ 1 → ⊥ = eqb-false (m % 2) 1 e in omega arith

module _ (ws : List ℕ) where
  -- past the end there is no bit map
  no_field : (n p k : ℕ) → may (fields_from n 0 ws p) k ≡ none
  unfolding fields_from
  no_field zero p k = refl
  no_field (suc n) p zero = refl
  no_field (suc n) p (suc k) = no_field n p k

  pub find_out : (at k : ℕ) → length ws ≤ at → may (fields_at ws at) k ≡ none
  unfolding fields_at
  find_out at k h = rw (get_or-eq_default ws 0 h) (no_field field_count (suc at) k)

-- bit 0's word fits its kind: an op is known, an item's operation is 0 or 1
pub first_fits : (first m l : ℕ) (ws : List ℕ) (at e : ℕ) → Whole first m l ws at e → field_fits first (must (fields_at ws at) op_field) ≡ true
unfolding good_map kinds_of fields_at fields_from
first_fits first m l ws at e w = go (odd (map_at ws at)) (both (odd (map_at ws at)) _ w.known).0 w.fit
  where
    go : (b : Bool) → b ≡ true
        → fit_all (first ∷ drop 1 field_kinds) (here b ws (suc at) ∷ fields_from 17 (map_at ws at / 2) ws (past b (suc at))) ≡ true
        → field_fits first (or_else (here b ws (suc at)) 0) ≡ true
    go true q r = (both (field_fits first (get_or ws (suc at) 0)) _ r).0
    go false q r = let z : ◌≡◌ {A = ℕ} 0 1 = cc in absurd (omega arith)
