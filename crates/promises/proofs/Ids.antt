-- A list of requests with its ids changed by a function, as words and as requests, and with more words behind it: the one reads as the other.
-- Assumes nothing.
use Rattle.std.specs.Prelude.{◌≡◌, Bool, true, false, not, ◌&&◌, ◌||◌, drop, eqb}
use Rattle.std.proofs.Math.Path.{refl, ap}
use Rattle.std.proofs.Common.{sym, ◌∙◌, arith, zero-add, suc-add, add-suc, add-zero, eqb-true}
use mathlib.Core.List.{List, [], ◌∷◌, ◌++◌, map}
use Rattle.std.proofs.Math.Option.{Option, none, some}
use Prim.Native.Nat.{ℕ, zero, suc, ◌+◌, ◌/◌, ◌≤◌}
use Rattle.std.proofs.Math.ListN.{length, get_or, length-append}
use Rattle.words.specs.Pick.{clash, both}
use Rattle.format.specs.Fields.{op_field, table_field, object_field, count_field, value_field, rights_field, flags_field, id_field, destination_field, kind_field, koid_field, cursor_field, route_field, offered_rights_field, offered_kind_field, expected_kind_field, forbidden_object_field, forbidden_kind_field, an_op, an_operation, zero_word}
use Rattle.format.specs.Format.{musts, mays, transfer_item_must, transfer_item_may, parcel_item_must, parcel_item_may, field_kinds, field_fits, field_count}
use Rattle.model.specs.Base.{pick, nth, or_else}
use Rattle.model.specs.Request.{Item}
use Rattle.model.specs.Request.{Request, Request.new_object, Request.duplicate, Request.release_parcel, Request.retire_object, Request.reserve, Request.trim, Request.abort, Request.publish, Request.get_info, Request.resolve, Request.replace, Request.close, Request.scan_handles, Request.prepare_transfer, Request.prepare_consumption, Request.rollback, Request.commit, Request.direct_commit, Request.direct_rollback, Request.remove_stopping_owner, Request.teardown_start, Request.teardown_step, Request.teardown_finish, Request.take_empty_page, Request.make_plan, Request.use_plan, Request.drop_plan, Request.judge_transfer}
use Rattle.model.specs.Words.{Reading, and_then, Fields, odd, read_field, read_fields, fit_all, may, must, good_record, read_record, read_many, operation_of, read_transfer_item, read_parcel_item, plain_requests, plain_request, with_items, read_request, read_up_to, read_list}
use Rattle.model.proofs.Lists.{Front, request_in_front, reading_ends}
use Rattle.noninterference.specs.Names.{request_by}
use Rattle.model.proofs.Tests.{◌&◌, some_same}
use Rattle.promises.specs.Ids.{is_id, put_if, standing, changed, ids_by}

-- ---- readings taken apart

apart {ℓ} : {A : Type 0} {C : Type ℓ} {a : A} → ◌≡◌ {A = Option A} none (some a) → C
apart e = let z : ◌≡◌ {A = ℕ} 0 1 = cc in absurd (omega arith)

then_some : {A B : Type 0} (x : Option A) (g : A → Option B) (b : B) → and_then x g ≡ some b → (a : A) × (x ≡ some a) × (g a ≡ some b)
then_some none g b e = apart e
then_some (some a) g b e = (a, refl, e)

pick_some : {A : Type 0} (t : Bool) (a b : A) → pick t (some a) none ≡ some b → (t ≡ true) × (a ≡ b)
pick_some true a b e = (refl, some_same a b e)
pick_some false a b e = apart e

-- ---- fields

abbrev field_by : (ℕ → ℕ) → Bool → Option ℕ → Option ℕ
field_by f b none = none
field_by f b (some w) = some (pick b (f w) w)

abbrev fields_by : (ℕ → ℕ) → ℕ → Fields → Fields
fields_by f k [] = []
fields_by f k (x ∷ fs) = field_by f (is_id k) x ∷ fields_by f (suc k) fs

no_change : (f : ℕ → ℕ) (x : Option ℕ) → field_by f false x ≡ x
no_change f none = refl
no_change f (some w) = refl

may_by : (f : ℕ → ℕ) (fs : Fields) (k j : ℕ) → may (fields_by f k fs) j ≡ field_by f (is_id (k + j)) (may fs j)
may_by f [] k j = refl
may_by f (x ∷ fs) k zero = rw (add-zero k)
may_by f (x ∷ fs) k (suc j) = may_by f fs (suc k) j ∙ ap (λ (i : ℕ). field_by f (is_id i) (may fs j)) (suc-add k j ∙ sym (add-suc k j))

may_same : (f : ℕ → ℕ) (fs : Fields) (j : ℕ) → is_id j ≡ false → may (fields_by f 0 fs) j ≡ may fs j
may_same f fs j e = may_by f fs 0 j ∙ ap (λ (i : ℕ). field_by f (is_id i) (may fs j)) (zero-add j) ∙ rw e (no_change f (may fs j))

must_same : (f : ℕ → ℕ) (fs : Fields) (j : ℕ) → is_id j ≡ false → must (fields_by f 0 fs) j ≡ must fs j
must_same f fs j e = ap (λ (x : Option ℕ). or_else x 0) (may_same f fs j e)

must_by : (f : ℕ → ℕ) → f 0 ≡ 0 → (fs : Fields) (j : ℕ) → is_id j ≡ true → must (fields_by f 0 fs) j ≡ f (must fs j)
must_by f z fs j e = ap (λ (x : Option ℕ). or_else x 0) (may_by f fs 0 j ∙ ap (λ (i : ℕ). field_by f (is_id i) (may fs j)) (zero-add j)) ∙ go (may fs j)
  where
    go : (x : Option ℕ) → or_else (field_by f (is_id j) x) 0 ≡ f (or_else x 0)
    go none = sym z
    go (some w) = rw e

-- ids fit as any words do
abbrev ids_fit : ℕ → List ℕ → Bool
ids_fit k [] = true
ids_fit k (kind ∷ ks) = (not (is_id k) || eqb kind 0) && ids_fit (suc k) ks

zero_fits : (kind v : ℕ) → kind ≡ 0 → field_fits kind v ≡ true
unfolding field_fits
zero_fits kind v z = rw z

fit_by : (f : ℕ → ℕ) (ks : List ℕ) (fs : Fields) (k : ℕ) → ids_fit k ks ≡ true → fit_all ks (fields_by f k fs) ≡ fit_all ks fs
fit_by f ks [] k e = refl
fit_by f [] (x ∷ fs) k e = refl
fit_by f (kind ∷ ks) (none ∷ fs) k e = fit_by f ks fs (suc k) (both (not (is_id k) || eqb kind 0) (ids_fit (suc k) ks) e).1
fit_by f (kind ∷ ks) (some w ∷ fs) k e = go (is_id k) e (λ q. fit_by f ks fs (suc k) q)
  where
    Rest : Type 0
    Rest = ids_fit (suc k) ks ≡ true → fit_all ks (fields_by f (suc k) fs) ≡ fit_all ks fs

    with_zero : (c : Bool) → eqb kind 0 ≡ c → (c && ids_fit (suc k) ks) ≡ true → Rest → (field_fits kind (f w) && fit_all ks (fields_by f (suc k) fs)) ≡ (field_fits kind w && fit_all ks fs)
    with_zero true z e ih = let y : kind ≡ 0 = eqb-true kind 0 z in rw (zero_fits kind (f w) y, zero_fits kind w y) (ih e)
    with_zero false z e ih = clash e refl

    go : (b : Bool) → ((not b || eqb kind 0) && ids_fit (suc k) ks) ≡ true → Rest
        → (field_fits kind (pick b (f w) w) && fit_all ks (fields_by f (suc k) fs)) ≡ (field_fits kind w && fit_all ks fs)
    go true e ih = with_zero (eqb kind 0) refl e ih
    go false e ih = ap (λ (c : Bool). field_fits kind w && c) (ih e)

-- ---- the reading, step by step

pub map_same : {A : Type 0} (xs : List A) → map (λ x. x) xs ≡ xs
map_same [] = refl
map_same (x ∷ xs) = ap (λ l. x ∷ l) (map_same xs)

module _ (f : ℕ → ℕ) (z : f 0 ≡ 0) (ys : List ℕ) where
  -- the words that are read instead: changed, and with ys behind them
  abbrev then_ys : List ℕ → List ℕ → List ℕ
  then_ys ks ws = changed f ks ws ++ ys

  abbrev FieldsGo : ℕ → ℕ → ℕ → Type 0
  FieldsGo n k m = (ws : List ℕ) (fs : Fields) (rest : List ℕ) → read_fields n m ws ≡ some (fs, rest) → read_fields n m (then_ys (standing n k m) ws) ≡ some (fields_by f k fs, then_ys [] rest)

  -- a field's words, and those of the others after it
  abbrev one_then : ℕ → ℕ → Reading (Option ℕ) → Reading Fields
  one_then n m x = and_then x λ a. and_then (read_fields n m a.1) λ r. some (a.0 ∷ r.0, r.1)

  fields_go : (n k m : ℕ) → FieldsGo n k m
  fields_go zero k m ws fs rest e =
      let p : (◌≡◌ {A = Fields × List ℕ} ([], ws) (fs, rest)) = some_same ([], ws) (fs, rest) e in
      ap (λ (a : Fields × List ℕ). some (fields_by f k a.0, then_ys [] a.1)) p
  fields_go (suc n) k m ws fs rest e = go (odd m) ws e (fields_go n (suc k) (m / 2))
    where
      ks : List ℕ
      ks = standing n (suc k) (m / 2)

      joins : (x : Option ℕ) (ws : List ℕ) → FieldsGo n (suc k) (m / 2) → one_then n (m / 2) (some (x, ws)) ≡ some (fs, rest)
          → one_then n (m / 2) (some (field_by f (is_id k) x, then_ys (standing n (suc k) (m / 2)) ws)) ≡ some (fields_by f k fs, then_ys [] rest)
      joins x ws ih e =
          let t = then_some (read_fields n (m / 2) ws) (λ r. some (x ∷ r.0, r.1)) (fs, rest) e in
          let a : Fields × List ℕ = t.0 in
          let p : (◌≡◌ {A = Fields × List ℕ} (x ∷ a.0, a.1) (fs, rest)) = some_same (x ∷ a.0, a.1) (fs, rest) t.2 in
          ap (λ (y : Reading Fields). and_then y λ r. some (field_by f (is_id k) x ∷ r.0, r.1)) (ih ws a.0 a.1 t.1)
          ∙ ap (λ (b : Fields × List ℕ). some (fields_by f k b.0, then_ys [] b.1)) p

      go : (b : Bool) (ws : List ℕ) → one_then n (m / 2) (read_field b ws) ≡ some (fs, rest) → FieldsGo n (suc k) (m / 2)
          → one_then n (m / 2) (read_field b (then_ys (put_if b k (standing n (suc k) (m / 2))) ws)) ≡ some (fields_by f k fs, then_ys [] rest)
      go false ws e ih = joins none ws ih e
      go true [] e ih = apart e
      go true (w ∷ ws) e ih = joins (some w) ws ih e

  record_go : (first : ℕ) (must_of may_of : ℕ → ℕ) → ids_fit 0 (first ∷ drop 1 field_kinds) ≡ true → (ws : List ℕ) (fs : Fields) (rest : List ℕ)
      → read_record first must_of may_of ws ≡ some (fs, rest) → read_record first must_of may_of (then_ys [] ws) ≡ some (fields_by f 0 fs, then_ys [] rest)
  record_go first must_of may_of q [] fs rest e = apart e
  record_go first must_of may_of q (m ∷ ws) fs rest e =
      let judge : Fields × List ℕ → Reading Fields = λ r. pick (good_record first (must_of (must r.0 op_field)) (may_of (must r.0 op_field)) m r.0) (some r) none in
      let t = then_some (read_fields field_count m ws) judge (fs, rest) e in
      let a : Fields × List ℕ = t.0 in
      let p = pick_some (good_record first (must_of (must a.0 op_field)) (may_of (must a.0 op_field)) m a.0) a (fs, rest) t.2 in
      let same : a.0 ≡ fs = ap (λ (x : Fields × List ℕ). x.0) p.1 in
      let left : a.1 ≡ rest = ap (λ (x : Fields × List ℕ). x.1) p.1 in
      let good : good_record first (must_of (must fs op_field)) (may_of (must fs op_field)) m fs ≡ true = ap (λ (x : Fields). good_record first (must_of (must x op_field)) (may_of (must x op_field)) m x) (sym same) ∙ p.0 in
      ap (λ (y : Reading Fields). and_then y judge) (fields_go field_count 0 m ws fs rest (t.1 ∙ ap some p.1))
      ∙ passes fs rest good
    where
      passes : (fs : Fields) (rest : List ℕ) → good_record first (must_of (must fs op_field)) (may_of (must fs op_field)) m fs ≡ true
          → pick {A = Reading Fields} (good_record first (must_of (must (fields_by f 0 fs) op_field)) (may_of (must (fields_by f 0 fs) op_field)) m (fields_by f 0 fs)) (some (fields_by f 0 fs, then_ys [] rest)) none ≡ some (fields_by f 0 fs, then_ys [] rest)
      passes fs rest good = rw (must_same f fs op_field refl, fit_by f (first ∷ drop 1 field_kinds) fs 0 q, good)

  -- what a reading makes of the changed words
  abbrev Goes : {A : Type 0} → (List ℕ → Reading A) → (A → A) → Type 0
  Goes {A} read g = (ws : List ℕ) (a : A) (rest : List ℕ) → read ws ≡ some (a, rest) → read (then_ys [] ws) ≡ some (g a, then_ys [] rest)

  abbrev after_one : {A : Type 0} → (List ℕ → Reading A) → ℕ → A × List ℕ → Reading (List A)
  after_one read n a = and_then (read_many read n a.1) λ r. some (a.0 ∷ r.0, r.1)

  many_go : {A : Type 0} (read : List ℕ → Reading A) (g : A → A) → Goes read g → (n : ℕ) → Goes (read_many read n) (map g)
  many_go {A} read g h zero ws xs rest e =
      let p : (◌≡◌ {A = List A × List ℕ} ([], ws) (xs, rest)) = some_same ([], ws) (xs, rest) e in
      ap (λ (a : List A × List ℕ). some (map g a.0, then_ys [] a.1)) p
  many_go {A} read g h (suc n) ws xs rest e = first (then_some (read ws) (after_one read n) (xs, rest) e) (many_go read g h n)
    where
      last : (a : A) (v : List ℕ) → Goes (read_many read n) (map g) → (b : List A × List ℕ) × (read_many read n v ≡ some b) × (◌≡◌ {A = Reading (List A)} (some (a ∷ b.0, b.1)) (some (xs, rest)))
          → after_one read n (g a, then_ys [] v) ≡ some (map g xs, then_ys [] rest)
      last a v ih ((bs, w), i, q) =
          ap (λ (y : Reading (List A)). and_then {B = List A × List ℕ} y λ r. some (g a ∷ r.0, r.1)) (ih v bs w i)
          ∙ ap (λ (c : List A × List ℕ). some (map g c.0, then_ys [] c.1)) (some_same (a ∷ bs, w) (xs, rest) q)

      first : (a : A × List ℕ) × (read ws ≡ some a) × (after_one read n a ≡ some (xs, rest)) → Goes (read_many read n) (map g) → read_many read (suc n) (then_ys [] ws) ≡ some (map g xs, then_ys [] rest)
      first ((a, v), i, q) ih =
          ap (λ (y : Reading A). and_then y (after_one read n)) (h ws a v i) ∙ last a v ih (then_some (read_many read n v) (λ r. some (a ∷ r.0, r.1)) (xs, rest) q)

  -- one record of a form, and what it means
  one_go : {A : Type 0} (mean : Fields → A) (g : A → A) (first m y : ℕ) → ids_fit 0 (first ∷ drop 1 field_kinds) ≡ true → ((fs : Fields) → mean (fields_by f 0 fs) ≡ g (mean fs))
      → Goes (λ ws. and_then (read_record first (λ o. m) (λ o. y) ws) λ r. some (mean r.0, r.1)) g
  one_go {A} mean g first m y q h ws a rest e =
      let t = then_some (read_record first (λ o. m) (λ o. y) ws) (λ r. some (mean r.0, r.1)) (a, rest) e in
      let r : Fields × List ℕ = t.0 in
      let p : (◌≡◌ {A = A × List ℕ} (mean r.0, r.1) (a, rest)) = some_same (mean r.0, r.1) (a, rest) t.2 in
      ap (λ (x : Reading Fields). and_then x λ r. some (mean r.0, r.1)) (record_go first (λ o. m) (λ o. y) q ws r.0 r.1 t.1)
      ∙ ap (λ (x : A). some (x, then_ys [] r.1)) (h r.0)
      ∙ ap (λ (x : A × List ℕ). some (g x.0, then_ys [] x.1)) p

  transfer_item_go : Goes read_transfer_item (λ q. q)
  unfolding field_kinds
  transfer_item_go = one_go
      (λ r. record { operation = operation_of (must r op_field); value = must r value_field; rights = must r rights_field; offered_rights = may r offered_rights_field; offered_kind = may r offered_kind_field; expected_kind = may r expected_kind_field })
      (λ q. q) an_operation transfer_item_must transfer_item_may refl
      (λ fs. rw (must_same f fs op_field refl, must_same f fs value_field refl, must_same f fs rights_field refl, may_same f fs offered_rights_field refl, may_same f fs offered_kind_field refl, may_same f fs expected_kind_field refl))

  parcel_item_go : Goes read_parcel_item f
  unfolding field_kinds
  parcel_item_go = one_go (λ r. must r id_field) f zero_word parcel_item_must parcel_item_may refl (λ fs. must_by f z fs id_field refl)

  -- a request's items
  abbrev with_go : Reading Request → Reading Request
  with_go none = none
  with_go (some a) = some (request_by f a.0, then_ys [] a.1)

  -- a transfer's, of what is made of them
  abbrev with_whole : (List Item → Request) → Reading (List Item) → Reading Request
  with_whole whole x = and_then x λ r. some (whole r.0, r.1)

  transfer_go : (fs : Fields) (whole : List Item → Request) → ((ds : List Item) → request_by f (whole ds) ≡ whole ds) → (ws : List ℕ) (q : Request) (rest : List ℕ)
      → with_whole whole (read_many read_transfer_item (must fs count_field) ws) ≡ some (q, rest)
      → with_whole whole (read_many read_transfer_item (must (fields_by f 0 fs) count_field) (then_ys [] ws)) ≡ some (request_by f q, then_ys [] rest)
  transfer_go fs whole same ws q rest e =
      let t = then_some (read_many read_transfer_item (must fs count_field) ws) (λ r. some (whole r.0, r.1)) (q, rest) e in
      let a : List Item × List ℕ = t.0 in
      ap (λ (n : ℕ). with_whole whole (read_many read_transfer_item n (then_ys [] ws))) (must_same f fs count_field refl)
      ∙ ap (with_whole whole)
      (many_go read_transfer_item (λ q. q) transfer_item_go (must fs count_field) ws a.0 a.1 t.1 ∙ ap (λ (l : List Item). some (l, then_ys [] a.1)) (map_same a.0))
      ∙ ap (λ (r : Request). some (r, then_ys [] a.1)) (sym (same a.0))
      ∙ ap with_go t.2

  items_go : (fs : Fields) (r : Request) (ws : List ℕ) (q : Request) (rest : List ℕ) → with_items fs r ws ≡ some (q, rest)
      → with_items (fields_by f 0 fs) (request_by f r) (then_ys [] ws) ≡ some (request_by f q, then_ys [] rest)
  items_go fs (new_object o r g) ws q rest e = ap with_go e
  items_go fs (duplicate c w r) ws q rest e = ap with_go e
  items_go fs (release_parcel i) ws q rest e = ap with_go e
  items_go fs (retire_object o) ws q rest e = ap with_go e
  items_go fs (reserve c n) ws q rest e = ap with_go e
  items_go fs (trim i n) ws q rest e = ap with_go e
  items_go fs (abort i) ws q rest e = ap with_go e
  items_go fs (publish i is) ws q rest e =
      let t = then_some (read_many read_parcel_item (must fs count_field) ws) (λ r. some (publish i r.0, r.1)) (q, rest) e in
      let a : List ℕ × List ℕ = t.0 in
      ap (λ (n : ℕ). and_then (read_many read_parcel_item n (then_ys [] ws)) λ r. some (publish (f i) r.0, r.1)) (must_same f fs count_field refl)
      ∙ ap (λ (x : Reading (List ℕ)). and_then x λ r. some (publish (f i) r.0, r.1)) (many_go read_parcel_item f parcel_item_go (must fs count_field) ws a.0 a.1 t.1)
      ∙ ap with_go t.2
  items_go fs (get_info c w) ws q rest e = ap with_go e
  items_go fs (resolve c w r k) ws q rest e = ap with_go e
  items_go fs (replace c w r) ws q rest e = ap with_go e
  items_go fs (close c w) ws q rest e = ap with_go e
  items_go fs (scan_handles c k) ws q rest e = ap with_go e
  items_go fs (prepare_transfer c route o k qs) ws q rest e = transfer_go fs (λ ds. prepare_transfer c route o k ds) (λ ds. refl) ws q rest e
  items_go fs (prepare_consumption c w r k o) ws q rest e = ap with_go e
  items_go fs (rollback i) ws q rest e = ap with_go e
  items_go fs (commit i) ws q rest e = ap with_go e
  items_go fs (direct_commit i j) ws q rest e = ap with_go e
  items_go fs (direct_rollback i j) ws q rest e = ap with_go e
  items_go fs (remove_stopping_owner c k) ws q rest e = ap with_go e
  items_go fs (teardown_start c) ws q rest e = ap with_go e
  items_go fs (teardown_step c) ws q rest e = ap with_go e
  items_go fs (teardown_finish c) ws q rest e = ap with_go e
  items_go fs (take_empty_page c) ws q rest e = ap with_go e
  items_go fs (make_plan c n) ws q rest e = ap with_go e
  items_go fs (use_plan i) ws q rest e = ap with_go e
  items_go fs (drop_plan i) ws q rest e = ap with_go e
  items_go fs (judge_transfer c route o k qs) ws q rest e = transfer_go fs (λ ds. judge_transfer c route o k ds) (λ ds. refl) ws q rest e

  -- what the table of ops makes of the changed fields
  abbrev Makes : (Fields → Request) → Type 0
  Makes make = (fs : Fields) → make (fields_by f 0 fs) ≡ request_by f (make fs)

  abbrev AllMake : List (Fields → Request) → Type 0
  AllMake [] = Unit {0}
  AllMake (x ∷ xs) = Makes x × AllMake xs

  makes : AllMake plain_requests
  makes =
      (λ fs. rw (must_same f fs object_field refl, must_same f fs rights_field refl, must_same f fs flags_field refl))
      & (λ fs. rw (must_same f fs table_field refl, must_same f fs value_field refl, must_same f fs rights_field refl))
      & (λ fs. rw (must_by f z fs id_field refl))
      & (λ fs. rw (must_same f fs object_field refl))
      & (λ fs. rw (must_same f fs table_field refl, must_same f fs count_field refl))
      & (λ fs. rw (must_by f z fs id_field refl, must_same f fs count_field refl))
      & (λ fs. rw (must_by f z fs id_field refl))
      & (λ fs. rw (must_by f z fs id_field refl))
      & (λ fs. rw (must_same f fs table_field refl, must_same f fs value_field refl))
      & (λ fs. rw (must_same f fs table_field refl, must_same f fs value_field refl, must_same f fs rights_field refl, must_same f fs kind_field refl))
      & (λ fs. rw (must_same f fs table_field refl, must_same f fs value_field refl, must_same f fs rights_field refl))
      & (λ fs. rw (must_same f fs table_field refl, must_same f fs value_field refl))
      & (λ fs. rw (must_same f fs table_field refl, must_same f fs cursor_field refl))
      & (λ fs. rw (must_same f fs table_field refl, must_same f fs route_field refl, may_same f fs forbidden_object_field refl, may_same f fs forbidden_kind_field refl))
      & (λ fs. rw (must_same f fs table_field refl, must_same f fs value_field refl, must_same f fs rights_field refl, must_same f fs kind_field refl, must_same f fs koid_field refl))
      & (λ fs. rw (must_by f z fs id_field refl))
      & (λ fs. rw (must_by f z fs id_field refl))
      & (λ fs. rw (must_by f z fs id_field refl, must_by f z fs destination_field refl))
      & (λ fs. rw (must_by f z fs id_field refl, must_by f z fs destination_field refl))
      & (λ fs. rw (must_same f fs table_field refl, must_same f fs cursor_field refl))
      & (λ fs. rw (must_same f fs table_field refl))
      & (λ fs. rw (must_same f fs table_field refl))
      & (λ fs. rw (must_same f fs table_field refl))
      & (λ fs. rw (must_same f fs table_field refl))
      & (λ fs. rw (must_same f fs table_field refl, must_same f fs count_field refl))
      & (λ fs. rw (must_by f z fs id_field refl))
      & (λ fs. rw (must_by f z fs id_field refl))
      & (λ fs. rw (must_same f fs table_field refl, must_same f fs route_field refl, may_same f fs forbidden_object_field refl, may_same f fs forbidden_kind_field refl))
      & tt

  made : (xs : List (Fields → Request)) (k : ℕ) (x : Fields → Request) → AllMake xs → nth xs k ≡ some x → Makes x
  made [] k x h e = apart e
  made (y ∷ xs) zero x h e = λ fs. let q : y ≡ x = some_same y x e in ap (λ (m : Fields → Request). m (fields_by f 0 fs)) (sym q) ∙ h.0 fs ∙ ap (λ (m : Fields → Request). request_by f (m fs)) q
  made (y ∷ xs) (suc k) x h e = made xs k x h.1 e

  made_op : (op : ℕ) (x : Fields → Request) → plain_request op ≡ some x → Makes x
  made_op zero x e = apart e
  made_op (suc k) x e = made plain_requests k x makes e

  request_go : Goes read_request (request_by f)
  unfolding read_request field_kinds
  request_go ws q rest e =
      let head : List ℕ → Reading Fields = λ v. read_record an_op (λ op. get_or musts op 0) (λ op. get_or mays op 0) v in
      let make : Fields × List ℕ → Reading Request = λ r. and_then (plain_request (must r.0 op_field)) λ make. with_items r.0 (make r.0) r.1 in
      let t = then_some (head ws) make (q, rest) e in
      let r : Fields × List ℕ = t.0 in
      let u = then_some (plain_request (must r.0 op_field)) (λ m. with_items r.0 (m r.0) r.1) (q, rest) t.2 in
      let m : Fields → Request = u.0 in
      ap (λ (x : Reading Fields). and_then x make) (record_go an_op (λ op. get_or musts op 0) (λ op. get_or mays op 0) refl ws r.0 r.1 t.1)
      ∙ ap (λ (k : ℕ). and_then (plain_request k) λ x. with_items (fields_by f 0 r.0) (x (fields_by f 0 r.0)) (then_ys [] r.1)) (must_same f r.0 op_field refl)
      ∙ ap (λ (x : Option (Fields → Request)). and_then x λ x. with_items (fields_by f 0 r.0) (x (fields_by f 0 r.0)) (then_ys [] r.1)) u.1
      ∙ ap (λ (x : Request). with_items (fields_by f 0 r.0) x (then_ys [] r.1)) (made_op (must r.0 op_field) m u.1 r.0)
      ∙ items_go r.0 (m r.0) r.1 q rest u.2

  -- records until the list ends, and the requests of ys after them
  up_to_go : (n m : ℕ) (ws : List ℕ) (rs qs : List Request) → length ws ≤ n → length (then_ys [] ws) ≤ m → read_up_to n ws ≡ some rs → read_list ys ≡ some qs
      → read_up_to m (then_ys [] ws) ≡ some (map (request_by f) rs ++ qs)
  unfolding read_list
  up_to_go zero m [] rs qs h l e d =
      let p : [] ≡ rs = some_same [] rs e in
      reading_ends m (length ys) ys l (omega arith) ∙ d ∙ ap (λ (x : List Request). some (map (request_by f) x ++ qs)) p
  up_to_go (suc n) m [] rs qs h l e d =
      let p : [] ≡ rs = some_same [] rs e in
      reading_ends m (length ys) ys l (omega arith) ∙ d ∙ ap (λ (x : List Request). some (map (request_by f) x ++ qs)) p
  up_to_go zero m (w ∷ ws) rs qs h l e d = absurd (omega arith)
  up_to_go (suc n) zero (w ∷ ws) rs qs h l e d = absurd (omega arith)
  up_to_go (suc n) (suc m) (w ∷ ws) rs qs h l e d =
      let t = then_some (read_request (w ∷ ws)) (λ r. and_then (read_up_to n r.1) λ rs. some (r.0 ∷ rs)) rs e in
      let r : Request × List ℕ = t.0 in
      let u = then_some (read_up_to n r.1) (λ rs. some (r.0 ∷ rs)) rs t.2 in
      let p : (r.0 ∷ u.0) ≡ rs = some_same (r.0 ∷ u.0) rs u.2 in
      let read : read_request (then_ys [] (w ∷ ws)) ≡ some (request_by f r.0, then_ys [] r.1) = request_go (w ∷ ws) r.0 r.1 t.1 in
      let short : length r.1 ≤ n = shorter (w ∷ ws) r.0 r.1 n t.1 h in
      let short' : length (then_ys [] r.1) ≤ m = shorter (then_ys [] (w ∷ ws)) (request_by f r.0) (then_ys [] r.1) m read l in
      ap (λ (x : Reading Request). and_then x λ r. and_then (read_up_to m r.1) λ rs. some (r.0 ∷ rs)) read
      ∙ ap (λ (x : Option (List Request)). and_then x λ rs. some (request_by f r.0 ∷ rs)) (up_to_go n m r.1 u.0 qs short short' u.1 d)
      ∙ ap (λ (x : List Request). some (map (request_by f) x ++ qs)) p
    where
      shorter : (v : List ℕ) (r : Request) (rest : List ℕ) (n : ℕ) → read_request v ≡ some (r, rest) → length v ≤ suc n → length rest ≤ n
      shorter v r rest n e h =
          let g : Front 1 v (some (r, rest)) = rw e at (request_in_front v) in
          omega (arith, ap length g.1, length-append g.0 rest, g.2)

  -- THE READING of a list with its ids changed and with another list behind it
  pub reads_by : (ws : List ℕ) (rs qs : List Request) → read_list ws ≡ some rs → read_list ys ≡ some qs → read_list (ids_by f ws ++ ys) ≡ some (map (request_by f) rs ++ qs)
  unfolding read_list
  reads_by ws rs qs e d = up_to_go (length ws) (length (then_ys [] ws)) ws rs qs (omega arith) (omega arith) e d
