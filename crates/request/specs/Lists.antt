-- Requests, items and lists in place are those that the model reads.
-- Assumes nothing.
use Rattle.std.specs.Prelude.{Option as CodeOption, Some, None, ◌-◌}
use Rattle.std.specs.Prelude.{◌≡◌, Bool, true, false, ◌&&◌, length, drop, eqb, leb}
use Rattle.std.proofs.Math.Path.{refl, ap}
use Rattle.std.proofs.Common.{sym, subst, ◌∙◌, add-zero, add-one, add-suc, suc-add, zero-add, arith, length-drop, length-append, drop_of_length-le, drop-cons, leb-true}
use mathlib.Core.List.{List, [], ◌∷◌, map}
use Rattle.std.proofs.Math.Option.{Option, none, some}
use Prim.Native.Nat.{ℕ, zero, suc, ◌+◌, ◌≤◌, ◌<◌}
use Rattle.std.proofs.Math.ListN.{get_or}
use Rattle.format.specs.Format.{musts, mays, transfer_item_must, transfer_item_may, parcel_item_must, parcel_item_may, field_fits, known_op}
use Rattle.format.proofs.Laws.{must_below, may_below}
use Rattle.model.specs.Base.{pick, nth}
use Rattle.model.specs.Request.{Item, Request, Request.publish, Request.prepare_transfer, Request.judge_transfer}
use Rattle.model.specs.Words.{Reading, and_then, Fields, may, must, read_record, read_many, read_transfer_item, route_of, plain_requests, plain_request, with_items, read_request, read_up_to, read_list}
use Rattle.model.proofs.Lists.{Front, request_in_front, reading_ends}
use Rattle.model.proofs.Tests.{◌&◌, nth_some}
use Rattle.format.specs.Fields.{op_field, table_field, id_field, route_field, forbidden_object_field, forbidden_kind_field, an_op, an_operation, zero_word}
use Rattle.format.specs.Ops.{op_publish, op_prepare_transfer, op_judge_transfer, op_last}
use Rattle.request.specs.Place.{next_of, placed, up_to, counted, listed, fields_at, end_at, record_end, many_end, places_from, place_of, item_of, item_at, parcel_at, op_at, count_at, item_places, has_transfer, items_end, request_end, request_of, request_at}
use Rattle.request.specs.Counted.{end_out}
use Rattle.request.specs.Fields.{record_read, record_whole, first_fits}

-- Items

-- one record of a form, and what it means
abbrev read_one : {A : Type 0} → (Fields → A) → ℕ → ℕ → ℕ → List ℕ → Reading A
read_one g first m y ws = and_then (read_record first (λ o. m) (λ o. y) ws) λ r. some (g r.0, r.1)

-- n records in a row are read as the model reads them
pub many_read : {A : Type 0} (g : Fields → A) (first m y n : ℕ) (ws : List ℕ) (at : ℕ)
    → read_many (read_one g first m y) n (drop at ws) ≡ up_to ws (many_end first m (m + y) n ws at) (map (λ p. g (fields_at ws p)) (places_from n ws at))
unfolding many_end places_from
many_read g first m y zero ws at = refl
many_read {A} g first m y (suc n) ws at =
    ap (λ (x : Reading Fields). and_then (meant x) rest) (record_read first (λ o. m) (λ o. y) ws at)
    ∙ go (record_end first m (m + y) ws at) refl (λ q. many_read g first m y n ws q)
  where
    meant : Reading Fields → Reading A
    meant x = and_then x λ r. some (g r.0, r.1)

    joined : A → Reading (List A) → Reading (List A)
    joined a x = and_then x λ r. some (a ∷ r.0, r.1)

    rest : A × List ℕ → Reading (List A)
    rest a = joined a.0 (read_many (read_one g first m y) n a.1)

    join : (x : Option ℕ) (a : A) (l : List A) → joined a (up_to ws x l) ≡ up_to ws x (a ∷ l)
    join none a l = refl
    join (some e) a l = refl

    means : ℕ → List A
    means q = map (λ p. g (fields_at ws p)) (places_from n ws q)

    go : (x : Option ℕ) → record_end first m (m + y) ws at ≡ x
        → ((q : ℕ) → read_many (read_one g first m y) n (drop q ws) ≡ up_to ws (many_end first m (m + y) n ws q) (means q))
        → and_then (meant (up_to ws x (fields_at ws at))) rest ≡ up_to ws (and_then x λ e. many_end first m (m + y) n ws e) (g (fields_at ws at) ∷ means (end_at ws at))
    go none e ih = refl
    go (some q) e ih =
        ap (joined (g (fields_at ws at))) (ih q)
        ∙ join (many_end first m (m + y) n ws q) (g (fields_at ws at)) (means q)
        ∙ ap (λ (p : ℕ). up_to ws (many_end first m (m + y) n ws q) (g (fields_at ws at) ∷ means p)) (record_whole first m (m + y) ws at q e).ends

pub many_ends : (first m l n : ℕ) (ws : List ℕ) (at e : ℕ) → many_end first m l n ws at ≡ some e → at ≤ length ws → (at ≤ e) × (e ≤ length ws)
unfolding many_end
many_ends first m l zero ws at e p h = let q : at ≡ e = cc in (omega arith, omega arith)
many_ends first m l (suc n) ws at e p h = go (record_end first m l ws at) refl p (λ q r k. many_ends first m l n ws q e r k)
  where
    go : (x : Option ℕ) → record_end first m l ws at ≡ x → and_then x (λ q. many_end first m l n ws q) ≡ some e
        → ((q : ℕ) → many_end first m l n ws q ≡ some e → q ≤ length ws → (q ≤ e) × (e ≤ length ws)) → (at ≤ e) × (e ≤ length ws)
    go none x r ih = let z : ◌≡◌ {A = ℕ} 0 1 = cc in absurd (omega arith)
    go (some q) x r ih =
        let w = record_whole first m l ws at q x in
        let k = ih q r w.short in
        (omega (arith, k.0, w.rises), k.1)

-- a record's place, counted from the next record
pub place_later : (i : ℕ) (ws : List ℕ) (at : ℕ) → place_of (suc i) ws at ≡ place_of i ws (end_at ws at)
unfolding place_of
place_later zero ws at = refl
place_later (suc i) ws at = ap (end_at ws) (place_later i ws at)

-- a place past the end stays
pub place_out : (i n : ℕ) (ws : List ℕ) (at : ℕ) → i ≤ n → length ws ≤ place_of i ws at → place_of n ws at ≡ place_of i ws at
unfolding place_of
place_out i n ws at h l = ap (λ (k : ℕ). place_of k ws at) (omega arith) ∙ stays (n - i)
  where
    stays : (d : ℕ) → place_of (d + i) ws at ≡ place_of i ws at
    stays zero = ap (λ (k : ℕ). place_of k ws at) (zero-add i)
    stays (suc d) = ap (λ (k : ℕ). place_of k ws at) (suc-add d i) ∙ ap (end_at ws) (stays d) ∙ sym (end_out ws (place_of i ws at) l)

module _ (first must allowed : ℕ) (ws : List ℕ) where
  -- one record more at the end of a row
  many_later : (i at : ℕ) → many_end first must allowed (suc i) ws at ≡ and_then (many_end first must allowed i ws at) λ p. record_end first must allowed ws p
  unfolding many_end
  many_later zero at = go (record_end first must allowed ws at)
    where
      go : (x : Option ℕ) → and_then x (λ e. some e) ≡ x
      go none = refl
      go (some e) = refl
  many_later (suc i) at = go (record_end first must allowed ws at) (λ e. many_later i e)
    where
      go : (x : Option ℕ) → ((e : ℕ) → many_end first must allowed (suc i) ws e ≡ and_then (many_end first must allowed i ws e) λ p. record_end first must allowed ws p)
          → and_then x (λ e. many_end first must allowed (suc i) ws e) ≡ and_then (and_then x λ e. many_end first must allowed i ws e) λ p. record_end first must allowed ws p
      go none ih = refl
      go (some e) ih = ih e

  pub many_more : (i at p : ℕ) (r : CodeOption ℕ) → next_of (many_end first must allowed i ws at) ≡ Some p → r ≡ next_of (record_end first must allowed ws p)
      → next_of (many_end first must allowed (i + 1) ws at) ≡ r
  many_more i at p r e q = rw add-one (ap next_of (many_later i at) ∙ go (many_end first must allowed i ws at) e ∙ sym q)
    where
      go : (x : Option ℕ) → next_of x ≡ Some p → next_of (and_then x λ p. record_end first must allowed ws p) ≡ next_of (record_end first must allowed ws p)
      go none e = cc
      go (some k) e = let z : k ≡ p = cc in ap (λ (k : ℕ). next_of (record_end first must allowed ws k)) z

  -- a row with a record that is malformed
  pub many_stops : (i n at p : ℕ) (r : CodeOption ℕ) → i < n → next_of (many_end first must allowed i ws at) ≡ Some p → r ≡ next_of (record_end first must allowed ws p)
      → r ≡ None → next_of (many_end first must allowed n ws at) ≡ None
  many_stops i n at p r h e q b = ap (λ (k : ℕ). next_of (many_end first must allowed k ws at)) (omega arith) ∙ stays (n - (i + 1))
    where
      none_is : (x : Option ℕ) → next_of x ≡ None → next_of (and_then x λ p. record_end first must allowed ws p) ≡ None
      none_is none e = refl
      none_is (some k) e = cc

      stays : (d : ℕ) → next_of (many_end first must allowed (d + (i + 1)) ws at) ≡ None
      stays zero = ap (λ (k : ℕ). next_of (many_end first must allowed k ws at)) (zero-add (i + 1)) ∙ many_more i at p r e q ∙ b
      stays (suc d) =
          ap (λ (k : ℕ). next_of (many_end first must allowed k ws at)) (suc-add d (i + 1))
          ∙ ap next_of (many_later (d + (i + 1)) at) ∙ none_is (many_end first must allowed (d + (i + 1)) ws at) (stays d)

-- Requests

-- a fact of each entry of a list with its place
abbrev All : {A : Type 0} → (ℕ → A → Type 0) → ℕ → List A → Type 0
All P i [] = Unit
All P i (x ∷ xs) = P i x × All P (suc i) xs

from : {A : Type 0} (P : ℕ → A → Type 0) (xs : List A) (i k : ℕ) (x : A) → All P i xs → nth xs k ≡ some x → P (i + k) x
from P [] i k x h e = let z : ◌≡◌ {A = ℕ} 0 1 = cc in absurd (omega arith)
from P (y ∷ xs) i zero x h e = let q : y ≡ x = cc in subst (λ (n : ℕ). P n x) (sym (add-zero i)) (subst (P i) q h.0)
from P (y ∷ xs) i (suc k) x h e = subst (λ (n : ℕ). P n x) (suc-add i k ∙ sym (add-suc i k)) (from P xs (suc i) k x h.1 e)

module _ (ws : List ℕ) (at : ℕ) where
  -- the fields' request with its items
  Itemed : ℕ → (Fields → Request) → Type 0
  Itemed k make =
      with_items (fields_at ws at) (make (fields_at ws at)) (drop (end_at ws at) ws)
      ≡ up_to ws (items_end k (count_at ws at) ws (end_at ws at)) (request_of k ws at)

  itemed_publish : Itemed op_publish (λ f. publish (must f id_field) [])
  unfolding Itemed items_end request_of parcel_at
  itemed_publish =
      ap (with_parcels) (many_read (λ f. must f id_field) zero_word parcel_item_must parcel_item_may (count_at ws at) ws (end_at ws at))
      ∙ go (many_end zero_word parcel_item_must (parcel_item_must + parcel_item_may) (count_at ws at) ws (end_at ws at))
    where
      with_parcels : Reading (List ℕ) → Reading Request
      with_parcels x = and_then x λ r. some (publish (must (fields_at ws at) id_field) r.0, r.1)

      go : (x : Option ℕ) → with_parcels (up_to ws x (map (parcel_at ws) (item_places ws at))) ≡ up_to ws x (publish (must (fields_at ws at) id_field) (map (parcel_at ws) (item_places ws at)))
      go none = refl
      go (some e) = refl

  -- a transfer's items, of what is made of them
  module _ (whole : List Item → Request) where
    itemed_items : and_then (read_many read_transfer_item (count_at ws at) (drop (end_at ws at) ws)) (λ r. some (whole r.0, r.1))
        ≡ up_to ws (many_end an_operation transfer_item_must (transfer_item_must + transfer_item_may) (count_at ws at) ws (end_at ws at)) (whole (map (item_at ws) (item_places ws at)))
    unfolding item_at
    itemed_items =
        ap (λ (x : Reading (List Item)). and_then x λ r. some (whole r.0, r.1)) (many_read item_of an_operation transfer_item_must transfer_item_may (count_at ws at) ws (end_at ws at))
        ∙ go (many_end an_operation transfer_item_must (transfer_item_must + transfer_item_may) (count_at ws at) ws (end_at ws at))
      where
        go : (x : Option ℕ) → and_then (up_to ws x (map (item_at ws) (item_places ws at))) (λ r. some (whole r.0, r.1)) ≡ up_to ws x (whole (map (item_at ws) (item_places ws at)))
        go none = refl
        go (some e) = refl

  itemed_transfer : Itemed op_prepare_transfer (λ f. prepare_transfer (must f table_field) (route_of (must f route_field)) (may f forbidden_object_field) (may f forbidden_kind_field) [])
  unfolding Itemed items_end request_of
  itemed_transfer = itemed_items λ qs. prepare_transfer (must (fields_at ws at) table_field) (route_of (must (fields_at ws at) route_field)) (may (fields_at ws at) forbidden_object_field) (may (fields_at ws at) forbidden_kind_field) qs

  itemed_judging : Itemed op_judge_transfer (λ f. judge_transfer (must f table_field) (route_of (must f route_field)) (may f forbidden_object_field) (may f forbidden_kind_field) [])
  unfolding Itemed items_end request_of
  itemed_judging = itemed_items λ qs. judge_transfer (must (fields_at ws at) table_field) (route_of (must (fields_at ws at) route_field)) (may (fields_at ws at) forbidden_object_field) (may (fields_at ws at) forbidden_kind_field) qs

  -- each op of the table has its request
  table : All Itemed 1 plain_requests
  unfolding Itemed items_end request_of
  table = refl & refl & refl & refl & refl & refl & refl & itemed_publish & refl & refl & refl & refl & refl & itemed_transfer & refl & refl & refl & refl & refl & refl & refl & refl & refl & refl & refl & refl & refl & itemed_judging & tt

  known : (op : ℕ) → 1 ≤ op → op ≤ op_last → (make : Fields → Request) × (plain_request op ≡ some make) × Itemed op make
  known zero a b = absurd (omega arith)
  known (suc n) a b =
      let k = nth_some plain_requests n (omega arith) in
      let e : 1 + n ≡ suc n = omega arith in
      (k.0, k.1, subst (λ (j : ℕ). Itemed j k.0) e (from Itemed plain_requests 1 n k.0 table k.1))

-- a known op has its request
pub known_op_law : (op : ℕ) → field_fits an_op op ≡ true → (1 ≤ op) × (op ≤ op_last)
unfolding field_fits known_op
known_op_law op e = both (leb 1 op) (leb op op_last) refl refl e
  where
    both : (a b : Bool) → leb 1 op ≡ a → leb op op_last ≡ b → (a && b) ≡ true → (1 ≤ op) × (op ≤ op_last)
    both true true p q r = (leb-true 1 op p, leb-true op op_last q)
    both true false p q r = let z : ◌≡◌ {A = ℕ} 0 1 = cc in absurd (omega arith)
    both false b p q r = let z : ◌≡◌ {A = ℕ} 0 1 = cc in absurd (omega arith)

module _ (ws : List ℕ) (at : ℕ) where
  -- a request is read as the model reads it: `request_at` by the fields in place, up to the place `request_end`
  pub request_read : read_request (drop at ws) ≡ up_to ws (request_end ws at) (request_at ws at)
  unfolding read_request request_end request_at Itemed
  request_read =
      ap (λ (x : Reading Fields). and_then x make) (record_read an_op (λ op. get_or musts op 0) (λ op. get_or mays op 0) ws at)
      ∙ go (record_end an_op (get_or musts (op_at ws at) 0) (get_or musts (op_at ws at) 0 + get_or mays (op_at ws at) 0) ws at) refl
    where
      make : Fields × List ℕ → Reading Request
      make r = and_then (plain_request (must r.0 op_field)) λ f. with_items r.0 (f r.0) r.1

      itemed : (f : Option (Fields → Request)) (x : Fields → Request) → f ≡ some x → Itemed ws at (op_at ws at) x
          → and_then f (λ y. with_items (fields_at ws at) (y (fields_at ws at)) (drop (end_at ws at) ws)) ≡ up_to ws (items_end (op_at ws at) (count_at ws at) ws (end_at ws at)) (request_of (op_at ws at) ws at)
      itemed f x p i = ap (λ (y : Option (Fields → Request)). and_then y (λ y. with_items (fields_at ws at) (y (fields_at ws at)) (drop (end_at ws at) ws))) p ∙ i

      go : (x : Option ℕ) → record_end an_op (get_or musts (op_at ws at) 0) (get_or musts (op_at ws at) 0 + get_or mays (op_at ws at) 0) ws at ≡ x
          → and_then (up_to ws x (fields_at ws at)) make
          ≡ up_to ws (and_then x λ e. items_end (op_at ws at) (count_at ws at) ws e) (request_of (op_at ws at) ws at)
      go none e = refl
      go (some q) e =
          let w = record_whole an_op _ _ ws at q e in
          let o = known_op_law (op_at ws at) (first_fits an_op _ _ ws at q w) in
          let k = known ws at (op_at ws at) o.0 o.1 in
          subst (λ (p : ℕ). and_then (plain_request (op_at ws at)) (λ y. with_items (fields_at ws at) (y (fields_at ws at)) (drop p ws))
          ≡ up_to ws (items_end (op_at ws at) (count_at ws at) ws p) (request_of (op_at ws at) ws at)) (sym w.ends)
          (itemed (plain_request (op_at ws at)) k.0 k.1 k.2)

items_ends : (op n : ℕ) (ws : List ℕ) (p e : ℕ) → items_end op n ws p ≡ some e → p ≤ length ws → (p ≤ e) × (e ≤ length ws)
unfolding items_end
items_ends op n ws p e q h = go (eqb op op_publish) (has_transfer op) q
  where
    go : (b c : Bool)
        → pick b (many_end zero_word parcel_item_must (parcel_item_must + parcel_item_may) n ws p) (pick c (many_end an_operation transfer_item_must (transfer_item_must + transfer_item_may) n ws p) (some p)) ≡ some e
        → (p ≤ e) × (e ≤ length ws)
    go true c r = many_ends zero_word parcel_item_must (parcel_item_must + parcel_item_may) n ws p e r h
    go false true r = many_ends an_operation transfer_item_must (transfer_item_must + transfer_item_may) n ws p e r h
    go false false r = let z : p ≡ e = cc in (omega arith, omega arith)

-- a request's end lies behind its place, and not past the list
pub request_ends : (ws : List ℕ) (at e : ℕ) → request_end ws at ≡ some e → (at < e) × (e ≤ length ws)
unfolding request_end
request_ends ws at e p = go (record_end an_op (get_or musts (op_at ws at) 0) (get_or musts (op_at ws at) 0 + get_or mays (op_at ws at) 0) ws at) refl p
  where
    go : (x : Option ℕ) → record_end an_op (get_or musts (op_at ws at) 0) (get_or musts (op_at ws at) 0 + get_or mays (op_at ws at) 0) ws at ≡ x
        → and_then x (λ q. items_end (op_at ws at) (count_at ws at) ws q) ≡ some e → (at < e) × (e ≤ length ws)
    go none x r = let z : ◌≡◌ {A = ℕ} 0 1 = cc in absurd (omega arith)
    go (some q) x r =
        let w = record_whole an_op _ _ ws at q x in
        let k = items_ends (op_at ws at) (count_at ws at) ws q e r w.short in
        (omega (arith, w.rises, k.0), k.1)

-- so the place after a request is where the words that the model leaves begin
pub request_placed : (ws : List ℕ) (at : ℕ) → next_of (request_end ws at) ≡ placed ws (read_request (drop at ws))
request_placed ws at = go (request_end ws at) refl ∙ sym (ap (placed ws) (request_read ws at))
  where
    go : (x : Option ℕ) → request_end ws at ≡ x → next_of x ≡ placed ws (up_to ws x (request_at ws at))
    go none p = refl
    go (some e) p = ap Some (omega (arith, length-drop e ws, (request_ends ws at e p).1))

-- an op's must and may fields together fit a word
pub maps_fit : (op m y : ℕ) → m ≡ get_or musts op 0 → y ≡ get_or mays op 0 → m + y < 524288
maps_fit op m y p q = omega (arith, must_below op, may_below op)

-- it is none where its first record is malformed, and else the place after its items
module _ (ws : List ℕ) (at : ℕ) where
  head : Option ℕ
  head = record_end an_op (get_or musts (op_at ws at) 0) (get_or musts (op_at ws at) 0 + get_or mays (op_at ws at) 0) ws at

  pub request_bad : next_of (record_end an_op (get_or musts (op_at ws at) 0) (get_or musts (op_at ws at) 0 + get_or mays (op_at ws at) 0) ws at) ≡ None → placed ws (read_request (drop at ws)) ≡ None
  unfolding request_end head
  request_bad p = sym (request_placed ws at) ∙ go head p
    where
      go : (x : Option ℕ) → next_of x ≡ None → next_of (and_then x λ e. items_end (op_at ws at) (count_at ws at) ws e) ≡ None
      go none q = refl
      go (some k) q = cc

  pub request_goes : (e : ℕ) → next_of (record_end an_op (get_or musts (op_at ws at) 0) (get_or musts (op_at ws at) 0 + get_or mays (op_at ws at) 0) ws at) ≡ Some e
      → placed ws (read_request (drop at ws)) ≡ next_of (items_end (op_at ws at) (count_at ws at) ws e)
  unfolding request_end head
  request_goes e p = sym (request_placed ws at) ∙ go head p
    where
      go : (x : Option ℕ) → next_of x ≡ Some e → next_of (and_then x λ e. items_end (op_at ws at) (count_at ws at) ws e) ≡ next_of (items_end (op_at ws at) (count_at ws at) ws e)
      go none q = cc
      go (some k) q = let z : k ≡ e = cc in ap (λ (k : ℕ). next_of (items_end (op_at ws at) (count_at ws at) ws k)) z

-- Lists

-- what is read of a list that is not empty
abbrev turned : Reading Request → Option (List Request)
turned x = and_then x λ r. and_then (read_list r.1) λ rs. some (r.0 ∷ rs)

list_cons : (w : ℕ) (ws : List ℕ) → read_list (w ∷ ws) ≡ turned (read_request (w ∷ ws))
unfolding read_list
list_cons w ws = go (read_request (w ∷ ws)) (request_in_front (w ∷ ws))
  where
    go : (x : Reading Request) → Front 1 (w ∷ ws) x
        → and_then x (λ r. and_then (read_up_to (length ws) r.1) λ rs. some (r.0 ∷ rs)) ≡ and_then x (λ r. and_then (read_up_to (length r.1) r.1) λ rs. some (r.0 ∷ rs))
    go none f = refl
    go (some r) f =
        let e : length (w ∷ ws) ≡ length f.0 + length r.1 = ap length f.1 ∙ length-append f.0 r.1 in
        ap (λ (x : Option (List Request)). and_then x λ rs. some (r.0 ∷ rs)) (reading_ends (length ws) (length r.1) r.1 (omega (arith, e, f.2)) (omega arith))

-- the rest of a list is the request at its place and what follows that
pub list_turn : (ws : List ℕ) (at : ℕ) → at < length ws → read_list (drop at ws) ≡ turned (up_to ws (request_end ws at) (request_at ws at))
list_turn ws at h =
    ap read_list (drop-cons ws at 0 h)
    ∙ list_cons (get_or ws at 0) (drop (suc at) ws)
    ∙ ap (λ (l : List ℕ). turned (read_request l)) (sym (drop-cons ws at 0 h))
    ∙ ap turned (request_read ws at)

pub list_end : (ws : List ℕ) (at : ℕ) → length ws ≤ at → read_list (drop at ws) ≡ some []
unfolding read_list
list_end ws at h = ap (λ (l : List ℕ). read_up_to (length l) l) (drop_of_length-le ws h)

-- Counting the requests of a list, one after the other

module _ (ws : List ℕ) (at : ℕ) where
  -- the place after a request that was read
  end_is : (e : ℕ) → placed ws (read_request (drop at ws)) ≡ Some e → request_end ws at ≡ some e
  end_is e p = go (request_end ws at) (request_placed ws at ∙ p)
    where
      go : (x : Option ℕ) → next_of x ≡ Some e → x ≡ some e
      go none q = cc
      go (some k) q = let z : k ≡ e = cc in ap some z

  bad_is : placed ws (read_request (drop at ws)) ≡ None → request_end ws at ≡ none
  bad_is p = go (request_end ws at) (request_placed ws at ∙ p)
    where
      go : (x : Option ℕ) → next_of x ≡ None → x ≡ none
      go none q = refl
      go (some k) q = cc

  pub place_rises : (e : ℕ) → placed ws (read_request (drop at ws)) ≡ Some e → (at < e) × (e ≤ length ws)
  place_rises e p = request_ends ws at e (end_is e p)

  pub count_turn : (n e : ℕ) → at < length ws → placed ws (read_request (drop at ws)) ≡ Some e → counted n (read_list (drop at ws)) ≡ counted (n + 1) (read_list (drop e ws))
  count_turn n e h p =
      ap (counted n) (list_turn ws at h ∙ ap (λ (x : Option ℕ). turned (up_to ws x (request_at ws at))) (end_is e p)) ∙ go (read_list (drop e ws))
    where
      go : (x : Option (List Request)) → counted n (and_then x λ rs. some (request_at ws at ∷ rs)) ≡ counted (n + 1) x
      go none = refl
      go (some rs) = ap Some (omega arith)

  pub count_bad : (n : ℕ) → at < length ws → placed ws (read_request (drop at ws)) ≡ None → counted n (read_list (drop at ws)) ≡ None
  count_bad n h p = ap (counted n) (list_turn ws at h ∙ ap (λ (x : Option ℕ). turned (up_to ws x (request_at ws at))) (bad_is p))

  pub count_end : (n : ℕ) → length ws ≤ at → counted n (read_list (drop at ws)) ≡ Some n
  count_end n h = ap (counted n) (list_end ws at h) ∙ ap Some (add-zero n)

pub count_all : (x : Option (List Request)) → listed x ≡ counted 0 x
count_all none = refl
count_all (some rs) = ap Some (sym (zero-add (length rs)))
