-- What a caller that runs the requests of a list one after the other goes by.
-- Assumes nothing.
use Rattle.std.specs.Prelude.{◌≡◌, refl, Bool, true, false, List, [], ◌∷◌, ℕ, zero, suc, ◌+◌, ◌≤◌, ◌<◌, length, get_or, drop, eqb}
use Rattle.std.proofs.Common.{sym, ap, subst, ◌∙◌, arith, add-one}
use Rattle.std.proofs.Math.Option.{Option, none, some}
use Rattle.format.specs.Format.{musts, mays, transfer_item_must, transfer_item_may, parcel_item_must, parcel_item_may}
use Rattle.format.specs.Ops.{op_publish, op_last}
use Rattle.format.specs.Fields.{an_op, an_operation, zero_word}
use Rattle.model.specs.Base.{pick}
use Rattle.model.specs.Request.{Request}
use Rattle.model.specs.Words.{and_then, must, read_list}
use Rattle.request.specs.Place.{up_to, end_at, record_end, many_end, places_from, place_of, has_transfer, items_end, op_at, count_at, request_end, next_at, request_of, request_at}
use Rattle.request.specs.Fields.{Whole, record_whole, first_fits}
use Rattle.request.specs.Lists.{known_op_law, place_later, request_ends, list_turn, list_end}

-- Items by their places

pub places_length : (n : ℕ) (ws : List ℕ) (at : ℕ) → length (places_from n ws at) ≡ n
unfolding places_from
places_length zero ws at = refl
places_length (suc n) ws at = ap suc (places_length n ws (end_at ws at))

pub place_next : (i : ℕ) (ws : List ℕ) (at : ℕ) → place_of (i + 1) ws at ≡ end_at ws (place_of i ws at)
unfolding place_of
place_next i ws at = rw add-one

-- n records in a row that are well formed: where they end, that each is well formed, and that each has a word at least
pub record Rowed (first must allowed n : ℕ) (ws : List ℕ) (at e : ℕ) : Type 0 where
  pub ends : e ≡ place_of n ws at
  pub room : at + n ≤ e
  pub each : (i : ℕ) → i < n → Whole first must allowed ws (place_of i ws at) (place_of (suc i) ws at)

pub many_whole : (first must allowed n : ℕ) (ws : List ℕ) (at e : ℕ) → many_end first must allowed n ws at ≡ some e → Rowed first must allowed n ws at e
unfolding many_end place_of
many_whole first must allowed zero ws at e p = let q : at ≡ e = cc in record { ends = sym q; room = omega arith; each = λ i h. absurd (omega arith) }
many_whole first must allowed (suc n) ws at e p = go (record_end first must allowed ws at) refl p (λ q r. many_whole first must allowed n ws q e r)
  where
    go : (x : Option ℕ) → record_end first must allowed ws at ≡ x → and_then x (λ q. many_end first must allowed n ws q) ≡ some e
        → ((q : ℕ) → many_end first must allowed n ws q ≡ some e → Rowed first must allowed n ws q e) → Rowed first must allowed (suc n) ws at e
    go none x r ih = let z : ◌≡◌ {A = ℕ} 0 1 = cc in absurd (omega arith)
    go (some q) x r ih =
        let w : Whole first must allowed ws at q = record_whole first must allowed ws at q x in
        let k : Rowed first must allowed n ws q e = ih q r in
        record {
          ends = k.ends ∙ ap (place_of n ws) w.ends ∙ sym (place_later n ws at);
          room = omega (arith, w.rises, k.room);
          each = each w k;
        }
      where
        each : Whole first must allowed ws at q → Rowed first must allowed n ws q e → (i : ℕ) → i < suc n → Whole first must allowed ws (place_of i ws at) (place_of (suc i) ws at)
        each w k zero h = subst (Whole first must allowed ws at) w.ends w
        each w k (suc i) h =
            let t : Whole first must allowed ws (place_of i ws q) (place_of (suc i) ws q) = k.each i (omega arith) in
            let a : place_of i ws q ≡ place_of (suc i) ws at = ap (place_of i ws) w.ends ∙ sym (place_later i ws at) in
            let b : place_of (suc i) ws q ≡ place_of (suc (suc i)) ws at = ap (end_at ws) a in
            subst (λ (y : ℕ). Whole first must allowed ws (place_of (suc i) ws at) y) b (subst (λ (x : ℕ). Whole first must allowed ws x (place_of (suc i) ws q)) a t)

-- Requests

-- the request of a known op is that op's, of the fields in place: for 5 a reserve, and so on
pub request_is : (ws : List ℕ) (at op : ℕ) → op_at ws at ≡ op → request_at ws at ≡ request_of op ws at
unfolding request_at
request_is ws at op e = ap (λ (k : ℕ). request_of k ws at) e

-- a request that is well formed: its record, its op, and its items
pub record Formed (ws : List ℕ) (at e : ℕ) : Type 0 where
  pub head : Whole an_op (get_or musts (op_at ws at) 0) (get_or musts (op_at ws at) 0 + get_or mays (op_at ws at) 0) ws at (end_at ws at)
  pub known : (1 ≤ op_at ws at) × (op_at ws at ≤ op_last)
  pub items : items_end (op_at ws at) (count_at ws at) ws (end_at ws at) ≡ some e
  pub next : e ≡ next_at ws at
  pub rises : at < e
  pub short : e ≤ length ws

items_next : (ws : List ℕ) (at e : ℕ) → items_end (op_at ws at) (count_at ws at) ws (end_at ws at) ≡ some e → e ≡ next_at ws at
unfolding items_end next_at
items_next ws at e p = go (eqb (op_at ws at) op_publish) (has_transfer (op_at ws at)) p
  where
    n : ℕ
    n = count_at ws at

    go : (b c : Bool)
        → pick b (many_end zero_word parcel_item_must (parcel_item_must + parcel_item_may) n ws (end_at ws at)) (pick c (many_end an_operation transfer_item_must (transfer_item_must + transfer_item_may) n ws (end_at ws at)) (some (end_at ws at))) ≡ some e
        → e ≡ pick b (place_of n ws (end_at ws at)) (pick c (place_of n ws (end_at ws at)) (end_at ws at))
    go true c q = (many_whole zero_word parcel_item_must (parcel_item_must + parcel_item_may) n ws (end_at ws at) e q).ends
    go false true q = (many_whole an_operation transfer_item_must (transfer_item_must + transfer_item_may) n ws (end_at ws at) e q).ends
    go false false q = cc

pub request_whole : (ws : List ℕ) (at e : ℕ) → request_end ws at ≡ some e → Formed ws at e
unfolding request_end
request_whole ws at e p = go (record_end an_op (get_or musts (op_at ws at) 0) (get_or musts (op_at ws at) 0 + get_or mays (op_at ws at) 0) ws at) refl p
  where
    ends : (at < e) × (e ≤ length ws)
    ends = request_ends ws at e p

    go : (x : Option ℕ) → record_end an_op (get_or musts (op_at ws at) 0) (get_or musts (op_at ws at) 0 + get_or mays (op_at ws at) 0) ws at ≡ x
        → and_then x (λ q. items_end (op_at ws at) (count_at ws at) ws q) ≡ some e → Formed ws at e
    go none x r = let z : ◌≡◌ {A = ℕ} 0 1 = cc in absurd (omega arith)
    go (some q) x r =
        let w = record_whole an_op (get_or musts (op_at ws at) 0) (get_or musts (op_at ws at) 0 + get_or mays (op_at ws at) 0) ws at q x in
        let i : items_end (op_at ws at) (count_at ws at) ws (end_at ws at) ≡ some e = subst (λ (y : ℕ). items_end (op_at ws at) (count_at ws at) ws y ≡ some e) w.ends r in
        record {
          head = subst (Whole an_op (get_or musts (op_at ws at) 0) (get_or musts (op_at ws at) 0 + get_or mays (op_at ws at) 0) ws at) w.ends w;
          known = known_op_law (op_at ws at) (first_fits an_op _ _ ws at q w);
          items = i;
          next = items_next ws at e i;
          rises = ends.0;
          short = ends.1;
        }

-- what is left of a list that is well formed begins with the request at its place; what follows begins at that request's end
pub record Turn (ws : List ℕ) (at : ℕ) (rs : List Request) : Type 0 where
  pub rest : List Request
  pub first : rs ≡ request_at ws at ∷ rest
  pub ends : request_end ws at ≡ some (next_at ws at)
  pub left : read_list (drop (next_at ws at) ws) ≡ some rest
  pub formed : Formed ws at (next_at ws at)

pub list_at : (ws : List ℕ) (at : ℕ) (rs : List Request) → read_list (drop at ws) ≡ some rs → at < length ws → Turn ws at rs
list_at ws at rs p h = go (request_end ws at) refl (sym (list_turn ws at h) ∙ p)
  where
    here_is : (e : ℕ) (x : Option (List Request)) → request_end ws at ≡ some e → read_list (drop e ws) ≡ x → and_then x (λ l. some (request_at ws at ∷ l)) ≡ some rs → Turn ws at rs
    here_is e none q f r = let z : ◌≡◌ {A = ℕ} 0 1 = cc in absurd (omega arith)
    here_is e (some l) q f r =
        let w : Formed ws at e = request_whole ws at e q in
        let n : e ≡ next_at ws at = w.next in
        let t : some (request_at ws at ∷ l) ≡ some rs = r in
        record {
          rest = l;
          first = cc;
          ends = q ∙ ap some n;
          left = subst (λ (y : ℕ). read_list (drop y ws) ≡ some l) n f;
          formed = subst (Formed ws at) n w;
        }

    go : (x : Option ℕ) → request_end ws at ≡ x
        → and_then (up_to ws x (request_at ws at)) (λ r. and_then (read_list r.1) λ l. some (r.0 ∷ l)) ≡ some rs → Turn ws at rs
    go none q r = let z : ◌≡◌ {A = ℕ} 0 1 = cc in absurd (omega arith)
    go (some e) q r = here_is e (read_list (drop e ws)) q refl r

pub list_done : (ws : List ℕ) (at : ℕ) (rs : List Request) → read_list (drop at ws) ≡ some rs → length ws ≤ at → rs ≡ []
list_done ws at rs p h = let e : some rs ≡ some [] = sym p ∙ list_end ws at h in cc
