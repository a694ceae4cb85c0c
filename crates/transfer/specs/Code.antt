-- What the loops and the calls of the code say, in the terms of the definitions. Assumes nothing.
use Rattle.std.specs.Prelude.{◌≡◌, refl, Bool, true, false, List, [], ◌∷◌, ◌++◌, map, ℕ, zero, suc, ◌+◌, ◌-◌, ◌<◌, ◌||◌, length, eqb}
use Rattle.std.proofs.Common.{sym, ap, ◌∙◌, arith, eqb-true, length-append}
use Rattle.std.specs.List.{list_any}
use Rattle.std.proofs.lemmas.Bool.{eqb-false}
use Rattle.std.proofs.lemmas.List.{append_assoc, append_cancel_left}
use Rattle.std.proofs.lemmas.List.Folds.{list_any-append}
use Rattle.std.proofs.Math.Option.{Option, none, some}
use Rattle.words.specs.Pick.{pick, bool}
use Rattle.model.specs.Base.{member}
use Rattle.model.specs.Request.{Item}
use Rattle.format.specs.declared.rule.Rule.{Rule}
use Rattle.format.specs.declared.rule.Rule.TheVariants.{TableRetired, EmptyReservation, ReservationTooLarge, NoRow, NoId, ListedTwice, NoHandle, HandleBusy, LacksTransfer, CopyLacksDuplicate, OfferedBeyondSource, RequestedBeyondOffered, ForbiddenKind, ForbiddenObject, RouteBarsClass, OtherKind, CopyOfRetired, CopyAtLimit}
use Rattle.format.specs.Rules.{number_by}
use Rattle.layout.specs.declared.Shape.{Shape}
use Rattle.layout.specs.Layout.{object, place, place_out, in_no, load, save}
use Rattle.request.specs.Place.{optional, end_at, places_from, place_of, item_at}
use Rattle.request.specs.Lists.{place_later}
use Rattle.request.specs.Laws.{places_length}
use Rattle.storage.specs.Ops.{up}
use Rattle.object.specs.declared.ObjectRecord.{ObjectRecord}
use Rattle.object.specs.Words.{record_at, step_w}
use Rattle.transfer.specs.Checks.{as_option, items_at, earlier_at, copy_stop}

-- ---- a claim

-- `mark_items`: counting up to n, what is left
pub one_left : (n i : ℕ) → i < n → n - i ≡ suc (n - (i + 1))
one_left n i l = omega arith

-- ---- what is read

-- a field that may stand
pub as_found : (o : Option ℕ) → as_option (optional o) ≡ o
as_found none = refl
as_found (some w) = refl

pub items_length : (rq : List ℕ) (at n : ℕ) → length (items_at rq at n) ≡ n
unfolding items_at
items_length rq at n = go (places_from n rq at) ∙ places_length n rq at
  where
    go : (ps : List ℕ) → length (map (item_at rq) ps) ≡ length ps
    go [] = refl
    go (p ∷ ps) = ap suc (go ps)

pub items_none : (rq : List ℕ) (at : ℕ) → items_at rq at 0 ≡ []
unfolding items_at places_from
items_none rq at = refl

-- the first i of a list's items, and those behind them
items_split : (i k : ℕ) (rq : List ℕ) (at : ℕ) → items_at rq at (i + k) ≡ items_at rq at i ++ items_at rq (place_of i rq at) k
unfolding items_at places_from place_of
items_split zero k rq at = let z : 0 + k ≡ k = omega arith in rw z
items_split (suc i) k rq at = let z : suc i + k ≡ suc (i + k) = omega arith in rw z (ap (λ (l : List Item). item_at rq at ∷ l)
    (items_split i k rq (end_at rq at) ∙ ap (λ (p : ℕ). items_at rq (end_at rq at) i ++ items_at rq p k) (sym (place_later i rq at))))

-- where the first i items were taken and the next of n is q: what q is, and the first i + 1
module _ (rq : List ℕ) (at n i : ℕ) (q : Item) (qs : List Item) (e : items_at rq at n ≡ items_at rq at i ++ (q ∷ qs)) where
  turn_below : n ≡ i + suc (length qs)
  turn_below = sym (items_length rq at n) ∙ ap length e ∙ length-append (items_at rq at i) (q ∷ qs) ∙ ap (λ (k : ℕ). k + suc (length qs)) (items_length rq at i)

  pub turn_item : q ≡ item_at rq (place_of i rq at)
  unfolding items_at places_from
  turn_item =
      let s : items_at rq at i ++ (q ∷ qs) ≡ items_at rq at i ++ items_at rq (place_of i rq at) (suc (length qs)) = sym e ∙ ap (items_at rq at) turn_below ∙ items_split i (suc (length qs)) rq at in
      let c : q ∷ qs ≡ item_at rq (place_of i rq at) ∷ items_at rq (end_at rq (place_of i rq at)) (length qs) = append_cancel_left (items_at rq at i) (q ∷ qs) _ s in
      cc

  pub turn_items : items_at rq at (i + 1) ≡ items_at rq at i ++ (q ∷ [])
  unfolding items_at places_from
  turn_items = items_split i 1 rq at ∙ ap (λ (p : Item). items_at rq at i ++ (p ∷ [])) (sym turn_item)

  pub turn_rest : items_at rq at n ≡ items_at rq at (i + 1) ++ qs
  turn_rest = e ∙ sym (append_assoc (items_at rq at i) (q ∷ []) qs) ∙ ap (λ (l : List Item). l ++ qs) (sym turn_items)

  pub turn_earlier : earlier_at rq at (i + 1) ≡ q.value ∷ earlier_at rq at i
  unfolding earlier_at
  turn_earlier = let z : i + 1 ≡ suc i = omega arith in rw (z, turn_item)

-- ---- checks

pub rule_some : (r : Rule) → eqb (number_by r) 0 ≡ false
rule_some TableRetired = refl
rule_some EmptyReservation = refl
rule_some ReservationTooLarge = refl
rule_some NoRow = refl
rule_some NoId = refl
rule_some ListedTwice = refl
rule_some NoHandle = refl
rule_some HandleBusy = refl
rule_some LacksTransfer = refl
rule_some CopyLacksDuplicate = refl
rule_some OfferedBeyondSource = refl
rule_some RequestedBeyondOffered = refl
rule_some ForbiddenKind = refl
rule_some ForbiddenObject = refl
rule_some RouteBarsClass = refl
rule_some OtherKind = refl
rule_some CopyOfRetired = refl
rule_some CopyAtLimit = refl

-- `listed`: whether the value of an item is among those of the first n
pub any_earlier : (v n : ℕ) (rq : List ℕ) (at : ℕ) → list_any (λ (q : Item). eqb v q.value) (items_at rq at n) ≡ member v (earlier_at rq at n)
unfolding items_at places_from earlier_at
any_earlier v zero rq at = refl
any_earlier v (suc n) rq at =
    let z : suc n ≡ n + 1 = omega arith in
    ap (λ (k : ℕ). list_any (λ (q : Item). eqb v q.value) (items_at rq at k)) z
    ∙ ap (list_any (λ (q : Item). eqb v q.value)) (items_split n 1 rq at)
    ∙ list_any-append (λ (q : Item). eqb v q.value) (items_at rq at n) (item_at rq (place_of n rq at) ∷ [])
    ∙ rw (any_earlier v n rq at) (last (member v (earlier_at rq at n)) (eqb v (item_at rq (place_of n rq at)).value))
  where
    last : (a b : Bool) → (a || (b || false)) ≡ pick b true a
    last true true = refl
    last true false = refl
    last false true = refl
    last false false = refl

-- ---- copies

-- the object of a link: what is stored of the largest number is stored of none, and so of the number before it
module _ (sh : Shape) (few : sh.objects < 65536) (o : ℕ) where
  same_place : (n f : ℕ) → place n sh (object (up o - 1) f) ≡ place n sh (object o f)
  same_place n f = bool (eqb (up o - 1) o)
      (λ e. let z : up o - 1 ≡ o = eqb-true (up o - 1) o e in ap (λ (k : ℕ). place n sh (object k f)) z)
      (λ e. let z : up o - 1 ≡ o → ⊥ = eqb-false (up o - 1) o e in
      place_out n sh (object (up o - 1) f) (in_no sh (object (up o - 1) f) (λ i. omega (arith, i.xs)))
      ∙ sym (place_out n sh (object o f) (in_no sh (object o f) (λ i. omega (arith, i.xs)))))

  same_load : (ws : List ℕ) (f : ℕ) → load ws sh (object (up o - 1) f) ≡ load ws sh (object o f)
  unfolding load
  same_load ws f = rw (same_place (length ws) f)

  same_save : (ws : List ℕ) (f v : ℕ) → save ws sh (object (up o - 1) f) v ≡ save ws sh (object o f) v
  unfolding save
  same_save ws f v = rw (same_place (length ws) f)

  same_record : (ws : List ℕ) → record_at (load ws sh) (up o - 1) ≡ record_at (load ws sh) o
  unfolding record_at
  same_record ws = simp (same_load ws)

  -- `raise_item`
  pub same_stop : (ws : List ℕ) → copy_stop (load ws sh) (up o - 1) ≡ copy_stop (load ws sh) o
  unfolding copy_stop
  same_stop ws = rw (same_record ws)

  -- `raise_item`, `lower_item`
  pub same_step : (f : ObjectRecord → ObjectRecord) (ws : List ℕ) → step_w f ws sh (up o - 1) ≡ step_w f ws sh o
  unfolding step_w
  same_step f ws = rw (same_record ws) (simp same_save)
