-- A set of 64 bits that has the bit of each value listed so far, by its remainder: a value whose bit does not stand is not listed.
-- Assumes nothing.
use Rattle.std.specs.Prelude.{◌≡◌, refl, Bool, true, false, List, ◌∷◌, ℕ, suc, ◌+◌, ◌*◌, ◌/◌, ◌%◌, ◌^◌, max, eqb}
use Rattle.std.proofs.Common.{sym, ap, ◌∙◌, mul-div_cancel, arith, pow_pos, eq-eqb, eqb-true}
use Rattle.std.specs.Int.Bits.{bit_or, or_step}
use Rattle.std.proofs.lemmas.Nat.{or_shr}
use Rattle.words.specs.Pick.{bool, clash}
use Rattle.model.specs.Base.{member}
use Rattle.request.specs.Place.{place_of, item_at}
use Rattle.transfer.specs.declared.HandleTransferRequest.{HandleTransferRequest}
use Rattle.transfer.specs.Checks.{item_by, earlier_at}

-- the bit of a value
unfoldable pub bit_of : ℕ → ℕ → ℕ
bit_of seen v = seen / 2 ^ (v % 64) % 2

-- the bits of the first n values stand
unfoldable pub Seen : List ℕ → ℕ → ℕ → ℕ → Type 0
Seen rq at n seen = (v : ℕ) → member v (earlier_at rq at n) ≡ true → bit_of seen v ≡ 1

or_bit : (a b k : ℕ) → bit_or a b / 2 ^ k % 2 ≡ max (a / 2 ^ k % 2) (b / 2 ^ k % 2)
or_bit a b k = ap (λ (x : ℕ). x % 2) (or_shr a b k ∙ or_step (a / 2 ^ k) (b / 2 ^ k)) ∙ last (bit_or (a / 2 ^ k / 2) (b / 2 ^ k / 2)) (a / 2 ^ k) (b / 2 ^ k)
  where
    last : (r x y : ℕ) → (r * 2 + max (x % 2) (y % 2)) % 2 ≡ max (x % 2) (y % 2)
    last r x y = omega arith

own_bit : (k : ℕ) → 2 ^ k / 2 ^ k ≡ 1
own_bit k = let z : 2 ^ k ≡ 1 * 2 ^ k = omega arith in ap (λ (x : ℕ). x / 2 ^ k) z ∙ mul-div_cancel 1 (pow_pos k)

-- a bit that stands stays, and the value's own stands
bit_kept : (seen b v : ℕ) → bit_of seen v ≡ 1 → bit_of (bit_or seen b) v ≡ 1
unfolding bit_of
bit_kept seen b v e = or_bit seen b (v % 64) ∙ most (b / 2 ^ (v % 64)) (seen / 2 ^ (v % 64) % 2) e
  where
    most : (y x : ℕ) → x ≡ 1 → max x (y % 2) ≡ 1
    most y x d = omega arith

bit_own : (seen v : ℕ) → bit_of (bit_or seen (2 ^ (v % 64))) v ≡ 1
unfolding bit_of
bit_own seen v = or_bit seen (2 ^ (v % 64)) (v % 64) ∙ ap (λ (x : ℕ). max (seen / 2 ^ (v % 64) % 2) (x % 2)) (own_bit (v % 64)) ∙ most (seen / 2 ^ (v % 64))
  where
    most : (y : ℕ) → max (y % 2) (1 % 2) ≡ 1
    most y = omega arith

pub seen_none : (rq : List ℕ) (at : ℕ) → Seen rq at 0 0
unfolding Seen earlier_at
seen_none rq at v e = clash e refl

-- one item more
pub seen_turn : (rq : List ℕ) (at i seen new : ℕ) (q : HandleTransferRequest) → Seen rq at i seen → item_by q ≡ item_at rq (place_of i rq at)
    → new ≡ bit_or seen (2 ^ (q.value.0 % 64)) → Seen rq at (i + 1) new
unfolding Seen earlier_at item_by
seen_turn rq at i seen new q s e d v m =
    let w : q.value.0 ≡ (item_at rq (place_of i rq at)).value = ap (λ x. x.value) e in
    let z : i + 1 ≡ suc i = omega arith in
    let m₁ : member v ((item_at rq (place_of i rq at)).value ∷ earlier_at rq at i) ≡ true = rw z at m in
    ap (λ (x : ℕ). bit_of x v) d ∙ bool (eqb v q.value.0)
    (λ y. let x : v ≡ q.value.0 = eqb-true v q.value.0 y in rw (← x) (bit_own seen v))
    (λ y. let g : eqb v (item_at rq (place_of i rq at)).value ≡ false = ap (eqb v) (sym w) ∙ y in bit_kept seen (2 ^ (q.value.0 % 64)) v (s v (rw g at m₁)))

-- `twice`
pub seen_not : (rq : List ℕ) (at n seen v : ℕ) (t : Bool) → Seen rq at n seen → t ≡ eqb (bit_of seen v) 1 → t ≡ false → false ≡ member v (earlier_at rq at n)
unfolding Seen
seen_not rq at n seen v t s e f = bool (member v (earlier_at rq at n))
    (λ y. clash (e ∙ eq-eqb (bit_of seen v) 1 (s v y)) f)
    (λ y. sym y)
