-- The request that stands at a place of a list is of its op. Assumes nothing.
use Rattle.std.specs.Prelude.{◌≡◌, refl, Bool, true, List, ℕ, zero, suc, ◌+◌, ◌≤◌, ◌<◌, eqb}
use Rattle.std.proofs.Common.{sym, arith, eqb-true}
use Rattle.std.proofs.lemmas.Bool.{eqb-false}
use Rattle.words.specs.Pick.{bool, and_left, and_right}
use Rattle.format.specs.Ops.{op_last}
use Rattle.model.specs.Base.{every, range}
use Rattle.request.specs.Place.{request_of}
use Rattle.contract.specs.Ops.{op_of}

-- a test that every number from k on passes, n of them
every_in : (p : ℕ → Bool) (k n i : ℕ) → every p (range k n) ≡ true → k ≤ i → i < k + n → p i ≡ true
every_in p k zero i e h l = absurd (omega arith)
every_in p k (suc n) i e h l =
    bool (eqb k i)
    (λ q. let z : i ≡ k = sym (eqb-true k i q) in rw z (and_left (p k) (every p (range (suc k) n)) e))
    (λ q. let z : k ≡ i → ⊥ = eqb-false k i q in every_in p (suc k) n i (and_right (p k) (every p (range (suc k) n)) e) (omega arith) (omega arith))

pub op_made : (list : List ℕ) (at op : ℕ) → 1 ≤ op → op ≤ op_last → op_of (request_of op list at) ≡ op
unfolding request_of
op_made list at op h l = eqb-true (op_of (request_of op list at)) op (every_in (λ k. eqb (op_of (request_of k list at)) k) 1 op_last op refl h (omega arith))
