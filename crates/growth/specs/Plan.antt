-- The count of the pages that a batch needs is that of the model's plan. Assumes nothing.
use Rattle.std.specs.Prelude.{◌≡◌, refl, List, [], ◌∷◌, ℕ, zero, suc, ◌+◌, ◌-◌, ◌≤◌, ◌<◌, eqb, ltb}
use Rattle.std.proofs.Common.{ap, ◌∙◌, arith, ne_eqb, ltb-true}
use Rattle.std.proofs.Math.Option.{Option, none, some}
use Rattle.std.proofs.Math.ListN.{length}
use Rattle.std.proofs.lemmas.Bool.{eqb-false}
use Rattle.words.specs.Pick.{bool}
use Rattle.model.specs.Base.{also, occurs}
use Rattle.model.specs.State.{Sizes, till, Table, max_batch}
use Rattle.model.specs.Storage.{slots_of, pages_from, pages_for}
use Rattle.model.proofs.Tests.{apart, same}
use Rattle.model.specs.Create.{max_pages}
use Rattle.model.proofs.Bounds.{pages_max_law}
use Rattle.invariant.proofs.Orders.{Sound}
use Rattle.invariant.proofs.Pages.{till_sane, page_slots_law}
use Rattle.layout.specs.Layout.{Mem, head, entry}
use Rattle.layout.specs.Fields.{head_first_detached, head_first_entry, entry_next}
use Rattle.layout.specs.Sizes.{batch_max}
use Rattle.representation.specs.Represents.{Linked, TableIs}
use Rattle.storage.specs.Ops.{up}
use Rattle.growth.specs.Words.{count_from, pages_needed, no_plan}
use Rattle.growth.specs.Joined.{up_small}

-- c pages and those of a plan; no_plan where there is none, which is more than any plan has
abbrev pub counted : ℕ → Option (List ℕ) → ℕ
counted c none = no_plan
counted c (some ps) = c + length ps

counted_also : (c p : ℕ) (x : Option (List ℕ)) → counted (suc c) x ≡ counted c (also p x)
counted_also c p none = refl
counted_also c p (some ps) = omega arith

-- every page brings a slot at least, so that the turns are enough
count_is : (m : Mem) (e l fuel k d n c : ℕ) (ds : List ℕ) → Linked (λ q. m (entry (e + q) entry_next)) d ds → n ≤ l → l ≤ max_pages till → ((p : ℕ) → 0 < occurs p ds → p < max_pages till) → k ≤ fuel
    → count_from m e l fuel k d n c ≡ counted c (pages_from till fuel k ds n l)
unfolding count_from
count_is m e l zero zero d n c ds i a b h f = omega arith
count_is m e l zero (suc k) d n c ds i a b h f = absurd (omega arith)
count_is m e l (suc fuel) zero d n c ds i a b h f = omega arith
count_is m e l (suc fuel) (suc k) d n c [] i a b h f = rw (i, ne_eqb (suc k) 0 (λ y. omega arith)) (bool (eqb n l)
    (λ t. rw t)
    (λ t. let o : n < max_pages till = omega (arith, eqb-false n l t) in
    let u : up n ≡ suc n = up_small n (omega (arith, pages_max_law)) in
    rw (t, u) (count_is m e l fuel (suc k - slots_of till n) 0 (suc n) (suc c) [] refl (omega (arith, eqb-false n l t)) b h (omega (arith, page_slots_law till till_sane n o))
    ∙ counted_also c n (pages_from till fuel (suc k - slots_of till n) [] (suc n) l))))
count_is m e l (suc fuel) (suc k) d n c (p ∷ ds) i a b h f =
    let z : suc p - 1 ≡ p = omega arith in
    let o : p < max_pages till = h p (rw (same p) (omega arith)) in
    rw (i.0, ne_eqb (suc p) 0 (λ y. omega arith), ne_eqb (suc k) 0 (λ y. omega arith), z) (count_is m e l fuel (suc k - slots_of till p) (m (entry (e + p) entry_next)) n (suc c) ds i.1 a b
    (λ q v. h q (omega arith)) (omega (arith, page_slots_law till till_sane p o))
    ∙ counted_also c p (pages_from till fuel (suc k - slots_of till p) ds n l))

-- a detached page is one of the table's
detached_in : {z : Sizes} (t : Table) → Sound z t t.free → (p : ℕ) → 0 < occurs p t.detached → p < max_pages z
detached_in t o p h = bool (ltb p t.size)
    (λ e. omega (arith, ltb-true p t.size e, o.size, o.limit))
    (λ e. let z : occurs p t.detached ≡ 0 = rw e at (o.detached p) in absurd (omega arith))

-- THE COUNT, of a batch of at most 64
module _ (m : Mem) (b : ℕ) (t : Table) (i : TableIs m b t) (o : Sound till t t.free) (k : ℕ) (few : k ≤ batch_max) where
  needed_is : pages_needed m b k ≡ counted 0 (pages_for till t k)
  unfolding pages_needed pages_for max_batch
  needed_is = rw (i.free_count, i.size, i.limit)
      (count_is m (m (head b head_first_entry)) t.limit batch_max (k - length t.free) (m (head b head_first_detached)) t.size 0 t.detached i.detached o.size o.limit (detached_in t o) (omega arith))

  pub needed_some : (ps : List ℕ) → pages_for till t k ≡ some ps → pages_needed m b k ≡ length ps
  needed_some ps e = needed_is ∙ ap (counted 0) e ∙ omega arith

  pub needed_none : pages_for till t k ≡ none → pages_needed m b k ≡ no_plan
  needed_none e = needed_is ∙ ap (counted 0) e

-- no plan has more than 64 pages
also_short : (n p : ℕ) (x : Option (List ℕ)) → ((ps : List ℕ) → x ≡ some ps → length ps ≤ n) → (ps : List ℕ) → also p x ≡ some ps → length ps ≤ suc n
also_short n p none h ps e = apart (cc)
also_short n p (some qs) h ps e = let y : ps ≡ p ∷ qs = cc in rw y (omega (arith, h qs refl))

from_short : (z : Sizes) (fuel k : ℕ) (ds : List ℕ) (n l : ℕ) (ps : List ℕ) → pages_from z fuel k ds n l ≡ some ps → length ps ≤ fuel
from_short z zero zero ds n l ps e = let y : ps ≡ [] = cc in rw y (omega arith)
from_short z zero (suc k) ds n l ps e = apart (cc)
from_short z (suc fuel) zero ds n l ps e = let y : ps ≡ [] = cc in rw y (omega arith)
from_short z (suc fuel) (suc k) [] n l ps e = bool (eqb n l)
    (λ t. let x : none ≡ some ps = rw t at e in apart (cc))
    (λ t. also_short fuel n (pages_from z fuel (suc k - slots_of z n) [] (suc n) l) (from_short z fuel (suc k - slots_of z n) [] (suc n) l) ps (rw t at e))
from_short z (suc fuel) (suc k) (p ∷ ds) n l ps e = also_short fuel p (pages_from z fuel (suc k - slots_of z p) ds n l) (from_short z fuel (suc k - slots_of z p) ds n l) ps e

pub plan_short : (z : Sizes) (t : Table) (k : ℕ) (ps : List ℕ) → pages_for z t k ≡ some ps → length ps ≤ batch_max
unfolding pages_for max_batch
plan_short z t k ps e = from_short z batch_max (k - length t.free) t.detached t.size t.limit ps e
