-- Whether a plan is stale, by the words, is what the model says. Assumes nothing.
use Rattle.std.specs.Prelude.{◌≡◌, refl, Bool, false, ◌&&◌, ℕ, ◌-◌, ◌≤◌, ◌<◌, length, eqb}
use Rattle.std.proofs.Common.{sym, ◌∙◌, arith}
use Rattle.std.proofs.Math.Path.{ap}
use Rattle.std.proofs.Math.Bool.{true, not}
use mathlib.Core.List.{List, [], ◌∷◌}
use Rattle.std.proofs.Math.Option.{Option, none, some}
use borrow.Author.Tests.{ne_eqb, eqb-true, eqb-false}
use Rattle.words.specs.Pick.{pick, bool}
use Rattle.model.specs.Base.{same_list}
use Rattle.model.specs.State.{Sizes, till, Table, StorageSnapshot}
use Rattle.model.specs.Storage.{slots_of, pages_for, snapshot_with, still_is, is_stale}
use Rattle.model.specs.Create.{max_pages}
use Rattle.model.specs.WellFormed.{All, JustEnough}
use Rattle.model.proofs.Tests.{same_list_equal}
use Rattle.invariant.proofs.Orders.{Sound}
use Rattle.invariant.proofs.Pages.{Sane, page_slots_law}
use Rattle.layout.specs.Layout.{Mem}
use Rattle.layout.specs.Sizes.{batch_max}
use Rattle.representation.specs.Represents.{TableIs, PlanIs}
use Rattle.growth.specs.Words.{pages_needed, pages_same, no_plan}
use Rattle.growth.specs.Plan.{needed_some, needed_none}
use Rattle.growth.specs.Next.{next_is, pages_are, next_of}
use Rattle.plan.specs.Ops.{stale_in}

-- each page brings a slot at least, so that a plan has no more pages than slots
pub enough_short : (z : Sizes) → Sane z → (n : ℕ) (ps : List ℕ) → JustEnough z n ps → All (λ p. p < max_pages z) ps → length ps ≤ n
enough_short z sane n [] e a = omega arith
enough_short z sane n (p ∷ ps) e a = omega (arith, e.0, page_slots_law z sane p a.0, enough_short z sane (n - slots_of z p) ps e.1 a.1)

-- lists of different lengths are two
lengths_apart : (ps qs : List ℕ) → eqb (length ps) (length qs) ≡ false → same_list ps qs ≡ false
lengths_apart ps qs e = bool (same_list ps qs) (λ y. absurd (eqb-false (length ps) (length qs) e (ap length (same_list_equal ps qs y)))) (λ y. y)

-- the tests one by one, and the model's all at once; c is the test of the number of pages
tests_are : (a b c d e : Bool) → (c ≡ true → d ≡ e) → (c ≡ false → e ≡ false) → pick a (pick b (pick c (not d) true) true) true ≡ not (a && (b && e))
tests_are false b c d e y n = refl
tests_are true false c d e y n = refl
tests_are true true true d e y n = ap not (y refl)
tests_are true true false d e y n = sym (ap not (n refl))

module _ (m : Mem) (b : ℕ) (t : Table) (i : TableIs m b t) (o : Sound till t t.free) (x n : ℕ) (few : n ≤ batch_max) (w : StorageSnapshot) (fs : List ℕ) (p : PlanIs m x b n w fs)
    (short : length w.pages ≤ batch_max) where
  -- STALE
  pub stale_is : stale_in m b x ≡ is_stale till t n w
  unfolding stale_in
  stale_is = rw (i.epoch, p.epoch, i.free_count, p.free_slots, p.count, p.page_count) (go (pages_for till t n) refl)
    where
      go : (v : Option (List ℕ)) → pages_for till t n ≡ v
          → pick (eqb t.epoch w.epoch) (pick (eqb (length t.free) w.free_slots) (pick (eqb (pages_needed m b n) (length w.pages)) (not (pages_same m b x (length w.pages))) true) true) true
          ≡ not (still_is (snapshot_with t v) w)
      go none e =
          rw (needed_none m b t i o n few e, ne_eqb no_plan (length w.pages) (λ y. omega arith))
          (bool (eqb t.epoch w.epoch) (λ y. rw y (bool (eqb (length t.free) w.free_slots) (λ z. rw z) (λ z. rw z))) (λ y. rw y))
      go (some ps) e =
          let d = needed_some m b t i o n few ps e in
          rw d (tests_are (eqb t.epoch w.epoch) (eqb (length t.free) w.free_slots) (eqb (length ps) (length w.pages)) (pages_same m b x (length w.pages)) (same_list ps w.pages)
          (λ y. pages_are m b x w.pages p.pages
          ∙ ap (λ (l : List ℕ). same_list l w.pages) (ap (next_of m b) (sym (eqb-true (length ps) (length w.pages) y)) ∙ next_is m b t i o n ps e))
          (lengths_apart ps w.pages))
