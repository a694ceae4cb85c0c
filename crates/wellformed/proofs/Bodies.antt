-- What the functions' bodies go by: the parts that write nothing are tried in turn, then the slots and the counts. Assumes nothing.
use Rattle.std.specs.Prelude.{◌≡◌, refl, Option, None, Bool, false, ◌&&◌, ℕ, ◌≤◌, ◌<◌, length, eqb, ltb}
use Rattle.std.proofs.Math.Path.{sym, ap}
use Rattle.std.proofs.Common.{◌∙◌}
use Rattle.std.proofs.Math.Bool.{true, and-false}
use mathlib.Core.List.{List, ◌++◌}
use native.Mathlib.Omega.{arith}
use borrow.Author.Tests.{lt-leb, eqb-true, eqb-false, ltb-true, ltb-false}
use Rattle.words.specs.Pick.{bool, clash, both}
use Rattle.words.specs.All.{all}
use Rattle.model.specs.Base.{occurs}
use Rattle.model.proofs.Counting.{occurs_append}
use Rattle.layout.specs.declared.Shape.{Shape}
use Rattle.layout.specs.Layout.{Mem, total, load}
use Rattle.structure.specs.Checks.{outline_b}
use Rattle.structure.specs.Split.{slots_in, structure_split}
use Rattle.orders.specs.Check.{orders_b}
use Rattle.ledger.specs.Plans.{held_frames}
use Rattle.ledger.specs.Ledger.{marks_b, book_b, ledger_b, ledger_split}
use Rattle.counts.specs.Found.{gather, in_table, in_book, found, handles, counts_b, book_same}
use Rattle.counts.specs.Shift.{unit, shifted, shifted_off}
use Rattle.counts.specs.Objects.{objects_b}
use Rattle.counts.specs.Used.{used_to, used_few, used_none, read_if, top_of, top_least, top_most, top_has}
use Rattle.counts.specs.Halves.{Low, Within, halves_to, lowered, objects_low, settled_kept, halves_few, halves_counts}
use Rattle.counts.specs.Code.{Noted, counts_in, rows_by}
use Rattle.counts.specs.Decide.{counts_sound, counts_in_law}
use Rattle.survey.specs.Walk.{survey_b, table_found}
use Rattle.survey.specs.Whole.{survey_whole, survey_found, survey_among, survey_other}
use Rattle.wellformed.specs.Whole.{parts_b, well_b}
use Rattle.wellformed.specs.Code.{quiet_b}

-- what an answer tells
read_bad : (b : Bool) (n : ℕ) → read_if b n ≡ None → b ≡ false
read_bad true n e = cc
read_bad false n e = refl

-- the parts are these, the slots and the marks
parts_order : (a s o b k j : Bool) → ((a && s) && (o && ((b && k) && j))) ≡ ((b && (a && (o && j))) && (s && k))
parts_order false s o true k j = refl
parts_order false s o false k j = refl
parts_order true false o false k j = refl
parts_order true true false false k j = refl
parts_order true true true false k j = refl
parts_order true false false true k j = refl
parts_order true false true true k true = refl
parts_order true false true true k false = refl
parts_order true true false true k j = refl
parts_order true true true true true true = refl
parts_order true true true true true false = refl
parts_order true true true true false true = refl
parts_order true true true true false false = refl

parts_split : (m : Mem) (sh : Shape) → parts_b m sh ≡ (quiet_b m sh && (all sh.tables (slots_in m sh) && marks_b m sh))
unfolding parts_b quiet_b
parts_split m sh = ap (λ (x : Bool). x && (orders_b m sh && (ledger_b m sh && objects_b m sh))) (structure_split m sh (held_frames m))
    ∙ ap (λ (x : Bool). (outline_b m sh (held_frames m) && all sh.tables (slots_in m sh)) && (orders_b m sh && (x && objects_b m sh))) (ledger_split m sh)
    ∙ parts_order (outline_b m sh (held_frames m)) (all sh.tables (slots_in m sh)) (orders_b m sh) (book_b m sh) (marks_b m sh) (objects_b m sh)

quiet_parts : (m : Mem) (sh : Shape) → quiet_b m sh ≡ true → (outline_b m sh (held_frames m) ≡ true) × (objects_b m sh ≡ true)
unfolding quiet_b
quiet_parts m sh e =
    let a = both (book_b m sh) (outline_b m sh (held_frames m) && (orders_b m sh && objects_b m sh)) e in
    let b = both (outline_b m sh (held_frames m)) (orders_b m sh && objects_b m sh) a.1 in
    (b.0, (both (orders_b m sh) (objects_b m sh) b.1).1)

-- `check`
module _ (ws : List ℕ) (sh : Shape) where
  short_counts : length ws < total sh → counts_in ws sh ≡ false
  unfolding counts_in
  short_counts h = rw (lt-leb (total sh) (length ws) h)

  pub too_short : (n t : ℕ) → n ≡ length ws → t ≡ total sh → n < t → false ≡ well_b ws sh
  unfolding well_b
  too_short n t a b h = sym (ap (λ (x : Bool). parts_b (load ws sh) sh && x) (short_counts (omega arith)) ∙ and-false (parts_b (load ws sh) sh))

  pub no_parts : (x : Option ℕ) → x ≡ read_if (quiet_b (load ws sh) sh) (used_to (load ws sh) sh.objects) → x ≡ None → false ≡ well_b ws sh
  unfolding well_b
  no_parts x e d = rw (parts_split (load ws sh) sh, read_bad (quiet_b (load ws sh) sh) (used_to (load ws sh) sh.objects) (sym e ∙ d))

  -- `check_handles`
  module _ (quiet : quiet_b (load ws sh) sh ≡ true) (u : ℕ) (eu : u ≡ used_to (load ws sh) sh.objects) (vs us : List ℕ) (t : ℕ) (ev : vs ≡ shifted ws sh unit (gather sh.tables (table_found (load ws sh) sh u)))
      (en : Noted vs us sh u t (in_book (load vs sh) sh)) where
    low : Low ws sh
    low = objects_low ws sh (quiet_parts (load ws sh) sh quiet).1

    -- the handles that were counted, those of the slots first
    slots : List ℕ
    slots = gather sh.tables (table_found (load ws sh) sh u)

    all_counted : us ≡ shifted ws sh unit (slots ++ in_book (load ws sh) sh)
    unfolding slots
    all_counted = rows_by ws vs us sh unit (gather sh.tables (table_found (load ws sh) sh u)) ev en.0

    -- how far their objects reach
    top_is : t ≡ top_of sh.objects u (in_book (load ws sh) sh)
    top_is = en.1 ∙ ap (λ (os : List ℕ). top_of sh.objects u os)
        (ap (λ (w : List ℕ). in_book (load w sh) sh) ev ∙ book_same (load ws sh) (load (shifted ws sh unit os) sh) (shifted_off ws sh unit os) sh)
      where
        os : List ℕ
        os = gather sh.tables (table_found (load ws sh) sh u)

    used_in : u ≤ sh.objects
    used_in = rw eu (used_few (load ws sh) sh.objects)

    used_below : u ≤ t
    used_below = rw top_is (top_least sh.objects u (in_book (load ws sh) sh))

    pub top_in : t ≤ sh.objects
    top_in = rw top_is (top_most sh.objects u (in_book (load ws sh) sh) used_in)

    within : Within sh t (slots ++ in_book (load ws sh) sh)
    unfolding slots
    within o l h = bool (eqb (occurs o (in_book (load ws sh) sh)) 0)
        (λ e. omega (
          arith,
          used_below,
          survey_among (load ws sh) sh u o (omega (arith, h, occurs_append o (gather sh.tables (table_found (load ws sh) sh u)) (in_book (load ws sh) sh), eqb-true (occurs o (in_book (load ws sh) sh)) 0 e)),
        ))
        (λ e. rw top_is (top_has sh.objects u (in_book (load ws sh) sh) o (omega (arith, eqb-false (occurs o (in_book (load ws sh) sh)) 0 e)) l))

    -- every word is as it was
    pub check_kept : (ts : List ℕ) → ts ≡ lowered us sh t → ts ≡ ws
    check_kept ts et = et ∙ ap (λ (w : List ℕ). lowered w sh t) all_counted ∙ settled_kept ws sh (slots ++ in_book (load ws sh) sh) t low within

    -- the parts are the slots' test for all objects
    parts : parts_b (load ws sh) sh ≡ survey_b (load ws sh) sh sh.objects
    parts = parts_split (load ws sh) sh ∙ rw quiet (survey_whole (load ws sh) sh (held_frames (load ws sh)) (quiet_parts (load ws sh) sh quiet).0)

    module _ (room : total sh ≤ length ws) where
      -- the slots pass for the used objects: then for all, every handle was counted, and the objects beyond have none
      slots_pass : sh.tables < 256 → sh.rows < 65536 → survey_b (load ws sh) sh u ≡ true → halves_to (load us sh) t ≡ well_b ws sh
      unfolding well_b slots
      slots_pass l k y =
          let all_objects : survey_b (load ws sh) sh sh.objects ≡ true = survey_other (load ws sh) sh u sh.objects y (λ o h i. omega (arith, i, used_in)) in
          let e : us ≡ shifted ws sh unit (slots ++ in_book (load ws sh) sh) = all_counted in
          let f : slots ++ in_book (load ws sh) sh ≡ found (load ws sh) sh = ap (λ (os : List ℕ). os ++ in_book (load ws sh) sh) (survey_found (load ws sh) sh u y) in
          ap (λ (w : List ℕ). halves_to (load w sh) t) e
          ∙ halves_few ws sh (slots ++ in_book (load ws sh) sh) t top_in within (λ o h i. used_none (load ws sh) sh.objects o (omega (arith, sym eu, used_below, h)) i)
          ∙ ap (λ (os : List ℕ). halves_to (load (shifted ws sh unit os) sh) sh.objects) f
          ∙ halves_counts ws sh room low l k
          ∙ sym (counts_in_law ws sh room)
          ∙ sym (rw (parts, all_objects))

      -- they do where the state is well formed: an object that a slot has a handle of has a count
      slots_right : well_b ws sh ≡ true → survey_b (load ws sh) sh u ≡ true
      unfolding well_b handles
      slots_right y =
          let a = both (parts_b (load ws sh) sh) (counts_in ws sh) y in
          let c : counts_b (load ws sh) sh ≡ true = sym (counts_in_law ws sh room) ∙ a.1 in
          survey_other (load ws sh) sh sh.objects u (sym parts ∙ a.0)
          (λ o h l. bool (ltb o u) (λ e. ltb-true o u e) (λ e. absurd (omega (
            arith,
            h,
            used_none (load ws sh) sh.objects o (omega (arith, sym eu, ltb-false o u e)) l,
            counts_sound (load ws sh) sh c o l,
            occurs_append o (gather sh.tables (in_table (load ws sh) sh)) (in_book (load ws sh) sh),
          ))))

      -- and the answer is right
      pub check_answer : (s c r : Bool) → sh.tables < 256 → sh.rows < 65536 → s ≡ survey_b (load ws sh) sh u → c ≡ halves_to (load us sh) t → r ≡ (s && c) → r ≡ well_b ws sh
      check_answer s c r l k es ec er = er ∙ bool (survey_b (load ws sh) sh u)
          (λ y. rw (es ∙ y) (ec ∙ slots_pass l k y))
          (λ y. rw (es ∙ y) (bool (well_b ws sh) (λ d. clash (slots_right d) y) (λ d. sym d)))
