use Rattle.std.specs.Prelude.{refl, ℕ, ◌+◌, ◌-◌, ◌*◌, ◌%◌, min, max, eqb}
use Rattle.std.proofs.Common.{sym, ap, ◌∙◌, arith, rules}
use borrow.Author.Tests.{tests}
use Rattle.std.proofs.lemmas.Iterator.{YieldsList-from_range}
use Rattle.std.proofs.lemmas.Iterator.Adapters.{option_map_id}
use Rattle.std.proofs.lemmas.Iterator.Search.{find_from_yields_List}
use Rattle.layout.specs.Layout.{load, entry, cell}
use Rattle.layout.specs.Fields.{entry_frame, slot_tag}
use Rattle.layout.specs.Sizes.{page_size}
use Rattle.layout.specs.Values.{tag_occupied}
use Rattle.teardown.specs.Ops.{found_in}
use Rattle.teardown.specs.Walk.{entry_none, entry_by}
use Rattle.teardown.proofs.occupied_on.Goals as goal

-- The check does not find this alone: what `find` gives is said over its closure; with `entry_none` and `entry_by` named at the function the search came to a limit.
pub returns-in_err-fr : goal.returns-in_err-fr
returns-in_err-fr c =
    let m = load c.args.s.now c.args.sh in
    let a = c.args in
    c.from_residual.ensures ∙ entry_none m a.b a.p (max a.start (a.p * page_size)) (min a.length ((a.p + 1) * page_size)) (omega arith) (omega arith) (omega (arith, c.requires.slots))
    (ap (λ (e : ℕ). m (entry (e + a.p) entry_frame)) (sym c.requires.entry) ∙ sym c.page_word.ensures ∙ omega (arith, c.in_err-fr.ensures))

pub returns : goal.returns
returns c =
    let m = load c.args.s.now c.args.sh in
    let a = c.args in
    let k = c.max-k.result in
    let end = c.min-end.result in
    sym (option_map_id c.find.result)
    ∙ find_from_yields_List (λ j. eqb (m (cell c.in_ok-fr.fr (j % page_size) slot_tag)) tag_occupied) _ _ c.find.result c.find.ensures.ran (YieldsList-from_range k end (end - k) refl refl) (λ x b q k. search (rules, tests))
    ∙ entry_by m a.b a.p k end (omega (arith, c.max-k.ensures)) (omega (arith, c.min-end.ensures)) (omega (arith, c.min-end.ensures, c.requires.slots)) c.in_ok-fr.fr (ap (λ (e : ℕ). m (entry (e + a.p) entry_frame)) (sym c.requires.entry) ∙ sym c.page_word.ensures ∙ omega (arith, c.in_ok-fr.ensures))
    ∙ ap (λ (x : ℕ). found_in m a.b x (end - x)) c.max-k.ensures
    ∙ ap (λ (y : ℕ). found_in m a.b (max a.start (a.p * page_size)) (y - max a.start (a.p * page_size))) c.min-end.ensures
