use Rattle.std.proofs.Common.{refl, rules, tests, ap, ◌∙◌, ◌≡◌, ◌+◌, ◌-◌, ℕ, eq-eqb, ne_eqb, arith}
use Rattle.model.specs.State.{max_slots}
use Rattle.layout.specs.Layout.{load}
use Rattle.lookup.specs.Scan.{ended_of}
use Rattle.lookup.specs.Code.{frame_next}
use Rattle.lookup.specs.Walks.{scan_first, scan_took, scan_past, scan_end}
use Rattle.lookup.proofs.scan.Goals as goal

-- The check does not find these alone: `scan_took`, `scan_past` and `scan_end` have variables that no goal of the loop shows.
pub overflow_add-start : goal.overflow_add-start
unfolding max_slots
overflow_add-start c = omega (arith, c.table_length-length.ensures, c.min-start.ensures)

pub loop-at-init : goal.loop-at-init
loop-at-init c = (omega arith, λ h n. c.frame_link-fr.ensures, scan_first _ _ _ _ _ (search (rules, tests)))

pub returns-then-len-ge-SCAN_ENTRIES-clause-page : goal.returns-then-len-ge-SCAN_ENTRIES-clause-page
returns-then-len-ge-SCAN_ENTRIES-clause-page c = scan_end _ _ _ _ _ _ _ _ c.loop-at.invariant.2 c.args.cursor _ _ c.table_length-length.ensures c.min-start.ensures (omega (arith, c.min-start.ensures, c.min-stop.ensures)) c.ended.ensures (λ h. c.if-len-ge-SCAN_ENTRIES.true)

pub loop-at-preserved-then-tag-ne-TAG_OCCUPIED : goal.loop-at-preserved-then-tag-ne-TAG_OCCUPIED
unfolding max_slots
loop-at-preserved-then-tag-ne-TAG_OCCUPIED c =
    let e : c.min-stop.result - (c.loop-at.at + 1) ≡ c.min-stop.result - c.loop-at.at - 1 = omega arith in (
      omega arith,
      λ h. frame_next (load c.args.s.now c.args.sh) c.args.b _ _ (omega (arith, c.table_length-length.ensures, c.min-stop.ensures)) c.frame_on-fr.ensures,
      rw e (scan_past _ _ _ _ _ _ _ _ c.loop-at.invariant.2 (omega arith) (omega arith) _ _ _ c.frame_on-fr.ensures c.frame_word-tag.ensures refl (ne_eqb _ _ c.if-tag-ne-TAG_OCCUPIED.true)),
    )

pub loop-at-preserved : goal.loop-at-preserved
unfolding max_slots
loop-at-preserved c =
    let e : c.min-stop.result - (c.loop-at.at + 1) ≡ c.min-stop.result - c.loop-at.at - 1 = omega arith in (
      omega arith,
      λ h. frame_next (load c.args.s.now c.args.sh) c.args.b _ _ (omega (arith, c.table_length-length.ensures, c.min-stop.ensures)) c.frame_on-fr.ensures,
      rw e (scan_took _ _ _ _ _ _ _ _ c.loop-at.invariant.2 (omega arith) (omega arith) _ _ _ c.frame_on-fr.ensures c.frame_word-tag.ensures refl _ _ _ (eq-eqb _ _ c.if-tag-ne-TAG_OCCUPIED.false) c.head_word-mask.ensures c.cell_in-w.ensures c.snapshot_by.ensures),
    )

pub returns-clause-page : goal.returns-clause-page
returns-clause-page c =
    let e : c.min-stop.result ≡ c.loop-at.at = omega (arith, c.min-start.ensures, c.min-stop.ensures) in
    scan_end _ _ _ _ _ _ _ _ c.loop-at.invariant.2 c.args.cursor _ _ c.table_length-length.ensures c.min-start.ensures (omega (arith, c.min-start.ensures, c.min-stop.ensures))
    (c.ended-2.ensures ∙ ap (λ (x : ℕ). ended_of c.loop-at.entries c.loop-at.len c.min-start.result x c.table_length-length.result) e) (λ h. absurd (omega arith))
