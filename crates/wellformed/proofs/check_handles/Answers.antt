use Rattle.std.proofs.Common.{refl, arith}
use Rattle.wellformed.proofs.Bodies.{check_kept, check_answer}
use Rattle.wellformed.proofs.check_handles.Goals as goal

-- The check does not find these alone: `check_kept` and `check_answer` take facts of three calls.
pub returns-clause-kept : goal.returns-clause-kept
returns-clause-kept c = check_kept c.args.s.now c.args.sh c.requires.sh_value.0 c.args.used c.requires.sh_value.1 _ _ _ c.walk_slots-slots.ensures.noted (c.note_rows-top.ensures.noted, c.note_rows-top.ensures.reached) _ c.settle-counted.ensures.words

pub returns-clause-answer : goal.returns-clause-answer
returns-clause-answer c =
    check_answer c.args.s.now c.args.sh c.requires.sh_value.0 c.args.used c.requires.sh_value.1 _ _ _ c.walk_slots-slots.ensures.noted (c.note_rows-top.ensures.noted, c.note_rows-top.ensures.reached)
    c.requires.sh_in_bounds _ _ _ (omega arith) (omega arith) c.walk_slots-slots.ensures.answer c.settle-counted.ensures.answer refl
