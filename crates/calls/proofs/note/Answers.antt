use Rattle.calls.proofs.Going.{noted_in, noted_past}
use Rattle.calls.proofs.note.Goals as goal

pub returns-then-at-answers : goal.returns-then-at-answers
returns-then-at-answers c = noted_in _ _ _ c.if-at-answers.true

pub returns-else-at-answers : goal.returns-else-at-answers
returns-else-at-answers c = noted_past _ _ _ c.if-at-answers.false
