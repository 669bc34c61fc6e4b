use Rattle.calls.proofs.Going.{noted_answer}
use Rattle.calls.proofs.note_answer.Goals as goal

pub returns : goal.returns
returns c = noted_answer _ _ _ _ _ _ _ _ _ _ _ _ _ c.number.ensures c.from.ensures c.note-first.ensures c.note-second.ensures c.note_counts.ensures
