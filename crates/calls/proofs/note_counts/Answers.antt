use borrow.Author.Rules.{rules}
use Rattle.calls.proofs.Going.{noting_start, noting_on, noting_end}
use Rattle.calls.proofs.note_counts.Goals as goal

pub loop-n-init : goal.loop-n-init
loop-n-init c = noting_start _ _ _

pub loop-n-preserved : goal.loop-n-preserved
loop-n-preserved c = noting_on _ _ (search rules) c.loop-n-test.true c.note-next.ensures c.loop-n.invariant

pub shape_of-answers : goal.shape_of-answers
shape_of-answers c = c.loop-n.invariant.same

pub returns : goal.returns
returns c = noting_end (search rules) c.loop-n-test.false c.loop-n.invariant
