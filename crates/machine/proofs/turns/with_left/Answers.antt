use Rattle.machine.proofs.Lefts.{left_none, left_more, left_all}
use Rattle.machine.proofs.turns.with_left.Goals as goal

pub loop-i-init : goal.loop-i-init
loop-i-init c = left_none _ _

pub loop-i-preserved : goal.loop-i-preserved
loop-i-preserved c = left_more c.loop-i.invariant c.loop-i-test.true c.kept.ensures

pub returns : goal.returns
returns c = left_all c.requires.0 c.requires.1 c.loop-i.invariant c.loop-i-test.false
