use Rattle.machine.proofs.Marks.{ahead_none, ahead_more, ahead_all}
use Rattle.machine.proofs.ahead.ahead.Goals as goal

pub loop-f-init : goal.loop-f-init
loop-f-init c = ahead_none _ _

pub loop-f-preserved : goal.loop-f-preserved
loop-f-preserved c = ahead_more c.loop-f.invariant c.loop-f-test.true c.known.ensures

pub returns : goal.returns
returns c = ahead_all c.loop-f.invariant c.loop-f-test.false
