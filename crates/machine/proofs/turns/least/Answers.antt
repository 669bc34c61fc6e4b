use Rattle.machine.proofs.Lefts.{least_none, least_more, least_all}
use Rattle.machine.proofs.turns.least.Goals as goal

pub loop-i-init : goal.loop-i-init
loop-i-init c = least_none _ _ _

pub loop-i-preserved : goal.loop-i-preserved
loop-i-preserved c = least_more c.loop-i.invariant c.loop-i-test.true c.fewer-n.ensures

pub returns : goal.returns
returns c = least_all c.loop-i.invariant c.loop-i-test.false
