use Rattle.results.proofs.Told.{summing_start, summing_on, summing_end}
use Rattle.results.proofs.frames_of.Goals as goal

pub loop-i-init : goal.loop-i-init
loop-i-init c = summing_start _

pub loop-i-preserved : goal.loop-i-preserved
loop-i-preserved c = summing_on _ c.cap-sum.ensures c.loop-i.invariant

pub returns : goal.returns
returns c = summing_end c.loop-i-test.false c.loop-i.auto.i-end c.loop-i.invariant
