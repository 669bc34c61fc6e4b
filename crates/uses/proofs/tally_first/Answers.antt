use Rattle.uses.proofs.Places.{tally_next, first_end}
use Rattle.uses.proofs.tally_first.Goals as goal

pub loop-i-preserved : goal.loop-i-preserved
loop-i-preserved c = tally_next _ _ _ _ c.loop-i-test.true c.get_or.ensures c.tally.ensures c.loop-i.invariant

pub returns : goal.returns
returns c = first_end _ _ _ c.loop-i-test.false c.loop-i.invariant
