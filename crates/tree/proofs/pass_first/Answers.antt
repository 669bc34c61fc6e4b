use Rattle.uses.proofs.Places.{first_end}
use Rattle.tree.proofs.Places.{pass_next}
use Rattle.tree.proofs.pass_first.Goals as goal

pub loop-i-preserved : goal.loop-i-preserved
loop-i-preserved c = (pass_next _ _ _ _ c.loop-i-test.true c.get_or.ensures c.pass.ensures.0 c.loop-i.invariant.0, pass_next _ _ _ _ c.loop-i-test.true c.get_or.ensures c.pass.ensures.1 c.loop-i.invariant.1)

pub returns : goal.returns
returns c = (first_end _ _ _ c.loop-i-test.false c.loop-i.invariant.0, first_end _ _ _ c.loop-i-test.false c.loop-i.invariant.1)
