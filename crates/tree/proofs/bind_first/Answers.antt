use Rattle.uses.proofs.Places.{first_end}
use Rattle.tree.proofs.Places.{inherit_next}
use Rattle.tree.proofs.bind_first.Goals as goal

pub loop-i-preserved : goal.loop-i-preserved
loop-i-preserved c = (inherit_next _ _ _ _ _ _ c.loop-i-test.true c.get_or.ensures c.inherit.ensures.0 c.loop-i.invariant.0, inherit_next _ _ _ _ _ _ c.loop-i-test.true c.get_or.ensures c.inherit.ensures.1 c.loop-i.invariant.1)

pub returns : goal.returns
returns c = (first_end _ _ _ c.loop-i-test.false c.loop-i.invariant.0, first_end _ _ _ c.loop-i-test.false c.loop-i.invariant.1)
