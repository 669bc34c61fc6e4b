use Rattle.std.proofs.Common.{arith}
use Rattle.uses.proofs.Places.{operands_few}
use Rattle.tree.proofs.Places.{inherit_on, inherit_end}
use Rattle.tree.proofs.scopes.Goals as goal

pub inherit_first-requires : goal.inherit_first-requires
inherit_first-requires c = (omega arith, operands_few _ c.first_operands.ensures)

pub loop-e-preserved : goal.loop-e-preserved
loop-e-preserved c = (inherit_on _ _ _ _ _ c.loop-e-test.true c.get_or-head.ensures c.inherit_last.ensures.0 c.first_operands.ensures c.inherit_first.ensures.0 c.loop-e.invariant.0, inherit_on _ _ _ _ _ c.loop-e-test.true c.get_or-head.ensures c.inherit_last.ensures.1 c.first_operands.ensures c.inherit_first.ensures.1 c.loop-e.invariant.1)

pub returns : goal.returns
returns c = (inherit_end _ _ _ _ _ c.loop-e-test.false c.loop-e.invariant.0, inherit_end _ _ _ _ _ c.loop-e-test.false c.loop-e.invariant.1)
