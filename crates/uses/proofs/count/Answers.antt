use Rattle.std.proofs.Common.{arith}
use Rattle.uses.proofs.Places.{count_on, count_end, operands_few}
use Rattle.uses.proofs.count.Goals as goal

pub tally_first-requires : goal.tally_first-requires
tally_first-requires c = (omega arith, operands_few _ c.first_operands.ensures)

pub loop-e-preserved : goal.loop-e-preserved
loop-e-preserved c = count_on _ _ _ _ c.loop-e-test.true c.get_or-head.ensures c.tally_last.ensures c.first_operands.ensures c.tally_first.ensures c.loop-e.invariant

pub returns : goal.returns
returns c = count_end _ _ _ _ c.loop-e-test.false c.loop-e.invariant
