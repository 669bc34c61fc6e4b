use Rattle.results.proofs.Values.{writing_start, writing_on, writing_end}
use Rattle.results.proofs.put_cells.Goals as goal

pub loop-i-init : goal.loop-i-init
loop-i-init c = writing_start _ _

pub loop-i-preserved : goal.loop-i-preserved
loop-i-preserved c = writing_on _ c.loop-i-test.true c.cells-1.given c.put_cell.ensures c.loop-i.invariant

pub shape_of-cells : goal.shape_of-cells
shape_of-cells c = c.loop-i.invariant.same

pub returns : goal.returns
returns c = writing_end c.loop-i-test.false c.loop-i.invariant
