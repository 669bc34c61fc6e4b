use Rattle.results.proofs.Values.{cell_there, cell_none}
use Rattle.results.proofs.put_cell.Goals as goal

pub shape_of-cells-then-i-used : goal.shape_of-cells-then-i-used
shape_of-cells-then-i-used c = c.cells-1.given

pub returns-then-i-used : goal.returns-then-i-used
returns-then-i-used c = cell_there _ _ _ c.cell_at-v.result _ _ c.if-i-used.true c.cell_at-v.ensures (c.kind_word.ensures _) c.payload_word.ensures c.put_two.ensures

pub returns-else-i-used : goal.returns-else-i-used
returns-else-i-used c = cell_none _ _ _ c.if-i-used.false c.put_two-else-i-used.ensures
