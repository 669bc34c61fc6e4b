use Rattle.store.specs.Meaning.{value_in}
use Rattle.acts.specs.Inner.{put_cells}
use Rattle.acts.proofs.Acts.{gave_new, cell_made, cell_full, is_full}
use Rattle.acts.proofs.State.act_cell.Goals as goal

pub returns-then-n-lt-MOST_CELLS : goal.returns-then-n-lt-MOST_CELLS
returns-then-n-lt-MOST_CELLS c = λ w. gave_new _ _ _ _ _ _ c.unkeyed.ensures c.give.ensures (cell_made c.args.back (put_cells w c.args.cells.now) (value_in c.args.x) _ c.if-n-lt-MOST_CELLS.true c.put_cell.ensures)

pub returns-else-n-lt-MOST_CELLS : goal.returns-else-n-lt-MOST_CELLS
returns-else-n-lt-MOST_CELLS c = λ w. is_full _ _ _ c.stop.ensures (cell_full c.args.back (put_cells w c.args.cells.now) (value_in c.args.x) c.if-n-lt-MOST_CELLS.false)
