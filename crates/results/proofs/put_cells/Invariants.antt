use Rattle.store.specs.Words.{cell_in}
use Rattle.store.specs.Tables.{list_of}
use Rattle.results.proofs.Values.{Writing}
use Rattle.results.proofs.put_cells.Given as goal

abbrev pub invariant-loop-i : goal.invariant-loop-i
invariant-loop-i l = Writing (list_of cell_in l.table l.used) l.initial.cells l.cells l.i
