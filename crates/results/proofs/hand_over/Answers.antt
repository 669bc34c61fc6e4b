use Rattle.semantics.specs.Threads.{value_of}
use Rattle.results.specs.Values.{value_words}
use Rattle.results.proofs.Values.{cells_told}
use Rattle.results.proofs.hand_over.Goals as goal

pub returns : goal.returns
unfolding value_words value_of
returns c = record { value = c.put_value.ensures; cells = cells_told c.args.m _ _ c.cap.ensures.0 c.put_cells.ensures }
