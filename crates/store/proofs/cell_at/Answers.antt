use Rattle.store.specs.Words.{cell_in}
use Rattle.store.proofs.cell_at.Goals as goal

pub returns : goal.returns
unfolding cell_in
returns c = simp (← c.get_or.ensures) c.unpack.ensures
