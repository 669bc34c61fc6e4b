use Rattle.store.specs.Words.{function_in}
use Rattle.store.proofs.closure_at.Goals as goal

pub returns : goal.returns
unfolding function_in
returns c = simp (← c.get_or-w.ensures)
