use Rattle.store.specs.Frames.{head_at}
use Rattle.store.proofs.head_at.Goals as goal

pub returns : goal.returns
unfolding head_at
returns c = simp (c.get_or-2.ensures, c.get_or.ensures, c.get_or-w.ensures)
