use Rattle.store.specs.Words.{word_in}
use Rattle.store.specs.Frames.{held_in}
use mathlib.Core.Path.{ap}
use Rattle.store.proofs.held_at.Goals as goal

pub returns : goal.returns
unfolding held_in
returns c = ap word_in c.get_or.ensures
