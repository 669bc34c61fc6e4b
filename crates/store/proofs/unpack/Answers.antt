use Rattle.store.specs.Words.{word_in}
use Rattle.store.proofs.unpack.Goals as goal

pub returns : goal.returns
unfolding word_in
returns c = simp c.kind_of.ensures
