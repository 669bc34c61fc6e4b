use Rattle.store.specs.Words.{pair_in}
use Rattle.store.proofs.pair_at.Goals as goal

pub returns : goal.returns
unfolding pair_in
returns c = simp (← c.unpack-2.ensures, ← c.get_or-2.ensures, ← c.unpack.ensures, ← c.get_or.ensures)
