use Rattle.exchange.specs.Exchanges.{shape_in}
use Rattle.exchange.proofs.counts_in.Goals as goal

pub returns : goal.returns
unfolding shape_in
returns c = simp (← c.get_or-5.ensures, ← c.get_or-4.ensures, ← c.get_or-3.ensures, ← c.get_or-2.ensures, ← c.get_or.ensures)
