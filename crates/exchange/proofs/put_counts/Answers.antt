use Rattle.exchange.specs.Exchanges.{laid_counts}
use Rattle.exchange.proofs.put_counts.Goals as goal

pub returns : goal.returns
unfolding laid_counts
returns c = simp (c.set_at-5.ensures, c.set_at-4.ensures, c.set_at-3.ensures, c.set_at-2.ensures, c.set_at.ensures)
