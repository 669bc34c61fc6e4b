use Rattle.elaborate.proofs.Laws.{host_turn, host_end}
use Rattle.elaborate.proofs.hosts.Goals as goal

pub loop-i-preserved : goal.loop-i-preserved
loop-i-preserved c = host_turn _ _ _ _ c.loop-i-test.true c.loop-i.invariant c.get_or-w.ensures c.set_at.ensures

pub returns : goal.returns
returns c = host_end _ _ _ _ c.loop-i-test.false c.loop-i.invariant
