use Rattle.names.proofs.Walk.{all_on, all_off, all_end}
use Rattle.names.proofs.all_host.Goals as goal

pub returns-then-not-is_host_name : goal.returns-then-not-is_host_name
returns-then-not-is_host_name c = all_off _ c.loop-q.invariant c.in-Some.ensures.steps c.is_host_name.ensures c.if-not-is_host_name.true

pub loop-q-preserved : goal.loop-q-preserved
loop-q-preserved c = all_on _ c.loop-q.invariant c.in-Some.ensures.steps c.is_host_name.ensures c.if-not-is_host_name.false

pub returns : goal.returns
returns c = all_end _ c.loop-q.invariant c.in-None.ensures.steps.0
