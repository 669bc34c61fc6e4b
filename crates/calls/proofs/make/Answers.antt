use Rattle.calls.proofs.Going.{made_step, made_run}
use Rattle.calls.proofs.make.Goals as goal

pub returns-then-get_or-eq0 : goal.returns-then-get_or-eq0
returns-then-get_or-eq0 c = made_step _ _ _ _ c.get_or.ensures c.if-get_or-eq0.true c.step.ensures

pub returns-else-get_or-eq0 : goal.returns-else-get_or-eq0
returns-else-get_or-eq0 c = made_run _ _ _ _ c.get_or.ensures c.if-get_or-eq0.false c.allowances.ensures c.run.ensures
