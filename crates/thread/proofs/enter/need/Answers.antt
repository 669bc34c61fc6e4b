use Rattle.thread.proofs.Mores.{works_min}
use Rattle.thread.proofs.enter.need.Goals as goal

pub returns-in-60-clause-works : goal.returns-in-60-clause-works
returns-in-60-clause-works c = works_min _ _ _ c.in-60.is c.min.ensures
