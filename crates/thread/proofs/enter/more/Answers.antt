use borrow.Author.Tests.{ne_eqb}
use Rattle.thread.proofs.Mores.{none_left}
use Rattle.thread.proofs.enter.more.Goals as goal

pub returns-else-held-eq0 : goal.returns-else-held-eq0
returns-else-held-eq0 c = rw (ne_eqb _ _ c.if-held-eq0.false) (none_left _ _ _ c.if-held-eq0.false c.if-op-eq60.false)
