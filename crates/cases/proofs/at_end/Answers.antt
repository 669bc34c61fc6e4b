use Rattle.std.proofs.Common.{eq-eqb, ne_eqb}
use Rattle.cases.specs.Cases.{at_end}
use Rattle.cases.proofs.at_end.Goals as goal

pub returns-then-file-eq0 : goal.returns-then-file-eq0
unfolding at_end
returns-then-file-eq0 c = simp (eq-eqb _ _ c.if-file-eq0.true)

pub returns-else-file-eq0 : goal.returns-else-file-eq0
unfolding at_end
returns-else-file-eq0 c = simp (ne_eqb _ _ c.if-file-eq0.false, ← c.job_length.ensures)
