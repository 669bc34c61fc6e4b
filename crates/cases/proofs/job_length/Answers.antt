use Rattle.std.proofs.Common.{◌∙◌}
use Rattle.cases.specs.Cases.{job_length}
use Rattle.cases.proofs.job_length.Goals as goal

pub returns : goal.returns
unfolding job_length
returns c = c.from_le_bytes.ensures ∙ simp (c.get_or.ensures, c.get_or-2.ensures)
