use Rattle.std.proofs.Common.{◌∙◌}
use Rattle.cases.specs.Cases.{answer_length}
use Rattle.cases.proofs.answer_length.Goals as goal

pub returns : goal.returns
unfolding answer_length
returns c = c.get_or.ensures ∙ simp c.job_length-n.ensures
