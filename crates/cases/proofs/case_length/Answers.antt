use Rattle.cases.specs.Cases.{case_length}
use Rattle.cases.proofs.case_length.Goals as goal

pub returns : goal.returns
unfolding case_length
returns c = simp (c.answer_length-answer.ensures, c.job_length-job.ensures)
