use Rattle.cases.proofs.Counting.{after_part, after_none}
use Rattle.cases.proofs.after.Goals as goal

pub returns-then-n-file : goal.returns-then-n-file
returns-then-n-file c = after_part _ _ c.case_length-n.ensures

pub returns-else-n-file : goal.returns-else-n-file
returns-else-n-file c = after_none _ _ c.case_length-n.ensures c.if-n-file.false
