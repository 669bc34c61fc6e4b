use Rattle.std.proofs.Common.{refl, arith}
use Rattle.cases.proofs.Counting.{job_part, answer_part, answer_fits, whole_agrees, cut_agrees}
use Rattle.cases.proofs.agrees.Goals as goal

pub slice_bounds-prints-end : goal.slice_bounds-prints-end
slice_bounds-prints-end c = let h = answer_fits _ _ _ c.job_length.ensures c.case_length-end.ensures in omega arith

pub slice_bounds-prints-count-then-end-file : goal.slice_bounds-prints-count-then-end-file
slice_bounds-prints-count-then-end-file c = let h = answer_fits _ _ _ c.job_length.ensures c.case_length-end.ensures in omega arith

pub slice_bounds-prints-start-then-end-file : goal.slice_bounds-prints-start-then-end-file
slice_bounds-prints-start-then-end-file c = let h = answer_fits _ _ _ c.job_length.ensures c.case_length-end.ensures in omega arith

pub returns-then-end-file : goal.returns-then-end-file
returns-then-end-file c =
    whole_agrees _ _ _ _ _ c.case_length-end.ensures c.if-end-file.true c.prints.ensures
    (job_part _ _ _ c.job_length.ensures refl)
    (answer_part _ _ _ _ c.job_length.ensures (omega arith) c.case_length-end.ensures)

pub returns : goal.returns
returns c = cut_agrees _ _ c.case_length-end.ensures c.if-end-file.false
