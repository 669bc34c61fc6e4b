use Rattle.std.proofs.Common.{length}
use Rattle.cases.proofs.Counting.{Loop}
use Rattle.cases.proofs.count.Given as goal

abbrev pub invariant-loop-left : goal.invariant-loop-left
invariant-loop-left l = Loop l.file l.left l.agree l.differ

abbrev pub decreases-loop-left : goal.decreases-loop-left
decreases-loop-left l = length l.left
