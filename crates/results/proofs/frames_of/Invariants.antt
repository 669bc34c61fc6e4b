use Rattle.results.proofs.Told.{Summing}
use Rattle.results.proofs.frames_of.Given as goal

abbrev pub invariant-loop-i : goal.invariant-loop-i
invariant-loop-i l = Summing l.threads l.sum l.i
