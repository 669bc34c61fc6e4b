use Rattle.machine.proofs.Lefts.{TakenTo}
use Rattle.machine.proofs.run.taken.Given as goal

abbrev pub invariant-loop-i : goal.invariant-loop-i
invariant-loop-i l = TakenTo l.fn.allow l.rest l.counts l.i
