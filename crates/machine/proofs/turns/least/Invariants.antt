use Rattle.machine.proofs.Lefts.{LeastTo}
use Rattle.machine.proofs.turns.least.Given as goal

abbrev pub invariant-loop-i : goal.invariant-loop-i
invariant-loop-i l = LeastTo l.live l.rest l.most l.n l.i
