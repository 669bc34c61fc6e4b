use Rattle.machine.proofs.Lefts.{LeftTo}
use Rattle.machine.proofs.turns.with_left.Given as goal

abbrev pub invariant-loop-i : goal.invariant-loop-i
invariant-loop-i l = LeftTo l.live l.rest l.left l.i
