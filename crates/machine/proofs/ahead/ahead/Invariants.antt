use Rattle.machine.proofs.Marks.{AheadTo}
use Rattle.machine.proofs.ahead.ahead.Given as goal

abbrev pub invariant-loop-f : goal.invariant-loop-f
invariant-loop-f l = AheadTo l.live l.count l.a l.f
