use mathlib.Core.Path.{◌≡◌}
use Prim.Native.Nat.{◌-◌}
use Rattle.semantics.specs.Threads.{first_from}
use Rattle.machine.specs.Scheduled.{marked}
use Rattle.machine.proofs.ahead.first.Given as goal

abbrev pub invariant-loop-j : goal.invariant-loop-j
invariant-loop-j l = first_from (marked l.live) l.i (l.e - l.i) ≡ first_from (marked l.live) l.j (l.e - l.j)
