use Rattle.std.proofs.Common.{◌≡◌, ◌*◌}
use Rattle.uses.specs.Passes.{counted}
use Rattle.uses.proofs.count.Given as goal

abbrev pub invariant-loop-e : goal.invariant-loop-e
invariant-loop-e l = counted l.heads l.slots (l.cmds * 5) l.initial.counts ≡ counted l.heads l.slots (l.e * 5) l.counts
