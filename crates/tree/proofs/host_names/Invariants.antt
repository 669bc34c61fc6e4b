use Rattle.std.proofs.Common.{◌≡◌}
use Rattle.tree.specs.Passes.{host_names}
use Rattle.tree.proofs.host_names.Given as goal

abbrev pub invariant-loop-i : goal.invariant-loop-i
invariant-loop-i l = l.s ≡ host_names l.names l.i
