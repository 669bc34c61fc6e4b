use mathlib.Core.Path.{◌≡◌}
use Prim.Native.Nat.{◌-◌}
use Rattle.elaborate.specs.Binders.{hosts_from}
use Rattle.elaborate.proofs.hosts.Given as goal

abbrev pub invariant-loop-i : goal.invariant-loop-i
invariant-loop-i l = hosts_from l.values l.n 0 l.initial.vars ≡ hosts_from l.values (l.n - l.i) l.i l.vars
