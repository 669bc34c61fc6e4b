use mathlib.Core.Path.{◌≡◌}
use Prim.Native.Nat.{◌≤◌, ◌+◌, ◌-◌, ◌*◌}
use lib.ListN.{length}
use Rattle.elaborate.specs.Binders.{bound, bound_from}
use Rattle.elaborate.proofs.bind.Given as goal

abbrev pub invariant-loop-i : goal.invariant-loop-i
invariant-loop-i l = (l.count ≤ l.n + 3 * l.i) × (length l.types ≡ length l.initial.types) × (bound_from l.heads l.slots l.cmds 0 (bound l.n l.initial.types l.initial.vars) ≡ bound_from l.heads l.slots (l.cmds - l.i) l.i (bound l.count l.types l.vars))
