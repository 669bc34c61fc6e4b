use Rattle.std.proofs.Common.{◌≡◌, ◌*◌, true, false}
use Rattle.tree.specs.Passes.{inherited_down}
use Rattle.tree.proofs.scopes.Given as goal

abbrev pub invariant-loop-e : goal.invariant-loop-e
invariant-loop-e l = (inherited_down false l.heads l.slots (l.cmds * 5) l.initial.vars ≡ inherited_down false l.heads l.slots (l.e * 5) l.vars) × (inherited_down true l.heads l.slots (l.cmds * 5) l.initial.locals ≡ inherited_down true l.heads l.slots (l.e * 5) l.locals)
