use Rattle.std.proofs.Common.{◌≡◌, ◌-◌}
use Rattle.syntax.specs.Tree.{first_bad}
use Rattle.tree.specs.Passes.{is_scoped}
use Rattle.tree.proofs.unscoped.Given as goal

abbrev pub invariant-loop-e : goal.invariant-loop-e
invariant-loop-e l = first_bad (is_scoped l.heads l.slots l.masks l.vars l.locals) 0 l.cmds ≡ first_bad (is_scoped l.heads l.slots l.masks l.vars l.locals) l.e (l.cmds - l.e)
