use Rattle.std.proofs.Common.{◌≡◌, ◌-◌, true, false}
use Rattle.syntax.specs.Tree.{first_bad}
use Rattle.uses.specs.Passes.{before, is_new}
use Rattle.uses.proofs.rebound.Given as goal

abbrev pub invariant-loop-e : goal.invariant-loop-e
invariant-loop-e l = (l.vars ≡ before false l.heads l.e) × (l.locals ≡ before true l.heads l.e) × (first_bad (is_new l.heads) 0 l.cmds ≡ first_bad (is_new l.heads) l.e (l.cmds - l.e))
