use Rattle.std.proofs.Common.{◌≡◌, ◌-◌}
use Rattle.syntax.specs.Tree.{first_bad}
use Rattle.uses.specs.Passes.{right_count}
use Rattle.uses.proofs.misused.Given as goal

abbrev pub invariant-loop-e : goal.invariant-loop-e
invariant-loop-e l = first_bad (right_count l.counts l.cmds) 0 l.cmds ≡ first_bad (right_count l.counts l.cmds) l.e (l.cmds - l.e)
