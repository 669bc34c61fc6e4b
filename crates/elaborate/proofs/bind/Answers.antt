use mathlib.Core.Path.{◌∙◌}
use native.Mathlib.Omega.{arith}
use Rattle.elaborate.specs.Binders.{bound}
use Rattle.elaborate.proofs.Laws.{bound_turn, bound_end, bound_extends}
use Rattle.elaborate.proofs.bind.Goals as goal

pub loop-i-preserved : goal.loop-i-preserved
loop-i-preserved c = (omega (arith, bound_extends c.binder_at-b.result (bound c.loop-i.count c.loop-i.types c.loop-i.vars) _ c.bind_one-count.ensures), c.bind_one-count.auto.types ∙ c.loop-i.invariant.1, bound_turn _ _ _ _ _ c.loop-i-test.true c.loop-i.invariant.2 c.binder_at-b.ensures c.bind_one-count.ensures)

pub returns : goal.returns
returns c = (omega (arith, c.ranges.cmds, c.ranges.n), bound_end _ _ _ _ _ c.loop-i-test.false c.loop-i.invariant.2)
