use mathlib.Core.Path.{◌∙◌}
use native.Mathlib.Omega.{arith}
use Rattle.elaborate.specs.Pass.{work, result_by}
use Rattle.elaborate.proofs.Laws.{count_le, type_turn, type_stop, type_end, ended}
use Rattle.elaborate.proofs.type_all.Goals as goal

pub returns-in-Err : goal.returns-in-Err
unfolding result_by
returns-in-Err c = ended (type_stop c.args.anc.now c.args.names.now c.args.vars.now c.args.heads.now c.args.slots.now c.args.cmds c.loop-e.e (work c.loop-e.count c.loop-e.types c.loop-e.sets c.loop-e.entries c.loop-e.effects) c.loop-e.invariant.5 c.loop-e-test.true _ simp (← c.short.ensures) c.in-Err.ensures.0)

pub loop-e-preserved : goal.loop-e-preserved
unfolding result_by
loop-e-preserved c = (omega (arith, count_le c.in-Ok.typing _ _ c.settle-count.ensures.0), c.settle-count.auto.types ∙ c.loop-e.invariant.1, c.settle-count.auto.sets ∙ c.loop-e.invariant.2, c.settle-count.auto.entries ∙ c.loop-e.invariant.3, c.settle-count.auto.effects ∙ c.loop-e.invariant.4, type_turn c.args.anc.now c.args.names.now c.args.vars.now c.args.heads.now c.args.slots.now c.args.cmds c.loop-e.e (work c.loop-e.count c.loop-e.types c.loop-e.sets c.loop-e.entries c.loop-e.effects) c.loop-e.invariant.5 c.loop-e-test.true c.in-Ok.typing simp (← c.short.ensures) c.in-Ok.ensures.0 c.settle-count.ensures.0, c.settle-count.auto.known ∙ c.result.auto.known ∙ c.loop-e.invariant.6, c.settle-count.ensures.1.right _ c.in-Ok.ensures.1)

pub returns : goal.returns
returns c = ended (type_end c.args.anc.now c.args.names.now c.args.vars.now c.args.heads.now c.args.slots.now c.args.cmds c.loop-e.e (work c.loop-e.count c.loop-e.types c.loop-e.sets c.loop-e.entries c.loop-e.effects) c.loop-e-test.false c.loop-e.invariant.5)
