use Rattle.std.proofs.Common.{◌∙◌, sym}
use Rattle.uses.specs.Passes.{right_count}
use Rattle.uses.proofs.Loops.{search_on, search_hit, search_end}
use Rattle.uses.proofs.misused.Goals as goal

pub returns-then-not-right_count : goal.returns-then-not-right_count
unfolding right_count
returns-then-not-right_count c = rw (c.refused.ensures.number, c.refused.ensures.place) (search_hit (right_count c.args.counts.now c.args.cmds) _ _ 8 c.loop-e-test.true (sym c.right_count.ensures ∙ c.if-not-right_count.true) c.loop-e.invariant)

pub loop-e-preserved : goal.loop-e-preserved
unfolding right_count
loop-e-preserved c = search_on (right_count c.args.counts.now c.args.cmds) _ _ c.loop-e-test.true (sym c.right_count.ensures ∙ c.if-not-right_count.false) c.loop-e.invariant

pub returns : goal.returns
returns c = search_end (right_count c.args.counts.now c.args.cmds) _ _ 8 c.loop-e-test.false c.loop-e.invariant
