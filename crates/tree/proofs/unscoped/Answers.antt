use Rattle.std.proofs.Common.{◌∙◌}
use Rattle.tree.specs.Passes.{is_scoped}
use Rattle.uses.proofs.Loops.{search_on, search_hit, search_end}
use Rattle.tree.proofs.Loops.{scoped_not, scoped_is}
use Rattle.tree.proofs.unscoped.Goals as goal
use Rattle.tree.proofs.unscoped.Goals.{then-not-var_fits-via-then-not-var_fits, then-not-var_fits-via-else-not-var_fits+then-not-within}

pub returns-then-not-var_fits : goal.returns-then-not-var_fits
returns-then-not-var_fits c =
    rw (c.refused.ensures.number, c.refused.ensures.place) (search_hit (is_scoped c.args.heads.now c.args.slots.now c.args.masks.now c.args.vars.now c.args.locals.now) _ _ 10 c.loop-e-test.true
    (elim c.then-not-var_fits.branch [
      | then-not-var_fits-via-then-not-var_fits w ↦ scoped_not _ _ _ _ _ _ c.get_or-head.ensures c.var_fits.ensures w.if-not-var_fits.true
      | then-not-var_fits-via-else-not-var_fits+then-not-within w ↦ scoped_is _ _ _ _ _ _ c.get_or-head.ensures c.var_fits.ensures w.if-not-var_fits.false w.operand_names.ensures w.within.ensures ∙ w.if-not-within.true
    ])
    c.loop-e.invariant)

pub loop-e-preserved : goal.loop-e-preserved
loop-e-preserved c = search_on (is_scoped c.args.heads.now c.args.slots.now c.args.masks.now c.args.vars.now c.args.locals.now) _ _ c.loop-e-test.true (scoped_is _ _ _ _ _ _ c.get_or-head.ensures c.var_fits.ensures c.if-not-var_fits.false c.operand_names.ensures c.within.ensures ∙ c.if-not-within.false) c.loop-e.invariant

pub returns : goal.returns
returns c = search_end (is_scoped c.args.heads.now c.args.slots.now c.args.masks.now c.args.vars.now c.args.locals.now) _ _ 10 c.loop-e-test.false c.loop-e.invariant
