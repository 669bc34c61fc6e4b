use Rattle.std.proofs.Common.{◌∙◌, refl, true, false}
use Rattle.uses.specs.Passes.{before, is_new}
use Rattle.uses.proofs.Loops.{search_start, search_on, search_hit, search_end, var_on, name_on, new_is, skip_bound, skip_new}
use Rattle.uses.proofs.rebound.Goals as goal

pub loop-e-init : goal.loop-e-init
unfolding before
loop-e-init c = (refl, refl, search_start _ _)

pub loop-e-preserved-then-not-is_binder : goal.loop-e-preserved-then-not-is_binder
loop-e-preserved-then-not-is_binder c = (skip_bound false _ _ c.loop-e.invariant.0 c.get_or-head.ensures c.is_binder.ensures c.if-not-is_binder.true, skip_bound true _ _ c.loop-e.invariant.1 c.get_or-head.ensures c.is_binder.ensures c.if-not-is_binder.true, search_on (is_new _) _ _ c.loop-e-test.true (skip_new _ _ c.get_or-head.ensures c.is_binder.ensures c.if-not-is_binder.true) c.loop-e.invariant.2)

pub returns-then-not-is_new : goal.returns-then-not-is_new
returns-then-not-is_new c = rw (c.refused.ensures.number, c.refused.ensures.place) (search_hit (is_new _) _ _ 9 c.loop-e-test.true (new_is _ _ c.loop-e.invariant.0 c.loop-e.invariant.1 c.get_or-head.ensures c.is_new.ensures ∙ c.if-not-is_new.true) c.loop-e.invariant.2)

pub loop-e-preserved : goal.loop-e-preserved
loop-e-preserved c = (var_on _ _ c.loop-e.invariant.0 c.get_or-head.ensures c.bound_var.ensures c.single-vars.ensures, name_on _ _ c.loop-e.invariant.1 c.get_or-head.ensures c.bound_name.ensures c.single-locals.ensures, search_on (is_new _) _ _ c.loop-e-test.true (new_is _ _ c.loop-e.invariant.0 c.loop-e.invariant.1 c.get_or-head.ensures c.is_new.ensures ∙ c.if-not-is_new.false) c.loop-e.invariant.2)

pub returns : goal.returns
returns c = search_end (is_new _) _ _ 9 c.loop-e-test.false c.loop-e.invariant.2
