use Rattle.std.proofs.Common.{sym, ap, ◌∙◌}
use Rattle.order.specs.Sets.{members, all_of}
use Rattle.names.specs.declared.Members.{Members}
use Rattle.names.specs.Ancestors.{eff_below_by, meets_by}
use Rattle.names.proofs.Walk.{all_on, all_off, all_end, names_members}
use Rattle.names.proofs.eff_below.Goals as goal

pub loop-n-init : goal.loop-n-init
unfolding eff_below_by
loop-n-init c = ap (all_of (meets_by c.args.anc.now c.args.t)) (names_members _ ∙ ap members (sym c.proper.ensures) ∙ ap (λ (m : Members). members m.0) (sym c.into_iter-n-iterator.ensures.into_iter_gives))

pub returns-then-not-meets : goal.returns-then-not-meets
returns-then-not-meets c = all_off _ c.loop-n.invariant c.in-Some.ensures.steps c.meets.ensures c.if-not-meets.true

pub loop-n-preserved : goal.loop-n-preserved
loop-n-preserved c = all_on _ c.loop-n.invariant c.in-Some.ensures.steps c.meets.ensures c.if-not-meets.false

pub returns : goal.returns
returns c = all_end _ c.loop-n.invariant c.in-None.ensures.steps.0
