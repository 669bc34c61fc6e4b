use Rattle.std.proofs.Common.{sym, ap, ◌∙◌, subst}
use lib.Bits.{or_zero_l}
use Rattle.order.specs.Sets.{members, set_of, keep}
use Rattle.names.specs.declared.Members.{Members}
use Rattle.names.specs.Ancestors.{drop_by, stays_by}
use Rattle.names.proofs.Walk.{Small, small_members, small_head, small_tail, keep_turn, keep_end, names_members}
use Rattle.names.proofs.drop_below.Goals as goal

pub loop-n-init : goal.loop-n-init
unfolding drop_by
loop-n-init c =
    let e = ap (λ (m : Members). members m.0) (sym c.into_iter-n-iterator.ensures.into_iter_gives) in
    (ap (λ l. set_of (keep (stays_by c.args.anc.now c.args.r.0) l)) (names_members _ ∙ ap members (sym c.proper.ensures) ∙ e) ∙ sym (or_zero_l _), subst Small e (small_members _ c.proper.type_inv))

pub loop-n-preserved : goal.loop-n-preserved
loop-n-preserved c = (keep_turn (stays_by c.args.anc.now c.args.r.0) _ c.loop-n.invariant.0 (small_head c.in-Some.ensures.steps c.loop-n.invariant.1) c.in-Some.ensures.steps c.stays.ensures c.single_if-acc.ensures, small_tail c.in-Some.ensures.steps c.loop-n.invariant.1)

pub returns : goal.returns
returns c = keep_end _ _ c.loop-n.invariant.0 c.in-None.ensures.steps.0
