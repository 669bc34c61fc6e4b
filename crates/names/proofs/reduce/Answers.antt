use Rattle.std.proofs.Common.{rules, sym, ap, ◌∙◌, subst}
use lib.Bits.{or_zero_l}
use Rattle.order.specs.Sets.{members, set_of, keep}
use Rattle.names.specs.declared.Members.{Members}
use Rattle.names.specs.Ancestors.{reduce_by, maximal_by}
use Rattle.names.proofs.Walk.{Small, small_members, small_head, small_tail, keep_turn, keep_end}
use Rattle.names.proofs.reduce.Goals as goal

pub loop-n-init : goal.loop-n-init
unfolding reduce_by
loop-n-init c = let e = ap (λ (m : Members). members m.0) (sym c.into_iter-n-iterator.ensures.into_iter_gives) in (ap (λ l. set_of (keep (maximal_by c.args.anc.now c.args.s) l)) e ∙ sym (or_zero_l _), subst Small e (small_members c.args.s (search rules)))

pub maximal-requires : goal.maximal-requires
maximal-requires c = small_head c.in-Some.ensures.steps c.loop-n.invariant.1

pub loop-n-preserved : goal.loop-n-preserved
loop-n-preserved c = (keep_turn (maximal_by c.args.anc.now c.args.s) _ c.loop-n.invariant.0 (small_head c.in-Some.ensures.steps c.loop-n.invariant.1) c.in-Some.ensures.steps c.maximal.ensures c.single_if-acc.ensures, small_tail c.in-Some.ensures.steps c.loop-n.invariant.1)

pub returns : goal.returns
returns c = keep_end _ _ c.loop-n.invariant.0 c.in-None.ensures.steps.0
