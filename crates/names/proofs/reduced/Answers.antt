use Rattle.std.proofs.Common.{rules, sym, ap, subst}
use Rattle.order.specs.Sets.{members, all_of}
use Rattle.names.specs.declared.Members.{Members}
use Rattle.names.specs.Ancestors.{reduced_by, maximal_by}
use Rattle.names.proofs.Walk.{Small, small_members, small_head, small_tail, all_on, all_off, all_end}
use Rattle.names.proofs.reduced.Goals as goal

pub loop-n-init : goal.loop-n-init
unfolding reduced_by
loop-n-init c = let e = ap (λ (m : Members). members m.0) (sym c.into_iter-n-iterator.ensures.into_iter_gives) in (ap (all_of (maximal_by c.args.anc.now c.args.s)) e, subst Small e (small_members c.args.s (search rules)))

pub maximal-requires : goal.maximal-requires
maximal-requires c = small_head c.in-Some.ensures.steps c.loop-n.invariant.1

pub returns-then-not-maximal : goal.returns-then-not-maximal
returns-then-not-maximal c = all_off _ c.loop-n.invariant.0 c.in-Some.ensures.steps c.maximal.ensures c.if-not-maximal.true

pub loop-n-preserved : goal.loop-n-preserved
loop-n-preserved c = (all_on _ c.loop-n.invariant.0 c.in-Some.ensures.steps c.maximal.ensures c.if-not-maximal.false, small_tail c.in-Some.ensures.steps c.loop-n.invariant.1)

pub returns : goal.returns
returns c = all_end _ c.loop-n.invariant.0 c.in-None.ensures.steps.0
