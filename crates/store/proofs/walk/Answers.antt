use Rattle.store.proofs.Walks.{walk_zero, walk_here, walk_end, walk_gone, walk_on}
use Rattle.store.specs.Walk.{walk}
use Rattle.std.proofs.Common.{arith, rules, ◌+◌, ◌-◌, sym, ◌∙◌, ap}
use Rattle.store.proofs.walk.Goals as goal

pub returns-then-x-eq0 : goal.returns-then-x-eq0
returns-then-x-eq0 g c = c.any.ensures ∙ sym (c.loop.invariant.0 ∙ walk_zero _ _ _ _ _ c.if-x-eq0.true)

pub returns-then-member : goal.returns-then-member
returns-then-member g c = sym (c.loop.invariant.0 ∙ walk_here _ _ _ _ _ c.if-x-eq0.false (sym c.member.ensures ∙ c.if-member.true))

pub returns-then-n-x : goal.returns-then-n-x
returns-then-n-x g c = sym (c.loop.invariant.0 ∙ walk_gone _ _ _ _ _ _ (omega arith) c.if-x-eq0.false (sym c.member.ensures ∙ c.if-member.false) c.if-n-x.true)

pub loop-preserved : goal.loop-preserved
loop-preserved g c = (
  c.loop.invariant.0
      ∙ walk_on _ _ _ _ _ _ (omega arith) c.if-x-eq0.false (sym c.member.ensures ∙ c.if-member.false) (c.args.n - (c.loop.counter + 1)) (omega arith) c.if-n-x.false
      ∙ ap (walk _ _ _ _) (sym c.up_at-x.ensures),
  search rules,
)

pub returns-then-x-eq0-2 : goal.returns-then-x-eq0-2
returns-then-x-eq0-2 g c = c.any-then-x-eq0-2.ensures ∙ sym (c.loop.invariant.0 ∙ walk_zero _ _ _ _ _ c.if-x-eq0-2.true)

pub returns-else-x-eq0-2 : goal.returns-else-x-eq0-2
returns-else-x-eq0-2 g c = c.member-else-x-eq0-2.ensures ∙ sym (c.loop.invariant.0 ∙ walk_end _ _ _ _ _ (omega arith) c.if-x-eq0-2.false)
