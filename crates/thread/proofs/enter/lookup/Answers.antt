use Rattle.std.proofs.Common.{arith, rules, sym, ◌∙◌, ◌-◌, ◌+◌}
use Rattle.thread.proofs.Seeks.{seek_none, seek_zero, seek_less, seek_out, seek_next}
use Rattle.thread.proofs.enter.lookup.Goals as goal
use Rattle.thread.proofs.enter.lookup.Goals.{then-p-eq0-via-then-p-eq0, then-p-eq0-via-else-p-eq0+then-n-p, then-p-eq0-via-else-p-eq0+else-n-p+then-p-gt-MOST_LINKS}

pub returns-then-p-eq0 : goal.returns-then-p-eq0
returns-then-p-eq0 c =
    elim c.then-p-eq0.branch [
      | then-p-eq0-via-then-p-eq0 w ↦ sym (c.loop.invariant.0 ∙ seek_zero _ _ _ _ w.if-p-eq0.true)
      | then-p-eq0-via-else-p-eq0+then-n-p w ↦ sym (c.loop.invariant.0 ∙ seek_less _ _ _ _ _ (omega arith) w.if-p-eq0.false w.if-n-p.true)
      | then-p-eq0-via-else-p-eq0+else-n-p+then-p-gt-MOST_LINKS w ↦ sym (c.loop.invariant.0 ∙ seek_out _ c.args.n _ _ c.args.x (omega arith) w.if-p-eq0.false w.if-p-gt-MOST_LINKS.true)
    ]

pub returns-in-Some : goal.returns-in-Some
returns-in-Some c = sym (c.loop.invariant.0 ∙ seek_next _ _ _ _ _ (omega arith) c.if-p-eq0.false (1024 - (c.loop.counter + 1)) (omega arith) c.if-n-p.false c.if-p-gt-MOST_LINKS.false c.binding_at-b.ensures ∙ c.bound_to.ensures _ ∙ simp c.in-Some.is)

pub loop-preserved : goal.loop-preserved
loop-preserved c = (c.loop.invariant.0 ∙ seek_next _ _ _ _ _ (omega arith) c.if-p-eq0.false (1024 - (c.loop.counter + 1)) (omega arith) c.if-n-p.false c.if-p-gt-MOST_LINKS.false c.binding_at-b.ensures ∙ c.bound_to.ensures _ ∙ simp c.in_default.is, search rules)

pub returns : goal.returns
returns c = sym (c.loop.invariant.0 ∙ seek_none _ _ _ _ (omega arith))
