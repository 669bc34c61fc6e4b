use mathlib.Core.Path.{refl, ◌∙◌}
use native.Mathlib.Omega.{arith}
use borrow.Author.Tests.{eq-eqb, ne_eqb, le-ltb}
use Rattle.machine.specs.Scheduled.{marked}
use Rattle.machine.proofs.Marks.{first_none, first_here, first_after}
use Rattle.machine.proofs.ahead.first.Goals as goal

pub loop-j-init : goal.loop-j-init
loop-j-init c = refl

pub bounds-live-j : goal.bounds-live-j
bounds-live-j c = omega arith

pub returns-then-live-j-eq1 : goal.returns-then-live-j-eq1
unfolding marked
returns-then-live-j-eq1 c =
    c.loop-j.invariant
    ∙ first_here (marked c.args.live.now) c.loop-j.j c.args.e
    c.loop-j-test.true (eq-eqb _ _ c.if-live-j-eq1.true)

pub loop-j-smaller : goal.loop-j-smaller
loop-j-smaller c = omega arith

pub loop-j-preserved : goal.loop-j-preserved
unfolding marked
loop-j-preserved c =
    c.loop-j.invariant
    ∙ first_after (marked c.args.live.now) c.loop-j.j c.args.e
    c.loop-j-test.true (ne_eqb _ _ c.if-live-j-eq1.false)

pub returns : goal.returns
returns c =
    c.loop-j.invariant
    ∙ first_none (marked c.args.live.now) c.loop-j.j c.args.e c.loop-j-test.false
    ∙ simp (le-ltb c.args.e c.args.e (omega arith))
