use native.Mathlib.Omega.{arith}
use mathlib.Core.Path.{◌≡◌, refl, sym, ap, ◌∙◌}
use Prim.Native.Nat.{◌<◌}
use lib.ListN.{length}
use borrow.Author.Tests.{eqb-true, eqb-false}
use Rattle.std.specs.Prelude.{Ok}
use Rattle.job.proofs.Going.{loop_first, loop_short, small_counts, rest_less}
use Rattle.job.proofs.Turn.{goes_on, here_refused, here_ended, here_followed, go_on}
use Rattle.job.proofs.fill.Goals as goal

pub loop-left-init : goal.loop-left-init
loop-left-init c = record { loop = loop_first _ _ _ _ _ _ _ _ c.no_shape-g.ensures c.requires.slots_value c.requires.cleared; ancestors = c.ancestors-anc.ensures }

pub returns-then-left-eq1 : goal.returns-then-left-eq1
returns-then-left-eq1 c = here_ended c.loop-left.invariant (ap Ok (sym c.in-Last.is) ∙ sym c.in-Ok.ensures.0) c.if-left-eq1.true

pub returns-in-Last : goal.returns-in-Last
returns-in-Last c =
    let some : 0 < length c.loop-left.left.now = omega (arith, eqb-false _ _ (sym c.loop-left-test.ensures)) in
    here_followed c.loop-left.invariant some (ap Ok (sym c.in-Last.is) ∙ sym c.in-Ok.ensures.0) c.if-left-eq1.false

pub add-g-requires : goal.add-g-requires
add-g-requires c = small_counts c.loop-left.invariant.loop.going

pub loop-left-smaller : goal.loop-left-smaller
loop-left-smaller c =
    let some : 0 < length c.loop-left.left.now = omega (arith, eqb-false _ _ (sym c.loop-left-test.ensures)) in
    rest_less _ _ c.in-Ok.ensures.1 some

pub loop-left-preserved : goal.loop-left-preserved
loop-left-preserved c =
    let some : 0 < length c.loop-left.left.now = omega (arith, eqb-false _ _ (sym c.loop-left-test.ensures)) in
    rw (c.in-Ok.ensures.1, c.section-cur.ensures) (go_on c.loop-left.invariant some (sym c.in-Ok.ensures.0) (goes_on _ c.in_default.not-Last) c.add-g.ensures.counts c.add-g.ensures.tables c.add-g.ensures.ancestors)

pub returns-in-Err : goal.returns-in-Err
returns-in-Err c =
    let some : 0 < length c.loop-left.left.now = omega (arith, eqb-false _ _ (sym c.loop-left-test.ensures)) in
    here_refused c.loop-left.invariant some (sym c.in-Err.ensures) refl

pub returns : goal.returns
returns c = loop_short _ _ _ _ _ _ _ _ _ _ _ _ _ _ _ _ _ c.loop-left.invariant.loop (let none : length c.loop-left.left.now ≡ 0 = eqb-true _ _ (sym c.loop-left-test.ensures) in omega arith)
