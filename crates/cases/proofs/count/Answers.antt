use Rattle.std.proofs.Common.{◌≡◌, false, sym}
use Rattle.cases.specs.Cases.{at_end}
use Rattle.cases.specs.Laws.{after_less}
use Rattle.cases.proofs.Counting.{loop_agree, loop_differ, loop_end}
use Rattle.cases.proofs.count.Goals as goal
use Rattle.cases.proofs.count.Goals.{then-agrees, else-agrees}

pub loop-left-smaller : goal.loop-left-smaller
loop-left-smaller c = rw c.after-left.ensures (after_less _ (sym c.loop-left-test.ensures))

pub loop-left-preserved : goal.loop-left-preserved
loop-left-preserved c =
    let goes : at_end c.loop-left.left.now ≡ false = sym c.loop-left-test.ensures in
    elim c.if-agrees.branch [
      | then-agrees w ↦ loop_agree _ _ _ c.loop-left.invariant goes c.after-left.ensures (sym w.if-agrees.ensures) w.agree-is w.differ-is
      | else-agrees w ↦ loop_differ _ _ _ c.loop-left.invariant goes c.after-left.ensures (sym w.if-agrees.ensures) w.agree-is w.differ-is
    ]

pub returns : goal.returns
returns c = loop_end c.loop-left.invariant (sym c.loop-left-test.ensures)
