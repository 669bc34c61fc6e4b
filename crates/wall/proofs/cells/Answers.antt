use native.Mathlib.Omega.{arith}
use Rattle.wall.proofs.Texts.{count_first, count_hit, count_miss, count_end}
use Rattle.wall.proofs.cells.Goals as goal
use Rattle.wall.proofs.cells.Goals.{then-carries, else-carries}

pub loop-v-init : goal.loop-v-init
loop-v-init c = count_first _ _ _ _

pub overflow_add-count : goal.overflow_add-count
overflow_add-count c = omega (arith, c.loop-v.invariant.few, c.loop-v-test.true)

pub loop-v-preserved : goal.loop-v-preserved
loop-v-preserved c =
    elim c.if-carries.branch [
      | then-carries w ↦ count_hit _ _ _ _ _ _ _ _ _ _ c.loop-v.invariant c.loop-v-test.true c.get_or-w.ensures c.get_or.ensures c.carries.ensures w.if-carries.true w.count-is
      | else-carries w ↦ count_miss _ _ _ _ _ _ _ _ _ _ c.loop-v.invariant c.loop-v-test.true c.get_or-w.ensures c.get_or.ensures c.carries.ensures w.if-carries.false w.count-is
    ]

pub returns : goal.returns
returns c = count_end _ _ _ _ _ _ c.loop-v.invariant (omega arith)
