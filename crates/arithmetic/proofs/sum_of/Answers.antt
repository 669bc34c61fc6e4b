use Rattle.semantics.specs.Step.{sum_n}
use Rattle.arithmetic.proofs.sum_of.Goals as goal

pub returns-then-is_sum : goal.returns-then-is_sum
unfolding sum_n
returns-then-is_sum c = rw c.if-is_sum.true c.saturating_add.ensures

pub returns-else-is_sum : goal.returns-else-is_sum
unfolding sum_n
returns-else-is_sum c = rw c.if-is_sum.false c.saturating_sub.ensures
