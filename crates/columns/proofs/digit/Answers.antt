use Rattle.output.specs.ColumnLaws.{column}
use borrow.Author.Tests.{le-ltb, lt-ltb}
use Rattle.columns.proofs.digit.Goals as goal

pub returns-then-n-p : goal.returns-then-n-p
unfolding column
returns-then-n-p c = simp (lt-ltb _ _ c.if-n-p.true)

pub returns-else-n-p : goal.returns-else-n-p
unfolding column
returns-else-n-p c = simp (le-ltb _ _ c.if-n-p.false)
