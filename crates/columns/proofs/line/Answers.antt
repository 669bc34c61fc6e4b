use Rattle.output.specs.ColumnLaws.{columns}
use Rattle.columns.proofs.line.Goals as goal
use Rattle.columns.proofs.line.Goals.{then-used, else-used}

pub returns : goal.returns
unfolding columns
returns c =
    elim c.if-used.branch [
      | then-used w ↦ simp (w.y-is, w.if-used.true, ← c.digit.ensures, ← c.ones.ensures, ← c.digit-2.ensures, ← c.ones-2.ensures, ← c.digit-3.ensures, ← c.digit-4.ensures, ← c.ones-3.ensures)
      | else-used w ↦ simp (w.y-is, w.if-used.false, ← c.digit.ensures, ← c.ones.ensures, ← c.digit-2.ensures, ← c.ones-2.ensures, ← c.digit-3.ensures, ← c.digit-4.ensures, ← c.ones-3.ensures)
    ]
