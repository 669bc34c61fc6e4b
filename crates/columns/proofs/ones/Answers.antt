use Rattle.output.specs.ColumnLaws.{last}
use borrow.Author.Rules.{rules}
use Rattle.columns.proofs.ones.Goals as goal

pub returns : goal.returns
unfolding last
returns c = search rules
