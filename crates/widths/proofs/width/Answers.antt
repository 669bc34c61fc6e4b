use borrow.Author.Rules.{rules}
use Rattle.syntax.proofs.WidthsExactly.{width_at}
use Rattle.widths.proofs.width.Goals as goal

pub returns : goal.returns
returns c = rw c.requires (width_at c.args.op (search rules))
