use mathlib.Core.Path.{◌∙◌}
use Rattle.syntax.proofs.Context.{predecessor_minus}
use Rattle.table.proofs.last.Goals as goal

pub returns : goal.returns
returns c = c.saturating_sub.ensures ∙ predecessor_minus _
