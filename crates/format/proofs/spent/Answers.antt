use mathlib.Core.List.{append_assoc}
use Rattle.output.specs.Lines.{line, space, w_spent, decimal}
use Rattle.format.specs.Text.{spent_as}
use Rattle.format.specs.Laws.{spent_length}
use Rattle.format.proofs.Whole.{first, more, whole}
use Rattle.format.proofs.spent.Goals as goal

pub returns : goal.returns
unfolding spent_as line space w_spent decimal
returns c = whole _ _ (spent_as _) (more _ _ _ _ (more _ _ _ _ (first _ _ _ c.empty.ensures c.put.ensures) c.decimal.ensures) c.push.ensures) (simp append_assoc) (spent_length _)
