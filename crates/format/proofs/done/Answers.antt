use mathlib.Core.List.{append_assoc}
use Rattle.output.specs.Lines.{line, space, w_done, decimal}
use Rattle.format.specs.Text.{done_as}
use Rattle.format.specs.Laws.{done_length}
use Rattle.format.proofs.Whole.{first, more, whole}
use Rattle.format.proofs.done.Goals as goal

pub returns : goal.returns
unfolding done_as line space w_done decimal
returns c = whole _ _ (done_as _ _ _) (more _ _ _ _ (more _ _ _ _ (more _ _ _ _ (more _ _ _ _ (first _ _ _ c.empty.ensures c.put.ensures) c.decimal-a.ensures) c.push.ensures) c.value.ensures) c.push-2.ensures) (simp append_assoc) (done_length _ _ _)
