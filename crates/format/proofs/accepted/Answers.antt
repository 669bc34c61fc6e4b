use mathlib.Core.List.{append_assoc}
use Rattle.output.specs.Lines.{line, space, w_accepted}
use Rattle.order.specs.Effects.{of_word}
use Rattle.format.specs.Text.{accepted_as}
use Rattle.format.specs.Laws.{accepted_length}
use Rattle.format.proofs.Whole.{first, more, whole}
use Rattle.format.proofs.accepted.Goals as goal

pub returns : goal.returns
unfolding accepted_as line space w_accepted
returns c = whole _ _ (accepted_as (of_word _) _) (more _ _ _ _ (more _ _ _ _ (more _ _ _ _ (more _ _ _ _ (first _ _ _ c.empty.ensures c.put.ensures) c.hex-a.ensures) c.push.ensures) c.word.ensures) c.push-2.ensures) (simp append_assoc) (accepted_length _ _)
