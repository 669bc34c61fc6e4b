use mathlib.Core.List.{append_assoc}
use Rattle.output.specs.Lines.{refused_line, line, space, w_refused, w_at, decimal}
use Rattle.output.proofs.LineLaws.{refused_length}
use Rattle.format.proofs.Whole.{first, more, whole}
use Rattle.format.proofs.refused.Goals as goal

pub returns : goal.returns
unfolding refused_line line space w_refused w_at decimal
returns c = whole _ _ (refused_line _) (more _ _ _ _ (more _ _ _ _ (more _ _ _ _ (more _ _ _ _ (first _ _ _ c.empty.ensures c.put.ensures) (rw c.from.ensures at c.decimal-a.ensures)) c.put-2.ensures) c.decimal-b.ensures) c.push.ensures) (simp append_assoc) (refused_length _)
